-- The layout of statements and declarations of variables (ECMAScript, 14).
use Rattle.std.specs.Prelude.{ℕ, Bool, true, false, List, [], ◌∷◌, codes}
use Rattle.ecma_kind.specs.declared.kind.Kind.{Kind}
use Rattle.ecma_kind.specs.declared.kind.Kind.TheVariants.{BlockStmt, EmptyStmt, DebuggerStmt, ExprStmt, ReturnStmt, ThrowStmt, LabeledStmt, BreakStmt, ContinueStmt, IfStmt, SwitchStmt, SwitchCase, TryStmt, CatchClause, WhileStmt, DoWhileStmt, ForStmt, ForInStmt, ForOfStmt, VarDecl, VarDeclarator}
use Rattle.ecma_kind.specs.declared.operators.VarDeclKind.{VarDeclKind}
use Rattle.ecma_kind.specs.declared.operators.VarDeclKind.TheVariants.{Var, Let, Const}
use Rattle.ecma_print.specs.declared.place.Begins.TheVariants.{Anywhere, StatementStart}
use Rattle.ecma_print.specs.declared.place.Beside.TheVariants.{NoNeighbor}
use Rattle.ecma_print.specs.declared.place.Spot.{Spot}
use Rattle.ecma_print.specs.declared.place.Between.{Between}
use Rattle.ecma_print.specs.declared.place.Between.TheVariants.{Blank, Equals, Finally, Else, LineElse, Parentheses}
use Rattle.ecma_print.specs.declared.place.Place.{Place}
use Rattle.ecma_print.specs.declared.place.Place.TheVariants.{At, Within, Deeper, Block, Commas}
use Rattle.ecma_print.specs.Precedences as precedence
use Rattle.ecma_print.specs.Pieces.{Piece, nothing, say, ◌>>◌, new_line}
use Rattle.ecma_print.specs.Places.{alone, free, right, beginning}
use Rattle.ecma_print.specs.Laid.{Laid, is_absent, is_block}

-- an expression of a statement or a head, or a statement in a list
abbrev pub whole_place : Place
whole_place = At alone

-- after a blank, if it is there: an expression of a statement, or a body
abbrev pub behind : Place
behind = Within Blank alone

abbrev pub expression_statement : List Laid → Piece
expression_statement (expression ∷ []) = expression.at (At (beginning precedence.expression StatementStart false)) >> say (codes ";")
expression_statement children = nothing

abbrev pub block_statement : List Laid → Piece
block_statement (statements ∷ []) = statements.at Block
block_statement children = nothing

-- a word, what may stand after it, and the end of the statement
abbrev pub word_statement : List ℕ → List Laid → Piece
word_statement word (argument ∷ []) = say word >> argument.at behind >> say (codes ";")
word_statement word children = nothing

abbrev pub labeled : List Laid → Piece
labeled (label ∷ body ∷ []) = label.at whole_place >> say (codes ": ") >> body.at whole_place
labeled children = nothing

-- `else` stands on the line of `}`, or on a line of its own
abbrev pub else_behind : Bool → Between
else_behind true = Else
else_behind false = LineElse

abbrev pub if_statement : List Laid → Piece
if_statement (test ∷ body ∷ alternative ∷ []) = say (codes "if (") >> test.at whole_place >> say (codes ")") >> body.at behind >> alternative.at (Within (else_behind (is_block body.kind)) alone)
if_statement children = nothing

abbrev pub switch_statement : List Laid → Piece
switch_statement (discriminant ∷ cases ∷ []) = say (codes "switch (") >> discriminant.at whole_place >> say (codes ") ") >> cases.at Block
switch_statement children = nothing

abbrev pub case_word : Bool → List ℕ
case_word true = codes "default"
case_word false = codes "case "

abbrev pub switch_case : List Laid → Piece
switch_case (test ∷ statements ∷ []) = say (case_word (is_absent test.kind)) >> test.at whole_place >> say (codes ":") >> statements.at Deeper
switch_case children = nothing

abbrev pub try_statement : List Laid → Piece
try_statement (body ∷ handler ∷ finalizer ∷ []) = say (codes "try ") >> body.at whole_place >> handler.at behind >> finalizer.at (Within Finally alone)
try_statement children = nothing

abbrev pub catch_clause : List Laid → Piece
catch_clause (param ∷ body ∷ []) = say (codes "catch") >> param.at (Within Parentheses (free precedence.assignment)) >> body.at behind
catch_clause children = nothing

abbrev pub while_statement : List Laid → Piece
while_statement (test ∷ body ∷ []) = say (codes "while (") >> test.at whole_place >> say (codes ")") >> body.at behind
while_statement children = nothing

-- `while` stands on the line of `}`, or on a line of its own
abbrev pub behind_body : Bool → Piece
behind_body true = say (codes " ")
behind_body false = new_line

abbrev pub do_statement : List Laid → Piece
do_statement (test ∷ body ∷ []) = say (codes "do") >> body.at behind >> behind_body (is_block body.kind) >> say (codes "while (") >> test.at whole_place >> say (codes ");")
do_statement children = nothing

-- the first part of the head of a loop
abbrev pub head : Place
head = At (beginning precedence.expression Anywhere true)

abbrev pub for_statement : List Laid → Piece
for_statement (init ∷ test ∷ update ∷ body ∷ []) = say (codes "for (") >> init.at head >> say (codes ";") >> test.at behind >> say (codes ";") >> update.at behind >> say (codes ")") >> body.at behind
for_statement children = nothing

abbrev pub for_in : List Laid → Piece
for_in (target ∷ object ∷ body ∷ []) = say (codes "for (") >> target.at head >> say (codes " in ") >> object.at whole_place >> say (codes ")") >> body.at behind
for_in children = nothing

abbrev pub for_word : Bool → List ℕ
for_word true = codes "for await ("
for_word false = codes "for ("

abbrev pub for_of : Bool → List Laid → Piece
for_of is_await (target ∷ iterable ∷ body ∷ []) =
    say (for_word is_await) >> target.at head >> say (codes " of ") >> iterable.at (At (free precedence.assignment)) >> say (codes ")") >> body.at behind
for_of is_await children = nothing

-- the end of a statement; in the head of a loop there is none
abbrev pub statement_end : Bool → List ℕ
statement_end true = []
statement_end false = codes ";"

abbrev pub keyword : VarDeclKind → List ℕ
keyword Var = codes "var"
keyword Let = codes "let"
keyword Const = codes "const"

abbrev pub declaration : VarDeclKind → List Laid → Spot → Piece
declaration kind (declarators ∷ []) spot =
    say (keyword kind) >> say (codes " ") >> declarators.at (Commas (right spot precedence.assignment NoNeighbor)) >> say (statement_end spot.without_in)
declaration kind children spot = nothing

abbrev pub declarator : List Laid → Spot → Piece
declarator (name ∷ init ∷ []) spot = name.at (At (free precedence.assignment)) >> init.at (Within Equals (right spot precedence.assignment NoNeighbor))
declarator children spot = nothing

-- statements without loops; other nodes have no such text
abbrev pub statement : Kind → List Laid → Spot → Piece
statement ExprStmt children spot = expression_statement children
statement BlockStmt children spot = block_statement children
statement EmptyStmt children spot = say (codes ";")
statement DebuggerStmt children spot = say (codes "debugger;")
statement ReturnStmt children spot = word_statement (codes "return") children
statement ThrowStmt children spot = word_statement (codes "throw") children
statement BreakStmt children spot = word_statement (codes "break") children
statement ContinueStmt children spot = word_statement (codes "continue") children
statement LabeledStmt children spot = labeled children
statement (VarDecl kind declare) children spot = declaration kind children spot
statement (VarDeclarator definite) children spot = declarator children spot
statement kind children spot = nothing

-- choices, loops and `try`
abbrev pub control : Kind → List Laid → Piece
control IfStmt children = if_statement children
control SwitchStmt children = switch_statement children
control SwitchCase children = switch_case children
control TryStmt children = try_statement children
control CatchClause children = catch_clause children
control WhileStmt children = while_statement children
control DoWhileStmt children = do_statement children
control ForStmt children = for_statement children
control ForInStmt children = for_in children
control (ForOfStmt is_await) children = for_of is_await children
control kind children = nothing
