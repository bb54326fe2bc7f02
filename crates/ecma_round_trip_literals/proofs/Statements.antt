-- Statements are laid out alike.
use Rattle.std.proofs.Common.{◌≡◌, refl, ℕ, List, [], ◌∷◌, map, Bool, codes}
use Rattle.ecma_kind.specs.declared.kind.Kind.{Kind}
use Rattle.ecma_kind.specs.declared.kind.Kind.TheVariants as kind
use Rattle.ecma_print.specs.Laid.{Laid}
use Rattle.ecma_print.specs.declared.place.Spot.{Spot}
use Rattle.ecma_print.specs.declared.place.Place.TheVariants as place
use Rattle.ecma_print.specs.Pieces.{say, ◌>>◌}
use Rattle.ecma_print.specs.Places.{free}
use Rattle.ecma_round_trip_literals.specs.Sources.{with_source}
use Rattle.ecma_round_trip_literals.proofs.Telling.{is_absent_told, is_block_told, told}
use Rattle.ecma_kind.specs.declared.operators.VarDeclKind.{VarDeclKind}
use Rattle.ecma_print.specs.Statements.{whole_place, behind, expression_statement, block_statement, word_statement, labeled, else_behind, if_statement, switch_statement, case_word, switch_case, try_statement, catch_clause, while_statement, behind_body, do_statement, for_statement, for_in, for_of, declaration, declarator, statement, control}

expression_statement_told : (children : List Laid) → expression_statement (map told children) ≡ expression_statement children
expression_statement_told [] = refl
expression_statement_told (a ∷ []) = refl
expression_statement_told (a ∷ b ∷ more) = refl

block_statement_told : (children : List Laid) → block_statement (map told children) ≡ block_statement children
block_statement_told [] = refl
block_statement_told (a ∷ []) = refl
block_statement_told (a ∷ b ∷ more) = refl

word_statement_told : (word : List ℕ) (children : List Laid) → word_statement word (map told children) ≡ word_statement word children
word_statement_told word [] = refl
word_statement_told word (a ∷ []) = refl
word_statement_told word (a ∷ b ∷ more) = refl

labeled_told : (children : List Laid) → labeled (map told children) ≡ labeled children
labeled_told [] = refl
labeled_told (a ∷ []) = refl
labeled_told (a ∷ b ∷ []) = refl
labeled_told (a ∷ b ∷ c ∷ more) = refl

if_statement_told : (children : List Laid) → if_statement (map told children) ≡ if_statement children
if_statement_told [] = refl
if_statement_told (a ∷ []) = refl
if_statement_told (a ∷ b ∷ []) = refl
if_statement_told (a ∷ b ∷ c ∷ []) = λ i. say (codes "if (") >> a.at whole_place >> say (codes ")") >> b.at behind >> c.at (place.Within (else_behind (is_block_told b.kind i)) (free 0))
if_statement_told (a ∷ b ∷ c ∷ d ∷ more) = refl

switch_statement_told : (children : List Laid) → switch_statement (map told children) ≡ switch_statement children
switch_statement_told [] = refl
switch_statement_told (a ∷ []) = refl
switch_statement_told (a ∷ b ∷ []) = refl
switch_statement_told (a ∷ b ∷ c ∷ more) = refl

switch_case_told : (children : List Laid) → switch_case (map told children) ≡ switch_case children
switch_case_told [] = refl
switch_case_told (a ∷ []) = refl
switch_case_told (a ∷ b ∷ []) = λ i. say (case_word (is_absent_told a.kind i)) >> a.at whole_place >> say (codes ":") >> b.at place.Deeper
switch_case_told (a ∷ b ∷ c ∷ more) = refl

try_statement_told : (children : List Laid) → try_statement (map told children) ≡ try_statement children
try_statement_told [] = refl
try_statement_told (a ∷ []) = refl
try_statement_told (a ∷ b ∷ []) = refl
try_statement_told (a ∷ b ∷ c ∷ []) = refl
try_statement_told (a ∷ b ∷ c ∷ d ∷ more) = refl

catch_clause_told : (children : List Laid) → catch_clause (map told children) ≡ catch_clause children
catch_clause_told [] = refl
catch_clause_told (a ∷ []) = refl
catch_clause_told (a ∷ b ∷ []) = refl
catch_clause_told (a ∷ b ∷ c ∷ more) = refl

while_statement_told : (children : List Laid) → while_statement (map told children) ≡ while_statement children
while_statement_told [] = refl
while_statement_told (a ∷ []) = refl
while_statement_told (a ∷ b ∷ []) = refl
while_statement_told (a ∷ b ∷ c ∷ more) = refl

do_statement_told : (children : List Laid) → do_statement (map told children) ≡ do_statement children
do_statement_told [] = refl
do_statement_told (a ∷ []) = refl
do_statement_told (a ∷ b ∷ []) = λ i. say (codes "do") >> b.at behind >> behind_body (is_block_told b.kind i) >> say (codes "while (") >> a.at whole_place >> say (codes ");")
do_statement_told (a ∷ b ∷ c ∷ more) = refl

for_statement_told : (children : List Laid) → for_statement (map told children) ≡ for_statement children
for_statement_told [] = refl
for_statement_told (a ∷ []) = refl
for_statement_told (a ∷ b ∷ []) = refl
for_statement_told (a ∷ b ∷ c ∷ []) = refl
for_statement_told (a ∷ b ∷ c ∷ d ∷ []) = refl
for_statement_told (a ∷ b ∷ c ∷ d ∷ e ∷ more) = refl

for_in_told : (children : List Laid) → for_in (map told children) ≡ for_in children
for_in_told [] = refl
for_in_told (a ∷ []) = refl
for_in_told (a ∷ b ∷ []) = refl
for_in_told (a ∷ b ∷ c ∷ []) = refl
for_in_told (a ∷ b ∷ c ∷ d ∷ more) = refl

for_of_told : (is_await : Bool) (children : List Laid) → for_of is_await (map told children) ≡ for_of is_await children
for_of_told is_await [] = refl
for_of_told is_await (a ∷ []) = refl
for_of_told is_await (a ∷ b ∷ []) = refl
for_of_told is_await (a ∷ b ∷ c ∷ []) = refl
for_of_told is_await (a ∷ b ∷ c ∷ d ∷ more) = refl

declaration_told : (k : VarDeclKind) (children : List Laid) (spot : Spot) → declaration k (map told children) spot ≡ declaration k children spot
declaration_told k [] spot = refl
declaration_told k (a ∷ []) spot = refl
declaration_told k (a ∷ b ∷ more) spot = refl

declarator_told : (children : List Laid) (spot : Spot) → declarator (map told children) spot ≡ declarator children spot
declarator_told [] spot = refl
declarator_told (a ∷ []) spot = refl
declarator_told (a ∷ b ∷ []) spot = refl
declarator_told (a ∷ b ∷ c ∷ more) spot = refl

pub statement_told : (k : Kind) (children : List Laid) (spot : Spot) → statement (with_source k) (map told children) spot ≡ statement k children spot
statement_told kind.ExprStmt children spot = expression_statement_told children
statement_told kind.BlockStmt children spot = block_statement_told children
statement_told kind.ReturnStmt children spot = word_statement_told (codes "return") children
statement_told kind.ThrowStmt children spot = word_statement_told (codes "throw") children
statement_told kind.BreakStmt children spot = word_statement_told (codes "break") children
statement_told kind.ContinueStmt children spot = word_statement_told (codes "continue") children
statement_told kind.LabeledStmt children spot = labeled_told children
statement_told (kind.VarDecl k declare) children spot = declaration_told k children spot
statement_told (kind.VarDeclarator definite) children spot = declarator_told children spot
statement_told _ children spot = refl

pub control_told : (k : Kind) (children : List Laid) → control (with_source k) (map told children) ≡ control k children
control_told kind.IfStmt children = if_statement_told children
control_told kind.SwitchStmt children = switch_statement_told children
control_told kind.SwitchCase children = switch_case_told children
control_told kind.TryStmt children = try_statement_told children
control_told kind.CatchClause children = catch_clause_told children
control_told kind.WhileStmt children = while_statement_told children
control_told kind.DoWhileStmt children = do_statement_told children
control_told kind.ForStmt children = for_statement_told children
control_told kind.ForInStmt children = for_in_told children
control_told (kind.ForOfStmt is_await) children = for_of_told is_await children
control_told _ children = refl
