-- Statements (ECMAScript, 14).
use Rattle.std.specs.Prelude.{true, false, codes}
use Rattle.ecma_grammar.specs.Grammar.{Grammar, nothing, same_line, put, ◌▸◌, ◌//◌, many, unless, build, word, punct, optional, maybe, node, item, list}
use Rattle.ecma_grammar.specs.declared.production.Flag.TheVariants.{Absent}
use Rattle.ecma_grammar.specs.declared.production.Plain.TheVariants as plain
use Rattle.ecma_grammar.specs.declared.production.Form.TheVariants as form
use Rattle.ecma_grammar.specs.productions.Names.{pattern, assign, statement, expression, end, ident, block}
use Rattle.ecma_grammar.specs.productions.Types.{annotation}
use Rattle.ecma_grammar.specs.productions.Declarations.{variables, declaration}

-- '(' Expr ')'
--   while (a, b) c;
--   while () a;   // refused
unfoldable pub in_parentheses : Grammar
in_parentheses = punct (codes "(") ▸ expression false ▸ punct (codes ")")

--   if (a) b; else c;
--   if (a) b else c;   // refused
unfoldable pub if_ : Grammar
if_ = node plain.IfStmt (word (codes "if") ▸ in_parentheses ▸ statement ▸ maybe (word (codes "else") ▸ statement))

-- Var.N / Expr.N
--   for (let a of b);
--   for (a.b in c);
unfoldable pub for_left : Grammar
for_left = variables true nothing // expression true

--   for await (let a of b);
--   for await (let a in b);   // refused
unfoldable pub for_await : Grammar
for_await =
    node (plain.ForOfStmt true)
    (word (codes "for") ▸ word (codes "await") ▸ punct (codes "(") ▸ for_left ▸ word (codes "of") ▸ assign ▸ punct (codes ")") ▸ statement)

-- Rest = Expr? ';' Expr?
--   for (;;) f();
--   for (; a) f();   // refused
unfoldable pub for_rest : Grammar
for_rest = punct (codes ";") ▸ maybe (expression false) ▸ punct (codes ";") ▸ maybe (expression false)

-- Head = ';' Rest / (Var.N / Expr.N) (';' Rest / 'in' Expr / 'of' Assign)
--   for (let a = 0; a < b; a++); for (let a in b, c);
--   for (let a of b, c);   // refused
unfoldable pub for_head : Grammar
for_head =
    node plain.ForStmt (put Absent ▸ for_rest)
    // build form.Chain
    (for_left
    ▸ (item plain.ForStmt for_rest // item plain.ForInStmt (word (codes "in") ▸ expression false) // item (plain.ForOfStmt false) (word (codes "of") ▸ assign)))

--   for (let a of b) c;
--   for (let a of b)   // refused
unfoldable pub for_ : Grammar
for_ = build form.Headed (word (codes "for") ▸ punct (codes "(") ▸ for_head ▸ punct (codes ")") ▸ statement)

--   while (a) b;
--   while a b;   // refused
unfoldable pub while_ : Grammar
while_ = node plain.WhileStmt (word (codes "while") ▸ in_parentheses ▸ statement)

--   do a; while (b);
--   do a; while (b) c;   // the semicolon may be missing also before c
unfoldable pub do_while : Grammar
do_while = build (form.Swapped plain.DoWhileStmt) (word (codes "do") ▸ statement ▸ word (codes "while") ▸ in_parentheses ▸ optional (punct (codes ";")))

-- ('case' Expr / 'default') ':' Stmt*
--   switch (a) { case 1: b; default: c; }
--   switch (a) { case 1 b; }   // refused
unfoldable pub switch_case : Grammar
switch_case = node plain.SwitchCase ((word (codes "case") ▸ expression false // word (codes "default") ▸ put Absent) ▸ punct (codes ":") ▸ list (many statement))

--   switch (a) { }
--   switch (a) { b; }   // refused
unfoldable pub switch : Grammar
switch = node plain.SwitchStmt (word (codes "switch") ▸ in_parentheses ▸ punct (codes "{") ▸ list (many switch_case) ▸ punct (codes "}"))

-- 'catch' ('(' Pattern [Ann] ')')? Block
--   try { } catch (a) { }
--   try { } catch { }
unfoldable pub catch_clause : Grammar
catch_clause =
    node plain.CatchClause
    (word (codes "catch")
    ▸ maybe (punct (codes "(") ▸ build form.Annotated (pattern ▸ put Absent ▸ annotation) ▸ punct (codes ")")) ▸ block)

--   try { } catch { } finally { }
--   try { }   // refused
unfoldable pub try_ : Grammar
try_ =
    node plain.TryStmt
    (word (codes "try") ▸ block
    ▸ (catch_clause ▸ maybe (word (codes "finally") ▸ block) // put Absent ▸ word (codes "finally") ▸ block))

--   for (;;) { if (a) break; else continue; }
--   throw;   // refused
unfoldable pub jump : Grammar
jump =
    node plain.ReturnStmt (word (codes "return") ▸ maybe (same_line ▸ expression false) ▸ end)
    // node plain.BreakStmt (word (codes "break") ▸ maybe (same_line ▸ ident) ▸ end)
    // node plain.ContinueStmt (word (codes "continue") ▸ maybe (same_line ▸ ident) ▸ end)
    // node plain.ThrowStmt (word (codes "throw") ▸ same_line ▸ expression false ▸ end)
    // node plain.DebuggerStmt (word (codes "debugger") ▸ end)

--   a: for (;;) break a;
--   a: ;
unfoldable pub labeled : Grammar
labeled = node plain.LabeledStmt (ident ▸ punct (codes ":") ▸ statement)

-- !('{' / 'function' / 'class' / 'async' ~'function') Expr End
--   a = b; (function () { });
--   function () { };   // refused
unfoldable pub expression_statement : Grammar
expression_statement =
    node plain.ExprStmt
    (unless (punct (codes "{") // word (codes "function") // word (codes "class") // word (codes "async") ▸ same_line ▸ word (codes "function"))
    ▸ expression false ▸ end)

-- Stmt
--   { a; } ; if (b) c; let d;
unfoldable pub statement_body : Grammar
statement_body =
    block // node plain.EmptyStmt (punct (codes ";")) // if_ // for_await // for_ // while_ // do_while // switch // try_ // jump
    // labeled // declaration // expression_statement
