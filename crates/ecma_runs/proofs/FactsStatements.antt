-- Statements: each fact is a small module and what node observes of it, by computing. Written by compare/facts.mjs.
use Rattle.std.proofs.Common.{refl, pos, [], ◌∷◌, true, false, codes}
use Rattle.ecma_number.specs.declared.js_number.JsNumber.TheVariants as js_number
use Rattle.ecma_kind.specs.declared.kind.Kind.TheVariants as kind
use Rattle.ecma_kind.specs.declared.operators.AssignOp.TheVariants as assign
use Rattle.ecma_kind.specs.declared.operators.BinaryOp.TheVariants as binary
use Rattle.ecma_kind.specs.declared.operators.UnaryOp.TheVariants as unary
use Rattle.ecma_kind.specs.declared.operators.UpdateOp.TheVariants as update
use Rattle.ecma_kind.specs.declared.operators.VarDeclKind.TheVariants.{Var, Let, Const}
use Rattle.ecma_runs.specs.declared.observation.Event.TheVariants.{HostCall}
use Rattle.ecma_runs.specs.declared.observation.Ending.TheVariants as ending
use Rattle.ecma_runs.specs.declared.script.Answer.TheVariants.{Return}
use Rattle.ecma_runs.specs.declared.shown.ErrorKind.TheVariants as error
use Rattle.ecma_runs.specs.declared.shown.Shown.TheVariants as shown
use Rattle.ecma_runs.proofs.Trees.{End, ◌▸◌, tree, absent, list, ident, key, binding, whole, truth, string, null, member, call}
use Rattle.ecma_runs.proofs.Trees.{assign, unary, binary, parens, array, object, property, statement, block, returns, declare, declare_function, arrow, meaning_node}
use Rattle.ecma_runs.proofs.Scripts.{Does, does, nulls}

-- let n = true; while (n) { f(1); n = false; } try { throw 3; } catch (e) { f(e); } finally { f(4); }
has_loops_and_handlers :
    Does 9 nulls []
    (declare Let (codes "n") (truth true)
    ▸ tree kind.WhileStmt (ident (codes "n") ▸ block (statement (call (ident (codes "f")) (whole 1 ▸ End)) ▸ statement (assign (ident (codes "n")) (truth false)) ▸ End) ▸ End)
    ▸ tree kind.TryStmt (block (tree kind.ThrowStmt (whole 3 ▸ End) ▸ End) ▸ tree kind.CatchClause (binding (codes "e")
    ▸ block (statement (call (ident (codes "f")) (ident (codes "e") ▸ End)) ▸ End) ▸ End) ▸ block (statement (call (ident (codes "f")) (whole 4 ▸ End)) ▸ End) ▸ End)
    ▸ End)
    (HostCall 7 shown.Undefined (shown.Num (js_number.Whole (pos 1)) ∷ []) ∷ HostCall 7 shown.Undefined (shown.Num (js_number.Whole (pos 3)) ∷ [])
    ∷ HostCall 7 shown.Undefined (shown.Num (js_number.Whole (pos 4)) ∷ []) ∷ []) (ending.Done [])
has_loops_and_handlers = does refl (simp meaning_node refl)

-- let a = []; let h, k; for (let i = 0; i < 2; i++) { if (i) h = () => i; else k = () => i; } f(h(), k());
copies_the_variables_of_a_round :
    Does 9 nulls []
    (declare Let (codes "a") (array End)
    ▸ tree (kind.VarDecl Let false) (list (tree (kind.VarDeclarator false) (binding (codes "h") ▸ absent ▸ End) ▸ tree (kind.VarDeclarator false) (binding (codes "k") ▸ absent
    ▸ End) ▸ End) ▸ End)
    ▸ tree kind.ForStmt (declare Let (codes "i") (whole 0) ▸ binary binary.Lt (ident (codes "i")) (whole 2) ▸ tree (kind.UpdateExpr update.PlusPlus false) (ident (codes "i") ▸ End)
    ▸ block (tree kind.IfStmt (ident (codes "i") ▸ statement (assign (ident (codes "h")) (arrow End (ident (codes "i"))))
    ▸ statement (assign (ident (codes "k")) (arrow End (ident (codes "i")))) ▸ End) ▸ End) ▸ End)
    ▸ statement (call (ident (codes "f")) (call (ident (codes "h")) End ▸ call (ident (codes "k")) End ▸ End))
    ▸ End)
    (HostCall 7 shown.Undefined (shown.Num (js_number.Whole (pos 1)) ∷ shown.Num (js_number.Whole (pos 0)) ∷ []) ∷ []) (ending.Done [])
copies_the_variables_of_a_round = does refl (simp meaning_node refl)

-- for (let i = 0; i < 5; i++) { if (i == 1) continue; if (i == 3) break; f(i); }
breaks_and_continues :
    Does 9 nulls []
    (tree kind.ForStmt (declare Let (codes "i") (whole 0) ▸ binary binary.Lt (ident (codes "i")) (whole 5) ▸ tree (kind.UpdateExpr update.PlusPlus false) (ident (codes "i") ▸ End)
    ▸ block (tree kind.IfStmt (binary binary.EqEq (ident (codes "i")) (whole 1) ▸ tree kind.ContinueStmt (absent ▸ End) ▸ absent ▸ End)
    ▸ tree kind.IfStmt (binary binary.EqEq (ident (codes "i")) (whole 3) ▸ tree kind.BreakStmt (absent ▸ End) ▸ absent ▸ End)
    ▸ statement (call (ident (codes "f")) (ident (codes "i") ▸ End)) ▸ End) ▸ End)
    ▸ End)
    (HostCall 7 shown.Undefined (shown.Num (js_number.Whole (pos 0)) ∷ []) ∷ HostCall 7 shown.Undefined (shown.Num (js_number.Whole (pos 2)) ∷ []) ∷ []) (ending.Done [])
breaks_and_continues = does refl (simp meaning_node refl)

-- let i = 5; do { f(i); i++; if (i == 6) continue; } while (i < 7);
does_at_least_once :
    Does 9 nulls []
    (declare Let (codes "i") (whole 5)
    ▸ tree kind.DoWhileStmt (binary binary.Lt (ident (codes "i")) (whole 7) ▸ block (statement (call (ident (codes "f")) (ident (codes "i") ▸ End))
    ▸ statement (tree (kind.UpdateExpr update.PlusPlus false) (ident (codes "i") ▸ End)) ▸ tree kind.IfStmt (binary binary.EqEq (ident (codes "i")) (whole 6)
    ▸ tree kind.ContinueStmt (absent ▸ End) ▸ absent ▸ End) ▸ End) ▸ End)
    ▸ End)
    (HostCall 7 shown.Undefined (shown.Num (js_number.Whole (pos 5)) ∷ []) ∷ HostCall 7 shown.Undefined (shown.Num (js_number.Whole (pos 6)) ∷ []) ∷ []) (ending.Done [])
does_at_least_once = does refl (simp meaning_node refl)

-- for (var i = 0, h; i < 2; i++) { h ||= () => i; } f(h());
shares_var_among_rounds :
    Does 9 nulls []
    (tree kind.ForStmt (tree (kind.VarDecl Var false) (list (tree (kind.VarDeclarator false) (binding (codes "i") ▸ whole 0 ▸ End)
    ▸ tree (kind.VarDeclarator false) (binding (codes "h") ▸ absent ▸ End) ▸ End) ▸ End) ▸ binary binary.Lt (ident (codes "i")) (whole 2)
    ▸ tree (kind.UpdateExpr update.PlusPlus false) (ident (codes "i") ▸ End) ▸ block (statement (tree (kind.AssignExpr assign.OrAssign) (ident (codes "h")
    ▸ arrow End (ident (codes "i")) ▸ End)) ▸ End) ▸ End)
    ▸ statement (call (ident (codes "f")) (call (ident (codes "h")) End ▸ End))
    ▸ End)
    (HostCall 7 shown.Undefined (shown.Num (js_number.Whole (pos 2)) ∷ []) ∷ []) (ending.Done [])
shares_var_among_rounds = does refl (simp meaning_node refl)

-- while (true) f(1);
spends_a_turn_a_round :
    Does 2 nulls []
    (tree kind.WhileStmt (truth true ▸ statement (call (ident (codes "f")) (whole 1 ▸ End)) ▸ End)
    ▸ End)
    (HostCall 7 shown.Undefined (shown.Num (js_number.Whole (pos 1)) ∷ []) ∷ HostCall 7 shown.Undefined (shown.Num (js_number.Whole (pos 1)) ∷ []) ∷ []) (ending.TurnsSpent)
spends_a_turn_a_round = does refl (simp meaning_node refl)

-- let i = 0; while (i < 2) i++; f(i);
spends_no_turn_at_the_end :
    Does 2 nulls []
    (declare Let (codes "i") (whole 0)
    ▸ tree kind.WhileStmt (binary binary.Lt (ident (codes "i")) (whole 2) ▸ statement (tree (kind.UpdateExpr update.PlusPlus false) (ident (codes "i") ▸ End)) ▸ End)
    ▸ statement (call (ident (codes "f")) (ident (codes "i") ▸ End))
    ▸ End)
    (HostCall 7 shown.Undefined (shown.Num (js_number.Whole (pos 2)) ∷ []) ∷ []) (ending.Done [])
spends_no_turn_at_the_end = does refl (simp meaning_node refl)

-- if (0) f(1); else if ("a") f(2); else f(3);
chooses :
    Does 9 nulls []
    (tree kind.IfStmt (whole 0 ▸ statement (call (ident (codes "f")) (whole 1 ▸ End)) ▸ tree kind.IfStmt (string (codes "a") ▸ statement (call (ident (codes "f")) (whole 2 ▸ End))
    ▸ statement (call (ident (codes "f")) (whole 3 ▸ End)) ▸ End) ▸ End)
    ▸ End)
    (HostCall 7 shown.Undefined (shown.Num (js_number.Whole (pos 2)) ∷ []) ∷ []) (ending.Done [])
chooses = does refl (simp meaning_node refl)

-- function h() { try { return f(1); } finally { f(2); } } f(h());
returns_through_finally :
    Does 9 (Return (shown.Num (js_number.Whole (pos 5))) ∷ Return shown.Null ∷ Return shown.Null ∷ []) []
    (declare_function (codes "h") End (tree kind.TryStmt (block (returns (call (ident (codes "f")) (whole 1 ▸ End)) ▸ End) ▸ absent
    ▸ block (statement (call (ident (codes "f")) (whole 2 ▸ End)) ▸ End) ▸ End) ▸ End)
    ▸ statement (call (ident (codes "f")) (call (ident (codes "h")) End ▸ End))
    ▸ End)
    (HostCall 7 shown.Undefined (shown.Num (js_number.Whole (pos 1)) ∷ []) ∷ HostCall 7 shown.Undefined (shown.Num (js_number.Whole (pos 2)) ∷ [])
    ∷ HostCall 7 shown.Undefined (shown.Num (js_number.Whole (pos 5)) ∷ []) ∷ []) (ending.Done [])
returns_through_finally = does refl (simp meaning_node refl)

-- function h() { for (;;) { try { throw 1; } finally { break; } } return 2; } f(h());
overrides_by_finally :
    Does 9 nulls []
    (declare_function (codes "h") End (tree kind.ForStmt (absent ▸ absent ▸ absent ▸ block (tree kind.TryStmt (block (tree kind.ThrowStmt (whole 1 ▸ End) ▸ End) ▸ absent
    ▸ block (tree kind.BreakStmt (absent ▸ End) ▸ End) ▸ End) ▸ End) ▸ End) ▸ returns (whole 2) ▸ End)
    ▸ statement (call (ident (codes "f")) (call (ident (codes "h")) End ▸ End))
    ▸ End)
    (HostCall 7 shown.Undefined (shown.Num (js_number.Whole (pos 2)) ∷ []) ∷ []) (ending.Done [])
overrides_by_finally = does refl (simp meaning_node refl)

-- try { nothing; } catch { f(1); } try { f(2); } finally { f(3); }
catches_without_a_name :
    Does 9 nulls []
    (tree kind.TryStmt (block (statement (ident (codes "nothing")) ▸ End) ▸ tree kind.CatchClause (absent ▸ block (statement (call (ident (codes "f")) (whole 1 ▸ End)) ▸ End)
    ▸ End) ▸ absent ▸ End)
    ▸ tree kind.TryStmt (block (statement (call (ident (codes "f")) (whole 2 ▸ End)) ▸ End) ▸ absent ▸ block (statement (call (ident (codes "f")) (whole 3 ▸ End)) ▸ End) ▸ End)
    ▸ End)
    (HostCall 7 shown.Undefined (shown.Num (js_number.Whole (pos 1)) ∷ []) ∷ HostCall 7 shown.Undefined (shown.Num (js_number.Whole (pos 2)) ∷ [])
    ∷ HostCall 7 shown.Undefined (shown.Num (js_number.Whole (pos 3)) ∷ []) ∷ []) (ending.Done [])
catches_without_a_name = does refl (simp meaning_node refl)

-- try { throw { a: 1 }; } catch ({ a, b = a }) { f(a, b); }
catches_patterns :
    Does 9 nulls []
    (tree kind.TryStmt (block (tree kind.ThrowStmt (object (property (key (codes "a")) (whole 1) ▸ End) ▸ End) ▸ End)
    ▸ tree kind.CatchClause (tree (kind.ObjectPat false) (list (tree kind.AssignPatProp (binding (codes "a") ▸ absent ▸ End) ▸ tree kind.AssignPatProp (binding (codes "b")
    ▸ ident (codes "a") ▸ End) ▸ End) ▸ absent ▸ End) ▸ block (statement (call (ident (codes "f")) (ident (codes "a") ▸ ident (codes "b") ▸ End)) ▸ End) ▸ End) ▸ absent ▸ End)
    ▸ End)
    (HostCall 7 shown.Undefined (shown.Num (js_number.Whole (pos 1)) ∷ shown.Num (js_number.Whole (pos 1)) ∷ []) ∷ []) (ending.Done [])
catches_patterns = does refl (simp meaning_node refl)

-- f(1); throw { a: 1 };
throws_out_of_the_module :
    Does 9 nulls []
    (statement (call (ident (codes "f")) (whole 1 ▸ End))
    ▸ tree kind.ThrowStmt (object (property (key (codes "a")) (whole 1) ▸ End) ▸ End)
    ▸ End)
    (HostCall 7 shown.Undefined (shown.Num (js_number.Whole (pos 1)) ∷ []) ∷ []) (ending.Thrown (shown.Handle 0))
throws_out_of_the_module = does refl (simp meaning_node refl)

-- try { null.a; } catch (e) { f(e, e === 1, e == null, e ? 2 : 3); let d = e; throw d; }
has_errors_as_values :
    Does 9 nulls []
    (tree kind.TryStmt (block (statement (member null (codes "a")) ▸ End) ▸ tree kind.CatchClause (binding (codes "e")
    ▸ block (statement (call (ident (codes "f")) (ident (codes "e") ▸ binary binary.EqEqEq (ident (codes "e")) (whole 1) ▸ binary binary.EqEq (ident (codes "e")) null
    ▸ tree kind.CondExpr (ident (codes "e") ▸ whole 2 ▸ whole 3 ▸ End) ▸ End)) ▸ declare Let (codes "d") (ident (codes "e")) ▸ tree kind.ThrowStmt (ident (codes "d") ▸ End)
    ▸ End) ▸ End) ▸ absent ▸ End)
    ▸ End)
    (HostCall 7 shown.Undefined (shown.Error error.Kind ∷ shown.Bool false ∷ shown.Bool false ∷ shown.Num (js_number.Whole (pos 2)) ∷ [])
    ∷ []) (ending.Thrown (shown.Error error.Kind))
has_errors_as_values = does refl (simp meaning_node refl)

-- ; if (1); for (let i = 0; i < 1; i++); f(1);
has_empty_statements :
    Does 9 nulls []
    (tree kind.EmptyStmt End
    ▸ tree kind.IfStmt (whole 1 ▸ tree kind.EmptyStmt End ▸ absent ▸ End)
    ▸ tree kind.ForStmt (declare Let (codes "i") (whole 0) ▸ binary binary.Lt (ident (codes "i")) (whole 1) ▸ tree (kind.UpdateExpr update.PlusPlus false) (ident (codes "i") ▸ End)
    ▸ tree kind.EmptyStmt End ▸ End)
    ▸ statement (call (ident (codes "f")) (whole 1 ▸ End))
    ▸ End)
    (HostCall 7 shown.Undefined (shown.Num (js_number.Whole (pos 1)) ∷ []) ∷ []) (ending.Done [])
has_empty_statements = does refl (simp meaning_node refl)

-- let a = 1; { var b = a; const c = 2; f(b + c); } f(typeof d, b);
has_a_scope_a_block :
    Does 9 nulls []
    (declare Let (codes "a") (whole 1)
    ▸ block (declare Var (codes "b") (ident (codes "a")) ▸ declare Const (codes "c") (whole 2)
    ▸ statement (call (ident (codes "f")) (binary binary.Add (ident (codes "b")) (ident (codes "c")) ▸ End)) ▸ End)
    ▸ statement (call (ident (codes "f")) (unary unary.TypeOf (ident (codes "d")) ▸ ident (codes "b") ▸ End))
    ▸ End)
    (HostCall 7 shown.Undefined (shown.Num (js_number.Whole (pos 3)) ∷ []) ∷ HostCall 7 shown.Undefined (shown.Text (codes "undefined") ∷ shown.Num (js_number.Whole (pos 1)) ∷ [])
    ∷ []) (ending.Done [])
has_a_scope_a_block = does refl (simp meaning_node refl)

-- for (let i = i; ; ) {}
reads_a_variable_of_a_for_before :
    Does 9 nulls []
    (tree kind.ForStmt (declare Let (codes "i") (ident (codes "i")) ▸ absent ▸ absent ▸ block End ▸ End)
    ▸ End)
    [] (ending.Thrown (shown.Error error.Reference))
reads_a_variable_of_a_for_before = does refl (simp meaning_node refl)

-- let h; for (let i = 0, k = (h = () => i); i < 2; i++); f(h());
closes_over_the_head_of_a_for :
    Does 9 nulls []
    (declare Let (codes "h") absent
    ▸ tree kind.ForStmt (tree (kind.VarDecl Let false) (list (tree (kind.VarDeclarator false) (binding (codes "i") ▸ whole 0 ▸ End)
    ▸ tree (kind.VarDeclarator false) (binding (codes "k") ▸ parens (assign (ident (codes "h")) (arrow End (ident (codes "i")))) ▸ End) ▸ End) ▸ End)
    ▸ binary binary.Lt (ident (codes "i")) (whole 2) ▸ tree (kind.UpdateExpr update.PlusPlus false) (ident (codes "i") ▸ End) ▸ tree kind.EmptyStmt End ▸ End)
    ▸ statement (call (ident (codes "f")) (call (ident (codes "h")) End ▸ End))
    ▸ End)
    (HostCall 7 shown.Undefined (shown.Num (js_number.Whole (pos 0)) ∷ []) ∷ []) (ending.Done [])
closes_over_the_head_of_a_for = does refl (simp meaning_node refl)

-- for (const i = 0; i < 2; i++) f(i);
writes_no_constant_of_a_for :
    Does 9 nulls []
    (tree kind.ForStmt (declare Const (codes "i") (whole 0) ▸ binary binary.Lt (ident (codes "i")) (whole 2) ▸ tree (kind.UpdateExpr update.PlusPlus false) (ident (codes "i")
    ▸ End) ▸ statement (call (ident (codes "f")) (ident (codes "i") ▸ End)) ▸ End)
    ▸ End)
    (HostCall 7 shown.Undefined (shown.Num (js_number.Whole (pos 0)) ∷ []) ∷ []) (ending.Thrown (shown.Error error.Kind))
writes_no_constant_of_a_for = does refl (simp meaning_node refl)

-- for (f(1); f(2); f(3)) f(4);
evaluates_loops_in_order :
    Does 9 (Return shown.Null ∷ Return (shown.Bool true) ∷ Return shown.Null ∷ Return shown.Null ∷ Return (shown.Num (js_number.Whole (pos 0))) ∷ []) []
    (tree kind.ForStmt (call (ident (codes "f")) (whole 1 ▸ End) ▸ call (ident (codes "f")) (whole 2 ▸ End) ▸ call (ident (codes "f")) (whole 3 ▸ End)
    ▸ statement (call (ident (codes "f")) (whole 4 ▸ End)) ▸ End)
    ▸ End)
    (HostCall 7 shown.Undefined (shown.Num (js_number.Whole (pos 1)) ∷ []) ∷ HostCall 7 shown.Undefined (shown.Num (js_number.Whole (pos 2)) ∷ [])
    ∷ HostCall 7 shown.Undefined (shown.Num (js_number.Whole (pos 4)) ∷ []) ∷ HostCall 7 shown.Undefined (shown.Num (js_number.Whole (pos 3)) ∷ [])
    ∷ HostCall 7 shown.Undefined (shown.Num (js_number.Whole (pos 2)) ∷ []) ∷ []) (ending.Done [])
evaluates_loops_in_order = does refl (simp meaning_node refl)

-- debugger; f(1); if (f(2)) debugger; else debugger; f(3);
does_nothing_where_a_debugger_may_stop :
    Does 9 nulls []
    (tree kind.DebuggerStmt End
    ▸ statement (call (ident (codes "f")) (whole 1 ▸ End))
    ▸ tree kind.IfStmt (call (ident (codes "f")) (whole 2 ▸ End) ▸ tree kind.DebuggerStmt End ▸ tree kind.DebuggerStmt End ▸ End)
    ▸ statement (call (ident (codes "f")) (whole 3 ▸ End))
    ▸ End)
    (HostCall 7 shown.Undefined (shown.Num (js_number.Whole (pos 1)) ∷ []) ∷ HostCall 7 shown.Undefined (shown.Num (js_number.Whole (pos 2)) ∷ [])
    ∷ HostCall 7 shown.Undefined (shown.Num (js_number.Whole (pos 3)) ∷ []) ∷ []) (ending.Done [])
does_nothing_where_a_debugger_may_stop = does refl (simp meaning_node refl)
