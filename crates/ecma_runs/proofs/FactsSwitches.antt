-- Switches: each fact is a small module and what node observes of it, by computing. Written by compare/facts.mjs.
use Rattle.std.proofs.Common.{refl, pos, [], ◌∷◌, false, codes}
use Rattle.ecma_number.specs.declared.js_number.JsNumber.TheVariants as js_number
use Rattle.ecma_kind.specs.declared.kind.Kind.TheVariants as kind
use Rattle.ecma_kind.specs.declared.operators.BinaryOp.TheVariants as binary
use Rattle.ecma_kind.specs.declared.operators.MethodKind.TheVariants as method
use Rattle.ecma_kind.specs.declared.operators.UnaryOp.TheVariants as unary
use Rattle.ecma_kind.specs.declared.operators.UpdateOp.TheVariants as update
use Rattle.ecma_kind.specs.declared.operators.VarDeclKind.TheVariants.{Var, Let}
use Rattle.ecma_runs.specs.declared.observation.Event.TheVariants.{HostCall}
use Rattle.ecma_runs.specs.declared.observation.Ending.TheVariants as ending
use Rattle.ecma_runs.specs.declared.script.Answer.TheVariants.{Return}
use Rattle.ecma_runs.specs.declared.shown.ErrorKind.TheVariants as error
use Rattle.ecma_runs.specs.declared.shown.Shown.TheVariants as shown
use Rattle.ecma_runs.proofs.Trees.{End, ◌▸◌, tree, absent, list, ident, key, binding, whole, string, null, member, call, new'}
use Rattle.ecma_runs.proofs.Trees.{assign, unary, binary, object, statement, block, returns, declare, parameter, declare_function, arrow, class_method, declare_class, meaning_node}
use Rattle.ecma_runs.proofs.Scripts.{Does, does, nulls}

-- switch (f(1)) { case f(2): f(3); case f(4): f(5); break; case f(6): f(7); }
runs_from_the_case_that_is_selected :
    Does 9 nulls []
    (tree kind.SwitchStmt (call (ident (codes "f")) (whole 1 ▸ End) ▸ list (tree kind.SwitchCase (call (ident (codes "f")) (whole 2 ▸ End)
    ▸ list (statement (call (ident (codes "f")) (whole 3 ▸ End)) ▸ End) ▸ End) ▸ tree kind.SwitchCase (call (ident (codes "f")) (whole 4 ▸ End)
    ▸ list (statement (call (ident (codes "f")) (whole 5 ▸ End)) ▸ tree kind.BreakStmt (absent ▸ End) ▸ End) ▸ End) ▸ tree kind.SwitchCase (call (ident (codes "f")) (whole 6
    ▸ End) ▸ list (statement (call (ident (codes "f")) (whole 7 ▸ End)) ▸ End) ▸ End) ▸ End) ▸ End)
    ▸ End)
    (HostCall 7 shown.Undefined (shown.Num (js_number.Whole (pos 1)) ∷ []) ∷ HostCall 7 shown.Undefined (shown.Num (js_number.Whole (pos 2)) ∷ [])
    ∷ HostCall 7 shown.Undefined (shown.Num (js_number.Whole (pos 3)) ∷ []) ∷ HostCall 7 shown.Undefined (shown.Num (js_number.Whole (pos 5)) ∷ []) ∷ []) (ending.Done [])
runs_from_the_case_that_is_selected = does refl (simp meaning_node refl)

-- switch (2) { case f(1): f(4); case f(2): f(5); case f(3): f(6); }
evaluates_tests_in_order :
    Does 9 (Return (shown.Num (js_number.Whole (pos 1))) ∷ Return (shown.Num (js_number.Whole (pos 2))) ∷ Return shown.Null ∷ Return shown.Null ∷ []) []
    (tree kind.SwitchStmt (whole 2 ▸ list (tree kind.SwitchCase (call (ident (codes "f")) (whole 1 ▸ End) ▸ list (statement (call (ident (codes "f")) (whole 4 ▸ End)) ▸ End) ▸ End)
    ▸ tree kind.SwitchCase (call (ident (codes "f")) (whole 2 ▸ End) ▸ list (statement (call (ident (codes "f")) (whole 5 ▸ End)) ▸ End) ▸ End)
    ▸ tree kind.SwitchCase (call (ident (codes "f")) (whole 3 ▸ End) ▸ list (statement (call (ident (codes "f")) (whole 6 ▸ End)) ▸ End) ▸ End) ▸ End) ▸ End)
    ▸ End)
    (HostCall 7 shown.Undefined (shown.Num (js_number.Whole (pos 1)) ∷ []) ∷ HostCall 7 shown.Undefined (shown.Num (js_number.Whole (pos 2)) ∷ [])
    ∷ HostCall 7 shown.Undefined (shown.Num (js_number.Whole (pos 5)) ∷ []) ∷ HostCall 7 shown.Undefined (shown.Num (js_number.Whole (pos 6)) ∷ []) ∷ []) (ending.Done [])
evaluates_tests_in_order = does refl (simp meaning_node refl)

-- switch (f(0)) { case f(1): f(2); default: f(3); case f(4): f(5); break; case 6: f(7); }
runs_from_the_default_where_no_case_is_selected :
    Does 9 (Return (shown.Num (js_number.Whole (pos 8))) ∷ Return (shown.Num (js_number.Whole (pos 1))) ∷ Return (shown.Num (js_number.Whole (pos 2)))
    ∷ Return (shown.Num (js_number.Whole (pos 3))) ∷ Return (shown.Num (js_number.Whole (pos 4))) ∷ []) []
    (tree kind.SwitchStmt (call (ident (codes "f")) (whole 0 ▸ End) ▸ list (tree kind.SwitchCase (call (ident (codes "f")) (whole 1 ▸ End)
    ▸ list (statement (call (ident (codes "f")) (whole 2 ▸ End)) ▸ End) ▸ End) ▸ tree kind.SwitchCase (absent ▸ list (statement (call (ident (codes "f")) (whole 3 ▸ End)) ▸ End)
    ▸ End) ▸ tree kind.SwitchCase (call (ident (codes "f")) (whole 4 ▸ End) ▸ list (statement (call (ident (codes "f")) (whole 5 ▸ End)) ▸ tree kind.BreakStmt (absent ▸ End)
    ▸ End) ▸ End) ▸ tree kind.SwitchCase (whole 6 ▸ list (statement (call (ident (codes "f")) (whole 7 ▸ End)) ▸ End) ▸ End) ▸ End) ▸ End)
    ▸ End)
    (HostCall 7 shown.Undefined (shown.Num (js_number.Whole (pos 0)) ∷ []) ∷ HostCall 7 shown.Undefined (shown.Num (js_number.Whole (pos 1)) ∷ [])
    ∷ HostCall 7 shown.Undefined (shown.Num (js_number.Whole (pos 4)) ∷ []) ∷ HostCall 7 shown.Undefined (shown.Num (js_number.Whole (pos 3)) ∷ [])
    ∷ HostCall 7 shown.Undefined (shown.Num (js_number.Whole (pos 5)) ∷ []) ∷ []) (ending.Done [])
runs_from_the_default_where_no_case_is_selected = does refl (simp meaning_node refl)

-- switch (1) { default: f(1); case f(2): f(3); break; case 1: f(4); }
asks_cases_behind_the_default_first :
    Does 9 nulls []
    (tree kind.SwitchStmt (whole 1 ▸ list (tree kind.SwitchCase (absent ▸ list (statement (call (ident (codes "f")) (whole 1 ▸ End)) ▸ End) ▸ End)
    ▸ tree kind.SwitchCase (call (ident (codes "f")) (whole 2 ▸ End) ▸ list (statement (call (ident (codes "f")) (whole 3 ▸ End)) ▸ tree kind.BreakStmt (absent ▸ End) ▸ End)
    ▸ End) ▸ tree kind.SwitchCase (whole 1 ▸ list (statement (call (ident (codes "f")) (whole 4 ▸ End)) ▸ End) ▸ End) ▸ End) ▸ End)
    ▸ End)
    (HostCall 7 shown.Undefined (shown.Num (js_number.Whole (pos 2)) ∷ []) ∷ HostCall 7 shown.Undefined (shown.Num (js_number.Whole (pos 4)) ∷ []) ∷ []) (ending.Done [])
asks_cases_behind_the_default_first = does refl (simp meaning_node refl)

-- switch (2) { case 1: f(1); case 2: f(2); default: f(3); case 4: f(4); break; case 5: f(5); }
falls_through_into_the_default :
    Does 9 nulls []
    (tree kind.SwitchStmt (whole 2 ▸ list (tree kind.SwitchCase (whole 1 ▸ list (statement (call (ident (codes "f")) (whole 1 ▸ End)) ▸ End) ▸ End) ▸ tree kind.SwitchCase (whole 2
    ▸ list (statement (call (ident (codes "f")) (whole 2 ▸ End)) ▸ End) ▸ End) ▸ tree kind.SwitchCase (absent ▸ list (statement (call (ident (codes "f")) (whole 3 ▸ End)) ▸ End)
    ▸ End) ▸ tree kind.SwitchCase (whole 4 ▸ list (statement (call (ident (codes "f")) (whole 4 ▸ End)) ▸ tree kind.BreakStmt (absent ▸ End) ▸ End) ▸ End)
    ▸ tree kind.SwitchCase (whole 5 ▸ list (statement (call (ident (codes "f")) (whole 5 ▸ End)) ▸ End) ▸ End) ▸ End) ▸ End)
    ▸ End)
    (HostCall 7 shown.Undefined (shown.Num (js_number.Whole (pos 2)) ∷ []) ∷ HostCall 7 shown.Undefined (shown.Num (js_number.Whole (pos 3)) ∷ [])
    ∷ HostCall 7 shown.Undefined (shown.Num (js_number.Whole (pos 4)) ∷ []) ∷ []) (ending.Done [])
falls_through_into_the_default = does refl (simp meaning_node refl)

-- switch (f(1)) {} switch (f(2)) { case 1: f(3); } f(4);
does_nothing_where_no_case_is_selected :
    Does 9 nulls []
    (tree kind.SwitchStmt (call (ident (codes "f")) (whole 1 ▸ End) ▸ list End ▸ End)
    ▸ tree kind.SwitchStmt (call (ident (codes "f")) (whole 2 ▸ End) ▸ list (tree kind.SwitchCase (whole 1 ▸ list (statement (call (ident (codes "f")) (whole 3 ▸ End)) ▸ End)
    ▸ End) ▸ End) ▸ End)
    ▸ statement (call (ident (codes "f")) (whole 4 ▸ End))
    ▸ End)
    (HostCall 7 shown.Undefined (shown.Num (js_number.Whole (pos 1)) ∷ []) ∷ HostCall 7 shown.Undefined (shown.Num (js_number.Whole (pos 2)) ∷ [])
    ∷ HostCall 7 shown.Undefined (shown.Num (js_number.Whole (pos 4)) ∷ []) ∷ []) (ending.Done [])
does_nothing_where_no_case_is_selected = does refl (simp meaning_node refl)

-- switch ("1") { case 1: f(1); } switch (null) { case undefined: f(2); break; case null: f(3); } switch (NaN) { case NaN: f(4); break; default: f(5); } switch (0) { case -0: f(6); }
compares_strictly :
    Does 9 nulls []
    (tree kind.SwitchStmt (string (codes "1") ▸ list (tree kind.SwitchCase (whole 1 ▸ list (statement (call (ident (codes "f")) (whole 1 ▸ End)) ▸ End) ▸ End) ▸ End) ▸ End)
    ▸ tree kind.SwitchStmt (null ▸ list (tree kind.SwitchCase (ident (codes "undefined") ▸ list (statement (call (ident (codes "f")) (whole 2 ▸ End)) ▸ tree kind.BreakStmt (absent
    ▸ End) ▸ End) ▸ End) ▸ tree kind.SwitchCase (null ▸ list (statement (call (ident (codes "f")) (whole 3 ▸ End)) ▸ End) ▸ End) ▸ End) ▸ End)
    ▸ tree kind.SwitchStmt (ident (codes "NaN") ▸ list (tree kind.SwitchCase (ident (codes "NaN") ▸ list (statement (call (ident (codes "f")) (whole 4 ▸ End))
    ▸ tree kind.BreakStmt (absent ▸ End) ▸ End) ▸ End) ▸ tree kind.SwitchCase (absent ▸ list (statement (call (ident (codes "f")) (whole 5 ▸ End)) ▸ End) ▸ End) ▸ End) ▸ End)
    ▸ tree kind.SwitchStmt (whole 0 ▸ list (tree kind.SwitchCase (unary unary.Minus (whole 0) ▸ list (statement (call (ident (codes "f")) (whole 6 ▸ End)) ▸ End) ▸ End) ▸ End)
    ▸ End)
    ▸ End)
    (HostCall 7 shown.Undefined (shown.Num (js_number.Whole (pos 3)) ∷ []) ∷ HostCall 7 shown.Undefined (shown.Num (js_number.Whole (pos 5)) ∷ [])
    ∷ HostCall 7 shown.Undefined (shown.Num (js_number.Whole (pos 6)) ∷ []) ∷ []) (ending.Done [])
compares_strictly = does refl (simp meaning_node refl)

-- let o = {}; switch (o) { case {}: f(1); break; case o: f(2); } switch (f) { case f: f(3); }
compares_objects_with_themselves :
    Does 9 nulls []
    (declare Let (codes "o") (object End)
    ▸ tree kind.SwitchStmt (ident (codes "o") ▸ list (tree kind.SwitchCase (object End ▸ list (statement (call (ident (codes "f")) (whole 1 ▸ End)) ▸ tree kind.BreakStmt (absent
    ▸ End) ▸ End) ▸ End) ▸ tree kind.SwitchCase (ident (codes "o") ▸ list (statement (call (ident (codes "f")) (whole 2 ▸ End)) ▸ End) ▸ End) ▸ End) ▸ End)
    ▸ tree kind.SwitchStmt (ident (codes "f") ▸ list (tree kind.SwitchCase (ident (codes "f") ▸ list (statement (call (ident (codes "f")) (whole 3 ▸ End)) ▸ End) ▸ End) ▸ End)
    ▸ End)
    ▸ End)
    (HostCall 7 shown.Undefined (shown.Num (js_number.Whole (pos 2)) ∷ []) ∷ HostCall 7 shown.Undefined (shown.Num (js_number.Whole (pos 3)) ∷ []) ∷ []) (ending.Done [])
compares_objects_with_themselves = does refl (simp meaning_node refl)

-- for (let i = 0; i < 3; i++) { switch (i) { case 0: continue; case 1: break; default: f(i); } f(i); }
is_ended_by_break_alone :
    Does 9 nulls []
    (tree kind.ForStmt (declare Let (codes "i") (whole 0) ▸ binary binary.Lt (ident (codes "i")) (whole 3) ▸ tree (kind.UpdateExpr update.PlusPlus false) (ident (codes "i") ▸ End)
    ▸ block (tree kind.SwitchStmt (ident (codes "i") ▸ list (tree kind.SwitchCase (whole 0 ▸ list (tree kind.ContinueStmt (absent ▸ End) ▸ End) ▸ End)
    ▸ tree kind.SwitchCase (whole 1 ▸ list (tree kind.BreakStmt (absent ▸ End) ▸ End) ▸ End) ▸ tree kind.SwitchCase (absent
    ▸ list (statement (call (ident (codes "f")) (ident (codes "i") ▸ End)) ▸ End) ▸ End) ▸ End) ▸ End) ▸ statement (call (ident (codes "f")) (ident (codes "i") ▸ End)) ▸ End)
    ▸ End)
    ▸ End)
    (HostCall 7 shown.Undefined (shown.Num (js_number.Whole (pos 1)) ∷ []) ∷ HostCall 7 shown.Undefined (shown.Num (js_number.Whole (pos 2)) ∷ [])
    ∷ HostCall 7 shown.Undefined (shown.Num (js_number.Whole (pos 2)) ∷ []) ∷ []) (ending.Done [])
is_ended_by_break_alone = does refl (simp meaning_node refl)

-- function h(a) { switch (a) { case 1: return 2; case 3: throw 4; default: return 5; } } f(h(1), h(2)); try { h(3); } catch (e) { f(e); } try { switch (1) { case null.a: f(6); } } catch (e) { f(e); }
hands_on_returns_and_throws :
    Does 9 nulls []
    (declare_function (codes "h") (parameter (binding (codes "a")) ▸ End) (tree kind.SwitchStmt (ident (codes "a") ▸ list (tree kind.SwitchCase (whole 1 ▸ list (returns (whole 2)
    ▸ End) ▸ End) ▸ tree kind.SwitchCase (whole 3 ▸ list (tree kind.ThrowStmt (whole 4 ▸ End) ▸ End) ▸ End) ▸ tree kind.SwitchCase (absent ▸ list (returns (whole 5) ▸ End) ▸ End)
    ▸ End) ▸ End) ▸ End)
    ▸ statement (call (ident (codes "f")) (call (ident (codes "h")) (whole 1 ▸ End) ▸ call (ident (codes "h")) (whole 2 ▸ End) ▸ End))
    ▸ tree kind.TryStmt (block (statement (call (ident (codes "h")) (whole 3 ▸ End)) ▸ End) ▸ tree kind.CatchClause (binding (codes "e")
    ▸ block (statement (call (ident (codes "f")) (ident (codes "e") ▸ End)) ▸ End) ▸ End) ▸ absent ▸ End)
    ▸ tree kind.TryStmt (block (tree kind.SwitchStmt (whole 1 ▸ list (tree kind.SwitchCase (member null (codes "a") ▸ list (statement (call (ident (codes "f")) (whole 6 ▸ End))
    ▸ End) ▸ End) ▸ End) ▸ End) ▸ End) ▸ tree kind.CatchClause (binding (codes "e") ▸ block (statement (call (ident (codes "f")) (ident (codes "e") ▸ End)) ▸ End) ▸ End) ▸ absent
    ▸ End)
    ▸ End)
    (HostCall 7 shown.Undefined (shown.Num (js_number.Whole (pos 2)) ∷ shown.Num (js_number.Whole (pos 5)) ∷ []) ∷ HostCall 7 shown.Undefined (shown.Num (js_number.Whole (pos 4))
    ∷ []) ∷ HostCall 7 shown.Undefined (shown.Error error.Kind ∷ []) ∷ []) (ending.Done [])
hands_on_returns_and_throws = does refl (simp meaning_node refl)

-- switch (1) { case 0: let a = 1; case 1: try { f(a); } catch (e) { f(e); } }
has_one_scope :
    Does 9 nulls []
    (tree kind.SwitchStmt (whole 1 ▸ list (tree kind.SwitchCase (whole 0 ▸ list (declare Let (codes "a") (whole 1) ▸ End) ▸ End) ▸ tree kind.SwitchCase (whole 1
    ▸ list (tree kind.TryStmt (block (statement (call (ident (codes "f")) (ident (codes "a") ▸ End)) ▸ End) ▸ tree kind.CatchClause (binding (codes "e")
    ▸ block (statement (call (ident (codes "f")) (ident (codes "e") ▸ End)) ▸ End) ▸ End) ▸ absent ▸ End) ▸ End) ▸ End) ▸ End) ▸ End)
    ▸ End)
    (HostCall 7 shown.Undefined (shown.Error error.Reference ∷ []) ∷ []) (ending.Done [])
has_one_scope = does refl (simp meaning_node refl)

-- let a = 1; switch (a) { case 1: let a = 2; f(a); } f(a); try { switch (1) { case a: let a; } } catch (e) { f(e); }
has_a_scope_of_its_own :
    Does 9 nulls []
    (declare Let (codes "a") (whole 1)
    ▸ tree kind.SwitchStmt (ident (codes "a") ▸ list (tree kind.SwitchCase (whole 1 ▸ list (declare Let (codes "a") (whole 2)
    ▸ statement (call (ident (codes "f")) (ident (codes "a") ▸ End)) ▸ End) ▸ End) ▸ End) ▸ End)
    ▸ statement (call (ident (codes "f")) (ident (codes "a") ▸ End))
    ▸ tree kind.TryStmt (block (tree kind.SwitchStmt (whole 1 ▸ list (tree kind.SwitchCase (ident (codes "a") ▸ list (declare Let (codes "a") absent ▸ End) ▸ End) ▸ End) ▸ End)
    ▸ End) ▸ tree kind.CatchClause (binding (codes "e") ▸ block (statement (call (ident (codes "f")) (ident (codes "e") ▸ End)) ▸ End) ▸ End) ▸ absent ▸ End)
    ▸ End)
    (HostCall 7 shown.Undefined (shown.Num (js_number.Whole (pos 2)) ∷ []) ∷ HostCall 7 shown.Undefined (shown.Num (js_number.Whole (pos 1)) ∷ [])
    ∷ HostCall 7 shown.Undefined (shown.Error error.Reference ∷ []) ∷ []) (ending.Done [])
has_a_scope_of_its_own = does refl (simp meaning_node refl)

-- switch (1) { case 0: function h() { f(2); } case 1: h(); class A { m() { f(3); } } new A().m(); }
sets_functions_of_all_cases :
    Does 9 nulls []
    (tree kind.SwitchStmt (whole 1 ▸ list (tree kind.SwitchCase (whole 0 ▸ list (declare_function (codes "h") End (statement (call (ident (codes "f")) (whole 2 ▸ End)) ▸ End)
    ▸ End) ▸ End) ▸ tree kind.SwitchCase (whole 1 ▸ list (statement (call (ident (codes "h")) End)
    ▸ declare_class (codes "A") absent (class_method method.Method false (key (codes "m")) End (statement (call (ident (codes "f")) (whole 3 ▸ End)) ▸ End) ▸ End)
    ▸ statement (call (member (new' (ident (codes "A")) End) (codes "m")) End) ▸ End) ▸ End) ▸ End) ▸ End)
    ▸ End)
    (HostCall 7 shown.Undefined (shown.Num (js_number.Whole (pos 2)) ∷ []) ∷ HostCall 7 shown.Undefined (shown.Num (js_number.Whole (pos 3)) ∷ []) ∷ []) (ending.Done [])
sets_functions_of_all_cases = does refl (simp meaning_node refl)

-- f(a, b); switch (1) { case 0: var a = 1; case 1: { var b = 2; } f(a, b); a = 3; } f(a, b);
declares_var_around :
    Does 9 nulls []
    (statement (call (ident (codes "f")) (ident (codes "a") ▸ ident (codes "b") ▸ End))
    ▸ tree kind.SwitchStmt (whole 1 ▸ list (tree kind.SwitchCase (whole 0 ▸ list (declare Var (codes "a") (whole 1) ▸ End) ▸ End) ▸ tree kind.SwitchCase (whole 1
    ▸ list (block (declare Var (codes "b") (whole 2) ▸ End) ▸ statement (call (ident (codes "f")) (ident (codes "a") ▸ ident (codes "b") ▸ End))
    ▸ statement (assign (ident (codes "a")) (whole 3)) ▸ End) ▸ End) ▸ End) ▸ End)
    ▸ statement (call (ident (codes "f")) (ident (codes "a") ▸ ident (codes "b") ▸ End))
    ▸ End)
    (HostCall 7 shown.Undefined (shown.Undefined ∷ shown.Undefined ∷ []) ∷ HostCall 7 shown.Undefined (shown.Undefined ∷ shown.Num (js_number.Whole (pos 2)) ∷ [])
    ∷ HostCall 7 shown.Undefined (shown.Num (js_number.Whole (pos 3)) ∷ shown.Num (js_number.Whole (pos 2)) ∷ []) ∷ []) (ending.Done [])
declares_var_around = does refl (simp meaning_node refl)

-- let h; switch (1) { case 1: let a = 1; h = () => a; a = 2; } f(h());
closes_over_its_scope :
    Does 9 nulls []
    (declare Let (codes "h") absent
    ▸ tree kind.SwitchStmt (whole 1 ▸ list (tree kind.SwitchCase (whole 1 ▸ list (declare Let (codes "a") (whole 1)
    ▸ statement (assign (ident (codes "h")) (arrow End (ident (codes "a")))) ▸ statement (assign (ident (codes "a")) (whole 2)) ▸ End) ▸ End) ▸ End) ▸ End)
    ▸ statement (call (ident (codes "f")) (call (ident (codes "h")) End ▸ End))
    ▸ End)
    (HostCall 7 shown.Undefined (shown.Num (js_number.Whole (pos 2)) ∷ []) ∷ []) (ending.Done [])
closes_over_its_scope = does refl (simp meaning_node refl)
