-- Ways out of statements, and turns: each fact is a small module and what node observes of it, by computing. Written by compare/facts.mjs.
use Rattle.std.proofs.Common.{refl, pos, [], ◌∷◌, true, false, codes}
use Rattle.ecma_number.specs.declared.js_number.JsNumber.TheVariants as js_number
use Rattle.ecma_kind.specs.declared.kind.Kind.TheVariants as kind
use Rattle.ecma_kind.specs.declared.operators.AssignOp.TheVariants as assign
use Rattle.ecma_kind.specs.declared.operators.BinaryOp.TheVariants as binary
use Rattle.ecma_kind.specs.declared.operators.UpdateOp.TheVariants as update
use Rattle.ecma_kind.specs.declared.operators.VarDeclKind.TheVariants.{Var, Let}
use Rattle.ecma_runs.specs.declared.observation.Event.TheVariants.{HostCall}
use Rattle.ecma_runs.specs.declared.observation.Ending.TheVariants as ending
use Rattle.ecma_runs.specs.declared.script.Answer.TheVariants.{Return}
use Rattle.ecma_runs.specs.declared.shown.ErrorKind.TheVariants as error
use Rattle.ecma_runs.specs.declared.shown.Shown.TheVariants as shown
use Rattle.ecma_runs.proofs.Trees.{End, ◌▸◌, tree, absent, ident, key, binding, whole, truth, member, call, new'}
use Rattle.ecma_runs.proofs.Trees.{binary, parens, object, statement, block, returns, declare, function, declare_function, arrow, declare_class, meaning_node}
use Rattle.ecma_runs.proofs.Scripts.{Does, does, nulls}

-- for (;;) { try { break; } catch { f(1); } } for (let i = 0; i < 1; i++) { try { continue; } catch { f(2); } f(3); } f(4);
breaks_and_continues_through_catch :
    Does 9 nulls []
    (tree kind.ForStmt (absent ▸ absent ▸ absent ▸ block (tree kind.TryStmt (block (tree kind.BreakStmt (absent ▸ End) ▸ End) ▸ tree kind.CatchClause (absent
    ▸ block (statement (call (ident (codes "f")) (whole 1 ▸ End)) ▸ End) ▸ End) ▸ absent ▸ End) ▸ End) ▸ End)
    ▸ tree kind.ForStmt (declare Let (codes "i") (whole 0) ▸ binary binary.Lt (ident (codes "i")) (whole 1) ▸ tree (kind.UpdateExpr update.PlusPlus false) (ident (codes "i") ▸ End)
    ▸ block (tree kind.TryStmt (block (tree kind.ContinueStmt (absent ▸ End) ▸ End) ▸ tree kind.CatchClause (absent ▸ block (statement (call (ident (codes "f")) (whole 2 ▸ End))
    ▸ End) ▸ End) ▸ absent ▸ End) ▸ statement (call (ident (codes "f")) (whole 3 ▸ End)) ▸ End) ▸ End)
    ▸ statement (call (ident (codes "f")) (whole 4 ▸ End))
    ▸ End)
    (HostCall 7 shown.Undefined (shown.Num (js_number.Whole (pos 4)) ∷ []) ∷ []) (ending.Done [])
breaks_and_continues_through_catch = does refl (simp meaning_node refl)

-- for (let i = 0; i < 3; i++) { try { if (i == 1) continue; if (i == 2) break; } finally { f(i); } g(i); }
breaks_and_continues_through_finally :
    Does 9 nulls []
    (tree kind.ForStmt (declare Let (codes "i") (whole 0) ▸ binary binary.Lt (ident (codes "i")) (whole 3) ▸ tree (kind.UpdateExpr update.PlusPlus false) (ident (codes "i") ▸ End)
    ▸ block (tree kind.TryStmt (block (tree kind.IfStmt (binary binary.EqEq (ident (codes "i")) (whole 1) ▸ tree kind.ContinueStmt (absent ▸ End) ▸ absent ▸ End)
    ▸ tree kind.IfStmt (binary binary.EqEq (ident (codes "i")) (whole 2) ▸ tree kind.BreakStmt (absent ▸ End) ▸ absent ▸ End) ▸ End) ▸ absent
    ▸ block (statement (call (ident (codes "f")) (ident (codes "i") ▸ End)) ▸ End) ▸ End) ▸ statement (call (ident (codes "g")) (ident (codes "i") ▸ End)) ▸ End) ▸ End)
    ▸ End)
    (HostCall 7 shown.Undefined (shown.Num (js_number.Whole (pos 0)) ∷ []) ∷ HostCall 8 shown.Undefined (shown.Num (js_number.Whole (pos 0)) ∷ [])
    ∷ HostCall 7 shown.Undefined (shown.Num (js_number.Whole (pos 1)) ∷ []) ∷ HostCall 7 shown.Undefined (shown.Num (js_number.Whole (pos 2)) ∷ []) ∷ []) (ending.Done [])
breaks_and_continues_through_finally = does refl (simp meaning_node refl)

-- try { while (true) { throw 1; } } catch (e) { f(e); } try { do { throw 2; } while (true); } catch (e) { f(e); } try { for (;;) throw 3; } catch (e) { f(e); }
throws_out_of_loops :
    Does 9 nulls []
    (tree kind.TryStmt (block (tree kind.WhileStmt (truth true ▸ block (tree kind.ThrowStmt (whole 1 ▸ End) ▸ End) ▸ End) ▸ End) ▸ tree kind.CatchClause (binding (codes "e")
    ▸ block (statement (call (ident (codes "f")) (ident (codes "e") ▸ End)) ▸ End) ▸ End) ▸ absent ▸ End)
    ▸ tree kind.TryStmt (block (tree kind.DoWhileStmt (truth true ▸ block (tree kind.ThrowStmt (whole 2 ▸ End) ▸ End) ▸ End) ▸ End) ▸ tree kind.CatchClause (binding (codes "e")
    ▸ block (statement (call (ident (codes "f")) (ident (codes "e") ▸ End)) ▸ End) ▸ End) ▸ absent ▸ End)
    ▸ tree kind.TryStmt (block (tree kind.ForStmt (absent ▸ absent ▸ absent ▸ tree kind.ThrowStmt (whole 3 ▸ End) ▸ End) ▸ End) ▸ tree kind.CatchClause (binding (codes "e")
    ▸ block (statement (call (ident (codes "f")) (ident (codes "e") ▸ End)) ▸ End) ▸ End) ▸ absent ▸ End)
    ▸ End)
    (HostCall 7 shown.Undefined (shown.Num (js_number.Whole (pos 1)) ∷ []) ∷ HostCall 7 shown.Undefined (shown.Num (js_number.Whole (pos 2)) ∷ [])
    ∷ HostCall 7 shown.Undefined (shown.Num (js_number.Whole (pos 3)) ∷ []) ∷ []) (ending.Done [])
throws_out_of_loops = does refl (simp meaning_node refl)

-- function h() { try { return 1; } finally { return 2; } } f(h()); try { try { throw 3; } finally { throw 4; } } catch (e) { f(e); }
overrides_what_is_returned_and_thrown :
    Does 9 nulls []
    (declare_function (codes "h") End (tree kind.TryStmt (block (returns (whole 1) ▸ End) ▸ absent ▸ block (returns (whole 2) ▸ End) ▸ End) ▸ End)
    ▸ statement (call (ident (codes "f")) (call (ident (codes "h")) End ▸ End))
    ▸ tree kind.TryStmt (block (tree kind.TryStmt (block (tree kind.ThrowStmt (whole 3 ▸ End) ▸ End) ▸ absent ▸ block (tree kind.ThrowStmt (whole 4 ▸ End) ▸ End) ▸ End) ▸ End)
    ▸ tree kind.CatchClause (binding (codes "e") ▸ block (statement (call (ident (codes "f")) (ident (codes "e") ▸ End)) ▸ End) ▸ End) ▸ absent ▸ End)
    ▸ End)
    (HostCall 7 shown.Undefined (shown.Num (js_number.Whole (pos 2)) ∷ []) ∷ HostCall 7 shown.Undefined (shown.Num (js_number.Whole (pos 4)) ∷ []) ∷ []) (ending.Done [])
overrides_what_is_returned_and_thrown = does refl (simp meaning_node refl)

-- try { f(1); } finally { f(2); } f(3); try { try { throw 4; } finally { f(5); } } catch (e) { f(e); }
goes_on_behind_finally :
    Does 9 nulls []
    (tree kind.TryStmt (block (statement (call (ident (codes "f")) (whole 1 ▸ End)) ▸ End) ▸ absent ▸ block (statement (call (ident (codes "f")) (whole 2 ▸ End)) ▸ End) ▸ End)
    ▸ statement (call (ident (codes "f")) (whole 3 ▸ End))
    ▸ tree kind.TryStmt (block (tree kind.TryStmt (block (tree kind.ThrowStmt (whole 4 ▸ End) ▸ End) ▸ absent ▸ block (statement (call (ident (codes "f")) (whole 5 ▸ End)) ▸ End)
    ▸ End) ▸ End) ▸ tree kind.CatchClause (binding (codes "e") ▸ block (statement (call (ident (codes "f")) (ident (codes "e") ▸ End)) ▸ End) ▸ End) ▸ absent ▸ End)
    ▸ End)
    (HostCall 7 shown.Undefined (shown.Num (js_number.Whole (pos 1)) ∷ []) ∷ HostCall 7 shown.Undefined (shown.Num (js_number.Whole (pos 2)) ∷ [])
    ∷ HostCall 7 shown.Undefined (shown.Num (js_number.Whole (pos 3)) ∷ []) ∷ HostCall 7 shown.Undefined (shown.Num (js_number.Whole (pos 5)) ∷ [])
    ∷ HostCall 7 shown.Undefined (shown.Num (js_number.Whole (pos 4)) ∷ []) ∷ []) (ending.Done [])
goes_on_behind_finally = does refl (simp meaning_node refl)

-- do f(1); while (f(2));
does_before_it_tests :
    Does 1 nulls []
    (tree kind.DoWhileStmt (call (ident (codes "f")) (whole 2 ▸ End) ▸ statement (call (ident (codes "f")) (whole 1 ▸ End)) ▸ End)
    ▸ End)
    (HostCall 7 shown.Undefined (shown.Num (js_number.Whole (pos 1)) ∷ []) ∷ HostCall 7 shown.Undefined (shown.Num (js_number.Whole (pos 2)) ∷ []) ∷ []) (ending.Done [])
does_before_it_tests = does refl (simp meaning_node refl)

-- do f(1); while (f(2));
wants_a_turn_to_do :
    Does 0 nulls []
    (tree kind.DoWhileStmt (call (ident (codes "f")) (whole 2 ▸ End) ▸ statement (call (ident (codes "f")) (whole 1 ▸ End)) ▸ End)
    ▸ End)
    [] (ending.TurnsSpent)
wants_a_turn_to_do = does refl (simp meaning_node refl)

-- let i = 0; do { i++; if (i == 2) break; f(i); } while (true); f(i);
breaks_out_of_do :
    Does 9 nulls []
    (declare Let (codes "i") (whole 0)
    ▸ tree kind.DoWhileStmt (truth true ▸ block (statement (tree (kind.UpdateExpr update.PlusPlus false) (ident (codes "i") ▸ End))
    ▸ tree kind.IfStmt (binary binary.EqEq (ident (codes "i")) (whole 2) ▸ tree kind.BreakStmt (absent ▸ End) ▸ absent ▸ End)
    ▸ statement (call (ident (codes "f")) (ident (codes "i") ▸ End)) ▸ End) ▸ End)
    ▸ statement (call (ident (codes "f")) (ident (codes "i") ▸ End))
    ▸ End)
    (HostCall 7 shown.Undefined (shown.Num (js_number.Whole (pos 1)) ∷ []) ∷ HostCall 7 shown.Undefined (shown.Num (js_number.Whole (pos 2)) ∷ []) ∷ []) (ending.Done [])
breaks_out_of_do = does refl (simp meaning_node refl)

-- while (f(1)) f(2);
tests_without_turns :
    Does 0 nulls []
    (tree kind.WhileStmt (call (ident (codes "f")) (whole 1 ▸ End) ▸ statement (call (ident (codes "f")) (whole 2 ▸ End)) ▸ End)
    ▸ End)
    (HostCall 7 shown.Undefined (shown.Num (js_number.Whole (pos 1)) ∷ []) ∷ []) (ending.Done [])
tests_without_turns = does refl (simp meaning_node refl)

-- while (f(1)) f(2);
wants_a_turn_for_a_round :
    Does 0 (Return (shown.Bool true) ∷ []) []
    (tree kind.WhileStmt (call (ident (codes "f")) (whole 1 ▸ End) ▸ statement (call (ident (codes "f")) (whole 2 ▸ End)) ▸ End)
    ▸ End)
    (HostCall 7 shown.Undefined (shown.Num (js_number.Whole (pos 1)) ∷ []) ∷ []) (ending.TurnsSpent)
wants_a_turn_for_a_round = does refl (simp meaning_node refl)

-- for (let i = 1; f(i); ) f(2);
tests_a_for_without_turns :
    Does 0 nulls []
    (tree kind.ForStmt (declare Let (codes "i") (whole 1) ▸ call (ident (codes "f")) (ident (codes "i") ▸ End) ▸ absent ▸ statement (call (ident (codes "f")) (whole 2 ▸ End))
    ▸ End)
    ▸ End)
    (HostCall 7 shown.Undefined (shown.Num (js_number.Whole (pos 1)) ∷ []) ∷ []) (ending.Done [])
tests_a_for_without_turns = does refl (simp meaning_node refl)

-- for (let i = 1; f(i); ) f(2);
wants_a_turn_for_a_round_of_for :
    Does 0 (Return (shown.Bool true) ∷ []) []
    (tree kind.ForStmt (declare Let (codes "i") (whole 1) ▸ call (ident (codes "f")) (ident (codes "i") ▸ End) ▸ absent ▸ statement (call (ident (codes "f")) (whole 2 ▸ End))
    ▸ End)
    ▸ End)
    (HostCall 7 shown.Undefined (shown.Num (js_number.Whole (pos 1)) ∷ []) ∷ []) (ending.TurnsSpent)
wants_a_turn_for_a_round_of_for = does refl (simp meaning_node refl)

-- let i = 0; while (i < 2) i++; f(i); h(); function h() {}
spends_the_turns_of_while :
    Does 2 nulls []
    (declare Let (codes "i") (whole 0)
    ▸ tree kind.WhileStmt (binary binary.Lt (ident (codes "i")) (whole 2) ▸ statement (tree (kind.UpdateExpr update.PlusPlus false) (ident (codes "i") ▸ End)) ▸ End)
    ▸ statement (call (ident (codes "f")) (ident (codes "i") ▸ End))
    ▸ statement (call (ident (codes "h")) End)
    ▸ declare_function (codes "h") End End
    ▸ End)
    (HostCall 7 shown.Undefined (shown.Num (js_number.Whole (pos 2)) ∷ []) ∷ []) (ending.TurnsSpent)
spends_the_turns_of_while = does refl (simp meaning_node refl)

-- let i = 0; do i++; while (i < 2); f(i); h(); function h() {}
spends_the_turns_of_do :
    Does 2 nulls []
    (declare Let (codes "i") (whole 0)
    ▸ tree kind.DoWhileStmt (binary binary.Lt (ident (codes "i")) (whole 2) ▸ statement (tree (kind.UpdateExpr update.PlusPlus false) (ident (codes "i") ▸ End)) ▸ End)
    ▸ statement (call (ident (codes "f")) (ident (codes "i") ▸ End))
    ▸ statement (call (ident (codes "h")) End)
    ▸ declare_function (codes "h") End End
    ▸ End)
    (HostCall 7 shown.Undefined (shown.Num (js_number.Whole (pos 2)) ∷ []) ∷ []) (ending.TurnsSpent)
spends_the_turns_of_do = does refl (simp meaning_node refl)

-- for (var i = 0; i < 2; i++); f(i); h(); function h() {}
spends_the_turns_of_for :
    Does 2 nulls []
    (tree kind.ForStmt (declare Var (codes "i") (whole 0) ▸ binary binary.Lt (ident (codes "i")) (whole 2) ▸ tree (kind.UpdateExpr update.PlusPlus false) (ident (codes "i") ▸ End)
    ▸ tree kind.EmptyStmt End ▸ End)
    ▸ statement (call (ident (codes "f")) (ident (codes "i") ▸ End))
    ▸ statement (call (ident (codes "h")) End)
    ▸ declare_function (codes "h") End End
    ▸ End)
    (HostCall 7 shown.Undefined (shown.Num (js_number.Whole (pos 2)) ∷ []) ∷ []) (ending.TurnsSpent)
spends_the_turns_of_for = does refl (simp meaning_node refl)

-- while (true) { f(1); h(); } function h() {}
spends_a_turn_before_a_body :
    Does 2 nulls []
    (tree kind.WhileStmt (truth true ▸ block (statement (call (ident (codes "f")) (whole 1 ▸ End)) ▸ statement (call (ident (codes "h")) End) ▸ End) ▸ End)
    ▸ declare_function (codes "h") End End
    ▸ End)
    (HostCall 7 shown.Undefined (shown.Num (js_number.Whole (pos 1)) ∷ []) ∷ []) (ending.TurnsSpent)
spends_a_turn_before_a_body = does refl (simp meaning_node refl)

-- for (;;) { f(1); h(); } function h() {}
spends_a_turn_before_a_body_of_for :
    Does 2 nulls []
    (tree kind.ForStmt (absent ▸ absent ▸ absent ▸ block (statement (call (ident (codes "f")) (whole 1 ▸ End)) ▸ statement (call (ident (codes "h")) End) ▸ End) ▸ End)
    ▸ declare_function (codes "h") End End
    ▸ End)
    (HostCall 7 shown.Undefined (shown.Num (js_number.Whole (pos 1)) ∷ []) ∷ []) (ending.TurnsSpent)
spends_a_turn_before_a_body_of_for = does refl (simp meaning_node refl)

-- do { f(1); h(); } while (true); function h() {}
spends_a_turn_before_a_body_of_do :
    Does 1 nulls []
    (tree kind.DoWhileStmt (truth true ▸ block (statement (call (ident (codes "f")) (whole 1 ▸ End)) ▸ statement (call (ident (codes "h")) End) ▸ End) ▸ End)
    ▸ declare_function (codes "h") End End
    ▸ End)
    (HostCall 7 shown.Undefined (shown.Num (js_number.Whole (pos 1)) ∷ []) ∷ []) (ending.TurnsSpent)
spends_a_turn_before_a_body_of_do = does refl (simp meaning_node refl)

-- for (let i = 0; i < 3; i++) { i++; f(i); }
copies_what_a_round_wrote :
    Does 9 nulls []
    (tree kind.ForStmt (declare Let (codes "i") (whole 0) ▸ binary binary.Lt (ident (codes "i")) (whole 3) ▸ tree (kind.UpdateExpr update.PlusPlus false) (ident (codes "i") ▸ End)
    ▸ block (statement (tree (kind.UpdateExpr update.PlusPlus false) (ident (codes "i") ▸ End)) ▸ statement (call (ident (codes "f")) (ident (codes "i") ▸ End)) ▸ End) ▸ End)
    ▸ End)
    (HostCall 7 shown.Undefined (shown.Num (js_number.Whole (pos 1)) ∷ []) ∷ HostCall 7 shown.Undefined (shown.Num (js_number.Whole (pos 3)) ∷ []) ∷ []) (ending.Done [])
copies_what_a_round_wrote = does refl (simp meaning_node refl)

-- let h; for (let i = 0; i < 2; h ||= () => i, i++); f(h());
copies_before_the_update :
    Does 9 nulls []
    (declare Let (codes "h") absent
    ▸ tree kind.ForStmt (declare Let (codes "i") (whole 0) ▸ binary binary.Lt (ident (codes "i")) (whole 2)
    ▸ tree kind.SeqExpr (tree (kind.AssignExpr assign.OrAssign) (ident (codes "h") ▸ arrow End (ident (codes "i")) ▸ End)
    ▸ tree (kind.UpdateExpr update.PlusPlus false) (ident (codes "i") ▸ End) ▸ End) ▸ tree kind.EmptyStmt End ▸ End)
    ▸ statement (call (ident (codes "f")) (call (ident (codes "h")) End ▸ End))
    ▸ End)
    (HostCall 7 shown.Undefined (shown.Num (js_number.Whole (pos 1)) ∷ []) ∷ []) (ending.Done [])
copies_before_the_update = does refl (simp meaning_node refl)

-- class A {} class B extends A {} try { A(); } catch (e) { f(e); } try { B(); } catch (e) { f(e); }
calls_no_class_and_spends_nothing :
    Does 0 nulls []
    (declare_class (codes "A") absent End
    ▸ declare_class (codes "B") (ident (codes "A")) End
    ▸ tree kind.TryStmt (block (statement (call (ident (codes "A")) End) ▸ End) ▸ tree kind.CatchClause (binding (codes "e")
    ▸ block (statement (call (ident (codes "f")) (ident (codes "e") ▸ End)) ▸ End) ▸ End) ▸ absent ▸ End)
    ▸ tree kind.TryStmt (block (statement (call (ident (codes "B")) End) ▸ End) ▸ tree kind.CatchClause (binding (codes "e")
    ▸ block (statement (call (ident (codes "f")) (ident (codes "e") ▸ End)) ▸ End) ▸ End) ▸ absent ▸ End)
    ▸ End)
    (HostCall 7 shown.Undefined (shown.Error error.Kind ∷ []) ∷ HostCall 7 shown.Undefined (shown.Error error.Kind ∷ []) ∷ []) (ending.Done [])
calls_no_class_and_spends_nothing = does refl (simp meaning_node refl)

-- let o = { m() {} }; try { new o.m(); } catch (e) { f(e); } try { new (() => 1)(); } catch (e) { f(e); }
constructs_no_method_and_spends_nothing :
    Does 0 nulls []
    (declare Let (codes "o") (object (tree kind.MethodProp (key (codes "m") ▸ function End End ▸ End) ▸ End))
    ▸ tree kind.TryStmt (block (statement (new' (member (ident (codes "o")) (codes "m")) End) ▸ End) ▸ tree kind.CatchClause (binding (codes "e")
    ▸ block (statement (call (ident (codes "f")) (ident (codes "e") ▸ End)) ▸ End) ▸ End) ▸ absent ▸ End)
    ▸ tree kind.TryStmt (block (statement (new' (parens (arrow End (whole 1))) End) ▸ End) ▸ tree kind.CatchClause (binding (codes "e")
    ▸ block (statement (call (ident (codes "f")) (ident (codes "e") ▸ End)) ▸ End) ▸ End) ▸ absent ▸ End)
    ▸ End)
    (HostCall 7 shown.Undefined (shown.Error error.Kind ∷ []) ∷ HostCall 7 shown.Undefined (shown.Error error.Kind ∷ []) ∷ []) (ending.Done [])
constructs_no_method_and_spends_nothing = does refl (simp meaning_node refl)
