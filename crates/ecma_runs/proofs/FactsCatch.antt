-- The scope of what is caught, and that of the block inside it: each fact is a small module and what node observes of it, by computing. Written by compare/facts.mjs.
use Rattle.std.proofs.Common.{refl, pos, [], ◌∷◌, false, codes}
use Rattle.ecma_number.specs.declared.js_number.JsNumber.TheVariants as js_number
use Rattle.ecma_kind.specs.declared.kind.Kind.TheVariants as kind
use Rattle.ecma_kind.specs.declared.operators.VarDeclKind.TheVariants.{Let}
use Rattle.ecma_runs.specs.declared.observation.Event.TheVariants.{HostCall}
use Rattle.ecma_runs.specs.declared.observation.Ending.TheVariants as ending
use Rattle.ecma_runs.specs.declared.shown.Shown.TheVariants as shown
use Rattle.ecma_runs.proofs.Trees.{End, ◌▸◌, tree, absent, list, ident, binding, whole, call, assign, object, statement, block, declare, arrow, meaning_node}
use Rattle.ecma_runs.proofs.Scripts.{Does, does, nulls}

-- let h = 5; try { throw {}; } catch ({ a = h }) { let h = 1; f(a, h); }
names_what_is_outside_in_a_default :
    Does 9 nulls []
    (declare Let (codes "h") (whole 5)
    ▸ tree kind.TryStmt (block (tree kind.ThrowStmt (object End ▸ End) ▸ End)
    ▸ tree kind.CatchClause (tree (kind.ObjectPat false) (list (tree kind.AssignPatProp (binding (codes "a") ▸ ident (codes "h") ▸ End) ▸ End) ▸ absent ▸ End)
    ▸ block (declare Let (codes "h") (whole 1) ▸ statement (call (ident (codes "f")) (ident (codes "a") ▸ ident (codes "h") ▸ End)) ▸ End) ▸ End) ▸ absent ▸ End)
    ▸ End)
    (HostCall 7 shown.Undefined (shown.Num (js_number.Whole (pos 5)) ∷ shown.Num (js_number.Whole (pos 1)) ∷ []) ∷ []) (ending.Done [])
names_what_is_outside_in_a_default = does refl (simp meaning_node refl)

-- let h = 5; try { throw {}; } catch ({ a = () => h }) { h = 6; { let h = 1; f(a(), h); } }
closes_over_what_is_outside_in_a_default :
    Does 9 nulls []
    (declare Let (codes "h") (whole 5)
    ▸ tree kind.TryStmt (block (tree kind.ThrowStmt (object End ▸ End) ▸ End)
    ▸ tree kind.CatchClause (tree (kind.ObjectPat false) (list (tree kind.AssignPatProp (binding (codes "a") ▸ arrow End (ident (codes "h")) ▸ End) ▸ End) ▸ absent ▸ End)
    ▸ block (statement (assign (ident (codes "h")) (whole 6)) ▸ block (declare Let (codes "h") (whole 1) ▸ statement (call (ident (codes "f")) (call (ident (codes "a")) End
    ▸ ident (codes "h") ▸ End)) ▸ End) ▸ End) ▸ End) ▸ absent ▸ End)
    ▸ End)
    (HostCall 7 shown.Undefined (shown.Num (js_number.Whole (pos 6)) ∷ shown.Num (js_number.Whole (pos 1)) ∷ []) ∷ []) (ending.Done [])
closes_over_what_is_outside_in_a_default = does refl (simp meaning_node refl)

-- try { throw 1; } catch (e) { let k = () => e; { let e = 2; f(e, k()); } }
catches_in_a_scope_around_the_block :
    Does 9 nulls []
    (tree kind.TryStmt (block (tree kind.ThrowStmt (whole 1 ▸ End) ▸ End) ▸ tree kind.CatchClause (binding (codes "e")
    ▸ block (declare Let (codes "k") (arrow End (ident (codes "e"))) ▸ block (declare Let (codes "e") (whole 2) ▸ statement (call (ident (codes "f")) (ident (codes "e")
    ▸ call (ident (codes "k")) End ▸ End)) ▸ End) ▸ End) ▸ End) ▸ absent ▸ End)
    ▸ End)
    (HostCall 7 shown.Undefined (shown.Num (js_number.Whole (pos 2)) ∷ shown.Num (js_number.Whole (pos 1)) ∷ []) ∷ []) (ending.Done [])
catches_in_a_scope_around_the_block = does refl (simp meaning_node refl)
