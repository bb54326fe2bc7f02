-- Keys of arrays that are open, and open lists of arguments: each fact is a small module and what node observes of it, by computing. Written by compare/facts.mjs.
use Rattle.std.proofs.Common.{refl, pos, [], ◌∷◌, codes}
use Rattle.ecma_number.specs.declared.js_number.JsNumber.TheVariants as js_number
use Rattle.ecma_kind.specs.declared.kind.Kind.TheVariants as kind
use Rattle.ecma_runs.specs.declared.observation.Event.TheVariants.{HostCall}
use Rattle.ecma_runs.specs.declared.observation.Ending.TheVariants as ending
use Rattle.ecma_runs.specs.declared.shown.Shown.TheVariants as shown
use Rattle.ecma_runs.proofs.Trees.{End, ◌▸◌, tree, absent, ident, computed, binding, whole, string, null, member, call, array, statement, block, declare_function, meaning_node}
use Rattle.ecma_runs.proofs.Scripts.{Does, does, nulls}

-- f(1); []["/"];
keys_before_digits :
    Does 9 nulls []
    (statement (call (ident (codes "f")) (whole 1 ▸ End))
    ▸ statement (tree kind.MemberExpr (array End ▸ computed (string (codes "/")) ▸ End))
    ▸ End)
    (HostCall 7 shown.Undefined (shown.Num (js_number.Whole (pos 1)) ∷ []) ∷ []) (ending.Outside)
keys_before_digits = does refl (simp meaning_node refl)

-- f(1); [][":"];
keys_behind_digits :
    Does 9 nulls []
    (statement (call (ident (codes "f")) (whole 1 ▸ End))
    ▸ statement (tree kind.MemberExpr (array End ▸ computed (string (codes ":")) ▸ End))
    ▸ End)
    (HostCall 7 shown.Undefined (shown.Num (js_number.Whole (pos 1)) ∷ []) ∷ []) (ending.Outside)
keys_behind_digits = does refl (simp meaning_node refl)

-- f(1); []["1a"];
keys_with_letters :
    Does 9 nulls []
    (statement (call (ident (codes "f")) (whole 1 ▸ End))
    ▸ statement (tree kind.MemberExpr (array End ▸ computed (string (codes "1a")) ▸ End))
    ▸ End)
    (HostCall 7 shown.Undefined (shown.Num (js_number.Whole (pos 1)) ∷ []) ∷ []) (ending.Outside)
keys_with_letters = does refl (simp meaning_node refl)

-- f(1); []["01"];
keys_with_zeros_before :
    Does 9 nulls []
    (statement (call (ident (codes "f")) (whole 1 ▸ End))
    ▸ statement (tree kind.MemberExpr (array End ▸ computed (string (codes "01")) ▸ End))
    ▸ End)
    (HostCall 7 shown.Undefined (shown.Num (js_number.Whole (pos 1)) ∷ []) ∷ []) (ending.Outside)
keys_with_zeros_before = does refl (simp meaning_node refl)

-- f(1); [][""];
keys_without_text :
    Does 9 nulls []
    (statement (call (ident (codes "f")) (whole 1 ▸ End))
    ▸ statement (tree kind.MemberExpr (array End ▸ computed (string (codes "")) ▸ End))
    ▸ End)
    (HostCall 7 shown.Undefined (shown.Num (js_number.Whole (pos 1)) ∷ []) ∷ []) (ending.Outside)
keys_without_text = does refl (simp meaning_node refl)

-- f(1); []["1234567890"];
keys_of_ten_digits :
    Does 9 nulls []
    (statement (call (ident (codes "f")) (whole 1 ▸ End))
    ▸ statement (tree kind.MemberExpr (array End ▸ computed (string (codes "1234567890")) ▸ End))
    ▸ End)
    (HostCall 7 shown.Undefined (shown.Num (js_number.Whole (pos 1)) ∷ []) ∷ []) (ending.Outside)
keys_of_ten_digits = does refl (simp meaning_node refl)

-- function h() {} f(1); h.apply(null, f);
lists_of_apply_of_the_host :
    Does 9 nulls []
    (declare_function (codes "h") End End
    ▸ statement (call (ident (codes "f")) (whole 1 ▸ End))
    ▸ statement (call (member (ident (codes "h")) (codes "apply")) (null ▸ ident (codes "f") ▸ End))
    ▸ End)
    (HostCall 7 shown.Undefined (shown.Num (js_number.Whole (pos 1)) ∷ []) ∷ []) (ending.Outside)
lists_of_apply_of_the_host = does refl (simp meaning_node refl)

-- function h() {} try { null.a; } catch (e) { f(1); h.apply(null, e); }
lists_of_apply_that_are_errors :
    Does 9 nulls []
    (declare_function (codes "h") End End
    ▸ tree kind.TryStmt (block (statement (member null (codes "a")) ▸ End) ▸ tree kind.CatchClause (binding (codes "e") ▸ block (statement (call (ident (codes "f")) (whole 1
    ▸ End)) ▸ statement (call (member (ident (codes "h")) (codes "apply")) (null ▸ ident (codes "e") ▸ End)) ▸ End) ▸ End) ▸ absent ▸ End)
    ▸ End)
    (HostCall 7 shown.Undefined (shown.Num (js_number.Whole (pos 1)) ∷ []) ∷ []) (ending.Outside)
lists_of_apply_that_are_errors = does refl (simp meaning_node refl)
