-- Where no node is TypeScript that is left out, none is found.
use Rattle.std.proofs.Common.{◌≡◌, ◌∙◌, ℕ, suc, Bool, true, false, not, ◌&&◌, ◌||◌, List, map, refl}
use Rattle.ecma_tree.specs.declared.node.Node.{Node, fold-roll-Node}
use Rattle.ecma_tree.specs.Finding.{enters_all, finds, finds_from, finds_here}
use Rattle.ecma_text_leaves.specs.Everywhere.{Each, Everywhere, everywhere, more, none}
use Rattle.ecma_raw_roles.proofs.Walks.{not_true}
use Rattle.ecma_text_plain.specs.Assignments.{is_assignment_form, is_left_out}
use Rattle.ecma_text_plain.proofs.PlainKinds.{IsPlain}
use Rattle.ecma_plain.specs.Forms.{is_of_forms}

left_out : (a b c : Bool) → (a && (not b || c)) ≡ true → (not a || (b && not c)) ≡ false
left_out true true true h = refl
left_out true true false h = not_true h
left_out true false c h = refl
left_out false b c h = not_true h

module _ (keep_assign : Bool) where
  abbrev found : Node → Bool
  found = finds (is_left_out keep_assign) enters_all

  mutual
    pub unfound : {n : Node} → Everywhere (IsPlain keep_assign) n → found n ≡ false
    unfound (everywhere at k {children = cs} p h) =
        let here = left_out (is_of_forms k) (is_assignment_form k) keep_assign p.1 in
        let below = all_unfound 0 h in
        fold-roll-Node Bool (finds_here (is_left_out keep_assign) enters_all) (record { span = at; kind = k; children = cs }) ∙ rw (here, below) refl

    all_unfound : (i : ℕ) {ns : List Node} → Each (IsPlain keep_assign) ns → finds_from (λ i. true) i (map found ns) ≡ false
    all_unfound i none = refl
    all_unfound i (more a h) = let here = unfound a in let behind = all_unfound (suc i) h in rw (here, behind) refl
