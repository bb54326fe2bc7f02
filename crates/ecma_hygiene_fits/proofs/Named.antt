-- What is said of names: an identifier stays one, or is written out.
use Rattle.std.proofs.Common.{◌≡◌, ◌∙◌, ◌⊎◌, inl, inr, ℕ, Bool, true, false, codes, bytes_eq, List, [], ◌∷◌, ap, slice_get, refl, sym}
use Rattle.ecma_kind.specs.declared.kind.Kind.{Kind}
use Rattle.ecma_kind.specs.declared.kind.Kind.TheVariants as kind
use Rattle.ecma_tree.specs.declared.node.Node.{Node, out-Node}
use Rattle.ecma_rules.specs.Children.{child_is, is_named, kind_of, of_kind}
use Rattle.ecma_scope.specs.Resolved.{is_name}
use Rattle.ecma_hygiene.specs.declared.spot.Standing.{Standing}
use Rattle.ecma_hygiene.specs.Renamed.{Texts, kind_with_text, standing_in, text_of}
use Rattle.ecma_hygiene_fits.specs.Unreserved.{AreUnreserved, IsUnreserved}
use Rattle.ecma_hygiene_fits.proofs.Becoming.{all_become, become, become-out, children_become, children_stay, grown_same, is_touched, old_of, own_kind}
use Rattle.ecma_hygiene_fits.proofs.Everywhere.{children_of}

module _ (word : List ℕ) where
  -- what is not named so is not with texts of which none is that but where it was
  module _ (texts : Texts) (other : (sym : List ℕ) (ctxt : ℕ) → bytes_eq sym word ≡ false → bytes_eq (text_of texts (sym, ctxt)) word ≡ false) where
    text_unnamed : (named : Bool) (k : Kind) → is_named word k ≡ false → is_named word (kind_with_text texts named k) ≡ false
    text_unnamed true k h = h
    text_unnamed false (kind.Ident text ctxt optional) h = other text ctxt h
    text_unnamed false k h = h

    pub unnamed : (c : Node) (stands : Standing) → is_named word (kind_of c) ≡ false → is_named word (kind_of (become texts c stands)) ≡ false
    unnamed c stands h =
        let own = text_unnamed (is_name stands.role) (kind_of c) h in
        ap (λ m. is_named word (kind_of m)) (become-out texts c stands)
        ∙ (grown_same (is_named word) refl (old_of texts c stands) (out-Node c).span (own_kind texts c stands) (children_become texts c stands) (λ is. sym own) ∙ own)

    first_unnamed : (stands : ℕ → Standing) (cs : List Node) → of_kind (is_named word) (slice_get cs 0) ≡ false → of_kind (is_named word) (slice_get (all_become texts stands 0 cs) 0) ≡ false
    first_unnamed stands [] h = h
    first_unnamed stands (c ∷ cs) h = unnamed c (stands 0) h

    pub child_unnamed : (n : Node) (stands : Standing) → is_touched (kind_of n) ≡ false → child_is (is_named word) n 0 ≡ false → child_is (is_named word) (become texts n stands) 0 ≡ false
    child_unnamed n stands u h = ap (λ (z : List Node). of_kind (is_named word) (slice_get z 0)) (children_stay texts n stands u) ∙ first_unnamed (standing_in stands n) (children_of n) h

module _ (texts : Texts) (unreserved : AreUnreserved texts) where
  pub not_arguments : (sym : List ℕ) (ctxt : ℕ) → bytes_eq sym (codes "arguments") ≡ false → bytes_eq (text_of texts (sym, ctxt)) (codes "arguments") ≡ false
  not_arguments text ctxt h = go (unreserved (text, ctxt))
    where
      go : (text_of texts (text, ctxt) ≡ text) ⊎ IsUnreserved (text_of texts (text, ctxt)) → bytes_eq (text_of texts (text, ctxt)) (codes "arguments") ≡ false
      go (inl same) = ap (λ z. bytes_eq z (codes "arguments")) same ∙ h
      go (inr u) = u.no_arguments
