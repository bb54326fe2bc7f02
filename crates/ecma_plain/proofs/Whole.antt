-- A plain kind, and a plain tree, part by part.
use Rattle.std.proofs.Common.{◌≡◌, ◌∙◌, ◌↔◌, Bool, true, false, sym}
use Rattle.std.specs.Prelude.{IsTrue}
use Rattle.ecma_kind.specs.declared.kind.Kind.{Kind}
use Rattle.ecma_tree.specs.declared.node.Node.{Node}
use Rattle.ecma_text_leaves.specs.Everywhere.{Everywhere}
use Rattle.ecma_plain.specs.Forms.{is_of_forms}
use Rattle.ecma_plain.specs.Functions.{functions}
use Rattle.ecma_plain.specs.Items.{has_plain_items}
use Rattle.ecma_plain.specs.Plain.{HasUtf8Texts, IsPlain, IsPlainKind, is_questioned}
use Rattle.ecma_plain.specs.Writable.{IsWritable}

-- what has another value there
nothing_from : {A : Type 0} → false ≡ true → A
nothing_from h = let no : ⊥ = cc in absurd no

-- ---- kinds

module _ (k : Kind) where
  pub questioned_is_not_plain : true ≡ is_questioned k → IsTrue false ↔ IsPlainKind k
  questioned_is_not_plain is = (λ h. nothing_from h, λ p. sym (is ∙ p.3))

  pub formless_is_not_plain : false ≡ is_of_forms k → IsTrue false ↔ IsPlainKind k
  formless_is_not_plain is = (λ h. nothing_from h, λ p. is ∙ p.2)

  pub plain_when_writable : (written : Bool) → HasUtf8Texts k → false ≡ is_questioned k → true ≡ is_of_forms k → (IsTrue written ↔ IsWritable k) → IsTrue written ↔ IsPlainKind k
  plain_when_writable written texts named formed by = (λ h. (texts, by.0 h, sym formed, sym named), λ p. by.1 p.1)

-- ---- trees

module _ (keep_assign : Bool) (tree : Node) where
  pub unusual_is_not_plain : true ≡ (functions tree).has_unusual → IsTrue false ↔ IsPlain keep_assign tree
  unusual_is_not_plain is = (λ h. nothing_from h, λ p. sym (is ∙ p.usual))

  pub assigned_is_not_plain : false ≡ has_plain_items keep_assign tree → IsTrue false ↔ IsPlain keep_assign tree
  assigned_is_not_plain is = (λ h. nothing_from h, λ p. is ∙ p.items)

  pub plain_by_kinds : (kinds : Bool) → false ≡ (functions tree).has_unusual → true ≡ has_plain_items keep_assign tree → (IsTrue kinds ↔ Everywhere IsPlainKind tree) → IsTrue kinds ↔ IsPlain keep_assign tree
  plain_by_kinds kinds usual items by = (λ h. record { kinds = by.0 h; usual = sym usual; items = sym items }, λ p. by.1 p.kinds)
