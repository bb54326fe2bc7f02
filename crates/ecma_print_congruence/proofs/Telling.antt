-- What is laid out of a tree with other contexts is laid out of the tree: what a parent takes of a child is the same but for the child's kind.
use Rattle.std.proofs.Common.{◌≡◌, refl, ℕ, List, [], ◌∷◌, map}
use Rattle.ecma_kind.specs.declared.kind.Kind.{Kind}
use Rattle.ecma_kind.specs.declared.kind.Kind.TheVariants as kind
use Rattle.ecma_tree.specs.Contexts.{kind_with_context}
use Rattle.ecma_print.specs.Laid.{Laid, is_absent, is_block, is_computed, is_named, is_object_pattern}
use Rattle.ecma_print.specs.Layout.{by_itself}

module _ (context_of : List ℕ → ℕ → ℕ) where
  abbrev pub kind_told : Kind → Kind
  kind_told = kind_with_context context_of

  abbrev pub told : Laid → Laid
  told child = record { kind = kind_told child.kind; at = child.at; parts = child.parts }

  -- no test of a kind asks for contexts
  pub is_absent_told : (k : Kind) → is_absent (kind_told k) ≡ is_absent k
  is_absent_told (kind.Ident sym ctxt optional) = refl
  is_absent_told _ = refl

  pub is_block_told : (k : Kind) → is_block (kind_told k) ≡ is_block k
  is_block_told (kind.Ident sym ctxt optional) = refl
  is_block_told _ = refl

  pub is_computed_told : (k : Kind) → is_computed (kind_told k) ≡ is_computed k
  is_computed_told (kind.Ident sym ctxt optional) = refl
  is_computed_told _ = refl

  pub is_named_told : (k : Kind) → is_named (kind_told k) ≡ is_named k
  is_named_told (kind.Ident sym ctxt optional) = refl
  is_named_told _ = refl

  pub is_object_pattern_told : (k : Kind) → is_object_pattern (kind_told k) ≡ is_object_pattern k
  is_object_pattern_told (kind.Ident sym ctxt optional) = refl
  is_object_pattern_told _ = refl

  pub parts_told : (children : List Laid) → map by_itself (map told children) ≡ map by_itself children
  parts_told [] = refl
  parts_told (a ∷ more) = λ i. by_itself a ∷ parts_told more i
