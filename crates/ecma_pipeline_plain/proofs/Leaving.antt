-- What is asked of all nodes of a tree but of what goes from lists: that plain forms alone are left when types go.
use Rattle.std.proofs.Common.{◌≡◌, ◌∙◌, refl, sym, ap, ℕ, zero, suc, Bool, true, false, ◌&&◌, ◌||◌, not, List, [], ◌∷◌, map, Some, None, slice_get}
use Rattle.ecma_kind.specs.declared.kind.Kind.{Kind}
use Rattle.ecma_kind.specs.declared.kind.Kind.TheVariants as kind
use Rattle.ecma_tree.specs.Sorted.{is_list}
use Rattle.ecma_tree.specs.declared.node.Node.{Node}
use Rattle.ecma_tree.proofs.Layers.{from_leaves_out}
use Rattle.ecma_rules.specs.Children.{kind_of}
use Rattle.ecma_strip.specs.Staying.{stays}
use Rattle.ecma_forms.specs.Forms.{first_unlowered, is_odd_by, is_unlowered_kind}
use Rattle.ecma_hygiene.proofs.Telling.{and-both, and-left, and-right, true-false}
use Rattle.ecma_hygiene_fits.proofs.Everywhere.{children_of}
use Rattle.ecma_sources.specs.TypesAlone.{staying_hold}
use Rattle.ecma_text_sources.proofs.Taken.{low_below, not_odd, not_unlowered}
use Rattle.ecma_pipeline_runs.proofs.Nodes.{StaysIn, by-children, none-some, not-true, some-same}
use Rattle.ecma_ready.specs.Leaving.{is_left_over, leaves_plain_forms, leaves_step, may_be_left}

-- ---- children, one after the other

asked : (list st holds : Bool) → ((list && not st) || holds) ≡ true → (list ≡ true → st ≡ true) → holds ≡ true
asked true true holds h g = h
asked true false holds h g = absurd (true-false (g refl) refl)
asked false st holds h g = h

made : (list st holds : Bool) → ((list ≡ true → st ≡ true) → holds ≡ true) → ((list && not st) || holds) ≡ true
made true true holds g = g (λ is. refl)
made true false holds g = refl
made false st holds g = g (λ is. absurd (true-false is refl))

module _ (f : Node → Bool) where
  hold_at : (list : Bool) (cs : List Node) → staying_hold list cs (map f cs) ≡ true → (i : ℕ) (c : Node) → slice_get cs i ≡ Some c → (list ≡ true → stays c ≡ true) → f c ≡ true
  hold_at list [] h i c at st = none-some at
  hold_at list (d ∷ ds) h zero c at st =
      ap f (sym (some-same at)) ∙ asked list (stays d) (f d) (and-left ((list && not (stays d)) || f d) (staying_hold list ds (map f ds)) h) (λ is. ap stays (some-same at) ∙ st is)
  hold_at list (d ∷ ds) h (suc i) c at st = hold_at list ds (and-right ((list && not (stays d)) || f d) (staying_hold list ds (map f ds)) h) i c at st

  hold_made : (list : Bool) (cs : List Node) → ((i : ℕ) (c : Node) → slice_get cs i ≡ Some c → (list ≡ true → stays c ≡ true) → f c ≡ true) → staying_hold list cs (map f cs) ≡ true
  hold_made list [] each = refl
  hold_made list (d ∷ ds) each = and-both ((list && not (stays d)) || f d) (staying_hold list ds (map f ds)) (made list (stays d) (f d) (each 0 d refl)) (hold_made list ds (λ i c at. each (suc i) c at))

-- ---- a node

module _ (assignments : Bool) where
  abbrev leaves : Node → Bool
  leaves = leaves_plain_forms assignments

  leaves_out : (n : Node) → leaves n ≡ (may_be_left assignments n && staying_hold (is_list (kind_of n)) (children_of n) (map leaves (children_of n)))
  leaves_out n = from_leaves_out Bool (leaves_step assignments) n

  module _ (n : Node) (h : leaves n ≡ true) where
    here : may_be_left assignments n ≡ true
    here = and-left (may_be_left assignments n) (staying_hold (is_list (kind_of n)) (children_of n) (map leaves (children_of n))) (sym (leaves_out n) ∙ h)

    pub not_left_over : is_left_over assignments (kind_of n) ≡ false
    not_left_over = not-true (is_left_over assignments (kind_of n)) (and-left (not (is_left_over assignments (kind_of n))) (not (is_odd_by (kind_of n) n)) here)

    pub not_odd_left : is_odd_by (kind_of n) n ≡ false
    not_odd_left = not-true (is_odd_by (kind_of n) n) (and-right (not (is_left_over assignments (kind_of n))) (not (is_odd_by (kind_of n) n)) here)

    pub leaves_below : (i : ℕ) (c : Node) → slice_get (children_of n) i ≡ Some c → StaysIn (kind_of n) c → leaves c ≡ true
    leaves_below =
        hold_at leaves (is_list (kind_of n)) (children_of n) (and-right (may_be_left assignments n) (staying_hold (is_list (kind_of n)) (children_of n) (map leaves (children_of n))) (sym (leaves_out n) ∙ h))

  leaves_made : (n : Node) → may_be_left assignments n ≡ true → ((i : ℕ) (c : Node) → slice_get (children_of n) i ≡ Some c → StaysIn (kind_of n) c → leaves c ≡ true) → leaves n ≡ true
  leaves_made n h each =
      leaves_out n ∙ and-both (may_be_left assignments n) (staying_hold (is_list (kind_of n)) (children_of n) (map leaves (children_of n))) h (hold_made leaves (is_list (kind_of n)) (children_of n) each)

-- ---- a source that needs no lowering

lowered_over : (assignments : Bool) (k : Kind) → is_unlowered_kind k ≡ false → is_left_over assignments k ≡ false
lowered_over assignments kind.TsExportAssignment h = absurd (true-false refl h)
lowered_over assignments kind.TsModuleBlock h = absurd (true-false refl h)
lowered_over assignments kind.TsQualifiedName h = absurd (true-false refl h)
lowered_over assignments (kind.TsParamProp accessibility is_override readonly) h = absurd (true-false refl h)
lowered_over assignments kind.ExportDefaultSpecifier h = absurd (true-false refl h)
lowered_over assignments (kind.TsEnumDecl declare is_const) h = absurd (true-false refl h)
lowered_over assignments kind.TsEnumMember h = absurd (true-false refl h)
lowered_over assignments (kind.TsModuleDecl declare global) h = absurd (true-false refl h)
lowered_over assignments (kind.TsNamespaceDecl declare global) h = absurd (true-false refl h)
lowered_over assignments (kind.TsImportEqualsDecl is_export is_type_only) h = absurd (true-false refl h)
lowered_over assignments _ h = refl

neither : (a b : Bool) → a ≡ false → b ≡ false → (not a && not b) ≡ true
neither true b h g = absurd (true-false refl h)
neither false true h g = absurd (true-false refl g)
neither false false h g = refl

module _ (assignments : Bool) where
  abbrev LowLeaves : Node → Type 0
  LowLeaves n = first_unlowered n ≡ None → leaves_plain_forms assignments n ≡ true

  pub low_leaves : (n : Node) → LowLeaves n
  low_leaves = by-children LowLeaves (λ n below low.
      leaves_made assignments n
      (neither (is_left_over assignments (kind_of n)) (is_odd_by (kind_of n) n) (lowered_over assignments (kind_of n) (not_unlowered n low)) (not_odd n low))
      (λ i c at st. below i c at (low_below n low i c at st)))
