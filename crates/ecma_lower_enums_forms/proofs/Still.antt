-- What the setter of an object has before its parameter: a name with its type, of which nothing has to be lowered.
use Rattle.std.proofs.Common.{◌≡◌, ◌∙◌, ℕ, zero, suc, Bool, true, false, ◌||◌, length, List, [], ◌∷◌, Option, Some, None, refl, sym, ap, subst, slice_get}
use Rattle.ecma_kind.specs.Sorts.{belongs}
use Rattle.ecma_kind.specs.declared.kind.Kind.{Kind}
use Rattle.ecma_kind.specs.declared.kind.Kind.TheVariants as kind
use Rattle.ecma_kind.specs.declared.shapes.Shape.{Shape}
use Rattle.ecma_kind.specs.declared.shapes.Sort.TheVariants as sort
use Rattle.ecma_tree.specs.Sorted.{HasShape, allows, child_shapes, is_absent}
use Rattle.ecma_tree.specs.declared.node.Node.{Node, out-Node}
use Rattle.ecma_fits.specs.Roles.{is_bound_name}
use Rattle.ecma_forms.specs.Forms.{is_odd_by, is_unlowered, is_unlowered_kind}
use Rattle.ecma_lower_enums_sources.proofs.Relating.{by-children}
use Rattle.ecma_lower_enums_sources.proofs.Relation.{children_of}
use Rattle.ecma_lower_enums_sources.proofs.Suiting.{no, some-same}
use Rattle.ecma_rules.specs.Children.{kind_of}
use Rattle.ecma_strip_fits.proofs.Lists.{have_at}
use Rattle.ecma_strip_fits.proofs.Walk.{shape_parts}
use Rattle.ecma_lower_enums_forms.proofs.Walks.{Low, low-made}

abbrev is_still : Kind → Bool
is_still kind.Absent = true
is_still kind.BindingIdent = true
is_still (kind.Ident sym ctxt optional) = true
is_still kind.TsTypeAnn = true
is_still kind.TsType = true
is_still _ = false

still-name : (k : Kind) → belongs sort.Ident k ≡ true → is_still k ≡ true
still-name (kind.Ident sym ctxt optional) h = refl
still-name _ h = no h

still-annotation : (k : Kind) → (is_absent k || belongs sort.TsTypeAnn k) ≡ true → is_still k ≡ true
still-annotation kind.Absent h = refl
still-annotation kind.TsTypeAnn h = refl
still-annotation _ h = no h

still-type : (k : Kind) → belongs sort.TsType k ≡ true → is_still k ≡ true
still-type kind.TsType h = refl
still-type _ h = no h

none-some : {X Y : Type 0} (x : X) → None ≡ Some x → Y
none-some x e = absurd (by e)
  where
    by : None ≡ Some x → ⊥
    by e = cc

still-below : (k : Kind) (t : Shape) (n i : ℕ) (u : Shape) (m : Kind) → is_still k ≡ true → slice_get (child_shapes k t n) i ≡ Some u → allows u m ≡ true → is_still m ≡ true
still-below kind.BindingIdent t n zero u m h at a = still-name m (ap (λ (z : Shape). allows z m) (some-same at) ∙ a)
still-below kind.BindingIdent t n (suc zero) u m h at a = still-annotation m (ap (λ (z : Shape). allows z m) (some-same at) ∙ a)
still-below kind.BindingIdent t n (suc (suc i)) u m h at a = none-some u at
still-below kind.TsTypeAnn t n zero u m h at a = still-type m (ap (λ (z : Shape). allows z m) (some-same at) ∙ a)
still-below kind.TsTypeAnn t n (suc i) u m h at a = none-some u at
still-below kind.Absent t n i u m h at a = none-some u at
still-below (kind.Ident text ctxt optional) t n i u m h at a = none-some u at
still-below kind.TsType t n i u m h at a = none-some u at
still-below _ t n i u m h at a = no h

still-no-form : (k : Kind) (n : Node) → is_still k ≡ true → (is_unlowered_kind k || is_odd_by k n) ≡ false
still-no-form kind.Absent n h = refl
still-no-form kind.BindingIdent n h = refl
still-no-form (kind.Ident sym ctxt optional) n h = refl
still-no-form kind.TsTypeAnn n h = refl
still-no-form kind.TsType n h = refl
still-no-form _ n h = no h

abbrev Still : Node → Type 0
Still n = (t : Shape) → HasShape t n → is_still (kind_of n) ≡ true → Low is_unlowered n

still-low : (n : Node) → Still n
still-low = by-children Still (λ n below t has still.
    low-made is_unlowered n (still-no-form (kind_of n) n still) (λ i c at stay.
    (let h = have_at (child_shapes (kind_of n) t (length (children_of n))) (children_of n) (shape_parts n t has).1 i c at in
    below i c at h.0 h.2 (still-below (kind_of n) t (length (children_of n)) i h.0 (kind_of c) still h.1 (shape_parts c h.0 h.2).0))))

receiver-still : (k : Kind) → (is_absent k || is_bound_name k) ≡ true → is_still k ≡ true
receiver-still kind.Absent h = refl
receiver-still kind.BindingIdent h = refl
receiver-still _ h = no h

pub receiver-low : (n : Node) (t : Shape) → HasShape t n → (is_absent (kind_of n) || is_bound_name (kind_of n)) ≡ true → Low is_unlowered n
receiver-low n t has h = still-low n t has (receiver-still (kind_of n) h)
