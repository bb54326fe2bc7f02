-- A class has no second constructor with a body with other texts.
use Rattle.std.proofs.Common.{◌≡◌, ◌∙◌, ℕ, suc, Bool, true, false, ◌&&◌, cond, List, [], ◌∷◌, filter, length, is_some, refl, sym, ap, ap₂, slice_get}
use Rattle.ecma_kind.specs.declared.kind.Kind.{Kind}
use Rattle.ecma_kind.specs.declared.kind.Kind.TheVariants as kind
use Rattle.ecma_kind.specs.declared.shapes.Shape.{Shape}
use Rattle.ecma_kind.specs.declared.shapes.Sort.TheVariants as sort
use Rattle.ecma_tree.specs.declared.node.Node.{Node}
use Rattle.ecma_tree.specs.Laws.{HaveShapes}
use Rattle.ecma_tree.specs.Sorted.{child_shapes}
use Rattle.ecma_rules.specs.Children.{children_of as items_of, has_child, is_present, kind_of}
use Rattle.ecma_rules.specs.Members.{is_constructor, is_full_constructor, second_by, second_of}
use Rattle.ecma_hygiene.specs.declared.spot.Standing.{Standing}
use Rattle.ecma_hygiene.specs.Renamed.{Texts, proto_literal, standing_in}
use Rattle.ecma_hygiene_fits.specs.Laws.{FinalTextsKeepConstructors}
use Rattle.ecma_hygiene_fits.proofs.Becoming.{Quiet, Silent, present_quiet, all_become, become, child_same, children_stay, is_touched, kind_same}
use Rattle.ecma_hygiene_fits.proofs.Everywhere.{children_of}
use Rattle.ecma_hygiene_fits.proofs.Listed.{items_same}
use Rattle.ecma_hygiene_fits.proofs.Surroundings.{test_kept}
use Rattle.ecma_hygiene_fits.proofs.Walk.{shape_parts}

constructor_quiet : Quiet false is_constructor
unfolding is_touched
constructor_quiet (kind.Constructor accessibility is_optional) t = cc
constructor_quiet _ t = refl

full_same : (texts : Texts) (c : Node) (stands : Standing) → is_full_constructor (become texts c stands) ≡ is_full_constructor c
full_same texts c stands = by (is_touched (kind_of c)) refl
  where
    none : (a b : Bool) → a ≡ false → (a && b) ≡ false
    none true b e = cc
    none false b e = refl

    by : (t : Bool) → is_touched (kind_of c) ≡ t → is_full_constructor (become texts c stands) ≡ is_full_constructor c
    by true t =
        none (is_constructor (kind_of (become texts c stands))) (has_child (become texts c stands) 2) (kind_same texts is_constructor false constructor_quiet c stands ∙ constructor_quiet (kind_of c) t)
        ∙ sym (none (is_constructor (kind_of c)) (has_child c 2) (constructor_quiet (kind_of c) t))
    by false u = ap₂ (λ a b. a && b) (kind_same texts is_constructor false constructor_quiet c stands) (child_same texts is_present true present_quiet c stands u 2)

count_same : (texts : Texts) (stands : ℕ → Standing) (j : ℕ) (cs : List Node) → length (filter is_full_constructor (all_become texts stands j cs)) ≡ length (filter is_full_constructor cs)
count_same texts stands j [] = refl
count_same texts stands j (c ∷ cs) =
    counted (is_full_constructor (become texts c (stands j))) (become texts c (stands j)) (filter is_full_constructor (all_become texts stands (suc j) cs))
    ∙ ap₂ (λ b n. cond b (suc n) n) (full_same texts c (stands j)) (count_same texts stands (suc j) cs) ∙ sym (counted (is_full_constructor c) c (filter is_full_constructor cs))
  where
    counted : (b : Bool) (d : Node) (ds : List Node) → length (cond b (d ∷ ds) ds) ≡ cond b (suc (length ds)) (length ds)
    counted true d ds = refl
    counted false d ds = refl

two : ℕ → Bool
two (suc (suc n)) = true
two _ = false

by_count : (ds : List Node) → is_some (second_of ds) ≡ two (length ds)
unfolding two
by_count [] = refl
by_count (d ∷ []) = refl
by_count (d ∷ e ∷ ds) = refl

has_second : Kind → Node → Bool
has_second k n = is_some (second_by k n)

second_quiet : Silent has_second
unfolding is_touched has_second
second_quiet (kind.Class is_abstract) n t = cc
second_quiet _ n t = refl

never_second : (text : List ℕ) (n : Node) → (has_second (kind.IdentName text) n ≡ false) × (has_second kind.AssignPat n ≡ false)
unfolding has_second
never_second text n = (refl, refl)

brackets_alone : (n : Node) → (has_second kind.ComputedPropName n ≡ false) × (has_second proto_literal n ≡ false)
unfolding has_second
brackets_alone n = (refl, refl)

second_same : (texts : Texts) (k : Kind) (s : Shape) (n m : Node) (stands : ℕ → Standing) → HaveShapes (child_shapes k s (length (children_of n))) (children_of n) → children_of m ≡ all_become texts stands 0 (children_of n)
    → has_second k m ≡ has_second k n
unfolding has_second
second_same texts (kind.Class is_abstract) s n m stands has is =
    by_count (filter is_full_constructor (items_of (slice_get (children_of m) 1))) ∙ ap (λ (z : List Node). two (length (filter is_full_constructor (items_of (slice_get z 1))))) is
    ∙ items_same texts Bool (λ z. two (length (filter is_full_constructor z))) (λ around cs. ap two (count_same texts around 0 cs)) (child_shapes (kind.Class is_abstract) s (length (children_of n))) (children_of n) has 1 sort.ClassMember refl stands 0
    ∙ sym (by_count (filter is_full_constructor (items_of (slice_get (children_of n) 1))))
second_same texts _ s n m stands has is = refl

pub constructors_kept : FinalTextsKeepConstructors
unfolding has_second
constructors_kept texts =
    test_kept texts has_second second_quiet (λ text n. (never_second text n).0) (λ n. (never_second [] n).1) brackets_alone
    (λ n s stands has u none. second_same texts (kind_of n) s n (become texts n stands) (standing_in stands n) (shape_parts n s has).1 (children_stay texts n stands u) ∙ none)
