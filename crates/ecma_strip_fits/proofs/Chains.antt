-- Chains go on without types.
use Rattle.std.proofs.Common.{◌≡◌, ◌∙◌, ℕ, zero, suc, Bool, true, false, not, ◌&&◌, ◌||◌, List, [], ◌∷◌, map, length, Some, refl, sym, ap, subst, slice_get}
use Rattle.ecma_kind.specs.Sorts.{belongs}
use Rattle.ecma_kind.specs.declared.kind.Kind.{Kind}
use Rattle.ecma_kind.specs.declared.kind.Kind.TheVariants as kind
use Rattle.ecma_kind.specs.declared.shapes.Shape.{Shape}
use Rattle.ecma_kind.specs.declared.shapes.Sort.TheVariants as sort
use Rattle.ecma_tree.specs.declared.node.Node.{Node, Node-F, ind-Node, fold_out-Node, roll-Node}
use Rattle.ecma_tree.specs.declared.node.Node.TheViews.{out-roll-Node}
use Rattle.ecma_tree.specs.Sorted.{HasShape, child_shapes, one}
use Rattle.ecma_rules.specs.Children.{child_holds, holds_of, kind_of}
use Rattle.ecma_rules.specs.Targets.{first_is}
use Rattle.ecma_strip.specs.Stripping.{plain_children, plain_kind, stripped}
use Rattle.ecma_fits.specs.Chains.{goes_on, goes_on_step, is_behind_chain, is_link, is_loose, is_loose_by, keeps_chain}
use Rattle.ecma_fits.specs.Fitting.{Fits, NoneFails}
use Rattle.ecma_strip_fits.proofs.Classes.{class_of, wrapped_front}
use Rattle.ecma_strip_fits.proofs.Classes.Class.{Usual, Wrapped}
use Rattle.ecma_strip_fits.proofs.ChildrenKept.{Plain, child_by, one_usual}
use Rattle.ecma_strip_fits.proofs.Tests.{not_loose, test_kept}
use Rattle.ecma_strip_fits.proofs.Walk.{children_of, shape_parts, usual_kind, wrapped_is}

link_plain : Plain Bool is_link
unfolding plain_kind
link_plain kind.Absent = refl
link_plain _ = refl

-- a link is as usual, and what keeps a chain is an expression with a type round it
link_usual : (k : Kind) → is_link k ≡ true → class_of k ≡ Usual
unfolding class_of
link_usual (kind.OptChainExpr optional) e = refl
link_usual _ e = cc

keeps_wrapped : (k : Kind) → keeps_chain k ≡ true → class_of k ≡ Wrapped
unfolding class_of
keeps_wrapped kind.TsNonNullExpr e = refl
keeps_wrapped kind.TsInstantiation e = refl
keeps_wrapped _ e = cc

goes_on-out : (n : Node) → goes_on n ≡ (is_link (kind_of n) || (keeps_chain (kind_of n) && first_is (map goes_on (children_of n))))
goes_on-out n = fold_out-Node Bool goes_on_step n

abbrev Goes : Node → Type 0
Goes n = (s : Shape) → HasShape s n → goes_on n ≡ true → goes_on (stripped n) ≡ true

behind : (a b c : Bool) → a ≡ false → (a || (b && c)) ≡ true → (b ≡ true) × (c ≡ true)
behind true b c l h = cc
behind false true c l h = (refl, h)
behind false false c l h = cc

node_goes : (n : Node) → ((i : ℕ) (c : Node) → slice_get (children_of n) i ≡ Some c → Goes c) → Goes n
node_goes n below s h g = by (is_link (kind_of n)) refl
  where
    by : (link : Bool) → is_link (kind_of n) ≡ link → goes_on (stripped n) ≡ true
    by true l =
        goes_on-out (stripped n)
        ∙ ap (λ b. b || (keeps_chain (kind_of (stripped n)) && first_is (map goes_on (children_of (stripped n))))) (ap is_link (usual_kind n (link_usual (kind_of n) l)) ∙ (link_plain (kind_of n) ∙ l))
    by false l =
        let t = behind (is_link (kind_of n)) (keeps_chain (kind_of n)) (first_is (map goes_on (children_of n))) l (sym (goes_on-out n) ∙ g) in
        let w = keeps_wrapped (kind_of n) t.0 in
        let front = wrapped_front (kind_of n) s (length (children_of n)) (children_of n) w (shape_parts n s h).1 in
        let is : children_of n ≡ front.0 ∷ front.1 = front.2 in
        ap goes_on (wrapped_is n w front.0 front.1 is)
        ∙ below 0 front.0 (ap (λ (z : List Node). slice_get z 0) is) (one sort.Expr) front.3 (ap (λ (z : List Node). first_is (map goes_on z)) (sym is) ∙ t.1)

each_goes : (es : List ((n : Node) × Goes n)) (i : ℕ) (c : Node) → slice_get (map (λ e. e.0) es) i ≡ Some c → Goes c
each_goes [] i c at = cc
each_goes (e ∷ es) zero c at = let same : e.0 ≡ c = cc in subst Goes same e.1
each_goes (e ∷ es) (suc i) c at = each_goes es i c at

goes : (n : Node) → Goes n
goes = ind-Node Goes (λ x y is. node_goes (roll-Node x) (λ i c at.
    each_goes y.children i c (ap (λ (z : Node-F Node). slice_get z.children i) is ∙ (sym (ap (λ (z : Node-F Node). slice_get z.children i) (out-roll-Node x)) ∙ at))))

-- ---- links

some_same : {X : Type 0} {x y : X} → Some x ≡ Some y → x ≡ y
some_same e = cc

base_untouched : (k : Kind) → belongs sort.OptChainBase k ≡ true → (cs : List Node) → slice_get (plain_children k cs) 0 ≡ slice_get cs 0
unfolding plain_children
base_untouched kind.MemberExpr b cs = refl
base_untouched kind.OptCall b cs = refl
base_untouched _ b cs = cc

-- what stands behind a chain does so without types
base_kept : (c : Node) → HasShape (one sort.OptChainBase) c → is_behind_chain c ≡ true → is_behind_chain (stripped c) ≡ true
base_kept c has =
    let b = (shape_parts c (one sort.OptChainBase) has).0 in
    child_by c (one sort.OptChainBase) has (one_usual sort.OptChainBase refl (kind_of c) b) 0 (base_untouched (kind_of c) b) (λ x y. holds_of goes_on x ≡ true → holds_of goes_on y ≡ true) (λ h. h) (λ e o at h. goes e o h)

base_shape : (k : Kind) → is_link k ≡ true → (s : Shape) (m : ℕ) (o : Shape) → slice_get (child_shapes k s m) 0 ≡ Some o → one sort.OptChainBase ≡ o
base_shape (kind.OptChainExpr optional) l s m o at = some_same at
base_shape _ l s m o at = cc

link_untouched : (k : Kind) → is_link k ≡ true → (cs : List Node) → slice_get (plain_children k cs) 0 ≡ slice_get cs 0
unfolding plain_children
link_untouched (kind.OptChainExpr optional) l cs = refl
link_untouched _ l cs = cc

not_false : (b : Bool) → not b ≡ false → b ≡ true
not_false true h = refl
not_false false h = cc

loose_by : (k : Kind) (n m : Node) → (is_link k ≡ true → child_holds is_behind_chain n 0 ≡ true → child_holds is_behind_chain m 0 ≡ true) → is_loose_by k n ≡ false → is_loose_by (plain_kind k) m ≡ false
unfolding plain_kind
loose_by (kind.OptChainExpr true) n m up h = refl
loose_by (kind.OptChainExpr false) n m up h = ap not (up refl (not_false (child_holds is_behind_chain n 0) h))
loose_by kind.Absent n m up h = refl
loose_by _ n m up h = refl

pub chains_kept : (tree : Node) → Fits tree → NoneFails (λ w n. is_loose n) (stripped tree)
chains_kept =
    test_kept is_loose_by (λ n. refl) (λ n. refl) (λ n. refl)
    (λ n s w u h none. loose_by (kind_of n) n (stripped n)
    (λ l. child_by n s h u 0 (link_untouched (kind_of n) l) (λ x y. holds_of is_behind_chain x ≡ true → holds_of is_behind_chain y ≡ true) (λ g. g)
    (λ c o at has. base_kept c (subst (λ z. HasShape z c) (sym (base_shape (kind_of n) l s (length (children_of n)) o at)) has)))
    (not_loose w n none))
