-- A node by its kind, and by another shape that it has.
use Rattle.std.proofs.Common.{◌≡◌, refl, sym, subst, ℕ, zero, suc, true, false, List, length}
use Rattle.std.proofs.lemmas.Bool.{false≢true}
use Rattle.ecma_kind.specs.declared.span.Span.{Span}
use Rattle.ecma_kind.specs.declared.kind.Kind.{Kind}
use Rattle.ecma_kind.specs.declared.kind.Kind.TheVariants as kind
use Rattle.ecma_kind.specs.declared.shapes.Shape.{Shape}
use Rattle.ecma_kind.specs.declared.shapes.Sort.{Sort}
use Rattle.ecma_tree.specs.declared.node.Node.{Node, out-Node}
use Rattle.ecma_tree.specs.declared.node.Node.TheViews.{roll-out-Node}
use Rattle.ecma_tree.specs.Laws.{HaveShapes}
use Rattle.ecma_tree.specs.Nodes.{node_of}
use Rattle.ecma_tree.specs.Sorted.{HasShape, allows, child_shapes, is_absent, is_list, maybe, one}
use Rattle.ecma_tree.proofs.ShapeLaws.{node_has_shape}
use Rattle.ecma_rules.specs.Children.{kind_of}
use Rattle.ecma_fits.specs.declared.role.Role.{Role}
use Rattle.ecma_print.specs.declared.place.Spot.{Spot}
use Rattle.ecma_print_shapes.proofs.Claims.{seen}
use Rattle.ecma_print_shapes.proofs.Sound.{Here, Sound}

-- of a node of this kind, what is said of its parts
pub seen_as : {r : Role} {spot : Spot} {shape : Shape} (n : Node) (k : Kind) → kind_of n ≡ k → Sound r spot shape n → Here r spot shape (out-Node n).span k (out-Node n).children
seen_as {r} {spot} {shape} n k e s = subst (λ z. Here r spot shape (out-Node n).span z (out-Node n).children) e (seen n s)

-- and what holds of the parts holds of it
pub made_as : (P : Node → Type 0) (n : Node) (k : Kind) → kind_of n ≡ k → P (node_of (out-Node n).span k (out-Node n).children) → P n
made_as P n k e h = subst P (roll-out-Node n) (subst (λ z. P (node_of (out-Node n).span z (out-Node n).children)) (sym e) h)

-- the shapes of the children of what is no list are those of its kind
same_children : (k : Kind) (a b : Shape) (n : ℕ) → is_list k ≡ false → child_shapes k a n ≡ child_shapes k b n
same_children kind.List a b n h = absurd (false≢true (sym h))
same_children kind.SeqExpr a b zero h = refl
same_children kind.SeqExpr a b (suc n) h = refl
same_children k a b n h = refl

no_list : (shape : Shape) (k : Kind) → allows shape kind.List ≡ false → allows shape k ≡ true → is_list k ≡ false
no_list shape kind.List h a = absurd (false≢true (subst (λ b. b ≡ true) h a))
no_list shape k h a = refl

reshaped : (a b : Shape) (at : Span) (k : Kind) (cs : List Node) → allows b kind.List ≡ false → allows b k ≡ true → HasShape a (node_of at k cs) → HasShape b (node_of at k cs)
reshaped a b at k cs out is h = (node_has_shape at k cs b).1 (is, subst (λ z. HaveShapes z cs) (same_children k a b (length cs) (no_list b k out is)) ((node_has_shape at k cs a).0 h).1)

-- what is no list has each shape that allows its kind
pub in_shape : {r : Role} {spot : Spot} {a : Shape} (b : Shape) (n : Node) → allows b kind.List ≡ false → allows b (kind_of n) ≡ true → Sound r spot a n → Sound r spot b n
in_shape {a = a} b n out is s = record {
  shaped = subst (HasShape b) (roll-out-Node n) (reshaped a b (out-Node n).span (out-Node n).kind (out-Node n).children out is (subst (HasShape a) (sym (roll-out-Node n)) s.shaped));
  fitting = s.fitting;
  complete = s.complete;
  bare = s.bare;
  usual = s.usual;
}

-- a child that may be missing and is there
pub sort_there : (s : Sort) (k : Kind) → allows (maybe s) k ≡ true → is_absent k ≡ false → allows (one s) k ≡ true
sort_there s kind.Absent h e = absurd (false≢true (sym e))
sort_there s k h e = h

pub in_place : {r : Role} {spot : Spot} (s : Sort) (n : Node) → allows (one s) kind.List ≡ false → is_absent (kind_of n) ≡ false → Sound r spot (maybe s) n → Sound r spot (one s) n
in_place s n out e h = in_shape (one s) n out (sort_there s (kind_of n) (seen n h).allowed e) h
