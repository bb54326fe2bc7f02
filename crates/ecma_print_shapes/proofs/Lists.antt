-- Arguments and the elements of arrays have their shapes.
use Rattle.std.proofs.Common.{◌≡◌, ◌∙◌, refl, sym, ap, subst, Bool, true, false, ◌||◌, List, [], ◌∷◌, map, length, replicate}
use Rattle.ecma_kind.specs.Sorts.{is_expr}
use Rattle.ecma_kind.specs.declared.span.Span.{Span}
use Rattle.ecma_kind.specs.declared.kind.Kind.{Kind}
use Rattle.ecma_kind.specs.declared.kind.Kind.TheVariants as kind
use Rattle.ecma_kind.specs.declared.shapes.Shape.{Shape}
use Rattle.ecma_kind.specs.declared.shapes.Sort.TheVariants as sort
use Rattle.ecma_tree.specs.declared.node.Node.{Node, out-Node}
use Rattle.ecma_tree.specs.declared.node.Node.TheViews.{roll-out-Node}
use Rattle.ecma_tree.specs.Nodes.{node_of}
use Rattle.ecma_tree.specs.Sorted.{allows, is_absent, is_list, item_shape, maybe, one, with_holes}
use Rattle.ecma_rules.specs.declared.target.Target.TheVariants as target
use Rattle.ecma_rules.specs.Children.{kind_of}
use Rattle.ecma_rules.specs.Finishing.{each_in}
use Rattle.ecma_rules.specs.Targets.{target_in}
use Rattle.ecma_covers.specs.Covering.{cover_at, cover_in}
use Rattle.ecma_fits.specs.declared.role.Role.{Role}
use Rattle.ecma_fits.specs.declared.role.Role.TheVariants as role
use Rattle.ecma_fits.specs.Roles.{role_in}
use Rattle.ecma_print.specs.declared.place.Spot.{Spot}
use Rattle.ecma_print.specs.Places.{free}
use Rattle.ecma_shapes.specs.Shapes.{AreElements, AreSlots, IsArguments, IsElement, IsExpression, arguments, array, filled, hole, more_elements, new_callee, no_arguments, no_elements, no_slots, spread, values}
use Rattle.ecma_shapes.specs.Shapes as shapes
use Rattle.ecma_print_shapes.proofs.Building.{absent_shape}
use Rattle.ecma_print_shapes.proofs.Claims.{AllFormed, Formed, FormedExpression, seen, value_kind}
use Rattle.ecma_print_shapes.proofs.Covered.{covered, covered_children}
use Rattle.ecma_print_shapes.proofs.Sound.{AllSound, Here, Sound}
use Rattle.ecma_print_shapes.proofs.Spots.{assigned, child_value, proper_free}

-- one argument

spread_formed : {r : Role} {spot : Spot} {shape : Shape} (at : Span) (cs : List Node) → AllFormed cs → Here r spot shape at kind.SpreadElement cs → IsElement values (cover_at (node_of at kind.SpreadElement cs) target.Free)
unfolding cover_in target_in role_in
spread_formed at [] f h = absurd h.below
spread_formed at (a ∷ []) f h =
    subst (IsElement values) (sym (covered at kind.SpreadElement (a ∷ []) target.Free refl)) (spread at (assigned (child_value f.0 h.below.0 refl (proper_free 1)) refl))
spread_formed at (a ∷ b ∷ cs) f h = absurd h.below.1

value_formed : {shape : Shape} (n : Node) → FormedExpression n → Sound role.Free (free 1) shape n → is_expr (kind_of n) ≡ true → IsElement values (cover_at n target.Free)
value_formed {shape} n f s is = shapes.IsElement.one (assigned (f role.Free target.Free (free 1) shape s (proper_free 1) refl (value_kind n s is)) refl)

data ElementKind (k : Kind) : Type 0 where
  value_element : is_expr k ≡ true → ElementKind k
  spread_element : k ≡ kind.SpreadElement → ElementKind k

element_kind : (k : Kind) → allows (one sort.ExprOrSpread) k ≡ true → ElementKind k
element_kind kind.SpreadElement h = spread_element refl
element_kind k h = value_element h

element_by : {shape : Shape} (n : Node) → AllFormed (out-Node n).children → FormedExpression n → Sound role.Free (free 1) shape n → ElementKind (kind_of n) → IsElement values (cover_at n target.Free)
element_by n below f s (value_element is) = value_formed n f s is
element_by {shape} n below f s (spread_element e) =
    let x = out-Node n in
    let h = subst (λ k. Here role.Free (free 1) shape x.span k x.children) e (seen n s) in
    subst (λ m. IsElement values (cover_at m target.Free)) (roll-out-Node n) (subst (λ k. IsElement values (cover_at (node_of x.span k x.children) target.Free)) (sym e) (spread_formed x.span x.children below h))

pub element_formed : (n : Node) → AllFormed (out-Node n).children → FormedExpression n → (shape : Shape) → Sound role.Free (free 1) shape n → allows (one sort.ExprOrSpread) (kind_of n) ≡ true → IsElement values (cover_at n target.Free)
element_formed n below f shape s h = element_by n below f s (element_kind (kind_of n) h)

-- arguments

abbrev pub Items : Shape → List Node → Type 0
Items shape cs = AllSound (λ i. role.Free) [] (free 1) (replicate (length cs) shape) cs

one_item : (shape : Shape) → shape ≡ one sort.ExprOrSpread → (n : Node) → Formed n → Sound role.Free (free 1) shape n → IsElement values (cover_at n target.Free)
one_item shape e n f s = f.element shape s (subst (λ z. allows z (kind_of n) ≡ true) e (seen n s).allowed)

elements_of : (shape : Shape) → shape ≡ one sort.ExprOrSpread → (cs : List Node) → AllFormed cs → Items shape cs → AreElements values (each_in (λ i. target.Free) (map cover_at cs))
elements_of shape e [] f h = no_elements
elements_of shape e (c ∷ cs) f h = more_elements (one_item shape e c f.0 h.0) (elements_of shape e cs f.1 h.1)

arguments_of : (at : Span) (shape : Shape) → shape ≡ one sort.ExprOrSpread → (cs : List Node) → AllFormed cs → Items shape cs → IsArguments values (node_of at kind.List (each_in (λ i. target.Free) (map cover_at cs)))
arguments_of at shape e [] f h = no_arguments at
arguments_of at shape e (c ∷ cs) f h = arguments at (one_item shape e c f.0 h.0) (elements_of shape e cs f.1 h.1)

list_covered : (at : Span) (cs : List Node) → cover_at (node_of at kind.List cs) target.Free ≡ node_of at kind.List (each_in (λ i. target.Free) (map cover_at cs))
unfolding cover_in target_in
list_covered at cs = covered at kind.List cs target.Free refl

pub list_items : {shape : Shape} (at : Span) (cs : List Node) → Here role.Free (free 1) shape at kind.List cs → Items (item_shape shape) cs
unfolding role_in
list_items at cs h = h.below

list_kind : (k : Kind) → is_list k ≡ true → k ≡ kind.List
list_kind kind.List h = refl
list_kind k h = cc

-- a list by its parts
pub list_there : {shape : Shape} (n : Node) → Sound role.Free (free 1) shape n → is_list (kind_of n) ≡ true → Here role.Free (free 1) shape (out-Node n).span kind.List (out-Node n).children
list_there {shape} n s is = subst (λ k. Here role.Free (free 1) shape (out-Node n).span k (out-Node n).children) (list_kind (kind_of n) is) (seen n s)

pub cover_of_list : (n : Node) → is_list (kind_of n) ≡ true → cover_at n target.Free ≡ node_of (out-Node n).span kind.List (each_in (λ i. target.Free) (map cover_at (out-Node n).children))
cover_of_list n is =
    let x = out-Node n in
    ap (λ m. cover_at m target.Free) (sym (roll-out-Node n)) ∙ ap (λ k. cover_at (node_of x.span k x.children) target.Free) (list_kind x.kind is) ∙ list_covered x.span x.children

pub arguments_formed : (n : Node) → AllFormed (out-Node n).children → (shape : Shape) → item_shape shape ≡ one sort.ExprOrSpread → Sound role.Free (free 1) shape n → is_list (kind_of n) ≡ true → IsArguments values (cover_at n target.Free)
arguments_formed n below shape e s is =
    let x = out-Node n in
    subst (IsArguments values) (sym (cover_of_list n is)) (arguments_of x.span (item_shape shape) e x.children below (list_items x.span x.children (list_there n s is)))

-- elements and holes

slot_by : (n : Node) (missing : Bool) → is_absent (kind_of n) ≡ missing → Formed n → Sound role.Free (free 1) (maybe sort.ExprOrSpread) n → (ns : List Node) → AreSlots values ns → AreSlots values (cover_at n target.Free ∷ ns)
slot_by n true e f s ns more = hole (absent_shape target.Free n s e) more
slot_by n false e f s ns more = filled (f.element (maybe sort.ExprOrSpread) s (there (is_absent (kind_of n)) (allows (one sort.ExprOrSpread) (kind_of n)) (seen n s).allowed e)) more
  where
    there : (a b : Bool) → (a || b) ≡ true → a ≡ false → b ≡ true
    there true b h z = cc
    there false b h z = h

slots_of : (cs : List Node) → AllFormed cs → Items (maybe sort.ExprOrSpread) cs → AreSlots values (each_in (λ i. target.Free) (map cover_at cs))
slots_of [] f h = no_slots
slots_of (c ∷ cs) f h = slot_by c (is_absent (kind_of c)) refl f.0 h.0 (each_in (λ i. target.Free) (map cover_at cs)) (slots_of cs f.1 h.1)

pub slots_formed : (n : Node) → AllFormed (out-Node n).children → Sound role.Free (free 1) (with_holes sort.ExprOrSpread) n → (at : Span) × (ns : List Node) × (cover_at n target.Free ≡ node_of at kind.List ns) × AreSlots values ns
slots_formed n below s =
    let x = out-Node n in
    let is = (seen n s).allowed in
    (x.span, each_in (λ i. target.Free) (map cover_at x.children), cover_of_list n is, slots_of x.children below (list_items x.span x.children (list_there n s is)))

module _ {r : Role} {spot : Spot} {shape : Shape} (at : Span) where
  pub array_formed : (cs : List Node) → AllFormed cs → Here r spot shape at kind.ArrayLit cs → IsExpression new_callee (node_of at kind.ArrayLit (covered_children target.Free kind.ArrayLit cs))
  unfolding cover_in target_in role_in
  array_formed [] f h = absurd h.below
  array_formed (a ∷ []) f h = let l = f.0.slots h.below.0 in subst (λ z. IsExpression new_callee (node_of at kind.ArrayLit (z ∷ []))) (sym l.2) (array at l.0 l.3)
  array_formed (a ∷ b ∷ cs) f h = absurd h.below.1
