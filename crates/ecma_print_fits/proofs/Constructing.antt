-- Explicit parentheses keep the clause on constructors.
use Rattle.std.proofs.Common.{◌≡◌, ◌∙◌, ◌&&◌, ℕ, Bool, true, false, List, [], ◌∷◌, map, length, filter, Option, None, is_some, refl, sym, ap, ap₂, subst, slice_get}
use Rattle.ecma_kind.specs.declared.kind.Kind.{Kind}
use Rattle.ecma_kind.specs.declared.kind.Kind.TheVariants as kind
use Rattle.ecma_kind.specs.declared.shapes.Shape.{Shape}
use Rattle.ecma_kind.specs.declared.shapes.Sort.TheVariants as sort
use Rattle.ecma_tree.specs.declared.node.Node.{Node, Node-F, out-Node, roll-Node}
use Rattle.ecma_tree.specs.declared.node.Node.TheViews.{roll-out-Node}
use Rattle.ecma_tree.specs.Laws.{HaveShapes}
use Rattle.ecma_tree.specs.Nodes.{dummy_span, node_of}
use Rattle.ecma_tree.specs.Sorted.{HasShape, child_shapes, is_list, many, one}
use Rattle.ecma_rules.specs.Children.{children_of as items_of, is_present, of_kind}
use Rattle.ecma_rules.specs.Members.{is_constructor, is_full_constructor, second_by, second_constructor, second_of, has_second_constructor}
use Rattle.ecma_print.specs.declared.place.Spot.{Spot}
use Rattle.ecma_print.specs.Places.{free}
use Rattle.ecma_print.specs.Laid.{Laid}
use Rattle.ecma_print.specs.Levels.{in_parentheses}
use Rattle.ecma_print.specs.Explicit.{bare, laid_children, parenthesized, stood}
use Rattle.ecma_print.specs.Spots.{first_spots, further_spot}
use Rattle.ecma_print_parentheses.proofs.Standing.{if_false, stands}
use Rattle.ecma_print_parentheses.proofs.Asking.{first_fit, further_fits, open_where_free}
use Rattle.ecma_fits.specs.Fitting.{at_top}
use Rattle.ecma_print_fits.specs.Laws.{ExplicitConstructorsStay}
use Rattle.ecma_print_fits.proofs.Parts.{children_made, kind_made, not_true, shape_allows, shape_made}
use Rattle.ecma_print_fits.proofs.Tests.{counted, no_second}
use Rattle.ecma_print_fits.proofs.Explicit.{kept, kind_at, spotted}
use Rattle.ecma_print_fits.proofs.Branching.{present_kept}
use Rattle.ecma_print_fits.proofs.Chaining.{Shaped, shaped_below}

-- where nothing stands around, a node stands without parentheses
pub open_there : (x : Node-F Node) → (stood (roll-Node x)).at (free 0) ≡ bare x.span x.kind (map stood x.children) (free 0)
open_there x =
    let own = map stood x.children in
    let ls = laid_children own in
    stands x (free 0) ∙ if_false (in_parentheses x.kind ls (free 0)) (parenthesized (bare x.span x.kind own (free 0))) (bare x.span x.kind own (free 0)) (open_where_free x.kind ls)

abbrev full : Kind → List Node → Bool
full k ns = is_constructor k && of_kind is_present (slice_get ns 2)

full_made : (x : Node-F Node) → is_full_constructor (roll-Node x) ≡ full x.kind x.children
full_made x = ap₂ full (kind_made x) (children_made x)

full_parts : (x : Node-F Node) → is_full_constructor ((stood (roll-Node x)).at (free 0)) ≡ is_full_constructor (roll-Node x)
full_parts x =
    let ls = laid_children (map stood x.children) in
    let spots = first_spots x.kind ls (free 0) in
    let further = further_spot x.kind (free 0) in
    ap is_full_constructor (open_there x)
    ∙ (full_made (record { span = x.span; kind = x.kind; children = spotted x.children spots further })
    ∙ (ap (λ b. is_constructor x.kind && b) (kind_at is_present present_kept x.children spots further (first_fit x.kind ls (free 0) refl) (further_fits x.kind (free 0) refl) 2) ∙ sym (full_made x)))

full_stays : (n : Node) → is_full_constructor ((stood n).at (free 0)) ≡ is_full_constructor n
full_stays n = subst (λ (m : Node). is_full_constructor ((stood m).at (free 0)) ≡ is_full_constructor m) (roll-out-Node n) (full_parts (out-Node n))

as_many : (ns : List Node) → length (filter is_full_constructor (spotted ns [] (free 0))) ≡ length (filter is_full_constructor ns)
as_many [] = refl
as_many (n ∷ ns) = counted (is_full_constructor ((stood n).at (free 0))) (is_full_constructor n) ((stood n).at (free 0)) n _ _ (full_stays n) (as_many ns)

abbrev second_in : List Node → Option ℕ
second_in items = second_of (filter is_full_constructor items)

-- the items of a list
items_there : (x : Node-F Node) → is_list x.kind ≡ true → (out-Node ((stood (roll-Node x)).at (free 0))).children ≡ spotted x.children [] (free 0)
items_there x l =
    let ls = laid_children (map stood x.children) in
    ap (λ n. (out-Node n).children) (open_there x)
    ∙ (children_made (record { span = x.span; kind = x.kind; children = spotted x.children (first_spots x.kind ls (free 0)) (further_spot x.kind (free 0)) }) ∙ listed x.kind ls l)
  where
    listed : (k : Kind) (ls : List Laid) → is_list k ≡ true → spotted x.children (first_spots k ls (free 0)) (further_spot k (free 0)) ≡ spotted x.children [] (free 0)
    listed kind.List ls h = refl
    listed _ ls h = not_true h

list_single : (n : Node) → HasShape (many sort.ClassMember) n → second_in (out-Node n).children ≡ None → second_in (out-Node ((stood n).at (free 0))).children ≡ None
list_single n h single =
    let x = out-Node n in
    ap (λ m. second_in (out-Node ((stood m).at (free 0))).children) (sym (roll-out-Node n))
    ∙ (ap second_in (items_there x (shape_allows n (many sort.ClassMember) h))
    ∙ no_second (filter is_full_constructor (spotted x.children [] (free 0))) (filter is_full_constructor x.children) (as_many x.children) single)

abbrev second_by_list : Kind → List Node → Option ℕ
second_by_list (kind.Class is_abstract) ns = second_in (items_of (slice_get ns 1))
second_by_list _ ns = None

second_made : (x : Node-F Node) → second_constructor (roll-Node x) ≡ second_by_list x.kind x.children
second_made x = ap (λ k. second_by k (roll-Node x)) (kind_made x) ∙ by x.kind
  where
    by : (k : Kind) → second_by k (roll-Node x) ≡ second_by_list k x.children
    by (kind.Class is_abstract) = ap (λ (z : List Node). second_in (items_of (slice_get z 1))) (children_made x)
    by _ = refl

single_here : (k : Kind) (ns : List Node) (children : List Laid) (spot : Spot) (o : Shape) (n : ℕ) → HaveShapes (child_shapes k o n) ns → second_by_list k ns ≡ None → second_by_list k (spotted ns (first_spots k children spot) (further_spot k spot)) ≡ None
single_here (kind.Class is_abstract) [] children spot o n have h = absurd have
single_here (kind.Class is_abstract) (a ∷ []) children spot o n have h = absurd have.1
single_here (kind.Class is_abstract) (a ∷ b ∷ ns) children spot o n have h = list_single b have.1.0 h
single_here _ ns children spot o n have h = refl

no_place : (o : Option ℕ) → is_some o ≡ false → o ≡ None
no_place None h = refl
no_place _ h = not_true (sym h)

pub constructors_stay : ExplicitConstructorsStay
constructors_stay tree sorted h =
    kept Shaped has_second_constructor shaped_below (λ n. ap is_some (second_made (record { span = dummy_span; kind = kind.ParenExpr; children = n ∷ [] })))
    (λ span k ns children spot fits shaped e. ap is_some (second_made (record { span = span; kind = k; children = spotted ns (first_spots k children spot) (further_spot k spot) })
    ∙ single_here k ns children spot shaped.0 (length ns) (shape_made (record { span = span; kind = k; children = ns }) shaped.0 shaped.1).1
    (sym (second_made (record { span = span; kind = k; children = ns })) ∙ no_place (second_constructor (node_of span k ns)) e)))
    tree (one sort.Module, sorted) at_top h (free 0) refl at_top

pub ruleset constructors = (constructors_stay)
