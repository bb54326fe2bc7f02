-- Nodes and lists in their spots, and tests that parentheses do not change.
use Rattle.std.proofs.Common.{◌≡◌, ◌∙◌, ◌&&◌, if◌then◌else◌, ℕ, suc, Bool, true, false, List, [], ◌∷◌, map, length, refl, sym, ap, ap₂, subst, slice_get}
use Rattle.std.specs.List.{list_all}
use Rattle.ecma_kind.specs.declared.span.Span.{Span}
use Rattle.ecma_kind.specs.declared.kind.Kind.{Kind}
use Rattle.ecma_kind.specs.declared.kind.Kind.TheVariants as kind
use Rattle.ecma_tree.specs.declared.node.Node.{Node, Node-F, out-Node, roll-Node}
use Rattle.ecma_tree.specs.declared.node.Node.TheViews.{roll-out-Node}
use Rattle.ecma_tree.specs.Nodes.{node_of}
use Rattle.ecma_tree.specs.Sorted.{is_list}
use Rattle.ecma_rules.specs.Children.{child_holds, child_is, holds_of, kind_of, of_kind}
use Rattle.ecma_print.specs.declared.place.Spot.{Spot}
use Rattle.ecma_print.specs.Places.{free}
use Rattle.ecma_print.specs.Laid.{Laid}
use Rattle.ecma_print.specs.Levels.{in_parentheses}
use Rattle.ecma_print.specs.Explicit.{bare, laid_children, parenthesized, stood}
use Rattle.ecma_print.specs.Spots.{first_spots, further_spot}
use Rattle.ecma_print_parentheses.proofs.Standing.{if_false, stands}
use Rattle.ecma_print_parentheses.proofs.Asking.{AllFit, Fits, first_fit, further_fits}
use Rattle.ecma_print_fits.proofs.Parts.{children_made, not_true}
use Rattle.ecma_print_fits.proofs.Explicit.{IsKept, kept_at, kind_at, kind_kept, spotted}
use Rattle.ecma_print_fits.proofs.Holding.{closed, closes}

abbrev children_of : Node → List Node
children_of n = (out-Node n).children

-- what stands in no parentheses anywhere
opens : (k : Kind) (children : List Laid) (spot : Spot) → Fits spot → closes k ≡ false → in_parentheses k children spot ≡ false
opens k children spot fits h = go (in_parentheses k children spot) refl
  where
    go : (b : Bool) → in_parentheses k children spot ≡ b → in_parentheses k children spot ≡ false
    go true e = not_true (sym h ∙ closed k children spot fits e)
    go false e = e

pub open_in : (x : Node-F Node) (spot : Spot) → Fits spot → closes x.kind ≡ false → (stood (roll-Node x)).at spot ≡ bare x.span x.kind (map stood x.children) spot
open_in x spot fits h =
    let own = map stood x.children in
    let ls = laid_children own in
    stands x spot ∙ if_false (in_parentheses x.kind ls spot) (parenthesized (bare x.span x.kind own (free 0))) (bare x.span x.kind own spot) (opens x.kind ls spot fits h)

-- a list has its items in its own spot
pub items_in : (n : Node) (spot : Spot) → Fits spot → is_list (kind_of n) ≡ true → children_of ((stood n).at spot) ≡ spotted (children_of n) [] spot
items_in n spot fits l =
    let x = out-Node n in
    ap (λ m. children_of ((stood m).at spot)) (sym (roll-out-Node n))
    ∙ (ap children_of (open_in x spot fits (list_opens x.kind l))
    ∙ (children_made (record { span = x.span; kind = x.kind; children = spotted x.children (first_spots x.kind (laid_children (map stood x.children)) spot) (further_spot x.kind spot) })
    ∙ listed x.kind (laid_children (map stood x.children)) l))
  where
    list_opens : (k : Kind) → is_list k ≡ true → closes k ≡ false
    list_opens kind.List h = refl
    list_opens _ h = not_true h

    listed : (k : Kind) (ls : List Laid) → is_list k ≡ true → spotted (children_of n) (first_spots k ls spot) (further_spot k spot) ≡ spotted (children_of n) [] spot
    listed kind.List ls h = refl
    listed _ ls h = not_true h

pub as_many : (ns : List Node) (spots : List Spot) (further : Spot) → length (spotted ns spots further) ≡ length ns
as_many [] spots further = refl
as_many (n ∷ ns) [] further = ap suc (as_many ns [] further)
as_many (n ∷ ns) (spot ∷ spots) further = ap suc (as_many ns spots further)

pub all_at : (test : Node → Bool) → IsKept test → (ns : List Node) (spot : Spot) → Fits spot → list_all test (spotted ns [] spot) ≡ list_all test ns
all_at test kept [] spot fits = refl
all_at test kept (n ∷ ns) spot fits = ap₂ (λ a b. a && b) (kept n spot fits) (all_at test kept ns spot fits)

-- kinds of which none may stand in parentheses
abbrev pub NoneClose : (Kind → Bool) → Type 0
NoneClose is = (k : Kind) → is k ≡ true → closes k ≡ false

pub kinds_kept : (is : Kind → Bool) → is kind.ParenExpr ≡ false → NoneClose is → IsKept (λ n. is (kind_of n))
kinds_kept is none free_of = kind_kept is none (λ k children spot fits e. opens k children spot fits (free_of k e))

pub none_closes : (is : Kind → Bool) → NoneClose is → (k : Kind) → closes k ≡ true → is k ≡ false
none_closes is free_of k c = go (is k) refl
  where
    go : (b : Bool) → is k ≡ b → is k ≡ false
    go true e = not_true (sym (free_of k e) ∙ c)
    go false e = e

-- a test by the kind and the children of a node, that nothing passes that may stand in parentheses
module _ (T : Node → Bool) (t : Kind → List Node → Bool) (made : (x : Node-F Node) → T (roll-Node x) ≡ t x.kind x.children) (never : (n : Node) → T (parenthesized n) ≡ false)
    (closing : (k : Kind) (ns : List Node) → closes k ≡ true → t k ns ≡ false) (here : (k : Kind) (ns : List Node) (spots : List Spot) (further : Spot) → AllFit spots → Fits further → t k (spotted ns spots further) ≡ t k ns) where
  layer_kept : (x : Node-F Node) (spot : Spot) → Fits spot → T ((stood (roll-Node x)).at spot) ≡ T (roll-Node x)
  layer_kept x spot fits =
      let ls = laid_children (map stood x.children) in
      ap T (stands x spot) ∙ either (in_parentheses x.kind ls spot) (λ e. closed x.kind ls spot fits e)
    where
      either : (b : Bool) → (b ≡ true → closes x.kind ≡ true) → T (if b then parenthesized (bare x.span x.kind (map stood x.children) (free 0)) else bare x.span x.kind (map stood x.children) spot) ≡ T (roll-Node x)
      either true c = never (bare x.span x.kind (map stood x.children) (free 0)) ∙ sym (made x ∙ closing x.kind x.children (c refl))
      either false c =
          let ls = laid_children (map stood x.children) in
          made (record { span = x.span; kind = x.kind; children = spotted x.children (first_spots x.kind ls spot) (further_spot x.kind spot) })
          ∙ (here x.kind x.children (first_spots x.kind ls spot) (further_spot x.kind spot) (first_fit x.kind ls spot fits) (further_fits x.kind spot fits) ∙ sym (made x))

  pub test_kept : IsKept T
  test_kept n spot fits = subst (λ (m : Node). T ((stood m).at spot) ≡ T m) (roll-out-Node n) (layer_kept (out-Node n) spot fits)

-- what is read of the children of a node
pub by_children : (span : Span) (k : Kind) (cs ns : List Node) (read : List Node → Bool) → read cs ≡ read ns → read (children_of (node_of span k cs)) ≡ read (children_of (node_of span k ns))
by_children span k cs ns read e =
    ap read (children_made (record { span = span; kind = k; children = cs })) ∙ (e ∙ sym (ap read (children_made (record { span = span; kind = k; children = ns }))))

-- tests of the children of a node that stands in no parentheses

pub children_in : (n : Node) (spot : Spot) → Fits spot → closes (kind_of n) ≡ false
    → children_of ((stood n).at spot) ≡ spotted (children_of n) (first_spots (kind_of n) (laid_children (map stood (children_of n))) spot) (further_spot (kind_of n) spot)
children_in n spot fits h =
    let x = out-Node n in
    ap (λ m. children_of ((stood m).at spot)) (sym (roll-out-Node n))
    ∙ (ap children_of (open_in x spot fits h) ∙ children_made (record { span = x.span; kind = x.kind; children = spotted x.children (first_spots x.kind (laid_children (map stood x.children)) spot) (further_spot x.kind spot) }))

pub holds_in : (test : Node → Bool) → IsKept test → (n : Node) (spot : Spot) → Fits spot → closes (kind_of n) ≡ false → (i : ℕ) → child_holds test ((stood n).at spot) i ≡ child_holds test n i
holds_in test kept n spot fits h i =
    let ls = laid_children (map stood (children_of n)) in
    ap (λ (z : List Node). holds_of test (slice_get z i)) (children_in n spot fits h)
    ∙ kept_at test kept (children_of n) (first_spots (kind_of n) ls spot) (further_spot (kind_of n) spot) (first_fit (kind_of n) ls spot fits) (further_fits (kind_of n) spot fits) i

pub is_in : (is : Kind → Bool) → IsKept (λ n. is (kind_of n)) → (n : Node) (spot : Spot) → Fits spot → closes (kind_of n) ≡ false → (i : ℕ) → child_is is ((stood n).at spot) i ≡ child_is is n i
is_in is kept n spot fits h i =
    let ls = laid_children (map stood (children_of n)) in
    ap (λ (z : List Node). of_kind is (slice_get z i)) (children_in n spot fits h)
    ∙ kind_at is kept (children_of n) (first_spots (kind_of n) ls spot) (further_spot (kind_of n) spot) (first_fit (kind_of n) ls spot fits) (further_fits (kind_of n) spot fits) i
