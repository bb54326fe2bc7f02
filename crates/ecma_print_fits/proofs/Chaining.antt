-- Explicit parentheses keep the clauses on optional chains and on constructors.
use Rattle.std.proofs.Common.{◌≡◌, ◌∙◌, ◌||◌, ◌&&◌, ltb, not, ℕ, Bool, true, false, List, [], ◌∷◌, map, length, refl, sym, ap, ap₂, subst, slice_get}
use Rattle.ecma_kind.specs.Sorts.{belongs}
use Rattle.ecma_kind.specs.declared.span.Span.{Span}
use Rattle.ecma_kind.specs.declared.kind.Kind.{Kind}
use Rattle.ecma_kind.specs.declared.kind.Kind.TheVariants as kind
use Rattle.ecma_kind.specs.declared.shapes.Shape.{Shape}
use Rattle.ecma_kind.specs.declared.shapes.Sort.TheVariants as sort
use Rattle.ecma_tree.specs.declared.node.Node.{Node, Node-F, fold-roll-Node, ind-Node, out-Node, roll-Node}
use Rattle.ecma_tree.specs.declared.node.Node.TheViews.{roll-out-Node}
use Rattle.ecma_tree.specs.Laws.{HaveShapes}
use Rattle.ecma_tree.specs.Nodes.{dummy_span, node_of}
use Rattle.ecma_tree.specs.Sorted.{HasShape, child_shapes, one}
use Rattle.ecma_rules.specs.Children.{holds_of}
use Rattle.ecma_rules.specs.Targets.{first_is}
use Rattle.ecma_print.specs.declared.place.Beside.TheVariants.{InChain, OfLink}
use Rattle.ecma_print.specs.declared.place.Spot.{Spot}
use Rattle.ecma_print.specs.Places.{ends_a_chain, free, left}
use Rattle.ecma_print.specs.Laid.{Laid}
use Rattle.ecma_print.specs.Levels.{in_parentheses}
use Rattle.ecma_print.specs.Explicit.{bare, laid_children, parenthesized, stood}
use Rattle.ecma_print.specs.Spots.{first_spots, further_spot}
use Rattle.ecma_print_parentheses.proofs.Standing.{if_false, stands}
use Rattle.ecma_fits.specs.Chains.{goes_on, goes_on_step, is_behind_chain, is_link, is_loose, is_loose_by, keeps_chain}
use Rattle.ecma_fits.specs.Fitting.{at_top}
use Rattle.ecma_print_fits.specs.Laws.{ExplicitChainsStay}
use Rattle.ecma_print_fits.proofs.Parts.{children_made, kind_made, not_true, shape_allows, shape_made}
use Rattle.ecma_print_fits.proofs.Explicit.{AllHold, kept, spotted}

-- nodes with a shape
abbrev pub Shaped : Node → Type 0
Shaped n = (o : Shape) × HasShape o n

all_shaped : (os : List Shape) (ns : List Node) → HaveShapes os ns → AllHold Shaped ns
all_shaped [] [] h = tt
all_shaped [] (n ∷ ns) h = absurd h
all_shaped (o ∷ os) [] h = absurd h
all_shaped (o ∷ os) (n ∷ ns) h = ((o, h.0), all_shaped os ns h.1)

pub shaped_below : (x : Node-F Node) → Shaped (roll-Node x) → AllHold Shaped x.children
shaped_below x h = all_shaped (child_shapes x.kind h.0 (length x.children)) x.children (shape_made x h.0 h.1).1

-- a spot in which no parentheses stand round what a chain goes on behind
record InLink (spot : Spot) : Type 0 where
  fits : ltb 17 spot.level ≡ false
  level : ltb 16 spot.level ≡ false
  chain : ends_a_chain spot.beside ≡ false

goes_made : (x : Node-F Node) → goes_on (roll-Node x) ≡ (is_link x.kind || (keeps_chain x.kind && first_is (map goes_on x.children)))
goes_made x = fold-roll-Node Bool goes_on_step x

chain_opens : (k : Kind) (children : List Laid) (spot : Spot) → InLink spot → (is_link k || keeps_chain k) ≡ true → in_parentheses k children spot ≡ false
chain_opens (kind.OptChainExpr optional) children spot h e = ap₂ (λ a b. a || b) h.level h.chain
chain_opens kind.TsNonNullExpr children spot h e = ap (λ a. a || false) h.fits
chain_opens kind.TsInstantiation children spot h e = ap (λ a. a || false) h.fits
chain_opens _ children spot h e = not_true e

is_chain : (link keeps first : Bool) → (link || (keeps && first)) ≡ true → (link || keeps) ≡ true
is_chain true keeps first h = refl
is_chain false true first h = refl
is_chain false false first h = h

abbrev Goes : Node → Type 0
Goes n = (spot : Spot) → InLink spot → goes_on n ≡ true → goes_on ((stood n).at spot) ≡ true

abbrev FirstGoes : List Node → Type 0
FirstGoes ns = first_is (map goes_on ns) ≡ true → first_is (map goes_on (spotted ns [] (free 0))) ≡ true

first_goes : (es : List ((n : Node) × Goes n)) → FirstGoes (map (λ e. e.0) es)
first_goes [] h = h
first_goes (e ∷ es) h = e.1 (free 0) (record { fits = refl; level = refl; chain = refl }) h

bare_goes : (k : Kind) (ns : List Node) (children : List Laid) (spot : Spot) → FirstGoes ns → (is_link k || (keeps_chain k && first_is (map goes_on ns))) ≡ true
    → (is_link k || (keeps_chain k && first_is (map goes_on (spotted ns (first_spots k children spot) (further_spot k spot))))) ≡ true
bare_goes (kind.OptChainExpr optional) ns children spot below h = refl
bare_goes kind.TsNonNullExpr ns children spot below h = below h
bare_goes kind.TsInstantiation ns children spot below h = below h
bare_goes _ ns children spot below h = not_true h

node_goes : (x : Node-F Node) → FirstGoes x.children → Goes (roll-Node x)
node_goes x below spot link h =
    let own = map stood x.children in
    let ls = laid_children own in
    let e : (is_link x.kind || (keeps_chain x.kind && first_is (map goes_on x.children))) ≡ true = sym (goes_made x) ∙ h in
    let opens = chain_opens x.kind ls spot link (is_chain (is_link x.kind) (keeps_chain x.kind) (first_is (map goes_on x.children)) e) in
    ap goes_on (stands x spot ∙ if_false (in_parentheses x.kind ls spot) (parenthesized (bare x.span x.kind own (free 0))) (bare x.span x.kind own spot) opens)
    ∙ (goes_made (record { span = x.span; kind = x.kind; children = spotted x.children (first_spots x.kind ls spot) (further_spot x.kind spot) }) ∙ bare_goes x.kind x.children ls spot below e)

goes : (n : Node) → Goes n
goes = ind-Node Goes (λ x y is. node_goes x (subst (λ (z : Node-F Node). FirstGoes z.children) is (first_goes y.children)))

-- the object or the callee of a link

in_link : (spot : Spot) → InLink (left spot 16 InChain)
in_link spot = record { fits = refl; level = refl; chain = refl }

first_behind : (y : Node-F Node) (n : Node) (ns : List Node) → y.children ≡ n ∷ ns → goes_on n ≡ true → is_behind_chain (roll-Node y) ≡ true
first_behind y n ns e h = ap (λ (z : List Node). holds_of goes_on (slice_get z 0)) (children_made y ∙ e) ∙ h

base_goes : (at : Span) (k : Kind) (ns : List Node) (spot : Spot) → belongs sort.OptChainBase k ≡ true → holds_of goes_on (slice_get ns 0) ≡ true → is_behind_chain ((stood (node_of at k ns)).at (left spot 0 OfLink)) ≡ true
base_goes at kind.MemberExpr [] spot b h = not_true h
base_goes at kind.MemberExpr (n ∷ ns) spot b h =
    let s = left spot 0 OfLink in
    let x : Node-F Node = record { span = at; kind = kind.MemberExpr; children = n ∷ ns } in
    let ls = laid_children (map stood (n ∷ ns)) in
    let y : Node-F Node = record { span = at; kind = kind.MemberExpr; children = spotted (n ∷ ns) (first_spots kind.MemberExpr ls s) (further_spot kind.MemberExpr s) } in
    ap is_behind_chain (stands x s) ∙ first_behind y ((stood n).at (left s 16 InChain)) (spotted ns [] (further_spot kind.MemberExpr s)) refl (goes n (left s 16 InChain) (in_link s) h)
base_goes at kind.OptCall [] spot b h = not_true h
base_goes at kind.OptCall (n ∷ ns) spot b h =
    let s = left spot 0 OfLink in
    let x : Node-F Node = record { span = at; kind = kind.OptCall; children = n ∷ ns } in
    let ls = laid_children (map stood (n ∷ ns)) in
    let y : Node-F Node = record { span = at; kind = kind.OptCall; children = spotted (n ∷ ns) (first_spots kind.OptCall ls s) (further_spot kind.OptCall s) } in
    ap is_behind_chain (stands x s) ∙ first_behind y ((stood n).at (left s 16 InChain)) (spotted ns (free 1 ∷ []) (further_spot kind.OptCall s)) refl (goes n (left s 16 InChain) (in_link s) h)
base_goes at _ ns spot b h = not_true b

behind : (n : Node) (spot : Spot) → HasShape (one sort.OptChainBase) n → is_behind_chain n ≡ true → is_behind_chain ((stood n).at (left spot 0 OfLink)) ≡ true
behind n spot shape h =
    let x = out-Node n in
    ap (λ m. is_behind_chain ((stood m).at (left spot 0 OfLink))) (sym (roll-out-Node n)) ∙ base_goes x.span x.kind x.children spot (shape_allows n (one sort.OptChainBase) shape) h

-- links

abbrev loose : Kind → List Node → Bool
loose (kind.OptChainExpr optional) ns = not optional && not (holds_of is_behind_chain (slice_get ns 0))
loose _ ns = false

loose_made : (x : Node-F Node) → is_loose (roll-Node x) ≡ loose x.kind x.children
loose_made x = ap (λ k. is_loose_by k (roll-Node x)) (kind_made x) ∙ by x.kind
  where
    by : (k : Kind) → is_loose_by k (roll-Node x) ≡ loose k x.children
    by (kind.OptChainExpr optional) = ap (λ (z : List Node). not optional && not (holds_of is_behind_chain (slice_get z 0))) (children_made x)
    by _ = refl

unnot : (b : Bool) → not b ≡ false → b ≡ true
unnot true h = refl
unnot false h = not_true (sym h)

loose_here : (k : Kind) (ns : List Node) (children : List Laid) (spot : Spot) (o : Shape) (n : ℕ) → HaveShapes (child_shapes k o n) ns → loose k ns ≡ false → loose k (spotted ns (first_spots k children spot) (further_spot k spot)) ≡ false
loose_here (kind.OptChainExpr true) ns children spot o n have h = refl
loose_here (kind.OptChainExpr false) [] children spot o n have h = absurd have
loose_here (kind.OptChainExpr false) (b ∷ ns) children spot o n have h = ap not (behind b spot have.0 (unnot (is_behind_chain b) h))
loose_here _ ns children spot o n have h = refl

pub chains_stay : ExplicitChainsStay
chains_stay tree sorted h =
    kept Shaped is_loose shaped_below (λ n. loose_made (record { span = dummy_span; kind = kind.ParenExpr; children = n ∷ [] }))
    (λ span k ns children spot fits shaped e. loose_made (record { span = span; kind = k; children = spotted ns (first_spots k children spot) (further_spot k spot) })
    ∙ loose_here k ns children spot shaped.0 (length ns) (shape_made (record { span = span; kind = k; children = ns }) shaped.0 shaped.1).1 (sym (loose_made (record { span = span; kind = k; children = ns })) ∙ e))
    tree (one sort.Module, sorted) at_top h (free 0) refl at_top

pub ruleset chains = (chains_stay)
