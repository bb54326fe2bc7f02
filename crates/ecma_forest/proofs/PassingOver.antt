-- What a tree's summary tells of searches, changes and lists of what stands in it.
use Rattle.std.proofs.Common.{◌≡◌, ◌∙◌, ◌&&◌, ◌||◌, ℕ, suc, Bool, true, false, List, [], ◌∷◌, ◌++◌, map, flat_map, Some, slice_get, refl, sym, ap}
use Rattle.ecma_kind.specs.declared.span.Span.{Span}
use Rattle.ecma_kind.specs.declared.kind.Kind.{Kind}
use Rattle.ecma_tree.specs.Changing.{changed, changed_here}
use Rattle.ecma_tree.specs.Finding.{enters_all, finds, finds_from, finds_here}
use Rattle.ecma_tree.specs.Gathering.{gathered, gathered_here}
use Rattle.ecma_tree.specs.Nodes.{node_of}
use Rattle.ecma_tree.specs.declared.node.Node.{Node, out-Node, fold_out-Node}
use Rattle.ecma_tree.specs.declared.node.Node.TheViews.{roll-out-Node}
use Rattle.ecma_forest.specs.Changes.{same_span}
use Rattle.ecma_forest.specs.Laws.{ChangesPassOver, SummariesAreFound, RewritingsPassOver, SearchesPassOver}
use Rattle.ecma_forest.specs.Summaries.{AsksByParts, joined_summaries, kind_summary, tree_summary}
use Rattle.ecma_forest.specs.declared.summary.Summary.{Summary}
use Rattle.ecma_forest.proofs.Induction.{by_children}
use Rattle.ecma_forest.proofs.Keeping.{each-none, kept, parts-none, tree_summary-parts}

and-false : (b : Bool) → (b && false) ≡ false
and-false true = refl
and-false false = refl

-- what is so of each item of a list
abbrev OfEach : (Node → Type 0) → List Node → Type 0
OfEach P ns = (i : ℕ) (c : Node) → slice_get ns i ≡ Some c → P c

finds_from-none : (f : Node → Bool) (entered : ℕ → Bool) (place : ℕ) (ns : List Node) → OfEach (λ c. f c ≡ false) ns → finds_from entered place (map f ns) ≡ false
finds_from-none f entered place [] h = refl
finds_from-none f entered place (n ∷ ns) h =
    ap (λ b. (entered place && b) || finds_from entered (suc place) (map f ns)) (h 0 n refl)
    ∙ ap (λ b. b || finds_from entered (suc place) (map f ns)) (and-false (entered place))
    ∙ finds_from-none f entered (suc place) ns (λ i c at. h (suc i) c at)

map-stays : (f : Node → Node) (ns : List Node) → OfEach (λ c. f c ≡ c) ns → map f ns ≡ ns
map-stays f [] h = refl
map-stays f (n ∷ ns) h = rw (h 0 n refl, map-stays f ns (λ i c at. h (suc i) c at)) refl

flat-none : (A : Type 0) (f : Node → List A) (ns : List Node) → OfEach (λ c. f c ≡ []) ns → flat_map (λ items. items) (map f ns) ≡ []
flat-none A f [] h = refl
flat-none A f (n ∷ ns) h = ap (λ items. items ++ flat_map (λ items. items) (map f ns)) (h 0 n refl) ∙ flat-none A f ns (λ i c at. h (suc i) c at)

module _ (asks : Summary → Bool) (law : AsksByParts asks) where
  abbrev is_asked : Kind → Bool
  is_asked kind = asks (kind_summary kind)

  abbrev is_in : Node → Bool
  is_in = finds is_asked enters_all

  all-found : (kind : Kind) (place : ℕ) (ns : List Node) → OfEach (λ c. asks (tree_summary c) ≡ is_in c) ns → asks (joined_summaries (map tree_summary ns)) ≡ finds_from (enters_all kind) place (map is_in ns)
  all-found kind place [] h = law.none
  all-found kind place (n ∷ ns) h =
      law.joined (tree_summary n) (joined_summaries (map tree_summary ns))
      ∙ ap (λ b. b || asks (joined_summaries (map tree_summary ns))) (h 0 n refl)
      ∙ ap (λ b. is_in n || b) (all-found kind (suc place) ns (λ i c at. h (suc i) c at))

  summaries-found : (n : Node) → asks (tree_summary n) ≡ is_in n
  summaries-found = by_children (λ n. asks (tree_summary n) ≡ is_in n) (λ n below.
      ap asks (tree_summary-parts n)
      ∙ law.joined (kind_summary (out-Node n).kind) (joined_summaries (map tree_summary (out-Node n).children))
      ∙ ap (λ b. is_asked (out-Node n).kind || b) (all-found (out-Node n).kind 0 (out-Node n).children below)
      ∙ sym (fold_out-Node Bool (finds_here is_asked enters_all) n))

  -- of a child of a tree of which it says no it says no
  child-none : (n : Node) → asks (tree_summary n) ≡ false → OfEach (λ c. asks (tree_summary c) ≡ false) (out-Node n).children
  child-none n none = each-none asks law (out-Node n).children (parts-none asks law n none).1

  module _ (is_here : Kind → Bool) (enters : Kind → ℕ → Bool) (asked : (kind : Kind) → is_asked kind ≡ false → is_here kind ≡ false) where
    found-none : (n : Node) → asks (tree_summary n) ≡ false → finds is_here enters n ≡ false
    found-none = by_children (λ n. asks (tree_summary n) ≡ false → finds is_here enters n ≡ false) (λ n below none.
        (fold_out-Node Bool (finds_here is_here enters) n
        ∙ ap (λ b. b || finds_from (enters (out-Node n).kind) 0 (map (finds is_here enters) (out-Node n).children)) (asked (out-Node n).kind (parts-none asks law n none).0)
        ∙ finds_from-none (finds is_here enters) (enters (out-Node n).kind) 0 (out-Node n).children (λ i c at. below i c at (child-none n none i c at))))

  module _ (kind_to : Kind → Kind) (asked : (kind : Kind) → is_asked kind ≡ false → kind_to kind ≡ kind) where
    unchanged : (n : Node) → asks (tree_summary n) ≡ false → changed same_span kind_to n ≡ n
    unchanged = by_children (λ n. asks (tree_summary n) ≡ false → changed same_span kind_to n ≡ n) (λ n below none.
        (fold_out-Node Node (changed_here same_span kind_to) n
        ∙ ap (λ k. node_of (out-Node n).span k (map (changed same_span kind_to) (out-Node n).children)) (asked (out-Node n).kind (parts-none asks law n none).0)
        ∙ ap (node_of (out-Node n).span (out-Node n).kind) (map-stays (changed same_span kind_to) (out-Node n).children (λ i c at. below i c at (child-none n none i c at)))
        ∙ roll-out-Node n))

  -- where it says yes of every kind at which something is listed, a tree of which it says no lists nothing
  module _ (A : Type 0) (here : Span → Kind → List A) (asked : (span : Span) (kind : Kind) → is_asked kind ≡ false → here span kind ≡ []) where
    pub gathered-none : (n : Node) → asks (tree_summary n) ≡ false → gathered A here n ≡ []
    gathered-none = by_children (λ n. asks (tree_summary n) ≡ false → gathered A here n ≡ []) (λ n below none.
        (fold_out-Node (List A) (gathered_here A here) n
        ∙ ap (λ items. items ++ flat_map (λ items. items) (map (gathered A here) (out-Node n).children)) (asked (out-Node n).span (out-Node n).kind (parts-none asks law n none).0)
        ∙ flat-none A (gathered A here) (out-Node n).children (λ i c at. below i c at (child-none n none i c at))))

pub summaries_found : SummariesAreFound
summaries_found asks law tree = summaries-found asks law tree

pub searches_pass_over : SearchesPassOver
searches_pass_over asks law is_here enters asked tree none = found-none asks law is_here enters asked tree none

pub changes_pass_over : ChangesPassOver
changes_pass_over asks law kind_to asked tree none = unchanged asks law kind_to asked tree none

pub rewritings_pass_over : RewritingsPassOver
rewritings_pass_over asks law rule alone tree none = kept asks law rule alone tree none
