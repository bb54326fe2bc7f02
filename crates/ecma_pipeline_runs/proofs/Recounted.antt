-- How contexts are counted does not matter to what a tree's ids say of its scopes.
use Rattle.std.proofs.Common.{◌≡◌, ℕ, suc, ◌-◌, List, [], ◌∷◌, ◌++◌, map, refl, sym, ap, ap₂, ◌∙◌, subst, get_or}
use Rattle.std.specs.List.{All}
use Rattle.std.proofs.lemmas.List.Elements.{All-append, All-cons, All-nil}
use Rattle.ecma_tree.specs.declared.node.Node.{Node, Node-F, ind-Node, out-Node, roll-Node}
use Rattle.ecma_tree.specs.declared.node.Node.TheViews.{out-roll-Node}
use Rattle.ecma_scope.specs.Resolved.{context_count, taken}
use Rattle.ecma_hygiene.specs.Sights.{Around, around_child, nowhere}
use Rattle.ecma_hygiene_scopes.specs.Apart.{AreApart, HasOneContext, own_contexts}
use Rattle.ecma_hygiene_scopes.specs.Lasting.{KeepsScope, KeepsScopesApart}
use Rattle.ecma_hygiene_scopes.specs.Stops.{Stop, stops, stops_at, stops_from}
use Rattle.ecma_hygiene_scopes.proofs.Stopping.{All-first, All-second, stop-here, stops-below, stops-out}
use Rattle.ecma_ready.specs.Ready.{HasOwnContexts, SaysItsScopes}

-- what holds of the nodes of a tree with what stands around them
module _ (P : Node → Around → Type 0) where
  abbrev pub At : Stop → Type 0
  At stop = P stop.node stop.around

  abbrev Moves : Node → Type 0
  Moves n = (s : Around) (left less : ℕ) → All At (stops_at n s left) → All At (stops_at n s less)

  abbrev AllMove : List Node → Type 0
  AllMove ns = (arounds : ℕ → Around) (i left less : ℕ) → All At (stops_from arounds i ns (map stops_at ns) left) → All At (stops_from arounds i ns (map stops_at ns) less)

  all-move : (ns : List ((n : Node) × Moves n)) → AllMove (map (λ e. e.0) ns)
  all-move [] arounds i left less h = All-nil At
  all-move (n ∷ ns) arounds i left less h =
      let others : List Node = map (λ e. e.0) ns in
      let old : ℕ = left - context_count n.0 (arounds i).role in
      let new : ℕ = less - context_count n.0 (arounds i).role in
      let rest : List Stop = stops_from arounds (suc i) others (map stops_at others) old in
      All-append At (stops_at n.0 (arounds i) less) (stops_from arounds (suc i) others (map stops_at others) new)
      (n.1 (arounds i) left less (All-first At (stops_at n.0 (arounds i) left) rest h)) (all-move ns arounds (suc i) old new (All-second At (stops_at n.0 (arounds i) left) rest h))

  layer-moves : (n : Node) → AllMove (out-Node n).children → Moves n
  layer-moves n children s left less h =
      subst (All At) (sym (stops-out n s less))
      (All-cons At (record { node = n; around = s; left = less }) (stops_from (around_child s n) 0 (out-Node n).children (map stops_at (out-Node n).children) (less - taken s.role n)) (stop-here At n s left h)
      (children (around_child s n) 0 (left - taken s.role n) (less - taken s.role n) (stops-below At n s left h)))

  pub moves : (n : Node) → Moves n
  moves = ind-Node Moves (λ x y is.
      layer-moves (roll-Node x) (subst AllMove (ap (λ (z : Node-F Node). z.children) is ∙ sym (ap (λ (z : Node-F Node). z.children) (out-roll-Node x))) (all-move y.children)))

-- the contexts that scopes declare in

map-append : (xs ys : List Stop) → map own_contexts (xs ++ ys) ≡ map own_contexts xs ++ map own_contexts ys
map-append [] ys = refl
map-append (x ∷ xs) ys = ap (λ (zs : List (List ℕ)). own_contexts x ∷ zs) (map-append xs ys)

abbrev Same : Node → Type 0
Same n = (s : Around) (left less : ℕ) → map own_contexts (stops_at n s left) ≡ map own_contexts (stops_at n s less)

abbrev AllSame : List Node → Type 0
AllSame ns = (arounds : ℕ → Around) (i left less : ℕ) → map own_contexts (stops_from arounds i ns (map stops_at ns) left) ≡ map own_contexts (stops_from arounds i ns (map stops_at ns) less)

all-same : (ns : List ((n : Node) × Same n)) → AllSame (map (λ e. e.0) ns)
all-same [] arounds i left less = refl
all-same (n ∷ ns) arounds i left less =
    let others : List Node = map (λ e. e.0) ns in
    let old : ℕ = left - context_count n.0 (arounds i).role in
    let new : ℕ = less - context_count n.0 (arounds i).role in
    map-append (stops_at n.0 (arounds i) left) (stops_from arounds (suc i) others (map stops_at others) old)
    ∙ ap₂ (λ (a b : List (List ℕ)). a ++ b) (n.1 (arounds i) left less) (all-same ns arounds (suc i) old new)
    ∙ sym (map-append (stops_at n.0 (arounds i) less) (stops_from arounds (suc i) others (map stops_at others) new))

layer-same : (n : Node) → AllSame (out-Node n).children → Same n
layer-same n children s left less =
    ap (map own_contexts) (stops-out n s left)
    ∙ ap (λ (zs : List (List ℕ)). own_contexts (record { node = n; around = s; left = left }) ∷ zs) (children (around_child s n) 0 (left - taken s.role n) (less - taken s.role n))
    ∙ sym (ap (map own_contexts) (stops-out n s less))

same : (n : Node) → Same n
same = ind-Node Same (λ x y is.
    layer-same (roll-Node x) (subst AllSame (ap (λ (z : Node-F Node). z.children) is ∙ sym (ap (λ (z : Node-F Node). z.children) (out-roll-Node x))) (all-same y.children)))

-- a tree that keeps its scopes apart

says : (free : ℕ) (stop : Stop) → KeepsScope free stop → SaysItsScopes free stop.node stop.around
says free stop keeps = record {
  absent = keeps.absent;
  names = keeps.names;
  free_names = keeps.free_names;
  blocks = keeps.blocks;
  parameters = keeps.parameters;
  not_free = keeps.not_free;
  not_empty = keeps.not_empty;
}

pub says-its-scopes : (free left : ℕ) (tree : Node) → KeepsScopesApart free left tree → All (λ (stop : Stop). SaysItsScopes free stop.node stop.around) (stops 0 tree)
says-its-scopes free left tree keeps = moves (SaysItsScopes free) tree nowhere left 0 (λ k d lt. says free (get_or (stops left tree) k d) (keeps.scoped k d lt))

pub has-own-contexts : (free left : ℕ) (tree : Node) → KeepsScopesApart free left tree → HasOwnContexts tree
has-own-contexts free left tree keeps = record {
  one = moves (λ node around. HasOneContext (record { node = node; around = around; left = 0 })) tree nowhere left 0 keeps.one;
  apart = subst AreApart (same tree nowhere left 0) keeps.apart;
}
