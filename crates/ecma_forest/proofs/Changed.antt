-- Where all kinds of the table change, all trees do.
use Rattle.std.proofs.Common.{◌≡◌, ◌<◌, ◌+◌, refl, sym, ap, ◌∙◌, ℕ, zero, suc, List, [], ◌∷◌, ◌++◌, take, drop, map, length, Some, slice_get, get_or, set, arith, subst}
use Rattle.std.proofs.lemmas.List.{length-map, take-map, drop-map, map-append, length-append, length-take-le, length-drop}
use Rattle.std.proofs.lemmas.Option.{slice_get_read}
use Rattle.item_list.proofs.Walking.{front_mapped, front_mapped-at, set-front_mapped}
use Rattle.ecma_kind.specs.declared.span.Span.{Span}
use Rattle.ecma_kind.specs.declared.kind.Kind.{Kind}
use Rattle.ecma_kind.specs.declared.kind.Kind.TheVariants.{Absent}
use Rattle.ecma_tree.specs.Changing.{changed, changed_here}
use Rattle.ecma_tree.specs.Nodes.{node_of}
use Rattle.ecma_tree.specs.declared.node.Node.{Node, fold-roll-Node, fold_out-Node, out-Node}
use Rattle.ecma_forest.specs.Changes.{KeepsSummaries, same_span}
use Rattle.ecma_forest.specs.Slots.{kind_at, tree_of, grown_from, grown, trees_over, IsGrounded, StandGrounded, AllGrounded, AllSummed, AreRooted}
use Rattle.ecma_forest.specs.Summaries.{joined_summaries, join_summaries, kind_summary, tree_summary}
use Rattle.ecma_forest.specs.declared.forest.Slot.{Slot}
use Rattle.ecma_forest.proofs.Growing.{tree_summary-node_of, stand_grounded-all}
use Rattle.ecma_forest.proofs.Induction.{by_children, map-same}
use Rattle.ecma_forest.proofs.Keeping.{tree_summary-parts}

map-map : {X Y Z : Type 0} (f : Y → Z) (g : X → Y) (xs : List X) → map f (map g xs) ≡ map (λ x. f (g x)) xs
map-map f g [] = refl
map-map f g (x ∷ xs) = ap (λ zs. f (g x) ∷ zs) (map-map f g xs)

get_or-map : {X : Type 0} (f : X → X) (xs : List X) (i : ℕ) (d : X) → i < length xs → get_or (map f xs) i d ≡ f (get_or xs i d)
get_or-map f [] i d h = absurd (omega (arith, h))
get_or-map f (x ∷ xs) zero d h = refl
get_or-map f (x ∷ xs) (suc i) d h = get_or-map f xs i d (omega (arith, h))

module _ (kind_to : Kind → Kind) (kinds : List Kind) where
  abbrev to : Node → Node
  to = changed same_span kind_to

  changed-node_of : (span : Span) (kind : Kind) (ns : List Node) → to (node_of span kind ns) ≡ node_of span (kind_to kind) (map to ns)
  changed-node_of span kind ns = fold-roll-Node Node (changed_here same_span kind_to) (record { span = span; kind = kind; children = ns })

  changed-parts : (n : Node) → to n ≡ node_of (out-Node n).span (kind_to (out-Node n).kind) (map to (out-Node n).children)
  changed-parts n = fold_out-Node Node (changed_here same_span kind_to) n

  tree_of-changed : (place : ℕ) (trees : List Node) (s : Slot) → IsGrounded (length kinds) place s → tree_of (map kind_to kinds) (map to trees) s ≡ to (tree_of kinds trees s)
  tree_of-changed place trees s h =
      ap (λ k. node_of s.span k (take s.count (drop s.first (map to trees)))) (get_or-map kind_to kinds s.kind Absent h.known)
      ∙ ap (node_of s.span (kind_to (kind_at kinds s.kind))) (ap (take s.count) (drop-map to s.first trees) ∙ take-map to s.count (drop s.first trees))
      ∙ sym (changed-node_of s.span (kind_at kinds s.kind) (take s.count (drop s.first trees)))

  grown_from-changed : (place : ℕ) (trees : List Node) (ss : List Slot) → AllGrounded (length kinds) place ss → grown_from (map kind_to kinds) (map to trees) ss ≡ map to (grown_from kinds trees ss)
  grown_from-changed place trees [] h = refl
  grown_from-changed place trees (s ∷ ss) h =
      ap (λ t. grown_from (map kind_to kinds) (map to trees ++ t ∷ []) ss) (tree_of-changed place trees s h.0)
      ∙ ap (λ ts. grown_from (map kind_to kinds) ts ss) (sym (map-append to trees (tree_of kinds trees s ∷ [])))
      ∙ grown_from-changed place (trees ++ tree_of kinds trees s ∷ []) ss h.1

  pub grown-changed : (below : List Slot) → StandGrounded (length kinds) 0 below → grown (map kind_to kinds) below ≡ map to (grown kinds below)
  unfolding grown
  grown-changed below h = grown_from-changed (length below) [] below (stand_grounded-all (length kinds) 0 below (length below) h (omega arith))

  trees_of-changed : (place : ℕ) (trees : List Node) (ss : List Slot) → AllGrounded (length kinds) place ss → map (tree_of (map kind_to kinds) (map to trees)) ss ≡ map to (map (tree_of kinds trees) ss)
  trees_of-changed place trees [] h = refl
  trees_of-changed place trees (s ∷ ss) h = rw (tree_of-changed place trees s h.0, trees_of-changed place trees ss h.1) refl

  module _ (below roots : List Slot) (h : AreRooted kinds below roots) where
    pub changed-trees : trees_over (map kind_to kinds) below roots ≡ map to (trees_over kinds below roots)
    changed-trees =
        ap (λ ts. map (tree_of (map kind_to kinds) ts) roots) (grown-changed below h.inner.grounded) ∙ trees_of-changed (length below) (grown kinds below) roots h.grounded

    module _ (keeps : KeepsSummaries kind_to) where
      summary-changed : (n : Node) → tree_summary (to n) ≡ tree_summary n
      summary-changed = by_children (λ n. tree_summary (to n) ≡ tree_summary n) (λ n under.
          ap tree_summary (changed-parts n)
          ∙ tree_summary-node_of (out-Node n).span (kind_to (out-Node n).kind) (map to (out-Node n).children)
          ∙ ap (λ m. join_summaries m (joined_summaries (map tree_summary (map to (out-Node n).children)))) (keeps (out-Node n).kind)
          ∙ ap (λ ms. join_summaries (kind_summary (out-Node n).kind) (joined_summaries ms)) (map-map tree_summary to (out-Node n).children
          ∙ map-same (λ c. tree_summary (to c)) tree_summary (out-Node n).children under)
          ∙ sym (tree_summary-parts n))

      all_summed-changed : (place : ℕ) (trees : List Node) (ss : List Slot) → AllGrounded (length kinds) place ss → AllSummed kinds trees ss → AllSummed (map kind_to kinds) (map to trees) ss
      all_summed-changed place trees [] g m = tt
      all_summed-changed place trees (s ∷ ss) g m =
          (m.0 ∙ sym (ap tree_summary (tree_of-changed place trees s g.0) ∙ summary-changed (tree_of kinds trees s)), all_summed-changed place trees ss g.1 m.1)

      pub changed-rooted : AreRooted (map kind_to kinds) below roots
      changed-rooted =
          let low = stand_grounded-all (length kinds) 0 below (length below) h.inner.grounded (omega arith) in
          record {
            inner = record {
              grounded = subst (λ n. StandGrounded n 0 below) (sym (length-map kinds kind_to)) h.inner.grounded;
              summed = subst (λ ts. AllSummed (map kind_to kinds) ts below) (sym (grown-changed below h.inner.grounded)) (all_summed-changed (length below) (grown kinds below) below low h.inner.summed);
            };
            grounded = subst (λ n. AllGrounded n (length below) roots) (sym (length-map kinds kind_to)) h.grounded;
            summed = subst (λ ts. AllSummed (map kind_to kinds) ts roots) (sym (grown-changed below h.inner.grounded)) (all_summed-changed (length below) (grown kinds below) roots h.grounded h.summed);
          }

pub change-step : (f : Kind → Kind) (xs ys : List Kind) (i : ℕ) (x y : Kind) → ys ≡ front_mapped f xs i → i < length xs → x ≡ get_or ys i x → y ≡ f x → set ys i y ≡ front_mapped f xs (i + 1)
change-step f xs ys i x y is within at new =
    let all : length (front_mapped f xs i) ≡ length xs = omega (arith, length-append (map f (take i xs)) (drop i xs), length-map (take i xs) f, length-take-le i xs (omega (arith, within)), length-drop i xs, within) in
    let there : slice_get (front_mapped f xs i) i ≡ Some x = slice_get_read (front_mapped f xs i) (length xs) i x (sym all) within (at ∙ ap (λ zs. get_or zs i x) is) in
    ap (λ z. set ys i z) new ∙ ap (λ zs. set zs i (f x)) is ∙ set-front_mapped f xs i x (front_mapped-at f xs i x there)
