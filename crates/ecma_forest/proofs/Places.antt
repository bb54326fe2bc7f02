-- What the slot at a place says of the tree there.
use Rattle.std.proofs.Common.{◌≡◌, ◌<◌, ◌+◌, refl, sym, ap, ◌∙◌, ℕ, List, [], ◌∷◌, ◌++◌, length, Some, slice_get, get_or, arith, subst, append_assoc, drop, take, OnErr, OnOk, Result, Ok, Err}
use Rattle.std.proofs.lemmas.List.{append-nil, map-append, take-append-drop, take-map, get_or_append_left}
use Rattle.std.proofs.lemmas.Option.{get_or_from_slice_get, slice_get-get_or, slice_get_read}
use Rattle.ecma_kind.specs.declared.kind.Kind.{Kind}
use Rattle.ecma_kind.specs.declared.kind.Kind.TheVariants.{Absent}
use Rattle.ecma_tree.specs.Nodes.{absent}
use Rattle.ecma_tree.specs.declared.node.Node.{Node, out-Node}
use Rattle.ecma_forest.specs.Slots.{Extends, kind_at, tree_of, grown, trees_over, IsGrounded, AreRooted, IsAt}
use Rattle.ecma_forest.specs.Trees.{Trees, node}
use Rattle.ecma_forest.specs.Summaries.{tree_summary}
use Rattle.ecma_forest.specs.declared.forest.Slot.{Slot}
use Rattle.ecma_forest.proofs.Growing.{all_grounded-append, all_grounded-take, all_summed-append, all_summed-take, length-grown, all_summed-at}
use Rattle.ecma_forest.proofs.Reading.{child-at, child-within, grown-at, kind-tree, length-children, out-tree_of}

abbrev pub seen : List Kind → List Slot → List Slot → Trees
seen kinds below roots = record { below = grown kinds below; roots = trees_over kinds below roots }

module _ (kinds : List Kind) (below roots : List Slot) (now : Trees) (is : seen kinds below roots ≡ now) (h : AreRooted kinds below roots) (at : ℕ) (inside : at < length now.below) where
  pub within : at < length below
  within = omega (arith, inside, ap (λ t. length t.below) is, length-grown kinds below)

  -- the tree at a place is that of the slot there
  node-there : (i : ℕ) (s : Slot) → slice_get below i ≡ Some s → i < length below → node now i ≡ tree_of kinds (grown kinds below) s
  node-there i s there few =
      let low : IsGrounded (length kinds) (0 + i) s = h.inner.grounded i s there in
      let room : i < length (grown kinds below) = omega (arith, few, length-grown kinds below) in
      let read = slice_get-get_or (grown kinds below) i absent room in
      let e : Some (get_or (grown kinds below) i absent) ≡ Some (tree_of kinds (grown kinds below) s) = sym read ∙ grown-at kinds (length kinds) below i s there low in
      let same : get_or (grown kinds below) i absent ≡ tree_of kinds (grown kinds below) s = cc in
      sym (ap (λ t. node t i) is) ∙ same

  module _ (s : Slot) (is_there : s ≡ get_or below at s) where
    there : slice_get below at ≡ Some s
    there = slice_get_read below (length below) at s refl within is_there

    low : IsGrounded (length kinds) (0 + at) s
    low = h.inner.grounded at s there

    pub is-at : IsAt kinds below s
    is-at = record {
      inner = h.inner;
      grounded = record { known = low.known; front = omega (arith, low.front, within) };
      summed = all_summed-at kinds (grown kinds below) below at s h.inner.summed there;
    }

    pub node-is : node now at ≡ tree_of kinds (grown kinds below) s
    node-is = node-there at s there within

    pub span-is : s.span ≡ (out-Node (node now at)).span
    span-is = sym (ap (λ n. (out-Node n).span) node-is ∙ ap (λ parts. parts.span) (out-tree_of kinds (grown kinds below) s))

    pub kind-known : s.kind < length kinds
    kind-known = low.known

    pub kind-at_is : kind_at kinds s.kind ≡ (out-Node (node now at)).kind
    kind-at_is = sym (ap (λ n. (out-Node n).kind) node-is ∙ kind-tree kinds below s)

    pub kind-is : (k : Kind) → slice_get kinds s.kind ≡ Some k → k ≡ (out-Node (node now at)).kind
    kind-is k e = sym (get_or_from_slice_get kinds s.kind k Absent e) ∙ kind-at_is

    pub count-is : s.count ≡ length (out-Node (node now at)).children
    count-is = length-children kinds below s (length kinds) is-at.grounded ∙ ap (λ n. length (out-Node n).children) (sym node-is)

    pub summary-is : s.summary ≡ tree_summary (node now at)
    summary-is = is-at.summed ∙ ap tree_summary (sym node-is)

    module _ (i : ℕ) (few : i < length (out-Node (node now at)).children) where
      few-there : i < length (out-Node (tree_of kinds (grown kinds below) s)).children
      few-there = subst (λ n. i < length (out-Node n).children) node-is few

      pub place-below : s.first + i < length below
      place-below = child-within kinds below s is-at i few-there

      pub place-before : s.first + i < at
      place-before = omega (arith, low.front, few, count-is)

      pub place-within : s.first + i < length now.below
      place-within = omega (arith, place-below, ap (λ t. length t.below) is, length-grown kinds below)

      pub child-there : slice_get (out-Node (node now at)).children i ≡ Some (node now (s.first + i))
      child-there =
          ap (λ n. slice_get (out-Node n).children i) node-is
          ∙ child-at kinds below s is-at i few-there s
          ∙ ap (λ n. Some n) (sym (node-there (s.first + i) (get_or below (s.first + i) s) (slice_get-get_or below (s.first + i) s place-below) place-below))

    -- the slot is a root too
    pub kept-rooted : AreRooted kinds below (roots ++ s ∷ [])
    kept-rooted = record {
      inner = h.inner;
      grounded = all_grounded-append (length kinds) (length below) roots (s ∷ []) h.grounded (is-at.grounded, tt);
      summed = all_summed-append kinds (grown kinds below) roots (s ∷ []) h.summed (is-at.summed, tt);
    }

    pub kept-roots : trees_over kinds below (roots ++ s ∷ []) ≡ now.roots ++ node now at ∷ []
    kept-roots =
        map-append (tree_of kinds (grown kinds below)) roots (s ∷ [])
        ∙ ap (λ ts. ts ++ tree_of kinds (grown kinds below) s ∷ []) (ap (λ t. t.roots) is)
        ∙ ap (λ n. now.roots ++ n ∷ []) (sym node-is)

-- a tree stays at its place where more come behind
pub node-extends : (old new : Trees) (at : ℕ) → Extends old.below new.below → at < length old.below → node new at ≡ node old at
node-extends old new at more few = ap (λ ts. get_or ts at absent) more.1 ∙ get_or_append_left old.below more.0 absent at few

pub extends-none : (a : List Node) → Extends a a
extends-none a = ([], sym (append-nil a))

pub extends-on : (a b c : List Node) → Extends a b → Extends b c → Extends a c
extends-on a b c x y = (x.0 ++ y.0, y.1 ∙ ap (λ ts. ts ++ y.0) x.1 ∙ append_assoc a x.0 y.0)

pub cut-rooted : (kinds : List Kind) (below roots : List Slot) (start : ℕ) → AreRooted kinds below roots → AreRooted kinds below (take start roots)
cut-rooted kinds below roots start h = record {
  inner = h.inner;
  grounded = all_grounded-take (length kinds) (length below) start roots h.grounded;
  summed = all_summed-take kinds (grown kinds below) start roots h.summed;
}

pub cut-roots : (kinds : List Kind) (below roots : List Slot) (start : ℕ) → trees_over kinds below (take start roots) ≡ take start (trees_over kinds below roots)
cut-roots kinds below roots start = sym (take-map (tree_of kinds (grown kinds below)) start roots)

-- where nothing changed, the roots in front of start stay
pub front-stays : {A E : Type 0} (r : Result A E) (old new : Trees) (start : ℕ) → OnErr r (new ≡ old) → OnErr r (Extends (take start old.roots) new.roots)
front-stays (Ok a) old new start h = tt
front-stays (Err e) old new start h = (drop start old.roots, ap (λ t. t.roots) h ∙ sym (take-append-drop start old.roots))

-- whatever came of it, what had a place has it
pub either-extends : {A E : Type 0} (r : Result A E) (old new : Trees) (more : List Node) → OnOk r (new.below ≡ old.below ++ more) → OnErr r (new ≡ old) → Extends old.below new.below
either-extends (Ok a) old new more h g = (more, h)
either-extends (Err e) old new more h g = ([], ap (λ t. t.below) g ∙ sym (append-nil old.below))
