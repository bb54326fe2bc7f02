-- A root that is taken apart: its children are among those that have a place.
use Rattle.std.proofs.Common.{◌≡◌, ◌≤◌, ◌<◌, ◌+◌, refl, sym, ap, ◌∙◌, ℕ, suc, List, [], ◌∷◌, ◌++◌, take, drop, map, length, Some, slice_get, get_or, arith}
use Rattle.std.proofs.lemmas.List.{drop-map, drop_at, map-append, take-append-drop, take-append-le, take-map, take_all}
use Rattle.std.proofs.lemmas.Option.{slice_get-get_or, slice_get_read}
use Rattle.ecma_kind.specs.declared.kind.Kind.{Kind}
use Rattle.ecma_tree.specs.Nodes.{absent, node_of}
use Rattle.ecma_tree.specs.declared.node.Node.{Node, out-Node}
use Rattle.ecma_tree.specs.declared.node.Node.TheViews.{out-roll-Node}
use Rattle.ecma_tree.proofs.Items.{take-item}
use Rattle.ecma_forest.specs.Laws.{OpeningUndoesWrapping}
use Rattle.ecma_forest.specs.Slots.{tree_of, grown, trees_over, AllGrounded, AreRooted, IsAt}
use Rattle.ecma_forest.specs.Trees.{Trees, opened, root}
use Rattle.ecma_forest.specs.declared.forest.Slot.{Slot}
use Rattle.ecma_forest.proofs.Growing.{all_grounded-append, all_grounded-drop, all_grounded-take, all_summed-append, all_summed-drop, all_summed-take, length-grown, length-trees_over, stand_grounded-all}
use Rattle.ecma_forest.proofs.Places.{seen}
use Rattle.ecma_forest.proofs.Reading.{children-tree, grown-at, kind-tree, out-tree_of, root-at, root-is}
use Rattle.ecma_forest.proofs.Wrapping.{kind-there}

pub opened-last : (rest : List Node) (last : Node) → opened (rest ++ last ∷ []) ≡ rest ++ (out-Node last).children
unfolding opened
opened-last [] last = refl
opened-last (first ∷ []) last = refl
opened-last (first ∷ second ∷ others) last = ap (λ ns. first ∷ ns) (opened-last (second ∷ others) last)

pub opening-undoes : OpeningUndoesWrapping
opening-undoes span kind start roots =
    opened-last (take start roots) (node_of span kind (drop start roots))
    ∙ ap (λ parts. take start roots ++ parts.children) (out-roll-Node (record { span = span; kind = kind; children = drop start roots }))
    ∙ take-append-drop start roots

-- the last of a list, and those in front of it
split-last : {X : Type 0} (xs : List X) (last : ℕ) (x : X) → length xs ≡ last + 1 → slice_get xs last ≡ Some x → xs ≡ take last xs ++ x ∷ []
split-last xs last x len at = sym (take_all (last + 1) xs (omega (arith, len))) ∙ take-item xs last x at

map-is : {X Y : Type 0} (f : X → Y) (xs : List X) (ys : List Y) → length xs ≡ length ys → ((i : ℕ) (x : X) → slice_get xs i ≡ Some x → slice_get ys i ≡ Some (f x)) → map f xs ≡ ys
map-is f [] [] len each = refl
map-is f [] (y ∷ ys) len each = absurd (omega (arith, len))
map-is f (x ∷ xs) [] len each = absurd (omega (arith, len))
map-is f (x ∷ xs) (y ∷ ys) len each =
    let e = each 0 x refl in
    let same : f x ≡ y = cc in
    ap (λ z. z ∷ map f xs) same ∙ ap (λ zs. y ∷ zs) (map-is f xs ys (omega (arith, len)) (λ i z at. each (suc i) z at))

-- what stands in the place of the last, once it is taken away
pub replaced : {X : Type 0} (xs ys : List X) (last : ℕ) → length xs ≡ last + 1 → take last (xs ++ ys) ++ drop (suc last) (xs ++ ys) ≡ take last xs ++ ys
replaced xs ys last len =
    let le : last ≤ length xs = omega (arith, len) in
    let end : length xs ≡ suc last = omega (arith, len) in
    ap (λ zs. zs ++ drop (suc last) (xs ++ ys)) (take-append-le last xs ys le) ∙ ap (λ zs. take last xs ++ zs) (drop_at xs ys (suc last) end)

module _ (kinds : List Kind) (below roots : List Slot) (now : Trees) (is : seen kinds below roots ≡ now) (h : AreRooted kinds below roots) where
  abbrev tree : Slot → Node
  tree = tree_of kinds (grown kinds below)

  pub roots-length : length roots ≡ length now.roots
  roots-length = sym (length-trees_over kinds below roots) ∙ ap (λ t. length t.roots) is

  module _ (i : ℕ) (inside : i < length now.roots) where
    pub root-within : i < length roots
    root-within = omega (arith, inside, roots-length)

    module _ (s : Slot) (is_there : s ≡ get_or roots i s) where
      there : slice_get roots i ≡ Some s
      there = slice_get_read roots (length roots) i s refl root-within is_there

      pub root-stands : IsAt kinds below s
      root-stands = root-is kinds below roots i s h there

      seen-there : slice_get now.roots i ≡ Some (tree s)
      seen-there = ap (λ t. slice_get t.roots i) (sym is) ∙ root-at kinds below roots i s there

      root-node : root now i ≡ tree s
      root-node =
          let read = slice_get-get_or now.roots i absent inside in
          let e : Some (get_or now.roots i absent) ≡ Some (tree s) = sym read ∙ seen-there in
          cc

      pub root-span : s.span ≡ (out-Node (root now i)).span
      root-span = sym (ap (λ n. (out-Node n).span) root-node ∙ ap (λ parts. parts.span) (out-tree_of kinds (grown kinds below) s))

      pub root-kind_known : s.kind < length kinds
      root-kind_known = root-stands.grounded.known

      pub root-kind : (k : Kind) → slice_get kinds s.kind ≡ Some k → k ≡ (out-Node (root now i)).kind
      root-kind k e = sym (kind-there kinds k s.kind e) ∙ sym (ap (λ n. (out-Node n).kind) root-node ∙ kind-tree kinds below s)

  -- each slot speaks of the tree that grew at its place
  trees-each : map tree below ≡ grown kinds below
  trees-each = map-is tree below (grown kinds below) (sym (length-grown kinds below)) (λ i s at. grown-at kinds (length kinds) below i s at (h.inner.grounded i s at))

  module _ (last : ℕ) (len : length roots ≡ last + 1) (s : Slot) (is_there : s ≡ get_or roots last s) where
    abbrev children : List Slot
    children = take s.count (drop s.first below)

    at-last : slice_get roots last ≡ Some s
    at-last = slice_get_read roots (length roots) last s refl (omega (arith, len)) is_there

    pub last-front : s.first + s.count ≤ length below
    last-front = (root-is kinds below roots last s h at-last).grounded.front

    low : AllGrounded (length kinds) (length below) below
    low = stand_grounded-all (length kinds) 0 below (length below) h.inner.grounded (omega arith)

    pub opened-rooted : AreRooted kinds below (take last roots ++ children)
    opened-rooted = record {
      inner = h.inner;
      grounded = all_grounded-append (length kinds) (length below) (take last roots) children
          (all_grounded-take (length kinds) (length below) last roots h.grounded)
          (all_grounded-take (length kinds) (length below) s.count (drop s.first below) (all_grounded-drop (length kinds) (length below) s.first below low));
      summed = all_summed-append kinds (grown kinds below) (take last roots) children
          (all_summed-take kinds (grown kinds below) last roots h.summed)
          (all_summed-take kinds (grown kinds below) s.count (drop s.first below) (all_summed-drop kinds (grown kinds below) s.first below h.inner.summed));
    }

    children-are : map tree children ≡ (out-Node (tree s)).children
    children-are =
        sym (take-map tree s.count (drop s.first below))
        ∙ ap (take s.count) (sym (drop-map tree s.first below) ∙ ap (drop s.first) trees-each)
        ∙ sym (children-tree kinds below s)

    seen-split : trees_over kinds below roots ≡ take last (trees_over kinds below roots) ++ tree s ∷ []
    seen-split = split-last (trees_over kinds below roots) last (tree s) (length-trees_over kinds below roots ∙ len) (root-at kinds below roots last s at-last)

    pub opened-roots : trees_over kinds below (take last roots ++ children) ≡ opened now.roots
    opened-roots =
        map-append tree (take last roots) children
        ∙ ap (λ ts. ts ++ map tree children) (sym (take-map tree last roots))
        ∙ ap (λ ts. take last (trees_over kinds below roots) ++ ts) children-are
        ∙ sym (opened-last (take last (trees_over kinds below roots)) (tree s))
        ∙ ap opened (sym seen-split)
        ∙ ap (λ t. opened t.roots) is
