-- A tree without what is dropped, node by node.
use Rattle.std.proofs.Common.{◌≡◌, ◌∙◌, ℕ, zero, suc, Bool, true, false, ◌&&◌, ◌||◌, not, cond, List, [], ◌∷◌, map, filter, length, Option, Some, None, refl, sym, ap, ap₂, subst, slice_get}
use Rattle.std.specs.List.{list_all, list_any}
use Rattle.ecma_kind.specs.declared.kind.Kind.{Kind}
use Rattle.ecma_kind.specs.declared.span.Span.{Span}
use Rattle.ecma_tree.specs.Nodes.{node_of}
use Rattle.ecma_tree.specs.Sorted.{is_list}
use Rattle.ecma_tree.specs.declared.node.Node.{Node, Node-F, fold-Node, fold_out-Node, ind-Node, out-Node, roll-Node}
use Rattle.ecma_tree.specs.declared.node.Node.TheViews.{out-roll-Node}
use Rattle.ecma_tree.proofs.Layers.{from_leaves_out}
use Rattle.ecma_rules.specs.Children.{child_holds, child_is, children_of, has_child, holds_of, is_present, items_at, kind_of, of_kind}
use Rattle.ecma_elide_fits.specs.Dropping.{Dropping, Left, left, left_in, left_step, may_lose, loses_in, remaining_by, seats_in, staying}

abbrev pub below : Node → List Node
below n = (out-Node n).children

pub and_false : (a b : Bool) → b ≡ false → (a && b) ≡ false
and_false true b h = h
and_false false b h = refl

pub some_same : {X : Type 0} (a b : X) → Some a ≡ Some b → a ≡ b
some_same a b e = cc

each_of : (Q : Node → Type 0) (ns : List ((n : Node) × Q n)) (i : ℕ) (c : Node) → slice_get (map (λ e. e.0) ns) i ≡ Some c → Q c
each_of Q [] i c at = cc
each_of Q (n ∷ ns) zero c at = subst Q (some_same n.0 c at) n.1
each_of Q (n ∷ ns) (suc i) c at = each_of Q ns i c at

-- what holds of a node where it holds of its children holds of every node
pub induct : (Q : Node → Type 0) → ((n : Node) → ((i : ℕ) (c : Node) → slice_get (below n) i ≡ Some c → Q c) → Q n) → (n : Node) → Q n
induct Q step = ind-Node Q (λ x y is.
    (let parts : Node-F Node = record { span = y.span; kind = y.kind; children = map (λ e. e.0) y.children } in
    subst (λ (z : Node-F Node). Q (roll-Node z)) is
    (step (roll-Node parts) (λ i c at. each_of Q y.children i c (ap (λ (z : Node-F Node). slice_get z.children i) (sym (out-roll-Node parts)) ∙ at)))))

module _ {S : Type 0} (d : Dropping S) where
  abbrev pub to : Bool → S → Node → Node
  to loses s n = left d n loses s

  -- what is left of these nodes
  abbrev pub each : (ℕ → Bool) → (ℕ → S) → List Node → List Node
  each losing seats ns = left_in losing seats (map (left d) ns)

  -- the children that stay
  abbrev pub stay : Bool → S → Node → List Node
  stay loses s n = cond (loses && is_list (kind_of n)) (filter (λ c. not (d.drops s c)) (below n)) (below n)

  abbrev pub loses_at : Bool → Node → ℕ → Bool
  loses_at loses n = loses_in loses (kind_of n)

  abbrev pub seats_at : S → Node → ℕ → S
  seats_at s n = seats_in d s (kind_of n) (below n)

  kept : (stays : Node → Bool) (ns : List Node) → staying stays ns (map (left d) ns) ≡ map (left d) (filter stays ns)
  kept stays [] = refl
  kept stays (n ∷ ns) = by (stays n) (kept stays ns)
    where
      by : (b : Bool) → staying stays ns (map (left d) ns) ≡ map (left d) (filter stays ns) → cond b (left d n ∷ staying stays ns (map (left d) ns)) (staying stays ns (map (left d) ns)) ≡ map (left d) (cond b (n ∷ filter stays ns) (filter stays ns))
      by true rest = ap (λ z. left d n ∷ z) rest
      by false rest = rest

  remain : (loses : Bool) (s : S) (n : Node) → remaining_by d loses s (kind_of n) (below n) (map (left d) (below n)) ≡ map (left d) (stay loses s n)
  remain loses s n = by (loses && is_list (kind_of n))
    where
      by : (b : Bool) → cond b (staying (λ c. not (d.drops s c)) (below n) (map (left d) (below n))) (map (left d) (below n))
          ≡ map (left d) (cond b (filter (λ c. not (d.drops s c)) (below n)) (below n))
      by true = kept (λ c. not (d.drops s c)) (below n)
      by false = refl

  pub to_is : (loses : Bool) (s : S) (n : Node) → to loses s n ≡ node_of (out-Node n).span (kind_of n) (each (loses_at loses n) (seats_at s n) (stay loses s n))
  to_is loses s n =
      ap (λ f. f loses s) (from_leaves_out (Left S) (left_step d) n)
      ∙ ap (λ z. node_of (out-Node n).span (kind_of n) (left_in (loses_at loses n) (seats_at s n) z)) (remain loses s n)

  parts_to : (loses : Bool) (s : S) (n : Node) → out-Node (to loses s n) ≡ record { span = (out-Node n).span; kind = kind_of n; children = each (loses_at loses n) (seats_at s n) (stay loses s n) }
  parts_to loses s n = ap out-Node (to_is loses s n) ∙ out-roll-Node (record { span = (out-Node n).span; kind = kind_of n; children = each (loses_at loses n) (seats_at s n) (stay loses s n) })

  pub kind_to : (loses : Bool) (s : S) (n : Node) → kind_of (to loses s n) ≡ kind_of n
  kind_to loses s n = ap (λ z. z.kind) (parts_to loses s n)

  pub below_to : (loses : Bool) (s : S) (n : Node) → below (to loses s n) ≡ each (loses_at loses n) (seats_at s n) (stay loses s n)
  below_to loses s n = ap (λ z. z.children) (parts_to loses s n)

  pub each_length : (f : ℕ → Bool) (g : ℕ → S) (ns : List Node) → length (each f g ns) ≡ length ns
  each_length f g [] = refl
  each_length f g (n ∷ ns) = ap suc (each_length (λ i. f (suc i)) (λ i. g (suc i)) ns)

  pub count_to : (loses : Bool) (s : S) (n : Node) → length (below (to loses s n)) ≡ length (stay loses s n)
  count_to loses s n = ap length (below_to loses s n) ∙ each_length (loses_at loses n) (seats_at s n) (stay loses s n)

  -- ---- a node that loses no item

  abbrev pub Whole : Bool → Node → Type 0
  Whole loses n = (loses && is_list (kind_of n)) ≡ false

  pub whole : (loses : Bool) (n : Node) (k : Kind) → kind_of n ≡ k → is_list k ≡ false → Whole loses n
  whole loses n k e l = and_false loses (is_list (kind_of n)) (ap is_list e ∙ l)

  pub stay_whole : (loses : Bool) (s : S) (n : Node) → Whole loses n → stay loses s n ≡ below n
  stay_whole loses s n w = ap (λ b. cond b (filter (λ c. not (d.drops s c)) (below n)) (below n)) w

  pub whole_to : (loses : Bool) (s : S) (n : Node) → Whole loses n → below (to loses s n) ≡ each (loses_at loses n) (seats_at s n) (below n)
  whole_to loses s n w = below_to loses s n ∙ ap (each (loses_at loses n) (seats_at s n)) (stay_whole loses s n w)

  abbrev pub at : Bool → S → Option Node → Option Node
  at loses s None = None
  at loses s (Some n) = Some (to loses s n)

  each_at : (f : ℕ → Bool) (g : ℕ → S) (ns : List Node) (i : ℕ) → slice_get (each f g ns) i ≡ at (f i) (g i) (slice_get ns i)
  each_at f g [] i = refl
  each_at f g (n ∷ ns) zero = refl
  each_at f g (n ∷ ns) (suc i) = each_at (λ i. f (suc i)) (λ i. g (suc i)) ns i

  pub child_to : (loses : Bool) (s : S) (n : Node) (i : ℕ) → Whole loses n → slice_get (below (to loses s n)) i ≡ at (loses_at loses n i) (seats_at s n i) (slice_get (below n) i)
  child_to loses s n i w = ap (λ (z : List Node). slice_get z i) (whole_to loses s n w) ∙ each_at (loses_at loses n) (seats_at s n) (below n) i

  -- ---- tests of children

  kind_of_at : (is : Kind → Bool) (loses : Bool) (s : S) (child : Option Node) → of_kind is (at loses s child) ≡ of_kind is child
  kind_of_at is loses s None = refl
  kind_of_at is loses s (Some n) = ap is (kind_to loses s n)

  pub child_same : (is : Kind → Bool) (loses : Bool) (s : S) (n : Node) (i : ℕ) → Whole loses n → child_is is (to loses s n) i ≡ child_is is n i
  child_same is loses s n i w = ap (of_kind is) (child_to loses s n i w) ∙ kind_of_at is (loses_at loses n i) (seats_at s n i) (slice_get (below n) i)

  pub has_same : (loses : Bool) (s : S) (n : Node) (i : ℕ) → Whole loses n → has_child (to loses s n) i ≡ has_child n i
  has_same = child_same is_present

  -- a test of a child that is the same for that child
  holds_at : (test : Node → Bool) (loses : Bool) (s : S) (child : Option Node) → ((c : Node) → child ≡ Some c → test (to loses s c) ≡ test c) → holds_of test (at loses s child) ≡ holds_of test child
  holds_at test loses s None same = refl
  holds_at test loses s (Some n) same = same n refl

  pub holds_by : (test : Node → Bool) (loses : Bool) (s : S) (n : Node) (i : ℕ) → Whole loses n
      → ((c : Node) → slice_get (below n) i ≡ Some c → test (to (loses_at loses n i) (seats_at s n i) c) ≡ test c) → child_holds test (to loses s n) i ≡ child_holds test n i
  holds_by test loses s n i w same = ap (holds_of test) (child_to loses s n i w) ∙ holds_at test (loses_at loses n i) (seats_at s n i) (slice_get (below n) i) same

  -- one of a child that holds after where it held before
  kept_at : (test : Node → Bool) (loses : Bool) (s : S) (child : Option Node) → ((c : Node) → child ≡ Some c → test c ≡ true → test (to loses s c) ≡ true) → holds_of test child ≡ true
      → holds_of test (at loses s child) ≡ true
  kept_at test loses s None keeps h = h
  kept_at test loses s (Some n) keeps h = keeps n refl h

  pub holds_kept : (test : Node → Bool) (loses : Bool) (s : S) (n : Node) (i : ℕ) → Whole loses n
      → ((c : Node) → slice_get (below n) i ≡ Some c → test c ≡ true → test (to (loses_at loses n i) (seats_at s n i) c) ≡ true) → child_holds test n i ≡ true
      → child_holds test (to loses s n) i ≡ true
  holds_kept test loses s n i w keeps h = ap (holds_of test) (child_to loses s n i w) ∙ kept_at test (loses_at loses n i) (seats_at s n i) (slice_get (below n) i) keeps h

  -- a test that is the same of every node
  abbrev pub Same : (Node → Bool) → Type 0
  Same test = (loses : Bool) (s : S) (n : Node) → test (to loses s n) ≡ test n

  pub holds_same : (test : Node → Bool) → Same test → (loses : Bool) (s : S) (n : Node) (i : ℕ) → Whole loses n → child_holds test (to loses s n) i ≡ child_holds test n i
  holds_same test same loses s n i w = holds_by test loses s n i w (λ c at. same (loses_at loses n i) (seats_at s n i) c)

  -- a test by the kind of a node
  pub by_kind : (test : Kind → Node → Bool) → ((k : Kind) (loses : Bool) (s : S) (n : Node) → kind_of n ≡ k → test k (to loses s n) ≡ test k n) → Same (λ n. test (kind_of n) n)
  by_kind test same loses s n = ap (λ k. test k (to loses s n)) (kind_to loses s n) ∙ same (kind_of n) loses s n refl

  pub kind_same : (is : Kind → Bool) → Same (λ n. is (kind_of n))
  kind_same is loses s n = ap is (kind_to loses s n)

  -- ---- tests of lists

  pub all_same : (test : Node → Bool) → Same test → (f : ℕ → Bool) (g : ℕ → S) (ns : List Node) → list_all test (each f g ns) ≡ list_all test ns
  all_same test same f g [] = refl
  all_same test same f g (n ∷ ns) = ap₂ (λ a b. a && b) (same (f 0) (g 0) n) (all_same test same (λ i. f (suc i)) (λ i. g (suc i)) ns)

  pub any_same : (test : Node → Bool) (f : ℕ → Bool) (g : ℕ → S) (ns : List Node) → ((i : ℕ) (s : S) (n : Node) → test (to (f i) s n) ≡ test n) → list_any test (each f g ns) ≡ list_any test ns
  any_same test f g [] same = refl
  any_same test f g (n ∷ ns) same = ap₂ (λ a b. a || b) (same 0 (g 0) n) (any_same test (λ i. f (suc i)) (λ i. g (suc i)) ns (λ i. same (suc i)))

  abbrev left_items : Bool → S → Option Node → List Node
  left_items loses s None = []
  left_items loses s (Some c) = each (loses_at loses c) (seats_at s c) (stay loses s c)

  items_of : (loses : Bool) (s : S) (child : Option Node) → children_of (at loses s child) ≡ left_items loses s child
  items_of loses s None = refl
  items_of loses s (Some c) = below_to loses s c

  items_to : (loses : Bool) (s : S) (n : Node) (i : ℕ) → Whole loses n → items_at (to loses s n) i ≡ left_items (loses_at loses n i) (seats_at s n i) (slice_get (below n) i)
  items_to loses s n i w = ap children_of (child_to loses s n i w) ∙ items_of (loses_at loses n i) (seats_at s n i) (slice_get (below n) i)

  -- of a child that may not lose any item
  pub items_same : {A : Type 0} (P : List Node → A) → ((f : ℕ → Bool) (g : ℕ → S) (ns : List Node) → P (each f g ns) ≡ P ns) → (loses : Bool) (s : S) (n : Node) (i : ℕ) → Whole loses n
      → loses_at loses n i ≡ false → P (items_at (to loses s n) i) ≡ P (items_at n i)
  items_same P same loses s n i w closed = ap P (items_to loses s n i w) ∙ by (slice_get (below n) i) (loses_at loses n i) (seats_at s n i) closed
    where
      by : (child : Option Node) (o : Bool) (s' : S) → o ≡ false → P (left_items o s' child) ≡ P (children_of child)
      by None o s' e = refl
      by (Some c) o s' e =
          ap (λ z. P (each (loses_at o c) (seats_at s' c) z)) (stay_whole o s' c (ap (λ b. b && is_list (kind_of c)) e))
          ∙ same (loses_at o c) (seats_at s' c) (below c)

  -- and is a list
  pub items_of_list : {A : Type 0} (P : List Node → A) → ((g : ℕ → S) (ns : List Node) → P (each (λ j. false) g ns) ≡ P ns) → (loses : Bool) (s : S) (n : Node) (i : ℕ) → Whole loses n
      → loses_at loses n i ≡ false → ((c : Node) → slice_get (below n) i ≡ Some c → is_list (kind_of c) ≡ true) → P (items_at (to loses s n) i) ≡ P (items_at n i)
  items_of_list P same loses s n i w closed listed = ap P (items_to loses s n i w) ∙ by (slice_get (below n) i) (loses_at loses n i) (seats_at s n i) closed listed
    where
      by : (child : Option Node) (o : Bool) (s' : S) → o ≡ false → ((c : Node) → child ≡ Some c → is_list (kind_of c) ≡ true) → P (left_items o s' child) ≡ P (children_of child)
      by None o s' e l = refl
      by (Some c) o s' e l =
          ap (λ z. P (each (loses_at o c) (seats_at s' c) z)) (stay_whole o s' c (ap (λ b. b && is_list (kind_of c)) e))
          ∙ ap₂ (λ list none. P (each (λ j. cond list none (may_lose (kind_of c) j)) (seats_at s' c) (below c))) (l c refl) e
          ∙ same (seats_at s' c) (below c)

  -- what holds of the items of any child, and of some of them where it does of all
  pub items_hold : (P : List Node → Bool) → ((f : ℕ → Bool) (g : ℕ → S) (ns : List Node) → P (each f g ns) ≡ P ns) → ((stays : Node → Bool) (ns : List Node) → P ns ≡ true → P (filter stays ns) ≡ true)
      → (loses : Bool) (s : S) (n : Node) (i : ℕ) → Whole loses n → P (items_at n i) ≡ true → P (items_at (to loses s n) i) ≡ true
  items_hold P same fewer loses s n i w h = ap P (items_to loses s n i w) ∙ by (slice_get (below n) i) (loses_at loses n i) (seats_at s n i) h
    where
      inner : (c : Node) (o : Bool) (s' : S) (b : Bool) → P (below c) ≡ true → P (each (loses_at o c) (seats_at s' c) (cond b (filter (λ x. not (d.drops s' x)) (below c)) (below c))) ≡ true
      inner c o s' true h = same (loses_at o c) (seats_at s' c) (filter (λ x. not (d.drops s' x)) (below c)) ∙ fewer (λ x. not (d.drops s' x)) (below c) h
      inner c o s' false h = same (loses_at o c) (seats_at s' c) (below c) ∙ h

      by : (child : Option Node) (o : Bool) (s' : S) → P (children_of child) ≡ true → P (left_items o s' child) ≡ true
      by None o s' h = h
      by (Some c) o s' h = inner c o s' (o && is_list (kind_of c)) h

  -- ---- what is made from the leaves up, and asks nothing of the items of a list

  module _ (step : Node-F Bool → Bool)
      (blind : (span : Span) (k : Kind) (cs ds : List Bool) → is_list k ≡ true → step (record { span = span; kind = k; children = cs }) ≡ step (record { span = span; kind = k; children = ds })) where
    abbrev folded : Node → Bool
    folded = fold-Node Bool step

    abbrev FoldsSame : Node → Type 0
    FoldsSame n = (loses : Bool) (s : S) → folded (to loses s n) ≡ folded n

    all_folded : (ns : List Node) → ((i : ℕ) (c : Node) → slice_get ns i ≡ Some c → FoldsSame c) → (f : ℕ → Bool) (g : ℕ → S) → map folded (each f g ns) ≡ map folded ns
    all_folded [] same f g = refl
    all_folded (n ∷ ns) same f g =
        ap₂ (λ a b. a ∷ b) (same 0 n refl (f 0) (g 0)) (all_folded ns (λ i. same (suc i)) (λ i. f (suc i)) (λ i. g (suc i)))

    node_folds : (n : Node) → ((i : ℕ) (c : Node) → slice_get (below n) i ≡ Some c → FoldsSame c) → FoldsSame n
    node_folds n same loses s =
        fold_out-Node Bool step (to loses s n)
        ∙ ap₂ (λ (z : Node-F Node) cs. step (record { span = z.span; kind = z.kind; children = cs })) (parts_to loses s n) (ap (map folded) (below_to loses s n))
        ∙ by (loses && is_list (kind_of n)) refl
        ∙ sym (fold_out-Node Bool step n)
      where
        second : (a b : Bool) → (a && b) ≡ true → b ≡ true
        second true b h = h
        second false b h = cc

        by : (b : Bool) → (loses && is_list (kind_of n)) ≡ b
            → step (record { span = (out-Node n).span; kind = kind_of n; children = map folded (each (loses_at loses n) (seats_at s n) (cond b (filter (λ c. not (d.drops s c)) (below n)) (below n))) })
            ≡ step (record { span = (out-Node n).span; kind = kind_of n; children = map folded (below n) })
        by true e = blind (out-Node n).span (kind_of n) _ (map folded (below n)) (second loses (is_list (kind_of n)) e)
        by false e = ap (λ (z : List Bool). step (record { span = (out-Node n).span; kind = kind_of n; children = z })) (all_folded (below n) same (loses_at loses n) (seats_at s n))

    pub fold_same : Same folded
    fold_same loses s n = induct FoldsSame node_folds n loses s
