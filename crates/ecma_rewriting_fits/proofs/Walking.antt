-- A walk that tells nothing over a tree tells nothing over what becomes of it.
use Rattle.std.proofs.Common.{◌≡◌, ◌∙◌, ℕ, zero, suc, ◌+◌, Bool, true, false, cond, refl, sym, ap, ap₂, subst, List, [], ◌∷◌, ◌++◌, map, length, replicate, Option, Some, None, slice_get, arith}
use Rattle.std.specs.List.{All}
use Rattle.std.proofs.lemmas.List.{length-append}
use Rattle.std.proofs.lemmas.List.Elements.{All-cons, All-head, All-nil, All-tail}
use Rattle.ecma_kind.specs.declared.kind.Kind.{Kind}
use Rattle.ecma_kind.specs.declared.kind.Kind.TheVariants as kind
use Rattle.ecma_kind.specs.declared.shapes.Shape.{Shape}
use Rattle.ecma_kind.specs.declared.span.Span.{Span}
use Rattle.ecma_tree.specs.Laws.{HaveShapes}
use Rattle.ecma_tree.specs.Nodes.{node_of}
use Rattle.ecma_tree.specs.Sorted.{HasShape, child_shapes, is_list, item_shape}
use Rattle.ecma_tree.specs.declared.node.Node.{Node, Node-F, ind-Node, roll-Node}
use Rattle.ecma_tree.proofs.Layers.{from_leaves-roll}
use Rattle.ecma_tree.proofs.ShapeLaws.{node_has_shape}
use Rattle.ecma_rules.specs.Failing.{failing_step, first_failing, least, least_from}
use Rattle.ecma_rewriting.specs.Laws.{children, items, layer}
use Rattle.ecma_rewriting.specs.Rewriting.{Rewriting, becomes, only}
use Rattle.ecma_rewriting.proofs.Equations.{becomes-roll, layer-other, list-kind}
use Rattle.ecma_rewriting.specs.Shapes.{Places, Suits, Turns}
use Rattle.ecma_rewriting.proofs.Shapes.{turned}
use Rattle.ecma_rewriting_fits.specs.Walking.{ChildrenAlike, ChildrenGo, Goes, ItemsAlike, ListsGo, NodesGo, Passes, PassesAfter, Ties, Walk, WalksGoByTests, Went, is_one_at_most, ties_by}

pub neither : (a b : Option ℕ) → least a b ≡ None → (a ≡ None) × (b ≡ None)
neither None b h = (refl, h)
neither (Some i) None h = cc
neither (Some i) (Some j) h = cc

different : true ≡ false → ⊥
different e = cc

none-two : false ≡ true → ⊥
none-two e = cc

some-same : {X : Type 0} (a b : X) → Some a ≡ Some b → a ≡ b
some-same a b e = cc

each-of : (Q : Node → Type 0) (ns : List ((n : Node) × Q n)) (i : ℕ) (c : Node) → slice_get (map (λ e. e.0) ns) i ≡ Some c → Q c
each-of Q [] i c at = cc
each-of Q (n ∷ ns) zero c at = subst Q (some-same n.0 c at) n.1
each-of Q (n ∷ ns) (suc i) c at = each-of Q ns i c at

-- numbers
from-zero : (n : ℕ) → 0 + n ≡ n
from-zero n = omega arith

next-after : (i n : ℕ) → i + suc n ≡ suc i + n
next-after i n = omega arith

further-on : (j l m n k : ℕ) → j + n ≡ k → n ≡ l + m → (j + l) + m ≡ k
further-on j l m n k h u = omega (arith, h, u)

last-of : (i n m j l r k q : ℕ) → i + suc n ≡ m → suc i ≡ m → n ≡ 0
last-of i n m j l r k q at last = omega (arith, at, last)

ends-at : (j l r q k : ℕ) → j + q ≡ k → q ≡ l + r → l ≡ 1 → r ≡ 0 → suc j ≡ k
ends-at j l r q k end u one none = omega (arith, end, u, one, none)

module _ (A : Type 0) (inside : A → Node → ℕ → A) (place : A → Node → Option ℕ) where
  abbrev first : Node → A → Option ℕ
  first = first_failing A place inside

  first-roll : (span : Span) (k : Kind) (cs : List Node) (a : A) → first (node_of span k cs) a ≡ least (place a (node_of span k cs)) (least_from A (inside a (node_of span k cs)) 0 (map first cs))
  first-roll span k cs a = ap (λ f. f a) (from_leaves-roll (A → Option ℕ) (failing_step A place inside) (record { span = span; kind = k; children = cs }))

  -- each of these tells nothing, the first one as the one at i
  abbrev pub AllTell : (ℕ → A) → ℕ → List Node → Type 0
  AllTell around i [] = Unit
  AllTell around i (c ∷ cs) = (first c (around i) ≡ None) × AllTell around (suc i) cs

  all-told : (around : ℕ → A) (i : ℕ) (cs : List Node) → least_from A around i (map first cs) ≡ None → AllTell around i cs
  all-told around i [] h = tt
  all-told around i (c ∷ cs) h = let parts = neither (first c (around i)) (least_from A around (suc i) (map first cs)) h in (parts.0, all-told around (suc i) cs parts.1)

  all-tell : (around : ℕ → A) (i : ℕ) (cs : List Node) → AllTell around i cs → least_from A around i (map first cs) ≡ None
  all-tell around i [] h = refl
  all-tell around i (c ∷ cs) h = ap₂ least h.0 (all-tell around (suc i) cs h.1)

  -- a node tells nothing exactly where neither it nor its children do
  pub node-told : (span : Span) (k : Kind) (cs : List Node) (a : A) → first (node_of span k cs) a ≡ None → (place a (node_of span k cs) ≡ None) × AllTell (inside a (node_of span k cs)) 0 cs
  node-told span k cs a h =
      let parts = neither (place a (node_of span k cs)) (least_from A (inside a (node_of span k cs)) 0 (map first cs)) (sym (first-roll span k cs a) ∙ h) in
      (parts.0, all-told (inside a (node_of span k cs)) 0 cs parts.1)

  pub node-tells : (span : Span) (k : Kind) (cs : List Node) (a : A) → place a (node_of span k cs) ≡ None → AllTell (inside a (node_of span k cs)) 0 cs → first (node_of span k cs) a ≡ None
  node-tells span k cs a here below = first-roll span k cs a ∙ ap₂ least here (all-tell (inside a (node_of span k cs)) 0 cs below)

  tell-append : (around : ℕ → A) (i : ℕ) (cs ds : List Node) → AllTell around i cs → AllTell around (i + length cs) ds → AllTell around i (cs ++ ds)
  tell-append around i [] ds h g = let e : i + 0 ≡ i = omega arith in subst (λ j. AllTell around j ds) e g
  tell-append around i (c ∷ cs) ds h g = (h.0, tell-append around (suc i) cs ds h.1 (subst (λ j. AllTell around j ds) (next-after i (length cs)) g))

  -- what passes with whatever is around any of these places
  anywhere : (around : ℕ → A) (l : List Node) → ((j : ℕ) → All (λ n. first n (around j) ≡ None) l) → (j : ℕ) → AllTell around j l
  anywhere around [] h j = tt
  anywhere around (n ∷ ns) h j =
      (All-head (λ n. first n (around j) ≡ None) n ns (h j), anywhere around ns (λ i. All-tail (λ n. first n (around i) ≡ None) n ns (h i)) (suc j))

  pub around-same : (around other : ℕ → A) → ((i : ℕ) → around i ≡ other i) → (i : ℕ) (cs : List Node) → AllTell around i cs → AllTell other i cs
  around-same around other same i [] h = tt
  around-same around other same i (c ∷ cs) h = (ap (first c) (sym (same i)) ∙ h.0, around-same around other same (suc i) cs h.1)

module _ {S A : Type 0} (r : Rewriting S) (p : Places S) (turns : Turns r p) (w : Walk A) (ties : Ties S A) where
  abbrev pub TellBefore : (ℕ → A) → ℕ → List Node → Type 0
  TellBefore = AllTell A w.inside w.before

  abbrev pub TellAfter : (ℕ → A) → ℕ → List Node → Type 0
  TellAfter = AllTell A w.inside w.after

  abbrev nodes : List ((n : Node) × Goes r p w ties n) → List Node
  nodes ns = map (λ e. e.0) ns

  one-most : (l : List Node) → l ≡ only l ∷ [] → is_one_at_most l ≡ true
  one-most l e = ap is_one_at_most e

  module _ (lists : ListsGo r p w ties) (t : Shape) (around other : ℕ → A) (m k : ℕ) where
    -- what is around the item at i agrees with what is around the node at j
    abbrev AgreeAll : S → Type 0
    AgreeAll s = (i j : ℕ) → (p.several s ≡ false → suc i ≡ m → suc j ≡ k) → ties.agree s t (around i) (other j)

    no-rest : (s : S) (ns : List Node) → length ns ≡ 0 → items r s ns ≡ []
    no-rest s [] h = refl
    no-rest s (n ∷ ns) h = absurd (omega (arith, h))

    -- the first node of what an item becomes is the last of its list where the item is, and one stands for one
    last-one : (i j n : ℕ) (l rest : List Node) → i + suc n ≡ m → j + length (l ++ rest) ≡ k → length l ≡ 1 → (n ≡ 0 → rest ≡ []) → suc i ≡ m → suc j ≡ k
    last-one i j n l rest at end one none last =
        let v : length rest ≡ 0 = ap length (none (last-of i n m j (length l) (length rest) k 0 at last)) in
        ends-at j (length l) (length rest) (length (l ++ rest)) k end (length-append l rest) one v

    -- what one item becomes
    item-tells : (b : Bool) (s : S) (i j : ℕ) (l rest : List Node) (n : ℕ) → p.several s ≡ b → AgreeAll s → i + suc n ≡ m → j + length (l ++ rest) ≡ k → (n ≡ 0 → rest ≡ [])
        → (b ≡ false → is_one_at_most l ≡ true) → ((x : A) → ties.agree s t (around i) x → All (PassesAfter w x) l) → TellAfter other j l
    item-tells true s i j l rest n e agree at end none few passes =
        anywhere A w.inside w.after other l (λ j'. passes (other j') (agree i j' (λ f. absurd (different (sym e ∙ f))))) j
    item-tells false s i j [] rest n e agree at end none few passes = tt
    item-tells false s i j (x ∷ []) rest n e agree at end none few passes =
        (All-head (PassesAfter w (other j)) x [] (passes (other j) (agree i j (λ f. last-one i j n (x ∷ []) rest at end refl none))), tt)
    item-tells false s i j (x ∷ y ∷ l) rest n e agree at end none few passes = absurd (none-two (few refl))

    abbrev Rest : List Node → ℕ → Type 0
    Rest ns i = (s : S) (j : ℕ) → Suits p s t → AgreeAll s → j + length (items r s ns) ≡ k → TellAfter other j (items r s ns) × ItemsAlike r ties s ns

    further : (j : ℕ) (l rest : List Node) → j + length (l ++ rest) ≡ k → (j + length l) + length rest ≡ k
    further j l rest h = further-on j (length l) (length rest) (length (l ++ rest)) k h (length-append l rest)

    item-goes : (b : Bool) (s : S) (i j : ℕ) (n : Node) (ns : List Node) → r.keeps n ≡ b → HasShape t n → Goes r p w ties n → Passes w (around i) n → Suits p s t → AgreeAll s → i + suc (length ns) ≡ m
        → j + length (cond b (becomes r s n ++ items r (r.next s n) ns) (r.unkept s n ++ items r s ns)) ≡ k → Rest ns (suc i)
        → TellAfter other j (cond b (becomes r s n ++ items r (r.next s n) ns) (r.unkept s n ++ items r s ns)) × ((b ≡ true → ties.like s n (becomes r s n)) × ItemsAlike r ties (cond b (r.next s n) s) ns)
    item-goes true s i j n ns e has goes passes suit agree at end rest =
        let l = becomes r s n in
        let more = items r (r.next s n) ns in
        let fills = turned r p turns n s t has suit in
        let went = λ (x : A) (g : ties.agree s t (around i) x). goes s t (around i) x has suit g passes in
        let agree' : AgreeAll (r.next s n) = λ i' j' last. lists.along s t (around i') (other j') n (agree i' j' (λ z. last (lists.same s n ∙ z))) has e in
        let far = rest (r.next s n) (j + length l) (turns.along s t n suit has e).0 agree' (further j l more end) in
        let few : p.several s ≡ false → is_one_at_most l ≡ true = λ z. one-most l (fills.single z) in
        let here = item-tells (p.several s) s i j l more (length ns) refl agree at end (no-rest (r.next s n) ns) few (λ x g. (went x g).passes) in
        let like : ties.like s n l = (went (other j) (agree i j (λ z. last-one i j (length ns) l more at end (ap length (fills.single z)) (no-rest (r.next s n) ns)))).alike in
        (tell-append A w.inside w.after other j l more here far.0, (λ z. like, far.1))
    item-goes false s i j n ns e has goes passes suit agree at end rest =
        let l = r.unkept s n in
        let more = items r s ns in
        let far = rest s (j + length l) suit agree (further j l more end) in
        let here = item-tells (p.several s) s i j l more (length ns) refl agree at end (no-rest s ns) (λ z. lists.few s n z e) (λ x g. lists.unkept s t (around i) x n g has passes e) in
        (tell-append A w.inside w.after other j l more here far.0, (λ z. absurd (none-two z), far.1))

    items-go : (ns : List ((n : Node) × Goes r p w ties n)) (i : ℕ) → HaveShapes (replicate (length (nodes ns)) t) (nodes ns) → i + length (nodes ns) ≡ m → TellBefore around i (nodes ns) → Rest (nodes ns) i
    items-go [] i has at tell s j suit agree end = (tt, tt)
    items-go (n ∷ ns) i has at tell s j suit agree end =
        item-goes (r.keeps n.0) s i j n.0 (nodes ns) refl has.0 n.1 tell.0 suit agree at end (items-go ns (suc i) has.1 (sym (next-after i (length (nodes ns))) ∙ at) tell.1)

  module _ (lists : ListsGo r p w ties) (others : NodesGo r p w ties) where
    list-goes : (s : S) (t : Shape) (a b : A) (span : Span) (ns : List ((n : Node) × Goes r p w ties n)) → HasShape t (node_of span kind.List (nodes ns)) → Suits p s t → ties.agree s t a b → Passes w a (node_of span kind.List (nodes ns))
        → Went w ties s (node_of span kind.List (nodes ns)) b (layer r s span kind.List (nodes ns))
    list-goes s t a b span ns has suit agree passes =
        let n = node_of span kind.List (nodes ns) in
        let ds = items r s (nodes ns) in
        let parts = (node_has_shape span kind.List (nodes ns) t).0 has in
        let told = node-told A w.inside w.before span kind.List (nodes ns) a passes in
        let agrees = lists.listed s t a b span (nodes ns) has agree told.0 in
        let go = items-go lists (item_shape t) (w.inside a n) (w.inside b (node_of span kind.List ds)) (length (nodes ns)) (length ds) ns 0 parts.1 (from-zero (length (nodes ns))) told.1 s 0 (turns.listed s t suit parts.0).0 agrees (from-zero (length ds)) in
        let here = lists.here s t a b span (nodes ns) has agree told.0 go.1 in
        record {
          passes = All-cons (PassesAfter w b) (node_of span kind.List ds) [] (node-tells A w.inside w.after span kind.List ds b here go.0) (All-nil (PassesAfter w b));
          alike = lists.alike s t a b span (nodes ns) has agree told.0 go.1;
        }

    layer-goes : (s : S) (t : Shape) (a b : A) (span : Span) (k : Kind) (ns : List ((n : Node) × Goes r p w ties n)) (l : Bool) → is_list k ≡ l → HasShape t (node_of span k (nodes ns)) → Suits p s t → ties.agree s t a b
        → Passes w a (node_of span k (nodes ns)) → Went w ties s (node_of span k (nodes ns)) b (layer r s span k (nodes ns))
    layer-goes s t a b span k ns true l has suit agree passes =
        subst (λ z. HasShape t (node_of span z (nodes ns)) → Passes w a (node_of span z (nodes ns)) → Went w ties s (node_of span z (nodes ns)) b (layer r s span z (nodes ns))) (sym (list-kind k l))
        (λ h g. list-goes s t a b span ns h suit agree g) has passes
    layer-goes s t a b span k ns false l has suit agree passes =
        subst (Went w ties s (node_of span k (nodes ns)) b) (sym (layer-other r s span k (nodes ns) l)) (others s t a b span k (nodes ns) l has suit agree passes (each-of (Goes r p w ties) ns))

    pub walks-go : (n : Node) → Goes r p w ties n
    walks-go = ind-Node (Goes r p w ties) (λ x y is.
        (let parts : Node-F Node = record { span = y.span; kind = y.kind; children = nodes y.children } in
        subst (λ (z : Node-F Node). Goes r p w ties (roll-Node z)) is (λ s t a b has suit agree passes.
        subst (Went w ties s (roll-Node parts) b) (sym (becomes-roll r s parts)) (layer-goes s t a b y.span y.kind y.children (is_list y.kind) refl has suit agree passes))))

  -- ---- a node over the ones that its children become

  module _ (seat : ℕ → S) (outer middle : ℕ → A) where
    abbrev Each : (ℕ → ℕ) → List Shape → Type 0
    Each at shapes = (j : ℕ) (u : Shape) → slice_get shapes j ≡ Some u → Suits p (seat (at j)) u × (p.several (seat (at j)) ≡ false) × ties.agree (seat (at j)) u (outer (at j)) (middle (at j))

    child-passes : (b : A) (l : List Node) → l ≡ only l ∷ [] → All (PassesAfter w b) l → PassesAfter w b (only l)
    child-passes b l e h = All-head (PassesAfter w b) (only l) [] (subst (All (PassesAfter w b)) e h)

    children-go : (at : ℕ → ℕ) (i : ℕ) (shapes : List Shape) (cs : List Node) → at 0 ≡ i → ((j : ℕ) → at (suc j) ≡ suc (at j)) → Each at shapes → HaveShapes shapes cs → TellBefore outer i cs
        → ((j : ℕ) (c : Node) → slice_get cs j ≡ Some c → Goes r p w ties c) → TellAfter middle i (map only (children r seat i cs)) × ChildrenAlike r ties seat i cs
    children-go at i shapes [] z next each has tell goes = (tt, tt)
    children-go at i [] (c ∷ cs) z next each has tell goes = absurd has
    children-go at i (u ∷ us) (c ∷ cs) z next each has tell goes =
        let here = subst (λ j. Suits p (seat j) u × (p.several (seat j) ≡ false) × ties.agree (seat j) u (outer j) (middle j)) z (each 0 u refl) in
        let fills = turned r p turns c (seat i) u has.0 here.0 in
        let went = goes 0 c refl (seat i) u (outer i) (middle i) has.0 here.0 here.2 tell.0 in
        let far = children-go (λ j. at (suc j)) (suc i) us cs (next 0 ∙ ap suc z) (λ j. next (suc j)) (λ j v get. each (suc j) v get) has.1 tell.1 (λ j d get. goes (suc j) d get) in
        ((child-passes (middle i) (becomes r (seat i) c) (fills.single here.1) went.passes, far.0), (went.alike, far.1))

  -- passes where its own test does, and what is around its children is what agrees
  pub over-ones-go : (s : S) (t : Shape) (a b : A) (span : Span) (k l : Kind) (cs : List Node) (middle : ℕ → A) → HasShape t (node_of span k cs) → Passes w a (node_of span k cs)
      → ((i : ℕ) (c : Node) → slice_get cs i ≡ Some c → Goes r p w ties c) → ChildrenGo p ties (r.seat s k cs) (child_shapes k t (length cs)) (w.inside a (node_of span k cs)) middle
      → (ChildrenAlike r ties (r.seat s k cs) 0 cs → let x = node_of span l (map only (children r (r.seat s k cs) 0 cs)) in (w.after b x ≡ None) × ((i : ℕ) → middle i ≡ w.inside b x i))
      → PassesAfter w b (node_of span l (map only (children r (r.seat s k cs) 0 cs))) × ChildrenAlike r ties (r.seat s k cs) 0 cs
  over-ones-go s t a b span k l cs middle has passes goes ones test =
      let parts = (node_has_shape span k cs t).0 has in
      let told = node-told A w.inside w.before span k cs a passes in
      let ds = map only (children r (r.seat s k cs) 0 cs) in
      let go = children-go (r.seat s k cs) (w.inside a (node_of span k cs)) middle (λ j. j) 0 (child_shapes k t (length cs)) cs refl (λ j. refl)
      (λ j u get. (ones.suits j u get, ones.one j u get, ones.agree j u get)) parts.1 told.1 goes in
      let here = test go.1 in
      (node-tells A w.inside w.after span l ds b here.0 (around-same A w.inside w.after middle (w.inside b (node_of span l ds)) here.1 0 ds go.0), go.1)

pub walks_go_by_tests : (S A : Type 0) → WalksGoByTests S A
walks_go_by_tests S A r p turns w agree like lists others n = walks-go r p turns w (ties_by agree like) lists others n
