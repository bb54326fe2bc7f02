-- Rewriting what is stripped is stripping what is rewritten.
use Rattle.std.proofs.Common.{◌≡◌, ◌∙◌, ◌⊎◌, inl, inr, ℕ, zero, suc, Bool, true, false, ◌&&◌, ◌||◌, not, cond, refl, sym, ap, ap₂, subst, List, [], ◌∷◌, ◌++◌, map, filter, length, replicate, Some, slice_get}
use Rattle.std.specs.List.{list_all}
use Rattle.std.proofs.lemmas.List.{map-append}
use Rattle.std.proofs.lemmas.List.Elements.{filter-append}
use Rattle.ecma_kind.specs.Sorts.{is_stmt, is_type_wrapper}
use Rattle.ecma_kind.specs.declared.kind.Kind.{Kind}
use Rattle.ecma_kind.specs.declared.kind.Kind.TheVariants as kind
use Rattle.ecma_kind.specs.declared.span.Span.{Span}
use Rattle.ecma_kind.specs.declared.shapes.Shape.{Shape}
use Rattle.ecma_kind.specs.declared.shapes.Sort.{Sort}
use Rattle.ecma_kind.specs.declared.shapes.Sort.TheVariants as sort
use Rattle.ecma_tree.specs.Laws.{HaveShapes}
use Rattle.ecma_tree.specs.Nodes.{absent, dummy_span, node_of}
use Rattle.ecma_tree.specs.Sorted.{HasShape, child_shapes, is_absent, is_list, item_shape, many, maybe, one}
use Rattle.ecma_tree.specs.declared.node.Node.{Node, Node-F, ind-Node, out-Node, roll-Node}
use Rattle.ecma_tree.specs.declared.node.Node.TheViews.{out-roll-Node, roll-out-Node}
use Rattle.ecma_tree.proofs.ShapeLaws.{node_has_shape}
use Rattle.ecma_strip.specs.Staying.{is_empty_stmt, stays}
use Rattle.ecma_strip.specs.Stripping.{body_of, changed_at, plain, plain_children, plain_kind, staying_nodes, stripped, without_empty, without_this}
use Rattle.ecma_rewriting.specs.Laws.{children, items, layer}
use Rattle.ecma_rewriting.specs.Rewriting.{Rewriting, becomes, only, over_ones}
use Rattle.ecma_rewriting.proofs.Equations.{becomes-roll, layer-other, list-kind, nodes_become}
use Rattle.ecma_strip_rewriting.specs.Commuting.{Commutes, CommutesWithStripping, SeesNoTypes, StaysFull, is_body_at, is_full, is_settled, is_type, is_variables, of_all, of_staying}
use Rattle.ecma_strip_rewriting.proofs.PlainKinds.{IsStatement, child-at, children-unchanged, class, expr-full, filter-all, filter-none, full-roll, no, plain-same, shape-out, some-same, statement-plain, stripped-list, stripped-other, type-plain, usual-plain, variables-item, wrapper-plain}
use Rattle.ecma_strip_rewriting.proofs.Stays.{item-roll, item_by}

cond-true : {X : Type 0} (b : Bool) (x y : X) → b ≡ true → cond b x y ≡ x
cond-true b x y h = ap (λ z. cond z x y) h

-- the one that a list begins with, without its types
pub only-stripped : stripped absent ≡ absent → (ns : List Node) → only (map stripped ns) ≡ stripped (only ns)
only-stripped e [] = sym e
only-stripped e (n ∷ ns) = refl

pub stripped-absent : stripped absent ≡ absent
unfolding plain plain_kind plain_children
stripped-absent = stripped-other dummy_span kind.Absent [] refl

pub all-only : (lists : List (List Node)) → map only (map (map stripped) lists) ≡ map stripped (map only lists)
all-only [] = refl
all-only (l ∷ ls) = ap₂ (λ a rest. a ∷ rest) (only-stripped stripped-absent l) (all-only ls)

-- lists of as many nodes, each of this shape
abbrev Each : Shape → List Node → Type 0
Each t ns = HaveShapes (replicate (length ns) t) ns

without-empty-roll : (span : Span) (cs : List Node) → without_empty (node_of span kind.List cs) ≡ node_of span kind.List (filter is_full cs)
without-empty-roll span cs = ap (λ (z : Node-F Node). node_of z.span z.kind (filter is_full z.children)) (out-roll-Node (record { span = span; kind = kind.List; children = cs }))

module _ (Q : Node → Type 0) where
  abbrev pub those : List ((n : Node) × Q n) → List Node
  those ns = map (λ e. e.0) ns

  each-of : (ns : List ((n : Node) × Q n)) (i : ℕ) (c : Node) → slice_get (those ns) i ≡ Some c → Q c
  each-of [] i c at = cc
  each-of (n ∷ ns) zero c at = subst Q (some-same n.0 c at) n.1
  each-of (n ∷ ns) (suc i) c at = each-of ns i c at

  -- an induction by kinds and children
  pub by-parts : ((span : Span) (k : Kind) (cs : List Node) → ((i : ℕ) (c : Node) → slice_get cs i ≡ Some c → Q c) → Q (node_of span k cs)) → (n : Node) → Q n
  by-parts step = ind-Node Q (λ x y is.
      (let parts : Node-F Node = record { span = y.span; kind = y.kind; children = those y.children } in
      subst (λ (z : Node-F Node). Q (roll-Node z)) is (step y.span y.kind (those y.children) (each-of y.children))))

-- ---- nodes without types

pub stripped-type : (span : Span) (k : Kind) (cs : List Node) → is_type k ≡ true → stripped (node_of span k cs) ≡ absent
stripped-type span k cs y = let parts = type-plain span k (map stripped cs) y in stripped-other span k cs parts.1 ∙ parts.0

pub stripped-wrapper : (span : Span) (k : Kind) (e : Node) (es : List Node) (t : Shape) → is_type_wrapper k ≡ true → stripped (node_of span k (e ∷ es)) ≡ stripped e
stripped-wrapper span k e es t w = let parts = wrapper-plain span k (stripped e) (map stripped es) t 0 w in stripped-other span k (e ∷ es) parts.1 ∙ parts.0

-- the expression with a type round it
pub wrapped-first : (span : Span) (k : Kind) (cs : List Node) (t : Shape) → is_type_wrapper k ≡ true → HaveShapes (child_shapes k t (length cs)) cs → (e : Node) × (es : List Node) × (cs ≡ e ∷ es) × HasShape (one sort.Expr) e
wrapped-first span k [] t w h = by (child_shapes k t 0) (wrapper-plain span k absent [] t 0 w).2 h
  where
    by : (shapes : List Shape) → slice_get shapes 0 ≡ Some (one sort.Expr) → HaveShapes shapes [] → (e : Node) × (es : List Node) × ([] ≡ e ∷ es) × HasShape (one sort.Expr) e
    by [] e h = cc
    by (u ∷ us) e h = absurd h
wrapped-first span k (c ∷ cs) t w h = (c, cs, refl, by (child_shapes k t (length (c ∷ cs))) (wrapper-plain span k absent [] t (length (c ∷ cs)) w).2 h)
  where
    by : (shapes : List Shape) → slice_get shapes 0 ≡ Some (one sort.Expr) → HaveShapes shapes (c ∷ cs) → HasShape (one sort.Expr) c
    by [] e h = absurd h
    by (u ∷ us) e h = subst (λ z. HasShape z c) (some-same u (one sort.Expr) e) h.0

expr-is-full : (e : Node) → HasShape (one sort.Expr) e → is_full e ≡ true
expr-is-full e h = expr-full (out-Node e).kind (shape-out e (one sort.Expr) h).0

-- the four classes of a kind
abbrev Class : Kind → Type 0
Class k = (is_list k ≡ true) ⊎ ((is_type k ≡ true) ⊎ ((is_type_wrapper k ≡ true) ⊎ ((is_list k ≡ false) × (is_type k ≡ false) × (is_type_wrapper k ≡ false))))

-- a tree that is no empty statement is none without its types
abbrev FullSo : Node → Type 0
FullSo n = (t : Shape) → HasShape t n → is_full n ≡ true → is_full (stripped n) ≡ true

full-so-node : (span : Span) (k : Kind) (cs : List Node) → ((i : ℕ) (c : Node) → slice_get cs i ≡ Some c → FullSo c) → FullSo (node_of span k cs)
full-so-node span k cs each t has full = by (class k)
  where
    kind-full : not (is_empty_stmt k) ≡ true
    kind-full = sym (full-roll span k cs) ∙ full

    by : Class k → is_full (stripped (node_of span k cs)) ≡ true
    by (inl l) = subst (λ z. is_full (stripped (node_of span z cs)) ≡ true) (sym (list-kind k l)) (ap is_full (stripped-list span cs) ∙ full-roll span kind.List (map stripped (staying_nodes kind.List cs)))
    by (inr (inl y)) = ap is_full (stripped-type span k cs y) ∙ full-roll dummy_span kind.Absent []
    by (inr (inr (inl w))) =
        let front = wrapped-first span k cs t w ((node_has_shape span k cs t).0 has).1 in
        let e = front.0 in
        ap (λ z. is_full (stripped (node_of span k z))) front.2
        ∙ ap is_full (stripped-wrapper span k e front.1 t w)
        ∙ each 0 e (ap (λ (z : List Node). slice_get z 0) front.2) (one sort.Expr) front.3 (expr-is-full e front.3)
    by (inr (inr (inr (l, y, w)))) =
        ap is_full (stripped-other span k cs l ∙ usual-plain span k (map stripped cs) y w)
        ∙ full-roll span (plain_kind k) (plain_children k (map stripped cs)) ∙ ap not (plain-same k).2 ∙ kind-full

full-so : (n : Node) → FullSo n
full-so = by-parts FullSo full-so-node

module _ {S : Type 0} (r : Rewriting S) (raw : S → Bool) (leaves : S → Kind → Bool) (acts : Kind → Bool) (p : SeesNoTypes r raw leaves acts) where
  abbrev W : Rewriting S
  W = of_all r

  abbrev T : Rewriting S
  T = of_staying r

  -- ---- raw seats

  module _ (keeps : Node → Bool) where
    abbrev R : Rewriting S
    R = record r { keeps = keeps }

    becomes-other : (s : S) (span : Span) (k : Kind) (cs : List Node) → is_list k ≡ false → becomes R s (node_of span k cs) ≡ r.here s span k cs (children R (r.seat s k cs) 0 cs)
    becomes-other s span k cs l = nodes_become S R s span k cs ∙ layer-other R s span k cs l

    abbrev IsRaw : Node → Type 0
    IsRaw n = (s : S) → raw s ≡ true → becomes R s n ≡ n ∷ []

    abbrev raws : List ((n : Node) × IsRaw n) → List Node
    raws ns = map (λ e. e.0) ns

    raw-item : (b : Bool) (s : S) (n : (n : Node) × IsRaw n) (ns : List Node) → raw s ≡ true → ((s' : S) → raw s' ≡ true → items R s' ns ≡ ns)
        → cond b (becomes R s n.0 ++ items R (r.next s n.0) ns) (r.unkept s n.0 ++ items R s ns) ≡ n.0 ∷ ns
    raw-item true s n ns h rest = ap₂ (λ a b. a ++ b) (n.1 s h) (rest (r.next s n.0) (p.does.raw_next s n.0 h))
    raw-item false s n ns h rest = ap₂ (λ a b. a ++ b) (p.does.raw_unkept s n.0 h) (rest s h)

    raw-items : (ns : List ((n : Node) × IsRaw n)) (s : S) → raw s ≡ true → items R s (raws ns) ≡ raws ns
    raw-items [] s h = refl
    raw-items (n ∷ ns) s h = raw-item (keeps n.0) s n (raws ns) h (raw-items ns)

    raw-layer : (s : S) (span : Span) (k : Kind) (ns : List ((n : Node) × IsRaw n)) (b : Bool) → is_list k ≡ b → raw s ≡ true → layer R s span k (raws ns) ≡ node_of span k (raws ns) ∷ []
    raw-layer s span k ns false l h = layer-other R s span k (raws ns) l ∙ p.does.raw_here s span k (raws ns) (children R (r.seat s k (raws ns)) 0 (raws ns)) h
    raw-layer s span k ns true l h =
        subst (λ z. layer R s span z (raws ns) ≡ node_of span z (raws ns) ∷ []) (sym (list-kind k l)) (ap (λ z. node_of span kind.List z ∷ []) (raw-items ns s h))

    raw-stays : (n : Node) → IsRaw n
    raw-stays = ind-Node IsRaw (λ x y is.
        (let parts : Node-F Node = record { span = y.span; kind = y.kind; children = raws y.children } in
        subst (λ (z : Node-F Node). IsRaw (roll-Node z)) is (λ s h. becomes-roll R s parts ∙ raw-layer s y.span y.kind y.children (is_list y.kind) refl h)))

  -- where nothing is done
  quiet-over : (keeps : Node → Bool) (s : S) (span : Span) (k : Kind) (cs : List Node) → raw s ≡ false → is_settled k ≡ true → is_list k ≡ false → is_type_wrapper k ≡ false
      → becomes (record r { keeps = keeps }) s (node_of span k cs) ≡ over_ones span k (children (record r { keeps = keeps }) (r.seat s k cs) 0 cs)
  quiet-over keeps s span k cs w h l t =
      let lists = children (record r { keeps = keeps }) (r.seat s k cs) 0 cs in
      becomes-other keeps s span k cs l ∙ p.does.quiet s span k cs lists w (p.settled k h) l t ∙ ap (λ b. cond b (node_of span k cs ∷ []) (over_ones span k lists)) (p.settled_stays s k h)

  -- a node without children at which nothing is done
  leaf : (keeps : Node → Bool) (s : S) (span : Span) (k : Kind) (b : Bool) → raw s ≡ b → is_settled k ≡ true → is_list k ≡ false → is_type_wrapper k ≡ false
      → becomes (record r { keeps = keeps }) s (node_of span k []) ≡ node_of span k [] ∷ []
  leaf keeps s span k true w a l t = raw-stays keeps (node_of span k []) s w
  leaf keeps s span k false w a l t = quiet-over keeps s span k [] w a l t

  becomes-absent : (s : S) → becomes W s absent ≡ absent ∷ []
  becomes-absent s = leaf (λ n. true) s dummy_span kind.Absent (raw s) refl refl refl refl

  becomes-list : (s : S) (span : Span) (cs : List Node) → becomes W s (node_of span kind.List cs) ≡ node_of span kind.List (items W s cs) ∷ []
  becomes-list s span cs = nodes_become S W s span kind.List cs

  -- ---- children and items

  children-commute : (shapes : List Shape) (cs : List Node) → HaveShapes shapes cs → ((i : ℕ) (c : Node) → slice_get cs i ≡ Some c → Commutes r c) → (seat : ℕ → S) (i : ℕ)
      → children W seat i (map stripped cs) ≡ map (map stripped) (children T seat i cs)
  children-commute [] [] h each seat i = refl
  children-commute [] (c ∷ cs) h each seat i = absurd h
  children-commute (u ∷ us) [] h each seat i = absurd h
  children-commute (u ∷ us) (c ∷ cs) h each seat i = ap₂ (λ a b. a ∷ b) (each 0 c refl u h.0 (seat i)) (children-commute us cs h.1 (λ j d at. each (suc j) d at) seat (suc i))

  abbrev ItemsCommute : List Node → Type 0
  ItemsCommute cs = (s : S) → items W s (map stripped (filter stays cs)) ≡ map stripped (filter stays (items T s cs))

  item-commutes : (t : Shape) (b : Bool) (n : Node) (cs : List Node) (s : S) → stays n ≡ b → HasShape t n → Commutes r n → ItemsCommute cs
      → items W s (map stripped (cond b (n ∷ filter stays cs) (filter stays cs))) ≡ map stripped (filter stays (cond b (becomes T s n ++ items T (r.next s n) cs) (r.unkept s n ++ items T s cs)))
  item-commutes t true n cs s h has same rest =
      ap₂ (λ a b. a ++ b)
      (same t has s ∙ ap (map stripped) (sym (filter-all stays (becomes T s n) (p.remains s t n has h))))
      (ap (λ z. items W z (map stripped (filter stays cs))) (p.next s t n has) ∙ rest (r.next s n))
      ∙ sym (ap (map stripped) (filter-append stays (becomes T s n) (items T (r.next s n) cs)) ∙ map-append stripped (filter stays (becomes T s n)) (filter stays (items T (r.next s n) cs)))
  item-commutes t false n cs s h has same rest =
      rest s
      ∙ ap (λ z. map stripped (z ++ filter stays (items T s cs))) (sym (p.unkept s t n has h))
      ∙ ap (map stripped) (sym (filter-append stays (r.unkept s n) (items T s cs)))

  items-commute : (t : Shape) (cs : List Node) → Each t cs → ((i : ℕ) (c : Node) → slice_get cs i ≡ Some c → Commutes r c) → ItemsCommute cs
  items-commute t [] h each s = refl
  items-commute t (c ∷ cs) h each s = item-commutes t (stays c) c cs s refl h.0 (each 0 c refl) (items-commute t cs h.1 (λ i d at. each (suc i) d at))

  -- ---- empty statements

  -- what becomes of a usual node without its types, in a seat that is not raw
  abbrev plainly : S → Span → Kind → List Node → List Node
  plainly s span k cs = let ys = plain_children k (map stripped cs) in r.here s span (plain_kind k) ys (children W (r.seat s (plain_kind k) ys) 0 ys)

  usual-becomes : (s : S) (span : Span) (k : Kind) (cs : List Node) → is_list k ≡ false → is_type k ≡ false → is_type_wrapper k ≡ false → becomes W s (stripped (node_of span k cs)) ≡ plainly s span k cs
  usual-becomes s span k cs l y w =
      ap (becomes W s) (stripped-other span k cs l ∙ usual-plain span k (map stripped cs) y w) ∙ becomes-other (λ n. true) s span (plain_kind k) (plain_children k (map stripped cs)) ((plain-same k).0 ∙ l)

  full-one : (span : Span) (k : Kind) (cs : List Node) → not (is_empty_stmt k) ≡ true → list_all is_full (node_of span k cs ∷ []) ≡ true
  full-one span k cs h = ap (λ b. b && true) (full-roll span k cs ∙ h)

  full-either : (span : Span) (k : Kind) (b : Bool) (cs ds : List Node) → not (is_empty_stmt k) ≡ true → list_all is_full (cond b (node_of span k cs ∷ []) (node_of span k ds ∷ [])) ≡ true
  full-either span k true cs ds h = full-one span k cs h
  full-either span k false cs ds h = full-one span k ds h

  full-single : (ns : List Node) (n : Node) → ns ≡ n ∷ [] → is_full n ≡ true → list_all is_full ns ≡ true
  full-single ns n e h = ap (list_all is_full) e ∙ ap (λ b. b && true) h

  full-node : (span : Span) (k : Kind) (cs : List Node) → ((i : ℕ) (c : Node) → slice_get cs i ≡ Some c → StaysFull r c) → StaysFull r (node_of span k cs)
  full-node span k cs each t has full s = by (raw s) refl
    where
      kind-full : not (is_empty_stmt k) ≡ true
      kind-full = sym (full-roll span k cs) ∙ full

      usual : (b : Bool) → acts k ≡ b → raw s ≡ false → is_list k ≡ false → is_type k ≡ false → is_type_wrapper k ≡ false → list_all is_full (plainly s span k cs) ≡ true
      usual true a raw-s l y w = p.full s t span k cs raw-s a l w has each
      usual false a raw-s l y w =
          let ys = plain_children k (map stripped cs) in
          let same = plain-same k in
          let lists = children W (r.seat s (plain_kind k) ys) 0 ys in
          ap (list_all is_full) (p.does.quiet s span (plain_kind k) ys lists raw-s (p.same k ∙ a) (same.0 ∙ l) (same.1 ∙ w))
          ∙ full-either span (plain_kind k) (leaves s (plain_kind k)) ys (map only lists) (ap not same.2 ∙ kind-full)

      classes : raw s ≡ false → Class k → list_all is_full (becomes W s (stripped (node_of span k cs))) ≡ true
      classes raw-s (inl l) =
          subst (λ z. list_all is_full (becomes W s (stripped (node_of span z cs))) ≡ true) (sym (list-kind k l))
          (ap (λ z. list_all is_full (becomes W s z)) (stripped-list span cs) ∙ ap (list_all is_full) (becomes-list s span (map stripped (staying_nodes kind.List cs))) ∙ full-one span kind.List (items W s (map stripped (staying_nodes kind.List cs))) refl)
      classes raw-s (inr (inl y)) = ap (λ z. list_all is_full (becomes W s z)) (stripped-type span k cs y) ∙ full-single (becomes W s absent) absent (becomes-absent s) (full-roll dummy_span kind.Absent [])
      classes raw-s (inr (inr (inl w))) =
          let front = wrapped-first span k cs t w ((node_has_shape span k cs t).0 has).1 in
          let e = front.0 in
          ap (λ z. list_all is_full (becomes W s (stripped (node_of span k z)))) front.2
          ∙ ap (λ z. list_all is_full (becomes W s z)) (stripped-wrapper span k e front.1 t w)
          ∙ each 0 e (ap (λ (z : List Node). slice_get z 0) front.2) (one sort.Expr) front.3 (expr-is-full e front.3) s
      classes raw-s (inr (inr (inr (l, y, w)))) = ap (list_all is_full) (usual-becomes s span k cs l y w) ∙ usual (acts k) refl raw-s l y w

      by : (b : Bool) → raw s ≡ b → list_all is_full (becomes W s (stripped (node_of span k cs))) ≡ true
      by true raw-s = full-single (becomes W s (stripped (node_of span k cs))) (stripped (node_of span k cs)) (raw-stays (λ n. true) (stripped (node_of span k cs)) s raw-s) (full-so (node_of span k cs) t has full)
      by false raw-s = classes raw-s (class k)

  stays-full : (n : Node) → StaysFull r n
  stays-full = by-parts (StaysFull r) full-node

  -- behind an empty statement, and where it stood
  empty-kind : (k : Kind) → is_empty_stmt k ≡ true → k ≡ kind.EmptyStmt
  empty-kind kind.EmptyStmt h = refl
  empty-kind _ h = no h

  empty-form : (n : Node) → is_empty_stmt (out-Node n).kind ≡ true → stripped n ≡ node_of (out-Node n).span kind.EmptyStmt (map stripped (out-Node n).children)
  unfolding plain plain_kind plain_children
  empty-form n h =
      ap stripped (sym (roll-out-Node n))
      ∙ ap (λ z. stripped (node_of (out-Node n).span z (out-Node n).children)) (empty-kind (out-Node n).kind h)
      ∙ stripped-other (out-Node n).span kind.EmptyStmt (out-Node n).children refl

  empty-node-gone : (span : Span) (cs : List Node) → filter is_full (node_of span kind.EmptyStmt cs ∷ []) ≡ []
  empty-node-gone span cs = filter-none is_full (node_of span kind.EmptyStmt cs) (full-roll span kind.EmptyStmt cs)

  empty-gone : (s : S) (span : Span) (cs : List Node) (b : Bool) → raw s ≡ b → filter is_full (becomes W s (node_of span kind.EmptyStmt cs)) ≡ []
  empty-gone s span cs true w = ap (filter is_full) (raw-stays (λ n. true) (node_of span kind.EmptyStmt cs) s w) ∙ empty-node-gone span cs
  empty-gone s span cs false w =
      ap (filter is_full) (quiet-over (λ n. true) s span kind.EmptyStmt cs w refl refl refl)
      ∙ empty-node-gone span (map only (children W (r.seat s kind.EmptyStmt cs) 0 cs))

  abbrev EmptiesGo : List Node → Type 0
  EmptiesGo cs = (s : S) → items W s (filter is_full (map stripped cs)) ≡ filter is_full (items W s (map stripped cs))

  not-true : (b : Bool) → not b ≡ true → b ≡ false
  not-true true h = no h
  not-true false h = refl

  not-false : (b : Bool) → not b ≡ false → b ≡ true
  not-false true h = refl
  not-false false h = no (sym h)

  empty-item : (b : Bool) (n : Node) (t : Shape) (cs : List Node) → is_full n ≡ b → HasShape t n → EmptiesGo cs → EmptiesGo (n ∷ cs)
  empty-item false n t cs e h rest s =
      let is = empty-form n (not-false (is_empty_stmt (out-Node n).kind) e) in
      let ds = map stripped (out-Node n).children in
      let gone : is_full (stripped n) ≡ false = ap is_full is ∙ full-roll (out-Node n).span kind.EmptyStmt ds in
      let others = filter is_full (map stripped cs) in
      ap (λ b. items W s (cond b (stripped n ∷ others) others)) gone
      ∙ rest s
      ∙ ap (λ z. filter is_full (items W z (map stripped cs))) (sym (p.next_empty s (out-Node n).span ds) ∙ ap (r.next s) (sym is))
      ∙ ap (λ z. z ++ filter is_full (items W (r.next s (stripped n)) (map stripped cs))) (sym (ap (λ z. filter is_full (becomes W s z)) is ∙ empty-gone s (out-Node n).span ds (raw s) refl))
      ∙ sym (filter-append is_full (becomes W s (stripped n)) (items W (r.next s (stripped n)) (map stripped cs)))
  empty-item true n t cs e h rest s =
      let others = filter is_full (map stripped cs) in
      ap (λ b. items W s (cond b (stripped n ∷ others) others)) (full-so n t h e)
      ∙ ap₂ (λ a b. a ++ b) (sym (filter-all is_full (becomes W s (stripped n)) (stays-full n t h e s))) (rest (r.next s (stripped n)))
      ∙ sym (filter-append is_full (becomes W s (stripped n)) (items W (r.next s (stripped n)) (map stripped cs)))

  empty-chosen : (t : Shape) (b : Bool) (n : Node) (cs : List Node) → HasShape t n → EmptiesGo cs → EmptiesGo (cond b (n ∷ cs) cs)
  empty-chosen t true n cs h rest s = empty-item (is_full n) n t cs refl h rest s
  empty-chosen t false n cs h rest s = rest s

  empties-go : (t : Shape) (cs : List Node) → Each t cs → EmptiesGo (filter stays cs)
  empties-go t [] h s = refl
  empties-go t (c ∷ cs) h s = empty-chosen t (stays c) c (filter stays cs) h.0 (empties-go t cs h.1) s

  -- ---- what stripping changes among children, before and after

  abbrev SameAt : (Node → Node) → S → Node → Type 0
  SameAt f s x = only (becomes W s (f x)) ≡ f (only (becomes W s x))

  list-form : (n : Node) (σ : Sort) → HasShape (many σ) n → (stripped n ≡ node_of (out-Node n).span kind.List (map stripped (filter stays (out-Node n).children))) × Each (one σ) (out-Node n).children
  list-form n σ h =
      let parts = shape-out n (many σ) h in
      let l = list-kind (out-Node n).kind parts.0 in (
        ap stripped (sym (roll-out-Node n)) ∙ ap (λ z. stripped (node_of (out-Node n).span z (out-Node n).children)) l ∙ stripped-list (out-Node n).span (out-Node n).children,
        subst (λ z. HaveShapes (child_shapes z (many σ) (length (out-Node n).children)) (out-Node n).children) l parts.1,
      )

  without-empty : (n : Node) (σ : Sort) → HasShape (many σ) n → (s : S) → SameAt without_empty s (stripped n)
  without-empty n σ h s =
      let span = (out-Node n).span in
      let xs = map stripped (filter stays (out-Node n).children) in
      let form = list-form n σ h in
      ap (λ z. only (becomes W s z)) (ap without_empty form.0 ∙ without-empty-roll span xs)
      ∙ ap only (becomes-list s span (filter is_full xs))
      ∙ ap (node_of span kind.List) (empties-go (one σ) (out-Node n).children form.1 s)
      ∙ sym (ap (λ z. without_empty (only (becomes W s z))) form.0 ∙ ap (λ z. without_empty (only z)) (becomes-list s span xs) ∙ without-empty-roll span (items W s xs))

  -- a seat in which nothing is done, also below
  raw-same : (f : Node → Node) (s : S) (x : Node) → raw s ≡ true → SameAt f s x
  raw-same f s x h = ap only (raw-stays (λ n. true) (f x) s h) ∙ ap (λ z. f (only z)) (sym (raw-stays (λ n. true) x s h))

  module _ (s : S) (k : Kind) (cs : List Node) (i : ℕ) (at : is_body_at k i ≡ true) (outer : raw s ≡ false) where
    abbrev seat : S
    seat = r.seat s k cs i

    body-of-roll : (span : Span) (l : Kind) (ds : List Node) → body_of (node_of span l ds) ≡ cond (item_by l ds) (node_of span l ds) (node_of span kind.EmptyStmt [])
    body-of-roll span l ds =
        ap (λ b. cond b (node_of span l ds) (node_of (out-Node (node_of span l ds)).span kind.EmptyStmt [])) (item-roll span l ds)
        ∙ ap (λ (z : Node-F Node). cond (item_by l ds) (node_of span l ds) (node_of z.span kind.EmptyStmt [])) (out-roll-Node (record { span = span; kind = l; children = ds }))

    -- a body that becomes one node of its kind, of which it is the same whether it stays
    body-one : (span : Span) (l : Kind) (ds ys : List Node) → item_by l ds ≡ item_by l ys → raw seat ≡ false → becomes W seat (node_of span l ds) ≡ node_of span l ys ∷ []
        → SameAt body_of seat (node_of span l ds)
    body-one span l ds ys same h is =
        ap (λ z. only (becomes W seat z)) (body-of-roll span l ds) ∙ by (item_by l ds)
        ∙ ap (λ b. cond b (node_of span l ys) (node_of span kind.EmptyStmt [])) same
        ∙ sym (ap (λ z. body_of (only z)) is ∙ body-of-roll span l ys)
      where
        by : (b : Bool) → only (becomes W seat (cond b (node_of span l ds) (node_of span kind.EmptyStmt []))) ≡ cond b (node_of span l ys) (node_of span kind.EmptyStmt [])
        by true = ap only is
        by false = ap only (leaf (λ n. true) seat span kind.EmptyStmt false h refl refl refl)

    body-kind : (span : Span) (l : Kind) (ds : List Node) → is_list l ≡ false → is_type_wrapper l ≡ false → IsStatement l → raw seat ≡ false → SameAt body_of seat (node_of span l ds)
    body-kind span l ds n w (inl d) h = by (p.bodies s k l cs ds i span lists outer at d)
      where
        lists : List (List Node)
        lists = children W (r.seat seat l ds) 0 ds

        by : (r.here seat span l ds lists ≡ node_of span l ds ∷ []) ⊎ ((is_variables l ≡ true) × (r.here seat span l ds lists ≡ over_ones span l lists)) → SameAt body_of seat (node_of span l ds)
        by (inl left) = body-one span l ds ds refl h (becomes-other (λ n. true) seat span l ds n ∙ left)
        by (inr (v, over)) = body-one span l ds (map only lists) (variables-item l ds (map only lists) v) h (becomes-other (λ n. true) seat span l ds n ∙ over)
    body-kind span l ds n w (inr (settled, stays)) h =
        let ys = map only (children W (r.seat seat l ds) 0 ds) in
        body-one span l ds ys (stays ds ∙ sym (stays ys)) h (quiet-over (λ n. true) seat span l ds h settled n w)

    body-same : (n : Node) → (is_absent (out-Node n).kind || is_stmt (out-Node n).kind) ≡ true → (b : Bool) → raw seat ≡ b → SameAt body_of seat (stripped n)
    body-same n g true h = raw-same body_of seat (stripped n) h
    body-same n g false h =
        let l = (out-Node n).kind in
        let ds = map stripped (out-Node n).children in
        let parts = statement-plain (out-Node n).span l ds g in
        subst (SameAt body_of seat) (sym (ap stripped (sym (roll-out-Node n)) ∙ stripped-other (out-Node n).span l (out-Node n).children parts.1 ∙ parts.0))
        (body-kind (out-Node n).span l (plain_children l ds) parts.1 parts.2 parts.3 h)

  or-stmt : (u : Kind) → is_stmt u ≡ true → (is_absent u || is_stmt u) ≡ true
  or-stmt u h = by (is_absent u) (is_stmt u) h
    where
      by : (a b : Bool) → b ≡ true → (a || b) ≡ true
      by true b h = refl
      by false b h = h

  abbrev up : ℕ → ℕ → ℕ
  up i zero = i
  up i (suc j) = up (suc i) j

  changed : (seats : ℕ → S) (f : Node → Node) (j i : ℕ) (xs : List Node) → ((x : Node) → slice_get xs j ≡ Some x → SameAt f (seats (up i j)) x)
      → map only (children W seats i (changed_at j f xs)) ≡ changed_at j f (map only (children W seats i xs))
  changed seats f j i [] same = refl
  changed seats f zero i (x ∷ xs) same = ap (λ z. z ∷ map only (children W seats (suc i) xs)) (same x refl)
  changed seats f (suc j) i (x ∷ xs) same = ap (λ z. only (becomes W (seats i) x) ∷ z) (changed seats f j (suc i) xs same)

  other-at : (f : Node → Node) (xs : List Node) → slice_get (changed_at 2 f xs) 1 ≡ slice_get xs 1
  other-at f [] = refl
  other-at f (a ∷ []) = refl
  other-at f (a ∷ b ∷ []) = refl
  other-at f (a ∷ b ∷ c ∷ xs) = refl

  module _ (s : S) (cs : List Node) (outer : raw s ≡ false) where
    abbrev xs : List Node
    xs = map stripped cs

    abbrev ChildrenSame : Kind → Type 0
    ChildrenSame k = map only (children W (r.seat s k cs) 0 (plain_children k xs)) ≡ plain_children k (map only (children W (r.seat s k cs) 0 xs))

    at-list : (k : Kind) (j : ℕ) (σ : Sort) (shapes : List Shape) → slice_get shapes j ≡ Some (many σ) → HaveShapes shapes cs
        → map only (children W (r.seat s k cs) 0 (changed_at j without_empty xs)) ≡ changed_at j without_empty (map only (children W (r.seat s k cs) 0 xs))
    at-list k j σ shapes at have =
        changed (r.seat s k cs) without_empty j 0 xs (child-at j (many σ) shapes cs (SameAt without_empty (r.seat s k cs (up 0 j))) at have (λ n h. without-empty n σ h (r.seat s k cs (up 0 j))))

    at-body : (k : Kind) (j : ℕ) (shapes : List Shape) → slice_get shapes j ≡ Some (one sort.Stmt) → HaveShapes shapes cs → is_body_at k (up 0 j) ≡ true
        → map only (children W (r.seat s k cs) 0 (changed_at j body_of xs)) ≡ changed_at j body_of (map only (children W (r.seat s k cs) 0 xs))
    at-body k j shapes at have body =
        changed (r.seat s k cs) body_of j 0 xs (child-at j (one sort.Stmt) shapes cs (SameAt body_of (r.seat s k cs (up 0 j))) at have
        (λ n h. body-same s k cs (up 0 j) body outer n (or-stmt (out-Node n).kind (shape-out n (one sort.Stmt) h).0) (raw (r.seat s k cs (up 0 j))) refl))

    children-same : (k : Kind) (t : Shape) → HaveShapes (child_shapes k t (length cs)) cs → ChildrenSame k
    unfolding plain_children
    children-same (kind.Module b) t h = at-list (kind.Module b) 0 sort.ModuleItem (child_shapes (kind.Module b) t (length cs)) refl h
    children-same (kind.Script b) t h = at-list (kind.Script b) 0 sort.Stmt (child_shapes (kind.Script b) t (length cs)) refl h
    children-same kind.BlockStmt t h = at-list kind.BlockStmt 0 sort.Stmt (child_shapes kind.BlockStmt t (length cs)) refl h
    children-same kind.TsModuleBlock t h = at-list kind.TsModuleBlock 0 sort.ModuleItem (child_shapes kind.TsModuleBlock t (length cs)) refl h
    children-same kind.SwitchCase t h = at-list kind.SwitchCase 1 sort.Stmt (child_shapes kind.SwitchCase t (length cs)) refl h
    children-same kind.LabeledStmt t h = at-body kind.LabeledStmt 1 (child_shapes kind.LabeledStmt t (length cs)) refl h refl
    children-same kind.WhileStmt t h = at-body kind.WhileStmt 1 (child_shapes kind.WhileStmt t (length cs)) refl h refl
    children-same kind.DoWhileStmt t h = at-body kind.DoWhileStmt 1 (child_shapes kind.DoWhileStmt t (length cs)) refl h refl
    children-same kind.ForStmt t h = at-body kind.ForStmt 3 (child_shapes kind.ForStmt t (length cs)) refl h refl
    children-same kind.ForInStmt t h = at-body kind.ForInStmt 2 (child_shapes kind.ForInStmt t (length cs)) refl h refl
    children-same (kind.ForOfStmt w) t h = at-body (kind.ForOfStmt w) 2 (child_shapes (kind.ForOfStmt w) t (length cs)) refl h refl
    children-same kind.IfStmt t h =
        let shapes = child_shapes kind.IfStmt t (length cs) in
        let seat = r.seat s kind.IfStmt cs in
        changed seat body_of 1 0 (changed_at 2 body_of xs) (λ x at. child-at 1 (one sort.Stmt) shapes cs (SameAt body_of (seat 1)) refl h
        (λ n g. body-same s kind.IfStmt cs 1 refl outer n (or-stmt (out-Node n).kind (shape-out n (one sort.Stmt) g).0) (raw (seat 1)) refl) x (sym (other-at body_of xs) ∙ at))
        ∙ ap (changed_at 1 body_of) (changed seat body_of 2 0 xs (child-at 2 (maybe sort.Stmt) shapes cs (SameAt body_of (seat 2)) refl h
        (λ n g. body-same s kind.IfStmt cs 2 refl outer n (shape-out n (maybe sort.Stmt) g).0 (raw (seat 2)) refl)))
    children-same kind.SetterProp t h = changed (r.seat s kind.SetterProp cs) without_this 1 0 xs (λ x at. raw-same without_this (r.seat s kind.SetterProp cs 1) x (p.receiver s cs outer))
    children-same _ t h = refl

  -- ---- a node over children that commute

  unwrapped : (span : Span) (k : Kind) (rest : List Node) (t : Shape) → is_type_wrapper k ≡ true → (es : List Node) → map stripped (map (λ e. node_of span k (e ∷ rest)) es) ≡ map stripped es
  unwrapped span k rest t w [] = refl
  unwrapped span k rest t w (e ∷ es) = ap₂ (λ a b. a ∷ b) (stripped-wrapper span k e rest t w) (unwrapped span k rest t w es)

  module _ (span : Span) (k : Kind) (cs : List Node) (each : (i : ℕ) (c : Node) → slice_get cs i ≡ Some c → Commutes r c) (t : Shape) (has : HasShape t (node_of span k cs)) (s : S) where
    abbrev lists : List (List Node)
    lists = children T (r.seat s k cs) 0 cs

    abbrev ys : List Node
    ys = plain_children k (map stripped cs)

    abbrev plains : List (List Node)
    plains = children W (r.seat s k cs) 0 ys

    abbrev Same : Kind → List Node → Type 0
    Same l ds = becomes W s (stripped (node_of span l ds)) ≡ map stripped (becomes T s (node_of span l ds))

    have : HaveShapes (child_shapes k t (length cs)) cs
    have = ((node_has_shape span k cs t).0 has).1

    commuted : children W (r.seat s k cs) 0 (map stripped cs) ≡ map (map stripped) lists
    commuted = children-commute (child_shapes k t (length cs)) cs have each (r.seat s k cs) 0

    as-list : is_list k ≡ true → HasShape t (node_of span k cs) → Same k cs
    as-list l h =
        subst (λ z. HasShape t (node_of span z cs) → Same z cs) (sym (list-kind k l))
        (λ g. ap (becomes W s) (stripped-list span cs) ∙ becomes-list s span (map stripped (filter stays cs))
        ∙ ap (λ z. node_of span kind.List z ∷ []) (items-commute (item_shape t) cs ((node_has_shape span kind.List cs t).0 g).1 each s)
        ∙ sym (ap (map stripped) (nodes_become S T s span kind.List cs) ∙ ap (λ z. z ∷ []) (stripped-list span (items T s cs)))) h

    as-type : raw s ≡ false → is_type k ≡ true → Same k cs
    as-type w y =
        let parts = type-plain span k cs y in
        ap (becomes W s) (stripped-type span k cs y) ∙ becomes-absent s
        ∙ ap (λ z. z ∷ []) (sym (stripped-type span k (map only lists) y))
        ∙ ap (map stripped) (sym (quiet-over stays s span k cs w parts.3 parts.1 parts.2))

    as-wrapper : raw s ≡ false → is_type_wrapper k ≡ true → Same k cs
    as-wrapper w y =
        let front = wrapped-first span k cs t y have in
        let e = front.0 in
        let es = front.1 in
        let l = becomes T (r.seat s k (e ∷ es) 0) e in
        let rest = children T (r.seat s k (e ∷ es)) 1 es in
        let here : becomes T s (node_of span k (e ∷ es)) ≡ map (λ x. node_of span k (x ∷ map only rest)) l =
        becomes-other stays s span k (e ∷ es) (wrapper-plain span k e es t 0 y).1 ∙ p.does.wrapped s span k (e ∷ es) l rest w y in
        subst (Same k) (sym front.2)
        (ap (becomes W s) (stripped-wrapper span k e es t y)
        ∙ each 0 e (ap (λ (z : List Node). slice_get z 0) front.2) (one sort.Expr) front.3 s
        ∙ ap (λ z. map stripped (becomes T z e)) (sym (p.under s k (e ∷ es) w y))
        ∙ sym (unwrapped span k (map only rest) t y l)
        ∙ ap (map stripped) (sym here))

    seats-same : raw s ≡ false → is_list k ≡ false → r.seat s (plain_kind k) ys ≡ r.seat s k cs
    seats-same w l = λ j i. p.seats s t span k cs i w l has j

    ones-same : raw s ≡ false → map only plains ≡ plain_children k (map stripped (map only lists))
    ones-same w = children-same s cs w k t have ∙ ap (λ z. plain_children k (map only z)) commuted ∙ ap (plain_children k) (all-only lists)

    -- a node that is left, and one over ones
    either-same : (b : Bool) → raw s ≡ false → is_list k ≡ false → is_type k ≡ false → is_type_wrapper k ≡ false
        → cond b (node_of span (plain_kind k) ys ∷ []) (node_of span (plain_kind k) (map only plains) ∷ []) ≡ map stripped (cond b (node_of span k cs ∷ []) (over_ones span k lists))
    either-same true w l y x = ap (λ z. z ∷ []) (sym (stripped-other span k cs l ∙ usual-plain span k (map stripped cs) y x))
    either-same false w l y x =
        ap (λ z. node_of span (plain_kind k) z ∷ []) (ones-same w)
        ∙ ap (λ z. z ∷ []) (sym (stripped-other span k (map only lists) l ∙ usual-plain span k (map stripped (map only lists)) y x))

    usual-here : (b : Bool) → acts k ≡ b → raw s ≡ false → is_list k ≡ false → is_type k ≡ false → is_type_wrapper k ≡ false → r.here s span (plain_kind k) ys plains ≡ map stripped (r.here s span k cs lists)
    usual-here true a w l y x = p.acting s t span k cs plains w a l x has each (λ c. ap (children W (r.seat s k cs) 0) (children-unchanged k (map stripped cs) c) ∙ commuted) (ones-same w)
    usual-here false a w l y x =
        let l' = (plain-same k).0 ∙ l in
        p.does.quiet s span (plain_kind k) ys plains w (p.same k ∙ a) l' ((plain-same k).1 ∙ x)
        ∙ ap (λ b. cond b (node_of span (plain_kind k) ys ∷ []) (node_of span (plain_kind k) (map only plains) ∷ [])) (p.left_same s k)
        ∙ either-same (leaves s k) w l y x
        ∙ ap (map stripped) (sym (p.does.quiet s span k cs lists w a l x))

    as-usual : raw s ≡ false → is_list k ≡ false → is_type k ≡ false → is_type_wrapper k ≡ false → Same k cs
    as-usual w l y x =
        usual-becomes s span k cs l y x
        ∙ ap (λ z. r.here s span (plain_kind k) ys (children W z 0 ys)) (seats-same w l)
        ∙ usual-here (acts k) refl w l y x
        ∙ ap (map stripped) (sym (becomes-other stays s span k cs l))

    by-class : raw s ≡ false → Class k → Same k cs
    by-class w (inl l) = as-list l has
    by-class w (inr (inl y)) = as-type w y
    by-class w (inr (inr (inl x))) = as-wrapper w x
    by-class w (inr (inr (inr (l, y, x)))) = as-usual w l y x

    by-seat : (b : Bool) → raw s ≡ b → Same k cs
    by-seat true w = raw-stays (λ n. true) (stripped (node_of span k cs)) s w ∙ ap (map stripped) (sym (raw-stays stays (node_of span k cs) s w))
    by-seat false w = by-class w (class k)

  node-commutes : (span : Span) (k : Kind) (cs : List Node) → ((i : ℕ) (c : Node) → slice_get cs i ≡ Some c → Commutes r c) → Commutes r (node_of span k cs)
  node-commutes span k cs each t has s = by-seat span k cs each t has s (raw s) refl

  pub commutes : (n : Node) → Commutes r n
  commutes = by-parts (Commutes r) node-commutes

pub commutes_with_stripping : (S : Type 0) → CommutesWithStripping S
commutes_with_stripping S r raw leaves acts p n = commutes r raw leaves acts p n
