-- A tree of which items are dropped, and whose contexts are others: what its nodes are.
use Rattle.std.proofs.Common.{◌≡◌, ◌∙◌, ℕ, zero, suc, Bool, true, false, ◌&&◌, not, cond, List, [], ◌∷◌, map, filter, Option, Some, None, refl, sym, ap, ap₂, subst, slice_get}
use Rattle.ecma_kind.specs.declared.kind.Kind.{Kind}
use Rattle.ecma_tree.specs.Nodes.{node_of}
use Rattle.ecma_tree.specs.Sorted.{is_list}
use Rattle.ecma_tree.specs.declared.node.Node.{Node, Node-F, out-Node}
use Rattle.ecma_tree.specs.declared.node.Node.TheViews.{out-roll-Node, roll-out-Node}
use Rattle.ecma_rules.specs.Children.{child_is, has_child, holds_of, is_present, kind_of, of_kind}
use Rattle.ecma_scope_fits.proofs.Moved.{Blind, blind, children_moved, kind_moved, kind_same, moved, span_moved, to as cleared}
use Rattle.ecma_elide_fits.specs.Dropping.{Dropping}
use Rattle.ecma_elide_fits.proofs.Dropped.{and_false, below, below_to, each, induct, kind_to, loses_at, seats_at, some_same, stay, stay_whole, to, to_is}

abbrev pub empty : List ℕ → ℕ → ℕ
empty text ctxt = 0

abbrev pub bare : Kind → Kind
bare = moved empty

abbrev pub clear : Node → Node
clear = cleared empty

pub list_blind : Blind Bool is_list
list_blind text a b optional = refl

pub cons_head : {X : Type 0} (x y : X) (xs ys : List X) → (x ∷ xs) ≡ (y ∷ ys) → x ≡ y
cons_head x y xs ys e = cc

pub cons_tail : {X : Type 0} (x y : X) (xs ys : List X) → (x ∷ xs) ≡ (y ∷ ys) → xs ≡ ys
cons_tail x y xs ys e = cc

module _ {S : Type 0} (d : Dropping S) where
  -- what is left of a node that is the same but for contexts, without contexts
  pub record Thin (a b : Node) : Type 0 where
    pub loses : Bool
    pub seat : S
    pub before : Node
    pub is : a ≡ clear (to d loses seat before)
    pub same : clear before ≡ clear b

  pub thin_before : (a b : Node) (t : Thin a b) → bare (kind_of t.before) ≡ bare (kind_of b)
  thin_before a b t = sym (kind_moved empty t.before) ∙ ap kind_of t.same ∙ kind_moved empty b

  pub thin_kind : (a b : Node) → Thin a b → kind_of a ≡ bare (kind_of b)
  thin_kind a b t =
      ap kind_of t.is ∙ kind_moved empty (to d t.loses t.seat t.before) ∙ ap bare (kind_to d t.loses t.seat t.before) ∙ thin_before a b t

  -- what is said of kinds without looking at contexts
  pub thin_same : {A : Type 0} (f : Kind → A) → Blind A f → (a b : Node) → Thin a b → f (kind_of a) ≡ f (kind_of b)
  thin_same {A} f blinded a b t = ap f (thin_kind a b t) ∙ blind empty A f blinded (kind_of b)

  span_to : (loses : Bool) (s : S) (n : Node) → (out-Node (to d loses s n)).span ≡ (out-Node n).span
  span_to loses s n =
      let ns = each d (loses_at d loses n) (seats_at d s n) (stay d loses s n) in
      ap (λ z. (out-Node z).span) (to_is d loses s n) ∙ ap (λ (z : Node-F Node). z.span) (out-roll-Node (record { span = (out-Node n).span; kind = kind_of n; children = ns }))

  pub thin_span : (a b : Node) → Thin a b → (out-Node a).span ≡ (out-Node b).span
  thin_span a b t =
      ap (λ z. (out-Node z).span) t.is ∙ span_moved empty (to d t.loses t.seat t.before) ∙ span_to t.loses t.seat t.before
      ∙ sym (span_moved empty t.before) ∙ ap (λ z. (out-Node z).span) t.same ∙ span_moved empty b

  list_before : (a b : Node) (t : Thin a b) → is_list (kind_of t.before) ≡ is_list (kind_of b)
  list_before a b t = sym (kind_same empty Bool is_list list_blind t.before) ∙ ap (λ z. is_list (kind_of z)) t.same ∙ kind_same empty Bool is_list list_blind b

  -- ---- children

  thin_below : (a b : Node) (t : Thin a b) → below a ≡ map clear (each d (loses_at d t.loses t.before) (seats_at d t.seat t.before) (stay d t.loses t.seat t.before))
  thin_below a b t = ap below t.is ∙ children_moved empty (to d t.loses t.seat t.before) ∙ ap (map clear) (below_to d t.loses t.seat t.before)

  below_same : (a b : Node) (t : Thin a b) → map clear (below t.before) ≡ map clear (below b)
  below_same a b t = sym (children_moved empty t.before) ∙ ap below t.same ∙ children_moved empty b

  -- a child that loses items or not, and what it was
  pub record ThinIn (loses : Bool) (a b : Node) : Type 0 where
    pub thin : Thin a b
    pub so : thin.loses ≡ loses

  abbrev pub Both : Bool → Option Node → Option Node → Type 0
  Both loses None None = Unit {0}
  Both loses (Some a) (Some b) = ThinIn loses a b
  Both loses _ _ = ⊥

  both_of : (f : ℕ → Bool) (g : ℕ → S) (xs bs : List Node) → map clear xs ≡ map clear bs → (i : ℕ) → Both (f i) (slice_get (map clear (each d f g xs)) i) (slice_get bs i)
  both_of f g [] [] h i = tt
  both_of f g [] (b ∷ bs) h i = cc
  both_of f g (x ∷ xs) [] h i = cc
  both_of f g (x ∷ xs) (b ∷ bs) h zero =
      record { thin = record { loses = f 0; seat = g 0; before = x; is = refl; same = cons_head (clear x) (clear b) (map clear xs) (map clear bs) h }; so = refl }
  both_of f g (x ∷ xs) (b ∷ bs) h (suc i) = both_of (λ j. f (suc j)) (λ j. g (suc j)) xs bs (cons_tail (clear x) (clear b) (map clear xs) (map clear bs) h) i

  -- a node that loses no item
  abbrev pub Closed : (a b : Node) → Thin a b → Type 0
  Closed a b t = (t.loses && is_list (kind_of t.before)) ≡ false

  pub closed_other : (a b : Node) (t : Thin a b) → is_list (kind_of b) ≡ false → Closed a b t
  closed_other a b t l = and_false t.loses (is_list (kind_of t.before)) (list_before a b t ∙ l)

  pub closed_kept : (a b : Node) (t : Thin a b) → t.loses ≡ false → Closed a b t
  closed_kept a b t e = ap (λ o. o && is_list (kind_of t.before)) e

  pub both_at : (a b : Node) (t : Thin a b) → Closed a b t → (i : ℕ) → Both (loses_at d t.loses t.before i) (slice_get (below a) i) (slice_get (below b) i)
  both_at a b t closed i =
      let f = loses_at d t.loses t.before in
      let g = seats_at d t.seat t.before in
      subst (λ (z : List Node). Both (f i) (slice_get z i) (slice_get (below b) i))
      (sym (thin_below a b t ∙ ap (λ z. map clear (each d f g z)) (stay_whole d t.loses t.seat t.before closed)))
      (both_of f g (below t.before) (below b) (below_same a b t) i)

  -- ---- items

  abbrev pub Among : Node → List Node → Type 0
  Among a bs = (i : ℕ) × (b : Node) × (slice_get bs i ≡ Some b) × Thin a b

  later : (a b : Node) (bs : List Node) → Among a bs → Among a (b ∷ bs)
  later a b bs m = (suc m.0, m.1, m.2, m.3)

  among_all : (f : ℕ → Bool) (g : ℕ → S) (xs bs : List Node) → map clear xs ≡ map clear bs → (j : ℕ) (a : Node) → slice_get (map clear (each d f g xs)) j ≡ Some a → Among a bs
  among_all f g [] bs h j a at = cc
  among_all f g (x ∷ xs) [] h j a at = cc
  among_all f g (x ∷ xs) (b ∷ bs) h zero a at =
      (0, b, refl, record { loses = f 0; seat = g 0; before = x; is = sym (some_same (clear (to d (f 0) (g 0) x)) a at); same = cons_head (clear x) (clear b) (map clear xs) (map clear bs) h })
  among_all f g (x ∷ xs) (b ∷ bs) h (suc j) a at =
      later a b bs (among_all (λ i. f (suc i)) (λ i. g (suc i)) xs bs (cons_tail (clear x) (clear b) (map clear xs) (map clear bs) h) j a at)

  among_some : (p : Node → Bool) (f : ℕ → Bool) (g : ℕ → S) (xs bs : List Node) → map clear xs ≡ map clear bs → (j : ℕ) (a : Node) → slice_get (map clear (each d f g (filter p xs))) j ≡ Some a
      → Among a bs
  among_some p f g [] bs h j a at = cc
  among_some p f g (x ∷ xs) [] h j a at = cc
  among_some p f g (x ∷ xs) (b ∷ bs) h j a at =
      by (p x) j (λ f' g' k at'. among_some p f' g' xs bs (cons_tail (clear x) (clear b) (map clear xs) (map clear bs) h) k a at') at
    where
      by : (q : Bool) (k : ℕ) → ((f' : ℕ → Bool) (g' : ℕ → S) (l : ℕ) → slice_get (map clear (each d f' g' (filter p xs))) l ≡ Some a → Among a bs)
          → slice_get (map clear (each d f g (cond q (x ∷ filter p xs) (filter p xs)))) k ≡ Some a → Among a (b ∷ bs)
      by true zero rest at =
          (0, b, refl, record { loses = f 0; seat = g 0; before = x; is = sym (some_same (clear (to d (f 0) (g 0) x)) a at); same = cons_head (clear x) (clear b) (map clear xs) (map clear bs) h })
      by true (suc k) rest at = later a b bs (rest (λ i. f (suc i)) (λ i. g (suc i)) k at)
      by false k rest at = later a b bs (rest f g k at)

  -- each child is one of those before
  pub child_before : (a b : Node) → Thin a b → (j : ℕ) (c : Node) → slice_get (below a) j ≡ Some c → Among c (below b)
  child_before a b t j c at =
      by (t.loses && is_list (kind_of t.before)) (ap (λ (z : List Node). slice_get z j) (sym (thin_below a b t)) ∙ at)
    where
      by : (q : Bool) → slice_get (map clear (each d (loses_at d t.loses t.before) (seats_at d t.seat t.before) (cond q (filter (λ n. not (d.drops t.seat n)) (below t.before)) (below t.before)))) j ≡ Some c
          → Among c (below b)
      by true at' = among_some (λ n. not (d.drops t.seat n)) (loses_at d t.loses t.before) (seats_at d t.seat t.before) (below t.before) (below b) (below_same a b t) j c at'
      by false at' = among_all (loses_at d t.loses t.before) (seats_at d t.seat t.before) (below t.before) (below b) (below_same a b t) j c at'

  -- ---- tests of children

  both_kind : (is : Kind → Bool) → Blind Bool is → (o : Bool) (p q : Option Node) → Both o p q → of_kind is p ≡ of_kind is q
  both_kind is blinded o None None u = refl
  both_kind is blinded o None (Some b) u = absurd u
  both_kind is blinded o (Some a) None u = absurd u
  both_kind is blinded o (Some a) (Some b) u = thin_same is blinded a b u.thin

  pub child_same : (is : Kind → Bool) → Blind Bool is → (a b : Node) (t : Thin a b) → Closed a b t → (i : ℕ) → child_is is a i ≡ child_is is b i
  child_same is blinded a b t closed i = both_kind is blinded (loses_at d t.loses t.before i) (slice_get (below a) i) (slice_get (below b) i) (both_at a b t closed i)

  pub has_same : (a b : Node) (t : Thin a b) → Closed a b t → (i : ℕ) → has_child a i ≡ has_child b i
  has_same = child_same is_present (λ text x y optional. refl)

  both_holds : (test : Node → Bool) (o : Bool) (p q : Option Node) → Both o p q → ((a b : Node) (t : Thin a b) → t.loses ≡ o → test a ≡ test b) → holds_of test p ≡ holds_of test q
  both_holds test o None None u same = refl
  both_holds test o None (Some b) u same = absurd u
  both_holds test o (Some a) None u same = absurd u
  both_holds test o (Some a) (Some b) u same = same a b u.thin u.so

  pub holds_same : (test : Node → Bool) (a b : Node) (t : Thin a b) → Closed a b t → (i : ℕ)
      → ((x y : Node) (u : Thin x y) → u.loses ≡ loses_at d t.loses t.before i → test x ≡ test y) → holds_of test (slice_get (below a) i) ≡ holds_of test (slice_get (below b) i)
  holds_same test a b t closed i same = both_holds test (loses_at d t.loses t.before i) (slice_get (below a) i) (slice_get (below b) i) (both_at a b t closed i) same

-- ---- where nothing is dropped

keep_all : (ns : List Node) → filter (λ n. not false) ns ≡ ns
keep_all [] = refl
keep_all (n ∷ ns) = ap (λ z. n ∷ z) (keep_all ns)

module _ (S : Type 0) where
  abbrev pub nothing : Dropping S
  nothing = record { seat = λ s k children i. s; drops = λ s c. false }

  abbrev Stays : Node → Type 0
  Stays n = (loses : Bool) (s : S) → to nothing loses s n ≡ n

  each_stays : (ns : List Node) → ((i : ℕ) (c : Node) → slice_get ns i ≡ Some c → Stays c) → (f : ℕ → Bool) (g : ℕ → S) → each nothing f g ns ≡ ns
  each_stays [] stays f g = refl
  each_stays (n ∷ ns) stays f g = ap₂ (λ a rest. a ∷ rest) (stays 0 n refl (f 0) (g 0)) (each_stays ns (λ i. stays (suc i)) (λ i. f (suc i)) (λ i. g (suc i)))

  stay_all : (loses : Bool) (s : S) (n : Node) → stay nothing loses s n ≡ below n
  stay_all loses s n = by (loses && is_list (kind_of n))
    where
      by : (b : Bool) → cond b (filter (λ c. not (nothing.drops s c)) (below n)) (below n) ≡ below n
      by true = keep_all (below n)
      by false = refl

  node_stays : (n : Node) → ((i : ℕ) (c : Node) → slice_get (below n) i ≡ Some c → Stays c) → Stays n
  node_stays n stays loses s =
      to_is nothing loses s n
      ∙ ap (node_of (out-Node n).span (kind_of n)) (ap (each nothing (loses_at nothing loses n) (seats_at nothing s n)) (stay_all loses s n) ∙ each_stays (below n) stays (loses_at nothing loses n) (seats_at nothing s n))
      ∙ roll-out-Node n

  pub nothing_dropped : (n : Node) → Stays n
  nothing_dropped = induct Stays node_stays
