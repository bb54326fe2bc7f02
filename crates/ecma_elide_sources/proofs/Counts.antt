-- What goes of imports and exports takes no context, and contexts do not matter to how many a tree takes.
use Rattle.std.proofs.Common.{◌≡◌, ◌∙◌, ◌+◌, ℕ, zero, suc, Bool, true, false, ◌&&◌, not, cond, List, [], ◌∷◌, map, filter, length, Some, refl, sym, ap, ap₂, slice_get, arith}
use Rattle.ecma_kind.specs.declared.kind.Kind.{Kind}
use Rattle.ecma_kind.specs.declared.kind.Kind.TheVariants as kind
use Rattle.ecma_kind.specs.declared.shapes.Shape.{Shape}
use Rattle.ecma_kind.specs.declared.shapes.Sort.TheVariants as sort
use Rattle.ecma_tree.specs.Sorted.{HasShape, child_shapes, is_absent, is_list, one}
use Rattle.ecma_tree.specs.declared.node.Node.{Node}
use Rattle.ecma_rules.specs.Children.{kind_of}
use Rattle.ecma_fits.specs.declared.unfit.Where.{Where}
use Rattle.ecma_fits.specs.Counts.{is_short}
use Rattle.ecma_fits.specs.Fitting.{at_top, where_in}
use Rattle.ecma_elide.specs.declared.seat.Seat.{Seat}
use Rattle.ecma_elide.specs.declared.seat.Seat.TheVariants as seat
use Rattle.ecma_elide.specs.Rules.{Known, goes}
use Rattle.ecma_scope.specs.declared.role.Role.{Role}
use Rattle.ecma_scope.specs.declared.role.Role.TheVariants as role
use Rattle.ecma_scope.specs.Resolved.{context_count, contexts, counted, resolved}
use Rattle.ecma_scope.specs.Scopes.{is_root, is_there, opens_by, role_by, role_in}
use Rattle.ecma_scope.proofs.Opening.{context_count-out}
use Rattle.ecma_scope.proofs.Unchanged.{changes-contexts}
use Rattle.ecma_scope_fits.proofs.Contexts.{resolved_fit_alike}
use Rattle.ecma_scope_fits.proofs.Moved.{children_moved, kind_moved}
use Rattle.ecma_elide_fits.specs.Dropping.{Dropping}
use Rattle.ecma_elide_fits.proofs.Dropped.{Whole, below, below_to, each, induct, kind_to, loses_at, seats_at, to, whole_to}
use Rattle.ecma_elide_fits.proofs.Elided.{dropping, of_elided}
use Rattle.ecma_elide_fits.proofs.Walks.{have_at, shape_parts}
use Rattle.ecma_elide_sources.specs.Laws.{ElidedSourcesTakeAsManyContexts}
use Rattle.ecma_elide_sources.proofs.Flat.{Flat, gone_flat}
use Rattle.ecma_elide_sources.proofs.Thin.{bare, clear, empty}
use Rattle.ecma_elide_sources.proofs.Walking.{Passes, passes_below, passes_here}

-- what a node takes is told by its kind, and by which of its first children are there
count_parts : (m n : Node) (r : Role) → opens_by r (kind_of m) (is_there (below m) 0) ≡ opens_by r (kind_of n) (is_there (below n) 0)
    → counted (role_in r m) 0 (map context_count (below m)) ≡ counted (role_in r n) 0 (map context_count (below n)) → context_count m r ≡ context_count n r
count_parts m n r here children =
    context_count-out m r ∙ ap₂ (λ b rest. cond (b && not (is_root r)) 1 0 + rest) here children ∙ sym (context_count-out n r)

-- ---- contexts

opens_bare : (r : Role) (k : Kind) (named : Bool) → opens_by r (bare k) named ≡ opens_by r k named
unfolding opens_by
opens_bare r (kind.Ident text ctxt optional) named = refl
opens_bare r _ named = refl

role_bare : (r : Role) (k : Kind) (sourced : Bool) (i : ℕ) → role_by r (bare k) sourced i ≡ role_by r k sourced i
unfolding role_by
role_bare r (kind.Ident text ctxt optional) sourced i = refl
role_bare r _ sourced i = refl

absent_bare : (k : Kind) → is_absent (bare k) ≡ is_absent k
absent_bare (kind.Ident text ctxt optional) = refl
absent_bare _ = refl

there_clear : (ns : List Node) (i : ℕ) → is_there (map clear ns) i ≡ is_there ns i
there_clear [] i = refl
there_clear (n ∷ ns) zero = ap (λ k. not (is_absent k)) (kind_moved empty n) ∙ ap not (absent_bare (kind_of n))
there_clear (n ∷ ns) (suc i) = there_clear ns i

there_cleared : (n : Node) (i : ℕ) → is_there (below (clear n)) i ≡ is_there (below n) i
there_cleared n i = ap (λ z. is_there z i) (children_moved empty n) ∙ there_clear (below n) i

opens_cleared : (r : Role) (n : Node) → opens_by r (kind_of (clear n)) (is_there (below (clear n)) 0) ≡ opens_by r (kind_of n) (is_there (below n) 0)
opens_cleared r n = ap₂ (opens_by r) (kind_moved empty n) (there_cleared n 0) ∙ opens_bare r (kind_of n) (is_there (below n) 0)

role_cleared : (r : Role) (n : Node) (i : ℕ) → role_in r (clear n) i ≡ role_in r n i
role_cleared r n i = ap₂ (λ k b. role_by r k b i) (kind_moved empty n) (there_cleared n 1) ∙ role_bare r (kind_of n) (is_there (below n) 1) i

abbrev Cleared : Node → Type 0
Cleared n = (r : Role) → context_count (clear n) r ≡ context_count n r

each_cleared : (ns : List Node) → ((i : ℕ) (c : Node) → slice_get ns i ≡ Some c → Cleared c) → (f g : ℕ → Role) → ((i : ℕ) → f i ≡ g i) → (i : ℕ)
    → counted f i (map context_count (map clear ns)) ≡ counted g i (map context_count ns)
each_cleared [] clears f g same i = refl
each_cleared (n ∷ ns) clears f g same i =
    ap₂ (λ a rest. a + rest) (clears 0 n refl (f i) ∙ ap (context_count n) (same i)) (each_cleared ns (λ j. clears (suc j)) f g same (suc i))

count_cleared : (n : Node) → Cleared n
count_cleared = induct Cleared (λ n clears r.
    count_parts (clear n) n r (opens_cleared r n)
    (ap (λ z. counted (role_in r (clear n)) 0 (map context_count z)) (children_moved empty n) ∙ each_cleared (below n) clears (role_in r (clear n)) (role_in r n) (role_cleared r n) 0))

-- as many with bindings as without
count_bound : (unresolved top left : ℕ) (source : Node) → contexts (resolved unresolved top left source) ≡ contexts source
count_bound unresolved top left source =
    sym (count_cleared (resolved unresolved top left source) role.Root) ∙ ap contexts (changes-contexts unresolved top left source) ∙ count_cleared source role.Root

-- ---- what is dropped

-- a list opens no scope, and its items are the same to it at any index
list_opens : (r : Role) (k : Kind) (b c : Bool) → is_list k ≡ true → opens_by r k b ≡ opens_by r k c
unfolding opens_by
list_opens r kind.List b c l = refl
list_opens r _ b c l = cc

list_role : (r : Role) (k : Kind) (b c : Bool) (i j : ℕ) → is_list k ≡ true → role_by r k b i ≡ role_by r k c j
unfolding role_by
list_role r kind.List b c i j l = refl
list_role r _ b c i j l = cc

zero_more : (n : ℕ) → n ≡ 0 + n
zero_more n = omega arith

second : (a b : Bool) → (a && b) ≡ true → b ≡ true
second true b h = h
second false b h = cc

module _ (known : Known) where
  abbrev d : Dropping Seat
  d = dropping known

  there_each : (f : ℕ → Bool) (g : ℕ → Seat) (ns : List Node) (i : ℕ) → is_there (each d f g ns) i ≡ is_there ns i
  there_each f g [] i = refl
  there_each f g (n ∷ ns) zero = ap (λ k. not (is_absent k)) (kind_to d (f 0) (g 0) n)
  there_each f g (n ∷ ns) (suc i) = there_each (λ j. f (suc j)) (λ j. g (suc j)) ns i

  there_to : (loses : Bool) (s : Seat) (n : Node) (i : ℕ) → Whole d loses n → is_there (below (to d loses s n)) i ≡ is_there (below n) i
  there_to loses s n i w = ap (λ z. is_there z i) (whole_to d loses s n w) ∙ there_each (loses_at d loses n) (seats_at d s n) (below n) i

  abbrev Counted : Node → Type 0
  Counted n = (t : Shape) → HasShape t n → (w : Where) → Passes is_short n w → (loses : Bool) (s : Seat) (r : Role) → context_count (to d loses s n) r ≡ context_count n r

  abbrev Same : Node → Type 0
  Same n = (loses : Bool) (s : Seat) (r : Role) → context_count (to d loses s n) r ≡ context_count n r

  all_counted : (ns : List Node) → ((i : ℕ) (c : Node) → slice_get ns i ≡ Some c → Same c) → (o : ℕ → Bool) (p : ℕ → Seat) (f g : ℕ → Role) → ((i : ℕ) → f i ≡ g i) → (i : ℕ)
      → counted f i (map context_count (each d o p ns)) ≡ counted g i (map context_count ns)
  all_counted [] same o p f g alike i = refl
  all_counted (n ∷ ns) same o p f g alike i =
      ap₂ (λ a rest. a + rest) (same 0 n refl (o 0) (p 0) (f i) ∙ ap (context_count n) (alike i)) (all_counted ns (λ j. same (suc j)) (λ j. o (suc j)) (λ j. p (suc j)) f g alike (suc i))

  -- where those that go take none
  abbrev GoFlat : Seat → Node → Type 0
  GoFlat s n = goes known s (kind_of n) (below n) ≡ true → Flat n

  some_counted : (s : Seat) (ns : List Node) → ((i : ℕ) (c : Node) → slice_get ns i ≡ Some c → Same c) → ((i : ℕ) (c : Node) → slice_get ns i ≡ Some c → GoFlat s c)
      → (o : ℕ → Bool) (p : ℕ → Seat) (f g : ℕ → Role) → ((i j : ℕ) → f i ≡ g j) → (i j : ℕ)
      → counted f i (map context_count (each d o p (filter (λ c. not (d.drops s c)) ns))) ≡ counted g j (map context_count ns)
  some_counted s [] same flat o p f g alike i j = refl
  some_counted s (n ∷ ns) same flat o p f g alike i j =
      by (d.drops s n) refl (λ o' p' k. some_counted s ns (λ l. same (suc l)) (λ l. flat (suc l)) o' p' f g alike k (suc j))
    where
      by : (b : Bool) → d.drops s n ≡ b
          → ((o' : ℕ → Bool) (p' : ℕ → Seat) (k : ℕ) → counted f k (map context_count (each d o' p' (filter (λ c. not (d.drops s c)) ns))) ≡ counted g (suc j) (map context_count ns))
          → counted f i (map context_count (each d o p (cond (not b) (n ∷ filter (λ c. not (d.drops s c)) ns) (filter (λ c. not (d.drops s c)) ns)))) ≡ context_count n (g j) + counted g (suc j) (map context_count ns)
      by true e rest = rest o p i ∙ zero_more (counted g (suc j) (map context_count ns)) ∙ ap (λ z. z + counted g (suc j) (map context_count ns)) (sym (flat 0 n refl e (g j)))
      by false e rest = ap₂ (λ a others. a + others) (same 0 n refl (o 0) (p 0) (f i) ∙ ap (context_count n) (alike i j)) (rest (λ l. o (suc l)) (λ l. p (suc l)) (suc i))

  node_counted : (n : Node) → ((i : ℕ) (c : Node) → slice_get (below n) i ≡ Some c → Counted c) → Counted n
  node_counted n counts t has w none loses s r = by (loses && is_list (kind_of n)) refl
    where
      m : Node
      m = to d loses s n

      ts : List Shape
      ts = child_shapes (kind_of n) t (length (below n))

      below_counted : (i : ℕ) (c : Node) → slice_get (below n) i ≡ Some c → Same c
      below_counted i c at =
          let u = have_at ts (below n) (shape_parts n t has).1 i c at in
          counts i c at u.0 u.2 (where_in w n i) (passes_below is_short n w none i c at)

      below_flat : (i : ℕ) (c : Node) → slice_get (below n) i ≡ Some c → GoFlat s c
      below_flat i c at =
          let u = have_at ts (below n) (shape_parts n t has).1 i c at in
          gone_flat known s c u.0 u.2 (passes_here is_short c (where_in w n i) (passes_below is_short n w none i c at))

      role_of : (i : ℕ) → role_in r m i ≡ role_by r (kind_of n) (is_there (below m) 1) i
      role_of i = ap (λ k. role_by r k (is_there (below m) 1) i) (kind_to d loses s n)

      by : (b : Bool) → (loses && is_list (kind_of n)) ≡ b → context_count m r ≡ context_count n r
      by true e =
          let l = second loses (is_list (kind_of n)) e in
          count_parts m n r
          (ap (λ k. opens_by r k (is_there (below m) 0)) (kind_to d loses s n) ∙ list_opens r (kind_of n) (is_there (below m) 0) (is_there (below n) 0) l)
          (ap (λ z. counted (role_in r m) 0 (map context_count z))
          (below_to d loses s n ∙ ap (λ b. each d (loses_at d loses n) (seats_at d s n) (cond b (filter (λ c. not (d.drops s c)) (below n)) (below n))) e)
          ∙ some_counted s (below n) below_counted below_flat (loses_at d loses n) (seats_at d s n) (role_in r m) (role_in r n)
          (λ i j. role_of i ∙ list_role r (kind_of n) (is_there (below m) 1) (is_there (below n) 1) i j l) 0 0)
      by false e =
          count_parts m n r
          (ap₂ (opens_by r) (kind_to d loses s n) (there_to loses s n 0 e))
          (ap (λ z. counted (role_in r m) 0 (map context_count z)) (whole_to d loses s n e)
          ∙ all_counted (below n) below_counted (loses_at d loses n) (seats_at d s n) (role_in r m) (role_in r n)
          (λ i. role_of i ∙ ap (λ b. role_by r (kind_of n) b i) (there_to loses s n 1 e)) 0)

  count_left : (n : Node) → Counted n
  count_left = induct Counted node_counted

pub sources_take_as_many : ElidedSourcesTakeAsManyContexts
sources_take_as_many config unresolved top left source f =
    let bound = resolved unresolved top left source in
    let g = (resolved_fit_alike unresolved top left source).1 f in
    of_elided (λ n. contexts (clear n) ≡ contexts source) config bound g.sorted (count_cleared bound role.Root ∙ count_bound unresolved top left source)
    (λ known. count_cleared (to (dropping known) false seat.Elsewhere bound) role.Root
    ∙ count_left known bound (one sort.Module) g.sorted at_top g.counts false seat.Elsewhere role.Root ∙ count_bound unresolved top left source)
