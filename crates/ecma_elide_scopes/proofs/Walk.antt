-- What is left of a node with its contexts, and what is left of it without them, in a module that declares fewer names.
use Rattle.std.proofs.Common.{◌≡◌, ◌∙◌, ◌≢◌, ◌<◌, ◌-◌, ◌+◌, ℕ, zero, suc, Bool, true, false, ◌&&◌, not, cond, List, [], ◌∷◌, ◌++◌, map, filter, Some, refl, sym, ap, ap₂, subst, slice_get, arith}
use Rattle.ecma_kind.specs.declared.kind.Kind.{Kind}
use Rattle.ecma_kind.specs.declared.kind.Kind.TheVariants as kind
use Rattle.ecma_tree.specs.Changing.{changed_here}
use Rattle.ecma_tree.specs.Nodes.{node_of}
use Rattle.ecma_tree.specs.Sorted.{is_absent, is_list}
use Rattle.ecma_tree.specs.declared.node.Node.{Node, Node-F, fold-roll-Node, out-Node}
use Rattle.ecma_tree.specs.declared.node.Node.TheViews.{out-roll-Node}
use Rattle.ecma_tree.proofs.Changing.{changed-parts}
use Rattle.ecma_rules.specs.Children.{kind_of}
use Rattle.ecma_elide.specs.declared.seat.Seat.{Seat}
use Rattle.ecma_elide.specs.Rules.{Known}
use Rattle.ecma_elide_fits.specs.Dropping.{Dropping}
use Rattle.ecma_elide_fits.proofs.Dropped.{below, below_to, each, induct, kind_to, loses_at, seats_at, to as left_of, whole_to}
use Rattle.ecma_elide_fits.proofs.Elided.{dropping}
use Rattle.ecma_elide_sources.proofs.Flat.{gone_flat}
use Rattle.ecma_elide_sources.proofs.Thin.{clear, empty}
use Rattle.ecma_elide_sources.proofs.Walking.{passes_here}
use Rattle.ecma_fits.specs.Counts.{is_short}
use Rattle.ecma_scope.specs.declared.form.Declaration.{Declaration}
use Rattle.ecma_scope.specs.declared.role.Role.{Role}
use Rattle.ecma_scope.specs.Scopes.{covers, is_root, is_there, opens_by, passes_in_list, role_by, role_in}
use Rattle.ecma_scope.specs.Declarations.{keeps}
use Rattle.ecma_scope.specs.Resolved.{Place, context_count, counted, inside, kind_at, placed, scope_at, taken}
use Rattle.ecma_scope_fits.proofs.Moved.{Blind, children_moved, kind_moved, kind_same, moved, span_moved, to}
use Rattle.ecma_elide_scopes.proofs.Alike.{Bare, alike, at, below_bare, free, inside_is, less_below, place, resolved_out}
use Rattle.ecma_elide_scopes.proofs.Blind.{count_moved, count_out}
use Rattle.ecma_elide_scopes.proofs.Quiet.{Sound, is_spine, never, sound_below, still}
use Rattle.ecma_elide_scopes.proofs.Standing.{exports_fail, is_function_body, list_fails, never_root}

-- ---- without contexts

bare_at : (unresolved : ℕ) (p : Place) (k : Kind) → moved empty (kind_at unresolved p k) ≡ moved empty k
bare_at unresolved p (kind.Ident text ctxt optional) = refl
bare_at unresolved p _ = refl

module _ (unresolved top : ℕ) where
  abbrev Back : Node → Type 0
  Back n = (p : Place) (l : ℕ) → clear (at unresolved top n p l) ≡ clear n

  each_back : (cs : List Node) → ((i : ℕ) (c : Node) → slice_get cs i ≡ Some c → Back c) → (f : ℕ → Place) (i l : ℕ) → map clear (placed f i cs (map (at unresolved top) cs) l) ≡ map clear cs
  each_back [] back f i l = refl
  each_back (c ∷ cs) back f i l = ap₂ (λ a rest. a ∷ rest) (back 0 c refl (f i) l) (each_back cs (λ j. back (suc j)) f (suc i) (l - context_count c (f i).role))

  node_back : (n : Node) → ((i : ℕ) (c : Node) → slice_get (below n) i ≡ Some c → Back c) → Back n
  node_back n back p l =
      let cs = placed (inside top p n l) 0 (below n) (map (at unresolved top) (below n)) (l - taken p.role n) in
      ap clear (resolved_out unresolved top n p l)
      ∙ fold-roll-Node Node (changed_here (λ span. span) (moved empty)) (record { span = (out-Node n).span; kind = kind_at unresolved p (kind_of n); children = cs })
      ∙ ap₂ (node_of (out-Node n).span) (bare_at unresolved p (kind_of n)) (each_back (below n) back (inside top p n l) 0 (l - taken p.role n))
      ∙ sym (changed-parts (λ span. span) (moved empty) n)

  pub cleared_back : (n : Node) → Back n
  cleared_back = induct Back node_back

-- ---- kinds of what may lose items

spine_at : (unresolved : ℕ) (p : Place) (k : Kind) → is_spine (kind_at unresolved p k) ≡ is_spine k
spine_at unresolved p (kind.Ident text ctxt optional) = refl
spine_at unresolved p _ = refl

spine_kind : (unresolved : ℕ) (p : Place) (k : Kind) → is_spine k ≡ true → kind_at unresolved p k ≡ k
spine_kind unresolved p (kind.Ident text ctxt optional) h = cc
spine_kind unresolved p _ h = refl

spine_moved : (f : List ℕ → ℕ → ℕ) (k : Kind) → is_spine k ≡ true → moved f k ≡ k
spine_moved f (kind.Ident text ctxt optional) h = cc
spine_moved f _ h = refl

spine_closed : (r : Role) (k : Kind) (named : Bool) → is_spine k ≡ true → opens_by r k named ≡ false
unfolding opens_by
spine_closed r kind.List named h = refl
spine_closed r (kind.ImportDecl type_only) named h = refl
spine_closed r (kind.NamedExport type_only) named h = refl
spine_closed r _ named h = cc

spine_body : (r : Role) (k : Kind) (b : Bool) (i : ℕ) → is_spine k ≡ true → is_function_body (role_by r k b i) ≡ false
unfolding role_by
spine_body r kind.List b i h = list_fails is_function_body refl refl refl refl r
spine_body r (kind.ImportDecl type_only) b i h = refl
spine_body r (kind.NamedExport type_only) b i h = exports_fail is_function_body refl refl refl refl b i
spine_body r _ b i h = cc

list_role : (r : Role) (k : Kind) (b : Bool) (i : ℕ) → is_list k ≡ true → role_by r k b i ≡ passes_in_list r
unfolding role_by
list_role r kind.List b i h = refl
list_role r _ b i h = cc

pub less_none : (l : ℕ) → l - 0 ≡ l
less_none l = omega arith

none_less : (l m : ℕ) → m ≡ 0 → l ≡ l - m
none_less l m e = omega (arith, e)

zero_more : (n : ℕ) → n ≡ 0 + n
zero_more n = omega arith

second : (a b : Bool) → (a && b) ≡ true → b ≡ true
second true b h = h
second false b h = cc

absent_blind : Blind Bool is_absent
absent_blind text a b optional = refl

module _ (unresolved top : ℕ) where
  pub parts_res : (n : Node) (p : Place) (l : ℕ)
      → out-Node (at unresolved top n p l) ≡ record { span = (out-Node n).span; kind = kind_at unresolved p (kind_of n); children = placed (inside top p n l) 0 (below n) (map (at unresolved top) (below n)) (l - taken p.role n) }
  parts_res n p l =
      ap out-Node (resolved_out unresolved top n p l)
      ∙ out-roll-Node (record { span = (out-Node n).span; kind = kind_at unresolved p (kind_of n); children = placed (inside top p n l) 0 (below n) (map (at unresolved top) (below n)) (l - taken p.role n) })

  spine_inside : (ds : List Declaration) (r : Role) (x : Node) (l i : ℕ) → is_spine (kind_of x) ≡ true → inside top (place unresolved top r ds []) x l i ≡ place unresolved top (role_in r x i) ds []
  spine_inside ds r x l i h =
      inside_is unresolved top ds r [] x l i
      ∙ ap (λ b. place unresolved top (role_in r x i) ds (cond (b && covers r (kind_of x) i) ([] ++ scope_at top (place unresolved top r ds []) x l ∷ []) [])) (spine_closed r (kind_of x) (is_there (below x) 0) h)

  spine_taken : (r : Role) (x : Node) → is_spine (kind_of x) ≡ true → taken r x ≡ 0
  spine_taken r x h = ap (λ b. cond (b && not (is_root r)) 1 0) (spine_closed r (kind_of x) (is_there (below x) 0) h)

  spine_children : (ds : List Declaration) (r : Role) (x : Node) (l : ℕ) → is_spine (kind_of x) ≡ true
      → placed (inside top (place unresolved top r ds []) x l) 0 (below x) (map (at unresolved top) (below x)) (l - taken r x)
      ≡ placed (λ i. place unresolved top (role_in r x i) ds []) 0 (below x) (map (at unresolved top) (below x)) l
  spine_children ds r x l h =
      ap (λ m. placed (inside top (place unresolved top r ds []) x l) 0 (below x) (map (at unresolved top) (below x)) m) (ap (λ t. l - t) (spine_taken r x h) ∙ less_none l)
      ∙ (λ j. placed (λ i. spine_inside ds r x l i h j) 0 (below x) (map (at unresolved top) (below x)) l)

  absent_res : (n : Node) (p : Place) (l : ℕ) → is_absent (kind_of (at unresolved top n p l)) ≡ is_absent (kind_of n)
  absent_res n p l = sym (kind_same empty Bool is_absent absent_blind (at unresolved top n p l)) ∙ ap (λ z. is_absent (kind_of z)) (cleared_back unresolved top n p l) ∙ kind_same empty Bool is_absent absent_blind n

module _ (unresolved top : ℕ) (apart : unresolved ≢ top) (old new : List Declaration) (fewer : (text : List ℕ) → keeps new text ≡ true → keeps old text ≡ true) (known : Known) where
  abbrev d : Dropping Seat
  d = dropping known

  abbrev was : Role → Place
  was r = place unresolved top r old []

  abbrev is : Role → Place
  is r = place unresolved top r new []

  abbrev res : Node → Place → ℕ → Node
  res = at unresolved top

  abbrev freeing : Node → Node
  freeing = to (free unresolved top apart old new fewer)

  abbrev rest : Bool → Seat → Node → Node
  rest = left_of d

  -- what is said of a node, where it stands in the module itself
  pub record Tie (loses : Bool) (s : Seat) (r : Role) (l : ℕ) (n : Node) : Type 0 where
    pub same : res (clear (rest loses s (res n (was r) l))) (is r) l ≡ freeing (rest loses s (res n (was r) l))
    pub count : (q : Role) → context_count (clear (rest loses s (res n (was r) l))) q ≡ context_count n q

  abbrev pub Tied : Node → Type 0
  Tied n = (loses : Bool) (s : Seat) (r : Role) (l : ℕ) → Bare n → is_root r ≡ false → is_function_body r ≡ false → l < top → Sound (res n (was r) l) → Tie loses s r l n

  -- ---- children

  abbrev pub resolved_in : (ℕ → Role) → ℕ → List Node → ℕ → List Node
  resolved_in f i cs l = placed (λ j. was (f j)) i cs (map res cs) l

  abbrev pub anew : (ℕ → Role) → ℕ → List Node → ℕ → List Node
  anew h i cs l = placed (λ j. is (h j)) i cs (map res cs) l

  abbrev pub All : (Node → Type 0) → List Node → Type 0
  All P ns = (i : ℕ) (c : Node) → slice_get ns i ≡ Some c → P c

  pub walk_whole : (o : ℕ → Bool) (g : ℕ → Seat) (f h : ℕ → Role) → ((i : ℕ) → h i ≡ f i) → ((i : ℕ) → is_root (f i) ≡ false) → ((i : ℕ) → is_function_body (f i) ≡ false)
      → (cs : List Node) → All Tied cs → All Bare cs → (i l : ℕ) → l < top → All Sound (resolved_in f i cs l)
      → anew h i (map clear (each d o g (resolved_in f i cs l))) l ≡ map freeing (each d o g (resolved_in f i cs l))
  walk_whole o g f h same roots bodies [] tied bares i l less sound = refl
  walk_whole o g f h same roots bodies (c ∷ cs) tied bares i l less sound =
      let t = tied 0 c refl (o 0) (g 0) (f i) l (bares 0 c refl) (roots i) (bodies i) less (sound 0 (res c (was (f i)) l) refl) in
      let e = rest (o 0) (g 0) (res c (was (f i)) l) in
      let others = each d (λ j. o (suc j)) (λ j. g (suc j)) (resolved_in f (suc i) cs (l - context_count c (f i))) in
      ap₂ (λ a z. a ∷ z) (ap (λ q. res (clear e) (is q) l) (same i) ∙ t.same)
      (ap (λ m. anew h (suc i) (map clear others) (l - m)) (ap (context_count (clear e)) (same i) ∙ t.count (f i))
      ∙ walk_whole (λ j. o (suc j)) (λ j. g (suc j)) f h same roots bodies cs (λ j. tied (suc j)) (λ j. bares (suc j)) (suc i) (l - context_count c (f i)) (less_below l (context_count c (f i)) top less)
      (λ j. sound (suc j)))

  pub count_whole : (o : ℕ → Bool) (g : ℕ → Seat) (f : ℕ → Role) → ((i : ℕ) → is_root (f i) ≡ false) → ((i : ℕ) → is_function_body (f i) ≡ false)
      → (cs : List Node) → All Tied cs → All Bare cs → (i l : ℕ) → l < top → All Sound (resolved_in f i cs l) → (p q : ℕ → Role) → ((j : ℕ) → p j ≡ q j) → (j : ℕ)
      → counted p j (map context_count (map clear (each d o g (resolved_in f i cs l)))) ≡ counted q j (map context_count cs)
  count_whole o g f roots bodies [] tied bares i l less sound p q same j = refl
  count_whole o g f roots bodies (c ∷ cs) tied bares i l less sound p q same j =
      let t = tied 0 c refl (o 0) (g 0) (f i) l (bares 0 c refl) (roots i) (bodies i) less (sound 0 (res c (was (f i)) l) refl) in
      ap₂ (λ a z. a + z) (t.count (p j) ∙ ap (context_count c) (same j))
      (count_whole (λ k. o (suc k)) (λ k. g (suc k)) f roots bodies cs (λ k. tied (suc k)) (λ k. bares (suc k)) (suc i) (l - context_count c (f i)) (less_below l (context_count c (f i)) top less)
      (λ k. sound (suc k)) p q same (suc j))

  -- what goes takes no context
  gone_none : (s : Seat) (r q : Role) (l : ℕ) (c : Node) → Bare c → Sound (res c (was r) l) → d.drops s (res c (was r) l) ≡ true → context_count c q ≡ 0
  gone_none s r q l c bare sound goes =
      let m = res c (was r) l in
      ap (λ z. context_count z q) (sym (cleared_back unresolved top c (was r) l ∙ bare)) ∙ count_moved empty m q
      ∙ gone_flat known s m sound.shape sound.has (passes_here is_short m sound.around sound.counts) goes q

  abbrev pub kept : Seat → List Node → List Node
  kept s ns = filter (λ c. not (d.drops s c)) ns

  module _ (s : Seat) (r : Role) (below_root : is_root r ≡ false) (no_body : is_function_body r ≡ false) where
    abbrev items : ℕ → List Node → ℕ → List Node
    items i cs l = resolved_in (λ j. r) i cs l

    pub walk_items : (o : ℕ → Bool) (g : ℕ → Seat) (cs : List Node) → All Tied cs → All Bare cs → (i j l : ℕ) → l < top → All Sound (items i cs l)
        → anew (λ k. r) j (map clear (each d o g (kept s (items i cs l)))) l ≡ map freeing (each d o g (kept s (items i cs l)))
    walk_items o g [] tied bares i j l less sound = refl
    walk_items o g (c ∷ cs) tied bares i j l less sound =
        by (d.drops s m) refl (λ o' g' k. walk_items o' g' cs (λ n. tied (suc n)) (λ n. bares (suc n)) (suc i) k (l - context_count c r) (less_below l (context_count c r) top less) (λ n. sound (suc n)))
      where
        m : Node
        m = res c (was r) l

        others : List Node
        others = kept s (items (suc i) cs (l - context_count c r))

        by : (b : Bool) → d.drops s m ≡ b
            → ((o' : ℕ → Bool) (g' : ℕ → Seat) (k : ℕ) → anew (λ n. r) k (map clear (each d o' g' others)) (l - context_count c r) ≡ map freeing (each d o' g' others))
            → anew (λ n. r) j (map clear (each d o g (cond (not b) (m ∷ others) others))) l ≡ map freeing (each d o g (cond (not b) (m ∷ others) others))
        by true e after =
            ap (λ z. anew (λ n. r) j (map clear (each d o g others)) z) (none_less l (context_count c r) (gone_none s r r l c (bares 0 c refl) (sound 0 m refl) e)) ∙ after o g j
        by false e after =
            let t = tied 0 c refl (o 0) (g 0) r l (bares 0 c refl) below_root no_body less (sound 0 m refl) in
            ap₂ (λ a z. a ∷ z) t.same
            (ap (λ z. anew (λ n. r) (suc j) (map clear (each d (λ n. o (suc n)) (λ n. g (suc n)) others)) (l - z)) (t.count r) ∙ after (λ n. o (suc n)) (λ n. g (suc n)) (suc j))

    pub count_items : (o : ℕ → Bool) (g : ℕ → Seat) (cs : List Node) → All Tied cs → All Bare cs → (i l : ℕ) → l < top → All Sound (items i cs l) → (p q : ℕ → Role) → ((a b : ℕ) → p a ≡ q b) → (j k : ℕ)
        → counted p j (map context_count (map clear (each d o g (kept s (items i cs l))))) ≡ counted q k (map context_count cs)
    count_items o g [] tied bares i l less sound p q same j k = refl
    count_items o g (c ∷ cs) tied bares i l less sound p q same j k =
        by (d.drops s m) refl
        (λ o' g' n. count_items o' g' cs (λ x. tied (suc x)) (λ x. bares (suc x)) (suc i) (l - context_count c r) (less_below l (context_count c r) top less) (λ x. sound (suc x)) p q same n (suc k))
      where
        m : Node
        m = res c (was r) l

        others : List Node
        others = kept s (items (suc i) cs (l - context_count c r))

        by : (b : Bool) → d.drops s m ≡ b
            → ((o' : ℕ → Bool) (g' : ℕ → Seat) (n : ℕ) → counted p n (map context_count (map clear (each d o' g' others))) ≡ counted q (suc k) (map context_count cs))
            → counted p j (map context_count (map clear (each d o g (cond (not b) (m ∷ others) others)))) ≡ context_count c (q k) + counted q (suc k) (map context_count cs)
        by true e after =
            after o g j ∙ zero_more (counted q (suc k) (map context_count cs))
            ∙ ap (λ z. z + counted q (suc k) (map context_count cs)) (sym (gone_none s r (q k) l c (bares 0 c refl) (sound 0 m refl) e))
        by false e after =
            let t = tied 0 c refl (o 0) (g 0) r l (bares 0 c refl) below_root no_body less (sound 0 m refl) in
            ap₂ (λ a z. a + z) (t.count (p j) ∙ ap (context_count c) (same j k)) (after (λ n. o (suc n)) (λ n. g (suc n)) (suc j))

  -- ---- nodes

  there_left : (o : ℕ → Bool) (g : ℕ → Seat) (f : ℕ → Role) (i : ℕ) (cs : List Node) (l j : ℕ) → is_there (map clear (each d o g (resolved_in f i cs l))) j ≡ is_there cs j
  there_left o g f i [] l j = refl
  there_left o g f i (c ∷ cs) l zero =
      ap not (kind_same empty Bool is_absent absent_blind (rest (o 0) (g 0) (res c (was (f i)) l)) ∙ ap is_absent (kind_to d (o 0) (g 0) (res c (was (f i)) l)) ∙ absent_res unresolved top c (was (f i)) l)
  there_left o g f i (c ∷ cs) l (suc j) = there_left (λ k. o (suc k)) (λ k. g (suc k)) f (suc i) cs (l - context_count c (f i)) j

  spine_tied : (n : Node) → All Tied (below n) → is_spine (kind_of n) ≡ true → Tied n
  spine_tied n tied h loses s r l bare below_root no_body less sound = by (loses && is_list (kind_of m)) refl
    where
      k : Kind
      k = kind_of n

      m : Node
      m = res n (was r) l

      e : Node
      e = rest loses s m

      xs : List Node
      xs = resolved_in (role_in r n) 0 (below n) l

      o : ℕ → Bool
      o = loses_at d loses m

      g : ℕ → Seat
      g = seats_at d s m

      below_m : below m ≡ xs
      below_m = ap (λ (z : Node-F Node). z.children) (parts_res unresolved top n (was r) l) ∙ spine_children unresolved top old r n l h

      kind_m : kind_of m ≡ k
      kind_m = ap (λ (z : Node-F Node). z.kind) (parts_res unresolved top n (was r) l) ∙ spine_kind unresolved (was r) k h

      kind_e : kind_of e ≡ k
      kind_e = kind_to d loses s m ∙ kind_m

      kind_c : kind_of (clear e) ≡ k
      kind_c = kind_moved empty e ∙ ap (moved empty) kind_e ∙ spine_moved empty k h

      spine_c : is_spine (kind_of (clear e)) ≡ true
      spine_c = ap is_spine kind_c ∙ h

      sounds : All Sound xs
      sounds = subst (All Sound) below_m (sound_below m sound)

      bares : All Bare (below n)
      bares = below_bare n bare

      roots : (i : ℕ) → is_root (role_in r n i) ≡ false
      roots i = never_root r k (is_there (below n) 1) i

      bodies : (i : ℕ) → is_function_body (role_in r n i) ≡ false
      bodies i = spine_body r k (is_there (below n) 1) i h

      frees : List ℕ → ℕ → ℕ
      frees = free unresolved top apart old new fewer

      -- from what becomes of the children
      tie : anew (role_in r (clear e)) 0 (below (clear e)) l ≡ map freeing (below e) → ((q : Role) → counted (role_in q (clear e)) 0 (map context_count (below (clear e))) ≡ counted (role_in q n) 0 (map context_count (below n)))
          → Tie loses s r l n
      tie children counts = record {
        same =
            resolved_out unresolved top (clear e) (is r) l
            ∙ (λ j. node_of (span_moved empty e j) (kinds j) ((spine_children unresolved top new r (clear e) l spine_c ∙ children) j))
            ∙ sym (changed-parts (λ span. span) (moved frees) e);
        count = λ q. count_out (clear e) q ∙ ap₂ (λ a b. a + b) (spine_taken unresolved top q (clear e) spine_c ∙ sym (spine_taken unresolved top q n h)) (counts q) ∙ sym (count_out n q);
      }
        where
          kinds : kind_at unresolved (is r) (kind_of (clear e)) ≡ moved frees (kind_of e)
          kinds = ap (kind_at unresolved (is r)) kind_c ∙ spine_kind unresolved (is r) k h ∙ sym (ap (moved frees) kind_e ∙ spine_moved frees k h)

      by : (b : Bool) → (loses && is_list (kind_of m)) ≡ b → Tie loses s r l n
      by false w = tie
          (ap (λ z. anew (role_in r (clear e)) 0 z l) bc ∙ walk_whole o g (role_in r n) (role_in r (clear e)) (roles r) roots bodies (below n) tied bares 0 l less sounds ∙ sym (ap (map freeing) be))
          (λ q. ap (λ z. counted (role_in q (clear e)) 0 (map context_count z)) bc
          ∙ count_whole o g (role_in r n) roots bodies (below n) tied bares 0 l less sounds (role_in q (clear e)) (role_in q n) (roles q) 0)
        where
          be : below e ≡ each d o g xs
          be = whole_to d loses s m w ∙ ap (each d o g) below_m

          bc : below (clear e) ≡ map clear (each d o g xs)
          bc = children_moved empty e ∙ ap (map clear) be

          roles : (q : Role) (i : ℕ) → role_in q (clear e) i ≡ role_in q n i
          roles q i = ap₂ (λ z b. role_by q z b i) kind_c (ap (λ z. is_there z 1) bc ∙ there_left o g (role_in r n) 0 (below n) l 1)
      by true w = tie
          (ap (λ z. anew (role_in r (clear e)) 0 z l) bc ∙ (λ j. anew (λ i. new_role r i j) 0 (map clear (each d o g ys)) l)
          ∙ walk_items s q0 root0 body0 o g (below n) tied bares 0 0 l less sounds0 ∙ sym (ap (map freeing) be))
          (λ q. ap (λ z. counted (role_in q (clear e)) 0 (map context_count z)) bc
          ∙ count_items s q0 root0 body0 o g (below n) tied bares 0 l less sounds0 (role_in q (clear e)) (role_in q n) (λ a b. new_role q a ∙ sym (list_role q k (is_there (below n) 1) b listed)) 0 0)
        where
          listed : is_list k ≡ true
          listed = sym (ap is_list kind_m) ∙ second loses (is_list (kind_of m)) w

          q0 : Role
          q0 = passes_in_list r

          root0 : is_root q0 ≡ false
          root0 = list_fails is_root refl refl refl refl r

          body0 : is_function_body q0 ≡ false
          body0 = list_fails is_function_body refl refl refl refl r

          zs : List Node
          zs = items s q0 root0 body0 0 (below n) l

          below_zs : below m ≡ zs
          below_zs = below_m ∙ (λ j. resolved_in (λ i. list_role r k (is_there (below n) 1) i listed j) 0 (below n) l)

          sounds0 : All Sound zs
          sounds0 = subst (All Sound) below_zs (sound_below m sound)

          ys : List Node
          ys = kept s zs

          be : below e ≡ each d o g ys
          be = below_to d loses s m ∙ ap (λ b. each d o g (cond b (filter (λ c. not (d.drops s c)) (below m)) (below m))) w ∙ ap (λ z. each d o g (kept s z)) below_zs

          bc : below (clear e) ≡ map clear (each d o g ys)
          bc = children_moved empty e ∙ ap (map clear) be

          new_role : (q : Role) (i : ℕ) → role_in q (clear e) i ≡ passes_in_list q
          new_role q i = list_role q (kind_of (clear e)) (is_there (below (clear e)) 1) i (ap is_list kind_c ∙ listed)

  still_tied : (n : Node) → is_spine (kind_of n) ≡ false → Tied n
  still_tied n h loses s r l bare below_root no_body less sound =
      record {
        same =
            ap (λ z. res (clear z) (is r) l) stays ∙ ap (λ z. res z (is r) l) back
            ∙ alike unresolved top apart old new fewer n bare r [] l below_root (λ b. never (is_function_body r) b no_body) tt less ∙ sym (ap freeing stays);
        count = λ q. ap (λ z. context_count z q) (ap clear stays ∙ back);
      }
    where
      m : Node
      m = res n (was r) l

      stays : rest loses s m ≡ m
      stays = still known m sound (ap is_spine (ap (λ (z : Node-F Node). z.kind) (parts_res unresolved top n (was r) l)) ∙ spine_at unresolved (was r) (kind_of n) ∙ h) loses s

      back : clear m ≡ n
      back = cleared_back unresolved top n (was r) l ∙ bare

  pub tied : (n : Node) → Tied n
  tied = induct Tied (λ n below_tied. by n below_tied (is_spine (kind_of n)) refl)
    where
      by : (n : Node) → All Tied (below n) → (b : Bool) → is_spine (kind_of n) ≡ b → Tied n
      by n below_tied true h = spine_tied n below_tied h
      by n below_tied false h = still_tied n h
