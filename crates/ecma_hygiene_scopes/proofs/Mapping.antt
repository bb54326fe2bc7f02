-- The map of the contexts of a tree to those that its scopes get.
use Rattle.std.proofs.Common.{◌≡◌, ◌≢◌, ◌⊎◌, inl, inr, ℕ, ◌+◌, ◌<◌, ◌≤◌, Bool, true, false, ◌||◌, cond, List, [], ◌∷◌, map, Option, Some, None, refl, sym, ap, ◌∙◌, get_or, nat_eq, eq-eqb, unwrap_or, arith}
use Rattle.std.specs.List.{All, list_any}
use Rattle.std.proofs.lemmas.Bool.{eqb-true}
use Rattle.std.proofs.lemmas.List.Elements.{All-cons, All-head, All-nil, All-tail}
use Rattle.ecma_tree.specs.declared.node.Node.{Node}
use Rattle.ecma_scope.specs.Resolved.{contexts}
use Rattle.ecma_hygiene.specs.Ids.{Id, has_context, innermost, own_ids, same_id}
use Rattle.ecma_hygiene.specs.Laws.{is_seen}
use Rattle.ecma_hygiene.specs.Sights.{own_scope, sights}
use Rattle.ecma_hygiene.proofs.Telling.{has-id, or-first, or-second, true-false}
use Rattle.ecma_hygiene_scopes.specs.Apart.{AreApart, HasOneContext, IsContext, IsMap, IsScoped, TellsScopesApart, own_contexts}
use Rattle.ecma_hygiene_scopes.specs.Stops.{IsRight, Stop, stops}
use Rattle.ecma_hygiene_scopes.proofs.Membership.{contexts-agree, id-same}
use Rattle.ecma_hygiene_scopes.proofs.Numbers.{Differ, Given, IsGiven, NumbersApart, number, opened, tree-numbers}

abbrev pub has : ℕ → Stop → Bool
has ctxt stop = has_context ctxt (own_contexts stop)

-- what declares in a context, opens a scope
pub has-opened : (ctxt : ℕ) (stop : Stop) → has ctxt stop ≡ true → opened stop ≡ true
has-opened ctxt stop h = by (opened stop) h
  where
    by : (b : Bool) → has_context ctxt (cond b (map (λ id. id.1) (own_ids stop.around.role (innermost stop.around.scopes) stop.node)) []) ≡ true → b ≡ true
    by true h = refl
    by false h = absurd (true-false h refl)

ids-context : (id : Id) (ids : List Id) → has-id id ids ≡ true → has_context id.1 (map (λ other. other.1) ids) ≡ true
ids-context id [] h = absurd (true-false h refl)
ids-context id (x ∷ xs) h = by (same_id x id) refl h (ids-context id xs)
  where
    by : (b : Bool) → same_id x id ≡ b → (b || has-id id xs) ≡ true → (has-id id xs ≡ true → has_context id.1 (map (λ other. other.1) xs) ≡ true) → has_context id.1 (map (λ other. other.1) (x ∷ xs)) ≡ true
    by true is h rec = or-first (nat_eq id.1 x.1) (has_context id.1 (map (λ other. other.1) xs)) (eq-eqb id.1 x.1 (sym (ap (λ (i : Id). i.1) (id-same x id is))))
    by false is h rec = or-second (nat_eq id.1 x.1) (has_context id.1 (map (λ other. other.1) xs)) (rec h)

pub own-has : (stop : Stop) (id : Id) → opened stop ≡ true → has_context id.1 (own_scope stop.around.role stop.around.scopes stop.node id.0) ≡ true → has id.1 stop ≡ true
own-has stop id is h =
    let ids : List Id = own_ids stop.around.role (innermost stop.around.scopes) stop.node in
    ap (λ (b : Bool). has_context id.1 (cond b (map (λ other. other.1) ids) [])) is ∙ ids-context id ids (sym (contexts-agree id ids) ∙ h)

module _ (top : ℕ) where
  -- the number of the first scope that declares in a context
  abbrev look_up : List Stop → ℕ → Option ℕ
  look_up [] ctxt = None
  look_up (s ∷ ss) ctxt = cond (has ctxt s) (Some (number top s)) (look_up ss ctxt)

  look_up-none : (ss : List Stop) (ctxt : ℕ) → All (λ s. has ctxt s ≡ false) ss → look_up ss ctxt ≡ None
  look_up-none [] ctxt all = refl
  look_up-none (s ∷ ss) ctxt all =
      ap (λ (b : Bool). cond b (Some (number top s)) (look_up ss ctxt)) (All-head (λ s. has ctxt s ≡ false) s ss all) ∙ look_up-none ss ctxt (All-tail (λ s. has ctxt s ≡ false) s ss all)

  Finds : List Stop → Stop → Type 0
  Finds ss s = (ctxt : ℕ) → has ctxt s ≡ true → look_up ss ctxt ≡ Some (number top s)

  finds-later : (s : Stop) (ss : List Stop) (x : Stop) (ctxt : ℕ) (b : Bool) → has ctxt s ≡ b → (has ctxt s ≡ true → has ctxt x ≡ false) → has ctxt x ≡ true → look_up ss ctxt ≡ Some (number top x) → look_up (s ∷ ss) ctxt ≡ Some (number top x)
  finds-later s ss x ctxt true is apart h rec = absurd (true-false h (apart is))
  finds-later s ss x ctxt false is apart h rec = ap (λ (b : Bool). cond b (Some (number top s)) (look_up ss ctxt)) is ∙ rec

  apart-map : (ctxt : ℕ) (ss : List Stop) → All (λ other. has_context ctxt other ≡ false) (map own_contexts ss) → All (λ s. has ctxt s ≡ false) ss
  apart-map ctxt [] all = All-nil (λ s. has ctxt s ≡ false)
  apart-map ctxt (s ∷ ss) all =
      All-cons (λ s. has ctxt s ≡ false) s ss (All-head (λ other. has_context ctxt other ≡ false) (own_contexts s) (map own_contexts ss) all)
      (apart-map ctxt ss (All-tail (λ other. has_context ctxt other ≡ false) (own_contexts s) (map own_contexts ss) all))

  all-found : (ss : List Stop) → AreApart (map own_contexts ss) → All (λ s. (ctxt : ℕ) → has ctxt s ≡ true → look_up ss ctxt ≡ Some (number top s)) ss
  all-found [] apart = All-nil (λ s. (ctxt : ℕ) → has ctxt s ≡ true → look_up [] ctxt ≡ Some (number top s))
  all-found (s ∷ ss) apart =
      All-cons (λ x. (ctxt : ℕ) → has ctxt x ≡ true → look_up (s ∷ ss) ctxt ≡ Some (number top x)) s ss
      (λ ctxt h. ap (λ (b : Bool). cond b (Some (number top s)) (look_up ss ctxt)) h)
      (λ k d lt ctxt h. finds-later s ss (get_or ss k d) ctxt (has ctxt s) refl (λ is. apart-map ctxt ss (apart.0 ctxt is) k d lt) h (all-found ss apart.1 k d lt ctxt h))

  some-same : (a b : ℕ) → ◌≡◌ {A = Option ℕ} (Some a) (Some b) → a ≡ b
  some-same a b h = cc

  -- one that differs from all of these numbers, is none of those that are found
  found-differs : (s : Stop) (ss : List Stop) (ctxt : ℕ) → opened s ≡ true → All (Differ top s) ss → list_any (has ctxt) ss ≡ true → look_up ss ctxt ≡ Some (number top s) → ⊥
  found-differs s [] ctxt is differ h found = true-false h refl
  found-differs s (x ∷ xs) ctxt is differ h found = by (has ctxt x) refl h found (found-differs s xs ctxt is (All-tail (Differ top s) x xs differ))
    where
      by : (b : Bool) → has ctxt x ≡ b → (b || list_any (has ctxt) xs) ≡ true → cond (has ctxt x) (Some (number top x)) (look_up xs ctxt) ≡ Some (number top s)
          → (list_any (has ctxt) xs ≡ true → look_up xs ctxt ≡ Some (number top s) → ⊥) → ⊥
      by true here h found rec =
          All-head (Differ top s) x xs differ is (has-opened ctxt x here) (sym (some-same (number top x) (number top s) (ap (λ (b : Bool). cond b (Some (number top x)) (look_up xs ctxt)) (sym here) ∙ found)))
      by false here h found rec = rec h (ap (λ (b : Bool). cond b (Some (number top x)) (look_up xs ctxt)) (sym here) ∙ found)

  -- so two contexts of scopes that have one number are one
  same-found : (ss : List Stop) → NumbersApart top ss → All HasOneContext ss → (c d : ℕ) → list_any (has c) ss ≡ true → list_any (has d) ss ≡ true → look_up ss c ≡ look_up ss d → c ≡ d
  same-found [] apart one c d hc hd same = absurd (true-false hc refl)
  same-found (s ∷ ss) apart one c d hc hd same =
      by (has c s) (has d s) refl refl hc hd same (same-found ss apart.1 (All-tail HasOneContext s ss one) c d)
    where
      by : (x y : Bool) → has c s ≡ x → has d s ≡ y → (x || list_any (has c) ss) ≡ true → (y || list_any (has d) ss) ≡ true
          → cond (has c s) (Some (number top s)) (look_up ss c) ≡ cond (has d s) (Some (number top s)) (look_up ss d)
          → (list_any (has c) ss ≡ true → list_any (has d) ss ≡ true → look_up ss c ≡ look_up ss d → c ≡ d) → c ≡ d
      by true true x y hc hd same rec = All-head HasOneContext s ss one c d x y
      by true false x y hc hd same rec =
          absurd (found-differs s ss d (has-opened c s x) apart.0 hd
          (sym (ap (λ (b : Bool). cond b (Some (number top s)) (look_up ss d)) y) ∙ sym same ∙ ap (λ (b : Bool). cond b (Some (number top s)) (look_up ss c)) x))
      by false true x y hc hd same rec =
          absurd (found-differs s ss c (has-opened d s y) apart.0 hc
          (sym (ap (λ (b : Bool). cond b (Some (number top s)) (look_up ss c)) x) ∙ same ∙ ap (λ (b : Bool). cond b (Some (number top s)) (look_up ss d)) y))
      by false false x y hc hd same rec =
          rec hc hd (sym (ap (λ (b : Bool). cond b (Some (number top s)) (look_up ss c)) x) ∙ same ∙ ap (λ (b : Bool). cond b (Some (number top s)) (look_up ss d)) y)

  -- what is found is a number of a scope
  found-given : (left : ℕ) (ss : List Stop) (ctxt : ℕ) → All (IsGiven top left) ss → list_any (has ctxt) ss ≡ true → (n : ℕ) × (look_up ss ctxt ≡ Some n) × ((n ≡ top) ⊎ ((0 < n) × (n ≤ left)))
  found-given left [] ctxt given h = absurd (true-false h refl)
  found-given left (s ∷ ss) ctxt given h = by (has ctxt s) refl h (found-given left ss ctxt (All-tail (IsGiven top left) s ss given))
    where
      by : (b : Bool) → has ctxt s ≡ b → (b || list_any (has ctxt) ss) ≡ true → (list_any (has ctxt) ss ≡ true → (n : ℕ) × (look_up ss ctxt ≡ Some n) × ((n ≡ top) ⊎ ((0 < n) × (n ≤ left))))
          → (n : ℕ) × (cond (has ctxt s) (Some (number top s)) (look_up ss ctxt) ≡ Some n) × ((n ≡ top) ⊎ ((0 < n) × (n ≤ left)))
      by true is h rec = (number top s, ap (λ (b : Bool). cond b (Some (number top s)) (look_up ss ctxt)) is, All-head (IsGiven top left) s ss given (has-opened ctxt s is))
      by false is h rec = (let r = rec h in (r.0, ap (λ (b : Bool). cond b (Some (number top s)) (look_up ss ctxt)) is ∙ r.1, r.2))

none-has : (ctxt : ℕ) (ss : List Stop) → list_any (has ctxt) ss ≡ false → All (λ s. has ctxt s ≡ false) ss
none-has ctxt [] h = All-nil (λ s. has ctxt s ≡ false)
none-has ctxt (s ∷ ss) h = by (has ctxt s) refl h (none-has ctxt ss)
  where
    by : (b : Bool) → has ctxt s ≡ b → (b || list_any (has ctxt) ss) ≡ false → (list_any (has ctxt) ss ≡ false → All (λ x. has ctxt x ≡ false) ss) → All (λ x. has ctxt x ≡ false) (s ∷ ss)
    by true is h rec = absurd (true-false refl h)
    by false is h rec = All-cons (λ x. has ctxt x ≡ false) s ss is (rec h)

module _ (unresolved top free left : ℕ) (tree : Node) (scopes : TellsScopesApart free left tree) where
  abbrev all : List Stop
  all = stops left tree

  -- the map: a context of a scope goes to the number that the scope gets, that of free names to the unresolved one, the empty one to itself, and all others beyond these
  abbrev more : ℕ
  more = left + (top + (unresolved + 1))

  abbrev pub to : ℕ → ℕ
  to ctxt = unwrap_or (look_up top all ctxt) (cond (nat_eq ctxt free) unresolved (cond (nat_eq ctxt 0) 0 (ctxt + more)))

  apart-test : (b : Bool) → nat_eq 0 free ≡ b → b ≡ false
  apart-test true is = absurd (scopes.there (sym (eqb-true 0 free is)))
  apart-test false is = refl

  to-none : to 0 ≡ 0
  to-none =
      ap (λ (o : Option ℕ). unwrap_or o (cond (nat_eq 0 free) unresolved (cond (nat_eq 0 0) 0 (0 + more)))) (look_up-none top all 0 (λ k d lt. (scopes.scoped k d lt).not_empty))
      ∙ ap (λ (b : Bool). cond b unresolved (cond (nat_eq 0 0) 0 (0 + more))) (apart-test (nat_eq 0 free) refl) ∙ ap (λ (b : Bool). cond b 0 (0 + more)) (eq-eqb 0 0 refl)

  to-free : to free ≡ unresolved
  to-free =
      ap (λ (o : Option ℕ). unwrap_or o (cond (nat_eq free free) unresolved (cond (nat_eq free 0) 0 (free + more)))) (look_up-none top all free (λ k d lt. (scopes.scoped k d lt).not_free))
      ∙ ap (λ (b : Bool). cond b unresolved (cond (nat_eq free 0) 0 (free + more))) (eq-eqb free free refl)

  to-found : (ctxt n : ℕ) → look_up top all ctxt ≡ Some n → to ctxt ≡ n
  to-found ctxt n is = ap (λ (o : Option ℕ). unwrap_or o (cond (nat_eq ctxt free) unresolved (cond (nat_eq ctxt 0) 0 (ctxt + more)))) is

  right-at : (stop : Stop) → IsScoped free stop → ((ctxt : ℕ) → has ctxt stop ≡ true → look_up top all ctxt ≡ Some (number top stop)) → IsRight unresolved top (λ ctxt. ctxt) to stop
  right-at stop scoped found = record {
    absent = scoped.absent;
    names = scoped.names;
    free = λ t c o is other none. ap to (scoped.free_names t c o is other none) ∙ to-free;
    declares = λ is. (let cleanly = scoped.declares is in record {
      stay = cleanly.stay;
      blocks = cleanly.blocks;
      parameters = cleanly.parameters;
      contexts = λ id h. to-found id.1 (number top stop) (found id.1 (own-has stop id is h));
    });
  }

  module _ (unresolved_above : left < unresolved) (top_above : left < top) (apart : unresolved ≢ top) (enough : contexts tree ≤ left) where
    given : Given top left all
    given = tree-numbers top tree left top_above enough

    above : (n : ℕ) → n ≤ left → unresolved ≡ n → ⊥
    above n le same = less left unresolved n unresolved_above le same
      where
        less : (left u n : ℕ) → left < u → n ≤ left → u ≡ n → ⊥
        less left u n lt le same = omega arith

    free-apart : (n : ℕ) → (n ≡ top) ⊎ ((0 < n) × (n ≤ left)) → unresolved ≡ n → ⊥
    free-apart n (inl is) same = apart (same ∙ is)
    free-apart n (inr le) same = above n le.1 same

    not-none : (n m : ℕ) → m < n → n ≡ 0 → ⊥
    not-none n m lt is = omega arith

    found-inner : (n : ℕ) → (n ≡ top) ⊎ ((0 < n) × (n ≤ left)) → n ≡ 0 → ⊥
    found-inner n (inl is) none = not-none top left top_above (sym is ∙ none)
    found-inner n (inr le) none = not-none n 0 le.0 none

    -- which of these a context is
    data Class (ctxt : ℕ) : Type 0 where
      of_scope : (n : ℕ) → list_any (has ctxt) all ≡ true → look_up top all ctxt ≡ Some n → (n ≡ top) ⊎ ((0 < n) × (n ≤ left)) → Class ctxt
      of_free : ctxt ≡ free → Class ctxt
      of_none : ctxt ≡ 0 → Class ctxt
      of_other : to ctxt ≡ ctxt + more → Class ctxt

    class-by : (ctxt : ℕ) (f z : Bool) → look_up top all ctxt ≡ None → nat_eq ctxt free ≡ f → nat_eq ctxt 0 ≡ z → Class ctxt
    class-by ctxt true z none is zero = of_free (eqb-true ctxt free is)
    class-by ctxt false true none is zero = of_none (eqb-true ctxt 0 zero)
    class-by ctxt false false none is zero = of_other ((λ j. unwrap_or (none j) (cond (is j) unresolved (cond (zero j) 0 (ctxt + more)))))

    classify : (ctxt : ℕ) (b : Bool) → list_any (has ctxt) all ≡ b → Class ctxt
    classify ctxt true is = (let found = found-given top left all ctxt given.given is in of_scope found.0 is found.1 found.2)
    classify ctxt false is = class-by ctxt (nat_eq ctxt free) (nat_eq ctxt 0) (look_up-none top all ctxt (none-has ctxt all is)) refl refl

    beyond : (n d : ℕ) → (n ≡ top) ⊎ ((0 < n) × (n ≤ left)) → n ≡ d + more → ⊥
    beyond n d (inl is) same = over top left unresolved d (sym is ∙ same)
      where
        over : (t l u d : ℕ) → t ≡ d + (l + (t + (u + 1))) → ⊥
        over t l u d same = omega arith
    beyond n d (inr le) same = over n top left unresolved d le.1 same
      where
        over : (n t l u d : ℕ) → n ≤ l → n ≡ d + (l + (t + (u + 1))) → ⊥
        over n t l u d le same = omega arith

    free-beyond : (d : ℕ) → unresolved ≡ d + more → ⊥
    free-beyond d same = over unresolved top left d same
      where
        over : (u t l d : ℕ) → u ≡ d + (l + (t + (u + 1))) → ⊥
        over u t l d same = omega arith

    none-beyond : (d : ℕ) → 0 ≡ d + more → ⊥
    none-beyond d same = over unresolved top left d same
      where
        over : (u t l d : ℕ) → 0 ≡ d + (l + (t + (u + 1))) → ⊥
        over u t l d same = omega arith

    both-beyond : (c d m : ℕ) → c + m ≡ d + m → c ≡ d
    both-beyond c d m same = omega arith

    to-freed : (c : ℕ) → c ≡ free → to c ≡ unresolved
    to-freed c is = ap to is ∙ to-free

    to-noned : (c : ℕ) → c ≡ 0 → to c ≡ 0
    to-noned c is = ap to is ∙ to-none

    one-class : (c d : ℕ) → Class c → Class d → to c ≡ to d → c ≡ d
    one-class c d (of_scope n in_c is r) (of_scope m in_d also q) same =
        same-found top all given.apart scopes.one c d in_c in_d (is ∙ ap (λ (n : ℕ). Some n) (sym (to-found c n is) ∙ same ∙ to-found d m also) ∙ sym also)
    one-class c d (of_scope n in_c is r) (of_free also) same = absurd (free-apart n r (sym (sym (to-found c n is) ∙ same ∙ to-freed d also)))
    one-class c d (of_scope n in_c is r) (of_none also) same = absurd (found-inner n r (sym (to-found c n is) ∙ same ∙ to-noned d also))
    one-class c d (of_scope n in_c is r) (of_other also) same = absurd (beyond n d r (sym (to-found c n is) ∙ same ∙ also))
    one-class c d (of_free is) (of_scope m in_d also q) same = absurd (free-apart m q (sym (to-freed c is) ∙ same ∙ to-found d m also))
    one-class c d (of_free is) (of_free also) same = is ∙ sym also
    one-class c d (of_free is) (of_none also) same = absurd (not-none unresolved left unresolved_above (sym (to-freed c is) ∙ same ∙ to-noned d also))
    one-class c d (of_free is) (of_other also) same = absurd (free-beyond d (sym (to-freed c is) ∙ same ∙ also))
    one-class c d (of_none is) (of_scope m in_d also q) same = absurd (found-inner m q (sym (to-found d m also) ∙ sym same ∙ to-noned c is))
    one-class c d (of_none is) (of_free also) same = absurd (not-none unresolved left unresolved_above (sym (to-freed d also) ∙ sym same ∙ to-noned c is))
    one-class c d (of_none is) (of_none also) same = is ∙ sym also
    one-class c d (of_none is) (of_other also) same = absurd (none-beyond d (sym (to-noned c is) ∙ same ∙ also))
    one-class c d (of_other is) (of_scope m in_d also q) same = absurd (beyond m c q (sym (to-found d m also) ∙ sym same ∙ is))
    one-class c d (of_other is) (of_free also) same = absurd (free-beyond c (sym (to-freed d also) ∙ sym same ∙ is))
    one-class c d (of_other is) (of_none also) same = absurd (none-beyond c (sym (to-noned d also) ∙ sym same ∙ is))
    one-class c d (of_other is) (of_other also) same = both-beyond c d more (sym is ∙ same ∙ also)

    one-to-one : (c d : ℕ) → to c ≡ to d → c ≡ d
    one-to-one c d same = one-class c d (classify c (list_any (has c) all) refl) (classify d (list_any (has d) all) refl) same

    inner : (c : ℕ) → IsContext free left tree c → to c ≢ 0
    inner c (inl free_c) is = not-none unresolved left unresolved_above (sym to-free ∙ ap to (sym free_c) ∙ is)
    inner c (inr in_c) is = (let found = found-given top left all c given.given in_c in found-inner found.0 found.2 (sym (to-found c found.0 found.1) ∙ is))

    pub mapped : ((id : Id) → is_seen (sights tree) id ≡ true → IsContext free left tree id.1) → IsMap unresolved top free left tree to
    mapped seen = record {
      none = to-none;
      right = λ k d lt. right-at (get_or all k d) (scopes.scoped k d lt) (all-found top all scopes.apart k d lt);
      one_to_one = one-to-one;
      free_names = to-free;
      inner = inner;
      seen = seen;
    }
