-- What is bound in a tree, some scope of it declares: so it has neither the context of free names nor the empty one, where the ids say which scopes declare names.
use Rattle.std.proofs.Common.{◌≡◌, ◌≢◌, ◌⊎◌, inl, inr, ℕ, suc, ◌-◌, Bool, true, false, not, ◌&&◌, ◌||◌, cond, List, [], ◌∷◌, ◌++◌, map, filter, refl, sym, ap, ◌∙◌, subst}
use Rattle.std.specs.List.{All, list_any}
use Rattle.std.proofs.lemmas.List.Elements.{All-head, All-tail}
use Rattle.std.proofs.lemmas.List.Folds.{list_any-append}
use Rattle.ecma_kind.specs.declared.kind.Kind.{Kind}
use Rattle.ecma_kind.specs.declared.kind.Kind.TheVariants as kind
use Rattle.ecma_kind.specs.declared.span.Span.{Span}
use Rattle.ecma_tree.specs.declared.node.Node.{Node, Node-F, ind-Node, out-Node, roll-Node}
use Rattle.ecma_tree.specs.declared.node.Node.TheViews.{out-roll-Node}
use Rattle.ecma_scope.specs.declared.form.Sought.{Sought}
use Rattle.ecma_scope.specs.Declarations.{sought_in}
use Rattle.ecma_scope.specs.Resolved.{context_count, is_name, taken}
use Rattle.ecma_scope.specs.Scopes.{covers, opens}
use Rattle.ecma_hygiene.specs.declared.sight.Sight.{Sight}
use Rattle.ecma_hygiene.specs.Ids.{Id, Scope, declared_by, declared_here, declared_ids, declares, found, has_context, innermost, is_body_block, is_own, own_ids, same_id, scope_soughts, soughts_in}
use Rattle.ecma_hygiene.specs.Sights.{Around, around_child, inner_soughts, nowhere, own_scope, sight_by, sight_here, sights, sights_at}
use Rattle.ecma_hygiene.specs.Texts.{is_bound}
use Rattle.ecma_hygiene.specs.Walks.{gathered_from}
use Rattle.ecma_hygiene.proofs.Telling.{and-left, and-right, has-id, id-same, or-first, or-second, true-false}
use Rattle.ecma_hygiene.proofs.Walking.{gathered-out}
use Rattle.ecma_hygiene_scopes.specs.Apart.{IsScoped, own_contexts}
use Rattle.ecma_hygiene_scopes.specs.Stops.{Stop, stops, stops_at, stops_from}
use Rattle.ecma_hygiene_scopes.proofs.Mapping.{own-has}
use Rattle.ecma_hygiene_scopes.proofs.Membership.{contexts-agree}
use Rattle.ecma_hygiene_scopes.proofs.Stopping.{All-first, All-second, IsAmong, all-among, stop-here, stops-below}

or-cases : (a b : Bool) → (a || b) ≡ true → (a ≡ true) ⊎ (b ≡ true)
or-cases true b h = inl refl
or-cases false b h = inr h

either : {A B C : Type 0} → A ⊎ B → (A → C) → (B → C) → C
either (inl a) f g = f a
either (inr b) f g = g b

abbrev Has : Id → List Id → Type 0
Has id ids = has-id id ids ≡ true

has-cases : (id : Id) (xs ys : List Id) → Has id (xs ++ ys) → Has id xs ⊎ Has id ys
has-cases id xs ys h = or-cases (has-id id xs) (has-id id ys) (sym (list_any-append (λ (y : Id). same_id y id) xs ys) ∙ h)

has-first : (id : Id) (xs ys : List Id) → Has id xs → Has id (xs ++ ys)
has-first id xs ys h = list_any-append (λ (y : Id). same_id y id) xs ys ∙ or-first (has-id id xs) (has-id id ys) h

has-second : (id : Id) (xs ys : List Id) → Has id ys → Has id (xs ++ ys)
has-second id xs ys h = list_any-append (λ (y : Id). same_id y id) xs ys ∙ or-second (has-id id xs) (has-id id ys) h

-- ---- what is declared where more is looked for

soughts-append : (xs ys : List Sought) (n : Node) (i : ℕ) → soughts_in (xs ++ ys) n i ≡ soughts_in xs n i ++ soughts_in ys n i
soughts-append [] ys n i = refl
soughts-append (x ∷ xs) ys n i =
    ap (λ (z : List Sought). found (sought_in x n i) ++ z) (soughts-append xs ys n i) ∙ sym (append-three (found (sought_in x n i)) (soughts_in xs n i) (soughts_in ys n i))
  where
    append-three : (xs ys zs : List Sought) → (xs ++ ys) ++ zs ≡ xs ++ (ys ++ zs)
    append-three [] ys zs = refl
    append-three (x ∷ xs) ys zs = ap (λ (rest : List Sought). x ∷ rest) (append-three xs ys zs)

here-cases : (a b : Bool) (k : Kind) (id : Id) → Has id (declared_by (a || b) k) → Has id (declared_by a k) ⊎ Has id (declared_by b k)
here-cases true b k id h = inl h
here-cases false b k id h = inr h

abbrev Parts : Node → Type 0
Parts n = (xs ys : List Sought) (id : Id) → Has id (declared_ids n (xs ++ ys)) → Has id (declared_ids n xs) ⊎ Has id (declared_ids n ys)

abbrev from : Node → List Sought → ℕ → List Node → List Id
from n ss i cs = gathered_from (List Sought) Id (soughts_in ss n) i (map declared_ids cs)

abbrev PartsBelow : List Node → Type 0
PartsBelow cs = (n : Node) (xs ys : List Sought) (i : ℕ) (id : Id) → Has id (from n (xs ++ ys) i cs) → Has id (from n xs i cs) ⊎ Has id (from n ys i cs)

all-parts : (ns : List ((n : Node) × Parts n)) → PartsBelow (map (λ e. e.0) ns)
all-parts [] n xs ys i id h = absurd (true-false h refl)
all-parts (c ∷ cs) n xs ys i id h =
    let others = map (λ e. e.0) cs in
    let one = declared_ids c.0 (soughts_in xs n i) in
    let two = declared_ids c.0 (soughts_in ys n i) in
    either (has-cases id (declared_ids c.0 (soughts_in (xs ++ ys) n i)) (from n (xs ++ ys) (suc i) others) h)
    (λ here. either (c.1 (soughts_in xs n i) (soughts_in ys n i) id (subst (λ (ss : List Sought). Has id (declared_ids c.0 ss)) (soughts-append xs ys n i) here))
    (λ a. inl (has-first id one (from n xs (suc i) others) a)) (λ b. inr (has-first id two (from n ys (suc i) others) b)))
    (λ later. either (all-parts cs n xs ys (suc i) id later) (λ a. inl (has-second id one (from n xs (suc i) others) a)) (λ b. inr (has-second id two (from n ys (suc i) others) b)))

declared-out : (n : Node) (ss : List Sought) → declared_ids n ss ≡ declared_here ss n ++ from n ss 0 (out-Node n).children
declared-out n ss = gathered-out (List Sought) Id declared_here soughts_in n ss

in-parts : (n : Node) (ss : List Sought) (id : Id) → Has id (declared_here ss n) ⊎ Has id (from n ss 0 (out-Node n).children) → Has id (declared_ids n ss)
in-parts n ss id (inl h) = ap (has-id id) (declared-out n ss) ∙ has-first id (declared_here ss n) (from n ss 0 (out-Node n).children) h
in-parts n ss id (inr h) = ap (has-id id) (declared-out n ss) ∙ has-second id (declared_here ss n) (from n ss 0 (out-Node n).children) h

layer-parts : (n : Node) → PartsBelow (out-Node n).children → Parts n
layer-parts n below xs ys id h =
    let cs = (out-Node n).children in
    either (has-cases id (declared_here (xs ++ ys) n) (from n (xs ++ ys) 0 cs) (sym (ap (has-id id) (declared-out n (xs ++ ys))) ∙ h))
    (λ here. either (here-cases (list_any declares xs) (list_any declares ys) (out-Node n).kind id
    (subst (λ (b : Bool). Has id (declared_by b (out-Node n).kind)) (list_any-append declares xs ys) here)) (λ a. inl (in-parts n xs id (inl a))) (λ b. inr (in-parts n ys id (inl b))))
    (λ later. either (below n xs ys 0 id later) (λ a. inl (in-parts n xs id (inr a))) (λ b. inr (in-parts n ys id (inr b))))

parts : (n : Node) → Parts n
parts = ind-Node Parts (λ x y is.
    layer-parts (roll-Node x) (subst PartsBelow (ap (λ (z : Node-F Node). z.children) is ∙ sym (ap (λ (z : Node-F Node). z.children) (out-roll-Node x))) (all-parts y.children)))

-- where nothing is looked for, nothing is declared

abbrev NoneThere : Node → Type 0
NoneThere n = (id : Id) → Has id (declared_ids n []) → ⊥

none-below : (ns : List ((n : Node) × NoneThere n)) (n : Node) (i : ℕ) (id : Id) → Has id (from n [] i (map (λ e. e.0) ns)) → ⊥
none-below [] n i id h = true-false h refl
none-below (c ∷ cs) n i id h = either (has-cases id (declared_ids c.0 []) (from n [] (suc i) (map (λ e. e.0) cs)) h) (c.1 id) (none-below cs n (suc i) id)

none-there : (n : Node) → NoneThere n
none-there = ind-Node NoneThere (λ x y is id h.
    let n = roll-Node x in
    let children = ap (λ (z : Node-F Node). z.children) is ∙ sym (ap (λ (z : Node-F Node). z.children) (out-roll-Node x)) in
    either (has-cases id (declared_here [] n) (from n [] 0 (out-Node n).children) (sym (ap (has-id id) (declared-out n [])) ∙ h)) (λ here. true-false here refl)
    (subst (λ (cs : List Node). Has id (from n [] 0 cs) → ⊥) children (none-below y.children n 0 id)))

-- ---- in the scopes of a tree

own-kept : (f : Id → Bool) (id : Id) (ids : List Id) → f id ≡ true → Has id ids → Has id (filter f ids)
own-kept f id [] is h = h
own-kept f id (x ∷ xs) is h = step (f x) refl (or-cases (same_id x id) (has-id id xs) h) (own-kept f id xs is)
  where
    step : (b : Bool) → f x ≡ b → (same_id x id ≡ true) ⊎ Has id xs → (Has id xs → Has id (filter f xs)) → Has id (cond b (x ∷ filter f xs) (filter f xs))
    step true e (inl same) rec = or-first (same_id x id) (has-id id (filter f xs)) same
    step true e (inr later) rec = or-second (same_id x id) (has-id id (filter f xs)) (rec later)
    step false e (inl same) rec = absurd (true-false is (ap f (sym (id-same x id same)) ∙ e))
    step false e (inr later) rec = rec later

module _ (left : ℕ) (tree : Node) where
  abbrev all : List Stop
  all = stops left tree

  -- a scope of the tree declares in this context
  abbrev There : Id → Type 0
  There id = list_any (λ stop. has_context id.1 (own_contexts stop)) all ≡ true

  abbrev IsThere : Scope → Type 0
  IsThere w = (id : Id) → has_context id.1 (w id.0) ≡ true → There id

  abbrev AllThere : List Scope → Type 0
  AllThere [] = Unit {0}
  AllThere (w ∷ ws) = IsThere w × AllThere ws

  last-there : (ws : List Scope) (w : Scope) → AllThere ws → IsThere w → AllThere (ws ++ w ∷ [])
  last-there [] w among h = (h, tt)
  last-there (v ∷ ws) w among h = (among.0, last-there ws w among.1 h)

  child-there : (opened covered : Bool) (ws : List Scope) (w : Scope) → AllThere ws → (opened ≡ true → IsThere w) → AllThere (cond (opened && covered) (ws ++ w ∷ []) ws)
  child-there true true ws w among h = last-there ws w among (h refl)
  child-there true false ws w among h = among
  child-there false covered ws w among h = among

  innermost-there : (ws : List Scope) → AllThere ws → IsThere (innermost ws)
  innermost-there [] among id h = absurd (true-false h refl)
  innermost-there (w ∷ []) among id h = among.0 id h
  innermost-there (v ∷ w ∷ ws) among id h = innermost-there (w ∷ ws) among.1 id h

  -- what is looked for by a scope, it declares, or the parameters beside it do
  own-there : (s : Around) (n : Node) (id : Id) → opens s.role n ≡ true → AllThere s.scopes → (opens s.role n ≡ true → IsThere (own_scope s.role s.scopes n)) → Has id (declared_ids n (scope_soughts s.role (out-Node n).kind)) → There id
  own-there s n id opened among here h = by (is_body_block s.role (out-Node n).kind && has_context id.1 (innermost s.scopes id.0)) refl
    where
      ids : List Id
      ids = declared_ids n (scope_soughts s.role (out-Node n).kind)

      by : (b : Bool) → (is_body_block s.role (out-Node n).kind && has_context id.1 (innermost s.scopes id.0)) ≡ b → There id
      by true e = innermost-there s.scopes among id (and-right (is_body_block s.role (out-Node n).kind) (has_context id.1 (innermost s.scopes id.0)) e)
      by false e =
          let kept = own-kept (is_own (is_body_block s.role (out-Node n).kind) (innermost s.scopes)) id ids (ap not e) h in here opened id (contexts-agree id (own_ids s.role (innermost s.scopes) n) ∙ kept)

  abbrev Binds : Node → Type 0
  Binds n = (s : Around) (less : ℕ) → All (IsAmong all) (stops_at n s less) → AllThere s.scopes → (id : Id) → is_bound (sights_at n s) id ≡ true → Has id (declared_ids n s.soughts) ⊎ There id

  abbrev looked : Around → Node → List Sought
  looked s n = inner_soughts (opens s.role n) s.soughts (scope_soughts s.role (out-Node n).kind)

  abbrev AllBind : List Node → Type 0
  AllBind cs = (s : Around) (n : Node) (i less : ℕ) → All (IsAmong all) (stops_from (around_child s n) i cs (map stops_at cs) less) → ((j : ℕ) → AllThere (around_child s n j).scopes)
      → (id : Id) → is_bound (gathered_from Around Sight (around_child s n) i (map sights_at cs)) id ≡ true → Has id (from n (looked s n) i cs) ⊎ There id

  bound-cases : (id : Id) (xs ys : List Sight) → is_bound (xs ++ ys) id ≡ true → (is_bound xs id ≡ true) ⊎ (is_bound ys id ≡ true)
  bound-cases id xs ys h = or-cases (is_bound xs id) (is_bound ys id) (sym (list_any-append (λ (y : Sight). same_id y.id id && y.declares) xs ys) ∙ h)

  all-bind : (ns : List ((n : Node) × Binds n)) → AllBind (map (λ e. e.0) ns)
  all-bind [] s n i less among scopes id h = absurd (true-false h refl)
  all-bind (c ∷ cs) s n i less among scopes id h =
      let others = map (λ e. e.0) cs in
      let inside = around_child s n i in
      let next = less - context_count c.0 inside.role in
      let rest = stops_from (around_child s n) (suc i) others (map stops_at others) next in
      let one = declared_ids c.0 (soughts_in (looked s n) n i) in
      let two = from n (looked s n) (suc i) others in
      either (bound-cases id (sights_at c.0 inside) (gathered_from Around Sight (around_child s n) (suc i) (map sights_at others)) h)
      (λ here. either (c.1 inside less (All-first (IsAmong all) (stops_at c.0 inside less) rest among) (scopes i) id here) (λ a. inl (has-first id one two a)) inr)
      (λ later. either (all-bind cs s n (suc i) next (All-second (IsAmong all) (stops_at c.0 inside less) rest among) scopes id later) (λ a. inl (has-second id one two a)) inr)

  here-bound : (named d : Bool) (span : Span) (k : Kind) (id : Id) → is_bound (sight_by named d span k) id ≡ true → Has id (declared_by d k)
  here-bound false true span (kind.Ident sym_ ctxt optional) id h =
      either (or-cases (same_id (sym_, ctxt) id && true) false h) (λ a. or-first (same_id (sym_, ctxt) id) false (and-left (same_id (sym_, ctxt) id) true a)) (λ b. absurd (true-false b refl))
  here-bound false false span (kind.Ident sym_ ctxt optional) id h =
      either (or-cases (same_id (sym_, ctxt) id && false) false h) (λ a. absurd (true-false (and-right (same_id (sym_, ctxt) id) false a) refl)) (λ b. absurd (true-false b refl))
  here-bound false d span _ id h = absurd (true-false h refl)
  here-bound true d span k id h = absurd (true-false h refl)

  -- where a scope opens, what it looks for is its own
  split : (opened : Bool) (s : Around) (n : Node) (own : List Sought) (id : Id) → Has id (from n (inner_soughts opened s.soughts own) 0 (out-Node n).children)
      → Has id (declared_ids n s.soughts) ⊎ ((opened ≡ true) × Has id (declared_ids n own))
  split false s n own id h = inl (in-parts n s.soughts id (inr h))
  split true s n own id h = either (parts n s.soughts own id (in-parts n (s.soughts ++ own) id (inr h))) inl (λ b. inr (refl, b))

  layer-binds : (n : Node) → AllBind (out-Node n).children → Binds n
  layer-binds n children s less among scopes id h =
      let here : Stop = record { node = n; around = s; left = less } in
      let mine : IsAmong all here = stop-here (IsAmong all) n s less among in
      let own : opens s.role n ≡ true → IsThere (own_scope s.role s.scopes n) = λ is other g. mine (λ stop. has_context other.1 (own_contexts stop)) (own-has here other is g) in
      either (bound-cases id (sight_here s n) (gathered_from Around Sight (around_child s n) 0 (map sights_at (out-Node n).children)) (sym (ap (λ (xs : List Sight). is_bound xs id) (gathered-out Around Sight sight_here around_child n s)) ∙ h))
      (λ a. inl (in-parts n s.soughts id (inl (here-bound (is_name s.role) (list_any declares s.soughts) (out-Node n).span (out-Node n).kind id a))))
      (λ b. either (children s n 0 (less - taken s.role n) (stops-below (IsAmong all) n s less among)
      (λ j. child-there (opens s.role n) (covers s.role (out-Node n).kind j) s.scopes (own_scope s.role s.scopes n) scopes own) id b)
      (λ found. either (split (opens s.role n) s n (scope_soughts s.role (out-Node n).kind) id found) inl (λ o. inr (own-there s n id o.0 scopes own o.1))) inr)

  binds : (n : Node) → Binds n
  binds = ind-Node Binds (λ x y is.
      layer-binds (roll-Node x) (subst AllBind (ap (λ (z : Node-F Node). z.children) is ∙ sym (ap (λ (z : Node-F Node). z.children) (out-roll-Node x))) (all-bind y.children)))

  pub bound-there : (id : Id) → is_bound (sights tree) id ≡ true → There id
  bound-there id h = either (binds tree nowhere left (all-among all) tt id h) (λ none. absurd (none-there tree id none)) (λ there. there)

-- a context in which no scope declares is none of a binding

none-any : (ctxt : ℕ) (ss : List Stop) → All (λ (stop : Stop). has_context ctxt (own_contexts stop) ≡ false) ss → list_any (λ stop. has_context ctxt (own_contexts stop)) ss ≡ false
none-any ctxt [] h = refl
none-any ctxt (s ∷ ss) h =
    (λ i. All-head (λ (stop : Stop). has_context ctxt (own_contexts stop) ≡ false) s ss h i || none-any ctxt ss (All-tail (λ (stop : Stop). has_context ctxt (own_contexts stop) ≡ false) s ss h) i)

away : (left : ℕ) (tree : Node) (ctxt : ℕ) → All (λ (stop : Stop). has_context ctxt (own_contexts stop) ≡ false) (stops left tree) → (id : Id) → is_bound (sights tree) id ≡ true → id.1 ≢ ctxt
away left tree ctxt none id bound same =
    true-false (bound-there left tree id bound) (ap (λ (c : ℕ). list_any (λ stop. has_context c (own_contexts stop)) (stops left tree)) same ∙ none-any ctxt (stops left tree) none)

pub bound-inside : (free left : ℕ) (tree : Node) → All (IsScoped free) (stops left tree) → (id : Id) → is_bound (sights tree) id ≡ true → (id.1 ≢ 0) × (id.1 ≢ free)
bound-inside free left tree scoped id bound =
    (away left tree 0 (λ k d lt. (scoped k d lt).not_empty) id bound, away left tree free (λ k d lt. (scoped k d lt).not_free) id bound)
