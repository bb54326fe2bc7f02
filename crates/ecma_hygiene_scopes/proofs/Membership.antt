-- The ids that a scope declares by its ids are those that it declares by forms, where these stay.
use Rattle.std.proofs.Common.{◌≡◌, ℕ, suc, Bool, true, false, ◌&&◌, ◌||◌, not, cond, filter, List, [], ◌∷◌, ◌++◌, map, Option, Some, None, refl, sym, ap, ap₂, ◌∙◌, subst, bytes_eq, nat_eq, eq-eqb}
use Rattle.std.specs.List.{list_any}
use Rattle.std.proofs.lemmas.Bool.{eqb-true}
use Rattle.std.proofs.lemmas.List.Folds.{list_any-append}
use Rattle.std.proofs.lemmas.Slice.Eq.{bytes_eq-Decides}
use Rattle.ecma_kind.specs.declared.kind.Kind.{Kind}
use Rattle.ecma_kind.specs.declared.kind.Kind.TheVariants as kind
use Rattle.ecma_tree.specs.declared.node.Node.{Node, Node-F, ind-Node, out-Node, roll-Node}
use Rattle.ecma_tree.specs.declared.node.Node.TheViews.{out-roll-Node}
use Rattle.ecma_tree.proofs.Layers.{from_leaves_out}
use Rattle.ecma_scope.specs.declared.form.Part.{Part}
use Rattle.ecma_scope.specs.declared.form.Part.TheVariants as part
use Rattle.ecma_scope.specs.declared.form.Sought.{Sought}
use Rattle.ecma_scope.specs.declared.role.Role.{Role}
use Rattle.ecma_scope.specs.Declarations.{holds_vars, own_part, sought_in}
use Rattle.ecma_scope.specs.Scopes.{is_ambient}
use Rattle.ecma_hygiene.specs.Ids.{Id, Scope, contexts_of, declared_by, declared_here, declared_ids, declares, found, has_context, innermost, is_body_block, is_own, own_ids, same_id, scope_soughts, soughts_in, var_sought}
use Rattle.ecma_hygiene.specs.Sights.{own_scope}
use Rattle.ecma_hygiene.specs.Walks.{gathered_from}
use Rattle.ecma_hygiene.proofs.Telling.{and-left, and-right, has-id}
use Rattle.ecma_hygiene.proofs.Walking.{gathered-out}
use Rattle.ecma_hygiene_scopes.specs.DeclaredIds.{DeclaredId, id_here, ids_at, ids_declared, ids_in, ids_step, scope_ids}

-- ---- tests

regroup : (a b c d : Bool) → ((a || b) || (c || d)) ≡ ((a || c) || (b || d))
regroup true b c d = refl
regroup false true true d = refl
regroup false true false d = refl
regroup false false c d = refl

any-or : {X : Type 0} (f g : X → Bool) (xs : List X) → list_any (λ x. f x || g x) xs ≡ (list_any f xs || list_any g xs)
any-or f g [] = refl
any-or f g (x ∷ xs) = ap (λ b. (f x || g x) || b) (any-or f g xs) ∙ regroup (f x) (g x) (list_any f xs) (list_any g xs)

any-same : {X : Type 0} (f g : X → Bool) (xs : List X) → ((x : X) → f x ≡ g x) → list_any f xs ≡ list_any g xs
any-same f g [] same = refl
any-same f g (x ∷ xs) same = ap₂ (λ a b. a || b) (same x) (any-same f g xs same)

or-none : (a : Bool) → (a || false) ≡ a
or-none true = refl
or-none false = refl

and-none : (a : Bool) → (a && false) ≡ false
and-none true = refl
and-none false = refl

share : (a b c : Bool) → (a || b) && c ≡ ((a && c) || (b && c))
share true b true = refl
share true true false = refl
share true false false = refl
share false b c = refl

pub id-same : (a b : Id) → same_id a b ≡ true → a ≡ b
id-same a b h =
    let texts : a.0 ≡ b.0 = (bytes_eq-Decides a.0 b.0).0 (and-left (bytes_eq a.0 b.0) (nat_eq a.1 b.1) h) in
    let ctxts : a.1 ≡ b.1 = eqb-true a.1 b.1 (and-right (bytes_eq a.0 b.0) (nat_eq a.1 b.1) h) in
    (λ j. (texts j, ctxts j))

module _ (b : Id) where
  -- a declared id that is this one, and stays
  abbrev pub is_kept : DeclaredId → Bool
  is_kept d = same_id d.id b && d.stays

  abbrev pub is_it : Id → Bool
  is_it other = same_id other b

  -- ---- what is declared in a node where several things are looked for

  here-by : (p : Part) (stays : Bool) (k : Kind) → list_any is_kept (id_here (record { part = p; stays = stays }) k) ≡ list_any is_it (declared_by (declares (record { part = p; stays = stays })) k)
  here-by (part.Name f) true (kind.Ident s c o) = ap (λ (x : Bool). x || false) (both (same_id (s, c) b))
    where
      both : (x : Bool) → (x && true) ≡ x
      both true = refl
      both false = refl
  here-by (part.Name f) false (kind.Ident s c o) = ap (λ (x : Bool). x || false) (and-none (same_id (s, c) b))
  here-by _ stays (kind.Ident s c o) = refl
  here-by (part.Name f) true _ = refl
  here-by (part.Name f) false _ = refl
  here-by _ stays _ = refl

  declared-or : (x y : Bool) (k : Kind) → list_any is_it (declared_by (x || y) k) ≡ (list_any is_it (declared_by x k) || list_any is_it (declared_by y k))
  declared-or true true (kind.Ident s c o) = twice (same_id (s, c) b)
    where
      twice : (x : Bool) → (x || false) ≡ ((x || false) || (x || false))
      twice true = refl
      twice false = refl
  declared-or true false (kind.Ident s c o) = sym (or-none (same_id (s, c) b || false))
  declared-or false y k = refl
  declared-or true true _ = refl
  declared-or true false _ = refl

  here-all : (ss : List Sought) (n : Node) → list_any is_it (declared_here ss n) ≡ list_any (λ (q : Sought). list_any is_kept (id_here q (out-Node n).kind)) ss
  here-all [] n = refl
  here-all (q ∷ qs) n =
      declared-or (declares q) (list_any declares qs) (out-Node n).kind
      ∙ ap₂ (λ (x y : Bool). x || y) (sym (here-by q.part q.stays (out-Node n).kind)) (here-all qs n)

  abbrev Agrees : Node → Type 0
  Agrees n = (ss : List Sought) → has-id b (declared_ids n ss) ≡ list_any (λ (q : Sought). list_any is_kept (ids_declared n q)) ss

  abbrev AllAgree : List Node → Type 0
  AllAgree ns = (n : Node) (ss : List Sought) (i : ℕ) → has-id b (gathered_from (List Sought) Id (soughts_in ss n) i (map declared_ids ns))
      ≡ list_any (λ (q : Sought). list_any is_kept (ids_in (sought_in q n) i (map ids_declared ns))) ss

  found-by : (o : Option Sought) (x : Node) → list_any (λ (q : Sought). list_any is_kept (ids_declared x q)) (found o) ≡ list_any is_kept (ids_at o (ids_declared x))
  found-by (Some q) x = or-none (list_any is_kept (ids_declared x q))
  found-by None x = refl

  found-all : (x n : Node) (ss : List Sought) (i : ℕ) → list_any (λ (q : Sought). list_any is_kept (ids_declared x q)) (soughts_in ss n i) ≡ list_any (λ (q : Sought). list_any is_kept (ids_at (sought_in q n i) (ids_declared x))) ss
  found-all x n [] i = refl
  found-all x n (q ∷ qs) i =
      list_any-append (λ (q : Sought). list_any is_kept (ids_declared x q)) (found (sought_in q n i)) (soughts_in qs n i)
      ∙ ap₂ (λ (x y : Bool). x || y) (found-by (sought_in q n i) x) (found-all x n qs i)

  none-any : (ss : List Sought) → list_any (λ (q : Sought). false) ss ≡ false
  none-any [] = refl
  none-any (q ∷ qs) = none-any qs

  all-agree : (ns : List ((n : Node) × Agrees n)) → AllAgree (map (λ e. e.0) ns)
  all-agree [] n ss i = sym (none-any ss)
  all-agree (x ∷ xs) n ss i =
      let ns : List Node = map (λ e. e.0) xs in
      list_any-append is_it (declared_ids x.0 (soughts_in ss n i)) (gathered_from (List Sought) Id (soughts_in ss n) (suc i) (map declared_ids ns))
      ∙ ap₂ (λ (x y : Bool). x || y) (x.1 (soughts_in ss n i) ∙ found-all x.0 n ss i) (all-agree xs n ss (suc i))
      ∙ sym (any-or (λ (q : Sought). list_any is_kept (ids_at (sought_in q n i) (ids_declared x.0))) (λ (q : Sought). list_any is_kept (ids_in (sought_in q n) (suc i) (map ids_declared ns))) ss)
      ∙ any-same _ _ ss (λ q. sym (list_any-append is_kept (ids_at (sought_in q n i) (ids_declared x.0)) (ids_in (sought_in q n) (suc i) (map ids_declared ns))))

  ids-out : (n : Node) (q : Sought) → ids_declared n q ≡ id_here q (out-Node n).kind ++ ids_in (sought_in q n) 0 (map ids_declared (out-Node n).children)
  ids-out n q = ap (λ f. f q) (from_leaves_out (Sought → List DeclaredId) ids_step n)

  layer-agrees : (n : Node) → AllAgree (out-Node n).children → Agrees n
  layer-agrees n children ss =
      let below : Sought → List DeclaredId = λ q. ids_in (sought_in q n) 0 (map ids_declared (out-Node n).children) in
      ap (list_any is_it) (gathered-out (List Sought) Id declared_here soughts_in n ss)
      ∙ list_any-append is_it (declared_here ss n) (gathered_from (List Sought) Id (soughts_in ss n) 0 (map declared_ids (out-Node n).children))
      ∙ ap₂ (λ (x y : Bool). x || y) (here-all ss n) (children n ss 0)
      ∙ sym (any-or (λ (q : Sought). list_any is_kept (id_here q (out-Node n).kind)) (λ (q : Sought). list_any is_kept (below q)) ss)
      ∙ any-same _ _ ss (λ q. sym (ap (list_any is_kept) (ids-out n q) ∙ list_any-append is_kept (id_here q (out-Node n).kind) (below q)))

  agrees : (n : Node) → Agrees n
  agrees = ind-Node Agrees (λ x y is.
      layer-agrees (roll-Node x) (subst AllAgree (ap (λ (z : Node-F Node). z.children) is ∙ sym (ap (λ (z : Node-F Node). z.children) (out-roll-Node x))) (all-agree y.children)))

  -- ---- the ids of a scope

  var-agrees : (t stays : Bool) (n : Node) → list_any (λ (q : Sought). list_any is_kept (ids_declared n q)) (var_sought t stays) ≡ list_any is_kept (cond t (ids_declared n (record { part = part.Var; stays = stays })) [])
  var-agrees true stays n = or-none (list_any is_kept (ids_declared n (record { part = part.Var; stays = stays })))
  var-agrees false stays n = refl

  scope-agrees : (r : Role) (n : Node) → has-id b (declared_ids n (scope_soughts r (out-Node n).kind)) ≡ list_any is_kept (scope_ids r n)
  scope-agrees r n =
      let own : List DeclaredId = ids_declared n (record { part = own_part r; stays = not (is_ambient r) }) in
      agrees n (scope_soughts r (out-Node n).kind)
      ∙ ap (λ (x : Bool). list_any is_kept own || x) (var-agrees (holds_vars r (out-Node n).kind) (not (is_ambient r)) n)
      ∙ sym (list_any-append is_kept own (cond (holds_vars r (out-Node n).kind) (ids_declared n (record { part = part.Var; stays = not (is_ambient r) })) []))

  pub turned : (x y : ℕ) → nat_eq x y ≡ nat_eq y x
  turned x y = go (nat_eq x y) (nat_eq y x) refl refl
    where
      no : true ≡ false → ⊥
      no e = cc

      go : (p q : Bool) → nat_eq x y ≡ p → nat_eq y x ≡ q → nat_eq x y ≡ nat_eq y x
      go true true h k = h ∙ sym k
      go false false h k = h ∙ sym k
      go true false h k = absurd (no (sym (eq-eqb y x (sym (eqb-true x y h))) ∙ k))
      go false true h k = absurd (no (sym (eq-eqb x y (sym (eqb-true y x k))) ∙ h))

  context-by : (t : Bool) (c : ℕ) (rest : List ℕ) → has_context b.1 (cond t (c ∷ []) [] ++ rest) ≡ ((t && nat_eq c b.1) || has_context b.1 rest)
  context-by true c rest = ap (λ (x : Bool). x || has_context b.1 rest) (turned b.1 c)
  context-by false c rest = refl

  pub contexts-agree : (ids : List Id) → has_context b.1 (contexts_of ids b.0) ≡ has-id b ids
  contexts-agree [] = refl
  contexts-agree (x ∷ xs) = context-by (bytes_eq x.0 b.0) x.1 (contexts_of xs b.0) ∙ ap (λ (y : Bool). same_id x b || y) (contexts-agree xs)

  filter-by : (f : Id → Bool) (x : Id) (rest : List Id) (t s : Bool) → f x ≡ t → same_id x b ≡ s → has-id b (cond t (x ∷ rest) rest) ≡ ((s && f b) || has-id b rest)
  filter-by f x rest true true is same = ap (λ (y : Bool). y || has-id b rest) same ∙ ap (λ (y : Bool). y || has-id b rest) (sym is ∙ ap f (id-same x b same))
  filter-by f x rest true false is same = ap (λ (y : Bool). y || has-id b rest) same
  filter-by f x rest false true is same = ap (λ (y : Bool). y || has-id b rest) (sym is ∙ ap f (id-same x b same))
  filter-by f x rest false false is same = refl

  filter-agrees : (f : Id → Bool) (ids : List Id) → has-id b (filter f ids) ≡ (has-id b ids && f b)
  filter-agrees f [] = refl
  filter-agrees f (x ∷ xs) =
      filter-by f x (filter f xs) (f x) (same_id x b) refl refl ∙ ap (λ (y : Bool). (same_id x b && f b) || y) (filter-agrees f xs) ∙ sym (share (same_id x b) (has-id b xs) (f b))

  -- a scope declares an id where it is one of these, stays, and is no parameter
  pub own-agrees : (r : Role) (scopes : List Scope) (n : Node)
      → has_context b.1 (own_scope r scopes n b.0) ≡ (list_any is_kept (scope_ids r n) && is_own (is_body_block r (out-Node n).kind) (innermost scopes) b)
  own-agrees r scopes n =
      contexts-agree (own_ids r (innermost scopes) n)
      ∙ filter-agrees (is_own (is_body_block r (out-Node n).kind) (innermost scopes)) (declared_ids n (scope_soughts r (out-Node n).kind))
      ∙ ap (λ (y : Bool). y && is_own (is_body_block r (out-Node n).kind) (innermost scopes) b) (scope-agrees r n)
