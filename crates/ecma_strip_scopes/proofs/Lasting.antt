-- Ids that last where the types of a tree go.
use Rattle.std.proofs.Common.{◌≡◌, ℕ, suc, arith, ◌==◌, Bool, true, false, ◌&&◌, not, cond, filter, List, [], ◌∷◌, ◌++◌, map, Option, Some, None, bytes_eq, codes, refl, sym, ap, ap₂, ◌∙◌, subst, slice_get}
use Rattle.std.proofs.lemmas.Bool.{eqb-true}
use Rattle.ecma_kind.specs.declared.kind.Kind.{Kind}
use Rattle.ecma_kind.specs.declared.kind.Kind.TheVariants as kind
use Rattle.ecma_tree.specs.declared.node.Node.{Node, out-Node}
use Rattle.ecma_tree.specs.Values.{is_value_where}
use Rattle.ecma_scope.specs.declared.form.Part.{Part}
use Rattle.ecma_scope.specs.declared.form.Part.TheVariants as part
use Rattle.ecma_scope.specs.declared.form.Sought.{Sought}
use Rattle.ecma_scope.specs.Declarations.{in_default, in_item, in_member, in_name, in_scope, in_var, sought_by, sought_in}
use Rattle.ecma_strip.specs.Staying.{if_there, is_this, is_this_by, is_this_ident, is_this_param, is_this_param_by}
use Rattle.ecma_hygiene.proofs.Telling.{true-false}
use Rattle.ecma_hygiene_scopes.specs.DeclaredIds.{DeclaredId, id_here, ids_at, ids_declared, ids_in}
use Rattle.ecma_hygiene_scopes.proofs.Directly.{ids-out}
use Rattle.ecma_strip_scopes.specs.Standing.{lasts}
use Rattle.ecma_hygiene_scopes.proofs.Gone.{kept}
use Rattle.ecma_strip_scopes.proofs.Standing.{none-all}

abbrev pub lasting : Bool → List DeclaredId → List DeclaredId
lasting receivers ds = filter (lasts receivers) ds

module _ (t : Bool) where
  pub lasting-append : (xs ys : List DeclaredId) → lasting t (xs ++ ys) ≡ lasting t xs ++ lasting t ys
  lasting-append [] ys = refl
  lasting-append (d ∷ ds) ys = ap (λ (zs : List DeclaredId). cond (lasts t d) (d ∷ zs) zs) (lasting-append ds ys) ∙ by (lasts t d)
    where
      by : (b : Bool) → cond b (d ∷ (lasting t ds ++ lasting t ys)) (lasting t ds ++ lasting t ys) ≡ cond b (d ∷ lasting t ds) (lasting t ds) ++ lasting t ys
      by true = refl
      by false = refl

  -- what does not stay does not last
  pub none-lasts : (ds : List DeclaredId) → kept ds ≡ [] → lasting t ds ≡ []
  none-lasts [] none = refl
  none-lasts (d ∷ ds) none = by d.stays refl none (none-lasts ds)
    where
      never : (b : Bool) → (b && false) ≡ false
      never true = refl
      never false = refl

      by : (b : Bool) → d.stays ≡ b → cond b (d ∷ kept ds) (kept ds) ≡ [] → (kept ds ≡ [] → lasting t ds ≡ []) → cond (lasts t d) (d ∷ lasting t ds) (lasting t ds) ≡ []
      by true is none rec = cc
      by false is none rec =
          ap (λ (z : Bool). cond z (d ∷ lasting t ds) (lasting t ds)) (ap (λ (s : Bool). not (t && bytes_eq d.id.0 (codes "this")) && s) is ∙ never (not (t && bytes_eq d.id.0 (codes "this")))) ∙ rec none

  here-by : (p : Part) (k : Kind) → not (t && is_this_ident k) ≡ true → lasting t (id_here (record { part = p; stays = true }) k) ≡ id_here (record { part = p; stays = true }) k
  here-by (part.Name f) (kind.Ident s c o) other = ap (λ (z : Bool). cond (z && true) (record { id = (s, c); form = f; stays = true } ∷ []) []) other
  here-by _ (kind.Ident s c o) other = refl
  here-by p _ other = refl

  -- what is declared as a value that stays lasts, if it is no `this`
  pub here-lasts : (q : Sought) (k : Kind) → q.stays ≡ true → not (t && is_this_ident k) ≡ true → lasting t (id_here q k) ≡ id_here q k
  here-lasts q k stay other =
      subst (λ (s : Bool). lasting t (id_here (record { part = q.part; stays = s }) k) ≡ id_here (record { part = q.part; stays = s }) k) (sym stay) (here-by q.part k other)

-- ---- a parameter `this` declares none that lasts

rest-none : (into : ℕ → Option Sought) (i : ℕ) (ns : List Node) → ((j : ℕ) → into (suc j) ≡ None) → ids_in into (suc i) (map ids_declared ns) ≡ []
rest-none into i [] none = refl
rest-none into i (n ∷ ns) none = ap (λ (o : Option Sought). ids_at o (ids_declared n) ++ ids_in into (suc (suc i)) (map ids_declared ns)) (none i) ∙ rest-none into (suc i) ns none

abbrev Goes : Node → Type 0
Goes n = (q : Sought) → lasting true (ids_declared n q) ≡ []

at-goes : (n : Node) → Goes n → (o : Option Sought) → lasting true (ids_at o (ids_declared n)) ≡ []
at-goes n goes (Some q) = goes q
at-goes n goes None = refl

first-goes : (into : ℕ → Option Sought) (ns : List Node) → ((j : ℕ) → into (suc j) ≡ None) → ((n : Node) → slice_get ns 0 ≡ Some n → Goes n) → lasting true (ids_in into 0 (map ids_declared ns)) ≡ []
first-goes into [] none goes = refl
first-goes into (n ∷ ns) none goes =
    lasting-append true (ids_at (into 0) (ids_declared n)) (ids_in into 1 (map ids_declared ns))
    ∙ ap₂ (λ (a b : List DeclaredId). a ++ b) (at-goes n (goes n refl) (into 0)) (ap (lasting true) (rest-none into 0 ns none))

-- a node whose names stand in its first child
outer-goes : (n : Node) (k : Kind) → (out-Node n).kind ≡ k → ((q : Sought) → id_here q k ≡ []) → ((p : Part) (s v : Bool) (j : ℕ) → sought_by p s v k (suc j) ≡ None)
    → ((c : Node) → slice_get (out-Node n).children 0 ≡ Some c → Goes c) → Goes n
unfolding sought_in
outer-goes n k is here none goes q =
    ap (lasting true) (ids-out n q ∙ ap (λ (ds : List DeclaredId). ds ++ ids_in (sought_in q n) 0 (map ids_declared (out-Node n).children)) (ap (id_here q) is ∙ here q))
    ∙ first-goes (sought_in q n) (out-Node n).children (λ j. ap (λ (z : Kind). sought_by q.part q.stays (is_value_where q.stays n) z (suc j)) is ∙ none q.part q.stays (is_value_where q.stays n) j) goes

no-ident : (s : List ℕ) (c : ℕ) (o : Bool) (p : Part) (stays v : Bool) (i : ℕ) → sought_by p stays v (kind.Ident s c o) i ≡ None
unfolding in_scope in_item in_default in_member in_var in_name
no-ident s c o part.Scope stays v i = refl
no-ident s c o part.Item stays v i = refl
no-ident s c o part.Default stays v i = refl
no-ident s c o part.Member stays v i = refl
no-ident s c o part.Var stays v i = refl
no-ident s c o (part.Name f) stays v i = refl

behind-zero : (j : ℕ) → (suc j == 0) ≡ false
behind-zero j = by (suc j == 0) refl
  where
    never : suc j ≡ 0 → ⊥
    never h = omega arith

    by : (b : Bool) → (suc j == 0) ≡ b → b ≡ false
    by false h = refl
    by true h = absurd (never (eqb-true (suc j) 0 h))

no-bound : (p : Part) (s v : Bool) (j : ℕ) → sought_by p s v kind.BindingIdent (suc j) ≡ None
unfolding in_scope in_item in_default in_member in_var in_name
no-bound part.Scope s v j = refl
no-bound part.Item s v j = refl
no-bound part.Default s v j = refl
no-bound part.Member s v j = refl
no-bound part.Var s v j = refl
no-bound (part.Name f) s v j = ap (λ (b : Bool). cond b (Some (record { part = part.Name f; stays = s })) None) (behind-zero j)

no-param : (p : Part) (s v : Bool) (j : ℕ) → sought_by p s v kind.Param (suc j) ≡ None
unfolding in_scope in_item in_default in_member in_var in_name
no-param part.Scope s v j = refl
no-param part.Item s v j = refl
no-param part.Default s v j = refl
no-param part.Member s v j = refl
no-param part.Var s v j = refl
no-param (part.Name f) s v j = ap (λ (b : Bool). cond b (Some (record { part = part.Name f; stays = s })) None) (behind-zero j)

name-here : (p : Part) (stays : Bool) (s : List ℕ) (c : ℕ) (o : Bool) → bytes_eq s (codes "this") ≡ true → lasting true (id_here (record { part = p; stays = stays }) (kind.Ident s c o)) ≡ []
name-here (part.Name f) stays s c o is = ap (λ (z : Bool). cond (not z && stays) (record { id = (s, c); form = f; stays = stays } ∷ []) []) is
name-here _ stays s c o is = refl

name-goes : (n : Node) → is_this_ident (out-Node n).kind ≡ true → Goes n
unfolding sought_in
name-goes n = by (out-Node n).kind refl
  where
    by : (k : Kind) → (out-Node n).kind ≡ k → is_this_ident k ≡ true → Goes n
    by (kind.Ident s c o) is this q =
        ap (lasting true) (ids-out n q)
        ∙ lasting-append true (id_here q (out-Node n).kind) (ids_in (sought_in q n) 0 (map ids_declared (out-Node n).children))
        ∙ ap₂ (λ (a b : List DeclaredId). a ++ b) (ap (λ (z : Kind). lasting true (id_here q z)) is ∙ name-here q.part q.stays s c o this)
        (ap (lasting true) (none-all (sought_in q n) 0 (out-Node n).children none))
      where
        none : (j : ℕ) → sought_in q n j ≡ None
        none j = ap (λ (z : Kind). sought_by q.part q.stays (is_value_where q.stays n) z j) is ∙ no-ident s c o q.part q.stays (is_value_where q.stays n) j
    by _ is this q = absurd (true-false this refl)

if-true : (o : Option Node) (test : Node → Bool) (c : Node) → if_there o test ≡ true → o ≡ Some c → test c ≡ true
if-true o test c is at = sym (ap (λ (z : Option Node). if_there z test) at) ∙ is

bound-goes : (n : Node) → is_this n ≡ true → Goes n
bound-goes n = by (out-Node n).kind refl
  where
    by : (k : Kind) → (out-Node n).kind ≡ k → is_this_by k n ≡ true → Goes n
    by kind.BindingIdent is this =
        outer-goes n kind.BindingIdent is (λ q. refl) no-bound (λ c at. name-goes c (if-true (slice_get (out-Node n).children 0) (λ x. is_this_ident (out-Node x).kind) c this at))
    by _ is this = absurd (true-false this refl)

pub param-goes : (n : Node) → is_this_param n ≡ true → Goes n
param-goes n = by (out-Node n).kind refl
  where
    by : (k : Kind) → (out-Node n).kind ≡ k → is_this_param_by k n ≡ true → Goes n
    by kind.Param is this = outer-goes n kind.Param is (λ q. refl) no-param (λ c at. bound-goes c (if-true (slice_get (out-Node n).children 0) is_this c this at))
    by _ is this = bound-goes n this
