-- Roles in which a node stands without types where it stood with them: the same, or those of an expression whose types are gone.
use Rattle.std.proofs.Common.{◌≡◌, ◌⊎◌, inl, inr, ℕ, Bool, true, refl}
use Rattle.ecma_kind.specs.Sorts.{is_expr}
use Rattle.ecma_kind.specs.declared.kind.Kind.{Kind}
use Rattle.ecma_kind.specs.declared.kind.Kind.TheVariants as kind
use Rattle.ecma_scope.specs.declared.role.Role.{Role}
use Rattle.ecma_scope.specs.declared.role.Role.TheVariants as role
use Rattle.ecma_scope.specs.Declarations.{holds_vars, own_part}
use Rattle.ecma_scope.specs.Resolved.{is_name}
use Rattle.ecma_scope.specs.Scopes.{covers, is_ambient, opens_by, role_by}
use Rattle.ecma_hygiene.specs.Ids.{is_body_block}
use Rattle.ecma_hygiene.proofs.Telling.{true-false}
use Rattle.ecma_strip_scopes.specs.Apart.{is_free}

-- a node of this kind is the same to its scopes in both
pub record Alike (r r' : Role) (k : Kind) : Type 0 where
  pub name : is_name r' ≡ is_name r
  pub opened : (named : Bool) → opens_by r' k named ≡ opens_by r k named
  pub covered : (i : ℕ) → covers r' k i ≡ covers r k i
  pub inner : (sourced : Bool) (i : ℕ) → role_by r' k sourced i ≡ role_by r k sourced i
  pub own : own_part r' ≡ own_part r
  pub vars : holds_vars r' k ≡ holds_vars r k
  pub body : is_body_block r' k ≡ is_body_block r k
  pub ambient : is_ambient r' ≡ is_ambient r
  pub blocks : r' ≡ role.Body → (r ≡ role.Body) ⊎ ((r ≡ role.Plain) × (is_expr k ≡ true))
  pub free : is_free r ≡ true → is_free r' ≡ true

pub alike-same : (r : Role) (k : Kind) → Alike r r k
alike-same r k = record {
  name = refl;
  opened = λ named. refl;
  covered = λ i. refl;
  inner = λ sourced i. refl;
  own = refl;
  vars = refl;
  body = refl;
  ambient = refl;
  blocks = λ is. inl is;
  free = λ h. h;
}

body-opens : (k : Kind) (named : Bool) → opens_by role.Body k named ≡ opens_by role.Plain k named
unfolding opens_by
body-opens kind.FnExpr named = refl
body-opens _ named = refl

body-covers : (k : Kind) (i : ℕ) → covers role.Body k i ≡ covers role.Plain k i
unfolding covers
body-covers kind.ClassExpr i = refl
body-covers _ i = refl

body-inner : (k : Kind) (sourced : Bool) (i : ℕ) → role_by role.Body k sourced i ≡ role_by role.Plain k sourced i
unfolding role_by
body-inner kind.List sourced i = refl
body-inner _ sourced i = refl

body-vars : (k : Kind) → is_expr k ≡ true → holds_vars role.Body k ≡ holds_vars role.Plain k
unfolding holds_vars
body-vars kind.BlockStmt h = absurd (true-false h refl)
body-vars _ h = refl

body-block : (k : Kind) → is_expr k ≡ true → is_body_block role.Body k ≡ is_body_block role.Plain k
body-block kind.BlockStmt h = absurd (true-false h refl)
body-block _ h = refl

-- an expression whose types are gone stands where they stood
pub alike-free : (r : Role) (k : Kind) → is_free r ≡ true → is_expr k ≡ true → Alike role.Plain r k
alike-free role.Plain k free expr = alike-same role.Plain k
alike-free role.Body k free expr = record {
  name = refl;
  opened = body-opens k;
  covered = body-covers k;
  inner = body-inner k;
  own = refl;
  vars = body-vars k expr;
  body = body-block k expr;
  ambient = refl;
  blocks = λ is. inr (refl, expr);
  free = λ h. refl;
}
alike-free _ k free expr = absurd (true-false free refl)
