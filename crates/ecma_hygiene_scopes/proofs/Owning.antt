-- What a scope declares has the context that the scope gives its text.
use Rattle.std.proofs.Common.{◌≡◌, ℕ, ◌-◌, ◌==◌, Bool, true, false, ◌&&◌, not, cond, List, [], ◌∷◌, ◌++◌, map, Option, Some, None, refl, sym, ap, ◌∙◌, subst}
use Rattle.std.specs.List.{All}
use Rattle.std.proofs.lemmas.Bool.{eqb-true}
use Rattle.std.proofs.lemmas.List.Elements.{All-append, All-nil}
use Rattle.ecma_kind.specs.declared.kind.Kind.{Kind}
use Rattle.ecma_kind.specs.declared.kind.Kind.TheVariants as kind
use Rattle.ecma_tree.specs.declared.node.Node.{Node, out-Node}
use Rattle.ecma_tree.specs.Values.{is_value_where}
use Rattle.ecma_scope.specs.declared.form.Part.{Part}
use Rattle.ecma_scope.specs.declared.form.Part.TheVariants as part
use Rattle.ecma_scope.specs.declared.form.Sought.{Sought}
use Rattle.ecma_scope.specs.declared.role.Role.{Role}
use Rattle.ecma_scope.specs.declared.role.Role.TheVariants as role
use Rattle.ecma_scope.specs.Declarations.{holds_vars, in_item, in_scope, in_var, own_part, sought_in}
use Rattle.ecma_scope.specs.Resolved.{Place, Scope as Frame, innermost, inside, is_name, kind_at, resolved_at, taken}
use Rattle.ecma_scope.specs.Scopes.{covers, is_ambient, is_default, is_there, opens, role_in}
use Rattle.ecma_hygiene.proofs.Roles.{seeks_name, sought-no-name}
use Rattle.ecma_hygiene.proofs.Telling.{true-false}
use Rattle.ecma_hygiene_scopes.specs.DeclaredIds.{DeclaredId, id_here, ids_declared, ids_in, scope_ids}
use Rattle.ecma_hygiene_scopes.proofs.Crossing.{Around, each-passes, named-child, none-in, some-next, var-here}
use Rattle.ecma_hygiene_scopes.proofs.Directly.{Given, Step, each-find, ids-resolved, place_in}
use Rattle.ecma_hygiene_scopes.proofs.Gone.{gone, kept-none}
use Rattle.ecma_hygiene_scopes.proofs.Goodness.{Fits, Good, fits-here, frame_of, frames_in, good-inside, is_class_expr}
use Rattle.ecma_hygiene_scopes.proofs.Passing.{VarNext, further, nothing, pattern, var-nexts, var-role}
use Rattle.ecma_hygiene_scopes.proofs.Sameness.{children_resolved, kind-resolved}
use Rattle.ecma_hygiene_scopes.proofs.Ways.{Way}

-- ---- what a scope looks for, it covers

at-index : (i w : ℕ) (b : Bool) → (i == w) ≡ b → (p : Part) (s : Bool) (q : Sought) → ◌≡◌ {A = Option Sought} (cond b (Some (record { part = p; stays = s })) None) (Some q) → i ≡ w
at-index i w true is p s q h = eqb-true i w is
at-index i w false is p s q h = cc

behind : (i w : ℕ) (p : Part) (s : Bool) (q : Sought) → (w == 0) ≡ false → ◌≡◌ {A = Option Sought} (cond (i == w) (Some (record { part = p; stays = s })) None) (Some q) → not (i == 0) ≡ true
behind i w p s q later h = ap (λ (j : ℕ). not (j == 0)) (at-index i w (i == w) refl p s q h) ∙ ap not later

scope-covers : (r : Role) (s v : Bool) (k : Kind) (i : ℕ) (q : Sought) → is_default r ≡ false → in_scope s v k i ≡ Some q → covers r k i ≡ true
unfolding in_scope covers
scope-covers r s v kind.GetterProp i q plain h = cc
scope-covers r s v kind.SetterProp i q plain h = behind i 2 _ _ q refl h
scope-covers r s v kind.SwitchStmt i q plain h = behind i 1 _ _ q refl h
scope-covers r s v (kind.ClassDecl d) i q plain h = cc
scope-covers r s v (kind.TsEnumDecl d c) i q plain h = behind i 1 _ _ q refl h
scope-covers r s v kind.ClassExpr i q plain h = ap (λ (b : Bool). not (b && (i == 0))) plain
scope-covers r s v _ i q plain h = refl

abbrev is_easy : Part → Bool
is_easy part.Item = true
is_easy part.Member = true
is_easy (part.Name f) = true
is_easy _ = false

easy-some : (p : Part) (s : Bool) (q : Sought) → is_easy p ≡ true → ◌≡◌ {A = Option Sought} (Some (record { part = p; stays = s })) (Some q) → is_easy q.part ≡ true
easy-some p s q is h = ap is_easy (sym (same h)) ∙ is
  where
    same : ◌≡◌ {A = Option Sought} (Some (record { part = p; stays = s })) (Some q) → p ≡ q.part
    same h = cc

easy-at : (b : Bool) (p : Part) (s : Bool) (q : Sought) → is_easy p ≡ true → ◌≡◌ {A = Option Sought} (cond b (Some (record { part = p; stays = s })) None) (Some q) → is_easy q.part ≡ true
easy-at true p s q is h = easy-some p s q is h
easy-at false p s q is h = cc

easy-both : (v b : Bool) (p : Part) (s : Bool) (q : Sought) → is_easy p ≡ true → ◌≡◌ {A = Option Sought} (cond v (cond b (Some (record { part = p; stays = s })) None) None) (Some q) → is_easy q.part ≡ true
easy-both true b p s q is h = easy-at b p s q is h
easy-both false b p s q is h = cc

scope-easy : (s v : Bool) (k : Kind) (i : ℕ) (q : Sought) → in_scope s v k i ≡ Some q → is_easy q.part ≡ true
unfolding in_scope
scope-easy s v (kind.Module x) i q h = easy-some _ _ q refl h
scope-easy s v (kind.Script x) i q h = easy-some _ _ q refl h
scope-easy s v kind.TsModuleBlock i q h = easy-some _ _ q refl h
scope-easy s v kind.BlockStmt i q h = easy-some _ _ q refl h
scope-easy s v kind.SwitchStmt i q h = easy-at (i == 1) _ _ q refl h
scope-easy s v kind.ForStmt i q h = easy-at (i == 0) _ _ q refl h
scope-easy s v kind.ForInStmt i q h = easy-at (i == 0) _ _ q refl h
scope-easy s v (kind.ForOfStmt a) i q h = easy-at (i == 0) _ _ q refl h
scope-easy s v kind.CatchClause i q h = easy-at (i == 0) _ _ q refl h
scope-easy s v (kind.Function g a) i q h = easy-at (i == 0) _ _ q refl h
scope-easy s v (kind.ArrowExpr a g) i q h = easy-at (i == 0) _ _ q refl h
scope-easy s v (kind.Constructor a o) i q h = easy-at (i == 1) _ _ q refl h
scope-easy s v kind.SetterProp i q h = easy-at (i == 2) _ _ q refl h
scope-easy s v kind.FnExpr i q h = easy-at (i == 0) _ _ q refl h
scope-easy s v kind.ClassExpr i q h = easy-at (i == 0) _ _ q refl h
scope-easy s v (kind.TsEnumDecl d c) i q h = easy-at (i == 1) _ _ q refl h
scope-easy s v (kind.TsNamespaceDecl d g) i q h = easy-both v (i == 0) _ _ q refl h
scope-easy s v _ i q h = cc

easy-way : (p : Part) (r : Role) → is_easy p ≡ true → ((f : _) → p ≡ part.Name f → is_name r ≡ false) → Way p r
easy-way part.Item r is name = tt
easy-way part.Member r is name = tt
easy-way (part.Name f) r is name = name f refl
easy-way _ r is name = absurd (true-false is refl)

holds-covers : (r : Role) (k : Kind) (i : ℕ) → holds_vars r k ≡ true → covers r k i ≡ true
unfolding holds_vars covers
holds-covers r (kind.Module s) i h = refl
holds-covers r (kind.Script s) i h = refl
holds-covers r kind.TsModuleBlock i h = refl
holds-covers r kind.BlockStmt i h = refl
holds-covers r _ i h = absurd (true-false h refl)

module _ (unresolved top : ℕ) (m : Node) (r : Role) (frames : List Frame) (left : ℕ) (opened : opens r m ≡ true) (good : Good m r (innermost frames)) where
  abbrev fits : Fits (record { role = r; node = m })
  fits = fits-here m r (innermost frames) good

  abbrev f : Frame
  f = frame_of top m r frames left

  abbrev more : List Frame
  more = frames ++ f ∷ []

  abbrev place : Place
  place = place_in unresolved top r frames

  abbrev G : DeclaredId → Type 0
  G = Given unresolved top more

  abbrev n : Node
  n = resolved_at unresolved top m place left

  covered : (i : ℕ) → covers r (out-Node m).kind i ≡ true → frames_in top m r frames left i ≡ more
  covered i is = (λ j. cond (opened j && is j) more frames)

  scope-here : (p : Part) (s : Bool) → (p ≡ part.Scope) → (k : Kind) → All G (id_here (record { part = p; stays = s }) k)
  scope-here p s is k = subst (λ (z : Part). All G (id_here (record { part = z; stays = s }) k)) (sym is) (by k)
    where
      by : (k : Kind) → All G (id_here (record { part = part.Scope; stays = s }) k)
      by (kind.Ident t c o) = All-nil G
      by _ = All-nil G

  item-here : (s : Bool) (k : Kind) → All G (id_here (record { part = part.Item; stays = s }) k)
  item-here s (kind.Ident t c o) = All-nil G
  item-here s _ = All-nil G

  -- the names of the scope but for `var`
  step : (s : Bool) → is_default r ≡ false → Step unresolved top (sought_in (record { part = part.Scope; stays = s }) m) (inside top place m left) more
  unfolding sought_in
  step s plain = record {
    role = role_in r m;
    place = λ j q h. ap (place_in unresolved top (role_in r m j)) (covered j (scope-covers r s (is_value_where s m) (out-Node m).kind j q plain h));
    way = λ j q h. easy-way q.part (role_in r m j) (scope-easy s (is_value_where s m) (out-Node m).kind j q h)
        (λ f is. sought-no-name (record { part = part.Scope; stays = s }) r m j (ap seeks_name h ∙ ap (λ (p : Part). seeks_name (Some (record { part = p; stays = q.stays }))) is));
  }

  scope-given : (s : Bool) → is_default r ≡ false → All G (ids_declared n (record { part = part.Scope; stays = s }))
  scope-given s plain =
      subst (All G) (sym (ids-resolved unresolved top m place left (record { part = part.Scope; stays = s })))
      (All-append G (id_here (record { part = part.Scope; stays = s }) (kind_at unresolved place (out-Node m).kind)) (ids_in (sought_in (record { part = part.Scope; stays = s }) m) 0 (map ids_declared (children_resolved unresolved top m place left)))
      (scope-here part.Scope s refl (kind_at unresolved place (out-Node m).kind))
      (each-find unresolved top (out-Node m).children (sought_in (record { part = part.Scope; stays = s }) m) (inside top place m left) more 0 (left - taken r m) (step s plain)))

  -- a class that is a default export declares nothing
  class-none : (k : Kind) (s v : Bool) (j : ℕ) → is_class_expr k ≡ true → in_item s v k j ≡ None
  unfolding in_item
  class-none kind.ClassExpr s v j h = refl
  class-none _ s v j h = absurd (true-false h refl)

  class-given : (s : Bool) → is_class_expr (out-Node m).kind ≡ true → All G (ids_declared n (record { part = part.Item; stays = s }))
  unfolding sought_in
  class-given s is =
      subst (All G) (sym (ids-resolved unresolved top m place left (record { part = part.Item; stays = s })))
      (All-append G (id_here (record { part = part.Item; stays = s }) (kind_at unresolved place (out-Node m).kind)) (ids_in (sought_in (record { part = part.Item; stays = s }) m) 0 (map ids_declared (children_resolved unresolved top m place left)))
      (item-here s (kind_at unresolved place (out-Node m).kind))
      (none-in unresolved top G (sought_in (record { part = part.Item; stays = s }) m) 0 (children_resolved unresolved top m place left) (λ j. class-none (out-Node m).kind s (is_value_where s m) j is)))

  own-by : (q : Role) → r ≡ q → (s : Bool) → All G (ids_declared n (record { part = own_part q; stays = s }))
  own-by role.Default is s = class-given s (fits.default is opened)
  own-by role.Plain is s = scope-given s (ap is_default is)
  own-by _ is s = scope-given s (ap is_default is)

  -- and its `var` names
  vars-around : is_ambient r ≡ false → holds_vars r (out-Node m).kind ≡ true → (next : VarNext (in_var true (out-Node m).kind)) → Around unresolved top (in_var true (out-Node m).kind) more (role_in r m) (frames_in top m r frames left) false f
  vars-around calm holds next = record {
    next = next;
    role = λ is j. var-role r (out-Node m).kind (is_there (out-Node m).children 1) j calm (some-next unresolved top (out-Node m).kind _ is);
    named = named-child unresolved top m r;
    same = λ j xs all known. subst (λ (z : List Frame). All (Given unresolved top z) xs) (covered j (holds-covers r (out-Node m).kind j holds)) all;
  }

  below : List DeclaredId
  below = ids_in (λ j. in_var true (out-Node m).kind) 0 (map ids_declared (children_resolved unresolved top m place left))

  never : {A : Type 0} → false ≡ true → A
  never h = absurd (true-false h refl)

  below-by : is_ambient r ≡ false → holds_vars r (out-Node m).kind ≡ true → VarNext (in_var true (out-Node m).kind) → All G below
  unfolding below
  below-by calm holds (nothing is) = none-in unresolved top G (λ j. in_var true (out-Node m).kind) 0 (children_resolved unresolved top m place left) (λ j. is)
  below-by calm holds (further is) =
      each-passes unresolved top (out-Node m).children (in_var true (out-Node m).kind) more (role_in r m) (frames_in top m r frames left) false f 0 (left - taken r m) (vars-around calm holds (further is))
      (good-inside top m r frames left good) (fits.nested (some-next unresolved top (out-Node m).kind _ is)) (λ h. never h)
  below-by calm holds (pattern s is) =
      each-passes unresolved top (out-Node m).children (in_var true (out-Node m).kind) more (role_in r m) (frames_in top m r frames left) false f 0 (left - taken r m) (vars-around calm holds (pattern s is))
      (good-inside top m r frames left good) (fits.nested (some-next unresolved top (out-Node m).kind _ is)) (λ h. never h)

  vars-given : is_ambient r ≡ false → holds_vars r (out-Node m).kind ≡ true → All G (ids_declared n (record { part = part.Var; stays = true }))
  unfolding sought_in below
  vars-given calm holds =
      subst (All G) (sym (ids-resolved unresolved top m place left (record { part = part.Var; stays = true })))
      (All-append G (id_here (record { part = part.Var; stays = true }) (kind_at unresolved place (out-Node m).kind)) below (var-here unresolved top (kind_at unresolved place (out-Node m).kind) more) (below-by calm holds (var-nexts (out-Node m).kind)))

  -- in an ambient scope none of them stays
  vars-by : (b : Bool) → is_ambient r ≡ b → holds_vars r (out-Node m).kind ≡ true → All G (ids_declared n (record { part = part.Var; stays = not b }))
  vars-by false calm holds = vars-given calm holds
  vars-by true ambient holds =
      let none = kept-none (ids_declared n (record { part = part.Var; stays = false })) (gone n (record { part = part.Var; stays = false }) refl) in
      λ k d lt stays. absurd (true-false stays (none k d lt))

  cond-given : (b : Bool) (xs : List DeclaredId) → (b ≡ true → All G xs) → All G (cond b xs [])
  cond-given true xs h = h refl
  cond-given false xs h = All-nil G

  holds-resolved : holds_vars r (out-Node n).kind ≡ holds_vars r (out-Node m).kind
  unfolding holds_vars
  holds-resolved = kind-resolved unresolved top (λ (k : Kind). holds_vars r k) (λ s t c d o. refl) m place left

  -- all that it declares
  pub own-given : All (Given unresolved top more) (scope_ids r (resolved_at unresolved top m place left))
  own-given =
      All-append G (ids_declared n (record { part = own_part r; stays = not (is_ambient r) })) (cond (holds_vars r (out-Node n).kind) (ids_declared n (record { part = part.Var; stays = not (is_ambient r) })) [])
      (own-by r refl (not (is_ambient r)))
      (cond-given (holds_vars r (out-Node n).kind) (ids_declared n (record { part = part.Var; stays = not (is_ambient r) }))
      (λ holds. vars-by (is_ambient r) refl (sym holds-resolved ∙ holds)))
