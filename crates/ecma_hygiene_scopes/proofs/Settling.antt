-- Parameters stay: around the body of a function no name goes.
use Rattle.std.proofs.Common.{◌≡◌, ℕ, suc, ◌==◌, Bool, true, false, ◌&&◌, ◌||◌, not, cond, List, [], ◌∷◌, ◌++◌, map, Option, Some, None, refl, sym, ap, ◌∙◌, subst}
use Rattle.std.specs.List.{All}
use Rattle.std.proofs.lemmas.Bool.{eqb-true}
use Rattle.std.proofs.lemmas.List.Elements.{All-append, All-cons, All-nil}
use Rattle.ecma_kind.specs.declared.kind.Kind.{Kind}
use Rattle.ecma_kind.specs.declared.kind.Kind.TheVariants as kind
use Rattle.ecma_tree.specs.declared.node.Node.{Node, Node-F, ind-Node, out-Node, roll-Node}
use Rattle.ecma_tree.specs.declared.node.Node.TheViews.{out-roll-Node}
use Rattle.ecma_tree.specs.Values.{is_value_where}
use Rattle.ecma_tree.proofs.Layers.{from_leaves_out}
use Rattle.ecma_scope.specs.declared.form.Declaration.{Declaration}
use Rattle.ecma_scope.specs.declared.form.Form.{Form}
use Rattle.ecma_scope.specs.declared.form.Form.TheVariants as form
use Rattle.ecma_scope.specs.declared.form.Part.{Part}
use Rattle.ecma_scope.specs.declared.form.Part.TheVariants as part
use Rattle.ecma_scope.specs.declared.form.Sought.{Sought}
use Rattle.ecma_scope.specs.declared.role.Role.{Role}
use Rattle.ecma_scope.specs.declared.role.Role.TheVariants as role
use Rattle.ecma_scope.specs.Declarations.{declarations, declared_here, declared_step, found_at, found_in, holds_vars, in_item, in_name, in_scope, is_own, names, own_part, sought_in, vars_of}
use Rattle.ecma_scope.specs.Resolved.{Scope as Frame, innermost}
use Rattle.ecma_scope.specs.Scopes.{at_child, covers, is_ambient, is_there, of_exports, of_specifier, opens, opens_by, passes_ambient, passes_in_list, role_by, role_in}
use Rattle.ecma_hygiene_scopes.specs.Seats.{all_names}
use Rattle.ecma_hygiene_scopes.proofs.Clashes.{Stays, all-filter}
use Rattle.ecma_hygiene_scopes.proofs.Goodness.{Good, fits-here, frame_of, frames_in, inner-last}
use Rattle.ecma_hygiene_scopes.proofs.Keeping.{all-kept}

-- ---- the names of a pattern stay where the pattern does

abbrev named : Form → Sought
named f = record { part = part.Name f; stays = true }

part-at : (f : Form) (b : Bool) (q : Sought) → ◌≡◌ {A = Option Sought} (cond b (Some (named f)) None) (Some q) → q ≡ named f
part-at f true q h = cc
part-at f false q h = cc

in-names : (f : Form) (k : Kind) (i : ℕ) (q : Sought) → in_name f true k i ≡ Some q → q ≡ named f
unfolding in_name
in-names f kind.List i q h = part-at f true q h
in-names f kind.BindingIdent i q h = part-at f (i == 0) q h
in-names f kind.Param i q h = part-at f (i == 0) q h
in-names f (kind.TsParamProp a o r) i q h = part-at f (i == 0) q h
in-names f (kind.VarDeclarator d) i q h = part-at f (i == 0) q h
in-names f (kind.ArrayPat o) i q h = part-at f (i == 0) q h
in-names f (kind.ObjectPat o) i q h = part-at f (i == 0) q h
in-names f kind.RestPat i q h = part-at f (i == 0) q h
in-names f kind.AssignPat i q h = part-at f (i == 0) q h
in-names f kind.AssignPatProp i q h = part-at f (i == 0) q h
in-names f kind.KeyValuePatProp i q h = part-at f (i == 1) q h
in-names f _ i q h = cc

none-some : (q : Sought) → ◌≡◌ {A = Option Sought} None (Some q) → ⊥
none-some q h = cc

declared-out : (m : Node) (q : Sought) → declarations m q ≡ declared_here q (out-Node m).kind ++ found_in (sought_in q m) 0 (map declarations (out-Node m).children)
declared-out m q = ap (λ f. f q) (from_leaves_out (Sought → List Declaration) declared_step m)

module _ (f : Form) where
  abbrev Stay : Node → Type 0
  Stay m = All Stays (declarations m (named f))

  abbrev AllStay : List Node → Type 0
  AllStay ms = (into : ℕ → Option Sought) (i : ℕ) → ((j : ℕ) (q : Sought) → into j ≡ Some q → q ≡ named f) → All Stays (found_in into i (map declarations ms))

  at-stays : (m : Node) → Stay m → (o : Option Sought) → ((q : Sought) → o ≡ Some q → q ≡ named f) → All Stays (found_at o (declarations m))
  at-stays m stay (Some q) is = subst (λ (z : Sought). All Stays (declarations m z)) (sym (is q refl)) stay
  at-stays m stay None is = All-nil Stays

  all-stay : (ms : List ((m : Node) × Stay m)) → AllStay (map (λ e. e.0) ms)
  all-stay [] into i is = All-nil Stays
  all-stay (m ∷ ms) into i is =
      All-append Stays (found_at (into i) (declarations m.0)) (found_in into (suc i) (map declarations (map (λ e. e.0) ms))) (at-stays m.0 m.1 (into i) (is i)) (all-stay ms into (suc i) is)

  here-stays : (k : Kind) → All Stays (declared_here (named f) k)
  unfolding declared_here
  here-stays (kind.Ident s c o) = All-cons Stays _ [] refl (All-nil Stays)
  here-stays _ = All-nil Stays

  layer-stays : (m : Node) → AllStay (out-Node m).children → Stay m
  unfolding sought_in
  layer-stays m children =
      subst (All Stays) (sym (declared-out m (named f)))
      (All-append Stays (declared_here (named f) (out-Node m).kind) (found_in (sought_in (named f) m) 0 (map declarations (out-Node m).children)) (here-stays (out-Node m).kind)
      (children (sought_in (named f) m) 0 (λ j q h. in-names f (out-Node m).kind j q h)))

  names-stay : (m : Node) → Stay m
  names-stay = ind-Node Stay (λ x y is.
      layer-stays (roll-Node x) (subst AllStay (ap (λ (z : Node-F Node). z.children) is ∙ sym (ap (λ (z : Node-F Node). z.children) (out-roll-Node x))) (all-stay y.children)))

  each-stays : (ms : List Node) → AllStay ms
  each-stays [] into i is = All-nil Stays
  each-stays (m ∷ ms) into i is =
      All-append Stays (found_at (into i) (declarations m)) (found_in into (suc i) (map declarations ms)) (at-stays m (names-stay m) (into i) (is i)) (each-stays ms into (suc i) is)

-- ---- what has a body

pub record HasBody (r : Role) (k : Kind) (i : ℕ) : Type 0 where
  pub opens : (there : Bool) → opens_by r k there ≡ true
  pub covers : covers r k i ≡ true
  pub holds : holds_vars r k ≡ false
  pub seeks : (v : Bool) (j : ℕ) (q : Sought) → in_scope true v k j ≡ Some q → q ≡ named form.Parameter
  pub items : (v : Bool) (j : ℕ) → in_item true v k j ≡ None
  pub leaf : (p : Part) (s : Bool) → declared_here (record { part = p; stays = s }) k ≡ []

plain-body : role.Plain ≡ role.Body → ⊥
plain-body h = cc

child-index : (wanted i : ℕ) → at_child role.Body wanted i ≡ role.Body → (i == wanted) ≡ true
child-index wanted i h = by (i == wanted) h
  where
    by : (b : Bool) → cond b role.Body role.Plain ≡ role.Body → b ≡ true
    by true h = refl
    by false h = absurd (plain-body h)

at-second : (i : ℕ) → (i == 2) ≡ true → not (i == 0) ≡ true
at-second i h = ap (λ (n : ℕ). not (n == 0)) (eqb-true i 2 h)

at-third : (i : ℕ) → (i == 3) ≡ true → not (i == 0) ≡ true
at-third i h = ap (λ (n : ℕ). not (n == 0)) (eqb-true i 3 h)

no-list : (r : Role) → passes_in_list r ≡ role.Body → ⊥
no-list role.Sourced h = cc
no-list role.Ambient h = cc
no-list _ h = cc

no-child : (r : Role) (wanted i : ℕ) → (r ≡ role.Body → ⊥) → at_child r wanted i ≡ role.Body → ⊥
no-child r wanted i never h = by (i == wanted) h
  where
    by : (b : Bool) → cond b r role.Plain ≡ role.Body → ⊥
    by true h = never h
    by false h = plain-body h

no-name : role.Name ≡ role.Body → ⊥
no-name h = cc

no-specifier : (r : Role) (i : ℕ) → of_specifier r i ≡ role.Body → ⊥
no-specifier role.Sourced i h = cc
no-specifier _ i h = no-child role.Name 1 i no-name h

no-exports : (b : Bool) (i : ℕ) → of_exports b i ≡ role.Body → ⊥
no-exports true i h = no-child role.Sourced 0 i (λ is. cc) h
no-exports false i h = plain-body h

no-ambient : (b : Bool) → passes_ambient b ≡ role.Body → ⊥
no-ambient true h = cc
no-ambient false h = plain-body h

has-body : (r : Role) (k : Kind) (sourced : Bool) (i : ℕ) → role_by r k sourced i ≡ role.Body → HasBody r k i
unfolding role_by opens_by covers holds_vars in_scope in_item declared_here
has-body r (kind.Function g a) sourced i h =
    record { opens = λ t. refl; covers = refl; holds = refl; seeks = λ v j q is. part-at form.Parameter (j == 0) q is; items = λ v j. refl; leaf = λ p s. refl }
has-body r (kind.ArrowExpr a g) sourced i h =
    record { opens = λ t. refl; covers = refl; holds = refl; seeks = λ v j q is. part-at form.Parameter (j == 0) q is; items = λ v j. refl; leaf = λ p s. refl }
has-body r (kind.Constructor a o) sourced i h =
    record { opens = λ t. refl; covers = refl; holds = refl; seeks = λ v j q is. part-at form.Parameter (j == 1) q is; items = λ v j. refl; leaf = λ p s. refl }
has-body r kind.GetterProp sourced i h =
    record { opens = λ t. refl; covers = at-second i (child-index 2 i h); holds = refl; seeks = λ v j q is. absurd (none-some q is); items = λ v j. refl; leaf = λ p s. refl }
has-body r kind.SetterProp sourced i h =
    record { opens = λ t. refl; covers = at-third i (child-index 3 i h); holds = refl; seeks = λ v j q is. part-at form.Parameter (j == 2) q is; items = λ v j. refl; leaf = λ p s. refl }
has-body r kind.List sourced i h = absurd (no-list r h)
has-body r kind.LabeledStmt sourced i h = absurd (no-child role.Name 0 i no-name h)
has-body r kind.BreakStmt sourced i h = absurd (no-name h)
has-body r kind.ContinueStmt sourced i h = absurd (no-name h)
has-body r (kind.ImportNamedSpecifier t) sourced i h = absurd (no-child role.Name 1 i no-name h)
has-body r (kind.ExportNamedSpecifier t) sourced i h = absurd (no-specifier r i h)
has-body r kind.ExportNamespaceSpecifier sourced i h = absurd (no-name h)
has-body r kind.ExportDefaultSpecifier sourced i h = absurd (no-name h)
has-body r (kind.NamedExport t) sourced i h = absurd (no-exports sourced i h)
has-body r kind.StaticBlock sourced i h = cc
has-body r kind.CatchClause sourced i h = absurd (no-child role.CatchBody 1 i (λ is. cc) h)
has-body r kind.ExportDefaultDecl sourced i h = cc
has-body r kind.ExportDecl sourced i h = absurd (no-ambient (is_ambient r) h)
has-body r (kind.TsModuleDecl d g) sourced i h = absurd (no-ambient (d || is_ambient r) h)
has-body r (kind.TsNamespaceDecl d g) sourced i h = absurd (no-ambient (d || is_ambient r) h)
has-body r kind.TsModuleBlock sourced i h = absurd (no-ambient (is_ambient r) h)
has-body r _ sourced i h = absurd (plain-body h)

-- ---- around a body

-- around the body of a function no name goes
abbrev pub Settled : Role → (List ℕ → Option Bool) → Type 0
Settled r around = r ≡ role.Body → (text : List ℕ) → around text ≡ Some false → ⊥

pub settled-root : Settled role.Root (λ text. None)
settled-root is text h = cc

module _ (m : Node) (r : Role) (i : ℕ) (has : HasBody r (out-Node m).kind i) where
  abbrev scope_of_part : Part → Sought
  scope_of_part p = record { part = p; stays = true }

  part-stays : (p : Part) → ((j : ℕ) (q : Sought) → sought_in (scope_of_part p) m j ≡ Some q → q ≡ named form.Parameter) → declared_here (scope_of_part p) (out-Node m).kind ≡ [] → All Stays (declarations m (scope_of_part p))
  part-stays p seeks leaf =
      subst (All Stays) (sym (declared-out m (scope_of_part p) ∙ ap (λ (ds : List Declaration). ds ++ found_in (sought_in (scope_of_part p) m) 0 (map declarations (out-Node m).children)) leaf))
      (each-stays form.Parameter (out-Node m).children (sought_in (scope_of_part p) m) 0 seeks)

  own-stays : (q : Role) → All Stays (declarations m (scope_of_part (own_part q)))
  unfolding sought_in
  own-stays role.Default = part-stays part.Item (λ j q is. absurd (none-some q (sym (has.items (is_value_where true m) j) ∙ is))) (has.leaf part.Item true)
  own-stays _ = part-stays part.Scope (λ j q is. has.seeks (is_value_where true m) j q is) (has.leaf part.Scope true)

  all-stays : is_ambient r ≡ false → All Stays (all_names r m)
  all-stays calm =
      subst (λ (b : Bool). All Stays (declarations m (record { part = own_part r; stays = not b }) ++ vars_of r (not b) m)) (sym calm)
      (subst (λ (b : Bool). All Stays (declarations m (record { part = own_part r; stays = true }) ++ cond b (declarations m (record { part = part.Var; stays = true })) [])) (sym has.holds)
      (All-append Stays (declarations m (record { part = own_part r; stays = true })) [] (own-stays r) (All-nil Stays)))

pub settled-inside : (top : ℕ) (m : Node) (r : Role) (frames : List Frame) (left : ℕ) → Good m r (innermost frames) → (i : ℕ) → Settled (role_in r m i) (innermost (frames_in top m r frames left i))
settled-inside top m r frames left good i is text h =
    let has : HasBody r (out-Node m).kind i = has-body r (out-Node m).kind (is_there (out-Node m).children 1) i is in
    let opened : opens r m ≡ true = has.opens (is_there (out-Node m).children 0) in
    let f : Frame = frame_of top m r frames left in
    let last : frames_in top m r frames left i ≡ frames ++ f ∷ [] = (λ j. cond (opened j && has.covers j) (frames ++ f ∷ []) frames) in
    all-kept (names r (innermost frames) m) (all-filter Stays (is_own r (innermost frames)) (all_names r m) (λ k d lt kept. all-stays m r i has ((fits-here m r (innermost frames) good).holder i is) k d lt)) text
    (sym (ap (λ (g : List ℕ → Option Bool). g text) (inner-last frames f)) ∙ sym (ap (λ (fs : List Frame). innermost fs text) last) ∙ h)
