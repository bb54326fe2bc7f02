-- Which children may be looked into for names that are declared.
use Rattle.std.proofs.Common.{◌≡◌, refl, sym, ap, ◌∙◌, ℕ, ◌==◌, List, [], ◌∷◌, ◌++◌, Option, Some, None, Bool, true, false, cond, not, ◌&&◌, ◌||◌}
use Rattle.std.specs.List.{list_any}
use Rattle.ecma_kind.specs.declared.kind.Kind.{Kind}
use Rattle.ecma_kind.specs.declared.kind.Kind.TheVariants as kind
use Rattle.ecma_tree.specs.declared.node.Node.{Node, out-Node}
use Rattle.ecma_tree.specs.Values.{is_value_where}
use Rattle.ecma_scope.specs.declared.form.Form.{Form}
use Rattle.ecma_scope.specs.declared.form.Part.{Part}
use Rattle.ecma_scope.specs.declared.form.Part.TheVariants as part
use Rattle.ecma_scope.specs.declared.form.Sought.{Sought}
use Rattle.ecma_scope.specs.declared.role.Role.{Role}
use Rattle.ecma_scope.specs.declared.role.Role.TheVariants as role
use Rattle.ecma_scope.specs.Declarations.{holds_vars, in_default, in_item, in_member, in_name, in_scope, in_var, own_part, sought_by, sought_in}
use Rattle.ecma_scope.specs.Scopes.{is_ambient}
use Rattle.ecma_hygiene.specs.Ids.{found, is_name_part, scope_soughts, soughts_in, var_sought}
use Rattle.ecma_hygiene.specs.Sights.{inner_soughts}
use Rattle.ecma_hygiene.proofs.Roles.{seeks_name}
use Rattle.ecma_hygiene.proofs.Telling.{or-first, or-second, true-false}

-- where names of a pattern are looked for
abbrev pub in_pattern : Kind → ℕ → Bool
in_pattern kind.List i = true
in_pattern kind.BindingIdent i = i == 0
in_pattern kind.Param i = i == 0
in_pattern (kind.TsParamProp accessibility is_override readonly) i = i == 0
in_pattern (kind.VarDeclarator definite) i = i == 0
in_pattern (kind.ArrayPat optional) i = i == 0
in_pattern (kind.ObjectPat optional) i = i == 0
in_pattern kind.RestPat i = i == 0
in_pattern kind.AssignPat i = i == 0
in_pattern kind.AssignPatProp i = i == 0
in_pattern kind.KeyValuePatProp i = i == 1
in_pattern _ i = false

-- where names begin to be looked for
abbrev pub begins : Kind → ℕ → Bool
begins (kind.ImportNamedSpecifier t) i = i == 0
begins kind.ImportDefaultSpecifier i = true
begins kind.ImportStarAsSpecifier i = true
begins (kind.TsImportEqualsDecl e t) i = i == 0
begins (kind.VarDecl w d) i = true
begins (kind.FnDecl d) i = i == 0
begins (kind.ClassDecl d) i = i == 0
begins (kind.TsEnumDecl d c) i = i == 0
begins (kind.TsModuleDecl d g) i = i == 0
begins (kind.TsNamespaceDecl d g) i = i == 0
begins kind.TsEnumMember i = i == 0
begins kind.FnExpr i = i == 0
begins kind.ClassExpr i = i == 0
begins kind.CatchClause i = i == 0
begins (kind.Function g a) i = i == 0
begins (kind.ArrowExpr a g) i = i == 0
begins (kind.Constructor a o) i = i == 1
begins kind.SetterProp i = i == 2
begins _ i = false

-- where names may be looked for, if they may be in the node
abbrev pub may_name : Kind → ℕ → Bool → Bool
may_name k i named = begins k i || (in_pattern k i && named)

at-name : (b : Bool) (s : Sought) → seeks_name (cond b (Some s) None) ≡ true → b ≡ true
at-name true s h = refl
at-name false s h = h

at-none : (b : Bool) (s : Sought) → is_name_part s.part ≡ false → seeks_name (cond b (Some s) None) ≡ true → ⊥
at-none true s e h = absurd (cc)
at-none false s e h = absurd (cc)

at-value : (value b : Bool) (s : Sought) → seeks_name (cond value (cond b (Some s) None) None) ≡ true → b ≡ true
at-value true b s h = at-name b s h
at-value false b s h = absurd (cc)

in-scope : (stays value : Bool) (k : Kind) (i : ℕ) → seeks_name (in_scope stays value k i) ≡ true → begins k i ≡ true
unfolding in_scope
in-scope stays value kind.SwitchStmt i h = absurd (at-none (i == 1) _ refl h)
in-scope stays value kind.ForStmt i h = absurd (at-none (i == 0) _ refl h)
in-scope stays value kind.ForInStmt i h = absurd (at-none (i == 0) _ refl h)
in-scope stays value (kind.ForOfStmt a) i h = absurd (at-none (i == 0) _ refl h)
in-scope stays value kind.CatchClause i h = at-name (i == 0) _ h
in-scope stays value (kind.Function g a) i h = at-name (i == 0) _ h
in-scope stays value (kind.ArrowExpr a g) i h = at-name (i == 0) _ h
in-scope stays value (kind.Constructor a o) i h = at-name (i == 1) _ h
in-scope stays value kind.SetterProp i h = at-name (i == 2) _ h
in-scope stays value kind.FnExpr i h = at-name (i == 0) _ h
in-scope stays value kind.ClassExpr i h = at-name (i == 0) _ h
in-scope stays value (kind.TsEnumDecl d c) i h = absurd (at-none (i == 1) _ refl h)
in-scope stays value (kind.TsNamespaceDecl d g) i h = at-value value (i == 0) _ h
in-scope stays value _ i h = absurd (cc)

in-item : (stays value : Bool) (k : Kind) (i : ℕ) → seeks_name (in_item stays value k i) ≡ true → begins k i ≡ true
unfolding in_item
in-item stays value kind.SwitchCase i h = absurd (at-none (i == 1) _ refl h)
in-item stays value (kind.ImportDecl t) i h = absurd (at-none (i == 0) _ refl h)
in-item stays value (kind.ImportNamedSpecifier t) i h = at-name (i == 0) _ h
in-item stays value kind.ImportDefaultSpecifier i h = refl
in-item stays value kind.ImportStarAsSpecifier i h = refl
in-item stays value (kind.TsImportEqualsDecl e t) i h = at-name (i == 0) _ h
in-item stays value (kind.VarDecl w d) i h = refl
in-item stays value (kind.FnDecl d) i h = at-name (i == 0) _ h
in-item stays value (kind.ClassDecl d) i h = at-name (i == 0) _ h
in-item stays value (kind.TsEnumDecl d c) i h = at-name (i == 0) _ h
in-item stays value (kind.TsModuleDecl d false) i h = at-value value (i == 0) _ h
in-item stays value (kind.TsModuleDecl d true) i h = absurd (cc)
in-item stays value _ i h = absurd (cc)

in-default : (stays value : Bool) (k : Kind) (i : ℕ) → seeks_name (in_default stays value k i) ≡ true → begins k i ≡ true
unfolding in_default
in-default stays value kind.FnExpr i h = at-name (i == 0) _ h
in-default stays value kind.ClassExpr i h = at-name (i == 0) _ h
in-default stays value _ i h = absurd (cc)

in-member : (stays : Bool) (k : Kind) (i : ℕ) → seeks_name (in_member stays k i) ≡ true → begins k i ≡ true
unfolding in_member
in-member stays kind.TsEnumMember i h = at-name (i == 0) _ h
in-member stays _ i h = absurd (cc)

in-var : (stays : Bool) (k : Kind) (i : ℕ) → seeks_name (in_var stays k) ≡ true → begins k i ≡ true
unfolding in_var
in-var stays (kind.VarDecl w d) i h = refl
in-var stays _ i h = absurd (cc)

in-name : (f : Form) (stays : Bool) (k : Kind) (i : ℕ) → seeks_name (in_name f stays k i) ≡ true → in_pattern k i ≡ true
unfolding in_name
in-name f stays kind.List i h = refl
in-name f stays kind.BindingIdent i h = at-name (i == 0) _ h
in-name f stays kind.Param i h = at-name (i == 0) _ h
in-name f stays (kind.TsParamProp a o r) i h = at-name (i == 0) _ h
in-name f stays (kind.VarDeclarator d) i h = at-name (i == 0) _ h
in-name f stays (kind.ArrayPat o) i h = at-name (i == 0) _ h
in-name f stays (kind.ObjectPat o) i h = at-name (i == 0) _ h
in-name f stays kind.RestPat i h = at-name (i == 0) _ h
in-name f stays kind.AssignPat i h = at-name (i == 0) _ h
in-name f stays kind.AssignPatProp i h = at-name (i == 0) _ h
in-name f stays kind.KeyValuePatProp i h = at-name (i == 1) _ h
in-name f stays _ i h = absurd (cc)

-- names are looked for, in whatever form
abbrev pub any_name : List Sought → Bool
any_name ss = list_any (λ s. is_name_part s.part) ss

both : (a b : Bool) → a ≡ true → b ≡ true → a && b ≡ true
both true b e f = f
both false b e f = e

sought-name : (p : Part) (stays value : Bool) (k : Kind) (i : ℕ) (named : Bool) → (is_name_part p ≡ true → named ≡ true) → seeks_name (sought_by p stays value k i) ≡ true → may_name k i named ≡ true
sought-name part.Scope stays value k i named n h = or-first (begins k i) _ (in-scope stays value k i h)
sought-name part.Item stays value k i named n h = or-first (begins k i) _ (in-item stays value k i h)
sought-name part.Default stays value k i named n h = or-first (begins k i) _ (in-default stays value k i h)
sought-name part.Member stays value k i named n h = or-first (begins k i) _ (in-member stays k i h)
sought-name part.Var stays value k i named n h = or-first (begins k i) _ (in-var stays k i h)
sought-name (part.Name f) stays value k i named n h = or-second (begins k i) _ (both (in_pattern k i) named (in-name f stays k i h) (n refl))

found-name : (o : Option Sought) → any_name (found o) ≡ true → seeks_name o ≡ true
found-name (Some s) h = go (is_name_part s.part) h
  where
    go : (b : Bool) → b || false ≡ true → b ≡ true
    go true h = refl
    go false h = h
found-name None h = absurd (cc)

append-cases : (xs ys : List Sought) (A : Type 0) → (any_name xs ≡ true → A) → (any_name ys ≡ true → A) → any_name (xs ++ ys) ≡ true → A
append-cases [] ys A f g h = g h
append-cases (x ∷ xs) ys A f g h = go (is_name_part x.part) refl (append-cases xs ys A (λ e. f (or-second (is_name_part x.part) (any_name xs) e)) g) h
  where
    go : (b : Bool) → is_name_part x.part ≡ b → (any_name (xs ++ ys) ≡ true → A) → is_name_part x.part || any_name (xs ++ ys) ≡ true → A
    go true e rec h = f (or-first (is_name_part x.part) (any_name xs) e)
    go false e rec h = rec (ap (λ b. b || any_name (xs ++ ys)) (sym e) ∙ h)

pub soughts-name : (ss : List Sought) (n : Node) (i : ℕ) (named : Bool) → (any_name ss ≡ true → named ≡ true) → any_name (soughts_in ss n i) ≡ true → may_name (out-Node n).kind i named ≡ true
unfolding sought_in
soughts-name [] n i named h e = absurd (cc)
soughts-name (s ∷ ss) n i named h e =
    append-cases (found (sought_in s n i)) (soughts_in ss n i) (may_name (out-Node n).kind i named ≡ true)
    (λ f. sought-name s.part s.stays (is_value_where s.stays n) (out-Node n).kind i named (λ p. h (or-first (is_name_part s.part) (any_name ss) p)) (found-name (sought_in s n i) f))
    (soughts-name ss n i named (λ p. h (or-second (is_name_part s.part) (any_name ss) p))) e

own-none : (r : Role) → is_name_part (own_part r) ≡ true → ⊥
own-none role.Default h = absurd (cc)
own-none _ h = absurd (cc)

scope-none : (r : Role) (k : Kind) → any_name (scope_soughts r k) ≡ true → ⊥
scope-none r k h = go (is_name_part (own_part r)) refl (holds_vars r k) h
  where
    go : (b : Bool) → is_name_part (own_part r) ≡ b → (v : Bool) → is_name_part (own_part r) || any_name (var_sought v (not (is_ambient r))) ≡ true → ⊥
    go true e v h = own-none r e
    go false e true h = absurd (true-false (ap (λ b. b || false) (sym e) ∙ h) refl)
    go false e false h = absurd (true-false (ap (λ b. b || false) (sym e) ∙ h) refl)

pub inner-name : (opened : Bool) (ss : List Sought) (r : Role) (k : Kind) (named : Bool) → (any_name ss ≡ true → named ≡ true) → any_name (inner_soughts opened ss (scope_soughts r k)) ≡ true → named ≡ true
inner-name true ss r k named h e = append-cases ss (scope_soughts r k) (named ≡ true) h (λ f. absurd (scope-none r k f)) e
inner-name false ss r k named h e = h e
