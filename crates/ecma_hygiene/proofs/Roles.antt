-- What is declared is no label, and no name that a module has for others.
use Rattle.std.proofs.Common.{◌≡◌, ℕ, ◌==◌, Bool, true, false, ◌&&◌, not, cond, Option, Some, None, refl, sym, ap, ◌∙◌}
use Rattle.std.proofs.lemmas.Bool.{eqb-true}
use Rattle.ecma_kind.specs.declared.kind.Kind.{Kind}
use Rattle.ecma_kind.specs.declared.kind.Kind.TheVariants as kind
use Rattle.ecma_tree.specs.declared.node.Node.{Node, out-Node}
use Rattle.ecma_scope.specs.declared.form.Form.TheVariants as form
use Rattle.ecma_scope.specs.declared.form.Part.{Part}
use Rattle.ecma_scope.specs.declared.form.Part.TheVariants as part
use Rattle.ecma_scope.specs.declared.form.Sought.{Sought}
use Rattle.ecma_scope.specs.declared.role.Role.{Role}
use Rattle.ecma_scope.specs.declared.role.Role.TheVariants as role
use Rattle.ecma_scope.specs.Declarations.{in_default, in_item, in_member, in_name, in_scope, in_var, seek, seek_at, sought_by, sought_in}
use Rattle.ecma_scope.specs.Resolved.{is_name}
use Rattle.ecma_scope.specs.Scopes.{at_child, of_exports, passes_ambient, passes_in_list, role_by, role_in}
use Rattle.ecma_hygiene.specs.Ids.{is_name_part}

true-false : true ≡ false → ⊥
true-false e = cc

abbrev pub seeks_name : Option Sought → Bool
seeks_name (Some sought) = is_name_part sought.part
seeks_name None = false

in-list : (r : Role) → is_name (passes_in_list r) ≡ false
in-list role.Sourced = refl
in-list role.Ambient = refl
in-list _ = refl

ambient : (b : Bool) → is_name (passes_ambient b) ≡ false
ambient true = refl
ambient false = refl

at-child : (r : Role) (wanted i : ℕ) → is_name r ≡ false → is_name (at_child r wanted i) ≡ false
at-child r wanted i other = elim (i == wanted) as (λ b. is_name (cond b r role.Plain) ≡ false) [ true ↦ other | false ↦ refl ]

first-by : (b : Bool) (i : ℕ) (p : Part) (stays : Bool) → (i == 0) ≡ b → seeks_name (cond b (seek p stays) None) ≡ true → is_name (at_child role.Name 1 i) ≡ false
first-by true i p stays is h = ap (λ (j : ℕ). is_name (at_child role.Name 1 j)) (eqb-true i 0 is)
first-by false i p stays is h = absurd (true-false (sym h))

first-only : (i : ℕ) (p : Part) (stays : Bool) → seeks_name (seek_at 0 i p stays) ≡ true → is_name (at_child role.Name 1 i) ≡ false
first-only i p stays h = first-by (i == 0) i p stays refl h

-- the kinds with a child that is no identifier
none-labeled : (p : Part) (stays value : Bool) (i : ℕ) → seeks_name (sought_by p stays value kind.LabeledStmt i) ≡ false
unfolding in_name in_var in_item in_default in_scope in_member
none-labeled part.Scope stays value i = refl
none-labeled _ stays value i = refl

none-break : (p : Part) (stays value : Bool) (i : ℕ) → seeks_name (sought_by p stays value kind.BreakStmt i) ≡ false
unfolding in_name in_var in_item in_default in_scope in_member
none-break part.Scope stays value i = refl
none-break _ stays value i = refl

none-continue : (p : Part) (stays value : Bool) (i : ℕ) → seeks_name (sought_by p stays value kind.ContinueStmt i) ≡ false
unfolding in_name in_var in_item in_default in_scope in_member
none-continue part.Scope stays value i = refl
none-continue _ stays value i = refl

none-exported : (p : Part) (stays value t : Bool) (i : ℕ) → seeks_name (sought_by p stays value (kind.ExportNamedSpecifier t) i) ≡ false
unfolding in_name in_var in_item in_default in_scope in_member
none-exported part.Scope stays value t i = refl
none-exported _ stays value t i = refl

none-space : (p : Part) (stays value : Bool) (i : ℕ) → seeks_name (sought_by p stays value kind.ExportNamespaceSpecifier i) ≡ false
unfolding in_name in_var in_item in_default in_scope in_member
none-space part.Scope stays value i = refl
none-space _ stays value i = refl

none-default : (p : Part) (stays value : Bool) (i : ℕ) → seeks_name (sought_by p stays value kind.ExportDefaultSpecifier i) ≡ false
unfolding in_name in_var in_item in_default in_scope in_member
none-default part.Scope stays value i = refl
none-default _ stays value i = refl

imported : (p : Part) (stays value t : Bool) (i : ℕ) → seeks_name (sought_by p stays value (kind.ImportNamedSpecifier t) i) ≡ true → is_name (at_child role.Name 1 i) ≡ false
unfolding in_name in_var in_item in_default in_scope in_member
imported part.Item stays value t i h = first-only i (part.Name form.Import) (stays && not t) h
imported _ stays value t i h = absurd (true-false (sym h))

of-exports : (b : Bool) (i : ℕ) → is_name (of_exports b i) ≡ false
of-exports true i = at-child role.Sourced 0 i refl
of-exports false i = refl

declared-no-name : (p : Part) (r : Role) (stays value : Bool) (k : Kind) (sourced : Bool) (i : ℕ) → seeks_name (sought_by p stays value k i) ≡ true → is_name (role_by r k sourced i) ≡ false
unfolding role_by
declared-no-name p r stays value kind.List sourced i h = in-list r
declared-no-name p r stays value kind.LabeledStmt sourced i h = absurd (true-false (sym h ∙ none-labeled p stays value i))
declared-no-name p r stays value kind.BreakStmt sourced i h = absurd (true-false (sym h ∙ none-break p stays value i))
declared-no-name p r stays value kind.ContinueStmt sourced i h = absurd (true-false (sym h ∙ none-continue p stays value i))
declared-no-name p r stays value (kind.ImportNamedSpecifier t) sourced i h = imported p stays value t i h
declared-no-name p r stays value (kind.ExportNamedSpecifier t) sourced i h = absurd (true-false (sym h ∙ none-exported p stays value t i))
declared-no-name p r stays value kind.ExportNamespaceSpecifier sourced i h = absurd (true-false (sym h ∙ none-space p stays value i))
declared-no-name p r stays value kind.ExportDefaultSpecifier sourced i h = absurd (true-false (sym h ∙ none-default p stays value i))
declared-no-name p r stays value (kind.NamedExport t) sourced i h = of-exports sourced i
declared-no-name p r stays value (kind.Function is_generator is_async) sourced i h = at-child role.Body 1 i refl
declared-no-name p r stays value (kind.ArrowExpr is_async is_generator) sourced i h = at-child role.Body 1 i refl
declared-no-name p r stays value (kind.Constructor accessibility is_optional) sourced i h = at-child role.Body 2 i refl
declared-no-name p r stays value kind.GetterProp sourced i h = at-child role.Body 2 i refl
declared-no-name p r stays value kind.SetterProp sourced i h = at-child role.Body 3 i refl
declared-no-name p r stays value kind.CatchClause sourced i h = at-child role.CatchBody 1 i refl
declared-no-name p r stays value kind.ExportDecl sourced i h = ambient _
declared-no-name p r stays value (kind.TsModuleDecl declare global) sourced i h = ambient _
declared-no-name p r stays value (kind.TsNamespaceDecl declare global) sourced i h = ambient _
declared-no-name p r stays value kind.TsModuleBlock sourced i h = ambient _
declared-no-name p r stays value _ sourced i h = refl

pub sought-no-name : (sought : Sought) (r : Role) (n : Node) (i : ℕ) → seeks_name (sought_in sought n i) ≡ true → is_name (role_in r n i) ≡ false
unfolding sought_in
sought-no-name sought r n i h = declared-no-name sought.part r sought.stays _ (out-Node n).kind _ i h
