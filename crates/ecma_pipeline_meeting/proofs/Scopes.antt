-- What the scope of a node declares in a plain module that fits is the names of the record that the evaluator makes.
use Rattle.std.proofs.Common.{◌≡◌, refl, sym, ap, ap₂, ◌∙◌, subst, ℕ, suc, List, [], ◌∷◌, ◌++◌, map, length, None, Bool, true, false, cond, not, ◌||◌}
use Rattle.ecma_kind.specs.Sorts.{belongs}
use Rattle.ecma_kind.specs.declared.kind.Kind.{Kind}
use Rattle.ecma_kind.specs.declared.kind.Kind.TheVariants as kind
use Rattle.ecma_kind.specs.declared.shapes.Count.TheVariants as count
use Rattle.ecma_kind.specs.declared.shapes.Shape.{Shape}
use Rattle.ecma_kind.specs.declared.shapes.Sort.TheVariants as sort
use Rattle.ecma_tree.specs.declared.node.Node.{Node, out-Node}
use Rattle.ecma_tree.specs.Laws.{HaveShapes}
use Rattle.ecma_tree.specs.Sorted.{child_shapes, maybe, one, shape_of}
use Rattle.ecma_tree.specs.Values.{is_value_where}
use Rattle.ecma_fits.specs.declared.role.Role.{Role as FitRole}
use Rattle.ecma_fits.specs.declared.unfit.Where.{Where}
use Rattle.ecma_fits.specs.Roles.{is_out_of_role, role_in}
use Rattle.ecma_scope.specs.declared.form.Form.TheVariants as form
use Rattle.ecma_scope.specs.declared.form.Part.{Part}
use Rattle.ecma_scope.specs.declared.form.Part.TheVariants as part
use Rattle.ecma_scope.specs.declared.form.Sought.{Sought}
use Rattle.ecma_scope.specs.declared.role.Role.{Role}
use Rattle.ecma_scope.specs.declared.role.Role.TheVariants as role
use Rattle.ecma_scope.specs.Declarations.{holds_vars, in_item, in_scope, is_body, own_part, sought_by, sought_in}
use Rattle.ecma_scope.specs.Scopes.{is_ambient, is_default, is_there, opens_by}
use Rattle.ecma_hygiene.specs.Ids.{is_block}
use Rattle.ecma_hygiene.proofs.Telling.{and-right, true-false}
use Rattle.ecma_hygiene.proofs.Walking.{append-none}
use Rattle.ecma_hygiene_scopes.specs.DeclaredIds.{DeclaredId, id_here, ids_declared, ids_in, scope_ids}
use Rattle.ecma_runs.specs.State.{Binding, Id}
use Rattle.ecma_runs.specs.Environment.{ids_of, is_among}
use Rattle.ecma_runs.specs.Evaluation.{meaning, meaning_by}
use Rattle.ecma_hygiene_meeting.specs.Records.{has_record, record_names}
use Rattle.ecma_pipeline_meeting.proofs.Items.{cases-are, head-are, statements-are}
use Rattle.ecma_pipeline_meeting.proofs.Parts.{AllPlain, Sound, among-append, ids-append, kept, kept-append, kept-nil, kept-out, or-none, plain-head, plain-tail}
use Rattle.ecma_pipeline_meeting.proofs.Patterns.{binds, constructor-parameters, declared-binds, name_sought, named, own-named, parameter-binds, parameters, shape_out}
use Rattle.ecma_pipeline_meeting.proofs.Variables.{item_sought, var_sought}
use Rattle.ecma_pipeline_meeting.proofs.Walks.{Each}

abbrev pub Placed : Where → Node → Type 0
Placed = Sound (λ w node. is_out_of_role w.role node)

-- modules, scripts, and the bodies of namespaces
abbrev pub is_module_kind : Kind → Bool
is_module_kind (kind.Module shebang) = true
is_module_kind (kind.Script shebang) = true
is_module_kind kind.TsModuleBlock = true
is_module_kind _ = false

abbrev pub own_sought : Role → Sought
own_sought r = record { part = own_part r; stays = true }

or-turn : (a b : Bool) → (a || b) ≡ (b || a)
or-turn true true = refl
or-turn true false = refl
or-turn false true = refl
or-turn false false = refl

module _ (id : Id) where
  none-found : (i : ℕ) (cs : List Node) → kept id (ids_in (λ j. None) i (map ids_declared cs)) ≡ false
  none-found i [] = refl
  none-found i (c ∷ cs) = none-found (suc i) cs

  -- what a scope may declare where nothing is ambient
  pub scope-kept : (r : Role) (n : Node) → is_ambient r ≡ false
      → kept id (scope_ids r n) ≡ (kept id (ids_declared n (own_sought r)) || kept id (cond (holds_vars r (out-Node n).kind) (ids_declared n var_sought) []))
  scope-kept r n calm =
      ap (λ b. kept id (ids_declared n (record { part = own_part r; stays = not b }) ++ cond (holds_vars r (out-Node n).kind) (ids_declared n (record { part = part.Var; stays = not b })) [])) calm
      ∙ kept-append id (ids_declared n (own_sought r)) (cond (holds_vars r (out-Node n).kind) (ids_declared n var_sought) [])

  block-names : (b : Bool) (items vars : Bool) (found : List DeclaredId) (ls vs : List Binding) → items ≡ is_among id (ids_of ls) → kept id found ≡ is_among id (ids_of (vs ++ []))
      → (items || kept id (cond b found [])) ≡ is_among id (cond b (ids_of (vs ++ ls)) (ids_of ls))
  block-names true items vars found ls vs e f =
      ap₂ (λ x y. x || y) e (f ∙ ap (λ z. is_among id (ids_of z)) (append-none vs)) ∙ or-turn (is_among id (ids_of ls)) (is_among id (ids_of vs))
      ∙ sym (ap (is_among id) (ids-append vs ls) ∙ among-append id (ids_of vs) (ids_of ls))
  block-names false items vars found ls vs e f = or-none items ∙ e

  -- in no default export
  pub record-by : (r : Role) (fr : FitRole) (value : Bool) (n : Node) (k : Kind) (shape : Shape) (cs : List Node) (around : ℕ → Where) → ((i : ℕ) → (around i).role ≡ role_in fr k i)
      → is_default r ≡ false → is_module_kind k ≡ false → has_record r k ≡ true → opens_by r k (is_there cs 0) ≡ true
      → Each (λ i c. Placed (around i) c) 0 cs → HaveShapes (child_shapes k shape (length cs)) cs → AllPlain cs
      → (is_block k ≡ true → kept id (ids_declared n var_sought) ≡ is_among id (ids_of (meaning_by n k (map meaning cs)).vars))
      → (kept id (id_here (record { part = part.Scope; stays = true }) k ++ ids_in (λ i. in_scope true value k i) 0 (map ids_declared cs)) || kept id (cond (holds_vars r k) (ids_declared n var_sought) []))
      ≡ is_among id (record_names r k (map meaning cs))
  unfolding in_scope opens_by holds_vars role_in
  record-by r fr value n (kind.Module s) shape cs around roles d m rec on p h plain v = absurd (true-false refl m)
  record-by r fr value n (kind.Script s) shape cs around roles d m rec on p h plain v = absurd (true-false refl m)
  record-by r fr value n kind.TsModuleBlock shape cs around roles d m rec on p h plain v = absurd (true-false refl m)
  record-by r fr value n (kind.Function g a) shape (ps ∷ body ∷ types ∷ type ∷ []) around roles d m rec on p h plain v =
      or-none (kept id (ids_declared ps (name_sought form.Parameter) ++ [])) ∙ kept-nil id (ids_declared ps (name_sought form.Parameter))
      ∙ parameters id form.Parameter (around 0) ps p.0 h.0 (plain-head ps (body ∷ types ∷ type ∷ []) plain)
  record-by r fr value n (kind.Function g a) shape [] around roles d m rec on p h plain v = absurd h
  record-by r fr value n (kind.Function g a) shape (b₁ ∷ []) around roles d m rec on p h plain v = absurd h.1
  record-by r fr value n (kind.Function g a) shape (b₁ ∷ b₂ ∷ []) around roles d m rec on p h plain v = absurd h.1.1
  record-by r fr value n (kind.Function g a) shape (b₁ ∷ b₂ ∷ b₃ ∷ []) around roles d m rec on p h plain v = absurd h.1.1.1
  record-by r fr value n (kind.Function g a) shape (b₁ ∷ b₂ ∷ b₃ ∷ b₄ ∷ b₅ ∷ cs) around roles d m rec on p h plain v = absurd h.1.1.1.1
  record-by r fr value n (kind.ArrowExpr g a) shape (ps ∷ body ∷ types ∷ type ∷ []) around roles d m rec on p h plain v =
      let s = shape_of count.Many sort.Pat in
      or-none (kept id (ids_declared ps (name_sought form.Parameter) ++ [])) ∙ kept-nil id (ids_declared ps (name_sought form.Parameter))
      ∙ named id ps (around 0) s form.Parameter (subst (λ q. binds q s (out-Node ps).kind ≡ true) (sym (roles 0)) (shape_out s ps h.0).0) p.0 h.0 (plain-head ps (body ∷ types ∷ type ∷ []) plain)
  record-by r fr value n (kind.ArrowExpr g a) shape [] around roles d m rec on p h plain v = absurd h
  record-by r fr value n (kind.ArrowExpr g a) shape (b₁ ∷ []) around roles d m rec on p h plain v = absurd h.1
  record-by r fr value n (kind.ArrowExpr g a) shape (b₁ ∷ b₂ ∷ []) around roles d m rec on p h plain v = absurd h.1.1
  record-by r fr value n (kind.ArrowExpr g a) shape (b₁ ∷ b₂ ∷ b₃ ∷ []) around roles d m rec on p h plain v = absurd h.1.1.1
  record-by r fr value n (kind.ArrowExpr g a) shape (b₁ ∷ b₂ ∷ b₃ ∷ b₄ ∷ b₅ ∷ cs) around roles d m rec on p h plain v = absurd h.1.1.1.1
  record-by r fr value n (kind.Constructor a o) shape (key ∷ ps ∷ body ∷ []) around roles d m rec on p h plain v =
      or-none (kept id (ids_declared ps (name_sought form.Parameter) ++ [])) ∙ kept-nil id (ids_declared ps (name_sought form.Parameter))
      ∙ constructor-parameters id form.Parameter (around 1) ps p.1.0 h.1.0 (plain-head ps (body ∷ []) (plain-tail key (ps ∷ body ∷ []) plain))
  record-by r fr value n (kind.Constructor a o) shape [] around roles d m rec on p h plain v = absurd h
  record-by r fr value n (kind.Constructor a o) shape (b₁ ∷ []) around roles d m rec on p h plain v = absurd h.1
  record-by r fr value n (kind.Constructor a o) shape (b₁ ∷ b₂ ∷ []) around roles d m rec on p h plain v = absurd h.1.1
  record-by r fr value n (kind.Constructor a o) shape (b₁ ∷ b₂ ∷ b₃ ∷ b₄ ∷ cs) around roles d m rec on p h plain v = absurd h.1.1.1
  record-by r fr value n kind.SetterProp shape (key ∷ receiver ∷ parameter ∷ body ∷ []) around roles d m rec on p h plain v =
      or-none (kept id (ids_declared parameter (name_sought form.Parameter) ++ [])) ∙ kept-nil id (ids_declared parameter (name_sought form.Parameter))
      ∙ named id parameter (around 2) (one sort.Pat) form.Parameter (parameter-binds (around 2) (one sort.Pat) parameter p.1.1.0 (roles 2)) p.1.1.0 h.1.1.0
      (plain-head parameter (body ∷ []) (plain-tail receiver (parameter ∷ body ∷ []) (plain-tail key (receiver ∷ parameter ∷ body ∷ []) plain)))
  record-by r fr value n kind.SetterProp shape [] around roles d m rec on p h plain v = absurd h
  record-by r fr value n kind.SetterProp shape (b₁ ∷ []) around roles d m rec on p h plain v = absurd h.1
  record-by r fr value n kind.SetterProp shape (b₁ ∷ b₂ ∷ []) around roles d m rec on p h plain v = absurd h.1.1
  record-by r fr value n kind.SetterProp shape (b₁ ∷ b₂ ∷ b₃ ∷ []) around roles d m rec on p h plain v = absurd h.1.1.1
  record-by r fr value n kind.SetterProp shape (b₁ ∷ b₂ ∷ b₃ ∷ b₄ ∷ b₅ ∷ cs) around roles d m rec on p h plain v = absurd h.1.1.1.1
  record-by r fr value n kind.BlockStmt shape (statements ∷ []) around roles d m rec on p h plain v =
      block-names (is_body r) (kept id (ids_declared statements item_sought ++ [])) true (ids_declared n var_sought) (meaning statements).lexicals (meaning statements).vars
      (kept-nil id (ids_declared statements item_sought) ∙ statements-are id (around 0) statements p.0 h.0 (plain-head statements [] plain)) (v refl)
  record-by r fr value n kind.BlockStmt shape [] around roles d m rec on p h plain v = absurd h
  record-by r fr value n kind.BlockStmt shape (b₁ ∷ b₂ ∷ cs) around roles d m rec on p h plain v = absurd h.1
  record-by r fr value n kind.ForStmt shape (init ∷ test ∷ update ∷ body ∷ []) around roles d m rec on p h plain v =
      or-none (kept id (ids_declared init item_sought ++ [])) ∙ kept-nil id (ids_declared init item_sought) ∙ head-are id (around 0) init p.0 h.0 (plain-head init (test ∷ update ∷ body ∷ []) plain)
  record-by r fr value n kind.ForStmt shape [] around roles d m rec on p h plain v = absurd h
  record-by r fr value n kind.ForStmt shape (b₁ ∷ []) around roles d m rec on p h plain v = absurd h.1
  record-by r fr value n kind.ForStmt shape (b₁ ∷ b₂ ∷ []) around roles d m rec on p h plain v = absurd h.1.1
  record-by r fr value n kind.ForStmt shape (b₁ ∷ b₂ ∷ b₃ ∷ []) around roles d m rec on p h plain v = absurd h.1.1.1
  record-by r fr value n kind.ForStmt shape (b₁ ∷ b₂ ∷ b₃ ∷ b₄ ∷ b₅ ∷ cs) around roles d m rec on p h plain v = absurd h.1.1.1.1
  record-by r fr value n kind.SwitchStmt shape (discriminant ∷ cases ∷ []) around roles d m rec on p h plain v =
      or-none (kept id (ids_declared cases item_sought ++ [])) ∙ kept-nil id (ids_declared cases item_sought)
      ∙ cases-are id (around 1) cases p.1.0 h.1.0 (plain-head cases [] (plain-tail discriminant (cases ∷ []) plain))
  record-by r fr value n kind.SwitchStmt shape [] around roles d m rec on p h plain v = absurd h
  record-by r fr value n kind.SwitchStmt shape (b₁ ∷ []) around roles d m rec on p h plain v = absurd h.1
  record-by r fr value n kind.SwitchStmt shape (b₁ ∷ b₂ ∷ b₃ ∷ cs) around roles d m rec on p h plain v = absurd h.1.1
  record-by r fr value n kind.CatchClause shape (parameter ∷ body ∷ []) around roles d m rec on p h plain v =
      or-none (kept id (ids_declared parameter (name_sought form.Catch) ++ [])) ∙ kept-nil id (ids_declared parameter (name_sought form.Catch))
      ∙ named id parameter (around 0) (maybe sort.Pat) form.Catch (declared-binds (around 0) (maybe sort.Pat) parameter p.0 (roles 0)) p.0 h.0 (plain-head parameter (body ∷ []) plain)
  record-by r fr value n kind.CatchClause shape [] around roles d m rec on p h plain v = absurd h
  record-by r fr value n kind.CatchClause shape (b₁ ∷ []) around roles d m rec on p h plain v = absurd h.1
  record-by r fr value n kind.CatchClause shape (b₁ ∷ b₂ ∷ b₃ ∷ cs) around roles d m rec on p h plain v = absurd h.1.1
  record-by r fr value n kind.FnExpr shape (name ∷ function ∷ []) around roles d m rec on p h plain v =
      or-none (kept id (ids_declared name (name_sought form.Own) ++ [])) ∙ kept-nil id (ids_declared name (name_sought form.Own)) ∙ own-named id form.Own name h.0
  record-by r fr value n kind.FnExpr shape [] around roles d m rec on p h plain v = absurd h
  record-by r fr value n kind.FnExpr shape (b₁ ∷ []) around roles d m rec on p h plain v = absurd h.1
  record-by r fr value n kind.FnExpr shape (b₁ ∷ b₂ ∷ b₃ ∷ cs) around roles d m rec on p h plain v = absurd h.1.1
  record-by r fr value n kind.ClassExpr shape (name ∷ class ∷ []) around roles d m rec on p h plain v =
      or-none (kept id (ids_declared name (name_sought form.Own) ++ [])) ∙ kept-nil id (ids_declared name (name_sought form.Own)) ∙ own-named id form.Own name h.0
      ∙ sym (ap (λ b. is_among id (cond b [] (meaning name).names)) d)
  record-by r fr value n kind.ClassExpr shape [] around roles d m rec on p h plain v = absurd h
  record-by r fr value n kind.ClassExpr shape (b₁ ∷ []) around roles d m rec on p h plain v = absurd h.1
  record-by r fr value n kind.ClassExpr shape (b₁ ∷ b₂ ∷ b₃ ∷ cs) around roles d m rec on p h plain v = absurd h.1.1
  record-by r fr value n kind.GetterProp shape cs around roles d m rec on p h plain v = or-none (kept id (ids_in (λ i. None) 0 (map ids_declared cs))) ∙ none-found 0 cs
  record-by r fr value n (kind.ClassDecl declare) shape cs around roles d m rec on p h plain v = or-none (kept id (ids_in (λ i. None) 0 (map ids_declared cs))) ∙ none-found 0 cs
  record-by r fr value n kind.ForInStmt shape cs around roles d m rec on p h plain v = absurd (true-false rec refl)
  record-by r fr value n (kind.ForOfStmt a) shape cs around roles d m rec on p h plain v = absurd (true-false rec refl)
  record-by r fr value n (kind.TsEnumDecl x y) shape cs around roles d m rec on p h plain v = absurd (true-false rec refl)
  record-by r fr value n (kind.TsNamespaceDecl x y) shape cs around roles d m rec on p h plain v = absurd (true-false rec refl)
  record-by r fr value n _ shape cs around roles d m rec on p h plain v = absurd (true-false on refl)

  pub scope-part : (r : Role) → is_default r ≡ false → own_part r ≡ part.Scope
  scope-part role.Default d = absurd (true-false refl d)
  scope-part _ d = refl

  -- what is exported as the default
  pub default-by : (value there : Bool) (k : Kind) (cs : List Node) (found : List DeclaredId) → belongs sort.DefaultDecl k ≡ true → opens_by role.Default k there ≡ true
      → (kept id (id_here item_sought k ++ ids_in (λ i. in_item true value k i) 0 (map ids_declared cs)) || kept id (cond (holds_vars role.Default k) found [])) ≡ is_among id (record_names role.Default k (map meaning cs))
  unfolding in_item opens_by holds_vars
  default-by value there kind.ClassExpr cs found b on = or-none (kept id (ids_in (λ i. None) 0 (map ids_declared cs))) ∙ none-found 0 cs ∙ sym (class-names cs)
    where
      class-names : (cs : List Node) → is_among id (record_names role.Default kind.ClassExpr (map meaning cs)) ≡ false
      class-names [] = refl
      class-names (a ∷ []) = refl
      class-names (a ∷ c ∷ []) = refl
      class-names (a ∷ c ∷ e ∷ cs) = refl
  default-by value there kind.FnExpr cs found b on = absurd (true-false (and-right there false on) refl)
  default-by value there (kind.TsInterfaceDecl d) cs found b on = absurd (true-false on refl)
  default-by value there _ cs found b on = absurd (true-false b refl)

  -- what is looked for in a scope, by what its kind says
  pub own-found : (r : Role) (p : Part) (n : Node) → own_part r ≡ p
      → kept id (ids_declared n (own_sought r)) ≡ kept id (id_here (record { part = p; stays = true }) (out-Node n).kind ++ ids_in (λ i. sought_by p true (is_value_where true n) (out-Node n).kind i) 0 (map ids_declared (out-Node n).children))
  unfolding sought_in
  own-found r p n is = ap (λ q. kept id (ids_declared n (record { part = q; stays = true }))) is ∙ kept-out id n (record { part = p; stays = true })
