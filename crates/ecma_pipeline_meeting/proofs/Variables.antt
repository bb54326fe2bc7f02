-- The variables of a statement are the ids that `var` declares in it, and those of a list of statements, or of the head of a loop, what these declare.
use Rattle.std.proofs.Common.{◌≡◌, refl, sym, ap, ap₂, ◌∙◌, subst, ℕ, zero, suc, List, [], ◌∷◌, ◌++◌, map, length, replicate, Some, None, Bool, true, false, cond, ◌||◌, Option}
use Rattle.std.specs.List.{list_all}
use Rattle.ecma_kind.specs.Sorts.{belongs}
use Rattle.ecma_kind.specs.declared.kind.Kind.{Kind}
use Rattle.ecma_kind.specs.declared.kind.Kind.TheVariants as kind
use Rattle.ecma_kind.specs.declared.operators.VarDeclKind.TheVariants as var_kind
use Rattle.ecma_kind.specs.declared.shapes.Count.{Count}
use Rattle.ecma_kind.specs.declared.shapes.Count.TheVariants as count
use Rattle.ecma_kind.specs.declared.shapes.Shape.{Shape}
use Rattle.ecma_kind.specs.declared.shapes.Sort.{Sort}
use Rattle.ecma_kind.specs.declared.shapes.Sort.TheVariants as sort
use Rattle.ecma_tree.specs.declared.node.Node.{Node, Node-F, ind-Node, out-Node, roll-Node}
use Rattle.ecma_tree.specs.declared.node.Node.TheViews.{out-roll-Node}
use Rattle.ecma_tree.specs.Laws.{HaveShapes}
use Rattle.ecma_tree.specs.Sorted.{HasShape, allows_by, child_shapes, is_absent, is_list, item_shape, one}
use Rattle.ecma_fits.specs.declared.unfit.Where.{Where}
use Rattle.ecma_fits.specs.Fitting.{where_in}
use Rattle.ecma_fits.specs.Roles.{is_out_of_role}
use Rattle.ecma_scope.specs.declared.form.Form.TheVariants as form
use Rattle.ecma_scope.specs.declared.form.Part.TheVariants as part
use Rattle.ecma_scope.specs.declared.form.Sought.{Sought}
use Rattle.ecma_scope.specs.Declarations.{in_var, sought_in}
use Rattle.ecma_hygiene.proofs.Telling.{and-both, and-left, and-right, true-false}
use Rattle.ecma_hygiene_scopes.specs.DeclaredIds.{id_here, ids_declared, ids_in}
use Rattle.ecma_hygiene_runs.specs.Plain.{is_plain, is_plain_kind, plain_by}
use Rattle.ecma_runs.specs.State.{Id}
use Rattle.ecma_runs.specs.Environment.{ids_of, is_among, undefined}
use Rattle.ecma_runs.specs.Meaning.{Meaning}
use Rattle.ecma_runs.specs.Declarations.{all_vars, has_no_effect}
use Rattle.ecma_runs.specs.Evaluation.{meaning, meaning_by, no_effect, role_by}
use Rattle.ecma_runs.proofs.Layer.{meaning_out}
use Rattle.ecma_pipeline_meeting.proofs.Parts.{AllPlain, Sound, among-append, ids-append, ids-made, kept, kept-append, kept-nil, kept-out, plain-effect, plain-head, plain-kind, plain-out, plain-tail, sound-out}
use Rattle.ecma_pipeline_meeting.proofs.Patterns.{declarators, name_sought, shape_out}
use Rattle.ecma_pipeline_meeting.proofs.Quiet.{quiet}
use Rattle.ecma_pipeline_meeting.proofs.Walks.{Each}

abbrev Placed : Where → Node → Type 0
Placed = Sound (λ w node. is_out_of_role w.role node)

abbrev pub var_sought : Sought
var_sought = record { part = part.Var; stays = true }

abbrev pub item_sought : Sought
item_sought = record { part = part.Item; stays = true }

-- what stands in no module directly
abbrev pub is_inner : Kind → Bool
is_inner (kind.Module shebang) = false
is_inner (kind.Script shebang) = false
is_inner kind.TsModuleBlock = false
is_inner kind.ExportDecl = false
is_inner _ = true

abbrev is_inner_sort : Sort → Bool
is_inner_sort sort.Program = false
is_inner_sort sort.Module = false
is_inner_sort sort.Script = false
is_inner_sort sort.ModuleItem = false
is_inner_sort sort.ModuleDecl = false
is_inner_sort sort.TsNamespaceBody = false
is_inner_sort _ = true

no-module : (σ : Sort) (s : Option (List ℕ)) → is_inner_sort σ ≡ true → belongs σ (kind.Module s) ≡ false
no-module sort.Program s h = absurd (true-false h refl)
no-module sort.Module s h = absurd (true-false h refl)
no-module _ s h = refl

no-script : (σ : Sort) (s : Option (List ℕ)) → is_inner_sort σ ≡ true → belongs σ (kind.Script s) ≡ false
no-script sort.Program s h = absurd (true-false h refl)
no-script sort.Script s h = absurd (true-false h refl)
no-script _ s h = refl

no-block : (σ : Sort) → is_inner_sort σ ≡ true → belongs σ kind.TsModuleBlock ≡ false
no-block sort.TsNamespaceBody h = absurd (true-false h refl)
no-block _ h = refl

no-export : (σ : Sort) → is_inner_sort σ ≡ true → belongs σ kind.ExportDecl ≡ false
no-export sort.ModuleItem h = absurd (true-false h refl)
no-export sort.ModuleDecl h = absurd (true-false h refl)
no-export _ h = refl

-- a shape allows no kind that is neither missing nor a list, and of which its sort has none
pub by-count : (c : Count) (σ : Sort) (k : Kind) → is_absent k ≡ false → is_list k ≡ false → belongs σ k ≡ false → allows_by c σ k ≡ false
by-count count.One σ k a l b = b
by-count count.Maybe σ k a l b = (λ j. a j || b j)
by-count count.Many σ k a l b = l
by-count count.MaybeMany σ k a l b = (λ j. a j || l j)
by-count count.Holes σ k a l b = l

pub inner-kind : (c : Count) (σ : Sort) (k : Kind) → is_inner_sort σ ≡ true → allows_by c σ k ≡ true → is_inner k ≡ true
inner-kind c σ (kind.Module s) i a = absurd (true-false a (by-count c σ (kind.Module s) refl refl (no-module σ s i)))
inner-kind c σ (kind.Script s) i a = absurd (true-false a (by-count c σ (kind.Script s) refl refl (no-script σ s i)))
inner-kind c σ kind.TsModuleBlock i a = absurd (true-false a (by-count c σ kind.TsModuleBlock refl refl (no-block σ i)))
inner-kind c σ kind.ExportDecl i a = absurd (true-false a (by-count c σ kind.ExportDecl refl refl (no-export σ i)))
inner-kind c σ _ i a = refl

module _ (id : Id) where
  -- the variables of a node
  abbrev pub VarsAre : Node → Type 0
  VarsAre n = kept id (ids_declared n var_sought) ≡ is_among id (ids_of (meaning n).vars)

  abbrev VarsOf : Node → Kind → List Node → Type 0
  VarsOf n k cs = kept id (id_here var_sought k ++ ids_in (λ i. in_var true k) 0 (map ids_declared cs)) ≡ is_among id (ids_of (meaning_by n k (map meaning cs)).vars)

  vars-of : (n : Node) → VarsOf n (out-Node n).kind (out-Node n).children → VarsAre n
  unfolding sought_in
  vars-of n h = kept-out id n var_sought ∙ h ∙ ap (λ m. is_among id (ids_of m.vars)) (sym (meaning_out n))

  abbrev AllVars : List Node → Type 0
  AllVars [] = Unit {0}
  AllVars (c ∷ cs) = VarsAre c × AllVars cs

  -- where `var` may stand in each child
  each-var : (i : ℕ) (cs : List Node) → AllVars cs → kept id (ids_in (λ j. Some var_sought) i (map ids_declared cs)) ≡ is_among id (ids_of (all_vars (map meaning cs)))
  each-var i [] h = refl
  each-var i (c ∷ cs) h =
      kept-append id (ids_declared c var_sought) (ids_in (λ j. Some var_sought) (suc i) (map ids_declared cs))
      ∙ ap₂ (λ a b. a || b) h.0 (each-var (suc i) cs h.1)
      ∙ sym (ap (is_among id) (ids-append (meaning c).vars (all_vars (map meaning cs))) ∙ among-append id (ids_of (meaning c).vars) (ids_of (all_vars (map meaning cs))))

  none-found : (i : ℕ) (cs : List Node) → kept id (ids_in (λ j. None) i (map ids_declared cs)) ≡ false
  none-found i [] = refl
  none-found i (c ∷ cs) = none-found (suc i) cs

  -- the node is one of these, with its parts
  record Parts (n : Node) (k : Kind) (cs : List Node) : Type 0 where
    pub shape : Shape
    pub shapes : HaveShapes (child_shapes k shape (length cs)) cs
    pub w : ℕ → Where
    pub placed : Each (λ i c. Placed (w i) c) 0 cs
    pub plain : AllPlain cs
    pub here : plain_by k cs ≡ true

  none-vars : (b : Bool) (n : Node) (m : Meaning) → m.vars ≡ [] → is_among id (ids_of (cond b (no_effect n) m).vars) ≡ false
  none-vars true n m e = refl
  none-vars false n m e = ap (λ z. is_among id (ids_of z)) e

  vars-by : (n : Node) (k : Kind) (cs : List Node) → is_inner k ≡ true → Parts n k cs → AllVars cs → VarsOf n k cs
  unfolding in_var
  vars-by n (kind.Module s) cs i p h = absurd (true-false i refl)
  vars-by n (kind.Script s) cs i p h = absurd (true-false i refl)
  vars-by n kind.TsModuleBlock cs i p h = absurd (true-false i refl)
  vars-by n kind.ExportDecl cs i p h = absurd (true-false i refl)
  vars-by n (kind.VarDecl var_kind.Var true) [] i p h = absurd p.shapes
  vars-by n (kind.VarDecl var_kind.Var true) (list ∷ cs) i p h = absurd (true-false refl (plain-effect (kind.VarDecl var_kind.Var true) list cs p.here))
  vars-by n (kind.VarDecl var_kind.Var false) (list ∷ []) i p h =
      kept-nil id (ids_declared list (name_sought form.Var)) ∙ declarators id form.Var (p.w 0) list p.placed.0 p.shapes.0 (plain-head list [] p.plain)
      ∙ sym (ap (is_among id) (ids-made undefined (λ x. refl) (meaning list).names))
  vars-by n (kind.VarDecl var_kind.Var false) [] i p h = absurd p.shapes
  vars-by n (kind.VarDecl var_kind.Var false) (a ∷ b ∷ cs) i p h = absurd p.shapes.1
  vars-by n kind.List cs i p h = each-var 0 cs h
  vars-by n kind.BlockStmt cs i p h = each-var 0 cs h
  vars-by n kind.IfStmt cs i p h = each-var 0 cs h
  vars-by n kind.WhileStmt cs i p h = each-var 0 cs h
  vars-by n kind.DoWhileStmt cs i p h = each-var 0 cs h
  vars-by n kind.ForStmt cs i p h = each-var 0 cs h
  vars-by n kind.ForInStmt cs i p h = each-var 0 cs h
  vars-by n (kind.ForOfStmt a) cs i p h = each-var 0 cs h
  vars-by n kind.LabeledStmt cs i p h = each-var 0 cs h
  vars-by n kind.SwitchStmt cs i p h = each-var 0 cs h
  vars-by n kind.SwitchCase cs i p h = each-var 0 cs h
  vars-by n kind.TryStmt cs i p h = each-var 0 cs h
  vars-by n kind.CatchClause cs i p h = each-var 0 cs h
  vars-by n kind.ParenExpr (e ∷ []) i p h = sym (ap (λ z. is_among id (ids_of z)) (quiet e p.shapes.0 (plain-head e [] p.plain)).none.vars)
  vars-by n kind.ParenExpr [] i p h = absurd p.shapes
  vars-by n kind.ParenExpr (a ∷ b ∷ cs) i p h = absurd p.shapes.1
  vars-by n kind.TsAsExpr cs i p h = absurd (true-false (plain-kind kind.TsAsExpr cs p.here) refl)
  vars-by n kind.TsTypeAssertion cs i p h = absurd (true-false (plain-kind kind.TsTypeAssertion cs p.here) refl)
  vars-by n kind.TsConstAssertion cs i p h = absurd (true-false (plain-kind kind.TsConstAssertion cs p.here) refl)
  vars-by n kind.TsNonNullExpr cs i p h = absurd (true-false (plain-kind kind.TsNonNullExpr cs p.here) refl)
  vars-by n kind.TsInstantiation cs i p h = absurd (true-false (plain-kind kind.TsInstantiation cs p.here) refl)
  vars-by n kind.TsSatisfiesExpr cs i p h = absurd (true-false (plain-kind kind.TsSatisfiesExpr cs p.here) refl)
  vars-by n kind.TsTypeAnn cs i p h = absurd (true-false (plain-kind kind.TsTypeAnn cs p.here) refl)
  vars-by n kind.TsTypeParamDecl cs i p h = absurd (true-false (plain-kind kind.TsTypeParamDecl cs p.here) refl)
  vars-by n kind.TsTypeParamInstantiation cs i p h = absurd (true-false (plain-kind kind.TsTypeParamInstantiation cs p.here) refl)
  vars-by n (kind.TsImportEqualsDecl x y) cs i p h = absurd (true-false (plain-kind (kind.TsImportEqualsDecl x y) cs p.here) refl)
  vars-by n (kind.TsEnumDecl x y) cs i p h = absurd (true-false (plain-kind (kind.TsEnumDecl x y) cs p.here) refl)
  vars-by n kind.TsEnumMember cs i p h = absurd (true-false (plain-kind kind.TsEnumMember cs p.here) refl)
  vars-by n (kind.Ident s c o) [] i p h = refl
  vars-by n (kind.Ident s c o) (c₁ ∷ cs) i p h = absurd p.shapes
  vars-by n kind.TsQualifiedName (left ∷ right ∷ []) i p h = refl
  vars-by n kind.TsQualifiedName [] i p h = absurd p.shapes
  vars-by n kind.TsQualifiedName (a ∷ []) i p h = absurd p.shapes.1
  vars-by n kind.TsQualifiedName (a ∷ b ∷ c ∷ cs) i p h = absurd p.shapes.1.1
  vars-by n k cs i p h = none-found 0 cs ∙ sym (none-vars (has_no_effect k (map meaning cs)) n (role_by n k (map meaning cs)) refl)

  -- ---- all statements

  abbrev HasVars : Node → Type 0
  HasVars n = (w : Where) (shape : Shape) → is_inner (out-Node n).kind ≡ true → (is_list (out-Node n).kind ≡ true → is_inner_sort shape.sort ≡ true) → Placed w n → HasShape shape n → is_plain n ≡ true → VarsAre n

  abbrev AllHave : List Node → Type 0
  AllHave [] = Unit {0}
  AllHave (c ∷ cs) = HasVars c × AllHave cs

  replicate-inner : (shape : Shape) (m : ℕ) → is_inner_sort shape.sort ≡ true → list_all (λ s. is_inner_sort s.sort) (replicate m shape) ≡ true
  replicate-inner shape m h = all-same m
    where
      all-same : (m : ℕ) → list_all (λ s. is_inner_sort s.sort) (replicate m shape) ≡ true
      all-same zero = refl
      all-same (suc m) = and-both (is_inner_sort shape.sort) (list_all (λ s. is_inner_sort s.sort) (replicate m shape)) h (all-same m)

  inner-shapes : (k : Kind) (shape : Shape) (m : ℕ) → is_inner k ≡ true → is_plain_kind k ≡ true → (is_list k ≡ true → is_inner_sort shape.sort ≡ true) → list_all (λ s. is_inner_sort s.sort) (child_shapes k shape m) ≡ true
  inner-shapes kind.List shape m i j l = replicate-inner (item_shape shape) m (l refl)
  inner-shapes kind.SeqExpr shape zero i j l = refl
  inner-shapes kind.SeqExpr shape (suc m) i j l = replicate-inner (one sort.Expr) (suc m) refl
  inner-shapes (kind.Module s) shape m i j l = absurd (true-false i refl)
  inner-shapes kind.TsModuleBlock shape m i j l = absurd (true-false i refl)
  inner-shapes (kind.TsModuleDecl d g) shape m i j l = absurd (true-false j refl)
  inner-shapes (kind.TsNamespaceDecl d g) shape m i j l = absurd (true-false j refl)
  inner-shapes _ shape m i j l = refl

  -- of children whose sorts are inner
  all-vars : (around : ℕ → Where) (i : ℕ) (shapes : List Shape) (cs : List Node) → list_all (λ s. is_inner_sort s.sort) shapes ≡ true → Each (λ j c. Placed (around j) c) i cs → HaveShapes shapes cs → AllPlain cs → AllHave cs → AllVars cs
  all-vars around i [] [] inner p h plain have = tt
  all-vars around i [] (c ∷ cs) inner p h plain have = absurd h
  all-vars around i (s ∷ shapes) [] inner p h plain have = absurd h
  all-vars around i (s ∷ shapes) (c ∷ cs) inner p h plain have =
      let here = and-left (is_inner_sort s.sort) (list_all (λ s. is_inner_sort s.sort) shapes) inner in (
        have.0 (around i) s (inner-kind s.count s.sort (out-Node c).kind here (shape_out s c h.0).0) (λ l. here) p.0 h.0 (plain-head c cs plain),
        all-vars around (suc i) shapes cs (and-right (is_inner_sort s.sort) (list_all (λ s. is_inner_sort s.sort) shapes) inner) p.1 h.1 (plain-tail c cs plain) have.1,
      )

  layer-vars : (n : Node) → AllHave (out-Node n).children → HasVars n
  layer-vars n have w shape i l p h plain =
      let k = (out-Node n).kind in
      let cs = (out-Node n).children in
      let s = shape_out shape n h in
      let t = plain-out n plain in
      let below = (sound-out (λ w node. is_out_of_role w.role node) w n p).1 in
      vars-of n (vars-by n k cs i (record { shape = shape; shapes = s.1; w = where_in w n; placed = below; plain = t.1; here = t.0 })
      (all-vars (where_in w n) 0 (child_shapes k shape (length cs)) cs (inner-shapes k shape (length cs) i (plain-kind k cs t.0) l) below s.1 t.1 have))

  all-have : (ns : List ((n : Node) × HasVars n)) → AllHave (map (λ e. e.0) ns)
  all-have [] = tt
  all-have (n ∷ ns) = (n.1, all-have ns)

  pub has-vars : (n : Node) → HasVars n
  has-vars = ind-Node HasVars (λ x y is.
      layer-vars (roll-Node x) (subst AllHave (ap (λ (z : Node-F Node). z.children) is ∙ sym (ap (λ (z : Node-F Node). z.children) (out-roll-Node x))) (all-have y.children)))
