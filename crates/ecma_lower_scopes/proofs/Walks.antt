-- Walks over a tree that give nothing at what an assignment is, or is written as, but what is given below: what is written for it gives what it gave.
use Rattle.std.proofs.Common.{◌≡◌, ◌∙◌, ℕ, suc, Bool, true, false, ◌&&◌, not, cond, codes, refl, sym, ap, ap₂, List, [], ◌∷◌, ◌++◌, append-nil, Option, Some, None}
use Rattle.std.specs.Option.{is_some}
use Rattle.ecma_kind.specs.declared.ident.Ident.{Ident}
use Rattle.ecma_kind.specs.declared.kind.Kind.{Kind}
use Rattle.ecma_kind.specs.declared.kind.Kind.TheVariants as kind
use Rattle.ecma_kind.specs.declared.operators.AssignOp.TheVariants.{Assign}
use Rattle.ecma_kind.specs.declared.operators.VarDeclKind.TheVariants.{Const}
use Rattle.ecma_kind.specs.declared.span.Span.{Span}
use Rattle.ecma_tree.specs.Idents.{ident_node}
use Rattle.ecma_tree.specs.Nodes.{absent, dummy_span, list_node, node_of}
use Rattle.ecma_tree.specs.declared.node.Node.{Node, out-Node}
use Rattle.ecma_utils.specs.Expressions.{assign_of, call_of, key_of, member_of, var_decl_of}
use Rattle.ecma_utils.specs.Quotes.{name_of, quoted_ident}
use Rattle.ecma_lower.specs.declared.names.Names.{Names}
use Rattle.ecma_lower.specs.Writing.{constant, constant_of, declared, export_of, exported_constant, exports_of, import_of, module_exports, required_of, text_of}
use Rattle.ecma_lower_scopes.proofs.Still.{children-of, is_inner, is_still, kind-of}
use Rattle.ecma_lower_strip.proofs.Items.{as_import}

-- what children give, of which the first is the one at i
abbrev pub given_from : {A R : Type 0} → (Node → A → List R) → (ℕ → A) → ℕ → List Node → List R
given_from gives around i [] = []
given_from gives around i (n ∷ ns) = gives n (around i) ++ given_from gives around (suc i) ns

pub record Walk (A R : Type 0) : Type 0 where
  -- what a node gives, with this around it
  pub gives : Node → A → List R
  -- what stands around the child at an index of such a kind
  pub into : Kind → A → ℕ → A
  pub out : (span : Span) (k : Kind) (cs : List Node) (a : A) → is_still k ≡ true → gives (node_of span k cs) a ≡ given_from gives (into k a) 0 cs
  pub missing : (a : A) → gives absent a ≡ []

-- what stands around the parts of the declarator of a constant that is an item
abbrev pub declarator_in : {A R : Type 0} → Walk A R → A → ℕ → A
declarator_in w a i = w.into (kind.VarDeclarator false) (w.into kind.List (w.into (kind.VarDecl Const false) a 0) 0) i

-- with this around an item, what stands around its name and around what is to its right: the same for an import and for a constant. There a name in the context of free
-- names gives nothing
pub record Seats {A R : Type 0} (w : Walk A R) (free : ℕ) (a name value : A) : Type 0 where
  pub import_name : (e : Bool) → w.into (as_import e) a 0 ≡ name
  pub import_value : (e : Bool) → w.into (as_import e) a 1 ≡ value
  pub constant_name : w.into kind.BindingIdent (declarator_in w a 0) 0 ≡ name
  pub constant_value : declarator_in w a 1 ≡ value
  pub exported : w.into kind.ExportDecl a 0 ≡ a
  pub statement : w.into kind.ExprStmt a 0 ≡ value
  pub assignment : w.into kind.TsExportAssignment a 0 ≡ value
  pub inner : (k : Kind) (i : ℕ) → is_inner k ≡ true → w.into k value i ≡ value
  pub free_name : (text : List ℕ) → w.gives (name_of free dummy_span text) value ≡ []

-- the names by which assignments are written have the context of free names
pub record AreFree (free : ℕ) (names : Names) : Type 0 where
  pub required : (f : Ident) → names.required ≡ Some f → (text : List ℕ) × (f ≡ quoted_ident free dummy_span text)
  pub others : (m : ℕ) → names.free ≡ Some m → m ≡ free

never : {X Y : Type 0} (y : Y) → None ≡ Some y → X
never y e = cc

-- ---- nodes

module _ {A R : Type 0} (w : Walk A R) where
  leaf : (span : Span) (k : Kind) (a : A) → is_still k ≡ true → w.gives (node_of span k []) a ≡ []
  leaf span k a h = w.out span k [] a h

  single : (span : Span) (k : Kind) (c : Node) (a : A) → is_still k ≡ true → w.gives (node_of span k (c ∷ [])) a ≡ w.gives c (w.into k a 0)
  single span k c a h = w.out span k (c ∷ []) a h ∙ append-nil (w.gives c (w.into k a 0))

  two : (span : Span) (k : Kind) (c d : Node) (a : A) → is_still k ≡ true → w.gives (node_of span k (c ∷ d ∷ [])) a ≡ w.gives c (w.into k a 0) ++ w.gives d (w.into k a 1)
  two span k c d a h = w.out span k (c ∷ d ∷ []) a h ∙ ap (λ (z : List R). w.gives c (w.into k a 0) ++ z) (append-nil (w.gives d (w.into k a 1)))

  three : (span : Span) (k : Kind) (c d e : Node) (a : A) → is_still k ≡ true
      → w.gives (node_of span k (c ∷ d ∷ e ∷ [])) a ≡ w.gives c (w.into k a 0) ++ (w.gives d (w.into k a 1) ++ w.gives e (w.into k a 2))
  three span k c d e a h =
      w.out span k (c ∷ d ∷ e ∷ []) a h ∙ ap (λ (z : List R). w.gives c (w.into k a 0) ++ (w.gives d (w.into k a 1) ++ z)) (append-nil (w.gives e (w.into k a 2)))

  module _ (free : ℕ) (a : A) {name value : A} (s : Seats w free a name value) where
    -- ---- to the right of a name

    inner-one : (span : Span) (k : Kind) (c : Node) → is_still k ≡ true → is_inner k ≡ true → w.gives (node_of span k (c ∷ [])) value ≡ w.gives c value
    inner-one span k c h g = single span k c value h ∙ ap (w.gives c) (s.inner k 0 g)

    pub inner-two : (span : Span) (k : Kind) (c d : Node) → is_still k ≡ true → is_inner k ≡ true
        → w.gives (node_of span k (c ∷ d ∷ [])) value ≡ w.gives c value ++ w.gives d value
    inner-two span k c d h g = two span k c d value h ∙ ap₂ (λ (x y : List R). x ++ y) (ap (w.gives c) (s.inner k 0 g)) (ap (w.gives d) (s.inner k 1 g))

    -- exports.a
    free-member : (text : List ℕ) (span : Span) (key : List ℕ) → w.gives (member_of (name_of free dummy_span text) (key_of span key)) value ≡ []
    free-member text span key =
        inner-two dummy_span kind.MemberExpr (name_of free dummy_span text) (key_of span key) refl refl
        ∙ ap₂ (λ (x y : List R). x ++ y) (s.free_name text) (leaf span (kind.IdentName key) value refl)

    -- exports.a = v
    assigned : (target v : Node) → w.gives target value ≡ [] → w.gives (assign_of Assign target v) value ≡ w.gives v value
    assigned target v h = inner-two dummy_span (kind.AssignExpr Assign) target v refl refl ∙ ap (λ (z : List R). z ++ w.gives v value) h

    -- require("m")
    called : (f arg : Node) → w.gives f value ≡ [] → w.gives (call_of dummy_span f (arg ∷ [])) value ≡ w.gives arg value
    called f arg h =
        let list = ap (w.gives (list_node (arg ∷ []))) (s.inner kind.CallExpr 1 refl) ∙ inner-one dummy_span kind.List arg refl refl in
        three dummy_span kind.CallExpr f (list_node (arg ∷ [])) absent value refl
        ∙ (λ j. (ap (w.gives f) (s.inner kind.CallExpr 0 refl) ∙ h) j ++ (list j ++ w.missing (w.into kind.CallExpr value 2) j))
        ∙ append-nil (w.gives arg value)

    -- what is written for `require("m")` gives what that gives
    pub required-gives : (o : Option Ident) → ((f : Ident) → o ≡ Some f → (text : List ℕ) × (f ≡ quoted_ident free dummy_span text)) → (span : Span) (arg : Node)
        → w.gives (required_of o span (arg ∷ [])) value ≡ w.gives (node_of span kind.TsExternalModuleRef (arg ∷ [])) value
    required-gives None is span arg = refl
    required-gives (Some f) is span arg =
        let there = is f refl in
        called (ident_node f) arg (ap (λ z. w.gives (ident_node z) value) there.1 ∙ s.free_name there.0)
        ∙ sym (inner-one span kind.TsExternalModuleRef arg refl refl)

    -- ---- a constant

    constant-is : (span : Span) (n v : Node) → constant span n v ≡ node_of span (kind.VarDecl Const false) (list_node (node_of dummy_span (kind.VarDeclarator false) (declared n ∷ v ∷ []) ∷ []) ∷ [])
    constant-is span n v =
        let k = kind.VarDecl Const false in
        let cs = list_node (node_of dummy_span (kind.VarDeclarator false) (declared n ∷ v ∷ []) ∷ []) ∷ [] in
        ap₂ (node_of span) (kind-of dummy_span k cs) (children-of dummy_span k cs)

    bound-gives : (n : Node) → w.gives (declared n) (declarator_in w a 0) ≡ w.gives n name
    bound-gives n =
        two (out-Node n).span kind.BindingIdent n absent (declarator_in w a 0) refl
        ∙ ap₂ (λ (x y : List R). x ++ y) (ap (w.gives n) s.constant_name) (w.missing (w.into kind.BindingIdent (declarator_in w a 0) 1))
        ∙ append-nil (w.gives n name)

    variable-gives : (span : Span) (n v : Node)
        → w.gives (node_of span (kind.VarDecl Const false) (list_node (node_of dummy_span (kind.VarDeclarator false) (declared n ∷ v ∷ []) ∷ []) ∷ [])) a
        ≡ w.gives n name ++ w.gives v value
    variable-gives span n v =
        let declarator = node_of dummy_span (kind.VarDeclarator false) (declared n ∷ v ∷ []) in
        let around = w.into (kind.VarDecl Const false) a 0 in
        single span (kind.VarDecl Const false) (list_node (declarator ∷ [])) a refl
        ∙ single dummy_span kind.List declarator around refl
        ∙ two dummy_span (kind.VarDeclarator false) (declared n) v (w.into kind.List around 0) refl
        ∙ ap₂ (λ (x y : List R). x ++ y) (bound-gives n) (ap (w.gives v) s.constant_value)

    constant-gives : (span : Span) (n v : Node) → w.gives (constant span n v) a ≡ w.gives n name ++ w.gives v value
    constant-gives span n v = ap (λ z. w.gives z a) (constant-is span n v) ∙ variable-gives span n v

    exported-gives : (o : Option ℕ) → ((m : ℕ) → o ≡ Some m → m ≡ free) → (span : Span) (n v : Node) → w.gives (exported_constant o span n v) a ≡ w.gives n name ++ w.gives v value
    exported-gives None is span n v =
        single span kind.ExportDecl (var_decl_of Const (declared n) v) a refl
        ∙ ap (w.gives (var_decl_of Const (declared n) v)) s.exported
        ∙ variable-gives dummy_span n v
    exported-gives (Some m) is span n v =
        constant-gives span n (assign_of Assign (exports_of m n) v)
        ∙ ap (λ (z : List R). w.gives n name ++ z)
        (assigned (exports_of m n) v (ap (λ z. w.gives (exports_of z n) value) (is m refl) ∙ free-member (codes "exports") (out-Node n).span (text_of n)))

    -- ---- what is written for an import, and for `export = e`

    pub import-gives : (e : Bool) (span : Span) (n v : Node) → w.gives (node_of span (as_import e) (n ∷ v ∷ [])) a ≡ w.gives n name ++ w.gives v value
    import-gives e span n v = two span (as_import e) n v a refl ∙ ap₂ (λ (x y : List R). x ++ y) (ap (w.gives n) (s.import_name e)) (ap (w.gives v) (s.import_value e))

    pub export-gives : (span : Span) (e : Node) → w.gives (node_of span kind.TsExportAssignment (e ∷ [])) a ≡ w.gives e value
    export-gives span e = single span kind.TsExportAssignment e a refl ∙ ap (w.gives e) s.assignment

    module _ (names : Names) (made : AreFree free names) where
      if-required : (q : Bool) (m : ℕ) → cond q names.free None ≡ Some m → m ≡ free
      if-required true m e = made.others m e
      if-required false m e = never m e

      constants : (q e : Bool) (span : Span) (n v : Node) → w.gives (constant_of names q e span n v) a ≡ w.gives n name ++ w.gives v value
      constants q false span n v = constant-gives span n v
      constants q true span n v = exported-gives (cond q names.free None) (if-required q) span n v

      pub imported : (q e : Bool) (span : Span) (n v : Node) → w.gives (import_of names q e span (n ∷ v ∷ [])) a ≡ w.gives n name ++ w.gives v value
      imported q e span n v = by (q && not (is_some names.required))
        where
          by : (b : Bool) → w.gives (cond b (node_of span (as_import e) (n ∷ v ∷ [])) (constant_of names q e span n v)) a ≡ w.gives n name ++ w.gives v value
          by true = import-gives e span n v
          by false = constants q e span n v

    pub exported-last : (o : Option ℕ) → ((m : ℕ) → o ≡ Some m → m ≡ free) → (span : Span) (e : Node) → w.gives (export_of o span (e ∷ [])) a ≡ w.gives e value
    exported-last None is span e = export-gives span e
    exported-last (Some m) is span e =
        single span kind.ExprStmt (assign_of Assign (module_exports m) e) a refl
        ∙ ap (w.gives (assign_of Assign (module_exports m) e)) s.statement
        ∙ assigned (module_exports m) e (ap (λ z. w.gives (module_exports z) value) (is m refl) ∙ free-member (codes "module") dummy_span (codes "exports"))
