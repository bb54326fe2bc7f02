-- An item of a module tells what it told, once its assignments are written.
use Rattle.std.proofs.Common.{◌≡◌, ◌∙◌, ◌⊎◌, inl, inr, ℕ, Bool, true, false, cond, refl, sym, ap, subst, List, [], ◌∷◌, map, length, not, Option, Some, None, append-nil, slice_get}
use Rattle.std.specs.Option.{is_some}
use Rattle.ecma_kind.specs.declared.ident.Ident.{Ident}
use Rattle.ecma_kind.specs.declared.kind.Kind.{Kind}
use Rattle.ecma_kind.specs.declared.kind.Kind.TheVariants as kind
use Rattle.ecma_kind.specs.declared.operators.AssignOp.TheVariants.{Assign}
use Rattle.ecma_kind.specs.declared.operators.VarDeclKind.TheVariants.{Const}
use Rattle.ecma_kind.specs.declared.shapes.Sort.TheVariants as sort
use Rattle.ecma_kind.specs.declared.span.Span.{Span}
use Rattle.ecma_tree.specs.Laws.{HaveShapes}
use Rattle.ecma_tree.specs.Nodes.{absent, dummy_span, list_node, node_of}
use Rattle.ecma_tree.specs.Sorted.{HasShape, child_shapes, one}
use Rattle.ecma_tree.specs.declared.node.Node.{Node, Node-F, out-Node}
use Rattle.ecma_tree.specs.declared.node.Node.TheViews.{out-roll-Node}
use Rattle.ecma_utils.specs.Expressions.{assign_of, var_decl_of}
use Rattle.ecma_rules.specs.Children.{child_is, kind_of, of_kind}
use Rattle.ecma_strip_rewriting.proofs.PlainKinds.{shape-out}
use Rattle.ecma_strip_rewriting.proofs.Stays.{kind-roll}
use Rattle.ecma_interface.specs.Names.{Id, bound_by, bound_names}
use Rattle.ecma_interface.specs.Reading.{bound_at, bound_of, by_its_name, export_by, import_by, is_required, re_export_by}
use Rattle.ecma_interface_laws.proofs.Alike.{bound-out}
use Rattle.ecma_interface_laws.proofs.Items.{IsSilent, SameItem, Tells}
use Rattle.ecma_interface_laws.proofs.Telling.{is_item, silent}
use Rattle.ecma_lower.specs.declared.names.Names.{Names}
use Rattle.ecma_lower.specs.declared.seat.Seat.TheVariants as seat
use Rattle.ecma_lower.specs.Assignments.{is_required as is_required_module}
use Rattle.ecma_lower.specs.Writing.{constant, constant_of, declared, export_of, exports_of, import_of, module_exports, required_of}
use Rattle.ecma_lower.proofs.Singles.{write}
use Rattle.ecma_lower_strip.proofs.Items.{Item, as_import, item-is, rolled}
use Rattle.ecma_lower_strip.proofs.Plain.{import-lasts, written-import-lasts}
use Rattle.ecma_lower_strip.proofs.Resting.{export-out, import-out, one-child, required-out, rest-stays}

-- ---- nodes by their parts

pub children-roll : (span : Span) (k : Kind) (cs : List Node) → (out-Node (node_of span k cs)).children ≡ cs
children-roll span k cs = let parts : Node-F Node = record { span = span; kind = k; children = cs } in ap (λ (z : Node-F Node). z.children) (out-roll-Node parts)

bound-roll : (span : Span) (k : Kind) (cs : List Node) → bound_names (node_of span k cs) ≡ bound_by k (map bound_names cs)
bound-roll span k cs =
    let parts : Node-F Node = record { span = span; kind = k; children = cs } in
    bound-out (node_of span k cs) ∙ ap (λ (z : Node-F Node). bound_by z.kind (map bound_names z.children)) (out-roll-Node parts)

-- a constant binds its name
bound-constant : (a v : Node) → bound_names (var_decl_of Const (declared a) v) ≡ bound_names a
unfolding bound_by
bound-constant a v =
    let declarator = node_of dummy_span (kind.VarDeclarator false) (declared a ∷ v ∷ []) in
    bound-roll dummy_span (kind.VarDecl Const false) (list_node (declarator ∷ []) ∷ [])
    ∙ bound-roll dummy_span kind.List (declarator ∷ [])
    ∙ append-nil (bound_names declarator)
    ∙ bound-roll dummy_span (kind.VarDeclarator false) (declared a ∷ v ∷ [])
    ∙ bound-roll (out-Node a).span kind.BindingIdent (a ∷ absent ∷ [])

-- ---- required modules

required-same : (k : Kind) → is_required k ≡ is_required_module k
required-same kind.TsExternalModuleRef = refl
required-same _ = refl

required-kind : (k : Kind) → is_required_module k ≡ true → k ≡ kind.TsExternalModuleRef
required-kind kind.TsExternalModuleRef h = refl
required-kind _ h = cc

required-second : (span : Span) (k : Kind) (a b : Node) → child_is is_required (node_of span k (a ∷ b ∷ [])) 1 ≡ is_required_module (kind_of b)
required-second span k a b = ap (λ (z : List Node). of_kind is_required (slice_get z 1)) (children-roll span k (a ∷ b ∷ [])) ∙ required-same (kind_of b)

bound-first : (span : Span) (k : Kind) (a : Node) (cs : List Node) → bound_at (node_of span k (a ∷ cs)) 0 ≡ bound_names a
bound-first span k a cs = ap (λ (z : List Node). bound_of (slice_get z 0)) (children-roll span k (a ∷ cs))

-- where a function is there that requires a module, `exports` is free too
abbrev pub Goes : Names → Type 0
Goes names = (names.required ≡ None) ⊎ ((function : Ident) × (free : ℕ) × (names ≡ record { required = Some function; free = Some free }))

-- the right side that stays where no function is there that requires it
module _ (names : Names) (none : names.required ≡ None) where
  required-stays : (b : Node) → HasShape (one sort.TsModuleRef) b → is_required_module (kind_of b) ≡ true → is_required_module (kind_of (write names seat.Value b)) ≡ true
  required-stays b h r =
      let is = required-kind (kind_of b) r in
      let single = one-child (one sort.Str) (out-Node b).children (children-shaped is) in
      ap (λ z. is_required_module (kind_of (write names seat.Value z))) (rolled b kind.TsExternalModuleRef is ∙ ap (node_of (out-Node b).span kind.TsExternalModuleRef) single.1)
      ∙ ap (λ z. is_required_module (kind_of z)) (required-out names (out-Node b).span single.0 ∙ ap (λ o. required_of o (out-Node b).span (single.0 ∷ [])) none)
      ∙ ap is_required_module (kind-roll (out-Node b).span kind.TsExternalModuleRef (single.0 ∷ []))
    where
      children-shaped : kind_of b ≡ kind.TsExternalModuleRef → HaveShapes (one sort.Str ∷ []) (out-Node b).children
      children-shaped is = subst (λ k. HaveShapes (child_shapes k (one sort.TsModuleRef) (length (out-Node b).children)) (out-Node b).children) is (shape-out b (one sort.TsModuleRef) h).1

-- ---- what tells nothing

module _ (text : Id → List ℕ) where
  abbrev SilentBy : Kind → Node → Type 0
  SilentBy k n = (import_by text k n ≡ []) × (re_export_by k n ≡ []) × (export_by text k n ≡ [])

  silent-as : (n : Node) (k : Kind) → kind_of n ≡ k → SilentBy k n → IsSilent text n
  silent-as n k is s = subst (λ (z : Kind). SilentBy z n) (sym is) s

  pub made-silent : (span : Span) (k : Kind) (cs : List Node) → is_item k ≡ false → IsSilent text (node_of span k cs)
  made-silent span k cs h = silent text (node_of span k cs) (ap is_item (kind-roll span k cs) ∙ h)

  constant-silent : (span : Span) (a v : Node) → IsSilent text (constant span a v)
  constant-silent span a v =
      let declaration = var_decl_of Const (declared a) v in
      made-silent span (out-Node declaration).kind (out-Node declaration).children
      (ap is_item (kind-roll dummy_span (kind.VarDecl Const false) (list_node (node_of dummy_span (kind.VarDeclarator false) (declared a ∷ v ∷ []) ∷ []) ∷ [])))

  -- an import that is not exported, and one of a required module
  import-silent : (span : Span) (e : Bool) (a b : Node) → (e ≡ true → is_required_module (kind_of b) ≡ true) → IsSilent text (node_of span (as_import e) (a ∷ b ∷ []))
  import-silent span false a b h = silent-as (node_of span (as_import false) (a ∷ b ∷ [])) (as_import false) (kind-roll span (as_import false) (a ∷ b ∷ [])) (refl, refl, refl)
  import-silent span true a b h =
      let n = node_of span (as_import true) (a ∷ b ∷ []) in
      silent-as n (as_import true) (kind-roll span (as_import true) (a ∷ b ∷ []))
      (refl, refl, ap (λ (q : Bool). cond q [] (map (by_its_name text) (bound_at n 0))) (required-second span (as_import true) a b ∙ h refl))

  export-silent : (free : Option ℕ) (span : Span) (e : Node) → IsSilent text (export_of free span (e ∷ []))
  export-silent None span e = made-silent span kind.TsExportAssignment (e ∷ []) refl
  export-silent (Some free) span e = made-silent span kind.ExprStmt (assign_of Assign (module_exports free) e ∷ []) refl

  -- ---- an exported alias is an exported constant

  module _ (span : Span) (a b v : Node) (named : is_required_module (kind_of b) ≡ false) where
    abbrev alias : Node
    alias = node_of span (as_import true) (a ∷ b ∷ [])

    abbrev exported : Node
    exported = node_of span kind.ExportDecl (var_decl_of Const (declared a) v ∷ [])

    alias-kind : kind_of alias ≡ as_import true
    alias-kind = kind-roll span (as_import true) (a ∷ b ∷ [])

    exported-kind : kind_of exported ≡ kind.ExportDecl
    exported-kind = kind-roll span kind.ExportDecl (var_decl_of Const (declared a) v ∷ [])

    alias-exports : export_by text (as_import true) alias ≡ map (by_its_name text) (bound_names a)
    alias-exports =
        ap (λ (q : Bool). cond q [] (map (by_its_name text) (bound_at alias 0))) (required-second span (as_import true) a b ∙ named)
        ∙ ap (map (by_its_name text)) (bound-first span (as_import true) a (b ∷ []))

    constant-exports : export_by text kind.ExportDecl exported ≡ map (by_its_name text) (bound_names a)
    constant-exports = ap (map (by_its_name text)) (bound-first span kind.ExportDecl (var_decl_of Const (declared a) v) [] ∙ bound-constant a v)

    alias-tells : Tells text text alias exported
    alias-tells = (
      ap (λ k. import_by text k exported) exported-kind ∙ sym (ap (λ k. import_by text k alias) alias-kind),
      ap (λ k. re_export_by k exported) exported-kind ∙ sym (ap (λ k. re_export_by k alias) alias-kind),
      ap (λ k. export_by text k exported) exported-kind ∙ constant-exports ∙ sym (ap (λ k. export_by text k alias) alias-kind ∙ alias-exports),
    )

  -- ---- imports

  abbrev Same : Node → Node → Type 0
  Same = SameItem text text

  both-silent : (n m : Node) → IsSilent text n → IsSilent text m → Same n m
  both-silent n m s t = inl (s, t)

  -- an alias, whether a function is there that requires modules or not
  alias-same : (names : Names) (e : Bool) (span : Span) (a b v : Node) → is_required_module (kind_of b) ≡ false → Same (node_of span (as_import e) (a ∷ b ∷ [])) (import_of names false e span (a ∷ v ∷ []))
  alias-same names false span a b v named = both-silent (node_of span (as_import false) (a ∷ b ∷ [])) (constant span a v) (import-silent span false a b (λ h. cc)) (constant-silent span a v)
  alias-same names true span a b v named =
      inr ((written-import-lasts names false true span a v).stays ∙ sym (import-lasts span true (a ∷ b ∷ [])).stays, λ s. alias-tells span a b v named)

  -- a required module that stays
  kept-same : (names : Names) (e : Bool) (span : Span) (a b v : Node) → names.required ≡ None → is_required_module (kind_of b) ≡ true → is_required_module (kind_of v) ≡ true
      → Same (node_of span (as_import e) (a ∷ b ∷ [])) (import_of names true e span (a ∷ v ∷ []))
  kept-same names e span a b v none r t =
      let n = node_of span (as_import e) (a ∷ b ∷ []) in
      let m = node_of span (as_import e) (a ∷ v ∷ []) in
      let is : m ≡ import_of names true e span (a ∷ v ∷ []) = sym (ap (λ (o : Option Ident). cond (not (is_some o)) m (constant_of names true e span a v)) none) in
      subst (Same n) is (both-silent n m (import-silent span e a b (λ h. r)) (import-silent span e a v (λ h. t)))

  -- and one that is called for
  called-same : (function : Ident) (free : ℕ) (e : Bool) (span : Span) (a b v : Node) → is_required_module (kind_of b) ≡ true
      → Same (node_of span (as_import e) (a ∷ b ∷ [])) (import_of (record { required = Some function; free = Some free }) true e span (a ∷ v ∷ []))
  called-same function free false span a b v r = both-silent (node_of span (as_import false) (a ∷ b ∷ [])) (constant span a v) (import-silent span false a b (λ h. r)) (constant-silent span a v)
  called-same function free true span a b v r =
      both-silent (node_of span (as_import true) (a ∷ b ∷ [])) (constant span a (assign_of Assign (exports_of free a) v)) (import-silent span true a b (λ h. r))
      (constant-silent span a (assign_of Assign (exports_of free a) v))

  module _ (names : Names) (goes : Goes names) where
    abbrev pub to : Node → Node
    to = write names seat.Item

    written-same : (q e : Bool) (span : Span) (a b : Node) → HasShape (one sort.TsModuleRef) b → is_required_module (kind_of b) ≡ q
        → Same (node_of span (as_import e) (a ∷ b ∷ [])) (import_of names q e span (a ∷ write names seat.Value b ∷ []))
    written-same false e span a b h r = alias-same names e span a b (write names seat.Value b) r
    written-same true e span a b h r = by goes
      where
        by : Goes names → Same (node_of span (as_import e) (a ∷ b ∷ [])) (import_of names true e span (a ∷ write names seat.Value b ∷ []))
        by (inl none) = kept-same names e span a b (write names seat.Value b) none r (required-stays names none b h r)
        by (inr (function, free, is)) =
            subst (λ (z : Names). Same (node_of span (as_import e) (a ∷ b ∷ [])) (import_of z true e span (a ∷ write names seat.Value b ∷ []))) (sym is)
            (called-same function free e span a b (write names seat.Value b) r)

    -- an item tells what it told
    pub item-same : (n : Node) → HasShape (one sort.ModuleItem) n → Same n (to n)
    item-same n h = by (item-is n h)
      where
        by : Item n → Same n (to n)
        by (inl r) = subst (Same n) (sym (rest-stays names seat.Item n r)) (inr (refl, λ s. (refl, refl, refl)))
        by (inr (inl (span, e, a, b, is, ha, hb))) =
            subst (λ z. Same z (to z)) (sym is)
            (subst (Same (node_of span (as_import e) (a ∷ b ∷ []))) (sym (import-out names span e a b)) (written-same (is_required_module (kind_of b)) e span a b hb refl))
        by (inr (inr (span, e, is))) =
            subst (λ z. Same z (to z)) (sym is)
            (subst (Same (node_of span kind.TsExportAssignment (e ∷ []))) (sym (export-out names span e))
            (both-silent (node_of span kind.TsExportAssignment (e ∷ [])) (export_of names.free span (e ∷ [])) (made-silent span kind.TsExportAssignment (e ∷ []) refl) (export-silent names.free span e)))
