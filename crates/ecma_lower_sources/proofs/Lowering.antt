-- Where each form of a module is taken and no assignment is refused, none has to be lowered once its assignments are; and no `require` is made.
use Rattle.std.proofs.Common.{◌≡◌, ◌∙◌, ◌⊎◌, inl, inr, ℕ, Bool, true, false, ◌&&◌, ◌||◌, not, refl, sym, ap, ap₂, subst, List, [], ◌∷◌, Option, Some, None, slice_get}
use Rattle.std.specs.List.{list_any}
use Rattle.ecma_config.specs.declared.config.TsImportExportAssignConfig.{TsImportExportAssignConfig}
use Rattle.ecma_config.specs.declared.config.TsImportExportAssignConfig.TheVariants as way
use Rattle.ecma_kind.specs.Sorts.{belongs}
use Rattle.ecma_kind.specs.declared.kind.Kind.{Kind}
use Rattle.ecma_kind.specs.declared.kind.Kind.TheVariants as kind
use Rattle.ecma_kind.specs.declared.operators.AssignOp.TheVariants.{Assign}
use Rattle.ecma_kind.specs.declared.operators.VarDeclKind.TheVariants.{Const}
use Rattle.ecma_kind.specs.declared.shapes.Sort.TheVariants as sort
use Rattle.ecma_kind.specs.declared.span.Span.{Span}
use Rattle.ecma_tree.specs.Nodes.{dummy_span, node_of}
use Rattle.ecma_tree.specs.Sorted.{HasShape, is_list, one}
use Rattle.ecma_tree.specs.Values.{value_by}
use Rattle.ecma_tree.specs.declared.node.Node.{Node, Node-F, out-Node}
use Rattle.ecma_tree.specs.declared.node.Node.TheViews.{out-roll-Node, roll-out-Node}
use Rattle.ecma_forms.specs.Forms.{first_unlowered, first_untaken, gone_inside, keeps_requires, leaves}
use Rattle.ecma_rules.specs.Children.{child_holds, holds_of}
use Rattle.ecma_strip.specs.Staying.{is_declared, specifier_stays, stays}
use Rattle.ecma_strip_rewriting.proofs.PlainKinds.{no, shape-out}
use Rattle.ecma_strip_rewriting.proofs.Stays.{kind-roll, stays-roll}
use Rattle.ecma_lower.specs.Assignments.{is_export_assignment, is_export_by, is_import_by, is_required, is_required_import}
use Rattle.ecma_lower.specs.Checking.{first_refusal, refuses_exports, refuses_imports}
use Rattle.ecma_lower.specs.Items.{items_of}
use Rattle.ecma_lower.specs.Names.{names_of}
use Rattle.ecma_lower.specs.Writing.{declared}
use Rattle.ecma_lower_strip.proofs.Items.{Item as ItemForm, as_import, item-is}
use Rattle.ecma_lower_strip.proofs.Plain.{constants-last, import-lasts, written-export-lasts, written-import-lasts}
use Rattle.ecma_lower_strip.proofs.Resting.{argument-stays, rests}
use Rattle.ecma_lower_sources.specs.Laws.{LoweredSourcesNeedNoLowering, TakenTreesMakeNoRequire}
use Rattle.ecma_lower_sources.proofs.Making.{Quiet, Seats, declares-passes, dot-passed, export-passed, exports-passes, import-passed, member-passes, require-passes, required-passed, set-passes, shared-passes}
use Rattle.ecma_lower_sources.proofs.Modules.{Each, each-both, items-lowered, list_at, lowered-so, lowered_items, module-form, module-items, module_at}
use Rattle.ecma_lower_sources.proofs.Refusals.{Unrefused, exports-unrefused, imports-unrefused}
use Rattle.ecma_lower_sources.proofs.Sorts.{items-sorted}
use Rattle.ecma_lower_sources.proofs.Taken.{Lowered, Taken, all-gone, is_outer, item-kept, sort-kept, unlowered, untaken}
use Rattle.ecma_lower_sources.proofs.Walks.{Along, first, items-pass, module-passes, node-passed, passes-so}
use Rattle.ecma_lower_sources.proofs.Writes.{IsItem, Side, Writes, declares, export_at, exports_at, import_at, is_classic, member_at, required_at, set_at, side-is}

-- ---- what goes

gone-roll : (span : Span) (k : Kind) (cs : List Node) (i : ℕ) → is_list k ≡ false → gone_inside false (node_of span k cs) i ≡ false
gone-roll span k cs i l =
    let n = node_of span k cs in
    ap (λ z. is_list z && child_holds leaves n i) (kind-roll span k cs) ∙ ap (λ b. b && child_holds leaves n i) l

gone-list : (span : Span) (cs : List Node) (i : ℕ) → gone_inside false (node_of span kind.List cs) i ≡ holds_of leaves (slice_get cs i)
gone-list span cs i =
    let parts : Node-F Node = record { span = span; kind = kind.List; children = cs } in
    ap (λ (z : Node-F Node). is_list z.kind && holds_of leaves (slice_get z.children i)) (out-roll-Node parts)

declarator-stays : (cs : List Node) → stays (node_of dummy_span (kind.VarDeclarator false) cs) ≡ true
unfolding value_by is_declared specifier_stays
declarator-stays cs = stays-roll dummy_span (kind.VarDeclarator false) cs

gone-seats : Seats Bool gone_inside false false false false false
gone-seats = record {
  import_name = λ span e cs. gone-roll span (kind.TsImportEqualsDecl e false) cs 0 refl;
  import_value = λ span e cs. gone-roll span (kind.TsImportEqualsDecl e false) cs 1 refl;
  before_dot = λ span cs. gone-roll span kind.TsQualifiedName cs 0 refl;
  behind_dot = λ span cs. gone-roll span kind.TsQualifiedName cs 1 refl;
  required_text = λ span cs. gone-roll span kind.TsExternalModuleRef cs 0 refl;
  export_value = λ span cs. gone-roll span kind.TsExportAssignment cs 0 refl;
  declarators = λ span cs. gone-roll span (kind.VarDecl Const false) cs 0 refl;
  one_declarator = λ cs. gone-list dummy_span (node_of dummy_span (kind.VarDeclarator false) cs ∷ []) 0 ∙ ap not (declarator-stays cs);
  one_text = λ arg h. gone-list dummy_span (arg ∷ []) 0 ∙ ap not (argument-stays arg h);
  binding = λ span cs. gone-roll span (kind.VarDeclarator false) cs 0 refl;
  value = λ span cs. gone-roll span (kind.VarDeclarator false) cs 1 refl;
  name = λ span cs. gone-roll span kind.BindingIdent cs 0 refl;
  annotation = λ span cs. gone-roll span kind.BindingIdent cs 1 refl;
  declaration = λ span cs. gone-roll span kind.ExportDecl cs 0 refl;
  expression = λ span cs. gone-roll span kind.ExprStmt cs 0 refl;
  left = λ span cs. gone-roll span (kind.AssignExpr Assign) cs 0 refl;
  right = λ span cs. gone-roll span (kind.AssignExpr Assign) cs 1 refl;
  object = λ span cs. gone-roll span kind.MemberExpr cs 0 refl;
  member_key = λ span cs. gone-roll span kind.MemberExpr cs 1 refl;
  target_object = λ span cs. gone-roll span kind.MemberExpr cs 0 refl;
  target_key = λ span cs. gone-roll span kind.MemberExpr cs 1 refl;
  called = λ span cs. gone-roll span kind.CallExpr cs 0 refl;
  arguments = λ span cs. gone-roll span kind.CallExpr cs 1 refl;
  type_arguments = λ span cs. gone-roll span kind.CallExpr cs 2 refl;
}

low-quiet : (free : ℕ) → Quiet Bool unlowered free false false false false false
low-quiet free = record {
  list = λ n. refl;
  missing = λ n. refl;
  declaration = λ n h. refl;
  variable = λ n. refl;
  binding = λ n. refl;
  exported = λ n. refl;
  statement = λ n. refl;
  assignment = λ n. refl;
  member = λ n. refl;
  assigned = λ n h. refl;
  call = λ n. refl;
  require = λ n. refl;
  exports = λ n. refl;
  module' = λ n. refl;
  exports_key = λ n. refl;
  key_of_name = λ text ctxt optional n m h. refl;
  own_key = λ text n h. refl;
}

-- ---- the items of a module

in-module : (span : Span) (shebang : Option (List ℕ)) (cs : List Node) → gone_inside false (node_of span (kind.Module shebang) cs) 0 ≡ false
in-module span shebang cs = gone-roll span (kind.Module shebang) cs 0 refl

-- a test that no list fails which does not go
along : (test : Bool → Kind → Node → Bool) → ((n : Node) → test false kind.List n ≡ false) → Along Bool test gone_inside leaves false
along test quiet = record {
  list = λ span shebang at ns. ap (λ w. test w kind.List (list_at at ns)) (in-module span shebang (list_at at ns ∷ [])) ∙ quiet (list_at at ns);
  items = λ span shebang at ns i n get h.
      (λ j. first Bool test gone_inside n (gone_inside (in-module span shebang (list_at at ns ∷ []) j) (list_at at ns) i))
      ∙ ap (first Bool test gone_inside n) (gone-list at ns i ∙ ap (holds_of leaves) get);
}

-- ---- an item

module _ (assign : TsImportExportAssignConfig) where
  abbrev Before : Node → Type 0
  Before n = Taken assign (leaves n) n × Unrefused assign n

  abbrev Part : Node → Type 0
  Part n = Taken assign false n

  abbrev After : Node → Type 0
  After n = Lowered assign (leaves n) n

  abbrev Value : Node → Type 0
  Value n = Lowered assign false n

  import-asked : (span : Span) (e : Bool) (a b : Node) → Taken assign (leaves (import_at span e a b)) (import_at span e a b) → Part (import_at span e a b)
  import-asked span e a b h =
      passes-so Bool (untaken assign) gone_inside (leaves (import_at span e a b)) false (import_at span e a b) (ap not (import-lasts span e (a ∷ b ∷ [])).stays) h

  imported : (span : Span) (e : Bool) (a b : Node) → Before (import_at span e a b) → Part a × Part b
  imported span e a b h = import-passed Bool (untaken assign) gone_inside false false false false false gone-seats span e a b (import-asked span e a b h.0)

  export-asked : (span : Span) (e : Node) → Taken assign (leaves (export_at span e)) (export_at span e) → Part (export_at span e)
  export-asked span e h =
      passes-so Bool (untaken assign) gone_inside (leaves (export_at span e)) false (export_at span e) (ap not (written-export-lasts None span e).stays) h

  -- what stays where it is made is asked
  made-so : (n : Node) → stays n ≡ true → Value n → After n
  made-so n s h = passes-so Bool unlowered gone_inside false (leaves n) n (sym (ap not s)) h

  -- items that stay

  rest-kind : (k : Kind) → rests k ≡ true → belongs sort.ModuleItem k ≡ true → ((is_outer k ≡ false) × (is_list k ≡ false)) ⊎ ((e : Bool) × (k ≡ kind.TsImportEqualsDecl e true))
  rest-kind (kind.Module shebang) h b = no h
  rest-kind kind.List h b = no h
  rest-kind (kind.TsImportEqualsDecl e false) h b = no h
  rest-kind (kind.TsImportEqualsDecl e true) h b = inr (e, refl)
  rest-kind kind.TsExternalModuleRef h b = no h
  rest-kind kind.TsQualifiedName h b = no h
  rest-kind kind.TsExportAssignment h b = no h
  rest-kind _ h b = inl (refl, refl)

  type-goes : (span : Span) (e : Bool) (cs : List Node) → stays (node_of span (kind.TsImportEqualsDecl e true) cs) ≡ false
  unfolding value_by is_declared specifier_stays
  type-goes span e cs = stays-roll span (kind.TsImportEqualsDecl e true) cs

  rested : (n : Node) → IsItem n → rests (out-Node n).kind ≡ true → Before n → After n
  rested n g r h = by (rest-kind (out-Node n).kind r (shape-out n (one sort.ModuleItem) g).0)
    where
      by : ((is_outer (out-Node n).kind ≡ false) × (is_list (out-Node n).kind ≡ false)) ⊎ ((e : Bool) × ((out-Node n).kind ≡ kind.TsImportEqualsDecl e true)) → After n
      by (inl (outer, list)) = item-kept assign n (one sort.ModuleItem) g outer list (leaves n) h.0
      by (inr (e, is)) =
          let form : n ≡ node_of (out-Node n).span (kind.TsImportEqualsDecl e true) (out-Node n).children = sym (roll-out-Node n) ∙ ap (λ z. node_of (out-Node n).span z (out-Node n).children) is in
          let goes : leaves n ≡ true = ap leaves form ∙ ap not (type-goes (out-Node n).span e (out-Node n).children) in
          passes-so Bool unlowered gone_inside true (leaves n) n (sym goes) (all-gone unlowered (λ k m. refl) n)

required-roll : (span at : Span) (e : Bool) (a arg : Node) → is_required_import (import_at span e a (required_at at arg)) ≡ true
required-roll span at e a arg =
    let parts : Node-F Node = record { span = span; kind = as_import e; children = a ∷ required_at at arg ∷ [] } in
    ap (λ (z : Node-F Node). is_import_by z.kind z.children) (out-roll-Node parts) ∙ ap is_required (kind-roll at kind.TsExternalModuleRef (arg ∷ []))

-- where an import of a required module is kept, it is not taken
not-required : {X : Type 0} (assign : TsImportExportAssignConfig) → keeps_requires assign ≡ true → (at : Span) (arg : Node) → Part assign (required_at at arg) → X
not-required assign keeps at arg h =
    let told = (node-passed Bool (untaken assign) gone_inside at kind.TsExternalModuleRef (arg ∷ []) false h).0 in
    no (sym told ∙ ap (λ b. b || false) keeps)

-- an import of a required module that stays is refused, or not taken
import-stays-not : {X : Type 0} (assign : TsImportExportAssignConfig) (span at : Span) (e : Bool) (a arg : Node) → is_classic assign ≡ false → Before assign (import_at span e a (required_at at arg)) → X
import-stays-not way.Classic span at e a arg c h = no (sym c)
import-stays-not way.Preserve span at e a arg c h = not-required way.Preserve refl at arg (imported way.Preserve span e a (required_at at arg) h).1
import-stays-not way.NodeNext span at e a arg c h = not-required way.NodeNext refl at arg (imported way.NodeNext span e a (required_at at arg) h).1
import-stays-not way.EsNext span at e a arg c h = no (sym (h.1.0 refl) ∙ required-roll span at e a arg)

export-roll : (span : Span) (e : Node) → is_export_assignment (export_at span e) ≡ true
export-roll span e = ap is_export_by (kind-roll span kind.TsExportAssignment (e ∷ []))

-- and so is an `export =` that stays
export-stays-not : {X : Type 0} (assign : TsImportExportAssignConfig) (span : Span) (e : Node) → is_classic assign ≡ false → Before assign (export_at span e) → X
export-stays-not way.Classic span e c h = no (sym c)
export-stays-not way.Preserve span e c h =
    let told = (node-passed Bool (untaken way.Preserve) gone_inside span kind.TsExportAssignment (e ∷ []) false (export-asked way.Preserve span e h.0)).0 in
    no (sym told)
export-stays-not way.NodeNext span e c h = no (sym (h.1.1 refl) ∙ export-roll span e)
export-stays-not way.EsNext span e c h = no (sym (h.1.1 refl) ∙ export-roll span e)

module _ (assign : TsImportExportAssignConfig) (free : ℕ) where
  low-written : Writes assign free (Before assign) (Part assign) (After assign) (Value assign)
  low-written =
      let low = low-quiet free in
      record {
        import_parts = imported assign;
        dot_parts = dot-passed Bool (untaken assign) gone_inside false false false false false gone-seats;
        text_part = required-passed Bool (untaken assign) gone_inside false false false false false gone-seats;
        export_part = λ span e h. export-passed Bool (untaken assign) gone_inside false false false false false gone-seats span e (export-asked assign span e h.0);
        rest = rested assign;
        import_kept = λ span at e a arg c ha hs h. import-stays-not assign span at e a arg c h;
        export_kept = λ span e c g h. export-stays-not assign span e c h;
        name = λ a g h. sort-kept assign sort.Ident a refl g h;
        member = λ span l r hl g hr. member-low span l r hl g (sort-kept assign sort.IdentName r refl g hr);
        require = λ arg g h. require-passes Bool unlowered gone_inside false false false false false gone-seats free low arg g (sort-kept assign sort.Str arg refl g h);
        constant = λ span a v g ha hv. made-so assign (declares span a v) (constants-last span (declared a) v).stays (declares-low span a v (sort-kept assign sort.Ident a refl g ha) hv);
        exported = λ span a v g ha hv.
            made-so assign (exports_at span a v) (written-import-lasts (names_of way.Classic free None) false true span a v).stays (exports-low span a v (sort-kept assign sort.Ident a refl g ha) hv);
        shared = λ a v g ha hv. shared-passes Bool unlowered gone_inside false false false false false gone-seats free low a v g (sort-kept assign sort.Ident a refl g ha) hv;
        set = λ span e g h. made-so assign (set_at free span e) (written-export-lasts (Some free) span e).stays (set-low span e (sort-kept assign sort.Expr e refl g h));
      }
    where
      member-low : (span : Span) (l r : Node) → Value assign l → HasShape (one sort.IdentName) r → Value assign r → Value assign (member_at span l r)
      member-low = member-passes Bool unlowered gone_inside false false false false false gone-seats free (low-quiet free)

      declares-low : (span : Span) (a v : Node) → Value assign a → Value assign v → Value assign (declares span a v)
      declares-low = declares-passes Bool unlowered gone_inside false false false false false gone-seats free (low-quiet free)

      exports-low : (span : Span) (a v : Node) → Value assign a → Value assign v → Value assign (exports_at span a v)
      exports-low = exports-passes Bool unlowered gone_inside false false false false false gone-seats free (low-quiet free)

      set-low : (span : Span) (e : Node) → Value assign e → Value assign (set_at free span e)
      set-low = set-passes Bool unlowered gone_inside false false false false false gone-seats free (low-quiet free)

-- ---- the module

module _ (assign : TsImportExportAssignConfig) (span : Span) (shebang : Option (List ℕ)) (at : Span) (ns : List Node) (items : Each IsItem ns) where
  taken-each : first_untaken assign (module_at span shebang at ns) ≡ None → Each (λ n. Taken assign (leaves n) n) ns
  taken-each h = (items-pass Bool (untaken assign) gone_inside leaves false (along (untaken assign) (λ n. refl)) span shebang at ns items h).1

  before-each : first_untaken assign (module_at span shebang at ns) ≡ None → first_refusal assign (module_at span shebang at ns) ≡ None → Each (Before assign) ns
  before-each h r =
      let is = module-items span shebang at ns in
      let imports = subst (Each (λ n. refuses_imports assign ≡ true → is_required_import n ≡ false)) is (imports-unrefused assign (module_at span shebang at ns) r) in
      let exports = subst (Each (λ n. refuses_exports assign ≡ true → is_export_assignment n ≡ false)) is (exports-unrefused assign (module_at span shebang at ns) r) in
      each-both (λ n. Taken assign (leaves n) n) (Unrefused assign) (Before assign) (λ n t u. (t, u)) ns (taken-each h)
      (each-both (λ n. refuses_imports assign ≡ true → is_required_import n ≡ false) (λ n. refuses_exports assign ≡ true → is_export_assignment n ≡ false)
      (Unrefused assign) (λ n i e. (i, e)) ns imports exports)

  lowered : (free : ℕ) → (first_untaken assign (module_at span shebang at ns) ≡ None) × (first_refusal assign (module_at span shebang at ns) ≡ None)
      → first_unlowered (module_at span shebang at (lowered_items assign free ns)) ≡ None
  lowered free (h, r) =
      let ms = lowered_items assign free ns in
      module-passes Bool unlowered gone_inside leaves false (along unlowered (λ n. refl)) span shebang at ms (items-sorted assign free ns items) refl
      (items-lowered assign free (Before assign) (Part assign) (After assign) (Value assign) (low-written assign free) ns items (before-each h r))

pub lowered_sources_need_no_lowering : LoweredSourcesNeedNoLowering
lowered_sources_need_no_lowering assign tree sorted h r =
    lowered-so assign 0 (λ n. (first_untaken assign n ≡ None) × (first_refusal assign n ≡ None)) (λ n. first_unlowered n ≡ None) tree sorted
    (λ span shebang at ns items. lowered assign span shebang at ns items 0) (h, r)

-- ---- no `require` is made

module _ (assign : TsImportExportAssignConfig) (keeps : keeps_requires assign ≡ true) where
  rests-unrequired : (k : Kind) (cs : List Node) → rests k ≡ true → is_import_by k cs ≡ false
  rests-unrequired (kind.TsImportEqualsDecl e false) cs h = no h
  rests-unrequired _ cs h = refl

  import-unrequired : (span : Span) (e : Bool) (a b : Node) → Side b → Part assign b → is_required (out-Node b).kind ≡ false
  import-unrequired span e a b (inl hb) h = entity (out-Node b).kind (shape-out b (one sort.TsEntityName) hb).0
    where
      entity : (k : Kind) → belongs sort.TsEntityName k ≡ true → is_required k ≡ false
      entity kind.TsExternalModuleRef h = no h
      entity _ h = refl
  import-unrequired span e a b (inr (at, arg, is, hs)) h = not-required assign keeps at arg (subst (Part assign) is h)

  unrequired : (n : Node) → IsItem n → Taken assign (leaves n) n → is_required_import n ≡ false
  unrequired n g h = by (item-is n g)
    where
      import-by : (span : Span) (e : Bool) (a b : Node) → HasShape (one sort.TsModuleRef) b → Taken assign (leaves (import_at span e a b)) (import_at span e a b) → is_required_import (import_at span e a b) ≡ false
      import-by span e a b hb t =
          let parts : Node-F Node = record { span = span; kind = as_import e; children = a ∷ b ∷ [] } in
          let part = (import-passed Bool (untaken assign) gone_inside false false false false false gone-seats span e a b (import-asked assign span e a b t)).1 in
          ap (λ (z : Node-F Node). is_import_by z.kind z.children) (out-roll-Node parts) ∙ import-unrequired span e a b (side-is b hb) part

      by : ItemForm n → is_required_import n ≡ false
      by (inl r) = rests-unrequired (out-Node n).kind (out-Node n).children r
      by (inr (inl (span, e, a, b, is, ha, hb))) = subst (λ z. Taken assign (leaves z) z → is_required_import z ≡ false) (sym is) (import-by span e a b hb) h
      by (inr (inr (span, e, is))) =
          let parts : Node-F Node = record { span = span; kind = kind.TsExportAssignment; children = e ∷ [] } in
          ap is_required_import is ∙ ap (λ (z : Node-F Node). is_import_by z.kind z.children) (out-roll-Node parts)

  none-required : (ns : List Node) → Each IsItem ns → Each (λ n. Taken assign (leaves n) n) ns → list_any is_required_import ns ≡ false
  none-required [] items h = refl
  none-required (n ∷ ns) items h = ap₂ (λ a b. a || b) (unrequired n items.0 h.0) (none-required ns items.1 h.1)

pub taken_trees_make_no_require : TakenTreesMakeNoRequire
taken_trees_make_no_require way.NodeNext tree sorted h =
    let form = module-form tree sorted in
    let told = subst (λ z. first_untaken way.NodeNext z ≡ None) form.4 h in
    ap (λ z. list_any is_required_import (items_of z)) form.4
    ∙ ap (list_any is_required_import) (module-items form.0 form.1 form.2 form.3)
    ∙ none-required way.NodeNext refl form.3 form.5 (taken-each way.NodeNext form.0 form.1 form.2 form.3 form.5 told)
taken_trees_make_no_require _ tree sorted h = refl
