-- The clauses of trees that fit, and tests of names: a module of which no node fails one has none with its assignments lowered.
use Rattle.std.proofs.Common.{◌≡◌, ◌∙◌, ℕ, suc, Bool, true, false, ◌==◌, codes, List, [], ◌∷◌, length, Option, refl, ap, slice_get}
use Rattle.ecma_config.specs.declared.config.TsImportExportAssignConfig.{TsImportExportAssignConfig}
use Rattle.ecma_kind.specs.Sorts.{belongs}
use Rattle.ecma_kind.specs.declared.kind.Kind.{Kind}
use Rattle.ecma_kind.specs.declared.kind.Kind.TheVariants as kind
use Rattle.ecma_kind.specs.declared.operators.AssignOp.TheVariants.{Assign}
use Rattle.ecma_kind.specs.declared.operators.VarDeclKind.TheVariants.{Const}
use Rattle.ecma_kind.specs.declared.shapes.Sort.TheVariants as sort
use Rattle.ecma_kind.specs.declared.span.Span.{Span}
use Rattle.ecma_tree.specs.Nodes.{dummy_span, node_of}
use Rattle.ecma_tree.specs.Sorted.{one}
use Rattle.ecma_tree.specs.declared.node.Node.{Node, Node-F, out-Node}
use Rattle.ecma_tree.specs.declared.node.Node.TheViews.{out-roll-Node}
use Rattle.ecma_rules.specs.declared.standing.Standing.{Standing}
use Rattle.ecma_rules.specs.declared.standing.Standing.TheVariants as standing
use Rattle.ecma_rules.specs.declared.target.Target.{Target}
use Rattle.ecma_rules.specs.declared.target.Target.TheVariants as target
use Rattle.ecma_rules.specs.Children.{has_child, is_present, kind_of, of_kind}
use Rattle.ecma_rules.specs.Lists.{last_by}
use Rattle.ecma_rules.specs.Surroundings.{standing_by}
use Rattle.ecma_rules.specs.Targets.{target_in}
use Rattle.ecma_fits.specs.declared.role.Role.{Role}
use Rattle.ecma_fits.specs.declared.role.Role.TheVariants as role
use Rattle.ecma_fits.specs.declared.unfit.Where.{Where}
use Rattle.ecma_fits.specs.Fitting.{NoneFails, at_top, where_in}
use Rattle.ecma_fits.specs.Roles.{role_in}
use Rattle.ecma_fits.specs.Strays.{arguments_in, not_held}
use Rattle.ecma_strip_rewriting.proofs.PlainKinds.{no, shape-out}
use Rattle.ecma_lower_sources.proofs.Making.{Quiet, Seats, passes-written}
use Rattle.ecma_lower_sources.proofs.Modules.{Each, items-lowered, list_at, lowered_items, module_at}
use Rattle.ecma_lower_sources.proofs.Sorts.{items-sorted}
use Rattle.ecma_lower_sources.proofs.Walks.{Along, Passes, first, items-pass, module-passes, tells-alike}
use Rattle.ecma_lower_sources.proofs.Writes.{IsItem}

-- ---- where nodes stand

abbrev pub at_place : Role → Target → Standing → Bool → Where
at_place r t s l = record { role = r; around = record { target = t; standing = s; is_last = l }; arguments = not_held }

abbrev pub usual : Where
usual = at_place role.Free target.Free standing.Plain true

abbrev pub bound : Where
bound = at_place role.Declared target.Free standing.Plain true

abbrev pub assigned : Where
assigned = at_place role.Left target.Left standing.Plain true

abbrev pub keyed : Where
keyed = at_place role.Private target.Free standing.Plain true

abbrev pub called : Where
called = at_place role.Free target.Free standing.Linked true

-- `where_in`, by a node's kind and children
abbrev where_by : Where → Node-F Node → ℕ → Where
where_by w p i = record {
  role = role_in w.role p.kind i;
  around = record {
    target = target_in w.around.target p.kind i;
    standing = standing_by w.around.standing p.kind (of_kind is_present (slice_get p.children 1)) (of_kind is_present (slice_get p.children 2)) i;
    is_last = last_by w.around.is_last p.kind (length p.children) i;
  };
  arguments = arguments_in w.arguments p.kind i;
}

where-roll : (w : Where) (span : Span) (k : Kind) (cs : List Node) (i : ℕ) → where_in w (node_of span k cs) i ≡ where_by w (record { span = span; kind = k; children = cs }) i
where-roll w span k cs i = let parts : Node-F Node = record { span = span; kind = k; children = cs } in ap (λ z. where_by w z i) (out-roll-Node parts)

pub where-seats : Seats Where where_in usual bound assigned keyed called
unfolding role_in target_in standing_by last_by arguments_in
where-seats = record {
  import_name = λ span e cs. where-roll usual span (kind.TsImportEqualsDecl e false) cs 0;
  import_value = λ span e cs. where-roll usual span (kind.TsImportEqualsDecl e false) cs 1;
  before_dot = λ span cs. where-roll usual span kind.TsQualifiedName cs 0;
  behind_dot = λ span cs. where-roll usual span kind.TsQualifiedName cs 1;
  required_text = λ span cs. where-roll usual span kind.TsExternalModuleRef cs 0;
  export_value = λ span cs. where-roll usual span kind.TsExportAssignment cs 0;
  declarators = λ span cs. where-roll usual span (kind.VarDecl Const false) cs 0;
  one_declarator = λ cs. where-roll usual dummy_span kind.List (node_of dummy_span (kind.VarDeclarator false) cs ∷ []) 0;
  one_text = λ arg h. where-roll usual dummy_span kind.List (arg ∷ []) 0;
  binding = λ span cs. where-roll usual span (kind.VarDeclarator false) cs 0;
  value = λ span cs. where-roll usual span (kind.VarDeclarator false) cs 1;
  name = λ span cs. where-roll bound span kind.BindingIdent cs 0;
  annotation = λ span cs. where-roll bound span kind.BindingIdent cs 1;
  declaration = λ span cs. where-roll usual span kind.ExportDecl cs 0;
  expression = λ span cs. where-roll usual span kind.ExprStmt cs 0;
  left = λ span cs. where-roll usual span (kind.AssignExpr Assign) cs 0;
  right = λ span cs. where-roll usual span (kind.AssignExpr Assign) cs 1;
  object = λ span cs. where-roll usual span kind.MemberExpr cs 0;
  member_key = λ span cs. where-roll usual span kind.MemberExpr cs 1;
  target_object = λ span cs. where-roll assigned span kind.MemberExpr cs 0;
  target_key = λ span cs. where-roll assigned span kind.MemberExpr cs 1;
  called = λ span cs. where-roll usual span kind.CallExpr cs 0;
  arguments = λ span cs. where-roll usual span kind.CallExpr cs 1;
  type_arguments = λ span cs. where-roll usual span kind.CallExpr cs 2;
}

-- ---- where the items of a module stand

-- last in its list or not
abbrev pub listed : Bool → Where
listed l = at_place role.Free target.Free standing.Plain l

in-module : (span : Span) (shebang : Option (List ℕ)) (cs : List Node) → where_in at_top (node_of span (kind.Module shebang) cs) 0 ≡ at_top
unfolding role_in target_in standing_by last_by arguments_in
in-module span shebang cs = where-roll at_top span (kind.Module shebang) cs 0

in-list : (at : Span) (ns : List Node) (i : ℕ) → where_in at_top (list_at at ns) i ≡ listed (suc i == length ns)
unfolding role_in target_in standing_by last_by arguments_in
in-list at ns i = where-roll at_top at kind.List ns i

item-last : (k : Kind) (l m : Bool) (count i : ℕ) → belongs sort.ModuleItem k ≡ true → last_by l k count i ≡ last_by m k count i
unfolding last_by
item-last kind.Param l m count i h = no h
item-last (kind.TsParamProp accessibility is_override readonly) l m count i h = no h
item-last kind.AssignPat l m count i h = no h
item-last _ l m count i h = refl

item-kind : (n : Node) → IsItem n → belongs sort.ModuleItem (kind_of n) ≡ true
item-kind n h = (shape-out n (one sort.ModuleItem) h).0

in-item : (n : Node) (l m : Bool) (i : ℕ) → IsItem n → where_in (listed l) n i ≡ where_in (listed m) n i
in-item n l m i h =
    ap (λ (z : Bool). record {
      role = role_in role.Free (kind_of n) i;
      around = record { target = target_in target.Free (kind_of n) i; standing = standing_by standing.Plain (kind_of n) (has_child n 1) (has_child n 2) i; is_last = z };
      arguments = arguments_in not_held (kind_of n) i;
    }) (item-last (kind_of n) l m (length (out-Node n).children) i (item-kind n h))

-- ---- what is asked of a test

pub record Clause (test : Where → Kind → Node → Bool) (free : ℕ) : Type 0 where
  -- a module fails where it did
  pub top : (shebang : Option (List ℕ)) (n m : Node) → test at_top (kind.Module shebang) n ≡ false → test at_top (kind.Module shebang) m ≡ false
  -- whether an item stands last does not matter to it
  pub items : (n : Node) (l m : Bool) → IsItem n → test (listed l) (kind_of n) n ≡ test (listed m) (kind_of n) n
  -- what is made does not fail
  pub quiet : Quiet Where test free usual bound assigned keyed called

module _ (test : Where → Kind → Node → Bool) (free : ℕ) (clause : Clause test free) where
  along : Along Where test where_in (λ n. usual) at_top
  along = record {
    list = λ span shebang at ns. ap (λ w. test w kind.List (list_at at ns)) (in-module span shebang (list_at at ns ∷ [])) ∙ clause.quiet.list (list_at at ns);
    items = λ span shebang at ns i n get h.
        (λ j. first Where test where_in n (where_in (in-module span shebang (list_at at ns ∷ []) j) (list_at at ns) i))
        ∙ ap (first Where test where_in n) (in-list at ns i)
        ∙ tells-alike Where test where_in n (listed (suc i == length ns)) usual (clause.items n (suc i == length ns) true h) (λ j. in-item n (suc i == length ns) true j h);
  }

  -- no node of a module with its assignments lowered fails where none did
  pub none-fails : (assign : TsImportExportAssignConfig) (span : Span) (shebang : Option (List ℕ)) (at : Span) (ns : List Node) → Each IsItem ns
      → NoneFails (λ w n. test w (kind_of n) n) (module_at span shebang at ns) → NoneFails (λ w n. test w (kind_of n) n) (module_at span shebang at (lowered_items assign free ns))
  none-fails assign span shebang at ns items h =
      let P = λ (n : Node). Passes Where test where_in usual n in
      let parts = items-pass Where test where_in (λ n. usual) at_top along span shebang at ns items h in
      let ms = lowered_items assign free ns in
      module-passes Where test where_in (λ n. usual) at_top along span shebang at ms (items-sorted assign free ns items)
      (clause.top shebang (module_at span shebang at ns) (module_at span shebang at ms) parts.0)
      (items-lowered assign free P P P P (passes-written Where test where_in usual bound assigned keyed called where-seats free clause.quiet assign) ns items parts.1)

-- ---- tests that no made node fails, wherever it stands

-- what is made, but for names and for declarations
abbrev pub is_still : Kind → Bool
is_still (kind.Module shebang) = true
is_still kind.List = true
is_still kind.Absent = true
is_still (kind.VarDecl word declare) = true
is_still (kind.VarDeclarator definite) = true
is_still kind.BindingIdent = true
is_still kind.ExportDecl = true
is_still kind.ExprStmt = true
is_still (kind.AssignExpr op) = true
is_still kind.MemberExpr = true
is_still kind.CallExpr = true
is_still (kind.IdentName text) = true
is_still _ = false

abbrev pub NoneOf : (Where → Kind → Node → Bool) → Type 0
NoneOf test = (k : Kind) (n : Node) (r : Role) (t : Target) (s : Standing) (l : Bool) → is_still k ≡ true → test (at_place r t s l) k n ≡ false

-- the test of a free name that is made
abbrev pub NoFreeName : (Where → Kind → Node → Bool) → ℕ → Type 0
NoFreeName test free =
    ((n : Node) → test called (kind.Ident (codes "require") free false) n ≡ false)
    × ((n : Node) → test usual (kind.Ident (codes "exports") free false) n ≡ false)
    × ((n : Node) → test usual (kind.Ident (codes "module") free false) n ≡ false)

pub by-kind : (test : Where → Kind → Node → Bool) (free : ℕ) → NoneOf test → NoFreeName test free
    → ((n : Node) (l m : Bool) → IsItem n → test (listed l) (kind_of n) n ≡ test (listed m) (kind_of n) n) → Clause test free
by-kind test free none names items = record {
  top = λ shebang n m h. none (kind.Module shebang) m role.Free target.Free standing.Plain true refl;
  items = items;
  quiet = record {
    list = λ n. none kind.List n role.Free target.Free standing.Plain true refl;
    missing = λ n. none kind.Absent n role.Free target.Free standing.Plain true refl;
    declaration = λ n h. none (kind.VarDecl Const false) n role.Free target.Free standing.Plain true refl;
    variable = λ n. none (kind.VarDeclarator false) n role.Free target.Free standing.Plain true refl;
    binding = λ n. none kind.BindingIdent n role.Declared target.Free standing.Plain true refl;
    exported = λ n. none kind.ExportDecl n role.Free target.Free standing.Plain true refl;
    statement = λ n. none kind.ExprStmt n role.Free target.Free standing.Plain true refl;
    assignment = λ n. none (kind.AssignExpr Assign) n role.Free target.Free standing.Plain true refl;
    member = λ n. none kind.MemberExpr n role.Free target.Free standing.Plain true refl;
    assigned = λ n h. none kind.MemberExpr n role.Left target.Left standing.Plain true refl;
    call = λ n. none kind.CallExpr n role.Free target.Free standing.Plain true refl;
    require = names.0;
    exports = names.1;
    module' = names.2;
    exports_key = λ n. none (kind.IdentName (codes "exports")) n role.Private target.Free standing.Plain true refl;
    key_of_name = λ text ctxt optional n m h. none (kind.IdentName text) m role.Private target.Free standing.Plain true refl;
    own_key = λ text n h. none (kind.IdentName text) n role.Private target.Free standing.Plain true refl;
  };
}
