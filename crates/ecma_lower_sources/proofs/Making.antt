-- A walk that tells nothing of the parts of an item tells nothing of what is written with them: what a walk owes for that.
use Rattle.std.proofs.Common.{◌≡◌, ◌∙◌, ℕ, Bool, true, false, codes, sym, ap, subst, List, [], ◌∷◌, slice_get}
use Rattle.ecma_config.specs.declared.config.TsImportExportAssignConfig.{TsImportExportAssignConfig}
use Rattle.ecma_kind.specs.Sorts.{belongs}
use Rattle.ecma_kind.specs.declared.kind.Kind.{Kind}
use Rattle.ecma_kind.specs.declared.kind.Kind.TheVariants as kind
use Rattle.ecma_kind.specs.declared.operators.AssignOp.TheVariants.{Assign}
use Rattle.ecma_kind.specs.declared.operators.VarDeclKind.TheVariants.{Const}
use Rattle.ecma_kind.specs.declared.shapes.Sort.TheVariants as sort
use Rattle.ecma_kind.specs.declared.span.Span.{Span}
use Rattle.ecma_tree.specs.Nodes.{absent, dummy_span, list_node, node_of}
use Rattle.ecma_tree.specs.Sorted.{HasShape, one}
use Rattle.ecma_tree.specs.declared.node.Node.{Node, Node-F, fold-roll-Node, out-Node}
use Rattle.ecma_tree.specs.declared.node.Node.TheViews.{out-roll-Node, roll-out-Node}
use Rattle.ecma_tree.proofs.ShapeLaws.{node_has_shape}
use Rattle.ecma_utils.specs.Expressions.{assign_of, key_of, member_of}
use Rattle.ecma_utils.specs.Quotes.{name_of}
use Rattle.ecma_rules.specs.Children.{children_of, items_at, kind_of}
use Rattle.ecma_rules.specs.Targets.{is_simple_target, simple_step}
use Rattle.ecma_fits.specs.Counts.{is_empty}
use Rattle.ecma_strip_rewriting.proofs.PlainKinds.{no, shape-out}
use Rattle.ecma_lower.specs.Writing.{declared, exports_of, module_exports, text_by, text_of}
use Rattle.ecma_lower_strip.proofs.Items.{as_import}
use Rattle.ecma_lower_sources.proofs.Walks.{Passes, node-passed, node-passes, passes-here, passes-so}
use Rattle.ecma_lower_sources.proofs.Writes.{declarator, declares, export_at, exported_value, exports_at, import_at, member_at, qualified_at, require_of, required_at, set_at, Writes}

-- what is around the children of nodes that are read or made: around an item and most of its parts stands `usual`, around a name that is bound `bound`, around
-- what is assigned to `target`, around the key of a member `key`, and around what is called `callee`
pub record Seats (A : Type 0) (inside : A → Node → ℕ → A) (usual bound target key callee : A) : Type 0 where
  pub import_name : (span : Span) (e : Bool) (cs : List Node) → inside usual (node_of span (as_import e) cs) 0 ≡ usual
  pub import_value : (span : Span) (e : Bool) (cs : List Node) → inside usual (node_of span (as_import e) cs) 1 ≡ usual
  pub before_dot : (span : Span) (cs : List Node) → inside usual (node_of span kind.TsQualifiedName cs) 0 ≡ usual
  pub behind_dot : (span : Span) (cs : List Node) → inside usual (node_of span kind.TsQualifiedName cs) 1 ≡ usual
  pub required_text : (span : Span) (cs : List Node) → inside usual (node_of span kind.TsExternalModuleRef cs) 0 ≡ usual
  pub export_value : (span : Span) (cs : List Node) → inside usual (node_of span kind.TsExportAssignment cs) 0 ≡ usual
  pub declarators : (span : Span) (cs : List Node) → inside usual (node_of span (kind.VarDecl Const false) cs) 0 ≡ usual
  pub one_declarator : (cs : List Node) → inside usual (list_node (node_of dummy_span (kind.VarDeclarator false) cs ∷ [])) 0 ≡ usual
  pub one_text : (arg : Node) → HasShape (one sort.Str) arg → inside usual (list_node (arg ∷ [])) 0 ≡ usual
  pub binding : (span : Span) (cs : List Node) → inside usual (node_of span (kind.VarDeclarator false) cs) 0 ≡ bound
  pub value : (span : Span) (cs : List Node) → inside usual (node_of span (kind.VarDeclarator false) cs) 1 ≡ usual
  pub name : (span : Span) (cs : List Node) → inside bound (node_of span kind.BindingIdent cs) 0 ≡ usual
  pub annotation : (span : Span) (cs : List Node) → inside bound (node_of span kind.BindingIdent cs) 1 ≡ usual
  pub declaration : (span : Span) (cs : List Node) → inside usual (node_of span kind.ExportDecl cs) 0 ≡ usual
  pub expression : (span : Span) (cs : List Node) → inside usual (node_of span kind.ExprStmt cs) 0 ≡ usual
  pub left : (span : Span) (cs : List Node) → inside usual (node_of span (kind.AssignExpr Assign) cs) 0 ≡ target
  pub right : (span : Span) (cs : List Node) → inside usual (node_of span (kind.AssignExpr Assign) cs) 1 ≡ usual
  pub object : (span : Span) (cs : List Node) → inside usual (node_of span kind.MemberExpr cs) 0 ≡ usual
  pub member_key : (span : Span) (cs : List Node) → inside usual (node_of span kind.MemberExpr cs) 1 ≡ key
  pub target_object : (span : Span) (cs : List Node) → inside target (node_of span kind.MemberExpr cs) 0 ≡ usual
  pub target_key : (span : Span) (cs : List Node) → inside target (node_of span kind.MemberExpr cs) 1 ≡ key
  pub called : (span : Span) (cs : List Node) → inside usual (node_of span kind.CallExpr cs) 0 ≡ callee
  pub arguments : (span : Span) (cs : List Node) → inside usual (node_of span kind.CallExpr cs) 1 ≡ usual
  pub type_arguments : (span : Span) (cs : List Node) → inside usual (node_of span kind.CallExpr cs) 2 ≡ usual

-- a node that is made fails nowhere, and a key where the name does not fail that has its text
pub record Quiet (A : Type 0) (test : A → Kind → Node → Bool) (free : ℕ) (usual bound target key callee : A) : Type 0 where
  pub list : (n : Node) → test usual kind.List n ≡ false
  pub missing : (n : Node) → test usual kind.Absent n ≡ false
  pub declaration : (n : Node) → is_empty (items_at n 0) ≡ false → test usual (kind.VarDecl Const false) n ≡ false
  pub variable : (n : Node) → test usual (kind.VarDeclarator false) n ≡ false
  pub binding : (n : Node) → test bound kind.BindingIdent n ≡ false
  pub exported : (n : Node) → test usual kind.ExportDecl n ≡ false
  pub statement : (n : Node) → test usual kind.ExprStmt n ≡ false
  pub assignment : (n : Node) → test usual (kind.AssignExpr Assign) n ≡ false
  pub member : (n : Node) → test usual kind.MemberExpr n ≡ false
  pub assigned : (n : Node) → is_simple_target n ≡ true → test target kind.MemberExpr n ≡ false
  pub call : (n : Node) → test usual kind.CallExpr n ≡ false
  pub require : (n : Node) → test callee (kind.Ident (codes "require") free false) n ≡ false
  pub exports : (n : Node) → test usual (kind.Ident (codes "exports") free false) n ≡ false
  pub module' : (n : Node) → test usual (kind.Ident (codes "module") free false) n ≡ false
  pub exports_key : (n : Node) → test key (kind.IdentName (codes "exports")) n ≡ false
  pub key_of_name : (text : List ℕ) (ctxt : ℕ) (optional : Bool) (n m : Node) → test usual (kind.Ident text ctxt optional) n ≡ false → test key (kind.IdentName text) m ≡ false
  pub own_key : (text : List ℕ) (n : Node) → test usual (kind.IdentName text) n ≡ false → test key (kind.IdentName text) n ≡ false

-- ---- what made nodes hold

items-roll : (span : Span) (k : Kind) (n : Node) → items_at (node_of span k (list_node (n ∷ []) ∷ [])) 0 ≡ n ∷ []
items-roll span k n =
    let outer : Node-F Node = record { span = span; kind = k; children = list_node (n ∷ []) ∷ [] } in
    let inner : Node-F Node = record { span = dummy_span; kind = kind.List; children = n ∷ [] } in
    ap (λ (z : Node-F Node). children_of (slice_get z.children 0)) (out-roll-Node outer) ∙ ap (λ (z : Node-F Node). z.children) (out-roll-Node inner)

member-simple : (span : Span) (l r : Node) → is_simple_target (member_at span l r) ≡ true
member-simple span l r = fold-roll-Node Bool simple_step (record { span = span; kind = kind.MemberExpr; children = l ∷ r ∷ [] })

-- ---- the parts of items

module _ (A : Type 0) (test : A → Kind → Node → Bool) (inside : A → Node → ℕ → A) (usual bound target key callee : A) (seats : Seats A inside usual bound target key callee) where
  abbrev Pass : A → Node → Type 0
  Pass = Passes A test inside

  moved : (a b : A) (n : Node) → a ≡ b → Pass a n → Pass b n
  moved = passes-so A test inside

  pub import-passed : (span : Span) (e : Bool) (a b : Node) → Pass usual (import_at span e a b) → Pass usual a × Pass usual b
  import-passed span e a b h =
      let parts = (node-passed A test inside span (as_import e) (a ∷ b ∷ []) usual h).1 in (
        moved (inside usual (import_at span e a b) 0) usual a (seats.import_name span e (a ∷ b ∷ [])) parts.0,
        moved (inside usual (import_at span e a b) 1) usual b (seats.import_value span e (a ∷ b ∷ [])) parts.1.0,
      )

  pub dot-passed : (span : Span) (l r : Node) → Pass usual (qualified_at span l r) → Pass usual l × Pass usual r
  dot-passed span l r h =
      let parts = (node-passed A test inside span kind.TsQualifiedName (l ∷ r ∷ []) usual h).1 in (
        moved (inside usual (qualified_at span l r) 0) usual l (seats.before_dot span (l ∷ r ∷ [])) parts.0,
        moved (inside usual (qualified_at span l r) 1) usual r (seats.behind_dot span (l ∷ r ∷ [])) parts.1.0,
      )

  pub required-passed : (span : Span) (arg : Node) → Pass usual (required_at span arg) → Pass usual arg
  required-passed span arg h =
      moved (inside usual (required_at span arg) 0) usual arg (seats.required_text span (arg ∷ [])) (node-passed A test inside span kind.TsExternalModuleRef (arg ∷ []) usual h).1.0

  pub export-passed : (span : Span) (e : Node) → Pass usual (export_at span e) → Pass usual e
  export-passed span e h =
      moved (inside usual (export_at span e) 0) usual e (seats.export_value span (e ∷ [])) (node-passed A test inside span kind.TsExportAssignment (e ∷ []) usual h).1.0

  -- ---- what is made

  module _ (free : ℕ) (quiet : Quiet A test free usual bound target key callee) where
    back : (a b : A) (n : Node) → a ≡ b → Pass b n → Pass a n
    back a b n e h = moved b a n (sym e) h

    absent-passes : Pass usual absent
    absent-passes = node-passes A test inside dummy_span kind.Absent [] usual (quiet.missing absent) tt

    list-passes : (n : Node) → inside usual (list_node (n ∷ [])) 0 ≡ usual → Pass usual n → Pass usual (list_node (n ∷ []))
    list-passes n e h = node-passes A test inside dummy_span kind.List (n ∷ []) usual (quiet.list (list_node (n ∷ []))) (back (inside usual (list_node (n ∷ [])) 0) usual n e h, tt)

    declared-passes : (a : Node) → Pass usual a → Pass bound (declared a)
    declared-passes a h =
        let span = (out-Node a).span in
        let cs = a ∷ absent ∷ [] in
        node-passes A test inside span kind.BindingIdent cs bound (quiet.binding (declared a))
        (back (inside bound (declared a) 0) usual a (seats.name span cs) h, (back (inside bound (declared a) 1) usual absent (seats.annotation span cs) absent-passes, tt))

    declarator-passes : (p v : Node) → Pass bound p → Pass usual v → Pass usual (declarator p v)
    declarator-passes p v hp hv =
        let cs = p ∷ v ∷ [] in
        node-passes A test inside dummy_span (kind.VarDeclarator false) cs usual (quiet.variable (declarator p v))
        (back (inside usual (declarator p v) 0) bound p (seats.binding dummy_span cs) hp, (back (inside usual (declarator p v) 1) usual v (seats.value dummy_span cs) hv, tt))

    pub declares-passes : (span : Span) (a v : Node) → Pass usual a → Pass usual v → Pass usual (declares span a v)
    declares-passes span a v ha hv =
        let d = declarator (declared a) v in
        let list = list_node (d ∷ []) in
        node-passes A test inside span (kind.VarDecl Const false) (list ∷ []) usual (quiet.declaration (declares span a v) (ap is_empty (items-roll span (kind.VarDecl Const false) d))) (
          back (inside usual (declares span a v) 0) usual list (seats.declarators span (list ∷ []))
              (list-passes d (seats.one_declarator (declared a ∷ v ∷ [])) (declarator-passes (declared a) v (declared-passes a ha) hv)),
          tt,
        )

    pub exports-passes : (span : Span) (a v : Node) → Pass usual a → Pass usual v → Pass usual (exports_at span a v)
    exports-passes span a v ha hv =
        let d = declares dummy_span a v in
        node-passes A test inside span kind.ExportDecl (d ∷ []) usual (quiet.exported (exports_at span a v))
        (back (inside usual (exports_at span a v) 0) usual d (seats.declaration span (d ∷ [])) (declares-passes dummy_span a v ha hv), tt)

    -- keys

    key-passes : (span : Span) (text : List ℕ) → test key (kind.IdentName text) (key_of span text) ≡ false → Pass key (key_of span text)
    key-passes span text h = node-passes A test inside span (kind.IdentName text) [] key h tt

    name-key : (k : Kind) (n m : Node) → belongs sort.Ident k ≡ true → test usual k n ≡ false → test key (kind.IdentName (text_by k)) m ≡ false
    name-key (kind.Ident text ctxt optional) n m g h = quiet.key_of_name text ctxt optional n m h
    name-key _ n m g h = no g

    name-key-passes : (a : Node) → HasShape (one sort.Ident) a → Pass usual a → Pass key (key_of (out-Node a).span (text_of a))
    name-key-passes a g h =
        key-passes (out-Node a).span (text_of a)
        (name-key (kind_of a) a (key_of (out-Node a).span (text_of a)) (shape-out a (one sort.Ident) g).0 (passes-here A test inside a usual h))

    own-key-by : (span : Span) (k : Kind) (cs : List Node) → belongs sort.IdentName k ≡ true → HasShape (one sort.IdentName) (node_of span k cs) → Pass usual (node_of span k cs) → Pass key (node_of span k cs)
    own-key-by span (kind.IdentName text) [] g have h =
        let k = kind.IdentName text in
        node-passes A test inside span k [] key (quiet.own_key text (node_of span k []) (node-passed A test inside span k [] usual h).0) tt
    own-key-by span (kind.IdentName text) (c ∷ cs) g have h = absurd ((node_has_shape span (kind.IdentName text) (c ∷ cs) (one sort.IdentName)).0 have).1
    own-key-by span _ cs g have h = no g

    own-key-passes : (r : Node) → HasShape (one sort.IdentName) r → Pass usual r → Pass key r
    own-key-passes r g h =
        subst (λ z. HasShape (one sort.IdentName) z → Pass usual z → Pass key z) (roll-out-Node r)
        (own-key-by (out-Node r).span (kind_of r) (out-Node r).children (shape-out r (one sort.IdentName) g).0) g h

    -- members

    pub member-passes : (span : Span) (l r : Node) → Pass usual l → HasShape (one sort.IdentName) r → Pass usual r → Pass usual (member_at span l r)
    member-passes span l r hl g hr =
        let n = member_at span l r in
        let cs = l ∷ r ∷ [] in
        node-passes A test inside span kind.MemberExpr cs usual (quiet.member n)
        (back (inside usual n 0) usual l (seats.object span cs) hl, (back (inside usual n 1) key r (seats.member_key span cs) (own-key-passes r g hr), tt))

    target-passes : (l r : Node) → Pass usual l → Pass key r → Pass target (member_of l r)
    target-passes l r hl hr =
        let n = member_of l r in
        let cs = l ∷ r ∷ [] in
        node-passes A test inside dummy_span kind.MemberExpr cs target (quiet.assigned n (member-simple dummy_span l r))
        (back (inside target n 0) usual l (seats.target_object dummy_span cs) hl, (back (inside target n 1) key r (seats.target_key dummy_span cs) hr, tt))

    assign-passes : (l v : Node) → Pass target l → Pass usual v → Pass usual (assign_of Assign l v)
    assign-passes l v hl hv =
        let n = assign_of Assign l v in
        let cs = l ∷ v ∷ [] in
        node-passes A test inside dummy_span (kind.AssignExpr Assign) cs usual (quiet.assignment n)
        (back (inside usual n 0) target l (seats.left dummy_span cs) hl, (back (inside usual n 1) usual v (seats.right dummy_span cs) hv, tt))

    free-passes : (a : A) (text : List ℕ) → test a (kind.Ident text free false) (name_of free dummy_span text) ≡ false → Pass a (name_of free dummy_span text)
    free-passes a text h = node-passes A test inside dummy_span (kind.Ident text free false) [] a h tt

    pub shared-passes : (a v : Node) → HasShape (one sort.Ident) a → Pass usual a → Pass usual v → Pass usual (exported_value free a v)
    shared-passes a v g ha hv =
        let object = name_of free dummy_span (codes "exports") in
        assign-passes (exports_of free a) v
        (target-passes object (key_of (out-Node a).span (text_of a)) (free-passes usual (codes "exports") (quiet.exports object)) (name-key-passes a g ha)) hv

    pub set-passes : (span : Span) (e : Node) → Pass usual e → Pass usual (set_at free span e)
    set-passes span e h =
        let object = name_of free dummy_span (codes "module") in
        let property = key_of dummy_span (codes "exports") in
        let set = assign_of Assign (module_exports free) e in
        node-passes A test inside span kind.ExprStmt (set ∷ []) usual (quiet.statement (set_at free span e)) (
          back (inside usual (set_at free span e) 0) usual set (seats.expression span (set ∷ []))
              (assign-passes (module_exports free) e
              (target-passes object property (free-passes usual (codes "module") (quiet.module' object)) (key-passes dummy_span (codes "exports") (quiet.exports_key property))) h),
          tt,
        )

    -- a call

    pub require-passes : (arg : Node) → HasShape (one sort.Str) arg → Pass usual arg → Pass usual (require_of free arg)
    require-passes arg g h =
        let n = require_of free arg in
        let function = name_of free dummy_span (codes "require") in
        let list = list_node (arg ∷ []) in
        let cs = function ∷ list ∷ absent ∷ [] in
        let name = back (inside usual n 0) callee function (seats.called dummy_span cs) (free-passes callee (codes "require") (quiet.require function)) in
        let given = back (inside usual n 1) usual list (seats.arguments dummy_span cs) (list-passes arg (seats.one_text arg g) h) in
        let types = back (inside usual n 2) usual absent (seats.type_arguments dummy_span cs) absent-passes in
        node-passes A test inside dummy_span kind.CallExpr cs usual (quiet.call n) (name, (given, (types, tt)))

    -- where a walk is the same before and after, and around each item is what is usual
    pub passes-written : (assign : TsImportExportAssignConfig) → Writes assign free (Pass usual) (Pass usual) (Pass usual) (Pass usual)
    passes-written assign = record {
      import_parts = import-passed;
      dot_parts = dot-passed;
      text_part = required-passed;
      export_part = export-passed;
      rest = λ n g r h. h;
      import_kept = λ span at e a arg c ga gs h. h;
      export_kept = λ span e c g h. h;
      name = λ a g h. h;
      member = member-passes;
      require = require-passes;
      constant = λ span a v g ha hv. declares-passes span a v ha hv;
      exported = λ span a v g ha hv. exports-passes span a v ha hv;
      shared = shared-passes;
      set = λ span e g h. set-passes span e h;
    }
