-- To lower a tree and drop its contexts is to drop them and lower it.
use Rattle.std.proofs.Common.{◌≡◌, ◌∙◌, ℕ, suc, Bool, true, false, ◌&&◌, not, cond, codes, refl, sym, ap, ap₂, List, [], ◌∷◌, ◌++◌, map, filter, Some, None, slice_get}
use Rattle.std.specs.Option.{is_some}
use Rattle.ecma_config.specs.declared.config.TsImportExportAssignConfig.{TsImportExportAssignConfig}
use Rattle.ecma_config.specs.declared.config.TsImportExportAssignConfig.TheVariants as way
use Rattle.ecma_kind.specs.declared.kind.Kind.{Kind}
use Rattle.ecma_kind.specs.declared.kind.Kind.TheVariants as kind
use Rattle.ecma_kind.specs.declared.operators.AssignOp.TheVariants.{Assign}
use Rattle.ecma_kind.specs.declared.operators.VarDeclKind.TheVariants.{Const}
use Rattle.ecma_kind.specs.declared.span.Span.{Span}
use Rattle.ecma_tree.specs.Changing.{changed_here}
use Rattle.ecma_tree.specs.Contexts.{kind_with_context}
use Rattle.ecma_tree.specs.Nodes.{absent, dummy_span, list_node, node_of}
use Rattle.ecma_tree.specs.declared.node.Node.{Node, Node-F, fold-roll-Node, out-Node}
use Rattle.ecma_tree.specs.declared.node.Node.TheViews.{out-roll-Node, roll-out-Node}
use Rattle.ecma_utils.specs.Expressions.{assign_of, key_of, member_of}
use Rattle.ecma_utils.specs.Quotes.{name_of}
use Rattle.ecma_scope.specs.Laws.{without_contexts}
use Rattle.ecma_strip_rewriting.proofs.Commuting.{by-parts}
use Rattle.ecma_lower.specs.declared.names.Names.{Names}
use Rattle.ecma_lower.specs.declared.seat.Seat.{Seat}
use Rattle.ecma_lower.specs.declared.seat.Seat.TheVariants as seat
use Rattle.ecma_lower.specs.Assignments.{is_export_assignment, is_export_by, is_required, requires_by}
use Rattle.ecma_lower.specs.Items.{first_with, items_by, items_of, with_children}
use Rattle.ecma_lower.specs.Moving.{exports_last, with_exports_last}
use Rattle.ecma_lower.specs.Names.{names_of}
use Rattle.ecma_lower.specs.Seats.{is_raw, seat_in}
use Rattle.ecma_lower.specs.Writing.{constant, constant_of, declared, export_of, exported_constant, exports_of, import_of, module_exports, required_of, text_by, text_of, written}
use Rattle.ecma_lower.proofs.Raw.{raw-stays}
use Rattle.ecma_lower.proofs.Singles.{each_at, write}
use Rattle.ecma_lower_strip.proofs.Resting.{write-roll}
use Rattle.ecma_lower_sources.specs.Laws.{ContextsDoNotMatterToLowering}
use Rattle.ecma_lower_sources.proofs.Writes.{constant-is, declarator, declares, exported_value, import_at, set_at}

abbrev clear : Node → Node
clear = without_contexts

abbrev bare : Kind → Kind
bare = kind_with_context (λ sym ctxt. 0)

clear-roll : (span : Span) (k : Kind) (cs : List Node) → clear (node_of span k cs) ≡ node_of span (bare k) (map clear cs)
clear-roll span k cs = fold-roll-Node Node (changed_here (λ span. span) bare) (record { span = span; kind = k; children = cs })

-- ---- what is asked of kinds

clear-parts : (n : Node) → out-Node (clear n) ≡ record { span = (out-Node n).span; kind = bare (out-Node n).kind; children = map clear (out-Node n).children }
clear-parts n =
    let k = (out-Node n).kind in
    let cs = (out-Node n).children in
    ap (λ z. out-Node (clear z)) (sym (roll-out-Node n)) ∙ ap out-Node (clear-roll (out-Node n).span k cs) ∙ out-roll-Node (record { span = (out-Node n).span; kind = bare k; children = map clear cs })

-- what looks at no context
module _ {X : Type 0} (f : Kind → X) (blind : (text : List ℕ) (a b : ℕ) (optional : Bool) → f (kind.Ident text a optional) ≡ f (kind.Ident text b optional)) where
  bare-same : (k : Kind) → f (bare k) ≡ f k
  bare-same (kind.Ident text ctxt optional) = blind text 0 ctxt optional
  bare-same _ = refl

  kind-same : (n : Node) → f (out-Node (clear n)).kind ≡ f (out-Node n).kind
  kind-same n = ap (λ (z : Node-F Node). f z.kind) (clear-parts n) ∙ bare-same (out-Node n).kind

span-same : (n : Node) → (out-Node (clear n)).span ≡ (out-Node n).span
span-same n = ap (λ (z : Node-F Node). z.span) (clear-parts n)

text-same : (n : Node) → text_of (clear n) ≡ text_of n
text-same n = kind-same text_by (λ text a b optional. refl) n

requires-same : (cs : List Node) → requires_by (map clear cs) ≡ requires_by cs
requires-same [] = refl
requires-same (a ∷ []) = refl
requires-same (a ∷ b ∷ cs) = kind-same is_required (λ text a b optional. refl) b

seat-same : (s : Seat) (k : Kind) (i : ℕ) → seat_in s (bare k) i ≡ seat_in s k i
unfolding seat_in
seat-same s (kind.Ident text ctxt optional) i = refl
seat-same s _ i = refl

-- ---- what is made

clear-absent : clear absent ≡ absent
clear-absent = clear-roll dummy_span kind.Absent []

clear-key : (span : Span) (text : List ℕ) → clear (key_of span text) ≡ key_of span text
clear-key span text = clear-roll span (kind.IdentName text) []

clear-name : (free : ℕ) (text : List ℕ) → clear (name_of free dummy_span text) ≡ name_of 0 dummy_span text
clear-name free text = clear-roll dummy_span (kind.Ident text free false) []

clear-list : (n : Node) → clear (list_node (n ∷ [])) ≡ list_node (clear n ∷ [])
clear-list n = clear-roll dummy_span kind.List (n ∷ [])

clear-member : (l r : Node) → clear (member_of l r) ≡ member_of (clear l) (clear r)
clear-member l r = clear-roll dummy_span kind.MemberExpr (l ∷ r ∷ [])

clear-assign : (l v : Node) → clear (assign_of Assign l v) ≡ assign_of Assign (clear l) (clear v)
clear-assign l v = clear-roll dummy_span (kind.AssignExpr Assign) (l ∷ v ∷ [])

clear-declared : (a : Node) → clear (declared a) ≡ declared (clear a)
clear-declared a =
    clear-roll (out-Node a).span kind.BindingIdent (a ∷ absent ∷ [])
    ∙ ap₂ (λ s z. node_of s kind.BindingIdent (clear a ∷ z ∷ [])) (sym (span-same a)) clear-absent

clear-declares : (span : Span) (a v : Node) → clear (declares span a v) ≡ declares span (clear a) (clear v)
clear-declares span a v =
    let d = declarator (declared a) v in
    clear-roll span (kind.VarDecl Const false) (list_node (d ∷ []) ∷ [])
    ∙ ap (λ z. node_of span (kind.VarDecl Const false) (z ∷ []))
    (clear-list d ∙ ap (λ z. list_node (z ∷ [])) (clear-roll dummy_span (kind.VarDeclarator false) (declared a ∷ v ∷ []) ∙ ap (λ z. declarator z (clear v)) (clear-declared a)))

clear-constant : (span : Span) (a v : Node) → clear (constant span a v) ≡ constant span (clear a) (clear v)
clear-constant span a v = ap clear (constant-is span a v) ∙ clear-declares span a v ∙ sym (constant-is span (clear a) (clear v))

clear-exports : (free : ℕ) (a : Node) → clear (exports_of free a) ≡ exports_of 0 (clear a)
clear-exports free a =
    let key = key_of (out-Node a).span (text_of a) in
    clear-member (name_of free dummy_span (codes "exports")) key
    ∙ ap₂ member_of (clear-name free (codes "exports")) (clear-key (out-Node a).span (text_of a) ∙ ap₂ key_of (sym (span-same a)) (sym (text-same a)))

clear-shared : (free : ℕ) (a v : Node) → clear (exported_value free a v) ≡ exported_value 0 (clear a) (clear v)
clear-shared free a v = clear-assign (exports_of free a) v ∙ ap (λ z. assign_of Assign z (clear v)) (clear-exports free a)

clear-set : (free : ℕ) (span : Span) (e : Node) → clear (set_at free span e) ≡ set_at 0 span (clear e)
clear-set free span e =
    clear-roll span kind.ExprStmt (assign_of Assign (module_exports free) e ∷ [])
    ∙ ap (λ z. node_of span kind.ExprStmt (z ∷ []))
    (clear-assign (module_exports free) e
    ∙ ap (λ z. assign_of Assign z (clear e))
    (clear-member (name_of free dummy_span (codes "module")) (key_of dummy_span (codes "exports")) ∙ ap₂ member_of (clear-name free (codes "module")) (clear-key dummy_span (codes "exports"))))

-- ---- what is written of a node

module _ (free : ℕ) where
  abbrev of : TsImportExportAssignConfig → Names
  of assign = names_of assign free None

  abbrev to : TsImportExportAssignConfig → Names
  to assign = names_of assign 0 None

  -- an alias, and an import of a required module
  clear-exported : (shared : Bool) (span : Span) (a v : Node) → clear (exported_constant (cond shared (Some free) None) span a v) ≡ exported_constant (cond shared (Some 0) None) span (clear a) (clear v)
  clear-exported true span a v = clear-constant span a (exported_value free a v) ∙ ap (constant span (clear a)) (clear-shared free a v)
  clear-exported false span a v = clear-roll span kind.ExportDecl (declares dummy_span a v ∷ []) ∙ ap (λ z. node_of span kind.ExportDecl (z ∷ [])) (clear-declares dummy_span a v)

  clear-none : (q : Bool) (span : Span) (a v : Node) → clear (exported_constant (cond q None None) span a v) ≡ exported_constant (cond q None None) span (clear a) (clear v)
  clear-none true span a v = clear-exported false span a v
  clear-none false span a v = clear-exported false span a v

  constants-clear : (assign : TsImportExportAssignConfig) (q e : Bool) (span : Span) (a v : Node) → clear (constant_of (of assign) q e span a v) ≡ constant_of (to assign) q e span (clear a) (clear v)
  constants-clear assign q false span a v = clear-constant span a v
  constants-clear way.Classic q true span a v = clear-exported q span a v
  constants-clear way.Preserve q true span a v = clear-none q span a v
  constants-clear way.NodeNext q true span a v = clear-none q span a v
  constants-clear way.EsNext q true span a v = clear-none q span a v

  requires-alike : (assign : TsImportExportAssignConfig) → is_some (of assign).required ≡ is_some (to assign).required
  requires-alike way.Classic = refl
  requires-alike way.Preserve = refl
  requires-alike way.NodeNext = refl
  requires-alike way.EsNext = refl

  imports-clear : (assign : TsImportExportAssignConfig) (q e : Bool) (span : Span) (cs : List Node) → clear (import_of (of assign) q e span cs) ≡ import_of (to assign) q e span (map clear cs)
  imports-clear assign q e span [] = clear-roll span (kind.TsImportEqualsDecl e false) []
  imports-clear assign q e span (a ∷ []) = clear-roll span (kind.TsImportEqualsDecl e false) (a ∷ [])
  imports-clear assign q e span (a ∷ v ∷ []) =
      by (q && not (is_some (of assign).required))
      ∙ ap (λ b. cond (q && not b) (import_at span e (clear a) (clear v)) (constant_of (to assign) q e span (clear a) (clear v))) (requires-alike assign)
    where
      by : (b : Bool) → clear (cond b (import_at span e a v) (constant_of (of assign) q e span a v)) ≡ cond b (import_at span e (clear a) (clear v)) (constant_of (to assign) q e span (clear a) (clear v))
      by true = clear-roll span (kind.TsImportEqualsDecl e false) (a ∷ v ∷ [])
      by false = constants-clear assign q e span a v
  imports-clear assign q e span (a ∷ b ∷ c ∷ cs) = clear-roll span (kind.TsImportEqualsDecl e false) (a ∷ b ∷ c ∷ cs)

  required-clear : (assign : TsImportExportAssignConfig) (span : Span) (cs : List Node) → clear (required_of (of assign).required span cs) ≡ required_of (to assign).required span (map clear cs)
  required-clear way.Classic span cs =
      clear-roll dummy_span kind.CallExpr (name_of free dummy_span (codes "require") ∷ list_node cs ∷ absent ∷ [])
      ∙ ap₂ (λ a b. node_of dummy_span kind.CallExpr (a ∷ clear (list_node cs) ∷ b ∷ [])) (clear-name free (codes "require")) clear-absent
      ∙ ap (λ z. node_of dummy_span kind.CallExpr (name_of 0 dummy_span (codes "require") ∷ z ∷ absent ∷ [])) (clear-roll dummy_span kind.List cs)
  required-clear way.Preserve span cs = clear-roll span kind.TsExternalModuleRef cs
  required-clear way.NodeNext span cs = clear-roll span kind.TsExternalModuleRef cs
  required-clear way.EsNext span cs = clear-roll span kind.TsExternalModuleRef cs

  exports-clear : (assign : TsImportExportAssignConfig) (span : Span) (cs : List Node) → clear (export_of (of assign).free span cs) ≡ export_of (to assign).free span (map clear cs)
  exports-clear way.Classic span [] = clear-roll span kind.TsExportAssignment []
  exports-clear way.Classic span (e ∷ []) = clear-set free span e
  exports-clear way.Classic span (a ∷ b ∷ cs) = clear-roll span kind.TsExportAssignment (a ∷ b ∷ cs)
  exports-clear way.Preserve span cs = clear-roll span kind.TsExportAssignment cs
  exports-clear way.NodeNext span cs = clear-roll span kind.TsExportAssignment cs
  exports-clear way.EsNext span cs = clear-roll span kind.TsExportAssignment cs

  item-clear : (assign : TsImportExportAssignConfig) (q : Bool) (span : Span) (k : Kind) (cs : List Node) → clear (written (of assign) seat.Item q span k cs) ≡ written (to assign) seat.Item q span (bare k) (map clear cs)
  unfolding written
  item-clear assign q span (kind.TsImportEqualsDecl e false) cs = imports-clear assign q e span cs
  item-clear assign q span kind.TsExportAssignment cs = exports-clear assign span cs
  item-clear assign q span k cs = clear-roll span k cs

  value-clear : (assign : TsImportExportAssignConfig) (q : Bool) (span : Span) (k : Kind) (cs : List Node) → clear (written (of assign) seat.Value q span k cs) ≡ written (to assign) seat.Value q span (bare k) (map clear cs)
  unfolding written
  value-clear assign q span kind.TsQualifiedName cs = clear-roll span kind.MemberExpr cs
  value-clear assign q span kind.TsExternalModuleRef cs = required-clear assign span cs
  value-clear assign q span k cs = clear-roll span k cs

  written-clear : (assign : TsImportExportAssignConfig) (s : Seat) (q : Bool) (span : Span) (k : Kind) (cs : List Node) → clear (written (of assign) s q span k cs) ≡ written (to assign) s q span (bare k) (map clear cs)
  unfolding written
  written-clear assign seat.Item q span k cs = item-clear assign q span k cs
  written-clear assign seat.Value q span k cs = value-clear assign q span k cs
  written-clear assign s q span k cs = clear-roll span k cs

  -- ---- a tree

  module _ (assign : TsImportExportAssignConfig) where
    abbrev Commutes : Node → Type 0
    Commutes n = (s : Seat) → clear (write (of assign) s n) ≡ write (to assign) s (clear n)

    each-commutes : (cs : List Node) (seat_of other : ℕ → Seat) → ((i : ℕ) → seat_of i ≡ other i) → ((i : ℕ) (c : Node) → slice_get cs i ≡ Some c → Commutes c)
        → map clear (each_at (write (of assign)) seat_of cs) ≡ each_at (write (to assign)) other (map clear cs)
    each-commutes [] seat_of other same each = refl
    each-commutes (c ∷ cs) seat_of other same each =
        ap₂ (λ a b. a ∷ b) (each 0 c refl (seat_of 0) ∙ ap (λ s. write (to assign) s (clear c)) (same 0))
        (each-commutes cs (λ i. seat_of (suc i)) (λ i. other (suc i)) (λ i. same (suc i)) (λ i d at. each (suc i) d at))

    node-commutes : (span : Span) (k : Kind) (cs : List Node) → ((i : ℕ) (c : Node) → slice_get cs i ≡ Some c → Commutes c) → Commutes (node_of span k cs)
    node-commutes span k cs each s = by (is_raw s) refl
      where
        n : Node
        n = node_of span k cs

        here : List Node
        here = each_at (write (of assign)) (λ i. seat_in s k i) cs

        there : List Node
        there = each_at (write (to assign)) (λ i. seat_in s (bare k) i) (map clear cs)

        by : (b : Bool) → is_raw s ≡ b → clear (write (of assign) s n) ≡ write (to assign) s (clear n)
        by true raw = ap clear (sym (raw-stays (of assign) s n raw)) ∙ raw-stays (to assign) s (clear n) raw
        by false raw =
            ap clear (write-roll (of assign) s span k cs raw)
            ∙ written-clear assign s (requires_by cs) span k here
            ∙ ap₂ (λ q ds. written (to assign) s q span (bare k) ds) (sym (requires-same cs)) (each-commutes cs (λ i. seat_in s k i) (λ i. seat_in s (bare k) i) (λ i. sym (seat-same s k i)) each)
            ∙ sym (write-roll (to assign) s span (bare k) (map clear cs) raw)
            ∙ ap (write (to assign) s) (sym (clear-roll span k cs))

    pub commutes : (n : Node) → Commutes n
    commutes = by-parts Commutes node-commutes

-- ---- `export =` at the end

module _ (test : Node → Bool) (same : (n : Node) → test (clear n) ≡ test n) where
  filter-step : (b : Bool) (n : Node) (ns : List Node) → test n ≡ b → filter test (map clear ns) ≡ map clear (filter test ns)
      → cond b (clear n ∷ filter test (map clear ns)) (filter test (map clear ns)) ≡ map clear (cond b (n ∷ filter test ns) (filter test ns))
  filter-step true n ns e rest = ap (λ z. clear n ∷ z) rest
  filter-step false n ns e rest = rest

  filter-clear : (ns : List Node) → filter test (map clear ns) ≡ map clear (filter test ns)
  filter-clear [] = refl
  filter-clear (n ∷ ns) =
      ap (λ b. cond b (clear n ∷ filter test (map clear ns)) (filter test (map clear ns))) (same n) ∙ filter-step (test n) n ns refl (filter-clear ns)

map-append : (ns ms : List Node) → map clear (ns ++ ms) ≡ map clear ns ++ map clear ms
map-append [] ms = refl
map-append (n ∷ ns) ms = ap (λ z. clear n ∷ z) (map-append ns ms)

export-same : (n : Node) → is_export_assignment (clear n) ≡ is_export_assignment n
export-same n = kind-same is_export_by (λ text a b optional. refl) n

exports-last-clear : (ns : List Node) → map clear (exports_last ns) ≡ exports_last (map clear ns)
exports-last-clear ns =
    map-append (filter (λ item. not (is_export_assignment item)) ns) (filter is_export_assignment ns)
    ∙ ap₂ (λ a b. a ++ b) (sym (filter-clear (λ item. not (is_export_assignment item)) (λ n. ap not (export-same n)) ns)) (sym (filter-clear is_export_assignment export-same ns))

-- the items of a tree
items-clear : (cs : List Node) → items_by (map clear cs) ≡ map clear (items_by cs)
items-clear [] = refl
items-clear (list ∷ cs) = ap (λ (z : Node-F Node). z.children) (clear-parts list)

items-of-clear : (n : Node) → items_of (clear n) ≡ map clear (items_of n)
items-of-clear n = ap (λ (z : Node-F Node). items_by z.children) (clear-parts n) ∙ items-clear (out-Node n).children

children-clear : (items : List Node) (n : Node) → clear (with_children items n) ≡ with_children (map clear items) (clear n)
children-clear items n =
    clear-roll (out-Node n).span (out-Node n).kind items ∙ ap (λ (z : Node-F Node). node_of z.span z.kind (map clear items)) (sym (clear-parts n))

first-clear : (items : List Node) (cs : List Node) → map clear (first_with items cs) ≡ first_with (map clear items) (map clear cs)
first-clear items [] = refl
first-clear items (list ∷ cs) = ap (λ z. z ∷ map clear cs) (children-clear items list)

moved-clear : (tree : Node) → clear (with_exports_last tree) ≡ with_exports_last (clear tree)
moved-clear tree =
    let items = exports_last (items_of tree) in
    let cs = (out-Node tree).children in
    children-clear (first_with items cs) tree
    ∙ ap (λ z. with_children z (clear tree)) (first-clear items cs)
    ∙ ap (λ z. with_children (first_with z (map clear cs)) (clear tree)) (exports-last-clear (items_of tree) ∙ ap exports_last (sym (items-of-clear tree)))
    ∙ ap (λ (z : Node-F Node). with_children (first_with (exports_last (items_of (clear tree))) z.children) (clear tree)) (sym (clear-parts tree))

pub contexts_do_not_matter_to_lowering : ContextsDoNotMatterToLowering
contexts_do_not_matter_to_lowering assign free tree =
    commutes free assign (with_exports_last tree) seat.Whole ∙ ap (write (names_of assign 0 None) seat.Whole) (moved-clear tree)
