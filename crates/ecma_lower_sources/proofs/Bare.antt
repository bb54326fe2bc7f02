-- The leaves of what is written are bare: texts are UTF-8, a name has no context, and a literal its source text.
use Rattle.std.proofs.Common.{◌≡◌, ℕ, true, false, codes, refl, subst, List, [], ◌∷◌, Option}
use Rattle.std.specs.Str.{IsUtf8}
use Rattle.ecma_config.specs.declared.config.TsImportExportAssignConfig.{TsImportExportAssignConfig}
use Rattle.ecma_kind.specs.Sorts.{belongs}
use Rattle.ecma_kind.specs.declared.kind.Kind.{Kind}
use Rattle.ecma_kind.specs.declared.kind.Kind.TheVariants as kind
use Rattle.ecma_kind.specs.declared.operators.AssignOp.TheVariants.{Assign}
use Rattle.ecma_kind.specs.declared.operators.VarDeclKind.TheVariants.{Const}
use Rattle.ecma_kind.specs.declared.shapes.Sort.TheVariants as sort
use Rattle.ecma_kind.specs.declared.span.Span.{Span}
use Rattle.ecma_tree.specs.Nodes.{absent, dummy_span, list_node, node_of}
use Rattle.ecma_tree.specs.Sorted.{HasShape, one}
use Rattle.ecma_tree.specs.declared.node.Node.{Node, out-Node}
use Rattle.ecma_utils.specs.Expressions.{assign_of, key_of}
use Rattle.ecma_utils.specs.Quotes.{name_of}
use Rattle.ecma_text_leaves.specs.Everywhere.{Each as Every, Everywhere, more, none}
use Rattle.ecma_text_leaves.proofs.Trees.{children_good, children_made, good_node, kind_good}
use Rattle.ecma_plain.specs.Forms.{IsBareUnquestioned}
use Rattle.ecma_strip_rewriting.proofs.PlainKinds.{no, shape-out}
use Rattle.ecma_lower.specs.Writing.{declared, exports_of, module_exports, text_by, text_of}
use Rattle.ecma_lower_strip.proofs.Items.{as_import}
use Rattle.ecma_lower_sources.proofs.Modules.{Each, items-lowered, list_at, lowered_items, module_at}
use Rattle.ecma_lower_sources.proofs.Names.{exports-utf8, module-utf8, require-utf8}
use Rattle.ecma_lower_sources.proofs.Writes.{IsItem, Writes, declarator, declares, exported_value, member_at, require_of, set_at}

abbrev Bare : Node → Type 0
Bare = Everywhere IsBareUnquestioned

-- ---- the parts of a node

parts-bare : (span : Span) (k : Kind) (cs : List Node) → Bare (node_of span k cs) → Every IsBareUnquestioned cs
parts-bare span k cs h = subst (Every IsBareUnquestioned) (children_made span k cs) (children_good IsBareUnquestioned h)

first-of : {a : Node} {ns : List Node} → Every IsBareUnquestioned (a ∷ ns) → Bare a × Every IsBareUnquestioned ns
first-of (more g h) = (g, h)

-- ---- texts

name-bare : (text : List ℕ) → IsUtf8 text → Bare (name_of 0 dummy_span text)
name-bare text h = good_node IsBareUnquestioned dummy_span (kind.Ident text 0 false) [] (h, refl, refl) none

key-bare : (span : Span) (text : List ℕ) → IsUtf8 text → Bare (key_of span text)
key-bare span text h = good_node IsBareUnquestioned span (kind.IdentName text) [] h none

text-kind : (k : Kind) → belongs sort.Ident k ≡ true → IsBareUnquestioned k → IsUtf8 (text_by k)
text-kind (kind.Ident text ctxt optional) g h = h.0
text-kind _ g h = no g

text-bare : (a : Node) → HasShape (one sort.Ident) a → Bare a → IsUtf8 (text_of a)
text-bare a g h = text-kind (out-Node a).kind (shape-out a (one sort.Ident) g).0 (kind_good IsBareUnquestioned h)

-- ---- what is made

absent-bare : Bare absent
absent-bare = good_node IsBareUnquestioned dummy_span kind.Absent [] tt none

list-bare : (n : Node) → Bare n → Bare (list_node (n ∷ []))
list-bare n h = good_node IsBareUnquestioned dummy_span kind.List (n ∷ []) tt (more h none)

declares-bare : (span : Span) (a v : Node) → Bare a → Bare v → Bare (declares span a v)
declares-bare span a v ha hv =
    let bound = good_node IsBareUnquestioned (out-Node a).span kind.BindingIdent (a ∷ absent ∷ []) tt (more ha (more absent-bare none)) in
    let d = good_node IsBareUnquestioned dummy_span (kind.VarDeclarator false) (declared a ∷ v ∷ []) tt (more bound (more hv none)) in
    good_node IsBareUnquestioned span (kind.VarDecl Const false) (list_node (declarator (declared a) v ∷ []) ∷ []) tt (more (list-bare (declarator (declared a) v) d) none)

member-bare : (span : Span) (l r : Node) → Bare l → Bare r → Bare (member_at span l r)
member-bare span l r hl hr = good_node IsBareUnquestioned span kind.MemberExpr (l ∷ r ∷ []) tt (more hl (more hr none))

assign-bare : (l v : Node) → Bare l → Bare v → Bare (assign_of Assign l v)
assign-bare l v hl hv = good_node IsBareUnquestioned dummy_span (kind.AssignExpr Assign) (l ∷ v ∷ []) tt (more hl (more hv none))

require-bare : (arg : Node) → Bare arg → Bare (require_of 0 arg)
require-bare arg h =
    good_node IsBareUnquestioned dummy_span kind.CallExpr (name_of 0 dummy_span (codes "require") ∷ list_node (arg ∷ []) ∷ absent ∷ []) tt
    (more (name-bare (codes "require") require-utf8) (more (list-bare arg h) (more absent-bare none)))

shared-bare : (a v : Node) → HasShape (one sort.Ident) a → Bare a → Bare v → Bare (exported_value 0 a v)
shared-bare a v g ha hv =
    assign-bare (exports_of 0 a) v
    (member-bare dummy_span (name_of 0 dummy_span (codes "exports")) (key_of (out-Node a).span (text_of a)) (name-bare (codes "exports") exports-utf8) (key-bare (out-Node a).span (text_of a) (text-bare a g ha))) hv

set-bare : (span : Span) (e : Node) → Bare e → Bare (set_at 0 span e)
set-bare span e h =
    good_node IsBareUnquestioned span kind.ExprStmt (assign_of Assign (module_exports 0) e ∷ []) tt
    (more (assign-bare (module_exports 0) e
    (member-bare dummy_span (name_of 0 dummy_span (codes "module")) (key_of dummy_span (codes "exports")) (name-bare (codes "module") module-utf8) (key-bare dummy_span (codes "exports") exports-utf8)) h) none)

bare-written : (assign : TsImportExportAssignConfig) → Writes assign 0 Bare Bare Bare Bare
bare-written assign = record {
  import_parts = λ span e a b h. (let v = first-of (parts-bare span (as_import e) (a ∷ b ∷ []) h) in (v.0, (first-of v.1).0));
  dot_parts = λ span l r h. (let v = first-of (parts-bare span kind.TsQualifiedName (l ∷ r ∷ []) h) in (v.0, (first-of v.1).0));
  text_part = λ span arg h. (first-of (parts-bare span kind.TsExternalModuleRef (arg ∷ []) h)).0;
  export_part = λ span e h. (first-of (parts-bare span kind.TsExportAssignment (e ∷ []) h)).0;
  rest = λ n g r h. h;
  import_kept = λ span at e a arg c ha hs h. h;
  export_kept = λ span e c g h. h;
  name = λ a g h. h;
  member = λ span l r hl g hr. member-bare span l r hl hr;
  require = λ arg g h. require-bare arg h;
  constant = λ span a v g ha hv. declares-bare span a v ha hv;
  exported = λ span a v g ha hv. good_node IsBareUnquestioned span kind.ExportDecl (declares dummy_span a v ∷ []) tt (more (declares-bare dummy_span a v ha hv) none);
  shared = shared-bare;
  set = λ span e g h. set-bare span e h;
}

-- ---- the module

each-bare : (ns : List Node) → Every IsBareUnquestioned ns → Each Bare ns
each-bare [] h = tt
each-bare (n ∷ ns) h = let v = first-of h in (v.0, each-bare ns v.1)

all-bare : (ns : List Node) → Each Bare ns → Every IsBareUnquestioned ns
all-bare [] h = none
all-bare (n ∷ ns) h = more h.0 (all-bare ns h.1)

pub bare-lowered : (assign : TsImportExportAssignConfig) (span : Span) (shebang : Option (List ℕ)) (at : Span) (ns : List Node) → Each IsItem ns
    → Bare (module_at span shebang at ns) → Bare (module_at span shebang at (lowered_items assign 0 ns))
bare-lowered assign span shebang at ns items h =
    let list = (first-of (parts-bare span (kind.Module shebang) (list_at at ns ∷ []) h)).0 in
    let each = items-lowered assign 0 Bare Bare Bare Bare (bare-written assign) ns items (each-bare ns (parts-bare at kind.List ns list)) in
    good_node IsBareUnquestioned span (kind.Module shebang) (list_at at (lowered_items assign 0 ns) ∷ []) tt
    (more (good_node IsBareUnquestioned at kind.List (lowered_items assign 0 ns) tt (all-bare (lowered_items assign 0 ns) each)) none)
