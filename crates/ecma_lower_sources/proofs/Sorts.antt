-- What is written of the items of a module has its sorts.
use Rattle.std.proofs.Common.{◌≡◌, ℕ, zero, suc, true, false, codes, refl, sym, subst, List, [], ◌∷◌, length, Option, Some}
use Rattle.ecma_config.specs.declared.config.TsImportExportAssignConfig.{TsImportExportAssignConfig}
use Rattle.ecma_kind.specs.Sorts.{belongs}
use Rattle.ecma_kind.specs.declared.kind.Kind.{Kind}
use Rattle.ecma_kind.specs.declared.kind.Kind.TheVariants as kind
use Rattle.ecma_kind.specs.declared.operators.AssignOp.TheVariants.{Assign}
use Rattle.ecma_kind.specs.declared.operators.VarDeclKind.TheVariants.{Const}
use Rattle.ecma_kind.specs.declared.shapes.Sort.{Sort}
use Rattle.ecma_kind.specs.declared.shapes.Sort.TheVariants as sort
use Rattle.ecma_kind.specs.declared.span.Span.{Span}
use Rattle.ecma_tree.specs.Laws.{HaveShapes}
use Rattle.ecma_tree.specs.Nodes.{absent, dummy_span, list_node}
use Rattle.ecma_tree.specs.Sorted.{HasShape, HasSort, child_shapes, is_list, many, maybe, one}
use Rattle.ecma_tree.specs.declared.node.Node.{Node, out-Node}
use Rattle.ecma_tree.specs.declared.node.Node.TheViews.{roll-out-Node}
use Rattle.ecma_tree.proofs.ShapeLaws.{node_has_shape, node_has_sort, optional_child_has_shape}
use Rattle.ecma_utils.specs.Expressions.{assign_of, key_of, member_of}
use Rattle.ecma_utils.specs.Quotes.{name_of}
use Rattle.ecma_strip_rewriting.proofs.PlainKinds.{no, shape-out}
use Rattle.ecma_lower.specs.Writing.{declared, exports_of, module_exports, text_of}
use Rattle.ecma_lower_strip.proofs.Items.{as_import}
use Rattle.ecma_lower_sources.proofs.Modules.{Each, each-to, items-lowered, list_at, lowered_items, module_at}
use Rattle.ecma_lower_sources.proofs.Writes.{IsItem, Writes, declarator, declares, require_of, required_at}

-- ---- a node of one sort as one of another

asked-same : (k : Kind) (s t : Sort) (n : ℕ) → is_list k ≡ false → child_shapes k (one s) n ≡ child_shapes k (one t) n
asked-same kind.List s t n h = no (sym h)
asked-same kind.SeqExpr s t zero h = refl
asked-same kind.SeqExpr s t (suc n) h = refl
asked-same _ s t n h = refl

as-sort : (s t : Sort) (n : Node) → HasShape (one s) n → belongs t (out-Node n).kind ≡ true → is_list (out-Node n).kind ≡ false → HasShape (one t) n
as-sort s t n h b l =
    let k = (out-Node n).kind in
    let cs = (out-Node n).children in
    subst (HasShape (one t)) (roll-out-Node n)
    ((node_has_shape (out-Node n).span k cs (one t)).1 (b, subst (λ z. HaveShapes z cs) (asked-same k s t (length cs) l) (shape-out n (one s) h).1))

ident-kind : (k : Kind) → belongs sort.Ident k ≡ true → (belongs sort.Expr k ≡ true) × (is_list k ≡ false)
ident-kind (kind.Ident text ctxt optional) h = (refl, refl)
ident-kind _ h = no h

pub ident-expr : (n : Node) → HasShape (one sort.Ident) n → HasShape (one sort.Expr) n
ident-expr n h = let is = ident-kind (out-Node n).kind (shape-out n (one sort.Ident) h).0 in as-sort sort.Ident sort.Expr n h is.0 is.1

text-kind : (k : Kind) → belongs sort.Str k ≡ true → (belongs sort.ExprOrSpread k ≡ true) × (is_list k ≡ false)
text-kind (kind.Str value raw) h = (refl, refl)
text-kind _ h = no h

text-argument : (n : Node) → HasShape (one sort.Str) n → HasShape (one sort.ExprOrSpread) n
text-argument n h = let is = text-kind (out-Node n).kind (shape-out n (one sort.Str) h).0 in as-sort sort.Str sort.ExprOrSpread n h is.0 is.1

key-kind : (k : Kind) → belongs sort.IdentName k ≡ true → (belongs sort.MemberProp k ≡ true) × (is_list k ≡ false)
key-kind (kind.IdentName text) h = (refl, refl)
key-kind _ h = no h

key-property : (n : Node) → HasShape (one sort.IdentName) n → HasShape (one sort.MemberProp) n
key-property n h = let is = key-kind (out-Node n).kind (shape-out n (one sort.IdentName) h).0 in as-sort sort.IdentName sort.MemberProp n h is.0 is.1

-- ---- what is made

abbrev IsExpr : Node → Type 0
IsExpr n = HasShape (one sort.Expr) n

-- a list of one
list-shape : (s : Sort) (n : Node) → HasShape (one s) n → HasShape (many s) (list_node (n ∷ []))
list-shape s n h = (node_has_shape dummy_span kind.List (n ∷ []) (many s)).1 (refl, (h, tt))

absent-shape : (s : Sort) → HasShape (maybe s) absent
absent-shape s = (node_has_shape dummy_span kind.Absent [] (maybe s)).1 (refl, tt)

declared-shape : (a : Node) → HasShape (one sort.Ident) a → HasShape (one sort.Pat) (declared a)
declared-shape a h = node_has_sort (out-Node a).span kind.BindingIdent (a ∷ absent ∷ []) sort.Pat refl (h, (absent-shape sort.TsTypeAnn, tt))

declarators-shape : (a v : Node) → HasShape (one sort.Ident) a → IsExpr v → HasShape (many sort.VarDeclarator) (list_node (declarator (declared a) v ∷ []))
declarators-shape a v ha hv =
    list-shape sort.VarDeclarator (declarator (declared a) v)
    (node_has_sort dummy_span (kind.VarDeclarator false) (declared a ∷ v ∷ []) sort.VarDeclarator refl (declared-shape a ha, (optional_child_has_shape sort.Expr (Some v) hv, tt)))

declares-shape : (s : Sort) (span : Span) (a v : Node) → belongs s (kind.VarDecl Const false) ≡ true → HasShape (one sort.Ident) a → IsExpr v → HasShape (one s) (declares span a v)
declares-shape s span a v b ha hv = node_has_sort span (kind.VarDecl Const false) (list_node (declarator (declared a) v ∷ []) ∷ []) s b (declarators-shape a v ha hv, tt)

name-shape : (s : Sort) (free : ℕ) (text : List ℕ) → belongs s (kind.Ident text free false) ≡ true → HasShape (one s) (name_of free dummy_span text)
name-shape s free text b = node_has_sort dummy_span (kind.Ident text free false) [] s b tt

made-key-shape : (span : Span) (text : List ℕ) → HasShape (one sort.MemberProp) (key_of span text)
made-key-shape span text = node_has_sort span (kind.IdentName text) [] sort.MemberProp refl tt

target-shape : (free : ℕ) (text : List ℕ) (span : Span) (key : List ℕ) → HasShape (one sort.AssignTarget) (member_of (name_of free dummy_span text) (key_of span key))
target-shape free text span key =
    node_has_sort dummy_span kind.MemberExpr (name_of free dummy_span text ∷ key_of span key ∷ []) sort.AssignTarget refl (name-shape sort.Expr free text refl, (made-key-shape span key, tt))

assign-shape : (l v : Node) → HasShape (one sort.AssignTarget) l → IsExpr v → IsExpr (assign_of Assign l v)
assign-shape l v hl hv = node_has_sort dummy_span (kind.AssignExpr Assign) (l ∷ v ∷ []) sort.Expr refl (hl, (hv, tt))

require-shape : (free : ℕ) (arg : Node) → HasShape (one sort.Str) arg → IsExpr (require_of free arg)
require-shape free arg h =
    node_has_sort dummy_span kind.CallExpr (name_of free dummy_span (codes "require") ∷ list_node (arg ∷ []) ∷ absent ∷ []) sort.Expr refl
    (name-shape sort.Callee free (codes "require") refl, (list-shape sort.ExprOrSpread arg (text-argument arg h), (absent-shape sort.TsTypeParamInstantiation, tt)))

-- ---- items

abbrev Any : Node → Type 0
Any n = Unit {0}

pub sorts-written : (assign : TsImportExportAssignConfig) (free : ℕ) → Writes assign free Any Any IsItem IsExpr
sorts-written assign free = record {
  import_parts = λ span e a b h. (tt, tt);
  dot_parts = λ span l r h. (tt, tt);
  text_part = λ span arg h. tt;
  export_part = λ span e h. tt;
  rest = λ n h r any. h;
  import_kept = λ span at e a arg c ha hs any.
      node_has_sort span (as_import e) (a ∷ required_at at arg ∷ []) sort.ModuleItem refl (ha, (node_has_sort at kind.TsExternalModuleRef (arg ∷ []) sort.TsModuleRef refl (hs, tt), tt));
  export_kept = λ span e c h any. node_has_sort span kind.TsExportAssignment (e ∷ []) sort.ModuleItem refl (h, tt);
  name = λ a h any. ident-expr a h;
  member = λ span l r hl hr any. node_has_sort span kind.MemberExpr (l ∷ r ∷ []) sort.Expr refl (hl, (key-property r hr, tt));
  require = λ arg h any. require-shape free arg h;
  constant = λ span a v ha any hv. declares-shape sort.ModuleItem span a v refl ha hv;
  exported = λ span a v ha any hv. node_has_sort span kind.ExportDecl (declares dummy_span a v ∷ []) sort.ModuleItem refl (declares-shape sort.Decl dummy_span a v refl ha hv, tt);
  shared = λ a v ha any hv. assign-shape (exports_of free a) v (target-shape free (codes "exports") (out-Node a).span (text_of a)) hv;
  set = λ span e h any.
      node_has_sort span kind.ExprStmt (assign_of Assign (module_exports free) e ∷ []) sort.ModuleItem refl
      (assign-shape (module_exports free) e (target-shape free (codes "module") dummy_span (codes "exports")) h, tt);
}

any-each : (ns : List Node) → Each Any ns
any-each [] = tt
any-each (n ∷ ns) = (tt, any-each ns)

-- what is written of items are items
pub items-sorted : (assign : TsImportExportAssignConfig) (free : ℕ) (ns : List Node) → Each IsItem ns → Each IsItem (lowered_items assign free ns)
items-sorted assign free ns items = items-lowered assign free Any Any IsItem IsExpr (sorts-written assign free) ns items (any-each ns)

-- a module of items is a module by its sorts
pub module-sorted : (span : Span) (shebang : Option (List ℕ)) (at : Span) (ms : List Node) → Each IsItem ms → HasSort sort.Module (module_at span shebang at ms)
module-sorted span shebang at ms items =
    node_has_sort span (kind.Module shebang) (list_at at ms ∷ []) sort.Module refl ((node_has_shape at kind.List ms (many sort.ModuleItem)).1 (refl, each-to ms items), tt)
