-- What is written for assignments, without types.
use Rattle.std.proofs.Common.{◌≡◌, ◌∙◌, ℕ, Bool, true, false, ◌&&◌, ◌||◌, not, cond, codes, refl, sym, ap, ap₂, List, [], ◌∷◌, map, Option, Some, None}
use Rattle.std.specs.Option.{is_some, option_map_or}
use Rattle.ecma_kind.specs.Sorts.{belongs}
use Rattle.ecma_kind.specs.declared.ident.Ident.{Ident}
use Rattle.ecma_kind.specs.declared.kind.Kind.{Kind}
use Rattle.ecma_kind.specs.declared.kind.Kind.TheVariants as kind
use Rattle.ecma_kind.specs.declared.operators.AssignOp.TheVariants.{Assign}
use Rattle.ecma_kind.specs.declared.operators.VarDeclKind.TheVariants.{Const}
use Rattle.ecma_kind.specs.declared.shapes.Sort.TheVariants as sort
use Rattle.ecma_kind.specs.declared.span.Span.{Span}
use Rattle.ecma_tree.specs.Idents.{ident_node}
use Rattle.ecma_tree.specs.Nodes.{absent, dummy_span, list_node, node_of}
use Rattle.ecma_tree.specs.Sorted.{HasShape, is_list, one}
use Rattle.ecma_tree.specs.Values.{value_by}
use Rattle.ecma_tree.specs.declared.node.Node.{Node, Node-F, out-Node}
use Rattle.ecma_tree.specs.declared.node.Node.TheViews.{out-roll-Node, roll-out-Node}
use Rattle.ecma_tree.proofs.Valuing.{is_value-roll}
use Rattle.ecma_utils.specs.Directives.{is_special_call, is_text, kind_passes, stands_in_front, stmt_expr_by}
use Rattle.ecma_utils.specs.Expressions.{assign_of, call_of, key_of, member_of}
use Rattle.ecma_utils.specs.Quotes.{name_of}
use Rattle.ecma_utils.specs.Statements.{is_statement}
use Rattle.ecma_strip.specs.Staying.{is_declared, specifier_stays, stays}
use Rattle.ecma_strip.specs.Stripping.{plain, plain_children, plain_kind, stripped}
use Rattle.ecma_strip_rewriting.specs.Commuting.{is_full}
use Rattle.ecma_strip_rewriting.proofs.Commuting.{stripped-absent}
use Rattle.ecma_strip_rewriting.proofs.PlainKinds.{full-roll, no, shape-out, stripped-list, stripped-other}
use Rattle.ecma_strip_rewriting.proofs.Stays.{expression-stays, kind-roll, stays-roll}
use Rattle.ecma_lower.specs.declared.names.Names.{Names}
use Rattle.ecma_lower.specs.Writing.{constant, constant_of, declared, export_of, exported_constant, exports_of, import_of, module_exports, required_of, text_by, text_of}

-- ---- nodes that say nothing of types

pub plain-node : (span : Span) (k : Kind) (cs : List Node) → is_list k ≡ false → ((ds : List Node) → plain span k ds ≡ node_of span k ds) → stripped (node_of span k cs) ≡ node_of span k (map stripped cs)
plain-node span k cs l is = stripped-other span k cs l ∙ is (map stripped cs)

-- a list of one that stays
pub plain-list : (n : Node) → stays n ≡ true → stripped (list_node (n ∷ [])) ≡ list_node (stripped n ∷ [])
plain-list n h = stripped-list dummy_span (n ∷ []) ∙ ap (λ b. list_node (map stripped (cond b (n ∷ []) []))) h

pub plain-name : (span : Span) (sym : List ℕ) (ctxt : ℕ) → stripped (node_of span (kind.Ident sym ctxt false) []) ≡ node_of span (kind.Ident sym ctxt false) []
unfolding plain plain_kind plain_children
plain-name span sym ctxt = plain-node span (kind.Ident sym ctxt false) [] refl (λ ds. refl)

pub plain-key : (span : Span) (text : List ℕ) → stripped (key_of span text) ≡ key_of span text
unfolding plain plain_kind plain_children
plain-key span text = plain-node span (kind.IdentName text) [] refl (λ ds. refl)

pub plain-text : (span : Span) (text : List ℕ) → stripped (node_of span (kind.Str text None) []) ≡ node_of span (kind.Str text None) []
unfolding plain plain_kind plain_children
plain-text span text = plain-node span (kind.Str text None) [] refl (λ ds. refl)

pub plain-member : (e key : Node) → stripped (member_of e key) ≡ member_of (stripped e) (stripped key)
unfolding plain plain_kind plain_children
plain-member e key = plain-node dummy_span kind.MemberExpr (e ∷ key ∷ []) refl (λ ds. refl)

plain-assign : (target e : Node) → stripped (assign_of Assign target e) ≡ assign_of Assign (stripped target) (stripped e)
unfolding plain plain_kind plain_children
plain-assign target e = plain-node dummy_span (kind.AssignExpr Assign) (target ∷ e ∷ []) refl (λ ds. refl)

-- a call of one argument that stays
pub plain-call : (e arg : Node) → stays arg ≡ true → stripped (call_of dummy_span e (arg ∷ [])) ≡ call_of dummy_span (stripped e) (stripped arg ∷ [])
unfolding plain plain_kind plain_children
plain-call e arg h =
    plain-node dummy_span kind.CallExpr (e ∷ list_node (arg ∷ []) ∷ absent ∷ []) refl (λ ds. refl)
    ∙ ap₂ (λ a b. node_of dummy_span kind.CallExpr (stripped e ∷ a ∷ b ∷ [])) (plain-list arg h) stripped-absent

-- a declaration of one name
abbrev declarator : Node → Node → Node
declarator p v = node_of dummy_span (kind.VarDeclarator false) (p ∷ v ∷ [])

abbrev pub constants : Span → Node → Node → Node
constants span p v = node_of span (kind.VarDecl Const false) (list_node (declarator p v ∷ []) ∷ [])

declarator-stays : (p v : Node) → stays (declarator p v) ≡ true
unfolding value_by is_declared specifier_stays
declarator-stays p v = stays-roll dummy_span (kind.VarDeclarator false) (p ∷ v ∷ [])

pub plain-constants : (span : Span) (p v : Node) → stripped (constants span p v) ≡ constants span (stripped p) (stripped v)
unfolding plain plain_kind plain_children
plain-constants span p v =
    plain-node span (kind.VarDecl Const false) (list_node (declarator p v ∷ []) ∷ []) refl (λ ds. refl)
    ∙ ap (λ z. node_of span (kind.VarDecl Const false) (z ∷ []))
    (plain-list (declarator p v) (declarator-stays p v) ∙ ap (λ z. list_node (z ∷ [])) (plain-node dummy_span (kind.VarDeclarator false) (p ∷ v ∷ []) refl (λ ds. refl)))

pub plain-bound : (span : Span) (n : Node) → stripped (node_of span kind.BindingIdent (n ∷ absent ∷ [])) ≡ node_of span kind.BindingIdent (stripped n ∷ absent ∷ [])
unfolding plain plain_kind plain_children
plain-bound span n = plain-node span kind.BindingIdent (n ∷ absent ∷ []) refl (λ ds. refl) ∙ ap (λ z. node_of span kind.BindingIdent (stripped n ∷ z ∷ [])) stripped-absent

-- ---- a declared name keeps its place and its text

span-roll : (span : Span) (k : Kind) (cs : List Node) → (out-Node (node_of span k cs)).span ≡ span
span-roll span k cs = let parts : Node-F Node = record { span = span; kind = k; children = cs } in ap (λ (z : Node-F Node). z.span) (out-roll-Node parts)

span-by : (span : Span) (k : Kind) (cs : List Node) → belongs sort.Ident k ≡ true → (out-Node (stripped (node_of span k cs))).span ≡ span
unfolding plain plain_kind plain_children
span-by span (kind.Ident text ctxt optional) cs h = ap (λ z. (out-Node z).span) (stripped-other span (kind.Ident text ctxt optional) cs refl) ∙ span-roll span (kind.Ident text ctxt false) (map stripped cs)
span-by span _ cs h = no h

text-by : (span : Span) (k : Kind) (cs : List Node) → belongs sort.Ident k ≡ true → text_of (stripped (node_of span k cs)) ≡ text_by k
unfolding plain plain_kind plain_children
text-by span (kind.Ident text ctxt optional) cs h = ap text_of (stripped-other span (kind.Ident text ctxt optional) cs refl) ∙ ap text_by (kind-roll span (kind.Ident text ctxt false) (map stripped cs))
text-by span _ cs h = no h

module _ (n : Node) (h : HasShape (one sort.Ident) n) where
  span-kept : (out-Node (stripped n)).span ≡ (out-Node n).span
  span-kept = ap (λ z. (out-Node (stripped z)).span) (sym (roll-out-Node n)) ∙ span-by (out-Node n).span (out-Node n).kind (out-Node n).children (shape-out n (one sort.Ident) h).0

  text-kept : text_of (stripped n) ≡ text_of n
  text-kept = ap (λ z. text_of (stripped z)) (sym (roll-out-Node n)) ∙ text-by (out-Node n).span (out-Node n).kind (out-Node n).children (shape-out n (one sort.Ident) h).0

  plain-declared : stripped (declared n) ≡ declared (stripped n)
  plain-declared = plain-bound (out-Node n).span n ∙ ap (λ z. node_of z kind.BindingIdent (stripped n ∷ absent ∷ [])) (sym span-kept)

  plain-exports : (free : ℕ) → stripped (exports_of free n) ≡ exports_of free (stripped n)
  plain-exports free =
      let object = name_of free dummy_span (codes "exports") in
      let key = key_of (out-Node n).span (text_of n) in
      plain-member object key
      ∙ ap₂ member_of (plain-name dummy_span (codes "exports") free) (plain-key (out-Node n).span (text_of n))
      ∙ ap₂ (λ s t. member_of object (key_of s t)) (sym span-kept) (sym text-kept)

-- ---- what is written

pub constant-is : (span : Span) (name v : Node) → constant span name v ≡ constants span (declared name) v
constant-is span name v =
    let parts : Node-F Node = record { span = dummy_span; kind = kind.VarDecl Const false; children = list_node (declarator (declared name) v ∷ []) ∷ [] } in
    ap (λ (z : Node-F Node). node_of span z.kind z.children) (out-roll-Node parts)

-- what stands in front, by a node's kind and children
abbrev pub front_by : Kind → List Node → Bool
front_by k cs = belongs sort.Stmt k && (kind_passes is_text (stmt_expr_by k cs) || (false && option_map_or is_special_call (stmt_expr_by k cs) false))

abbrev pub is_front : Node → Bool
is_front item = is_statement item && stands_in_front false item

pub front-roll : (span : Span) (k : Kind) (cs : List Node) → is_front (node_of span k cs) ≡ front_by k cs
front-roll span k cs = let parts : Node-F Node = record { span = span; kind = k; children = cs } in ap (λ (z : Node-F Node). front_by z.kind z.children) (out-roll-Node parts)

-- an item that is no empty statement, stays, and is no directive
pub record Lasts (n : Node) : Type 0 where
  pub full : is_full n ≡ true
  pub stays : stays n ≡ true
  pub front : is_front n ≡ false

pub import-lasts : (span : Span) (e : Bool) (cs : List Node) → Lasts (node_of span (kind.TsImportEqualsDecl e false) cs)
unfolding value_by is_declared specifier_stays
import-lasts span e cs = record {
  full = full-roll span (kind.TsImportEqualsDecl e false) cs;
  stays = stays-roll span (kind.TsImportEqualsDecl e false) cs;
  front = front-roll span (kind.TsImportEqualsDecl e false) cs;
}

pub constants-last : (span : Span) (p v : Node) → Lasts (constants span p v)
unfolding value_by is_declared specifier_stays
constants-last span p v = record {
  full = full-roll span (kind.VarDecl Const false) (list_node (declarator p v ∷ []) ∷ []);
  stays = stays-roll span (kind.VarDecl Const false) (list_node (declarator p v ∷ []) ∷ []);
  front = front-roll span (kind.VarDecl Const false) (list_node (declarator p v ∷ []) ∷ []);
}

abbrev exported : Span → Node → Node → Node
exported span p v = node_of span kind.ExportDecl (constants dummy_span p v ∷ [])

exported-last : (span : Span) (p v : Node) → Lasts (exported span p v)
unfolding value_by is_declared specifier_stays
exported-last span p v =
    let d = constants dummy_span p v in
    let cs = list_node (declarator p v ∷ []) ∷ [] in
    record {
      full = full-roll span kind.ExportDecl (d ∷ []);
      stays = stays-roll span kind.ExportDecl (d ∷ [])
          ∙ ap₂ (λ v k. (v && not (is_declared k)) && true && true && not false) (is_value-roll dummy_span (kind.VarDecl Const false) cs) (kind-roll dummy_span (kind.VarDecl Const false) cs);
      front = front-roll span kind.ExportDecl (d ∷ []);
    }

pub export-lasts : (span : Span) (cs : List Node) → Lasts (node_of span kind.TsExportAssignment cs)
unfolding value_by is_declared specifier_stays
export-lasts span cs = record {
  full = full-roll span kind.TsExportAssignment cs;
  stays = stays-roll span kind.TsExportAssignment cs;
  front = front-roll span kind.TsExportAssignment cs;
}

set-lasts : (span : Span) (target e : Node) → Lasts (node_of span kind.ExprStmt (assign_of Assign target e ∷ []))
set-lasts span target e = record {
  full = full-roll span kind.ExprStmt (assign_of Assign target e ∷ []);
  stays = expression-stays span (assign_of Assign target e);
  front = front-roll span kind.ExprStmt (assign_of Assign target e ∷ [])
      ∙ ap (λ k. is_text k || (false && is_special_call (assign_of Assign target e))) (kind-roll dummy_span (kind.AssignExpr Assign) (target ∷ e ∷ []));
}

pub lasts-so : (a b : Node) → a ≡ b → Lasts b → Lasts a
lasts-so a b e x = record { full = ap is_full e ∙ x.full; stays = ap stays e ∙ x.stays; front = ap is_front e ∙ x.front }

constant-lasts : (span : Span) (n v : Node) → Lasts (constant span n v)
constant-lasts span n v = lasts-so (constant span n v) (constants span (declared n) v) (constant-is span n v) (constants-last span (declared n) v)

exported-lasts : (free : Option ℕ) (span : Span) (n v : Node) → Lasts (exported_constant free span n v)
exported-lasts None span n v = exported-last span (declared n) v
exported-lasts (Some free) span n v = constant-lasts span n (assign_of Assign (exports_of free n) v)

plain-constant : (span : Span) (n v : Node) → HasShape (one sort.Ident) n → stripped (constant span n v) ≡ constant span (stripped n) (stripped v)
plain-constant span n v h =
    ap stripped (constant-is span n v) ∙ plain-constants span (declared n) v ∙ ap (λ z. constants span z (stripped v)) (plain-declared n h) ∙ sym (constant-is span (stripped n) (stripped v))

plain-exported : (free : Option ℕ) (span : Span) (n v : Node) → HasShape (one sort.Ident) n → stripped (exported_constant free span n v) ≡ exported_constant free span (stripped n) (stripped v)
unfolding plain plain_kind plain_children
plain-exported None span n v h =
    plain-node span kind.ExportDecl (constants dummy_span (declared n) v ∷ []) refl (λ ds. refl)
    ∙ ap (λ z. node_of span kind.ExportDecl (z ∷ [])) (plain-constants dummy_span (declared n) v ∙ ap (λ z. constants dummy_span z (stripped v)) (plain-declared n h))
plain-exported (Some free) span n v h =
    plain-constant span n (assign_of Assign (exports_of free n) v) h
    ∙ ap (constant span (stripped n)) (plain-assign (exports_of free n) v ∙ ap (λ z. assign_of Assign z (stripped v)) (plain-exports n h free))

module _ (names : Names) where
  constant-of-lasts : (required e : Bool) (span : Span) (n v : Node) → Lasts (constant_of names required e span n v)
  constant-of-lasts required false span n v = constant-lasts span n v
  constant-of-lasts required true span n v = exported-lasts (cond required names.free None) span n v

  plain-constant-of : (required e : Bool) (span : Span) (n v : Node) → HasShape (one sort.Ident) n → stripped (constant_of names required e span n v) ≡ constant_of names required e span (stripped n) (stripped v)
  plain-constant-of required false span n v h = plain-constant span n v h
  plain-constant-of required true span n v h = plain-exported (cond required names.free None) span n v h

  -- what is written for an import lasts, and without types it is what is written of its parts without types
  pub written-import-lasts : (required e : Bool) (span : Span) (n v : Node) → Lasts (import_of names required e span (n ∷ v ∷ []))
  written-import-lasts required e span n v = by (required && not (is_some names.required))
    where
      by : (b : Bool) → Lasts (cond b (node_of span (kind.TsImportEqualsDecl e false) (n ∷ v ∷ [])) (constant_of names required e span n v))
      by true = import-lasts span e (n ∷ v ∷ [])
      by false = constant-of-lasts required e span n v

  pub plain-written-import : (required e : Bool) (span : Span) (n v : Node) → HasShape (one sort.Ident) n
      → stripped (import_of names required e span (n ∷ v ∷ [])) ≡ import_of names required e span (stripped n ∷ stripped v ∷ [])
  unfolding plain plain_kind plain_children
  plain-written-import required e span n v h = by (required && not (is_some names.required))
    where
      by : (b : Bool) → stripped (cond b (node_of span (kind.TsImportEqualsDecl e false) (n ∷ v ∷ [])) (constant_of names required e span n v))
          ≡ cond b (node_of span (kind.TsImportEqualsDecl e false) (stripped n ∷ stripped v ∷ [])) (constant_of names required e span (stripped n) (stripped v))
      by true = plain-node span (kind.TsImportEqualsDecl e false) (n ∷ v ∷ []) refl (λ ds. refl)
      by false = plain-constant-of required e span n v h

plain-module-exports : (free : ℕ) → stripped (module_exports free) ≡ module_exports free
plain-module-exports free =
    plain-member (name_of free dummy_span (codes "module")) (key_of dummy_span (codes "exports"))
    ∙ ap₂ member_of (plain-name dummy_span (codes "module") free) (plain-key dummy_span (codes "exports"))

pub written-export-lasts : (free : Option ℕ) (span : Span) (e : Node) → Lasts (export_of free span (e ∷ []))
written-export-lasts None span e = export-lasts span (e ∷ [])
written-export-lasts (Some free) span e = set-lasts span (module_exports free) e

pub plain-written-export : (free : Option ℕ) (span : Span) (e : Node) → stripped (export_of free span (e ∷ [])) ≡ export_of free span (stripped e ∷ [])
unfolding plain plain_kind plain_children
plain-written-export None span e = plain-node span kind.TsExportAssignment (e ∷ []) refl (λ ds. refl)
plain-written-export (Some free) span e =
    plain-node span kind.ExprStmt (assign_of Assign (module_exports free) e ∷ []) refl (λ ds. refl)
    ∙ ap (λ z. node_of span kind.ExprStmt (z ∷ [])) (plain-assign (module_exports free) e ∙ ap (λ z. assign_of Assign z (stripped e)) (plain-module-exports free))

-- the function that requires a module, if there is one, is written without a `?`
abbrev pub PlainNames : Names → Type 0
PlainNames names = (f : Ident) → names.required ≡ Some f → f.optional ≡ false

plain-ident : (f : Ident) → f.optional ≡ false → stripped (ident_node f) ≡ ident_node f
plain-ident f h =
    let is : ident_node f ≡ node_of f.span (kind.Ident f.sym f.ctxt false) [] = ap (λ b. node_of f.span (kind.Ident f.sym f.ctxt b) []) h in
    ap stripped is ∙ plain-name f.span f.sym f.ctxt ∙ sym is

pub required-written : (required : Option Ident) (span : Span) (arg : Node) → ((f : Ident) → required ≡ Some f → f.optional ≡ false) → stays arg ≡ true
    → stripped (required_of required span (arg ∷ [])) ≡ required_of required span (stripped arg ∷ [])
unfolding plain plain_kind plain_children
required-written None span arg plains h = plain-node span kind.TsExternalModuleRef (arg ∷ []) refl (λ ds. refl)
required-written (Some f) span arg plains h = plain-call (ident_node f) arg h ∙ ap (λ z. call_of dummy_span z (stripped arg ∷ [])) (plain-ident f (plains f refl))
