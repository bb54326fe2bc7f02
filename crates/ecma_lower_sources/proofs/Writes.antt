-- What is written of the items of a module: what is to be shown so that something holds of it, once for whatever that is.
use Rattle.std.proofs.Common.{◌≡◌, ◌∙◌, ◌⊎◌, inl, inr, ℕ, Bool, true, false, codes, refl, sym, ap, subst, List, [], ◌∷◌, Some, None, slice_get}
use Rattle.ecma_config.specs.declared.config.TsImportExportAssignConfig.{TsImportExportAssignConfig}
use Rattle.ecma_config.specs.declared.config.TsImportExportAssignConfig.TheVariants as way
use Rattle.ecma_kind.specs.Sorts.{belongs}
use Rattle.ecma_kind.specs.declared.kind.Kind.{Kind}
use Rattle.ecma_kind.specs.declared.kind.Kind.TheVariants as kind
use Rattle.ecma_kind.specs.declared.operators.AssignOp.TheVariants.{Assign}
use Rattle.ecma_kind.specs.declared.operators.VarDeclKind.TheVariants.{Const}
use Rattle.ecma_kind.specs.declared.shapes.Sort.TheVariants as sort
use Rattle.ecma_kind.specs.declared.span.Span.{Span}
use Rattle.ecma_tree.specs.Nodes.{dummy_span, list_node, node_of}
use Rattle.ecma_tree.specs.Sorted.{HasShape, one}
use Rattle.ecma_tree.specs.declared.node.Node.{Node, Node-F, out-Node}
use Rattle.ecma_tree.specs.declared.node.Node.TheViews.{out-roll-Node, roll-out-Node}
use Rattle.ecma_tree.proofs.ShapeLaws.{node_has_shape}
use Rattle.ecma_utils.specs.Expressions.{assign_of, call_of}
use Rattle.ecma_utils.specs.Quotes.{name_of}
use Rattle.ecma_strip_rewriting.proofs.Commuting.{by-parts}
use Rattle.ecma_strip_rewriting.proofs.PlainKinds.{no, shape-out}
use Rattle.ecma_strip_rewriting.proofs.Stays.{kind-roll}
use Rattle.ecma_lower.specs.declared.names.Names.{Names}
use Rattle.ecma_lower.specs.declared.seat.Seat.TheVariants as seat
use Rattle.ecma_lower.specs.Assignments.{is_required}
use Rattle.ecma_lower.specs.Names.{names_of}
use Rattle.ecma_lower.specs.Seats.{seat_in}
use Rattle.ecma_lower.specs.Writing.{constant, constant_of, declared, export_of, exports_of, import_of, module_exports, required_of, written}
use Rattle.ecma_lower.proofs.Singles.{write}
use Rattle.ecma_lower_strip.proofs.Items.{Item as ItemForm, as_import, item-is}
use Rattle.ecma_lower_strip.proofs.Resting.{one-child, rest-stays, rests, two-children, unwritten, write-roll}

-- ---- items as they are read

abbrev pub IsItem : Node → Type 0
IsItem n = HasShape (one sort.ModuleItem) n

abbrev pub is_classic : TsImportExportAssignConfig → Bool
is_classic way.Classic = true
is_classic _ = false

--   import a = b;
abbrev pub import_at : Span → Bool → Node → Node → Node
import_at span e a b = node_of span (as_import e) (a ∷ b ∷ [])

--   require("m")
abbrev pub required_at : Span → Node → Node
required_at span arg = node_of span kind.TsExternalModuleRef (arg ∷ [])

--   l.r
abbrev pub qualified_at : Span → Node → Node → Node
qualified_at span l r = node_of span kind.TsQualifiedName (l ∷ r ∷ [])

--   export = e;
abbrev pub export_at : Span → Node → Node
export_at span e = node_of span kind.TsExportAssignment (e ∷ [])

-- ---- what is written

--   l.r
abbrev pub member_at : Span → Node → Node → Node
member_at span l r = node_of span kind.MemberExpr (l ∷ r ∷ [])

--   require("m")
abbrev pub require_of : ℕ → Node → Node
require_of free arg = call_of dummy_span (name_of free dummy_span (codes "require")) (arg ∷ [])

abbrev pub declarator : Node → Node → Node
declarator p v = node_of dummy_span (kind.VarDeclarator false) (p ∷ v ∷ [])

--   const a = v;
abbrev pub declares : Span → Node → Node → Node
declares span a v = node_of span (kind.VarDecl Const false) (list_node (declarator (declared a) v ∷ []) ∷ [])

--   export const a = v;
abbrev pub exports_at : Span → Node → Node → Node
exports_at span a v = node_of span kind.ExportDecl (declares dummy_span a v ∷ [])

--   exports.a = v
abbrev pub exported_value : ℕ → Node → Node → Node
exported_value free a v = assign_of Assign (exports_of free a) v

--   module.exports = e;
abbrev pub set_at : ℕ → Span → Node → Node
set_at free span e = node_of span kind.ExprStmt (assign_of Assign (module_exports free) e ∷ [])

-- ---- what is to be shown

-- of what holds of items and of their parts as they are read, and what then holds of the items and of the expressions that are written
pub record Writes (assign : TsImportExportAssignConfig) (free : ℕ) (Before Part After Value : Node → Type 0) : Type 0 where
  -- the parts of what is read
  pub import_parts : (span : Span) (e : Bool) (a b : Node) → Before (import_at span e a b) → Part a × Part b
  pub dot_parts : (span : Span) (l r : Node) → Part (qualified_at span l r) → Part l × Part r
  pub text_part : (span : Span) (arg : Node) → Part (required_at span arg) → Part arg
  pub export_part : (span : Span) (e : Node) → Before (export_at span e) → Part e
  -- items that stay
  pub rest : (n : Node) → IsItem n → rests (out-Node n).kind ≡ true → Before n → After n
  pub import_kept : (span at : Span) (e : Bool) (a arg : Node) → is_classic assign ≡ false → HasShape (one sort.Ident) a → HasShape (one sort.Str) arg
      → Before (import_at span e a (required_at at arg)) → After (import_at span e a (required_at at arg))
  pub export_kept : (span : Span) (e : Node) → is_classic assign ≡ false → HasShape (one sort.Expr) e → Before (export_at span e) → After (export_at span e)
  -- the right side of an import
  pub name : (a : Node) → HasShape (one sort.Ident) a → Part a → Value a
  pub member : (span : Span) (l r : Node) → Value l → HasShape (one sort.IdentName) r → Part r → Value (member_at span l r)
  pub require : (arg : Node) → HasShape (one sort.Str) arg → Part arg → Value (require_of free arg)
  -- items that are made
  pub constant : (span : Span) (a v : Node) → HasShape (one sort.Ident) a → Part a → Value v → After (declares span a v)
  pub exported : (span : Span) (a v : Node) → HasShape (one sort.Ident) a → Part a → Value v → After (exports_at span a v)
  pub shared : (a v : Node) → HasShape (one sort.Ident) a → Part a → Value v → Value (exported_value free a v)
  pub set : (span : Span) (e : Node) → HasShape (one sort.Expr) e → Part e → After (set_at free span e)

-- ---- what is written, by the parts of an item

module _ (names : Names) where
  import-out : (span : Span) (e : Bool) (a b : Node) → write names seat.Item (import_at span e a b) ≡ import_of names (is_required (out-Node b).kind) e span (a ∷ write names seat.Value b ∷ [])
  unfolding written seat_in
  import-out span e a b =
      write-roll names seat.Item span (as_import e) (a ∷ b ∷ []) refl
      ∙ ap (λ z. import_of names (is_required (out-Node b).kind) e span (z ∷ write names seat.Value b ∷ [])) (unwritten names a)

  export-out : (span : Span) (e : Node) → write names seat.Item (export_at span e) ≡ export_of names.free span (e ∷ [])
  unfolding written seat_in
  export-out span e = write-roll names seat.Item span kind.TsExportAssignment (e ∷ []) refl ∙ ap (λ z. export_of names.free span (z ∷ [])) (unwritten names e)

  qualified-out : (span : Span) (l r : Node) → write names seat.Value (qualified_at span l r) ≡ member_at span (write names seat.Value l) r
  unfolding written seat_in
  qualified-out span l r = write-roll names seat.Value span kind.TsQualifiedName (l ∷ r ∷ []) refl ∙ ap (λ z. member_at span (write names seat.Value l) z) (unwritten names r)

  required-out : (span : Span) (arg : Node) → write names seat.Value (required_at span arg) ≡ required_of names.required span (arg ∷ [])
  unfolding written seat_in
  required-out span arg = write-roll names seat.Value span kind.TsExternalModuleRef (arg ∷ []) refl ∙ ap (λ z. required_of names.required span (z ∷ [])) (unwritten names arg)

pub constant-is : (span : Span) (a v : Node) → constant span a v ≡ declares span a v
constant-is span a v =
    let parts : Node-F Node = record { span = dummy_span; kind = kind.VarDecl Const false; children = list_node (declarator (declared a) v ∷ []) ∷ [] } in
    ap (λ (z : Node-F Node). node_of span z.kind z.children) (out-roll-Node parts)

-- ---- the right side of an import

abbrev is_entity : Kind → Bool
is_entity (kind.Ident text ctxt optional) = true
is_entity kind.TsQualifiedName = true
is_entity _ = false

entity-kind : (k : Kind) → belongs sort.TsEntityName k ≡ true → is_entity k ≡ true
entity-kind (kind.Ident text ctxt optional) h = refl
entity-kind kind.TsQualifiedName h = refl
entity-kind _ h = no h

entity-unrequired : (k : Kind) → belongs sort.TsEntityName k ≡ true → is_required k ≡ false
entity-unrequired kind.TsExternalModuleRef h = no h
entity-unrequired _ h = refl

-- a name with its dots, or a module that is required
abbrev pub Side : Node → Type 0
Side b = HasShape (one sort.TsEntityName) b ⊎ ((at : Span) × (arg : Node) × (b ≡ required_at at arg) × HasShape (one sort.Str) arg)

abbrev is_side : Kind → Bool
is_side (kind.Ident text ctxt optional) = true
is_side kind.TsQualifiedName = true
is_side kind.TsExternalModuleRef = true
is_side _ = false

side-kind : (k : Kind) → belongs sort.TsModuleRef k ≡ true → is_side k ≡ true
side-kind (kind.Ident text ctxt optional) h = refl
side-kind kind.TsQualifiedName h = refl
side-kind kind.TsExternalModuleRef h = refl
side-kind _ h = no h

side-by : (span : Span) (k : Kind) (cs : List Node) → is_side k ≡ true → HasShape (one sort.TsModuleRef) (node_of span k cs) → Side (node_of span k cs)
side-by span (kind.Ident text ctxt optional) cs g h =
    let k = kind.Ident text ctxt optional in
    inl ((node_has_shape span k cs (one sort.TsEntityName)).1 (refl, ((node_has_shape span k cs (one sort.TsModuleRef)).0 h).1))
side-by span kind.TsQualifiedName cs g h =
    inl ((node_has_shape span kind.TsQualifiedName cs (one sort.TsEntityName)).1 (refl, ((node_has_shape span kind.TsQualifiedName cs (one sort.TsModuleRef)).0 h).1))
side-by span kind.TsExternalModuleRef cs g h =
    let single = one-child (one sort.Str) cs ((node_has_shape span kind.TsExternalModuleRef cs (one sort.TsModuleRef)).0 h).1 in
    inr (span, single.0, ap (node_of span kind.TsExternalModuleRef) single.1, single.2)
side-by span _ cs g h = no g

pub side-is : (b : Node) → HasShape (one sort.TsModuleRef) b → Side b
side-is b h =
    subst Side (roll-out-Node b)
    (side-by (out-Node b).span (out-Node b).kind (out-Node b).children (side-kind (out-Node b).kind (shape-out b (one sort.TsModuleRef) h).0) (subst (HasShape (one sort.TsModuleRef)) (sym (roll-out-Node b)) h))

-- ---- an item that is written

module _ (assign : TsImportExportAssignConfig) (free : ℕ) (Before Part After Value : Node → Type 0) (w : Writes assign free Before Part After Value) where
  abbrev names : Names
  names = names_of assign free None

  abbrev Entity : Node → Type 0
  Entity n = HasShape (one sort.TsEntityName) n → Part n → Value (write names seat.Value n)

  dotted : (span : Span) (l r : Node) → Entity l → HasShape (one sort.TsEntityName) l → HasShape (one sort.IdentName) r → Part (qualified_at span l r) → Value (write names seat.Value (qualified_at span l r))
  dotted span l r left hl hr part =
      let parts = w.dot_parts span l r part in
      subst Value (sym (qualified-out names span l r)) (w.member span (write names seat.Value l) r (left hl parts.0) hr parts.1)

  entity-by : (span : Span) (k : Kind) (cs : List Node) → is_entity k ≡ true → ((i : ℕ) (c : Node) → slice_get cs i ≡ Some c → Entity c) → Entity (node_of span k cs)
  entity-by span (kind.Ident text ctxt optional) cs g each h part =
      let k = kind.Ident text ctxt optional in
      subst Value (sym (rest-stays names seat.Value (node_of span k cs) (ap rests (kind-roll span k cs))))
      (w.name (node_of span k cs) ((node_has_shape span k cs (one sort.Ident)).1 (refl, ((node_has_shape span k cs (one sort.TsEntityName)).0 h).1)) part)
  entity-by span kind.TsQualifiedName cs g each h part =
      let two = two-children (one sort.TsEntityName) (one sort.IdentName) cs ((node_has_shape span kind.TsQualifiedName cs (one sort.TsEntityName)).0 h).1 in
      subst (λ z. Part (node_of span kind.TsQualifiedName z) → Value (write names seat.Value (node_of span kind.TsQualifiedName z))) (sym two.2)
      (dotted span two.0 two.1 (each 0 two.0 (ap (λ (z : List Node). slice_get z 0) two.2)) two.3 two.4) part
  entity-by span _ cs g each h part = no g

  entity-node : (span : Span) (k : Kind) (cs : List Node) → ((i : ℕ) (c : Node) → slice_get cs i ≡ Some c → Entity c) → Entity (node_of span k cs)
  entity-node span k cs each h part = entity-by span k cs (entity-kind k ((node_has_shape span k cs (one sort.TsEntityName)).0 h).0) each h part

  entity-written : (n : Node) → Entity n
  entity-written = by-parts Entity entity-node

  -- an alias
  aliased : (span : Span) (e : Bool) (a b : Node) → HasShape (one sort.Ident) a → HasShape (one sort.TsEntityName) b → Before (import_at span e a b) → After (write names seat.Item (import_at span e a b))
  aliased span e a b ha hb item = subst After (sym is) (by e)
    where
      v : Node
      v = write names seat.Value b

      is : write names seat.Item (import_at span e a b) ≡ constant_of names false e span a v
      is = import-out names span e a b ∙ ap (λ q. import_of names q e span (a ∷ v ∷ [])) (entity-unrequired (out-Node b).kind (shape-out b (one sort.TsEntityName) hb).0)

      parts : Part a × Part b
      parts = w.import_parts span e a b item

      value : Value v
      value = entity-written b hb parts.1

      by : (e : Bool) → After (constant_of names false e span a v)
      by false = subst After (sym (constant-is span a v)) (w.constant span a v ha parts.0 value)
      by true = w.exported span a v ha parts.0 value

  -- a module that is required
  required-by : (c : TsImportExportAssignConfig) (span at : Span) (e : Bool) (a arg : Node) → (is_classic c ≡ false → After (import_at span e a (required_at at arg)))
      → After (constant span a (require_of free arg)) → After (constant span a (exported_value free a (require_of free arg)))
      → After (import_of (names_of c free None) true e span (a ∷ required_of (names_of c free None).required at (arg ∷ []) ∷ []))
  required-by way.Classic span at false a arg kept own shared = own
  required-by way.Classic span at true a arg kept own shared = shared
  required-by way.Preserve span at e a arg kept own shared = kept refl
  required-by way.NodeNext span at e a arg kept own shared = kept refl
  required-by way.EsNext span at e a arg kept own shared = kept refl

  requiring : (span at : Span) (e : Bool) (a arg : Node) → HasShape (one sort.Ident) a → HasShape (one sort.Str) arg → Before (import_at span e a (required_at at arg))
      → After (write names seat.Item (import_at span e a (required_at at arg)))
  requiring span at e a arg ha hs item =
      let b = required_at at arg in
      let is : write names seat.Item (import_at span e a b) ≡ import_of names true e span (a ∷ required_of names.required at (arg ∷ []) ∷ []) =
      import-out names span e a b
      ∙ ap (λ k. import_of names (is_required k) e span (a ∷ write names seat.Value b ∷ [])) (kind-roll at kind.TsExternalModuleRef (arg ∷ []))
      ∙ ap (λ z. import_of names true e span (a ∷ z ∷ [])) (required-out names at arg) in
      let parts = w.import_parts span e a b item in
      let v = require_of free arg in
      let value : Value v = w.require arg hs (w.text_part at arg parts.1) in
      subst After (sym is)
      (required-by assign span at e a arg (λ c. w.import_kept span at e a arg c ha hs item)
      (subst After (sym (constant-is span a v)) (w.constant span a v ha parts.0 value))
      (subst After (sym (constant-is span a (exported_value free a v))) (w.constant span a (exported_value free a v) ha parts.0 (w.shared a v ha parts.0 value))))

  -- what the module is
  exports-by : (c : TsImportExportAssignConfig) (span : Span) (e : Node) → (is_classic c ≡ false → After (export_at span e)) → After (set_at free span e) → After (export_of (names_of c free None).free span (e ∷ []))
  exports-by way.Classic span e kept set = set
  exports-by way.Preserve span e kept set = kept refl
  exports-by way.NodeNext span e kept set = kept refl
  exports-by way.EsNext span e kept set = kept refl

  exporting : (span : Span) (e : Node) → HasShape (one sort.Expr) e → Before (export_at span e) → After (write names seat.Item (export_at span e))
  exporting span e h item =
      subst After (sym (export-out names span e)) (exports-by assign span e (λ c. w.export_kept span e c h item) (w.set span e h (w.export_part span e item)))

  pub item-written : (n : Node) → IsItem n → Before n → After (write names seat.Item n)
  item-written n h item = by (item-is n h)
    where
      sided : (span : Span) (e : Bool) (a b : Node) → HasShape (one sort.Ident) a → Side b → Before (import_at span e a b) → After (write names seat.Item (import_at span e a b))
      sided span e a b ha (inl hb) before = aliased span e a b ha hb before
      sided span e a b ha (inr (at, arg, is, hs)) before =
          subst (λ z. Before (import_at span e a z) → After (write names seat.Item (import_at span e a z))) (sym is) (requiring span at e a arg ha hs) before

      by : ItemForm n → After (write names seat.Item n)
      by (inl r) = subst After (sym (rest-stays names seat.Item n r)) (w.rest n h r item)
      by (inr (inl (span, e, a, b, is, ha, hb))) = subst (λ z. Before z → After (write names seat.Item z)) (sym is) (sided span e a b ha (side-is b hb)) item
      by (inr (inr (span, e, is))) =
          let have = ((node_has_shape span kind.TsExportAssignment (e ∷ []) (one sort.ModuleItem)).0 (subst (HasShape (one sort.ModuleItem)) is h)).1 in
          subst (λ z. Before z → After (write names seat.Item z)) (sym is) (exporting span e have.0) item
