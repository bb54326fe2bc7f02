-- Assignments as they are written: a rewriting by seats.
use Rattle.std.specs.Prelude.{ℕ, Bool, true, false, ◌&&◌, not, cond, codes, List, [], ◌∷◌, map, Option, Some, None}
use Rattle.std.specs.Option.{is_some}
use Rattle.ecma_kind.specs.Sorts.{is_type_wrapper}
use Rattle.ecma_kind.specs.declared.ident.Ident.{Ident}
use Rattle.ecma_kind.specs.declared.kind.Kind.{Kind}
use Rattle.ecma_kind.specs.declared.kind.Kind.TheVariants as kind
use Rattle.ecma_kind.specs.declared.operators.AssignOp.TheVariants.{Assign}
use Rattle.ecma_kind.specs.declared.operators.VarDeclKind.TheVariants.{Const}
use Rattle.ecma_kind.specs.declared.span.Span.{Span}
use Rattle.ecma_tree.specs.Idents.{ident_node}
use Rattle.ecma_tree.specs.Nodes.{absent, dummy_span, node_of}
use Rattle.ecma_tree.specs.declared.node.Node.{Node, out-Node}
use Rattle.ecma_utils.specs.Expressions.{assign_of, call_of, key_of, member_of, var_decl_of}
use Rattle.ecma_utils.specs.Quotes.{name_of}
use Rattle.ecma_rewriting.specs.Rewriting.{Rewriting, become, only}
use Rattle.ecma_lower.specs.declared.seat.Seat.{Seat}
use Rattle.ecma_lower.specs.declared.seat.Seat.TheVariants as seat
use Rattle.ecma_lower.specs.declared.names.Names.{Names}
use Rattle.ecma_lower.specs.Assignments.{requires_by}
use Rattle.ecma_lower.specs.Seats.{is_raw, seat_in}

-- ---- names and members

-- a declared name
abbrev pub declared : Node → Node
declared name = node_of (out-Node name).span kind.BindingIdent (name ∷ absent ∷ [])

abbrev pub text_by : Kind → List ℕ
text_by (kind.Ident sym ctxt optional) = sym
text_by _ = []

abbrev pub text_of : Node → List ℕ
text_of name = text_by (out-Node name).kind

-- exports.a, with the place of the name
abbrev pub exports_of : ℕ → Node → Node
exports_of free name = member_of (name_of free dummy_span (codes "exports")) (key_of (out-Node name).span (text_of name))

-- module.exports
abbrev pub module_exports : ℕ → Node
module_exports free = member_of (name_of free dummy_span (codes "module")) (key_of dummy_span (codes "exports"))

-- ---- what stands for an import

-- a declaration at the place of an import
abbrev pub at_place : Span → Node → Node
at_place span n = node_of span (out-Node n).kind (out-Node n).children

-- const a = v;
abbrev pub constant : Span → Node → Node → Node
constant span name v = at_place span (var_decl_of Const (declared name) v)

-- with a free `exports` the constant stays in the module, and is written to `exports` too
--   export const a = v;
--   const a = exports.a = v;
abbrev pub exported_constant : Option ℕ → Span → Node → Node → Node
exported_constant None span name v = node_of span kind.ExportDecl (var_decl_of Const (declared name) v ∷ [])
exported_constant (Some free) span name v = constant span name (assign_of Assign (exports_of free name) v)

-- an import as a constant, of a dotted name or of a required module
abbrev pub constant_of : Names → Bool → Bool → Span → Node → Node → Node
constant_of names required false span name v = constant span name v
constant_of names required true span name v = exported_constant (cond required names.free None) span name v

-- an import of a required module stays where no function is there that requires it
abbrev pub import_of : Names → Bool → Bool → Span → List Node → Node
import_of names required is_export span (name ∷ v ∷ []) =
    cond (required && not (is_some names.required)) (node_of span (kind.TsImportEqualsDecl is_export false) (name ∷ v ∷ []))
    (constant_of names required is_export span name v)
import_of names required is_export span children = node_of span (kind.TsImportEqualsDecl is_export false) children

-- ---- what stands for its right side

-- require("m")
abbrev pub required_of : Option Ident → Span → List Node → Node
required_of None span children = node_of span kind.TsExternalModuleRef children
required_of (Some function) span children = call_of dummy_span (ident_node function) children

-- ---- what stands for `export = e`

-- module.exports = e;
abbrev pub export_of : Option ℕ → Span → List Node → Node
export_of (Some free) span (e ∷ []) = node_of span kind.ExprStmt (assign_of Assign (module_exports free) e ∷ [])
export_of _ span children = node_of span kind.TsExportAssignment children

-- ---- the rewriting

-- what is written in a seat for a node of this kind, over what its children became. The right side of an import was `require("m")` or was not
--   import a = b.c;   // const a = b.c;
unfoldable pub written : Names → Seat → Bool → Span → Kind → List Node → Node
written names seat.Item required span (kind.TsImportEqualsDecl is_export false) children = import_of names required is_export span children
written names seat.Item required span kind.TsExportAssignment children = export_of names.free span children
written names seat.Value required span kind.TsQualifiedName children = node_of span kind.MemberExpr children
written names seat.Value required span kind.TsExternalModuleRef children = required_of names.required span children
written names s required span k children = node_of span k children

-- a type round each
abbrev pub wrapped : Span → Kind → List (List Node) → List Node
wrapped span k [] = node_of span k [] ∷ []
wrapped span k (l ∷ ls) = map (λ e. node_of span k (e ∷ map only ls)) l

abbrev pub done : Names → Seat → Span → Kind → List Node → List (List Node) → List Node
done names s span k children lists = cond (is_type_wrapper k) (wrapped span k lists) (written names s (requires_by children) span k (map only lists) ∷ [])

abbrev pub assigning : Names → Rewriting Seat
assigning names = record {
  keeps = λ n. true;
  unkept = λ s n. n ∷ [];
  next = λ s n. s;
  seat = λ s k children i. seat_in s k i;
  here = λ s span k children lists. cond (is_raw s) (node_of span k children ∷ []) (done names s span k children lists);
}

-- a module with its assignments written
abbrev pub with_assignments : Names → Node → Node
with_assignments names = become (assigning names) seat.Whole
