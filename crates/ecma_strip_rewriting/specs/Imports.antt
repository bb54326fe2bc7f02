-- `import a = b.c` as the constant that it is: an instance, with the constant written where the import stands.
--   import a = b.c;   // becomes const a = b.c;
use Rattle.std.specs.Prelude.{◌≡◌, ℕ, Bool, true, false, ◌==◌, cond, List, [], ◌∷◌, map}
use Rattle.ecma_kind.specs.Sorts.{is_decl}
use Rattle.ecma_kind.specs.declared.kind.Kind.{Kind}
use Rattle.ecma_kind.specs.declared.kind.Kind.TheVariants as kind
use Rattle.ecma_kind.specs.declared.operators.VarDeclKind.TheVariants.{Const}
use Rattle.ecma_kind.specs.declared.shapes.Sort.{Sort}
use Rattle.ecma_kind.specs.declared.span.Span.{Span}
use Rattle.ecma_tree.specs.Nodes.{absent, list_node, node_of}
use Rattle.ecma_tree.specs.Sorted.{HasSort}
use Rattle.ecma_tree.specs.declared.node.Node.{Node, out-Node}
use Rattle.ecma_strip.specs.Stripping.{stripped}
use Rattle.ecma_rewriting.specs.Rewriting.{Rewriting, become, only, over_ones}
use Rattle.ecma_strip_rewriting.specs.Commuting.{is_body_at, of_all, of_staying}
use Rattle.ecma_strip_rewriting.specs.Names.{Name, first_name}

pub data Seat : Type 0 where
  Other : Seat
  Raw : Seat  -- where nothing is done
  Body : Seat  -- the body of a statement
  Read : Seat  -- of a dotted name that is read

abbrev pub is_raw : Seat → Bool
is_raw Raw = true
is_raw _ = false

abbrev pub acts : Kind → Bool
acts (kind.TsImportEqualsDecl is_export is_type_only) = true
acts kind.TsQualifiedName = true
acts _ = false

abbrev pub seat_in : Seat → Kind → ℕ → Seat
seat_in s (kind.TsImportEqualsDecl is_export is_type_only) i = Read
seat_in s kind.TsQualifiedName i = s
seat_in s kind.TsTypeAssertion i = s
seat_in s kind.TsConstAssertion i = s
seat_in s kind.TsNonNullExpr i = s
seat_in s kind.TsAsExpr i = s
seat_in s kind.TsInstantiation i = s
seat_in s kind.TsSatisfiesExpr i = s
seat_in s kind.SetterProp i = cond (i == 1) Raw Other
seat_in s k i = cond (is_body_at k i) Body Other

-- a type round each
abbrev pub wrapped : Span → Kind → List (List Node) → List Node
wrapped span k [] = node_of span k [] ∷ []
wrapped span k (l ∷ ls) = map (λ e. node_of span k (e ∷ map only ls)) l

-- const a = v
abbrev pub constant : Span → Name → Node → Node
constant span name v =
    node_of span (kind.VarDecl Const false)
    (list_node (node_of span (kind.VarDeclarator false)
    (node_of name.span kind.BindingIdent (node_of name.span (kind.Ident name.sym name.ctxt false) [] ∷ absent ∷ []) ∷ v ∷ []) ∷ []) ∷ [])

abbrev pub is_required : Kind → Bool
is_required kind.TsExternalModuleRef = true
is_required _ = false

-- of `import a = require("m")`, and of what lacks its right side
abbrev pub requires_second : List Node → Bool
requires_second (a ∷ b ∷ others) = is_required (out-Node b).kind
requires_second _ = true

abbrev pub first_list : List (List Node) → List Node
first_list [] = []
first_list (l ∷ ls) = l

abbrev pub second : List (List Node) → Node
second [] = only []
second (l ∷ ls) = only (first_list ls)

-- an export, a type and a required module stay
abbrev pub import_here : Bool → Bool → Span → Kind → List Node → List (List Node) → List Node
import_here false false span k children lists =
    cond (requires_second children) (over_ones span k lists) (constant span (first_name children) (second lists) ∷ [])
import_here is_export is_type_only span k children lists = over_ones span k lists

-- a dotted name is a member
abbrev pub qualified_here : Seat → Span → List (List Node) → List Node
qualified_here Read span lists = over_ones span kind.MemberExpr lists
qualified_here s span lists = over_ones span kind.TsQualifiedName lists

abbrev pub done : Seat → Kind → Span → List Node → List (List Node) → List Node
done s (kind.TsImportEqualsDecl is_export is_type_only) span children lists =
    import_here is_export is_type_only span (kind.TsImportEqualsDecl is_export is_type_only) children lists
done s kind.TsQualifiedName span children lists = qualified_here s span lists
done s kind.TsTypeAssertion span children lists = wrapped span kind.TsTypeAssertion lists
done s kind.TsConstAssertion span children lists = wrapped span kind.TsConstAssertion lists
done s kind.TsNonNullExpr span children lists = wrapped span kind.TsNonNullExpr lists
done s kind.TsAsExpr span children lists = wrapped span kind.TsAsExpr lists
done s kind.TsInstantiation span children lists = wrapped span kind.TsInstantiation lists
done s kind.TsSatisfiesExpr span children lists = wrapped span kind.TsSatisfiesExpr lists
done s k span children lists = over_ones span k lists

-- a declaration as the body of a statement is left as it is
abbrev pub leaves : Seat → Kind → Bool
leaves Body k = is_decl k
leaves _ k = false

abbrev pub rule : Seat → Span → Kind → List Node → List (List Node) → List Node
rule s span k children lists =
    cond (is_raw s) (node_of span k children ∷ []) (cond (leaves s k) (node_of span k children ∷ []) (done s k span children lists))

abbrev pub importing : Rewriting Seat
importing = record {
  keeps = λ n. true;
  unkept = λ s n. n ∷ [];
  next = λ s n. s;
  seat = λ s k children i. seat_in s k i;
  here = rule;
}

-- a tree with its imports of dotted names as constants, and one without types
abbrev pub with_constants : Rewriting Seat → Node → Node
with_constants r = become r Other

-- which of the two is done first does not matter
abbrev pub ConstantsBeforeOrAfter : Type 0
ConstantsBeforeOrAfter = (tree : Node) (sort : Sort) → HasSort sort tree →
    with_constants (of_all importing) (stripped tree) ≡ stripped (with_constants (of_staying importing) tree)
