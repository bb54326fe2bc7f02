-- Laws of the tree without its types.
use Rattle.std.specs.Prelude.{◌≡◌, Bool, true, false, ◌&&◌, ◌||◌, cond, List, [], ◌∷◌}
use Rattle.std.specs.Option.{is_some}
use Rattle.ecma_kind.specs.Sorts.{is_type_wrapper}
use Rattle.ecma_kind.specs.declared.kind.Kind.{Kind}
use Rattle.ecma_kind.specs.declared.kind.Kind.TheVariants as kind
use Rattle.ecma_kind.specs.declared.operators.MemberModifiers.{MemberModifiers}
use Rattle.ecma_kind.specs.declared.shapes.Shape.{Shape}
use Rattle.ecma_kind.specs.declared.shapes.Sort.{Sort}
use Rattle.ecma_kind.specs.declared.shapes.Sort.TheVariants as sort
use Rattle.ecma_tree.specs.Finding.{enters_all, finds}
use Rattle.ecma_tree.specs.Sorted.{HasSort, allows, has_shape_by, one}
use Rattle.ecma_tree.specs.declared.node.Node.{Node, Node-F, fold-Node}
use Rattle.ecma_strip.specs.Stripping.{stripped}

abbrev pub first_has : List (Shape → Bool) → Shape → Bool
first_has [] shape = false
first_has (has ∷ others) shape = has shape

-- an expression with a type round it has a shape where the expression alone has it too
abbrev pub shape_under_types_by : Node-F (Shape → Bool) → Shape → Bool
shape_under_types_by parts shape = cond (is_type_wrapper parts.kind) (allows shape parts.kind && first_has parts.children shape) (has_shape_by parts shape)

-- whether a node has a shape, also without the types round its expressions
abbrev pub has_shape_under_types : Node → Shape → Bool
has_shape_under_types = fold-Node (Shape → Bool) shape_under_types_by

-- a node is of a sort, also without the types round its expressions: so what is assigned to is a target without them
abbrev pub HasSortUnderTypes : Sort → Node → Type 0
HasSortUnderTypes sort node = has_shape_under_types node (one sort) ≡ true

-- whether the nodes of a sort are types
abbrev pub is_type_sort : Sort → Bool
is_type_sort sort.TsTypeAnn = true
is_type_sort sort.TsType = true
is_type_sort sort.TsTypeParamDecl = true
is_type_sort sort.TsTypeParamInstantiation = true
is_type_sort _ = false

-- every sort is kept, but those of types
abbrev pub SortsAreKept : Type 0
SortsAreKept = (tree : Node) (sort : Sort) → is_type_sort sort ≡ false → HasSortUnderTypes sort tree → HasSort sort (stripped tree)

abbrev pub has_type_modifiers : MemberModifiers → Bool
has_type_modifiers modifiers = is_some modifiers.accessibility || (modifiers.is_abstract || (modifiers.is_optional || modifiers.is_override))

-- a kind that is a type or there for types alone, or whose own data says something of types. What is lowered later is none: enums, namespaces, parameter
-- properties, `import a =` and `export =`
unfoldable pub is_type_part : Kind → Bool
is_type_part kind.TsTypeAnn = true
is_type_part kind.TsType = true
is_type_part kind.TsTypeParamDecl = true
is_type_part kind.TsTypeParamInstantiation = true
is_type_part kind.TsTypeAssertion = true
is_type_part kind.TsConstAssertion = true
is_type_part kind.TsNonNullExpr = true
is_type_part kind.TsAsExpr = true
is_type_part kind.TsInstantiation = true
is_type_part kind.TsSatisfiesExpr = true
is_type_part (kind.TsInterfaceDecl declare) = true
is_type_part (kind.TsTypeAliasDecl declare) = true
is_type_part kind.TsNamespaceExportDecl = true
is_type_part (kind.TsIndexSignature readonly is_static) = true
is_type_part (kind.ImportDecl type_only) = type_only
is_type_part (kind.NamedExport type_only) = type_only
is_type_part (kind.ExportAll type_only) = type_only
is_type_part (kind.TsImportEqualsDecl is_export is_type_only) = is_type_only
is_type_part (kind.ImportNamedSpecifier is_type_only) = is_type_only
is_type_part (kind.ExportNamedSpecifier is_type_only) = is_type_only
is_type_part (kind.FnDecl declare) = declare
is_type_part (kind.ClassDecl declare) = declare
is_type_part (kind.TsEnumDecl declare is_const) = declare
is_type_part (kind.TsModuleDecl declare global) = declare
is_type_part (kind.Ident sym ctxt optional) = optional
is_type_part (kind.ArrayPat optional) = optional
is_type_part (kind.ObjectPat optional) = optional
is_type_part (kind.VarDeclarator definite) = definite
is_type_part (kind.Class is_abstract) = is_abstract
is_type_part (kind.Constructor accessibility is_optional) = is_some accessibility || is_optional
is_type_part (kind.ClassMethod k modifiers) = has_type_modifiers modifiers
is_type_part (kind.PrivateMethod k modifiers) = has_type_modifiers modifiers
is_type_part (kind.ClassProp modifiers readonly declare definite) = has_type_modifiers modifiers || (readonly || (declare || definite))
is_type_part (kind.PrivateProp modifiers readonly declare definite) = has_type_modifiers modifiers || (readonly || (declare || definite))
is_type_part _ = false

-- a sort whose nodes go from a list where they are types, or stand there for types alone
abbrev pub is_item_sort : Sort → Bool
is_item_sort sort.ModuleItem = true
is_item_sort sort.ModuleDecl = true
is_item_sort sort.Stmt = true
is_item_sort sort.Decl = true
is_item_sort sort.DefaultDecl = true
is_item_sort sort.ClassMember = true
is_item_sort sort.ImportSpecifier = true
is_item_sort sort.ExportSpecifier = true
is_item_sort _ = false

-- in the tree without its types no type part is left, all the way down: of a module, and of whatever is no item itself
abbrev pub NoTypesAreLeft : Type 0
NoTypesAreLeft = (tree : Node) (sort : Sort) → is_item_sort sort ≡ false → HasSortUnderTypes sort tree → finds is_type_part enters_all (stripped tree) ≡ false
