-- What is asked of the data of each node beside that it fits: that it is what a reader of plain modules gives.
use Rattle.std.specs.Prelude.{◌≡◌, Bool, true, false, not, ◌||◌, List, ℕ, Option, Some, None, is_some}
use Rattle.std.specs.Str.{IsUtf8}
use Rattle.ecma_kind.specs.declared.kind.Kind.{Kind}
use Rattle.ecma_kind.specs.declared.kind.Kind.TheVariants as kind
use Rattle.ecma_kind.specs.declared.operators.MemberModifiers.{MemberModifiers}
use Rattle.ecma_grammar.specs.trees.Functions.{questioned_kind}

-- a literal has its source text
abbrev pub IsSource : Option (List ℕ) → Type 0
IsSource None = ⊥
IsSource (Some raw) = IsUtf8 raw

-- texts are UTF-8, a name has no context and no `?`, a literal has its source text
abbrev pub IsBare : Kind → Type 0
IsBare (kind.Ident sym ctxt optional) = IsUtf8 sym × (ctxt ≡ 0) × (optional ≡ false)
IsBare (kind.IdentName sym) = IsUtf8 sym
IsBare (kind.PrivateName name) = IsUtf8 name
IsBare (kind.Str value raw) = IsSource raw
IsBare (kind.Number value raw) = IsSource raw
IsBare (kind.BigInt value raw) = IsSource raw
IsBare (kind.Regex exp flags) = IsUtf8 exp × IsUtf8 flags
IsBare (kind.TplElement raw cooked tail) = IsUtf8 raw
IsBare _ = Unit {0}

-- modifiers of a member but `static`
abbrev pub has_type_modifiers : MemberModifiers → Bool
has_type_modifiers modifiers = is_some modifiers.accessibility || (modifiers.is_abstract || (modifiers.is_optional || modifiers.is_override))

-- no TypeScript but the assignments of CommonJS modules
abbrev pub is_of_forms : Kind → Bool
is_of_forms kind.TsTypeAssertion = false
is_of_forms kind.TsConstAssertion = false
is_of_forms kind.TsNonNullExpr = false
is_of_forms kind.TsAsExpr = false
is_of_forms kind.TsInstantiation = false
is_of_forms kind.TsSatisfiesExpr = false
is_of_forms kind.TsTypeParamInstantiation = false
is_of_forms kind.TsTypeAnn = false
is_of_forms kind.TsType = false
is_of_forms kind.TsTypeParamDecl = false
is_of_forms (kind.TsInterfaceDecl declare) = false
is_of_forms (kind.TsTypeAliasDecl declare) = false
is_of_forms (kind.TsEnumDecl declare is_const) = false
is_of_forms kind.TsEnumMember = false
is_of_forms (kind.TsModuleDecl declare global) = false
is_of_forms kind.TsModuleBlock = false
is_of_forms (kind.TsNamespaceDecl declare global) = false
is_of_forms kind.TsNamespaceExportDecl = false
is_of_forms kind.TsQualifiedName = false
is_of_forms (kind.TsIndexSignature readonly is_static) = false
is_of_forms (kind.TsParamProp accessibility is_override readonly) = false
is_of_forms kind.ExportDefaultSpecifier = false
is_of_forms (kind.TsImportEqualsDecl is_export is_type_only) = not is_type_only
is_of_forms (kind.ImportDecl type_only) = not type_only
is_of_forms (kind.NamedExport type_only) = not type_only
is_of_forms (kind.ExportAll type_only) = not type_only
is_of_forms (kind.ImportNamedSpecifier is_type_only) = not is_type_only
is_of_forms (kind.ExportNamedSpecifier is_type_only) = not is_type_only
is_of_forms (kind.FnDecl declare) = not declare
is_of_forms (kind.ClassDecl declare) = not declare
is_of_forms (kind.VarDecl k declare) = not declare
is_of_forms (kind.VarDeclarator definite) = not definite
is_of_forms (kind.ArrayPat optional) = not optional
is_of_forms (kind.ObjectPat optional) = not optional
is_of_forms (kind.Class is_abstract) = not is_abstract
is_of_forms (kind.Constructor accessibility is_optional) = not (is_some accessibility || is_optional)
is_of_forms (kind.ClassMethod k modifiers) = not (has_type_modifiers modifiers)
is_of_forms (kind.PrivateMethod k modifiers) = not (has_type_modifiers modifiers)
is_of_forms (kind.ClassProp modifiers readonly declare definite) = not (has_type_modifiers modifiers || (readonly || (declare || definite)))
is_of_forms (kind.PrivateProp modifiers readonly declare definite) = not (has_type_modifiers modifiers || (readonly || (declare || definite)))
is_of_forms _ = true

-- both
abbrev pub IsTaken : Kind → Type 0
IsTaken k = IsBare k × (is_of_forms k ≡ true)

-- its texts are UTF-8, it has no context, and a literal has its source text; a name may have a `?`
abbrev pub IsBareUnquestioned : Kind → Type 0
IsBareUnquestioned k = IsBare (questioned_kind false k)
