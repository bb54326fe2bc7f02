-- What the finders tell nodes apart by.
use Rattle.std.specs.Prelude.{ℕ, Bool, true, false, ◌&&◌, ◌||◌, ◌==◌, List, bytes_eq}
use Rattle.ecma_kind.specs.declared.kind.Kind.{Kind}
use Rattle.ecma_kind.specs.declared.kind.Kind.TheVariants as kind
use Rattle.ecma_kind.specs.declared.operators.VarDeclKind.TheVariants.{Var}
use Rattle.ecma_kind.specs.declared.shapes.Sort.{Sort}
use Rattle.ecma_kind.specs.declared.shapes.Sort.TheVariants as sort

-- a type, or the declaration of one with its name
abbrev pub is_type : Kind → Bool
is_type kind.TsTypeAnn = true
is_type kind.TsType = true
is_type kind.TsTypeParamDecl = true
is_type kind.TsTypeParamInstantiation = true
is_type (kind.TsInterfaceDecl declare) = true
is_type (kind.TsTypeAliasDecl declare) = true
is_type _ = false

abbrev pub is_name : Kind → Bool
is_name (kind.Ident sym ctxt optional) = true
is_name _ = false

-- an identifier of this text
abbrev pub has_text : List ℕ → Kind → Bool
has_text text (kind.Ident sym ctxt optional) = bytes_eq sym text
has_text text _ = false

-- an identifier of this text and this context
abbrev pub has_id : List ℕ × ℕ → Kind → Bool
has_id id (kind.Ident sym ctxt optional) = bytes_eq sym id.0 && ctxt == id.1
has_id id _ = false

abbrev pub is_this : Kind → Bool
is_this kind.ThisExpr = true
is_this _ = false

-- `await`, or a loop `for await`
abbrev pub is_await : Kind → Bool
is_await kind.AwaitExpr = true
is_await (kind.ForOfStmt awaits) = awaits
is_await _ = false

abbrev pub is_rest_pattern : Kind → Bool
is_rest_pattern kind.RestPat = true
is_rest_pattern _ = false

abbrev pub is_binding : Kind → Bool
is_binding kind.BindingIdent = true
is_binding _ = false

abbrev pub is_parameter : Kind → Bool
is_parameter kind.Param = true
is_parameter _ = false

-- a function that is no arrow function, or the common part of a method
abbrev pub is_function : Kind → Bool
is_function (kind.Function is_generator is_async) = true
is_function _ = false

abbrev pub is_arrow : Kind → Bool
is_arrow (kind.ArrowExpr is_async is_generator) = true
is_arrow _ = false

abbrev pub is_constructor : Kind → Bool
is_constructor (kind.Constructor accessibility is_optional) = true
is_constructor _ = false

abbrev pub is_any_function : Kind → Bool
is_any_function kind = is_function kind || is_arrow kind || is_constructor kind

abbrev pub is_class : Kind → Bool
is_class (kind.Class is_abstract) = true
is_class _ = false

-- a declaration with `var`
abbrev pub is_var : Kind → Bool
is_var (kind.VarDecl Var declare) = true
is_var _ = false

abbrev pub is_function_declaration : Kind → Bool
is_function_declaration (kind.FnDecl declare) = true
is_function_declaration _ = false

-- the name of a property
abbrev pub is_key : Sort → Bool
is_key sort.PropName = true
is_key _ = false

abbrev pub is_default_declaration : Sort → Bool
is_default_declaration sort.DefaultDecl = true
is_default_declaration _ = false
