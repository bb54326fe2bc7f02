-- Exported names (ECMAScript, 16.2.3.1), and bodies of statements (14.6, 14.7.1, 14.13; `Statement` there has no declaration).
use Rattle.std.specs.Prelude.{Bool, true, false, ◌&&◌, ◌||◌}
use Rattle.ecma_kind.specs.declared.kind.Kind.{Kind}
use Rattle.ecma_kind.specs.declared.kind.Kind.TheVariants as kind
use Rattle.ecma_kind.specs.declared.operators.VarDeclKind.{VarDeclKind}
use Rattle.ecma_kind.specs.declared.operators.VarDeclKind.TheVariants.{Var}
use Rattle.ecma_tree.specs.declared.node.Node.{Node}
use Rattle.ecma_rules.specs.declared.standing.Standing.{Standing}
use Rattle.ecma_rules.specs.declared.standing.Standing.TheVariants as standing
use Rattle.ecma_rules.specs.Children.{kind_of}

abbrev pub is_text : Kind → Bool
is_text (kind.Str value raw) = true
is_text _ = false

abbrev pub is_exported : Standing → Bool
is_exported standing.Exported = true
is_exported _ = false

-- a quoted name for what an export without a source takes from its own module
--   export { "a" } from "m";
--   export { "a" };   // refused
abbrev pub is_quoted_local : Standing → Node → Bool
is_quoted_local s node = is_exported s && is_text (kind_of node)

abbrev pub is_lexical : VarDeclKind → Bool
is_lexical Var = false
is_lexical _ = true

-- a declaration other than a `var` without `declare`
--   { let a; function f() { } }
unfoldable pub is_declaration : Kind → Bool
is_declaration (kind.FnDecl declare) = true
is_declaration (kind.ClassDecl declare) = true
is_declaration (kind.VarDecl k declare) = declare || is_lexical k
is_declaration (kind.TsInterfaceDecl declare) = true
is_declaration (kind.TsTypeAliasDecl declare) = true
is_declaration (kind.TsEnumDecl declare is_const) = true
is_declaration (kind.TsModuleDecl declare global) = true
is_declaration _ = false

abbrev pub is_body : Standing → Bool
is_body standing.Body = true
is_body _ = false

-- one as the body of an `if`, an `else`, a loop or a label
--   if (a) { let b; } while (c) var d;
--   if (a) let b;   // refused
abbrev pub is_declared_body : Standing → Node → Bool
is_declared_body s node = is_body s && is_declaration (kind_of node)
