-- Modules (ECMAScript, 16.2).
use Rattle.std.specs.Prelude.{true, false, codes}
use Rattle.ecma_grammar.specs.Grammar.{Grammar, nothing, keep, put, ◌▸◌, ◌//◌, many, ahead, marked, assigned, build, word, punct, a, behind_punct, optional, maybe, whether, commas, node, item, list}
use Rattle.ecma_grammar.specs.declared.production.Part.TheVariants as part
use Rattle.ecma_grammar.specs.declared.production.TokenKind.TheVariants as token
use Rattle.ecma_grammar.specs.declared.production.Leaf.TheVariants as leaf
use Rattle.ecma_grammar.specs.declared.production.Flag.TheVariants.{Absent}
use Rattle.ecma_grammar.specs.declared.production.Plain.TheVariants as plain
use Rattle.ecma_grammar.specs.declared.production.Form.TheVariants as form
use Rattle.ecma_grammar.specs.productions.Names.{statement, expression, assign, end, ident, string, module_export_name}
use Rattle.ecma_grammar.specs.productions.Functions.{default_function}
use Rattle.ecma_grammar.specs.productions.Primary.{class_expression}
use Rattle.ecma_grammar.specs.productions.Classes.{abstract_class_expression}
use Rattle.ecma_grammar.specs.productions.Declarations.{interface, declaration}

-- Attrs = 'with' '{' L(MName ':' Str) '}'
--   import a from "m" with { type: "json" };
--   import a from "m" with { type: 1 };   // refused
unfoldable pub attributes : Grammar
attributes =
    maybe (word (codes "with") ▸ node plain.ObjectLit (punct (codes "{") ▸ list (commas (node plain.KeyValueProp ((keep leaf.IdentName // string) ▸ punct (codes ":") ▸ string))) ▸ punct (codes "}")))

-- 'from' Str Attrs?
--   export * from "m";
--   export * from m;   // refused
unfoldable pub from : Grammar
from = word (codes "from") ▸ string ▸ attributes

-- Star = '*' 'as' Name
--   import * as a from "m";
--   import * from "m";   // refused
unfoldable pub star : Grammar
star = node plain.ImportStarAsSpecifier (punct (codes "*") ▸ word (codes "as") ▸ ident)

-- Spec = T 'type' 'as' 'as' Name / MName 'as' Name / T 'type' MName 'as' Name / T 'type' Name / Name
--   import { a, b as c, default as d } from "m";
--   import { type T, type U as V } from "m";
unfoldable pub import_specifier : Grammar
import_specifier =
    marked (build (form.Swapped (plain.ImportNamedSpecifier true)) (word (codes "type") ▸ ahead (word (codes "as")) ▸ ident ▸ word (codes "as") ▸ ident))
    // build (form.Swapped (plain.ImportNamedSpecifier false)) (module_export_name ▸ word (codes "as") ▸ ident)
    // marked (build (form.Swapped (plain.ImportNamedSpecifier true)) (word (codes "type") ▸ module_export_name ▸ word (codes "as") ▸ ident))
    // marked (node (plain.ImportNamedSpecifier true) (word (codes "type") ▸ ident ▸ put Absent))
    // node (plain.ImportNamedSpecifier false) (ident ▸ put Absent)

-- Specs = '{' L(Spec) '}'
--   import { a, b, } from "m";
--   import { a b } from "m";   // refused
unfoldable pub import_specifiers : Grammar
import_specifiers = punct (codes "{") ▸ commas import_specifier ▸ punct (codes "}")

-- Clause = Name (',' (Star / Specs))? / Star / Specs
--   import a, { b } from "m";
--   import { b }, a from "m";   // refused
unfoldable pub import_clause : Grammar
import_clause =
    list (node plain.ImportDefaultSpecifier ident ▸ optional (punct (codes ",") ▸ (star // import_specifiers)) // star // import_specifiers)

-- Import
--   import "m"; import a from "n";
--   import type { T } from "m";
unfoldable pub import : Grammar
import =
    node (plain.ImportDecl false) (word (codes "import") ▸ list nothing ▸ string ▸ attributes ▸ end)
    // marked (node (plain.ImportDecl true) (word (codes "import") ▸ word (codes "type") ▸ import_clause ▸ from ▸ end))
    // node (plain.ImportDecl false) (word (codes "import") ▸ import_clause ▸ from ▸ end)

-- 'require' '(' Str ')'
--   import a = require("m");
--   import a = require(m);   // refused
unfoldable pub require : Grammar
require = node plain.TsExternalModuleRef (word (codes "require") ▸ punct (codes "(") ▸ string ▸ punct (codes ")"))

-- ('.' Key)*
--   import a = b.c.d;
unfoldable pub dotted_keys : Grammar
dotted_keys = optional (behind_punct (codes ".") part.DottedKey)

--   import a = b.c;   // .c
unfoldable pub dotted_key_body : Grammar
dotted_key_body = item plain.TsQualifiedName (keep leaf.IdentName) ▸ dotted_keys

-- ImportEq = 'export'? 'import' ('type' &Name)? Name '=' ('require' '(' Str ')' / Name ('.' Key)*) End
--   import a = require("m"); export import b = c.d;
--   import a = b();   // refused
unfoldable pub import_equals : Grammar
import_equals =
    assigned (build form.ImportEquals (whether (word (codes "export")) ▸ word (codes "import") ▸ put Absent ▸ ident ▸ punct (codes "=") ▸ require ▸ end))
    // marked
    (build form.ImportEquals
    (whether (word (codes "export")) ▸ word (codes "import") ▸ whether (word (codes "type") ▸ ahead (a token.Name)) ▸ ident ▸ punct (codes "=")
    ▸ (require // build form.Chain (ident ▸ dotted_keys)) ▸ end))

-- ESpec = T 'type' 'as' 'as' MName / MName 'as' MName / T 'type' MName ('as' MName)? / MName
--   export { a, b as default, type T } from "m";
--   export { a.b } from "m";   // refused
unfoldable pub export_specifier : Grammar
export_specifier =
    marked (node (plain.ExportNamedSpecifier true) (word (codes "type") ▸ ahead (word (codes "as")) ▸ keep leaf.KeyIdent ▸ word (codes "as") ▸ module_export_name))
    // node (plain.ExportNamedSpecifier false) (module_export_name ▸ word (codes "as") ▸ module_export_name)
    // marked (node (plain.ExportNamedSpecifier true) (word (codes "type") ▸ module_export_name ▸ maybe (word (codes "as") ▸ module_export_name)))
    // node (plain.ExportNamedSpecifier false) (module_export_name ▸ put Absent)

-- '{' L(ESpec) '}' ('from' Str Attrs?)? End
--   export { a, b as c } from "m";
--   export { };
unfoldable pub export_names : Grammar
export_names = punct (codes "{") ▸ list (commas export_specifier) ▸ punct (codes "}") ▸ (from // put Absent ▸ put Absent) ▸ end

-- '*' 'as' MName 'from' Str Attrs? End
--   export * as a from "m";
--   export * as a;   // refused
unfoldable pub export_star_as : Grammar
export_star_as = list (node plain.ExportNamespaceSpecifier (punct (codes "*") ▸ word (codes "as") ▸ module_export_name)) ▸ from ▸ end

-- '*' 'from' Str Attrs? End
--   export * from "m";
--   export *;   // refused
unfoldable pub export_star : Grammar
export_star = punct (codes "*") ▸ from ▸ end

-- 'export' 'default' (Fun(Name?) / Class(Name?) / T 'abstract' ~Class(Name?) / T Interface / Assign End)
--   export default function () { }
--   export default a + b;
unfoldable pub export_default : Grammar
export_default =
    node plain.ExportDefaultDecl
    (word (codes "export") ▸ word (codes "default") ▸ (default_function // class_expression // marked abstract_class_expression // marked interface))
    // node plain.ExportDefaultExpr (word (codes "export") ▸ word (codes "default") ▸ assign ▸ end)

-- Export
--   export let a = 1;
--   export a;   // refused
unfoldable pub export : Grammar
export =
    export_default
    // marked (node (plain.NamedExport true) (word (codes "export") ▸ word (codes "type") ▸ ahead (punct (codes "{")) ▸ export_names))
    // node (plain.NamedExport false) (word (codes "export") ▸ export_names)
    // marked (node (plain.NamedExport true) (word (codes "export") ▸ word (codes "type") ▸ ahead (punct (codes "*")) ▸ export_star_as))
    // node (plain.NamedExport false) (word (codes "export") ▸ export_star_as)
    // marked (node (plain.ExportAll true) (word (codes "export") ▸ word (codes "type") ▸ ahead (punct (codes "*")) ▸ export_star))
    // node (plain.ExportAll false) (word (codes "export") ▸ export_star)
    // marked (node plain.TsNamespaceExportDecl (word (codes "export") ▸ word (codes "as") ▸ word (codes "namespace") ▸ ident ▸ end))
    // assigned (node plain.TsExportAssignment (word (codes "export") ▸ punct (codes "=") ▸ expression false ▸ end))
    // node plain.ExportDecl (word (codes "export") ▸ declaration)

-- Item = Import / T ImportEq / Export / Stmt
--   import "m"; export { }; f();
unfoldable pub module_item : Grammar
module_item = import // import_equals // export // statement

-- NsBody = '{' Item* '}'
--   namespace A { export let b; import c = d.e; }
unfoldable pub namespace_block : Grammar
namespace_block = node plain.TsModuleBlock (punct (codes "{") ▸ list (many module_item) ▸ punct (codes "}"))

-- Module = Hashbang? Item* EndOfText
--   #!/usr/bin/env node
--   f();
unfoldable pub module_body : Grammar
module_body = build form.Module (maybe (keep leaf.Hashbang) ▸ list (many module_item) ▸ a token.EndOfText)
