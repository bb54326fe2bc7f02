-- Declarations (ECMAScript, 14.3, 15; TypeScript handbook).
use Rattle.std.specs.Prelude.{Bool, true, false, codes}
use Rattle.ecma_grammar.specs.Grammar.{Grammar, same_line, keep, put, ◌▸◌, ◌//◌, many, ahead, marked, up, build, word, punct, behind_word, behind_punct, optional, maybe, whether, commas, node, list}
use Rattle.ecma_grammar.specs.declared.production.Part.TheVariants as part
use Rattle.ecma_grammar.specs.declared.production.Leaf.TheVariants as leaf
use Rattle.ecma_grammar.specs.declared.production.Flag.TheVariants.{Absent}
use Rattle.ecma_grammar.specs.declared.production.Plain.TheVariants as plain
use Rattle.ecma_grammar.specs.declared.production.Form.TheVariants as form
use Rattle.ecma_kind.specs.declared.operators.VarDeclKind.TheVariants.{Var, Let, Const}
use Rattle.ecma_grammar.specs.productions.Names.{pattern, assign, assign_in, type_, end, ident, string}
use Rattle.ecma_grammar.specs.productions.Types.{type_params, type_list, annotation, object_type}
use Rattle.ecma_grammar.specs.productions.Functions.{function_declaration}
use Rattle.ecma_grammar.specs.productions.Classes.{class_declaration, abstract_class_declaration}

-- Declr = Pattern ['!'] [Ann] ('=' Assign)?
--   let [a, b]: T = c, d!: U;
--   let a b;   // refused
abbrev pub declarator : Bool → Grammar
declarator no_in = build form.Declarator (pattern ▸ whether (marked (punct (codes "!"))) ▸ annotation ▸ maybe (punct (codes "=") ▸ assign_in no_in))

abbrev pub declarators : Bool → Grammar
declarators no_in = list (declarator no_in ▸ many (punct (codes ",") ▸ declarator no_in))

-- Var = ('var' / 'let' / 'const') Declr (',' Declr)*, with what ends it
--   const a = 1, b = 2;
--   const 1 = a;   // refused
abbrev pub variables : Bool → Grammar → Grammar
variables no_in tail =
    node (plain.VarDecl Var) (word (codes "var") ▸ declarators no_in ▸ tail)
    // node (plain.VarDecl Let) (word (codes "let") ▸ declarators no_in ▸ tail)
    // node (plain.VarDecl Const) (word (codes "const") ▸ declarators no_in ▸ tail)

-- 'type' ~Name TypeParams? '=' Type End
--   type A<T> = T[];
--   type = a;   // an assignment
unfoldable pub type_alias : Grammar
type_alias = build (form.First plain.TsTypeAliasDecl) (word (codes "type") ▸ same_line ▸ ident ▸ optional type_params ▸ punct (codes "=") ▸ type_ ▸ end)

-- Interface = 'interface' ~Name TypeParams? ('extends' TypeList)? TObj
--   interface A<T> extends B, C<T> { d: T }
--   interface A = B;   // refused
unfoldable pub interface : Grammar
interface =
    build (form.First plain.TsInterfaceDecl)
    (word (codes "interface") ▸ same_line ▸ ident ▸ optional type_params ▸ optional (word (codes "extends") ▸ type_list) ▸ object_type)

-- (Key / Str / '[' Str ']') ('=' Assign)?
--   enum A { B = 1, "c", ["d"] }
--   enum A { 1 }   // refused
unfoldable pub enum_member : Grammar
enum_member = node plain.TsEnumMember ((keep leaf.KeyIdent // string // punct (codes "[") ▸ string ▸ punct (codes "]")) ▸ maybe (punct (codes "=") ▸ assign))

-- 'enum' Name '{' L(member) '}'
--   enum A { B, C, }
unfoldable pub enum_rest : Grammar
enum_rest = word (codes "enum") ▸ ident ▸ punct (codes "{") ▸ list (commas enum_member) ▸ punct (codes "}")

-- Enum = 'const'? 'enum' ..
--   enum A { B, C = 2 }
--   const enum A { B }
unfoldable pub enum_ : Grammar
enum_ = node (plain.TsEnumDecl true) (word (codes "const") ▸ enum_rest) // node (plain.TsEnumDecl false) enum_rest

-- ('.' Name)*
--   namespace A.B.C { }
unfoldable pub dotted_names : Grammar
dotted_names = optional (behind_punct (codes ".") part.DottedName)

--   namespace A.B { }   // .B
unfoldable pub dotted_name_body : Grammar
dotted_name_body = ident ▸ dotted_names

abbrev pub body_of_namespace : Grammar
body_of_namespace = up part.NamespaceBody

-- Namespace = ('namespace' / 'module') ~Name ('.' Name)* NsBody / 'module' ~Str (NsBody / End) / 'global' ~NsBody
--   namespace A.B { let c; }
--   declare module "m"; declare global { }
unfoldable pub namespace : Grammar
namespace =
    build form.Namespace ((word (codes "namespace") // word (codes "module")) ▸ same_line ▸ ident ▸ dotted_names ▸ body_of_namespace)
    // node (plain.TsModuleDecl false) (word (codes "module") ▸ same_line ▸ string ▸ (body_of_namespace // end ▸ put Absent))
    // node (plain.TsModuleDecl true) (ahead (word (codes "global")) ▸ keep leaf.KeyIdent ▸ same_line ▸ body_of_namespace)

-- Decl
--   let a; function f() { } class A { }
--   type T = A; declare let b: T;
unfoldable pub declaration : Grammar
declaration =
    variables false end // function_declaration // class_declaration
    // marked abstract_class_declaration // marked type_alias // marked interface // marked enum_ // marked namespace
    // marked (build form.Declared (behind_word (codes "declare") part.Declared))

-- 'global' NsBody
abbrev pub global : Grammar
global = node (plain.TsModuleDecl true) (ahead (word (codes "global")) ▸ keep leaf.KeyIdent ▸ body_of_namespace)

-- ~('global' NsBody / Decl), after 'declare'
--   declare let a: T;
--   declare = a;   // an assignment
unfoldable pub declared_body : Grammar
declared_body = same_line ▸ (global // declaration)
