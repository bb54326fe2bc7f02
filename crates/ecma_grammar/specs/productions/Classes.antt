-- Classes (ECMAScript, 15.7).
use Rattle.std.specs.Prelude.{Bool, true, false, codes, if◌then◌else◌}
use Rattle.ecma_grammar.specs.Grammar.{Grammar, same_line, put, ◌▸◌, ◌//◌, many, ahead, marked, build, word, punct, behind_word, optional, maybe, whether, node, bare, list}
use Rattle.ecma_grammar.specs.declared.production.Part.TheVariants as part
use Rattle.ecma_grammar.specs.declared.production.Flag.TheVariants.{Absent, Present}
use Rattle.ecma_grammar.specs.declared.production.Plain.TheVariants as plain
use Rattle.ecma_grammar.specs.declared.production.Form.TheVariants as form
use Rattle.ecma_kind.specs.declared.operators.MethodKind.TheVariants as method_kind
use Rattle.ecma_grammar.specs.productions.Names.{assign, type_, a_name, end, ident, kept_word, block, class_element_name, prop_start, member_start}
use Rattle.ecma_grammar.specs.productions.Types.{type_param_decl, type_param_instantiation, type_list, annotation, some_annotation}
use Rattle.ecma_grammar.specs.productions.Functions.{signature, method_async}
use Rattle.ecma_grammar.specs.productions.Chains.{chain}

abbrev pub typescript_modifier : Grammar → Grammar
typescript_modifier w = marked (kept_word w ▸ same_line ▸ ahead member_start)

-- Mod = 'static' &MStart / T ('public' / 'private' / 'protected' / 'abstract' / 'override' / 'readonly' / 'declare') ~&MStart
--   class A { static b; private readonly c; }
--   class A { static; }   // a field of the name static
unfoldable pub modifier : Grammar
modifier =
    kept_word (word (codes "static")) ▸ ahead member_start
    // typescript_modifier (word (codes "public")) // typescript_modifier (word (codes "private")) // typescript_modifier (word (codes "protected"))
    // typescript_modifier (word (codes "abstract")) // typescript_modifier (word (codes "override"))
    // typescript_modifier (word (codes "readonly")) // typescript_modifier (word (codes "declare"))

abbrev pub modifiers : Grammar
modifiers = list (many modifier)

-- ['?' / '!']
--   class A { b?: T; c!: T; }
--   class A { b?!: T; }   // refused
unfoldable pub question_or_exclamation : Grammar
question_or_exclamation =
    marked (punct (codes "?")) ▸ put Present ▸ put Absent // marked (punct (codes "!")) ▸ put Absent ▸ put Present // put Absent ▸ put Absent

-- 'get' &PropStart CName Sig
--   class A { get b() { return 1; } }
--   class A { get; }   // a field of the name get
unfoldable pub getter : Grammar
getter = build (form.Method method_kind.Getter) (word (codes "get") ▸ ahead prop_start ▸ put Absent ▸ put Absent ▸ class_element_name ▸ put Absent ▸ put Absent ▸ signature)

--   class A { set b(c) { } }
--   class A { set() { } }   // a method of the name set
unfoldable pub setter : Grammar
setter = build (form.Method method_kind.Setter) (word (codes "set") ▸ ahead prop_start ▸ put Absent ▸ put Absent ▸ class_element_name ▸ put Absent ▸ put Absent ▸ signature)

-- ('async' ~&MStart)? '*'? CName ['?' / '!'] Sig
--   class A { b() { } async *[c]() { } #d() { } }
--   class A { function b() { } }   // refused
unfoldable pub method : Grammar
method = build (form.Method method_kind.Method) (method_async ▸ whether (punct (codes "*")) ▸ class_element_name ▸ question_or_exclamation ▸ signature)

-- CName ['?' / '!'] [Ann] ('=' Assign)? End
--   class A { b = 1; static "c"; #d; }
--   class A { b c }   // refused
unfoldable pub field : Grammar
field = build form.Field (class_element_name ▸ question_or_exclamation ▸ annotation ▸ maybe (punct (codes "=") ▸ assign) ▸ end)

-- Mod* '[' Name ':' Type ']' Ann End
--   class A { [b: string]: T; }
--   class A { ["b"]: T; }   // a field with its key in brackets
unfoldable pub index_signature : Grammar
index_signature =
    build form.IndexSignature (modifiers ▸ punct (codes "[") ▸ a_name ▸ punct (codes ":") ▸ bare plain.TsType type_ ▸ punct (codes "]") ▸ some_annotation ▸ end)

-- Member
--   class A { ; static { f(); } b() { } }
--   class A { b, c }   // refused
unfoldable pub member : Grammar
member =
    node plain.EmptyStmt (punct (codes ";"))
    // node plain.StaticBlock (word (codes "static") ▸ block)
    // marked index_signature
    // build form.Modified (modifiers ▸ (getter // setter // method // field))

-- N [TypeParams] ('extends' Chain [TypeArgs])? ['implements' TypeList] '{' Member* '}', after 'class'
--   class A<T> extends B<T> implements C { }
--   class A extends B, C { }   // refused
abbrev pub class_body : Bool → Grammar
class_body named =
    (if named then ident else maybe ident) ▸ type_param_decl
    ▸ (word (codes "extends") ▸ chain ▸ maybe (marked type_param_instantiation) // put Absent ▸ put Absent)
    ▸ list (optional (marked (word (codes "implements") ▸ type_list)))
    ▸ punct (codes "{") ▸ list (many member) ▸ punct (codes "}")

--   class A { }
--   class { }   // refused
unfoldable pub class_declaration : Grammar
class_declaration = build (form.Class plain.ClassDecl false) (behind_word (codes "class") (part.Class true))

-- 'abstract' ~Class(N)
--   abstract class A { abstract b(): T; }
unfoldable pub abstract_class_declaration : Grammar
abstract_class_declaration = build (form.Class plain.ClassDecl true) (word (codes "abstract") ▸ same_line ▸ behind_word (codes "class") (part.Class true))

--   export default abstract class { }
unfoldable pub abstract_class_expression : Grammar
abstract_class_expression = build (form.Class plain.ClassExpr true) (word (codes "abstract") ▸ same_line ▸ behind_word (codes "class") (part.Class false))
