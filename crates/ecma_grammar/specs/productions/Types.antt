-- Types, of which only the place is kept in the finished tree (TypeScript handbook).
use Rattle.std.specs.Prelude.{ℕ, true, false, List, codes}
use Rattle.ecma_kind.specs.declared.operators.MethodKind.{MethodKind}
use Rattle.ecma_kind.specs.declared.operators.MethodKind.TheVariants as method_kind
use Rattle.ecma_grammar.specs.Grammar.{Grammar, same_line, keep, put, ◌▸◌, ◌//◌, many, ahead, unless, marked, up, build, word, punct, a, behind_punct, optional, maybe, whether, commas, node, bare, item, list}
use Rattle.ecma_grammar.specs.declared.production.Part.TheVariants as part
use Rattle.ecma_grammar.specs.declared.production.TokenKind.TheVariants as token
use Rattle.ecma_grammar.specs.declared.production.Leaf.TheVariants as leaf
use Rattle.ecma_grammar.specs.declared.production.Flag.TheVariants.{Absent}
use Rattle.ecma_grammar.specs.declared.production.Plain.TheVariants as plain
use Rattle.ecma_grammar.specs.declared.production.Form.TheVariants as form
use Rattle.ecma_grammar.specs.productions.Names.{pattern, type_, assign, a_name, left_angle, right_angle, end, kept_word, prop_name, prop_start}

-- TypeParams, TypeArgs

-- TypeParam = ('const' / 'in' / 'out' &Name)* Name ('extends' Type)? ('=' Type)?
--   type A<in out T extends U = V> = T;
--   function f<const T>(a: T) { }
unfoldable pub type_param : Grammar
type_param =
    many (word (codes "const") // word (codes "in") // word (codes "out") ▸ ahead a_name) ▸ a_name
    ▸ optional (word (codes "extends") ▸ type_) ▸ optional (punct (codes "=") ▸ type_)

-- "<" L(TypeParam) ">"
--   type A<T, U,> = T;
unfoldable pub type_params : Grammar
type_params = left_angle ▸ commas type_param ▸ right_angle

-- "<" L(Type) ">"
--   let a: A<B, C>;
unfoldable pub type_args : Grammar
type_args = left_angle ▸ commas type_ ▸ right_angle

-- the same, kept as a child
abbrev pub type_param_decl : Grammar
type_param_decl = maybe (marked (bare plain.TsTypeParamDecl type_params))

abbrev pub type_param_instantiation : Grammar
type_param_instantiation = bare plain.TsTypeParamInstantiation type_args

-- Entity = (Name / 'this') ('.' Key)*
--   let a: A.B.C;
unfoldable pub entity : Grammar
entity = (a_name // word (codes "this")) ▸ many (punct (codes ".") ▸ a token.Key)

-- Ref = Entity (~TypeArgs)?
--   let a: A.B<C>;
abbrev pub type_reference : Grammar
type_reference = entity ▸ optional (same_line ▸ type_args)

abbrev pub heritage_type : Grammar
heritage_type = bare plain.TsType type_reference

-- TypeList = Ref (',' Ref)*
--   class A implements B, C<D> { }
unfoldable pub type_list : Grammar
type_list = heritage_type ▸ many (punct (codes ",") ▸ heritage_type)

-- annotations

-- Ret = (Name / 'this') ~'is' Type / 'asserts' ~(Name / 'this') ('is' Type)? / Type
--   function f(a): a is T { }
--   function f(a): asserts a is T { }
--   function f(asserts): asserts is T { }   // a parameter of the name asserts
unfoldable pub return_type : Grammar
return_type =
    (a_name // word (codes "this")) ▸ same_line ▸ word (codes "is") ▸ type_
    // word (codes "asserts") ▸ same_line ▸ (a_name // word (codes "this")) ▸ optional (word (codes "is") ▸ type_)
    // type_

-- Ann = ':' Type
--   let a: T;
unfoldable pub some_annotation : Grammar
some_annotation = node plain.TsTypeAnn (punct (codes ":") ▸ bare plain.TsType type_)

abbrev pub annotation : Grammar
annotation = maybe (marked some_annotation)

-- RetAnn = ':' Ret
--   function f(): T { }
unfoldable pub some_return_annotation : Grammar
some_return_annotation = node plain.TsTypeAnn (punct (codes ":") ▸ bare plain.TsType return_type)

abbrev pub return_annotation : Grammar
return_annotation = maybe (marked some_return_annotation)

-- parameters, which functions share with types

-- Acc = 'public' / 'private' / 'protected' / ('readonly' / 'override') &(Key / '[' / '{')
--   class A { constructor(private readonly b) { } }
--   function f(readonly) { }   // a parameter of the name readonly
unfoldable pub parameter_modifier : Grammar
parameter_modifier =
    kept_word (word (codes "public")) // kept_word (word (codes "private")) // kept_word (word (codes "protected"))
    // (kept_word (word (codes "readonly")) // kept_word (word (codes "override"))) ▸ ahead (a token.Key // punct (codes "[") // punct (codes "{"))

-- '...' Pattern
--   function f(...a) { }
unfoldable pub rest_pattern : Grammar
rest_pattern = node plain.RestPat (punct (codes "...") ▸ pattern ▸ put Absent)

-- '=' Assign
--   function f(a = 1) { }
unfoldable pub default_value : Grammar
default_value = optional (item plain.AssignPat (punct (codes "=") ▸ assign))

-- Param = T 'this' Ann? / [Acc+] ('...' Pattern / Pattern) ['?'] [Ann] ('=' Assign)?
--   function f(this: T, a?: U, [b] = c, ...d) { }
unfoldable pub param : Grammar
param =
    marked (build form.Annotated (node plain.BindingIdent (keep leaf.ThisIdent ▸ put Absent) ▸ put Absent ▸ maybe some_annotation))
    // build form.Param
    (maybe (marked (list (parameter_modifier ▸ many parameter_modifier)))
    ▸ build form.Chain (build form.Annotated ((rest_pattern // pattern) ▸ whether (marked (punct (codes "?"))) ▸ annotation) ▸ default_value))

-- Params = L(Param)
--   function f(a, b,) { }
--   function f(a b) { }   // refused
unfoldable pub params : Grammar
params = list (commas param)

-- types

--   type A = (b: T, c?: U) => V;
unfoldable pub parenthesized_params : Grammar
parenthesized_params = punct (codes "(") ▸ params ▸ punct (codes ")")

-- what stands before the parameters of a signature
abbrev pub type_parameters : Grammar
type_parameters = maybe (bare plain.TsTypeParamDecl type_params)

--   interface A { <T>(b: T): U }
--   type A = (...b, c) => d;   // refused, by a context rule
unfoldable pub call_signature : Grammar
call_signature = build (form.Signature method_kind.Method) (type_parameters ▸ parenthesized_params)

--   interface A { new (b): C }
unfoldable pub new_signature : Grammar
new_signature = build form.NewSignature (word (codes "new") ▸ type_parameters ▸ parenthesized_params)

-- TFun = 'abstract'? 'new' TypeParams? '(' Params ')' '=>' Ret / TypeParams? '(' Params ')' '=>' Ret
--   type A = <T>(a: T) => T;
--   type A = abstract new () => B;
unfoldable pub function_type : Grammar
function_type =
    optional (word (codes "abstract")) ▸ new_signature ▸ punct (codes "=>") ▸ return_type
    // call_signature ▸ punct (codes "=>") ▸ return_type

-- TInter = '&'? TOp ('&' TOp)*
--   type A = B & C;
unfoldable pub intersection_type : Grammar
intersection_type = optional (punct (codes "&")) ▸ up part.TypeOperator ▸ many (punct (codes "&") ▸ up part.TypeOperator)

-- TUnion = '|'? TInter ('|' TInter)*
--   type A = | B | C & D;   // B | (C & D)
unfoldable pub union_type : Grammar
union_type = optional (punct (codes "|")) ▸ intersection_type ▸ many (punct (codes "|") ▸ intersection_type)

-- TBase = TFun / TUnion
abbrev pub unconditional_type : Grammar
unconditional_type = function_type // union_type

-- Type = TFun / TUnion (~'extends' ('infer' Name 'extends' TBase &'?' / TBase) '?' Type ':' Type)?
--   type A = B extends C ? D : E;
--   type A = B extends infer C extends D ? C : E;
unfoldable pub type_body : Grammar
type_body =
    function_type
    // union_type
    ▸ optional
    (same_line ▸ word (codes "extends")
    ▸ (word (codes "infer") ▸ a_name ▸ word (codes "extends") ▸ unconditional_type ▸ ahead (punct (codes "?")) // unconditional_type)
    ▸ punct (codes "?") ▸ type_ ▸ punct (codes ":") ▸ type_)

-- (~'[' Type? ']')*
--   type A = B[]; type C = D["e"];
unfoldable pub array_suffixes : Grammar
array_suffixes = optional (same_line ▸ behind_punct (codes "[") part.ArraySuffix)

--   type A = B[][];   // ][]
unfoldable pub array_suffix_body : Grammar
array_suffix_body = optional type_ ▸ punct (codes "]") ▸ array_suffixes

-- TImp = 'import' '(' Type ')' ('.' Key)* (~TypeArgs)?
--   type A = import("m").B<C>;
unfoldable pub import_type : Grammar
import_type = word (codes "import") ▸ punct (codes "(") ▸ type_ ▸ punct (codes ")") ▸ many (punct (codes ".") ▸ a token.Key) ▸ optional (same_line ▸ type_args)

-- TElem = '...'? (Key '?'? ':' Type / Type '?'?)
--   type A = [B, C?, ...D[]];
--   type A = [b: B, c?: C, ...d: D[]];
unfoldable pub tuple_element : Grammar
tuple_element =
    optional (punct (codes "..."))
    ▸ (a token.Key ▸ optional (punct (codes "?")) ▸ punct (codes ":") ▸ type_ // type_ ▸ optional (punct (codes "?")))

-- TMap = '{' (('+' / '-')? 'readonly')? '[' Name 'in' Type ('as' Type)? ']' (('+' / '-')? '?')? Ann? (';' / ',')? '}'
--   type A = { readonly [B in C]?: D };
--   type A = { -readonly [B in C as D]-?: E };
unfoldable pub mapped_type : Grammar
mapped_type =
    punct (codes "{") ▸ optional (optional (punct (codes "+") // punct (codes "-")) ▸ word (codes "readonly"))
    ▸ punct (codes "[") ▸ a_name ▸ word (codes "in") ▸ type_ ▸ optional (word (codes "as") ▸ type_) ▸ punct (codes "]")
    ▸ optional (optional (punct (codes "+") // punct (codes "-")) ▸ punct (codes "?"))
    ▸ optional some_annotation ▸ optional (punct (codes ";") // punct (codes ",")) ▸ punct (codes "}")

-- TypeParams? '(' Params ')' RetAnn?
--   interface A { <T>(b: T): U }
unfoldable pub signature_type : Grammar
signature_type = call_signature ▸ optional some_return_annotation

-- ('get' / 'set') &PropStart PName '(' Params ')'
--   interface A { get b(): C; set b(d) }
--   interface A { get b(c) }   // refused, by a context rule
abbrev pub accessor_signature : List ℕ → MethodKind → Grammar
accessor_signature w k = build (form.Signature k) (word w ▸ ahead prop_start ▸ list prop_name ▸ parenthesized_params)

-- TMember
--   interface A { readonly b?: C; d(): E; get f(): G }
--   interface A { new (b): C; [d: string]: E }
unfoldable pub type_member : Grammar
type_member =
    accessor_signature (codes "get") method_kind.Getter ▸ optional some_return_annotation
    // accessor_signature (codes "set") method_kind.Setter ▸ optional some_return_annotation
    // new_signature ▸ optional some_return_annotation
    // signature_type
    // optional (word (codes "readonly")) ▸ punct (codes "[") ▸ a_name ▸ punct (codes ":") ▸ type_ ▸ punct (codes "]") ▸ some_annotation
    // optional (word (codes "readonly") ▸ ahead prop_start) ▸ prop_name ▸ optional (punct (codes "?")) ▸ (signature_type // optional some_annotation)

-- TObj = '{' (TMember (';' / ',' / End))* '}'
--   type A = { b: C; d: E };
--   type A = { b: C d: E };   // refused
unfoldable pub object_type : Grammar
object_type = punct (codes "{") ▸ many (type_member ▸ (punct (codes ";") // punct (codes ",") // end)) ▸ punct (codes "}")

-- a template with types in it
--   type A = `b${C}d`;
unfoldable pub template_type : Grammar
template_type =
    a (token.Template (record { first = true; tagged = false; last = true }))
    // a (token.Template (record { first = true; tagged = false; last = false })) ▸ type_
    ▸ many (a (token.Template (record { first = false; tagged = false; last = false })) ▸ type_)
    ▸ a (token.Template (record { first = false; tagged = false; last = true }))

-- TPrim
--   type A = (B) | [C] | { d: E } | "f" | -1 | null | typeof g;
unfoldable pub primary_type : Grammar
primary_type =
    punct (codes "(") ▸ type_ ▸ punct (codes ")")
    // punct (codes "[") ▸ commas tuple_element ▸ punct (codes "]")
    // mapped_type
    // object_type
    // template_type
    // a token.Str
    // optional (punct (codes "-")) ▸ (a token.Number // a token.BigInt)
    // word (codes "void") // word (codes "null") // word (codes "true") // word (codes "false")
    // word (codes "typeof") ▸ (import_type // type_reference)
    // import_type
    // type_reference

-- TOp = ('keyof' / 'unique' / 'readonly') TOp / 'infer' Name (~'extends' TBase !'?')? / TPrim (~'[' Type? ']')*
--   type A = keyof B; type C = readonly D[];
--   type A = B extends (infer C extends D)[] ? C : E;
unfoldable pub type_operator_body : Grammar
type_operator_body =
    (word (codes "keyof") // word (codes "unique") // word (codes "readonly")) ▸ up part.TypeOperator
    // word (codes "infer") ▸ a_name ▸ optional (same_line ▸ word (codes "extends") ▸ unconditional_type ▸ unless (punct (codes "?")))
    // primary_type ▸ array_suffixes

-- After: what may stand after type arguments in an expression
--   a<T>(b); a<T>?.(b);
--   a<b>c;   // no type arguments: (a < b) > c
unfoldable pub after_type_args : Grammar
after_type_args =
    ahead (punct (codes "(") // punct (codes "?.") ▸ (punct (codes "(") // punct (codes "[") // left_angle) // a (token.Template (record { first = true; tagged = true; last = true })) // a (token.Template (record { first = true; tagged = true; last = false }))
    // punct (codes ")") // punct (codes "]") // punct (codes "}") // punct (codes ",") // punct (codes ";") // punct (codes ":")
    // punct (codes "?") // punct (codes "??") // punct (codes "||") // punct (codes "&&") // punct (codes "|") // punct (codes "^") // punct (codes "&")
    // punct (codes "==") // punct (codes "!=") // punct (codes "===") // punct (codes "!==") // punct (codes "*") // punct (codes "%") // punct (codes "**")
    // word (codes "in") // word (codes "instanceof") // a token.EndOfText
    // unless same_line ▸ unless (punct (codes "<")) ▸ unless (punct (codes ">")) ▸ unless (punct (codes "+")) ▸ unless (punct (codes "-")))
