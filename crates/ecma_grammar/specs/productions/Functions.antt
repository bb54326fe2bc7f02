-- Functions (ECMAScript, 15).
use Rattle.std.specs.Prelude.{Bool, true, false, codes}
use Rattle.ecma_grammar.specs.Grammar.{Grammar, nothing, same_line, put, ◌▸◌, ◌//◌, ahead, unless, marked, build, word, punct, maybe, whether, list}
use Rattle.ecma_grammar.specs.declared.production.Flag.TheVariants.{Absent, Present}
use Rattle.ecma_grammar.specs.declared.production.Plain.TheVariants as plain
use Rattle.ecma_grammar.specs.declared.production.Form.TheVariants as form
use Rattle.ecma_grammar.specs.productions.Names.{assign_at, end, ident, binding_ident, block, prop_name, prop_start, member_start}
use Rattle.ecma_grammar.specs.productions.Types.{type_param_decl, return_annotation, some_return_annotation, params}

-- [TypeParams] '(' Params ')' [RetAnn] and a body
abbrev pub signature_with : Grammar → Grammar
signature_with body = type_param_decl ▸ punct (codes "(") ▸ params ▸ punct (codes ")") ▸ return_annotation ▸ body

-- Sig = [TypeParams] '(' Params ')' [RetAnn] (Block / T End)
--   function f<T>(a: T, ...b): T { }
--   declare function f(a: T): void;
unfoldable pub signature : Grammar
signature = signature_with (block // marked (end ▸ put Absent))

-- FullSig = [TypeParams] '(' Params ')' [RetAnn] Block
--   (function (a: T): T { });
--   (function (a: T): T);   // refused
unfoldable pub full_signature : Grammar
full_signature = signature_with block

-- ('async' ~'function' / 'function') '*'? N, and a signature
abbrev pub function_with : Grammar → Grammar → Grammar
function_with name signed =
    (word (codes "async") ▸ same_line ▸ word (codes "function") ▸ put Present // word (codes "function") ▸ put Absent)
    ▸ whether (punct (codes "*")) ▸ name ▸ signed

-- Fun(N) = ('async' ~'function' / 'function') '*'? N Sig
--   async function* f() { }
abbrev pub function : Grammar → Grammar
function name = function_with name signature

-- ('async' ~'function' / 'function') '*'? Name? FullSig
--   (function f() { });
--   (function () { });
unfoldable pub function_expression : Grammar
function_expression = build (form.Function plain.FnExpr) (function_with (maybe ident) full_signature)

--   export default function () { }
--   export default function f(a): T;   // an overload
unfoldable pub default_function : Grammar
default_function = build (form.Function plain.FnExpr) (function (maybe ident))

--   function f() { }
--   function () { }   // refused
unfoldable pub function_declaration : Grammar
function_declaration = build (form.Function plain.FnDecl) (function ident)

-- 'async' ~&MStart, or not
--   ({ async a() { } });
--   ({ async() { } });   // a method of the name async
unfoldable pub method_async : Grammar
method_async = whether (word (codes "async") ▸ same_line ▸ ahead member_start)

-- ('get' / 'set') &PropStart PName Sig
--   ({ get a() { return 1; } });
--   ({ get: 1 });   // a property of the name get
unfoldable pub getter_property : Grammar
getter_property = build form.Getter (word (codes "get") ▸ ahead prop_start ▸ prop_name ▸ signature)

--   ({ set a(b) { } });
--   ({ set() { } });   // a method of the name set
unfoldable pub setter_property : Grammar
setter_property = build form.Setter (word (codes "set") ▸ ahead prop_start ▸ prop_name ▸ signature)

-- ('async' ~&MStart)? '*'? PName Sig
--   ({ a() { }, *"b"() { }, async [c]() { } });
--   ({ function a() { } });   // refused
unfoldable pub method_property : Grammar
method_property = build (form.Function plain.MethodProp) (method_async ▸ whether (punct (codes "*")) ▸ prop_name ▸ signature)

-- ABody = Block / !'{' Assign
--   a => b;
--   a => ({ b: c });   // after => a brace opens a block
abbrev pub arrow_body : Bool → Bool → Grammar
arrow_body no_in middle = same_line ▸ punct (codes "=>") ▸ (block // unless (punct (codes "{")) ▸ assign_at no_in middle)

-- in the middle of a conditional expression, and where that ends, an arrow function with a return annotation is read only before `:`
--   a ? (b): T => c : d;   // the arrow function (b): T => c
--   a ? (b) : c => d;   // b, or the arrow function c => d
--   a ? b => (c) : d => e;   // the arrow function b => (c), or d => e
abbrev pub before_colon : Bool → Grammar
before_colon true = ahead (punct (codes ":"))
before_colon false = nothing

-- AHead ~'=>' ABody, with AHead = Name / [TypeParams] '(' Params ')' [RetAnn]
--   (a, [b] = c, ...d): T => e;
--   (a + b) => c;   // refused
unfoldable pub arrow_rest : Bool → Bool → Grammar
arrow_rest no_in middle =
    put Absent ▸ list binding_ident ▸ put Absent ▸ arrow_body no_in middle
    // type_param_decl ▸ punct (codes "(") ▸ params ▸ punct (codes ")")
    ▸ (marked some_return_annotation ▸ arrow_body no_in middle ▸ before_colon middle // put Absent ▸ arrow_body no_in middle)

-- Arrow = 'async' ~AHead ~'=>' ABody / AHead ~'=>' ABody
--   async a => await a;
--   async (a, b) => a;
unfoldable pub arrow : Bool → Bool → Grammar
arrow no_in middle =
    build form.Arrow (word (codes "async") ▸ same_line ▸ put Present ▸ arrow_rest no_in middle)
    // build form.Arrow (put Absent ▸ arrow_rest no_in middle)
