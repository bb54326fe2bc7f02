-- Primary expressions, templates, objects and arrays (ECMAScript, 13.2).
use Rattle.std.specs.Prelude.{Bool, true, false, codes}
use Rattle.ecma_grammar.specs.Grammar.{Grammar, keep, ◌▸◌, ◌//◌, many, build, punct, behind_word, maybe, commas, node, list}
use Rattle.ecma_grammar.specs.declared.production.Part.TheVariants as part
use Rattle.ecma_grammar.specs.declared.production.Leaf.TheVariants as leaf
use Rattle.ecma_grammar.specs.declared.production.Plain.TheVariants as plain
use Rattle.ecma_grammar.specs.declared.production.Form.TheVariants as form
use Rattle.ecma_grammar.specs.productions.Names.{assign, expression, ident, string, prop_name}
use Rattle.ecma_grammar.specs.productions.Functions.{function_expression, getter_property, setter_property, method_property}

-- a backtick, text parts and `${ Expr }` by turns, a backtick
--   `a${b}c`;
--   `\u`;   // refused
unfoldable pub template : Bool → Grammar
template tagged =
    build form.Template
    (keep (leaf.TplElement (record { first = true; tagged = tagged; last = true }))
    // keep (leaf.TplElement (record { first = true; tagged = tagged; last = false })) ▸ expression false
    ▸ many (keep (leaf.TplElement (record { first = false; tagged = tagged; last = false })) ▸ expression false)
    ▸ keep (leaf.TplElement (record { first = false; tagged = tagged; last = true })))

-- '...' Assign
--   f(...a); [...a];
--   ...a;   // refused
unfoldable pub spread : Grammar
spread = node plain.SpreadElement (punct (codes "...") ▸ assign)

-- Elem = '...'? Assign
--   [a, ...b];
unfoldable pub element : Grammar
element = spread // assign

-- '[' (Elem? (',' Elem?)*) ']'
--   [a, , ...b, ];   // three elements, of which the second is a hole
--   [a b];   // refused
unfoldable pub array : Grammar
array = node plain.ArrayLit (punct (codes "[") ▸ build form.Elements (maybe element ▸ many (punct (codes ",") ▸ maybe element)) ▸ punct (codes "]"))

-- Prop
--   ({ a, b: 1, get c() { return 2; }, d() { }, ...e });
--   ({ a = 1 } = b);   // a = 1 stands only in what becomes a pattern, as a context rule says
unfoldable pub property : Grammar
property =
    spread // getter_property // setter_property // method_property
    // node plain.KeyValueProp (prop_name ▸ punct (codes ":") ▸ assign)
    // node plain.AssignProp (ident ▸ punct (codes "=") ▸ assign)
    // ident

-- '{' L(Prop) '}'
--   ({ a, b: 1, });
--   ({ a b });   // refused
unfoldable pub object : Grammar
object = node plain.ObjectLit (punct (codes "{") ▸ list (commas property) ▸ punct (codes "}"))

-- '(' Expr ')'
--   (a, b);
--   ();   // refused
unfoldable pub parenthesized : Grammar
parenthesized = node plain.ParenExpr (punct (codes "(") ▸ expression false ▸ punct (codes ")"))

-- Class(Name?)
--   (class A { });
--   (class { });
unfoldable pub class_expression : Grammar
class_expression = build (form.Class plain.ClassExpr false) (behind_word (codes "class") (part.Class false))

-- Primary
--   [this, null, 1, 2n, "a", /b/g];
--   if;   // refused
unfoldable pub primary : Grammar
primary =
    function_expression // class_expression // keep leaf.This // keep leaf.Null // keep leaf.True // keep leaf.False // ident
    // keep leaf.Number // keep leaf.BigInt // string // keep leaf.Regex // template false // array // object // parenthesized
