-- Patterns (ECMAScript, 14.3.3).
use Rattle.std.specs.Prelude.{codes}
use Rattle.ecma_grammar.specs.Grammar.{Grammar, put, ◌▸◌, ◌//◌, many, build, punct, maybe, commas, node, list}
use Rattle.ecma_grammar.specs.declared.production.Flag.TheVariants.{Absent}
use Rattle.ecma_grammar.specs.declared.production.Plain.TheVariants as plain
use Rattle.ecma_grammar.specs.declared.production.Form.TheVariants as form
use Rattle.ecma_grammar.specs.productions.Names.{pattern, assign, binding_ident, prop_name}
use Rattle.ecma_grammar.specs.productions.Types.{rest_pattern, default_value}

-- PElem = '...' Pattern / Pattern ('=' Assign)?
--   let [a, b = 1, ...c] = d;
--   let [...a = b] = c;   // refused
unfoldable pub pattern_element : Grammar
pattern_element = rest_pattern // build form.Chain (pattern ▸ default_value)

-- '[' (PElem? (',' PElem?)*) ']'
--   let [, a, [b]] = c;
--   let [a b] = c;   // refused
unfoldable pub array_pattern : Grammar
array_pattern = node plain.ArrayPat (punct (codes "[") ▸ build form.Elements (maybe pattern_element ▸ many (punct (codes ",") ▸ maybe pattern_element)) ▸ punct (codes "]") ▸ put Absent)

-- PProp = '...' Name / PName ':' Pattern ('=' Assign)? / Name ('=' Assign)?
--   let { a, b = 1, c: [d], ...e } = f;
--   let { a: 1 } = b;   // refused
unfoldable pub pattern_property : Grammar
pattern_property =
    node plain.RestPat (punct (codes "...") ▸ binding_ident ▸ put Absent)
    // node plain.KeyValuePatProp (prop_name ▸ punct (codes ":") ▸ build form.Chain (pattern ▸ default_value))
    // node plain.AssignPatProp (binding_ident ▸ maybe (punct (codes "=") ▸ assign))

-- '{' L(PProp) '}'
--   let { a, b, } = c;
--   let { ...{ a } } = b;   // refused
unfoldable pub object_pattern : Grammar
object_pattern = node plain.ObjectPat (punct (codes "{") ▸ list (commas pattern_property) ▸ punct (codes "}") ▸ put Absent)

-- Pattern = Name / '[' (PElem? (',' PElem?)*) ']' / '{' L(PProp) '}'
--   let a, [b] = c, { d } = e;
--   let a.b = c;   // refused
unfoldable pub pattern_body : Grammar
pattern_body = binding_ident // array_pattern // object_pattern
