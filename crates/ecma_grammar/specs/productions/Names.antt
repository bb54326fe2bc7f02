-- Names, literals and keys; what is read inside as a part.
use Rattle.std.specs.Prelude.{Bool, false, codes}
use Rattle.ecma_grammar.specs.Grammar.{Grammar, keep, put, ◌▸◌, ◌//◌, many, ahead, up, build, punct, a, node, list}
use Rattle.ecma_grammar.specs.declared.production.Part.TheVariants as part
use Rattle.ecma_grammar.specs.declared.production.TokenKind.TheVariants as token
use Rattle.ecma_grammar.specs.declared.production.Leaf.TheVariants as leaf
use Rattle.ecma_grammar.specs.declared.production.Flag.TheVariants.{Absent}
use Rattle.ecma_grammar.specs.declared.production.Plain.TheVariants as plain
use Rattle.ecma_grammar.specs.declared.production.Form.TheVariants as form

abbrev pub assign : Grammar
assign = up (part.Assign false false)

-- `in` is no operator there; it ends the middle of a conditional expression
abbrev pub assign_at : Bool → Bool → Grammar
assign_at no_in middle = up (part.Assign no_in middle)

abbrev pub assign_in : Bool → Grammar
assign_in no_in = assign_at no_in false

abbrev pub pattern : Grammar
pattern = up part.Pattern

abbrev pub statement : Grammar
statement = up part.Statement

abbrev pub type_ : Grammar
type_ = up part.«Type»

abbrev pub a_name : Grammar
a_name = a token.Name

abbrev pub left_angle : Grammar
left_angle = a token.LeftAngle

abbrev pub right_angle : Grammar
right_angle = a token.RightAngle

abbrev pub end : Grammar
end = a token.End

abbrev pub ident : Grammar
ident = keep leaf.Ident

abbrev pub string : Grammar
string = keep leaf.Str

-- a key with this text, kept as a name
abbrev pub kept_word : Grammar → Grammar
kept_word w = ahead w ▸ keep leaf.IdentName

-- Name
--   let a;
--   let if;   // refused
unfoldable pub binding_ident : Grammar
binding_ident = node plain.BindingIdent (ident ▸ put Absent)

-- '[' Assign ']'
--   ({ [a + b]: c });
--   ({ [a, b]: c });   // refused
unfoldable pub computed_prop_name : Grammar
computed_prop_name = node plain.ComputedPropName (punct (codes "[") ▸ assign ▸ punct (codes "]"))

-- PropName = Key / Str / Num / Big / '[' Assign ']'
--   ({ if: 1, "a b": 2, 3: 4, [c]: 5 });
--   ({ a.b: 1 });   // refused
unfoldable pub prop_name : Grammar
prop_name = keep leaf.IdentName // string // keep leaf.Number // keep leaf.BigInt // computed_prop_name

-- ClassElementName = PropName / PrivName
--   class A { if; "b c"; #d; }
--   ({ #a: 1 });   // refused
unfoldable pub class_element_name : Grammar
class_element_name = prop_name // keep leaf.PrivateName

-- what a property may begin with: Key / Str / Num / Big / '[' / PrivName
--   ({ get a() { return 1; } });
--   ({ get() { } });   // what follows begins no property: a method of the name get
unfoldable pub prop_start : Grammar
prop_start = a token.Key // a token.Str // a token.Number // a token.BigInt // punct (codes "[") // a token.PrivateName

-- what a member of a class may begin with: PropStart / '*'
--   class A { async *b() { } }
--   class A { async() { } }   // what follows begins no member: a method of the name async
unfoldable pub member_start : Grammar
member_start = prop_start // punct (codes "*")

-- ModuleExportName = Key / Str
--   export { default as a } from "m";
--   export { "a b" as c } from "m";
unfoldable pub module_export_name : Grammar
module_export_name = keep leaf.KeyIdent // string

-- Expr = Assign (',' Assign)*
--   a, b;
--   a, ;   // refused
unfoldable pub expression : Bool → Grammar
expression no_in = build form.Sequence (assign_in no_in ▸ many (punct (codes ",") ▸ assign_in no_in))

-- Block = '{' Stmt* '}'
--   { a; let b; }
--   { a;   // refused
unfoldable pub block : Grammar
block = node plain.BlockStmt (punct (codes "{") ▸ list (many statement) ▸ punct (codes "}"))
