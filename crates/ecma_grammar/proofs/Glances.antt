-- What the first byte of the token ahead says of a reading.
use Rattle.std.proofs.lemmas.Bool.Decides.{nat_tests}
use Rattle.std.proofs.Common.{◌≡◌, ◌≢◌, ℕ, Bool, true, false, nat_eq, codes, refl, arith}
use Rattle.std.specs.Char.{is_ascii_digit}
use Rattle.ecma_grammar.specs.declared.production.Leaf.TheVariants as leaf
use Rattle.ecma_grammar.specs.declared.production.TokenKind.TheVariants as token
use Rattle.ecma_grammar.specs.Grammar.{◌▸◌, ◌//◌, keep, word, punct, a, optional}
use Rattle.ecma_grammar.specs.Glance.{sight, passes, fails, Remains}
use Rattle.ecma_grammar.specs.productions.Expressions.{assignments}
use Rattle.ecma_grammar.specs.productions.Chains.{links, template_start}
use Rattle.ecma_grammar.specs.productions.Operators.{prefixed}
use Rattle.ecma_grammar.specs.productions.Functions.{function_declaration, function_expression}
use Rattle.ecma_grammar.specs.productions.Names.{block, ident, string, statement}
use Rattle.ecma_grammar.specs.productions.Primary.{primary, class_expression, template, array, object, parenthesized}
use Rattle.ecma_grammar.specs.productions.Statements.{statement_body, if_, for_await, for_, while_, do_while, switch, try_, jump, labeled, expression_statement}
use Rattle.ecma_grammar.specs.productions.Types.{primary_type, mapped_type, object_type, template_type, import_type, type_reference, type_operator_body, array_suffixes, parameter_modifier}
use Rattle.ecma_grammar.specs.productions.Modules.{module_item, import, import_equals, export, export_default}
use Rattle.ecma_grammar.specs.productions.Classes.{class_declaration, abstract_class_declaration}
use Rattle.ecma_grammar.specs.productions.Declarations.{declaration, type_alias, interface, enum_, enum_rest, namespace}

off : (b c : ℕ) → b ≢ c → nat_eq b c ≡ false
off b c h = grind arith

pub assignments-pass : (b : ℕ) (no_in middle : Bool) → b ≢ 61 → b ≢ 43 → b ≢ 45 → b ≢ 42 → b ≢ 47 → b ≢ 37 → b ≢ 60 → b ≢ 62 → b ≢ 38 → b ≢ 124 → b ≢ 94 → b ≢ 63 → sight b (assignments no_in middle) ≡ passes
unfolding assignments
assignments-pass b no_in middle h1 h2 h3 h4 h5 h6 h7 h8 h9 h10 h11 h12 = rw (off b 61 h1, off b 43 h2, off b 45 h3, off b 42 h4, off b 47 h5, off b 37 h6, off b 60 h7, off b 62 h8, off b 38 h9, off b 124 h10, off b 94 h11, off b 63 h12) refl

pub links-pass : (b : ℕ) → b ≢ 46 → b ≢ 63 → b ≢ 91 → b ≢ 40 → b ≢ 96 → b ≢ 33 → b ≢ 60 → sight b links ≡ passes
unfolding links template_start
links-pass b h1 h2 h3 h4 h5 h6 h7 = rw (off b 46 h1, off b 63 h2, off b 91 h3, off b 40 h4, off b 96 h5, off b 33 h6, off b 60 h7) refl

pub prefixed-fails : (b : ℕ) → b ≢ 100 → b ≢ 118 → b ≢ 116 → b ≢ 43 → b ≢ 45 → b ≢ 126 → b ≢ 33 → b ≢ 97 → b ≢ 60 → sight b prefixed ≡ fails
unfolding prefixed
prefixed-fails b h1 h2 h3 h4 h5 h6 h7 h8 h9 = rw (off b 100 h1, off b 118 h2, off b 116 h3, off b 43 h4, off b 45 h5, off b 126 h6, off b 33 h7, off b 97 h8, off b 60 h9) refl

pub declaration-fails : (b : ℕ) → b ≢ 118 → b ≢ 108 → b ≢ 99 → b ≢ 97 → b ≢ 102 → b ≢ 116 → b ≢ 105 → b ≢ 101 → b ≢ 110 → b ≢ 109 → b ≢ 103 → b ≢ 100 → sight b declaration ≡ fails
unfolding declaration function_declaration class_declaration abstract_class_declaration type_alias interface enum_ enum_rest namespace
declaration-fails b h1 h2 h3 h4 h5 h6 h7 h8 h9 h10 h11 h12 = rw (off b 118 h1, off b 108 h2, off b 99 h3, off b 97 h4, off b 102 h5, off b 116 h6, off b 105 h7, off b 101 h8, off b 110 h9, off b 109 h10, off b 103 h11, off b 100 h12) refl

pub parameter_modifier-fails : (b : ℕ) → b ≢ 112 → b ≢ 114 → b ≢ 111 → sight b parameter_modifier ≡ fails
unfolding parameter_modifier
parameter_modifier-fails b h1 h2 h3 = rw (off b 112 h1, off b 114 h2, off b 111 h3) refl

pub ruleset beginning = (parameter_modifier-fails, assignments-pass, links-pass, prefixed-fails, declaration-fails)

-- what remains of a choice by a first byte with which none of the alternatives before begins
pub statement-remains : (b : ℕ) → b ≢ 123 → b ≢ 59 → b ≢ 105 → b ≢ 102 → b ≢ 119 → b ≢ 100 → b ≢ 115 → b ≢ 116 → b ≢ 114 → b ≢ 98 → b ≢ 99 → Remains b statement_body (labeled // declaration // expression_statement)
unfolding statement_body block if_ for_await for_ while_ do_while switch try_ jump labeled
statement-remains b h1 h2 h3 h4 h5 h6 h7 h8 h9 h10 h11 = rw (off b 123 h1, off b 59 h2, off b 105 h3, off b 102 h4, off b 119 h5, off b 100 h6, off b 115 h7, off b 116 h8, off b 114 h9, off b 98 h10, off b 99 h11) (refl, refl)

pub primary-remains : (b : ℕ) → b ≢ 102 → b ≢ 97 → b ≢ 99 → b ≢ 116 → b ≢ 110
    → Remains b primary (ident // keep leaf.Number // keep leaf.BigInt // string // keep leaf.Regex // template false // array // object // parenthesized)
unfolding primary function_expression class_expression
primary-remains b h1 h2 h3 h4 h5 = rw (off b 102 h1, off b 97 h2, off b 99 h3, off b 116 h4, off b 110 h5) (refl, refl)

pub primary_type-remains : (b : ℕ) → is_ascii_digit b ≡ false → b ≢ 40 → b ≢ 91 → b ≢ 123 → b ≢ 96 → b ≢ 34 → b ≢ 39 → b ≢ 45 → b ≢ 46 → b ≢ 118 → b ≢ 110 → b ≢ 116 → b ≢ 102 → b ≢ 105 → Remains b primary_type type_reference
unfolding primary_type mapped_type object_type template_type import_type
primary_type-remains b digit h1 h2 h3 h4 h5 h6 h7 h8 h9 h10 h11 h12 h13 = rw (digit, off b 40 h1, off b 91 h2, off b 123 h3, off b 96 h4, off b 34 h5, off b 39 h6, off b 45 h7, off b 46 h8, off b 118 h9, off b 110 h10, off b 116 h11, off b 102 h12, off b 105 h13) (refl, refl)

-- the digits of a number
pub digit-remains : (b : ℕ) → is_ascii_digit b ≡ true
    → Remains b primary_type (optional (punct (codes "-")) ▸ (a token.Number // a token.BigInt) // word (codes "void") // word (codes "null") // word (codes "true") // word (codes "false") // word (codes "typeof") ▸ (import_type // type_reference) // import_type // type_reference)
unfolding primary_type mapped_type object_type template_type
digit-remains b digit =
    let n40 : nat_eq b 40 ≡ false = grind (arith, nat_tests) in let n91 : nat_eq b 91 ≡ false = grind (arith, nat_tests) in let n123 : nat_eq b 123 ≡ false = grind (arith, nat_tests) in
    let n96 : nat_eq b 96 ≡ false = grind (arith, nat_tests) in let n34 : nat_eq b 34 ≡ false = grind (arith, nat_tests) in let n39 : nat_eq b 39 ≡ false = grind (arith, nat_tests) in
    let n45 : nat_eq b 45 ≡ false = grind (arith, nat_tests) in let n46 : nat_eq b 46 ≡ false = grind (arith, nat_tests) in
    rw (n40, n91, n123, n96, n34, n39, n45, n46, digit) (refl, refl)

pub type_operator-remains : (b : ℕ) → b ≢ 107 → b ≢ 117 → b ≢ 114 → b ≢ 105 → Remains b type_operator_body (primary_type ▸ array_suffixes)
unfolding type_operator_body
type_operator-remains b h1 h2 h3 h4 = rw (off b 107 h1, off b 117 h2, off b 114 h3, off b 105 h4) (refl, refl)

pub module_item-remains : (b : ℕ) → b ≢ 105 → b ≢ 101 → Remains b module_item statement
unfolding module_item import import_equals export export_default
module_item-remains b h1 h2 = rw (off b 105 h1, off b 101 h2) (refl, refl)

pub ruleset choosing = (statement-remains, primary-remains, primary_type-remains, digit-remains, type_operator-remains, module_item-remains)
