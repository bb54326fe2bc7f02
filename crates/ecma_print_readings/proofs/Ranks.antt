-- Which parts a part may begin with: each has a lower rank, and every other part that it reads stands behind a token.
use Rattle.std.proofs.Common.{◌≡◌, ℕ, ◌+◌, ◌*◌, ◌<◌, Bool, true, false, ◌&&◌, nat_le, nat_lt, codes, refl, arith}
use Rattle.std.proofs.lemmas.Bool.{and_parts}
use Rattle.ecma_kind.specs.declared.operators.BinaryOp.{BinaryOp}
use Rattle.ecma_kind.specs.declared.operators.BinaryOp.TheVariants as binary
use Rattle.ecma_grammar.specs.declared.production.Part.{Part}
use Rattle.ecma_grammar.specs.declared.production.Part.TheVariants as part
use Rattle.ecma_grammar.specs.declared.production.Link.{Link}
use Rattle.ecma_grammar.specs.declared.production.Link.TheVariants as link
use Rattle.ecma_grammar.specs.Grammar as grammar
use Rattle.ecma_grammar.specs.Grammar.{Grammar}
use Rattle.ecma_grammar.specs.PartBodies.{part_body}
use Rattle.ecma_grammar.specs.productions.Chains as chains
use Rattle.ecma_grammar.specs.productions.Modules as modules
use Rattle.ecma_print_tokens.specs.Items.{number, Items, it}
use Rattle.ecma_print_readings.proofs.Productions.{productions}
use Rattle.ecma_print_readings.proofs.Machine.{without, body_at}
use Rattle.ecma_print_readings.proofs.Takes.{token_eats}
use Rattle.ecma_print_readings.proofs.Moves.{part_eats, eats}

abbrev pub rank : Part → ℕ
rank part.Statement = 1
rank part.«Type» = 1
rank part.ArraySuffix = 2
rank part.Assertion = 2
rank (part.As no_in) = 2
rank (part.Satisfies no_in) = 2
rank (part.Link link.NonNull) = 1
rank (part.NewLink link.NonNull) = 1
rank u = 0

-- before a token is taken only parts below a rank are entered; each token allows three ranks more; and what is repeated takes a token
abbrev pub leads : ℕ → Grammar → Bool
leads r (grammar.◌▸◌ a b) = leads r a && leads (r + 3 * eats a) b
leads r (grammar.◌//◌ a b) = leads r a && leads r b
leads r (grammar.many a) = nat_le 1 (eats a) && leads r a
leads r (grammar.ahead a) = leads r a
leads r (grammar.unless a) = leads r a
leads r (grammar.assigned a) = leads r a
leads r (grammar.up u) = nat_lt (rank u) r
leads r (grammar.enter u) = nat_lt (rank u) r
leads r (grammar.behind t u) = nat_lt (rank u) (r + 3 * token_eats t)
leads r (grammar.build f a) = leads r a
leads r g = true

pub rank_small : (u : Part) → rank u < 3
rank_small part.Statement = omega arith
rank_small part.NamespaceBody = omega arith
rank_small part.Declared = omega arith
rank_small (part.Assign no_in middle) = omega arith
rank_small part.Pattern = omega arith
rank_small part.«Type» = omega arith
rank_small part.TypeOperator = omega arith
rank_small part.ArraySuffix = omega arith
rank_small part.Operand = omega arith
rank_small part.Assertion = omega arith
rank_small part.New = omega arith
rank_small part.Power = omega arith
rank_small (part.Class named) = omega arith
rank_small (part.Binary op no_in) = omega arith
rank_small (part.As no_in) = omega arith
rank_small (part.Satisfies no_in) = omega arith
rank_small part.DottedName = omega arith
rank_small part.DottedKey = omega arith
rank_small (part.Link link.Dot) = omega arith
rank_small (part.Link link.Optional) = omega arith
rank_small (part.Link link.Bracket) = omega arith
rank_small (part.Link link.Call) = omega arith
rank_small (part.Link link.Tagged) = omega arith
rank_small (part.Link link.NonNull) = omega arith
rank_small (part.Link link.Instantiation) = omega arith
rank_small (part.NewLink link.Dot) = omega arith
rank_small (part.NewLink link.Optional) = omega arith
rank_small (part.NewLink link.Bracket) = omega arith
rank_small (part.NewLink link.Call) = omega arith
rank_small (part.NewLink link.Tagged) = omega arith
rank_small (part.NewLink link.NonNull) = omega arith
rank_small (part.NewLink link.Instantiation) = omega arith

-- it begins with no part of its rank, and takes its tokens
abbrev pub Ranked : Part → Type 0
Ranked u = (leads (rank u) (part_body u) ≡ true) × (nat_le (part_eats u) (eats (part_body u)) ≡ true)

operator_ranked : (op : BinaryOp) (no_in : Bool) → Ranked (part.Binary op no_in)
unfolding productions
operator_ranked binary.EqEq true = (refl, refl)
operator_ranked binary.EqEq false = (refl, refl)
operator_ranked binary.NotEq true = (refl, refl)
operator_ranked binary.NotEq false = (refl, refl)
operator_ranked binary.EqEqEq true = (refl, refl)
operator_ranked binary.EqEqEq false = (refl, refl)
operator_ranked binary.NotEqEq true = (refl, refl)
operator_ranked binary.NotEqEq false = (refl, refl)
operator_ranked binary.Lt true = (refl, refl)
operator_ranked binary.Lt false = (refl, refl)
operator_ranked binary.LtEq true = (refl, refl)
operator_ranked binary.LtEq false = (refl, refl)
operator_ranked binary.Gt true = (refl, refl)
operator_ranked binary.Gt false = (refl, refl)
operator_ranked binary.GtEq true = (refl, refl)
operator_ranked binary.GtEq false = (refl, refl)
operator_ranked binary.LShift true = (refl, refl)
operator_ranked binary.LShift false = (refl, refl)
operator_ranked binary.RShift true = (refl, refl)
operator_ranked binary.RShift false = (refl, refl)
operator_ranked binary.ZeroFillRShift true = (refl, refl)
operator_ranked binary.ZeroFillRShift false = (refl, refl)
operator_ranked binary.Add true = (refl, refl)
operator_ranked binary.Add false = (refl, refl)
operator_ranked binary.Sub true = (refl, refl)
operator_ranked binary.Sub false = (refl, refl)
operator_ranked binary.Mul true = (refl, refl)
operator_ranked binary.Mul false = (refl, refl)
operator_ranked binary.Div true = (refl, refl)
operator_ranked binary.Div false = (refl, refl)
operator_ranked binary.Mod true = (refl, refl)
operator_ranked binary.Mod false = (refl, refl)
operator_ranked binary.BitOr true = (refl, refl)
operator_ranked binary.BitOr false = (refl, refl)
operator_ranked binary.BitXor true = (refl, refl)
operator_ranked binary.BitXor false = (refl, refl)
operator_ranked binary.BitAnd true = (refl, refl)
operator_ranked binary.BitAnd false = (refl, refl)
operator_ranked binary.LogicalOr true = (refl, refl)
operator_ranked binary.LogicalOr false = (refl, refl)
operator_ranked binary.LogicalAnd true = (refl, refl)
operator_ranked binary.LogicalAnd false = (refl, refl)
operator_ranked binary.In true = (refl, refl)
operator_ranked binary.In false = (refl, refl)
operator_ranked binary.InstanceOf true = (refl, refl)
operator_ranked binary.InstanceOf false = (refl, refl)
operator_ranked binary.Exp true = (refl, refl)
operator_ranked binary.Exp false = (refl, refl)
operator_ranked binary.NullishCoalescing true = (refl, refl)
operator_ranked binary.NullishCoalescing false = (refl, refl)

link_ranked : (l : Link) → Ranked (part.Link l)
unfolding productions
link_ranked link.Dot = (refl, refl)
link_ranked link.Optional = (refl, refl)
link_ranked link.Bracket = (refl, refl)
link_ranked link.Call = (refl, refl)
link_ranked link.Tagged = (refl, refl)
link_ranked link.NonNull = (refl, refl)
link_ranked link.Instantiation = (refl, refl)

new_link_ranked : (l : Link) → Ranked (part.NewLink l)
unfolding productions
new_link_ranked link.Dot = (refl, refl)
new_link_ranked link.Optional = (refl, refl)
new_link_ranked link.Bracket = (refl, refl)
new_link_ranked link.Call = (refl, refl)
new_link_ranked link.Tagged = (refl, refl)
new_link_ranked link.NonNull = (refl, refl)
new_link_ranked link.Instantiation = (refl, refl)

pub part_ranked : (u : Part) → Ranked u
unfolding productions
part_ranked part.Statement = (refl, refl)
part_ranked part.NamespaceBody = (refl, refl)
part_ranked part.Declared = (refl, refl)
part_ranked (part.Assign true true) = (refl, refl)
part_ranked (part.Assign true false) = (refl, refl)
part_ranked (part.Assign false true) = (refl, refl)
part_ranked (part.Assign false false) = (refl, refl)
part_ranked part.Pattern = (refl, refl)
part_ranked part.«Type» = (refl, refl)
part_ranked part.TypeOperator = (refl, refl)
part_ranked part.ArraySuffix = (refl, refl)
part_ranked part.Operand = (refl, refl)
part_ranked part.Assertion = (refl, refl)
part_ranked part.New = (refl, refl)
part_ranked part.Power = (refl, refl)
part_ranked (part.Class true) = (refl, refl)
part_ranked (part.Class false) = (refl, refl)
part_ranked (part.Binary op no_in) = operator_ranked op no_in
part_ranked (part.As true) = (refl, refl)
part_ranked (part.As false) = (refl, refl)
part_ranked (part.Satisfies true) = (refl, refl)
part_ranked (part.Satisfies false) = (refl, refl)
part_ranked part.DottedName = (refl, refl)
part_ranked part.DottedKey = (refl, refl)
part_ranked (part.Link l) = link_ranked l
part_ranked (part.NewLink l) = new_link_ranked l

-- where these tokens stand it does, too

constructed_ranked : (leads 0 (without 1 (part_body part.New)) ≡ true) × (nat_le 1 (eats (without 1 (part_body part.New))) ≡ true)
unfolding chains.new_body
constructed_ranked = let r = part_ranked part.New in let e = r.1 in ((and_parts (leads 0 (grammar.◌▸◌ (grammar.punct (codes ".")) (grammar.word (codes "target")))) (leads 0 (without 1 (part_body part.New))) r.0).1, grind arith)

pub ranked_at : (u : Part) (ts : Items) → (leads (rank u) (body_at u ts) ≡ true) × (nat_le (part_eats u) (eats (body_at u ts)) ≡ true)
ranked_at part.New (it g (number w) ts) = constructed_ranked
ranked_at u ts = part_ranked u

-- items of a module

pub item_eats : nat_le 1 (eats modules.module_item) ≡ true
unfolding productions
item_eats = refl

pub module_leads : leads 2 modules.module_body ≡ true
unfolding productions modules.module_body
module_leads = refl
