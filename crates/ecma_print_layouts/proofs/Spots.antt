-- Places where expressions of a level stand without parentheses.
use Rattle.std.proofs.Common.{◌≡◌, ◌≤◌, ℕ, Bool, true, false, ltb, List, ◌++◌, codes, refl, sym, ◌∙◌, arith}
use Rattle.std.proofs.lemmas.Bool.{false≢true, le-ltb, ltb-false}
use Rattle.ecma_kind.specs.declared.operators.UnaryOp.{UnaryOp}
use Rattle.ecma_kind.specs.declared.operators.UnaryOp.TheVariants.{Minus, Plus}
use Rattle.ecma_kind.specs.declared.operators.UpdateOp.{UpdateOp}
use Rattle.ecma_kind.specs.declared.operators.UpdateOp.TheVariants.{PlusPlus, MinusMinus}
use Rattle.ecma_kind.specs.declared.operators.BinaryOp.{BinaryOp}
use Rattle.ecma_kind.specs.declared.operators.BinaryOp.TheVariants as op
use Rattle.ecma_print.specs.declared.place.Begins.TheVariants.{StatementStart, DefaultStart}
use Rattle.ecma_print.specs.declared.place.Beside.{Beside}
use Rattle.ecma_print.specs.declared.place.Beside.TheVariants.{UnderLogical, UnderNullish, NoNeighbor, BeforeDot, BeforeLink, InChain}
use Rattle.ecma_print.specs.declared.place.Spot.{Spot}
use Rattle.ecma_print.specs.Places.{free, left, right, beginning, is_headed, ends_a_chain}
use Rattle.ecma_print.specs.Levels.{is_before_dot, clashes}
use Rattle.ecma_print.specs.Operators.{unary_sign, update_sign, binary_word, binary_level, left_level, right_level, under}
use Rattle.ecma_print.specs.Expressions.{before_key, object_beside, is_optional, callee_spot}
use Rattle.ecma_print_tokens.specs.Items.{token_text}
use Rattle.ecma_shapes.specs.Shapes as shapes
use Rattle.ecma_shapes.specs.Shapes.{Level, looser_than, IsOperator, IsMemberLevel, IsIndexed, IsConstructor, IsChainLink}
use Rattle.ecma_shapes.proofs.Signs.{binary_token}

-- the level of the printer that is each level
abbrev pub number_of : Level → ℕ
number_of shapes.new_callee = 17
number_of shapes.object = 16
number_of shapes.numeral = 17
number_of shapes.callee = 16
number_of shapes.chain = 16
number_of shapes.left_hand_side = 16
number_of shapes.update = 15
number_of shapes.unary = 14
number_of shapes.power = 13
number_of shapes.product = 12
number_of shapes.sum = 11
number_of shapes.shift = 10
number_of shapes.relation = 9
number_of shapes.equality = 8
number_of shapes.bit_and = 7
number_of shapes.bit_xor = 6
number_of shapes.bit_or = 5
number_of shapes.logical_and = 4
number_of shapes.logical_or = 3
number_of shapes.coalescing = 3
number_of shapes.short_circuit = 3
number_of shapes.assignment = 1
number_of shapes.sequence = 0

abbrev pub is_object : Level → Bool
is_object shapes.new_callee = true
is_object shapes.object = true
is_object shapes.chain = true
is_object l = false

-- where a call may stand by itself, and what may stand before a link
abbrev pub holds_calls : Level → Bool
holds_calls shapes.new_callee = false
holds_calls shapes.numeral = false
holds_calls l = true

abbrev pub heads_links : Level → Bool
heads_links shapes.new_callee = true
heads_links shapes.object = true
heads_links shapes.numeral = true
heads_links shapes.callee = true
heads_links shapes.chain = true
heads_links l = false

-- where an optional chain may stand by itself
abbrev pub holds_chains : Level → Bool
holds_chains shapes.new_callee = false
holds_chains shapes.object = false
holds_chains shapes.numeral = false
holds_chains shapes.callee = false
holds_chains l = true

pub chains_out : (l : Level) → holds_chains l ≡ true → holds_chains (looser_than l) ≡ true
chains_out shapes.callee h = refl
chains_out l h = h

pub calls_out : (l : Level) → holds_calls l ≡ true → holds_calls (looser_than l) ≡ true
calls_out shapes.new_callee h = refl
calls_out shapes.numeral h = refl
calls_out l h = h

pub heads_out : (l : Level) → heads_links l ≡ false → heads_links (looser_than l) ≡ false
heads_out shapes.callee h = refl
heads_out shapes.chain h = refl
heads_out l h = h

pub object_out : (l : Level) → is_object l ≡ false → is_object (looser_than l) ≡ false
object_out shapes.object h = refl
object_out shapes.chain h = refl
object_out l h = h

-- where `&&` and `||` may stand by themselves, and where `??` may
abbrev pub holds_logical : Level → Bool
holds_logical shapes.logical_and = true
holds_logical shapes.logical_or = true
holds_logical shapes.short_circuit = true
holds_logical shapes.assignment = true
holds_logical shapes.sequence = true
holds_logical l = false

abbrev pub holds_nullish : Level → Bool
holds_nullish shapes.coalescing = true
holds_nullish shapes.short_circuit = true
holds_nullish shapes.assignment = true
holds_nullish shapes.sequence = true
holds_nullish l = false

pub logical_out : (l : Level) → holds_logical l ≡ true → holds_logical (looser_than l) ≡ true
logical_out shapes.bit_or h = refl
logical_out shapes.coalescing h = refl
logical_out l h = h

pub nullish_out : (l : Level) → holds_nullish l ≡ true → holds_nullish (looser_than l) ≡ true
nullish_out shapes.logical_or h = refl
nullish_out l h = h

-- a place where expressions of the level stand without parentheses, in no optional chain
pub record Calm (l : Level) (spot : Spot) : Type 0 where
  pub low : ltb (number_of l) spot.level ≡ false
  pub with_in : spot.without_in ≡ false
  pub no_new : holds_calls l ≡ true → spot.in_callee_of_new ≡ false
  pub no_head : heads_links l ≡ false → is_headed spot.beside ≡ false
  pub no_end : holds_chains l ≡ true → ends_a_chain spot.beside ≡ false
  pub outside : (computed : Bool) → object_beside spot.beside computed ≡ before_key computed
  pub own : is_optional spot.beside ≡ false
  pub both_fits : holds_logical l ≡ true → clashes op.LogicalAnd spot spot.beside ≡ false
  pub either_fits : holds_logical l ≡ true → clashes op.LogicalOr spot spot.beside ≡ false
  pub nullish_fits : holds_nullish l ≡ true → clashes op.NullishCoalescing spot spot.beside ≡ false
  pub no_dot : is_object l ≡ false → is_before_dot spot.beside ≡ false

-- what stands where a looser level stands is a tighter one
pub lowered : (l : Level) → number_of (looser_than l) ≤ number_of l
lowered shapes.new_callee = omega arith
lowered shapes.object = omega arith
lowered shapes.numeral = omega arith
lowered shapes.callee = omega arith
lowered shapes.chain = omega arith
lowered shapes.left_hand_side = omega arith
lowered shapes.update = omega arith
lowered shapes.unary = omega arith
lowered shapes.power = omega arith
lowered shapes.product = omega arith
lowered shapes.sum = omega arith
lowered shapes.shift = omega arith
lowered shapes.relation = omega arith
lowered shapes.equality = omega arith
lowered shapes.bit_and = omega arith
lowered shapes.bit_xor = omega arith
lowered shapes.bit_or = omega arith
lowered shapes.logical_and = omega arith
lowered shapes.logical_or = omega arith
lowered shapes.coalescing = omega arith
lowered shapes.short_circuit = omega arith
lowered shapes.assignment = omega arith
lowered shapes.sequence = omega arith

pub tightly : (a b n : ℕ) → b ≤ a → ltb b n ≡ false → ltb a n ≡ false
tightly a b n h k = le-ltb a n (let c = ltb-false b n k in omega arith)

pub calmer : {l : Level} {spot : Spot} → Calm (looser_than l) spot → Calm l spot
calmer {l} {spot} c = record {
  low = tightly (number_of l) (number_of (looser_than l)) spot.level (lowered l) c.low;
  with_in = c.with_in;
  no_new = λ h. c.no_new (calls_out l h);
  no_head = λ h. c.no_head (heads_out l h);
  no_end = λ h. c.no_end (chains_out l h);
  outside = c.outside;
  own = c.own;
  both_fits = λ h. c.both_fits (logical_out l h);
  either_fits = λ h. c.either_fits (logical_out l h);
  nullish_fits = λ h. c.nullish_fits (nullish_out l h);
  no_dot = λ h. c.no_dot (object_out l h);
}

pub same_low : (n : ℕ) → ltb n n ≡ false
same_low n = le-ltb n n (omega arith)

low_0 : (l : Level) → ltb (number_of l) 0 ≡ false
low_0 shapes.object = refl
low_0 l = refl

-- beside nothing
pub quiet : {l : Level} {spot : Spot} → ltb (number_of l) spot.level ≡ false → spot.without_in ≡ false → spot.in_callee_of_new ≡ false → spot.beside ≡ NoNeighbor → Calm l spot
quiet a h n e = record {
  low = a;
  with_in = h;
  no_new = λ z. n;
  no_head = λ z. rw e refl;
  no_end = λ z. rw e refl;
  outside = λ b. rw e refl;
  own = rw e refl;
  both_fits = λ z. rw e refl;
  either_fits = λ z. rw e refl;
  nullish_fits = λ z. rw e refl;
  no_dot = λ z. rw e refl;
}

-- beside `&&` or `||`, and beside `??`
pub under_logical : {l : Level} {spot : Spot} → ltb (number_of l) spot.level ≡ false → spot.without_in ≡ false → spot.in_callee_of_new ≡ false → spot.beside ≡ UnderLogical → holds_nullish l ≡ false → Calm l spot
under_logical a h n e k = record {
  low = a;
  with_in = h;
  no_new = λ z. n;
  no_head = λ z. rw e refl;
  no_end = λ z. rw e refl;
  outside = λ b. rw e refl;
  own = rw e refl;
  both_fits = λ z. rw e refl;
  either_fits = λ z. rw e refl;
  nullish_fits = λ z. absurd (false≢true (sym k ∙ z));
  no_dot = λ z. rw e refl;
}

pub under_nullish : {l : Level} {spot : Spot} → ltb (number_of l) spot.level ≡ false → spot.without_in ≡ false → spot.in_callee_of_new ≡ false → spot.beside ≡ UnderNullish → holds_logical l ≡ false → Calm l spot
under_nullish a h n e k = record {
  low = a;
  with_in = h;
  no_new = λ z. n;
  no_head = λ z. rw e refl;
  no_end = λ z. rw e refl;
  outside = λ b. rw e refl;
  own = rw e refl;
  both_fits = λ z. absurd (false≢true (sym k ∙ z));
  either_fits = λ z. absurd (false≢true (sym k ∙ z));
  nullish_fits = λ z. rw e refl;
  no_dot = λ z. rw e refl;
}

-- before a link, and before a point
pub before_link : {l : Level} {spot : Spot} → ltb (number_of l) spot.level ≡ false → spot.without_in ≡ false → (holds_calls l ≡ true → spot.in_callee_of_new ≡ false) → spot.beside ≡ BeforeLink → heads_links l ≡ true → holds_chains l ≡ false → Calm l spot
before_link a h n e k n' = record {
  low = a;
  with_in = h;
  no_new = n;
  no_head = λ z. absurd (false≢true (sym z ∙ k));
  no_end = λ z. absurd (false≢true (sym n' ∙ z));
  outside = λ b. rw e refl;
  own = rw e refl;
  both_fits = λ z. rw e refl;
  either_fits = λ z. rw e refl;
  nullish_fits = λ z. rw e refl;
  no_dot = λ z. rw e refl;
}

pub in_chain : {l : Level} (spot : Spot) → ltb (number_of l) 16 ≡ false → spot.without_in ≡ false → spot.in_callee_of_new ≡ false → heads_links l ≡ true → Calm l (left spot 16 InChain)
in_chain spot a h n k = record {
  low = a;
  with_in = h;
  no_new = λ z. n;
  no_head = λ z. absurd (false≢true (sym z ∙ k));
  no_end = λ z. refl;
  outside = λ b. refl;
  own = refl;
  both_fits = λ z. refl;
  either_fits = λ z. refl;
  nullish_fits = λ z. refl;
  no_dot = λ z. refl;
}

pub before_dot : {l : Level} → IsMemberLevel l → (spot : Spot) → spot.without_in ≡ false → (holds_calls l ≡ true → spot.in_callee_of_new ≡ false) → Calm l (left spot 16 BeforeDot)
before_dot shapes.member_of_new spot h n = record {
  low = refl;
  with_in = h;
  no_new = n;
  no_head = λ z. absurd (false≢true (sym z));
  no_end = λ z. absurd (false≢true z);
  outside = λ b. refl;
  own = refl;
  both_fits = λ z. refl;
  either_fits = λ z. refl;
  nullish_fits = λ z. refl;
  no_dot = λ z. absurd (false≢true (sym z));
}
before_dot shapes.member_of_object spot h n = record {
  low = refl;
  with_in = h;
  no_new = n;
  no_head = λ z. absurd (false≢true (sym z));
  no_end = λ z. absurd (false≢true z);
  outside = λ b. refl;
  own = refl;
  both_fits = λ z. refl;
  either_fits = λ z. refl;
  nullish_fits = λ z. refl;
  no_dot = λ z. absurd (false≢true (sym z));
}

-- before a link of an optional chain
pub chain_calm : {l : Level} {b : Bool} → IsChainLink l b → (spot : Spot) → spot.without_in ≡ false → spot.in_callee_of_new ≡ false → Calm l (left spot 16 InChain)
chain_calm shapes.opens_chain spot h n = in_chain spot refl h n refl
chain_calm shapes.asks_on spot h n = in_chain spot refl h n refl
chain_calm shapes.goes_on spot h n = in_chain spot refl h n refl

-- an object before brackets
pub index_calm : {h l : Level} → IsIndexed h l → (spot : Spot) → spot.without_in ≡ false → (holds_calls l ≡ true → spot.in_callee_of_new ≡ false) → Calm h (left spot 16 BeforeLink)
index_calm shapes.index_of_new spot h n = before_link refl h (λ z. absurd (false≢true z)) refl refl refl
index_calm shapes.index_of_numeral spot h n = before_link refl h (λ z. absurd (false≢true z)) refl refl refl
index_calm shapes.index_of_callee spot h n = before_link refl h (λ z. n refl) refl refl refl

-- where a member stands, no level asks for parentheses
pub member_low : {l : Level} → IsMemberLevel l → (n : ℕ) → ltb (number_of l) n ≡ false → ltb 17 n ≡ false
member_low shapes.member_of_new n h = h
member_low shapes.member_of_object n h = tightly 17 16 n (omega arith) h

pub index_low : {h l : Level} → IsIndexed h l → (n : ℕ) → ltb (number_of l) n ≡ false → ltb 17 n ≡ false
index_low shapes.index_of_new n h = h
index_low shapes.index_of_numeral n h = h
index_low shapes.index_of_callee n h = tightly 17 16 n (omega arith) h

pub calm_0 : (l : Level) → Calm l (free 0)
calm_0 l = quiet (low_0 l) refl refl refl

pub calm_1 : Calm shapes.assignment (free 1)
calm_1 = quiet refl refl refl refl

-- further on in what stands at a spot
pub further : (spot : Spot) → spot.without_in ≡ false → Calm shapes.assignment (right spot 1 NoNeighbor)
further spot h = quiet refl h refl refl

pub calm_default : Calm shapes.assignment (beginning 1 DefaultStart false)
calm_default = quiet refl refl refl refl

pub calm_start : (l : Level) → Calm l (beginning 0 StatementStart false)
calm_start l = quiet (low_0 l) refl refl refl

pub update_calm : (o : UpdateOp) (spot : Spot) → spot.without_in ≡ false → Calm shapes.callee (right spot 16 (update_sign o))
update_calm PlusPlus spot h = record { low = refl; with_in = h; no_new = λ z. refl; no_head = λ z. refl; no_end = λ z. refl; outside = λ b. refl; own = refl; both_fits = λ z. refl; either_fits = λ z. refl; nullish_fits = λ z. refl; no_dot = λ z. refl }
update_calm MinusMinus spot h = record { low = refl; with_in = h; no_new = λ z. refl; no_head = λ z. refl; no_end = λ z. refl; outside = λ b. refl; own = refl; both_fits = λ z. refl; either_fits = λ z. refl; nullish_fits = λ z. refl; no_dot = λ z. refl }

-- the operand of a unary operator stands behind its sign
pub unary_calm : (o : UnaryOp) (spot : Spot) → spot.without_in ≡ false → Calm shapes.unary (right spot 14 (unary_sign o))
unary_calm Minus spot h = record { low = refl; with_in = h; no_new = λ z. refl; no_head = λ z. refl; no_end = λ z. refl; outside = λ b. refl; own = refl; both_fits = λ z. refl; either_fits = λ z. refl; nullish_fits = λ z. refl; no_dot = λ z. refl }
unary_calm Plus spot h = record { low = refl; with_in = h; no_new = λ z. refl; no_head = λ z. refl; no_end = λ z. refl; outside = λ b. refl; own = refl; both_fits = λ z. refl; either_fits = λ z. refl; nullish_fits = λ z. refl; no_dot = λ z. refl }
unary_calm o spot h = record { low = refl; with_in = h; no_new = λ z. refl; no_head = λ z. refl; no_end = λ z. refl; outside = λ b. refl; own = refl; both_fits = λ z. refl; either_fits = λ z. refl; nullish_fits = λ z. refl; no_dot = λ z. refl }

-- what the printer says of an operator between two operands
pub record Printed (o : BinaryOp) (l t : Level) : Type 0 where
  pub own : binary_level o ≡ number_of l
  pub left_is : left_level o ≡ number_of l
  pub right_is : right_level o ≡ number_of t
  pub alone : under o ≡ NoNeighbor
  pub fits : (spot : Spot) (b : Beside) → spot.without_in ≡ false → clashes o spot b ≡ false
  pub word_is : (x : List ℕ) → binary_word o ++ x ≡ codes " " ++ (token_text (binary_token o) ++ (codes " " ++ x))

pub operator_calls : {o : BinaryOp} {l t : Level} → IsOperator o l t → holds_calls l ≡ true
operator_calls shapes.times = refl
operator_calls i = refl

pub printed : {o : BinaryOp} {l t : Level} → IsOperator o l t → Printed o l t
printed shapes.times = record { own = refl; left_is = refl; right_is = refl; alone = refl; fits = λ spot b h. refl; word_is = λ x. refl }
printed shapes.divided = record { own = refl; left_is = refl; right_is = refl; alone = refl; fits = λ spot b h. refl; word_is = λ x. refl }
printed shapes.modulo = record { own = refl; left_is = refl; right_is = refl; alone = refl; fits = λ spot b h. refl; word_is = λ x. refl }
printed shapes.plus = record { own = refl; left_is = refl; right_is = refl; alone = refl; fits = λ spot b h. refl; word_is = λ x. refl }
printed shapes.minus = record { own = refl; left_is = refl; right_is = refl; alone = refl; fits = λ spot b h. refl; word_is = λ x. refl }
printed shapes.left_shift = record { own = refl; left_is = refl; right_is = refl; alone = refl; fits = λ spot b h. refl; word_is = λ x. refl }
printed shapes.right_shift = record { own = refl; left_is = refl; right_is = refl; alone = refl; fits = λ spot b h. refl; word_is = λ x. refl }
printed shapes.unsigned_shift = record { own = refl; left_is = refl; right_is = refl; alone = refl; fits = λ spot b h. refl; word_is = λ x. refl }
printed shapes.less = record { own = refl; left_is = refl; right_is = refl; alone = refl; fits = λ spot b h. refl; word_is = λ x. refl }
printed shapes.greater = record { own = refl; left_is = refl; right_is = refl; alone = refl; fits = λ spot b h. refl; word_is = λ x. refl }
printed shapes.at_most = record { own = refl; left_is = refl; right_is = refl; alone = refl; fits = λ spot b h. refl; word_is = λ x. refl }
printed shapes.at_least = record { own = refl; left_is = refl; right_is = refl; alone = refl; fits = λ spot b h. refl; word_is = λ x. refl }
printed shapes.instance_of = record { own = refl; left_is = refl; right_is = refl; alone = refl; fits = λ spot b h. refl; word_is = λ x. refl }
printed shapes.contained = record { own = refl; left_is = refl; right_is = refl; alone = refl; fits = λ spot b h. h; word_is = λ x. refl }
printed shapes.equal = record { own = refl; left_is = refl; right_is = refl; alone = refl; fits = λ spot b h. refl; word_is = λ x. refl }
printed shapes.unequal = record { own = refl; left_is = refl; right_is = refl; alone = refl; fits = λ spot b h. refl; word_is = λ x. refl }
printed shapes.same = record { own = refl; left_is = refl; right_is = refl; alone = refl; fits = λ spot b h. refl; word_is = λ x. refl }
printed shapes.other = record { own = refl; left_is = refl; right_is = refl; alone = refl; fits = λ spot b h. refl; word_is = λ x. refl }
printed shapes.conjunction = record { own = refl; left_is = refl; right_is = refl; alone = refl; fits = λ spot b h. refl; word_is = λ x. refl }
printed shapes.exclusion = record { own = refl; left_is = refl; right_is = refl; alone = refl; fits = λ spot b h. refl; word_is = λ x. refl }
printed shapes.disjunction = record { own = refl; left_is = refl; right_is = refl; alone = refl; fits = λ spot b h. refl; word_is = λ x. refl }

-- on the left side of `??`
pub head_calm : {l : Level} → shapes.IsCoalesceHead l → (spot : Spot) → spot.without_in ≡ false → spot.in_callee_of_new ≡ false → Calm l (left spot 3 UnderNullish)
head_calm shapes.first_head spot h n = under_nullish refl h n refl refl
head_calm shapes.next_head spot h n = under_nullish refl h n refl refl

-- in the callee of `new`
pub callee_calm : {l : Level} → IsConstructor l → (spot : Spot) → spot.without_in ≡ false → Calm l (callee_spot spot)
callee_calm shapes.constructor_callee spot h = before_link refl h (λ z. absurd (false≢true z)) refl refl refl
callee_calm shapes.constructor_numeral spot h = before_link refl h (λ z. absurd (false≢true z)) refl refl refl
