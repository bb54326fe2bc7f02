-- What may stand directly behind an expression.
use Rattle.std.proofs.Common.{◌≡◌, ℕ, Bool, true, false, List, codes, refl, [], ◌∷◌}
use Rattle.ecma_kind.specs.declared.operators.UpdateOp.{UpdateOp}
use Rattle.ecma_kind.specs.declared.operators.UpdateOp.TheVariants.{PlusPlus, MinusMinus}
use Rattle.ecma_lex.specs.Punctuators.{punctuators}
use Rattle.ecma_print_tokens.specs.Items as items
use Rattle.ecma_print_tokens.specs.Items.{Tok, sign, no_gap, Items, ends, it}
use Rattle.ecma_print_tokens.specs.Joins.{joins_next, parted_by}
use Rattle.ecma_shapes.specs.Shapes as shapes
use Rattle.ecma_shapes.specs.Shapes.{Level, looser_than, key, IsMemberLevel, IsConstructor, IsChainLink}
use Rattle.ecma_shapes.proofs.Signs.{blank, sign_of, update_token, point_of, question_of}

-- what may stand directly behind an expression; a point behind an object alone
pub data Soft : Bool → Items → Type 0 where
  point : {us : Items} → Soft true (sign_of (codes ".") us)
  opening : {object : Bool} {us : Items} → Soft object (sign_of (codes "(") us)
  closing : {object : Bool} {us : Items} → Soft object (sign_of (codes ")") us)
  comma : {object : Bool} {us : Items} → Soft object (sign_of (codes ",") us)
  semicolon : {object : Bool} {us : Items} → Soft object (sign_of (codes ";") us)
  colon : {object : Bool} {us : Items} → Soft object (sign_of (codes ":") us)
  increment : {object : Bool} {us : Items} → Soft object (sign_of (codes "++") us)
  decrement : {object : Bool} {us : Items} → Soft object (sign_of (codes "--") us)
  question : {object : Bool} {us : Items} → Soft object (sign_of (codes "?.") us)
  opening_bracket : {object : Bool} {us : Items} → Soft object (sign_of (codes "[") us)
  closing_bracket : {object : Bool} {us : Items} → Soft object (sign_of (codes "]") us)
  part : {object first last : Bool} {w : List ℕ} {us : Items} → Soft object (it no_gap (items.template first last w) us)
  -- behind a blank
  parted : {object : Bool} {t : Tok} {us : Items} → Soft object (it blank t us)

pub key_soft : {object : Bool} (w : List ℕ) {us : Items} → Soft object us → joins_next (items.key w) us ≡ true
key_soft w point = refl
key_soft w z = refl

pub private_soft : {object : Bool} (w : List ℕ) {us : Items} → Soft object us → joins_next (items.private_name w) us ≡ true
private_soft w point = refl
private_soft w z = refl

pub string_soft : {object : Bool} (w : List ℕ) {us : Items} → Soft object us → joins_next (items.string w) us ≡ true
string_soft w point = refl
string_soft w z = refl

pub regex_soft : {object : Bool} (w : List ℕ) {us : Items} → Soft object us → joins_next (items.regex w) us ≡ true
regex_soft w point = refl
regex_soft w z = refl

pub big_int_soft : {object : Bool} (w : List ℕ) {us : Items} → Soft object us → joins_next (items.big_int w) us ≡ true
big_int_soft w point = refl
big_int_soft w z = refl

pub number_soft : (w : List ℕ) {us : Items} → Soft false us → joins_next (items.number w) us ≡ true
number_soft w opening = refl
number_soft w z = refl

pub closing_soft : {object : Bool} {us : Items} → Soft object us → joins_next (sign (codes ")")) us ≡ true
unfolding punctuators
closing_soft point = refl
closing_soft z = refl

pub brace_soft : {object : Bool} {us : Items} → Soft object us → joins_next (sign (codes "}")) us ≡ true
unfolding punctuators
brace_soft point = refl
brace_soft z = refl

pub bracket_soft : {object : Bool} {us : Items} → Soft object us → joins_next (sign (codes "]")) us ≡ true
unfolding punctuators
bracket_soft point = refl
bracket_soft z = refl

pub update_soft : (o : UpdateOp) {object : Bool} {us : Items} → Soft object us → joins_next (update_token o) us ≡ true
unfolding punctuators
update_soft PlusPlus point = refl
update_soft PlusPlus z = refl
update_soft MinusMinus point = refl
update_soft MinusMinus z = refl

abbrev pub is_object : Level → Bool
is_object shapes.new_callee = true
is_object shapes.object = true
is_object shapes.chain = true
is_object l = false

pub point_behind : {l : Level} → IsMemberLevel l → {us : Items} → Soft (is_object l) (sign_of (codes ".") us)
point_behind shapes.member_of_new = point
point_behind shapes.member_of_object = point

-- the links of an optional chain
pub chain_point : {l : Level} {b : Bool} → IsChainLink l b → {us : Items} → Soft (is_object l) (sign_of (point_of b) us)
chain_point shapes.opens_chain = question
chain_point shapes.asks_on = question
chain_point shapes.goes_on = point

pub chain_bracket : {l : Level} {b : Bool} → IsChainLink l b → (us : Items) → Soft (is_object l) (question_of b (sign_of (codes "[") us))
chain_bracket shapes.opens_chain us = question
chain_bracket shapes.asks_on us = question
chain_bracket shapes.goes_on us = opening_bracket

pub chain_opening : {l : Level} {b : Bool} → IsChainLink l b → (us : Items) → Soft (is_object l) (question_of b (sign_of (codes "(") us))
chain_opening shapes.opens_chain us = question
chain_opening shapes.asks_on us = question
chain_opening shapes.goes_on us = opening

-- in front of a tighter expression the same may stand
widened : {us : Items} → Soft false us → Soft true us
widened opening = opening
widened closing = closing
widened comma = comma
widened semicolon = semicolon
widened colon = colon
widened increment = increment
widened decrement = decrement
widened question = question
widened opening_bracket = opening_bracket
widened closing_bracket = closing_bracket
widened part = part
widened parted = parted

pub softer : (l : Level) {us : Items} → Soft (is_object (looser_than l)) us → Soft (is_object l) us
softer shapes.object z = widened z
softer shapes.chain z = widened z
softer l z = z

pub constructor_soft : {l : Level} → IsConstructor l → {us : Items} → Soft false us → Soft (is_object l) us
constructor_soft shapes.constructor_callee z = widened z
constructor_soft shapes.constructor_numeral z = z

-- behind a text part each token may stand
blanks_part : (bs : List ℕ) → parted_by bs true ≡ true
blanks_part [] = refl
blanks_part (c ∷ cs) = refl

pub part_joins : (first last : Bool) (w : List ℕ) (us : Items) → joins_next (items.template first last w) us ≡ true
part_joins first last w (items.ends g) = refl
part_joins first last w (it g t us) = blanks_part g.blanks
