-- The tokens of a statement are good: each joins the next.
use Rattle.std.proofs.Common.{ℕ, ◌≡◌, ◌≤◌, Bool, true, false, List, ◌++◌, length, codes, refl, arith, length-append}
use Rattle.ecma_kind.specs.declared.operators.UnaryOp.{UnaryOp}
use Rattle.ecma_kind.specs.declared.operators.UnaryOp.TheVariants.{Minus, Plus, Bang, Tilde, TypeOf, Void, Delete}
use Rattle.ecma_kind.specs.declared.operators.UpdateOp.{UpdateOp}
use Rattle.ecma_kind.specs.declared.operators.UpdateOp.TheVariants.{PlusPlus, MinusMinus}
use Rattle.ecma_kind.specs.declared.operators.AssignOp.{AssignOp}
use Rattle.ecma_kind.specs.declared.operators.AssignOp.TheVariants.{Assign, AddAssign, SubAssign, MulAssign, DivAssign, ModAssign, LShiftAssign, RShiftAssign, ZeroFillRShiftAssign, BitOrAssign, BitXorAssign, BitAndAssign, ExpAssign, AndAssign, OrAssign, NullishAssign}
use Rattle.ecma_kind.specs.declared.operators.BinaryOp.{BinaryOp}
use Rattle.ecma_kind.specs.declared.operators.BinaryOp.TheVariants.{In, InstanceOf}
use Rattle.ecma_lex.specs.Keys.{key_end}
use Rattle.ecma_lex.specs.Punctuators.{punctuators}
use Rattle.ecma_tree.specs.declared.node.Node.{Node}
use Rattle.ecma_print_tokens.specs.Items as items
use Rattle.ecma_print_tokens.specs.Items.{sign, no_gap, Items, ends, it, render, token_text}
use Rattle.ecma_print_tokens.specs.Good.{IsGap, IsToken, Good}
use Rattle.ecma_print_tokens.specs.Joins.{joins_next, Fine, Joined}
use Rattle.ecma_print.specs.declared.place.Beside.{Beside}
use Rattle.ecma_print.specs.declared.place.Beside.TheVariants.{BehindMinus, BehindPlus}
use Rattle.ecma_print_tokens.proofs.Wholes.{some_text}
use Rattle.ecma_shapes.specs.Shapes as shapes
use Rattle.ecma_shapes.specs.Shapes.{Level, IsOperator, IsIdent, ident, IsKey, key, IsExpression, AreElements, AreExpressions, AreDeclarators, IsChainKey, Role, IsPart}
use Rattle.ecma_shapes.specs.LiteralTexts.{part_text}
use Rattle.ecma_shapes.proofs.Tokens.{ident_word, key_word, expression_tokens, elements_tokens, more_tokens, declarators_tokens, chain_token, part_raw}
use Rattle.ecma_shapes.proofs.Signs.{blank, sign_of, assign_token, update_token, unary_token, binary_token, unary_gap, point_of, question_of, count}
use Rattle.ecma_print_layouts.proofs.Softs.{Soft, key_soft, private_soft, is_object, comma, semicolon, increment, decrement}
use Rattle.ecma_print_layouts.proofs.Beginnings.{blank_joins}

-- each token has a text
pub good_long : (ts : Items) → Good ts → count ts ≤ length (render ts)
unfolding render
good_long (ends g) h = omega arith
good_long (it g t ts) h =
    let a = some_text t (render ts) h.1 h.2 in
    let b = good_long ts h.3 in
    omega (arith, length-append g.blanks (token_text t ++ render ts), length-append (token_text t) (render ts))

pub no_gap_is : IsGap no_gap
no_gap_is = record { blank = refl; told = refl }

pub blank_is : IsGap blank
blank_is = record { blank = refl; told = refl }

pub unary_gap_is : (o : UnaryOp) (b : Beside) → IsGap (unary_gap o b)
unary_gap_is Minus BehindMinus = blank_is
unary_gap_is Minus b = no_gap_is
unary_gap_is Plus BehindPlus = blank_is
unary_gap_is Plus b = no_gap_is
unary_gap_is Bang b = no_gap_is
unary_gap_is Tilde b = no_gap_is
unary_gap_is o b = blank_is

pub ident_whole : {n : Node} (i : IsIdent n) → IsToken key_end (ident_word i)
ident_whole (ident at w i) = i.whole

pub key_whole : {n : Node} (k : IsKey n) → IsToken key_end (key_word k)
key_whole (key at w t) = t

pub chain_fine : {n : Node} (k : IsChainKey n) → Fine (chain_token k)
chain_fine (shapes.plain_key k) = key_whole k
chain_fine (shapes.private_key at name t) = t

pub point_joins : {n : Node} (k : IsChainKey n) (us : Items) → joins_next (sign (codes ".")) (it no_gap (chain_token k) us) ≡ true
point_joins (shapes.plain_key k) us = refl
point_joins (shapes.private_key at name t) us = refl

pub chain_soft : {object : Bool} {n : Node} (k : IsChainKey n) {us : Items} → Soft object us → joins_next (chain_token k) us ≡ true
chain_soft (shapes.plain_key k) z = key_soft (key_word k) z
chain_soft (shapes.private_key at name t) z = private_soft (codes "#" ++ name) z

pub part_fine : {t f l : Bool} {n : Node} (p : IsPart t f l n) → Fine (items.template f l (part_text f l (part_raw p)))
part_fine (shapes.part at raw w r v) = w

-- the marks of optional chains

pub point_fine : (b : Bool) → Fine (sign (point_of b))
unfolding punctuators
point_fine true = refl
point_fine false = refl

pub mark_joins : (b : Bool) {n : Node} (k : IsChainKey n) (us : Items) → joins_next (sign (point_of b)) (it no_gap (chain_token k) us) ≡ true
mark_joins true (shapes.plain_key k) us = refl
mark_joins true (shapes.private_key at name t) us = refl
mark_joins false k us = point_joins k us

pub question_bracket : (b : Bool) (us : Items) → Joined (sign_of (codes "[") us) → Joined (question_of b (sign_of (codes "[") us))
unfolding punctuators
question_bracket true us j = (no_gap_is, refl, refl, j)
question_bracket false us j = j

pub question_opening : (b : Bool) (us : Items) → Joined (sign_of (codes "(") us) → Joined (question_of b (sign_of (codes "(") us))
unfolding punctuators
question_opening true us j = (no_gap_is, refl, refl, j)
question_opening false us j = j

-- the words of the layout are words
pub record Words : Type 0 where
  pub this_whole : IsToken key_end (codes "this")
  pub null_whole : IsToken key_end (codes "null")
  pub true_whole : IsToken key_end (codes "true")
  pub false_whole : IsToken key_end (codes "false")
  pub var_whole : IsToken key_end (codes "var")
  pub let_whole : IsToken key_end (codes "let")
  pub const_whole : IsToken key_end (codes "const")
  pub typeof_whole : IsToken key_end (codes "typeof")
  pub void_whole : IsToken key_end (codes "void")
  pub delete_whole : IsToken key_end (codes "delete")
  pub super_whole : IsToken key_end (codes "super")
  pub yield_whole : IsToken key_end (codes "yield")
  pub meta_whole : IsToken key_end (codes "meta")
  pub new_whole : IsToken key_end (codes "new")
  pub target_whole : IsToken key_end (codes "target")
  pub await_whole : IsToken key_end (codes "await")
  pub async_whole : IsToken key_end (codes "async")
  pub debugger_whole : IsToken key_end (codes "debugger")
  pub throw_whole : IsToken key_end (codes "throw")
  pub return_whole : IsToken key_end (codes "return")
  pub if_whole : IsToken key_end (codes "if")
  pub else_whole : IsToken key_end (codes "else")
  pub while_whole : IsToken key_end (codes "while")
  pub do_whole : IsToken key_end (codes "do")
  pub switch_whole : IsToken key_end (codes "switch")
  pub case_whole : IsToken key_end (codes "case")
  pub default_whole : IsToken key_end (codes "default")
  pub try_whole : IsToken key_end (codes "try")
  pub catch_whole : IsToken key_end (codes "catch")
  pub finally_whole : IsToken key_end (codes "finally")
  pub for_whole : IsToken key_end (codes "for")
  pub of_whole : IsToken key_end (codes "of")
  pub break_whole : IsToken key_end (codes "break")
  pub continue_whole : IsToken key_end (codes "continue")
  pub export_whole : IsToken key_end (codes "export")
  pub require_whole : IsToken key_end (codes "require")
  pub import_whole : IsToken key_end (codes "import")
  pub from_whole : IsToken key_end (codes "from")
  pub as_whole : IsToken key_end (codes "as")
  pub with_whole : IsToken key_end (codes "with")
  pub in_whole : IsToken key_end (codes "in")
  pub instanceof_whole : IsToken key_end (codes "instanceof")
  pub class_whole : IsToken key_end (codes "class")
  pub extends_whole : IsToken key_end (codes "extends")
  pub static_whole : IsToken key_end (codes "static")
  pub constructor_whole : IsToken key_end (codes "constructor")
  pub get_whole : IsToken key_end (codes "get")
  pub set_whole : IsToken key_end (codes "set")
  pub function_whole : IsToken key_end (codes "function")

-- what may stand behind each token that ends a name
pub record BehindName (us : Items) : Type 0 where
  pub word : (w : List ℕ) → joins_next (items.key w) us ≡ true
  pub string : (w : List ℕ) → joins_next (items.string w) us ≡ true
  pub number : (w : List ℕ) → joins_next (items.number w) us ≡ true
  pub big_int : (w : List ℕ) → joins_next (items.big_int w) us ≡ true
  pub private : (w : List ℕ) → joins_next (items.private_name w) us ≡ true
  pub bracket : joins_next (sign (codes "]")) us ≡ true

pub colon_behind_name : (us : Items) → BehindName (sign_of (codes ":") us)
unfolding punctuators
colon_behind_name us = record { word = λ w. refl; string = λ w. refl; number = λ w. refl; big_int = λ w. refl; private = λ w. refl; bracket = refl }

module _ (words : Words) where
  pub more_soft : {es : List Node} (is : AreExpressions es) (depth : ℕ) {us : Items} → Soft false us → Soft false (more_tokens is depth us)
  more_soft shapes.no_expressions depth z = z
  more_soft (shapes.more_expressions e es) depth z = comma

  pub elements_soft : {role : Role} {es : List Node} (is : AreElements role es) (depth : ℕ) {us : Items} → Soft false us → Soft false (elements_tokens is depth us)
  elements_soft shapes.no_elements depth z = z
  elements_soft (shapes.more_elements e es) depth z = comma

  pub update_fine : (o : UpdateOp) → Fine (update_token o)
  unfolding punctuators
  update_fine PlusPlus = refl
  update_fine MinusMinus = refl

  pub update_behind : (o : UpdateOp) {object : Bool} {us : Items} → Soft object (it no_gap (update_token o) us)
  update_behind PlusPlus = increment
  update_behind MinusMinus = decrement

  pub assign_fine : (o : AssignOp) → Fine (assign_token o)
  unfolding punctuators
  assign_fine Assign = refl
  assign_fine AddAssign = refl
  assign_fine SubAssign = refl
  assign_fine MulAssign = refl
  assign_fine DivAssign = refl
  assign_fine ModAssign = refl
  assign_fine LShiftAssign = refl
  assign_fine RShiftAssign = refl
  assign_fine ZeroFillRShiftAssign = refl
  assign_fine BitOrAssign = refl
  assign_fine BitXorAssign = refl
  assign_fine BitAndAssign = refl
  assign_fine ExpAssign = refl
  assign_fine AndAssign = refl
  assign_fine OrAssign = refl
  assign_fine NullishAssign = refl

  pub unary_fine : (o : UnaryOp) → Fine (unary_token o)
  unfolding punctuators
  unary_fine Minus = refl
  unary_fine Plus = refl
  unary_fine Bang = refl
  unary_fine Tilde = refl
  unary_fine TypeOf = words.typeof_whole
  unary_fine Void = words.void_whole
  unary_fine Delete = words.delete_whole

  pub binary_fine : (o : BinaryOp) → Fine (binary_token o)
  unfolding punctuators
  binary_fine In = words.in_whole
  binary_fine InstanceOf = words.instanceof_whole
  binary_fine o = refl

  -- behind the right side of an operator no point stands either
  pub right_soft : {o : BinaryOp} {l t : Level} {us : Items} → IsOperator o l t → Soft (is_object l) us → Soft (is_object t) us
  right_soft shapes.times z = z
  right_soft i z = z

  pub value_joined : {e : Node} (is : IsExpression shapes.assignment e) (depth : ℕ) (us : Items) → Joined (expression_tokens is depth blank us) → Joined (it blank (sign (codes "=")) (expression_tokens is depth blank us))
  unfolding punctuators
  value_joined is depth us j = (blank_is, refl, blank_joins (sign (codes "=")) is depth us, j)

  -- a declarator ends before `,` or `;`
  pub declarators_soft : {ds : List Node} (is : AreDeclarators ds) (depth : ℕ) (object : Bool) (us : Items) → Soft object (declarators_tokens is depth (sign_of (codes ";") us))
  declarators_soft shapes.no_declarators depth object us = semicolon
  declarators_soft (shapes.more_declarators d ds) depth object us = comma
