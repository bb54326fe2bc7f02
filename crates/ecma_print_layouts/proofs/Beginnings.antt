-- What an expression begins with, and what it may stand directly behind.
use Rattle.std.proofs.Common.{◌≡◌, ℕ, Bool, true, false, List, ◌++◌, codes, refl, sym, ◌∙◌}
use Rattle.std.proofs.lemmas.Bool.{false≢true}
use Rattle.ecma_kind.specs.declared.operators.UnaryOp.{UnaryOp}
use Rattle.ecma_kind.specs.declared.operators.UnaryOp.TheVariants.{Minus, Plus, Bang, Tilde, TypeOf, Void, Delete}
use Rattle.ecma_kind.specs.declared.operators.UpdateOp.{UpdateOp}
use Rattle.ecma_kind.specs.declared.operators.UpdateOp.TheVariants.{PlusPlus, MinusMinus}
use Rattle.ecma_kind.specs.declared.operators.BinaryOp.{BinaryOp}
use Rattle.ecma_lex.specs.Punctuators.{punctuators}
use Rattle.ecma_tree.specs.declared.node.Node.{Node}
use Rattle.ecma_print_tokens.specs.Items as items
use Rattle.ecma_print_tokens.specs.Items.{Tok, sign, Gap, no_gap, Items, it}
use Rattle.ecma_print_tokens.specs.Taking.{refused, new_line_in, punct_in}
use Rattle.ecma_print_tokens.specs.Joins.{joins_next}
use Rattle.ecma_print.specs.declared.place.Beside.{Beside}
use Rattle.ecma_print.specs.declared.place.Beside.TheVariants.{NoNeighbor}
use Rattle.ecma_print.specs.Operators.{unary_sign, update_sign}
use Rattle.ecma_shapes.specs.Shapes as shapes
use Rattle.ecma_shapes.specs.Shapes.{Level, looser_than, IsOperator, key, IsExpression, IsElement, IsInitializer, AreSlots, IsMemberLevel, IsIndexed, AreProperties, IsPropertyName, IsProperty, IsDefaulted, IsPattern, Role, IsChainLink}
use Rattle.ecma_shapes.specs.LiteralTexts.{regex_text, part_text}
use Rattle.ecma_shapes.proofs.Tokens.{own_sign, ident_word, key_word, expression_tokens, element_tokens, arguments_tokens, more_tokens, slots_tokens, more_slots_tokens, chain_token, properties_tokens, more_properties_tokens, property_tokens, initializer_tokens, defaulted_tokens, pattern_tokens, part_token, parts_tokens, ends_here, first_raw, block_tokens, is_generator, is_async, function_tokens, function_name_tokens, class_tokens, property_name_tokens}
use Rattle.ecma_shapes.proofs.Signs.{blank, sign_of, assign_token, update_token, unary_token, binary_token, unary_gap, star_of, star_word, function_word, point_of, question_of, method_tokens}
use Rattle.ecma_shapes.specs.Starts.{is_brace}
use Rattle.ecma_shapes.proofs.Starts.{start}
use Rattle.ecma_print_layouts.proofs.Softs.{Soft, comma, closing_bracket, parted}

-- what an expression begins with, and the sign that this is as a unary operator
pub data Opens : Tok → Beside → Type 0 where
  by_key : (w : List ℕ) → Opens (items.key w) NoNeighbor
  by_private : (w : List ℕ) → Opens (items.private_name w) NoNeighbor
  by_string : (w : List ℕ) → Opens (items.string w) NoNeighbor
  by_number : (w : List ℕ) → Opens (items.number w) NoNeighbor
  by_regex : (w : List ℕ) → Opens (items.regex w) NoNeighbor
  by_template : (last : Bool) (w : List ℕ) → Opens (items.template true last w) NoNeighbor
  by_big_int : (w : List ℕ) → Opens (items.big_int w) NoNeighbor
  by_bracket : Opens (sign (codes "[")) NoNeighbor
  by_brace : Opens (sign (codes "{")) NoNeighbor
  by_parenthesis : Opens (sign (codes "(")) NoNeighbor
  by_update : (o : UpdateOp) → Opens (update_token o) (update_sign o)
  by_operator : (o : UnaryOp) → Opens (unary_token o) (unary_sign o)

pub record Begun (tokens : Gap → Items) : Type 0 where
  pub first : Tok
  pub by : Beside
  pub rest : Items
  pub opens : Opens first by
  pub is : (g : Gap) → tokens g ≡ it g first rest

-- the words before the name of a function
abbrev first_word : Bool → List ℕ
first_word true = codes "async"
first_word false = codes "function"

abbrev behind_word : Bool → Bool → Items → Items
behind_word x true us = star_word x blank us
behind_word true false us = sign_of (codes "*") us
behind_word false false us = us

word_first : (x y : Bool) (g : Gap) (us : Items) → function_word x y g us ≡ it g (items.key (first_word y)) (behind_word x y us)
word_first x true g us = refl
word_first true false g us = refl
word_first false false g us = refl

pub begun : {level : Level} {e : Node} (is : IsExpression level e) (depth : ℕ) (us : Items) → Begun (λ g. expression_tokens is depth g us)
begun (shapes.looser e) depth us = begun e depth us
begun (shapes.name i) depth us = record { first = items.key (ident_word i); by = NoNeighbor; rest = us; opens = by_key (ident_word i); is = λ g. refl }
begun (shapes.string at raw t) depth us = record { first = items.string raw; by = NoNeighbor; rest = us; opens = by_string raw; is = λ g. refl }
begun (shapes.number at raw t) depth us = record { first = items.number raw; by = NoNeighbor; rest = us; opens = by_number raw; is = λ g. refl }
begun (shapes.this_word at) depth us = record { first = items.key (codes "this"); by = NoNeighbor; rest = us; opens = by_key (codes "this"); is = λ g. refl }
begun (shapes.big_int at raw t) depth us = record { first = items.big_int raw; by = NoNeighbor; rest = us; opens = by_big_int raw; is = λ g. refl }
begun (shapes.regex at b f t) depth us = record { first = items.regex (regex_text b f); by = NoNeighbor; rest = us; opens = by_regex (regex_text b f); is = λ g. refl }
begun (shapes.template at a b ps) depth us = record { first = part_token true ps; by = NoNeighbor; rest = parts_tokens ps depth us; opens = by_template (ends_here ps) (part_text true (ends_here ps) (first_raw ps)); is = λ g. refl }
begun (shapes.null_word at) depth us = record { first = items.key (codes "null"); by = NoNeighbor; rest = us; opens = by_key (codes "null"); is = λ g. refl }
begun (shapes.true_word at) depth us = record { first = items.key (codes "true"); by = NoNeighbor; rest = us; opens = by_key (codes "true"); is = λ g. refl }
begun (shapes.false_word at) depth us = record { first = items.key (codes "false"); by = NoNeighbor; rest = us; opens = by_key (codes "false"); is = λ g. refl }
begun (shapes.member at i o k) depth us = begun o depth (sign_of (codes ".") (it no_gap (chain_token k) us))
begun (shapes.call at c es none) depth us = begun c depth (sign_of (codes "(") (arguments_tokens es depth (sign_of (codes ")") us)))
begun (shapes.parenthesized at e) depth us = record { first = sign (codes "("); by = NoNeighbor; rest = expression_tokens e depth no_gap (sign_of (codes ")") us); opens = by_parenthesis; is = λ g. refl }
begun (shapes.element at at' i o e) depth us = begun o depth (sign_of (codes "[") (expression_tokens e depth no_gap (sign_of (codes "]") us)))
begun (shapes.super_member at at' k) depth us = record { first = items.key (codes "super"); by = NoNeighbor; rest = sign_of (codes ".") (it no_gap (items.key (key_word k)) us); opens = by_key (codes "super"); is = λ g. refl }
begun (shapes.super_element at at' at'' e) depth us = record { first = items.key (codes "super"); by = NoNeighbor; rest = sign_of (codes "[") (expression_tokens e depth no_gap (sign_of (codes "]") us)); opens = by_key (codes "super"); is = λ g. refl }
begun (shapes.super_call at at' es none) depth us = record { first = items.key (codes "super"); by = NoNeighbor; rest = sign_of (codes "(") (arguments_tokens es depth (sign_of (codes ")") us)); opens = by_key (codes "super"); is = λ g. refl }
begun (shapes.new_expression at i e es none) depth us = record { first = items.key (codes "new"); by = NoNeighbor; rest = expression_tokens e depth blank (sign_of (codes "(") (arguments_tokens es depth (sign_of (codes ")") us))); opens = by_key (codes "new"); is = λ g. refl }
begun (shapes.new_alone at i e none none') depth us = record { first = items.key (codes "new"); by = NoNeighbor; rest = expression_tokens e depth blank us; opens = by_key (codes "new"); is = λ g. refl }
begun (shapes.new_target at) depth us = record { first = items.key (codes "new"); by = NoNeighbor; rest = sign_of (codes ".") (it no_gap (items.key (codes "target")) us); opens = by_key (codes "new"); is = λ g. refl }
begun (shapes.import_meta at) depth us = record { first = items.key (codes "import"); by = NoNeighbor; rest = sign_of (codes ".") (it no_gap (items.key (codes "meta")) us); opens = by_key (codes "import"); is = λ g. refl }
begun (shapes.import_call at at' es none) depth us = record { first = items.key (codes "import"); by = NoNeighbor; rest = sign_of (codes "(") (arguments_tokens es depth (sign_of (codes ")") us)); opens = by_key (codes "import"); is = λ g. refl }
begun (shapes.tagged_template at a b c i o none ps) depth us = begun o depth (it no_gap (part_token true ps) (parts_tokens ps depth us))
begun (shapes.chain_member at a {asks = b} i o k) depth us = begun o depth (sign_of (point_of b) (it no_gap (chain_token k) us))
begun (shapes.chain_element at a c {asks = b} i o e) depth us = begun o depth (question_of b (sign_of (codes "[") (expression_tokens e depth no_gap (sign_of (codes "]") us))))
begun (shapes.chain_call at a {asks = b} i o es none) depth us = begun o depth (question_of b (sign_of (codes "(") (arguments_tokens es depth (sign_of (codes ")") us))))
begun (shapes.prefix_update at o e) depth us = record { first = update_token o; by = update_sign o; rest = expression_tokens e depth no_gap us; opens = by_update o; is = λ g. refl }
begun (shapes.postfix_update at o e) depth us = begun e depth (it no_gap (update_token o) us)
begun (shapes.await_expression at e) depth us = record { first = items.key (codes "await"); by = NoNeighbor; rest = expression_tokens e depth blank us; opens = by_key (codes "await"); is = λ g. refl }
begun (shapes.unary_expression at o e) depth us = record { first = unary_token o; by = unary_sign o; rest = expression_tokens e depth (unary_gap o (own_sign e)) us; opens = by_operator o; is = λ g. refl }
begun (shapes.binary_expression at {operator = o} i l r) depth us = begun l depth (it blank (binary_token o) (expression_tokens r depth blank us))
begun (shapes.private_in at at' w t r) depth us = record { first = items.private_name (codes "#" ++ w); by = NoNeighbor; rest = it blank (items.key (codes "in")) (expression_tokens r depth blank us); opens = by_private (codes "#" ++ w); is = λ g. refl }
begun (shapes.exponentiation at l r) depth us = begun l depth (it blank (sign (codes "**")) (expression_tokens r depth blank us))
begun (shapes.both at l r) depth us = begun l depth (it blank (sign (codes "&&")) (expression_tokens r depth blank us))
begun (shapes.either at l r) depth us = begun l depth (it blank (sign (codes "||")) (expression_tokens r depth blank us))
begun (shapes.coalesced at i l r) depth us = begun l depth (it blank (sign (codes "??")) (expression_tokens r depth blank us))
begun (shapes.yield_nothing at none) depth us = record { first = items.key (codes "yield"); by = NoNeighbor; rest = us; opens = by_key (codes "yield"); is = λ g. refl }
begun (shapes.yield_value at d e) depth us = record { first = items.key (codes "yield"); by = NoNeighbor; rest = star_of d (expression_tokens e depth blank us); opens = by_key (codes "yield"); is = λ g. refl }
begun (shapes.assignment_expression at o t v) depth us = begun t depth (it blank (assign_token o) (expression_tokens v depth blank us))
begun (shapes.conditional_expression at t x y) depth us = begun t depth (it blank (sign (codes "?")) (expression_tokens x depth blank (it blank (sign (codes ":")) (expression_tokens y depth blank us))))
begun (shapes.arrow_function at true ps e z a b) depth us =
    record {
      first = items.key (codes "async");
      by = NoNeighbor;
      rest = it blank (sign (codes "(")) (arguments_tokens ps depth (sign_of (codes ")") (it blank (sign (codes "=>")) (expression_tokens e depth blank us))));
      opens = by_key (codes "async");
      is = λ g. refl;
    }
begun (shapes.arrow_function at false ps e z a b) depth us =
    record { first = sign (codes "("); by = NoNeighbor; rest = arguments_tokens ps depth (sign_of (codes ")") (it blank (sign (codes "=>")) (expression_tokens e depth blank us))); opens = by_parenthesis; is = λ g. refl }
begun (shapes.arrow_block at true ps b n n') depth us =
    record {
      first = items.key (codes "async");
      by = NoNeighbor;
      rest = it blank (sign (codes "(")) (arguments_tokens ps depth (sign_of (codes ")") (it blank (sign (codes "=>")) (block_tokens b depth blank us))));
      opens = by_key (codes "async");
      is = λ g. refl;
    }
begun (shapes.arrow_block at false ps b n n') depth us =
    record { first = sign (codes "("); by = NoNeighbor; rest = arguments_tokens ps depth (sign_of (codes ")") (it blank (sign (codes "=>")) (block_tokens b depth blank us))); opens = by_parenthesis; is = λ g. refl }
begun (shapes.array at at' es) depth us = record { first = sign (codes "["); by = NoNeighbor; rest = slots_tokens es depth us; opens = by_bracket; is = λ g. refl }
begun (shapes.object_literal at at' ps) depth us = record { first = sign (codes "{"); by = NoNeighbor; rest = properties_tokens ps depth us; opens = by_brace; is = λ g. refl }
begun (shapes.function_expression at i f) depth us =
    let ts = function_name_tokens i (function_tokens f depth us) in
    record {
      first = items.key (first_word (is_async f));
      by = NoNeighbor;
      rest = behind_word (is_generator f) (is_async f) ts;
      opens = by_key (first_word (is_async f));
      is = λ g. word_first (is_generator f) (is_async f) g ts;
    }
begun (shapes.class_expression at i c) depth us = record { first = items.key (codes "class"); by = NoNeighbor; rest = function_name_tokens i (class_tokens c depth us); opens = by_key (codes "class"); is = λ g. refl }
begun (shapes.sequence_expression at x y es) depth us = begun x depth (sign_of (codes ",") (expression_tokens y depth blank (more_tokens es depth us)))

-- behind `(`, behind a blank, and on a new line

pub opening_by : {t : Tok} {b : Beside} → Opens t b → (us : Items) → joins_next (sign (codes "(")) (it no_gap t us) ≡ true
unfolding punctuators
opening_by (by_update PlusPlus) us = refl
opening_by (by_operator Minus) us = refl
opening_by h us = refl

pub bracket_by : {t : Tok} {b : Beside} → Opens t b → (us : Items) → joins_next (sign (codes "[")) (it no_gap t us) ≡ true
unfolding punctuators
bracket_by (by_update PlusPlus) us = refl
bracket_by (by_operator Minus) us = refl
bracket_by h us = refl

pub dots_by : {t : Tok} {b : Beside} → Opens t b → (us : Items) → joins_next (sign (codes "...")) (it no_gap t us) ≡ true
unfolding punctuators
dots_by (by_update PlusPlus) us = refl
dots_by (by_operator Minus) us = refl
dots_by h us = refl

pub pattern_dots_joins : {n : Node} (is : IsPattern n) (depth : ℕ) (us : Items) → joins_next (sign (codes "...")) (pattern_tokens is depth no_gap us) ≡ true
unfolding punctuators
pattern_dots_joins (shapes.name_pattern at i a) depth us = refl
pattern_dots_joins is depth us = refl

pub dots_join : {level : Level} {e : Node} (is : IsExpression level e) (depth : ℕ) (us : Items) → joins_next (sign (codes "...")) (expression_tokens is depth no_gap us) ≡ true
dots_join is depth us = let b = begun is depth us in rw (b.is no_gap) (dots_by b.opens b.rest)

pub opening_joins : {level : Level} {e : Node} (is : IsExpression level e) (depth : ℕ) (us : Items) → joins_next (sign (codes "(")) (expression_tokens is depth no_gap us) ≡ true
opening_joins is depth us = let b = begun is depth us in rw (b.is no_gap) (opening_by b.opens b.rest)

pattern_opening_joins : {n : Node} (is : IsPattern n) (depth : ℕ) (us : Items) → joins_next (sign (codes "(")) (pattern_tokens is depth no_gap us) ≡ true
unfolding punctuators
pattern_opening_joins (shapes.name_pattern at i a) depth us = refl
pattern_opening_joins is depth us = refl

pub element_opening_joins : {role : Role} {n : Node} (is : IsElement role n) (depth : ℕ) (us : Items) → joins_next (sign (codes "(")) (element_tokens is depth no_gap us) ≡ true
unfolding punctuators
element_opening_joins (shapes.one e) depth us = opening_joins e depth us
element_opening_joins (shapes.spread at e) depth us = refl
element_opening_joins (shapes.bound (shapes.no_default p)) depth us = pattern_opening_joins p depth us
element_opening_joins (shapes.bound (shapes.with_default at p e)) depth us = pattern_opening_joins p depth (it blank (sign (codes "=")) (expression_tokens e depth blank us))
element_opening_joins (shapes.rest at p a) depth us = refl

pub update_by : (o : UpdateOp) {t : Tok} {b : Beside} → Opens t b → (us : Items) → joins_next (update_token o) (it no_gap t us) ≡ true
unfolding punctuators
update_by PlusPlus (by_update PlusPlus) us = refl
update_by PlusPlus (by_operator Minus) us = refl
update_by PlusPlus h us = refl
update_by MinusMinus (by_update PlusPlus) us = refl
update_by MinusMinus (by_operator Minus) us = refl
update_by MinusMinus h us = refl

pub update_joins : (o : UpdateOp) {level : Level} {e : Node} (is : IsExpression level e) (depth : ℕ) (us : Items) → joins_next (update_token o) (expression_tokens is depth no_gap us) ≡ true
update_joins o is depth us = let b = begun is depth us in rw (b.is no_gap) (update_by o b.opens b.rest)

pub bracket_joins : {level : Level} {e : Node} (is : IsExpression level e) (depth : ℕ) (us : Items) → joins_next (sign (codes "[")) (expression_tokens is depth no_gap us) ≡ true
bracket_joins is depth us = let b = begun is depth us in rw (b.is no_gap) (bracket_by b.opens b.rest)

pub no_new_line : {level : Level} {e : Node} (is : IsExpression level e) (depth : ℕ) (us : Items) → new_line_in (expression_tokens is depth blank us) ≡ false
no_new_line is depth us = let b = begun is depth us in rw (b.is blank) refl

pub update_brace : (o : UpdateOp) (g : Gap) (us : Items) → punct_in (codes "{") (it g (update_token o) us) ≡ refused
update_brace PlusPlus g us = refl
update_brace MinusMinus g us = refl

pub unary_brace : (o : UnaryOp) (g : Gap) (us : Items) → punct_in (codes "{") (it g (unary_token o) us) ≡ refused
unary_brace Minus g us = refl
unary_brace o g us = refl

pub star_by : {t : Tok} {b : Beside} → Opens t b → (g : Gap) (us : Items) → punct_in (codes "*") (it g t us) ≡ refused
star_by (by_update PlusPlus) g us = refl
star_by (by_operator Minus) g us = refl
star_by h g us = refl

pub no_star : {level : Level} {e : Node} (is : IsExpression level e) (depth : ℕ) (g : Gap) (us : Items) → punct_in (codes "*") (expression_tokens is depth g us) ≡ refused
no_star is depth g us = let b = begun is depth us in rw (b.is g) (star_by b.opens g b.rest)

function_brace : (x y : Bool) (g : Gap) (us : Items) → punct_in (codes "{") (function_word x y g us) ≡ refused
function_brace x true g us = refl
function_brace true false g us = refl
function_brace false false g us = refl

-- it begins with no `{`
pub no_brace : {level : Level} {e : Node} (is : IsExpression level e) (depth : ℕ) → is_brace (start is) ≡ false → (g : Gap) (us : Items) → punct_in (codes "{") (expression_tokens is depth g us) ≡ refused
no_brace (shapes.looser e) depth z g us = no_brace e depth z g us
no_brace (shapes.member at i o k) depth z g us = no_brace o depth z g (sign_of (codes ".") (it no_gap (chain_token k) us))
no_brace (shapes.call at c es none) depth z g us = no_brace c depth z g (sign_of (codes "(") (arguments_tokens es depth (sign_of (codes ")") us)))
no_brace (shapes.element at at' i o e) depth z g us = no_brace o depth z g (sign_of (codes "[") (expression_tokens e depth no_gap (sign_of (codes "]") us)))
no_brace (shapes.tagged_template at a b c i o none ps) depth z g us = no_brace o depth z g (it no_gap (part_token true ps) (parts_tokens ps depth us))
no_brace (shapes.chain_member at a {asks = b} i o k) depth z g us = no_brace o depth z g (sign_of (point_of b) (it no_gap (chain_token k) us))
no_brace (shapes.chain_element at a c {asks = b} i o e) depth z g us = no_brace o depth z g (question_of b (sign_of (codes "[") (expression_tokens e depth no_gap (sign_of (codes "]") us))))
no_brace (shapes.chain_call at a {asks = b} i o es none) depth z g us = no_brace o depth z g (question_of b (sign_of (codes "(") (arguments_tokens es depth (sign_of (codes ")") us))))
no_brace (shapes.prefix_update at o e) depth z g us = update_brace o g (expression_tokens e depth no_gap us)
no_brace (shapes.postfix_update at o e) depth z g us = no_brace e depth z g (it no_gap (update_token o) us)
no_brace (shapes.unary_expression at o e) depth z g us = unary_brace o g (expression_tokens e depth (unary_gap o (own_sign e)) us)
no_brace (shapes.binary_expression at {operator = o} i l r) depth z g us = no_brace l depth z g (it blank (binary_token o) (expression_tokens r depth blank us))
no_brace (shapes.exponentiation at l r) depth z g us = no_brace l depth z g (it blank (sign (codes "**")) (expression_tokens r depth blank us))
no_brace (shapes.both at l r) depth z g us = no_brace l depth z g (it blank (sign (codes "&&")) (expression_tokens r depth blank us))
no_brace (shapes.either at l r) depth z g us = no_brace l depth z g (it blank (sign (codes "||")) (expression_tokens r depth blank us))
no_brace (shapes.coalesced at i l r) depth z g us = no_brace l depth z g (it blank (sign (codes "??")) (expression_tokens r depth blank us))
no_brace (shapes.assignment_expression at o t v) depth z g us = no_brace t depth z g (it blank (assign_token o) (expression_tokens v depth blank us))
no_brace (shapes.conditional_expression at t x y) depth z g us = no_brace t depth z g (it blank (sign (codes "?")) (expression_tokens x depth blank (it blank (sign (codes ":")) (expression_tokens y depth blank us))))
no_brace (shapes.sequence_expression at x y es) depth z g us = no_brace x depth z g (sign_of (codes ",") (expression_tokens y depth blank (more_tokens es depth us)))
no_brace (shapes.object_literal at at' ps) depth z g us = absurd (false≢true (sym z))
no_brace (shapes.function_expression at i f) depth z g us = function_brace (is_generator f) (is_async f) g (function_name_tokens i (function_tokens f depth us))
no_brace (shapes.arrow_function at true ps e q a b) depth z g us = refl
no_brace (shapes.arrow_function at false ps e q a b) depth z g us = refl
no_brace (shapes.arrow_block at true ps b n n') depth z g us = refl
no_brace (shapes.arrow_block at false ps b n n') depth z g us = refl
no_brace is depth z g us = refl

pub blank_joins : (t : Tok) {level : Level} {e : Node} (is : IsExpression level e) (depth : ℕ) (us : Items) → joins_next t (expression_tokens is depth blank us) ≡ true
blank_joins t is depth us = let b = begun is depth us in rw (b.is blank) refl

pub pattern_blank_joins : (t : Tok) {n : Node} (is : IsPattern n) (depth : ℕ) (us : Items) → joins_next t (pattern_tokens is depth blank us) ≡ true
pattern_blank_joins t (shapes.name_pattern at i a) depth us = refl
pattern_blank_joins t is depth us = refl

pub defaulted_blank_joins : (t : Tok) {n : Node} (is : IsDefaulted n) (depth : ℕ) (us : Items) → joins_next t (defaulted_tokens is depth blank us) ≡ true
defaulted_blank_joins t (shapes.no_default p) depth us = pattern_blank_joins t p depth us
defaulted_blank_joins t (shapes.with_default at p e) depth us = pattern_blank_joins t p depth (it blank (sign (codes "=")) (expression_tokens e depth blank us))

pub element_blank_joins : (t : Tok) {role : Role} {n : Node} (is : IsElement role n) (depth : ℕ) (us : Items) → joins_next t (element_tokens is depth blank us) ≡ true
element_blank_joins t (shapes.one e) depth us = blank_joins t e depth us
element_blank_joins t (shapes.spread at e) depth us = refl
element_blank_joins t (shapes.bound p) depth us = defaulted_blank_joins t p depth us
element_blank_joins t (shapes.rest at p a) depth us = refl

-- in brackets

pattern_bracket_joins : {n : Node} (is : IsPattern n) (depth : ℕ) (us : Items) → joins_next (sign (codes "[")) (pattern_tokens is depth no_gap us) ≡ true
unfolding punctuators
pattern_bracket_joins (shapes.name_pattern at i a) depth us = refl
pattern_bracket_joins is depth us = refl

pub element_bracket_joins : {role : Role} {n : Node} (is : IsElement role n) (depth : ℕ) (us : Items) → joins_next (sign (codes "[")) (element_tokens is depth no_gap us) ≡ true
unfolding punctuators
element_bracket_joins (shapes.one e) depth us = bracket_joins e depth us
element_bracket_joins (shapes.spread at e) depth us = refl
element_bracket_joins (shapes.bound (shapes.no_default p)) depth us = pattern_bracket_joins p depth us
element_bracket_joins (shapes.bound (shapes.with_default at p e)) depth us = pattern_bracket_joins p depth (it blank (sign (codes "=")) (expression_tokens e depth blank us))
element_bracket_joins (shapes.rest at p a) depth us = refl

key_parted : (t : Tok) {n : Node} (is : IsPropertyName n) (depth : ℕ) (us : Items) → joins_next t (property_name_tokens is depth blank us) ≡ true
key_parted t (shapes.key_name k) depth us = refl
key_parted t (shapes.string_name at raw z) depth us = refl
key_parted t (shapes.number_name at raw z) depth us = refl
key_parted t (shapes.big_int_name at raw z) depth us = refl
key_parted t (shapes.computed_name at e) depth us = refl

method_parted : (t : Tok) (x y : Bool) {n : Node} (is : IsPropertyName n) (depth : ℕ) (us : Items) → joins_next t (method_tokens x y (λ h. property_name_tokens is depth h us) blank) ≡ true
method_parted t true true is depth us = refl
method_parted t true false is depth us = refl
method_parted t false true is depth us = refl
method_parted t false false is depth us = key_parted t is depth us

pub property_parted : (t : Tok) {role : Role} {n : Node} (is : IsProperty role n) (depth : ℕ) (us : Items) → joins_next t (property_tokens is depth blank us) ≡ true
property_parted t (shapes.method_property at k f) depth us = method_parted t (is_generator f) (is_async f) k depth (function_tokens f depth us)
property_parted t (shapes.key_value at (shapes.key_name k) v) depth us = refl
property_parted t (shapes.renamed at (shapes.key_name k) p) depth us = refl
property_parted t (shapes.renamed at k p) depth us = refl
property_parted t (shapes.key_value at k v) depth us = refl
property_parted t is depth us = refl

pub properties_open : {role : Role} {ns : List Node} (is : AreProperties role ns) (depth : ℕ) (us : Items) → joins_next (sign (codes "{")) (properties_tokens is depth us) ≡ true
unfolding punctuators
properties_open shapes.no_properties depth us = refl
properties_open (shapes.more_properties p ps) depth us = property_parted (sign (codes "{")) p depth (more_properties_tokens ps depth us)

pub properties_soft : {role : Role} {ns : List Node} (is : AreProperties role ns) (depth : ℕ) (us : Items) → Soft false (more_properties_tokens is depth us)
properties_soft shapes.no_properties depth us = parted
properties_soft (shapes.more_properties p ps) depth us = comma

pub initializer_soft : {n : Node} (is : IsInitializer n) (depth : ℕ) {us : Items} → Soft false us → Soft false (initializer_tokens is depth us)
initializer_soft (shapes.no_initializer a) depth z = z
initializer_soft (shapes.initializer e) depth z = parted

pub slots_open : {role : Role} {ns : List Node} (is : AreSlots role ns) (depth : ℕ) (us : Items) → joins_next (sign (codes "[")) (slots_tokens is depth us) ≡ true
unfolding punctuators
slots_open shapes.no_slots depth us = refl
slots_open (shapes.filled e es) depth us = element_bracket_joins e depth (more_slots_tokens es depth false no_gap us)
slots_open (shapes.hole a shapes.no_slots) depth us = refl
slots_open (shapes.hole a es) depth us = refl

pub slots_parted : {role : Role} {ns : List Node} (is : AreSlots role ns) (depth : ℕ) (us : Items) → joins_next (sign (codes ",")) (more_slots_tokens is depth true blank us) ≡ true
slots_parted shapes.no_slots depth us = refl
slots_parted is depth us = refl

pub slots_soft : {role : Role} {ns : List Node} (is : AreSlots role ns) (depth : ℕ) (us : Items) → Soft false (more_slots_tokens is depth false no_gap us)
slots_soft shapes.no_slots depth us = closing_bracket
slots_soft (shapes.filled e es) depth us = comma
slots_soft (shapes.hole a es) depth us = comma

-- the operand of a unary operator: it begins with no sign but that of an operator of its own

abbrev pub is_linked : Level → Bool
is_linked shapes.new_callee = true
is_linked shapes.object = true
is_linked shapes.numeral = true
is_linked shapes.callee = true
is_linked shapes.chain = true
is_linked shapes.left_hand_side = true
is_linked l = false

abbrev pub is_operand : Level → Bool
is_operand shapes.update = true
is_operand shapes.unary = true
is_operand l = is_linked l

pub linked_first : (l : Level) → is_linked (looser_than l) ≡ true → is_linked l ≡ true
linked_first shapes.object h = refl
linked_first shapes.callee h = refl
linked_first shapes.chain h = refl
linked_first shapes.left_hand_side h = refl
linked_first l h = h

pub operand_first : (l : Level) → is_operand (looser_than l) ≡ true → is_operand l ≡ true
operand_first shapes.object h = refl
operand_first shapes.callee h = refl
operand_first shapes.chain h = refl
operand_first shapes.update h = refl
operand_first shapes.unary h = refl
operand_first l h = h

pub no_operand : {o : BinaryOp} {l t : Level} → IsOperator o l t → is_operand l ≡ false
no_operand shapes.times = refl
no_operand i = refl

pub linked_operand : (l : Level) → is_linked l ≡ true → is_operand l ≡ true
linked_operand shapes.update h = refl
linked_operand shapes.unary h = refl
linked_operand l h = h

pub member_linked : {l : Level} → IsMemberLevel l → is_linked l ≡ true
member_linked shapes.member_of_new = refl
member_linked shapes.member_of_object = refl

chain_linked : {l : Level} {b : Bool} → IsChainLink l b → is_linked l ≡ true
chain_linked shapes.opens_chain = refl
chain_linked shapes.asks_on = refl
chain_linked shapes.goes_on = refl

pub index_linked : {h l : Level} → IsIndexed h l → is_linked h ≡ true
index_linked shapes.index_of_new = refl
index_linked shapes.index_of_numeral = refl
index_linked shapes.index_of_callee = refl

pub plain : {level : Level} {e : Node} (is : IsExpression level e) (depth : ℕ) (us : Items) → is_linked level ≡ true → (let b = begun is depth us in b.by) ≡ NoNeighbor
unfolding begun
plain (shapes.looser {level = l} e) depth us h = plain e depth us (linked_first l h)
plain (shapes.member at i o k) depth us h = plain o depth (sign_of (codes ".") (it no_gap (chain_token k) us)) h
plain (shapes.call at c es none) depth us h = plain c depth (sign_of (codes "(") (arguments_tokens es depth (sign_of (codes ")") us))) refl
plain (shapes.element at at' i o e) depth us h = plain o depth (sign_of (codes "[") (expression_tokens e depth no_gap (sign_of (codes "]") us))) (index_linked i)
plain (shapes.chain_member at a {asks = b} i o k) depth us h = plain o depth (sign_of (point_of b) (it no_gap (chain_token k) us)) (chain_linked i)
plain (shapes.chain_element at a c {asks = b} i o e) depth us h = plain o depth (question_of b (sign_of (codes "[") (expression_tokens e depth no_gap (sign_of (codes "]") us)))) (chain_linked i)
plain (shapes.chain_call at a {asks = b} i o es none) depth us h = plain o depth (question_of b (sign_of (codes "(") (arguments_tokens es depth (sign_of (codes ")") us)))) (chain_linked i)
plain (shapes.tagged_template at a b c i o none ps) depth us h = plain o depth (it no_gap (part_token true ps) (parts_tokens ps depth us)) (index_linked i)
plain (shapes.prefix_update at o e) depth us h = absurd (false≢true h)
plain (shapes.postfix_update at o e) depth us h = absurd (false≢true h)
plain (shapes.unary_expression at o e) depth us h = absurd (false≢true h)
plain (shapes.binary_expression at {level = l} i x y) depth us h = absurd (false≢true (sym (no_operand i) ∙ linked_operand l h))
plain (shapes.exponentiation at l r) depth us h = absurd (false≢true h)
plain (shapes.both at l r) depth us h = absurd (false≢true h)
plain (shapes.either at l r) depth us h = absurd (false≢true h)
plain (shapes.coalesced at i l r) depth us h = absurd (false≢true h)
plain (shapes.assignment_expression at o t v) depth us h = absurd (false≢true h)
plain (shapes.conditional_expression at t x y) depth us h = absurd (false≢true h)
plain (shapes.sequence_expression at x y es) depth us h = absurd (false≢true h)
plain (shapes.arrow_function at w ps e z a b) depth us h = absurd (false≢true h)
plain (shapes.arrow_block at w ps b n n') depth us h = absurd (false≢true h)
plain is depth us h = refl

pub signed : {level : Level} {e : Node} (is : IsExpression level e) (depth : ℕ) (us : Items) → is_operand level ≡ true → (let b = begun is depth us in b.by) ≡ own_sign is
unfolding begun
signed (shapes.looser {level = l} e) depth us h = signed e depth us (operand_first l h)
signed (shapes.member at i o k) depth us h = plain o depth (sign_of (codes ".") (it no_gap (chain_token k) us)) (member_linked i)
signed (shapes.call at c es none) depth us h = plain c depth (sign_of (codes "(") (arguments_tokens es depth (sign_of (codes ")") us))) refl
signed (shapes.element at at' i o e) depth us h = plain o depth (sign_of (codes "[") (expression_tokens e depth no_gap (sign_of (codes "]") us))) (index_linked i)
signed (shapes.chain_member at a {asks = b} i o k) depth us h = plain o depth (sign_of (point_of b) (it no_gap (chain_token k) us)) (chain_linked i)
signed (shapes.chain_element at a c {asks = b} i o e) depth us h = plain o depth (question_of b (sign_of (codes "[") (expression_tokens e depth no_gap (sign_of (codes "]") us)))) (chain_linked i)
signed (shapes.chain_call at a {asks = b} i o es none) depth us h = plain o depth (question_of b (sign_of (codes "(") (arguments_tokens es depth (sign_of (codes ")") us)))) (chain_linked i)
signed (shapes.tagged_template at a b c i o none ps) depth us h = plain o depth (it no_gap (part_token true ps) (parts_tokens ps depth us)) (index_linked i)
signed (shapes.postfix_update at o e) depth us h = plain e depth (it no_gap (update_token o) us) refl
signed (shapes.binary_expression at {level = l} i x y) depth us h = absurd (false≢true (sym (no_operand i) ∙ h))
signed (shapes.exponentiation at l r) depth us h = absurd (false≢true h)
signed (shapes.both at l r) depth us h = absurd (false≢true h)
signed (shapes.either at l r) depth us h = absurd (false≢true h)
signed (shapes.coalesced at i l r) depth us h = absurd (false≢true h)
signed (shapes.assignment_expression at o t v) depth us h = absurd (false≢true h)
signed (shapes.conditional_expression at t x y) depth us h = absurd (false≢true h)
signed (shapes.sequence_expression at x y es) depth us h = absurd (false≢true h)
signed (shapes.arrow_function at w ps e z a b) depth us h = absurd (false≢true h)
signed (shapes.arrow_block at w ps b n n') depth us h = absurd (false≢true h)
signed is depth us h = refl

-- a unary operator joins its operand
pub unary_by : (o : UnaryOp) {t : Tok} {b : Beside} → Opens t b → (us : Items) → joins_next (unary_token o) (it (unary_gap o b) t us) ≡ true
unfolding punctuators
unary_by Minus (by_update PlusPlus) us = refl
unary_by Minus (by_operator Minus) us = refl
unary_by Minus h us = refl
unary_by Plus (by_update PlusPlus) us = refl
unary_by Plus (by_operator Minus) us = refl
unary_by Plus h us = refl
unary_by Bang (by_update PlusPlus) us = refl
unary_by Bang (by_operator Minus) us = refl
unary_by Bang h us = refl
unary_by Tilde (by_update PlusPlus) us = refl
unary_by Tilde (by_operator Minus) us = refl
unary_by Tilde h us = refl
unary_by TypeOf h us = refl
unary_by Void h us = refl
unary_by Delete h us = refl

pub unary_joins : (o : UnaryOp) {e : Node} (is : IsExpression shapes.unary e) (depth : ℕ) (us : Items) → joins_next (unary_token o) (expression_tokens is depth (unary_gap o (own_sign is)) us) ≡ true
unary_joins o is depth us = let b = begun is depth us in rw (b.is (unary_gap o (own_sign is)), ← signed is depth us refl) (unary_by o b.opens b.rest)
