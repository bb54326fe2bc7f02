-- The tokens that a tree is laid out as, in front of others.
use Rattle.std.specs.Prelude.{ℕ, true, false, List, codes, suc, Bool, ◌++◌}
use Rattle.ecma_kind.specs.declared.kind.Kind.{Kind}
use Rattle.ecma_kind.specs.declared.kind.Kind.TheVariants as kind
use Rattle.ecma_tree.specs.declared.node.Node.{Node}
use Rattle.ecma_print.specs.declared.place.Beside.{Beside}
use Rattle.ecma_print.specs.declared.place.Beside.TheVariants.{NoNeighbor}
use Rattle.ecma_print.specs.Operators.{unary_sign, update_sign}
use Rattle.ecma_print.specs.Statements.{keyword}
use Rattle.ecma_print_tokens.specs.Items as items
use Rattle.ecma_print_tokens.specs.Items.{Tok, sign, Gap, no_gap, Items, it}
use Rattle.ecma_shapes.specs.Shapes.{IsIdent, ident, IsKey, key, Level, IsExpression, looser, element, prefix_update, postfix_update, await_expression, unary_expression, binary_expression, exponentiation, both, either, coalesced, assignment_expression, conditional_expression, sequence_expression, name, string, number, this_word, big_int, null_word, true_word, false_word, member, call, parenthesized, IsElement, one, spread, IsArguments, no_arguments, arguments, AreElements, no_elements, more_elements, AreExpressions, no_expressions, more_expressions, IsInitializer, no_initializer, initializer, IsDeclarator, declarator, AreDeclarators, no_declarators, more_declarators, IsStatement, expression, declaration, empty, debugger_word, throw, return_value, return_nothing, break_nothing, continue_nothing, Ending, break_label, continue_label, block, if_only, if_else, while_loop, do_loop, labeled, IsBlock, block_of, AreStatements, no_statements, more_statements, array, AreSlots, no_slots, filled, hole, switch_statement, IsCase, case_of, default_of, AreCases, no_cases, more_cases, new_expression, new_alone, new_target, try_catch, try_finally, try_catch_finally, IsCatch, catch_any, IsChainKey, plain_key, private_key, super_member, super_element, super_call, IsOptional, left_out, given, IsForLeft, for_binding, for_target, for_loop, for_in, for_of, object_literal, function_expression, class_expression, IsPropertyName, key_name, string_name, number_name, big_int_name, computed_name, IsProperty, key_value, shorthand, initialized, spread_property, AreProperties, no_properties, more_properties, private_in, yield_nothing, yield_value, import_meta, import_call, regex, Role, bound, rest, renamed, named, rest_property, IsPattern, name_pattern, array_pattern, object_pattern, IsDefaulted, no_default, with_default, IsForInit, no_init, init_declaration, init_expression, IsPart, part, AreParts, last_part, more_parts, template, tagged_template, arrow_function, catch_pattern, chain_member, chain_element, chain_call, function_statement, IsFunction, function_of, IsFunctionName, unnamed, function_name, IsHeritage, no_heritage, heritage, class_statement, IsClass, class_of, IsMember, empty_member, static_block, AreMembers, no_members, more_members, IsMemberName, property_member, private_member, method, class_constructor, field, accessor, arrow_block, method_property, getter_property, setter_property}
use Rattle.ecma_shapes.specs.LiteralTexts.{regex_text, part_text}
use Rattle.ecma_shapes.proofs.Signs.{blank, line_at, sign_of, unary_token, update_token, binary_token, assign_token, star_of, point_of, question_of, unary_gap, for_tokens, closing_gap, branch_gap, function_word, method_tokens, static_tokens, accessor_text, enclosed}

abbrev pub ident_word : {n : Node} → IsIdent n → List ℕ
ident_word (ident at word i) = word

abbrev pub key_word : {n : Node} → IsKey n → List ℕ
key_word (key at word t) = word

abbrev pub chain_token : {n : Node} → IsChainKey n → Tok
chain_token (plain_key k) = items.key (key_word k)
chain_token (private_key at w t) = items.private_name (codes "#" ++ w)

abbrev pub chain_kind : {n : Node} → IsChainKey n → Kind
chain_kind (plain_key k) = kind.IdentName (key_word k)
chain_kind (private_key at w t) = kind.PrivateName w

-- the sign that an expression begins with, where it is an operator
abbrev pub own_sign : {level : Level} {e : Node} → IsExpression level e → Beside
own_sign (looser e) = own_sign e
own_sign (unary_expression at o e) = unary_sign o
own_sign (prefix_update at o e) = update_sign o
own_sign e = NoNeighbor

abbrev pub part_raw : {t f l : Bool} {n : Node} → IsPart t f l n → List ℕ
part_raw (part at raw w r v) = raw

-- the first part: its text, and whether it is the last
abbrev pub first_raw : {t f : Bool} {es ps : List Node} → AreParts t f es ps → List ℕ
first_raw (last_part p) = part_raw p
first_raw (more_parts p e ps) = part_raw p

abbrev pub ends_here : {t f : Bool} {es ps : List Node} → AreParts t f es ps → Bool
ends_here (last_part p) = true
ends_here (more_parts p e ps) = false

abbrev pub part_token : (first : Bool) {t f : Bool} {es ps : List Node} → AreParts t f es ps → Tok
part_token first ps = items.template first (ends_here ps) (part_text first (ends_here ps) (first_raw ps))

abbrev pub is_braced : {ending : Ending} {s : Node} → IsStatement ending s → Bool
is_braced (block b) = true
is_braced s = false

abbrev pub function_name_tokens : {n : Node} → IsFunctionName n → Items → Items
function_name_tokens (unnamed a) us = us
function_name_tokens (function_name i) us = it blank (items.key (ident_word i)) us

abbrev pub is_generator : {n : Node} → IsFunction n → Bool
is_generator (function_of at at' x y ps w b a a') = x

abbrev pub is_async : {n : Node} → IsFunction n → Bool
is_async (function_of at at' x y ps w b a a') = y

-- an expression or a statement on a line that stands so many levels further in
abbrev mutual
  pub expression_tokens : {level : Level} {e : Node} → IsExpression level e → ℕ → Gap → Items → Items
  expression_tokens (name i) depth g us = it g (items.key (ident_word i)) us
  expression_tokens (string at raw t) depth g us = it g (items.string raw) us
  expression_tokens (number at raw t) depth g us = it g (items.number raw) us
  expression_tokens (this_word at) depth g us = it g (items.key (codes "this")) us
  expression_tokens (big_int at raw t) depth g us = it g (items.big_int raw) us
  expression_tokens (regex at b f t) depth g us = it g (items.regex (regex_text b f)) us
  expression_tokens (template at a b ps) depth g us = it g (part_token true ps) (parts_tokens ps depth us)
  expression_tokens (null_word at) depth g us = it g (items.key (codes "null")) us
  expression_tokens (true_word at) depth g us = it g (items.key (codes "true")) us
  expression_tokens (false_word at) depth g us = it g (items.key (codes "false")) us
  expression_tokens (member at i o k) depth g us = expression_tokens o depth g (sign_of (codes ".") (it no_gap (chain_token k) us))
  expression_tokens (call at c es none) depth g us = expression_tokens c depth g (sign_of (codes "(") (arguments_tokens es depth (sign_of (codes ")") us)))
  expression_tokens (parenthesized at e) depth g us = it g (sign (codes "(")) (expression_tokens e depth no_gap (sign_of (codes ")") us))
  expression_tokens (looser e) depth g us = expression_tokens e depth g us
  expression_tokens (element at at' i o e) depth g us = expression_tokens o depth g (sign_of (codes "[") (expression_tokens e depth no_gap (sign_of (codes "]") us)))
  expression_tokens (super_member at at' k) depth g us = it g (items.key (codes "super")) (sign_of (codes ".") (it no_gap (items.key (key_word k)) us))
  expression_tokens (super_element at at' at'' e) depth g us = it g (items.key (codes "super")) (sign_of (codes "[") (expression_tokens e depth no_gap (sign_of (codes "]") us)))
  expression_tokens (super_call at at' es none) depth g us = it g (items.key (codes "super")) (sign_of (codes "(") (arguments_tokens es depth (sign_of (codes ")") us)))
  expression_tokens (new_expression at i e es none) depth g us = it g (items.key (codes "new")) (expression_tokens e depth blank (sign_of (codes "(") (arguments_tokens es depth (sign_of (codes ")") us))))
  expression_tokens (new_alone at i e none none') depth g us = it g (items.key (codes "new")) (expression_tokens e depth blank us)
  expression_tokens (new_target at) depth g us = it g (items.key (codes "new")) (sign_of (codes ".") (it no_gap (items.key (codes "target")) us))
  expression_tokens (import_meta at) depth g us = it g (items.key (codes "import")) (sign_of (codes ".") (it no_gap (items.key (codes "meta")) us))
  expression_tokens (import_call at at' es none) depth g us = it g (items.key (codes "import")) (sign_of (codes "(") (arguments_tokens es depth (sign_of (codes ")") us)))
  expression_tokens (tagged_template at a b c i o none ps) depth g us = expression_tokens o depth g (it no_gap (part_token true ps) (parts_tokens ps depth us))
  expression_tokens (chain_member at a {asks = b} i o k) depth g us = expression_tokens o depth g (sign_of (point_of b) (it no_gap (chain_token k) us))
  expression_tokens (chain_element at a c {asks = b} i o e) depth g us = expression_tokens o depth g (question_of b (sign_of (codes "[") (expression_tokens e depth no_gap (sign_of (codes "]") us))))
  expression_tokens (chain_call at a {asks = b} i o es none) depth g us = expression_tokens o depth g (question_of b (sign_of (codes "(") (arguments_tokens es depth (sign_of (codes ")") us))))
  expression_tokens (prefix_update at o e) depth g us = it g (update_token o) (expression_tokens e depth no_gap us)
  expression_tokens (postfix_update at o e) depth g us = expression_tokens e depth g (it no_gap (update_token o) us)
  expression_tokens (await_expression at e) depth g us = it g (items.key (codes "await")) (expression_tokens e depth blank us)
  expression_tokens (unary_expression at o e) depth g us = it g (unary_token o) (expression_tokens e depth (unary_gap o (own_sign e)) us)
  expression_tokens (binary_expression at {operator = o} i l r) depth g us = expression_tokens l depth g (it blank (binary_token o) (expression_tokens r depth blank us))
  expression_tokens (private_in at at' w t r) depth g us = it g (items.private_name (codes "#" ++ w)) (it blank (items.key (codes "in")) (expression_tokens r depth blank us))
  expression_tokens (exponentiation at l r) depth g us = expression_tokens l depth g (it blank (sign (codes "**")) (expression_tokens r depth blank us))
  expression_tokens (both at l r) depth g us = expression_tokens l depth g (it blank (sign (codes "&&")) (expression_tokens r depth blank us))
  expression_tokens (either at l r) depth g us = expression_tokens l depth g (it blank (sign (codes "||")) (expression_tokens r depth blank us))
  expression_tokens (coalesced at i l r) depth g us = expression_tokens l depth g (it blank (sign (codes "??")) (expression_tokens r depth blank us))
  expression_tokens (yield_nothing at none) depth g us = it g (items.key (codes "yield")) us
  expression_tokens (yield_value at d e) depth g us = it g (items.key (codes "yield")) (star_of d (expression_tokens e depth blank us))
  expression_tokens (assignment_expression at o t v) depth g us = expression_tokens t depth g (it blank (assign_token o) (expression_tokens v depth blank us))
  expression_tokens (conditional_expression at t x y) depth g us = expression_tokens t depth g (it blank (sign (codes "?")) (expression_tokens x depth blank (it blank (sign (codes ":")) (expression_tokens y depth blank us))))
  expression_tokens (arrow_function at true ps e z a b) depth g us = it g (items.key (codes "async")) (it blank (sign (codes "(")) (arguments_tokens ps depth (sign_of (codes ")") (it blank (sign (codes "=>")) (expression_tokens e depth blank us)))))
  expression_tokens (arrow_function at false ps e z a b) depth g us = it g (sign (codes "(")) (arguments_tokens ps depth (sign_of (codes ")") (it blank (sign (codes "=>")) (expression_tokens e depth blank us))))
  expression_tokens (arrow_block at true ps b n n') depth g us = it g (items.key (codes "async")) (it blank (sign (codes "(")) (arguments_tokens ps depth (sign_of (codes ")") (it blank (sign (codes "=>")) (block_tokens b depth blank us)))))
  expression_tokens (arrow_block at false ps b n n') depth g us = it g (sign (codes "(")) (arguments_tokens ps depth (sign_of (codes ")") (it blank (sign (codes "=>")) (block_tokens b depth blank us))))
  expression_tokens (array at at' es) depth g us = it g (sign (codes "[")) (slots_tokens es depth us)
  expression_tokens (object_literal at at' ps) depth g us = it g (sign (codes "{")) (properties_tokens ps depth us)
  expression_tokens (function_expression at i f) depth g us = function_word (is_generator f) (is_async f) g (function_name_tokens i (function_tokens f depth us))
  expression_tokens (class_expression at i c) depth g us = it g (items.key (codes "class")) (function_name_tokens i (class_tokens c depth us))
  expression_tokens (sequence_expression at x y es) depth g us = expression_tokens x depth g (sign_of (codes ",") (expression_tokens y depth blank (more_tokens es depth us)))

  pub element_tokens : {role : Role} {n : Node} → IsElement role n → ℕ → Gap → Items → Items
  element_tokens (one e) depth g us = expression_tokens e depth g us
  element_tokens (spread at e) depth g us = it g (sign (codes "...")) (expression_tokens e depth no_gap us)
  element_tokens (bound p) depth g us = defaulted_tokens p depth g us
  element_tokens (rest at p a) depth g us = it g (sign (codes "...")) (pattern_tokens p depth no_gap us)

  -- behind `[`
  pub slots_tokens : {role : Role} {ns : List Node} → AreSlots role ns → ℕ → Items → Items
  slots_tokens no_slots depth us = sign_of (codes "]") us
  slots_tokens (filled e es) depth us = element_tokens e depth no_gap (more_slots_tokens es depth false no_gap us)
  slots_tokens (hole a es) depth us = more_slots_tokens es depth true no_gap us

  -- behind an element, or behind a hole and this gap: behind a last hole stands one comma more
  pub more_slots_tokens : {role : Role} {ns : List Node} → AreSlots role ns → ℕ → Bool → Gap → Items → Items
  more_slots_tokens no_slots depth false g us = sign_of (codes "]") us
  more_slots_tokens no_slots depth true g us = it g (sign (codes ",")) (sign_of (codes "]") us)
  more_slots_tokens (filled e es) depth b g us = it g (sign (codes ",")) (element_tokens e depth blank (more_slots_tokens es depth false no_gap us))
  more_slots_tokens (hole a es) depth b g us = it g (sign (codes ",")) (more_slots_tokens es depth true blank us)

  pub property_name_tokens : {n : Node} → IsPropertyName n → ℕ → Gap → Items → Items
  property_name_tokens (key_name k) depth g us = it g (items.key (key_word k)) us
  property_name_tokens (string_name at raw t) depth g us = it g (items.string raw) us
  property_name_tokens (number_name at raw t) depth g us = it g (items.number raw) us
  property_name_tokens (big_int_name at raw t) depth g us = it g (items.big_int raw) us
  property_name_tokens (computed_name at e) depth g us = it g (sign (codes "[")) (expression_tokens e depth no_gap (sign_of (codes "]") us))

  pub property_tokens : {role : Role} {n : Node} → IsProperty role n → ℕ → Gap → Items → Items
  property_tokens (key_value at k v) depth g us = property_name_tokens k depth g (sign_of (codes ":") (expression_tokens v depth blank us))
  property_tokens (shorthand i) depth g us = it g (items.key (ident_word i)) us
  property_tokens (initialized at i v) depth g us = it g (items.key (ident_word i)) (it blank (sign (codes "=")) (expression_tokens v depth blank us))
  property_tokens (spread_property at e) depth g us = it g (sign (codes "...")) (expression_tokens e depth no_gap us)
  property_tokens (method_property at k f) depth g us = method_tokens (is_generator f) (is_async f) (λ h. property_name_tokens k depth h (function_tokens f depth us)) g
  property_tokens (getter_property at k a b) depth g us = it g (items.key (codes "get")) (property_name_tokens k depth blank (sign_of (codes "(") (sign_of (codes ")") (block_tokens b depth blank us))))
  property_tokens (setter_property at k a p b) depth g us = it g (items.key (codes "set")) (property_name_tokens k depth blank (sign_of (codes "(") (defaulted_tokens p depth no_gap (sign_of (codes ")") (block_tokens b depth blank us)))))
  property_tokens (renamed at k p) depth g us = property_name_tokens k depth g (sign_of (codes ":") (defaulted_tokens p depth blank us))
  property_tokens (named at at' i a v) depth g us = it g (items.key (ident_word i)) (initializer_tokens v depth us)
  property_tokens (rest_property at at' i a b) depth g us = it g (sign (codes "...")) (it no_gap (items.key (ident_word i)) us)

  -- behind `{`, with a blank within each brace
  pub properties_tokens : {role : Role} {ns : List Node} → AreProperties role ns → ℕ → Items → Items
  properties_tokens no_properties depth us = sign_of (codes "}") us
  properties_tokens (more_properties p ps) depth us = property_tokens p depth blank (more_properties_tokens ps depth us)

  pub more_properties_tokens : {role : Role} {ns : List Node} → AreProperties role ns → ℕ → Items → Items
  more_properties_tokens no_properties depth us = it blank (sign (codes "}")) us
  more_properties_tokens (more_properties p ps) depth us = sign_of (codes ",") (property_tokens p depth blank (more_properties_tokens ps depth us))

  pub pattern_tokens : {n : Node} → IsPattern n → ℕ → Gap → Items → Items
  pattern_tokens (name_pattern at i a) depth g us = it g (items.key (ident_word i)) us
  pattern_tokens (array_pattern at at' es a) depth g us = it g (sign (codes "[")) (slots_tokens es depth us)
  pattern_tokens (object_pattern at at' ps a) depth g us = it g (sign (codes "{")) (properties_tokens ps depth us)

  pub defaulted_tokens : {n : Node} → IsDefaulted n → ℕ → Gap → Items → Items
  defaulted_tokens (no_default p) depth g us = pattern_tokens p depth g us
  defaulted_tokens (with_default at p e) depth g us = pattern_tokens p depth g (it blank (sign (codes "=")) (expression_tokens e depth blank us))

  pub initializer_tokens : {n : Node} → IsInitializer n → ℕ → Items → Items
  initializer_tokens (no_initializer a) depth us = us
  initializer_tokens (initializer e) depth us = it blank (sign (codes "=")) (expression_tokens e depth blank us)

  pub arguments_tokens : {role : Role} {n : Node} → IsArguments role n → ℕ → Items → Items
  arguments_tokens (no_arguments at) depth us = us
  arguments_tokens (arguments at e es) depth us = element_tokens e depth no_gap (elements_tokens es depth us)

  pub elements_tokens : {role : Role} {es : List Node} → AreElements role es → ℕ → Items → Items
  elements_tokens no_elements depth us = us
  elements_tokens (more_elements e es) depth us = sign_of (codes ",") (element_tokens e depth blank (elements_tokens es depth us))

  -- behind the first part
  pub parts_tokens : {t f : Bool} {es ps : List Node} → AreParts t f es ps → ℕ → Items → Items
  parts_tokens (last_part p) depth us = us
  parts_tokens (more_parts p e ps) depth us = expression_tokens e depth no_gap (it no_gap (part_token false ps) (parts_tokens ps depth us))

  pub more_tokens : {es : List Node} → AreExpressions es → ℕ → Items → Items
  more_tokens no_expressions depth us = us
  more_tokens (more_expressions e es) depth us = sign_of (codes ",") (expression_tokens e depth blank (more_tokens es depth us))

  pub declarator_tokens : {n : Node} → IsDeclarator n → ℕ → Items → Items
  declarator_tokens (declarator at p e) depth us = pattern_tokens p depth blank (initializer_tokens e depth us)

  pub declarators_tokens : {ds : List Node} → AreDeclarators ds → ℕ → Items → Items
  declarators_tokens no_declarators depth us = us
  declarators_tokens (more_declarators d ds) depth us = sign_of (codes ",") (declarator_tokens d depth (declarators_tokens ds depth us))

  pub optional_tokens : {n : Node} → IsOptional n → ℕ → Items → Items
  optional_tokens (left_out a) depth us = us
  optional_tokens (given e) depth us = expression_tokens e depth blank us

  pub for_left_tokens : {n : Node} → IsForLeft n → ℕ → Items → Items
  for_left_tokens (for_binding at of_list at_declarator k p a) depth us = it no_gap (items.key (keyword k)) (pattern_tokens p depth blank us)
  for_left_tokens (for_target e z) depth us = expression_tokens e depth no_gap us

  pub for_init_tokens : {n : Node} → IsForInit n → ℕ → Items → Items
  for_init_tokens (no_init a) depth us = us
  for_init_tokens (init_declaration at of_list k d ds z) depth us = it no_gap (items.key (keyword k)) (declarator_tokens d depth (declarators_tokens ds depth us))
  for_init_tokens (init_expression e z) depth us = expression_tokens e depth no_gap us

  pub member_name_tokens : {private : Bool} {n : Node} → IsMemberName private n → ℕ → Gap → Items → Items
  member_name_tokens (property_member k) depth g us = property_name_tokens k depth g us
  member_name_tokens (private_member at w t) depth g us = it g (items.private_name (codes "#" ++ w)) us

  pub heritage_tokens : {n : Node} → IsHeritage n → ℕ → Items → Items
  heritage_tokens (no_heritage a) depth us = us
  heritage_tokens (heritage e) depth us = it blank (items.key (codes "extends")) (expression_tokens e depth blank us)

  pub statement_tokens : {ending : Ending} {s : Node} → IsStatement ending s → ℕ → Gap → Items → Items
  statement_tokens (empty at) d g us = it g (sign (codes ";")) us
  statement_tokens (debugger_word at) d g us = it g (items.key (codes "debugger")) (sign_of (codes ";") us)
  statement_tokens (throw at e) d g us = it g (items.key (codes "throw")) (expression_tokens e d blank (sign_of (codes ";") us))
  statement_tokens (return_value at e) d g us = it g (items.key (codes "return")) (expression_tokens e d blank (sign_of (codes ";") us))
  statement_tokens (return_nothing at a) d g us = it g (items.key (codes "return")) (sign_of (codes ";") us)
  statement_tokens (break_nothing at a) d g us = it g (items.key (codes "break")) (sign_of (codes ";") us)
  statement_tokens (continue_nothing at a) d g us = it g (items.key (codes "continue")) (sign_of (codes ";") us)
  statement_tokens (expression at e z) d g us = expression_tokens e d g (sign_of (codes ";") us)
  statement_tokens (declaration at at' k i is) d g us = it g (items.key (keyword k)) (declarator_tokens i d (declarators_tokens is d (sign_of (codes ";") us)))
  statement_tokens (break_label at i) d g us = it g (items.key (codes "break")) (it blank (items.key (ident_word i)) (sign_of (codes ";") us))
  statement_tokens (continue_label at i) d g us = it g (items.key (codes "continue")) (it blank (items.key (ident_word i)) (sign_of (codes ";") us))
  statement_tokens (block b) d g us = block_tokens b d g us
  statement_tokens (if_only at e b a) d g us = it g (items.key (codes "if")) (enclosed (expression_tokens e d) (statement_tokens b d blank us))
  statement_tokens (if_else at e b a) d g us = it g (items.key (codes "if")) (enclosed (expression_tokens e d) (statement_tokens b d blank (it (branch_gap (is_braced b) d) (items.key (codes "else")) (statement_tokens a d blank us))))
  statement_tokens (while_loop at e b) d g us = it g (items.key (codes "while")) (enclosed (expression_tokens e d) (statement_tokens b d blank us))
  statement_tokens (do_loop at e b) d g us = it g (items.key (codes "do")) (statement_tokens b d blank (it (branch_gap (is_braced b) d) (items.key (codes "while")) (enclosed (expression_tokens e d) (sign_of (codes ";") us))))
  statement_tokens (switch_statement at at' {cs = cs'} e cs) d g us = it g (items.key (codes "switch")) (enclosed (expression_tokens e d) (it blank (sign (codes "{")) (cases_tokens cs (suc d) (it (closing_gap cs' d) (sign (codes "}")) us))))
  statement_tokens (try_catch at b c a) d g us = it g (items.key (codes "try")) (block_tokens b d blank (catch_tokens c d us))
  statement_tokens (try_finally at b a f) d g us = it g (items.key (codes "try")) (block_tokens b d blank (it blank (items.key (codes "finally")) (block_tokens f d blank us)))
  statement_tokens (try_catch_finally at b c f) d g us = it g (items.key (codes "try")) (block_tokens b d blank (catch_tokens c d (it blank (items.key (codes "finally")) (block_tokens f d blank us))))
  statement_tokens (for_loop at i t u b) d g us = for_tokens false g (for_init_tokens i d (sign_of (codes ";") (optional_tokens t d (sign_of (codes ";") (optional_tokens u d (sign_of (codes ")") (statement_tokens b d blank us)))))))
  statement_tokens (for_in at l e b) d g us = for_tokens false g (for_left_tokens l d (it blank (items.key (codes "in")) (expression_tokens e d blank (sign_of (codes ")") (statement_tokens b d blank us)))))
  statement_tokens (for_of at w l e b) d g us = for_tokens w g (for_left_tokens l d (it blank (items.key (codes "of")) (expression_tokens e d blank (sign_of (codes ")") (statement_tokens b d blank us)))))
  statement_tokens (labeled at i b) d g us = it g (items.key (ident_word i)) (sign_of (codes ":") (statement_tokens b d blank us))
  statement_tokens (function_statement at i f) d g us = function_word (is_generator f) (is_async f) g (it blank (items.key (ident_word i)) (function_tokens f d us))
  statement_tokens (class_statement at i c) d g us = it g (items.key (codes "class")) (it blank (items.key (ident_word i)) (class_tokens c d us))

  pub class_tokens : {n : Node} → IsClass n → ℕ → Items → Items
  class_tokens (class_of at at' at'' {ms = ms'} h ms a a') d us = heritage_tokens h d (it blank (sign (codes "{")) (members_tokens ms (suc d) (it (closing_gap ms' d) (sign (codes "}")) us)))

  pub member_tokens : {n : Node} → IsMember n → ℕ → Gap → Items → Items
  member_tokens (empty_member at) d g us = it g (sign (codes ";")) us
  member_tokens (static_block at b) d g us = it g (items.key (codes "static")) (block_tokens b d blank us)
  member_tokens (method at s k f z) d g us = static_tokens s (method_tokens (is_generator f) (is_async f) (λ h. member_name_tokens k d h (function_tokens f d us))) g
  member_tokens (class_constructor at at' k z ps ws b) d g us = property_name_tokens k d g (sign_of (codes "(") (arguments_tokens ps d (sign_of (codes ")") (block_tokens b d blank us))))
  member_tokens (field at s k v a) d g us = static_tokens s (λ h. member_name_tokens k d h (initializer_tokens v d (sign_of (codes ";") us))) g
  member_tokens (accessor at at' at'' s b k ps ws body a a') d g us = static_tokens s (λ h. it h (items.key (accessor_text b)) (member_name_tokens k d blank (sign_of (codes "(") (arguments_tokens ps d (sign_of (codes ")") (block_tokens body d blank us)))))) g

  pub members_tokens : {ns : List Node} → AreMembers ns → ℕ → Items → Items
  members_tokens no_members d us = us
  members_tokens (more_members m ms) d us = member_tokens m d (line_at d) (members_tokens ms d us)

  pub function_tokens : {n : Node} → IsFunction n → ℕ → Items → Items
  function_tokens (function_of at at' x y ps w b a a') d us = sign_of (codes "(") (arguments_tokens ps d (sign_of (codes ")") (block_tokens b d blank us)))

  pub block_tokens : {b : Node} → IsBlock b → ℕ → Gap → Items → Items
  block_tokens (block_of at at' {ss = ss'} ss) d g us = it g (sign (codes "{")) (lined_tokens ss (suc d) (it (closing_gap ss' d) (sign (codes "}")) us))

  pub case_tokens : {c : Node} → IsCase c → ℕ → Gap → Items → Items
  case_tokens (case_of at at' e ss) d g us = it g (items.key (codes "case")) (expression_tokens e d blank (sign_of (codes ":") (lined_tokens ss (suc d) us)))
  case_tokens (default_of at at' a ss) d g us = it g (items.key (codes "default")) (sign_of (codes ":") (lined_tokens ss (suc d) us))

  pub catch_tokens : {c : Node} → IsCatch c → ℕ → Items → Items
  catch_tokens (catch_any at a b) d us = it blank (items.key (codes "catch")) (block_tokens b d blank us)
  catch_tokens (catch_pattern at p b) d us = it blank (items.key (codes "catch")) (it blank (sign (codes "(")) (pattern_tokens p d no_gap (sign_of (codes ")") (block_tokens b d blank us))))

  -- each on a line of its own
  pub cases_tokens : {cs : List Node} → AreCases cs → ℕ → Items → Items
  cases_tokens no_cases d us = us
  cases_tokens (more_cases c cs) d us = case_tokens c d (line_at d) (cases_tokens cs d us)

  pub lined_tokens : {ss : List Node} → AreStatements ss → ℕ → Items → Items
  lined_tokens no_statements d us = us
  lined_tokens (more_statements s ss) d us = statement_tokens s d (line_at d) (lined_tokens ss d us)

abbrev pub test_tokens : {level : Level} {e : Node} → IsExpression level e → ℕ → Items → Items
test_tokens e depth us = enclosed (expression_tokens e depth) us
