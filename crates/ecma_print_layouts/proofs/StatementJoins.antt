-- The tokens of statements are good: each joins the next.
use Rattle.ecma_print_tokens.specs.Items as items
use Rattle.ecma_shapes.specs.Shapes as shapes
use Rattle.std.proofs.Common.{◌≡◌, ℕ, suc, Bool, true, false, List, codes, refl, ◌++◌}
use Rattle.ecma_lex.specs.Punctuators.{punctuators}
use Rattle.ecma_tree.specs.declared.node.Node.{Node}
use Rattle.ecma_print.specs.Statements.{keyword}
use Rattle.ecma_print_tokens.specs.Items.{Tok, sign, Gap, no_gap, Items, it}
use Rattle.ecma_print_tokens.specs.Good.{IsGap}
use Rattle.ecma_print_tokens.specs.Joins.{joins_next, Joined}
use Rattle.ecma_shapes.specs.Shapes.{IsInitializer, Level, IsExpression, Ending, IsStatement, IsBlock, IsCase, AreCases, IsCatch, AreStatements, IsOptional, IsForLeft, IsForInit, IsPattern, IsFunction, IsHeritage, IsClass, IsMemberName, IsMember, AreMembers, IsElement, IsArguments, AreElements, AreExpressions, IsDeclarator, AreDeclarators, AreSlots, AreProperties, IsPropertyName, IsProperty, Role, IsDefaulted, AreParts}
use Rattle.ecma_shapes.specs.LiteralTexts.{regex_text, part_text}
use Rattle.ecma_shapes.proofs.Tokens.{expression_tokens, ident_word, declarators_tokens, is_braced, test_tokens, statement_tokens, block_tokens, case_tokens, cases_tokens, catch_tokens, lined_tokens, optional_tokens, for_left_tokens, initializer_tokens, for_init_tokens, pattern_tokens, arguments_tokens, is_generator, is_async, function_tokens, heritage_tokens, class_tokens, member_tokens, members_tokens, key_word, member_name_tokens, own_sign, element_tokens, elements_tokens, more_tokens, declarator_tokens, slots_tokens, more_slots_tokens, chain_token, properties_tokens, more_properties_tokens, property_name_tokens, property_tokens, defaulted_tokens, part_raw, part_token, parts_tokens}
use Rattle.ecma_shapes.proofs.Signs.{line_at, blank, sign_of, closing_gap, branch_gap, method_tokens, accessor_text, assign_token, update_token, binary_token, unary_gap, point_of, question_of}
use Rattle.ecma_print_layouts.proofs.Softs.{closing, semicolon, colon, Soft, is_object, parted, key_soft, string_soft, big_int_soft, number_soft, closing_soft, brace_soft, bracket_soft, update_soft, point_behind, softer, constructor_soft, opening, comma, opening_bracket, closing_bracket, regex_soft, part, part_joins, chain_point, chain_bracket, chain_opening}
use Rattle.ecma_print_layouts.proofs.Beginnings.{pattern_blank_joins, blank_joins, opening_joins, dots_join, element_opening_joins, update_joins, bracket_joins, element_blank_joins, property_parted, properties_open, properties_soft, slots_open, slots_parted, slots_soft, unary_joins, initializer_soft, pattern_dots_joins, defaulted_blank_joins}
use Rattle.ecma_print_layouts.proofs.Joins.{Words, BehindName, no_gap_is, blank_is, unary_gap_is, ident_whole, key_whole, chain_fine, point_joins, chain_soft, part_fine, point_fine, mark_joins, question_bracket, question_opening, colon_behind_name, more_soft, elements_soft, update_fine, update_behind, assign_fine, unary_fine, binary_fine, right_soft, value_joined, declarators_soft}
use Rattle.ecma_print_layouts.proofs.JoinParts.{blank_wide, line_is, Apart, block_apart, statement_apart, lined_apart, cases_apart, cases_empty, catch_apart, lined_empty, branch_is, branch_apart, pattern_opening, name_apart, method_apart, value_behind_name, params_behind_name, function_behind_name, members_apart, members_empty, class_apart, function_opens, declarator_blank_joins, ended, keyword_whole, optional_opens, braces_joined, function_word_joined, method_joined, accessor_joined, static_joined, finally_joined, for_joined, test_joined}

module _ (words : Words) where
  mutual
    unfolding punctuators

    pub expression_joined : {level : Level} {e : Node} (is : IsExpression level e) (depth : ℕ) (g : Gap) → IsGap g → (us : Items) → Soft (is_object level) us → Joined us → Joined (expression_tokens is depth g us)
    expression_joined (shapes.name i) depth g h us z j = (h, ident_whole i, key_soft (ident_word i) z, j)
    expression_joined (shapes.string at raw t) depth g h us z j = (h, t, string_soft raw z, j)
    expression_joined (shapes.number at raw t) depth g h us z j = (h, t, number_soft raw z, j)
    expression_joined (shapes.this_word at) depth g h us z j = (h, words.this_whole, key_soft (codes "this") z, j)
    expression_joined (shapes.big_int at raw t) depth g h us z j = (h, t, big_int_soft raw z, j)
    expression_joined (shapes.regex at b f t) depth g h us z j = (h, t.whole, regex_soft (regex_text b f) z, j)
    expression_joined (shapes.template at a b ps) depth g h us z j = parts_joined ps depth g h us j
    expression_joined (shapes.null_word at) depth g h us z j = (h, words.null_whole, key_soft (codes "null") z, j)
    expression_joined (shapes.true_word at) depth g h us z j = (h, words.true_whole, key_soft (codes "true") z, j)
    expression_joined (shapes.false_word at) depth g h us z j = (h, words.false_whole, key_soft (codes "false") z, j)
    expression_joined (shapes.member at i o k) depth g h us z j =
        expression_joined o depth g h (sign_of (codes ".") (it no_gap (chain_token k) us)) (point_behind i) (no_gap_is, refl, point_joins k us, (no_gap_is, chain_fine k, chain_soft k z, j))
    expression_joined (shapes.call at c es none) depth g h us z j = expression_joined c depth g h (sign_of (codes "(") (arguments_tokens es depth (sign_of (codes ")") us))) opening (arguments_joined es depth us (no_gap_is, refl, closing_soft z, j))
    expression_joined (shapes.parenthesized at e) depth g h us z j = (h, refl, opening_joins e depth (sign_of (codes ")") us), expression_joined e depth no_gap no_gap_is (sign_of (codes ")") us) closing (no_gap_is, refl, closing_soft z, j))
    expression_joined (shapes.looser {level = l} e) depth g h us z j = expression_joined e depth g h us (softer l z) j
    expression_joined (shapes.element at at' {level = l} i o e) depth g h us z j =
        expression_joined o depth g h (sign_of (codes "[") (expression_tokens e depth no_gap (sign_of (codes "]") us))) opening_bracket
        (no_gap_is, refl, bracket_joins e depth (sign_of (codes "]") us), expression_joined e depth no_gap no_gap_is (sign_of (codes "]") us) closing_bracket (no_gap_is, refl, bracket_soft z, j))
    expression_joined (shapes.super_member at at' k) depth g h us z j = (h, words.super_whole, refl, (no_gap_is, refl, refl, (no_gap_is, key_whole k, key_soft (key_word k) z, j)))
    expression_joined (shapes.super_element at at' at'' e) depth g h us z j =
        (h, words.super_whole, refl, (no_gap_is, refl, bracket_joins e depth (sign_of (codes "]") us), expression_joined e depth no_gap no_gap_is (sign_of (codes "]") us) closing_bracket (no_gap_is, refl, bracket_soft z, j)))
    expression_joined (shapes.super_call at at' es none) depth g h us z j = (h, words.super_whole, refl, arguments_joined es depth us (no_gap_is, refl, closing_soft z, j))
    expression_joined (shapes.new_expression at i e es none) depth g h us z j =
        let args = sign_of (codes "(") (arguments_tokens es depth (sign_of (codes ")") us)) in
        (h, words.new_whole, blank_joins (items.key (codes "new")) e depth args, expression_joined e depth blank blank_is args opening (arguments_joined es depth us (no_gap_is, refl, closing_soft z, j)))
    expression_joined (shapes.new_alone at i e none none') depth g h us z j = (h, words.new_whole, blank_joins (items.key (codes "new")) e depth us, expression_joined e depth blank blank_is us (constructor_soft i z) j)
    expression_joined (shapes.new_target at) depth g h us z j = (h, words.new_whole, refl, (no_gap_is, refl, refl, (no_gap_is, words.target_whole, key_soft (codes "target") z, j)))
    expression_joined (shapes.import_meta at) depth g h us z j = (h, words.import_whole, refl, (no_gap_is, refl, refl, (no_gap_is, words.meta_whole, key_soft (codes "meta") z, j)))
    expression_joined (shapes.import_call at at' es none) depth g h us z j = (h, words.import_whole, refl, arguments_joined es depth us (no_gap_is, refl, closing_soft z, j))
    expression_joined (shapes.tagged_template at a b c i o none ps) depth g h us z j = expression_joined o depth g h (it no_gap (part_token true ps) (parts_tokens ps depth us)) part (parts_joined ps depth no_gap no_gap_is us j)
    expression_joined (shapes.chain_member at a {asks = b} i o k) depth g h us z j =
        expression_joined o depth g h (sign_of (point_of b) (it no_gap (chain_token k) us)) (chain_point i) (no_gap_is, point_fine b, mark_joins b k us, (no_gap_is, chain_fine k, chain_soft k z, j))
    expression_joined (shapes.chain_element at a c {asks = b} i o e) depth g h us z j =
        let behind = expression_tokens e depth no_gap (sign_of (codes "]") us) in
        expression_joined o depth g h (question_of b (sign_of (codes "[") behind)) (chain_bracket i behind)
        (question_bracket b behind (no_gap_is, refl, bracket_joins e depth (sign_of (codes "]") us), expression_joined e depth no_gap no_gap_is (sign_of (codes "]") us) closing_bracket (no_gap_is, refl, bracket_soft z, j)))
    expression_joined (shapes.chain_call at a {asks = b} i o es none) depth g h us z j =
        expression_joined o depth g h (question_of b (sign_of (codes "(") (arguments_tokens es depth (sign_of (codes ")") us)))) (chain_opening i (arguments_tokens es depth (sign_of (codes ")") us))) (question_opening b (arguments_tokens es depth (sign_of (codes ")") us)) (arguments_joined es depth us (no_gap_is, refl, closing_soft z, j)))
    expression_joined (shapes.prefix_update at o e) depth g h us z j = (h, update_fine words o, update_joins o e depth us, expression_joined e depth no_gap no_gap_is us z j)
    expression_joined (shapes.postfix_update at o e) depth g h us z j = expression_joined e depth g h (it no_gap (update_token o) us) (update_behind words o) (no_gap_is, update_fine words o, update_soft o z, j)
    expression_joined (shapes.await_expression at e) depth g h us z j = (h, words.await_whole, blank_joins (items.key (codes "await")) e depth us, expression_joined e depth blank blank_is us z j)
    expression_joined (shapes.unary_expression at o e) depth g h us z j = (h, unary_fine words o, unary_joins o e depth us, expression_joined e depth (unary_gap o (own_sign e)) (unary_gap_is o (own_sign e)) us z j)
    expression_joined (shapes.binary_expression at {operator = o} i x y) depth g h us z j =
        expression_joined x depth g h (it blank (binary_token o) (expression_tokens y depth blank us)) parted (blank_is, binary_fine words o, blank_joins (binary_token o) y depth us, expression_joined y depth blank blank_is us (right_soft words i z) j)
    expression_joined (shapes.private_in at at' w t r) depth g h us z j = (h, t, refl, (blank_is, words.in_whole, blank_joins (items.key (codes "in")) r depth us, expression_joined r depth blank blank_is us z j))
    expression_joined (shapes.exponentiation at x y) depth g h us z j =
        expression_joined x depth g h (it blank (sign (codes "**")) (expression_tokens y depth blank us)) parted (blank_is, refl, blank_joins (sign (codes "**")) y depth us, expression_joined y depth blank blank_is us z j)
    expression_joined (shapes.both at x y) depth g h us z j =
        expression_joined x depth g h (it blank (sign (codes "&&")) (expression_tokens y depth blank us)) parted (blank_is, refl, blank_joins (sign (codes "&&")) y depth us, expression_joined y depth blank blank_is us z j)
    expression_joined (shapes.either at x y) depth g h us z j =
        expression_joined x depth g h (it blank (sign (codes "||")) (expression_tokens y depth blank us)) parted (blank_is, refl, blank_joins (sign (codes "||")) y depth us, expression_joined y depth blank blank_is us z j)
    expression_joined (shapes.coalesced at i x y) depth g h us z j =
        expression_joined x depth g h (it blank (sign (codes "??")) (expression_tokens y depth blank us)) parted (blank_is, refl, blank_joins (sign (codes "??")) y depth us, expression_joined y depth blank blank_is us z j)
    expression_joined (shapes.yield_nothing at none) depth g h us z j = (h, words.yield_whole, key_soft (codes "yield") z, j)
    expression_joined (shapes.yield_value at false e) depth g h us z j = (h, words.yield_whole, blank_joins (items.key (codes "yield")) e depth us, expression_joined e depth blank blank_is us z j)
    expression_joined (shapes.yield_value at true e) depth g h us z j = (h, words.yield_whole, refl, (no_gap_is, refl, blank_joins (sign (codes "*")) e depth us, expression_joined e depth blank blank_is us z j))
    expression_joined (shapes.assignment_expression at o t v) depth g h us z j =
        expression_joined t depth g h (it blank (assign_token o) (expression_tokens v depth blank us)) parted (blank_is, assign_fine words o, blank_joins (assign_token o) v depth us, expression_joined v depth blank blank_is us z j)
    expression_joined (shapes.conditional_expression at t x y) depth g h us z j =
        let seconds = it blank (sign (codes ":")) (expression_tokens y depth blank us) in
        expression_joined t depth g h (it blank (sign (codes "?")) (expression_tokens x depth blank seconds)) parted
        (blank_is, refl, blank_joins (sign (codes "?")) x depth seconds, expression_joined x depth blank blank_is seconds parted (blank_is, refl, blank_joins (sign (codes ":")) y depth us, expression_joined y depth blank blank_is us z j))
    expression_joined (shapes.arrow_function at true ps e q a b) depth g h us z j =
        let arrow = it blank (sign (codes "=>")) (expression_tokens e depth blank us) in
        let k = arguments_joined ps depth arrow (no_gap_is, refl, refl, (blank_is, refl, blank_joins (sign (codes "=>")) e depth us, expression_joined e depth blank blank_is us z j)) in
        (h, words.async_whole, refl, (blank_is, refl, k.2, k.3))
    expression_joined (shapes.arrow_function at false ps e q a b) depth g h us z j =
        let arrow = it blank (sign (codes "=>")) (expression_tokens e depth blank us) in
        let k = arguments_joined ps depth arrow (no_gap_is, refl, refl, (blank_is, refl, blank_joins (sign (codes "=>")) e depth us, expression_joined e depth blank blank_is us z j)) in
        (h, refl, k.2, k.3)
    expression_joined (shapes.arrow_block at true ps b x y) depth g h us z j =
        let arrow = it blank (sign (codes "=>")) (block_tokens b depth blank us) in
        let k = arguments_joined ps depth arrow (no_gap_is, refl, refl, (blank_is, refl, block_apart b depth blank blank_wide us (sign (codes "=>")), block_joined b depth blank blank_is us (brace_soft z) j)) in
        (h, words.async_whole, refl, (blank_is, refl, k.2, k.3))
    expression_joined (shapes.arrow_block at false ps b x y) depth g h us z j =
        let arrow = it blank (sign (codes "=>")) (block_tokens b depth blank us) in
        let k = arguments_joined ps depth arrow (no_gap_is, refl, refl, (blank_is, refl, block_apart b depth blank blank_wide us (sign (codes "=>")), block_joined b depth blank blank_is us (brace_soft z) j)) in
        (h, refl, k.2, k.3)
    expression_joined (shapes.array at at' es) depth g h us z j = (h, refl, slots_open es depth us, slots_joined es depth us (no_gap_is, refl, bracket_soft z, j))
    expression_joined (shapes.object_literal at at' ps) depth g h us z j = (h, refl, properties_open ps depth us, properties_joined ps depth us (brace_soft z) j)
    expression_joined (shapes.function_expression at (shapes.unnamed n) f) depth g h us z j =
        function_word_joined words (is_generator f) (is_async f) g h (function_tokens f depth us) (function_opens f depth us (items.key (codes "function")) refl) (function_opens f depth us (sign (codes "*")) refl) (function_joined f depth us (brace_soft z) j)
    expression_joined (shapes.function_expression at (shapes.function_name i) f) depth g h us z j =
        let fs = function_tokens f depth us in
        function_word_joined words (is_generator f) (is_async f) g h (it blank (items.key (ident_word i)) fs) refl refl (blank_is, ident_whole i, function_opens f depth us (items.key (ident_word i)) refl, function_joined f depth us (brace_soft z) j)
    expression_joined (shapes.class_expression at (shapes.unnamed n) c) depth g h us z j = (h, words.class_whole, class_apart c depth us (items.key (codes "class")), class_joined c depth us (brace_soft z) j)
    expression_joined (shapes.class_expression at (shapes.function_name i) c) depth g h us z j =
        (h, words.class_whole, refl, (blank_is, ident_whole i, class_apart c depth us (items.key (ident_word i)), class_joined c depth us (brace_soft z) j))
    expression_joined (shapes.sequence_expression at x y es) depth g h us z j =
        let rest = more_tokens es depth us in
        expression_joined x depth g h (sign_of (codes ",") (expression_tokens y depth blank rest)) comma (no_gap_is, refl, blank_joins (sign (codes ",")) y depth rest, expression_joined y depth blank blank_is rest (more_soft words es depth z) (more_joined es depth us z j))

    parts_joined : {t f : Bool} {es ps : List Node} (is : AreParts t f es ps) (depth : ℕ) (g : Gap) → IsGap g → (us : Items) → Joined us → Joined (it g (part_token f is) (parts_tokens is depth us))
    parts_joined {f = f} (shapes.last_part p) depth g h us j = (h, part_fine p, part_joins f true (part_text f true (part_raw p)) us, j)
    parts_joined {f = f} (shapes.more_parts p e ps) depth g h us j =
        let behind = it no_gap (part_token false ps) (parts_tokens ps depth us) in
        (h, part_fine p, part_joins f false (part_text f false (part_raw p)) (expression_tokens e depth no_gap behind), expression_joined e depth no_gap no_gap_is behind part (parts_joined ps depth no_gap no_gap_is us j))

    pub arguments_joined : {role : Role} {n : Node} (is : IsArguments role n) (depth : ℕ) (us : Items) → Joined (sign_of (codes ")") us) → Joined (sign_of (codes "(") (arguments_tokens is depth (sign_of (codes ")") us)))
    arguments_joined (shapes.no_arguments at) depth us j = (no_gap_is, refl, refl, j)
    arguments_joined (shapes.arguments at e es) depth us j =
        (no_gap_is, refl, element_opening_joins e depth (elements_tokens es depth (sign_of (codes ")") us)), element_joined e depth no_gap no_gap_is (elements_tokens es depth (sign_of (codes ")") us)) (elements_soft words es depth closing) (elements_joined es depth us j))

    element_joined : {role : Role} {n : Node} (is : IsElement role n) (depth : ℕ) (g : Gap) → IsGap g → (us : Items) → Soft false us → Joined us → Joined (element_tokens is depth g us)
    element_joined (shapes.one e) depth g h us z j = expression_joined e depth g h us z j
    element_joined (shapes.bound p) depth g h us z j = defaulted_joined p depth g h us z j
    element_joined (shapes.rest at p a) depth g h us z j = (h, refl, pattern_dots_joins p depth us, pattern_joined p depth no_gap no_gap_is us z j)
    element_joined (shapes.spread at e) depth g h us z j = (h, refl, dots_join e depth us, expression_joined e depth no_gap no_gap_is us z j)

    slots_joined : {role : Role} {ns : List Node} (is : AreSlots role ns) (depth : ℕ) (us : Items) → Joined (sign_of (codes "]") us) → Joined (slots_tokens is depth us)
    slots_joined shapes.no_slots depth us j = j
    slots_joined (shapes.filled e es) depth us j = element_joined e depth no_gap no_gap_is (more_slots_tokens es depth false no_gap us) (slots_soft es depth us) (more_slots_joined es depth false no_gap no_gap_is us j)
    slots_joined (shapes.hole a es) depth us j = more_slots_joined es depth true no_gap no_gap_is us j

    more_slots_joined : {role : Role} {ns : List Node} (is : AreSlots role ns) (depth : ℕ) (b : Bool) (g : Gap) → IsGap g → (us : Items) → Joined (sign_of (codes "]") us) → Joined (more_slots_tokens is depth b g us)
    more_slots_joined shapes.no_slots depth false g h us j = j
    more_slots_joined shapes.no_slots depth true g h us j = (h, refl, refl, j)
    more_slots_joined (shapes.filled e es) depth b g h us j =
        let rest = more_slots_tokens es depth false no_gap us in
        (h, refl, element_blank_joins (sign (codes ",")) e depth rest, element_joined e depth blank blank_is rest (slots_soft es depth us) (more_slots_joined es depth false no_gap no_gap_is us j))
    more_slots_joined (shapes.hole a es) depth b g h us j = (h, refl, slots_parted es depth us, more_slots_joined es depth true blank blank_is us j)

    pub property_name_joined : {n : Node} (is : IsPropertyName n) (depth : ℕ) (g : Gap) → IsGap g → (us : Items) → BehindName us → Joined us → Joined (property_name_tokens is depth g us)
    property_name_joined (shapes.key_name k) depth g h us b j = (h, key_whole k, b.word (key_word k), j)
    property_name_joined (shapes.string_name at raw t) depth g h us b j = (h, t, b.string raw, j)
    property_name_joined (shapes.number_name at raw t) depth g h us b j = (h, t, b.number raw, j)
    property_name_joined (shapes.big_int_name at raw t) depth g h us b j = (h, t, b.big_int raw, j)
    property_name_joined (shapes.computed_name at e) depth g h us b j =
        let end = sign_of (codes "]") us in
        (h, refl, bracket_joins e depth end, expression_joined e depth no_gap no_gap_is end closing_bracket (no_gap_is, refl, b.bracket, j))

    property_joined : {role : Role} {n : Node} (is : IsProperty role n) (depth : ℕ) (g : Gap) → IsGap g → (us : Items) → Soft false us → Joined us → Joined (property_tokens is depth g us)
    property_joined (shapes.key_value at k v) depth g h us z j = property_name_joined k depth g h (sign_of (codes ":") (expression_tokens v depth blank us)) (colon_behind_name _) (no_gap_is, refl, blank_joins (sign (codes ":")) v depth us, expression_joined v depth blank blank_is us z j)
    property_joined (shapes.shorthand i) depth g h us z j = (h, ident_whole i, key_soft (ident_word i) z, j)
    property_joined (shapes.initialized at i v) depth g h us z j = (h, ident_whole i, refl, (blank_is, refl, blank_joins (sign (codes "=")) v depth us, expression_joined v depth blank blank_is us z j))
    property_joined (shapes.method_property at k f) depth g h us z j =
        let fs = function_tokens f depth us in
        method_joined words (is_generator f) (is_async f) (shapes.property_member k) depth fs (λ g' h'. property_name_joined k depth g' h' fs (function_behind_name f depth us) (function_joined f depth us (brace_soft z) j)) g h
    property_joined (shapes.getter_property at k n b) depth g h us z j =
        let bs = block_tokens b depth blank us in
        let fs = sign_of (codes "(") (sign_of (codes ")") bs) in
        let rest : Joined fs = (no_gap_is, refl, refl, (no_gap_is, refl, block_apart b depth blank blank_wide us (sign (codes ")")), block_joined b depth blank blank_is us (brace_soft z) j)) in
        accessor_joined words false (shapes.property_member k) depth fs (λ g' h'. property_name_joined k depth g' h' fs (params_behind_name _) rest) g h
    property_joined (shapes.setter_property at k n p b) depth g h us z j =
        let bs = block_tokens b depth blank us in
        let end = sign_of (codes ")") bs in
        let fs = sign_of (codes "(") (defaulted_tokens p depth no_gap end) in
        let rest : Joined fs = (no_gap_is, refl, element_opening_joins (shapes.bound p) depth end, defaulted_joined p depth no_gap no_gap_is end closing (no_gap_is, refl, block_apart b depth blank blank_wide us (sign (codes ")")), block_joined b depth blank blank_is us (brace_soft z) j)) in
        accessor_joined words true (shapes.property_member k) depth fs (λ g' h'. property_name_joined k depth g' h' fs (params_behind_name _) rest) g h
    property_joined (shapes.renamed at k p) depth g h us z j =
        property_name_joined k depth g h (sign_of (codes ":") (defaulted_tokens p depth blank us)) (colon_behind_name _) (no_gap_is, refl, defaulted_blank_joins (sign (codes ":")) p depth us, defaulted_joined p depth blank blank_is us z j)
    property_joined (shapes.named at at' i a v) depth g h us z j = (h, ident_whole i, key_soft (ident_word i) (initializer_soft v depth z), initializer_joined v depth us z j)
    property_joined (shapes.rest_property at at' i a b) depth g h us z j = (h, refl, refl, (no_gap_is, ident_whole i, key_soft (ident_word i) z, j))
    property_joined (shapes.spread_property at e) depth g h us z j = (h, refl, dots_join e depth us, expression_joined e depth no_gap no_gap_is us z j)

    properties_joined : {role : Role} {ns : List Node} (is : AreProperties role ns) (depth : ℕ) (us : Items) → joins_next (sign (codes "}")) us ≡ true → Joined us → Joined (properties_tokens is depth us)
    properties_joined shapes.no_properties depth us z j = (no_gap_is, refl, z, j)
    properties_joined (shapes.more_properties p ps) depth us z j = property_joined p depth blank blank_is (more_properties_tokens ps depth us) (properties_soft ps depth us) (more_properties_joined ps depth us z j)

    more_properties_joined : {role : Role} {ns : List Node} (is : AreProperties role ns) (depth : ℕ) (us : Items) → joins_next (sign (codes "}")) us ≡ true → Joined us → Joined (more_properties_tokens is depth us)
    more_properties_joined shapes.no_properties depth us z j = (blank_is, refl, z, j)
    more_properties_joined (shapes.more_properties p ps) depth us z j =
        let rest = more_properties_tokens ps depth us in
        (no_gap_is, refl, property_parted (sign (codes ",")) p depth rest, property_joined p depth blank blank_is rest (properties_soft ps depth us) (more_properties_joined ps depth us z j))

    pub pattern_joined : {n : Node} (is : IsPattern n) (depth : ℕ) (g : Gap) → IsGap g → (us : Items) → Soft false us → Joined us → Joined (pattern_tokens is depth g us)
    pattern_joined (shapes.name_pattern at i a) depth g h us z j = (h, ident_whole i, key_soft (ident_word i) z, j)
    pattern_joined (shapes.array_pattern at at' es a) depth g h us z j = (h, refl, slots_open es depth us, slots_joined es depth us (no_gap_is, refl, bracket_soft z, j))
    pattern_joined (shapes.object_pattern at at' ps a) depth g h us z j = (h, refl, properties_open ps depth us, properties_joined ps depth us (brace_soft z) j)

    defaulted_joined : {n : Node} (is : IsDefaulted n) (depth : ℕ) (g : Gap) → IsGap g → (us : Items) → Soft false us → Joined us → Joined (defaulted_tokens is depth g us)
    defaulted_joined (shapes.no_default p) depth g h us z j = pattern_joined p depth g h us z j
    defaulted_joined (shapes.with_default at p e) depth g h us z j = pattern_joined p depth g h (it blank (sign (codes "=")) (expression_tokens e depth blank us)) parted (value_joined words e depth us (expression_joined e depth blank blank_is us z j))

    pub initializer_joined : {n : Node} (is : IsInitializer n) (depth : ℕ) (us : Items) → Soft false us → Joined us → Joined (initializer_tokens is depth us)
    initializer_joined (shapes.no_initializer a) depth us z j = j
    initializer_joined (shapes.initializer e) depth us z j = value_joined words e depth us (expression_joined e depth blank blank_is us z j)

    elements_joined : {role : Role} {es : List Node} (is : AreElements role es) (depth : ℕ) (us : Items) → Joined (sign_of (codes ")") us) → Joined (elements_tokens is depth (sign_of (codes ")") us))
    elements_joined shapes.no_elements depth us j = j
    elements_joined (shapes.more_elements e es) depth us j =
        (no_gap_is, refl, element_blank_joins (sign (codes ",")) e depth (elements_tokens es depth (sign_of (codes ")") us)), element_joined e depth blank blank_is (elements_tokens es depth (sign_of (codes ")") us)) (elements_soft words es depth closing) (elements_joined es depth us j))

    more_joined : {es : List Node} (is : AreExpressions es) (depth : ℕ) (us : Items) → Soft false us → Joined us → Joined (more_tokens is depth us)
    more_joined shapes.no_expressions depth us z j = j
    more_joined (shapes.more_expressions e es) depth us z j = (no_gap_is, refl, blank_joins (sign (codes ",")) e depth (more_tokens es depth us), expression_joined e depth blank blank_is (more_tokens es depth us) (more_soft words es depth z) (more_joined es depth us z j))

    declarator_joined : {n : Node} (is : IsDeclarator n) (depth : ℕ) (us : Items) → ((object : Bool) → Soft object us) → Joined us → Joined (declarator_tokens is depth us)
    declarator_joined (shapes.declarator at p e) depth us z j = pattern_joined p depth blank blank_is (initializer_tokens e depth us) (initializer_soft e depth (z false)) (initializer_joined e depth us (z false) j)

    declarators_joined : {ds : List Node} (is : AreDeclarators ds) (depth : ℕ) (us : Items) → Joined (sign_of (codes ";") us) → Joined (declarators_tokens is depth (sign_of (codes ";") us))
    declarators_joined shapes.no_declarators depth us j = j
    declarators_joined (shapes.more_declarators d ds) depth us j =
        let rest = declarators_tokens ds depth (sign_of (codes ";") us) in
        (no_gap_is, refl, declarator_blank_joins (sign (codes ",")) d depth rest, declarator_joined d depth rest (λ n. declarators_soft words ds depth n us) (declarators_joined ds depth us j))

    optional_joined : {n : Node} (is : IsOptional n) (depth : ℕ) (us : Items) → ((object : Bool) → Soft object us) → Joined us → Joined (optional_tokens is depth us)
    optional_joined (shapes.left_out a) depth us z j = j
    optional_joined (shapes.given {level = l} e) depth us z j = expression_joined e depth blank blank_is us (z (is_object l)) j

    for_init_joined : {n : Node} (is : IsForInit n) (depth : ℕ) (us : Items) → Joined (sign_of (codes ";") us) → Joined (it blank (sign (codes "(")) (for_init_tokens is depth (sign_of (codes ";") us)))
    for_init_joined (shapes.no_init a) depth us j = (blank_is, refl, refl, j)
    for_init_joined (shapes.init_declaration at of_list k d ds z) depth us j =
        let more = declarators_tokens ds depth (sign_of (codes ";") us) in
        (blank_is, refl, refl, (no_gap_is, keyword_whole words k, declarator_blank_joins (items.key (keyword k)) d depth more, declarator_joined d depth more (λ o. declarators_soft words ds depth o us) (declarators_joined ds depth us j)))
    for_init_joined (shapes.init_expression e z) depth us j = (blank_is, refl, opening_joins e depth (sign_of (codes ";") us), expression_joined e depth no_gap no_gap_is (sign_of (codes ";") us) semicolon j)

    for_left_joined : {n : Node} (is : IsForLeft n) (depth : ℕ) (t : Tok) (us : Items) → Joined (it blank t us) → Joined (it blank (sign (codes "(")) (for_left_tokens is depth (it blank t us)))
    for_left_joined (shapes.for_binding at of_list at_declarator k p a) depth t us j =
        (blank_is, refl, refl, (no_gap_is, keyword_whole words k, pattern_blank_joins (items.key (keyword k)) p depth (it blank t us), pattern_joined p depth blank blank_is (it blank t us) parted j))
    for_left_joined (shapes.for_target e z) depth t us j = (blank_is, refl, opening_joins e depth (it blank t us), expression_joined e depth no_gap no_gap_is (it blank t us) parted j)

    heritage_joined : {n : Node} (is : IsHeritage n) (depth : ℕ) (t : Tok) (us : Items) → Joined (it blank t us) → Joined (heritage_tokens is depth (it blank t us))
    heritage_joined (shapes.no_heritage a) depth t us j = j
    heritage_joined (shapes.heritage e) depth t us j = (blank_is, words.extends_whole, blank_joins (items.key (codes "extends")) e depth (it blank t us), expression_joined e depth blank blank_is (it blank t us) parted j)

    member_name_joined : {private : Bool} {n : Node} (is : IsMemberName private n) (depth : ℕ) (g : Gap) → IsGap g → (us : Items) → BehindName us → Joined us → Joined (member_name_tokens is depth g us)
    member_name_joined (shapes.property_member k) depth g h us b j = property_name_joined k depth g h us b j
    member_name_joined (shapes.private_member at w t) depth g h us b j = (h, t, b.private (codes "#" ++ w), j)

    pub statement_joined : {ending : Ending} {n : Node} (is : IsStatement ending n) (d : ℕ) (g : Gap) → IsGap g → (us : Items) → Apart us → Joined us → Joined (statement_tokens is d g us)
    statement_joined (shapes.empty at) d g h us a j = (h, refl, a (sign (codes ";")), j)
    statement_joined (shapes.debugger_word at) d g h us a j = (h, words.debugger_whole, refl, ended words us a j)
    statement_joined (shapes.throw at e) d g h us a j =
        (h, words.throw_whole, blank_joins (items.key (codes "throw")) e d (sign_of (codes ";") us), expression_joined e d blank blank_is (sign_of (codes ";") us) semicolon (ended words us a j))
    statement_joined (shapes.return_value at e) d g h us a j =
        (h, words.return_whole, blank_joins (items.key (codes "return")) e d (sign_of (codes ";") us), expression_joined e d blank blank_is (sign_of (codes ";") us) semicolon (ended words us a j))
    statement_joined (shapes.return_nothing at n) d g h us a j = (h, words.return_whole, refl, ended words us a j)
    statement_joined (shapes.break_nothing at n) d g h us a j = (h, words.break_whole, refl, ended words us a j)
    statement_joined (shapes.continue_nothing at n) d g h us a j = (h, words.continue_whole, refl, ended words us a j)
    statement_joined (shapes.expression at e z) d g h us a j = expression_joined e d g h (sign_of (codes ";") us) semicolon (ended words us a j)
    statement_joined (shapes.declaration at at' k i is) d g h us a j =
        let more = declarators_tokens is d (sign_of (codes ";") us) in
        (h, keyword_whole words k, declarator_blank_joins (items.key (keyword k)) i d more, declarator_joined i d more (λ n. declarators_soft words is d n us) (declarators_joined is d us (ended words us a j)))
    statement_joined (shapes.break_label at i) d g h us a j = (h, words.break_whole, refl, (blank_is, ident_whole i, refl, ended words us a j))
    statement_joined (shapes.continue_label at i) d g h us a j = (h, words.continue_whole, refl, (blank_is, ident_whole i, refl, ended words us a j))
    statement_joined (shapes.block b) d g h us a j = block_joined b d g h us (a (sign (codes "}"))) j
    statement_joined (shapes.if_only at e b n) d g h us a j =
        (h, words.if_whole, refl, test_joined words e d (statement_tokens b d blank us) (expression_joined e d no_gap no_gap_is (sign_of (codes ")") (statement_tokens b d blank us)) closing (no_gap_is, refl, (statement_apart b d blank blank_wide us (sign (codes ")"))), (statement_joined b d blank blank_is us a j))))
    statement_joined (shapes.if_else at e b c) d g h us a j =
        let cs = statement_tokens c d blank us in
        let es = it (branch_gap (is_braced b) d) (items.key (codes "else")) cs in
        let rest : Joined es = (branch_is (is_braced b) d, words.else_whole, statement_apart c d blank blank_wide us (items.key (codes "else")), statement_joined c d blank blank_is us a j) in
        (h, words.if_whole, refl, test_joined words e d (statement_tokens b d blank es) (expression_joined e d no_gap no_gap_is (sign_of (codes ")") (statement_tokens b d blank es)) closing (no_gap_is, refl, (statement_apart b d blank blank_wide es (sign (codes ")"))), (statement_joined b d blank blank_is es (branch_apart (is_braced b) d (items.key (codes "else")) cs) rest))))
    statement_joined (shapes.while_loop at e b) d g h us a j =
        (h, words.while_whole, refl, test_joined words e d (statement_tokens b d blank us) (expression_joined e d no_gap no_gap_is (sign_of (codes ")") (statement_tokens b d blank us)) closing (no_gap_is, refl, (statement_apart b d blank blank_wide us (sign (codes ")"))), (statement_joined b d blank blank_is us a j))))
    statement_joined (shapes.do_loop at e b) d g h us a j =
        let ts = test_tokens e d (sign_of (codes ";") us) in
        let ws = it (branch_gap (is_braced b) d) (items.key (codes "while")) ts in
        let rest : Joined ws = (branch_is (is_braced b) d, words.while_whole, refl, test_joined words e d (sign_of (codes ";") us) (expression_joined e d no_gap no_gap_is (sign_of (codes ")") (sign_of (codes ";") us)) closing (no_gap_is, refl, refl, (ended words us a j)))) in
        (h, words.do_whole, statement_apart b d blank blank_wide ws (items.key (codes "do")), statement_joined b d blank blank_is ws (branch_apart (is_braced b) d (items.key (codes "while")) ts) rest)
    statement_joined (shapes.switch_statement at at' {cs = cs'} e cs) d g h us a j = (
      h,
      words.switch_whole,
      refl,
      test_joined words e d (it blank (sign (codes "{")) (cases_tokens cs (suc d) (it (closing_gap cs' d) (sign (codes "}")) us))) (expression_joined e d no_gap no_gap_is (sign_of (codes ")") (it blank (sign (codes "{")) (cases_tokens cs (suc d) (it (closing_gap cs' d) (sign (codes "}")) us)))) closing (no_gap_is, refl, refl, (braces_joined words cs' d (cases_tokens cs (suc d)) (λ vs e. cases_empty cs (suc d) vs e) (λ vs b. cases_apart cs (suc d) vs (sign (codes "{")) (b (sign (codes "{")))) (cases_joined cs (suc d)) blank blank_is us (a (sign (codes "}"))) j))),
    )
    statement_joined (shapes.try_catch at b c n) d g h us a j =
        let cs = catch_tokens c d us in
        (h, words.try_whole, block_apart b d blank blank_wide cs (items.key (codes "try")), block_joined b d blank blank_is cs (catch_apart c d us (sign (codes "}"))) (catch_joined c d us a j))
    statement_joined (shapes.try_finally at b n f) d g h us a j =
        let end = it blank (items.key (codes "finally")) (block_tokens f d blank us) in
        (h, words.try_whole, block_apart b d blank blank_wide end (items.key (codes "try")), block_joined b d blank blank_is end refl (finally_joined words f d us (block_joined f d blank blank_is us (a (sign (codes "}"))) j)))
    statement_joined (shapes.try_catch_finally at b c f) d g h us a j =
        let end = it blank (items.key (codes "finally")) (block_tokens f d blank us) in
        let cs = catch_tokens c d end in
        (h, words.try_whole, block_apart b d blank blank_wide cs (items.key (codes "try")), block_joined b d blank blank_is cs (catch_apart c d end (sign (codes "}"))) (catch_joined c d end (λ t. refl) (finally_joined words f d us (block_joined f d blank blank_is us (a (sign (codes "}"))) j))))
    statement_joined (shapes.for_loop at i t u b) d g h us a j =
        let bs = statement_tokens b d blank us in
        let us' = optional_tokens u d (sign_of (codes ")") bs) in
        let last : Joined us' = optional_joined u d (sign_of (codes ")") bs) (λ o. closing) (no_gap_is, refl, statement_apart b d blank blank_wide us (sign (codes ")")), statement_joined b d blank blank_is us a j) in
        let more : Joined (optional_tokens t d (sign_of (codes ";") us')) = optional_joined t d (sign_of (codes ";") us') (λ o. semicolon) (no_gap_is, refl, optional_opens words (sign (codes ";")) u d (sign_of (codes ")") bs) refl, last) in
        (h, words.for_whole, refl, for_init_joined i d (optional_tokens t d (sign_of (codes ";") us')) (no_gap_is, refl, optional_opens words (sign (codes ";")) t d (sign_of (codes ";") us') refl, more))
    statement_joined (shapes.for_in at l e b) d g h us a j =
        let bs = sign_of (codes ")") (statement_tokens b d blank us) in
        let rest : Joined bs = (no_gap_is, refl, statement_apart b d blank blank_wide us (sign (codes ")")), statement_joined b d blank blank_is us a j) in
        for_joined words false (for_left_tokens l d (it blank (items.key (codes "in")) (expression_tokens e d blank bs))) g h (for_left_joined l d (items.key (codes "in")) (expression_tokens e d blank bs) (blank_is, words.in_whole, blank_joins (items.key (codes "in")) e d bs, expression_joined e d blank blank_is bs closing rest))
    statement_joined (shapes.for_of at w l e b) d g h us a j =
        let bs = sign_of (codes ")") (statement_tokens b d blank us) in
        let rest : Joined bs = (no_gap_is, refl, statement_apart b d blank blank_wide us (sign (codes ")")), statement_joined b d blank blank_is us a j) in
        for_joined words w (for_left_tokens l d (it blank (items.key (codes "of")) (expression_tokens e d blank bs))) g h (for_left_joined l d (items.key (codes "of")) (expression_tokens e d blank bs) (blank_is, words.of_whole, blank_joins (items.key (codes "of")) e d bs, expression_joined e d blank blank_is bs closing rest))
    statement_joined (shapes.labeled at i b) d g h us a j = (h, ident_whole i, refl, (no_gap_is, refl, statement_apart b d blank blank_wide us (sign (codes ":")), statement_joined b d blank blank_is us a j))
    statement_joined (shapes.function_statement at i f) d g h us a j =
        let fs = function_tokens f d us in
        function_word_joined words (is_generator f) (is_async f) g h (it blank (items.key (ident_word i)) fs) refl refl (blank_is, ident_whole i, function_opens f d us (items.key (ident_word i)) refl, function_joined f d us (a (sign (codes "}"))) j)
    statement_joined (shapes.class_statement at i c) d g h us a j =
        (h, words.class_whole, refl, (blank_is, ident_whole i, class_apart c d us (items.key (ident_word i)), class_joined c d us (a (sign (codes "}"))) j))

    -- heritage and members
    pub class_joined : {n : Node} (is : IsClass n) (d : ℕ) (us : Items) → joins_next (sign (codes "}")) us ≡ true → Joined us → Joined (class_tokens is d us)
    class_joined (shapes.class_of at at' at'' {ms = ms'} h ms n n') d us a j =
        heritage_joined h d (sign (codes "{")) _
        (braces_joined words ms' d (members_tokens ms (suc d)) (λ vs e. members_empty ms (suc d) vs e) (λ vs b. members_apart ms (suc d) vs (sign (codes "{")) (b (sign (codes "{")))) (members_joined ms (suc d)) blank blank_is us a j)

    member_joined : {n : Node} (is : IsMember n) (d : ℕ) (g : Gap) → IsGap g → (us : Items) → Apart us → Joined us → Joined (member_tokens is d g us)
    member_joined (shapes.empty_member at) d g h us a j = (h, refl, a (sign (codes ";")), j)
    member_joined (shapes.static_block at b) d g h us a j = (h, words.static_whole, block_apart b d blank blank_wide us (items.key (codes "static")), block_joined b d blank blank_is us (a (sign (codes "}"))) j)
    member_joined (shapes.method at s k f z) d g h us a j =
        let x = is_generator f in
        let y = is_async f in
        let fs = function_tokens f d us in
        let name : Gap → Items = λ h. member_name_tokens k d h fs in
        static_joined words s (method_tokens x y name) (method_apart x y name (λ g' w. name_apart k d g' w fs)) (method_joined words x y k d fs (λ g' h'. member_name_joined k d g' h' fs (function_behind_name f d us) (function_joined f d us (a (sign (codes "}"))) j))) g h
    member_joined (shapes.class_constructor at at' k z ps ws b) d g h us a j =
        let bs = block_tokens b d blank us in
        property_name_joined k d g h (sign_of (codes "(") (arguments_tokens ps d (sign_of (codes ")") bs))) (params_behind_name _)
        (arguments_joined ps d bs (no_gap_is, refl, block_apart b d blank blank_wide us (sign (codes ")")), block_joined b d blank blank_is us (a (sign (codes "}"))) j))
    member_joined (shapes.field at s k v n) d g h us a j =
        let end = sign_of (codes ";") us in
        let vs = initializer_tokens v d end in
        static_joined words s (λ h. member_name_tokens k d h vs) (λ g' w. name_apart k d g' w vs) (λ g' h'. member_name_joined k d g' h' vs (value_behind_name v d us) (initializer_joined v d end semicolon (ended words us a j))) g h
    member_joined (shapes.accessor at at' at'' s b k ps ws body n n') d g h us a j =
        let bs = block_tokens body d blank us in
        let fs = sign_of (codes "(") (arguments_tokens ps d (sign_of (codes ")") bs)) in
        static_joined words s (λ h. it h (items.key (accessor_text b)) (member_name_tokens k d blank fs)) (λ g' w t. w t (items.key (accessor_text b)))
        (accessor_joined words b k d fs (λ g' h'. member_name_joined k d g' h' fs (params_behind_name _) (arguments_joined ps d bs (no_gap_is, refl, block_apart body d blank blank_wide us (sign (codes ")")), block_joined body d blank blank_is us (a (sign (codes "}"))) j)))) g h

    members_joined : {ns : List Node} (is : AreMembers ns) (d : ℕ) (us : Items) → Apart us → Joined us → Joined (members_tokens is d us)
    members_joined shapes.no_members d us a j = j
    members_joined (shapes.more_members m ms) d us a j = member_joined m d (line_at d) (line_is d) (members_tokens ms d us) (λ t. members_apart ms d us t (a t)) (members_joined ms d us a j)

    -- parameters and body
    pub function_joined : {n : Node} (is : IsFunction n) (d : ℕ) (us : Items) → joins_next (sign (codes "}")) us ≡ true → Joined us → Joined (function_tokens is d us)
    function_joined (shapes.function_of at at' x y ps ws b n n') d us a j =
        let bs = block_tokens b d blank us in
        arguments_joined ps d bs (no_gap_is, refl, block_apart b d blank blank_wide us (sign (codes ")")), block_joined b d blank blank_is us a j)

    block_joined : {n : Node} (is : IsBlock n) (d : ℕ) (g : Gap) → IsGap g → (us : Items) → joins_next (sign (codes "}")) us ≡ true → Joined us → Joined (block_tokens is d g us)
    block_joined (shapes.block_of at at' {ss = ss'} ss) d g h us a j =
        braces_joined words ss' d (lined_tokens ss (suc d)) (λ vs e. lined_empty ss (suc d) vs e) (λ vs b. lined_apart ss (suc d) vs (sign (codes "{")) (b (sign (codes "{")))) (lined_joined ss (suc d)) g h us a j

    case_joined : {n : Node} (is : IsCase n) (d : ℕ) (g : Gap) → IsGap g → (us : Items) → Apart us → Joined us → Joined (case_tokens is d g us)
    case_joined (shapes.case_of at at' e ss) d g h us a j =
        let body = sign_of (codes ":") (lined_tokens ss (suc d) us) in
        (h, words.case_whole, blank_joins (items.key (codes "case")) e d body, expression_joined e d blank blank_is body colon (no_gap_is, refl, lined_apart ss (suc d) us (sign (codes ":")) (a (sign (codes ":"))), lined_joined ss (suc d) us a j))
    case_joined (shapes.default_of at at' n ss) d g h us a j = (h, words.default_whole, refl, (no_gap_is, refl, lined_apart ss (suc d) us (sign (codes ":")) (a (sign (codes ":"))), lined_joined ss (suc d) us a j))

    cases_joined : {cs : List Node} (is : AreCases cs) (d : ℕ) (us : Items) → Apart us → Joined us → Joined (cases_tokens is d us)
    cases_joined shapes.no_cases d us a j = j
    cases_joined (shapes.more_cases c cs) d us a j = case_joined c d (line_at d) (line_is d) (cases_tokens cs d us) (λ t. cases_apart cs d us t (a t)) (cases_joined cs d us a j)

    catch_joined : {n : Node} (is : IsCatch n) (d : ℕ) (us : Items) → Apart us → Joined us → Joined (catch_tokens is d us)
    catch_joined (shapes.catch_any at n b) d us a j = (blank_is, words.catch_whole, block_apart b d blank blank_wide us (items.key (codes "catch")), block_joined b d blank blank_is us (a (sign (codes "}"))) j)
    catch_joined (shapes.catch_pattern at p b) d us a j =
        let bs = sign_of (codes ")") (block_tokens b d blank us) in
        let rest : Joined bs = (no_gap_is, refl, block_apart b d blank blank_wide us (sign (codes ")")), block_joined b d blank blank_is us (a (sign (codes "}"))) j) in
        (blank_is, words.catch_whole, refl, (blank_is, refl, pattern_opening p d bs, pattern_joined p d no_gap no_gap_is bs closing rest))

    lined_joined : {ss : List Node} (is : AreStatements ss) (d : ℕ) (us : Items) → Apart us → Joined us → Joined (lined_tokens is d us)
    lined_joined shapes.no_statements d us a j = j
    lined_joined (shapes.more_statements s ss) d us a j = statement_joined s d (line_at d) (line_is d) (lined_tokens ss d us) (λ t. lined_apart ss d us t (a t)) (lined_joined ss d us a j)
