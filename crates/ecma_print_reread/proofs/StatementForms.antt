-- Statements by their shape.
use Rattle.ecma_shapes.specs.Shapes as shapes
use Rattle.ecma_kind.specs.declared.kind.Kind.TheVariants as kind
use Rattle.ecma_print_tokens.specs.Items as items
use Rattle.ecma_kind.specs.declared.operators.BinaryOp.TheVariants as op
use Rattle.ecma_print_reread_expressions.proofs.Sequences as sequences
use Rattle.std.proofs.Common.{ℕ, suc, Bool, true, false, List, [], ap, codes, sym, ◌∙◌, ◌≡◌, ◌∷◌, refl, map}
use Rattle.ecma_tree.specs.declared.node.Node.{Node}
use Rattle.ecma_print_reread_functions.proofs.Accessors.{accessor_form}
use Rattle.ecma_print_reread_functions.proofs.Fields.{field_form}
use Rattle.ecma_print_reread_functions.proofs.MemberNames.{ReadAsName, name_private, constructor_named, no_constructor, member_name_form}
use Rattle.ecma_print_reread_functions.proofs.Methods.{method_form, constructor_form}
use Rattle.ecma_print_reread_functions.proofs.Classes.{ReadAsMember, ReadAsMembers, no_members_form, more_members_form, static_block_form, empty_member_form, HeritageForm, class_form}
use Rattle.ecma_print_readings.proofs.Machine.{taken}
use Rattle.ecma_shapes.specs.Shapes.{IsPropertyName, IsInitializer, IsDeclarator, AreDeclarators, Ending, IsStatement, IsBlock, IsCase, AreCases, IsCatch, AreStatements, IsOptional, IsForInit, IsForLeft, IsHeritage, IsMemberName, is_private, IsMember, AreMembers, Level, key, IsExpression, IsElement, AreSlots, IsProperty, AreProperties, IsArguments, AreElements, AreExpressions, Role, IsPattern, IsDefaulted, AreParts}
use Rattle.ecma_shapes.specs.LiteralTexts.{regex_text}
use Rattle.ecma_shapes.proofs.Tokens.{property_name_tokens, ident_word, is_braced, statement_tokens, block_tokens, case_tokens, cases_tokens, catch_tokens, lined_tokens, for_left_tokens, member_tokens, members_tokens, member_name_tokens, key_word, own_sign, expression_tokens, arguments_tokens, pattern_tokens, defaulted_tokens}
use Rattle.ecma_shapes.proofs.Signs.{line_at, closing_gap, branch_gap, blank, unary_gap}
use Rattle.ecma_shapes.proofs.Bare.{bare_property_name, bare_statement, bare_block, bare_case, bare_cases, bare_catch, bare_statements, bare_for_left, bare_member_name, bare_member, bare_members, expression_kind, expression_parts, bare_arguments, bare_pattern, bare_defaulted}
use Rattle.ecma_print_readings.proofs.Bindings.{standing, Stands, from_form, loosened, from_new, StandsIn}
use Rattle.ecma_print_layouts.proofs.Beginnings.{no_new_line, no_brace, no_star}
use Rattle.ecma_print_reread_expressions.proofs.Calls.{arguments_read, call_read, ident_free, member_stands, element_stands, tagged_stands, constructed_form, numeral_stands, chain_member_stands, chain_element_stands, chain_call_stands, call_stands, ident_stands, single_stands}
use Rattle.ecma_print_readings.proofs.Statements.{ReadAsStatement, expression_statement_form}
use Rattle.ecma_print_reread_statements.proofs.Variables.{DeclaratorForm, DeclaratorForms, declaration_form, DeclaratorIn, DeclaratorsIn}
use Rattle.ecma_print_reread_statements.proofs.Jumps.{empty_form, debugger_form, return_form, break_form, continue_form, throw_form, return_value_form}
use Rattle.ecma_print_readings.proofs.Blocks.{ReadAsStatements, no_statements_form, more_statements_form, ReadAsBlock, braces_form, block_statement}
use Rattle.ecma_print_reread_statements.proofs.Branches.{if_form, if_else_form}
use Rattle.ecma_print_reread_statements.proofs.Loops.{while_form, do_form}
use Rattle.ecma_print_reread_statements.proofs.Switches.{ReadAsCase, ReadAsCases, no_cases_form, more_cases_form, case_form, default_form, switch_form}
use Rattle.ecma_print_reread_statements.proofs.Tries.{ReadAsCatch, catch_any_form, catch_pattern_form, try_catch_form, try_finally_form, try_catch_finally_form}
use Rattle.ecma_print_reread_statements.proofs.ForLoops.{OptionalForm, for_loop_form, for_in_form, for_of_form, for_await_form, InitForm, ReadAsForLeft, binding_left, in_left, of_left}
use Rattle.ecma_print_reread_statements.proofs.Labels.{labeled_form, break_label_form, continue_label_form}
use Rattle.ecma_print_reread_functions.proofs.Functions.{function_form}
use Rattle.ecma_print_reread_expressions.proofs.HeadForms.{tightly, member_tight, index_tight, no_in_there}
use Rattle.ecma_shapes.specs.Starts.{is_brace, is_declaration_word}
use Rattle.ecma_shapes.proofs.Starts.{starts_agree}
use Rattle.ecma_print_reread.proofs.Undeclared.{undeclared}
use Rattle.ecma_print_reread_functions.proofs.FunctionExpressions.{function_new, class_new}
use Rattle.std.proofs.lemmas.Bool.{false≢true, or_parts}
use Rattle.ecma_tree.specs.Nodes.{list_node}
use Rattle.ecma_print_readings.proofs.Forms.{s}
use Rattle.ecma_print_reread_expressions.proofs.Operations.{await_form, power_form, unary_form, binary_form}
use Rattle.ecma_print_readings.proofs.Members.{link_key}
use Rattle.ecma_print_reread_expressions.proofs.Supers.{super_member_form, super_element_form, super_call_form}
use Rattle.ecma_print_reread_expressions.proofs.Constructions.{new_form, alone_form, target_form}
use Rattle.ecma_print_reread_expressions.proofs.Updates.{prefix_form, postfix_form}
use Rattle.ecma_print_reread_expressions.proofs.Choices.{choice_form}
use Rattle.ecma_print_reread_expressions.proofs.Logicals.{both_form, either_form}
use Rattle.ecma_print_reread_expressions.proofs.Coalescing.{coalesced_form}
use Rattle.ecma_print_reread_expressions.proofs.Assignments.{assignment_form, whole_read}
use Rattle.ecma_print_readings.proofs.Expressions.{string_single, this_single, big_int_single, null_single, true_single, false_single, parenthesized_new, regex_single}
use Rattle.ecma_print_readings.proofs.Lists.{Forms, FormsIn}
use Rattle.ecma_print_reread_expressions.proofs.Sequences.{sequence_form}
use Rattle.ecma_print_reread_expressions.proofs.Arrays.{SlotForms, array_new, array_pattern_read}
use Rattle.ecma_print_reread_functions.proofs.Objects.{PropertyForm, PropertyForms}
use Rattle.ecma_print_reread_functions.proofs.ObjectPatterns.{object_new, object_pattern_read}
use Rattle.ecma_print_readings.proofs.Spreads.{ElementForm, ReadAsPattern, ReadAsDefaulted, InitializerForm}
use Rattle.ecma_print_reread_expressions.proofs.PrivateTests.{private_form}
use Rattle.ecma_print_reread_expressions.proofs.Yields.{yield_alone, yield_form, alone_read, yield_read}
use Rattle.ecma_print_reread_expressions.proofs.ImportCalls.{meta_form, import_call_form}
use Rattle.ecma_print_reread_expressions.proofs.Templates.{PartForms, template_form}
use Rattle.ecma_print_readings.proofs.Patterns.{pattern_unplaced, name_pattern_read, no_default_read, default_read}
use Rattle.ecma_print_readings.proofs.Arrows.{ElementForms, ArgumentForms, arrow_form, async_arrow_form, arrow_read, async_arrow_read, expression_body, block_body}
use Rattle.ecma_shapes.specs.Heads.{any_of, may_hold_in}
use Rattle.ecma_shapes.proofs.Heads.{may_hold_node}
use Rattle.ecma_print_layouts.proofs.HeadLayouts.{operands_hold, one_same}
use Rattle.ecma_print_reread_functions.proofs.PropertyNames.{NameForm}

module _ (assigned : Bool) where
  mutual
    pub expression_form : {level : Level} {e : Node} (is : IsExpression level e) (depth : ℕ) → Stands assigned level (expression_tokens is depth) (expression_kind is) (expression_parts is)
    expression_form (shapes.looser {level = l} e) depth = loosened assigned l (expression_form e depth)
    expression_form (shapes.name i) depth = ident_stands assigned i
    expression_form (shapes.string at raw t) depth = single_stands assigned (items.string raw) _ refl (string_single raw) refl
    expression_form (shapes.number at raw t) depth = numeral_stands assigned raw
    expression_form (shapes.this_word at) depth = single_stands assigned (items.key (codes "this")) _ refl this_single refl
    expression_form (shapes.big_int at raw t) depth = single_stands assigned (items.big_int raw) _ refl (big_int_single raw) refl
    expression_form (shapes.regex at b f t) depth = single_stands assigned (items.regex (regex_text b f)) _ refl (regex_single b f t) refl
    expression_form (shapes.template at a b ps) depth = from_new assigned refl (template_form assigned ps depth (part_forms ps depth))
    expression_form (shapes.null_word at) depth = single_stands assigned (items.key (codes "null")) _ refl null_single refl
    expression_form (shapes.true_word at) depth = single_stands assigned (items.key (codes "true")) _ refl true_single refl
    expression_form (shapes.false_word at) depth = single_stands assigned (items.key (codes "false")) _ refl false_single refl
    expression_form (shapes.member at i o k) depth = member_stands assigned i (expression_form o depth) (link_key k)
    expression_form (shapes.call at c es none) depth = call_stands assigned (expression_form c depth) es depth (argument_forms es depth)
    expression_form (shapes.parenthesized at e) depth = from_new assigned refl (parenthesized_new assigned (standing assigned (expression_form e depth)))
    expression_form (shapes.element at at' i o e) depth = element_stands assigned i (expression_form o depth) (standing assigned (expression_form e depth))
    expression_form (shapes.super_member at at' k) depth = from_new assigned refl (super_member_form assigned (key_word k))
    expression_form (shapes.super_element at at' at'' e) depth = from_new assigned refl (super_element_form assigned (standing assigned (expression_form e depth)))
    expression_form (shapes.super_call at at' es none) depth = from_form assigned refl (super_call_form assigned (λ us. arguments_tokens es depth (s (codes ")") us)) (list_node (bare_arguments es)) (call_read assigned es depth (argument_forms es depth)))
    expression_form (shapes.new_expression at i e es none) depth = from_new assigned refl (new_form assigned (constructed_form assigned i (expression_form e depth)) (λ us. arguments_tokens es depth (s (codes ")") us)) (list_node (bare_arguments es)) (arguments_read assigned es depth (argument_forms es depth)))
    expression_form (shapes.new_alone at i e none none') depth = alone_form assigned (constructed_form assigned i (expression_form e depth))
    expression_form (shapes.new_target at) depth = from_new assigned refl (target_form assigned)
    expression_form (shapes.import_meta at) depth = from_new assigned refl (meta_form assigned)
    expression_form (shapes.import_call at at' es none) depth = from_form assigned refl (import_call_form assigned (λ us. arguments_tokens es depth (s (codes ")") us)) (list_node (bare_arguments es)) (arguments_read assigned es depth (argument_forms es depth)))
    expression_form (shapes.tagged_template at a b c i o none ps) depth = tagged_stands assigned i (expression_form o depth) ps depth (part_forms ps depth)
    expression_form (shapes.chain_member at a i o k) depth = chain_member_stands assigned i (expression_form o depth) (link_key k)
    expression_form (shapes.chain_element at a c i o e) depth = chain_element_stands assigned i (expression_form o depth) (standing assigned (expression_form e depth))
    expression_form (shapes.chain_call at a i o es none) depth = chain_call_stands assigned i (expression_form o depth) es depth (argument_forms es depth)
    expression_form (shapes.prefix_update at o e) depth = prefix_form assigned o (expression_form e depth)
    expression_form (shapes.postfix_update at o e) depth = postfix_form assigned o (expression_form e depth)
    expression_form (shapes.await_expression at e) depth = await_form assigned (expression_form e depth)
    expression_form (shapes.unary_expression at o e) depth = unary_form assigned o (unary_gap o (own_sign e)) (expression_form e depth)
    expression_form (shapes.binary_expression at i l r) depth = binary_form assigned false i refl (expression_form l depth) (expression_form r depth)
    expression_form (shapes.private_in at at' w t r) depth = private_form assigned w t (expression_form r depth)
    expression_form (shapes.exponentiation at l r) depth = power_form assigned (expression_form l depth) (expression_form r depth)
    expression_form (shapes.both at l r) depth = both_form assigned (expression_form l depth) (expression_form r depth)
    expression_form (shapes.either at l r) depth = either_form assigned (expression_form l depth) (expression_form r depth)
    expression_form (shapes.coalesced at i l r) depth = coalesced_form assigned i (expression_form l depth) (expression_form r depth)
    expression_form (shapes.yield_nothing at none) depth = yield_alone assigned
    expression_form (shapes.yield_value at d e) depth = yield_form assigned (expression_form e depth) d (no_new_line e depth) (λ us. ap taken (no_star e depth blank us))
    expression_form (shapes.assignment_expression at o t v) depth = assignment_form assigned o (expression_form t depth) (expression_form v depth)
    expression_form (shapes.conditional_expression at t x y) depth = choice_form assigned (expression_form t depth) (expression_form x depth) (expression_form y depth)
    expression_form (shapes.arrow_function at true ps e z a b) depth = async_arrow_form assigned ps depth (argument_forms ps depth) (expression_body assigned (expression_form e depth) (λ g us. ap taken (no_brace e depth (sym (ap is_brace (starts_agree e)) ∙ z) g us)))
    expression_form (shapes.arrow_function at false ps e z a b) depth = arrow_form assigned ps depth (argument_forms ps depth) (expression_body assigned (expression_form e depth) (λ g us. ap taken (no_brace e depth (sym (ap is_brace (starts_agree e)) ∙ z) g us)))
    expression_form (shapes.arrow_block at true ps b n n') depth = async_arrow_form assigned ps depth (argument_forms ps depth) (block_body assigned (block_form b depth))
    expression_form (shapes.arrow_block at false ps b n n') depth = arrow_form assigned ps depth (argument_forms ps depth) (block_body assigned (block_form b depth))
    expression_form (shapes.array at at' es) depth = from_new assigned refl (array_new assigned es depth (slot_forms es depth))
    expression_form (shapes.object_literal at at' ps) depth = from_new assigned refl (object_new assigned ps depth (property_forms ps depth))
    expression_form (shapes.function_expression at i (shapes.function_of at' at'' x y ps ws b a a')) depth = from_new assigned refl (function_new assigned ps depth (argument_forms ps depth) (block_form b depth) x y i)
    expression_form (shapes.class_expression at i (shapes.class_of at' at'' at''' {ms = ms'} h ms a a')) depth = from_new assigned refl (class_new assigned (member_forms ms (suc depth)) (closing_gap ms' depth) h depth (heritage_form h depth) i)
    expression_form (shapes.sequence_expression at x y es) depth = sequence_form assigned (expression_form x depth) (expression_form y depth) es depth (expression_forms es depth)

    pub argument_forms : {role : Role} {n : Node} (is : IsArguments role n) (depth : ℕ) → ArgumentForms assigned is depth
    argument_forms (shapes.no_arguments at) depth = tt
    argument_forms (shapes.arguments at e es) depth = (element_form_of e depth, element_forms es depth)

    element_form_of : {role : Role} {n : Node} (is : IsElement role n) (depth : ℕ) → ElementForm assigned is depth
    element_form_of (shapes.one e) depth = expression_form e depth
    element_form_of (shapes.spread at e) depth = expression_form e depth
    element_form_of (shapes.bound p) depth = defaulted_form p depth
    element_form_of (shapes.rest at p a) depth = pattern_form p depth

    slot_forms : {role : Role} {ns : List Node} (is : AreSlots role ns) (depth : ℕ) → SlotForms assigned is depth
    slot_forms shapes.no_slots depth = tt
    slot_forms (shapes.filled e es) depth = (element_form_of e depth, slot_forms es depth)
    slot_forms (shapes.hole a es) depth = slot_forms es depth

    property_form_of : {role : Role} {n : Node} (is : IsProperty role n) (depth : ℕ) → PropertyForm assigned is depth
    property_form_of (shapes.key_value at (shapes.computed_name at' e) v) depth = (expression_form e depth, expression_form v depth)
    property_form_of (shapes.key_value at (shapes.key_name k) v) depth = (tt, expression_form v depth)
    property_form_of (shapes.key_value at k v) depth = (tt, expression_form v depth)
    property_form_of (shapes.shorthand i) depth = tt
    property_form_of (shapes.initialized at i v) depth = expression_form v depth
    property_form_of (shapes.spread_property at e) depth = expression_form e depth
    property_form_of (shapes.method_property at k (shapes.function_of at' at'' x y ps w b a a')) depth = (name_form_of k depth, (argument_forms ps depth, block_form b depth))
    property_form_of (shapes.getter_property at k a b) depth = (name_form_of k depth, block_form b depth)
    property_form_of (shapes.setter_property at k a p b) depth = (name_form_of k depth, (defaulted_form p depth, block_form b depth))
    property_form_of (shapes.renamed at (shapes.computed_name at' e) p) depth = (expression_form e depth, defaulted_form p depth)
    property_form_of (shapes.renamed at (shapes.key_name k) p) depth = (tt, defaulted_form p depth)
    property_form_of (shapes.renamed at k p) depth = (tt, defaulted_form p depth)
    property_form_of (shapes.named at at' i a v) depth = initializer_form v depth
    property_form_of (shapes.rest_property at at' i a b) depth = tt

    name_form_of : {n : Node} (is : IsPropertyName n) (depth : ℕ) → NameForm assigned is depth
    name_form_of (shapes.computed_name at e) depth = expression_form e depth
    name_form_of (shapes.key_name k) depth = tt
    name_form_of is depth = tt

    property_forms : {role : Role} {ns : List Node} (is : AreProperties role ns) (depth : ℕ) → PropertyForms assigned is depth
    property_forms shapes.no_properties depth = tt
    property_forms (shapes.more_properties p ps) depth = (property_form_of p depth, property_forms ps depth)

    pub pattern_form : {n : Node} (is : IsPattern n) (depth : ℕ) → ReadAsPattern assigned (pattern_tokens is depth) (bare_pattern is)
    pattern_form (shapes.name_pattern at i a) depth = name_pattern_read assigned i
    pattern_form (shapes.array_pattern at at' es a) depth = array_pattern_read assigned es depth (slot_forms es depth)
    pattern_form (shapes.object_pattern at at' ps a) depth = object_pattern_read assigned ps depth (property_forms ps depth)

    defaulted_form : {n : Node} (is : IsDefaulted n) (depth : ℕ) → ReadAsDefaulted assigned (defaulted_tokens is depth) (bare_defaulted is)
    defaulted_form (shapes.no_default p) depth = no_default_read assigned (pattern_form p depth)
    defaulted_form (shapes.with_default at p e) depth = default_read assigned (pattern_form p depth) (pattern_unplaced p) (expression_form e depth)

    pub initializer_form : {n : Node} (is : IsInitializer n) (depth : ℕ) → InitializerForm assigned is depth
    initializer_form (shapes.no_initializer a) depth = tt
    initializer_form (shapes.initializer e) depth = expression_form e depth

    element_forms : {role : Role} {es : List Node} (is : AreElements role es) (depth : ℕ) → ElementForms assigned is depth
    element_forms shapes.no_elements depth = tt
    element_forms (shapes.more_elements e es) depth = (element_form_of e depth, element_forms es depth)

    part_forms : {t f : Bool} {es ps : List Node} (is : AreParts t f es ps) (depth : ℕ) → PartForms assigned is depth
    part_forms (shapes.last_part p) depth = tt
    part_forms (shapes.more_parts p e ps) depth = (standing assigned (expression_form e depth), part_forms ps depth)

    expression_forms : {es : List Node} (is : AreExpressions es) (depth : ℕ) → Forms assigned is depth
    expression_forms shapes.no_expressions depth = tt
    expression_forms (shapes.more_expressions e es) depth = (expression_form e depth, expression_forms es depth)

    head_form : {level : Level} {e : Node} (is : IsExpression level e) (depth : ℕ) → may_hold_in e ≡ false → Stands assigned level (expression_tokens is depth) (expression_kind is) (expression_parts is) → StandsIn assigned true level (expression_tokens is depth) (expression_kind is) (expression_parts is)
    head_form (shapes.looser {level = l} e) depth h S = loosened assigned l (head_form e depth h (expression_form e depth))
    head_form (shapes.member at i o k) depth h S = tightly assigned _ (member_tight i) S
    head_form (shapes.element at at' i o e) depth h S = tightly assigned _ (index_tight i) S
    head_form (shapes.tagged_template at a b c i o none ps) depth h S = tightly assigned _ (index_tight i) S
    head_form (shapes.binary_expression at {operator = o} {left = l'} {right = r'} i l r) depth h S =
        let k = sym (may_hold_node at (kind.BinExpr o) (l' ∷ r' ∷ [])) ∙ h in
        let bs = may_hold_in l' ∷ may_hold_in r' ∷ [] in
        let c = or_parts (may_hold_in l') _ (operands_hold o bs k) in
        binary_form assigned true i (no_in_there o bs k) (head_form l depth c.0 (expression_form l depth)) (head_form r depth (one_same _ c.1) (expression_form r depth))
    head_form (shapes.private_in at at' w t r) depth h S = absurd (false≢true (sym (sym (may_hold_node at (kind.BinExpr op.In) _) ∙ h)))
    head_form (shapes.both at {left = l'} {right = r'} l r) depth h S =
        let c = or_parts (may_hold_in l') _ (sym (may_hold_node at (kind.BinExpr op.LogicalAnd) (l' ∷ r' ∷ [])) ∙ h) in
        both_form assigned (head_form l depth c.0 (expression_form l depth)) (head_form r depth (one_same _ c.1) (expression_form r depth))
    head_form (shapes.either at {left = l'} {right = r'} l r) depth h S =
        let c = or_parts (may_hold_in l') _ (sym (may_hold_node at (kind.BinExpr op.LogicalOr) (l' ∷ r' ∷ [])) ∙ h) in
        either_form assigned (head_form l depth c.0 (expression_form l depth)) (head_form r depth (one_same _ c.1) (expression_form r depth))
    head_form (shapes.coalesced at {left = l'} {right = r'} i l r) depth h S =
        let c = or_parts (may_hold_in l') _ (sym (may_hold_node at (kind.BinExpr op.NullishCoalescing) (l' ∷ r' ∷ [])) ∙ h) in
        coalesced_form assigned i (head_form l depth c.0 (expression_form l depth)) (head_form r depth (one_same _ c.1) (expression_form r depth))
    head_form (shapes.conditional_expression at {test = t'} {first = x'} {second = y'} t x y) depth h S =
        let c = or_parts (may_hold_in t') _ (sym (may_hold_node at kind.CondExpr (t' ∷ x' ∷ y' ∷ [])) ∙ h) in
        let d = or_parts (may_hold_in x') _ c.1 in
        choice_form assigned (head_form t depth c.0 (expression_form t depth)) (expression_form x depth) (head_form y depth (one_same _ d.1) (expression_form y depth))
    head_form (shapes.assignment_expression at o {target = t'} {value = v'} t v) depth h S =
        let c = or_parts (may_hold_in t') _ (sym (may_hold_node at (kind.AssignExpr o) (t' ∷ v' ∷ [])) ∙ h) in
        record { lead = S.lead; tight = S.tight; no_or = S.no_or; no_arrow = S.no_arrow; param = S.param; reading = whole_read assigned o (head_form t depth c.0 (expression_form t depth)) (head_form v depth (one_same _ c.1) (expression_form v depth)) }
    head_form (shapes.yield_nothing at none) depth h S =
        record { lead = S.lead; tight = S.tight; no_or = S.no_or; no_arrow = S.no_arrow; param = S.param; reading = alone_read assigned true }
    head_form (shapes.yield_value at d {e = e'} e) depth h S =
        let c = one_same _ (sym (may_hold_node at (kind.YieldExpr d) (e' ∷ [])) ∙ h) in
        record { lead = S.lead; tight = S.tight; no_or = S.no_or; no_arrow = S.no_arrow; param = S.param; reading = yield_read assigned (head_form e depth c (expression_form e depth)) d (no_new_line e depth) (λ us. ap taken (no_star e depth blank us)) }
    head_form (shapes.arrow_function at false {params = ps'} {body = e'} {none = n} {none' = n'} ps e z a b) depth h S =
        let c = or_parts (may_hold_in ps') _ (sym (may_hold_node at (kind.ArrowExpr false false) (ps' ∷ e' ∷ n ∷ n' ∷ [])) ∙ h) in
        let d = or_parts (may_hold_in e') _ c.1 in
        record { lead = S.lead; tight = S.tight; no_or = S.no_or; no_arrow = S.no_arrow; param = S.param; reading = arrow_read assigned ps depth (argument_forms ps depth) (expression_body assigned (head_form e depth d.0 (expression_form e depth)) (λ g us. ap taken (no_brace e depth (sym (ap is_brace (starts_agree e)) ∙ z) g us))) }
    head_form (shapes.arrow_function at true {params = ps'} {body = e'} {none = n} {none' = n'} ps e z a b) depth h S =
        let c = or_parts (may_hold_in ps') _ (sym (may_hold_node at (kind.ArrowExpr true false) (ps' ∷ e' ∷ n ∷ n' ∷ [])) ∙ h) in
        let d = or_parts (may_hold_in e') _ c.1 in
        record { lead = S.lead; tight = S.tight; no_or = S.no_or; no_arrow = S.no_arrow; param = S.param; reading = async_arrow_read assigned ps depth (argument_forms ps depth) (expression_body assigned (head_form e depth d.0 (expression_form e depth)) (λ g us. ap taken (no_brace e depth (sym (ap is_brace (starts_agree e)) ∙ z) g us))) }
    head_form (shapes.arrow_block at false ps b n n') depth h S =
        record { lead = S.lead; tight = S.tight; no_or = S.no_or; no_arrow = S.no_arrow; param = S.param; reading = arrow_read assigned ps depth (argument_forms ps depth) (block_body assigned (block_form b depth)) }
    head_form (shapes.arrow_block at true ps b n n') depth h S =
        record { lead = S.lead; tight = S.tight; no_or = S.no_or; no_arrow = S.no_arrow; param = S.param; reading = async_arrow_read assigned ps depth (argument_forms ps depth) (block_body assigned (block_form b depth)) }
    head_form (shapes.sequence_expression at {first = x'} {second = y'} {more = es'} x y es) depth h S =
        let c = or_parts (may_hold_in x') _ (sym (may_hold_node at kind.SeqExpr (x' ∷ y' ∷ es')) ∙ h) in
        let d = or_parts (may_hold_in y') _ c.1 in
        record { lead = S.lead; tight = S.tight; no_or = S.no_or; no_arrow = S.no_arrow; param = S.param; reading = sequences.whole_read assigned (head_form x depth c.0 (expression_form x depth)) (head_form y depth d.0 (expression_form y depth)) es depth (head_forms es depth d.1) }
    head_form is depth h S = tightly assigned _ refl S

    head_forms : {es : List Node} (is : AreExpressions es) (depth : ℕ) → any_of (map may_hold_in es) ≡ false → FormsIn assigned true is depth
    head_forms shapes.no_expressions depth h = tt
    head_forms (shapes.more_expressions {e = e'} e es) depth h = let c = or_parts (may_hold_in e') _ h in (head_form e depth c.0 (expression_form e depth), head_forms es depth c.1)

    pub declarator_form : {n : Node} (is : IsDeclarator n) (depth : ℕ) → DeclaratorForm assigned is depth
    declarator_form (shapes.declarator at p e) depth = (pattern_form p depth, initializer_form e depth)

    pub declarator_forms : {ds : List Node} (is : AreDeclarators ds) (depth : ℕ) → DeclaratorForms assigned is depth
    declarator_forms shapes.no_declarators depth = tt
    declarator_forms (shapes.more_declarators d ds) depth = (declarator_form d depth, declarator_forms ds depth)

    optional_form : {n : Node} (is : IsOptional n) (depth : ℕ) → OptionalForm assigned is depth
    optional_form (shapes.left_out a) depth = tt
    optional_form (shapes.given e) depth = standing assigned (expression_form e depth)

    for_declarator_form : {n : Node} (is : IsDeclarator n) (depth : ℕ) → may_hold_in n ≡ false → DeclaratorIn assigned true is depth
    for_declarator_form (shapes.declarator at p (shapes.no_initializer b)) depth h = (pattern_form p depth, tt)
    for_declarator_form (shapes.declarator at {p = p'} {init = e'} p (shapes.initializer e)) depth h =
        let c = or_parts (may_hold_in p') _ (sym (may_hold_node at (kind.VarDeclarator false) (p' ∷ e' ∷ [])) ∙ h) in
        (pattern_form p depth, head_form e depth (one_same _ c.1) (expression_form e depth))

    for_declarator_forms : {ds : List Node} (is : AreDeclarators ds) (depth : ℕ) → any_of (map may_hold_in ds) ≡ false → DeclaratorsIn assigned true is depth
    for_declarator_forms shapes.no_declarators depth h = tt
    for_declarator_forms (shapes.more_declarators {d = d'} d ds) depth h = let c = or_parts (may_hold_in d') _ h in (for_declarator_form d depth c.0, for_declarator_forms ds depth c.1)

    init_form : {n : Node} (is : IsForInit n) (depth : ℕ) → InitForm assigned is depth
    init_form (shapes.no_init a) depth = tt
    init_form (shapes.init_declaration at of_list k {d = d'} d ds z) depth = let c = or_parts (may_hold_in d') _ z in (for_declarator_form d depth c.0, for_declarator_forms ds depth c.1)
    init_form (shapes.init_expression e z) depth = (standing assigned (expression_form e depth), standing assigned (head_form e depth z (expression_form e depth)))

    in_form : {n : Node} (is : IsForLeft n) (depth : ℕ) → ReadAsForLeft assigned (codes "in") (for_left_tokens is depth) (bare_for_left is)
    in_form (shapes.for_binding at at' at'' k p a) depth = binding_left assigned (codes "in") k p depth (pattern_form p depth)
    in_form (shapes.for_target e z) depth = in_left assigned (expression_form e depth) (head_form e depth z (expression_form e depth))

    of_form : {n : Node} (is : IsForLeft n) (depth : ℕ) → ReadAsForLeft assigned (codes "of") (for_left_tokens is depth) (bare_for_left is)
    of_form (shapes.for_binding at at' at'' k p a) depth = binding_left assigned (codes "of") k p depth (pattern_form p depth)
    of_form (shapes.for_target e z) depth = of_left assigned (expression_form e depth) (head_form e depth z (expression_form e depth))

    pub heritage_form : {n : Node} (is : IsHeritage n) (depth : ℕ) → HeritageForm assigned is depth
    heritage_form (shapes.no_heritage a) depth = tt
    heritage_form (shapes.heritage e) depth = expression_form e depth

    key_form : {n : Node} (is : IsPropertyName n) (d : ℕ) → ReadAsName assigned (property_name_tokens is d) (bare_property_name is)
    key_form (shapes.computed_name at e) d = member_name_form assigned (shapes.property_member (shapes.computed_name at e)) d (expression_form e d)
    key_form (shapes.key_name k) d = member_name_form assigned (shapes.property_member (shapes.key_name k)) d tt
    key_form (shapes.string_name at raw t) d = member_name_form assigned (shapes.property_member (shapes.string_name at raw t)) d tt
    key_form (shapes.number_name at raw t) d = member_name_form assigned (shapes.property_member (shapes.number_name at raw t)) d tt
    key_form (shapes.big_int_name at raw t) d = member_name_form assigned (shapes.property_member (shapes.big_int_name at raw t)) d tt

    name_form : {private : Bool} {n : Node} (is : IsMemberName private n) (d : ℕ) → ReadAsName assigned (member_name_tokens is d) (bare_member_name is)
    name_form (shapes.property_member k) d = key_form k d
    name_form (shapes.private_member at w t) d = member_name_form assigned (shapes.private_member at w t) d tt

    pub statement_form : {ending : Ending} {n : Node} (is : IsStatement ending n) (d : ℕ) → ReadAsStatement assigned ending (statement_tokens is d) (bare_statement is)
    statement_form (shapes.empty at) d = empty_form assigned
    statement_form (shapes.debugger_word at) d = debugger_form assigned
    statement_form (shapes.throw at e) d = throw_form assigned (standing assigned (expression_form e d)) (λ us. no_new_line e d us)
    statement_form (shapes.return_value at e) d = return_value_form assigned (standing assigned (expression_form e d)) (λ us. no_new_line e d us)
    statement_form (shapes.return_nothing at a) d = return_form assigned
    statement_form (shapes.break_nothing at a) d = break_form assigned
    statement_form (shapes.continue_nothing at a) d = continue_form assigned
    statement_form (shapes.expression at e z) d = expression_statement_form assigned (standing assigned (expression_form e d)) (λ g us. ap taken (no_brace e d (ap is_brace (sym (starts_agree e) ∙ z)) g us)) (λ g us. undeclared assigned e d (ap is_declaration_word (sym (starts_agree e) ∙ z)) g (s (codes ";") us) refl)
    statement_form (shapes.declaration at at' k i is) d = declaration_form assigned k i is d (declarator_form i d) (declarator_forms is d)
    statement_form (shapes.break_label at i) d = break_label_form assigned (ident_word i) (ident_free assigned i)
    statement_form (shapes.continue_label at i) d = continue_label_form assigned (ident_word i) (ident_free assigned i)
    statement_form (shapes.block b) d = block_statement assigned (block_form b d)
    statement_form (shapes.if_only at e b a) d = if_form assigned (standing assigned (expression_form e d)) (statement_form b d)
    statement_form (shapes.if_else at e b a) d = if_else_form assigned (standing assigned (expression_form e d)) (statement_form b d) (statement_form a d) (branch_gap (is_braced b) d)
    statement_form (shapes.while_loop at e b) d = while_form assigned (standing assigned (expression_form e d)) (statement_form b d)
    statement_form (shapes.do_loop at e b) d = do_form assigned (standing assigned (expression_form e d)) (statement_form b d) (branch_gap (is_braced b) d)
    statement_form (shapes.switch_statement at at' {cs = cs'} e cs) d = switch_form assigned (standing assigned (expression_form e d)) (case_forms cs (suc d)) (closing_gap cs' d)
    statement_form (shapes.try_catch at b c a) d = try_catch_form assigned (block_form b d) (catch_form c d)
    statement_form (shapes.try_finally at b a f) d = try_finally_form assigned (block_form b d) (block_form f d)
    statement_form (shapes.try_catch_finally at b c f) d = try_catch_finally_form assigned (block_form b d) (catch_form c d) (block_form f d)
    statement_form (shapes.for_loop at i t u b) d = for_loop_form assigned (statement_form b d) i t u d (init_form i d) (optional_form t d) (optional_form u d)
    statement_form (shapes.for_in at l e b) d = for_in_form assigned (statement_form b d) (in_form l d) (standing assigned (expression_form e d))
    statement_form (shapes.for_of at true l e b) d = for_await_form assigned (statement_form b d) (of_form l d) (expression_form e d)
    statement_form (shapes.for_of at false l e b) d = for_of_form assigned (statement_form b d) (of_form l d) (expression_form e d)
    statement_form (shapes.labeled at i b) d = labeled_form assigned (ident_word i) (ident_free assigned i) (standing assigned (ident_stands assigned i)) (statement_form b d)
    statement_form (shapes.function_statement at i (shapes.function_of at' at'' x y ps w b a a')) d = function_form assigned ps d (argument_forms ps d) (block_form b d) x y (ident_word i) (ident_free assigned i)
    statement_form (shapes.class_statement at i (shapes.class_of at' at'' at''' {ms = ms'} h ms a a')) d = class_form assigned (member_forms ms (suc d)) (closing_gap ms' d) h d (heritage_form h d) (ident_word i) (ident_free assigned i)

    member_form_of : {n : Node} (is : IsMember n) (d : ℕ) → ReadAsMember assigned (member_tokens is d) (bare_member is)
    member_form_of (shapes.empty_member at) d = empty_member_form assigned
    member_form_of (shapes.static_block at b) d = static_block_form assigned (block_form b d)
    member_form_of (shapes.method at s k (shapes.function_of at' at'' x y ps ws b a a') z) d =
        method_form assigned ps d (argument_forms ps d) (block_form b d) (name_form k d) s (is_private k) x y (name_private k) (no_constructor k x y s z)
    member_form_of (shapes.class_constructor at at' k z ps ws b) d =
        let key = shapes.property_member k in
        constructor_form assigned ps d (argument_forms ps d) (block_form b d) (key_form k d) (name_private key) (constructor_named key ∙ z)
    member_form_of (shapes.field at s k v a) d = field_form assigned v d (initializer_form v d) (name_form k d) s (is_private k) (name_private k)
    member_form_of (shapes.accessor at at' at'' s b k ps ws body a a') d = accessor_form assigned ps d (argument_forms ps d) (block_form body d) (name_form k d) s (is_private k) b (name_private k)

    pub member_forms : {ns : List Node} (is : AreMembers ns) (d : ℕ) → ReadAsMembers assigned (members_tokens is d) (bare_members is)
    member_forms shapes.no_members d = no_members_form assigned
    member_forms (shapes.more_members m ms) d = more_members_form assigned (member_form_of m d) (member_forms ms d) (line_at d)

    pub block_form : {n : Node} (is : IsBlock n) (d : ℕ) → ReadAsBlock assigned (block_tokens is d) (bare_block is)
    block_form (shapes.block_of at at' {ss = ss'} ss) d = braces_form assigned (statement_forms ss (suc d)) (closing_gap ss' d)

    case_of_form : {n : Node} (is : IsCase n) (d : ℕ) → ReadAsCase assigned (case_tokens is d) (bare_case is)
    case_of_form (shapes.case_of at at' e ss) d = case_form assigned (standing assigned (expression_form e d)) (statement_forms ss (suc d))
    case_of_form (shapes.default_of at at' a ss) d = default_form assigned (statement_forms ss (suc d))

    case_forms : {cs : List Node} (is : AreCases cs) (d : ℕ) → ReadAsCases assigned (cases_tokens is d) (bare_cases is)
    case_forms shapes.no_cases d = no_cases_form assigned
    case_forms (shapes.more_cases c cs) d = more_cases_form assigned (case_of_form c d) (case_forms cs d) (line_at d)

    catch_form : {n : Node} (is : IsCatch n) (d : ℕ) → ReadAsCatch assigned (catch_tokens is d) (bare_catch is)
    catch_form (shapes.catch_any at a b) d = catch_any_form assigned (block_form b d)
    catch_form (shapes.catch_pattern at p b) d = catch_pattern_form assigned (block_form b d) p d (pattern_form p d)

    statement_forms : {ss : List Node} (is : AreStatements ss) (d : ℕ) → ReadAsStatements assigned (lined_tokens is d) (bare_statements is)
    statement_forms shapes.no_statements d = no_statements_form assigned
    statement_forms (shapes.more_statements s ss) d = more_statements_form assigned (statement_form s d) (statement_forms ss d) (line_at d)
