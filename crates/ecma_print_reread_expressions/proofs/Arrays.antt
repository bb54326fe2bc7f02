-- Arrays are read as they are laid out; as a pattern they are read whole, or not.
use Rattle.std.proofs.Common.{ℕ, ◌≡◌, suc, ◌-◌, Bool, true, false, List, [], ◌∷◌, ◌++◌, length, take, slice_get, codes, nat_le, refl, ap, ◌∙◌, arith, if◌then◌else◌}
use Rattle.std.proofs.lemmas.Bool.{and_parts}
use Rattle.ecma_kind.specs.declared.kind.Kind.TheVariants as kind
use Rattle.ecma_tree.specs.declared.node.Node.{Node}
use Rattle.ecma_tree.specs.Nodes.{dummy_span, absent, list_node}
use Rattle.ecma_grammar.specs.declared.production.Part.TheVariants as part
use Rattle.ecma_grammar.specs.declared.production.Plain.TheVariants as plain
use Rattle.ecma_grammar.specs.declared.production.Form.TheVariants as form
use Rattle.ecma_grammar.specs.declared.production.Flag.TheVariants.{Absent}
use Rattle.ecma_grammar.specs.trees.Parts.{flag_node, is_absent, is_absent_kind}
use Rattle.ecma_grammar.specs.trees.Others.{missing, elements}
use Rattle.ecma_grammar.specs.Grammar as grammar
use Rattle.ecma_grammar.specs.Grammar.{Grammar, put, ◌▸◌, build, punct, maybe}
use Rattle.ecma_grammar.specs.productions.Names as names
use Rattle.ecma_grammar.specs.productions.Types.{param, rest_pattern, default_value}
use Rattle.ecma_grammar.specs.productions.Patterns.{pattern_body, pattern_element, array_pattern, object_pattern}
use Rattle.ecma_grammar.specs.productions.Functions as functions
use Rattle.ecma_grammar.specs.productions.Expressions as expressions
use Rattle.ecma_grammar.specs.productions.Operators as operators
use Rattle.ecma_grammar.specs.productions.Primary as primaries
use Rattle.ecma_grammar.specs.productions.Primary.{element, spread, array}
use Rattle.ecma_grammar.specs.productions.Chains as chains
use Rattle.ecma_grammar.specs.productions.Classes as classes
use Rattle.ecma_grammar.specs.productions.Declarations as declarations
use Rattle.ecma_grammar.specs.productions.Statements as statements
use Rattle.ecma_grammar.specs.productions.Modules as modules
use Rattle.ecma_print_tokens.specs.Items.{sign, no_gap, Gap, Items, it}
use Rattle.ecma_print_readings.proofs.Machine.{read, with_front, followed_on, or_on, built_on, interp, means}
use Rattle.ecma_shapes.specs.Shapes as shapes
use Rattle.ecma_shapes.specs.Shapes.{Role, IsExpression, IsElement, AreSlots}
use Rattle.ecma_shapes.proofs.Tokens.{element_tokens, slots_tokens, more_slots_tokens}
use Rattle.ecma_shapes.proofs.Signs.{blank}
use Rattle.ecma_shapes.proofs.Bare.{expression_kind, bare_element, bare_slots}
use Rattle.ecma_print_readings.proofs.Moves.{eats}
use Rattle.ecma_print_readings.proofs.Levels.{means_is}
use Rattle.ecma_print_readings.proofs.Fronts.{exactly, Begins, at_token, refuses_at, refused_at, refuses_all, all_refused}
use Rattle.ecma_print_readings.proofs.Heads.{nodes, bare, kind-node}
use Rattle.ecma_print_readings.proofs.Forms.{s, Reads, Refuses, AsItem, item_refused, whole_item, item_before, NewForm}
use Rattle.ecma_print_readings.proofs.Towers.{here, later, sooner}
use Rattle.ecma_print_readings.proofs.Repeats.{Repeats, repeats_end, repeats_more, repeated}
use Rattle.ecma_print_readings.proofs.Further.{more, Lasts, Further, further_end, further_more, Listed, none_listed, some_listed, listed}
use Rattle.ecma_print_readings.proofs.Expressions.{comma_ends}
use Rattle.ecma_print_readings.proofs.Elements.{bracket_ends}
use Rattle.ecma_print_readings.proofs.Lists.{Followed}
use Rattle.ecma_print_readings.proofs.Spreads.{item_of, ReadAsPattern, ElementForm, element_read, element_as_pattern}
use Rattle.ecma_print_readings.proofs.Tried.{Wholly, wholly_refused, wholly_read}
use Rattle.ecma_print_readings.proofs.Literals.{Literal, literal_new}

-- neither an element nor one of a pattern begins with `,` or `]`

no_element_at_comma : refuses_all (exactly (sign (codes ","))) element ≡ true
unfolding element spread functions.arrow functions.arrow_rest names.binding_ident expressions.conditional operators.short_circuit operators.bit_or operators.bit_xor operators.bit_and operators.equality operators.relation operators.shift operators.exponentiation operators.prefixed operators.update chains.chain chains.super_of_link chains.import_meta chains.import_call chains.construction primaries.primary functions.function_expression primaries.class_expression primaries.template primaries.array primaries.object primaries.parenthesized
no_element_at_comma = refl

no_element_at_bracket : refuses_all (exactly (sign (codes "]"))) element ≡ true
unfolding element spread functions.arrow functions.arrow_rest names.binding_ident expressions.conditional operators.short_circuit operators.bit_or operators.bit_xor operators.bit_and operators.equality operators.relation operators.shift operators.exponentiation operators.prefixed operators.update chains.chain chains.super_of_link chains.import_meta chains.import_call chains.construction primaries.primary functions.function_expression primaries.class_expression primaries.template primaries.array primaries.object primaries.parenthesized
no_element_at_bracket = refl

no_pattern_at_comma : refuses_all (exactly (sign (codes ","))) pattern_element ≡ true
unfolding pattern_element rest_pattern pattern_body array_pattern object_pattern names.binding_ident
no_pattern_at_comma = refl

no_pattern_at_bracket : refuses_all (exactly (sign (codes "]"))) pattern_element ≡ true
unfolding pattern_element rest_pattern pattern_body array_pattern object_pattern names.binding_ident
no_pattern_at_bracket = refl

no_item_at_comma : (role : Role) → refuses_all (exactly (sign (codes ","))) (item_of role) ≡ true
no_item_at_comma shapes.values = no_element_at_comma
no_item_at_comma shapes.bindings = no_pattern_at_comma

no_item_at_bracket : (role : Role) → refuses_all (exactly (sign (codes "]"))) (item_of role) ≡ true
no_item_at_bracket shapes.values = no_element_at_bracket
no_item_at_bracket shapes.bindings = no_pattern_at_bracket

bracket : Literal (sign (codes "[")) array
unfolding chains.super_of_member chains.super_of_link chains.import_meta chains.import_call chains.construction primaries.primary functions.function_expression primaries.class_expression primaries.template operators.prefixed functions.arrow functions.arrow_rest statements.labeled param rest_pattern names.binding_ident statements.statement_body names.block statements.if_ statements.for_await statements.for_ statements.while_ statements.do_while statements.switch statements.try_ statements.jump declarations.declaration functions.function_declaration classes.class_declaration modules.module_item modules.import modules.import_equals modules.export modules.export_default
bracket = record {
  tower = λ e. later refl (later refl (later refl (later refl (later refl (later refl (later refl (later refl (later refl (later refl (later refl (later refl (sooner here))))))))))));
  apart = record { no_head = refl; no_new_head = refl };
  no_point = refl;
  opens = record { no_spread = refl; no_yield = refl; no_private = refl; no_prefix = refl; no_increment = refl; no_decrement = refl };
  starts = record { no_statement = refl; no_item = refl };
  no_arrow = refl;
  no_label = refl;
  no_rest = refl;
  no_end = refl;
}

-- what is read of elements and holes: the last comma is read as one hole more
abbrev slots_read : {role : Role} {ns : List Node} → AreSlots role ns → Bool → List Node
slots_read shapes.no_slots false = []
slots_read shapes.no_slots true = absent ∷ []
slots_read (shapes.filled e es) b = bare_element e ∷ slots_read es false
slots_read (shapes.hole a es) b = absent ∷ slots_read es true

-- no element is missing
there_by : {level : shapes.Level} {e : Node} (is : IsExpression level e) → is_absent_kind (expression_kind is) ≡ false
there_by (shapes.looser e) = there_by e
there_by is = refl

there : {role : Role} {n : Node} (is : IsElement role n) → is_absent (bare_element is) ≡ false
there (shapes.one e) = ap is_absent_kind (kind-node dummy_span (expression_kind e) _) ∙ there_by e
there (shapes.spread at e) = ap is_absent_kind (kind-node dummy_span kind.SpreadElement _)
there (shapes.bound (shapes.no_default (shapes.name_pattern at i a))) = ap is_absent_kind (kind-node dummy_span kind.BindingIdent _)
there (shapes.bound (shapes.no_default (shapes.array_pattern at at' es a))) = ap is_absent_kind (kind-node dummy_span (kind.ArrayPat false) _)
there (shapes.bound (shapes.no_default (shapes.object_pattern at at' ps a))) = ap is_absent_kind (kind-node dummy_span (kind.ObjectPat false) _)
there (shapes.bound (shapes.with_default at p e)) = ap is_absent_kind (kind-node dummy_span kind.AssignPat _)
there (shapes.rest at p a) = ap is_absent_kind (kind-node dummy_span kind.RestPat _)

elements_behind : (x y : Node) (ys : List Node) → elements (x ∷ y ∷ ys) ≡ x ∷ elements (y ∷ ys)
elements_behind x y ys =
    let e : suc (suc (length ys)) - 1 ≡ suc (length ys) = omega arith in
    let e' : suc (length ys) - 1 ≡ length ys = omega arith in
    rw (e, e') (go (missing (slice_get (y ∷ ys) (length ys))) (take (length ys) (y ∷ ys)) (y ∷ ys))
  where
    go : (b : Bool) (xs zs : List Node) → (if b then x ∷ xs else x ∷ zs) ≡ x ∷ (if b then xs else zs)
    go true xs zs = refl
    go false xs zs = refl

no_elements : elements (absent ∷ []) ≡ []
no_elements = rw (kind-node dummy_span kind.Absent []) refl

one_element : (x : Node) → is_absent x ≡ false → elements (x ∷ []) ≡ x ∷ []
one_element x h = rw h refl

trimmed : {role : Role} {ns : List Node} (is : AreSlots role ns) (x : Node) (b : Bool) → (b ≡ false → is_absent x ≡ false) → elements (x ∷ slots_read is b) ≡ x ∷ bare_slots is
trimmed shapes.no_slots x false h = one_element x (h refl)
trimmed shapes.no_slots x true h = elements_behind x absent [] ∙ ap (λ z. x ∷ z) no_elements
trimmed (shapes.filled e es) x b h = elements_behind x (bare_element e) (slots_read es false) ∙ ap (λ z. x ∷ z) (trimmed es (bare_element e) false (λ z. there e))
trimmed (shapes.hole a es) x b h = elements_behind x absent (slots_read es true) ∙ ap (λ z. x ∷ z) (trimmed es absent true (λ z. absurd (let y : ⊥ = cc in y)))

slots_are : {role : Role} {ns : List Node} (is : AreSlots role ns) → elements (slots_read is true) ≡ bare_slots is
slots_are shapes.no_slots = no_elements
slots_are (shapes.filled e es) = trimmed es (bare_element e) false (λ z. there e)
slots_are (shapes.hole a es) = trimmed es absent true (λ z. absurd (let y : ⊥ = cc in y))

-- what stands behind an element, and behind a hole

slots_followed : {role : Role} {ns : List Node} (is : AreSlots role ns) (depth : ℕ) (us : Items) → Followed (more_slots_tokens is depth false no_gap us)
slots_followed shapes.no_slots depth us = record { front = exactly (sign (codes "]")); begins = at_token; ends = bracket_ends }
slots_followed (shapes.filled e es) depth us = record { front = exactly (sign (codes ",")); begins = at_token; ends = comma_ends }
slots_followed (shapes.hole a es) depth us = record { front = exactly (sign (codes ",")); begins = at_token; ends = comma_ends }

comma_behind : {role : Role} {ns : List Node} (is : AreSlots role ns) (depth : ℕ) (g : Gap) (us : Items) → Begins (exactly (sign (codes ","))) (more_slots_tokens is depth true g us)
comma_behind shapes.no_slots depth g us = at_token
comma_behind (shapes.filled e es) depth g us = at_token
comma_behind (shapes.hole a es) depth g us = at_token

module _ (assigned : Bool) where
  -- what is said of each
  abbrev pub SlotForms : {role : Role} {ns : List Node} → AreSlots role ns → ℕ → Type 0
  SlotForms shapes.no_slots depth = Unit {0}
  SlotForms (shapes.filled e es) depth = ElementForm assigned e depth × SlotForms es depth
  SlotForms (shapes.hole a es) depth = SlotForms es depth

  -- what may be missing

  here_read : (item : Grammar) (ts us : Items) (xs : List Node) → Reads assigned item ts xs us → Reads assigned (maybe item) ts xs us
  here_read item ts us xs h = ap (or_on (interp assigned (means assigned) (put Absent)) ts) h

  none_read : (item : Grammar) (ts : Items) → Refuses assigned item ts → Reads assigned (maybe item) ts (absent ∷ []) ts
  none_read item ts h = ap (or_on (interp assigned (means assigned) (put Absent)) ts) h

  -- as an array

  abbrev slot : Role → Grammar
  slot role = maybe (item_of role)

  slot_eats : (role : Role) → nat_le 1 (eats (more (slot role))) ≡ true
  unfolding element spread pattern_element rest_pattern default_value
  slot_eats shapes.values = refl
  slot_eats shapes.bindings = refl

  more_slots_read : {role : Role} {ns : List Node} (is : AreSlots role ns) (depth : ℕ) → SlotForms is depth → (b : Bool) (g : Gap) (us : Items) → Repeats assigned (more (slot role)) (more_slots_tokens is depth b g us) (slots_read is b) (s (codes "]") us)
  more_slots_read {role} shapes.no_slots depth F false g us = repeats_end assigned (more (slot role)) (s (codes "]") us) refl
  more_slots_read {role} shapes.no_slots depth F true g us =
      repeats_more assigned (more (slot role)) (slot_eats role) _ (s (codes "]") us) (s (codes "]") us) (absent ∷ []) []
      (ap (with_front []) (none_read (item_of role) (s (codes "]") us) (all_refused assigned (item_of role) (exactly (sign (codes "]"))) (s (codes "]") us) at_token (no_item_at_bracket role))))
      (repeats_end assigned (more (slot role)) (s (codes "]") us) refl)
  more_slots_read {role} (shapes.filled e es) depth F b g us =
      let vs = more_slots_tokens es depth false no_gap us in
      repeats_more assigned (more (slot role)) (slot_eats role) _ vs (s (codes "]") us) (bare_element e ∷ []) (slots_read es false)
      (ap (with_front []) (here_read (item_of role) (element_tokens e depth blank vs) vs (bare_element e ∷ []) (element_read assigned e depth F.0 blank vs (slots_followed es depth us))))
      (more_slots_read es depth F.1 false no_gap us)
  more_slots_read {role} (shapes.hole a es) depth F b g us =
      let vs = more_slots_tokens es depth true blank us in
      repeats_more assigned (more (slot role)) (slot_eats role) _ vs (s (codes "]") us) (absent ∷ []) (slots_read es true)
      (ap (with_front []) (none_read (item_of role) vs (all_refused assigned (item_of role) (exactly (sign (codes ","))) vs (comma_behind es depth blank us) (no_item_at_comma role))))
      (more_slots_read es depth F true blank us)

  -- the first, and those behind it
  both_read : (item : Grammar) (ts vs us : Items) (xs ys : List Node) → Reads assigned item ts xs vs → Repeats assigned (more item) vs ys us → Reads assigned (item ▸ grammar.many (more item)) ts (xs ++ ys) us
  both_read item ts vs us xs ys h r = ap (followed_on (interp assigned (means assigned) (grammar.many (more item)))) h ∙ ap (with_front xs) (repeated assigned (more item) vs us ys r)

  all_read : {role : Role} {ns : List Node} (is : AreSlots role ns) (depth : ℕ) → SlotForms is depth → (us : Items) → Reads assigned (slot role ▸ grammar.many (more (slot role))) (slots_tokens is depth us) (slots_read is true) (s (codes "]") us)
  all_read {role} shapes.no_slots depth F us =
      both_read (slot role) (s (codes "]") us) (s (codes "]") us) (s (codes "]") us) (absent ∷ []) []
      (none_read (item_of role) (s (codes "]") us) (all_refused assigned (item_of role) (exactly (sign (codes "]"))) (s (codes "]") us) at_token (no_item_at_bracket role))) (repeats_end assigned (more (slot role)) (s (codes "]") us) refl)
  all_read {role} (shapes.filled e es) depth F us =
      let vs = more_slots_tokens es depth false no_gap us in
      both_read (slot role) (element_tokens e depth no_gap vs) vs (s (codes "]") us) (bare_element e ∷ []) (slots_read es false)
      (here_read (item_of role) (element_tokens e depth no_gap vs) vs (bare_element e ∷ []) (element_read assigned e depth F.0 no_gap vs (slots_followed es depth us))) (more_slots_read es depth F.1 false no_gap us)
  all_read {role} (shapes.hole a es) depth F us =
      let vs = more_slots_tokens es depth true no_gap us in
      both_read (slot role) vs vs (s (codes "]") us) (absent ∷ []) (slots_read es true)
      (none_read (item_of role) vs (all_refused assigned (item_of role) (exactly (sign (codes ","))) vs (comma_behind es depth no_gap us) (no_item_at_comma role))) (more_slots_read es depth F true no_gap us)

  array_read : {ns : List Node} (is : AreSlots shapes.values ns) (depth : ℕ) → SlotForms is depth → (g : Gap) (us : Items) → Reads assigned array (it g (sign (codes "[")) (slots_tokens is depth us)) (bare kind.ArrayLit (list_node (bare_slots is) ∷ []) ∷ []) us
  unfolding array
  array_read is depth F g us =
      let I = interp assigned (means assigned) in
      ap (built_on (form.Node plain.ArrayLit)) (ap (with_front []) (ap (followed_on (I (punct (codes "]")))) (ap (built_on form.Elements) (all_read is depth F us))))
      ∙ ap (λ z. read (bare kind.ArrayLit (list_node z ∷ []) ∷ []) us) (slots_are is)

  -- as an array pattern

  abbrev tried_slot : Grammar
  tried_slot = maybe pattern_element

  -- `]` ends it, or does not stand there
  data Bracketed (us ts : Items) : Type 0 where
    at_bracket : ts ≡ s (codes "]") us → Bracketed us ts
    no_bracket : Refuses assigned (punct (codes "]")) ts → Bracketed us ts

  lasts : (us : Items) → Lasts assigned tried_slot (Bracketed us)
  unfolding pattern_element rest_pattern default_value
  lasts us = record {
    eat = refl;
    astray = λ ts e b z.
        (let c = and_parts (refuses_at e (punct (codes ","))) _ z in
        let d = and_parts (refuses_at e (punct (codes ")"))) _ c.1 in
        let x = and_parts (refuses_at e (punct (codes "]"))) _ d.1 in
        no_bracket (refused_at assigned (means assigned) (punct (codes "]")) e ts b x.0));
    after_comma = λ g ts e b z. no_bracket refl;
  }

  -- an element of a pattern that may be missing
  maybe_item : (ts us : Items) → AsItem assigned pattern_element ts us → AsItem assigned tried_slot ts us
  maybe_item ts us (item_refused h e b z) = item_before (absent ∷ []) ts e b z (none_read pattern_element ts h)
  maybe_item ts us (whole_item xs h) = whole_item xs (here_read pattern_element ts us xs h)
  maybe_item ts us (item_before xs vs e b z h) = item_before xs vs e b z (here_read pattern_element ts vs xs h)

  missing_at_bracket : (us : Items) → Reads assigned tried_slot (s (codes "]") us) (absent ∷ []) (s (codes "]") us)
  missing_at_bracket us = none_read pattern_element (s (codes "]") us) (all_refused assigned pattern_element (exactly (sign (codes "]"))) (s (codes "]") us) at_token no_pattern_at_bracket)

  missing_at_comma : (ts : Items) → Begins (exactly (sign (codes ","))) ts → Reads assigned tried_slot ts (absent ∷ []) ts
  missing_at_comma ts b = none_read pattern_element ts (all_refused assigned pattern_element (exactly (sign (codes ","))) ts b no_pattern_at_comma)

  ended : (us : Items) → Further assigned tried_slot (Bracketed us) (s (codes "]") us)
  ended us = further_end assigned tried_slot (Bracketed us) (s (codes "]") us) (exactly (sign (codes "]"))) at_token refl (at_bracket refl)

  more_slots_tried : {ns : List Node} (is : AreSlots shapes.values ns) (depth : ℕ) → SlotForms is depth → (b : Bool) (g : Gap) (us : Items) → Further assigned tried_slot (Bracketed us) (more_slots_tokens is depth b g us)
  more_slots_tried shapes.no_slots depth F false g us = ended us
  more_slots_tried shapes.no_slots depth F true g us = further_more assigned tried_slot (Bracketed us) (lasts us) g (s (codes "]") us) (s (codes "]") us) (whole_item (absent ∷ []) (missing_at_bracket us)) (ended us)
  more_slots_tried (shapes.filled e es) depth F b g us =
      let vs = more_slots_tokens es depth false no_gap us in
      further_more assigned tried_slot (Bracketed us) (lasts us) g (element_tokens e depth blank vs) vs (maybe_item (element_tokens e depth blank vs) vs (element_as_pattern assigned e depth F.0 blank vs (slots_followed es depth us))) (more_slots_tried es depth F.1 false no_gap us)
  more_slots_tried (shapes.hole a es) depth F b g us =
      let vs = more_slots_tokens es depth true blank us in
      further_more assigned tried_slot (Bracketed us) (lasts us) g vs vs (whole_item (absent ∷ []) (missing_at_comma vs (comma_behind es depth blank us))) (more_slots_tried es depth F true blank us)

  slots_tried : {ns : List Node} (is : AreSlots shapes.values ns) (depth : ℕ) → SlotForms is depth → (us : Items) → Listed assigned tried_slot (Bracketed us) (lasts us) (slots_tokens is depth us)
  slots_tried shapes.no_slots depth F us = some_listed (absent ∷ []) (s (codes "]") us) (missing_at_bracket us) (ended us)
  slots_tried (shapes.filled e es) depth F us =
      let vs = more_slots_tokens es depth false no_gap us in
      listed assigned tried_slot (Bracketed us) (lasts us) (element_tokens e depth no_gap vs) vs (maybe_item (element_tokens e depth no_gap vs) vs (element_as_pattern assigned e depth F.0 no_gap vs (slots_followed es depth us))) (more_slots_tried es depth F.1 false no_gap us)
  slots_tried (shapes.hole a es) depth F us =
      let vs = more_slots_tokens es depth true no_gap us in
      some_listed (absent ∷ []) vs (missing_at_comma vs (comma_behind es depth no_gap us)) (more_slots_tried es depth F true no_gap us)

  abbrev behind_bracket : Grammar
  behind_bracket = build form.Elements (tried_slot ▸ grammar.many (more tried_slot)) ▸ punct (codes "]") ▸ put Absent

  module _ (g : Gap) (ts us : Items) where
    pattern_is : means assigned part.Pattern (it g (sign (codes "[")) ts) ≡ or_on (interp assigned (means assigned) object_pattern) (it g (sign (codes "[")) ts) (built_on (form.Node plain.ArrayPat) (with_front [] (interp assigned (means assigned) behind_bracket ts)))
    unfolding pattern_body array_pattern names.binding_ident
    pattern_is = means_is assigned part.Pattern (it g (sign (codes "[")) ts)

    pattern_refused : Refuses assigned behind_bracket ts → Wholly assigned (it g (sign (codes "[")) ts) us
    unfolding object_pattern
    pattern_refused h = wholly_refused (pattern_is ∙ ap (λ o. or_on (interp assigned (means assigned) object_pattern) (it g (sign (codes "[")) ts) (built_on (form.Node plain.ArrayPat) (with_front [] o))) h)

    by_list : Listed assigned tried_slot (Bracketed us) (lasts us) ts → Wholly assigned (it g (sign (codes "[")) ts) us
    by_list (none_listed h e b z) =
        let I = interp assigned (means assigned) in
        pattern_refused (ap (followed_on (I (punct (codes "]") ▸ put Absent))) (ap (built_on form.Elements) (ap (followed_on (I (grammar.many (more tried_slot)))) h)))
    by_list (some_listed xs vs h F) = by_last F.last
      where
        read_to : interp assigned (means assigned) behind_bracket ts ≡ with_front (list_node (elements (xs ++ F.nodes)) ∷ []) (interp assigned (means assigned) (punct (codes "]") ▸ put Absent) F.stop)
        read_to = ap (followed_on (interp assigned (means assigned) (punct (codes "]") ▸ put Absent))) (ap (built_on form.Elements) (both_read tried_slot ts vs F.stop xs F.nodes h F.repeats))

        by_last : Bracketed us F.stop → Wholly assigned (it g (sign (codes "[")) ts) us
        by_last (no_bracket k) = pattern_refused (read_to ∙ ap (with_front (list_node (elements (xs ++ F.nodes)) ∷ [])) (ap (followed_on (interp assigned (means assigned) (put Absent))) k))
        by_last (at_bracket k) =
            wholly_read (bare (kind.ArrayPat false) (list_node (elements (xs ++ F.nodes)) ∷ flag_node Absent ∷ []) ∷ [])
            (pattern_is ∙ ap (λ o. or_on (interp assigned (means assigned) object_pattern) (it g (sign (codes "[")) ts) (built_on (form.Node plain.ArrayPat) (with_front [] o)))
            (read_to ∙ ap (λ us'. with_front (list_node (elements (xs ++ F.nodes)) ∷ []) (interp assigned (means assigned) (punct (codes "]") ▸ put Absent) us')) k))

  pub array_new : {ns : List Node} (is : AreSlots shapes.values ns) (depth : ℕ) → SlotForms is depth → NewForm assigned (λ g us. it g (sign (codes "[")) (slots_tokens is depth us)) kind.ArrayLit (list_node (bare_slots is) ∷ [])
  array_new is depth F = literal_new assigned bracket (slots_tokens is depth) kind.ArrayLit (list_node (bare_slots is) ∷ []) (array_read is depth F) (λ g us. by_list g (slots_tokens is depth us) us (slots_tried is depth F us))

  -- an array pattern
  pub array_pattern_read : {ns : List Node} (is : AreSlots shapes.bindings ns) (depth : ℕ) → SlotForms is depth → ReadAsPattern assigned (λ g us. it g (sign (codes "[")) (slots_tokens is depth us)) (bare (kind.ArrayPat false) (list_node (bare_slots is) ∷ absent ∷ []))
  array_pattern_read is depth F = record {
    reads = λ g us.
        (let I = interp assigned (means assigned) in
        let ts = it g (sign (codes "[")) (slots_tokens is depth us) in
        pattern_is g (slots_tokens is depth us) us
        ∙ (ap (λ o. or_on (I object_pattern) ts (built_on (form.Node plain.ArrayPat) (with_front [] (followed_on (I (punct (codes "]") ▸ put Absent)) (built_on form.Elements o))))) (all_read is depth F us)
        ∙ ap (λ z. read (bare (kind.ArrayPat false) (list_node z ∷ absent ∷ []) ∷ []) us) (slots_are is)));
    annotated = simp nodes;
    no_dots = λ g us. refl;
  }
