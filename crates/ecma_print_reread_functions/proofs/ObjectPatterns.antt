-- Patterns of properties are read as they are laid out; an object is read as one whole, or not.
use Rattle.ecma_kind.specs.declared.kind.Kind.TheVariants as kind
use Rattle.ecma_grammar.specs.declared.production.Part.TheVariants as part
use Rattle.ecma_grammar.specs.declared.production.Plain.TheVariants as plain
use Rattle.ecma_grammar.specs.declared.production.Form.TheVariants as form
use Rattle.ecma_grammar.specs.Grammar as grammar
use Rattle.ecma_print_tokens.specs.Items as items
use Rattle.ecma_shapes.specs.Shapes as shapes
use Rattle.ecma_print_reread_functions.proofs.ObjectMethods as methods
use Rattle.std.proofs.Common.{◌≡◌, ℕ, Bool, true, false, List, [], ◌∷◌, ◌++◌, codes, nat_le, refl, ap, ◌∙◌, append-nil}
use Rattle.std.proofs.lemmas.Bool.{and_parts}
use Rattle.ecma_lex.specs.Keys.{is_reserved}
use Rattle.ecma_tree.specs.declared.node.Node.{Node}
use Rattle.ecma_tree.specs.Nodes.{absent, list_node}
use Rattle.ecma_grammar.specs.declared.production.Flag.TheVariants.{Absent}
use Rattle.ecma_grammar.specs.trees.Parts.{flag_node}
use Rattle.ecma_grammar.specs.Grammar.{Grammar, put, ◌▸◌, ◌//◌, punct, commas, list}
use Rattle.ecma_grammar.specs.productions.Names.{prop_name, binding_ident, computed_prop_name}
use Rattle.ecma_grammar.specs.productions.Types.{default_value}
use Rattle.ecma_grammar.specs.productions.Patterns.{pattern_body, pattern_property, array_pattern, object_pattern}
use Rattle.ecma_print_tokens.specs.Items.{sign, no_gap, Gap, Items, it}
use Rattle.ecma_print_readings.proofs.Machine.{Out, read, fails, with_front, followed_on, or_on, built_on, interp, means}
use Rattle.ecma_shapes.specs.Shapes.{ident, IsPropertyName, IsProperty, AreProperties, IsInitializer}
use Rattle.ecma_shapes.proofs.Tokens.{initializer_tokens, defaulted_tokens, key_word, expression_tokens, property_name_tokens, property_tokens, properties_tokens, more_properties_tokens}
use Rattle.ecma_shapes.proofs.Signs.{blank}
use Rattle.ecma_shapes.proofs.Bare.{bare_initializer, bare_property_name, bare_property, bare_properties, bare_expression}
use Rattle.ecma_print_readings.proofs.Moves.{eats}
use Rattle.ecma_print_readings.proofs.Levels.{means_is}
use Rattle.ecma_print_readings.proofs.Fronts.{Front, exactly, Begins, at_token, refuses_at, refused_at, all_refused}
use Rattle.ecma_print_readings.proofs.Heads.{nodes, bare}
use Rattle.ecma_print_readings.proofs.Forms.{s, Reads, Refuses, ends_no_list, AsItem, item_refused, whole_item, item_before, NewForm}
use Rattle.ecma_print_readings.proofs.Bindings.{ends_no_equals, used}
use Rattle.ecma_print_readings.proofs.Repeats.{Repeats, repeats_end, repeats_more, repeated}
use Rattle.ecma_print_readings.proofs.Further.{more, Lasts, Further, further_end, further_more, Listed, none_listed, some_listed, listed}
use Rattle.ecma_print_readings.proofs.Params.{last_comma, Closes, no_comma, closing}
use Rattle.ecma_print_readings.proofs.Spreads.{no_rest, ReadAsPattern, initializer_read}
use Rattle.ecma_print_readings.proofs.Tried.{same_item, as_pattern, defaulted, defaulted_pattern, AsName, no_name, a_name, as_name, stopped, Wholly, wholly_refused, wholly_read}
use Rattle.ecma_print_readings.proofs.Literals.{literal_new}
use Rattle.ecma_print_reread_functions.proofs.PropertyNames.{NameForm, name_read, by_own_name, by_other_name, behind_rest, named_read}
use Rattle.ecma_print_reread_functions.proofs.Objects.{Ended, ended, no_pattern_at_brace, brace, PropertyForm, PropertyForms, no_spread, object_read}

module _ (assigned : Bool) where
  -- a name before `:`, by itself
  module _ (vs : Items) where
    abbrev colon : Items
    colon = s (codes ":") vs

    key_named : (b : Bool) (w : List ℕ) → is_reserved w ≡ b → (g : Gap) (us : Items) → AsItem assigned (by_own_name assigned) (it g (items.key w) colon) us
    unfolding binding_ident
    key_named true w r g us = item_refused (rw r refl) (exactly (items.key w)) at_token refl
    key_named false w r g us = item_before (bare kind.AssignPatProp (bare kind.BindingIdent (bare (kind.Ident w 0 false) [] ∷ absent ∷ []) ∷ absent ∷ []) ∷ []) colon (exactly (sign (codes ":"))) at_token refl (rw r refl)

    name_named : {n : Node} (is : IsPropertyName n) (depth : ℕ) (g : Gap) (us : Items) → AsItem assigned (by_own_name assigned) (property_name_tokens is depth g colon) us
    unfolding binding_ident
    name_named (shapes.key_name k) depth g us = key_named (is_reserved (key_word k)) (key_word k) refl g us
    name_named (shapes.string_name at raw t) depth g us = item_refused refl (exactly (items.string raw)) at_token refl
    name_named (shapes.number_name at raw t) depth g us = item_refused refl (exactly (items.number raw)) at_token refl
    name_named (shapes.big_int_name at raw t) depth g us = item_refused refl (exactly (items.big_int raw)) at_token refl
    name_named (shapes.computed_name at e) depth g us = item_refused refl (exactly (sign (codes "["))) at_token refl

    -- with what its value is as a pattern
    name_renamed : {n : Node} (is : IsPropertyName n) (depth : ℕ) → NameForm assigned is depth → (g : Gap) (us : Items) → AsItem assigned (defaulted assigned) vs us → AsItem assigned ((by_other_name assigned) // (by_own_name assigned)) (property_name_tokens is depth g colon) us
    name_renamed is depth F g us p =
        let I = interp assigned (means assigned) in
        let ts = property_name_tokens is depth g colon in
        let n = bare_property_name is in
        let step : (o : Out) → I (defaulted assigned) vs ≡ o → I (by_other_name assigned) ts ≡ built_on (form.Node plain.KeyValuePatProp) (with_front (n ∷ []) (with_front [] o)) =
        λ o h. ap (built_on (form.Node plain.KeyValuePatProp)) (ap (followed_on (I (punct (codes ":") ▸ defaulted assigned))) (name_read assigned is depth F g colon) ∙ ap (λ x. with_front (n ∷ []) (with_front [] x)) h) in
        by_value is depth g us step p
      where
        by_value : {n : Node} (is : IsPropertyName n) (depth : ℕ) (g : Gap) (us : Items)
            → ((o : Out) → interp assigned (means assigned) (defaulted assigned) vs ≡ o → interp assigned (means assigned) (by_other_name assigned) (property_name_tokens is depth g colon) ≡ built_on (form.Node plain.KeyValuePatProp) (with_front (bare_property_name is ∷ []) (with_front [] o)))
            → AsItem assigned (defaulted assigned) vs us → AsItem assigned ((by_other_name assigned) // (by_own_name assigned)) (property_name_tokens is depth g colon) us
        by_value is depth g us step (item_refused h e b z) =
            same_item assigned ((by_other_name assigned) // (by_own_name assigned)) (by_own_name assigned) (property_name_tokens is depth g colon) us (ap (or_on (interp assigned (means assigned) (by_own_name assigned)) (property_name_tokens is depth g colon)) (step fails h)) (name_named is depth g us)
        by_value is depth g us step (whole_item xs h) = whole_item _ (ap (or_on (interp assigned (means assigned) (by_own_name assigned)) (property_name_tokens is depth g colon)) (step (read xs us) h))
        by_value is depth g us step (item_before xs ws e b z h) = item_before _ ws e b z (ap (or_on (interp assigned (means assigned) (by_own_name assigned)) (property_name_tokens is depth g colon)) (step (read xs ws) h))

  -- a name behind `...`
  by_name : (g : Gap) (ts us : Items) → AsName assigned ts us → AsItem assigned pattern_property (it g (sign (codes "...")) ts) us
  unfolding pattern_property prop_name computed_prop_name binding_ident
  by_name g ts us (no_name h) =
      let I = interp assigned (means assigned) in
      let dots = it g (sign (codes "...")) ts in
      item_refused (ap (or_on (I ((by_other_name assigned) // (by_own_name assigned))) dots) (ap (built_on (form.Node plain.RestPat)) (ap (with_front []) (ap (followed_on (I (put Absent))) h)))) (exactly (sign (codes "..."))) at_token refl
  by_name g ts us (a_name xs vs h st) =
      let I = interp assigned (means assigned) in
      let dots = it g (sign (codes "...")) ts in
      stopped assigned pattern_property dots us vs (bare kind.RestPat (xs ++ flag_node Absent ∷ []) ∷ [])
      (ap (or_on (I ((by_other_name assigned) // (by_own_name assigned))) dots) (ap (built_on (form.Node plain.RestPat)) (ap (with_front []) (ap (followed_on (I (put Absent))) h)))) st

  property_tried : {n : Node} (is : IsProperty shapes.values n) (depth : ℕ) → PropertyForm assigned is depth → (g : Gap) (us : Items) → Ended us → AsItem assigned pattern_property (property_tokens is depth g us) us
  property_tried (shapes.key_value at k v) depth F g us E =
      let vs = expression_tokens v depth blank us in
      let V = F.1 in
      behind_rest assigned (property_name_tokens k depth g (s (codes ":") vs)) us (no_spread assigned k depth g (s (codes ":") vs))
      (name_renamed vs k depth F.0 g us (defaulted_pattern assigned vs us (as_pattern assigned vs us (no_rest assigned V.lead blank us) (V.param blank us E.front E.begins (ends_no_equals E.front E.ends, E.ends)))))
  property_tried (shapes.shorthand (ident at w i)) depth F g us E =
      let no_equals = refused_at assigned (means assigned) (punct (codes "=")) E.front us E.begins (ends_no_equals E.front E.ends) in
      let no_colon = refused_at assigned (means assigned) (punct (codes ":")) E.front us E.begins E.no_colon in
      behind_rest assigned (it g (items.key w) us) us refl (whole_item _ (named_read assigned w g us us (absent ∷ []) i.free no_colon (rw no_equals refl)))
  property_tried (shapes.initialized at (ident at' w i) v) depth F g us E =
      let vs = it blank (sign (codes "=")) (expression_tokens v depth blank us) in
      behind_rest assigned (it g (items.key w) vs) us refl (whole_item _ (named_read assigned w g vs us (bare_expression v ∷ []) i.free refl (rw (used assigned F blank us E.front E.begins E.ends) refl)))
  property_tried (shapes.method_property at k (shapes.function_of at' at'' x y ps w b a a')) depth F g us E = let M = F.1 in methods.method_tried assigned ps depth M.0 M.1 k F.0 x y g us
  property_tried (shapes.getter_property at k a b) depth F g us E = methods.accessor_tried assigned k depth (codes "get") g _ us
  property_tried (shapes.setter_property at k a p b) depth F g us E = methods.accessor_tried assigned k depth (codes "set") g _ us
  property_tried (shapes.spread_property at e) depth F g us E =
      let ts = expression_tokens e depth no_gap us in
      by_name g ts us (as_name assigned ts us (as_pattern assigned ts us (no_rest assigned F.lead no_gap us) (F.param no_gap us E.front E.begins (ends_no_equals E.front E.ends, E.ends))))

  -- `}` ends them, or does not stand there
  data Braced (us ts : Items) : Type 0 where
    at_brace : ts ≡ it blank (sign (codes "}")) us → Braced us ts
    no_brace : Refuses assigned (punct (codes "}")) ts → Braced us ts

  pattern_eats : nat_le 1 (eats (more pattern_property)) ≡ true
  unfolding pattern_property prop_name computed_prop_name binding_ident default_value
  pattern_eats = refl

  never : (ts : Items) (e : Front) → Begins e ts → ends_no_list e ≡ true → Refuses assigned (punct (codes "}")) ts
  never ts e b z =
      let c = and_parts (refuses_at e (punct (codes ")"))) _ z in
      let d = and_parts (refuses_at e (punct (codes "]"))) _ c.1 in
      refused_at assigned (means assigned) (punct (codes "}")) e ts b d.1

  abbrev Last : Items → Items → Type 0
  Last us = Closes assigned (Braced us)

  lasts : (us : Items) → Lasts assigned pattern_property (Last us)
  lasts us = closing assigned pattern_property (Braced us) pattern_eats (λ ts e b z. no_brace (never ts e b z))

  more_properties_tried : {ns : List Node} (is : AreProperties shapes.values ns) (depth : ℕ) → PropertyForms assigned is depth → (us : Items) → Further assigned pattern_property (Last us) (more_properties_tokens is depth us)
  more_properties_tried shapes.no_properties depth F us =
      let end = it blank (sign (codes "}")) us in
      let brace = exactly (sign (codes "}")) in
      further_end assigned pattern_property (Last us) end brace at_token refl (no_comma assigned (Braced us) end brace at_token refl (at_brace refl))
  more_properties_tried (shapes.more_properties p ps) depth F us =
      let vs = more_properties_tokens ps depth us in
      further_more assigned pattern_property (Last us) (lasts us) no_gap (property_tokens p depth blank vs) vs (property_tried p depth F.0 blank vs (ended ps depth us)) (more_properties_tried ps depth F.1 us)

  abbrev behind_brace : Grammar
  behind_brace = list (commas pattern_property) ▸ punct (codes "}") ▸ put Absent

  module _ (g : Gap) (ts us : Items) where
    abbrev braced : Items
    braced = it g (sign (codes "{")) ts

    pattern_is : means assigned part.Pattern braced ≡ built_on (form.Node plain.ObjectPat) (with_front [] (interp assigned (means assigned) behind_brace ts))
    unfolding pattern_body array_pattern object_pattern binding_ident
    pattern_is = means_is assigned part.Pattern braced

    pattern_refused : Refuses assigned behind_brace ts → Wholly assigned braced us
    pattern_refused h = wholly_refused (pattern_is ∙ ap (λ o. built_on (form.Node plain.ObjectPat) (with_front [] o)) h)

    pattern_whole : (xs : List Node) → Reads assigned behind_brace ts xs us → Wholly assigned braced us
    pattern_whole xs h = wholly_read (bare (kind.ObjectPat false) xs ∷ []) (pattern_is ∙ ap (λ o. built_on (form.Node plain.ObjectPat) (with_front [] o)) h)

    -- some are read, up to the place where they end
    module _ (xs : List Node) (vs : Items) (h : Reads assigned pattern_property ts xs vs) (F : Further assigned pattern_property (Last us) vs) where
      abbrev place : Items
      place = let l = F.last in l.rest

      abbrev found : List Node
      found = xs ++ (F.nodes ++ [])

      read_to : interp assigned (means assigned) behind_brace ts ≡ with_front (list_node found ∷ []) (interp assigned (means assigned) (punct (codes "}") ▸ put Absent) place)
      read_to =
          let I = interp assigned (means assigned) in
          let l = F.last in
          ap (followed_on (I (punct (codes "}") ▸ put Absent))) (ap (built_on form.List) (ap (or_on (I grammar.nothing) ts)
          (ap (followed_on (I (grammar.many (more pattern_property) ▸ last_comma))) h
          ∙ ap (with_front xs) (ap (followed_on (I last_comma)) (repeated assigned (more pattern_property) vs F.stop F.nodes F.repeats) ∙ ap (with_front F.nodes) l.comma))))

      some_tried : Braced us place → Wholly assigned braced us
      some_tried (no_brace k) = pattern_refused (read_to ∙ ap (with_front (list_node found ∷ [])) (ap (followed_on (interp assigned (means assigned) (put Absent))) k))
      some_tried (at_brace k) = pattern_whole (list_node found ∷ flag_node Absent ∷ []) (read_to ∙ ap (λ us'. with_front (list_node found ∷ []) (interp assigned (means assigned) (punct (codes "}") ▸ put Absent) us')) k)

    by_list : Listed assigned pattern_property (Last us) (lasts us) ts → Wholly assigned braced us
    by_list (none_listed h e b z) =
        let I = interp assigned (means assigned) in
        let c = and_parts (refuses_at e (punct (codes ","))) (ends_no_list e) z in
        pattern_refused
        (ap (followed_on (I (punct (codes "}") ▸ put Absent))) (ap (built_on form.List) (ap (or_on (I grammar.nothing) ts) (ap (followed_on (I (grammar.many (more pattern_property) ▸ last_comma))) h)))
        ∙ ap (with_front (list_node [] ∷ [])) (ap (followed_on (I (put Absent))) (never ts e b c.1)))
    by_list (some_listed xs vs h F) = some_tried xs vs h F (let l = F.last in l.closed)

  properties_tried : {ns : List Node} (is : AreProperties shapes.values ns) (depth : ℕ) → PropertyForms assigned is depth → (g : Gap) (us : Items) → Wholly assigned (it g (sign (codes "{")) (properties_tokens is depth us)) us
  properties_tried shapes.no_properties depth F g us =
      pattern_whole g (s (codes "}") us) us (list_node [] ∷ flag_node Absent ∷ []) (rw (all_refused assigned pattern_property (exactly (sign (codes "}"))) (s (codes "}") us) at_token no_pattern_at_brace) refl)
  properties_tried (shapes.more_properties p ps) depth F g us =
      let vs = more_properties_tokens ps depth us in
      by_list g (property_tokens p depth blank vs) us (listed assigned pattern_property (Last us) (lasts us) (property_tokens p depth blank vs) vs (property_tried p depth F.0 blank vs (ended ps depth us)) (more_properties_tried ps depth F.1 us))

  pub object_new : {ns : List Node} (is : AreProperties shapes.values ns) (depth : ℕ) → PropertyForms assigned is depth → NewForm assigned (λ g us. it g (sign (codes "{")) (properties_tokens is depth us)) kind.ObjectLit (list_node (bare_properties is) ∷ [])
  object_new is depth F = literal_new assigned brace (properties_tokens is depth) kind.ObjectLit (list_node (bare_properties is) ∷ []) (object_read assigned is depth F) (properties_tried is depth F)

  -- an object pattern

  pattern_property_read : {n : Node} (is : IsProperty shapes.bindings n) (depth : ℕ) → PropertyForm assigned is depth → (g : Gap) (us : Items) → Ended us → Reads assigned pattern_property (property_tokens is depth g us) (bare_property is ∷ []) us
  unfolding pattern_property binding_ident
  pattern_property_read (shapes.renamed at k p) depth F g us E =
      let I = interp assigned (means assigned) in
      let vs = defaulted_tokens p depth blank us in
      let D = F.1 in
      ap (or_on (I ((by_other_name assigned) // (by_own_name assigned))) (property_name_tokens k depth g (s (codes ":") vs))) (ap (built_on (form.Node plain.RestPat)) (ap (followed_on (I (binding_ident ▸ put Absent))) (no_spread assigned k depth g (s (codes ":") vs))))
      ∙ rw (name_read assigned k depth F.0 g (s (codes ":") vs), D.reads blank us (record { front = E.front; begins = E.begins; ends = E.ends })) refl
  pattern_property_read (shapes.named at at' (ident of w i) a v) depth F g us E =
      named_read assigned w g (initializer_tokens v depth us) us (bare_initializer v ∷ []) i.free (no_colon_behind v depth us E) (initializer_read assigned false v depth F us (record { front = E.front; begins = E.begins; ends = E.ends }))
    where
      no_colon_behind : {n : Node} (v : IsInitializer n) (depth : ℕ) (us : Items) → Ended us → Refuses assigned (punct (codes ":")) (initializer_tokens v depth us)
      no_colon_behind (shapes.no_initializer a) depth us E = refused_at assigned (means assigned) (punct (codes ":")) E.front us E.begins E.no_colon
      no_colon_behind (shapes.initializer e) depth us E = refl
  pattern_property_read (shapes.rest_property at at' (ident of w i) a b) depth F g us E = rw i.free refl

  more_pattern_properties_read : {ns : List Node} (is : AreProperties shapes.bindings ns) (depth : ℕ) → PropertyForms assigned is depth → (us : Items) → Repeats assigned (more pattern_property) (more_properties_tokens is depth us) (bare_properties is) (it blank (sign (codes "}")) us)
  more_pattern_properties_read shapes.no_properties depth F us = repeats_end assigned (more pattern_property) (it blank (sign (codes "}")) us) refl
  more_pattern_properties_read (shapes.more_properties p ps) depth F us =
      let vs = more_properties_tokens ps depth us in
      repeats_more assigned (more pattern_property) pattern_eats _ vs (it blank (sign (codes "}")) us) (bare_property p ∷ []) (bare_properties ps) (ap (with_front []) (pattern_property_read p depth F.0 blank vs (ended ps depth us))) (more_pattern_properties_read ps depth F.1 us)

  behind_brace_read : {ns : List Node} (is : AreProperties shapes.bindings ns) (depth : ℕ) → PropertyForms assigned is depth → (us : Items) → Reads assigned behind_brace (properties_tokens is depth us) (list_node (bare_properties is) ∷ absent ∷ []) us
  behind_brace_read shapes.no_properties depth F us = rw (all_refused assigned pattern_property (exactly (sign (codes "}"))) (s (codes "}") us) at_token no_pattern_at_brace) refl
  behind_brace_read (shapes.more_properties p ps) depth F us =
      let vs = more_properties_tokens ps depth us in
      rw (pattern_property_read p depth F.0 blank vs (ended ps depth us), repeated assigned (more pattern_property) vs (it blank (sign (codes "}")) us) (bare_properties ps) (more_pattern_properties_read ps depth F.1 us), append-nil (bare_properties ps)) refl

  pub object_pattern_read : {ns : List Node} (is : AreProperties shapes.bindings ns) (depth : ℕ) → PropertyForms assigned is depth
      → ReadAsPattern assigned (λ g us. it g (sign (codes "{")) (properties_tokens is depth us)) (bare (kind.ObjectPat false) (list_node (bare_properties is) ∷ absent ∷ []))
  object_pattern_read is depth F = record {
    reads = λ g us. pattern_is g (properties_tokens is depth us) us ∙ ap (λ o. built_on (form.Node plain.ObjectPat) (with_front [] o)) (behind_brace_read is depth F us);
    annotated = simp nodes;
    no_dots = λ g us. refl;
  }
