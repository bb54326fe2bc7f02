-- Methods, getters and setters of objects are read as they are laid out; what is read of them in a pattern.
use Rattle.std.proofs.Common.{◌≡◌, ℕ, bytes_eq, Bool, true, false, List, [], ◌∷◌, codes, refl, ap, sym, ◌∙◌}
use Rattle.std.proofs.lemmas.Bool.{false≢true}
use Rattle.std.proofs.lemmas.Slice.Eq.{bytes_eq-Decides}
use Rattle.ecma_lex.specs.Keys.{is_reserved, reserved_words}
use Rattle.ecma_kind.specs.declared.kind.Kind.TheVariants as kind
use Rattle.ecma_tree.specs.declared.node.Node.{Node}
use Rattle.ecma_tree.specs.Nodes.{absent, list_node, dummy_span}
use Rattle.ecma_grammar.specs.declared.production.Plain.TheVariants as plain
use Rattle.ecma_grammar.specs.declared.production.Form.TheVariants as form
use Rattle.ecma_grammar.specs.trees.Functions.{is_this}
use Rattle.ecma_grammar.specs.Made.{made}
use Rattle.ecma_grammar.specs.Grammar.{◌//◌, punct}
use Rattle.ecma_grammar.specs.productions.Names.{prop_name, prop_start, member_start, binding_ident, computed_prop_name}
use Rattle.ecma_grammar.specs.productions.Patterns.{pattern_property}
use Rattle.ecma_grammar.specs.productions.Functions.{method_async, getter_property, setter_property, method_property}
use Rattle.ecma_print_tokens.specs.Items as items
use Rattle.ecma_print_tokens.specs.Items.{sign, no_gap, Gap, Items, it}
use Rattle.ecma_print_readings.proofs.Machine.{read, means}
use Rattle.ecma_shapes.specs.Shapes as shapes
use Rattle.ecma_shapes.specs.Shapes.{IsArguments, IsPropertyName, IsDefaulted, ident}
use Rattle.ecma_shapes.proofs.Tokens.{key_word, arguments_tokens, property_name_tokens, defaulted_tokens}
use Rattle.ecma_shapes.proofs.Signs.{blank, method_tokens}
use Rattle.ecma_shapes.proofs.Bare.{bare_arguments, bare_params, bare_property_name, bare_defaulted}
use Rattle.ecma_print_readings.proofs.Fronts.{Front, exactly, Begins, at_token, refuses_at, refused_at, refuses_all, all_refused}
use Rattle.ecma_print_readings.proofs.Heads.{nodes, bare}
use Rattle.ecma_print_readings.proofs.Forms.{Laid, s, Reads, Refuses, ends_no_item, AsItem, item_refused, item_before}
use Rattle.ecma_print_readings.proofs.Arrows.{ArgumentForms}
use Rattle.ecma_print_readings.proofs.Blocks.{ReadAsBlock}
use Rattle.ecma_print_readings.proofs.Spreads.{ReadAsDefaulted}
use Rattle.ecma_print_reread_functions.proofs.Functions.{flag, function_made, params_made, signature_read}
use Rattle.ecma_print_reread_functions.proofs.MemberNames.{ReadAsName, Behind, AsWord, no_word, a_word, member_name_form, no_async}
use Rattle.ecma_print_reread_functions.proofs.PropertyNames.{NameForm, key_read, name_read, by_own_name, by_other_name, behind_rest, named_read}

getter_made : (n b : Node) → made form.Getter 0 0 (n ∷ absent ∷ list_node [] ∷ absent ∷ b ∷ []) ≡ bare kind.GetterProp (n ∷ absent ∷ b ∷ [])
getter_made n b = simp nodes

setter_made : (n p b : Node) → is_this p ≡ false → made form.Setter 0 0 (n ∷ absent ∷ list_node (p ∷ []) ∷ absent ∷ b ∷ []) ≡ bare kind.SetterProp (n ∷ absent ∷ p ∷ b ∷ [])
setter_made n p b z = simp (nodes, z)

this_reserved : is_reserved (codes "this") ≡ true
unfolding is_reserved reserved_words
this_reserved = refl

-- no name is `this`
not_this : (w : List ℕ) → is_reserved w ≡ false → bytes_eq w (codes "this") ≡ false
not_this w free = go (bytes_eq w (codes "this")) refl
  where
    go : (b : Bool) → bytes_eq w (codes "this") ≡ b → b ≡ false
    go false e = refl
    go true e = absurd (false≢true (sym free ∙ (ap is_reserved ((bytes_eq-Decides w (codes "this")).0 e) ∙ this_reserved)))

no_this : {n : Node} (is : IsDefaulted n) → is_this (bare_defaulted is) ≡ false
no_this (shapes.no_default (shapes.name_pattern at (ident at' w i) a)) = simp (nodes, not_this w i.free)
no_this (shapes.no_default (shapes.array_pattern at at' es a)) = simp nodes
no_this (shapes.no_default (shapes.object_pattern at at' ps a)) = simp nodes
no_this (shapes.with_default at p e) = simp nodes

no_pattern_at_star : refuses_all (exactly (sign (codes "*"))) pattern_property ≡ true
unfolding pattern_property prop_name computed_prop_name binding_ident
no_pattern_at_star = refl

-- what the name of a property begins with ends no item, and stands behind no name in a pattern
record Fronted (f : Laid) : Type 0 where
  pub front : Front
  pub begins : (g : Gap) (us : Items) → Begins front (f g us)
  pub no_end : ends_no_item front ≡ true
  pub no_colon : refuses_at front (punct (codes ":")) ≡ true
  pub no_equals : refuses_at front (punct (codes "=")) ≡ true

fronted : {n : Node} (key : IsPropertyName n) (depth : ℕ) → Fronted (property_name_tokens key depth)
fronted (shapes.key_name k) depth = record { front = exactly (items.key (key_word k)); begins = λ g us. at_token; no_end = refl; no_colon = refl; no_equals = refl }
fronted (shapes.string_name at raw t) depth = record { front = exactly (items.string raw); begins = λ g us. at_token; no_end = refl; no_colon = refl; no_equals = refl }
fronted (shapes.number_name at raw t) depth = record { front = exactly (items.number raw); begins = λ g us. at_token; no_end = refl; no_colon = refl; no_equals = refl }
fronted (shapes.big_int_name at raw t) depth = record { front = exactly (items.big_int raw); begins = λ g us. at_token; no_end = refl; no_colon = refl; no_equals = refl }
fronted (shapes.computed_name at e) depth = record { front = exactly (sign (codes "[")); begins = λ g us. at_token; no_end = refl; no_colon = refl; no_equals = refl }

module _ (assigned : Bool) where
  -- in a pattern

  -- a word that neither `:` nor `=` follows
  module _ (vs us : Items) (e : Front) (b : Begins e vs) (z : ends_no_item e ≡ true) (c : refuses_at e (punct (codes ":")) ≡ true) (q : refuses_at e (punct (codes "=")) ≡ true) where
    no_colon : Refuses assigned (punct (codes ":")) vs
    no_colon = refused_at assigned (means assigned) (punct (codes ":")) e vs b c

    no_equals : Refuses assigned (punct (codes "=")) vs
    no_equals = refused_at assigned (means assigned) (punct (codes "=")) e vs b q

    word_tried : (w : List ℕ) (g : Gap) → AsItem assigned pattern_property (it g (items.key w) vs) us
    unfolding binding_ident
    word_tried w g = behind_rest assigned (it g (items.key w) vs) us refl (go (is_reserved w) refl)
      where
        go : (r : Bool) → is_reserved w ≡ r → AsItem assigned (by_other_name assigned // by_own_name assigned) (it g (items.key w) vs) us
        go false r = item_before _ vs e b z (named_read assigned w g vs vs (absent ∷ []) r no_colon (rw no_equals refl))
        go true r = item_refused (rw (key_read assigned w g vs, no_colon, r) refl) (exactly (items.key w)) at_token refl

    name_tried : {n : Node} (key : IsPropertyName n) (depth : ℕ) → NameForm assigned key depth → (g : Gap) → AsItem assigned pattern_property (property_name_tokens key depth g vs) us
    unfolding prop_name computed_prop_name binding_ident
    name_tried (shapes.key_name k) depth F g = word_tried (key_word k) g
    name_tried (shapes.string_name at raw t) depth F g = behind_rest assigned (it g (items.string raw) vs) us refl (item_refused (rw no_colon refl) (exactly (items.string raw)) at_token refl)
    name_tried (shapes.number_name at raw t) depth F g = behind_rest assigned (it g (items.number raw) vs) us refl (item_refused (rw no_colon refl) (exactly (items.number raw)) at_token refl)
    name_tried (shapes.big_int_name at raw t) depth F g = behind_rest assigned (it g (items.big_int raw) vs) us refl (item_refused (rw no_colon refl) (exactly (items.big_int raw)) at_token refl)
    name_tried (shapes.computed_name at e') depth F g =
        behind_rest assigned (property_name_tokens (shapes.computed_name at e') depth g vs) us refl (item_refused (rw (name_read assigned (shapes.computed_name at e') depth F g vs, no_colon) refl) (exactly (sign (codes "["))) at_token refl)

  pub accessor_tried : {n : Node} (key : IsPropertyName n) (depth : ℕ) (w : List ℕ) (g : Gap) (rest us : Items) → AsItem assigned pattern_property (it g (items.key w) (property_name_tokens key depth blank rest)) us
  accessor_tried key depth w g rest us = let f = fronted key depth in word_tried (property_name_tokens key depth blank rest) us f.front (f.begins blank rest) f.no_end f.no_colon f.no_equals w g

  pub no_getter_at_set : (g : Gap) (us : Items) → Refuses assigned getter_property (it g (items.key (codes "set")) us)
  unfolding getter_property
  no_getter_at_set g us = refl

  module _ {ps : Node} (is : IsArguments shapes.bindings ps) (depth : ℕ) (F : ArgumentForms assigned is depth) {f : Laid} {b : Node} (B : ReadAsBlock assigned f b) {n : Node} (key : IsPropertyName n) (N : NameForm assigned key depth) where
    abbrev rest : Items → Items
    rest us = s (codes "(") (arguments_tokens is depth (s (codes ")") (f blank us)))

    abbrev name : Laid
    name = property_name_tokens key depth

    abbrev tokens : Bool → Bool → Laid
    tokens x y g us = method_tokens x y (λ h. name h (rest us)) g

    behind : (us : Items) → Behind assigned (rest us)
    unfolding prop_start
    behind us = record { no_start = refl; no_star = refl; no_brace = refl }

    named : ReadAsName assigned name (bare_property_name key)
    named = member_name_form assigned (shapes.property_member key) depth N

    pub no_dots : (x y : Bool) (g : Gap) (us : Items) → Refuses assigned (punct (codes "...")) (tokens x y g us)
    no_dots true true g us = refl
    no_dots true false g us = refl
    no_dots false true g us = refl
    no_dots false false g us = go key
      where
        go : {m : Node} (k : IsPropertyName m) → Refuses assigned (punct (codes "...")) (property_name_tokens k depth g (rest us))
        go (shapes.key_name k) = refl
        go (shapes.string_name at raw t) = refl
        go (shapes.number_name at raw t) = refl
        go (shapes.big_int_name at raw t) = refl
        go (shapes.computed_name at e) = refl

    pub no_getter : (x y : Bool) (g : Gap) (us : Items) → Refuses assigned getter_property (tokens x y g us)
    unfolding getter_property
    no_getter true true g us = refl
    no_getter true false g us = refl
    no_getter false true g us = refl
    no_getter false false g us = let K = named in let C = behind us in go (K.as_word g (rest us)) C
      where
        of_word : (h : Gap) (w : List ℕ) (c : Bool) → bytes_eq w (codes "get") ≡ c → Behind assigned (rest us) → Refuses assigned getter_property (it h (items.key w) (rest us))
        of_word h w true e C = rw (e, C.no_start) refl
        of_word h w false e C = rw e refl

        go : AsWord assigned (name g (rest us)) (rest us) → Behind assigned (rest us) → Refuses assigned getter_property (name g (rest us))
        go (no_word a) C = rw (a (codes "get")) refl
        go (a_word h w e) C = rw e (of_word h w (bytes_eq w (codes "get")) refl C)

    pub no_setter : (x y : Bool) (g : Gap) (us : Items) → Refuses assigned setter_property (tokens x y g us)
    unfolding setter_property
    no_setter true true g us = refl
    no_setter true false g us = refl
    no_setter false true g us = refl
    no_setter false false g us = let K = named in let C = behind us in go (K.as_word g (rest us)) C
      where
        of_word : (h : Gap) (w : List ℕ) (c : Bool) → bytes_eq w (codes "set") ≡ c → Behind assigned (rest us) → Refuses assigned setter_property (it h (items.key w) (rest us))
        of_word h w true e C = rw (e, C.no_start) refl
        of_word h w false e C = rw e refl

        go : AsWord assigned (name g (rest us)) (rest us) → Behind assigned (rest us) → Refuses assigned setter_property (name g (rest us))
        go (no_word a) C = rw (a (codes "set")) refl
        go (a_word h w e) C = rw e (of_word h w (bytes_eq w (codes "set")) refl C)

    abbrev first : Bool → Bool → Node
    first x y = made (form.Function plain.MethodProp) 0 0 (flag y ∷ flag x ∷ bare_property_name key ∷ absent ∷ list_node (bare_arguments is) ∷ absent ∷ b ∷ [])

    async_star_read : (g : Gap) (us : Items) → Reads assigned method_property (tokens true true g us) (first true true ∷ []) us
    unfolding method_property method_async member_start prop_start
    async_star_read g us = rw (name_read assigned key depth N no_gap (rest us), signature_read assigned is depth F B us) refl

    method_read : (x y : Bool) (g : Gap) (us : Items) → Reads assigned method_property (tokens x y g us) (first x y ∷ []) us
    unfolding method_property method_async member_start
    method_read true true g us = async_star_read g us
    method_read true false g us = rw (name_read assigned key depth N no_gap (rest us), signature_read assigned is depth F B us) refl
    method_read false true g us =
        (let K = named in
        let a = K.starts blank (rest us) in
        let c = K.no_sign blank (rest us) in
        rw (K.on_line blank (rest us), a.1, c.0, name_read assigned key depth N blank (rest us), signature_read assigned is depth F B us) refl)
    method_read false false g us = (let K = named in let c = K.no_sign g (rest us) in rw (no_async assigned K g (rest us) (behind us), c.0, name_read assigned key depth N g (rest us), signature_read assigned is depth F B us) refl)

    pub method_form : (x y : Bool) (g : Gap) (us : Items)
        → Reads assigned method_property (tokens x y g us) (bare kind.MethodProp (bare_property_name key ∷ bare (kind.Function x y) (list_node (bare_params (bare_arguments is)) ∷ b ∷ absent ∷ absent ∷ []) ∷ []) ∷ []) us
    method_form x y g us =
        method_read x y g us
        ∙ ap (λ z. read (z ∷ []) us)
        (function_made plain.MethodProp x y (bare_property_name key) (list_node (bare_arguments is)) b
        ∙ ap (λ z. bare kind.MethodProp (bare_property_name key ∷ bare (kind.Function x y) (z ∷ b ∷ absent ∷ absent ∷ []) ∷ [])) (params_made is))

    pub method_tried : (x y : Bool) (g : Gap) (us : Items) → AsItem assigned pattern_property (tokens x y g us) us
    method_tried true true g us = word_tried (it blank (sign (codes "*")) (name no_gap (rest us))) us (exactly (sign (codes "*"))) at_token refl refl refl (codes "async") g
    method_tried true false g us =
        let ts = it g (sign (codes "*")) (name no_gap (rest us)) in
        item_refused (all_refused assigned pattern_property (exactly (sign (codes "*"))) ts at_token no_pattern_at_star) (exactly (sign (codes "*"))) at_token refl
    method_tried false true g us = accessor_tried key depth (codes "async") g (rest us) us
    method_tried false false g us = name_tried (rest us) us (exactly (sign (codes "("))) at_token refl refl refl key depth N g

    -- behind `get` and `set`

    abbrev parts : List Node
    parts = bare_property_name key ∷ absent ∷ list_node (bare_arguments is) ∷ absent ∷ b ∷ []

    getter_read : (g : Gap) (us : Items) → Reads assigned getter_property (it g (items.key (codes "get")) (name blank (rest us))) (made form.Getter 0 0 parts ∷ []) us
    unfolding getter_property
    getter_read g us = (let K = named in let a = K.starts blank (rest us) in rw (a.1, name_read assigned key depth N blank (rest us), signature_read assigned is depth F B us) refl)

    setter_read : (g : Gap) (us : Items) → Reads assigned setter_property (it g (items.key (codes "set")) (name blank (rest us))) (made form.Setter 0 0 parts ∷ []) us
    unfolding setter_property
    setter_read g us = (let K = named in let a = K.starts blank (rest us) in rw (a.1, name_read assigned key depth N blank (rest us), signature_read assigned is depth F B us) refl)

  module _ (depth : ℕ) where
    pub getter_form : {f : Laid} {b : Node} → ReadAsBlock assigned f b → {n : Node} (key : IsPropertyName n) → NameForm assigned key depth → (g : Gap) (us : Items)
        → Reads assigned getter_property (it g (items.key (codes "get")) (property_name_tokens key depth blank (s (codes "(") (s (codes ")") (f blank us))))) (bare kind.GetterProp (bare_property_name key ∷ absent ∷ b ∷ []) ∷ []) us
    getter_form {b = b} B key N g us = getter_read (shapes.no_arguments dummy_span) depth tt B key N g us ∙ ap (λ z. read (z ∷ []) us) (getter_made (bare_property_name key) b)

    pub setter_form : {p : Node} (param : IsDefaulted p) → ReadAsDefaulted assigned (defaulted_tokens param depth) (bare_defaulted param) → {f : Laid} {b : Node} → ReadAsBlock assigned f b → {n : Node} (key : IsPropertyName n) → NameForm assigned key depth → (g : Gap) (us : Items)
        → Reads assigned setter_property (it g (items.key (codes "set")) (property_name_tokens key depth blank (s (codes "(") (defaulted_tokens param depth no_gap (s (codes ")") (f blank us)))))) (bare kind.SetterProp (bare_property_name key ∷ absent ∷ bare_defaulted param ∷ b ∷ []) ∷ []) us
    setter_form param D {b = b} B key N g us =
        setter_read (shapes.arguments dummy_span (shapes.bound param) shapes.no_elements) depth (D, tt) B key N g us ∙ ap (λ z. read (z ∷ []) us) (setter_made (bare_property_name key) (bare_defaulted param) b (no_this param))
