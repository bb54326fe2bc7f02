-- Objects are read as they are laid out.
use Rattle.ecma_kind.specs.declared.kind.Kind.TheVariants as kind
use Rattle.ecma_grammar.specs.declared.production.Plain.TheVariants as plain
use Rattle.ecma_grammar.specs.declared.production.Form.TheVariants as form
use Rattle.ecma_grammar.specs.productions.Names as names
use Rattle.ecma_grammar.specs.productions.Functions as functions
use Rattle.ecma_grammar.specs.productions.Operators as operators
use Rattle.ecma_grammar.specs.productions.Primary as primaries
use Rattle.ecma_grammar.specs.productions.Chains as chains
use Rattle.ecma_grammar.specs.productions.Classes as classes
use Rattle.ecma_grammar.specs.productions.Declarations as declarations
use Rattle.ecma_grammar.specs.productions.Statements as statements
use Rattle.ecma_grammar.specs.productions.Modules as modules
use Rattle.ecma_print_tokens.specs.Items as items
use Rattle.ecma_shapes.specs.Shapes as shapes
use Rattle.ecma_print_reread_functions.proofs.ObjectMethods as methods
use Rattle.std.proofs.Common.{if◌then◌else◌, ◌≡◌, ℕ, bytes_eq, ◌&&◌, Bool, true, false, List, [], ◌∷◌, codes, nat_le, refl, ap, ◌∙◌, append-nil}
use Rattle.std.proofs.lemmas.Bool.{and_parts}
use Rattle.ecma_tree.specs.declared.node.Node.{Node}
use Rattle.ecma_tree.specs.Nodes.{absent, list_node}
use Rattle.ecma_grammar.specs.declared.production.Flag.TheVariants.{Absent, Present}
use Rattle.ecma_grammar.specs.Grammar.{Grammar, same_line, put, ◌▸◌, ◌//◌, ahead, word, punct, whether, node}
use Rattle.ecma_grammar.specs.productions.Names.{assign, prop_name, prop_start, member_start, binding_ident, computed_prop_name}
use Rattle.ecma_grammar.specs.productions.Types.{params, param, rest_pattern, default_value}
use Rattle.ecma_grammar.specs.productions.Patterns.{pattern_property}
use Rattle.ecma_grammar.specs.productions.Functions.{signature, method_async, getter_property, setter_property, method_property}
use Rattle.ecma_grammar.specs.productions.Operators.{factors, terms, shifts, relations, equalities}
use Rattle.ecma_grammar.specs.productions.Expressions.{assignments}
use Rattle.ecma_grammar.specs.productions.Primary.{property, spread, object}
use Rattle.ecma_grammar.specs.productions.Chains.{links}
use Rattle.ecma_print_tokens.specs.Items.{sign, no_gap, Gap, Items, it}
use Rattle.ecma_print_tokens.specs.Taking.{took_if, new_line_in}
use Rattle.ecma_print_readings.proofs.Machine.{Turn, read, fails, taken, with_front, followed_on, or_on, built_on, ahead_on, interp, means}
use Rattle.ecma_shapes.specs.Shapes.{Role, ident, IsPropertyName, IsProperty, AreProperties}
use Rattle.ecma_shapes.proofs.Tokens.{defaulted_tokens, key_word, expression_tokens, property_name_tokens, property_tokens, properties_tokens, more_properties_tokens, block_tokens}
use Rattle.ecma_shapes.proofs.Signs.{blank}
use Rattle.ecma_shapes.proofs.Bare.{bare_defaulted, expression_kind, expression_parts, bare_property, bare_properties, bare_block}
use Rattle.ecma_print_readings.proofs.Moves.{eats}
use Rattle.ecma_print_readings.proofs.Fronts.{Front, exactly, Begins, at_token, refuses_at, refused_at, refuses_all, all_refused}
use Rattle.ecma_print_readings.proofs.Heads.{bare}
use Rattle.ecma_print_readings.proofs.Forms.{s, Reads, Refuses}
use Rattle.ecma_print_readings.proofs.Towers.{here, later, sooner, Ends}
use Rattle.ecma_print_readings.proofs.Bindings.{ends_no_equals, Stands, used}
use Rattle.ecma_print_readings.proofs.Repeats.{Repeats, repeats_end, repeats_more, repeated}
use Rattle.ecma_print_readings.proofs.Further.{more}
use Rattle.ecma_print_readings.proofs.Expressions.{comma_ends}
use Rattle.ecma_print_readings.proofs.Spreads.{ReadAsDefaulted, InitializerForm}
use Rattle.ecma_print_readings.proofs.Literals.{Literal}
use Rattle.ecma_print_reread_functions.proofs.PropertyNames.{NameForm, key_read, name_read}
use Rattle.ecma_print_readings.proofs.Arrows.{ArgumentForms}
use Rattle.ecma_print_readings.proofs.Blocks.{ReadAsBlock}

-- what stands behind the name of a property begins neither another name nor a function
abbrev pub ends_name : Front → Bool
ends_name e = refuses_at e prop_start && (refuses_at e member_start && refuses_at e signature)

-- and what stands behind a property
pub record Ended (us : Items) : Type 0 where
  pub front : Front
  pub begins : Begins front us
  pub ends : Ends front
  pub name : ends_name front ≡ true
  pub no_colon : refuses_at front (punct (codes ":")) ≡ true

pub colon_ends_name : ends_name (exactly (sign (codes ":"))) ≡ true
unfolding prop_start member_start signature
colon_ends_name = refl

pub equals_ends_name : ends_name (exactly (sign (codes "="))) ≡ true
unfolding prop_start member_start signature
equals_ends_name = refl

pub brace_ends : Ends (exactly (sign (codes "}")))
unfolding factors terms shifts relations equalities assignments links chains.template_start functions.arrow_rest binding_ident
brace_ends = refl

pub ended : {role : Role} {ns : List Node} (is : AreProperties role ns) (depth : ℕ) (us : Items) → Ended (more_properties_tokens is depth us)
unfolding prop_start member_start signature
ended shapes.no_properties depth us = record { front = exactly (sign (codes "}")); begins = at_token; ends = brace_ends; name = refl; no_colon = refl }
ended (shapes.more_properties p ps) depth us = record { front = exactly (sign (codes ",")); begins = at_token; ends = comma_ends; name = refl; no_colon = refl }

pub no_property_at_brace : refuses_all (exactly (sign (codes "}"))) property ≡ true
unfolding property spread getter_property setter_property method_property method_async prop_name computed_prop_name
no_property_at_brace = refl

pub no_pattern_at_brace : refuses_all (exactly (sign (codes "}"))) pattern_property ≡ true
unfolding pattern_property prop_name computed_prop_name binding_ident
no_pattern_at_brace = refl

pub brace : Literal (sign (codes "{")) object
unfolding chains.super_of_member chains.super_of_link chains.import_meta chains.import_call chains.construction primaries.primary functions.function_expression primaries.class_expression primaries.template operators.prefixed functions.arrow functions.arrow_rest statements.labeled param rest_pattern names.binding_ident statements.statement_body names.block statements.if_ statements.for_await statements.for_ statements.while_ statements.do_while statements.switch statements.try_ statements.jump declarations.declaration functions.function_declaration classes.class_declaration modules.module_item modules.import modules.import_equals modules.export modules.export_default primaries.array
brace = record {
  tower = λ e. later refl (later refl (later refl (later refl (later refl (later refl (later refl (later refl (later refl (later refl (later refl (later refl (later refl (sooner here)))))))))))));
  apart = record { no_head = refl; no_new_head = refl };
  no_point = refl;
  opens = record { no_spread = refl; no_yield = refl; no_private = refl; no_prefix = refl; no_increment = refl; no_decrement = refl };
  starts = record { no_statement = refl; no_item = refl };
  no_arrow = refl;
  no_label = refl;
  no_rest = refl;
  no_end = refl;
}

-- a word, and behind it what does not stand there
pub no_word : (b : Bool) (w : List ℕ) (f : Turn) (us : Items) → f us ≡ fails → followed_on f (taken (took_if b w us)) ≡ fails
no_word true w f us h = ap (with_front []) h
no_word false w f us h = refl

pub on_line : (b : Bool) (f : Turn) (us : Items) → f us ≡ fails → followed_on f (if b then fails else read [] us) ≡ fails
on_line true f us h = refl
on_line false f us h = ap (with_front []) h

module _ (assigned : Bool) where
  -- what is said of a property
  abbrev pub PropertyForm : {role : Role} {n : Node} → IsProperty role n → ℕ → Type 0
  PropertyForm (shapes.key_value at k v) depth = NameForm assigned k depth × Stands assigned shapes.assignment (expression_tokens v depth) (expression_kind v) (expression_parts v)
  PropertyForm (shapes.shorthand i) depth = Unit {0}
  PropertyForm (shapes.initialized at i v) depth = Stands assigned shapes.assignment (expression_tokens v depth) (expression_kind v) (expression_parts v)
  PropertyForm (shapes.method_property at k (shapes.function_of at' at'' x y ps w b a a')) depth = NameForm assigned k depth × (ArgumentForms assigned ps depth × ReadAsBlock assigned (block_tokens b depth) (bare_block b))
  PropertyForm (shapes.getter_property at k a b) depth = NameForm assigned k depth × ReadAsBlock assigned (block_tokens b depth) (bare_block b)
  PropertyForm (shapes.setter_property at k a p b) depth = NameForm assigned k depth × (ReadAsDefaulted assigned (defaulted_tokens p depth) (bare_defaulted p) × ReadAsBlock assigned (block_tokens b depth) (bare_block b))
  PropertyForm (shapes.renamed at k p) depth = NameForm assigned k depth × ReadAsDefaulted assigned (defaulted_tokens p depth) (bare_defaulted p)
  PropertyForm (shapes.named at at' i a v) depth = InitializerForm assigned v depth
  PropertyForm (shapes.rest_property at at' i a b) depth = Unit {0}
  PropertyForm (shapes.spread_property at e) depth = Stands assigned shapes.assignment (expression_tokens e depth) (expression_kind e) (expression_parts e)

  abbrev pub PropertyForms : {role : Role} {ns : List Node} → AreProperties role ns → ℕ → Type 0
  PropertyForms shapes.no_properties depth = Unit {0}
  PropertyForms (shapes.more_properties p ps) depth = PropertyForm p depth × PropertyForms ps depth

  pub record NoFunction (ts : Items) : Type 0 where
    pub no_getter : Refuses assigned getter_property ts
    pub no_setter : Refuses assigned setter_property ts
    pub no_method : Refuses assigned method_property ts

  -- the name of a property that is no function
  module _ (us : Items) (e : Front) (b : Begins e us) (z : ends_name e ≡ true) where
    ends : (refuses_at e prop_start ≡ true) × ((refuses_at e member_start && refuses_at e signature) ≡ true)
    ends = and_parts (refuses_at e prop_start) (refuses_at e member_start && refuses_at e signature) z

    no_start : Refuses assigned prop_start us
    no_start = refused_at assigned (means assigned) prop_start e us b ends.0

    no_member : Refuses assigned member_start us
    no_member = let c = and_parts (refuses_at e member_start) (refuses_at e signature) ends.1 in refused_at assigned (means assigned) member_start e us b c.0

    no_signature : Refuses assigned signature us
    no_signature = let c = and_parts (refuses_at e member_start) (refuses_at e signature) ends.1 in refused_at assigned (means assigned) signature e us b c.1

    key_no_function : (w : List ℕ) (g : Gap) → NoFunction (it g (items.key w) us)
    unfolding getter_property setter_property method_property method_async
    key_no_function w g =
        let I = interp assigned (means assigned) in
        let ts = it g (items.key w) us in
        let rest = prop_name ▸ signature in
        let starts : Refuses assigned (ahead prop_start ▸ rest) us = ap (followed_on (I rest)) (ap (ahead_on us) no_start) in
        let async : Refuses assigned (word (codes "async") ▸ same_line ▸ ahead member_start) ts =
        no_word (bytes_eq w (codes "async")) w (I (same_line ▸ ahead member_start)) us (on_line (new_line_in us) (I (ahead member_start)) us (ap (ahead_on us) no_member)) in
        let none : Reads assigned method_async ts (absent ∷ []) ts = ap (or_on (I (put Absent)) ts) (ap (followed_on (I (put Present))) async) in
        record {
          no_getter = ap (built_on form.Getter) (no_word (bytes_eq w (codes "get")) w (I (ahead prop_start ▸ rest)) us starts);
          no_setter = ap (built_on form.Setter) (no_word (bytes_eq w (codes "set")) w (I (ahead prop_start ▸ rest)) us starts);
          no_method =
              ap (built_on (form.Function plain.MethodProp)) (ap (followed_on (I (whether (punct (codes "*")) ▸ rest))) none
              ∙ ap (with_front (absent ∷ [])) (ap (with_front (absent ∷ [])) (ap (followed_on (I signature)) (key_read assigned w g us) ∙ ap (with_front (bare (kind.IdentName w) [] ∷ [])) no_signature)));
        }

    other_no_function : (ts : Items) (n : Node) → Refuses assigned (word (codes "get")) ts → Refuses assigned (word (codes "set")) ts → Refuses assigned (word (codes "async")) ts → Refuses assigned (punct (codes "*")) ts → Reads assigned prop_name ts (n ∷ []) us → NoFunction ts
    unfolding getter_property setter_property method_property method_async
    other_no_function ts n a c d k h = record { no_getter = rw a refl; no_setter = rw c refl; no_method = rw (d, k, h, no_signature) refl }

    no_function : {n : Node} (is : IsPropertyName n) (depth : ℕ) → NameForm assigned is depth → (g : Gap) → NoFunction (property_name_tokens is depth g us)
    no_function (shapes.key_name k) depth F g = key_no_function (key_word k) g
    no_function (shapes.string_name at raw t) depth F g = other_no_function (it g (items.string raw) us) _ refl refl refl refl (name_read assigned (shapes.string_name at raw t) depth F g us)
    no_function (shapes.number_name at raw t) depth F g = other_no_function (it g (items.number raw) us) _ refl refl refl refl (name_read assigned (shapes.number_name at raw t) depth F g us)
    no_function (shapes.big_int_name at raw t) depth F g = other_no_function (it g (items.big_int raw) us) _ refl refl refl refl (name_read assigned (shapes.big_int_name at raw t) depth F g us)
    no_function (shapes.computed_name at e) depth F g = other_no_function (property_name_tokens (shapes.computed_name at e) depth g us) _ refl refl refl refl (name_read assigned (shapes.computed_name at e) depth F g us)

  pub no_spread : {n : Node} (is : IsPropertyName n) (depth : ℕ) (g : Gap) (us : Items) → Refuses assigned (punct (codes "...")) (property_name_tokens is depth g us)
  no_spread (shapes.key_name k) depth g us = refl
  no_spread is depth g us = refl

  -- the other alternatives

  abbrev pub assigned_property : Grammar
  assigned_property = node plain.AssignProp (names.ident ▸ punct (codes "=") ▸ assign)

  abbrev pub valued : Grammar
  valued = node plain.KeyValueProp (prop_name ▸ punct (codes ":") ▸ assign)

  abbrev pub others : Grammar
  others = valued // assigned_property // names.ident

  pub behind_functions : (ts us : Items) (xs : List Node) → Refuses assigned (punct (codes "...")) ts → NoFunction ts → Reads assigned (valued // assigned_property // names.ident) ts xs us → Reads assigned property ts xs us
  unfolding property spread
  behind_functions ts us xs a N h =
      let I = interp assigned (means assigned) in
      ap (or_on (I (getter_property // setter_property // method_property // others)) ts) (ap (built_on (form.Node plain.SpreadElement)) (ap (followed_on (I assign)) a))
      ∙ (ap (or_on (I (setter_property // method_property // others)) ts) N.no_getter ∙ (ap (or_on (I (method_property // others)) ts) N.no_setter ∙ (ap (or_on (I others) ts) N.no_method ∙ h)))

  pub property_read : {n : Node} (is : IsProperty shapes.values n) (depth : ℕ) → PropertyForm is depth → (g : Gap) (us : Items) → Ended us → Reads assigned property (property_tokens is depth g us) (bare_property is ∷ []) us
  unfolding property spread
  property_read (shapes.key_value at k v) depth F g us E =
      let vs = expression_tokens v depth blank us in
      let ts = property_name_tokens k depth g (s (codes ":") vs) in
      behind_functions ts us _ (no_spread k depth g (s (codes ":") vs)) (no_function (s (codes ":") vs) (exactly (sign (codes ":"))) at_token colon_ends_name k depth F.0 g)
      (rw (name_read assigned k depth F.0 g (s (codes ":") vs), used assigned F.1 blank us E.front E.begins E.ends) refl)
  property_read (shapes.shorthand (ident at w i)) depth F g us E =
      let no_equals = refused_at assigned (means assigned) (punct (codes "=")) E.front us E.begins (ends_no_equals E.front E.ends) in
      let no_colon = refused_at assigned (means assigned) (punct (codes ":")) E.front us E.begins E.no_colon in
      behind_functions (it g (items.key w) us) us _ refl (key_no_function us E.front E.begins E.name w g) (rw (key_read assigned w g us, no_colon, i.free, no_equals, i.free) refl)
  property_read (shapes.initialized at (ident at' w i) v) depth F g us E =
      let vs = it blank (sign (codes "=")) (expression_tokens v depth blank us) in
      behind_functions (it g (items.key w) vs) us _ refl (key_no_function vs (exactly (sign (codes "="))) at_token equals_ends_name w g) (rw (key_read assigned w g vs, i.free, used assigned F blank us E.front E.begins E.ends) refl)
  property_read (shapes.method_property at k (shapes.function_of at' at'' x y ps w b a a')) depth F g us E =
      let M = F.1 in
      let I = interp assigned (means assigned) in
      let ts = property_tokens (shapes.method_property at k (shapes.function_of at' at'' x y ps w b a a')) depth g us in
      ap (or_on (I (getter_property // setter_property // method_property // others)) ts) (ap (built_on (form.Node plain.SpreadElement)) (ap (followed_on (I assign)) (methods.no_dots assigned ps depth M.0 M.1 k F.0 x y g us)))
      ∙ (ap (or_on (I (setter_property // method_property // others)) ts) (methods.no_getter assigned ps depth M.0 M.1 k F.0 x y g us)
      ∙ (ap (or_on (I (method_property // others)) ts) (methods.no_setter assigned ps depth M.0 M.1 k F.0 x y g us) ∙ ap (or_on (I others) ts) (methods.method_form assigned ps depth M.0 M.1 k F.0 x y g us)))
  property_read (shapes.getter_property at k a b) depth F g us E =
      let I = interp assigned (means assigned) in
      let ts = property_tokens (shapes.getter_property at k a b) depth g us in
      ap (or_on (I (setter_property // method_property // others)) ts) (methods.getter_form assigned depth F.1 k F.0 g us)
  property_read (shapes.setter_property at k a p b) depth F g us E =
      let M = F.1 in
      let I = interp assigned (means assigned) in
      let ts = property_tokens (shapes.setter_property at k a p b) depth g us in
      ap (or_on (I (setter_property // method_property // others)) ts) (methods.no_getter_at_set assigned g _) ∙ ap (or_on (I (method_property // others)) ts) (methods.setter_form assigned depth p M.0 M.1 k F.0 g us)
  property_read (shapes.spread_property at e) depth F g us E = rw (used assigned F no_gap us E.front E.begins E.ends) refl

  -- as an object

  pub property_eats : nat_le 1 (eats (more property)) ≡ true
  unfolding property spread getter_property setter_property method_property method_async prop_name computed_prop_name signature params param rest_pattern default_value names.block
  property_eats = refl

  pub more_properties_read : {ns : List Node} (is : AreProperties shapes.values ns) (depth : ℕ) → PropertyForms is depth → (us : Items) → Repeats assigned (more property) (more_properties_tokens is depth us) (bare_properties is) (it blank (sign (codes "}")) us)
  more_properties_read shapes.no_properties depth F us = repeats_end assigned (more property) (it blank (sign (codes "}")) us) refl
  more_properties_read (shapes.more_properties p ps) depth F us =
      let vs = more_properties_tokens ps depth us in
      repeats_more assigned (more property) property_eats _ vs (it blank (sign (codes "}")) us) (bare_property p ∷ []) (bare_properties ps) (ap (with_front []) (property_read p depth F.0 blank vs (ended ps depth us))) (more_properties_read ps depth F.1 us)

  pub object_read : {ns : List Node} (is : AreProperties shapes.values ns) (depth : ℕ) → PropertyForms is depth → (g : Gap) (us : Items) → Reads assigned object (it g (sign (codes "{")) (properties_tokens is depth us)) (bare kind.ObjectLit (list_node (bare_properties is) ∷ []) ∷ []) us
  unfolding object
  object_read shapes.no_properties depth F g us = rw (all_refused assigned property (exactly (sign (codes "}"))) (s (codes "}") us) at_token no_property_at_brace) refl
  object_read (shapes.more_properties p ps) depth F g us =
      let vs = more_properties_tokens ps depth us in
      rw (property_read p depth F.0 blank vs (ended ps depth us), repeated assigned (more property) vs (it blank (sign (codes "}")) us) (bare_properties ps) (more_properties_read ps depth F.1 us), append-nil (bare_properties ps)) refl
