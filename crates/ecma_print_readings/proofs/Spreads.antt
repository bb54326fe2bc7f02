-- Arguments and elements of arrays, which may be spread, are read as they are laid out; and what is read of them as parameters and elements of a pattern.
use Rattle.std.proofs.Common.{ℕ, ◌≡◌, Bool, [], ◌∷◌, codes, refl, ap, ◌∙◌, false}
use Rattle.ecma_tree.specs.declared.node.Node.{Node}
use Rattle.ecma_tree.specs.Nodes.{absent}
use Rattle.ecma_grammar.specs.declared.production.Part.TheVariants as part
use Rattle.ecma_grammar.specs.declared.production.Form.TheVariants as form
use Rattle.ecma_grammar.specs.declared.production.Plain.TheVariants as plain
use Rattle.ecma_grammar.specs.declared.production.Flag.TheVariants.{Absent}
use Rattle.ecma_grammar.specs.Made.{made}
use Rattle.ecma_grammar.specs.Grammar.{Grammar, put, ◌▸◌, punct, maybe}
use Rattle.ecma_grammar.specs.productions.Names.{pattern, assign_in}
use Rattle.ecma_grammar.specs.productions.Types.{rest_pattern, param}
use Rattle.ecma_grammar.specs.productions.Patterns.{pattern_element}
use Rattle.ecma_grammar.specs.productions.Primary.{element, spread}
use Rattle.ecma_print_tokens.specs.Items.{no_gap, Gap, Items}
use Rattle.ecma_print_readings.proofs.Machine.{read, followed_on, or_on, built_on, interp, means}
use Rattle.ecma_shapes.specs.Shapes as shapes
use Rattle.ecma_shapes.specs.Shapes.{Role, IsElement, IsInitializer}
use Rattle.ecma_shapes.proofs.Tokens.{expression_tokens, element_tokens, pattern_tokens, defaulted_tokens, initializer_tokens}
use Rattle.ecma_shapes.proofs.Signs.{blank}
use Rattle.ecma_shapes.proofs.Bare.{expression_kind, expression_parts, bare_element, bare_pattern, bare_defaulted, bare_initializer}
use Rattle.ecma_print_readings.proofs.Fronts.{refused_at}
use Rattle.ecma_print_readings.proofs.Forms.{Laid, Reads, Refuses, Lead, AsItem, AsParam}
use Rattle.ecma_print_readings.proofs.Bindings.{ends_no_equals, Stands, used, closed, StandsIn}
use Rattle.ecma_print_readings.proofs.Lists.{Followed}
use Rattle.ecma_print_readings.proofs.Tried.{as_pattern, defaulted, pattern_as_element, spread_param, spread_as_element}

-- the production of an element
abbrev pub item_of : Role → Grammar
item_of shapes.values = element
item_of shapes.bindings = pattern_element

module _ (assigned : Bool) where
  -- a pattern as it is laid out, and one with a default value or none
  pub record ReadAsPattern (f : Laid) (n : Node) : Type 0 where
    pub reads : (g : Gap) (us : Items) → means assigned part.Pattern (f g us) ≡ read (n ∷ []) us
    pub annotated : made form.Annotated 0 0 (n ∷ absent ∷ absent ∷ []) ≡ n
    pub no_dots : (g : Gap) (us : Items) → Refuses assigned (punct (codes "...")) (f g us)

  pub record ReadAsDefaulted (f : Laid) (n : Node) : Type 0 where
    pub reads : (g : Gap) (us : Items) → Followed us → Reads assigned (defaulted assigned) (f g us) (n ∷ []) us
    pub as_param : (g : Gap) (us : Items) → Followed us → Reads assigned param (f g us) (n ∷ []) us
    pub no_dots : (g : Gap) (us : Items) → Refuses assigned (punct (codes "...")) (f g us)

  -- what is said of an element
  abbrev pub ElementForm : {role : Role} {n : Node} → IsElement role n → ℕ → Type 0
  ElementForm (shapes.one e) depth = Stands assigned shapes.assignment (expression_tokens e depth) (expression_kind e) (expression_parts e)
  ElementForm (shapes.spread at e) depth = Stands assigned shapes.assignment (expression_tokens e depth) (expression_kind e) (expression_parts e)
  ElementForm (shapes.bound p) depth = ReadAsDefaulted (defaulted_tokens p depth) (bare_defaulted p)
  ElementForm (shapes.rest at p a) depth = ReadAsPattern (pattern_tokens p depth) (bare_pattern p)

  -- and of a value behind `=`
  abbrev pub InitializerIn : Bool → {n : Node} → IsInitializer n → ℕ → Type 0
  InitializerIn no_in (shapes.no_initializer a) depth = Unit {0}
  InitializerIn no_in (shapes.initializer e) depth = StandsIn assigned no_in shapes.assignment (expression_tokens e depth) (expression_kind e) (expression_parts e)

  abbrev pub InitializerForm : {n : Node} → IsInitializer n → ℕ → Type 0
  InitializerForm i depth = InitializerIn false i depth

  pub initializer_read : (no_in : Bool) {n : Node} (i : IsInitializer n) (depth : ℕ) → InitializerIn no_in i depth → (us : Items) → Followed us → Reads assigned (maybe (punct (codes "=") ▸ assign_in no_in)) (initializer_tokens i depth us) (bare_initializer i ∷ []) us
  initializer_read no_in (shapes.no_initializer a) depth S us F = rw (refused_at assigned (means assigned) (punct (codes "=")) F.front us F.begins (ends_no_equals F.front F.ends)) refl
  initializer_read no_in (shapes.initializer e) depth S us F = rw (used assigned S blank us F.front F.begins (closed no_in shapes.assignment F.front F.ends)) refl

  pub no_rest : {f : Laid} → Lead assigned f → (g : Gap) (us : Items) → Refuses assigned rest_pattern (f g us)
  unfolding rest_pattern
  no_rest {f} L g us = rw (refused_at assigned (means assigned) (punct (codes "...")) L.front (f g us) (L.begins g us) L.no_spread) refl

  pub element_read : {role : Role} {n : Node} (is : IsElement role n) (depth : ℕ) → ElementForm is depth → (g : Gap) (us : Items) → Followed us → Reads assigned (item_of role) (element_tokens is depth g us) (bare_element is ∷ []) us
  unfolding element spread pattern_element rest_pattern
  element_read (shapes.one e) depth S g us F =
      let L = S.lead in
      rw (refused_at assigned (means assigned) (punct (codes "...")) L.front (expression_tokens e depth g us) (L.begins g us) L.no_spread, used assigned S g us F.front F.begins F.ends) refl
  element_read (shapes.spread at e) depth S g us F = rw (used assigned S no_gap us F.front F.begins F.ends) refl
  element_read (shapes.bound p) depth D g us F =
      let I = interp assigned (means assigned) in
      let ts = defaulted_tokens p depth g us in
      ap (or_on (I (defaulted assigned)) ts) (ap (built_on (form.Node plain.RestPat)) (ap (followed_on (I (pattern ▸ put Absent))) (D.no_dots g us))) ∙ D.reads g us F
  element_read (shapes.rest at p a) depth P g us F = rw (P.reads no_gap us) refl

  pub element_param : {n : Node} (is : IsElement shapes.values n) (depth : ℕ) → ElementForm is depth → (g : Gap) (us : Items) → Followed us → AsParam assigned (element_tokens is depth g us) us
  element_param (shapes.one e) depth S g us F = S.param g us F.front F.begins (ends_no_equals F.front F.ends, F.ends)
  element_param (shapes.spread at e) depth S g us F =
      let ts = expression_tokens e depth no_gap us in
      spread_param assigned g ts us (as_pattern assigned ts us (no_rest S.lead no_gap us) (S.param no_gap us F.front F.begins (ends_no_equals F.front F.ends, F.ends)))

  pub element_as_pattern : {n : Node} (is : IsElement shapes.values n) (depth : ℕ) → ElementForm is depth → (g : Gap) (us : Items) → Followed us → AsItem assigned pattern_element (element_tokens is depth g us) us
  element_as_pattern (shapes.one e) depth S g us F =
      let ts = expression_tokens e depth g us in
      let r = no_rest S.lead g us in
      pattern_as_element assigned ts us r (as_pattern assigned ts us r (S.param g us F.front F.begins (ends_no_equals F.front F.ends, F.ends)))
  element_as_pattern (shapes.spread at e) depth S g us F =
      let ts = expression_tokens e depth no_gap us in
      spread_as_element assigned g ts us (as_pattern assigned ts us (no_rest S.lead no_gap us) (S.param no_gap us F.front F.begins (ends_no_equals F.front F.ends, F.ends)))
