-- Names of properties are read as they are laid out; what is read of them as names in a pattern.
use Rattle.std.proofs.Common.{◌≡◌, ℕ, Bool, false, List, [], ◌∷◌, codes, refl, ap}
use Rattle.ecma_lex.specs.Keys.{is_reserved}
use Rattle.ecma_kind.specs.declared.kind.Kind.TheVariants as kind
use Rattle.ecma_tree.specs.declared.node.Node.{Node}
use Rattle.ecma_tree.specs.Nodes.{absent}
use Rattle.ecma_grammar.specs.declared.production.Plain.TheVariants as plain
use Rattle.ecma_grammar.specs.declared.production.Form.TheVariants as form
use Rattle.ecma_grammar.specs.declared.production.Flag.TheVariants.{Absent}
use Rattle.ecma_grammar.specs.Grammar.{Grammar, put, ◌▸◌, ◌//◌, punct, maybe, node}
use Rattle.ecma_grammar.specs.productions.Names.{assign, prop_name, binding_ident, computed_prop_name}
use Rattle.ecma_grammar.specs.productions.Patterns.{pattern_property}
use Rattle.ecma_print_tokens.specs.Items as items
use Rattle.ecma_print_tokens.specs.Items.{sign, no_gap, Gap, Items, it}
use Rattle.ecma_print_readings.proofs.Machine.{followed_on, or_on, built_on, interp, means}
use Rattle.ecma_shapes.specs.Shapes as shapes
use Rattle.ecma_shapes.specs.Shapes.{IsPropertyName}
use Rattle.ecma_shapes.proofs.Tokens.{expression_tokens, property_name_tokens}
use Rattle.ecma_shapes.proofs.Bare.{expression_kind, expression_parts, bare_property_name}
use Rattle.ecma_print_readings.proofs.Fronts.{exactly, at_token}
use Rattle.ecma_print_readings.proofs.Heads.{bare}
use Rattle.ecma_print_readings.proofs.Forms.{s, Reads, Refuses, AsItem}
use Rattle.ecma_print_readings.proofs.Bindings.{Stands, used}
use Rattle.ecma_print_readings.proofs.Elements.{bracket_ends}
use Rattle.ecma_print_readings.proofs.Tried.{same_item, defaulted}

module _ (assigned : Bool) where
  -- what is said of a name
  abbrev pub NameForm : {n : Node} → IsPropertyName n → ℕ → Type 0
  NameForm (shapes.computed_name at e) depth = Stands assigned shapes.assignment (expression_tokens e depth) (expression_kind e) (expression_parts e)
  NameForm k depth = Unit {0}

  pub key_read : (w : List ℕ) (g : Gap) (us : Items) → Reads assigned prop_name (it g (items.key w) us) (bare (kind.IdentName w) [] ∷ []) us
  unfolding prop_name
  key_read w g us = refl

  pub name_read : {n : Node} (is : IsPropertyName n) (depth : ℕ) → NameForm is depth → (g : Gap) (us : Items) → Reads assigned prop_name (property_name_tokens is depth g us) (bare_property_name is ∷ []) us
  unfolding prop_name computed_prop_name
  name_read (shapes.key_name k) depth F g us = refl
  name_read (shapes.string_name at raw t) depth F g us = refl
  name_read (shapes.number_name at raw t) depth F g us = refl
  name_read (shapes.big_int_name at raw t) depth F g us = refl
  name_read (shapes.computed_name at e) depth F g us = rw (used assigned F no_gap (s (codes "]") us) (exactly (sign (codes "]"))) at_token bracket_ends) refl

  abbrev pub by_own_name : Grammar
  by_own_name = node plain.AssignPatProp (binding_ident ▸ maybe (punct (codes "=") ▸ assign))

  abbrev pub by_other_name : Grammar
  by_other_name = node plain.KeyValuePatProp (prop_name ▸ punct (codes ":") ▸ defaulted assigned)

  pub behind_rest : (ts us : Items) → Refuses assigned (punct (codes "...")) ts → AsItem assigned (by_other_name // by_own_name) ts us → AsItem assigned pattern_property ts us
  unfolding pattern_property
  behind_rest ts us a p =
      same_item assigned pattern_property (by_other_name // by_own_name) ts us
      (ap (or_on (interp assigned (means assigned) (by_other_name // by_own_name)) ts) (ap (built_on (form.Node plain.RestPat)) (ap (followed_on (interp assigned (means assigned) (binding_ident ▸ put Absent))) a))) p

  -- a name that no `:` follows
  pub named_read : (w : List ℕ) (g : Gap) (vs us : Items) (xs : List Node) → is_reserved w ≡ false → Refuses assigned (punct (codes ":")) vs → Reads assigned (maybe (punct (codes "=") ▸ assign)) vs xs us
      → Reads assigned (by_other_name // by_own_name) (it g (items.key w) vs) (bare kind.AssignPatProp (bare kind.BindingIdent (bare (kind.Ident w 0 false) [] ∷ absent ∷ []) ∷ xs) ∷ []) us
  unfolding binding_ident
  named_read w g vs us xs r c h = rw (key_read w g vs, c, r, h) refl
