-- Members and calls of `super` are read as they are laid out.
use Rattle.std.proofs.Common.{◌≡◌, ℕ, Bool, true, List, [], ◌∷◌, codes, refl, ap, ◌∙◌, Some}
use Rattle.ecma_lex.specs.Keys.{is_reserved, reserved_words}
use Rattle.ecma_kind.specs.declared.kind.Kind.{Kind}
use Rattle.ecma_kind.specs.declared.kind.Kind.TheVariants as kind
use Rattle.ecma_tree.specs.declared.node.Node.{Node}
use Rattle.ecma_tree.specs.Nodes.{absent}
use Rattle.ecma_grammar.specs.trees.Chains.{in_front_link}
use Rattle.ecma_grammar.specs.productions.Names as names
use Rattle.ecma_grammar.specs.productions.Types.{param, rest_pattern, default_value}
use Rattle.ecma_grammar.specs.productions.Patterns.{pattern_body, array_pattern, object_pattern}
use Rattle.ecma_grammar.specs.productions.Functions as functions
use Rattle.ecma_grammar.specs.productions.Functions.{arrow, arrow_rest}
use Rattle.ecma_grammar.specs.productions.Classes as classes
use Rattle.ecma_grammar.specs.productions.Declarations as declarations
use Rattle.ecma_grammar.specs.productions.Statements as statements
use Rattle.ecma_grammar.specs.productions.Statements.{labeled}
use Rattle.ecma_grammar.specs.productions.Modules as modules
use Rattle.ecma_grammar.specs.productions.Operators.{prefixed}
use Rattle.ecma_grammar.specs.productions.Chains.{links, new_links, super_of_member, super_of_link}
use Rattle.ecma_print_tokens.specs.Items.{key, no_gap, Gap, Items, it}
use Rattle.ecma_print_readings.proofs.Machine.{with_front, followed_on, interp, means}
use Rattle.ecma_shapes.specs.Shapes as shapes
use Rattle.ecma_print_readings.proofs.Fronts.{exactly}
use Rattle.ecma_print_readings.proofs.Towers.{Opens}
use Rattle.ecma_print_readings.proofs.Heads.{bare, super_member_made, super_call_made}
use Rattle.ecma_print_readings.proofs.Forms.{Laid, s, heads, new_heads, Reads, Form, NewForm, only_opens, form_by}
use Rattle.ecma_print_readings.proofs.Bindings.{Stands}
use Rattle.ecma_print_readings.proofs.Members.{word_key, dot_read, new_dot_read}
use Rattle.ecma_print_readings.proofs.Elements.{key_read, new_key_read}

super_opens : only_opens (exactly (key (codes "super"))) ≡ true
unfolding arrow arrow_rest labeled param rest_pattern default_value pattern_body array_pattern object_pattern names.binding_ident is_reserved reserved_words statements.statement_body names.block statements.if_ statements.for_await statements.for_ statements.while_ statements.do_while statements.switch statements.try_ statements.jump declarations.declaration functions.function_declaration classes.class_declaration modules.module_item modules.import modules.import_equals modules.export modules.export_default
super_opens = refl

begins_operand : Opens (exactly (key (codes "super")))
unfolding prefixed is_reserved reserved_words
begins_operand = record { no_spread = refl; no_yield = refl; no_private = refl; no_prefix = refl; no_increment = refl; no_decrement = refl }

module _ (assigned : Bool) where
  abbrev behind_super : (Items → Items) → Laid
  behind_super rest g us = it g (key (codes "super")) (rest us)

  -- `super` alone is read in front of a link
  module _ (rest : Items → Items) (m : Node) {k : Kind} {ns : List Node} (whole : in_front_link (bare kind.Super []) m ≡ bare k ns)
      (alone : (g : Gap) (us : Items) → Reads assigned heads (behind_super rest g us) (bare kind.Super [] ∷ []) (rest us))
      (linked : (us : Items) (ys : List Node) (vs : Items) → Reads assigned links us ys vs → Reads assigned links (rest us) (m ∷ ys) vs) where
    abbrev super_form : Form assigned (behind_super rest) k ns
    super_form =
        form_by assigned (key (codes "super")) super_opens begins_operand rest (bare kind.Super [] ∷ m ∷ []) (ap Some whole)
        (λ g us e b z ys vs r. ap (followed_on (interp assigned (means assigned) links)) (alone g us) ∙ ap (with_front (bare kind.Super [] ∷ [])) (linked us ys vs r))

    super_new : ((g : Gap) (us : Items) → Reads assigned new_heads (behind_super rest g us) (bare kind.Super [] ∷ []) (rest us))
        → ((us : Items) (ys : List Node) (vs : Items) → Reads assigned new_links us ys vs → Reads assigned new_links (rest us) (m ∷ ys) vs) → NewForm assigned (behind_super rest) k ns
    super_new new_alone new_linked = record {
      form = super_form;
      no_point = refl;
      own = λ g us e b z ys vs r. ap (followed_on (interp assigned (means assigned) new_links)) (new_alone g us) ∙ ap (with_front (bare kind.Super [] ∷ [])) (new_linked us ys vs r);
    }

  before_point : (w : List ℕ) (g : Gap) (us : Items) → Reads assigned heads (behind_super (λ us. s (codes ".") (it no_gap (key w) us)) g us) (bare kind.Super [] ∷ []) (s (codes ".") (it no_gap (key w) us))
  unfolding super_of_link
  before_point w g us = refl

  new_before_point : (w : List ℕ) (g : Gap) (us : Items) → Reads assigned new_heads (behind_super (λ us. s (codes ".") (it no_gap (key w) us)) g us) (bare kind.Super [] ∷ []) (s (codes ".") (it no_gap (key w) us))
  unfolding super_of_member
  new_before_point w g us = refl

  before_bracket : (rest : Items → Items) (g : Gap) (us : Items) → Reads assigned heads (behind_super (λ us. s (codes "[") (rest us)) g us) (bare kind.Super [] ∷ []) (s (codes "[") (rest us))
  unfolding super_of_link
  before_bracket rest g us = refl

  new_before_bracket : (rest : Items → Items) (g : Gap) (us : Items) → Reads assigned new_heads (behind_super (λ us. s (codes "[") (rest us)) g us) (bare kind.Super [] ∷ []) (s (codes "[") (rest us))
  unfolding super_of_member
  new_before_bracket rest g us = refl

  before_arguments : (rest : Items → Items) (g : Gap) (us : Items) → Reads assigned heads (behind_super (λ us. s (codes "(") (rest us)) g us) (bare kind.Super [] ∷ []) (s (codes "(") (rest us))
  unfolding super_of_link
  before_arguments rest g us = refl

  pub super_member_form : (w : List ℕ) → NewForm assigned (behind_super (λ us. s (codes ".") (it no_gap (key w) us))) kind.SuperPropExpr (bare kind.Super [] ∷ bare (kind.IdentName w) [] ∷ [])
  super_member_form w =
      super_new (λ us. s (codes ".") (it no_gap (key w) us)) (bare kind.MemberExpr (absent ∷ bare (kind.IdentName w) [] ∷ [])) (super_member_made (bare (kind.IdentName w) []))
      (before_point w) (dot_read assigned (word_key w)) (new_before_point w) (new_dot_read assigned (word_key w))

  pub super_element_form : {f : Laid} {k : Kind} {ns : List Node} → Stands assigned shapes.sequence f k ns → NewForm assigned (behind_super (λ us. s (codes "[") (f no_gap (s (codes "]") us)))) kind.SuperPropExpr (bare kind.Super [] ∷ bare kind.ComputedPropName (bare k ns ∷ []) ∷ [])
  super_element_form {f} {k} {ns} S =
      let rest : Items → Items = λ us. f no_gap (s (codes "]") us) in
      super_new (λ us. s (codes "[") (f no_gap (s (codes "]") us))) (bare kind.MemberExpr (absent ∷ bare kind.ComputedPropName (bare k ns ∷ []) ∷ [])) (super_member_made (bare kind.ComputedPropName (bare k ns ∷ [])))
      (before_bracket rest) (key_read assigned S) (new_before_bracket rest) (new_key_read assigned S)

  pub super_call_form : (args : Items → Items) (n : Node) → ((us : Items) (ys : List Node) (vs : Items) → Reads assigned links us ys vs → Reads assigned links (s (codes "(") (args us)) (bare kind.CallExpr (absent ∷ n ∷ absent ∷ []) ∷ ys) vs)
      → Form assigned (behind_super (λ us. s (codes "(") (args us))) kind.CallExpr (bare kind.Super [] ∷ n ∷ absent ∷ [])
  super_call_form args n linked = super_form (λ us. s (codes "(") (args us)) (bare kind.CallExpr (absent ∷ n ∷ absent ∷ [])) (super_call_made n) (before_arguments args) linked
