-- Conditional expressions are read as they are laid out.
use Rattle.std.proofs.Common.{◌≡◌, Bool, true, false, List, [], ◌∷◌, codes, refl, ap, ◌∙◌}
use Rattle.ecma_kind.specs.declared.kind.Kind.{Kind}
use Rattle.ecma_kind.specs.declared.kind.Kind.TheVariants as kind
use Rattle.ecma_tree.specs.declared.node.Node.{Node}
use Rattle.ecma_tree.specs.Nodes.{absent}
use Rattle.ecma_grammar.specs.declared.production.Form.TheVariants as form
use Rattle.ecma_grammar.specs.trees.Parts.{in_front}
use Rattle.ecma_grammar.specs.productions.Names as names
use Rattle.ecma_grammar.specs.productions.Functions.{arrow_rest}
use Rattle.ecma_grammar.specs.productions.Chains.{links, template_start}
use Rattle.ecma_grammar.specs.productions.Operators as operators
use Rattle.ecma_grammar.specs.productions.Operators.{factors, terms, shifts, relations, equalities, short_circuit}
use Rattle.ecma_grammar.specs.productions.Expressions as expressions
use Rattle.ecma_grammar.specs.productions.Expressions.{assignments}
use Rattle.ecma_print_tokens.specs.Items.{sign, Gap, Items, it}
use Rattle.ecma_print_readings.proofs.Machine.{read, with_front, followed_on, built_on, interp, means}
use Rattle.ecma_shapes.specs.Shapes as shapes
use Rattle.ecma_shapes.proofs.Signs.{blank}
use Rattle.ecma_print_readings.proofs.Middles.{middle_is}
use Rattle.ecma_print_readings.proofs.Fronts.{Front, exactly, Begins, at_token}
use Rattle.ecma_print_readings.proofs.Towers.{choice_tail, closes_in}
use Rattle.ecma_print_readings.proofs.Heads.{bare, nodes}
use Rattle.ecma_print_readings.proofs.Forms.{Laid, Reads, no_arrow_before, lead_before, param_in_front}
use Rattle.ecma_print_readings.proofs.Bindings.{closed, StandsIn, Stands, direct, assignment_read, used}

choice_made : (k : Kind) (ns : List Node) (x y : Node) → in_front (bare k ns) (bare kind.CondExpr (absent ∷ x ∷ y ∷ [])) ≡ bare kind.CondExpr (bare k ns ∷ x ∷ y ∷ [])
choice_made k ns x y = simp nodes

module _ (assigned : Bool) where
  module _ {no_in : Bool} {f f' f'' : Laid} {k k' k'' : Kind} {ns ns' ns'' : List Node} (S : StandsIn assigned no_in shapes.short_circuit f k ns) (X : Stands assigned shapes.assignment f' k' ns') (Y : StandsIn assigned no_in shapes.assignment f'' k'' ns'') where
    abbrev second : Items → Items
    second us = it blank (sign (codes ":")) (f'' blank us)

    abbrev first : Items → Items
    first us = it blank (sign (codes "?")) (f' blank (second us))

    choice_read : (us : Items) (e : Front) → Begins e us → closes_in no_in shapes.assignment e ≡ true → Reads assigned (choice_tail no_in) (first us) (bare kind.CondExpr (absent ∷ bare k' ns' ∷ bare k'' ns'' ∷ []) ∷ []) us
    unfolding factors terms shifts relations equalities assignments links template_start arrow_rest names.binding_ident operators.shift
    choice_read us e b z = rw (middle_is assigned false (f' blank (second us)), used assigned X blank (second us) (exactly (sign (codes ":"))) at_token (closed false shapes.assignment (exactly (sign (codes ":"))) refl), used assigned Y blank us e b z) refl

    test_read : (g : Gap) (us : Items) → Reads assigned (short_circuit no_in) (f g (first us)) (bare k ns ∷ []) (first us)
    unfolding factors terms shifts relations equalities links template_start
    test_read g us = direct assigned shapes.short_circuit S g (first us) (exactly (sign (codes "?"))) at_token (closed no_in shapes.short_circuit (exactly (sign (codes "?"))) refl)

    choice_whole : (g : Gap) (us : Items) (e : Front) → Begins e us → closes_in no_in shapes.assignment e ≡ true → Reads assigned (expressions.conditional no_in false) (f g (first us)) (bare kind.CondExpr (bare k ns ∷ bare k' ns' ∷ bare k'' ns'' ∷ []) ∷ []) us
    unfolding expressions.conditional
    choice_whole g us e b z =
        ap (built_on form.Chain) (ap (followed_on (interp assigned (means assigned) (choice_tail no_in))) (test_read g us) ∙ ap (with_front (bare k ns ∷ [])) (choice_read us e b z))
        ∙ ap (λ x. read (x ∷ []) us) (choice_made k ns (bare k' ns') (bare k'' ns''))

    pub choice_form : StandsIn assigned no_in shapes.assignment (λ g us. f g (first us)) kind.CondExpr (bare k ns ∷ bare k' ns' ∷ bare k'' ns'' ∷ [])
    unfolding arrow_rest names.binding_ident
    choice_form = let L = lead_before assigned S.lead (sign (codes "?")) refl blank (λ us. f' blank (second us)) in record { lead = L; tight = tt; no_or = tt; no_arrow = tt; param = λ g us e b z. param_in_front assigned S.param (sign (codes "?")) refl blank (λ us. f' blank (second us)) g us; reading = assignment_read assigned no_in L (no_arrow_before assigned f S.no_arrow (sign (codes "?")) refl blank (λ us. f' blank (second us))) S.tight choice_whole }
