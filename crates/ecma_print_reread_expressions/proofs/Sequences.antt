-- Expressions with commas between are read as they are laid out.
use Rattle.std.proofs.Common.{ℕ, ◌≡◌, ◌==◌, Bool, true, false, List, [], ◌∷◌, length, codes, refl, ap, ◌∙◌, arith}
use Rattle.std.proofs.lemmas.Bool.{and_parts}
use Rattle.ecma_kind.specs.declared.kind.Kind.{Kind}
use Rattle.ecma_kind.specs.declared.kind.Kind.TheVariants as kind
use Rattle.ecma_tree.specs.declared.node.Node.{Node}
use Rattle.ecma_grammar.specs.declared.production.Form.TheVariants as form
use Rattle.ecma_grammar.specs.Made.{made}
use Rattle.ecma_grammar.specs.Grammar as grammar
use Rattle.ecma_grammar.specs.Grammar.{◌▸◌, punct}
use Rattle.ecma_grammar.specs.productions.Names as names
use Rattle.ecma_grammar.specs.productions.Names.{assign_in, expression}
use Rattle.ecma_grammar.specs.productions.Functions.{arrow_rest}
use Rattle.ecma_print_tokens.specs.Items.{sign, no_gap, Gap, Items}
use Rattle.ecma_print_readings.proofs.Machine.{read, with_front, followed_on, built_on, interp, means}
use Rattle.ecma_shapes.specs.Shapes as shapes
use Rattle.ecma_shapes.specs.Shapes.{AreExpressions}
use Rattle.ecma_shapes.proofs.Tokens.{more_tokens}
use Rattle.ecma_shapes.proofs.Signs.{blank}
use Rattle.ecma_shapes.proofs.Bare.{bare, bare_expression, bare_expressions}
use Rattle.ecma_print_readings.proofs.Fronts.{Front, exactly, Begins, at_token, refuses_at, refused_at, refuses_first}
use Rattle.ecma_print_readings.proofs.Towers.{closes_in}
use Rattle.ecma_print_readings.proofs.Forms.{Laid, s, Reads, lead_before}
use Rattle.ecma_print_readings.proofs.Bindings.{ends_no_equals, closed, StandsIn, Stands, used}
use Rattle.ecma_print_readings.proofs.Repeats.{Repeats, repeats_end, repeats_more, repeated}
use Rattle.ecma_print_readings.proofs.Params.{params_more, params_by}
use Rattle.ecma_print_readings.proofs.Expressions.{comma_ends}
use Rattle.ecma_print_readings.proofs.Lists.{Followed, more_followed, FollowedIn, more_followed_in, FormsIn, Forms, more_params}

sequence_made : (x y : Node) (ns : List Node) → made form.Sequence 0 0 (x ∷ y ∷ ns) ≡ bare kind.SeqExpr (x ∷ y ∷ ns)
sequence_made x y ns = let c : (length (x ∷ y ∷ ns) == 1) ≡ false = grind arith in rw c refl

module _ (assigned : Bool) where
  more_read : (no_in : Bool) {es : List Node} (is : AreExpressions es) (depth : ℕ) → FormsIn assigned no_in is depth → (us : Items) (w : FollowedIn no_in us) → refuses_at (let v = w in v.front) (punct (codes ",")) ≡ true → Repeats assigned (punct (codes ",") ▸ assign_in no_in) (more_tokens is depth us) (bare_expressions is) us
  more_read n shapes.no_expressions depth F us w c = repeats_end assigned (punct (codes ",") ▸ assign_in n) us (refused_at assigned (means assigned) (punct (codes ",") ▸ assign_in n) w.front us w.begins (refuses_first w.front (punct (codes ",")) (assign_in n) c))
  more_read n (shapes.more_expressions e es) depth F us w c =
      let v = more_followed_in n es depth us w in
      repeats_more assigned (punct (codes ",") ▸ assign_in n) refl _ (more_tokens es depth us) us (bare_expression e ∷ []) (bare_expressions es) (ap (with_front []) (used assigned F.0 blank (more_tokens es depth us) v.front v.begins v.ends)) (more_read n es depth F.1 us w c)

  module _ {no_in : Bool} {f f' : Laid} {k k' : Kind} {ns ns' : List Node} (X : StandsIn assigned no_in shapes.assignment f k ns) (Y : StandsIn assigned no_in shapes.assignment f' k' ns') {es : List Node} (is : AreExpressions es) (depth : ℕ) (F : FormsIn assigned no_in is depth) where
    abbrev pub rest : Items → Items
    rest us = s (codes ",") (f' blank (more_tokens is depth us))

    rest_read : (us : Items) (w : FollowedIn no_in us) → refuses_at (let v = w in v.front) (punct (codes ",")) ≡ true → Repeats assigned (punct (codes ",") ▸ assign_in no_in) (rest us) (bare k' ns' ∷ bare_expressions is) us
    rest_read us w c =
        let v = more_followed_in no_in is depth us w in
        repeats_more assigned (punct (codes ",") ▸ assign_in no_in) refl _ (more_tokens is depth us) us (bare k' ns' ∷ []) (bare_expressions is) (ap (with_front []) (used assigned Y blank (more_tokens is depth us) v.front v.begins v.ends)) (more_read no_in is depth F us w c)

    sequence_read : (g : Gap) (us : Items) (w : FollowedIn no_in us) → refuses_at (let v = w in v.front) (punct (codes ",")) ≡ true → Reads assigned (expression no_in) (f g (rest us)) (bare kind.SeqExpr (bare k ns ∷ bare k' ns' ∷ bare_expressions is) ∷ []) us
    unfolding expression
    sequence_read g us w c =
        ap (built_on form.Sequence) (ap (followed_on (interp assigned (means assigned) (grammar.many (punct (codes ",") ▸ assign_in no_in)))) (used assigned X g (rest us) (exactly (sign (codes ","))) at_token (closed no_in shapes.assignment (exactly (sign (codes ","))) comma_ends))
        ∙ ap (with_front (bare k ns ∷ [])) (repeated assigned (punct (codes ",") ▸ assign_in no_in) (rest us) us (bare k' ns' ∷ bare_expressions is) (rest_read us w c)))
        ∙ ap (λ x. read (x ∷ []) us) (sequence_made (bare k ns) (bare k' ns') (bare_expressions is))

    pub whole_read : (g : Gap) (us : Items) (e : Front) → Begins e us → closes_in no_in shapes.sequence e ≡ true → Reads assigned (expression no_in) (f g (rest us)) (bare kind.SeqExpr (bare k ns ∷ bare k' ns' ∷ bare_expressions is) ∷ []) us
    whole_read g us e b z = let c = and_parts (refuses_at e (punct (codes ","))) (closes_in no_in shapes.assignment e) z in sequence_read g us (record { front = e; begins = b; ends = c.1 }) c.0

  module _ {f f' : Laid} {k k' : Kind} {ns ns' : List Node} (X : Stands assigned shapes.assignment f k ns) (Y : Stands assigned shapes.assignment f' k' ns') {es : List Node} (is : AreExpressions es) (depth : ℕ) (F : Forms assigned is depth) where
    pub sequence_form : Stands assigned shapes.sequence (λ g us. f g (rest X Y is depth F us)) kind.SeqExpr (bare k ns ∷ bare k' ns' ∷ bare_expressions is)
    unfolding arrow_rest names.binding_ident
    sequence_form =
        let comma = exactly (sign (codes ",")) in
        record {
          lead = lead_before assigned X.lead (sign (codes ",")) refl no_gap (λ us. f' blank (more_tokens is depth us));
          tight = tt;
          no_or = tt;
          no_arrow = tt;
          param = λ g us e b z n P.
              (let w : Followed us = record { front = e; begins = b; ends = z.1 } in
              let v = more_followed is depth us w in
              params_by assigned n (f g (rest X Y is depth F us)) (rest X Y is depth F us) (X.param g (rest X Y is depth F us) comma at_token (refl, comma_ends))
              (params_more assigned n (f' blank (more_tokens is depth us)) (more_tokens is depth us) (Y.param blank (more_tokens is depth us) v.front v.begins (ends_no_equals v.front v.ends, v.ends)) (more_params assigned is depth F n us w P)));
          reading = whole_read X Y is depth F;
        }
