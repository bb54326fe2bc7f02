-- `??` is read as it is laid out.
use Rattle.std.proofs.Common.{◌≡◌, Bool, true, false, ◌&&◌, List, [], ◌∷◌, ◌++◌, codes, refl, ap, ◌∙◌, append_assoc, Some}
use Rattle.ecma_kind.specs.declared.operators.BinaryOp.TheVariants as op
use Rattle.ecma_kind.specs.declared.kind.Kind.{Kind}
use Rattle.ecma_kind.specs.declared.kind.Kind.TheVariants as kind
use Rattle.ecma_tree.specs.declared.node.Node.{Node}
use Rattle.ecma_tree.specs.Nodes.{dummy_span, absent}
use Rattle.ecma_grammar.specs.declared.production.Part.TheVariants as part
use Rattle.ecma_grammar.specs.declared.production.Plain.TheVariants as plain
use Rattle.ecma_grammar.specs.declared.production.Form.TheVariants as form
use Rattle.ecma_grammar.specs.trees.Parts.{kind_of}
use Rattle.ecma_grammar.specs.trees.Chains.{step_on, in_front_logical, is_and, is_or}
use Rattle.ecma_grammar.specs.Grammar.{nothing, optional}
use Rattle.ecma_grammar.specs.productions.Names as names
use Rattle.ecma_grammar.specs.productions.Functions.{arrow_rest}
use Rattle.ecma_grammar.specs.productions.Chains.{links, template_start}
use Rattle.ecma_grammar.specs.productions.Operators.{factors, terms, shifts, relations, equalities, coalescing}
use Rattle.ecma_grammar.proofs.Steps.{steps-append}
use Rattle.ecma_print_tokens.specs.Items.{sign, Items, it}
use Rattle.ecma_print_readings.proofs.Machine.{with_front, followed_on, or_on, built_on, interp, means}
use Rattle.ecma_shapes.specs.Shapes as shapes
use Rattle.ecma_shapes.specs.Shapes.{Level, IsCoalesceHead}
use Rattle.ecma_shapes.proofs.Signs.{blank}
use Rattle.ecma_print_readings.proofs.Levels.{means_is}
use Rattle.ecma_print_readings.proofs.Fronts.{Front, exactly, Begins, at_token}
use Rattle.ecma_print_readings.proofs.Towers.{closes_in}
use Rattle.ecma_print_readings.proofs.Heads.{bare, kind-node}
use Rattle.ecma_print_readings.proofs.Forms.{Laid, Reads}
use Rattle.ecma_print_readings.proofs.Bindings.{closed, StandsIn, direct}
use Rattle.ecma_print_reread_expressions.proofs.Operations.{joined, binary_made, joined_lead, joined_param, joined_no_arrow}

abbrev nullish_item : Node → Node
nullish_item x = bare (kind.BinExpr op.NullishCoalescing) (absent ∷ x ∷ [])

nullish_made : (k : Kind) (ns : List Node) (y : Node) → in_front_logical (bare k ns) (nullish_item y) ≡ bare (kind.BinExpr op.NullishCoalescing) (bare k ns ∷ y ∷ [])
nullish_made k ns y =
    let c : (is_and (kind_of (nullish_item y)) && is_or (kind_of (bare k ns))) ≡ false = rw (kind-node dummy_span (kind.BinExpr op.NullishCoalescing) (absent ∷ y ∷ [])) refl in
    rw c (binary_made op.NullishCoalescing k ns y)

abbrev behind : Laid → Items → Items
behind f us = it blank (sign (codes "??")) (f blank us)

module _ (assigned : Bool) {no_in : Bool} {f' : Laid} {k' : Kind} {ns' : List Node} where
  -- `??` with its right side, and those behind it
  right_read : StandsIn assigned no_in shapes.bit_or f' k' ns' → (us : Items) (e : Front) → Begins e us → closes_in no_in shapes.bit_or e ≡ true → (ys : List Node) (vs : Items) → Reads assigned (optional (coalescing no_in)) us ys vs → Reads assigned (coalescing no_in) (behind f' us) (nullish_item (bare k' ns') ∷ ys) vs
  right_read R us e b z ys vs h =
      means_is assigned (part.Binary op.NullishCoalescing no_in) (f' blank us)
      ∙ (ap (followed_on (interp assigned (means assigned) (optional (coalescing no_in)))) (ap (built_on (form.Node (plain.BinExpr op.NullishCoalescing))) (ap (with_front (absent ∷ [])) (direct assigned shapes.bit_or R blank us e b z)))
      ∙ ap (with_front (nullish_item (bare k' ns') ∷ [])) h)

module _ (assigned : Bool) {no_in : Bool} {f f' : Laid} {k k' : Kind} {ns ns' : List Node} where
  pub coalesced_form : {head : Level} → IsCoalesceHead head → StandsIn assigned no_in head f k ns → StandsIn assigned no_in shapes.bit_or f' k' ns' → StandsIn assigned no_in shapes.coalescing (joined f f' op.NullishCoalescing) (kind.BinExpr op.NullishCoalescing) (bare k ns ∷ bare k' ns' ∷ [])
  unfolding factors terms shifts relations equalities links template_start arrow_rest names.binding_ident
  coalesced_form shapes.first_head S R =
      let n = nullish_item (bare k' ns') in
      record {
        lead = joined_lead assigned f' op.NullishCoalescing refl S.lead;
        tight = S.tight;
        no_or = refl;
        no_arrow = joined_no_arrow assigned f f' op.NullishCoalescing refl S.no_arrow;
        param = joined_param assigned f' op.NullishCoalescing refl S.param;
        reading = record {
          first = bare k ns;
          more = n ∷ [];
          own = λ g us e b z ys vs h. record { mid = behind f' us; first_read = direct assigned shapes.bit_or S g (behind f' us) (exactly (sign (codes "??"))) at_token (closed no_in shapes.bit_or (exactly (sign (codes "??"))) refl); all = right_read assigned R us e b z ys vs h };
          whole = ap Some (nullish_made k ns (bare k' ns'));
        };
      }
  coalesced_form shapes.next_head S R =
      let C = S.reading in
      let n = nullish_item (bare k' ns') in
      record {
        lead = joined_lead assigned f' op.NullishCoalescing refl S.lead;
        tight = S.tight;
        no_or = refl;
        no_arrow = joined_no_arrow assigned f f' op.NullishCoalescing refl S.no_arrow;
        param = joined_param assigned f' op.NullishCoalescing refl S.param;
        reading = record {
          first = C.first;
          more = C.more ++ n ∷ [];
          own = λ g us e b z ys vs h.
              rw (append_assoc C.more (n ∷ []) ys)
              (C.own g (behind f' us) (exactly (sign (codes "??"))) at_token (closed no_in shapes.bit_or (exactly (sign (codes "??"))) refl) (n ∷ ys) vs (ap (or_on (interp assigned (means assigned) nothing) (behind f' us)) (right_read assigned R us e b z ys vs h)));
          whole = steps-append in_front_logical (Some C.first) C.more n ∙ (ap (λ x. step_on in_front_logical x n) C.whole ∙ ap Some (nullish_made k ns (bare k' ns')));
        };
      }
