-- `&&` and `||` are read as they are laid out: `&&` takes the right side of an `||` before it.
use Rattle.std.proofs.Common.{◌≡◌, Bool, true, false, ◌&&◌, List, [], ◌∷◌, ◌++◌, codes, refl, ap, sym, ◌∙◌, append_assoc, Option, Some, unwrap_or}
use Rattle.ecma_kind.specs.declared.operators.BinaryOp.TheVariants as op
use Rattle.ecma_kind.specs.declared.kind.Kind.{Kind}
use Rattle.ecma_kind.specs.declared.kind.Kind.TheVariants as kind
use Rattle.ecma_tree.specs.declared.node.Node.{Node}
use Rattle.ecma_tree.specs.Nodes.{dummy_span, absent}
use Rattle.ecma_grammar.specs.declared.production.Part.TheVariants as part
use Rattle.ecma_grammar.specs.declared.production.Plain.TheVariants as plain
use Rattle.ecma_grammar.specs.declared.production.Form.TheVariants as form
use Rattle.ecma_grammar.specs.trees.Parts.{kind_of, in_front}
use Rattle.ecma_grammar.specs.trees.Chains.{steps, step_on, in_front_logical, is_and, is_or}
use Rattle.ecma_grammar.specs.productions.Names as names
use Rattle.ecma_grammar.specs.productions.Functions.{arrow_rest}
use Rattle.ecma_grammar.specs.productions.Chains.{links, template_start}
use Rattle.ecma_grammar.specs.productions.Operators.{factors, terms, shifts, relations, equalities, logicals}
use Rattle.ecma_grammar.proofs.Steps.{steps-append}
use Rattle.ecma_print_tokens.specs.Items.{sign, it}
use Rattle.ecma_print_readings.proofs.Machine.{read, with_front, followed_on, built_on, interp, means}
use Rattle.ecma_shapes.specs.Shapes as shapes
use Rattle.ecma_shapes.proofs.Signs.{blank}
use Rattle.ecma_print_readings.proofs.Levels.{means_is}
use Rattle.ecma_print_readings.proofs.Fronts.{exactly, at_token}
use Rattle.ecma_print_readings.proofs.Heads.{bare, kind-node, nodes}
use Rattle.ecma_print_readings.proofs.Forms.{Laid}
use Rattle.ecma_print_readings.proofs.Bindings.{closed, AllAnd, no_and, more_and, StandsIn, direct}
use Rattle.ecma_print_reread_expressions.proofs.Operations.{joined, binary_made, joined_lead, joined_param, joined_no_arrow}

steps-split : (step : Node → Node → Node) (b : Option Node) (xs ys : List Node) → steps step b (xs ++ ys) ≡ steps step (steps step b xs) ys
steps-split step b [] ys = refl
steps-split step b (x ∷ xs) ys = steps-split step (step_on step b x) xs ys

all_and_append : {xs : List Node} → AllAnd xs → (x : Node) → AllAnd (xs ++ bare (kind.BinExpr op.LogicalAnd) (absent ∷ x ∷ []) ∷ [])
all_and_append no_and x = more_and x no_and
all_and_append (more_and y a) x = more_and y (all_and_append a x)

abbrev and_item : Node → Node
and_item x = bare (kind.BinExpr op.LogicalAnd) (absent ∷ x ∷ [])

-- behind what is no `||`
no_turn : (x r : Node) → is_or (kind_of x) ≡ false → in_front_logical x (and_item r) ≡ in_front x (and_item r)
no_turn x r h =
    let c : (is_and (kind_of (and_item r)) && is_or (kind_of x)) ≡ false = rw (kind-node dummy_span (kind.BinExpr op.LogicalAnd) (absent ∷ r ∷ []), h) refl in
    rw c refl

and_made : (k : Kind) (ns : List Node) (r : Node) → is_or k ≡ false → in_front_logical (bare k ns) (and_item r) ≡ bare (kind.BinExpr op.LogicalAnd) (bare k ns ∷ r ∷ [])
and_made k ns r h = no_turn (bare k ns) r (ap is_or (kind-node dummy_span k ns) ∙ h) ∙ binary_made op.LogicalAnd k ns r

or_made : (k : Kind) (ns : List Node) (y : Node) → in_front_logical (bare k ns) (bare (kind.BinExpr op.LogicalOr) (absent ∷ y ∷ [])) ≡ bare (kind.BinExpr op.LogicalOr) (bare k ns ∷ y ∷ [])
or_made k ns y =
    let c : (is_and (kind_of (bare (kind.BinExpr op.LogicalOr) (absent ∷ y ∷ []))) && is_or (kind_of (bare k ns))) ≡ false = rw (kind-node dummy_span (kind.BinExpr op.LogicalOr) (absent ∷ y ∷ [])) refl in
    rw c (binary_made op.LogicalOr k ns y)

-- `&&` behind the right side of an `||`
turn : (l y r : Node) → in_front_logical (bare (kind.BinExpr op.LogicalOr) (l ∷ y ∷ [])) (and_item r) ≡ bare (kind.BinExpr op.LogicalOr) (l ∷ in_front y (and_item r) ∷ [])
turn l y r =
    let c : (is_and (kind_of (and_item r)) && is_or (kind_of (bare (kind.BinExpr op.LogicalOr) (l ∷ y ∷ [])))) ≡ true = rw (kind-node dummy_span (kind.BinExpr op.LogicalAnd) (absent ∷ r ∷ []), kind-node dummy_span (kind.BinExpr op.LogicalOr) (l ∷ y ∷ [])) refl in
    rw c (simp nodes)

or_steps : (l y z : Node) {ns : List Node} → AllAnd ns → is_or (kind_of y) ≡ false → steps in_front_logical (Some y) ns ≡ Some z → steps in_front_logical (Some (bare (kind.BinExpr op.LogicalOr) (l ∷ y ∷ []))) ns ≡ Some (bare (kind.BinExpr op.LogicalOr) (l ∷ z ∷ []))
or_steps l y z no_and h e = ap (λ o. Some (bare (kind.BinExpr op.LogicalOr) (l ∷ unwrap_or o absent ∷ []))) e
or_steps l y z (more_and {ns = ns} x a) h e =
    let y' = in_front y (and_item x) in
    ap (λ n. steps in_front_logical (Some n) ns) (turn l y x)
    ∙ or_steps l y' z a (ap is_or (kind-node _ _ _) ∙ ap is_or (kind-node dummy_span (kind.BinExpr op.LogicalAnd) (absent ∷ x ∷ []))) (ap (λ n. steps in_front_logical (Some n) ns) (sym (no_turn y x h)) ∙ e)

module _ (assigned : Bool) {no_in : Bool} {f f' : Laid} {k k' : Kind} {ns ns' : List Node} where
  pub both_form : StandsIn assigned no_in shapes.logical_and f k ns → StandsIn assigned no_in shapes.bit_or f' k' ns' → StandsIn assigned no_in shapes.logical_and (joined f f' op.LogicalAnd) (kind.BinExpr op.LogicalAnd) (bare k ns ∷ bare k' ns' ∷ [])
  unfolding factors terms shifts relations equalities links template_start arrow_rest names.binding_ident
  both_form S R =
      let A = S.reading in
      let C = A.chain in
      let n = and_item (bare k' ns') in
      let I = interp assigned (means assigned) in
      record {
        lead = joined_lead assigned f' op.LogicalAnd refl S.lead;
        no_arrow = joined_no_arrow assigned f f' op.LogicalAnd refl S.no_arrow;
        tight = S.tight;
        no_or = refl;
        param = joined_param assigned f' op.LogicalAnd refl S.param;
        reading = record {
          chain = record {
            first = C.first;
            more = C.more ++ n ∷ [];
            own = λ g us e b z ys vs h h'.
                (let r : means assigned (part.Binary op.LogicalAnd no_in) (f' blank us) ≡ read (n ∷ ys) vs =
                means_is assigned (part.Binary op.LogicalAnd no_in) (f' blank us)
                ∙ (ap (followed_on (I (logicals no_in))) (ap (built_on (form.Node (plain.BinExpr op.LogicalAnd))) (ap (with_front (absent ∷ [])) (direct assigned shapes.bit_or R blank us e b z))) ∙ ap (with_front (n ∷ [])) h) in
                rw (append_assoc C.more (n ∷ []) ys) (C.own g (it blank (sign (codes "&&")) (f' blank us)) (exactly (sign (codes "&&"))) at_token (closed no_in shapes.bit_or (exactly (sign (codes "&&"))) refl) (n ∷ ys) vs (rw r refl) (rw r refl)));
            whole = steps-append in_front_logical (Some C.first) C.more n ∙ (ap (λ x. step_on in_front_logical x n) C.whole ∙ ap Some (and_made k ns (bare k' ns') S.no_or));
          };
          ands = all_and_append A.ands (bare k' ns');
          no_or = A.no_or;
        };
      }

  pub either_form : StandsIn assigned no_in shapes.logical_or f k ns → StandsIn assigned no_in shapes.logical_and f' k' ns' → StandsIn assigned no_in shapes.logical_or (joined f f' op.LogicalOr) (kind.BinExpr op.LogicalOr) (bare k ns ∷ bare k' ns' ∷ [])
  unfolding factors terms shifts relations equalities links template_start arrow_rest names.binding_ident
  either_form S R =
      let C = S.reading in
      let A = R.reading in
      let D = A.chain in
      let n = bare (kind.BinExpr op.LogicalOr) (absent ∷ D.first ∷ []) in
      let I = interp assigned (means assigned) in
      record {
        lead = joined_lead assigned f' op.LogicalOr refl S.lead;
        no_arrow = joined_no_arrow assigned f f' op.LogicalOr refl S.no_arrow;
        tight = S.tight;
        no_or = tt;
        param = joined_param assigned f' op.LogicalOr refl S.param;
        reading = record {
          first = C.first;
          more = C.more ++ n ∷ D.more;
          own = λ g us e b z ys vs h h'.
              (let x = D.own blank us e b z ys vs h h' in
              let r : means assigned (part.Binary op.LogicalOr no_in) (f' blank us) ≡ read (n ∷ (D.more ++ ys)) vs =
              means_is assigned (part.Binary op.LogicalOr no_in) (f' blank us)
              ∙ (ap (followed_on (I (logicals no_in))) (ap (built_on (form.Node (plain.BinExpr op.LogicalOr))) (ap (with_front (absent ∷ [])) x.first_read)) ∙ ap (with_front (n ∷ [])) x.few) in
              rw (append_assoc C.more (n ∷ D.more) ys) (C.own g (it blank (sign (codes "||")) (f' blank us)) (exactly (sign (codes "||"))) at_token (closed no_in shapes.bit_or (exactly (sign (codes "||"))) refl) (n ∷ (D.more ++ ys)) vs (rw r refl) (rw r refl)));
          whole =
              steps-split in_front_logical (Some C.first) C.more (n ∷ D.more)
              ∙ (ap (λ x. steps in_front_logical x (n ∷ D.more)) C.whole
              ∙ (ap (λ x. steps in_front_logical (Some x) D.more) (or_made k ns D.first) ∙ or_steps (bare k ns) D.first (bare k' ns') A.ands A.no_or D.whole));
        };
      }
