-- Assignments are read as they are laid out.
use Rattle.std.proofs.Common.{◌≡◌, Bool, true, false, List, [], ◌∷◌, refl, ap, ◌∙◌}
use Rattle.std.proofs.lemmas.Bool.{and_parts}
use Rattle.ecma_kind.specs.declared.operators.AssignOp.{AssignOp}
use Rattle.ecma_kind.specs.declared.operators.AssignOp.TheVariants.{Assign, AddAssign, SubAssign, MulAssign, DivAssign, ModAssign, LShiftAssign, RShiftAssign, ZeroFillRShiftAssign, BitOrAssign, BitXorAssign, BitAndAssign, ExpAssign, AndAssign, OrAssign, NullishAssign}
use Rattle.ecma_kind.specs.declared.kind.Kind.{Kind}
use Rattle.ecma_kind.specs.declared.kind.Kind.TheVariants as kind
use Rattle.ecma_tree.specs.declared.node.Node.{Node}
use Rattle.ecma_tree.specs.Nodes.{absent}
use Rattle.ecma_grammar.specs.declared.production.Part.TheVariants as part
use Rattle.ecma_grammar.specs.declared.production.Form.TheVariants as form
use Rattle.ecma_grammar.specs.trees.Parts.{in_front}
use Rattle.ecma_grammar.specs.Grammar.{◌▸◌, build}
use Rattle.ecma_grammar.specs.productions.Names as names
use Rattle.ecma_grammar.specs.productions.Functions.{arrow_rest, arrow_body}
use Rattle.ecma_grammar.specs.productions.Chains.{links, template_start}
use Rattle.ecma_grammar.specs.productions.Operators.{factors, terms, shifts, relations, equalities}
use Rattle.ecma_grammar.specs.productions.Expressions as expressions
use Rattle.ecma_grammar.specs.productions.Expressions.{assignments, yield_}
use Rattle.ecma_print_tokens.specs.Items.{Gap, Items, it}
use Rattle.ecma_print_readings.proofs.Machine.{read, with_front, followed_on, or_on, built_on, interp, means}
use Rattle.ecma_shapes.specs.Shapes as shapes
use Rattle.ecma_shapes.proofs.Signs.{blank, assign_token}
use Rattle.ecma_print_readings.proofs.Levels.{means_is}
use Rattle.ecma_print_readings.proofs.Fronts.{Front, exactly, Begins, at_token, refuses_at, refused_at}
use Rattle.ecma_print_readings.proofs.Towers.{behind_arrow, closes_in, closes_conditional}
use Rattle.ecma_print_readings.proofs.Heads.{bare, nodes}
use Rattle.ecma_print_readings.proofs.Forms.{Laid, Reads, AsParam, apart, lead_before, param_in_front, no_rest_at}
use Rattle.ecma_print_readings.proofs.Bindings.{conditional_closed, StandsIn, EndOf, Stands, conditional_read, go_out, used}

assign_apart : (o : AssignOp) → apart (exactly (assign_token o)) ≡ true
unfolding arrow_rest names.binding_ident
assign_apart Assign = refl
assign_apart AddAssign = refl
assign_apart SubAssign = refl
assign_apart MulAssign = refl
assign_apart DivAssign = refl
assign_apart ModAssign = refl
assign_apart LShiftAssign = refl
assign_apart RShiftAssign = refl
assign_apart ZeroFillRShiftAssign = refl
assign_apart BitOrAssign = refl
assign_apart BitXorAssign = refl
assign_apart BitAndAssign = refl
assign_apart ExpAssign = refl
assign_apart AndAssign = refl
assign_apart OrAssign = refl
assign_apart NullishAssign = refl

assign_closes : (o : AssignOp) → closes_conditional false (exactly (assign_token o)) ≡ true
unfolding factors terms shifts relations equalities links template_start
assign_closes Assign = refl
assign_closes AddAssign = refl
assign_closes SubAssign = refl
assign_closes MulAssign = refl
assign_closes DivAssign = refl
assign_closes ModAssign = refl
assign_closes LShiftAssign = refl
assign_closes RShiftAssign = refl
assign_closes ZeroFillRShiftAssign = refl
assign_closes BitOrAssign = refl
assign_closes BitXorAssign = refl
assign_closes BitAndAssign = refl
assign_closes ExpAssign = refl
assign_closes AndAssign = refl
assign_closes OrAssign = refl
assign_closes NullishAssign = refl

assigned_made : (o : AssignOp) (k : Kind) (ns : List Node) (x : Node) → in_front (bare k ns) (bare (kind.AssignExpr o) (absent ∷ x ∷ [])) ≡ bare (kind.AssignExpr o) (bare k ns ∷ x ∷ [])
assigned_made o k ns x = simp nodes

module _ (assigned : Bool) where
  operator_read : (no_in : Bool) (o : AssignOp) (ts us : Items) (n : Node) → means assigned (part.Assign no_in false) ts ≡ read (n ∷ []) us → Reads assigned (assignments no_in false) (it blank (assign_token o) ts) (bare (kind.AssignExpr o) (absent ∷ n ∷ []) ∷ []) us
  unfolding assignments
  operator_read no_in Assign ts us n h = rw h refl
  operator_read no_in AddAssign ts us n h = rw h refl
  operator_read no_in SubAssign ts us n h = rw h refl
  operator_read no_in MulAssign ts us n h = rw h refl
  operator_read no_in DivAssign ts us n h = rw h refl
  operator_read no_in ModAssign ts us n h = rw h refl
  operator_read no_in LShiftAssign ts us n h = rw h refl
  operator_read no_in RShiftAssign ts us n h = rw h refl
  operator_read no_in ZeroFillRShiftAssign ts us n h = rw h refl
  operator_read no_in BitOrAssign ts us n h = rw h refl
  operator_read no_in BitXorAssign ts us n h = rw h refl
  operator_read no_in BitAndAssign ts us n h = rw h refl
  operator_read no_in ExpAssign ts us n h = rw h refl
  operator_read no_in AndAssign ts us n h = rw h refl
  operator_read no_in OrAssign ts us n h = rw h refl
  operator_read no_in NullishAssign ts us n h = rw h refl

  module _ (o : AssignOp) {f f' : Laid} {k k' : Kind} {ns ns' : List Node} {no_in : Bool} (T : StandsIn assigned no_in shapes.callee f k ns) (V : StandsIn assigned no_in shapes.assignment f' k' ns') where
    abbrev pub rest : Items → Items
    rest us = it blank (assign_token o) (f' blank us)

    target_read : (g : Gap) (us : Items) → Reads assigned (expressions.conditional no_in false) (f g (rest us)) (bare k ns ∷ []) (rest us)
    target_read g us = conditional_read assigned (go_out assigned 15 shapes.callee T) g (rest us) (exactly (assign_token o)) at_token (conditional_closed no_in (exactly (assign_token o)) (assign_closes o))

    pub whole_read : (g : Gap) (us : Items) (e : Front) → Begins e us → closes_in no_in shapes.assignment e ≡ true → means assigned (part.Assign no_in false) (f g (rest us)) ≡ read (bare (kind.AssignExpr o) (bare k ns ∷ bare k' ns' ∷ []) ∷ []) us
    whole_read g us e b z =
        let I = interp assigned (means assigned) in
        let ts = f g (rest us) in
        let L = T.lead in
        let y = T.tight in
        let t = exactly (assign_token o) in
        let a = and_parts (refuses_at t (arrow_body false false)) _ (assign_apart o) in
        let c = and_parts (refuses_at t (arrow_rest false false)) _ a.1 in
        means_is assigned (part.Assign no_in false) ts
        ∙ (ap (or_on (I (behind_arrow no_in)) ts) (T.no_arrow no_in g (rest us) t at_token a.0 (refused_at assigned (means assigned) (arrow_rest no_in false) t (rest us) at_token (no_rest_at t c.0 no_in)))
        ∙ (ap (or_on (I (build form.Chain (expressions.conditional no_in false ▸ assignments no_in false))) ts) (refused_at assigned (means assigned) (yield_ no_in false) L.front ts (L.begins g (rest us)) y.1)
        ∙ (ap (built_on form.Chain) (ap (followed_on (I (assignments no_in false))) (target_read g us) ∙ ap (with_front (bare k ns ∷ [])) (operator_read no_in o (f' blank us) us (bare k' ns') (used assigned V blank us e b z)))
        ∙ ap (λ x. read (x ∷ []) us) (assigned_made o k ns (bare k' ns')))))

  module _ (o : AssignOp) {f f' : Laid} {k k' : Kind} {ns ns' : List Node} (T : Stands assigned shapes.callee f k ns) (V : Stands assigned shapes.assignment f' k' ns') where
    as_param : (p : AssignOp) → o ≡ p → (g : Gap) (us : Items) (e : Front) → Begins e us → EndOf shapes.assignment e → AsParam assigned (f g (rest o T V us)) us
    as_param Assign q g us e b z = let F = T.reading in rw q (F.with_default g (f' blank us) us (bare k' ns') (used assigned V blank us e b z.1))
    as_param AddAssign q g us e b z = rw q (param_in_front assigned T.param (assign_token AddAssign) refl blank (f' blank) g us)
    as_param SubAssign q g us e b z = rw q (param_in_front assigned T.param (assign_token SubAssign) refl blank (f' blank) g us)
    as_param MulAssign q g us e b z = rw q (param_in_front assigned T.param (assign_token MulAssign) refl blank (f' blank) g us)
    as_param DivAssign q g us e b z = rw q (param_in_front assigned T.param (assign_token DivAssign) refl blank (f' blank) g us)
    as_param ModAssign q g us e b z = rw q (param_in_front assigned T.param (assign_token ModAssign) refl blank (f' blank) g us)
    as_param LShiftAssign q g us e b z = rw q (param_in_front assigned T.param (assign_token LShiftAssign) refl blank (f' blank) g us)
    as_param RShiftAssign q g us e b z = rw q (param_in_front assigned T.param (assign_token RShiftAssign) refl blank (f' blank) g us)
    as_param ZeroFillRShiftAssign q g us e b z = rw q (param_in_front assigned T.param (assign_token ZeroFillRShiftAssign) refl blank (f' blank) g us)
    as_param BitOrAssign q g us e b z = rw q (param_in_front assigned T.param (assign_token BitOrAssign) refl blank (f' blank) g us)
    as_param BitXorAssign q g us e b z = rw q (param_in_front assigned T.param (assign_token BitXorAssign) refl blank (f' blank) g us)
    as_param BitAndAssign q g us e b z = rw q (param_in_front assigned T.param (assign_token BitAndAssign) refl blank (f' blank) g us)
    as_param ExpAssign q g us e b z = rw q (param_in_front assigned T.param (assign_token ExpAssign) refl blank (f' blank) g us)
    as_param AndAssign q g us e b z = rw q (param_in_front assigned T.param (assign_token AndAssign) refl blank (f' blank) g us)
    as_param OrAssign q g us e b z = rw q (param_in_front assigned T.param (assign_token OrAssign) refl blank (f' blank) g us)
    as_param NullishAssign q g us e b z = rw q (param_in_front assigned T.param (assign_token NullishAssign) refl blank (f' blank) g us)

    pub assignment_form : Stands assigned shapes.assignment (λ g us. f g (rest o T V us)) (kind.AssignExpr o) (bare k ns ∷ bare k' ns' ∷ [])
    assignment_form = record {
      lead = lead_before assigned T.lead (assign_token o) (assign_apart o) blank (f' blank);
      tight = tt;
      no_or = tt;
      no_arrow = tt;
      param = as_param o refl;
      reading = whole_read o T V;
    }
