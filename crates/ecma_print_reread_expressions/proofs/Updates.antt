-- `++` and `--` are read as they are laid out.
use Rattle.std.proofs.Common.{◌≡◌, Bool, true, false, List, [], ◌∷◌, refl, ap, ◌∙◌}
use Rattle.ecma_lex.specs.Keys.{is_reserved, reserved_words}
use Rattle.ecma_kind.specs.declared.operators.UpdateOp.{UpdateOp}
use Rattle.ecma_kind.specs.declared.operators.UpdateOp.TheVariants.{PlusPlus, MinusMinus}
use Rattle.ecma_kind.specs.declared.kind.Kind.{Kind}
use Rattle.ecma_kind.specs.declared.kind.Kind.TheVariants as kind
use Rattle.ecma_tree.specs.declared.node.Node.{Node}
use Rattle.ecma_tree.specs.Nodes.{absent}
use Rattle.ecma_grammar.specs.declared.production.Part.TheVariants as part
use Rattle.ecma_grammar.specs.declared.production.Form.TheVariants as form
use Rattle.ecma_grammar.specs.trees.Parts.{in_front}
use Rattle.ecma_grammar.specs.productions.Names as names
use Rattle.ecma_grammar.specs.productions.Types.{param, rest_pattern, default_value}
use Rattle.ecma_grammar.specs.productions.Patterns.{pattern_body, array_pattern, object_pattern}
use Rattle.ecma_grammar.specs.productions.Functions as functions
use Rattle.ecma_grammar.specs.productions.Functions.{arrow, arrow_rest}
use Rattle.ecma_grammar.specs.productions.Classes as classes
use Rattle.ecma_grammar.specs.productions.Declarations as declarations
use Rattle.ecma_grammar.specs.productions.Statements as statements
use Rattle.ecma_grammar.specs.productions.Statements.{labeled}
use Rattle.ecma_grammar.specs.productions.Modules as modules
use Rattle.ecma_grammar.specs.productions.Chains.{links, template_start}
use Rattle.ecma_grammar.specs.productions.Operators as operators
use Rattle.ecma_grammar.specs.productions.Operators.{prefixed}
use Rattle.ecma_print_tokens.specs.Items.{no_gap, Gap, Items, it}
use Rattle.ecma_print_readings.proofs.Machine.{read, with_front, followed_on, built_on, interp, means}
use Rattle.ecma_shapes.specs.Shapes as shapes
use Rattle.ecma_shapes.proofs.Signs.{update_token}
use Rattle.ecma_print_readings.proofs.Levels.{means_is}
use Rattle.ecma_print_readings.proofs.Fronts.{Front, exactly, Begins, at_token, refuses_at}
use Rattle.ecma_print_readings.proofs.Towers.{suffix, closes, skipped}
use Rattle.ecma_print_readings.proofs.Heads.{bare, nodes}
use Rattle.ecma_print_readings.proofs.Forms.{Laid, Reads, Form, chain_read, apart, ends_no_param, only_opens, lead_of, lead_before, lead_by, param_in_front, param_by, no_arrow_by, no_arrow_before}
use Rattle.ecma_print_readings.proofs.Bindings.{Stands, go_out, direct, tight_by}

update_opens : (o : UpdateOp) → only_opens (exactly (update_token o)) ≡ true
unfolding arrow arrow_rest labeled param rest_pattern default_value pattern_body array_pattern object_pattern names.binding_ident is_reserved reserved_words statements.statement_body names.block statements.if_ statements.for_await statements.for_ statements.while_ statements.do_while statements.switch statements.try_ statements.jump declarations.declaration functions.function_declaration classes.class_declaration modules.module_item modules.import modules.import_equals modules.export modules.export_default
update_opens PlusPlus = refl
update_opens MinusMinus = refl

no_prefix : (o : UpdateOp) → refuses_at (exactly (update_token o)) prefixed ≡ true
unfolding prefixed
no_prefix PlusPlus = refl
no_prefix MinusMinus = refl

update_apart : (o : UpdateOp) → apart (exactly (update_token o)) ≡ true
unfolding arrow_rest names.binding_ident
update_apart PlusPlus = refl
update_apart MinusMinus = refl

update_no_param : (o : UpdateOp) → ends_no_param (exactly (update_token o)) ≡ true
update_no_param PlusPlus = refl
update_no_param MinusMinus = refl

ends_chain : (o : UpdateOp) → closes shapes.object (exactly (update_token o)) ≡ true
unfolding links template_start
ends_chain PlusPlus = refl
ends_chain MinusMinus = refl

postfix_made : (o : UpdateOp) (k : Kind) (ns : List Node) → in_front (bare k ns) (bare (kind.UpdateExpr o false) (absent ∷ [])) ≡ bare (kind.UpdateExpr o false) (bare k ns ∷ [])
postfix_made o k ns = simp nodes

module _ (assigned : Bool) where
  prefix_read : (o : UpdateOp) (g : Gap) (ts us : Items) (n : Node) → means assigned part.Operand ts ≡ read (n ∷ []) us → Reads assigned operators.update (it g (update_token o) ts) (bare (kind.UpdateExpr o true) (n ∷ []) ∷ []) us
  unfolding operators.update
  prefix_read PlusPlus g ts us n h = rw h refl
  prefix_read MinusMinus g ts us n h = rw h refl

  suffix_read : (o : UpdateOp) (us : Items) → Reads assigned suffix (it no_gap (update_token o) us) (bare (kind.UpdateExpr o false) (absent ∷ []) ∷ []) us
  suffix_read PlusPlus us = refl
  suffix_read MinusMinus us = refl

  module _ (o : UpdateOp) {f : Laid} {k : Kind} {ns : List Node} (S : Stands assigned shapes.callee f k ns) where
    operand_read : (us : Items) (e : Front) → Begins e us → closes shapes.update e ≡ true → means assigned part.Operand (f no_gap us) ≡ read (bare k ns ∷ []) us
    operand_read us e b z = means_is assigned part.Operand (f no_gap us) ∙ direct assigned shapes.unary (go_out assigned 3 shapes.callee S) no_gap us e b z

    pub prefix_form : Stands assigned shapes.update (λ g us. it g (update_token o) (f no_gap us)) (kind.UpdateExpr o true) (bare k ns ∷ [])
    prefix_form = record {
      lead = lead_by assigned (update_token o) (update_opens o) (f no_gap);
      tight = tight_by (exactly (update_token o)) (update_opens o);
      no_or = refl;
      no_arrow = no_arrow_by assigned (update_token o) (update_opens o) (f no_gap);
      param = λ g us e b z. param_by assigned (update_token o) (update_opens o) (f no_gap) g us;
      reading = (no_prefix o, λ g us e b z. prefix_read o g (f no_gap us) us (bare k ns) (operand_read us e b z));
    }

    updated : Form assigned f k ns → (g : Gap) (us : Items) → Reads assigned operators.update (f g (it no_gap (update_token o) us)) (bare (kind.UpdateExpr o false) (bare k ns ∷ []) ∷ []) us
    unfolding operators.update
    updated F g us =
        let ts = f g (it no_gap (update_token o) us) in
        let p = F.opens in
        skipped assigned (means assigned) 2 operators.update F.front ts (F.begins g (it no_gap (update_token o) us)) (rw (p.no_increment, p.no_decrement) refl)
        ∙ (ap (built_on form.Chain) (ap (followed_on (interp assigned (means assigned) suffix)) (chain_read assigned F g (it no_gap (update_token o) us) (exactly (update_token o)) at_token (ends_chain o)) ∙ ap (with_front (bare k ns ∷ [])) (suffix_read o us))
        ∙ ap (λ x. read (x ∷ []) us) (postfix_made o k ns))

    pub postfix_form : Stands assigned shapes.update (λ g us. f g (it no_gap (update_token o) us)) (kind.UpdateExpr o false) (bare k ns ∷ [])
    postfix_form =
        let F = S.reading in
        let p = F.opens in
        record { lead = lead_before assigned (lead_of assigned F) (update_token o) (update_apart o) no_gap (λ us. us); tight = (p.no_private, p.no_yield); no_or = refl; no_arrow = no_arrow_before assigned f F.no_arrow (update_token o) (update_apart o) no_gap (λ us. us); param = λ g us e b z. param_in_front assigned F.as_param (update_token o) (update_no_param o) no_gap (λ us. us) g us; reading = (p.no_prefix, λ g us e b z. updated F g us) }
