-- Expressions with operators are read as they are laid out.
use Rattle.std.proofs.Common.{◌≡◌, Bool, true, false, List, [], ◌∷◌, ◌++◌, codes, refl, ap, ◌∙◌, append_assoc, Some, None}
use Rattle.std.proofs.lemmas.Bool.{false≢true}
use Rattle.ecma_lex.specs.Keys.{is_reserved, reserved_words}
use Rattle.ecma_kind.specs.declared.operators.UnaryOp.{UnaryOp}
use Rattle.ecma_kind.specs.declared.operators.UnaryOp.TheVariants.{Minus, Plus, Bang, Tilde, TypeOf, Void, Delete}
use Rattle.ecma_kind.specs.declared.operators.BinaryOp.{BinaryOp}
use Rattle.ecma_kind.specs.declared.operators.BinaryOp.TheVariants as op
use Rattle.ecma_kind.specs.declared.kind.Kind.{Kind}
use Rattle.ecma_kind.specs.declared.kind.Kind.TheVariants as kind
use Rattle.ecma_tree.specs.declared.node.Node.{Node}
use Rattle.ecma_tree.specs.Nodes.{absent}
use Rattle.ecma_grammar.specs.declared.production.Part.TheVariants as part
use Rattle.ecma_grammar.specs.declared.production.Plain.TheVariants as plain
use Rattle.ecma_grammar.specs.declared.production.Form.TheVariants as form
use Rattle.ecma_grammar.specs.trees.Parts.{in_front}
use Rattle.ecma_grammar.specs.trees.Chains.{step_on}
use Rattle.ecma_grammar.specs.Grammar.{Grammar, ◌▸◌, build}
use Rattle.ecma_grammar.specs.productions.Names as names
use Rattle.ecma_grammar.specs.productions.Types.{param, rest_pattern, default_value}
use Rattle.ecma_grammar.specs.productions.Patterns.{pattern_body, array_pattern, object_pattern}
use Rattle.ecma_grammar.specs.productions.Functions as functions
use Rattle.ecma_grammar.specs.productions.Functions.{arrow, arrow_rest}
use Rattle.ecma_grammar.specs.productions.Classes as classes
use Rattle.ecma_grammar.specs.productions.Declarations as declarations
use Rattle.ecma_grammar.specs.productions.Statements as statements
use Rattle.ecma_grammar.specs.productions.Statements.{labeled}
use Rattle.ecma_grammar.specs.productions.Modules as modules
use Rattle.ecma_grammar.specs.productions.Chains.{links, template_start}
use Rattle.ecma_grammar.specs.productions.Operators as operators
use Rattle.ecma_grammar.specs.productions.Operators.{prefixed, exponentiation, factors, terms, shifts, relations, equalities, right_side, more_operators}
use Rattle.ecma_grammar.specs.productions.Expressions.{assignments}
use Rattle.ecma_grammar.proofs.Steps.{steps-append}
use Rattle.ecma_print_tokens.specs.Items.{key, sign, Gap, Items, it}
use Rattle.ecma_print_readings.proofs.Machine.{read, with_front, followed_on, or_on, built_on, interp, means}
use Rattle.ecma_shapes.specs.Shapes as shapes
use Rattle.ecma_shapes.specs.Shapes.{Level, IsOperator}
use Rattle.ecma_shapes.proofs.Signs.{blank, unary_token, binary_token}
use Rattle.ecma_print_readings.proofs.Levels.{means_is}
use Rattle.ecma_print_readings.proofs.Fronts.{Front, refused_at, exactly, Begins, at_token}
use Rattle.ecma_print_readings.proofs.Towers.{power_tail, closes_in, closes}
use Rattle.ecma_print_readings.proofs.Heads.{bare, nodes}
use Rattle.ecma_print_readings.proofs.Forms.{Laid, Reads, Lead, apart, ends_no_param, only_opens, lead_before, lead_by, NoDefault, param_in_front, param_by, no_arrow_by, no_arrow_before, NoArrow}
use Rattle.ecma_print_readings.proofs.Bindings.{closed, Chained, with_operator, StandsIn, Stands, direct, tight_by}

-- one operator before an operand

unary_opens : (o : UnaryOp) → only_opens (exactly (unary_token o)) ≡ true
unfolding arrow arrow_rest labeled param rest_pattern default_value pattern_body array_pattern object_pattern names.binding_ident is_reserved reserved_words statements.statement_body names.block statements.if_ statements.for_await statements.for_ statements.while_ statements.do_while statements.switch statements.try_ statements.jump declarations.declaration functions.function_declaration classes.class_declaration modules.module_item modules.import modules.import_equals modules.export modules.export_default
unary_opens Minus = refl
unary_opens Plus = refl
unary_opens Bang = refl
unary_opens Tilde = refl
unary_opens TypeOf = refl
unary_opens Void = refl
unary_opens Delete = refl

-- an operator between two
abbrev pub joined : Laid → Laid → BinaryOp → Laid
joined f f' o g us = f g (it blank (binary_token o) (f' blank us))

await_opens : only_opens (exactly (key (codes "await"))) ≡ true
unfolding arrow arrow_rest labeled param rest_pattern default_value pattern_body array_pattern object_pattern names.binding_ident is_reserved reserved_words statements.statement_body names.block statements.if_ statements.for_await statements.for_ statements.while_ statements.do_while statements.switch statements.try_ statements.jump declarations.declaration functions.function_declaration classes.class_declaration modules.module_item modules.import modules.import_equals modules.export modules.export_default
await_opens = refl

-- a node that holds what stands before it
pub binary_made : (o : BinaryOp) (k : Kind) (ns : List Node) (r : Node) → in_front (bare k ns) (bare (kind.BinExpr o) (absent ∷ r ∷ [])) ≡ bare (kind.BinExpr o) (bare k ns ∷ r ∷ [])
binary_made o k ns r = simp nodes

-- `in` is an operator, or is none
abbrev pub stands_there : Bool → BinaryOp → Bool
stands_there false o = true
stands_there true op.In = false
stands_there true o = true

module _ (assigned : Bool) where
  prefix_read : (o : UnaryOp) (g : Gap) (ts us : Items) (n : Node) → means assigned part.Operand ts ≡ read (n ∷ []) us → Reads assigned prefixed (it g (unary_token o) ts) (bare (kind.UnaryExpr o) (n ∷ []) ∷ []) us
  unfolding prefixed
  prefix_read Minus g ts us n h = rw h refl
  prefix_read Plus g ts us n h = rw h refl
  prefix_read Bang g ts us n h = rw h refl
  prefix_read Tilde g ts us n h = rw h refl
  prefix_read TypeOf g ts us n h = rw h refl
  prefix_read Void g ts us n h = rw h refl
  prefix_read Delete g ts us n h = rw h refl

  pub unary_form : (o : UnaryOp) (h : Gap) {f : Laid} {k : Kind} {ns : List Node} → Stands assigned shapes.unary f k ns → Stands assigned shapes.unary (λ g us. it g (unary_token o) (f h us)) (kind.UnaryExpr o) (bare k ns ∷ [])
  unary_form o h {f} {k} {ns} S = record {
    lead = lead_by assigned (unary_token o) (unary_opens o) (f h);
    no_arrow = no_arrow_by assigned (unary_token o) (unary_opens o) (f h);
    tight = tight_by (exactly (unary_token o)) (unary_opens o);
    no_or = refl;
    param = λ g us e b z. param_by assigned (unary_token o) (unary_opens o) (f h) g us;
    reading = with_operator (λ g us e b z. prefix_read o g (f h us) us (bare k ns) (means_is assigned part.Operand (f h us) ∙ direct assigned shapes.unary S h us e b z));
  }

  await_read : (g : Gap) (ts us : Items) (n : Node) → means assigned part.Operand ts ≡ read (n ∷ []) us → Reads assigned prefixed (it g (key (codes "await")) ts) (bare kind.AwaitExpr (n ∷ []) ∷ []) us
  unfolding prefixed
  await_read g ts us n h = rw h refl

  pub await_form : {f : Laid} {k : Kind} {ns : List Node} → Stands assigned shapes.unary f k ns → Stands assigned shapes.unary (λ g us. it g (key (codes "await")) (f blank us)) kind.AwaitExpr (bare k ns ∷ [])
  await_form {f} {k} {ns} S = record {
    lead = lead_by assigned (key (codes "await")) await_opens (f blank);
    no_arrow = no_arrow_by assigned (key (codes "await")) await_opens (f blank);
    tight = tight_by (exactly (key (codes "await"))) await_opens;
    no_or = refl;
    param = λ g us e b z. param_by assigned (key (codes "await")) await_opens (f blank) g us;
    reading = with_operator (λ g us e b z. await_read g (f blank us) us (bare k ns) (means_is assigned part.Operand (f blank us) ∙ direct assigned shapes.unary S blank us e b z));
  }

  -- an operator between two operands
  chained_form : (no_in : Bool) (o : BinaryOp) {base : Grammar} {t : Level} {f : Laid} (f' : Laid) (k : Kind) (ns : List Node) (r : Node) → closes t (exactly (binary_token o)) ≡ true
      → ((ts us : Items) (xs : List Node) → means assigned (part.Binary o no_in) ts ≡ read xs us → Reads assigned (more_operators o no_in) (it blank (binary_token o) ts) xs us)
      → Chained assigned no_in base (more_operators o no_in) t f (bare k ns)
      → ((g : Gap) (us : Items) (e : Front) → Begins e us → closes_in no_in t e ≡ true → Reads assigned (right_side o no_in) (f' g us) (r ∷ []) us)
      → Chained assigned no_in base (more_operators o no_in) t (λ g us. f g (it blank (binary_token o) (f' blank us))) (bare (kind.BinExpr o) (bare k ns ∷ r ∷ []))
  chained_form no_in o {t = t} f' k ns r z takes C d =
      let n = bare (kind.BinExpr o) (absent ∷ r ∷ []) in
      let I = interp assigned (means assigned) in
      record {
        pieces = C.pieces ++ n ∷ [];
        own = λ g us e b c ys vs h.
            rw (append_assoc C.pieces (n ∷ []) ys)
            (C.own g (it blank (binary_token o) (f' blank us)) (exactly (binary_token o)) at_token (closed no_in t (exactly (binary_token o)) z) (n ∷ ys) vs
            (takes (f' blank us) vs (n ∷ ys) (means_is assigned (part.Binary o no_in) (f' blank us)
            ∙ (ap (followed_on (I (more_operators o no_in))) (ap (built_on (form.Node (plain.BinExpr o))) (ap (with_front (absent ∷ [])) (d blank us e b c))) ∙ ap (with_front (n ∷ [])) h))));
        whole = steps-append in_front None C.pieces n ∙ (ap (λ x. step_on in_front x n) C.whole ∙ ap Some (binary_made o k ns r));
      }

  abbrev pub joined_lead : {f : Laid} (f' : Laid) (o : BinaryOp) → apart (exactly (binary_token o)) ≡ true → Lead assigned f → Lead assigned (joined f f' o)
  joined_lead f' o z L = lead_before assigned L (binary_token o) z blank (f' blank)

  pub joined_no_arrow : (f f' : Laid) (o : BinaryOp) → apart (exactly (binary_token o)) ≡ true → NoArrow assigned f → NoArrow assigned (joined f f' o)
  joined_no_arrow f f' o z N = no_arrow_before assigned f N (binary_token o) z blank (f' blank)

  pub joined_param : {f : Laid} (f' : Laid) (o : BinaryOp) → ends_no_param (exactly (binary_token o)) ≡ true → NoDefault assigned f → NoDefault assigned (joined f f' o)
  joined_param f' o z P g us e b h = param_in_front assigned P (binary_token o) z blank (f' blank) g us

  -- what stands at two levels
  module _ {f f' : Laid} {k k' : Kind} {ns ns' : List Node} where
    pub binary_form : (no_in : Bool) {o : BinaryOp} {l t : Level} → IsOperator o l t → stands_there no_in o ≡ true → StandsIn assigned no_in l f k ns → StandsIn assigned no_in t f' k' ns' → StandsIn assigned no_in l (joined f f' o) (kind.BinExpr o) (bare k ns ∷ bare k' ns' ∷ [])
    unfolding factors terms shifts relations equalities assignments links template_start arrow_rest names.binding_ident is_reserved reserved_words operators.shift
    binary_form no_in shapes.times h S R = record { lead = joined_lead f' op.Mul refl S.lead; tight = S.tight; no_or = refl; no_arrow = joined_no_arrow f f' op.Mul refl S.no_arrow; param = joined_param f' op.Mul refl S.param; reading = chained_form false op.Mul f' k ns (bare k' ns') refl (λ ts us xs h. rw h refl) S.reading (direct assigned shapes.power R) }
    binary_form no_in shapes.divided h S R = record { lead = joined_lead f' op.Div refl S.lead; tight = S.tight; no_or = refl; no_arrow = joined_no_arrow f f' op.Div refl S.no_arrow; param = joined_param f' op.Div refl S.param; reading = chained_form false op.Div f' k ns (bare k' ns') refl (λ ts us xs h. rw h refl) S.reading (direct assigned shapes.power R) }
    binary_form no_in shapes.modulo h S R = record { lead = joined_lead f' op.Mod refl S.lead; tight = S.tight; no_or = refl; no_arrow = joined_no_arrow f f' op.Mod refl S.no_arrow; param = joined_param f' op.Mod refl S.param; reading = chained_form false op.Mod f' k ns (bare k' ns') refl (λ ts us xs h. rw h refl) S.reading (direct assigned shapes.power R) }
    binary_form no_in shapes.plus h S R = record { lead = joined_lead f' op.Add refl S.lead; tight = S.tight; no_or = refl; no_arrow = joined_no_arrow f f' op.Add refl S.no_arrow; param = joined_param f' op.Add refl S.param; reading = chained_form false op.Add f' k ns (bare k' ns') refl (λ ts us xs h. rw h refl) S.reading (direct assigned shapes.product R) }
    binary_form no_in shapes.minus h S R = record { lead = joined_lead f' op.Sub refl S.lead; tight = S.tight; no_or = refl; no_arrow = joined_no_arrow f f' op.Sub refl S.no_arrow; param = joined_param f' op.Sub refl S.param; reading = chained_form false op.Sub f' k ns (bare k' ns') refl (λ ts us xs h. rw h refl) S.reading (direct assigned shapes.product R) }
    binary_form no_in shapes.left_shift h S R = record { lead = joined_lead f' op.LShift refl S.lead; tight = S.tight; no_or = refl; no_arrow = joined_no_arrow f f' op.LShift refl S.no_arrow; param = joined_param f' op.LShift refl S.param; reading = chained_form false op.LShift f' k ns (bare k' ns') refl (λ ts us xs h. rw h refl) S.reading (direct assigned shapes.sum R) }
    binary_form no_in shapes.right_shift h S R = record { lead = joined_lead f' op.RShift refl S.lead; tight = S.tight; no_or = refl; no_arrow = joined_no_arrow f f' op.RShift refl S.no_arrow; param = joined_param f' op.RShift refl S.param; reading = chained_form false op.RShift f' k ns (bare k' ns') refl (λ ts us xs h. rw h refl) S.reading (direct assigned shapes.sum R) }
    binary_form no_in shapes.unsigned_shift h S R = record { lead = joined_lead f' op.ZeroFillRShift refl S.lead; tight = S.tight; no_or = refl; no_arrow = joined_no_arrow f f' op.ZeroFillRShift refl S.no_arrow; param = joined_param f' op.ZeroFillRShift refl S.param; reading = chained_form false op.ZeroFillRShift f' k ns (bare k' ns') refl (λ ts us xs h. rw h refl) S.reading (direct assigned shapes.sum R) }
    binary_form no_in shapes.less h S R = record { lead = joined_lead f' op.Lt refl S.lead; tight = S.tight; no_or = refl; no_arrow = joined_no_arrow f f' op.Lt refl S.no_arrow; param = joined_param f' op.Lt refl S.param; reading = chained_form no_in op.Lt f' k ns (bare k' ns') refl (λ ts us xs h. rw h refl) S.reading (direct assigned shapes.shift R) }
    binary_form no_in shapes.greater h S R = record { lead = joined_lead f' op.Gt refl S.lead; tight = S.tight; no_or = refl; no_arrow = joined_no_arrow f f' op.Gt refl S.no_arrow; param = joined_param f' op.Gt refl S.param; reading = chained_form no_in op.Gt f' k ns (bare k' ns') refl (λ ts us xs h. rw h refl) S.reading (direct assigned shapes.shift R) }
    binary_form no_in shapes.at_most h S R = record { lead = joined_lead f' op.LtEq refl S.lead; tight = S.tight; no_or = refl; no_arrow = joined_no_arrow f f' op.LtEq refl S.no_arrow; param = joined_param f' op.LtEq refl S.param; reading = chained_form no_in op.LtEq f' k ns (bare k' ns') refl (λ ts us xs h. rw h refl) S.reading (direct assigned shapes.shift R) }
    binary_form no_in shapes.at_least h S R = record { lead = joined_lead f' op.GtEq refl S.lead; tight = S.tight; no_or = refl; no_arrow = joined_no_arrow f f' op.GtEq refl S.no_arrow; param = joined_param f' op.GtEq refl S.param; reading = chained_form no_in op.GtEq f' k ns (bare k' ns') refl (λ ts us xs h. rw h refl) S.reading (direct assigned shapes.shift R) }
    binary_form no_in shapes.instance_of h S R = record { lead = joined_lead f' op.InstanceOf refl S.lead; tight = S.tight; no_or = refl; no_arrow = joined_no_arrow f f' op.InstanceOf refl S.no_arrow; param = joined_param f' op.InstanceOf refl S.param; reading = chained_form no_in op.InstanceOf f' k ns (bare k' ns') refl (λ ts us xs h. rw h refl) S.reading (direct assigned shapes.shift R) }
    binary_form true shapes.contained h S R = absurd (false≢true h)
    binary_form false shapes.contained h S R = record { lead = joined_lead f' op.In refl S.lead; tight = S.tight; no_or = refl; no_arrow = joined_no_arrow f f' op.In refl S.no_arrow; param = joined_param f' op.In refl S.param; reading = chained_form false op.In f' k ns (bare k' ns') refl (λ ts us xs h. rw h refl) S.reading (direct assigned shapes.shift R) }
    binary_form no_in shapes.equal h S R = record { lead = joined_lead f' op.EqEq refl S.lead; tight = S.tight; no_or = refl; no_arrow = joined_no_arrow f f' op.EqEq refl S.no_arrow; param = joined_param f' op.EqEq refl S.param; reading = chained_form no_in op.EqEq f' k ns (bare k' ns') refl (λ ts us xs h. rw h refl) S.reading (direct assigned shapes.relation R) }
    binary_form no_in shapes.unequal h S R = record { lead = joined_lead f' op.NotEq refl S.lead; tight = S.tight; no_or = refl; no_arrow = joined_no_arrow f f' op.NotEq refl S.no_arrow; param = joined_param f' op.NotEq refl S.param; reading = chained_form no_in op.NotEq f' k ns (bare k' ns') refl (λ ts us xs h. rw h refl) S.reading (direct assigned shapes.relation R) }
    binary_form no_in shapes.same h S R = record { lead = joined_lead f' op.EqEqEq refl S.lead; tight = S.tight; no_or = refl; no_arrow = joined_no_arrow f f' op.EqEqEq refl S.no_arrow; param = joined_param f' op.EqEqEq refl S.param; reading = chained_form no_in op.EqEqEq f' k ns (bare k' ns') refl (λ ts us xs h. rw h refl) S.reading (direct assigned shapes.relation R) }
    binary_form no_in shapes.other h S R = record { lead = joined_lead f' op.NotEqEq refl S.lead; tight = S.tight; no_or = refl; no_arrow = joined_no_arrow f f' op.NotEqEq refl S.no_arrow; param = joined_param f' op.NotEqEq refl S.param; reading = chained_form no_in op.NotEqEq f' k ns (bare k' ns') refl (λ ts us xs h. rw h refl) S.reading (direct assigned shapes.relation R) }
    binary_form no_in shapes.conjunction h S R = record { lead = joined_lead f' op.BitAnd refl S.lead; tight = S.tight; no_or = refl; no_arrow = joined_no_arrow f f' op.BitAnd refl S.no_arrow; param = joined_param f' op.BitAnd refl S.param; reading = chained_form no_in op.BitAnd f' k ns (bare k' ns') refl (λ ts us xs h. rw h refl) S.reading (direct assigned shapes.equality R) }
    binary_form no_in shapes.exclusion h S R = record { lead = joined_lead f' op.BitXor refl S.lead; tight = S.tight; no_or = refl; no_arrow = joined_no_arrow f f' op.BitXor refl S.no_arrow; param = joined_param f' op.BitXor refl S.param; reading = chained_form no_in op.BitXor f' k ns (bare k' ns') refl (λ ts us xs h. rw h refl) S.reading (direct assigned shapes.bit_and R) }
    binary_form no_in shapes.disjunction h S R = record { lead = joined_lead f' op.BitOr refl S.lead; tight = S.tight; no_or = refl; no_arrow = joined_no_arrow f f' op.BitOr refl S.no_arrow; param = joined_param f' op.BitOr refl S.param; reading = chained_form no_in op.BitOr f' k ns (bare k' ns') refl (λ ts us xs h. rw h refl) S.reading (direct assigned shapes.bit_xor R) }

  -- `**`: on its left side an update, on its right side more of them
  module _ {f f' : Laid} {k k' : Kind} {ns ns' : List Node} (S : Stands assigned shapes.update f k ns) (R : Stands assigned shapes.power f' k' ns') where
    abbrev raised : Items → Items
    raised us = it blank (sign (codes "**")) (f' blank us)

    tail_read : (us : Items) (e : Front) → Begins e us → closes shapes.power e ≡ true → Reads assigned power_tail (raised us) (bare (kind.BinExpr op.Exp) (absent ∷ bare k' ns' ∷ []) ∷ []) us
    unfolding operators.power_body
    tail_read us e b z = rw (means_is assigned part.Power (f' blank us), direct assigned shapes.power R blank us e b z) refl

    power_read : (g : Gap) (us : Items) (e : Front) → Begins e us → closes shapes.power e ≡ true → Reads assigned exponentiation (f g (raised us)) (bare (kind.BinExpr op.Exp) (bare k ns ∷ bare k' ns' ∷ []) ∷ []) us
    unfolding exponentiation links template_start
    power_read g us e b z =
        let I = interp assigned (means assigned) in
        let ts = f g (raised us) in
        let L = S.lead in
        let r = S.reading in
        ap (or_on (I (build form.Chain (operators.update ▸ power_tail))) ts) (refused_at assigned (means assigned) prefixed L.front ts (L.begins g (raised us)) r.0)
        ∙ (ap (built_on form.Chain) (ap (followed_on (I power_tail)) (r.1 g (raised us) (exactly (sign (codes "**"))) at_token refl) ∙ ap (with_front (bare k ns ∷ [])) (tail_read us e b z))
        ∙ ap (λ x. read (x ∷ []) us) (binary_made op.Exp k ns (bare k' ns')))

    pub power_form : Stands assigned shapes.power (λ g us. f g (raised us)) (kind.BinExpr op.Exp) (bare k ns ∷ bare k' ns' ∷ [])
    unfolding arrow_rest names.binding_ident
    power_form = record {
      lead = lead_before assigned S.lead (sign (codes "**")) refl blank (f' blank);
      no_arrow = no_arrow_before assigned f S.no_arrow (sign (codes "**")) refl blank (f' blank);
      tight = S.tight;
      no_or = refl;
      param = λ g us e b z. param_in_front assigned S.param (sign (codes "**")) refl blank (f' blank) g us;
      reading = power_read;
    }
