-- `new` is read as it is laid out.
use Rattle.std.proofs.Common.{◌≡◌, Bool, true, List, [], ◌∷◌, codes, refl, ap, ◌∙◌, append-nil, unwrap_or, None}
use Rattle.std.proofs.lemmas.Bool.{and_parts}
use Rattle.ecma_lex.specs.Keys.{is_reserved, reserved_words}
use Rattle.ecma_kind.specs.declared.operators.MetaPropKind.TheVariants.{NewTarget}
use Rattle.ecma_kind.specs.declared.kind.Kind.{Kind}
use Rattle.ecma_kind.specs.declared.kind.Kind.TheVariants as kind
use Rattle.ecma_tree.specs.declared.node.Node.{Node}
use Rattle.ecma_tree.specs.Nodes.{absent}
use Rattle.ecma_grammar.specs.declared.production.Part.TheVariants as part
use Rattle.ecma_grammar.specs.declared.production.Link.TheVariants as link
use Rattle.ecma_grammar.specs.declared.production.Flag.TheVariants.{Absent}
use Rattle.ecma_grammar.specs.declared.production.Form.TheVariants as form
use Rattle.ecma_grammar.specs.trees.Chains.{steps, in_front_link}
use Rattle.ecma_grammar.specs.Grammar.{Grammar, put, ahead, enter, ◌▸◌, ◌//◌, build, behind_punct, punct, word, maybe, marked, commas, list}
use Rattle.ecma_grammar.specs.productions.Names as names
use Rattle.ecma_grammar.specs.productions.Types.{param, rest_pattern, default_value, type_param_instantiation, after_type_args}
use Rattle.ecma_grammar.specs.productions.Patterns.{pattern_body, array_pattern, object_pattern}
use Rattle.ecma_grammar.specs.productions.Functions as functions
use Rattle.ecma_grammar.specs.productions.Functions.{arrow, arrow_rest}
use Rattle.ecma_grammar.specs.productions.Primary.{element, primary}
use Rattle.ecma_grammar.specs.productions.Classes as classes
use Rattle.ecma_grammar.specs.productions.Declarations as declarations
use Rattle.ecma_grammar.specs.productions.Statements as statements
use Rattle.ecma_grammar.specs.productions.Statements.{labeled}
use Rattle.ecma_grammar.specs.productions.Modules as modules
use Rattle.ecma_grammar.specs.productions.Operators.{prefixed}
use Rattle.ecma_grammar.specs.productions.Chains.{arguments, links, new_links, new_body, template_start, super_of_member, super_of_link, import_meta, import_call, construction, chain}
use Rattle.ecma_print_tokens.specs.Items.{key, sign, number, no_gap, Gap, Items, it}
use Rattle.ecma_print_readings.proofs.Machine.{read, with_front, followed_on, or_on, built_on, body_at, interp, means}
use Rattle.ecma_shapes.specs.Shapes as shapes
use Rattle.ecma_shapes.proofs.Signs.{blank}
use Rattle.ecma_print_readings.proofs.Levels.{means_is}
use Rattle.ecma_print_readings.proofs.Fronts.{Front, exactly, a_name, the_end, Begins, at_token, at_name, at_end, refuses_at, refused_at, refuses_first, first_refuses, passes_at, passed_at}
use Rattle.ecma_print_readings.proofs.Towers.{Opens, closes, refuses_choices, skipped}
use Rattle.ecma_print_readings.proofs.Heads.{bare}
use Rattle.ecma_print_readings.proofs.Forms.{Laid, s, heads, new_heads, begins_no_target, Reads, NewForm, only_opens, lead_by, param_by, form_by, no_arrow_by}
use Rattle.ecma_print_readings.proofs.Bindings.{Stands, tight_by}

abbrev new : Front
new = exactly (key (codes "new"))

new_opens : only_opens new ≡ true
unfolding arrow arrow_rest labeled param rest_pattern default_value pattern_body array_pattern object_pattern names.binding_ident is_reserved reserved_words statements.statement_body names.block statements.if_ statements.for_await statements.for_ statements.while_ statements.do_while statements.switch statements.try_ statements.jump declarations.declaration functions.function_declaration classes.class_declaration modules.module_item modules.import modules.import_equals modules.export modules.export_default
new_opens = refl

begins_operand : Opens new
unfolding prefixed is_reserved reserved_words
begins_operand = record { no_spread = refl; no_yield = refl; no_private = refl; no_prefix = refl; no_increment = refl; no_decrement = refl }

no_head : refuses_choices 3 new heads ≡ true
unfolding super_of_link import_meta import_call
no_head = refl

no_new_head : refuses_choices 2 new new_heads ≡ true
unfolding super_of_member import_meta
no_new_head = refl

-- behind the callee
abbrev with_arguments : Grammar
with_arguments = maybe (marked (type_param_instantiation ▸ after_type_args)) ▸ maybe arguments

-- arguments are links
no_arguments : (e : Front) → passes_at e links ≡ true → (passes_at e new_links ≡ true) × (refuses_at e arguments ≡ true)
unfolding links new_links arguments
no_arguments e z =
    let a = and_parts (refuses_at e (behind_punct (codes ".") (part.Link link.Dot))) _ z in
    let b = and_parts (refuses_at e (behind_punct (codes "?.") (part.Link link.Optional))) _ a.1 in
    let c = and_parts (refuses_at e (ahead (punct (codes "[")) ▸ enter (part.Link link.Bracket))) _ b.1 in
    let d = and_parts (refuses_at e (ahead (punct (codes "(")) ▸ enter (part.Link link.Call))) _ c.1 in
    let t = and_parts (refuses_at e (ahead template_start ▸ enter (part.Link link.Tagged))) _ d.1 in
    (rw (a.0, c.0, t.0) refl, refuses_first e (punct (codes "(")) (list (commas element) ▸ punct (codes ")")) (first_refuses e (punct (codes "(")) d.0))

module _ (assigned : Bool) where
  -- what is read of `new` and what stands behind it, as what begins a chain
  new_head : (g : Gap) (ts us : Items) (x : Node) → Reads assigned construction (it g (key (codes "new")) ts) (x ∷ []) us → (ys : List Node) (vs : Items) → Reads assigned links us ys vs → Reads assigned (heads ▸ links) (it g (key (codes "new")) ts) (x ∷ ys) vs
  new_head g ts us x h ys vs e =
      let I = interp assigned (means assigned) in
      let n = it g (key (codes "new")) ts in
      ap (followed_on (I links)) (skipped assigned (means assigned) 3 heads new n at_token no_head ∙ ap (or_on (I primary) n) h) ∙ ap (with_front (x ∷ [])) e

  new_new_head : (g : Gap) (ts us : Items) (x : Node) → Reads assigned construction (it g (key (codes "new")) ts) (x ∷ []) us → (ys : List Node) (vs : Items) → Reads assigned new_links us ys vs → Reads assigned (new_heads ▸ new_links) (it g (key (codes "new")) ts) (x ∷ ys) vs
  new_new_head g ts us x h ys vs e =
      let I = interp assigned (means assigned) in
      let n = it g (key (codes "new")) ts in
      ap (followed_on (I new_links)) (skipped assigned (means assigned) 2 new_heads new n at_token no_new_head ∙ ap (or_on (I primary) n) h) ∙ ap (with_front (x ∷ [])) e

  module _ (rest : Items → Items) {k : Kind} {ns : List Node} (read_by : (g : Gap) (us : Items) → Reads assigned construction (it g (key (codes "new")) (rest us)) (bare k ns ∷ []) us) where
    by_word : NewForm assigned (λ g us. it g (key (codes "new")) (rest us)) k ns
    by_word = record {
      form = form_by assigned (key (codes "new")) new_opens begins_operand rest (bare k ns ∷ []) refl (λ g us e b z ys vs r. new_head g (rest us) us (bare k ns) (read_by g us) ys vs r);
      no_point = refl;
      own = λ g us e b z ys vs r. new_new_head g (rest us) us (bare k ns) (read_by g us) ys vs r;
    }

  -- `new.target`
  target_read : (g : Gap) (us : Items) → Reads assigned construction (it g (key (codes "new")) (s (codes ".") (it no_gap (key (codes "target")) us))) (bare (kind.MetaPropExpr NewTarget) [] ∷ []) us
  unfolding construction new_body
  target_read g us = rw (means_is assigned part.New (s (codes ".") (it no_gap (key (codes "target")) us))) refl

  pub target_form : NewForm assigned (λ g us. it g (key (codes "new")) (s (codes ".") (it no_gap (key (codes "target")) us))) (kind.MetaPropExpr NewTarget) []
  target_form = by_word (λ us. s (codes ".") (it no_gap (key (codes "target")) us)) target_read

  -- `.target` is tried before a callee, but at no numeral
  abbrev callee : Grammar
  callee = build form.Links (new_heads ▸ new_links) ▸ with_arguments

  refused_target : (e : Front) (ts : Items) → Begins e ts → refuses_at e (punct (codes ".")) ≡ true → interp assigned (means assigned) (punct (codes ".") ▸ word (codes "target") // callee) ts ≡ interp assigned (means assigned) callee ts
  refused_target e ts b z =
      ap (or_on (interp assigned (means assigned) callee) ts) (refused_at assigned (means assigned) (punct (codes ".") ▸ word (codes "target")) e ts b (refuses_first e (punct (codes ".")) (word (codes "target")) z))

  no_target : (e : Front) (ts : Items) → Begins e ts → begins_no_target e ≡ true → interp assigned (means assigned) (body_at part.New ts) ts ≡ interp assigned (means assigned) callee ts
  unfolding new_body
  no_target (exactly (number w)) ts at_token z = refl
  no_target (exactly t) ts at_token z = refused_target (exactly t) ts at_token z
  no_target a_name ts (at_name n) z = refused_target a_name ts (at_name n) z
  no_target the_end ts at_end z = refused_target the_end ts at_end z

  module _ {f : Laid} {k : Kind} {ns : List Node} (N : NewForm assigned f k ns) where
    -- the callee, and what may be arguments
    callee_read : (us : Items) (e : Front) → Begins e us → refuses_at e (word (codes "function")) ≡ true → passes_at e new_links ≡ true → (n : Node) (vs : Items) → Reads assigned (maybe arguments) us (n ∷ []) vs
        → means assigned part.New (f blank us) ≡ read (bare k ns ∷ absent ∷ n ∷ []) vs
    unfolding new_body
    callee_read us e b z p n vs h =
        let I = interp assigned (means assigned) in
        let F = N.form in
        let ts = f blank us in
        means_is assigned part.New ts
        ∙ (no_target F.front (f blank us) (F.begins blank us) N.no_point
        ∙ (ap (followed_on (I with_arguments)) (ap (built_on form.Links) (N.own blank us e b z [] us (passed_at assigned (means assigned) new_links e us b p)) ∙ ap (λ o. read (unwrap_or o absent ∷ []) us) (ap (steps in_front_link None) (append-nil F.pieces) ∙ F.whole))
        ∙ ap (with_front (bare k ns ∷ [])) (ap (with_front (absent ∷ [])) h)))

    made_read : (g : Gap) (ts us : Items) (n : Node) → means assigned part.New ts ≡ read (bare k ns ∷ absent ∷ n ∷ []) us → Reads assigned construction (it g (key (codes "new")) ts) (bare kind.NewExpr (bare k ns ∷ n ∷ absent ∷ []) ∷ []) us
    unfolding construction
    made_read g ts us n h = ap (built_on form.New) h

    -- with arguments
    pub new_form : (args : Items → Items) (n : Node) → ((us : Items) → Reads assigned arguments (s (codes "(") (args us)) (n ∷ []) us) → NewForm assigned (λ g us. it g (key (codes "new")) (f blank (s (codes "(") (args us)))) kind.NewExpr (bare k ns ∷ n ∷ absent ∷ [])
    unfolding new_links template_start
    new_form args n h = by_word (λ us. f blank (s (codes "(") (args us))) (λ g us. made_read g (f blank (s (codes "(") (args us))) us n (callee_read (s (codes "(") (args us)) (exactly (sign (codes "("))) at_token refl refl n us (ap (or_on (interp assigned (means assigned) (put Absent)) (s (codes "(") (args us))) (h us))))

    -- and without
    alone_read : (g : Gap) (us : Items) (e : Front) → Begins e us → closes shapes.object e ≡ true → Reads assigned construction (it g (key (codes "new")) (f blank us)) (bare kind.NewExpr (bare k ns ∷ absent ∷ absent ∷ []) ∷ []) us
    alone_read g us e b z =
        let c = and_parts (passes_at e links) (refuses_at e (word (codes "function"))) z in
        let a = no_arguments e c.0 in
        made_read g (f blank us) us absent (callee_read us e b c.1 a.0 absent us (ap (or_on (interp assigned (means assigned) (put Absent)) us) (refused_at assigned (means assigned) arguments e us b a.1)))

    pub alone_form : Stands assigned shapes.left_hand_side (λ g us. it g (key (codes "new")) (f blank us)) kind.NewExpr (bare k ns ∷ absent ∷ absent ∷ [])
    unfolding chain
    alone_form = record {
      lead = lead_by assigned (key (codes "new")) new_opens (f blank);
      tight = tight_by new new_opens;
      no_or = refl;
      no_arrow = no_arrow_by assigned (key (codes "new")) new_opens (f blank);
      param = λ g us e b z. param_by assigned (key (codes "new")) new_opens (f blank) g us;
      reading = record {
        opens = begins_operand;
        all = λ g us e b z.
            (let c = and_parts (passes_at e links) (refuses_at e (word (codes "function"))) z in
            ap (built_on form.Links) (new_head g (f blank us) us (bare kind.NewExpr (bare k ns ∷ absent ∷ absent ∷ [])) (alone_read g us e b z) [] us (passed_at assigned (means assigned) links e us b c.0)));
      };
    }
