-- Arrow functions are read as they are laid out.
use Rattle.std.proofs.Common.{ℕ, ◌≡◌, Bool, true, false, List, [], ◌∷◌, codes, nat_le, refl, ap, ◌∙◌, append-nil}
use Rattle.ecma_kind.specs.declared.kind.Kind.{Kind}
use Rattle.ecma_kind.specs.declared.kind.Kind.TheVariants as kind
use Rattle.ecma_tree.specs.declared.node.Node.{Node}
use Rattle.ecma_tree.specs.Nodes.{absent, list_node}
use Rattle.ecma_grammar.specs.declared.production.Part.TheVariants as part
use Rattle.ecma_grammar.specs.declared.production.Form.TheVariants as form
use Rattle.ecma_grammar.specs.declared.production.Flag.TheVariants.{Absent, Present}
use Rattle.ecma_grammar.specs.trees.Parts.{flag_node}
use Rattle.ecma_grammar.specs.Made.{made}
use Rattle.ecma_grammar.specs.Grammar.{put, ◌▸◌, build, punct}
use Rattle.ecma_grammar.specs.productions.Names as names
use Rattle.ecma_grammar.specs.productions.Types.{params, param, rest_pattern, default_value}
use Rattle.ecma_grammar.specs.productions.Patterns.{pattern_body, array_pattern, object_pattern}
use Rattle.ecma_grammar.specs.productions.Functions as functions
use Rattle.ecma_grammar.specs.productions.Functions.{arrow, arrow_rest, arrow_body}
use Rattle.ecma_grammar.specs.productions.Classes as classes
use Rattle.ecma_grammar.specs.productions.Declarations as declarations
use Rattle.ecma_grammar.specs.productions.Declarations.{declaration}
use Rattle.ecma_grammar.specs.productions.Statements as statements
use Rattle.ecma_grammar.specs.productions.Statements.{labeled}
use Rattle.ecma_grammar.specs.productions.Modules as modules
use Rattle.ecma_print_tokens.specs.Items as items
use Rattle.ecma_print_tokens.specs.Items.{sign, no_gap, Gap, Items, it}
use Rattle.ecma_print_readings.proofs.Machine.{read, with_front, or_on, built_on, interp, means}
use Rattle.ecma_shapes.specs.Shapes as shapes
use Rattle.ecma_shapes.specs.Shapes.{Role, IsArguments, AreElements}
use Rattle.ecma_shapes.proofs.Tokens.{arguments_tokens, elements_tokens}
use Rattle.ecma_shapes.proofs.Signs.{blank}
use Rattle.ecma_shapes.proofs.Bare.{bare_element, bare_arguments, bare_elements}
use Rattle.ecma_print_readings.proofs.Moves.{eats}
use Rattle.ecma_print_readings.proofs.Levels.{means_is}
use Rattle.ecma_print_readings.proofs.Fronts.{Front, exactly, Begins, at_token, refused_at, refuses_all, all_refused}
use Rattle.ecma_print_readings.proofs.Towers.{behind_arrow, closes_in}
use Rattle.ecma_print_readings.proofs.Heads.{bare, nodes}
use Rattle.ecma_print_readings.proofs.Forms.{linked_param, Laid, s, Reads, Refuses, no_item_at}
use Rattle.ecma_print_readings.proofs.Bindings.{StandsIn, Stands, used}
use Rattle.ecma_print_readings.proofs.Repeats.{Repeats, repeats_end, repeats_more, repeated}
use Rattle.ecma_print_readings.proofs.Further.{more}
use Rattle.ecma_print_readings.proofs.Expressions.{no_param_at, parenthesis_ends, comma_ends}
use Rattle.ecma_print_readings.proofs.Async.{async_form}
use Rattle.ecma_print_readings.proofs.Lists.{Followed}
use Rattle.ecma_print_readings.proofs.Spreads.{ElementForm}
use Rattle.ecma_print_readings.proofs.Patterns.{param_read}
use Rattle.ecma_print_readings.proofs.Blocks.{ReadAsBlock}

no_param_there : refuses_all (exactly (sign (codes ")"))) param ≡ true
unfolding param rest_pattern default_value pattern_body array_pattern object_pattern names.binding_ident
no_param_there = refl

param_eats : nat_le 1 (eats (more param)) ≡ true
unfolding param rest_pattern default_value
param_eats = refl

arrow_made : (ps b : Node) → made form.Arrow 0 0 (absent ∷ absent ∷ ps ∷ absent ∷ b ∷ []) ≡ bare (kind.ArrowExpr false false) (ps ∷ b ∷ absent ∷ absent ∷ [])
arrow_made ps b = simp nodes

pub more_followed : {role : Role} {es : List Node} (is : AreElements role es) (depth : ℕ) (us : Items) → Followed (elements_tokens is depth (s (codes ")") us))
more_followed shapes.no_elements depth us = record { front = exactly (sign (codes ")")); begins = at_token; ends = parenthesis_ends }
more_followed (shapes.more_elements e es) depth us = record { front = exactly (sign (codes ",")); begins = at_token; ends = comma_ends }

async_made : (ps b : Node) → made form.Arrow 0 0 (flag_node Present ∷ absent ∷ ps ∷ absent ∷ b ∷ []) ≡ bare (kind.ArrowExpr true false) (ps ∷ b ∷ absent ∷ absent ∷ [])
async_made ps b = simp nodes

module _ (assigned : Bool) where
  -- what is said of each argument, or parameter
  abbrev pub ElementForms : {role : Role} {es : List Node} → AreElements role es → ℕ → Type 0
  ElementForms shapes.no_elements depth = Unit {0}
  ElementForms (shapes.more_elements e es) depth = ElementForm assigned e depth × ElementForms es depth

  abbrev pub ArgumentForms : {role : Role} {n : Node} → IsArguments role n → ℕ → Type 0
  ArgumentForms (shapes.no_arguments at) depth = Unit {0}
  ArgumentForms (shapes.arguments at e es) depth = ElementForm assigned e depth × ElementForms es depth

  -- parameters

  more_read : {es : List Node} (is : AreElements shapes.bindings es) (depth : ℕ) → ElementForms is depth → (us : Items) → Repeats assigned (more param) (elements_tokens is depth (s (codes ")") us)) (bare_elements is) (s (codes ")") us)
  more_read shapes.no_elements depth F us = repeats_end assigned (more param) (s (codes ")") us) refl
  more_read (shapes.more_elements e es) depth F us =
      let vs = elements_tokens es depth (s (codes ")") us) in
      repeats_more assigned (more param) param_eats _ vs (s (codes ")") us) (bare_element e ∷ []) (bare_elements es) (ap (with_front []) (param_read assigned e depth F.0 blank vs (more_followed es depth us))) (more_read es depth F.1 us)

  pub params_read : {n : Node} (is : IsArguments shapes.bindings n) (depth : ℕ) → ArgumentForms is depth → (us : Items) → Reads assigned params (arguments_tokens is depth (s (codes ")") us)) (list_node (bare_arguments is) ∷ []) (s (codes ")") us)
  unfolding params
  params_read (shapes.no_arguments at) depth F us = rw (all_refused assigned param (exactly (sign (codes ")"))) (s (codes ")") us) at_token no_param_there) refl
  params_read (shapes.arguments at e es) depth F us =
      let vs = elements_tokens es depth (s (codes ")") us) in
      rw (param_read assigned e depth F.0 no_gap vs (more_followed es depth us), repeated assigned (more param) vs (s (codes ")") us) (bare_elements es) (more_read es depth F.1 us), append-nil (bare_elements es)) refl

  -- what stands behind the parameters
  pub record ReadsBody (no_in : Bool) (body : Items → Items) (n : Node) : Type 0 where
    pub reads : (us : Items) (e : Front) → Begins e us → closes_in no_in shapes.assignment e ≡ true → Reads assigned (arrow_body no_in false) (body us) (n ∷ []) us

  -- an expression
  pub expression_body : {no_in : Bool} {f : Laid} {k : Kind} {ns : List Node} → StandsIn assigned no_in shapes.assignment f k ns → ((g : Gap) (us : Items) → Refuses assigned (punct (codes "{")) (f g us)) → ReadsBody no_in (λ us. it blank (sign (codes "=>")) (f blank us)) (bare k ns)
  unfolding names.block
  expression_body S no_block = record { reads = λ us e b z. rw (no_block blank us, no_block blank us, used assigned S blank us e b z) refl }

  -- or a block
  pub block_body : {no_in : Bool} {f : Laid} {n : Node} → ReadAsBlock assigned f n → ReadsBody no_in (λ us. it blank (sign (codes "=>")) (f blank us)) n
  block_body B = record { reads = λ us e b z. rw (B.reads blank us) refl }

  module _ {ps : Node} (is : IsArguments shapes.bindings ps) (depth : ℕ) (F : ArgumentForms is depth) {no_in : Bool} {body : Items → Items} {n : Node} (R : ReadsBody no_in body n) where
    abbrev pub tokens : Laid
    tokens g us = it g (sign (codes "(")) (arguments_tokens is depth (s (codes ")") (body us)))

    abbrev whole : Node
    whole = bare (kind.ArrowExpr false false) (list_node (bare_arguments is) ∷ n ∷ absent ∷ absent ∷ [])

    rest_read : (g : Gap) (us : Items) (e : Front) → Begins e us → closes_in no_in shapes.assignment e ≡ true → Reads assigned (arrow_rest no_in false) (tokens g us) (absent ∷ list_node (bare_arguments is) ∷ absent ∷ n ∷ []) us
    unfolding arrow_rest names.binding_ident
    rest_read g us e b z = rw (params_read is depth F (body us), R.reads us e b z) refl

    pub arrow_read : (g : Gap) (us : Items) (e : Front) → Begins e us → closes_in no_in shapes.assignment e ≡ true → means assigned (part.Assign no_in false) (tokens g us) ≡ read (whole ∷ []) us
    unfolding arrow
    arrow_read g us e b z =
        let I = interp assigned (means assigned) in
        let ts = tokens g us in
        means_is assigned (part.Assign no_in false) ts
        ∙ (ap (or_on (I (behind_arrow no_in)) ts) (ap (built_on form.Arrow) (ap (with_front (absent ∷ [])) (rest_read g us e b z)))
        ∙ ap (λ x. read (x ∷ []) us) (arrow_made (list_node (bare_arguments is)) (n)))

    -- behind `async`
    pub async_arrow_read : (g : Gap) (us : Items) (e : Front) → Begins e us → closes_in no_in shapes.assignment e ≡ true
        → means assigned (part.Assign no_in false) (it g (items.key (codes "async")) (tokens blank us)) ≡ read (bare (kind.ArrowExpr true false) (list_node (bare_arguments is) ∷ n ∷ absent ∷ absent ∷ []) ∷ []) us
    unfolding arrow
    async_arrow_read g us e b z =
        let I = interp assigned (means assigned) in
        let ts = it g (items.key (codes "async")) (tokens blank us) in
        means_is assigned (part.Assign no_in false) ts
        ∙ (ap (or_on (I (behind_arrow no_in)) ts) (ap (or_on (I (build form.Arrow (put Absent ▸ arrow_rest no_in false))) ts) (ap (built_on form.Arrow) (ap (with_front []) (ap (with_front []) (ap (with_front (flag_node Present ∷ [])) (rest_read blank us e b z))))))
        ∙ ap (λ x. read (x ∷ []) us) (async_made (list_node (bare_arguments is)) (n)))

  module _ {ps : Node} (is : IsArguments shapes.bindings ps) (depth : ℕ) (F : ArgumentForms is depth) {body : Items → Items} {n : Node} (R : ReadsBody false body n) where
    abbrev own : Laid
    own = tokens is depth F R

    pub arrow_form : Stands assigned shapes.assignment own (kind.ArrowExpr false false) (list_node (bare_arguments is) ∷ n ∷ absent ∷ absent ∷ [])
    unfolding labeled param rest_pattern default_value pattern_body array_pattern object_pattern names.binding_ident statements.statement_body names.block statements.if_ statements.for_await statements.for_ statements.while_ statements.do_while statements.switch statements.try_ statements.jump declarations.declaration functions.function_declaration classes.class_declaration modules.module_item modules.import modules.import_equals modules.export modules.export_default
    arrow_form =
        let opening = exactly (sign (codes "(")) in
        let p = means assigned in
        record {
          lead = record {
            front = opening;
            begins = λ g us. at_token;
            no_statement = refl;
            no_item = λ g us. no_item_at assigned opening (own g us) at_token refl;
            no_spread = refl;
            no_label = λ g us e b z. refused_at assigned p labeled opening (own g us) at_token refl;
          };
          tight = tt;
          no_or = tt;
          no_arrow = tt;
          param = λ g us e b z. no_param_at assigned opening (own g us) us at_token refl refl;
          reading = arrow_read is depth F R;
        }

    pub async_arrow_form : Stands assigned shapes.assignment (λ g us. it g (items.key (codes "async")) (own blank us)) (kind.ArrowExpr true false) (list_node (bare_arguments is) ∷ n ∷ absent ∷ absent ∷ [])
    async_arrow_form =
        let A = async_form assigned in
        let opening = exactly (sign (codes "(")) in
        record {
          lead = record {
            front = A.front;
            begins = λ g us. A.begins g (own blank us);
            no_statement = A.no_statement;
            no_item = λ g us. A.no_item g (own blank us);
            no_spread = (let o = A.opens in o.no_spread);
            no_label = λ g us e b z. A.no_label g (own blank us) opening at_token refl;
          };
          tight = tt;
          no_or = tt;
          no_arrow = tt;
          param = λ g us e b z. linked_param assigned at_token refl refl (A.as_param g (own blank us) opening at_token refl);
          reading = async_arrow_read is depth F R;
        }
