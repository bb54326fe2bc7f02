-- `yield` and `yield*` are read as they are laid out.
use Rattle.std.proofs.Common.{◌≡◌, ℕ, Bool, true, false, ◌||◌, List, [], ◌∷◌, bytes_eq, codes, refl, ap, sym, subst, ◌∙◌, if◌then◌else◌}
use Rattle.std.proofs.lemmas.Bool.{and_parts, false≢true}
use Rattle.std.proofs.lemmas.Slice.Eq.{bytes_eq-Decides}
use Rattle.ecma_lex.specs.Keys.{is_reserved, reserved_words}
use Rattle.ecma_kind.specs.declared.kind.Kind.{Kind}
use Rattle.ecma_kind.specs.declared.kind.Kind.TheVariants as kind
use Rattle.ecma_tree.specs.declared.node.Node.{Node}
use Rattle.ecma_tree.specs.Nodes.{absent}
use Rattle.ecma_grammar.specs.declared.production.Part.TheVariants as part
use Rattle.ecma_grammar.specs.declared.production.Form.TheVariants as form
use Rattle.ecma_grammar.specs.declared.production.Flag.TheVariants.{Absent, Present}
use Rattle.ecma_grammar.specs.Made.{made}
use Rattle.ecma_grammar.specs.trees.Parts.{flag_node}
use Rattle.ecma_grammar.specs.Grammar.{Grammar, same_line, put, ◌▸◌, ◌//◌, build, punct, maybe}
use Rattle.ecma_grammar.specs.productions.Names as names
use Rattle.ecma_grammar.specs.productions.Names.{assign_in}
use Rattle.ecma_grammar.specs.productions.Types.{param, rest_pattern, default_value}
use Rattle.ecma_grammar.specs.productions.Patterns.{pattern_body, array_pattern, object_pattern}
use Rattle.ecma_grammar.specs.productions.Functions as functions
use Rattle.ecma_grammar.specs.productions.Functions.{arrow, arrow_rest}
use Rattle.ecma_grammar.specs.productions.Primary as primaries
use Rattle.ecma_grammar.specs.productions.Chains as chains
use Rattle.ecma_grammar.specs.productions.Operators as operators
use Rattle.ecma_grammar.specs.productions.Expressions as expressions
use Rattle.ecma_grammar.specs.productions.Expressions.{conditional, assignments, yield_}
use Rattle.ecma_grammar.specs.productions.Classes as classes
use Rattle.ecma_grammar.specs.productions.Declarations as declarations
use Rattle.ecma_grammar.specs.productions.Statements as statements
use Rattle.ecma_grammar.specs.productions.Statements.{labeled}
use Rattle.ecma_grammar.specs.productions.Modules as modules
use Rattle.ecma_grammar.specs.productions.Modules.{module_item}
use Rattle.ecma_print_tokens.specs.Items.{key, private_name, sign, string, number, big_int, regex, template, Gap, Items, it}
use Rattle.ecma_print_tokens.specs.Taking.{new_line_in}
use Rattle.ecma_print_readings.proofs.Machine.{read, fails, with_front, followed_on, or_on, built_on, interp, means}
use Rattle.ecma_shapes.specs.Shapes as shapes
use Rattle.ecma_shapes.proofs.Signs.{blank, star_of}
use Rattle.ecma_print_readings.proofs.Levels.{means_is}
use Rattle.ecma_print_readings.proofs.Fronts.{Front, exactly, a_name, the_end, Begins, at_token, refuses_at, refused_at, refuses_all, all_refused}
use Rattle.ecma_print_readings.proofs.Towers.{behind_arrow, refuses_choices, is_stop, stops, Ends, closes_in}
use Rattle.ecma_print_readings.proofs.Heads.{bare, nodes}
use Rattle.ecma_print_readings.proofs.Forms.{Laid, s, Reads, Refuses, opens_plainly, no_item_at, lead_from, param_from}
use Rattle.ecma_print_readings.proofs.Bindings.{StandsIn, Stands, used}

-- nothing that `yield` would take begins there
record NoOperand (e : Front) : Type 0 where
  pub no_assign : refuses_all e (assign_in false) ≡ true
  pub no_assign_there : refuses_all e (assign_in true) ≡ true
  pub no_star : refuses_at e (punct (codes "*")) ≡ true

no_assign_in : (no_in : Bool) {e : Front} → NoOperand e → refuses_all e (assign_in no_in) ≡ true
no_assign_in false N = N.no_assign
no_assign_in true N = N.no_assign_there

parenthesis_stops : NoOperand (exactly (sign (codes ")")))
unfolding functions.arrow functions.arrow_rest names.binding_ident expressions.conditional operators.short_circuit operators.bit_or operators.bit_xor operators.bit_and operators.equality operators.relation operators.shift operators.exponentiation operators.prefixed operators.update chains.chain chains.super_of_link chains.import_meta chains.import_call chains.construction primaries.primary functions.function_expression primaries.class_expression primaries.template primaries.array primaries.object primaries.parenthesized
parenthesis_stops = record { no_assign = refl; no_assign_there = refl; no_star = refl }

bracket_stops : NoOperand (exactly (sign (codes "]")))
unfolding functions.arrow functions.arrow_rest names.binding_ident expressions.conditional operators.short_circuit operators.bit_or operators.bit_xor operators.bit_and operators.equality operators.relation operators.shift operators.exponentiation operators.prefixed operators.update chains.chain chains.super_of_link chains.import_meta chains.import_call chains.construction primaries.primary functions.function_expression primaries.class_expression primaries.template primaries.array primaries.object primaries.parenthesized
bracket_stops = record { no_assign = refl; no_assign_there = refl; no_star = refl }

brace_stops : NoOperand (exactly (sign (codes "}")))
unfolding functions.arrow functions.arrow_rest names.binding_ident expressions.conditional operators.short_circuit operators.bit_or operators.bit_xor operators.bit_and operators.equality operators.relation operators.shift operators.exponentiation operators.prefixed operators.update chains.chain chains.super_of_link chains.import_meta chains.import_call chains.construction primaries.primary functions.function_expression primaries.class_expression primaries.template primaries.array primaries.object primaries.parenthesized
brace_stops = record { no_assign = refl; no_assign_there = refl; no_star = refl }

comma_stops : NoOperand (exactly (sign (codes ",")))
unfolding functions.arrow functions.arrow_rest names.binding_ident expressions.conditional operators.short_circuit operators.bit_or operators.bit_xor operators.bit_and operators.equality operators.relation operators.shift operators.exponentiation operators.prefixed operators.update chains.chain chains.super_of_link chains.import_meta chains.import_call chains.construction primaries.primary functions.function_expression primaries.class_expression primaries.template primaries.array primaries.object primaries.parenthesized
comma_stops = record { no_assign = refl; no_assign_there = refl; no_star = refl }

semicolon_stops : NoOperand (exactly (sign (codes ";")))
unfolding functions.arrow functions.arrow_rest names.binding_ident expressions.conditional operators.short_circuit operators.bit_or operators.bit_xor operators.bit_and operators.equality operators.relation operators.shift operators.exponentiation operators.prefixed operators.update chains.chain chains.super_of_link chains.import_meta chains.import_call chains.construction primaries.primary functions.function_expression primaries.class_expression primaries.template primaries.array primaries.object primaries.parenthesized
semicolon_stops = record { no_assign = refl; no_assign_there = refl; no_star = refl }

colon_stops : NoOperand (exactly (sign (codes ":")))
unfolding functions.arrow functions.arrow_rest names.binding_ident expressions.conditional operators.short_circuit operators.bit_or operators.bit_xor operators.bit_and operators.equality operators.relation operators.shift operators.exponentiation operators.prefixed operators.update chains.chain chains.super_of_link chains.import_meta chains.import_call chains.construction primaries.primary functions.function_expression primaries.class_expression primaries.template primaries.array primaries.object primaries.parenthesized
colon_stops = record { no_assign = refl; no_assign_there = refl; no_star = refl }

part_stops : (last : Bool) (w : List ℕ) → NoOperand (exactly (template false last w))
unfolding functions.arrow functions.arrow_rest names.binding_ident expressions.conditional operators.short_circuit operators.bit_or operators.bit_xor operators.bit_and operators.equality operators.relation operators.shift operators.exponentiation operators.prefixed operators.update chains.chain chains.super_of_link chains.import_meta chains.import_call chains.construction primaries.primary functions.function_expression primaries.class_expression primaries.template primaries.array primaries.object primaries.parenthesized
part_stops last w = record { no_assign = refl; no_assign_there = refl; no_star = refl }

only_sign : (w v : List ℕ) → bytes_eq w v ≡ true → NoOperand (exactly (sign v)) → NoOperand (exactly (sign w))
only_sign w v h p = subst (λ x. NoOperand (exactly (sign x))) (sym ((bytes_eq-Decides w v).0 h)) p

by_sign : (w v : List ℕ) (rest : Bool) → (bytes_eq w v || rest) ≡ true → NoOperand (exactly (sign v)) → (rest ≡ true → NoOperand (exactly (sign w))) → NoOperand (exactly (sign w))
by_sign w v rest h p k = go (bytes_eq w v) refl h
  where
    go : (b : Bool) → bytes_eq w v ≡ b → (b || rest) ≡ true → NoOperand (exactly (sign w))
    go true e h = only_sign w v e p
    go false e h = k h

sign_stops : (w : List ℕ) → is_stop w ≡ true → NoOperand (exactly (sign w))
sign_stops w h0 = by_sign w (codes ")") (bytes_eq w (codes "]") || (bytes_eq w (codes "}") || (bytes_eq w (codes ",") || (bytes_eq w (codes ";") || (bytes_eq w (codes ":")))))) h0 parenthesis_stops (λ h1. by_sign w (codes "]") (bytes_eq w (codes "}") || (bytes_eq w (codes ",") || (bytes_eq w (codes ";") || (bytes_eq w (codes ":"))))) h1 bracket_stops (λ h2. by_sign w (codes "}") (bytes_eq w (codes ",") || (bytes_eq w (codes ";") || (bytes_eq w (codes ":")))) h2 brace_stops (λ h3. by_sign w (codes ",") (bytes_eq w (codes ";") || (bytes_eq w (codes ":"))) h3 comma_stops (λ h4. by_sign w (codes ";") (bytes_eq w (codes ":")) h4 semicolon_stops (λ h5. only_sign w (codes ":") h5 colon_stops)))))

stops_no_operand : (e : Front) → stops e ≡ true → NoOperand e
stops_no_operand (exactly (sign w)) h = sign_stops w h
stops_no_operand (exactly (template true last w)) h = absurd (false≢true h)
stops_no_operand (exactly (template false last w)) h = part_stops last w
stops_no_operand (exactly (key w)) h = absurd (false≢true h)
stops_no_operand (exactly (private_name w)) h = absurd (false≢true h)
stops_no_operand (exactly (string w)) h = absurd (false≢true h)
stops_no_operand (exactly (number w)) h = absurd (false≢true h)
stops_no_operand (exactly (big_int w)) h = absurd (false≢true h)
stops_no_operand (exactly (regex w)) h = absurd (false≢true h)
stops_no_operand a_name h = absurd (false≢true h)
stops_no_operand the_end h = absurd (false≢true h)

abbrev front : Front
front = exactly (key (codes "yield"))

yield_opens : opens_plainly front ≡ true
unfolding arrow arrow_rest labeled param rest_pattern default_value pattern_body array_pattern object_pattern names.binding_ident is_reserved reserved_words statements.statement_body names.block statements.if_ statements.for_await statements.for_ statements.while_ statements.do_while statements.switch statements.try_ statements.jump declarations.declaration functions.function_declaration classes.class_declaration
yield_opens = refl

yield_no_item : refuses_choices 3 front module_item ≡ true
unfolding module_item modules.import modules.import_equals modules.export modules.export_default
yield_no_item = refl

yield_no_arrow : (no_in : Bool) → refuses_all front (arrow no_in false) ≡ true
unfolding arrow arrow_rest names.binding_ident is_reserved reserved_words
yield_no_arrow no_in = refl

yield_made : (n : Node) → made form.Yield 0 0 (flag_node Absent ∷ n ∷ []) ≡ bare (kind.YieldExpr false) (n ∷ [])
yield_made n = simp nodes

delegate_made : (n : Node) → made form.Yield 0 0 (flag_node Present ∷ n ∷ []) ≡ bare (kind.YieldExpr true) (n ∷ [])
delegate_made n = simp nodes

abbrev star_first : Bool → Grammar
star_first no_in = same_line ▸ punct (codes "*") ▸ put Present ▸ assign_in no_in

abbrev operand : Bool → Grammar
operand no_in = maybe (same_line ▸ assign_in no_in)

module _ (assigned : Bool) where
  on_line : (b : Bool) (x : Grammar) (us : Items) → Refuses assigned x us → followed_on (interp assigned (means assigned) x) (if b then fails else read [] us) ≡ fails
  on_line true x us h = refl
  on_line false x us h = ap (with_front []) h

  no_star_there : (no_in : Bool) (us : Items) → Refuses assigned (punct (codes "*")) us → Refuses assigned (star_first no_in) us
  no_star_there no_in us h = on_line (new_line_in us) (punct (codes "*") ▸ put Present ▸ assign_in no_in) us (ap (followed_on (interp assigned (means assigned) (put Present ▸ assign_in no_in))) h)

  -- an assignment expression that begins with `yield`
  by_yield : (no_in : Bool) (g : Gap) (ts us : Items) (n : Node) → Reads assigned (yield_ no_in false) (it g (key (codes "yield")) ts) (n ∷ []) us → means assigned (part.Assign no_in false) (it g (key (codes "yield")) ts) ≡ read (n ∷ []) us
  by_yield no_in g ts us n h =
      let I = interp assigned (means assigned) in
      let y = it g (key (codes "yield")) ts in
      means_is assigned (part.Assign no_in false) y
      ∙ (ap (or_on (I (behind_arrow no_in)) y) (all_refused assigned (arrow no_in false) front y at_token (yield_no_arrow no_in)) ∙ ap (or_on (I (build form.Chain (conditional no_in false ▸ assignments no_in false))) y) h)

  module _ (rest : Items → Items) {k : Kind} {ns : List Node} (h : (g : Gap) (us : Items) (e : Front) → Begins e us → Ends e → means assigned (part.Assign false false) (it g (key (codes "yield")) (rest us)) ≡ read (bare k ns ∷ []) us) where
    yield_stands : Stands assigned shapes.assignment (λ g us. it g (key (codes "yield")) (rest us)) k ns
    yield_stands = record {
      lead = lead_from assigned (key (codes "yield")) yield_opens rest (λ g us. no_item_at assigned front (it g (key (codes "yield")) (rest us)) at_token yield_no_item);
      tight = tt;
      no_or = tt;
      no_arrow = tt;
      param = λ g us e b z. param_from assigned (key (codes "yield")) yield_opens rest g us;
      reading = h;
    }

  -- without an operand
  operand_left_out : (no_in : Bool) (us : Items) (e : Front) → Begins e us → stops e ≡ true → Reads assigned (star_first no_in // put Absent ▸ operand no_in) us (flag_node Absent ∷ absent ∷ []) us
  operand_left_out no_in us e b z =
      let I = interp assigned (means assigned) in
      let n = stops_no_operand e z in
      ap (or_on (I (put Absent ▸ operand no_in)) us) (no_star_there no_in us (refused_at assigned (means assigned) (punct (codes "*")) e us b n.no_star))
      ∙ ap (with_front (flag_node Absent ∷ [])) (ap (or_on (I (put Absent)) us) (on_line (new_line_in us) (assign_in no_in) us (all_refused assigned (assign_in no_in) e us b (no_assign_in no_in n))))

  pub alone_read : (no_in : Bool) (g : Gap) (us : Items) (e : Front) → Begins e us → closes_in no_in shapes.assignment e ≡ true → means assigned (part.Assign no_in false) (it g (key (codes "yield")) us) ≡ read (bare (kind.YieldExpr false) (absent ∷ []) ∷ []) us
  alone_read no_in g us e b z =
      let c = and_parts (stops e) _ z in
      by_yield no_in g us us (bare (kind.YieldExpr false) (absent ∷ [])) (ap (built_on form.Yield) (ap (with_front []) (operand_left_out no_in us e b c.0)) ∙ ap (λ x. read (x ∷ []) us) (yield_made absent))

  pub yield_alone : Stands assigned shapes.assignment (λ g us. it g (key (codes "yield")) us) (kind.YieldExpr false) (absent ∷ [])
  yield_alone = yield_stands (λ us. us) (alone_read false)

  module _ {no_in : Bool} {f : Laid} {k : Kind} {ns : List Node} (V : StandsIn assigned no_in shapes.assignment f k ns) where
    -- with one, on the same line
    value_read : ((us : Items) → new_line_in (f blank us) ≡ false) → ((us : Items) → Refuses assigned (punct (codes "*")) (f blank us)) → (us : Items) (e : Front) → Begins e us → closes_in no_in shapes.assignment e ≡ true
        → Reads assigned (star_first no_in // put Absent ▸ operand no_in) (f blank us) (flag_node Absent ∷ bare k ns ∷ []) us
    value_read l n us e b z =
        let I = interp assigned (means assigned) in
        ap (or_on (I (put Absent ▸ operand no_in)) (f blank us)) (no_star_there no_in (f blank us) (n us))
        ∙ ap (with_front (flag_node Absent ∷ [])) (ap (or_on (I (put Absent)) (f blank us)) (ap (λ b. followed_on (I (assign_in no_in)) (if b then fails else read [] (f blank us))) (l us) ∙ ap (with_front []) (used assigned V blank us e b z)))

    delegate_read : (us : Items) (e : Front) → Begins e us → closes_in no_in shapes.assignment e ≡ true → Reads assigned (star_first no_in // put Absent ▸ operand no_in) (s (codes "*") (f blank us)) (flag_node Present ∷ bare k ns ∷ []) us
    delegate_read us e b z =
        let I = interp assigned (means assigned) in
        ap (or_on (I (put Absent ▸ operand no_in)) (s (codes "*") (f blank us))) (ap (with_front []) (ap (with_front []) (ap (with_front (flag_node Present ∷ [])) (used assigned V blank us e b z))))

    pub yield_read : (delegate : Bool) → ((us : Items) → new_line_in (f blank us) ≡ false) → ((us : Items) → Refuses assigned (punct (codes "*")) (f blank us)) → (g : Gap) (us : Items) (e : Front) → Begins e us → closes_in no_in shapes.assignment e ≡ true
        → means assigned (part.Assign no_in false) (it g (key (codes "yield")) (star_of delegate (f blank us))) ≡ read (bare (kind.YieldExpr delegate) (bare k ns ∷ []) ∷ []) us
    yield_read false l n g us e b z = by_yield no_in g (f blank us) us (bare (kind.YieldExpr false) (bare k ns ∷ [])) (ap (built_on form.Yield) (ap (with_front []) (value_read l n us e b z)) ∙ ap (λ x. read (x ∷ []) us) (yield_made (bare k ns)))
    yield_read true l n g us e b z = by_yield no_in g (s (codes "*") (f blank us)) us (bare (kind.YieldExpr true) (bare k ns ∷ [])) (ap (built_on form.Yield) (ap (with_front []) (delegate_read us e b z)) ∙ ap (λ x. read (x ∷ []) us) (delegate_made (bare k ns)))

  module _ {f : Laid} {k : Kind} {ns : List Node} (V : Stands assigned shapes.assignment f k ns) where
    pub yield_form : (delegate : Bool) → ((us : Items) → new_line_in (f blank us) ≡ false) → ((us : Items) → Refuses assigned (punct (codes "*")) (f blank us))
        → Stands assigned shapes.assignment (λ g us. it g (key (codes "yield")) (star_of delegate (f blank us))) (kind.YieldExpr delegate) (bare k ns ∷ [])
    yield_form delegate l n = yield_stands (λ us. star_of delegate (f blank us)) (yield_read V delegate l n)
