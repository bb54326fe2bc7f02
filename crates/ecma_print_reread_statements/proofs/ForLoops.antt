-- Loops with a head are read as they are laid out.
use Rattle.std.proofs.Common.{◌≡◌, ℕ, Bool, true, false, List, [], ◌∷◌, codes, refl, ap, ◌∙◌, bytes_eq, sym, subst}
use Rattle.std.proofs.lemmas.Bool.{and_parts, false≢true}
use Rattle.ecma_lex.specs.Keys.{is_reserved, reserved_words}
use Rattle.ecma_kind.specs.declared.operators.VarDeclKind.{VarDeclKind}
use Rattle.ecma_kind.specs.declared.operators.VarDeclKind.TheVariants.{Var, Let, Const}
use Rattle.ecma_kind.specs.declared.kind.Kind.{Kind}
use Rattle.ecma_kind.specs.declared.kind.Kind.TheVariants as kind
use Rattle.ecma_tree.specs.declared.node.Node.{Node}
use Rattle.ecma_tree.specs.Nodes.{absent, list_node}
use Rattle.ecma_grammar.specs.declared.production.Part.TheVariants as part
use Rattle.ecma_grammar.specs.declared.production.Plain.TheVariants as plain
use Rattle.ecma_grammar.specs.declared.production.Form.TheVariants as form
use Rattle.ecma_grammar.specs.Made.{made}
use Rattle.ecma_grammar.specs.Grammar as grammar
use Rattle.ecma_grammar.specs.Grammar.{Grammar, ◌//◌, maybe, nothing, ◌▸◌, node, word, punct}
use Rattle.ecma_grammar.specs.productions.Names as names
use Rattle.ecma_grammar.specs.productions.Names.{expression, assign_in}
use Rattle.ecma_grammar.specs.productions.Functions as functions
use Rattle.ecma_grammar.specs.productions.Expressions as expressions
use Rattle.ecma_grammar.specs.productions.Operators as operators
use Rattle.ecma_grammar.specs.productions.Chains as chains
use Rattle.ecma_grammar.specs.productions.Primary as primaries
use Rattle.ecma_grammar.specs.productions.Declarations.{declaration, declarators, variables}
use Rattle.ecma_grammar.specs.productions.Statements as statements
use Rattle.ecma_grammar.specs.productions.Statements.{statement_body, for_left, for_await, for_rest, for_head, for_}
use Rattle.ecma_grammar.specs.productions.Modules as modules
use Rattle.ecma_grammar.specs.productions.Modules.{module_item}
use Rattle.ecma_print.specs.Statements.{keyword}
use Rattle.ecma_print_tokens.specs.Items as items
use Rattle.ecma_print_tokens.specs.Items.{sign, Gap, no_gap, Items, it}
use Rattle.ecma_print_readings.proofs.Machine.{read, or_on, interp, means, many_up_to, fails}
use Rattle.ecma_shapes.specs.Shapes as shapes
use Rattle.ecma_shapes.specs.Shapes.{Ending, IsOptional, IsForInit, IsDeclarator, AreDeclarators, IsPattern}
use Rattle.ecma_shapes.proofs.Tokens.{expression_tokens, optional_tokens, for_init_tokens, declarator_tokens, declarators_tokens, pattern_tokens}
use Rattle.ecma_shapes.proofs.Signs.{blank}
use Rattle.ecma_shapes.proofs.Bare.{bare, expression_kind, expression_parts, bare_optional, bare_for_init, bare_declarator, bare_declarators, bare_pattern}
use Rattle.ecma_print_readings.proofs.Levels.{means_is}
use Rattle.ecma_print_readings.proofs.Fronts.{Front, exactly, Begins, at_token, refuses_all, all_refused, is_known, refuses_at, refused_at, refuses_first, a_name, the_end, passes_at}
use Rattle.ecma_print_readings.proofs.Towers.{skipped, Tower, here, later, before, chained, climb, behind_arrow, closes_conditional}
use Rattle.ecma_print_readings.proofs.Heads.{nodes}
use Rattle.ecma_print_readings.proofs.Forms.{Laid, s, Reads, no_item_at, Refuses}
use Rattle.ecma_print_readings.proofs.Bindings.{Stands, used, expression_read, closed, StandsIn, standing, go_out, conditional_read}
use Rattle.ecma_print_readings.proofs.Expressions.{parenthesis_ends, semicolon_ends, name_no_rest}
use Rattle.ecma_print_readings.proofs.Statements.{closes_statement, ReadAsStatement, token_form, no_word_there, the_end_alone}
use Rattle.ecma_print_reread_statements.proofs.Variables.{DeclaratorIn, DeclaratorsIn, variables_read, pattern_declared}
use Rattle.ecma_print_reread_statements.proofs.Jumps.{no_expression}
use Rattle.std.proofs.lemmas.Slice.Eq.{bytes_eq-Decides}
use Rattle.ecma_print_readings.proofs.Spreads.{ReadAsPattern}
use Rattle.ecma_grammar.specs.productions.Functions.{arrow_body, arrow_rest}
use Rattle.ecma_grammar.specs.productions.Expressions.{assignments}
use Rattle.ecma_grammar.specs.productions.Operators.{factors, terms, shifts, relations, equalities}
use Rattle.ecma_grammar.specs.productions.Chains.{links}

-- no expression begins with `)`
no_expression_there : refuses_all (exactly (sign (codes ")"))) (expression false) ≡ true
unfolding expression functions.arrow functions.arrow_rest names.binding_ident expressions.conditional operators.short_circuit operators.bit_or operators.bit_xor operators.bit_and operators.equality operators.relation operators.shift operators.exponentiation operators.prefixed operators.update chains.chain chains.super_of_link chains.import_meta chains.import_call chains.construction primaries.primary functions.function_expression primaries.class_expression primaries.template primaries.array primaries.object primaries.parenthesized
no_expression_there = refl

-- or with the word of a declaration

no_var : refuses_all (exactly (items.key (codes "var"))) (expression false) ≡ true
unfolding expression functions.arrow functions.arrow_rest names.binding_ident expressions.conditional operators.short_circuit operators.bit_or operators.bit_xor operators.bit_and operators.equality operators.relation operators.shift operators.exponentiation operators.prefixed operators.update chains.chain chains.super_of_link chains.import_meta chains.import_call chains.construction primaries.primary functions.function_expression primaries.class_expression primaries.template primaries.array primaries.object primaries.parenthesized is_reserved reserved_words
no_var = refl

no_let : refuses_all (exactly (items.key (codes "let"))) (expression false) ≡ true
unfolding expression functions.arrow functions.arrow_rest names.binding_ident expressions.conditional operators.short_circuit operators.bit_or operators.bit_xor operators.bit_and operators.equality operators.relation operators.shift operators.exponentiation operators.prefixed operators.update chains.chain chains.super_of_link chains.import_meta chains.import_call chains.construction primaries.primary functions.function_expression primaries.class_expression primaries.template primaries.array primaries.object primaries.parenthesized is_reserved reserved_words
no_let = refl

no_const : refuses_all (exactly (items.key (codes "const"))) (expression false) ≡ true
unfolding expression functions.arrow functions.arrow_rest names.binding_ident expressions.conditional operators.short_circuit operators.bit_or operators.bit_xor operators.bit_and operators.equality operators.relation operators.shift operators.exponentiation operators.prefixed operators.update chains.chain chains.super_of_link chains.import_meta chains.import_call chains.construction primaries.primary functions.function_expression primaries.class_expression primaries.template primaries.array primaries.object primaries.parenthesized is_reserved reserved_words
no_const = refl

-- or with `=>`
no_arrow_expression : refuses_all (exactly (sign (codes "=>"))) (expression false) ≡ true
unfolding expression functions.arrow functions.arrow_rest names.binding_ident expressions.conditional operators.short_circuit operators.bit_or operators.bit_xor operators.bit_and operators.equality operators.relation operators.shift operators.exponentiation operators.prefixed operators.update chains.chain chains.super_of_link chains.import_meta chains.import_call chains.construction primaries.primary functions.function_expression primaries.class_expression primaries.template primaries.array primaries.object primaries.parenthesized
no_arrow_expression = refl

-- a front that refuses no `=>` is `=>`
arrow_there : (e : Front) → refuses_at e (punct (codes "=>")) ≡ false → e ≡ exactly (sign (codes "=>"))
arrow_there (exactly (sign v)) z = go (bytes_eq v (codes "=>")) refl
  where
    go : (b : Bool) → bytes_eq v (codes "=>") ≡ b → exactly (sign v) ≡ exactly (sign (codes "=>"))
    go true h = ap (λ x. exactly (sign x)) ((bytes_eq-Decides v (codes "=>")).0 h)
    go false h = absurd (false≢true (sym z ∙ rw h refl))
arrow_there (exactly (items.key v)) z = absurd (false≢true (sym z))
arrow_there (exactly (items.private_name v)) z = absurd (false≢true (sym z))
arrow_there (exactly (items.string v)) z = absurd (false≢true (sym z))
arrow_there (exactly (items.number v)) z = absurd (false≢true (sym z))
arrow_there (exactly (items.big_int v)) z = absurd (false≢true (sym z))
arrow_there (exactly (items.regex v)) z = absurd (false≢true (sym z))
arrow_there (exactly (items.template true last v)) z = absurd (false≢true (sym z))
arrow_there (exactly (items.template false last v)) z = absurd (false≢true (sym z))
arrow_there a_name z = absurd (false≢true (sym z))
arrow_there the_end z = absurd (false≢true (sym z))

known : (k : VarDeclKind) → is_known (keyword k) ≡ true
unfolding is_reserved reserved_words
known Var = refl
known Let = refl
known Const = refl

abbrev behind_for : Grammar
behind_for = statements.while_ // statements.do_while // statements.switch // statements.try_ // statements.jump // statements.labeled // declaration // statements.expression_statement

-- the head of a loop with its body
for_made : (t u n : Node) → made form.Headed 0 0 (bare kind.ForStmt (absent ∷ t ∷ u ∷ []) ∷ n ∷ []) ≡ bare kind.ForStmt (absent ∷ t ∷ u ∷ n ∷ [])
for_made t u n = simp nodes

init_made : (i t u n : Node) → made form.Headed 0 0 (made form.Chain 0 0 (i ∷ bare kind.ForStmt (absent ∷ t ∷ u ∷ []) ∷ []) ∷ n ∷ []) ≡ bare kind.ForStmt (i ∷ t ∷ u ∷ n ∷ [])
init_made i t u n = simp nodes

for_in_made : (l e n : Node) → made form.Headed 0 0 (made form.Chain 0 0 (l ∷ bare kind.ForInStmt (absent ∷ e ∷ []) ∷ []) ∷ n ∷ []) ≡ bare kind.ForInStmt (l ∷ e ∷ n ∷ [])
for_in_made l e n = simp nodes

for_of_made : (l e n : Node) → made form.Headed 0 0 (made form.Chain 0 0 (l ∷ bare (kind.ForOfStmt false) (absent ∷ e ∷ []) ∷ []) ∷ n ∷ []) ≡ bare (kind.ForOfStmt false) (l ∷ e ∷ n ∷ [])
for_of_made l e n = simp nodes

module _ (assigned : Bool) where
  abbrev pub OptionalForm : {n : Node} → IsOptional n → ℕ → Type 0
  OptionalForm (shapes.left_out a) depth = Unit {0}
  OptionalForm (shapes.given {e = e'} e) depth = Stands assigned shapes.sequence (expression_tokens e depth) (expression_kind e) (expression_parts e)

  test_read : {n : Node} (is : IsOptional n) (depth : ℕ) → OptionalForm is depth → (us : Items) → Reads assigned (maybe (expression false)) (optional_tokens is depth (s (codes ";") us)) (bare_optional is ∷ []) (s (codes ";") us)
  test_read (shapes.left_out a) depth S us = rw (all_refused assigned (expression false) (exactly (sign (codes ";"))) (s (codes ";") us) at_token no_expression) refl
  test_read (shapes.given e) depth S us = rw (expression_read assigned S blank (s (codes ";") us) (exactly (sign (codes ";"))) at_token semicolon_ends refl) refl

  update_read : {n : Node} (is : IsOptional n) (depth : ℕ) → OptionalForm is depth → (us : Items) → Reads assigned (maybe (expression false)) (optional_tokens is depth (s (codes ")") us)) (bare_optional is ∷ []) (s (codes ")") us)
  update_read (shapes.left_out a) depth S us = rw (all_refused assigned (expression false) (exactly (sign (codes ")"))) (s (codes ")") us) at_token no_expression_there) refl
  update_read (shapes.given e) depth S us = rw (expression_read assigned S blank (s (codes ")") us) (exactly (sign (codes ")"))) at_token parenthesis_ends refl) refl

  -- what each turn declares or assigns to, in front of `in` or `of`
  pub record ReadAsForLeft (word : List ℕ) (f : Items → Items) (n : Node) : Type 0 where
    pub no_semicolon : (us : Items) → Refuses assigned (punct (codes ";")) (f (it blank (items.key word) us))
    pub reads : (us : Items) (e : Front) → Begins e us → refuses_at e (punct (codes "=>")) ≡ true → Reads assigned for_left (f (it blank (items.key word) us)) (n ∷ []) (it blank (items.key word) us)

  -- `for` without `await`
  for_form : {ending : Ending} {rest : Items → Items} {n : Node} → ((g : Gap) (us : Items) (e : Front) → Begins e us → closes_statement ending e ≡ true → Reads assigned for_ (it g (items.key (codes "for")) (it blank (sign (codes "(")) (rest us))) (n ∷ []) us)
      → ReadAsStatement assigned ending (λ g us. it g (items.key (codes "for")) (it blank (sign (codes "(")) (rest us))) n
  unfolding statement_body for_await names.block statements.if_ module_item modules.import modules.import_equals modules.export modules.export_default is_reserved reserved_words
  for_form {rest = rest} {n = n} h = record {
    front = exactly (items.key (codes "for"));
    begins = λ g us. at_token;
    closes = refl;
    no_item = λ g us. no_item_at assigned (exactly (items.key (codes "for"))) (it g (items.key (codes "for")) (it blank (sign (codes "(")) (rest us))) at_token refl;
    reads = λ g us e b z.
        (let ts = it g (items.key (codes "for")) (it blank (sign (codes "(")) (rest us)) in
        means_is assigned part.Statement ts
        ∙ (skipped assigned (means assigned) 3 statement_body (exactly (items.key (codes "for"))) ts at_token refl ∙ ap (or_on (interp assigned (means assigned) behind_for) ts) (h g us e b z)));
  }

  -- what is said of what stands before the first `;`
  abbrev pub InitForm : {n : Node} → IsForInit n → ℕ → Type 0
  InitForm (shapes.no_init a) depth = Unit {0}
  InitForm (shapes.init_declaration at of_list k d ds z) depth = DeclaratorIn assigned true d depth × DeclaratorsIn assigned true ds depth
  InitForm (shapes.init_expression e z) depth =
      Stands assigned shapes.sequence (expression_tokens e depth) (expression_kind e) (expression_parts e) × StandsIn assigned true shapes.sequence (expression_tokens e depth) (expression_kind e) (expression_parts e)

  -- no expression declares variables
  module _ {f : Laid} {k : Kind} {ns : List Node} (S : Stands assigned shapes.sequence f k ns) where
    no_variables : (g : Gap) (us : Items) → Refuses assigned (variables true nothing) (f g us)
    no_variables g us =
        let L = S.lead in
        let ts = f g us in
        let b = L.begins g us in
        let p = means assigned in
        let by_var = node (plain.VarDecl Var) (word (codes "var") ▸ declarators true ▸ nothing) in
        let by_let = node (plain.VarDecl Let) (word (codes "let") ▸ declarators true ▸ nothing) in
        let by_const = node (plain.VarDecl Const) (word (codes "const") ▸ declarators true ▸ nothing) in
        ap (or_on (interp assigned p (by_let // by_const)) ts) (refused_at assigned p by_var L.front ts b (refuses_first L.front (word (codes "var")) (declarators true ▸ nothing) (no_word_there assigned S (codes "var") (known Var) no_var)))
        ∙ (ap (or_on (interp assigned p by_const) ts) (refused_at assigned p by_let L.front ts b (refuses_first L.front (word (codes "let")) (declarators true ▸ nothing) (no_word_there assigned S (codes "let") (known Let) no_let)))
        ∙ refused_at assigned p by_const L.front ts b (refuses_first L.front (word (codes "const")) (declarators true ▸ nothing) (no_word_there assigned S (codes "const") (known Const) no_const)))

    no_arrow_sign : (let L = S.lead in refuses_at L.front (punct (codes "=>")) ≡ true)
    no_arrow_sign = let L = S.lead in go L.front (L.begins no_gap the_end_alone) (refuses_at L.front (punct (codes "=>"))) refl
      where
        go : (e : Front) → Begins e (f no_gap the_end_alone) → (b : Bool) → refuses_at e (punct (codes "=>")) ≡ b → refuses_at e (punct (codes "=>")) ≡ true
        go e c true r = r
        go e c false r =
            let ts = the_end_alone in
            let same : e ≡ exactly (sign (codes "=>")) = arrow_there e r in
            let none : Refuses assigned (expression false) (f no_gap ts) = all_refused assigned (expression false) (exactly (sign (codes "=>"))) (f no_gap ts) (subst (λ x. Begins x (f no_gap ts)) same c) no_arrow_expression in
            let some : Reads assigned (expression false) (f no_gap ts) (bare k ns ∷ []) ts = expression_read assigned S no_gap ts (exactly (sign (codes ";"))) at_token semicolon_ends refl in
            let both : fails ≡ read (bare k ns ∷ []) ts = sym none ∙ some in
            absurd (let never : ⊥ = cc in never)

    -- and none begins with `;`
    no_semicolon : (g : Gap) (us : Items) → Refuses assigned (punct (codes ";")) (f g us)
    unfolding statement_body
    no_semicolon g us = let L = S.lead in let c = and_parts (refuses_at L.front (punct (codes ";"))) _ L.no_statement in refused_at assigned (means assigned) (punct (codes ";")) L.front (f g us) (L.begins g us) c.0

  init_read : (k : VarDeclKind) {d : Node} {ds : List Node} (i : IsDeclarator d) (is : AreDeclarators ds) (depth : ℕ) → DeclaratorIn assigned true i depth → DeclaratorsIn assigned true is depth → (us : Items)
      → Reads assigned for_left (it no_gap (items.key (keyword k)) (declarator_tokens i depth (declarators_tokens is depth (s (codes ";") us)))) (bare (kind.VarDecl k false) (list_node (bare_declarator i ∷ bare_declarators is) ∷ []) ∷ []) (s (codes ";") us)
  unfolding for_left
  init_read k i is depth S T us =
      ap (or_on (interp assigned (means assigned) (expression true)) (it no_gap (items.key (keyword k)) (declarator_tokens i depth (declarators_tokens is depth (s (codes ";") us))))) (variables_read assigned true nothing us (s (codes ";") us) refl k i is depth S T no_gap)

  init_expression_read : {f : Laid} {k : Kind} {ns : List Node} → Stands assigned shapes.sequence f k ns → StandsIn assigned true shapes.sequence f k ns → (us : Items) → Reads assigned for_left (f no_gap (s (codes ";") us)) (bare k ns ∷ []) (s (codes ";") us)
  unfolding for_left
  init_expression_read {f} S R us =
      ap (or_on (interp assigned (means assigned) (expression true)) (f no_gap (s (codes ";") us))) (no_variables S no_gap (s (codes ";") us))
      ∙ expression_read assigned R no_gap (s (codes ";") us) (exactly (sign (codes ";"))) at_token (closed true shapes.assignment (exactly (sign (codes ";"))) semicolon_ends) refl

  pub binding_left : (word : List ℕ) (k : VarDeclKind) {p : Node} (is : IsPattern p) (depth : ℕ) → ReadAsPattern assigned (pattern_tokens is depth) (bare_pattern is)
      → ReadAsForLeft word (λ us. it no_gap (items.key (keyword k)) (pattern_tokens is depth blank us)) (bare (kind.VarDecl k false) (list_node (bare (kind.VarDeclarator false) (bare_pattern is ∷ absent ∷ []) ∷ []) ∷ []))
  unfolding for_left many_up_to
  binding_left word k is depth P = record {
    no_semicolon = λ us. refl;
    reads = λ us e b z. go k us;
  }
    where
      go : (k : VarDeclKind) (us : Items) → Reads assigned for_left (it no_gap (items.key (keyword k)) (pattern_tokens is depth blank (it blank (items.key word) us))) (bare (kind.VarDecl k false) (list_node (bare (kind.VarDeclarator false) (bare_pattern is ∷ absent ∷ []) ∷ []) ∷ []) ∷ []) (it blank (items.key word) us)
      go Var us = rw (P.reads blank (it blank (items.key word) us), pattern_declared is absent) refl
      go Let us = rw (P.reads blank (it blank (items.key word) us), pattern_declared is absent) refl
      go Const us = rw (P.reads blank (it blank (items.key word) us), pattern_declared is absent) refl

  -- an expression that is assigned to
  module _ {f : Laid} {k : Kind} {ns : List Node} (S : Stands assigned shapes.callee f k ns) (T : StandsIn assigned true shapes.callee f k ns) where
    target_assign : (g : Gap) (us : Items) (e : Front) → Begins e us → refuses_at e (arrow_body true false) ≡ true → passes_at e (assignments true false) ≡ true → closes_conditional true e ≡ true → Refuses assigned (arrow_rest true false) us
        → means assigned (part.Assign true false) (f g us) ≡ read (bare k ns ∷ []) us
    target_assign g us e b a p c r =
        let L = T.lead in
        let y = T.tight in
        let t : Tower L.front e (expressions.conditional true false) (behind_arrow true) = later y.1 (chained (before here p)) in
        means_is assigned (part.Assign true false) (f g us)
        ∙ (ap (or_on (interp assigned (means assigned) (behind_arrow true)) (f g us)) (T.no_arrow true g us e b a r)
        ∙ climb assigned (means assigned) t (f g us) us (bare k ns) (L.begins g us) b (conditional_read assigned (go_out assigned 15 shapes.callee T) g us e b c))

    target_read : (g : Gap) (us : Items) (e : Front) → Begins e us → refuses_at e (arrow_body true false) ≡ true → passes_at e (assignments true false) ≡ true → closes_conditional true e ≡ true → refuses_at e (punct (codes ",")) ≡ true → Refuses assigned (arrow_rest true false) us
        → Reads assigned (expression true) (f g us) (bare k ns ∷ []) us
    unfolding expression many_up_to
    target_read g us e b a p c m r = rw (target_assign g us e b a p c r, refused_at assigned (means assigned) (punct (codes ",") ▸ assign_in true) e us b (refuses_first e (punct (codes ",")) (assign_in true) m)) refl

    target_left : (word : List ℕ) → passes_at (exactly (items.key word)) (assignments true false) ≡ true → closes_conditional true (exactly (items.key word)) ≡ true
        → ((us : Items) (e : Front) → Begins e us → refuses_at e (punct (codes "=>")) ≡ true → Refuses assigned (arrow_rest true false) (it blank (items.key word) us)) → ReadAsForLeft word (f no_gap) (bare k ns)
    unfolding for_left
    target_left word p c r = record {
      no_semicolon = λ us. no_semicolon (standing assigned S) no_gap (it blank (items.key word) us);
      reads = λ us e b z.
          (let ts = it blank (items.key word) us in
          ap (or_on (interp assigned (means assigned) (expression true)) (f no_gap ts)) (no_variables (standing assigned S) no_gap ts) ∙ target_read no_gap ts (exactly (items.key word)) at_token refl p c refl (r us e b z));
    }

    pub in_left : ReadAsForLeft (codes "in") (f no_gap) (bare k ns)
    unfolding factors terms shifts relations equalities assignments links chains.template_start arrow_rest names.binding_ident is_reserved reserved_words
    in_left = target_left (codes "in") refl refl (λ us e b z. refused_at assigned (means assigned) (arrow_rest true false) (exactly (items.key (codes "in"))) (it blank (items.key (codes "in")) us) at_token refl)

    pub of_left : ReadAsForLeft (codes "of") (f no_gap) (bare k ns)
    unfolding factors terms shifts relations equalities assignments links chains.template_start arrow_rest names.binding_ident is_reserved reserved_words
    of_left = target_left (codes "of") refl refl (λ us e b z. name_no_rest assigned (codes "of") refl true blank us e b (refuses_first e (punct (codes "=>")) (names.block // grammar.unless (punct (codes "{")) ▸ assign_in true) z))

  module _ {ending : Ending} {body : Laid} {n : Node} (B : ReadAsStatement assigned ending body n) where
    abbrev for_rest_tokens : {t u : Node} → IsOptional t → IsOptional u → ℕ → Items → Items
    for_rest_tokens is js depth us = s (codes ";") (optional_tokens is depth (s (codes ";") (optional_tokens js depth (s (codes ")") (body blank us)))))

    for_read : {t u : Node} (is : IsOptional t) (js : IsOptional u) (depth : ℕ) → OptionalForm is depth → OptionalForm js depth → (g : Gap) (us : Items) (e : Front) → Begins e us → closes_statement ending e ≡ true
        → Reads assigned for_ (it g (items.key (codes "for")) (it blank (sign (codes "(")) (for_rest_tokens is js depth us))) (bare kind.ForStmt (absent ∷ bare_optional is ∷ bare_optional js ∷ n ∷ []) ∷ []) us
    unfolding for_ for_head for_rest
    for_read is js depth S T g us e b z =
        rw (test_read is depth S (optional_tokens js depth (s (codes ")") (body blank us))), update_read js depth T (body blank us), B.reads blank us e b z, for_made (bare_optional is) (bare_optional js) n) refl

    -- behind what is read first
    for_init_read : (ts : Items) (i : Node) {t u : Node} (is : IsOptional t) (js : IsOptional u) (depth : ℕ) → OptionalForm is depth → OptionalForm js depth → (g : Gap) (us : Items) (e : Front) → Begins e us → closes_statement ending e ≡ true
        → Refuses assigned (punct (codes ";")) ts → Reads assigned for_left ts (i ∷ []) (for_rest_tokens is js depth us)
        → Reads assigned for_ (it g (items.key (codes "for")) (it blank (sign (codes "(")) ts)) (bare kind.ForStmt (i ∷ bare_optional is ∷ bare_optional js ∷ n ∷ []) ∷ []) us
    unfolding for_ for_head for_rest
    for_init_read ts i is js depth S T g us e b z none first =
        rw (none, first, test_read is depth S (optional_tokens js depth (s (codes ")") (body blank us))), update_read js depth T (body blank us), B.reads blank us e b z, init_made i (bare_optional is) (bare_optional js) n) refl

    pub for_loop_form : {i t u : Node} (first : IsForInit i) (is : IsOptional t) (js : IsOptional u) (depth : ℕ) → InitForm first depth → OptionalForm is depth → OptionalForm js depth
        → ReadAsStatement assigned ending (λ g us. it g (items.key (codes "for")) (it blank (sign (codes "(")) (for_init_tokens first depth (for_rest_tokens is js depth us)))) (bare kind.ForStmt (bare_for_init first ∷ bare_optional is ∷ bare_optional js ∷ n ∷ []))
    for_loop_form (shapes.no_init a) is js depth I S T = for_form (for_read is js depth S T)
    for_loop_form (shapes.init_declaration at of_list k d ds z) is js depth I S T =
        for_form (λ g us e b z. for_init_read _ _ is js depth S T g us e b z refl (init_read k d ds depth I.0 I.1 (optional_tokens is depth (s (codes ";") (optional_tokens js depth (s (codes ")") (body blank us)))))))
    for_loop_form (shapes.init_expression x y) is js depth I S T =
        for_form (λ g us e b z.
        (let vs = optional_tokens is depth (s (codes ";") (optional_tokens js depth (s (codes ")") (body blank us)))) in
        for_init_read _ _ is js depth S T g us e b z (no_semicolon I.0 no_gap (s (codes ";") vs)) (init_expression_read I.0 I.1 vs)))

    module _ {left : Items → Items} {l : Node} {f : Laid} {ek : Kind} {es : List Node} where
      for_in_read : ReadAsForLeft (codes "in") left l → Stands assigned shapes.sequence f ek es → (g : Gap) (us : Items) (e : Front) → Begins e us → closes_statement ending e ≡ true
          → Reads assigned for_ (it g (items.key (codes "for")) (it blank (sign (codes "(")) (left (it blank (items.key (codes "in")) (f blank (s (codes ")") (body blank us))))))) (bare kind.ForInStmt (l ∷ bare ek es ∷ n ∷ []) ∷ []) us
      unfolding for_ for_head for_rest
      for_in_read L S g us e b z =
          let R = S.lead in
          let rest = f blank (s (codes ")") (body blank us)) in
          rw (L.no_semicolon rest, L.reads rest R.front (R.begins blank (s (codes ")") (body blank us))) (no_arrow_sign S), expression_read assigned S blank (s (codes ")") (body blank us)) (exactly (sign (codes ")"))) at_token parenthesis_ends refl, B.reads blank us e b z, for_in_made (l) (bare ek es) n) refl

      pub for_in_form : ReadAsForLeft (codes "in") left l → Stands assigned shapes.sequence f ek es
          → ReadAsStatement assigned ending (λ g us. it g (items.key (codes "for")) (it blank (sign (codes "(")) (left (it blank (items.key (codes "in")) (f blank (s (codes ")") (body blank us))))))) (bare kind.ForInStmt (l ∷ bare ek es ∷ n ∷ []))
      for_in_form L S = for_form (for_in_read L S)

      for_of_read : ReadAsForLeft (codes "of") left l → Stands assigned shapes.assignment f ek es → (g : Gap) (us : Items) (e : Front) → Begins e us → closes_statement ending e ≡ true
          → Reads assigned for_ (it g (items.key (codes "for")) (it blank (sign (codes "(")) (left (it blank (items.key (codes "of")) (f blank (s (codes ")") (body blank us))))))) (bare (kind.ForOfStmt false) (l ∷ bare ek es ∷ n ∷ []) ∷ []) us
      unfolding for_ for_head for_rest
      for_of_read L S g us e b z =
          let W = standing assigned S in
          let R = W.lead in
          let rest = f blank (s (codes ")") (body blank us)) in
          rw (L.no_semicolon rest, L.reads rest R.front (R.begins blank (s (codes ")") (body blank us))) (no_arrow_sign W), used assigned S blank (s (codes ")") (body blank us)) (exactly (sign (codes ")"))) at_token parenthesis_ends, B.reads blank us e b z, for_of_made (l) (bare ek es) n) refl

      pub for_of_form : ReadAsForLeft (codes "of") left l → Stands assigned shapes.assignment f ek es
          → ReadAsStatement assigned ending (λ g us. it g (items.key (codes "for")) (it blank (sign (codes "(")) (left (it blank (items.key (codes "of")) (f blank (s (codes ")") (body blank us))))))) (bare (kind.ForOfStmt false) (l ∷ bare ek es ∷ n ∷ []))
      for_of_form L S = for_form (for_of_read L S)

      pub for_await_form : ReadAsForLeft (codes "of") left l → Stands assigned shapes.assignment f ek es
          → ReadAsStatement assigned ending (λ g us. it g (items.key (codes "for")) (it blank (items.key (codes "await")) (it blank (sign (codes "(")) (left (it blank (items.key (codes "of")) (f blank (s (codes ")") (body blank us))))))))
          (bare (kind.ForOfStmt true) (l ∷ bare ek es ∷ n ∷ []))
      unfolding statement_body for_await names.block statements.if_ module_item modules.import modules.import_equals modules.export modules.export_default is_reserved reserved_words
      for_await_form L S =
          token_form assigned 3 for_await _ refl (items.key (codes "for")) refl refl refl
          (λ g us e b z.
          (let W = standing assigned S in
          let R = W.lead in
          let rest = f blank (s (codes ")") (body blank us)) in
          rw (L.reads rest R.front (R.begins blank (s (codes ")") (body blank us))) (no_arrow_sign W), used assigned S blank (s (codes ")") (body blank us)) (exactly (sign (codes ")"))) at_token parenthesis_ends, B.reads blank us e b z) refl))
