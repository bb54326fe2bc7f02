-- What is said of a statement that is laid out, and of an expression as one.
use Rattle.std.proofs.Common.{◌≡◌, ℕ, ◌&&◌, Bool, true, false, List, [], ◌∷◌, bytes_eq, codes, refl, ap, sym, subst, ◌∙◌}
use Rattle.std.proofs.lemmas.Bool.{and_parts, false≢true}
use Rattle.std.proofs.lemmas.Slice.Eq.{bytes_eq-Decides}
use Rattle.ecma_lex.specs.Keys.{is_reserved, reserved_words}
use Rattle.ecma_kind.specs.declared.kind.Kind.{Kind}
use Rattle.ecma_kind.specs.declared.kind.Kind.TheVariants as kind
use Rattle.ecma_tree.specs.declared.node.Node.{Node}
use Rattle.ecma_grammar.specs.declared.production.Part.TheVariants as part
use Rattle.ecma_grammar.specs.declared.production.Plain.TheVariants as plain
use Rattle.ecma_grammar.specs.declared.production.Form.TheVariants as form
use Rattle.ecma_grammar.specs.Grammar as grammar
use Rattle.ecma_grammar.specs.Grammar.{Grammar, ◌▸◌, ◌//◌, punct, word}
use Rattle.ecma_grammar.specs.productions.Names as names
use Rattle.ecma_grammar.specs.productions.Names.{end, expression}
use Rattle.ecma_grammar.specs.productions.Functions as functions
use Rattle.ecma_grammar.specs.productions.Expressions as expressions
use Rattle.ecma_grammar.specs.productions.Operators as operators
use Rattle.ecma_grammar.specs.productions.Chains as chains
use Rattle.ecma_grammar.specs.productions.Primary as primaries
use Rattle.ecma_grammar.specs.productions.Declarations.{declaration}
use Rattle.ecma_grammar.specs.productions.Statements.{statement_body, expression_statement}
use Rattle.ecma_grammar.specs.productions.Modules.{module_item}
use Rattle.ecma_print_tokens.specs.Items.{Tok, sign, Gap, no_gap, Items, it, key, private_name, string, number, big_int, regex, template, ends}
use Rattle.ecma_print_readings.proofs.Machine.{read, fails, with_front, followed_on, or_on, unless_on, built_on, interp, means, without}
use Rattle.ecma_shapes.specs.Shapes as shapes
use Rattle.ecma_shapes.specs.Shapes.{Ending}
use Rattle.ecma_shapes.proofs.Bare.{bare}
use Rattle.ecma_print_readings.proofs.Levels.{means_is}
use Rattle.ecma_print_readings.proofs.Fronts.{Front, exactly, Begins, at_token, refuses_at, refuses_all, all_refused, a_name, the_end, is_known}
use Rattle.ecma_print_readings.proofs.Towers.{skipped, refuses_choices, excluded}
use Rattle.ecma_print_readings.proofs.Forms.{Laid, s, Reads, Refuses, NoItem, no_item_at, NoDeclaration}
use Rattle.ecma_print_readings.proofs.Bindings.{Stands, expression_read}
use Rattle.ecma_print_readings.proofs.Expressions.{semicolon_ends}

-- what stands behind a statement is no part of it
abbrev pub closes_statement : Ending → Front → Bool
closes_statement shapes.closed e = refuses_at e (word (codes "finally"))
closes_statement shapes.dangling e = refuses_at e (word (codes "else")) && refuses_at e (word (codes "finally"))

pub closes_any : (ending : Ending) (e : Front) → closes_statement shapes.dangling e ≡ true → closes_statement ending e ≡ true
closes_any shapes.closed e z = (and_parts (refuses_at e (word (codes "else"))) (refuses_at e (word (codes "finally"))) z).1
closes_any shapes.dangling e z = z

-- a front that refuses no word is that word
the_word_there : (w : List ℕ) → is_known w ≡ true → (e : Front) → refuses_at e (word w) ≡ false → e ≡ exactly (key w)
the_word_there w k (exactly (key v)) z = go (bytes_eq v w) refl
  where
    go : (b : Bool) → bytes_eq v w ≡ b → exactly (key v) ≡ exactly (key w)
    go true h = ap (λ x. exactly (key x)) ((bytes_eq-Decides v w).0 h)
    go false h = absurd (false≢true (sym z ∙ rw h refl))
the_word_there w k (exactly (private_name v)) z = absurd (false≢true (sym z))
the_word_there w k (exactly (sign v)) z = absurd (false≢true (sym z))
the_word_there w k (exactly (string v)) z = absurd (false≢true (sym z))
the_word_there w k (exactly (number v)) z = absurd (false≢true (sym z))
the_word_there w k (exactly (big_int v)) z = absurd (false≢true (sym z))
the_word_there w k (exactly (regex v)) z = absurd (false≢true (sym z))
the_word_there w k (exactly (template first last v)) z = absurd (false≢true (sym z))
the_word_there w k a_name z = absurd (false≢true (sym z ∙ rw k refl))
the_word_there w k the_end z = absurd (false≢true (sym z))

-- the end of a statement alone
abbrev pub the_end_alone : Items
the_end_alone = s (codes ";") (ends no_gap)

-- no expression begins with `else` or `finally`

no_else : refuses_all (exactly (key (codes "else"))) (expression false) ≡ true
unfolding is_reserved reserved_words expression functions.arrow functions.arrow_rest names.binding_ident expressions.conditional operators.short_circuit operators.bit_or operators.bit_xor operators.bit_and operators.equality operators.relation operators.shift operators.exponentiation operators.prefixed operators.update chains.chain chains.super_of_link chains.import_meta chains.import_call chains.construction primaries.primary functions.function_expression primaries.class_expression primaries.template primaries.array primaries.object primaries.parenthesized
no_else = refl

no_finally : refuses_all (exactly (key (codes "finally"))) (expression false) ≡ true
unfolding is_reserved reserved_words expression functions.arrow functions.arrow_rest names.binding_ident expressions.conditional operators.short_circuit operators.bit_or operators.bit_xor operators.bit_and operators.equality operators.relation operators.shift operators.exponentiation operators.prefixed operators.update chains.chain chains.super_of_link chains.import_meta chains.import_call chains.construction primaries.primary functions.function_expression primaries.class_expression primaries.template primaries.array primaries.object primaries.parenthesized
no_finally = refl

else_known : is_known (codes "else") ≡ true
unfolding is_reserved reserved_words
else_known = refl

finally_known : is_known (codes "finally") ≡ true
unfolding is_reserved reserved_words
finally_known = refl

module _ (assigned : Bool) where
  -- a statement as it is laid out, in front of what closes it
  pub record ReadAsStatement (ending : Ending) (f : Laid) (n : Node) : Type 0 where
    pub front : Front
    pub begins : (g : Gap) (us : Items) → Begins front (f g us)
    -- no part of a statement before it, and nothing that stands in modules alone
    pub closes : closes_statement shapes.dangling front ≡ true
    pub no_item : (g : Gap) (us : Items) → NoItem assigned (f g us)
    pub reads : (g : Gap) (us : Items) (e : Front) → Begins e us → closes_statement ending e ≡ true → means assigned part.Statement (f g us) ≡ read (n ∷ []) us

  pub item_read : {ending : Ending} {f : Laid} {n : Node} → ReadAsStatement ending f n → (g : Gap) (us : Items) (e : Front) → Begins e us → closes_statement ending e ≡ true → Reads assigned module_item (f g us) (n ∷ []) us
  unfolding module_item
  item_read {f = f} S g us e b z = let i = S.no_item g us in rw (i.no_import, i.no_import_equals, i.no_export) (S.reads g us e b z)

  -- the alternative of a statement that is read behind some that refuse the front
  pub chosen : (k : ℕ) (a b : Grammar) → without k statement_body ≡ a // b → (f : Front) (ts us : Items) (n : Node) → Begins f ts → refuses_choices k f statement_body ≡ true → Reads assigned a ts (n ∷ []) us
      → means assigned part.Statement ts ≡ read (n ∷ []) us
  chosen k a b e f ts us n c z h =
      means_is assigned part.Statement ts
      ∙ (skipped assigned (means assigned) k statement_body f ts c z ∙ (ap (λ g. interp assigned (means assigned) g ts) e ∙ ap (or_on (interp assigned (means assigned) b) ts) h))

  -- a statement that its first token tells
  pub token_form : {ending : Ending} (k : ℕ) (a b : Grammar) → without k statement_body ≡ a // b → (t : Tok) → refuses_choices k (exactly t) statement_body ≡ true → refuses_choices 3 (exactly t) module_item ≡ true → closes_statement shapes.dangling (exactly t) ≡ true
      → {rest : Items → Items} {n : Node} → ((g : Gap) (us : Items) (e : Front) → Begins e us → closes_statement ending e ≡ true → Reads assigned a (it g t (rest us)) (n ∷ []) us)
      → ReadAsStatement ending (λ g us. it g t (rest us)) n
  token_form k a b i t z y c {rest} {n} h = record {
    front = exactly t;
    begins = λ g us. at_token;
    closes = c;
    no_item = λ g us. no_item_at assigned (exactly t) (it g t (rest us)) at_token y;
    reads = λ g us e d w. chosen k a b i (exactly t) (it g t (rest us)) us n at_token z (h g us e d w);
  }

  -- expression statements

  module _ {f : Laid} {k : Kind} {ns : List Node} (S : Stands assigned shapes.sequence f k ns) where
    pub no_word_there : (w : List ℕ) → is_known w ≡ true → refuses_all (exactly (key w)) (expression false) ≡ true → (let L = S.lead in refuses_at L.front (word w) ≡ true)
    no_word_there w h z = let L = S.lead in go L.front (L.begins no_gap the_end_alone) (refuses_at L.front (word w)) refl
      where
        go : (e : Front) → Begins e (f no_gap the_end_alone) → (b : Bool) → refuses_at e (word w) ≡ b → refuses_at e (word w) ≡ true
        go e c true r = r
        go e c false r =
            let ts = the_end_alone in
            let same : e ≡ exactly (key w) = the_word_there w h e r in
            let no : Refuses assigned (expression false) (f no_gap ts) = all_refused assigned (expression false) (exactly (key w)) (f no_gap ts) (subst (λ x. Begins x (f no_gap ts)) same c) z in
            let yes' : Reads assigned (expression false) (f no_gap ts) (bare k ns ∷ []) ts = expression_read assigned S no_gap ts (exactly (sign (codes ";"))) at_token semicolon_ends refl in
            let both : fails ≡ read (bare k ns ∷ []) ts = sym no ∙ yes' in
            absurd (let never : ⊥ = cc in never)

    -- what an expression begins with closes a statement before it
    pub lead_closes : (let L = S.lead in closes_statement shapes.dangling L.front ≡ true)
    lead_closes = rw (no_word_there (codes "else") else_known no_else, no_word_there (codes "finally") finally_known no_finally) refl

  module _ {f : Laid} {k : Kind} {ns : List Node} (S : Stands assigned shapes.sequence f k ns) (no_block : (g : Gap) (us : Items) → Refuses assigned (punct (codes "{")) (f g us))
      (undeclared : (g : Gap) (us : Items) → NoDeclaration assigned (f g (s (codes ";") us))) where
    expression_statement_read : (g : Gap) (us : Items) → Reads assigned expression_statement (f g (s (codes ";") us)) (bare kind.ExprStmt (bare k ns ∷ []) ∷ []) us
    unfolding expression_statement
    expression_statement_read g us =
        let I = interp assigned (means assigned) in
        let ts = f g (s (codes ";") us) in
        let U = undeclared g us in
        ap (built_on (form.Node plain.ExprStmt)) (ap (followed_on (I (expression false ▸ end))) (ap (unless_on ts) (ap (or_on (I excluded) ts) (no_block g (s (codes ";") us)) ∙ U.no_word))
        ∙ ap (with_front []) (ap (followed_on (I end)) (expression_read assigned S g (s (codes ";") us) (exactly (sign (codes ";"))) at_token semicolon_ends refl)))

    statement_read : (g : Gap) (us : Items) → means assigned part.Statement (f g (s (codes ";") us)) ≡ read (bare kind.ExprStmt (bare k ns ∷ []) ∷ []) us
    unfolding statement_body names.block
    statement_read g us =
        let I = interp assigned (means assigned) in
        let ts = f g (s (codes ";") us) in
        let L = S.lead in
        let U = undeclared g us in
        let b = L.begins g (s (codes ";") us) in
        means_is assigned part.Statement ts
        ∙ (ap (or_on (I (without 1 statement_body)) ts) (ap (built_on (form.Node plain.BlockStmt)) (ap (followed_on (I (grammar.list (grammar.many names.statement) ▸ punct (codes "}")))) (no_block g (s (codes ";") us))))
        ∙ (skipped assigned (means assigned) 9 (without 1 statement_body) L.front ts b L.no_statement
        ∙ (ap (or_on (I (declaration // expression_statement)) ts) (L.no_label g (s (codes ";") us) (exactly (sign (codes ";"))) at_token refl)
        ∙ (ap (or_on (I expression_statement) ts) U.no_declaration ∙ expression_statement_read g us))))

    pub expression_statement_form : ReadAsStatement shapes.closed (λ g us. f g (s (codes ";") us)) (bare kind.ExprStmt (bare k ns ∷ []))
    expression_statement_form =
        let L = S.lead in
        record {
          front = L.front;
          begins = λ g us. L.begins g (s (codes ";") us);
          closes = lead_closes S;
          no_item = λ g us. L.no_item g (s (codes ";") us);
          reads = λ g us e b z. statement_read g us;
        }
