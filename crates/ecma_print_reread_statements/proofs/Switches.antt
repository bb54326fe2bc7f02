-- `switch` is read as it is laid out.
use Rattle.std.proofs.Common.{◌≡◌, Bool, true, List, [], ◌∷◌, codes, refl}
use Rattle.ecma_lex.specs.Keys.{is_reserved, reserved_words}
use Rattle.ecma_kind.specs.declared.kind.Kind.{Kind}
use Rattle.ecma_kind.specs.declared.kind.Kind.TheVariants as kind
use Rattle.ecma_tree.specs.declared.node.Node.{Node}
use Rattle.ecma_tree.specs.Nodes.{absent, list_node}
use Rattle.ecma_grammar.specs.declared.production.Part.TheVariants as part
use Rattle.ecma_grammar.specs.productions.Names as names
use Rattle.ecma_grammar.specs.productions.Names.{statement}
use Rattle.ecma_grammar.specs.productions.Functions as functions
use Rattle.ecma_grammar.specs.productions.Functions.{arrow_rest}
use Rattle.ecma_grammar.specs.productions.Classes as classes
use Rattle.ecma_grammar.specs.productions.Expressions as expressions
use Rattle.ecma_grammar.specs.productions.Operators as operators
use Rattle.ecma_grammar.specs.productions.Chains as chains
use Rattle.ecma_grammar.specs.productions.Primary as primaries
use Rattle.ecma_grammar.specs.productions.Declarations as declarations
use Rattle.ecma_grammar.specs.productions.Statements as statements
use Rattle.ecma_grammar.specs.productions.Statements.{statement_body, switch_case, switch}
use Rattle.ecma_grammar.specs.productions.Modules as modules
use Rattle.ecma_grammar.specs.productions.Modules.{module_item}
use Rattle.ecma_print_tokens.specs.Items as items
use Rattle.ecma_print_tokens.specs.Items.{sign, Gap, Items, it}
use Rattle.ecma_print_readings.proofs.Machine.{fails, means}
use Rattle.ecma_shapes.specs.Shapes as shapes
use Rattle.ecma_shapes.proofs.Signs.{blank}
use Rattle.ecma_shapes.proofs.Bare.{bare}
use Rattle.ecma_print_readings.proofs.Fronts.{Front, exactly, Begins, at_token, refuses_all}
use Rattle.ecma_print_readings.proofs.Towers.{Ends}
use Rattle.ecma_print_readings.proofs.Forms.{Laid, s, Reads, Refuses}
use Rattle.ecma_print_readings.proofs.Bindings.{Stands, expression_read}
use Rattle.ecma_print_readings.proofs.Repeats.{Repeats, repeats_end, repeats_more, repeated}
use Rattle.ecma_print_readings.proofs.Statements.{closes_statement, ReadAsStatement, token_form}
use Rattle.ecma_print_readings.proofs.Blocks.{Closing, ReadAsStatements, refused_statement, closing_brace, no_statement}
use Rattle.ecma_print_reread_statements.proofs.Branches.{test_read, tested}

pub colon_ends : Ends (exactly (sign (codes ":")))
unfolding operators.factors operators.terms operators.shifts operators.relations operators.equalities expressions.assignments chains.links chains.template_start arrow_rest names.binding_ident
colon_ends = refl

-- no statement begins with `case` or `default`

no_statement_case : refuses_all (exactly (items.key (codes "case"))) statement_body ≡ true
unfolding statement_body names.block statements.if_ statements.for_await statements.for_ statements.while_ statements.do_while statements.switch statements.try_ statements.jump statements.labeled statements.expression_statement declarations.declaration functions.function_declaration classes.class_declaration names.expression functions.arrow functions.arrow_rest names.binding_ident expressions.conditional operators.short_circuit operators.bit_or operators.bit_xor operators.bit_and operators.equality operators.relation operators.shift operators.exponentiation operators.prefixed operators.update chains.chain chains.super_of_link chains.import_meta chains.import_call chains.construction primaries.primary functions.function_expression primaries.class_expression primaries.template primaries.array primaries.object primaries.parenthesized is_reserved reserved_words
no_statement_case = refl

no_statement_default : refuses_all (exactly (items.key (codes "default"))) statement_body ≡ true
unfolding statement_body names.block statements.if_ statements.for_await statements.for_ statements.while_ statements.do_while statements.switch statements.try_ statements.jump statements.labeled statements.expression_statement declarations.declaration functions.function_declaration classes.class_declaration names.expression functions.arrow functions.arrow_rest names.binding_ident expressions.conditional operators.short_circuit operators.bit_or operators.bit_xor operators.bit_and operators.equality operators.relation operators.shift operators.exponentiation operators.prefixed operators.update chains.chain chains.super_of_link chains.import_meta chains.import_call chains.construction primaries.primary functions.function_expression primaries.class_expression primaries.template primaries.array primaries.object primaries.parenthesized is_reserved reserved_words
no_statement_default = refl

no_case : (assigned : Bool) (h : Gap) (us : Items) → Refuses assigned switch_case (it h (sign (codes "}")) us)
unfolding switch_case
no_case assigned h us = refl

module _ (assigned : Bool) where
  -- a case as it is laid out, in front of what closes the last of its statements and begins none
  pub record ReadAsCase (f : Laid) (n : Node) : Type 0 where
    pub front : Front
    pub begins : (g : Gap) (us : Items) → Begins front (f g us)
    pub closes : closes_statement shapes.dangling front ≡ true
    pub no_statement : refuses_all front statement_body ≡ true
    pub reads : (g : Gap) (us : Items) → Closing us → means assigned part.Statement us ≡ fails → Reads assigned switch_case (f g us) (n ∷ []) us

  pub record ReadAsCases (f : Items → Items) (ns : List Node) : Type 0 where
    pub closing : (us : Items) → Closing us → Closing (f us)
    pub no_statement : (us : Items) → means assigned part.Statement us ≡ fails → means assigned part.Statement (f us) ≡ fails
    pub reads : (us : Items) → Closing us → means assigned part.Statement us ≡ fails → Refuses assigned switch_case us → Repeats assigned switch_case (f us) ns us

  pub no_cases_form : ReadAsCases (λ us. us) []
  no_cases_form = record { closing = λ us c. c; no_statement = λ us z. z; reads = λ us c z h. repeats_end assigned switch_case us h }

  pub more_cases_form : {f : Laid} {n : Node} {rest : Items → Items} {ns : List Node} → ReadAsCase f n → ReadAsCases rest ns → (g : Gap) → ReadAsCases (λ us. f g (rest us)) (n ∷ ns)
  unfolding switch_case names.expression
  more_cases_form {f} {n} {rest} {ns} S T g = record {
    closing = λ us c. record { front = S.front; begins = S.begins g (rest us); closes = S.closes };
    no_statement = λ us z. refused_statement assigned S.front (f g (rest us)) (S.begins g (rest us)) S.no_statement;
    reads = λ us c z h. repeats_more assigned switch_case refl (f g (rest us)) (rest us) us (n ∷ []) ns (S.reads g (rest us) (T.closing us c) (T.no_statement us z)) (T.reads us c z h);
  }

  pub case_form : {f : Laid} {k : Kind} {ns : List Node} → Stands assigned shapes.sequence f k ns → {body : Items → Items} {ms : List Node} → ReadAsStatements assigned body ms
      → ReadAsCase (λ g us. it g (items.key (codes "case")) (f blank (s (codes ":") (body us)))) (bare kind.SwitchCase (bare k ns ∷ list_node ms ∷ []))
  unfolding switch_case
  case_form S {body} {ms} B = record {
    front = exactly (items.key (codes "case"));
    begins = λ g us. at_token;
    closes = refl;
    no_statement = no_statement_case;
    reads = λ g us c z. rw (expression_read assigned S blank (s (codes ":") (body us)) (exactly (sign (codes ":"))) at_token colon_ends refl, repeated assigned statement (body us) us ms (B.reads us c z)) refl;
  }

  pub default_form : {body : Items → Items} {ms : List Node} → ReadAsStatements assigned body ms → ReadAsCase (λ g us. it g (items.key (codes "default")) (s (codes ":") (body us))) (bare kind.SwitchCase (absent ∷ list_node ms ∷ []))
  unfolding switch_case
  default_form {body} {ms} B = record {
    front = exactly (items.key (codes "default"));
    begins = λ g us. at_token;
    closes = refl;
    no_statement = no_statement_default;
    reads = λ g us c z. rw (repeated assigned statement (body us) us ms (B.reads us c z)) refl;
  }

  -- with this gap before `}`
  pub switch_form : {f : Laid} {k : Kind} {ns : List Node} (S : Stands assigned shapes.sequence f k ns) {cases : Items → Items} {cs : List Node} → ReadAsCases cases cs → (h : Gap)
      → ReadAsStatement assigned shapes.closed (λ g us. it g (items.key (codes "switch")) (tested assigned S (it blank (sign (codes "{")) (cases (it h (sign (codes "}")) us))))) (bare kind.SwitchStmt (bare k ns ∷ list_node cs ∷ []))
  unfolding statement_body switch names.block statements.if_ statements.for_await statements.for_ statements.while_ statements.do_while module_item modules.import modules.import_equals modules.export modules.export_default is_reserved reserved_words
  switch_form S {cases} {cs} C h =
      token_form assigned 7 switch _ refl (items.key (codes "switch")) refl refl refl
      (λ g us e b z.
      (let end = it h (sign (codes "}")) us in
      rw (test_read assigned S blank (it blank (sign (codes "{")) (cases end)), repeated assigned switch_case (cases end) end cs (C.reads end (closing_brace h us) (refused_statement assigned (exactly (sign (codes "}"))) end at_token no_statement) (no_case assigned h us))) refl))
