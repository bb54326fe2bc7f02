-- Statements in a list, and blocks, are read as they are laid out.
use Rattle.std.proofs.Common.{◌≡◌, Bool, true, List, [], ◌∷◌, codes, refl, ap, ◌∙◌}
use Rattle.ecma_kind.specs.declared.kind.Kind.TheVariants as kind
use Rattle.ecma_tree.specs.declared.node.Node.{Node}
use Rattle.ecma_tree.specs.Nodes.{list_node}
use Rattle.ecma_grammar.specs.declared.production.Part.TheVariants as part
use Rattle.ecma_grammar.specs.declared.production.Plain.TheVariants as plain
use Rattle.ecma_grammar.specs.declared.production.Form.TheVariants as form
use Rattle.ecma_grammar.specs.Grammar.{punct}
use Rattle.ecma_grammar.specs.productions.Names as names
use Rattle.ecma_grammar.specs.productions.Names.{statement, block}
use Rattle.ecma_grammar.specs.productions.Functions as functions
use Rattle.ecma_grammar.specs.productions.Classes as classes
use Rattle.ecma_grammar.specs.productions.Expressions as expressions
use Rattle.ecma_grammar.specs.productions.Operators as operators
use Rattle.ecma_grammar.specs.productions.Chains as chains
use Rattle.ecma_grammar.specs.productions.Primary as primaries
use Rattle.ecma_grammar.specs.productions.Declarations as declarations
use Rattle.ecma_grammar.specs.productions.Statements as statements
use Rattle.ecma_grammar.specs.productions.Statements.{statement_body}
use Rattle.ecma_grammar.specs.productions.Modules as modules
use Rattle.ecma_grammar.specs.productions.Modules.{module_item}
use Rattle.ecma_print_tokens.specs.Items.{sign, Gap, Items, it}
use Rattle.ecma_print_readings.proofs.Machine.{fails, with_front, followed_on, built_on, interp, means}
use Rattle.ecma_shapes.specs.Shapes as shapes
use Rattle.ecma_shapes.specs.Shapes.{Ending}
use Rattle.ecma_shapes.proofs.Bare.{bare}
use Rattle.ecma_print_readings.proofs.Levels.{means_is}
use Rattle.ecma_print_readings.proofs.Fronts.{Front, exactly, Begins, at_token, refuses_all, all_refused}
use Rattle.ecma_print_readings.proofs.Towers.{refuses_choices}
use Rattle.ecma_print_readings.proofs.Forms.{Laid, Reads, no_item_at}
use Rattle.ecma_print_readings.proofs.Repeats.{Repeats, repeats_end, repeats_more, repeated}
use Rattle.ecma_print_readings.proofs.Statements.{closes_statement, closes_any, ReadAsStatement, chosen}

-- what closes the statement before it
pub record Closing (us : Items) : Type 0 where
  pub front : Front
  pub begins : Begins front us
  pub closes : closes_statement shapes.dangling front ≡ true

-- no statement begins with `}`
pub no_statement : refuses_all (exactly (sign (codes "}"))) statement_body ≡ true
unfolding statement_body names.block statements.if_ statements.for_await statements.for_ statements.while_ statements.do_while statements.switch statements.try_ statements.jump statements.labeled statements.expression_statement declarations.declaration functions.function_declaration classes.class_declaration names.expression functions.arrow functions.arrow_rest names.binding_ident expressions.conditional operators.short_circuit operators.bit_or operators.bit_xor operators.bit_and operators.equality operators.relation operators.shift operators.exponentiation operators.prefixed operators.update chains.chain chains.super_of_link chains.import_meta chains.import_call chains.construction primaries.primary functions.function_expression primaries.class_expression primaries.template primaries.array primaries.object primaries.parenthesized
no_statement = refl

pub closing_brace : (h : Gap) (us : Items) → Closing (it h (sign (codes "}")) us)
closing_brace h us = record { front = exactly (sign (codes "}")); begins = at_token; closes = refl }

brace_no_item : refuses_choices 3 (exactly (sign (codes "{"))) module_item ≡ true
unfolding module_item modules.import modules.import_equals modules.export modules.export_default
brace_no_item = refl

module _ (assigned : Bool) where
  -- statements, in front of what closes the last of them and begins none
  pub record ReadAsStatements (f : Items → Items) (ns : List Node) : Type 0 where
    pub closing : (us : Items) → Closing us → Closing (f us)
    pub reads : (us : Items) → Closing us → means assigned part.Statement us ≡ fails → Repeats assigned statement (f us) ns us

  pub no_statements_form : ReadAsStatements (λ us. us) []
  no_statements_form = record { closing = λ us c. c; reads = λ us c z. repeats_end assigned statement us z }

  pub more_statements_form : {ending : Ending} {f : Laid} {n : Node} {rest : Items → Items} {ns : List Node} → ReadAsStatement assigned ending f n → ReadAsStatements rest ns → (g : Gap) → ReadAsStatements (λ us. f g (rest us)) (n ∷ ns)
  more_statements_form {ending} {f} {n} {rest} {ns} S T g = record {
    closing = λ us c. record { front = S.front; begins = S.begins g (rest us); closes = S.closes };
    reads = λ us c z. (let d = T.closing us c in repeats_more assigned statement refl (f g (rest us)) (rest us) us (n ∷ []) ns (S.reads g (rest us) d.front d.begins (closes_any ending d.front d.closes)) (T.reads us c z));
  }

  pub refused_statement : (e : Front) (us : Items) → Begins e us → refuses_all e statement_body ≡ true → means assigned part.Statement us ≡ fails
  refused_statement e us b z = means_is assigned part.Statement us ∙ all_refused assigned statement_body e us b z

  -- a block as it is laid out
  pub record ReadAsBlock (f : Laid) (n : Node) : Type 0 where
    pub begins : (g : Gap) (us : Items) → Begins (exactly (sign (codes "{"))) (f g us)
    pub reads : (g : Gap) (us : Items) → Reads assigned block (f g us) (n ∷ []) us

  -- with this gap before `}`
  pub braces_form : {f : Items → Items} {ns : List Node} → ReadAsStatements f ns → (h : Gap) → ReadAsBlock (λ g us. it g (sign (codes "{")) (f (it h (sign (codes "}")) us))) (bare kind.BlockStmt (list_node ns ∷ []))
  unfolding block
  braces_form {f} {ns} S h = record {
    begins = λ g us. at_token;
    reads = λ g us.
        (let end = it h (sign (codes "}")) us in
        ap (built_on (form.Node plain.BlockStmt)) (ap (with_front []) (ap (followed_on (interp assigned (means assigned) (punct (codes "}")))) (ap (built_on form.List)
        (repeated assigned statement (f end) end ns (S.reads end (closing_brace h us) (refused_statement (exactly (sign (codes "}"))) end at_token no_statement)))))));
  }

  pub block_statement : {f : Laid} {n : Node} → ReadAsBlock f n → ReadAsStatement assigned shapes.closed f n
  unfolding statement_body
  block_statement {f} {n} B = record {
    front = exactly (sign (codes "{"));
    begins = B.begins;
    closes = refl;
    no_item = λ g us. no_item_at assigned (exactly (sign (codes "{"))) (f g us) (B.begins g us) brace_no_item;
    reads = λ g us e b z. chosen assigned 0 block _ refl (exactly (sign (codes "{"))) (f g us) us n (B.begins g us) refl (B.reads g us);
  }
