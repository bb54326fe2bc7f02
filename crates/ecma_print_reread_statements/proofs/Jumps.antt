-- Statements of a word are read as they are laid out.
use Rattle.std.proofs.Common.{◌≡◌, Bool, true, false, List, [], ◌∷◌, codes, refl}
use Rattle.ecma_lex.specs.Keys.{is_reserved, reserved_words}
use Rattle.ecma_kind.specs.declared.kind.Kind.{Kind}
use Rattle.ecma_kind.specs.declared.kind.Kind.TheVariants as kind
use Rattle.ecma_tree.specs.declared.node.Node.{Node}
use Rattle.ecma_tree.specs.Nodes.{absent}
use Rattle.ecma_grammar.specs.Grammar.{Grammar, ◌//◌}
use Rattle.ecma_grammar.specs.productions.Names as names
use Rattle.ecma_grammar.specs.productions.Names.{expression}
use Rattle.ecma_grammar.specs.productions.Functions as functions
use Rattle.ecma_grammar.specs.productions.Expressions as expressions
use Rattle.ecma_grammar.specs.productions.Operators as operators
use Rattle.ecma_grammar.specs.productions.Chains as chains
use Rattle.ecma_grammar.specs.productions.Primary as primaries
use Rattle.ecma_grammar.specs.productions.Declarations.{declaration}
use Rattle.ecma_grammar.specs.productions.Statements as statements
use Rattle.ecma_grammar.specs.productions.Statements.{statement_body, jump, labeled, expression_statement}
use Rattle.ecma_grammar.specs.productions.Modules as modules
use Rattle.ecma_grammar.specs.productions.Modules.{module_item}
use Rattle.ecma_print_tokens.specs.Items as items
use Rattle.ecma_print_tokens.specs.Items.{sign, Items, it}
use Rattle.ecma_print_tokens.specs.Taking.{new_line_in}
use Rattle.ecma_shapes.specs.Shapes as shapes
use Rattle.ecma_shapes.proofs.Signs.{blank}
use Rattle.ecma_shapes.proofs.Bare.{bare}
use Rattle.ecma_print_readings.proofs.Fronts.{exactly, at_token, refuses_all, all_refused}
use Rattle.ecma_print_readings.proofs.Forms.{Laid, s}
use Rattle.ecma_print_readings.proofs.Bindings.{Stands, expression_read}
use Rattle.ecma_print_readings.proofs.Expressions.{semicolon_ends}
use Rattle.ecma_print_readings.proofs.Statements.{ReadAsStatement, token_form}

-- no expression begins with `;`
pub no_expression : refuses_all (exactly (sign (codes ";"))) (expression false) ≡ true
unfolding expression functions.arrow functions.arrow_rest names.binding_ident expressions.conditional operators.short_circuit operators.bit_or operators.bit_xor operators.bit_and operators.equality operators.relation operators.shift operators.exponentiation operators.prefixed operators.update chains.chain chains.super_of_link chains.import_meta chains.import_call chains.construction primaries.primary functions.function_expression primaries.class_expression primaries.template primaries.array primaries.object primaries.parenthesized
no_expression = refl

abbrev behind_jump : Grammar
behind_jump = labeled // declaration // expression_statement

module _ (assigned : Bool) where
  pub empty_form : ReadAsStatement assigned shapes.closed (λ g us. it g (sign (codes ";")) us) (bare kind.EmptyStmt [])
  unfolding statement_body jump names.block statements.if_ statements.for_await statements.for_ statements.while_ statements.do_while statements.switch statements.try_ labeled module_item modules.import modules.import_equals modules.export modules.export_default is_reserved reserved_words
  empty_form = token_form assigned 1 _ _ refl (sign (codes ";")) refl refl refl (λ g us e b z. refl)

  pub debugger_form : ReadAsStatement assigned shapes.closed (λ g us. it g (items.key (codes "debugger")) (s (codes ";") us)) (bare kind.DebuggerStmt [])
  unfolding statement_body jump names.block statements.if_ statements.for_await statements.for_ statements.while_ statements.do_while statements.switch statements.try_ labeled module_item modules.import modules.import_equals modules.export modules.export_default is_reserved reserved_words
  debugger_form = token_form assigned 9 jump behind_jump refl (items.key (codes "debugger")) refl refl refl (λ g us e b z. refl)

  pub return_form : ReadAsStatement assigned shapes.closed (λ g us. it g (items.key (codes "return")) (s (codes ";") us)) (bare kind.ReturnStmt (absent ∷ []))
  unfolding statement_body jump names.block statements.if_ statements.for_await statements.for_ statements.while_ statements.do_while statements.switch statements.try_ labeled module_item modules.import modules.import_equals modules.export modules.export_default is_reserved reserved_words
  return_form = token_form assigned 9 jump behind_jump refl (items.key (codes "return")) refl refl refl (λ g us e b z. rw (all_refused assigned (expression false) (exactly (sign (codes ";"))) (s (codes ";") us) at_token no_expression) refl)

  pub break_form : ReadAsStatement assigned shapes.closed (λ g us. it g (items.key (codes "break")) (s (codes ";") us)) (bare kind.BreakStmt (absent ∷ []))
  unfolding statement_body jump names.block statements.if_ statements.for_await statements.for_ statements.while_ statements.do_while statements.switch statements.try_ labeled module_item modules.import modules.import_equals modules.export modules.export_default is_reserved reserved_words
  break_form = token_form assigned 9 jump behind_jump refl (items.key (codes "break")) refl refl refl (λ g us e b z. refl)

  pub continue_form : ReadAsStatement assigned shapes.closed (λ g us. it g (items.key (codes "continue")) (s (codes ";") us)) (bare kind.ContinueStmt (absent ∷ []))
  unfolding statement_body jump names.block statements.if_ statements.for_await statements.for_ statements.while_ statements.do_while statements.switch statements.try_ labeled module_item modules.import modules.import_equals modules.export modules.export_default is_reserved reserved_words
  continue_form = token_form assigned 9 jump behind_jump refl (items.key (codes "continue")) refl refl refl (λ g us e b z. refl)

  -- with an expression on the same line
  module _ {f : Laid} {k : Kind} {ns : List Node} (S : Stands assigned shapes.sequence f k ns) (same : (us : Items) → new_line_in (f blank us) ≡ false) where
    pub throw_form : ReadAsStatement assigned shapes.closed (λ g us. it g (items.key (codes "throw")) (f blank (s (codes ";") us))) (bare kind.ThrowStmt (bare k ns ∷ []))
    unfolding statement_body jump names.block statements.if_ statements.for_await statements.for_ statements.while_ statements.do_while statements.switch statements.try_ labeled module_item modules.import modules.import_equals modules.export modules.export_default is_reserved reserved_words
    throw_form =
        token_form assigned 9 jump behind_jump refl (items.key (codes "throw")) refl refl refl
        (λ g us e b z. rw (same (s (codes ";") us), expression_read assigned S blank (s (codes ";") us) (exactly (sign (codes ";"))) at_token semicolon_ends refl) refl)

    pub return_value_form : ReadAsStatement assigned shapes.closed (λ g us. it g (items.key (codes "return")) (f blank (s (codes ";") us))) (bare kind.ReturnStmt (bare k ns ∷ []))
    unfolding statement_body jump names.block statements.if_ statements.for_await statements.for_ statements.while_ statements.do_while statements.switch statements.try_ labeled module_item modules.import modules.import_equals modules.export modules.export_default is_reserved reserved_words
    return_value_form =
        token_form assigned 9 jump behind_jump refl (items.key (codes "return")) refl refl refl
        (λ g us e b z. rw (same (s (codes ";") us), expression_read assigned S blank (s (codes ";") us) (exactly (sign (codes ";"))) at_token semicolon_ends refl) refl)
