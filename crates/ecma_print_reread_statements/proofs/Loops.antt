-- `while` and `do` are read as they are laid out.
use Rattle.std.proofs.Common.{Bool, List, [], ◌∷◌, codes, refl}
use Rattle.ecma_lex.specs.Keys.{is_reserved, reserved_words}
use Rattle.ecma_kind.specs.declared.kind.Kind.{Kind}
use Rattle.ecma_kind.specs.declared.kind.Kind.TheVariants as kind
use Rattle.ecma_tree.specs.declared.node.Node.{Node}
use Rattle.ecma_grammar.specs.productions.Names as names
use Rattle.ecma_grammar.specs.productions.Statements as statements
use Rattle.ecma_grammar.specs.productions.Statements.{statement_body, while_, do_while}
use Rattle.ecma_grammar.specs.productions.Modules as modules
use Rattle.ecma_grammar.specs.productions.Modules.{module_item}
use Rattle.ecma_print_tokens.specs.Items as items
use Rattle.ecma_print_tokens.specs.Items.{Gap, it}
use Rattle.ecma_shapes.specs.Shapes as shapes
use Rattle.ecma_shapes.specs.Shapes.{Ending}
use Rattle.ecma_shapes.proofs.Signs.{blank}
use Rattle.ecma_shapes.proofs.Bare.{bare}
use Rattle.ecma_print_readings.proofs.Fronts.{exactly, at_token}
use Rattle.ecma_print_readings.proofs.Forms.{Laid, s}
use Rattle.ecma_print_readings.proofs.Bindings.{Stands}
use Rattle.ecma_print_readings.proofs.Statements.{closes_any, ReadAsStatement, token_form}
use Rattle.ecma_print_reread_statements.proofs.Branches.{test_read, tested}

module _ (assigned : Bool) where
  module _ {f : Laid} {k : Kind} {ns : List Node} (S : Stands assigned shapes.sequence f k ns) where
    pub while_form : {ending : Ending} {body : Laid} {n : Node} → ReadAsStatement assigned ending body n
        → ReadAsStatement assigned ending (λ g us. it g (items.key (codes "while")) (tested assigned S (body blank us))) (bare kind.WhileStmt (bare k ns ∷ n ∷ []))
    unfolding statement_body while_ names.block statements.if_ statements.for_await statements.for_ module_item modules.import modules.import_equals modules.export modules.export_default is_reserved reserved_words
    while_form {body = body} B =
        token_form assigned 5 while_ _ refl (items.key (codes "while")) refl refl refl
        (λ g us e b z. rw (test_read assigned S blank (body blank us), B.reads blank us e b z) refl)

    -- with this gap before `while`
    pub do_form : {ending : Ending} {body : Laid} {n : Node} → ReadAsStatement assigned ending body n → (h : Gap)
        → ReadAsStatement assigned shapes.closed (λ g us. it g (items.key (codes "do")) (body blank (it h (items.key (codes "while")) (tested assigned S (s (codes ";") us))))) (bare kind.DoWhileStmt (bare k ns ∷ n ∷ []))
    unfolding statement_body do_while names.block statements.if_ statements.for_await statements.for_ statements.while_ module_item modules.import modules.import_equals modules.export modules.export_default is_reserved reserved_words
    do_form {ending} {body} B h =
        token_form assigned 6 do_while _ refl (items.key (codes "do")) refl refl refl
        (λ g us e b z.
        (let word = exactly (items.key (codes "while")) in
        rw (B.reads blank (it h (items.key (codes "while")) (tested assigned S (s (codes ";") us))) word at_token (closes_any ending word refl), test_read assigned S blank (s (codes ";") us)) refl))
