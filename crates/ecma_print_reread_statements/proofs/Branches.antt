-- `if` is read as it is laid out.
use Rattle.std.proofs.Common.{Bool, List, [], ◌∷◌, codes, refl}
use Rattle.std.proofs.lemmas.Bool.{and_parts}
use Rattle.ecma_lex.specs.Keys.{is_reserved, reserved_words}
use Rattle.ecma_kind.specs.declared.kind.Kind.{Kind}
use Rattle.ecma_kind.specs.declared.kind.Kind.TheVariants as kind
use Rattle.ecma_tree.specs.declared.node.Node.{Node}
use Rattle.ecma_tree.specs.Nodes.{absent}
use Rattle.ecma_grammar.specs.Grammar.{word}
use Rattle.ecma_grammar.specs.productions.Names as names
use Rattle.ecma_grammar.specs.productions.Statements.{statement_body, in_parentheses, if_}
use Rattle.ecma_grammar.specs.productions.Modules as modules
use Rattle.ecma_grammar.specs.productions.Modules.{module_item}
use Rattle.ecma_print_tokens.specs.Items as items
use Rattle.ecma_print_tokens.specs.Items.{sign, Gap, no_gap, Items, it}
use Rattle.ecma_print_readings.proofs.Machine.{means}
use Rattle.ecma_shapes.specs.Shapes as shapes
use Rattle.ecma_shapes.specs.Shapes.{Ending}
use Rattle.ecma_shapes.proofs.Signs.{blank}
use Rattle.ecma_shapes.proofs.Bare.{bare}
use Rattle.ecma_print_readings.proofs.Fronts.{exactly, at_token, refuses_at, refused_at}
use Rattle.ecma_print_readings.proofs.Forms.{Laid, s, Reads}
use Rattle.ecma_print_readings.proofs.Bindings.{Stands, expression_read}
use Rattle.ecma_print_readings.proofs.Expressions.{parenthesis_ends}
use Rattle.ecma_print_readings.proofs.Statements.{closes_any, ReadAsStatement, token_form}

module _ (assigned : Bool) where
  module _ {f : Laid} {k : Kind} {ns : List Node} (S : Stands assigned shapes.sequence f k ns) where
    -- `(`, a test, `)`
    pub test_read : (g : Gap) (us : Items) → Reads assigned in_parentheses (it g (sign (codes "(")) (f no_gap (s (codes ")") us))) (bare k ns ∷ []) us
    unfolding in_parentheses
    test_read g us = rw (expression_read assigned S no_gap (s (codes ")") us) (exactly (sign (codes ")"))) at_token parenthesis_ends refl) refl

    abbrev pub tested : Items → Items
    tested us = it blank (sign (codes "(")) (f no_gap (s (codes ")") us))

    pub if_form : {ending : Ending} {body : Laid} {n : Node} → ReadAsStatement assigned ending body n → ReadAsStatement assigned shapes.dangling (λ g us. it g (items.key (codes "if")) (tested (body blank us))) (bare kind.IfStmt (bare k ns ∷ n ∷ absent ∷ []))
    unfolding statement_body if_ names.block module_item modules.import modules.import_equals modules.export modules.export_default is_reserved reserved_words
    if_form {ending} {body} B =
        token_form assigned 2 if_ _ refl (items.key (codes "if")) refl refl refl
        (λ g us e b z.
        (let c = and_parts (refuses_at e (word (codes "else"))) (refuses_at e (word (codes "finally"))) z in
        rw (test_read blank (body blank us), B.reads blank us e b (closes_any ending e z), refused_at assigned (means assigned) (word (codes "else")) e us b c.0) refl))

    -- with this gap before `else`
    pub if_else_form : {ending : Ending} {body other : Laid} {n m : Node} → ReadAsStatement assigned shapes.closed body n → ReadAsStatement assigned ending other m → (h : Gap)
        → ReadAsStatement assigned ending (λ g us. it g (items.key (codes "if")) (tested (body blank (it h (items.key (codes "else")) (other blank us))))) (bare kind.IfStmt (bare k ns ∷ n ∷ m ∷ []))
    unfolding statement_body if_ names.block module_item modules.import modules.import_equals modules.export modules.export_default is_reserved reserved_words
    if_else_form {body = body} {other = other} B O h =
        token_form assigned 2 if_ _ refl (items.key (codes "if")) refl refl refl
        (λ g us e b z.
        (let es = it h (items.key (codes "else")) (other blank us) in
        rw (test_read blank (body blank es), B.reads blank es (exactly (items.key (codes "else"))) at_token refl, O.reads blank us e b z) refl))
