-- Labels, and jumps to them, are read as they are laid out.
use Rattle.std.proofs.Common.{◌≡◌, ℕ, Bool, true, false, List, [], ◌∷◌, codes, refl, ap, ◌∙◌}
use Rattle.ecma_lex.specs.Keys.{is_reserved, reserved_words}
use Rattle.ecma_kind.specs.declared.kind.Kind.TheVariants as kind
use Rattle.ecma_tree.specs.declared.node.Node.{Node}
use Rattle.ecma_grammar.specs.declared.production.Part.TheVariants as part
use Rattle.ecma_grammar.specs.Grammar.{Grammar, ◌//◌}
use Rattle.ecma_grammar.specs.productions.Names as names
use Rattle.ecma_grammar.specs.productions.Declarations.{declaration}
use Rattle.ecma_grammar.specs.productions.Statements as statements
use Rattle.ecma_grammar.specs.productions.Statements.{statement_body, jump, labeled, expression_statement}
use Rattle.ecma_grammar.specs.productions.Modules as modules
use Rattle.ecma_grammar.specs.productions.Modules.{module_item}
use Rattle.ecma_print_tokens.specs.Items as items
use Rattle.ecma_print_tokens.specs.Items.{Gap, Items, it}
use Rattle.ecma_shapes.specs.Shapes as shapes
use Rattle.ecma_shapes.specs.Shapes.{Ending}
use Rattle.ecma_shapes.proofs.Signs.{blank}
use Rattle.ecma_shapes.proofs.Bare.{bare}
use Rattle.ecma_print_readings.proofs.Machine.{or_on, interp, means, without}
use Rattle.ecma_print_readings.proofs.Levels.{means_is}
use Rattle.ecma_print_readings.proofs.Fronts.{Front, Begins}
use Rattle.ecma_print_readings.proofs.Towers.{skipped}
use Rattle.ecma_print_readings.proofs.Forms.{Laid, s, Reads}
use Rattle.ecma_print_readings.proofs.Bindings.{Stands}
use Rattle.ecma_print_readings.proofs.Statements.{closes_statement, ReadAsStatement, token_form, lead_closes}

abbrev label : List ℕ → Node
label w = bare (kind.Ident w 0 false) []

abbrev behind_jump : Grammar
behind_jump = labeled // declaration // expression_statement

module _ (assigned : Bool) (w : List ℕ) (free : is_reserved w ≡ false) where
  label_read : {ending : Ending} {body : Laid} {n : Node} → ReadAsStatement assigned ending body n → (g : Gap) (us : Items) (e : Front) → Begins e us → closes_statement ending e ≡ true → Reads assigned labeled (it g (items.key w) (s (codes ":") (body blank us))) (bare kind.LabeledStmt (label w ∷ n ∷ []) ∷ []) us
  unfolding labeled
  label_read B g us e b z = rw (free, B.reads blank us e b z) refl

  pub labeled_form : {ending : Ending} {body : Laid} {n : Node} → Stands assigned shapes.sequence (λ g us. it g (items.key w) us) (kind.Ident w 0 false) [] → ReadAsStatement assigned ending body n
      → ReadAsStatement assigned ending (λ g us. it g (items.key w) (s (codes ":") (body blank us))) (bare kind.LabeledStmt (label w ∷ n ∷ []))
  unfolding statement_body names.block
  labeled_form {body = body} {n = n} S B =
      let L = S.lead in
      record {
        front = L.front;
        begins = λ g us. L.begins g (s (codes ":") (body blank us));
        closes = lead_closes assigned S;
        no_item = λ g us. L.no_item g (s (codes ":") (body blank us));
        reads = λ g us e b z.
            (let ts = it g (items.key w) (s (codes ":") (body blank us)) in
            means_is assigned part.Statement ts
            ∙ (skipped assigned (means assigned) 9 (without 1 statement_body) L.front ts (L.begins g (s (codes ":") (body blank us))) L.no_statement
            ∙ ap (or_on (interp assigned (means assigned) (declaration // expression_statement)) ts) (label_read B g us e b z)));
      }

  pub break_label_form : ReadAsStatement assigned shapes.closed (λ g us. it g (items.key (codes "break")) (it blank (items.key w) (s (codes ";") us))) (bare kind.BreakStmt (label w ∷ []))
  unfolding statement_body jump names.block statements.if_ statements.for_await statements.for_ statements.while_ statements.do_while statements.switch statements.try_ labeled module_item modules.import modules.import_equals modules.export modules.export_default is_reserved reserved_words
  break_label_form = token_form assigned 9 jump behind_jump refl (items.key (codes "break")) refl refl refl (λ g us e b z. rw (free) refl)

  pub continue_label_form : ReadAsStatement assigned shapes.closed (λ g us. it g (items.key (codes "continue")) (it blank (items.key w) (s (codes ";") us))) (bare kind.ContinueStmt (label w ∷ []))
  unfolding statement_body jump names.block statements.if_ statements.for_await statements.for_ statements.while_ statements.do_while statements.switch statements.try_ labeled module_item modules.import modules.import_equals modules.export modules.export_default is_reserved reserved_words
  continue_label_form = token_form assigned 9 jump behind_jump refl (items.key (codes "continue")) refl refl refl (λ g us e b z. rw (free) refl)
