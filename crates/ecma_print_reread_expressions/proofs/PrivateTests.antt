-- A test for a private name, `#x in a`, is read as it is laid out.
use Rattle.std.proofs.Common.{◌≡◌, ℕ, Bool, true, false, List, [], ◌∷◌, ◌++◌, length, codes, refl, ap, ◌∙◌, Some}
use Rattle.ecma_lex.specs.Text.{piece}
use Rattle.ecma_lex.specs.Keys.{priv_name_end, is_reserved, reserved_words}
use Rattle.ecma_kind.specs.declared.operators.BinaryOp.TheVariants as op
use Rattle.ecma_kind.specs.declared.kind.Kind.{Kind}
use Rattle.ecma_kind.specs.declared.kind.Kind.TheVariants as kind
use Rattle.ecma_tree.specs.declared.node.Node.{Node}
use Rattle.ecma_tree.specs.Nodes.{absent}
use Rattle.ecma_grammar.specs.declared.production.Plain.TheVariants as plain
use Rattle.ecma_grammar.specs.declared.production.Form.TheVariants as form
use Rattle.ecma_grammar.specs.productions.Names as names
use Rattle.ecma_grammar.specs.productions.Types.{param, rest_pattern, default_value}
use Rattle.ecma_grammar.specs.productions.Patterns.{pattern_body, array_pattern, object_pattern}
use Rattle.ecma_grammar.specs.productions.Functions as functions
use Rattle.ecma_grammar.specs.productions.Functions.{arrow, arrow_rest}
use Rattle.ecma_grammar.specs.productions.Classes as classes
use Rattle.ecma_grammar.specs.productions.Declarations as declarations
use Rattle.ecma_grammar.specs.productions.Statements as statements
use Rattle.ecma_grammar.specs.productions.Statements.{labeled}
use Rattle.ecma_grammar.specs.productions.Modules as modules
use Rattle.ecma_grammar.specs.productions.Modules.{module_item}
use Rattle.ecma_grammar.specs.productions.Operators as operators
use Rattle.ecma_grammar.specs.productions.Operators.{relations}
use Rattle.ecma_print_tokens.specs.Items.{key, private_name, Gap, Items, it}
use Rattle.ecma_print_tokens.specs.Good.{IsToken}
use Rattle.ecma_print_readings.proofs.Machine.{read, with_front, followed_on, or_on, built_on, interp, means}
use Rattle.ecma_shapes.specs.Shapes as shapes
use Rattle.ecma_shapes.proofs.Signs.{blank}
use Rattle.ecma_print_readings.proofs.Fronts.{Front, exactly, Begins, at_token}
use Rattle.ecma_print_readings.proofs.Towers.{closes, private_in, refuses_choices}
use Rattle.ecma_print_readings.proofs.Heads.{bare}
use Rattle.ecma_print_readings.proofs.Forms.{Laid, Reads, opens_plainly, no_item_at, lead_from, param_from, no_arrow_from}
use Rattle.ecma_print_readings.proofs.Bindings.{related, Stands, direct}
use Rattle.ecma_print_reread_expressions.proofs.Operations.{binary_made}
use Rattle.ecma_print_readings.proofs.Members.{name_behind}

private_opens : (w : List ℕ) → opens_plainly (exactly (private_name w)) ≡ true
unfolding arrow arrow_rest labeled param rest_pattern default_value pattern_body array_pattern object_pattern names.binding_ident is_reserved reserved_words statements.statement_body names.block statements.if_ statements.for_await statements.for_ statements.while_ statements.do_while statements.switch statements.try_ statements.jump declarations.declaration functions.function_declaration classes.class_declaration
private_opens w = refl

private_no_item : (w : List ℕ) → refuses_choices 3 (exactly (private_name w)) module_item ≡ true
unfolding module_item modules.import modules.import_equals modules.export modules.export_default
private_no_item w = refl

module _ (assigned : Bool) (name : List ℕ) (t : IsToken priv_name_end (codes "#" ++ name)) {f : Laid} {k : Kind} {ns : List Node} (R : Stands assigned shapes.shift f k ns) where
  abbrev word : List ℕ
  word = codes "#" ++ name

  abbrev tokens : Laid
  tokens g us = it g (private_name word) (it blank (key (codes "in")) (f blank us))

  abbrev test : Node
  test = bare (kind.BinExpr op.In) (absent ∷ bare k ns ∷ [])

  private_read : (g : Gap) (us : Items) (e : Front) → Begins e us → closes shapes.shift e ≡ true → Reads assigned (related false) (tokens g us) (bare (kind.PrivateName name) [] ∷ test ∷ []) us
  private_read g us e b z =
      let I = interp assigned (means assigned) in
      let tail = it blank (key (codes "in")) (f blank us) in
      let named : Reads assigned private_in (tokens g us) (bare (kind.PrivateName (piece word 1 (length word))) [] ∷ test ∷ []) us =
      ap (with_front (bare (kind.PrivateName (piece word 1 (length word))) [] ∷ [])) (ap (built_on (form.Node (plain.BinExpr op.In))) (ap (with_front (absent ∷ [])) (ap (with_front []) (direct assigned shapes.shift R blank us e b z)))) in
      ap (or_on (I operators.shift) (tokens g us)) named ∙ ap (λ w. read (bare (kind.PrivateName w) [] ∷ test ∷ []) us) (name_behind name t)

  pub private_form : Stands assigned shapes.relation tokens (kind.BinExpr op.In) (bare (kind.PrivateName name) [] ∷ bare k ns ∷ [])
  private_form =
      let rest : Items → Items = λ us. it blank (key (codes "in")) (f blank us) in
      record {
        lead = lead_from assigned (private_name word) (private_opens word) rest (λ g us. no_item_at assigned (exactly (private_name word)) (tokens g us) at_token (private_no_item word));
        tight = refl;
        no_or = refl;
        no_arrow = no_arrow_from assigned (private_name word) (private_opens word) rest;
        param = λ g us e b z. param_from assigned (private_name word) (private_opens word) rest g us;
        reading = record {
          pieces = bare (kind.PrivateName name) [] ∷ test ∷ [];
          own = λ g us e b z ys vs h. ap (followed_on (interp assigned (means assigned) (relations false))) (private_read g us e b z) ∙ ap (with_front (bare (kind.PrivateName name) [] ∷ test ∷ [])) h;
          whole = ap Some (binary_made op.In (kind.PrivateName name) [] (bare k ns));
        };
      }
