-- `import.meta` and `import()` are read as they are laid out.
use Rattle.std.proofs.Common.{◌≡◌, Bool, true, false, [], ◌∷◌, codes, refl, ap, ◌∙◌}
use Rattle.ecma_lex.specs.Keys.{is_reserved, reserved_words}
use Rattle.ecma_kind.specs.declared.operators.MetaPropKind.TheVariants.{ImportMeta}
use Rattle.ecma_kind.specs.declared.kind.Kind.TheVariants as kind
use Rattle.ecma_tree.specs.declared.node.Node.{Node}
use Rattle.ecma_tree.specs.Nodes.{absent}
use Rattle.ecma_grammar.specs.declared.production.Plain.TheVariants as plain
use Rattle.ecma_grammar.specs.declared.production.Form.TheVariants as form
use Rattle.ecma_grammar.specs.declared.production.Flag.TheVariants.{Absent}
use Rattle.ecma_grammar.specs.Grammar.{put, ◌//◌}
use Rattle.ecma_grammar.specs.productions.Names as names
use Rattle.ecma_grammar.specs.productions.Types.{param, rest_pattern, default_value}
use Rattle.ecma_grammar.specs.productions.Patterns.{pattern_body, array_pattern, object_pattern}
use Rattle.ecma_grammar.specs.productions.Functions as functions
use Rattle.ecma_grammar.specs.productions.Functions.{arrow, arrow_rest}
use Rattle.ecma_grammar.specs.productions.Classes as classes
use Rattle.ecma_grammar.specs.productions.Declarations as declarations
use Rattle.ecma_grammar.specs.productions.Statements as statements
use Rattle.ecma_grammar.specs.productions.Statements.{labeled}
use Rattle.ecma_grammar.specs.productions.Modules as modules
use Rattle.ecma_grammar.specs.productions.Operators.{prefixed}
use Rattle.ecma_grammar.specs.productions.Primary.{primary}
use Rattle.ecma_grammar.specs.productions.Chains.{arguments, links, new_links, super_of_member, super_of_link, import_meta, import_call, construction}
use Rattle.ecma_print_tokens.specs.Items.{key, no_gap, Gap, Items, it}
use Rattle.ecma_print_readings.proofs.Machine.{with_front, followed_on, or_on, built_on, interp, means}
use Rattle.ecma_print_readings.proofs.Fronts.{Front, exactly, at_token, refuses_at, refused_at}
use Rattle.ecma_print_readings.proofs.Towers.{Opens}
use Rattle.ecma_print_readings.proofs.Heads.{bare}
use Rattle.ecma_print_readings.proofs.Forms.{s, heads, new_heads, Reads, Refuses, NoItem, Form, NewForm, opens_plainly, form_from}

abbrev front : Front
front = exactly (key (codes "import"))

import_opens : opens_plainly front ≡ true
unfolding arrow arrow_rest labeled param rest_pattern default_value pattern_body array_pattern object_pattern names.binding_ident is_reserved reserved_words statements.statement_body names.block statements.if_ statements.for_await statements.for_ statements.while_ statements.do_while statements.switch statements.try_ statements.jump declarations.declaration functions.function_declaration classes.class_declaration
import_opens = refl

begins_operand : Opens front
unfolding prefixed is_reserved reserved_words
begins_operand = record { no_spread = refl; no_yield = refl; no_private = refl; no_prefix = refl; no_increment = refl; no_decrement = refl }

no_export_there : refuses_at front modules.export ≡ true
unfolding modules.export modules.export_default
no_export_there = refl

-- no import of a name is assigned there
no_name_at_point : (assigned : Bool) (g : Gap) (us : Items) → Refuses assigned modules.import_equals (it g (key (codes "import")) (s (codes ".") us))
unfolding modules.import_equals
no_name_at_point true g us = refl
no_name_at_point false g us = refl

no_name_at_arguments : (assigned : Bool) (g : Gap) (us : Items) → Refuses assigned modules.import_equals (it g (key (codes "import")) (s (codes "(") us))
unfolding modules.import_equals
no_name_at_arguments true g us = refl
no_name_at_arguments false g us = refl

module _ (assigned : Bool) where
  point_no_item : (g : Gap) (us : Items) → NoItem assigned (it g (key (codes "import")) (s (codes ".") us))
  unfolding modules.import modules.import_clause modules.star modules.import_specifiers
  point_no_item g us = record {
    no_import = refl;
    no_import_equals = no_name_at_point assigned g us;
    no_export = refused_at assigned (means assigned) modules.export front (it g (key (codes "import")) (s (codes ".") us)) at_token no_export_there;
  }

  arguments_no_item : (g : Gap) (us : Items) → NoItem assigned (it g (key (codes "import")) (s (codes "(") us))
  unfolding modules.import modules.import_clause modules.star modules.import_specifiers
  arguments_no_item g us = record {
    no_import = refl;
    no_import_equals = no_name_at_arguments assigned g us;
    no_export = refused_at assigned (means assigned) modules.export front (it g (key (codes "import")) (s (codes "(") us)) at_token no_export_there;
  }

  -- `import.meta`

  abbrev meta : Items → Items
  meta us = s (codes ".") (it no_gap (key (codes "meta")) us)

  abbrev meta_node : Node
  meta_node = bare (kind.MetaPropExpr ImportMeta) []

  meta_read : (g : Gap) (us : Items) → Reads assigned heads (it g (key (codes "import")) (meta us)) (meta_node ∷ []) us
  unfolding super_of_link import_meta
  meta_read g us = refl

  new_meta_read : (g : Gap) (us : Items) → Reads assigned new_heads (it g (key (codes "import")) (meta us)) (meta_node ∷ []) us
  unfolding super_of_member import_meta
  new_meta_read g us = refl

  pub meta_form : NewForm assigned (λ g us. it g (key (codes "import")) (meta us)) (kind.MetaPropExpr ImportMeta) []
  meta_form = record {
    form = form_from assigned (key (codes "import")) import_opens begins_operand meta (λ g us. point_no_item g (it no_gap (key (codes "meta")) us)) (meta_node ∷ []) refl (λ g us e b z ys vs h. ap (followed_on (interp assigned (means assigned) links)) (meta_read g us) ∙ ap (with_front (meta_node ∷ [])) h);
    no_point = refl;
    own = λ g us e b z ys vs h. ap (followed_on (interp assigned (means assigned) new_links)) (new_meta_read g us) ∙ ap (with_front (meta_node ∷ [])) h;
  }

  -- `import()`
  module _ (args : Items → Items) (n : Node) (args_read : (us : Items) → Reads assigned arguments (s (codes "(") (args us)) (n ∷ []) us) where
    abbrev called : Node
    called = bare kind.CallExpr (bare kind.Import [] ∷ n ∷ absent ∷ [])

    call_read : (g : Gap) (us : Items) → Reads assigned import_call (it g (key (codes "import")) (s (codes "(") (args us))) (called ∷ []) us
    unfolding import_call
    call_read g us = ap (built_on (form.Node plain.CallExpr)) (ap (with_front (bare kind.Import [] ∷ [])) (ap (followed_on (interp assigned (means assigned) (put Absent))) (args_read us)))

    head_read : (g : Gap) (us : Items) → Reads assigned heads (it g (key (codes "import")) (s (codes "(") (args us))) (called ∷ []) us
    unfolding super_of_link import_meta
    head_read g us = ap (or_on (interp assigned (means assigned) (construction // primary)) (it g (key (codes "import")) (s (codes "(") (args us)))) (call_read g us)

    pub import_call_form : Form assigned (λ g us. it g (key (codes "import")) (s (codes "(") (args us))) kind.CallExpr (bare kind.Import [] ∷ n ∷ absent ∷ [])
    import_call_form =
        form_from assigned (key (codes "import")) import_opens begins_operand (λ us. s (codes "(") (args us)) (λ g us. arguments_no_item g (args us)) (called ∷ []) refl
        (λ g us e b z ys vs h. ap (followed_on (interp assigned (means assigned) links)) (head_read g us) ∙ ap (with_front (called ∷ [])) h)
