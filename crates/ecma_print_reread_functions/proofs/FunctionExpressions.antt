-- Function and class expressions are read as they are laid out.
use Rattle.std.proofs.Common.{◌≡◌, ℕ, Bool, true, false, List, [], ◌∷◌, codes, refl, ap, ◌∙◌}
use Rattle.ecma_lex.specs.Keys.{is_reserved, reserved_words}
use Rattle.ecma_kind.specs.declared.kind.Kind.{Kind}
use Rattle.ecma_kind.specs.declared.kind.Kind.TheVariants as kind
use Rattle.ecma_tree.specs.declared.node.Node.{Node}
use Rattle.ecma_tree.specs.Nodes.{absent, list_node}
use Rattle.ecma_grammar.specs.productions.Names as names
use Rattle.ecma_grammar.specs.productions.Types.{param, rest_pattern, default_value}
use Rattle.ecma_grammar.specs.productions.Patterns.{pattern_body, array_pattern, object_pattern}
use Rattle.ecma_grammar.specs.productions.Functions.{arrow, arrow_rest, function_expression}
use Rattle.ecma_grammar.specs.productions.Primary.{primary, class_expression}
use Rattle.ecma_grammar.specs.productions.Statements as statements
use Rattle.ecma_grammar.specs.productions.Statements.{labeled}
use Rattle.ecma_grammar.specs.productions.Modules as modules
use Rattle.ecma_grammar.specs.productions.Operators.{prefixed}
use Rattle.ecma_grammar.specs.productions.Chains.{super_of_member, super_of_link, import_meta, import_call, construction}
use Rattle.ecma_print_tokens.specs.Items as items
use Rattle.ecma_print_tokens.specs.Items.{sign, Gap, Items, it}
use Rattle.ecma_print_readings.proofs.Machine.{or_on, without, interp, means}
use Rattle.ecma_shapes.specs.Shapes as shapes
use Rattle.ecma_shapes.specs.Shapes.{IsArguments, IsFunctionName, IsHeritage}
use Rattle.ecma_shapes.proofs.Tokens.{arguments_tokens, function_name_tokens, heritage_tokens}
use Rattle.ecma_shapes.proofs.Signs.{blank, sign_of, star_word, function_word}
use Rattle.ecma_shapes.proofs.Bare.{bare_arguments, bare_params, bare_function_name, bare_heritage}
use Rattle.ecma_print_readings.proofs.Fronts.{Front, exactly, Begins, at_token, refuses_at, refused_at}
use Rattle.ecma_print_readings.proofs.Towers.{Opens}
use Rattle.ecma_print_readings.proofs.Heads.{bare}
use Rattle.ecma_print_readings.proofs.Forms.{Laid, s, Reads, Form, NewForm, only_opens, form_by, no_rest_at, linked_param}
use Rattle.ecma_print_readings.proofs.Expressions.{IsPrimary, head_read, new_head_read}
use Rattle.ecma_print_readings.proofs.Async.{front, async_primary, async_new}
use Rattle.ecma_print_readings.proofs.Arrows.{ArgumentForms}
use Rattle.ecma_print_readings.proofs.Blocks.{ReadAsBlock}
use Rattle.ecma_print_reread_functions.proofs.Functions.{function_expression_read}
use Rattle.ecma_print_reread_functions.proofs.Classes.{ReadAsMembers, HeritageForm, class_expression_read}

-- a word that begins a primary expression, and nothing that is tried before one
record BeginsPrimary (e : Front) : Type 0 where
  opens : only_opens e ≡ true
  begins : Opens e
  apart : IsPrimary e

abbrev function_front : Front
function_front = exactly (items.key (codes "function"))

abbrev class_front : Front
class_front = exactly (items.key (codes "class"))

function_begins : BeginsPrimary function_front
unfolding super_of_member super_of_link import_meta import_call construction prefixed arrow arrow_rest labeled param rest_pattern default_value pattern_body array_pattern object_pattern names.binding_ident is_reserved reserved_words statements.statement_body names.block statements.if_ statements.for_await statements.for_ statements.while_ statements.do_while statements.switch statements.try_ statements.jump modules.module_item modules.import modules.import_equals modules.export modules.export_default
function_begins = record { opens = refl; begins = record { no_spread = refl; no_yield = refl; no_private = refl; no_prefix = refl; no_increment = refl; no_decrement = refl }; apart = record { no_head = refl; no_new_head = refl } }

class_begins : BeginsPrimary class_front
unfolding super_of_member super_of_link import_meta import_call construction prefixed arrow arrow_rest labeled param rest_pattern default_value pattern_body array_pattern object_pattern names.binding_ident is_reserved reserved_words statements.statement_body names.block statements.if_ statements.for_await statements.for_ statements.while_ statements.do_while statements.switch statements.try_ statements.jump modules.module_item modules.import modules.import_equals modules.export modules.export_default
class_begins = record { opens = refl; begins = record { no_spread = refl; no_yield = refl; no_private = refl; no_prefix = refl; no_increment = refl; no_decrement = refl }; apart = record { no_head = refl; no_new_head = refl } }

no_function_at_class : refuses_at class_front function_expression ≡ true
unfolding function_expression
no_function_at_class = refl

no_rest_at_function : refuses_at function_front (arrow_rest false false) ≡ true
unfolding arrow_rest names.binding_ident is_reserved reserved_words
no_rest_at_function = refl

behind_async : (x : Bool) (us : Items) → Begins function_front (star_word x blank us)
behind_async true us = at_token
behind_async false us = at_token

module _ (assigned : Bool) where
  function_primary : (ts us : Items) (n : Node) → Reads assigned function_expression ts (n ∷ []) us → Reads assigned primary ts (n ∷ []) us
  unfolding primary
  function_primary ts us n h = ap (or_on (interp assigned (means assigned) (without 1 primary)) ts) h

  class_primary : (g : Gap) (ts us : Items) (n : Node) → Reads assigned class_expression (it g (items.key (codes "class")) ts) (n ∷ []) us → Reads assigned primary (it g (items.key (codes "class")) ts) (n ∷ []) us
  unfolding primary
  class_primary g ts us n h =
      let I = interp assigned (means assigned) in
      let cs = it g (items.key (codes "class")) ts in
      ap (or_on (I (without 1 primary)) cs) (refused_at assigned (means assigned) function_expression class_front cs at_token no_function_at_class) ∙ ap (or_on (I (without 2 primary)) cs) h

  module _ (w : List ℕ) (W : BeginsPrimary (exactly (items.key w))) (rest : Items → Items) {k : Kind} {ns : List Node} (reads : (g : Gap) (us : Items) → Reads assigned primary (it g (items.key w) (rest us)) (bare k ns ∷ []) us) where
    by_word : NewForm assigned (λ g us. it g (items.key w) (rest us)) k ns
    by_word = record {
      form = form_by assigned (items.key w) W.opens W.begins rest (bare k ns ∷ []) refl (λ g us e b z ys vs r. head_read assigned (exactly (items.key w)) (it g (items.key w) (rest us)) us (bare k ns) W.apart at_token (reads g us) ys vs r);
      no_point = refl;
      own = λ g us e b z ys vs r. new_head_read assigned (exactly (items.key w)) (it g (items.key w) (rest us)) us (bare k ns) W.apart at_token (reads g us) ys vs r;
    }

  module _ (x : Bool) (rest : Items → Items) where
    abbrev behind : Items → Items
    behind us = star_word x blank (rest us)

    abbrev tokens : Laid
    tokens g us = it g (items.key (codes "async")) (behind us)

  module _ (x : Bool) (rest : Items → Items) {k : Kind} {ns : List Node} (reads : (g : Gap) (us : Items) → Reads assigned primary (function_word x true g (rest us)) (bare k ns ∷ []) us) where
    by_async_form : Form assigned (tokens x rest) k ns
    by_async_form =
        let N = async_new assigned in
        let A = N.form in
        record {
          front = A.front;
          begins = λ g us. A.begins g (behind x rest us);
          opens = A.opens;
          no_statement = A.no_statement;
          no_item = λ g us. A.no_item g (behind x rest us);
          pieces = bare k ns ∷ [];
          own = λ g us e b z ys vs h. head_read assigned front (tokens x rest g us) us (bare k ns) async_primary at_token (reads g us) ys vs h;
          whole = refl;
          no_arrow = λ n g us e b z r.
              (let there = behind_async x (rest us) in
              A.no_arrow n g (behind x rest us) function_front there refl (refused_at assigned (means assigned) (arrow_rest n false) function_front (behind x rest us) there (no_rest_at function_front no_rest_at_function n)));
          no_label = λ g us e b z. A.no_label g (behind x rest us) function_front (behind_async x (rest us)) refl;
          as_param = λ g us e b z. let there = behind_async x (rest us) in linked_param assigned there refl refl (A.as_param g (behind x rest us) function_front there refl);
          with_default = λ g ts us n h.
              (let vs = it blank (sign (codes "=")) ts in
              let there = behind_async x (rest vs) in
              linked_param assigned there refl refl (A.as_param g (behind x rest vs) function_front there refl));
        }

    by_async : NewForm assigned (tokens x rest) k ns
    unfolding by_async_form
    by_async = record { form = by_async_form; no_point = (let N = async_new assigned in N.no_point); own = λ g us e b z ys vs h. new_head_read assigned front (tokens x rest g us) us (bare k ns) async_primary at_token (reads g us) ys vs h }

  module _ {ps : Node} (is : IsArguments shapes.bindings ps) (depth : ℕ) (F : ArgumentForms assigned is depth) {f : Laid} {n : Node} (B : ReadAsBlock assigned f n) where
    abbrev rest : Items → Items
    rest us = s (codes "(") (arguments_tokens is depth (s (codes ")") (f blank us)))

    pub function_new : (x y : Bool) {m : Node} (i : IsFunctionName m)
        → NewForm assigned (λ g us. function_word x y g (function_name_tokens i (rest us))) kind.FnExpr (bare_function_name i ∷ bare (kind.Function x y) (list_node (bare_params (bare_arguments is)) ∷ n ∷ absent ∷ absent ∷ []) ∷ [])
    function_new x true i = by_async x (λ us. function_name_tokens i (rest us)) (λ g us. function_primary _ us _ (function_expression_read assigned is depth F B x true i g us))
    function_new true false i = by_word (codes "function") function_begins (λ us. sign_of (codes "*") (function_name_tokens i (rest us))) (λ g us. function_primary _ us _ (function_expression_read assigned is depth F B true false i g us))
    function_new false false i = by_word (codes "function") function_begins (λ us. function_name_tokens i (rest us)) (λ g us. function_primary _ us _ (function_expression_read assigned is depth F B false false i g us))

  module _ {f : Items → Items} {ms : List Node} (M : ReadAsMembers assigned f ms) (h : Gap) where
    pub class_new : {n : Node} (is : IsHeritage n) (depth : ℕ) → HeritageForm assigned is depth → {m : Node} (i : IsFunctionName m)
        → NewForm assigned (λ g us. it g (items.key (codes "class")) (function_name_tokens i (heritage_tokens is depth (it blank (sign (codes "{")) (f (it h (sign (codes "}")) us))))))
        kind.ClassExpr (bare_function_name i ∷ bare (kind.Class false) (bare_heritage is ∷ list_node ms ∷ absent ∷ absent ∷ list_node [] ∷ []) ∷ [])
    class_new is depth H i =
        by_word (codes "class") class_begins (λ us. function_name_tokens i (heritage_tokens is depth (it blank (sign (codes "{")) (f (it h (sign (codes "}")) us)))))
        (λ g us. class_primary g _ us _ (class_expression_read assigned M h is depth H i g us))
