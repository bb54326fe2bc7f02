-- Functions with a block as their body are read as they are laid out.
use Rattle.std.proofs.Common.{◌≡◌, ℕ, Bool, true, false, List, [], ◌∷◌, map, codes, refl, ap, ap₂, ◌∙◌}
use Rattle.ecma_lex.specs.Keys.{is_reserved, reserved_words}
use Rattle.ecma_kind.specs.declared.kind.Kind.TheVariants as kind
use Rattle.ecma_tree.specs.declared.node.Node.{Node}
use Rattle.ecma_tree.specs.Nodes.{absent, list_node}
use Rattle.ecma_grammar.specs.declared.production.Part.TheVariants as part
use Rattle.ecma_grammar.specs.declared.production.Plain.{Plain}
use Rattle.ecma_grammar.specs.declared.production.Plain.TheVariants as plain
use Rattle.ecma_grammar.specs.trees.Plain.{plain_kind}
use Rattle.ecma_grammar.specs.declared.production.Form.TheVariants as form
use Rattle.ecma_grammar.specs.declared.production.Flag.TheVariants.{Absent, Present}
use Rattle.ecma_grammar.specs.trees.Parts.{flag_node}
use Rattle.ecma_grammar.specs.trees.Functions.{wrapped, parameters}
use Rattle.ecma_grammar.specs.Made.{made}
use Rattle.ecma_grammar.specs.Grammar.{◌//◌}
use Rattle.ecma_grammar.specs.productions.Names as names
use Rattle.ecma_grammar.specs.productions.Functions.{signature, full_signature, function_declaration, function_expression, default_function}
use Rattle.ecma_grammar.specs.productions.Declarations.{declaration}
use Rattle.ecma_grammar.specs.productions.Statements as statements
use Rattle.ecma_grammar.specs.productions.Statements.{statement_body, labeled, expression_statement}
use Rattle.ecma_grammar.specs.productions.Modules as modules
use Rattle.ecma_grammar.specs.productions.Modules.{module_item}
use Rattle.ecma_print_tokens.specs.Items as items
use Rattle.ecma_print_tokens.specs.Items.{Gap, Items, it}
use Rattle.ecma_print_readings.proofs.Machine.{read, or_on, interp, means, without}
use Rattle.ecma_shapes.specs.Shapes as shapes
use Rattle.ecma_shapes.specs.Shapes.{IsPattern, IsDefaulted, IsElement, AreElements, IsArguments, IsFunctionName, ident}
use Rattle.ecma_shapes.proofs.Tokens.{arguments_tokens, function_name_tokens}
use Rattle.ecma_shapes.proofs.Signs.{blank, function_word}
use Rattle.ecma_shapes.proofs.Bare.{bare_pattern, bare_defaulted, bare_element, bare_elements, bare_arguments, bare_params, bare_function_name}
use Rattle.ecma_print_readings.proofs.Levels.{means_is}
use Rattle.ecma_print_readings.proofs.Fronts.{Front, exactly, Begins, at_token}
use Rattle.ecma_print_readings.proofs.Towers.{skipped, refuses_choices}
use Rattle.ecma_print_readings.proofs.Heads.{bare, nodes}
use Rattle.ecma_print_readings.proofs.Forms.{Laid, s, Reads, Refuses, no_item_at}
use Rattle.ecma_print_readings.proofs.Arrows.{ArgumentForms, params_read}
use Rattle.ecma_print_readings.proofs.Statements.{closes_statement, ReadAsStatement}
use Rattle.ecma_print_readings.proofs.Blocks.{ReadAsBlock}

-- each parameter is wrapped

abbrev as_param : Node → Node
as_param n = bare kind.Param (n ∷ [])

pattern_wrapped : {n : Node} (is : IsPattern n) → wrapped (bare_pattern is) ≡ as_param (bare_pattern is)
pattern_wrapped (shapes.name_pattern at i a) = simp nodes
pattern_wrapped (shapes.array_pattern at at' es a) = simp nodes
pattern_wrapped (shapes.object_pattern at at' ps a) = simp nodes

defaulted_wrapped : {n : Node} (is : IsDefaulted n) → wrapped (bare_defaulted is) ≡ as_param (bare_defaulted is)
defaulted_wrapped (shapes.no_default p) = pattern_wrapped p
defaulted_wrapped (shapes.with_default at p e) = simp nodes

element_wrapped : {n : Node} (is : IsElement shapes.bindings n) → wrapped (bare_element is) ≡ as_param (bare_element is)
element_wrapped (shapes.bound p) = defaulted_wrapped p
element_wrapped (shapes.rest at p a) = simp nodes

elements_wrapped : {es : List Node} (is : AreElements shapes.bindings es) → map wrapped (bare_elements is) ≡ bare_params (bare_elements is)
elements_wrapped shapes.no_elements = refl
elements_wrapped (shapes.more_elements e es) = ap₂ (λ x xs. x ∷ xs) (element_wrapped e) (elements_wrapped es)

params_wrapped : {n : Node} (is : IsArguments shapes.bindings n) → map wrapped (bare_arguments is) ≡ bare_params (bare_arguments is)
params_wrapped (shapes.no_arguments at) = refl
params_wrapped (shapes.arguments at e es) = ap₂ (λ x xs. x ∷ xs) (element_wrapped e) (elements_wrapped es)

abbrev pub flag : Bool → Node
flag true = flag_node Present
flag false = flag_node Absent

-- a generator or none, asynchronous or not
pub function_made : (k : Plain) (x y : Bool) (name ps n : Node) → made (form.Function k) 0 0 (flag y ∷ flag x ∷ name ∷ absent ∷ ps ∷ absent ∷ n ∷ []) ≡ bare (plain_kind k) (name ∷ bare (kind.Function x y) (parameters ps ∷ n ∷ absent ∷ absent ∷ []) ∷ [])
function_made k true true name ps n = simp nodes
function_made k true false name ps n = simp nodes
function_made k false true name ps n = simp nodes
function_made k false false name ps n = simp nodes

pub params_made : {n : Node} (is : IsArguments shapes.bindings n) → parameters (list_node (bare_arguments is)) ≡ list_node (bare_params (bare_arguments is))
params_made is = (let l : parameters (list_node (bare_arguments is)) ≡ list_node (map wrapped (bare_arguments is)) = simp nodes in l) ∙ ap list_node (params_wrapped is)

-- the first word
abbrev first : Bool → Front
first true = exactly (items.key (codes "async"))
first false = exactly (items.key (codes "function"))

begins : (x y : Bool) (g : Gap) (us : Items) → Begins (first y) (function_word x y g us)
begins true true g us = at_token
begins false true g us = at_token
begins true false g us = at_token
begins false false g us = at_token

-- it begins nothing that is tried before a label
record Declares (y : Bool) : Type 0 where
  pub no_statement : refuses_choices 10 (first y) statement_body ≡ true
  pub no_item : refuses_choices 3 (first y) module_item ≡ true
  pub no_variables : refuses_choices 1 (first y) declaration ≡ true
  pub closes : closes_statement shapes.dangling (first y) ≡ true

declares : (y : Bool) → Declares y
unfolding statement_body names.block statements.if_ statements.for_await statements.for_ statements.while_ statements.do_while statements.switch statements.try_ statements.jump declaration module_item modules.import modules.import_equals modules.export modules.export_default is_reserved reserved_words
declares true = record { no_statement = refl; no_item = refl; no_variables = refl; closes = refl }
declares false = record { no_statement = refl; no_item = refl; no_variables = refl; closes = refl }

module _ (assigned : Bool) where
  -- it is no label
  no_label : (x y : Bool) (w : List ℕ) (g : Gap) (us : Items) → Refuses assigned labeled (function_word x y g (it blank (items.key w) us))
  unfolding labeled is_reserved reserved_words
  no_label true true w g us = refl
  no_label false true w g us = refl
  no_label true false w g us = refl
  no_label false false w g us = refl

  module _ {ps : Node} (is : IsArguments shapes.bindings ps) (depth : ℕ) (F : ArgumentForms assigned is depth) {f : Laid} {n : Node} (B : ReadAsBlock assigned f n) where
    abbrev rest : Items → Items
    rest us = s (codes "(") (arguments_tokens is depth (s (codes ")") (f blank us)))

    pub signature_read : (us : Items) → Reads assigned signature (rest us) (absent ∷ list_node (bare_arguments is) ∷ absent ∷ n ∷ []) us
    unfolding signature
    signature_read us = rw (params_read assigned is depth F (f blank us), B.reads blank us) refl

    pub full_signature_read : (us : Items) → Reads assigned full_signature (rest us) (absent ∷ list_node (bare_arguments is) ∷ absent ∷ n ∷ []) us
    unfolding full_signature
    full_signature_read us = rw (params_read assigned is depth F (f blank us), B.reads blank us) refl

    module _ (x y : Bool) (w : List ℕ) (free : is_reserved w ≡ false) where
      abbrev name : Node
      name = bare (kind.Ident w 0 false) []

      abbrev whole : Node
      whole = bare (kind.FnDecl false) (name ∷ bare (kind.Function x y) (list_node (bare_params (bare_arguments is)) ∷ n ∷ absent ∷ absent ∷ []) ∷ [])

      abbrev tokens : Laid
      tokens g us = function_word x y g (it blank (items.key w) (rest us))

      whole_made : made (form.Function plain.FnDecl) 0 0 (flag y ∷ flag x ∷ name ∷ absent ∷ list_node (bare_arguments is) ∷ absent ∷ n ∷ []) ≡ whole
      whole_made = function_made plain.FnDecl x y name (list_node (bare_arguments is)) n ∙ ap (λ z. bare (kind.FnDecl false) (name ∷ bare (kind.Function x y) (z ∷ n ∷ absent ∷ absent ∷ []) ∷ [])) (params_made is)

    parts_read : (x y : Bool) (w : List ℕ) → is_reserved w ≡ false → (g : Gap) (us : Items)
        → Reads assigned function_declaration (function_word x y g (it blank (items.key w) (rest us))) (made (form.Function plain.FnDecl) 0 0 (flag y ∷ flag x ∷ bare (kind.Ident w 0 false) [] ∷ absent ∷ list_node (bare_arguments is) ∷ absent ∷ n ∷ []) ∷ []) us
    unfolding function_declaration
    parts_read true true w free g us = rw (free, signature_read us) refl
    parts_read true false w free g us = rw (free, signature_read us) refl
    parts_read false true w free g us = rw (free, signature_read us) refl
    parts_read false false w free g us = rw (free, signature_read us) refl

    module _ (x y : Bool) (w : List ℕ) (free : is_reserved w ≡ false) where
      pub function_declaration_read : (g : Gap) (us : Items) → Reads assigned declaration (tokens x y w free g us) (whole x y w free ∷ []) us
      unfolding declaration
      function_declaration_read g us =
          let D = declares y in
          let ts = tokens x y w free g us in
          skipped assigned (means assigned) 1 declaration (first y) ts (begins x y g _) D.no_variables
          ∙ ap (or_on (interp assigned (means assigned) (without 2 declaration)) ts) (parts_read x y w free g us ∙ ap (λ z. read (z ∷ []) us) (whole_made x y w free))

      pub function_form : ReadAsStatement assigned shapes.closed (tokens x y w free) (whole x y w free)
      unfolding statement_body
      function_form =
          let D = declares y in
          record {
            front = first y;
            begins = λ g us. begins x y g _;
            closes = D.closes;
            no_item = λ g us. no_item_at assigned (first y) (tokens x y w free g us) (begins x y g _) D.no_item;
            reads = λ g us e b z.
                (let ts = tokens x y w free g us in
                means_is assigned part.Statement ts
                ∙ (skipped assigned (means assigned) 10 statement_body (first y) ts (begins x y g _) D.no_statement
                ∙ (ap (or_on (interp assigned (means assigned) (declaration // expression_statement)) ts) (no_label x y w g (rest us))
                ∙ ap (or_on (interp assigned (means assigned) expression_statement) ts) (function_declaration_read g us))));
          }

    -- with a name, or without one

    expression_parts_read : (x y : Bool) {m : Node} (i : IsFunctionName m) (g : Gap) (us : Items)
        → Reads assigned function_expression (function_word x y g (function_name_tokens i (rest us))) (made (form.Function plain.FnExpr) 0 0 (flag y ∷ flag x ∷ bare_function_name i ∷ absent ∷ list_node (bare_arguments is) ∷ absent ∷ n ∷ []) ∷ []) us
    unfolding function_expression
    expression_parts_read true true (shapes.unnamed a) g us = rw (full_signature_read us) refl
    expression_parts_read true false (shapes.unnamed a) g us = rw (full_signature_read us) refl
    expression_parts_read false true (shapes.unnamed a) g us = rw (full_signature_read us) refl
    expression_parts_read false false (shapes.unnamed a) g us = rw (full_signature_read us) refl
    expression_parts_read true true (shapes.function_name (ident at w i)) g us = rw (i.free, full_signature_read us) refl
    expression_parts_read true false (shapes.function_name (ident at w i)) g us = rw (i.free, full_signature_read us) refl
    expression_parts_read false true (shapes.function_name (ident at w i)) g us = rw (i.free, full_signature_read us) refl
    expression_parts_read false false (shapes.function_name (ident at w i)) g us = rw (i.free, full_signature_read us) refl

    pub function_expression_read : (x y : Bool) {m : Node} (i : IsFunctionName m) (g : Gap) (us : Items)
        → Reads assigned function_expression (function_word x y g (function_name_tokens i (rest us))) (bare kind.FnExpr (bare_function_name i ∷ bare (kind.Function x y) (list_node (bare_params (bare_arguments is)) ∷ n ∷ absent ∷ absent ∷ []) ∷ []) ∷ []) us
    function_expression_read x y i g us =
        expression_parts_read x y i g us
        ∙ ap (λ z. read (z ∷ []) us)
        (function_made plain.FnExpr x y (bare_function_name i) (list_node (bare_arguments is)) n
        ∙ ap (λ z. bare kind.FnExpr (bare_function_name i ∷ bare (kind.Function x y) (z ∷ n ∷ absent ∷ absent ∷ []) ∷ [])) (params_made is))

    -- and as a default export

    default_parts_read : (x y : Bool) {m : Node} (i : IsFunctionName m) (g : Gap) (us : Items)
        → Reads assigned default_function (function_word x y g (function_name_tokens i (rest us))) (made (form.Function plain.FnExpr) 0 0 (flag y ∷ flag x ∷ bare_function_name i ∷ absent ∷ list_node (bare_arguments is) ∷ absent ∷ n ∷ []) ∷ []) us
    unfolding default_function
    default_parts_read true true (shapes.unnamed a) g us = rw (signature_read us) refl
    default_parts_read true false (shapes.unnamed a) g us = rw (signature_read us) refl
    default_parts_read false true (shapes.unnamed a) g us = rw (signature_read us) refl
    default_parts_read false false (shapes.unnamed a) g us = rw (signature_read us) refl
    default_parts_read true true (shapes.function_name (ident at w i)) g us = rw (i.free, signature_read us) refl
    default_parts_read true false (shapes.function_name (ident at w i)) g us = rw (i.free, signature_read us) refl
    default_parts_read false true (shapes.function_name (ident at w i)) g us = rw (i.free, signature_read us) refl
    default_parts_read false false (shapes.function_name (ident at w i)) g us = rw (i.free, signature_read us) refl

    pub default_function_read : (x y : Bool) {m : Node} (i : IsFunctionName m) (g : Gap) (us : Items)
        → Reads assigned default_function (function_word x y g (function_name_tokens i (rest us))) (bare kind.FnExpr (bare_function_name i ∷ bare (kind.Function x y) (list_node (bare_params (bare_arguments is)) ∷ n ∷ absent ∷ absent ∷ []) ∷ []) ∷ []) us
    default_function_read x y i g us =
        default_parts_read x y i g us
        ∙ ap (λ z. read (z ∷ []) us)
        (function_made plain.FnExpr x y (bare_function_name i) (list_node (bare_arguments is)) n
        ∙ ap (λ z. bare kind.FnExpr (bare_function_name i ∷ bare (kind.Function x y) (z ∷ n ∷ absent ∷ absent ∷ []) ∷ [])) (params_made is))
