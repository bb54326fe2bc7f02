-- A module is read as it is laid out.
use Rattle.std.proofs.Common.{None, Some, ℕ, ◌≡◌, Bool, true, false, List, [], ◌∷◌, codes, refl, ap, ◌∙◌}
use Rattle.ecma_kind.specs.declared.kind.Kind.TheVariants as kind
use Rattle.ecma_tree.specs.declared.node.Node.{Node}
use Rattle.ecma_tree.specs.Nodes.{absent, list_node}
use Rattle.ecma_grammar.specs.declared.production.Part.TheVariants as part
use Rattle.ecma_grammar.specs.declared.production.TokenKind.TheVariants as token
use Rattle.ecma_grammar.specs.declared.production.Plain.TheVariants as plain
use Rattle.ecma_grammar.specs.declared.production.Form.TheVariants as form
use Rattle.ecma_grammar.specs.trees.Others.{text_of}
use Rattle.ecma_grammar.specs.Made.{made}
use Rattle.ecma_grammar.specs.Grammar as grammar
use Rattle.ecma_grammar.specs.Grammar.{Grammar, ◌▸◌, ◌//◌, punct, a}
use Rattle.ecma_grammar.specs.productions.Names as names
use Rattle.ecma_grammar.specs.productions.Names.{assign_in, end, expression}
use Rattle.ecma_grammar.specs.productions.Functions as functions
use Rattle.ecma_grammar.specs.productions.Expressions as expressions
use Rattle.ecma_grammar.specs.productions.Operators as operators
use Rattle.ecma_grammar.specs.productions.Primary as primaries
use Rattle.ecma_grammar.specs.productions.Chains as chains
use Rattle.ecma_grammar.specs.productions.Classes as classes
use Rattle.ecma_grammar.specs.productions.Declarations as declarations
use Rattle.ecma_grammar.specs.productions.Statements as statements
use Rattle.ecma_grammar.specs.productions.Statements.{statement_body, expression_statement}
use Rattle.ecma_grammar.specs.productions.Modules as modules
use Rattle.ecma_grammar.specs.productions.Modules.{module_item, module_body}
use Rattle.ecma_print_tokens.specs.Items as items
use Rattle.ecma_print_tokens.specs.Items.{Gap, no_gap, Items, ends, it}
use Rattle.ecma_print_readings.proofs.Machine.{read, with_front, followed_on, or_on, unless_on, built_on, interp, means, without}
use Rattle.ecma_shapes.specs.Modules as shapes
use Rattle.ecma_shapes.specs.Modules.{IsModuleItem, AreModuleItems}
use Rattle.ecma_shapes.proofs.Signs.{line, sign_of}
use Rattle.ecma_shapes.proofs.Bare.{bare}
use Rattle.ecma_shapes.proofs.ModuleTokens.{source_tokens, from_tokens, import_clause_tokens, item_tokens, items_tokens, bare_item, bare_items}
use Rattle.ecma_print_readings.proofs.Ranks.{item_eats}
use Rattle.ecma_print_readings.proofs.Levels.{means_is}
use Rattle.ecma_print_readings.proofs.Fronts.{exactly, the_end, at_token, at_end, refused_at, refuses_all, all_refused}
use Rattle.ecma_print_readings.proofs.Towers.{excluded, skipped, refuses_choices}
use Rattle.ecma_print_readings.proofs.Heads.{kind-node}
use Rattle.ecma_print_readings.proofs.Forms.{Reads, Refuses}
use Rattle.ecma_print_readings.proofs.Repeats.{Repeats, repeats_end, repeats_more, repeated}
use Rattle.ecma_print_readings.proofs.Statements.{item_read, closes_any}
use Rattle.ecma_print_reread.proofs.Imports.{import_alone_read, import_bindings_read}
use Rattle.ecma_print_readings.proofs.Blocks.{Closing}
use Rattle.ecma_print_reread.proofs.StatementForms.{statement_form}
use Rattle.ecma_print_reread.proofs.ModuleAssignments.{import_require_read, export_assignment_read}
use Rattle.ecma_print_reread.proofs.Exports.{export_bindings_read, export_bindings_from_read, export_namespace_read, export_all_read, export_declaration_read}
use Rattle.ecma_print_reread.proofs.DefaultExports.{export_default_read, export_default_function_read, export_default_class_read}

-- no statement stands at the end of a text

no_item_there : refuses_choices 3 the_end module_item ≡ true
unfolding module_item modules.import modules.import_equals modules.export modules.export_default
no_item_there = refl

no_statement_there : refuses_choices 12 the_end statement_body ≡ true
unfolding statement_body names.block statements.if_ statements.for_await statements.for_ statements.while_ statements.do_while statements.switch statements.try_ statements.jump statements.labeled declarations.declaration functions.function_declaration classes.class_declaration
no_statement_there = refl

no_expression_there : refuses_all the_end (assign_in false) ≡ true
unfolding functions.arrow functions.arrow_rest names.binding_ident expressions.conditional operators.short_circuit operators.bit_or operators.bit_xor operators.bit_and operators.equality operators.relation operators.shift operators.exponentiation operators.prefixed operators.update chains.chain chains.super_of_link chains.import_meta chains.import_call chains.construction primaries.primary functions.function_expression primaries.class_expression primaries.template primaries.array primaries.object primaries.parenthesized
no_expression_there = refl

module_made : (xs : List Node) → made form.Module 0 0 (absent ∷ list_node xs ∷ []) ≡ bare (kind.Module None) (list_node xs ∷ [])
module_made xs = ap (λ k. bare (kind.Module (text_of k)) (list_node xs ∷ [])) (kind-node _ kind.Absent [])

pub hashbang_made : (text : List ℕ) (xs : List Node) → made form.Module 0 0 (bare (kind.IdentName text) [] ∷ list_node xs ∷ []) ≡ bare (kind.Module (Some text)) (list_node xs ∷ [])
hashbang_made text xs = ap (λ k. bare (kind.Module (text_of k)) (list_node xs ∷ [])) (kind-node _ (kind.IdentName text) [])

-- what stands behind a hashbang
abbrev pub module_rest : Grammar
module_rest = grammar.list (grammar.many module_item) ▸ a token.EndOfText

-- the gap before the end
abbrev last_gap : {assignments : Bool} {ns : List Node} → AreModuleItems assignments ns → Gap → Gap
last_gap shapes.no_items g = g
last_gap (shapes.more_items i is) g = last_gap is line

module _ (assigned : Bool) where
  no_statement_at_end : (g : Gap) → Refuses assigned expression_statement (ends g)
  unfolding expression_statement expression
  no_statement_at_end g =
      ap (built_on (form.Node plain.ExprStmt)) (ap (followed_on (interp assigned (means assigned) (expression false ▸ end))) (ap (unless_on (ends g)) (refused_at assigned (means assigned) (punct (codes "{") // excluded) the_end (ends g) at_end refl))
      ∙ ap (with_front []) (ap (followed_on (interp assigned (means assigned) end)) (ap (built_on form.Sequence) (ap (followed_on (interp assigned (means assigned) (grammar.many (punct (codes ",") ▸ assign_in false)))) (all_refused assigned (assign_in false) the_end (ends g) at_end no_expression_there)))))

  no_item_at_end : (g : Gap) → Refuses assigned module_item (ends g)
  unfolding module_item statement_body
  no_item_at_end g =
      skipped assigned (means assigned) 3 module_item the_end (ends g) at_end no_item_there
      ∙ (means_is assigned part.Statement (ends g) ∙ (skipped assigned (means assigned) 12 statement_body the_end (ends g) at_end no_statement_there ∙ no_statement_at_end g))

  item_closing : {n : Node} (is : IsModuleItem assigned n) (us : Items) → Closing (item_tokens is line us)
  item_closing (shapes.statement s) us = let S = statement_form assigned s 0 in record { front = S.front; begins = S.begins line us; closes = S.closes }
  item_closing (shapes.import_alone at at' s w) us = record { front = exactly (items.key (codes "import")); begins = at_token; closes = refl }
  item_closing (shapes.import_bindings at at' c s w) us = record { front = exactly (items.key (codes "import")); begins = at_token; closes = refl }
  item_closing (shapes.export_bindings at at' c n n') us = record { front = exactly (items.key (codes "export")); begins = at_token; closes = refl }
  item_closing (shapes.export_bindings_from at at' c s w) us = record { front = exactly (items.key (codes "export")); begins = at_token; closes = refl }
  item_closing (shapes.export_namespace at at' of x s w) us = record { front = exactly (items.key (codes "export")); begins = at_token; closes = refl }
  item_closing (shapes.export_all at s w) us = record { front = exactly (items.key (codes "export")); begins = at_token; closes = refl }
  item_closing (shapes.export_declaration at is d) us = record { front = exactly (items.key (codes "export")); begins = at_token; closes = refl }
  item_closing (shapes.export_default at e z) us = record { front = exactly (items.key (codes "export")); begins = at_token; closes = refl }
  item_closing (shapes.export_default_function at at' i f) us = record { front = exactly (items.key (codes "export")); begins = at_token; closes = refl }
  item_closing (shapes.export_default_class at at' i c) us = record { front = exactly (items.key (codes "export")); begins = at_token; closes = refl }
  item_closing (shapes.import_require z at of true i s) us = record { front = exactly (items.key (codes "export")); begins = at_token; closes = refl }
  item_closing (shapes.import_require z at of false i s) us = record { front = exactly (items.key (codes "import")); begins = at_token; closes = refl }
  item_closing (shapes.export_assignment z at e) us = record { front = exactly (items.key (codes "export")); begins = at_token; closes = refl }

  items_closing : {ns : List Node} (is : AreModuleItems assigned ns) → Closing (items_tokens is line)
  items_closing shapes.no_items = record { front = the_end; begins = at_end; closes = refl }
  items_closing (shapes.more_items i is) = item_closing i (items_tokens is line)

  module_item_read : {n : Node} (is : IsModuleItem assigned n) (g : Gap) (us : Items) → Closing us → Reads assigned module_item (item_tokens is g us) (bare_item is ∷ []) us
  unfolding module_item
  module_item_read (shapes.statement {ending = ending} s) g us c = item_read assigned (statement_form assigned s 0) g us c.front c.begins (closes_any ending c.front c.closes)
  module_item_read (shapes.import_alone at at' s w) g us c =
      ap (or_on (interp assigned (means assigned) (without 1 module_item)) (it g (items.key (codes "import")) (source_tokens s w (sign_of (codes ";") us)))) (import_alone_read assigned s w g us)
  module_item_read (shapes.import_bindings at at' c s w) g us z =
      ap (or_on (interp assigned (means assigned) (without 1 module_item)) (it g (items.key (codes "import")) (import_clause_tokens c (from_tokens s w (sign_of (codes ";") us))))) (import_bindings_read assigned c s w g us)
  module_item_read (shapes.export_bindings at at' c n n') g us z = export_bindings_read assigned c g us
  module_item_read (shapes.export_bindings_from at at' c s w) g us z = export_bindings_from_read assigned c s w g us
  module_item_read (shapes.export_namespace at at' of x s w) g us z = export_namespace_read assigned x s w g us
  module_item_read (shapes.export_all at s w) g us z = export_all_read assigned s w g us
  module_item_read (shapes.export_declaration at is d) g us z = export_declaration_read assigned is d g us
  module_item_read (shapes.export_default at e s) g us z = export_default_read assigned e s g us
  module_item_read (shapes.export_default_function at at' i f) g us z = export_default_function_read assigned i f g us
  module_item_read (shapes.export_default_class at at' i c) g us z = export_default_class_read assigned i c g us
  module_item_read (shapes.import_require z at of is_export i s) g us c = import_require_read assigned z is_export i s g us
  module_item_read (shapes.export_assignment z at e) g us c = export_assignment_read assigned z e g us

  items_read : {ns : List Node} (is : AreModuleItems assigned ns) (g : Gap) → Repeats assigned module_item (items_tokens is g) (bare_items is) (ends (last_gap is g))
  items_read shapes.no_items g = repeats_end assigned module_item (ends g) (no_item_at_end g)
  items_read (shapes.more_items i is) g =
      repeats_more assigned module_item item_eats (item_tokens i g (items_tokens is line)) (items_tokens is line) (ends (last_gap is line)) (bare_item i ∷ []) (bare_items is) (module_item_read i g (items_tokens is line) (items_closing is)) (items_read is line)

  pub rest_read : {ns : List Node} (is : AreModuleItems assigned ns) (g : Gap) → Reads assigned module_rest (items_tokens is g) (list_node (bare_items is) ∷ []) (ends no_gap)
  rest_read is g =
      ap (followed_on (interp assigned (means assigned) (a token.EndOfText))) (ap (built_on form.List) (repeated assigned module_item (items_tokens is g) (ends (last_gap is g)) (bare_items is) (items_read is g)))

  -- without a hashbang
  pub module_read : {ns : List Node} (is : AreModuleItems assigned ns) (g : Gap) → Reads assigned module_body (items_tokens is g) (bare (kind.Module None) (list_node (bare_items is) ∷ []) ∷ []) (ends no_gap)
  unfolding module_body
  module_read is g = ap (built_on form.Module) (ap (with_front (absent ∷ [])) (rest_read is g)) ∙ ap (λ x. read (x ∷ []) (ends no_gap)) (module_made (bare_items is))
