-- Statements that have the shape, and their text.
use Rattle.std.proofs.Common.{map, ◌≡◌, false, [], ◌∷◌, refl, ◌∙◌, codes}
use Rattle.ecma_kind.specs.declared.kind.Kind.TheVariants as kind
use Rattle.ecma_kind.specs.declared.operators.AssignOp.TheVariants.{Assign}
use Rattle.ecma_kind.specs.declared.operators.VarDeclKind.TheVariants.{Let}
use Rattle.ecma_tree.specs.declared.node.Node.{Node}
use Rattle.ecma_tree.specs.Nodes.{node_of}
use Rattle.ecma_print.specs.Layout.{layout}
use Rattle.ecma_print_tokens.specs.Items.{render}
use Rattle.ecma_shapes.specs.Shapes.{callee, assignment, IsExpression, ident, absent, name, name_pattern, initializer, left_out, given, declarator, no_declarators, init_declaration, init_expression, sequence_expression, assignment_expression, no_expressions, for_target, empty, debugger_word, throw, return_nothing, break_label, block, block_of, if_only, if_else, while_loop, do_loop, for_loop, for_of, switch_statement, case_of, default_of, no_cases, more_cases, try_catch_finally, catch_pattern, labeled, no_statements, more_statements}
use Rattle.ecma_shapes.specs.Heads.{any_of, may_hold_in}
use Rattle.ecma_shapes.specs.Modules.{IsModule, module_of, statement, no_items, more_items}
use Rattle.ecma_shapes.proofs.ModuleTokens.{module_tokens}
use Rattle.ecma_print_layouts.proofs.ModuleLayouts.{module_laid}
use Rattle.ecma_shapes.proofs.Heads.{may_hold_node}
use Rattle.ecma_print_reread.proofs.Samples.{at, a_name, a, out}

target : IsExpression callee a
target = out 2 (name (ident at (codes "a") a_name))

value : IsExpression assignment a
value = out 18 (name (ident at (codes "a") a_name))

abbrev pair : Node
pair = node_of at kind.SeqExpr (node_of at (kind.AssignExpr Assign) (a ∷ a ∷ []) ∷ a ∷ [])

pair_holds_none : may_hold_in pair ≡ false
pair_holds_none = may_hold_node at kind.SeqExpr _ ∙ (rw (may_hold_node at (kind.AssignExpr Assign) (a ∷ a ∷ []), may_hold_node at (kind.Ident (codes "a") 0 false) []) refl)

abbrev binding : Node
binding = node_of at kind.BindingIdent (a ∷ node_of at kind.Absent [] ∷ [])

declarator_holds_none : any_of (map may_hold_in (node_of at (kind.VarDeclarator false) (binding ∷ a ∷ []) ∷ [])) ≡ false
declarator_holds_none = rw (may_hold_node at (kind.VarDeclarator false) (binding ∷ a ∷ []), may_hold_node at kind.BindingIdent (a ∷ node_of at kind.Absent [] ∷ []), may_hold_node at (kind.Ident (codes "a") 0 false) []) refl

abbrev sample : (n : Node) × IsModule false n
sample =
    let id = ident at (codes "a") a_name in
    let none = absent at in
    let choice =
    if_else at value (block (block_of at at (more_statements (break_label at id) no_statements))) (if_else at value (throw at value) (while_loop at value (block (block_of at at no_statements)))) in
    let cases = switch_statement at at value (more_cases (case_of at at value (more_statements (return_nothing at none) no_statements)) (more_cases (default_of at at none no_statements) no_cases)) in
    let each = for_loop at (init_declaration at at Let (declarator at (name_pattern at id none) (initializer value)) no_declarators declarator_holds_none) (given value) (left_out none) (for_loop at (init_expression (sequence_expression at (assignment_expression at Assign target value) value no_expressions) pair_holds_none) (left_out none) (left_out none) (block (block_of at at (more_statements choice (more_statements cases no_statements))))) in
    let turns = block_of at at (more_statements (for_of at false (for_target target (may_hold_node at _ [])) value (debugger_word at)) no_statements) in
    let last = block_of at at (more_statements (do_loop at value (empty at)) no_statements) in (
      _,
      module_of at at
          (more_items (statement (labeled at id each))
          (more_items (statement (try_catch_finally at turns (catch_pattern at (name_pattern at id none) (block_of at at no_statements)) last))
          (more_items (statement (if_only at value (debugger_word at) none)) no_items))),
    )

text : render (module_tokens sample.1) ≡ codes "a: for (let a = a; a;) for (a = a, a;;) {\n    if (a) {\n        break a;\n    } else if (a) throw a;\n    else while (a) {}\n    switch (a) {\n        case a:\n            return;\n        default:\n    }\n}\ntry {\n    for (a of a) debugger;\n} catch (a) {} finally {\n    do ;\n    while (a);\n}\nif (a) debugger;\n"
unfolding render target value
text = refl

laid : layout sample.0 ≡ codes "a: for (let a = a; a;) for (a = a, a;;) {\n    if (a) {\n        break a;\n    } else if (a) throw a;\n    else while (a) {}\n    switch (a) {\n        case a:\n            return;\n        default:\n    }\n}\ntry {\n    for (a of a) debugger;\n} catch (a) {} finally {\n    do ;\n    while (a);\n}\nif (a) debugger;\n"
laid = module_laid sample.1 ∙ text
