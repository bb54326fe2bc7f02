-- Each statement has its shape, by its kind.
use Rattle.std.proofs.Common.{◌≡◌, refl, subst, true, false, List}
use Rattle.std.proofs.lemmas.Bool.{false≢true}
use Rattle.ecma_kind.specs.Sorts.{is_stmt}
use Rattle.ecma_kind.specs.declared.span.Span.{Span}
use Rattle.ecma_kind.specs.declared.kind.Kind.{Kind}
use Rattle.ecma_kind.specs.declared.kind.Kind.TheVariants as kind
use Rattle.ecma_kind.specs.declared.shapes.Shape.{Shape}
use Rattle.ecma_tree.specs.declared.node.Node.{Node}
use Rattle.ecma_tree.specs.Nodes.{node_of}
use Rattle.ecma_rules.specs.declared.target.Target.TheVariants as target
use Rattle.ecma_fits.specs.declared.role.Role.TheVariants as role
use Rattle.ecma_print.specs.Places.{free}
use Rattle.ecma_shapes.specs.Shapes.{IsBlock, block}
use Rattle.ecma_print_shapes.proofs.Blocks.{block_here}
use Rattle.ecma_print_shapes.proofs.Cases.{switch_formed, try_formed}
use Rattle.ecma_print_shapes.proofs.Claims.{AllFormed, Stated}
use Rattle.ecma_print_shapes.proofs.Covered.{covered}
use Rattle.ecma_print_shapes.proofs.Declarators.{variables_statement}
use Rattle.ecma_print_shapes.proofs.LoopHeads.{for_in_statement, for_of_statement, for_statement}
use Rattle.ecma_print_shapes.proofs.Nested.{do_statement, if_statement, labeled_statement, while_statement}
use Rattle.ecma_print_shapes.proofs.Simple.{break_statement, class_declared, continue_statement, debugger_statement, empty_statement, expression_statement, function_declared, return_statement, throw_statement}
use Rattle.ecma_print_shapes.proofs.Sound.{Here}
use Rattle.ecma_print_shapes.proofs.Stated.{made_closed, stated}

module _ {shape : Shape} (at : Span) where
  pub statement_formed : (k : Kind) (cs : List Node) → AllFormed cs → Here role.Free (free 0) shape at k cs → is_stmt k ≡ true → Stated (node_of at k cs)
  statement_formed kind.BlockStmt cs f h is = stated at kind.BlockStmt cs refl (made_closed false (block (subst IsBlock (covered at kind.BlockStmt cs target.Free refl) (block_here at cs f h))))
  statement_formed kind.EmptyStmt cs f h is = empty_statement at cs h
  statement_formed kind.DebuggerStmt cs f h is = debugger_statement at cs h
  statement_formed kind.ReturnStmt cs f h is = return_statement at cs f h
  statement_formed kind.LabeledStmt cs f h is = labeled_statement at cs f h
  statement_formed kind.BreakStmt cs f h is = break_statement at cs f h
  statement_formed kind.ContinueStmt cs f h is = continue_statement at cs f h
  statement_formed kind.IfStmt cs f h is = if_statement at cs f h
  statement_formed kind.SwitchStmt cs f h is = switch_formed at cs f h
  statement_formed kind.ThrowStmt cs f h is = throw_statement at cs f h
  statement_formed kind.TryStmt cs f h is = try_formed at cs f h
  statement_formed kind.WhileStmt cs f h is = while_statement at cs f h
  statement_formed kind.DoWhileStmt cs f h is = do_statement at cs f h
  statement_formed kind.ForStmt cs f h is = for_statement at cs f h
  statement_formed kind.ForInStmt cs f h is = for_in_statement at cs f h
  statement_formed (kind.ForOfStmt is_await) cs f h is = for_of_statement at is_await cs f h
  statement_formed kind.ExprStmt cs f h is = expression_statement at cs f h
  statement_formed (kind.FnDecl declare) cs f h is = function_declared at declare cs f h
  statement_formed (kind.ClassDecl declare) cs f h is = class_declared at declare cs f h
  statement_formed (kind.VarDecl k declare) cs f h is = variables_statement at k declare cs f h
  statement_formed (kind.TsInterfaceDecl declare) cs f h is = absurd (false≢true h.bare.1)
  statement_formed (kind.TsTypeAliasDecl declare) cs f h is = absurd (false≢true h.bare.1)
  statement_formed (kind.TsEnumDecl declare is_const) cs f h is = absurd (false≢true h.bare.1)
  statement_formed (kind.TsModuleDecl declare global) cs f h is = absurd (false≢true h.bare.1)
  statement_formed k cs f h is = absurd (false≢true is)
