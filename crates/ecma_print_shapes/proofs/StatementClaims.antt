-- What is shown of statements and classes, of one node and from its children.
use Rattle.std.proofs.Common.{◌≡◌, sym, subst, true, false, List}
use Rattle.ecma_kind.specs.Sorts.{is_stmt}
use Rattle.ecma_kind.specs.declared.span.Span.{Span}
use Rattle.ecma_kind.specs.declared.kind.Kind.{Kind}
use Rattle.ecma_kind.specs.declared.kind.Kind.TheVariants as kind
use Rattle.ecma_kind.specs.declared.shapes.Shape.{Shape}
use Rattle.ecma_kind.specs.declared.shapes.Sort.TheVariants as sort
use Rattle.ecma_tree.specs.declared.node.Node.{Node, out-Node}
use Rattle.ecma_tree.specs.Nodes.{node_of}
use Rattle.ecma_tree.specs.Sorted.{many, maybe, one}
use Rattle.ecma_rules.specs.declared.target.Target.TheVariants as target
use Rattle.ecma_rules.specs.Children.{kind_of}
use Rattle.ecma_rules.specs.Lists.{is_wrong_head}
use Rattle.ecma_covers.specs.Covering.{cover_at}
use Rattle.ecma_fits.specs.Counts.{is_empty}
use Rattle.ecma_fits.specs.declared.role.Role.TheVariants as role
use Rattle.ecma_fits.specs.Roles.{is_bound_name, is_pattern}
use Rattle.ecma_print.specs.declared.place.Beside.TheVariants as beside
use Rattle.ecma_print.specs.declared.place.Spot.{Spot}
use Rattle.ecma_print.specs.Places.{free, right}
use Rattle.ecma_print_heads.specs.Laws.{CoversHoldNoBareIn, HeadsHoldNoBareIn}
use Rattle.ecma_shapes.specs.Shapes.{AreCases, AreMembers, AreStatements, IsBlock, IsCase, IsCatch, IsClass, IsExpression, IsForInit, IsForLeft, IsMember, new_callee}
use Rattle.ecma_print_shapes.proofs.Blocks.{block_formed, statements_formed}
use Rattle.ecma_print_shapes.proofs.Cases.{case_formed, cases_formed, catch_formed}
use Rattle.ecma_print_shapes.proofs.Claims.{AllFormed, BoundName, Declares, DeclaresAll, FormedExpression, ListOf, Stated}
use Rattle.ecma_print_shapes.proofs.ClassMembers.{member_formed}
use Rattle.ecma_print_shapes.proofs.Classes.{class_formed, members_formed}
use Rattle.ecma_print_shapes.proofs.Declarators.{declarator_formed, declarators_formed}
use Rattle.ecma_print_shapes.proofs.LoopHeads.{for_init_formed, for_left_formed, head_spot}
use Rattle.ecma_print_shapes.proofs.Sound.{Sound, children_made, here, kind_made}
use Rattle.ecma_print_shapes.proofs.Statements.{statement_formed}

module _ (at : Span) (k : Kind) (cs : List Node) (f : AllFormed cs) where
  abbrev own : Node
  own = node_of at k cs

  children : AllFormed (out-Node own).children
  children = subst AllFormed (sym (children_made at k cs)) f

  pub its_block : (spot : Spot) (shape : Shape) → Sound role.Free spot shape own → kind_of own ≡ kind.BlockStmt → IsBlock (cover_at own target.Free)
  its_block spot shape s is = block_formed own children spot shape s is

  pub its_statement : (shape : Shape) → Sound role.Free (free 0) shape own → is_stmt (kind_of own) ≡ true → Stated own
  its_statement shape s is = statement_formed at k cs f (here role.Free (free 0) shape at k cs s) (subst (λ z. is_stmt z ≡ true) (kind_made at k cs) is)

  pub its_statements : Sound role.Free (free 0) (many sort.Stmt) own → ListOf AreStatements own
  its_statements s = statements_formed own children s

  pub its_case : Sound role.Free (free 0) (one sort.SwitchCase) own → IsCase (cover_at own target.Free)
  its_case s = case_formed at k cs f (here role.Free (free 0) (one sort.SwitchCase) at k cs s)

  pub its_cases : Sound role.Free (free 0) (many sort.SwitchCase) own → ListOf AreCases own
  its_cases s = cases_formed own children s

  pub its_catch : Sound role.Free (free 0) (one sort.CatchClause) own → IsCatch (cover_at own target.Free)
  its_catch s = catch_formed at k cs f (here role.Free (free 0) (one sort.CatchClause) at k cs s)

  pub its_class : Sound role.Free (free 1) (one sort.Class) own → IsClass (cover_at own target.Free)
  its_class s = class_formed at k cs f (here role.Free (free 1) (one sort.Class) at k cs s)

  pub its_member : Sound role.Free (free 0) (one sort.ClassMember) own → IsMember (cover_at own target.Free)
  its_member s = member_formed at k cs f (here role.Free (free 0) (one sort.ClassMember) at k cs s)

  pub its_members : Sound role.Free (free 0) (many sort.ClassMember) own → ListOf AreMembers own
  its_members s = members_formed own children s

  pub its_declarators : (spot : Spot) → Sound role.Free (right spot 1 beside.NoNeighbor) (many sort.VarDeclarator) own → is_empty (out-Node own).children ≡ false → DeclaresAll spot own
  its_declarators spot s e = declarators_formed spot own children s e

  -- with the laws of heads
  module _ (heads : HeadsHoldNoBareIn) (covers : CoversHoldNoBareIn) where
    pub its_declarator : (spot : Spot) → Sound role.Free (right spot 1 beside.NoNeighbor) (one sort.VarDeclarator) own → Declares spot own
    its_declarator spot s = declarator_formed heads covers at k cs f spot (here role.Free (right spot 1 beside.NoNeighbor) (one sort.VarDeclarator) at k cs s)

    module _ (expression : FormedExpression own) where
      pub its_for_init : Sound role.Free head_spot (maybe sort.VarDeclOrExpr) own → IsForInit (cover_at own target.Free)
      its_for_init s = for_init_formed heads covers own children expression s

      pub its_for_left : (Sound role.Head head_spot (one sort.ForHead) own → is_bound_name (kind_of own) ≡ true → BoundName own)
          → (Sound role.Head head_spot (one sort.ForHead) own → is_pattern (kind_of own) ≡ true → IsExpression new_callee (cover_at own target.Head))
          → Sound role.Head head_spot (one sort.ForHead) own → is_wrong_head target.Head own ≡ false → IsForLeft (cover_at own target.Head)
      its_for_left bound literal s w = for_left_formed heads covers own children expression bound literal s w
