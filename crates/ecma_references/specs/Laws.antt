-- Laws of expressions in the places of names.
use Rattle.std.specs.Prelude.{◌≡◌, true, false, None, IfSome}
use Rattle.ecma_kind.specs.declared.ident.Ident.{Ident}
use Rattle.ecma_kind.specs.declared.shapes.Sort.TheVariants as sort
use Rattle.ecma_tree.specs.Sorted.{HasSort}
use Rattle.ecma_tree.specs.declared.node.Node.{Node, out-Node}
use Rattle.ecma_references.specs.declared.seat.Seat.{Seat}
use Rattle.ecma_references.specs.declared.seat.Seat.TheVariants as seat
use Rattle.ecma_references.specs.Answers.{Answers, is_member}
use Rattle.ecma_references.specs.References.{answered}

-- a query that answers nothing
abbrev pub no_answers : Answers
no_answers = record { read = λ name. None; target = λ name. None; fixes_this = λ name. false }

-- it changes nothing
abbrev pub WithoutAnswersNothingChanges : Type 0
WithoutAnswersNothingChanges = (s : Seat) (tree : Node) → answered no_answers s tree ≡ tree

-- what stands for names are expressions, and members where they are written to
pub record AreReferences (answers : Answers) : Type 0 where
  pub read : (name : Ident) → IfSome (answers.read name) (HasSort sort.Expr)
  pub target : (name : Ident) → IfSome (answers.target name) (HasSort sort.Expr)
  pub member : (name : Ident) → IfSome (answers.target name) (λ e. is_member (out-Node e).kind ≡ true)

-- then modules, statements, expressions and patterns stay what they are by their sorts
pub record KeepsSorts (answers : Answers) : Type 0 where
  pub modules : (tree : Node) → HasSort sort.Module tree → HasSort sort.Module (answered answers seat.Other tree)
  pub statements : (tree : Node) → HasSort sort.Stmt tree → HasSort sort.Stmt (answered answers seat.Other tree)
  pub expressions : (tree : Node) → HasSort sort.Expr tree → HasSort sort.Expr (answered answers seat.Read tree)
  pub patterns : (tree : Node) → HasSort sort.Pat tree → HasSort sort.Pat (answered answers seat.Target tree)

abbrev pub AnsweredTreesKeepTheirSorts : Type 0
AnsweredTreesKeepTheirSorts = (answers : Answers) → AreReferences answers → KeepsSorts answers
