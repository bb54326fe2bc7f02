-- What is asked of the names of an expression.
use Rattle.std.specs.Prelude.{Bool, true, not, ◌&&◌, List, ◌∷◌}
use Rattle.std.specs.List.{list_all}
use Rattle.ecma_kind.specs.declared.kind.Kind.{Kind}
use Rattle.ecma_kind.specs.declared.kind.Kind.TheVariants as kind
use Rattle.ecma_tree.specs.declared.node.Node.{Node, Node-F, fold-Node}
use Rattle.ecma_judge.specs.declared.ctx.ExprCtx.{ExprCtx}
use Rattle.ecma_runs.specs.State.{Id}
use Rattle.ecma_judge_runs.specs.Called.{is_loose}
use Rattle.ecma_judge_runs.specs.Taken.{is_told}

pub record Names : Type 0 where
  -- each is declared by the module or has the context of what is not resolved, and inner names of class expressions have contexts of their own
  pub told : Bool
  -- each has a context of its own
  pub named : Bool

module _ (ctx : ExprCtx) (declared : List Id) where
  -- nothing is asked of functions and static blocks
  abbrev pub told_by : Kind → List Names → Bool
  told_by (kind.Ident sym ctxt optional) children = is_told ctx declared sym ctxt
  told_by kind.FnExpr children = true
  told_by (kind.ArrowExpr is_async is_generator) children = true
  told_by (kind.Function is_generator is_async) children = true
  told_by (kind.Constructor accessibility is_optional) children = true
  told_by kind.StaticBlock children = true
  told_by kind.GetterProp (key ∷ rest) = key.told
  told_by kind.SetterProp (key ∷ rest) = key.told
  told_by kind.ClassExpr (name ∷ class ∷ rest) = name.told && (class.told && name.named)
  told_by k children = list_all (λ (n : Names). n.told) children

  abbrev pub named_names_by : Kind → List Names → Bool
  named_names_by (kind.Ident sym ctxt optional) children = not (is_loose ctx ctxt)
  named_names_by k children = list_all (λ (n : Names). n.named) children

  abbrev pub names_step : Node-F Names → Names
  names_step parts = record { told = told_by parts.kind parts.children; named = named_names_by parts.kind parts.children }

  abbrev pub names : Node → Names
  names = fold-Node Names names_step

  abbrev pub are_told : Node → Bool
  are_told n = (names n).told
