-- What is judged of a node, from the leaves of the tree up.
use Rattle.std.specs.Prelude.{List, map}
use Rattle.ecma_tree.specs.Layers.{from_leaves}
use Rattle.ecma_tree.specs.declared.node.Node.{Node, out-Node}
use Rattle.ecma_judge.specs.declared.ctx.ExprCtx.{ExprCtx}
use Rattle.ecma_judge.specs.Effects.{has_effects}
use Rattle.ecma_judge.specs.Judgement.{Judged, purity_of}
use Rattle.ecma_judge.specs.Numbers.{number_by}
use Rattle.ecma_judge.specs.PureCallees.{is_pure_callee}
use Rattle.ecma_judge.specs.Texts.{element_by, text_by}
use Rattle.ecma_judge.specs.Truths.{truth_by}
use Rattle.ecma_judge.specs.Types.{type_by}

-- by what is judged of its children
abbrev pub judged_by : ExprCtx → Node → List Judged → Judged
judged_by ctx n kids =
    let kind = (out-Node n).kind in
    let effects = has_effects ctx n kids in
    let own = purity_of effects in
    let text = text_by ctx own kind kids in
    record {
      effects = effects;
      pure_callee = is_pure_callee ctx n;
      truth = truth_by ctx own kind n kids;
      number = number_by ctx own kind n kids;
      text = text;
      element = element_by ctx own kind text;
      type = type_by ctx kind n kids;
    }

unfoldable pub judged : ExprCtx → Node → Judged
judged ctx = from_leaves Judged (judged_by ctx)

abbrev pub kids_of : ExprCtx → Node → List Judged
kids_of ctx n = map (judged ctx) (out-Node n).children
