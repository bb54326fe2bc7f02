use Rattle.std.proofs.Common.{drop, rules}
use Rattle.ecma_forest.proofs.Places.{either-extends, front-stays}
use Rattle.ecma_forest.proofs.samples.SampleRuleRule.apply.Goals as goal

pub returns-in_default : goal.returns-in_default
returns-in_default c = record {
  more = either-extends c.wrap_same.result c.args.forest.now c.wrap_same.new.self (drop c.args.start c.args.forest.now.roots) c.wrap_same.ensures.below c.wrap_same.ensures.err;
  ok = search rules;
  err = front-stays c.wrap_same.result c.args.forest.now c.wrap_same.new.self c.args.start c.wrap_same.ensures.err;
}
