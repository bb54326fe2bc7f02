-- The law.
use Rattle.std.proofs.Common.{subst}
use Rattle.ecma_run_constructions.specs.Laws.{ConstructionsGiveObjects}
use Rattle.ecma_run_constructions.proofs.Keeping.{IsObject, Gave}
use Rattle.ecma_run_constructions.proofs.Calls.{calls_invoke, invoke_gives}

pub constructions_give_objects : ConstructionsGiveObjects
constructions_give_objects = record {
  in_module = λ provided known place new_target vs s t v is. subst (Gave IsObject) is ((invoke_gives provided known place new_target vs).at s);
  deeper = λ provided known depth place new_target vs s t v is. subst (Gave IsObject) is (((calls_invoke provided known depth).gives place new_target vs).at s);
}
