-- Contexts in which nothing is known of enums, and what runs there as in others.
use Rattle.std.proofs.Common.{sym, subst}
use Rattle.ecma_tree.specs.declared.node.Node.{Node}
use Rattle.ecma_runs.specs.Values.{Value}
use Rattle.ecma_runs.specs.Run.{Run}
use Rattle.ecma_runs.specs.Enums.{no_enums}
use Rattle.ecma_runs.specs.Meaning.{ExecutionContext}
use Rattle.ecma_runs.specs.Evaluation.{meaning}
use Rattle.ecma_run_enums.specs.Laws.{MeansTheSame}
use Rattle.ecma_run_enums.proofs.Laws.{unasked_facts_do_not_matter, nothing_is_asked_of_no_enums}
use Rattle.ecma_judge_runs.specs.Called.{AsksNoEnums}

-- a context, as it is where nothing is known of enums
abbrev pub lone : ExecutionContext → ExecutionContext
lone x = record x { known = record { declared = x.known.declared; enums = no_enums x.known.enums.may_change } }

-- what asks nothing of them means the same there
pub same_alone : (x : ExecutionContext) (n : Node) → AsksNoEnums x n → MeansTheSame x.known.enums (no_enums x.known.enums.may_change) (meaning n)
same_alone x n none = unasked_facts_do_not_matter x.known.enums (no_enums x.known.enums.may_change) n none (nothing_is_asked_of_no_enums x.known.enums.may_change n)

pub to_lone : (x : ExecutionContext) (n : Node) → AsksNoEnums x n → (P : Run Value → Type 0) → P ((meaning n).value x) → P ((meaning n).value (lone x))
to_lone x n none P h = subst P ((same_alone x n none).value x) h

pub from_lone : (x : ExecutionContext) (n : Node) → AsksNoEnums x n → (P : Run Value → Type 0) → P ((meaning n).value (lone x)) → P ((meaning n).value x)
from_lone x n none P h = subst P (sym ((same_alone x n none).value x)) h
