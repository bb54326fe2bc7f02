-- What may be changed of a module so that it does what it does.
use Rattle.std.specs.Prelude.{◌≡◌, ℕ, Bool, true, List, not, Option, ◌++◌, ◌≢◌}
use Rattle.std.specs.List.{list_all}
use Rattle.ecma_tree.specs.declared.node.Node.{Node}
use Rattle.ecma_config.specs.declared.config.Config.{Config}
use Rattle.ecma_runs.specs.declared.script.Script.{Script}
use Rattle.ecma_runs.specs.Enums.{lacks_enums}
use Rattle.ecma_runs.specs.Evaluation.{meaning}
use Rattle.ecma_runs.specs.Exports.{local_ids}
use Rattle.ecma_runs.specs.Observation.{exports_in, observe}
use Rattle.ecma_kind.specs.declared.span.Span.{Span}
use Rattle.ecma_runs.specs.State.{Id, default_name}
use Rattle.ecma_runs.specs.Names.{ids_pass}
use Rattle.ecma_runs.specs.declared.observation.Ending.TheVariants as ending
use Rattle.ecma_run_laws.specs.Lessened.{statement_goes, without, module_of}
use Rattle.ecma_run_laws.specs.Exchanged.{KeepsMeanings, ReadsAlike, exchanged, RefersAlike, exchanged_references}
use Rattle.ecma_run_laws.specs.Lowered.{lowered}

-- a tree without enums runs as its image without enums does, by a map that keeps what nodes mean
abbrev pub EqualPartsMayStandForEachOther : Type 0
EqualPartsMayStandForEachOther =
    (test : Node → Bool) (f : Node → Node) → KeepsMeanings test f →
    (turns : ℕ) (options : Config) (m : Node) (script : Script) → test m ≡ true → lacks_enums m ≡ true → lacks_enums (f m) ≡ true → observe turns options (f m) script ≡ observe turns options m script

-- expressions may be exchanged for others that are read alike
abbrev pub EqualExpressionsMayStandForEachOther : Type 0
EqualExpressionsMayStandForEachOther =
    (swap : Node → Node) → ((n : Node) → ReadsAlike (meaning n) (meaning (swap n))) →
    (turns : ℕ) (options : Config) (m : Node) (script : Script) → lacks_enums m ≡ true → lacks_enums (exchanged swap m) ≡ true → observe turns options (exchanged swap m) script ≡ observe turns options m script

-- expressions may be exchanged for others that refer to the same
abbrev pub EqualReferencesMayStandForEachOther : Type 0
EqualReferencesMayStandForEachOther =
    (swap : Node → Node) → ((n : Node) → RefersAlike (meaning n) (meaning (swap n))) →
    (turns : ℕ) (options : Config) (m : Node) (script : Script) → lacks_enums m ≡ true → lacks_enums (exchanged_references swap m) ≡ true → observe turns options (exchanged_references swap m) script ≡ observe turns options m script

-- declarations of names that no identifier of what is left has, and that are not exported, may go, and come
abbrev pub UnusedNamesDoNotMatter : Type 0
UnusedNamesDoNotMatter =
    (gone : Id → Bool) (turns : ℕ) (options : Config) (m : Node) (script : Script) → lacks_enums m ≡ true → not (gone default_name) ≡ true → list_all (λ id. not (gone id)) (local_ids (exports_in m)) ≡ true →
    ids_pass (λ id. not (gone id)) (without gone m) ≡ true →
    observe turns options (without gone m) script ≡ observe turns options m script

-- what has no name that is to go stays as it is
abbrev pub WhatIsUsedStays : Type 0
WhatIsUsedStays = (gone : Id → Bool) (m : Node) → ids_pass (λ id. not (gone id)) m ≡ true → without gone m ≡ m

-- declarations that do nothing, of names that no identifier of a module has, may come to its head
abbrev pub NewNamesMayBeDeclared : Type 0
NewNamesMayBeDeclared =
    (gone : Id → Bool) (turns : ℕ) (options : Config) (script : Script) (span place : Span) (shebang : Option (List ℕ)) (added items : List Node) → lacks_enums (module_of span shebang place (added ++ items)) ≡ true → not (gone default_name) ≡ true →
    list_all (statement_goes gone) added ≡ true → ids_pass (λ id. not (gone id)) (module_of span shebang place items) ≡ true →
    observe turns options (module_of span shebang place (added ++ items)) script ≡ observe turns options (module_of span shebang place items) script

-- blocks may be written as functions that are called where they stand, unless the run meets something open
abbrev pub BlocksMayBeCalledAsFunctions : Type 0
BlocksMayBeCalledAsFunctions =
    (turns : ℕ) (options : Config) (m : Node) (script : Script) → lacks_enums m ≡ true → (observe turns options m script).ending ≢ ending.Outside → observe turns options (lowered m) script ≡ observe turns options m script
