-- What is known of enums does not matter to what asks nothing of it.
use Rattle.std.specs.Prelude.{◌≡◌, ℕ, Bool, List, [], Option, IsTrue}
use Rattle.ecma_tree.specs.declared.node.Node.{Node}
use Rattle.ecma_runs.specs.Values.{Value}
use Rattle.ecma_runs.specs.State.{Id, Sort}
use Rattle.ecma_runs.specs.Run.{Run}
use Rattle.ecma_runs.specs.Enums.{Enums, no_enums}
use Rattle.ecma_runs.specs.Meaning.{ExecutionContext, Evaluation, Meaning}
use Rattle.ecma_runs.specs.Evaluation.{meaning}
use Rattle.ecma_run_enums.specs.Asking.{knowing, asks_no_enums, names_no_members}

-- an evaluation is the same run where the one or the other is known of enums
abbrev pub SameRun : Enums → Enums → {A : Type 0} → Evaluation A → Type 0
SameRun enums other e = (x : ExecutionContext) → e (knowing enums x) ≡ e (knowing other x)

-- in each role. Functions of the program are applied as the context says, in both the same
pub record MeansTheSame (enums other : Enums) (m : Meaning) : Type 0 where
  pub value : SameRun enums other m.value
  pub reference : SameRun enums other m.reference
  pub written : SameRun enums other m.written
  pub assigned : (get : Run Value) → SameRun enums other (m.assigned get)
  pub initial : SameRun enums other m.initial
  pub arguments : SameRun enums other m.arguments
  pub elements : SameRun enums other m.elements
  pub texts : SameRun enums other m.texts
  pub key : SameRun enums other m.key
  pub chain : SameRun enums other m.chain
  pub link : (optional : Bool) → SameRun enums other (m.link optional)
  pub bound : (v : Value) → SameRun enums other (m.bound v)
  pub matched : (v : Value) → SameRun enums other (m.matched v)
  pub targets : (v : Value) → SameRun enums other (m.targets v)
  pub parameters : (arguments : List Value) → SameRun enums other (m.parameters arguments)
  pub completion : SameRun enums other m.completion
  pub member : (leaves_out : Bool) (ids : List Id) → SameRun enums other (m.member leaves_out ids)
  pub varied : SameRun enums other m.varied
  pub hoisted : SameRun enums other m.hoisted
  pub last : SameRun enums other m.last
  pub effect : SameRun enums other m.effect
  pub test : SameRun enums other m.test
  pub caught : (v : Value) → SameRun enums other (m.caught v)
  pub switched : (v : Value) → SameRun enums other (m.switched v)
  pub selected : (o : Option Value) → SameRun enums other (m.selected o)
  pub made : (sort : Sort) (home : Option ℕ) → SameRun enums other (m.made sort home)
  pub default_made : SameRun enums other m.default_made
  pub class_made : (names : List Id) → SameRun enums other (m.class_made names)
  pub defined : (class object : ℕ) → SameRun enums other (m.defined class object)
  pub fields : (keys : List (List ℕ)) (object : Value) → SameRun enums other (m.fields keys object)
  pub statics : (keys : List (List ℕ)) (class : Value) → SameRun enums other (m.statics keys class)
  pub code : (arguments : List Value) → SameRun enums other (m.code arguments)
  pub body : (names : List Id) → SameRun enums other (m.body names)

-- a node that asks nothing of what is known of enums means the same in two contexts that differ in nothing else
abbrev pub UnaskedFactsDoNotMatter : Type 0
UnaskedFactsDoNotMatter = (enums other : Enums) (n : Node) → IsTrue (asks_no_enums enums n) → IsTrue (asks_no_enums other n) → MeansTheSame enums other (meaning n)

-- and where nothing is known, nothing is asked
abbrev pub NothingIsAskedOfNoEnums : Type 0
NothingIsAskedOfNoEnums = (may_change : Bool) (n : Node) → IsTrue (asks_no_enums (no_enums may_change) n)

-- where no name is that of a member, nothing else has to be asked of which names are
abbrev pub UnnamedMembersDoNotMatter : Type 0
UnnamedMembersDoNotMatter = (enums : Enums) (n : Node) → IsTrue (names_no_members enums n) → MeansTheSame enums (record enums { names = [] }) (meaning n)

-- so it is of what asks nothing
abbrev pub WhatAsksNothingNamesNoMembers : Type 0
WhatAsksNothingNamesNoMembers = (enums : Enums) (n : Node) → IsTrue (asks_no_enums enums n) → IsTrue (names_no_members enums n)

-- and where no name is that of a member
abbrev pub NoNamesAreNoMembers : Type 0
NoNamesAreNoMembers = (enums : Enums) (n : Node) → enums.names ≡ [] → IsTrue (names_no_members enums n)
