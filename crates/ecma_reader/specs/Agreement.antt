-- That a method of the reader does what a reading says.
use Rattle.std.specs.Prelude.{◌≡◌, ◌≤◌, ℕ, List, [], length, take, Result, Ok, Err}
use Rattle.std.specs.Borrow.{MutBor}
use Rattle.std.specs.Fn.{Shared}
use Rattle.ecma_tree.specs.declared.node.Node.{Node}
use Rattle.ecma_reader.specs.declared.failure.Failure.{Failure}
use Rattle.ecma_reader.specs.declared.failure.Failure.TheVariants.{NoMatch, TooDeep, NoMemory}
use Rattle.ecma_reader.specs.declared.reader.Reader.{Reader}
use Rattle.ecma_reader.specs.declared.reader.outlook.Known.{Known}
use Rattle.ecma_reader.specs.declared.reader.outlook.Known.TheVariants as known
use Rattle.ecma_reader.specs.declared.machine.Machine.{Machine}
use Rattle.ecma_grammar.specs.declared.production.Part.{Part}
use Rattle.ecma_grammar.specs.Reading.{Position, Outcome, read, fails, too_deep, Reading, with_front}
use Rattle.ecma_grammar.specs.Grammar.{Grammar}
use Rattle.ecma_reader.specs.FirstByte.{first_byte}
use Rattle.ecma_grammar.specs.Glance.{Remains}
use Rattle.ecma_grammar.specs.Written.{written}
use Rattle.ecma_grammar.specs.Reads.{Parts, reads_with_types, levels_with_types}

abbrev pub position : Reader → Position
position reader = record { place = reader.place; failed = reader.failed }

-- the nodes that were kept so far
abbrev pub kept : Reader → List Node
kept reader = reader.kept.items

-- the reader reads the same text, and TypeScript as before
abbrev pub SameText : Reader → Reader → Type 0
SameText old new = (new.text.now ≡ old.text.now) × (new.mode ≡ old.mode)

-- a failure, with the reader as it is then, is the outcome, unless memory ran out
abbrev pub FailsAs : {A : Type 0} → Failure → Reader → Outcome A → Type 0
FailsAs NoMatch new outcome = outcome ≡ fails new.failed
FailsAs (TooDeep at) new outcome = outcome ≡ too_deep at
FailsAs NoMemory new outcome = Unit {0}

-- what a method answered, and where the reader stands then, is the outcome
abbrev pub EndsAs : {A : Type 0} → Result A Failure → Reader → Outcome A → Type 0
EndsAs (Ok x) new outcome = outcome ≡ read x (position new)
EndsAs (Err failure) new outcome = FailsAs failure new outcome

-- ... of the reading from where it stood; nothing is kept
abbrev pub Reads : {A : Type 0} → Reader → Reader → Result A Failure → Reading A → Type 0
Reads old new result reading = SameText old new × (kept new ≡ kept old) × EndsAs result new (reading (position old))

-- the same, where what is read is kept behind what was kept before; on a failure more may be kept
abbrev pub KeepsAs : Reader → Reader → Result Unit Failure → Outcome (List Node) → Type 0
KeepsAs old new (Ok x) outcome = with_front (kept old) outcome ≡ read (kept new) (position new)
KeepsAs old new (Err NoMatch) outcome = (outcome ≡ fails new.failed) × (take (length (kept old)) (kept new) ≡ kept old)
KeepsAs old new (Err (TooDeep at)) outcome = outcome ≡ too_deep at
KeepsAs old new (Err NoMemory) outcome = Unit {0}

abbrev pub Keeps : Reader → Reader → Result Unit Failure → Reading (List Node) → Type 0
Keeps old new result reading = SameText old new × KeepsAs old new result (reading (position old))

-- what parts read in the text of a reader, where so many levels more are allowed
abbrev pub parts_in : Reader → ℕ → Part → ℕ → Reading (List Node)
parts_in reader left = levels_with_types reader.text.now reader.mode left

-- what a grammar reads in the text of a reader, one level further out
abbrev pub reads_in : Reader → ℕ → Grammar → Reading (List Node)
reads_in reader left g = reads_with_types reader.text.now reader.mode (parts_in reader left) g

-- what is known of a grammar without its being tried, with the reader as it is then
abbrev pub Knows : Reader → Reader → Grammar → Known → Type 0
Knows old new g known.Open = new.failed ≡ old.failed
Knows old new g known.Fails = (parts : Parts old.text.now) → reads_with_types old.text.now old.mode parts g (position old) ≡ fails new.failed
Knows old new g known.Passes = (parts : Parts old.text.now) → reads_with_types old.text.now old.mode parts g (position old) ≡ read [] (position new)
Knows old new g (known.Remains rest) = Remains (first_byte old.text.now old.place) g (written rest.now) × ((parts : Parts old.text.now) → reads_with_types old.text.now old.mode parts g (position old) ≡ reads_with_types old.text.now old.mode parts (written rest.now) (position new))

-- what a call that reads a part takes, and what it gives
abbrev pub PartArgs : Type 0
PartArgs = MutBor Reader × (Part × (ℕ × (ℕ × Unit {0})))

abbrev pub PartResult : Type 0
PartResult = Result Unit Failure × (MutBor Reader × Unit {0})

-- the function of a level reads each part as the grammar says, where no more levels are allowed than are left
pub record ReadsParts {F : Type 0} (calls : Shared F PartArgs PartResult) (machine : Machine F) : Type 0 where
  pub callable : (reader : MutBor Reader) (part : Part) (at allowed : ℕ) → allowed ≤ machine.left → calls.pre machine.part.now (reader, (part, (at, (allowed, tt))))
  pub exact : (old new : MutBor Reader) (part : Part) (at allowed : ℕ) (result : Result Unit Failure) → allowed ≤ machine.left
      → calls.post machine.part.now (old, (part, (at, (allowed, tt)))) (result, (new, tt)) → Keeps old.now new.now result (parts_in old.now allowed part at)
