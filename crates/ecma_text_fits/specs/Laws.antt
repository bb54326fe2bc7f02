-- What is read of a text as a module fits, and what it is to fit: clause by clause, and the place that is told of a tree that does not.
use Rattle.std.specs.Prelude.{◌≡◌, ◌↔◌, None, ℕ, ◌<◌, ◌^◌, List, length, Ok}
use Rattle.std.specs.Str.{IsUtf8}
use Rattle.ecma_kind.specs.declared.shapes.Sort.TheVariants as sort
use Rattle.ecma_tree.specs.declared.node.Node.{Node}
use Rattle.ecma_tree.specs.Sorted.{HasSort}
use Rattle.ecma_rules.specs.Jumps.{first_stray}
use Rattle.ecma_fits.specs.Branches.{is_dangling}
use Rattle.ecma_fits.specs.Chains.{is_loose}
use Rattle.ecma_fits.specs.Counts.{is_short}
use Rattle.ecma_fits.specs.Fitting.{Fits, breaks_rule, first_unfit, NoneFails, is_misspelled}
use Rattle.ecma_fits.specs.Members.{is_misread}
use Rattle.ecma_fits.specs.Roles.{is_out_of_role}
use Rattle.ecma_fits.specs.Strays.{is_stray_target}
use Rattle.ecma_rules.specs.Breaking.{IsLeast}
use Rattle.ecma_rules.specs.Rules.{first_broken}
use Rattle.ecma_rules.specs.Finishing.{finished}
use Rattle.ecma_grammar.specs.declared.production.Mode.{Mode}
use Rattle.ecma_modules.specs.Modules.{reads_as}
use Rattle.ecma_grammar.specs.Modules.{answer_of, reads_module}
use Rattle.ecma_fits.specs.declared.role.Role.TheVariants as role
use Rattle.ecma_grammar_laws.specs.RawSorts.{HasRawSort}
use Rattle.ecma_text_fits.specs.Least.{Unfit}
use Rattle.ecma_rules.specs.Members.{has_second_constructor}
use Rattle.ecma_raw_roles.specs.RawRoles.{HasRawRole}
use Rattle.ecma_text_fits.specs.Rules.{KeepsRules}

-- a tree fits exactly where it is a module by its sorts and no place is told
abbrev pub FitsWhereNoneIsTold : Type 0
FitsWhereNoneIsTold = (tree : Node) → Fits tree ↔ (HasSort sort.Module tree × (first_unfit tree ≡ None))

-- where a place is told, a node that begins there fails a clause, and none that begins before; where none is told, no node does
abbrev pub FirstUnfitIsLeast : Type 0
FirstUnfitIsLeast = (tree : Node) → IsLeast (Unfit tree) (first_unfit tree)

-- what is made of a raw tree that keeps the context rules holds no strays, where it is sorted
abbrev pub FinishedTreesHaveNoStrays : Type 0
FinishedTreesHaveNoStrays = (raw : Node) → first_broken raw ≡ None → HasSort sort.Module (finished raw) → first_stray (finished raw) ≡ None

-- no node of it breaks a rule that reads it as it reads the raw one
abbrev pub FinishedTreesKeepRules : Type 0
FinishedTreesKeepRules = (raw : Node) → first_broken raw ≡ None → HasSort sort.Module (finished raw) → NoneFails breaks_rule (finished raw)

-- and no class of it has two constructors with bodies
abbrev pub FinishedClassesHaveOneConstructor : Type 0
FinishedClassesHaveOneConstructor = (raw : Node) → first_broken raw ≡ None → HasSort sort.Module (finished raw) → NoneFails (λ w node. has_second_constructor node) (finished raw)

-- each leaf of what is read is spelled as its terminal reads it, and says what that says, in a text that can be read at all
abbrev pub ReadLeavesAreSpelled : Type 0
ReadLeavesAreSpelled = (text : List ℕ) (mode : Mode) (bound : ℕ) (tree : Node) → IsUtf8 text → length text < 2 ^ 32 → reads_as text mode bound ≡ Ok tree → NoneFails is_misspelled tree

-- what is read keeps the context rules that read a finished tree as they read a raw one
abbrev pub ReadTreesKeepRules : Type 0
ReadTreesKeepRules = (text : List ℕ) (mode : Mode) (bound : ℕ) (tree : Node) → reads_as text mode bound ≡ Ok tree → KeepsRules tree

-- each node of it has the parts that its production asks for
abbrev pub ReadNodesAreFull : Type 0
ReadNodesAreFull = (text : List ℕ) (mode : Mode) (bound : ℕ) (tree : Node) → reads_as text mode bound ≡ Ok tree → NoneFails (λ w node. is_short node) tree

-- no `if` without `else` stands directly before an outer `else`
abbrev pub ReadBranchesTakeTheirElse : Type 0
ReadBranchesTakeTheirElse = (text : List ℕ) (mode : Mode) (bound : ℕ) (tree : Node) → reads_as text mode bound ≡ Ok tree → NoneFails (λ w node. is_dangling node) tree

-- each link of an optional chain without its own `?.` stands behind one that has it
abbrev pub ReadLinksAreNotLoose : Type 0
ReadLinksAreNotLoose = (text : List ℕ) (mode : Mode) (bound : ℕ) (tree : Node) → reads_as text mode bound ≡ Ok tree → NoneFails (λ w node. is_loose node) tree

-- a member `constructor` that is not static is the constructor, and no other is; no accessor of a class is a generator or async
abbrev pub ReadMembersAreNotMisread : Type 0
ReadMembersAreNotMisread = (text : List ℕ) (mode : Mode) (bound : ℕ) (tree : Node) → reads_as text mode bound ≡ Ok tree → NoneFails (λ w node. is_misread node) tree

-- each node of a raw module that the grammar gives is what it has to be where it is declared
abbrev pub RawModulesHaveTheirRoles : Type 0
RawModulesHaveTheirRoles = (text : List ℕ) (mode : Mode) (bound : ℕ) (raw : Node) → answer_of (reads_module text mode bound) ≡ Ok raw → HasRawRole role.Free raw

-- each node of what is read as a module is what it has to be where it stands
abbrev pub ReadTreesHaveTheirRoles : Type 0
ReadTreesHaveTheirRoles = (text : List ℕ) (mode : Mode) (bound : ℕ) (tree : Node) → reads_as text mode bound ≡ Ok tree → NoneFails (λ w node. is_out_of_role w.role node) tree

-- and in its patterns nothing assigns to an `arguments` that belongs to nothing
abbrev pub ReadTargetsAreNoStrays : Type 0
ReadTargetsAreNoStrays = (text : List ℕ) (mode : Mode) (bound : ℕ) (tree : Node) → reads_as text mode bound ≡ Ok tree → NoneFails (λ w node. is_stray_target w.role w.arguments node) tree

-- where each node of a raw module is what it has to be where it is declared, each node of the finished one is what it has to be where it stands
abbrev pub FinishedTreesHaveTheirRoles : Type 0
FinishedTreesHaveTheirRoles = (raw : Node) → HasRawSort sort.Module raw → first_broken raw ≡ None → HasRawRole role.Free raw → NoneFails (λ w node. is_out_of_role w.role node) (finished raw)

-- and in its patterns nothing assigns to an `arguments` that belongs to nothing inside the enum initialiser or namespace body around it
abbrev pub FinishedTargetsAreNoStrays : Type 0
FinishedTargetsAreNoStrays = (raw : Node) → HasRawSort sort.Module raw → first_broken raw ≡ None → HasRawRole role.Free raw → NoneFails (λ w node. is_stray_target w.role w.arguments node) (finished raw)

-- so what is read of a text that can be read at all fits
abbrev pub WhatIsReadFits : Type 0
WhatIsReadFits = (text : List ℕ) (mode : Mode) (bound : ℕ) (tree : Node) → IsUtf8 text → length text < 2 ^ 32 → reads_as text mode bound ≡ Ok tree → Fits tree
