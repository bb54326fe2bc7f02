-- What a tree with other texts for its identifiers keeps of fitting: whatever the texts are, where none is a reserved word or `arguments`, and where they are spelled.
use Rattle.std.specs.Prelude.{◌≡◌, None, List, ◌≤◌, ◌+◌, true, length}
use Rattle.std.specs.List.{All}
use Rattle.ecma_kind.specs.declared.shapes.Sort.TheVariants as sort
use Rattle.ecma_tree.specs.declared.node.Node.{Node}
use Rattle.ecma_tree.specs.Sorted.{HasSort}
use Rattle.ecma_rules.specs.Members.{has_second_constructor}
use Rattle.ecma_fits.specs.Branches.{is_dangling}
use Rattle.ecma_fits.specs.Chains.{is_loose}
use Rattle.ecma_fits.specs.Counts.{is_short}
use Rattle.ecma_fits.specs.Fitting.{breaks_rule, Fits, NoneFails}
use Rattle.ecma_fits.specs.Members.{is_misread}
use Rattle.ecma_hygiene.specs.Renamed.{Texts, renamed}
use Rattle.ecma_rules.specs.Jumps.{first_stray}
use Rattle.ecma_fits.specs.Roles.{is_out_of_role}
use Rattle.ecma_fits.specs.Strays.{is_stray_target}
use Rattle.ecma_hygiene.specs.Texts.{HygienicTexts, text_in}
use Rattle.ecma_hygiene.specs.declared.naming.Named.{Named}
use Rattle.ecma_rules.specs.Children.{kind_of}
use Rattle.ecma_hygiene.specs.Hygienic.{IsHygienic}
use Rattle.ecma_hygiene_fits.specs.Kept.{FinalTextsKeep}
use Rattle.ecma_hygiene_fits.specs.Unreserved.{AreUnreserved, NoThis}
use Rattle.ecma_hygiene_fits.specs.Spelled.{AreSpelled, is_long, is_misspelled, are_readable}

-- a module by its sorts
abbrev pub FinalTextsKeepSorts : Type 0
FinalTextsKeepSorts = (texts : Texts) (tree : Node) → HasSort sort.Module tree → HasSort sort.Module (renamed texts tree)

-- no `if` without `else` stands directly before an outer `else`
abbrev pub FinalTextsKeepBranches : Type 0
FinalTextsKeepBranches = FinalTextsKeep is_dangling

-- a link of an optional chain without its own `?.` stands behind a link
abbrev pub FinalTextsKeepChains : Type 0
FinalTextsKeepChains = FinalTextsKeep is_loose

-- a constructor is the member `constructor` that is not static, and no other is; no getter or setter of a class is a generator or async
abbrev pub FinalTextsKeepMembers : Type 0
FinalTextsKeepMembers = FinalTextsKeep is_misread

-- a class has no second constructor with a body
abbrev pub FinalTextsKeepConstructors : Type 0
FinalTextsKeepConstructors = FinalTextsKeep has_second_constructor

-- a node has what its production asks for
abbrev pub FinalTextsKeepCounts : Type 0
FinalTextsKeepCounts = FinalTextsKeep is_short

-- nothing belongs to nothing inside an enum initialiser or a namespace body
abbrev pub FinalTextsKeepStrays : Type 0
FinalTextsKeepStrays = (texts : Texts) (tree : Node) → AreUnreserved texts → HasSort sort.Module tree → first_stray tree ≡ None → first_stray (renamed texts tree) ≡ None

-- no `arguments` is assigned to in a pattern that belongs to nothing inside an enum initialiser or a namespace body
abbrev pub FinalTextsKeepTargets : Type 0
FinalTextsKeepTargets = (texts : Texts) (tree : Node) → AreUnreserved texts → HasSort sort.Module tree
    → NoneFails (λ w node. is_stray_target w.role w.arguments node) tree → NoneFails (λ w node. is_stray_target w.role w.arguments node) (renamed texts tree)

-- each node may be what it is where it stands, and a reserved word names nothing
abbrev pub FinalTextsKeepRoles : Type 0
FinalTextsKeepRoles = (texts : Texts) (tree : Node) → AreUnreserved texts → HasSort sort.Module tree
    → NoneFails (λ w node. is_out_of_role w.role node) tree → NoneFails (λ w node. is_out_of_role w.role node) (renamed texts tree)

-- no node breaks a context rule, where no parameter is `this`
abbrev pub FinalTextsKeepRules : Type 0
FinalTextsKeepRules = (texts : Texts) (tree : Node) → AreUnreserved texts → HasSort sort.Module tree → NoThis tree → NoneFails breaks_rule tree → NoneFails breaks_rule (renamed texts tree)

-- the texts that bindings get are no reserved words, and not `arguments`
abbrev pub HygienicTextsAreUnreserved : Type 0
HygienicTextsAreUnreserved = (tree : Node) (names : List Named) → HygienicTexts tree names → AreUnreserved (text_in names)

-- each leaf is spelled as its terminal reads it
abbrev pub FinalTextsKeepSpelling : Type 0
FinalTextsKeepSpelling = (texts : Texts) (tree : Node) → AreSpelled texts → NoneFails is_misspelled tree → NoneFails is_misspelled (renamed texts tree)

-- final texts are spelled as identifiers are, where the tree's are
abbrev pub FinalTextsAreSpelled : Type 0
FinalTextsAreSpelled = (tree : Node) (names : List Named) → HygienicTexts tree names → are_readable names ≡ true → NoneFails is_misspelled tree → AreSpelled (text_in names)

-- a final text is longer than that of its id by at most 64 bytes
abbrev pub FinalTextsAreShort : Type 0
FinalTextsAreShort = (tree : Node) (names : List Named) → HygienicTexts tree names → All (λ named. length named.text ≤ length named.id.0 + 64) names

-- where no identifier is long, each final text is shorter than 2^32 bytes
abbrev pub FinalTextsAreReadable : Type 0
FinalTextsAreReadable = (tree : Node) (names : List Named) → HygienicTexts tree names → NoneFails (λ w node. is_long (kind_of node)) tree → are_readable names ≡ true

-- so leaves stay spelled with final texts
abbrev pub HygieneKeepsSpelling : Type 0
HygieneKeepsSpelling = (tree written : Node) → IsHygienic tree written → NoneFails (λ w node. is_long (kind_of node)) tree → NoneFails is_misspelled tree → NoneFails is_misspelled written

-- with texts that are spelled as identifiers are, of which none is a reserved word or `arguments`, where no parameter is `this`
abbrev pub FinalTextsKeepFits : Type 0
FinalTextsKeepFits = (texts : Texts) (tree : Node) → AreUnreserved texts → AreSpelled texts → NoThis tree → Fits tree → Fits (renamed texts tree)

-- so with final texts, where no text is so long that it is not read with a number behind it
abbrev pub HygieneKeepsFits : Type 0
HygieneKeepsFits = (tree written : Node) → IsHygienic tree written → NoThis tree → NoneFails (λ w node. is_long (kind_of node)) tree → Fits tree → Fits written
