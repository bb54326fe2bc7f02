-- Laws of finished trees that fit.
use Rattle.std.specs.Prelude.{◌≡◌, Bool, false, not, None, true}
use Rattle.ecma_kind.specs.declared.kind.Kind.{Kind}
use Rattle.ecma_kind.specs.declared.kind.Kind.TheVariants as kind
use Rattle.ecma_kind.specs.declared.shapes.Sort.TheVariants as sort
use Rattle.ecma_tree.specs.declared.node.Node.{Node}
use Rattle.ecma_tree.specs.Finding.{enters_all, finds}
use Rattle.ecma_tree.specs.Sorted.{HasSort}
use Rattle.ecma_rules.specs.declared.target.Target.TheVariants as target
use Rattle.ecma_rules.specs.Children.{kind_of}
use Rattle.ecma_rules.specs.Jumps.{first_stray}
use Rattle.ecma_rules.specs.Members.{has_second_constructor}
use Rattle.ecma_rules.specs.Rules.{first_broken, first_misplaced}
use Rattle.ecma_rules.specs.Surroundings.{at_root}
use Rattle.ecma_covers.specs.Covering.{cover}
use Rattle.ecma_covers.specs.Placing.{Stands}
use Rattle.ecma_print_covers.specs.Defaults.{has_usual_defaults}
use Rattle.ecma_print.specs.Explicit.{explicit}
use Rattle.ecma_fits.specs.Branches.{is_dangling}
use Rattle.ecma_fits.specs.Chains.{is_loose}
use Rattle.ecma_fits.specs.Counts.{is_short}
use Rattle.ecma_leaves.specs.Words.{is_spelled}
use Rattle.ecma_fits.specs.Fitting.{Fits, breaks_rule, NoneFails}
use Rattle.ecma_fits.specs.Members.{is_misread}
use Rattle.ecma_fits.specs.Roles.{is_out_of_role, is_tagged}
use Rattle.ecma_fits.specs.Strays.{is_stray_target}

-- a pattern with a `?`, which is TypeScript
abbrev pub is_optional_pattern : Kind → Bool
is_optional_pattern (kind.ArrayPat optional) = optional
is_optional_pattern (kind.ObjectPat optional) = optional
is_optional_pattern _ = false

-- no pattern of a tree has one
abbrev pub HasNoOptionalPatterns : Node → Type 0
HasNoOptionalPatterns tree = finds is_optional_pattern enters_all tree ≡ false

-- in what fits, patterns stand where they may: finishing a covered tree gives it again
abbrev pub WhatFitsStands : Type 0
WhatFitsStands = (tree : Node) → Fits tree → HasNoOptionalPatterns tree → Stands target.Free tree

-- no node of the raw tree of what fits is misplaced: it breaks no context rule but perhaps that on what belongs to nothing
abbrev pub CoversAreNotMisplaced : Type 0
CoversAreNotMisplaced = (tree : Node) → Fits tree → HasNoOptionalPatterns tree → first_misplaced (cover tree) at_root ≡ None

-- the raw tree of what fits keeps all context rules
abbrev pub CoversBreakNoRule : Type 0
CoversBreakNoRule = (tree : Node) → Fits tree → HasNoOptionalPatterns tree → first_broken (cover tree) ≡ None

-- no node of a tree is such a one
abbrev pub NoneIs : (Node → Bool) → Node → Type 0
NoneIs is tree = NoneFails (λ w node. is node) tree

-- in a module with explicit parentheses each node has what its production asks for where it had
abbrev pub ExplicitCountsStay : Type 0
ExplicitCountsStay = (tree : Node) → HasSort sort.Module tree → NoneIs is_short tree → NoneIs is_short (explicit tree)

-- with explicit parentheses no `if` without `else` stands directly before an outer `else` where none did
abbrev pub ExplicitBranchesStay : Type 0
ExplicitBranchesStay = (tree : Node) → NoneIs is_dangling tree → NoneIs is_dangling (explicit tree)

-- and members are read as they stand where they were
abbrev pub ExplicitMembersStay : Type 0
ExplicitMembersStay = (tree : Node) → NoneIs is_misread tree → NoneIs is_misread (explicit tree)

-- in a module each link of an optional chain without its own `?.` stands behind a link where it did
abbrev pub ExplicitChainsStay : Type 0
ExplicitChainsStay = (tree : Node) → HasSort sort.Module tree → NoneIs is_loose tree → NoneIs is_loose (explicit tree)

-- no node of a tree is out of its role
abbrev pub NoneIsOutOfRole : Node → Type 0
NoneIsOutOfRole tree = NoneFails (λ w node. is_out_of_role w.role node) tree

-- nor with explicit parentheses where none was
abbrev pub ExplicitRolesStay : Type 0
ExplicitRolesStay = (tree : Node) → NoneIsOutOfRole tree → NoneIsOutOfRole (explicit tree)

-- no leaf of a tree is misspelled
abbrev pub NoneIsMisspelled : Node → Type 0
NoneIsMisspelled tree = NoneFails (λ w node. not (is_spelled (is_tagged w.role) (kind_of node))) tree

-- nor with explicit parentheses where none was
abbrev pub ExplicitLeavesStay : Type 0
ExplicitLeavesStay = (tree : Node) → NoneIsMisspelled tree → NoneIsMisspelled (explicit tree)

-- no class of a module has, with explicit parentheses, where none had
abbrev pub ExplicitConstructorsStay : Type 0
ExplicitConstructorsStay = (tree : Node) → HasSort sort.Module tree → NoneIs has_second_constructor tree → NoneIs has_second_constructor (explicit tree)

-- no node of a tree is `arguments` that is assigned to in a pattern and belongs to nothing
abbrev pub NoneIsStrayTarget : Node → Type 0
NoneIsStrayTarget tree = NoneFails (λ w node. is_stray_target w.role w.arguments node) tree

-- nor of a module with explicit parentheses where none was, and none out of its role
abbrev pub ExplicitTargetsStay : Type 0
ExplicitTargetsStay = (tree : Node) → HasSort sort.Module tree → NoneIsOutOfRole tree → NoneIsStrayTarget tree → NoneIsStrayTarget (explicit tree)

-- no node of a tree breaks a rule that reads it as it reads a raw one
abbrev pub NoneBreaksRule : Node → Type 0
NoneBreaksRule tree = NoneFails (λ w node. breaks_rule w node) tree

-- nor of a module with explicit parentheses where none did, and none was out of its role
abbrev pub ExplicitRulesStay : Type 0
ExplicitRulesStay = (tree : Node) → HasSort sort.Module tree → NoneIsOutOfRole tree → NoneBreaksRule tree → NoneBreaksRule (explicit tree)

-- with explicit parentheses nothing is a stray where nothing was
abbrev pub ExplicitStraysStay : Type 0
ExplicitStraysStay = (tree : Node) → first_stray tree ≡ None → first_stray (explicit tree) ≡ None

-- in what fits nothing but a target has a default
abbrev pub WhatFitsHasUsualDefaults : Type 0
WhatFitsHasUsualDefaults = (tree : Node) → Fits tree → has_usual_defaults tree ≡ true
