-- What a tree that fits keeps without its types.
use Rattle.std.specs.Prelude.{◌≡◌, not, None}
use Rattle.ecma_kind.specs.declared.shapes.Sort.TheVariants as sort
use Rattle.ecma_tree.specs.declared.node.Node.{Node}
use Rattle.ecma_tree.specs.Sorted.{HasSort}
use Rattle.ecma_leaves.specs.Words.{is_spelled}
use Rattle.ecma_rules.specs.Children.{kind_of}
use Rattle.ecma_rules.specs.Jumps.{first_stray}
use Rattle.ecma_rules.specs.Members.{has_second_constructor}
use Rattle.ecma_fits.specs.Branches.{is_dangling}
use Rattle.ecma_fits.specs.Chains.{is_loose}
use Rattle.ecma_fits.specs.Counts.{is_short}
use Rattle.ecma_fits.specs.Fitting.{Fits, breaks_rule, NoneFails}
use Rattle.ecma_fits.specs.Members.{is_misread}
use Rattle.ecma_fits.specs.Roles.{is_tagged, is_wrong_name}
use Rattle.ecma_fits.specs.Strays.{is_stray_target}
use Rattle.ecma_strip.specs.Stripping.{stripped}
use Rattle.ecma_strip_fits.specs.Targets.{HasPlainTargets}

-- a constructor is the member `constructor` that is not static, and no other is; no getter or setter of a class is a generator or async
abbrev pub StrippingKeepsMembers : Type 0
StrippingKeepsMembers = (tree : Node) → Fits tree → NoneFails (λ w node. is_misread node) (stripped tree)

-- a module by its sorts
abbrev pub StrippingKeepsSorts : Type 0
StrippingKeepsSorts = (tree : Node) → Fits tree → HasSort sort.Module (stripped tree)

-- a reserved word names nothing, but where it may
abbrev pub StrippingKeepsNames : Type 0
StrippingKeepsNames = (tree : Node) → Fits tree → NoneFails (λ w node. is_wrong_name w.role (kind_of node)) (stripped tree)

-- a node has what its production asks for
abbrev pub StrippingKeepsCounts : Type 0
StrippingKeepsCounts = (tree : Node) → Fits tree → NoneFails (λ w node. is_short node) (stripped tree)

-- no `if` without `else` stands directly before an outer `else`
abbrev pub StrippingKeepsBranches : Type 0
StrippingKeepsBranches = (tree : Node) → Fits tree → NoneFails (λ w node. is_dangling node) (stripped tree)

-- a link of an optional chain without its own `?.` stands behind a link
abbrev pub StrippingKeepsChains : Type 0
StrippingKeepsChains = (tree : Node) → Fits tree → NoneFails (λ w node. is_loose node) (stripped tree)

-- a class has no second constructor with a body
abbrev pub StrippingKeepsConstructors : Type 0
StrippingKeepsConstructors = (tree : Node) → Fits tree → NoneFails (λ w node. has_second_constructor node) (stripped tree)

-- a leaf is spelled as its terminal reads it, and says what that says
abbrev pub StrippingKeepsLeaves : Type 0
StrippingKeepsLeaves = (tree : Node) → Fits tree → NoneFails (λ w node. not (is_spelled (is_tagged w.role) (kind_of node))) (stripped tree)

-- no `arguments` is assigned to in a pattern that belongs to nothing inside an enum initialiser or a namespace body
abbrev pub StrippingKeepsTargets : Type 0
StrippingKeepsTargets = (tree : Node) → Fits tree → NoneFails (λ w node. is_stray_target w.role w.arguments node) (stripped tree)

-- context rules 3 to 7 and 9, but for second constructors
abbrev pub StrippingKeepsRules : Type 0
StrippingKeepsRules = (tree : Node) → Fits tree → NoneFails breaks_rule (stripped tree)

-- nothing belongs to nothing inside an enum initialiser or a namespace body
abbrev pub StrippingKeepsStrays : Type 0
StrippingKeepsStrays = (tree : Node) → Fits tree → first_stray (stripped tree) ≡ None

-- where no name is bound with a type round it, what fits fits without its types
abbrev pub StrippingKeepsFits : Type 0
StrippingKeepsFits = (tree : Node) → Fits tree → HasPlainTargets tree → Fits (stripped tree)
