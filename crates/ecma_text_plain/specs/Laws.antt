-- What holds of what is read of a text as a module: of its leaves, and where it was read as a plain one of its kinds, its items and its functions.
use Rattle.std.specs.Prelude.{◌≡◌, ℕ, false, List, Ok, Bool, true}
use Rattle.std.specs.Str.{IsUtf8}
use Rattle.ecma_tree.specs.declared.node.Node.{Node}
use Rattle.ecma_grammar.specs.declared.production.Mode.{Mode}
use Rattle.ecma_text_leaves.specs.Everywhere.{Everywhere}
use Rattle.ecma_modules.specs.Modules.{reads_as, plain}
use Rattle.ecma_plain.specs.Forms.{IsTaken, IsBareUnquestioned}
use Rattle.ecma_tree.specs.Finding.{enters_all, finds}
use Rattle.ecma_rules.specs.Children.{kind_of}
use Rattle.ecma_plain.specs.Items.{HasUtf8Hashbang, has_plain_items}
use Rattle.ecma_plain.specs.Functions.{functions}
use Rattle.ecma_plain.specs.Plain.{IsPlain}
use Rattle.ecma_text_plain.specs.Assignments.{is_inner_import, is_left_out}
use Rattle.ecma_text_plain.specs.Functions.{holds_somewhere, is_bodiless, has_this_parameter}

-- each leaf of what is read is bare, in every mode
abbrev pub ReadLeavesAreBare : Type 0
ReadLeavesAreBare = (text : List ℕ) (mode : Mode) (bound : ℕ) (tree : Node) → IsUtf8 text → reads_as text mode bound ≡ Ok tree → Everywhere IsBareUnquestioned tree

-- each node of what is read as a plain module is bare, and no TypeScript but the two assignment forms
abbrev pub ReadPlainTreesAreTaken : Type 0
ReadPlainTreesAreTaken = (text : List ℕ) (assignments : Bool) (bound : ℕ) (tree : Node) → IsUtf8 text → reads_as text (plain assignments) bound ≡ Ok tree → Everywhere IsTaken tree

-- nothing of TypeScript stands in what is read as a plain module but the assignment forms, where these stay; and where they do
-- not, nothing at all
abbrev pub ReadPlainTreesHaveNoOtherTypeScript : Type 0
ReadPlainTreesHaveNoOtherTypeScript =
    (text : List ℕ) (keep_assign : Bool) (bound : ℕ) (tree : Node) → IsUtf8 text → reads_as text (plain keep_assign) bound ≡ Ok tree
    → finds (is_left_out keep_assign) enters_all tree ≡ false

-- what stands behind `#!` is UTF-8
abbrev pub ReadPlainModulesHaveUtf8Hashbangs : Type 0
ReadPlainModulesHaveUtf8Hashbangs = (text : List ℕ) (assignments : Bool) (bound : ℕ) (tree : Node) → IsUtf8 text → reads_as text (plain assignments) bound ≡ Ok tree → HasUtf8Hashbang (kind_of tree)

-- each import by `=` is one of an external module, `require("m")`
abbrev pub ReadPlainImportsAreExternal : Type 0
ReadPlainImportsAreExternal = (text : List ℕ) (keep_assign : Bool) (bound : ℕ) (tree : Node) → IsUtf8 text → reads_as text (plain keep_assign) bound ≡ Ok tree → holds_somewhere is_inner_import tree ≡ false

-- the items are plain: an assignment form stands among them only where these stay, and an import by `=` is one of an external module
abbrev pub ReadPlainModulesHavePlainItems : Type 0
ReadPlainModulesHavePlainItems = (text : List ℕ) (keep_assign : Bool) (bound : ℕ) (tree : Node) → IsUtf8 text → reads_as text (plain keep_assign) bound ≡ Ok tree → has_plain_items keep_assign tree ≡ true

-- each function of what is read has its body
abbrev pub ReadPlainFunctionsHaveBodies : Type 0
ReadPlainFunctionsHaveBodies = (text : List ℕ) (assignments : Bool) (bound : ℕ) (tree : Node) → IsUtf8 text → reads_as text (plain assignments) bound ≡ Ok tree → holds_somewhere is_bodiless tree ≡ false

-- no bound name is `this`, and no setter has such a parameter
abbrev pub ReadPlainNamesAreNotThis : Type 0
ReadPlainNamesAreNotThis = (text : List ℕ) (assignments : Bool) (bound : ℕ) (tree : Node) → IsUtf8 text → reads_as text (plain assignments) bound ≡ Ok tree → holds_somewhere has_this_parameter tree ≡ false

-- a tree has the functions of a plain module where neither test holds anywhere
abbrev pub FunctionsAreUsualByTests : Type 0
FunctionsAreUsualByTests = (tree : Node) → holds_somewhere is_bodiless tree ≡ false → holds_somewhere has_this_parameter tree ≡ false → (functions tree).has_unusual ≡ false

-- so what is read as a plain module is a plain tree
abbrev pub ReadPlainTreesArePlain : Type 0
ReadPlainTreesArePlain = (text : List ℕ) (keep_assign : Bool) (bound : ℕ) (tree : Node) → IsUtf8 text → reads_as text (plain keep_assign) bound ≡ Ok tree → IsPlain keep_assign tree
