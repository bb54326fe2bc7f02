-- `export {}` does nothing, and may come before the types go.
use Rattle.std.specs.Prelude.{◌≡◌, ℕ, Bool, List}
use Rattle.ecma_kind.specs.declared.shapes.Sort.TheVariants as sort
use Rattle.ecma_tree.specs.declared.node.Node.{Node}
use Rattle.ecma_tree.specs.Sorted.{HasSort}
use Rattle.ecma_config.specs.declared.config.Config.{Config}
use Rattle.ecma_exports.specs.Exports.{first_captured}
use Rattle.ecma_hygiene_fits.specs.Placed.{NoneMadeBut}
use Rattle.ecma_interface.specs.Names.{Id}
use Rattle.ecma_interface.specs.Reading.{interface_of}
use Rattle.ecma_lower.specs.Marking.{marked}
use Rattle.ecma_ready.specs.Ready.{HasOwnContexts, IsReady}
use Rattle.ecma_runs.specs.declared.script.Script.{Script}
use Rattle.ecma_runs.specs.Observation.{observe}
use Rattle.ecma_strip.specs.Stripping.{stripped}
use Rattle.ecma_marks.specs.Marks.{marked_before}

-- to put it in and strip is to strip and put it in
abbrev pub MarkedBeforeOrAfter : Type 0
MarkedBeforeOrAfter =
    (no_empty_export was_module : Bool) (tree : Node) → HasSort sort.Module tree → stripped (marked_before no_empty_export was_module tree) ≡ marked no_empty_export was_module (stripped tree)

-- a tree that is ready is ready with it
abbrev pub MarkedTreesAreReady : Type 0
MarkedTreesAreReady = (no_empty_export was_module assignments : Bool) (free : ℕ) (tree : Node) → IsReady assignments free tree → IsReady assignments free (marked_before no_empty_export was_module tree)

-- and its scopes have the contexts that they had
abbrev pub MarkedTreesHaveOwnContexts : Type 0
MarkedTreesHaveOwnContexts = (no_empty_export was_module : Bool) (tree : Node) → HasSort sort.Module tree → HasOwnContexts tree → HasOwnContexts (marked_before no_empty_export was_module tree)

-- no identifier is in it
abbrev pub MarkedTreesHaveNoOtherNames : Type 0
MarkedTreesHaveNoOtherNames =
    (no_empty_export was_module : Bool) (free : ℕ) (tree : Node) → HasSort sort.Module tree → NoneMadeBut free tree → NoneMadeBut free (marked_before no_empty_export was_module tree)

-- and so no name is captured that was not
abbrev pub MarkedTreesCaptureAlike : Type 0
MarkedTreesCaptureAlike =
    (no_empty_export was_module : Bool) (free : ℕ) (tree : Node) → HasSort sort.Module tree → first_captured free (marked_before no_empty_export was_module tree) ≡ first_captured free tree

-- it does nothing
abbrev pub MarkedTreesRunAlike : Type 0
MarkedTreesRunAlike =
    (no_empty_export was_module : Bool) (tree : Node) → HasSort sort.Module tree
    → (turns : ℕ) (options : Config) (script : Script) → observe turns options (marked_before no_empty_export was_module tree) script ≡ observe turns options tree script

-- and exports nothing
abbrev pub MarkedTreesHaveTheirInterface : Type 0
MarkedTreesHaveTheirInterface =
    (no_empty_export was_module : Bool) (text : Id → List ℕ) (tree : Node) → HasSort sort.Module tree → interface_of text (marked_before no_empty_export was_module tree) ≡ interface_of text tree
