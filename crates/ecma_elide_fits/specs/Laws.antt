-- What a tree that fits keeps without some items of its lists, and so without what the options drop of its imports and exports.
use Rattle.ecma_tree.specs.declared.node.Node.{Node}
use Rattle.ecma_config.specs.declared.config.Config.{Config}
use Rattle.ecma_elide.specs.Elision.{elided}
use Rattle.ecma_fits.specs.Fitting.{Fits}
use Rattle.ecma_elide_fits.specs.Dropping.{Dropping, without}

-- whatever items are dropped from the lists of modules, namespaces, imports and exports, what is left fits
--   import a, { b } from "m"; a(); export { b as c };   // so import { b } from "m"; export { b as c };
abbrev pub FitsWithoutItems : Type 0 → Type 0
FitsWithoutItems S = (d : Dropping S) (s : S) (tree : Node) → Fits tree → Fits (without d s tree)

-- so does a module without what the options drop
abbrev pub ElidedTreesFit : Type 0
ElidedTreesFit = (config : Config) (tree : Node) → Fits tree → Fits (elided config tree)
