-- Laws of the module without what the options drop.
use Rattle.std.specs.Prelude.{◌≡◌, Bool, true, false}
use Rattle.ecma_kind.specs.declared.kind.Kind.{Kind}
use Rattle.ecma_kind.specs.declared.kind.Kind.TheVariants as kind
use Rattle.ecma_kind.specs.declared.shapes.Sort.TheVariants as sort
use Rattle.ecma_tree.specs.declared.node.Node.{Node}
use Rattle.ecma_tree.specs.Finding.{enters_all, finds}
use Rattle.ecma_tree.specs.Sorted.{HasSort}
use Rattle.ecma_config.specs.declared.config.Config.{Config}
use Rattle.ecma_elide.specs.Elision.{elided}

-- a sorted module is one
abbrev pub ElidedModulesAreSorted : Type 0
ElidedModulesAreSorted = (config : Config) (tree : Node) → HasSort sort.Module tree → HasSort sort.Module (elided config tree)

-- whether a node of this kind may go
abbrev pub may_go : Kind → Bool
may_go (kind.ImportDecl type_only) = true
may_go (kind.ImportNamedSpecifier is_type_only) = true
may_go kind.ImportDefaultSpecifier = true
may_go kind.ImportStarAsSpecifier = true
may_go (kind.NamedExport type_only) = true
may_go (kind.ExportNamedSpecifier is_type_only) = true
may_go (kind.ExportAll type_only) = true
may_go kind.ExportDefaultExpr = true
may_go (kind.TsImportEqualsDecl is_export is_type_only) = true
may_go _ = false

-- a tree in which none stands stays as it is
--   export let a = 1; export function f() { }   // stays
abbrev pub TreesWithoutStay : Type 0
TreesWithoutStay = (config : Config) (tree : Node) → finds may_go enters_all tree ≡ false → elided config tree ≡ tree
