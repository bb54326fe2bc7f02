-- Where all that is TypeScript is types, no enum stays.
use Rattle.std.proofs.Common.{◌≡◌, refl, List, true, false}
use Rattle.ecma_kind.specs.declared.kind.Kind.{Kind}
use Rattle.ecma_kind.specs.declared.kind.Kind.TheVariants as kind
use Rattle.ecma_tree.specs.declared.node.Node.{Node, out-Node}
use Rattle.ecma_hygiene.proofs.Telling.{true-false}
use Rattle.ecma_runs.specs.Enums.{bare, is_enum}
use Rattle.ecma_runs.proofs.EnumTrees.{Lacks}
use Rattle.ecma_sources.specs.TypesAlone.{adds_types_alone, adds_types_by}
use Rattle.ecma_strip_runs.proofs.Bare.{bare_lacks_enums}
use Rattle.ecma_pipeline_runs.proofs.Nodes.{alone-below, alone-here}

none-by : (k : Kind) (cs : List Node) → adds_types_by k cs ≡ true → is_enum k ≡ false
none-by (kind.TsEnumDecl declare is_const) cs h = absurd (true-false h refl)
none-by kind.TsEnumMember cs h = absurd (true-false h refl)
none-by _ cs h = refl

-- nor is any known
pub alone-bare : (n : Node) → adds_types_alone n ≡ true → Lacks (bare n)
alone-bare = bare_lacks_enums (λ n. adds_types_alone n ≡ true) (λ n h. none-by (out-Node n).kind (out-Node n).children (alone-here n h)) alone-below
