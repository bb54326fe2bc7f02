-- What the trees of facts export, by computing.
use Rattle.std.proofs.Common.{◌≡◌, ap, None}
use Rattle.ecma_kind.specs.declared.kind.Kind.{Kind}
use Rattle.ecma_runs.specs.Evaluation.{meaning_by}
use Rattle.ecma_runs.specs.Observation.{exports_in}
use Rattle.ecma_runs.proofs.Trees.{Trees, node, meanings, meaning_node}

pub exports_node : (k : Kind) (below : Trees) → exports_in (node k below) ≡ (meaning_by (node k below) k (meanings below)).exports None
exports_node k below = ap (λ m. m.exports None) (meaning_node k below)
