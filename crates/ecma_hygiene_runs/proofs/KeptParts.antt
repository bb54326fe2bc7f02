-- What a map that keeps the meaning of each layer keeps of whatever tree, also of one with enums: what it declares, lists and exports, and what is asked of it before it runs.
use Rattle.std.proofs.Common.{refl, [], None, true, false}
use Rattle.ecma_tree.specs.declared.node.Node.{Node}
use Rattle.ecma_runs.specs.Enums.{no_enums}
use Rattle.ecma_runs.specs.Evaluation.{meaning}
use Rattle.ecma_runs.specs.Meaning.{Known}
use Rattle.ecma_runs.proofs.Alike.{Change, EnumsStand, seeks}
use Rattle.ecma_runs.proofs.EnumTrees.{no_reading}
use Rattle.ecma_runs.proofs.Kept.{kept}
use Rattle.ecma_runs.proofs.Layers.{KeepsLayers, images, layers_alike, same_names, the_same}
use Rattle.ecma_runs.proofs.Meanings.{SameSeeking}

-- where nothing is known
abbrev pub nothing_known : Known
nothing_known = record { declared = []; enums = no_enums false }

-- enums may stand there: no read of them is known
abbrev pub stands-anywhere : (f : Node → Node) → EnumsStand nothing_known.enums nothing_known.enums same_names true f (λ n. Unit {0})
stands-anywhere f = record {
  has = true;
  may_change = false;
  lacking = λ e. (refl, refl);
  exact = λ e. record { plain = refl; same = λ id. refl; all = λ id. refl; used = refl };
  reads = λ n h. no_reading (no_enums false) false refl (f n) n;
}

abbrev pub anywhere : (Node → Node) → Change
anywhere f = images f nothing_known the_same (stands-anywhere f)

pub parts-kept : (f : Node → Node) → KeepsLayers f → (n : Node) → SameSeeking (anywhere f) (meaning n) (seeks (anywhere f) n) (meaning (f n))
parts-kept f layers n = kept (anywhere f) (layers_alike f nothing_known the_same (stands-anywhere f) refl layers) n tt
