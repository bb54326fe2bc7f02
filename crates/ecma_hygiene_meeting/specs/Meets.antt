-- Maps under which names may meet, but for keys.
use Rattle.std.specs.Prelude.{◌≡◌, true, false, bytes_eq, codes}
use Rattle.ecma_tree.specs.declared.node.Node.{Node}
use Rattle.ecma_runs.specs.State.{Id, default_name}
use Rattle.ecma_runs.specs.Enums.{lacks_enums}
use Rattle.ecma_runs.specs.Environment.{ids_of, is_among}
use Rattle.ecma_runs.specs.Evaluation.{meaning}
use Rattle.ecma_runs.specs.Exports.{export_names}
use Rattle.ecma_runs.specs.Meeting.{exports_meet, met, module_meets}
use Rattle.ecma_runs.specs.Names.{TextsStay}
use Rattle.ecma_runs.specs.Observation.{exports_in}
use Rattle.ecma_runs.specs.Sought.{seeker}

-- a map under which names may meet (`MayMeet`), but that nothing is said of keys: what is no name of a variable has the empty context where shorthands are written out
pub record Meets (to : Id → Id) (m : Node) : Type 0 where
  pub no_enums : lacks_enums m ≡ true
  pub none_caught : (met to m).meets ≡ true
  pub in_module : module_meets to (seeker m) ≡ true
  pub free_texts : (id : Id) → is_among id (meaning m).declared ≡ false → (to id).sym ≡ id.sym
  pub this_stays : (id : Id) → bytes_eq (to id).sym (codes "this") ≡ bytes_eq id.sym (codes "this")
  pub exports_apart : exports_meet to (ids_of (meaning m).locals) (exports_in m) ≡ true
  pub export_texts : TextsStay to (export_names (exports_in m))
  pub default_stays : to default_name ≡ default_name
