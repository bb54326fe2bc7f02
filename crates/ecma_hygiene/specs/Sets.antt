-- Sets of ids and of texts as they are kept.
use Rattle.std.specs.Prelude.{ℕ, Bool, ◌&&◌, not, List, bytes_eq, is_some}
use Rattle.std.specs.HashMap.{get}
use Rattle.std.specs.List.{list_any}
use Rattle.ecma_hygiene.specs.declared.ids.IdSet.{IdSet}
use Rattle.ecma_hygiene.specs.declared.ids.TextSet.{TextSet}
use Rattle.ecma_hygiene.specs.declared.sight.Sight.{Sight}
use Rattle.ecma_hygiene.specs.declared.texts.NewIds.{NewIds}
use Rattle.ecma_hygiene.specs.Ids.{Id, same_id}

abbrev pub has_id : IdSet → Id → Bool
has_id set id = is_some (get same_id set.ids id)

abbrev pub has_text : TextSet → List ℕ → Bool
has_text set text = is_some (get bytes_eq set.texts text)

-- whether an identifier outside the source declares an id
abbrev pub is_declared_outside : List Sight → Id → Bool
is_declared_outside seen id = list_any (λ x. same_id x.id id && (x.declares && not x.in_source)) seen

-- the bindings that are new
abbrev pub has_new : NewIds → Id → Bool
has_new ids id = has_id ids.outside id && not (has_id ids.source id)
