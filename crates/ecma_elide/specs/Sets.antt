-- What the code keeps of the names of a module.
use Rattle.std.specs.Prelude.{ℕ, Bool, false, List, Option, Some, None, bytes_eq, nat_eq}
use Rattle.std.specs.HashMap.{get}
use Rattle.std.specs.HashSet.{HashSet, contains}
use Rattle.ecma_scope.specs.Uses.{UsedId}
use Rattle.ecma_elide.specs.declared.known.Names.{Names}
use Rattle.ecma_elide.specs.declared.known.Used.{Used}
use Rattle.ecma_elide.specs.Rules.{Known}

abbrev pub has_text : {S : Type 0} → Option (HashSet (List ℕ) S) → List ℕ → Bool
has_text None text = false
has_text (Some texts) text = contains bytes_eq texts text

-- whether an id is used: its context has a set of texts, and the id's text is in it
abbrev pub is_used_by : Used → UsedId → Bool
is_used_by used id = has_text (get nat_eq used.texts id.1) id.0

abbrev pub known_by : Names → Known
known_by names = record {
  is_used = is_used_by names.used;
  is_value = contains bytes_eq names.values;
  is_type = contains bytes_eq names.types;
  keeps_imports = names.keeps_imports;
}
