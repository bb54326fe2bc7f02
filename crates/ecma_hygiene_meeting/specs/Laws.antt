-- Where names that share a text may become one name.
use Rattle.std.specs.Prelude.{◌≡◌, ℕ, List}
use Rattle.ecma_tree.specs.declared.node.Node.{Node}
use Rattle.ecma_hygiene.specs.declared.naming.Named.{Named}
use Rattle.ecma_hygiene.specs.Renamed.{Texts}
use Rattle.ecma_hygiene.specs.Texts.{HygienicTexts, text_in}
use Rattle.ecma_runs.specs.State.{Id}
use Rattle.ecma_runs.specs.Meeting.{MayMeet}
use Rattle.ecma_runs.specs.Names.{TextsStay, keys_in}
use Rattle.ecma_hygiene_meeting.specs.Records.{RecordsAreScopes}
use Rattle.ecma_hygiene_meeting.specs.Texts.{IsReadByTexts, KeepsExports, KeepsFreeApart, NamesAreTold, sent}
use Rattle.ecma_hygiene_meeting.specs.Meets.{Meets}

-- texts by which nothing is captured, with one map of contexts that keeps free names apart and the empty one, are a map under which names may meet, but for keys, in a module
-- that exports variables of its own, names that it looks up and free ones, of which those that are exported under their own names keep their texts
abbrev pub WhatIsNotCapturedMeets : Type 0
WhatIsNotCapturedMeets =
    (texts : Texts) (free : ℕ) (to : ℕ → ℕ) (tree : Node) → RecordsAreScopes tree → IsReadByTexts texts free tree → KeepsFreeApart to free → to 0 ≡ 0 → KeepsExports texts free tree
    → Meets (sent to texts) tree

-- so are final texts
abbrev pub FinalTextsMeet : Type 0
FinalTextsMeet =
    (names : List Named) (free : ℕ) (to : ℕ → ℕ) (tree : Node) → HygienicTexts tree names → RecordsAreScopes tree → NamesAreTold (text_in names) free tree → KeepsFreeApart to free
    → to 0 ≡ 0 → KeepsExports (text_in names) free tree → Meets (sent to (text_in names)) tree

-- with what is asked of keys names may meet under such a map
abbrev pub WhatMeetsMayMeet : Type 0
WhatMeetsMayMeet = (to : Id → Id) (tree : Node) → Meets to tree → TextsStay to (keys_in tree) → MayMeet to tree
