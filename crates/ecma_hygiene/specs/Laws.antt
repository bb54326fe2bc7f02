-- What hygiene leaves as it was, and what the texts tell apart.
use Rattle.std.specs.Prelude.{◌≡◌, ◌≢◌, Bool, true, false, ◌&&◌, List, []}
use Rattle.std.specs.List.{list_any}
use Rattle.ecma_tree.specs.declared.node.Node.{Node}
use Rattle.ecma_hygiene.specs.declared.naming.Named.{Named}
use Rattle.ecma_hygiene.specs.declared.sight.Meeting.{Meeting}
use Rattle.ecma_hygiene.specs.declared.sight.Sight.{Sight}
use Rattle.ecma_hygiene.specs.Hygienic.{IsHygienic}
use Rattle.ecma_hygiene.specs.Ids.{Id, same_id}
use Rattle.ecma_hygiene.specs.Renamed.{text_of}
use Rattle.ecma_hygiene.specs.Sights.{meetings, sights}
use Rattle.ecma_hygiene.specs.Texts.{AreTexts, changing_bindings, is_bound, is_new, new_bindings, text_in}

-- where no binding is new, and none changes, the tree stays
abbrev pub NothingChanges : Type 0
NothingChanges = (tree written : Node) → IsHygienic tree written → new_bindings (sights tree) ≡ [] → changing_bindings (sights tree) (meetings tree) ≡ [] → written ≡ tree

-- whether an identifier has an id
abbrev pub is_seen : List Sight → Id → Bool
is_seen seen id = list_any (λ x. same_id x.id id) seen

-- whether a name meets a binding
abbrev pub meets_binding : List Meeting → Id → Id → Bool
meets_binding met name binding = list_any (λ m. same_id m.name name && same_id m.binding binding) met

-- a name and a binding that are two are written as two, where they meet if they have one text in the source
abbrev pub TextsTellApart : Type 0
TextsTellApart = (seen : List Sight) (met : List Meeting) (names : List Named) (name binding : Id) → AreTexts seen met names → is_seen seen name ≡ true → is_bound seen binding ≡ true → name ≢ binding
    → (is_new seen name ≡ false → is_new seen binding ≡ false → name.0 ≡ binding.0 → meets_binding met name binding ≡ true)
    → text_of (text_in names) name ≢ text_of (text_in names) binding
