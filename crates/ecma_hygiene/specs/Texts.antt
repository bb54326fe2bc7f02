-- The texts that bindings get.
use Rattle.std.specs.Prelude.{◌≡◌, ℕ, ◌≤◌, ◌<◌, Bool, true, false, ◌&&◌, ◌||◌, not, List, [], ◌∷◌, ◌++◌, filter, map, Option, Some, None, bytes_eq, cond}
use Rattle.std.specs.List.{list_any}
use Rattle.std.specs.Fmt.{decimal}
use Rattle.ecma_tree.specs.declared.node.Node.{Node}
use Rattle.ecma_hygiene.specs.declared.sight.Sight.{Sight}
use Rattle.ecma_hygiene.specs.declared.sight.Meeting.{Meeting}
use Rattle.ecma_hygiene.specs.declared.naming.Named.{Named}
use Rattle.ecma_hygiene.specs.Ids.{Id, same_id}
use Rattle.ecma_hygiene.specs.Sights.{meetings, sights}

-- ---- which bindings

-- whether an identifier of an id stands in the source, and whether one is declared
abbrev pub is_in_source : List Sight → Id → Bool
is_in_source seen id = list_any (λ x. same_id x.id id && x.in_source) seen

abbrev pub is_bound : List Sight → Id → Bool
is_bound seen id = list_any (λ x. same_id x.id id && x.declares) seen

-- a binding is new where each of its identifiers stands in no source
abbrev pub is_new : List Sight → Id → Bool
is_new seen id = is_bound seen id && not (is_in_source seen id)

-- the ids, each where it stands first, but for those that were met before
abbrev pub distinct : (Id → Bool) → List Id → List Id
distinct met [] = []
distinct met (id ∷ ids) = cond (met id) (distinct met ids) (id ∷ distinct (λ other. same_id id other || met other) ids)

abbrev pub declared_in : List Sight → List Id
declared_in seen = map (λ x. x.id) (filter (λ x. x.declares) seen)

abbrev pub none : Id → Bool
none id = false

-- the bindings, in the order of their first declarations
abbrev pub bindings : List Sight → List Id
bindings seen = distinct none (declared_in seen)

abbrev pub new_bindings : List Sight → List Id
new_bindings seen = filter (is_new seen) (bindings seen)

-- a binding meets a name of the source, or a free one
abbrev pub is_met : List Sight → List Meeting → Id → Bool
is_met seen met id = list_any (λ m. same_id m.binding id && not (is_new seen m.name)) met

-- so a binding of the source changes
abbrev pub changes : List Sight → List Meeting → Id → Bool
changes seen met id = not (is_new seen id) && is_met seen met id

abbrev pub changing_bindings : List Sight → List Meeting → List Id
changing_bindings seen met = filter (changes seen met) (bindings seen)

-- ---- which texts

-- whether a text is had
abbrev pub Had : Type 0
Had = List ℕ → Bool

-- by an identifier that is not new
abbrev pub source_has : List Sight → Had
source_has seen text = list_any (λ x. bytes_eq x.id.0 text && not (is_new seen x.id)) seen

-- by what had it before, or by one more
abbrev pub with_text : List ℕ → Had → Had
with_text text had other = bytes_eq text other || had other

abbrev pub had_with : List Named → Had → Had
had_with [] had = had
had_with (named ∷ names) had = had_with names (with_text named.text had)

-- the text with the least number from 1 after it that none has
pub record IsNumbered (had : Had) (text result : List ℕ) : Type 0 where
  pub number : ℕ
  pub positive : 1 ≤ number
  pub is : result ≡ text ++ decimal number
  pub none_has : had result ≡ false
  pub least : (k : ℕ) → 1 ≤ k → k < number → had (text ++ decimal k) ≡ true

-- the text itself where none has it, else with a number after it
abbrev pub IsBaseOrNumbered : Had → List ℕ → List ℕ → Type 0
IsBaseOrNumbered had text result = cond (had text) (IsNumbered had text result) (result ≡ text)

-- which of the two: a new name may have its base text
abbrev pub rule : Bool → Had → List ℕ → List ℕ → Type 0
rule true = IsBaseOrNumbered
rule false = IsNumbered

-- the texts that ids get one after the other, each by this rule on the texts that are had by then
abbrev pub GetTexts : Bool → Had → List Id → List Named → Type 0
GetTexts may_keep had [] [] = Unit {0}
GetTexts may_keep had (id ∷ ids) (named ∷ names) = (named.id ≡ id) × rule may_keep had id.0 named.text × GetTexts may_keep (with_text named.text had) ids names
GetTexts may_keep had _ _ = ⊥

-- new names come first; then those of the source that change
pub record AreTexts (seen : List Sight) (met : List Meeting) (names : List Named) : Type 0 where
  pub new : List Named
  pub changed : List Named
  pub are : names ≡ new ++ changed
  pub of_new : GetTexts true (source_has seen) (new_bindings seen) new
  pub of_changed : GetTexts false (had_with new (source_has seen)) (changing_bindings seen met) changed

abbrev pub HygienicTexts : Node → List Named → Type 0
HygienicTexts tree names = AreTexts (sights tree) (meetings tree) names

-- the text that an id gets, and before these this one
abbrev pub last_text : List Named → Id → Option (List ℕ) → Option (List ℕ)
last_text [] id before = before
last_text (named ∷ names) id before = last_text names id (cond (same_id named.id id) (Some named.text) before)

abbrev pub text_in : List Named → Id → Option (List ℕ)
text_in names id = last_text names id None
