-- What the scopes of a tree declare and tell apart without its types.
use Rattle.std.proofs.Common.{◌≡◌, inl, inr, ℕ, Bool, false, cond, [], map, get_or, ap}
use Rattle.ecma_strip.specs.Stripping.{stripped}
use Rattle.ecma_hygiene.specs.Ids.{Id, has_context, innermost, own_ids}
use Rattle.ecma_hygiene.specs.Sights.{nowhere}
use Rattle.ecma_hygiene.proofs.Telling.{true-false}
use Rattle.ecma_hygiene_scopes.specs.Apart.{HasOneContext, own_contexts}
use Rattle.ecma_hygiene_scopes.specs.Lasting.{KeepsScope}
use Rattle.ecma_hygiene_scopes.specs.Once.{DeclaresTextsOnce}
use Rattle.ecma_hygiene_scopes.specs.Stops.{Stop, stops}
use Rattle.ecma_strip_scopes.specs.Apart.{IsOther}
use Rattle.ecma_strip_scopes.specs.Laws.{StrippedTellsScopesApart, StrippedTreesDeclareTextsOnce, StrippedTreesSayTheirScopes}
use Rattle.ecma_strip_scopes.proofs.AtStops.{at-stops}
use Rattle.ecma_strip_scopes.proofs.StopsKept.{Comes, IsScopedIn, IsSilent, is-scoped, once-within, one-within}
use Rattle.ecma_strip_scopes.proofs.Walking.{comes-from}

-- ---- at a stop

silent-contexts : (y : Stop) → IsSilent y → own_contexts y ≡ []
silent-contexts y silent = (λ j. cond (silent.shut j) (map (λ id. id.1) (own_ids y.around.role (innermost y.around.scopes) y.node)) [])

come-scoped : (t : Bool) (free : ℕ) (y : Stop) → Comes t (KeepsScope free) y → IsScopedIn t free y
come-scoped t free y (inl silent) other = record {
  absent = λ is. silent.none;
  names = λ s c o is name. absurd (silent.no_name s c o is);
  free_names = λ s c o is name none. absurd (silent.no_name s c o is);
  declares = λ is. absurd (true-false is silent.shut);
  not_free = ap (has_context free) (silent-contexts y silent);
  not_empty = ap (has_context 0) (silent-contexts y silent);
}
come-scoped t free y (inr from) other = is-scoped t from.0.node y.node from.0.around y.around from.0.left y.left from.2 free from.1 other

come-one : (t : Bool) (y : Stop) → Comes t HasOneContext y → HasOneContext y
come-one t y (inl silent) c d h k = absurd (true-false h (ap (has_context c) (silent-contexts y silent)))
come-one t y (inr from) c d h k = one-within t from.0.node y.node from.0.around y.around from.0.left y.left from.2 from.1 c d h k

come-once : (t : Bool) (made left : Id → Bool) → ((id : Id) → left id ≡ false → made id ≡ false) → (y : Stop) → Comes t (λ x. DeclaresTextsOnce made x.node x.around) y → DeclaresTextsOnce left y.node y.around
come-once t made left still y (inl silent) is = absurd (true-false is silent.shut)
come-once t made left still y (inr from) is = once-within t from.0.node y.node from.0.around y.around from.0.left y.left from.2 made left still from.1 is

-- ---- the laws

pub stripped-says-scopes : StrippedTreesSayTheirScopes
stripped-says-scopes t free left less shape tree has keeps clear wrapped others =
    let come = comes-from t (KeepsScope free) left less shape tree has keeps clear wrapped in
    let other_stops = at-stops (IsOther t) (stripped tree) nowhere less others in
    λ k d lt. come-scoped t free (get_or (stops less (stripped tree)) k d) (come.0 k d lt) (other_stops k d lt)

pub stripped-declares-once : StrippedTreesDeclareTextsOnce
stripped-declares-once t made left count less shape tree has still once clear wrapped others =
    let come = comes-from t (λ stop. DeclaresTextsOnce made stop.node stop.around) count less shape tree has once clear wrapped in
    λ k d lt. come-once t made left still (get_or (stops less (stripped tree)) k d) (come.0 k d lt)

pub stripped-tells-apart : StrippedTellsScopesApart
stripped-tells-apart t free left less shape tree has keeps clear wrapped others =
    let come = comes-from t HasOneContext left less shape tree has keeps.one clear wrapped in
    record {
      scoped = stripped-says-scopes t free left less shape tree has keeps.scoped clear wrapped others;
      one = λ k d lt. come-one t (get_or (stops less (stripped tree)) k d) (come.0 k d lt);
      apart = come.1.apart keeps.apart;
      there = keeps.there;
    }
