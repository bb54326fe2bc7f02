-- Exports are read alike where their variables stay, and what names them keeps its text.
use Rattle.std.proofs.Common.{◌≡◌, ℕ, refl, sym, ap, ap₂, ◌∙◌, subst, List, [], ◌∷◌, Option, Bool, true, false, not, ◌&&◌, ◌||◌, bytes_eq}
use Rattle.ecma_runs.specs.Values.{Undefined}
use Rattle.ecma_runs.specs.State.{Id, Entered}
use Rattle.ecma_runs.specs.Host.{import_value}
use Rattle.ecma_runs.specs.Exports.{Exported, Local, Indirect, Star, local_ids, has_star}
use Rattle.ecma_runs.specs.Observation.{is_named, is_alone, same_export, read_local, read_entry, read_from, read_export}
use Rattle.ecma_runs.proofs.Names.{Naming, ToldApart, EachTold, keep, same_id-changed, changed_scope}
use Rattle.ecma_runs.proofs.Exports.{changed_entry, is_kept, changed_exports, KeepsEach, KeepsExports, has_star-changed}
use Rattle.ecma_runs.proofs.Alike.{Change, Alike, give_alike, outside_alike, when_alike}
use Rattle.ecma_runs.proofs.Environments.{AllKnown, first_known, read_variable_alike, taken_if_alike}
use Rattle.ecma_runs.proofs.Meanings.{at, World, first, second}

-- the first of these scopes has these ids
abbrev pub IsFirst : List Entered → List Id → Type 0
IsFirst [] ids = Unit {0}
IsFirst (e ∷ outer) ids = e.ids ≡ ids

module _ (names : Naming) where
  -- an entry is alone where its image is
  local_alone : (asked : List ℕ) (ids : List Id) (name : Option (List ℕ)) (id : Id) → names.kept id ≡ true → (entries : List Exported) → KeepsEach names ids entries → EachTold names (id ∷ []) (local_ids entries)
      → is_alone asked (Local name (names.to id)) (changed_exports names entries) ≡ is_alone asked (Local name id) entries
  local_alone asked ids name id kept [] keeps told = refl
  local_alone asked ids name id kept (Local other oid ∷ entries) keeps told =
      ap (λ b. is_alone asked (Local name (names.to id)) (keep b (Local other (names.to oid)) (changed_exports names entries))) keeps.0
      ∙ ap₂ (λ x y. x && y) (ap₂ (λ x y. not x || y) (ap (λ text. bytes_eq text asked) keeps.1) (same_id-changed names id [] oid told.0 kept keeps.0))
      (local_alone asked ids name id kept entries keeps.4 told.1)
  local_alone asked ids name id kept (Indirect other source imported ∷ entries) keeps told =
      ap (λ b. (not (bytes_eq other asked) || false) && b) (local_alone asked ids name id kept entries keeps told)
  local_alone asked ids name id kept (Star ∷ entries) keeps told = local_alone asked ids name id kept entries keeps told

  indirect_alone : (asked : List ℕ) (ids : List Id) (name source imported : List ℕ) (entries : List Exported) → KeepsEach names ids entries
      → is_alone asked (Indirect name source imported) (changed_exports names entries) ≡ is_alone asked (Indirect name source imported) entries
  indirect_alone asked ids name source imported [] keeps = refl
  indirect_alone asked ids name source imported (Local other oid ∷ entries) keeps =
      ap (λ b. is_alone asked (Indirect name source imported) (keep b (Local other (names.to oid)) (changed_exports names entries))) keeps.0
      ∙ ap₂ (λ x y. x && y) (ap (λ text. not (bytes_eq text asked) || false) keeps.1) (indirect_alone asked ids name source imported entries keeps.4)
  indirect_alone asked ids name source imported (Indirect other source' imported' ∷ entries) keeps =
      ap (λ b. (not (bytes_eq other asked) || same_export (Indirect name source imported) (Indirect other source' imported')) && b) (indirect_alone asked ids name source imported entries keeps)
  indirect_alone asked ids name source imported (Star ∷ entries) keeps = indirect_alone asked ids name source imported entries keeps

module _ (c : Change) {a : List Entered} (w : World (at c a)) (ids : List Id) where
  abbrev d : Change
  d = at c a

  local_alike : (scope : List Entered) → AllKnown d scope → IsFirst scope ids → (id : Id) → ToldApart c.names ids id → c.names.kept id ≡ true
      → Alike d (read_local (first d w) scope id) (read_local (second d w) (changed_scope c.names scope) (c.names.to id))
  local_alike [] there is id told kept = outside_alike d
  local_alike (e ∷ outer) there is id told kept = read_variable_alike d e (first_known d e outer there) id (subst (λ z. ToldApart c.names z id) (sym is) told) w.provided.imports kept

  module _ (is : IsFirst w.scope ids) (star : Bool) (asked : List ℕ) where
    from_step : (entry : Exported) (entries : List Exported) → is_kept c.names entry ≡ true → is_named asked (changed_entry c.names entry) ≡ is_named asked entry
        → is_alone asked (changed_entry c.names entry) (changed_exports c.names entries) ≡ is_alone asked entry entries → Alike d (read_entry (first d w) entry) (read_entry (second d w) (changed_entry c.names entry))
        → Alike d (read_from (first d w) star asked entries) (read_from (second d w) star asked (changed_exports c.names entries))
        → Alike d (read_from (first d w) star asked (entry ∷ entries)) (read_from (second d w) star asked (changed_exports c.names (entry ∷ entries)))
    from_step entry entries kept named alone here rest =
        rw (kept, named, alone) (when_alike d (is_named asked entry) (when_alike d (is_alone asked entry entries) here (outside_alike d)) rest)

    from_alike : (entries : List Exported) → KeepsEach c.names ids entries → Alike d (read_from (first d w) star asked entries) (read_from (second d w) star asked (changed_exports c.names entries))
    from_alike [] keeps = when_alike d star (outside_alike d) (give_alike d Undefined)
    from_alike (Local name id ∷ entries) keeps =
        from_step (Local name id) entries keeps.0 (ap (λ text. bytes_eq text asked) keeps.1) (local_alone c.names asked ids name id keeps.0 entries keeps.4 keeps.3)
        (local_alike w.scope w.there is id keeps.2 keeps.0) (from_alike entries keeps.4)
    from_alike (Indirect name source imported ∷ entries) keeps =
        from_step (Indirect name source imported) entries refl refl (indirect_alone c.names asked ids name source imported entries keeps)
        (taken_if_alike d (import_value w.provided.imports source imported)) (from_alike entries keeps)
    from_alike (Star ∷ entries) keeps = from_alike entries keeps

  pub read_export_alike : IsFirst w.scope ids → (entries : List Exported) → KeepsExports c.names ids entries → (name : List ℕ)
      → Alike d (read_export (first d w) entries name) (read_export (second d w) (changed_exports c.names entries) name)
  read_export_alike is entries keeps name = rw (has_star-changed c.names entries) (from_alike is (has_star entries) name entries keeps.each)
