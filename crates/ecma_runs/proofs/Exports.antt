-- What a map of names does to exports, and what it has to keep of them.
use Rattle.std.proofs.Common.{◌≡◌, ℕ, refl, sym, ap, ◌∙◌, List, [], ◌∷◌, ◌++◌, map, Option, Some, None, Bool, true, false, cond}
use Rattle.ecma_runs.specs.State.{Id, default_name}
use Rattle.ecma_runs.specs.Names.{TextsStay}
use Rattle.ecma_runs.specs.Exports.{Exported, Local, Indirect, Star, local_name, local_as, indirect_as, local_ids, export_names, has_star}
use Rattle.ecma_runs.proofs.Names.{Naming, unless_plain, Told, ToldApart, EachTold, keep, keep-append, changed_ids}

module _ (names : Naming) where
  abbrev pub changed_entry : Exported → Exported
  changed_entry (Local name id) = Local name (names.to id)
  changed_entry (Indirect name source imported) = Indirect name source imported
  changed_entry Star = Star

  -- an entry goes with its variable
  abbrev pub is_kept : Exported → Bool
  is_kept (Local name id) = names.kept id
  is_kept (Indirect name source imported) = true
  is_kept Star = true

  abbrev pub changed_exports : List Exported → List Exported
  changed_exports [] = []
  changed_exports (entry ∷ entries) = keep (is_kept entry) (changed_entry entry) (changed_exports entries)

  pub changed_exports-append : (xs ys : List Exported) → changed_exports (xs ++ ys) ≡ changed_exports xs ++ changed_exports ys
  changed_exports-append [] ys = refl
  changed_exports-append (x ∷ xs) ys = ap (keep (is_kept x) (changed_entry x)) (changed_exports-append xs ys) ∙ keep-append (is_kept x) (changed_entry x) (changed_exports xs) (changed_exports ys)

  -- entries that are made of names

  one_local : (b : Bool) (name : Option (List ℕ)) (id : Id) (ids : List Id) (entries : List Exported) → map (Local name) ids ≡ entries
      → map (Local name) (keep b (names.to id) ids) ≡ keep b (Local name (names.to id)) entries
  one_local true name id ids entries e = ap (λ z. Local name (names.to id) ∷ z) e
  one_local false name id ids entries e = e

  pub locals-changed : (name : Option (List ℕ)) (ids : List Id) → map (Local name) (changed_ids names ids) ≡ changed_exports (map (Local name) ids)
  locals-changed name [] = refl
  locals-changed name (id ∷ ids) = one_local (names.kept id) name id (changed_ids names ids) (changed_exports (map (Local name) ids)) (locals-changed name ids)

  pub local_as-changed : (name : Option (List ℕ)) (ids : List Id) → local_as name (changed_ids names ids) ≡ changed_exports (local_as name ids)
  local_as-changed None ids = refl
  local_as-changed (Some name) ids = locals-changed (Some name) ids

  pub indirect_as-changed : (name source imported : Option (List ℕ)) → indirect_as name source imported ≡ changed_exports (indirect_as name source imported)
  indirect_as-changed None source imported = refl
  indirect_as-changed (Some name) None imported = refl
  indirect_as-changed (Some name) (Some source) None = refl
  indirect_as-changed (Some name) (Some source) (Some imported) = refl

  -- the variable of a default export without a name keeps its name
  abbrev pub KeepsDefault : Type 0
  KeepsDefault = (names.kept default_name ≡ true) × (names.to default_name ≡ default_name)

  pub default_ids : KeepsDefault → changed_ids names (default_name ∷ []) ≡ default_name ∷ []
  default_ids kept = rw (kept.0, kept.1) refl

  -- where it is missing
  pub default_if : KeepsDefault → (b b' : Bool) → b' ≡ b → cond b' (default_name ∷ []) [] ≡ changed_ids names (cond b (default_name ∷ []) [])
  default_if kept true b' e = rw e (sym (default_ids kept))
  default_if kept false b' e = rw e refl

  -- what has to be kept of exports: variables that are exported stay, told from each other and from those with these names, and what names exports keeps its text
  abbrev pub KeepsEach : List Id → List Exported → Type 0
  KeepsEach ids [] = Unit {0}
  KeepsEach ids (Local name id ∷ entries) =
      (names.kept id ≡ true) × (local_name name (names.to id) ≡ local_name name id) × ToldApart names ids id × EachTold names (id ∷ []) (local_ids entries) × KeepsEach ids entries
  KeepsEach ids (Indirect name source imported ∷ entries) = KeepsEach ids entries
  KeepsEach ids (Star ∷ entries) = KeepsEach ids entries

  pub record KeepsExports (ids : List Id) (entries : List Exported) : Type 0 where
    pub each : KeepsEach ids entries

-- the variables that are exported pass a test
abbrev pub LocalsPass : (Id → Bool) → List Exported → Type 0
LocalsPass test [] = Unit {0}
LocalsPass test (Local name id ∷ entries) = (test id ≡ true) × LocalsPass test entries
LocalsPass test (Indirect name source imported ∷ entries) = LocalsPass test entries
LocalsPass test (Star ∷ entries) = LocalsPass test entries

module _ (names : Naming) where
  each_plain : names.plain ≡ true → (ids others : List Id) → EachTold names ids others
  each_plain is ids [] = tt
  each_plain is ids (id ∷ others) = (unless_plain names.plain is (Told names ids id), each_plain is ids others)

  -- where exported variables are told, and stay
  module _ (ids : List Id) (Apart : List Exported → Type 0)
      (locals : (name : Option (List ℕ)) (id : Id) (entries : List Exported) → Apart (Local name id ∷ entries) → ToldApart names ids id × EachTold names (id ∷ []) (local_ids entries) × Apart entries)
      (others : (name source imported : List ℕ) (entries : List Exported) → Apart (Indirect name source imported ∷ entries) → Apart entries)
      (stars : (entries : List Exported) → Apart (Star ∷ entries) → Apart entries) where
    pub keeps_each : (entries : List Exported) → LocalsPass names.kept entries → TextsStay names.to (export_names entries) → Apart entries → KeepsEach names ids entries
    keeps_each [] pass texts apart = tt
    keeps_each (Local None id ∷ entries) pass texts apart = let t = locals None id entries apart in (pass.0, texts.0, t.0, t.1, keeps_each entries pass.1 texts.1 t.2)
    keeps_each (Local (Some name) id ∷ entries) pass texts apart = let t = locals (Some name) id entries apart in (pass.0, refl, t.0, t.1, keeps_each entries pass.1 texts t.2)
    keeps_each (Indirect name source imported ∷ entries) pass texts apart = keeps_each entries pass texts (others name source imported entries apart)
    keeps_each (Star ∷ entries) pass texts apart = keeps_each entries pass texts (stars entries apart)

  -- where names are told apart everywhere
  pub keeps_plain : names.plain ≡ true → (ids : List Id) (entries : List Exported) → LocalsPass names.kept entries → TextsStay names.to (export_names entries) → KeepsExports names ids entries
  keeps_plain is ids entries pass texts = record {
    each = keeps_each ids (λ entries. Unit {0})
        (λ name id entries h. (unless_plain names.plain is (Told names ids id), each_plain is (id ∷ []) (local_ids entries), tt)) (λ name source imported entries h. tt) (λ entries h. tt) entries pass texts tt;
  }

  star_kept : (entries : List Exported) (b : Bool) (name : Option (List ℕ)) (id : Id) → has_star (keep b (Local name id) entries) ≡ has_star entries
  star_kept entries true name id = refl
  star_kept entries false name id = refl

  pub has_star-changed : (entries : List Exported) → has_star (changed_exports names entries) ≡ has_star entries
  has_star-changed [] = refl
  has_star-changed (Local name id ∷ entries) = star_kept (changed_exports names entries) (names.kept id) name (names.to id) ∙ has_star-changed entries
  has_star-changed (Indirect name source imported ∷ entries) = has_star-changed entries
  has_star-changed (Star ∷ entries) = refl
