-- What a module exports (ECMAScript, 16.2.3 Exports, 16.2.1.6 Source Text Module Records).
use Rattle.std.specs.Prelude.{List, [], ◌∷◌, ℕ, Bool, true, false, Option, Some, None, map}
use Rattle.ecma_runs.specs.State.{Id}

-- an entry of what a module exports
pub data Exported : Type 0 where
  -- a variable of its own, under a name, or under its own one
  Local : Option (List ℕ) → Id → Exported
  -- under a name, what another module exports: the source, and the name there, which is `*` for the whole
  Indirect : List ℕ → List ℕ → List ℕ → Exported
  -- all that another module exports
  Star : Exported

-- the name under which a variable is exported
abbrev pub local_name : Option (List ℕ) → Id → List ℕ
local_name None id = id.sym
local_name (Some name) id = name

-- these variables under a name
abbrev pub local_as : Option (List ℕ) → List Id → List Exported
local_as None ids = []
local_as (Some name) ids = map (Local (Some name)) ids

-- a name of another module
abbrev pub indirect_as : Option (List ℕ) → Option (List ℕ) → Option (List ℕ) → List Exported
indirect_as (Some name) (Some source) (Some imported) = Indirect name source imported ∷ []
indirect_as name source imported = []

-- what is known of entries

-- the variables among them
abbrev pub local_ids : List Exported → List Id
local_ids [] = []
local_ids (Local name id ∷ entries) = id ∷ local_ids entries
local_ids (Indirect name source imported ∷ entries) = local_ids entries
local_ids (Star ∷ entries) = local_ids entries

-- those that are exported under their own names
abbrev pub export_names : List Exported → List Id
export_names [] = []
export_names (Local None id ∷ entries) = id ∷ export_names entries
export_names (Local (Some name) id ∷ entries) = export_names entries
export_names (Indirect name source imported ∷ entries) = export_names entries
export_names (Star ∷ entries) = export_names entries

abbrev pub has_star : List Exported → Bool
has_star [] = false
has_star (Star ∷ entries) = true
has_star (Local name id ∷ entries) = has_star entries
has_star (Indirect name source imported ∷ entries) = has_star entries
