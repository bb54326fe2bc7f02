-- Identifiers as values of the kinds that are like identifiers.
use Rattle.std.specs.Prelude.{◌≡◌, ℕ, Bool, true, ◌||◌, ◌==◌, List, [], ◌∷◌, Option, Some, None, if◌then◌else◌}
use Rattle.std.specs.List.{list_any}
use Rattle.std.specs.HashSet.{HashSet, contains}
use Rattle.ecma_kind.specs.declared.ident.Ident.{Ident}
use Rattle.ecma_tree.specs.declared.node.Node.{Node}
use Rattle.ecma_tree.specs.Idents.{ident_of}

-- whether a context is the one that is asked for, if one is
abbrev pub is_asked : Option ℕ → ℕ → Bool
is_asked None ctxt = true
is_asked (Some only) ctxt = ctxt == only

abbrev pub each_as : (I : Type 0) → (Ident → I) → Option ℕ → Option Ident → List I
each_as I of_ident only (Some ident) = if is_asked only ident.ctxt then of_ident ident ∷ [] else []
each_as I of_ident only None = []

-- what stands for the identifier that a node is, if its context is the one that is asked for
abbrev pub name_in : (I : Type 0) → (Ident → I) → Option ℕ → Node → List I
name_in I of_ident only node = each_as I of_ident only (ident_of node)

-- whatever its context
abbrev pub name_as : (I : Type 0) → (Ident → I) → Node → List I
name_as I of_ident = name_in I of_ident None

-- the node itself
abbrev pub itself : Node → List Node
itself node = node ∷ []

-- a set has exactly these items besides those that it had
abbrev pub AddsAll : (I S : Type 0) → (I → I → Bool) → HashSet I S → HashSet I S → List I → Type 0
AddsAll I S eq old new items = (item : I) → contains eq new item ≡ (contains eq old item || list_any (eq item) items)

-- it has exactly these
abbrev pub HoldsAll : (I S : Type 0) → (I → I → Bool) → HashSet I S → List I → Type 0
HoldsAll I S eq set items = (item : I) → contains eq set item ≡ list_any (eq item) items
