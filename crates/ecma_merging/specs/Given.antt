-- The members that the enums of a list give.
use Rattle.std.specs.Prelude.{ℕ, Bool, true, false, not, cond, List, [], ◌∷◌, Option, Some, None, slice_get}
use Rattle.std.specs.List.{flat_map}
use Rattle.std.specs.Option.{option_map_or}
use Rattle.ecma_kind.specs.declared.ident.Ident.{Ident}
use Rattle.ecma_kind.specs.declared.kind.Kind.{Kind}
use Rattle.ecma_kind.specs.declared.kind.Kind.TheVariants as kind
use Rattle.ecma_tree.specs.declared.node.Node.{Node, out-Node}
use Rattle.ecma_merging.specs.declared.given.Given.{Given}
use Rattle.ecma_merging.specs.Items.{declaration_of, name_in}

-- a member is written as a name or as a text
unfoldable pub key_text : Kind → Option (List ℕ)
key_text (kind.Ident sym ctxt optional) = Some sym
key_text (kind.Str text raw) = Some text
key_text _ = None

abbrev pub given_if : List ℕ → ℕ → Option (List ℕ) → List Given
given_if of at (Some name) = record { of = of; name = name; at = at } ∷ []
given_if of at None = []

abbrev pub given_by_key : List ℕ → Node → List Given
given_by_key of key = given_if of (out-Node key).span.lo (key_text (out-Node key).kind)

-- what a member of an enum of this name gives
abbrev pub given_by_member : List ℕ → Node → List Given
given_by_member of member = option_map_or (given_by_key of) (slice_get (out-Node member).children 0) []

abbrev pub members_of : Node → List Node
members_of node = option_map_or (λ list. (out-Node list).children) (slice_get (out-Node node).children 1) []

abbrev pub given_by_enum : Node → Option Ident → List Given
given_by_enum node (Some name) = flat_map (given_by_member name.sym) (members_of node)
given_by_enum node None = []

unfoldable pub is_staying_enum : Kind → Bool
is_staying_enum (kind.TsEnumDecl declare is_const) = not declare
is_staying_enum _ = false

abbrev pub given_by : Node → List Given
given_by node = cond (is_staying_enum (out-Node node).kind) (given_by_enum node (name_in node)) []

abbrev pub given_at : Node → List Given
given_at item = option_map_or given_by (declaration_of item) []

-- the members of the enums of a list that are not ambient, in the order of the text
--   enum E { A, "B" } export enum F { A } declare enum E { C }   // A and B of E, A of F
abbrev pub given_in : List Node → List Given
given_in = flat_map given_at
