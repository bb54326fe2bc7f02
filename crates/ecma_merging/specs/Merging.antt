-- What is wrong with declarations that merge, in the lists of a tree.
use Rattle.std.specs.Prelude.{◌≡◌, ℕ, Bool, true, false, ◌&&◌, ◌||◌, not, cond, nat_lt, List, [], ◌∷◌, ◌++◌, Option, Some, None, Result, Ok, Err, bytes_eq, if◌then◌else◌}
use Rattle.std.specs.List.{list_any}
use Rattle.std.specs.Option.{option_map}
use Rattle.ecma_kind.specs.declared.kind.Kind.{Kind}
use Rattle.ecma_kind.specs.declared.kind.Kind.TheVariants as kind
use Rattle.ecma_tree.specs.Sorted.{is_list}
use Rattle.ecma_tree.specs.declared.node.Node.{Node, out-Node}
use Rattle.ecma_walks.specs.Listing.{listed}
use Rattle.ecma_merging.specs.declared.asked.Asked.{Asked}
use Rattle.ecma_merging.specs.declared.asked.Asked.TheVariants as asked
use Rattle.ecma_merging.specs.declared.items.Declared.{Declared}
use Rattle.ecma_merging.specs.declared.error.MergeError.{MergeError}
use Rattle.ecma_merging.specs.declared.error.MergeError.TheVariants.{MixedExport, NoMemory, Redeclared}
use Rattle.ecma_merging.specs.declared.finding.Finding.{Finding}
use Rattle.ecma_merging.specs.declared.given.Given.{Given}
use Rattle.ecma_merging.specs.Items.{declared_in}
use Rattle.ecma_merging.specs.Given.{given_in}

-- ---- in one list

abbrev pub differ : Bool → Bool → Bool
differ true b = not b
differ false b = b

-- whether a declaration adds to one before it, and only one of the two has `export`
--   enum E { A } export enum E { B }   // the second E
--   export class C { } export namespace C { let a; }   // none
abbrev pub is_mixed : List Declared → Declared → Bool
is_mixed earlier d = d.adds && list_any (λ e. bytes_eq e.name d.name && differ e.is_exported d.is_exported) earlier

-- whether a member of this name was given before, by the same enum
--   enum E { A, B } enum E { "A" } enum F { B }   // the second A
abbrev pub is_twice : List Given → Given → Bool
is_twice earlier g = list_any (λ e. bytes_eq e.of g.of && bytes_eq e.name g.name) earlier

-- what is found of those that pass a test with what stands before them
abbrev pub found_among : {A : Type 0} → (List A → A → Bool) → (A → Finding) → List A → List A → List Finding
found_among test finding earlier [] = []
found_among test finding earlier (x ∷ xs) = cond (test earlier x) (finding x ∷ []) [] ++ found_among test finding (earlier ++ x ∷ []) xs

abbrev pub mixed_of : Declared → Finding
mixed_of d = record { name = d.name; at = d.at }

abbrev pub twice_of : Given → Finding
twice_of g = record { name = g.name; at = g.at }

-- in a list whose items are ambient nothing is given
abbrev pub found_in : Asked → Bool → List Node → List Finding
found_in asked.Mixed ambient items = found_among is_mixed mixed_of [] (declared_in ambient items)
found_in asked.Twice ambient items = found_among is_twice twice_of [] (cond ambient [] (given_in items))

-- ---- in all lists of a tree

abbrev pub found_here : Asked → Bool → Node → List Finding
found_here asked ambient node = cond (is_list (out-Node node).kind) (found_in asked ambient (out-Node node).children) []

-- whether what stands in a node is ambient
unfoldable pub is_ambient_in : Bool → Kind → Bool
is_ambient_in ambient (kind.TsModuleDecl declare global) = declare || ambient
is_ambient_in ambient (kind.TsNamespaceDecl declare global) = declare || ambient
is_ambient_in ambient _ = ambient

abbrev pub ambient_at : Bool → Node → ℕ → Option Bool
ambient_at ambient node i = Some (is_ambient_in ambient (out-Node node).kind)

abbrev pub found : Asked → Node → Bool → List Finding
found asked = listed Bool Finding ambient_at (found_here asked)

-- of two findings the one that stands first in the text; where they stand at one offset, the former
abbrev pub sooner : Finding → Finding → Finding
sooner a b = if nat_lt b.at a.at then b else a

-- of some findings and one before them
abbrev pub soonest_from : Finding → List Finding → Finding
soonest_from a [] = a
soonest_from a (b ∷ bs) = soonest_from (sooner a b) bs

abbrev pub soonest : List Finding → Option Finding
soonest [] = None
soonest (first ∷ others) = Some (soonest_from first others)

abbrev pub name_of : Finding → List ℕ
name_of finding = finding.name

abbrev pub first_found : Asked → Node → Option (List ℕ)
first_found asked tree = option_map name_of (soonest (found asked tree false))

-- the name, first in the text, of declarations that merge of which some have `export`, and others none
--   namespace N { enum E { A } export enum E { B } }   // E
abbrev pub first_mixed : Node → Option (List ℕ)
first_mixed = first_found asked.Mixed

-- the name, first in the text, of a member that is given twice among enums that merge
--   enum E { A, B } enum E { B }   // B
abbrev pub first_twice : Node → Option (List ℕ)
first_twice = first_found asked.Twice

-- neither is there, or the former is told, or else the latter
abbrev pub Answers : Result (Unit {0}) MergeError → Option (List ℕ) → Option (List ℕ) → Type 0
Answers (Ok _) mixed twice = (mixed ≡ None) × (twice ≡ None)
Answers (Err (MixedExport name)) mixed twice = mixed ≡ Some name
Answers (Err (Redeclared name)) mixed twice = (mixed ≡ None) × (twice ≡ Some name)
Answers (Err NoMemory) mixed twice = Unit {0}
