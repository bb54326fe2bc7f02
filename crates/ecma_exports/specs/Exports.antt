-- Exports that name nothing, and exported names that an identifier further in would be caught by (ECMAScript, 16.2.3.1).
use Rattle.std.specs.Prelude.{◌≡◌, ℕ, Bool, List, [], ◌∷◌, Option, Some, None, Result, Ok, Err, bytes_eq, cond}
use Rattle.std.specs.List.{list_any}
use Rattle.ecma_tree.specs.declared.node.Node.{Node}
use Rattle.ecma_walks.specs.Listing.{first_item}
use Rattle.ecma_exports.specs.declared.error.ExportError.{ExportError}
use Rattle.ecma_exports.specs.declared.error.ExportError.TheVariants.{Captured, NoMemory, Unbound}
use Rattle.ecma_exports.specs.declared.place.Place.TheVariants as place
use Rattle.ecma_exports.specs.Places.{texts_in}

-- of a resolved module in which free names have this context: the names that it exports in braces, and that no scope declares as values that stay
--   export { a }; export { b as c }; let b; export { type d };   // a
abbrev pub unbound_names : ℕ → Node → List (List ℕ)
unbound_names free tree = texts_in free tree place.Lists

-- the names that it declares behind `export`, as values that stay: other modules know them by their texts, so these may not change
--   export let a = 1; export declare let b: T; let c; export { c };   // a
abbrev pub exported_names : ℕ → Node → List (List ℕ)
exported_names free tree = texts_in free tree place.Declarations

-- the texts of identifiers that stay in the output, and that no scope declares
--   { declare const f: any; f(); }   // f
abbrev pub free_names : ℕ → Node → List (List ℕ)
free_names free tree = texts_in free tree place.Anywhere

abbrev pub is_among : List (List ℕ) → List ℕ → Bool
is_among texts text = list_any (λ t. bytes_eq t text) texts

-- the first text that is among others
abbrev pub first_among : List (List ℕ) → List (List ℕ) → Option (List ℕ)
first_among others [] = None
first_among others (text ∷ texts) = cond (is_among others text) (Some text) (first_among others texts)

-- the first name that is exported and names nothing
abbrev pub first_unbound : ℕ → Node → Option (List ℕ)
first_unbound free tree = first_item (List ℕ) (unbound_names free tree)

-- the first exported name whose text has to change, since an identifier of it in the output is free: it would name what is exported
--   { declare const f: any; f(); } export let f = 1;   // f
abbrev pub first_captured : ℕ → Node → Option (List ℕ)
first_captured free tree = first_among (free_names free tree) (exported_names free tree)

-- neither is there, or the former is told, or else the latter
abbrev pub Answers : Result (Unit {0}) ExportError → Option (List ℕ) → Option (List ℕ) → Type 0
Answers (Ok _) unbound captured = (unbound ≡ None) × (captured ≡ None)
Answers (Err (Unbound name)) unbound captured = unbound ≡ Some name
Answers (Err (Captured name)) unbound captured = (unbound ≡ None) × (captured ≡ Some name)
Answers (Err NoMemory) unbound captured = Unit {0}
