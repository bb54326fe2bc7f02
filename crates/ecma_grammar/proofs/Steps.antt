-- A chain, one part at a time.
use Rattle.std.proofs.Common.{◌≡◌, List, [], ◌∷◌, ◌++◌, Option, Bool, ℕ, filter, map, refl, sym, append_assoc, encode_utf8}
use Rattle.std.specs.Str.{chars, encode_utf8_all}
use Rattle.std.proofs.lemmas.List.{append-nil, map-append}
use Rattle.std.proofs.lemmas.List.Elements.{filter-append}
use Rattle.ecma_tree.specs.declared.node.Node.{Node}
use Rattle.ecma_grammar.specs.trees.Chains.{steps, step_on}
use Rattle.ecma_grammar.specs.Reads.{is_no_separator, without_separators}

pub steps-append : (step : Node → Node → Node) (before : Option Node) (xs : List Node) (n : Node) → steps step before (xs ++ n ∷ []) ≡ step_on step (steps step before xs) n
steps-append step before [] n = refl
steps-append step before (x ∷ xs) n = steps-append step (step_on step before x) xs n

pub filtered : (p : Node → Bool) (xs : List Node) (n : Node) → filter p (xs ++ n ∷ []) ≡ filter p xs ++ filter p (n ∷ [])
filtered p xs n = filter-append p xs (n ∷ [])

pub ruleset stepping = (steps-append)

pub ruleset filtering = (filtered, append-nil)

pub mapped : (f : Node → Node) (xs : List Node) (n : Node) → map f (xs ++ n ∷ []) ≡ map f xs ++ f n ∷ []
mapped f xs n = map-append f xs (n ∷ [])

pub ruleset mapping = (mapped, append-nil)

-- characters that are written one behind the other
pub encode_utf8_all-append : (xs ys : List ℕ) → encode_utf8_all (xs ++ ys) ≡ encode_utf8_all xs ++ encode_utf8_all ys
encode_utf8_all-append [] ys = refl
encode_utf8_all-append (x ∷ xs) ys = rw (encode_utf8_all-append xs ys) (sym (append_assoc (encode_utf8 x) (encode_utf8_all xs) (encode_utf8_all ys)))

pub spelled : (p : ℕ → Bool) (xs : List ℕ) (c : ℕ) → encode_utf8_all (filter p (xs ++ c ∷ [])) ≡ encode_utf8_all (filter p xs) ++ encode_utf8_all (filter p (c ∷ []))
spelled p xs c = rw (filter-append p xs (c ∷ [])) (encode_utf8_all-append (filter p xs) (filter p (c ∷ [])))

pub ruleset spelling = (spelled, append-nil)

map-same : (xs : List ℕ) → map (λ c. c) xs ≡ xs
map-same [] = refl
map-same (x ∷ xs) = rw (map-same xs) refl

-- all characters of some digits, without separators
pub spelled-all : (written digits yielded : List ℕ) → written ≡ encode_utf8_all (filter is_no_separator yielded) → map (λ c. c) yielded ≡ chars digits → written ≡ without_separators digits
spelled-all written digits yielded spells all = rw (spells, ← all, map-same) refl
