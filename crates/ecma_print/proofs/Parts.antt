-- The children of a node one by one, each by itself.
use Rattle.std.proofs.Common.{◌≡◌, ℕ, zero, suc, ◌+◌, ◌<◌, ◌≤◌, List, [], ◌∷◌, map, drop, length, Some, slice_get, refl, ap, ◌∙◌, arith, add-one}
use Rattle.ecma_tree.specs.declared.node.Node.{Node, out-Node}
use Rattle.ecma_print.specs.Pieces.{Piece}
use Rattle.ecma_print.specs.Expressions.{first_piece, others, substitution, template_parts}
use Rattle.ecma_print.specs.Layout.{laid, by_itself}
use Rattle.ecma_print.proofs.LaidOut.{laid_parts}

abbrev pub parts_of : List Node → List Piece
parts_of xs = map by_itself (map laid xs)

first_of_parts : (xs : List Node) (i : ℕ) (x : Node) → slice_get xs i ≡ Some x → first_piece (drop i (parts_of xs)) ≡ by_itself (laid x)
first_of_parts [] i x at = cc
first_of_parts (y ∷ ys) zero x at = let same : y ≡ x = cc in ap (λ z. by_itself (laid z)) same
first_of_parts (y ∷ ys) (suc i) x at = first_of_parts ys i x at

pub first_part : (n : Node) (i : ℕ) (x : Node) → slice_get (out-Node n).children i ≡ Some x → first_piece (drop i (laid n).parts) ≡ by_itself (laid x)
first_part n i x at = rw (laid_parts n) (first_of_parts (out-Node n).children i x at)

length-parts : (xs : List Node) → length (parts_of xs) ≡ length xs
length-parts [] = refl
length-parts (x ∷ xs) = ap suc (length-parts xs)

drop-none : (ps : List Piece) (i : ℕ) → length ps ≤ i → drop i ps ≡ []
drop-none [] zero past = refl
drop-none [] (suc i) past = refl
drop-none (p ∷ ps) zero past = absurd (omega arith)
drop-none (p ∷ ps) (suc i) past = drop-none ps i (omega arith)

drop-some : (ps : List Piece) (i : ℕ) → i < length ps → drop i ps ≡ first_piece (drop i ps) ∷ drop (suc i) ps
drop-some [] i within = absurd (omega arith)
drop-some (p ∷ ps) zero within = refl
drop-some (p ∷ ps) (suc i) within = drop-some ps i (omega arith)

others-drop : (ps : List Piece) (i : ℕ) → others (drop i ps) ≡ drop (suc i) ps
others-drop [] zero = refl
others-drop [] (suc i) = refl
others-drop (p ∷ ps) zero = refl
others-drop (p ∷ ps) (suc i) = others-drop ps i

length-laid_parts : (n : Node) → length (laid n).parts ≡ length (out-Node n).children
length-laid_parts n = rw (laid_parts n) (length-parts (out-Node n).children)

-- no part is left
pub no_part : (n : Node) (i : ℕ) → length (out-Node n).children ≤ i → drop i (laid n).parts ≡ []
no_part n i past = let e : length (laid n).parts ≡ length (out-Node n).children = length-laid_parts n in drop-none (laid n).parts i (omega arith)

-- one more is left
pub some_part : (n : Node) (i : ℕ) → i < length (out-Node n).children → drop i (laid n).parts ≡ first_piece (drop i (laid n).parts) ∷ drop (suc i) (laid n).parts
some_part n i within = let e : length (laid n).parts ≡ length (out-Node n).children = length-laid_parts n in drop-some (laid n).parts i (omega arith)

-- the next text, and what is put in behind it
pub template_step : (q e : Node) (i : ℕ) → i < length (out-Node q).children → (margin rest : List ℕ)
    → template_parts (drop i (laid q).parts) (drop i (laid e).parts) margin rest ≡ first_piece (drop i (laid q).parts) margin (substitution (drop i (laid e).parts) margin (template_parts (drop (i + 1) (laid q).parts) (drop (i + 1) (laid e).parts) margin rest))
template_step q e i within margin rest =
    let es : List Piece = drop i (laid e).parts in
    let behind : template_parts (drop (suc i) (laid q).parts) (others es) margin rest ≡ template_parts (drop (suc i) (laid q).parts) (drop (suc i) (laid e).parts) margin rest = ap (λ z. template_parts (drop (suc i) (laid q).parts) z margin rest) (others-drop (laid e).parts i) in
    rw add-one (ap (λ z. template_parts z es margin rest) (some_part q i within) ∙ ap (λ z. first_piece (drop i (laid q).parts) margin (substitution es margin z)) behind)
