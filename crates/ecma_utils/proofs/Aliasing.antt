-- The equations of alias texts, and of names that are made of them.
use Rattle.std.proofs.Common.{◌≡◌, ℕ, zero, suc, Bool, true, false, List, [], ◌∷◌, map, get_or, length, Option, Some, None, refl, ap, slice_get, eq-eqb, ◌==◌}
use Rattle.std.proofs.lemmas.Bool.{eqb-true}
use Rattle.ecma_lex.specs.Keys.{name_end}
use Rattle.ecma_lex.specs.Symbols.{IsName, offered}
use Rattle.ecma_tree.specs.declared.node.Node.{Node, fold_out-Node, out-Node}
use Rattle.ecma_utils.specs.Aliases.{alias_by, alias_step, alias_text, corrected, is_at, underscored}

-- ---- alias texts

pub get_or-some : (xs : List Node) (i : ℕ) (x : Node) → slice_get xs i ≡ Some x → get_or (map alias_text xs) i None ≡ alias_text x
get_or-some [] i x at = cc
get_or-some (y ∷ ys) zero x at = let same : y ≡ x = cc in ap alias_text same
get_or-some (y ∷ ys) (suc i) x at = get_or-some ys i x at

pub get_or-none : (xs : List Node) (i : ℕ) → slice_get xs i ≡ None → get_or (map alias_text xs) i None ≡ None
get_or-none [] i at = refl
get_or-none (y ∷ ys) zero at = cc
get_or-none (y ∷ ys) (suc i) at = get_or-none ys i at

pub alias_text-out : (n : Node) → alias_text n ≡ alias_by (out-Node n).kind (map alias_text (out-Node n).children)
alias_text-out = fold_out-Node (Option (List ℕ)) alias_step

pub ruleset aliases = (get_or-some, get_or-none, alias_text-out)

-- ---- names

not-so : (b : Bool) → (b ≡ true → ⊥) → b ≡ false
not-so true h = absurd (h refl)
not-so false h = refl

is_at-place : (o : Option ℕ) (n : ℕ) → o ≡ Some n → is_at o n ≡ true
is_at-place None n e = cc
is_at-place (Some m) n e = let same : m ≡ n = cc in eq-eqb m n same

is_at-other : (o : Option ℕ) (n : ℕ) → (o ≡ Some n → ⊥) → is_at o n ≡ false
is_at-other None n e = refl
is_at-other (Some m) n e = not-so (m == n) (λ t. e (ap Some (eqb-true m n t)))

pub corrected-name : (text : List ℕ) → IsName text → corrected text ≡ text
corrected-name text name = rw (is_at-place (name_end text 0) (length text) name) refl

pub corrected-other : (text : List ℕ) → (IsName text → ⊥) → corrected text ≡ offered text
corrected-other text other = rw (is_at-other (name_end text 0) (length text) other) refl

pub ruleset correcting = (corrected-name, corrected-other)

pub underscored-has : (name : List ℕ) → slice_get name 0 ≡ Some 95 → underscored name ≡ name
underscored-has [] first = cc
underscored-has (c ∷ cs) first = let same : c ≡ 95 = cc in rw (eq-eqb c 95 same) refl

pub underscored-gets : (name : List ℕ) → (slice_get name 0 ≡ Some 95 → ⊥) → underscored name ≡ 95 ∷ name
underscored-gets [] first = refl
underscored-gets (c ∷ cs) first = rw (not-so (c == 95) (λ t. first (ap Some (eqb-true c 95 t)))) refl

pub ruleset underscoring = (underscored-has, underscored-gets)
