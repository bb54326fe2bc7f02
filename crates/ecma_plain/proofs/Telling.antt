-- What is told of the functions of a tree: the equations of the walk.
use Rattle.std.proofs.Common.{◌≡◌, ◌≢◌, ◌∙◌, ℕ, zero, suc, ◌+◌, Bool, true, false, not, ◌||◌, List, [], ◌∷◌, Some, None, map, drop, length, slice_get, refl, ap, sym, add-one, arith}
use Rattle.ecma_kind.specs.declared.kind.Kind.{Kind}
use Rattle.ecma_kind.specs.declared.kind.Kind.TheVariants as kind
use Rattle.ecma_tree.specs.declared.node.Node.{Node, fold_out-Node, out-Node}
use Rattle.ecma_tree.specs.Sorted.{is_absent}
use Rattle.ecma_rules.proofs.Failures.{drop-none}
use Rattle.ecma_plain.specs.Functions.{Functions, any_unusual, functions, functions_step, is_missing_at, is_this_name, takes_this, unusual_here}

told : (n : Node) → functions n ≡ functions_step (record { span = (out-Node n).span; kind = (out-Node n).kind; children = map functions (out-Node n).children })
told = fold_out-Node Functions functions_step

missing-told : (n : Node) → is_absent (out-Node n).kind ≡ (functions n).is_missing
missing-told n = sym (ap (λ f. f.is_missing) (told n))

this-told : (n : Node) → is_this_name (out-Node n).kind ≡ (functions n).is_this
this-told n = sym (ap (λ f. f.is_this) (told n))

pub missing-some : (nodes : List Node) (i : ℕ) (x : Node) → slice_get nodes i ≡ Some x → is_absent (out-Node x).kind ≡ is_missing_at (map functions nodes) i
missing-some [] i x at = cc
missing-some (n ∷ ns) zero x at = let same : n ≡ x = cc in ap (λ m. is_absent (out-Node m).kind) (sym same) ∙ missing-told n
missing-some (n ∷ ns) (suc i) x at = missing-some ns i x at

pub missing-none : (nodes : List Node) (i : ℕ) → slice_get nodes i ≡ None → false ≡ is_missing_at (map functions nodes) i
missing-none [] i at = refl
missing-none (n ∷ ns) zero at = cc
missing-none (n ∷ ns) (suc i) at = missing-none ns i at

pub named-some : (nodes : List Node) (x : Node) → slice_get nodes 0 ≡ Some x → is_this_name (out-Node x).kind ≡ takes_this kind.BindingIdent (map functions nodes)
named-some [] x at = cc
named-some (n ∷ ns) x at = let same : n ≡ x = cc in ap (λ m. is_this_name (out-Node m).kind) (sym same) ∙ this-told n

pub named-none : (nodes : List Node) → slice_get nodes 0 ≡ None → false ≡ takes_this kind.BindingIdent (map functions nodes)
named-none [] at = refl
named-none (n ∷ ns) at = cc

pub setter-four : (nodes : List Node) → length nodes ≡ 4 → not (is_missing_at (map functions nodes) 1) ≡ takes_this kind.SetterProp (map functions nodes)
setter-four [] four = absurd (omega (arith, four))
setter-four (a ∷ []) four = absurd (omega (arith, four))
setter-four (a ∷ b ∷ []) four = absurd (omega (arith, four))
setter-four (a ∷ b ∷ c ∷ []) four = absurd (omega (arith, four))
setter-four (a ∷ b ∷ c ∷ d ∷ []) four = refl
setter-four (a ∷ b ∷ c ∷ d ∷ e ∷ others) four = absurd (omega (arith, four))

pub setter-other : (nodes : List Node) → length nodes ≢ 4 → false ≡ takes_this kind.SetterProp (map functions nodes)
setter-other [] other = refl
setter-other (a ∷ []) other = refl
setter-other (a ∷ b ∷ []) other = refl
setter-other (a ∷ b ∷ c ∷ []) other = refl
setter-other (a ∷ b ∷ c ∷ d ∷ []) other = absurd (other refl)
setter-other (a ∷ b ∷ c ∷ d ∷ e ∷ others) other = refl

-- ---- the walk

either_next : (a b c : Bool) → (a || (b || c)) ≡ ((c || a) || b)
either_next true b true = refl
either_next true b false = refl
either_next false true true = refl
either_next false true false = refl
either_next false false true = refl
either_next false false false = refl

-- before the first child
pub unusual-first : (n : Node) (here : Bool) → here ≡ unusual_here (out-Node n).kind (map functions (out-Node n).children) → (any_unusual (map functions (out-Node n).children) || here) ≡ (functions n).has_unusual
unusual-first n here is = ap (λ b. any_unusual (map functions (out-Node n).children) || b) is ∙ sym (ap (λ f. f.has_unusual) (told n))

next_child : (cs : List Node) (i : ℕ) (x : Node) (found : Bool) → slice_get cs i ≡ Some x
    → (any_unusual (map functions (drop (suc i) cs)) || (found || (functions x).has_unusual)) ≡ (any_unusual (map functions (drop i cs)) || found)
next_child [] i x found at = cc
next_child (c ∷ cs) zero x found at =
    let same : c ≡ x = cc in
    ap (λ m. any_unusual (map functions cs) || (found || (functions m).has_unusual)) (sym same) ∙ either_next (any_unusual (map functions cs)) found (functions c).has_unusual
next_child (c ∷ cs) (suc i) x found at = next_child cs i x found at

-- behind one more
pub unusual-next : (n : Node) (i : ℕ) (x : Node) (found below next : Bool) → slice_get (out-Node n).children i ≡ Some x → below ≡ (functions x).has_unusual → next ≡ (found || below)
    → (any_unusual (map functions (drop i (out-Node n).children)) || found) ≡ (functions n).has_unusual
    → (any_unusual (map functions (drop (i + 1) (out-Node n).children)) || next) ≡ (functions n).has_unusual
unusual-next n i x found below next at is both so_far =
    rw add-one
    (ap (λ b. any_unusual (map functions (drop (suc i) (out-Node n).children)) || b) (both ∙ ap (λ b. found || b) is)
    ∙ next_child (out-Node n).children i x found at ∙ so_far)

-- behind the last
pub unusual-all : (n : Node) (i : ℕ) (found : Bool) → length (out-Node n).children ≡ i → (any_unusual (map functions (drop i (out-Node n).children)) || found) ≡ (functions n).has_unusual
    → found ≡ (functions n).has_unusual
unusual-all n i found all so_far = ap (λ (z : List Node). any_unusual (map functions z) || found) (sym (drop-none (out-Node n).children i all)) ∙ so_far
