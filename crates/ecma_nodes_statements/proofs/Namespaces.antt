-- Namespaces by their dotted names, the innermost first.
use Rattle.std.proofs.Common.{◌≡◌, ℕ, ◌+◌, ◌<◌, append_assoc, List, [], ◌∷◌, ◌++◌, length, refl, ap, arith}
use Rattle.std.proofs.lemmas.List.{length-append}
use Rattle.ecma_kind.specs.declared.span.Span.{Span}
use Rattle.ecma_tree.specs.declared.node.Node.{Node}
use Rattle.ecma_grammar.specs.trees.Others.{nested, namespaces, namespace}

inner : (hi : ℕ) (xs : List Node) (name body : Node) → namespaces hi (xs ++ name ∷ body ∷ []) ≡ namespaces hi (xs ++ nested hi name body ∷ [])
inner hi [] name body = refl
inner hi (x ∷ []) name body = refl
inner hi (x ∷ y ∷ ys) name body = ap (λ b. nested hi x b) (inner hi (y ∷ ys) name body)

-- the last name and the body are the body of what stands before, where a name does
pub namespace-inwards : (span : Span) (xs : List Node) (name body : Node) → 0 < length xs → namespace span ((xs ++ name ∷ []) ++ body ∷ []) ≡ namespace span (xs ++ nested span.hi name body ∷ [])
namespace-inwards span [] name body h = absurd (omega arith)
namespace-inwards span (x ∷ []) name body h = refl
namespace-inwards span (x ∷ y ∷ ys) name body h = rw (append_assoc ys (name ∷ []) (body ∷ []), inner span.hi (y ∷ ys) name body) refl

pub length_behind : (xs : List Node) (x : Node) → length (xs ++ x ∷ []) ≡ length xs + 1
length_behind xs x = length-append xs (x ∷ [])

pub ruleset nesting = (namespace-inwards, length_behind)
