-- The equations of `rewritten`: a pass goes through the children by index, and puts what they become behind what is there.
use Rattle.std.proofs.Common.{◌≡◌, ℕ, ◌+◌, ◌≤◌, List, [], ◌∷◌, ◌++◌, map, take, drop, length, Some, refl, sym, ap, ◌∙◌, slice_get, append_assoc}
use Rattle.std.proofs.lemmas.List.{append-nil, map-append, take_all, take_at, drop_at}
use Rattle.std.proofs.lemmas.List.Concat.{flat_map-append}
use Rattle.ecma_forest.specs.Rewriting.{flat, rewritten, rewritten_here}
use Rattle.ecma_kind.specs.declared.span.Span.{Span}
use Rattle.ecma_kind.specs.declared.kind.Kind.{Kind}
use Rattle.ecma_tree.specs.declared.node.Node.{Node, out-Node, fold_out-Node}
use Rattle.ecma_tree.proofs.Items.{take-item}

flat-push : (xss : List (List Node)) (ys : List Node) → flat (xss ++ ys ∷ []) ≡ flat xss ++ ys
flat-push xss ys = flat_map-append (λ ns. ns) xss (ys ∷ []) ∙ ap (λ zs. flat xss ++ zs) (append-nil ys)

module _ (rule : Span → Kind → List Node → List Node) where
  -- what the first children become
  abbrev pub front : Node → ℕ → List Node
  front n i = flat (map (rewritten rule) (take i (out-Node n).children))

  -- what the child at i becomes comes behind
  pub front-item : (n x : Node) (was now : List Node) (i : ℕ) → slice_get (out-Node n).children i ≡ Some x → now ≡ was ++ front n i → now ++ rewritten rule x ≡ was ++ front n (i + 1)
  front-item n x was now i at is =
      ap (λ ns. ns ++ rewritten rule x) is
      ∙ append_assoc was (front n i) (rewritten rule x)
      ∙ ap (λ ns. was ++ ns) (sym (flat-push (map (rewritten rule) (take i (out-Node n).children)) (rewritten rule x)))
      ∙ ap (λ xss. was ++ flat xss) (sym (map-append (rewritten rule) (take i (out-Node n).children) (x ∷ [])))
      ∙ ap (λ ns. was ++ flat (map (rewritten rule) ns)) (sym (take-item (out-Node n).children i x at))

  -- in the end the node itself takes the place of all that its children became
  pub rewritten-all : (n : Node) (was now : List Node) (i : ℕ) → now ≡ was ++ front n i → length (out-Node n).children ≤ i
      → take (length was) now ++ rule (out-Node n).span (out-Node n).kind (drop (length was) now) ≡ was ++ rewritten rule n
  rewritten-all n was now i is all =
      let done : now ≡ was ++ flat (map (rewritten rule) (out-Node n).children) = is ∙ ap (λ ns. was ++ flat (map (rewritten rule) ns)) (take_all i (out-Node n).children all) in
      let became : List Node = flat (map (rewritten rule) (out-Node n).children) in
      ap (λ ns. take (length was) ns ++ rule (out-Node n).span (out-Node n).kind (drop (length was) ns)) done
      ∙ ap (λ ns. ns ++ rule (out-Node n).span (out-Node n).kind (drop (length was) (was ++ became))) (take_at was became (length was) refl)
      ∙ ap (λ ns. was ++ rule (out-Node n).span (out-Node n).kind ns) (drop_at was became (length was) refl)
      ∙ ap (λ ns. was ++ ns) (sym (fold_out-Node (List Node) (rewritten_here rule) n))

-- what was there is left where what came behind is taken away
pub taken-back : (was now more : List Node) → now ≡ was ++ more → take (length was) now ≡ was
taken-back was now more is = ap (take (length was)) is ∙ take_at was more (length was) refl
