-- A node with other texts and contexts: it stays but for its own text and context, and a shorthand may be written out.
use Rattle.std.proofs.Common.{◌≡◌, ℕ, suc, List, [], ◌∷◌, map, Option, refl, ap, ◌∙◌}
use Rattle.ecma_kind.specs.declared.kind.Kind.{Kind}
use Rattle.ecma_kind.specs.declared.span.Span.{Span}
use Rattle.ecma_tree.specs.declared.node.Node.{Node, out-Node}
use Rattle.ecma_tree.specs.Contexts.{with_contexts}
use Rattle.ecma_tree.proofs.Layers.{from_leaves_out}
use Rattle.ecma_scope.specs.Resolved.{is_name}
use Rattle.ecma_hygiene.specs.declared.spot.Standing.{Standing}
use Rattle.ecma_hygiene.specs.Renamed.{Texts, kind_with_text, old_name, renamed_at, renamed_step, shared_name, standing_in, written_from}
use Rattle.ecma_hygiene_scopes.proofs.Growing.{OldName, expanded-of, grown, grown-turned}
use Rattle.ecma_hygiene_scopes.proofs.KindsTurned.{turned_kind}

module _ (context_of : List ℕ → ℕ → ℕ) (texts : Texts) where
  -- the node with other texts and contexts
  abbrev pub again : Node → Standing → Node
  again n stands = with_contexts context_of (renamed_at texts n stands)

  -- the children, of which the first is the one at i
  abbrev pub all_again : (ℕ → Standing) → ℕ → List Node → List Node
  all_again stands i [] = []
  all_again stands i (x ∷ xs) = again x (stands i) ∷ all_again stands (suc i) xs

  abbrev pub old_of : Node → Standing → Option OldName
  old_of n stands = old_name texts (shared_name stands n)

  abbrev pub own_kind : Node → Standing → Kind
  own_kind n stands = turned_kind context_of texts (is_name stands.role) (out-Node n).kind

  abbrev pub children_again : Node → Standing → List Node
  children_again n stands = all_again (standing_in stands n) 0 (out-Node n).children

  written-turned : (stands : ℕ → Standing) (i : ℕ) (xs : List Node) → map (with_contexts context_of) (written_from stands i (map (renamed_at texts) xs)) ≡ all_again stands i xs
  written-turned stands i [] = refl
  written-turned stands i (x ∷ xs) = ap (λ (zs : List Node). again x (stands i) ∷ zs) (written-turned stands (suc i) xs)

  module _ (empty : (text : List ℕ) → context_of text 0 ≡ 0) where
    pub again-out : (n : Node) (stands : Standing) → again n stands ≡ grown (old_of n stands) (out-Node n).span (own_kind n stands) (children_again n stands)
    again-out n stands =
        let span : Span = (out-Node n).span in
        let k : Kind = kind_with_text texts (is_name stands.role) (out-Node n).kind in
        let cs : List Node = written_from (standing_in stands n) 0 (map (renamed_at texts) (out-Node n).children) in
        ap (λ f. with_contexts context_of (f stands)) (from_leaves_out (Standing → Node) (renamed_step texts) n)
        ∙ ap (with_contexts context_of) (expanded-of (old_of n stands) span k cs)
        ∙ grown-turned context_of empty (old_of n stands) span k cs
        ∙ ap (λ (zs : List Node). grown (old_of n stands) span (own_kind n stands) zs) (written-turned (standing_in stands n) 0 (out-Node n).children)
