-- What stands in the lists that the children of a node became.
use Rattle.std.proofs.Common.{◌≡◌, ◌≢◌, ◌∙◌, ◌≤◌, refl, sym, ap, ap₂, List, [], ◌∷◌, length, map, Some, set, slice_get, arith}
use Rattle.ecma_kind.specs.declared.kind.Kind.{Kind}
use Rattle.ecma_kind.specs.declared.span.Span.{Span}
use Rattle.ecma_tree.specs.Nodes.{absent, node_of}
use Rattle.ecma_tree.specs.declared.node.Node.{Node, Node-F, out-Node}
use Rattle.ecma_tree.specs.declared.node.Node.TheViews.{out-roll-Node}
use Rattle.ecma_rewriting.specs.Rewriting.{only}
use Rattle.ecma_lower_enums.specs.Steps.{with_first}
use Rattle.ecma_lower_enums.specs.Writing.{first_list, second, wrapped}

pub first-none : (ls : List (List Node)) → ls ≡ [] → [] ≡ first_list ls
first-none ls none = ap first_list (sym none)

pub first-some : (ls : List (List Node)) (l : List Node) → slice_get ls 0 ≡ Some l → l ≡ first_list ls
first-some [] l at = cc
first-some (k ∷ ls) l at = cc

pub second-none : (ls : List (List Node)) → length ls ≤ 1 → absent ≡ second ls
second-none [] few = refl
second-none (k ∷ []) few = refl
second-none (k ∷ l ∷ ls) few = absurd (omega (arith, few))

pub second-some : (ls : List (List Node)) (l : List Node) → slice_get ls 1 ≡ Some l → only l ≡ second ls
second-some [] l at = cc
second-some (k ∷ []) l at = cc
second-some (k ∷ m ∷ ls) l at = let same : l ≡ m = cc in ap only same

-- ---- a type round each

module _ (span : Span) (k : Kind) where
  abbrev over : List Node → Node
  over cs = node_of span k cs

  out : (cs : List Node) → out-Node (over cs) ≡ record { span = span; kind = k; children = cs }
  out cs = out-roll-Node (record { span = span; kind = k; children = cs })

  first-out : (e : Node) (cs : List Node) → with_first (over cs) e ≡ over (set cs 0 e)
  first-out e cs = ap (λ (z : Node-F Node). node_of z.span z.kind (set z.children 0 e)) (out cs)

  each-out : (c : Node) (cs es : List Node) → map (with_first (over (c ∷ cs))) es ≡ map (λ e. over (e ∷ cs)) es
  each-out c cs [] = refl
  each-out c cs (e ∷ es) = ap₂ (λ a rest. a ∷ rest) (first-out e (c ∷ cs)) (each-out c cs es)

  pub wrapped-none : (ls : List (List Node)) → ls ≡ [] → over [] ∷ [] ≡ wrapped span k ls
  wrapped-none ls none = ap (wrapped span k) (sym none)

  pub wrapped-full : (ls : List (List Node)) (l e : List Node) → slice_get ls 0 ≡ Some l → (out-Node (over (map only (set ls 0 e)))).children ≢ []
  wrapped-full [] l e at none = cc
  wrapped-full (m ∷ ls) l e at none =
      let same : only e ∷ map only ls ≡ [] = sym (ap (λ (z : Node-F Node). z.children) (out (only e ∷ map only ls))) ∙ none in cc

  pub wrapped-some : (ls : List (List Node)) (l e : List Node) → slice_get ls 0 ≡ Some l
      → map (with_first (over (map only (set ls 0 e)))) l ≡ wrapped span k ls
  wrapped-some [] l e at = cc
  wrapped-some (m ∷ ls) l e at =
      let same : m ≡ l = cc in
      each-out (only e) (map only ls) l ∙ ap (map (λ c. over (c ∷ map only ls))) (sym same)

pub ruleset lists = (first-none, first-some, second-none, second-some, wrapped-none, wrapped-full, wrapped-some)
