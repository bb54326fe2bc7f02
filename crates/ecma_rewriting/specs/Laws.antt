-- What becomes of nodes, and where nothing happens.
use Rattle.std.specs.Prelude.{◌≡◌, ℕ, suc, Bool, true, false, cond, List, [], ◌∷◌, ◌++◌, map, Some, slice_get}
use Rattle.ecma_kind.specs.declared.kind.Kind.{Kind}
use Rattle.ecma_kind.specs.declared.kind.Kind.TheVariants as kind
use Rattle.ecma_kind.specs.declared.span.Span.{Span}
use Rattle.ecma_tree.specs.Nodes.{node_of}
use Rattle.ecma_tree.specs.Sorted.{is_list}
use Rattle.ecma_tree.specs.declared.node.Node.{Node}
use Rattle.ecma_rewriting.specs.Rewriting.{Rewriting, becomes}

-- what the items of a list become
abbrev pub items : {S : Type 0} → Rewriting S → S → List Node → List Node
items r s [] = []
items r s (c ∷ cs) = cond (r.keeps c) (becomes r s c ++ items r (r.next s c) cs) (r.unkept s c ++ items r s cs)

-- what the children of another node become
abbrev pub children : {S : Type 0} → Rewriting S → (ℕ → S) → ℕ → List Node → List (List Node)
children r seat i [] = []
children r seat i (c ∷ cs) = becomes r (seat i) c ∷ children r seat (suc i) cs

-- what a node of these parts becomes
abbrev pub layer : {S : Type 0} → Rewriting S → S → Span → Kind → List Node → List Node
layer r s span kind.List cs = node_of span kind.List (items r s cs) ∷ []
layer r s span k cs = r.here s span k cs (children r (r.seat s k cs) 0 cs)

-- a list becomes the list of what its items become, one behind the other; any other node what is done there with what its children become
abbrev pub NodesBecome : Type 0 → Type 0
NodesBecome S = (r : Rewriting S) (s : S) (span : Span) (k : Kind) (cs : List Node) →
    becomes r s (node_of span k cs) ≡ layer r s span k cs

-- a fact of each item of a list in its seat
abbrev pub Along : {S : Type 0} → Rewriting S → (S → Node → Type 0) → S → List Node → Type 0
Along r P s [] = Unit
Along r P s (c ∷ cs) = P s c × Along r P (cond (r.keeps c) (r.next s c) s) cs

-- nothing is done at a node where P holds of it in its seat: so it is left as it is, and P holds of its children in theirs
pub record Leaves {S : Type 0} (r : Rewriting S) (P : S → Node → Type 0) : Type 0 where
  pub unkept : (s : S) (c : Node) → P s c → r.keeps c ≡ false → r.unkept s c ≡ c ∷ []
  pub listed : (s : S) (span : Span) (cs : List Node) → P s (node_of span kind.List cs) → Along r P s cs
  pub below : (s : S) (span : Span) (k : Kind) (cs : List Node) → is_list k ≡ false → P s (node_of span k cs) → (i : ℕ) (c : Node) →
      slice_get cs i ≡ Some c →
      P (r.seat s k cs i) c
  pub here : (s : S) (span : Span) (k : Kind) (cs : List Node) → is_list k ≡ false → P s (node_of span k cs) →
      r.here s span k cs (map (λ c. c ∷ []) cs) ≡ node_of span k cs ∷ []

-- such a tree stays as it is
abbrev pub TreesStay : Type 0 → Type 0
TreesStay S = (r : Rewriting S) (still : S → Node → Bool) → Leaves r (λ s n. still s n ≡ true) → (s : S) (n : Node) →
    still s n ≡ true → becomes r s n ≡ n ∷ []
