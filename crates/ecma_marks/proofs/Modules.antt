-- A module, by the list of its items.
use Rattle.std.proofs.Common.{◌≡◌, ℕ, true, false, ap, List, [], ◌∷◌, ◌++◌, Option}
use Rattle.ecma_kind.specs.declared.kind.Kind.{Kind}
use Rattle.ecma_kind.specs.declared.kind.Kind.TheVariants as kind
use Rattle.ecma_kind.specs.declared.shapes.Sort.TheVariants as sort
use Rattle.ecma_kind.specs.declared.span.Span.{Span}
use Rattle.ecma_tree.specs.Nodes.{node_of}
use Rattle.ecma_tree.specs.Sorted.{HasShape, one}
use Rattle.ecma_tree.specs.declared.node.Node.{Node, Node-F, out-Node}
use Rattle.ecma_tree.specs.declared.node.Node.TheViews.{out-roll-Node}
use Rattle.ecma_lower.specs.Marking.{empty_export}

pub no : {X : Type 0} → false ≡ true → X
no h = cc

-- ---- items by their sort

abbrev pub IsItem : Node → Type 0
IsItem n = HasShape (one sort.ModuleItem) n

abbrev pub AreItems : List Node → Type 0
AreItems [] = Unit
AreItems (n ∷ ns) = IsItem n × AreItems ns

-- ---- a module, by the list of its items

abbrev pub list_at : Span → List Node → Node
list_at place ns = node_of place kind.List ns

abbrev pub module_at : Span → Option (List ℕ) → Span → List Node → Node
module_at span shebang place ns = node_of span (kind.Module shebang) (list_at place ns ∷ [])

-- a node of these parts has them
pub kind-of : (span : Span) (k : Kind) (cs : List Node) → (out-Node (node_of span k cs)).kind ≡ k
kind-of span k cs = let parts : Node-F Node = record { span = span; kind = k; children = cs } in ap (λ (z : Node-F Node). z.kind) (out-roll-Node parts)

pub children-of : (span : Span) (k : Kind) (cs : List Node) → (out-Node (node_of span k cs)).children ≡ cs
children-of span k cs = let parts : Node-F Node = record { span = span; kind = k; children = cs } in ap (λ (z : Node-F Node). z.children) (out-roll-Node parts)

-- items with `export {}` behind them
abbrev pub with_export : List Node → List Node
with_export ns = ns ++ empty_export ∷ []
