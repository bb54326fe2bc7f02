-- The equations of the layout of every tree.
use Rattle.std.proofs.Common.{◌≡◌, ℕ, List, map, ap}
use Rattle.ecma_kind.specs.declared.span.Span.{Span}
use Rattle.ecma_kind.specs.declared.kind.Kind.{Kind}
use Rattle.ecma_tree.specs.declared.node.Node.{Node, fold_out-Node, fold-roll-Node, out-Node}
use Rattle.ecma_tree.specs.Nodes.{node_of}
use Rattle.ecma_print.specs.declared.place.Place.{Place}
use Rattle.ecma_print.specs.Laid.{Laid}
use Rattle.ecma_print.specs.Layout.{laid, lay_step, in_place, by_itself}

-- a node is laid out by its kind and what its children are laid out as
pub laid_at : (n : Node) (place : Place) (margin rest : List ℕ) → (laid n).at place margin rest ≡ in_place (out-Node n).kind (map laid (out-Node n).children) place margin rest
laid_at n place margin rest = ap (λ x. x.at place margin rest) (fold_out-Node Laid lay_step n)

pub laid_kind : (n : Node) → (laid n).kind ≡ (out-Node n).kind
laid_kind n = ap (λ x. x.kind) (fold_out-Node Laid lay_step n)

pub laid_parts : (n : Node) → (laid n).parts ≡ map by_itself (map laid (out-Node n).children)
laid_parts n = ap (λ x. x.parts) (fold_out-Node Laid lay_step n)

pub ruleset laying = (laid_at)

pub ruleset kinds = (laid_kind)

pub laid_node : (at : Span) (kind : Kind) (children : List Node) (place : Place) (margin rest : List ℕ) → (laid (node_of at kind children)).at place margin rest ≡ in_place kind (map laid children) place margin rest
laid_node at kind children place margin rest = ap (λ x. x.at place margin rest) (fold-roll-Node Laid lay_step (record { span = at; kind = kind; children = children }))

pub laid_kind_of-node : (at : Span) (kind : Kind) (children : List Node) → (laid (node_of at kind children)).kind ≡ kind
laid_kind_of-node at kind children = ap (λ x. x.kind) (fold-roll-Node Laid lay_step (record { span = at; kind = kind; children = children }))
