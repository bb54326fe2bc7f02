-- Nodes that have a name.
use Rattle.std.proofs.Common.{◌≡◌, ◌∙◌, ◌<◌, true, List, Option, Some, [], refl, ◌∷◌, length, slice_get, sym, ap, arith, IsTrue}
use Rattle.std.specs.Option.{is_some, option_and_then}
use Rattle.ecma_kind.specs.declared.ident.Ident.{Ident}
use Rattle.ecma_kind.specs.declared.kind.Kind.{Kind}
use Rattle.ecma_kind.specs.declared.kind.Kind.TheVariants as kind
use Rattle.ecma_tree.specs.Idents.{ident_node, ident_of}
use Rattle.ecma_tree.specs.Nodes.{absent}
use Rattle.ecma_tree.specs.declared.node.Node.{Node, Node-F, out-Node}
use Rattle.ecma_tree.specs.declared.node.Node.TheViews.{out-roll-Node}
use Rattle.ecma_idents.specs.Identities.{binding_of, has_name, id_or_none, ident_id, name_node_by, node_id}

first-there : (nodes : List Node) → is_some (option_and_then ident_of (slice_get nodes 0)) ≡ true → 0 < length nodes
first-there [] h = cc
first-there (node ∷ nodes) h = omega arith

-- a declared name with a name has a child
pub named_first : (n : Node) → (out-Node n).kind ≡ kind.BindingIdent → IsTrue (has_name n) → 0 < length (out-Node n).children
named_first n is h =
    first-there (out-Node n).children (sym (ap (λ (k : Kind). is_some (option_and_then ident_of (name_node_by k n (out-Node n).children))) is) ∙ h)

-- an identifier's node is that of the identifier
ident_of_node : (i : Ident) → ident_of (ident_node i) ≡ Some i
ident_of_node i = rw (out-roll-Node (record { span = i.span; kind = kind.Ident i.sym i.ctxt i.optional; children = [] })) refl

-- what is made of an identifier has its id
pub binding_id : (i : Ident) → node_id (binding_of i) ≡ ident_id i
binding_id i =
    ap (λ (p : Node-F Node). id_or_none (option_and_then ident_of (name_node_by p.kind (binding_of i) p.children)))
    (out-roll-Node (record { span = i.span; kind = kind.BindingIdent; children = ident_node i ∷ absent ∷ [] }))
    ∙ ap (λ (found : Option Ident). id_or_none found) (ident_of_node i)
