-- Children with another first one.
use Rattle.std.proofs.Common.{◌≡◌, ◌∙◌, List, [], ◌∷◌, Some, refl, sym, ap, slice_get, set}
use Rattle.ecma_tree.specs.Nodes.{node_of}
use Rattle.ecma_tree.specs.declared.node.Node.{Node, out-Node}
use Rattle.ecma_helpers.specs.Importing.{behind_directives, first_with}

abbrev pub list_with : List Node → Node → Node
list_with more list = node_of (out-Node list).span (out-Node list).kind (behind_directives more (out-Node list).children)

pub first-put : (more ns : List Node) (list a x : Node) → slice_get ns 0 ≡ Some list → x ≡ list_with more list → set (set ns 0 a) 0 x ≡ first_with more ns
first-put more [] list a x at is = cc
first-put more (n ∷ ns) list a x at is = let same : n ≡ list = cc in ap (λ z. z ∷ ns) (is ∙ ap (list_with more) (sym same))

pub none-put : (more ns : List Node) → ns ≡ [] → ns ≡ first_with more ns
none-put more [] none = refl
none-put more (n ∷ ns) none = cc

pub ruleset firsts = (first-put, none-put)
