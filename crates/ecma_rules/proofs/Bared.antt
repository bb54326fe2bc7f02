-- A tree whose types are bared, child by child.
use Rattle.std.proofs.Common.{◌≡◌, ◌∙◌, ℕ, zero, suc, ◌<◌, List, [], ◌∷◌, map, take, length, Some, refl, sym, ap, slice_get}
use Rattle.item_list.proofs.Walking.{front_mapped-all, front_mapped-at}
use Rattle.ecma_kind.specs.declared.kind.Kind.{Kind}
use Rattle.ecma_kind.specs.declared.kind.Kind.TheVariants as kind
use Rattle.ecma_tree.specs.Nodes.{node_of}
use Rattle.ecma_tree.specs.declared.node.Node.{Node, Node-F, fold_out-Node, out-Node, roll-Node}
use Rattle.ecma_tree.specs.declared.node.Node.TheViews.{out-roll-Node, roll-out-Node}
use Rattle.ecma_tree.proofs.Fronts.{front, front-out}
use Rattle.ecma_tree.proofs.Weights.{weight, weight-child}
use Rattle.ecma_rules.specs.Baring.{bared, bared_step, own_children}

pub bared-out : (n : Node) → bared n ≡ node_of (out-Node n).span (out-Node n).kind (own_children (out-Node n).kind (map bared (out-Node n).children))
bared-out = fold_out-Node Node bared_step

own-map : (k : Kind) (cs : List Node) → map bared (own_children k cs) ≡ own_children k (map bared cs)
own-map kind.TsType cs = refl
own-map kind.TsTypeParamDecl cs = refl
own-map kind.TsTypeParamInstantiation cs = refl
own-map (kind.TsIndexSignature readonly is_static) cs = refl
own-map (kind.TsInterfaceDecl declare) [] = refl
own-map (kind.TsInterfaceDecl declare) (c ∷ cs) = refl
own-map (kind.TsTypeAliasDecl declare) [] = refl
own-map (kind.TsTypeAliasDecl declare) (c ∷ cs) = refl
own-map _ cs = refl

-- a child that stays is one of the node
own-at : (k : Kind) (cs : List Node) (i : ℕ) (x : Node) → slice_get (own_children k cs) i ≡ Some x → slice_get cs i ≡ Some x
own-at kind.TsType cs i x at = cc
own-at kind.TsTypeParamDecl cs i x at = cc
own-at kind.TsTypeParamInstantiation cs i x at = cc
own-at (kind.TsIndexSignature readonly is_static) cs i x at = cc
own-at (kind.TsInterfaceDecl declare) [] i x at = at
own-at (kind.TsInterfaceDecl declare) (c ∷ cs) zero x at = at
own-at (kind.TsInterfaceDecl declare) (c ∷ cs) (suc i) x at = cc
own-at (kind.TsTypeAliasDecl declare) [] i x at = at
own-at (kind.TsTypeAliasDecl declare) (c ∷ cs) zero x at = at
own-at (kind.TsTypeAliasDecl declare) (c ∷ cs) (suc i) x at = cc
own-at _ cs i x at = at

-- what stays of a node
abbrev own_parts : Node → Node-F Node
own_parts n = record { span = (out-Node n).span; kind = (out-Node n).kind; children = own_children (out-Node n).kind (out-Node n).children }

module _ (n p m : Node) (i : ℕ) (dropped : p ≡ roll-Node (own_parts n)) (so_far : m ≡ front bared (λ span. span) (λ kind. kind) p i) where
  own : out-Node p ≡ own_parts n
  own = ap out-Node dropped ∙ out-roll-Node (own_parts n)

  -- with all that stay bared, the node is bared
  pub bared-all : length (out-Node p).children ≡ i → m ≡ bared n
  bared-all all =
      so_far
      ∙ ap (node_of (out-Node p).span (out-Node p).kind) (front_mapped-all bared (out-Node p).children i all)
      ∙ ap (λ (z : Node-F Node). node_of z.span z.kind (map bared z.children)) own
      ∙ ap (node_of (out-Node n).span (out-Node n).kind) (own-map (out-Node n).kind (out-Node n).children)
      ∙ sym (bared-out n)

  -- the next that stays is smaller than the node
  pub own-smaller : (x : Node) → slice_get (out-Node m).children i ≡ Some x → weight x < weight n
  own-smaller x at =
      weight-child n x i (own-at (out-Node n).kind (out-Node n).children i x (ap (λ (z : Node-F Node). slice_get z.children i) (sym own)
      ∙ front_mapped-at bared (out-Node p).children i x (ap (λ (z : Node-F Node). slice_get z.children i) (sym (front-out bared (λ span. span) (λ kind. kind) p m i so_far)) ∙ at)))
