-- What holds of the kinds of all nodes of a tree: from node to node, and with other contexts.
use Rattle.std.proofs.Common.{◌≡◌, ℕ, zero, suc, List, [], ◌∷◌, map, Some, refl, sym, subst, slice_get}
use Rattle.ecma_kind.specs.declared.kind.Kind.{Kind}
use Rattle.ecma_tree.specs.declared.node.Node.{Node, out-Node}
use Rattle.ecma_tree.specs.declared.node.Node.TheViews.{out-roll-Node, roll-out-Node}
use Rattle.ecma_tree.specs.Contexts.{kind_with_context, with_contexts}
use Rattle.ecma_text_leaves.specs.Everywhere.{Each, Everywhere, everywhere, more, none}
use Rattle.ecma_rules.specs.Children.{kind_of}
use Rattle.ecma_hygiene_scopes.proofs.Parts.{contexts-of}
use Rattle.ecma_scope_fits.proofs.Moved.{children_moved, kind_moved}
use Rattle.ecma_pipeline_runs.proofs.Nodes.{none-some, some-same}
use Rattle.ecma_hygiene_fits.proofs.Everywhere.{Each as EachChild, children_of, everywhere as from_children}

-- a node by its kind and its children
pub parts : (P : Kind → Type 0) {n : Node} → Everywhere P n → P (kind_of n) × Each P (children_of n)
parts P (everywhere at k {children = cs} p h) =
    let e = out-roll-Node (record { span = at; kind = k; children = cs }) in
    (subst (λ x. P x.kind) (sym e) p, subst (λ x. Each P x.children) (sym e) h)

pub everywhere_made : (P : Kind → Type 0) (n : Node) → P (kind_of n) → Each P (children_of n) → Everywhere P n
everywhere_made P n p h = subst (Everywhere P) (roll-out-Node n) (everywhere (out-Node n).span (kind_of n) p h)

-- children by their index
pub each_of : (P : Kind → Type 0) (cs : List Node) → ((i : ℕ) (c : Node) → slice_get cs i ≡ Some c → Everywhere P c) → Each P cs
each_of P [] h = none
each_of P (c ∷ cs) h = more (h 0 c refl) (each_of P cs (λ i d at. h (suc i) d at))

pub each_at : (P : Kind → Type 0) (cs : List Node) → Each P cs → (i : ℕ) (c : Node) → slice_get cs i ≡ Some c → Everywhere P c
each_at P [] none i c at = none-some at
each_at P (x ∷ xs) (more a h) zero c at = subst (Everywhere P) (some-same at) a
each_at P (x ∷ xs) (more a h) (suc i) c at = each_at P xs h i c at

-- ---- contexts

module _ (P Q : Kind → Type 0) (context_of : List ℕ → ℕ → ℕ) where
  abbrev pub to : Node → Node
  to = with_contexts context_of

  module _ (moves : (k : Kind) → P k → Q (kind_with_context context_of k)) where
    mutual
      pub everywhere_moved : {n : Node} → Everywhere P n → Everywhere Q (to n)
      everywhere_moved (everywhere at k {children = cs} p h) =
          subst (Everywhere Q) (sym (contexts-of context_of at k cs)) (everywhere at (kind_with_context context_of k) (moves k p) (each_moved h))

      each_moved : {ns : List Node} → Each P ns → Each Q (map to ns)
      each_moved none = none
      each_moved (more a h) = more (everywhere_moved a) (each_moved h)

  module _ (returns : (k : Kind) → P (kind_with_context context_of k) → Q k) where
    abbrev pub Returned : Node → Type 0
    Returned n = Everywhere P (to n) → Everywhere Q n

    each_returned : (cs : List Node) → EachChild Returned cs → Each P (map to cs) → Each Q cs
    each_returned [] e none = none
    each_returned (c ∷ cs) e (more a h) = more (e.0 a) (each_returned cs e.1 h)

    pub everywhere_returned : (n : Node) → Returned n
    everywhere_returned = from_children Returned (λ n below h.
        (let p = parts P h in
        everywhere_made Q n (returns (kind_of n) (subst P (kind_moved context_of n) p.0)) (each_returned (children_of n) below (subst (Each P) (children_moved context_of n) p.1))))
