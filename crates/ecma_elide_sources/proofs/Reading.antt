-- What is left of a tree as it is read is such a tree.
use Rattle.std.proofs.Common.{◌≡◌, ℕ, zero, suc, List, [], ◌∷◌, Some, refl, sym, subst, slice_get}
use Rattle.ecma_kind.specs.declared.kind.Kind.{Kind}
use Rattle.ecma_kind.specs.declared.kind.Kind.TheVariants as kind
use Rattle.ecma_tree.specs.declared.node.Node.{Node, out-Node}
use Rattle.ecma_tree.specs.declared.node.Node.TheViews.{roll-out-Node}
use Rattle.ecma_rules.specs.Children.{kind_of}
use Rattle.ecma_text_leaves.specs.Everywhere.{Each, Everywhere, more, none}
use Rattle.ecma_text_leaves.proofs.Trees.{children_good, good_node, kind_good}
use Rattle.ecma_plain.specs.Forms.{IsBareUnquestioned}
use Rattle.ecma_plain.specs.Items.{HasUtf8Hashbang}
use Rattle.ecma_elide_fits.specs.Dropping.{Dropping}
use Rattle.ecma_elide_fits.proofs.Dropped.{below, induct}
use Rattle.ecma_elide_sources.proofs.Thin.{Thin, bare, child_before, thin_kind}

module _ (P : Kind → Type 0) where
  each_at : {ns : List Node} → Each P ns → (i : ℕ) (c : Node) → slice_get ns i ≡ Some c → Everywhere P c
  each_at none i c at = cc
  each_at (more {n = n} g h) zero c at = let same : n ≡ c = cc in subst (Everywhere P) same g
  each_at (more g h) (suc i) c at = each_at h i c at

  each_of : (ns : List Node) → ((i : ℕ) (c : Node) → slice_get ns i ≡ Some c → Everywhere P c) → Each P ns
  each_of [] h = none
  each_of (n ∷ ns) h = more (h 0 n refl) (each_of ns (λ i. h (suc i)))

  -- what holds of every kind, whatever contexts there are, holds of every kind that is left
  module _ {S : Type 0} (d : Dropping S) (cleared : (k : Kind) → P k → P (bare k)) where
    abbrev Kept : Node → Type 0
    Kept b = Everywhere P b → (a : Node) → Thin d a b → Everywhere P a

    node_kept : (b : Node) → ((i : ℕ) (c : Node) → slice_get (below b) i ≡ Some c → Kept c) → Kept b
    node_kept b kept g a t =
        subst (Everywhere P) (roll-out-Node a)
        (good_node P (out-Node a).span (kind_of a) (below a) (subst P (sym (thin_kind d a b t)) (cleared (kind_of b) (kind_good P g)))
        (each_of (below a) (λ j c at. (
        let m = child_before d a b t j c at in
        kept m.0 m.1 m.2 (each_at (children_good P g) m.0 m.1 m.2) c m.3))))

    pub everywhere_left : (a b : Node) → Thin d a b → Everywhere P b → Everywhere P a
    everywhere_left a b t g = induct Kept node_kept b g a t

bare_cleared : (k : Kind) → IsBareUnquestioned k → IsBareUnquestioned (bare k)
bare_cleared (kind.Ident text ctxt optional) h = (h.0, refl, h.2)
bare_cleared _ h = h

pub bare_left : {S : Type 0} (d : Dropping S) (a b : Node) → Thin d a b → Everywhere IsBareUnquestioned b → Everywhere IsBareUnquestioned a
bare_left d = everywhere_left IsBareUnquestioned d bare_cleared

hashbang_cleared : (k : Kind) → HasUtf8Hashbang k → HasUtf8Hashbang (bare k)
hashbang_cleared (kind.Ident text ctxt optional) h = tt
hashbang_cleared _ h = h

pub hashbang_left : {S : Type 0} (d : Dropping S) (a b : Node) → Thin d a b → HasUtf8Hashbang (kind_of b) → HasUtf8Hashbang (kind_of a)
hashbang_left d a b t h = subst HasUtf8Hashbang (sym (thin_kind d a b t)) (hashbang_cleared (kind_of b) h)
