-- An identifier that is put in the place of each of an id leaves none.
use Rattle.std.proofs.Common.{◌≡◌, ◌∙◌, ℕ, zero, suc, Bool, true, false, cond, ◌||◌, ◌&&◌, ◌==◌, List, [], ◌∷◌, map, Option, Some, None, inl, inr, ◌⊎◌, refl, sym, ap, ap₂, subst}
use Rattle.std.specs.List.{list_any}
use Rattle.ecma_kind.specs.declared.ident.Ident.{Ident}
use Rattle.ecma_kind.specs.declared.span.Span.{Span}
use Rattle.ecma_kind.specs.declared.kind.Kind.{Kind}
use Rattle.ecma_kind.specs.declared.kind.Kind.TheVariants as kind
use Rattle.ecma_tree.specs.Nodes.{node_of}
use Rattle.ecma_tree.specs.declared.node.Node.{Node, Node-F, fold-roll-Node, fold_out-Node, ind-Node, out-Node, roll-Node}
use Rattle.ecma_tree.specs.declared.node.Node.TheViews.{out-roll-Node}
use Rattle.ecma_renamers.specs.declared.spot.Spot.{Spot}
use Rattle.ecma_renamers.specs.declared.spot.Spot.TheVariants as spot
use Rattle.ecma_renamers.specs.Laws.{ReplacingLeavesNone, has_id, stands_here, stands_in}
use Rattle.ecma_renamers.specs.Renamers.{Id, ident_id, ident_replacing, same_id}
use Rattle.ecma_renamers.specs.Renaming.{Renaming, changed_node, expanded, expanded_by, is_kept, is_type, key_of, kind_is_absent, new_ident, old_ident, renamed_at, shared_by, shared_name, spot_by, spot_in, two_patterns, with_default, with_ident, written_from, written_of}
use Rattle.ecma_renamers.proofs.Writing.{renamed-out}

-- ---- places that nothing keeps

abbrev keeps : Spot → Bool
keeps spot.Kept = true
keeps _ = false

keeps-properties : (b : Bool) → keeps (cond b spot.Properties spot.Elsewhere) ≡ false
keeps-properties true = refl
keeps-properties false = refl

keeps-by : (s : Spot) (k : Kind) (i : ℕ) → keeps (spot_by s k i) ≡ false
keeps-by s kind.ObjectLit i = keeps-properties (i == 0)
keeps-by spot.Properties kind.List i = refl
keeps-by s _ i = refl

kept-free : (s : Spot) (k : Kind) → keeps s ≡ false → is_kept s k ≡ is_type k
kept-free spot.Kept k free = cc
kept-free _ k free = refl

abbrev is_specifier : Kind → Bool
is_specifier (kind.ImportNamedSpecifier is_type_only) = true
is_specifier (kind.ExportNamedSpecifier is_type_only) = true
is_specifier _ = false

either-false : (b : Bool) → cond b false false ≡ false
either-false true = refl
either-false false = refl

both-false : (a b : Bool) → (a || b) ≡ false → (a ≡ false) × (b ≡ false)
both-false true b h = cc
both-false false b h = (refl, h)

module _ (from : Id) (to : Ident) (other : same_id from (ident_id to) ≡ false) where
  abbrev r : Renaming
  r = ident_replacing from to

  abbrev any_stands : List Node → Bool
  any_stands nodes = list_any (λ b. b) (map (stands_in from) nodes)

  stands-made : (span : Span) (k : Kind) (nodes : List Node) → stands_in from (node_of span k nodes) ≡ cond (is_type k) false (has_id from k || any_stands nodes)
  stands-made span k nodes = fold-roll-Node Bool (stands_here from) (record { span = span; kind = k; children = nodes })

  stands-out : (n : Node) → stands_in from n ≡ cond (is_type (out-Node n).kind) false (has_id from (out-Node n).kind || any_stands (out-Node n).children)
  stands-out n = fold_out-Node Bool (stands_here from) n

  clean-made : (span : Span) (k : Kind) (nodes : List Node) → has_id from k ≡ false → any_stands nodes ≡ false → stands_in from (node_of span k nodes) ≡ false
  clean-made span k nodes here below = stands-made span k nodes ∙ rw (here, below) (either-false (is_type k))

  -- ---- a node that is written out

  clean-default : (span : Span) (p v : Node) → stands_in from p ≡ false → stands_in from v ≡ false → (b : Bool) → stands_in from (cond b p (node_of span kind.AssignPat (p ∷ v ∷ []))) ≡ false
  clean-default span p v first second true = first
  clean-default span p v first second false = clean-made span kind.AssignPat (p ∷ v ∷ []) refl (rw (first, second) refl)

  clean-key : (old : Ident) → stands_in from (key_of old) ≡ false
  clean-key old = clean-made old.span (kind.IdentName old.sym) [] refl refl

  clean-patterns : (old : Ident) (w : Node) (nodes : List Node) → any_stands nodes ≡ false → stands_in from w ≡ false → stands_in from (two_patterns old w nodes) ≡ false
  clean-patterns old w [] below whole = whole
  clean-patterns old w (p ∷ []) below whole = whole
  clean-patterns old w (p ∷ v ∷ []) below whole =
      let first = both-false (stands_in from p) (stands_in from v || false) below in
      let second = both-false (stands_in from v) false first.1 in
      clean-made (out-Node w).span kind.KeyValuePatProp (key_of old ∷ with_default (out-Node w).span p v ∷ []) refl
      (rw (clean-key old, clean-default (out-Node w).span p v first.0 second.0 (kind_is_absent v)) refl)
  clean-patterns old w (p ∷ v ∷ x ∷ xs) below whole = whole

  clean-by : (k : Kind) (span : Span) (old : Ident) (w : Node) → (out-Node w).kind ≡ k → is_specifier k ≡ false → stands_in from w ≡ false → stands_in from (expanded_by k span old w) ≡ false
  unfolding expanded_by
  clean-by (kind.Ident sym ctxt optional) span old w is usual whole = clean-made span kind.KeyValueProp (key_of old ∷ w ∷ []) refl (rw (clean-key old, whole) refl)
  clean-by (kind.ImportNamedSpecifier is_type_only) span old w is usual whole = cc
  clean-by (kind.ExportNamedSpecifier is_type_only) span old w is usual whole = cc
  clean-by kind.AssignPatProp span old w is usual whole =
      let out : cond (is_type kind.AssignPatProp) false (has_id from kind.AssignPatProp || any_stands (out-Node w).children) ≡ false =
      ap (λ (z : Kind). cond (is_type z) false (has_id from z || any_stands (out-Node w).children)) (sym is) ∙ (sym (stands-out w) ∙ whole) in
      clean-patterns old w (out-Node w).children out whole
  clean-by _ span old w is usual whole = whole

  clean-expanded : (span : Span) (old : Option Ident) (w : Node) → (is_specifier (out-Node w).kind ≡ true → old ≡ None) → stands_in from w ≡ false → stands_in from (expanded span old w) ≡ false
  clean-expanded span None w none whole = whole
  clean-expanded span (Some old) w none whole = go (is_specifier (out-Node w).kind) refl
    where
      go : (b : Bool) → is_specifier (out-Node w).kind ≡ b → stands_in from (expanded span (Some old) w) ≡ false
      go true e = let never : Some old ≡ None = none e in cc
      go false e = clean-by (out-Node w).kind span old w refl e whole

  -- ---- the identifier of a node

  replaced : (b : Bool) → cond b (Some to) None ≡ Some to ⊎ ((cond b (Some to) None ≡ None) × (b ≡ false))
  replaced true = inl refl
  replaced false = inr (refl, refl)

  new-by : (n : Node) (k : Kind) → (out-Node n).kind ≡ k → (new_ident r n ≡ Some to) ⊎ ((new_ident r n ≡ None) × (has_id from k ≡ false))
  new-by n (kind.Ident sym ctxt optional) is = rw is (replaced (same_id from (sym, ctxt)))
  new-by n _ is = rw is (inr (refl, refl))

  shared-none : (k : Kind) (s : Spot) (n : Node) → is_specifier k ≡ true → shared_by r s k n ≡ None
  unfolding shared_by
  shared-none (kind.ImportNamedSpecifier is_type_only) s n is = refl
  shared-none (kind.ExportNamedSpecifier is_type_only) s n is = refl
  shared-none _ s n is = cc

  clean-with : (n : Node) (s : Spot) (nodes : List Node) → any_stands nodes ≡ false → (new_ident r n ≡ Some to) ⊎ ((new_ident r n ≡ None) × (has_id from (out-Node n).kind ≡ false))
      → stands_in from (expanded (out-Node n).span (old_ident r (shared_name r s n)) (with_ident (new_ident r n) (node_of (out-Node n).span (out-Node n).kind nodes))) ≡ false
  clean-with n s nodes below (inl new) =
      let w0 : Node = node_of (out-Node n).span (out-Node n).kind nodes in
      let inner : (out-Node w0).children ≡ nodes = ap (λ z. z.children) (out-roll-Node (record { span = (out-Node n).span; kind = (out-Node n).kind; children = nodes })) in
      let w : Node = node_of to.span (kind.Ident to.sym to.ctxt to.optional) (out-Node w0).children in
      let whole : stands_in from w ≡ false = clean-made to.span (kind.Ident to.sym to.ctxt to.optional) (out-Node w0).children other (ap any_stands inner ∙ below) in
      let out : (out-Node w).kind ≡ kind.Ident to.sym to.ctxt to.optional =
      ap (λ z. z.kind) (out-roll-Node (record { span = to.span; kind = kind.Ident to.sym to.ctxt to.optional; children = (out-Node w0).children })) in
      subst (λ (i : Option Ident). stands_in from (expanded (out-Node n).span (old_ident r (shared_name r s n)) (with_ident i w0)) ≡ false) (sym new)
      (clean-expanded (out-Node n).span (old_ident r (shared_name r s n)) w (λ e. (let never : false ≡ true = sym (ap is_specifier out) ∙ e in cc)) whole)
  clean-with n s nodes below (inr (new, here)) =
      let w : Node = node_of (out-Node n).span (out-Node n).kind nodes in
      let out : (out-Node w).kind ≡ (out-Node n).kind = ap (λ z. z.kind) (out-roll-Node (record { span = (out-Node n).span; kind = (out-Node n).kind; children = nodes })) in
      subst (λ (i : Option Ident). stands_in from (expanded (out-Node n).span (old_ident r (shared_name r s n)) (with_ident i w)) ≡ false) (sym new)
      (clean-expanded (out-Node n).span (old_ident r (shared_name r s n)) w
      (λ e. ap (old_ident r) (shared-none (out-Node n).kind s n (sym (ap is_specifier out) ∙ e)))
      (clean-made (out-Node n).span (out-Node n).kind nodes here below))

  -- ---- trees

  abbrev Clean : Node → Type 0
  Clean n = (s : Spot) → keeps s ≡ false → stands_in from (renamed_at r n s) ≡ false

  clean-children : (spots : ℕ → Spot) → ((i : ℕ) → keeps (spots i) ≡ false) → (ns : List ((n : Node) × Clean n)) (i : ℕ)
      → any_stands (written_from spots i (map (renamed_at r) (map (λ e. e.0) ns))) ≡ false
  clean-children spots free [] i = refl
  clean-children spots free (n ∷ ns) i = rw (n.1 (spots i) (free i), clean-children spots free ns (suc i)) refl

  clean-node : (n : Node) (s : Spot) → keeps s ≡ false → any_stands (written_from (spot_in r s (out-Node n).kind) 0 (map (renamed_at r) (out-Node n).children)) ≡ false → stands_in from (renamed_at r n s) ≡ false
  clean-node n s free below = ap (stands_in from) (renamed-out r s n) ∙ go (is_kept s (out-Node n).kind) refl
    where
      go : (b : Bool) → is_kept s (out-Node n).kind ≡ b → stands_in from (cond b n (changed_node r s n (map (renamed_at r) (out-Node n).children))) ≡ false
      go true e = let type : is_type (out-Node n).kind ≡ true = sym (kept-free s (out-Node n).kind free) ∙ e in stands-out n ∙ rw type refl
      go false e = clean-with n s (written_from (spot_in r s (out-Node n).kind) 0 (map (renamed_at r) (out-Node n).children)) below (new-by n (out-Node n).kind refl)

  clean-tree : (n : Node) → Clean n
  clean-tree = ind-Node Clean (λ x y is.
      (let parts = out-roll-Node x in
      λ s free. clean-node (roll-Node x) s free
      (ap (λ (z : Node-F Node). any_stands (written_from (spot_in r s z.kind) 0 (map (renamed_at r) z.children))) parts
      ∙ (ap (λ z. any_stands (written_from (spot_in r s x.kind) 0 (map (renamed_at r) z.children))) (sym is)
      ∙ clean-children (spot_in r s x.kind) (λ i. keeps-by s x.kind i) y.children 0))))

pub replacing_leaves : ReplacingLeavesNone
replacing_leaves from to other tree = clean-tree from to other tree spot.Elsewhere refl
