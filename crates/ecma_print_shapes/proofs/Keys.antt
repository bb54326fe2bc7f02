-- Keys of members have their shapes.
use Rattle.std.proofs.Common.{◌≡◌, ◌∙◌, refl, sym, ap, subst, ℕ, Bool, true, false, List, [], ◌∷◌}
use Rattle.ecma_kind.specs.declared.span.Span.{Span}
use Rattle.ecma_kind.specs.declared.kind.Kind.{Kind}
use Rattle.ecma_kind.specs.declared.kind.Kind.TheVariants as kind
use Rattle.ecma_kind.specs.declared.shapes.Shape.{Shape}
use Rattle.ecma_kind.specs.declared.shapes.Sort.TheVariants as sort
use Rattle.ecma_tree.specs.declared.node.Node.{Node}
use Rattle.ecma_tree.specs.Nodes.{node_of}
use Rattle.ecma_tree.specs.Sorted.{one}
use Rattle.ecma_rules.specs.declared.target.Target.TheVariants as target
use Rattle.ecma_rules.specs.Targets.{target_in}
use Rattle.ecma_covers.specs.Covering.{cover_at, cover_in}
use Rattle.ecma_fits.specs.declared.role.Role.{Role}
use Rattle.ecma_fits.specs.declared.role.Role.TheVariants as role
use Rattle.ecma_fits.specs.Roles.{is_tagged, role_in}
use Rattle.ecma_print.specs.declared.place.Spot.{Spot}
use Rattle.ecma_print.specs.Laid.{is_computed}
use Rattle.ecma_print.specs.Layout.{laid}
use Rattle.ecma_print.specs.Places.{free}
use Rattle.ecma_print.proofs.LaidOut.{laid_kind_of-node}
use Rattle.ecma_shapes.specs.Shapes.{IsChainKey, IsExpression, IsKey, Level, plain_key, private_key}
use Rattle.ecma_print_shapes.proofs.Building.{childless}
use Rattle.ecma_print_shapes.proofs.Claims.{AllFormed, MemberKey, SuperKey, bracketed_key, bracketed_of_super, named_key, named_of_super}
use Rattle.ecma_print_shapes.proofs.Covered.{covered}
use Rattle.ecma_print_shapes.proofs.Leaves.{key_shape}
use Rattle.ecma_print_shapes.proofs.LeafTokens.{private_token}
use Rattle.ecma_print_shapes.proofs.Names.{leaf_as_is}
use Rattle.ecma_print_shapes.proofs.Ranks.{own_level}
use Rattle.ecma_print_shapes.proofs.Sound.{Here}
use Rattle.ecma_print_shapes.proofs.Spots.{child_value, proper_free}

-- a name behind a point
pub plain_name : {r : Role} {spot : Spot} {shape : Shape} (at : Span) (word : List ℕ) (cs : List Node) → Here r spot shape at (kind.IdentName word) cs → IsKey (cover_at (node_of at (kind.IdentName word) cs) target.Free)
plain_name {r} {spot} at word cs h =
    let e = childless (role_in r (kind.IdentName word)) [] (free 0) cs h.below in
    subst IsKey (sym (ap (λ z. cover_at (node_of at (kind.IdentName word) z) target.Free) e ∙ covered at (kind.IdentName word) [] target.Free refl)) (key_shape (is_tagged r) at word h.spelled h.bare.0)

-- an expression in brackets
pub record Bracketed (at : Span) (cs : List Node) : Type 0 where
  pub inside : Node
  pub level : Level
  pub shape : IsExpression level inside
  pub is : cover_at (node_of at kind.ComputedPropName cs) target.Free ≡ node_of at kind.ComputedPropName (inside ∷ [])

pub bracketed : {r : Role} {shape : Shape} (at : Span) (level : ℕ) (cs : List Node) → AllFormed cs → Here r (free level) shape at kind.ComputedPropName cs → Bracketed at cs
unfolding cover_in target_in role_in
bracketed at level [] f h = absurd h.below
bracketed at level (a ∷ []) f h =
    let e = child_value f.0 h.below.0 refl (proper_free level) in
    record { inside = cover_at a target.Free; level = own_level e.kind e.children false; shape = e.shape; is = covered at kind.ComputedPropName (a ∷ []) target.Free refl }
bracketed at level (a ∷ b ∷ cs) f h = absurd h.below.1

module _ (at : Span) where
  computed_is : (k : Kind) (cs : List Node) (b : Bool) → is_computed k ≡ b → is_computed (laid (node_of at k cs)).kind ≡ b
  computed_is k cs b e = ap is_computed (laid_kind_of-node at k cs) ∙ e

  pub member_key_formed : (k : Kind) (cs : List Node) → AllFormed cs → Here role.Private (free 0) (one sort.MemberProp) at k cs → MemberKey (node_of at k cs)
  member_key_formed (kind.IdentName word) cs f h = named_key (computed_is (kind.IdentName word) cs false refl) (plain_key (plain_name at word cs h))
  member_key_formed kind.ComputedPropName cs f h = let b = bracketed at 0 cs f h in bracketed_key (computed_is kind.ComputedPropName cs true refl) at b.inside b.is b.level b.shape
  member_key_formed (kind.PrivateName name) cs f h =
      let k = kind.PrivateName name in
      let e = leaf_as_is at k cs (childless (role_in role.Private k) [] (free 0) cs h.below) refl in
      named_key (computed_is k cs false refl) (subst IsChainKey (sym e) (private_key at name (private_token name h.bare.0 h.spelled)))
  member_key_formed k cs f h = let out = h.allowed in cc

  pub super_key_formed : (k : Kind) (cs : List Node) → AllFormed cs → Here role.Free (free 0) (one sort.SuperProp) at k cs → SuperKey (node_of at k cs)
  super_key_formed (kind.IdentName word) cs f h = named_of_super (plain_name at word cs h)
  super_key_formed kind.ComputedPropName cs f h = let b = bracketed at 0 cs f h in bracketed_of_super at b.inside b.is b.level b.shape
  super_key_formed k cs f h = let out = h.allowed in cc
