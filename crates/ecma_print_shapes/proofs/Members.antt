-- Members have their shapes, in optional chains and outside.
use Rattle.std.proofs.Common.{◌≡◌, ◌⊎◌, inl, inr, refl, sym, subst, Bool, true, false, List, [], ◌∷◌}
use Rattle.ecma_kind.specs.declared.span.Span.{Span}
use Rattle.ecma_kind.specs.declared.kind.Kind.TheVariants as kind
use Rattle.ecma_kind.specs.declared.shapes.Shape.{Shape}
use Rattle.ecma_kind.specs.declared.shapes.Sort.TheVariants as sort
use Rattle.ecma_tree.specs.declared.node.Node.{Node}
use Rattle.ecma_tree.specs.Nodes.{node_of}
use Rattle.ecma_tree.specs.Sorted.{one}
use Rattle.ecma_rules.specs.declared.target.Target.{Target}
use Rattle.ecma_rules.specs.declared.target.Target.TheVariants as target
use Rattle.ecma_rules.specs.Targets.{target_in}
use Rattle.ecma_covers.specs.Covering.{cover_at, cover_in}
use Rattle.ecma_fits.specs.declared.role.Role.{Role}
use Rattle.ecma_fits.specs.declared.role.Role.TheVariants as role
use Rattle.ecma_fits.specs.Roles.{role_in}
use Rattle.ecma_print.specs.declared.place.Beside.{Beside}
use Rattle.ecma_print.specs.declared.place.Beside.TheVariants as beside
use Rattle.ecma_print.specs.declared.place.Spot.{Spot}
use Rattle.ecma_print.specs.Expressions.{before_key, object_beside}
use Rattle.ecma_print.specs.Laid.{is_computed}
use Rattle.ecma_print.specs.Layout.{laid}
use Rattle.ecma_print.specs.Places.{left}
use Rattle.ecma_shapes.specs.Shapes.{IsExpression, IsIndexed, IsMemberLevel, Level, callee, element, index_of_callee, index_of_new, index_of_numeral, looser, member, member_of_new, member_of_object, new_callee, numeral, parenthesized}
use Rattle.ecma_print_shapes.proofs.Claims.{AllFormed, Expressed, MemberKey, Proper, bracketed_key, is_of_link, named_key}
use Rattle.ecma_print_shapes.proofs.Covered.{covered_children}
use Rattle.ecma_print_shapes.proofs.ObjectSeats.{at_link, at_object, before_link}
use Rattle.ecma_print_shapes.proofs.Ranks.{IsWithin, member_level, own_level, rank, to_callee, to_object}
use Rattle.ecma_print_shapes.proofs.Sound.{Here, Sound}
use Rattle.ecma_print_shapes.proofs.Spots.{child_value, proper_free, proper_head}

-- by whether it stands in the callee of `new`
module _ {e : Node} where
  pub to_new_callee : (a : Level) → IsWithin 0 a → IsExpression a e → IsExpression new_callee e
  to_new_callee new_callee h x = x
  to_new_callee a h x = absurd (cc)

  pub to_member : (c : Bool) (a : Level) → IsWithin (rank (member_level c)) a → IsExpression a e → IsExpression (member_level c) e
  to_member true a h x = to_new_callee a h x
  to_member false a h x = to_object a h x

-- before brackets or a template
pub record Headed (in_callee : Bool) (e : Node) : Type 0 where
  pub level : Level
  pub indexed : IsIndexed level (member_level in_callee)
  pub shape : IsExpression level e

headed : {e : Node} (c : Bool) (a : Level) → (a ≡ numeral) ⊎ IsWithin (rank (before_link c)) a → IsExpression a e → Headed c e
headed {e} true a (inl is) x = record { level = numeral; indexed = index_of_numeral; shape = subst (λ l. IsExpression l e) is x }
headed true a (inr h) x = record { level = new_callee; indexed = index_of_new; shape = to_new_callee a h x }
headed {e} false a (inl is) x = record { level = callee; indexed = index_of_callee; shape = looser (subst (λ l. IsExpression l e) is x) }
headed false a (inr h) x = record { level = callee; indexed = index_of_callee; shape = to_callee a h x }

member_levels : (c : Bool) → IsMemberLevel (member_level c)
member_levels true = member_of_new
member_levels false = member_of_object

-- outside of an optional chain
outside_chain : (b : Beside) (computed : Bool) → is_of_link b ≡ false → object_beside b computed ≡ before_key computed
outside_chain beside.OfLink computed h = absurd (cc)
outside_chain beside.OfOptionalLink computed h = absurd (cc)
outside_chain _ computed h = refl

-- a value before brackets or a template
pub before_link_shape : (spot : Spot) {n : Node} → Expressed target.Free (left spot 16 beside.BeforeLink) n → Headed spot.in_callee_of_new (cover_at n target.Free)
before_link_shape spot e = headed spot.in_callee_of_new (own_level e.kind e.children spot.in_callee_of_new) (at_link e.children spot e.kind e.open_there) e.shape

module _ (spot : Spot) (at : Span) (a b : Node) (f : AllFormed (a ∷ b ∷ [])) (p : Proper spot) where
  abbrev Holder : Bool → Type 0
  Holder computed = Sound role.Free (left spot 16 (object_beside spot.beside computed)) (one sort.Expr) a

  holder_beside : (computed : Bool) → Holder computed → Sound role.Free (left spot 16 (before_key computed)) (one sort.Expr) a
  holder_beside computed s = subst (λ z. Sound role.Free (left spot 16 z) (one sort.Expr) a) (outside_chain spot.beside computed p.unlinked) s

  by_name : Holder false → IsExpression (member_level spot.in_callee_of_new) (cover_at a target.Free)
  by_name s =
      let e = child_value f.0 (holder_beside false s) refl (proper_head spot beside.BeforeDot refl refl) in
      to_member spot.in_callee_of_new (own_level e.kind e.children spot.in_callee_of_new) (at_object e.children spot e.kind e.open_there) e.shape

  by_brackets : Holder true → Headed spot.in_callee_of_new (cover_at a target.Free)
  by_brackets s = before_link_shape spot (child_value f.0 (holder_beside true s) refl (proper_head spot beside.BeforeLink refl refl))

  by_key : Holder (is_computed (laid b).kind) → MemberKey b → IsExpression (member_level spot.in_callee_of_new) (node_of at kind.MemberExpr (cover_at a target.Free ∷ cover_at b target.Free ∷ []))
  by_key s (named_key e key) = member at (member_levels spot.in_callee_of_new) (by_name (subst Holder e s)) key
  by_key s (bracketed_key e at_key x is level shape_of) =
      let holder = by_brackets (subst Holder e s) in
      subst (λ z. IsExpression (member_level spot.in_callee_of_new) (node_of at kind.MemberExpr (cover_at a target.Free ∷ z ∷ []))) (sym is) (element at at_key holder.indexed holder.shape shape_of)

module _ {r : Role} {spot : Spot} {shape : Shape} (t : Target) (at : Span) where
  pub member_formed : (cs : List Node) → AllFormed cs → Here r spot shape at kind.MemberExpr cs → Proper spot
      → IsExpression (member_level spot.in_callee_of_new) (node_of at kind.MemberExpr (covered_children t kind.MemberExpr cs))
  unfolding cover_in target_in role_in
  member_formed [] f h p = absurd h.below
  member_formed (a ∷ []) f h p = absurd h.below.1
  member_formed (a ∷ b ∷ []) f h p = by_key spot at a b f p h.below.0 (f.1.0.member_key h.below.1.0)
  member_formed (a ∷ b ∷ c ∷ cs) f h p = absurd h.below.1.1

  pub parenthesized_formed : (cs : List Node) → AllFormed cs → Here r spot shape at kind.ParenExpr cs → IsExpression new_callee (node_of at kind.ParenExpr (covered_children t kind.ParenExpr cs))
  unfolding cover_in target_in role_in
  parenthesized_formed [] f h = absurd h.below
  parenthesized_formed (a ∷ []) f h = parenthesized at (child_value f.0 h.below.0 refl (proper_free 0)).shape
  parenthesized_formed (a ∷ b ∷ cs) f h = absurd h.below.1
