-- Calls, and what `new` constructs, have their shapes.
use Rattle.std.proofs.Common.{◌≡◌, ◌∙◌, ◌⊎◌, inl, inr, refl, sym, ap, subst, Bool, true, false, ◌||◌, List, [], ◌∷◌, map}
use Rattle.ecma_kind.specs.Sorts.{is_expr}
use Rattle.ecma_kind.specs.declared.span.Span.{Span}
use Rattle.ecma_kind.specs.declared.kind.Kind.{Kind}
use Rattle.ecma_kind.specs.declared.kind.Kind.TheVariants as kind
use Rattle.ecma_kind.specs.declared.shapes.Shape.{Shape}
use Rattle.ecma_kind.specs.declared.shapes.Sort.TheVariants as sort
use Rattle.ecma_tree.specs.declared.node.Node.{Node, out-Node}
use Rattle.ecma_tree.specs.declared.node.Node.TheViews.{roll-out-Node}
use Rattle.ecma_tree.specs.Nodes.{node_of}
use Rattle.ecma_tree.specs.Sorted.{allows, is_absent, is_list, maybe, maybe_many, many, one}
use Rattle.ecma_rules.specs.declared.target.Target.{Target}
use Rattle.ecma_rules.specs.declared.target.Target.TheVariants as target
use Rattle.ecma_rules.specs.Children.{kind_of}
use Rattle.ecma_rules.specs.Targets.{target_in}
use Rattle.ecma_covers.specs.Covering.{cover_at, cover_in}
use Rattle.ecma_fits.specs.declared.role.Role.{Role}
use Rattle.ecma_fits.specs.declared.role.Role.TheVariants as role
use Rattle.ecma_fits.specs.Roles.{role_in}
use Rattle.ecma_print.specs.declared.place.Beside.TheVariants as beside
use Rattle.ecma_print.specs.declared.place.Spot.{Spot}
use Rattle.ecma_print.specs.Laid as print
use Rattle.ecma_print.specs.Layout.{laid}
use Rattle.ecma_print.specs.Levels.{lacks_arguments}
use Rattle.ecma_print.specs.Places.{free, left}
use Rattle.ecma_print.proofs.LaidOut.{laid_kind}
use Rattle.ecma_shapes.specs.Shapes.{IsAbsent, IsArguments, IsConstructor, IsExpression, Level, call, callee, constructor_callee, constructor_numeral, import_call, looser, new_alone, new_callee, new_expression, numeral, object, super_call, super_element, super_member, values}
use Rattle.ecma_plain.specs.Forms.{is_of_forms}
use Rattle.ecma_print_shapes.proofs.Building.{absent_shape, childless}
use Rattle.ecma_print_shapes.proofs.Claims.{AllFormed, Formed, SuperKey, bracketed_of_super, named_of_super, seen, value_kind}
use Rattle.ecma_print_shapes.proofs.Covered.{covered, covered_children}
use Rattle.ecma_print_shapes.proofs.Members.{to_new_callee}
use Rattle.ecma_print_shapes.proofs.ObjectSeats.{at_constructor, at_link, before_link}
use Rattle.ecma_print_shapes.proofs.Ranks.{IsWithin, new_level, own_level, rank, to_callee}
use Rattle.ecma_print_shapes.proofs.Seats.{either_parts}
use Rattle.ecma_print_shapes.proofs.Sound.{Here, Sound}
use Rattle.ecma_print_shapes.proofs.Spots.{child_value, proper_head}

-- no type arguments are there
untyped : (k : Kind) → allows (maybe sort.TsTypeParamInstantiation) k ≡ true → is_of_forms k ≡ true → is_absent k ≡ true
untyped kind.TsTypeParamInstantiation a f = cc
untyped kind.Absent a f = refl
untyped k a f = cc

pub no_type_arguments : {r : Role} {spot : Spot} (n : Node) → Sound r spot (maybe sort.TsTypeParamInstantiation) n → IsAbsent (cover_at n target.Free)
no_type_arguments n s = let h = seen n s in absent_shape target.Free n s (untyped (kind_of n) h.allowed h.bare.1)

-- arguments
pub call_arguments : {n : Node} → Formed n → Sound role.Free (free 1) (many sort.ExprOrSpread) n → IsArguments values (cover_at n target.Free)
call_arguments {n} f s = f.arguments (many sort.ExprOrSpread) refl s (seen n s).allowed

-- what is called

-- a value, `super` or `import`
pub data Called (n : Node) : Type 0 where
  called_value : is_expr (kind_of n) ≡ true → Called n
  called_super : (at : Span) → cover_at n target.Free ≡ node_of at kind.Super [] → Called n
  called_import : (at : Span) → cover_at n target.Free ≡ node_of at kind.Import [] → Called n

super_covered : {r : Role} {spot : Spot} {shape : Shape} (at : Span) (cs : List Node) → Here r spot shape at kind.Super cs → cover_at (node_of at kind.Super cs) target.Free ≡ node_of at kind.Super []
super_covered {r} at cs h = ap (λ z. cover_at (node_of at kind.Super z) target.Free) (childless (role_in r kind.Super) [] (free 0) cs h.below) ∙ covered at kind.Super [] target.Free refl

import_covered : {r : Role} {spot : Spot} {shape : Shape} (at : Span) (cs : List Node) → Here r spot shape at kind.Import cs → cover_at (node_of at kind.Import cs) target.Free ≡ node_of at kind.Import []
import_covered {r} at cs h = ap (λ z. cover_at (node_of at kind.Import z) target.Free) (childless (role_in r kind.Import) [] (free 0) cs h.below) ∙ covered at kind.Import [] target.Free refl

only_super : (k : Kind) → allows (one sort.Super) k ≡ true → k ≡ kind.Super
only_super kind.Super h = refl
only_super k h = cc

pub super_there : {r : Role} {spot : Spot} (n : Node) → Sound r spot (one sort.Super) n → (at : Span) × (cover_at n target.Free ≡ node_of at kind.Super [])
super_there {r} {spot} n s =
    let x = out-Node n in
    let h = seen n s in
    let e = only_super x.kind h.allowed in
    (x.span, ap (λ m. cover_at m target.Free) (sym (roll-out-Node n)) ∙ ap (λ k. cover_at (node_of x.span k x.children) target.Free) e ∙ super_covered x.span x.children (subst (λ k. Here r spot (one sort.Super) x.span k x.children) e h))

-- by its kind
data CalleeKind (k : Kind) : Type 0 where
  value_kind_there : is_expr k ≡ true → CalleeKind k
  super_kind : k ≡ kind.Super → CalleeKind k
  import_kind : k ≡ kind.Import → CalleeKind k

callee_kind : (k : Kind) → allows (one sort.Callee) k ≡ true → CalleeKind k
callee_kind kind.Super h = super_kind refl
callee_kind kind.Import h = import_kind refl
callee_kind k h = value_kind_there h

abbrev CalleeHere : Role → Spot → Node → Kind → Type 0
CalleeHere r spot n k = Here r spot (one sort.Callee) (out-Node n).span k (out-Node n).children

called_by : {r : Role} {spot : Spot} (n : Node) → CalleeHere r spot n (out-Node n).kind → CalleeKind (out-Node n).kind → Called n
called_by n h (value_kind_there e) = called_value e
called_by {r} {spot} n h (super_kind e) =
    let x = out-Node n in
    called_super x.span (ap (λ m. cover_at m target.Free) (sym (roll-out-Node n)) ∙ ap (λ k. cover_at (node_of x.span k x.children) target.Free) e ∙ super_covered x.span x.children (subst (CalleeHere r spot n) e h))
called_by {r} {spot} n h (import_kind e) =
    let x = out-Node n in
    called_import x.span (ap (λ m. cover_at m target.Free) (sym (roll-out-Node n)) ∙ ap (λ k. cover_at (node_of x.span k x.children) target.Free) e ∙ import_covered x.span x.children (subst (CalleeHere r spot n) e h))

called : {r : Role} {spot : Spot} (n : Node) → Sound r spot (one sort.Callee) n → Called n
called n s = let h = seen n s in called_by n h (callee_kind (out-Node n).kind h.allowed)

abbrev CallOf : Span → Node → Node → Node → Type 0
CallOf at args none f = IsExpression object (node_of at kind.CallExpr (f ∷ args ∷ none ∷ []))

called_shape : {e : Node} (a : Level) → (a ≡ numeral) ⊎ IsWithin 2 a → IsExpression a e → IsExpression callee e
called_shape {e} a (inl is) x = looser (subst (λ l. IsExpression l e) is x)
called_shape a (inr h) x = to_callee a h x

call_by : (spot : Spot) (at : Span) (a args none : Node) → Formed a → Sound role.Free (left spot 16 beside.BeforeLink) (one sort.Callee) a → spot.in_callee_of_new ≡ false → IsArguments values args → IsAbsent none → Called a
    → CallOf at args none (cover_at a target.Free)
call_by spot at a args none f s out is_args is_none (called_super at_super is) = subst (CallOf at args none) (sym is) (super_call at at_super is_args is_none)
call_by spot at a args none f s out is_args is_none (called_import at_import is) = subst (CallOf at args none) (sym is) (import_call at at_import is_args is_none)
call_by spot at a args none f s out is_args is_none (called_value is) =
    let e = f.expression role.Free target.Free (left spot 16 beside.BeforeLink) (one sort.Callee) s (proper_head spot beside.BeforeLink refl refl) refl (value_kind a s is) in
    call at (called_shape (own_level e.kind e.children spot.in_callee_of_new) (subst (λ w. (own_level e.kind e.children spot.in_callee_of_new ≡ numeral) ⊎ IsWithin (rank (before_link w)) (own_level e.kind e.children spot.in_callee_of_new)) out (at_link e.children spot e.kind e.open_there)) e.shape) is_args is_none

super_by : (at at_super : Span) (b : Node) → SuperKey b → IsExpression new_callee (node_of at kind.SuperPropExpr (node_of at_super kind.Super [] ∷ cover_at b target.Free ∷ []))
super_by at at_super b (named_of_super k) = super_member at at_super k
super_by at at_super b (bracketed_of_super at_key e is level shape_of) =
    subst (λ z. IsExpression new_callee (node_of at kind.SuperPropExpr (node_of at_super kind.Super [] ∷ z ∷ []))) (sym is) (super_element at at_super at_key shape_of)

module _ {r : Role} {spot : Spot} {shape : Shape} (t : Target) (at : Span) where
  pub super_formed : (cs : List Node) → AllFormed cs → Here r spot shape at kind.SuperPropExpr cs → IsExpression new_callee (node_of at kind.SuperPropExpr (covered_children t kind.SuperPropExpr cs))
  unfolding cover_in target_in role_in
  super_formed [] f h = absurd h.below
  super_formed (a ∷ []) f h = absurd h.below.1
  super_formed (a ∷ b ∷ []) f h =
      let x = super_there a h.below.0 in
      subst (λ z. IsExpression new_callee (node_of at kind.SuperPropExpr (z ∷ cover_at b target.Free ∷ []))) (sym x.1) (super_by at x.0 b (f.1.0.super_key h.below.1.0))
  super_formed (a ∷ b ∷ c ∷ cs) f h = absurd h.below.1.1

  pub call_formed : (cs : List Node) → AllFormed cs → Here r spot shape at kind.CallExpr cs → IsExpression object (node_of at kind.CallExpr (covered_children t kind.CallExpr cs))
  unfolding cover_in target_in role_in
  call_formed [] f h = absurd h.below
  call_formed (a ∷ []) f h = absurd h.below.1
  call_formed (a ∷ b ∷ []) f h = absurd h.below.1.1
  call_formed (a ∷ b ∷ c ∷ []) f h =
      call_by spot at a (cover_at b target.Free) (cover_at c target.Free) f.0 h.below.0 (either_parts _ spot.in_callee_of_new h.open_there).1 (call_arguments f.1.0 h.below.1.0) (no_type_arguments c h.below.1.1.0) (called a h.below.0)
  call_formed (a ∷ b ∷ c ∷ d ∷ cs) f h = absurd h.below.1.1.1

-- `new`, with arguments or without

same_absent : (k : Kind) → print.is_absent k ≡ is_absent k
same_absent kind.Absent = refl
same_absent k = refl

list_there : (a b : Bool) → (a || b) ≡ true → a ≡ false → b ≡ true
list_there true b h e = cc
list_there false b h e = h

constructed : {e : Node} (a : Level) → (a ≡ numeral) ⊎ IsWithin 0 a → IsExpression a e → (level : Level) × IsConstructor level × IsExpression level e
constructed {e} a (inl is) x = (numeral, constructor_numeral, subst (λ l. IsExpression l e) is x)
constructed a (inr h) x = (new_callee, constructor_callee, to_new_callee a h x)

new_by : (at : Span) (x b none : Node) (alone : Bool) → is_absent (kind_of b) ≡ alone → (level : Level) × IsConstructor level × IsExpression level x → Formed b → Sound role.Free (free 1) (maybe_many sort.ExprOrSpread) b → IsAbsent none
    → IsExpression (new_level alone) (node_of at kind.NewExpr (x ∷ cover_at b target.Free ∷ none ∷ []))
new_by at x b none true e c f s is_none = new_alone at c.1 c.2 (absent_shape target.Free b s e) is_none
new_by at x b none false e c f s is_none =
    new_expression at c.1 c.2 (f.arguments (maybe_many sort.ExprOrSpread) refl s (list_there (is_absent (kind_of b)) (is_list (kind_of b)) (seen b s).allowed e)) is_none

module _ {r : Role} {spot : Spot} {shape : Shape} (t : Target) (at : Span) where
  pub new_formed : (cs : List Node) → AllFormed cs → Here r spot shape at kind.NewExpr cs → IsExpression (new_level (lacks_arguments (map laid cs))) (node_of at kind.NewExpr (covered_children t kind.NewExpr cs))
  unfolding cover_in target_in role_in
  new_formed [] f h = absurd h.below
  new_formed (a ∷ []) f h = absurd h.below.1
  new_formed (a ∷ b ∷ []) f h = absurd h.below.1.1
  new_formed (a ∷ b ∷ c ∷ []) f h =
      let e = child_value f.0 h.below.0 refl (record { unlinked = refl; headed = λ z. (refl, refl) }) in
      let constructor = constructed (own_level e.kind e.children true) (at_constructor e.children spot e.kind e.open_there) e.shape in
      subst (λ alone. IsExpression (new_level alone) (node_of at kind.NewExpr (cover_at a target.Free ∷ cover_at b target.Free ∷ cover_at c target.Free ∷ []))) (sym (ap print.is_absent (laid_kind b) ∙ same_absent (kind_of b)))
      (new_by at (cover_at a target.Free) b (cover_at c target.Free) (is_absent (kind_of b)) refl constructor f.1.0 h.below.1.0 (no_type_arguments c h.below.1.1.0))
  new_formed (a ∷ b ∷ c ∷ d ∷ cs) f h = absurd h.below.1.1.1
