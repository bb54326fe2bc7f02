-- How the shape of a node is made of those of its children: what is missing, and what is assigned to.
use Rattle.std.proofs.Common.{◌≡◌, ◌∙◌, refl, sym, ap, subst, ℕ, Bool, true, false, not, ◌&&◌, ◌||◌, List, [], ◌∷◌, map, slice_get}
use Rattle.ecma_kind.specs.declared.span.Span.{Span}
use Rattle.ecma_kind.specs.declared.kind.Kind.{Kind}
use Rattle.ecma_kind.specs.declared.kind.Kind.TheVariants as kind
use Rattle.ecma_kind.specs.declared.shapes.Shape.{Shape}
use Rattle.ecma_tree.specs.declared.node.Node.{Node, fold-roll-Node, out-Node}
use Rattle.ecma_tree.specs.declared.node.Node.TheViews.{roll-out-Node}
use Rattle.ecma_tree.specs.Nodes.{node_of}
use Rattle.ecma_tree.specs.Sorted.{is_absent}
use Rattle.ecma_rules.specs.declared.target.Target.{Target}
use Rattle.ecma_rules.specs.declared.target.Target.TheVariants as target
use Rattle.ecma_rules.specs.Children.{kind_of, of_kind, is_present, has_child}
use Rattle.ecma_rules.specs.Targets.{first_is, is_plain_target, is_simple_target, is_wrapper, simple_step}
use Rattle.ecma_covers.specs.Covering.{cover_at}
use Rattle.ecma_fits.specs.declared.role.Role.{Role}
use Rattle.ecma_fits.specs.Roles.{is_wrong_name, may_be, role_in, takes}
use Rattle.ecma_print.specs.declared.place.Spot.{Spot}
use Rattle.ecma_print.specs.Laid.{Laid}
use Rattle.ecma_print.specs.Places.{free}
use Rattle.ecma_print.specs.Layout.{laid}
use Rattle.ecma_shapes.specs.Shapes.{IsAbsent, IsExpression, absent}
use Rattle.ecma_plain.specs.Forms.{is_of_forms}
use Rattle.ecma_print_shapes.proofs.Claims.{Expressed, is_simple, is_value, seen}
use Rattle.ecma_print_shapes.proofs.Covered.{covered, covered_children, is_of_pattern}
use Rattle.ecma_print_shapes.proofs.Ranks.{IsWithin, own_level}
use Rattle.ecma_print_shapes.proofs.Seats.{either_parts}
use Rattle.ecma_print_shapes.proofs.Sound.{AllSound, Here, Sound, children_made, kind_made}

-- a node in its spot, by the shape of its parts
pub built : {r : Role} {spot : Spot} {shape : Shape} (t : Target) (at : Span) (k : Kind) (cs : List Node) → Here r spot shape at k cs → is_of_pattern k ≡ false
    → IsExpression (own_level k (map laid cs) spot.in_callee_of_new) (node_of at k (covered_children t k cs)) → Expressed t spot (node_of at k cs)
built {spot = spot} t at k cs h keeps x =
    record { kind = k; children = map laid cs; kind_is = kind_made at k cs; open_there = h.open_there; shape = subst (IsExpression (own_level k (map laid cs) spot.in_callee_of_new)) (sym (covered at k cs t keeps)) x }

-- what is missing

pub childless : (roles : ℕ → Role) (spots : List Spot) (further : Spot) (cs : List Node) → AllSound roles spots further [] cs → cs ≡ []
childless roles spots further [] h = refl
childless roles [] further (c ∷ cs) h = absurd h
childless roles (spot ∷ spots) further (c ∷ cs) h = absurd h

absent_parts : {r : Role} {spot : Spot} {shape : Shape} (t : Target) (at : Span) (k : Kind) (cs : List Node) → is_absent k ≡ true → Here r spot shape at k cs → IsAbsent (cover_at (node_of at k cs) t)
absent_parts {r} t at kind.Absent cs e h = subst IsAbsent (sym (ap (λ z. cover_at (node_of at kind.Absent z) t) (childless (role_in r kind.Absent) [] (free 0) cs h.below) ∙ covered at kind.Absent [] t refl)) (absent at)
absent_parts t at _ cs e h = cc

pub absent_shape : {r : Role} {spot : Spot} {shape : Shape} (t : Target) (n : Node) → Sound r spot shape n → is_absent (kind_of n) ≡ true → IsAbsent (cover_at n t)
absent_shape t n s e = subst (λ m. IsAbsent (cover_at m t)) (roll-out-Node n) (absent_parts t (out-Node n).span (out-Node n).kind (out-Node n).children e (seen n s))

-- whether the first child is there
pub first_there : (at : Span) (k : Kind) (c : Node) (cs : List Node) → has_child (node_of at k (c ∷ cs)) 0 ≡ is_present (kind_of c)
first_there at k c cs = ap (λ z. of_kind is_present (slice_get z 0)) (children_made at k (c ∷ cs))

-- what is assigned to, and no pattern

simple_made : (at : Span) (k : Kind) (cs : List Node) → is_simple_target (node_of at k cs) ≡ (is_plain_target k || (is_wrapper k && first_is (map is_simple_target cs)))
simple_made at k cs = fold-roll-Node Bool simple_step (record { span = at; kind = k; children = cs })

simple_kinds : (k : Kind) (b : Bool) → is_of_forms k ≡ true → (is_plain_target k || (is_wrapper k && b)) ≡ true → is_simple k ≡ true
simple_kinds (kind.Ident sym ctxt optional) b f h = refl
simple_kinds kind.MemberExpr b f h = refl
simple_kinds kind.SuperPropExpr b f h = refl
simple_kinds kind.ParenExpr b f h = refl
simple_kinds kind.TsTypeAssertion b f h = absurd (cc)
simple_kinds kind.TsConstAssertion b f h = absurd (cc)
simple_kinds kind.TsNonNullExpr b f h = absurd (cc)
simple_kinds kind.TsAsExpr b f h = absurd (cc)
simple_kinds kind.TsInstantiation b f h = absurd (cc)
simple_kinds kind.TsSatisfiesExpr b f h = absurd (cc)
simple_kinds k b f h = absurd (cc)

not_false : (b : Bool) → not b ≡ false → b ≡ true
not_false true h = refl
not_false false h = cc

-- a node has a kind that its role has, or is a simple target where one may stand
pub stands_as : {spot : Spot} {shape : Shape} (r : Role) (at : Span) (k : Kind) (cs : List Node) → Here r spot shape at k cs
    → (is_wrong_name r k ≡ false) × ((may_be r k || (takes r k && is_simple_target (node_of at k cs))) ≡ true)
stands_as r at k cs h =
    let e = kind_made at k cs in
    let p = either_parts (is_wrong_name r (kind_of (node_of at k cs))) _ h.in_role in
    (subst (λ z. is_wrong_name r z ≡ false) e p.0, subst (λ z. (may_be r z || (takes r z && is_simple_target (node_of at k cs))) ≡ true) e (not_false _ p.1))

pub simple_target : (at : Span) (k : Kind) (cs : List Node) → is_of_forms k ≡ true → is_simple_target (node_of at k cs) ≡ true → is_simple k ≡ true
simple_target at k cs f h = simple_kinds k (first_is (map is_simple_target cs)) f (sym (simple_made at k cs) ∙ h)

-- and binds tightly
pub simple_tight : (k : Kind) (children : List Laid) (c : Bool) → is_simple k ≡ true → IsWithin 2 (own_level k children c)
simple_tight kind.MemberExpr children true h = refl
simple_tight kind.MemberExpr children false h = refl
simple_tight (kind.Ident sym ctxt optional) children c h = refl
simple_tight kind.SuperPropExpr children c h = refl
simple_tight kind.ParenExpr children c h = refl
simple_tight k children c h = absurd (cc)

-- what is asked of other expressions is nothing
pub only_free : (t : Target) (k : Kind) → is_simple k ≡ false → is_value t k ≡ true → t ≡ target.Free
only_free target.Free k s h = refl
only_free _ k s h = cc
