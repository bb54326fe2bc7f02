-- What is assigned to in a pattern has the shape of a target.
use Rattle.std.proofs.Common.{◌≡◌, ◌∙◌, refl, sym, subst, Bool, true, false, ◌||◌}
use Rattle.std.proofs.lemmas.Bool.{and_parts, false≢true}
use Rattle.ecma_kind.specs.Sorts.{belongs}
use Rattle.ecma_kind.specs.declared.kind.Kind.{Kind}
use Rattle.ecma_kind.specs.declared.kind.Kind.TheVariants as kind
use Rattle.ecma_kind.specs.declared.shapes.Shape.{Shape}
use Rattle.ecma_kind.specs.declared.shapes.Sort.TheVariants as sort
use Rattle.ecma_tree.specs.declared.node.Node.{Node, out-Node}
use Rattle.ecma_tree.specs.Sorted.{allows, is_absent, one}
use Rattle.ecma_rules.specs.declared.target.Target.{Target}
use Rattle.ecma_rules.specs.Children.{kind_of}
use Rattle.ecma_covers.specs.Covering.{cover_at}
use Rattle.ecma_fits.specs.declared.role.Role.{Role}
use Rattle.ecma_fits.specs.declared.role.Role.TheVariants as role
use Rattle.ecma_fits.specs.Roles.{is_binding, is_bound_name, is_default, is_pattern, is_rest, is_variables, may_be, takes}
use Rattle.ecma_print.specs.declared.place.Spot.{Spot}
use Rattle.ecma_print.specs.Places.{free}
use Rattle.ecma_shapes.specs.Shapes.{IsExpression, callee, name, new_callee}
use Rattle.ecma_print_shapes.proofs.Assignments.{simple_shape}
use Rattle.ecma_print_shapes.proofs.Bindings.{or_there}
use Rattle.ecma_print_shapes.proofs.Building.{simple_target, stands_as}
use Rattle.ecma_print_shapes.proofs.Claims.{BoundName, FormedExpression, IsCovered, IsTargeted, as_element, as_part, as_value, covered_there, covers_name, in_head, is_simple, is_value, on_left, reads_values, rest_there, seen}
use Rattle.ecma_print_shapes.proofs.Ranks.{to_callee}
use Rattle.ecma_print_shapes.proofs.Sound.{Sound}
use Rattle.ecma_print_shapes.proofs.Spots.{proper_free}

not_both : {A : Type 0} (b : Bool) → b ≡ false → b ≡ true → A
not_both b h g = absurd (false≢true (sym h ∙ g))

-- where it may not stand by its kind it is a simple target
pub simple_unless : (r : Role) {spot : Spot} {shape : Shape} (n : Node) → Sound r spot shape n → may_be r (kind_of n) ≡ false → is_simple (kind_of n) ≡ true
simple_unless r n s e =
    let x = out-Node n in
    let h = seen n s in
    let stands = or_there (may_be r x.kind) _ (stands_as r x.span x.kind x.children h).1 e in
    simple_target x.span x.kind x.children h.bare.1 (and_parts (takes r x.kind) _ stands).1

-- what may stand there is no default and no rest
no_default_by : (k : Kind) (m : Kind → Bool) → m kind.AssignPat ≡ false → (m k ≡ false → is_simple k ≡ true) → is_default k ≡ false
no_default_by kind.AssignPat m e h = absurd (false≢true (h e))
no_default_by k m e h = refl

no_rest_by : (k : Kind) (m : Kind → Bool) → m kind.RestPat ≡ false → (m k ≡ false → is_simple k ≡ true) → is_rest k ≡ false
no_rest_by kind.RestPat m e h = absurd (false≢true (h e))
no_rest_by k m e h = refl

pub no_default_there : (r : Role) {spot : Spot} {shape : Shape} (n : Node) → Sound r spot shape n → may_be r kind.AssignPat ≡ false → is_default (kind_of n) ≡ false
no_default_there r n s e = no_default_by (kind_of n) (may_be r) e (simple_unless r n s)

pub no_rest_there : (r : Role) {spot : Spot} {shape : Shape} (n : Node) → Sound r spot shape n → may_be r kind.RestPat ≡ false → is_rest (kind_of n) ≡ false
no_rest_there r n s e = no_rest_by (kind_of n) (may_be r) e (simple_unless r n s)

-- what is no name and no pattern is a simple target

present : (k : Kind) → belongs sort.Pat k ≡ true → is_absent k ≡ false
present kind.Absent h = absurd (false≢true h)
present k h = refl

no_variables : (k : Kind) → belongs sort.Pat k ≡ true → is_variables k ≡ false
no_variables (kind.VarDecl v d) h = absurd (false≢true h)
no_variables k h = refl

no_name : (k : Kind) → is_binding k ≡ false → is_bound_name k ≡ false
no_name kind.BindingIdent h = h
no_name k h = refl

pub no_bound_pattern : (k : Kind) → is_pattern k ≡ true → is_bound_name k ≡ false
no_bound_pattern kind.BindingIdent h = absurd (false≢true h)
no_bound_pattern k h = refl

neither_of : (a b : Bool) → a ≡ false → b ≡ false → (a || b) ≡ false
neither_of a b h g = rw (h, g) refl

may_not : {r : Role} {t : Target} → IsTargeted r t → (k : Kind) → belongs sort.Pat k ≡ true → is_binding k ≡ false → is_default k ≡ false → is_rest k ≡ false → may_be r k ≡ false
unfolding may_be
may_not (covered_there on_left c) k b e d m = absurd (false≢true c)
may_not (covered_there in_head c) k b e d m = neither_of (is_binding k) (is_variables k) e (no_variables k b)
may_not (covered_there as_part c) k b e d m = e
may_not (covered_there as_value c) k b e d m = neither_of (is_binding k) (is_default k) e d
may_not (covered_there as_element c) k b e d m =
    neither_of (is_binding k) _ e (neither_of (is_default k) _ d (neither_of (is_rest k) (is_absent k) m (present k b)))
may_not rest_there k b e d m = no_name k e

-- targets

reads_there : {r : Role} {t : Target} → IsTargeted r t → reads_values r ≡ true
reads_there (covered_there on_left c) = refl
reads_there (covered_there in_head c) = refl
reads_there (covered_there as_part c) = refl
reads_there (covered_there as_value c) = refl
reads_there (covered_there as_element c) = refl
reads_there rest_there = refl

names_there : {r : Role} {t : Target} → IsTargeted r t → covers_name t ≡ true
names_there (covered_there covers c) = c
names_there rest_there = refl

values_there : {r : Role} {t : Target} → IsTargeted r t → (k : Kind) → is_simple k ≡ true → is_value t k ≡ true
values_there (covered_there on_left c) k h = h
values_there (covered_there in_head c) k h = h
values_there (covered_there as_part c) k h = h
values_there (covered_there as_value c) k h = h
values_there (covered_there as_element c) k h = h
values_there rest_there k h = h

data TargetKind (k : Kind) : Type 0 where
  name_target : is_bound_name k ≡ true → TargetKind k
  pattern_target : is_pattern k ≡ true → TargetKind k
  other_target : is_binding k ≡ false → TargetKind k

target_kind : (k : Kind) → TargetKind k
target_kind kind.BindingIdent = name_target refl
target_kind (kind.ArrayPat optional) = pattern_target refl
target_kind (kind.ObjectPat optional) = pattern_target refl
target_kind k = other_target refl

abbrev pub FormedName : Node → Type 0
FormedName n = (r : Role) (spot : Spot) (shape : Shape) → Sound r spot shape n → is_bound_name (kind_of n) ≡ true → BoundName n

abbrev pub FormedLiteral : Node → Type 0
FormedLiteral n = (r : Role) (t : Target) (spot : Spot) (shape : Shape) → IsCovered r t → Sound r spot shape n → is_pattern (kind_of n) ≡ true → IsExpression new_callee (cover_at n t)

pattern_kind : (k : Kind) → is_pattern k ≡ true → is_simple k ≡ false
pattern_kind (kind.ArrayPat optional) h = refl
pattern_kind (kind.ObjectPat optional) h = refl
pattern_kind k h = absurd (false≢true h)

no_pattern_takes_rest : {A : Type 0} {spot : Spot} {shape : Shape} (n : Node) → Sound role.AssignedName spot shape n → is_pattern (kind_of n) ≡ true → A
unfolding may_be
no_pattern_takes_rest n s is = not_both (is_simple (kind_of n)) (pattern_kind (kind_of n) is) (simple_unless role.AssignedName n s (no_bound_pattern (kind_of n) is))

module _ (n : Node) (expression : FormedExpression n) (literal : FormedLiteral n) (bound_name : FormedName n) where
  pattern_by : {r : Role} {t : Target} {spot : Spot} {shape : Shape} → IsTargeted r t → Sound r spot shape n → is_pattern (kind_of n) ≡ true → IsExpression new_callee (cover_at n t)
  pattern_by {r} {t} {spot} {shape} (covered_there covers c) s is = literal r t spot shape covers s is
  pattern_by rest_there s is = no_pattern_takes_rest n s is

  target_by : (r : Role) (t : Target) (shape : Shape) → IsTargeted r t → Sound r (free 1) shape n → belongs sort.Pat (kind_of n) ≡ true → is_default (kind_of n) ≡ false → is_rest (kind_of n) ≡ false → TargetKind (kind_of n) → IsExpression callee (cover_at n t)
  target_by r t shape c s a d m (name_target is) =
      let b = bound_name r (free 1) shape s is in
      subst (IsExpression callee) (sym (b.assigned t (names_there c))) (to_callee new_callee refl (name b.ident))
  target_by r t shape c s a d m (pattern_target is) = to_callee new_callee refl (pattern_by c s is)
  target_by r t shape c s a d m (other_target e) =
      let is = simple_unless r n s (may_not c (kind_of n) a e d m) in
      simple_shape n (expression r t (free 1) shape s (proper_free 1) (reads_there c) (values_there c (kind_of n) is)) is

  pub assigned_target_formed : (r : Role) (t : Target) (shape : Shape) → IsTargeted r t → Sound r (free 1) shape n → allows (one sort.Pat) (kind_of n) ≡ true → is_default (kind_of n) ≡ false → is_rest (kind_of n) ≡ false → IsExpression callee (cover_at n t)
  assigned_target_formed r t shape c s a d m = target_by r t shape c s a d m (target_kind (kind_of n))
