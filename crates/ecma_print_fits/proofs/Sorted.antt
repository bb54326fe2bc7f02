-- What the sorts say of a node that is itself there.
use Rattle.std.proofs.Common.{◌≡◌, ◌∙◌, Bool, true, false, not, ◌&&◌, ◌||◌, refl, sym, ap, subst}
use Rattle.ecma_kind.specs.Sorts.{belongs}
use Rattle.ecma_kind.specs.declared.kind.Kind.{Kind}
use Rattle.ecma_kind.specs.declared.kind.Kind.TheVariants as kind
use Rattle.ecma_kind.specs.declared.shapes.Count.{Count}
use Rattle.ecma_kind.specs.declared.shapes.Count.TheVariants.{One, Maybe, Many, MaybeMany, Holes}
use Rattle.ecma_kind.specs.declared.shapes.Shape.{Shape}
use Rattle.ecma_kind.specs.declared.shapes.Sort.{Sort}
use Rattle.ecma_tree.specs.Sorted.{allows, allows_by, is_absent, is_list}
use Rattle.ecma_rules.specs.declared.target.Target.{Target}
use Rattle.ecma_rules.specs.declared.target.Target.TheVariants as target
use Rattle.ecma_rules.specs.declared.standing.Standing.{Standing}
use Rattle.ecma_rules.specs.Lists.{is_item, is_rest, is_rest_pattern}
use Rattle.ecma_rules.specs.Supers.{is_linked}
use Rattle.ecma_rules.specs.Targets.{is_property, is_short_default, is_spread, is_wrapper, target_in}
use Rattle.ecma_covers.specs.Placing.{as_read}
use Rattle.ecma_fits.specs.declared.role.Role.{Role}
use Rattle.ecma_fits.specs.declared.role.Role.TheVariants as role
use Rattle.ecma_fits.specs.Roles.{may_be, takes}
use Rattle.ecma_print_fits.proofs.Parts.{not_true}
use Rattle.ecma_print_fits.proofs.Fine.{and_no, early_by, either_no, lone_by, no_and}

-- `super`, and a default of a property, by their sorts

belongs_there : (c : Count) (s : Sort) (k : Kind) → is_absent k ≡ false → is_list k ≡ false → allows_by c s k ≡ true → belongs s k ≡ true
belongs_there One s k a l h = h
belongs_there Maybe s k a l h = sym (ap (λ b. b || belongs s k) a) ∙ h
belongs_there Many s k a l h = not_true (sym l ∙ h)
belongs_there MaybeMany s k a l h = not_true (sym (either_no (is_absent k) (is_list k) a l) ∙ h)
belongs_there Holes s k a l h = not_true (sym l ∙ h)

pub lone_stays : (k : Kind) (o : Shape) (s : Standing) → allows o k ≡ true → (belongs o.sort kind.Super ≡ true → is_linked s ≡ true) → lone_by s k ≡ false
lone_stays kind.Super o s h linked = ap not (linked (belongs_there o.count o.sort kind.Super refl refl h))
lone_stays _ o s h linked = refl

pub default_stays : (k : Kind) (t : Target) (r : Role) (o : Shape) (simple : Bool) → allows o k ≡ true → (belongs o.sort kind.AssignProp ≡ true → r ≡ role.Free) → (may_be r k || (takes r k && simple)) ≡ true → (is_short_default k && not (is_property t)) ≡ false
unfolding may_be takes
default_stays kind.AssignProp t r o simple h short e =
    not_true (subst (λ r. (may_be r kind.AssignProp || (takes r kind.AssignProp && simple)) ≡ true) (short (belongs_there o.count o.sort kind.AssignProp refl refl h)) e)
default_stays _ t r o simple h short e = refl

pub wrapper_asked : (t : Target) (k : Kind) → is_wrapper k ≡ true → target_in t k 0 ≡ target.Free
unfolding target_in
wrapper_asked t kind.ParenExpr h = refl
wrapper_asked t kind.TsTypeAssertion h = refl
wrapper_asked t kind.TsConstAssertion h = refl
wrapper_asked t kind.TsNonNullExpr h = refl
wrapper_asked t kind.TsAsExpr h = refl
wrapper_asked t kind.TsInstantiation h = refl
wrapper_asked t kind.TsSatisfiesExpr h = refl
wrapper_asked t _ h = not_true h

-- a spread is no item that is itself there

no_item : (t : Target) → as_read t kind.SpreadElement ≡ true → is_item t ≡ false
no_item target.Element h = not_true h
no_item target.Property h = not_true h
no_item _ h = refl

spread_is_free : (t : Target) (k : Kind) → as_read t k ≡ true → (is_item t && is_spread k) ≡ false
spread_is_free t kind.SpreadElement h = no_and (is_item t) true (no_item t h)
spread_is_free t k h = and_no (is_item t) (is_spread k) refl

pub early_stays : (t u : Target) (k : Kind) (l m : Bool) → as_read t k ≡ true → (l ≡ true → m ≡ true) → early_by u l k ≡ false → early_by t m k ≡ false
early_stays t u k l m h f e = go (is_rest_pattern k) refl
  where
    unnot : (b : Bool) → not b ≡ false → b ≡ true
    unnot true e = refl
    unnot false e = not_true (sym e)

    go : (b : Bool) → is_rest_pattern k ≡ b → early_by t m k ≡ false
    go true r =
        let last : l ≡ true = unnot l (sym (ap (λ b. (b || (is_item u && is_spread k)) && not l) r) ∙ e) in
        and_no (is_rest t k) (not m) (ap not (f last))
    go false r = no_and (is_rest t k) (not m) (either_no (is_rest_pattern k) (is_item t && is_spread k) r (spread_is_free t k h))
