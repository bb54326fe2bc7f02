-- What may stand there in the finished tree may stand there as it is read.
use Rattle.std.proofs.Common.{◌≡◌, Bool, true, ◌&&◌, ◌||◌, refl}
use Rattle.ecma_kind.specs.Sorts.{belongs}
use Rattle.ecma_kind.specs.declared.kind.Kind.{Kind}
use Rattle.ecma_kind.specs.declared.kind.Kind.TheVariants as kind
use Rattle.ecma_kind.specs.declared.shapes.Sort.TheVariants as sort
use Rattle.ecma_rules.specs.declared.target.Target.TheVariants as target
use Rattle.ecma_rules.specs.Targets.{may_be as target_may_be}
use Rattle.ecma_covers.specs.Placing.{as_read}
use Rattle.ecma_fits.specs.declared.role.Role.{Role}
use Rattle.ecma_fits.specs.declared.role.Role.TheVariants as role
use Rattle.ecma_fits.specs.Roles.{may_be, takes}
use Rattle.ecma_print_fits.proofs.Parts.{not_true}
use Rattle.ecma_print_fits.proofs.Roles.{target_of}

-- what may stand there in the finished tree may stand there as it is read, with simple targets

left_may : (k : Kind) (simple : Bool) → as_read target.Left k ≡ true → (may_be role.Left k || (takes role.Left k && simple)) ≡ true → (target_may_be target.Left k || simple) ≡ true
unfolding may_be takes
left_may kind.ArrayLit simple h e = not_true h
left_may kind.ObjectLit simple h e = not_true h
left_may (kind.ArrayPat optional) simple h e = not_true h
left_may (kind.ObjectPat optional) simple h e = not_true h
left_may _ simple h e = e

head_may : (k : Kind) (simple : Bool) → as_read target.Head k ≡ true → (may_be role.Head k || (takes role.Head k && simple)) ≡ true → (target_may_be target.Head k || simple) ≡ true
unfolding may_be takes
head_may kind.ArrayLit simple h e = not_true h
head_may kind.ObjectLit simple h e = not_true h
head_may (kind.ArrayPat optional) simple h e = not_true h
head_may (kind.ObjectPat optional) simple h e = not_true h
head_may kind.BindingIdent simple h e = not_true h
head_may (kind.Ident text ctxt optional) simple h e = not_true h
head_may _ simple h e = e

part_may : (k : Kind) (simple : Bool) → as_read target.Part k ≡ true → (may_be role.Assigned k || (takes role.Assigned k && simple)) ≡ true → (target_may_be target.Part k || simple) ≡ true
unfolding may_be takes
part_may kind.ArrayLit simple h e = not_true h
part_may kind.ObjectLit simple h e = not_true h
part_may (kind.ArrayPat optional) simple h e = not_true h
part_may (kind.ObjectPat optional) simple h e = not_true h
part_may kind.BindingIdent simple h e = not_true h
part_may (kind.Ident text ctxt optional) simple h e = not_true h
part_may _ simple h e = e

value_may : (k : Kind) (simple : Bool) → as_read target.Element k ≡ true → (may_be role.AssignedValue k || (takes role.AssignedValue k && simple)) ≡ true → (target_may_be target.Element k || simple) ≡ true
unfolding may_be takes
value_may kind.ArrayLit simple h e = not_true h
value_may kind.ObjectLit simple h e = not_true h
value_may (kind.ArrayPat optional) simple h e = not_true h
value_may (kind.ObjectPat optional) simple h e = not_true h
value_may kind.BindingIdent simple h e = not_true h
value_may (kind.Ident text ctxt optional) simple h e = not_true h
value_may kind.SpreadElement simple h e = not_true h
value_may (kind.AssignExpr op) simple h e = not_true h
value_may kind.AssignPat simple h e = not_true h
value_may kind.Absent simple h e = refl
value_may _ simple h e = e

element_may : (k : Kind) (simple : Bool) → as_read target.Element k ≡ true → (may_be role.AssignedElement k || (takes role.AssignedElement k && simple)) ≡ true → (target_may_be target.Element k || simple) ≡ true
unfolding may_be takes
element_may kind.ArrayLit simple h e = not_true h
element_may kind.ObjectLit simple h e = not_true h
element_may (kind.ArrayPat optional) simple h e = not_true h
element_may (kind.ObjectPat optional) simple h e = not_true h
element_may kind.BindingIdent simple h e = not_true h
element_may (kind.Ident text ctxt optional) simple h e = not_true h
element_may kind.SpreadElement simple h e = not_true h
element_may (kind.AssignExpr op) simple h e = not_true h
element_may kind.AssignPat simple h e = not_true h
element_may kind.RestPat simple h e = not_true h
element_may kind.Absent simple h e = refl
element_may _ simple h e = e

rest_may : (k : Kind) (simple : Bool) → as_read target.Rest k ≡ true → (may_be role.AssignedName k || (takes role.AssignedName k && simple)) ≡ true → (target_may_be target.Rest k || simple) ≡ true
unfolding may_be takes
rest_may kind.BindingIdent simple h e = not_true h
rest_may (kind.Ident text ctxt optional) simple h e = not_true h
rest_may _ simple h e = e

property_may : (k : Kind) (simple : Bool) → as_read target.Property k ≡ true → belongs sort.ObjectPatProp k ≡ true → (target_may_be target.Property k || simple) ≡ true
property_may kind.KeyValuePatProp simple h b = not_true h
property_may kind.AssignPatProp simple h b = not_true h
property_may kind.RestPat simple h b = not_true h
property_may _ simple h b = not_true b

simple_may : (k : Kind) (simple : Bool) → (may_be role.Simple k || (takes role.Simple k && simple)) ≡ true → (target_may_be target.Simple k || simple) ≡ true
unfolding may_be takes
simple_may k simple e = e

pub target_may : (r : Role) (k : Kind) (simple : Bool) → as_read (target_of r) k ≡ true → (r ≡ role.AssignedProperty → belongs sort.ObjectPatProp k ≡ true) → (may_be r k || (takes r k && simple)) ≡ true
    → (target_may_be (target_of r) k || simple) ≡ true
target_may role.Left k simple h p e = left_may k simple h e
target_may role.Simple k simple h p e = simple_may k simple e
target_may role.Head k simple h p e = head_may k simple h e
target_may role.Assigned k simple h p e = part_may k simple h e
target_may role.AssignedValue k simple h p e = value_may k simple h e
target_may role.AssignedElement k simple h p e = element_may k simple h e
target_may role.AssignedName k simple h p e = rest_may k simple h e
target_may role.AssignedProperty k simple h p e = property_may k simple h (p refl)
target_may _ k simple h p e = refl
