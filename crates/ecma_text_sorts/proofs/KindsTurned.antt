-- A kind of a raw shape turns into one of the shape that it turns to.
use Rattle.std.proofs.Common.{◌≡◌, Bool, true, false, not, ◌&&◌, ◌||◌, cond, refl, sym, subst}
use Rattle.ecma_kind.specs.Sorts.{belongs}
use Rattle.ecma_kind.specs.declared.operators.AssignOp.{AssignOp}
use Rattle.ecma_kind.specs.declared.kind.Kind.{Kind}
use Rattle.ecma_kind.specs.declared.kind.Kind.TheVariants as kind
use Rattle.ecma_kind.specs.declared.shapes.Count.{Count}
use Rattle.ecma_kind.specs.declared.shapes.Count.TheVariants.{One, Maybe, Many, MaybeMany, Holes}
use Rattle.ecma_kind.specs.declared.shapes.Shape.{Shape}
use Rattle.ecma_kind.specs.declared.shapes.Sort.{Sort}
use Rattle.ecma_kind.specs.declared.shapes.Sort.TheVariants as sort
use Rattle.ecma_tree.specs.Sorted.{allows, allows_by, is_absent, is_list}
use Rattle.ecma_rules.specs.declared.target.Target.{Target}
use Rattle.ecma_rules.specs.declared.target.Target.TheVariants as target
use Rattle.ecma_rules.specs.declared.standing.Around.{Around}
use Rattle.ecma_rules.specs.declared.standing.Standing.{Standing}
use Rattle.ecma_rules.specs.declared.standing.Standing.TheVariants as standing
use Rattle.ecma_rules.specs.Targets.{is_plain, is_plain_target, is_wrapper, may_be}
use Rattle.ecma_rules.specs.Members.{is_declaring, is_property_kind}
use Rattle.ecma_rules.specs.Supers.{is_linked, is_super}
use Rattle.ecma_grammar_laws.specs.RawSorts as raw
use Rattle.ecma_grammar_laws.specs.RawSorts.{RawSort, RawShape, sorted, parameter, allows_raw, belongs_or_super, belongs_raw}
use Rattle.ecma_grammar_laws.proofs.RawShapes.{both}
use Rattle.ecma_grammar_laws.proofs.Asks.{same_count, same_sort}
use Rattle.ecma_grammar_laws.proofs.Fits.{no, either_true, or_right, sorts_same, counts_same}
use Rattle.ecma_text_sorts.proofs.Turning.{count_may, is_plain_standing, keeps, may_stand, stays_sort, turned, turns, turns_to}

-- the two halves of what the rules say of a kind
abbrev is_target : Target → Kind → Bool
is_target t k = may_be t k || (is_plain_target k || is_wrapper k)

abbrev stands : Standing → Kind → Bool
stands s k = (not (is_super k) || is_linked s) && (not (is_property_kind k) || is_declaring s)

free_same : (k : Kind) → turned target.Free k ≡ k
free_same kind.ArrayLit = refl
free_same _ = refl

super_belongs : (x : Sort) (k : Kind) → is_super k ≡ true → belongs x kind.Super ≡ true → belongs x k ≡ true
super_belongs x kind.Super h b = b
super_belongs x _ h b = no h

of_no : (b c : Bool) → (not b || c) ≡ true → b ≡ true → c ≡ true
of_no true c h e = h
of_no false c h e = no e

-- the same sort, where `super` stands only before a member or arguments
stays_belongs : (s : Standing) (x : Sort) (k : Kind) → may_stand s x ≡ true → belongs_or_super x k ≡ true → stands s k ≡ true → belongs x k ≡ true
stays_belongs s x k m b u =
    either_true (belongs x k) (is_super k && belongs x kind.ThisExpr) (λ e. e)
    (λ e. (let w = both (is_super k) (belongs x kind.ThisExpr) e in
    let v = both (not (is_super k) || is_linked s) (not (is_property_kind k) || is_declaring s) u in
    let linked = of_no (is_super k) (is_linked s) v.0 w.0 in
    let known = of_no (belongs x kind.ThisExpr) (belongs x kind.Super || not (is_linked s)) m w.1 in
    super_belongs x k w.0 (either_true (belongs x kind.Super) (not (is_linked s)) (λ f. f) (λ f. unlinked (is_linked s) linked f) known))) b
  where
    unlinked : (b : Bool) → b ≡ true → not b ≡ true → belongs x kind.Super ≡ true
    unlinked true e f = no f
    unlinked false e f = no e

-- the sorts that turn, where nothing but a plain standing is

a_parameter : (k : Kind) → belongs_raw parameter k ≡ true → stands standing.Plain k ≡ true → belongs sort.Pat k ≡ true
a_parameter kind.Super h u = no u
a_parameter (kind.TsParamProp accessibility is_override readonly) h u = no u
a_parameter _ h u = h

plain_parameter : (k : Kind) → belongs_or_super sort.ParamOrTsParamProp k ≡ true → stands standing.Plain k ≡ true → belongs sort.Param k ≡ true
plain_parameter kind.Super h u = no u
plain_parameter (kind.TsParamProp accessibility is_override readonly) h u = no u
plain_parameter _ h u = h

on_left : (k : Kind) → belongs_or_super sort.Expr k ≡ true → is_target target.Left k ≡ true → belongs sort.AssignTarget (turned target.Left k) ≡ true
on_left kind.ArrayLit h u = refl
on_left kind.ObjectLit h u = refl
on_left (kind.ArrayPat optional) h u = no h
on_left (kind.ObjectPat optional) h u = no h
on_left _ h u = u

simple_target : (k : Kind) → belongs_or_super sort.Expr k ≡ true → is_target target.Simple k ≡ true → belongs sort.AssignTarget (turned target.Simple k) ≡ true
simple_target (kind.ArrayPat optional) h u = no h
simple_target (kind.ObjectPat optional) h u = no h
simple_target _ h u = u

simple_expression : (k : Kind) → belongs_or_super sort.Expr k ≡ true → stands standing.Plain k ≡ true → belongs sort.Expr (turned target.Simple k) ≡ true
simple_expression kind.Super h u = no u
simple_expression _ h u = h

head : (k : Kind) → belongs_or_super sort.ForHead k ≡ true → stands standing.Plain k ≡ true → belongs sort.ForHead (turned target.Head k) ≡ true
head kind.Super h u = no u
head _ h u = h

a_part : (k : Kind) → belongs_or_super sort.Expr k ≡ true → stands standing.Plain k ≡ true → belongs sort.Pat (turned target.Part k) ≡ true
a_part kind.Super h u = no u
a_part kind.BindingIdent h u = refl
a_part (kind.ArrayPat optional) h u = refl
a_part (kind.ObjectPat optional) h u = refl
a_part kind.RestPat h u = refl
a_part kind.AssignPat h u = refl
a_part _ h u = h

a_rest : (k : Kind) → belongs_or_super sort.Expr k ≡ true → stands standing.Plain k ≡ true → belongs sort.Pat (turned target.Rest k) ≡ true
a_rest kind.Super h u = no u
a_rest kind.BindingIdent h u = refl
a_rest (kind.ArrayPat optional) h u = refl
a_rest (kind.ObjectPat optional) h u = refl
a_rest kind.RestPat h u = refl
a_rest kind.AssignPat h u = refl
a_rest _ h u = h

a_default : (b : Bool) (op : AssignOp) → belongs sort.Pat (cond b kind.AssignPat (kind.AssignExpr op)) ≡ true
a_default true op = refl
a_default false op = refl

an_element : (k : Kind) → belongs_or_super sort.ExprOrSpread k ≡ true → stands standing.Plain k ≡ true → belongs sort.Pat (turned target.Element k) ≡ true
an_element kind.Super h u = no u
an_element kind.BindingIdent h u = refl
an_element (kind.ArrayPat optional) h u = refl
an_element (kind.ObjectPat optional) h u = refl
an_element kind.RestPat h u = refl
an_element kind.AssignPat h u = refl
an_element (kind.AssignExpr op) h u = a_default (is_plain op) op
an_element _ h u = h

an_item : (k : Kind) → belongs_or_super sort.Expr k ≡ true → belongs_or_super sort.ExprOrSpread k ≡ true
an_item kind.SpreadElement h = refl
an_item _ h = h

a_name : (k : Kind) → belongs_or_super sort.Ident k ≡ true → belongs sort.BindingIdent (turned target.Name k) ≡ true
a_name kind.BindingIdent h = refl
a_name _ h = h

a_property : (k : Kind) → belongs_or_super sort.PropOrSpread k ≡ true → is_target target.Property k ≡ true → belongs sort.ObjectPatProp (turned target.Property k) ≡ true
a_property kind.GetterProp h u = u
a_property kind.SetterProp h u = u
a_property kind.MethodProp h u = u
a_property kind.KeyValuePatProp h u = refl
a_property kind.AssignPatProp h u = refl
a_property kind.RestPat h u = refl
a_property _ h u = h

-- a node alone turns to nothing that is a list
abbrev pub is_alone : Target → Bool
is_alone t = count_may t One || count_may t Maybe

turning_belongs : (t : Target) (x : RawSort) (y : Sort) (k : Kind) → is_alone t ≡ true → turns_to t x y ≡ true → belongs_raw x k ≡ true → is_target t k ≡ true → stands standing.Plain k ≡ true → belongs y (turned t k) ≡ true
turning_belongs target.Free parameter sort.Pat k a h b u v = subst (λ z. belongs sort.Pat z ≡ true) (sym (free_same k)) (a_parameter k b v)
turning_belongs target.Free (sorted sort.ParamOrTsParamProp) sort.Param k a h b u v = subst (λ z. belongs sort.Param z ≡ true) (sym (free_same k)) (plain_parameter k b v)
turning_belongs target.Left (sorted sort.Expr) sort.AssignTarget k a h b u v = on_left k b u
turning_belongs target.Simple (sorted sort.Expr) sort.AssignTarget k a h b u v = simple_target k b u
turning_belongs target.Simple (sorted sort.Expr) sort.Expr k a h b u v = simple_expression k b v
turning_belongs target.Head (sorted sort.ForHead) sort.ForHead k a h b u v = head k b v
turning_belongs target.Part (sorted sort.Expr) sort.Pat k a h b u v = a_part k b v
turning_belongs target.Rest (sorted sort.Expr) sort.Pat k a h b u v = a_rest k b v
turning_belongs target.Name (sorted sort.Ident) sort.BindingIdent k a h b u v = a_name k b
turning_belongs target.Element (sorted sort.Expr) sort.Pat k a h b u v = an_element k (an_item k b) v
turning_belongs target.Element (sorted sort.ExprOrSpread) sort.Pat k a h b u v = an_element k b v
turning_belongs target.Property (sorted sort.PropOrSpread) sort.ObjectPatProp k a h b u v = a_property k b u
turning_belongs target.Elements x y k a h b u v = no a
turning_belongs target.Properties x y k a h b u v = no a
turning_belongs _ _ _ k a h b u v = no h

plain_is : (s : Standing) → is_plain_standing s ≡ true → s ≡ standing.Plain
plain_is standing.Plain h = refl
plain_is _ h = no h

stays_after : (t : Target) (s : Standing) (x : RawSort) (y : Sort) (k : Kind) → stays_sort t s x y ≡ true → belongs_raw x k ≡ true → stands s k ≡ true → belongs y (turned t k) ≡ true
stays_after target.Free s (sorted x) y k h b u =
    let w = both (same_sort x y) (may_stand s x) h in
    subst (λ z. belongs y z ≡ true) (sym (free_same k)) (subst (λ z. belongs z k ≡ true) (sorts_same x y w.0) (stays_belongs s x k w.1 b u))
stays_after _ s _ y k h b u = no h

belongs_after : (t : Target) (s : Standing) (x : RawSort) (y : Sort) (k : Kind) → is_alone t ≡ true → (stays_sort t s x y || (turns_to t x y && is_plain_standing s)) ≡ true → belongs_raw x k ≡ true → keeps t s k ≡ true → belongs y (turned t k) ≡ true
belongs_after t s x y k a h b u =
    let v = both (is_target t k) (stands s k) u in
    either_true (stays_sort t s x y) (turns_to t x y && is_plain_standing s) (λ e. stays_after t s x y k e b v.1)
    (λ e. (let w = both (turns_to t x y) (is_plain_standing s) e in turning_belongs t x y k a w.0 b v.0 (subst (λ z. stands z k ≡ true) (plain_is s w.1) v.1))) h

list_after : (t : Target) (k : Kind) → is_list k ≡ true → is_list (turned t k) ≡ true
list_after t kind.List h = refl
list_after t _ h = no h

list_or_absent_after : (t : Target) (k : Kind) → (is_absent k || is_list k) ≡ true → (is_absent (turned t k) || is_list (turned t k)) ≡ true
list_or_absent_after t kind.List h = refl
list_or_absent_after t kind.Absent h = refl
list_or_absent_after t _ h = no h

absent_after : (t : Target) (y : Sort) (k : Kind) → is_absent k ≡ true → (is_absent (turned t k) || belongs y (turned t k)) ≡ true
absent_after t y kind.Absent h = refl
absent_after t y _ h = no h

alone_one : (t : Target) → count_may t One ≡ true → is_alone t ≡ true
alone_one t h = rw h refl

allowed_by : (c : Count) (t : Target) (s : Standing) (x : RawSort) (y : Sort) (k : Kind) → count_may t c ≡ true → (stays_sort t s x y || (turns_to t x y && is_plain_standing s)) ≡ true → raw.allows_by c x k ≡ true → keeps t s k ≡ true → allows_by c y (turned t k) ≡ true
allowed_by One t s x y k a h b u = belongs_after t s x y k (alone_one t a) h b u
allowed_by Maybe t s x y k a h b u =
    either_true (is_absent k) (belongs_raw x k) (absent_after t y k)
    (λ e. or_right (is_absent (turned t k)) (belongs y (turned t k)) (belongs_after t s x y k (or_right (count_may t One) (count_may t Maybe) a) h e u)) b
allowed_by Many t s x y k a h b u = list_after t k b
allowed_by MaybeMany t s x y k a h b u = list_or_absent_after t k b
allowed_by Holes t s x y k a h b u = list_after t k b

pub allowed : (around : Around) (r : RawShape) (o : Shape) (k : Kind) → turns around r o ≡ true → allows_raw r k ≡ true → keeps around.target around.standing k ≡ true → allows o (turned around.target k) ≡ true
allowed around r o k h b u =
    let w = both (same_count r.count o.count && count_may around.target r.count) (stays_sort around.target around.standing r.sort o.sort || (turns_to around.target r.sort o.sort && is_plain_standing around.standing)) h in
    let v = both (same_count r.count o.count) (count_may around.target r.count) w.0 in
    subst (λ c. allows_by c o.sort (turned around.target k) ≡ true) (counts_same r.count o.count v.0)
    (allowed_by r.count around.target around.standing r.sort o.sort k v.1 w.1 b u)
