-- What is known of the children of a node, and of where they stand.
use Rattle.std.proofs.Common.{◌≡◌, ◌∙◌, inl, inr, ℕ, zero, suc, Bool, true, false, not, ◌&&◌, ◌==◌, cond, List, [], ◌∷◌, map, replicate, refl, sym, ap, slice_get}
use Rattle.ecma_kind.specs.Sorts.{belongs}
use Rattle.ecma_kind.specs.declared.kind.Kind.{Kind}
use Rattle.ecma_kind.specs.declared.kind.Kind.TheVariants as kind
use Rattle.ecma_kind.specs.declared.operators.AssignOp.{AssignOp}
use Rattle.ecma_kind.specs.declared.operators.AssignOp.TheVariants.{Assign}
use Rattle.ecma_kind.specs.declared.shapes.Count.TheVariants.{One}
use Rattle.ecma_kind.specs.declared.shapes.Shape.{Shape}
use Rattle.ecma_kind.specs.declared.shapes.Sort.TheVariants as sort
use Rattle.ecma_tree.specs.declared.node.Node.{Node}
use Rattle.ecma_tree.specs.Sorted.{child_shapes, item_shape}
use Rattle.ecma_rules.specs.declared.target.Target.{Target}
use Rattle.ecma_rules.specs.declared.target.Target.TheVariants as target
use Rattle.ecma_rules.specs.declared.standing.Standing.{Standing}
use Rattle.ecma_rules.specs.declared.standing.Standing.TheVariants as standing
use Rattle.ecma_rules.specs.Children.{is_present, of_kind}
use Rattle.ecma_rules.specs.Finishing.{each_in}
use Rattle.ecma_rules.specs.Lists.{is_head, last_by}
use Rattle.ecma_rules.specs.Supers.{is_linked}
use Rattle.ecma_rules.specs.Surroundings.{at_child, if_there, standing_by}
use Rattle.ecma_rules.specs.Targets.{in_list, in_literal, in_short_default, in_spread, in_value, on_left, takes_patterns, target_in}
use Rattle.ecma_covers.specs.Covering.{cover_at}
use Rattle.ecma_covers.specs.Placing.{as_read}
use Rattle.ecma_fits.specs.declared.role.Role.{Role}
use Rattle.ecma_fits.specs.declared.role.Role.TheVariants as role
use Rattle.ecma_fits.specs.declared.unfit.Where.{Where}
use Rattle.ecma_fits.specs.Roles.{is_assigned, role_in}
use Rattle.ecma_print_fits.proofs.Parts.{allowed, not_true}
use Rattle.ecma_print_fits.proofs.Roles.{AllSuit, Way, array, bound, default, is_parted, itself, key_value, object, rest_element, rest_property, short, target_of, way_of}
use Rattle.ecma_print_fits.proofs.Tests.{kind_at}
use Rattle.ecma_print_fits.proofs.Fine.{and_no}
use Rattle.ecma_print_fits.proofs.Itself.{There}

-- a name and a value behind `=` among the properties of an object: what is asked of children with that sort

abbrev pub AllShort : (ℕ → Role) → List Shape → Type 0
AllShort role_of [] = Unit {0}
AllShort role_of (o ∷ os) = (belongs o.sort kind.AssignProp ≡ true → role_of 0 ≡ role.Free) × AllShort (λ i. role_of (suc i)) os

all_free : (role_of : ℕ → Role) → ((i : ℕ) → role_of i ≡ role.Free) → (os : List Shape) → AllShort role_of os
all_free role_of free [] = tt
all_free role_of free (o ∷ os) = (λ h. free 0, all_free (λ i. role_of (suc i)) (λ i. free (suc i)) os)

alike_short : (role_of : ℕ → Role) (o : Shape) → ((i : ℕ) → belongs o.sort kind.AssignProp ≡ true → role_of i ≡ role.Free) → (n : ℕ) → AllShort role_of (replicate n o)
alike_short role_of o h zero = tt
alike_short role_of o h (suc n) = (h 0, alike_short (λ i. role_of (suc i)) o (λ i. h (suc i)) n)

abbrev none_belongs : Kind → List Shape → Bool
none_belongs k [] = true
none_belongs k (o ∷ os) = not (belongs o.sort k) && none_belongs k os

both : (a b : Bool) → (not a && b) ≡ true → (a ≡ false) × (b ≡ true)
both true b h = not_true h
both false b h = (refl, h)

none_short : (role_of : ℕ → Role) (os : List Shape) → none_belongs kind.AssignProp os ≡ true → AllShort role_of os
none_short role_of [] h = tt
none_short role_of (o ∷ os) h =
    let t = both (belongs o.sort kind.AssignProp) (none_belongs kind.AssignProp os) h in
    (λ e. not_true (sym t.0 ∙ e), none_short (λ i. role_of (suc i)) os t.1)

pub short_below : (r : Role) (k : Kind) (o : Shape) (n : ℕ) → (belongs o.sort kind.AssignProp ≡ true → r ≡ role.Free) → AllShort (role_in r k) (child_shapes k o n)
unfolding role_in
short_below r kind.List o n h = alike_short (role_in r kind.List) (item_shape o) (λ i e. ap (λ z. role_in z kind.List i) (h e)) n
short_below r kind.ObjectLit o n h = all_free (role_in r kind.ObjectLit) (λ i. refl) (child_shapes kind.ObjectLit o n)
short_below r kind.SeqExpr o n h = all_free (role_in r kind.SeqExpr) (λ i. refl) (child_shapes kind.SeqExpr o n)
short_below r k o n h = none_short (role_in r k) (child_shapes k o n) refl

-- `super` stands before a member or arguments

abbrev pub AllLinked : (ℕ → Standing) → List Shape → Type 0
AllLinked standing_of [] = Unit {0}
AllLinked standing_of (o ∷ os) = (belongs o.sort kind.Super ≡ true → is_linked (standing_of 0) ≡ true) × AllLinked (λ i. standing_of (suc i)) os

alike_linked : (standing_of : ℕ → Standing) (o : Shape) → ((i : ℕ) → belongs o.sort kind.Super ≡ true → is_linked (standing_of i) ≡ true) → (n : ℕ) → AllLinked standing_of (replicate n o)
alike_linked standing_of o h zero = tt
alike_linked standing_of o h (suc n) = (h 0, alike_linked (λ i. standing_of (suc i)) o (λ i. h (suc i)) n)

none_linked : (standing_of : ℕ → Standing) (os : List Shape) → none_belongs kind.Super os ≡ true → AllLinked standing_of os
none_linked standing_of [] h = tt
none_linked standing_of (o ∷ os) h =
    let t = both (belongs o.sort kind.Super) (none_belongs kind.Super os) h in
    (λ e. not_true (sym t.0 ∙ e), none_linked (λ i. standing_of (suc i)) os t.1)

expressions : (n : ℕ) (o : Shape) → none_belongs kind.Super (child_shapes kind.SeqExpr o n) ≡ true
expressions zero o = refl
expressions (suc n) o = more n
  where
    more : (n : ℕ) → none_belongs kind.Super (replicate n (record { count = One; sort = sort.Expr })) ≡ true
    more zero = refl
    more (suc n) = more n

pub linked_below : (s : Standing) (k : Kind) (first second : Bool) (o : Shape) (n : ℕ) → (belongs o.sort kind.Super ≡ true → is_linked s ≡ true) → AllLinked (standing_by s k first second) (child_shapes k o n)
unfolding standing_by
linked_below s kind.List first second o n h = alike_linked (standing_by s kind.List first second) (item_shape o) (λ i e. h e) n
linked_below s kind.SuperPropExpr first second o n h = (λ e. refl, (λ e. not_true e, tt))
linked_below s kind.CallExpr first second o n h = (λ e. refl, (λ e. not_true e, (λ e. not_true e, tt)))
linked_below s kind.SeqExpr first second o n h = none_linked (standing_by s kind.SeqExpr first second) (child_shapes kind.SeqExpr o n) (expressions n o)
linked_below s k first second o n h = none_linked (standing_by s k first second) (child_shapes k o n) refl

-- what is asked is a head in both trees, or in none

no_head : (t : Target) → is_head (in_list t) ≡ false
no_head target.Elements = refl
no_head target.Properties = refl
no_head _ = refl

no_literal_head : (t items : Target) → is_head items ≡ false → is_head (in_literal t items) ≡ false
no_literal_head t items h = go (takes_patterns t)
  where
    go : (b : Bool) → is_head (cond b items target.Free) ≡ false
    go true = h
    go false = refl

no_spread_head : (t : Target) → is_head (in_spread t) ≡ false
no_spread_head target.Element = refl
no_spread_head target.Property = refl
no_spread_head _ = refl

no_value_head : (t : Target) → is_head (in_value t) ≡ false
no_value_head target.Property = refl
no_value_head _ = refl

no_short_head : (t : Target) → is_head (in_short_default t) ≡ false
no_short_head target.Property = refl
no_short_head _ = refl

no_left_head : (t : Target) (op : AssignOp) → is_head (on_left t op) ≡ false
no_left_head target.Element Assign = refl
no_left_head target.Element op = refl
no_left_head t Assign = refl
no_left_head t op = refl

no_child_head : (b : Bool) (t : Target) → is_head t ≡ false → is_head (cond b t target.Free) ≡ false
no_child_head true t h = h
no_child_head false t h = refl

abbrev is_loop_head : Kind → ℕ → Bool
is_loop_head kind.ForInStmt i = i == 0
is_loop_head (kind.ForOfStmt is_await) i = i == 0
is_loop_head _ i = false

head_alone : (b : Bool) → is_head (cond b target.Head target.Free) ≡ b
head_alone true = refl
head_alone false = refl

head_in : (t : Target) (k : Kind) (i : ℕ) → is_head (target_in t k i) ≡ is_loop_head k i
unfolding target_in
head_in t kind.List i = no_head t
head_in t kind.ArrayLit i = no_literal_head t target.Elements refl
head_in t kind.ObjectLit i = no_literal_head t target.Properties refl
head_in t kind.SpreadElement i = no_spread_head t
head_in t kind.KeyValueProp i = no_child_head (i == 1) (in_value t) (no_value_head t)
head_in t kind.AssignProp i = no_child_head (i == 0) (in_short_default t) (no_short_head t)
head_in t (kind.AssignExpr op) i = no_child_head (i == 0) (on_left t op) (no_left_head t op)
head_in t kind.ForInStmt i = head_alone (i == 0)
head_in t (kind.ForOfStmt is_await) i = head_alone (i == 0)
head_in t _ i = refl

pub head_alike : (t u : Target) (k : Kind) (i : ℕ) → is_head (target_in t k i) ≡ is_head (target_in u k i)
head_alike t u k i = head_in t k i ∙ sym (head_in u k i)

-- what stands last in the finished tree stands last as it is read
pub last_grows : (k : Kind) (l m : Bool) (n i : ℕ) → (l ≡ true → m ≡ true) → last_by l k n i ≡ true → last_by m k n i ≡ true
unfolding last_by
last_grows kind.List l m n i h e = e
last_grows kind.Param l m n i h e = h e
last_grows (kind.TsParamProp accessibility is_override readonly) l m n i h e = h e
last_grows kind.AssignPat l m n i h e = h e
last_grows _ l m n i h e = refl

-- where children stand stays
pub standing_stays : (s : Standing) (t : Target) (k : Kind) (cs : List Node) (i : ℕ)
    → let kids = each_in (target_in t k) (map cover_at cs) in standing_by s k (of_kind is_present (slice_get kids 1)) (of_kind is_present (slice_get kids 2)) i ≡ standing_by s k (of_kind is_present (slice_get cs 1)) (of_kind is_present (slice_get cs 2)) i
unfolding standing_by target_in
standing_stays s t (kind.Constructor accessibility is_optional) cs i = ap (λ b. at_child 1 i (if_there b standing.Declaring)) (kind_at is_present (λ i. target.Free) cs 2 refl)
standing_stays s t (kind.NamedExport type_only) cs i = ap (λ b. at_child 0 i (if_there (not b) standing.Exported)) (kind_at is_present (λ i. target.Free) cs 1 refl)
standing_stays s t _ cs i = refl

-- a part of a pattern that is itself there stands in one that is declared

patterns_are_read : (t : Target) (optional : Bool) → takes_patterns t ≡ true → as_read t (kind.ArrayPat optional) ≡ false
patterns_are_read target.Left optional h = refl
patterns_are_read target.Head optional h = refl
patterns_are_read target.Part optional h = refl
patterns_are_read target.Element optional h = refl
patterns_are_read _ optional h = not_true h

objects_are_read : (t : Target) (optional : Bool) → takes_patterns t ≡ true → as_read t (kind.ObjectPat optional) ≡ false
objects_are_read target.Left optional h = refl
objects_are_read target.Head optional h = refl
objects_are_read target.Part optional h = refl
objects_are_read target.Element optional h = refl
objects_are_read _ optional h = not_true h

unread : (r : Role) (k : Kind) (q : Role) → r ≡ q → as_read (target_of q) k ≡ false → as_read (target_of r) k ≡ true → (is_assigned r && is_parted k) ≡ false
unread r k q e f h = not_true (sym f ∙ (sym (ap (λ z. as_read (target_of z) k) e) ∙ h))

declared_by : (r : Role) (k : Kind) → Way r k → as_read (target_of r) k ≡ true → (is_assigned r && is_parted k) ≡ false
declared_by r k (itself g d) h = d
declared_by r _ (array optional p a) h = not_true (sym (patterns_are_read (target_of r) optional p) ∙ h)
declared_by r _ (object optional p a) h = not_true (sym (objects_are_read (target_of r) optional p) ∙ h)
declared_by r _ (bound b a) h = and_no (is_assigned r) false refl
declared_by r _ (default (inl e)) h = unread r kind.AssignPat role.AssignedElement e refl h
declared_by r _ (default (inr e)) h = unread r kind.AssignPat role.AssignedValue e refl h
declared_by r _ (rest_element e) h = unread r kind.RestPat role.AssignedElement e refl h
declared_by r _ (rest_property e) h = unread r kind.RestPat role.AssignedProperty e refl h
declared_by r _ (key_value e) h = unread r kind.KeyValuePatProp role.AssignedProperty e refl h
declared_by r _ (short e) h = unread r kind.AssignPatProp role.AssignedProperty e refl h

pub declared : (r : Role) (k : Kind) → allowed r k ≡ true → (r ≡ role.AssignedProperty → belongs sort.ObjectPatProp k ≡ true) → as_read (target_of r) k ≡ true → (is_assigned r && is_parted k) ≡ false
declared r k a p h = declared_by r k (way_of r k a p) h

-- all children

abbrev pub AllThere : (ℕ → Target) → (ℕ → Bool) → (ℕ → Where) → List Shape → Type 0
AllThere target_at last_at where_at [] = Unit {0}
AllThere target_at last_at where_at (o ∷ os) = There (target_at 0) (last_at 0) (where_at 0) o × AllThere (λ i. target_at (suc i)) (λ i. last_at (suc i)) (λ i. where_at (suc i)) os

pub all_there : (target_at : ℕ → Target) (last_at : ℕ → Bool) (where_at : ℕ → Where) → ((i : ℕ) → target_at i ≡ target_of (where_at i).role) → ((i : ℕ) → is_head (where_at i).around.target ≡ is_head (target_at i))
    → ((i : ℕ) → (where_at i).around.is_last ≡ true → last_at i ≡ true) → (os : List Shape) → AllSuit (λ i. (where_at i).role) os → AllShort (λ i. (where_at i).role) os → AllLinked (λ i. (where_at i).around.standing) os
    → AllThere target_at last_at where_at os
all_there target_at last_at where_at same head last [] suit defaults super = tt
all_there target_at last_at where_at same head last (o ∷ os) suit defaults super = (
  record { same = same 0; head = head 0; last = last 0; suit = suit.0; short = defaults.0; super = super.0 },
  all_there (λ i. target_at (suc i)) (λ i. last_at (suc i)) (λ i. where_at (suc i)) (λ i. same (suc i)) (λ i. head (suc i)) (λ i. last (suc i)) os suit.1 defaults.1 super.1,
)
