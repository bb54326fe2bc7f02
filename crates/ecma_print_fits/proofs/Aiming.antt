-- What stands around a node of a tree without nodes out of their roles, and how it stays with explicit parentheses.
use Rattle.std.proofs.Common.{◌≡◌, ◌∙◌, ◌||◌, ◌&&◌, ◌==◌, not, cond, ℕ, suc, Bool, true, false, List, [], ◌∷◌, map, length, Option, None, refl, sym, ap, ap₂, slice_get}
use Rattle.ecma_kind.specs.declared.span.Span.{Span}
use Rattle.ecma_kind.specs.declared.kind.Kind.{Kind}
use Rattle.ecma_kind.specs.declared.kind.Kind.TheVariants as kind
use Rattle.ecma_kind.specs.declared.operators.AssignOp.{AssignOp}
use Rattle.ecma_kind.specs.declared.operators.AssignOp.TheVariants.{Assign}
use Rattle.ecma_kind.specs.declared.shapes.Shape.{Shape}
use Rattle.ecma_tree.specs.declared.node.Node.{Node, Node-F, roll-Node}
use Rattle.ecma_tree.specs.declared.node.Node.TheViews.{out-roll-Node}
use Rattle.ecma_tree.specs.Laws.{HaveShapes}
use Rattle.ecma_tree.specs.Nodes.{dummy_span, node_of}
use Rattle.ecma_tree.specs.Sorted.{HasShape, child_shapes}
use Rattle.ecma_rules.specs.declared.standing.Standing.{Standing}
use Rattle.ecma_rules.specs.declared.standing.Standing.TheVariants as standing
use Rattle.ecma_rules.specs.declared.target.Target.{Target}
use Rattle.ecma_rules.specs.declared.target.Target.TheVariants as target
use Rattle.ecma_rules.specs.Children.{is_present, of_kind}
use Rattle.ecma_rules.specs.Failing.{failing_here, failing_step, first_failing, least_from}
use Rattle.ecma_rules.specs.Lists.{last_by}
use Rattle.ecma_rules.specs.Surroundings.{standing_by}
use Rattle.ecma_rules.specs.Targets.{in_list as target_in_list, in_literal, in_short_default, in_spread, in_value, is_plain_target, is_wrapper, on_left, target_in}
use Rattle.ecma_print.specs.declared.place.Spot.{Spot}
use Rattle.ecma_print.specs.Explicit.{parenthesized}
use Rattle.ecma_print_parentheses.proofs.Asking.{AllFit, Fits}
use Rattle.ecma_fits.specs.declared.role.Role.{Role}
use Rattle.ecma_fits.specs.declared.role.Role.TheVariants as role
use Rattle.ecma_fits.specs.declared.unfit.Where.{Where}
use Rattle.ecma_fits.specs.Fitting.{where_in}
use Rattle.ecma_fits.specs.Roles.{in_list, is_binding, is_name, is_out_of_role, is_pattern, is_variables, left_of, may_be, role_in, takes}
use Rattle.ecma_fits.specs.Strays.{arguments_in}
use Rattle.ecma_print_fits.proofs.Parts.{allowed, kind_allowed, neither_least, not_failing, not_true, shape_made, shifted, where_by}
use Rattle.ecma_print_fits.proofs.Explicit.{kind_at, spotted}
use Rattle.ecma_print_fits.proofs.Branching.{present_kept}
use Rattle.ecma_print_fits.proofs.Holding.{Expression, closes, expression, same_roles}
use Rattle.ecma_print_fits.proofs.Opening.{as_many}
use Rattle.ecma_print_fits.proofs.Walking.{AllKnown}
use Rattle.ecma_tree.proofs.Layers.{from_leaves-roll}

-- a target is asked of a finished node only where its role asks the same
abbrev pub aims : Target → Role → Bool
aims target.Free r = true
aims target.Left role.Left = true
aims target.Simple role.Simple = true
aims target.Head role.Head = true
aims t r = false

-- a kind that is no target, and no pattern
record NoTarget (k : Kind) : Type 0 where
  pattern : is_pattern k ≡ false
  binding : is_binding k ≡ false
  variables : is_variables k ≡ false
  plain : is_plain_target k ≡ false
  wrapper : is_wrapper k ≡ false

pub and_none : (b : Bool) → (b && false) ≡ false
and_none true = refl
and_none false = refl

-- of one that stands where it may no target is asked
unaimed : (t : Target) (r : Role) (k : Kind) → NoTarget k → aims t r ≡ true → allowed r k ≡ true → t ≡ target.Free
unfolding may_be takes
unaimed target.Free r k n a h = refl
unaimed target.Left role.Left k n a h = not_true (sym (ap₂ (λ a b. a || b) n.pattern (ap₂ (λ a b. a || b) n.plain n.wrapper)) ∙ h)
unaimed target.Left _ k n a h = not_true a
unaimed target.Simple role.Simple k n a h = not_true (sym (ap₂ (λ a b. a || b) n.plain n.wrapper) ∙ h)
unaimed target.Simple _ k n a h = not_true a
unaimed target.Head role.Head k n a h =
    not_true (sym (ap₂ (λ a b. a || (not (is_name k) && b)) (ap₂ (λ a b. a || b) n.binding n.variables) (ap₂ (λ a b. a || b) n.plain n.wrapper) ∙ and_none (not (is_name k))) ∙ h)
unaimed target.Head _ k n a h = not_true a
unaimed _ r k n a h = not_true a

no_target : (k : Kind) → Expression k → NoTarget k
no_target k e = record { pattern = e.pattern; binding = e.binding; variables = e.variables; plain = e.plain; wrapper = e.wrapper }

-- what is asked below

list_unaimed : (t : Target) (r : Role) → aims t r ≡ true → target_in_list t ≡ target.Free
list_unaimed target.Elements r a = not_true a
list_unaimed target.Properties r a = not_true a
list_unaimed _ r a = refl

spread_unaimed : (t : Target) (r : Role) → aims t r ≡ true → in_spread t ≡ target.Free
spread_unaimed target.Element r a = not_true a
spread_unaimed target.Property r a = not_true a
spread_unaimed _ r a = refl

value_unaimed : (t : Target) (r : Role) → aims t r ≡ true → in_value t ≡ target.Free
value_unaimed target.Property r a = not_true a
value_unaimed _ r a = refl

default_unaimed : (t : Target) (r : Role) → aims t r ≡ true → in_short_default t ≡ target.Free
default_unaimed target.Property r a = not_true a
default_unaimed _ r a = refl

left_same : (t : Target) (r : Role) (op : AssignOp) → aims t r ≡ true → on_left t op ≡ on_left target.Free op
left_same target.Element r op a = not_true a
left_same _ r Assign a = refl
left_same _ r _ a = refl

at_either : (b : Bool) (t : Target) → t ≡ target.Free → aims (cond b t target.Free) role.Free ≡ true
at_either true t e = ap (λ z. aims z role.Free) e
at_either false t e = refl

left_aims : (b : Bool) (op : AssignOp) → aims (cond b (on_left target.Free op) target.Free) (cond b (left_of op) role.Free) ≡ true
left_aims true Assign = refl
left_aims true _ = refl
left_aims false op = refl

head_aims : (b : Bool) → aims (cond b target.Head target.Free) (cond b role.Head role.Free) ≡ true
head_aims true = refl
head_aims false = refl

aimed_in : (t : Target) (r : Role) (k : Kind) (i : ℕ) → aims t r ≡ true → allowed r k ≡ true → aims (target_in t k i) (role_in r k i) ≡ true
unfolding target_in role_in
aimed_in t r kind.List i a h = ap (λ z. aims z (in_list r)) (list_unaimed t r a)
aimed_in t r kind.ArrayLit i a h = ap (λ z. aims (in_literal z target.Elements) role.Free) (unaimed t r kind.ArrayLit (record { pattern = refl; binding = refl; variables = refl; plain = refl; wrapper = refl }) a h)
aimed_in t r kind.ObjectLit i a h = ap (λ z. aims (in_literal z target.Properties) role.Free) (unaimed t r kind.ObjectLit (record { pattern = refl; binding = refl; variables = refl; plain = refl; wrapper = refl }) a h)
aimed_in t r kind.SpreadElement i a h = ap (λ z. aims z role.Free) (spread_unaimed t r a)
aimed_in t r kind.KeyValueProp i a h = at_either (i == 1) (in_value t) (value_unaimed t r a)
aimed_in t r kind.AssignProp i a h = at_either (i == 0) (in_short_default t) (default_unaimed t r a)
aimed_in t r (kind.AssignExpr op) i a h = ap (λ z. aims (cond (i == 0) z target.Free) (cond (i == 0) (left_of op) role.Free)) (left_same t r op a) ∙ left_aims (i == 0) op
aimed_in t r (kind.UpdateExpr op prefix) i a h = refl
aimed_in t r kind.ForInStmt i a h = head_aims (i == 0)
aimed_in t r (kind.ForOfStmt is_await) i a h = head_aims (i == 0)
aimed_in t r _ i a h = refl

-- no node in this one is out of its role
abbrev pub roles : Node → Where → Option ℕ
roles = first_failing Where (λ w node. failing_here (is_out_of_role w.role node) node) where_in

-- what is known of a node
pub record Known (w : Where) (n : Node) : Type 0 where
  pub shape : Shape
  pub shaped : HasShape shape n
  pub role : roles n w ≡ None
  pub aim : aims w.around.target w.role ≡ true

where_made : (w : Where) (x : Node-F Node) (i : ℕ) → where_in w (roll-Node x) i ≡ where_by w x i
where_made w x i = ap (λ (p : Node-F Node). where_by w p i) (out-roll-Node x)

role_parts : (x : Node-F Node) (w : Where) → roles (roll-Node x) w ≡ None → (is_out_of_role w.role (roll-Node x) ≡ false) × (least_from Where (where_in w (roll-Node x)) 0 (map roles x.children) ≡ None)
role_parts x w h =
    let n = roll-Node x in
    let e = ap (λ f. f w) (from_leaves-roll (Where → Option ℕ) (failing_step Where (λ w node. failing_here (is_out_of_role w.role node) node) where_in) x) in
    let p = neither_least (failing_here (is_out_of_role w.role n) n) (least_from Where (where_in w n) 0 (map roles x.children)) (sym e ∙ h) in
    (not_failing (is_out_of_role w.role n) n p.0, p.1)

all_known : (w_of : ℕ → Where) (os : List Shape) (ns : List Node) → HaveShapes os ns → least_from Where w_of 0 (map roles ns) ≡ None → ((i : ℕ) → aims (w_of i).around.target (w_of i).role ≡ true) → AllKnown Where Known w_of ns
all_known w_of [] [] have h aim = tt
all_known w_of [] (n ∷ ns) have h aim = absurd have
all_known w_of (o ∷ os) [] have h aim = absurd have
all_known w_of (o ∷ os) (n ∷ ns) have h aim =
    let p = neither_least (roles n (w_of 0)) (least_from Where w_of 1 (map roles ns)) h in (
      record { shape = o; shaped = have.0; role = p.0; aim = aim 0 },
      all_known (λ i. w_of (suc i)) os ns have.1 (sym (shifted Where w_of 0 (map roles ns)) ∙ p.1) (λ i. aim (suc i)),
    )

pub known_below : (w : Where) (x : Node-F Node) → Known w (roll-Node x) → AllKnown Where Known (where_in w (roll-Node x)) x.children
known_below w x p =
    let r = role_parts x w p.role in
    all_known (where_in w (roll-Node x)) (child_shapes x.kind p.shape (length x.children)) x.children (shape_made x p.shape p.shaped).1 r.1
    (λ i. ap (λ (z : Where). aims z.around.target z.role) (where_made w x i) ∙ aimed_in w.around.target w.role x.kind i p.aim (kind_allowed x w.role r.0))

-- children in their spots have the same around them

abbrev where_with : Where → Kind → Bool → Bool → ℕ → ℕ → Where
where_with w k first second count i = record {
  role = role_in w.role k i;
  around = record { target = target_in w.around.target k i; standing = standing_by w.around.standing k first second i; is_last = last_by w.around.is_last k count i };
  arguments = arguments_in w.arguments k i;
}

pub where_stays : (w : Where) (span : Span) (k : Kind) (ns : List Node) (spots : List Spot) (further : Spot) → AllFit spots → Fits further → (i : ℕ) → where_in w (node_of span k (spotted ns spots further)) i ≡ where_in w (node_of span k ns) i
where_stays w span k ns spots further fit fits i =
    let count = length (spotted ns spots further) in
    where_made w (record { span = span; kind = k; children = spotted ns spots further }) i
    ∙ (ap₂ (λ a b. where_with w k a b count i) (kind_at is_present present_kept ns spots further fit fits 1) (kind_at is_present present_kept ns spots further fit fits 2)
    ∙ (ap (λ c. where_with w k (of_kind is_present (slice_get ns 1)) (of_kind is_present (slice_get ns 2)) c i) (as_many ns spots further)
    ∙ sym (where_made w (record { span = span; kind = k; children = ns }) i)))

-- and so have those of a node in parentheses

abbrev pub in_parens : Where → Where
in_parens w = record { role = role.Free; around = record { target = target.Free; standing = standing.Plain; is_last = true }; arguments = w.arguments }

pub where_there : (w : Where) (n : Node) → where_in w (parenthesized n) 0 ≡ in_parens w
unfolding role_in target_in standing_by last_by arguments_in
where_there w n = where_made w (record { span = dummy_span; kind = kind.ParenExpr; children = n ∷ [] }) 0

same_standing : (s : Standing) (k : Kind) (first second : Bool) (i : ℕ) → closes k ≡ true → standing_by standing.Plain k first second i ≡ standing_by s k first second i
unfolding standing_by
same_standing s kind.List first second i h = not_true h
same_standing s (kind.ExportNamedSpecifier is_type_only) first second i h = not_true h
same_standing s _ first second i h = refl

same_last : (l : Bool) (k : Kind) (count i : ℕ) → closes k ≡ true → last_by true k count i ≡ last_by l k count i
unfolding last_by
same_last l kind.Param count i h = not_true h
same_last l (kind.TsParamProp accessibility is_override readonly) count i h = not_true h
same_last l kind.AssignPat count i h = not_true h
same_last l _ count i h = refl

pub where_around : (w : Where) (x : Node-F Node) (n : Node) → closes x.kind ≡ true → Known w (roll-Node x) → (i : ℕ) → where_in (where_in w (parenthesized n) 0) (roll-Node x) i ≡ where_in w (roll-Node x) i
where_around w x n c p i =
    let k = x.kind in
    let first = of_kind is_present (slice_get x.children 1) in
    let second = of_kind is_present (slice_get x.children 2) in
    let count = length x.children in
    let free : w.around.target ≡ target.Free = unaimed w.around.target w.role k (no_target k (expression k c)) p.aim (kind_allowed x w.role (role_parts x w p.role).0) in
    ap (λ (v : Where). where_in v (roll-Node x) i) (where_there w n)
    ∙ (where_made (in_parens w) x i
    ∙ (ap₂ (made k) (sym (same_roles w.role k i c)) (ap (λ t. target_in t k i) (sym free))
    ∙ (ap₂ (λ s l. record { role = role_in w.role k i; around = record { target = target_in w.around.target k i; standing = s; is_last = l }; arguments = arguments_in w.arguments k i }) (same_standing w.around.standing k first second i c) (same_last w.around.is_last k count i c)
    ∙ sym (where_made w x i))))
  where
    made : Kind → Role → Target → Where
    made k r t = record {
      role = r;
      around = record { target = t; standing = standing_by standing.Plain k (of_kind is_present (slice_get x.children 1)) (of_kind is_present (slice_get x.children 2)) i; is_last = last_by true k (length x.children) i };
      arguments = arguments_in w.arguments k i;
    }
