-- What fits where it stands, and what is written of it: what is around both, and what is asked of a node whose kind stays.
use Rattle.std.proofs.Common.{◌≡◌, ◌∙◌, ℕ, suc, Bool, true, false, not, cond, codes, ◌&&◌, ◌||◌, ◌==◌, List, [], ◌∷◌, length, Some, refl, sym, ap, ap₂, subst, slice_get}
use Rattle.ecma_kind.specs.declared.ident.Ident.{Ident}
use Rattle.ecma_kind.specs.declared.kind.Kind.{Kind}
use Rattle.ecma_kind.specs.declared.kind.Kind.TheVariants as kind
use Rattle.ecma_kind.specs.declared.shapes.Shape.{Shape}
use Rattle.ecma_tree.specs.Laws.{HaveShapes}
use Rattle.ecma_tree.specs.Sorted.{HasShape, allows, child_shapes, is_absent, is_list, item_shape}
use Rattle.ecma_tree.specs.declared.node.Node.{Node, out-Node}
use Rattle.ecma_leaves.specs.Words.{is_spelled}
use Rattle.ecma_rules.specs.declared.standing.Standing.{Standing}
use Rattle.ecma_rules.specs.declared.target.Target.{Target}
use Rattle.ecma_rules.specs.Children.{child_holds, child_is, has_child, is_named, items_at, kind_of}
use Rattle.ecma_rules.specs.Lists.{is_head, is_item, is_one_without_value, is_rest, last_by}
use Rattle.ecma_rules.specs.Members.{is_declaring, is_plain_parameter, is_property_kind, is_special_by, misfits_by, misplaces_this_by}
use Rattle.ecma_rules.specs.Statements.{is_body, is_declaration, is_exported, is_text}
use Rattle.ecma_rules.specs.Surroundings.{standing_by}
use Rattle.ecma_rules.specs.Targets.{in_list, is_plain_target, is_simple_target, is_variables, is_wrapper, target_in}
use Rattle.ecma_fits.specs.declared.role.Role.{Role}
use Rattle.ecma_fits.specs.declared.role.Role.TheVariants as role
use Rattle.ecma_fits.specs.declared.strays.Arguments.{Arguments}
use Rattle.ecma_fits.specs.declared.unfit.Where.{Where}
use Rattle.ecma_fits.specs.Counts.{is_full_by}
use Rattle.ecma_fits.specs.Roles.{in_list as in_role_list, is_assigned, is_bound_name, is_tagged, is_wrong_name, may_be, role_in, takes}
use Rattle.ecma_fits.specs.Strays.{arguments_in}
use Rattle.ecma_fits.proofs.Walks.{neither}
use Rattle.ecma_strip_fits.proofs.Walk.{shape_parts}
use Rattle.ecma_lower_enums.specs.declared.known.KnownEnums.{KnownEnums}
use Rattle.ecma_lower_enums.specs.declared.place.Place.{Place}
use Rattle.ecma_lower_enums.specs.declared.place.Place.TheVariants as place
use Rattle.ecma_lower_enums.specs.Places.{is_several, place_in}
use Rattle.ecma_lower_enums_sources.proofs.Alike.{ones-length, present-at}
use Rattle.ecma_lower_enums_sources.proofs.Relation.{Ones, Stands, children_of, is_members, suits}
use Rattle.ecma_lower_enums_sources.proofs.Relation as relation
use Rattle.ecma_lower_enums_sources.proofs.Suiting.{no}
use Rattle.ecma_lower_enums_fits.proofs.Roles.{child-role, has_role, is_composed, is_simple_role, item-role, taking-place}
use Rattle.ecma_lower_enums_fits.proofs.Standing.{child-stands, is_last_kind, item-stands, none-last, stands}
use Rattle.ecma_lower_enums_fits.proofs.Tests.{full-so, head-same, misfits-same, name-same, not-simple, property-same, simple-so, special-same, this-same}
use Rattle.ecma_lower_enums_fits.proofs.Walks.{AllPass, Passes, and-no, eased, passes-below, passes-by, passes-here}

-- ---- what is asked

abbrev pub inside : Where → Kind → Node → ℕ → Where
inside w k n i = record {
  role = role_in w.role k i;
  around = record {
    target = target_in w.around.target k i;
    standing = standing_by w.around.standing k (has_child n 1) (has_child n 2) i;
    is_last = last_by w.around.is_last k (length (children_of n)) i;
  };
  arguments = arguments_in w.arguments k i;
}

abbrev pub out_of_role : Role → Kind → Node → Bool
out_of_role r k n = is_wrong_name r k || not (may_be r k || (takes r k && is_simple_target n))

abbrev pub stray : Where → Kind → Node → Bool
stray w k n = w.arguments.stray && (is_assigned w.role && (is_bound_name k && child_is (is_named (codes "arguments")) n 0))

abbrev pub breaks : Where → Kind → Node → Bool
breaks w k n =
    (((is_head w.around.target && is_variables k) && not (is_one_without_value (items_at n 0))) || (is_rest w.around.target k && not w.around.is_last))
    || (((is_property_kind k && not (is_declaring w.around.standing && child_holds is_plain_parameter n 0)) || (misfits_by k n || (is_special_by k n || misplaces_this_by k n)))
    || ((is_exported w.around.standing && is_text k) || (is_body w.around.standing && is_declaration k)))

abbrev pub misspelled : Where → Kind → Bool
misspelled w k = not (is_spelled (is_tagged w.role) k)

abbrev pub short : Kind → Node → Bool
short k n = not (is_full_by k n)

-- a clause fails
abbrev pub unfit : Where → Kind → Node → Bool
unfit w k n = out_of_role w.role k n || (stray w k n || (breaks w k n || (misspelled w k || short k n)))

pub all-fit : (w : Where) (k : Kind) (n : Node) → out_of_role w.role k n ≡ false → stray w k n ≡ false → breaks w k n ≡ false → misspelled w k ≡ false → short k n ≡ false → unfit w k n ≡ false
all-fit w k n a b c d e = ap₂ (λ x y. x || y) a (ap₂ (λ x y. x || y) b (ap₂ (λ x y. x || y) c (ap₂ (λ x y. x || y) d e)))

pub record Clauses (w : Where) (k : Kind) (n : Node) : Type 0 where
  pub roles : out_of_role w.role k n ≡ false
  pub targets : stray w k n ≡ false
  pub rules : breaks w k n ≡ false
  pub leaves : misspelled w k ≡ false
  pub counts : short k n ≡ false

pub clauses : (w : Where) (k : Kind) (n : Node) → unfit w k n ≡ false → Clauses w k n
clauses w k n h =
    let a = neither (out_of_role w.role k n) _ h in
    let b = neither (stray w k n) _ a.1 in
    let c = neither (breaks w k n) _ b.1 in
    let d = neither (misspelled w k) (short k n) c.1 in
    record { roles = a.0; targets = b.0; rules = c.0; leaves = d.0; counts = d.1 }

-- ---- `arguments`

abbrev pub Less : Arguments → Arguments → Type 0
Less v w = (w.held ≡ false → v.held ≡ false) × (w.stray ≡ false → v.stray ≡ false)

less-cond : (b : Bool) (v w v' w' : Arguments) → Less v w → Less v' w' → Less (cond b v v') (cond b w w')
less-cond true v w v' w' h g = h
less-cond false v w v' w' h g = g

less-in : (v w : Arguments) (k : Kind) (i : ℕ) → Less v w → Less (arguments_in v k i) (arguments_in w k i)
unfolding arguments_in
less-in v w (kind.Function is_generator is_async) i h = (h.0, λ z. z)
less-in v w (kind.Constructor accessibility is_optional) i h = less-cond (i == 0) v w _ _ h (h.0, λ z. z)
less-in v w kind.GetterProp i h = less-cond (i == 0) v w _ _ h (h.0, λ z. z)
less-in v w kind.SetterProp i h = less-cond (i == 0) v w _ _ h (h.0, λ z. z)
less-in v w (kind.ClassProp modifiers readonly declare definite) i h = less-cond (i == 0) v w _ _ h (h.0, h.0)
less-in v w (kind.PrivateProp modifiers readonly declare definite) i h = less-cond (i == 0) v w _ _ h (h.0, h.0)
less-in v w kind.StaticBlock i h = (h.0, h.0)
less-in v w kind.TsEnumMember i h = less-cond (i == 0) v w _ _ h ((λ z. z), (λ z. z))
less-in v w kind.TsModuleBlock i h = ((λ z. z), (λ z. z))
less-in v w _ i h = h

-- ---- a node whose kind stays

-- what is asked of it beside what is around it
pub record Kept (w : Where) (k : Kind) (a b : Node) : Type 0 where
  pub simple : may_be w.role k ≡ false → takes w.role k ≡ true → is_simple_target a ≡ true → is_simple_target b ≡ true
  pub name : (is_bound_name k && child_is (is_named (codes "arguments")) b 0) ≡ (is_bound_name k && child_is (is_named (codes "arguments")) a 0)
  pub head : (is_variables k && not (is_one_without_value (items_at b 0))) ≡ (is_variables k && not (is_one_without_value (items_at a 0)))
  pub property : (is_property_kind k && child_holds is_plain_parameter b 0) ≡ (is_property_kind k && child_holds is_plain_parameter a 0)
  pub misfits : misfits_by k b ≡ misfits_by k a
  pub special : is_special_by k b ≡ is_special_by k a
  pub this : misplaces_this_by k b ≡ misplaces_this_by k a
  pub full : is_full_by k a ≡ true → is_full_by k b ≡ true

roles-kept : (wrong may takes x y : Bool) → (may ≡ false → takes ≡ true → x ≡ true → y ≡ true) → (wrong || not (may || (takes && x))) ≡ false → (wrong || not (may || (takes && y))) ≡ false
roles-kept true may takes x y so h = no (sym h)
roles-kept false true takes x y so h = refl
roles-kept false false false x y so h = no (sym h)
roles-kept false false true true y so h = ap not (so refl refl refl)
roles-kept false false true false y so h = no (sym h)

and-kept : (a b c d : Bool) → (a ≡ false → b ≡ false) → c ≡ d → (a && d) ≡ false → (b && c) ≡ false
and-kept false b c d so e h = ap (λ z. z && c) (so refl)
and-kept true b c d so e h = ap (λ z. b && z) (e ∙ h) ∙ and-no b

heads-kept : (head variables x y : Bool) → (variables && not y) ≡ (variables && not x) → ((head && variables) && not y) ≡ ((head && variables) && not x)
heads-kept true variables x y e = e
heads-kept false variables x y e = refl

properties-kept : (property declaring x y : Bool) → (property && y) ≡ (property && x) → (property && not (declaring && y)) ≡ (property && not (declaring && x))
properties-kept true declaring x y e = ap (λ z. not (declaring && z)) e
properties-kept false declaring x y e = refl

last-kept : (rest l m : Bool) → (rest ≡ true → m ≡ l) → (rest && not l) ≡ false → (rest && not m) ≡ false
last-kept true l m so h = ap not (so refl) ∙ h
last-kept false l m so h = refl

pub or-no : (a b : Bool) → a ≡ false → b ≡ false → (a || b) ≡ false
or-no a b h g = ap₂ (λ x y. x || y) h g

not-so : (x y : Bool) → (x ≡ true → y ≡ true) → not x ≡ false → not y ≡ false
not-so true y so h = ap not (so refl)
not-so false y so h = no (sym h)

abbrev made : Role → Target → Standing → Bool → Arguments → Where
made r t s l x = record { role = r; around = record { target = t; standing = s; is_last = l }; arguments = x }

-- where only what stands last, and `arguments`, may differ
rules-kept : (r : Role) (t : Target) (s : Standing) (l m : Bool) (x y : Arguments) (k : Kind) (a b : Node) → (is_rest t k ≡ true → m ≡ l) → Kept (made r t s l x) k a b → breaks (made r t s l x) k a ≡ false
    → breaks (made r t s m y) k b ≡ false
rules-kept r t s l m x y k a b last kept h =
    let one = neither (((is_head t && is_variables k) && not (is_one_without_value (items_at a 0))) || (is_rest t k && not l)) _ h in
    let two = neither ((is_head t && is_variables k) && not (is_one_without_value (items_at a 0))) (is_rest t k && not l) one.0 in
    let three = neither ((is_property_kind k && not (is_declaring s && child_holds is_plain_parameter a 0)) || (misfits_by k a || (is_special_by k a || misplaces_this_by k a))) _ one.1 in
    let four = neither (is_property_kind k && not (is_declaring s && child_holds is_plain_parameter a 0)) _ three.0 in
    or-no _ _
    (or-no _ _ (heads-kept (is_head t) (is_variables k) (is_one_without_value (items_at a 0)) (is_one_without_value (items_at b 0)) kept.head ∙ two.0) (last-kept (is_rest t k) l m last two.1))
    (or-no _ _
    (or-no _ _ (properties-kept (is_property_kind k) (is_declaring s) (child_holds is_plain_parameter a 0) (child_holds is_plain_parameter b 0) kept.property ∙ four.0)
    (ap₂ (λ u v. u || v) kept.misfits (ap₂ (λ u v. u || v) kept.special kept.this) ∙ four.1)) three.1)

node-kept : (r : Role) (t : Target) (s : Standing) (l m : Bool) (x y : Arguments) (k : Kind) (a b : Node) → (is_rest t k ≡ true → m ≡ l) → Less y x → Kept (made r t s l x) k a b → unfit (made r t s l x) k a ≡ false
    → unfit (made r t s m y) k b ≡ false
node-kept r t s l m x y k a b last less kept h =
    let c = clauses (made r t s l x) k a h in
    all-fit (made r t s m y) k b (roles-kept (is_wrong_name r k) (may_be r k) (takes r k) (is_simple_target a) (is_simple_target b) kept.simple c.roles)
    (and-kept x.stray y.stray _ _ less.1 (ap (λ z. is_assigned r && z) kept.name) c.targets) (rules-kept r t s l m x y k a b last kept c.rules) c.leaves
    (not-so (is_full_by k a) (is_full_by k b) kept.full c.counts)

-- where what is around is otherwise equal
pub fits-kept : (w v : Where) (k : Kind) (a b : Node) → v.role ≡ w.role → v.around.target ≡ w.around.target → v.around.standing ≡ w.around.standing
    → (is_rest w.around.target k ≡ true → v.around.is_last ≡ w.around.is_last) → Less v.arguments w.arguments → Kept w k a b → unfit w k a ≡ false → unfit v k b ≡ false
fits-kept w v k a b r t s last less kept h =
    subst (λ z. unfit (made z v.around.target v.around.standing v.around.is_last v.arguments) k b ≡ false) (sym r)
    (subst (λ z. unfit (made w.role z v.around.standing v.around.is_last v.arguments) k b ≡ false) (sym t)
    (subst (λ z. unfit (made w.role w.around.target z v.around.is_last v.arguments) k b ≡ false) (sym s)
    (node-kept w.role w.around.target w.around.standing w.around.is_last v.around.is_last w.arguments v.arguments k a b last less kept h)))

-- ---- the same node

itself : (w : Where) (k : Kind) (n : Node) → Kept w k n n
itself w k n = record { simple = λ m t h. h; name = refl; head = refl; property = refl; misfits = refl; special = refl; this = refl; full = λ h. h }

-- the same is around, but for `arguments`
abbrev Eases : Where → Where → Type 0
Eases w v = (v.role ≡ w.role) × (v.around.target ≡ w.around.target) × (v.around.standing ≡ w.around.standing) × (v.around.is_last ≡ w.around.is_last) × Less v.arguments w.arguments

eases-here : (w v : Where) (k : Kind) (n : Node) → Eases w v → unfit w k n ≡ false → unfit v k n ≡ false
eases-here w v k n e h = fits-kept w v k n n e.0 e.1 e.2 (λ z. e.3) e.4 (itself w k n) h

eases-below : (w v : Where) (k : Kind) (n : Node) (i : ℕ) → Eases w v → Eases (inside w k n i) (inside v k n i)
eases-below w v k n i e = (
  ap (λ r. role_in r k i) e.0,
  ap (λ t. target_in t k i) e.1,
  ap (λ s. standing_by s k (has_child n 1) (has_child n 2) i) e.2,
  ap (λ l. last_by l k (length (children_of n)) i) e.3,
  less-in v.arguments w.arguments k i e.4,
)

abbrev pub Pass : Where → Node → Type 0
Pass = Passes Where unfit inside

all-eased : (ns : List Node) (f g : ℕ → Where) → ((i : ℕ) → Eases (f i) (g i)) → AllPass Where unfit inside f ns → AllPass Where unfit inside g ns
all-eased [] f g e h = tt
all-eased (n ∷ ns) f g e h =
    (eased Where unfit inside Eases eases-here eases-below n (f 0) (g 0) (e 0) h.0, all-eased ns (λ i. f (suc i)) (λ i. g (suc i)) (λ i. e (suc i)) h.1)

-- ---- what is around both

pub record Agree (p : Place) (t : Shape) (w v : Where) : Type 0 where
  pub role : v.role ≡ w.role
  pub target : v.around.target ≡ w.around.target
  pub standing : v.around.standing ≡ w.around.standing
  -- what stands last in a list of statements does not matter
  pub last : is_several p ≡ false → v.around.is_last ≡ w.around.is_last
  pub arguments : Less v.arguments w.arguments
  pub has : has_role p t w.role ≡ true
  pub stood : stands p w.around.standing w.around.target ≡ true

rest-last : (t : Target) (k : Kind) → is_last_kind k ≡ false → is_rest t k ≡ false
rest-last t kind.RestPat h = no (sym h)
rest-last t kind.SpreadElement h = no (sym h)
rest-last t _ h = and-no (is_item t)

last-free : (k : Kind) (l m : Bool) (c i : ℕ) → is_last_kind k ≡ false → last_by l k c i ≡ last_by m k c i
unfolding last_by
last-free kind.Param l m c i h = no (sym h)
last-free (kind.TsParamProp accessibility is_override readonly) l m c i h = no (sym h)
last-free kind.AssignPat l m c i h = no (sym h)
last-free _ l m c i h = refl

module _ (p : Place) (t : Shape) (w v : Where) (n : Node) (s : suits p t ≡ true) (has : HasShape t n) (g : Agree p t w v) where
  abbrev k : Kind
  k = kind_of n

  -- by whether a list of statements stands there
  by-last : (X : Type 0) → (v.around.is_last ≡ w.around.is_last → X) → (is_last_kind k ≡ false → X) → X
  by-last X same free = by (is_several p) refl
    where
      by : (b : Bool) → is_several p ≡ b → X
      by true e = free (none-last p t k e s (shape_parts n t has).0)
      by false e = same (g.last e)

  rest-same : is_rest w.around.target k ≡ true → v.around.is_last ≡ w.around.is_last
  rest-same h = by-last (v.around.is_last ≡ w.around.is_last) (λ e. e) (λ f. no (sym (rest-last w.around.target k f) ∙ h))

  last-same : (c i : ℕ) → last_by v.around.is_last k c i ≡ last_by w.around.is_last k c i
  last-same c i = by-last (last_by v.around.is_last k c i ≡ last_by w.around.is_last k c i) (λ e. ap (λ l. last_by l k c i) e) (λ f. last-free k v.around.is_last w.around.is_last c i f)

  pub left-passes : Pass w n → Pass v n
  left-passes h =
      passes-by Where unfit inside v n (fits-kept w v k n n g.role g.target g.standing rest-same g.arguments (itself w k n) (passes-here Where unfit inside w n h))
      (all-eased (children_of n) (λ i. inside w k n i) (λ i. inside v k n i) (λ i. (
        ap (λ r. role_in r k i) g.role,
        ap (λ z. target_in z k i) g.target,
        ap (λ z. standing_by z k (has_child n 1) (has_child n 2) i) g.standing,
        last-same (length (children_of n)) i,
        less-in v.arguments w.arguments k i g.arguments,
      )) (passes-below Where unfit inside w n h))

  -- a list
  module _ (b : Node) (e : k ≡ kind.List) where
    list-kept : Kept w kind.List n b
    unfolding misfits_by misplaces_this_by is_full_by
    list-kept = record {
      simple = λ m x h. no (sym (not-simple n kind.List e refl refl) ∙ h);
      name = refl;
      head = refl;
      property = refl;
      misfits = refl;
      special = refl;
      this = refl;
      full = λ h. h;
    }

    pub list-fits : unfit w kind.List n ≡ false → unfit v kind.List b ≡ false
    list-fits h = fits-kept w v kind.List n b g.role g.target g.standing (λ z. no (sym (rest-last w.around.target kind.List refl) ∙ z)) g.arguments list-kept h

    pub list-agrees : (is_several p ≡ false → length (children_of b) ≡ length (children_of n)) → (i j : ℕ) → (is_several p ≡ false → i ≡ j) → Agree p (item_shape t) (inside w kind.List n i) (inside v kind.List b j)
    unfolding role_in target_in standing_by last_by arguments_in
    list-agrees long i j same = record {
      role = ap in_role_list g.role;
      target = ap in_list g.target;
      standing = g.standing;
      last = λ z. ap₂ (λ x y. suc x == y) (sym (same z)) (long z);
      arguments = g.arguments;
      has = item-role p t w.role (subst (λ z. allows t z ≡ true) e (shape_parts n t has).0) g.has;
      stood = item-stands p w.around.standing w.around.target g.stood;
    }

-- ---- children

module _ (enums : KnownEnums) (N : Ident → Type 0) (K : List ℕ → Type 0) (p : Place) (t : Shape) (w v : Where) (a b : Node) (s : suits p t ≡ true) (has : HasShape t a) (l : is_list (kind_of a) ≡ false)
    (calm : is_members p ≡ false) (e : kind_of b ≡ kind_of a) (at : (out-Node b).span ≡ (out-Node a).span)
    (ones : Ones enums N K (place_in enums.writes p (kind_of a)) (child_shapes (kind_of a) t (length (children_of a))) (children_of a) (children_of b)) (g : Agree p t w v) where
  abbrev own : Kind
  own = kind_of a

  stood : Stands enums N K p t a b
  stood = relation.kept has calm l e at ones

  shapes : (allows t own ≡ true) × HaveShapes (child_shapes own t (length (children_of a))) (children_of a)
  shapes = shape_parts a t has

  takes-so : may_be w.role own ≡ false → takes w.role own ≡ true → is_simple_target a ≡ true → p ≡ place.Target
  takes-so may take simple = by (is_absent own) refl
    where
      by : (z : Bool) → is_absent own ≡ z → p ≡ place.Target
      by true e = no (sym (absent-plain e) ∙ simple)
        where
          absent-kind : (j : Kind) → is_absent j ≡ true → (is_plain_target j ≡ false) × (is_wrapper j ≡ false)
          absent-kind kind.Absent h = (refl, refl)
          absent-kind _ h = no h

          absent-plain : is_absent own ≡ true → is_simple_target a ≡ false
          absent-plain e = let parts = absent-kind own e in not-simple a own refl parts.0 parts.1
      by false e = taking-place t w.role own l e shapes.0 may take p g.has

  child-kept : Kept w own a b
  child-kept = record {
    simple = λ may take simple. simple-so enums N K stood (takes-so may take simple) simple;
    name = name-same enums N K p t own a b ones;
    head = head-same enums N K p t own a b shapes.1 ones;
    property = property-same enums N K p t own a b ones;
    misfits = misfits-same enums N K p t own a b ones;
    special = special-same enums N K p t own a b ones;
    this = this-same enums N K p t own a b shapes.1 ones;
    full = full-so enums N K p t own a b shapes.1 ones;
  }

  pub child-fits : unfit w own a ≡ false → unfit v own b ≡ false
  child-fits h = fits-kept w v own a b g.role g.target g.standing (rest-same p t w v a s has g) g.arguments child-kept h

  -- a pattern is no simple target
  composed-plain : (j : Kind) → is_composed j ≡ true → (is_plain_target j ≡ false) × (is_wrapper j ≡ false)
  composed-plain (kind.ArrayPat optional) h = (refl, refl)
  composed-plain (kind.ObjectPat optional) h = (refl, refl)
  composed-plain kind.RestPat h = (refl, refl)
  composed-plain kind.AssignPat h = (refl, refl)
  composed-plain kind.KeyValuePatProp h = (refl, refl)
  composed-plain kind.AssignPatProp h = (refl, refl)
  composed-plain _ h = no h

  composed-role : (r : Role) → is_simple_target a ≡ false → out_of_role r own a ≡ false → is_simple_role r ≡ false
  unfolding may_be takes
  composed-role role.Simple plain h = no (sym (neither (is_wrong_name role.Simple own) (not (is_simple_target a)) h).1 ∙ ap not plain)
  composed-role _ plain h = refl

  pub child-agrees : unfit w own a ≡ false → (i : ℕ) (u : Shape) → slice_get (child_shapes own t (length (children_of a))) i ≡ Some u → Agree (place_in enums.writes p own i) u (inside w own a i) (inside v own b i)
  child-agrees h i u get = record {
    role = ap (λ r. role_in r own i) g.role;
    target = ap (λ z. target_in z own i) g.target;
    standing = standing-same;
    last = λ z. last-same p t w v a s has g (length (children_of b)) i ∙ ap (λ c. last_by w.around.is_last own c i) (ones-length enums N K ones);
    arguments = less-in v.arguments w.arguments own i g.arguments;
    has = child-role enums.writes p t w.role own (length (children_of a)) i u l s g.has shapes.0
        (λ c. let parts = composed-plain own c in composed-role w.role (not-simple a own refl parts.0 parts.1) (clauses w own a h).roles) get;
    stood = child-stands enums.writes p t w.around.standing w.around.target own (has_child a 1) (has_child a 2) (length (children_of a)) i u l get;
  }
    where
      standing-same : standing_by v.around.standing own (has_child b 1) (has_child b 2) i ≡ standing_by w.around.standing own (has_child a 1) (has_child a 2) i
      standing-same =
          ap (λ z. standing_by z own (has_child b 1) (has_child b 2) i) g.standing
          ∙ ap₂ (λ x y. standing_by w.around.standing own x y i) (present-at enums N K ones 1) (present-at enums N K ones 2)
