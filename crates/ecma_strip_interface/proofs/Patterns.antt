-- The patterns that declarations bind: each is a name, or has patterns in it, and no name is `this`.
use Rattle.std.proofs.Common.{◌≡◌, ◌∙◌, ◌||◌, ◌&&◌, not, ℕ, zero, suc, Bool, true, false, codes, bytes_eq, List, [], ◌∷◌, length, replicate, Option, Some, None, refl, sym, ap, subst, slice_get}
use Rattle.std.proofs.lemmas.Bool.{false≢true}
use Rattle.std.proofs.lemmas.Slice.Eq.{bytes_eq-Decides}
use Rattle.ecma_kind.specs.Sorts.{belongs}
use Rattle.ecma_kind.specs.declared.kind.Kind.{Kind}
use Rattle.ecma_kind.specs.declared.kind.Kind.TheVariants as kind
use Rattle.ecma_kind.specs.declared.shapes.Shape.{Shape}
use Rattle.ecma_kind.specs.declared.shapes.Sort.TheVariants as sort
use Rattle.ecma_lex.specs.Keys.{is_reserved, reserved_words}
use Rattle.ecma_tree.specs.declared.node.Node.{Node}
use Rattle.ecma_tree.specs.Laws.{HaveShapes}
use Rattle.ecma_tree.specs.Sorted.{HasShape, child_shapes, is_list, many, maybe, one, with_holes}
use Rattle.ecma_forest.proofs.Induction.{by_children}
use Rattle.ecma_rules.specs.Children.{kind_of}
use Rattle.ecma_rules.specs.Failing.{failing_here, first_failing}
use Rattle.ecma_rules.specs.Targets.{is_simple_target}
use Rattle.ecma_fits.specs.declared.role.Role.{Role}
use Rattle.ecma_fits.specs.declared.role.Role.TheVariants as role
use Rattle.ecma_fits.specs.declared.unfit.Where.{Where}
use Rattle.ecma_fits.specs.Fitting.{where_in}
use Rattle.ecma_fits.specs.Roles.{is_out_of_role, is_wrong_name, may_be, role_in, takes}
use Rattle.ecma_strip_fits.proofs.Strays.{not_failing}
use Rattle.ecma_bind_fits.proofs.Bound.{parts_none}
use Rattle.ecma_interface_laws.proofs.Alike.{children_of}
use Rattle.ecma_interface_laws.proofs.Telling.{shapes_of}

-- a name that is bound, by its identifier and its annotation
pub record Name (n : Node) : Type 0 where
  pub ident : Node
  pub annotation : Node
  pub sym : List ℕ
  pub ctxt : ℕ
  pub optional : Bool
  pub named : kind_of n ≡ kind.BindingIdent
  pub parts : children_of n ≡ ident ∷ annotation ∷ []
  pub says : kind_of ident ≡ kind.Ident sym ctxt optional
  pub alone : children_of ident ≡ []
  pub no_this : bytes_eq sym (codes "this") ≡ false

mutual
  pub data Pattern : Node → Type 0 where
    hole : {n : Node} → kind_of n ≡ kind.Absent → Pattern n
    name : {n : Node} → Name n → Pattern n
    array : {n : Node} (l t : Node) (o : Bool) → kind_of n ≡ kind.ArrayPat o → children_of n ≡ l ∷ t ∷ [] → kind_of l ≡ kind.List → Patterns (children_of l) → Pattern n
    object : {n : Node} (l t : Node) (o : Bool) → kind_of n ≡ kind.ObjectPat o → children_of n ≡ l ∷ t ∷ [] → kind_of l ≡ kind.List → Patterns (children_of l) → Pattern n
    rest : {n : Node} (p t : Node) → kind_of n ≡ kind.RestPat → children_of n ≡ p ∷ t ∷ [] → Pattern p → Pattern n
    assign : {n : Node} (p v : Node) → kind_of n ≡ kind.AssignPat → children_of n ≡ p ∷ v ∷ [] → Pattern p → Pattern n
    property : {n : Node} (key p : Node) → kind_of n ≡ kind.KeyValuePatProp → children_of n ≡ key ∷ p ∷ [] → Pattern p → Pattern n
    shorthand : {n : Node} (p v : Node) → kind_of n ≡ kind.AssignPatProp → children_of n ≡ p ∷ v ∷ [] → Name p → Pattern n

  pub data Patterns : List Node → Type 0 where
    none : Patterns []
    more : {n : Node} {ns : List Node} → Pattern n → Patterns ns → Patterns (n ∷ ns)

-- ---- roles

abbrev pub is_declaring : Role → Bool
is_declaring role.Declared = true
is_declaring role.DeclaredValue = true
is_declaring role.DeclaredElement = true
is_declaring role.DeclaredName = true
is_declaring _ = false

-- what such a role allows
abbrev is_bound : Kind → Bool
is_bound kind.BindingIdent = true
is_bound (kind.ArrayPat optional) = true
is_bound (kind.ObjectPat optional) = true
is_bound kind.AssignPat = true
is_bound kind.RestPat = true
is_bound kind.Absent = true
is_bound _ = false

declared_kind : (k : Kind) (b : Bool) → (may_be role.Declared k || (takes role.Declared k && b)) ≡ true → is_bound k ≡ true
unfolding may_be takes
declared_kind kind.BindingIdent b h = refl
declared_kind (kind.ArrayPat optional) b h = refl
declared_kind (kind.ObjectPat optional) b h = refl
declared_kind kind.Absent b h = refl
declared_kind _ b h = cc

value_kind : (k : Kind) (b : Bool) → (may_be role.DeclaredValue k || (takes role.DeclaredValue k && b)) ≡ true → is_bound k ≡ true
unfolding may_be takes
value_kind kind.BindingIdent b h = refl
value_kind (kind.ArrayPat optional) b h = refl
value_kind (kind.ObjectPat optional) b h = refl
value_kind kind.AssignPat b h = refl
value_kind _ b h = cc

element_kind : (k : Kind) (b : Bool) → (may_be role.DeclaredElement k || (takes role.DeclaredElement k && b)) ≡ true → is_bound k ≡ true
unfolding may_be takes
element_kind kind.BindingIdent b h = refl
element_kind (kind.ArrayPat optional) b h = refl
element_kind (kind.ObjectPat optional) b h = refl
element_kind kind.AssignPat b h = refl
element_kind kind.RestPat b h = refl
element_kind kind.Absent b h = refl
element_kind _ b h = cc

name_kind : (k : Kind) (b : Bool) → (may_be role.DeclaredName k || (takes role.DeclaredName k && b)) ≡ true → k ≡ kind.BindingIdent
unfolding may_be takes
name_kind kind.BindingIdent b h = refl
name_kind _ b h = cc

bound_kind : (r : Role) → is_declaring r ≡ true → (k : Kind) (b : Bool) → (may_be r k || (takes r k && b)) ≡ true → is_bound k ≡ true
bound_kind role.Declared d k b h = declared_kind k b h
bound_kind role.DeclaredValue d k b h = value_kind k b h
bound_kind role.DeclaredElement d k b h = element_kind k b h
bound_kind role.DeclaredName d k b h = ap is_bound (name_kind k b h)
bound_kind _ d k b h = cc

-- the roles of the parts of what is declared
record Parts (r : Role) : Type 0 where
  ident : role_in r kind.BindingIdent 0 ≡ role.Free
  elements : (o : Bool) → role_in r (kind.ArrayPat o) 0 ≡ role.DeclaredElements
  properties : (o : Bool) → role_in r (kind.ObjectPat o) 0 ≡ role.DeclaredProperties
  bound : role_in r kind.AssignPat 0 ≡ role.Declared
  others : role_in r kind.RestPat 0 ≡ role.Declared

parts_in : (r : Role) → is_declaring r ≡ true → Parts r
unfolding role_in
parts_in role.Declared d = record { ident = refl; elements = λ o. refl; properties = λ o. refl; bound = refl; others = refl }
parts_in role.DeclaredValue d = record { ident = refl; elements = λ o. refl; properties = λ o. refl; bound = refl; others = refl }
parts_in role.DeclaredElement d = record { ident = refl; elements = λ o. refl; properties = λ o. refl; bound = refl; others = refl }
parts_in role.DeclaredName d = record { ident = refl; elements = λ o. refl; properties = λ o. refl; bound = refl; others = refl }
parts_in _ d = cc

value_role : role_in role.DeclaredProperty kind.KeyValuePatProp 1 ≡ role.DeclaredValue
unfolding role_in
value_role = refl

name_role : role_in role.DeclaredProperty kind.AssignPatProp 0 ≡ role.DeclaredName
unfolding role_in
name_role = refl

rest_role : role_in role.DeclaredProperty kind.RestPat 0 ≡ role.DeclaredName
unfolding role_in
rest_role = refl

element_role : (i : ℕ) → role_in role.DeclaredElements kind.List i ≡ role.DeclaredElement
unfolding role_in
element_role i = refl

property_role : (i : ℕ) → role_in role.DeclaredProperties kind.List i ≡ role.DeclaredProperty
unfolding role_in
property_role i = refl

-- ---- `this` is reserved

this_reserved : is_reserved (codes "this") ≡ true
unfolding is_reserved reserved_words
this_reserved = refl

not_this : (w : List ℕ) → is_reserved w ≡ false → bytes_eq w (codes "this") ≡ false
not_this w free = go (bytes_eq w (codes "this")) refl
  where
    go : (b : Bool) → bytes_eq w (codes "this") ≡ b → b ≡ false
    go true e = absurd (false≢true (sym free ∙ (ap is_reserved ((bytes_eq-Decides w (codes "this")).0 e) ∙ this_reserved)))
    go false e = refl

-- ---- where nothing is out of its role

abbrev pub out_here : Where → Node → Option ℕ
out_here w n = failing_here (is_out_of_role w.role n) n

abbrev pub Stands : Node → Where → Type 0
Stands n w = first_failing Where out_here where_in n w ≡ None

or_false : (a b : Bool) → (a || not b) ≡ false → (a ≡ false) × (b ≡ true)
or_false true b h = cc
or_false false true h = (refl, refl)
or_false false false h = cc

-- what stands there has a right name, and is what it may be
pub stands_here : (n : Node) (w : Where) → Stands n w → (is_wrong_name w.role (kind_of n) ≡ false) × ((may_be w.role (kind_of n) || (takes w.role (kind_of n) && is_simple_target n)) ≡ true)
stands_here n w h =
    or_false (is_wrong_name w.role (kind_of n)) (may_be w.role (kind_of n) || (takes w.role (kind_of n) && is_simple_target n))
    (not_failing (is_out_of_role w.role n) n (parts_none Where out_here where_in n w h).0)

pub stands_below : (n : Node) (w : Where) → Stands n w → (i : ℕ) (c : Node) → slice_get (children_of n) i ≡ Some c → Stands c (where_in w n i)
stands_below n w h = (parts_none Where out_here where_in n w h).1

-- ---- children of nodes of these shapes

abbrev Two : Shape → Shape → Node → Type 0
Two s t n = (a b : Node) × (children_of n ≡ a ∷ b ∷ []) × HasShape s a × HasShape t b

two_of : (s t : Shape) (n : Node) (cs : List Node) → children_of n ≡ cs → HaveShapes (s ∷ t ∷ []) cs → Two s t n
two_of s t n [] e h = absurd h
two_of s t n (a ∷ []) e h = absurd h.1
two_of s t n (a ∷ b ∷ []) e h = (a, b, e, h.0, h.1.0)
two_of s t n (a ∷ b ∷ c ∷ cs) e h = absurd h.1.1

shapes_at : (n : Node) (o : Shape) → HasShape o n → (k : Kind) → kind_of n ≡ k → HaveShapes (child_shapes k o (length (children_of n))) (children_of n)
shapes_at n o h k e = subst (λ (z : Kind). HaveShapes (child_shapes z o (length (children_of n))) (children_of n)) e (shapes_of n o h).1

only_list : (k : Kind) → is_list k ≡ true → k ≡ kind.List
only_list kind.List l = refl
only_list _ l = cc

-- an identifier
pub record Ident (n : Node) : Type 0 where
  pub sym : List ℕ
  pub ctxt : ℕ
  pub optional : Bool
  pub says : kind_of n ≡ kind.Ident sym ctxt optional
  pub alone : children_of n ≡ []

empty_of : (cs : List Node) → HaveShapes [] cs → cs ≡ []
empty_of [] h = refl
empty_of (c ∷ cs) h = absurd h

pub ident_of : (n : Node) → HasShape (one sort.Ident) n → Ident n
ident_of n h = by (kind_of n) refl (shapes_of n (one sort.Ident) h).0
  where
    by : (k : Kind) → kind_of n ≡ k → belongs sort.Ident k ≡ true → Ident n
    by (kind.Ident s c o) e b = record { sym = s; ctxt = c; optional = o; says = e; alone = empty_of (children_of n) (shapes_at n (one sort.Ident) h (kind.Ident s c o) e) }
    by _ e b = cc

wrong_free : (k : Kind) (s : List ℕ) (c : ℕ) (o : Bool) → k ≡ kind.Ident s c o → is_wrong_name role.Free k ≡ false → is_reserved s ≡ false
wrong_free k s c o e h = ap (is_wrong_name role.Free) (sym e) ∙ h

-- the name that a pattern of its kind is
name_in : (n : Node) → Pattern n → kind_of n ≡ kind.BindingIdent → Name n
name_in n (hole e) k = cc
name_in n (name x) k = x
name_in n (array l t o e is list all) k = cc
name_in n (object l t o e is list all) k = cc
name_in n (rest p t e is q) k = cc
name_in n (assign p v e is q) k = cc
name_in n (property key p e is q) k = cc
name_in n (shorthand p v e is q) k = cc

item_at : (o : Shape) (cs : List Node) → HaveShapes (replicate (length cs) o) cs → (i : ℕ) (c : Node) → slice_get cs i ≡ Some c → HasShape o c
item_at o [] h i c at = cc
item_at o (x ∷ xs) h zero c at = let same_node : x ≡ c = cc in subst (HasShape o) same_node h.0
item_at o (x ∷ xs) h (suc i) c at = item_at o xs h.1 i c at

-- ---- patterns

-- what stands where a pattern is declared, a property of one, and the lists of elements and of properties
abbrev Declares : Node → Type 0
Declares n = (s : Shape) (w : Where) → HasShape s n → Stands n w → is_declaring w.role ≡ true → Pattern n

abbrev Property : Node → Type 0
Property n = (w : Where) → HasShape (one sort.ObjectPatProp) n → Stands n w → w.role ≡ role.DeclaredProperty → Pattern n

abbrev Elements : Node → Type 0
Elements n = (w : Where) → HasShape (with_holes sort.Pat) n → Stands n w → w.role ≡ role.DeclaredElements → (kind_of n ≡ kind.List) × Patterns (children_of n)

abbrev Properties : Node → Type 0
Properties n = (w : Where) → HasShape (many sort.ObjectPatProp) n → Stands n w → w.role ≡ role.DeclaredProperties → (kind_of n ≡ kind.List) × Patterns (children_of n)

record Declared (n : Node) : Type 0 where
  declares : Declares n
  property : Property n
  elements : Elements n
  properties : Properties n

module _ (n : Node) (below : (i : ℕ) (c : Node) → slice_get (children_of n) i ≡ Some c → Declared c) where
  first_at : (a b : Node) → children_of n ≡ a ∷ b ∷ [] → slice_get (children_of n) 0 ≡ Some a
  first_at a b e = ap (λ (z : List Node). slice_get z 0) e

  second_at : (a b : Node) → children_of n ≡ a ∷ b ∷ [] → slice_get (children_of n) 1 ≡ Some b
  second_at a b e = ap (λ (z : List Node). slice_get z 1) e

  role_at : (w : Where) (k : Kind) → kind_of n ≡ k → (i : ℕ) → role_in w.role (kind_of n) i ≡ role_in w.role k i
  role_at w k e i = ap (λ z. role_in w.role z i) e

  name_from : (s : Shape) (w : Where) → HasShape s n → Stands n w → is_declaring w.role ≡ true → kind_of n ≡ kind.BindingIdent → Name n
  name_from s w h stands d e =
      let t = two_of (one sort.Ident) (maybe sort.TsTypeAnn) n (children_of n) refl (shapes_at n s h kind.BindingIdent e) in
      let i = ident_of t.0 t.3 in
      let free = role_at w kind.BindingIdent e 0 ∙ (parts_in w.role d).ident in
      let right = (stands_here t.0 (where_in w n 0) (stands_below n w stands 0 t.0 (first_at t.0 t.1 t.2))).0 in
      let unreserved = wrong_free (kind_of t.0) i.sym i.ctxt i.optional i.says (ap (λ r. is_wrong_name r (kind_of t.0)) (sym free) ∙ right) in
      record { ident = t.0; annotation = t.1; sym = i.sym; ctxt = i.ctxt; optional = i.optional; named = e; parts = t.2; says = i.says; alone = i.alone; no_this = not_this i.sym unreserved }

  pattern_from : (s : Shape) (w : Where) → HasShape s n → Stands n w → is_declaring w.role ≡ true → (k : Kind) → kind_of n ≡ k → is_bound k ≡ true → Pattern n
  pattern_from s w h stands d kind.Absent e b = hole e
  pattern_from s w h stands d kind.BindingIdent e b = name (name_from s w h stands d e)
  pattern_from s w h stands d (kind.ArrayPat o) e b =
      let t = two_of (with_holes sort.Pat) (maybe sort.TsTypeAnn) n (children_of n) refl (shapes_at n s h (kind.ArrayPat o) e) in
      let at = first_at t.0 t.1 t.2 in
      let l = (below 0 t.0 at).elements (where_in w n 0) t.3 (stands_below n w stands 0 t.0 at) (role_at w (kind.ArrayPat o) e 0 ∙ (parts_in w.role d).elements o) in
      array t.0 t.1 o e t.2 l.0 l.1
  pattern_from s w h stands d (kind.ObjectPat o) e b =
      let t = two_of (many sort.ObjectPatProp) (maybe sort.TsTypeAnn) n (children_of n) refl (shapes_at n s h (kind.ObjectPat o) e) in
      let at = first_at t.0 t.1 t.2 in
      let l = (below 0 t.0 at).properties (where_in w n 0) t.3 (stands_below n w stands 0 t.0 at) (role_at w (kind.ObjectPat o) e 0 ∙ (parts_in w.role d).properties o) in
      object t.0 t.1 o e t.2 l.0 l.1
  pattern_from s w h stands d kind.RestPat e b =
      let t = two_of (one sort.Pat) (maybe sort.TsTypeAnn) n (children_of n) refl (shapes_at n s h kind.RestPat e) in
      let at = first_at t.0 t.1 t.2 in
      rest t.0 t.1 e t.2
      ((below 0 t.0 at).declares (one sort.Pat) (where_in w n 0) t.3 (stands_below n w stands 0 t.0 at) (ap is_declaring (role_at w kind.RestPat e 0 ∙ (parts_in w.role d).others)))
  pattern_from s w h stands d kind.AssignPat e b =
      let t = two_of (one sort.Pat) (one sort.Expr) n (children_of n) refl (shapes_at n s h kind.AssignPat e) in
      let at = first_at t.0 t.1 t.2 in
      assign t.0 t.1 e t.2
      ((below 0 t.0 at).declares (one sort.Pat) (where_in w n 0) t.3 (stands_below n w stands 0 t.0 at) (ap is_declaring (role_at w kind.AssignPat e 0 ∙ (parts_in w.role d).bound)))
  pattern_from s w h stands d _ e b = cc

  declares_at : Declares n
  declares_at s w h stands d = pattern_from s w h stands d (kind_of n) refl (bound_kind w.role d (kind_of n) (is_simple_target n) (stands_here n w stands).1)

  property_from : (w : Where) → HasShape (one sort.ObjectPatProp) n → Stands n w → w.role ≡ role.DeclaredProperty → (k : Kind) → kind_of n ≡ k → belongs sort.ObjectPatProp k ≡ true → Pattern n
  property_from w h stands r kind.KeyValuePatProp e b =
      let t = two_of (one sort.PropName) (one sort.Pat) n (children_of n) refl (shapes_at n (one sort.ObjectPatProp) h kind.KeyValuePatProp e) in
      let at = second_at t.0 t.1 t.2 in
      property t.0 t.1 e t.2
      ((below 1 t.1 at).declares (one sort.Pat) (where_in w n 1) t.4 (stands_below n w stands 1 t.1 at) (ap is_declaring (role_at w kind.KeyValuePatProp e 1 ∙ ap (λ z. role_in z kind.KeyValuePatProp 1) r ∙ value_role)))
  property_from w h stands r kind.AssignPatProp e b =
      let t = two_of (one sort.BindingIdent) (maybe sort.Expr) n (children_of n) refl (shapes_at n (one sort.ObjectPatProp) h kind.AssignPatProp e) in
      let at = first_at t.0 t.1 t.2 in
      let role_is : role_in w.role (kind_of n) 0 ≡ role.DeclaredName = role_at w kind.AssignPatProp e 0 ∙ ap (λ z. role_in z kind.AssignPatProp 0) r ∙ name_role in
      let stand = stands_below n w stands 0 t.0 at in
      let named : kind_of t.0 ≡ kind.BindingIdent =
      name_kind (kind_of t.0) (is_simple_target t.0) (ap (λ z. may_be z (kind_of t.0) || (takes z (kind_of t.0) && is_simple_target t.0)) (sym role_is) ∙ (stands_here t.0 (where_in w n 0) stand).1) in
      shorthand t.0 t.1 e t.2 (name_in t.0 ((below 0 t.0 at).declares (one sort.BindingIdent) (where_in w n 0) t.3 stand (ap is_declaring role_is)) named)
  property_from w h stands r kind.RestPat e b =
      let t = two_of (one sort.Pat) (maybe sort.TsTypeAnn) n (children_of n) refl (shapes_at n (one sort.ObjectPatProp) h kind.RestPat e) in
      let at = first_at t.0 t.1 t.2 in
      rest t.0 t.1 e t.2
      ((below 0 t.0 at).declares (one sort.Pat) (where_in w n 0) t.3 (stands_below n w stands 0 t.0 at) (ap is_declaring (role_at w kind.RestPat e 0 ∙ ap (λ z. role_in z kind.RestPat 0) r ∙ rest_role)))
  property_from w h stands r _ e b = cc

  property_at : Property n
  property_at w h stands r = property_from w h stands r (kind_of n) refl (shapes_of n (one sort.ObjectPatProp) h).0

  each_pattern : (cs : List Node) → ((i : ℕ) (c : Node) → slice_get cs i ≡ Some c → Pattern c) → Patterns cs
  each_pattern [] all = none
  each_pattern (c ∷ cs) all = more (all 0 c refl) (each_pattern cs (λ i x at. all (suc i) x at))

  elements_at : Elements n
  elements_at w h stands r =
      let is = only_list (kind_of n) (shapes_of n (with_holes sort.Pat) h).0 in (
        is,
        each_pattern (children_of n) (λ i c at.
            (below i c at).declares (maybe sort.Pat) (where_in w n i) (item_at (maybe sort.Pat) (children_of n) (shapes_at n (with_holes sort.Pat) h kind.List is) i c at) (stands_below n w stands i c at)
            (ap is_declaring (role_at w kind.List is i ∙ ap (λ z. role_in z kind.List i) r ∙ element_role i))),
      )

  properties_at : Properties n
  properties_at w h stands r =
      let is = only_list (kind_of n) (shapes_of n (many sort.ObjectPatProp) h).0 in (
        is,
        each_pattern (children_of n) (λ i c at.
            (below i c at).property (where_in w n i) (item_at (one sort.ObjectPatProp) (children_of n) (shapes_at n (many sort.ObjectPatProp) h kind.List is) i c at) (stands_below n w stands i c at)
            (role_at w kind.List is i ∙ ap (λ z. role_in z kind.List i) r ∙ property_role i)),
      )

  declared_at : Declared n
  declared_at = record { declares = declares_at; property = property_at; elements = elements_at; properties = properties_at }

declared : (n : Node) → Declared n
declared = by_children Declared declared_at

-- what is declared where nothing is out of its role is a pattern
pub pattern_of : (n : Node) (s : Shape) (w : Where) → HasShape s n → Stands n w → is_declaring w.role ≡ true → Pattern n
pattern_of n = (declared n).declares
