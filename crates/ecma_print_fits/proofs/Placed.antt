-- In what fits, patterns stand where they may.
use Rattle.std.proofs.Common.{◌≡◌, ◌∙◌, ◌⊎◌, inl, inr, ℕ, suc, Bool, true, false, cond, List, [], ◌∷◌, map, length, refl, sym, ap, subst}
use Rattle.ecma_kind.specs.Sorts.{belongs}
use Rattle.ecma_kind.specs.declared.span.Span.{Span}
use Rattle.ecma_kind.specs.declared.kind.Kind.{Kind}
use Rattle.ecma_kind.specs.declared.kind.Kind.TheVariants as kind
use Rattle.ecma_kind.specs.declared.shapes.Shape.{Shape}
use Rattle.ecma_kind.specs.declared.shapes.Sort.TheVariants as sort
use Rattle.ecma_tree.specs.declared.node.Node.{Node, Node-F, ind-Node, out-Node, roll-Node}
use Rattle.ecma_tree.specs.declared.node.Node.TheViews.{roll-out-Node}
use Rattle.ecma_tree.specs.Laws.{HaveShapes}
use Rattle.ecma_tree.specs.Nodes.{node_of}
use Rattle.ecma_tree.specs.Sorted.{HasShape, child_shapes, is_absent, maybe, one}
use Rattle.ecma_rules.specs.declared.target.Target.{Target}
use Rattle.ecma_rules.specs.declared.target.Target.TheVariants as target
use Rattle.ecma_rules.specs.Children.{kind_of}
use Rattle.ecma_rules.specs.Targets.{takes_patterns, target_in}
use Rattle.ecma_covers.specs.Placing.{EachStands, Stands, binds}
use Rattle.ecma_covers.specs.Placing as place
use Rattle.ecma_fits.specs.declared.role.Role.{Role}
use Rattle.ecma_fits.specs.declared.role.Role.TheVariants as role
use Rattle.ecma_fits.specs.declared.unfit.Where.{Where}
use Rattle.ecma_fits.specs.Fitting.{at_top}
use Rattle.ecma_fits.specs.Roles.{is_assigned, role_in}
use Rattle.ecma_fits.proofs.Clauses.{none_unfit}
use Rattle.ecma_print_fits.specs.Laws.{WhatFitsStands, is_optional_pattern}
use Rattle.ecma_print_fits.proofs.Parts.{AllFit, AllLack, Fit, IsMissing, IsName, Lacks, fitting, is_missing, is_name, kind_allowed, lacking, not_true, nothing_stands, shape_made, where_by}
use Rattle.ecma_print_fits.proofs.Roles.{AllSuit, Way, array, asked, bound, default, itself, key_value, object, property_kind, rest_element, rest_property, short, suited, suits, target_of, way_of}

each_alike : (f g : ℕ → Target) → ((i : ℕ) → f i ≡ g i) → {ns : List Node} → EachStands f ns → EachStands g ns
each_alike f g e place.none = place.none
each_alike f g e (place.more {n} s rest) = place.more (subst (λ t. Stands t n) (e 0) s) (each_alike (λ i. f (suc i)) (λ i. g (suc i)) (λ i. e (suc i)) rest)

first_of : {f : ℕ → Target} {n : Node} {ns : List Node} → EachStands f (n ∷ ns) → Stands (f 0) n
first_of (place.more s rest) = s

others_of : {f : ℕ → Target} {n : Node} {ns : List Node} → EachStands f (n ∷ ns) → EachStands (λ i. f (suc i)) ns
others_of (place.more s rest) = rest

-- what is known of the children of a node
module _ (w : Where) (o : Shape) (at : Span) where
  abbrev parts : Kind → List Node → Node-F Node
  parts k cs = record { span = at; kind = k; children = cs }

  record Known (k : Kind) (cs : List Node) : Type 0 where
    have : HaveShapes (child_shapes k o (length cs)) cs
    fit : AllFit (where_by w (parts k cs)) cs
    stand : EachStands (λ i. target_of (role_in w.role k i)) cs

  abbrev Stand : Kind → List Node → Type 0
  Stand k cs = Stands (target_of w.role) (node_of at k cs)

  -- what is assigned to has no type
  bare : (b : Bool) (n : Node) (u : Where) (s : Shape) → u.role ≡ cond b role.Nothing role.Free → b ≡ true → HasShape s n → Fit u n → IsMissing n
  bare b n u s is h shape fit = nothing_stands n u s (is ∙ ap (λ b. cond b role.Nothing role.Free) h) shape fit

  array_stands : (optional : Bool) (cs : List Node) → optional ≡ false → takes_patterns (target_of w.role) ≡ true → is_assigned w.role ≡ true → Known (kind.ArrayPat optional) cs → Stand (kind.ArrayPat optional) cs
  unfolding role_in
  array_stands optional [] e p a known = absurd known.have
  array_stands optional (n ∷ []) e p a known = absurd known.have.1
  array_stands optional (n ∷ m ∷ []) e p a known =
      let none = bare (is_assigned w.role) m (where_by w (parts (kind.ArrayPat optional) (n ∷ m ∷ [])) 1) (maybe sort.TsTypeAnn) refl a known.have.1.0 known.fit.1.0 in
      let elements : Stands target.Elements n = subst (λ b. Stands (target_of (cond b role.AssignedElements role.DeclaredElements)) n) a (first_of known.stand) in
      subst (λ (m : Node). Stand (kind.ArrayPat optional) (n ∷ m ∷ [])) (sym none.1)
      (subst (λ z. Stand (kind.ArrayPat z) (n ∷ node_of none.0 kind.Absent [] ∷ [])) (sym e) (place.array p at none.0 elements))
  array_stands optional (n ∷ m ∷ l ∷ cs) e p a known = absurd known.have.1.1

  object_stands : (optional : Bool) (cs : List Node) → optional ≡ false → takes_patterns (target_of w.role) ≡ true → is_assigned w.role ≡ true → Known (kind.ObjectPat optional) cs → Stand (kind.ObjectPat optional) cs
  unfolding role_in
  object_stands optional [] e p a known = absurd known.have
  object_stands optional (n ∷ []) e p a known = absurd known.have.1
  object_stands optional (n ∷ m ∷ []) e p a known =
      let none = bare (is_assigned w.role) m (where_by w (parts (kind.ObjectPat optional) (n ∷ m ∷ [])) 1) (maybe sort.TsTypeAnn) refl a known.have.1.0 known.fit.1.0 in
      let properties : Stands target.Properties n = subst (λ b. Stands (target_of (cond b role.AssignedProperties role.DeclaredProperties)) n) a (first_of known.stand) in
      subst (λ (m : Node). Stand (kind.ObjectPat optional) (n ∷ m ∷ [])) (sym none.1)
      (subst (λ z. Stand (kind.ObjectPat z) (n ∷ node_of none.0 kind.Absent [] ∷ [])) (sym e) (place.object p at none.0 properties))
  object_stands optional (n ∷ m ∷ l ∷ cs) e p a known = absurd known.have.1.1

  -- a name that is bound where something is assigned to
  binding_is : (cs : List Node) → is_assigned w.role ≡ true → HaveShapes (child_shapes kind.BindingIdent o (length cs)) cs → AllFit (where_by w (parts kind.BindingIdent cs)) cs
      → (name : Node) × IsName name × (of_type : Span) × (cs ≡ name ∷ node_of of_type kind.Absent [] ∷ [])
  unfolding role_in
  binding_is [] a have fit = absurd have
  binding_is (n ∷ []) a have fit = absurd have.1
  binding_is (n ∷ m ∷ []) a have fit =
      let none = bare (is_assigned w.role) m (where_by w (parts kind.BindingIdent (n ∷ m ∷ [])) 1) (maybe sort.TsTypeAnn) refl a have.1.0 fit.1.0 in
      (n, is_name n have.0, none.0, ap (λ (m : Node). n ∷ m ∷ []) none.1)
  binding_is (n ∷ m ∷ l ∷ cs) a have fit = absurd have.1.1

  bound_stands : (cs : List Node) → binds (target_of w.role) ≡ true → is_assigned w.role ≡ true → Known kind.BindingIdent cs → Stand kind.BindingIdent cs
  bound_stands cs b a known =
      let is = binding_is cs a known.have known.fit in
      let name = is.1 in
      subst (Stand kind.BindingIdent) (sym is.3)
      (subst (λ (n : Node). Stand kind.BindingIdent (n ∷ node_of is.2 kind.Absent [] ∷ [])) (sym name.4) (place.bound b at name.0 is.2 name.1 name.2 name.3))

  default_stands : (cs : List Node) → (w.role ≡ role.AssignedElement) ⊎ (w.role ≡ role.AssignedValue) → Known kind.AssignPat cs → Stand kind.AssignPat cs
  unfolding role_in
  default_stands [] e known = absurd known.have
  default_stands (n ∷ []) e known = absurd known.have.1
  default_stands (n ∷ m ∷ []) (inl e) known =
      subst (λ r. Stands (target_of r) (node_of at kind.AssignPat (n ∷ m ∷ []))) (sym e)
      (place.default at (subst (λ r. Stands (target_of (role_in r kind.AssignPat 0)) n) e (first_of known.stand)) (first_of (others_of known.stand)))
  default_stands (n ∷ m ∷ []) (inr e) known =
      subst (λ r. Stands (target_of r) (node_of at kind.AssignPat (n ∷ m ∷ []))) (sym e)
      (place.default at (subst (λ r. Stands (target_of (role_in r kind.AssignPat 0)) n) e (first_of known.stand)) (first_of (others_of known.stand)))
  default_stands (n ∷ m ∷ l ∷ cs) e known = absurd known.have.1.1

  -- what takes the rest has no type either
  rest_is : (cs : List Node) (r : Role) → w.role ≡ r → is_assigned r ≡ true → Known kind.RestPat cs
      → (part : Node) × (of_type : Span) × (cs ≡ part ∷ node_of of_type kind.Absent [] ∷ []) × Stands (target_of (role_in r kind.RestPat 0)) part
  unfolding role_in
  rest_is [] r e a known = absurd known.have
  rest_is (n ∷ []) r e a known = absurd known.have.1
  rest_is (n ∷ m ∷ []) r e a known =
      let none = bare (is_assigned w.role) m (where_by w (parts kind.RestPat (n ∷ m ∷ [])) 1) (maybe sort.TsTypeAnn) refl (ap is_assigned e ∙ a) known.have.1.0 known.fit.1.0 in
      (n, none.0, ap (λ (m : Node). n ∷ m ∷ []) none.1, subst (λ r. Stands (target_of (role_in r kind.RestPat 0)) n) e (first_of known.stand))
  rest_is (n ∷ m ∷ l ∷ cs) r e a known = absurd known.have.1.1

  rest_element_stands : (cs : List Node) → w.role ≡ role.AssignedElement → Known kind.RestPat cs → Stand kind.RestPat cs
  unfolding role_in
  rest_element_stands cs e known =
      let is = rest_is cs role.AssignedElement e refl known in
      subst (λ r. Stands (target_of r) (node_of at kind.RestPat cs)) (sym e)
      (subst (λ (z : List Node). Stands target.Element (node_of at kind.RestPat z)) (sym is.2) (place.rest_element at is.1 is.3))

  rest_property_stands : (cs : List Node) → w.role ≡ role.AssignedProperty → Known kind.RestPat cs → Stand kind.RestPat cs
  unfolding role_in
  rest_property_stands cs e known =
      let is = rest_is cs role.AssignedProperty e refl known in
      subst (λ r. Stands (target_of r) (node_of at kind.RestPat cs)) (sym e)
      (subst (λ (z : List Node). Stands target.Property (node_of at kind.RestPat z)) (sym is.2) (place.rest_property at is.1 is.3))

  key_value_stands : (cs : List Node) → w.role ≡ role.AssignedProperty → Known kind.KeyValuePatProp cs → Stand kind.KeyValuePatProp cs
  unfolding role_in
  key_value_stands [] e known = absurd known.have
  key_value_stands (n ∷ []) e known = absurd known.have.1
  key_value_stands (n ∷ m ∷ []) e known =
      subst (λ r. Stands (target_of r) (node_of at kind.KeyValuePatProp (n ∷ m ∷ []))) (sym e)
      (place.key_value at (first_of known.stand) (subst (λ r. Stands (target_of (role_in r kind.KeyValuePatProp 1)) m) e (first_of (others_of known.stand))))
  key_value_stands (n ∷ m ∷ l ∷ cs) e known = absurd known.have.1.1

-- a name that is bound, without a type
abbrev IsBinding : Node → Type 0
IsBinding n = (of_binding : Span) × (of_name : Span) × (of_type : Span) × (text : List ℕ) × (ctxt : ℕ) × (optional : Bool)
    × (n ≡ node_of of_binding kind.BindingIdent (node_of of_name (kind.Ident text ctxt optional) [] ∷ node_of of_type kind.Absent [] ∷ []))

binding_made : (u : Where) (o : Shape) (at : Span) (k : Kind) (cs : List Node) → belongs sort.BindingIdent k ≡ true → is_assigned u.role ≡ true → HaveShapes (child_shapes k o (length cs)) cs
    → AllFit (where_by u (record { span = at; kind = k; children = cs })) cs → IsBinding (node_of at k cs)
binding_made u o at kind.BindingIdent cs b a have fit =
    let is = binding_is u o at cs a have fit in
    let name = is.1 in
    (at, name.0, is.2, name.1, name.2, name.3, ap (node_of at kind.BindingIdent) (is.3 ∙ ap (λ (n : Node). n ∷ node_of is.2 kind.Absent [] ∷ []) name.4))
binding_made u o at _ cs b a have fit = not_true b

is_bound : (u : Where) (n : Node) → is_assigned u.role ≡ true → HasShape (one sort.BindingIdent) n → Fit u n → IsBinding n
is_bound u n a h fit =
    let x = out-Node n in
    let t = shape_made x (one sort.BindingIdent) (subst (HasShape (one sort.BindingIdent)) (sym (roll-out-Node n)) h) in
    let below = (fitting x u (subst (Fit u) (sym (roll-out-Node n)) fit)).below in
    subst IsBinding (roll-out-Node n) (binding_made u (one sort.BindingIdent) x.span x.kind x.children t.0 a t.1 below)

module _ (w : Where) (o : Shape) (at : Span) where
  short_made : (n m : Node) (b : Bool) → is_absent (kind_of m) ≡ b → IsBinding n → HasShape (maybe sort.Expr) m → Stands target.Free m → Stands target.Property (node_of at kind.AssignPatProp (n ∷ m ∷ []))
  short_made n m true e is h s =
      let none = is_missing m (maybe sort.Expr) e h in
      subst (λ (n : Node). Stands target.Property (node_of at kind.AssignPatProp (n ∷ m ∷ []))) (sym is.6)
      (subst (λ (m : Node). Stands target.Property (node_of at kind.AssignPatProp (node_of is.0 kind.BindingIdent (node_of is.1 (kind.Ident is.3 is.4 is.5) [] ∷ node_of is.2 kind.Absent [] ∷ []) ∷ m ∷ []))) (sym none.1)
      (place.short at is.0 is.1 is.2 none.0 is.3 is.4 is.5))
  short_made n m false e is h s =
      subst (λ (n : Node). Stands target.Property (node_of at kind.AssignPatProp (n ∷ m ∷ []))) (sym is.6)
      (place.short_default at is.0 is.1 is.2 is.3 is.4 is.5 e s)

  short_stands : (cs : List Node) → w.role ≡ role.AssignedProperty → Known w o at kind.AssignPatProp cs → Stand w o at kind.AssignPatProp cs
  unfolding role_in
  short_stands [] e known = absurd known.have
  short_stands (n ∷ []) e known = absurd known.have.1
  short_stands (n ∷ m ∷ []) e known =
      let key = is_bound (where_by w (record { span = at; kind = kind.AssignPatProp; children = n ∷ m ∷ [] }) 0) n (ap (λ r. is_assigned (role_in r kind.AssignPatProp 0)) e) known.have.0 known.fit.0 in
      subst (λ r. Stands (target_of r) (node_of at kind.AssignPatProp (n ∷ m ∷ []))) (sym e)
      (short_made n m (is_absent (kind_of m)) refl key known.have.1.0 (first_of (others_of known.stand)))
  short_stands (n ∷ m ∷ l ∷ cs) e known = absurd known.have.1.1

  -- a node of a kind that may stand there, whose children stand where they may
  stands_so : (k : Kind) (cs : List Node) → is_optional_pattern k ≡ false → Way w.role k → Known w o at k cs → Stand w o at k cs
  stands_so k cs e (itself h d) known = place.other at k h (each_alike (λ i. target_of (role_in w.role k i)) (target_in (target_of w.role) k) (asked w.role k h d) known.stand)
  stands_so _ cs e (array optional p a) known = array_stands w o at optional cs e p a known
  stands_so _ cs e (object optional p a) known = object_stands w o at optional cs e p a known
  stands_so _ cs e (bound b a) known = bound_stands w o at cs b a known
  stands_so _ cs e (default r) known = default_stands w o at cs r known
  stands_so _ cs e (rest_element r) known = rest_element_stands w o at cs r known
  stands_so _ cs e (rest_property r) known = rest_property_stands w o at cs r known
  stands_so _ cs e (key_value r) known = key_value_stands w o at cs r known
  stands_so _ cs e (short r) known = short_stands cs r known

-- over the tree

abbrev Placed : Node → Type 0
Placed n = (w : Where) (o : Shape) → suits w.role o ≡ true → HasShape o n → Fit w n → Lacks is_optional_pattern n → Stands (target_of w.role) n

abbrev AllPlaced : List Node → Type 0
AllPlaced ns = (where_of : ℕ → Where) (os : List Shape) → AllSuit (λ i. (where_of i).role) os → HaveShapes os ns → AllFit where_of ns → AllLack is_optional_pattern ns → EachStands (λ i. target_of (where_of i).role) ns

all_placed : (es : List ((n : Node) × Placed n)) → AllPlaced (map (λ e. e.0) es)
all_placed [] where_of os suit have fit lack = place.none
all_placed (e ∷ es) where_of [] suit have fit lack = absurd have
all_placed (e ∷ es) where_of (o ∷ os) suit have fit lack =
    place.more (e.1 (where_of 0) o suit.0 have.0 fit.0 lack.0) (all_placed es (λ i. where_of (suc i)) os suit.1 have.1 fit.1 lack.1)

node_placed : (x : Node-F Node) → AllPlaced x.children → Placed (roll-Node x)
node_placed x below w o suit h fit lack =
    let f = fitting x w fit in
    let t = shape_made x o h in
    let l = lacking is_optional_pattern x lack in
    let way = way_of w.role x.kind (kind_allowed x w.role f.role) (λ e. property_kind o.count o.sort x.kind (subst (λ r. suits r o ≡ true) e suit) t.0) in
    stands_so w o x.span x.kind x.children l.0 way
    (record {
      have = t.1;
      fit = f.below;
      stand = below (where_by w x) (child_shapes x.kind o (length x.children)) (suited w.role x.kind o (length x.children) suit) t.1 f.below l.1;
    })

placed_in : (n : Node) → Placed n
placed_in = ind-Node Placed (λ x y is. node_placed x (subst (λ (z : Node-F Node). AllPlaced z.children) is (all_placed y.children)))

pub stands_placed : WhatFitsStands
stands_placed tree fits none =
    placed_in tree at_top (one sort.Module) refl fits.sorted (none_unfit tree fits) none

pub ruleset placed = (stands_placed)
