-- Where all that is TypeScript is types, it is so with bound names.
use Rattle.std.proofs.Common.{◌≡◌, ◌∙◌, ℕ, suc, Bool, true, false, not, ◌&&◌, ◌||◌, List, [], ◌∷◌, map, Some, refl, sym, ap, ap₂, slice_get}
use Rattle.std.specs.List.{list_any}
use Rattle.ecma_kind.specs.Sorts.{is_type_wrapper}
use Rattle.ecma_kind.specs.declared.kind.Kind.{Kind}
use Rattle.ecma_kind.specs.declared.kind.Kind.TheVariants as kind
use Rattle.ecma_tree.specs.declared.node.Node.{Node, Node-F, out-Node}
use Rattle.ecma_tree.specs.declared.node.Node.TheViews.{out-roll-Node}
use Rattle.ecma_tree.specs.Nodes.{absent}
use Rattle.ecma_tree.specs.Sorted.{is_list}
use Rattle.ecma_rules.specs.Children.{kind_of}
use Rattle.ecma_rules.specs.Finishing.{binding}
use Rattle.ecma_fits.specs.declared.role.Role.{Role}
use Rattle.ecma_fits.specs.Roles.{is_name, role_in}
use Rattle.ecma_strip.specs.Staying.{if_there, is_this, is_this_by, is_this_ident, is_this_param, is_this_param_by, stays}
use Rattle.ecma_sources.specs.TypesAlone.{adds_types_alone, adds_types_by, has_ambient_head, has_bodiless, has_stray_receiver, is_lone_receiver, is_lowered, is_receiver, lacks_body, lacks_body_by, staying_hold}
use Rattle.ecma_pipeline_runs.proofs.Nodes.{StaysIn, alone-below, alone-here, alone-made, alone-out, any-at, in-no-list, neither, no-stray}
use Rattle.ecma_bind.specs.Binding.{bound_at, is_name_under_types, is_typed_name, under_types}
use Rattle.ecma_bind_fits.proofs.Alike.{Same, any_where, bound_parts, kind_same, six_at, typed_kind, typed_parts, usual_children, usual_kind}
use Rattle.ecma_bind_fits.proofs.Bound.{bound_each, by_children, children_of, typed_is}
use Rattle.ecma_bind_fits.proofs.Names.{bare_is, front, under_name}
use Rattle.ecma_bind_fits.proofs.StayingItems.{bound_child, declared_same, first_same, ident_same, stays_before, this_usual, value_same, wrapper_param, wrapper_stays, wrapper_this}
use Rattle.ecma_tree.specs.Values.{is_value}

body_same : Same lacks_body
body_same n r = ap (lacks_body_by (kind_of (bound_at n r))) (value_same n r) ∙ kind_same Bool (λ k. lacks_body_by k (is_value n)) (refl, refl, refl, refl, refl, refl) n r

head_same : (k : Kind) (cs : List Node) (roles : ℕ → Role) → has_ambient_head k (bound_each roles cs) ≡ has_ambient_head k cs
head_same kind.ForStmt [] roles = refl
head_same kind.ForStmt (c ∷ cs) roles = declared_same c (roles 0)
head_same kind.ForInStmt [] roles = refl
head_same kind.ForInStmt (c ∷ cs) roles = declared_same c (roles 0)
head_same (kind.ForOfStmt is_await) [] roles = refl
head_same (kind.ForOfStmt is_await) (c ∷ cs) roles = declared_same c (roles 0)
head_same _ cs roles = refl

bodies_same : (cs : List Node) (roles : ℕ → Role) → list_any lacks_body (bound_each roles cs) ≡ list_any lacks_body cs
bodies_same cs roles = any_where lacks_body cs roles (λ i c at. body_same c (roles i))

bodiless_same : (k : Kind) (cs : List Node) (roles : ℕ → Role) → has_bodiless k (bound_each roles cs) ≡ has_bodiless k cs
bodiless_same kind.ExportDefaultDecl cs roles = refl
bodiless_same _ cs roles = bodies_same cs roles

-- ---- names `this`

wrapper_unlisted : (k : Kind) → is_type_wrapper k ≡ true → is_list k ≡ false
wrapper_unlisted = six_at Bool is_list false (refl, refl, refl, refl, refl, refl)

-- what has a type round it stands in no list
first_alone : (n : Node) → is_type_wrapper (kind_of n) ≡ true → adds_types_alone n ≡ true → (e : Node) → slice_get (children_of n) 0 ≡ Some e → adds_types_alone e ≡ true
first_alone n w h e at = alone-below n h 0 e at (in-no-list (kind_of n) e (wrapper_unlisted (kind_of n) w))

-- under types stands none
abbrev UnderOther : Node → Type 0
UnderOther n = adds_types_alone n ≡ true → is_name_under_types n ≡ true → is_type_wrapper (kind_of n) ≡ true → is_this_ident (kind_of (under_types n)) ≡ false

wrapped_stray : (k : Kind) (cs : List Node) → is_type_wrapper k ≡ true → has_stray_receiver k cs ≡ list_any is_receiver cs
wrapped_stray kind.List cs w = cc
wrapped_stray kind.Param cs w = cc
wrapped_stray kind.BindingIdent cs w = cc
wrapped_stray kind.SetterProp cs w = cc
wrapped_stray _ cs w = refl

under_other : (n : Node) → UnderOther n
under_other = by_children UnderOther (λ n below h named w.
    (let f = front n w named in
    by n below f.0 f.1 (first_alone n w h f.0 f.1) f.2 f.3
    ((neither (is_this_ident (kind_of f.0)) (is_this_param f.0) (any-at is_receiver (children_of n) 0 f.0 (sym (wrapped_stray (kind_of n) (children_of n) w) ∙ no-stray n h) f.1)).0)
    (is_type_wrapper (kind_of f.0)) refl))
  where
    by : (n : Node) → ((i : ℕ) (c : Node) → slice_get (children_of n) i ≡ Some c → UnderOther c) → (e : Node) → slice_get (children_of n) 0 ≡ Some e → adds_types_alone e ≡ true → is_name_under_types e ≡ true
        → under_types n ≡ under_types e → is_this_ident (kind_of e) ≡ false → (b : Bool) → is_type_wrapper (kind_of e) ≡ b → is_this_ident (kind_of (under_types n)) ≡ false
    by n below e at h named same other true w = ap (λ (z : Node). is_this_ident (kind_of z)) same ∙ below 0 e at h named w
    by n below e at h named same other false w = ap (λ (z : Node). is_this_ident (kind_of z)) (same ∙ bare_is e w) ∙ other

binding_this : (u : Node) → is_this_ident (kind_of u) ≡ false → is_this_param (binding u) ≡ false
binding_this u other =
    ap (λ (z : Node-F Node). is_this_param_by z.kind (binding u)) (bound_parts u)
    ∙ ap (λ (z : Node-F Node). is_this_by z.kind (binding u)) (bound_parts u)
    ∙ ap (λ (z : Node-F Node). if_there (slice_get z.children 0) (λ x. is_this_ident (kind_of x))) (bound_parts u) ∙ other

-- a name under types is no `this`, with its types and without them
typed_this : (n : Node) (r : Role) → adds_types_alone n ≡ true → is_typed_name r n ≡ true → (is_this_param (bound_at n r) ≡ false) × (is_this n ≡ false)
typed_this n r h t =
    let is = typed_parts n r t in (
      ap is_this_param (typed_is n r t) ∙ binding_this (under_types n) (under_other n h is.2 is.1),
      wrapper_this (kind_of n) n is.1,
    )

binding_lone : (m : Node) → kind_of m ≡ kind.BindingIdent → is_this_param m ≡ is_this m
binding_lone m e = ap (λ (k : Kind). is_this_param_by k m) e

-- where what has a type round it is asked
this_same : (n : Node) (r : Role) → (is_type_wrapper (kind_of n) ≡ true → adds_types_alone n ≡ true) → is_this (bound_at n r) ≡ is_this n
this_same n r h = by (is_typed_name r n) refl
  where
    by : (t : Bool) → is_typed_name r n ≡ t → is_this (bound_at n r) ≡ is_this n
    by true t = let both = typed_this n r (h (typed_parts n r t).1) t in sym (binding_lone (bound_at n r) (typed_kind n r t)) ∙ both.0 ∙ sym both.1
    by false t = ap (λ (k : Kind). is_this_by k (bound_at n r)) (usual_kind n r t) ∙ this_usual (kind_of n) n r t

param_by : (k : Kind) (n : Node) → kind_of n ≡ k → (r : Role) → adds_types_alone n ≡ true → is_typed_name r n ≡ false → is_this_param_by k (bound_at n r) ≡ is_this_param_by k n
param_by kind.Param n e r h t = first_same is_this n r t (λ c at q. this_same c q (λ w. alone-below n h 0 c at (in-no-list (kind_of n) c (ap is_list e))))
param_by _ n e r h t = this_same n r (λ w. h)

param_same : (n : Node) (r : Role) → adds_types_alone n ≡ true → is_this_param (bound_at n r) ≡ is_this_param n
param_same n r h = by (is_typed_name r n) refl
  where
    by : (t : Bool) → is_typed_name r n ≡ t → is_this_param (bound_at n r) ≡ is_this_param n
    by true t = let both = typed_this n r h t in both.0 ∙ sym (wrapper_param (kind_of n) n (typed_parts n r t).1 ∙ both.1)
    by false t = ap (λ (k : Kind). is_this_param_by k (bound_at n r)) (usual_kind n r t) ∙ param_by (kind_of n) n refl r h t

receiver_same : (n : Node) (r : Role) → adds_types_alone n ≡ true → is_receiver (bound_at n r) ≡ is_receiver n
receiver_same n r h = ap₂ (λ a b. a || b) (ident_same n r) (param_same n r h)

-- of the children of a node of this kind, those that do not go from a list
abbrev StayingAlone : Kind → List Node → Type 0
StayingAlone k cs = (i : ℕ) (c : Node) → slice_get cs i ≡ Some c → StaysIn k c → adds_types_alone c ≡ true

any_receiver : (k : Kind) (cs : List Node) (roles : ℕ → Role) → is_list k ≡ false → StayingAlone k cs → list_any is_receiver (bound_each roles cs) ≡ list_any is_receiver cs
any_receiver k cs roles free alone = any_where is_receiver cs roles (λ i c at. receiver_same c (roles i) (alone i c at (in-no-list k c free)))

-- in a list, what has a type round it stays
stray_same : (k : Kind) (cs : List Node) (roles : ℕ → Role) → StayingAlone k cs → has_stray_receiver k (bound_each roles cs) ≡ has_stray_receiver k cs
stray_same kind.List cs roles alone =
    any_where is_lone_receiver cs roles (λ i c at. ap₂ (λ a b. a || b) (ident_same c (roles i)) (this_same c (roles i) (λ w. alone i c at (λ list. wrapper_stays c w))))
stray_same kind.Param cs roles alone = any_where (λ c. is_this_ident (kind_of c)) cs roles (λ i c at. ident_same c (roles i))
stray_same kind.BindingIdent [] roles alone = refl
stray_same kind.BindingIdent (c ∷ cs) roles alone = any_receiver kind.BindingIdent cs (λ i. roles (suc i)) refl (λ i d at. alone (suc i) d at)
stray_same kind.SetterProp [] roles alone = refl
stray_same kind.SetterProp (c ∷ []) roles alone = any_receiver kind.SetterProp (c ∷ []) roles refl alone
stray_same kind.SetterProp (c ∷ d ∷ cs) roles alone =
    ap₂ (λ a b. a || b) (receiver_same c (roles 0) (alone 0 c refl (in-no-list kind.SetterProp c refl)))
    (any_receiver kind.SetterProp cs (λ i. roles (suc (suc i))) refl (λ i e at. alone (suc (suc i)) e at))
stray_same k cs roles alone = any_receiver k cs roles refl alone

test_same : (k : Kind) (cs : List Node) (roles : ℕ → Role) → StayingAlone k cs → adds_types_by k (bound_each roles cs) ≡ adds_types_by k cs
test_same k cs roles alone = (λ j. not (is_lowered k) && (not (head_same k cs roles j) && (not (bodiless_same k cs roles j) && not (stray_same k cs roles alone j))))

-- ---- a name that is bound

abbrev Under : Node → Type 0
Under n = adds_types_alone n ≡ true → is_name_under_types n ≡ true → adds_types_alone (under_types n) ≡ true

under_alone : (n : Node) → Under n
under_alone = by_children Under (λ n below h named. by n below h named (is_type_wrapper (kind_of n)) refl)
  where
    by : (n : Node) → ((i : ℕ) (c : Node) → slice_get (children_of n) i ≡ Some c → Under c) → adds_types_alone n ≡ true → is_name_under_types n ≡ true → (b : Bool) → is_type_wrapper (kind_of n) ≡ b → adds_types_alone (under_types n) ≡ true
    by n below h named true w = let f = front n w named in ap adds_types_alone f.3 ∙ below 0 f.0 f.1 (first_alone n w h f.0 f.1) f.2
    by n below h named false w = ap adds_types_alone (bare_is n w) ∙ h

name_full : (k : Kind) (value : Bool) → is_name k ≡ true → lacks_body_by k value ≡ false
name_full (kind.Ident sym' ctxt optional) value i = refl
name_full _ value i = cc

absent_parts : out-Node absent ≡ record { span = record { lo = 0; hi = 0 }; kind = kind.Absent; children = [] }
absent_parts = out-roll-Node (record { span = record { lo = 0; hi = 0 }; kind = kind.Absent; children = [] })

abbrev told : Node-F Node → Bool
told z = adds_types_by z.kind z.children && staying_hold (is_list z.kind) z.children (map adds_types_alone z.children)

absent_alone : adds_types_alone absent ≡ true
absent_alone = alone-out absent ∙ ap told absent_parts

absent_full : lacks_body absent ≡ false
absent_full = ap (λ (z : Node-F Node). lacks_body_by z.kind (is_value absent)) absent_parts

absent_other : is_receiver absent ≡ false
absent_other = ap₂ (λ a b. a || b) (ap (λ (z : Node-F Node). is_this_ident z.kind) absent_parts) (ap (λ (z : Node-F Node). is_this_param_by z.kind absent) absent_parts ∙ ap (λ (z : Node-F Node). is_this_by z.kind absent) absent_parts)

binding_alone : (u : Node) → is_name (kind_of u) ≡ true → adds_types_alone u ≡ true → adds_types_alone (binding u) ≡ true
binding_alone u i h =
    alone-out (binding u)
    ∙ ap told (bound_parts u)
    ∙ (λ j. (not (name_full (kind_of u) (is_value u) i j || (absent_full j || false)) && not (absent_other j || false)) && (adds_types_alone u && (adds_types_alone absent && true)))
    ∙ ap₂ (λ a b. a && (b && true)) h absent_alone

-- ---- the nodes of a tree

abbrev Stays : Node → Type 0
Stays n = adds_types_alone n ≡ true → (r : Role) → adds_types_alone (bound_at n r) ≡ true

usual_stays : (n : Node) → ((i : ℕ) (c : Node) → slice_get (children_of n) i ≡ Some c → Stays c) → adds_types_alone n ≡ true → (r : Role) → is_typed_name r n ≡ false → adds_types_alone (bound_at n r) ≡ true
usual_stays n below h r t =
    let roles = role_in r (kind_of n) in
    alone-made (bound_at n r)
    (ap₂ adds_types_by (usual_kind n r t) (usual_children n r t) ∙ test_same (kind_of n) (children_of n) roles (alone-below n h) ∙ alone-here n h)
    (λ i d at stay.
    (let m = bound_child (children_of n) roles i d (ap (λ (cs : List Node). slice_get cs i) (sym (usual_children n r t)) ∙ at) in
    let stayed : StaysIn (kind_of n) m.0 = λ list. stays_before m.0 (roles i) (ap stays m.2 ∙ stay (ap is_list (usual_kind n r t) ∙ list)) in
    ap adds_types_alone (sym m.2) ∙ below i m.0 m.1 (alone-below n h i m.0 m.1 stayed) (roles i)))

pub alone_stays : (n : Node) → Stays n
alone_stays = by_children Stays (λ n below h r. by n below h r (is_typed_name r n) refl)
  where
    by : (n : Node) → ((i : ℕ) (c : Node) → slice_get (children_of n) i ≡ Some c → Stays c) → adds_types_alone n ≡ true → (r : Role) (t : Bool) → is_typed_name r n ≡ t → adds_types_alone (bound_at n r) ≡ true
    by n below h r true t =
        let named = (typed_parts n r t).2 in
        ap adds_types_alone (typed_is n r t) ∙ binding_alone (under_types n) (under_name n named) (under_alone n h named)
    by n below h r false t = usual_stays n below h r t
