-- Finishing undoes covering.
use Rattle.std.proofs.Common.{◌≡◌, refl, sym, ap, ap₂, ◌∙◌, ℕ, suc, nat_eq, List, [], ◌∷◌, map, Bool, true, false, cond}
use Rattle.ecma_kind.specs.declared.operators.AssignOp.TheVariants.{Assign}
use Rattle.ecma_kind.specs.declared.span.Span.{Span}
use Rattle.ecma_kind.specs.declared.kind.Kind.{Kind}
use Rattle.ecma_kind.specs.declared.kind.Kind.TheVariants as kind
use Rattle.ecma_tree.specs.declared.node.Node.{Node, Node-F, fold-roll-Node, out-Node, roll-Node}
use Rattle.ecma_tree.specs.declared.node.Node.TheViews.{out-roll-Node, roll-out-Node}
use Rattle.ecma_tree.specs.Nodes.{node_of, dummy_span, absent}
use Rattle.ecma_tree.specs.Spans.{without_spans, unplaced}
use Rattle.ecma_tree.specs.Sorted.{is_absent}
use Rattle.ecma_rules.specs.declared.target.Target.{Target}
use Rattle.ecma_rules.specs.declared.target.Target.TheVariants as target
use Rattle.ecma_rules.specs.Targets.{takes_patterns, in_literal, in_spread, in_value, in_short_default, at_child, target_in}
use Rattle.ecma_rules.specs.Finishing.{left_by, name_by, part_by, element_by, property_by, each_in, finished_at, finished_by, finished_step, binding}
use Rattle.ecma_covers.specs.Covering.{left_cover, name_cover, part_cover, element_cover, property_cover, in_default, cover_at, cover_by, cover_in, cover_step}
use Rattle.ecma_covers.specs.Placing.{Stands, EachStands, array, object, bound, default, rest_element, rest_property, key_value, short, short_default, other, none, more, as_read, left_as_read, name_as_read, part_as_read, element_as_read, property_as_read, binds}
use Rattle.ecma_covers.specs.Laws.{FinishingUncovers}

spanless : (at : Span) (k : Kind) (cs : List Node) → without_spans (node_of at k cs) ≡ node_of dummy_span k (map without_spans cs)
spanless at k cs = fold-roll-Node Node unplaced (record { span = at; kind = k; children = cs })

pub cover_node : (at : Span) (k : Kind) (cs : List Node) (t : Target) → cover_at (node_of at k cs) t ≡ cover_by t (record { span = at; kind = k; children = each_in (cover_in t k) (map cover_at cs) })
cover_node at k cs t = ap (λ f. f t) (fold-roll-Node (Target → Node) cover_step (record { span = at; kind = k; children = cs }))

finished_node : (at : Span) (k : Kind) (cs : List Node) (t : Target) → finished_at (node_of at k cs) t ≡ finished_by t (record { span = at; kind = k; children = each_in (target_in t k) (map finished_at cs) })
finished_node at k cs t = ap (λ f. f t) (fold-roll-Node (Target → Node) finished_step (record { span = at; kind = k; children = cs }))

-- covered and finished where the same is asked
abbrev again : Target → Node → Node
again t n = finished_at (cover_at n t) t

abbrev Same : Target → Node → Type 0
Same t n = without_spans (again t n) ≡ without_spans n

-- what is asked of children where a node is itself there
either_free : (b : Bool) → cond b target.Free target.Free ≡ target.Free
either_free true = refl
either_free false = refl

left_kept : (k : Kind) (p : Node-F Node) → left_as_read k ≡ true → (left_cover k p ≡ roll-Node p) × (left_by k p ≡ roll-Node p)
left_kept kind.ArrayLit p h = absurd (cc)
left_kept kind.ObjectLit p h = absurd (cc)
left_kept (kind.ArrayPat optional) p h = absurd (cc)
left_kept (kind.ObjectPat optional) p h = absurd (cc)
left_kept _ p h = (refl, refl)

name_kept : (k : Kind) (p : Node-F Node) → name_as_read k ≡ true → (name_cover k p ≡ roll-Node p) × (name_by k p ≡ roll-Node p)
name_kept (kind.Ident sym ctxt optional) p h = absurd (cc)
name_kept kind.BindingIdent p h = absurd (cc)
name_kept _ p h = (refl, refl)

part_kept : (k : Kind) (p : Node-F Node) → part_as_read k ≡ true → (part_cover k p ≡ roll-Node p) × (part_by k p ≡ roll-Node p)
part_kept (kind.Ident sym ctxt optional) p h = absurd (cc)
part_kept kind.BindingIdent p h = absurd (cc)
part_kept k p h = left_kept k p h

element_kept : (k : Kind) (p : Node-F Node) → element_as_read k ≡ true → (element_cover k p ≡ roll-Node p) × (element_by k p ≡ roll-Node p)
element_kept kind.SpreadElement p h = absurd (cc)
element_kept (kind.AssignExpr op) p h = absurd (cc)
element_kept kind.RestPat p h = absurd (cc)
element_kept kind.AssignPat p h = absurd (cc)
element_kept k p h = part_kept k p h

property_kept : (k : Kind) (p : Node-F Node) → property_as_read k ≡ true → (property_cover k p ≡ roll-Node p) × (property_by k p ≡ roll-Node p)
property_kept kind.KeyValueProp p h = absurd (cc)
property_kept kind.AssignProp p h = absurd (cc)
property_kept kind.SpreadElement p h = absurd (cc)
property_kept (kind.Ident sym ctxt optional) p h = absurd (cc)
property_kept kind.KeyValuePatProp p h = absurd (cc)
property_kept kind.AssignPatProp p h = absurd (cc)
property_kept kind.RestPat p h = absurd (cc)
property_kept _ p h = (refl, refl)

-- a node that is itself there is neither covered nor turned
pub kept : (t : Target) (p : Node-F Node) → as_read t p.kind ≡ true → (cover_by t p ≡ roll-Node p) × (finished_by t p ≡ roll-Node p)
kept target.Left p h = left_kept p.kind p h
kept target.Head p h = part_kept p.kind p h
kept target.Part p h = part_kept p.kind p h
kept target.Rest p h = name_kept p.kind p h
kept target.Name p h = name_kept p.kind p h
kept target.Element p h = element_kept p.kind p h
kept target.Property p h = property_kept p.kind p h
kept _ p h = (refl, refl)

array_asks : (t : Target) (optional : Bool) → as_read t (kind.ArrayPat optional) ≡ true → in_literal t target.Elements ≡ target.Free
array_asks target.Left optional h = absurd (cc)
array_asks target.Head optional h = absurd (cc)
array_asks target.Part optional h = absurd (cc)
array_asks target.Element optional h = absurd (cc)
array_asks _ optional h = refl

object_asks : (t : Target) (optional : Bool) → as_read t (kind.ObjectPat optional) ≡ true → in_literal t target.Properties ≡ target.Free
object_asks target.Left optional h = absurd (cc)
object_asks target.Head optional h = absurd (cc)
object_asks target.Part optional h = absurd (cc)
object_asks target.Element optional h = absurd (cc)
object_asks _ optional h = refl

rest_asks : (t : Target) → as_read t kind.RestPat ≡ true → in_spread t ≡ target.Free
rest_asks target.Element h = absurd (cc)
rest_asks target.Property h = absurd (cc)
rest_asks _ h = refl

default_asks : (t : Target) → as_read t kind.AssignPat ≡ true → in_default t ≡ target.Free
default_asks target.Element h = absurd (cc)
default_asks _ h = refl

value_asks : (t : Target) → as_read t kind.KeyValuePatProp ≡ true → in_value t ≡ target.Free
value_asks target.Property h = absurd (cc)
value_asks _ h = refl

short_asks : (t : Target) → as_read t kind.AssignPatProp ≡ true → in_short_default t ≡ target.Free
short_asks target.Property h = absurd (cc)
short_asks _ h = refl

free_at : (wanted i : ℕ) (t : Target) → t ≡ target.Free → at_child wanted i t ≡ target.Free
free_at wanted i t e = rw e (either_free (nat_eq i wanted))

-- and its children are asked the same
pub asks_same : (t : Target) (k : Kind) (i : ℕ) → as_read t k ≡ true → cover_in t k i ≡ target_in t k i
unfolding cover_in target_in
asks_same t (kind.ArrayPat optional) i h = free_at 0 i (in_literal t target.Elements) (array_asks t optional h)
asks_same t (kind.ObjectPat optional) i h = free_at 0 i (in_literal t target.Properties) (object_asks t optional h)
asks_same t kind.RestPat i h = free_at 0 i (in_spread t) (rest_asks t h)
asks_same t kind.AssignPat i h = free_at 0 i (in_default t) (default_asks t h)
asks_same t kind.KeyValuePatProp i h = free_at 1 i (in_value t) (value_asks t h)
asks_same t kind.AssignPatProp i h = free_at 0 i (in_short_default t) (short_asks t h)
asks_same t k i h = refl

pub each_same : (f g : ℕ → Target) → ((i : ℕ) → f i ≡ g i) → (xs : List (Target → Node)) → each_in f xs ≡ each_in g xs
each_same f g e [] = refl
each_same f g e (x ∷ xs) = ap₂ (λ t rest. x t ∷ rest) (e 0) (each_same (λ i. f (suc i)) (λ i. g (suc i)) (λ i. e (suc i)) xs)

-- literals and patterns

pub array_covered : (t : Target) → takes_patterns t ≡ true → (at : Span) (a b : Node) → cover_by t (record { span = at; kind = kind.ArrayPat false; children = a ∷ b ∷ [] }) ≡ node_of at kind.ArrayLit (a ∷ [])
array_covered target.Left h at a b = refl
array_covered target.Head h at a b = refl
array_covered target.Part h at a b = refl
array_covered target.Element h at a b = refl
array_covered _ h at a b = absurd (cc)

array_turned : (t : Target) → takes_patterns t ≡ true → (at : Span) (a : Node) → finished_by t (record { span = at; kind = kind.ArrayLit; children = a ∷ [] }) ≡ node_of at (kind.ArrayPat false) (a ∷ absent ∷ [])
array_turned target.Left h at a = refl
array_turned target.Head h at a = refl
array_turned target.Part h at a = refl
array_turned target.Element h at a = refl
array_turned _ h at a = absurd (cc)

pub object_covered : (t : Target) → takes_patterns t ≡ true → (at : Span) (a b : Node) → cover_by t (record { span = at; kind = kind.ObjectPat false; children = a ∷ b ∷ [] }) ≡ node_of at kind.ObjectLit (a ∷ [])
object_covered target.Left h at a b = refl
object_covered target.Head h at a b = refl
object_covered target.Part h at a b = refl
object_covered target.Element h at a b = refl
object_covered _ h at a b = absurd (cc)

object_turned : (t : Target) → takes_patterns t ≡ true → (at : Span) (a : Node) → finished_by t (record { span = at; kind = kind.ObjectLit; children = a ∷ [] }) ≡ node_of at (kind.ObjectPat false) (a ∷ absent ∷ [])
object_turned target.Left h at a = refl
object_turned target.Head h at a = refl
object_turned target.Part h at a = refl
object_turned target.Element h at a = refl
object_turned _ h at a = absurd (cc)

pub literal_asks : (t items : Target) → takes_patterns t ≡ true → in_literal t items ≡ items
literal_asks t items h = rw h refl

-- names

abbrev pub name_node : Span → List ℕ → ℕ → Bool → Node
name_node at word ctxt optional = node_of at (kind.Ident word ctxt optional) []

abbrev pub binding_node : Span → Span → Span → List ℕ → ℕ → Bool → Node
binding_node at of_name of_type word ctxt optional = node_of at kind.BindingIdent (name_node of_name word ctxt optional ∷ node_of of_type kind.Absent [] ∷ [])

pub name_covered : (t : Target) → binds t ≡ true → (at : Span) (a b : Node) → cover_by t (record { span = at; kind = kind.BindingIdent; children = a ∷ b ∷ [] }) ≡ a
name_covered target.Head h at a b = refl
name_covered target.Part h at a b = refl
name_covered target.Element h at a b = refl
name_covered target.Rest h at a b = refl
name_covered target.Name h at a b = refl
name_covered _ h at a b = absurd (cc)

name_turned : (t : Target) → binds t ≡ true → (at : Span) (word : List ℕ) (ctxt : ℕ) (optional : Bool)
    → finished_by t (record { span = at; kind = kind.Ident word ctxt optional; children = [] }) ≡ binding (name_node at word ctxt optional)
name_turned target.Head h at word ctxt optional = refl
name_turned target.Part h at word ctxt optional = refl
name_turned target.Element h at word ctxt optional = refl
name_turned target.Rest h at word ctxt optional = refl
name_turned target.Name h at word ctxt optional = refl
name_turned _ h at word ctxt optional = absurd (cc)

pub free_name : (at : Span) (word : List ℕ) (ctxt : ℕ) (optional : Bool) → cover_at (name_node at word ctxt optional) target.Free ≡ name_node at word ctxt optional
free_name at word ctxt optional = cover_node at (kind.Ident word ctxt optional) [] target.Free

pub free_missing : (at : Span) → cover_at (node_of at kind.Absent []) target.Free ≡ node_of at kind.Absent []
free_missing at = cover_node at kind.Absent [] target.Free

pub binding_covered : (t : Target) → binds t ≡ true → (at of_name of_type : Span) (word : List ℕ) (ctxt : ℕ) (optional : Bool) → cover_at (binding_node at of_name of_type word ctxt optional) t ≡ name_node of_name word ctxt optional
unfolding cover_in target_in
binding_covered t h at of_name of_type word ctxt optional =
    cover_node at kind.BindingIdent (name_node of_name word ctxt optional ∷ node_of of_type kind.Absent [] ∷ []) t
    ∙ (name_covered t h at (cover_at (name_node of_name word ctxt optional) target.Free) (cover_at (node_of of_type kind.Absent []) target.Free) ∙ free_name of_name word ctxt optional)

missing_bare : (at : Span) → without_spans (node_of at kind.Absent []) ≡ without_spans absent
missing_bare at = spanless at kind.Absent [] ∙ sym (spanless dummy_span kind.Absent [])

binding_bare : (at of_name of_type : Span) (word : List ℕ) (ctxt : ℕ) (optional : Bool) → without_spans (binding (name_node of_name word ctxt optional)) ≡ without_spans (binding_node at of_name of_type word ctxt optional)
binding_bare at of_name of_type word ctxt optional =
    spanless (out-Node (name_node of_name word ctxt optional)).span kind.BindingIdent (name_node of_name word ctxt optional ∷ absent ∷ [])
    ∙ (ap (λ type. node_of dummy_span kind.BindingIdent (without_spans (name_node of_name word ctxt optional) ∷ type ∷ [])) (sym (missing_bare of_type))
    ∙ sym (spanless at kind.BindingIdent (name_node of_name word ctxt optional ∷ node_of of_type kind.Absent [] ∷ [])))

name_again : (t : Target) → binds t ≡ true → (of_name : Span) (word : List ℕ) (ctxt : ℕ) (optional : Bool) → finished_at (name_node of_name word ctxt optional) t ≡ binding (name_node of_name word ctxt optional)
name_again t h of_name word ctxt optional = finished_node of_name (kind.Ident word ctxt optional) [] t ∙ name_turned t h of_name word ctxt optional

-- a shorthand, and one with a default

pub is_missing_there : (at : Span) → is_absent (out-Node (node_of at kind.Absent [])).kind ≡ true
is_missing_there at = ap (λ p. is_absent p.kind) (out-roll-Node (record { span = at; kind = kind.Absent; children = [] }))

pub short_covered : (at of_value : Span) (name : Node) → cover_by target.Property (record { span = at; kind = kind.AssignPatProp; children = name ∷ node_of of_value kind.Absent [] ∷ [] }) ≡ name
short_covered at of_value name = ap (λ b. cond b name (node_of at kind.AssignProp (name ∷ node_of of_value kind.Absent [] ∷ []))) (is_missing_there of_value)

pub default_covered : (at : Span) (name value : Node) → is_absent (out-Node value).kind ≡ false → cover_by target.Property (record { span = at; kind = kind.AssignPatProp; children = name ∷ value ∷ [] }) ≡ node_of at kind.AssignProp (name ∷ value ∷ [])
default_covered at name value there = ap (λ b. cond b name (node_of at kind.AssignProp (name ∷ value ∷ []))) there

-- what covers a node keeps its kind where nothing is asked of it
pub free_kind : (n : Node) → (out-Node (cover_at n target.Free)).kind ≡ (out-Node n).kind
free_kind n =
    ap (λ m. (out-Node (cover_at m target.Free)).kind) (sym (roll-out-Node n))
    ∙ (ap (λ m. (out-Node m).kind) (cover_node (out-Node n).span (out-Node n).kind (out-Node n).children target.Free)
    ∙ ap (λ p. p.kind) (out-roll-Node (record { span = (out-Node n).span; kind = (out-Node n).kind; children = each_in (cover_in target.Free (out-Node n).kind) (map cover_at (out-Node n).children) })))

pub short_name : (at of_binding of_name of_type of_value : Span) (word : List ℕ) (ctxt : ℕ) (optional : Bool)
    → cover_at (node_of at kind.AssignPatProp (binding_node of_binding of_name of_type word ctxt optional ∷ node_of of_value kind.Absent [] ∷ [])) target.Property ≡ name_node of_name word ctxt optional
unfolding cover_in
short_name at of_binding of_name of_type of_value word ctxt optional =
    cover_node at kind.AssignPatProp (binding_node of_binding of_name of_type word ctxt optional ∷ node_of of_value kind.Absent [] ∷ []) target.Property
    ∙ (ap₂ (λ x y. cover_by target.Property (record { span = at; kind = kind.AssignPatProp; children = x ∷ y ∷ [] })) (binding_covered target.Name refl of_binding of_name of_type word ctxt optional) (free_missing of_value)
    ∙ short_covered at of_value (name_node of_name word ctxt optional))

pub default_name : (at of_binding of_name of_type : Span) (word : List ℕ) (ctxt : ℕ) (optional : Bool) (value : Node) → is_absent (out-Node value).kind ≡ false
    → cover_at (node_of at kind.AssignPatProp (binding_node of_binding of_name of_type word ctxt optional ∷ value ∷ [])) target.Property ≡ node_of at kind.AssignProp (name_node of_name word ctxt optional ∷ cover_at value target.Free ∷ [])
unfolding cover_in
default_name at of_binding of_name of_type word ctxt optional value there =
    cover_node at kind.AssignPatProp (binding_node of_binding of_name of_type word ctxt optional ∷ value ∷ []) target.Property
    ∙ (ap (λ x. cover_by target.Property (record { span = at; kind = kind.AssignPatProp; children = x ∷ cover_at value target.Free ∷ [] })) (binding_covered target.Name refl of_binding of_name of_type word ctxt optional)
    ∙ default_covered at (name_node of_name word ctxt optional) (cover_at value target.Free) (ap is_absent (free_kind value) ∙ there))

short_again : (at of_binding of_name of_type of_value : Span) (word : List ℕ) (ctxt : ℕ) (optional : Bool) → Same target.Property (node_of at kind.AssignPatProp (binding_node of_binding of_name of_type word ctxt optional ∷ node_of of_value kind.Absent [] ∷ []))
short_again at of_binding of_name of_type of_value word ctxt optional =
    let b = binding_node of_binding of_name of_type word ctxt optional in
    let name = name_node of_name word ctxt optional in
    ap (λ n. without_spans (finished_at n target.Property)) (short_name at of_binding of_name of_type of_value word ctxt optional)
    ∙ (ap without_spans (finished_node of_name (kind.Ident word ctxt optional) [] target.Property)
    ∙ (spanless (out-Node name).span kind.AssignPatProp (binding name ∷ absent ∷ [])
    ∙ (ap₂ (λ x y. node_of dummy_span kind.AssignPatProp (x ∷ y ∷ [])) (binding_bare of_binding of_name of_type word ctxt optional) (sym (missing_bare of_value)) ∙ sym (spanless at kind.AssignPatProp (b ∷ node_of of_value kind.Absent [] ∷ [])))))

short_default_again : (at of_binding of_name of_type : Span) (word : List ℕ) (ctxt : ℕ) (optional : Bool) (value : Node) → is_absent (out-Node value).kind ≡ false → Same target.Free value
    → Same target.Property (node_of at kind.AssignPatProp (binding_node of_binding of_name of_type word ctxt optional ∷ value ∷ []))
unfolding target_in
short_default_again at of_binding of_name of_type word ctxt optional value there same =
    let b = binding_node of_binding of_name of_type word ctxt optional in
    let name = name_node of_name word ctxt optional in
    let d = cover_at value target.Free in
    ap (λ n. without_spans (finished_at n target.Property)) (default_name at of_binding of_name of_type word ctxt optional value there)
    ∙ (ap without_spans (finished_node at kind.AssignProp (name ∷ d ∷ []) target.Property)
    ∙ (spanless at kind.AssignPatProp (finished_at name target.Name ∷ again target.Free value ∷ [])
    ∙ (ap₂ (λ x y. node_of dummy_span kind.AssignPatProp (x ∷ y ∷ [])) (ap without_spans (name_again target.Name refl of_name word ctxt optional) ∙ binding_bare of_binding of_name of_type word ctxt optional) same
    ∙ sym (spanless at kind.AssignPatProp (b ∷ value ∷ [])))))

-- the children of a node that is itself there
mutual
  unfolding cover_in target_in

  uncovered : {t : Target} {n : Node} → Stands t n → Same t n
  uncovered (array {t} h at of_type {elements} s) =
      let e = cover_node at (kind.ArrayPat false) (elements ∷ node_of of_type kind.Absent [] ∷ []) t ∙ array_covered t h at (cover_at elements (in_literal t target.Elements)) (cover_at (node_of of_type kind.Absent []) target.Free) in
      let d : cover_at elements (in_literal t target.Elements) ≡ cover_at elements target.Elements = ap (cover_at elements) (literal_asks t target.Elements h) in
      ap (λ n. without_spans (finished_at n t)) (e ∙ ap (λ x. node_of at kind.ArrayLit (x ∷ [])) d)
      ∙ (ap without_spans (finished_node at kind.ArrayLit (cover_at elements target.Elements ∷ []) t ∙ (array_turned t h at (finished_at (cover_at elements target.Elements) (in_literal t target.Elements))
      ∙ ap (λ asked. node_of at (kind.ArrayPat false) (finished_at (cover_at elements target.Elements) asked ∷ absent ∷ [])) (literal_asks t target.Elements h)))
      ∙ (spanless at (kind.ArrayPat false) (again target.Elements elements ∷ absent ∷ [])
      ∙ (ap₂ (λ x y. node_of dummy_span (kind.ArrayPat false) (x ∷ y ∷ [])) (uncovered s) (sym (missing_bare of_type)) ∙ sym (spanless at (kind.ArrayPat false) (elements ∷ node_of of_type kind.Absent [] ∷ [])))))
  uncovered (object {t} h at of_type {properties} s) =
      let e = cover_node at (kind.ObjectPat false) (properties ∷ node_of of_type kind.Absent [] ∷ []) t ∙ object_covered t h at (cover_at properties (in_literal t target.Properties)) (cover_at (node_of of_type kind.Absent []) target.Free) in
      let d : cover_at properties (in_literal t target.Properties) ≡ cover_at properties target.Properties = ap (cover_at properties) (literal_asks t target.Properties h) in
      ap (λ n. without_spans (finished_at n t)) (e ∙ ap (λ x. node_of at kind.ObjectLit (x ∷ [])) d)
      ∙ (ap without_spans (finished_node at kind.ObjectLit (cover_at properties target.Properties ∷ []) t ∙ (object_turned t h at (finished_at (cover_at properties target.Properties) (in_literal t target.Properties))
      ∙ ap (λ asked. node_of at (kind.ObjectPat false) (finished_at (cover_at properties target.Properties) asked ∷ absent ∷ [])) (literal_asks t target.Properties h)))
      ∙ (spanless at (kind.ObjectPat false) (again target.Properties properties ∷ absent ∷ [])
      ∙ (ap₂ (λ x y. node_of dummy_span (kind.ObjectPat false) (x ∷ y ∷ [])) (uncovered s) (sym (missing_bare of_type)) ∙ sym (spanless at (kind.ObjectPat false) (properties ∷ node_of of_type kind.Absent [] ∷ [])))))
  uncovered (bound {t} h at of_name of_type word ctxt optional) =
      ap (λ n. without_spans (finished_at n t)) (binding_covered t h at of_name of_type word ctxt optional)
      ∙ (ap without_spans (name_again t h of_name word ctxt optional) ∙ binding_bare at of_name of_type word ctxt optional)
  uncovered (default at {part} {value} s v) =
      let ds = cover_at part target.Part ∷ cover_at value target.Free ∷ [] in
      ap (λ n. without_spans (finished_at n target.Element)) (cover_node at kind.AssignPat (part ∷ value ∷ []) target.Element)
      ∙ (ap without_spans (finished_node at (kind.AssignExpr Assign) ds target.Element)
      ∙ (spanless at kind.AssignPat (again target.Part part ∷ again target.Free value ∷ [])
      ∙ (ap₂ (λ x y. node_of dummy_span kind.AssignPat (x ∷ y ∷ [])) (uncovered s) (uncovered v) ∙ sym (spanless at kind.AssignPat (part ∷ value ∷ [])))))
  uncovered (rest_element at of_type {part} s) =
      ap (λ n. without_spans (finished_at n target.Element)) (cover_node at kind.RestPat (part ∷ node_of of_type kind.Absent [] ∷ []) target.Element)
      ∙ (ap without_spans (finished_node at kind.SpreadElement (cover_at part target.Part ∷ []) target.Element)
      ∙ (spanless at kind.RestPat (again target.Part part ∷ absent ∷ [])
      ∙ (ap₂ (λ x y. node_of dummy_span kind.RestPat (x ∷ y ∷ [])) (uncovered s) (sym (missing_bare of_type)) ∙ sym (spanless at kind.RestPat (part ∷ node_of of_type kind.Absent [] ∷ [])))))
  uncovered (rest_property at of_type {part} s) =
      ap (λ n. without_spans (finished_at n target.Property)) (cover_node at kind.RestPat (part ∷ node_of of_type kind.Absent [] ∷ []) target.Property)
      ∙ (ap without_spans (finished_node at kind.SpreadElement (cover_at part target.Rest ∷ []) target.Property)
      ∙ (spanless at kind.RestPat (again target.Rest part ∷ absent ∷ [])
      ∙ (ap₂ (λ x y. node_of dummy_span kind.RestPat (x ∷ y ∷ [])) (uncovered s) (sym (missing_bare of_type)) ∙ sym (spanless at kind.RestPat (part ∷ node_of of_type kind.Absent [] ∷ [])))))
  uncovered (key_value at {key} {value} k s) =
      let ds = cover_at key target.Free ∷ cover_at value target.Element ∷ [] in
      ap (λ n. without_spans (finished_at n target.Property)) (cover_node at kind.KeyValuePatProp (key ∷ value ∷ []) target.Property)
      ∙ (ap without_spans (finished_node at kind.KeyValueProp ds target.Property)
      ∙ (spanless at kind.KeyValuePatProp (again target.Free key ∷ again target.Element value ∷ [])
      ∙ (ap₂ (λ x y. node_of dummy_span kind.KeyValuePatProp (x ∷ y ∷ [])) (uncovered k) (uncovered s) ∙ sym (spanless at kind.KeyValuePatProp (key ∷ value ∷ [])))))
  uncovered (short at of_binding of_name of_type of_value word ctxt optional) = short_again at of_binding of_name of_type of_value word ctxt optional
  uncovered (short_default at of_binding of_name of_type word ctxt optional {value} there v) = short_default_again at of_binding of_name of_type word ctxt optional value there (uncovered v)
  uncovered (other {t} at k {children} h each) =
      let ds = each_in (target_in t k) (map cover_at children) in
      ap (λ n. without_spans (finished_at n t)) (cover_node at k children t ∙ ((kept t (record { span = at; kind = k; children = each_in (cover_in t k) (map cover_at children) }) h).0
      ∙ ap (node_of at k) (each_same (cover_in t k) (target_in t k) (λ i. asks_same t k i h) (map cover_at children))))
      ∙ (ap without_spans (finished_node at k ds t ∙ (kept t (record { span = at; kind = k; children = each_in (target_in t k) (map finished_at ds) }) h).1)
      ∙ (spanless at k (each_in (target_in t k) (map finished_at ds)) ∙ (ap (node_of dummy_span k) (each_uncovered (target_in t k) each) ∙ sym (spanless at k children))))

  each_uncovered : (asked : ℕ → Target) {ns : List Node} → EachStands asked ns → map without_spans (each_in asked (map finished_at (each_in asked (map cover_at ns)))) ≡ map without_spans ns
  each_uncovered asked none = refl
  each_uncovered asked (more s rest) = ap₂ (λ x xs. x ∷ xs) (uncovered s) (each_uncovered (λ i. asked (suc i)) rest)

pub finishing_uncovers : FinishingUncovers
finishing_uncovers tree s = uncovered s
