-- Where patterns stand in a finished tree (ECMAScript, 13.15.5 Destructuring Assignment): what is assigned to is a pattern and no literal.
use Rattle.std.specs.Prelude.{◌≡◌, ℕ, suc, Bool, true, false, List, [], ◌∷◌}
use Rattle.ecma_kind.specs.declared.span.Span.{Span}
use Rattle.ecma_kind.specs.declared.kind.Kind.{Kind}
use Rattle.ecma_kind.specs.declared.kind.Kind.TheVariants as kind
use Rattle.ecma_tree.specs.declared.node.Node.{Node, out-Node}
use Rattle.ecma_tree.specs.Nodes.{node_of}
use Rattle.ecma_tree.specs.Sorted.{is_absent}
use Rattle.ecma_rules.specs.declared.target.Target.{Target}
use Rattle.ecma_rules.specs.declared.target.Target.TheVariants as target
use Rattle.ecma_rules.specs.Targets.{takes_patterns, target_in}

-- where a name is bound
abbrev pub binds : Target → Bool
binds target.Head = true
binds target.Part = true
binds target.Element = true
binds target.Rest = true
binds target.Name = true
binds _ = false

-- a node of this kind that is itself there, also as it is read
abbrev pub left_as_read : Kind → Bool
left_as_read kind.ArrayLit = false
left_as_read kind.ObjectLit = false
left_as_read (kind.ArrayPat optional) = false
left_as_read (kind.ObjectPat optional) = false
left_as_read _ = true

abbrev pub name_as_read : Kind → Bool
name_as_read (kind.Ident sym ctxt optional) = false
name_as_read kind.BindingIdent = false
name_as_read _ = true

abbrev pub part_as_read : Kind → Bool
part_as_read (kind.Ident sym ctxt optional) = false
part_as_read kind.BindingIdent = false
part_as_read k = left_as_read k

abbrev pub element_as_read : Kind → Bool
element_as_read kind.SpreadElement = false
element_as_read (kind.AssignExpr op) = false
element_as_read kind.RestPat = false
element_as_read kind.AssignPat = false
element_as_read k = part_as_read k

abbrev pub property_as_read : Kind → Bool
property_as_read kind.KeyValueProp = false
property_as_read kind.AssignProp = false
property_as_read kind.SpreadElement = false
property_as_read (kind.Ident sym ctxt optional) = false
property_as_read kind.KeyValuePatProp = false
property_as_read kind.AssignPatProp = false
property_as_read kind.RestPat = false
property_as_read _ = true

abbrev pub as_read : Target → Kind → Bool
as_read target.Left k = left_as_read k
as_read target.Head k = part_as_read k
as_read target.Part k = part_as_read k
as_read target.Rest k = name_as_read k
as_read target.Name k = name_as_read k
as_read target.Element k = element_as_read k
as_read target.Property k = property_as_read k
as_read _ k = true

mutual
  -- a node where this is asked of it
  pub data Stands : Target → Node → Type 0 where
    array : {t : Target} → takes_patterns t ≡ true → (at of_type : Span) {elements : Node} → Stands target.Elements elements → Stands t (node_of at (kind.ArrayPat false) (elements ∷ node_of of_type kind.Absent [] ∷ []))
    object : {t : Target} → takes_patterns t ≡ true → (at of_type : Span) {properties : Node} → Stands target.Properties properties → Stands t (node_of at (kind.ObjectPat false) (properties ∷ node_of of_type kind.Absent [] ∷ []))
    bound : {t : Target} → binds t ≡ true → (at of_name of_type : Span) (sym : List ℕ) (ctxt : ℕ) (optional : Bool) → Stands t (node_of at kind.BindingIdent (node_of of_name (kind.Ident sym ctxt optional) [] ∷ node_of of_type kind.Absent [] ∷ []))
    default : (at : Span) {part value : Node} → Stands target.Part part → Stands target.Free value → Stands target.Element (node_of at kind.AssignPat (part ∷ value ∷ []))
    rest_element : (at of_type : Span) {part : Node} → Stands target.Part part → Stands target.Element (node_of at kind.RestPat (part ∷ node_of of_type kind.Absent [] ∷ []))
    rest_property : (at of_type : Span) {part : Node} → Stands target.Rest part → Stands target.Property (node_of at kind.RestPat (part ∷ node_of of_type kind.Absent [] ∷ []))
    key_value : (at : Span) {key value : Node} → Stands target.Free key → Stands target.Element value → Stands target.Property (node_of at kind.KeyValuePatProp (key ∷ value ∷ []))
    short : (at of_binding of_name of_type of_value : Span) (sym : List ℕ) (ctxt : ℕ) (optional : Bool)
        → Stands target.Property (node_of at kind.AssignPatProp (node_of of_binding kind.BindingIdent (node_of of_name (kind.Ident sym ctxt optional) [] ∷ node_of of_type kind.Absent [] ∷ []) ∷ node_of of_value kind.Absent [] ∷ []))
    short_default : (at of_binding of_name of_type : Span) (sym : List ℕ) (ctxt : ℕ) (optional : Bool) {value : Node} → is_absent (out-Node value).kind ≡ false → Stands target.Free value
        → Stands target.Property (node_of at kind.AssignPatProp (node_of of_binding kind.BindingIdent (node_of of_name (kind.Ident sym ctxt optional) [] ∷ node_of of_type kind.Absent [] ∷ []) ∷ value ∷ []))
    other : {t : Target} (at : Span) (k : Kind) {children : List Node} → as_read t k ≡ true → EachStands (target_in t k) children → Stands t (node_of at k children)

  -- the first of these nodes is asked what is asked at 0
  pub data EachStands : (ℕ → Target) → List Node → Type 0 where
    none : {asked : ℕ → Target} → EachStands asked []
    more : {asked : ℕ → Target} {n : Node} {ns : List Node} → Stands (asked 0) n → EachStands (λ i. asked (suc i)) ns → EachStands asked (n ∷ ns)
