-- Classes with parameter properties (TypeScript handbook, "Parameter Properties"), and their fields (ECMAScript, 15.7).
use Rattle.std.specs.Prelude.{Bool, true, false, ◌&&◌, not, cond, List, [], ◌∷◌, Option, Some, None, slice_get}
use Rattle.std.specs.List.{filter_map, list_any}
use Rattle.std.specs.Option.{option_and_then, option_map}
use Rattle.ecma_kind.specs.declared.ident.Ident.{Ident}
use Rattle.ecma_kind.specs.declared.kind.Kind.{Kind}
use Rattle.ecma_kind.specs.declared.kind.Kind.TheVariants as kind
use Rattle.ecma_kind.specs.declared.operators.MemberModifiers.{MemberModifiers}
use Rattle.ecma_rules.specs.Children.{children_of, is_present, items_at, kind_of, of_kind}
use Rattle.ecma_rules.specs.Members.{is_full_constructor, is_property_kind}
use Rattle.ecma_tree.specs.Idents.{ident_of}
use Rattle.ecma_tree.specs.declared.node.Node.{Node, out-Node}

-- ---- properties

abbrev pub constructor_in : List Node → Option Node
constructor_in [] = None
constructor_in (m ∷ ms) = cond (is_full_constructor m) (Some m) (constructor_in ms)

-- the members of a class with these children, and its constructor: the one that has a body
--   class A { constructor(a); constructor(a, b?) { } }   // the second
abbrev pub members_among : List Node → List Node
members_among children = children_of (slice_get children 1)

abbrev pub constructor_among : List Node → Option Node
constructor_among children = constructor_in (members_among children)

abbrev pub constructor_of : Node → Option Node
constructor_of class = constructor_among (out-Node class).children

abbrev pub parameters_by : Option Node → List Node
parameters_by (Some constructor) = items_at constructor 1
parameters_by None = []

-- the parameters of the constructor
abbrev pub parameters_among : List Node → List Node
parameters_among children = parameters_by (constructor_among children)

abbrev pub parameters_of : Node → List Node
parameters_of class = parameters_among (out-Node class).children

-- a parameter that declares a property
--   class A { constructor(private a, b, readonly c = 1) { } }   // `a` and `c`
abbrev pub is_property : Node → Bool
is_property parameter = is_property_kind (kind_of parameter)

abbrev pub any_property : List Node → Bool
any_property children = list_any is_property (parameters_among children)

abbrev pub has_properties : Node → Bool
has_properties class = any_property (out-Node class).children

-- a name without the `?` behind it
abbrev pub unmarked : Ident → Ident
unmarked ident = record { span = ident.span; ctxt = ident.ctxt; sym = ident.sym; optional = false }

-- the identifier that the first child is
abbrev pub ident_at : Node → Option Ident
ident_at binding = option_map unmarked (option_and_then ident_of (slice_get (out-Node binding).children 0))

abbrev pub binding_by : Kind → Node → Option Ident
binding_by kind.BindingIdent binding = ident_at binding
binding_by _ binding = None

abbrev pub binding_name : Node → Option Ident
binding_name binding = binding_by (kind_of binding) binding

abbrev pub bound_by : Kind → Node → Option Ident
bound_by kind.AssignPat pattern = option_and_then binding_name (slice_get (out-Node pattern).children 0)
bound_by k pattern = binding_by k pattern

-- the name of a pattern that is a name, perhaps with a default
abbrev pub bound_name : Node → Option Ident
bound_name pattern = bound_by (kind_of pattern) pattern

abbrev pub name_by : Kind → Node → Option Ident
name_by (kind.TsParamProp accessibility is_override readonly) parameter = option_and_then bound_name (slice_get (out-Node parameter).children 0)
name_by _ parameter = None

-- the name of a property
abbrev pub property_name : Node → Option Ident
property_name parameter = name_by (kind_of parameter) parameter

-- the names of the properties of a class with these children, in order
abbrev pub names_among : List Node → List Ident
names_among children = filter_map property_name (parameters_among children)

abbrev pub property_names : Node → List Ident
property_names class = names_among (out-Node class).children

-- whether it extends another class
abbrev pub extends_among : List Node → Bool
extends_among children = of_kind is_present (slice_get children 0)

-- ---- fields

-- neither static nor abstract
abbrev pub of_instances : MemberModifiers → Bool
of_instances modifiers = not modifiers.is_static && not modifiers.is_abstract

abbrev pub field_by : Kind → Bool
field_by (kind.ClassProp modifiers readonly declare definite) = of_instances modifiers && not declare
field_by (kind.PrivateProp modifiers readonly declare definite) = of_instances modifiers && not declare
field_by _ = false

-- a field of each instance
--   abstract class A { a; #b = 1; static c = 1; abstract d; declare e; f() { } }   // `a` and `#b`
abbrev pub is_field : Node → Bool
is_field member = field_by (kind_of member)

-- one with a value: in a class with parameter properties the constructor assigns it
abbrev pub moved_by : Kind → List Node → Bool
moved_by k children = field_by k && of_kind is_present (slice_get children 1)

abbrev pub is_moved : Node → Bool
is_moved member = moved_by (kind_of member) (out-Node member).children
