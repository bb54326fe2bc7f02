-- Classes and their members.
use Rattle.std.specs.Prelude.{Bool, true, false, not, ◌&&◌, List, [], ◌∷◌, codes, bytes_eq, None, if◌then◌else◌}
use Rattle.ecma_kind.specs.declared.span.Span.{Span}
use Rattle.ecma_kind.specs.declared.operators.MethodKind.{MethodKind}
use Rattle.ecma_kind.specs.declared.operators.MethodKind.TheVariants.{Method, Getter, Setter}
use Rattle.ecma_kind.specs.declared.operators.MemberModifiers.{MemberModifiers}
use Rattle.ecma_kind.specs.declared.kind.Kind.{Kind}
use Rattle.ecma_kind.specs.declared.kind.Kind.TheVariants as kind
use Rattle.ecma_tree.specs.declared.node.Node.{Node}
use Rattle.ecma_tree.specs.Nodes.{node_of, absent}
use Rattle.ecma_grammar.specs.trees.Parts.{kind_of, children_of, is_present, framed}
use Rattle.ecma_grammar.specs.trees.Functions.{has_word, accessibility_of, function_of, parameters}

-- name, type parameters, heritage, its type arguments, implemented types, members
abbrev pub class : Span → Kind → Bool → List Node → Node
class span k is_abstract (name ∷ type_params ∷ super_class ∷ super_type_params ∷ implements ∷ members ∷ []) =
    node_of span k (name ∷ node_of span (kind.Class is_abstract) (super_class ∷ members ∷ type_params ∷ super_type_params ∷ implements ∷ []) ∷ [])
class span k is_abstract xs = absent

abbrev pub is_private_name : Kind → Bool
is_private_name (kind.PrivateName name) = true
is_private_name k = false

abbrev pub no_modifiers : Bool → MemberModifiers
no_modifiers is_optional = record { accessibility = None; is_static = false; is_abstract = false; is_optional = is_optional; is_override = false }

abbrev pub method_kind : Node → MethodKind → MemberModifiers → Kind
method_kind key k modifiers = if is_private_name (kind_of key) then kind.PrivateMethod k modifiers else kind.ClassMethod k modifiers

-- `async` or not, `*` or not, key, `?` or not, `!` or not, type parameters, parameters, return type, body
abbrev pub method : Span → MethodKind → List Node → Node
method span k (is_async ∷ is_generator ∷ key ∷ question ∷ exclamation ∷ type_params ∷ params ∷ return_type ∷ body ∷ []) =
    node_of span (method_kind key k (no_modifiers (is_present question)))
    (key ∷ function_of span (is_present is_async) (is_present is_generator) type_params params return_type body ∷ [])
method span k xs = absent

abbrev pub field_kind : Node → MemberModifiers → Bool → Bool → Bool → Kind
field_kind key modifiers readonly declare definite =
    if is_private_name (kind_of key) then kind.PrivateProp modifiers readonly declare definite else kind.ClassProp modifiers readonly declare definite

-- key, `?` or not, `!` or not, annotation, value
abbrev pub field : Span → List Node → Node
field span (key ∷ question ∷ exclamation ∷ annotation ∷ value ∷ []) =
    node_of span (field_kind key (no_modifiers (is_present question)) false false (is_present exclamation)) (key ∷ value ∷ annotation ∷ [])
field span xs = absent

-- the modifiers that are written
abbrev pub modified : Node → MemberModifiers → MemberModifiers
modified modifiers before = record {
  accessibility = accessibility_of modifiers;
  is_static = has_word (codes "static") modifiers;
  is_abstract = has_word (codes "abstract") modifiers;
  is_optional = before.is_optional;
  is_override = has_word (codes "override") modifiers;
}

-- `constructor`, as a name or a text
abbrev pub is_constructor_key : Kind → Bool
is_constructor_key (kind.IdentName sym) = bytes_eq sym (codes "constructor")
is_constructor_key (kind.Str value raw) = bytes_eq value (codes "constructor")
is_constructor_key k = false

abbrev pub is_plain_function : Kind → Bool
is_plain_function (kind.Function is_generator is_async) = not is_generator && not is_async
is_plain_function k = false

-- a method that is the constructor has that key, and is not static, no generator and not async
abbrev pub is_constructor : Node → Node → Node → Bool
is_constructor modifiers key function =
    is_constructor_key (kind_of key) && (is_plain_function (kind_of function) && not (has_word (codes "static") modifiers))

abbrev pub constructor_of : Span → Node → MemberModifiers → Node → List Node → Node
constructor_of span modifiers before key (params ∷ body ∷ type_params ∷ return_type ∷ []) =
    node_of span (kind.Constructor (accessibility_of modifiers) before.is_optional) (key ∷ params ∷ body ∷ [])
constructor_of span modifiers before key children = absent

abbrev pub method_by : Span → Node → MemberModifiers → List Node → Node
method_by span modifiers before (key ∷ function ∷ []) =
    if is_constructor modifiers key function
    then framed 4 (constructor_of span modifiers before key) (children_of function)
    else node_of span (kind.ClassMethod Method (modified modifiers before)) (key ∷ function ∷ [])
method_by span modifiers before children = absent

abbrev pub member_by : Span → Node → Kind → List Node → Node
member_by span modifiers (kind.ClassMethod Method before) children = framed 2 (method_by span modifiers before) children
member_by span modifiers (kind.ClassMethod Getter before) children = node_of span (kind.ClassMethod Getter (modified modifiers before)) children
member_by span modifiers (kind.ClassMethod Setter before) children = node_of span (kind.ClassMethod Setter (modified modifiers before)) children
member_by span modifiers (kind.PrivateMethod k before) children = node_of span (kind.PrivateMethod k (modified modifiers before)) children
member_by span modifiers (kind.ClassProp before readonly declare definite) children =
    node_of span (kind.ClassProp (modified modifiers before) (has_word (codes "readonly") modifiers) (has_word (codes "declare") modifiers) definite) children
member_by span modifiers (kind.PrivateProp before readonly declare definite) children =
    node_of span (kind.PrivateProp (modified modifiers before) (has_word (codes "readonly") modifiers) (has_word (codes "declare") modifiers) definite) children
member_by span modifiers k children = node_of span k children

-- modifiers, member
abbrev pub member : Span → List Node → Node
member span (modifiers ∷ n ∷ []) = member_by span modifiers (kind_of n) (children_of n)
member span xs = absent

-- modifiers, type of the index, annotation
abbrev pub index_signature_of : Span → Node → List Node → Node
index_signature_of span modifiers types = node_of span (kind.TsIndexSignature (has_word (codes "readonly") modifiers) (has_word (codes "static") modifiers)) types

abbrev pub index_signature : Span → List Node → Node
index_signature span (modifiers ∷ index ∷ annotation ∷ []) = index_signature_of span modifiers []
index_signature span xs = absent

abbrev pub index_signature_with_types : Span → List Node → Node
index_signature_with_types span (modifiers ∷ index ∷ annotation ∷ []) = index_signature_of span modifiers (index ∷ annotation ∷ [])
index_signature_with_types span xs = absent

-- a signature inside a type stands as a method of a class without a body: key in a list or type parameters, parameters
abbrev pub type_signature : Span → MethodKind → List Node → Node
type_signature span k (front ∷ params ∷ []) =
    node_of span (kind.ClassMethod k (no_modifiers false)) (front ∷ function_of span false false absent params absent absent ∷ [])
type_signature span k xs = absent

-- and one after `new` as a constructor without a body
abbrev pub new_signature : Span → List Node → Node
new_signature span (front ∷ params ∷ []) = node_of span (kind.Constructor None false) (front ∷ parameters params ∷ absent ∷ [])
new_signature span xs = absent
