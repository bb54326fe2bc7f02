-- The kinds of members of classes.
use Rattle.ecma_kind.specs.declared.kind.Kind.TheVariants as kind
use Rattle.std.specs.Prelude.{true, false, Bool, None}
use Rattle.ecma_kind.specs.declared.operators.MethodKind.{MethodKind}
use Rattle.ecma_kind.specs.declared.operators.MethodKind.TheVariants.{Getter, Setter}
use Rattle.ecma_kind.specs.declared.operators.MemberModifiers.{MemberModifiers}
use Rattle.ecma_kind.specs.declared.kind.Kind.{Kind}
use Rattle.ecma_tree.specs.declared.node.Node.{Node}
use Rattle.ecma_grammar.specs.trees.Parts.{kind_of}
use Rattle.ecma_grammar.specs.trees.Classes.{is_constructor_key}

-- `constructor`, as a name or a text
abbrev pub names_constructor : Node → Bool
names_constructor n = is_constructor_key (kind_of n)

abbrev pub static_modifiers : Bool → MemberModifiers
static_modifiers is_static = record { accessibility = None; is_static = is_static; is_abstract = false; is_optional = false; is_override = false }

abbrev pub method_kind : Bool → MethodKind → Bool → Kind
method_kind true k is_static = kind.PrivateMethod k (static_modifiers is_static)
method_kind false k is_static = kind.ClassMethod k (static_modifiers is_static)

abbrev pub field_kind : Bool → Bool → Kind
field_kind true is_static = kind.PrivateProp (static_modifiers is_static) false false false
field_kind false is_static = kind.ClassProp (static_modifiers is_static) false false false

abbrev pub accessor_kind : Bool → MethodKind
accessor_kind true = Setter
accessor_kind false = Getter
