-- Members that are read as they stand (ECMAScript, 15.4, 15.7.1).
use Rattle.std.specs.Prelude.{Bool, false, not, ◌&&◌, ◌||◌}
use Rattle.ecma_kind.specs.declared.kind.Kind.{Kind}
use Rattle.ecma_kind.specs.declared.kind.Kind.TheVariants as kind
use Rattle.ecma_kind.specs.declared.operators.MethodKind.{MethodKind}
use Rattle.ecma_tree.specs.declared.node.Node.{Node}
use Rattle.ecma_rules.specs.Children.{kind_of, child_is}
use Rattle.ecma_rules.specs.Members.{is_constructor_key, is_method, is_special_function}

-- a getter or a setter that is a generator or async
abbrev pub is_special_accessor : MethodKind → Node → Bool
is_special_accessor k node = not (is_method k) && child_is is_special_function node 1

-- a constructor is the member `constructor` that is not static, and no other is
unfoldable pub is_misread_by : Kind → Node → Bool
is_misread_by (kind.Constructor accessibility is_optional) node = not (child_is is_constructor_key node 0)
is_misread_by (kind.ClassMethod k modifiers) node = is_special_accessor k node || (not modifiers.is_static && child_is is_constructor_key node 0)
is_misread_by (kind.PrivateMethod k modifiers) node = is_special_accessor k node
is_misread_by _ node = false

abbrev pub is_misread : Node → Bool
is_misread node = is_misread_by (kind_of node) node
