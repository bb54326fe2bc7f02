-- `super` (ECMAScript, 13.3.7): it stands before a member with a name or an expression, or before the arguments of a call.
use Rattle.std.specs.Prelude.{Bool, true, false, not, ◌&&◌}
use Rattle.ecma_kind.specs.declared.kind.Kind.{Kind}
use Rattle.ecma_kind.specs.declared.kind.Kind.TheVariants as kind
use Rattle.ecma_tree.specs.declared.node.Node.{Node}
use Rattle.ecma_rules.specs.declared.standing.Standing.{Standing}
use Rattle.ecma_rules.specs.declared.standing.Standing.TheVariants as standing
use Rattle.ecma_rules.specs.Children.{kind_of, child_is}

abbrev pub is_super : Kind → Bool
is_super kind.Super = true
is_super _ = false

abbrev pub is_linked : Standing → Bool
is_linked standing.Linked = true
is_linked _ = false

-- `super` before no member and no arguments
--   class A extends B { constructor() { super(); super.c; super[d]; } }
--   class A extends B { f() { super; } }   // refused
abbrev pub is_lone_super : Standing → Node → Bool
is_lone_super s node = is_super (kind_of node) && not (is_linked s)

abbrev pub is_super_member : Kind → Bool
is_super_member kind.SuperPropExpr = true
is_super_member _ = false

abbrev pub is_private_name : Kind → Bool
is_private_name (kind.PrivateName name) = true
is_private_name _ = false

-- a private name after it
--   class A extends B { f() { super.c; } }
--   class A extends B { #c; f() { super.#c; } }   // refused
abbrev pub is_private_of_super : Node → Bool
is_private_of_super node = is_super_member (kind_of node) && child_is is_private_name node 1
