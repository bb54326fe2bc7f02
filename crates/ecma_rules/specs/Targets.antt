-- What is assigned to (ECMAScript, 13.4.1, 13.15.1, 13.15.5, 14.7.5.1): what a node has to be there, and which literals turn into patterns.
use Rattle.std.specs.Prelude.{ℕ, Bool, true, false, not, ◌&&◌, ◌||◌, ◌==◌, List, [], ◌∷◌, cond}
use Rattle.ecma_kind.specs.declared.kind.Kind.{Kind}
use Rattle.ecma_kind.specs.declared.kind.Kind.TheVariants as kind
use Rattle.ecma_kind.specs.declared.operators.AssignOp.{AssignOp}
use Rattle.ecma_kind.specs.declared.operators.AssignOp.TheVariants.{Assign}
use Rattle.ecma_tree.specs.declared.node.Node.{Node, Node-F, fold-Node}
use Rattle.ecma_tree.specs.Sorted.{is_absent}
use Rattle.ecma_rules.specs.declared.target.Target.{Target}
use Rattle.ecma_rules.specs.declared.target.Target.TheVariants as target
use Rattle.ecma_rules.specs.Children.{kind_of}

-- a name, a member that is no optional chain, a member of `super`
--   a = b; c.d = e;
--   f() = a;   // refused
abbrev pub is_plain_target : Kind → Bool
is_plain_target (kind.Ident sym ctxt optional) = true
is_plain_target kind.MemberExpr = true
is_plain_target kind.SuperPropExpr = true
is_plain_target _ = false

-- parentheses and type wrappers
--   (a) = b; (c as T) = d; e! = f;
abbrev pub is_wrapper : Kind → Bool
is_wrapper kind.ParenExpr = true
is_wrapper kind.TsTypeAssertion = true
is_wrapper kind.TsConstAssertion = true
is_wrapper kind.TsNonNullExpr = true
is_wrapper kind.TsAsExpr = true
is_wrapper kind.TsInstantiation = true
is_wrapper kind.TsSatisfiesExpr = true
is_wrapper _ = false

abbrev pub first_is : List Bool → Bool
first_is [] = false
first_is (is ∷ others) = is

abbrev pub simple_step : Node-F Bool → Bool
simple_step parts = is_plain_target parts.kind || (is_wrapper parts.kind && first_is parts.children)

-- one of the former, perhaps in the latter
--   (a.b) = c;
--   (a, b) = c;   // refused
abbrev pub is_simple_target : Node → Bool
is_simple_target = fold-Node Bool simple_step

abbrev pub is_literal : Kind → Bool
is_literal kind.ArrayLit = true
is_literal kind.ObjectLit = true
is_literal _ = false

abbrev pub is_spread : Kind → Bool
is_spread kind.SpreadElement = true
is_spread _ = false

abbrev pub is_plain : AssignOp → Bool
is_plain Assign = true
is_plain _ = false

-- `target = value`, which is a target with a default
--   [a = 1] = b;
abbrev pub is_default : Kind → Bool
is_default (kind.AssignExpr op) = is_plain op
is_default _ = false

abbrev pub is_variables : Kind → Bool
is_variables (kind.VarDecl k declare) = true
is_variables _ = false

abbrev pub is_short_default : Kind → Bool
is_short_default kind.AssignProp = true
is_short_default _ = false

abbrev pub is_key_value : Kind → Bool
is_key_value kind.KeyValueProp = true
is_key_value _ = false

-- what may stand there that is no simple target
--   [a, b.c] = d;
--   [a] += b;   // refused
abbrev pub may_be : Target → Kind → Bool
may_be target.Left k = is_literal k
may_be target.Simple k = false
may_be target.Head k = is_literal k || is_variables k
may_be target.Part k = is_literal k
may_be target.Element k = is_literal k || (is_default k || (is_spread k || is_absent k))
may_be target.Rest k = false
may_be target.Property k = is_key_value k || (is_short_default k || is_spread k)
may_be _ k = true

-- what is assigned to and is no target
--   [a, b.c] = d;
--   [a, f()] = b;   // refused
abbrev pub is_no_target : Target → Node → Bool
is_no_target t node = not (may_be t (kind_of node) || is_simple_target node)

abbrev pub is_property : Target → Bool
is_property target.Property = true
is_property _ = false

-- `name = value` that is no property of an object literal that turns into a pattern
--   ({ a = 1 } = b);
--   ({ a = 1 });   // refused
abbrev pub is_stray_default : Target → Node → Bool
is_stray_default t node = is_short_default (kind_of node) && not (is_property t)

-- whether a literal there turns into a pattern
--   for ([a] of b);
--   [a]++;   // refused
abbrev pub takes_patterns : Target → Bool
takes_patterns target.Left = true
takes_patterns target.Head = true
takes_patterns target.Part = true
takes_patterns target.Element = true
takes_patterns _ = false

-- the items of a literal
abbrev pub in_literal : Target → Target → Target
in_literal t items = cond (takes_patterns t) items target.Free

abbrev pub in_list : Target → Target
in_list target.Elements = target.Element
in_list target.Properties = target.Property
in_list _ = target.Free

--   [...[a]] = b;
--   ({ ...{ a } } = b);   // refused
abbrev pub in_spread : Target → Target
in_spread target.Element = target.Part
in_spread target.Property = target.Rest
in_spread _ = target.Free

abbrev pub in_value : Target → Target
in_value target.Property = target.Element
in_value _ = target.Free

abbrev pub in_short_default : Target → Target
in_short_default target.Property = target.Name
in_short_default _ = target.Free

-- the left of an assignment; in an element or a value of a pattern `=` stands before a default
--   [[a] = b] = c;   // the left of = in a pattern
--   [a] **= b;   // refused
abbrev pub on_left : Target → AssignOp → Target
on_left target.Element Assign = target.Part
on_left _ Assign = target.Left
on_left _ _ = target.Simple

abbrev pub at_child : ℕ → ℕ → Target → Target
at_child wanted i t = cond (i == wanted) t target.Free

-- what the child at an index has to be, in a node of this kind
--   [a, { b: c.d }] = e; for (f.g of h);
--   ({ a: b + c } = d);   // refused
unfoldable pub target_in : Target → Kind → ℕ → Target
target_in t kind.List i = in_list t
target_in t kind.ArrayLit i = in_literal t target.Elements
target_in t kind.ObjectLit i = in_literal t target.Properties
target_in t kind.SpreadElement i = in_spread t
target_in t kind.KeyValueProp i = at_child 1 i (in_value t)
target_in t kind.AssignProp i = at_child 0 i (in_short_default t)
target_in t (kind.AssignExpr op) i = at_child 0 i (on_left t op)
target_in t (kind.UpdateExpr op prefix) i = target.Simple
target_in t kind.ForInStmt i = at_child 0 i target.Head
target_in t (kind.ForOfStmt is_await) i = at_child 0 i target.Head
target_in t _ i = target.Free
