-- Parameters and members of objects and classes (ECMAScript, 15.4, 15.7.1; TypeScript handbook, "Parameter Properties", "Declaring this in a Function").
use Rattle.std.specs.Prelude.{ℕ, Bool, true, false, not, ◌&&◌, ◌||◌, List, [], ◌∷◌, codes, bytes_eq, filter, Option, Some, None, is_some}
use Rattle.std.specs.List.{list_any}
use Rattle.ecma_kind.specs.declared.kind.Kind.{Kind}
use Rattle.ecma_kind.specs.declared.kind.Kind.TheVariants as kind
use Rattle.ecma_kind.specs.declared.operators.MethodKind.{MethodKind}
use Rattle.ecma_kind.specs.declared.operators.MethodKind.TheVariants.{Method, Getter, Setter}
use Rattle.ecma_tree.specs.declared.node.Node.{Node, out-Node}
use Rattle.ecma_tree.specs.Sorted.{is_list}
use Rattle.ecma_rules.specs.declared.standing.Standing.{Standing}
use Rattle.ecma_rules.specs.declared.standing.Standing.TheVariants as standing
use Rattle.ecma_rules.specs.Children.{kind_of, has_child, child_is, child_holds, items_at, is_named}
use Rattle.ecma_rules.specs.Lists.{is_rest_pattern}

abbrev pub is_binding_name : Kind → Bool
is_binding_name kind.BindingIdent = true
is_binding_name _ = false

-- a pattern with a default has its pattern first
abbrev pub is_named_pattern : Kind → Node → Bool
is_named_pattern kind.BindingIdent node = true
is_named_pattern kind.AssignPat node = child_is is_binding_name node 0
is_named_pattern _ node = false

-- a name, perhaps with a default
abbrev pub is_plain_parameter : Node → Bool
is_plain_parameter node = is_named_pattern (kind_of node) node

abbrev pub is_property_kind : Kind → Bool
is_property_kind (kind.TsParamProp accessibility is_override readonly) = true
is_property_kind _ = false

abbrev pub is_declaring : Standing → Bool
is_declaring standing.Declaring = true
is_declaring _ = false

-- a parameter with modifiers that is none of a constructor with a body, or no plain name
--   class A { constructor(private b, readonly c = 1) { } }
--   function f(private a) { }   // refused
abbrev pub is_stray_property : Standing → Node → Bool
is_stray_property s node = is_property_kind (kind_of node) && not (is_declaring s && child_holds is_plain_parameter node 0)

-- the parameter `this`, which is a type of the function and no parameter
--   function f(this: T) { }
abbrev pub is_this_by : Kind → Node → Bool
is_this_by kind.BindingIdent node = child_is (is_named (codes "this")) node 0
is_this_by _ node = false

abbrev pub is_this_pattern : Node → Bool
is_this_pattern node = is_this_by (kind_of node) node

abbrev pub is_this_parameter : Node → Bool
is_this_parameter node = child_holds is_this_pattern node 0

-- a parameter that takes one argument: neither `this` nor the rest
abbrev pub takes_one : Node → Bool
takes_one parameter = not (is_this_parameter parameter) && not (child_is is_rest_pattern parameter 0)

-- one parameter, perhaps after one `this`
--   class A { set b(c) { } }
--   class A { set b() { } }   // refused
abbrev pub is_one_parameter : List Node → Bool
is_one_parameter (parameter ∷ []) = takes_one parameter
is_one_parameter (first ∷ parameter ∷ []) = is_this_parameter first && takes_one parameter
is_one_parameter _ = false

abbrev pub is_empty_list : List Node → Bool
is_empty_list [] = true
is_empty_list _ = false

-- the parameters of a function
abbrev pub parameters_of : Node → List Node
parameters_of function = items_at function 0

-- whether an accessor of a class has the parameters that its kind asks for
--   class A { get b() { return 1; } set b(c) { } }
--   class A { get b(c) { return 1; } }   // refused
abbrev pub fits_kind : MethodKind → Node → Bool
fits_kind Method function = true
fits_kind Getter function = is_empty_list (parameters_of function)
fits_kind Setter function = is_one_parameter (parameters_of function)

-- what an object's setter has in the place of its parameter where it may have none such: the rest, or the list of its parameters
abbrev pub takes_not_one : Kind → Bool
takes_not_one k = is_list k || is_rest_pattern k

-- a function with its body
abbrev pub has_body : Node → Bool
has_body function = has_child function 1

-- a rest with a default; a getter with a parameter, or a setter that does not take one argument; those of objects keep the parameters that they may not have
-- as a list; and a getter, setter or method of an object without a body, which the grammar reads as one of a class
--   ({ get a() { return 1; }, set a(b) { } });
--   (...a = b) => c;   // refused
--   ({ get a(), b() { } });   // refused
unfoldable pub misfits_by : Kind → Node → Bool
misfits_by kind.AssignPat node = child_is is_rest_pattern node 0
misfits_by kind.GetterProp node = has_child node 3 || not (has_child node 2)
misfits_by kind.SetterProp node = child_is takes_not_one node 2 || not (has_child node 3)
misfits_by kind.MethodProp node = not (child_holds has_body node 1)
misfits_by (kind.ClassMethod k modifiers) node = not (child_holds (fits_kind k) node 1)
misfits_by (kind.PrivateMethod k modifiers) node = not (child_holds (fits_kind k) node 1)
misfits_by _ node = false

abbrev pub is_misfit : Node → Bool
is_misfit node = misfits_by (kind_of node) node

abbrev pub behind_first : List Node → List Node
behind_first [] = []
behind_first (first ∷ others) = others

-- a function with a parameter `this` after its first one, or one of which no parameter is `this`: an arrow function, a constructor, and a setter of an object
-- beside its own `this`
--   function f(this: T, a) { }
--   function f(a, this: T) { }   // refused
unfoldable pub misplaces_this_by : Kind → Node → Bool
misplaces_this_by (kind.Function is_generator is_async) node = list_any is_this_parameter (behind_first (items_at node 0))
misplaces_this_by (kind.ArrowExpr is_async is_generator) node = list_any is_this_pattern (items_at node 0)
misplaces_this_by (kind.Constructor accessibility is_optional) node = list_any is_this_parameter (items_at node 1)
misplaces_this_by kind.SetterProp node = child_holds is_this_pattern node 2
misplaces_this_by _ node = false

abbrev pub misplaces_this : Node → Bool
misplaces_this node = misplaces_this_by (kind_of node) node

abbrev pub is_constructor : Kind → Bool
is_constructor (kind.Constructor accessibility is_optional) = true
is_constructor _ = false

abbrev pub is_full_constructor : Node → Bool
is_full_constructor node = is_constructor (kind_of node) && has_child node 2

abbrev pub second_of : List Node → Option ℕ
second_of (first ∷ second ∷ others) = Some (out-Node second).span.lo
second_of _ = None

abbrev pub second_by : Kind → Node → Option ℕ
second_by (kind.Class is_abstract) node = second_of (filter is_full_constructor (items_at node 1))
second_by _ node = None

-- the place of the second constructor of a class that has a body: a class has one at most
--   class A { constructor(b); constructor(b, c?) { } }
--   class A { constructor() { } constructor() { } }   // refused
abbrev pub second_constructor : Node → Option ℕ
second_constructor node = second_by (kind_of node) node

-- a class has two constructors with bodies
abbrev pub has_second_constructor : Node → Bool
has_second_constructor node = is_some (second_constructor node)

abbrev pub is_constructor_key : Kind → Bool
is_constructor_key (kind.IdentName sym) = bytes_eq sym (codes "constructor")
is_constructor_key (kind.Str value raw) = bytes_eq value (codes "constructor")
is_constructor_key _ = false

abbrev pub is_special_function : Kind → Bool
is_special_function (kind.Function is_generator is_async) = is_generator || is_async
is_special_function _ = false

abbrev pub is_method : MethodKind → Bool
is_method Method = true
is_method _ = false

abbrev pub is_special_by : Kind → Node → Bool
is_special_by (kind.ClassMethod k modifiers) node =
    not modifiers.is_static && (child_is is_constructor_key node 0 && (not (is_method k) || child_is is_special_function node 1))
is_special_by _ node = false

-- a constructor that is an accessor, a generator or async
--   class A { async ["constructor"]() { } }   // a key in brackets
--   class A { async constructor() { } }   // refused
abbrev pub is_special_constructor : Node → Bool
is_special_constructor node = is_special_by (kind_of node) node
