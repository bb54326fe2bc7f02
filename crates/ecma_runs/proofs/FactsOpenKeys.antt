-- Keys that are open: each fact is a small module and what node observes of it, by computing. Written by compare/facts.mjs.
use Rattle.std.proofs.Common.{refl, pos, [], ◌∷◌, true, false, codes}
use Rattle.ecma_number.specs.declared.js_number.JsNumber.TheVariants as js_number
use Rattle.ecma_kind.specs.declared.kind.Kind.TheVariants as kind
use Rattle.ecma_kind.specs.declared.operators.BinaryOp.TheVariants as binary
use Rattle.ecma_kind.specs.declared.operators.MetaPropKind.TheVariants.{ImportMeta}
use Rattle.ecma_kind.specs.declared.operators.MethodKind.TheVariants as method
use Rattle.ecma_kind.specs.declared.operators.UnaryOp.TheVariants as unary
use Rattle.ecma_kind.specs.declared.operators.VarDeclKind.TheVariants.{Let}
use Rattle.ecma_runs.specs.declared.observation.Event.TheVariants.{HostCall}
use Rattle.ecma_runs.specs.declared.observation.Ending.TheVariants as ending
use Rattle.ecma_runs.specs.declared.shown.Shown.TheVariants as shown
use Rattle.ecma_runs.proofs.Trees.{End, ◌▸◌, tree, absent, list, ident, key, computed, binding, whole, string, member, super_member, call, new', assign}
use Rattle.ecma_runs.proofs.Trees.{unary, binary, parens, array, object, statement, block, returns}
use Rattle.ecma_runs.proofs.Trees.{declare, declare_function, arrow, class_method, field, constructor', declare_class, meaning_node}
use Rattle.ecma_runs.proofs.Scripts.{Does, does, nulls}
use Rattle.std.specs.Fmt.{digits}

-- f(1); ({}).constructor;
constructor_of_objects :
    Does 9 nulls []
    (statement (call (ident (codes "f")) (whole 1 ▸ End))
    ▸ statement (member (parens (object End)) (codes "constructor"))
    ▸ End)
    (HostCall 7 shown.Undefined (shown.Num (js_number.Whole (pos 1)) ∷ []) ∷ []) (ending.Outside)
constructor_of_objects = does refl (simp meaning_node refl)

-- f(1); ({}).hasOwnProperty;
has_own_property_of_objects :
    Does 9 nulls []
    (statement (call (ident (codes "f")) (whole 1 ▸ End))
    ▸ statement (member (parens (object End)) (codes "hasOwnProperty"))
    ▸ End)
    (HostCall 7 shown.Undefined (shown.Num (js_number.Whole (pos 1)) ∷ []) ∷ []) (ending.Outside)
has_own_property_of_objects = does refl (simp meaning_node refl)

-- f(1); ({}).isPrototypeOf;
is_prototype_of_of_objects :
    Does 9 nulls []
    (statement (call (ident (codes "f")) (whole 1 ▸ End))
    ▸ statement (member (parens (object End)) (codes "isPrototypeOf"))
    ▸ End)
    (HostCall 7 shown.Undefined (shown.Num (js_number.Whole (pos 1)) ∷ []) ∷ []) (ending.Outside)
is_prototype_of_of_objects = does refl (simp meaning_node refl)

-- f(1); ({}).propertyIsEnumerable;
property_is_enumerable_of_objects :
    Does 9 nulls []
    (statement (call (ident (codes "f")) (whole 1 ▸ End))
    ▸ statement (member (parens (object End)) (codes "propertyIsEnumerable"))
    ▸ End)
    (HostCall 7 shown.Undefined (shown.Num (js_number.Whole (pos 1)) ∷ []) ∷ []) (ending.Outside)
property_is_enumerable_of_objects = does refl (simp meaning_node refl)

-- f(1); ({}).toLocaleString;
to_locale_string_of_objects :
    Does 9 nulls []
    (statement (call (ident (codes "f")) (whole 1 ▸ End))
    ▸ statement (member (parens (object End)) (codes "toLocaleString"))
    ▸ End)
    (HostCall 7 shown.Undefined (shown.Num (js_number.Whole (pos 1)) ∷ []) ∷ []) (ending.Outside)
to_locale_string_of_objects = does refl (simp meaning_node refl)

-- f(1); ({}).toString;
to_string_of_objects :
    Does 9 nulls []
    (statement (call (ident (codes "f")) (whole 1 ▸ End))
    ▸ statement (member (parens (object End)) (codes "toString"))
    ▸ End)
    (HostCall 7 shown.Undefined (shown.Num (js_number.Whole (pos 1)) ∷ []) ∷ []) (ending.Outside)
to_string_of_objects = does refl (simp meaning_node refl)

-- f(1); ({}).valueOf;
value_of_of_objects :
    Does 9 nulls []
    (statement (call (ident (codes "f")) (whole 1 ▸ End))
    ▸ statement (member (parens (object End)) (codes "valueOf"))
    ▸ End)
    (HostCall 7 shown.Undefined (shown.Num (js_number.Whole (pos 1)) ∷ []) ∷ []) (ending.Outside)
value_of_of_objects = does refl (simp meaning_node refl)

-- f(1); ({}).__proto__;
proto_of_objects :
    Does 9 nulls []
    (statement (call (ident (codes "f")) (whole 1 ▸ End))
    ▸ statement (member (parens (object End)) (codes "__proto__"))
    ▸ End)
    (HostCall 7 shown.Undefined (shown.Num (js_number.Whole (pos 1)) ∷ []) ∷ []) (ending.Outside)
proto_of_objects = does refl (simp meaning_node refl)

-- f(1); ({}).__defineGetter__;
define_getter_of_objects :
    Does 9 nulls []
    (statement (call (ident (codes "f")) (whole 1 ▸ End))
    ▸ statement (member (parens (object End)) (codes "__defineGetter__"))
    ▸ End)
    (HostCall 7 shown.Undefined (shown.Num (js_number.Whole (pos 1)) ∷ []) ∷ []) (ending.Outside)
define_getter_of_objects = does refl (simp meaning_node refl)

-- f(1); ({}).__defineSetter__;
define_setter_of_objects :
    Does 9 nulls []
    (statement (call (ident (codes "f")) (whole 1 ▸ End))
    ▸ statement (member (parens (object End)) (codes "__defineSetter__"))
    ▸ End)
    (HostCall 7 shown.Undefined (shown.Num (js_number.Whole (pos 1)) ∷ []) ∷ []) (ending.Outside)
define_setter_of_objects = does refl (simp meaning_node refl)

-- f(1); ({}).__lookupGetter__;
lookup_getter_of_objects :
    Does 9 nulls []
    (statement (call (ident (codes "f")) (whole 1 ▸ End))
    ▸ statement (member (parens (object End)) (codes "__lookupGetter__"))
    ▸ End)
    (HostCall 7 shown.Undefined (shown.Num (js_number.Whole (pos 1)) ∷ []) ∷ []) (ending.Outside)
lookup_getter_of_objects = does refl (simp meaning_node refl)

-- f(1); ({}).__lookupSetter__;
lookup_setter_of_objects :
    Does 9 nulls []
    (statement (call (ident (codes "f")) (whole 1 ▸ End))
    ▸ statement (member (parens (object End)) (codes "__lookupSetter__"))
    ▸ End)
    (HostCall 7 shown.Undefined (shown.Num (js_number.Whole (pos 1)) ∷ []) ∷ []) (ending.Outside)
lookup_setter_of_objects = does refl (simp meaning_node refl)

-- f(1); (() => 1).length;
length_of_functions :
    Does 9 nulls []
    (statement (call (ident (codes "f")) (whole 1 ▸ End))
    ▸ statement (member (parens (arrow End (whole 1))) (codes "length"))
    ▸ End)
    (HostCall 7 shown.Undefined (shown.Num (js_number.Whole (pos 1)) ∷ []) ∷ []) (ending.Outside)
length_of_functions = does refl (simp meaning_node refl)

-- f(1); (() => 1).arguments;
arguments_of_functions :
    Does 9 nulls []
    (statement (call (ident (codes "f")) (whole 1 ▸ End))
    ▸ statement (member (parens (arrow End (whole 1))) (codes "arguments"))
    ▸ End)
    (HostCall 7 shown.Undefined (shown.Num (js_number.Whole (pos 1)) ∷ []) ∷ []) (ending.Outside)
arguments_of_functions = does refl (simp meaning_node refl)

-- f(1); (() => 1).caller;
caller_of_functions :
    Does 9 nulls []
    (statement (call (ident (codes "f")) (whole 1 ▸ End))
    ▸ statement (member (parens (arrow End (whole 1))) (codes "caller"))
    ▸ End)
    (HostCall 7 shown.Undefined (shown.Num (js_number.Whole (pos 1)) ∷ []) ∷ []) (ending.Outside)
caller_of_functions = does refl (simp meaning_node refl)

-- f(1); (() => 1).call;
call_of_functions :
    Does 9 nulls []
    (statement (call (ident (codes "f")) (whole 1 ▸ End))
    ▸ statement (member (parens (arrow End (whole 1))) (codes "call"))
    ▸ End)
    (HostCall 7 shown.Undefined (shown.Num (js_number.Whole (pos 1)) ∷ []) ∷ []) (ending.Outside)
call_of_functions = does refl (simp meaning_node refl)

-- f(1); (() => 1).apply;
apply_of_functions :
    Does 9 nulls []
    (statement (call (ident (codes "f")) (whole 1 ▸ End))
    ▸ statement (member (parens (arrow End (whole 1))) (codes "apply"))
    ▸ End)
    (HostCall 7 shown.Undefined (shown.Num (js_number.Whole (pos 1)) ∷ []) ∷ []) (ending.Outside)
apply_of_functions = does refl (simp meaning_node refl)

-- f(1); (() => 1).bind;
bind_of_functions :
    Does 9 nulls []
    (statement (call (ident (codes "f")) (whole 1 ▸ End))
    ▸ statement (member (parens (arrow End (whole 1))) (codes "bind"))
    ▸ End)
    (HostCall 7 shown.Undefined (shown.Num (js_number.Whole (pos 1)) ∷ []) ∷ []) (ending.Outside)
bind_of_functions = does refl (simp meaning_node refl)

-- f(1); (function* () {}).prototype.constructor;
constructor_of_generators :
    Does 9 nulls []
    (statement (call (ident (codes "f")) (whole 1 ▸ End))
    ▸ statement (member (member (parens (tree kind.FnExpr (absent ▸ tree (kind.Function true false) (list End ▸ block End ▸ absent ▸ absent ▸ End)
    ▸ End))) (codes "prototype")) (codes "constructor"))
    ▸ End)
    (HostCall 7 shown.Undefined (shown.Num (js_number.Whole (pos 1)) ∷ []) ∷ []) (ending.Outside)
constructor_of_generators = does refl (simp meaning_node refl)

-- f(1); (function* () {}).prototype.next;
next_of_generators :
    Does 9 nulls []
    (statement (call (ident (codes "f")) (whole 1 ▸ End))
    ▸ statement (member (member (parens (tree kind.FnExpr (absent ▸ tree (kind.Function true false) (list End ▸ block End ▸ absent ▸ absent ▸ End)
    ▸ End))) (codes "prototype")) (codes "next"))
    ▸ End)
    (HostCall 7 shown.Undefined (shown.Num (js_number.Whole (pos 1)) ∷ []) ∷ []) (ending.Outside)
next_of_generators = does refl (simp meaning_node refl)

-- f(1); (function* () {}).prototype.return;
return_of_generators :
    Does 9 nulls []
    (statement (call (ident (codes "f")) (whole 1 ▸ End))
    ▸ statement (member (member (parens (tree kind.FnExpr (absent ▸ tree (kind.Function true false) (list End ▸ block End ▸ absent ▸ absent ▸ End)
    ▸ End))) (codes "prototype")) (codes "return"))
    ▸ End)
    (HostCall 7 shown.Undefined (shown.Num (js_number.Whole (pos 1)) ∷ []) ∷ []) (ending.Outside)
return_of_generators = does refl (simp meaning_node refl)

-- f(1); (function* () {}).prototype.throw;
throw_of_generators :
    Does 9 nulls []
    (statement (call (ident (codes "f")) (whole 1 ▸ End))
    ▸ statement (member (member (parens (tree kind.FnExpr (absent ▸ tree (kind.Function true false) (list End ▸ block End ▸ absent ▸ absent ▸ End)
    ▸ End))) (codes "prototype")) (codes "throw"))
    ▸ End)
    (HostCall 7 shown.Undefined (shown.Num (js_number.Whole (pos 1)) ∷ []) ∷ []) (ending.Outside)
throw_of_generators = does refl (simp meaning_node refl)

-- f(1); (function* () {}).prototype.drop;
drop_of_generators :
    Does 9 nulls []
    (statement (call (ident (codes "f")) (whole 1 ▸ End))
    ▸ statement (member (member (parens (tree kind.FnExpr (absent ▸ tree (kind.Function true false) (list End ▸ block End ▸ absent ▸ absent ▸ End)
    ▸ End))) (codes "prototype")) (codes "drop"))
    ▸ End)
    (HostCall 7 shown.Undefined (shown.Num (js_number.Whole (pos 1)) ∷ []) ∷ []) (ending.Outside)
drop_of_generators = does refl (simp meaning_node refl)

-- f(1); (function* () {}).prototype.every;
every_of_generators :
    Does 9 nulls []
    (statement (call (ident (codes "f")) (whole 1 ▸ End))
    ▸ statement (member (member (parens (tree kind.FnExpr (absent ▸ tree (kind.Function true false) (list End ▸ block End ▸ absent ▸ absent ▸ End)
    ▸ End))) (codes "prototype")) (codes "every"))
    ▸ End)
    (HostCall 7 shown.Undefined (shown.Num (js_number.Whole (pos 1)) ∷ []) ∷ []) (ending.Outside)
every_of_generators = does refl (simp meaning_node refl)

-- f(1); (function* () {}).prototype.filter;
filter_of_generators :
    Does 9 nulls []
    (statement (call (ident (codes "f")) (whole 1 ▸ End))
    ▸ statement (member (member (parens (tree kind.FnExpr (absent ▸ tree (kind.Function true false) (list End ▸ block End ▸ absent ▸ absent ▸ End)
    ▸ End))) (codes "prototype")) (codes "filter"))
    ▸ End)
    (HostCall 7 shown.Undefined (shown.Num (js_number.Whole (pos 1)) ∷ []) ∷ []) (ending.Outside)
filter_of_generators = does refl (simp meaning_node refl)

-- f(1); (function* () {}).prototype.find;
find_of_generators :
    Does 9 nulls []
    (statement (call (ident (codes "f")) (whole 1 ▸ End))
    ▸ statement (member (member (parens (tree kind.FnExpr (absent ▸ tree (kind.Function true false) (list End ▸ block End ▸ absent ▸ absent ▸ End)
    ▸ End))) (codes "prototype")) (codes "find"))
    ▸ End)
    (HostCall 7 shown.Undefined (shown.Num (js_number.Whole (pos 1)) ∷ []) ∷ []) (ending.Outside)
find_of_generators = does refl (simp meaning_node refl)

-- f(1); (function* () {}).prototype.flatMap;
flat_map_of_generators :
    Does 9 nulls []
    (statement (call (ident (codes "f")) (whole 1 ▸ End))
    ▸ statement (member (member (parens (tree kind.FnExpr (absent ▸ tree (kind.Function true false) (list End ▸ block End ▸ absent ▸ absent ▸ End)
    ▸ End))) (codes "prototype")) (codes "flatMap"))
    ▸ End)
    (HostCall 7 shown.Undefined (shown.Num (js_number.Whole (pos 1)) ∷ []) ∷ []) (ending.Outside)
flat_map_of_generators = does refl (simp meaning_node refl)

-- f(1); (function* () {}).prototype.forEach;
for_each_of_generators :
    Does 9 nulls []
    (statement (call (ident (codes "f")) (whole 1 ▸ End))
    ▸ statement (member (member (parens (tree kind.FnExpr (absent ▸ tree (kind.Function true false) (list End ▸ block End ▸ absent ▸ absent ▸ End)
    ▸ End))) (codes "prototype")) (codes "forEach"))
    ▸ End)
    (HostCall 7 shown.Undefined (shown.Num (js_number.Whole (pos 1)) ∷ []) ∷ []) (ending.Outside)
for_each_of_generators = does refl (simp meaning_node refl)

-- f(1); (function* () {}).prototype.map;
map_of_generators :
    Does 9 nulls []
    (statement (call (ident (codes "f")) (whole 1 ▸ End))
    ▸ statement (member (member (parens (tree kind.FnExpr (absent ▸ tree (kind.Function true false) (list End ▸ block End ▸ absent ▸ absent ▸ End)
    ▸ End))) (codes "prototype")) (codes "map"))
    ▸ End)
    (HostCall 7 shown.Undefined (shown.Num (js_number.Whole (pos 1)) ∷ []) ∷ []) (ending.Outside)
map_of_generators = does refl (simp meaning_node refl)

-- f(1); (function* () {}).prototype.reduce;
reduce_of_generators :
    Does 9 nulls []
    (statement (call (ident (codes "f")) (whole 1 ▸ End))
    ▸ statement (member (member (parens (tree kind.FnExpr (absent ▸ tree (kind.Function true false) (list End ▸ block End ▸ absent ▸ absent ▸ End)
    ▸ End))) (codes "prototype")) (codes "reduce"))
    ▸ End)
    (HostCall 7 shown.Undefined (shown.Num (js_number.Whole (pos 1)) ∷ []) ∷ []) (ending.Outside)
reduce_of_generators = does refl (simp meaning_node refl)

-- f(1); (function* () {}).prototype.some;
some_of_generators :
    Does 9 nulls []
    (statement (call (ident (codes "f")) (whole 1 ▸ End))
    ▸ statement (member (member (parens (tree kind.FnExpr (absent ▸ tree (kind.Function true false) (list End ▸ block End ▸ absent ▸ absent ▸ End)
    ▸ End))) (codes "prototype")) (codes "some"))
    ▸ End)
    (HostCall 7 shown.Undefined (shown.Num (js_number.Whole (pos 1)) ∷ []) ∷ []) (ending.Outside)
some_of_generators = does refl (simp meaning_node refl)

-- f(1); (function* () {}).prototype.take;
take_of_generators :
    Does 9 nulls []
    (statement (call (ident (codes "f")) (whole 1 ▸ End))
    ▸ statement (member (member (parens (tree kind.FnExpr (absent ▸ tree (kind.Function true false) (list End ▸ block End ▸ absent ▸ absent ▸ End)
    ▸ End))) (codes "prototype")) (codes "take"))
    ▸ End)
    (HostCall 7 shown.Undefined (shown.Num (js_number.Whole (pos 1)) ∷ []) ∷ []) (ending.Outside)
take_of_generators = does refl (simp meaning_node refl)

-- f(1); (function* () {}).prototype.toArray;
to_array_of_generators :
    Does 9 nulls []
    (statement (call (ident (codes "f")) (whole 1 ▸ End))
    ▸ statement (member (member (parens (tree kind.FnExpr (absent ▸ tree (kind.Function true false) (list End ▸ block End ▸ absent ▸ absent ▸ End)
    ▸ End))) (codes "prototype")) (codes "toArray"))
    ▸ End)
    (HostCall 7 shown.Undefined (shown.Num (js_number.Whole (pos 1)) ∷ []) ∷ []) (ending.Outside)
to_array_of_generators = does refl (simp meaning_node refl)

-- f(1); (async function* () {}).bind().prototype;
prototypes_of_bound_generators :
    Does 9 nulls []
    (statement (call (ident (codes "f")) (whole 1 ▸ End))
    ▸ statement (member (call (member (parens (tree kind.FnExpr (absent ▸ tree (kind.Function true true) (list End ▸ block End ▸ absent ▸ absent ▸ End)
    ▸ End))) (codes "bind")) End) (codes "prototype"))
    ▸ End)
    (HostCall 7 shown.Undefined (shown.Num (js_number.Whole (pos 1)) ∷ []) ∷ []) (ending.Outside)
prototypes_of_bound_generators = does refl (simp meaning_node refl)

-- f(1); (function* h() {}).name;
names_of_generators :
    Does 9 nulls []
    (statement (call (ident (codes "f")) (whole 1 ▸ End))
    ▸ statement (member (parens (tree kind.FnExpr (ident (codes "h") ▸ tree (kind.Function true false) (list End ▸ block End ▸ absent ▸ absent ▸ End) ▸ End))) (codes "name"))
    ▸ End)
    (HostCall 7 shown.Undefined (shown.Num (js_number.Whole (pos 1)) ∷ []) ∷ []) (ending.Outside)
names_of_generators = does refl (simp meaning_node refl)

-- f(1); (async (a) => a).length;
lengths_of_async_functions :
    Does 9 nulls []
    (statement (call (ident (codes "f")) (whole 1 ▸ End))
    ▸ statement (member (parens (tree (kind.ArrowExpr true false) (list (binding (codes "a") ▸ End) ▸ ident (codes "a") ▸ absent ▸ absent ▸ End))) (codes "length"))
    ▸ End)
    (HostCall 7 shown.Undefined (shown.Num (js_number.Whole (pos 1)) ∷ []) ∷ []) (ending.Outside)
lengths_of_async_functions = does refl (simp meaning_node refl)

-- f(1); (function* () {}).prototype.next = f(2);
writes_over_what_generators_share :
    Does 9 nulls []
    (statement (call (ident (codes "f")) (whole 1 ▸ End))
    ▸ statement (assign (member (member (parens (tree kind.FnExpr (absent ▸ tree (kind.Function true false) (list End ▸ block End ▸ absent ▸ absent ▸ End)
    ▸ End))) (codes "prototype")) (codes "next")) (call (ident (codes "f")) (whole 2 ▸ End)))
    ▸ End)
    (HostCall 7 shown.Undefined (shown.Num (js_number.Whole (pos 1)) ∷ []) ∷ HostCall 7 shown.Undefined (shown.Num (js_number.Whole (pos 2)) ∷ []) ∷ []) (ending.Outside)
writes_over_what_generators_share = does refl (simp meaning_node refl)

-- f(1); /a/.constructor;
constructor_of_regular_expressions :
    Does 9 nulls []
    (statement (call (ident (codes "f")) (whole 1 ▸ End))
    ▸ statement (member (tree (kind.Regex (codes "a") (codes "")) End) (codes "constructor"))
    ▸ End)
    (HostCall 7 shown.Undefined (shown.Num (js_number.Whole (pos 1)) ∷ []) ∷ []) (ending.Outside)
constructor_of_regular_expressions = does refl (simp meaning_node refl)

-- f(1); /a/.toString;
to_string_of_regular_expressions :
    Does 9 nulls []
    (statement (call (ident (codes "f")) (whole 1 ▸ End))
    ▸ statement (member (tree (kind.Regex (codes "a") (codes "")) End) (codes "toString"))
    ▸ End)
    (HostCall 7 shown.Undefined (shown.Num (js_number.Whole (pos 1)) ∷ []) ∷ []) (ending.Outside)
to_string_of_regular_expressions = does refl (simp meaning_node refl)

-- f(1); /a/.exec;
exec_of_regular_expressions :
    Does 9 nulls []
    (statement (call (ident (codes "f")) (whole 1 ▸ End))
    ▸ statement (member (tree (kind.Regex (codes "a") (codes "")) End) (codes "exec"))
    ▸ End)
    (HostCall 7 shown.Undefined (shown.Num (js_number.Whole (pos 1)) ∷ []) ∷ []) (ending.Outside)
exec_of_regular_expressions = does refl (simp meaning_node refl)

-- f(1); /a/.test;
test_of_regular_expressions :
    Does 9 nulls []
    (statement (call (ident (codes "f")) (whole 1 ▸ End))
    ▸ statement (member (tree (kind.Regex (codes "a") (codes "")) End) (codes "test"))
    ▸ End)
    (HostCall 7 shown.Undefined (shown.Num (js_number.Whole (pos 1)) ∷ []) ∷ []) (ending.Outside)
test_of_regular_expressions = does refl (simp meaning_node refl)

-- f(1); /a/.compile;
compile_of_regular_expressions :
    Does 9 nulls []
    (statement (call (ident (codes "f")) (whole 1 ▸ End))
    ▸ statement (member (tree (kind.Regex (codes "a") (codes "")) End) (codes "compile"))
    ▸ End)
    (HostCall 7 shown.Undefined (shown.Num (js_number.Whole (pos 1)) ∷ []) ∷ []) (ending.Outside)
compile_of_regular_expressions = does refl (simp meaning_node refl)

-- f(1); /a/.source;
source_of_regular_expressions :
    Does 9 nulls []
    (statement (call (ident (codes "f")) (whole 1 ▸ End))
    ▸ statement (member (tree (kind.Regex (codes "a") (codes "")) End) (codes "source"))
    ▸ End)
    (HostCall 7 shown.Undefined (shown.Num (js_number.Whole (pos 1)) ∷ []) ∷ []) (ending.Outside)
source_of_regular_expressions = does refl (simp meaning_node refl)

-- f(1); /a/.flags;
flags_of_regular_expressions :
    Does 9 nulls []
    (statement (call (ident (codes "f")) (whole 1 ▸ End))
    ▸ statement (member (tree (kind.Regex (codes "a") (codes "")) End) (codes "flags"))
    ▸ End)
    (HostCall 7 shown.Undefined (shown.Num (js_number.Whole (pos 1)) ∷ []) ∷ []) (ending.Outside)
flags_of_regular_expressions = does refl (simp meaning_node refl)

-- f(1); /a/.dotAll;
dot_all_of_regular_expressions :
    Does 9 nulls []
    (statement (call (ident (codes "f")) (whole 1 ▸ End))
    ▸ statement (member (tree (kind.Regex (codes "a") (codes "")) End) (codes "dotAll"))
    ▸ End)
    (HostCall 7 shown.Undefined (shown.Num (js_number.Whole (pos 1)) ∷ []) ∷ []) (ending.Outside)
dot_all_of_regular_expressions = does refl (simp meaning_node refl)

-- f(1); /a/.global;
global_of_regular_expressions :
    Does 9 nulls []
    (statement (call (ident (codes "f")) (whole 1 ▸ End))
    ▸ statement (member (tree (kind.Regex (codes "a") (codes "")) End) (codes "global"))
    ▸ End)
    (HostCall 7 shown.Undefined (shown.Num (js_number.Whole (pos 1)) ∷ []) ∷ []) (ending.Outside)
global_of_regular_expressions = does refl (simp meaning_node refl)

-- f(1); /a/.hasIndices;
has_indices_of_regular_expressions :
    Does 9 nulls []
    (statement (call (ident (codes "f")) (whole 1 ▸ End))
    ▸ statement (member (tree (kind.Regex (codes "a") (codes "")) End) (codes "hasIndices"))
    ▸ End)
    (HostCall 7 shown.Undefined (shown.Num (js_number.Whole (pos 1)) ∷ []) ∷ []) (ending.Outside)
has_indices_of_regular_expressions = does refl (simp meaning_node refl)

-- f(1); /a/.ignoreCase;
ignore_case_of_regular_expressions :
    Does 9 nulls []
    (statement (call (ident (codes "f")) (whole 1 ▸ End))
    ▸ statement (member (tree (kind.Regex (codes "a") (codes "")) End) (codes "ignoreCase"))
    ▸ End)
    (HostCall 7 shown.Undefined (shown.Num (js_number.Whole (pos 1)) ∷ []) ∷ []) (ending.Outside)
ignore_case_of_regular_expressions = does refl (simp meaning_node refl)

-- f(1); /a/.multiline;
multiline_of_regular_expressions :
    Does 9 nulls []
    (statement (call (ident (codes "f")) (whole 1 ▸ End))
    ▸ statement (member (tree (kind.Regex (codes "a") (codes "")) End) (codes "multiline"))
    ▸ End)
    (HostCall 7 shown.Undefined (shown.Num (js_number.Whole (pos 1)) ∷ []) ∷ []) (ending.Outside)
multiline_of_regular_expressions = does refl (simp meaning_node refl)

-- f(1); /a/.sticky;
sticky_of_regular_expressions :
    Does 9 nulls []
    (statement (call (ident (codes "f")) (whole 1 ▸ End))
    ▸ statement (member (tree (kind.Regex (codes "a") (codes "")) End) (codes "sticky"))
    ▸ End)
    (HostCall 7 shown.Undefined (shown.Num (js_number.Whole (pos 1)) ∷ []) ∷ []) (ending.Outside)
sticky_of_regular_expressions = does refl (simp meaning_node refl)

-- f(1); /a/.unicode;
unicode_of_regular_expressions :
    Does 9 nulls []
    (statement (call (ident (codes "f")) (whole 1 ▸ End))
    ▸ statement (member (tree (kind.Regex (codes "a") (codes "")) End) (codes "unicode"))
    ▸ End)
    (HostCall 7 shown.Undefined (shown.Num (js_number.Whole (pos 1)) ∷ []) ∷ []) (ending.Outside)
unicode_of_regular_expressions = does refl (simp meaning_node refl)

-- f(1); /a/.unicodeSets;
unicode_sets_of_regular_expressions :
    Does 9 nulls []
    (statement (call (ident (codes "f")) (whole 1 ▸ End))
    ▸ statement (member (tree (kind.Regex (codes "a") (codes "")) End) (codes "unicodeSets"))
    ▸ End)
    (HostCall 7 shown.Undefined (shown.Num (js_number.Whole (pos 1)) ∷ []) ∷ []) (ending.Outside)
unicode_sets_of_regular_expressions = does refl (simp meaning_node refl)

-- f(1); /a/.test(f(2));
calls_of_methods_of_regular_expressions :
    Does 9 nulls []
    (statement (call (ident (codes "f")) (whole 1 ▸ End))
    ▸ statement (call (member (tree (kind.Regex (codes "a") (codes "")) End) (codes "test")) (call (ident (codes "f")) (whole 2 ▸ End) ▸ End))
    ▸ End)
    (HostCall 7 shown.Undefined (shown.Num (js_number.Whole (pos 1)) ∷ []) ∷ []) (ending.Outside)
calls_of_methods_of_regular_expressions = does refl (simp meaning_node refl)

-- f(1); /a/.test = f(2);
writes_over_what_regular_expressions_share :
    Does 9 nulls []
    (statement (call (ident (codes "f")) (whole 1 ▸ End))
    ▸ statement (assign (member (tree (kind.Regex (codes "a") (codes "")) End) (codes "test")) (call (ident (codes "f")) (whole 2 ▸ End)))
    ▸ End)
    (HostCall 7 shown.Undefined (shown.Num (js_number.Whole (pos 1)) ∷ []) ∷ HostCall 7 shown.Undefined (shown.Num (js_number.Whole (pos 2)) ∷ []) ∷ []) (ending.Outside)
writes_over_what_regular_expressions_share = does refl (simp meaning_node refl)

-- f(1); (() => 1).bind().name;
names_of_bound_functions :
    Does 9 nulls []
    (statement (call (ident (codes "f")) (whole 1 ▸ End))
    ▸ statement (member (call (member (parens (arrow End (whole 1))) (codes "bind")) End) (codes "name"))
    ▸ End)
    (HostCall 7 shown.Undefined (shown.Num (js_number.Whole (pos 1)) ∷ []) ∷ []) (ending.Outside)
names_of_bound_functions = does refl (simp meaning_node refl)

-- f(1); "name" in (() => 1);
names_of_functions_under_in :
    Does 9 nulls []
    (statement (call (ident (codes "f")) (whole 1 ▸ End))
    ▸ statement (binary binary.In (string (codes "name")) (parens (arrow End (whole 1))))
    ▸ End)
    (HostCall 7 shown.Undefined (shown.Num (js_number.Whole (pos 1)) ∷ []) ∷ []) (ending.Outside)
names_of_functions_under_in = does refl (simp meaning_node refl)

-- f(1); delete (() => 1).name;
deletion_of_names_of_functions :
    Does 9 nulls []
    (statement (call (ident (codes "f")) (whole 1 ▸ End))
    ▸ statement (unary unary.Delete (member (parens (arrow End (whole 1))) (codes "name")))
    ▸ End)
    (HostCall 7 shown.Undefined (shown.Num (js_number.Whole (pos 1)) ∷ []) ∷ []) (ending.Outside)
deletion_of_names_of_functions = does refl (simp meaning_node refl)

-- f(1); delete (() => 1).length;
deletion_of_lengths_of_functions :
    Does 9 nulls []
    (statement (call (ident (codes "f")) (whole 1 ▸ End))
    ▸ statement (unary unary.Delete (member (parens (arrow End (whole 1))) (codes "length")))
    ▸ End)
    (HostCall 7 shown.Undefined (shown.Num (js_number.Whole (pos 1)) ∷ []) ∷ []) (ending.Outside)
deletion_of_lengths_of_functions = does refl (simp meaning_node refl)

-- function h() {} f(1); delete h.prototype.constructor;
deletion_of_constructors :
    Does 9 nulls []
    (declare_function (codes "h") End End
    ▸ statement (call (ident (codes "f")) (whole 1 ▸ End))
    ▸ statement (unary unary.Delete (member (member (ident (codes "h")) (codes "prototype")) (codes "constructor")))
    ▸ End)
    (HostCall 7 shown.Undefined (shown.Num (js_number.Whole (pos 1)) ∷ []) ∷ []) (ending.Outside)
deletion_of_constructors = does refl (simp meaning_node refl)

-- function h() {} f(1); h.toString(f(2));
calls_of_other_methods_of_functions :
    Does 9 nulls []
    (declare_function (codes "h") End End
    ▸ statement (call (ident (codes "f")) (whole 1 ▸ End))
    ▸ statement (call (member (ident (codes "h")) (codes "toString")) (call (ident (codes "f")) (whole 2 ▸ End) ▸ End))
    ▸ End)
    (HostCall 7 shown.Undefined (shown.Num (js_number.Whole (pos 1)) ∷ []) ∷ []) (ending.Outside)
calls_of_other_methods_of_functions = does refl (simp meaning_node refl)

-- class A { static m() { f(1); super.name; } } A.m();
names_behind_a_class :
    Does 9 nulls []
    (declare_class (codes "A") absent (class_method method.Method true (key (codes "m")) End (statement (call (ident (codes "f")) (whole 1 ▸ End))
    ▸ statement (super_member (codes "name")) ▸ End) ▸ End)
    ▸ statement (call (member (ident (codes "A")) (codes "m")) End)
    ▸ End)
    (HostCall 7 shown.Undefined (shown.Num (js_number.Whole (pos 1)) ∷ []) ∷ []) (ending.Outside)
names_behind_a_class = does refl (simp meaning_node refl)

-- class A { static m() { f(1); super.length; } } A.m();
lengths_behind_a_class :
    Does 9 nulls []
    (declare_class (codes "A") absent (class_method method.Method true (key (codes "m")) End (statement (call (ident (codes "f")) (whole 1 ▸ End))
    ▸ statement (super_member (codes "length")) ▸ End) ▸ End)
    ▸ statement (call (member (ident (codes "A")) (codes "m")) End)
    ▸ End)
    (HostCall 7 shown.Undefined (shown.Num (js_number.Whole (pos 1)) ∷ []) ∷ []) (ending.Outside)
lengths_behind_a_class = does refl (simp meaning_node refl)

-- class A { static name = 1; } class B extends A { static m() { super.name = f(2); } } B.m();
writes_of_names_by_super :
    Does 9 nulls []
    (declare_class (codes "A") absent (field true (key (codes "name")) (whole 1) ▸ End)
    ▸ declare_class (codes "B") (ident (codes "A")) (class_method method.Method true (key (codes "m")) End (statement (assign (super_member (codes "name")) (call (ident (codes "f")) (whole 2
    ▸ End))) ▸ End) ▸ End)
    ▸ statement (call (member (ident (codes "B")) (codes "m")) End)
    ▸ End)
    (HostCall 7 shown.Undefined (shown.Num (js_number.Whole (pos 2)) ∷ []) ∷ []) (ending.Outside)
writes_of_names_by_super = does refl (simp meaning_node refl)

-- function h() { f(1); arguments.push; } h();
methods_of_arguments :
    Does 9 nulls []
    (declare_function (codes "h") End (statement (call (ident (codes "f")) (whole 1 ▸ End)) ▸ statement (member (ident (codes "arguments")) (codes "push")) ▸ End)
    ▸ statement (call (ident (codes "h")) End)
    ▸ End)
    (HostCall 7 shown.Undefined (shown.Num (js_number.Whole (pos 1)) ∷ []) ∷ []) (ending.Outside)
methods_of_arguments = does refl (simp meaning_node refl)

-- function h() {} h.prototype = []; let o = new h(); f(o.length); o.push;
methods_behind_an_array :
    Does 9 nulls []
    (declare_function (codes "h") End End
    ▸ statement (assign (member (ident (codes "h")) (codes "prototype")) (array End))
    ▸ declare Let (codes "o") (new' (ident (codes "h")) End)
    ▸ statement (call (ident (codes "f")) (member (ident (codes "o")) (codes "length") ▸ End))
    ▸ statement (member (ident (codes "o")) (codes "push"))
    ▸ End)
    (HostCall 7 shown.Undefined (shown.Num (js_number.Whole (pos 0)) ∷ []) ∷ []) (ending.Outside)
methods_behind_an_array = does refl (simp meaning_node refl)

-- function h() { f(arguments[1]); arguments[1] = f(2); } h(1);
elements_behind_the_end_of_arguments :
    Does 9 nulls []
    (declare_function (codes "h") End (statement (call (ident (codes "f")) (tree kind.MemberExpr (ident (codes "arguments") ▸ computed (whole 1) ▸ End) ▸ End))
    ▸ statement (assign (tree kind.MemberExpr (ident (codes "arguments") ▸ computed (whole 1) ▸ End)) (call (ident (codes "f")) (whole 2 ▸ End))) ▸ End)
    ▸ statement (call (ident (codes "h")) (whole 1 ▸ End))
    ▸ End)
    (HostCall 7 shown.Undefined (shown.Undefined ∷ []) ∷ HostCall 7 shown.Undefined (shown.Num (js_number.Whole (pos 2)) ∷ []) ∷ []) (ending.Outside)
unfolding digits
elements_behind_the_end_of_arguments = does refl (simp meaning_node refl)

-- f(1); delete [].push;
deletion_of_methods_of_arrays :
    Does 9 nulls []
    (statement (call (ident (codes "f")) (whole 1 ▸ End))
    ▸ statement (unary unary.Delete (member (array End) (codes "push")))
    ▸ End)
    (HostCall 7 shown.Undefined (shown.Num (js_number.Whole (pos 1)) ∷ []) ∷ []) (ending.Outside)
deletion_of_methods_of_arrays = does refl (simp meaning_node refl)

-- class A { constructor() { return []; } } class B extends A { x = f(1); } new B();
fields_of_arrays :
    Does 9 nulls []
    (declare_class (codes "A") absent (constructor' End (returns (array End) ▸ End) ▸ End)
    ▸ declare_class (codes "B") (ident (codes "A")) (field false (key (codes "x")) (call (ident (codes "f")) (whole 1 ▸ End)) ▸ End)
    ▸ statement (new' (ident (codes "B")) End)
    ▸ End)
    (HostCall 7 shown.Undefined (shown.Num (js_number.Whole (pos 1)) ∷ []) ∷ []) (ending.Outside)
fields_of_arrays = does refl (simp meaning_node refl)

-- f(1); import.meta.x;
members_of_meta :
    Does 9 nulls []
    (statement (call (ident (codes "f")) (whole 1 ▸ End))
    ▸ statement (member (tree (kind.MetaPropExpr ImportMeta) End) (codes "x"))
    ▸ End)
    (HostCall 7 shown.Undefined (shown.Num (js_number.Whole (pos 1)) ∷ []) ∷ []) (ending.Outside)
members_of_meta = does refl (simp meaning_node refl)

-- f(1); typeof import.meta;
types_of_meta :
    Does 9 nulls []
    (statement (call (ident (codes "f")) (whole 1 ▸ End))
    ▸ statement (unary unary.TypeOf (tree (kind.MetaPropExpr ImportMeta) End))
    ▸ End)
    (HostCall 7 shown.Undefined (shown.Num (js_number.Whole (pos 1)) ∷ []) ∷ []) (ending.Outside)
types_of_meta = does refl (simp meaning_node refl)
