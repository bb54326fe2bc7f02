-- Kinds of nodes that are open: each fact is a small module and what node observes of it, by computing. Written by compare/facts.mjs.
use Rattle.std.proofs.Common.{refl, pos, [], ◌∷◌, Some, None, true, false, codes}
use Rattle.ecma_number.specs.declared.js_number.JsNumber.TheVariants as js_number
use Rattle.ecma_kind.specs.declared.kind.Kind.TheVariants as kind
use Rattle.ecma_kind.specs.declared.operators.MetaPropKind.TheVariants.{NewTarget, ImportMeta}
use Rattle.ecma_kind.specs.declared.operators.MethodKind.TheVariants as method
use Rattle.ecma_kind.specs.declared.operators.VarDeclKind.TheVariants.{Let}
use Rattle.ecma_runs.specs.declared.observation.Event.TheVariants.{HostCall}
use Rattle.ecma_runs.specs.declared.observation.Ending.TheVariants as ending
use Rattle.ecma_runs.specs.declared.shown.Shown.TheVariants as shown
use Rattle.ecma_runs.proofs.Trees.{End, ◌▸◌, tree, absent, list, ident, key, binding, whole, string, member, super_member, call, new'}
use Rattle.ecma_runs.proofs.Trees.{parens, array, object, property, statement, block, returns}
use Rattle.ecma_runs.proofs.Trees.{declare_pattern, declare, parameter, declare_function, modifiers, field, declare_class, meaning_node}
use Rattle.ecma_runs.proofs.Scripts.{Does, does, nulls}

-- async function h(a = f(2)) { f(3); } f(1); h();
calls_of_async_functions :
    Does 9 nulls []
    (tree (kind.FnDecl false) (ident (codes "h") ▸ tree (kind.Function false true) (list (parameter (tree kind.AssignPat (binding (codes "a") ▸ call (ident (codes "f")) (whole 2
    ▸ End) ▸ End)) ▸ End) ▸ block (statement (call (ident (codes "f")) (whole 3 ▸ End)) ▸ End) ▸ absent ▸ absent ▸ End) ▸ End)
    ▸ statement (call (ident (codes "f")) (whole 1 ▸ End))
    ▸ statement (call (ident (codes "h")) End)
    ▸ End)
    (HostCall 7 shown.Undefined (shown.Num (js_number.Whole (pos 1)) ∷ []) ∷ []) (ending.Outside)
calls_of_async_functions = does refl (simp meaning_node refl)

-- let h = async () => f(2); f(1); h();
calls_of_async_arrows :
    Does 9 nulls []
    (declare Let (codes "h") (tree (kind.ArrowExpr true false) (list End ▸ call (ident (codes "f")) (whole 2 ▸ End) ▸ absent ▸ absent ▸ End))
    ▸ statement (call (ident (codes "f")) (whole 1 ▸ End))
    ▸ statement (call (ident (codes "h")) End)
    ▸ End)
    (HostCall 7 shown.Undefined (shown.Num (js_number.Whole (pos 1)) ∷ []) ∷ []) (ending.Outside)
calls_of_async_arrows = does refl (simp meaning_node refl)

-- let o = { async m() { f(2); } }; f(1); o.m();
calls_of_async_methods :
    Does 9 nulls []
    (declare Let (codes "o") (object (tree kind.MethodProp (key (codes "m") ▸ tree (kind.Function false true) (list End ▸ block (statement (call (ident (codes "f")) (whole 2
    ▸ End)) ▸ End) ▸ absent ▸ absent ▸ End) ▸ End) ▸ End))
    ▸ statement (call (ident (codes "f")) (whole 1 ▸ End))
    ▸ statement (call (member (ident (codes "o")) (codes "m")) End)
    ▸ End)
    (HostCall 7 shown.Undefined (shown.Num (js_number.Whole (pos 1)) ∷ []) ∷ []) (ending.Outside)
calls_of_async_methods = does refl (simp meaning_node refl)

-- function* h(a = f(2)) { f(3); } f(1); h();
calls_of_generators :
    Does 9 nulls []
    (tree (kind.FnDecl false) (ident (codes "h") ▸ tree (kind.Function true false) (list (parameter (tree kind.AssignPat (binding (codes "a") ▸ call (ident (codes "f")) (whole 2
    ▸ End) ▸ End)) ▸ End) ▸ block (statement (call (ident (codes "f")) (whole 3 ▸ End)) ▸ End) ▸ absent ▸ absent ▸ End) ▸ End)
    ▸ statement (call (ident (codes "f")) (whole 1 ▸ End))
    ▸ statement (call (ident (codes "h")) End)
    ▸ End)
    (HostCall 7 shown.Undefined (shown.Num (js_number.Whole (pos 1)) ∷ []) ∷ []) (ending.Outside)
calls_of_generators = does refl (simp meaning_node refl)

-- let h = async function* () { f(2); }; f(1); h();
calls_of_async_generators :
    Does 9 nulls []
    (declare Let (codes "h") (tree kind.FnExpr (absent ▸ tree (kind.Function true true) (list End ▸ block (statement (call (ident (codes "f")) (whole 2 ▸ End)) ▸ End) ▸ absent
    ▸ absent ▸ End) ▸ End))
    ▸ statement (call (ident (codes "f")) (whole 1 ▸ End))
    ▸ statement (call (ident (codes "h")) End)
    ▸ End)
    (HostCall 7 shown.Undefined (shown.Num (js_number.Whole (pos 1)) ∷ []) ∷ []) (ending.Outside)
calls_of_async_generators = does refl (simp meaning_node refl)

-- class A { static *m() { f(2); } } f(1); A.m();
calls_of_generator_methods :
    Does 9 nulls []
    (declare_class (codes "A") absent (tree (kind.ClassMethod method.Method (modifiers true)) (key (codes "m") ▸ tree (kind.Function true false) (list End
    ▸ block (statement (call (ident (codes "f")) (whole 2 ▸ End)) ▸ End) ▸ absent ▸ absent ▸ End) ▸ End) ▸ End)
    ▸ statement (call (ident (codes "f")) (whole 1 ▸ End))
    ▸ statement (call (member (ident (codes "A")) (codes "m")) End)
    ▸ End)
    (HostCall 7 shown.Undefined (shown.Num (js_number.Whole (pos 1)) ∷ []) ∷ []) (ending.Outside)
calls_of_generator_methods = does refl (simp meaning_node refl)

-- let h = function* () { f(2); }.bind(); f(1); h();
calls_of_bound_generators :
    Does 9 nulls []
    (declare Let (codes "h") (call (member (tree kind.FnExpr (absent ▸ tree (kind.Function true false) (list End ▸ block (statement (call (ident (codes "f")) (whole 2 ▸ End))
    ▸ End) ▸ absent ▸ absent ▸ End) ▸ End)) (codes "bind")) End)
    ▸ statement (call (ident (codes "f")) (whole 1 ▸ End))
    ▸ statement (call (ident (codes "h")) End)
    ▸ End)
    (HostCall 7 shown.Undefined (shown.Num (js_number.Whole (pos 1)) ∷ []) ∷ []) (ending.Outside)
calls_of_bound_generators = does refl (simp meaning_node refl)

-- f(1); await f(2);
await :
    Does 9 nulls []
    (statement (call (ident (codes "f")) (whole 1 ▸ End))
    ▸ statement (tree kind.AwaitExpr (call (ident (codes "f")) (whole 2 ▸ End) ▸ End))
    ▸ End)
    (HostCall 7 shown.Undefined (shown.Num (js_number.Whole (pos 1)) ∷ []) ∷ []) (ending.Outside)
await = does refl (simp meaning_node refl)

-- f(1); import("m");
dynamic_import :
    Does 9 nulls []
    (statement (call (ident (codes "f")) (whole 1 ▸ End))
    ▸ statement (tree kind.CallExpr (tree kind.Import End ▸ list (string (codes "m") ▸ End) ▸ absent ▸ End))
    ▸ End)
    (HostCall 7 shown.Undefined (shown.Num (js_number.Whole (pos 1)) ∷ []) ∷ []) (ending.Outside)
dynamic_import = does refl (simp meaning_node refl)

-- f(1); import.meta;
meta_alone :
    Does 9 nulls []
    (statement (call (ident (codes "f")) (whole 1 ▸ End))
    ▸ statement (tree (kind.MetaPropExpr ImportMeta) End)
    ▸ End)
    (HostCall 7 shown.Undefined (shown.Num (js_number.Whole (pos 1)) ∷ []) ∷ []) (ending.Outside)
meta_alone = does refl (simp meaning_node refl)

-- f(1); f(...[1]);
spread_arguments :
    Does 9 nulls []
    (statement (call (ident (codes "f")) (whole 1 ▸ End))
    ▸ statement (call (ident (codes "f")) (tree kind.SpreadElement (array (whole 1 ▸ End) ▸ End) ▸ End))
    ▸ End)
    (HostCall 7 shown.Undefined (shown.Num (js_number.Whole (pos 1)) ∷ []) ∷ []) (ending.Outside)
spread_arguments = does refl (simp meaning_node refl)

-- f(1); [f(2), ...[1]];
spread_elements :
    Does 9 nulls []
    (statement (call (ident (codes "f")) (whole 1 ▸ End))
    ▸ statement (array (call (ident (codes "f")) (whole 2 ▸ End) ▸ tree kind.SpreadElement (array (whole 1 ▸ End) ▸ End) ▸ End))
    ▸ End)
    (HostCall 7 shown.Undefined (shown.Num (js_number.Whole (pos 1)) ∷ []) ∷ HostCall 7 shown.Undefined (shown.Num (js_number.Whole (pos 2)) ∷ []) ∷ []) (ending.Outside)
spread_elements = does refl (simp meaning_node refl)

-- f(1); ({ a: f(2), ...f });
spread_properties :
    Does 9 nulls []
    (statement (call (ident (codes "f")) (whole 1 ▸ End))
    ▸ statement (parens (object (property (key (codes "a")) (call (ident (codes "f")) (whole 2 ▸ End)) ▸ tree kind.SpreadElement (ident (codes "f") ▸ End) ▸ End)))
    ▸ End)
    (HostCall 7 shown.Undefined (shown.Num (js_number.Whole (pos 1)) ∷ []) ∷ HostCall 7 shown.Undefined (shown.Num (js_number.Whole (pos 2)) ∷ []) ∷ []) (ending.Outside)
spread_properties = does refl (simp meaning_node refl)

-- function h(a, ...b) {} f(1); h();
rest_parameters :
    Does 9 nulls []
    (declare_function (codes "h") (parameter (binding (codes "a")) ▸ parameter (tree kind.RestPat (binding (codes "b") ▸ absent ▸ End)) ▸ End) End
    ▸ statement (call (ident (codes "f")) (whole 1 ▸ End))
    ▸ statement (call (ident (codes "h")) End)
    ▸ End)
    (HostCall 7 shown.Undefined (shown.Num (js_number.Whole (pos 1)) ∷ []) ∷ []) (ending.Outside)
rest_parameters = does refl (simp meaning_node refl)

-- f(1); let [a] = [f(2)];
array_patterns :
    Does 9 nulls []
    (statement (call (ident (codes "f")) (whole 1 ▸ End))
    ▸ declare_pattern Let (tree (kind.ArrayPat false) (list (binding (codes "a") ▸ End) ▸ absent ▸ End)) (array (call (ident (codes "f")) (whole 2 ▸ End) ▸ End))
    ▸ End)
    (HostCall 7 shown.Undefined (shown.Num (js_number.Whole (pos 1)) ∷ []) ∷ HostCall 7 shown.Undefined (shown.Num (js_number.Whole (pos 2)) ∷ []) ∷ []) (ending.Outside)
array_patterns = does refl (simp meaning_node refl)

-- let { a, ...b } = { a: f(1) };
rest_of_patterns :
    Does 9 nulls []
    (declare_pattern Let (tree (kind.ObjectPat false) (list (tree kind.AssignPatProp (binding (codes "a") ▸ absent ▸ End) ▸ tree kind.RestPat (binding (codes "b") ▸ absent ▸ End)
    ▸ End) ▸ absent ▸ End)) (object (property (key (codes "a")) (call (ident (codes "f")) (whole 1 ▸ End)) ▸ End))
    ▸ End)
    (HostCall 7 shown.Undefined (shown.Num (js_number.Whole (pos 1)) ∷ []) ∷ []) (ending.Outside)
rest_of_patterns = does refl (simp meaning_node refl)

-- f(1); class A { #x = 1; }
private_names :
    Does 9 nulls []
    (statement (call (ident (codes "f")) (whole 1 ▸ End))
    ▸ declare_class (codes "A") absent (tree (kind.PrivateProp (modifiers false) false false false) (tree (kind.PrivateName (codes "x")) End ▸ whole 1 ▸ absent ▸ End) ▸ End)
    ▸ End)
    (HostCall 7 shown.Undefined (shown.Num (js_number.Whole (pos 1)) ∷ []) ∷ []) (ending.Outside)
private_names = does refl (simp meaning_node refl)

-- f(1); class A { static { f(2); } }
static_blocks :
    Does 9 nulls []
    (statement (call (ident (codes "f")) (whole 1 ▸ End))
    ▸ declare_class (codes "A") absent (tree kind.StaticBlock (block (statement (call (ident (codes "f")) (whole 2 ▸ End)) ▸ End) ▸ End) ▸ End)
    ▸ End)
    (HostCall 7 shown.Undefined (shown.Num (js_number.Whole (pos 1)) ∷ []) ∷ []) (ending.Outside)
static_blocks = does refl (simp meaning_node refl)

-- f(1); f`a`;
tagged_templates :
    Does 9 nulls []
    (statement (call (ident (codes "f")) (whole 1 ▸ End))
    ▸ statement (tree kind.TaggedTpl (ident (codes "f") ▸ absent ▸ tree kind.Tpl (list End ▸ list (tree (kind.TplElement (codes "a") (Some (codes "a")) true) End ▸ End) ▸ End)
    ▸ End))
    ▸ End)
    (HostCall 7 shown.Undefined (shown.Num (js_number.Whole (pos 1)) ∷ []) ∷ []) (ending.Outside)
tagged_templates = does refl (simp meaning_node refl)

-- f(1); for (let x of [1]) f(x);
loops_over_iterators :
    Does 9 nulls []
    (statement (call (ident (codes "f")) (whole 1 ▸ End))
    ▸ tree (kind.ForOfStmt false) (declare Let (codes "x") absent ▸ array (whole 1 ▸ End) ▸ statement (call (ident (codes "f")) (ident (codes "x") ▸ End)) ▸ End)
    ▸ End)
    (HostCall 7 shown.Undefined (shown.Num (js_number.Whole (pos 1)) ∷ []) ∷ []) (ending.Outside)
loops_over_iterators = does refl (simp meaning_node refl)

-- f(1); for (let x in {}) f(x);
loops_over_keys :
    Does 9 nulls []
    (statement (call (ident (codes "f")) (whole 1 ▸ End))
    ▸ tree kind.ForInStmt (declare Let (codes "x") absent ▸ object End ▸ statement (call (ident (codes "f")) (ident (codes "x") ▸ End)) ▸ End)
    ▸ End)
    (HostCall 7 shown.Undefined (shown.Num (js_number.Whole (pos 1)) ∷ []) ∷ []) (ending.Outside)
loops_over_keys = does refl (simp meaning_node refl)

-- f(1); a: f(2);
labels :
    Does 9 nulls []
    (statement (call (ident (codes "f")) (whole 1 ▸ End))
    ▸ tree kind.LabeledStmt (ident (codes "a") ▸ statement (call (ident (codes "f")) (whole 2 ▸ End)) ▸ End)
    ▸ End)
    (HostCall 7 shown.Undefined (shown.Num (js_number.Whole (pos 1)) ∷ []) ∷ []) (ending.Outside)
labels = does refl (simp meaning_node refl)

-- f(1); return 2;
returns_of_modules :
    Does 9 nulls []
    (statement (call (ident (codes "f")) (whole 1 ▸ End))
    ▸ returns (whole 2)
    ▸ End)
    (HostCall 7 shown.Undefined (shown.Num (js_number.Whole (pos 1)) ∷ []) ∷ []) (ending.Outside)
returns_of_modules = does refl (simp meaning_node refl)

-- f(1); $namespace.N;
namespaces :
    Does 9 nulls []
    (statement (call (ident (codes "f")) (whole 1 ▸ End))
    ▸ tree (kind.TsModuleDecl false false) (ident (codes "N") ▸ tree kind.TsModuleBlock (list (tree kind.ExprStmt (whole 1 ▸ End) ▸ End) ▸ End) ▸ End)
    ▸ End)
    (HostCall 7 shown.Undefined (shown.Num (js_number.Whole (pos 1)) ∷ []) ∷ []) (ending.Outside)
namespaces = does refl (simp meaning_node refl)

-- f(1); $break.x;
breaks_out_of_nothing :
    Does 9 nulls []
    (statement (call (ident (codes "f")) (whole 1 ▸ End))
    ▸ tree kind.BreakStmt (absent ▸ End)
    ▸ End)
    (HostCall 7 shown.Undefined (shown.Num (js_number.Whole (pos 1)) ∷ []) ∷ []) (ending.Outside)
breaks_out_of_nothing = does refl (simp meaning_node refl)

-- f(1); $continue.x;
continues_of_nothing :
    Does 9 nulls []
    (statement (call (ident (codes "f")) (whole 1 ▸ End))
    ▸ tree kind.ContinueStmt (absent ▸ End)
    ▸ End)
    (HostCall 7 shown.Undefined (shown.Num (js_number.Whole (pos 1)) ∷ []) ∷ []) (ending.Outside)
continues_of_nothing = does refl (simp meaning_node refl)

-- f(1); $new_target.x;
new_target_of_modules :
    Does 9 nulls []
    (statement (call (ident (codes "f")) (whole 1 ▸ End))
    ▸ statement (tree (kind.MetaPropExpr NewTarget) End)
    ▸ End)
    (HostCall 7 shown.Undefined (shown.Num (js_number.Whole (pos 1)) ∷ []) ∷ []) (ending.Outside)
new_target_of_modules = does refl (simp meaning_node refl)

-- f(1); $super.x;
super_members_of_modules :
    Does 9 nulls []
    (statement (call (ident (codes "f")) (whole 1 ▸ End))
    ▸ statement (super_member (codes "x"))
    ▸ End)
    (HostCall 7 shown.Undefined (shown.Num (js_number.Whole (pos 1)) ∷ []) ∷ []) (ending.Outside)
super_members_of_modules = does refl (simp meaning_node refl)

-- f(1); $escape.x;
ill_formed_escapes :
    Does 9 nulls []
    (statement (call (ident (codes "f")) (whole 1 ▸ End))
    ▸ statement (tree kind.Tpl (list End ▸ list (tree (kind.TplElement (codes "\\u") None true) End ▸ End) ▸ End))
    ▸ End)
    (HostCall 7 shown.Undefined (shown.Num (js_number.Whole (pos 1)) ∷ []) ∷ []) (ending.Outside)
ill_formed_escapes = does refl (simp meaning_node refl)

-- class A { $arguments; } f(1); new A();
arguments_in_fields :
    Does 9 nulls []
    (declare_class (codes "A") absent (field false (key (codes "x")) (ident (codes "arguments")) ▸ End)
    ▸ statement (call (ident (codes "f")) (whole 1 ▸ End))
    ▸ statement (new' (ident (codes "A")) End)
    ▸ End)
    (HostCall 7 shown.Undefined (shown.Num (js_number.Whole (pos 1)) ∷ []) ∷ []) (ending.Outside)
arguments_in_fields = does refl (simp meaning_node refl)

-- class A { $property; } f(1); new A(2);
parameter_properties :
    Does 9 nulls []
    (declare_class (codes "A") absent (tree (kind.Constructor None false) (key (codes "constructor") ▸ list (tree (kind.TsParamProp None false false) (binding (codes "x") ▸ End)
    ▸ End) ▸ block End ▸ End) ▸ End)
    ▸ statement (call (ident (codes "f")) (whole 1 ▸ End))
    ▸ statement (new' (ident (codes "A")) (whole 2 ▸ End))
    ▸ End)
    (HostCall 7 shown.Undefined (shown.Num (js_number.Whole (pos 1)) ∷ []) ∷ []) (ending.Outside)
parameter_properties = does refl (simp meaning_node refl)
