-- Names that stand outside of the scopes that declare them: each fact is a small module and what node observes of it, by computing. Written by compare/facts.mjs.
use Rattle.std.proofs.Common.{refl, pos, [], ◌∷◌, None, false, codes}
use Rattle.ecma_number.specs.declared.js_number.JsNumber.TheVariants as js_number
use Rattle.ecma_kind.specs.declared.kind.Kind.TheVariants as kind
use Rattle.ecma_kind.specs.declared.operators.MethodKind.TheVariants as method
use Rattle.ecma_kind.specs.declared.operators.VarDeclKind.TheVariants.{Var, Let}
use Rattle.ecma_runs.specs.declared.observation.Event.TheVariants.{HostCall}
use Rattle.ecma_runs.specs.declared.observation.Ending.TheVariants as ending
use Rattle.ecma_runs.specs.declared.shown.Shown.TheVariants as shown
use Rattle.ecma_runs.proofs.Trees.{End, ◌▸◌, tree, absent, list, ident, key, computed, binding, whole, string, call, parens}
use Rattle.ecma_runs.proofs.Trees.{array, object, statement, block, declare_pattern, declare, parameter}
use Rattle.ecma_runs.proofs.Trees.{declare_function, function_expression, arrow, class_method, class', declare_class, meaning_node}
use Rattle.ecma_runs.proofs.Scripts.{Does, does, nulls}

-- (function (x) {}); f(1); x;
names_of_parameters_outside :
    Does 9 nulls []
    (statement (parens (function_expression absent (parameter (binding (codes "x")) ▸ End) End))
    ▸ statement (call (ident (codes "f")) (whole 1 ▸ End))
    ▸ statement (ident (codes "x"))
    ▸ End)
    (HostCall 7 shown.Undefined (shown.Num (js_number.Whole (pos 1)) ∷ []) ∷ []) (ending.Outside)
names_of_parameters_outside = does refl (simp meaning_node refl)

-- (function ({ a: { x = 1 } }) {}); f(1); x;
names_of_patterns_in_parameters_outside :
    Does 9 nulls []
    (statement (parens (function_expression absent (parameter (tree (kind.ObjectPat false) (list (tree kind.KeyValuePatProp (key (codes "a")
    ▸ tree (kind.ObjectPat false) (list (tree kind.AssignPatProp (binding (codes "x") ▸ whole 1 ▸ End) ▸ End) ▸ absent ▸ End) ▸ End) ▸ End) ▸ absent ▸ End)) ▸ End) End))
    ▸ statement (call (ident (codes "f")) (whole 1 ▸ End))
    ▸ statement (ident (codes "x"))
    ▸ End)
    (HostCall 7 shown.Undefined (shown.Num (js_number.Whole (pos 1)) ∷ []) ∷ []) (ending.Outside)
names_of_patterns_in_parameters_outside = does refl (simp meaning_node refl)

-- (function (a = function x() {}) {}); f(1); x;
names_in_defaults_of_parameters_outside :
    Does 9 nulls []
    (statement (parens (function_expression absent (parameter (tree kind.AssignPat (binding (codes "a") ▸ function_expression (ident (codes "x")) End End ▸ End)) ▸ End) End))
    ▸ statement (call (ident (codes "f")) (whole 1 ▸ End))
    ▸ statement (ident (codes "x"))
    ▸ End)
    (HostCall 7 shown.Undefined (shown.Num (js_number.Whole (pos 1)) ∷ []) ∷ []) (ending.Outside)
names_in_defaults_of_parameters_outside = does refl (simp meaning_node refl)

-- ((x) => 1); f(1); x;
names_of_parameters_of_arrows_outside :
    Does 9 nulls []
    (statement (parens (arrow (binding (codes "x") ▸ End) (whole 1)))
    ▸ statement (call (ident (codes "f")) (whole 1 ▸ End))
    ▸ statement (ident (codes "x"))
    ▸ End)
    (HostCall 7 shown.Undefined (shown.Num (js_number.Whole (pos 1)) ∷ []) ∷ []) (ending.Outside)
names_of_parameters_of_arrows_outside = does refl (simp meaning_node refl)

-- ((a = (x) => 1) => 1); f(1); x;
names_in_parameters_of_arrows_outside :
    Does 9 nulls []
    (statement (parens (arrow (tree kind.AssignPat (binding (codes "a") ▸ arrow (binding (codes "x") ▸ End) (whole 1) ▸ End) ▸ End) (whole 1)))
    ▸ statement (call (ident (codes "f")) (whole 1 ▸ End))
    ▸ statement (ident (codes "x"))
    ▸ End)
    (HostCall 7 shown.Undefined (shown.Num (js_number.Whole (pos 1)) ∷ []) ∷ []) (ending.Outside)
names_in_parameters_of_arrows_outside = does refl (simp meaning_node refl)

-- (() => { let x; }); f(1); x;
names_in_bodies_of_arrows_outside :
    Does 9 nulls []
    (statement (parens (arrow End (block (declare Let (codes "x") absent ▸ End))))
    ▸ statement (call (ident (codes "f")) (whole 1 ▸ End))
    ▸ statement (ident (codes "x"))
    ▸ End)
    (HostCall 7 shown.Undefined (shown.Num (js_number.Whole (pos 1)) ∷ []) ∷ []) (ending.Outside)
names_in_bodies_of_arrows_outside = does refl (simp meaning_node refl)

-- ({ set a(x) {} }); f(1); x;
names_of_parameters_of_setters_outside :
    Does 9 nulls []
    (statement (parens (object (tree kind.SetterProp (key (codes "a") ▸ absent ▸ binding (codes "x") ▸ block End ▸ End) ▸ End)))
    ▸ statement (call (ident (codes "f")) (whole 1 ▸ End))
    ▸ statement (ident (codes "x"))
    ▸ End)
    (HostCall 7 shown.Undefined (shown.Num (js_number.Whole (pos 1)) ∷ []) ∷ []) (ending.Outside)
names_of_parameters_of_setters_outside = does refl (simp meaning_node refl)

-- ({ set a(b = (x) => 1) {} }); f(1); x;
names_in_parameters_of_setters_outside :
    Does 9 nulls []
    (statement (parens (object (tree kind.SetterProp (key (codes "a") ▸ absent ▸ tree kind.AssignPat (binding (codes "b") ▸ arrow (binding (codes "x") ▸ End) (whole 1) ▸ End)
    ▸ block End ▸ End) ▸ End)))
    ▸ statement (call (ident (codes "f")) (whole 1 ▸ End))
    ▸ statement (ident (codes "x"))
    ▸ End)
    (HostCall 7 shown.Undefined (shown.Num (js_number.Whole (pos 1)) ∷ []) ∷ []) (ending.Outside)
names_in_parameters_of_setters_outside = does refl (simp meaning_node refl)

-- ({ set [((x) => "a")()](b) {} }); f(1); x;
names_in_keys_of_setters_outside :
    Does 9 nulls []
    (statement (parens (object (tree kind.SetterProp (computed (call (parens (arrow (binding (codes "x") ▸ End) (string (codes "a")))) End) ▸ absent ▸ binding (codes "b")
    ▸ block End ▸ End) ▸ End)))
    ▸ statement (call (ident (codes "f")) (whole 1 ▸ End))
    ▸ statement (ident (codes "x"))
    ▸ End)
    (HostCall 7 shown.Undefined (shown.Num (js_number.Whole (pos 1)) ∷ []) ∷ []) (ending.Outside)
names_in_keys_of_setters_outside = does refl (simp meaning_node refl)

-- ({ set a(b) { let x; } }); f(1); x;
names_in_bodies_of_setters_outside :
    Does 9 nulls []
    (statement (parens (object (tree kind.SetterProp (key (codes "a") ▸ absent ▸ binding (codes "b") ▸ block (declare Let (codes "x") absent ▸ End) ▸ End) ▸ End)))
    ▸ statement (call (ident (codes "f")) (whole 1 ▸ End))
    ▸ statement (ident (codes "x"))
    ▸ End)
    (HostCall 7 shown.Undefined (shown.Num (js_number.Whole (pos 1)) ∷ []) ∷ []) (ending.Outside)
names_in_bodies_of_setters_outside = does refl (simp meaning_node refl)

-- try {} catch (x) {} f(1); x;
names_of_handlers_outside :
    Does 9 nulls []
    (tree kind.TryStmt (block End ▸ tree kind.CatchClause (binding (codes "x") ▸ block End ▸ End) ▸ absent ▸ End)
    ▸ statement (call (ident (codes "f")) (whole 1 ▸ End))
    ▸ statement (ident (codes "x"))
    ▸ End)
    (HostCall 7 shown.Undefined (shown.Num (js_number.Whole (pos 1)) ∷ []) ∷ []) (ending.Outside)
names_of_handlers_outside = does refl (simp meaning_node refl)

-- try {} catch ({ a = (x) => 1 }) {} f(1); x;
names_in_parameters_of_handlers_outside :
    Does 9 nulls []
    (tree kind.TryStmt (block End ▸ tree kind.CatchClause (tree (kind.ObjectPat false) (list (tree kind.AssignPatProp (binding (codes "a") ▸ arrow (binding (codes "x")
    ▸ End) (whole 1) ▸ End) ▸ End) ▸ absent ▸ End) ▸ block End ▸ End) ▸ absent ▸ End)
    ▸ statement (call (ident (codes "f")) (whole 1 ▸ End))
    ▸ statement (ident (codes "x"))
    ▸ End)
    (HostCall 7 shown.Undefined (shown.Num (js_number.Whole (pos 1)) ∷ []) ∷ []) (ending.Outside)
names_in_parameters_of_handlers_outside = does refl (simp meaning_node refl)

-- try {} catch (e) { let x; } f(1); x;
names_in_handlers_outside :
    Does 9 nulls []
    (tree kind.TryStmt (block End ▸ tree kind.CatchClause (binding (codes "e") ▸ block (declare Let (codes "x") absent ▸ End) ▸ End) ▸ absent ▸ End)
    ▸ statement (call (ident (codes "f")) (whole 1 ▸ End))
    ▸ statement (ident (codes "x"))
    ▸ End)
    (HostCall 7 shown.Undefined (shown.Num (js_number.Whole (pos 1)) ∷ []) ∷ []) (ending.Outside)
names_in_handlers_outside = does refl (simp meaning_node refl)

-- { function x() {} } f(1); x;
names_of_functions_in_blocks_outside :
    Does 9 nulls []
    (block (declare_function (codes "x") End End ▸ End)
    ▸ statement (call (ident (codes "f")) (whole 1 ▸ End))
    ▸ statement (ident (codes "x"))
    ▸ End)
    (HostCall 7 shown.Undefined (shown.Num (js_number.Whole (pos 1)) ∷ []) ∷ []) (ending.Outside)
names_of_functions_in_blocks_outside = does refl (simp meaning_node refl)

-- function h() { let x; } f(1); x;
names_in_functions_outside :
    Does 9 nulls []
    (declare_function (codes "h") End (declare Let (codes "x") absent ▸ End)
    ▸ statement (call (ident (codes "f")) (whole 1 ▸ End))
    ▸ statement (ident (codes "x"))
    ▸ End)
    (HostCall 7 shown.Undefined (shown.Num (js_number.Whole (pos 1)) ∷ []) ∷ []) (ending.Outside)
names_in_functions_outside = does refl (simp meaning_node refl)

-- (function x() {}); f(1); x;
names_of_function_expressions_outside :
    Does 9 nulls []
    (statement (parens (function_expression (ident (codes "x")) End End))
    ▸ statement (call (ident (codes "f")) (whole 1 ▸ End))
    ▸ statement (ident (codes "x"))
    ▸ End)
    (HostCall 7 shown.Undefined (shown.Num (js_number.Whole (pos 1)) ∷ []) ∷ []) (ending.Outside)
names_of_function_expressions_outside = does refl (simp meaning_node refl)

-- { class x {} } f(1); x;
names_of_classes_in_blocks_outside :
    Does 9 nulls []
    (block (declare_class (codes "x") absent End ▸ End)
    ▸ statement (call (ident (codes "f")) (whole 1 ▸ End))
    ▸ statement (ident (codes "x"))
    ▸ End)
    (HostCall 7 shown.Undefined (shown.Num (js_number.Whole (pos 1)) ∷ []) ∷ []) (ending.Outside)
names_of_classes_in_blocks_outside = does refl (simp meaning_node refl)

-- class A { m() { let x; } } f(1); x;
names_in_classes_outside :
    Does 9 nulls []
    (declare_class (codes "A") absent (class_method method.Method false (key (codes "m")) End (declare Let (codes "x") absent ▸ End) ▸ End)
    ▸ statement (call (ident (codes "f")) (whole 1 ▸ End))
    ▸ statement (ident (codes "x"))
    ▸ End)
    (HostCall 7 shown.Undefined (shown.Num (js_number.Whole (pos 1)) ∷ []) ∷ []) (ending.Outside)
names_in_classes_outside = does refl (simp meaning_node refl)

-- (class x {}); f(1); x;
names_of_class_expressions_outside :
    Does 9 nulls []
    (statement (parens (tree kind.ClassExpr (ident (codes "x") ▸ class' absent End ▸ End)))
    ▸ statement (call (ident (codes "f")) (whole 1 ▸ End))
    ▸ statement (ident (codes "x"))
    ▸ End)
    (HostCall 7 shown.Undefined (shown.Num (js_number.Whole (pos 1)) ∷ []) ∷ []) (ending.Outside)
names_of_class_expressions_outside = does refl (simp meaning_node refl)

-- (class { m() { let x; } }); f(1); x;
names_in_class_expressions_outside :
    Does 9 nulls []
    (statement (parens (tree kind.ClassExpr (absent ▸ class' absent (class_method method.Method false (key (codes "m")) End (declare Let (codes "x") absent ▸ End) ▸ End) ▸ End)))
    ▸ statement (call (ident (codes "f")) (whole 1 ▸ End))
    ▸ statement (ident (codes "x"))
    ▸ End)
    (HostCall 7 shown.Undefined (shown.Num (js_number.Whole (pos 1)) ∷ []) ∷ []) (ending.Outside)
names_in_class_expressions_outside = does refl (simp meaning_node refl)

-- let a = (x) => 1; f(1); x;
names_in_initializers_outside :
    Does 9 nulls []
    (declare Let (codes "a") (arrow (binding (codes "x") ▸ End) (whole 1))
    ▸ statement (call (ident (codes "f")) (whole 1 ▸ End))
    ▸ statement (ident (codes "x"))
    ▸ End)
    (HostCall 7 shown.Undefined (shown.Num (js_number.Whole (pos 1)) ∷ []) ∷ []) (ending.Outside)
names_in_initializers_outside = does refl (simp meaning_node refl)

-- let { a = (x) => 1 } = {}; f(1); x;
names_in_patterns_outside :
    Does 9 nulls []
    (declare_pattern Let (tree (kind.ObjectPat false) (list (tree kind.AssignPatProp (binding (codes "a") ▸ arrow (binding (codes "x") ▸ End) (whole 1) ▸ End) ▸ End) ▸ absent
    ▸ End)) (object End)
    ▸ statement (call (ident (codes "f")) (whole 1 ▸ End))
    ▸ statement (ident (codes "x"))
    ▸ End)
    (HostCall 7 shown.Undefined (shown.Num (js_number.Whole (pos 1)) ∷ []) ∷ []) (ending.Outside)
names_in_patterns_outside = does refl (simp meaning_node refl)

-- class A { $property; } f(1); x;
names_of_parameter_properties_outside :
    Does 9 nulls []
    (declare_class (codes "A") absent (tree (kind.Constructor None false) (key (codes "constructor") ▸ list (tree (kind.TsParamProp None false false) (binding (codes "x") ▸ End)
    ▸ End) ▸ block End ▸ End) ▸ End)
    ▸ statement (call (ident (codes "f")) (whole 1 ▸ End))
    ▸ statement (ident (codes "x"))
    ▸ End)
    (HostCall 7 shown.Undefined (shown.Num (js_number.Whole (pos 1)) ∷ []) ∷ []) (ending.Outside)
names_of_parameter_properties_outside = does refl (simp meaning_node refl)

-- f(1); N; $namespace.N;
names_of_namespaces_before_them :
    Does 9 nulls []
    (statement (call (ident (codes "f")) (whole 1 ▸ End))
    ▸ statement (ident (codes "N"))
    ▸ tree (kind.TsModuleDecl false false) (ident (codes "N") ▸ tree kind.TsModuleBlock (list (tree kind.ExprStmt (whole 1 ▸ End) ▸ End) ▸ End) ▸ End)
    ▸ End)
    (HostCall 7 shown.Undefined (shown.Num (js_number.Whole (pos 1)) ∷ []) ∷ []) (ending.Outside)
names_of_namespaces_before_them = does refl (simp meaning_node refl)

-- f(1); q; $export: (function () { let q; });
names_within_what_is_exported_last :
    Does 9 nulls []
    (statement (call (ident (codes "f")) (whole 1 ▸ End))
    ▸ statement (ident (codes "q"))
    ▸ tree kind.TsExportAssignment (function_expression absent End (declare Let (codes "q") absent ▸ End) ▸ End)
    ▸ End)
    (HostCall 7 shown.Undefined (shown.Num (js_number.Whole (pos 1)) ∷ []) ∷ []) (ending.Outside)
names_within_what_is_exported_last = does refl (simp meaning_node refl)

-- f(a, b, c, d, e); a: { var a; } for (var b in {}) { var c; } for (var d of []) { var e; }
names_of_var_in_labelled_statements :
    Does 9 nulls []
    (statement (call (ident (codes "f")) (ident (codes "a") ▸ ident (codes "b") ▸ ident (codes "c") ▸ ident (codes "d") ▸ ident (codes "e") ▸ End))
    ▸ tree kind.LabeledStmt (ident (codes "a") ▸ block (declare Var (codes "a") absent ▸ End) ▸ End)
    ▸ tree kind.ForInStmt (declare Var (codes "b") absent ▸ object End ▸ block (declare Var (codes "c") absent ▸ End) ▸ End)
    ▸ tree (kind.ForOfStmt false) (declare Var (codes "d") absent ▸ array End ▸ block (declare Var (codes "e") absent ▸ End) ▸ End)
    ▸ End)
    (HostCall 7 shown.Undefined (shown.Undefined ∷ shown.Undefined ∷ shown.Undefined ∷ shown.Undefined ∷ shown.Undefined ∷ []) ∷ []) (ending.Outside)
names_of_var_in_labelled_statements = does refl (simp meaning_node refl)
