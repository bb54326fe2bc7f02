-- Exports: each fact is a small module and what node observes of it, by computing. Written by compare/facts.mjs.
use Rattle.std.proofs.Common.{refl, pos, [], ◌∷◌, true, false, codes}
use Rattle.ecma_number.specs.declared.js_number.JsNumber.TheVariants as js_number
use Rattle.ecma_kind.specs.declared.kind.Kind.TheVariants as kind
use Rattle.ecma_kind.specs.declared.operators.BinaryOp.TheVariants as binary
use Rattle.ecma_kind.specs.declared.operators.MetaPropKind.TheVariants.{NewTarget}
use Rattle.ecma_kind.specs.declared.operators.MethodKind.TheVariants as method
use Rattle.ecma_kind.specs.declared.operators.VarDeclKind.TheVariants.{Var, Let, Const}
use Rattle.ecma_runs.specs.declared.observation.Event.TheVariants.{HostCall}
use Rattle.ecma_runs.specs.declared.observation.Ending.TheVariants as ending
use Rattle.ecma_runs.specs.declared.script.Action.TheVariants as action
use Rattle.ecma_runs.specs.declared.script.Answer.TheVariants.{Return}
use Rattle.ecma_runs.specs.declared.shown.Shown.TheVariants as shown
use Rattle.ecma_runs.proofs.Trees.{End, ◌▸◌, tree, absent, list, ident, key, binding, whole, string, member, call, new', assign, binary}
use Rattle.ecma_runs.proofs.Trees.{object, property, statement, block, returns, declare_pattern, declare}
use Rattle.ecma_runs.proofs.Trees.{parameter, declare_function, function_expression, class_method, constructor', class', declare_class, meaning_node}
use Rattle.ecma_runs.proofs.ExportTrees.{exports_node}
use Rattle.ecma_runs.proofs.Scripts.{Does, does, nulls}

-- export let a = 1; export function h() { a = 2; }
reads_exported_variables_then :
    Does 9 nulls (action.ReadExport (codes "a") ∷ action.ReadExport (codes "h") ∷ action.Call 0 shown.Undefined [] ∷ action.ReadExport (codes "a") ∷ [])
    (tree kind.ExportDecl (declare Let (codes "a") (whole 1) ▸ End)
    ▸ tree kind.ExportDecl (declare_function (codes "h") End (statement (assign (ident (codes "a")) (whole 2)) ▸ End) ▸ End)
    ▸ End)
    [] (ending.Done (Return (shown.Num (js_number.Whole (pos 1))) ∷ Return (shown.Handle 0) ∷ Return shown.Undefined ∷ Return (shown.Num (js_number.Whole (pos 2))) ∷ []))
reads_exported_variables_then = does refl (simp (meaning_node, exports_node) refl)

-- let a = 1; function h() { a = f(a); } export { a as b, h as "c d" };
exports_under_other_names :
    Does 9 nulls (action.ReadExport (codes "b") ∷ action.ReadExport (codes "c d") ∷ action.Call 0 shown.Undefined [] ∷ action.ReadExport (codes "b") ∷ action.ReadExport (codes "a")
    ∷ [])
    (declare Let (codes "a") (whole 1)
    ▸ declare_function (codes "h") End (statement (assign (ident (codes "a")) (call (ident (codes "f")) (ident (codes "a") ▸ End))) ▸ End)
    ▸ tree (kind.NamedExport false) (list (tree (kind.ExportNamedSpecifier false) (ident (codes "a") ▸ ident (codes "b") ▸ End)
    ▸ tree (kind.ExportNamedSpecifier false) (ident (codes "h") ▸ string (codes "c d") ▸ End) ▸ End) ▸ absent ▸ absent ▸ End)
    ▸ End)
    (HostCall 7 shown.Undefined (shown.Num (js_number.Whole (pos 1)) ∷ []) ∷ []) (ending.Done (Return (shown.Num (js_number.Whole (pos 1))) ∷ Return (shown.Handle 0)
    ∷ Return shown.Undefined ∷ Return shown.Null ∷ Return shown.Undefined ∷ []))
exports_under_other_names = does refl (simp (meaning_node, exports_node) refl)

-- export const { a, b: c } = { a: 1, b: 2 };
exports_the_names_of_a_pattern :
    Does 9 nulls (action.ReadExport (codes "a") ∷ action.ReadExport (codes "b") ∷ action.ReadExport (codes "c") ∷ [])
    (tree kind.ExportDecl (declare_pattern Const (tree (kind.ObjectPat false) (list (tree kind.AssignPatProp (binding (codes "a") ▸ absent ▸ End)
    ▸ tree kind.KeyValuePatProp (key (codes "b") ▸ binding (codes "c") ▸ End) ▸ End) ▸ absent ▸ End)) (object (property (key (codes "a")) (whole 1)
    ▸ property (key (codes "b")) (whole 2) ▸ End)) ▸ End)
    ▸ End)
    [] (ending.Done (Return (shown.Num (js_number.Whole (pos 1))) ∷ Return shown.Undefined ∷ Return (shown.Num (js_number.Whole (pos 2))) ∷ []))
exports_the_names_of_a_pattern = does refl (simp (meaning_node, exports_node) refl)

-- export class A { constructor() { v = 3; } } export var v;
exports_classes_and_var :
    Does 9 nulls (action.ReadExport (codes "v") ∷ action.ReadExport (codes "A") ∷ action.New 0 [] ∷ action.ReadExport (codes "v") ∷ [])
    (tree kind.ExportDecl (declare_class (codes "A") absent (constructor' End (statement (assign (ident (codes "v")) (whole 3)) ▸ End) ▸ End) ▸ End)
    ▸ tree kind.ExportDecl (declare Var (codes "v") absent ▸ End)
    ▸ End)
    [] (ending.Done (Return shown.Undefined ∷ Return (shown.Handle 0) ∷ Return (shown.Handle 1) ∷ Return (shown.Num (js_number.Whole (pos 3))) ∷ []))
exports_classes_and_var = does refl (simp (meaning_node, exports_node) refl)

-- let a = 1; export default a; export { a }; a = f;
exports_a_default_value :
    Does 9 nulls (action.ReadExport (codes "default") ∷ action.ReadExport (codes "a") ∷ [])
    (declare Let (codes "a") (whole 1)
    ▸ tree kind.ExportDefaultExpr (ident (codes "a") ▸ End)
    ▸ tree (kind.NamedExport false) (list (tree (kind.ExportNamedSpecifier false) (ident (codes "a") ▸ absent ▸ End) ▸ End) ▸ absent ▸ absent ▸ End)
    ▸ statement (assign (ident (codes "a")) (ident (codes "f")))
    ▸ End)
    [] (ending.Done (Return (shown.Num (js_number.Whole (pos 1))) ∷ Return (shown.Host 7) ∷ []))
exports_a_default_value = does refl (simp (meaning_node, exports_node) refl)

-- h(1); export default function h(a) { f(a); } h = g;
exports_a_function_as_the_default :
    Does 9 nulls (action.ReadExport (codes "default") ∷ action.ReadExport (codes "h") ∷ [])
    (statement (call (ident (codes "h")) (whole 1 ▸ End))
    ▸ tree kind.ExportDefaultDecl (function_expression (ident (codes "h")) (parameter (binding (codes "a")) ▸ End) (statement (call (ident (codes "f")) (ident (codes "a") ▸ End))
    ▸ End) ▸ End)
    ▸ statement (assign (ident (codes "h")) (ident (codes "g")))
    ▸ End)
    (HostCall 7 shown.Undefined (shown.Num (js_number.Whole (pos 1)) ∷ []) ∷ []) (ending.Done (Return (shown.Host 8) ∷ Return shown.Undefined ∷ []))
exports_a_function_as_the_default = does refl (simp (meaning_node, exports_node) refl)

-- export default function h() { return h; } let a = h; h = 5; f(a());
exports_a_function_by_the_variable_of_the_module :
    Does 9 nulls (action.ReadExport (codes "default") ∷ [])
    (tree kind.ExportDefaultDecl (function_expression (ident (codes "h")) End (returns (ident (codes "h")) ▸ End) ▸ End)
    ▸ declare Let (codes "a") (ident (codes "h"))
    ▸ statement (assign (ident (codes "h")) (whole 5))
    ▸ statement (call (ident (codes "f")) (call (ident (codes "a")) End ▸ End))
    ▸ End)
    (HostCall 7 shown.Undefined (shown.Num (js_number.Whole (pos 5)) ∷ []) ∷ []) (ending.Done (Return (shown.Num (js_number.Whole (pos 5))) ∷ []))
exports_a_function_by_the_variable_of_the_module = does refl (simp (meaning_node, exports_node) refl)

-- export default function h() { f(1); } export { h };
exports_a_function_under_two_names :
    Does 9 nulls (action.ReadExport (codes "h") ∷ action.ReadExport (codes "default") ∷ action.Call 0 shown.Undefined [] ∷ [])
    (tree kind.ExportDefaultDecl (function_expression (ident (codes "h")) End (statement (call (ident (codes "f")) (whole 1 ▸ End)) ▸ End) ▸ End)
    ▸ tree (kind.NamedExport false) (list (tree (kind.ExportNamedSpecifier false) (ident (codes "h") ▸ absent ▸ End) ▸ End) ▸ absent ▸ absent ▸ End)
    ▸ End)
    (HostCall 7 shown.Undefined (shown.Num (js_number.Whole (pos 1)) ∷ []) ∷ []) (ending.Done (Return (shown.Handle 0) ∷ Return (shown.Handle 0) ∷ Return shown.Undefined ∷ []))
exports_a_function_under_two_names = does refl (simp (meaning_node, exports_node) refl)

-- f(1); export default function (a) { return a; }
exports_a_function_without_a_name :
    Does 9 nulls (action.ReadExport (codes "default") ∷ action.Call 0 shown.Undefined (shown.Num (js_number.Whole (pos 2)) ∷ []) ∷ [])
    (statement (call (ident (codes "f")) (whole 1 ▸ End))
    ▸ tree kind.ExportDefaultDecl (function_expression absent (parameter (binding (codes "a")) ▸ End) (returns (ident (codes "a")) ▸ End) ▸ End)
    ▸ End)
    (HostCall 7 shown.Undefined (shown.Num (js_number.Whole (pos 1)) ∷ []) ∷ []) (ending.Done (Return (shown.Handle 0) ∷ Return (shown.Num (js_number.Whole (pos 2))) ∷ []))
exports_a_function_without_a_name = does refl (simp (meaning_node, exports_node) refl)

-- try { A; } catch { f(1); } export default class A { constructor() { f(new.target === A); } } new A(); A = g;
exports_a_class_as_the_default :
    Does 9 nulls (action.ReadExport (codes "default") ∷ [])
    (tree kind.TryStmt (block (statement (ident (codes "A")) ▸ End) ▸ tree kind.CatchClause (absent ▸ block (statement (call (ident (codes "f")) (whole 1 ▸ End)) ▸ End) ▸ End)
    ▸ absent ▸ End)
    ▸ tree kind.ExportDefaultDecl (tree kind.ClassExpr (ident (codes "A")
    ▸ class' absent (constructor' End (statement (call (ident (codes "f")) (binary binary.EqEqEq (tree (kind.MetaPropExpr NewTarget) End) (ident (codes "A")) ▸ End)) ▸ End)
    ▸ End) ▸ End) ▸ End)
    ▸ statement (new' (ident (codes "A")) End)
    ▸ statement (assign (ident (codes "A")) (ident (codes "g")))
    ▸ End)
    (HostCall 7 shown.Undefined (shown.Num (js_number.Whole (pos 1)) ∷ []) ∷ HostCall 7 shown.Undefined (shown.Bool true ∷ []) ∷ []) (ending.Done (Return (shown.Host 8) ∷ []))
exports_a_class_as_the_default = does refl (simp (meaning_node, exports_node) refl)

-- export default class A { static a() { return A; } } const c = A; A = 1; f(c.a() === c);
exports_a_class_with_its_inner_name :
    Does 9 nulls (action.ReadExport (codes "default") ∷ [])
    (tree kind.ExportDefaultDecl (tree kind.ClassExpr (ident (codes "A") ▸ class' absent (class_method method.Method true (key (codes "a")) End (returns (ident (codes "A")) ▸ End)
    ▸ End) ▸ End) ▸ End)
    ▸ declare Const (codes "c") (ident (codes "A"))
    ▸ statement (assign (ident (codes "A")) (whole 1))
    ▸ statement (call (ident (codes "f")) (binary binary.EqEqEq (call (member (ident (codes "c")) (codes "a")) End) (ident (codes "c")) ▸ End))
    ▸ End)
    (HostCall 7 shown.Undefined (shown.Bool true ∷ []) ∷ []) (ending.Done (Return (shown.Num (js_number.Whole (pos 1))) ∷ []))
exports_a_class_with_its_inner_name = does refl (simp (meaning_node, exports_node) refl)

-- export default class { constructor() { f(2); } } f(1);
exports_a_class_without_a_name :
    Does 9 nulls (action.ReadExport (codes "default") ∷ action.New 0 [] ∷ [])
    (tree kind.ExportDefaultDecl (tree kind.ClassExpr (absent ▸ class' absent (constructor' End (statement (call (ident (codes "f")) (whole 2 ▸ End)) ▸ End) ▸ End) ▸ End) ▸ End)
    ▸ statement (call (ident (codes "f")) (whole 1 ▸ End))
    ▸ End)
    (HostCall 7 shown.Undefined (shown.Num (js_number.Whole (pos 1)) ∷ []) ∷ HostCall 7 shown.Undefined (shown.Num (js_number.Whole (pos 2)) ∷ [])
    ∷ []) (ending.Done (Return (shown.Handle 0) ∷ Return (shown.Handle 1) ∷ []))
exports_a_class_without_a_name = does refl (simp (meaning_node, exports_node) refl)

-- export default function h() { return 1; }
exports_no_overloads_as_the_default :
    Does 9 nulls (action.ReadExport (codes "default") ∷ action.Call 0 shown.Undefined [] ∷ [])
    (tree kind.ExportDefaultDecl (tree kind.FnExpr (ident (codes "h") ▸ tree (kind.Function false false) (list End ▸ absent ▸ absent ▸ absent ▸ End) ▸ End) ▸ End)
    ▸ tree kind.ExportDefaultDecl (function_expression (ident (codes "h")) End (returns (whole 1) ▸ End) ▸ End)
    ▸ End)
    [] (ending.Done (Return (shown.Handle 0) ∷ Return (shown.Num (js_number.Whole (pos 1))) ∷ []))
exports_no_overloads_as_the_default = does refl (simp (meaning_node, exports_node) refl)

-- import { a as q } from "m"; export { q }; export { a as b, default } from "m"; f(q);
exports_imports :
    Does 9 nulls (action.ReadExport (codes "q") ∷ action.ReadExport (codes "b") ∷ action.ReadExport (codes "default") ∷ [])
    (tree (kind.ImportDecl false) (list (tree (kind.ImportNamedSpecifier false) (ident (codes "q") ▸ ident (codes "a") ▸ End) ▸ End) ▸ string (codes "m") ▸ absent ▸ End)
    ▸ tree (kind.NamedExport false) (list (tree (kind.ExportNamedSpecifier false) (ident (codes "q") ▸ absent ▸ End) ▸ End) ▸ absent ▸ absent ▸ End)
    ▸ tree (kind.NamedExport false) (list (tree (kind.ExportNamedSpecifier false) (ident (codes "a") ▸ ident (codes "b") ▸ End)
    ▸ tree (kind.ExportNamedSpecifier false) (ident (codes "default") ▸ absent ▸ End) ▸ End) ▸ string (codes "m") ▸ absent ▸ End)
    ▸ statement (call (ident (codes "f")) (ident (codes "q") ▸ End))
    ▸ End)
    (HostCall 7 shown.Undefined (shown.Num (js_number.Whole (pos 5)) ∷ []) ∷ []) (ending.Done (Return (shown.Num (js_number.Whole (pos 5)))
    ∷ Return (shown.Num (js_number.Whole (pos 5))) ∷ Return (shown.Host 9) ∷ []))
exports_imports = does refl (simp (meaning_node, exports_node) refl)

-- f(1);
exports_no_types :
    Does 9 nulls (action.ReadExport (codes "J") ∷ action.ReadExport (codes "q") ∷ [])
    (tree kind.ExportDecl (tree (kind.TsInterfaceDecl false) (ident (codes "J") ▸ End) ▸ End)
    ▸ tree (kind.NamedExport true) (list (tree (kind.ExportNamedSpecifier false) (ident (codes "q") ▸ absent ▸ End) ▸ End) ▸ absent ▸ absent ▸ End)
    ▸ statement (call (ident (codes "f")) (whole 1 ▸ End))
    ▸ End)
    (HostCall 7 shown.Undefined (shown.Num (js_number.Whole (pos 1)) ∷ []) ∷ []) (ending.Done (Return shown.Undefined ∷ Return shown.Undefined ∷ []))
exports_no_types = does refl (simp (meaning_node, exports_node) refl)

-- export let a = 1;
exports_a_variable_twice_under_a_name :
    Does 9 nulls (action.ReadExport (codes "a") ∷ [])
    (tree kind.ExportDecl (declare Let (codes "a") (whole 1) ▸ End)
    ▸ tree (kind.NamedExport false) (list (tree (kind.ExportNamedSpecifier false) (ident (codes "a") ▸ absent ▸ End) ▸ End) ▸ absent ▸ absent ▸ End)
    ▸ End)
    [] (ending.Done (Return (shown.Num (js_number.Whole (pos 1))) ∷ []))
exports_a_variable_twice_under_a_name = does refl (simp (meaning_node, exports_node) refl)

-- f(1);
exports_no_two_under_a_name :
    Does 9 nulls (action.ReadExport (codes "a") ∷ [])
    (tree kind.ExportDecl (declare Let (codes "a") (whole 1) ▸ End)
    ▸ declare Let (codes "q") (whole 2)
    ▸ tree (kind.NamedExport false) (list (tree (kind.ExportNamedSpecifier false) (ident (codes "q") ▸ ident (codes "a") ▸ End) ▸ End) ▸ absent ▸ absent ▸ End)
    ▸ statement (call (ident (codes "f")) (whole 1 ▸ End))
    ▸ End)
    (HostCall 7 shown.Undefined (shown.Num (js_number.Whole (pos 1)) ∷ []) ∷ []) (ending.Outside)
exports_no_two_under_a_name = does refl (simp (meaning_node, exports_node) refl)

-- export * from "m"; export let b = 1;
reads_its_own_exports_beside_all_of_another_module :
    Does 9 nulls (action.ReadExport (codes "b") ∷ [])
    (tree (kind.ExportAll false) (string (codes "m") ▸ absent ▸ End)
    ▸ tree kind.ExportDecl (declare Let (codes "b") (whole 1) ▸ End)
    ▸ End)
    [] (ending.Done (Return (shown.Num (js_number.Whole (pos 1))) ∷ []))
reads_its_own_exports_beside_all_of_another_module = does refl (simp (meaning_node, exports_node) refl)

-- f(1);
knows_no_others_beside_all_of_another_module :
    Does 9 nulls (action.ReadExport (codes "q") ∷ [])
    (tree (kind.ExportAll false) (string (codes "m") ▸ absent ▸ End)
    ▸ statement (call (ident (codes "f")) (whole 1 ▸ End))
    ▸ End)
    (HostCall 7 shown.Undefined (shown.Num (js_number.Whole (pos 1)) ∷ []) ∷ []) (ending.Outside)
knows_no_others_beside_all_of_another_module = does refl (simp (meaning_node, exports_node) refl)
