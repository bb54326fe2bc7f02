-- What declarations make of names: each fact is a small module and what node observes of it, by computing. Written by compare/facts.mjs.
use Rattle.std.proofs.Common.{refl, pos, [], ◌∷◌, true, false, codes}
use Rattle.ecma_number.specs.declared.js_number.JsNumber.TheVariants as js_number
use Rattle.ecma_kind.specs.declared.kind.Kind.TheVariants as kind
use Rattle.ecma_kind.specs.declared.operators.BinaryOp.TheVariants as binary
use Rattle.ecma_kind.specs.declared.operators.MetaPropKind.TheVariants.{NewTarget}
use Rattle.ecma_kind.specs.declared.operators.MethodKind.TheVariants as method
use Rattle.ecma_kind.specs.declared.operators.UnaryOp.TheVariants as unary
use Rattle.ecma_kind.specs.declared.operators.VarDeclKind.TheVariants.{Var, Let, Const}
use Rattle.ecma_runs.specs.declared.observation.Event.TheVariants.{HostCall}
use Rattle.ecma_runs.specs.declared.observation.Ending.TheVariants as ending
use Rattle.ecma_runs.specs.declared.shown.ErrorKind.TheVariants as error
use Rattle.ecma_runs.specs.declared.shown.Shown.TheVariants as shown
use Rattle.ecma_runs.proofs.Trees.{End, ◌▸◌, tree, absent, list, ident, key, computed, binding, whole, string, member, call, new', assign, unary, binary}
use Rattle.ecma_runs.proofs.Trees.{parens, array, object, property, statement, block, returns, declare_pattern, declare}
use Rattle.ecma_runs.proofs.Trees.{parameter, declare_function, arrow, class_method, field, constructor', class', declare_class, meaning_node}
use Rattle.ecma_runs.proofs.Scripts.{Does, does, nulls}

-- f(a, b, c, d); if (0) { var a; } while (0) { var b; } do { var c; } while (0); for (; 0; ) { var d; }
declares_var_in_statements :
    Does 9 nulls []
    (statement (call (ident (codes "f")) (ident (codes "a") ▸ ident (codes "b") ▸ ident (codes "c") ▸ ident (codes "d") ▸ End))
    ▸ tree kind.IfStmt (whole 0 ▸ block (declare Var (codes "a") absent ▸ End) ▸ absent ▸ End)
    ▸ tree kind.WhileStmt (whole 0 ▸ block (declare Var (codes "b") absent ▸ End) ▸ End)
    ▸ tree kind.DoWhileStmt (whole 0 ▸ block (declare Var (codes "c") absent ▸ End) ▸ End)
    ▸ tree kind.ForStmt (absent ▸ whole 0 ▸ absent ▸ block (declare Var (codes "d") absent ▸ End) ▸ End)
    ▸ End)
    (HostCall 7 shown.Undefined (shown.Undefined ∷ shown.Undefined ∷ shown.Undefined ∷ shown.Undefined ∷ []) ∷ []) (ending.Done [])
declares_var_in_statements = does refl (simp meaning_node refl)

-- f(a, b); if (1) var a = 1; else var b = 2; f(a, b);
declares_var_in_both_branches :
    Does 9 nulls []
    (statement (call (ident (codes "f")) (ident (codes "a") ▸ ident (codes "b") ▸ End))
    ▸ tree kind.IfStmt (whole 1 ▸ declare Var (codes "a") (whole 1) ▸ declare Var (codes "b") (whole 2) ▸ End)
    ▸ statement (call (ident (codes "f")) (ident (codes "a") ▸ ident (codes "b") ▸ End))
    ▸ End)
    (HostCall 7 shown.Undefined (shown.Undefined ∷ shown.Undefined ∷ []) ∷ HostCall 7 shown.Undefined (shown.Num (js_number.Whole (pos 1)) ∷ shown.Undefined ∷ [])
    ∷ []) (ending.Done [])
declares_var_in_both_branches = does refl (simp meaning_node refl)

-- f(a, b, c); try { var a = 1; throw 2; } catch { var b = 3; } finally { var c = 4; } f(a, b, c);
declares_var_in_try :
    Does 9 nulls []
    (statement (call (ident (codes "f")) (ident (codes "a") ▸ ident (codes "b") ▸ ident (codes "c") ▸ End))
    ▸ tree kind.TryStmt (block (declare Var (codes "a") (whole 1) ▸ tree kind.ThrowStmt (whole 2 ▸ End) ▸ End) ▸ tree kind.CatchClause (absent
    ▸ block (declare Var (codes "b") (whole 3) ▸ End) ▸ End) ▸ block (declare Var (codes "c") (whole 4) ▸ End) ▸ End)
    ▸ statement (call (ident (codes "f")) (ident (codes "a") ▸ ident (codes "b") ▸ ident (codes "c") ▸ End))
    ▸ End)
    (HostCall 7 shown.Undefined (shown.Undefined ∷ shown.Undefined ∷ shown.Undefined ∷ []) ∷ HostCall 7 shown.Undefined (shown.Num (js_number.Whole (pos 1))
    ∷ shown.Num (js_number.Whole (pos 3)) ∷ shown.Num (js_number.Whole (pos 4)) ∷ []) ∷ []) (ending.Done [])
declares_var_in_try = does refl (simp meaning_node refl)

-- function h() {} h = 1; class A {} A = 2; { function k() {} k = 3; f(k); } f(h, A);
writes_functions_and_classes :
    Does 9 nulls []
    (declare_function (codes "h") End End
    ▸ statement (assign (ident (codes "h")) (whole 1))
    ▸ declare_class (codes "A") absent End
    ▸ statement (assign (ident (codes "A")) (whole 2))
    ▸ block (declare_function (codes "k") End End ▸ statement (assign (ident (codes "k")) (whole 3)) ▸ statement (call (ident (codes "f")) (ident (codes "k") ▸ End)) ▸ End)
    ▸ statement (call (ident (codes "f")) (ident (codes "h") ▸ ident (codes "A") ▸ End))
    ▸ End)
    (HostCall 7 shown.Undefined (shown.Num (js_number.Whole (pos 3)) ∷ []) ∷ HostCall 7 shown.Undefined (shown.Num (js_number.Whole (pos 1)) ∷ shown.Num (js_number.Whole (pos 2))
    ∷ []) ∷ []) (ending.Done [])
writes_functions_and_classes = does refl (simp meaning_node refl)

-- function h(a) { a = 2; f(a); } h(1); try { throw 3; } catch (e) { e = 4; f(e); }
writes_parameters_and_what_was_caught :
    Does 9 nulls []
    (declare_function (codes "h") (parameter (binding (codes "a")) ▸ End) (statement (assign (ident (codes "a")) (whole 2)) ▸ statement (call (ident (codes "f")) (ident (codes "a")
    ▸ End)) ▸ End)
    ▸ statement (call (ident (codes "h")) (whole 1 ▸ End))
    ▸ tree kind.TryStmt (block (tree kind.ThrowStmt (whole 3 ▸ End) ▸ End) ▸ tree kind.CatchClause (binding (codes "e") ▸ block (statement (assign (ident (codes "e")) (whole 4))
    ▸ statement (call (ident (codes "f")) (ident (codes "e") ▸ End)) ▸ End) ▸ End) ▸ absent ▸ End)
    ▸ End)
    (HostCall 7 shown.Undefined (shown.Num (js_number.Whole (pos 2)) ∷ []) ∷ HostCall 7 shown.Undefined (shown.Num (js_number.Whole (pos 4)) ∷ []) ∷ []) (ending.Done [])
writes_parameters_and_what_was_caught = does refl (simp meaning_node refl)

-- try { x = f(1); } catch (e) { f(e); } let x = 2; try { y = 3; } catch (e) { f(e); } const y = 4;
writes_no_empty_variable :
    Does 9 nulls []
    (tree kind.TryStmt (block (statement (assign (ident (codes "x")) (call (ident (codes "f")) (whole 1 ▸ End))) ▸ End) ▸ tree kind.CatchClause (binding (codes "e")
    ▸ block (statement (call (ident (codes "f")) (ident (codes "e") ▸ End)) ▸ End) ▸ End) ▸ absent ▸ End)
    ▸ declare Let (codes "x") (whole 2)
    ▸ tree kind.TryStmt (block (statement (assign (ident (codes "y")) (whole 3)) ▸ End) ▸ tree kind.CatchClause (binding (codes "e")
    ▸ block (statement (call (ident (codes "f")) (ident (codes "e") ▸ End)) ▸ End) ▸ End) ▸ absent ▸ End)
    ▸ declare Const (codes "y") (whole 4)
    ▸ End)
    (HostCall 7 shown.Undefined (shown.Num (js_number.Whole (pos 1)) ∷ []) ∷ HostCall 7 shown.Undefined (shown.Error error.Reference ∷ [])
    ∷ HostCall 7 shown.Undefined (shown.Error error.Reference ∷ []) ∷ []) (ending.Done [])
writes_no_empty_variable = does refl (simp meaning_node refl)

-- import d, { a } from "m"; f(a, d); try { a = 1; } catch (e) { f(e); } d = 2;
writes_no_import :
    Does 9 nulls []
    (tree (kind.ImportDecl false) (list (tree kind.ImportDefaultSpecifier (ident (codes "d") ▸ End) ▸ tree (kind.ImportNamedSpecifier false) (ident (codes "a") ▸ absent ▸ End)
    ▸ End) ▸ string (codes "m") ▸ absent ▸ End)
    ▸ statement (call (ident (codes "f")) (ident (codes "a") ▸ ident (codes "d") ▸ End))
    ▸ tree kind.TryStmt (block (statement (assign (ident (codes "a")) (whole 1)) ▸ End) ▸ tree kind.CatchClause (binding (codes "e")
    ▸ block (statement (call (ident (codes "f")) (ident (codes "e") ▸ End)) ▸ End) ▸ End) ▸ absent ▸ End)
    ▸ statement (assign (ident (codes "d")) (whole 2))
    ▸ End)
    (HostCall 7 shown.Undefined (shown.Num (js_number.Whole (pos 5)) ∷ shown.Host 9 ∷ []) ∷ HostCall 7 shown.Undefined (shown.Error error.Kind ∷ [])
    ∷ []) (ending.Thrown (shown.Error error.Kind))
writes_no_import = does refl (simp meaning_node refl)

-- let x = 1; let y = 2; f(x, y); { let y = 3; x = 4; f(x, y); } f(x, y);
tells_contexts_apart :
    Does 9 nulls []
    (declare Let (codes "x") (whole 1)
    ▸ declare_pattern Let (tree kind.BindingIdent (tree (kind.Ident (codes "x") 1 false) End ▸ absent ▸ End)) (whole 2)
    ▸ statement (call (ident (codes "f")) (ident (codes "x") ▸ tree (kind.Ident (codes "x") 1 false) End ▸ End))
    ▸ block (declare_pattern Let (tree kind.BindingIdent (tree (kind.Ident (codes "x") 1 false) End ▸ absent ▸ End)) (whole 3) ▸ statement (assign (ident (codes "x")) (whole 4))
    ▸ statement (call (ident (codes "f")) (ident (codes "x") ▸ tree (kind.Ident (codes "x") 1 false) End ▸ End)) ▸ End)
    ▸ statement (call (ident (codes "f")) (ident (codes "x") ▸ tree (kind.Ident (codes "x") 1 false) End ▸ End))
    ▸ End)
    (HostCall 7 shown.Undefined (shown.Num (js_number.Whole (pos 1)) ∷ shown.Num (js_number.Whole (pos 2)) ∷ []) ∷ HostCall 7 shown.Undefined (shown.Num (js_number.Whole (pos 4))
    ∷ shown.Num (js_number.Whole (pos 3)) ∷ []) ∷ HostCall 7 shown.Undefined (shown.Num (js_number.Whole (pos 4)) ∷ shown.Num (js_number.Whole (pos 2)) ∷ [])
    ∷ []) (ending.Done [])
tells_contexts_apart = does refl (simp meaning_node refl)

-- f(1); g(x);
reads_free_names_of_any_context :
    Does 9 nulls []
    (statement (call (tree (kind.Ident (codes "f") 1 false) End) (whole 1 ▸ End))
    ▸ statement (call (tree (kind.Ident (codes "g") 2 false) End) (tree (kind.Ident (codes "x") 1 false) End ▸ End))
    ▸ End)
    (HostCall 7 shown.Undefined (shown.Num (js_number.Whole (pos 1)) ∷ []) ∷ []) (ending.Thrown (shown.Error error.Reference))
reads_free_names_of_any_context = does refl (simp meaning_node refl)

-- f(1); typeof a; let [a] = [];
has_names_of_array_patterns :
    Does 9 nulls []
    (statement (call (ident (codes "f")) (whole 1 ▸ End))
    ▸ statement (unary unary.TypeOf (ident (codes "a")))
    ▸ declare_pattern Let (tree (kind.ArrayPat false) (list (binding (codes "a") ▸ End) ▸ absent ▸ End)) (array End)
    ▸ End)
    (HostCall 7 shown.Undefined (shown.Num (js_number.Whole (pos 1)) ∷ []) ∷ []) (ending.Thrown (shown.Error error.Reference))
has_names_of_array_patterns = does refl (simp meaning_node refl)

-- f(1); typeof b; let { a, ...b } = {};
has_names_of_rest :
    Does 9 nulls []
    (statement (call (ident (codes "f")) (whole 1 ▸ End))
    ▸ statement (unary unary.TypeOf (ident (codes "b")))
    ▸ declare_pattern Let (tree (kind.ObjectPat false) (list (tree kind.AssignPatProp (binding (codes "a") ▸ absent ▸ End) ▸ tree kind.RestPat (binding (codes "b") ▸ absent ▸ End)
    ▸ End) ▸ absent ▸ End)) (object End)
    ▸ End)
    (HostCall 7 shown.Undefined (shown.Num (js_number.Whole (pos 1)) ∷ []) ∷ []) (ending.Thrown (shown.Error error.Reference))
has_names_of_rest = does refl (simp meaning_node refl)

-- let A = 1; try { (class A extends A {}); } catch (e) { f(e); }
reads_no_outer_name_in_heritage :
    Does 9 nulls []
    (declare Let (codes "A") (whole 1)
    ▸ tree kind.TryStmt (block (statement (parens (tree kind.ClassExpr (ident (codes "A") ▸ class' (ident (codes "A")) End ▸ End))) ▸ End)
    ▸ tree kind.CatchClause (binding (codes "e") ▸ block (statement (call (ident (codes "f")) (ident (codes "e") ▸ End)) ▸ End) ▸ End) ▸ absent ▸ End)
    ▸ End)
    (HostCall 7 shown.Undefined (shown.Error error.Reference ∷ []) ∷ []) (ending.Done [])
reads_no_outer_name_in_heritage = does refl (simp meaning_node refl)

-- let B = class A { constructor() { f(A === B); } x = A; static y = A; static ["z"]() { return A; } }; f(new B().x === B, B.y === B, B.z() === B);
has_the_inner_name_in_members :
    Does 9 nulls []
    (declare Let (codes "B") (tree kind.ClassExpr (ident (codes "A")
    ▸ class' absent (constructor' End (statement (call (ident (codes "f")) (binary binary.EqEqEq (ident (codes "A")) (ident (codes "B")) ▸ End)) ▸ End)
    ▸ field false (key (codes "x")) (ident (codes "A")) ▸ field true (key (codes "y")) (ident (codes "A"))
    ▸ class_method method.Method true (computed (string (codes "z"))) End (returns (ident (codes "A")) ▸ End) ▸ End) ▸ End))
    ▸ statement (call (ident (codes "f")) (binary binary.EqEqEq (member (new' (ident (codes "B")) End) (codes "x")) (ident (codes "B"))
    ▸ binary binary.EqEqEq (member (ident (codes "B")) (codes "y")) (ident (codes "B"))
    ▸ binary binary.EqEqEq (call (member (ident (codes "B")) (codes "z")) End) (ident (codes "B")) ▸ End))
    ▸ End)
    (HostCall 7 shown.Undefined (shown.Bool true ∷ []) ∷ HostCall 7 shown.Undefined (shown.Bool true ∷ shown.Bool true ∷ shown.Bool true ∷ []) ∷ []) (ending.Done [])
has_the_inner_name_in_members = does refl (simp meaning_node refl)

-- function h() { f(new.target, (() => new.target)()); } h(); let o = { h }; o.h();
has_no_new_target_in_calls :
    Does 9 nulls []
    (declare_function (codes "h") End (statement (call (ident (codes "f")) (tree (kind.MetaPropExpr NewTarget) End
    ▸ call (parens (arrow End (tree (kind.MetaPropExpr NewTarget) End))) End ▸ End)) ▸ End)
    ▸ statement (call (ident (codes "h")) End)
    ▸ declare Let (codes "o") (object (ident (codes "h") ▸ End))
    ▸ statement (call (member (ident (codes "o")) (codes "h")) End)
    ▸ End)
    (HostCall 7 shown.Undefined (shown.Undefined ∷ shown.Undefined ∷ []) ∷ HostCall 7 shown.Undefined (shown.Undefined ∷ shown.Undefined ∷ []) ∷ []) (ending.Done [])
has_no_new_target_in_calls = does refl (simp meaning_node refl)

-- try { arguments; } catch (e) { f(e); } f(typeof arguments);
has_no_arguments_outside_of_functions :
    Does 9 nulls []
    (tree kind.TryStmt (block (statement (ident (codes "arguments")) ▸ End) ▸ tree kind.CatchClause (binding (codes "e")
    ▸ block (statement (call (ident (codes "f")) (ident (codes "e") ▸ End)) ▸ End) ▸ End) ▸ absent ▸ End)
    ▸ statement (call (ident (codes "f")) (unary unary.TypeOf (ident (codes "arguments")) ▸ End))
    ▸ End)
    (HostCall 7 shown.Undefined (shown.Error error.Reference ∷ []) ∷ HostCall 7 shown.Undefined (shown.Text (codes "undefined") ∷ []) ∷ []) (ending.Done [])
has_no_arguments_outside_of_functions = does refl (simp meaning_node refl)

-- let b = 1; let o = { set a({ c = b, d = c }) { f(c, d); } }; o.a = {}; o.a = { c: 2 };
has_a_default_that_reads_a_parameter_of_the_setter :
    Does 9 nulls []
    (declare Let (codes "b") (whole 1)
    ▸ declare Let (codes "o") (object (tree kind.SetterProp (key (codes "a") ▸ absent ▸ tree (kind.ObjectPat false) (list (tree kind.AssignPatProp (binding (codes "c")
    ▸ ident (codes "b") ▸ End) ▸ tree kind.AssignPatProp (binding (codes "d") ▸ ident (codes "c") ▸ End) ▸ End) ▸ absent ▸ End)
    ▸ block (statement (call (ident (codes "f")) (ident (codes "c") ▸ ident (codes "d") ▸ End)) ▸ End) ▸ End) ▸ End))
    ▸ statement (assign (member (ident (codes "o")) (codes "a")) (object End))
    ▸ statement (assign (member (ident (codes "o")) (codes "a")) (object (property (key (codes "c")) (whole 2) ▸ End)))
    ▸ End)
    (HostCall 7 shown.Undefined (shown.Num (js_number.Whole (pos 1)) ∷ shown.Num (js_number.Whole (pos 1)) ∷ []) ∷ HostCall 7 shown.Undefined (shown.Num (js_number.Whole (pos 2))
    ∷ shown.Num (js_number.Whole (pos 2)) ∷ []) ∷ []) (ending.Done [])
has_a_default_that_reads_a_parameter_of_the_setter = does refl (simp meaning_node refl)
