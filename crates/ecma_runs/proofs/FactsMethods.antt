-- Methods, bound functions and what constructors return: each fact is a small module and what node observes of it, by computing. Written by compare/facts.mjs.
use Rattle.std.proofs.Common.{refl, pos, [], ◌∷◌, true, false, codes}
use Rattle.ecma_number.specs.declared.js_number.JsNumber.TheVariants as js_number
use Rattle.ecma_kind.specs.declared.kind.Kind.TheVariants as kind
use Rattle.ecma_kind.specs.declared.operators.BinaryOp.TheVariants as binary
use Rattle.ecma_kind.specs.declared.operators.MethodKind.TheVariants as method
use Rattle.ecma_kind.specs.declared.operators.VarDeclKind.TheVariants.{Let}
use Rattle.ecma_runs.specs.declared.observation.Event.TheVariants.{HostCall, HostNew}
use Rattle.ecma_runs.specs.declared.observation.Ending.TheVariants as ending
use Rattle.ecma_runs.specs.declared.script.Answer.TheVariants.{Return, Throw}
use Rattle.ecma_runs.specs.declared.shown.ErrorKind.TheVariants as error
use Rattle.ecma_runs.specs.declared.shown.Shown.TheVariants as shown
use Rattle.ecma_runs.proofs.Trees.{End, ◌▸◌, tree, absent, list, ident, key, binding, whole, null, this', super', member, call, new', assign, binary}
use Rattle.ecma_runs.proofs.Trees.{parens, array, object, statement, block, declare, parameter, function}
use Rattle.ecma_runs.proofs.Trees.{declare_function, function_expression, arrow, class_method, field, constructor', class', declare_class, meaning_node}
use Rattle.ecma_runs.proofs.Scripts.{Does, does, nulls}
use Rattle.std.specs.Fmt.{digits}

-- let o = { m() {} }; class A { m() {} } try { new o.m(); } catch (e) { f(e); } try { new (new A().m)(); } catch (e) { f(e); }
constructs_no_methods :
    Does 9 nulls []
    (declare Let (codes "o") (object (tree kind.MethodProp (key (codes "m") ▸ function End End ▸ End) ▸ End))
    ▸ declare_class (codes "A") absent (class_method method.Method false (key (codes "m")) End End ▸ End)
    ▸ tree kind.TryStmt (block (statement (new' (member (ident (codes "o")) (codes "m")) End) ▸ End) ▸ tree kind.CatchClause (binding (codes "e")
    ▸ block (statement (call (ident (codes "f")) (ident (codes "e") ▸ End)) ▸ End) ▸ End) ▸ absent ▸ End)
    ▸ tree kind.TryStmt (block (statement (new' (parens (member (new' (ident (codes "A")) End) (codes "m"))) End) ▸ End) ▸ tree kind.CatchClause (binding (codes "e")
    ▸ block (statement (call (ident (codes "f")) (ident (codes "e") ▸ End)) ▸ End) ▸ End) ▸ absent ▸ End)
    ▸ End)
    (HostCall 7 shown.Undefined (shown.Error error.Kind ∷ []) ∷ HostCall 7 shown.Undefined (shown.Error error.Kind ∷ []) ∷ []) (ending.Done [])
constructs_no_methods = does refl (simp meaning_node refl)

-- let h = function () { this.a = 1; }; h.prototype.b = 2; let o = new h(); f(o.a, o.b);
constructs_function_expressions :
    Does 9 nulls []
    (declare Let (codes "h") (function_expression absent End (statement (assign (member this' (codes "a")) (whole 1)) ▸ End))
    ▸ statement (assign (member (member (ident (codes "h")) (codes "prototype")) (codes "b")) (whole 2))
    ▸ declare Let (codes "o") (new' (ident (codes "h")) End)
    ▸ statement (call (ident (codes "f")) (member (ident (codes "o")) (codes "a") ▸ member (ident (codes "o")) (codes "b") ▸ End))
    ▸ End)
    (HostCall 7 shown.Undefined (shown.Num (js_number.Whole (pos 1)) ∷ shown.Num (js_number.Whole (pos 2)) ∷ []) ∷ []) (ending.Done [])
constructs_function_expressions = does refl (simp meaning_node refl)

-- class A {} let k = A.bind(), j = (() => 1).bind(); try { k(); } catch (e) { f(e); } try { new j(); } catch (e) { f(e); } f(new k() instanceof A);
calls_no_bound_classes :
    Does 9 nulls []
    (declare_class (codes "A") absent End
    ▸ tree (kind.VarDecl Let false) (list (tree (kind.VarDeclarator false) (binding (codes "k") ▸ call (member (ident (codes "A")) (codes "bind")) End ▸ End)
    ▸ tree (kind.VarDeclarator false) (binding (codes "j") ▸ call (member (parens (arrow End (whole 1))) (codes "bind")) End ▸ End) ▸ End) ▸ End)
    ▸ tree kind.TryStmt (block (statement (call (ident (codes "k")) End) ▸ End) ▸ tree kind.CatchClause (binding (codes "e")
    ▸ block (statement (call (ident (codes "f")) (ident (codes "e") ▸ End)) ▸ End) ▸ End) ▸ absent ▸ End)
    ▸ tree kind.TryStmt (block (statement (new' (ident (codes "j")) End) ▸ End) ▸ tree kind.CatchClause (binding (codes "e")
    ▸ block (statement (call (ident (codes "f")) (ident (codes "e") ▸ End)) ▸ End) ▸ End) ▸ absent ▸ End)
    ▸ statement (call (ident (codes "f")) (binary binary.InstanceOf (new' (ident (codes "k")) End) (ident (codes "A")) ▸ End))
    ▸ End)
    (HostCall 7 shown.Undefined (shown.Error error.Kind ∷ []) ∷ HostCall 7 shown.Undefined (shown.Error error.Kind ∷ []) ∷ HostCall 7 shown.Undefined (shown.Bool true ∷ [])
    ∷ []) (ending.Done [])
calls_no_bound_classes = does refl (simp meaning_node refl)

-- function h() {} let k = h.bind(); try { (class extends k {}); } catch (e) { f(e); }
extends_no_bound_function_without_prototype :
    Does 9 nulls []
    (declare_function (codes "h") End End
    ▸ declare Let (codes "k") (call (member (ident (codes "h")) (codes "bind")) End)
    ▸ tree kind.TryStmt (block (statement (parens (tree kind.ClassExpr (absent ▸ class' (ident (codes "k")) End ▸ End))) ▸ End) ▸ tree kind.CatchClause (binding (codes "e")
    ▸ block (statement (call (ident (codes "f")) (ident (codes "e") ▸ End)) ▸ End) ▸ End) ▸ absent ▸ End)
    ▸ End)
    (HostCall 7 shown.Undefined (shown.Error error.Kind ∷ []) ∷ []) (ending.Done [])
extends_no_bound_function_without_prototype = does refl (simp meaning_node refl)

-- try { (class extends 1 {}); } catch (e) { f(e); } function h() {} h.prototype = 1; try { (class extends h {}); } catch (e) { f(e); }
extends_no_primitive_value :
    Does 9 nulls []
    (tree kind.TryStmt (block (statement (parens (tree kind.ClassExpr (absent ▸ class' (whole 1) End ▸ End))) ▸ End) ▸ tree kind.CatchClause (binding (codes "e")
    ▸ block (statement (call (ident (codes "f")) (ident (codes "e") ▸ End)) ▸ End) ▸ End) ▸ absent ▸ End)
    ▸ declare_function (codes "h") End End
    ▸ statement (assign (member (ident (codes "h")) (codes "prototype")) (whole 1))
    ▸ tree kind.TryStmt (block (statement (parens (tree kind.ClassExpr (absent ▸ class' (ident (codes "h")) End ▸ End))) ▸ End) ▸ tree kind.CatchClause (binding (codes "e")
    ▸ block (statement (call (ident (codes "f")) (ident (codes "e") ▸ End)) ▸ End) ▸ End) ▸ absent ▸ End)
    ▸ End)
    (HostCall 7 shown.Undefined (shown.Error error.Kind ∷ []) ∷ HostCall 7 shown.Undefined (shown.Error error.Kind ∷ []) ∷ []) (ending.Done [])
extends_no_primitive_value = does refl (simp meaning_node refl)

-- function h(a) { this.a = a; } f((new h).a, new h instanceof h);
constructs_without_arguments :
    Does 9 nulls []
    (declare_function (codes "h") (parameter (binding (codes "a")) ▸ End) (statement (assign (member this' (codes "a")) (ident (codes "a"))) ▸ End)
    ▸ statement (call (ident (codes "f")) (member (parens (tree kind.NewExpr (ident (codes "h") ▸ absent ▸ absent ▸ End))) (codes "a")
    ▸ binary binary.InstanceOf (tree kind.NewExpr (ident (codes "h") ▸ absent ▸ absent ▸ End)) (ident (codes "h")) ▸ End))
    ▸ End)
    (HostCall 7 shown.Undefined (shown.Undefined ∷ shown.Bool true ∷ []) ∷ []) (ending.Done [])
constructs_without_arguments = does refl (simp meaning_node refl)

-- class A {} class B extends A { x = f(1); constructor() { super(); try { super(); } catch (e) { f(e); } } } new B();
has_fields_once :
    Does 9 nulls []
    (declare_class (codes "A") absent End
    ▸ declare_class (codes "B") (ident (codes "A")) (field false (key (codes "x")) (call (ident (codes "f")) (whole 1 ▸ End)) ▸ constructor' End (statement (call super' End)
    ▸ tree kind.TryStmt (block (statement (call super' End) ▸ End) ▸ tree kind.CatchClause (binding (codes "e") ▸ block (statement (call (ident (codes "f")) (ident (codes "e")
    ▸ End)) ▸ End) ▸ End) ▸ absent ▸ End) ▸ End) ▸ End)
    ▸ statement (new' (ident (codes "B")) End)
    ▸ End)
    (HostCall 7 shown.Undefined (shown.Num (js_number.Whole (pos 1)) ∷ []) ∷ HostCall 7 shown.Undefined (shown.Error error.Reference ∷ []) ∷ []) (ending.Done [])
has_fields_once = does refl (simp meaning_node refl)

-- function h(a, b, c) { f(this, a, b, c); } h.apply(1, [2, , 3]); h.apply(4); h.apply(5, null); h.apply(6, undefined);
passes_holes_and_nothing_by_apply :
    Does 9 nulls []
    (declare_function (codes "h") (parameter (binding (codes "a")) ▸ parameter (binding (codes "b")) ▸ parameter (binding (codes "c"))
    ▸ End) (statement (call (ident (codes "f")) (this' ▸ ident (codes "a") ▸ ident (codes "b") ▸ ident (codes "c") ▸ End)) ▸ End)
    ▸ statement (call (member (ident (codes "h")) (codes "apply")) (whole 1 ▸ array (whole 2 ▸ absent ▸ whole 3 ▸ End) ▸ End))
    ▸ statement (call (member (ident (codes "h")) (codes "apply")) (whole 4 ▸ End))
    ▸ statement (call (member (ident (codes "h")) (codes "apply")) (whole 5 ▸ null ▸ End))
    ▸ statement (call (member (ident (codes "h")) (codes "apply")) (whole 6 ▸ ident (codes "undefined") ▸ End))
    ▸ End)
    (HostCall 7 shown.Undefined (shown.Num (js_number.Whole (pos 1)) ∷ shown.Num (js_number.Whole (pos 2)) ∷ shown.Undefined ∷ shown.Num (js_number.Whole (pos 3)) ∷ [])
    ∷ HostCall 7 shown.Undefined (shown.Num (js_number.Whole (pos 4)) ∷ shown.Undefined ∷ shown.Undefined ∷ shown.Undefined ∷ [])
    ∷ HostCall 7 shown.Undefined (shown.Num (js_number.Whole (pos 5)) ∷ shown.Undefined ∷ shown.Undefined ∷ shown.Undefined ∷ [])
    ∷ HostCall 7 shown.Undefined (shown.Num (js_number.Whole (pos 6)) ∷ shown.Undefined ∷ shown.Undefined ∷ shown.Undefined ∷ []) ∷ []) (ending.Done [])
unfolding digits
passes_holes_and_nothing_by_apply = does refl (simp meaning_node refl)

-- let o = { f }; o.f({}, o); f(o);
shows_receivers_first :
    Does 9 nulls []
    (declare Let (codes "o") (object (ident (codes "f") ▸ End))
    ▸ statement (call (member (ident (codes "o")) (codes "f")) (object End ▸ ident (codes "o") ▸ End))
    ▸ statement (call (ident (codes "f")) (ident (codes "o") ▸ End))
    ▸ End)
    (HostCall 7 (shown.Handle 0) (shown.Handle 1 ∷ shown.Handle 0 ∷ []) ∷ HostCall 7 shown.Undefined (shown.Handle 0 ∷ []) ∷ []) (ending.Done [])
shows_receivers_first = does refl (simp meaning_node refl)

-- let o = {}; f(o); try { f(1); } catch (e) { g(e === o, e); }
throws_objects_back :
    Does 9 (Return shown.Null ∷ Throw (shown.Handle 0) ∷ Return shown.Null ∷ []) []
    (declare Let (codes "o") (object End)
    ▸ statement (call (ident (codes "f")) (ident (codes "o") ▸ End))
    ▸ tree kind.TryStmt (block (statement (call (ident (codes "f")) (whole 1 ▸ End)) ▸ End) ▸ tree kind.CatchClause (binding (codes "e")
    ▸ block (statement (call (ident (codes "g")) (binary binary.EqEqEq (ident (codes "e")) (ident (codes "o")) ▸ ident (codes "e") ▸ End)) ▸ End) ▸ End) ▸ absent ▸ End)
    ▸ End)
    (HostCall 7 shown.Undefined (shown.Handle 0 ∷ []) ∷ HostCall 7 shown.Undefined (shown.Num (js_number.Whole (pos 1)) ∷ []) ∷ HostCall 8 shown.Undefined (shown.Bool true
    ∷ shown.Handle 0 ∷ []) ∷ []) (ending.Done [])
throws_objects_back = does refl (simp meaning_node refl)

-- let o = {}; f(o); g(new f() === o, new f(1));
constructs_own_objects_by_the_host :
    Does 9 (Return shown.Null ∷ Return (shown.Handle 0) ∷ Return (shown.Host 9) ∷ Return shown.Null ∷ []) []
    (declare Let (codes "o") (object End)
    ▸ statement (call (ident (codes "f")) (ident (codes "o") ▸ End))
    ▸ statement (call (ident (codes "g")) (binary binary.EqEqEq (new' (ident (codes "f")) End) (ident (codes "o")) ▸ new' (ident (codes "f")) (whole 1 ▸ End) ▸ End))
    ▸ End)
    (HostCall 7 shown.Undefined (shown.Handle 0 ∷ []) ∷ HostNew 7 [] ∷ HostNew 7 (shown.Num (js_number.Whole (pos 1)) ∷ []) ∷ HostCall 8 shown.Undefined (shown.Bool true
    ∷ shown.Host 9 ∷ []) ∷ []) (ending.Done [])
constructs_own_objects_by_the_host = does refl (simp meaning_node refl)
