-- What is open: each fact is a small module and what node observes of it, by computing. Written by compare/facts.mjs.
use Rattle.std.proofs.Common.{refl, pos, [], ◌∷◌, None, true, false, codes}
use Rattle.ecma_number.specs.declared.js_number.JsNumber.TheVariants as js_number
use Rattle.ecma_kind.specs.declared.kind.Kind.TheVariants as kind
use Rattle.ecma_kind.specs.declared.operators.BinaryOp.TheVariants as binary
use Rattle.ecma_kind.specs.declared.operators.MetaPropKind.TheVariants.{ImportMeta}
use Rattle.ecma_kind.specs.declared.operators.MethodKind.TheVariants as method
use Rattle.ecma_kind.specs.declared.operators.UnaryOp.TheVariants as unary
use Rattle.ecma_kind.specs.declared.operators.VarDeclKind.TheVariants.{Var, Let}
use Rattle.ecma_runs.specs.declared.observation.Event.TheVariants.{HostCall, HostNew}
use Rattle.ecma_runs.specs.declared.observation.Ending.TheVariants as ending
use Rattle.ecma_runs.specs.declared.script.Answer.TheVariants.{Return}
use Rattle.ecma_runs.specs.declared.shown.Shown.TheVariants as shown
use Rattle.ecma_runs.proofs.Trees.{End, ◌▸◌, tree, absent, list, ident, key, computed, binding, whole, truth, string, null, member, super_member, call, new', assign}
use Rattle.ecma_runs.proofs.Trees.{unary, binary, parens, array, object, statement, block, returns, declare}
use Rattle.ecma_runs.proofs.Trees.{parameter, function, declare_function, arrow, class_method, field, constructor', class', declare_class, meaning_node}
use Rattle.ecma_runs.proofs.Scripts.{Does, does, nulls}
use Rattle.std.specs.Fmt.{digits}
use Rattle.ecma_number.specs.Arithmetic.{quotient_of}

-- f(1); 1n;
big_integers :
    Does 9 nulls []
    (statement (call (ident (codes "f")) (whole 1 ▸ End))
    ▸ statement (tree (kind.BigInt (codes "1") None) End)
    ▸ End)
    (HostCall 7 shown.Undefined (shown.Num (js_number.Whole (pos 1)) ∷ []) ∷ []) (ending.Outside)
big_integers = does refl (simp meaning_node refl)

-- f(1); 0.5;
numbers_outside_the_domain :
    Does 9 nulls []
    (statement (call (ident (codes "f")) (whole 1 ▸ End))
    ▸ statement (tree (kind.Number None None) End)
    ▸ End)
    (HostCall 7 shown.Undefined (shown.Num (js_number.Whole (pos 1)) ∷ []) ∷ []) (ending.Outside)
numbers_outside_the_domain = does refl (simp meaning_node refl)

-- f(1); 1 / 2;
results_outside_the_domain :
    Does 9 nulls []
    (statement (call (ident (codes "f")) (whole 1 ▸ End))
    ▸ statement (binary binary.Div (whole 1) (whole 2))
    ▸ End)
    (HostCall 7 shown.Undefined (shown.Num (js_number.Whole (pos 1)) ∷ []) ∷ []) (ending.Outside)
unfolding quotient_of
results_outside_the_domain = does refl (simp meaning_node refl)

-- f(1); x = f(2);
writes_of_free_names :
    Does 9 nulls []
    (statement (call (ident (codes "f")) (whole 1 ▸ End))
    ▸ statement (assign (ident (codes "x")) (call (ident (codes "f")) (whole 2 ▸ End)))
    ▸ End)
    (HostCall 7 shown.Undefined (shown.Num (js_number.Whole (pos 1)) ∷ []) ∷ HostCall 7 shown.Undefined (shown.Num (js_number.Whole (pos 2)) ∷ []) ∷ []) (ending.Outside)
writes_of_free_names = does refl (simp meaning_node refl)

-- f(1); Math.abs(f(2));
free_math :
    Does 9 nulls []
    (statement (call (ident (codes "f")) (whole 1 ▸ End))
    ▸ statement (call (member (ident (codes "Math")) (codes "abs")) (call (ident (codes "f")) (whole 2 ▸ End) ▸ End))
    ▸ End)
    (HostCall 7 shown.Undefined (shown.Num (js_number.Whole (pos 1)) ∷ []) ∷ []) (ending.Outside)
free_math = does refl (simp meaning_node refl)

-- f(1); new (Date)(f(2));
free_date :
    Does 9 nulls []
    (statement (call (ident (codes "f")) (whole 1 ▸ End))
    ▸ statement (new' (parens (ident (codes "Date"))) (call (ident (codes "f")) (whole 2 ▸ End) ▸ End))
    ▸ End)
    (HostCall 7 shown.Undefined (shown.Num (js_number.Whole (pos 1)) ∷ []) ∷ []) (ending.Outside)
free_date = does refl (simp meaning_node refl)

-- f(1); (eval)(f(2));
free_eval :
    Does 9 nulls []
    (statement (call (ident (codes "f")) (whole 1 ▸ End))
    ▸ statement (call (parens (ident (codes "eval"))) (call (ident (codes "f")) (whole 2 ▸ End) ▸ End))
    ▸ End)
    (HostCall 7 shown.Undefined (shown.Num (js_number.Whole (pos 1)) ∷ []) ∷ []) (ending.Outside)
free_eval = does refl (simp meaning_node refl)

-- f(1); undefined.x = f(2);
writes_of_members_of_undefined :
    Does 9 nulls []
    (statement (call (ident (codes "f")) (whole 1 ▸ End))
    ▸ statement (assign (member (ident (codes "undefined")) (codes "x")) (call (ident (codes "f")) (whole 2 ▸ End)))
    ▸ End)
    (HostCall 7 shown.Undefined (shown.Num (js_number.Whole (pos 1)) ∷ []) ∷ HostCall 7 shown.Undefined (shown.Num (js_number.Whole (pos 2)) ∷ []) ∷ []) (ending.Outside)
writes_of_members_of_undefined = does refl (simp meaning_node refl)

-- f(1); typeof f;
types_of_host_values :
    Does 9 nulls []
    (statement (call (ident (codes "f")) (whole 1 ▸ End))
    ▸ statement (unary unary.TypeOf (ident (codes "f")))
    ▸ End)
    (HostCall 7 shown.Undefined (shown.Num (js_number.Whole (pos 1)) ∷ []) ∷ []) (ending.Outside)
types_of_host_values = does refl (simp meaning_node refl)

-- f(1); "a" in f;
members_in_host_values :
    Does 9 nulls []
    (statement (call (ident (codes "f")) (whole 1 ▸ End))
    ▸ statement (binary binary.In (string (codes "a")) (ident (codes "f")))
    ▸ End)
    (HostCall 7 shown.Undefined (shown.Num (js_number.Whole (pos 1)) ∷ []) ∷ []) (ending.Outside)
members_in_host_values = does refl (simp meaning_node refl)

-- f(1); f instanceof class {};
instances_among_host_values :
    Does 9 nulls []
    (statement (call (ident (codes "f")) (whole 1 ▸ End))
    ▸ statement (binary binary.InstanceOf (ident (codes "f")) (tree kind.ClassExpr (absent ▸ class' absent End ▸ End)))
    ▸ End)
    (HostCall 7 shown.Undefined (shown.Num (js_number.Whole (pos 1)) ∷ []) ∷ []) (ending.Outside)
instances_among_host_values = does refl (simp meaning_node refl)

-- f(1); ({}).toString;
keys_of_objects :
    Does 9 nulls []
    (statement (call (ident (codes "f")) (whole 1 ▸ End))
    ▸ statement (member (parens (object End)) (codes "toString"))
    ▸ End)
    (HostCall 7 shown.Undefined (shown.Num (js_number.Whole (pos 1)) ∷ []) ∷ []) (ending.Outside)
keys_of_objects = does refl (simp meaning_node refl)

-- class A {} f(1); new A().constructor;
constructors_of_objects :
    Does 9 nulls []
    (declare_class (codes "A") absent End
    ▸ statement (call (ident (codes "f")) (whole 1 ▸ End))
    ▸ statement (member (new' (ident (codes "A")) End) (codes "constructor"))
    ▸ End)
    (HostCall 7 shown.Undefined (shown.Num (js_number.Whole (pos 1)) ∷ []) ∷ []) (ending.Outside)
constructors_of_objects = does refl (simp meaning_node refl)

-- f(1); (() => 1).name;
names_of_functions :
    Does 9 nulls []
    (statement (call (ident (codes "f")) (whole 1 ▸ End))
    ▸ statement (member (parens (arrow End (whole 1))) (codes "name"))
    ▸ End)
    (HostCall 7 shown.Undefined (shown.Num (js_number.Whole (pos 1)) ∷ []) ∷ []) (ending.Outside)
names_of_functions = does refl (simp meaning_node refl)

-- class A { static name = 1; } class B extends A {} f(A.name); B.name;
names_of_classes_under_those_of_parents :
    Does 9 nulls []
    (declare_class (codes "A") absent (field true (key (codes "name")) (whole 1) ▸ End)
    ▸ declare_class (codes "B") (ident (codes "A")) End
    ▸ statement (call (ident (codes "f")) (member (ident (codes "A")) (codes "name") ▸ End))
    ▸ statement (member (ident (codes "B")) (codes "name"))
    ▸ End)
    (HostCall 7 shown.Undefined (shown.Num (js_number.Whole (pos 1)) ∷ []) ∷ []) (ending.Outside)
names_of_classes_under_those_of_parents = does refl (simp meaning_node refl)

-- function h() {} f(1); f(h.call);
methods_of_functions_as_values :
    Does 9 nulls []
    (declare_function (codes "h") End End
    ▸ statement (call (ident (codes "f")) (whole 1 ▸ End))
    ▸ statement (call (ident (codes "f")) (member (ident (codes "h")) (codes "call") ▸ End))
    ▸ End)
    (HostCall 7 shown.Undefined (shown.Num (js_number.Whole (pos 1)) ∷ []) ∷ []) (ending.Outside)
methods_of_functions_as_values = does refl (simp meaning_node refl)

-- function h() {} f(1); h.call = f(2);
writes_of_methods_of_functions :
    Does 9 nulls []
    (declare_function (codes "h") End End
    ▸ statement (call (ident (codes "f")) (whole 1 ▸ End))
    ▸ statement (assign (member (ident (codes "h")) (codes "call")) (call (ident (codes "f")) (whole 2 ▸ End)))
    ▸ End)
    (HostCall 7 shown.Undefined (shown.Num (js_number.Whole (pos 1)) ∷ []) ∷ HostCall 7 shown.Undefined (shown.Num (js_number.Whole (pos 2)) ∷ []) ∷ []) (ending.Outside)
writes_of_methods_of_functions = does refl (simp meaning_node refl)

-- f(1); [].push;
methods_of_arrays :
    Does 9 nulls []
    (statement (call (ident (codes "f")) (whole 1 ▸ End))
    ▸ statement (member (array End) (codes "push"))
    ▸ End)
    (HostCall 7 shown.Undefined (shown.Num (js_number.Whole (pos 1)) ∷ []) ∷ []) (ending.Outside)
methods_of_arrays = does refl (simp meaning_node refl)

-- let a = [1]; f(a[1]); a[1] = f(2);
elements_behind_the_end :
    Does 9 nulls []
    (declare Let (codes "a") (array (whole 1 ▸ End))
    ▸ statement (call (ident (codes "f")) (tree kind.MemberExpr (ident (codes "a") ▸ computed (whole 1) ▸ End) ▸ End))
    ▸ statement (assign (tree kind.MemberExpr (ident (codes "a") ▸ computed (whole 1) ▸ End)) (call (ident (codes "f")) (whole 2 ▸ End)))
    ▸ End)
    (HostCall 7 shown.Undefined (shown.Undefined ∷ []) ∷ HostCall 7 shown.Undefined (shown.Num (js_number.Whole (pos 2)) ∷ []) ∷ []) (ending.Outside)
unfolding digits
elements_behind_the_end = does refl (simp meaning_node refl)

-- let a = [1]; f(1); a.length = 0;
lengths_of_arrays :
    Does 9 nulls []
    (declare Let (codes "a") (array (whole 1 ▸ End))
    ▸ statement (call (ident (codes "f")) (whole 1 ▸ End))
    ▸ statement (assign (member (ident (codes "a")) (codes "length")) (whole 0))
    ▸ End)
    (HostCall 7 shown.Undefined (shown.Num (js_number.Whole (pos 1)) ∷ []) ∷ []) (ending.Outside)
unfolding digits
lengths_of_arrays = does refl (simp meaning_node refl)

-- f(1); "a"[0];
characters_of_texts :
    Does 9 nulls []
    (statement (call (ident (codes "f")) (whole 1 ▸ End))
    ▸ statement (tree kind.MemberExpr (string (codes "a") ▸ computed (whole 0) ▸ End))
    ▸ End)
    (HostCall 7 shown.Undefined (shown.Num (js_number.Whole (pos 1)) ∷ []) ∷ []) (ending.Outside)
unfolding digits
characters_of_texts = does refl (simp meaning_node refl)

-- f(1); (1).x;
members_of_numbers :
    Does 9 nulls []
    (statement (call (ident (codes "f")) (whole 1 ▸ End))
    ▸ statement (member (parens (whole 1)) (codes "x"))
    ▸ End)
    (HostCall 7 shown.Undefined (shown.Num (js_number.Whole (pos 1)) ∷ []) ∷ []) (ending.Outside)
members_of_numbers = does refl (simp meaning_node refl)

-- f(1); true.x;
members_of_truths :
    Does 9 nulls []
    (statement (call (ident (codes "f")) (whole 1 ▸ End))
    ▸ statement (member (truth true) (codes "x"))
    ▸ End)
    (HostCall 7 shown.Undefined (shown.Num (js_number.Whole (pos 1)) ∷ []) ∷ []) (ending.Outside)
members_of_truths = does refl (simp meaning_node refl)

-- f(1); ({}) + 1;
casts_of_objects :
    Does 9 nulls []
    (statement (call (ident (codes "f")) (whole 1 ▸ End))
    ▸ statement (binary binary.Add (parens (object End)) (whole 1))
    ▸ End)
    (HostCall 7 shown.Undefined (shown.Num (js_number.Whole (pos 1)) ∷ []) ∷ []) (ending.Outside)
casts_of_objects = does refl (simp meaning_node refl)

-- f(1); +f;
casts_of_host_values :
    Does 9 nulls []
    (statement (call (ident (codes "f")) (whole 1 ▸ End))
    ▸ statement (unary unary.Plus (ident (codes "f")))
    ▸ End)
    (HostCall 7 shown.Undefined (shown.Num (js_number.Whole (pos 1)) ∷ []) ∷ []) (ending.Outside)
casts_of_host_values = does refl (simp meaning_node refl)

-- f(1); ({})[{}];
objects_as_keys :
    Does 9 nulls []
    (statement (call (ident (codes "f")) (whole 1 ▸ End))
    ▸ statement (tree kind.MemberExpr (parens (object End) ▸ computed (object End) ▸ End))
    ▸ End)
    (HostCall 7 shown.Undefined (shown.Num (js_number.Whole (pos 1)) ∷ []) ∷ []) (ending.Outside)
objects_as_keys = does refl (simp meaning_node refl)

-- try { null.a; } catch (e) { f(1); e.message; }
members_of_errors :
    Does 9 nulls []
    (tree kind.TryStmt (block (statement (member null (codes "a")) ▸ End) ▸ tree kind.CatchClause (binding (codes "e") ▸ block (statement (call (ident (codes "f")) (whole 1 ▸ End))
    ▸ statement (member (ident (codes "e")) (codes "message")) ▸ End) ▸ End) ▸ absent ▸ End)
    ▸ End)
    (HostCall 7 shown.Undefined (shown.Num (js_number.Whole (pos 1)) ∷ []) ∷ []) (ending.Outside)
members_of_errors = does refl (simp meaning_node refl)

-- try { null.a; } catch (e) { f(1); typeof e; }
types_of_errors :
    Does 9 nulls []
    (tree kind.TryStmt (block (statement (member null (codes "a")) ▸ End) ▸ tree kind.CatchClause (binding (codes "e") ▸ block (statement (call (ident (codes "f")) (whole 1 ▸ End))
    ▸ statement (unary unary.TypeOf (ident (codes "e"))) ▸ End) ▸ End) ▸ absent ▸ End)
    ▸ End)
    (HostCall 7 shown.Undefined (shown.Num (js_number.Whole (pos 1)) ∷ []) ∷ []) (ending.Outside)
types_of_errors = does refl (simp meaning_node refl)

-- try { null.a; } catch (e) { f(e === 1); e === e; }
equality_of_errors :
    Does 9 nulls []
    (tree kind.TryStmt (block (statement (member null (codes "a")) ▸ End) ▸ tree kind.CatchClause (binding (codes "e")
    ▸ block (statement (call (ident (codes "f")) (binary binary.EqEqEq (ident (codes "e")) (whole 1) ▸ End))
    ▸ statement (binary binary.EqEqEq (ident (codes "e")) (ident (codes "e"))) ▸ End) ▸ End) ▸ absent ▸ End)
    ▸ End)
    (HostCall 7 shown.Undefined (shown.Bool false ∷ []) ∷ []) (ending.Outside)
equality_of_errors = does refl (simp meaning_node refl)

-- import { z } from "m"; f(1); z;
imports_without_value :
    Does 9 nulls []
    (tree (kind.ImportDecl false) (list (tree (kind.ImportNamedSpecifier false) (ident (codes "z") ▸ absent ▸ End) ▸ End) ▸ string (codes "m") ▸ absent ▸ End)
    ▸ statement (call (ident (codes "f")) (whole 1 ▸ End))
    ▸ statement (ident (codes "z"))
    ▸ End)
    (HostCall 7 shown.Undefined (shown.Num (js_number.Whole (pos 1)) ∷ []) ∷ []) (ending.Outside)
imports_without_value = does refl (simp meaning_node refl)

-- f(1);
handles_that_were_not_shown :
    Does 9 (Return (shown.Handle 3) ∷ []) []
    (statement (call (ident (codes "f")) (whole 1 ▸ End))
    ▸ End)
    (HostCall 7 shown.Undefined (shown.Num (js_number.Whole (pos 1)) ∷ []) ∷ []) (ending.Outside)
handles_that_were_not_shown = does refl (simp meaning_node refl)

-- new f();
constructions_answered_by_a_primitive :
    Does 9 nulls []
    (statement (new' (ident (codes "f")) End)
    ▸ End)
    (HostNew 7 [] ∷ []) (ending.Outside)
constructions_answered_by_a_primitive = does refl (simp meaning_node refl)

-- f(1); class A extends null {}
heritage_null :
    Does 9 nulls []
    (statement (call (ident (codes "f")) (whole 1 ▸ End))
    ▸ declare_class (codes "A") null End
    ▸ End)
    (HostCall 7 shown.Undefined (shown.Num (js_number.Whole (pos 1)) ∷ []) ∷ []) (ending.Outside)
heritage_null = does refl (simp meaning_node refl)

-- f(1); class A extends f {}
heritage_of_the_host :
    Does 9 nulls []
    (statement (call (ident (codes "f")) (whole 1 ▸ End))
    ▸ declare_class (codes "A") (ident (codes "f")) End
    ▸ End)
    (HostCall 7 shown.Undefined (shown.Num (js_number.Whole (pos 1)) ∷ []) ∷ []) (ending.Outside)
heritage_of_the_host = does refl (simp meaning_node refl)

-- class A {} class B extends A { constructor() { f(1); super.x; } } new B();
super_members_before_super :
    Does 9 nulls []
    (declare_class (codes "A") absent End
    ▸ declare_class (codes "B") (ident (codes "A")) (constructor' End (statement (call (ident (codes "f")) (whole 1 ▸ End)) ▸ statement (super_member (codes "x")) ▸ End) ▸ End)
    ▸ statement (new' (ident (codes "B")) End)
    ▸ End)
    (HostCall 7 shown.Undefined (shown.Num (js_number.Whole (pos 1)) ∷ []) ∷ []) (ending.Outside)
super_members_before_super = does refl (simp meaning_node refl)

-- let o = { m() { f(1); delete super.x; } }; o.m();
deletion_of_super_members :
    Does 9 nulls []
    (declare Let (codes "o") (object (tree kind.MethodProp (key (codes "m") ▸ function End (statement (call (ident (codes "f")) (whole 1 ▸ End))
    ▸ statement (unary unary.Delete (super_member (codes "x"))) ▸ End) ▸ End) ▸ End))
    ▸ statement (call (member (ident (codes "o")) (codes "m")) End)
    ▸ End)
    (HostCall 7 shown.Undefined (shown.Num (js_number.Whole (pos 1)) ∷ []) ∷ []) (ending.Outside)
deletion_of_super_members = does refl (simp meaning_node refl)

-- class A {} class B extends A { m() { f(1); super.x(f(2)); } } new B().m();
calls_of_super_members_that_are_no_functions :
    Does 9 nulls []
    (declare_class (codes "A") absent End
    ▸ declare_class (codes "B") (ident (codes "A")) (class_method method.Method false (key (codes "m")) End (statement (call (ident (codes "f")) (whole 1 ▸ End))
    ▸ statement (call (super_member (codes "x")) (call (ident (codes "f")) (whole 2 ▸ End) ▸ End)) ▸ End) ▸ End)
    ▸ statement (call (member (new' (ident (codes "B")) End) (codes "m")) End)
    ▸ End)
    (HostCall 7 shown.Undefined (shown.Num (js_number.Whole (pos 1)) ∷ []) ∷ HostCall 7 shown.Undefined (shown.Num (js_number.Whole (pos 2)) ∷ []) ∷ []) (ending.Outside)
calls_of_super_members_that_are_no_functions = does refl (simp meaning_node refl)

-- let o = { m() { f(1); super.x = f(2); } }; o.m.call(5);
super_members_set_on_a_primitive :
    Does 9 nulls []
    (declare Let (codes "o") (object (tree kind.MethodProp (key (codes "m") ▸ function End (statement (call (ident (codes "f")) (whole 1 ▸ End))
    ▸ statement (assign (super_member (codes "x")) (call (ident (codes "f")) (whole 2 ▸ End))) ▸ End) ▸ End) ▸ End))
    ▸ statement (call (member (member (ident (codes "o")) (codes "m")) (codes "call")) (whole 5 ▸ End))
    ▸ End)
    (HostCall 7 shown.Undefined (shown.Num (js_number.Whole (pos 1)) ∷ []) ∷ HostCall 7 shown.Undefined (shown.Num (js_number.Whole (pos 2)) ∷ []) ∷ []) (ending.Outside)
super_members_set_on_a_primitive = does refl (simp meaning_node refl)

-- class A { constructor() { return f; } } class B extends A { x = f(1); } new B();
fields_on_host_values :
    Does 9 nulls []
    (declare_class (codes "A") absent (constructor' End (returns (ident (codes "f")) ▸ End) ▸ End)
    ▸ declare_class (codes "B") (ident (codes "A")) (field false (key (codes "x")) (call (ident (codes "f")) (whole 1 ▸ End)) ▸ End)
    ▸ statement (new' (ident (codes "B")) End)
    ▸ End)
    (HostCall 7 shown.Undefined (shown.Num (js_number.Whole (pos 1)) ∷ []) ∷ []) (ending.Outside)
fields_on_host_values = does refl (simp meaning_node refl)

-- function h(a = f(1)) { var a; f(2); } h();
body_variables_with_names_of_parameters :
    Does 9 nulls []
    (declare_function (codes "h") (parameter (tree kind.AssignPat (binding (codes "a") ▸ call (ident (codes "f")) (whole 1 ▸ End) ▸ End)) ▸ End) (declare Var (codes "a") absent
    ▸ statement (call (ident (codes "f")) (whole 2 ▸ End)) ▸ End)
    ▸ statement (call (ident (codes "h")) End)
    ▸ End)
    (HostCall 7 shown.Undefined (shown.Num (js_number.Whole (pos 1)) ∷ []) ∷ []) (ending.Outside)
body_variables_with_names_of_parameters = does refl (simp meaning_node refl)

-- function h() {} f(1); h.apply(null, {});
lists_of_apply_that_are_no_arrays :
    Does 9 nulls []
    (declare_function (codes "h") End End
    ▸ statement (call (ident (codes "f")) (whole 1 ▸ End))
    ▸ statement (call (member (ident (codes "h")) (codes "apply")) (null ▸ object End ▸ End))
    ▸ End)
    (HostCall 7 shown.Undefined (shown.Num (js_number.Whole (pos 1)) ∷ []) ∷ []) (ending.Outside)
lists_of_apply_that_are_no_arrays = does refl (simp meaning_node refl)

-- function h() {} h.prototype = null; f(1); class A extends h {}
heritage_with_a_null_prototype :
    Does 9 nulls []
    (declare_function (codes "h") End End
    ▸ statement (assign (member (ident (codes "h")) (codes "prototype")) null)
    ▸ statement (call (ident (codes "f")) (whole 1 ▸ End))
    ▸ declare_class (codes "A") (ident (codes "h")) End
    ▸ End)
    (HostCall 7 shown.Undefined (shown.Num (js_number.Whole (pos 1)) ∷ []) ∷ []) (ending.Outside)
heritage_with_a_null_prototype = does refl (simp meaning_node refl)

-- function h() {} h.prototype = f; f(1); new h();
prototypes_of_the_host :
    Does 9 nulls []
    (declare_function (codes "h") End End
    ▸ statement (assign (member (ident (codes "h")) (codes "prototype")) (ident (codes "f")))
    ▸ statement (call (ident (codes "f")) (whole 1 ▸ End))
    ▸ statement (new' (ident (codes "h")) End)
    ▸ End)
    (HostCall 7 shown.Undefined (shown.Num (js_number.Whole (pos 1)) ∷ []) ∷ []) (ending.Outside)
prototypes_of_the_host = does refl (simp meaning_node refl)

-- function h() {} h.prototype = f; f(1); ({}) instanceof h;
instances_by_prototypes_of_the_host :
    Does 9 nulls []
    (declare_function (codes "h") End End
    ▸ statement (assign (member (ident (codes "h")) (codes "prototype")) (ident (codes "f")))
    ▸ statement (call (ident (codes "f")) (whole 1 ▸ End))
    ▸ statement (binary binary.InstanceOf (parens (object End)) (ident (codes "h")))
    ▸ End)
    (HostCall 7 shown.Undefined (shown.Num (js_number.Whole (pos 1)) ∷ []) ∷ []) (ending.Outside)
instances_by_prototypes_of_the_host = does refl (simp meaning_node refl)

-- function h(e) { return e; } try { null.a; } catch (e) { f(1); new h(e); }
errors_that_constructors_return :
    Does 9 nulls []
    (declare_function (codes "h") (parameter (binding (codes "e")) ▸ End) (returns (ident (codes "e")) ▸ End)
    ▸ tree kind.TryStmt (block (statement (member null (codes "a")) ▸ End) ▸ tree kind.CatchClause (binding (codes "e") ▸ block (statement (call (ident (codes "f")) (whole 1
    ▸ End)) ▸ statement (new' (ident (codes "h")) (ident (codes "e") ▸ End)) ▸ End) ▸ End) ▸ absent ▸ End)
    ▸ End)
    (HostCall 7 shown.Undefined (shown.Num (js_number.Whole (pos 1)) ∷ []) ∷ []) (ending.Outside)
errors_that_constructors_return = does refl (simp meaning_node refl)

-- try { null.a; } catch (e) { f(1); class A extends e {} }
heritage_of_errors :
    Does 9 nulls []
    (tree kind.TryStmt (block (statement (member null (codes "a")) ▸ End) ▸ tree kind.CatchClause (binding (codes "e") ▸ block (statement (call (ident (codes "f")) (whole 1 ▸ End))
    ▸ declare_class (codes "A") (ident (codes "e")) End ▸ End) ▸ End) ▸ absent ▸ End)
    ▸ End)
    (HostCall 7 shown.Undefined (shown.Num (js_number.Whole (pos 1)) ∷ []) ∷ []) (ending.Outside)
heritage_of_errors = does refl (simp meaning_node refl)

-- try { null.a; } catch (e) { f(e == null); e == "x"; }
equality_of_errors_and_texts :
    Does 9 nulls []
    (tree kind.TryStmt (block (statement (member null (codes "a")) ▸ End) ▸ tree kind.CatchClause (binding (codes "e")
    ▸ block (statement (call (ident (codes "f")) (binary binary.EqEq (ident (codes "e")) null ▸ End)) ▸ statement (binary binary.EqEq (ident (codes "e")) (string (codes "x")))
    ▸ End) ▸ End) ▸ absent ▸ End)
    ▸ End)
    (HostCall 7 shown.Undefined (shown.Bool false ∷ []) ∷ []) (ending.Outside)
equality_of_errors_and_texts = does refl (simp meaning_node refl)

-- try { null.a; } catch (e) { e(f(1)); }
calls_of_errors :
    Does 9 nulls []
    (tree kind.TryStmt (block (statement (member null (codes "a")) ▸ End) ▸ tree kind.CatchClause (binding (codes "e")
    ▸ block (statement (call (ident (codes "e")) (call (ident (codes "f")) (whole 1 ▸ End) ▸ End)) ▸ End) ▸ End) ▸ absent ▸ End)
    ▸ End)
    (HostCall 7 shown.Undefined (shown.Num (js_number.Whole (pos 1)) ∷ []) ∷ []) (ending.Outside)
calls_of_errors = does refl (simp meaning_node refl)

-- f(1); delete f.a;
deletion_of_host_members :
    Does 9 nulls []
    (statement (call (ident (codes "f")) (whole 1 ▸ End))
    ▸ statement (unary unary.Delete (member (ident (codes "f")) (codes "a")))
    ▸ End)
    (HostCall 7 shown.Undefined (shown.Num (js_number.Whole (pos 1)) ∷ []) ∷ []) (ending.Outside)
deletion_of_host_members = does refl (simp meaning_node refl)

-- f(1); delete import.meta.url;
deletion_of_members_of_meta :
    Does 9 nulls []
    (statement (call (ident (codes "f")) (whole 1 ▸ End))
    ▸ statement (unary unary.Delete (member (tree (kind.MetaPropExpr ImportMeta) End) (codes "url")))
    ▸ End)
    (HostCall 7 shown.Undefined (shown.Num (js_number.Whole (pos 1)) ∷ []) ∷ []) (ending.Outside)
deletion_of_members_of_meta = does refl (simp meaning_node refl)

-- function h() { f(1); delete arguments.length; } h();
deletion_of_the_length_of_arguments :
    Does 9 nulls []
    (declare_function (codes "h") End (statement (call (ident (codes "f")) (whole 1 ▸ End)) ▸ statement (unary unary.Delete (member (ident (codes "arguments")) (codes "length")))
    ▸ End)
    ▸ statement (call (ident (codes "h")) End)
    ▸ End)
    (HostCall 7 shown.Undefined (shown.Num (js_number.Whole (pos 1)) ∷ []) ∷ []) (ending.Outside)
deletion_of_the_length_of_arguments = does refl (simp meaning_node refl)

-- { let x = 1; } f(1); x;
names_of_other_scopes :
    Does 9 nulls []
    (block (declare Let (codes "x") (whole 1) ▸ End)
    ▸ statement (call (ident (codes "f")) (whole 1 ▸ End))
    ▸ statement (ident (codes "x"))
    ▸ End)
    (HostCall 7 shown.Undefined (shown.Num (js_number.Whole (pos 1)) ∷ []) ∷ []) (ending.Outside)
names_of_other_scopes = does refl (simp meaning_node refl)

-- f(1); 1 in f;
members_in_no_object_of_the_program :
    Does 9 nulls []
    (statement (call (ident (codes "f")) (whole 1 ▸ End))
    ▸ statement (binary binary.In (whole 1) (ident (codes "f")))
    ▸ End)
    (HostCall 7 shown.Undefined (shown.Num (js_number.Whole (pos 1)) ∷ []) ∷ []) (ending.Outside)
members_in_no_object_of_the_program = does refl (simp meaning_node refl)
