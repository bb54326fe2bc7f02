-- Places that are open: each fact is a small module and what node observes of it, by computing. Written by compare/facts.mjs.
use Rattle.std.proofs.Common.{refl, pos, [], ◌∷◌, Some, None, true, false, codes}
use Rattle.ecma_number.specs.declared.js_number.JsNumber.TheVariants as js_number
use Rattle.ecma_kind.specs.declared.kind.Kind.TheVariants as kind
use Rattle.ecma_kind.specs.declared.operators.BinaryOp.TheVariants as binary
use Rattle.ecma_kind.specs.declared.operators.MethodKind.TheVariants as method
use Rattle.ecma_kind.specs.declared.operators.UnaryOp.TheVariants as unary
use Rattle.ecma_kind.specs.declared.operators.VarDeclKind.TheVariants.{Var, Let}
use Rattle.ecma_runs.specs.declared.observation.Event.TheVariants.{HostCall}
use Rattle.ecma_runs.specs.declared.observation.Ending.TheVariants as ending
use Rattle.ecma_runs.specs.declared.script.Action.TheVariants as action
use Rattle.ecma_runs.specs.declared.shown.Shown.TheVariants as shown
use Rattle.ecma_runs.proofs.Trees.{End, ◌▸◌, tree, absent, list, ident, key, computed, binding, whole, truth, string, null, type', super', member, super_member, call, new', assign}
use Rattle.ecma_runs.proofs.Trees.{unary, binary, parens, array, object, property, statement, block, returns, declare}
use Rattle.ecma_runs.proofs.Trees.{parameter, function, declare_function, modifiers, class_method, field, constructor', class', declare_class, meaning_node}
use Rattle.ecma_runs.proofs.Scripts.{Does, does, nulls}
use Rattle.std.specs.Fmt.{digits}

-- f(1); ({}) == 1;
casts_of_objects_to_compare :
    Does 9 nulls []
    (statement (call (ident (codes "f")) (whole 1 ▸ End))
    ▸ statement (binary binary.EqEq (parens (object End)) (whole 1))
    ▸ End)
    (HostCall 7 shown.Undefined (shown.Num (js_number.Whole (pos 1)) ∷ []) ∷ []) (ending.Outside)
casts_of_objects_to_compare = does refl (simp meaning_node refl)

-- f(1); 1 == {};
casts_of_objects_to_compare_on_the_right :
    Does 9 nulls []
    (statement (call (ident (codes "f")) (whole 1 ▸ End))
    ▸ statement (binary binary.EqEq (whole 1) (object End))
    ▸ End)
    (HostCall 7 shown.Undefined (shown.Num (js_number.Whole (pos 1)) ∷ []) ∷ []) (ending.Outside)
casts_of_objects_to_compare_on_the_right = does refl (simp meaning_node refl)

-- f(1); "" + /a/;
casts_of_regular_expressions :
    Does 9 nulls []
    (statement (call (ident (codes "f")) (whole 1 ▸ End))
    ▸ statement (binary binary.Add (string (codes "")) (tree (kind.Regex (codes "a") (codes "")) End))
    ▸ End)
    (HostCall 7 shown.Undefined (shown.Num (js_number.Whole (pos 1)) ∷ []) ∷ []) (ending.Outside)
casts_of_regular_expressions = does refl (simp meaning_node refl)

-- f(1); /a/ == "/a/";
casts_of_regular_expressions_to_compare :
    Does 9 nulls []
    (statement (call (ident (codes "f")) (whole 1 ▸ End))
    ▸ statement (binary binary.EqEq (tree (kind.Regex (codes "a") (codes "")) End) (string (codes "/a/")))
    ▸ End)
    (HostCall 7 shown.Undefined (shown.Num (js_number.Whole (pos 1)) ∷ []) ∷ []) (ending.Outside)
casts_of_regular_expressions_to_compare = does refl (simp meaning_node refl)

-- try { null.a; } catch (e) { f(1); switch (e) { case e: f(2); } }
errors_that_a_switch_compares :
    Does 9 nulls []
    (tree kind.TryStmt (block (statement (member null (codes "a")) ▸ End) ▸ tree kind.CatchClause (binding (codes "e") ▸ block (statement (call (ident (codes "f")) (whole 1 ▸ End))
    ▸ tree kind.SwitchStmt (ident (codes "e") ▸ list (tree kind.SwitchCase (ident (codes "e") ▸ list (statement (call (ident (codes "f")) (whole 2 ▸ End)) ▸ End) ▸ End) ▸ End)
    ▸ End) ▸ End) ▸ End) ▸ absent ▸ End)
    ▸ End)
    (HostCall 7 shown.Undefined (shown.Num (js_number.Whole (pos 1)) ∷ []) ∷ []) (ending.Outside)
errors_that_a_switch_compares = does refl (simp meaning_node refl)

-- try { null.a; } catch (e) { f(1); +e; }
casts_of_errors :
    Does 9 nulls []
    (tree kind.TryStmt (block (statement (member null (codes "a")) ▸ End) ▸ tree kind.CatchClause (binding (codes "e") ▸ block (statement (call (ident (codes "f")) (whole 1 ▸ End))
    ▸ statement (unary unary.Plus (ident (codes "e"))) ▸ End) ▸ End) ▸ absent ▸ End)
    ▸ End)
    (HostCall 7 shown.Undefined (shown.Num (js_number.Whole (pos 1)) ∷ []) ∷ []) (ending.Outside)
casts_of_errors = does refl (simp meaning_node refl)

-- f(1); `${f}`;
host_values_in_templates :
    Does 9 nulls []
    (statement (call (ident (codes "f")) (whole 1 ▸ End))
    ▸ statement (tree kind.Tpl (list (ident (codes "f") ▸ End) ▸ list (tree (kind.TplElement (codes "") (Some (codes "")) false) End
    ▸ tree (kind.TplElement (codes "") (Some (codes "")) true) End ▸ End) ▸ End))
    ▸ End)
    (HostCall 7 shown.Undefined (shown.Num (js_number.Whole (pos 1)) ∷ []) ∷ []) (ending.Outside)
host_values_in_templates = does refl (simp meaning_node refl)

-- try { null.a; } catch (e) { f(1); e.x = f(2); }
members_of_errors_that_are_set :
    Does 9 nulls []
    (tree kind.TryStmt (block (statement (member null (codes "a")) ▸ End) ▸ tree kind.CatchClause (binding (codes "e") ▸ block (statement (call (ident (codes "f")) (whole 1 ▸ End))
    ▸ statement (assign (member (ident (codes "e")) (codes "x")) (call (ident (codes "f")) (whole 2 ▸ End))) ▸ End) ▸ End) ▸ absent ▸ End)
    ▸ End)
    (HostCall 7 shown.Undefined (shown.Num (js_number.Whole (pos 1)) ∷ []) ∷ HostCall 7 shown.Undefined (shown.Num (js_number.Whole (pos 2)) ∷ []) ∷ []) (ending.Outside)
members_of_errors_that_are_set = does refl (simp meaning_node refl)

-- try { null.a; } catch (e) { new e(f(1)); }
constructions_of_errors :
    Does 9 nulls []
    (tree kind.TryStmt (block (statement (member null (codes "a")) ▸ End) ▸ tree kind.CatchClause (binding (codes "e")
    ▸ block (statement (new' (ident (codes "e")) (call (ident (codes "f")) (whole 1 ▸ End) ▸ End)) ▸ End) ▸ End) ▸ absent ▸ End)
    ▸ End)
    (HostCall 7 shown.Undefined (shown.Num (js_number.Whole (pos 1)) ∷ []) ∷ []) (ending.Outside)
constructions_of_errors = does refl (simp meaning_node refl)

-- try { null.a; } catch (e) { f(1); 1 in e; }
errors_behind_in :
    Does 9 nulls []
    (tree kind.TryStmt (block (statement (member null (codes "a")) ▸ End) ▸ tree kind.CatchClause (binding (codes "e") ▸ block (statement (call (ident (codes "f")) (whole 1 ▸ End))
    ▸ statement (binary binary.In (whole 1) (ident (codes "e"))) ▸ End) ▸ End) ▸ absent ▸ End)
    ▸ End)
    (HostCall 7 shown.Undefined (shown.Num (js_number.Whole (pos 1)) ∷ []) ∷ []) (ending.Outside)
unfolding digits
errors_behind_in = does refl (simp meaning_node refl)

-- try { null.a; } catch (e) { f(1); e instanceof class {}; }
errors_before_instanceof :
    Does 9 nulls []
    (tree kind.TryStmt (block (statement (member null (codes "a")) ▸ End) ▸ tree kind.CatchClause (binding (codes "e") ▸ block (statement (call (ident (codes "f")) (whole 1 ▸ End))
    ▸ statement (binary binary.InstanceOf (ident (codes "e")) (tree kind.ClassExpr (absent ▸ class' absent End ▸ End))) ▸ End) ▸ End) ▸ absent ▸ End)
    ▸ End)
    (HostCall 7 shown.Undefined (shown.Num (js_number.Whole (pos 1)) ∷ []) ∷ []) (ending.Outside)
errors_before_instanceof = does refl (simp meaning_node refl)

-- try { null.a; } catch (e) { f(1); ({}) instanceof e; }
errors_behind_instanceof :
    Does 9 nulls []
    (tree kind.TryStmt (block (statement (member null (codes "a")) ▸ End) ▸ tree kind.CatchClause (binding (codes "e") ▸ block (statement (call (ident (codes "f")) (whole 1 ▸ End))
    ▸ statement (binary binary.InstanceOf (parens (object End)) (ident (codes "e"))) ▸ End) ▸ End) ▸ absent ▸ End)
    ▸ End)
    (HostCall 7 shown.Undefined (shown.Num (js_number.Whole (pos 1)) ∷ []) ∷ []) (ending.Outside)
errors_behind_instanceof = does refl (simp meaning_node refl)

-- f(1); ({}) instanceof f;
host_values_behind_instanceof :
    Does 9 nulls []
    (statement (call (ident (codes "f")) (whole 1 ▸ End))
    ▸ statement (binary binary.InstanceOf (parens (object End)) (ident (codes "f")))
    ▸ End)
    (HostCall 7 shown.Undefined (shown.Num (js_number.Whole (pos 1)) ∷ []) ∷ []) (ending.Outside)
host_values_behind_instanceof = does refl (simp meaning_node refl)

-- function h() {} try { null.a; } catch (e) { h.prototype = e; f(1); new h(); }
errors_as_prototypes :
    Does 9 nulls []
    (declare_function (codes "h") End End
    ▸ tree kind.TryStmt (block (statement (member null (codes "a")) ▸ End) ▸ tree kind.CatchClause (binding (codes "e")
    ▸ block (statement (assign (member (ident (codes "h")) (codes "prototype")) (ident (codes "e"))) ▸ statement (call (ident (codes "f")) (whole 1 ▸ End))
    ▸ statement (new' (ident (codes "h")) End) ▸ End) ▸ End) ▸ absent ▸ End)
    ▸ End)
    (HostCall 7 shown.Undefined (shown.Num (js_number.Whole (pos 1)) ∷ []) ∷ []) (ending.Outside)
errors_as_prototypes = does refl (simp meaning_node refl)

-- function h() {} try { null.a; } catch (e) { h.prototype = e; f(1); ({}) instanceof h; }
instances_by_prototypes_that_are_errors :
    Does 9 nulls []
    (declare_function (codes "h") End End
    ▸ tree kind.TryStmt (block (statement (member null (codes "a")) ▸ End) ▸ tree kind.CatchClause (binding (codes "e")
    ▸ block (statement (assign (member (ident (codes "h")) (codes "prototype")) (ident (codes "e"))) ▸ statement (call (ident (codes "f")) (whole 1 ▸ End))
    ▸ statement (binary binary.InstanceOf (parens (object End)) (ident (codes "h"))) ▸ End) ▸ End) ▸ absent ▸ End)
    ▸ End)
    (HostCall 7 shown.Undefined (shown.Num (js_number.Whole (pos 1)) ∷ []) ∷ []) (ending.Outside)
instances_by_prototypes_that_are_errors = does refl (simp meaning_node refl)

-- function h() {} h.prototype = f; f(1); class A extends h {}
heritage_with_a_prototype_of_the_host :
    Does 9 nulls []
    (declare_function (codes "h") End End
    ▸ statement (assign (member (ident (codes "h")) (codes "prototype")) (ident (codes "f")))
    ▸ statement (call (ident (codes "f")) (whole 1 ▸ End))
    ▸ declare_class (codes "A") (ident (codes "h")) End
    ▸ End)
    (HostCall 7 shown.Undefined (shown.Num (js_number.Whole (pos 1)) ∷ []) ∷ []) (ending.Outside)
heritage_with_a_prototype_of_the_host = does refl (simp meaning_node refl)

-- function h() {} try { null.a; } catch (e) { h.prototype = e; f(1); class A extends h {} }
heritage_with_a_prototype_that_is_an_error :
    Does 9 nulls []
    (declare_function (codes "h") End End
    ▸ tree kind.TryStmt (block (statement (member null (codes "a")) ▸ End) ▸ tree kind.CatchClause (binding (codes "e")
    ▸ block (statement (assign (member (ident (codes "h")) (codes "prototype")) (ident (codes "e"))) ▸ statement (call (ident (codes "f")) (whole 1 ▸ End))
    ▸ declare_class (codes "A") (ident (codes "h")) End ▸ End) ▸ End) ▸ absent ▸ End)
    ▸ End)
    (HostCall 7 shown.Undefined (shown.Num (js_number.Whole (pos 1)) ∷ []) ∷ []) (ending.Outside)
heritage_with_a_prototype_that_is_an_error = does refl (simp meaning_node refl)

-- class A {} class B extends A { constructor(e) { return e; } } try { null.a; } catch (e) { f(1); new B(e); }
errors_that_derived_constructors_return :
    Does 9 nulls []
    (declare_class (codes "A") absent End
    ▸ declare_class (codes "B") (ident (codes "A")) (constructor' (parameter (binding (codes "e")) ▸ End) (returns (ident (codes "e")) ▸ End) ▸ End)
    ▸ tree kind.TryStmt (block (statement (member null (codes "a")) ▸ End) ▸ tree kind.CatchClause (binding (codes "e") ▸ block (statement (call (ident (codes "f")) (whole 1
    ▸ End)) ▸ statement (new' (ident (codes "B")) (ident (codes "e") ▸ End)) ▸ End) ▸ End) ▸ absent ▸ End)
    ▸ End)
    (HostCall 7 shown.Undefined (shown.Num (js_number.Whole (pos 1)) ∷ []) ∷ []) (ending.Outside)
errors_that_derived_constructors_return = does refl (simp meaning_node refl)

-- f(1); Date(f(2));
free_date_called :
    Does 9 nulls []
    (statement (call (ident (codes "f")) (whole 1 ▸ End))
    ▸ statement (call (ident (codes "Date")) (call (ident (codes "f")) (whole 2 ▸ End) ▸ End))
    ▸ End)
    (HostCall 7 shown.Undefined (shown.Num (js_number.Whole (pos 1)) ∷ []) ∷ []) (ending.Outside)
free_date_called = does refl (simp meaning_node refl)

-- f(1); $as[Math].x;
free_math_as_a_type :
    Does 9 nulls []
    (statement (call (ident (codes "f")) (whole 1 ▸ End))
    ▸ statement (member (tree kind.TsAsExpr (ident (codes "Math") ▸ type' ▸ End)) (codes "x"))
    ▸ End)
    (HostCall 7 shown.Undefined (shown.Num (js_number.Whole (pos 1)) ∷ []) ∷ []) (ending.Outside)
free_math_as_a_type = does refl (simp meaning_node refl)

-- f(1); super[f(2)];
super_members_without_a_home :
    Does 9 nulls []
    (statement (call (ident (codes "f")) (whole 1 ▸ End))
    ▸ statement (tree kind.SuperPropExpr (super' ▸ computed (call (ident (codes "f")) (whole 2 ▸ End)) ▸ End))
    ▸ End)
    (HostCall 7 shown.Undefined (shown.Num (js_number.Whole (pos 1)) ∷ []) ∷ HostCall 7 shown.Undefined (shown.Num (js_number.Whole (pos 2)) ∷ []) ∷ []) (ending.Outside)
super_members_without_a_home = does refl (simp meaning_node refl)

-- class A {} class B extends A { constructor() { f(1); super[f(2)]; } } new B();
super_members_before_super_with_keys :
    Does 9 nulls []
    (declare_class (codes "A") absent End
    ▸ declare_class (codes "B") (ident (codes "A")) (constructor' End (statement (call (ident (codes "f")) (whole 1 ▸ End)) ▸ statement (tree kind.SuperPropExpr (super'
    ▸ computed (call (ident (codes "f")) (whole 2 ▸ End)) ▸ End)) ▸ End) ▸ End)
    ▸ statement (new' (ident (codes "B")) End)
    ▸ End)
    (HostCall 7 shown.Undefined (shown.Num (js_number.Whole (pos 1)) ∷ []) ∷ []) (ending.Outside)
super_members_before_super_with_keys = does refl (simp meaning_node refl)

-- let o = { m() { f(1); super.x = f(2); } }; o.m.call(g);
super_members_set_on_the_host :
    Does 9 nulls []
    (declare Let (codes "o") (object (tree kind.MethodProp (key (codes "m") ▸ function End (statement (call (ident (codes "f")) (whole 1 ▸ End))
    ▸ statement (assign (super_member (codes "x")) (call (ident (codes "f")) (whole 2 ▸ End))) ▸ End) ▸ End) ▸ End))
    ▸ statement (call (member (member (ident (codes "o")) (codes "m")) (codes "call")) (ident (codes "g") ▸ End))
    ▸ End)
    (HostCall 7 shown.Undefined (shown.Num (js_number.Whole (pos 1)) ∷ []) ∷ HostCall 7 shown.Undefined (shown.Num (js_number.Whole (pos 2)) ∷ []) ∷ []) (ending.Outside)
super_members_set_on_the_host = does refl (simp meaning_node refl)

-- class A { static a = {}; } class B extends A { static m() { super.a(f(1)); } } B.m();
calls_of_super_members_that_are_objects :
    Does 9 nulls []
    (declare_class (codes "A") absent (field true (key (codes "a")) (object End) ▸ End)
    ▸ declare_class (codes "B") (ident (codes "A")) (class_method method.Method true (key (codes "m")) End (statement (call (super_member (codes "a")) (call (ident (codes "f")) (whole 1
    ▸ End) ▸ End)) ▸ End) ▸ End)
    ▸ statement (call (member (ident (codes "B")) (codes "m")) End)
    ▸ End)
    (HostCall 7 shown.Undefined (shown.Num (js_number.Whole (pos 1)) ∷ []) ∷ []) (ending.Outside)
calls_of_super_members_that_are_objects = does refl (simp meaning_node refl)

-- class A { static a = class {}; } class B extends A { static m() { super.a(f(1)); } } B.m();
calls_of_super_members_that_are_classes :
    Does 9 nulls []
    (declare_class (codes "A") absent (field true (key (codes "a")) (tree kind.ClassExpr (absent ▸ class' absent End ▸ End)) ▸ End)
    ▸ declare_class (codes "B") (ident (codes "A")) (class_method method.Method true (key (codes "m")) End (statement (call (super_member (codes "a")) (call (ident (codes "f")) (whole 1
    ▸ End) ▸ End)) ▸ End) ▸ End)
    ▸ statement (call (member (ident (codes "B")) (codes "m")) End)
    ▸ End)
    (HostCall 7 shown.Undefined (shown.Num (js_number.Whole (pos 1)) ∷ []) ∷ []) (ending.Outside)
calls_of_super_members_that_are_classes = does refl (simp meaning_node refl)

-- class A { static a = class extends A {}; } class B extends A { static m() { super.a(f(1)); } } B.m();
calls_of_super_members_that_are_derived_classes :
    Does 9 nulls []
    (declare_class (codes "A") absent (field true (key (codes "a")) (tree kind.ClassExpr (absent ▸ class' (ident (codes "A")) End ▸ End)) ▸ End)
    ▸ declare_class (codes "B") (ident (codes "A")) (class_method method.Method true (key (codes "m")) End (statement (call (super_member (codes "a")) (call (ident (codes "f")) (whole 1
    ▸ End) ▸ End)) ▸ End) ▸ End)
    ▸ statement (call (member (ident (codes "B")) (codes "m")) End)
    ▸ End)
    (HostCall 7 shown.Undefined (shown.Num (js_number.Whole (pos 1)) ∷ []) ∷ []) (ending.Outside)
calls_of_super_members_that_are_derived_classes = does refl (simp meaning_node refl)

-- function h(a, b = f(1)) { var b; f(2); } h();
body_variables_with_names_of_later_parameters :
    Does 9 nulls []
    (declare_function (codes "h") (parameter (binding (codes "a")) ▸ parameter (tree kind.AssignPat (binding (codes "b") ▸ call (ident (codes "f")) (whole 1 ▸ End) ▸ End))
    ▸ End) (declare Var (codes "b") absent ▸ statement (call (ident (codes "f")) (whole 2 ▸ End)) ▸ End)
    ▸ statement (call (ident (codes "h")) End)
    ▸ End)
    (HostCall 7 shown.Undefined (shown.Num (js_number.Whole (pos 1)) ∷ []) ∷ []) (ending.Outside)
body_variables_with_names_of_later_parameters = does refl (simp meaning_node refl)

-- f(1); "a".x;
members_of_texts :
    Does 9 nulls []
    (statement (call (ident (codes "f")) (whole 1 ▸ End))
    ▸ statement (member (string (codes "a")) (codes "x"))
    ▸ End)
    (HostCall 7 shown.Undefined (shown.Num (js_number.Whole (pos 1)) ∷ []) ∷ []) (ending.Outside)
members_of_texts = does refl (simp meaning_node refl)

-- f(1); (1).x = f(2);
members_of_numbers_that_are_set :
    Does 9 nulls []
    (statement (call (ident (codes "f")) (whole 1 ▸ End))
    ▸ statement (assign (member (parens (whole 1)) (codes "x")) (call (ident (codes "f")) (whole 2 ▸ End)))
    ▸ End)
    (HostCall 7 shown.Undefined (shown.Num (js_number.Whole (pos 1)) ∷ []) ∷ HostCall 7 shown.Undefined (shown.Num (js_number.Whole (pos 2)) ∷ []) ∷ []) (ending.Outside)
members_of_numbers_that_are_set = does refl (simp meaning_node refl)

-- f(1); delete "a".x;
deletion_of_members_of_texts :
    Does 9 nulls []
    (statement (call (ident (codes "f")) (whole 1 ▸ End))
    ▸ statement (unary unary.Delete (member (string (codes "a")) (codes "x")))
    ▸ End)
    (HostCall 7 shown.Undefined (shown.Num (js_number.Whole (pos 1)) ∷ []) ∷ []) (ending.Outside)
deletion_of_members_of_texts = does refl (simp meaning_node refl)

-- import { a as b } from "n"; f(1); b;
imports_of_another_source :
    Does 9 nulls []
    (tree (kind.ImportDecl false) (list (tree (kind.ImportNamedSpecifier false) (ident (codes "b") ▸ ident (codes "a") ▸ End) ▸ End) ▸ string (codes "n") ▸ absent ▸ End)
    ▸ statement (call (ident (codes "f")) (whole 1 ▸ End))
    ▸ statement (ident (codes "b"))
    ▸ End)
    (HostCall 7 shown.Undefined (shown.Num (js_number.Whole (pos 1)) ∷ []) ∷ []) (ending.Outside)
imports_of_another_source = does refl (simp meaning_node refl)

-- import * as n from "m"; f(1); n;
imports_of_the_whole_module :
    Does 9 nulls []
    (tree (kind.ImportDecl false) (list (tree kind.ImportStarAsSpecifier (ident (codes "n") ▸ End) ▸ End) ▸ string (codes "m") ▸ absent ▸ End)
    ▸ statement (call (ident (codes "f")) (whole 1 ▸ End))
    ▸ statement (ident (codes "n"))
    ▸ End)
    (HostCall 7 shown.Undefined (shown.Num (js_number.Whole (pos 1)) ∷ []) ∷ []) (ending.Outside)
imports_of_the_whole_module = does refl (simp meaning_node refl)

-- f(1);
handles_of_actions_that_were_not_shown :
    Does 9 nulls (action.Get 0 (codes "a") ∷ [])
    (statement (call (ident (codes "f")) (whole 1 ▸ End))
    ▸ End)
    (HostCall 7 shown.Undefined (shown.Num (js_number.Whole (pos 1)) ∷ []) ∷ []) (ending.Outside)
handles_of_actions_that_were_not_shown = does refl (simp meaning_node refl)

-- function h() { f(1); $break.x; } h();
breaks_out_of_functions :
    Does 9 nulls []
    (declare_function (codes "h") End (statement (call (ident (codes "f")) (whole 1 ▸ End)) ▸ tree kind.BreakStmt (absent ▸ End) ▸ End)
    ▸ statement (call (ident (codes "h")) End)
    ▸ End)
    (HostCall 7 shown.Undefined (shown.Num (js_number.Whole (pos 1)) ∷ []) ∷ []) (ending.Outside)
breaks_out_of_functions = does refl (simp meaning_node refl)

-- function h() { f(1); $continue.x; } h();
continues_of_functions :
    Does 9 nulls []
    (declare_function (codes "h") End (statement (call (ident (codes "f")) (whole 1 ▸ End)) ▸ tree kind.ContinueStmt (absent ▸ End) ▸ End)
    ▸ statement (call (ident (codes "h")) End)
    ▸ End)
    (HostCall 7 shown.Undefined (shown.Num (js_number.Whole (pos 1)) ∷ []) ∷ []) (ending.Outside)
continues_of_functions = does refl (simp meaning_node refl)

-- while (true) { f(1); $break_label.a; }
breaks_to_labels :
    Does 9 nulls []
    (tree kind.WhileStmt (truth true ▸ block (statement (call (ident (codes "f")) (whole 1 ▸ End)) ▸ tree kind.BreakStmt (ident (codes "a") ▸ End) ▸ End) ▸ End)
    ▸ End)
    (HostCall 7 shown.Undefined (shown.Num (js_number.Whole (pos 1)) ∷ []) ∷ []) (ending.Outside)
breaks_to_labels = does refl (simp meaning_node refl)

-- while (true) { f(1); $continue_label.a; }
continues_to_labels :
    Does 9 nulls []
    (tree kind.WhileStmt (truth true ▸ block (statement (call (ident (codes "f")) (whole 1 ▸ End)) ▸ tree kind.ContinueStmt (ident (codes "a") ▸ End) ▸ End) ▸ End)
    ▸ End)
    (HostCall 7 shown.Undefined (shown.Num (js_number.Whole (pos 1)) ∷ []) ∷ []) (ending.Outside)
continues_to_labels = does refl (simp meaning_node refl)

-- f(1); $yield.x;
yield :
    Does 9 nulls []
    (statement (call (ident (codes "f")) (whole 1 ▸ End))
    ▸ statement (tree (kind.YieldExpr false) (whole 1 ▸ End))
    ▸ End)
    (HostCall 7 shown.Undefined (shown.Num (js_number.Whole (pos 1)) ∷ []) ∷ []) (ending.Outside)
yield = does refl (simp meaning_node refl)

-- f(1); $delete.x;
deletion_of_names :
    Does 9 nulls []
    (statement (call (ident (codes "f")) (whole 1 ▸ End))
    ▸ statement (unary unary.Delete (ident (codes "x")))
    ▸ End)
    (HostCall 7 shown.Undefined (shown.Num (js_number.Whole (pos 1)) ∷ []) ∷ []) (ending.Outside)
deletion_of_names = does refl (simp meaning_node refl)

-- f(1); $private.f;
private_members :
    Does 9 nulls []
    (statement (call (ident (codes "f")) (whole 1 ▸ End))
    ▸ statement (tree kind.MemberExpr (ident (codes "f") ▸ tree (kind.PrivateName (codes "x")) End ▸ End))
    ▸ End)
    (HostCall 7 shown.Undefined (shown.Num (js_number.Whole (pos 1)) ∷ []) ∷ []) (ending.Outside)
private_members = does refl (simp meaning_node refl)

-- f(1); class A { #m() {} }
private_methods :
    Does 9 nulls []
    (statement (call (ident (codes "f")) (whole 1 ▸ End))
    ▸ declare_class (codes "A") absent (tree (kind.PrivateMethod method.Method (modifiers false)) (tree (kind.PrivateName (codes "m")) End ▸ function End End ▸ End) ▸ End)
    ▸ End)
    (HostCall 7 shown.Undefined (shown.Num (js_number.Whole (pos 1)) ∷ []) ∷ []) (ending.Outside)
private_methods = does refl (simp meaning_node refl)

-- f(1); $private_in.f;
private_names_behind_in :
    Does 9 nulls []
    (statement (call (ident (codes "f")) (whole 1 ▸ End))
    ▸ statement (binary binary.In (tree (kind.PrivateName (codes "x")) End) (ident (codes "f")))
    ▸ End)
    (HostCall 7 shown.Undefined (shown.Num (js_number.Whole (pos 1)) ∷ []) ∷ []) (ending.Outside)
private_names_behind_in = does refl (simp meaning_node refl)

-- f(1); $escape_and_call.f;
ill_formed_escapes_before_expressions :
    Does 9 nulls []
    (statement (call (ident (codes "f")) (whole 1 ▸ End))
    ▸ statement (tree kind.Tpl (list (call (ident (codes "f")) End ▸ End) ▸ list (tree (kind.TplElement (codes "\\u") None false) End
    ▸ tree (kind.TplElement (codes "") (Some (codes "")) true) End ▸ End) ▸ End))
    ▸ End)
    (HostCall 7 shown.Undefined (shown.Num (js_number.Whole (pos 1)) ∷ []) ∷ []) (ending.Outside)
ill_formed_escapes_before_expressions = does refl (simp meaning_node refl)

-- f(1); [f.a] = [f(2)];
array_patterns_that_are_assigned :
    Does 9 nulls []
    (statement (call (ident (codes "f")) (whole 1 ▸ End))
    ▸ statement (assign (tree (kind.ArrayPat false) (list (member (ident (codes "f")) (codes "a") ▸ End) ▸ absent ▸ End)) (array (call (ident (codes "f")) (whole 2 ▸ End) ▸ End)))
    ▸ End)
    (HostCall 7 shown.Undefined (shown.Num (js_number.Whole (pos 1)) ∷ []) ∷ []) (ending.Outside)
array_patterns_that_are_assigned = does refl (simp meaning_node refl)

-- let a = {}; ({ b: a.c, ...a.d } = { b: f(1) }); f(2);
rest_of_assigned_patterns :
    Does 9 nulls []
    (declare Let (codes "a") (object End)
    ▸ statement (parens (assign (tree (kind.ObjectPat false) (list (tree kind.KeyValuePatProp (key (codes "b") ▸ member (ident (codes "a")) (codes "c") ▸ End)
    ▸ tree kind.RestPat (member (ident (codes "a")) (codes "d") ▸ absent ▸ End) ▸ End) ▸ absent ▸ End)) (object (property (key (codes "b")) (call (ident (codes "f")) (whole 1
    ▸ End)) ▸ End))))
    ▸ statement (call (ident (codes "f")) (whole 2 ▸ End))
    ▸ End)
    (HostCall 7 shown.Undefined (shown.Num (js_number.Whole (pos 1)) ∷ []) ∷ []) (ending.Outside)
rest_of_assigned_patterns = does refl (simp meaning_node refl)

-- f(1); $namespace_path.N;
namespace_paths :
    Does 9 nulls []
    (statement (call (ident (codes "f")) (whole 1 ▸ End))
    ▸ tree (kind.TsModuleDecl false false) (ident (codes "N") ▸ tree (kind.TsNamespaceDecl false false) (ident (codes "N")
    ▸ tree kind.TsModuleBlock (list (tree kind.ExprStmt (whole 1 ▸ End) ▸ End) ▸ End) ▸ End) ▸ End)
    ▸ End)
    (HostCall 7 shown.Undefined (shown.Num (js_number.Whole (pos 1)) ∷ []) ∷ []) (ending.Outside)
namespace_paths = does refl (simp meaning_node refl)
