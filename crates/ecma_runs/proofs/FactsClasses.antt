-- Classes and super: each fact is a small module and what node observes of it, by computing. Written by compare/facts.mjs.
use Rattle.std.proofs.Common.{refl, pos, [], ◌∷◌, true, false, codes}
use Rattle.ecma_number.specs.declared.js_number.JsNumber.TheVariants as js_number
use Rattle.ecma_kind.specs.declared.kind.Kind.TheVariants as kind
use Rattle.ecma_kind.specs.declared.operators.BinaryOp.TheVariants as binary
use Rattle.ecma_kind.specs.declared.operators.MetaPropKind.TheVariants.{NewTarget}
use Rattle.ecma_kind.specs.declared.operators.MethodKind.TheVariants as method
use Rattle.ecma_kind.specs.declared.operators.UpdateOp.TheVariants as update
use Rattle.ecma_kind.specs.declared.operators.VarDeclKind.TheVariants.{Let}
use Rattle.ecma_runs.specs.declared.observation.Event.TheVariants.{HostCall}
use Rattle.ecma_runs.specs.declared.observation.Ending.TheVariants as ending
use Rattle.ecma_runs.specs.declared.script.Answer.TheVariants.{Return}
use Rattle.ecma_runs.specs.declared.shown.ErrorKind.TheVariants as error
use Rattle.ecma_runs.specs.declared.shown.Shown.TheVariants as shown
use Rattle.ecma_runs.proofs.Trees.{End, ◌▸◌, tree, absent, ident, key, computed, binding, whole, string, this', super', member, super_member, call, new', assign}
use Rattle.ecma_runs.proofs.Trees.{binary, parens, object, statement, block, returns, declare, parameter, function}
use Rattle.ecma_runs.proofs.Trees.{declare_function, function_expression, arrow, class_method, field, constructor', class', declare_class, meaning_node}
use Rattle.ecma_runs.proofs.Scripts.{Does, does, nulls}
use Rattle.std.specs.Fmt.{digits}

-- class A { x = 1; m() { return this.x; } static s() { return 2; } } f(new A().m(), A.s(), new A() instanceof A);
has_methods_and_fields :
    Does 9 nulls []
    (declare_class (codes "A") absent (field false (key (codes "x")) (whole 1) ▸ class_method method.Method false (key (codes "m")) End (returns (member this' (codes "x")) ▸ End)
    ▸ class_method method.Method true (key (codes "s")) End (returns (whole 2) ▸ End) ▸ End)
    ▸ statement (call (ident (codes "f")) (call (member (new' (ident (codes "A")) End) (codes "m")) End ▸ call (member (ident (codes "A")) (codes "s")) End
    ▸ binary binary.InstanceOf (new' (ident (codes "A")) End) (ident (codes "A")) ▸ End))
    ▸ End)
    (HostCall 7 shown.Undefined (shown.Num (js_number.Whole (pos 1)) ∷ shown.Num (js_number.Whole (pos 2)) ∷ shown.Bool true ∷ []) ∷ []) (ending.Done [])
has_methods_and_fields = does refl (simp meaning_node refl)

-- class A { x = 1; constructor() { f(this.x); } } class B extends A { x = 2; } f(new B().x);
has_fields_before_the_constructor :
    Does 9 nulls []
    (declare_class (codes "A") absent (field false (key (codes "x")) (whole 1) ▸ constructor' End (statement (call (ident (codes "f")) (member this' (codes "x") ▸ End)) ▸ End)
    ▸ End)
    ▸ declare_class (codes "B") (ident (codes "A")) (field false (key (codes "x")) (whole 2) ▸ End)
    ▸ statement (call (ident (codes "f")) (member (new' (ident (codes "B")) End) (codes "x") ▸ End))
    ▸ End)
    (HostCall 7 shown.Undefined (shown.Num (js_number.Whole (pos 1)) ∷ []) ∷ HostCall 7 shown.Undefined (shown.Num (js_number.Whole (pos 2)) ∷ []) ∷ []) (ending.Done [])
has_fields_before_the_constructor = does refl (simp meaning_node refl)

-- class A extends (f(0), class {}) { [f(1)] = f(4); static [f(2)] = f(5); [f(3)]() {} } new A();
defines_classes_in_order :
    Does 9 (Return shown.Null ∷ Return (shown.Text (codes "a")) ∷ Return (shown.Text (codes "b")) ∷ Return (shown.Text (codes "c")) ∷ Return (shown.Num (js_number.Whole (pos 1)))
    ∷ Return (shown.Num (js_number.Whole (pos 2))) ∷ []) []
    (declare_class (codes "A") (parens (tree kind.SeqExpr (call (ident (codes "f")) (whole 0 ▸ End) ▸ tree kind.ClassExpr (absent ▸ class' absent End ▸ End)
    ▸ End))) (field false (computed (call (ident (codes "f")) (whole 1 ▸ End))) (call (ident (codes "f")) (whole 4 ▸ End))
    ▸ field true (computed (call (ident (codes "f")) (whole 2 ▸ End))) (call (ident (codes "f")) (whole 5 ▸ End))
    ▸ class_method method.Method false (computed (call (ident (codes "f")) (whole 3 ▸ End))) End End ▸ End)
    ▸ statement (new' (ident (codes "A")) End)
    ▸ End)
    (HostCall 7 shown.Undefined (shown.Num (js_number.Whole (pos 0)) ∷ []) ∷ HostCall 7 shown.Undefined (shown.Num (js_number.Whole (pos 1)) ∷ [])
    ∷ HostCall 7 shown.Undefined (shown.Num (js_number.Whole (pos 2)) ∷ []) ∷ HostCall 7 shown.Undefined (shown.Num (js_number.Whole (pos 3)) ∷ [])
    ∷ HostCall 7 shown.Undefined (shown.Num (js_number.Whole (pos 5)) ∷ []) ∷ HostCall 7 shown.Undefined (shown.Num (js_number.Whole (pos 4)) ∷ []) ∷ []) (ending.Done [])
defines_classes_in_order = does refl (simp meaning_node refl)

-- let n = 0; class A { [++n] = n; } f(new A()[1], new A()[1]);
evaluates_keys_of_fields_once :
    Does 9 nulls []
    (declare Let (codes "n") (whole 0)
    ▸ declare_class (codes "A") absent (field false (computed (tree (kind.UpdateExpr update.PlusPlus true) (ident (codes "n") ▸ End))) (ident (codes "n")) ▸ End)
    ▸ statement (call (ident (codes "f")) (tree kind.MemberExpr (new' (ident (codes "A")) End ▸ computed (whole 1) ▸ End) ▸ tree kind.MemberExpr (new' (ident (codes "A")) End
    ▸ computed (whole 1) ▸ End) ▸ End))
    ▸ End)
    (HostCall 7 shown.Undefined (shown.Num (js_number.Whole (pos 1)) ∷ shown.Num (js_number.Whole (pos 1)) ∷ []) ∷ []) (ending.Done [])
unfolding digits
evaluates_keys_of_fields_once = does refl (simp meaning_node refl)

-- class A { static a = this === A; static b = A.a; } f(A.a, A.b); class B extends A {} f(B.a);
has_static_members_of_itself :
    Does 9 nulls []
    (declare_class (codes "A") absent (field true (key (codes "a")) (binary binary.EqEqEq this' (ident (codes "A")))
    ▸ field true (key (codes "b")) (member (ident (codes "A")) (codes "a")) ▸ End)
    ▸ statement (call (ident (codes "f")) (member (ident (codes "A")) (codes "a") ▸ member (ident (codes "A")) (codes "b") ▸ End))
    ▸ declare_class (codes "B") (ident (codes "A")) End
    ▸ statement (call (ident (codes "f")) (member (ident (codes "B")) (codes "a") ▸ End))
    ▸ End)
    (HostCall 7 shown.Undefined (shown.Bool true ∷ shown.Bool true ∷ []) ∷ HostCall 7 shown.Undefined (shown.Bool true ∷ []) ∷ []) (ending.Done [])
has_static_members_of_itself = does refl (simp meaning_node refl)

-- class A { static m() { return this; } } class B extends A { static m() { return super.m(); } } f(B.m() === B);
has_super_members :
    Does 9 nulls []
    (declare_class (codes "A") absent (class_method method.Method true (key (codes "m")) End (returns this' ▸ End) ▸ End)
    ▸ declare_class (codes "B") (ident (codes "A")) (class_method method.Method true (key (codes "m")) End (returns (call (super_member (codes "m")) End) ▸ End) ▸ End)
    ▸ statement (call (ident (codes "f")) (binary binary.EqEqEq (call (member (ident (codes "B")) (codes "m")) End) (ident (codes "B")) ▸ End))
    ▸ End)
    (HostCall 7 shown.Undefined (shown.Bool true ∷ []) ∷ []) (ending.Done [])
has_super_members = does refl (simp meaning_node refl)

-- class A { static get a() { return this.x; } } class B extends A { static x = 1; static get a() { return super.a + 1; } } f(B.a);
gets_by_super :
    Does 9 nulls []
    (declare_class (codes "A") absent (class_method method.Getter true (key (codes "a")) End (returns (member this' (codes "x")) ▸ End) ▸ End)
    ▸ declare_class (codes "B") (ident (codes "A")) (field true (key (codes "x")) (whole 1)
    ▸ class_method method.Getter true (key (codes "a")) End (returns (binary binary.Add (super_member (codes "a")) (whole 1)) ▸ End) ▸ End)
    ▸ statement (call (ident (codes "f")) (member (ident (codes "B")) (codes "a") ▸ End))
    ▸ End)
    (HostCall 7 shown.Undefined (shown.Num (js_number.Whole (pos 2)) ∷ []) ∷ []) (ending.Done [])
gets_by_super = does refl (simp meaning_node refl)

-- let o; class A { static set a(v) { f(v, this === o); } } class B extends A { static set a(v) { super.a = v; } } o = B; B.a = 2;
sets_by_super :
    Does 9 nulls []
    (declare Let (codes "o") absent
    ▸ declare_class (codes "A") absent (class_method method.Setter true (key (codes "a")) (parameter (binding (codes "v"))
    ▸ End) (statement (call (ident (codes "f")) (ident (codes "v") ▸ binary binary.EqEqEq this' (ident (codes "o")) ▸ End)) ▸ End) ▸ End)
    ▸ declare_class (codes "B") (ident (codes "A")) (class_method method.Setter true (key (codes "a")) (parameter (binding (codes "v"))
    ▸ End) (statement (assign (super_member (codes "a")) (ident (codes "v"))) ▸ End) ▸ End)
    ▸ statement (assign (ident (codes "o")) (ident (codes "B")))
    ▸ statement (assign (member (ident (codes "B")) (codes "a")) (whole 2))
    ▸ End)
    (HostCall 7 shown.Undefined (shown.Num (js_number.Whole (pos 2)) ∷ shown.Bool true ∷ []) ∷ []) (ending.Done [])
sets_by_super = does refl (simp meaning_node refl)

-- class A {} class B extends A { m() { super.y = 5; return this.y; } } f(new B().m(), A.prototype.y);
sets_super_on_this :
    Does 9 nulls []
    (declare_class (codes "A") absent End
    ▸ declare_class (codes "B") (ident (codes "A")) (class_method method.Method false (key (codes "m")) End (statement (assign (super_member (codes "y")) (whole 5))
    ▸ returns (member this' (codes "y")) ▸ End) ▸ End)
    ▸ statement (call (ident (codes "f")) (call (member (new' (ident (codes "B")) End) (codes "m")) End ▸ member (member (ident (codes "A")) (codes "prototype")) (codes "y")
    ▸ End))
    ▸ End)
    (HostCall 7 shown.Undefined (shown.Num (js_number.Whole (pos 5)) ∷ shown.Undefined ∷ []) ∷ []) (ending.Done [])
sets_super_on_this = does refl (simp meaning_node refl)

-- let o = { m() { return super.x; } }; f(o.m());
has_super_in_object_literals :
    Does 9 nulls []
    (declare Let (codes "o") (object (tree kind.MethodProp (key (codes "m") ▸ function End (returns (super_member (codes "x")) ▸ End) ▸ End) ▸ End))
    ▸ statement (call (ident (codes "f")) (call (member (ident (codes "o")) (codes "m")) End ▸ End))
    ▸ End)
    (HostCall 7 shown.Undefined (shown.Undefined ∷ []) ∷ []) (ending.Done [])
has_super_in_object_literals = does refl (simp meaning_node refl)

-- class A {} class B extends A { constructor() { f(1); this; } } new B();
wants_super_before_this :
    Does 9 nulls []
    (declare_class (codes "A") absent End
    ▸ declare_class (codes "B") (ident (codes "A")) (constructor' End (statement (call (ident (codes "f")) (whole 1 ▸ End)) ▸ statement this' ▸ End) ▸ End)
    ▸ statement (new' (ident (codes "B")) End)
    ▸ End)
    (HostCall 7 shown.Undefined (shown.Num (js_number.Whole (pos 1)) ∷ []) ∷ []) (ending.Thrown (shown.Error error.Reference))
wants_super_before_this = does refl (simp meaning_node refl)

-- class A { constructor() { f(1); } } class B extends A { constructor() { super(); super(); } } new B();
wants_super_once :
    Does 9 nulls []
    (declare_class (codes "A") absent (constructor' End (statement (call (ident (codes "f")) (whole 1 ▸ End)) ▸ End) ▸ End)
    ▸ declare_class (codes "B") (ident (codes "A")) (constructor' End (statement (call super' End) ▸ statement (call super' End) ▸ End) ▸ End)
    ▸ statement (new' (ident (codes "B")) End)
    ▸ End)
    (HostCall 7 shown.Undefined (shown.Num (js_number.Whole (pos 1)) ∷ []) ∷ HostCall 7 shown.Undefined (shown.Num (js_number.Whole (pos 1)) ∷ [])
    ∷ []) (ending.Thrown (shown.Error error.Reference))
wants_super_once = does refl (simp meaning_node refl)

-- class A {} class B extends A { constructor() { f(1); } } new B();
wants_super_at_all :
    Does 9 nulls []
    (declare_class (codes "A") absent End
    ▸ declare_class (codes "B") (ident (codes "A")) (constructor' End (statement (call (ident (codes "f")) (whole 1 ▸ End)) ▸ End) ▸ End)
    ▸ statement (new' (ident (codes "B")) End)
    ▸ End)
    (HostCall 7 shown.Undefined (shown.Num (js_number.Whole (pos 1)) ∷ []) ∷ []) (ending.Thrown (shown.Error error.Reference))
wants_super_at_all = does refl (simp meaning_node refl)

-- class A { constructor(a) { f(a); } } class B extends A { constructor() { (() => super(3))(); } } new B();
calls_super_in_an_arrow :
    Does 9 nulls []
    (declare_class (codes "A") absent (constructor' (parameter (binding (codes "a")) ▸ End) (statement (call (ident (codes "f")) (ident (codes "a") ▸ End)) ▸ End) ▸ End)
    ▸ declare_class (codes "B") (ident (codes "A")) (constructor' End (statement (call (parens (arrow End (call super' (whole 3 ▸ End)))) End) ▸ End) ▸ End)
    ▸ statement (new' (ident (codes "B")) End)
    ▸ End)
    (HostCall 7 shown.Undefined (shown.Num (js_number.Whole (pos 3)) ∷ []) ∷ []) (ending.Done [])
calls_super_in_an_arrow = does refl (simp meaning_node refl)

-- class A {} class B extends A { y = f(4); constructor() { (() => super())(); } } new B();
has_fields_when_an_arrow_called_super :
    Does 9 nulls []
    (declare_class (codes "A") absent End
    ▸ declare_class (codes "B") (ident (codes "A")) (field false (key (codes "y")) (call (ident (codes "f")) (whole 4 ▸ End))
    ▸ constructor' End (statement (call (parens (arrow End (call super' End))) End) ▸ End) ▸ End)
    ▸ statement (new' (ident (codes "B")) End)
    ▸ End)
    (HostCall 7 shown.Undefined (shown.Num (js_number.Whole (pos 4)) ∷ []) ∷ []) (ending.Done [])
has_fields_when_an_arrow_called_super = does refl (simp meaning_node refl)

-- class A { constructor(a, b) { f(a, b); } } class B extends A {} new B(1, 2);
passes_arguments_on :
    Does 9 nulls []
    (declare_class (codes "A") absent (constructor' (parameter (binding (codes "a")) ▸ parameter (binding (codes "b"))
    ▸ End) (statement (call (ident (codes "f")) (ident (codes "a") ▸ ident (codes "b") ▸ End)) ▸ End) ▸ End)
    ▸ declare_class (codes "B") (ident (codes "A")) End
    ▸ statement (new' (ident (codes "B")) (whole 1 ▸ whole 2 ▸ End))
    ▸ End)
    (HostCall 7 shown.Undefined (shown.Num (js_number.Whole (pos 1)) ∷ shown.Num (js_number.Whole (pos 2)) ∷ []) ∷ []) (ending.Done [])
passes_arguments_on = does refl (simp meaning_node refl)

-- let o = {}; class A { constructor() { return o; } } class B extends A { x = 1; } f(new B() === o, o.x);
replaces_this_by_what_super_returns :
    Does 9 nulls []
    (declare Let (codes "o") (object End)
    ▸ declare_class (codes "A") absent (constructor' End (returns (ident (codes "o")) ▸ End) ▸ End)
    ▸ declare_class (codes "B") (ident (codes "A")) (field false (key (codes "x")) (whole 1) ▸ End)
    ▸ statement (call (ident (codes "f")) (binary binary.EqEqEq (new' (ident (codes "B")) End) (ident (codes "o")) ▸ member (ident (codes "o")) (codes "x") ▸ End))
    ▸ End)
    (HostCall 7 shown.Undefined (shown.Bool true ∷ shown.Num (js_number.Whole (pos 1)) ∷ []) ∷ []) (ending.Done [])
replaces_this_by_what_super_returns = does refl (simp meaning_node refl)

-- class A {} A();
does_not_call_classes :
    Does 9 nulls []
    (declare_class (codes "A") absent End
    ▸ statement (call (ident (codes "A")) End)
    ▸ End)
    [] (ending.Thrown (shown.Error error.Kind))
does_not_call_classes = does refl (simp meaning_node refl)

-- class A extends (() => 1) {}
extends_constructors_alone :
    Does 9 nulls []
    (declare_class (codes "A") (parens (arrow End (whole 1))) End
    ▸ End)
    [] (ending.Thrown (shown.Error error.Kind))
extends_constructors_alone = does refl (simp meaning_node refl)

-- let k = (() => 1).bind(); k.prototype = {}; class A extends k {}
extends_no_arrow_that_is_bound :
    Does 9 nulls []
    (declare Let (codes "k") (call (member (parens (arrow End (whole 1))) (codes "bind")) End)
    ▸ statement (assign (member (ident (codes "k")) (codes "prototype")) (object End))
    ▸ declare_class (codes "A") (ident (codes "k")) End
    ▸ End)
    [] (ending.Thrown (shown.Error error.Kind))
extends_no_arrow_that_is_bound = does refl (simp meaning_node refl)

-- class A {} A.prototype = {};
does_not_write_the_prototype_of_a_class :
    Does 9 nulls []
    (declare_class (codes "A") absent End
    ▸ statement (assign (member (ident (codes "A")) (codes "prototype")) (object End))
    ▸ End)
    [] (ending.Thrown (shown.Error error.Kind))
does_not_write_the_prototype_of_a_class = does refl (simp meaning_node refl)

-- class A { static ["prototype"] = 1; }
defines_no_static_prototype :
    Does 9 nulls []
    (declare_class (codes "A") absent (field true (computed (string (codes "prototype"))) (whole 1) ▸ End)
    ▸ End)
    [] (ending.Thrown (shown.Error error.Kind))
defines_no_static_prototype = does refl (simp meaning_node refl)

-- class A { m() { A = 1; } } let B = A; new B().m();
does_not_write_its_inner_name :
    Does 9 nulls []
    (declare_class (codes "A") absent (class_method method.Method false (key (codes "m")) End (statement (assign (ident (codes "A")) (whole 1)) ▸ End) ▸ End)
    ▸ declare Let (codes "B") (ident (codes "A"))
    ▸ statement (call (member (new' (ident (codes "B")) End) (codes "m")) End)
    ▸ End)
    [] (ending.Thrown (shown.Error error.Kind))
does_not_write_its_inner_name = does refl (simp meaning_node refl)

-- class A { [A]() {} }
does_not_read_its_inner_name_before :
    Does 9 nulls []
    (declare_class (codes "A") absent (class_method method.Method false (computed (ident (codes "A"))) End End ▸ End)
    ▸ End)
    [] (ending.Thrown (shown.Error error.Reference))
does_not_read_its_inner_name_before = does refl (simp meaning_node refl)

-- class A {} class B extends A { constructor() { super(); return 1; } } new B();
has_no_value_of_another_sort :
    Does 9 nulls []
    (declare_class (codes "A") absent End
    ▸ declare_class (codes "B") (ident (codes "A")) (constructor' End (statement (call super' End) ▸ returns (whole 1) ▸ End) ▸ End)
    ▸ statement (new' (ident (codes "B")) End)
    ▸ End)
    [] (ending.Thrown (shown.Error error.Kind))
has_no_value_of_another_sort = does refl (simp meaning_node refl)

-- class A { constructor() { f(new.target === B, new.target === A); } } class B extends A {} new B(); new A();
knows_the_new_target_of_super :
    Does 9 nulls []
    (declare_class (codes "A") absent (constructor' End (statement (call (ident (codes "f")) (binary binary.EqEqEq (tree (kind.MetaPropExpr NewTarget) End) (ident (codes "B"))
    ▸ binary binary.EqEqEq (tree (kind.MetaPropExpr NewTarget) End) (ident (codes "A")) ▸ End)) ▸ End) ▸ End)
    ▸ declare_class (codes "B") (ident (codes "A")) End
    ▸ statement (new' (ident (codes "B")) End)
    ▸ statement (new' (ident (codes "A")) End)
    ▸ End)
    (HostCall 7 shown.Undefined (shown.Bool true ∷ shown.Bool false ∷ []) ∷ HostCall 7 shown.Undefined (shown.Bool false ∷ shown.Bool true ∷ []) ∷ []) (ending.Done [])
knows_the_new_target_of_super = does refl (simp meaning_node refl)

-- class A { static get a() { return 1; } set b(v) { f(v); } } f(A.a); new A().b = 2; new A().c = 3;
has_getters_and_setters :
    Does 9 nulls []
    (declare_class (codes "A") absent (class_method method.Getter true (key (codes "a")) End (returns (whole 1) ▸ End)
    ▸ class_method method.Setter false (key (codes "b")) (parameter (binding (codes "v")) ▸ End) (statement (call (ident (codes "f")) (ident (codes "v") ▸ End)) ▸ End) ▸ End)
    ▸ statement (call (ident (codes "f")) (member (ident (codes "A")) (codes "a") ▸ End))
    ▸ statement (assign (member (new' (ident (codes "A")) End) (codes "b")) (whole 2))
    ▸ statement (assign (member (new' (ident (codes "A")) End) (codes "c")) (whole 3))
    ▸ End)
    (HostCall 7 shown.Undefined (shown.Num (js_number.Whole (pos 1)) ∷ []) ∷ HostCall 7 shown.Undefined (shown.Num (js_number.Whole (pos 2)) ∷ []) ∷ []) (ending.Done [])
has_getters_and_setters = does refl (simp meaning_node refl)

-- class A { x; static y; z = new.target; } let a = new A(); f("x" in a, a.x, "y" in A, a.z);
has_fields_without_value :
    Does 9 nulls []
    (declare_class (codes "A") absent (field false (key (codes "x")) absent ▸ field true (key (codes "y")) absent
    ▸ field false (key (codes "z")) (tree (kind.MetaPropExpr NewTarget) End) ▸ End)
    ▸ declare Let (codes "a") (new' (ident (codes "A")) End)
    ▸ statement (call (ident (codes "f")) (binary binary.In (string (codes "x")) (ident (codes "a")) ▸ member (ident (codes "a")) (codes "x")
    ▸ binary binary.In (string (codes "y")) (ident (codes "A")) ▸ member (ident (codes "a")) (codes "z") ▸ End))
    ▸ End)
    (HostCall 7 shown.Undefined (shown.Bool true ∷ shown.Undefined ∷ shown.Bool true ∷ shown.Undefined ∷ []) ∷ []) (ending.Done [])
has_fields_without_value = does refl (simp meaning_node refl)

-- function h() { this.a = 1; } h.prototype.m = function () { return this.a; }; class B extends h {} f(new B().m());
extends_plain_functions :
    Does 9 nulls []
    (declare_function (codes "h") End (statement (assign (member this' (codes "a")) (whole 1)) ▸ End)
    ▸ statement (assign (member (member (ident (codes "h")) (codes "prototype")) (codes "m")) (function_expression absent End (returns (member this' (codes "a")) ▸ End)))
    ▸ declare_class (codes "B") (ident (codes "h")) End
    ▸ statement (call (ident (codes "f")) (call (member (new' (ident (codes "B")) End) (codes "m")) End ▸ End))
    ▸ End)
    (HostCall 7 shown.Undefined (shown.Num (js_number.Whole (pos 1)) ∷ []) ∷ []) (ending.Done [])
extends_plain_functions = does refl (simp meaning_node refl)

-- class A { m() { return 1; } } class B extends A { x = super.m(); } f(new B().x);
has_super_in_fields :
    Does 9 nulls []
    (declare_class (codes "A") absent (class_method method.Method false (key (codes "m")) End (returns (whole 1) ▸ End) ▸ End)
    ▸ declare_class (codes "B") (ident (codes "A")) (field false (key (codes "x")) (call (super_member (codes "m")) End) ▸ End)
    ▸ statement (call (ident (codes "f")) (member (new' (ident (codes "B")) End) (codes "x") ▸ End))
    ▸ End)
    (HostCall 7 shown.Undefined (shown.Num (js_number.Whole (pos 1)) ∷ []) ∷ []) (ending.Done [])
has_super_in_fields = does refl (simp meaning_node refl)

-- class A { static s = 2; } class B extends A { static y = super.s; } f(B.y);
has_super_in_static_fields :
    Does 9 nulls []
    (declare_class (codes "A") absent (field true (key (codes "s")) (whole 2) ▸ End)
    ▸ declare_class (codes "B") (ident (codes "A")) (field true (key (codes "y")) (super_member (codes "s")) ▸ End)
    ▸ statement (call (ident (codes "f")) (member (ident (codes "B")) (codes "y") ▸ End))
    ▸ End)
    (HostCall 7 shown.Undefined (shown.Num (js_number.Whole (pos 2)) ∷ []) ∷ []) (ending.Done [])
has_super_in_static_fields = does refl (simp meaning_node refl)

-- class A { x = 1; h = () => this.x; } let h = new A().h; f(h());
has_arrows_in_fields :
    Does 9 nulls []
    (declare_class (codes "A") absent (field false (key (codes "x")) (whole 1) ▸ field false (key (codes "h")) (arrow End (member this' (codes "x"))) ▸ End)
    ▸ declare Let (codes "h") (member (new' (ident (codes "A")) End) (codes "h"))
    ▸ statement (call (ident (codes "f")) (call (ident (codes "h")) End ▸ End))
    ▸ End)
    (HostCall 7 shown.Undefined (shown.Num (js_number.Whole (pos 1)) ∷ []) ∷ []) (ending.Done [])
has_arrows_in_fields = does refl (simp meaning_node refl)

-- class A { m() { return A; } } let B = A; A = 1; f(new B().m() === B, A);
has_its_own_name_inside :
    Does 9 nulls []
    (declare_class (codes "A") absent (class_method method.Method false (key (codes "m")) End (returns (ident (codes "A")) ▸ End) ▸ End)
    ▸ declare Let (codes "B") (ident (codes "A"))
    ▸ statement (assign (ident (codes "A")) (whole 1))
    ▸ statement (call (ident (codes "f")) (binary binary.EqEqEq (call (member (new' (ident (codes "B")) End) (codes "m")) End) (ident (codes "B")) ▸ ident (codes "A") ▸ End))
    ▸ End)
    (HostCall 7 shown.Undefined (shown.Bool true ∷ shown.Num (js_number.Whole (pos 1)) ∷ []) ∷ []) (ending.Done [])
has_its_own_name_inside = does refl (simp meaning_node refl)

-- class A {} class B extends A {} new B(); f(1); new B();
spends_a_turn_a_constructor :
    Does 3 nulls []
    (declare_class (codes "A") absent End
    ▸ declare_class (codes "B") (ident (codes "A")) End
    ▸ statement (new' (ident (codes "B")) End)
    ▸ statement (call (ident (codes "f")) (whole 1 ▸ End))
    ▸ statement (new' (ident (codes "B")) End)
    ▸ End)
    (HostCall 7 shown.Undefined (shown.Num (js_number.Whole (pos 1)) ∷ []) ∷ []) (ending.TurnsSpent)
spends_a_turn_a_constructor = does refl (simp meaning_node refl)

-- let o = { get a() { return 1; } }; f(o.a); f(o.a);
spends_a_turn_a_getter :
    Does 1 nulls []
    (declare Let (codes "o") (object (tree kind.GetterProp (key (codes "a") ▸ absent ▸ block (returns (whole 1) ▸ End) ▸ End) ▸ End))
    ▸ statement (call (ident (codes "f")) (member (ident (codes "o")) (codes "a") ▸ End))
    ▸ statement (call (ident (codes "f")) (member (ident (codes "o")) (codes "a") ▸ End))
    ▸ End)
    (HostCall 7 shown.Undefined (shown.Num (js_number.Whole (pos 1)) ∷ []) ∷ []) (ending.TurnsSpent)
spends_a_turn_a_getter = does refl (simp meaning_node refl)
