-- Functions and calls: each fact is a small module and what node observes of it, by computing. Written by compare/facts.mjs.
use Rattle.std.proofs.Common.{refl, pos, [], ◌∷◌, true, false, codes}
use Rattle.ecma_number.specs.declared.js_number.JsNumber.TheVariants as js_number
use Rattle.ecma_kind.specs.declared.kind.Kind.TheVariants as kind
use Rattle.ecma_kind.specs.declared.operators.BinaryOp.TheVariants as binary
use Rattle.ecma_kind.specs.declared.operators.MetaPropKind.TheVariants.{NewTarget}
use Rattle.ecma_kind.specs.declared.operators.UpdateOp.TheVariants as update
use Rattle.ecma_kind.specs.declared.operators.VarDeclKind.TheVariants.{Var, Let}
use Rattle.ecma_runs.specs.declared.observation.Event.TheVariants.{HostGet, HostCall}
use Rattle.ecma_runs.specs.declared.observation.Ending.TheVariants as ending
use Rattle.ecma_runs.specs.declared.script.Answer.TheVariants.{Return}
use Rattle.ecma_runs.specs.declared.shown.ErrorKind.TheVariants as error
use Rattle.ecma_runs.specs.declared.shown.Shown.TheVariants as shown
use Rattle.ecma_runs.proofs.Trees.{End, ◌▸◌, tree, absent, list, ident, key, computed, binding, whole, null, this', member, call, new'}
use Rattle.ecma_runs.proofs.Trees.{assign, binary, parens, array, object, property, statement}
use Rattle.ecma_runs.proofs.Trees.{block, returns, declare, parameter, declare_function, function_expression, arrow, meaning_node}
use Rattle.ecma_runs.proofs.Scripts.{Does, does, nulls}
use Rattle.std.specs.Fmt.{digits}

-- f(h(1)); function h(a) { f(a); return 2; }
calls_a_function :
    Does 9 nulls []
    (statement (call (ident (codes "f")) (call (ident (codes "h")) (whole 1 ▸ End) ▸ End))
    ▸ declare_function (codes "h") (parameter (binding (codes "a")) ▸ End) (statement (call (ident (codes "f")) (ident (codes "a") ▸ End)) ▸ returns (whole 2) ▸ End)
    ▸ End)
    (HostCall 7 shown.Undefined (shown.Num (js_number.Whole (pos 1)) ∷ []) ∷ HostCall 7 shown.Undefined (shown.Num (js_number.Whole (pos 2)) ∷ []) ∷ []) (ending.Done [])
calls_a_function = does refl (simp meaning_node refl)

-- f(h(1)); function h(a) { return 2; }
wants_a_turn :
    Does 0 nulls []
    (statement (call (ident (codes "f")) (call (ident (codes "h")) (whole 1 ▸ End) ▸ End))
    ▸ declare_function (codes "h") (parameter (binding (codes "a")) ▸ End) (returns (whole 2) ▸ End)
    ▸ End)
    [] (ending.TurnsSpent)
wants_a_turn = does refl (simp meaning_node refl)

-- function h(n) { f(n); h(n + 1); } h(1);
spends_a_turn_a_call :
    Does 2 nulls []
    (declare_function (codes "h") (parameter (binding (codes "n")) ▸ End) (statement (call (ident (codes "f")) (ident (codes "n") ▸ End))
    ▸ statement (call (ident (codes "h")) (binary binary.Add (ident (codes "n")) (whole 1) ▸ End)) ▸ End)
    ▸ statement (call (ident (codes "h")) (whole 1 ▸ End))
    ▸ End)
    (HostCall 7 shown.Undefined (shown.Num (js_number.Whole (pos 1)) ∷ []) ∷ HostCall 7 shown.Undefined (shown.Num (js_number.Whole (pos 2)) ∷ []) ∷ []) (ending.TurnsSpent)
spends_a_turn_a_call = does refl (simp meaning_node refl)

-- let a = 1; a(f(1));
calls_no_function :
    Does 9 nulls []
    (declare Let (codes "a") (whole 1)
    ▸ statement (call (ident (codes "a")) (call (ident (codes "f")) (whole 1 ▸ End) ▸ End))
    ▸ End)
    (HostCall 7 shown.Undefined (shown.Num (js_number.Whole (pos 1)) ∷ []) ∷ []) (ending.Thrown (shown.Error error.Kind))
calls_no_function = does refl (simp meaning_node refl)

-- let a = () => 1; new a(f(1));
constructs_no_arrow :
    Does 9 nulls []
    (declare Let (codes "a") (arrow End (whole 1))
    ▸ statement (new' (ident (codes "a")) (call (ident (codes "f")) (whole 1 ▸ End) ▸ End))
    ▸ End)
    (HostCall 7 shown.Undefined (shown.Num (js_number.Whole (pos 1)) ∷ []) ∷ []) (ending.Thrown (shown.Error error.Kind))
constructs_no_arrow = does refl (simp meaning_node refl)

-- function h(a, b = a + 1, { c = b } = {}) { f(a, b, c); } h(1); h(1, 2, { c: 3 });
has_defaults_from_left_to_right :
    Does 9 nulls []
    (declare_function (codes "h") (parameter (binding (codes "a")) ▸ parameter (tree kind.AssignPat (binding (codes "b") ▸ binary binary.Add (ident (codes "a")) (whole 1) ▸ End))
    ▸ parameter (tree kind.AssignPat (tree (kind.ObjectPat false) (list (tree kind.AssignPatProp (binding (codes "c") ▸ ident (codes "b") ▸ End) ▸ End) ▸ absent ▸ End)
    ▸ object End ▸ End)) ▸ End) (statement (call (ident (codes "f")) (ident (codes "a") ▸ ident (codes "b") ▸ ident (codes "c") ▸ End)) ▸ End)
    ▸ statement (call (ident (codes "h")) (whole 1 ▸ End))
    ▸ statement (call (ident (codes "h")) (whole 1 ▸ whole 2 ▸ object (property (key (codes "c")) (whole 3) ▸ End) ▸ End))
    ▸ End)
    (HostCall 7 shown.Undefined (shown.Num (js_number.Whole (pos 1)) ∷ shown.Num (js_number.Whole (pos 2)) ∷ shown.Num (js_number.Whole (pos 2)) ∷ [])
    ∷ HostCall 7 shown.Undefined (shown.Num (js_number.Whole (pos 1)) ∷ shown.Num (js_number.Whole (pos 2)) ∷ shown.Num (js_number.Whole (pos 3)) ∷ []) ∷ []) (ending.Done [])
has_defaults_from_left_to_right = does refl (simp meaning_node refl)

-- function h(a = b, b) {} h(f(1)); h();
reads_no_later_parameter :
    Does 9 nulls []
    (declare_function (codes "h") (parameter (tree kind.AssignPat (binding (codes "a") ▸ ident (codes "b") ▸ End)) ▸ parameter (binding (codes "b")) ▸ End) End
    ▸ statement (call (ident (codes "h")) (call (ident (codes "f")) (whole 1 ▸ End) ▸ End))
    ▸ statement (call (ident (codes "h")) End)
    ▸ End)
    (HostCall 7 shown.Undefined (shown.Num (js_number.Whole (pos 1)) ∷ []) ∷ []) (ending.Thrown (shown.Error error.Reference))
reads_no_later_parameter = does refl (simp meaning_node refl)

-- let x = 1; function h(k = () => x) { var x = 2; f(x, k()); } h();
has_a_scope_for_the_body :
    Does 9 nulls []
    (declare Let (codes "x") (whole 1)
    ▸ declare_function (codes "h") (parameter (tree kind.AssignPat (binding (codes "k") ▸ arrow End (ident (codes "x")) ▸ End)) ▸ End) (declare Var (codes "x") (whole 2)
    ▸ statement (call (ident (codes "f")) (ident (codes "x") ▸ call (ident (codes "k")) End ▸ End)) ▸ End)
    ▸ statement (call (ident (codes "h")) End)
    ▸ End)
    (HostCall 7 shown.Undefined (shown.Num (js_number.Whole (pos 2)) ∷ shown.Num (js_number.Whole (pos 1)) ∷ []) ∷ []) (ending.Done [])
has_a_scope_for_the_body = does refl (simp meaning_node refl)

-- function h(a) { f(a()); var a; function a() { return 1; } } h(2);
sets_a_parameter_by_a_function :
    Does 9 nulls []
    (declare_function (codes "h") (parameter (binding (codes "a")) ▸ End) (statement (call (ident (codes "f")) (call (ident (codes "a")) End ▸ End))
    ▸ declare Var (codes "a") absent ▸ declare_function (codes "a") End (returns (whole 1) ▸ End) ▸ End)
    ▸ statement (call (ident (codes "h")) (whole 2 ▸ End))
    ▸ End)
    (HostCall 7 shown.Undefined (shown.Num (js_number.Whole (pos 1)) ∷ []) ∷ []) (ending.Done [])
sets_a_parameter_by_a_function = does refl (simp meaning_node refl)

-- function c() { let n = 0; return () => ++n; } let a = c(), b = c(); f(a(), a(), b());
closes_over_variables :
    Does 9 nulls []
    (declare_function (codes "c") End (declare Let (codes "n") (whole 0) ▸ returns (arrow End (tree (kind.UpdateExpr update.PlusPlus true) (ident (codes "n") ▸ End))) ▸ End)
    ▸ tree (kind.VarDecl Let false) (list (tree (kind.VarDeclarator false) (binding (codes "a") ▸ call (ident (codes "c")) End ▸ End)
    ▸ tree (kind.VarDeclarator false) (binding (codes "b") ▸ call (ident (codes "c")) End ▸ End) ▸ End) ▸ End)
    ▸ statement (call (ident (codes "f")) (call (ident (codes "a")) End ▸ call (ident (codes "a")) End ▸ call (ident (codes "b")) End ▸ End))
    ▸ End)
    (HostCall 7 shown.Undefined (shown.Num (js_number.Whole (pos 1)) ∷ shown.Num (js_number.Whole (pos 2)) ∷ shown.Num (js_number.Whole (pos 1)) ∷ []) ∷ []) (ending.Done [])
closes_over_variables = does refl (simp meaning_node refl)

-- function h() { return this; } f(h() === undefined, { h }.h() === h); f(this);
has_this :
    Does 9 nulls []
    (declare_function (codes "h") End (returns this' ▸ End)
    ▸ statement (call (ident (codes "f")) (binary binary.EqEqEq (call (ident (codes "h")) End) (ident (codes "undefined"))
    ▸ binary binary.EqEqEq (call (member (object (ident (codes "h") ▸ End)) (codes "h")) End) (ident (codes "h")) ▸ End))
    ▸ statement (call (ident (codes "f")) (this' ▸ End))
    ▸ End)
    (HostCall 7 shown.Undefined (shown.Bool true ∷ shown.Bool false ∷ []) ∷ HostCall 7 shown.Undefined (shown.Undefined ∷ []) ∷ []) (ending.Done [])
has_this = does refl (simp meaning_node refl)

-- function h() { f(arguments.length, arguments[1], arguments === arguments); arguments[0] = 5; f((() => arguments[0])()); } h(1, 2);
has_arguments :
    Does 9 nulls []
    (declare_function (codes "h") End (statement (call (ident (codes "f")) (member (ident (codes "arguments")) (codes "length") ▸ tree kind.MemberExpr (ident (codes "arguments")
    ▸ computed (whole 1) ▸ End) ▸ binary binary.EqEqEq (ident (codes "arguments")) (ident (codes "arguments")) ▸ End))
    ▸ statement (assign (tree kind.MemberExpr (ident (codes "arguments") ▸ computed (whole 0) ▸ End)) (whole 5))
    ▸ statement (call (ident (codes "f")) (call (parens (arrow End (tree kind.MemberExpr (ident (codes "arguments") ▸ computed (whole 0) ▸ End)))) End ▸ End)) ▸ End)
    ▸ statement (call (ident (codes "h")) (whole 1 ▸ whole 2 ▸ End))
    ▸ End)
    (HostCall 7 shown.Undefined (shown.Num (js_number.Whole (pos 2)) ∷ shown.Num (js_number.Whole (pos 2)) ∷ shown.Bool true ∷ [])
    ∷ HostCall 7 shown.Undefined (shown.Num (js_number.Whole (pos 5)) ∷ []) ∷ []) (ending.Done [])
unfolding digits
has_arguments = does refl (simp meaning_node refl)

-- function h() { f(new.target === h, (() => new.target === h)()); } new h(); h();
has_new_target :
    Does 9 nulls []
    (declare_function (codes "h") End (statement (call (ident (codes "f")) (binary binary.EqEqEq (tree (kind.MetaPropExpr NewTarget) End) (ident (codes "h"))
    ▸ call (parens (arrow End (binary binary.EqEqEq (tree (kind.MetaPropExpr NewTarget) End) (ident (codes "h"))))) End ▸ End)) ▸ End)
    ▸ statement (new' (ident (codes "h")) End)
    ▸ statement (call (ident (codes "h")) End)
    ▸ End)
    (HostCall 7 shown.Undefined (shown.Bool true ∷ shown.Bool true ∷ []) ∷ HostCall 7 shown.Undefined (shown.Bool false ∷ shown.Bool false ∷ []) ∷ []) (ending.Done [])
has_new_target = does refl (simp meaning_node refl)

-- function h(a) { this.a = a; } h.prototype.b = 2; let o = new h(1); f(o.a, o.b, o instanceof h, {} instanceof h, 1 instanceof h);
constructs_plain_functions :
    Does 9 nulls []
    (declare_function (codes "h") (parameter (binding (codes "a")) ▸ End) (statement (assign (member this' (codes "a")) (ident (codes "a"))) ▸ End)
    ▸ statement (assign (member (member (ident (codes "h")) (codes "prototype")) (codes "b")) (whole 2))
    ▸ declare Let (codes "o") (new' (ident (codes "h")) (whole 1 ▸ End))
    ▸ statement (call (ident (codes "f")) (member (ident (codes "o")) (codes "a") ▸ member (ident (codes "o")) (codes "b")
    ▸ binary binary.InstanceOf (ident (codes "o")) (ident (codes "h")) ▸ binary binary.InstanceOf (object End) (ident (codes "h"))
    ▸ binary binary.InstanceOf (whole 1) (ident (codes "h")) ▸ End))
    ▸ End)
    (HostCall 7 shown.Undefined (shown.Num (js_number.Whole (pos 1)) ∷ shown.Num (js_number.Whole (pos 2)) ∷ shown.Bool true ∷ shown.Bool false ∷ shown.Bool false ∷ [])
    ∷ []) (ending.Done [])
constructs_plain_functions = does refl (simp meaning_node refl)

-- function h() { this.a = 1; return { a: 2 }; } function k() { this.a = 1; return 3; } f(new h().a, new k().a);
gives_the_object_that_a_constructor_returns :
    Does 9 nulls []
    (declare_function (codes "h") End (statement (assign (member this' (codes "a")) (whole 1)) ▸ returns (object (property (key (codes "a")) (whole 2) ▸ End)) ▸ End)
    ▸ declare_function (codes "k") End (statement (assign (member this' (codes "a")) (whole 1)) ▸ returns (whole 3) ▸ End)
    ▸ statement (call (ident (codes "f")) (member (new' (ident (codes "h")) End) (codes "a") ▸ member (new' (ident (codes "k")) End) (codes "a") ▸ End))
    ▸ End)
    (HostCall 7 shown.Undefined (shown.Num (js_number.Whole (pos 2)) ∷ shown.Num (js_number.Whole (pos 1)) ∷ []) ∷ []) (ending.Done [])
gives_the_object_that_a_constructor_returns = does refl (simp meaning_node refl)

-- function h(a, b) { f(this, a, b); } h.call(1, 2); h.apply(3, [4, 5]); h.call();
borrows_call_and_apply :
    Does 9 nulls []
    (declare_function (codes "h") (parameter (binding (codes "a")) ▸ parameter (binding (codes "b")) ▸ End) (statement (call (ident (codes "f")) (this' ▸ ident (codes "a")
    ▸ ident (codes "b") ▸ End)) ▸ End)
    ▸ statement (call (member (ident (codes "h")) (codes "call")) (whole 1 ▸ whole 2 ▸ End))
    ▸ statement (call (member (ident (codes "h")) (codes "apply")) (whole 3 ▸ array (whole 4 ▸ whole 5 ▸ End) ▸ End))
    ▸ statement (call (member (ident (codes "h")) (codes "call")) End)
    ▸ End)
    (HostCall 7 shown.Undefined (shown.Num (js_number.Whole (pos 1)) ∷ shown.Num (js_number.Whole (pos 2)) ∷ shown.Undefined ∷ [])
    ∷ HostCall 7 shown.Undefined (shown.Num (js_number.Whole (pos 3)) ∷ shown.Num (js_number.Whole (pos 4)) ∷ shown.Num (js_number.Whole (pos 5)) ∷ [])
    ∷ HostCall 7 shown.Undefined (shown.Undefined ∷ shown.Undefined ∷ shown.Undefined ∷ []) ∷ []) (ending.Done [])
unfolding digits
borrows_call_and_apply = does refl (simp meaning_node refl)

-- function h(a, b) { f(this, a, b); } let k = h.bind(1, 2); k(3); k.bind(9, 4)(); f(new k(5) instanceof h);
binds_functions :
    Does 9 nulls []
    (declare_function (codes "h") (parameter (binding (codes "a")) ▸ parameter (binding (codes "b")) ▸ End) (statement (call (ident (codes "f")) (this' ▸ ident (codes "a")
    ▸ ident (codes "b") ▸ End)) ▸ End)
    ▸ declare Let (codes "k") (call (member (ident (codes "h")) (codes "bind")) (whole 1 ▸ whole 2 ▸ End))
    ▸ statement (call (ident (codes "k")) (whole 3 ▸ End))
    ▸ statement (call (call (member (ident (codes "k")) (codes "bind")) (whole 9 ▸ whole 4 ▸ End)) End)
    ▸ statement (call (ident (codes "f")) (binary binary.InstanceOf (new' (ident (codes "k")) (whole 5 ▸ End)) (ident (codes "h")) ▸ End))
    ▸ End)
    (HostCall 7 shown.Undefined (shown.Num (js_number.Whole (pos 1)) ∷ shown.Num (js_number.Whole (pos 2)) ∷ shown.Num (js_number.Whole (pos 3)) ∷ [])
    ∷ HostCall 7 shown.Undefined (shown.Num (js_number.Whole (pos 1)) ∷ shown.Num (js_number.Whole (pos 2)) ∷ shown.Num (js_number.Whole (pos 4)) ∷ [])
    ∷ HostCall 7 shown.Undefined (shown.Handle 0 ∷ shown.Num (js_number.Whole (pos 2)) ∷ shown.Num (js_number.Whole (pos 5)) ∷ []) ∷ HostCall 7 shown.Undefined (shown.Bool true
    ∷ []) ∷ []) (ending.Done [])
binds_functions = does refl (simp meaning_node refl)

-- let o = { h: null }; f(o.h?.call(o)); o.h = function (a) { return a; }; f(o.h?.call(o, 7));
binds_with_an_optional_call :
    Does 9 nulls []
    (declare Let (codes "o") (object (property (key (codes "h")) null ▸ End))
    ▸ statement (call (ident (codes "f")) (tree (kind.OptChainExpr false) (tree kind.OptCall (tree (kind.OptChainExpr true) (member (member (ident (codes "o")) (codes "h")) (codes "call")
    ▸ End) ▸ list (ident (codes "o") ▸ End) ▸ absent ▸ End) ▸ End) ▸ End))
    ▸ statement (assign (member (ident (codes "o")) (codes "h")) (function_expression absent (parameter (binding (codes "a")) ▸ End) (returns (ident (codes "a")) ▸ End)))
    ▸ statement (call (ident (codes "f")) (tree (kind.OptChainExpr false) (tree kind.OptCall (tree (kind.OptChainExpr true) (member (member (ident (codes "o")) (codes "h")) (codes "call")
    ▸ End) ▸ list (ident (codes "o") ▸ whole 7 ▸ End) ▸ absent ▸ End) ▸ End) ▸ End))
    ▸ End)
    (HostCall 7 shown.Undefined (shown.Undefined ∷ []) ∷ HostCall 7 shown.Undefined (shown.Num (js_number.Whole (pos 7)) ∷ []) ∷ []) (ending.Done [])
binds_with_an_optional_call = does refl (simp meaning_node refl)

-- function h() { for (let i = 0; ; i++) { if (i > 1) return i; } } f(h());
returns_from_loops :
    Does 9 nulls []
    (declare_function (codes "h") End (tree kind.ForStmt (declare Let (codes "i") (whole 0) ▸ absent ▸ tree (kind.UpdateExpr update.PlusPlus false) (ident (codes "i") ▸ End)
    ▸ block (tree kind.IfStmt (binary binary.Gt (ident (codes "i")) (whole 1) ▸ returns (ident (codes "i")) ▸ absent ▸ End) ▸ End) ▸ End) ▸ End)
    ▸ statement (call (ident (codes "f")) (call (ident (codes "h")) End ▸ End))
    ▸ End)
    (HostCall 7 shown.Undefined (shown.Num (js_number.Whole (pos 2)) ∷ []) ∷ []) (ending.Done [])
returns_from_loops = does refl (simp meaning_node refl)

-- function k(a, b) { f(this, a, b); } function h() { k.apply(this, arguments); } h.call(1, 2, 3);
passes_arguments_by_apply :
    Does 9 nulls []
    (declare_function (codes "k") (parameter (binding (codes "a")) ▸ parameter (binding (codes "b")) ▸ End) (statement (call (ident (codes "f")) (this' ▸ ident (codes "a")
    ▸ ident (codes "b") ▸ End)) ▸ End)
    ▸ declare_function (codes "h") End (statement (call (member (ident (codes "k")) (codes "apply")) (this' ▸ ident (codes "arguments") ▸ End)) ▸ End)
    ▸ statement (call (member (ident (codes "h")) (codes "call")) (whole 1 ▸ whole 2 ▸ whole 3 ▸ End))
    ▸ End)
    (HostCall 7 shown.Undefined (shown.Num (js_number.Whole (pos 1)) ∷ shown.Num (js_number.Whole (pos 2)) ∷ shown.Num (js_number.Whole (pos 3)) ∷ []) ∷ []) (ending.Done [])
unfolding digits
passes_arguments_by_apply = does refl (simp meaning_node refl)

-- function h() { f(1); } h.apply(null, 5);
wants_a_list_for_apply :
    Does 9 nulls []
    (declare_function (codes "h") End (statement (call (ident (codes "f")) (whole 1 ▸ End)) ▸ End)
    ▸ statement (call (member (ident (codes "h")) (codes "apply")) (null ▸ whole 5 ▸ End))
    ▸ End)
    [] (ending.Thrown (shown.Error error.Kind))
wants_a_list_for_apply = does refl (simp meaning_node refl)

-- f(g.call); g.call(1);
gets_methods_of_host_functions :
    Does 9 (Return (shown.Num (js_number.Whole (pos 2))) ∷ Return shown.Null ∷ Return (shown.Host 9) ∷ Return (shown.Num (js_number.Whole (pos 3))) ∷ []) []
    (statement (call (ident (codes "f")) (member (ident (codes "g")) (codes "call") ▸ End))
    ▸ statement (call (member (ident (codes "g")) (codes "call")) (whole 1 ▸ End))
    ▸ End)
    (HostGet 8 (codes "call") ∷ HostCall 7 shown.Undefined (shown.Num (js_number.Whole (pos 2)) ∷ []) ∷ HostGet 8 (codes "call")
    ∷ HostCall 9 (shown.Host 8) (shown.Num (js_number.Whole (pos 1)) ∷ []) ∷ []) (ending.Done [])
gets_methods_of_host_functions = does refl (simp meaning_node refl)

-- let h = (a) => (b) => a - b; f(h(5)(2)); f([h][0](1)(1));
gives_functions_as_values :
    Does 9 nulls []
    (declare Let (codes "h") (arrow (binding (codes "a") ▸ End) (arrow (binding (codes "b") ▸ End) (binary binary.Sub (ident (codes "a")) (ident (codes "b")))))
    ▸ statement (call (ident (codes "f")) (call (call (ident (codes "h")) (whole 5 ▸ End)) (whole 2 ▸ End) ▸ End))
    ▸ statement (call (ident (codes "f")) (call (call (tree kind.MemberExpr (array (ident (codes "h") ▸ End) ▸ computed (whole 0) ▸ End)) (whole 1 ▸ End)) (whole 1 ▸ End) ▸ End))
    ▸ End)
    (HostCall 7 shown.Undefined (shown.Num (js_number.Whole (pos 3)) ∷ []) ∷ HostCall 7 shown.Undefined (shown.Num (js_number.Whole (pos 0)) ∷ []) ∷ []) (ending.Done [])
unfolding digits
gives_functions_as_values = does refl (simp meaning_node refl)

-- function h(n) { return n < 2 ? 1 : n + h(n - 1); } f(h(2));
calls_itself :
    Does 9 nulls []
    (declare_function (codes "h") (parameter (binding (codes "n")) ▸ End) (returns (tree kind.CondExpr (binary binary.Lt (ident (codes "n")) (whole 2) ▸ whole 1
    ▸ binary binary.Add (ident (codes "n")) (call (ident (codes "h")) (binary binary.Sub (ident (codes "n")) (whole 1) ▸ End)) ▸ End)) ▸ End)
    ▸ statement (call (ident (codes "f")) (call (ident (codes "h")) (whole 2 ▸ End) ▸ End))
    ▸ End)
    (HostCall 7 shown.Undefined (shown.Num (js_number.Whole (pos 3)) ∷ []) ∷ []) (ending.Done [])
calls_itself = does refl (simp meaning_node refl)
