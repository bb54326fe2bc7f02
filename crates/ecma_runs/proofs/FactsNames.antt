-- Names, scopes, imports and the host: each fact is a small module and what node observes of it, by computing. Written by compare/facts.mjs.
use Rattle.std.proofs.Common.{refl, pos, [], ◌∷◌, false, codes}
use Rattle.ecma_number.specs.declared.js_number.JsNumber.TheVariants as js_number
use Rattle.ecma_kind.specs.declared.kind.Kind.TheVariants as kind
use Rattle.ecma_kind.specs.declared.operators.BinaryOp.TheVariants as binary
use Rattle.ecma_kind.specs.declared.operators.MetaPropKind.TheVariants.{ImportMeta}
use Rattle.ecma_kind.specs.declared.operators.MethodKind.TheVariants as method
use Rattle.ecma_kind.specs.declared.operators.VarDeclKind.TheVariants.{Var, Let, Const}
use Rattle.ecma_runs.specs.declared.observation.Event.TheVariants.{HostGet, HostSet, HostCall, HostNew}
use Rattle.ecma_runs.specs.declared.observation.Ending.TheVariants as ending
use Rattle.ecma_runs.specs.declared.script.Action.TheVariants as action
use Rattle.ecma_runs.specs.declared.script.Answer.TheVariants.{Return, Throw}
use Rattle.ecma_runs.specs.declared.shown.ErrorKind.TheVariants as error
use Rattle.ecma_runs.specs.declared.shown.Shown.TheVariants as shown
use Rattle.ecma_runs.proofs.Trees.{End, ◌▸◌, tree, absent, list, ident, key, binding, whole, string, this', member, call, new'}
use Rattle.ecma_runs.proofs.Trees.{assign, binary, object, statement, block, returns, declare}
use Rattle.ecma_runs.proofs.Trees.{parameter, function, declare_function, function_expression, class_method, constructor', class', meaning_node}
use Rattle.ecma_runs.proofs.ExportTrees.{exports_node}
use Rattle.ecma_runs.proofs.Scripts.{Does, does, nulls}

-- let x = f(1); g(x);
declares_what_the_host_answers :
    Does 9 (Return (shown.Num (js_number.Whole (pos 3))) ∷ Return shown.Null ∷ []) []
    (declare Let (codes "x") (call (ident (codes "f")) (whole 1 ▸ End))
    ▸ statement (call (ident (codes "g")) (ident (codes "x") ▸ End))
    ▸ End)
    (HostCall 7 shown.Undefined (shown.Num (js_number.Whole (pos 1)) ∷ []) ∷ HostCall 8 shown.Undefined (shown.Num (js_number.Whole (pos 3)) ∷ []) ∷ []) (ending.Done [])
declares_what_the_host_answers = does refl (simp meaning_node refl)

-- let a = x;
reads_a_free_name_without_value :
    Does 9 nulls []
    (declare Let (codes "a") (ident (codes "x"))
    ▸ End)
    [] (ending.Thrown (shown.Error error.Reference))
reads_a_free_name_without_value = does refl (simp meaning_node refl)

-- const a = 1; f(a); a = 2;
writes_a_constant :
    Does 9 nulls []
    (declare Const (codes "a") (whole 1)
    ▸ statement (call (ident (codes "f")) (ident (codes "a") ▸ End))
    ▸ statement (assign (ident (codes "a")) (whole 2))
    ▸ End)
    (HostCall 7 shown.Undefined (shown.Num (js_number.Whole (pos 1)) ∷ []) ∷ []) (ending.Thrown (shown.Error error.Kind))
writes_a_constant = does refl (simp meaning_node refl)

-- { f(1); x; let x = 2; }
reads_before_the_declaration :
    Does 9 nulls []
    (block (statement (call (ident (codes "f")) (whole 1 ▸ End)) ▸ statement (ident (codes "x")) ▸ declare Let (codes "x") (whole 2) ▸ End)
    ▸ End)
    (HostCall 7 shown.Undefined (shown.Num (js_number.Whole (pos 1)) ∷ []) ∷ []) (ending.Thrown (shown.Error error.Reference))
reads_before_the_declaration = does refl (simp meaning_node refl)

-- let x = 1; { let x = 2; function h() { x = 3; f(x); } h(); } f(x);
has_scopes :
    Does 9 nulls []
    (declare Let (codes "x") (whole 1)
    ▸ block (declare Let (codes "x") (whole 2) ▸ declare_function (codes "h") End (statement (assign (ident (codes "x")) (whole 3))
    ▸ statement (call (ident (codes "f")) (ident (codes "x") ▸ End)) ▸ End) ▸ statement (call (ident (codes "h")) End) ▸ End)
    ▸ statement (call (ident (codes "f")) (ident (codes "x") ▸ End))
    ▸ End)
    (HostCall 7 shown.Undefined (shown.Num (js_number.Whole (pos 3)) ∷ []) ∷ HostCall 7 shown.Undefined (shown.Num (js_number.Whole (pos 1)) ∷ []) ∷ []) (ending.Done [])
has_scopes = does refl (simp meaning_node refl)

-- f(h()); f(x); var x = 2; f(x); function h() { return 1; }
hoists_functions_and_var :
    Does 9 nulls []
    (statement (call (ident (codes "f")) (call (ident (codes "h")) End ▸ End))
    ▸ statement (call (ident (codes "f")) (ident (codes "x") ▸ End))
    ▸ declare Var (codes "x") (whole 2)
    ▸ statement (call (ident (codes "f")) (ident (codes "x") ▸ End))
    ▸ declare_function (codes "h") End (returns (whole 1) ▸ End)
    ▸ End)
    (HostCall 7 shown.Undefined (shown.Num (js_number.Whole (pos 1)) ∷ []) ∷ HostCall 7 shown.Undefined (shown.Undefined ∷ [])
    ∷ HostCall 7 shown.Undefined (shown.Num (js_number.Whole (pos 2)) ∷ []) ∷ []) (ending.Done [])
hoists_functions_and_var = does refl (simp meaning_node refl)

-- f.a(1)("t");
calls_a_member_with_its_object_as_this :
    Does 9 (Return (shown.Host 9) ∷ Return (shown.Host 10) ∷ Return shown.Null ∷ []) []
    (statement (call (call (member (ident (codes "f")) (codes "a")) (whole 1 ▸ End)) (string (codes "t") ▸ End))
    ▸ End)
    (HostGet 7 (codes "a") ∷ HostCall 9 (shown.Host 7) (shown.Num (js_number.Whole (pos 1)) ∷ []) ∷ HostCall 10 shown.Undefined (shown.Text (codes "t") ∷ []) ∷ []) (ending.Done [])
calls_a_member_with_its_object_as_this = does refl (simp meaning_node refl)

-- f.a = 1; new f(f.b);
sets_gets_and_constructs_host_values :
    Does 9 (Return shown.Null ∷ Return (shown.Num (js_number.Whole (pos 2))) ∷ Return (shown.Host 9) ∷ []) []
    (statement (assign (member (ident (codes "f")) (codes "a")) (whole 1))
    ▸ statement (new' (ident (codes "f")) (member (ident (codes "f")) (codes "b") ▸ End))
    ▸ End)
    (HostSet 7 (codes "a") (shown.Num (js_number.Whole (pos 1))) ∷ HostGet 7 (codes "b") ∷ HostNew 7 (shown.Num (js_number.Whole (pos 2)) ∷ []) ∷ []) (ending.Done [])
sets_gets_and_constructs_host_values = does refl (simp meaning_node refl)

-- try { f(1); } catch (e) { g(e); } f(2);
throws_what_the_host_throws :
    Does 9 (Throw (shown.Text (codes "no")) ∷ Return shown.Null ∷ Throw (shown.Error error.Range) ∷ []) []
    (tree kind.TryStmt (block (statement (call (ident (codes "f")) (whole 1 ▸ End)) ▸ End) ▸ tree kind.CatchClause (binding (codes "e")
    ▸ block (statement (call (ident (codes "g")) (ident (codes "e") ▸ End)) ▸ End) ▸ End) ▸ absent ▸ End)
    ▸ statement (call (ident (codes "f")) (whole 2 ▸ End))
    ▸ End)
    (HostCall 7 shown.Undefined (shown.Num (js_number.Whole (pos 1)) ∷ []) ∷ HostCall 8 shown.Undefined (shown.Text (codes "no") ∷ [])
    ∷ HostCall 7 shown.Undefined (shown.Num (js_number.Whole (pos 2)) ∷ []) ∷ []) (ending.Thrown (shown.Error error.Range))
throws_what_the_host_throws = does refl (simp meaning_node refl)

-- f(1); f(2);
has_no_answer_left :
    Does 9 (Return shown.Null ∷ []) []
    (statement (call (ident (codes "f")) (whole 1 ▸ End))
    ▸ statement (call (ident (codes "f")) (whole 2 ▸ End))
    ▸ End)
    (HostCall 7 shown.Undefined (shown.Num (js_number.Whole (pos 1)) ∷ []) ∷ HostCall 7 shown.Undefined (shown.Num (js_number.Whole (pos 2)) ∷ []) ∷ []) (ending.AnswersSpent)
has_no_answer_left = does refl (simp meaning_node refl)

-- import d, { a, a as b } from "m"; f(a); d(b);
imports_at_their_use :
    Does 9 nulls []
    (tree (kind.ImportDecl false) (list (tree kind.ImportDefaultSpecifier (ident (codes "d") ▸ End) ▸ tree (kind.ImportNamedSpecifier false) (ident (codes "a") ▸ absent ▸ End)
    ▸ tree (kind.ImportNamedSpecifier false) (ident (codes "b") ▸ ident (codes "a") ▸ End) ▸ End) ▸ string (codes "m") ▸ absent ▸ End)
    ▸ statement (call (ident (codes "f")) (ident (codes "a") ▸ End))
    ▸ statement (call (ident (codes "d")) (ident (codes "b") ▸ End))
    ▸ End)
    (HostCall 7 shown.Undefined (shown.Num (js_number.Whole (pos 5)) ∷ []) ∷ HostCall 9 shown.Undefined (shown.Num (js_number.Whole (pos 5)) ∷ []) ∷ []) (ending.Done [])
imports_at_their_use = does refl (simp meaning_node refl)

-- f(import.meta.url);
knows_its_own_place :
    Does 9 nulls []
    (statement (call (ident (codes "f")) (member (tree (kind.MetaPropExpr ImportMeta) End) (codes "url") ▸ End))
    ▸ End)
    (HostCall 7 shown.Undefined (shown.Text (codes "file:///m.js") ∷ []) ∷ []) (ending.Done [])
knows_its_own_place = does refl (simp meaning_node refl)

-- f(undefined, NaN, Infinity);
has_the_fixed_names :
    Does 9 nulls []
    (statement (call (ident (codes "f")) (ident (codes "undefined") ▸ ident (codes "NaN") ▸ ident (codes "Infinity") ▸ End))
    ▸ End)
    (HostCall 7 shown.Undefined (shown.Undefined ∷ shown.Num (js_number.NaN) ∷ shown.Num (js_number.Infinity) ∷ []) ∷ []) (ending.Done [])
has_the_fixed_names = does refl (simp meaning_node refl)

-- f({ m() { f(this.c); } });
shows_objects_to_the_host :
    Does 9 nulls (action.Set 0 (codes "c") (shown.Num (js_number.Whole (pos 8))) ∷ action.Get 0 (codes "m") ∷ action.Call 1 (shown.Handle 0) [] ∷ [])
    (statement (call (ident (codes "f")) (object (tree kind.MethodProp (key (codes "m") ▸ function End (statement (call (ident (codes "f")) (member this' (codes "c") ▸ End)) ▸ End)
    ▸ End) ▸ End) ▸ End))
    ▸ End)
    (HostCall 7 shown.Undefined (shown.Handle 0 ∷ []) ∷ HostCall 7 shown.Undefined (shown.Num (js_number.Whole (pos 8)) ∷ []) ∷ []) (ending.Done (Return shown.Undefined
    ∷ Return (shown.Handle 1) ∷ Return shown.Undefined ∷ []))
shows_objects_to_the_host = does refl (simp meaning_node refl)

-- f(class { constructor(a) { this.a = a; } get b() { throw this.a; } });
shows_classes_to_the_host :
    Does 9 nulls (action.New 0 (shown.Num (js_number.Whole (pos 4)) ∷ []) ∷ action.Get 1 (codes "a") ∷ action.Get 1 (codes "b") ∷ action.Call 0 shown.Undefined []
    ∷ action.ReadExport (codes "x") ∷ [])
    (statement (call (ident (codes "f")) (tree kind.ClassExpr (absent ▸ class' absent (constructor' (parameter (binding (codes "a"))
    ▸ End) (statement (assign (member this' (codes "a")) (ident (codes "a"))) ▸ End)
    ▸ class_method method.Getter false (key (codes "b")) End (tree kind.ThrowStmt (member this' (codes "a") ▸ End) ▸ End) ▸ End) ▸ End) ▸ End))
    ▸ End)
    (HostCall 7 shown.Undefined (shown.Handle 0 ∷ []) ∷ []) (ending.Done (Return (shown.Handle 1) ∷ Return (shown.Num (js_number.Whole (pos 4)))
    ∷ Throw (shown.Num (js_number.Whole (pos 4))) ∷ Throw (shown.Error error.Kind) ∷ Return shown.Undefined ∷ []))
shows_classes_to_the_host = does refl (simp (meaning_node, exports_node) refl)

-- let o = {}; let p = {}; f(p, o); f(o, p);
numbers_handles_in_the_order_of_showing :
    Does 9 nulls []
    (declare Let (codes "o") (object End)
    ▸ declare Let (codes "p") (object End)
    ▸ statement (call (ident (codes "f")) (ident (codes "p") ▸ ident (codes "o") ▸ End))
    ▸ statement (call (ident (codes "f")) (ident (codes "o") ▸ ident (codes "p") ▸ End))
    ▸ End)
    (HostCall 7 shown.Undefined (shown.Handle 0 ∷ shown.Handle 1 ∷ []) ∷ HostCall 7 shown.Undefined (shown.Handle 1 ∷ shown.Handle 0 ∷ []) ∷ []) (ending.Done [])
numbers_handles_in_the_order_of_showing = does refl (simp meaning_node refl)

-- let h = function k(n) { f(n); k === h && n < 2 && k(n + 1); }; h(1);
has_a_name_of_its_own :
    Does 9 nulls []
    (declare Let (codes "h") (function_expression (ident (codes "k")) (parameter (binding (codes "n")) ▸ End) (statement (call (ident (codes "f")) (ident (codes "n") ▸ End))
    ▸ statement (binary binary.LogicalAnd (binary binary.LogicalAnd (binary binary.EqEqEq (ident (codes "k")) (ident (codes "h"))) (binary binary.Lt (ident (codes "n")) (whole 2))) (call (ident (codes "k")) (binary binary.Add (ident (codes "n")) (whole 1)
    ▸ End))) ▸ End))
    ▸ statement (call (ident (codes "h")) (whole 1 ▸ End))
    ▸ End)
    (HostCall 7 shown.Undefined (shown.Num (js_number.Whole (pos 1)) ∷ []) ∷ HostCall 7 shown.Undefined (shown.Num (js_number.Whole (pos 2)) ∷ []) ∷ []) (ending.Done [])
has_a_name_of_its_own = does refl (simp meaning_node refl)

-- let h = function k() { k = 1; }; h();
does_not_write_its_own_name :
    Does 9 nulls []
    (declare Let (codes "h") (function_expression (ident (codes "k")) End (statement (assign (ident (codes "k")) (whole 1)) ▸ End))
    ▸ statement (call (ident (codes "h")) End)
    ▸ End)
    [] (ending.Thrown (shown.Error error.Kind))
does_not_write_its_own_name = does refl (simp meaning_node refl)

-- function h() { var a; function a() { return 1; } function a() { return 2; } f(a()); } h();
takes_the_last_of_two_functions :
    Does 9 nulls []
    (declare_function (codes "h") End (declare Var (codes "a") absent ▸ declare_function (codes "a") End (returns (whole 1) ▸ End)
    ▸ declare_function (codes "a") End (returns (whole 2) ▸ End) ▸ statement (call (ident (codes "f")) (call (ident (codes "a")) End ▸ End)) ▸ End)
    ▸ statement (call (ident (codes "h")) End)
    ▸ End)
    (HostCall 7 shown.Undefined (shown.Num (js_number.Whole (pos 2)) ∷ []) ∷ []) (ending.Done [])
takes_the_last_of_two_functions = does refl (simp meaning_node refl)

-- throw f(1);
throws_an_error_where_the_host_gives_one :
    Does 9 (Return (shown.Error error.Range) ∷ []) []
    (tree kind.ThrowStmt (call (ident (codes "f")) (whole 1 ▸ End) ▸ End)
    ▸ End)
    (HostCall 7 shown.Undefined (shown.Num (js_number.Whole (pos 1)) ∷ []) ∷ []) (ending.Thrown (shown.Error error.Range))
throws_an_error_where_the_host_gives_one = does refl (simp meaning_node refl)
