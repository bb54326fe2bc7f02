-- Regular expressions as objects: each fact is a small module and what node observes of it, by computing. Written by compare/facts.mjs.
use Rattle.std.proofs.Common.{refl, pos, [], ◌∷◌, true, false, codes}
use Rattle.ecma_number.specs.declared.js_number.JsNumber.TheVariants as js_number
use Rattle.ecma_kind.specs.declared.kind.Kind.TheVariants as kind
use Rattle.ecma_kind.specs.declared.operators.BinaryOp.TheVariants as binary
use Rattle.ecma_kind.specs.declared.operators.UnaryOp.TheVariants as unary
use Rattle.ecma_kind.specs.declared.operators.VarDeclKind.TheVariants.{Let}
use Rattle.ecma_runs.specs.declared.observation.Event.TheVariants.{HostCall}
use Rattle.ecma_runs.specs.declared.observation.Ending.TheVariants as ending
use Rattle.ecma_runs.specs.declared.script.Action.TheVariants as action
use Rattle.ecma_runs.specs.declared.script.Answer.TheVariants.{Return, Throw}
use Rattle.ecma_runs.specs.declared.shown.ErrorKind.TheVariants as error
use Rattle.ecma_runs.specs.declared.shown.Shown.TheVariants as shown
use Rattle.ecma_runs.proofs.Trees.{End, ◌▸◌, tree, absent, list, ident, key, binding, whole, string, null, member, call, new', assign, unary}
use Rattle.ecma_runs.proofs.Trees.{binary, parens, object, property, statement, block, returns, declare_pattern}
use Rattle.ecma_runs.proofs.Trees.{declare, declare_function, arrow, field, constructor', class', declare_class, meaning_node}
use Rattle.ecma_runs.proofs.Scripts.{Does, does, nulls}

-- let a = /a/, b = () => /b/g; f(typeof a, a === a, a === b(), b() === b(), a == a, a == null, a ? 1 : 2, a instanceof class {});
makes_regular_expressions :
    Does 9 nulls []
    (tree (kind.VarDecl Let false) (list (tree (kind.VarDeclarator false) (binding (codes "a") ▸ tree (kind.Regex (codes "a") (codes "")) End ▸ End)
    ▸ tree (kind.VarDeclarator false) (binding (codes "b") ▸ arrow End (tree (kind.Regex (codes "b") (codes "g")) End) ▸ End) ▸ End) ▸ End)
    ▸ statement (call (ident (codes "f")) (unary unary.TypeOf (ident (codes "a")) ▸ binary binary.EqEqEq (ident (codes "a")) (ident (codes "a"))
    ▸ binary binary.EqEqEq (ident (codes "a")) (call (ident (codes "b")) End) ▸ binary binary.EqEqEq (call (ident (codes "b")) End) (call (ident (codes "b")) End)
    ▸ binary binary.EqEq (ident (codes "a")) (ident (codes "a")) ▸ binary binary.EqEq (ident (codes "a")) null ▸ tree kind.CondExpr (ident (codes "a") ▸ whole 1 ▸ whole 2 ▸ End)
    ▸ binary binary.InstanceOf (ident (codes "a")) (tree kind.ClassExpr (absent ▸ class' absent End ▸ End)) ▸ End))
    ▸ End)
    (HostCall 7 shown.Undefined (shown.Text (codes "object") ∷ shown.Bool true ∷ shown.Bool false ∷ shown.Bool false ∷ shown.Bool true ∷ shown.Bool false
    ∷ shown.Num (js_number.Whole (pos 1)) ∷ shown.Bool false ∷ []) ∷ []) (ending.Done [])
makes_regular_expressions = does refl (simp meaning_node refl)

-- let a = /a/; f(a, { b: /b/ }, a);
shows_regular_expressions :
    Does 9 nulls (action.Get 0 (codes "lastIndex") ∷ action.Set 0 (codes "lastIndex") (shown.Num (js_number.Whole (pos 3))) ∷ action.Get 0 (codes "lastIndex")
    ∷ action.Get 1 (codes "b") ∷ action.Get 2 (codes "x") ∷ action.Call 0 shown.Undefined [] ∷ action.New 0 [] ∷ [])
    (declare Let (codes "a") (tree (kind.Regex (codes "a") (codes "")) End)
    ▸ statement (call (ident (codes "f")) (ident (codes "a") ▸ object (property (key (codes "b")) (tree (kind.Regex (codes "b") (codes "")) End) ▸ End) ▸ ident (codes "a") ▸ End))
    ▸ End)
    (HostCall 7 shown.Undefined (shown.Handle 0 ∷ shown.Handle 1 ∷ shown.Handle 0 ∷ []) ∷ []) (ending.Done (Return (shown.Num (js_number.Whole (pos 0))) ∷ Return shown.Undefined
    ∷ Return (shown.Num (js_number.Whole (pos 3))) ∷ Return (shown.Handle 2) ∷ Return shown.Undefined ∷ Throw (shown.Error error.Kind) ∷ Throw (shown.Error error.Kind) ∷ []))
shows_regular_expressions = does refl (simp meaning_node refl)

-- let a = /a/; a.x = 1; f(a.x, a.y, a.lastIndex, "x" in a, "lastIndex" in a, delete a.x, a.x, delete a.exec); a.lastIndex = 5; f(a.lastIndex); let { lastIndex } = /a/; f(lastIndex);
has_members_of_regular_expressions :
    Does 9 nulls []
    (declare Let (codes "a") (tree (kind.Regex (codes "a") (codes "")) End)
    ▸ statement (assign (member (ident (codes "a")) (codes "x")) (whole 1))
    ▸ statement (call (ident (codes "f")) (member (ident (codes "a")) (codes "x") ▸ member (ident (codes "a")) (codes "y") ▸ member (ident (codes "a")) (codes "lastIndex")
    ▸ binary binary.In (string (codes "x")) (ident (codes "a")) ▸ binary binary.In (string (codes "lastIndex")) (ident (codes "a"))
    ▸ unary unary.Delete (member (ident (codes "a")) (codes "x")) ▸ member (ident (codes "a")) (codes "x") ▸ unary unary.Delete (member (ident (codes "a")) (codes "exec"))
    ▸ End))
    ▸ statement (assign (member (ident (codes "a")) (codes "lastIndex")) (whole 5))
    ▸ statement (call (ident (codes "f")) (member (ident (codes "a")) (codes "lastIndex") ▸ End))
    ▸ declare_pattern Let (tree (kind.ObjectPat false) (list (tree kind.AssignPatProp (binding (codes "lastIndex") ▸ absent ▸ End) ▸ End) ▸ absent
    ▸ End)) (tree (kind.Regex (codes "a") (codes "")) End)
    ▸ statement (call (ident (codes "f")) (ident (codes "lastIndex") ▸ End))
    ▸ End)
    (HostCall 7 shown.Undefined (shown.Num (js_number.Whole (pos 1)) ∷ shown.Undefined ∷ shown.Num (js_number.Whole (pos 0)) ∷ shown.Bool true ∷ shown.Bool true ∷ shown.Bool true
    ∷ shown.Undefined ∷ shown.Bool true ∷ []) ∷ HostCall 7 shown.Undefined (shown.Num (js_number.Whole (pos 5)) ∷ [])
    ∷ HostCall 7 shown.Undefined (shown.Num (js_number.Whole (pos 0)) ∷ []) ∷ []) (ending.Done [])
has_members_of_regular_expressions = does refl (simp meaning_node refl)

-- delete /a/.lastIndex;
does_not_delete_the_last_index :
    Does 9 nulls []
    (statement (unary unary.Delete (member (tree (kind.Regex (codes "a") (codes "")) End) (codes "lastIndex")))
    ▸ End)
    [] (ending.Thrown (shown.Error error.Kind))
does_not_delete_the_last_index = does refl (simp meaning_node refl)

-- class A { constructor() { return /a/; } } class B extends A { lastIndex = 1; } new B();
does_not_define_the_last_index :
    Does 9 nulls []
    (declare_class (codes "A") absent (constructor' End (returns (tree (kind.Regex (codes "a") (codes "")) End) ▸ End) ▸ End)
    ▸ declare_class (codes "B") (ident (codes "A")) (field false (key (codes "lastIndex")) (whole 1) ▸ End)
    ▸ statement (new' (ident (codes "B")) End)
    ▸ End)
    [] (ending.Thrown (shown.Error error.Kind))
does_not_define_the_last_index = does refl (simp meaning_node refl)

-- try { /a/(f(1)); } catch (e) { f(e); } try { new (/a/)(f(2)); } catch (e) { f(e); } try { (class extends /a/ {}); } catch (e) { f(e); } try { ({}) instanceof /a/; } catch (e) { f(e); }
calls_no_regular_expressions :
    Does 9 nulls []
    (tree kind.TryStmt (block (statement (call (tree (kind.Regex (codes "a") (codes "")) End) (call (ident (codes "f")) (whole 1 ▸ End) ▸ End)) ▸ End)
    ▸ tree kind.CatchClause (binding (codes "e") ▸ block (statement (call (ident (codes "f")) (ident (codes "e") ▸ End)) ▸ End) ▸ End) ▸ absent ▸ End)
    ▸ tree kind.TryStmt (block (statement (new' (parens (tree (kind.Regex (codes "a") (codes "")) End)) (call (ident (codes "f")) (whole 2 ▸ End) ▸ End)) ▸ End)
    ▸ tree kind.CatchClause (binding (codes "e") ▸ block (statement (call (ident (codes "f")) (ident (codes "e") ▸ End)) ▸ End) ▸ End) ▸ absent ▸ End)
    ▸ tree kind.TryStmt (block (statement (parens (tree kind.ClassExpr (absent ▸ class' (tree (kind.Regex (codes "a") (codes "")) End) End ▸ End))) ▸ End)
    ▸ tree kind.CatchClause (binding (codes "e") ▸ block (statement (call (ident (codes "f")) (ident (codes "e") ▸ End)) ▸ End) ▸ End) ▸ absent ▸ End)
    ▸ tree kind.TryStmt (block (statement (binary binary.InstanceOf (parens (object End)) (tree (kind.Regex (codes "a") (codes "")) End)) ▸ End)
    ▸ tree kind.CatchClause (binding (codes "e") ▸ block (statement (call (ident (codes "f")) (ident (codes "e") ▸ End)) ▸ End) ▸ End) ▸ absent ▸ End)
    ▸ End)
    (HostCall 7 shown.Undefined (shown.Num (js_number.Whole (pos 1)) ∷ []) ∷ HostCall 7 shown.Undefined (shown.Error error.Kind ∷ [])
    ∷ HostCall 7 shown.Undefined (shown.Num (js_number.Whole (pos 2)) ∷ []) ∷ HostCall 7 shown.Undefined (shown.Error error.Kind ∷ [])
    ∷ HostCall 7 shown.Undefined (shown.Error error.Kind ∷ []) ∷ HostCall 7 shown.Undefined (shown.Error error.Kind ∷ []) ∷ []) (ending.Done [])
calls_no_regular_expressions = does refl (simp meaning_node refl)

-- function h() {} h.prototype = /a/; let o = new h(); f(o instanceof h, o.lastIndex, o.x); o.lastIndex = 2; f(o.lastIndex, h.prototype.lastIndex);
inherits_from_regular_expressions :
    Does 9 nulls []
    (declare_function (codes "h") End End
    ▸ statement (assign (member (ident (codes "h")) (codes "prototype")) (tree (kind.Regex (codes "a") (codes "")) End))
    ▸ declare Let (codes "o") (new' (ident (codes "h")) End)
    ▸ statement (call (ident (codes "f")) (binary binary.InstanceOf (ident (codes "o")) (ident (codes "h")) ▸ member (ident (codes "o")) (codes "lastIndex")
    ▸ member (ident (codes "o")) (codes "x") ▸ End))
    ▸ statement (assign (member (ident (codes "o")) (codes "lastIndex")) (whole 2))
    ▸ statement (call (ident (codes "f")) (member (ident (codes "o")) (codes "lastIndex") ▸ member (member (ident (codes "h")) (codes "prototype")) (codes "lastIndex") ▸ End))
    ▸ End)
    (HostCall 7 shown.Undefined (shown.Bool true ∷ shown.Num (js_number.Whole (pos 0)) ∷ shown.Undefined ∷ []) ∷ HostCall 7 shown.Undefined (shown.Num (js_number.Whole (pos 2))
    ∷ shown.Num (js_number.Whole (pos 0)) ∷ []) ∷ []) (ending.Done [])
inherits_from_regular_expressions = does refl (simp meaning_node refl)
