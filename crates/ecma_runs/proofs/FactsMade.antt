-- Async functions and generators, made and not called: each fact is a small module and what node observes of it, by computing. Written by compare/facts.mjs.
use Rattle.std.proofs.Common.{refl, pos, [], ◌∷◌, true, false, codes}
use Rattle.ecma_number.specs.declared.js_number.JsNumber.TheVariants as js_number
use Rattle.ecma_kind.specs.declared.kind.Kind.TheVariants as kind
use Rattle.ecma_kind.specs.declared.operators.BinaryOp.TheVariants as binary
use Rattle.ecma_kind.specs.declared.operators.MethodKind.TheVariants as method
use Rattle.ecma_kind.specs.declared.operators.UnaryOp.TheVariants as unary
use Rattle.ecma_kind.specs.declared.operators.VarDeclKind.TheVariants.{Let, Const}
use Rattle.ecma_runs.specs.declared.observation.Event.TheVariants.{HostCall}
use Rattle.ecma_runs.specs.declared.observation.Ending.TheVariants as ending
use Rattle.ecma_runs.specs.declared.script.Action.TheVariants as action
use Rattle.ecma_runs.specs.declared.script.Answer.TheVariants.{Return, Throw}
use Rattle.ecma_runs.specs.declared.shown.ErrorKind.TheVariants as error
use Rattle.ecma_runs.specs.declared.shown.Shown.TheVariants as shown
use Rattle.ecma_runs.proofs.Trees.{End, ◌▸◌, tree, absent, list, ident, key, computed, binding, whole, string, member, call, new', assign}
use Rattle.ecma_runs.proofs.Trees.{unary, binary, parens, object, property, statement, block, returns}
use Rattle.ecma_runs.proofs.Trees.{declare, declare_function, modifiers, field, constructor', class', declare_class, meaning_node}
use Rattle.ecma_runs.proofs.ExportTrees.{exports_node}
use Rattle.ecma_runs.proofs.Scripts.{Does, does, nulls}

-- async function h() {} f(typeof h, h === h); let k = async function () {}; f(typeof k, k === h);
declares_async_functions :
    Does 9 nulls []
    (tree (kind.FnDecl false) (ident (codes "h") ▸ tree (kind.Function false true) (list End ▸ block End ▸ absent ▸ absent ▸ End) ▸ End)
    ▸ statement (call (ident (codes "f")) (unary unary.TypeOf (ident (codes "h")) ▸ binary binary.EqEqEq (ident (codes "h")) (ident (codes "h")) ▸ End))
    ▸ declare Let (codes "k") (tree kind.FnExpr (absent ▸ tree (kind.Function false true) (list End ▸ block End ▸ absent ▸ absent ▸ End) ▸ End))
    ▸ statement (call (ident (codes "f")) (unary unary.TypeOf (ident (codes "k")) ▸ binary binary.EqEqEq (ident (codes "k")) (ident (codes "h")) ▸ End))
    ▸ End)
    (HostCall 7 shown.Undefined (shown.Text (codes "function") ∷ shown.Bool true ∷ []) ∷ HostCall 7 shown.Undefined (shown.Text (codes "function") ∷ shown.Bool false ∷ [])
    ∷ []) (ending.Done [])
declares_async_functions = does refl (simp meaning_node refl)

-- let k = async () => 1; f(typeof k, typeof (async (a) => a));
makes_async_arrows :
    Does 9 nulls []
    (declare Let (codes "k") (tree (kind.ArrowExpr true false) (list End ▸ whole 1 ▸ absent ▸ absent ▸ End))
    ▸ statement (call (ident (codes "f")) (unary unary.TypeOf (ident (codes "k")) ▸ unary unary.TypeOf (parens (tree (kind.ArrowExpr true false) (list (binding (codes "a") ▸ End)
    ▸ ident (codes "a") ▸ absent ▸ absent ▸ End))) ▸ End))
    ▸ End)
    (HostCall 7 shown.Undefined (shown.Text (codes "function") ∷ shown.Text (codes "function") ∷ []) ∷ []) (ending.Done [])
makes_async_arrows = does refl (simp meaning_node refl)

-- let o = { async m() {} }; f(typeof o.m); class A { async m() {} static async s() {} } f(typeof A.s, typeof A.prototype.m);
makes_async_methods :
    Does 9 nulls []
    (declare Let (codes "o") (object (tree kind.MethodProp (key (codes "m") ▸ tree (kind.Function false true) (list End ▸ block End ▸ absent ▸ absent ▸ End) ▸ End) ▸ End))
    ▸ statement (call (ident (codes "f")) (unary unary.TypeOf (member (ident (codes "o")) (codes "m")) ▸ End))
    ▸ declare_class (codes "A") absent (tree (kind.ClassMethod method.Method (modifiers false)) (key (codes "m") ▸ tree (kind.Function false true) (list End ▸ block End ▸ absent
    ▸ absent ▸ End) ▸ End) ▸ tree (kind.ClassMethod method.Method (modifiers true)) (key (codes "s") ▸ tree (kind.Function false true) (list End ▸ block End ▸ absent ▸ absent
    ▸ End) ▸ End) ▸ End)
    ▸ statement (call (ident (codes "f")) (unary unary.TypeOf (member (ident (codes "A")) (codes "s"))
    ▸ unary unary.TypeOf (member (member (ident (codes "A")) (codes "prototype")) (codes "m")) ▸ End))
    ▸ End)
    (HostCall 7 shown.Undefined (shown.Text (codes "function") ∷ []) ∷ HostCall 7 shown.Undefined (shown.Text (codes "function") ∷ shown.Text (codes "function") ∷ [])
    ∷ []) (ending.Done [])
makes_async_methods = does refl (simp meaning_node refl)

-- function* h() {} f(typeof h, h === h); let k = function* () {}; f(typeof k, k === h);
declares_generators :
    Does 9 nulls []
    (tree (kind.FnDecl false) (ident (codes "h") ▸ tree (kind.Function true false) (list End ▸ block End ▸ absent ▸ absent ▸ End) ▸ End)
    ▸ statement (call (ident (codes "f")) (unary unary.TypeOf (ident (codes "h")) ▸ binary binary.EqEqEq (ident (codes "h")) (ident (codes "h")) ▸ End))
    ▸ declare Let (codes "k") (tree kind.FnExpr (absent ▸ tree (kind.Function true false) (list End ▸ block End ▸ absent ▸ absent ▸ End) ▸ End))
    ▸ statement (call (ident (codes "f")) (unary unary.TypeOf (ident (codes "k")) ▸ binary binary.EqEqEq (ident (codes "k")) (ident (codes "h")) ▸ End))
    ▸ End)
    (HostCall 7 shown.Undefined (shown.Text (codes "function") ∷ shown.Bool true ∷ []) ∷ HostCall 7 shown.Undefined (shown.Text (codes "function") ∷ shown.Bool false ∷ [])
    ∷ []) (ending.Done [])
declares_generators = does refl (simp meaning_node refl)

-- let o = { *m() {} }; f(typeof o.m); class A { *m() {} static *s() {} } f(typeof A.s, typeof A.prototype.m);
makes_generator_methods :
    Does 9 nulls []
    (declare Let (codes "o") (object (tree kind.MethodProp (key (codes "m") ▸ tree (kind.Function true false) (list End ▸ block End ▸ absent ▸ absent ▸ End) ▸ End) ▸ End))
    ▸ statement (call (ident (codes "f")) (unary unary.TypeOf (member (ident (codes "o")) (codes "m")) ▸ End))
    ▸ declare_class (codes "A") absent (tree (kind.ClassMethod method.Method (modifiers false)) (key (codes "m") ▸ tree (kind.Function true false) (list End ▸ block End ▸ absent
    ▸ absent ▸ End) ▸ End) ▸ tree (kind.ClassMethod method.Method (modifiers true)) (key (codes "s") ▸ tree (kind.Function true false) (list End ▸ block End ▸ absent ▸ absent
    ▸ End) ▸ End) ▸ End)
    ▸ statement (call (ident (codes "f")) (unary unary.TypeOf (member (ident (codes "A")) (codes "s"))
    ▸ unary unary.TypeOf (member (member (ident (codes "A")) (codes "prototype")) (codes "m")) ▸ End))
    ▸ End)
    (HostCall 7 shown.Undefined (shown.Text (codes "function") ∷ []) ∷ HostCall 7 shown.Undefined (shown.Text (codes "function") ∷ shown.Text (codes "function") ∷ [])
    ∷ []) (ending.Done [])
makes_generator_methods = does refl (simp meaning_node refl)

-- async function* h() {} f(typeof h); let o = { async *m() {}, k: async function* () {} }; f(typeof o.m, typeof o.k);
makes_async_generators :
    Does 9 nulls []
    (tree (kind.FnDecl false) (ident (codes "h") ▸ tree (kind.Function true true) (list End ▸ block End ▸ absent ▸ absent ▸ End) ▸ End)
    ▸ statement (call (ident (codes "f")) (unary unary.TypeOf (ident (codes "h")) ▸ End))
    ▸ declare Let (codes "o") (object (tree kind.MethodProp (key (codes "m") ▸ tree (kind.Function true true) (list End ▸ block End ▸ absent ▸ absent ▸ End) ▸ End)
    ▸ property (key (codes "k")) (tree kind.FnExpr (absent ▸ tree (kind.Function true true) (list End ▸ block End ▸ absent ▸ absent ▸ End) ▸ End)) ▸ End))
    ▸ statement (call (ident (codes "f")) (unary unary.TypeOf (member (ident (codes "o")) (codes "m")) ▸ unary unary.TypeOf (member (ident (codes "o")) (codes "k")) ▸ End))
    ▸ End)
    (HostCall 7 shown.Undefined (shown.Text (codes "function") ∷ []) ∷ HostCall 7 shown.Undefined (shown.Text (codes "function") ∷ shown.Text (codes "function") ∷ [])
    ∷ []) (ending.Done [])
makes_async_generators = does refl (simp meaning_node refl)

-- f(typeof h, typeof k); { f(typeof l); async function* l() {} } async function h() {} function* k() {}
hoists_async_functions_and_generators :
    Does 9 nulls []
    (statement (call (ident (codes "f")) (unary unary.TypeOf (ident (codes "h")) ▸ unary unary.TypeOf (ident (codes "k")) ▸ End))
    ▸ block (statement (call (ident (codes "f")) (unary unary.TypeOf (ident (codes "l")) ▸ End)) ▸ tree (kind.FnDecl false) (ident (codes "l")
    ▸ tree (kind.Function true true) (list End ▸ block End ▸ absent ▸ absent ▸ End) ▸ End) ▸ End)
    ▸ tree (kind.FnDecl false) (ident (codes "h") ▸ tree (kind.Function false true) (list End ▸ block End ▸ absent ▸ absent ▸ End) ▸ End)
    ▸ tree (kind.FnDecl false) (ident (codes "k") ▸ tree (kind.Function true false) (list End ▸ block End ▸ absent ▸ absent ▸ End) ▸ End)
    ▸ End)
    (HostCall 7 shown.Undefined (shown.Text (codes "function") ∷ shown.Text (codes "function") ∷ []) ∷ HostCall 7 shown.Undefined (shown.Text (codes "function") ∷ [])
    ∷ []) (ending.Done [])
hoists_async_functions_and_generators = does refl (simp meaning_node refl)

-- export default async function () {} export async function h() {} f(typeof h);
exports_async_functions :
    Does 9 nulls (action.ReadExport (codes "default") ∷ action.ReadExport (codes "h") ∷ action.Get 0 (codes "prototype") ∷ action.New 1 [] ∷ [])
    (tree kind.ExportDefaultDecl (tree kind.FnExpr (absent ▸ tree (kind.Function false true) (list End ▸ block End ▸ absent ▸ absent ▸ End) ▸ End) ▸ End)
    ▸ tree kind.ExportDecl (tree (kind.FnDecl false) (ident (codes "h") ▸ tree (kind.Function false true) (list End ▸ block End ▸ absent ▸ absent ▸ End) ▸ End) ▸ End)
    ▸ statement (call (ident (codes "f")) (unary unary.TypeOf (ident (codes "h")) ▸ End))
    ▸ End)
    (HostCall 7 shown.Undefined (shown.Text (codes "function") ∷ []) ∷ []) (ending.Done (Return (shown.Handle 0) ∷ Return (shown.Handle 1) ∷ Return shown.Undefined
    ∷ Throw (shown.Error error.Kind) ∷ []))
exports_async_functions = does refl (simp (meaning_node, exports_node) refl)

-- export default function* () {} export const h = async function* () {};
exports_generators :
    Does 9 nulls (action.ReadExport (codes "default") ∷ action.ReadExport (codes "h") ∷ action.Get 0 (codes "prototype") ∷ action.New 1 [] ∷ [])
    (tree kind.ExportDefaultDecl (tree kind.FnExpr (absent ▸ tree (kind.Function true false) (list End ▸ block End ▸ absent ▸ absent ▸ End) ▸ End) ▸ End)
    ▸ tree kind.ExportDecl (declare Const (codes "h") (tree kind.FnExpr (absent ▸ tree (kind.Function true true) (list End ▸ block End ▸ absent ▸ absent ▸ End) ▸ End)) ▸ End)
    ▸ End)
    [] (ending.Done (Return (shown.Handle 0) ∷ Return (shown.Handle 1) ∷ Return (shown.Handle 2) ∷ Throw (shown.Error error.Kind) ∷ []))
exports_generators = does refl (simp (meaning_node, exports_node) refl)

-- export default async (a) => a;
exports_async_arrows :
    Does 9 nulls (action.ReadExport (codes "default") ∷ action.New 0 [] ∷ [])
    (tree kind.ExportDefaultExpr (tree (kind.ArrowExpr true false) (list (binding (codes "a") ▸ End) ▸ ident (codes "a") ▸ absent ▸ absent ▸ End) ▸ End)
    ▸ End)
    [] (ending.Done (Return (shown.Handle 0) ∷ Throw (shown.Error error.Kind) ∷ []))
exports_async_arrows = does refl (simp (meaning_node, exports_node) refl)

-- async function h() {} try { new h(f(1)); } catch (e) { f(e); } try { new (async () => 1)(); } catch (e) { f(e); } try { new ({ async m() {} }).m(); } catch (e) { f(e); }
constructs_no_async_functions :
    Does 9 nulls []
    (tree (kind.FnDecl false) (ident (codes "h") ▸ tree (kind.Function false true) (list End ▸ block End ▸ absent ▸ absent ▸ End) ▸ End)
    ▸ tree kind.TryStmt (block (statement (new' (ident (codes "h")) (call (ident (codes "f")) (whole 1 ▸ End) ▸ End)) ▸ End) ▸ tree kind.CatchClause (binding (codes "e")
    ▸ block (statement (call (ident (codes "f")) (ident (codes "e") ▸ End)) ▸ End) ▸ End) ▸ absent ▸ End)
    ▸ tree kind.TryStmt (block (statement (new' (parens (tree (kind.ArrowExpr true false) (list End ▸ whole 1 ▸ absent ▸ absent ▸ End))) End) ▸ End)
    ▸ tree kind.CatchClause (binding (codes "e") ▸ block (statement (call (ident (codes "f")) (ident (codes "e") ▸ End)) ▸ End) ▸ End) ▸ absent ▸ End)
    ▸ tree kind.TryStmt (block (statement (new' (member (parens (object (tree kind.MethodProp (key (codes "m") ▸ tree (kind.Function false true) (list End ▸ block End ▸ absent
    ▸ absent ▸ End) ▸ End) ▸ End))) (codes "m")) End) ▸ End) ▸ tree kind.CatchClause (binding (codes "e") ▸ block (statement (call (ident (codes "f")) (ident (codes "e") ▸ End))
    ▸ End) ▸ End) ▸ absent ▸ End)
    ▸ End)
    (HostCall 7 shown.Undefined (shown.Num (js_number.Whole (pos 1)) ∷ []) ∷ HostCall 7 shown.Undefined (shown.Error error.Kind ∷ [])
    ∷ HostCall 7 shown.Undefined (shown.Error error.Kind ∷ []) ∷ HostCall 7 shown.Undefined (shown.Error error.Kind ∷ []) ∷ []) (ending.Done [])
constructs_no_async_functions = does refl (simp meaning_node refl)

-- function* h() {} try { new h(f(1)); } catch (e) { f(e); } try { new (async function* () {})(); } catch (e) { f(e); } try { new ({ *m() {} }).m(); } catch (e) { f(e); }
constructs_no_generators :
    Does 9 nulls []
    (tree (kind.FnDecl false) (ident (codes "h") ▸ tree (kind.Function true false) (list End ▸ block End ▸ absent ▸ absent ▸ End) ▸ End)
    ▸ tree kind.TryStmt (block (statement (new' (ident (codes "h")) (call (ident (codes "f")) (whole 1 ▸ End) ▸ End)) ▸ End) ▸ tree kind.CatchClause (binding (codes "e")
    ▸ block (statement (call (ident (codes "f")) (ident (codes "e") ▸ End)) ▸ End) ▸ End) ▸ absent ▸ End)
    ▸ tree kind.TryStmt (block (statement (new' (parens (tree kind.FnExpr (absent ▸ tree (kind.Function true true) (list End ▸ block End ▸ absent ▸ absent ▸ End) ▸ End))) End)
    ▸ End) ▸ tree kind.CatchClause (binding (codes "e") ▸ block (statement (call (ident (codes "f")) (ident (codes "e") ▸ End)) ▸ End) ▸ End) ▸ absent ▸ End)
    ▸ tree kind.TryStmt (block (statement (new' (member (parens (object (tree kind.MethodProp (key (codes "m") ▸ tree (kind.Function true false) (list End ▸ block End ▸ absent
    ▸ absent ▸ End) ▸ End) ▸ End))) (codes "m")) End) ▸ End) ▸ tree kind.CatchClause (binding (codes "e") ▸ block (statement (call (ident (codes "f")) (ident (codes "e") ▸ End))
    ▸ End) ▸ End) ▸ absent ▸ End)
    ▸ End)
    (HostCall 7 shown.Undefined (shown.Num (js_number.Whole (pos 1)) ∷ []) ∷ HostCall 7 shown.Undefined (shown.Error error.Kind ∷ [])
    ∷ HostCall 7 shown.Undefined (shown.Error error.Kind ∷ []) ∷ HostCall 7 shown.Undefined (shown.Error error.Kind ∷ []) ∷ []) (ending.Done [])
constructs_no_generators = does refl (simp meaning_node refl)

-- function* h() {} try { (class extends h {}); } catch (e) { f(e); } try { (class extends (async () => 1) {}); } catch (e) { f(e); } try { (class extends h.bind() {}); } catch (e) { f(e); }
extends_no_async_functions_and_no_generators :
    Does 9 nulls []
    (tree (kind.FnDecl false) (ident (codes "h") ▸ tree (kind.Function true false) (list End ▸ block End ▸ absent ▸ absent ▸ End) ▸ End)
    ▸ tree kind.TryStmt (block (statement (parens (tree kind.ClassExpr (absent ▸ class' (ident (codes "h")) End ▸ End))) ▸ End) ▸ tree kind.CatchClause (binding (codes "e")
    ▸ block (statement (call (ident (codes "f")) (ident (codes "e") ▸ End)) ▸ End) ▸ End) ▸ absent ▸ End)
    ▸ tree kind.TryStmt (block (statement (parens (tree kind.ClassExpr (absent ▸ class' (parens (tree (kind.ArrowExpr true false) (list End ▸ whole 1 ▸ absent ▸ absent ▸ End))) End
    ▸ End))) ▸ End) ▸ tree kind.CatchClause (binding (codes "e") ▸ block (statement (call (ident (codes "f")) (ident (codes "e") ▸ End)) ▸ End) ▸ End) ▸ absent ▸ End)
    ▸ tree kind.TryStmt (block (statement (parens (tree kind.ClassExpr (absent ▸ class' (call (member (ident (codes "h")) (codes "bind")) End) End ▸ End))) ▸ End)
    ▸ tree kind.CatchClause (binding (codes "e") ▸ block (statement (call (ident (codes "f")) (ident (codes "e") ▸ End)) ▸ End) ▸ End) ▸ absent ▸ End)
    ▸ End)
    (HostCall 7 shown.Undefined (shown.Error error.Kind ∷ []) ∷ HostCall 7 shown.Undefined (shown.Error error.Kind ∷ []) ∷ HostCall 7 shown.Undefined (shown.Error error.Kind ∷ [])
    ∷ []) (ending.Done [])
extends_no_async_functions_and_no_generators = does refl (simp meaning_node refl)

-- function* h() {} let p = h.prototype; f(typeof p, p === h.prototype, p.x, "x" in p, p.prototype, delete p.constructor, delete p.next); p.a = 1; f(h.prototype.a); h.prototype = 2; f(h.prototype);
has_prototypes_of_generators :
    Does 9 nulls []
    (tree (kind.FnDecl false) (ident (codes "h") ▸ tree (kind.Function true false) (list End ▸ block End ▸ absent ▸ absent ▸ End) ▸ End)
    ▸ declare Let (codes "p") (member (ident (codes "h")) (codes "prototype"))
    ▸ statement (call (ident (codes "f")) (unary unary.TypeOf (ident (codes "p")) ▸ binary binary.EqEqEq (ident (codes "p")) (member (ident (codes "h")) (codes "prototype"))
    ▸ member (ident (codes "p")) (codes "x") ▸ binary binary.In (string (codes "x")) (ident (codes "p")) ▸ member (ident (codes "p")) (codes "prototype")
    ▸ unary unary.Delete (member (ident (codes "p")) (codes "constructor")) ▸ unary unary.Delete (member (ident (codes "p")) (codes "next")) ▸ End))
    ▸ statement (assign (member (ident (codes "p")) (codes "a")) (whole 1))
    ▸ statement (call (ident (codes "f")) (member (member (ident (codes "h")) (codes "prototype")) (codes "a") ▸ End))
    ▸ statement (assign (member (ident (codes "h")) (codes "prototype")) (whole 2))
    ▸ statement (call (ident (codes "f")) (member (ident (codes "h")) (codes "prototype") ▸ End))
    ▸ End)
    (HostCall 7 shown.Undefined (shown.Text (codes "object") ∷ shown.Bool true ∷ shown.Undefined ∷ shown.Bool false ∷ shown.Undefined ∷ shown.Bool true ∷ shown.Bool true ∷ [])
    ∷ HostCall 7 shown.Undefined (shown.Num (js_number.Whole (pos 1)) ∷ []) ∷ HostCall 7 shown.Undefined (shown.Num (js_number.Whole (pos 2)) ∷ []) ∷ []) (ending.Done [])
has_prototypes_of_generators = does refl (simp meaning_node refl)

-- function* h() {} f(h.next, "next" in h, h.x, (function* () {}).prototype === h.prototype);
has_no_members_of_what_generators_give :
    Does 9 nulls []
    (tree (kind.FnDecl false) (ident (codes "h") ▸ tree (kind.Function true false) (list End ▸ block End ▸ absent ▸ absent ▸ End) ▸ End)
    ▸ statement (call (ident (codes "f")) (member (ident (codes "h")) (codes "next") ▸ binary binary.In (string (codes "next")) (ident (codes "h"))
    ▸ member (ident (codes "h")) (codes "x") ▸ binary binary.EqEqEq (member (parens (tree kind.FnExpr (absent ▸ tree (kind.Function true false) (list End ▸ block End ▸ absent
    ▸ absent ▸ End) ▸ End))) (codes "prototype")) (member (ident (codes "h")) (codes "prototype")) ▸ End))
    ▸ End)
    (HostCall 7 shown.Undefined (shown.Undefined ∷ shown.Bool false ∷ shown.Undefined ∷ shown.Bool false ∷ []) ∷ []) (ending.Done [])
has_no_members_of_what_generators_give = does refl (simp meaning_node refl)

-- async function h() {} f(h.prototype, "prototype" in h, (async () => 1).prototype, h.bind().prototype, ({ async m() {} }).m.prototype); h.prototype = 1; f(h.prototype, delete h.prototype, h.prototype);
has_no_prototypes_of_async_functions :
    Does 9 nulls []
    (tree (kind.FnDecl false) (ident (codes "h") ▸ tree (kind.Function false true) (list End ▸ block End ▸ absent ▸ absent ▸ End) ▸ End)
    ▸ statement (call (ident (codes "f")) (member (ident (codes "h")) (codes "prototype") ▸ binary binary.In (string (codes "prototype")) (ident (codes "h"))
    ▸ member (parens (tree (kind.ArrowExpr true false) (list End ▸ whole 1 ▸ absent ▸ absent ▸ End))) (codes "prototype")
    ▸ member (call (member (ident (codes "h")) (codes "bind")) End) (codes "prototype") ▸ member (member (parens (object (tree kind.MethodProp (key (codes "m")
    ▸ tree (kind.Function false true) (list End ▸ block End ▸ absent ▸ absent ▸ End) ▸ End) ▸ End))) (codes "m")) (codes "prototype") ▸ End))
    ▸ statement (assign (member (ident (codes "h")) (codes "prototype")) (whole 1))
    ▸ statement (call (ident (codes "f")) (member (ident (codes "h")) (codes "prototype") ▸ unary unary.Delete (member (ident (codes "h")) (codes "prototype"))
    ▸ member (ident (codes "h")) (codes "prototype") ▸ End))
    ▸ End)
    (HostCall 7 shown.Undefined (shown.Undefined ∷ shown.Bool false ∷ shown.Undefined ∷ shown.Undefined ∷ shown.Undefined ∷ [])
    ∷ HostCall 7 shown.Undefined (shown.Num (js_number.Whole (pos 1)) ∷ shown.Bool true ∷ shown.Undefined ∷ []) ∷ []) (ending.Done [])
has_no_prototypes_of_async_functions = does refl (simp meaning_node refl)

-- function* h() {} delete h.prototype;
does_not_delete_prototypes_of_generators :
    Does 9 nulls []
    (tree (kind.FnDecl false) (ident (codes "h") ▸ tree (kind.Function true false) (list End ▸ block End ▸ absent ▸ absent ▸ End) ▸ End)
    ▸ statement (unary unary.Delete (member (ident (codes "h")) (codes "prototype")))
    ▸ End)
    [] (ending.Thrown (shown.Error error.Kind))
does_not_delete_prototypes_of_generators = does refl (simp meaning_node refl)

-- function* h() {} class A { constructor() { return h; } } class B extends A { prototype = 1; } new B();
does_not_define_prototypes_of_generators :
    Does 9 nulls []
    (tree (kind.FnDecl false) (ident (codes "h") ▸ tree (kind.Function true false) (list End ▸ block End ▸ absent ▸ absent ▸ End) ▸ End)
    ▸ declare_class (codes "A") absent (constructor' End (returns (ident (codes "h")) ▸ End) ▸ End)
    ▸ declare_class (codes "B") (ident (codes "A")) (field false (key (codes "prototype")) (whole 1) ▸ End)
    ▸ statement (new' (ident (codes "B")) End)
    ▸ End)
    [] (ending.Thrown (shown.Error error.Kind))
does_not_define_prototypes_of_generators = does refl (simp meaning_node refl)

-- function* h() {} class A {} f({} instanceof h, h.prototype instanceof h, h instanceof A, 1 instanceof (async () => 1)); try { ({}) instanceof (async () => 1); } catch (e) { f(e); }
tests_instances_of_generators :
    Does 9 nulls []
    (tree (kind.FnDecl false) (ident (codes "h") ▸ tree (kind.Function true false) (list End ▸ block End ▸ absent ▸ absent ▸ End) ▸ End)
    ▸ declare_class (codes "A") absent End
    ▸ statement (call (ident (codes "f")) (binary binary.InstanceOf (object End) (ident (codes "h"))
    ▸ binary binary.InstanceOf (member (ident (codes "h")) (codes "prototype")) (ident (codes "h")) ▸ binary binary.InstanceOf (ident (codes "h")) (ident (codes "A"))
    ▸ binary binary.InstanceOf (whole 1) (parens (tree (kind.ArrowExpr true false) (list End ▸ whole 1 ▸ absent ▸ absent ▸ End))) ▸ End))
    ▸ tree kind.TryStmt (block (statement (binary binary.InstanceOf (parens (object End)) (parens (tree (kind.ArrowExpr true false) (list End ▸ whole 1 ▸ absent ▸ absent ▸ End))))
    ▸ End) ▸ tree kind.CatchClause (binding (codes "e") ▸ block (statement (call (ident (codes "f")) (ident (codes "e") ▸ End)) ▸ End) ▸ End) ▸ absent ▸ End)
    ▸ End)
    (HostCall 7 shown.Undefined (shown.Bool false ∷ shown.Bool false ∷ shown.Bool false ∷ shown.Bool false ∷ []) ∷ HostCall 7 shown.Undefined (shown.Error error.Kind ∷ [])
    ∷ []) (ending.Done [])
tests_instances_of_generators = does refl (simp meaning_node refl)

-- function* h() {} function k() {} k.prototype = h.prototype; let o = new k(); f(o instanceof h, o instanceof k, o.x); h.prototype.a = 3; f(o.a);
constructs_with_prototypes_of_generators :
    Does 9 nulls []
    (tree (kind.FnDecl false) (ident (codes "h") ▸ tree (kind.Function true false) (list End ▸ block End ▸ absent ▸ absent ▸ End) ▸ End)
    ▸ declare_function (codes "k") End End
    ▸ statement (assign (member (ident (codes "k")) (codes "prototype")) (member (ident (codes "h")) (codes "prototype")))
    ▸ declare Let (codes "o") (new' (ident (codes "k")) End)
    ▸ statement (call (ident (codes "f")) (binary binary.InstanceOf (ident (codes "o")) (ident (codes "h")) ▸ binary binary.InstanceOf (ident (codes "o")) (ident (codes "k"))
    ▸ member (ident (codes "o")) (codes "x") ▸ End))
    ▸ statement (assign (member (member (ident (codes "h")) (codes "prototype")) (codes "a")) (whole 3))
    ▸ statement (call (ident (codes "f")) (member (ident (codes "o")) (codes "a") ▸ End))
    ▸ End)
    (HostCall 7 shown.Undefined (shown.Bool true ∷ shown.Bool true ∷ shown.Undefined ∷ []) ∷ HostCall 7 shown.Undefined (shown.Num (js_number.Whole (pos 3)) ∷ [])
    ∷ []) (ending.Done [])
constructs_with_prototypes_of_generators = does refl (simp meaning_node refl)

-- let k = (async () => 1).bind(), l = (function* () {}).bind(); f(typeof k, typeof l, k.prototype); try { new k(); } catch (e) { f(e); } try { new l(); } catch (e) { f(e); }
binds_async_functions_and_generators :
    Does 9 nulls []
    (tree (kind.VarDecl Let false) (list (tree (kind.VarDeclarator false) (binding (codes "k") ▸ call (member (parens (tree (kind.ArrowExpr true false) (list End ▸ whole 1 ▸ absent
    ▸ absent ▸ End))) (codes "bind")) End ▸ End) ▸ tree (kind.VarDeclarator false) (binding (codes "l") ▸ call (member (parens (tree kind.FnExpr (absent
    ▸ tree (kind.Function true false) (list End ▸ block End ▸ absent ▸ absent ▸ End) ▸ End))) (codes "bind")) End ▸ End) ▸ End) ▸ End)
    ▸ statement (call (ident (codes "f")) (unary unary.TypeOf (ident (codes "k")) ▸ unary unary.TypeOf (ident (codes "l")) ▸ member (ident (codes "k")) (codes "prototype") ▸ End))
    ▸ tree kind.TryStmt (block (statement (new' (ident (codes "k")) End) ▸ End) ▸ tree kind.CatchClause (binding (codes "e")
    ▸ block (statement (call (ident (codes "f")) (ident (codes "e") ▸ End)) ▸ End) ▸ End) ▸ absent ▸ End)
    ▸ tree kind.TryStmt (block (statement (new' (ident (codes "l")) End) ▸ End) ▸ tree kind.CatchClause (binding (codes "e")
    ▸ block (statement (call (ident (codes "f")) (ident (codes "e") ▸ End)) ▸ End) ▸ End) ▸ absent ▸ End)
    ▸ End)
    (HostCall 7 shown.Undefined (shown.Text (codes "function") ∷ shown.Text (codes "function") ∷ shown.Undefined ∷ []) ∷ HostCall 7 shown.Undefined (shown.Error error.Kind ∷ [])
    ∷ HostCall 7 shown.Undefined (shown.Error error.Kind ∷ []) ∷ []) (ending.Done [])
binds_async_functions_and_generators = does refl (simp meaning_node refl)

-- let h = async () => 1; f(h, function* () {}, h);
shows_async_functions_and_generators :
    Does 9 nulls (action.Get 1 (codes "prototype") ∷ action.Set 0 (codes "a") (shown.Num (js_number.Whole (pos 2))) ∷ action.Get 0 (codes "a") ∷ action.Get 2 (codes "a") ∷ [])
    (declare Let (codes "h") (tree (kind.ArrowExpr true false) (list End ▸ whole 1 ▸ absent ▸ absent ▸ End))
    ▸ statement (call (ident (codes "f")) (ident (codes "h") ▸ tree kind.FnExpr (absent ▸ tree (kind.Function true false) (list End ▸ block End ▸ absent ▸ absent ▸ End) ▸ End)
    ▸ ident (codes "h") ▸ End))
    ▸ End)
    (HostCall 7 shown.Undefined (shown.Handle 0 ∷ shown.Handle 1 ∷ shown.Handle 0 ∷ []) ∷ []) (ending.Done (Return (shown.Handle 2) ∷ Return shown.Undefined
    ∷ Return (shown.Num (js_number.Whole (pos 2))) ∷ Return shown.Undefined ∷ []))
shows_async_functions_and_generators = does refl (simp meaning_node refl)

-- try { (class { static async ["prototype"]() {} }); } catch (e) { f(e); }
has_static_async_functions_that_are_named_prototype :
    Does 9 nulls []
    (tree kind.TryStmt (block (statement (parens (tree kind.ClassExpr (absent
    ▸ class' absent (tree (kind.ClassMethod method.Method (modifiers true)) (computed (string (codes "prototype")) ▸ tree (kind.Function false true) (list End ▸ block End
    ▸ absent ▸ absent ▸ End) ▸ End) ▸ End) ▸ End))) ▸ End) ▸ tree kind.CatchClause (binding (codes "e") ▸ block (statement (call (ident (codes "f")) (ident (codes "e") ▸ End))
    ▸ End) ▸ End) ▸ absent ▸ End)
    ▸ End)
    (HostCall 7 shown.Undefined (shown.Error error.Kind ∷ []) ∷ []) (ending.Done [])
has_static_async_functions_that_are_named_prototype = does refl (simp meaning_node refl)
