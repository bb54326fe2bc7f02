-- Classes over bound functions, homes of methods, and what imports and texts are: each fact is a small module and what node observes of it, by computing. Written by compare/facts.mjs.
use Rattle.std.proofs.Common.{refl, pos, [], ◌∷◌, true, false, codes}
use Rattle.ecma_number.specs.declared.js_number.JsNumber.TheVariants as js_number
use Rattle.ecma_kind.specs.declared.kind.Kind.TheVariants as kind
use Rattle.ecma_kind.specs.declared.operators.BinaryOp.TheVariants as binary
use Rattle.ecma_kind.specs.declared.operators.MetaPropKind.TheVariants.{NewTarget}
use Rattle.ecma_kind.specs.declared.operators.MethodKind.TheVariants as method
use Rattle.ecma_kind.specs.declared.operators.UnaryOp.TheVariants as unary
use Rattle.ecma_kind.specs.declared.operators.VarDeclKind.TheVariants.{Let}
use Rattle.ecma_runs.specs.declared.observation.Event.TheVariants.{HostCall}
use Rattle.ecma_runs.specs.declared.observation.Ending.TheVariants as ending
use Rattle.ecma_runs.specs.declared.shown.ErrorKind.TheVariants as error
use Rattle.ecma_runs.specs.declared.shown.Shown.TheVariants as shown
use Rattle.ecma_runs.proofs.Trees.{End, ◌▸◌, tree, absent, list, ident, key, binding, whole, string, member, super_member, call, new'}
use Rattle.ecma_runs.proofs.Trees.{assign, unary, binary, object, statement, block, returns}
use Rattle.ecma_runs.proofs.Trees.{declare, parameter, declare_function, class_method, constructor', declare_class, meaning_node}
use Rattle.ecma_runs.proofs.Scripts.{Does, does, nulls}
use Rattle.std.specs.Str.{chars}
use Rattle.ecma_number.specs.Blanks.{front_trimmed, end_trimmed}
use Rattle.ecma_number.specs.StringToNumber.{trimmed_text_number_of}

-- class A {} class B extends A { constructor(v) { return v; } } let o = {}; f(new B(o) === o, new B(f));
gives_what_derived_constructors_return :
    Does 9 nulls []
    (declare_class (codes "A") absent End
    ▸ declare_class (codes "B") (ident (codes "A")) (constructor' (parameter (binding (codes "v")) ▸ End) (returns (ident (codes "v")) ▸ End) ▸ End)
    ▸ declare Let (codes "o") (object End)
    ▸ statement (call (ident (codes "f")) (binary binary.EqEqEq (new' (ident (codes "B")) (ident (codes "o") ▸ End)) (ident (codes "o"))
    ▸ new' (ident (codes "B")) (ident (codes "f") ▸ End) ▸ End))
    ▸ End)
    (HostCall 7 shown.Undefined (shown.Bool true ∷ shown.Host 7 ∷ []) ∷ []) (ending.Done [])
gives_what_derived_constructors_return = does refl (simp meaning_node refl)

-- function h() { f(new.target === h); } let k = h.bind(); k.prototype = {}; class B extends k {} new B();
extends_bound_functions :
    Does 9 nulls []
    (declare_function (codes "h") End (statement (call (ident (codes "f")) (binary binary.EqEqEq (tree (kind.MetaPropExpr NewTarget) End) (ident (codes "h")) ▸ End)) ▸ End)
    ▸ declare Let (codes "k") (call (member (ident (codes "h")) (codes "bind")) End)
    ▸ statement (assign (member (ident (codes "k")) (codes "prototype")) (object End))
    ▸ declare_class (codes "B") (ident (codes "k")) End
    ▸ statement (new' (ident (codes "B")) End)
    ▸ End)
    (HostCall 7 shown.Undefined (shown.Bool false ∷ []) ∷ []) (ending.Done [])
extends_bound_functions = does refl (simp meaning_node refl)

-- class A {} let k = A.bind(); k.prototype = {}; class B extends k {} f(1);
extends_bound_classes :
    Does 9 nulls []
    (declare_class (codes "A") absent End
    ▸ declare Let (codes "k") (call (member (ident (codes "A")) (codes "bind")) End)
    ▸ statement (assign (member (ident (codes "k")) (codes "prototype")) (object End))
    ▸ declare_class (codes "B") (ident (codes "k")) End
    ▸ statement (call (ident (codes "f")) (whole 1 ▸ End))
    ▸ End)
    (HostCall 7 shown.Undefined (shown.Num (js_number.Whole (pos 1)) ∷ []) ∷ []) (ending.Done [])
extends_bound_classes = does refl (simp meaning_node refl)

-- class A {} class B extends A {} let k = B.bind(); class C extends k {} f(1);
extends_bound_derived_classes :
    Does 9 nulls []
    (declare_class (codes "A") absent End
    ▸ declare_class (codes "B") (ident (codes "A")) End
    ▸ declare Let (codes "k") (call (member (ident (codes "B")) (codes "bind")) End)
    ▸ declare_class (codes "C") (ident (codes "k")) End
    ▸ statement (call (ident (codes "f")) (whole 1 ▸ End))
    ▸ End)
    (HostCall 7 shown.Undefined (shown.Num (js_number.Whole (pos 1)) ∷ []) ∷ []) (ending.Done [])
extends_bound_derived_classes = does refl (simp meaning_node refl)

-- class A {} class B extends A {} class C extends B {} f(1);
extends_derived_classes :
    Does 9 nulls []
    (declare_class (codes "A") absent End
    ▸ declare_class (codes "B") (ident (codes "A")) End
    ▸ declare_class (codes "C") (ident (codes "B")) End
    ▸ statement (call (ident (codes "f")) (whole 1 ▸ End))
    ▸ End)
    (HostCall 7 shown.Undefined (shown.Num (js_number.Whole (pos 1)) ∷ []) ∷ []) (ending.Done [])
extends_derived_classes = does refl (simp meaning_node refl)

-- class A { m() { f(1); } } class B extends A { m() { super.m(); } } B.prototype.m();
finds_super_members_of_instances_by_prototypes :
    Does 9 nulls []
    (declare_class (codes "A") absent (class_method method.Method false (key (codes "m")) End (statement (call (ident (codes "f")) (whole 1 ▸ End)) ▸ End) ▸ End)
    ▸ declare_class (codes "B") (ident (codes "A")) (class_method method.Method false (key (codes "m")) End (statement (call (super_member (codes "m")) End) ▸ End) ▸ End)
    ▸ statement (call (member (member (ident (codes "B")) (codes "prototype")) (codes "m")) End)
    ▸ End)
    (HostCall 7 shown.Undefined (shown.Num (js_number.Whole (pos 1)) ∷ []) ∷ []) (ending.Done [])
finds_super_members_of_instances_by_prototypes = does refl (simp meaning_node refl)

-- import * as n from "m"; try { n = f(1); } catch (e) { f(e); }
writes_no_whole_module :
    Does 9 nulls []
    (tree (kind.ImportDecl false) (list (tree kind.ImportStarAsSpecifier (ident (codes "n") ▸ End) ▸ End) ▸ string (codes "m") ▸ absent ▸ End)
    ▸ tree kind.TryStmt (block (statement (assign (ident (codes "n")) (call (ident (codes "f")) (whole 1 ▸ End))) ▸ End) ▸ tree kind.CatchClause (binding (codes "e")
    ▸ block (statement (call (ident (codes "f")) (ident (codes "e") ▸ End)) ▸ End) ▸ End) ▸ absent ▸ End)
    ▸ End)
    (HostCall 7 shown.Undefined (shown.Num (js_number.Whole (pos 1)) ∷ []) ∷ HostCall 7 shown.Undefined (shown.Error error.Kind ∷ []) ∷ []) (ending.Done [])
writes_no_whole_module = does refl (simp meaning_node refl)

-- import { a } from "m"; f(a, typeof x);
imports_no_types_by_name :
    Does 9 nulls []
    (tree (kind.ImportDecl false) (list (tree (kind.ImportNamedSpecifier true) (ident (codes "x") ▸ absent ▸ End) ▸ tree (kind.ImportNamedSpecifier false) (ident (codes "a")
    ▸ absent ▸ End) ▸ End) ▸ string (codes "m") ▸ absent ▸ End)
    ▸ statement (call (ident (codes "f")) (ident (codes "a") ▸ unary unary.TypeOf (ident (codes "x")) ▸ End))
    ▸ End)
    (HostCall 7 shown.Undefined (shown.Num (js_number.Whole (pos 5)) ∷ shown.Text (codes "undefined") ∷ []) ∷ []) (ending.Done [])
imports_no_types_by_name = does refl (simp meaning_node refl)

-- f(+"");
casts_empty_texts :
    Does 9 nulls []
    (statement (call (ident (codes "f")) (unary unary.Plus (string (codes "")) ▸ End))
    ▸ End)
    (HostCall 7 shown.Undefined (shown.Num (js_number.Whole (pos 0)) ∷ []) ∷ []) (ending.Done [])
unfolding chars front_trimmed end_trimmed trimmed_text_number_of
casts_empty_texts = does refl (simp meaning_node refl)
