-- Types: each fact is a small module and what node observes of it, by computing. Written by compare/facts.mjs.
use Rattle.std.proofs.Common.{refl, pos, [], ◌∷◌, None, true, false, codes}
use Rattle.ecma_number.specs.declared.js_number.JsNumber.TheVariants as js_number
use Rattle.ecma_kind.specs.declared.kind.Kind.TheVariants as kind
use Rattle.ecma_kind.specs.declared.operators.AssignOp.TheVariants as assign
use Rattle.ecma_kind.specs.declared.operators.BinaryOp.TheVariants as binary
use Rattle.ecma_kind.specs.declared.operators.MethodKind.TheVariants as method
use Rattle.ecma_kind.specs.declared.operators.UnaryOp.TheVariants as unary
use Rattle.ecma_kind.specs.declared.operators.UpdateOp.TheVariants as update
use Rattle.ecma_kind.specs.declared.operators.VarDeclKind.TheVariants.{Var, Let}
use Rattle.ecma_runs.specs.declared.observation.Event.TheVariants.{HostCall}
use Rattle.ecma_runs.specs.declared.observation.Ending.TheVariants as ending
use Rattle.ecma_runs.specs.declared.shown.Shown.TheVariants as shown
use Rattle.ecma_runs.proofs.Trees.{End, ◌▸◌, tree, absent, list, ident, key, binding, whole, string, type', this', member, call, new', assign}
use Rattle.ecma_runs.proofs.Trees.{unary, binary, parens, object, property, statement, returns, declare_pattern}
use Rattle.ecma_runs.proofs.Trees.{declare, parameter, function, declare_function, modifiers, constructor', class', declare_class, meaning_node}
use Rattle.ecma_runs.proofs.Scripts.{Does, does, nulls}

-- let o = { m() { return this === o; }, a: 1 }; f(o.m(), o.m(), o.a, typeof nothing, delete o.a);
has_no_effect_of_types :
    Does 9 nulls []
    (declare Let (codes "o") (object (tree kind.MethodProp (key (codes "m") ▸ function End (returns (binary binary.EqEqEq this' (ident (codes "o"))) ▸ End) ▸ End)
    ▸ property (key (codes "a")) (tree kind.TsConstAssertion (tree kind.TsAsExpr (whole 1 ▸ type' ▸ End) ▸ End)) ▸ End))
    ▸ statement (call (ident (codes "f")) (call (tree kind.TsAsExpr (member (ident (codes "o")) (codes "m") ▸ type' ▸ End)) End
    ▸ call (tree kind.TsNonNullExpr (tree kind.TsInstantiation (member (ident (codes "o")) (codes "m") ▸ type' ▸ End) ▸ End)) End
    ▸ member (tree kind.TsSatisfiesExpr (ident (codes "o") ▸ type' ▸ End)) (codes "a") ▸ unary unary.TypeOf (tree kind.TsAsExpr (ident (codes "nothing") ▸ type' ▸ End))
    ▸ unary unary.Delete (tree kind.TsTypeAssertion (member (ident (codes "o")) (codes "a") ▸ type' ▸ End)) ▸ End))
    ▸ End)
    (HostCall 7 shown.Undefined (shown.Bool true ∷ shown.Bool true ∷ shown.Num (js_number.Whole (pos 1)) ∷ shown.Text (codes "undefined") ∷ shown.Bool true ∷ [])
    ∷ []) (ending.Done [])
has_no_effect_of_types = does refl (simp meaning_node refl)

-- let a, o = {}; a = 1; a += 2; o.x = a; ({ b: o.y } = { b: 3 }); f(a, o.x, o.y); a++; f(a);
assigns_to_targets_with_types :
    Does 9 nulls []
    (tree (kind.VarDecl Let false) (list (tree (kind.VarDeclarator false) (binding (codes "a") ▸ absent ▸ End) ▸ tree (kind.VarDeclarator false) (binding (codes "o") ▸ object End
    ▸ End) ▸ End) ▸ End)
    ▸ statement (assign (ident (codes "a")) (whole 1))
    ▸ statement (tree (kind.AssignExpr assign.AddAssign) (tree kind.TsAsExpr (ident (codes "a") ▸ type' ▸ End) ▸ whole 2 ▸ End))
    ▸ statement (assign (tree kind.TsNonNullExpr (member (ident (codes "o")) (codes "x") ▸ End)) (ident (codes "a")))
    ▸ statement (parens (assign (tree (kind.ObjectPat false) (list (tree kind.KeyValuePatProp (key (codes "b") ▸ tree kind.TsAsExpr (member (ident (codes "o")) (codes "y") ▸ type'
    ▸ End) ▸ End) ▸ End) ▸ absent ▸ End)) (object (property (key (codes "b")) (whole 3) ▸ End))))
    ▸ statement (call (ident (codes "f")) (ident (codes "a") ▸ member (ident (codes "o")) (codes "x") ▸ member (ident (codes "o")) (codes "y") ▸ End))
    ▸ statement (tree (kind.UpdateExpr update.PlusPlus false) (tree kind.TsAsExpr (ident (codes "a") ▸ type' ▸ End) ▸ End))
    ▸ statement (call (ident (codes "f")) (ident (codes "a") ▸ End))
    ▸ End)
    (HostCall 7 shown.Undefined (shown.Num (js_number.Whole (pos 3)) ∷ shown.Num (js_number.Whole (pos 3)) ∷ shown.Num (js_number.Whole (pos 3)) ∷ [])
    ∷ HostCall 7 shown.Undefined (shown.Num (js_number.Whole (pos 4)) ∷ []) ∷ []) (ending.Done [])
assigns_to_targets_with_types = does refl (simp meaning_node refl)

-- let x = 1; f(x);
declares_types_without_effect :
    Does 9 nulls []
    (tree (kind.TsInterfaceDecl false) (ident (codes "I") ▸ End)
    ▸ tree (kind.TsTypeAliasDecl false) (ident (codes "T") ▸ End)
    ▸ tree (kind.TsEnumDecl true false) (ident (codes "E") ▸ list End ▸ End)
    ▸ tree (kind.ImportDecl true) (list (tree (kind.ImportNamedSpecifier false) (ident (codes "q") ▸ absent ▸ End) ▸ End) ▸ string (codes "m") ▸ absent ▸ End)
    ▸ tree (kind.TsModuleDecl false false) (ident (codes "N") ▸ tree kind.TsModuleBlock (list (tree (kind.TsInterfaceDecl false) (ident (codes "N") ▸ End) ▸ End) ▸ End) ▸ End)
    ▸ tree kind.ExportDecl (tree (kind.TsInterfaceDecl false) (ident (codes "J") ▸ End) ▸ End)
    ▸ declare_pattern Let (tree kind.BindingIdent (ident (codes "x") ▸ tree kind.TsTypeAnn (type' ▸ End) ▸ End)) (whole 1)
    ▸ statement (call (ident (codes "f")) (ident (codes "x") ▸ End))
    ▸ End)
    (HostCall 7 shown.Undefined (shown.Num (js_number.Whole (pos 1)) ∷ []) ∷ []) (ending.Done [])
declares_types_without_effect = does refl (simp meaning_node refl)

-- f(typeof x, typeof h, typeof A);
declares_nothing_by_ambient_declarations :
    Does 9 nulls []
    (tree (kind.VarDecl Let true) (list (tree (kind.VarDeclarator false) (tree kind.BindingIdent (ident (codes "x") ▸ absent ▸ End) ▸ absent ▸ End) ▸ End) ▸ End)
    ▸ tree (kind.FnDecl true) (ident (codes "h") ▸ tree (kind.Function false false) (list End ▸ absent ▸ absent ▸ absent ▸ End) ▸ End)
    ▸ tree (kind.ClassDecl true) (ident (codes "A") ▸ class' absent End ▸ End)
    ▸ statement (call (ident (codes "f")) (unary unary.TypeOf (ident (codes "x")) ▸ unary unary.TypeOf (ident (codes "h")) ▸ unary unary.TypeOf (ident (codes "A")) ▸ End))
    ▸ End)
    (HostCall 7 shown.Undefined (shown.Text (codes "undefined") ∷ shown.Text (codes "undefined") ∷ shown.Text (codes "undefined") ∷ []) ∷ []) (ending.Done [])
declares_nothing_by_ambient_declarations = does refl (simp meaning_node refl)

-- function h(a) { f(this, a); } h.call(1, 2);
has_no_parameter_this :
    Does 9 nulls []
    (tree (kind.FnDecl false) (ident (codes "h") ▸ tree (kind.Function false false) (list End ▸ absent ▸ absent ▸ absent ▸ End) ▸ End)
    ▸ declare_function (codes "h") (parameter (binding (codes "this")) ▸ parameter (tree kind.BindingIdent (ident (codes "a") ▸ tree kind.TsTypeAnn (type' ▸ End) ▸ End))
    ▸ End) (statement (call (ident (codes "f")) (this' ▸ ident (codes "a") ▸ End)) ▸ End)
    ▸ statement (call (member (ident (codes "h")) (codes "call")) (whole 1 ▸ whole 2 ▸ End))
    ▸ End)
    (HostCall 7 shown.Undefined (shown.Num (js_number.Whole (pos 1)) ∷ shown.Num (js_number.Whole (pos 2)) ∷ []) ∷ []) (ending.Done [])
has_no_parameter_this = does refl (simp meaning_node refl)

-- class A { constructor() { f("x" in this); } } new A();
has_no_members_without_body :
    Does 9 nulls []
    (declare_class (codes "A") absent (tree (kind.TsIndexSignature false false) End
    ▸ tree (kind.ClassProp (record (modifiers false) { is_abstract = true }) false false false) (key (codes "x") ▸ absent ▸ type' ▸ End)
    ▸ tree (kind.ClassProp (modifiers false) false true false) (key (codes "x") ▸ absent ▸ type' ▸ End) ▸ tree (kind.ClassMethod method.Method (modifiers false)) (key (codes "x")
    ▸ tree (kind.Function false false) (list End ▸ absent ▸ absent ▸ absent ▸ End) ▸ End) ▸ tree (kind.Constructor None false) (key (codes "constructor") ▸ list End ▸ absent
    ▸ End) ▸ constructor' End (statement (call (ident (codes "f")) (binary binary.In (string (codes "x")) this' ▸ End)) ▸ End) ▸ End)
    ▸ statement (new' (ident (codes "A")) End)
    ▸ End)
    (HostCall 7 shown.Undefined (shown.Bool false ∷ []) ∷ []) (ending.Done [])
has_no_members_without_body = does refl (simp meaning_node refl)

-- (function () { f(h(), typeof c); var c = 1; let b = 2; f(b, c); if (b) return; f(3); function h() { return this; } })(); f(4);
calls_blocks_of_namespaces :
    Does 9 nulls []
    (tree kind.TsModuleBlock (list (statement (call (ident (codes "f")) (call (ident (codes "h")) End ▸ unary unary.TypeOf (ident (codes "c")) ▸ End))
    ▸ declare Var (codes "c") (whole 1) ▸ declare Let (codes "b") (whole 2) ▸ statement (call (ident (codes "f")) (ident (codes "b") ▸ ident (codes "c") ▸ End))
    ▸ tree kind.IfStmt (ident (codes "b") ▸ returns absent ▸ absent ▸ End) ▸ statement (call (ident (codes "f")) (whole 3 ▸ End))
    ▸ declare_function (codes "h") End (returns this' ▸ End) ▸ End) ▸ End)
    ▸ statement (call (ident (codes "f")) (whole 4 ▸ End))
    ▸ End)
    (HostCall 7 shown.Undefined (shown.Undefined ∷ shown.Text (codes "undefined") ∷ []) ∷ HostCall 7 shown.Undefined (shown.Num (js_number.Whole (pos 2))
    ∷ shown.Num (js_number.Whole (pos 1)) ∷ []) ∷ HostCall 7 shown.Undefined (shown.Num (js_number.Whole (pos 4)) ∷ []) ∷ []) (ending.Done [])
calls_blocks_of_namespaces = does refl (simp meaning_node refl)

-- (function () { f(1); })();
spends_a_turn_at_a_block :
    Does 0 nulls []
    (tree kind.TsModuleBlock (list (statement (call (ident (codes "f")) (whole 1 ▸ End)) ▸ End) ▸ End)
    ▸ statement (call (ident (codes "f")) (whole 2 ▸ End))
    ▸ End)
    [] (ending.TurnsSpent)
spends_a_turn_at_a_block = does refl (simp meaning_node refl)

-- f(1);
has_no_effect_of_blocks_of_types :
    Does 0 nulls []
    (tree kind.TsModuleBlock (list (tree (kind.TsInterfaceDecl false) (ident (codes "I") ▸ End) ▸ End) ▸ End)
    ▸ statement (call (ident (codes "f")) (whole 1 ▸ End))
    ▸ End)
    (HostCall 7 shown.Undefined (shown.Num (js_number.Whole (pos 1)) ∷ []) ∷ []) (ending.Done [])
has_no_effect_of_blocks_of_types = does refl (simp meaning_node refl)
