-- More types, and what is ambient or without a body: each fact is a small module and what node observes of it, by computing. Written by compare/facts.mjs.
use Rattle.std.proofs.Common.{refl, pos, [], ◌∷◌, None, true, false, codes}
use Rattle.ecma_number.specs.declared.js_number.JsNumber.TheVariants as js_number
use Rattle.ecma_kind.specs.declared.kind.Kind.TheVariants as kind
use Rattle.ecma_kind.specs.declared.operators.BinaryOp.TheVariants as binary
use Rattle.ecma_kind.specs.declared.operators.MethodKind.TheVariants as method
use Rattle.ecma_kind.specs.declared.operators.UnaryOp.TheVariants as unary
use Rattle.ecma_kind.specs.declared.operators.VarDeclKind.TheVariants.{Var}
use Rattle.ecma_runs.specs.declared.observation.Event.TheVariants.{HostCall}
use Rattle.ecma_runs.specs.declared.observation.Ending.TheVariants as ending
use Rattle.ecma_runs.specs.declared.shown.ErrorKind.TheVariants as error
use Rattle.ecma_runs.specs.declared.shown.Shown.TheVariants as shown
use Rattle.ecma_runs.proofs.Trees.{End, ◌▸◌, tree, absent, list, ident, key, binding, whole, string, type', this', call}
use Rattle.ecma_runs.proofs.Trees.{new', unary, binary, statement, block, declare, parameter, function, declare_function, modifiers, constructor', declare_class, meaning_node}
use Rattle.ecma_runs.proofs.Scripts.{Does, does, nulls}

-- f(1);
has_no_effect_of_types_alone :
    Does 9 nulls []
    (tree (kind.TsImportEqualsDecl false true) (ident (codes "q") ▸ ident (codes "q") ▸ End)
    ▸ tree (kind.NamedExport true) (list (tree (kind.ExportNamedSpecifier false) (ident (codes "q") ▸ absent ▸ End) ▸ End) ▸ absent ▸ absent ▸ End)
    ▸ tree (kind.ExportAll true) (string (codes "m") ▸ absent ▸ End)
    ▸ tree kind.TsNamespaceExportDecl (ident (codes "q") ▸ End)
    ▸ tree kind.ExportDefaultDecl (tree kind.FnExpr (ident (codes "h") ▸ tree (kind.Function false false) (list End ▸ absent ▸ absent ▸ absent ▸ End) ▸ End) ▸ End)
    ▸ tree (kind.TsModuleDecl false false) (ident (codes "N") ▸ absent ▸ End)
    ▸ tree (kind.TsModuleDecl true false) (ident (codes "M") ▸ tree kind.TsModuleBlock (list (tree kind.ExprStmt (whole 1 ▸ End) ▸ End) ▸ End) ▸ End)
    ▸ tree (kind.TsModuleDecl false false) (ident (codes "P") ▸ tree (kind.TsNamespaceDecl false false) (ident (codes "P")
    ▸ tree kind.TsModuleBlock (list (tree (kind.TsInterfaceDecl false) (ident (codes "P") ▸ End) ▸ End) ▸ End) ▸ End) ▸ End)
    ▸ statement (call (ident (codes "f")) (whole 1 ▸ End))
    ▸ End)
    (HostCall 7 shown.Undefined (shown.Num (js_number.Whole (pos 1)) ∷ []) ∷ []) (ending.Done [])
has_no_effect_of_types_alone = does refl (simp meaning_node refl)

-- f(typeof h);
has_no_effect_of_such_items_in_namespaces :
    Does 0 nulls []
    (tree kind.TsModuleBlock (list (tree (kind.TsImportEqualsDecl false true) (ident (codes "q") ▸ ident (codes "q") ▸ End)
    ▸ tree (kind.NamedExport true) (list (tree (kind.ExportNamedSpecifier false) (ident (codes "q") ▸ absent ▸ End) ▸ End) ▸ absent ▸ absent ▸ End)
    ▸ tree (kind.ExportAll true) (string (codes "m") ▸ absent ▸ End) ▸ tree kind.TsNamespaceExportDecl (ident (codes "q") ▸ End)
    ▸ tree kind.ExportDefaultDecl (tree kind.FnExpr (ident (codes "h") ▸ tree (kind.Function false false) (list End ▸ absent ▸ absent ▸ absent ▸ End) ▸ End) ▸ End)
    ▸ tree (kind.TsModuleDecl false false) (ident (codes "N") ▸ absent ▸ End) ▸ tree (kind.TsModuleDecl false false) (ident (codes "P")
    ▸ tree (kind.TsNamespaceDecl false false) (ident (codes "P") ▸ tree kind.TsModuleBlock (list (tree (kind.TsInterfaceDecl false) (ident (codes "P") ▸ End) ▸ End) ▸ End) ▸ End)
    ▸ End) ▸ End) ▸ End)
    ▸ tree (kind.FnDecl false) (ident (codes "h") ▸ tree (kind.Function false false) (list End ▸ absent ▸ absent ▸ absent ▸ End) ▸ End)
    ▸ statement (call (ident (codes "f")) (unary unary.TypeOf (ident (codes "h")) ▸ End))
    ▸ End)
    (HostCall 7 shown.Undefined (shown.Text (codes "undefined") ∷ []) ∷ []) (ending.Done [])
has_no_effect_of_such_items_in_namespaces = does refl (simp meaning_node refl)

-- class A { constructor() { f(1); } } new A();
has_no_private_members_without_effect :
    Does 9 nulls []
    (declare_class (codes "A") absent (tree (kind.PrivateProp (modifiers false) false true false) (tree (kind.PrivateName (codes "x")) End ▸ absent ▸ type' ▸ End)
    ▸ tree (kind.PrivateProp (record (modifiers false) { is_abstract = true }) false false false) (tree (kind.PrivateName (codes "x")) End ▸ absent ▸ type' ▸ End)
    ▸ tree (kind.PrivateMethod method.Method (modifiers false)) (tree (kind.PrivateName (codes "x")) End ▸ tree (kind.Function false false) (list End ▸ absent ▸ absent ▸ absent
    ▸ End) ▸ End) ▸ tree (kind.PrivateMethod method.Method (record (modifiers false) { is_abstract = true })) (tree (kind.PrivateName (codes "x")) End ▸ function End End ▸ End)
    ▸ constructor' End (statement (call (ident (codes "f")) (whole 1 ▸ End)) ▸ End) ▸ End)
    ▸ statement (new' (ident (codes "A")) End)
    ▸ End)
    (HostCall 7 shown.Undefined (shown.Num (js_number.Whole (pos 1)) ∷ []) ∷ []) (ending.Done [])
has_no_private_members_without_effect = does refl (simp meaning_node refl)

-- class A { constructor() { f("x" in this); } } new A();
has_no_abstract_methods :
    Does 9 nulls []
    (declare_class (codes "A") absent (tree (kind.ClassMethod method.Method (record (modifiers false) { is_abstract = true })) (key (codes "x") ▸ function End End ▸ End)
    ▸ constructor' End (statement (call (ident (codes "f")) (binary binary.In (string (codes "x")) this' ▸ End)) ▸ End) ▸ End)
    ▸ statement (new' (ident (codes "A")) End)
    ▸ End)
    (HostCall 7 shown.Undefined (shown.Bool false ∷ []) ∷ []) (ending.Done [])
has_no_abstract_methods = does refl (simp meaning_node refl)

-- class A { constructor(a = x, x) {} } new A();
reads_no_later_parameter_property :
    Does 9 nulls []
    (declare_class (codes "A") absent (tree (kind.Constructor None false) (key (codes "constructor") ▸ list (tree kind.Param (tree kind.AssignPat (binding (codes "a")
    ▸ ident (codes "x") ▸ End) ▸ End) ▸ tree (kind.TsParamProp None false false) (binding (codes "x") ▸ End) ▸ End) ▸ block End ▸ End) ▸ End)
    ▸ statement (new' (ident (codes "A")) End)
    ▸ End)
    [] (ending.Thrown (shown.Error error.Reference))
reads_no_later_parameter_property = does refl (simp meaning_node refl)

-- (function () { f(this); })(); f(1);
runs_blocks_with_types_in_them :
    Does 9 nulls []
    (tree kind.TsModuleBlock (list (tree (kind.TsInterfaceDecl false) (ident (codes "I") ▸ End) ▸ statement (call (ident (codes "f")) (this' ▸ End)) ▸ End) ▸ End)
    ▸ statement (call (ident (codes "f")) (whole 1 ▸ End))
    ▸ End)
    (HostCall 7 shown.Undefined (shown.Undefined ∷ []) ∷ HostCall 7 shown.Undefined (shown.Num (js_number.Whole (pos 1)) ∷ []) ∷ []) (ending.Done [])
runs_blocks_with_types_in_them = does refl (simp meaning_node refl)

-- function h(a) { var a; f(a); } h(1);
has_plain_parameters_behind_this :
    Does 9 nulls []
    (declare_function (codes "h") (parameter (binding (codes "this")) ▸ parameter (binding (codes "a")) ▸ End) (declare Var (codes "a") absent
    ▸ statement (call (ident (codes "f")) (ident (codes "a") ▸ End)) ▸ End)
    ▸ statement (call (ident (codes "h")) (whole 1 ▸ End))
    ▸ End)
    (HostCall 7 shown.Undefined (shown.Num (js_number.Whole (pos 1)) ∷ []) ∷ []) (ending.Done [])
has_plain_parameters_behind_this = does refl (simp meaning_node refl)
