-- Import and export assignments: each fact is a small module and what node observes of it, by computing. Written by compare/facts.mjs.
use Rattle.std.proofs.Common.{refl, pos, [], ◌∷◌, true, false, codes}
use Rattle.ecma_number.specs.declared.js_number.JsNumber.TheVariants as js_number
use Rattle.ecma_kind.specs.declared.kind.Kind.TheVariants as kind
use Rattle.ecma_kind.specs.declared.operators.BinaryOp.TheVariants as binary
use Rattle.ecma_kind.specs.declared.operators.UnaryOp.TheVariants as unary
use Rattle.ecma_kind.specs.declared.operators.VarDeclKind.TheVariants.{Let}
use Rattle.ecma_runs.specs.declared.observation.Event.TheVariants.{HostGet, HostSet, HostCall}
use Rattle.ecma_runs.specs.declared.observation.Ending.TheVariants as ending
use Rattle.ecma_runs.specs.declared.script.Action.TheVariants as action
use Rattle.ecma_runs.specs.declared.script.Answer.TheVariants.{Return, Throw}
use Rattle.ecma_runs.specs.declared.shown.ErrorKind.TheVariants as error
use Rattle.ecma_runs.specs.declared.shown.Shown.TheVariants as shown
use Rattle.ecma_runs.proofs.Trees.{End, ◌▸◌, tree, absent, ident, key, binding, whole, string, this', member, call, assign}
use Rattle.ecma_runs.proofs.Trees.{unary, binary, object, property, statement, block, returns, declare, parameter, function, declare_function, function_expression, meaning_node}
use Rattle.ecma_runs.proofs.ExportTrees.{exports_node}
use Rattle.ecma_runs.proofs.Scripts.{Does, DoesInCommonJs, does, nulls}

-- const a = require("m"); f(a); const b = require("n"); g(b);
requires_modules_in_order :
    DoesInCommonJs 9 (Return (shown.Host 13) ∷ Return shown.Null ∷ Return (shown.Num (js_number.Whole (pos 5))) ∷ Return shown.Null ∷ []) []
    (tree (kind.TsImportEqualsDecl false false) (ident (codes "a") ▸ tree kind.TsExternalModuleRef (string (codes "m") ▸ End) ▸ End)
    ▸ statement (call (ident (codes "f")) (ident (codes "a") ▸ End))
    ▸ tree (kind.TsImportEqualsDecl false false) (ident (codes "b") ▸ tree kind.TsExternalModuleRef (string (codes "n") ▸ End) ▸ End)
    ▸ statement (call (ident (codes "g")) (ident (codes "b") ▸ End))
    ▸ End)
    (HostCall 10 shown.Undefined (shown.Text (codes "m") ∷ []) ∷ HostCall 7 shown.Undefined (shown.Host 13 ∷ []) ∷ HostCall 10 shown.Undefined (shown.Text (codes "n") ∷ [])
    ∷ HostCall 8 shown.Undefined (shown.Num (js_number.Whole (pos 5)) ∷ []) ∷ []) (ending.Done [])
requires_modules_in_order = does refl (simp meaning_node refl)

-- f(1); q; const q = require("m");
is_empty_before_its_module_is_required :
    DoesInCommonJs 9 nulls []
    (statement (call (ident (codes "f")) (whole 1 ▸ End))
    ▸ statement (ident (codes "q"))
    ▸ tree (kind.TsImportEqualsDecl false false) (ident (codes "q") ▸ tree kind.TsExternalModuleRef (string (codes "m") ▸ End) ▸ End)
    ▸ End)
    (HostCall 7 shown.Undefined (shown.Num (js_number.Whole (pos 1)) ∷ []) ∷ []) (ending.Thrown (shown.Error error.Reference))
is_empty_before_its_module_is_required = does refl (simp meaning_node refl)

-- const q = require("m"); try { q = 1; } catch (e) { f(e); } q.x = 2;
writes_no_required_module :
    DoesInCommonJs 9 (Return (shown.Host 13) ∷ Return shown.Null ∷ Return shown.Null ∷ []) []
    (tree (kind.TsImportEqualsDecl false false) (ident (codes "q") ▸ tree kind.TsExternalModuleRef (string (codes "m") ▸ End) ▸ End)
    ▸ tree kind.TryStmt (block (statement (assign (ident (codes "q")) (whole 1)) ▸ End) ▸ tree kind.CatchClause (binding (codes "e")
    ▸ block (statement (call (ident (codes "f")) (ident (codes "e") ▸ End)) ▸ End) ▸ End) ▸ absent ▸ End)
    ▸ statement (assign (member (ident (codes "q")) (codes "x")) (whole 2))
    ▸ End)
    (HostCall 10 shown.Undefined (shown.Text (codes "m") ∷ []) ∷ HostCall 7 shown.Undefined (shown.Error error.Kind ∷ [])
    ∷ HostSet 13 (codes "x") (shown.Num (js_number.Whole (pos 2))) ∷ []) (ending.Done [])
writes_no_required_module = does refl (simp meaning_node refl)

-- f(1); const q = require("m"); f(2);
throws_what_requiring_throws :
    DoesInCommonJs 9 (Return shown.Null ∷ Throw (shown.Num (js_number.Whole (pos 3))) ∷ []) []
    (statement (call (ident (codes "f")) (whole 1 ▸ End))
    ▸ tree (kind.TsImportEqualsDecl false false) (ident (codes "q") ▸ tree kind.TsExternalModuleRef (string (codes "m") ▸ End) ▸ End)
    ▸ statement (call (ident (codes "f")) (whole 2 ▸ End))
    ▸ End)
    (HostCall 7 shown.Undefined (shown.Num (js_number.Whole (pos 1)) ∷ []) ∷ HostCall 10 shown.Undefined (shown.Text (codes "m") ∷ [])
    ∷ []) (ending.Thrown (shown.Num (js_number.Whole (pos 3))))
throws_what_requiring_throws = does refl (simp meaning_node refl)

-- f(1); const q = require("m"); f(2);
requires_nothing_without_a_function_for_it :
    Does 9 nulls []
    (statement (call (ident (codes "f")) (whole 1 ▸ End))
    ▸ tree (kind.TsImportEqualsDecl false false) (ident (codes "q") ▸ tree kind.TsExternalModuleRef (string (codes "m") ▸ End) ▸ End)
    ▸ statement (call (ident (codes "f")) (whole 2 ▸ End))
    ▸ End)
    (HostCall 7 shown.Undefined (shown.Num (js_number.Whole (pos 1)) ∷ []) ∷ []) (ending.Thrown (shown.Error error.Reference))
requires_nothing_without_a_function_for_it = does refl (simp meaning_node refl)

-- const q = require("m"); let b = g; f(q, b);
does_not_require_by_a_variable :
    DoesInCommonJs 9 nulls []
    (tree (kind.TsImportEqualsDecl false false) (ident (codes "q") ▸ tree kind.TsExternalModuleRef (string (codes "m") ▸ End) ▸ End)
    ▸ declare Let (codes "require") (ident (codes "g"))
    ▸ statement (call (ident (codes "f")) (ident (codes "q") ▸ ident (codes "require") ▸ End))
    ▸ End)
    (HostCall 10 shown.Undefined (shown.Text (codes "m") ∷ []) ∷ HostCall 7 shown.Undefined (shown.Null ∷ shown.Host 8 ∷ []) ∷ []) (ending.Done [])
does_not_require_by_a_variable = does refl (simp meaning_node refl)

-- function h(b) { const q = require("m"); f(q, b); } h(1);
does_not_require_by_a_variable_of_a_function :
    DoesInCommonJs 9 nulls []
    (declare_function (codes "h") (parameter (binding (codes "require")) ▸ End) (tree (kind.TsImportEqualsDecl false false) (ident (codes "q")
    ▸ tree kind.TsExternalModuleRef (string (codes "m") ▸ End) ▸ End) ▸ statement (call (ident (codes "f")) (ident (codes "q") ▸ ident (codes "require") ▸ End)) ▸ End)
    ▸ statement (call (ident (codes "h")) (whole 1 ▸ End))
    ▸ End)
    (HostCall 10 shown.Undefined (shown.Text (codes "m") ∷ []) ∷ HostCall 7 shown.Undefined (shown.Null ∷ shown.Num (js_number.Whole (pos 1)) ∷ []) ∷ []) (ending.Done [])
does_not_require_by_a_variable_of_a_function = does refl (simp meaning_node refl)

-- let a = { b: 1 }; export const q = a.b; a.b = 2; f(q);
exports_an_alias :
    DoesInCommonJs 9 nulls (action.ReadExport (codes "q") ∷ action.ReadExport (codes "a") ∷ [])
    (declare Let (codes "a") (object (property (key (codes "b")) (whole 1) ▸ End))
    ▸ tree (kind.TsImportEqualsDecl true false) (ident (codes "q") ▸ tree kind.TsQualifiedName (ident (codes "a") ▸ key (codes "b") ▸ End) ▸ End)
    ▸ statement (assign (member (ident (codes "a")) (codes "b")) (whole 2))
    ▸ statement (call (ident (codes "f")) (ident (codes "q") ▸ End))
    ▸ End)
    (HostCall 7 shown.Undefined (shown.Num (js_number.Whole (pos 1)) ∷ []) ∷ []) (ending.Done (Return (shown.Num (js_number.Whole (pos 1))) ∷ Return shown.Undefined ∷ []))
exports_an_alias = does refl (simp (meaning_node, exports_node) refl)

-- const a = require("m"); export const q = a.b; f(q);
exports_a_member_of_a_required_module :
    DoesInCommonJs 9 (Return (shown.Host 13) ∷ Return (shown.Num (js_number.Whole (pos 5))) ∷ Return shown.Null ∷ []) (action.ReadExport (codes "q") ∷ [])
    (tree (kind.TsImportEqualsDecl false false) (ident (codes "a") ▸ tree kind.TsExternalModuleRef (string (codes "m") ▸ End) ▸ End)
    ▸ tree (kind.TsImportEqualsDecl true false) (ident (codes "q") ▸ tree kind.TsQualifiedName (ident (codes "a") ▸ key (codes "b") ▸ End) ▸ End)
    ▸ statement (call (ident (codes "f")) (ident (codes "q") ▸ End))
    ▸ End)
    (HostCall 10 shown.Undefined (shown.Text (codes "m") ∷ []) ∷ HostGet 13 (codes "b") ∷ HostCall 7 shown.Undefined (shown.Num (js_number.Whole (pos 5)) ∷ [])
    ∷ []) (ending.Done (Return (shown.Num (js_number.Whole (pos 5))) ∷ []))
exports_a_member_of_a_required_module = does refl (simp (meaning_node, exports_node) refl)

-- f(1); q; export const q = f;
exports_no_alias_before_its_item :
    Does 9 nulls []
    (statement (call (ident (codes "f")) (whole 1 ▸ End))
    ▸ statement (ident (codes "q"))
    ▸ tree (kind.TsImportEqualsDecl true false) (ident (codes "q") ▸ ident (codes "f") ▸ End)
    ▸ End)
    (HostCall 7 shown.Undefined (shown.Num (js_number.Whole (pos 1)) ∷ []) ∷ []) (ending.Thrown (shown.Error error.Reference))
exports_no_alias_before_its_item = does refl (simp meaning_node refl)

-- f(1); const q = exports.q = require("m"); f(q);
sets_a_required_module_as_an_export :
    DoesInCommonJs 9 (Return shown.Null ∷ Return (shown.Num (js_number.Whole (pos 5))) ∷ Return shown.Null ∷ Return shown.Null ∷ []) (action.ReadExport (codes "q") ∷ [])
    (statement (call (ident (codes "f")) (whole 1 ▸ End))
    ▸ tree (kind.TsImportEqualsDecl true false) (ident (codes "q") ▸ tree kind.TsExternalModuleRef (string (codes "m") ▸ End) ▸ End)
    ▸ statement (call (ident (codes "f")) (ident (codes "q") ▸ End))
    ▸ End)
    (HostCall 7 shown.Undefined (shown.Num (js_number.Whole (pos 1)) ∷ []) ∷ HostCall 10 shown.Undefined (shown.Text (codes "m") ∷ [])
    ∷ HostSet 11 (codes "q") (shown.Num (js_number.Whole (pos 5))) ∷ HostCall 7 shown.Undefined (shown.Num (js_number.Whole (pos 5)) ∷ [])
    ∷ []) (ending.Done (Return shown.Undefined ∷ []))
sets_a_required_module_as_an_export = does refl (simp (meaning_node, exports_node) refl)

-- const q = exports.q = require("m"); f(q);
sets_no_export_where_requiring_throws :
    DoesInCommonJs 9 (Throw (shown.Num (js_number.Whole (pos 3))) ∷ []) []
    (tree (kind.TsImportEqualsDecl true false) (ident (codes "q") ▸ tree kind.TsExternalModuleRef (string (codes "m") ▸ End) ▸ End)
    ▸ statement (call (ident (codes "f")) (ident (codes "q") ▸ End))
    ▸ End)
    (HostCall 10 shown.Undefined (shown.Text (codes "m") ∷ []) ∷ []) (ending.Thrown (shown.Num (js_number.Whole (pos 3))))
sets_no_export_where_requiring_throws = does refl (simp meaning_node refl)

-- f(1); const q = exports.q = require("m");
sets_no_export_without_exports :
    Does 9 nulls []
    (statement (call (ident (codes "f")) (whole 1 ▸ End))
    ▸ tree (kind.TsImportEqualsDecl true false) (ident (codes "q") ▸ tree kind.TsExternalModuleRef (string (codes "m") ▸ End) ▸ End)
    ▸ End)
    (HostCall 7 shown.Undefined (shown.Num (js_number.Whole (pos 1)) ∷ []) ∷ []) (ending.Thrown (shown.Error error.Reference))
sets_no_export_without_exports = does refl (simp meaning_node refl)

-- let b = 1; const q = exports.q = require("m"); f(b, q);
sets_no_variable_as_an_export :
    DoesInCommonJs 9 nulls []
    (declare Let (codes "exports") (whole 1)
    ▸ tree (kind.TsImportEqualsDecl true false) (ident (codes "q") ▸ tree kind.TsExternalModuleRef (string (codes "m") ▸ End) ▸ End)
    ▸ statement (call (ident (codes "f")) (ident (codes "exports") ▸ ident (codes "q") ▸ End))
    ▸ End)
    (HostCall 10 shown.Undefined (shown.Text (codes "m") ∷ []) ∷ HostSet 11 (codes "q") shown.Null ∷ HostCall 7 shown.Undefined (shown.Num (js_number.Whole (pos 1)) ∷ shown.Null
    ∷ []) ∷ []) (ending.Done [])
sets_no_variable_as_an_export = does refl (simp meaning_node refl)

-- f(1); f(3); module.exports = f(2);
sets_what_is_exported_last :
    DoesInCommonJs 9 nulls []
    (statement (call (ident (codes "f")) (whole 1 ▸ End))
    ▸ tree kind.TsExportAssignment (call (ident (codes "f")) (whole 2 ▸ End) ▸ End)
    ▸ statement (call (ident (codes "f")) (whole 3 ▸ End))
    ▸ End)
    (HostCall 7 shown.Undefined (shown.Num (js_number.Whole (pos 1)) ∷ []) ∷ HostCall 7 shown.Undefined (shown.Num (js_number.Whole (pos 3)) ∷ [])
    ∷ HostCall 7 shown.Undefined (shown.Num (js_number.Whole (pos 2)) ∷ []) ∷ HostSet 12 (codes "exports") shown.Null ∷ []) (ending.Done [])
sets_what_is_exported_last = does refl (simp meaning_node refl)

-- f(1); throw 3;
sets_nothing_where_an_item_throws :
    DoesInCommonJs 9 nulls []
    (tree kind.TsExportAssignment (call (ident (codes "f")) (whole 2 ▸ End) ▸ End)
    ▸ statement (call (ident (codes "f")) (whole 1 ▸ End))
    ▸ tree kind.ThrowStmt (whole 3 ▸ End)
    ▸ End)
    (HostCall 7 shown.Undefined (shown.Num (js_number.Whole (pos 1)) ∷ []) ∷ []) (ending.Thrown (shown.Num (js_number.Whole (pos 3))))
sets_nothing_where_an_item_throws = does refl (simp meaning_node refl)

-- f(1); module.exports = f(2);
sets_nothing_where_what_is_exported_throws :
    DoesInCommonJs 9 (Return shown.Null ∷ Throw (shown.Num (js_number.Whole (pos 3))) ∷ []) []
    (tree kind.TsExportAssignment (call (ident (codes "f")) (whole 2 ▸ End) ▸ End)
    ▸ statement (call (ident (codes "f")) (whole 1 ▸ End))
    ▸ End)
    (HostCall 7 shown.Undefined (shown.Num (js_number.Whole (pos 1)) ∷ []) ∷ HostCall 7 shown.Undefined (shown.Num (js_number.Whole (pos 2)) ∷ [])
    ∷ []) (ending.Thrown (shown.Num (js_number.Whole (pos 3))))
sets_nothing_where_what_is_exported_throws = does refl (simp meaning_node refl)

-- f(1); module.exports = f(2);
reads_the_module_before_what_is_exported :
    Does 9 nulls []
    (tree kind.TsExportAssignment (call (ident (codes "f")) (whole 2 ▸ End) ▸ End)
    ▸ statement (call (ident (codes "f")) (whole 1 ▸ End))
    ▸ End)
    (HostCall 7 shown.Undefined (shown.Num (js_number.Whole (pos 1)) ∷ []) ∷ []) (ending.Thrown (shown.Error error.Reference))
reads_the_module_before_what_is_exported = does refl (simp meaning_node refl)

-- let b = 1; f(b); module.exports = b;
sets_no_variable_of_the_name_module :
    DoesInCommonJs 9 nulls []
    (declare Let (codes "module") (whole 1)
    ▸ tree kind.TsExportAssignment (ident (codes "module") ▸ End)
    ▸ statement (call (ident (codes "f")) (ident (codes "module") ▸ End))
    ▸ End)
    (HostCall 7 shown.Undefined (shown.Num (js_number.Whole (pos 1)) ∷ []) ∷ HostSet 12 (codes "exports") (shown.Num (js_number.Whole (pos 1))) ∷ []) (ending.Done [])
sets_no_variable_of_the_name_module = does refl (simp meaning_node refl)

-- let b = 1; function h(a) { return f(a, b); } b = 2; module.exports = h;
exports_a_function_last :
    DoesInCommonJs 9 nulls (action.Call 0 shown.Undefined (shown.Num (js_number.Whole (pos 3)) ∷ []) ∷ action.ReadExport (codes "default") ∷ [])
    (tree kind.TsExportAssignment (ident (codes "h") ▸ End)
    ▸ declare Let (codes "b") (whole 1)
    ▸ declare_function (codes "h") (parameter (binding (codes "a")) ▸ End) (returns (call (ident (codes "f")) (ident (codes "a") ▸ ident (codes "b") ▸ End)) ▸ End)
    ▸ statement (assign (ident (codes "b")) (whole 2))
    ▸ End)
    (HostSet 12 (codes "exports") (shown.Handle 0) ∷ HostCall 7 shown.Undefined (shown.Num (js_number.Whole (pos 3)) ∷ shown.Num (js_number.Whole (pos 2)) ∷ [])
    ∷ []) (ending.Done (Return shown.Null ∷ Return shown.Undefined ∷ []))
exports_a_function_last = does refl (simp (meaning_node, exports_node) refl)

-- f(typeof h); module.exports = function h(a) { let b = h; f(a, b === h); };
exports_a_function_expression_last :
    DoesInCommonJs 9 nulls (action.Call 0 shown.Undefined (shown.Num (js_number.Whole (pos 3)) ∷ []) ∷ [])
    (tree kind.TsExportAssignment (function_expression (ident (codes "h")) (parameter (binding (codes "a")) ▸ End) (declare Let (codes "b") (ident (codes "h"))
    ▸ statement (call (ident (codes "f")) (ident (codes "a") ▸ binary binary.EqEqEq (ident (codes "b")) (ident (codes "h")) ▸ End)) ▸ End) ▸ End)
    ▸ statement (call (ident (codes "f")) (unary unary.TypeOf (ident (codes "c")) ▸ End))
    ▸ End)
    (HostCall 7 shown.Undefined (shown.Text (codes "undefined") ∷ []) ∷ HostSet 12 (codes "exports") (shown.Handle 0)
    ∷ HostCall 7 shown.Undefined (shown.Num (js_number.Whole (pos 3)) ∷ shown.Bool true ∷ []) ∷ []) (ending.Done (Return shown.Undefined ∷ []))
exports_a_function_expression_last = does refl (simp meaning_node refl)

-- const a = require("m"); f(a); module.exports = { a, b() { return this.a; } };
exports_an_object_last :
    DoesInCommonJs 9 (Return (shown.Host 13) ∷ Return shown.Null ∷ Return shown.Null ∷ []) (action.Get 0 (codes "a") ∷ action.Get 0 (codes "b") ∷ action.Call 1 (shown.Handle 0) []
    ∷ [])
    (tree (kind.TsImportEqualsDecl false false) (ident (codes "a") ▸ tree kind.TsExternalModuleRef (string (codes "m") ▸ End) ▸ End)
    ▸ tree kind.TsExportAssignment (object (ident (codes "a") ▸ tree kind.MethodProp (key (codes "b") ▸ function End (returns (member this' (codes "a")) ▸ End) ▸ End) ▸ End) ▸ End)
    ▸ statement (call (ident (codes "f")) (ident (codes "a") ▸ End))
    ▸ End)
    (HostCall 10 shown.Undefined (shown.Text (codes "m") ∷ []) ∷ HostCall 7 shown.Undefined (shown.Host 13 ∷ []) ∷ HostSet 12 (codes "exports") (shown.Handle 0)
    ∷ []) (ending.Done (Return (shown.Host 13) ∷ Return (shown.Handle 1) ∷ Return (shown.Host 13) ∷ []))
exports_an_object_last = does refl (simp meaning_node refl)
