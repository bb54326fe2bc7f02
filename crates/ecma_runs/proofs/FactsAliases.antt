-- Aliases of variables and members: each fact is a small module and what node observes of it, by computing. Written by compare/facts.mjs.
use Rattle.std.proofs.Common.{refl, pos, [], ◌∷◌, false, codes}
use Rattle.ecma_number.specs.declared.js_number.JsNumber.TheVariants as js_number
use Rattle.ecma_kind.specs.declared.kind.Kind.TheVariants as kind
use Rattle.ecma_kind.specs.declared.operators.VarDeclKind.TheVariants.{Let}
use Rattle.ecma_runs.specs.declared.observation.Event.TheVariants.{HostGet, HostSet, HostCall}
use Rattle.ecma_runs.specs.declared.observation.Ending.TheVariants as ending
use Rattle.ecma_runs.specs.declared.script.Answer.TheVariants.{Return}
use Rattle.ecma_runs.specs.declared.shown.ErrorKind.TheVariants as error
use Rattle.ecma_runs.specs.declared.shown.Shown.TheVariants as shown
use Rattle.ecma_runs.proofs.Trees.{End, ◌▸◌, tree, absent, ident, key, binding, whole, null}
use Rattle.ecma_runs.proofs.Trees.{member, call, assign, object, property, statement, block, declare, declare_function, meaning_node}
use Rattle.ecma_runs.proofs.Scripts.{Does, does, nulls}

-- let a = 1; const q = a; a = 2; f(q);
aliases_a_variable :
    Does 9 nulls []
    (declare Let (codes "a") (whole 1)
    ▸ tree (kind.TsImportEqualsDecl false false) (ident (codes "q") ▸ ident (codes "a") ▸ End)
    ▸ statement (assign (ident (codes "a")) (whole 2))
    ▸ statement (call (ident (codes "f")) (ident (codes "q") ▸ End))
    ▸ End)
    (HostCall 7 shown.Undefined (shown.Num (js_number.Whole (pos 1)) ∷ []) ∷ []) (ending.Done [])
aliases_a_variable = does refl (simp meaning_node refl)

-- const q = f.x.y; f(q); g(q);
aliases_a_member_at_its_item :
    Does 9 (Return (shown.Host 8) ∷ Return (shown.Num (js_number.Whole (pos 5))) ∷ Return shown.Null ∷ Return shown.Null ∷ []) []
    (tree (kind.TsImportEqualsDecl false false) (ident (codes "q") ▸ tree kind.TsQualifiedName (tree kind.TsQualifiedName (ident (codes "f") ▸ key (codes "x") ▸ End)
    ▸ key (codes "y") ▸ End) ▸ End)
    ▸ statement (call (ident (codes "f")) (ident (codes "q") ▸ End))
    ▸ statement (call (ident (codes "g")) (ident (codes "q") ▸ End))
    ▸ End)
    (HostGet 7 (codes "x") ∷ HostGet 8 (codes "y") ∷ HostCall 7 shown.Undefined (shown.Num (js_number.Whole (pos 5)) ∷ [])
    ∷ HostCall 8 shown.Undefined (shown.Num (js_number.Whole (pos 5)) ∷ []) ∷ []) (ending.Done [])
aliases_a_member_at_its_item = does refl (simp meaning_node refl)

-- f(1); q; const q = f;
is_empty_before_its_item :
    Does 9 nulls []
    (statement (call (ident (codes "f")) (whole 1 ▸ End))
    ▸ statement (ident (codes "q"))
    ▸ tree (kind.TsImportEqualsDecl false false) (ident (codes "q") ▸ ident (codes "f") ▸ End)
    ▸ End)
    (HostCall 7 shown.Undefined (shown.Num (js_number.Whole (pos 1)) ∷ []) ∷ []) (ending.Thrown (shown.Error error.Reference))
is_empty_before_its_item = does refl (simp meaning_node refl)

-- const q = f; try { q = 1; } catch (e) { f(e); } q.x = 2;
writes_no_alias :
    Does 9 nulls []
    (tree (kind.TsImportEqualsDecl false false) (ident (codes "q") ▸ ident (codes "f") ▸ End)
    ▸ tree kind.TryStmt (block (statement (assign (ident (codes "q")) (whole 1)) ▸ End) ▸ tree kind.CatchClause (binding (codes "e")
    ▸ block (statement (call (ident (codes "f")) (ident (codes "e") ▸ End)) ▸ End) ▸ End) ▸ absent ▸ End)
    ▸ statement (assign (member (ident (codes "q")) (codes "x")) (whole 2))
    ▸ End)
    (HostCall 7 shown.Undefined (shown.Error error.Kind ∷ []) ∷ HostSet 7 (codes "x") (shown.Num (js_number.Whole (pos 2))) ∷ []) (ending.Done [])
writes_no_alias = does refl (simp meaning_node refl)

-- let a = null; f(1); const q = a.b;
aliases_no_member_of_null :
    Does 9 nulls []
    (declare Let (codes "a") null
    ▸ statement (call (ident (codes "f")) (whole 1 ▸ End))
    ▸ tree (kind.TsImportEqualsDecl false false) (ident (codes "q") ▸ tree kind.TsQualifiedName (ident (codes "a") ▸ key (codes "b") ▸ End) ▸ End)
    ▸ End)
    (HostCall 7 shown.Undefined (shown.Num (js_number.Whole (pos 1)) ∷ []) ∷ []) (ending.Thrown (shown.Error error.Kind))
aliases_no_member_of_null = does refl (simp meaning_node refl)

-- const q = f; { const q = g; h(); q(1); } function h() { const a = q; a(2); }
aliases_in_blocks_and_functions :
    Does 9 nulls []
    (tree (kind.TsImportEqualsDecl false false) (ident (codes "q") ▸ ident (codes "f") ▸ End)
    ▸ block (tree (kind.TsImportEqualsDecl false false) (ident (codes "q") ▸ ident (codes "g") ▸ End) ▸ statement (call (ident (codes "h")) End)
    ▸ statement (call (ident (codes "q")) (whole 1 ▸ End)) ▸ End)
    ▸ declare_function (codes "h") End (tree (kind.TsImportEqualsDecl false false) (ident (codes "a") ▸ ident (codes "q") ▸ End) ▸ statement (call (ident (codes "a")) (whole 2
    ▸ End)) ▸ End)
    ▸ End)
    (HostCall 7 shown.Undefined (shown.Num (js_number.Whole (pos 2)) ∷ []) ∷ HostCall 8 shown.Undefined (shown.Num (js_number.Whole (pos 1)) ∷ []) ∷ []) (ending.Done [])
aliases_in_blocks_and_functions = does refl (simp meaning_node refl)

-- let a = { b: 1 }; const q = a.b; a.b = 2; f(q); const c = q; f(c);
names_what_it_aliases_before_it :
    Does 9 nulls []
    (declare Let (codes "a") (object (property (key (codes "b")) (whole 1) ▸ End))
    ▸ tree (kind.TsImportEqualsDecl false false) (ident (codes "q") ▸ tree kind.TsQualifiedName (ident (codes "a") ▸ key (codes "b") ▸ End) ▸ End)
    ▸ statement (assign (member (ident (codes "a")) (codes "b")) (whole 2))
    ▸ statement (call (ident (codes "f")) (ident (codes "q") ▸ End))
    ▸ tree (kind.TsImportEqualsDecl false false) (ident (codes "c") ▸ ident (codes "q") ▸ End)
    ▸ statement (call (ident (codes "f")) (ident (codes "c") ▸ End))
    ▸ End)
    (HostCall 7 shown.Undefined (shown.Num (js_number.Whole (pos 1)) ∷ []) ∷ HostCall 7 shown.Undefined (shown.Num (js_number.Whole (pos 1)) ∷ []) ∷ []) (ending.Done [])
names_what_it_aliases_before_it = does refl (simp meaning_node refl)
