-- Objects, members and arrays: each fact is a small module and what node observes of it, by computing. Written by compare/facts.mjs.
use Rattle.std.proofs.Common.{refl, pos, [], ◌∷◌, true, false, codes}
use Rattle.ecma_number.specs.declared.js_number.JsNumber.TheVariants as js_number
use Rattle.ecma_kind.specs.declared.kind.Kind.TheVariants as kind
use Rattle.ecma_kind.specs.declared.operators.BinaryOp.TheVariants as binary
use Rattle.ecma_kind.specs.declared.operators.MethodKind.TheVariants as method
use Rattle.ecma_kind.specs.declared.operators.UnaryOp.TheVariants as unary
use Rattle.ecma_kind.specs.declared.operators.VarDeclKind.TheVariants.{Var, Let}
use Rattle.ecma_runs.specs.declared.observation.Event.TheVariants.{HostGet, HostSet, HostCall}
use Rattle.ecma_runs.specs.declared.observation.Ending.TheVariants as ending
use Rattle.ecma_runs.specs.declared.script.Action.TheVariants as action
use Rattle.ecma_runs.specs.declared.script.Answer.TheVariants.{Return}
use Rattle.ecma_runs.specs.declared.shown.ErrorKind.TheVariants as error
use Rattle.ecma_runs.specs.declared.shown.Shown.TheVariants as shown
use Rattle.ecma_runs.proofs.Trees.{End, ◌▸◌, tree, absent, list, ident, key, computed, binding, whole, string, null, this', member, call, new'}
use Rattle.ecma_runs.proofs.Trees.{assign, unary, binary, parens, array, object, property, statement}
use Rattle.ecma_runs.proofs.Trees.{block, returns, declare_pattern, declare, function, declare_function, class_method, declare_class, meaning_node}
use Rattle.ecma_runs.proofs.Scripts.{Does, does, nulls}
use Rattle.std.specs.Fmt.{digits}

-- let b = 2; let o = { a: 1, b, ["c" + 1]: 3, 4: 5, "d e": 6, a: 7 }; f(o.a, o.b, o.c1, o[4], o["d e"], o.x);
has_properties :
    Does 9 nulls []
    (declare Let (codes "b") (whole 2)
    ▸ declare Let (codes "o") (object (property (key (codes "a")) (whole 1) ▸ ident (codes "b") ▸ property (computed (binary binary.Add (string (codes "c")) (whole 1))) (whole 3)
    ▸ property (whole 4) (whole 5) ▸ property (string (codes "d e")) (whole 6) ▸ property (key (codes "a")) (whole 7) ▸ End))
    ▸ statement (call (ident (codes "f")) (member (ident (codes "o")) (codes "a") ▸ member (ident (codes "o")) (codes "b") ▸ member (ident (codes "o")) (codes "c1")
    ▸ tree kind.MemberExpr (ident (codes "o") ▸ computed (whole 4) ▸ End) ▸ tree kind.MemberExpr (ident (codes "o") ▸ computed (string (codes "d e")) ▸ End)
    ▸ member (ident (codes "o")) (codes "x") ▸ End))
    ▸ End)
    (HostCall 7 shown.Undefined (shown.Num (js_number.Whole (pos 7)) ∷ shown.Num (js_number.Whole (pos 2)) ∷ shown.Num (js_number.Whole (pos 3))
    ∷ shown.Num (js_number.Whole (pos 5)) ∷ shown.Num (js_number.Whole (pos 6)) ∷ shown.Undefined ∷ []) ∷ []) (ending.Done [])
unfolding digits
has_properties = does refl (simp meaning_node refl)

-- let o = { get a() { return this.b; }, b: 6, set a(v) { this.b = v; } }; f(o.a); o.a = 7; f(o.b);
has_accessors :
    Does 9 nulls []
    (declare Let (codes "o") (object (tree kind.GetterProp (key (codes "a") ▸ absent ▸ block (returns (member this' (codes "b")) ▸ End) ▸ End)
    ▸ property (key (codes "b")) (whole 6) ▸ tree kind.SetterProp (key (codes "a") ▸ absent ▸ binding (codes "v")
    ▸ block (statement (assign (member this' (codes "b")) (ident (codes "v"))) ▸ End) ▸ End) ▸ End))
    ▸ statement (call (ident (codes "f")) (member (ident (codes "o")) (codes "a") ▸ End))
    ▸ statement (assign (member (ident (codes "o")) (codes "a")) (whole 7))
    ▸ statement (call (ident (codes "f")) (member (ident (codes "o")) (codes "b") ▸ End))
    ▸ End)
    (HostCall 7 shown.Undefined (shown.Num (js_number.Whole (pos 6)) ∷ []) ∷ HostCall 7 shown.Undefined (shown.Num (js_number.Whole (pos 7)) ∷ []) ∷ []) (ending.Done [])
has_accessors = does refl (simp meaning_node refl)

-- let o = { get a() { return 1; } }; o.a = 2;
sets_nothing_over_a_getter :
    Does 9 nulls []
    (declare Let (codes "o") (object (tree kind.GetterProp (key (codes "a") ▸ absent ▸ block (returns (whole 1) ▸ End) ▸ End) ▸ End))
    ▸ statement (assign (member (ident (codes "o")) (codes "a")) (whole 2))
    ▸ End)
    [] (ending.Thrown (shown.Error error.Kind))
sets_nothing_over_a_getter = does refl (simp meaning_node refl)

-- f(null[f(1)]);
has_no_members_of_null :
    Does 9 nulls []
    (statement (call (ident (codes "f")) (tree kind.MemberExpr (null ▸ computed (call (ident (codes "f")) (whole 1 ▸ End)) ▸ End) ▸ End))
    ▸ End)
    (HostCall 7 shown.Undefined (shown.Num (js_number.Whole (pos 1)) ∷ []) ∷ []) (ending.Thrown (shown.Error error.Kind))
has_no_members_of_null = does refl (simp meaning_node refl)

-- let o = { a: 1 }; f(delete o.a, o.a, delete o.x, delete (o?.y));
deletes_members :
    Does 9 nulls []
    (declare Let (codes "o") (object (property (key (codes "a")) (whole 1) ▸ End))
    ▸ statement (call (ident (codes "f")) (unary unary.Delete (member (ident (codes "o")) (codes "a")) ▸ member (ident (codes "o")) (codes "a")
    ▸ unary unary.Delete (member (ident (codes "o")) (codes "x")) ▸ unary unary.Delete (parens (tree (kind.OptChainExpr true) (member (ident (codes "o")) (codes "y") ▸ End)))
    ▸ End))
    ▸ End)
    (HostCall 7 shown.Undefined (shown.Bool true ∷ shown.Undefined ∷ shown.Bool true ∷ shown.Bool true ∷ []) ∷ []) (ending.Done [])
deletes_members = does refl (simp meaning_node refl)

-- function h() {} delete h.prototype;
does_not_delete_a_prototype :
    Does 9 nulls []
    (declare_function (codes "h") End End
    ▸ statement (unary unary.Delete (member (ident (codes "h")) (codes "prototype")))
    ▸ End)
    [] (ending.Thrown (shown.Error error.Kind))
does_not_delete_a_prototype = does refl (simp meaning_node refl)

-- let o = { a: undefined }; class A { m() {} } f("a" in o, "b" in o, "m" in new A(), 0 in [1], 1 in [1]);
tests_members :
    Does 9 nulls []
    (declare Let (codes "o") (object (property (key (codes "a")) (ident (codes "undefined")) ▸ End))
    ▸ declare_class (codes "A") absent (class_method method.Method false (key (codes "m")) End End ▸ End)
    ▸ statement (call (ident (codes "f")) (binary binary.In (string (codes "a")) (ident (codes "o")) ▸ binary binary.In (string (codes "b")) (ident (codes "o"))
    ▸ binary binary.In (string (codes "m")) (new' (ident (codes "A")) End) ▸ binary binary.In (whole 0) (array (whole 1 ▸ End)) ▸ binary binary.In (whole 1) (array (whole 1
    ▸ End)) ▸ End))
    ▸ End)
    (HostCall 7 shown.Undefined (shown.Bool true ∷ shown.Bool false ∷ shown.Bool true ∷ shown.Bool true ∷ shown.Bool false ∷ []) ∷ []) (ending.Done [])
unfolding digits
tests_members = does refl (simp meaning_node refl)

-- f("a" in "b");
wants_an_object_behind_in :
    Does 9 nulls []
    (statement (call (ident (codes "f")) (binary binary.In (string (codes "a")) (string (codes "b")) ▸ End))
    ▸ End)
    [] (ending.Thrown (shown.Error error.Kind))
wants_an_object_behind_in = does refl (simp meaning_node refl)

-- let a = [1, , f(2)]; f(a.length, a[0], a[1], a[2], a[9]); a[0] = 4; f(a["0"]);
has_arrays :
    Does 9 nulls []
    (declare Let (codes "a") (array (whole 1 ▸ absent ▸ call (ident (codes "f")) (whole 2 ▸ End) ▸ End))
    ▸ statement (call (ident (codes "f")) (member (ident (codes "a")) (codes "length") ▸ tree kind.MemberExpr (ident (codes "a") ▸ computed (whole 0) ▸ End)
    ▸ tree kind.MemberExpr (ident (codes "a") ▸ computed (whole 1) ▸ End) ▸ tree kind.MemberExpr (ident (codes "a") ▸ computed (whole 2) ▸ End)
    ▸ tree kind.MemberExpr (ident (codes "a") ▸ computed (whole 9) ▸ End) ▸ End))
    ▸ statement (assign (tree kind.MemberExpr (ident (codes "a") ▸ computed (whole 0) ▸ End)) (whole 4))
    ▸ statement (call (ident (codes "f")) (tree kind.MemberExpr (ident (codes "a") ▸ computed (string (codes "0")) ▸ End) ▸ End))
    ▸ End)
    (HostCall 7 shown.Undefined (shown.Num (js_number.Whole (pos 2)) ∷ []) ∷ HostCall 7 shown.Undefined (shown.Num (js_number.Whole (pos 3)) ∷ shown.Num (js_number.Whole (pos 1))
    ∷ shown.Undefined ∷ shown.Null ∷ shown.Undefined ∷ []) ∷ HostCall 7 shown.Undefined (shown.Num (js_number.Whole (pos 4)) ∷ []) ∷ []) (ending.Done [])
unfolding digits
has_arrays = does refl (simp meaning_node refl)

-- let { a, b: { c = f(1) }, ["d"]: e = 5 } = { a: 3, b: {} }; f(a, c, e);
takes_patterns_apart :
    Does 9 nulls []
    (declare_pattern Let (tree (kind.ObjectPat false) (list (tree kind.AssignPatProp (binding (codes "a") ▸ absent ▸ End) ▸ tree kind.KeyValuePatProp (key (codes "b")
    ▸ tree (kind.ObjectPat false) (list (tree kind.AssignPatProp (binding (codes "c") ▸ call (ident (codes "f")) (whole 1 ▸ End) ▸ End) ▸ End) ▸ absent ▸ End) ▸ End)
    ▸ tree kind.KeyValuePatProp (computed (string (codes "d")) ▸ tree kind.AssignPat (binding (codes "e") ▸ whole 5 ▸ End) ▸ End) ▸ End) ▸ absent
    ▸ End)) (object (property (key (codes "a")) (whole 3) ▸ property (key (codes "b")) (object End) ▸ End))
    ▸ statement (call (ident (codes "f")) (ident (codes "a") ▸ ident (codes "c") ▸ ident (codes "e") ▸ End))
    ▸ End)
    (HostCall 7 shown.Undefined (shown.Num (js_number.Whole (pos 1)) ∷ []) ∷ HostCall 7 shown.Undefined (shown.Num (js_number.Whole (pos 3)) ∷ shown.Null
    ∷ shown.Num (js_number.Whole (pos 5)) ∷ []) ∷ []) (ending.Done [])
takes_patterns_apart = does refl (simp meaning_node refl)

-- let a, o = {}; f(({ a, b: o.x = 2, c: { a: o["y"] } } = { a: 1, c: { a: 4 } }) === o, a, o.x, o.y);
assigns_patterns :
    Does 9 nulls []
    (tree (kind.VarDecl Let false) (list (tree (kind.VarDeclarator false) (binding (codes "a") ▸ absent ▸ End) ▸ tree (kind.VarDeclarator false) (binding (codes "o") ▸ object End
    ▸ End) ▸ End) ▸ End)
    ▸ statement (call (ident (codes "f")) (binary binary.EqEqEq (parens (assign (tree (kind.ObjectPat false) (list (tree kind.AssignPatProp (binding (codes "a") ▸ absent ▸ End)
    ▸ tree kind.KeyValuePatProp (key (codes "b") ▸ tree kind.AssignPat (member (ident (codes "o")) (codes "x") ▸ whole 2 ▸ End) ▸ End)
    ▸ tree kind.KeyValuePatProp (key (codes "c") ▸ tree (kind.ObjectPat false) (list (tree kind.KeyValuePatProp (key (codes "a") ▸ tree kind.MemberExpr (ident (codes "o")
    ▸ computed (string (codes "y")) ▸ End) ▸ End) ▸ End) ▸ absent ▸ End) ▸ End) ▸ End) ▸ absent ▸ End)) (object (property (key (codes "a")) (whole 1)
    ▸ property (key (codes "c")) (object (property (key (codes "a")) (whole 4) ▸ End)) ▸ End)))) (ident (codes "o")) ▸ ident (codes "a") ▸ member (ident (codes "o")) (codes "x")
    ▸ member (ident (codes "o")) (codes "y") ▸ End))
    ▸ End)
    (HostCall 7 shown.Undefined (shown.Bool false ∷ shown.Num (js_number.Whole (pos 1)) ∷ shown.Num (js_number.Whole (pos 2)) ∷ shown.Num (js_number.Whole (pos 4)) ∷ [])
    ∷ []) (ending.Done [])
assigns_patterns = does refl (simp meaning_node refl)

-- let o = {}; ({ [f(1)]: f(2).x = f(3) } = o);
assigns_patterns_in_order :
    Does 9 (Return (shown.Text (codes "k")) ∷ Return (shown.Host 11) ∷ Return (shown.Num (js_number.Whole (pos 5))) ∷ Return shown.Null ∷ []) []
    (declare Let (codes "o") (object End)
    ▸ statement (parens (assign (tree (kind.ObjectPat false) (list (tree kind.KeyValuePatProp (computed (call (ident (codes "f")) (whole 1 ▸ End))
    ▸ tree kind.AssignPat (member (call (ident (codes "f")) (whole 2 ▸ End)) (codes "x") ▸ call (ident (codes "f")) (whole 3 ▸ End) ▸ End) ▸ End) ▸ End) ▸ absent
    ▸ End)) (ident (codes "o"))))
    ▸ End)
    (HostCall 7 shown.Undefined (shown.Num (js_number.Whole (pos 1)) ∷ []) ∷ HostCall 7 shown.Undefined (shown.Num (js_number.Whole (pos 2)) ∷ [])
    ∷ HostCall 7 shown.Undefined (shown.Num (js_number.Whole (pos 3)) ∷ []) ∷ HostSet 11 (codes "x") (shown.Num (js_number.Whole (pos 5))) ∷ []) (ending.Done [])
assigns_patterns_in_order = does refl (simp meaning_node refl)

-- let { a } = null;
takes_no_null_apart :
    Does 9 nulls []
    (declare_pattern Let (tree (kind.ObjectPat false) (list (tree kind.AssignPatProp (binding (codes "a") ▸ absent ▸ End) ▸ End) ▸ absent ▸ End)) null
    ▸ End)
    [] (ending.Thrown (shown.Error error.Kind))
takes_no_null_apart = does refl (simp meaning_node refl)

-- var { a, b = 2 } = { a: 1 }; f(a, b);
declares_var_by_patterns :
    Does 9 nulls []
    (declare_pattern Var (tree (kind.ObjectPat false) (list (tree kind.AssignPatProp (binding (codes "a") ▸ absent ▸ End) ▸ tree kind.AssignPatProp (binding (codes "b") ▸ whole 2
    ▸ End) ▸ End) ▸ absent ▸ End)) (object (property (key (codes "a")) (whole 1) ▸ End))
    ▸ statement (call (ident (codes "f")) (ident (codes "a") ▸ ident (codes "b") ▸ End))
    ▸ End)
    (HostCall 7 shown.Undefined (shown.Num (js_number.Whole (pos 1)) ∷ shown.Num (js_number.Whole (pos 2)) ∷ []) ∷ []) (ending.Done [])
declares_var_by_patterns = does refl (simp meaning_node refl)

-- let o = { a: { b() { return this.c; }, c: 3 } }; f(o?.a.b(), o.x?.y.z(f(1)), o.a?.["c"], o.a.x?.(f(2)), null?.a);
ends_optional_chains :
    Does 9 nulls []
    (declare Let (codes "o") (object (property (key (codes "a")) (object (tree kind.MethodProp (key (codes "b") ▸ function End (returns (member this' (codes "c")) ▸ End) ▸ End)
    ▸ property (key (codes "c")) (whole 3) ▸ End)) ▸ End))
    ▸ statement (call (ident (codes "f")) (tree (kind.OptChainExpr false) (tree kind.OptCall (tree (kind.OptChainExpr false) (member (tree (kind.OptChainExpr true) (member (ident (codes "o")) (codes "a")
    ▸ End)) (codes "b") ▸ End) ▸ list End ▸ absent ▸ End) ▸ End)
    ▸ tree (kind.OptChainExpr false) (tree kind.OptCall (tree (kind.OptChainExpr false) (member (tree (kind.OptChainExpr true) (member (member (ident (codes "o")) (codes "x")) (codes "y")
    ▸ End)) (codes "z") ▸ End) ▸ list (call (ident (codes "f")) (whole 1 ▸ End) ▸ End) ▸ absent ▸ End) ▸ End)
    ▸ tree (kind.OptChainExpr true) (tree kind.MemberExpr (member (ident (codes "o")) (codes "a") ▸ computed (string (codes "c")) ▸ End) ▸ End)
    ▸ tree (kind.OptChainExpr true) (tree kind.OptCall (member (member (ident (codes "o")) (codes "a")) (codes "x") ▸ list (call (ident (codes "f")) (whole 2 ▸ End) ▸ End)
    ▸ absent ▸ End) ▸ End) ▸ tree (kind.OptChainExpr true) (member null (codes "a") ▸ End) ▸ End))
    ▸ End)
    (HostCall 7 shown.Undefined (shown.Num (js_number.Whole (pos 3)) ∷ shown.Undefined ∷ shown.Num (js_number.Whole (pos 3)) ∷ shown.Undefined ∷ shown.Undefined ∷ [])
    ∷ []) (ending.Done [])
ends_optional_chains = does refl (simp meaning_node refl)

-- let o = { m() { return this === o; } }; f((o?.m)(), (o.m)());
calls_a_chain_in_parentheses_with_its_object :
    Does 9 nulls []
    (declare Let (codes "o") (object (tree kind.MethodProp (key (codes "m") ▸ function End (returns (binary binary.EqEqEq this' (ident (codes "o"))) ▸ End) ▸ End) ▸ End))
    ▸ statement (call (ident (codes "f")) (call (parens (tree (kind.OptChainExpr true) (member (ident (codes "o")) (codes "m") ▸ End))) End
    ▸ call (parens (member (ident (codes "o")) (codes "m"))) End ▸ End))
    ▸ End)
    (HostCall 7 shown.Undefined (shown.Bool true ∷ shown.Bool true ∷ []) ∷ []) (ending.Done [])
calls_a_chain_in_parentheses_with_its_object = does refl (simp meaning_node refl)

-- (null?.a).b;
ends_chains_at_parentheses :
    Does 9 nulls []
    (statement (member (parens (tree (kind.OptChainExpr true) (member null (codes "a") ▸ End))) (codes "b"))
    ▸ End)
    [] (ending.Thrown (shown.Error error.Kind))
ends_chains_at_parentheses = does refl (simp meaning_node refl)

-- let o = { a: 1 }; f(delete o?.a, o.a, delete null?.a);
deletes_in_chains :
    Does 9 nulls []
    (declare Let (codes "o") (object (property (key (codes "a")) (whole 1) ▸ End))
    ▸ statement (call (ident (codes "f")) (unary unary.Delete (tree (kind.OptChainExpr true) (member (ident (codes "o")) (codes "a") ▸ End))
    ▸ member (ident (codes "o")) (codes "a") ▸ unary unary.Delete (tree (kind.OptChainExpr true) (member null (codes "a") ▸ End)) ▸ End))
    ▸ End)
    (HostCall 7 shown.Undefined (shown.Bool true ∷ shown.Undefined ∷ shown.Bool true ∷ []) ∷ []) (ending.Done [])
deletes_in_chains = does refl (simp meaning_node refl)

-- f([1, 2]);
keeps_lengths_of_shown_arrays :
    Does 9 nulls (action.Get 0 (codes "length") ∷ action.Get 0 (codes "1") ∷ action.Set 0 (codes "0") (shown.Num (js_number.Whole (pos 7))) ∷ action.Get 0 (codes "0") ∷ [])
    (statement (call (ident (codes "f")) (array (whole 1 ▸ whole 2 ▸ End) ▸ End))
    ▸ End)
    (HostCall 7 shown.Undefined (shown.Handle 0 ∷ []) ∷ []) (ending.Done (Return (shown.Num (js_number.Whole (pos 2))) ∷ Return (shown.Num (js_number.Whole (pos 2)))
    ∷ Return shown.Undefined ∷ Return (shown.Num (js_number.Whole (pos 7))) ∷ []))
unfolding digits
keeps_lengths_of_shown_arrays = does refl (simp meaning_node refl)

-- function h() {} h.prototype.a = 1; let o = new h(); o.a = 2; f(o.a, h.prototype.a); f(delete o.a, o.a);
shadows_properties_of_prototypes :
    Does 9 nulls []
    (declare_function (codes "h") End End
    ▸ statement (assign (member (member (ident (codes "h")) (codes "prototype")) (codes "a")) (whole 1))
    ▸ declare Let (codes "o") (new' (ident (codes "h")) End)
    ▸ statement (assign (member (ident (codes "o")) (codes "a")) (whole 2))
    ▸ statement (call (ident (codes "f")) (member (ident (codes "o")) (codes "a") ▸ member (member (ident (codes "h")) (codes "prototype")) (codes "a") ▸ End))
    ▸ statement (call (ident (codes "f")) (unary unary.Delete (member (ident (codes "o")) (codes "a")) ▸ member (ident (codes "o")) (codes "a") ▸ End))
    ▸ End)
    (HostCall 7 shown.Undefined (shown.Num (js_number.Whole (pos 2)) ∷ shown.Num (js_number.Whole (pos 1)) ∷ []) ∷ HostCall 7 shown.Undefined (shown.Bool true
    ∷ shown.Num (js_number.Whole (pos 1)) ∷ []) ∷ []) (ending.Done [])
shadows_properties_of_prototypes = does refl (simp meaning_node refl)

-- let o = { get a() { return 1; }, a: 2, b: 3, get b() { return 4; } }; f(o.a, o.b);
replaces_accessors :
    Does 9 nulls []
    (declare Let (codes "o") (object (tree kind.GetterProp (key (codes "a") ▸ absent ▸ block (returns (whole 1) ▸ End) ▸ End) ▸ property (key (codes "a")) (whole 2)
    ▸ property (key (codes "b")) (whole 3) ▸ tree kind.GetterProp (key (codes "b") ▸ absent ▸ block (returns (whole 4) ▸ End) ▸ End) ▸ End))
    ▸ statement (call (ident (codes "f")) (member (ident (codes "o")) (codes "a") ▸ member (ident (codes "o")) (codes "b") ▸ End))
    ▸ End)
    (HostCall 7 shown.Undefined (shown.Num (js_number.Whole (pos 2)) ∷ shown.Num (js_number.Whole (pos 4)) ∷ []) ∷ []) (ending.Done [])
replaces_accessors = does refl (simp meaning_node refl)

-- let a = [1, 2]; f(delete a[0], a[0], a.length); a[0] = 3; f(a[0]);
deletes_elements :
    Does 9 nulls []
    (declare Let (codes "a") (array (whole 1 ▸ whole 2 ▸ End))
    ▸ statement (call (ident (codes "f")) (unary unary.Delete (tree kind.MemberExpr (ident (codes "a") ▸ computed (whole 0) ▸ End)) ▸ tree kind.MemberExpr (ident (codes "a")
    ▸ computed (whole 0) ▸ End) ▸ member (ident (codes "a")) (codes "length") ▸ End))
    ▸ statement (assign (tree kind.MemberExpr (ident (codes "a") ▸ computed (whole 0) ▸ End)) (whole 3))
    ▸ statement (call (ident (codes "f")) (tree kind.MemberExpr (ident (codes "a") ▸ computed (whole 0) ▸ End) ▸ End))
    ▸ End)
    (HostCall 7 shown.Undefined (shown.Bool true ∷ shown.Undefined ∷ shown.Num (js_number.Whole (pos 2)) ∷ []) ∷ HostCall 7 shown.Undefined (shown.Num (js_number.Whole (pos 3))
    ∷ []) ∷ []) (ending.Done [])
unfolding digits
deletes_elements = does refl (simp meaning_node refl)

-- let { a, b: c = 2 } = f; g(a, c);
takes_host_values_apart :
    Does 9 (Return (shown.Num (js_number.Whole (pos 1))) ∷ Return shown.Undefined ∷ Return shown.Null ∷ []) []
    (declare_pattern Let (tree (kind.ObjectPat false) (list (tree kind.AssignPatProp (binding (codes "a") ▸ absent ▸ End) ▸ tree kind.KeyValuePatProp (key (codes "b")
    ▸ tree kind.AssignPat (binding (codes "c") ▸ whole 2 ▸ End) ▸ End) ▸ End) ▸ absent ▸ End)) (ident (codes "f"))
    ▸ statement (call (ident (codes "g")) (ident (codes "a") ▸ ident (codes "c") ▸ End))
    ▸ End)
    (HostGet 7 (codes "a") ∷ HostGet 7 (codes "b") ∷ HostCall 8 shown.Undefined (shown.Num (js_number.Whole (pos 1)) ∷ shown.Num (js_number.Whole (pos 2)) ∷ [])
    ∷ []) (ending.Done [])
takes_host_values_apart = does refl (simp meaning_node refl)

-- let o = { m() { return this === o; } }; f(o.m?.(), o?.m?.(), (o?.m)?.(), o.x?.(f(1)));
calls_methods_by_optional_calls :
    Does 9 nulls []
    (declare Let (codes "o") (object (tree kind.MethodProp (key (codes "m") ▸ function End (returns (binary binary.EqEqEq this' (ident (codes "o"))) ▸ End) ▸ End) ▸ End))
    ▸ statement (call (ident (codes "f")) (tree (kind.OptChainExpr true) (tree kind.OptCall (member (ident (codes "o")) (codes "m") ▸ list End ▸ absent ▸ End) ▸ End)
    ▸ tree (kind.OptChainExpr true) (tree kind.OptCall (tree (kind.OptChainExpr true) (member (ident (codes "o")) (codes "m") ▸ End) ▸ list End ▸ absent ▸ End) ▸ End)
    ▸ tree (kind.OptChainExpr true) (tree kind.OptCall (parens (tree (kind.OptChainExpr true) (member (ident (codes "o")) (codes "m") ▸ End)) ▸ list End ▸ absent ▸ End) ▸ End)
    ▸ tree (kind.OptChainExpr true) (tree kind.OptCall (member (ident (codes "o")) (codes "x") ▸ list (call (ident (codes "f")) (whole 1 ▸ End) ▸ End) ▸ absent ▸ End) ▸ End)
    ▸ End))
    ▸ End)
    (HostCall 7 shown.Undefined (shown.Bool true ∷ shown.Bool true ∷ shown.Bool true ∷ shown.Undefined ∷ []) ∷ []) (ending.Done [])
calls_methods_by_optional_calls = does refl (simp meaning_node refl)

-- let { length } = "abc"; f(length, "ab".length);
reads_members_of_texts :
    Does 9 nulls []
    (declare_pattern Let (tree (kind.ObjectPat false) (list (tree kind.AssignPatProp (binding (codes "length") ▸ absent ▸ End) ▸ End) ▸ absent ▸ End)) (string (codes "abc"))
    ▸ statement (call (ident (codes "f")) (ident (codes "length") ▸ member (string (codes "ab")) (codes "length") ▸ End))
    ▸ End)
    (HostCall 7 shown.Undefined (shown.Num (js_number.Whole (pos 3)) ∷ shown.Num (js_number.Whole (pos 2)) ∷ []) ∷ []) (ending.Done [])
reads_members_of_texts = does refl (simp meaning_node refl)
