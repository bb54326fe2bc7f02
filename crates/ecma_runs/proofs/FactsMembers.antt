-- Accessors, prototypes and elements: each fact is a small module and what node observes of it, by computing. Written by compare/facts.mjs.
use Rattle.std.proofs.Common.{refl, pos, [], ◌∷◌, true, false, codes}
use Rattle.ecma_number.specs.declared.js_number.JsNumber.TheVariants as js_number
use Rattle.ecma_kind.specs.declared.kind.Kind.TheVariants as kind
use Rattle.ecma_kind.specs.declared.operators.BinaryOp.TheVariants as binary
use Rattle.ecma_kind.specs.declared.operators.MethodKind.TheVariants as method
use Rattle.ecma_kind.specs.declared.operators.UnaryOp.TheVariants as unary
use Rattle.ecma_kind.specs.declared.operators.VarDeclKind.TheVariants.{Let}
use Rattle.ecma_runs.specs.declared.observation.Event.TheVariants.{HostCall}
use Rattle.ecma_runs.specs.declared.observation.Ending.TheVariants as ending
use Rattle.ecma_runs.specs.declared.shown.ErrorKind.TheVariants as error
use Rattle.ecma_runs.specs.declared.shown.Shown.TheVariants as shown
use Rattle.ecma_runs.proofs.Trees.{End, ◌▸◌, tree, absent, list, ident, key, computed, binding, whole, string, null, member, super_member, call, new', assign}
use Rattle.ecma_runs.proofs.Trees.{unary, binary, parens, array, object, statement, block, returns}
use Rattle.ecma_runs.proofs.Trees.{declare_pattern, declare, parameter, function, declare_function, arrow, class_method, declare_class, meaning_node}
use Rattle.ecma_runs.proofs.Scripts.{Does, does, nulls}
use Rattle.std.specs.Fmt.{digits}

-- let o = { set a(v) { f(v); } }; f(o.a, "a" in o); o.a = 1;
reads_no_setter :
    Does 9 nulls []
    (declare Let (codes "o") (object (tree kind.SetterProp (key (codes "a") ▸ absent ▸ binding (codes "v") ▸ block (statement (call (ident (codes "f")) (ident (codes "v") ▸ End))
    ▸ End) ▸ End) ▸ End))
    ▸ statement (call (ident (codes "f")) (member (ident (codes "o")) (codes "a") ▸ binary binary.In (string (codes "a")) (ident (codes "o")) ▸ End))
    ▸ statement (assign (member (ident (codes "o")) (codes "a")) (whole 1))
    ▸ End)
    (HostCall 7 shown.Undefined (shown.Undefined ∷ shown.Bool true ∷ []) ∷ HostCall 7 shown.Undefined (shown.Num (js_number.Whole (pos 1)) ∷ []) ∷ []) (ending.Done [])
reads_no_setter = does refl (simp meaning_node refl)

-- let o = { get a() { return 1; }, set a(v) { f(v); }, get a() { return 2; } }; f(o.a); o.a = 3;
redefines_accessors :
    Does 9 nulls []
    (declare Let (codes "o") (object (tree kind.GetterProp (key (codes "a") ▸ absent ▸ block (returns (whole 1) ▸ End) ▸ End) ▸ tree kind.SetterProp (key (codes "a") ▸ absent
    ▸ binding (codes "v") ▸ block (statement (call (ident (codes "f")) (ident (codes "v") ▸ End)) ▸ End) ▸ End) ▸ tree kind.GetterProp (key (codes "a") ▸ absent
    ▸ block (returns (whole 2) ▸ End) ▸ End) ▸ End))
    ▸ statement (call (ident (codes "f")) (member (ident (codes "o")) (codes "a") ▸ End))
    ▸ statement (assign (member (ident (codes "o")) (codes "a")) (whole 3))
    ▸ End)
    (HostCall 7 shown.Undefined (shown.Num (js_number.Whole (pos 2)) ∷ []) ∷ HostCall 7 shown.Undefined (shown.Num (js_number.Whole (pos 3)) ∷ []) ∷ []) (ending.Done [])
redefines_accessors = does refl (simp meaning_node refl)

-- let o = { set a(v) { f(v); }, get a() { return 1; }, set a(v) { g(v); } }; f(o.a); o.a = 2;
redefines_setters :
    Does 9 nulls []
    (declare Let (codes "o") (object (tree kind.SetterProp (key (codes "a") ▸ absent ▸ binding (codes "v") ▸ block (statement (call (ident (codes "f")) (ident (codes "v") ▸ End))
    ▸ End) ▸ End) ▸ tree kind.GetterProp (key (codes "a") ▸ absent ▸ block (returns (whole 1) ▸ End) ▸ End) ▸ tree kind.SetterProp (key (codes "a") ▸ absent ▸ binding (codes "v")
    ▸ block (statement (call (ident (codes "g")) (ident (codes "v") ▸ End)) ▸ End) ▸ End) ▸ End))
    ▸ statement (call (ident (codes "f")) (member (ident (codes "o")) (codes "a") ▸ End))
    ▸ statement (assign (member (ident (codes "o")) (codes "a")) (whole 2))
    ▸ End)
    (HostCall 7 shown.Undefined (shown.Num (js_number.Whole (pos 1)) ∷ []) ∷ HostCall 8 shown.Undefined (shown.Num (js_number.Whole (pos 2)) ∷ []) ∷ []) (ending.Done [])
redefines_setters = does refl (simp meaning_node refl)

-- class A { get a() { return 1; } } let o = new A(); try { o.a = 2; } catch (e) { f(e, o.a); }
sets_nothing_over_an_inherited_getter :
    Does 9 nulls []
    (declare_class (codes "A") absent (class_method method.Getter false (key (codes "a")) End (returns (whole 1) ▸ End) ▸ End)
    ▸ declare Let (codes "o") (new' (ident (codes "A")) End)
    ▸ tree kind.TryStmt (block (statement (assign (member (ident (codes "o")) (codes "a")) (whole 2)) ▸ End) ▸ tree kind.CatchClause (binding (codes "e")
    ▸ block (statement (call (ident (codes "f")) (ident (codes "e") ▸ member (ident (codes "o")) (codes "a") ▸ End)) ▸ End) ▸ End) ▸ absent ▸ End)
    ▸ End)
    (HostCall 7 shown.Undefined (shown.Error error.Kind ∷ shown.Num (js_number.Whole (pos 1)) ∷ []) ∷ []) (ending.Done [])
sets_nothing_over_an_inherited_getter = does refl (simp meaning_node refl)

-- class A {} class B extends A {} let k = B.bind(); try { k.prototype = 1; } catch (e) { f(e); }
sets_nothing_over_an_inherited_prototype :
    Does 9 nulls []
    (declare_class (codes "A") absent End
    ▸ declare_class (codes "B") (ident (codes "A")) End
    ▸ declare Let (codes "k") (call (member (ident (codes "B")) (codes "bind")) End)
    ▸ tree kind.TryStmt (block (statement (assign (member (ident (codes "k")) (codes "prototype")) (whole 1)) ▸ End) ▸ tree kind.CatchClause (binding (codes "e")
    ▸ block (statement (call (ident (codes "f")) (ident (codes "e") ▸ End)) ▸ End) ▸ End) ▸ absent ▸ End)
    ▸ End)
    (HostCall 7 shown.Undefined (shown.Error error.Kind ∷ []) ∷ []) (ending.Done [])
sets_nothing_over_an_inherited_prototype = does refl (simp meaning_node refl)

-- class A {} class B extends A { static get a() { return 1; } static m() { super.a = 2; } } try { B.m(); } catch (e) { f(e, B.a); }
sets_nothing_by_super_over_accessors :
    Does 9 nulls []
    (declare_class (codes "A") absent End
    ▸ declare_class (codes "B") (ident (codes "A")) (class_method method.Getter true (key (codes "a")) End (returns (whole 1) ▸ End)
    ▸ class_method method.Method true (key (codes "m")) End (statement (assign (super_member (codes "a")) (whole 2)) ▸ End) ▸ End)
    ▸ tree kind.TryStmt (block (statement (call (member (ident (codes "B")) (codes "m")) End) ▸ End) ▸ tree kind.CatchClause (binding (codes "e")
    ▸ block (statement (call (ident (codes "f")) (ident (codes "e") ▸ member (ident (codes "B")) (codes "a") ▸ End)) ▸ End) ▸ End) ▸ absent ▸ End)
    ▸ End)
    (HostCall 7 shown.Undefined (shown.Error error.Kind ∷ shown.Num (js_number.Whole (pos 1)) ∷ []) ∷ []) (ending.Done [])
sets_nothing_by_super_over_accessors = does refl (simp meaning_node refl)

-- class A { static m() { super.prototype = 1; } } try { A.m(); } catch (e) { f(e); }
sets_no_prototype_by_super :
    Does 9 nulls []
    (declare_class (codes "A") absent (class_method method.Method true (key (codes "m")) End (statement (assign (super_member (codes "prototype")) (whole 1)) ▸ End) ▸ End)
    ▸ tree kind.TryStmt (block (statement (call (member (ident (codes "A")) (codes "m")) End) ▸ End) ▸ tree kind.CatchClause (binding (codes "e")
    ▸ block (statement (call (ident (codes "f")) (ident (codes "e") ▸ End)) ▸ End) ▸ End) ▸ absent ▸ End)
    ▸ End)
    (HostCall 7 shown.Undefined (shown.Error error.Kind ∷ []) ∷ []) (ending.Done [])
sets_no_prototype_by_super = does refl (simp meaning_node refl)

-- function h() {} h.prototype = 1; try { delete h.prototype; } catch (e) { f(e, h.prototype); }
keeps_prototypes_that_were_written :
    Does 9 nulls []
    (declare_function (codes "h") End End
    ▸ statement (assign (member (ident (codes "h")) (codes "prototype")) (whole 1))
    ▸ tree kind.TryStmt (block (statement (unary unary.Delete (member (ident (codes "h")) (codes "prototype"))) ▸ End) ▸ tree kind.CatchClause (binding (codes "e")
    ▸ block (statement (call (ident (codes "f")) (ident (codes "e") ▸ member (ident (codes "h")) (codes "prototype") ▸ End)) ▸ End) ▸ End) ▸ absent ▸ End)
    ▸ End)
    (HostCall 7 shown.Undefined (shown.Error error.Kind ∷ shown.Num (js_number.Whole (pos 1)) ∷ []) ∷ []) (ending.Done [])
keeps_prototypes_that_were_written = does refl (simp meaning_node refl)

-- class A {} class B extends A {} class C {} let b = new B(); f(b instanceof B, b instanceof A, b instanceof C, {} instanceof A);
is_an_instance_of_all_above :
    Does 9 nulls []
    (declare_class (codes "A") absent End
    ▸ declare_class (codes "B") (ident (codes "A")) End
    ▸ declare_class (codes "C") absent End
    ▸ declare Let (codes "b") (new' (ident (codes "B")) End)
    ▸ statement (call (ident (codes "f")) (binary binary.InstanceOf (ident (codes "b")) (ident (codes "B")) ▸ binary binary.InstanceOf (ident (codes "b")) (ident (codes "A"))
    ▸ binary binary.InstanceOf (ident (codes "b")) (ident (codes "C")) ▸ binary binary.InstanceOf (object End) (ident (codes "A")) ▸ End))
    ▸ End)
    (HostCall 7 shown.Undefined (shown.Bool true ∷ shown.Bool true ∷ shown.Bool false ∷ shown.Bool false ∷ []) ∷ []) (ending.Done [])
is_an_instance_of_all_above = does refl (simp meaning_node refl)

-- function h() {} let k = h.bind(1); f(new h() instanceof k, {} instanceof k);
is_an_instance_of_what_is_bound :
    Does 9 nulls []
    (declare_function (codes "h") End End
    ▸ declare Let (codes "k") (call (member (ident (codes "h")) (codes "bind")) (whole 1 ▸ End))
    ▸ statement (call (ident (codes "f")) (binary binary.InstanceOf (new' (ident (codes "h")) End) (ident (codes "k")) ▸ binary binary.InstanceOf (object End) (ident (codes "k"))
    ▸ End))
    ▸ End)
    (HostCall 7 shown.Undefined (shown.Bool true ∷ shown.Bool false ∷ []) ∷ []) (ending.Done [])
is_an_instance_of_what_is_bound = does refl (simp meaning_node refl)

-- function h() {} let p = {}, k = () => 1; h.prototype = p; k.prototype = p; f(new h() instanceof k, {} instanceof k);
is_an_instance_by_written_prototypes :
    Does 9 nulls []
    (declare_function (codes "h") End End
    ▸ tree (kind.VarDecl Let false) (list (tree (kind.VarDeclarator false) (binding (codes "p") ▸ object End ▸ End) ▸ tree (kind.VarDeclarator false) (binding (codes "k")
    ▸ arrow End (whole 1) ▸ End) ▸ End) ▸ End)
    ▸ statement (assign (member (ident (codes "h")) (codes "prototype")) (ident (codes "p")))
    ▸ statement (assign (member (ident (codes "k")) (codes "prototype")) (ident (codes "p")))
    ▸ statement (call (ident (codes "f")) (binary binary.InstanceOf (new' (ident (codes "h")) End) (ident (codes "k")) ▸ binary binary.InstanceOf (object End) (ident (codes "k"))
    ▸ End))
    ▸ End)
    (HostCall 7 shown.Undefined (shown.Bool true ∷ shown.Bool false ∷ []) ∷ []) (ending.Done [])
is_an_instance_by_written_prototypes = does refl (simp meaning_node refl)

-- try { ({}) instanceof (() => 1); } catch (e) { f(e); } try { ({}) instanceof {}; } catch (e) { f(e); } try { ({}) instanceof 1; } catch (e) { f(e); }
is_no_instance_of_what_has_no_prototype :
    Does 9 nulls []
    (tree kind.TryStmt (block (statement (binary binary.InstanceOf (parens (object End)) (parens (arrow End (whole 1)))) ▸ End) ▸ tree kind.CatchClause (binding (codes "e")
    ▸ block (statement (call (ident (codes "f")) (ident (codes "e") ▸ End)) ▸ End) ▸ End) ▸ absent ▸ End)
    ▸ tree kind.TryStmt (block (statement (binary binary.InstanceOf (parens (object End)) (object End)) ▸ End) ▸ tree kind.CatchClause (binding (codes "e")
    ▸ block (statement (call (ident (codes "f")) (ident (codes "e") ▸ End)) ▸ End) ▸ End) ▸ absent ▸ End)
    ▸ tree kind.TryStmt (block (statement (binary binary.InstanceOf (parens (object End)) (whole 1)) ▸ End) ▸ tree kind.CatchClause (binding (codes "e")
    ▸ block (statement (call (ident (codes "f")) (ident (codes "e") ▸ End)) ▸ End) ▸ End) ▸ absent ▸ End)
    ▸ End)
    (HostCall 7 shown.Undefined (shown.Error error.Kind ∷ []) ∷ HostCall 7 shown.Undefined (shown.Error error.Kind ∷ []) ∷ HostCall 7 shown.Undefined (shown.Error error.Kind ∷ [])
    ∷ []) (ending.Done [])
is_no_instance_of_what_has_no_prototype = does refl (simp meaning_node refl)

-- let o = {}; f(o.name, o.length, o.call, o.apply, o.bind, o.arguments, o.caller);
has_common_keys_where_none_are_open :
    Does 9 nulls []
    (declare Let (codes "o") (object End)
    ▸ statement (call (ident (codes "f")) (member (ident (codes "o")) (codes "name") ▸ member (ident (codes "o")) (codes "length") ▸ member (ident (codes "o")) (codes "call")
    ▸ member (ident (codes "o")) (codes "apply") ▸ member (ident (codes "o")) (codes "bind") ▸ member (ident (codes "o")) (codes "arguments")
    ▸ member (ident (codes "o")) (codes "caller") ▸ End))
    ▸ End)
    (HostCall 7 shown.Undefined (shown.Undefined ∷ shown.Undefined ∷ shown.Undefined ∷ shown.Undefined ∷ shown.Undefined ∷ shown.Undefined ∷ shown.Undefined ∷ [])
    ∷ []) (ending.Done [])
has_common_keys_where_none_are_open = does refl (simp meaning_node refl)

-- let a = [1]; f(a[123456789], a[10], a[48], a["0"], 5 in a);
has_elements_of_many_digits :
    Does 9 nulls []
    (declare Let (codes "a") (array (whole 1 ▸ End))
    ▸ statement (call (ident (codes "f")) (tree kind.MemberExpr (ident (codes "a") ▸ computed (whole 123456789) ▸ End) ▸ tree kind.MemberExpr (ident (codes "a")
    ▸ computed (whole 10) ▸ End) ▸ tree kind.MemberExpr (ident (codes "a") ▸ computed (whole 48) ▸ End) ▸ tree kind.MemberExpr (ident (codes "a") ▸ computed (string (codes "0"))
    ▸ End) ▸ binary binary.In (whole 5) (ident (codes "a")) ▸ End))
    ▸ End)
    (HostCall 7 shown.Undefined (shown.Undefined ∷ shown.Undefined ∷ shown.Undefined ∷ shown.Num (js_number.Whole (pos 1)) ∷ shown.Bool false ∷ []) ∷ []) (ending.Done [])
unfolding digits
has_elements_of_many_digits = does refl (simp meaning_node refl)

-- let a = [1]; f(delete a[5], delete a["0"], a.length); try { delete a.length; } catch (e) { f(e); }
deletes_no_length :
    Does 9 nulls []
    (declare Let (codes "a") (array (whole 1 ▸ End))
    ▸ statement (call (ident (codes "f")) (unary unary.Delete (tree kind.MemberExpr (ident (codes "a") ▸ computed (whole 5) ▸ End))
    ▸ unary unary.Delete (tree kind.MemberExpr (ident (codes "a") ▸ computed (string (codes "0")) ▸ End)) ▸ member (ident (codes "a")) (codes "length") ▸ End))
    ▸ tree kind.TryStmt (block (statement (unary unary.Delete (member (ident (codes "a")) (codes "length"))) ▸ End) ▸ tree kind.CatchClause (binding (codes "e")
    ▸ block (statement (call (ident (codes "f")) (ident (codes "e") ▸ End)) ▸ End) ▸ End) ▸ absent ▸ End)
    ▸ End)
    (HostCall 7 shown.Undefined (shown.Bool true ∷ shown.Bool true ∷ shown.Num (js_number.Whole (pos 1)) ∷ []) ∷ HostCall 7 shown.Undefined (shown.Error error.Kind ∷ [])
    ∷ []) (ending.Done [])
unfolding digits
deletes_no_length = does refl (simp meaning_node refl)

-- try { ({})(f(1)); } catch (e) { f(e); } try { new ({})(f(2)); } catch (e) { f(e); } try { new (1)(); } catch (e) { f(e); }
calls_no_objects :
    Does 9 nulls []
    (tree kind.TryStmt (block (statement (call (parens (object End)) (call (ident (codes "f")) (whole 1 ▸ End) ▸ End)) ▸ End) ▸ tree kind.CatchClause (binding (codes "e")
    ▸ block (statement (call (ident (codes "f")) (ident (codes "e") ▸ End)) ▸ End) ▸ End) ▸ absent ▸ End)
    ▸ tree kind.TryStmt (block (statement (new' (parens (object End)) (call (ident (codes "f")) (whole 2 ▸ End) ▸ End)) ▸ End) ▸ tree kind.CatchClause (binding (codes "e")
    ▸ block (statement (call (ident (codes "f")) (ident (codes "e") ▸ End)) ▸ End) ▸ End) ▸ absent ▸ End)
    ▸ tree kind.TryStmt (block (statement (new' (parens (whole 1)) End) ▸ End) ▸ tree kind.CatchClause (binding (codes "e")
    ▸ block (statement (call (ident (codes "f")) (ident (codes "e") ▸ End)) ▸ End) ▸ End) ▸ absent ▸ End)
    ▸ End)
    (HostCall 7 shown.Undefined (shown.Num (js_number.Whole (pos 1)) ∷ []) ∷ HostCall 7 shown.Undefined (shown.Error error.Kind ∷ [])
    ∷ HostCall 7 shown.Undefined (shown.Num (js_number.Whole (pos 2)) ∷ []) ∷ HostCall 7 shown.Undefined (shown.Error error.Kind ∷ [])
    ∷ HostCall 7 shown.Undefined (shown.Error error.Kind ∷ []) ∷ []) (ending.Done [])
calls_no_objects = does refl (simp meaning_node refl)

-- let o = { get a() { f(1); return {}; } }; f(o.a[f(2)]); try { nothing[f(3)]; } catch (e) { f(e); }
reads_objects_before_keys :
    Does 9 nulls []
    (declare Let (codes "o") (object (tree kind.GetterProp (key (codes "a") ▸ absent ▸ block (statement (call (ident (codes "f")) (whole 1 ▸ End)) ▸ returns (object End) ▸ End)
    ▸ End) ▸ End))
    ▸ statement (call (ident (codes "f")) (tree kind.MemberExpr (member (ident (codes "o")) (codes "a") ▸ computed (call (ident (codes "f")) (whole 2 ▸ End)) ▸ End) ▸ End))
    ▸ tree kind.TryStmt (block (statement (tree kind.MemberExpr (ident (codes "nothing") ▸ computed (call (ident (codes "f")) (whole 3 ▸ End)) ▸ End)) ▸ End)
    ▸ tree kind.CatchClause (binding (codes "e") ▸ block (statement (call (ident (codes "f")) (ident (codes "e") ▸ End)) ▸ End) ▸ End) ▸ absent ▸ End)
    ▸ End)
    (HostCall 7 shown.Undefined (shown.Num (js_number.Whole (pos 1)) ∷ []) ∷ HostCall 7 shown.Undefined (shown.Num (js_number.Whole (pos 2)) ∷ [])
    ∷ HostCall 7 shown.Undefined (shown.Undefined ∷ []) ∷ HostCall 7 shown.Undefined (shown.Error error.Reference ∷ []) ∷ []) (ending.Done [])
reads_objects_before_keys = does refl (simp meaning_node refl)

-- try { let {} = null; } catch (e) { f(e); } try { ({} = undefined); } catch (e) { f(e); } (({}) => f(1))(2);
takes_nothing_apart_without_names :
    Does 9 nulls []
    (tree kind.TryStmt (block (declare_pattern Let (tree (kind.ObjectPat false) (list End ▸ absent ▸ End)) null ▸ End) ▸ tree kind.CatchClause (binding (codes "e")
    ▸ block (statement (call (ident (codes "f")) (ident (codes "e") ▸ End)) ▸ End) ▸ End) ▸ absent ▸ End)
    ▸ tree kind.TryStmt (block (statement (parens (assign (tree (kind.ObjectPat false) (list End ▸ absent ▸ End)) (ident (codes "undefined")))) ▸ End)
    ▸ tree kind.CatchClause (binding (codes "e") ▸ block (statement (call (ident (codes "f")) (ident (codes "e") ▸ End)) ▸ End) ▸ End) ▸ absent ▸ End)
    ▸ statement (call (parens (arrow (tree (kind.ObjectPat false) (list End ▸ absent ▸ End) ▸ End) (call (ident (codes "f")) (whole 1 ▸ End)))) (whole 2 ▸ End))
    ▸ End)
    (HostCall 7 shown.Undefined (shown.Error error.Kind ∷ []) ∷ HostCall 7 shown.Undefined (shown.Error error.Kind ∷ [])
    ∷ HostCall 7 shown.Undefined (shown.Num (js_number.Whole (pos 1)) ∷ []) ∷ []) (ending.Done [])
takes_nothing_apart_without_names = does refl (simp meaning_node refl)

-- let o = {}; try { o?.a.b; } catch (e) { f(e); } try { o?.a(f(1)); } catch (e) { f(e); }
goes_on_in_chains_where_nothing_is_optional :
    Does 9 nulls []
    (declare Let (codes "o") (object End)
    ▸ tree kind.TryStmt (block (statement (tree (kind.OptChainExpr false) (member (tree (kind.OptChainExpr true) (member (ident (codes "o")) (codes "a") ▸ End)) (codes "b") ▸ End))
    ▸ End) ▸ tree kind.CatchClause (binding (codes "e") ▸ block (statement (call (ident (codes "f")) (ident (codes "e") ▸ End)) ▸ End) ▸ End) ▸ absent ▸ End)
    ▸ tree kind.TryStmt (block (statement (tree (kind.OptChainExpr false) (tree kind.OptCall (tree (kind.OptChainExpr true) (member (ident (codes "o")) (codes "a") ▸ End)
    ▸ list (call (ident (codes "f")) (whole 1 ▸ End) ▸ End) ▸ absent ▸ End) ▸ End)) ▸ End) ▸ tree kind.CatchClause (binding (codes "e")
    ▸ block (statement (call (ident (codes "f")) (ident (codes "e") ▸ End)) ▸ End) ▸ End) ▸ absent ▸ End)
    ▸ End)
    (HostCall 7 shown.Undefined (shown.Error error.Kind ∷ []) ∷ HostCall 7 shown.Undefined (shown.Num (js_number.Whole (pos 1)) ∷ [])
    ∷ HostCall 7 shown.Undefined (shown.Error error.Kind ∷ []) ∷ []) (ending.Done [])
goes_on_in_chains_where_nothing_is_optional = does refl (simp meaning_node refl)

-- function h(a) { return a; } f(h.call?.(1, 2), h?.call(1, 3));
calls_borrowed_methods_optionally :
    Does 9 nulls []
    (declare_function (codes "h") (parameter (binding (codes "a")) ▸ End) (returns (ident (codes "a")) ▸ End)
    ▸ statement (call (ident (codes "f")) (tree (kind.OptChainExpr true) (tree kind.OptCall (member (ident (codes "h")) (codes "call") ▸ list (whole 1 ▸ whole 2 ▸ End) ▸ absent
    ▸ End) ▸ End) ▸ tree (kind.OptChainExpr false) (tree kind.OptCall (tree (kind.OptChainExpr true) (member (ident (codes "h")) (codes "call") ▸ End) ▸ list (whole 1 ▸ whole 3
    ▸ End) ▸ absent ▸ End) ▸ End) ▸ End))
    ▸ End)
    (HostCall 7 shown.Undefined (shown.Num (js_number.Whole (pos 2)) ∷ shown.Num (js_number.Whole (pos 3)) ∷ []) ∷ []) (ending.Done [])
calls_borrowed_methods_optionally = does refl (simp meaning_node refl)

-- let o = { m() { return super.x?.(f(1)); } }; f(o.m());
leaves_out_calls_of_super_members :
    Does 9 nulls []
    (declare Let (codes "o") (object (tree kind.MethodProp (key (codes "m") ▸ function End (returns (tree (kind.OptChainExpr true) (tree kind.OptCall (super_member (codes "x")
    ▸ list (call (ident (codes "f")) (whole 1 ▸ End) ▸ End) ▸ absent ▸ End) ▸ End)) ▸ End) ▸ End) ▸ End))
    ▸ statement (call (ident (codes "f")) (call (member (ident (codes "o")) (codes "m")) End ▸ End))
    ▸ End)
    (HostCall 7 shown.Undefined (shown.Undefined ∷ []) ∷ []) (ending.Done [])
leaves_out_calls_of_super_members = does refl (simp meaning_node refl)
