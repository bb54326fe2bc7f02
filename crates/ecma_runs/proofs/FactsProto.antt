-- Properties with the name `__proto__`: each fact is a small module and what node observes of it, by computing. Written by compare/facts.mjs.
use Rattle.std.proofs.Common.{refl, pos, [], ◌∷◌, true, false, codes}
use Rattle.ecma_number.specs.declared.js_number.JsNumber.TheVariants as js_number
use Rattle.ecma_kind.specs.declared.kind.Kind.TheVariants as kind
use Rattle.ecma_kind.specs.declared.operators.BinaryOp.TheVariants as binary
use Rattle.ecma_kind.specs.declared.operators.MethodKind.TheVariants as method
use Rattle.ecma_kind.specs.declared.operators.UnaryOp.TheVariants as unary
use Rattle.ecma_kind.specs.declared.operators.VarDeclKind.TheVariants.{Let}
use Rattle.ecma_runs.specs.declared.observation.Event.TheVariants.{HostCall}
use Rattle.ecma_runs.specs.declared.observation.Ending.TheVariants as ending
use Rattle.ecma_runs.specs.declared.shown.Shown.TheVariants as shown
use Rattle.ecma_runs.proofs.Trees.{End, ◌▸◌, tree, absent, list, ident, key, computed, binding, whole, string, member, call, new', assign}
use Rattle.ecma_runs.proofs.Trees.{unary, binary, parens, object, property, statement, block}
use Rattle.ecma_runs.proofs.Trees.{returns, declare_pattern, declare, function, class_method, field, declare_class, meaning_node}
use Rattle.ecma_runs.proofs.Scripts.{Does, does, nulls}

-- let __proto__ = 1; let o = { __proto__ }; f(o.__proto__, "__proto__" in o);
makes_a_property_of_a_shorthand :
    Does 9 nulls []
    (declare Let (codes "__proto__") (whole 1)
    ▸ declare Let (codes "o") (object (ident (codes "__proto__") ▸ End))
    ▸ statement (call (ident (codes "f")) (member (ident (codes "o")) (codes "__proto__") ▸ binary binary.In (string (codes "__proto__")) (ident (codes "o")) ▸ End))
    ▸ End)
    (HostCall 7 shown.Undefined (shown.Num (js_number.Whole (pos 1)) ∷ shown.Bool true ∷ []) ∷ []) (ending.Done [])
makes_a_property_of_a_shorthand = does refl (simp meaning_node refl)

-- let o = { ["__proto__"]: { a: 1 } }; f(o.a, o.__proto__.a);
makes_a_property_of_a_key_in_brackets :
    Does 9 nulls []
    (declare Let (codes "o") (object (property (computed (string (codes "__proto__"))) (object (property (key (codes "a")) (whole 1) ▸ End)) ▸ End))
    ▸ statement (call (ident (codes "f")) (member (ident (codes "o")) (codes "a") ▸ member (member (ident (codes "o")) (codes "__proto__")) (codes "a") ▸ End))
    ▸ End)
    (HostCall 7 shown.Undefined (shown.Undefined ∷ shown.Num (js_number.Whole (pos 1)) ∷ []) ∷ []) (ending.Done [])
makes_a_property_of_a_key_in_brackets = does refl (simp meaning_node refl)

-- let a = "__proto"; let o = { [a + "__"]: 2 }; f(o.__proto__, o["__proto__"]);
makes_a_property_of_a_computed_key :
    Does 9 nulls []
    (declare Let (codes "a") (string (codes "__proto"))
    ▸ declare Let (codes "o") (object (property (computed (binary binary.Add (ident (codes "a")) (string (codes "__")))) (whole 2) ▸ End))
    ▸ statement (call (ident (codes "f")) (member (ident (codes "o")) (codes "__proto__") ▸ tree kind.MemberExpr (ident (codes "o") ▸ computed (string (codes "__proto__")) ▸ End)
    ▸ End))
    ▸ End)
    (HostCall 7 shown.Undefined (shown.Num (js_number.Whole (pos 2)) ∷ shown.Num (js_number.Whole (pos 2)) ∷ []) ∷ []) (ending.Done [])
makes_a_property_of_a_computed_key = does refl (simp meaning_node refl)

-- let o = { __proto__() { return 3; }, a: 4 }; f(o.__proto__(), o.a);
makes_a_property_of_a_method :
    Does 9 nulls []
    (declare Let (codes "o") (object (tree kind.MethodProp (key (codes "__proto__") ▸ function End (returns (whole 3) ▸ End) ▸ End) ▸ property (key (codes "a")) (whole 4) ▸ End))
    ▸ statement (call (ident (codes "f")) (call (member (ident (codes "o")) (codes "__proto__")) End ▸ member (ident (codes "o")) (codes "a") ▸ End))
    ▸ End)
    (HostCall 7 shown.Undefined (shown.Num (js_number.Whole (pos 3)) ∷ shown.Num (js_number.Whole (pos 4)) ∷ []) ∷ []) (ending.Done [])
makes_a_property_of_a_method = does refl (simp meaning_node refl)

-- let o = { get "__proto__"() { return 5; }, set __proto__(v) { f(v); } }; f(o.__proto__); o.__proto__ = 6;
makes_a_property_of_accessors :
    Does 9 nulls []
    (declare Let (codes "o") (object (tree kind.GetterProp (string (codes "__proto__") ▸ absent ▸ block (returns (whole 5) ▸ End) ▸ End)
    ▸ tree kind.SetterProp (key (codes "__proto__") ▸ absent ▸ binding (codes "v") ▸ block (statement (call (ident (codes "f")) (ident (codes "v") ▸ End)) ▸ End) ▸ End) ▸ End))
    ▸ statement (call (ident (codes "f")) (member (ident (codes "o")) (codes "__proto__") ▸ End))
    ▸ statement (assign (member (ident (codes "o")) (codes "__proto__")) (whole 6))
    ▸ End)
    (HostCall 7 shown.Undefined (shown.Num (js_number.Whole (pos 5)) ∷ []) ∷ HostCall 7 shown.Undefined (shown.Num (js_number.Whole (pos 6)) ∷ []) ∷ []) (ending.Done [])
makes_a_property_of_accessors = does refl (simp meaning_node refl)

-- let o = { ["__proto__"]: 7 }; o.__proto__ = 8; f(o.__proto__); f(delete o["__proto__"], "a" in o);
writes_its_own_property :
    Does 9 nulls []
    (declare Let (codes "o") (object (property (computed (string (codes "__proto__"))) (whole 7) ▸ End))
    ▸ statement (assign (member (ident (codes "o")) (codes "__proto__")) (whole 8))
    ▸ statement (call (ident (codes "f")) (member (ident (codes "o")) (codes "__proto__") ▸ End))
    ▸ statement (call (ident (codes "f")) (unary unary.Delete (tree kind.MemberExpr (ident (codes "o") ▸ computed (string (codes "__proto__")) ▸ End))
    ▸ binary binary.In (string (codes "a")) (ident (codes "o")) ▸ End))
    ▸ End)
    (HostCall 7 shown.Undefined (shown.Num (js_number.Whole (pos 8)) ∷ []) ∷ HostCall 7 shown.Undefined (shown.Bool true ∷ shown.Bool false ∷ []) ∷ []) (ending.Done [])
writes_its_own_property = does refl (simp meaning_node refl)

-- let __proto__ = 1; f({ __proto__, ["__proto__"]: 9 }.__proto__);
makes_the_last_of_two_properties :
    Does 9 nulls []
    (declare Let (codes "__proto__") (whole 1)
    ▸ statement (call (ident (codes "f")) (member (object (ident (codes "__proto__") ▸ property (computed (string (codes "__proto__"))) (whole 9) ▸ End)) (codes "__proto__")
    ▸ End))
    ▸ End)
    (HostCall 7 shown.Undefined (shown.Num (js_number.Whole (pos 9)) ∷ []) ∷ []) (ending.Done [])
makes_the_last_of_two_properties = does refl (simp meaning_node refl)

-- let { __proto__: a } = { ["__proto__"]: 1 }; f(a); let { __proto__ } = { ["__proto__"]: 2 }; f(__proto__);
binds_its_property_in_patterns :
    Does 9 nulls []
    (declare_pattern Let (tree (kind.ObjectPat false) (list (tree kind.KeyValuePatProp (key (codes "__proto__") ▸ binding (codes "a") ▸ End) ▸ End) ▸ absent
    ▸ End)) (object (property (computed (string (codes "__proto__"))) (whole 1) ▸ End))
    ▸ statement (call (ident (codes "f")) (ident (codes "a") ▸ End))
    ▸ declare_pattern Let (tree (kind.ObjectPat false) (list (tree kind.AssignPatProp (binding (codes "__proto__") ▸ absent ▸ End) ▸ End) ▸ absent
    ▸ End)) (object (property (computed (string (codes "__proto__"))) (whole 2) ▸ End))
    ▸ statement (call (ident (codes "f")) (ident (codes "__proto__") ▸ End))
    ▸ End)
    (HostCall 7 shown.Undefined (shown.Num (js_number.Whole (pos 1)) ∷ []) ∷ HostCall 7 shown.Undefined (shown.Num (js_number.Whole (pos 2)) ∷ []) ∷ []) (ending.Done [])
binds_its_property_in_patterns = does refl (simp meaning_node refl)

-- let a; ({ __proto__: a } = { ["__proto__"]: { b: 3 } }); f(a.b);
assigns_its_property_in_patterns :
    Does 9 nulls []
    (declare Let (codes "a") absent
    ▸ statement (parens (assign (tree (kind.ObjectPat false) (list (tree kind.KeyValuePatProp (key (codes "__proto__") ▸ binding (codes "a") ▸ End) ▸ End) ▸ absent
    ▸ End)) (object (property (computed (string (codes "__proto__"))) (object (property (key (codes "b")) (whole 3) ▸ End)) ▸ End))))
    ▸ statement (call (ident (codes "f")) (member (ident (codes "a")) (codes "b") ▸ End))
    ▸ End)
    (HostCall 7 shown.Undefined (shown.Num (js_number.Whole (pos 3)) ∷ []) ∷ []) (ending.Done [])
assigns_its_property_in_patterns = does refl (simp meaning_node refl)

-- class A { __proto__() { return 4; } static __proto__() { return 5; } } f(new A().__proto__(), A.__proto__());
has_methods_of_classes :
    Does 9 nulls []
    (declare_class (codes "A") absent (class_method method.Method false (key (codes "__proto__")) End (returns (whole 4) ▸ End)
    ▸ class_method method.Method true (key (codes "__proto__")) End (returns (whole 5) ▸ End) ▸ End)
    ▸ statement (call (ident (codes "f")) (call (member (new' (ident (codes "A")) End) (codes "__proto__")) End ▸ call (member (ident (codes "A")) (codes "__proto__")) End ▸ End))
    ▸ End)
    (HostCall 7 shown.Undefined (shown.Num (js_number.Whole (pos 4)) ∷ shown.Num (js_number.Whole (pos 5)) ∷ []) ∷ []) (ending.Done [])
has_methods_of_classes = does refl (simp meaning_node refl)

-- class A { __proto__ = 6; } f(new A().__proto__);
has_fields_of_classes :
    Does 9 nulls []
    (declare_class (codes "A") absent (field false (key (codes "__proto__")) (whole 6) ▸ End)
    ▸ statement (call (ident (codes "f")) (member (new' (ident (codes "A")) End) (codes "__proto__") ▸ End))
    ▸ End)
    (HostCall 7 shown.Undefined (shown.Num (js_number.Whole (pos 6)) ∷ []) ∷ []) (ending.Done [])
has_fields_of_classes = does refl (simp meaning_node refl)

-- f(1); ({ __proto__: f(2) });
sets_no_prototype_by_a_key :
    Does 9 nulls []
    (statement (call (ident (codes "f")) (whole 1 ▸ End))
    ▸ statement (parens (object (property (key (codes "__proto__")) (call (ident (codes "f")) (whole 2 ▸ End)) ▸ End)))
    ▸ End)
    (HostCall 7 shown.Undefined (shown.Num (js_number.Whole (pos 1)) ∷ []) ∷ []) (ending.Outside)
sets_no_prototype_by_a_key = does refl (simp meaning_node refl)

-- f(1); ({ "__proto__": f(2) });
sets_no_prototype_by_a_text :
    Does 9 nulls []
    (statement (call (ident (codes "f")) (whole 1 ▸ End))
    ▸ statement (parens (object (property (string (codes "__proto__")) (call (ident (codes "f")) (whole 2 ▸ End)) ▸ End)))
    ▸ End)
    (HostCall 7 shown.Undefined (shown.Num (js_number.Whole (pos 1)) ∷ []) ∷ []) (ending.Outside)
sets_no_prototype_by_a_text = does refl (simp meaning_node refl)

-- let o = { a: 1 }; f(o.a); o.__proto__;
reads_no_prototype :
    Does 9 nulls []
    (declare Let (codes "o") (object (property (key (codes "a")) (whole 1) ▸ End))
    ▸ statement (call (ident (codes "f")) (member (ident (codes "o")) (codes "a") ▸ End))
    ▸ statement (member (ident (codes "o")) (codes "__proto__"))
    ▸ End)
    (HostCall 7 shown.Undefined (shown.Num (js_number.Whole (pos 1)) ∷ []) ∷ []) (ending.Outside)
reads_no_prototype = does refl (simp meaning_node refl)

-- f(1); let { __proto__ } = {};
matches_no_prototype :
    Does 9 nulls []
    (statement (call (ident (codes "f")) (whole 1 ▸ End))
    ▸ declare_pattern Let (tree (kind.ObjectPat false) (list (tree kind.AssignPatProp (binding (codes "__proto__") ▸ absent ▸ End) ▸ End) ▸ absent ▸ End)) (object End)
    ▸ End)
    (HostCall 7 shown.Undefined (shown.Num (js_number.Whole (pos 1)) ∷ []) ∷ []) (ending.Outside)
matches_no_prototype = does refl (simp meaning_node refl)
