-- Enums, where node runs what is written for them: each fact is a small module and what node observes of it, by computing. Written by compare/facts.mjs.
use Rattle.std.proofs.Common.{refl, pos, [], ◌∷◌, Some, true, false, codes}
use Rattle.ecma_number.specs.declared.js_number.JsNumber.TheVariants as js_number
use Rattle.ecma_kind.specs.declared.kind.Kind.TheVariants as kind
use Rattle.ecma_kind.specs.declared.operators.AssignOp.TheVariants as assign
use Rattle.ecma_kind.specs.declared.operators.BinaryOp.TheVariants as binary
use Rattle.ecma_kind.specs.declared.operators.UnaryOp.TheVariants as unary
use Rattle.ecma_kind.specs.declared.operators.UpdateOp.TheVariants as update
use Rattle.ecma_kind.specs.declared.operators.VarDeclKind.TheVariants.{Let}
use Rattle.ecma_runs.specs.declared.observation.Event.TheVariants.{HostCall}
use Rattle.ecma_runs.specs.declared.observation.Ending.TheVariants as ending
use Rattle.ecma_runs.specs.declared.script.Action.TheVariants as action
use Rattle.ecma_runs.specs.declared.script.Answer.TheVariants.{Return}
use Rattle.ecma_runs.specs.declared.shown.ErrorKind.TheVariants as error
use Rattle.ecma_runs.specs.declared.shown.Shown.TheVariants as shown
use Rattle.ecma_runs.proofs.Trees.{End, ◌▸◌, tree, absent, list, ident, key, computed, whole, string, null, this', member, call}
use Rattle.ecma_runs.proofs.Trees.{assign, unary, binary, parens, object, property, statement, block, returns, declare, parameter, declare_function, arrow, meaning_node}
use Rattle.ecma_runs.proofs.ExportTrees.{exports_node}
use Rattle.ecma_enums.specs.declared.value.TsEnumRecordValue.TheVariants as enum_value
use Rattle.ecma_enums.specs.Walks.{walk_by}
use Rattle.ecma_enums.specs.Folding.{value_by}
use Rattle.ecma_enums.specs.Names.{name_by}
use Rattle.ecma_enums.specs.Keys.{key_by}
use Rattle.ecma_strip.specs.Staying.{member_stays_by, specifier_stays, is_declared}
use Rattle.ecma_tree.specs.Values.{value_by as is_value_by}
use Rattle.ecma_runs.proofs.KnownTrees.{reading_node, dotted_node}
use Rattle.ecma_runs.proofs.Scripts.{Does, does_known, nulls, entry, named, known}
use Rattle.std.specs.Fmt.{digits}
use Rattle.ecma_number.specs.Arithmetic.{product_of}

-- var E; (function (E) { E[E["A"] = 0] = "A"; E[E["B"] = 1] = "B"; E["C"] = "t"; })(E || (E = {})); f(E.A, E["B"], E.C, E[0], E[1], E.t);
numbers_members_and_finds_their_names :
    Does 9 nulls []
    (tree (kind.TsEnumDecl false false) (ident (codes "E") ▸ list (tree kind.TsEnumMember (tree (kind.Ident (codes "A") 2 false) End ▸ absent ▸ End)
    ▸ tree kind.TsEnumMember (tree (kind.Ident (codes "B") 2 false) End ▸ absent ▸ End) ▸ tree kind.TsEnumMember (tree (kind.Ident (codes "C") 2 false) End ▸ string (codes "t")
    ▸ End) ▸ End) ▸ End)
    ▸ statement (call (ident (codes "f")) (member (ident (codes "E")) (codes "A") ▸ tree kind.MemberExpr (ident (codes "E") ▸ computed (string (codes "B")) ▸ End)
    ▸ member (ident (codes "E")) (codes "C") ▸ tree kind.MemberExpr (ident (codes "E") ▸ computed (whole 0) ▸ End) ▸ tree kind.MemberExpr (ident (codes "E") ▸ computed (whole 1)
    ▸ End) ▸ member (ident (codes "E")) (codes "t") ▸ End))
    ▸ End)
    (HostCall 7 shown.Undefined (shown.Num (js_number.Whole (pos 0)) ∷ shown.Num (js_number.Whole (pos 1)) ∷ shown.Text (codes "t") ∷ shown.Text (codes "A")
    ∷ shown.Text (codes "B") ∷ shown.Undefined ∷ []) ∷ []) (ending.Done [])
unfolding digits walk_by value_by name_by key_by member_stays_by specifier_stays is_declared is_value_by
numbers_members_and_finds_their_names = does_known (known (entry (codes "E") (codes "A") (enum_value.Number (js_number.Whole (pos 0))) false
    ∷ entry (codes "E") (codes "B") (enum_value.Number (js_number.Whole (pos 1))) false ∷ entry (codes "E") (codes "C") (enum_value.String (codes "t")) false
    ∷ []) (named (codes "A") (codes "E") ∷ named (codes "B") (codes "E") ∷ named (codes "C") (codes "E") ∷ []) []) refl (simp (meaning_node, reading_node) refl)

-- var E; (function (E) { E[E["A"] = 3] = "A"; E[E["B"] = 6] = "B"; E["C"] = "x3"; })(E || (E = {})); f(E.A, E.B, E.C, E[6]);
folds_initialisers :
    Does 9 nulls []
    (tree (kind.TsEnumDecl false false) (ident (codes "E") ▸ list (tree kind.TsEnumMember (tree (kind.Ident (codes "A") 2 false) End ▸ binary binary.Add (whole 1) (whole 2) ▸ End)
    ▸ tree kind.TsEnumMember (tree (kind.Ident (codes "B") 2 false) End ▸ binary binary.Mul (tree (kind.Ident (codes "A") 2 false) End) (whole 2) ▸ End)
    ▸ tree kind.TsEnumMember (tree (kind.Ident (codes "C") 2 false) End ▸ binary binary.Add (string (codes "x")) (member (ident (codes "E")) (codes "A")) ▸ End) ▸ End) ▸ End)
    ▸ statement (call (ident (codes "f")) (member (ident (codes "E")) (codes "A") ▸ member (ident (codes "E")) (codes "B") ▸ member (ident (codes "E")) (codes "C")
    ▸ tree kind.MemberExpr (ident (codes "E") ▸ computed (whole 6) ▸ End) ▸ End))
    ▸ End)
    (HostCall 7 shown.Undefined (shown.Num (js_number.Whole (pos 3)) ∷ shown.Num (js_number.Whole (pos 6)) ∷ shown.Text (codes "x3") ∷ shown.Text (codes "B") ∷ [])
    ∷ []) (ending.Done [])
unfolding product_of digits walk_by value_by name_by key_by member_stays_by specifier_stays is_declared is_value_by
folds_initialisers = does_known (known (entry (codes "E") (codes "A") (enum_value.Number (js_number.Whole (pos 3))) false
    ∷ entry (codes "E") (codes "B") (enum_value.Number (js_number.Whole (pos 6))) false ∷ entry (codes "E") (codes "C") (enum_value.String (codes "x3")) false
    ∷ []) (named (codes "A") (codes "E") ∷ named (codes "B") (codes "E") ∷ named (codes "C") (codes "E") ∷ []) []) refl (simp (meaning_node, reading_node) refl)

-- var E; (function (E) { E[E["A"] = f(1)] = "A"; E[E["B"] = 5] = "B"; E[E["C"] = g(E.A, 5)] = "C"; })(E || (E = {})); f(E.A, E.C, E[7]);
evaluates_other_initialisers_in_order :
    Does 9 (Return (shown.Num (js_number.Whole (pos 7))) ∷ Return (shown.Num (js_number.Whole (pos 8))) ∷ Return shown.Null ∷ []) []
    (tree (kind.TsEnumDecl false false) (ident (codes "E") ▸ list (tree kind.TsEnumMember (tree (kind.Ident (codes "A") 2 false) End ▸ call (ident (codes "f")) (whole 1 ▸ End)
    ▸ End) ▸ tree kind.TsEnumMember (tree (kind.Ident (codes "B") 2 false) End ▸ whole 5 ▸ End) ▸ tree kind.TsEnumMember (tree (kind.Ident (codes "C") 2 false) End
    ▸ call (ident (codes "g")) (tree (kind.Ident (codes "A") 2 false) End ▸ tree (kind.Ident (codes "B") 2 false) End ▸ End) ▸ End) ▸ End) ▸ End)
    ▸ statement (call (ident (codes "f")) (member (ident (codes "E")) (codes "A") ▸ member (ident (codes "E")) (codes "C") ▸ tree kind.MemberExpr (ident (codes "E")
    ▸ computed (whole 7) ▸ End) ▸ End))
    ▸ End)
    (HostCall 7 shown.Undefined (shown.Num (js_number.Whole (pos 1)) ∷ []) ∷ HostCall 8 shown.Undefined (shown.Num (js_number.Whole (pos 7)) ∷ shown.Num (js_number.Whole (pos 5))
    ∷ []) ∷ HostCall 7 shown.Undefined (shown.Num (js_number.Whole (pos 7)) ∷ shown.Num (js_number.Whole (pos 8)) ∷ shown.Text (codes "A") ∷ []) ∷ []) (ending.Done [])
unfolding digits walk_by value_by name_by key_by member_stays_by specifier_stays is_declared is_value_by
evaluates_other_initialisers_in_order = does_known (known (entry (codes "E") (codes "A") enum_value.Opaque false
    ∷ entry (codes "E") (codes "B") (enum_value.Number (js_number.Whole (pos 5))) false ∷ entry (codes "E") (codes "C") enum_value.Opaque false
    ∷ []) (named (codes "A") (codes "E") ∷ named (codes "B") (codes "E") ∷ named (codes "C") (codes "E") ∷ []) []) refl (simp (meaning_node, reading_node) refl)

-- var E; (function (E) { E["A"] = "t"; E[E["B"] = void 0] = "B"; })(E || (E = {})); f(E.A, E.B, E[undefined]);
has_undefined_behind_a_text :
    Does 9 nulls []
    (tree (kind.TsEnumDecl false false) (ident (codes "E") ▸ list (tree kind.TsEnumMember (tree (kind.Ident (codes "A") 2 false) End ▸ string (codes "t") ▸ End)
    ▸ tree kind.TsEnumMember (tree (kind.Ident (codes "B") 2 false) End ▸ absent ▸ End) ▸ End) ▸ End)
    ▸ statement (call (ident (codes "f")) (member (ident (codes "E")) (codes "A") ▸ member (ident (codes "E")) (codes "B") ▸ tree kind.MemberExpr (ident (codes "E")
    ▸ computed (ident (codes "undefined")) ▸ End) ▸ End))
    ▸ End)
    (HostCall 7 shown.Undefined (shown.Text (codes "t") ∷ shown.Undefined ∷ shown.Text (codes "B") ∷ []) ∷ []) (ending.Done [])
unfolding digits walk_by value_by name_by key_by member_stays_by specifier_stays is_declared is_value_by
has_undefined_behind_a_text = does_known (known (entry (codes "E") (codes "A") (enum_value.String (codes "t")) false ∷ entry (codes "E") (codes "B") enum_value.Void false
    ∷ []) (named (codes "A") (codes "E") ∷ named (codes "B") (codes "E") ∷ []) []) refl (simp (meaning_node, reading_node) refl)

-- var E; (function (E) { E[E["A"] = -0] = "A"; E[E["B"] = 0 / 0] = "B"; E[E["C"] = -1 / 0] = "C"; })(E || (E = {})); f(E.A, E.B, E.C, E[0], E[NaN]);
knows_zeros_and_what_is_no_number :
    Does 9 nulls []
    (tree (kind.TsEnumDecl false false) (ident (codes "E") ▸ list (tree kind.TsEnumMember (tree (kind.Ident (codes "A") 2 false) End ▸ unary unary.Minus (whole 0) ▸ End)
    ▸ tree kind.TsEnumMember (tree (kind.Ident (codes "B") 2 false) End ▸ ident (codes "NaN") ▸ End) ▸ tree kind.TsEnumMember (tree (kind.Ident (codes "C") 2 false) End
    ▸ unary unary.Minus (ident (codes "Infinity")) ▸ End) ▸ End) ▸ End)
    ▸ statement (call (ident (codes "f")) (member (ident (codes "E")) (codes "A") ▸ member (ident (codes "E")) (codes "B") ▸ member (ident (codes "E")) (codes "C")
    ▸ tree kind.MemberExpr (ident (codes "E") ▸ computed (whole 0) ▸ End) ▸ tree kind.MemberExpr (ident (codes "E") ▸ computed (ident (codes "NaN")) ▸ End) ▸ End))
    ▸ End)
    (HostCall 7 shown.Undefined (shown.Num (js_number.NegZero) ∷ shown.Num (js_number.NaN) ∷ shown.Num (js_number.NegInfinity) ∷ shown.Text (codes "A") ∷ shown.Text (codes "B")
    ∷ []) ∷ []) (ending.Done [])
unfolding digits walk_by value_by name_by key_by member_stays_by specifier_stays is_declared is_value_by
knows_zeros_and_what_is_no_number = does_known (known (entry (codes "E") (codes "A") (enum_value.Number (js_number.NegZero)) false
    ∷ entry (codes "E") (codes "B") (enum_value.Number (js_number.NaN)) false ∷ entry (codes "E") (codes "C") (enum_value.Number (js_number.NegInfinity)) false
    ∷ []) (named (codes "A") (codes "E") ∷ named (codes "B") (codes "E") ∷ named (codes "C") (codes "E")
    ∷ []) []) (simp (meaning_node, exports_node) refl) (simp (meaning_node, reading_node) refl)

-- f(1); var E; (function (E) { E[E["A"] = 0] = "A"; E[E["B"] = null.x] = "B"; E[E["C"] = f(2)] = "C"; })(E || (E = {}));
ends_a_part_where_an_initialiser_throws :
    Does 9 nulls []
    (statement (call (ident (codes "f")) (whole 1 ▸ End))
    ▸ tree (kind.TsEnumDecl false false) (ident (codes "E") ▸ list (tree kind.TsEnumMember (tree (kind.Ident (codes "A") 2 false) End ▸ absent ▸ End)
    ▸ tree kind.TsEnumMember (tree (kind.Ident (codes "B") 2 false) End ▸ member null (codes "x") ▸ End) ▸ tree kind.TsEnumMember (tree (kind.Ident (codes "C") 2 false) End
    ▸ call (ident (codes "f")) (whole 2 ▸ End) ▸ End) ▸ End) ▸ End)
    ▸ End)
    (HostCall 7 shown.Undefined (shown.Num (js_number.Whole (pos 1)) ∷ []) ∷ []) (ending.Thrown (shown.Error error.Kind))
unfolding digits walk_by value_by name_by key_by member_stays_by specifier_stays is_declared is_value_by
ends_a_part_where_an_initialiser_throws = does_known (known (entry (codes "E") (codes "A") (enum_value.Number (js_number.Whole (pos 0))) false
    ∷ entry (codes "E") (codes "B") enum_value.Opaque false ∷ entry (codes "E") (codes "C") enum_value.Opaque false ∷ []) (named (codes "A") (codes "E")
    ∷ named (codes "B") (codes "E") ∷ named (codes "C") (codes "E") ∷ []) []) refl (simp (meaning_node, reading_node) refl)

-- var E; (function (E) { E[E["A"] = 1] = "A"; })(E || (E = {})); let o = E; (function (E) { E[E["B"] = 3] = "B"; E[E["C"] = f(1)] = "C"; })(E || (E = {})); f(o === E, E.A, E.B, o[3]);
adds_to_the_object_of_an_earlier_part :
    Does 9 nulls []
    (tree (kind.TsEnumDecl false false) (ident (codes "E") ▸ list (tree kind.TsEnumMember (tree (kind.Ident (codes "A") 2 false) End ▸ whole 1 ▸ End) ▸ End) ▸ End)
    ▸ declare Let (codes "o") (ident (codes "E"))
    ▸ tree (kind.TsEnumDecl false false) (ident (codes "E") ▸ list (tree kind.TsEnumMember (tree (kind.Ident (codes "B") 2 false) End
    ▸ binary binary.Add (tree (kind.Ident (codes "A") 2 false) End) (whole 2) ▸ End) ▸ tree kind.TsEnumMember (tree (kind.Ident (codes "C") 2 false) End
    ▸ call (ident (codes "f")) (tree (kind.Ident (codes "A") 2 false) End ▸ End) ▸ End) ▸ End) ▸ End)
    ▸ statement (call (ident (codes "f")) (binary binary.EqEqEq (ident (codes "o")) (ident (codes "E")) ▸ member (ident (codes "E")) (codes "A")
    ▸ member (ident (codes "E")) (codes "B") ▸ tree kind.MemberExpr (ident (codes "o") ▸ computed (whole 3) ▸ End) ▸ End))
    ▸ End)
    (HostCall 7 shown.Undefined (shown.Num (js_number.Whole (pos 1)) ∷ []) ∷ HostCall 7 shown.Undefined (shown.Bool true ∷ shown.Num (js_number.Whole (pos 1))
    ∷ shown.Num (js_number.Whole (pos 3)) ∷ shown.Text (codes "B") ∷ []) ∷ []) (ending.Done [])
unfolding digits walk_by value_by name_by key_by member_stays_by specifier_stays is_declared is_value_by
adds_to_the_object_of_an_earlier_part = does_known (known (entry (codes "E") (codes "A") (enum_value.Number (js_number.Whole (pos 1))) false
    ∷ entry (codes "E") (codes "B") (enum_value.Number (js_number.Whole (pos 3))) false ∷ entry (codes "E") (codes "C") enum_value.Opaque false
    ∷ []) (named (codes "A") (codes "E") ∷ named (codes "B") (codes "E") ∷ named (codes "C") (codes "E") ∷ []) []) refl (simp (meaning_node, reading_node) refl)

-- f(typeof E, E); var E; (function (E) { E[E["A"] = 0] = "A"; })(E || (E = {})); f(typeof E);
is_undefined_before_its_first_part :
    Does 9 nulls []
    (statement (call (ident (codes "f")) (unary unary.TypeOf (ident (codes "E")) ▸ ident (codes "E") ▸ End))
    ▸ tree (kind.TsEnumDecl false false) (ident (codes "E") ▸ list (tree kind.TsEnumMember (tree (kind.Ident (codes "A") 2 false) End ▸ absent ▸ End) ▸ End) ▸ End)
    ▸ statement (call (ident (codes "f")) (unary unary.TypeOf (ident (codes "E")) ▸ End))
    ▸ End)
    (HostCall 7 shown.Undefined (shown.Text (codes "undefined") ∷ shown.Undefined ∷ []) ∷ HostCall 7 shown.Undefined (shown.Text (codes "object") ∷ []) ∷ []) (ending.Done [])
unfolding digits walk_by value_by name_by key_by member_stays_by specifier_stays is_declared is_value_by
is_undefined_before_its_first_part = does_known (known (entry (codes "E") (codes "A") (enum_value.Number (js_number.Whole (pos 0))) false ∷ []) (named (codes "A") (codes "E")
    ∷ []) []) refl (simp (meaning_node, reading_node) refl)

-- { f(1); E; let E; }
is_empty_before_its_first_part_in_a_block :
    Does 9 nulls []
    (block (statement (call (ident (codes "f")) (whole 1 ▸ End)) ▸ statement (ident (codes "E")) ▸ tree (kind.TsEnumDecl false false) (ident (codes "E")
    ▸ list (tree kind.TsEnumMember (tree (kind.Ident (codes "A") 2 false) End ▸ absent ▸ End) ▸ End) ▸ End) ▸ End)
    ▸ End)
    (HostCall 7 shown.Undefined (shown.Num (js_number.Whole (pos 1)) ∷ []) ∷ []) (ending.Thrown (shown.Error error.Reference))
unfolding digits walk_by value_by name_by key_by member_stays_by specifier_stays is_declared is_value_by
is_empty_before_its_first_part_in_a_block = does_known (known (entry (codes "E") (codes "A") (enum_value.Number (js_number.Whole (pos 0))) false
    ∷ []) (named (codes "A") (codes "E") ∷ []) []) refl (simp (meaning_node, reading_node) refl)

-- for (let i = 0; i < 2; i = i + 1) { let E; (function (E) { E[E["A"] = f(i)] = "A"; })(E || (E = {})); g(E.A, E[5], E[6]); }
has_an_object_of_its_own_each_time_its_block_is_entered :
    Does 9 (Return (shown.Num (js_number.Whole (pos 5))) ∷ Return shown.Null ∷ Return (shown.Num (js_number.Whole (pos 6))) ∷ Return shown.Null ∷ []) []
    (tree kind.ForStmt (declare Let (codes "i") (whole 0) ▸ binary binary.Lt (ident (codes "i")) (whole 2)
    ▸ assign (ident (codes "i")) (binary binary.Add (ident (codes "i")) (whole 1)) ▸ block (tree (kind.TsEnumDecl false false) (ident (codes "E")
    ▸ list (tree kind.TsEnumMember (tree (kind.Ident (codes "A") 2 false) End ▸ call (ident (codes "f")) (ident (codes "i") ▸ End) ▸ End) ▸ End) ▸ End)
    ▸ statement (call (ident (codes "g")) (member (ident (codes "E")) (codes "A") ▸ tree kind.MemberExpr (ident (codes "E") ▸ computed (whole 5) ▸ End)
    ▸ tree kind.MemberExpr (ident (codes "E") ▸ computed (whole 6) ▸ End) ▸ End)) ▸ End) ▸ End)
    ▸ End)
    (HostCall 7 shown.Undefined (shown.Num (js_number.Whole (pos 0)) ∷ []) ∷ HostCall 8 shown.Undefined (shown.Num (js_number.Whole (pos 5)) ∷ shown.Text (codes "A")
    ∷ shown.Undefined ∷ []) ∷ HostCall 7 shown.Undefined (shown.Num (js_number.Whole (pos 1)) ∷ []) ∷ HostCall 8 shown.Undefined (shown.Num (js_number.Whole (pos 6))
    ∷ shown.Undefined ∷ shown.Text (codes "A") ∷ []) ∷ []) (ending.Done [])
unfolding digits walk_by value_by name_by key_by member_stays_by specifier_stays is_declared is_value_by
has_an_object_of_its_own_each_time_its_block_is_entered = does_known (known (entry (codes "E") (codes "A") enum_value.Opaque false ∷ []) (named (codes "A") (codes "E")
    ∷ []) []) refl (simp (meaning_node, reading_node) refl)

-- var E; (function (E) { E[E["A"] = f(this, arguments.length)] = "A"; })(E || (E = {}));
calls_a_function_with_the_object :
    Does 9 nulls []
    (tree (kind.TsEnumDecl false false) (ident (codes "E") ▸ list (tree kind.TsEnumMember (tree (kind.Ident (codes "A") 2 false) End ▸ call (ident (codes "f")) (this'
    ▸ member (ident (codes "arguments")) (codes "length") ▸ End) ▸ End) ▸ End) ▸ End)
    ▸ End)
    (HostCall 7 shown.Undefined (shown.Undefined ∷ shown.Num (js_number.Whole (pos 1)) ∷ []) ∷ []) (ending.Done [])
unfolding digits walk_by value_by name_by key_by member_stays_by specifier_stays is_declared is_value_by
calls_a_function_with_the_object = does_known (known (entry (codes "E") (codes "A") enum_value.Opaque false ∷ []) (named (codes "A") (codes "E")
    ∷ []) []) refl (simp (meaning_node, reading_node) refl)

-- f(1);
spends_a_turn_at_a_part :
    Does 0 nulls []
    (statement (call (ident (codes "f")) (whole 1 ▸ End))
    ▸ tree (kind.TsEnumDecl false false) (ident (codes "E") ▸ list (tree kind.TsEnumMember (tree (kind.Ident (codes "A") 2 false) End ▸ absent ▸ End) ▸ End) ▸ End)
    ▸ statement (call (ident (codes "f")) (whole 2 ▸ End))
    ▸ End)
    (HostCall 7 shown.Undefined (shown.Num (js_number.Whole (pos 1)) ∷ []) ∷ []) (ending.TurnsSpent)
unfolding digits walk_by value_by name_by key_by member_stays_by specifier_stays is_declared is_value_by
spends_a_turn_at_a_part = does_known (known (entry (codes "E") (codes "A") (enum_value.Number (js_number.Whole (pos 0))) false ∷ []) (named (codes "A") (codes "E")
    ∷ []) []) refl (simp (meaning_node, reading_node) refl)

-- f(0, "t", 0);
writes_no_member_of_a_const_enum :
    Does 0 nulls []
    (tree (kind.TsEnumDecl false true) (ident (codes "E") ▸ list (tree kind.TsEnumMember (tree (kind.Ident (codes "A") 2 false) End ▸ absent ▸ End)
    ▸ tree kind.TsEnumMember (tree (kind.Ident (codes "B") 2 false) End ▸ string (codes "t") ▸ End) ▸ End) ▸ End)
    ▸ statement (call (ident (codes "f")) (member (ident (codes "E")) (codes "A") ▸ tree kind.MemberExpr (ident (codes "E") ▸ computed (string (codes "B")) ▸ End)
    ▸ tree kind.MemberExpr (ident (codes "E") ▸ computed (tree kind.Tpl (list End ▸ list (tree (kind.TplElement (codes "A") (Some (codes "A")) true) End ▸ End) ▸ End)) ▸ End)
    ▸ End))
    ▸ End)
    (HostCall 7 shown.Undefined (shown.Num (js_number.Whole (pos 0)) ∷ shown.Text (codes "t") ∷ shown.Num (js_number.Whole (pos 0)) ∷ []) ∷ []) (ending.Done [])
unfolding digits walk_by value_by name_by key_by member_stays_by specifier_stays is_declared is_value_by
writes_no_member_of_a_const_enum = does_known (known (entry (codes "E") (codes "A") (enum_value.Number (js_number.Whole (pos 0))) true
    ∷ entry (codes "E") (codes "B") (enum_value.String (codes "t")) true ∷ []) (named (codes "A") (codes "E") ∷ named (codes "B") (codes "E") ∷ []) ((codes "E")
    ∷ [])) (simp (meaning_node, exports_node) refl) (simp (meaning_node, reading_node) refl)

-- var E; (function (E) { E[E["B"] = f(2)] = "B"; E[E["C"] = 1 + g(E.B)] = "C"; })(E || (E = {})); f(1);
writes_members_of_a_const_enum_that_are_not_known :
    Does 9 (Return (shown.Num (js_number.Whole (pos 7))) ∷ Return (shown.Num (js_number.Whole (pos 8))) ∷ Return shown.Null ∷ []) []
    (tree (kind.TsEnumDecl false true) (ident (codes "E") ▸ list (tree kind.TsEnumMember (tree (kind.Ident (codes "A") 2 false) End ▸ whole 1 ▸ End)
    ▸ tree kind.TsEnumMember (tree (kind.Ident (codes "B") 2 false) End ▸ call (ident (codes "f")) (whole 2 ▸ End) ▸ End)
    ▸ tree kind.TsEnumMember (tree (kind.Ident (codes "C") 2 false) End
    ▸ binary binary.Add (tree (kind.Ident (codes "A") 2 false) End) (call (ident (codes "g")) (tree (kind.Ident (codes "B") 2 false) End ▸ End)) ▸ End) ▸ End) ▸ End)
    ▸ statement (call (ident (codes "f")) (member (ident (codes "E")) (codes "A") ▸ End))
    ▸ End)
    (HostCall 7 shown.Undefined (shown.Num (js_number.Whole (pos 2)) ∷ []) ∷ HostCall 8 shown.Undefined (shown.Num (js_number.Whole (pos 7)) ∷ [])
    ∷ HostCall 7 shown.Undefined (shown.Num (js_number.Whole (pos 1)) ∷ []) ∷ []) (ending.Done [])
unfolding digits walk_by value_by name_by key_by member_stays_by specifier_stays is_declared is_value_by
writes_members_of_a_const_enum_that_are_not_known = does_known (known (entry (codes "E") (codes "A") (enum_value.Number (js_number.Whole (pos 1))) true
    ∷ entry (codes "E") (codes "B") enum_value.Opaque true ∷ entry (codes "E") (codes "C") enum_value.Opaque true ∷ []) (named (codes "A") (codes "E")
    ∷ named (codes "B") (codes "E") ∷ named (codes "C") (codes "E") ∷ []) ((codes "E") ∷ [])) (simp (meaning_node, exports_node) refl) (simp (meaning_node, reading_node) refl)

-- var E; (function (E) { E[E["A"] = 0] = "A"; })(E || (E = {})); f(0, E[0]);
writes_all_members_of_a_const_enum_that_is_exported :
    Does 9 nulls []
    (tree (kind.TsEnumDecl false true) (ident (codes "E") ▸ list (tree kind.TsEnumMember (tree (kind.Ident (codes "A") 2 false) End ▸ absent ▸ End) ▸ End) ▸ End)
    ▸ statement (call (ident (codes "f")) (member (ident (codes "E")) (codes "A") ▸ tree kind.MemberExpr (ident (codes "E") ▸ computed (whole 0) ▸ End) ▸ End))
    ▸ tree (kind.NamedExport false) (list (tree (kind.ExportNamedSpecifier false) (ident (codes "E") ▸ absent ▸ End) ▸ End) ▸ absent ▸ absent ▸ End)
    ▸ End)
    (HostCall 7 shown.Undefined (shown.Num (js_number.Whole (pos 0)) ∷ shown.Text (codes "A") ∷ []) ∷ []) (ending.Done [])
unfolding digits walk_by value_by name_by key_by member_stays_by specifier_stays is_declared is_value_by
writes_all_members_of_a_const_enum_that_is_exported = does_known (known (entry (codes "E") (codes "A") (enum_value.Number (js_number.Whole (pos 0))) true
    ∷ []) (named (codes "A") (codes "E") ∷ []) []) (simp (meaning_node, exports_node) refl) (simp (meaning_node, reading_node) refl)

-- export var E; (function (E) { E[E["A"] = 4] = "A"; })(E || (E = {})); f(E.A);
exports_an_enum :
    Does 9 nulls (action.ReadExport (codes "E") ∷ action.Get 0 (codes "A") ∷ action.Get 0 (codes "4") ∷ [])
    (tree kind.ExportDecl (tree (kind.TsEnumDecl false false) (ident (codes "E") ▸ list (tree kind.TsEnumMember (tree (kind.Ident (codes "A") 2 false) End ▸ whole 4 ▸ End) ▸ End)
    ▸ End) ▸ End)
    ▸ statement (call (ident (codes "f")) (member (ident (codes "E")) (codes "A") ▸ End))
    ▸ End)
    (HostCall 7 shown.Undefined (shown.Num (js_number.Whole (pos 4)) ∷ []) ∷ []) (ending.Done (Return (shown.Handle 0) ∷ Return (shown.Num (js_number.Whole (pos 4)))
    ∷ Return (shown.Text (codes "A")) ∷ []))
unfolding digits walk_by value_by name_by key_by member_stays_by specifier_stays is_declared is_value_by
exports_an_enum = does_known (known (entry (codes "E") (codes "A") (enum_value.Number (js_number.Whole (pos 4))) false ∷ []) (named (codes "A") (codes "E")
    ∷ []) []) refl (simp (meaning_node, exports_node, reading_node) refl)

-- var E; (function (E) { E[E["A"] = 1] = "A"; E[E["B"] = f({ A: 1 })] = "B"; })(E || (E = {}));
names_members_in_shorthands :
    Does 9 nulls (action.Get 0 (codes "A") ∷ [])
    (tree (kind.TsEnumDecl false false) (ident (codes "E") ▸ list (tree kind.TsEnumMember (tree (kind.Ident (codes "A") 2 false) End ▸ whole 1 ▸ End)
    ▸ tree kind.TsEnumMember (tree (kind.Ident (codes "B") 2 false) End ▸ call (ident (codes "f")) (object (tree (kind.Ident (codes "A") 2 false) End ▸ End) ▸ End) ▸ End) ▸ End)
    ▸ End)
    ▸ End)
    (HostCall 7 shown.Undefined (shown.Handle 0 ∷ []) ∷ []) (ending.Done (Return (shown.Num (js_number.Whole (pos 1))) ∷ []))
unfolding digits walk_by value_by name_by key_by member_stays_by specifier_stays is_declared is_value_by
names_members_in_shorthands = does_known (known (entry (codes "E") (codes "A") (enum_value.Number (js_number.Whole (pos 1))) false
    ∷ entry (codes "E") (codes "B") enum_value.Opaque false ∷ []) (named (codes "A") (codes "E") ∷ named (codes "B") (codes "E")
    ∷ []) []) refl (simp (meaning_node, reading_node) refl)

-- var E; (function (E) { E[E["A"] = 1] = "A"; E[E["B"] = ((_) => 1)(2)] = "B"; })(E || (E = {})); f(E.B);
names_members_behind_other_names_of_the_enum :
    Does 9 nulls []
    (tree (kind.TsEnumDecl false false) (ident (codes "E") ▸ list (tree kind.TsEnumMember (tree (kind.Ident (codes "A") 2 false) End ▸ whole 1 ▸ End)
    ▸ tree kind.TsEnumMember (tree (kind.Ident (codes "B") 2 false) End ▸ call (parens (arrow (tree kind.BindingIdent (tree (kind.Ident (codes "E") 3 false) End ▸ absent ▸ End)
    ▸ End) (tree (kind.Ident (codes "A") 2 false) End))) (whole 2 ▸ End) ▸ End) ▸ End) ▸ End)
    ▸ statement (call (ident (codes "f")) (member (ident (codes "E")) (codes "B") ▸ End))
    ▸ End)
    (HostCall 7 shown.Undefined (shown.Num (js_number.Whole (pos 1)) ∷ []) ∷ []) (ending.Done [])
unfolding digits walk_by value_by name_by key_by member_stays_by specifier_stays is_declared is_value_by
names_members_behind_other_names_of_the_enum = does_known (known (entry (codes "E") (codes "A") (enum_value.Number (js_number.Whole (pos 1))) false
    ∷ entry (codes "E") (codes "B") enum_value.Opaque false ∷ []) (named (codes "A") (codes "E") ∷ named (codes "B") (codes "E")
    ∷ []) []) refl (simp (meaning_node, reading_node) refl)

-- var E; (function (E) { E[E["A"] = 1] = "A"; E[E["B"] = f(E.A = 2, delete E.A, typeof 1)] = "B"; })(E || (E = {})); f("A" in E);
sets_and_deletes_members_by_their_names :
    Does 9 nulls []
    (tree (kind.TsEnumDecl false false) (ident (codes "E") ▸ list (tree kind.TsEnumMember (tree (kind.Ident (codes "A") 2 false) End ▸ whole 1 ▸ End)
    ▸ tree kind.TsEnumMember (tree (kind.Ident (codes "B") 2 false) End ▸ call (ident (codes "f")) (assign (tree (kind.Ident (codes "A") 2 false) End) (whole 2)
    ▸ unary unary.Delete (tree kind.TsNonNullExpr (tree (kind.Ident (codes "A") 2 false) End ▸ End)) ▸ unary unary.TypeOf (whole 1) ▸ End) ▸ End) ▸ End) ▸ End)
    ▸ statement (call (ident (codes "f")) (binary binary.In (string (codes "A")) (ident (codes "E")) ▸ End))
    ▸ End)
    (HostCall 7 shown.Undefined (shown.Num (js_number.Whole (pos 2)) ∷ shown.Bool true ∷ shown.Text (codes "number") ∷ []) ∷ HostCall 7 shown.Undefined (shown.Bool false ∷ [])
    ∷ []) (ending.Done [])
unfolding digits walk_by value_by name_by key_by member_stays_by specifier_stays is_declared is_value_by
sets_and_deletes_members_by_their_names = does_known (known (entry (codes "E") (codes "A") (enum_value.Number (js_number.Whole (pos 1))) false
    ∷ entry (codes "E") (codes "B") enum_value.Opaque false ∷ []) (named (codes "A") (codes "E") ∷ named (codes "B") (codes "E")
    ∷ []) []) refl (simp (meaning_node, reading_node) refl)

-- var E; (function (E) { E[E["A"] = 1] = "A"; })(E || (E = {})); E.A = 3; f((E).A, E?.A);
looks_up_a_member_in_parentheses_or_behind_a_question_mark :
    Does 9 nulls []
    (tree (kind.TsEnumDecl false false) (ident (codes "E") ▸ list (tree kind.TsEnumMember (tree (kind.Ident (codes "A") 2 false) End ▸ whole 1 ▸ End) ▸ End) ▸ End)
    ▸ statement (assign (member (ident (codes "E")) (codes "A")) (whole 3))
    ▸ statement (call (ident (codes "f")) (member (parens (ident (codes "E"))) (codes "A") ▸ tree (kind.OptChainExpr true) (member (ident (codes "E")) (codes "A") ▸ End) ▸ End))
    ▸ End)
    (HostCall 7 shown.Undefined (shown.Num (js_number.Whole (pos 3)) ∷ shown.Num (js_number.Whole (pos 3)) ∷ []) ∷ []) (ending.Done [])
unfolding digits walk_by value_by name_by key_by member_stays_by specifier_stays is_declared is_value_by
looks_up_a_member_in_parentheses_or_behind_a_question_mark = does_known (known (entry (codes "E") (codes "A") (enum_value.Number (js_number.Whole (pos 1))) false
    ∷ []) (named (codes "A") (codes "E") ∷ []) []) refl (simp (meaning_node, reading_node) refl)

-- f(1);
reads_a_member_with_types_round_its_enum :
    Does 9 nulls []
    (tree (kind.TsEnumDecl false true) (ident (codes "E") ▸ list (tree kind.TsEnumMember (tree (kind.Ident (codes "A") 2 false) End ▸ whole 1 ▸ End) ▸ End) ▸ End)
    ▸ statement (call (ident (codes "f")) (member (tree kind.TsNonNullExpr (ident (codes "E") ▸ End)) (codes "A") ▸ End))
    ▸ End)
    (HostCall 7 shown.Undefined (shown.Num (js_number.Whole (pos 1)) ∷ []) ∷ []) (ending.Done [])
unfolding digits walk_by value_by name_by key_by member_stays_by specifier_stays is_declared is_value_by
reads_a_member_with_types_round_its_enum = does_known (known (entry (codes "E") (codes "A") (enum_value.Number (js_number.Whole (pos 1))) true ∷ []) (named (codes "A") (codes "E")
    ∷ []) ((codes "E") ∷ [])) (simp (meaning_node, exports_node) refl) (simp (meaning_node, reading_node) refl)

-- var E; (function (E) { E[E["A"] = 1] = "A"; })(E || (E = {})); function h(a) { f(a.A); } h({ A: 7 });
reads_members_of_another_variable_of_the_name :
    Does 9 nulls []
    (tree (kind.TsEnumDecl false false) (ident (codes "E") ▸ list (tree kind.TsEnumMember (tree (kind.Ident (codes "A") 2 false) End ▸ whole 1 ▸ End) ▸ End) ▸ End)
    ▸ declare_function (codes "h") (parameter (tree kind.BindingIdent (tree (kind.Ident (codes "E") 3 false) End ▸ absent ▸ End))
    ▸ End) (statement (call (ident (codes "f")) (member (tree (kind.Ident (codes "E") 3 false) End) (codes "A") ▸ End)) ▸ End)
    ▸ statement (call (ident (codes "h")) (object (property (key (codes "A")) (whole 7) ▸ End) ▸ End))
    ▸ End)
    (HostCall 7 shown.Undefined (shown.Num (js_number.Whole (pos 7)) ∷ []) ∷ []) (ending.Done [])
unfolding digits walk_by value_by name_by key_by member_stays_by specifier_stays is_declared is_value_by
reads_members_of_another_variable_of_the_name = does_known (known (entry (codes "E") (codes "A") (enum_value.Number (js_number.Whole (pos 1))) false
    ∷ []) (named (codes "A") (codes "E") ∷ []) []) refl (simp (meaning_node, reading_node) refl)

-- var E; (function (E) { E[E["A"] = 1] = "A"; })(E || (E = {})); E.A += 2; f(E.A++, E["A"] = 9);
updates_members :
    Does 9 nulls []
    (tree (kind.TsEnumDecl false false) (ident (codes "E") ▸ list (tree kind.TsEnumMember (tree (kind.Ident (codes "A") 2 false) End ▸ whole 1 ▸ End) ▸ End) ▸ End)
    ▸ statement (tree (kind.AssignExpr assign.AddAssign) (member (ident (codes "E")) (codes "A") ▸ whole 2 ▸ End))
    ▸ statement (call (ident (codes "f")) (tree (kind.UpdateExpr update.PlusPlus false) (member (ident (codes "E")) (codes "A") ▸ End)
    ▸ assign (tree kind.MemberExpr (ident (codes "E") ▸ computed (string (codes "A")) ▸ End)) (whole 9) ▸ End))
    ▸ End)
    (HostCall 7 shown.Undefined (shown.Num (js_number.Whole (pos 3)) ∷ shown.Num (js_number.Whole (pos 9)) ∷ []) ∷ []) (ending.Done [])
unfolding digits walk_by value_by name_by key_by member_stays_by specifier_stays is_declared is_value_by
updates_members = does_known (known (entry (codes "E") (codes "A") (enum_value.Number (js_number.Whole (pos 1))) false ∷ []) (named (codes "A") (codes "E")
    ∷ []) []) refl (simp (meaning_node, reading_node) refl)

-- var E; (function (E) { E[E["A"] = 1] = "A"; })(E || (E = {})); f(1); E.A();
calls_no_constant :
    Does 9 nulls []
    (tree (kind.TsEnumDecl false false) (ident (codes "E") ▸ list (tree kind.TsEnumMember (tree (kind.Ident (codes "A") 2 false) End ▸ whole 1 ▸ End) ▸ End) ▸ End)
    ▸ statement (call (ident (codes "f")) (whole 1 ▸ End))
    ▸ statement (call (member (ident (codes "E")) (codes "A")) End)
    ▸ End)
    (HostCall 7 shown.Undefined (shown.Num (js_number.Whole (pos 1)) ∷ []) ∷ []) (ending.Thrown (shown.Error error.Kind))
unfolding digits walk_by value_by name_by key_by member_stays_by specifier_stays is_declared is_value_by
calls_no_constant = does_known (known (entry (codes "E") (codes "A") (enum_value.Number (js_number.Whole (pos 1))) false ∷ []) (named (codes "A") (codes "E")
    ∷ []) []) refl (simp (meaning_node, reading_node) refl)

-- function h() { return this; } var E; (function (E) { E["A"] = h; })(E || (E = {})); f(E.A() === E);
calls_a_member_that_is_a_function_on_the_object :
    Does 9 nulls []
    (declare_function (codes "h") End (returns this' ▸ End)
    ▸ tree (kind.TsEnumDecl false false) (ident (codes "E") ▸ list End ▸ End)
    ▸ statement (assign (member (ident (codes "E")) (codes "A")) (ident (codes "h")))
    ▸ statement (call (ident (codes "f")) (binary binary.EqEqEq (call (member (ident (codes "E")) (codes "A")) End) (ident (codes "E")) ▸ End))
    ▸ End)
    (HostCall 7 shown.Undefined (shown.Bool true ∷ []) ∷ []) (ending.Done [])
unfolding digits walk_by value_by name_by key_by member_stays_by specifier_stays is_declared is_value_by
calls_a_member_that_is_a_function_on_the_object = does_known (known [] [] []) refl (simp (meaning_node, reading_node) refl)

-- var E; (function (E) { E["A"] = "abc"; })(E || (E = {})); f(typeof E.A, E.A.length);
reads_the_type_of_a_constant_and_members_of_it :
    Does 9 nulls []
    (tree (kind.TsEnumDecl false false) (ident (codes "E") ▸ list (tree kind.TsEnumMember (tree (kind.Ident (codes "A") 2 false) End ▸ string (codes "abc") ▸ End) ▸ End) ▸ End)
    ▸ statement (call (ident (codes "f")) (unary unary.TypeOf (member (ident (codes "E")) (codes "A")) ▸ member (member (ident (codes "E")) (codes "A")) (codes "length") ▸ End))
    ▸ End)
    (HostCall 7 shown.Undefined (shown.Text (codes "string") ∷ shown.Num (js_number.Whole (pos 3)) ∷ []) ∷ []) (ending.Done [])
unfolding digits walk_by value_by name_by key_by member_stays_by specifier_stays is_declared is_value_by
reads_the_type_of_a_constant_and_members_of_it = does_known (known (entry (codes "E") (codes "A") (enum_value.String (codes "abc")) false ∷ []) (named (codes "A") (codes "E")
    ∷ []) []) refl (simp (meaning_node, reading_node) refl)

-- f(1);
opens_a_constant_that_was_set :
    Does 9 nulls []
    (statement (call (ident (codes "f")) (whole 1 ▸ End))
    ▸ tree (kind.TsEnumDecl false false) (ident (codes "E") ▸ list (tree kind.TsEnumMember (tree (kind.Ident (codes "A") 2 false) End ▸ whole 1 ▸ End) ▸ End) ▸ End)
    ▸ statement (assign (member (ident (codes "E")) (codes "A")) (whole 2))
    ▸ statement (call (ident (codes "f")) (member (ident (codes "E")) (codes "A") ▸ End))
    ▸ End)
    (HostCall 7 shown.Undefined (shown.Num (js_number.Whole (pos 1)) ∷ []) ∷ []) (ending.Outside)
unfolding digits walk_by value_by name_by key_by member_stays_by specifier_stays is_declared is_value_by
opens_a_constant_that_was_set = does_known (known (entry (codes "E") (codes "A") (enum_value.Number (js_number.Whole (pos 1))) false ∷ []) (named (codes "A") (codes "E")
    ∷ []) []) refl (simp (meaning_node, reading_node) refl)

-- f(1);
opens_a_constant_that_was_deleted :
    Does 9 nulls []
    (statement (call (ident (codes "f")) (whole 1 ▸ End))
    ▸ tree (kind.TsEnumDecl false false) (ident (codes "E") ▸ list (tree kind.TsEnumMember (tree (kind.Ident (codes "A") 2 false) End ▸ whole 1 ▸ End) ▸ End) ▸ End)
    ▸ statement (unary unary.Delete (member (ident (codes "E")) (codes "A")))
    ▸ statement (call (ident (codes "f")) (member (ident (codes "E")) (codes "A") ▸ End))
    ▸ End)
    (HostCall 7 shown.Undefined (shown.Num (js_number.Whole (pos 1)) ∷ []) ∷ []) (ending.Outside)
unfolding digits walk_by value_by name_by key_by member_stays_by specifier_stays is_declared is_value_by
opens_a_constant_that_was_deleted = does_known (known (entry (codes "E") (codes "A") (enum_value.Number (js_number.Whole (pos 1))) false ∷ []) (named (codes "A") (codes "E")
    ∷ []) []) refl (simp (meaning_node, reading_node) refl)

-- f(1);
opens_a_constant_before_its_part :
    Does 9 nulls []
    (statement (call (ident (codes "f")) (whole 1 ▸ End))
    ▸ statement (call (ident (codes "f")) (member (ident (codes "E")) (codes "A") ▸ End))
    ▸ tree (kind.TsEnumDecl false false) (ident (codes "E") ▸ list (tree kind.TsEnumMember (tree (kind.Ident (codes "A") 2 false) End ▸ whole 1 ▸ End) ▸ End) ▸ End)
    ▸ End)
    (HostCall 7 shown.Undefined (shown.Num (js_number.Whole (pos 1)) ∷ []) ∷ []) (ending.Outside)
unfolding digits walk_by value_by name_by key_by member_stays_by specifier_stays is_declared is_value_by
opens_a_constant_before_its_part = does_known (known (entry (codes "E") (codes "A") (enum_value.Number (js_number.Whole (pos 1))) false ∷ []) (named (codes "A") (codes "E")
    ∷ []) []) refl (simp (meaning_node, reading_node) refl)

-- f(1);
opens_a_constant_in_a_block_before_its_part :
    Does 9 nulls []
    (statement (call (ident (codes "f")) (whole 1 ▸ End))
    ▸ block (statement (call (ident (codes "f")) (member (ident (codes "E")) (codes "A") ▸ End)) ▸ tree (kind.TsEnumDecl false false) (ident (codes "E")
    ▸ list (tree kind.TsEnumMember (tree (kind.Ident (codes "A") 2 false) End ▸ whole 1 ▸ End) ▸ End) ▸ End) ▸ End)
    ▸ End)
    (HostCall 7 shown.Undefined (shown.Num (js_number.Whole (pos 1)) ∷ []) ∷ []) (ending.Outside)
unfolding digits walk_by value_by name_by key_by member_stays_by specifier_stays is_declared is_value_by
opens_a_constant_in_a_block_before_its_part = does_known (known (entry (codes "E") (codes "A") (enum_value.Number (js_number.Whole (pos 1))) false
    ∷ []) (named (codes "A") (codes "E") ∷ []) []) refl (simp (meaning_node, reading_node) refl)

-- var E; (function (E) { E[E["A"] = 1] = "A"; })(E || (E = {})); const q = 1; f(q);
names_a_constant_by_an_import :
    Does 9 nulls []
    (tree (kind.TsEnumDecl false false) (ident (codes "E") ▸ list (tree kind.TsEnumMember (tree (kind.Ident (codes "A") 2 false) End ▸ whole 1 ▸ End) ▸ End) ▸ End)
    ▸ tree (kind.TsImportEqualsDecl false false) (ident (codes "q") ▸ tree kind.TsQualifiedName (ident (codes "E") ▸ key (codes "A") ▸ End) ▸ End)
    ▸ statement (call (ident (codes "f")) (ident (codes "q") ▸ End))
    ▸ End)
    (HostCall 7 shown.Undefined (shown.Num (js_number.Whole (pos 1)) ∷ []) ∷ []) (ending.Done [])
unfolding digits walk_by value_by name_by key_by member_stays_by specifier_stays is_declared is_value_by
names_a_constant_by_an_import = does_known (known (entry (codes "E") (codes "A") (enum_value.Number (js_number.Whole (pos 1))) false ∷ []) (named (codes "A") (codes "E")
    ∷ []) []) refl (simp (meaning_node, reading_node, dotted_node) refl)

-- f(1);
opens_an_import_of_a_constant_that_was_set :
    Does 9 nulls []
    (statement (call (ident (codes "f")) (whole 1 ▸ End))
    ▸ tree (kind.TsEnumDecl false false) (ident (codes "E") ▸ list (tree kind.TsEnumMember (tree (kind.Ident (codes "A") 2 false) End ▸ whole 1 ▸ End) ▸ End) ▸ End)
    ▸ statement (assign (member (ident (codes "E")) (codes "A")) (whole 2))
    ▸ tree (kind.TsImportEqualsDecl false false) (ident (codes "q") ▸ tree kind.TsQualifiedName (ident (codes "E") ▸ key (codes "A") ▸ End) ▸ End)
    ▸ End)
    (HostCall 7 shown.Undefined (shown.Num (js_number.Whole (pos 1)) ∷ []) ∷ []) (ending.Outside)
unfolding digits walk_by value_by name_by key_by member_stays_by specifier_stays is_declared is_value_by
opens_an_import_of_a_constant_that_was_set = does_known (known (entry (codes "E") (codes "A") (enum_value.Number (js_number.Whole (pos 1))) false
    ∷ []) (named (codes "A") (codes "E") ∷ []) []) refl (simp (meaning_node, reading_node, dotted_node) refl)

-- f(1);
opens_a_constant_that_is_a_getter :
    Does 9 nulls []
    (statement (call (ident (codes "f")) (whole 1 ▸ End))
    ▸ tree (kind.TsEnumDecl false false) (ident (codes "E") ▸ list (tree kind.TsEnumMember (tree (kind.Ident (codes "A") 2 false) End ▸ whole 1 ▸ End) ▸ End) ▸ End)
    ▸ statement (assign (ident (codes "E")) (object (tree kind.GetterProp (key (codes "A") ▸ absent ▸ block (returns (whole 1) ▸ End) ▸ End) ▸ End)))
    ▸ statement (call (ident (codes "f")) (member (ident (codes "E")) (codes "A") ▸ End))
    ▸ End)
    (HostCall 7 shown.Undefined (shown.Num (js_number.Whole (pos 1)) ∷ []) ∷ []) (ending.Outside)
unfolding digits walk_by value_by name_by key_by member_stays_by specifier_stays is_declared is_value_by
opens_a_constant_that_is_a_getter = does_known (known (entry (codes "E") (codes "A") (enum_value.Number (js_number.Whole (pos 1))) false ∷ []) (named (codes "A") (codes "E")
    ∷ []) []) refl (simp (meaning_node, reading_node) refl)

-- f(1);
opens_a_constant_of_no_object :
    Does 9 nulls []
    (statement (call (ident (codes "f")) (whole 1 ▸ End))
    ▸ tree (kind.TsEnumDecl false false) (ident (codes "E") ▸ list (tree kind.TsEnumMember (tree (kind.Ident (codes "A") 2 false) End ▸ whole 1 ▸ End) ▸ End) ▸ End)
    ▸ statement (assign (ident (codes "E")) (ident (codes "f")))
    ▸ statement (call (ident (codes "f")) (member (ident (codes "E")) (codes "A") ▸ End))
    ▸ End)
    (HostCall 7 shown.Undefined (shown.Num (js_number.Whole (pos 1)) ∷ []) ∷ []) (ending.Outside)
unfolding digits walk_by value_by name_by key_by member_stays_by specifier_stays is_declared is_value_by
opens_a_constant_of_no_object = does_known (known (entry (codes "E") (codes "A") (enum_value.Number (js_number.Whole (pos 1))) false ∷ []) (named (codes "A") (codes "E")
    ∷ []) []) refl (simp (meaning_node, reading_node) refl)

-- f(1);
opens_a_zero_of_the_other_sign :
    Does 9 nulls []
    (statement (call (ident (codes "f")) (whole 1 ▸ End))
    ▸ tree (kind.TsEnumDecl false false) (ident (codes "E") ▸ list (tree kind.TsEnumMember (tree (kind.Ident (codes "A") 2 false) End ▸ unary unary.Minus (whole 0) ▸ End) ▸ End)
    ▸ End)
    ▸ statement (assign (member (ident (codes "E")) (codes "A")) (whole 0))
    ▸ statement (call (ident (codes "f")) (member (ident (codes "E")) (codes "A") ▸ End))
    ▸ End)
    (HostCall 7 shown.Undefined (shown.Num (js_number.Whole (pos 1)) ∷ []) ∷ []) (ending.Outside)
unfolding digits walk_by value_by name_by key_by member_stays_by specifier_stays is_declared is_value_by
opens_a_zero_of_the_other_sign = does_known (known (entry (codes "E") (codes "A") (enum_value.Number (js_number.NegZero)) false ∷ []) (named (codes "A") (codes "E")
    ∷ []) []) refl (simp (meaning_node, reading_node) refl)

-- f(1);
opens_the_name_of_an_enum_that_is_not_written :
    Does 9 nulls []
    (statement (call (ident (codes "f")) (whole 1 ▸ End))
    ▸ tree (kind.TsEnumDecl false true) (ident (codes "E") ▸ list (tree kind.TsEnumMember (tree (kind.Ident (codes "A") 2 false) End ▸ whole 1 ▸ End) ▸ End) ▸ End)
    ▸ statement (call (ident (codes "f")) (ident (codes "E") ▸ End))
    ▸ End)
    (HostCall 7 shown.Undefined (shown.Num (js_number.Whole (pos 1)) ∷ []) ∷ []) (ending.Outside)
unfolding digits walk_by value_by name_by key_by member_stays_by specifier_stays is_declared is_value_by
opens_the_name_of_an_enum_that_is_not_written = does_known (known (entry (codes "E") (codes "A") (enum_value.Number (js_number.Whole (pos 1))) true
    ∷ []) (named (codes "A") (codes "E") ∷ []) ((codes "E") ∷ [])) (simp (meaning_node, exports_node) refl) (simp (meaning_node, reading_node) refl)

-- f(1);
opens_it_in_parentheses :
    Does 9 nulls []
    (statement (call (ident (codes "f")) (whole 1 ▸ End))
    ▸ tree (kind.TsEnumDecl false true) (ident (codes "E") ▸ list (tree kind.TsEnumMember (tree (kind.Ident (codes "A") 2 false) End ▸ whole 1 ▸ End) ▸ End) ▸ End)
    ▸ statement (call (ident (codes "f")) (member (parens (ident (codes "E"))) (codes "A") ▸ End))
    ▸ End)
    (HostCall 7 shown.Undefined (shown.Num (js_number.Whole (pos 1)) ∷ []) ∷ []) (ending.Outside)
unfolding digits walk_by value_by name_by key_by member_stays_by specifier_stays is_declared is_value_by
opens_it_in_parentheses = does_known (known (entry (codes "E") (codes "A") (enum_value.Number (js_number.Whole (pos 1))) true ∷ []) (named (codes "A") (codes "E")
    ∷ []) ((codes "E") ∷ [])) (simp (meaning_node, exports_node) refl) (simp (meaning_node, reading_node) refl)

-- f(1);
opens_it_behind_a_question_mark :
    Does 9 nulls []
    (statement (call (ident (codes "f")) (whole 1 ▸ End))
    ▸ tree (kind.TsEnumDecl false true) (ident (codes "E") ▸ list (tree kind.TsEnumMember (tree (kind.Ident (codes "A") 2 false) End ▸ whole 1 ▸ End) ▸ End) ▸ End)
    ▸ statement (call (ident (codes "f")) (tree (kind.OptChainExpr true) (member (ident (codes "E")) (codes "A") ▸ End) ▸ End))
    ▸ End)
    (HostCall 7 shown.Undefined (shown.Num (js_number.Whole (pos 1)) ∷ []) ∷ []) (ending.Outside)
unfolding digits walk_by value_by name_by key_by member_stays_by specifier_stays is_declared is_value_by
opens_it_behind_a_question_mark = does_known (known (entry (codes "E") (codes "A") (enum_value.Number (js_number.Whole (pos 1))) true ∷ []) (named (codes "A") (codes "E")
    ∷ []) ((codes "E") ∷ [])) (simp (meaning_node, exports_node) refl) (simp (meaning_node, reading_node) refl)

-- f(1);
opens_it_as_a_target :
    Does 9 nulls []
    (statement (call (ident (codes "f")) (whole 1 ▸ End))
    ▸ tree (kind.TsEnumDecl false true) (ident (codes "E") ▸ list (tree kind.TsEnumMember (tree (kind.Ident (codes "A") 2 false) End ▸ whole 1 ▸ End) ▸ End) ▸ End)
    ▸ statement (assign (member (ident (codes "E")) (codes "A")) (whole 2))
    ▸ End)
    (HostCall 7 shown.Undefined (shown.Num (js_number.Whole (pos 1)) ∷ []) ∷ []) (ending.Outside)
unfolding digits walk_by value_by name_by key_by member_stays_by specifier_stays is_declared is_value_by
opens_it_as_a_target = does_known (known (entry (codes "E") (codes "A") (enum_value.Number (js_number.Whole (pos 1))) true ∷ []) (named (codes "A") (codes "E") ∷ []) ((codes "E")
    ∷ [])) (simp (meaning_node, exports_node) refl) (simp (meaning_node, reading_node) refl)
