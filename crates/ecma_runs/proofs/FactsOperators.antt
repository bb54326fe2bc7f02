-- Operators and literals: each fact is a small module and what node observes of it, by computing. Written by compare/facts.mjs.
use Rattle.std.proofs.Common.{refl, pos, negsuc, [], ◌∷◌, Some, true, false, codes}
use Rattle.ecma_number.specs.declared.js_number.JsNumber.TheVariants as js_number
use Rattle.ecma_kind.specs.declared.kind.Kind.TheVariants as kind
use Rattle.ecma_kind.specs.declared.operators.AssignOp.TheVariants as assign
use Rattle.ecma_kind.specs.declared.operators.BinaryOp.TheVariants as binary
use Rattle.ecma_kind.specs.declared.operators.UnaryOp.TheVariants as unary
use Rattle.ecma_kind.specs.declared.operators.UpdateOp.TheVariants as update
use Rattle.ecma_kind.specs.declared.operators.VarDeclKind.TheVariants.{Let}
use Rattle.ecma_runs.specs.declared.observation.Event.TheVariants.{HostCall}
use Rattle.ecma_runs.specs.declared.observation.Ending.TheVariants as ending
use Rattle.ecma_runs.specs.declared.shown.ErrorKind.TheVariants as error
use Rattle.ecma_runs.specs.declared.shown.Shown.TheVariants as shown
use Rattle.ecma_runs.proofs.Trees.{End, ◌▸◌, tree, absent, list, ident, key, computed, whole, truth, string, null}
use Rattle.ecma_runs.proofs.Trees.{member, call, unary, binary, parens, object, property, statement, declare, arrow, class', meaning_node}
use Rattle.ecma_runs.proofs.Scripts.{Does, does, nulls}
use Rattle.std.specs.Fmt.{digits}
use Rattle.std.specs.Str.{chars}
use Rattle.ecma_number.specs.Arithmetic.{product_of, quotient_of, remainder_of, power_of}

-- f(1 + 2, "a" + 1, null + 1, true + true, undefined + "x", -1 + "");
adds_and_joins :
    Does 9 nulls []
    (statement (call (ident (codes "f")) (binary binary.Add (whole 1) (whole 2) ▸ binary binary.Add (string (codes "a")) (whole 1) ▸ binary binary.Add null (whole 1)
    ▸ binary binary.Add (truth true) (truth true) ▸ binary binary.Add (ident (codes "undefined")) (string (codes "x"))
    ▸ binary binary.Add (unary unary.Minus (whole 1)) (string (codes "")) ▸ End))
    ▸ End)
    (HostCall 7 shown.Undefined (shown.Num (js_number.Whole (pos 3)) ∷ shown.Text (codes "a1") ∷ shown.Num (js_number.Whole (pos 1)) ∷ shown.Num (js_number.Whole (pos 2))
    ∷ shown.Text (codes "undefinedx") ∷ shown.Text (codes "-1") ∷ []) ∷ []) (ending.Done [])
unfolding digits
adds_and_joins = does refl (simp meaning_node refl)

-- f(7 - 9, 3 * 4, 6 / 3, 7 % 4, 2 ** 5, -(0), 1 / 0);
computes :
    Does 9 nulls []
    (statement (call (ident (codes "f")) (binary binary.Sub (whole 7) (whole 9) ▸ binary binary.Mul (whole 3) (whole 4) ▸ binary binary.Div (whole 6) (whole 3)
    ▸ binary binary.Mod (whole 7) (whole 4) ▸ binary binary.Exp (whole 2) (whole 5) ▸ unary unary.Minus (parens (whole 0)) ▸ binary binary.Div (whole 1) (whole 0) ▸ End))
    ▸ End)
    (HostCall 7 shown.Undefined (shown.Num (js_number.Whole (negsuc 1)) ∷ shown.Num (js_number.Whole (pos 12)) ∷ shown.Num (js_number.Whole (pos 2))
    ∷ shown.Num (js_number.Whole (pos 3)) ∷ shown.Num (js_number.Whole (pos 32)) ∷ shown.Num (js_number.NegZero) ∷ shown.Num (js_number.Infinity) ∷ []) ∷ []) (ending.Done [])
unfolding product_of quotient_of remainder_of power_of
computes = does refl (simp meaning_node refl)

-- f(5 & 3, 5 | 3, 5 ^ 3, ~5, 1 << 31, -1 >>> 0, -8 >> 1);
shifts_and_masks :
    Does 9 nulls []
    (statement (call (ident (codes "f")) (binary binary.BitAnd (whole 5) (whole 3) ▸ binary binary.BitOr (whole 5) (whole 3) ▸ binary binary.BitXor (whole 5) (whole 3)
    ▸ unary unary.Tilde (whole 5) ▸ binary binary.LShift (whole 1) (whole 31) ▸ binary binary.ZeroFillRShift (unary unary.Minus (whole 1)) (whole 0)
    ▸ binary binary.RShift (unary unary.Minus (whole 8)) (whole 1) ▸ End))
    ▸ End)
    (HostCall 7 shown.Undefined (shown.Num (js_number.Whole (pos 1)) ∷ shown.Num (js_number.Whole (pos 7)) ∷ shown.Num (js_number.Whole (pos 6))
    ∷ shown.Num (js_number.Whole (negsuc 5)) ∷ shown.Num (js_number.Whole (negsuc 2147483647)) ∷ shown.Num (js_number.Whole (pos 4294967295))
    ∷ shown.Num (js_number.Whole (negsuc 3)) ∷ []) ∷ []) (ending.Done [])
shifts_and_masks = does refl (simp meaning_node refl)

-- f(1 < 2, "b" < "a", null >= 0, undefined < 1, undefined >= 1, 3 <= 2, 2 > -1 / 0);
compares :
    Does 9 nulls []
    (statement (call (ident (codes "f")) (binary binary.Lt (whole 1) (whole 2) ▸ binary binary.Lt (string (codes "b")) (string (codes "a")) ▸ binary binary.GtEq null (whole 0)
    ▸ binary binary.Lt (ident (codes "undefined")) (whole 1) ▸ binary binary.GtEq (ident (codes "undefined")) (whole 1) ▸ binary binary.LtEq (whole 3) (whole 2)
    ▸ binary binary.Gt (whole 2) (binary binary.Div (unary unary.Minus (whole 1)) (whole 0)) ▸ End))
    ▸ End)
    (HostCall 7 shown.Undefined (shown.Bool true ∷ shown.Bool false ∷ shown.Bool true ∷ shown.Bool false ∷ shown.Bool false ∷ shown.Bool false ∷ shown.Bool true ∷ [])
    ∷ []) (ending.Done [])
unfolding quotient_of chars
compares = does refl (simp meaning_node refl)

-- f("\u{10000}" < "\uffee", "ab" < "b", "a" < "ab", "a" < "a");
compares_by_units :
    Does 9 nulls []
    (statement (call (ident (codes "f")) (binary binary.Lt (string (240 ∷ 144 ∷ 128 ∷ 128 ∷ [])) (string (239 ∷ 191 ∷ 174 ∷ []))
    ▸ binary binary.Lt (string (codes "ab")) (string (codes "b")) ▸ binary binary.Lt (string (codes "a")) (string (codes "ab"))
    ▸ binary binary.Lt (string (codes "a")) (string (codes "a")) ▸ End))
    ▸ End)
    (HostCall 7 shown.Undefined (shown.Bool true ∷ shown.Bool true ∷ shown.Bool true ∷ shown.Bool false ∷ []) ∷ []) (ending.Done [])
unfolding chars
compares_by_units = does refl (simp meaning_node refl)

-- f(1 == true, null == undefined, null == 0, NaN != NaN, 0 === -0, "a" === "a", "a" == null);
tests_equality :
    Does 9 nulls []
    (statement (call (ident (codes "f")) (binary binary.EqEq (whole 1) (truth true) ▸ binary binary.EqEq null (ident (codes "undefined")) ▸ binary binary.EqEq null (whole 0)
    ▸ binary binary.NotEq (ident (codes "NaN")) (ident (codes "NaN")) ▸ binary binary.EqEqEq (whole 0) (unary unary.Minus (whole 0))
    ▸ binary binary.EqEqEq (string (codes "a")) (string (codes "a")) ▸ binary binary.EqEq (string (codes "a")) null ▸ End))
    ▸ End)
    (HostCall 7 shown.Undefined (shown.Bool true ∷ shown.Bool true ∷ shown.Bool false ∷ shown.Bool true ∷ shown.Bool true ∷ shown.Bool true ∷ shown.Bool false ∷ [])
    ∷ []) (ending.Done [])
tests_equality = does refl (simp meaning_node refl)

-- let o = {}; f(o === o, o == {}, o == null, f == f, f === g);
tests_objects :
    Does 9 nulls []
    (declare Let (codes "o") (object End)
    ▸ statement (call (ident (codes "f")) (binary binary.EqEqEq (ident (codes "o")) (ident (codes "o")) ▸ binary binary.EqEq (ident (codes "o")) (object End)
    ▸ binary binary.EqEq (ident (codes "o")) null ▸ binary binary.EqEq (ident (codes "f")) (ident (codes "f")) ▸ binary binary.EqEqEq (ident (codes "f")) (ident (codes "g"))
    ▸ End))
    ▸ End)
    (HostCall 7 shown.Undefined (shown.Bool true ∷ shown.Bool false ∷ shown.Bool false ∷ shown.Bool true ∷ shown.Bool false ∷ []) ∷ []) (ending.Done [])
tests_objects = does refl (simp meaning_node refl)

-- f(0 || 1, 0 && f(2), null ?? 3, 0 ?? f(4), 1 || f(5));
leaves_out_the_right_side :
    Does 9 nulls []
    (statement (call (ident (codes "f")) (binary binary.LogicalOr (whole 0) (whole 1) ▸ binary binary.LogicalAnd (whole 0) (call (ident (codes "f")) (whole 2 ▸ End))
    ▸ binary binary.NullishCoalescing null (whole 3) ▸ binary binary.NullishCoalescing (whole 0) (call (ident (codes "f")) (whole 4 ▸ End))
    ▸ binary binary.LogicalOr (whole 1) (call (ident (codes "f")) (whole 5 ▸ End)) ▸ End))
    ▸ End)
    (HostCall 7 shown.Undefined (shown.Num (js_number.Whole (pos 1)) ∷ shown.Num (js_number.Whole (pos 0)) ∷ shown.Num (js_number.Whole (pos 3))
    ∷ shown.Num (js_number.Whole (pos 0)) ∷ shown.Num (js_number.Whole (pos 1)) ∷ []) ∷ []) (ending.Done [])
leaves_out_the_right_side = does refl (simp meaning_node refl)

-- let a = 1; a += 2; a *= 4; a -= true; a %= 4; f(a); a ||= f(9); a &&= 7; f(a); let b = null; b ??= 3; f(b);
assigns_with_operators :
    Does 9 nulls []
    (declare Let (codes "a") (whole 1)
    ▸ statement (tree (kind.AssignExpr assign.AddAssign) (ident (codes "a") ▸ whole 2 ▸ End))
    ▸ statement (tree (kind.AssignExpr assign.MulAssign) (ident (codes "a") ▸ whole 4 ▸ End))
    ▸ statement (tree (kind.AssignExpr assign.SubAssign) (ident (codes "a") ▸ truth true ▸ End))
    ▸ statement (tree (kind.AssignExpr assign.ModAssign) (ident (codes "a") ▸ whole 4 ▸ End))
    ▸ statement (call (ident (codes "f")) (ident (codes "a") ▸ End))
    ▸ statement (tree (kind.AssignExpr assign.OrAssign) (ident (codes "a") ▸ call (ident (codes "f")) (whole 9 ▸ End) ▸ End))
    ▸ statement (tree (kind.AssignExpr assign.AndAssign) (ident (codes "a") ▸ whole 7 ▸ End))
    ▸ statement (call (ident (codes "f")) (ident (codes "a") ▸ End))
    ▸ declare Let (codes "b") null
    ▸ statement (tree (kind.AssignExpr assign.NullishAssign) (ident (codes "b") ▸ whole 3 ▸ End))
    ▸ statement (call (ident (codes "f")) (ident (codes "b") ▸ End))
    ▸ End)
    (HostCall 7 shown.Undefined (shown.Num (js_number.Whole (pos 3)) ∷ []) ∷ HostCall 7 shown.Undefined (shown.Num (js_number.Whole (pos 7)) ∷ [])
    ∷ HostCall 7 shown.Undefined (shown.Num (js_number.Whole (pos 3)) ∷ []) ∷ []) (ending.Done [])
unfolding product_of remainder_of
assigns_with_operators = does refl (simp meaning_node refl)

-- let o = { a: 1 }; o.a += 1; o["a"] <<= 3; f(o.a++, ++o.a, o.a--, o.a);
assigns_members_with_operators :
    Does 9 nulls []
    (declare Let (codes "o") (object (property (key (codes "a")) (whole 1) ▸ End))
    ▸ statement (tree (kind.AssignExpr assign.AddAssign) (member (ident (codes "o")) (codes "a") ▸ whole 1 ▸ End))
    ▸ statement (tree (kind.AssignExpr assign.LShiftAssign) (tree kind.MemberExpr (ident (codes "o") ▸ computed (string (codes "a")) ▸ End) ▸ whole 3 ▸ End))
    ▸ statement (call (ident (codes "f")) (tree (kind.UpdateExpr update.PlusPlus false) (member (ident (codes "o")) (codes "a") ▸ End)
    ▸ tree (kind.UpdateExpr update.PlusPlus true) (member (ident (codes "o")) (codes "a") ▸ End)
    ▸ tree (kind.UpdateExpr update.MinusMinus false) (member (ident (codes "o")) (codes "a") ▸ End) ▸ member (ident (codes "o")) (codes "a") ▸ End))
    ▸ End)
    (HostCall 7 shown.Undefined (shown.Num (js_number.Whole (pos 16)) ∷ shown.Num (js_number.Whole (pos 18)) ∷ shown.Num (js_number.Whole (pos 18))
    ∷ shown.Num (js_number.Whole (pos 17)) ∷ []) ∷ []) (ending.Done [])
assigns_members_with_operators = does refl (simp meaning_node refl)

-- let a = true; f(a++, a, --a); let b = null; f(b++, -null, +true, +undefined);
counts_as_numbers :
    Does 9 nulls []
    (declare Let (codes "a") (truth true)
    ▸ statement (call (ident (codes "f")) (tree (kind.UpdateExpr update.PlusPlus false) (ident (codes "a") ▸ End) ▸ ident (codes "a")
    ▸ tree (kind.UpdateExpr update.MinusMinus true) (ident (codes "a") ▸ End) ▸ End))
    ▸ declare Let (codes "b") null
    ▸ statement (call (ident (codes "f")) (tree (kind.UpdateExpr update.PlusPlus false) (ident (codes "b") ▸ End) ▸ unary unary.Minus null ▸ unary unary.Plus (truth true)
    ▸ unary unary.Plus (ident (codes "undefined")) ▸ End))
    ▸ End)
    (HostCall 7 shown.Undefined (shown.Num (js_number.Whole (pos 1)) ∷ shown.Num (js_number.Whole (pos 2)) ∷ shown.Num (js_number.Whole (pos 1)) ∷ [])
    ∷ HostCall 7 shown.Undefined (shown.Num (js_number.Whole (pos 0)) ∷ shown.Num (js_number.NegZero) ∷ shown.Num (js_number.Whole (pos 1)) ∷ shown.Num (js_number.NaN) ∷ [])
    ∷ []) (ending.Done [])
counts_as_numbers = does refl (simp meaning_node refl)

-- f(typeof 1, typeof "a", typeof null, typeof undefined, typeof true, typeof {}, typeof (() => 1), typeof class {}, typeof nothing);
tells_types :
    Does 9 nulls []
    (statement (call (ident (codes "f")) (unary unary.TypeOf (whole 1) ▸ unary unary.TypeOf (string (codes "a")) ▸ unary unary.TypeOf null
    ▸ unary unary.TypeOf (ident (codes "undefined")) ▸ unary unary.TypeOf (truth true) ▸ unary unary.TypeOf (object End) ▸ unary unary.TypeOf (parens (arrow End (whole 1)))
    ▸ unary unary.TypeOf (tree kind.ClassExpr (absent ▸ class' absent End ▸ End)) ▸ unary unary.TypeOf (ident (codes "nothing")) ▸ End))
    ▸ End)
    (HostCall 7 shown.Undefined (shown.Text (codes "number") ∷ shown.Text (codes "string") ∷ shown.Text (codes "object") ∷ shown.Text (codes "undefined")
    ∷ shown.Text (codes "boolean") ∷ shown.Text (codes "object") ∷ shown.Text (codes "function") ∷ shown.Text (codes "function") ∷ shown.Text (codes "undefined") ∷ [])
    ∷ []) (ending.Done [])
tells_types = does refl (simp meaning_node refl)

-- f(void f(1), !0, !"a", !!null);
voids_and_negates :
    Does 9 nulls []
    (statement (call (ident (codes "f")) (unary unary.Void (call (ident (codes "f")) (whole 1 ▸ End)) ▸ unary unary.Bang (whole 0) ▸ unary unary.Bang (string (codes "a"))
    ▸ unary unary.Bang (unary unary.Bang null) ▸ End))
    ▸ End)
    (HostCall 7 shown.Undefined (shown.Num (js_number.Whole (pos 1)) ∷ []) ∷ HostCall 7 shown.Undefined (shown.Undefined ∷ shown.Bool true ∷ shown.Bool false ∷ shown.Bool false
    ∷ []) ∷ []) (ending.Done [])
voids_and_negates = does refl (simp meaning_node refl)

-- f((f(1), f(2), 3), f(4) ? f(5) : f(6));
evaluates_in_order :
    Does 9 nulls []
    (statement (call (ident (codes "f")) (parens (tree kind.SeqExpr (call (ident (codes "f")) (whole 1 ▸ End) ▸ call (ident (codes "f")) (whole 2 ▸ End) ▸ whole 3 ▸ End))
    ▸ tree kind.CondExpr (call (ident (codes "f")) (whole 4 ▸ End) ▸ call (ident (codes "f")) (whole 5 ▸ End) ▸ call (ident (codes "f")) (whole 6 ▸ End) ▸ End) ▸ End))
    ▸ End)
    (HostCall 7 shown.Undefined (shown.Num (js_number.Whole (pos 1)) ∷ []) ∷ HostCall 7 shown.Undefined (shown.Num (js_number.Whole (pos 2)) ∷ [])
    ∷ HostCall 7 shown.Undefined (shown.Num (js_number.Whole (pos 4)) ∷ []) ∷ HostCall 7 shown.Undefined (shown.Num (js_number.Whole (pos 6)) ∷ [])
    ∷ HostCall 7 shown.Undefined (shown.Num (js_number.Whole (pos 3)) ∷ shown.Null ∷ []) ∷ []) (ending.Done [])
evaluates_in_order = does refl (simp meaning_node refl)

-- let a = 1; f(`x${a}y${null}${`z${true}`}`);
joins_templates :
    Does 9 nulls []
    (declare Let (codes "a") (whole 1)
    ▸ statement (call (ident (codes "f")) (tree kind.Tpl (list (ident (codes "a") ▸ null ▸ tree kind.Tpl (list (truth true ▸ End)
    ▸ list (tree (kind.TplElement (codes "z") (Some (codes "z")) false) End ▸ tree (kind.TplElement (codes "") (Some (codes "")) true) End ▸ End) ▸ End) ▸ End)
    ▸ list (tree (kind.TplElement (codes "x") (Some (codes "x")) false) End ▸ tree (kind.TplElement (codes "y") (Some (codes "y")) false) End
    ▸ tree (kind.TplElement (codes "") (Some (codes "")) false) End ▸ tree (kind.TplElement (codes "") (Some (codes "")) true) End ▸ End) ▸ End) ▸ End))
    ▸ End)
    (HostCall 7 shown.Undefined (shown.Text (codes "x1ynullztrue") ∷ []) ∷ []) (ending.Done [])
unfolding digits
joins_templates = does refl (simp meaning_node refl)

-- f("größe".length, "\u{1f600}".length);
counts_units :
    Does 9 nulls []
    (statement (call (ident (codes "f")) (member (string (103 ∷ 114 ∷ 195 ∷ 182 ∷ 195 ∷ 159 ∷ 101 ∷ [])) (codes "length") ▸ member (string (240 ∷ 159 ∷ 152 ∷ 128
    ∷ [])) (codes "length") ▸ End))
    ▸ End)
    (HostCall 7 shown.Undefined (shown.Num (js_number.Whole (pos 5)) ∷ shown.Num (js_number.Whole (pos 2)) ∷ []) ∷ []) (ending.Done [])
counts_units = does refl (simp meaning_node refl)

-- typeof x; let x;
reads_empty_variables_under_typeof :
    Does 9 nulls []
    (statement (unary unary.TypeOf (ident (codes "x")))
    ▸ declare Let (codes "x") absent
    ▸ End)
    [] (ending.Thrown (shown.Error error.Reference))
reads_empty_variables_under_typeof = does refl (simp meaning_node refl)
