-- Operators on each kind of value, and compound assignments: each fact is a small module and what node observes of it, by computing. Written by compare/facts.mjs.
use Rattle.std.proofs.Common.{refl, pos, negsuc, [], ◌∷◌, Some, true, false, codes}
use Rattle.ecma_number.specs.declared.js_number.JsNumber.TheVariants as js_number
use Rattle.ecma_kind.specs.declared.kind.Kind.TheVariants as kind
use Rattle.ecma_kind.specs.declared.operators.AssignOp.TheVariants as assign
use Rattle.ecma_kind.specs.declared.operators.BinaryOp.TheVariants as binary
use Rattle.ecma_kind.specs.declared.operators.UnaryOp.TheVariants as unary
use Rattle.ecma_kind.specs.declared.operators.VarDeclKind.TheVariants.{Let}
use Rattle.ecma_runs.specs.declared.observation.Event.TheVariants.{HostGet, HostSet, HostCall}
use Rattle.ecma_runs.specs.declared.observation.Ending.TheVariants as ending
use Rattle.ecma_runs.specs.declared.script.Answer.TheVariants.{Return}
use Rattle.ecma_runs.specs.declared.shown.ErrorKind.TheVariants as error
use Rattle.ecma_runs.specs.declared.shown.Shown.TheVariants as shown
use Rattle.ecma_runs.proofs.Trees.{End, ◌▸◌, tree, absent, list, ident, binding, whole, truth, string, null, member}
use Rattle.ecma_runs.proofs.Trees.{call, assign, unary, binary, parens, object, statement, block, returns, declare, declare_function, meaning_node}
use Rattle.ecma_runs.proofs.Scripts.{Does, does, nulls}
use Rattle.std.specs.Fmt.{digits}
use Rattle.std.specs.Str.{chars}
use Rattle.ecma_number.specs.Arithmetic.{product_of, quotient_of, remainder_of, power_of}

-- f(true === false, false === false, true !== true, true !== false, true == false, true != false, true != true);
tells_truths_apart :
    Does 9 nulls []
    (statement (call (ident (codes "f")) (binary binary.EqEqEq (truth true) (truth false) ▸ binary binary.EqEqEq (truth false) (truth false)
    ▸ binary binary.NotEqEq (truth true) (truth true) ▸ binary binary.NotEqEq (truth true) (truth false) ▸ binary binary.EqEq (truth true) (truth false)
    ▸ binary binary.NotEq (truth true) (truth false) ▸ binary binary.NotEq (truth true) (truth true) ▸ End))
    ▸ End)
    (HostCall 7 shown.Undefined (shown.Bool false ∷ shown.Bool true ∷ shown.Bool false ∷ shown.Bool true ∷ shown.Bool false ∷ shown.Bool true ∷ shown.Bool false ∷ [])
    ∷ []) (ending.Done [])
tells_truths_apart = does refl (simp meaning_node refl)

-- f(1 !== 2, 1 !== 1, 1 === 2, "a" === "b", "a" == "b", "a" == "a", "a" !== "b", 1 != 2, 0 != 0);
tells_numbers_and_texts_apart :
    Does 9 nulls []
    (statement (call (ident (codes "f")) (binary binary.NotEqEq (whole 1) (whole 2) ▸ binary binary.NotEqEq (whole 1) (whole 1) ▸ binary binary.EqEqEq (whole 1) (whole 2)
    ▸ binary binary.EqEqEq (string (codes "a")) (string (codes "b")) ▸ binary binary.EqEq (string (codes "a")) (string (codes "b"))
    ▸ binary binary.EqEq (string (codes "a")) (string (codes "a")) ▸ binary binary.NotEqEq (string (codes "a")) (string (codes "b")) ▸ binary binary.NotEq (whole 1) (whole 2)
    ▸ binary binary.NotEq (whole 0) (whole 0) ▸ End))
    ▸ End)
    (HostCall 7 shown.Undefined (shown.Bool true ∷ shown.Bool false ∷ shown.Bool false ∷ shown.Bool false ∷ shown.Bool false ∷ shown.Bool true ∷ shown.Bool true ∷ shown.Bool true
    ∷ shown.Bool false ∷ []) ∷ []) (ending.Done [])
tells_numbers_and_texts_apart = does refl (simp meaning_node refl)

-- f(null === null, undefined === undefined, undefined === null, null !== null, undefined == 0, undefined == undefined, null == false, ({}) == undefined, undefined == {}, null == f);
tells_null_and_undefined_apart :
    Does 9 nulls []
    (statement (call (ident (codes "f")) (binary binary.EqEqEq null null ▸ binary binary.EqEqEq (ident (codes "undefined")) (ident (codes "undefined"))
    ▸ binary binary.EqEqEq (ident (codes "undefined")) null ▸ binary binary.NotEqEq null null ▸ binary binary.EqEq (ident (codes "undefined")) (whole 0)
    ▸ binary binary.EqEq (ident (codes "undefined")) (ident (codes "undefined")) ▸ binary binary.EqEq null (truth false)
    ▸ binary binary.EqEq (parens (object End)) (ident (codes "undefined")) ▸ binary binary.EqEq (ident (codes "undefined")) (object End)
    ▸ binary binary.EqEq null (ident (codes "f")) ▸ End))
    ▸ End)
    (HostCall 7 shown.Undefined (shown.Bool true ∷ shown.Bool true ∷ shown.Bool false ∷ shown.Bool false ∷ shown.Bool false ∷ shown.Bool true ∷ shown.Bool false ∷ shown.Bool false
    ∷ shown.Bool false ∷ shown.Bool false ∷ []) ∷ []) (ending.Done [])
tells_null_and_undefined_apart = does refl (simp meaning_node refl)

-- try { null.a; } catch (e) { f(e == {}, ({}) == e, e == f, e === {}, e != null); }
tells_errors_from_objects :
    Does 9 nulls []
    (tree kind.TryStmt (block (statement (member null (codes "a")) ▸ End) ▸ tree kind.CatchClause (binding (codes "e")
    ▸ block (statement (call (ident (codes "f")) (binary binary.EqEq (ident (codes "e")) (object End) ▸ binary binary.EqEq (parens (object End)) (ident (codes "e"))
    ▸ binary binary.EqEq (ident (codes "e")) (ident (codes "f")) ▸ binary binary.EqEqEq (ident (codes "e")) (object End) ▸ binary binary.NotEq (ident (codes "e")) null ▸ End))
    ▸ End) ▸ End) ▸ absent ▸ End)
    ▸ End)
    (HostCall 7 shown.Undefined (shown.Bool false ∷ shown.Bool false ∷ shown.Bool false ∷ shown.Bool false ∷ shown.Bool true ∷ []) ∷ []) (ending.Done [])
tells_errors_from_objects = does refl (simp meaning_node refl)

-- f(1 < Infinity, Infinity < Infinity, Infinity < 1, -Infinity < -1, -1 < -Infinity, -Infinity < -Infinity, -Infinity < Infinity);
compares_with_infinities :
    Does 9 nulls []
    (statement (call (ident (codes "f")) (binary binary.Lt (whole 1) (ident (codes "Infinity")) ▸ binary binary.Lt (ident (codes "Infinity")) (ident (codes "Infinity"))
    ▸ binary binary.Lt (ident (codes "Infinity")) (whole 1) ▸ binary binary.Lt (unary unary.Minus (ident (codes "Infinity"))) (unary unary.Minus (whole 1))
    ▸ binary binary.Lt (unary unary.Minus (whole 1)) (unary unary.Minus (ident (codes "Infinity")))
    ▸ binary binary.Lt (unary unary.Minus (ident (codes "Infinity"))) (unary unary.Minus (ident (codes "Infinity")))
    ▸ binary binary.Lt (unary unary.Minus (ident (codes "Infinity"))) (ident (codes "Infinity")) ▸ End))
    ▸ End)
    (HostCall 7 shown.Undefined (shown.Bool true ∷ shown.Bool false ∷ shown.Bool false ∷ shown.Bool true ∷ shown.Bool false ∷ shown.Bool false ∷ shown.Bool true ∷ [])
    ∷ []) (ending.Done [])
compares_with_infinities = does refl (simp meaning_node refl)

-- f(NaN < 1, -1 < NaN, 1 >= NaN, NaN >= NaN, NaN <= 1, undefined > 0, 1 >= 2, 2 >= 1, 2 >= 2);
compares_with_no_number :
    Does 9 nulls []
    (statement (call (ident (codes "f")) (binary binary.Lt (ident (codes "NaN")) (whole 1) ▸ binary binary.Lt (unary unary.Minus (whole 1)) (ident (codes "NaN"))
    ▸ binary binary.GtEq (whole 1) (ident (codes "NaN")) ▸ binary binary.GtEq (ident (codes "NaN")) (ident (codes "NaN")) ▸ binary binary.LtEq (ident (codes "NaN")) (whole 1)
    ▸ binary binary.Gt (ident (codes "undefined")) (whole 0) ▸ binary binary.GtEq (whole 1) (whole 2) ▸ binary binary.GtEq (whole 2) (whole 1)
    ▸ binary binary.GtEq (whole 2) (whole 2) ▸ End))
    ▸ End)
    (HostCall 7 shown.Undefined (shown.Bool false ∷ shown.Bool false ∷ shown.Bool false ∷ shown.Bool false ∷ shown.Bool false ∷ shown.Bool false ∷ shown.Bool false
    ∷ shown.Bool true ∷ shown.Bool true ∷ []) ∷ []) (ending.Done [])
compares_with_no_number = does refl (simp meaning_node refl)

-- f("\u{103ff}" < "\u{10400}", "\u{10400}" < "\u{103ff}", "\ud7ff\ue000" < "\u{10000}", "\uffff" < "\ue000");
compares_units_of_high_surrogates :
    Does 9 nulls []
    (statement (call (ident (codes "f")) (binary binary.Lt (string (240 ∷ 144 ∷ 143 ∷ 191 ∷ [])) (string (240 ∷ 144 ∷ 144 ∷ 128 ∷ [])) ▸ binary binary.Lt (string (240 ∷ 144 ∷ 144
    ∷ 128 ∷ [])) (string (240 ∷ 144 ∷ 143 ∷ 191 ∷ [])) ▸ binary binary.Lt (string (237 ∷ 159 ∷ 191 ∷ 238 ∷ 128 ∷ 128 ∷ [])) (string (240 ∷ 144 ∷ 128 ∷ 128 ∷ []))
    ▸ binary binary.Lt (string (239 ∷ 191 ∷ 191 ∷ [])) (string (238 ∷ 128 ∷ 128 ∷ [])) ▸ End))
    ▸ End)
    (HostCall 7 shown.Undefined (shown.Bool true ∷ shown.Bool false ∷ shown.Bool true ∷ shown.Bool false ∷ []) ∷ []) (ending.Done [])
unfolding chars
compares_units_of_high_surrogates = does refl (simp meaning_node refl)

-- f("\u{10400}" < "\u{10401}", "\u{103fe}" < "\u{103ff}", "\u{10401}" < "\u{10400}");
compares_units_of_low_surrogates :
    Does 9 nulls []
    (statement (call (ident (codes "f")) (binary binary.Lt (string (240 ∷ 144 ∷ 144 ∷ 128 ∷ [])) (string (240 ∷ 144 ∷ 144 ∷ 129 ∷ [])) ▸ binary binary.Lt (string (240 ∷ 144 ∷ 143
    ∷ 190 ∷ [])) (string (240 ∷ 144 ∷ 143 ∷ 191 ∷ [])) ▸ binary binary.Lt (string (240 ∷ 144 ∷ 144 ∷ 129 ∷ [])) (string (240 ∷ 144 ∷ 144 ∷ 128 ∷ [])) ▸ End))
    ▸ End)
    (HostCall 7 shown.Undefined (shown.Bool true ∷ shown.Bool true ∷ shown.Bool false ∷ []) ∷ []) (ending.Done [])
unfolding chars
compares_units_of_low_surrogates = does refl (simp meaning_node refl)

-- f("\uf000".length, "\uefff".length, "\u00ff".length, "\u0080".length, "\u007f".length, "\u{10000}".length, "".length);
counts_units_by_first_bytes :
    Does 9 nulls []
    (statement (call (ident (codes "f")) (member (string (239 ∷ 128 ∷ 128 ∷ [])) (codes "length") ▸ member (string (238 ∷ 191 ∷ 191 ∷ [])) (codes "length") ▸ member (string (195
    ∷ 191 ∷ [])) (codes "length") ▸ member (string (194 ∷ 128 ∷ [])) (codes "length") ▸ member (string (127 ∷ [])) (codes "length") ▸ member (string (240 ∷ 144 ∷ 128 ∷ 128
    ∷ [])) (codes "length") ▸ member (string (codes "")) (codes "length") ▸ End))
    ▸ End)
    (HostCall 7 shown.Undefined (shown.Num (js_number.Whole (pos 1)) ∷ shown.Num (js_number.Whole (pos 1)) ∷ shown.Num (js_number.Whole (pos 1))
    ∷ shown.Num (js_number.Whole (pos 1)) ∷ shown.Num (js_number.Whole (pos 1)) ∷ shown.Num (js_number.Whole (pos 2)) ∷ shown.Num (js_number.Whole (pos 0)) ∷ [])
    ∷ []) (ending.Done [])
counts_units_by_first_bytes = does refl (simp meaning_node refl)

-- f("" + false, "" + true, +false, +true, -null, ~undefined, +undefined, undefined + 1);
casts_truths_and_nothing :
    Does 9 nulls []
    (statement (call (ident (codes "f")) (binary binary.Add (string (codes "")) (truth false) ▸ binary binary.Add (string (codes "")) (truth true) ▸ unary unary.Plus (truth false)
    ▸ unary unary.Plus (truth true) ▸ unary unary.Minus null ▸ unary unary.Tilde (ident (codes "undefined")) ▸ unary unary.Plus (ident (codes "undefined"))
    ▸ binary binary.Add (ident (codes "undefined")) (whole 1) ▸ End))
    ▸ End)
    (HostCall 7 shown.Undefined (shown.Text (codes "false") ∷ shown.Text (codes "true") ∷ shown.Num (js_number.Whole (pos 0)) ∷ shown.Num (js_number.Whole (pos 1))
    ∷ shown.Num (js_number.NegZero) ∷ shown.Num (js_number.Whole (negsuc 0)) ∷ shown.Num (js_number.NaN) ∷ shown.Num (js_number.NaN) ∷ []) ∷ []) (ending.Done [])
casts_truths_and_nothing = does refl (simp meaning_node refl)

-- g(`a${f(1)}b${f(2)}c`);
casts_parts_of_templates_in_order :
    Does 9 (Return (shown.Text (codes "x")) ∷ Return (shown.Text (codes "y")) ∷ Return shown.Null ∷ []) []
    (statement (call (ident (codes "g")) (tree kind.Tpl (list (call (ident (codes "f")) (whole 1 ▸ End) ▸ call (ident (codes "f")) (whole 2 ▸ End) ▸ End)
    ▸ list (tree (kind.TplElement (codes "a") (Some (codes "a")) false) End ▸ tree (kind.TplElement (codes "b") (Some (codes "b")) false) End
    ▸ tree (kind.TplElement (codes "c") (Some (codes "c")) true) End ▸ End) ▸ End) ▸ End))
    ▸ End)
    (HostCall 7 shown.Undefined (shown.Num (js_number.Whole (pos 1)) ∷ []) ∷ HostCall 7 shown.Undefined (shown.Num (js_number.Whole (pos 2)) ∷ [])
    ∷ HostCall 8 shown.Undefined (shown.Text (codes "axbyc") ∷ []) ∷ []) (ending.Done [])
casts_parts_of_templates_in_order = does refl (simp meaning_node refl)

-- f("" ? 1 : 2, "a" ? 1 : 2, NaN ? 1 : 2, 0 ? 1 : 2, 3 ? 1 : 2, f ? 1 : 2, {} ? 1 : 2, null ? 1 : 2);
tests_for_truth :
    Does 9 nulls []
    (statement (call (ident (codes "f")) (tree kind.CondExpr (string (codes "") ▸ whole 1 ▸ whole 2 ▸ End) ▸ tree kind.CondExpr (string (codes "a") ▸ whole 1 ▸ whole 2 ▸ End)
    ▸ tree kind.CondExpr (ident (codes "NaN") ▸ whole 1 ▸ whole 2 ▸ End) ▸ tree kind.CondExpr (whole 0 ▸ whole 1 ▸ whole 2 ▸ End) ▸ tree kind.CondExpr (whole 3 ▸ whole 1
    ▸ whole 2 ▸ End) ▸ tree kind.CondExpr (ident (codes "f") ▸ whole 1 ▸ whole 2 ▸ End) ▸ tree kind.CondExpr (object End ▸ whole 1 ▸ whole 2 ▸ End) ▸ tree kind.CondExpr (null
    ▸ whole 1 ▸ whole 2 ▸ End) ▸ End))
    ▸ End)
    (HostCall 7 shown.Undefined (shown.Num (js_number.Whole (pos 2)) ∷ shown.Num (js_number.Whole (pos 1)) ∷ shown.Num (js_number.Whole (pos 2))
    ∷ shown.Num (js_number.Whole (pos 2)) ∷ shown.Num (js_number.Whole (pos 1)) ∷ shown.Num (js_number.Whole (pos 1)) ∷ shown.Num (js_number.Whole (pos 1))
    ∷ shown.Num (js_number.Whole (pos 2)) ∷ []) ∷ []) (ending.Done [])
tests_for_truth = does refl (simp meaning_node refl)

-- let a = 12; f(a /= 4, a **= 3, a -= 7, a);
divides_and_raises_in_place :
    Does 9 nulls []
    (declare Let (codes "a") (whole 12)
    ▸ statement (call (ident (codes "f")) (tree (kind.AssignExpr assign.DivAssign) (ident (codes "a") ▸ whole 4 ▸ End) ▸ tree (kind.AssignExpr assign.ExpAssign) (ident (codes "a")
    ▸ whole 3 ▸ End) ▸ tree (kind.AssignExpr assign.SubAssign) (ident (codes "a") ▸ whole 7 ▸ End) ▸ ident (codes "a") ▸ End))
    ▸ End)
    (HostCall 7 shown.Undefined (shown.Num (js_number.Whole (pos 3)) ∷ shown.Num (js_number.Whole (pos 27)) ∷ shown.Num (js_number.Whole (pos 20))
    ∷ shown.Num (js_number.Whole (pos 20)) ∷ []) ∷ []) (ending.Done [])
unfolding quotient_of power_of
divides_and_raises_in_place = does refl (simp meaning_node refl)

-- let a = 27; f(a |= 4, a ^= 5, a &= 19, a);
masks_in_place :
    Does 9 nulls []
    (declare Let (codes "a") (whole 27)
    ▸ statement (call (ident (codes "f")) (tree (kind.AssignExpr assign.BitOrAssign) (ident (codes "a") ▸ whole 4 ▸ End)
    ▸ tree (kind.AssignExpr assign.BitXorAssign) (ident (codes "a") ▸ whole 5 ▸ End) ▸ tree (kind.AssignExpr assign.BitAndAssign) (ident (codes "a") ▸ whole 19 ▸ End)
    ▸ ident (codes "a") ▸ End))
    ▸ End)
    (HostCall 7 shown.Undefined (shown.Num (js_number.Whole (pos 31)) ∷ shown.Num (js_number.Whole (pos 26)) ∷ shown.Num (js_number.Whole (pos 18))
    ∷ shown.Num (js_number.Whole (pos 18)) ∷ []) ∷ []) (ending.Done [])
masks_in_place = does refl (simp meaning_node refl)

-- let a = 18; f(a >>= 1, a <<= 2); a = -9; f(a >>>= 28, a);
shifts_in_place :
    Does 9 nulls []
    (declare Let (codes "a") (whole 18)
    ▸ statement (call (ident (codes "f")) (tree (kind.AssignExpr assign.RShiftAssign) (ident (codes "a") ▸ whole 1 ▸ End)
    ▸ tree (kind.AssignExpr assign.LShiftAssign) (ident (codes "a") ▸ whole 2 ▸ End) ▸ End))
    ▸ statement (assign (ident (codes "a")) (unary unary.Minus (whole 9)))
    ▸ statement (call (ident (codes "f")) (tree (kind.AssignExpr assign.ZeroFillRShiftAssign) (ident (codes "a") ▸ whole 28 ▸ End) ▸ ident (codes "a") ▸ End))
    ▸ End)
    (HostCall 7 shown.Undefined (shown.Num (js_number.Whole (pos 9)) ∷ shown.Num (js_number.Whole (pos 36)) ∷ []) ∷ HostCall 7 shown.Undefined (shown.Num (js_number.Whole (pos 15))
    ∷ shown.Num (js_number.Whole (pos 15)) ∷ []) ∷ []) (ending.Done [])
shifts_in_place = does refl (simp meaning_node refl)

-- let a = 7; f(a *= 3, a %= 4, a += "b", a);
multiplies_and_joins_in_place :
    Does 9 nulls []
    (declare Let (codes "a") (whole 7)
    ▸ statement (call (ident (codes "f")) (tree (kind.AssignExpr assign.MulAssign) (ident (codes "a") ▸ whole 3 ▸ End) ▸ tree (kind.AssignExpr assign.ModAssign) (ident (codes "a")
    ▸ whole 4 ▸ End) ▸ tree (kind.AssignExpr assign.AddAssign) (ident (codes "a") ▸ string (codes "b") ▸ End) ▸ ident (codes "a") ▸ End))
    ▸ End)
    (HostCall 7 shown.Undefined (shown.Num (js_number.Whole (pos 21)) ∷ shown.Num (js_number.Whole (pos 1)) ∷ shown.Text (codes "1b") ∷ shown.Text (codes "1b") ∷ [])
    ∷ []) (ending.Done [])
unfolding digits product_of remainder_of
multiplies_and_joins_in_place = does refl (simp meaning_node refl)

-- let a = 0; f(a &&= f(1), a ||= 2, a ||= f(3), a &&= 4, a ??= f(5)); a = null; f(a ??= 6, a);
assigns_by_logical_operators :
    Does 9 nulls []
    (declare Let (codes "a") (whole 0)
    ▸ statement (call (ident (codes "f")) (tree (kind.AssignExpr assign.AndAssign) (ident (codes "a") ▸ call (ident (codes "f")) (whole 1 ▸ End) ▸ End)
    ▸ tree (kind.AssignExpr assign.OrAssign) (ident (codes "a") ▸ whole 2 ▸ End) ▸ tree (kind.AssignExpr assign.OrAssign) (ident (codes "a") ▸ call (ident (codes "f")) (whole 3
    ▸ End) ▸ End) ▸ tree (kind.AssignExpr assign.AndAssign) (ident (codes "a") ▸ whole 4 ▸ End) ▸ tree (kind.AssignExpr assign.NullishAssign) (ident (codes "a")
    ▸ call (ident (codes "f")) (whole 5 ▸ End) ▸ End) ▸ End))
    ▸ statement (assign (ident (codes "a")) null)
    ▸ statement (call (ident (codes "f")) (tree (kind.AssignExpr assign.NullishAssign) (ident (codes "a") ▸ whole 6 ▸ End) ▸ ident (codes "a") ▸ End))
    ▸ End)
    (HostCall 7 shown.Undefined (shown.Num (js_number.Whole (pos 0)) ∷ shown.Num (js_number.Whole (pos 2)) ∷ shown.Num (js_number.Whole (pos 2))
    ∷ shown.Num (js_number.Whole (pos 4)) ∷ shown.Num (js_number.Whole (pos 4)) ∷ []) ∷ HostCall 7 shown.Undefined (shown.Num (js_number.Whole (pos 6))
    ∷ shown.Num (js_number.Whole (pos 6)) ∷ []) ∷ []) (ending.Done [])
assigns_by_logical_operators = does refl (simp meaning_node refl)

-- let a = 1; function h() { a = 5; return 2; } a += h(); f(a); f.b += g(1);
reads_a_target_before_the_right_side :
    Does 9 (Return shown.Null ∷ Return (shown.Num (js_number.Whole (pos 3))) ∷ Return (shown.Num (js_number.Whole (pos 4))) ∷ Return shown.Null ∷ []) []
    (declare Let (codes "a") (whole 1)
    ▸ declare_function (codes "h") End (statement (assign (ident (codes "a")) (whole 5)) ▸ returns (whole 2) ▸ End)
    ▸ statement (tree (kind.AssignExpr assign.AddAssign) (ident (codes "a") ▸ call (ident (codes "h")) End ▸ End))
    ▸ statement (call (ident (codes "f")) (ident (codes "a") ▸ End))
    ▸ statement (tree (kind.AssignExpr assign.AddAssign) (member (ident (codes "f")) (codes "b") ▸ call (ident (codes "g")) (whole 1 ▸ End) ▸ End))
    ▸ End)
    (HostCall 7 shown.Undefined (shown.Num (js_number.Whole (pos 3)) ∷ []) ∷ HostGet 7 (codes "b") ∷ HostCall 8 shown.Undefined (shown.Num (js_number.Whole (pos 1)) ∷ [])
    ∷ HostSet 7 (codes "b") (shown.Num (js_number.Whole (pos 7))) ∷ []) (ending.Done [])
reads_a_target_before_the_right_side = does refl (simp meaning_node refl)

-- try { x += f(1); } catch (e) { f(e); } let x = 1;
assigns_no_empty_variable_by_operators :
    Does 9 nulls []
    (tree kind.TryStmt (block (statement (tree (kind.AssignExpr assign.AddAssign) (ident (codes "x") ▸ call (ident (codes "f")) (whole 1 ▸ End) ▸ End)) ▸ End)
    ▸ tree kind.CatchClause (binding (codes "e") ▸ block (statement (call (ident (codes "f")) (ident (codes "e") ▸ End)) ▸ End) ▸ End) ▸ absent ▸ End)
    ▸ declare Let (codes "x") (whole 1)
    ▸ End)
    (HostCall 7 shown.Undefined (shown.Error error.Reference ∷ []) ∷ []) (ending.Done [])
assigns_no_empty_variable_by_operators = does refl (simp meaning_node refl)
