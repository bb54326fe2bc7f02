-- Of what is written for enums and for reads of their members, nothing has to be lowered, where nothing of what stands in it has.
use Rattle.std.proofs.Common.{◌≡◌, ◌∙◌, ℕ, zero, suc, Bool, true, false, not, cond, ◌&&◌, ◌||◌, List, [], ◌∷◌, ◌++◌, map, get_or, Option, Some, None, refl, sym, ap, subst, slice_get}
use Rattle.std.specs.Option.{option_and_then}
use Rattle.std.specs.Prelude.{ℤ, pos, int_lt, if◌then◌else◌}
use Rattle.ecma_kind.specs.declared.ident.Ident.{Ident}
use Rattle.ecma_kind.specs.declared.kind.Kind.{Kind}
use Rattle.ecma_kind.specs.declared.kind.Kind.TheVariants as kind
use Rattle.ecma_kind.specs.declared.operators.AssignOp.TheVariants.{Assign}
use Rattle.ecma_kind.specs.declared.operators.BinaryOp.TheVariants as binary
use Rattle.ecma_kind.specs.declared.operators.UnaryOp.TheVariants as unary
use Rattle.ecma_kind.specs.declared.span.Span.{Span}
use Rattle.ecma_number.specs.Arithmetic.{unary_minus_of}
use Rattle.ecma_number.specs.declared.js_number.JsNumber.{JsNumber}
use Rattle.ecma_number.specs.declared.js_number.JsNumber.TheVariants as number
use Rattle.ecma_tree.specs.Idents.{ident_node}
use Rattle.ecma_tree.specs.Nodes.{absent, dummy_span, list_node, node_of}
use Rattle.ecma_tree.specs.Sorted.{is_absent}
use Rattle.ecma_tree.specs.declared.node.Node.{Node, out-Node}
use Rattle.ecma_utils.specs.Expressions.{assign_of, call_of, computed_member_of, key_of}
use Rattle.ecma_enums.specs.Values.{divided_by_zero, expression, minus, number_expression, numeral, one as one_number, text_literal, undefined, whole_expression, zero as zero_number}
use Rattle.ecma_enums.specs.declared.value.TsEnumRecordValue.{TsEnumRecordValue}
use Rattle.ecma_enums.specs.declared.value.TsEnumRecordValue.TheVariants as value
use Rattle.ecma_forms.specs.Forms.{is_odd_by, is_unlowered, is_unlowered_kind}
use Rattle.ecma_lower_enums.specs.declared.known.Around.{Around}
use Rattle.ecma_lower_enums.specs.declared.known.KnownEnums.{KnownEnums}
use Rattle.ecma_lower_enums.specs.declared.known.Part.{Part}
use Rattle.ecma_lower_enums.specs.Forms.{as_it_stands, at_text, block_of, call, calls, declaration, declarations, declared, function_of, is_exported_here, is_known, is_known_text, is_nil, is_this, known_value, member, member_by, member_in, object_by, or_new, parameters, part_statements, set_member, set_other, set_text, value_of, value_or, variable, word_of}
use Rattle.ecma_lower_enums.specs.Known.{has_id, skips}
use Rattle.ecma_lower_enums_sources.proofs.Alike.{made-kind}
use Rattle.ecma_lower_enums_sources.proofs.Relating.{made-children}
use Rattle.ecma_lower_enums_sources.proofs.Relation.{children_of}
use Rattle.ecma_lower_enums_sources.proofs.Suiting.{no}
use Rattle.ecma_rules.specs.Children.{holds_of, is_present, of_kind}
use Rattle.ecma_rules.specs.Members.{has_body}
use Rattle.ecma_lower_enums_forms.proofs.Walks.{Low, low-made}

-- nothing of a node that is asked has to be lowered
abbrev pub L : Node → Type 0
L = Low is_unlowered

abbrev pub AllLow : List Node → Type 0
AllLow [] = Unit
AllLow (n ∷ ns) = L n × AllLow ns

pub low-at : (ns : List Node) → AllLow ns → (i : ℕ) (c : Node) → slice_get ns i ≡ Some c → L c
low-at [] h i c at = cc
low-at (n ∷ ns) h zero c at = let same : n ≡ c = cc in subst L same h.0
low-at (n ∷ ns) h (suc i) c at = low-at ns h.1 i c at

pub append-low : (ns ms : List Node) → AllLow ns → AllLow ms → AllLow (ns ++ ms)
append-low [] ms h g = g
append-low (n ∷ ns) ms h g = (h.0, append-low ns ms h.1 g)

or-false : (a b : Bool) → a ≡ false → b ≡ false → (a || b) ≡ false
or-false a b h g = ap (λ z. z || b) h ∙ g

-- ---- nodes that are made

pub over : (span : Span) (k : Kind) (cs : List Node) → is_unlowered_kind k ≡ false → is_odd_by k (node_of span k cs) ≡ false → AllLow cs → L (node_of span k cs)
over span k cs h o all =
    let n = node_of span k cs in
    low-made is_unlowered n (ap (λ z. is_unlowered_kind z || is_odd_by z n) (made-kind span k cs) ∙ or-false (is_unlowered_kind k) (is_odd_by k n) h o)
    (λ i c at stay. low-at cs all i c (ap (λ (z : List Node). slice_get z i) (sym (made-children span k cs)) ∙ at))

-- what is made, but for functions
abbrev pub is_frame : Kind → Bool
is_frame kind.Absent = true
is_frame kind.List = true
is_frame (kind.Ident sym ctxt optional) = true
is_frame (kind.IdentName sym) = true
is_frame (kind.Str value raw) = true
is_frame (kind.Number value raw) = true
is_frame (kind.UnaryExpr op) = true
is_frame (kind.BinExpr op) = true
is_frame (kind.AssignExpr op) = true
is_frame kind.MemberExpr = true
is_frame kind.ComputedPropName = true
is_frame kind.ObjectLit = true
is_frame kind.KeyValueProp = true
is_frame kind.KeyValuePatProp = true
is_frame kind.AssignPat = true
is_frame kind.CallExpr = true
is_frame (kind.Function is_generator is_async) = true
is_frame kind.Param = true
is_frame kind.BlockStmt = true
is_frame kind.ExprStmt = true
is_frame (kind.VarDecl word declare) = true
is_frame (kind.VarDeclarator definite) = true
is_frame kind.BindingIdent = true
is_frame kind.ExportDecl = true
is_frame kind.TsTypeAssertion = true
is_frame kind.TsConstAssertion = true
is_frame kind.TsNonNullExpr = true
is_frame kind.TsAsExpr = true
is_frame kind.TsInstantiation = true
is_frame kind.TsSatisfiesExpr = true
is_frame _ = false

frame-low : (k : Kind) (n : Node) → is_frame k ≡ true → (is_unlowered_kind k ≡ false) × (is_odd_by k n ≡ false)
frame-low kind.Absent n h = (refl, refl)
frame-low kind.List n h = (refl, refl)
frame-low (kind.Ident sym ctxt optional) n h = (refl, refl)
frame-low (kind.IdentName sym) n h = (refl, refl)
frame-low (kind.Str value raw) n h = (refl, refl)
frame-low (kind.Number value raw) n h = (refl, refl)
frame-low (kind.UnaryExpr op) n h = (refl, refl)
frame-low (kind.BinExpr op) n h = (refl, refl)
frame-low (kind.AssignExpr op) n h = (refl, refl)
frame-low kind.MemberExpr n h = (refl, refl)
frame-low kind.ComputedPropName n h = (refl, refl)
frame-low kind.ObjectLit n h = (refl, refl)
frame-low kind.KeyValueProp n h = (refl, refl)
frame-low kind.KeyValuePatProp n h = (refl, refl)
frame-low kind.AssignPat n h = (refl, refl)
frame-low kind.CallExpr n h = (refl, refl)
frame-low (kind.Function is_generator is_async) n h = (refl, refl)
frame-low kind.Param n h = (refl, refl)
frame-low kind.BlockStmt n h = (refl, refl)
frame-low kind.ExprStmt n h = (refl, refl)
frame-low (kind.VarDecl word declare) n h = (refl, refl)
frame-low (kind.VarDeclarator definite) n h = (refl, refl)
frame-low kind.BindingIdent n h = (refl, refl)
frame-low kind.ExportDecl n h = (refl, refl)
frame-low kind.TsTypeAssertion n h = (refl, refl)
frame-low kind.TsConstAssertion n h = (refl, refl)
frame-low kind.TsNonNullExpr n h = (refl, refl)
frame-low kind.TsAsExpr n h = (refl, refl)
frame-low kind.TsInstantiation n h = (refl, refl)
frame-low kind.TsSatisfiesExpr n h = (refl, refl)
frame-low _ n h = no h

pub framed : (span : Span) (k : Kind) (cs : List Node) → is_frame k ≡ true → AllLow cs → L (node_of span k cs)
framed span k cs f all = let h = frame-low k (node_of span k cs) f in over span k cs h.0 h.1 all

pub absent-low : L absent
absent-low = framed dummy_span kind.Absent [] refl tt

list-low : (ns : List Node) → AllLow ns → L (list_node ns)
list-low ns h = framed dummy_span kind.List ns refl h

ident-low : (of : Ident) → L (ident_node of)
ident-low of = framed of.span (kind.Ident of.sym of.ctxt of.optional) [] refl tt

pub key-low : (span : Span) (text : List ℕ) → L (key_of span text)
key-low span text = framed span (kind.IdentName text) [] refl tt

text-low : (text : List ℕ) → L (text_literal text)
text-low text = framed dummy_span (kind.Str text None) [] refl tt

--   E.A
pub member-low : (of : Ident) (text : List ℕ) → L (member of text)
member-low of text = framed dummy_span kind.MemberExpr (ident_node of ∷ key_of dummy_span text ∷ []) refl (ident-low of, (key-low dummy_span text, tt))

computed-low : (e p : Node) → L e → L p → L (computed_member_of e p)
computed-low e p h g =
    let key = framed dummy_span kind.ComputedPropName (p ∷ []) refl (g, tt) in
    framed dummy_span kind.MemberExpr (e ∷ node_of dummy_span kind.ComputedPropName (p ∷ []) ∷ []) refl (h, (key, tt))

assign-low : (target e : Node) → L target → L e → L (assign_of Assign target e)
assign-low target e h g = framed dummy_span (kind.AssignExpr Assign) (target ∷ e ∷ []) refl (h, (g, tt))

-- ---- values

numeral-low : (n : Option JsNumber) → L (numeral n)
numeral-low n = framed dummy_span (kind.Number n None) [] refl tt

minus-low : (e : Node) → L e → L (minus e)
minus-low e h = framed dummy_span (kind.UnaryExpr unary.Minus) (e ∷ []) refl (h, tt)

divided-low : (e : Node) → L e → L (divided_by_zero e)
divided-low e h = framed dummy_span (kind.BinExpr binary.Div) (e ∷ numeral (Some zero_number) ∷ []) refl (h, (numeral-low (Some zero_number), tt))

undefined-low : L undefined
undefined-low = framed dummy_span (kind.UnaryExpr unary.Void) (numeral (Some zero_number) ∷ []) refl (numeral-low (Some zero_number), tt)

whole-low : (n : ℤ) → L (whole_expression n)
whole-low n = by (int_lt n (pos 0))
  where
    by : (b : Bool) → L (if b then minus (numeral (Some (unary_minus_of (number.Whole n)))) else numeral (Some (number.Whole n)))
    by true = minus-low (numeral (Some (unary_minus_of (number.Whole n)))) (numeral-low (Some (unary_minus_of (number.Whole n))))
    by false = numeral-low (Some (number.Whole n))

number-low : (n : JsNumber) → L (number_expression n)
number-low (number.Whole n) = whole-low n
number-low number.NegZero = minus-low (numeral (Some zero_number)) (numeral-low (Some zero_number))
number-low number.NaN = divided-low (numeral (Some zero_number)) (numeral-low (Some zero_number))
number-low number.Infinity = divided-low (numeral (Some one_number)) (numeral-low (Some one_number))
number-low number.NegInfinity = divided-low (minus (numeral (Some one_number))) (minus-low (numeral (Some one_number)) (numeral-low (Some one_number)))

abbrev pub IfLow : Option Node → Type 0
IfLow None = Unit
IfLow (Some e) = L e

pub value-low : (v : Option TsEnumRecordValue) → IfLow (option_and_then expression v)
value-low None = tt
value-low (Some (value.String text)) = text-low text
value-low (Some (value.Number n)) = number-low n
value-low (Some value.Opaque) = tt
value-low (Some value.Void) = undefined-low

-- ---- members

at-low : (of : Ident) (text : List ℕ) → L (at_text of text)
at-low of text = computed-low (ident_node of) (text_literal text) (ident-low of) (text-low text)

set-text-low : (of : Ident) (text : List ℕ) (v : Node) → L v → L (set_text of text v)
set-text-low of text v h = assign-low (at_text of text) v (at-low of text) h

set-other-low : (of : Ident) (text : List ℕ) (v : Node) → L v → L (set_other of text v)
set-other-low of text v h =
    assign-low (computed_member_of (ident_node of) (set_text of text v)) (text_literal text) (computed-low (ident_node of) (set_text of text v) (ident-low of) (set-text-low of text v h)) (text-low text)

stands-low : (init : Node) → L init → L (as_it_stands init)
stands-low init h = by (is_absent (out-Node init).kind)
  where
    by : (b : Bool) → L (cond b undefined init)
    by true = undefined-low
    by false = h

value-or-low : (o : Option Node) (init : Node) → IfLow o → L init → L (value_or o init)
value-or-low None init h g = stands-low init g
value-or-low (Some e) init h g = h

set-low : (of : Ident) (text : List ℕ) (v : Option TsEnumRecordValue) (init : Node) → L init → L (set_member of text v init)
set-low of text v init h = by (is_known_text v)
  where
    written : L (value_of v init)
    written = value-or-low (option_and_then expression v) init (value-low v) h

    by : (b : Bool) → L (cond b (set_text of text (value_of v init)) (set_other of text (value_of v init)))
    by true = set-text-low of text (value_of v init) written
    by false = set-other-low of text (value_of v init) written

member-by-low : (skip : Bool) (of : Ident) (span : Span) (text : List ℕ) (v : Option TsEnumRecordValue) (init : Node) → L init → AllLow (member_by skip of span text v init)
member-by-low skip of span text v init h = by (skip && is_known v)
  where
    by : (b : Bool) → AllLow (cond b [] (node_of span kind.ExprStmt (set_member of text v init ∷ []) ∷ []))
    by true = tt
    by false = (framed span kind.ExprStmt (set_member of text v init ∷ []) refl (set-low of text v init h, tt), tt)

pub members-low : (enums : KnownEnums) (skip : Bool) (o : Option Ident) (span : Span) (text : List ℕ) (init : Node) → L init → AllLow (member_in enums skip o span text init)
members-low enums skip None span text init h = tt
members-low enums skip (Some of) span text init h = member-by-low skip of span text (known_value enums of text) init h

-- ---- the variable

declared-low : (of : Ident) → L (declared of)
declared-low of = framed of.span kind.BindingIdent (ident_node of ∷ absent ∷ []) refl (ident-low of, (absent-low, tt))

variable-low : (part : Part) → L (variable part)
variable-low part =
    let d = node_of part.name.span (kind.VarDeclarator false) (declared part.name ∷ absent ∷ []) in
    let dl = framed part.name.span (kind.VarDeclarator false) (declared part.name ∷ absent ∷ []) refl (declared-low part.name, (absent-low, tt)) in
    framed part.name.span (kind.VarDecl (word_of part.at_top) false) (list_node (d ∷ []) ∷ []) refl (list-low (d ∷ []) (dl, tt), tt)

declaration-low : (part : Part) (around : Around) → L (declaration part around)
declaration-low part around = by (is_exported_here part around)
  where
    by : (b : Bool) → L (cond b (node_of part.name.span kind.ExportDecl (variable part ∷ [])) (variable part))
    by true = framed part.name.span kind.ExportDecl (variable part ∷ []) refl (variable-low part, tt)
    by false = variable-low part

declarations-low : (part : Part) (around : Around) → AllLow (declarations part around)
declarations-low part around = by (has_id part.name around.before)
  where
    by : (b : Bool) → AllLow (cond b [] (declaration part around ∷ []))
    by true = tt
    by false = (declaration-low part around, tt)

-- ---- the call

or-new-low : (t : Node) → L t → L (or_new t)
or-new-low t h =
    let object = node_of dummy_span kind.ObjectLit (list_node [] ∷ []) in
    let ol = framed dummy_span kind.ObjectLit (list_node [] ∷ []) refl (list-low [] tt, tt) in
    framed dummy_span (kind.BinExpr binary.LogicalOr) (t ∷ assign_of Assign t object ∷ []) refl (h, (assign-low t object h ol, tt))

object-low : (exported : Bool) (o : Option Ident) (of : Ident) → L (object_by exported o of)
object-low true (Some outer) of = assign-low (ident_node of) (or_new (member outer of.sym)) (ident-low of) (or-new-low (member outer of.sym) (member-low outer of.sym))
object-low true None of = or-new-low (ident_node of) (ident-low of)
object-low false o of = or-new-low (ident_node of) (ident-low of)

parameters-low : (of : Ident) → AllLow (parameters of)
parameters-low of = by (is_this of)
  where
    by : (b : Bool) → AllLow (cond b [] (node_of of.span kind.Param (declared of ∷ []) ∷ []))
    by true = tt
    by false = (framed of.span kind.Param (declared of ∷ []) refl (declared-low of, tt), tt)

-- it has a body
function-low : (of : Ident) (list : Node) → L list → L (function_of of list)
function-low of list h =
    let block = framed dummy_span kind.BlockStmt (list ∷ []) refl (h, tt) in
    let cs = list_node (parameters of) ∷ block_of list ∷ absent ∷ absent ∷ [] in
    let f = node_of dummy_span (kind.Function false false) cs in
    let fl = framed dummy_span (kind.Function false false) cs refl (list-low (parameters of) (parameters-low of), (block, (absent-low, (absent-low, tt)))) in
    let there : has_body f ≡ true =
    ap (λ (z : List Node). of_kind is_present (slice_get z 1)) (made-children dummy_span (kind.Function false false) cs) ∙ ap is_present (made-kind dummy_span kind.BlockStmt (list ∷ [])) in
    over (out-Node f).span kind.FnExpr (absent ∷ f ∷ []) refl
    (ap (λ (z : List Node). not (holds_of has_body (slice_get z 1))) (made-children (out-Node f).span kind.FnExpr (absent ∷ f ∷ [])) ∙ ap not there)
    (absent-low, (fl, tt))

call-low : (span : Span) (part : Part) (around : Around) (list : Node) → L list → L (call span part around list)
call-low span part around list h =
    let f = function_of part.name list in
    let o = object_by part.exported around.name part.name in
    let args = list-low (o ∷ []) (object-low part.exported around.name part.name, tt) in
    let called = framed dummy_span kind.CallExpr (f ∷ list_node (o ∷ []) ∷ absent ∷ []) refl (function-low part.name list h, (args, (absent-low, tt))) in
    framed span kind.ExprStmt (call_of dummy_span f (o ∷ []) ∷ []) refl (called, tt)

calls-low : (enums : KnownEnums) (span : Span) (part : Part) (around : Around) (list : Node) → L list → AllLow (calls enums span part around list)
calls-low enums span part around list h = by (skips enums part && is_nil (out-Node list).children)
  where
    by : (b : Bool) → AllLow (cond b [] (call span part around list ∷ []))
    by true = tt
    by false = (call-low span part around list h, tt)

pub part-low : (enums : KnownEnums) (span : Span) (part : Part) (around : Around) (list : Node) → L list → AllLow (part_statements enums span part around list)
part-low enums span part around list h = append-low (declarations part around) (calls enums span part around list) (declarations-low part around) (calls-low enums span part around list h)
