-- What is written for enums, without types.
use Rattle.std.proofs.Common.{◌≡◌, ◌∙◌, ℕ, pos, int_lt, Bool, true, false, ◌&&◌, not, cond, refl, sym, ap, ap₂, List, [], ◌∷◌, ◌++◌, map, filter, Option, Some, None}
use Rattle.std.specs.Option.{option_and_then}
use Rattle.std.proofs.lemmas.List.{map-append}
use Rattle.ecma_kind.specs.declared.ident.Ident.{Ident}
use Rattle.ecma_kind.specs.declared.kind.Kind.{Kind}
use Rattle.ecma_kind.specs.declared.kind.Kind.TheVariants as kind
use Rattle.ecma_kind.specs.declared.operators.AssignOp.TheVariants.{Assign}
use Rattle.ecma_kind.specs.declared.operators.BinaryOp.TheVariants as binary
use Rattle.ecma_kind.specs.declared.operators.UnaryOp.TheVariants as unary
use Rattle.ecma_kind.specs.declared.span.Span.{Span}
use Rattle.ecma_number.specs.declared.js_number.JsNumber.{JsNumber}
use Rattle.ecma_number.specs.declared.js_number.JsNumber.TheVariants as number
use Rattle.ecma_tree.specs.Idents.{ident_node}
use Rattle.ecma_tree.specs.Nodes.{absent, dummy_span, list_node, node_of}
use Rattle.ecma_tree.specs.Sorted.{is_absent, is_list}
use Rattle.ecma_tree.specs.Values.{value_by}
use Rattle.ecma_tree.specs.declared.node.Node.{Node, Node-F, out-Node}
use Rattle.ecma_tree.specs.declared.node.Node.TheViews.{out-roll-Node}
use Rattle.ecma_utils.specs.Expressions.{assign_of, bin_of, call_of, computed_member_of, key_of, member_of}
use Rattle.ecma_strip.specs.Staying.{is_declared, is_this_ident, specifier_stays, stays}
use Rattle.ecma_strip.specs.Stripping.{plain, plain_children, plain_kind, stripped, without_empty}
use Rattle.ecma_strip_rewriting.specs.Commuting.{is_full}
use Rattle.ecma_strip_rewriting.proofs.Commuting.{stripped-absent}
use Rattle.ecma_strip_rewriting.proofs.PlainKinds.{stripped-list, stripped-other}
use Rattle.ecma_strip_rewriting.proofs.Remaining.{this-roll}
use Rattle.ecma_strip_rewriting.proofs.Stays.{kind-roll, stays-roll}
use Rattle.ecma_enums.specs.Values.{divided_by_zero, expression, minus, number_expression, numeral, one, text_literal, undefined, zero}
use Rattle.ecma_enums.specs.declared.value.TsEnumRecordValue.{TsEnumRecordValue}
use Rattle.ecma_enums.specs.declared.value.TsEnumRecordValue.TheVariants as value
use Rattle.ecma_lower_enums.specs.declared.known.Around.{Around}
use Rattle.ecma_lower_enums.specs.declared.known.KnownEnums.{KnownEnums}
use Rattle.ecma_lower_enums.specs.declared.known.Part.{Part}
use Rattle.ecma_lower_enums.specs.Forms.{as_it_stands, at_text, block_of, call, calls, declaration, declarations, declared, function_of, is_exported_here, is_known, is_known_text, is_nil, is_this, member, member_by, object_by, or_new, parameters, part_statements, set_member, set_other, set_text, value_of, value_or, variable, word_of}
use Rattle.ecma_lower_enums.specs.Known.{has_id, skips}
use Rattle.ecma_lower_enums.specs.Writing.{or_itself, pair}

-- ---- nodes that say nothing of types

abbrev pub Bare : Node → Type 0
Bare n = stripped n ≡ n

pub plain-node : (span : Span) (k : Kind) (cs : List Node) → is_list k ≡ false → ((ds : List Node) → plain span k ds ≡ node_of span k ds) → stripped (node_of span k cs) ≡ node_of span k (map stripped cs)
plain-node span k cs l is = stripped-other span k cs l ∙ is (map stripped cs)

-- a list of one that stays
pub plain-list : (n : Node) → stays n ≡ true → stripped (list_node (n ∷ [])) ≡ list_node (stripped n ∷ [])
plain-list n h = stripped-list dummy_span (n ∷ []) ∙ ap (λ b. list_node (map stripped (cond b (n ∷ []) []))) h

abbrev two : Span → Kind → Node → Node → Node
two span k a b = node_of span k (a ∷ b ∷ [])

-- an identifier without `?`
abbrev pub IsPlain : Ident → Type 0
IsPlain of = of.optional ≡ false

pub bare-ident : (of : Ident) → IsPlain of → Bare (ident_node of)
unfolding plain plain_kind plain_children
bare-ident of h = stripped-other of.span (kind.Ident of.sym of.ctxt of.optional) [] refl ∙ ap (λ b. node_of of.span (kind.Ident of.sym of.ctxt b) []) (sym h)

pub bare-key : (span : Span) (text : List ℕ) → Bare (key_of span text)
unfolding plain plain_kind plain_children
bare-key span text = plain-node span (kind.IdentName text) [] refl (λ ds. refl)

pub bare-text : (text : List ℕ) → Bare (text_literal text)
unfolding plain plain_kind plain_children
bare-text text = plain-node dummy_span (kind.Str text None) [] refl (λ ds. refl)

plain-member : (e key : Node) → stripped (member_of e key) ≡ member_of (stripped e) (stripped key)
unfolding plain plain_kind plain_children
plain-member e key = plain-node dummy_span kind.MemberExpr (e ∷ key ∷ []) refl (λ ds. refl)

plain-computed : (e p : Node) → stripped (computed_member_of e p) ≡ computed_member_of (stripped e) (stripped p)
unfolding plain plain_kind plain_children
plain-computed e p =
    plain-member e (node_of dummy_span kind.ComputedPropName (p ∷ []))
    ∙ ap (member_of (stripped e)) (plain-node dummy_span kind.ComputedPropName (p ∷ []) refl (λ ds. refl))

plain-assign : (target e : Node) → stripped (assign_of Assign target e) ≡ assign_of Assign (stripped target) (stripped e)
unfolding plain plain_kind plain_children
plain-assign target e = plain-node dummy_span (kind.AssignExpr Assign) (target ∷ e ∷ []) refl (λ ds. refl)

plain-or : (a b : Node) → stripped (bin_of binary.LogicalOr a b) ≡ bin_of binary.LogicalOr (stripped a) (stripped b)
unfolding plain plain_kind plain_children
plain-or a b = plain-node dummy_span (kind.BinExpr binary.LogicalOr) (a ∷ b ∷ []) refl (λ ds. refl)

pub plain-line : (span : Span) (e : Node) → stripped (node_of span kind.ExprStmt (e ∷ [])) ≡ node_of span kind.ExprStmt (stripped e ∷ [])
unfolding plain plain_kind plain_children
plain-line span e = plain-node span kind.ExprStmt (e ∷ []) refl (λ ds. refl)

-- ---- values

bare-numeral : (n : Option JsNumber) → Bare (numeral n)
unfolding plain plain_kind plain_children
bare-numeral n = plain-node dummy_span (kind.Number n None) [] refl (λ ds. refl)

bare-minus : (e : Node) → Bare e → Bare (minus e)
unfolding plain plain_kind plain_children
bare-minus e h = plain-node dummy_span (kind.UnaryExpr unary.Minus) (e ∷ []) refl (λ ds. refl) ∙ ap minus h

bare-divided : (e : Node) → Bare e → Bare (divided_by_zero e)
unfolding plain plain_kind plain_children
bare-divided e h =
    plain-node dummy_span (kind.BinExpr binary.Div) (e ∷ numeral (Some zero) ∷ []) refl (λ ds. refl)
    ∙ ap₂ (two dummy_span (kind.BinExpr binary.Div)) h (bare-numeral (Some zero))

bare-undefined : Bare undefined
unfolding plain plain_kind plain_children
bare-undefined =
    plain-node dummy_span (kind.UnaryExpr unary.Void) (numeral (Some zero) ∷ []) refl (λ ds. refl)
    ∙ ap (λ z. node_of dummy_span (kind.UnaryExpr unary.Void) (z ∷ [])) (bare-numeral (Some zero))

bare-either : (b : Bool) (x y : Node) → Bare x → Bare y → Bare (cond b x y)
bare-either true x y h g = h
bare-either false x y h g = g

bare-number : (n : JsNumber) → Bare (number_expression n)
bare-number (number.Whole n) = bare-either (int_lt n (pos 0)) _ _ (bare-minus _ (bare-numeral _)) (bare-numeral _)
bare-number number.NegZero = bare-minus (numeral (Some zero)) (bare-numeral (Some zero))
bare-number number.NaN = bare-divided (numeral (Some zero)) (bare-numeral (Some zero))
bare-number number.Infinity = bare-divided (numeral (Some one)) (bare-numeral (Some one))
bare-number number.NegInfinity = bare-divided (minus (numeral (Some one))) (bare-minus (numeral (Some one)) (bare-numeral (Some one)))

abbrev pub BareSome : Option Node → Type 0
BareSome (Some e) = Bare e
BareSome None = Unit

bare-expression : (v : TsEnumRecordValue) → BareSome (expression v)
bare-expression (value.String text) = bare-text text
bare-expression (value.Number n) = bare-number n
bare-expression value.Opaque = tt
bare-expression value.Void = bare-undefined

pub bare-known : (o : Option TsEnumRecordValue) → BareSome (option_and_then expression o)
bare-known (Some v) = bare-expression v
bare-known None = tt

pub bare-or : (e : Node) (o : Option Node) → Bare e → BareSome o → Bare (or_itself e o)
bare-or e (Some v) h g = g
bare-or e None h g = h

-- ---- members

pub bare-member : (of : Ident) (text : List ℕ) → IsPlain of → Bare (member of text)
bare-member of text h = plain-member (ident_node of) (key_of dummy_span text) ∙ ap₂ member_of (bare-ident of h) (bare-key dummy_span text)

pub bare-pair : (span : Span) (text : List ℕ) (e : Node) → Bare e → Bare (pair span text e)
unfolding plain plain_kind plain_children
bare-pair span text e h =
    plain-node span kind.KeyValueProp (key_of span text ∷ e ∷ []) refl (λ ds. refl) ∙ ap₂ (two span kind.KeyValueProp) (bare-key span text) h

bare-at_text : (of : Ident) (text : List ℕ) → IsPlain of → Bare (at_text of text)
bare-at_text of text h = plain-computed (ident_node of) (text_literal text) ∙ ap₂ computed_member_of (bare-ident of h) (bare-text text)

plain-set_text : (of : Ident) (text : List ℕ) (v : Node) → IsPlain of → stripped (set_text of text v) ≡ set_text of text (stripped v)
plain-set_text of text v h = plain-assign (at_text of text) v ∙ ap (λ z. assign_of Assign z (stripped v)) (bare-at_text of text h)

plain-set_other : (of : Ident) (text : List ℕ) (v : Node) → IsPlain of → stripped (set_other of text v) ≡ set_other of text (stripped v)
plain-set_other of text v h =
    plain-assign (computed_member_of (ident_node of) (set_text of text v)) (text_literal text)
    ∙ ap₂ (assign_of Assign)
    (plain-computed (ident_node of) (set_text of text v) ∙ ap₂ computed_member_of (bare-ident of h) (plain-set_text of text v h))
    (bare-text text)

-- an initialiser is missing with its types and without
abbrev pub MissingAlike : Node → Type 0
MissingAlike n = is_absent (out-Node (stripped n)).kind ≡ is_absent (out-Node n).kind

plain-as_it_stands : (init : Node) → MissingAlike init → stripped (as_it_stands init) ≡ as_it_stands (stripped init)
plain-as_it_stands init alike = by (is_absent (out-Node init).kind) ∙ ap (λ b. cond b undefined (stripped init)) (sym alike)
  where
    by : (b : Bool) → stripped (cond b undefined init) ≡ cond b undefined (stripped init)
    by true = bare-undefined
    by false = refl

plain-value_or : (o : Option Node) (init : Node) → BareSome o → MissingAlike init → stripped (value_or o init) ≡ value_or o (stripped init)
plain-value_or (Some e) init h alike = h
plain-value_or None init h alike = plain-as_it_stands init alike

plain-set_member : (of : Ident) (text : List ℕ) (v : Option TsEnumRecordValue) (init : Node) → IsPlain of → MissingAlike init
    → stripped (set_member of text v init) ≡ set_member of text v (stripped init)
plain-set_member of text v init h alike = by (is_known_text v) ∙ ap (λ e. cond (is_known_text v) (set_text of text e) (set_other of text e)) (plain-value_or (option_and_then expression v) init (bare-known v) alike)
  where
    by : (b : Bool) → stripped (cond b (set_text of text (value_of v init)) (set_other of text (value_of v init))) ≡ cond b (set_text of text (stripped (value_of v init))) (set_other of text (stripped (value_of v init)))
    by true = plain-set_text of text (value_of v init) h
    by false = plain-set_other of text (value_of v init) h

pub plain-member_by : (unwritten : Bool) (of : Ident) (span : Span) (text : List ℕ) (v : Option TsEnumRecordValue) (init : Node) → IsPlain of → MissingAlike init
    → map stripped (member_by unwritten of span text v init) ≡ member_by unwritten of span text v (stripped init)
plain-member_by unwritten of span text v init h alike = by (unwritten && is_known v)
  where
    by : (b : Bool) → map stripped (cond b [] (node_of span kind.ExprStmt (set_member of text v init ∷ []) ∷ [])) ≡ cond b [] (node_of span kind.ExprStmt (set_member of text v (stripped init) ∷ []) ∷ [])
    by true = refl
    by false = ap (λ z. z ∷ []) (plain-line span (set_member of text v init) ∙ ap (λ z. node_of span kind.ExprStmt (z ∷ [])) (plain-set_member of text v init h alike))

-- ---- the variable

bare-declared : (of : Ident) → IsPlain of → Bare (declared of)
unfolding plain plain_kind plain_children
bare-declared of h =
    plain-node of.span kind.BindingIdent (ident_node of ∷ absent ∷ []) refl (λ ds. refl) ∙ ap₂ (two of.span kind.BindingIdent) (bare-ident of h) stripped-absent

abbrev declarator : Ident → Node
declarator of = node_of of.span (kind.VarDeclarator false) (declared of ∷ absent ∷ [])

bare-declarator : (of : Ident) → IsPlain of → Bare (declarator of)
unfolding plain plain_kind plain_children
bare-declarator of h =
    plain-node of.span (kind.VarDeclarator false) (declared of ∷ absent ∷ []) refl (λ ds. refl) ∙ ap₂ (two of.span (kind.VarDeclarator false)) (bare-declared of h) stripped-absent

declarator-stays : (of : Ident) → stays (declarator of) ≡ true
unfolding value_by is_declared specifier_stays
declarator-stays of = stays-roll of.span (kind.VarDeclarator false) (declared of ∷ absent ∷ [])

bare-variable : (part : Part) → IsPlain part.name → Bare (variable part)
unfolding plain plain_kind plain_children
bare-variable part h =
    plain-node part.name.span (kind.VarDecl (word_of part.at_top) false) (list_node (declarator part.name ∷ []) ∷ []) refl (λ ds. refl)
    ∙ ap (λ z. node_of part.name.span (kind.VarDecl (word_of part.at_top) false) (z ∷ []))
    (plain-list (declarator part.name) (declarator-stays part.name) ∙ ap (λ z. list_node (z ∷ [])) (bare-declarator part.name h))

bare-declaration : (part : Part) (around : Around) → IsPlain part.name → Bare (declaration part around)
unfolding plain plain_kind plain_children
bare-declaration part around h =
    bare-either (is_exported_here part around) (node_of part.name.span kind.ExportDecl (variable part ∷ [])) (variable part)
    (plain-node part.name.span kind.ExportDecl (variable part ∷ []) refl (λ ds. refl) ∙ ap (λ z. node_of part.name.span kind.ExportDecl (z ∷ [])) (bare-variable part h))
    (bare-variable part h)

plain-declarations : (part : Part) (around : Around) → IsPlain part.name → map stripped (declarations part around) ≡ declarations part around
plain-declarations part around h = by (has_id part.name around.before)
  where
    by : (b : Bool) → map stripped (cond b [] (declaration part around ∷ [])) ≡ cond b [] (declaration part around ∷ [])
    by true = refl
    by false = ap (λ z. z ∷ []) (bare-declaration part around h)

-- ---- the argument

abbrev object : Node
object = node_of dummy_span kind.ObjectLit (list_node [] ∷ [])

bare-object : Bare object
unfolding plain plain_kind plain_children
bare-object = plain-node dummy_span kind.ObjectLit (list_node [] ∷ []) refl (λ ds. refl) ∙ ap (λ z. node_of dummy_span kind.ObjectLit (z ∷ [])) (stripped-list dummy_span [])

bare-or_new : (t : Node) → Bare t → Bare (or_new t)
bare-or_new t h =
    plain-or t (assign_of Assign t object) ∙ ap₂ (bin_of binary.LogicalOr) h (plain-assign t object ∙ ap₂ (assign_of Assign) h bare-object)

-- a name, if there is one, without `?`
abbrev pub PlainName : Option Ident → Type 0
PlainName (Some of) = IsPlain of
PlainName None = Unit

bare-argument : (exported : Bool) (name : Option Ident) (of : Ident) → PlainName name → IsPlain of → Bare (object_by exported name of)
bare-argument true (Some outer) of g h =
    plain-assign (ident_node of) (or_new (member outer of.sym)) ∙ ap₂ (assign_of Assign) (bare-ident of h) (bare-or_new (member outer of.sym) (bare-member outer of.sym g))
bare-argument true None of g h = bare-or_new (ident_node of) (bare-ident of h)
bare-argument false name of g h = bare-or_new (ident_node of) (bare-ident of h)

assign-stays : (to e : Node) → stays (assign_of Assign to e) ≡ true
unfolding value_by is_declared specifier_stays
assign-stays to e = stays-roll dummy_span (kind.AssignExpr Assign) (to ∷ e ∷ [])

or_new-stays : (t : Node) → stays (or_new t) ≡ true
unfolding value_by is_declared specifier_stays
or_new-stays t = stays-roll dummy_span (kind.BinExpr binary.LogicalOr) (t ∷ assign_of Assign t object ∷ [])

argument-stays : (exported : Bool) (name : Option Ident) (of : Ident) → stays (object_by exported name of) ≡ true
argument-stays true (Some outer) of = assign-stays (ident_node of) (or_new (member outer of.sym))
argument-stays true None of = or_new-stays (ident_node of)
argument-stays false name of = or_new-stays (ident_node of)

-- ---- the function

abbrev parameter : Ident → Node
parameter of = node_of of.span kind.Param (declared of ∷ [])

bare-parameter : (of : Ident) → IsPlain of → Bare (parameter of)
unfolding plain plain_kind plain_children
bare-parameter of h = plain-node of.span kind.Param (declared of ∷ []) refl (λ ds. refl) ∙ ap (λ z. node_of of.span kind.Param (z ∷ [])) (bare-declared of h)

one-kept : (b : Bool) (p : Node) → (b ≡ false → stays p ≡ true) → Bare p → map stripped (filter stays (cond b [] (p ∷ []))) ≡ cond b [] (p ∷ [])
one-kept true p h e = refl
one-kept false p h e = ap (λ b. map stripped (cond b (p ∷ []) [])) (h refl) ∙ ap (λ z. z ∷ []) e

parameter-stays : (of : Ident) → is_this of ≡ false → stays (parameter of) ≡ true
unfolding value_by is_declared specifier_stays
parameter-stays of h =
    stays-roll of.span kind.Param (declared of ∷ [])
    ∙ ap not (this-roll of.span kind.BindingIdent (ident_node of ∷ absent ∷ []) ∙ ap is_this_ident (kind-roll of.span (kind.Ident of.sym of.ctxt of.optional) []) ∙ h)

bare-parameters : (of : Ident) → IsPlain of → Bare (list_node (parameters of))
bare-parameters of h = stripped-list dummy_span (parameters of) ∙ ap list_node (one-kept (is_this of) (parameter of) (parameter-stays of) (bare-parameter of h))

pub without-empty-roll : (span : Span) (cs : List Node) → without_empty (node_of span kind.List cs) ≡ node_of span kind.List (filter is_full cs)
without-empty-roll span cs =
    ap (λ (z : Node-F Node). node_of z.span z.kind (filter is_full z.children)) (out-roll-Node (record { span = span; kind = kind.List; children = cs }))

-- a list that is one still without types, and has no empty statements
pub record Lines (list : Node) : Type 0 where
  pub full : without_empty (stripped list) ≡ stripped list
  pub nil : is_nil (out-Node (stripped list)).children ≡ is_nil (out-Node list).children

plain-block : (list : Node) → Lines list → stripped (block_of list) ≡ block_of (stripped list)
unfolding plain plain_kind plain_children
plain-block list lines = stripped-other dummy_span kind.BlockStmt (list ∷ []) refl ∙ ap (λ z. node_of dummy_span kind.BlockStmt (z ∷ [])) lines.full

abbrev body : Ident → Node → Node
body of list = node_of dummy_span (kind.Function false false) (list_node (parameters of) ∷ block_of list ∷ absent ∷ absent ∷ [])

abbrev function : Ident → Node → Node
function of list = node_of dummy_span kind.FnExpr (absent ∷ body of list ∷ [])

function-is : (of : Ident) (list : Node) → function_of of list ≡ function of list
function-is of list =
    ap (λ (z : Node-F Node). node_of z.span kind.FnExpr (absent ∷ body of list ∷ []))
    (out-roll-Node (record { span = dummy_span; kind = kind.Function false false; children = list_node (parameters of) ∷ block_of list ∷ absent ∷ absent ∷ [] }))

plain-body : (of : Ident) (list : Node) → IsPlain of → Lines list → stripped (body of list) ≡ body of (stripped list)
unfolding plain plain_kind plain_children
plain-body of list h lines =
    let parameters' = bare-parameters of h in
    let block' = plain-block list lines in
    let none = stripped-absent in
    plain-node dummy_span (kind.Function false false) (list_node (parameters of) ∷ block_of list ∷ absent ∷ absent ∷ []) refl (λ ds. refl)
    ∙ (λ j. node_of dummy_span (kind.Function false false) (parameters' j ∷ block' j ∷ none j ∷ none j ∷ []))

plain-function : (of : Ident) (list : Node) → IsPlain of → Lines list → stripped (function of list) ≡ function of (stripped list)
unfolding plain plain_kind plain_children
plain-function of list h lines =
    plain-node dummy_span kind.FnExpr (absent ∷ body of list ∷ []) refl (λ ds. refl) ∙ ap₂ (two dummy_span kind.FnExpr) stripped-absent (plain-body of list h lines)

-- ---- a part

abbrev called : Part → Around → Node → Node
called part around list = call_of dummy_span (function_of part.name list) (object_by part.exported around.name part.name ∷ [])

plain-called : (part : Part) (around : Around) (list : Node) → IsPlain part.name → PlainName around.name → Lines list → stripped (called part around list) ≡ called part around (stripped list)
unfolding plain plain_kind plain_children
plain-called part around list h g lines =
    let argument = object_by part.exported around.name part.name in
    let f : stripped (function_of part.name list) ≡ function_of part.name (stripped list) =
    ap stripped (function-is part.name list) ∙ plain-function part.name list h lines ∙ sym (function-is part.name (stripped list)) in
    let one : stripped (list_node (argument ∷ [])) ≡ list_node (argument ∷ []) =
    plain-list argument (argument-stays part.exported around.name part.name) ∙ ap (λ z. list_node (z ∷ [])) (bare-argument part.exported around.name part.name g h) in
    let none = stripped-absent in
    plain-node dummy_span kind.CallExpr (function_of part.name list ∷ list_node (argument ∷ []) ∷ absent ∷ []) refl (λ ds. refl)
    ∙ (λ j. node_of dummy_span kind.CallExpr (f j ∷ one j ∷ none j ∷ []))

plain-call : (span : Span) (part : Part) (around : Around) (list : Node) → IsPlain part.name → PlainName around.name → Lines list → stripped (call span part around list) ≡ call span part around (stripped list)
plain-call span part around list h g lines = plain-line span (called part around list) ∙ ap (λ z. node_of span kind.ExprStmt (z ∷ [])) (plain-called part around list h g lines)

plain-calls : (enums : KnownEnums) (span : Span) (part : Part) (around : Around) (list : Node) → IsPlain part.name → PlainName around.name → Lines list
    → map stripped (calls enums span part around list) ≡ calls enums span part around (stripped list)
plain-calls enums span part around list h g lines =
    by (skips enums part && is_nil (out-Node list).children)
    ∙ ap (λ b. cond (skips enums part && b) [] (call span part around (stripped list) ∷ [])) (sym lines.nil)
  where
    by : (b : Bool) → map stripped (cond b [] (call span part around list ∷ [])) ≡ cond b [] (call span part around (stripped list) ∷ [])
    by true = refl
    by false = ap (λ z. z ∷ []) (plain-call span part around list h g lines)

pub plain-part : (enums : KnownEnums) (span : Span) (part : Part) (around : Around) (list : Node) → IsPlain part.name → PlainName around.name → Lines list
    → map stripped (part_statements enums span part around list) ≡ part_statements enums span part around (stripped list)
plain-part enums span part around list h g lines =
    map-append stripped (declarations part around) (calls enums span part around list)
    ∙ ap₂ (λ a b. a ++ b) (plain-declarations part around h) (plain-calls enums span part around list h g lines)
