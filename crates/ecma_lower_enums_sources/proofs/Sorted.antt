-- What is written of a tree of a shape has that shape; of a part of an enum it is statements.
use Rattle.std.proofs.Common.{◌≡◌, ◌∙◌, ℕ, zero, suc, Bool, true, false, cond, not, is_some, ◌&&◌, ◌||◌, List, [], ◌∷◌, ◌++◌, length, replicate, Option, Some, None, refl, sym, ap, subst, slice_get}
use Rattle.std.specs.Prelude.{int_lt, pos, if◌then◌else◌, ℤ}
use Rattle.ecma_kind.specs.Sorts.{belongs, is_expr, is_module_decl}
use Rattle.ecma_kind.specs.declared.ident.Ident.{Ident}
use Rattle.ecma_kind.specs.declared.kind.Kind.{Kind}
use Rattle.ecma_kind.specs.declared.kind.Kind.TheVariants as kind
use Rattle.ecma_kind.specs.declared.operators.AssignOp.TheVariants.{Assign}
use Rattle.ecma_kind.specs.declared.operators.BinaryOp.TheVariants as binary
use Rattle.ecma_kind.specs.declared.operators.UnaryOp.TheVariants as unary
use Rattle.ecma_kind.specs.declared.shapes.Count.{Count}
use Rattle.ecma_kind.specs.declared.shapes.Count.TheVariants.{One, Maybe, Many, MaybeMany, Holes}
use Rattle.ecma_kind.specs.declared.shapes.Shape.{Shape}
use Rattle.ecma_kind.specs.declared.shapes.Sort.{Sort}
use Rattle.ecma_kind.specs.declared.shapes.Sort.TheVariants as sort
use Rattle.ecma_kind.specs.declared.span.Span.{Span}
use Rattle.ecma_number.specs.Arithmetic.{unary_minus_of}
use Rattle.ecma_number.specs.declared.js_number.JsNumber.{JsNumber}
use Rattle.ecma_number.specs.declared.js_number.JsNumber.TheVariants as number
use Rattle.ecma_tree.specs.Idents.{ident_node}
use Rattle.ecma_tree.specs.Laws.{HaveShapes}
use Rattle.ecma_tree.specs.Nodes.{absent, dummy_span, list_node, node_of}
use Rattle.ecma_tree.specs.Sorted.{HasShape, HasSort, allows, allows_by, child_shapes, is_absent, is_list, item_shape, many, maybe, one, shape_of}
use Rattle.ecma_tree.specs.declared.node.Node.{Node, out-Node}
use Rattle.ecma_tree.specs.declared.node.Node.TheViews.{roll-out-Node}
use Rattle.ecma_tree.proofs.ShapeLaws.{node_has_shape}
use Rattle.ecma_rules.specs.Children.{kind_of}
use Rattle.ecma_strip_fits.proofs.Walk.{shape_parts}
use Rattle.ecma_utils.specs.Expressions.{assign_of, call_of, computed_member_of, key_of}
use Rattle.ecma_enums.specs.Values.{divided_by_zero, expression, minus, number_expression, numeral, one as one_number, text_literal, undefined, whole_expression, zero as zero_number}
use Rattle.ecma_enums.specs.declared.value.TsEnumRecordValue.{TsEnumRecordValue}
use Rattle.ecma_enums.specs.declared.value.TsEnumRecordValue.TheVariants as value
use Rattle.ecma_lower_enums.specs.declared.known.Around.{Around}
use Rattle.ecma_lower_enums.specs.declared.known.KnownEnums.{KnownEnums}
use Rattle.ecma_lower_enums.specs.declared.known.Part.{Part as EnumPart}
use Rattle.ecma_lower_enums.specs.declared.place.Place.{Place}
use Rattle.ecma_lower_enums.specs.declared.place.Place.TheVariants as place
use Rattle.ecma_lower_enums.specs.Forms.{as_it_stands, at_text, block_of, call, calls, declaration, declarations, declared, function_of, is_exported_here, is_known, is_known_text, is_nil, is_this, known_value, member, member_in, object_by, or_new, parameters, part_statements, set_member, set_other, set_text, value_of, value_or, variable, word_of}
use Rattle.ecma_lower_enums.specs.Known.{has_id, skips}
use Rattle.ecma_lower_enums.specs.Writing.{is_enum_kind, with_default}
use Rattle.ecma_lower_enums_sources.proofs.Relation.{Items, Ones, Part, Said, Stands, children_of, is_members, is_name, is_read, is_read_sort, is_target, is_target_sort, suits}
use Rattle.ecma_lower_enums_sources.proofs.Relation as relation
use Rattle.ecma_lower_enums_sources.proofs.Suiting.{child-calm, child-suits, items-suit, no}

-- the shape of what is written
abbrev pub to : Place → Shape → Shape
to (place.Member sk) t = shape_of t.count sort.Stmt
to _ t = t

to-same : (p : Place) (t : Shape) → is_members p ≡ false → to p t ≡ t
to-same (place.Member sk) t h = no (sym h)
to-same (place.Item at_top exported) t h = refl
to-same _ t h = refl

-- a list has the place of no exported declaration
abbrev is_exported : Place → Bool
is_exported (place.Item at_top exported) = exported
is_exported _ = false

list-outer : (p : Place) (t : Shape) → suits p t ≡ true → allows t kind.List ≡ true → is_exported p ≡ false
list-outer (place.Item at_top true) t s a = by t.count t.sort s a
  where
    by : (c : Count) (σ : Sort) → suits (place.Item at_top true) (record { count = c; sort = σ }) ≡ true → allows_by c σ kind.List ≡ true → true ≡ false
    by One sort.Decl s a = no a
    by One _ s a = no s
    by Many sort.Decl s a = no s
    by Many _ s a = no s
    by Maybe sort.Decl s a = no s
    by Maybe _ s a = no s
    by MaybeMany sort.Decl s a = no s
    by MaybeMany _ s a = no s
    by Holes sort.Decl s a = no s
    by Holes _ s a = no s
list-outer (place.Item at_top false) t s a = refl
list-outer _ t s a = refl

-- a list of this shape, and its items
to-list : (p : Place) (t : Shape) → allows t kind.List ≡ true → allows (to p t) kind.List ≡ true
to-list (place.Member sk) t a = by t.count a
  where
    by : (c : Count) → allows_by c t.sort kind.List ≡ true → allows_by c sort.Stmt kind.List ≡ true
    by One a = by-sort t.sort a
      where
        by-sort : (σ : Sort) → belongs σ kind.List ≡ true → belongs sort.Stmt kind.List ≡ true
        by-sort sort.Expr a = no a
        by-sort _ a = no a
    by Maybe a = by-sort t.sort a
      where
        by-sort : (σ : Sort) → belongs σ kind.List ≡ true → belongs sort.Stmt kind.List ≡ true
        by-sort sort.Expr a = no a
        by-sort _ a = no a
    by Many a = refl
    by MaybeMany a = refl
    by Holes a = refl
to-list (place.Item at_top exported) t a = a
to-list _ t a = a

to-item : (p : Place) (t : Shape) → to p (item_shape t) ≡ item_shape (to p t)
to-item (place.Member sk) t = refl
to-item (place.Item at_top exported) t = refl
to-item _ t = refl

-- ---- made nodes

pub made : (t : Shape) (span : Span) (k : Kind) (cs : List Node) → allows t k ≡ true → HaveShapes (child_shapes k t (length cs)) cs → HasShape t (node_of span k cs)
made t span k cs a h = (node_has_shape span k cs t).1 (a, h)

absent-shaped : (σ : Sort) → HasShape (maybe σ) absent
absent-shaped σ = made (maybe σ) dummy_span kind.Absent [] refl tt

ident-sorted : (of : Ident) → HasSort sort.Ident (ident_node of)
ident-sorted of = made (one sort.Ident) of.span (kind.Ident of.sym of.ctxt of.optional) [] refl tt

name-sorted : (of : Ident) → HasSort sort.Expr (ident_node of)
name-sorted of = made (one sort.Expr) of.span (kind.Ident of.sym of.ctxt of.optional) [] refl tt

member-key : (span : Span) (sym : List ℕ) → HasSort sort.MemberProp (key_of span sym)
member-key span sym = made (one sort.MemberProp) span (kind.IdentName sym) [] refl tt

property-key : (span : Span) (sym : List ℕ) → HasSort sort.PropName (key_of span sym)
property-key span sym = made (one sort.PropName) span (kind.IdentName sym) [] refl tt

text-sorted : (text : List ℕ) → HasSort sort.Expr (text_literal text)
text-sorted text = made (one sort.Expr) dummy_span (kind.Str text None) [] refl tt

-- E.A, in each place that a member may have
pub member-shaped : (t : Shape) (of : Ident) (sym : List ℕ) → allows t kind.MemberExpr ≡ true → HasShape t (member of sym)
member-shaped t of sym a = made t dummy_span kind.MemberExpr (ident_node of ∷ key_of dummy_span sym ∷ []) a (name-sorted of, (member-key dummy_span sym, tt))

computed-shaped : (t : Shape) (e p : Node) → allows t kind.MemberExpr ≡ true → HasSort sort.Expr e → HasSort sort.Expr p → HasShape t (computed_member_of e p)
computed-shaped t e p a h g =
    let key = made (one sort.MemberProp) dummy_span kind.ComputedPropName (p ∷ []) refl (g, tt) in
    made t dummy_span kind.MemberExpr (e ∷ node_of dummy_span kind.ComputedPropName (p ∷ []) ∷ []) a (h, (key, tt))

assign-sorted : (target e : Node) → HasSort sort.AssignTarget target → HasSort sort.Expr e → HasSort sort.Expr (assign_of Assign target e)
assign-sorted target e h g = made (one sort.Expr) dummy_span (kind.AssignExpr Assign) (target ∷ e ∷ []) refl (h, (g, tt))

-- ---- values

numeral-sorted : (n : JsNumber) → HasSort sort.Expr (numeral (Some n))
numeral-sorted n = made (one sort.Expr) dummy_span (kind.Number (Some n) None) [] refl tt

minus-sorted : (e : Node) → HasSort sort.Expr e → HasSort sort.Expr (minus e)
minus-sorted e h = made (one sort.Expr) dummy_span (kind.UnaryExpr unary.Minus) (e ∷ []) refl (h, tt)

divided-sorted : (e : Node) → HasSort sort.Expr e → HasSort sort.Expr (divided_by_zero e)
divided-sorted e h = made (one sort.Expr) dummy_span (kind.BinExpr binary.Div) (e ∷ numeral (Some zero_number) ∷ []) refl (h, (numeral-sorted zero_number, tt))

undefined-sorted : HasSort sort.Expr undefined
undefined-sorted = made (one sort.Expr) dummy_span (kind.UnaryExpr unary.Void) (numeral (Some zero_number) ∷ []) refl (numeral-sorted zero_number, tt)

whole-sorted : (n : ℤ) → HasSort sort.Expr (whole_expression n)
whole-sorted n = by (int_lt n (pos 0))
  where
    by : (b : Bool) → HasSort sort.Expr (if b then minus (numeral (Some (unary_minus_of (number.Whole n)))) else numeral (Some (number.Whole n)))
    by true = minus-sorted (numeral (Some (unary_minus_of (number.Whole n)))) (numeral-sorted (unary_minus_of (number.Whole n)))
    by false = numeral-sorted (number.Whole n)

number-sorted : (n : JsNumber) → HasSort sort.Expr (number_expression n)
number-sorted (number.Whole n) = whole-sorted n
number-sorted number.NegZero = minus-sorted (numeral (Some zero_number)) (numeral-sorted zero_number)
number-sorted number.NaN = divided-sorted (numeral (Some zero_number)) (numeral-sorted zero_number)
number-sorted number.Infinity = divided-sorted (numeral (Some one_number)) (numeral-sorted one_number)
number-sorted number.NegInfinity = divided-sorted (minus (numeral (Some one_number))) (minus-sorted (numeral (Some one_number)) (numeral-sorted one_number))

value-sorted : (v : TsEnumRecordValue) (e : Node) → expression v ≡ Some e → HasSort sort.Expr e
value-sorted (value.String text) e is = let same : text_literal text ≡ e = cc in subst (HasSort sort.Expr) same (text-sorted text)
value-sorted (value.Number n) e is = let same : number_expression n ≡ e = cc in subst (HasSort sort.Expr) same (number-sorted n)
value-sorted value.Opaque e is = cc
value-sorted value.Void e is = let same : undefined ≡ e = cc in subst (HasSort sort.Expr) same undefined-sorted

-- ---- one node in the place of another

-- what one node may be where another one may
allowed : (t : Shape) (k j : Kind) → is_list k ≡ false → is_absent k ≡ false → allows t k ≡ true → (belongs t.sort k ≡ true → belongs t.sort j ≡ true) → allows t j ≡ true
allowed t k j l a h b = by t.count h
  where
    neither : (is_absent k || is_list k) ≡ false
    neither = rw (a, l) refl

    either : (c : Bool) → (c || belongs t.sort k) ≡ true → c ≡ false → (is_absent j || belongs t.sort j) ≡ true
    either true h e = no (sym e)
    either false h e = second (is_absent j) (b h)
      where
        second : (c : Bool) → belongs t.sort j ≡ true → (c || belongs t.sort j) ≡ true
        second true g = refl
        second false g = g

    by : (c : Count) → allows_by c t.sort k ≡ true → allows_by c t.sort j ≡ true
    by One h = b h
    by Maybe h = either (is_absent k) h a
    by Many h = no (sym l ∙ h)
    by MaybeMany h = no (sym neither ∙ h)
    by Holes h = no (sym l ∙ h)

same-children : (k : Kind) → is_list k ≡ false → (s t : Shape) (n : ℕ) → child_shapes k s n ≡ child_shapes k t n
same-children kind.List l s t n = no (sym l)
same-children kind.SeqExpr l s t zero = refl
same-children kind.SeqExpr l s t (suc n) = refl
same-children _ l s t n = refl

expression-no-list : (k : Kind) → is_expr k ≡ true → is_list k ≡ false
expression-no-list kind.List e = no e
expression-no-list _ e = refl

-- an expression has each shape that allows its kind
reshaped : (t : Shape) (e : Node) → allows t (kind_of e) ≡ true → HasSort sort.Expr e → HasShape t e
reshaped t e a h =
    let parts = shape_parts e (one sort.Expr) h in
    let l = expression-no-list (kind_of e) parts.0 in
    subst (HasShape t) (roll-out-Node e)
    (made t (out-Node e).span (kind_of e) (children_of e) a (subst (λ z. HaveShapes z (children_of e)) (same-children (kind_of e) l (one sort.Expr) t (length (children_of e))) parts.1))

read-sorts : (σ : Sort) (k : Kind) → is_read_sort σ ≡ true → is_expr k ≡ true → belongs σ k ≡ true
read-sorts sort.Expr k s e = e
read-sorts sort.Callee kind.Super s e = refl
read-sorts sort.Callee kind.Import s e = refl
read-sorts sort.Callee k s e = e
read-sorts sort.ExprOrSpread kind.SpreadElement s e = refl
read-sorts sort.ExprOrSpread k s e = e
read-sorts sort.BlockStmtOrExpr kind.BlockStmt s e = refl
read-sorts sort.BlockStmtOrExpr k s e = e
read-sorts sort.VarDeclOrExpr (kind.VarDecl k d) s e = refl
read-sorts sort.VarDeclOrExpr k s e = e
read-sorts _ k s e = no s

pub read-there : (k : Kind) → is_read k ≡ true → (is_list k ≡ false) × (is_absent k ≡ false)
read-there (kind.Ident sym ctxt optional) h = (refl, refl)
read-there kind.MemberExpr h = (refl, refl)
read-there _ h = no h

pub target-there : (k : Kind) → is_target k ≡ true → (is_list k ≡ false) × (is_absent k ≡ false)
target-there (kind.Ident sym ctxt optional) h = (refl, refl)
target-there kind.BindingIdent h = (refl, refl)
target-there _ h = no h

pub name-there : (k : Kind) → is_name k ≡ true → (is_list k ≡ false) × (is_absent k ≡ false)
name-there (kind.Ident sym ctxt optional) h = (refl, refl)
name-there _ h = no h

target-sorts : (σ : Sort) (k : Kind) → is_target_sort σ ≡ true → is_target k ≡ true → belongs σ k ≡ true → belongs σ kind.MemberExpr ≡ true
target-sorts sort.Expr k s g b = refl
target-sorts sort.AssignTarget k s g b = refl
target-sorts sort.ForHead k s g b = refl
target-sorts sort.Pat k s g b = refl
target-sorts sort.ObjectPatProp (kind.Ident sym ctxt optional) s g b = no b
target-sorts sort.ObjectPatProp kind.BindingIdent s g b = no b
target-sorts sort.ObjectPatProp _ s g b = no g
target-sorts _ k s g b = no s

property-sorts : (t : Shape) → suits place.Property t ≡ true → belongs t.sort kind.KeyValueProp ≡ true
property-sorts t s = by t.sort s
  where
    by : (σ : Sort) → suits place.Property (one σ) ≡ true → belongs σ kind.KeyValueProp ≡ true
    by sort.PropOrSpread s = refl
    by _ s = no s

pattern-sorts : (σ : Sort) → belongs σ kind.AssignPatProp ≡ true → belongs σ kind.KeyValuePatProp ≡ true
pattern-sorts sort.ObjectPatProp b = refl
pattern-sorts _ b = no b

-- a value that may be missing
with-default-shaped : (span : Span) (of : Ident) (sym : List ℕ) (y : Node) → HasShape (maybe sort.Expr) y → HasSort sort.Pat (with_default span (member of sym) y)
with-default-shaped span of text y h = by (is_absent (kind_of y)) refl
  where
    by : (b : Bool) → is_absent (kind_of y) ≡ b → HasSort sort.Pat (cond b (member of text) (node_of span kind.AssignPat (member of text ∷ y ∷ [])))
    by true e = member-shaped (one sort.Pat) of text refl
    by false e =
        let there = ap (λ b. b || belongs sort.Expr (kind_of y)) (sym e) ∙ (shape_parts y (maybe sort.Expr) h).0 in
        let expression-shape = subst (HasSort sort.Expr) (roll-out-Node y)
        (made (one sort.Expr) (out-Node y).span (kind_of y) (children_of y) there
        (subst (λ z. HaveShapes z (children_of y)) (same-children (kind_of y) (expression-no-list (kind_of y) there) (maybe sort.Expr) (one sort.Expr) (length (children_of y))) (shape_parts y (maybe sort.Expr) h).1)) in
        made (one sort.Pat) span kind.AssignPat (member of text ∷ y ∷ []) refl (member-shaped (one sort.Pat) of text refl, (expression-shape, tt))

-- ---- what is written for an enum

abbrev pub Each : Shape → List Node → Type 0
Each t ns = HaveShapes (replicate (length ns) t) ns

each-append : (t : Shape) (ns ms : List Node) → Each t ns → Each t ms → Each t (ns ++ ms)
each-append t [] ms h g = g
each-append t (n ∷ ns) ms h g = (h.0, each-append t ns ms h.1 g)

-- a node has each shape that allows its kind
other-shape : (s t : Shape) (n : Node) → is_list (kind_of n) ≡ false → allows t (kind_of n) ≡ true → HasShape s n → HasShape t n
other-shape s t n l a h =
    subst (HasShape t) (roll-out-Node n)
    (made t (out-Node n).span (kind_of n) (children_of n) a (subst (λ z. HaveShapes z (children_of n)) (same-children (kind_of n) l s t (length (children_of n))) (shape_parts n s h).1))

stands-sorted : (init : Node) → HasShape (maybe sort.Expr) init → HasSort sort.Expr (as_it_stands init)
stands-sorted init h = by (is_absent (kind_of init)) refl
  where
    by : (b : Bool) → is_absent (kind_of init) ≡ b → HasSort sort.Expr (cond b undefined init)
    by true e = undefined-sorted
    by false e =
        let there = ap (λ b. b || belongs sort.Expr (kind_of init)) (sym e) ∙ (shape_parts init (maybe sort.Expr) h).0 in
        other-shape (maybe sort.Expr) (one sort.Expr) init (expression-no-list (kind_of init) there) there h

value-of-sorted : (v : Option TsEnumRecordValue) (init : Node) → HasShape (maybe sort.Expr) init → HasSort sort.Expr (value_of v init)
value-of-sorted None init h = stands-sorted init h
value-of-sorted (Some v) init h = by (expression v) refl
  where
    by : (o : Option Node) → expression v ≡ o → HasSort sort.Expr (value_or o init)
    by None is = stands-sorted init h
    by (Some e) is = value-sorted v e is

at_text-shaped : (t : Shape) (of : Ident) (sym : List ℕ) → allows t kind.MemberExpr ≡ true → HasShape t (at_text of sym)
at_text-shaped t of sym a = computed-shaped t (ident_node of) (text_literal sym) a (name-sorted of) (text-sorted sym)

set_text-sorted : (of : Ident) (sym : List ℕ) (v : Node) → HasSort sort.Expr v → HasSort sort.Expr (set_text of sym v)
set_text-sorted of sym v h = assign-sorted (at_text of sym) v (at_text-shaped (one sort.AssignTarget) of sym refl) h

set_other-sorted : (of : Ident) (sym : List ℕ) (v : Node) → HasSort sort.Expr v → HasSort sort.Expr (set_other of sym v)
set_other-sorted of sym v h =
    assign-sorted (computed_member_of (ident_node of) (set_text of sym v)) (text_literal sym)
    (computed-shaped (one sort.AssignTarget) (ident_node of) (set_text of sym v) refl (name-sorted of) (set_text-sorted of sym v h)) (text-sorted sym)

set_member-sorted : (of : Ident) (sym : List ℕ) (v : Option TsEnumRecordValue) (init : Node) → HasShape (maybe sort.Expr) init → HasSort sort.Expr (set_member of sym v init)
set_member-sorted of sym v init h = by (is_known_text v)
  where
    by : (b : Bool) → HasSort sort.Expr (cond b (set_text of sym (value_of v init)) (set_other of sym (value_of v init)))
    by true = set_text-sorted of sym (value_of v init) (value-of-sorted v init h)
    by false = set_other-sorted of sym (value_of v init) (value-of-sorted v init h)

statement : (t : Shape) (span : Span) (e : Node) → allows t kind.ExprStmt ≡ true → HasSort sort.Expr e → HasShape t (node_of span kind.ExprStmt (e ∷ []))
statement t span e a h = made t span kind.ExprStmt (e ∷ []) a (h, tt)

declared-sorted : (of : Ident) → HasSort sort.Pat (declared of)
declared-sorted of = made (one sort.Pat) of.span kind.BindingIdent (ident_node of ∷ absent ∷ []) refl (ident-sorted of, (absent-shaped sort.TsTypeAnn, tt))

list-shaped : (σ : Sort) (ns : List Node) → Each (one σ) ns → HasShape (many σ) (list_node ns)
list-shaped σ ns h = made (many σ) dummy_span kind.List ns refl h

variable-shaped : (t : Shape) (part : EnumPart) → allows t (kind.VarDecl (word_of part.at_top) false) ≡ true → HasShape t (variable part)
variable-shaped t part a =
    let name = part.name in
    let cs = declared name ∷ absent ∷ [] in
    let d = made (one sort.VarDeclarator) name.span (kind.VarDeclarator false) cs refl (declared-sorted name, (absent-shaped sort.Expr, tt)) in
    made t name.span (kind.VarDecl (word_of part.at_top) false) (list_node (node_of name.span (kind.VarDeclarator false) cs ∷ []) ∷ []) a (list-shaped sort.VarDeclarator (node_of name.span (kind.VarDeclarator false) cs ∷ []) (d, tt), tt)

-- as a statement, or behind `export` as an item of a module
declaration-shaped : (t : Shape) (part : EnumPart) (around : Around) → allows t (kind.VarDecl (word_of part.at_top) false) ≡ true → (is_exported_here part around ≡ true → allows t kind.ExportDecl ≡ true)
    → HasShape t (declaration part around)
declaration-shaped t part around a e = by (is_exported_here part around) refl
  where
    by : (b : Bool) → is_exported_here part around ≡ b → HasShape t (cond b (node_of part.name.span kind.ExportDecl (variable part ∷ [])) (variable part))
    by true is = made t part.name.span kind.ExportDecl (variable part ∷ []) (e is) (variable-shaped (one sort.Decl) part refl, tt)
    by false is = variable-shaped t part a

declarations-shaped : (t : Shape) (part : EnumPart) (around : Around) → allows t (kind.VarDecl (word_of part.at_top) false) ≡ true → (is_exported_here part around ≡ true → allows t kind.ExportDecl ≡ true)
    → Each t (declarations part around)
declarations-shaped t part around a e = by (has_id part.name around.before)
  where
    by : (b : Bool) → Each t (cond b [] (declaration part around ∷ []))
    by true = tt
    by false = (declaration-shaped t part around a e, tt)

or_new-sorted : (t : Node) → HasSort sort.Expr t → HasSort sort.AssignTarget t → HasSort sort.Expr (or_new t)
or_new-sorted t h g =
    let object = made (one sort.Expr) dummy_span kind.ObjectLit (list_node [] ∷ []) refl (list-shaped sort.PropOrSpread [] tt, tt) in
    made (one sort.Expr) dummy_span (kind.BinExpr binary.LogicalOr) (t ∷ assign_of Assign t (node_of dummy_span kind.ObjectLit (list_node [] ∷ [])) ∷ []) refl
    (h, (assign-sorted t (node_of dummy_span kind.ObjectLit (list_node [] ∷ [])) g object, tt))

name-target : (of : Ident) → HasSort sort.AssignTarget (ident_node of)
name-target of = made (one sort.AssignTarget) of.span (kind.Ident of.sym of.ctxt of.optional) [] refl tt

object-sorted : (exported : Bool) (o : Option Ident) (of : Ident) → HasSort sort.Expr (object_by exported o of)
object-sorted true (Some outer) of =
    assign-sorted (ident_node of) (or_new (member outer of.sym)) (name-target of)
    (or_new-sorted (member outer of.sym) (member-shaped (one sort.Expr) outer of.sym refl) (member-shaped (one sort.AssignTarget) outer of.sym refl))
object-sorted true None of = or_new-sorted (ident_node of) (name-sorted of) (name-target of)
object-sorted false o of = or_new-sorted (ident_node of) (name-sorted of) (name-target of)

parameters-sorted : (of : Ident) → Each (one sort.Param) (parameters of)
parameters-sorted of = by (is_this of)
  where
    by : (b : Bool) → Each (one sort.Param) (cond b [] (node_of of.span kind.Param (declared of ∷ []) ∷ []))
    by true = tt
    by false = (made (one sort.Param) of.span kind.Param (declared of ∷ []) refl (declared-sorted of, tt), tt)

function-sorted : (of : Ident) (list : Node) → HasShape (many sort.Stmt) list → HasSort sort.Callee (function_of of list)
function-sorted of list h =
    let block = made (maybe sort.BlockStmt) dummy_span kind.BlockStmt (list ∷ []) refl (h, tt) in
    let cs = list_node (parameters of) ∷ block_of list ∷ absent ∷ absent ∷ [] in
    let f = node_of dummy_span (kind.Function false false) cs in
    let fs = made (one sort.Function) dummy_span (kind.Function false false) cs refl
    (list-shaped sort.Param (parameters of) (parameters-sorted of), (block, (absent-shaped sort.TsTypeParamDecl, (absent-shaped sort.TsTypeAnn, tt)))) in
    made (one sort.Callee) (out-Node f).span kind.FnExpr (absent ∷ f ∷ []) refl (absent-shaped sort.Ident, (fs, tt))

argument-sorted : (e : Node) → HasSort sort.Expr e → HasSort sort.ExprOrSpread e
argument-sorted e h = reshaped (one sort.ExprOrSpread) e (read-sorts sort.ExprOrSpread (kind_of e) refl (shape_parts e (one sort.Expr) h).0) h

call-shaped : (t : Shape) (span : Span) (part : EnumPart) (around : Around) (list : Node) → allows t kind.ExprStmt ≡ true → HasShape (many sort.Stmt) list → HasShape t (call span part around list)
call-shaped t span part around list a h =
    let f = function_of part.name list in
    let o = object_by part.exported around.name part.name in
    let os = argument-sorted o (object-sorted part.exported around.name part.name) in
    statement t span (call_of dummy_span f (o ∷ [])) a
    (made (one sort.Expr) dummy_span kind.CallExpr (f ∷ list_node (o ∷ []) ∷ absent ∷ []) refl
    (function-sorted part.name list h, (list-shaped sort.ExprOrSpread (o ∷ []) (os, tt), (absent-shaped sort.TsTypeParamInstantiation, tt))))

module _ (enums : KnownEnums) where
  calls-shaped : (t : Shape) (span : Span) (part : EnumPart) (around : Around) (list : Node) → allows t kind.ExprStmt ≡ true → HasShape (many sort.Stmt) list → Each t (calls enums span part around list)
  calls-shaped t span part around list a h = by (skips enums part && is_nil (children_of list))
    where
      by : (b : Bool) → Each t (cond b [] (call span part around list ∷ []))
      by true = tt
      by false = (call-shaped t span part around list a h, tt)

  part-shaped : (t : Shape) (span : Span) (part : EnumPart) (around : Around) (list : Node) → allows t (kind.VarDecl (word_of part.at_top) false) ≡ true → allows t kind.ExprStmt ≡ true
      → (is_exported_here part around ≡ true → allows t kind.ExportDecl ≡ true) → HasShape (many sort.Stmt) list → Each t (part_statements enums span part around list)
  part-shaped t span part around list v x e h =
      each-append t (declarations part around) (calls enums span part around list) (declarations-shaped t part around v e) (calls-shaped t span part around list x h)

  member_in-shaped : (t : Shape) (sk : Bool) (o : Option Ident) (span : Span) (sym : List ℕ) (e : Node) → allows t kind.ExprStmt ≡ true → HasShape (maybe sort.Expr) e → Each t (member_in enums sk o span sym e)
  member_in-shaped t sk None span sym e a h = tt
  member_in-shaped t sk (Some of) span sym e a h = by (sk && is_known (known_value enums of sym))
    where
      by : (b : Bool) → Each t (cond b [] (node_of span kind.ExprStmt (set_member of sym (known_value enums of sym) e ∷ []) ∷ []))
      by true = tt
      by false = (statement t span (set_member of sym (known_value enums of sym) e) a (set_member-sorted of sym (known_value enums of sym) e h), tt)

-- ---- the tree

-- what a part of an enum becomes
abbrev pub part-to : Place → Shape → Shape
part-to (place.Item at_top true) t = one sort.ModuleItem
part-to p t = to p t

part-same : (p : Place) (t : Shape) → is_exported p ≡ false → part-to p t ≡ to p t
part-same (place.Item at_top true) t e = no (sym e)
part-same (place.Item at_top false) t e = refl
part-same _ t e = refl

enum-there : (k : Kind) → is_enum_kind k ≡ true → (is_list k ≡ false) × (is_absent k ≡ false)
enum-there (kind.TsEnumDecl declare is_const) h = (refl, refl)
enum-there _ h = no h

-- a sort of statements that an enum is of
statement-sorts : (at_top : Bool) (t : Shape) (k j : Kind) → suits (place.Item at_top false) t ≡ true → is_enum_kind k ≡ true → (belongs sort.Stmt j ≡ true) → allows t k ≡ true → allows t j ≡ true
statement-sorts at_top t k j s e b a = let there = enum-there k e in allowed t k j there.0 there.1 a (by t.sort s)
  where
    by : (σ : Sort) → suits (place.Item at_top false) (record { count = t.count; sort = σ }) ≡ true → belongs σ k ≡ true → belongs σ j ≡ true
    by sort.Stmt s h = b
    by sort.ModuleItem s h = ap (λ z. z || is_module_decl j) b
    by _ s h = no s

item-shape : (at_top : Bool) (t : Shape) (j : Kind) → suits (place.Item at_top false) t ≡ true → allows t kind.ExportDecl ≡ true → belongs sort.ModuleItem j ≡ true → allows t j ≡ true
item-shape at_top t j s a b = allowed t kind.ExportDecl j refl refl a (by t.sort s)
  where
    by : (σ : Sort) → suits (place.Item at_top false) (record { count = t.count; sort = σ }) ≡ true → belongs σ kind.ExportDecl ≡ true → belongs σ j ≡ true
    by sort.ModuleItem s h = b
    by sort.Stmt s h = no h
    by _ s h = no s

each-item : (at_top : Bool) (t : Shape) → suits (place.Item at_top false) t ≡ true → allows t kind.ExportDecl ≡ true → (ns : List Node) → Each (one sort.ModuleItem) ns → Each t ns
each-item at_top t s a [] h = tt
each-item at_top t s a (n ∷ ns) h =
    let parts = shape_parts n (one sort.ModuleItem) h.0 in
    (other-shape (one sort.ModuleItem) t n (item-no-list (kind_of n) parts.0) (item-shape at_top t (kind_of n) s a parts.0) h.0, each-item at_top t s a ns h.1)
  where
    item-no-list : (k : Kind) → belongs sort.ModuleItem k ≡ true → is_list k ≡ false
    item-no-list kind.List b = no b
    item-no-list _ b = refl

-- a member of an enum, for which a statement stands
member-shape : (sk : Bool) (t : Shape) (k : Kind) → k ≡ kind.TsEnumMember → suits (place.Member sk) t ≡ true → allows t k ≡ true → allows (to (place.Member sk) t) kind.ExprStmt ≡ true
member-shape sk t k e s a = by t.count t.sort s (ap (allows t) (sym e) ∙ a)
  where
    by : (c : Count) (σ : Sort) → suits (place.Member sk) (record { count = c; sort = σ }) ≡ true → allows_by c σ kind.TsEnumMember ≡ true → allows (shape_of c sort.Stmt) kind.ExprStmt ≡ true
    by One σ s a = refl
    by Many σ s a = no a
    by Maybe σ s a = refl
    by MaybeMany σ s a = no a
    by Holes σ s a = no a

module _ (enums : KnownEnums) (N : Ident → Type 0) (K : List ℕ → Type 0) where
  said-sorted : {e : Node} → Said enums N K e → HasSort sort.Expr e
  said-sorted {e} (relation.value v is) = value-sorted v e is
  said-sorted (relation.named of text n k) = member-shaped (one sort.Expr) of text refl

  mutual
    pub stands-shaped : {p : Place} {t : Shape} {a b : Node} → Stands enums N K p t a b → suits p t ≡ true → HasShape (to p t) b
    stands-shaped {p} {t} {a} {b} (relation.left has calm) s = subst (λ z. HasShape z b) (sym (to-same p t calm)) has
    stands-shaped {p} {t} {a} {b} (relation.kept has calm l e at ones) s =
        let parts = shape_parts a t has in
        let cs = children_of b in
        subst (λ z. HasShape z b) (sym (to-same p t calm))
        (subst (HasShape t) (roll-out-Node b)
        (made t (out-Node b).span (kind_of b) cs (ap (allows t) e ∙ parts.0)
        (subst (λ z. HaveShapes (child_shapes z t (length cs)) cs) (sym e)
        (subst (λ (z : ℕ). HaveShapes (child_shapes (kind_of a) t z) cs) (sym (ones-length ones))
        (ones-shaped ones parts.1 (λ i u get. child-suits enums.writes p t (kind_of a) (length (children_of a)) i u l s parts.0 get) (λ i. child-calm enums.writes p t (kind_of a) i calm))))))
    stands-shaped {p} {t} {a} {b} (relation.listed has e f at items) s =
        let parts = shape_parts a t has in
        let have = subst (λ z. HaveShapes (child_shapes z t (length (children_of a))) (children_of a)) e parts.1 in
        subst (HasShape (to p t)) (roll-out-Node b)
        (subst (λ k. HasShape (to p t) (node_of (out-Node b).span k (children_of b))) (sym f)
        (made (to p t) (out-Node b).span kind.List (children_of b) (to-list p t (ap (allows t) (sym e) ∙ parts.0)) (subst (λ z. Each z (children_of b)) (to-item p t) (items-shaped items have (items-suit p t s) (list-outer p t s (ap (allows t) (sym e) ∙ parts.0))))))
    stands-shaped {t = t} {a = a} (relation.read {b = b} has suit is said) s =
        let there = read-there (kind_of a) is in
        let e = said-sorted said in
        reshaped t b (allowed t (kind_of a) (kind_of b) there.0 there.1 (shape_parts a t has).0 (λ z. read-sorts t.sort (kind_of b) suit (shape_parts b (one sort.Expr) e).0)) e
    stands-shaped {t = t} {a = a} (relation.target of text has suit is n k) s =
        let there = target-there (kind_of a) is in
        member-shaped t of text (allowed t (kind_of a) kind.MemberExpr there.0 there.1 (shape_parts a t has).0 (target-sorts t.sort (kind_of a) suit is))
    stands-shaped {t = t} {a = a} (relation.short {e = e} span text has suit is k said) s =
        let there = name-there (kind_of a) is in
        made t span kind.KeyValueProp (key_of span text ∷ e ∷ []) (allowed t (kind_of a) kind.KeyValueProp there.0 there.1 (shape_parts a t has).0 (λ z. property-sorts t suit)) (property-key span text, (said-sorted said, tt))
    stands-shaped {t = t} {a = a} (relation.patterned {y = y} span at of text has suit is get value n k) s =
        made t span kind.KeyValuePatProp (key_of at text ∷ with_default span (member of text) y ∷ [])
        (allowed t kind.AssignPatProp kind.KeyValuePatProp refl refl (ap (allows t) (sym is) ∙ (shape_parts a t has).0) (pattern-sorts t.sort))
        (property-key at text, (with-default-shaped span of text y (stands-shaped value refl), tt))

    ones-length : {f : ℕ → Place} {ts : List Shape} {cs ds : List Node} → Ones enums N K f ts cs ds → length ds ≡ length cs
    ones-length relation.none = refl
    ones-length (relation.more o os) = ap suc (ones-length os)

    ones-shaped : {f : ℕ → Place} {ts : List Shape} {cs ds : List Node} → Ones enums N K f ts cs ds → HaveShapes ts cs → ((i : ℕ) (u : Shape) → slice_get ts i ≡ Some u → suits (f i) u ≡ true)
        → ((i : ℕ) → is_members (f i) ≡ false) → HaveShapes ts ds
    ones-shaped relation.none have s calm = have
    ones-shaped {f} (relation.more {t = t} {d = d} o os) have s calm =
        (subst (λ z. HasShape z d) (to-same (f 0) t (calm 0)) (stands-shaped o (s 0 t refl)), ones-shaped os have.1 (λ i u get. s (suc i) u get) (λ i. calm (suc i)))

    items-shaped : {p : Place} {t : Shape} {cs ds : List Node} → Items enums N K p t cs ds → Each t cs → suits p t ≡ true → is_exported p ≡ false → Each (to p t) ds
    items-shaped relation.empty have s e = tt
    items-shaped (relation.item o os) have s e = (stands-shaped o s, items-shaped os have.1 s e)
    items-shaped {p} {t} (relation.part {l = l} {ds = ds} q os is) have s e =
        subst (Each (to p t)) (sym is) (each-append (to p t) l ds (subst (λ z. Each z l) (part-same p t e) (part-shaped-so q s)) (items-shaped os have.1 s e))

    -- several that stand in a list
    part-shaped-so : {p : Place} {t : Shape} {c : Node} {l : List Node} → Part enums N K p t c l → suits p t ≡ true → Each (part-to p t) l
    part-shaped-so (relation.enum {at_top = at_top} {exported = false} {t = t} {c = c} {m = m} span part around has is here n g at members) s =
        let a = (shape_parts c t has).0 in
        part-shaped enums t span part around m (statement-sorts at_top t (kind_of c) (kind.VarDecl (word_of part.at_top) false) s is refl a) (statement-sorts at_top t (kind_of c) kind.ExprStmt s is refl a)
        (λ e. no (sym (ap (λ b. b && not (is_some around.name)) here) ∙ e)) (stands-shaped members refl)
    part-shaped-so (relation.enum {exported = true} {m = m} span part around has is here n g at members) s =
        part-shaped enums (one sort.ModuleItem) span part around m refl refl (λ e. refl) (stands-shaped members refl)
    part-shaped-so (relation.export {at_top = at_top} {t = t} {c = c} {l = l} has e get q) s =
        each-item at_top t s (ap (allows t) (sym e) ∙ (shape_parts c t has).0) l (part-shaped-so q refl)
    part-shaped-so (relation.member {skips = sk} {t = t} {c = c} {e = e} o span text has is get related g) s =
        member_in-shaped enums (to (place.Member sk) t) sk o span text e (member-shape sk t (kind_of c) is s (shape_parts c t has).0) (stands-shaped related refl)

pub module-sorted : (enums : KnownEnums) (N : Ident → Type 0) (K : List ℕ → Type 0) {a b : Node} → Stands enums N K place.Other (one sort.Module) a b → HasSort sort.Module b
module-sorted enums N K o = stands-shaped enums N K o refl
