-- What stands for a node has no types, and is the same without them.
use Rattle.std.proofs.Common.{◌≡◌, ◌∙◌, ℕ, pos, int_lt, Bool, true, false, not, cond, refl, sym, ap, List, [], ◌∷◌, map, Option, Some, None, slice_get}
use Rattle.std.specs.List.{list_all}
use Rattle.std.specs.Option.{option_and_then, option_map}
use Rattle.ecma_kind.specs.Sorts.{belongs}
use Rattle.ecma_kind.specs.declared.ident.Ident.{Ident}
use Rattle.ecma_kind.specs.declared.kind.Kind.{Kind}
use Rattle.ecma_kind.specs.declared.kind.Kind.TheVariants as kind
use Rattle.ecma_kind.specs.declared.operators.BinaryOp.TheVariants as binary
use Rattle.ecma_kind.specs.declared.operators.UnaryOp.TheVariants as unary
use Rattle.ecma_kind.specs.declared.shapes.Shape.{Shape}
use Rattle.ecma_kind.specs.declared.shapes.Sort.TheVariants as sort
use Rattle.ecma_kind.specs.declared.span.Span.{Span}
use Rattle.ecma_number.specs.declared.js_number.JsNumber.{JsNumber}
use Rattle.ecma_number.specs.declared.js_number.JsNumber.TheVariants as number
use Rattle.ecma_tree.specs.Laws.{HaveShapes}
use Rattle.ecma_tree.specs.Nodes.{dummy_span, node_of}
use Rattle.ecma_tree.specs.Sorted.{child_shapes, one}
use Rattle.ecma_tree.specs.declared.node.Node.{Node, Node-F, out-Node}
use Rattle.ecma_tree.specs.declared.node.Node.TheViews.{out-roll-Node, roll-out-Node}
use Rattle.ecma_strip.specs.Stripping.{plain, plain_children, plain_kind, stripped}
use Rattle.ecma_strip_rewriting.proofs.PlainKinds.{both, no, shape-out, stripped-other}
use Rattle.ecma_strip_rewriting.proofs.Stays.{kind-roll}
use Rattle.ecma_utils.specs.Expressions.{key_of}
use Rattle.ecma_enums.specs.Values.{expression, number_expression}
use Rattle.ecma_enums.specs.declared.value.TsEnumRecordValue.{TsEnumRecordValue}
use Rattle.ecma_enums.specs.declared.value.TsEnumRecordValue.TheVariants as value
use Rattle.ecma_enums.specs.KnownReads.{known_read}
use Rattle.ecma_lower_enums.specs.declared.answer.Answer.{Answer}
use Rattle.ecma_lower_enums.specs.declared.answer.Answer.TheVariants.{Instead, Pattern}
use Rattle.ecma_lower_enums.specs.declared.known.EnumName.{EnumName}
use Rattle.ecma_lower_enums.specs.declared.known.EnumName.TheVariants as name
use Rattle.ecma_lower_enums.specs.declared.known.KnownEnums.{KnownEnums}
use Rattle.ecma_lower_enums.specs.declared.place.Place.{Place}
use Rattle.ecma_lower_enums.specs.declared.place.Place.TheVariants as place
use Rattle.ecma_lower_enums.specs.Forms.{member}
use Rattle.ecma_lower_enums.specs.Known.{alias_by, enum_of, is_id, or_else, unmarked}
use Rattle.ecma_lower_enums.specs.Writing.{answer_by, bound_answer, bound_name, member_answer, name_answer, or_itself, pair, pattern_answer, read, short_answer, short_name, target_of}
use Rattle.ecma_lower_enums_strip.specs.Laws.{NamesAreUnmarked, is_unmarked}
use Rattle.ecma_lower_enums_strip.proofs.Quiet.{acts}
use Rattle.ecma_lower_enums_strip.proofs.Made.{Bare, BareSome, IsPlain, PlainName, bare-key, bare-known, bare-member, bare-or, bare-pair}
use Rattle.ecma_lower_enums_strip.proofs.Naming.{first-shape, idents, unmarked-kept}
use Rattle.ecma_lower_enums_strip.proofs.Reading.{read-kept}

-- ---- names that are known

not-marked : (b : Bool) → not b ≡ true → b ≡ false
not-marked true h = no h
not-marked false h = refl

or-plain : (a b : Option Ident) → PlainName a → PlainName b → PlainName (or_else a b)
or-plain (Some of) b h g = h
or-plain None b h g = g

chosen-plain : (b : Bool) (of : Ident) → IsPlain of → PlainName (cond b (Some of) None)
chosen-plain true of h = h
chosen-plain false of h = tt

enum-plain : (text : List ℕ) (ctxt : ℕ) (n : EnumName) → is_unmarked n ≡ true → PlainName (enum_of text ctxt n)
enum-plain text ctxt (name.Member id of) h = chosen-plain (is_id id text ctxt) of (not-marked of.optional h)
enum-plain text ctxt (name.Exported id) h = tt

pub alias-plain : (text : List ℕ) (ctxt : ℕ) (ns : List EnumName) → list_all is_unmarked ns ≡ true → PlainName (alias_by text ctxt ns)
alias-plain text ctxt [] h = tt
alias-plain text ctxt (n ∷ ns) h =
    let parts = both (is_unmarked n) (list_all is_unmarked ns) h in
    or-plain (enum_of text ctxt n) (alias_by text ctxt ns) (enum-plain text ctxt n parts.0) (alias-plain text ctxt ns parts.1)

-- ---- what is written for a node alone

-- kinds of members, of values, and of properties
abbrev pub is_free : Kind → Bool
is_free kind.MemberExpr = true
is_free (kind.Str value raw) = true
is_free (kind.Number value raw) = true
is_free (kind.UnaryExpr op) = true
is_free (kind.BinExpr op) = true
is_free kind.KeyValueProp = true
is_free _ = false

pub record Free (e : Node) : Type 0 where
  pub bare : Bare e
  pub free : is_free (out-Node e).kind ≡ true

free-kind : (span : Span) (k : Kind) (cs : List Node) → is_free k ≡ true → is_free (out-Node (node_of span k cs)).kind ≡ true
free-kind span k cs h = ap is_free (kind-roll span k cs) ∙ h

free-either : (b : Bool) (x y : Node) → is_free (out-Node x).kind ≡ true → is_free (out-Node y).kind ≡ true → is_free (out-Node (cond b x y)).kind ≡ true
free-either true x y h g = h
free-either false x y h g = g

free-number : (n : JsNumber) → is_free (out-Node (number_expression n)).kind ≡ true
free-number (number.Whole n) = free-either (int_lt n (pos 0)) _ _ (free-kind dummy_span (kind.UnaryExpr unary.Minus) _ refl) (free-kind dummy_span (kind.Number _ None) [] refl)
free-number number.NegZero = free-kind dummy_span (kind.UnaryExpr unary.Minus) _ refl
free-number number.NaN = free-kind dummy_span (kind.BinExpr binary.Div) _ refl
free-number number.Infinity = free-kind dummy_span (kind.BinExpr binary.Div) _ refl
free-number number.NegInfinity = free-kind dummy_span (kind.BinExpr binary.Div) _ refl

abbrev FreeSome : Option Node → Type 0
FreeSome (Some e) = is_free (out-Node e).kind ≡ true
FreeSome None = Unit

free-expression : (v : TsEnumRecordValue) → FreeSome (expression v)
free-expression (value.String text) = free-kind dummy_span (kind.Str text None) [] refl
free-expression (value.Number n) = free-number n
free-expression value.Opaque = tt
free-expression value.Void = free-kind dummy_span (kind.UnaryExpr unary.Void) _ refl

free-known : (o : Option TsEnumRecordValue) → FreeSome (option_and_then expression o)
free-known (Some v) = free-expression v
free-known None = tt

free-or : (e : Node) (o : Option Node) → is_free (out-Node e).kind ≡ true → FreeSome o → is_free (out-Node (or_itself e o)).kind ≡ true
free-or e (Some v) h g = g
free-or e None h g = h

member-free : (of : Ident) (text : List ℕ) → IsPlain of → Free (member of text)
member-free of text h = record { bare = bare-member of text h; free = free-kind dummy_span kind.MemberExpr _ refl }

read-free : (enums : KnownEnums) (of : Ident) (text : List ℕ) → IsPlain of → Free (read enums (member of text))
read-free enums of text h =
    let e = member of text in
    let v = known_read enums.may_change enums.members e in
    record {
      bare = bare-or e (option_and_then expression v) (bare-member of text h) (bare-known v);
      free = free-or e (option_and_then expression v) (member-free of text h).free (free-known v);
    }

pair-free : (span : Span) (text : List ℕ) (e : Node) → Bare e → Free (pair span text e)
pair-free span text e h = record { bare = bare-pair span text e h; free = free-kind span kind.KeyValueProp _ refl }

-- ---- what stands for a node

-- a property of a pattern stands for a shorthand alone
abbrev pub FreeAnswer : Kind → Option Answer → Type 0
FreeAnswer k None = Unit
FreeAnswer k (Some (Instead e)) = Free e
FreeAnswer k (Some (Pattern key e)) = (k ≡ kind.AssignPatProp) × Bare key × Free e

module _ (enums : KnownEnums) (unmarked-names : NamesAreUnmarked enums) where
  name-free : (k : Kind) (p : Place) (span : Span) (text : List ℕ) (of : Option Ident) → PlainName of → FreeAnswer k (name_answer enums p span text of)
  name-free k place.Read span text (Some of) h = read-free enums of text h
  name-free k place.Target span text (Some of) h = member-free of text h
  name-free k place.Property span text (Some of) h = pair-free span text (read enums (member of text)) (read-free enums of text h).bare
  name-free k _ span text of h = tt

  instead-free : (k : Kind) (text : List ℕ) (of : Option Ident) → PlainName of → FreeAnswer k (option_map (λ of. Instead (member of text)) of)
  instead-free k text (Some of) h = member-free of text h
  instead-free k text None h = tt

  target-free : (k : Kind) (o : Option Ident) → FreeAnswer k (option_and_then (target_of enums) o)
  target-free k (Some n) = instead-free k n.sym (alias_by n.sym n.ctxt enums.names) (alias-plain n.sym n.ctxt enums.names unmarked-names)
  target-free k None = tt

  bound-free : (k : Kind) (p : Place) (cs : List Node) → FreeAnswer k (bound_answer enums p cs)
  bound-free k place.Target cs = target-free k (bound_name cs)
  bound-free k _ cs = tt

  with-key-free : (n : Ident) (of : Option Ident) → PlainName of → FreeAnswer kind.AssignPatProp (option_map (λ of. Pattern (key_of n.span n.sym) (member of n.sym)) of)
  with-key-free n (Some of) h = (refl, bare-key n.span n.sym, member-free of n.sym h)
  with-key-free n None h = tt

  pattern-free : (o : Option Ident) → FreeAnswer kind.AssignPatProp (option_and_then (pattern_answer enums) o)
  pattern-free (Some n) = with-key-free n (alias_by n.sym n.ctxt enums.names) (alias-plain n.sym n.ctxt enums.names unmarked-names)
  pattern-free None = tt

  short-free : (p : Place) (cs : List Node) → FreeAnswer kind.AssignPatProp (short_answer enums p cs)
  short-free place.Target cs = pattern-free (short_name cs)
  short-free _ cs = tt

  known-free : (k : Kind) (v : Option TsEnumRecordValue) → FreeAnswer k (option_map Instead (option_and_then expression v))
  known-free k None = tt
  known-free k (Some v) = by (expression v) (bare-known (Some v)) (free-expression v)
    where
      by : (o : Option Node) → BareSome o → FreeSome o → FreeAnswer k (option_map Instead o)
      by (Some e) b f = record { bare = b; free = f }
      by None b f = tt

  read-answer-free : (k : Kind) (p : Place) (e : Node) → FreeAnswer k (member_answer enums p e)
  read-answer-free k place.Read e = known-free k (known_read enums.may_change enums.members e)
  read-answer-free k _ e = tt

  pub answer-free : (p : Place) (span : Span) (k : Kind) (cs : List Node) → FreeAnswer k (answer_by enums p span k cs)
  unfolding answer_by
  answer-free p span (kind.Ident text ctxt optional) cs = name-free (kind.Ident text ctxt optional) p span text (alias_by text ctxt enums.names) (alias-plain text ctxt enums.names unmarked-names)
  answer-free p span kind.BindingIdent cs = bound-free kind.BindingIdent p cs
  answer-free p span kind.AssignPatProp cs = short-free p cs
  answer-free p span kind.MemberExpr cs = read-answer-free kind.MemberExpr p (node_of span kind.MemberExpr cs)
  answer-free p span _ cs = tt

-- ---- with types and without

module _ (enums : KnownEnums) where
  -- of names only their texts and contexts are asked, and of shorthands their places
  targets-same : (o o' : Option Ident) → option_map unmarked o' ≡ option_map unmarked o → option_and_then (target_of enums) o' ≡ option_and_then (target_of enums) o
  targets-same o o' same = sym (by o') ∙ ap (option_and_then (target_of enums)) same ∙ by o
    where
      by : (o : Option Ident) → option_and_then (target_of enums) (option_map unmarked o) ≡ option_and_then (target_of enums) o
      by (Some n) = refl
      by None = refl

  patterns-same : (o o' : Option Ident) → option_map unmarked o' ≡ option_map unmarked o → option_and_then (pattern_answer enums) o' ≡ option_and_then (pattern_answer enums) o
  patterns-same o o' same = sym (by o') ∙ ap (option_and_then (pattern_answer enums)) same ∙ by o
    where
      by : (o : Option Ident) → option_and_then (pattern_answer enums) (option_map unmarked o) ≡ option_and_then (pattern_answer enums) o
      by (Some n) = refl
      by None = refl

  bound-same : (shapes : List Shape) (cs : List Node) → slice_get shapes 0 ≡ Some (one sort.Ident) → HaveShapes shapes cs → option_map unmarked (bound_name (map stripped cs)) ≡ option_map unmarked (bound_name cs)
  bound-same shapes [] e h = refl
  bound-same shapes (c ∷ cs) e h = unmarked-kept c (idents (out-Node c).kind (shape-out c (one sort.Ident) (first-shape (one sort.Ident) shapes c cs e h)).0)

  -- of a bound name
  key-by : (span : Span) (k : Kind) (cs : List Node) → belongs sort.BindingIdent k ≡ true → HaveShapes (child_shapes k (one sort.BindingIdent) 0) cs
      → option_map unmarked (bound_name (out-Node (stripped (node_of span k cs))).children) ≡ option_map unmarked (bound_name cs)
  unfolding plain plain_kind plain_children
  key-by span kind.BindingIdent cs b h =
      ap (λ z. option_map unmarked (bound_name (out-Node z).children)) (stripped-other span kind.BindingIdent cs refl)
      ∙ ap (λ (z : Node-F Node). option_map unmarked (bound_name z.children)) (out-roll-Node (record { span = span; kind = kind.BindingIdent; children = map stripped cs }))
      ∙ bound-same (child_shapes kind.BindingIdent (one sort.BindingIdent) 0) cs refl h
  key-by span _ cs b h = no b

  binding-shapes : (k : Kind) (cs : List Node) (n : ℕ) → belongs sort.BindingIdent k ≡ true → HaveShapes (child_shapes k (one sort.BindingIdent) n) cs → HaveShapes (child_shapes k (one sort.BindingIdent) 0) cs
  binding-shapes kind.BindingIdent cs n b h = h
  binding-shapes _ cs n b h = no b

  short-same : (shapes : List Shape) (cs : List Node) → slice_get shapes 0 ≡ Some (one sort.BindingIdent) → HaveShapes shapes cs → option_map unmarked (short_name (map stripped cs)) ≡ option_map unmarked (short_name cs)
  short-same shapes [] e h = refl
  short-same shapes (c ∷ cs) e h =
      let parts = shape-out c (one sort.BindingIdent) (first-shape (one sort.BindingIdent) shapes c cs e h) in
      ap (λ z. option_map unmarked (bound_name (out-Node (stripped z)).children)) (sym (roll-out-Node c))
      ∙ key-by (out-Node c).span (out-Node c).kind (out-Node c).children parts.0 (binding-shapes (out-Node c).kind (out-Node c).children _ parts.0 parts.1)

  bound-answer-same : (p : Place) (shapes : List Shape) (cs : List Node) → slice_get shapes 0 ≡ Some (one sort.Ident) → HaveShapes shapes cs → bound_answer enums p (map stripped cs) ≡ bound_answer enums p cs
  bound-answer-same place.Target shapes cs e h = targets-same (bound_name cs) (bound_name (map stripped cs)) (bound-same shapes cs e h)
  bound-answer-same _ shapes cs e h = refl

  short-answer-same : (p : Place) (shapes : List Shape) (cs : List Node) → slice_get shapes 0 ≡ Some (one sort.BindingIdent) → HaveShapes shapes cs → short_answer enums p (map stripped cs) ≡ short_answer enums p cs
  short-answer-same place.Target shapes cs e h = patterns-same (short_name cs) (short_name (map stripped cs)) (short-same shapes cs e h)
  short-answer-same _ shapes cs e h = refl

  read-answer-same : (p : Place) (span : Span) (cs : List Node) → HaveShapes (one sort.Expr ∷ one sort.MemberProp ∷ []) cs
      → member_answer enums p (node_of span kind.MemberExpr (map stripped cs)) ≡ member_answer enums p (node_of span kind.MemberExpr cs)
  read-answer-same place.Read span cs h = ap (option_map Instead) (read-kept enums span cs h)
  read-answer-same _ span cs h = refl

  pub answers-same : (p : Place) (span : Span) (k : Kind) (t : Shape) (cs : List Node) (n : ℕ) → acts k ≡ true → HaveShapes (child_shapes k t n) cs
      → answer_by enums p span (plain_kind k) (map stripped cs) ≡ answer_by enums p span k cs
  unfolding answer_by plain_kind
  answers-same p span (kind.Ident text ctxt optional) t cs n a h = refl
  answers-same p span kind.BindingIdent t cs n a h = bound-answer-same p (child_shapes kind.BindingIdent t n) cs refl h
  answers-same p span kind.AssignPatProp t cs n a h = short-answer-same p (child_shapes kind.AssignPatProp t n) cs refl h
  answers-same p span kind.MemberExpr t cs n a h = read-answer-same p span cs h
  answers-same p span (kind.TsEnumDecl d c) t cs n a h = refl
  answers-same p span kind.TsEnumMember t cs n a h = refl
  answers-same p span kind.ExportDecl t cs n a h = refl
  answers-same p span _ t cs n a h = no a
