-- A walk that tells nothing of what an enum has tells nothing of what is written for it: what a walk owes for that.
use Rattle.std.proofs.Common.{◌≡◌, ◌∙◌, ℕ, suc, Bool, true, false, not, cond, ◌&&◌, ◌==◌, List, [], ◌∷◌, Option, Some, None, refl, sym, ap, subst, slice_get, nat_lt, arith}
use Rattle.std.specs.List.{list_any}
use Rattle.std.specs.Prelude.{ℤ, pos, negsuc, int_lt, if◌then◌else◌}
use Rattle.ecma_kind.specs.declared.ident.Ident.{Ident}
use Rattle.ecma_kind.specs.declared.kind.Kind.{Kind}
use Rattle.ecma_kind.specs.declared.kind.Kind.TheVariants as kind
use Rattle.ecma_kind.specs.declared.operators.AssignOp.TheVariants.{Assign}
use Rattle.ecma_kind.specs.declared.operators.BinaryOp.TheVariants as binary
use Rattle.ecma_kind.specs.declared.operators.UnaryOp.TheVariants as unary
use Rattle.ecma_kind.specs.declared.operators.UnaryOp.{UnaryOp}
use Rattle.ecma_kind.specs.declared.operators.VarDeclKind.{VarDeclKind}
use Rattle.ecma_kind.specs.declared.span.Span.{Span}
use Rattle.ecma_leaves.specs.Words.{is_natural}
use Rattle.ecma_number.specs.Arithmetic.{unary_minus_of}
use Rattle.ecma_number.specs.declared.js_number.JsNumber.{JsNumber}
use Rattle.ecma_number.specs.declared.js_number.JsNumber.TheVariants as number
use Rattle.ecma_tree.specs.Idents.{ident_node}
use Rattle.ecma_tree.specs.Nodes.{absent, dummy_span, list_node, node_of}
use Rattle.ecma_tree.specs.Sorted.{is_absent}
use Rattle.ecma_tree.specs.declared.node.Node.{Node, Node-F, fold-roll-Node, out-Node}
use Rattle.ecma_tree.specs.declared.node.Node.TheViews.{out-roll-Node}
use Rattle.ecma_rules.specs.Children.{children_of as items_of, items_at}
use Rattle.ecma_rules.specs.Members.{behind_first, is_this_parameter}
use Rattle.ecma_rules.specs.Targets.{is_simple_target, simple_step}
use Rattle.ecma_fits.specs.Counts.{is_empty}
use Rattle.ecma_utils.specs.Expressions.{assign_of, call_of, computed_member_of, key_of}
use Rattle.ecma_enums.specs.Values.{expression, minus, number_expression, numeral, one as one_number, text_literal, undefined, whole_expression, zero as zero_number}
use Rattle.ecma_enums.specs.declared.value.TsEnumRecordValue.{TsEnumRecordValue}
use Rattle.ecma_enums.specs.declared.value.TsEnumRecordValue.TheVariants as value
use Rattle.ecma_lower_enums.specs.declared.known.Around.{Around}
use Rattle.ecma_lower_enums.specs.declared.known.KnownEnums.{KnownEnums}
use Rattle.ecma_lower_enums.specs.declared.known.Part.{Part}
use Rattle.ecma_lower_enums.specs.Forms.{as_it_stands, at_text, block_of, call, calls, declaration, declarations, declared, function_of, is_exported_here, is_known, is_known_text, is_nil, is_this, known_value, member, member_by, member_in, object_by, or_new, parameters, part_statements, set_member, set_other, set_text, value_of, value_or, variable, word_of}
use Rattle.ecma_lower_enums.specs.Known.{has_id, skips}
use Rattle.ecma_lower_enums_sources.proofs.Suiting.{no}
use Rattle.ecma_lower_enums_fits.proofs.Walks.{AllPass, PassWhere, Passes, made-passes, where-append}

-- ---- nodes that are made

-- what is made and asks for nothing but to stand where a statement or an expression does
abbrev pub is_frame : Kind → Bool
is_frame kind.Absent = true
is_frame kind.List = true
is_frame kind.MemberExpr = true
is_frame (kind.AssignExpr op) = true
is_frame (kind.BinExpr op) = true
is_frame (kind.UnaryExpr op) = true
is_frame kind.ObjectLit = true
is_frame kind.CallExpr = true
is_frame kind.FnExpr = true
is_frame kind.Param = true
is_frame kind.BlockStmt = true
is_frame kind.ExprStmt = true
is_frame (kind.VarDeclarator definite) = true
is_frame kind.ExportDecl = true
is_frame kind.KeyValueProp = true
is_frame _ = false

-- what is written for a read, beside literals
abbrev pub is_read_frame : Kind → Bool
is_read_frame kind.MemberExpr = true
is_read_frame (kind.BinExpr op) = true
is_read_frame (kind.UnaryExpr op) = true
is_read_frame _ = false

pub member-simple : (span : Span) (cs : List Node) → is_simple_target (node_of span kind.MemberExpr cs) ≡ true
member-simple span cs = fold-roll-Node Bool simple_step (record { span = span; kind = kind.MemberExpr; children = cs })

ident-simple : (of : Ident) → is_simple_target (ident_node of) ≡ true
ident-simple of = fold-roll-Node Bool simple_step (record { span = of.span; kind = kind.Ident of.sym of.ctxt of.optional; children = [] })

items-first : (span : Span) (k : Kind) (ns cs : List Node) → items_at (node_of span k (list_node ns ∷ cs)) 0 ≡ ns
items-first span k ns cs =
    let outer : Node-F Node = record { span = span; kind = k; children = list_node ns ∷ cs } in
    let inner : Node-F Node = record { span = dummy_span; kind = kind.List; children = ns } in
    ap (λ (z : Node-F Node). items_of (slice_get z.children 0)) (out-roll-Node outer) ∙ ap (λ (z : Node-F Node). z.children) (out-roll-Node inner)

-- ---- numbers

-- without its sign a whole number is a natural one
whole-natural : (n : ℤ) → int_lt n (pos 0) ≡ false → is_natural (number.Whole n) ≡ true
whole-natural n h = ap not h

minus-natural : (n : ℤ) → int_lt n (pos 0) ≡ true → is_natural (unary_minus_of (number.Whole n)) ≡ true
minus-natural (pos n) h = let e : nat_lt n 0 ≡ false = grind arith in no (sym e ∙ h)
minus-natural (negsuc n) h =
    let e : (suc n == 0) ≡ false = grind arith in
    let f : nat_lt (suc n) 0 ≡ false = grind arith in
    rw (e, f) refl

-- names of which this holds
abbrev pub IfNamed : (Ident → Type 0) → Option Ident → Type 0
IfNamed N None = Unit
IfNamed N (Some of) = N of

-- what may be around made nodes
pub record Kinds (A : Type 0) : Type 1 where
  -- a statement or an expression
  pub usual : A → Type 0
  -- an expression that is read
  pub read : A → Type 0
  -- what is assigned to
  pub left : A → Type 0
  -- the key of a member
  pub key : A → Type 0
  -- a name that a variable declares, and one that a parameter does, with its identifier
  pub bound : A → Type 0
  pub parameter : A → Type 0
  pub parameter_name : A → Type 0
  -- what stands in the body of the call
  pub body : A → Type 0

module _ (A : Type 0) (test : A → Kind → Node → Bool) (inside : A → Kind → Node → ℕ → A) (kinds : Kinds A) where
  abbrev U : A → Type 0
  U = kinds.usual

  abbrev R : A → Type 0
  R = kinds.read

  abbrev L : A → Type 0
  L = kinds.left

  abbrev Y : A → Type 0
  Y = kinds.key

  abbrev D : A → Type 0
  D = kinds.bound

  abbrev P : A → Type 0
  P = kinds.parameter

  abbrev I : A → Type 0
  I = kinds.parameter_name

  abbrev B : A → Type 0
  B = kinds.body

  abbrev pub Pass : A → Node → Type 0
  Pass = Passes A test inside

  -- a place in the body of the call
  abbrev pub Inner : A → Type 0
  Inner a = U a × B a

  -- where the list of the body stands, in a call that stands here
  abbrev pub in_body : A → Node → Node → Node → Node → Node → A
  in_body a s c e f b = inside (inside (inside (inside (inside a kind.ExprStmt s 0) kind.CallExpr c 0) kind.FnExpr e 1) (kind.Function false false) f 1) kind.BlockStmt b 0

  abbrev pub InBody : A → Node → Type 0
  InBody a list = (s c e f b : Node) → Pass (in_body a s c e f b) list

  -- a place of a statement in which the list of the body may stand
  abbrev pub Holding : Node → A → Type 0
  Holding list a = U a × InBody a list

  pub record Seats : Type 0 where
    pub reads : (a : A) → U a → R a
    pub items : (a : A) (n : Node) (i : ℕ) → U a → U (inside a kind.List n i)
    pub statement : (a : A) (n : Node) → U (inside a kind.ExprStmt n 0)
    pub callee : (a : A) (n : Node) → U (inside a kind.CallExpr n 0)
    pub arguments : (a : A) (n : Node) → U (inside a kind.CallExpr n 1)
    pub type_arguments : (a : A) (n : Node) → U (inside a kind.CallExpr n 2)
    pub function_name : (a : A) (n : Node) → U (inside a kind.FnExpr n 0)
    pub function : (a : A) (n : Node) → U (inside a kind.FnExpr n 1)
    pub parameters : (a : A) (n : Node) → U (inside a (kind.Function false false) n 0)
    pub body : (a : A) (n : Node) → U (inside a (kind.Function false false) n 1)
    pub type_parameters : (a : A) (n : Node) → U (inside a (kind.Function false false) n 2)
    pub result : (a : A) (n : Node) → U (inside a (kind.Function false false) n 3)
    pub parameter : (a : A) (n : Node) → P (inside a kind.Param n 0)
    pub parameter_name : (a : A) (n : Node) → P a → I (inside a kind.BindingIdent n 0)
    pub parameter_type : (a : A) (n : Node) → P a → U (inside a kind.BindingIdent n 1)
    pub bound_name : (a : A) (n : Node) → D a → U (inside a kind.BindingIdent n 0)
    pub bound_type : (a : A) (n : Node) → D a → U (inside a kind.BindingIdent n 1)
    pub left : (a : A) (n : Node) → L (inside a (kind.AssignExpr Assign) n 0)
    pub right : (a : A) (n : Node) → U (inside a (kind.AssignExpr Assign) n 1)
    pub object : (a : A) (n : Node) → U (inside a kind.MemberExpr n 0)
    pub property : (a : A) (n : Node) → Y (inside a kind.MemberExpr n 1)
    pub computed : (a : A) (n : Node) → U (inside a kind.ComputedPropName n 0)
    pub either : (a : A) (n : Node) → U (inside a (kind.BinExpr binary.LogicalOr) n 0)
    pub other : (a : A) (n : Node) → U (inside a (kind.BinExpr binary.LogicalOr) n 1)
    pub dividend : (a : A) (n : Node) → U (inside a (kind.BinExpr binary.Div) n 0)
    pub divisor : (a : A) (n : Node) → U (inside a (kind.BinExpr binary.Div) n 1)
    pub operand : (a : A) (op : UnaryOp) (n : Node) → U (inside a (kind.UnaryExpr op) n 0)
    pub properties : (a : A) (n : Node) → U (inside a kind.ObjectLit n 0)
    pub statements : (a : A) (n : Node) → U (inside a kind.BlockStmt n 0)
    pub declarators : (a : A) (word : VarDeclKind) (n : Node) → U (inside a (kind.VarDecl word false) n 0)
    pub binding : (a : A) (n : Node) → D (inside a (kind.VarDeclarator false) n 0)
    pub initial : (a : A) (n : Node) → U (inside a (kind.VarDeclarator false) n 1)
    pub exported : (a : A) (n : Node) → U (inside a kind.ExportDecl n 0)
    pub key : (a : A) (n : Node) → U (inside a kind.KeyValueProp n 0)
    pub value : (a : A) (n : Node) → U (inside a kind.KeyValueProp n 1)
    pub pattern_key : (a : A) (n : Node) → U (inside a kind.KeyValuePatProp n 0)
    -- in the body of the call
    pub body_statement : (a : A) (n : Node) → B a → B (inside a kind.ExprStmt n 0)
    pub body_left : (a : A) (n : Node) → B a → B (inside a (kind.AssignExpr Assign) n 0)
    pub body_property : (a : A) (n : Node) → B a → B (inside a kind.MemberExpr n 1)
    pub body_computed : (a : A) (n : Node) → B a → B (inside a kind.ComputedPropName n 0)

  -- nodes that are made fail nowhere; names of enums are such, and so are those of members
  pub record Quiet (N : Ident → Type 0) (K : List ℕ → Type 0) : Type 0 where
    pub frame : (a : A) (k : Kind) (n : Node) → is_frame k ≡ true → U a → test a k n ≡ false
    pub read : (a : A) (k : Kind) (n : Node) → is_read_frame k ≡ true → R a → test a k n ≡ false
    pub text : (a : A) (t : List ℕ) (n : Node) → R a → test a (kind.Str t None) n ≡ false
    pub digits : (a : A) (m : JsNumber) (n : Node) → is_natural m ≡ true → R a → test a (kind.Number (Some m) None) n ≡ false
    pub function : (a : A) (n : Node) → list_any is_this_parameter (behind_first (items_at n 0)) ≡ false → U a → test a (kind.Function false false) n ≡ false
    pub variables : (a : A) (word : VarDeclKind) (n : Node) → is_empty (items_at n 0) ≡ false → U a → test a (kind.VarDecl word false) n ≡ false
    pub declared : (a : A) (n : Node) → D a → test a kind.BindingIdent n ≡ false
    pub parameter : (a : A) (n : Node) → P a → test a kind.BindingIdent n ≡ false
    pub name : (a : A) (of : Ident) (n : Node) → N of → U a → test a (kind.Ident of.sym of.ctxt of.optional) n ≡ false
    pub parameter_name : (a : A) (of : Ident) (n : Node) → N of → I a → test a (kind.Ident of.sym of.ctxt of.optional) n ≡ false
    pub target_name : (a : A) (of : Ident) (n : Node) → N of → is_simple_target n ≡ true → L a → test a (kind.Ident of.sym of.ctxt of.optional) n ≡ false
    pub target_member : (a : A) (n : Node) → is_simple_target n ≡ true → L a → test a kind.MemberExpr n ≡ false
    pub key : (a : A) (sym : List ℕ) (n : Node) → K sym → U a → test a (kind.IdentName sym) n ≡ false
    pub property : (a : A) (sym : List ℕ) (n : Node) → K sym → Y a → test a (kind.IdentName sym) n ≡ false
    pub computed : (a : A) (n : Node) → Y a → test a kind.ComputedPropName n ≡ false

  module _ (N : Ident → Type 0) (K : List ℕ → Type 0) (keyed : (of : Ident) → N of → K of.sym) (seats : Seats) (quiet : Quiet N K) where
    abbrev Under : A → Span → Kind → List Node → Type 0
    Under a span k cs = AllPass A test inside (λ i. inside a k (node_of span k cs) i) cs

    over : (span : Span) (k : Kind) (cs : List Node) (a : A) → test a k (node_of span k cs) ≡ false → Under a span k cs → Pass a (node_of span k cs)
    over = made-passes A test inside

    framed : (span : Span) (k : Kind) (cs : List Node) (a : A) → is_frame k ≡ true → U a → Under a span k cs → Pass a (node_of span k cs)
    framed span k cs a f u g = over span k cs a (quiet.frame a k (node_of span k cs) f u) g

    -- wherever a statement or an expression stands
    abbrev pub Usual : Node → Type 0
    Usual n = (a : A) → U a → Pass a n

    -- wherever one is read
    abbrev pub Told : Node → Type 0
    Told n = (a : A) → R a → Pass a n

    -- and where one is assigned to
    abbrev pub Twice : Node → Type 0
    Twice n = Usual n × ((a : A) → L a → Pass a n)

    usual : (n : Node) → Told n → Usual n
    usual n h a u = h a (seats.reads a u)

    -- ---- leaves

    pub absent-usual : Usual absent
    absent-usual a u = framed dummy_span kind.Absent [] a refl u tt

    ident-usual : (of : Ident) → N of → Usual (ident_node of)
    ident-usual of h a u = over of.span (kind.Ident of.sym of.ctxt of.optional) [] a (quiet.name a of (ident_node of) h u) tt

    ident-twice : (of : Ident) → N of → Twice (ident_node of)
    ident-twice of h = (ident-usual of h, λ a l. over of.span (kind.Ident of.sym of.ctxt of.optional) [] a (quiet.target_name a of (ident_node of) h (ident-simple of) l) tt)

    pub key-usual : (span : Span) (text : List ℕ) → K text → Usual (key_of span text)
    key-usual span text h a u = over span (kind.IdentName text) [] a (quiet.key a text (key_of span text) h u) tt

    property-passes : (a : A) (text : List ℕ) → K text → Y a → Pass a (key_of dummy_span text)
    property-passes a text h y = over dummy_span (kind.IdentName text) [] a (quiet.property a text (key_of dummy_span text) h y) tt

    text-told : (t : List ℕ) → Told (text_literal t)
    text-told t a r = over dummy_span (kind.Str t None) [] a (quiet.text a t (text_literal t) r) tt

    -- ---- literals

    numeral-told : (m : JsNumber) → is_natural m ≡ true → Told (numeral (Some m))
    numeral-told m h a r = over dummy_span (kind.Number (Some m) None) [] a (quiet.digits a m (numeral (Some m)) h r) tt

    unary-told : (op : UnaryOp) (e : Node) → Usual e → Told (node_of dummy_span (kind.UnaryExpr op) (e ∷ []))
    unary-told op e h a r =
        let n = node_of dummy_span (kind.UnaryExpr op) (e ∷ []) in
        over dummy_span (kind.UnaryExpr op) (e ∷ []) a (quiet.read a (kind.UnaryExpr op) n refl r) (h (inside a (kind.UnaryExpr op) n 0) (seats.operand a op n), tt)

    zero-usual : Usual (numeral (Some zero_number))
    zero-usual = usual (numeral (Some zero_number)) (numeral-told zero_number refl)

    one-usual : Usual (numeral (Some one_number))
    one-usual = usual (numeral (Some one_number)) (numeral-told one_number refl)

    divided-told : (e : Node) → Usual e → Told (node_of dummy_span (kind.BinExpr binary.Div) (e ∷ numeral (Some zero_number) ∷ []))
    divided-told e h a r =
        let zero = numeral (Some zero_number) in
        let k = kind.BinExpr binary.Div in
        let n = node_of dummy_span k (e ∷ zero ∷ []) in
        over dummy_span k (e ∷ zero ∷ []) a (quiet.read a k n refl r) (h (inside a k n 0) (seats.dividend a n), (zero-usual (inside a k n 1) (seats.divisor a n), tt))

    whole-told : (n : ℤ) → Told (whole_expression n)
    whole-told n = by (int_lt n (pos 0)) refl
      where
        by : (b : Bool) → int_lt n (pos 0) ≡ b → Told (if b then minus (numeral (Some (unary_minus_of (number.Whole n)))) else numeral (Some (number.Whole n)))
        by true h =
            let m = unary_minus_of (number.Whole n) in
            unary-told unary.Minus (numeral (Some m)) (usual (numeral (Some m)) (numeral-told m (minus-natural n h)))
        by false h = numeral-told (number.Whole n) (whole-natural n h)

    number-told : (n : JsNumber) → Told (number_expression n)
    number-told (number.Whole n) = whole-told n
    number-told number.NegZero = unary-told unary.Minus (numeral (Some zero_number)) zero-usual
    number-told number.NaN = divided-told (numeral (Some zero_number)) zero-usual
    number-told number.Infinity = divided-told (numeral (Some one_number)) one-usual
    number-told number.NegInfinity =
        let e = minus (numeral (Some one_number)) in
        divided-told e (usual e (unary-told unary.Minus (numeral (Some one_number)) one-usual))

    undefined-told : Told undefined
    undefined-told = unary-told unary.Void (numeral (Some zero_number)) zero-usual

    pub value-told : (v : TsEnumRecordValue) (e : Node) → expression v ≡ Some e → Told e
    value-told (value.String text) e is = let same : text_literal text ≡ e = cc in subst Told same (text-told text)
    value-told (value.Number n) e is = let same : number_expression n ≡ e = cc in subst Told same (number-told n)
    value-told value.Opaque e is = cc
    value-told value.Void e is = let same : undefined ≡ e = cc in subst Told same undefined-told

    -- ---- members

    -- E.A, wherever a member may stand
    pub member-passes : (a : A) (of : Ident) (text : List ℕ) → N of → K text → test a kind.MemberExpr (member of text) ≡ false → Pass a (member of text)
    member-passes a of text h g t =
        let m = member of text in
        over dummy_span kind.MemberExpr (ident_node of ∷ key_of dummy_span text ∷ []) a t
        (ident-usual of h (inside a kind.MemberExpr m 0) (seats.object a m), (property-passes (inside a kind.MemberExpr m 1) text g (seats.property a m), tt))

    pub member-told : (of : Ident) (text : List ℕ) → N of → K text → Told (member of text)
    member-told of text h g a r = member-passes a of text h g (quiet.read a kind.MemberExpr (member of text) refl r)

    member-twice : (of : Ident) (text : List ℕ) → N of → K text → Twice (member of text)
    member-twice of text h g = (
      usual (member of text) (member-told of text h g),
      λ a l. member-passes a of text h g (quiet.target_member a (member of text) (member-simple dummy_span (ident_node of ∷ key_of dummy_span text ∷ [])) l),
    )

    -- e[p]
    computed-passes : (a : A) (of : Ident) (p : Node) → N of → test a kind.MemberExpr (computed_member_of (ident_node of) p) ≡ false
        → ((b : A) → U b → (B a → B b) → Pass b p) → Pass a (computed_member_of (ident_node of) p)
    computed-passes a of p h t g =
        let q = node_of dummy_span kind.ComputedPropName (p ∷ []) in
        let m = computed_member_of (ident_node of) p in
        let b = inside a kind.MemberExpr m 1 in
        let c = inside b kind.ComputedPropName q 0 in
        let key = over dummy_span kind.ComputedPropName (p ∷ []) b (quiet.computed b q (seats.property a m))
        (g c (seats.computed b q) (λ z. seats.body_computed b q (seats.body_property a m z)), tt) in
        over dummy_span kind.MemberExpr (ident_node of ∷ q ∷ []) a t (ident-usual of h (inside a kind.MemberExpr m 0) (seats.object a m), (key, tt))

    assign-passes : (a : A) (l v : Node) → U a → Pass (inside a (kind.AssignExpr Assign) (assign_of Assign l v) 0) l → Pass (inside a (kind.AssignExpr Assign) (assign_of Assign l v) 1) v
        → Pass a (assign_of Assign l v)
    assign-passes a l v u h g = framed dummy_span (kind.AssignExpr Assign) (l ∷ v ∷ []) a refl u (h, (g, tt))

    -- a value, in the body of the call
    abbrev pub Value : Node → Type 0
    Value v = (a : A) (n : Node) → B a → Pass (inside a (kind.AssignExpr Assign) n 1) v

    told-value : (v : Node) → Told v → Value v
    told-value v h a n b = h (inside a (kind.AssignExpr Assign) n 1) (seats.reads (inside a (kind.AssignExpr Assign) n 1) (seats.right a n))

    at_text-passes : (a : A) (of : Ident) (text : List ℕ) → N of → L a → Pass a (at_text of text)
    at_text-passes a of text h l =
        let t = text_literal text in
        let q = node_of dummy_span kind.ComputedPropName (t ∷ []) in
        computed-passes a of t h (quiet.target_member a (at_text of text) (member-simple dummy_span (ident_node of ∷ q ∷ [])) l) (λ b u z. usual t (text-told text) b u)

    set_text-passes : (a : A) (of : Ident) (text : List ℕ) (v : Node) → N of → Value v → U a → B a → Pass a (set_text of text v)
    set_text-passes a of text v h g u b =
        let n = set_text of text v in
        assign-passes a (at_text of text) v u (at_text-passes (inside a (kind.AssignExpr Assign) n 0) of text h (seats.left a n)) (g a n b)

    set_other-passes : (a : A) (of : Ident) (text : List ℕ) (v : Node) → N of → Value v → U a → B a → Pass a (set_other of text v)
    set_other-passes a of text v h g u b =
        let p = set_text of text v in
        let l = computed_member_of (ident_node of) p in
        let q = node_of dummy_span kind.ComputedPropName (p ∷ []) in
        let t = text_literal text in
        let n = set_other of text v in
        let left = inside a (kind.AssignExpr Assign) n 0 in
        let right = inside a (kind.AssignExpr Assign) n 1 in
        assign-passes a l t u
        (computed-passes left of p h (quiet.target_member left l (member-simple dummy_span (ident_node of ∷ q ∷ [])) (seats.left a n)) (λ c w z. set_text-passes c of text v h g w (z (seats.body_left a n b))))
        (usual t (text-told text) right (seats.right a n))

    as_it_stands-value : (init : Node) → Value init → Value (as_it_stands init)
    as_it_stands-value init h = by (is_absent (out-Node init).kind)
      where
        by : (b : Bool) → Value (cond b undefined init)
        by true = told-value undefined undefined-told
        by false = h

    known-value : (v : Option TsEnumRecordValue) (init : Node) → Value init → Value (value_of v init)
    known-value None init h = as_it_stands-value init h
    known-value (Some v) init h = by (expression v) refl
      where
        by : (o : Option Node) → expression v ≡ o → Value (value_or o init)
        by None is = as_it_stands-value init h
        by (Some e) is = told-value e (value-told v e is)

    set_member-passes : (a : A) (of : Ident) (text : List ℕ) (o : Option TsEnumRecordValue) (init : Node) → N of → Value init → Inner a → Pass a (set_member of text o init)
    set_member-passes a of text o init h g u = by (is_known_text o)
      where
        by : (b : Bool) → Pass a (cond b (set_text of text (value_of o init)) (set_other of text (value_of o init)))
        by true = set_text-passes a of text (value_of o init) h (known-value o init g) u.0 u.1
        by false = set_other-passes a of text (value_of o init) h (known-value o init g) u.0 u.1

    abbrev PassIn : (A → Type 0) → List Node → Type 0
    PassIn = PassWhere A test inside

    member_by-passes : (sk : Bool) (of : Ident) (span : Span) (text : List ℕ) (o : Option TsEnumRecordValue) (init : Node) → N of → Value init → PassIn Inner (member_by sk of span text o init)
    member_by-passes sk of span text o init h g = by (sk && is_known o)
      where
        e : Node
        e = set_member of text o init

        n : Node
        n = node_of span kind.ExprStmt (e ∷ [])

        by : (b : Bool) → PassIn Inner (cond b [] (n ∷ []))
        by true = tt
        by false = ((λ a u. framed span kind.ExprStmt (e ∷ []) a refl u.0 (set_member-passes (inside a kind.ExprStmt n 0) of text o init h g (seats.statement a n, seats.body_statement a n u.1), tt)), tt)

    pub members-pass : (enums : KnownEnums) (sk : Bool) (o : Option Ident) (span : Span) (text : List ℕ) (init : Node) → IfNamed N o → Value init → PassIn Inner (member_in enums sk o span text init)
    members-pass enums sk None span text init h g = tt
    members-pass enums sk (Some of) span text init h g = member_by-passes sk of span text (known_value enums of text) init h g

    -- ---- the variable

    variable-usual : (part : Part) → N part.name → Usual (variable part)
    variable-usual part h a u =
        let of = part.name in
        let k = kind.VarDecl (word_of part.at_top) false in
        let name = declared of in
        let d = node_of of.span (kind.VarDeclarator false) (name ∷ absent ∷ []) in
        let list = list_node (d ∷ []) in
        let n = variable part in
        let a1 = inside a k n 0 in
        let a2 = inside a1 kind.List list 0 in
        let a3 = inside a2 (kind.VarDeclarator false) d 0 in
        let u1 = seats.declarators a (word_of part.at_top) n in
        let u2 = seats.items a1 list 0 u1 in
        let d3 = seats.binding a2 d in
        let names = over of.span kind.BindingIdent (ident_node of ∷ absent ∷ []) a3 (quiet.declared a3 name d3)
        (ident-usual of h (inside a3 kind.BindingIdent name 0) (seats.bound_name a3 name d3), (absent-usual (inside a3 kind.BindingIdent name 1) (seats.bound_type a3 name d3), tt)) in
        let each = framed of.span (kind.VarDeclarator false) (name ∷ absent ∷ []) a2 refl u2 (names, (absent-usual (inside a2 (kind.VarDeclarator false) d 1) (seats.initial a2 d), tt)) in
        let all = framed dummy_span kind.List (d ∷ []) a1 refl u1 (each, tt) in
        over of.span k (list ∷ []) a (quiet.variables a (word_of part.at_top) n (ap is_empty (items-first of.span k (d ∷ []) [])) u) (all, tt)

    declaration-usual : (part : Part) (around : Around) → N part.name → Usual (declaration part around)
    declaration-usual part around h = by (is_exported_here part around)
      where
        by : (b : Bool) → Usual (cond b (node_of part.name.span kind.ExportDecl (variable part ∷ [])) (variable part))
        by true = λ a u.
            let n = node_of part.name.span kind.ExportDecl (variable part ∷ []) in
            framed part.name.span kind.ExportDecl (variable part ∷ []) a refl u (variable-usual part h (inside a kind.ExportDecl n 0) (seats.exported a n), tt)
        by false = variable-usual part h

    declarations-pass : (part : Part) (around : Around) → N part.name → PassIn U (declarations part around)
    declarations-pass part around h = by (has_id part.name around.before)
      where
        by : (b : Bool) → PassIn U (cond b [] (declaration part around ∷ []))
        by true = tt
        by false = (declaration-usual part around h, tt)

    -- ---- the call

    or_new-usual : (t : Node) → Twice t → Usual (or_new t)
    or_new-usual t h a u =
        let k = kind.BinExpr binary.LogicalOr in
        let object = node_of dummy_span kind.ObjectLit (list_node [] ∷ []) in
        let set = assign_of Assign t object in
        let n = or_new t in
        let b = inside a k n 1 in
        let w = seats.other a n in
        let right = inside b (kind.AssignExpr Assign) set 1 in
        let within = inside right kind.ObjectLit object 0 in
        let empty = framed dummy_span kind.List [] within refl (seats.properties right object) tt in
        let made = framed dummy_span kind.ObjectLit (list_node [] ∷ []) right refl (seats.right b set) (empty, tt) in
        framed dummy_span k (t ∷ set ∷ []) a refl u
        (h.0 (inside a k n 0) (seats.either a n), (assign-passes b t object w (h.1 (inside b (kind.AssignExpr Assign) set 0) (seats.left b set)) made, tt))

    object-usual : (exported : Bool) (o : Option Ident) (of : Ident) → IfNamed N o → N of → Usual (object_by exported o of)
    object-usual true (Some outer) of h g =
        let t = member outer of.sym in
        let n = assign_of Assign (ident_node of) (or_new t) in
        λ a u. assign-passes a (ident_node of) (or_new t) u
        ((ident-twice of g).1 (inside a (kind.AssignExpr Assign) n 0) (seats.left a n)) (or_new-usual t (member-twice outer of.sym h (keyed of g)) (inside a (kind.AssignExpr Assign) n 1) (seats.right a n))
    object-usual true None of h g = or_new-usual (ident_node of) (ident-twice of g)
    object-usual false o of h g = or_new-usual (ident_node of) (ident-twice of g)

    parameter-usual : (of : Ident) → N of → Usual (node_of of.span kind.Param (declared of ∷ []))
    parameter-usual of h a u =
        let name = declared of in
        let n = node_of of.span kind.Param (name ∷ []) in
        let b = inside a kind.Param n 0 in
        let p = seats.parameter a n in
        let i = inside b kind.BindingIdent name 0 in
        let ident = over of.span (kind.Ident of.sym of.ctxt of.optional) [] i (quiet.parameter_name i of (ident_node of) h (seats.parameter_name b name p)) tt in
        let bound = over of.span kind.BindingIdent (ident_node of ∷ absent ∷ []) b (quiet.parameter b name p) (ident, (absent-usual (inside b kind.BindingIdent name 1) (seats.parameter_type b name p), tt)) in
        framed of.span kind.Param (name ∷ []) a refl u (bound, tt)

    parameters-usual : (of : Ident) → N of → Usual (list_node (parameters of))
    parameters-usual of h = by (is_this of)
      where
        by : (b : Bool) → Usual (list_node (cond b [] (node_of of.span kind.Param (declared of ∷ []) ∷ [])))
        by true = λ a u. framed dummy_span kind.List [] a refl u tt
        by false = λ a u.
            let p = node_of of.span kind.Param (declared of ∷ []) in
            framed dummy_span kind.List (p ∷ []) a refl u (parameter-usual of h (inside a kind.List (list_node (p ∷ [])) 0) (seats.items a (list_node (p ∷ [])) 0 u), tt)

    one-parameter : (of : Ident) → list_any is_this_parameter (behind_first (parameters of)) ≡ false
    one-parameter of = by (is_this of)
      where
        by : (b : Bool) → list_any is_this_parameter (behind_first (cond b [] (node_of of.span kind.Param (declared of ∷ []) ∷ []))) ≡ false
        by true = refl
        by false = refl

    call-passes : (span : Span) (part : Part) (around : Around) (list : Node) (a : A) → N part.name → IfNamed N around.name → U a → InBody a list → Pass a (call span part around list)
    call-passes span part around list a h g u l =
        let of = part.name in
        let fk = kind.Function false false in
        let block = block_of list in
        let cs = list_node (parameters of) ∷ block ∷ absent ∷ absent ∷ [] in
        let f = node_of dummy_span fk cs in
        let e = function_of of list in
        let o = object_by part.exported around.name of in
        let args = list_node (o ∷ []) in
        let c = call_of dummy_span e (o ∷ []) in
        let s = call span part around list in
        let a1 = inside a kind.ExprStmt s 0 in
        let a2 = inside a1 kind.CallExpr c 0 in
        let a3 = inside a2 kind.FnExpr e 1 in
        let a4 = inside a3 fk f 1 in
        let u1 = seats.statement a s in
        let u2 = seats.callee a1 c in
        let u3 = seats.function a2 e in
        let u4 = seats.body a3 f in
        let within = framed dummy_span kind.BlockStmt (list ∷ []) a4 refl u4 (l s c e f block, tt) in
        let function = over dummy_span fk cs a3 (quiet.function a3 f (ap (λ z. list_any is_this_parameter (behind_first z)) (items-first dummy_span fk (parameters of) (block ∷ absent ∷ absent ∷ [])) ∙ one-parameter of) u3) (
          parameters-usual of h (inside a3 fk f 0) (seats.parameters a3 f),
          (within, (absent-usual (inside a3 fk f 2) (seats.type_parameters a3 f), (absent-usual (inside a3 fk f 3) (seats.result a3 f), tt))),
        ) in
        let called = framed (out-Node f).span kind.FnExpr (absent ∷ f ∷ []) a2 refl u2 (absent-usual (inside a2 kind.FnExpr e 0) (seats.function_name a2 e), (function, tt)) in
        let a5 = inside a1 kind.CallExpr c 1 in
        let u5 = seats.arguments a1 c in
        let given = framed dummy_span kind.List (o ∷ []) a5 refl u5 (object-usual part.exported around.name of g h (inside a5 kind.List args 0) (seats.items a5 args 0 u5), tt) in
        let calling = framed dummy_span kind.CallExpr (e ∷ args ∷ absent ∷ []) a1 refl u1 (called, (given, (absent-usual (inside a1 kind.CallExpr c 2) (seats.type_arguments a1 c), tt))) in
        framed span kind.ExprStmt (c ∷ []) a refl u (calling, tt)

    calls-pass : (enums : KnownEnums) (span : Span) (part : Part) (around : Around) (list : Node) → N part.name → IfNamed N around.name → PassIn (Holding list) (calls enums span part around list)
    calls-pass enums span part around list h g = by (skips enums part && is_nil (out-Node list).children)
      where
        by : (b : Bool) → PassIn (Holding list) (cond b [] (call span part around list ∷ []))
        by true = tt
        by false = ((λ a u. call-passes span part around list a h g u.0 u.1), tt)

    holding : (list : Node) (ns : List Node) → PassIn U ns → PassIn (Holding list) ns
    holding list [] h = tt
    holding list (n ∷ ns) h = ((λ a u. h.0 a u.0), holding list ns h.1)

    pub part-pass : (enums : KnownEnums) (span : Span) (part : Part) (around : Around) (list : Node) → N part.name → IfNamed N around.name → PassIn (Holding list) (part_statements enums span part around list)
    part-pass enums span part around list h g =
        where-append A test inside (Holding list) (declarations part around) (calls enums span part around list)
        (holding list (declarations part around) (declarations-pass part around h)) (calls-pass enums span part around list h g)
