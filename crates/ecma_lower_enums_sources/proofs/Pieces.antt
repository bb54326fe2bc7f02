-- What is written for enums, node by node: it holds of each node where it holds of what is made, and of what stands in it.
use Rattle.std.proofs.Common.{◌≡◌, ℕ, Bool, true, false, cond, ◌&&◌, List, [], ◌∷◌, Option, Some, None, refl, sym}
use Rattle.std.specs.Option.{option_and_then}
use Rattle.ecma_kind.specs.declared.ident.Ident.{Ident}
use Rattle.ecma_kind.specs.declared.kind.Kind.{Kind}
use Rattle.ecma_kind.specs.declared.kind.Kind.TheVariants as kind
use Rattle.ecma_kind.specs.declared.operators.AssignOp.TheVariants.{Assign}
use Rattle.ecma_kind.specs.declared.operators.BinaryOp.TheVariants as binary
use Rattle.ecma_kind.specs.declared.span.Span.{Span}
use Rattle.ecma_tree.specs.Idents.{ident_node}
use Rattle.ecma_tree.specs.Nodes.{absent, dummy_span, list_node, node_of}
use Rattle.ecma_tree.specs.Sorted.{is_absent}
use Rattle.ecma_tree.specs.declared.node.Node.{Node, out-Node}
use Rattle.ecma_utils.specs.Expressions.{assign_of, call_of, computed_member_of, key_of}
use Rattle.ecma_enums.specs.KnownReads.{known_read}
use Rattle.ecma_enums.specs.Values.{expression, text_literal, undefined}
use Rattle.ecma_enums.specs.declared.value.TsEnumRecordValue.{TsEnumRecordValue}
use Rattle.ecma_lower_enums.specs.declared.known.Around.{Around}
use Rattle.ecma_lower_enums.specs.declared.known.KnownEnums.{KnownEnums}
use Rattle.ecma_lower_enums.specs.declared.known.Part.{Part}
use Rattle.ecma_lower_enums.specs.Forms.{as_it_stands, at_text, block_of, call, calls, declaration, declarations, declared, function_of, is_exported_here, is_known, is_known_text, is_nil, is_this, known_value, member, member_in, member_of_enum, object_by, or_new, parameters, part_statements, set_member, set_other, set_text, value_of, value_or, variable, word_of}
use Rattle.ecma_lower_enums.specs.Known.{has_id, skips}
use Rattle.ecma_lower_enums_sources.specs.Throughout.{Each, Throughout, more, none, throughout}
use Rattle.ecma_lower_enums_sources.proofs.Names.{IsName, IsNamed}
use Rattle.ecma_lower_enums_sources.proofs.Trees.{append, parts-of}

-- what is made, but for names, keys and literals
abbrev pub is_frame : Kind → Bool
is_frame kind.Absent = true
is_frame kind.List = true
is_frame kind.MemberExpr = true
is_frame kind.ComputedPropName = true
is_frame (kind.AssignExpr op) = true
is_frame (kind.BinExpr op) = true
is_frame kind.ObjectLit = true
is_frame kind.CallExpr = true
is_frame kind.FnExpr = true
is_frame (kind.Function is_generator is_async) = true
is_frame kind.Param = true
is_frame kind.BlockStmt = true
is_frame kind.ExprStmt = true
is_frame (kind.VarDecl word declare) = true
is_frame (kind.VarDeclarator definite) = true
is_frame kind.BindingIdent = true
is_frame kind.ExportDecl = true
is_frame kind.KeyValueProp = true
is_frame kind.KeyValuePatProp = true
is_frame kind.AssignPat = true
is_frame _ = false

module _ (G : Node → Type 0) (P : Span → Kind → Type 0) (enums : KnownEnums) where
  abbrev pub Good : Node → Type 0
  Good = Throughout G

  abbrev pub All : List Node → Type 0
  All = Each G

  abbrev pub IfGood : Option Node → Type 0
  IfGood None = Unit
  IfGood (Some e) = Good e

  -- what is to be shown: of leaves of which P holds, of what is made round others, and of values
  pub record Pieces : Type 0 where
    pub frame : (span : Span) (k : Kind) (cs : List Node) → is_frame k ≡ true → G (node_of span k cs)
    pub leaf : (span : Span) (k : Kind) → P span k → G (node_of span k [])
    pub key : (span at : Span) (sym : List ℕ) (ctxt : ℕ) (optional : Bool) → P span (kind.Ident sym ctxt optional) → P at (kind.IdentName sym)
    pub void : Good undefined
    pub values : (may_change : Bool) (n : Node) → IfGood (option_and_then expression (known_read may_change enums.members n))

  module _ (pieces : Pieces) where
    -- ---- parts

    pub over : (span : Span) (k : Kind) (cs : List Node) → is_frame k ≡ true → All cs → Good (node_of span k cs)
    over span k cs f h = throughout (pieces.frame span k cs f) (parts-of (λ s k cs. Each G cs) span k cs h)

    leaf : (span : Span) (k : Kind) → P span k → Good (node_of span k [])
    leaf span k h = throughout (pieces.leaf span k h) (parts-of (λ s k cs. Each G cs) span k [] none)

    pub two : (n m : Node) → Good n → Good m → All (n ∷ m ∷ [])
    two n m h g = more h (more g none)

    pub absent-good : Good absent
    absent-good = over dummy_span kind.Absent [] refl none

    list-good : (ns : List Node) → All ns → Good (list_node ns)
    list-good ns h = over dummy_span kind.List ns refl h

    ident-good : (of : Ident) → IsName P of → Good (ident_node of)
    ident-good of h = leaf of.span (kind.Ident of.sym of.ctxt of.optional) h

    pub key-good : (span : Span) (sym : List ℕ) → P span (kind.IdentName sym) → Good (key_of span sym)
    key-good span sym h = leaf span (kind.IdentName sym) h

    text-good : (text : List ℕ) → P dummy_span (kind.Str text None) → Good (text_literal text)
    text-good text h = leaf dummy_span (kind.Str text None) h

    -- E.A
    pub member-good : (of : Ident) (sym : List ℕ) → IsName P of → P dummy_span (kind.IdentName sym) → Good (member of sym)
    member-good of sym h g = over dummy_span kind.MemberExpr (ident_node of ∷ key_of dummy_span sym ∷ []) refl (two (ident_node of) (key_of dummy_span sym) (ident-good of h) (key-good dummy_span sym g))

    -- e[p]
    computed-good : (e p : Node) → Good e → Good p → Good (computed_member_of e p)
    computed-good e p h g =
        let key = over dummy_span kind.ComputedPropName (p ∷ []) refl (more g none) in
        over dummy_span kind.MemberExpr (e ∷ node_of dummy_span kind.ComputedPropName (p ∷ []) ∷ []) refl (more h (more key none))

    assign-good : (target e : Node) → Good target → Good e → Good (assign_of Assign target e)
    assign-good target e h g = over dummy_span (kind.AssignExpr Assign) (target ∷ e ∷ []) refl (two target e h g)

    -- ---- members

    at_text-good : (of : Ident) (sym : List ℕ) → IsName P of → P dummy_span (kind.Str sym None) → Good (at_text of sym)
    at_text-good of sym h t = computed-good (ident_node of) (text_literal sym) (ident-good of h) (text-good sym t)

    set_text-good : (of : Ident) (sym : List ℕ) (v : Node) → IsName P of → P dummy_span (kind.Str sym None) → Good v → Good (set_text of sym v)
    set_text-good of sym v h t g = assign-good (at_text of sym) v (at_text-good of sym h t) g

    set_other-good : (of : Ident) (sym : List ℕ) (v : Node) → IsName P of → P dummy_span (kind.Str sym None) → Good v → Good (set_other of sym v)
    set_other-good of sym v h t g =
        assign-good (computed_member_of (ident_node of) (set_text of sym v)) (text_literal sym)
        (computed-good (ident_node of) (set_text of sym v) (ident-good of h) (set_text-good of sym v h t g)) (text-good sym t)

    as_it_stands-good : (init : Node) → Good init → Good (as_it_stands init)
    as_it_stands-good init h = by (is_absent (out-Node init).kind)
      where
        by : (b : Bool) → Good (cond b undefined init)
        by true = pieces.void
        by false = h

    value_or-good : (o : Option Node) (init : Node) → IfGood o → Good init → Good (value_or o init)
    value_or-good None init h g = as_it_stands-good init g
    value_or-good (Some e) init h g = h

    set_member-good : (of : Ident) (sym : List ℕ) (v : Option TsEnumRecordValue) (init : Node) → IsName P of → P dummy_span (kind.Str sym None) → IfGood (option_and_then expression v) → Good init
        → Good (set_member of sym v init)
    set_member-good of sym v init h t value g = by (is_known_text v)
      where
        written : Good (value_of v init)
        written = value_or-good (option_and_then expression v) init value g

        by : (b : Bool) → Good (cond b (set_text of sym (value_of v init)) (set_other of sym (value_of v init)))
        by true = set_text-good of sym (value_of v init) h t written
        by false = set_other-good of sym (value_of v init) h t written

    member-written : (of : Ident) (skips : Bool) (span : Span) (sym : List ℕ) (init : Node) → IsName P of → P dummy_span (kind.Str sym None) → Good init → All (member_of_enum enums skips of span sym init)
    member-written of skips span sym init h t g = by (skips && is_known (known_value enums of sym))
      where
        e : Node
        e = set_member of sym (known_value enums of sym) init

        set : Good e
        set = set_member-good of sym (known_value enums of sym) init h t (pieces.values false (member of sym)) g

        by : (b : Bool) → All (cond b [] (node_of span kind.ExprStmt (e ∷ []) ∷ []))
        by true = none
        by false = more (over span kind.ExprStmt (e ∷ []) refl (more set none)) none

    pub member_in-good : (skips : Bool) (o : Option Ident) (span : Span) (sym : List ℕ) (init : Node) → IsNamed P o → P dummy_span (kind.Str sym None) → Good init → All (member_in enums skips o span sym init)
    member_in-good skips None span sym init h t g = none
    member_in-good skips (Some of) span sym init h t g = member-written of skips span sym init h t g

    -- ---- the variable

    declared-good : (of : Ident) → IsName P of → Good (declared of)
    declared-good of h = over of.span kind.BindingIdent (ident_node of ∷ absent ∷ []) refl (two (ident_node of) absent (ident-good of h) absent-good)

    variable-good : (part : Part) → IsName P part.name → Good (variable part)
    variable-good part h =
        let d = node_of part.name.span (kind.VarDeclarator false) (declared part.name ∷ absent ∷ []) in
        let dg = over part.name.span (kind.VarDeclarator false) (declared part.name ∷ absent ∷ []) refl (two (declared part.name) absent (declared-good part.name h) absent-good) in
        over part.name.span (kind.VarDecl (word_of part.at_top) false) (list_node (d ∷ []) ∷ []) refl (more (list-good (d ∷ []) (more dg none)) none)

    declaration-good : (part : Part) (around : Around) → IsName P part.name → Good (declaration part around)
    declaration-good part around h = by (is_exported_here part around)
      where
        by : (b : Bool) → Good (cond b (node_of part.name.span kind.ExportDecl (variable part ∷ [])) (variable part))
        by true = over part.name.span kind.ExportDecl (variable part ∷ []) refl (more (variable-good part h) none)
        by false = variable-good part h

    declarations-good : (part : Part) (around : Around) → IsName P part.name → All (declarations part around)
    declarations-good part around h = by (has_id part.name around.before)
      where
        by : (b : Bool) → All (cond b [] (declaration part around ∷ []))
        by true = none
        by false = more (declaration-good part around h) none

    -- ---- the call

    or_new-good : (t : Node) → Good t → Good (or_new t)
    or_new-good t h =
        let object = node_of dummy_span kind.ObjectLit (list_node [] ∷ []) in
        let og = over dummy_span kind.ObjectLit (list_node [] ∷ []) refl (more (list-good [] none) none) in
        over dummy_span (kind.BinExpr binary.LogicalOr) (t ∷ assign_of Assign t object ∷ []) refl (two t (assign_of Assign t object) h (assign-good t object h og))

    object-good : (exported : Bool) (o : Option Ident) (of : Ident) → IsNamed P o → IsName P of → Good (object_by exported o of)
    object-good true (Some outer) of h g =
        assign-good (ident_node of) (or_new (member outer of.sym)) (ident-good of g)
        (or_new-good (member outer of.sym) (member-good outer of.sym h (pieces.key of.span dummy_span of.sym of.ctxt of.optional g)))
    object-good true None of h g = or_new-good (ident_node of) (ident-good of g)
    object-good false o of h g = or_new-good (ident_node of) (ident-good of g)

    parameters-good : (of : Ident) → IsName P of → All (parameters of)
    parameters-good of h = by (is_this of)
      where
        by : (b : Bool) → All (cond b [] (node_of of.span kind.Param (declared of ∷ []) ∷ []))
        by true = none
        by false = more (over of.span kind.Param (declared of ∷ []) refl (more (declared-good of h) none)) none

    function-good : (of : Ident) (list : Node) → IsName P of → Good list → Good (function_of of list)
    function-good of list h g =
        let block = over dummy_span kind.BlockStmt (list ∷ []) refl (more g none) in
        let cs = list_node (parameters of) ∷ block_of list ∷ absent ∷ absent ∷ [] in
        let f = node_of dummy_span (kind.Function false false) cs in
        let fg = over dummy_span (kind.Function false false) cs refl (more (list-good (parameters of) (parameters-good of h)) (more block (two absent absent absent-good absent-good))) in
        over (out-Node f).span kind.FnExpr (absent ∷ f ∷ []) refl (two absent f absent-good fg)

    call-good : (span : Span) (part : Part) (around : Around) (list : Node) → IsName P part.name → IsNamed P around.name → Good list → Good (call span part around list)
    call-good span part around list h g l =
        let f = function_of part.name list in
        let o = object_by part.exported around.name part.name in
        let args = list-good (o ∷ []) (more (object-good part.exported around.name part.name g h) none) in
        let called = over dummy_span kind.CallExpr (f ∷ list_node (o ∷ []) ∷ absent ∷ []) refl (more (function-good part.name list h l) (two (list_node (o ∷ [])) absent args absent-good)) in
        over span kind.ExprStmt (call_of dummy_span f (o ∷ []) ∷ []) refl (more called none)

    calls-good : (span : Span) (part : Part) (around : Around) (list : Node) → IsName P part.name → IsNamed P around.name → Good list → All (calls enums span part around list)
    calls-good span part around list h g l = by (skips enums part && is_nil (out-Node list).children)
      where
        by : (b : Bool) → All (cond b [] (call span part around list ∷ []))
        by true = none
        by false = more (call-good span part around list h g l) none

    pub part-good : (span : Span) (part : Part) (around : Around) (list : Node) → IsName P part.name → IsNamed P around.name → Good list → All (part_statements enums span part around list)
    part-good span part around list h g l = append G (declarations-good part around h) (calls-good span part around list h g l)
