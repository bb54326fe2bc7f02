-- A read of a member is the same read without types.
use Rattle.std.proofs.Common.{◌≡◌, ◌∙◌, ℕ, Bool, true, false, ◌&&◌, cond, refl, sym, ap, ap₂, subst, List, [], ◌∷◌, map, filter, length, replicate, get_or, Option, Some, None, slice_get}
use Rattle.std.specs.List.{list_all}
use Rattle.std.specs.Option.{option_and_then}
use Rattle.std.proofs.lemmas.List.{length-map}
use Rattle.ecma_kind.specs.Sorts.{belongs, is_expr, is_type_wrapper}
use Rattle.ecma_kind.specs.declared.kind.Kind.{Kind}
use Rattle.ecma_kind.specs.declared.kind.Kind.TheVariants as kind
use Rattle.ecma_kind.specs.declared.shapes.Sort.{Sort}
use Rattle.ecma_kind.specs.declared.shapes.Sort.TheVariants as sort
use Rattle.ecma_kind.specs.declared.span.Span.{Span}
use Rattle.ecma_tree.specs.Laws.{HaveShapes}
use Rattle.ecma_tree.specs.Nodes.{node_of}
use Rattle.ecma_tree.specs.Sorted.{HasShape, child_shapes, many, one}
use Rattle.ecma_tree.specs.Values.{value_by}
use Rattle.ecma_tree.specs.declared.node.Node.{Node, Node-F, out-Node}
use Rattle.ecma_tree.specs.declared.node.Node.TheViews.{out-roll-Node, roll-out-Node}
use Rattle.ecma_tree.proofs.ShapeLaws.{node_has_shape}
use Rattle.ecma_strip.specs.Staying.{is_declared, specifier_stays, stays}
use Rattle.ecma_strip.specs.Stripping.{plain, plain_children, plain_kind, stripped}
use Rattle.ecma_rewriting.proofs.Equations.{list-kind}
use Rattle.ecma_strip_rewriting.proofs.Commuting.{by-parts, stripped-wrapper, wrapped-first}
use Rattle.ecma_strip_rewriting.proofs.PlainKinds.{filter-all, no, shape-out, stripped-list, stripped-other}
use Rattle.ecma_strip_rewriting.proofs.Stays.{kind-roll, stays-out, stays_by}
use Rattle.ecma_enums.specs.Keys.{cooked_text, is_plain, items_at, key_by, key_under, part_text, plain_text}
use Rattle.ecma_enums.specs.KnownReads.{known_by, known_read, value_of}
use Rattle.ecma_enums.specs.Names.{Name, name_by, name_under}
use Rattle.ecma_enums.specs.Values.{expression}
use Rattle.ecma_enums.specs.declared.record.TsEnumRecordEntry.{TsEnumRecordEntry}
use Rattle.ecma_enums.specs.declared.value.TsEnumRecordValue.{TsEnumRecordValue}
use Rattle.ecma_enums.proofs.Keying.{key-out}
use Rattle.ecma_enums.proofs.Naming.{name-out}
use Rattle.ecma_lower_enums.specs.declared.known.KnownEnums.{KnownEnums}
use Rattle.ecma_lower_enums.specs.Writing.{value_read}
use Rattle.ecma_lower_enums_strip.proofs.Seating.{expr-list, usual-out}

-- ---- names of expressions

name-roll : (span : Span) (k : Kind) (cs : List Node) → name_under (node_of span k cs) ≡ name_by k (map name_under cs)
name-roll span k cs =
    name-out (node_of span k cs) ∙ ap (λ (z : Node-F Node). name_by z.kind (map name_under z.children)) (out-roll-Node (record { span = span; kind = k; children = cs }))

name-wrapped : (k : Kind) (o : Option Name) (os : List (Option Name)) → is_type_wrapper k ≡ true → name_by k (o ∷ os) ≡ o
unfolding name_by
name-wrapped kind.TsTypeAssertion o os w = refl
name-wrapped kind.TsConstAssertion o os w = refl
name-wrapped kind.TsNonNullExpr o os w = refl
name-wrapped kind.TsAsExpr o os w = refl
name-wrapped kind.TsInstantiation o os w = refl
name-wrapped kind.TsSatisfiesExpr o os w = refl
name-wrapped _ o os w = no w

name-usual : (k : Kind) (os ps : List (Option Name)) → is_type_wrapper k ≡ false → name_by (plain_kind k) os ≡ name_by k ps
unfolding name_by plain_kind
name-usual (kind.Ident text ctxt optional) os ps w = refl
name-usual kind.TsTypeAssertion os ps w = no (sym w)
name-usual kind.TsConstAssertion os ps w = no (sym w)
name-usual kind.TsNonNullExpr os ps w = no (sym w)
name-usual kind.TsAsExpr os ps w = no (sym w)
name-usual kind.TsInstantiation os ps w = no (sym w)
name-usual kind.TsSatisfiesExpr os ps w = no (sym w)
name-usual _ os ps w = refl

abbrev NameKept : Node → Type 0
NameKept n = HasShape (one sort.Expr) n → name_under (stripped n) ≡ name_under n

name-node : (span : Span) (k : Kind) (cs : List Node) → ((i : ℕ) (c : Node) → slice_get cs i ≡ Some c → NameKept c) → NameKept (node_of span k cs)
name-node span k cs each has = by (is_type_wrapper k) refl
  where
    parts : (is_expr k ≡ true) × HaveShapes (child_shapes k (one sort.Expr) (length cs)) cs
    parts = (node_has_shape span k cs (one sort.Expr)).0 has

    by : (b : Bool) → is_type_wrapper k ≡ b → name_under (stripped (node_of span k cs)) ≡ name_under (node_of span k cs)
    by true w =
        let front = wrapped-first span k cs (one sort.Expr) w parts.1 in
        let e = front.0 in
        subst (λ z. name_under (stripped (node_of span k z)) ≡ name_under (node_of span k z)) (sym front.2)
        (ap name_under (stripped-wrapper span k e front.1 (one sort.Expr) w)
        ∙ each 0 e (ap (λ (z : List Node). slice_get z 0) front.2) front.3
        ∙ sym (name-roll span k (e ∷ front.1) ∙ name-wrapped k (name_under e) (map name_under front.1) w))
    by false w =
        let usual = expr-list k parts.0 in
        let ys = plain_children k (map stripped cs) in
        ap name_under (usual-out span k cs (usual.0, usual.1, w))
        ∙ name-roll span (plain_kind k) ys
        ∙ name-usual k (map name_under ys) (map name_under cs) w
        ∙ sym (name-roll span k cs)

pub name-under-kept : (n : Node) → NameKept n
name-under-kept = by-parts NameKept name-node

-- ---- what stays in every list

pub expr-stays-by : (k : Kind) (cs : List Node) → is_expr k ≡ true → stays_by k cs ≡ true
unfolding value_by is_declared specifier_stays
expr-stays-by (kind.ImportDecl t) cs h = no h
expr-stays-by (kind.NamedExport t) cs h = no h
expr-stays-by (kind.ExportAll t) cs h = no h
expr-stays-by (kind.TsImportEqualsDecl e t) cs h = no h
expr-stays-by kind.ExportDecl cs h = no h
expr-stays-by kind.ExportDefaultDecl cs h = no h
expr-stays-by (kind.FnDecl d) cs h = no h
expr-stays-by (kind.ClassDecl d) cs h = no h
expr-stays-by (kind.VarDecl w d) cs h = no h
expr-stays-by (kind.TsEnumDecl d c) cs h = no h
expr-stays-by (kind.TsModuleDecl d g) cs h = no h
expr-stays-by (kind.TsInterfaceDecl d) cs h = no h
expr-stays-by (kind.TsTypeAliasDecl d) cs h = no h
expr-stays-by kind.TsNamespaceExportDecl cs h = no h
expr-stays-by (kind.TsIndexSignature r s) cs h = no h
expr-stays-by (kind.Constructor a o) cs h = no h
expr-stays-by (kind.ClassMethod k m) cs h = no h
expr-stays-by (kind.PrivateMethod k m) cs h = no h
expr-stays-by (kind.ClassProp m r d f) cs h = no h
expr-stays-by (kind.PrivateProp m r d f) cs h = no h
expr-stays-by (kind.ImportNamedSpecifier t) cs h = no h
expr-stays-by (kind.ExportNamedSpecifier t) cs h = no h
expr-stays-by kind.TsType cs h = no h
expr-stays-by kind.Param cs h = no h
expr-stays-by kind.BindingIdent cs h = no h
expr-stays-by _ cs h = refl

expr-stays : (n : Node) → HasShape (one sort.Expr) n → stays n ≡ true
expr-stays n h = stays-out n ∙ expr-stays-by (out-Node n).kind (out-Node n).children (shape-out n (one sort.Expr) h).0

quasi-stays-by : (k : Kind) (cs : List Node) → belongs sort.TplElement k ≡ true → stays_by k cs ≡ true
unfolding value_by is_declared specifier_stays
quasi-stays-by (kind.TplElement raw cooked tail) cs h = refl
quasi-stays-by _ cs h = no h

quasi-stays : (n : Node) → HasShape (one sort.TplElement) n → stays n ≡ true
quasi-stays n h = stays-out n ∙ quasi-stays-by (out-Node n).kind (out-Node n).children (shape-out n (one sort.TplElement) h).0

all-stay : (σ : Sort) → ((n : Node) → HasShape (one σ) n → stays n ≡ true) → (cs : List Node) → HaveShapes (replicate (length cs) (one σ)) cs → list_all stays cs ≡ true
all-stay σ each [] h = refl
all-stay σ each (c ∷ cs) h = ap₂ (λ a b. a && b) (each c h.0) (all-stay σ each cs h.1)

-- the items of a list of such nodes, without types
pub kept-items : (σ : Sort) (each : (n : Node) → HasShape (one σ) n → stays n ≡ true) (n : Node) → HasShape (many σ) n → (out-Node (stripped n)).children ≡ map stripped (out-Node n).children
kept-items σ each n h =
    let parts = shape-out n (many σ) h in
    let l = list-kind (out-Node n).kind parts.0 in
    let cs = (out-Node n).children in
    let have = subst (λ z. HaveShapes (child_shapes z (many σ) (length cs)) cs) l parts.1 in
    ap (λ z. (out-Node (stripped z)).children) (sym (roll-out-Node n))
    ∙ ap (λ z. (out-Node (stripped (node_of (out-Node n).span z cs))).children) l
    ∙ ap (λ z. (out-Node z).children) (stripped-list (out-Node n).span cs)
    ∙ ap (λ (z : Node-F Node). z.children) (out-roll-Node (record { span = (out-Node n).span; kind = kind.List; children = map stripped (filter stays cs) }))
    ∙ ap (map stripped) (filter-all stays cs (all-stay σ each cs have))

-- ---- keys

key-roll : (span : Span) (k : Kind) (cs : List Node) → key_under (node_of span k cs) ≡ key_by k (node_of span k cs) (map key_under cs)
key-roll span k cs =
    key-out (node_of span k cs)
    ∙ ap (λ (z : Node-F Node). key_by z.kind (node_of span k cs) (map key_under z.children)) (out-roll-Node (record { span = span; kind = k; children = cs }))

part-by : (span : Span) (k : Kind) (cs : List Node) → belongs sort.TplElement k ≡ true → part_text (stripped (node_of span k cs)) ≡ cooked_text k
unfolding plain plain_kind plain_children
part-by span (kind.TplElement raw cooked tail) cs h =
    ap part_text (stripped-other span (kind.TplElement raw cooked tail) cs refl) ∙ ap cooked_text (kind-roll span (kind.TplElement raw cooked tail) (map stripped cs))
part-by span _ cs h = no h

part-kept : (n : Node) → HasShape (one sort.TplElement) n → part_text (stripped n) ≡ part_text n
part-kept n h = ap (λ z. part_text (stripped z)) (sym (roll-out-Node n)) ∙ part-by (out-Node n).span (out-Node n).kind (out-Node n).children (shape-out n (one sort.TplElement) h).0

first-part : (cs : List Node) → HaveShapes (replicate (length cs) (one sort.TplElement)) cs → option_and_then part_text (slice_get (map stripped cs) 0) ≡ option_and_then part_text (slice_get cs 0)
first-part [] h = refl
first-part (c ∷ cs) h = part-kept c h.0

text-same : (es qs : List Node) → HaveShapes (replicate (length qs) (one sort.TplElement)) qs → plain_text (map stripped es) (map stripped qs) ≡ plain_text es qs
text-same es qs h =
    ap₂ (λ a b. cond (is_plain a b) (option_and_then part_text (slice_get (map stripped qs) 0)) None) (length-map es stripped) (length-map qs stripped)
    ∙ ap (λ o. cond (is_plain (length es) (length qs)) o None) (first-part qs h)

list-shapes : (σ : Sort) (n : Node) → HasShape (many σ) n → HaveShapes (replicate (length (out-Node n).children) (one σ)) (out-Node n).children
list-shapes σ n h =
    let parts = shape-out n (many σ) h in
    let cs = (out-Node n).children in
    subst (λ z. HaveShapes (child_shapes z (many σ) (length cs)) cs) (list-kind (out-Node n).kind parts.0) parts.1

items-roll : (span : Span) (a b : Node) → plain_text (items_at (node_of span kind.Tpl (a ∷ b ∷ [])) 0) (items_at (node_of span kind.Tpl (a ∷ b ∷ [])) 1) ≡ plain_text (out-Node a).children (out-Node b).children
items-roll span a b = rw (out-roll-Node (record { span = span; kind = kind.Tpl; children = a ∷ b ∷ [] })) refl

template-kept : (span : Span) (cs : List Node) → HaveShapes (many sort.Expr ∷ many sort.TplElement ∷ []) cs → key_under (stripped (node_of span kind.Tpl cs)) ≡ key_under (node_of span kind.Tpl cs)
unfolding plain plain_kind plain_children key_by
template-kept span [] h = absurd h
template-kept span (a ∷ []) h = absurd h.1
template-kept span (a ∷ b ∷ c ∷ cs) h = absurd h.1.1
template-kept span (a ∷ b ∷ []) h =
    ap key_under (stripped-other span kind.Tpl (a ∷ b ∷ []) refl)
    ∙ key-roll span kind.Tpl (stripped a ∷ stripped b ∷ [])
    ∙ items-roll span (stripped a) (stripped b)
    ∙ ap₂ plain_text (kept-items sort.Expr expr-stays a h.0) (kept-items sort.TplElement quasi-stays b h.1.0)
    ∙ text-same (out-Node a).children (out-Node b).children (list-shapes sort.TplElement b h.1.0)
    ∙ sym (key-roll span kind.Tpl (a ∷ b ∷ []) ∙ items-roll span a b)

key-wrapped : (k : Kind) (n : Node) (o : Option (List ℕ)) (os : List (Option (List ℕ))) → is_type_wrapper k ≡ true → key_by k n (o ∷ os) ≡ o
unfolding key_by
key-wrapped kind.TsTypeAssertion n o os w = refl
key-wrapped kind.TsConstAssertion n o os w = refl
key-wrapped kind.TsNonNullExpr n o os w = refl
key-wrapped kind.TsAsExpr n o os w = refl
key-wrapped kind.TsInstantiation n o os w = refl
key-wrapped kind.TsSatisfiesExpr n o os w = refl
key-wrapped _ n o os w = no w

abbrev is_template : Kind → Bool
is_template kind.Tpl = true
is_template _ = false

key-usual : (k : Kind) (n m : Node) (os ps : List (Option (List ℕ))) → is_expr k ≡ true → is_type_wrapper k ≡ false → is_template k ≡ false → key_by (plain_kind k) n os ≡ key_by k m ps
unfolding key_by plain_kind
key-usual (kind.IdentName text) n m os ps h w t = no h
key-usual kind.ComputedPropName n m os ps h w t = no h
key-usual (kind.Str value raw) n m os ps h w t = refl
key-usual kind.Tpl n m os ps h w t = no (sym t)
key-usual kind.TsTypeAssertion n m os ps h w t = no (sym w)
key-usual kind.TsConstAssertion n m os ps h w t = no (sym w)
key-usual kind.TsNonNullExpr n m os ps h w t = no (sym w)
key-usual kind.TsAsExpr n m os ps h w t = no (sym w)
key-usual kind.TsInstantiation n m os ps h w t = no (sym w)
key-usual kind.TsSatisfiesExpr n m os ps h w t = no (sym w)
key-usual _ n m os ps h w t = refl

template-kind : (k : Kind) → is_template k ≡ true → k ≡ kind.Tpl
template-kind kind.Tpl h = refl
template-kind _ h = no h

abbrev KeyKept : Node → Type 0
KeyKept n = HasShape (one sort.Expr) n → key_under (stripped n) ≡ key_under n

key-node : (span : Span) (k : Kind) (cs : List Node) → ((i : ℕ) (c : Node) → slice_get cs i ≡ Some c → KeyKept c) → KeyKept (node_of span k cs)
key-node span k cs each has = by (is_type_wrapper k) refl (is_template k) refl
  where
    parts : (is_expr k ≡ true) × HaveShapes (child_shapes k (one sort.Expr) (length cs)) cs
    parts = (node_has_shape span k cs (one sort.Expr)).0 has

    template : k ≡ kind.Tpl → HaveShapes (child_shapes k (one sort.Expr) (length cs)) cs → key_under (stripped (node_of span k cs)) ≡ key_under (node_of span k cs)
    template e =
        subst (λ z. HaveShapes (child_shapes z (one sort.Expr) (length cs)) cs → key_under (stripped (node_of span z cs)) ≡ key_under (node_of span z cs)) (sym e) (λ h. template-kept span cs h)

    by : (b : Bool) → is_type_wrapper k ≡ b → (c : Bool) → is_template k ≡ c → key_under (stripped (node_of span k cs)) ≡ key_under (node_of span k cs)
    by true w c t =
        let front = wrapped-first span k cs (one sort.Expr) w parts.1 in
        let e = front.0 in
        subst (λ z. key_under (stripped (node_of span k z)) ≡ key_under (node_of span k z)) (sym front.2)
        (ap key_under (stripped-wrapper span k e front.1 (one sort.Expr) w)
        ∙ each 0 e (ap (λ (z : List Node). slice_get z 0) front.2) front.3
        ∙ sym (key-roll span k (e ∷ front.1) ∙ key-wrapped k (node_of span k (e ∷ front.1)) (key_under e) (map key_under front.1) w))
    by false w true t = template (template-kind k t) parts.1
    by false w false t =
        let usual = expr-list k parts.0 in
        let ys = plain_children k (map stripped cs) in
        ap key_under (usual-out span k cs (usual.0, usual.1, w))
        ∙ key-roll span (plain_kind k) ys
        ∙ key-usual k (node_of span (plain_kind k) ys) (node_of span k cs) (map key_under ys) (map key_under cs) parts.0 w t
        ∙ sym (key-roll span k cs)

key-under-kept : (n : Node) → KeyKept n
key-under-kept = by-parts KeyKept key-node

-- ---- the property of a member

prop-by : (span : Span) (k : Kind) (cs : List Node) → belongs sort.MemberProp k ≡ true → HaveShapes (child_shapes k (one sort.MemberProp) (length cs)) cs
    → key_under (stripped (node_of span k cs)) ≡ key_under (node_of span k cs)
unfolding plain plain_kind plain_children key_by
prop-by span (kind.IdentName text) cs b h =
    ap key_under (stripped-other span (kind.IdentName text) cs refl) ∙ key-roll span (kind.IdentName text) (map stripped cs) ∙ sym (key-roll span (kind.IdentName text) cs)
prop-by span (kind.PrivateName text) cs b h =
    ap key_under (stripped-other span (kind.PrivateName text) cs refl) ∙ key-roll span (kind.PrivateName text) (map stripped cs) ∙ sym (key-roll span (kind.PrivateName text) cs)
prop-by span kind.ComputedPropName [] b h = absurd h
prop-by span kind.ComputedPropName (e ∷ es) b h =
    ap key_under (stripped-other span kind.ComputedPropName (e ∷ es) refl)
    ∙ key-roll span kind.ComputedPropName (stripped e ∷ map stripped es)
    ∙ key-under-kept e h.0
    ∙ sym (key-roll span kind.ComputedPropName (e ∷ es))
prop-by span _ cs b h = no b

prop-kept : (n : Node) → HasShape (one sort.MemberProp) n → key_under (stripped n) ≡ key_under n
prop-kept n h =
    let parts = shape-out n (one sort.MemberProp) h in
    subst (λ z. key_under (stripped z) ≡ key_under z) (roll-out-Node n) (prop-by (out-Node n).span (out-Node n).kind (out-Node n).children parts.0 parts.1)

-- ---- known reads

read-roll : (may_change : Bool) (es : List TsEnumRecordEntry) (span : Span) (cs : List Node)
    → known_read may_change es (node_of span kind.MemberExpr cs) ≡ value_of may_change es (get_or (map name_under cs) 0 None) (get_or (map key_under cs) 1 None)
read-roll may_change es span cs =
    ap (λ k. known_by may_change es k (node_of span kind.MemberExpr cs)) (kind-roll span kind.MemberExpr cs)
    ∙ ap (λ (z : Node-F Node). value_of may_change es (get_or (map name_under z.children) 0 None) (get_or (map key_under z.children) 1 None)) (out-roll-Node (record { span = span; kind = kind.MemberExpr; children = cs }))

parts-same : (may_change : Bool) (es : List TsEnumRecordEntry) (cs : List Node) → HaveShapes (one sort.Expr ∷ one sort.MemberProp ∷ []) cs
    → value_of may_change es (get_or (map name_under (map stripped cs)) 0 None) (get_or (map key_under (map stripped cs)) 1 None) ≡ value_of may_change es (get_or (map name_under cs) 0 None) (get_or (map key_under cs) 1 None)
parts-same may_change es [] h = refl
parts-same may_change es (a ∷ []) h = absurd h.1
parts-same may_change es (a ∷ b ∷ cs) h = ap₂ (value_of may_change es) (name-under-kept a h.0) (prop-kept b h.1.0)

pub read-kept : (enums : KnownEnums) (span : Span) (cs : List Node) → HaveShapes (one sort.Expr ∷ one sort.MemberProp ∷ []) cs
    → value_read enums (node_of span kind.MemberExpr (map stripped cs)) ≡ value_read enums (node_of span kind.MemberExpr cs)
read-kept enums span cs h =
    ap (λ (o : Option TsEnumRecordValue). option_and_then expression o)
    (read-roll enums.may_change enums.members span (map stripped cs) ∙ parts-same enums.may_change enums.members cs h ∙ sym (read-roll enums.may_change enums.members span cs))
