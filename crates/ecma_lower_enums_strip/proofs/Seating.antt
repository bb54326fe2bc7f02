-- Seats ask nothing of types, nor does what stands behind an item.
use Rattle.std.proofs.Common.{◌≡◌, ◌∙◌, ◌⊎◌, inl, inr, ℕ, Bool, true, false, cond, refl, sym, ap, subst, List, [], ◌∷◌, ◌++◌, map, length, Option, Some, None, slice_get}
use Rattle.std.specs.Option.{option_map_or}
use Rattle.std.proofs.lemmas.List.{append-nil}
use Rattle.ecma_kind.specs.Sorts.{belongs, is_decl, is_expr, is_type_wrapper}
use Rattle.ecma_kind.specs.declared.ident.Ident.{Ident}
use Rattle.ecma_kind.specs.declared.kind.Kind.{Kind}
use Rattle.ecma_kind.specs.declared.kind.Kind.TheVariants as kind
use Rattle.ecma_kind.specs.declared.shapes.Shape.{Shape}
use Rattle.ecma_kind.specs.declared.shapes.Sort.TheVariants as sort
use Rattle.ecma_kind.specs.declared.span.Span.{Span}
use Rattle.ecma_tree.specs.Laws.{HaveShapes}
use Rattle.ecma_tree.specs.Nodes.{absent, dummy_span, node_of}
use Rattle.ecma_tree.specs.Sorted.{HasShape, child_shapes, is_list, maybe, one}
use Rattle.ecma_tree.specs.declared.node.Node.{Node, Node-F, out-Node}
use Rattle.ecma_tree.specs.declared.node.Node.TheViews.{out-roll-Node, roll-out-Node}
use Rattle.ecma_tree.proofs.ShapeLaws.{node_has_shape}
use Rattle.ecma_strip.specs.Stripping.{plain_children, plain_kind, staying_nodes, stripped}
use Rattle.ecma_strip_rewriting.specs.Commuting.{is_type}
use Rattle.ecma_strip_rewriting.proofs.Commuting.{by-parts, stripped-type, stripped-wrapper, wrapped-first}
use Rattle.ecma_strip_rewriting.proofs.PlainKinds.{class, no, shape-out, stripped-list, stripped-other, usual-plain}
use Rattle.ecma_rewriting.proofs.Equations.{list-kind}
use Rattle.ecma_rewriter.specs.Seats.{around_or}
use Rattle.ecma_lower_enums.specs.declared.known.KnownEnums.{KnownEnums}
use Rattle.ecma_lower_enums.specs.declared.known.Part.{Part}
use Rattle.ecma_lower_enums.specs.declared.place.Place.{Place}
use Rattle.ecma_lower_enums.specs.Known.{Id, id_of, part_at, part_by}
use Rattle.ecma_lower_enums.specs.Places.{is_item, is_raw}
use Rattle.ecma_lower_enums.specs.Seats.{Seat, around_in, declared_ids, default_ids, id_at, named, next_seat, part_ids, place_by, seat_at}
use Rattle.ecma_lower_enums.specs.Steps.{brought}
use Rattle.ecma_lower_enums_strip.proofs.Quiet.{places-same}
use Rattle.ecma_lower_enums_strip.proofs.Naming.{OfNames, idents, may-be-idents, modules, name-kept}

-- ---- the seats of children

pub part-same : (p : Place) (k : Kind) (t : Shape) (cs : List Node) → HaveShapes (child_shapes k t (length cs)) cs → part_at p (plain_kind k) (plain_children k (map stripped cs)) ≡ part_at p k cs
unfolding plain_kind plain_children
part-same p (kind.TsEnumDecl declare is_const) t cs h =
    ap (part_by p is_const) (name-kept (one sort.Ident) (child_shapes (kind.TsEnumDecl declare is_const) t (length cs)) cs idents refl h)
part-same p _ t cs h = refl

around-same : (p : Place) (name : Option Ident) (k : Kind) (t : Shape) (cs : List Node) → HaveShapes (child_shapes k t (length cs)) cs
    → around_in p name (plain_kind k) (plain_children k (map stripped cs)) ≡ around_in p name k cs
unfolding plain_kind plain_children around_in
around-same p name (kind.TsModuleDecl declare global) t cs h =
    ap (λ o. Some (named o)) (name-kept (one sort.TsModuleName) (child_shapes (kind.TsModuleDecl declare global) t (length cs)) cs modules refl h)
around-same p name (kind.TsNamespaceDecl declare global) t cs h =
    ap (λ o. Some (named o)) (name-kept (one sort.Ident) (child_shapes (kind.TsNamespaceDecl declare global) t (length cs)) cs idents refl h)
around-same p name (kind.TsEnumDecl declare is_const) t cs h =
    ap (λ o. Some (named o)) (name-kept (one sort.Ident) (child_shapes (kind.TsEnumDecl declare is_const) t (length cs)) cs idents refl h)
around-same p name _ t cs h = refl

place-same : (enums : KnownEnums) (p : Place) (k : Kind) (i : ℕ) (part : Option Part) → place_by enums p (plain_kind k) i part ≡ place_by enums p k i part
place-same enums p k i (Some part) = refl
place-same enums p k i None = places-same enums.writes p k i

pub seats : (enums : KnownEnums) (s : Seat) (t : Shape) (span : Span) (k : Kind) (cs : List Node) (i : ℕ) → HasShape t (node_of span k cs)
    → seat_at enums s (plain_kind k) (plain_children k (map stripped cs)) i ≡ seat_at enums s k cs i
seats enums s t span k cs i has =
    let have = ((node_has_shape span k cs t).0 has).1 in
    let place' = ap (place_by enums s.place (plain_kind k) i) (part-same s.place k t cs have) ∙ place-same enums s.place k i (part_at s.place k cs) in
    let around' = around-same s.place s.around.name k t cs have in
    λ j. cond (is_raw s.place) s (record { place = place' j; around = around_or s.around (around' j) })

-- ---- behind an item

brought-roll : (span : Span) (k : Kind) (cs : List Node) → brought (node_of span k cs) ≡ part_ids k cs
brought-roll span k cs = ap (λ (z : Node-F Node). part_ids z.kind z.children) (out-roll-Node (record { span = span; kind = k; children = cs }))

id-kept : (u : Shape) (shapes : List Shape) (cs : List Node) → OfNames u → slice_get shapes 0 ≡ Some u → HaveShapes shapes cs → id_at (map stripped cs) ≡ id_at cs
id-kept u shapes cs names e h = ap (λ o. option_map_or (λ name. id_of name ∷ []) o []) (name-kept u shapes cs names e h)

-- of a declaration
decl-usual : (k : Kind) → is_decl k ≡ true → (is_list k ≡ false) × (is_type k ≡ false) × (is_type_wrapper k ≡ false)
decl-usual kind.List h = no h
decl-usual kind.TsTypeAnn h = no h
decl-usual kind.TsType h = no h
decl-usual kind.TsTypeParamDecl h = no h
decl-usual kind.TsTypeParamInstantiation h = no h
decl-usual kind.TsTypeAssertion h = no h
decl-usual kind.TsConstAssertion h = no h
decl-usual kind.TsNonNullExpr h = no h
decl-usual kind.TsAsExpr h = no h
decl-usual kind.TsInstantiation h = no h
decl-usual kind.TsSatisfiesExpr h = no h
decl-usual _ h = (refl, refl, refl)

-- a node of such a kind without types
pub usual-out : (span : Span) (k : Kind) (cs : List Node) → (is_list k ≡ false) × (is_type k ≡ false) × (is_type_wrapper k ≡ false)
    → stripped (node_of span k cs) ≡ node_of span (plain_kind k) (plain_children k (map stripped cs))
usual-out span k cs h = stripped-other span k cs h.0 ∙ usual-plain span k (map stripped cs) h.1 h.2

declared-by : (k : Kind) (t : Shape) (cs : List Node) → is_decl k ≡ true → HaveShapes (child_shapes k t (length cs)) cs → declared_ids (plain_kind k) (plain_children k (map stripped cs)) ≡ declared_ids k cs
unfolding plain_kind plain_children declared_ids
declared-by (kind.FnDecl d) t cs is h = id-kept (one sort.Ident) (child_shapes (kind.FnDecl d) t (length cs)) cs idents refl h
declared-by (kind.ClassDecl d) t cs is h = id-kept (one sort.Ident) (child_shapes (kind.ClassDecl d) t (length cs)) cs idents refl h
declared-by (kind.TsEnumDecl d c) t cs is h = id-kept (one sort.Ident) (child_shapes (kind.TsEnumDecl d c) t (length cs)) cs idents refl h
declared-by (kind.TsModuleDecl d g) t cs is h = id-kept (one sort.TsModuleName) (child_shapes (kind.TsModuleDecl d g) t (length cs)) cs modules refl h
declared-by (kind.VarDecl w d) t cs is h = refl
declared-by (kind.TsInterfaceDecl d) t cs is h = refl
declared-by (kind.TsTypeAliasDecl d) t cs is h = refl
declared-by _ t cs is h = no is

default-usual : (k : Kind) → belongs sort.DefaultDecl k ≡ true → (is_list k ≡ false) × (is_type k ≡ false) × (is_type_wrapper k ≡ false)
default-usual kind.ClassExpr h = (refl, refl, refl)
default-usual kind.FnExpr h = (refl, refl, refl)
default-usual (kind.TsInterfaceDecl d) h = (refl, refl, refl)
default-usual _ h = no h

default-by : (k : Kind) (t : Shape) (cs : List Node) → belongs sort.DefaultDecl k ≡ true → HaveShapes (child_shapes k t (length cs)) cs
    → default_ids (plain_kind k) (plain_children k (map stripped cs)) ≡ default_ids k cs
unfolding plain_kind plain_children default_ids
default-by kind.FnExpr t cs is h = id-kept (maybe sort.Ident) (child_shapes kind.FnExpr t (length cs)) cs may-be-idents refl h
default-by kind.ClassExpr t cs is h = id-kept (maybe sort.Ident) (child_shapes kind.ClassExpr t (length cs)) cs may-be-idents refl h
default-by (kind.TsInterfaceDecl d) t cs is h = refl
default-by _ t cs is h = no is

abbrev ids_of : (Kind → List Node → List Id) → Node → List Id
ids_of ids n = ids (out-Node n).kind (out-Node n).children

ids-roll : (ids : Kind → List Node → List Id) (span : Span) (k : Kind) (cs : List Node) → ids_of ids (node_of span k cs) ≡ ids k cs
ids-roll ids span k cs = ap (λ (z : Node-F Node). ids z.kind z.children) (out-roll-Node (record { span = span; kind = k; children = cs }))

-- of the node itself, by its kind
ids-out : (ids : Kind → List Node → List Id) (n : Node) → let k = (out-Node n).kind in (is_list k ≡ false) × (is_type k ≡ false) × (is_type_wrapper k ≡ false)
    → ids (plain_kind k) (plain_children k (map stripped (out-Node n).children)) ≡ ids k (out-Node n).children → ids_of ids (stripped n) ≡ ids_of ids n
ids-out ids n usual same =
    let k = (out-Node n).kind in
    ap (λ z. ids_of ids (stripped z)) (sym (roll-out-Node n))
    ∙ ap (ids_of ids) (usual-out (out-Node n).span k (out-Node n).children usual)
    ∙ ids-roll ids (out-Node n).span (plain_kind k) (plain_children k (map stripped (out-Node n).children))
    ∙ same

declared-kept : (n : Node) → HasShape (one sort.Decl) n → ids_of declared_ids (stripped n) ≡ ids_of declared_ids n
declared-kept n h =
    let parts = shape-out n (one sort.Decl) h in
    ids-out declared_ids n (decl-usual (out-Node n).kind parts.0) (declared-by (out-Node n).kind (one sort.Decl) (out-Node n).children parts.0 parts.1)

default-kept : (n : Node) → HasShape (one sort.DefaultDecl) n → ids_of default_ids (stripped n) ≡ ids_of default_ids n
default-kept n h =
    let parts = shape-out n (one sort.DefaultDecl) h in
    ids-out default_ids n (default-usual (out-Node n).kind parts.0) (default-by (out-Node n).kind (one sort.DefaultDecl) (out-Node n).children parts.0 parts.1)

part-by : (k : Kind) (t : Shape) (cs : List Node) → HaveShapes (child_shapes k t (length cs)) cs → is_list k ≡ false → part_ids (plain_kind k) (plain_children k (map stripped cs)) ≡ part_ids k cs
unfolding plain_kind plain_children part_ids declared_ids
part-by (kind.FnDecl d) t cs h l = id-kept (one sort.Ident) (child_shapes (kind.FnDecl d) t (length cs)) cs idents refl h
part-by (kind.ClassDecl d) t cs h l = id-kept (one sort.Ident) (child_shapes (kind.ClassDecl d) t (length cs)) cs idents refl h
part-by (kind.TsEnumDecl d c) t cs h l = id-kept (one sort.Ident) (child_shapes (kind.TsEnumDecl d c) t (length cs)) cs idents refl h
part-by (kind.TsModuleDecl d g) t cs h l = id-kept (one sort.TsModuleName) (child_shapes (kind.TsModuleDecl d g) t (length cs)) cs modules refl h
part-by kind.ExportDecl t [] h l = refl
part-by kind.ExportDecl t (c ∷ cs) h l = declared-kept c h.0
part-by kind.ExportDefaultDecl t [] h l = refl
part-by kind.ExportDefaultDecl t (c ∷ cs) h l = default-kept c h.0
part-by kind.List t cs h l = no (sym l)
part-by _ t cs h l = refl

-- a type and an expression bring nothing
type-brings : (k : Kind) (cs : List Node) → is_type k ≡ true → part_ids k cs ≡ []
unfolding part_ids declared_ids
type-brings kind.TsTypeAnn cs h = refl
type-brings kind.TsType cs h = refl
type-brings kind.TsTypeParamDecl cs h = refl
type-brings kind.TsTypeParamInstantiation cs h = refl
type-brings _ cs h = no h

wrapper-brings : (k : Kind) (cs : List Node) → is_type_wrapper k ≡ true → part_ids k cs ≡ []
unfolding part_ids declared_ids
wrapper-brings kind.TsTypeAssertion cs h = refl
wrapper-brings kind.TsConstAssertion cs h = refl
wrapper-brings kind.TsNonNullExpr cs h = refl
wrapper-brings kind.TsAsExpr cs h = refl
wrapper-brings kind.TsInstantiation cs h = refl
wrapper-brings kind.TsSatisfiesExpr cs h = refl
wrapper-brings _ cs h = no h

expr-brings : (k : Kind) (cs : List Node) → is_expr k ≡ true → part_ids (plain_kind k) cs ≡ []
unfolding plain_kind part_ids declared_ids
expr-brings (kind.FnDecl d) cs h = no h
expr-brings (kind.ClassDecl d) cs h = no h
expr-brings (kind.TsEnumDecl d c) cs h = no h
expr-brings (kind.TsModuleDecl d g) cs h = no h
expr-brings kind.ExportDecl cs h = no h
expr-brings kind.ExportDefaultDecl cs h = no h
expr-brings _ cs h = refl

pub expr-list : (k : Kind) → is_expr k ≡ true → (is_list k ≡ false) × (is_type k ≡ false)
expr-list kind.List h = no h
expr-list kind.TsTypeAnn h = no h
expr-list kind.TsType h = no h
expr-list kind.TsTypeParamDecl h = no h
expr-list kind.TsTypeParamInstantiation h = no h
expr-list _ h = (refl, refl)

abbrev BringsNothing : Node → Type 0
BringsNothing n = HasShape (one sort.Expr) n → brought (stripped n) ≡ []

expr-node : (span : Span) (k : Kind) (cs : List Node) → ((i : ℕ) (c : Node) → slice_get cs i ≡ Some c → BringsNothing c) → BringsNothing (node_of span k cs)
expr-node span k cs each has = by (is_type_wrapper k) refl
  where
    parts : (is_expr k ≡ true) × HaveShapes (child_shapes k (one sort.Expr) (length cs)) cs
    parts = (node_has_shape span k cs (one sort.Expr)).0 has

    by : (b : Bool) → is_type_wrapper k ≡ b → brought (stripped (node_of span k cs)) ≡ []
    by true w =
        let front = wrapped-first span k cs (one sort.Expr) w parts.1 in
        ap (λ z. brought (stripped (node_of span k z))) front.2
        ∙ ap brought (stripped-wrapper span k front.0 front.1 (one sort.Expr) w)
        ∙ each 0 front.0 (ap (λ (z : List Node). slice_get z 0) front.2) front.3
    by false w =
        let usual = expr-list k parts.0 in
        ap brought (usual-out span k cs (usual.0, usual.1, w)) ∙ brought-roll span (plain_kind k) (plain_children k (map stripped cs)) ∙ expr-brings k (plain_children k (map stripped cs)) parts.0

expr-nothing : (n : Node) → BringsNothing n
expr-nothing = by-parts BringsNothing expr-node

absent-brings : brought absent ≡ []
unfolding part_ids declared_ids
absent-brings = brought-roll dummy_span kind.Absent []

list-brings : (span : Span) (cs : List Node) → brought (node_of span kind.List cs) ≡ []
unfolding part_ids declared_ids
list-brings span cs = brought-roll span kind.List cs

abbrev Class : Kind → Type 0
Class k = (is_list k ≡ true) ⊎ ((is_type k ≡ true) ⊎ ((is_type_wrapper k ≡ true) ⊎ ((is_list k ≡ false) × (is_type k ≡ false) × (is_type_wrapper k ≡ false))))

brought-by : (span : Span) (k : Kind) (cs : List Node) (t : Shape) → HasShape t (node_of span k cs) → Class k → brought (stripped (node_of span k cs)) ≡ part_ids k cs
brought-by span k cs t has (inl l) =
    subst (λ z. brought (stripped (node_of span z cs)) ≡ part_ids z cs) (sym (list-kind k l))
    (ap brought (stripped-list span cs) ∙ list-brings span (map stripped (staying_nodes kind.List cs)) ∙ sym (sym (brought-roll span kind.List cs) ∙ list-brings span cs))
brought-by span k cs t has (inr (inl y)) = ap brought (stripped-type span k cs y) ∙ absent-brings ∙ sym (type-brings k cs y)
brought-by span k cs t has (inr (inr (inl w))) =
    let front = wrapped-first span k cs t w ((node_has_shape span k cs t).0 has).1 in
    ap (λ z. brought (stripped (node_of span k z))) front.2
    ∙ ap brought (stripped-wrapper span k front.0 front.1 t w)
    ∙ expr-nothing front.0 front.3
    ∙ sym (wrapper-brings k cs w)
brought-by span k cs t has (inr (inr (inr usual))) =
    ap brought (usual-out span k cs usual) ∙ brought-roll span (plain_kind k) (plain_children k (map stripped cs)) ∙ part-by k t cs ((node_has_shape span k cs t).0 has).1 usual.0

pub brought-kept : (n : Node) (t : Shape) → HasShape t n → brought (stripped n) ≡ brought n
brought-kept n t has =
    ap (λ z. brought (stripped z)) (sym (roll-out-Node n))
    ∙ brought-by (out-Node n).span (out-Node n).kind (out-Node n).children t (subst (HasShape t) (sym (roll-out-Node n)) has) (class (out-Node n).kind)

abbrev pub behind_by : Seat → List Id → Seat
behind_by s ids = cond (is_item s.place) (record { place = s.place; around = record { name = s.around.name; before = s.around.before ++ ids } }) s

pub next : (s : Seat) (t : Shape) (n : Node) → HasShape t n → next_seat s (stripped n) ≡ next_seat s n
next s t n has = ap (behind_by s) (brought-kept n t has)

pub next-empty : (s : Seat) (span : Span) (cs : List Node) → next_seat s (node_of span kind.EmptyStmt cs) ≡ s
unfolding part_ids declared_ids
next-empty s span cs =
    ap (behind_by s) (brought-roll span kind.EmptyStmt cs)
    ∙ ap (λ before. cond (is_item s.place) (record { place = s.place; around = record { name = s.around.name; before = before } }) s) (append-nil s.around.before)
    ∙ by (is_item s.place)
  where
    by : (b : Bool) → cond b s s ≡ s
    by true = refl
    by false = refl
