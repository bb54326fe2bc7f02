-- What stays in a list stays there without its types, where no namespace is left without values.
use Rattle.std.proofs.Common.{◌≡◌, ◌∙◌, ℕ, zero, suc, Bool, true, false, ◌&&◌, not, cond, refl, sym, ap, ap₂, subst, List, [], ◌∷◌, map, length, get_or, Some, slice_get}
use Rattle.std.specs.List.{list_all}
use Rattle.ecma_kind.specs.Sorts.{belongs}
use Rattle.ecma_kind.specs.declared.kind.Kind.{Kind}
use Rattle.ecma_kind.specs.declared.kind.Kind.TheVariants as kind
use Rattle.ecma_kind.specs.declared.span.Span.{Span}
use Rattle.ecma_kind.specs.declared.shapes.Shape.{Shape}
use Rattle.ecma_kind.specs.declared.shapes.Sort.TheVariants as sort
use Rattle.ecma_tree.specs.Nodes.{node_of}
use Rattle.ecma_tree.specs.Sorted.{all_have_shapes, allows, child_shapes, maybe, one}
use Rattle.ecma_tree.specs.declared.node.Node.{Node, Node-F, fold_out-Node, out-Node, roll-Node}
use Rattle.ecma_tree.specs.declared.node.Node.TheViews.{out-roll-Node}
use Rattle.ecma_strip.specs.Laws.{has_shape_under_types, shape_under_types_by}
use Rattle.ecma_strip.specs.Staying.{if_there, is_declared, is_empty_stmt, is_export, is_this_param, item_stays, member_stays, member_stays_by, specifier_stays, stays}
use Rattle.ecma_strip.specs.Stripping.{plain, plain_children, plain_kind, staying_nodes, stripped}
use Rattle.ecma_strip.proofs.Sorting.{allows-under, both}
use Rattle.ecma_strip.proofs.Stripping.{stripped-out}
use Rattle.ecma_strip_idempotent.specs.Lasting.{holds_everywhere, lasts, lasts_by}
use Rattle.ecma_strip_idempotent.proofs.Steady.{no}
use Rattle.ecma_tree.proofs.Layers.{from_leaves-roll}
use Rattle.ecma_tree.specs.Values.{is_value, is_value_where, value_by, values_in}
use Rattle.ecma_tree.proofs.Valuing.{is_value-out, is_value-roll, is_value_where-out, is_value_where-roll, value_everywhere, value_where_by}

abbrev pub Lasts : Node → Type 0
Lasts n = holds_everywhere lasts n ≡ true

abbrev pub AllLast : List Node → Type 0
AllLast ns = list_all (λ b. b) (map (holds_everywhere lasts) ns) ≡ true

pub lasting : (span : Span) (k : Kind) (cs : List Node) → Lasts (node_of span k cs) → (lasts_by k cs ≡ true) × AllLast cs
lasting span k cs h =
    let parts : Node-F Node = record { span = span; kind = k; children = cs } in
    let all = both (lasts (roll-Node parts)) (list_all (λ b. b) (map (holds_everywhere lasts) cs)) (sym (from_leaves-roll Bool (λ node held. lasts node && list_all (λ b. b) held) parts) ∙ h) in
    (sym (ap (λ (z : Node-F Node). lasts_by z.kind z.children) (out-roll-Node parts)) ∙ all.0, all.1)

-- ---- values

abbrev ValueStays : Shape → Type 0
ValueStays s = (stays : Bool) (x : Node) → has_shape_under_types x s ≡ true → Lasts (stripped x) → is_value_where stays x ≡ true → is_value_where stays (stripped x) ≡ true

some-same : {X : Type 0} (a b : X) → Some a ≡ Some b → a ≡ b
some-same a b e = cc

at-value : (stays : Bool) (i : ℕ) (s : Shape) (shapes : List Shape) (cs : List Node) → slice_get shapes i ≡ Some s → ValueStays s → all_have_shapes shapes (map has_shape_under_types cs) ≡ true
    → AllLast (map stripped cs) → get_or (map (is_value_where stays) cs) i false ≡ true → get_or (map (is_value_where stays) (map stripped cs)) i false ≡ true
at-value stays i s shapes [] at v h l g = absurd (no g)
at-value stays i s [] (c ∷ cs) at v h l g = absurd (no h)
at-value stays zero s (t ∷ ts) (c ∷ cs) at v h l g =
    let have = both (has_shape_under_types c t) (all_have_shapes ts (map has_shape_under_types cs)) h in
    let last = both (holds_everywhere lasts (stripped c)) (list_all (λ b. b) (map (holds_everywhere lasts) (map stripped cs))) l in
    v stays c (subst (λ z. has_shape_under_types c z ≡ true) (some-same t s at) have.0) last.0 g
at-value stays (suc i) s (t ∷ ts) (c ∷ cs) at v h l g =
    let have = both (has_shape_under_types c t) (all_have_shapes ts (map has_shape_under_types cs)) h in
    let last = both (holds_everywhere lasts (stripped c)) (list_all (λ b. b) (map (holds_everywhere lasts) (map stripped cs))) l in
    at-value stays i s ts cs at v have.1 last.1 g

abbrev pub shaped : Span → Kind → List Node → Node-F (Shape → Bool)
shaped span k cs = record { span = span; kind = k; children = map has_shape_under_types cs }

pub shape-out : (x : Node) (s : Shape) → has_shape_under_types x s ≡ true → shape_under_types_by (shaped (out-Node x).span (out-Node x).kind (out-Node x).children) s ≡ true
shape-out x s h = sym (ap (λ f. f s) (fold_out-Node (Shape → Bool) shape_under_types_by x)) ∙ h

-- the shapes that the children have
abbrev pub asked : Kind → List Node → Shape → List Shape
asked k cs s = child_shapes k s (length (map has_shape_under_types cs))

pub below : (k : Kind) (cs : List Node) (s : Shape) → (allows s k && all_have_shapes (asked k cs s) (map has_shape_under_types cs)) ≡ true → all_have_shapes (asked k cs s) (map has_shape_under_types cs) ≡ true
below k cs s h = (both (allows s k) (all_have_shapes (asked k cs s) (map has_shape_under_types cs)) h).1

abbrev ValueStaysBy : Shape → Type 0
ValueStaysBy s = (stays : Bool) (span : Span) (k : Kind) (cs : List Node) → allows s k ≡ true → shape_under_types_by (shaped span k cs) s ≡ true
    → Lasts (plain span k (map stripped (staying_nodes k cs))) → value_where_by stays k cs ≡ true → is_value_where stays (plain span k (map stripped (staying_nodes k cs))) ≡ true

value-stays : (s : Shape) → ValueStaysBy s → ValueStays s
value-stays s each stays x h l v =
    subst (λ z. is_value_where stays z ≡ true) (sym (stripped-out x))
    (each stays (out-Node x).span (out-Node x).kind (out-Node x).children (allows-under x s h) (shape-out x s h) (subst Lasts (stripped-out x) l) (sym (is_value_where-out stays x) ∙ v))

rolled : (stays : Bool) (span : Span) (k : Kind) (cs : List Node) → value_where_by stays k cs ≡ true → is_value_where stays (node_of span k cs) ≡ true
rolled stays span k cs v = is_value_where-roll stays span k cs ∙ v

body-by : ValueStaysBy (maybe sort.BlockStmt)
unfolding plain plain_kind plain_children value_by
body-by stays span kind.Absent cs a h l v = absurd (no v)
body-by stays span kind.BlockStmt cs a h l v = rolled stays span kind.BlockStmt (plain_children kind.BlockStmt (map stripped cs)) refl
body-by stays span _ cs a h l v = absurd (no a)

pub body-value : ValueStays (maybe sort.BlockStmt)
body-value = value-stays (maybe sort.BlockStmt) body-by

function-by : ValueStaysBy (one sort.Function)
unfolding plain plain_kind plain_children value_by
function-by false span (kind.Function g y) cs a h l v = rolled false span (kind.Function g y) (map stripped cs) refl
function-by true span (kind.Function g y) cs a h l v =
    rolled true span (kind.Function g y) (map stripped cs)
    (at-value true 1 (maybe sort.BlockStmt) (asked (kind.Function g y) cs (one sort.Function)) cs refl body-value (below (kind.Function g y) cs (one sort.Function) h) (lasting span (kind.Function g y) (map stripped cs) l).1 v)
function-by stays span _ cs a h l v = absurd (no a)

pub function-value : ValueStays (one sort.Function)
function-value = value-stays (one sort.Function) function-by

declaration-by : ValueStaysBy (one sort.Decl)
unfolding plain plain_kind plain_children value_by lasts_by
declaration-by stays span (kind.ClassDecl d) cs a h l v = rolled stays span (kind.ClassDecl d) (map stripped cs) refl
declaration-by stays span (kind.VarDecl w d) cs a h l v = rolled stays span (kind.VarDecl w d) (map stripped cs) refl
declaration-by stays span (kind.TsEnumDecl d c) cs a h l v = rolled stays span (kind.TsEnumDecl d c) (map stripped cs) refl
declaration-by stays span (kind.FnDecl d) cs a h l v =
    rolled stays span (kind.FnDecl d) (map stripped cs)
    (at-value (not d && stays) 1 (one sort.Function) (asked (kind.FnDecl d) cs (one sort.Decl)) cs refl function-value (below (kind.FnDecl d) cs (one sort.Decl) h) (lasting span (kind.FnDecl d) (map stripped cs) l).1 v)
declaration-by stays span (kind.TsModuleDecl d g) cs a h l v =
    value_everywhere stays (node_of span (kind.TsModuleDecl d g) (map stripped cs)) (is_value-roll span (kind.TsModuleDecl d g) (map stripped cs) ∙ (lasting span (kind.TsModuleDecl d g) (map stripped cs) l).0)
declaration-by stays span (kind.TsInterfaceDecl d) cs a h l v = absurd (no v)
declaration-by stays span (kind.TsTypeAliasDecl d) cs a h l v = absurd (no v)
declaration-by stays span _ cs a h l v = absurd (no a)

declaration-value : ValueStays (one sort.Decl)
declaration-value = value-stays (one sort.Decl) declaration-by

default-by : ValueStaysBy (one sort.DefaultDecl)
unfolding plain plain_kind plain_children value_by
default-by stays span kind.ClassExpr cs a h l v = rolled stays span kind.ClassExpr (map stripped cs) refl
default-by stays span kind.FnExpr cs a h l v =
    rolled stays span kind.FnExpr (map stripped cs)
    (at-value stays 1 (one sort.Function) (asked kind.FnExpr cs (one sort.DefaultDecl)) cs refl function-value (below kind.FnExpr cs (one sort.DefaultDecl) h) (lasting span kind.FnExpr (map stripped cs) l).1 v)
default-by stays span (kind.TsInterfaceDecl d) cs a h l v = absurd (no v)
default-by stays span _ cs a h l v = absurd (no a)

default-value : ValueStays (one sort.DefaultDecl)
default-value = value-stays (one sort.DefaultDecl) default-by

-- ---- `declare`

same-declare : (span : Span) (k : Kind) (cs : List Node) → is_declared (out-Node (node_of span k cs)).kind ≡ is_declared k
same-declare span k cs = ap (λ (z : Node-F Node). is_declared z.kind) (out-roll-Node (record { span = span; kind = k; children = cs }))

declared-by : (span : Span) (k : Kind) (cs : List Node) → belongs sort.Decl k ≡ true → is_declared (out-Node (plain span k cs)).kind ≡ is_declared k
unfolding plain plain_kind plain_children
declared-by span (kind.ClassDecl d) cs a = same-declare span (kind.ClassDecl d) cs
declared-by span (kind.VarDecl w d) cs a = same-declare span (kind.VarDecl w d) cs
declared-by span (kind.TsEnumDecl d c) cs a = same-declare span (kind.TsEnumDecl d c) cs
declared-by span (kind.FnDecl d) cs a = same-declare span (kind.FnDecl d) cs
declared-by span (kind.TsModuleDecl d g) cs a = same-declare span (kind.TsModuleDecl d g) cs
declared-by span (kind.TsInterfaceDecl d) cs a = same-declare span (kind.TsInterfaceDecl d) cs
declared-by span (kind.TsTypeAliasDecl d) cs a = same-declare span (kind.TsTypeAliasDecl d) cs
declared-by span _ cs a = absurd (no a)

abbrev declares : List Node → Bool
declares cs = if_there (slice_get cs 0) (λ x. is_declared (out-Node x).kind)

declared-same : (cs : List Node) → all_have_shapes (one sort.Decl ∷ []) (map has_shape_under_types cs) ≡ true → declares (map stripped cs) ≡ declares cs
declared-same [] h = refl
declared-same (d ∷ ds) h =
    ap (λ z. is_declared (out-Node z).kind) (stripped-out d)
    ∙ declared-by (out-Node d).span (out-Node d).kind (map stripped (staying_nodes (out-Node d).kind (out-Node d).children))
    (allows-under d (one sort.Decl) (both (has_shape_under_types d (one sort.Decl)) (all_have_shapes [] (map has_shape_under_types ds)) h).0)

-- ---- what stays, by its parts

abbrev member_by : Kind → List Node → Bool
member_by (kind.TsIndexSignature readonly is_static) cs = false
member_by (kind.Constructor accessibility is_optional) cs = get_or (map is_value cs) 2 false
member_by (kind.ClassMethod k modifiers) cs = not modifiers.is_abstract && get_or (map is_value cs) 1 false
member_by (kind.PrivateMethod k modifiers) cs = not modifiers.is_abstract && get_or (map is_value cs) 1 false
member_by (kind.ClassProp modifiers readonly declare definite) cs = not modifiers.is_abstract && not declare
member_by (kind.PrivateProp modifiers readonly declare definite) cs = not modifiers.is_abstract && not declare
member_by _ cs = true

member-parts : (k : Kind) (n : Node) → member_stays_by k n ≡ member_by k (out-Node n).children
unfolding member_stays_by
member-parts (kind.TsIndexSignature r t) n = refl
member-parts _ n = refl

abbrev item_by : Kind → List Node → Bool
item_by k cs = cond (is_empty_stmt k) true (cond (belongs sort.ModuleItem k) (value_by k (values_in true k cs) && not (cond (is_export k) (declares cs) (is_declared k))) true)

abbrev pub All3 : Kind → List Node → Type 0
All3 k cs = (item_by k cs ≡ true) × (member_by k cs ≡ true) × (specifier_stays k ≡ true)

item-parts : (n : Node) → item_stays n ≡ item_by (out-Node n).kind (out-Node n).children
item-parts n =
    ap (λ v. cond (is_empty_stmt (out-Node n).kind) true (cond (belongs sort.ModuleItem (out-Node n).kind) (v && not (cond (is_export (out-Node n).kind) (declares (out-Node n).children) (is_declared (out-Node n).kind))) true))
    (is_value-out n)

pub stays-parts : (n : Node) → stays n ≡ true → All3 (out-Node n).kind (out-Node n).children
unfolding stays
stays-parts n h =
    let first = both ((item_stays n && member_stays n) && specifier_stays (out-Node n).kind) (not (is_this_param n)) h in
    let second = both (item_stays n && member_stays n) (specifier_stays (out-Node n).kind) first.0 in
    let third = both (item_stays n) (member_stays n) second.0 in
    (sym (item-parts n) ∙ third.0, sym (member-parts (out-Node n).kind n) ∙ third.1, second.1)

parts-stay : (n : Node) → All3 (out-Node n).kind (out-Node n).children → is_this_param n ≡ false → stays n ≡ true
unfolding stays
parts-stay n h t =
    let item = item-parts n ∙ h.0 in
    let member = member-parts (out-Node n).kind n ∙ h.1 in
    let specifier = h.2 in
    λ j. ((item j && member j) && specifier j) && not (t j)

pub parts-rolled : (span : Span) (k : Kind) (cs : List Node) → All3 k cs → is_this_param (node_of span k cs) ≡ false → stays (node_of span k cs) ≡ true
parts-rolled span k cs h t =
    let parts : Node-F Node = record { span = span; kind = k; children = cs } in
    parts-stay (node_of span k cs) (subst (λ (z : Node-F Node). All3 z.kind z.children) (sym (out-roll-Node parts)) h) t

same-bool : (a b c : Bool) → (a && c) ≡ true → b ≡ true → (b && c) ≡ true
same-bool a b c h e = ap (λ z. z && c) e ∙ (both a c h).1

-- what goes from no list but for `this`, by its kind: with its types looked through it is an expression
pub again-by : (span : Span) (k : Kind) (cs : List Node) (s : Shape) → shape_under_types_by (shaped span k cs) s ≡ true → All3 k cs
    → Lasts (node_of span (plain_kind k) (plain_children k (map stripped cs))) → All3 (plain_kind k) (plain_children k (map stripped cs))
unfolding plain_kind plain_children value_by is_declared specifier_stays lasts_by
again-by span (kind.ImportDecl t) cs s h st l = st
again-by span (kind.NamedExport t) cs s h st l = st
again-by span (kind.ExportAll t) cs s h st l = st
again-by span (kind.TsImportEqualsDecl e t) cs s h st l = st
again-by span (kind.TsInterfaceDecl d) cs s h st l = absurd (no st.0)
again-by span (kind.TsTypeAliasDecl d) cs s h st l = absurd (no st.0)
again-by span kind.TsNamespaceExportDecl cs s h st l = absurd (no st.0)
again-by span (kind.ClassDecl d) cs s h st l = st
again-by span (kind.VarDecl w d) cs s h st l = st
again-by span (kind.TsEnumDecl d c) cs s h st l = st
again-by span (kind.FnDecl d) cs s h st l =
    let parts = both (get_or (map (is_value_where (not d && true)) cs) 1 false) (not d) st.0 in
    let value = at-value (not d && true) 1 (one sort.Function) (asked (kind.FnDecl d) cs s) cs refl function-value (below (kind.FnDecl d) cs s h) (lasting span (kind.FnDecl d) (map stripped cs) l).1 parts.0 in
    (same-bool (get_or (map (is_value_where (not d && true)) cs) 1 false) (get_or (map (is_value_where (not d && true)) (map stripped cs)) 1 false) (not d) st.0 value, refl, refl)
again-by span (kind.TsModuleDecl d g) cs s h st l =
    (same-bool (get_or (map (is_value_where (not d && true)) cs) 1 false) (get_or (map (is_value_where (not d && true)) (map stripped cs)) 1 false) (not d) st.0 (lasting span (kind.TsModuleDecl d g) (map stripped cs) l).0, refl, refl)
again-by span kind.ExportDecl cs s h st l =
    let have = below kind.ExportDecl cs s h in
    let parts = both (get_or (map is_value cs) 0 false) (not (declares cs)) st.0 in
    let value = at-value true 0 (one sort.Decl) (asked kind.ExportDecl cs s) cs refl declaration-value have (lasting span kind.ExportDecl (map stripped cs) l).1 parts.0 in
    (ap₂ (λ a b. a && not b) value (declared-same cs have) ∙ parts.1, refl, refl)
again-by span kind.ExportDefaultDecl cs s h st l =
    let parts = both (get_or (map is_value cs) 0 false) true st.0 in
    let value = at-value true 0 (one sort.DefaultDecl) (asked kind.ExportDefaultDecl cs s) cs refl default-value (below kind.ExportDefaultDecl cs s h) (lasting span kind.ExportDefaultDecl (map stripped cs) l).1 parts.0 in
    (same-bool (get_or (map is_value cs) 0 false) (get_or (map is_value (map stripped cs)) 0 false) true st.0 value, refl, refl)
again-by span (kind.TsIndexSignature r t) cs s h st l = absurd (no st.1)
again-by span (kind.Constructor a o) cs s h st l =
    (refl, at-value true 2 (maybe sort.BlockStmt) (asked (kind.Constructor a o) cs s) cs refl body-value (below (kind.Constructor a o) cs s h) (lasting span (plain_kind (kind.Constructor a o)) (map stripped cs) l).1 st.1, refl)
again-by span (kind.ClassMethod k m) cs s h st l =
    let parts = both (not m.is_abstract) (get_or (map is_value cs) 1 false) st.1 in
    (refl, at-value true 1 (one sort.Function) (asked (kind.ClassMethod k m) cs s) cs refl function-value (below (kind.ClassMethod k m) cs s h) (lasting span (plain_kind (kind.ClassMethod k m)) (map stripped cs) l).1 parts.1, refl)
again-by span (kind.PrivateMethod k m) cs s h st l =
    let parts = both (not m.is_abstract) (get_or (map is_value cs) 1 false) st.1 in
    (refl, at-value true 1 (one sort.Function) (asked (kind.PrivateMethod k m) cs s) cs refl function-value (below (kind.PrivateMethod k m) cs s h) (lasting span (plain_kind (kind.PrivateMethod k m)) (map stripped cs) l).1 parts.1, refl)
again-by span (kind.ImportNamedSpecifier t) cs s h st l = st
again-by span (kind.ExportNamedSpecifier t) cs s h st l = st
again-by span kind.TsType cs s h st l = absurd (no st.2)
again-by span _ cs s h st l = (refl, refl, refl)
