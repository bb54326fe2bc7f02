-- What is no value is a type alone, as runs have it.
use Rattle.std.proofs.Common.{◌≡◌, refl, sym, ap, ◌∙◌, subst, List, [], ◌∷◌, map, Bool, true, false, ◌&&◌, ◌||◌, not, cond, length, replicate}
use Rattle.std.specs.List.{list_any}
use Rattle.ecma_kind.specs.Sorts.{belongs}
use Rattle.ecma_kind.specs.declared.kind.Kind.{Kind}
use Rattle.ecma_kind.specs.declared.kind.Kind.TheVariants as kind
use Rattle.ecma_kind.specs.declared.shapes.Count.{Count}
use Rattle.ecma_kind.specs.declared.shapes.Count.TheVariants.{One, Maybe, Many, MaybeMany, Holes}
use Rattle.ecma_kind.specs.declared.shapes.Shape.{Shape}
use Rattle.ecma_kind.specs.declared.shapes.Sort.{Sort}
use Rattle.ecma_kind.specs.declared.shapes.Sort.TheVariants as sort
use Rattle.ecma_tree.specs.declared.node.Node.{Node, ind-Node, out-Node}
use Rattle.ecma_tree.specs.declared.node.Node.TheViews.{out-roll-Node, roll-out-Node}
use Rattle.ecma_tree.specs.Laws.{HaveShapes}
use Rattle.ecma_tree.specs.Nodes.{node_of}
use Rattle.ecma_tree.specs.Sorted.{HasShape, allows, allows_by, child_shapes, item_shape, is_absent, one, maybe, many}
use Rattle.ecma_tree.proofs.ShapeLaws.{node_has_shape}
use Rattle.ecma_tree.specs.Values.{is_value, value_by, values_in}
use Rattle.ecma_tree.proofs.Valuing.{is_value-out, valueless_everywhere}
use Rattle.ecma_runs.specs.Meaning.{Meaning}
use Rattle.ecma_runs.specs.Declarations.{all_types, is_type_of, has_no_effect}
use Rattle.ecma_runs.specs.Evaluation.{role_by, no_effect, meaning_by, meaning}
use Rattle.ecma_runs.proofs.Layer.{meaning_out}

-- the shape of a node, by its parts
pub shape_out : (shape : Shape) (n : Node) → HasShape shape n
    → (allows shape (out-Node n).kind ≡ true) × HaveShapes (child_shapes (out-Node n).kind shape (length (out-Node n).children)) (out-Node n).children
shape_out shape n h = (node_has_shape (out-Node n).span (out-Node n).kind (out-Node n).children shape).0 (subst (HasShape shape) (sym (roll-out-Node n)) h)

-- a body that is no value is missing
pub body_absent : (b : Node) → HasShape (maybe sort.BlockStmt) b → is_value b ≡ false → (meaning b).is_absent ≡ true
unfolding value_by
body_absent b h v =
    ap (λ m. m.is_absent) (meaning_out b)
    ∙ go (out-Node b).kind (values_in true (out-Node b).kind (out-Node b).children) (map meaning (out-Node b).children) (shape_out (maybe sort.BlockStmt) b h).0 (sym (is_value-out b) ∙ v)
  where
    go : (k : Kind) (vs : List Bool) (ms : List Meaning) → allows (maybe sort.BlockStmt) k ≡ true → value_by k vs ≡ false → (meaning_by b k ms).is_absent ≡ true
    go kind.Absent vs ms a w = refl
    go kind.BlockStmt vs ms a w = absurd (cc)
    go _ vs ms a w = absurd (cc)

-- a function that is no value has no body
pub function_bodiless : (f : Node) → HasShape (one sort.Function) f → is_value f ≡ false → (meaning f).has_body ≡ false
unfolding value_by
function_bodiless f h v =
    ap (λ m. m.has_body) (meaning_out f)
    ∙ (let s = shape_out (one sort.Function) f h in go (out-Node f).kind (out-Node f).children s.0 s.1 (sym (is_value-out f) ∙ v))
  where
    go : (k : Kind) (cs : List Node) → allows (one sort.Function) k ≡ true → HaveShapes (child_shapes k (one sort.Function) (length cs)) cs → value_by k (values_in true k cs) ≡ false → (meaning_by f k (map meaning cs)).has_body ≡ false
    go (kind.Function is_generator is_async) (parameters ∷ body ∷ types ∷ result ∷ []) a s w = rw (body_absent body s.1.0 w) refl
    go (kind.Function is_generator is_async) [] a s w = absurd s
    go (kind.Function is_generator is_async) (p ∷ []) a s w = absurd s.1
    go (kind.Function is_generator is_async) (p ∷ q ∷ []) a s w = absurd s.1.1
    go (kind.Function is_generator is_async) (p ∷ q ∷ r ∷ []) a s w = absurd s.1.1.1
    go (kind.Function is_generator is_async) (p ∷ q ∷ r ∷ t ∷ u ∷ others) a s w = absurd s.1.1.1.1
    go _ cs a s w = absurd (cc)

-- the sorts of items, and of what they are made of
abbrev pub is_item : Sort → Bool
is_item sort.ModuleItem = true
is_item sort.ModuleDecl = true
is_item sort.Stmt = true
is_item sort.Decl = true
is_item sort.DefaultDecl = true
is_item sort.TsNamespaceBody = true
is_item _ = false

abbrev pub is_item_shape : Count → Sort → Bool
is_item_shape One σ = is_item σ
is_item_shape Maybe σ = is_item σ
is_item_shape Many σ = is_item σ
is_item_shape _ σ = false

abbrev pub Valueless : Node → Type 0
Valueless n = (shape : Shape) → HasShape shape n → is_item_shape shape.count shape.sort ≡ true → is_absent (out-Node n).kind ≡ false → is_value n ≡ false → (meaning n).is_type ≡ true

-- an item is there
pub item_there : (σ : Sort) (k : Kind) → is_item σ ≡ true → belongs σ k ≡ true → is_absent k ≡ false
item_there sort.ModuleItem kind.Absent i b = absurd (cc)
item_there sort.ModuleDecl kind.Absent i b = absurd (cc)
item_there sort.Stmt kind.Absent i b = absurd (cc)
item_there sort.Decl kind.Absent i b = absurd (cc)
item_there sort.DefaultDecl kind.Absent i b = absurd (cc)
item_there sort.TsNamespaceBody kind.Absent i b = absurd (cc)
item_there _ kind.Absent i b = absurd (cc)
item_there _ _ i b = refl

child_there : (σ : Sort) (n : Node) → is_item σ ≡ true → HasShape (one σ) n → is_absent (out-Node n).kind ≡ false
child_there σ n i h = item_there σ (out-Node n).kind i (shape_out (one σ) n h).0

abbrev Child : Type 0
Child = (n : Node) × Valueless n

abbrev nodes : List Child → List Node
nodes children = map (λ child. child.0) children

pub child_valueless : (σ : Sort) (child : Child) → is_item σ ≡ true → HasShape (one σ) child.0 → is_value child.0 ≡ false → (meaning child.0).is_type ≡ true
child_valueless σ child i h v = child.1 (one σ) h i (child_there σ child.0 i h) v

neither : (a b : Bool) → a || b ≡ false → (a ≡ false) × (b ≡ false)
neither true b h = absurd (cc)
neither false b h = (refl, h)

all_valueless : (σ : Sort) (children : List Child) → is_item σ ≡ true → HaveShapes (replicate (length (nodes children)) (one σ)) (nodes children) → list_any (λ b. b) (map is_value (nodes children)) ≡ false → all_types (map meaning (nodes children)) ≡ true
all_valueless σ [] i h v = refl
all_valueless σ (child ∷ children) i h v = let w = neither (is_value child.0) (list_any (λ b. b) (map is_value (nodes children))) v in rw (child_valueless σ child i h.0 w.0, all_valueless σ children i h.1 w.1) refl

pub body_valueless : (b : Child) → HasShape (maybe sort.TsNamespaceBody) b.0 → is_value b.0 ≡ false → (meaning b.0).is_absent || (meaning b.0).is_type ≡ true
body_valueless b h v = go (is_absent (out-Node b.0).kind) refl
  where
    missing : (k : Kind) (ms : List Meaning) → is_absent k ≡ true → (meaning_by b.0 k ms).is_absent ≡ true
    missing kind.Absent ms e = refl
    missing _ ms e = absurd (cc)

    either : (x y : Bool) → x ≡ true → x || y ≡ true
    either true y e = refl
    either false y e = absurd (cc)

    other : (x y : Bool) → y ≡ true → x || y ≡ true
    other true y e = refl
    other false y e = e

    go : (c : Bool) → is_absent (out-Node b.0).kind ≡ c → (meaning b.0).is_absent || (meaning b.0).is_type ≡ true
    go true e = either (meaning b.0).is_absent (meaning b.0).is_type (ap (λ m. m.is_absent) (meaning_out b.0) ∙ missing (out-Node b.0).kind (map meaning (out-Node b.0).children) e)
    go false e = other (meaning b.0).is_absent (meaning b.0).is_type (b.1 (maybe sort.TsNamespaceBody) h refl e v)

-- a type alone, or what has no effect, is one as it means
pub typed : (n : Node) (k : Kind) (ms : List Meaning) → has_no_effect k ms || is_type_of k ms ≡ true → (meaning_by n k ms).is_type ≡ true
typed n kind.ParenExpr ms h = absurd (cc)
typed n kind.TsAsExpr ms h = absurd (cc)
typed n kind.TsTypeAssertion ms h = absurd (cc)
typed n kind.TsConstAssertion ms h = absurd (cc)
typed n kind.TsNonNullExpr ms h = absurd (cc)
typed n kind.TsInstantiation ms h = absurd (cc)
typed n kind.TsSatisfiesExpr ms h = absurd (cc)
typed n kind.TsTypeAnn ms h = absurd (cc)
typed n kind.TsTypeParamDecl ms h = absurd (cc)
typed n kind.TsTypeParamInstantiation ms h = absurd (cc)
typed n kind.TsQualifiedName ms h = absurd (cc)
typed n (kind.TsImportEqualsDecl is_export false) ms h = absurd (cc)
typed n (kind.TsImportEqualsDecl true true) ms h = refl
typed n (kind.TsImportEqualsDecl false true) ms h = refl
typed n (kind.TsEnumDecl true is_const) ms h = refl
typed n (kind.TsEnumDecl false is_const) ms h = absurd (cc)
typed n kind.TsEnumMember ms h = absurd (cc)
typed n k ms h = chosen (has_no_effect k ms) h
  where
    chosen : (b : Bool) → b || is_type_of k ms ≡ true → (cond b (no_effect n) (role_by n k ms)).is_type ≡ true
    chosen true h = refl
    chosen false h = h

-- lists and functions are no items
no_single_list : (σ : Sort) → is_item σ ≡ true → belongs σ kind.List ≡ true → ⊥
no_single_list sort.ModuleItem i b = absurd (cc)
no_single_list sort.ModuleDecl i b = absurd (cc)
no_single_list sort.Stmt i b = absurd (cc)
no_single_list sort.Decl i b = absurd (cc)
no_single_list sort.DefaultDecl i b = absurd (cc)
no_single_list sort.TsNamespaceBody i b = absurd (cc)
no_single_list _ i b = absurd (cc)

no_function : (count : Count) (σ : Sort) (is_generator is_async : Bool) → allows_by count σ (kind.Function is_generator is_async) ≡ true → is_item_shape count σ ≡ true → ⊥
no_function One sort.Function is_generator is_async a i = absurd (cc)
no_function One _ is_generator is_async a i = absurd (cc)
no_function Maybe sort.Function is_generator is_async a i = absurd (cc)
no_function Maybe _ is_generator is_async a i = absurd (cc)
no_function _ σ is_generator is_async a i = absurd (cc)

list_valueless : (count : Count) (σ : Sort) (children : List Child) → allows_by count σ kind.List ≡ true → HaveShapes (replicate (length (nodes children)) (item_shape (record { count = count; sort = σ }))) (nodes children)
    → is_item_shape count σ ≡ true → list_any (λ b. b) (map is_value (nodes children)) ≡ false → all_types (map meaning (nodes children)) ≡ true
list_valueless Many σ children a s i v = all_valueless σ children i s v
list_valueless One σ children a s i v = absurd (no_single_list σ i a)
list_valueless Maybe σ children a s i v = absurd (no_single_list σ i a)
list_valueless MaybeMany σ children a s i v = absurd (cc)
list_valueless Holes σ children a s i v = absurd (cc)

list_there : (k : Kind) → allows (many sort.ModuleItem) k ≡ true → is_absent k ≡ false
list_there kind.Absent h = absurd (cc)
list_there _ h = refl

-- what is no value, by its kind alone
abbrev depends : Kind → Bool
depends kind.ExportDecl = true
depends kind.ExportDefaultDecl = true
depends (kind.FnDecl false) = true
depends kind.FnExpr = true
depends (kind.TsModuleDecl false global) = true
depends (kind.TsNamespaceDecl declare global) = true
depends kind.TsModuleBlock = true
depends kind.List = true
depends (kind.Function is_generator is_async) = true
depends kind.Absent = true
depends _ = false

by_kind : (k : Kind) (vs : List Bool) (ms : List Meaning) → depends k ≡ false → value_by k vs ≡ false → has_no_effect k ms || is_type_of k ms ≡ true
unfolding value_by
by_kind kind.Absent vs ms d v = absurd (cc)
by_kind kind.EmptyStmt vs ms d v = refl
by_kind (kind.TsInterfaceDecl declare) vs ms d v = refl
by_kind (kind.TsTypeAliasDecl declare) vs ms d v = refl
by_kind kind.TsNamespaceExportDecl vs ms d v = refl
by_kind (kind.ImportDecl true) vs ms d v = refl
by_kind (kind.ImportDecl false) vs ms d v = absurd (cc)
by_kind (kind.NamedExport true) vs ms d v = refl
by_kind (kind.NamedExport false) vs ms d v = absurd (cc)
by_kind (kind.ExportAll true) vs ms d v = refl
by_kind (kind.ExportAll false) vs ms d v = absurd (cc)
by_kind (kind.TsImportEqualsDecl is_export true) vs ms d v = refl
by_kind (kind.TsImportEqualsDecl is_export false) vs ms d v = absurd (cc)
by_kind kind.ExportDecl vs ms d v = absurd (cc)
by_kind kind.ExportDefaultDecl vs ms d v = absurd (cc)
by_kind (kind.FnDecl true) vs ms d v = refl
by_kind (kind.FnDecl false) vs ms d v = absurd (cc)
by_kind kind.FnExpr vs ms d v = absurd (cc)
by_kind (kind.TsModuleDecl true global) vs ms d v = refl
by_kind (kind.TsModuleDecl false global) vs ms d v = absurd (cc)
by_kind (kind.TsNamespaceDecl declare global) vs ms d v = absurd (cc)
by_kind kind.TsModuleBlock vs ms d v = absurd (cc)
by_kind kind.List vs ms d v = absurd (cc)
by_kind (kind.Function is_generator is_async) vs ms d v = absurd (cc)
by_kind _ vs ms d v = absurd (cc)

abbrev Wanted : Kind → List Child → Type 0
Wanted k children = has_no_effect k (map meaning (nodes children)) || is_type_of k (map meaning (nodes children)) ≡ true

by_child : (k : Kind) (children : List Child) (shape : Shape) → allows shape k ≡ true → HaveShapes (child_shapes k shape (length (nodes children))) (nodes children) → is_item_shape shape.count shape.sort ≡ true
    → is_absent k ≡ false → depends k ≡ true → value_by k (values_in true k (nodes children)) ≡ false → Wanted k children
unfolding value_by
by_child kind.Absent children shape a s i there d v = absurd (cc)
by_child kind.ExportDecl (c ∷ []) shape a s i there d v = rw (child_valueless sort.Decl c refl s.0 v) refl
by_child kind.ExportDecl [] shape a s i there d v = absurd s
by_child kind.ExportDecl (c ∷ e ∷ others) shape a s i there d v = absurd s.1
by_child kind.ExportDefaultDecl (c ∷ []) shape a s i there d v = rw (child_valueless sort.DefaultDecl c refl s.0 v) refl
by_child kind.ExportDefaultDecl [] shape a s i there d v = absurd s
by_child kind.ExportDefaultDecl (c ∷ e ∷ others) shape a s i there d v = absurd s.1
by_child (kind.FnDecl false) (name ∷ function ∷ []) shape a s i there d v = rw (function_bodiless function.0 s.1.0 v) refl
by_child (kind.FnDecl false) [] shape a s i there d v = absurd s
by_child (kind.FnDecl false) (c ∷ []) shape a s i there d v = absurd s.1
by_child (kind.FnDecl false) (c ∷ e ∷ f ∷ others) shape a s i there d v = absurd s.1.1
by_child kind.FnExpr (name ∷ function ∷ []) shape a s i there d v = rw (function_bodiless function.0 s.1.0 v) refl
by_child kind.FnExpr [] shape a s i there d v = absurd s
by_child kind.FnExpr (c ∷ []) shape a s i there d v = absurd s.1
by_child kind.FnExpr (c ∷ e ∷ f ∷ others) shape a s i there d v = absurd s.1.1
by_child (kind.TsModuleDecl false global) (name ∷ body ∷ []) shape a s i there d v = rw (body_valueless body s.1.0 v) refl
by_child (kind.TsModuleDecl false global) [] shape a s i there d v = absurd s
by_child (kind.TsModuleDecl false global) (c ∷ []) shape a s i there d v = absurd s.1
by_child (kind.TsModuleDecl false global) (c ∷ e ∷ f ∷ others) shape a s i there d v = absurd s.1.1
by_child (kind.TsNamespaceDecl declare global) (name ∷ body ∷ []) shape a s i there d v = child_valueless sort.TsNamespaceBody body refl s.1.0 (valueless_everywhere (not declare && true) body.0 v)
by_child (kind.TsNamespaceDecl declare global) [] shape a s i there d v = absurd s
by_child (kind.TsNamespaceDecl declare global) (c ∷ []) shape a s i there d v = absurd s.1
by_child (kind.TsNamespaceDecl declare global) (c ∷ e ∷ f ∷ others) shape a s i there d v = absurd s.1.1
by_child kind.TsModuleBlock (items ∷ []) shape a s i there d v = items.1 (many sort.ModuleItem) s.0 refl (list_there (out-Node items.0).kind (shape_out (many sort.ModuleItem) items.0 s.0).0) v
by_child kind.TsModuleBlock [] shape a s i there d v = absurd s
by_child kind.TsModuleBlock (c ∷ e ∷ others) shape a s i there d v = absurd s.1
by_child kind.List children shape a s i there d v = list_valueless shape.count shape.sort children a s i v
by_child (kind.Function is_generator is_async) children shape a s i there d v = absurd (no_function shape.count shape.sort is_generator is_async a i)
by_child _ children shape a s i there d v = absurd (cc)

step : (k : Kind) (children : List Child) (shape : Shape) → allows shape k ≡ true → HaveShapes (child_shapes k shape (length (nodes children))) (nodes children) → is_item_shape shape.count shape.sort ≡ true
    → is_absent k ≡ false → value_by k (values_in true k (nodes children)) ≡ false → Wanted k children
step k children shape a s i there v = go (depends k) refl
  where
    go : (b : Bool) → depends k ≡ b → Wanted k children
    go true e = by_child k children shape a s i there e v
    go false e = by_kind k (values_in true k (nodes children)) (map meaning (nodes children)) e v

pub valueless : (n : Node) → Valueless n
valueless = ind-Node Valueless (λ x y is. subst (λ ns. Valueless (node_of x.span x.kind ns)) (ap (λ z. z.children) is) (λ shape h i there v.
    let n = node_of x.span x.kind (nodes y.children) in
    let e = out-roll-Node (record { span = x.span; kind = x.kind; children = nodes y.children }) in
    let s = (node_has_shape x.span x.kind (nodes y.children) shape).0 h in
    ap (λ m. m.is_type) (meaning_out n ∙ ap (λ parts. meaning_by n parts.kind (map meaning parts.children)) e)
    ∙ typed n x.kind (map meaning (nodes y.children)) (step x.kind y.children shape s.0 s.1 i (sym (ap (λ parts. is_absent parts.kind) e) ∙ there) (sym (ap (λ parts. value_by parts.kind (values_in true parts.kind parts.children)) e) ∙ (sym (is_value-out n) ∙ v)))))
