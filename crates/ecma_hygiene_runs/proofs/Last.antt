-- What is done behind all items of a module is declared in these alone: in a sorted tree no other node has any.
use Rattle.std.proofs.Common.{◌≡◌, refl, ap, ◌∙◌, subst, ℕ, zero, suc, List, [], ◌∷◌, ◌++◌, map, length, replicate, Bool, true, false, cond, not}
use Rattle.std.specs.List.{list_all}
use Rattle.ecma_kind.specs.declared.kind.Kind.{Kind}
use Rattle.ecma_kind.specs.declared.kind.Kind.TheVariants as kind
use Rattle.ecma_kind.specs.declared.shapes.Count.{Count}
use Rattle.ecma_kind.specs.declared.shapes.Count.TheVariants.{One, Maybe, Many, MaybeMany, Holes}
use Rattle.ecma_kind.specs.declared.shapes.Shape.{Shape}
use Rattle.ecma_kind.specs.declared.shapes.Sort.{Sort}
use Rattle.ecma_kind.specs.declared.shapes.Sort.TheVariants as sort
use Rattle.ecma_tree.specs.declared.node.Node.{Node, Node-F, ind-Node, roll-Node}
use Rattle.ecma_tree.specs.Laws.{HaveShapes}
use Rattle.ecma_tree.specs.Sorted.{HasShape, allows, allows_by, child_shapes, item_shape, one}
use Rattle.ecma_tree.proofs.ShapeLaws.{node_has_shape}
use Rattle.ecma_hygiene.proofs.Telling.{and-both, and-left, and-right}
use Rattle.ecma_runs.specs.State.{Id}
use Rattle.ecma_runs.specs.Declarations.{all_last_declared, has_no_effect}
use Rattle.ecma_runs.specs.Evaluation.{meaning, meaning_by, no_effect, role_by}
use Rattle.ecma_runs.specs.Meaning.{Meaning}
use Rattle.ecma_runs.proofs.Kept.{AllNodes}
use Rattle.ecma_runs.proofs.Layer.{meaning-roll}
use Rattle.ecma_hygiene_runs.specs.Plain.{is_plain_kind}
use Rattle.ecma_hygiene_runs.proofs.Covering.{Sub, sub-left, sub-none, sub-right}

abbrev pub last : Node → List Id
last n = (meaning n).last_declared

-- ---- shapes

-- what may be an item of a module
abbrev pub is_module_sort : Sort → Bool
is_module_sort sort.ModuleItem = true
is_module_sort sort.ModuleDecl = true
is_module_sort _ = false

abbrev pub is_low : Shape → Bool
is_low shape = not (is_module_sort shape.sort)

no-assignment : (count : Count) (σ : Sort) → not (is_module_sort σ) ≡ true → allows_by count σ kind.TsExportAssignment ≡ true → ⊥
no-assignment One sort.ModuleItem low a = absurd (cc)
no-assignment One sort.ModuleDecl low a = absurd (cc)
no-assignment One _ low a = absurd (cc)
no-assignment Maybe sort.ModuleItem low a = absurd (cc)
no-assignment Maybe sort.ModuleDecl low a = absurd (cc)
no-assignment Maybe _ low a = absurd (cc)
no-assignment Many σ low a = absurd (cc)
no-assignment MaybeMany σ low a = absurd (cc)
no-assignment Holes σ low a = absurd (cc)

-- what has items of modules
abbrev pub has_items : Kind → Bool
has_items kind.List = true
has_items (kind.Module shebang) = true
has_items kind.TsModuleBlock = true
has_items _ = false

low-repeated : (n : ℕ) (shape : Shape) → is_low shape ≡ true → list_all is_low (replicate n shape) ≡ true
low-repeated zero shape low = refl
low-repeated (suc n) shape low = and-both (is_low shape) (list_all is_low (replicate n shape)) low (low-repeated n shape low)

low-children : (k : Kind) (shape : Shape) (n : ℕ) → has_items k ≡ false → list_all is_low (child_shapes k shape n) ≡ true
low-children kind.List shape n none = absurd (cc)
low-children (kind.Module shebang) shape n none = absurd (cc)
low-children kind.TsModuleBlock shape n none = absurd (cc)
low-children kind.SeqExpr shape zero none = refl
low-children kind.SeqExpr shape (suc n) none = low-repeated (suc n) (one sort.Expr) refl
low-children _ shape n none = refl

-- the body of a namespace, which no plain tree has
abbrev pub is_body_sort : Sort → Bool
is_body_sort sort.TsNamespaceBody = true
is_body_sort _ = false

abbrev pub is_inner : Shape → Bool
is_inner shape = not (is_body_sort shape.sort)

no-block : (count : Count) (σ : Sort) → not (is_body_sort σ) ≡ true → allows_by count σ kind.TsModuleBlock ≡ true → ⊥
no-block One sort.TsNamespaceBody inner a = absurd (cc)
no-block One _ inner a = absurd (cc)
no-block Maybe sort.TsNamespaceBody inner a = absurd (cc)
no-block Maybe _ inner a = absurd (cc)
no-block Many σ inner a = absurd (cc)
no-block MaybeMany σ inner a = absurd (cc)
no-block Holes σ inner a = absurd (cc)

inner-repeated : (n : ℕ) (shape : Shape) → is_inner shape ≡ true → list_all is_inner (replicate n shape) ≡ true
inner-repeated zero shape inner = refl
inner-repeated (suc n) shape inner = and-both (is_inner shape) (list_all is_inner (replicate n shape)) inner (inner-repeated n shape inner)

pub inner-children : (k : Kind) (shape : Shape) (n : ℕ) → is_plain_kind k ≡ true → is_inner shape ≡ true → list_all is_inner (child_shapes k shape n) ≡ true
inner-children kind.List shape n plain inner = inner-repeated n (item_shape shape) inner
inner-children (kind.TsModuleDecl declare global) shape n plain inner = absurd (cc)
inner-children (kind.TsNamespaceDecl declare global) shape n plain inner = absurd (cc)
inner-children kind.SeqExpr shape zero plain inner = refl
inner-children kind.SeqExpr shape (suc n) plain inner = inner-repeated (suc n) (one sort.Expr) refl
inner-children _ shape n plain inner = refl

-- ---- what is no item has none

abbrev Calm : Node → Type 0
Calm n = (shape : Shape) → is_low shape ≡ true → HasShape shape n → last n ≡ []

abbrev Children : Type 0
Children = List ((n : Node) × Calm n)

abbrev nodes : Children → List Node
nodes ns = map (λ e. e.0) ns

none-last : (b : Bool) (m m' : Meaning) → m.last_declared ≡ [] → m'.last_declared ≡ [] → (cond b m m').last_declared ≡ []
none-last true m m' p q = p
none-last false m m' p q = q

all-calm : (ns : Children) (shape : Shape) → is_low shape ≡ true → HaveShapes (child_shapes kind.List shape (length (nodes ns))) (nodes ns) → all_last_declared (map meaning (nodes ns)) ≡ []
all-calm [] shape low h = refl
all-calm (n ∷ ns) shape low h = ap (λ ids. ids ++ all_last_declared (map meaning (nodes ns))) (n.1 (item_shape shape) low h.0) ∙ all-calm ns shape low h.1

calm-by : (n : Node) (k : Kind) (ns : Children) (shape : Shape) → is_low shape ≡ true → allows shape k ≡ true → HaveShapes (child_shapes k shape (length (nodes ns))) (nodes ns)
    → (meaning_by n k (map meaning (nodes ns))).last_declared ≡ []
calm-by n kind.List ns shape low a h = all-calm ns shape low h
calm-by n kind.TsExportAssignment ns shape low a h = absurd (no-assignment shape.count shape.sort low a)
calm-by n kind.ParenExpr (e ∷ []) shape low a h = e.1 (one sort.Expr) refl h.0
calm-by n kind.TsAsExpr (e ∷ type ∷ []) shape low a h = e.1 (one sort.Expr) refl h.0
calm-by n kind.TsTypeAssertion (e ∷ type ∷ []) shape low a h = e.1 (one sort.Expr) refl h.0
calm-by n kind.TsConstAssertion (e ∷ []) shape low a h = e.1 (one sort.Expr) refl h.0
calm-by n kind.TsNonNullExpr (e ∷ []) shape low a h = e.1 (one sort.Expr) refl h.0
calm-by n kind.TsInstantiation (e ∷ types ∷ []) shape low a h = e.1 (one sort.Expr) refl h.0
calm-by n kind.TsSatisfiesExpr (e ∷ type ∷ []) shape low a h = e.1 (one sort.Expr) refl h.0
calm-by n kind.TsTypeAnn ns shape low a h = refl
calm-by n kind.TsTypeParamDecl ns shape low a h = refl
calm-by n kind.TsTypeParamInstantiation ns shape low a h = refl
calm-by n kind.TsQualifiedName (left ∷ right ∷ []) shape low a h = refl
calm-by n (kind.TsImportEqualsDecl false false) (name ∷ source ∷ []) shape low a h = refl
calm-by n (kind.TsImportEqualsDecl true false) (name ∷ source ∷ []) shape low a h = none-last (meaning source.0).is_required _ _ refl refl
calm-by n (kind.TsEnumDecl false is_const) (name ∷ members ∷ []) shape low a h = refl
calm-by n kind.TsEnumMember (name ∷ init ∷ []) shape low a h = refl
calm-by n k ns shape low a h = let ms : List Meaning = map meaning (nodes ns) in none-last (has_no_effect k ms) (no_effect n) (role_by n k ms) refl refl

pub calm : (n : Node) → Calm n
calm = ind-Node Calm (λ x y is shape low h.
    let s = (node_has_shape x.span x.kind x.children shape).0 h in
    ap (λ (m : Meaning). m.last_declared) (meaning-roll x)
    ∙ subst (λ cs. HaveShapes (child_shapes x.kind shape (length cs)) cs → (meaning_by (roll-Node x) x.kind (map meaning cs)).last_declared ≡ []) (ap (λ (z : Node-F Node). z.children) is)
    (calm-by (roll-Node x) x.kind y.children shape low s.0) s.1)

-- ---- what children have of it is among what their node has

each-calm : (shapes : List Shape) (cs : List Node) (zs : List Id) → HaveShapes shapes cs → list_all is_low shapes ≡ true → AllNodes (λ c. Sub (last c) zs) cs
each-calm [] [] zs h low = tt
each-calm [] (c ∷ cs) zs h low = absurd h
each-calm (shape ∷ shapes) [] zs h low = tt
each-calm (shape ∷ shapes) (c ∷ cs) zs h low =
    (sub-none (last c) zs (calm c shape (and-left (is_low shape) (list_all is_low shapes) low) h.0), each-calm shapes cs zs h.1 (and-right (is_low shape) (list_all is_low shapes) low))

each-last : (cs : List Node) (zs : List Id) → Sub (all_last_declared (map meaning cs)) zs → AllNodes (λ c. Sub (last c) zs) cs
each-last [] zs f = tt
each-last (c ∷ cs) zs f =
    let others : List Id = all_last_declared (map meaning cs) in (λ id h. f id (sub-left (last c) others id h), each-last cs zs (λ id h. f id (sub-right (last c) others id h)))

-- what a node declares, and its names where it may have names that are declared, with what is declared behind all items
abbrev pub layer_whole : Node → Kind → List Node → Bool → List Id
layer_whole n k cs named = ((meaning_by n k (map meaning cs)).declared ++ cond named (meaning_by n k (map meaning cs)).names []) ++ (meaning_by n k (map meaning cs)).last_declared

items-last : (n : Node) (k : Kind) (shape : Shape) (cs : List Node) (named : Bool) → has_items k ≡ true → is_inner shape ≡ true → allows shape k ≡ true → HaveShapes (child_shapes k shape (length cs)) cs
    → AllNodes (λ c. Sub (last c) (layer_whole n k cs named)) cs
items-last n kind.List shape cs named items inner a h =
    let m : Meaning = meaning_by n kind.List (map meaning cs) in each-last cs (layer_whole n kind.List cs named) (sub-right (m.declared ++ cond named m.names []) m.last_declared)
items-last n (kind.Module shebang) shape (body ∷ []) named items inner a h =
    let ids : List Id = (meaning body).declared ++ last body in
    (λ id i. sub-left (ids ++ cond named [] []) [] id (sub-left ids (cond named [] []) id (sub-right (meaning body).declared (last body) id i)), tt)
items-last n (kind.Module shebang) shape [] named items inner a h = tt
items-last n (kind.Module shebang) shape (b ∷ c ∷ cs) named items inner a h = absurd h.1
items-last n kind.TsModuleBlock shape cs named items inner a h = absurd (no-block shape.count shape.sort inner a)
items-last n _ shape cs named items inner a h = absurd (cc)

pub lasts : (n : Node) (k : Kind) (shape : Shape) (cs : List Node) (named : Bool) → is_inner shape ≡ true → allows shape k ≡ true → HaveShapes (child_shapes k shape (length cs)) cs
    → AllNodes (λ c. Sub (last c) (layer_whole n k cs named)) cs
lasts n k shape cs named inner a h = by (has_items k) refl
  where
    by : (b : Bool) → has_items k ≡ b → AllNodes (λ c. Sub (last c) (layer_whole n k cs named)) cs
    by true is = items-last n k shape cs named is inner a h
    by false is = each-calm (child_shapes k shape (length cs)) cs (layer_whole n k cs named) h (low-children k shape (length cs) is)
