-- The items of a module, and what they are without their types.
use Rattle.std.proofs.Common.{◌≡◌, refl, sym, ap, ◌∙◌, subst, List, [], ◌∷◌, map, filter, length, replicate, Bool, true, not}
use Rattle.ecma_kind.specs.Sorts.{belongs}
use Rattle.ecma_kind.specs.declared.kind.Kind.{Kind}
use Rattle.ecma_kind.specs.declared.kind.Kind.TheVariants as kind
use Rattle.ecma_kind.specs.declared.shapes.Sort.TheVariants as sort
use Rattle.ecma_kind.specs.declared.span.Span.{Span}
use Rattle.ecma_tree.specs.declared.node.Node.{Node, out-Node}
use Rattle.ecma_tree.specs.Laws.{HaveShapes}
use Rattle.ecma_tree.specs.Sorted.{HasShape, child_shapes, many, one}
use Rattle.ecma_strip.specs.Staying.{is_empty_stmt, is_export, stays}
use Rattle.ecma_strip.specs.Stripping.{plain, plain_children, plain_kind, staying_nodes, stripped, without_empty}
use Rattle.ecma_strip.proofs.Stripping.{stripped-out}
use Rattle.ecma_strip_fits.proofs.Classes.{class_of, plain_usual}
use Rattle.ecma_strip_fits.proofs.Classes.Class.{Usual}
use Rattle.ecma_hygiene.proofs.Telling.{true-false}
use Rattle.ecma_hygiene_runs.specs.Plain.{is_plain_kind}
use Rattle.ecma_hygiene_scopes.proofs.Parts.{children-of, kind-of}
use Rattle.ecma_strip_scopes.proofs.Going.{only, parts-have}
use Rattle.ecma_strip_scopes.proofs.Standing.{list-kind}

module-child : (k : Kind) (cs : List Node) → belongs sort.Module k ≡ true → HaveShapes (child_shapes k (one sort.Module) (length cs)) cs → (body : Node) × (cs ≡ body ∷ []) × HasShape (many sort.ModuleItem) body
module-child (kind.Module s) cs b h = only (many sort.ModuleItem) cs h
module-child _ cs b h = absurd (true-false b refl)

-- the list of items of a module
pub record IsModule (tree : Node) : Type 0 where
  pub whole : belongs sort.Module (out-Node tree).kind ≡ true
  pub body : Node
  pub are : (out-Node tree).children ≡ body ∷ []
  pub list : (out-Node body).kind ≡ kind.List
  pub items : HaveShapes (replicate (length (out-Node body).children) (one sort.ModuleItem)) (out-Node body).children
  pub has : HasShape (many sort.ModuleItem) body

pub is-module : (tree : Node) → HasShape (one sort.Module) tree → IsModule tree
is-module tree h =
    let s = parts-have tree (one sort.Module) h in
    let c = module-child (out-Node tree).kind (out-Node tree).children s.0 s.1 in
    let t = parts-have c.0 (many sort.ModuleItem) c.2 in
    let list = list-kind (out-Node c.0).kind t.0 in
    record {
      whole = s.0;
      body = c.0;
      are = c.1;
      list = list;
      items = subst (λ k. HaveShapes (child_shapes k (many sort.ModuleItem) (length (out-Node c.0).children)) (out-Node c.0).children) list t.1;
      has = c.2;
    }

abbrev pub is_full : Node → Bool
is_full n = not (is_empty_stmt (out-Node n).kind)

module-stripped : (span : Span) (k : Kind) (cs : List Node) (body : Node) → belongs sort.Module k ≡ true → cs ≡ body ∷ [] → (out-Node (plain span k (map stripped (staying_nodes k cs)))).children ≡ without_empty (stripped body) ∷ []
unfolding plain plain_kind plain_children
module-stripped span (kind.Module s) cs body b e =
    ap (λ (ns : List Node). (out-Node (plain span (kind.Module s) (map stripped ns))).children) e ∙ children-of span (kind.Module s) (without_empty (stripped body) ∷ [])
module-stripped span _ cs body b e = absurd (true-false b refl)

list-stripped : (span : Span) (k : Kind) (cs : List Node) → k ≡ kind.List → (out-Node (plain span k (map stripped (staying_nodes k cs)))).children ≡ map stripped (filter stays cs)
unfolding plain plain_kind plain_children
list-stripped span k cs e = ap (λ z. (out-Node (plain span z (map stripped (staying_nodes z cs)))).children) e ∙ children-of span kind.List (map stripped (filter stays cs))

-- the items of a module without its types: those that stay, without theirs
pub items-stripped : (tree : Node) (m : IsModule tree) (t : IsModule (stripped tree)) → (out-Node t.body).children ≡ filter is_full (map stripped (filter stays (out-Node m.body).children))
items-stripped tree m t =
    let body = m.body in
    let both : t.body ∷ [] ≡ without_empty (stripped body) ∷ [] =
    sym t.are ∙ ap (λ (n : Node). (out-Node n).children) (stripped-out tree) ∙ module-stripped (out-Node tree).span (out-Node tree).kind (out-Node tree).children body m.whole m.are in
    let same : t.body ≡ without_empty (stripped body) = cc in
    ap (λ (n : Node). (out-Node n).children) same ∙ children-of (out-Node (stripped body)).span (out-Node (stripped body)).kind (filter is_full (out-Node (stripped body)).children)
    ∙ ap (filter is_full) (ap (λ (n : Node). (out-Node n).children) (stripped-out body) ∙ list-stripped (out-Node body).span (out-Node body).kind (out-Node body).children m.list)

-- ---- items without their types

item-usual : (k : Kind) → belongs sort.ModuleItem k ≡ true → class_of k ≡ Usual
unfolding class_of
item-usual kind.TsTypeAnn b = absurd (true-false b refl)
item-usual kind.TsType b = absurd (true-false b refl)
item-usual kind.TsTypeParamDecl b = absurd (true-false b refl)
item-usual kind.TsTypeParamInstantiation b = absurd (true-false b refl)
item-usual kind.TsTypeAssertion b = absurd (true-false b refl)
item-usual kind.TsConstAssertion b = absurd (true-false b refl)
item-usual kind.TsNonNullExpr b = absurd (true-false b refl)
item-usual kind.TsAsExpr b = absurd (true-false b refl)
item-usual kind.TsInstantiation b = absurd (true-false b refl)
item-usual kind.TsSatisfiesExpr b = absurd (true-false b refl)
item-usual kind.List b = absurd (true-false b refl)
item-usual _ b = refl

pub decl-item : (k : Kind) → belongs sort.Decl k ≡ true → belongs sort.ModuleItem k ≡ true
decl-item (kind.ClassDecl d) b = refl
decl-item (kind.FnDecl d) b = refl
decl-item (kind.VarDecl w d) b = refl
decl-item (kind.TsInterfaceDecl d) b = refl
decl-item (kind.TsTypeAliasDecl d) b = refl
decl-item (kind.TsEnumDecl x y) b = refl
decl-item (kind.TsModuleDecl x y) b = refl
decl-item _ b = absurd (true-false b refl)

pub kind-left : (n : Node) → belongs sort.ModuleItem (out-Node n).kind ≡ true → (out-Node (stripped n)).kind ≡ plain_kind (out-Node n).kind
kind-left n b =
    let k = (out-Node n).kind in
    let left = map stripped (staying_nodes k (out-Node n).children) in
    ap (λ (z : Node). (out-Node z).kind) (stripped-out n ∙ plain_usual (out-Node n).span left k (item-usual k b)) ∙ kind-of (out-Node n).span (plain_kind k) (plain_children k left)

pub export-plain : (k : Kind) → is_export (plain_kind k) ≡ is_export k
unfolding plain_kind
export-plain kind.ExportDecl = refl
export-plain _ = refl

pub kind-plain : (k : Kind) → is_plain_kind (plain_kind k) ≡ is_plain_kind k
unfolding plain_kind
kind-plain (kind.Class x) = refl
kind-plain _ = refl

pub export-kind : (k : Kind) → is_export k ≡ true → k ≡ kind.ExportDecl
export-kind kind.ExportDecl e = refl
export-kind _ e = absurd (true-false e refl)

pub export-stripped : (span : Span) (k : Kind) (cs : List Node) (d : Node) → k ≡ kind.ExportDecl → cs ≡ d ∷ [] → (out-Node (plain span k (map stripped (staying_nodes k cs)))).children ≡ stripped d ∷ []
unfolding plain plain_kind plain_children
export-stripped span k cs d e f =
    (λ i. (out-Node (plain span (e i) (map stripped (staying_nodes (e i) (f i))))).children) ∙ children-of span kind.ExportDecl (stripped d ∷ [])
