-- An item that stays in a list stays there without its types.
use Rattle.std.proofs.Common.{◌≡◌, ◌⊎◌, inl, inr, Bool, true, false, ◌||◌, refl, sym, subst, List, map, filter}
use Rattle.ecma_kind.specs.Sorts.{belongs, is_type_wrapper}
use Rattle.ecma_kind.specs.declared.kind.Kind.{Kind}
use Rattle.ecma_kind.specs.declared.kind.Kind.TheVariants as kind
use Rattle.ecma_kind.specs.declared.span.Span.{Span}
use Rattle.ecma_kind.specs.declared.shapes.Count.{Count}
use Rattle.ecma_kind.specs.declared.shapes.Count.TheVariants.{One, Maybe, Many, MaybeMany, Holes}
use Rattle.ecma_kind.specs.declared.shapes.Shape.{Shape}
use Rattle.ecma_kind.specs.declared.shapes.Sort.{Sort}
use Rattle.ecma_kind.specs.declared.shapes.Sort.TheVariants as sort
use Rattle.ecma_tree.specs.Nodes.{absent, node_of}
use Rattle.ecma_tree.specs.Sorted.{allows_by, is_absent}
use Rattle.ecma_tree.specs.declared.node.Node.{Node, out-Node}
use Rattle.ecma_strip.specs.Laws.{has_shape_under_types, shape_under_types_by}
use Rattle.ecma_strip.specs.Staying.{is_this_param, specifier_stays, stays}
use Rattle.ecma_strip.specs.Stripping.{plain, plain_children, plain_kind, staying_nodes, stripped}
use Rattle.ecma_strip.proofs.Sorting.{allows-under}
use Rattle.ecma_strip.proofs.Stripping.{stripped-out}
use Rattle.ecma_strip_idempotent.proofs.Again.{All3, Lasts, again-by, parts-rolled, shape-out, shaped, stays-parts}
use Rattle.ecma_strip_idempotent.proofs.Steady.{absent-steady, is_expression_sort, is_listed, is_single, no, stays-steady, steady-stays}

assertion-sort : (σ : Sort) → is_listed σ ≡ true → belongs σ kind.TsTypeAssertion ≡ true → is_expression_sort σ ≡ true
assertion-sort sort.Program l h = cc
assertion-sort _ l h = cc

const-sort : (σ : Sort) → is_listed σ ≡ true → belongs σ kind.TsConstAssertion ≡ true → is_expression_sort σ ≡ true
const-sort sort.Program l h = cc
const-sort _ l h = cc

non_null-sort : (σ : Sort) → is_listed σ ≡ true → belongs σ kind.TsNonNullExpr ≡ true → is_expression_sort σ ≡ true
non_null-sort sort.Program l h = cc
non_null-sort _ l h = cc

as-sort : (σ : Sort) → is_listed σ ≡ true → belongs σ kind.TsAsExpr ≡ true → is_expression_sort σ ≡ true
as-sort sort.Program l h = cc
as-sort _ l h = cc

instantiation-sort : (σ : Sort) → is_listed σ ≡ true → belongs σ kind.TsInstantiation ≡ true → is_expression_sort σ ≡ true
instantiation-sort sort.Program l h = cc
instantiation-sort _ l h = cc

satisfies-sort : (σ : Sort) → is_listed σ ≡ true → belongs σ kind.TsSatisfiesExpr ≡ true → is_expression_sort σ ≡ true
satisfies-sort sort.Program l h = cc
satisfies-sort _ l h = cc

or-rest : (a b : Bool) → a ≡ false → (a || b) ≡ true → b ≡ true
or-rest true b e h = cc
or-rest false b e h = h

single-belongs : (c : Count) (σ : Sort) (k : Kind) → is_single c ≡ true → is_absent k ≡ false → allows_by c σ k ≡ true → belongs σ k ≡ true
single-belongs One σ k i e a = a
single-belongs Maybe σ k i e a = or-rest (is_absent k) (belongs σ k) e a
single-belongs Many σ k i e a = absurd (no i)
single-belongs MaybeMany σ k i e a = absurd (no i)
single-belongs Holes σ k i e a = absurd (no i)

-- an expression with a type round it stands in a list of expressions
sort-or : (c : Count) (σ : Sort) (k : Kind) → is_single c ≡ true → is_listed σ ≡ true → allows_by c σ k ≡ true → (is_expression_sort σ ≡ true) ⊎ (is_type_wrapper k ≡ false)
sort-or c σ kind.TsTypeAssertion i l a = inl (assertion-sort σ l (single-belongs c σ kind.TsTypeAssertion i refl a))
sort-or c σ kind.TsConstAssertion i l a = inl (const-sort σ l (single-belongs c σ kind.TsConstAssertion i refl a))
sort-or c σ kind.TsNonNullExpr i l a = inl (non_null-sort σ l (single-belongs c σ kind.TsNonNullExpr i refl a))
sort-or c σ kind.TsAsExpr i l a = inl (as-sort σ l (single-belongs c σ kind.TsAsExpr i refl a))
sort-or c σ kind.TsInstantiation i l a = inl (instantiation-sort σ l (single-belongs c σ kind.TsInstantiation i refl a))
sort-or c σ kind.TsSatisfiesExpr i l a = inl (satisfies-sort σ l (single-belongs c σ kind.TsSatisfiesExpr i refl a))
sort-or c σ _ i l a = inr refl

list-again : (span : Span) (cs : List Node) → is_this_param (node_of span (plain_kind kind.List) (plain_children kind.List cs)) ≡ false
    → stays (node_of span (plain_kind kind.List) (plain_children kind.List cs)) ≡ true
unfolding plain_kind plain_children specifier_stays
list-again span cs t = parts-rolled span kind.List cs (refl, refl, refl) t

-- what becomes of an item that has no type round it
plain-again : (span : Span) (k : Kind) (cs : List Node) (s : Shape) → is_type_wrapper k ≡ false → shape_under_types_by (shaped span k cs) s ≡ true → All3 k cs
    → Lasts (plain span k (map stripped (staying_nodes k cs))) → is_this_param (plain span k (map stripped (staying_nodes k cs))) ≡ false → stays (plain span k (map stripped (staying_nodes k cs))) ≡ true
unfolding plain
plain-again span kind.TsTypeAnn cs s w h st l t = steady-stays absent absent-steady t
plain-again span kind.TsType cs s w h st l t = steady-stays absent absent-steady t
plain-again span kind.TsTypeParamDecl cs s w h st l t = steady-stays absent absent-steady t
plain-again span kind.TsTypeParamInstantiation cs s w h st l t = steady-stays absent absent-steady t
plain-again span kind.TsTypeAssertion cs s w h st l t = absurd (no (sym w))
plain-again span kind.TsConstAssertion cs s w h st l t = absurd (no (sym w))
plain-again span kind.TsNonNullExpr cs s w h st l t = absurd (no (sym w))
plain-again span kind.TsAsExpr cs s w h st l t = absurd (no (sym w))
plain-again span kind.TsInstantiation cs s w h st l t = absurd (no (sym w))
plain-again span kind.TsSatisfiesExpr cs s w h st l t = absurd (no (sym w))
plain-again span kind.List cs s w h st l t = list-again span (map stripped (filter stays cs)) t
plain-again span k cs s w h st l t = parts-rolled span (plain_kind k) (plain_children k (map stripped cs)) (again-by span k cs s h st l) t

pub stays-again : (n : Node) (s : Shape) → is_single s.count ≡ true → is_listed s.sort ≡ true → has_shape_under_types n s ≡ true → stays n ≡ true
    → Lasts (stripped n) → is_this_param (stripped n) ≡ false → stays (stripped n) ≡ true
stays-again n s i l h st last t = by (sort-or s.count s.sort (out-Node n).kind i l (allows-under n s h))
  where
    by : (is_expression_sort s.sort ≡ true) ⊎ (is_type_wrapper (out-Node n).kind ≡ false) → stays (stripped n) ≡ true
    by (inl e) = steady-stays (stripped n) (stays-steady n s i e h) t
    by (inr w) =
        subst (λ z. Lasts z → is_this_param z ≡ false → stays z ≡ true) (sym (stripped-out n))
        (plain-again (out-Node n).span (out-Node n).kind (out-Node n).children s w (shape-out n s h) (stays-parts n st)) last t
