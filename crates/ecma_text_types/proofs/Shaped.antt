-- What the grammar says of the children of a tree whose types hold something: what it says of them where they hold nothing.
use Rattle.std.proofs.Common.{◌≡◌, ◌∙◌, ℕ, zero, suc, true, false, List, [], ◌∷◌, map, length, replicate, Some, refl, sym, ap, slice_get, subst}
use Rattle.ecma_kind.specs.declared.kind.Kind.{Kind}
use Rattle.ecma_kind.specs.declared.kind.Kind.TheVariants as kind
use Rattle.ecma_kind.specs.declared.shapes.Sort.{Sort}
use Rattle.ecma_kind.specs.declared.shapes.Sort.TheVariants as sort
use Rattle.ecma_tree.specs.Sorted.{is_list}
use Rattle.ecma_tree.specs.declared.node.Node.{Node, out-Node}
use Rattle.ecma_grammar_laws.specs.RawSorts.{HasRawShape, RawShape, RawSort, allows_raw, belongs_raw, child_shapes_raw, item_sort, many, one, sorted}
use Rattle.ecma_grammar_laws.proofs.RawShapes.{HaveRaw, below, parts_of}
use Rattle.ecma_rules.specs.Baring.{bared, holds_types}
use Rattle.ecma_rules.specs.Children.{kind_of}
use Rattle.ecma_text_types.proofs.Bared.{Mapped, bared-child, bared-count, bared-kind, bared_of, mapped}

-- a tree that has a shape without what its types hold
abbrev pub Shaped : RawShape → Node → Type 0
Shaped s n = HasRawShape s (bared n)

pub shaped_kind : (s : RawShape) (n : Node) → Shaped s n → allows_raw s (kind_of n) ≡ true
shaped_kind s n h = let t = parts_of (bared n) s h in ap (allows_raw s) (sym (bared-kind n)) ∙ t.0

have_at : (ss : List RawShape) (ns : List Node) → HaveRaw ss ns → (i : ℕ) (s : RawShape) (n : Node) → slice_get ss i ≡ Some s → slice_get ns i ≡ Some n → HasRawShape s n
have_at [] [] h i s n e f = cc
have_at [] (m ∷ ms) h i s n e f = absurd h
have_at (r ∷ rs) [] h i s n e f = absurd h
have_at (r ∷ rs) (m ∷ ms) h zero s n e f = let same : r ≡ s = cc in let node : m ≡ n = cc in subst (λ z. HasRawShape z n) same (subst (HasRawShape r) node h.0)
have_at (r ∷ rs) (m ∷ ms) h (suc i) s n e f = have_at rs ms h.1 i s n e f

-- the child at an index has the shape that the kind asks for there
abbrev pub BelowAs : Kind → RawShape → Node → Type 0
BelowAs k s n = holds_types k ≡ false → (i : ℕ) (t : RawShape) → slice_get (child_shapes_raw k s (length (out-Node n).children)) i ≡ Some t → (c : Node) → slice_get (out-Node n).children i ≡ Some c → Shaped t c

pub shaped_below : (s : RawShape) (n : Node) → Shaped s n → BelowAs (kind_of n) s n
shaped_below s n h free i t e c at =
    let m : Mapped n = mapped n free in
    let p = parts_of (bared n) s h in
    have_at (below (bared n) s) (out-Node (bared n)).children p.1 i t (bared c)
    (ap (λ k. slice_get (child_shapes_raw k s (length (out-Node (bared n)).children)) i) (bared-kind n) ∙ ap (λ l. slice_get (child_shapes_raw (kind_of n) s l) i) (bared-count n m) ∙ e)
    (bared-child n m i ∙ ap bared_of at)

-- kinds that hold no types

list_free : (k : Kind) → is_list k ≡ true → holds_types k ≡ false
list_free kind.List h = refl
list_free _ h = absurd (cc)

abbrev IsFree : Sort → Type 0
IsFree s = (k : Kind) → belongs_raw (sorted s) k ≡ true → holds_types k ≡ false

function_free : IsFree sort.Function
function_free kind.TsType h = absurd (cc)
function_free kind.TsTypeParamDecl h = absurd (cc)
function_free kind.TsTypeParamInstantiation h = absurd (cc)
function_free (kind.TsIndexSignature readonly is_static) h = absurd (cc)
function_free (kind.TsInterfaceDecl declare) h = absurd (cc)
function_free (kind.TsTypeAliasDecl declare) h = absurd (cc)
function_free _ h = refl

parameter_free : IsFree sort.ParamOrTsParamProp
parameter_free kind.TsType h = absurd (cc)
parameter_free kind.TsTypeParamDecl h = absurd (cc)
parameter_free kind.TsTypeParamInstantiation h = absurd (cc)
parameter_free (kind.TsIndexSignature readonly is_static) h = absurd (cc)
parameter_free (kind.TsInterfaceDecl declare) h = absurd (cc)
parameter_free (kind.TsTypeAliasDecl declare) h = absurd (cc)
parameter_free _ h = refl

declarator_free : IsFree sort.VarDeclarator
declarator_free kind.TsType h = absurd (cc)
declarator_free kind.TsTypeParamDecl h = absurd (cc)
declarator_free kind.TsTypeParamInstantiation h = absurd (cc)
declarator_free (kind.TsIndexSignature readonly is_static) h = absurd (cc)
declarator_free (kind.TsInterfaceDecl declare) h = absurd (cc)
declarator_free (kind.TsTypeAliasDecl declare) h = absurd (cc)
declarator_free _ h = refl

free_mapped : (s : Sort) → IsFree s → (n : Node) → Shaped (one (sorted s)) n → Mapped n
free_mapped s free n h = mapped n (free (kind_of n) (shaped_kind (one (sorted s)) n h))

pub function_mapped : (n : Node) → Shaped (one (sorted sort.Function)) n → Mapped n
function_mapped = free_mapped sort.Function function_free

pub parameter_mapped : (n : Node) → Shaped (one (sorted sort.ParamOrTsParamProp)) n → Mapped n
parameter_mapped = free_mapped sort.ParamOrTsParamProp parameter_free

pub declarator_mapped : (n : Node) → Shaped (one (sorted sort.VarDeclarator)) n → Mapped n
declarator_mapped = free_mapped sort.VarDeclarator declarator_free

-- lists

module _ (r : RawSort) where
  pub list_mapped : (n : Node) → Shaped (many r) n → Mapped n
  list_mapped n h = mapped n (list_free (kind_of n) (shaped_kind (many r) n h))

  -- each has the shape of an item
  abbrev pub EachShaped : List Node → Type 0
  EachShaped [] = Unit {0}
  EachShaped (n ∷ ns) = Shaped (one (item_sort r)) n × EachShaped ns

  replicated : (ns : List Node) → HaveRaw (replicate (length (map bared ns)) (one (item_sort r))) (map bared ns) → EachShaped ns
  replicated [] h = tt
  replicated (n ∷ ns) h = (h.0, replicated ns h.1)

  items_by : (k : Kind) → is_list k ≡ true → (ns : List Node) → HaveRaw (child_shapes_raw k (many r) (length (map bared ns))) (map bared ns) → EachShaped ns
  items_by kind.List is ns h = replicated ns h
  items_by _ is ns h = absurd (cc)

  pub list_items : (n : Node) → Shaped (many r) n → EachShaped (out-Node n).children
  list_items n h =
      let p = parts_of (bared n) (many r) h in
      items_by (kind_of (bared n)) p.0 (out-Node n).children (subst (λ (ns : List Node). HaveRaw (child_shapes_raw (kind_of (bared n)) (many r) (length ns)) ns) (list_mapped n h) p.1)
