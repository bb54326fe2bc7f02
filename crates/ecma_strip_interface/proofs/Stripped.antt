-- A module has the interface that it has without its types.
use Rattle.std.proofs.Common.{◌≡◌, ◌∙◌, ◌⊎◌, inl, inr, ◌&&◌, ◌||◌, not, ℕ, zero, suc, Bool, true, false, cond, List, [], ◌∷◌, ◌++◌, filter, flat_map, map, Option, Some, None, refl, sym, ap, ap₂, subst, slice_get}
use Rattle.ecma_kind.specs.Sorts.{belongs}
use Rattle.ecma_kind.specs.declared.kind.Kind.{Kind}
use Rattle.ecma_kind.specs.declared.kind.Kind.TheVariants as kind
use Rattle.ecma_kind.specs.declared.shapes.Sort.TheVariants as sort
use Rattle.ecma_tree.specs.declared.node.Node.{Node, Node-F, out-Node}
use Rattle.ecma_tree.specs.declared.node.Node.TheViews.{out-roll-Node}
use Rattle.ecma_tree.specs.Sorted.{HasShape, is_list, many, one}
use Rattle.ecma_tree.proofs.Layers.{from_leaves_out}
use Rattle.ecma_rules.specs.Children.{children_of as items_of, items_at, kind_of}
use Rattle.ecma_rules.specs.Failing.{failing_here}
use Rattle.ecma_fits.specs.declared.unfit.Where.{Where}
use Rattle.ecma_fits.specs.Counts.{is_full_by, is_short}
use Rattle.ecma_fits.specs.Fitting.{Fits, at_top, where_in}
use Rattle.ecma_strip.specs.Staying.{is_empty_stmt, stays}
use Rattle.ecma_strip.specs.Stripping.{changed_at, plain_children, plain_kind, stripped, without_empty}
use Rattle.ecma_strip_fits.proofs.Classes.{class_of}
use Rattle.ecma_strip_fits.proofs.Classes.Class.{Usual}
use Rattle.ecma_strip_fits.proofs.Lists.{filter_at, filter_passes, map_at}
use Rattle.ecma_strip_fits.proofs.Strays.{not_failing}
use Rattle.ecma_strip_fits.proofs.Walk.{listed_parts, usual_children, usual_kind}
use Rattle.ecma_bind_fits.proofs.Bound.{parts_none}
use Rattle.ecma_sources.specs.TypesAlone.{adds_types_alone, adds_types_by, alone_step, is_lowered, staying_hold}
use Rattle.ecma_interface.specs.Names.{Id}
use Rattle.ecma_interface.specs.Reading.{export, import, interface_of, re_export}
use Rattle.ecma_interface_laws.proofs.Alike.{children_of}
use Rattle.ecma_interface_laws.proofs.Items.{IsSilent, Tells, made_of, none_told}
use Rattle.ecma_interface_laws.proofs.Telling.{Shapes, child_shaped, is_item, list_shaped, listed_shaped, shapes_of, silent}
use Rattle.ecma_strip_interface.specs.Laws.{StrippingKeepsInterfaces}
use Rattle.ecma_strip_interface.proofs.Items.{declaration_usual, item_full, item_remains, item_tells}
use Rattle.ecma_strip_interface.proofs.Patterns.{Stands, stands_below}

-- ---- what is told of the items that stay

abbrev is_full : Node → Bool
is_full n = not (is_empty_stmt (out-Node n).kind)

-- with their types and without: nothing, or the same, and then they stay
abbrev Kept : (Id → List ℕ) → Node → Type 0
Kept text n = (IsSilent text n × IsSilent text (stripped n)) ⊎ (Tells text text n (stripped n) × (stays (stripped n) ≡ true) × (is_full (stripped n) ≡ true))

module _ {X : Type 0} (told : Node → List X) where
  abbrev KeptBy : Node → Type 0
  KeptBy n = ((told n ≡ []) × (told (stripped n) ≡ [])) ⊎ ((told (stripped n) ≡ told n) × (stays (stripped n) ≡ true) × (is_full (stripped n) ≡ true))

  abbrev left : List Node → List Node
  left ns = filter is_full (map stripped (filter stays ns))

  silent_told : (n : Node) (ns : List Node) → told n ≡ [] → flat_map told (filter stays (filter is_full (n ∷ ns))) ≡ flat_map told (filter stays (filter is_full ns))
  silent_told n ns none = by (is_full n)
    where
      by : (b : Bool) → flat_map told (filter stays (cond b (n ∷ filter is_full ns) (filter is_full ns))) ≡ flat_map told (filter stays (filter is_full ns))
      by true = none_told told n (filter is_full ns) none
      by false = refl

  one_told : (n : Node) (ns : List Node) → KeptBy n → flat_map told (filter stays (left ns)) ≡ flat_map told (filter stays ns)
      → flat_map told (filter stays (filter is_full (stripped n ∷ map stripped (filter stays ns)))) ≡ told n ++ flat_map told (filter stays ns)
  one_told n ns (inl k) rest = silent_told (stripped n) (map stripped (filter stays ns)) k.1 ∙ rest ∙ ap (λ xs. xs ++ flat_map told (filter stays ns)) (sym k.0)
  one_told n ns (inr k) rest =
      ap (λ b. flat_map told (filter stays (cond b (stripped n ∷ left ns) (left ns)))) k.2
      ∙ ap (λ b. flat_map told (cond b (stripped n ∷ filter stays (left ns)) (filter stays (left ns)))) k.1
      ∙ ap₂ (λ xs ys. xs ++ ys) k.0 rest

  next_told : (n : Node) (ns : List Node) → (stays n ≡ true → KeptBy n) → flat_map told (filter stays (left ns)) ≡ flat_map told (filter stays ns) → (b : Bool) → stays n ≡ b
      → flat_map told (filter stays (filter is_full (map stripped (cond b (n ∷ filter stays ns) (filter stays ns))))) ≡ flat_map told (cond b (n ∷ filter stays ns) (filter stays ns))
  next_told n ns kept rest true e = one_told n ns (kept e) rest
  next_told n ns kept rest false e = rest

  all_told : (ns : List Node) → ((i : ℕ) (n : Node) → slice_get ns i ≡ Some n → stays n ≡ true → KeptBy n) → flat_map told (filter stays (left ns)) ≡ flat_map told (filter stays ns)
  all_told [] h = refl
  all_told (n ∷ ns) h = next_told n ns (h 0 n refl) (all_told ns (λ i x at. h (suc i) x at)) (stays n) refl

module _ (text : Id → List ℕ) where
  imports_of : (n : Node) → Kept text n → KeptBy (import text) n
  imports_of n (inl k) = let a : IsSilent text n = k.0 in let b : IsSilent text (stripped n) = k.1 in inl (a.0, b.0)
  imports_of n (inr k) = let t : Tells text text n (stripped n) = k.0 in inr (t.0, k.1, k.2)

  again_of : (n : Node) → Kept text n → KeptBy re_export n
  again_of n (inl k) = let a : IsSilent text n = k.0 in let b : IsSilent text (stripped n) = k.1 in inl (a.1, b.1)
  again_of n (inr k) = let t : Tells text text n (stripped n) = k.0 in inr (t.1, k.1, k.2)

  exports_of : (n : Node) → Kept text n → KeptBy (export text) n
  exports_of n (inl k) = let a : IsSilent text n = k.0 in let b : IsSilent text (stripped n) = k.1 in inl (a.2, b.2)
  exports_of n (inr k) = let t : Tells text text n (stripped n) = k.0 in inr (t.2, k.1, k.2)

-- ---- what is no item becomes none

item_usual : (k : Kind) → belongs sort.ModuleItem k ≡ true → class_of k ≡ Usual
unfolding class_of
item_usual kind.TsTypeAnn b = cc
item_usual kind.TsType b = cc
item_usual kind.TsTypeParamDecl b = cc
item_usual kind.TsTypeParamInstantiation b = cc
item_usual kind.TsTypeAssertion b = cc
item_usual kind.TsConstAssertion b = cc
item_usual kind.TsNonNullExpr b = cc
item_usual kind.TsAsExpr b = cc
item_usual kind.TsInstantiation b = cc
item_usual kind.TsSatisfiesExpr b = cc
item_usual kind.List b = cc
item_usual _ b = refl

plain_item : (k : Kind) → belongs sort.ModuleItem k ≡ true → is_item k ≡ false → is_item (plain_kind k) ≡ false
unfolding plain_kind
plain_item (kind.Ident s c o) b f = cc
plain_item (kind.ArrayPat o) b f = cc
plain_item (kind.ObjectPat o) b f = cc
plain_item (kind.VarDeclarator d) b f = cc
plain_item (kind.Class a) b f = cc
plain_item (kind.Constructor a o) b f = cc
plain_item (kind.ClassMethod k m) b f = cc
plain_item (kind.PrivateMethod k m) b f = cc
plain_item (kind.ClassProp m r d e) b f = cc
plain_item (kind.PrivateProp m r d e) b f = cc
plain_item _ b f = f

lowered_plain : (k : Kind) → is_lowered (plain_kind k) ≡ is_lowered k
unfolding plain_kind
lowered_plain (kind.Ident s c o) = refl
lowered_plain _ = refl

plain_export : (k : Kind) → plain_kind k ≡ kind.ExportDecl → k ≡ kind.ExportDecl
unfolding plain_kind
plain_export kind.ExportDecl e = refl
plain_export _ e = cc

export_children : (x : Node) → kind_of x ≡ kind.ExportDecl → children_of (stripped x) ≡ map stripped (children_of x)
unfolding class_of plain_children
export_children x e = usual_children x (ap class_of e) ∙ ap (λ k. plain_children k (map stripped (children_of x))) e

stripped_item : (n : Node) → HasShape (one sort.ModuleItem) n → is_item (kind_of n) ≡ false → is_item (kind_of (stripped n)) ≡ false
stripped_item n h i = by (kind_of n) refl (shapes_of n (one sort.ModuleItem) h).0 i
  where
    kept : (k : Kind) → kind_of n ≡ k → class_of k ≡ Usual → is_item (plain_kind k) ≡ false → is_item (kind_of (stripped n)) ≡ false
    kept k e u f = ap is_item (usual_kind n (ap class_of e ∙ u) ∙ ap plain_kind e) ∙ f

    by : (k : Kind) → kind_of n ≡ k → belongs sort.ModuleItem k ≡ true → is_item k ≡ false → is_item (kind_of (stripped n)) ≡ false
    by k e b f = kept k e (item_usual k b) (plain_item k b f)

-- ---- what is known of the items of a tree

both : (a b : Bool) → (a && b) ≡ true → (a ≡ true) × (b ≡ true)
both true b h = (refl, h)
both false b h = cc

or_left : (a b : Bool) → (a || b) ≡ true → a ≡ false → b ≡ true
or_left true b h e = cc
or_left false b h e = h

not-true : (b : Bool) → not b ≡ true → b ≡ false
not-true true h = cc
not-true false h = refl

not-false : (b : Bool) → not b ≡ false → b ≡ true
not-false true h = refl
not-false false h = cc

alone_parts : (n : Node) → adds_types_alone n ≡ true → (is_lowered (kind_of n) ≡ false) × (staying_hold (is_list (kind_of n)) (children_of n) (map adds_types_alone (children_of n)) ≡ true)
alone_parts n h =
    let t = both (adds_types_by (kind_of n) (children_of n)) (staying_hold (is_list (kind_of n)) (children_of n) (map adds_types_alone (children_of n))) (sym (from_leaves_out Bool alone_step n) ∙ h) in
    (not-true (is_lowered (kind_of n)) (both (not (is_lowered (kind_of n))) _ t.0).0, t.1)

staying_at : (list : Bool) (cs : List Node) → staying_hold list cs (map adds_types_alone cs) ≡ true → (i : ℕ) (c : Node) → slice_get cs i ≡ Some c → (list && not (stays c)) ≡ false → adds_types_alone c ≡ true
staying_at list [] h i c at f = cc
staying_at list (x ∷ xs) h zero c at f =
    let t = both ((list && not (stays x)) || adds_types_alone x) (staying_hold list xs (map adds_types_alone xs)) h in
    let same_node : x ≡ c = cc in
    subst (λ z. (list && not (stays z)) ≡ false → adds_types_alone z ≡ true) same_node (or_left (list && not (stays x)) (adds_types_alone x) t.0) f
staying_at list (x ∷ xs) h (suc i) c at f = staying_at list xs (both ((list && not (stays x)) || adds_types_alone x) (staying_hold list xs (map adds_types_alone xs)) h).1 i c at f

-- below what is no list
alone_below : (n : Node) → adds_types_alone n ≡ true → is_list (kind_of n) ≡ false → (i : ℕ) (c : Node) → slice_get (children_of n) i ≡ Some c → adds_types_alone c ≡ true
alone_below n h l i c at = staying_at (is_list (kind_of n)) (children_of n) (alone_parts n h).1 i c at (ap (λ b. b && not (stays c)) l)

abbrev short_here : Where → Node → Option ℕ
short_here w n = failing_here (is_short n) n

module_kind : (k : Kind) → belongs sort.Module k ≡ true → (is_list k ≡ false) × (class_of k ≡ Usual) × ((cs : List Node) → plain_children k cs ≡ changed_at 0 without_empty cs) × Shapes k 0 (many sort.ModuleItem)
unfolding class_of plain_children
module_kind (kind.Module shebang) b = (refl, refl, (λ cs. refl), (λ s n. refl))
module_kind _ b = cc

module _ (text : Id → List ℕ) (tree : Node) (fits : Fits tree) (alone : adds_types_alone tree ≡ true) where
  shapes : belongs sort.Module (kind_of tree) ≡ true
  shapes = (shapes_of tree (one sort.Module) fits.sorted).0

  list_shaped_so : (l : Node) → slice_get (children_of tree) 0 ≡ Some l → HasShape (many sort.ModuleItem) l
  list_shaped_so l at = child_shaped tree (one sort.Module, fits.sorted) (kind_of tree) refl 0 (many sort.ModuleItem) (module_kind (kind_of tree) shapes).3 l at

  -- an item that stays
  module _ (l : Node) (there : slice_get (children_of tree) 0 ≡ Some l) (i : ℕ) (x : Node) (at : slice_get (children_of l) i ≡ Some x) (stay : stays x ≡ true) where
    shaped : HasShape (one sort.ModuleItem) x
    shaped = listed_shaped sort.ModuleItem l (list_shaped_so l there) i x at

    abbrev place : Where
    place = where_in (where_in at_top tree 0) l i

    stands : Stands x place
    stands = stands_below l (where_in at_top tree 0) (stands_below tree at_top fits.roles 0 l there) i x at

    full : is_full_by (kind_of x) x ≡ true
    full =
        let of_list = (parts_none Where short_here where_in tree at_top fits.counts).1 0 l there in
        let of_item = (parts_none Where short_here where_in l (where_in at_top tree 0) of_list).1 i x at in
        not-false (is_full_by (kind_of x) x) (not_failing (is_short x) x (parts_none Where short_here where_in x place of_item).0)

    native : adds_types_alone x ≡ true
    native =
        let of_list = alone_below tree alone (module_kind (kind_of tree) shapes).0 0 l there in
        staying_at (is_list (kind_of l)) (children_of l) (alone_parts l of_list).1 i x at
        (ap (λ b. b && not (stays x)) (ap is_list (list_shaped sort.ModuleItem l (list_shaped_so l there))) ∙ ap not stay)

    below : (c : Node) → slice_get (children_of x) 0 ≡ Some c → kind_of x ≡ kind.ExportDecl → is_lowered (kind_of c) ≡ false
    below c under e = (alone_parts c (alone_below x native (ap is_list e) 0 c under)).0

    kept : Kept text x
    kept = by (is_item (kind_of x)) refl
      where
        by : (b : Bool) → is_item (kind_of x) ≡ b → Kept text x
        by true e =
            let lowered = (alone_parts x native).0 in
            inr (
              item_tells text x place shaped stands full lowered below e,
              item_remains text x place shaped stands full lowered below e ∙ stay,
              ap not (item_full text x place shaped stands full lowered below e),
            )
        by false e = inl (silent text x e, silent text (stripped x) (stripped_item x shaped e))

  all_kept : (o : Option Node) → slice_get (children_of tree) 0 ≡ o → (i : ℕ) (x : Node) → slice_get (items_of o) i ≡ Some x → stays x ≡ true → Kept text x
  all_kept None e i x at stay = cc
  all_kept (Some l) e i x at stay = kept l e i x at stay

  items_left : (ns : List Node) → ((l : Node) → slice_get ns 0 ≡ Some l → is_list (kind_of l) ≡ true)
      → items_of (slice_get (changed_at 0 without_empty (map stripped ns)) 0) ≡ filter is_full (map stripped (filter stays (items_of (slice_get ns 0))))
  items_left [] h = refl
  items_left (l ∷ ns) h =
      let parts = listed_parts l (h l refl) in
      let made : Node-F Node = record { span = (out-Node (stripped l)).span; kind = (out-Node (stripped l)).kind; children = filter is_full (children_of (stripped l)) } in
      ap (λ (z : Node-F Node). z.children) (out-roll-Node made) ∙ ap (λ (z : Node-F Node). filter is_full z.children) parts

  stripped_items : items_at (stripped tree) 0 ≡ filter is_full (map stripped (filter stays (items_at tree 0)))
  stripped_items =
      let m = module_kind (kind_of tree) shapes in
      ap (λ (z : List Node). items_of (slice_get z 0)) (usual_children tree m.1 ∙ m.2 (map stripped (children_of tree)))
      ∙ items_left (children_of tree) (λ l at. ap is_list (list_shaped sort.ModuleItem l (list_shaped_so l at)))

  left_as : {X : Type 0} (told : Node → List X) → flat_map told (filter stays (items_at (stripped tree) 0)) ≡ flat_map told (filter stays (filter is_full (map stripped (filter stays (items_at tree 0)))))
  left_as told = ap (λ (z : List Node). flat_map told (filter stays z)) stripped_items

  same : interface_of text (stripped tree) ≡ interface_of text tree
  same =
      let ns = items_at tree 0 in
      let all = all_kept (slice_get (children_of tree) 0) refl in
      let imports = left_as (import text) ∙ all_told (import text) ns (λ i x at stay. imports_of text x (all i x at stay)) in
      let again = left_as re_export ∙ all_told re_export ns (λ i x at stay. again_of text x (all i x at stay)) in
      let exports = left_as (export text) ∙ all_told (export text) ns (λ i x at stay. exports_of text x (all i x at stay)) in
      λ j. made_of (imports j) (again j) (exports j)

  -- ---- what is left is not lowered

  -- an item that is left was one that stays
  item_before : (o : Option Node) → slice_get (children_of tree) 0 ≡ o → (i : ℕ) (y : Node) → slice_get (filter is_full (map stripped (filter stays (items_of o)))) i ≡ Some y
      → (x : Node) × (stripped x ≡ y) × (HasShape (one sort.ModuleItem) x) × (adds_types_alone x ≡ true)
  item_before None there i y at = cc
  item_before (Some l) there i y at =
      let a = filter_at is_full (map stripped (filter stays (children_of l))) i y at in
      let b = map_at stripped (filter stays (children_of l)) a.0 y a.1 in
      let c = filter_at stays (children_of l) a.0 b.0 b.1 in
      let stay = filter_passes stays (children_of l) a.0 b.0 b.1 in
      (b.0, b.2, shaped l there c.0 b.0 c.1 stay, native l there c.0 b.0 c.1 stay)

  abbrev pub IsNative : Node → Type 0
  IsNative y = (is_lowered (kind_of y) ≡ false) × ((d : Node) → slice_get (children_of y) 0 ≡ Some d → kind_of y ≡ kind.ExportDecl → is_lowered (kind_of d) ≡ false)

  native_after : (x y : Node) → stripped x ≡ y → HasShape (one sort.ModuleItem) x → adds_types_alone x ≡ true → IsNative y
  native_after x y is h a = subst IsNative is (own, declared)
    where
      kinds : kind_of (stripped x) ≡ plain_kind (kind_of x)
      kinds = usual_kind x (item_usual (kind_of x) (shapes_of x (one sort.ModuleItem) h).0)

      own : is_lowered (kind_of (stripped x)) ≡ false
      own = ap is_lowered kinds ∙ lowered_plain (kind_of x) ∙ (alone_parts x a).0

      declared : (d : Node) → slice_get (children_of (stripped x)) 0 ≡ Some d → kind_of (stripped x) ≡ kind.ExportDecl → is_lowered (kind_of d) ≡ false
      declared d at e =
          let k = plain_export (kind_of x) (sym kinds ∙ e) in
          let cs : children_of (stripped x) ≡ map stripped (children_of x) = export_children x k in
          let b = map_at stripped (children_of x) 0 d (ap (λ (z : List Node). slice_get z 0) (sym cs) ∙ at) in
          let shape = child_shaped x (one sort.ModuleItem, h) kind.ExportDecl k 0 (one sort.Decl) (λ s n. refl) b.0 b.1 in
          ap (λ z. is_lowered (kind_of z)) (sym b.2)
          ∙ ap is_lowered (usual_kind b.0 (declaration_usual (kind_of b.0) (shapes_of b.0 (one sort.Decl) shape).0)) ∙ lowered_plain (kind_of b.0) ∙ (alone_parts b.0 (alone_below x a (ap is_list k) 0 b.0 b.1)).0

  pub left_native : (i : ℕ) (y : Node) → slice_get (items_at (stripped tree) 0) i ≡ Some y → IsNative y
  left_native i y at =
      let t = item_before (slice_get (children_of tree) 0) refl i y (ap (λ (z : List Node). slice_get z i) (sym stripped_items) ∙ at) in
      native_after t.0 y t.1 t.2 t.3

pub stripping_keeps : StrippingKeepsInterfaces
stripping_keeps text tree fits alone = same text tree fits alone
