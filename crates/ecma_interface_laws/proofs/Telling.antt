-- Where items are alike in what interfaces look at, they tell the same.
use Rattle.std.proofs.Common.{◌≡◌, ◌∙◌, inl, inr, ℕ, zero, suc, Bool, true, false, ◌&&◌, not, cond, codes, List, [], ◌∷◌, ◌++◌, flat_map, map, length, Option, Some, None, refl, sym, ap, ap₂, subst, slice_get}
use Rattle.ecma_kind.specs.Sorts.{belongs}
use Rattle.ecma_kind.specs.declared.kind.Kind.{Kind}
use Rattle.ecma_kind.specs.declared.kind.Kind.TheVariants as kind
use Rattle.ecma_kind.specs.declared.shapes.Shape.{Shape}
use Rattle.ecma_kind.specs.declared.shapes.Sort.{Sort}
use Rattle.ecma_kind.specs.declared.shapes.Sort.TheVariants as sort
use Rattle.ecma_tree.specs.declared.node.Node.{Node, out-Node}
use Rattle.ecma_tree.specs.declared.node.Node.TheViews.{roll-out-Node}
use Rattle.ecma_tree.specs.Laws.{HaveShapes}
use Rattle.ecma_tree.specs.Sorted.{HasShape, HasSort, allows, child_shapes, is_list, many, maybe, one}
use Rattle.ecma_tree.specs.Values.{is_value}
use Rattle.ecma_tree.proofs.ShapeLaws.{node_has_shape}
use Rattle.ecma_rules.specs.Children.{child_is, children_of as items_of, has_child, is_present, items_at, kind_of, of_kind}
use Rattle.ecma_strip.specs.Staying.{if_there, is_ambient, is_declared, is_empty_stmt, is_export, is_this, is_this_by, is_this_param, is_this_param_by, item_stays, member_stays, member_stays_by, specifier_stays, stays}
use Rattle.ecma_interface.specs.Interface.{AllNames, AsObject, ByName, Export, NameAs, ObjectAs}
use Rattle.ecma_interface.specs.Names.{Id}
use Rattle.ecma_interface.specs.Reading.{again, again_by, attribute, attributes_of, bound_at, bound_of, by_its_name, default_of, export_by, export_specifier, export_specifier_by, import_by, import_entry, import_entry_by, interface_of, is_required, re_export_by, request_at, said_at, said_of, second_name, variable_at}
use Rattle.ecma_interface_laws.proofs.Alike.{Alike, Related, RelatedAt, Step, children_of, declared_step, dull, named, quoted, related_at, required_step, said_there, same, shown_same, there_step, told_step, value_same, variable_there}
use Rattle.ecma_interface_laws.proofs.Items.{IsSilent, SameItem, SameItems, Tells, interface_same}
use Rattle.ecma_interface_laws.proofs.Looking.{dull_not_named, dull_not_told, is_dull, is_named, is_told, matters}

-- ---- items that may tell something

abbrev pub is_item : Kind → Bool
is_item (kind.ImportDecl type_only) = true
is_item kind.ExportDecl = true
is_item (kind.NamedExport type_only) = true
is_item kind.ExportDefaultDecl = true
is_item kind.ExportDefaultExpr = true
is_item (kind.ExportAll type_only) = true
is_item (kind.TsImportEqualsDecl is_export is_type_only) = true
is_item _ = false

pub item_told : (k : Kind) → is_item k ≡ true → is_told k ≡ true
unfolding is_told
item_told (kind.ImportDecl type_only) i = refl
item_told kind.ExportDecl i = refl
item_told (kind.NamedExport type_only) i = refl
item_told kind.ExportDefaultDecl i = refl
item_told kind.ExportDefaultExpr i = refl
item_told (kind.ExportAll type_only) i = refl
item_told (kind.TsImportEqualsDecl is_export is_type_only) i = refl
item_told _ i = cc

module _ (text : Id → List ℕ) where
  no_import : (k : Kind) (n : Node) → is_item k ≡ false → import_by text k n ≡ []
  no_import (kind.ImportDecl type_only) n h = cc
  no_import _ n h = refl

  no_export : (k : Kind) (n : Node) → is_item k ≡ false → export_by text k n ≡ []
  no_export kind.ExportDecl n h = cc
  no_export kind.ExportDefaultDecl n h = cc
  no_export kind.ExportDefaultExpr n h = cc
  no_export (kind.NamedExport type_only) n h = cc
  no_export (kind.TsImportEqualsDecl is_export is_type_only) n h = cc
  no_export _ n h = refl

no_re_export : (k : Kind) (n : Node) → is_item k ≡ false → re_export_by k n ≡ []
no_re_export (kind.NamedExport type_only) n h = cc
no_re_export (kind.ExportAll type_only) n h = cc
no_re_export _ n h = refl

-- any other tells nothing
pub silent : (text : Id → List ℕ) (n : Node) → is_item (kind_of n) ≡ false → IsSilent text n
silent text n h = (no_import text (kind_of n) n h, no_re_export (kind_of n) n h, no_export text (kind_of n) n h)

-- ---- which of them stay

all_true : (a b c d : Bool) → b ≡ true → c ≡ true → d ≡ false → ((a && b) && c && not d) ≡ a
all_true true true true false e f g = refl
all_true false b c d e f g = refl
all_true true false c d e f g = cc
all_true true true false d e f g = cc
all_true true true true true e f g = cc

item_module : (k : Kind) → is_item k ≡ true → (b : Bool) → cond (is_empty_stmt k) true (cond (belongs sort.ModuleItem k) b true) ≡ b
item_module (kind.ImportDecl type_only) i b = refl
item_module kind.ExportDecl i b = refl
item_module (kind.NamedExport type_only) i b = refl
item_module kind.ExportDefaultDecl i b = refl
item_module kind.ExportDefaultExpr i b = refl
item_module (kind.ExportAll type_only) i b = refl
item_module (kind.TsImportEqualsDecl is_export is_type_only) i b = refl
item_module _ i b = cc

item_member : (k : Kind) → is_item k ≡ true → (n : Node) → member_stays_by k n ≡ true
unfolding member_stays_by
item_member (kind.ImportDecl type_only) i n = refl
item_member kind.ExportDecl i n = refl
item_member (kind.NamedExport type_only) i n = refl
item_member kind.ExportDefaultDecl i n = refl
item_member kind.ExportDefaultExpr i n = refl
item_member (kind.ExportAll type_only) i n = refl
item_member (kind.TsImportEqualsDecl is_export is_type_only) i n = refl
item_member _ i n = cc

item_specifier : (k : Kind) → is_item k ≡ true → specifier_stays k ≡ true
unfolding specifier_stays
item_specifier (kind.ImportDecl type_only) i = refl
item_specifier kind.ExportDecl i = refl
item_specifier (kind.NamedExport type_only) i = refl
item_specifier kind.ExportDefaultDecl i = refl
item_specifier kind.ExportDefaultExpr i = refl
item_specifier (kind.ExportAll type_only) i = refl
item_specifier (kind.TsImportEqualsDecl is_export is_type_only) i = refl
item_specifier _ i = cc

item_this : (k : Kind) → is_item k ≡ true → (n : Node) → is_this_by k n ≡ false
item_this kind.BindingIdent i n = cc
item_this _ i n = refl

item_param : (k : Kind) → is_item k ≡ true → (n : Node) → is_this_param_by k n ≡ is_this n
item_param kind.Param i n = cc
item_param _ i n = refl

-- where it is a value that is not ambient
pub item_stays_where : (n : Node) → is_item (kind_of n) ≡ true → stays n ≡ (is_value n && not (is_ambient n))
unfolding stays
item_stays_where n i =
    all_true (item_stays n) (member_stays n) (specifier_stays (kind_of n)) (is_this_param n) (item_member (kind_of n) i n) (item_specifier (kind_of n) i) (item_param (kind_of n) i n ∙ item_this (kind_of n) i n)
    ∙ item_module (kind_of n) i (is_value n && not (is_ambient n))

item_not_declared : (k : Kind) → is_item k ≡ true → is_declared k ≡ false
unfolding is_declared
item_not_declared (kind.ImportDecl type_only) i = refl
item_not_declared kind.ExportDecl i = refl
item_not_declared (kind.NamedExport type_only) i = refl
item_not_declared kind.ExportDefaultDecl i = refl
item_not_declared kind.ExportDefaultExpr i = refl
item_not_declared (kind.ExportAll type_only) i = refl
item_not_declared (kind.TsImportEqualsDecl is_export is_type_only) i = refl
item_not_declared _ i = cc

abbrev pub first_declared : Node → Bool
first_declared n = if_there (slice_get (children_of n) 0) (λ x. is_declared (kind_of x))

-- where both are values or none is, and both export what is declared or none does
pub items_stay : (a b : Node) → kind_of b ≡ kind_of a → is_item (kind_of a) ≡ true → is_value b ≡ is_value a → (kind_of a ≡ kind.ExportDecl → first_declared b ≡ first_declared a) → stays b ≡ stays a
items_stay a b kinds i values declared =
    item_stays_where b (ap is_item kinds ∙ i)
    ∙ ap₂ (λ v w. v && not w) values (ap (λ k. cond (is_export k) (first_declared b) (is_declared k)) kinds ∙ by (kind_of a) refl)
    ∙ sym (item_stays_where a i)
  where
    by : (k : Kind) → kind_of a ≡ k → cond (is_export k) (first_declared b) (is_declared k) ≡ cond (is_export k) (first_declared a) (is_declared k)
    by kind.ExportDecl e = declared e
    by _ e = refl

-- ---- shapes

-- a node of a sorted tree
abbrev pub IsShaped : Node → Type 0
IsShaped n = (shape : Shape) × HasShape shape n

pub shapes_of : (n : Node) (o : Shape) → HasShape o n → (allows o (kind_of n) ≡ true) × HaveShapes (child_shapes (kind_of n) o (length (children_of n))) (children_of n)
shapes_of n o h = let x = out-Node n in (node_has_shape x.span x.kind x.children o).0 (subst (HasShape o) (sym (roll-out-Node n)) h)

-- the shape of a child
pub shape_at : (os : List Shape) (cs : List Node) → HaveShapes os cs → (i : ℕ) (c : Node) → slice_get cs i ≡ Some c → (o : Shape) → slice_get os i ≡ Some o → HasShape o c
shape_at [] [] h i c at o is = cc
shape_at [] (x ∷ xs) h i c at o is = absurd h
shape_at (s ∷ os) [] h i c at o is = absurd h
shape_at (s ∷ os) (x ∷ xs) h zero c at o is = let same_node : x ≡ c = cc in let same_shape : s ≡ o = cc in subst (λ z. HasShape z c) same_shape (subst (HasShape s) same_node h.0)
shape_at (s ∷ os) (x ∷ xs) h (suc i) c at o is = shape_at os xs h.1 i c at o is

only_list : (k : Kind) → is_list k ≡ true → k ≡ kind.List
only_list kind.List l = refl
only_list _ l = cc

-- of a node of this kind what stands there has this shape
abbrev pub Shapes : Kind → ℕ → Shape → Type 0
Shapes k i o = (s : Shape) (n : ℕ) → slice_get (child_shapes k s n) i ≡ Some o

pub child_shaped : (n : Node) → IsShaped n → (k : Kind) → kind_of n ≡ k → (i : ℕ) (o : Shape) → Shapes k i o → (c : Node) → slice_get (children_of n) i ≡ Some c → HasShape o c
child_shaped n s k e i o is c at =
    let has = subst (λ (z : Kind). HaveShapes (child_shapes z s.0 (length (children_of n))) (children_of n)) e (shapes_of n s.0 s.1).1 in
    shape_at (child_shapes k s.0 (length (children_of n))) (children_of n) has i c at o (is s.0 (length (children_of n)))

pub list_shaped : (σ : Sort) (c : Node) → HasShape (many σ) c → kind_of c ≡ kind.List
list_shaped σ c h = only_list (kind_of c) (shapes_of c (many σ) h).0

-- an item of a list has the shape of items
pub listed_shaped : (σ : Sort) (c : Node) → HasShape (many σ) c → (i : ℕ) (x : Node) → slice_get (children_of c) i ≡ Some x → HasShape (one σ) x
listed_shaped σ c h i x at =
    let has = subst (λ (z : Kind). HaveShapes (child_shapes z (many σ) (length (children_of c))) (children_of c)) (list_shaped σ c h) (shapes_of c (many σ) h).1 in
    go (children_of c) has i x at
  where
    go : (cs : List Node) → HaveShapes (child_shapes kind.List (many σ) (length cs)) cs → (i : ℕ) (x : Node) → slice_get cs i ≡ Some x → HasShape (one σ) x
    go [] has i x at = cc
    go (c ∷ cs) has zero x at = let same_node : c ≡ x = cc in subst (HasShape (one σ)) same_node has.0
    go (c ∷ cs) has (suc i) x at = go cs has.1 i x at

-- ---- properties, as attributes are

prop_told : (k : Kind) → belongs sort.PropOrSpread k ≡ true → is_named k ≡ false → is_told k ≡ true
unfolding is_told
prop_told (kind.Ident sym_ ctxt optional) b h = cc
prop_told kind.KeyValueProp b h = refl
prop_told kind.AssignProp b h = refl
prop_told kind.GetterProp b h = refl
prop_told kind.SetterProp b h = refl
prop_told kind.MethodProp b h = refl
prop_told kind.SpreadElement b h = refl
prop_told _ b h = cc

prop_matters : (k : Kind) → belongs sort.PropOrSpread k ≡ true → is_told k ≡ true → (matters k 0 ≡ true) × (matters k 1 ≡ true)
unfolding is_told matters
prop_matters (kind.Ident sym_ ctxt optional) b h = cc
prop_matters kind.KeyValueProp b h = (refl, refl)
prop_matters kind.AssignProp b h = (refl, refl)
prop_matters kind.GetterProp b h = (refl, refl)
prop_matters kind.SetterProp b h = (refl, refl)
prop_matters kind.MethodProp b h = (refl, refl)
prop_matters kind.SpreadElement b h = (refl, refl)
prop_matters _ b h = cc

no_children : (k : Kind) (s : Shape) (n : ℕ) (cs : List Node) → is_named k ≡ true → HaveShapes (child_shapes k s n) cs → cs ≡ []
no_children (kind.Ident sym_ ctxt optional) s n [] h has = refl
no_children (kind.Ident sym_ ctxt optional) s n (c ∷ cs) h has = absurd has
no_children _ s n cs h has = cc

pub listed : (i : ℕ) → matters kind.List i ≡ true
unfolding matters
listed i = refl

-- ---- specifiers

-- of nodes that are no specifiers nothing is told
abbrev is_specifier : Kind → Bool
is_specifier kind.ImportDefaultSpecifier = true
is_specifier kind.ImportStarAsSpecifier = true
is_specifier (kind.ImportNamedSpecifier is_type_only) = true
is_specifier kind.ExportNamespaceSpecifier = true
is_specifier (kind.ExportNamedSpecifier is_type_only) = true
is_specifier _ = false

no_entry : (t : Id → List ℕ) (k : Kind) (n : Node) → is_specifier k ≡ false → import_entry_by t k n ≡ []
no_entry t kind.ImportDefaultSpecifier n h = cc
no_entry t kind.ImportStarAsSpecifier n h = cc
no_entry t (kind.ImportNamedSpecifier is_type_only) n h = cc
no_entry t _ n h = refl

no_again : (k : Kind) (n : Node) → is_specifier k ≡ false → again_by k n ≡ []
no_again kind.ExportNamespaceSpecifier n h = cc
no_again (kind.ExportNamedSpecifier is_type_only) n h = cc
no_again _ n h = refl

no_specifier : (t : Id → List ℕ) (k : Kind) (n : Node) → is_specifier k ≡ false → export_specifier_by t k n ≡ []
no_specifier t (kind.ExportNamedSpecifier is_type_only) n h = cc
no_specifier t _ n h = refl

dull_unspecified : (k : Kind) → is_dull k ≡ true → is_specifier k ≡ false
unfolding is_told is_dull
dull_unspecified kind.ImportDefaultSpecifier h = cc
dull_unspecified kind.ImportStarAsSpecifier h = cc
dull_unspecified (kind.ImportNamedSpecifier is_type_only) h = cc
dull_unspecified kind.ExportNamespaceSpecifier h = cc
dull_unspecified (kind.ExportNamedSpecifier is_type_only) h = cc
dull_unspecified _ h = refl

specifier_told : (k : Kind) → is_specifier k ≡ true → is_told k ≡ true
unfolding is_told
specifier_told kind.ImportDefaultSpecifier h = refl
specifier_told kind.ImportStarAsSpecifier h = refl
specifier_told (kind.ImportNamedSpecifier is_type_only) h = refl
specifier_told kind.ExportNamespaceSpecifier h = refl
specifier_told (kind.ExportNamedSpecifier is_type_only) h = refl
specifier_told _ h = cc

dull_no_item : (k : Kind) → is_dull k ≡ true → is_item k ≡ false
unfolding is_told is_dull
dull_no_item (kind.ImportDecl type_only) h = cc
dull_no_item kind.ExportDecl h = cc
dull_no_item (kind.NamedExport type_only) h = cc
dull_no_item kind.ExportDefaultDecl h = cc
dull_no_item kind.ExportDefaultExpr h = cc
dull_no_item (kind.ExportAll type_only) h = cc
dull_no_item (kind.TsImportEqualsDecl is_export is_type_only) h = cc
dull_no_item _ h = refl

module_told : (k : Kind) → belongs sort.Module k ≡ true → (is_told k ≡ true) × (matters k 0 ≡ true) × Shapes k 0 (many sort.ModuleItem)
unfolding is_told matters
module_told (kind.Module shebang) h = (refl, refl, λ s n. refl)
module_told _ h = cc

-- the default export, by the names of what it declares
abbrev default_from : List Export → List Export
default_from [] = record { exported = codes "default"; local = codes "*default*" } ∷ []
default_from (pair ∷ pairs) = record { exported = codes "default"; local = pair.local } ∷ []

default_is : (text : Id → List ℕ) (ids : List Id) → default_of text ids ≡ default_from (map (by_its_name text) ids)
default_is text [] = refl
default_is text (id ∷ ids) = refl

-- by the texts of the first tree, and by those of the second
module _ (text other : Id → List ℕ) (R : Node → Node → Type 0) (alike : (a b : Node) → R a b → Alike text other R a b) where
  -- ---- children that are looked at

  said_child : (k : Kind) (a b : Node) → Related R (matters k) (children_of a) (children_of b) → (i : ℕ) → matters k i ≡ true → said_at b i ≡ said_at a i
  said_child k a b r i e = said_there text other R alike (slice_get (children_of a) i) (slice_get (children_of b) i) (related_at R (matters k) (children_of a) (children_of b) r i e)

  variable_child : (k : Kind) (a b : Node) → Related R (matters k) (children_of a) (children_of b) → (i : ℕ) → matters k i ≡ true → variable_at other b i ≡ variable_at text a i
  variable_child k a b r i e = variable_there text other R alike (slice_get (children_of a) i) (slice_get (children_of b) i) (related_at R (matters k) (children_of a) (children_of b) r i e)

  present_there : (o p : Option Node) → RelatedAt R o p → of_kind is_present p ≡ of_kind is_present o
  present_there None None r = refl
  present_there None (Some d) r = absurd r
  present_there (Some c) None r = absurd r
  present_there (Some c) (Some d) r = ap not (there_step text other R (alike c d r))

  has_same : (k : Kind) (a b : Node) → Related R (matters k) (children_of a) (children_of b) → (i : ℕ) → matters k i ≡ true → has_child b i ≡ has_child a i
  has_same k a b r i e = present_there (slice_get (children_of a) i) (slice_get (children_of b) i) (related_at R (matters k) (children_of a) (children_of b) r i e)

  required_there : (o p : Option Node) → RelatedAt R o p → of_kind is_required p ≡ of_kind is_required o
  required_there None None r = refl
  required_there None (Some d) r = absurd r
  required_there (Some c) None r = absurd r
  required_there (Some c) (Some d) r = required_step text other R (alike c d r)

  required_same : (k : Kind) (a b : Node) → Related R (matters k) (children_of a) (children_of b) → (i : ℕ) → matters k i ≡ true → child_is is_required b i ≡ child_is is_required a i
  required_same k a b r i e = required_there (slice_get (children_of a) i) (slice_get (children_of b) i) (related_at R (matters k) (children_of a) (children_of b) r i e)

  second_same : (k : Kind) (a b : Node) → Related R (matters k) (children_of a) (children_of b) → matters k 0 ≡ true → matters k 1 ≡ true → second_name b ≡ second_name a
  second_same k a b r e f = λ j. cond (has_same k a b r 1 f j) (said_child k a b r 1 f j) (said_child k a b r 0 e j)

  -- ---- items of a list that is a child

  items_related : (o p : Option Node) → RelatedAt R o p → ((c : Node) → o ≡ Some c → kind_of c ≡ kind.List) → Related R (matters kind.List) (items_of o) (items_of p)
  unfolding is_told
  items_related None None r is = tt
  items_related None (Some d) r is = absurd r
  items_related (Some c) None r is = absurd r
  items_related (Some c) (Some d) r is = by (kind_of c) (kind_of d) (is c refl) (alike c d r)
    where
      by : (k l : Kind) → k ≡ kind.List → Step text other R k l (children_of c) (children_of d) → Related R (matters kind.List) (children_of c) (children_of d)
      by k l e s = subst (λ (z : Kind). Related R (matters z) (children_of c) (children_of d)) e (told_step text other R s (ap is_told e)).1

  items_same : (k : Kind) (a b : Node) → Related R (matters k) (children_of a) (children_of b) → (i : ℕ) → matters k i ≡ true → ((c : Node) → slice_get (children_of a) i ≡ Some c → kind_of c ≡ kind.List)
      → Related R (matters kind.List) (items_at a i) (items_at b i)
  items_same k a b r i e is = items_related (slice_get (children_of a) i) (slice_get (children_of b) i) (related_at R (matters k) (children_of a) (children_of b) r i e) is

  each_flat : {X : Type 0} (f g : Node → List X) → ((c d : Node) → R c d → g d ≡ f c) → (m : ℕ → Bool) → ((i : ℕ) → m i ≡ true) → (cs ds : List Node) → Related R m cs ds → flat_map g ds ≡ flat_map f cs
  each_flat f g one_same m w [] [] r = refl
  each_flat f g one_same m w [] (d ∷ ds) r = absurd r
  each_flat f g one_same m w (c ∷ cs) [] r = absurd r
  each_flat f g one_same m w (c ∷ cs) (d ∷ ds) r = ap₂ (λ xs ys. xs ++ ys) (one_same c d (r.0 (w 0))) (each_flat f g one_same (λ i. m (suc i)) (λ i. w (suc i)) cs ds r.1)

  -- ---- attributes

  attribute_step : {k l : Kind} {cs ds : List Node} → Step text other R k l cs ds → belongs sort.PropOrSpread k ≡ true → (is_named k ≡ true → cs ≡ [])
      → (said_of (slice_get ds 0) ≡ said_of (slice_get cs 0)) × (said_of (slice_get ds 1) ≡ said_of (slice_get cs 1))
  attribute_step (named {cs = cs} {ds} e n) b none =
      let here = none refl in
      let there = n here in
      (ap (λ (z : List Node). said_of (slice_get z 0)) (there ∙ sym here), ap (λ (z : List Node). said_of (slice_get z 1)) (there ∙ sym here))
  attribute_step quoted b none = cc
  attribute_step (dull {k} h g) b none = absurd (dull_not_told k h (prop_told k b (dull_not_named k h)))
  attribute_step (same {k} {cs} {ds} t r) b none =
      let m = prop_matters k b t in (
        said_there text other R alike (slice_get cs 0) (slice_get ds 0) (related_at R (matters k) cs ds r 0 m.0),
        said_there text other R alike (slice_get cs 1) (slice_get ds 1) (related_at R (matters k) cs ds r 1 m.1),
      )

  attribute_same : (c d : Node) → R c d → HasShape (one sort.PropOrSpread) c → attribute d ≡ attribute c
  attribute_same c d r h =
      let has = shapes_of c (one sort.PropOrSpread) h in
      let t = attribute_step (alike c d r) has.0 (λ e. no_children (kind_of c) (one sort.PropOrSpread) (length (children_of c)) (children_of c) e has.1) in
      λ j. record { key = t.0 j; value = t.1 j }

  attributes_same : (m : ℕ → Bool) → ((i : ℕ) → m i ≡ true) → (cs ds : List Node) → Related R m cs ds → ((i : ℕ) (c : Node) → slice_get cs i ≡ Some c → HasShape (one sort.PropOrSpread) c) → map attribute ds ≡ map attribute cs
  attributes_same m w [] [] r h = refl
  attributes_same m w [] (d ∷ ds) r h = absurd r
  attributes_same m w (c ∷ cs) [] r h = absurd r
  attributes_same m w (c ∷ cs) (d ∷ ds) r h =
      ap₂ (λ x xs. x ∷ xs) (attribute_same c d (r.0 (w 0)) (h 0 c refl)) (attributes_same (λ i. m (suc i)) (λ i. w (suc i)) cs ds r.1 (λ i x at. h (suc i) x at))

  empty_related : (m : ℕ → Bool) (s : Shape) (n : ℕ) (cs ds : List Node) → HaveShapes (child_shapes kind.Absent s n) cs → Related R m cs ds → map attribute (items_of (slice_get ds 0)) ≡ map attribute (items_of (slice_get cs 0))
  empty_related m s n [] [] has r = refl
  empty_related m s n [] (d ∷ ds) has r = absurd r
  empty_related m s n (c ∷ cs) ds has r = absurd has

  object_first : matters kind.ObjectLit 0 ≡ true
  unfolding matters
  object_first = refl

  object_step : (c d : Node) → HasShape (maybe sort.ObjectLit) c → (k l : Kind) → kind_of c ≡ k → Step text other R k l (children_of c) (children_of d) → allows (maybe sort.ObjectLit) k ≡ true
      → HaveShapes (child_shapes k (maybe sort.ObjectLit) (length (children_of c))) (children_of c) → map attribute (items_at d 0) ≡ map attribute (items_at c 0)
  unfolding is_told
  object_step c d h kind.Absent l e s a has = empty_related (matters kind.Absent) (maybe sort.ObjectLit) (length (children_of c)) (children_of c) (children_of d) has (told_step text other R s refl).1
  object_step c d h kind.ObjectLit l e s a has =
      let list : (x : Node) → slice_get (children_of c) 0 ≡ Some x → HasShape (many sort.PropOrSpread) x = child_shaped c (maybe sort.ObjectLit, h) kind.ObjectLit e 0 (many sort.PropOrSpread) (λ s n. refl) in
      let related = items_same kind.ObjectLit c d (told_step text other R s refl).1 0 object_first (λ x at. list_shaped sort.PropOrSpread x (list x at)) in
      attributes_same (matters kind.List) listed (items_at c 0) (items_at d 0) related (shaped (slice_get (children_of c) 0) list)
    where
      shaped : (o : Option Node) → ((x : Node) → o ≡ Some x → HasShape (many sort.PropOrSpread) x) → (i : ℕ) (x : Node) → slice_get (items_of o) i ≡ Some x → HasShape (one sort.PropOrSpread) x
      shaped None list i x at = cc
      shaped (Some n) list i x at = listed_shaped sort.PropOrSpread n (list n refl) i x at
  object_step c d h _ l e s a has = cc

  attributes_there : (o p : Option Node) → RelatedAt R o p → ((c : Node) → o ≡ Some c → HasShape (maybe sort.ObjectLit) c) → attributes_of p ≡ attributes_of o
  attributes_there None None r h = refl
  attributes_there None (Some d) r h = absurd r
  attributes_there (Some c) None r h = absurd r
  attributes_there (Some c) (Some d) r h =
      let has = shapes_of c (maybe sort.ObjectLit) (h c refl) in
      object_step c d (h c refl) (kind_of c) (kind_of d) refl (alike c d r) has.0 has.1

  request_same : (k : Kind) (a b : Node) → Related R (matters k) (children_of a) (children_of b) → (i j : ℕ) → matters k i ≡ true → matters k j ≡ true
      → ((c : Node) → slice_get (children_of a) j ≡ Some c → HasShape (maybe sort.ObjectLit) c) → request_at b i j ≡ request_at a i j
  request_same k a b r i j e f shaped =
      let attributes = attributes_there (slice_get (children_of a) j) (slice_get (children_of b) j) (related_at R (matters k) (children_of a) (children_of b) r j f) shaped in
      let source = said_child k a b r i e in
      λ t. record { source = source t; attributes = attributes t }

  -- ---- specifiers

  entry_by : (k : Kind) (a b : Node) → Related R (matters k) (children_of a) (children_of b) → import_entry_by other k b ≡ import_entry_by text k a
  unfolding matters
  entry_by kind.ImportDefaultSpecifier a b r = ap (λ t. record { imported = ByName (codes "default"); local = t } ∷ []) (variable_child kind.ImportDefaultSpecifier a b r 0 refl)
  entry_by kind.ImportStarAsSpecifier a b r = ap (λ t. record { imported = AsObject; local = t } ∷ []) (variable_child kind.ImportStarAsSpecifier a b r 0 refl)
  entry_by (kind.ImportNamedSpecifier true) a b r = refl
  entry_by (kind.ImportNamedSpecifier false) a b r =
      ap₂ (λ s t. record { imported = ByName s; local = t } ∷ []) (second_same (kind.ImportNamedSpecifier false) a b r refl refl) (variable_child (kind.ImportNamedSpecifier false) a b r 0 refl)
  entry_by _ a b r = refl

  again_same_by : (k : Kind) (a b : Node) → Related R (matters k) (children_of a) (children_of b) → again_by k b ≡ again_by k a
  unfolding matters
  again_same_by kind.ExportNamespaceSpecifier a b r = ap (λ s. ObjectAs s ∷ []) (said_child kind.ExportNamespaceSpecifier a b r 0 refl)
  again_same_by (kind.ExportNamedSpecifier true) a b r = refl
  again_same_by (kind.ExportNamedSpecifier false) a b r =
      ap₂ (λ s t. NameAs s t ∷ []) (said_child (kind.ExportNamedSpecifier false) a b r 0 refl) (second_same (kind.ExportNamedSpecifier false) a b r refl refl)
  again_same_by _ a b r = refl

  specifier_by : (k : Kind) (a b : Node) → Related R (matters k) (children_of a) (children_of b) → export_specifier_by other k b ≡ export_specifier_by text k a
  unfolding matters
  specifier_by (kind.ExportNamedSpecifier true) a b r = refl
  specifier_by (kind.ExportNamedSpecifier false) a b r =
      ap₂ (λ s t. record { exported = s; local = t } ∷ []) (second_same (kind.ExportNamedSpecifier false) a b r refl refl) (variable_child (kind.ExportNamedSpecifier false) a b r 0 refl)
  specifier_by _ a b r = refl

  specifier_step : {k l : Kind} {cs ds : List Node} → Step text other R k l cs ds → is_specifier l ≡ is_specifier k
  specifier_step (named e n) = refl
  specifier_step quoted = refl
  specifier_step (dull {k} {l} h g) = dull_unspecified l g ∙ sym (dull_unspecified k h)
  specifier_step (same t r) = refl

  item_step : {k l : Kind} {cs ds : List Node} → Step text other R k l cs ds → is_item l ≡ is_item k
  item_step (named e n) = refl
  item_step quoted = refl
  item_step (dull {k} {l} h g) = dull_no_item l g ∙ sym (dull_no_item k h)
  item_step (same t r) = refl

  one_told : {X : Type 0} (f g : Kind → Node → List X) → ((k : Kind) (n : Node) → is_specifier k ≡ false → f k n ≡ []) → ((k : Kind) (n : Node) → is_specifier k ≡ false → g k n ≡ [])
      → ((k : Kind) (a b : Node) → Related R (matters k) (children_of a) (children_of b) → g k b ≡ f k a) → (c d : Node) → R c d → g (kind_of d) d ≡ f (kind_of c) c
  one_told f g none_f none_g told c d r = by (is_specifier (kind_of c)) refl
    where
      by : (b : Bool) → is_specifier (kind_of c) ≡ b → g (kind_of d) d ≡ f (kind_of c) c
      by true e = let t = told_step text other R (alike c d r) (specifier_told (kind_of c) e) in ap (λ z. g z d) t.0 ∙ told (kind_of c) c d t.1
      by false e = none_g (kind_of d) d (specifier_step (alike c d r) ∙ e) ∙ sym (none_f (kind_of c) c e)

  entry_same : (c d : Node) → R c d → import_entry other d ≡ import_entry text c
  entry_same = one_told (import_entry_by text) (import_entry_by other) (no_entry text) (no_entry other) entry_by

  again_same : (c d : Node) → R c d → again d ≡ again c
  again_same = one_told again_by again_by no_again no_again again_same_by

  specifier_same : (c d : Node) → R c d → export_specifier other d ≡ export_specifier text c
  specifier_same = one_told (export_specifier_by text) (export_specifier_by other) (no_specifier text) (no_specifier other) specifier_by

  -- ---- items

  bound_there : (o p : Option Node) → RelatedAt R o p → map (by_its_name other) (bound_of p) ≡ map (by_its_name text) (bound_of o)
  bound_there None None r = refl
  bound_there None (Some d) r = absurd r
  bound_there (Some c) None r = absurd r
  bound_there (Some c) (Some d) r = shown_same text other R alike c d r

  bound_same : (k : Kind) (a b : Node) → Related R (matters k) (children_of a) (children_of b) → matters k 0 ≡ true → map (by_its_name other) (bound_at b 0) ≡ map (by_its_name text) (bound_at a 0)
  bound_same k a b r e = bound_there (slice_get (children_of a) 0) (slice_get (children_of b) 0) (related_at R (matters k) (children_of a) (children_of b) r 0 e)

  abbrev TellsBy : Kind → Node → Node → Type 0
  TellsBy k a b = (import_by other k b ≡ import_by text k a) × (re_export_by k b ≡ re_export_by k a) × (export_by other k b ≡ export_by text k a)

  telling_by : (k : Kind) (a b : Node) → IsShaped a → kind_of a ≡ k → is_item k ≡ true → Related R (matters k) (children_of a) (children_of b) → TellsBy k a b
  unfolding matters
  telling_by (kind.ImportDecl true) a b s e i r = (refl, refl, refl)
  telling_by (kind.ImportDecl false) a b s e i r =
      let k = kind.ImportDecl false in
      let lists = items_same k a b r 0 refl (λ c at. list_shaped sort.ImportSpecifier c (child_shaped a s k e 0 (many sort.ImportSpecifier) (λ z n. refl) c at)) in
      let entries = each_flat (import_entry text) (import_entry other) entry_same (matters kind.List) listed (items_at a 0) (items_at b 0) lists in
      let request = request_same k a b r 1 2 refl refl (λ c at. child_shaped a s k e 2 (maybe sort.ObjectLit) (λ z n. refl) c at) in
      (ap₂ (λ q es. record { request = q; entries = es } ∷ []) request entries, refl, refl)
  telling_by kind.ExportDecl a b s e i r = (refl, refl, bound_same kind.ExportDecl a b r refl)
  telling_by (kind.NamedExport true) a b s e i r = (refl, refl, refl)
  telling_by (kind.NamedExport false) a b s e i r =
      let k = kind.NamedExport false in
      let lists = items_same k a b r 0 refl (λ c at. list_shaped sort.ExportSpecifier c (child_shaped a s k e 0 (many sort.ExportSpecifier) (λ z n. refl) c at)) in
      let entries = each_flat again again again_same (matters kind.List) listed (items_at a 0) (items_at b 0) lists in
      let own = each_flat (export_specifier text) (export_specifier other) specifier_same (matters kind.List) listed (items_at a 0) (items_at b 0) lists in
      let request = request_same k a b r 1 2 refl refl (λ c at. child_shaped a s k e 2 (maybe sort.ObjectLit) (λ z n. refl) c at) in
      let has = has_same k a b r 1 refl in
      (refl, (λ j. cond (has j) (record { request = request j; entries = entries j } ∷ []) []), (λ j. cond (has j) [] (own j)))
  telling_by kind.ExportDefaultDecl a b s e i r =
      (refl, refl, default_is other (bound_at b 0) ∙ ap default_from (bound_same kind.ExportDefaultDecl a b r refl) ∙ sym (default_is text (bound_at a 0)))
  telling_by kind.ExportDefaultExpr a b s e i r = (refl, refl, refl)
  telling_by (kind.ExportAll true) a b s e i r = (refl, refl, refl)
  telling_by (kind.ExportAll false) a b s e i r =
      let k = kind.ExportAll false in
      let request = request_same k a b r 0 1 refl refl (λ c at. child_shaped a s k e 1 (maybe sort.ObjectLit) (λ z n. refl) c at) in
      (refl, ap (λ q. record { request = q; entries = AllNames ∷ [] } ∷ []) request, refl)
  telling_by (kind.TsImportEqualsDecl true true) a b s e i r = (refl, refl, refl)
  telling_by (kind.TsImportEqualsDecl true false) a b s e i r =
      let k = kind.TsImportEqualsDecl true false in
      (refl, refl, ap₂ (λ (q : Bool) (es : List Export). cond q [] es) (required_same k a b r 1 refl) (bound_same k a b r refl))
  telling_by (kind.TsImportEqualsDecl false true) a b s e i r = (refl, refl, refl)
  telling_by (kind.TsImportEqualsDecl false false) a b s e i r = (refl, refl, refl)
  telling_by _ a b s e i r = cc

  telling : (a b : Node) → IsShaped a → kind_of b ≡ kind_of a → is_item (kind_of a) ≡ true → Related R (matters (kind_of a)) (children_of a) (children_of b) → Tells text other a b
  telling a b s kinds i r =
      let t = telling_by (kind_of a) a b s refl i r in
      (ap (λ z. import_by other z b) kinds ∙ t.0, ap (λ z. re_export_by z b) kinds ∙ t.1, ap (λ z. export_by other z b) kinds ∙ t.2)

  declared_there : (o p : Option Node) → RelatedAt R o p → if_there p (λ x. is_declared (kind_of x)) ≡ if_there o (λ x. is_declared (kind_of x))
  declared_there None None r = refl
  declared_there None (Some d) r = absurd r
  declared_there (Some c) None r = absurd r
  declared_there (Some c) (Some d) r = declared_step text other R (alike c d r)

  export_first : matters kind.ExportDecl 0 ≡ true
  unfolding matters
  export_first = refl

  first_same : (a b : Node) → Related R (matters (kind_of a)) (children_of a) (children_of b) → kind_of a ≡ kind.ExportDecl → first_declared b ≡ first_declared a
  first_same a b r e =
      declared_there (slice_get (children_of a) 0) (slice_get (children_of b) 0)
      (related_at R (matters (kind_of a)) (children_of a) (children_of b) r 0 (ap (λ k. matters k 0) e ∙ export_first))

  pub item_same : (a b : Node) → R a b → IsShaped a → SameItem text other a b
  item_same a b r s = by (is_item (kind_of a)) refl
    where
      by : (i : Bool) → is_item (kind_of a) ≡ i → SameItem text other a b
      by true i =
          let t = told_step text other R (alike a b r) (item_told (kind_of a) i) in
          inr (items_stay a b t.0 i (value_same text other R alike a b r true) (first_same a b t.1), λ e. telling a b s t.0 i t.1)
      by false i = inl (silent text a i, silent other b (item_step (alike a b r) ∙ i))

  all_items : (m : ℕ → Bool) → ((i : ℕ) → m i ≡ true) → (cs ds : List Node) → Related R m cs ds → ((i : ℕ) (c : Node) → slice_get cs i ≡ Some c → IsShaped c) → SameItems text other cs ds
  all_items m w [] [] r s = tt
  all_items m w [] (d ∷ ds) r s = absurd r
  all_items m w (c ∷ cs) [] r s = absurd r
  all_items m w (c ∷ cs) (d ∷ ds) r s = (item_same c d (r.0 (w 0)) (s 0 c refl), all_items (λ i. m (suc i)) (λ i. w (suc i)) cs ds r.1 (λ i x at. s (suc i) x at))

  -- so of modules
  pub alike_interfaces : (tree m : Node) → HasSort sort.Module tree → R tree m → interface_of other m ≡ interface_of text tree
  alike_interfaces tree m sorted r =
      let has = shapes_of tree (one sort.Module) sorted in
      let k = module_told (kind_of tree) has.0 in
      let t = told_step text other R (alike tree m r) k.0 in
      let list : (x : Node) → slice_get (children_of tree) 0 ≡ Some x → HasShape (many sort.ModuleItem) x = child_shaped tree (one sort.Module, sorted) (kind_of tree) refl 0 (many sort.ModuleItem) k.2 in
      let related = items_same (kind_of tree) tree m t.1 0 k.1 (λ x at. list_shaped sort.ModuleItem x (list x at)) in
      interface_same text other tree m (all_items (matters kind.List) listed (items_at tree 0) (items_at m 0) related (shaped (slice_get (children_of tree) 0) list))
    where
      shaped : (o : Option Node) → ((x : Node) → o ≡ Some x → HasShape (many sort.ModuleItem) x) → (i : ℕ) (c : Node) → slice_get (items_of o) i ≡ Some c → IsShaped c
      shaped None list i c at = cc
      shaped (Some n) list i c at = (one sort.ModuleItem, listed_shaped sort.ModuleItem n (list n refl) i c at)
