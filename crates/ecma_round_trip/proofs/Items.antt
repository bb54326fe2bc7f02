-- The items of a module are as plain with explicit parentheses as they were: none of them stands in parentheses.
use Rattle.std.proofs.Common.{◌≡◌, ◌∙◌, refl, sym, ap, ap₂, subst, ℕ, Bool, true, ◌&&◌, List, [], ◌∷◌, map, length, slice_get}
use Rattle.std.specs.List.{list_all}
use Rattle.ecma_kind.specs.declared.kind.Kind.{Kind}
use Rattle.ecma_kind.specs.declared.kind.Kind.TheVariants as kind
use Rattle.ecma_kind.specs.declared.shapes.Sort.TheVariants as sort
use Rattle.ecma_kind.specs.declared.span.Span.{Span}
use Rattle.ecma_tree.specs.declared.node.Node.{Node, Node-F, out-Node, roll-Node}
use Rattle.ecma_tree.specs.declared.node.Node.TheViews.{roll-out-Node}
use Rattle.ecma_tree.specs.Laws.{HaveShapes}
use Rattle.ecma_tree.specs.Nodes.{node_of}
use Rattle.ecma_tree.specs.Sorted.{HasShape, HasSort, allows, child_shapes, is_list, many, one}
use Rattle.ecma_tree.proofs.ShapeLaws.{node_has_shape}
use Rattle.ecma_rules.specs.Children.{child_is, children_of, kind_of, of_kind}
use Rattle.ecma_print.specs.Levels.{in_parentheses}
use Rattle.ecma_print.specs.Places.{free}
use Rattle.ecma_print.specs.Explicit.{bare, explicit, in_spots, laid_children, stood}
use Rattle.ecma_print_parentheses.proofs.Asking.{open_where_free}
use Rattle.ecma_print_parentheses.proofs.Standing.{if_false, stands}
use Rattle.ecma_print_shapes.proofs.Sound.{children_made, kind_made}
use Rattle.ecma_plain.specs.Items.{has_plain_items, is_external, is_plain_item, is_plain_kind}

-- a node where nothing stands around
layer_free : (x : Node-F Node) → (stood (roll-Node x)).at (free 0) ≡ bare x.span x.kind (map stood x.children) (free 0)
layer_free x = stands x (free 0) ∙ if_false (in_parentheses x.kind (laid_children (map stood x.children)) (free 0)) _ _ (open_where_free x.kind (laid_children (map stood x.children)))

stood_free : (n : Node) → (stood n).at (free 0) ≡ bare (out-Node n).span (out-Node n).kind (map stood (out-Node n).children) (free 0)
stood_free n = ap (λ m. (stood m).at (free 0)) (sym (roll-out-Node n)) ∙ layer_free (out-Node n)

pub kind_free : (n : Node) → kind_of ((stood n).at (free 0)) ≡ kind_of n
kind_free n = ap kind_of (stood_free n) ∙ kind_made (out-Node n).span (out-Node n).kind _

second_free : (is : Kind → Bool) (cs : List Node) → of_kind is (slice_get (in_spots (map stood cs) [] (free 0)) 1) ≡ of_kind is (slice_get cs 1)
second_free is [] = refl
second_free is (a ∷ []) = refl
second_free is (a ∷ b ∷ cs) = ap is (kind_free b)

child_made : (is : Kind → Bool) (at : Span) (k : Kind) (cs : List Node) (i : ℕ) → child_is is (node_of at k cs) i ≡ of_kind is (slice_get cs i)
child_made is at k cs i = ap (λ z. of_kind is (slice_get z i)) (children_made at k cs)

module _ (assignments : Bool) where
  by_kind : (at : Span) (k : Kind) (cs : List Node) → is_plain_kind assignments k (bare at k (map stood cs) (free 0)) ≡ is_plain_kind assignments k (node_of at k cs)
  by_kind at (kind.TsImportEqualsDecl is_export is_type_only) cs =
      let k = kind.TsImportEqualsDecl is_export is_type_only in
      ap (λ b. assignments && b) (child_made is_external at k (in_spots (map stood cs) [] (free 0)) 1 ∙ (second_free is_external cs ∙ sym (child_made is_external at k cs 1)))
  by_kind at kind.TsExportAssignment cs = refl
  by_kind at k cs = refl

  item_made : (at : Span) (k : Kind) (cs : List Node) → is_plain_item assignments (node_of at k cs) ≡ is_plain_kind assignments k (node_of at k cs)
  item_made at k cs = ap (λ z. is_plain_kind assignments z (node_of at k cs)) (kind_made at k cs)

  item_free : (n : Node) → is_plain_item assignments ((stood n).at (free 0)) ≡ is_plain_item assignments n
  item_free n =
      let x = out-Node n in
      ap (is_plain_item assignments) (stood_free n)
      ∙ (item_made x.span x.kind _ ∙ (by_kind x.span x.kind x.children ∙ (sym (item_made x.span x.kind x.children) ∙ ap (is_plain_item assignments) (roll-out-Node n))))

  items_free : (ns : List Node) → list_all (is_plain_item assignments) (in_spots (map stood ns) [] (free 0)) ≡ list_all (is_plain_item assignments) ns
  items_free [] = refl
  items_free (n ∷ ns) = ap₂ (λ a b. a && b) (item_free n) (items_free ns)

  -- the items of a list
  list_free : (n : Node) (k : Kind) → kind_of n ≡ k → is_list k ≡ true → list_all (is_plain_item assignments) (out-Node ((stood n).at (free 0))).children ≡ list_all (is_plain_item assignments) (out-Node n).children
  list_free n kind.List e is =
      let x = out-Node n in
      ap (λ m. list_all (is_plain_item assignments) (out-Node m).children) (stood_free n)
      ∙ (ap (λ k. list_all (is_plain_item assignments) (out-Node (bare x.span k (map stood x.children) (free 0))).children) e
      ∙ (ap (list_all (is_plain_item assignments)) (children_made x.span kind.List (in_spots (map stood x.children) [] (free 0))) ∙ items_free x.children))
  list_free n k e is = cc

  -- those of a module
  module_free : (at : Span) (k : Kind) (cs : List Node) → allows (one sort.Module) k ≡ true → HaveShapes (child_shapes k (one sort.Module) (length cs)) cs
      → has_plain_items assignments (bare at k (map stood cs) (free 0)) ≡ has_plain_items assignments (node_of at k cs)
  module_free at (kind.Module shebang) [] is h = absurd h
  module_free at (kind.Module shebang) (a ∷ []) is h =
      let k = kind.Module shebang in
      ap (λ z. list_all (is_plain_item assignments) (children_of (slice_get z 0))) (children_made at k ((stood a).at (free 0) ∷ []))
      ∙ (list_free a (kind_of a) refl (listed a h.0) ∙ sym (ap (λ z. list_all (is_plain_item assignments) (children_of (slice_get z 0))) (children_made at k (a ∷ []))))
    where
      listed : (n : Node) → HasShape (many sort.ModuleItem) n → is_list (kind_of n) ≡ true
      listed n s = let x = out-Node n in ((node_has_shape x.span x.kind x.children (many sort.ModuleItem)).0 (subst (HasShape (many sort.ModuleItem)) (sym (roll-out-Node n)) s)).0
  module_free at (kind.Module shebang) (a ∷ b ∷ cs) is h = absurd h.1
  module_free at k cs is h = cc

  pub plain_items_stay : (tree : Node) → HasSort sort.Module tree → has_plain_items assignments (explicit tree) ≡ has_plain_items assignments tree
  plain_items_stay tree sorted =
      let x = out-Node tree in
      let s = (node_has_shape x.span x.kind x.children (one sort.Module)).0 (subst (HasSort sort.Module) (sym (roll-out-Node tree)) sorted) in
      ap (has_plain_items assignments) (stood_free tree) ∙ (module_free x.span x.kind x.children s.0 s.1 ∙ ap (has_plain_items assignments) (roll-out-Node tree))
