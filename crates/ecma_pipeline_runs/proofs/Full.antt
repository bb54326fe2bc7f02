-- Without its types no node of such a tree is lowered, and none lacks its body.
use Rattle.std.proofs.Common.{◌≡◌, ℕ, suc, Bool, true, false, ◌&&◌, not, cond, filter, List, [], ◌∷◌, map, length, Some, refl, sym, ap, ◌∙◌, subst, slice_get}
use Rattle.std.specs.List.{list_all, list_any}
use Rattle.ecma_kind.specs.Sorts.{belongs, is_type_wrapper}
use Rattle.ecma_kind.specs.declared.kind.Kind.{Kind}
use Rattle.ecma_kind.specs.declared.kind.Kind.TheVariants as kind
use Rattle.ecma_kind.specs.declared.shapes.Shape.{Shape}
use Rattle.ecma_kind.specs.declared.shapes.Sort.TheVariants as sort
use Rattle.ecma_tree.specs.declared.node.Node.{Node, out-Node}
use Rattle.ecma_tree.specs.Laws.{HaveShapes}
use Rattle.ecma_tree.specs.Nodes.{node_of}
use Rattle.ecma_tree.specs.Sorted.{child_shapes, is_list, one}
use Rattle.ecma_fits.specs.declared.unfit.Where.{Where}
use Rattle.ecma_fits.specs.Fitting.{Fits, at_top, where_in}
use Rattle.ecma_strip.specs.Staying.{is_this_ident, is_this_param, item_stays, member_stays, specifier_stays, stays}
use Rattle.ecma_strip.specs.Stripping.{plain, plain_children, plain_kind, staying_nodes, stripped}
use Rattle.ecma_strip.proofs.Stripping.{stripped-out}
use Rattle.ecma_strip_runs.specs.UsualBodies.{declares_no_body}
use Rattle.ecma_hygiene.proofs.Telling.{and-both, and-left, and-right, true-false}
use Rattle.ecma_strip_scopes.proofs.Declared.{not-list}
use Rattle.ecma_strip_scopes.proofs.Going.{parts-have}
use Rattle.ecma_strip_scopes.proofs.KindsKept.{wrapper-plain, wrapper-some}
use Rattle.ecma_strip_scopes.proofs.Seeking.{Becomes, becomes}
use Rattle.ecma_strip_scopes.proofs.Seeking.Becomes.{typed, wrapper, list, itself}
use Rattle.ecma_sources.specs.TypesAlone.{adds_types_alone, has_bodiless, is_receiver, lacks_body, lacks_body_by}
use Rattle.ecma_pipeline_runs.proofs.Asking.{is_default_export}
use Rattle.ecma_pipeline_runs.proofs.ClearSeats.{module-stands}
use Rattle.ecma_pipeline_runs.proofs.Clearing.{Stands, default-child, stands-below}
use Rattle.ecma_pipeline_runs.proofs.Nodes.{any-at, by-children, in-no-list, neither, no-ambient-head, no-bodiless, not-lowered, test-here}
use Rattle.ecma_pipeline_runs.proofs.Strays.{child-other, is_spared, item-other, module-other}
use Rattle.ecma_pipeline_runs.proofs.Remaining.{all-calm-remain, children-remain, first_declared, holds_items, remains, remains_by, stays-remains}
use Rattle.ecma_pipeline_runs.proofs.FullParts.{absent-full, absent-other, alive, alive-from, alive_by, children-memberless, full-here, full-of, is_full, member-by, memberless-at, native, others-calm, spared-full}
use Rattle.ecma_tree.specs.Values.{is_value, value_by, values_in}
use Rattle.ecma_tree.proofs.Valuing.{is_value-out}

bodied : (k : Kind) (cs : List Node) → is_default_export k ≡ false → has_bodiless k cs ≡ false → list_any lacks_body cs ≡ false
bodied kind.ExportDefaultDecl cs e h = absurd (true-false refl e)
bodied _ cs e h = h

value-bodied : (k : Kind) (value : Bool) → value ≡ true → lacks_body_by k value ≡ false
value-bodied kind.FnExpr value h = ap not h
value-bodied _ value h = refl

unspared : (k : Kind) → is_type_wrapper k ≡ true → is_spared k 0 ≡ false
unspared kind.SetterProp w = absurd (true-false w refl)
unspared _ w = refl

unlisted : (k : Kind) → is_type_wrapper k ≡ true → is_list k ≡ false
unlisted kind.List w = absurd (true-false w refl)
unlisted _ w = refl

abbrev Full : Node → Type 0
Full n = (s : Shape) (w : Where) → Stands n s w → is_receiver n ≡ false → remains n ≡ true → alive n ≡ true → is_full (stripped n) ≡ true

items-full : (cs : List Node) → ((j : ℕ) (c : Node) → slice_get cs j ≡ Some c → stays c ≡ true → is_full (stripped c) ≡ true) → list_all is_full (map stripped (filter stays cs)) ≡ true
items-full [] each = refl
items-full (c ∷ cs) each = by (stays c) refl (items-full cs (λ j d at. each (suc j) d at))
  where
    by : (b : Bool) → stays c ≡ b → list_all is_full (map stripped (filter stays cs)) ≡ true → list_all is_full (map stripped (cond b (c ∷ filter stays cs) (filter stays cs))) ≡ true
    by true st rest = and-both (is_full (stripped c)) (list_all is_full (map stripped (filter stays cs))) (each 0 c refl st) rest
    by false st rest = rest

module _ (n : Node) (below : (i : ℕ) (c : Node) → slice_get (out-Node n).children i ≡ Some c → Full c) (s : Shape) (w : Where) (is : Stands n s w) (free : is_receiver n ≡ false) (rem : remains n ≡ true) (live : alive n ≡ true) where
  abbrev k : Kind
  k = (out-Node n).kind

  abbrev cs : List Node
  cs = (out-Node n).children

  abbrev m : ℕ
  m = length cs

  have : HaveShapes (child_shapes k s m) cs
  have = (parts-have n s is.has).1

  by-parts : remains_by k (value_by k (values_in true k cs)) (first_declared cs) ≡ true
  by-parts = ap (λ (v : Bool). remains_by k v (first_declared cs)) (sym (is_value-out n)) ∙ rem

  child-remains : is_list k ≡ false → (b : Bool) → holds_items k ≡ b → (i : ℕ) (c : Node) → slice_get cs i ≡ Some c → remains c ≡ true
  child-remains l true p = children-remain k cs s m p have (test-here declares_no_body n is.usual) (no-ambient-head n is.alone) by-parts
  child-remains l false p = all-calm-remain (child_shapes k s m) cs have (others-calm k s m l p)

  child-bodied : (b : Bool) → is_default_export k ≡ b → (i : ℕ) (c : Node) → slice_get cs i ≡ Some c → lacks_body c ≡ false
  child-bodied true e i c at = value-bodied (out-Node c).kind (is_value c) (default-child k cs s m e have by-parts i c at).1
  child-bodied false e i c at = any-at lacks_body cs i c (bodied k cs e (no-bodiless n is.alone)) at

  other-full : is_list k ≡ false → (i : ℕ) (c : Node) → slice_get cs i ≡ Some c → is_receiver c ≡ false → is_full (stripped c) ≡ true
  other-full l i c at other =
      let t = stands-below n s w is i c at (in-no-list k c l) in
      let r = child-remains l (holds_items k) refl i c at in
      let member = member-by c (out-Node c).kind t.0.count t.0.sort (memberless-at (child_shapes k s m) i t.0 (children-memberless k s m l) t.1) (parts-have c t.0 t.2.has).0 in
      below i c at t.0 (where_in w n i) t.2 other r (alive-from c r member (child-bodied (is_default_export k) refl i c at))

  child-full : is_list k ≡ false → (i : ℕ) (c : Node) → slice_get cs i ≡ Some c → is_spared k i ≡ false → is_full (stripped c) ≡ true
  child-full l i c at spare = other-full l i c at (child-other n s is.has is.alone free l i c at spare)

  member-of : (c : Node) → stays c ≡ true → member_stays c ≡ true
  unfolding stays
  member-of c st =
      and-right (item_stays c) (member_stays c)
      (and-left (item_stays c && member_stays c) (specifier_stays (out-Node c).kind) (and-left ((item_stays c && member_stays c) && specifier_stays (out-Node c).kind) (not (is_this_param c)) st))

  item-full : is_list k ≡ true → (j : ℕ) (c : Node) → slice_get cs j ≡ Some c → stays c ≡ true → is_full (stripped c) ≡ true
  item-full l j c at st =
      let t = stands-below n s w is j c at (λ listed. st) in
      let r = stays-remains c st in
      below j c at t.0 (where_in w n j) t.2 (item-other n is.alone l j c at st) r (alive-from c r (member-of c st) (child-bodied (is_default_export k) refl j c at))

  wrapped-full : (ds : List Node) → cs ≡ ds → is_type_wrapper k ≡ true → is_full (plain (out-Node n).span k (map stripped (staying_nodes k ds))) ≡ true
  wrapped-full [] e wrap = absurd (wrapper-some k s 0 wrap (subst (λ (z : List Node). HaveShapes (child_shapes k s (length z)) z) e have))
  wrapped-full (x ∷ xs) e wrap = ap is_full (wrapper-plain k (out-Node n).span x xs wrap) ∙ child-full (unlisted k wrap) 0 x (ap (λ (z : List Node). slice_get z 0) e) (unspared k wrap)

  becomes-full : Becomes k → is_full (plain (out-Node n).span k (map stripped (staying_nodes k cs))) ≡ true
  unfolding plain plain_kind plain_children
  becomes-full (typed eq no_list other none no_id) = ap is_full (eq (out-Node n).span (map stripped (staying_nodes k cs))) ∙ absent-full
  becomes-full (wrapper wrap none no_id) = wrapped-full cs refl wrap
  becomes-full (list e) =
      ap (λ (z : Kind). is_full (plain (out-Node n).span z (map stripped (staying_nodes z cs)))) e ∙ full-of (out-Node n).span kind.List (map stripped (filter stays cs)) refl (items-full cs (item-full (ap is_list e)))
  becomes-full (itself eq no_list other) =
      ap is_full (eq (out-Node n).span (map stripped (staying_nodes k cs)) ∙ ap (λ (z : List Node). node_of (out-Node n).span (plain_kind k) (plain_children k (map stripped z))) (not-list k cs no_list))
      ∙ full-of (out-Node n).span (plain_kind k) (plain_children k (map stripped cs)) (full-here k s m cs have (native k (not-lowered n is.alone) (neither (is_this_ident k) (is_this_param n) free).0) live)
      (spared-full k s m cs have (child-full no_list) (λ c gone at. other-full no_list 1 c at (absent-other c gone)))

  layer-full : is_full (stripped n) ≡ true
  layer-full = ap is_full (stripped-out n) ∙ becomes-full (becomes k)

full : (n : Node) → Full n
full = by-children Full layer-full

module-there : (k : Kind) (value ambient : Bool) (children : List Node) → belongs sort.Module k ≡ true → (remains_by k value ambient ≡ true) × (alive_by k children ≡ true)
module-there (kind.Module x) value ambient children h = (refl, refl)
module-there _ value ambient children h = absurd (true-false h refl)

pub modules-are-full : (tree : Node) → Fits tree → adds_types_alone tree ≡ true → is_full (stripped tree) ≡ true
modules-are-full tree fits alone =
    let stand = module-stands tree fits alone in
    let there = module-there (out-Node tree).kind (is_value tree) (first_declared (out-Node tree).children) (out-Node tree).children (parts-have tree (one sort.Module) fits.sorted).0 in
    full tree (one sort.Module) at_top stand (module-other tree (parts-have tree (one sort.Module) fits.sorted).0) there.0 there.1
