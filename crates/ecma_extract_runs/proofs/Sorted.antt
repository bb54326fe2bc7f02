-- What has the sort of an expression fits: what is listed in it where it is parted is an element or a property, and no declared name is parted.
use Rattle.std.proofs.Common.{◌≡◌, refl, sym, ap, ◌∙◌, subst, ℕ, zero, suc, List, [], ◌∷◌, map, length, replicate, Bool, true, false, not, ◌&&◌, ◌||◌}
use Rattle.std.specs.List.{list_all}
use Rattle.std.proofs.lemmas.Bool.{false≢true}
use Rattle.std.proofs.lemmas.List.{length-map}
use Rattle.ecma_kind.specs.Sorts.{belongs, is_expr}
use Rattle.ecma_kind.specs.declared.kind.Kind.{Kind}
use Rattle.ecma_kind.specs.declared.kind.Kind.TheVariants as kind
use Rattle.ecma_kind.specs.declared.shapes.Count.{Count}
use Rattle.ecma_kind.specs.declared.shapes.Count.TheVariants.{One, Maybe, Many, MaybeMany, Holes}
use Rattle.ecma_kind.specs.declared.shapes.Shape.{Shape}
use Rattle.ecma_kind.specs.declared.shapes.Sort.{Sort}
use Rattle.ecma_kind.specs.declared.shapes.Sort.TheVariants as sort
use Rattle.ecma_tree.proofs.Layers.{from_leaves_out}
use Rattle.ecma_tree.specs.Sorted.{is_absent, allows, child_shapes, all_have_shapes, has_shape, has_shape_by, item_shape, one, maybe, many, with_holes}
use Rattle.ecma_tree.specs.declared.node.Node.{Node, Node-F, fold_out-Node, roll-Node, out-Node, ind-Node}
use Rattle.ecma_tree.specs.declared.node.Node.TheViews.{out-roll-Node}
use Rattle.ecma_runs.specs.Meaning.{Meaning}
use Rattle.ecma_runs.specs.Evaluation.{meaning}
use Rattle.ecma_extract_runs.specs.Fits.{is_list, is_single_item, single_by, item_by, is_item, lists_items, all_fit, fits_by, fits_step, fits}
use Rattle.ecma_extract_runs.proofs.Dates.{both_true}

-- ---- sorts of what stands in an expression that is parted

abbrev is_part : Sort → Bool
is_part sort.Expr = true
is_part sort.ExprOrSpread = true
is_part sort.PropOrSpread = true
is_part sort.PropName = true
is_part sort.TplElement = true
is_part _ = false

abbrev is_other_part : Kind → Bool
is_other_part kind.Absent = true
is_other_part kind.SpreadElement = true
is_other_part kind.KeyValueProp = true
is_other_part kind.AssignProp = true
is_other_part kind.GetterProp = true
is_other_part kind.SetterProp = true
is_other_part kind.MethodProp = true
is_other_part (kind.IdentName sym) = true
is_other_part kind.ComputedPropName = true
is_other_part (kind.TplElement tail cooked raw) = true
is_other_part k = false

-- kinds that have such a sort, or are missing
abbrev stands : Kind → Bool
stands k = is_expr k || is_other_part k

left_true : (a b : Bool) → a ≡ true → (a || b) ≡ true
left_true true b h = refl
left_true false b h = absurd (false≢true h)

spread_stands : (k : Kind) → belongs sort.ExprOrSpread k ≡ true → stands k ≡ true
spread_stands kind.SpreadElement h = refl
spread_stands k h = left_true (is_expr k) (is_other_part k) h

property_stands : (k : Kind) → belongs sort.PropOrSpread k ≡ true → stands k ≡ true
property_stands kind.SpreadElement h = refl
property_stands (kind.Ident sym ctxt optional) h = refl
property_stands kind.KeyValueProp h = refl
property_stands kind.AssignProp h = refl
property_stands kind.GetterProp h = refl
property_stands kind.SetterProp h = refl
property_stands kind.MethodProp h = refl
property_stands k h = absurd (false≢true h)

key_stands : (k : Kind) → belongs sort.PropName k ≡ true → stands k ≡ true
key_stands (kind.IdentName sym) h = refl
key_stands (kind.Str value raw) h = refl
key_stands (kind.Number value raw) h = refl
key_stands kind.ComputedPropName h = refl
key_stands (kind.BigInt value raw) h = refl
key_stands k h = absurd (false≢true h)

text_stands : (k : Kind) → belongs sort.TplElement k ≡ true → stands k ≡ true
text_stands (kind.TplElement tail cooked raw) h = refl
text_stands k h = absurd (false≢true h)

part_stands : (s : Sort) (k : Kind) → is_part s ≡ true → belongs s k ≡ true → stands k ≡ true
part_stands sort.Expr k p h = left_true (is_expr k) (is_other_part k) h
part_stands sort.ExprOrSpread k p h = spread_stands k h
part_stands sort.PropOrSpread k p h = property_stands k h
part_stands sort.PropName k p h = key_stands k h
part_stands sort.TplElement k p h = text_stands k h
part_stands _ k p h = absurd (false≢true p)

hole_stands : (s : Sort) (k : Kind) → is_part s ≡ true → (is_absent k || belongs s k) ≡ true → stands k ≡ true
hole_stands s kind.Absent p h = refl
hole_stands s k p h = part_stands s k p h

-- each may be listed
stands_single : (k : Kind) (ms : List Meaning) → (not (stands k) || single_by k ms) ≡ true
stands_single kind.FnExpr ms = refl
stands_single k ms = refl

-- of two, where one is known
from_not : (a b : Bool) → (not a || b) ≡ true → a ≡ true → b ≡ true
from_not true b h e = h
from_not false b h e = absurd (false≢true e)

single_stands : (n : Node) → stands (out-Node n).kind ≡ true → is_single_item n ≡ true
single_stands n h = from_not (stands (out-Node n).kind) (is_single_item n) (stands_single (out-Node n).kind (map meaning (out-Node n).children)) h

item_of_single : (k : Kind) (ns : List Node) (ms : List Meaning) → single_by k ms ≡ true → item_by k ns (single_by k ms) ≡ true
item_of_single kind.List ns ms h = absurd (false≢true h)
item_of_single k ns ms h = h

-- ---- shapes

-- where one node stands, and where several do
abbrev is_one : Count → Bool
is_one One = true
is_one Maybe = true
is_one _ = false

abbrev is_several : Count → Bool
is_several Many = true
is_several Holes = true
is_several _ = false

has_shape-out : (n : Node) (s : Shape) → has_shape n s ≡ (allows s (out-Node n).kind && all_have_shapes (child_shapes (out-Node n).kind s (length (out-Node n).children)) (map has_shape (out-Node n).children))
has_shape-out n s =
    ap (λ f. f s) (fold_out-Node (Shape → Bool) has_shape_by n)
    ∙ ap (λ k. allows s (out-Node n).kind && all_have_shapes (child_shapes (out-Node n).kind s k) (map has_shape (out-Node n).children)) (length-map (out-Node n).children has_shape)

-- the children have their shapes
abbrev Below : Kind → Shape → List Node → Type 0
Below k s cs = all_have_shapes (child_shapes k s (length cs)) (map has_shape cs) ≡ true

shaped : (n : Node) (s : Shape) → has_shape n s ≡ true → (allows s (out-Node n).kind ≡ true) × Below (out-Node n).kind s (out-Node n).children
shaped n s h = both_true (allows s (out-Node n).kind) _ (sym (has_shape-out n s) ∙ h)

count_stands : (c : Count) (s : Sort) (k : Kind) → is_one c ≡ true → is_part s ≡ true → allows (record { count = c; sort = s }) k ≡ true → stands k ≡ true
count_stands One s k o p h = part_stands s k p h
count_stands Maybe s k o p h = hole_stands s k p h
count_stands _ s k o p h = absurd (false≢true o)

shape_single : (n : Node) (s : Shape) → is_one s.count ≡ true → is_part s.sort ≡ true → has_shape n s ≡ true → is_single_item n ≡ true
shape_single n s o p h = single_stands n (count_stands s.count s.sort (out-Node n).kind o p (shaped n s h).0)

shape_item : (n : Node) (s : Shape) → is_one s.count ≡ true → is_part s.sort ≡ true → has_shape n s ≡ true → is_item n ≡ true
shape_item n s o p h = item_of_single (out-Node n).kind (out-Node n).children (map meaning (out-Node n).children) (shape_single n s o p h)

items_single : (s : Shape) (cs : List Node) → is_one s.count ≡ true → is_part s.sort ≡ true → all_have_shapes (replicate (length cs) s) (map has_shape cs) ≡ true → list_all is_single_item cs ≡ true
items_single s [] o p h = refl
items_single s (c ∷ cs) o p h =
    let t = both_true (has_shape c s) (all_have_shapes (replicate (length cs) s) (map has_shape cs)) h in
    rw (shape_single c s o p t.0, items_single s cs o p t.1) refl

one_of_several : (c : Count) (s : Sort) → is_several c ≡ true → is_one (item_shape (record { count = c; sort = s })).count ≡ true
one_of_several Many s h = refl
one_of_several Holes s h = refl
one_of_several _ s h = absurd (false≢true h)

count_list : (c : Count) (s : Sort) (k : Kind) → is_several c ≡ true → allows (record { count = c; sort = s }) k ≡ true → is_list k ≡ true
count_list Many s kind.List h a = refl
count_list Holes s kind.List h a = refl
count_list Many s k h a = absurd (false≢true a)
count_list Holes s k h a = absurd (false≢true a)
count_list _ s k h a = absurd (false≢true h)

list_items : (k : Kind) (cs : List Node) (ms : List Meaning) (s : Shape) → is_list k ≡ true → is_several s.count ≡ true → is_part s.sort ≡ true → Below k s cs → item_by k cs (single_by k ms) ≡ true
list_items kind.List cs ms s is o p h = items_single (item_shape s) cs (one_of_several s.count s.sort o) p h
list_items k cs ms s is o p h = absurd (false≢true is)

-- a list of what may be listed
shape_lists : (n : Node) (s : Shape) → is_several s.count ≡ true → is_part s.sort ≡ true → has_shape n s ≡ true → (is_list (out-Node n).kind && is_item n) ≡ true
shape_lists n s o p h =
    let t = shaped n s h in
    let is = count_list s.count s.sort (out-Node n).kind o t.0 in
    rw (is, list_items (out-Node n).kind (out-Node n).children (map meaning (out-Node n).children) s is o p t.1) refl

-- ---- each node

record Fitting (n : Node) : Type 0 where
  pub fits : (s : Shape) → is_part s.sort ≡ true → has_shape n s ≡ true → fits n ≡ true

abbrev FittingNode : Type 0
FittingNode = (n : Node) × Fitting n

abbrev nodes : List FittingNode → List Node
nodes ns = map (λ e. e.0) ns

abbrev Shaped : List Shape → List FittingNode → Type 0
Shaped shapes ns = all_have_shapes shapes (map has_shape (nodes ns)) ≡ true

abbrev are_parts : List Shape → Bool
are_parts shapes = list_all (λ (s : Shape). is_part s.sort) shapes

all_parts : (shapes : List Shape) (ns : List FittingNode) → Shaped shapes ns → are_parts shapes ≡ true → all_fit (map fits (nodes ns)) ≡ true
all_parts [] [] h p = refl
all_parts [] (n ∷ ns) h p = absurd (false≢true h)
all_parts (s ∷ shapes) [] h p = absurd (false≢true h)
all_parts (s ∷ shapes) (n ∷ ns) h p =
    let t = both_true (has_shape n.0 s) (all_have_shapes shapes (map has_shape (nodes ns))) h in
    let q = both_true (is_part s.sort) (are_parts shapes) p in
    rw (n.1.fits s q.0 t.0, all_parts shapes ns t.1 q.1) refl

same_parts : (n : ℕ) (s : Shape) → is_part s.sort ≡ true → are_parts (replicate n s) ≡ true
same_parts zero s p = refl
same_parts (suc n) s p = rw p (same_parts n s p)

-- a node of this kind, by its first child
first_fits : (k : Kind) (s : Shape) (shapes : List Shape) (ns : List FittingNode) → is_part s.sort ≡ true → fits_by k [] [] ≡ true
    → ((n : Node) (rest : List Node) (b : Bool) (kids : List Bool) → b ≡ true → fits_by k (n ∷ rest) (b ∷ kids) ≡ true) → Shaped (s ∷ shapes) ns → fits_by k (nodes ns) (map fits (nodes ns)) ≡ true
first_fits k s shapes [] p none by_first h = none
first_fits k s shapes (n ∷ ns) p none by_first h =
    by_first n.0 (nodes ns) (fits n.0) (map fits (nodes ns)) (n.1.fits s p (both_true (has_shape n.0 s) (all_have_shapes shapes (map has_shape (nodes ns))) h).0)

-- an expression with a type round it
wrapped_fits : (k : Kind) (shapes : List Shape) (ns : List FittingNode) → fits_by k [] [] ≡ true
    → ((n : Node) (rest : List Node) (b : Bool) (kids : List Bool) → is_item n ≡ true → b ≡ true → fits_by k (n ∷ rest) (b ∷ kids) ≡ true) → Shaped (one sort.Expr ∷ shapes) ns
    → fits_by k (nodes ns) (map fits (nodes ns)) ≡ true
wrapped_fits k shapes [] none by_first h = none
wrapped_fits k shapes (n ∷ ns) none by_first h =
    let t = (both_true (has_shape n.0 (one sort.Expr)) (all_have_shapes shapes (map has_shape (nodes ns))) h).0 in
    by_first n.0 (nodes ns) (fits n.0) (map fits (nodes ns)) (shape_item n.0 (one sort.Expr) refl refl t) (n.1.fits (one sort.Expr) refl t)

-- a list alone
listed_fits : (s : Shape) (ns : List FittingNode) → is_several s.count ≡ true → is_part s.sort ≡ true → Shaped (s ∷ []) ns → (lists_items (nodes ns) && all_fit (map fits (nodes ns))) ≡ true
listed_fits s [] o p h = refl
listed_fits s (n ∷ ns) o p h =
    let t = (both_true (has_shape n.0 s) (all_have_shapes [] (map has_shape (nodes ns))) h).0 in
    rw (shape_lists n.0 s o p t, all_parts (s ∷ []) (n ∷ ns) h (rw p refl)) refl

template_fits : (ns : List FittingNode) → Shaped (many sort.Expr ∷ many sort.TplElement ∷ []) ns → (lists_items (nodes ns) && all_fit (map fits (nodes ns))) ≡ true
template_fits [] h = refl
template_fits (n ∷ ns) h =
    let t = (both_true (has_shape n.0 (many sort.Expr)) (all_have_shapes (many sort.TplElement ∷ []) (map has_shape (nodes ns))) h).0 in
    rw (shape_lists n.0 (many sort.Expr) refl refl t, all_parts (many sort.Expr ∷ many sort.TplElement ∷ []) (n ∷ ns) h refl) refl

paren_fits : (ns : List FittingNode) → Shaped (one sort.Expr ∷ []) ns → fits_by kind.ParenExpr (nodes ns) (map fits (nodes ns)) ≡ true
paren_fits [] h = refl
paren_fits (n ∷ ns) h =
    let t = (both_true (has_shape n.0 (one sort.Expr)) (all_have_shapes [] (map has_shape (nodes ns))) h).0 in
    rw (shape_item n.0 (one sort.Expr) refl refl t, all_parts (one sort.Expr ∷ []) (n ∷ ns) h refl) refl

several_fit : (ns : List FittingNode) → Shaped (child_shapes kind.SeqExpr (one sort.Expr) (length (nodes ns))) ns → all_fit (map fits (nodes ns)) ≡ true
several_fit [] h = refl
several_fit (n ∷ ns) h = all_parts (replicate (length (nodes (n ∷ ns))) (one sort.Expr)) (n ∷ ns) h (same_parts (length (nodes (n ∷ ns))) (one sort.Expr) refl)

two_true : (a b : Bool) → a ≡ true → b ≡ true → (a && b) ≡ true
two_true true b p q = q
two_true false b p q = absurd (false≢true p)

-- a declared name has none of these sorts
never_declared : (c : Count) (s : Sort) → is_part s ≡ true → allows (record { count = c; sort = s }) kind.BindingIdent ≡ true → ⊥
never_declared Many s p h = false≢true h
never_declared MaybeMany s p h = false≢true h
never_declared Holes s p h = false≢true h
never_declared c s p h = false≢true (one_declared s p (h))
  where
    one_declared : (s : Sort) → is_part s ≡ true → belongs s kind.BindingIdent ≡ true → false ≡ true
    one_declared sort.Expr p h = h
    one_declared sort.ExprOrSpread p h = h
    one_declared sort.PropOrSpread p h = h
    one_declared sort.PropName p h = h
    one_declared sort.TplElement p h = h
    one_declared _ p h = p

layer_fits : (k : Kind) (ns : List FittingNode) (s : Shape) → is_part s.sort ≡ true → allows s k ≡ true → Shaped (child_shapes k s (length (nodes ns))) ns → fits_by k (nodes ns) (map fits (nodes ns)) ≡ true
layer_fits kind.BindingIdent ns s p a h = absurd (never_declared s.count s.sort p a)
layer_fits kind.ArrayLit ns s p a h = listed_fits (with_holes sort.ExprOrSpread) ns refl refl h
layer_fits kind.ObjectLit ns s p a h = listed_fits (many sort.PropOrSpread) ns refl refl h
layer_fits kind.Tpl ns s p a h = template_fits ns h
layer_fits kind.GetterProp ns s p a h = first_fits kind.GetterProp (one sort.PropName) (maybe sort.TsTypeAnn ∷ maybe sort.BlockStmt ∷ []) ns refl refl (λ n rest b kids e. e) h
layer_fits kind.SetterProp ns s p a h = first_fits kind.SetterProp (one sort.PropName) (maybe sort.Pat ∷ one sort.Pat ∷ maybe sort.BlockStmt ∷ []) ns refl refl (λ n rest b kids e. e) h
layer_fits kind.MethodProp ns s p a h = first_fits kind.MethodProp (one sort.PropName) (one sort.Function ∷ []) ns refl refl (λ n rest b kids e. e) h
layer_fits kind.ParenExpr ns s p a h = paren_fits ns h
layer_fits kind.TsAsExpr ns s p a h = wrapped_fits kind.TsAsExpr (one sort.TsType ∷ []) ns refl (λ n rest b kids i e. two_true (is_item n) b i e) h
layer_fits kind.TsTypeAssertion ns s p a h = wrapped_fits kind.TsTypeAssertion (one sort.TsType ∷ []) ns refl (λ n rest b kids i e. two_true (is_item n) b i e) h
layer_fits kind.TsConstAssertion ns s p a h = wrapped_fits kind.TsConstAssertion [] ns refl (λ n rest b kids i e. two_true (is_item n) b i e) h
layer_fits kind.TsNonNullExpr ns s p a h = wrapped_fits kind.TsNonNullExpr [] ns refl (λ n rest b kids i e. two_true (is_item n) b i e) h
layer_fits kind.TsInstantiation ns s p a h = wrapped_fits kind.TsInstantiation (one sort.TsTypeParamInstantiation ∷ []) ns refl (λ n rest b kids i e. two_true (is_item n) b i e) h
layer_fits kind.TsSatisfiesExpr ns s p a h = wrapped_fits kind.TsSatisfiesExpr (one sort.TsType ∷ []) ns refl (λ n rest b kids i e. two_true (is_item n) b i e) h
layer_fits (kind.UnaryExpr op) ns s p a h = all_parts (one sort.Expr ∷ []) ns h refl
layer_fits (kind.BinExpr op) ns s p a h = all_parts (one sort.Expr ∷ one sort.Expr ∷ []) ns h refl
layer_fits kind.SeqExpr ns s p a h = several_fit ns h
layer_fits kind.List ns s p a h = all_parts (replicate (length (nodes ns)) (item_shape s)) ns h (same_parts (length (nodes ns)) (item_shape s) p)
layer_fits kind.ComputedPropName ns s p a h = all_parts (one sort.Expr ∷ []) ns h refl
layer_fits kind.KeyValueProp ns s p a h = all_parts (one sort.PropName ∷ one sort.Expr ∷ []) ns h refl
layer_fits k ns s p a h = refl

fitting_roll : (parts : Node-F Node) (ns : List FittingNode) → nodes ns ≡ parts.children → Fitting (roll-Node parts)
fitting_roll parts ns is =
    let n = roll-Node parts in
    let own : fits n ≡ fits_by parts.kind (nodes ns) (map fits (nodes ns)) =
    from_leaves_out Bool fits_step n ∙ ap (λ (z : Node-F Node). fits_by z.kind z.children (map fits z.children)) (out-roll-Node parts) ∙ ap (λ l. fits_by parts.kind l (map fits l)) (sym is) in
    record {
      fits = λ s p h.
          let t = shaped n s h in
          own ∙ layer_fits parts.kind ns s p (subst (λ (z : Node-F Node). allows s z.kind ≡ true) (out-roll-Node parts) t.0)
          (subst (λ l. all_have_shapes (child_shapes parts.kind s (length l)) (map has_shape l) ≡ true) (sym is)
          (subst (λ (z : Node-F Node). all_have_shapes (child_shapes z.kind s (length z.children)) (map has_shape z.children) ≡ true) (out-roll-Node parts) t.1));
    }

fitting : (n : Node) → Fitting n
fitting = ind-Node Fitting (λ parts y is. fitting_roll parts y.children (ap (λ z. z.children) is))

-- what stands where an expression does fits
pub shape_fits : (n : Node) (s : Shape) → is_part s.sort ≡ true → has_shape n s ≡ true → fits n ≡ true
shape_fits n s p h = (fitting n).fits s p h
