-- Without its types a source has ordinary functions.
use Rattle.std.proofs.Common.{◌≡◌, ◌∙◌, refl, sym, ap, subst, ℕ, zero, suc, Bool, true, false, ◌&&◌, ◌||◌, not, List, [], ◌∷◌, map, length, replicate, Some, None, slice_get}
use Rattle.std.specs.List.{list_all}
use Rattle.ecma_kind.specs.Sorts.{belongs}
use Rattle.ecma_kind.specs.declared.kind.Kind.{Kind}
use Rattle.ecma_kind.specs.declared.kind.Kind.TheVariants as kind
use Rattle.ecma_kind.specs.declared.shapes.Count.{Count}
use Rattle.ecma_kind.specs.declared.shapes.Count.TheVariants.{One, Maybe, Many, MaybeMany, Holes}
use Rattle.ecma_kind.specs.declared.shapes.Shape.{Shape}
use Rattle.ecma_kind.specs.declared.shapes.Sort.{Sort}
use Rattle.ecma_kind.specs.declared.shapes.Sort.TheVariants as sort
use Rattle.ecma_kind.specs.declared.span.Span.{Span}
use Rattle.ecma_tree.specs.declared.node.Node.{Node, out-Node}
use Rattle.ecma_tree.specs.Laws.{HaveShapes}
use Rattle.ecma_tree.specs.Nodes.{dummy_span, node_of}
use Rattle.ecma_tree.specs.Sorted.{HasShape, allows, child_shapes, is_list, item_shape, maybe, one}
use Rattle.ecma_rules.specs.Children.{is_present, kind_of}
use Rattle.ecma_runs.specs.Evaluation.{meaning, meaning_by}
use Rattle.ecma_runs.specs.Meaning.{Meaning}
use Rattle.ecma_runs.proofs.Layer.{meaning_out}
use Rattle.ecma_rules.specs.Members.{has_body}
use Rattle.ecma_fits.specs.declared.unfit.Where.{Where}
use Rattle.ecma_fits.specs.Fitting.{first_unfit_in, where_in}
use Rattle.ecma_strip.specs.Stripping.{plain_children, plain_kind, stripped}
use Rattle.ecma_strip_runs.specs.UsualBodies.{holds_throughout}
use Rattle.ecma_strip_runs.proofs.Telling.{holds-roll}
use Rattle.ecma_strip_scopes.proofs.Going.{parts-have}
use Rattle.ecma_hygiene.proofs.Telling.{and-both, and-left, and-right, true-false}
use Rattle.ecma_hygiene_fits.proofs.Everywhere.{children_of}
use Rattle.ecma_pipeline_runs.proofs.Clearing.{fits-below}
use Rattle.ecma_pipeline_runs.proofs.FullParts.{full_by, is_full, lacks}
use Rattle.ecma_pipeline_runs.proofs.Nodes.{by-children, child-shape, holds-out, none-some, not-false, not-true, some-same, test-below, test-here}
use Rattle.ecma_pipeline_runs.proofs.Plainness.{full-lacks}
use Rattle.ecma_pipeline_runs.proofs.Remaining.{is_many, restless}
use Rattle.ecma_pipeline_plain.proofs.Ordinary.{is_ordinary, is_there, ordinary_by}
use Rattle.ecma_pipeline_plain.proofs.OrdinaryParts.{no_misfit, partly, partly_by}
use Rattle.ecma_pipeline_plain.proofs.Stripping.{Says, kept}

-- ---- what is left of nodes that fit

abbrev pub is_partly : Node → Bool
is_partly = holds_throughout partly_by

all_hold : (f : Node → Bool) (cs : List Node) → ((i : ℕ) (c : Node) → slice_get cs i ≡ Some c → f c ≡ true) → list_all f cs ≡ true
all_hold f [] each = refl
all_hold f (c ∷ cs) each = and-both (f c) (list_all f cs) (each 0 c refl) (all_hold f cs (λ i d at. each (suc i) d at))

abbrev IsPartly : Node → Type 0
IsPartly n = is_partly n ≡ true

partly_made : (span : Span) (k : Kind) (cs : List Node) → partly_by k cs ≡ true → ((i : ℕ) (c : Node) → slice_get cs i ≡ Some c → IsPartly c) → IsPartly (node_of span k cs)
partly_made span k cs h each = holds-roll partly_by (record { span = span; kind = k; children = cs }) ∙ and-both (partly_by k cs) (list_all is_partly cs) h (all_hold is_partly cs each)

-- it fits where it stands
abbrev Fitting : Node → Type 0
Fitting n = (w : Where) × (first_unfit_in n w ≡ None)

fitting_says : Says Fitting IsPartly
fitting_says = record {
  below = λ n fits i c at stay. (where_in fits.0 n i, fits-below fits.0 n fits.1 i c at);
  missing = partly_made dummy_span kind.Absent [] refl (λ i c at. none-some at);
  empty = λ span. partly_made span kind.EmptyStmt [] refl (λ i c at. none-some at);
  lists = λ span cs each. partly_made span kind.List cs refl each;
  usual = λ n s u has fits each.
      partly_made (out-Node n).span (plain_kind (kind_of n)) (plain_children (kind_of n) (map stripped (children_of n))) (partly n (kind_of n) s (children_of n) refl (parts-have n s has).1 (no_misfit fits.0 n fits.1)) each;
}

pub stripped_parts : (tree : Node) (s : Shape) (w : Where) → HasShape s tree → first_unfit_in tree w ≡ None → is_partly (stripped tree) ≡ true
stripped_parts tree s w has fits = (kept Fitting IsPartly fitting_says tree s has (w, fits)).0

-- ---- bodies, as runs have them

there_by : (b : Node) (k : Kind) (ms : List Meaning) → (meaning_by b k ms).is_absent ≡ false → is_present k ≡ true
there_by b kind.Absent ms h = absurd (true-false refl h)
there_by b _ ms h = refl

body_there : (b : Node) → (meaning b).is_absent ≡ false → is_present (kind_of b) ≡ true
body_there b h = there_by b (kind_of b) (map meaning (children_of b)) (sym (ap (λ (m : Meaning). m.is_absent) (meaning_out b)) ∙ h)

function_by : (f : Node) (k : Kind) (cs : List Node) → allows (one sort.Function) k ≡ true → HaveShapes (child_shapes k (one sort.Function) (length cs)) cs → (meaning_by f k (map meaning cs)).has_body ≡ true → is_there cs 1 ≡ true
function_by f (kind.Function g a) (p ∷ b ∷ t ∷ r ∷ []) is have h = body_there b (not-true (meaning b).is_absent h)
function_by f (kind.Function g a) [] is have h = absurd have
function_by f (kind.Function g a) (p ∷ []) is have h = absurd have.1
function_by f (kind.Function g a) (p ∷ b ∷ []) is have h = absurd have.1.1
function_by f (kind.Function g a) (p ∷ b ∷ t ∷ []) is have h = absurd have.1.1.1
function_by f (kind.Function g a) (p ∷ b ∷ t ∷ r ∷ u ∷ cs) is have h = absurd have.1.1.1.1
function_by f _ cs is have h = absurd (true-false is refl)

function_there : (f : Node) → HasShape (one sort.Function) f → (meaning f).has_body ≡ true → has_body f ≡ true
function_there f has h =
    let o = parts-have f (one sort.Function) has in
    function_by f (kind_of f) (children_of f) o.0 o.1 (sym (ap (λ (m : Meaning). m.has_body) (meaning_out f)) ∙ h)

-- ---- where functions stand

abbrev is_function : Kind → Bool
is_function (kind.Function is_generator is_async) = true
is_function _ = false

abbrev is_function_sort : Sort → Bool
is_function_sort sort.Function = true
is_function_sort _ = false

function_sort : (g a : Bool) (σ : Sort) → belongs σ (kind.Function g a) ≡ true → is_function_sort σ ≡ true
function_sort g a sort.Program h = absurd (true-false h refl)
function_sort g a _ h = cc

abbrev is_functionless : Shape → Bool
is_functionless o = is_many o.count || not (is_function_sort o.sort)

functionless_by : (k : Kind) (o : Shape) → is_functionless o ≡ true → allows o k ≡ true → is_function k ≡ true → ⊥
functionless_by (kind.Function g a) o calm h is = restless is_function_sort (kind.Function g a) (function_sort g a) refl refl o.count o.sort calm h
functionless_by _ o calm h is = true-false is refl

abbrev all_functionless : List Shape → Bool
all_functionless [] = true
all_functionless (o ∷ os) = is_functionless o && all_functionless os

functionless_at : (os : List Shape) (i : ℕ) (o : Shape) → all_functionless os ≡ true → slice_get os i ≡ Some o → is_functionless o ≡ true
functionless_at [] i o h at = none-some at
functionless_at (x ∷ xs) zero o h at = ap is_functionless (sym (some-same at)) ∙ and-left (is_functionless x) (all_functionless xs) h
functionless_at (x ∷ xs) (suc i) o h at = functionless_at xs i o (and-right (is_functionless x) (all_functionless xs) h) at

abbrev holds_function : Kind → Bool
holds_function (kind.FnDecl declare) = true
holds_function kind.FnExpr = true
holds_function kind.MethodProp = true
holds_function (kind.ClassMethod k modifiers) = true
holds_function (kind.PrivateMethod k modifiers) = true
holds_function _ = false

expressions_functionless : (m : ℕ) → all_functionless (replicate m (one sort.Expr)) ≡ true
expressions_functionless zero = refl
expressions_functionless (suc m) = expressions_functionless m

others_functionless : (k : Kind) (s : Shape) (m : ℕ) → is_list k ≡ false → holds_function k ≡ false → all_functionless (child_shapes k s m) ≡ true
others_functionless kind.List s m l h = absurd (true-false refl l)
others_functionless kind.SeqExpr s zero l h = refl
others_functionless kind.SeqExpr s (suc m) l h = expressions_functionless m
others_functionless (kind.FnDecl declare) s m l h = absurd (true-false refl h)
others_functionless kind.FnExpr s m l h = absurd (true-false refl h)
others_functionless kind.MethodProp s m l h = absurd (true-false refl h)
others_functionless (kind.ClassMethod k modifiers) s m l h = absurd (true-false refl h)
others_functionless (kind.PrivateMethod k modifiers) s m l h = absurd (true-false refl h)
others_functionless _ s m l h = refl

-- the function of a node that holds one, which stands second, has a body
abbrev SecondHas : List Node → Type 0
SecondHas cs = (i : ℕ) (c : Node) → slice_get cs i ≡ Some c → is_function (kind_of c) ≡ true → has_body c ≡ true

second_has : (a f : Node) (o : Shape) → HasShape o a → is_functionless o ≡ true → has_body f ≡ true → SecondHas (a ∷ f ∷ [])
second_has a f o has calm h zero c at is = absurd (functionless_by (kind_of a) o calm (parts-have a o has).0 (ap (λ (z : Node). is_function (kind_of z)) (some-same at) ∙ is))
second_has a f o has calm h (suc zero) c at is = ap has_body (sym (some-same at)) ∙ h
second_has a f o has calm h (suc (suc i)) c at is = none-some at

held_have : (k : Kind) (s : Shape) (m : ℕ) (cs : List Node) → holds_function k ≡ true → HaveShapes (child_shapes k s m) cs → lacks k (map meaning cs) ≡ false → partly_by k cs ≡ true → SecondHas cs
held_have (kind.FnDecl declare) s m (a ∷ f ∷ []) is have l p = second_has a f (one sort.Ident) have.0 refl (function_there f have.1.0 (not-false (meaning f).has_body l))
held_have (kind.FnDecl declare) s m [] is have l p = absurd have
held_have (kind.FnDecl declare) s m (a ∷ []) is have l p = absurd have.1
held_have (kind.FnDecl declare) s m (a ∷ f ∷ g ∷ cs) is have l p = absurd have.1.1
held_have kind.FnExpr s m (a ∷ f ∷ []) is have l p = second_has a f (maybe sort.Ident) have.0 refl (function_there f have.1.0 (not-false (meaning f).has_body l))
held_have kind.FnExpr s m [] is have l p = absurd have
held_have kind.FnExpr s m (a ∷ []) is have l p = absurd have.1
held_have kind.FnExpr s m (a ∷ f ∷ g ∷ cs) is have l p = absurd have.1.1
held_have kind.MethodProp s m (a ∷ f ∷ []) is have l p = second_has a f (one sort.PropName) have.0 refl p
held_have kind.MethodProp s m [] is have l p = absurd have
held_have kind.MethodProp s m (a ∷ []) is have l p = absurd have.1
held_have kind.MethodProp s m (a ∷ f ∷ g ∷ cs) is have l p = absurd have.1.1
held_have (kind.ClassMethod x o) s m (a ∷ f ∷ []) is have l p = second_has a f (one sort.PropName) have.0 refl (function_there f have.1.0 (not-false (meaning f).has_body l))
held_have (kind.ClassMethod x o) s m [] is have l p = absurd have
held_have (kind.ClassMethod x o) s m (a ∷ []) is have l p = absurd have.1
held_have (kind.ClassMethod x o) s m (a ∷ f ∷ g ∷ cs) is have l p = absurd have.1.1
held_have (kind.PrivateMethod x o) s m (a ∷ f ∷ []) is have l p = second_has a f (one sort.PrivateName) have.0 refl (function_there f have.1.0 (not-false (meaning f).has_body l))
held_have (kind.PrivateMethod x o) s m [] is have l p = absurd have
held_have (kind.PrivateMethod x o) s m (a ∷ []) is have l p = absurd have.1
held_have (kind.PrivateMethod x o) s m (a ∷ f ∷ g ∷ cs) is have l p = absurd have.1.1
held_have _ s m cs is have l p = absurd (true-false is refl)

-- no list holds functions
abbrev is_sound : Shape → Bool
is_sound o = not (is_many o.count && is_function_sort o.sort)

abbrev all_sound : List Shape → Bool
all_sound [] = true
all_sound (o ∷ os) = is_sound o && all_sound os

sound_at : (os : List Shape) (i : ℕ) (o : Shape) → all_sound os ≡ true → slice_get os i ≡ Some o → is_sound o ≡ true
sound_at [] i o h at = none-some at
sound_at (x ∷ xs) zero o h at = ap is_sound (sym (some-same at)) ∙ and-left (is_sound x) (all_sound xs) h
sound_at (x ∷ xs) (suc i) o h at = sound_at xs i o (and-right (is_sound x) (all_sound xs) h) at

expressions_sound : (m : ℕ) → all_sound (replicate m (one sort.Expr)) ≡ true
expressions_sound zero = refl
expressions_sound (suc m) = expressions_sound m

children_sound : (k : Kind) (s : Shape) (m : ℕ) → is_list k ≡ false → all_sound (child_shapes k s m) ≡ true
children_sound kind.List s m l = absurd (true-false refl l)
children_sound kind.SeqExpr s zero l = refl
children_sound kind.SeqExpr s (suc m) l = expressions_sound m
children_sound _ s m l = refl

item_sound : (c : Count) (σ : Sort) → is_sound (item_shape (record { count = c; sort = σ })) ≡ true
item_sound Holes σ = refl
item_sound _ σ = refl

no_list : (σ : Sort) → belongs σ kind.List ≡ true → ⊥
no_list sort.Program b = absurd (true-false b refl)
no_list _ b = absurd (true-false b refl)

item_functionless : (c : Count) (σ : Sort) → allows (record { count = c; sort = σ }) kind.List ≡ true → is_sound (record { count = c; sort = σ }) ≡ true → is_functionless (item_shape (record { count = c; sort = σ })) ≡ true
item_functionless One σ a h = absurd (no_list σ a)
item_functionless Maybe σ a h = absurd (no_list σ a)
item_functionless Many σ a h = h
item_functionless MaybeMany σ a h = h
item_functionless Holes σ a h = h

-- ---- a tree

replicated : (m : ℕ) (x : Shape) (i : ℕ) (o : Shape) → slice_get (replicate m x) i ≡ Some o → x ≡ o
replicated zero x i o at = none-some at
replicated (suc m) x zero o at = some-same at
replicated (suc m) x (suc i) o at = replicated m x i o at

items_sound : (k : Kind) (s : Shape) (m : ℕ) → is_list k ≡ true → allows s k ≡ true → is_sound s ≡ true → (i : ℕ) (o : Shape) → slice_get (child_shapes k s m) i ≡ Some o → (is_sound o ≡ true) × (is_functionless o ≡ true)
items_sound kind.List s m l a h i o at =
    let same = replicated m (item_shape s) i o at in
    (subst (λ z. is_sound z ≡ true) same (item_sound s.count s.sort), subst (λ z. is_functionless z ≡ true) same (item_functionless s.count s.sort a h))
items_sound _ s m l a h i o at = absurd (true-false l refl)

ordinary_here : (k : Kind) (s : Shape) (m : ℕ) (cs : List Node) → HaveShapes (child_shapes k s m) cs → lacks k (map meaning cs) ≡ false → partly_by k cs ≡ true → (is_function k ≡ true → is_there cs 1 ≡ true) → ordinary_by k cs ≡ true
ordinary_here (kind.Function g a) s m cs have l p h = h refl
ordinary_here (kind.Constructor x o) s m (a ∷ q ∷ b ∷ []) have l p h = body_there b l
ordinary_here (kind.Constructor x o) s m [] have l p h = absurd have
ordinary_here (kind.Constructor x o) s m (a ∷ []) have l p h = absurd have.1
ordinary_here (kind.Constructor x o) s m (a ∷ q ∷ []) have l p h = absurd have.1.1
ordinary_here (kind.Constructor x o) s m (a ∷ q ∷ b ∷ c ∷ cs) have l p h = absurd have.1.1.1
ordinary_here kind.GetterProp s m cs have l p h = p
ordinary_here kind.SetterProp s m cs have l p h = p
ordinary_here _ s m cs have l p h = refl

abbrev Ordinary : Node → Type 0
Ordinary n = (s : Shape) → HasShape s n → is_sound s ≡ true → is_full n ≡ true → is_partly n ≡ true → (is_function (kind_of n) ≡ true → has_body n ≡ true) → is_ordinary n ≡ true

module _ (n : Node) (below : (i : ℕ) (c : Node) → slice_get (children_of n) i ≡ Some c → Ordinary c) (s : Shape) (has : HasShape s n) (sound : is_sound s ≡ true) (full : is_full n ≡ true) (whole : is_partly n ≡ true)
    (bodied : is_function (kind_of n) ≡ true → has_body n ≡ true) where
  abbrev k : Kind
  k = kind_of n

  abbrev cs : List Node
  cs = children_of n

  abbrev os : List Shape
  os = child_shapes k s (length cs)

  have : HaveShapes os cs
  have = (parts-have n s has).1

  -- a child of a shape in which no function stands, or whose body is known
  child_ordinary : (i : ℕ) (c : Node) → slice_get cs i ≡ Some c → (o : Shape) → HasShape o c → is_sound o ≡ true → (is_function (kind_of c) ≡ true → has_body c ≡ true) → is_ordinary c ≡ true
  child_ordinary i c at o h g b = below i c at o h g (test-below full_by n full i c at) (test-below partly_by n whole i c at) b

  calm_ordinary : (i : ℕ) (c : Node) → slice_get cs i ≡ Some c → (o : Shape) → HasShape o c → is_sound o ≡ true → is_functionless o ≡ true → is_ordinary c ≡ true
  calm_ordinary i c at o h g calm = child_ordinary i c at o h g (λ is. absurd (functionless_by (kind_of c) o calm (parts-have c o h).0 is))

  each_ordinary : (l : Bool) → is_list k ≡ l → (f : Bool) → holds_function k ≡ f → (i : ℕ) (c : Node) → slice_get cs i ≡ Some c → is_ordinary c ≡ true
  each_ordinary true l f e i c at =
      let shape = child-shape os cs have i c at in
      let sounds = items_sound k s (length cs) l (parts-have n s has).0 sound i shape.0 shape.1 in
      calm_ordinary i c at shape.0 shape.2 sounds.0 sounds.1
  each_ordinary false l true e i c at =
      let shape = child-shape os cs have i c at in
      child_ordinary i c at shape.0 shape.2 (sound_at os i shape.0 (children_sound k s (length cs) l) shape.1) (held_have k s (length cs) cs e have (full-lacks n full) (test-here partly_by n whole) i c at)
  each_ordinary false l false e i c at =
      let shape = child-shape os cs have i c at in
      calm_ordinary i c at shape.0 shape.2 (sound_at os i shape.0 (children_sound k s (length cs) l) shape.1) (functionless_at os i shape.0 (others_functionless k s (length cs) l e) shape.1)

  layer_ordinary : is_ordinary n ≡ true
  layer_ordinary =
      holds-out ordinary_by n
      ∙ and-both (ordinary_by k cs) (list_all is_ordinary cs) (ordinary_here k s (length cs) cs have (full-lacks n full) (test-here partly_by n whole) bodied) (all_hold is_ordinary cs (each_ordinary (is_list k) refl (holds_function k) refl))

ordinary : (n : Node) → Ordinary n
ordinary = by-children Ordinary layer_ordinary

no_function : (k : Kind) → belongs sort.Module k ≡ true → is_function k ≡ true → ⊥
no_function (kind.Function g a) b is = true-false b refl
no_function _ b is = true-false is refl

pub stripped_ordinary : (tree : Node) → HasShape (one sort.Module) tree → is_full tree ≡ true → is_partly tree ≡ true → is_ordinary tree ≡ true
stripped_ordinary tree has full whole = ordinary tree (one sort.Module) has refl full whole (λ is. absurd (no_function (kind_of tree) (parts-have tree (one sort.Module) has).0 is))
