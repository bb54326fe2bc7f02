-- Trees with parentheses added, and that `enclosed` adds them.
use Rattle.std.proofs.Common.{◌≡◌, ◌∙◌, ℕ, zero, suc, Bool, true, false, ◌&&◌, ◌==◌, cond, List, [], ◌∷◌, map, length, Some, refl, sym, ap, subst, slice_get, arith}
use Rattle.ecma_kind.specs.Sorts.{is_type_wrapper}
use Rattle.ecma_kind.specs.declared.kind.Kind.{Kind}
use Rattle.ecma_kind.specs.declared.kind.Kind.TheVariants as kind
use Rattle.ecma_kind.specs.declared.shapes.Shape.{Shape}
use Rattle.ecma_tree.specs.declared.node.Node.{Node, Node-F, ind-Node, out-Node, roll-Node}
use Rattle.ecma_tree.specs.declared.node.Node.TheViews.{out-roll-Node}
use Rattle.ecma_tree.specs.Sorted.{HasShape, child_shapes}
use Rattle.ecma_rules.specs.Children.{kind_of}
use Rattle.ecma_strip_fits.proofs.Lists.{have_at}
use Rattle.ecma_strip_fits.proofs.Walk.{shape_parts}
use Rattle.ecma_enclose.specs.declared.place.Place.{Place}
use Rattle.ecma_enclose.specs.declared.place.Place.TheVariants as place
use Rattle.ecma_enclose.specs.Enclosing.{each_at, enclosed, enclosed_at, first_in, in_block, in_list, in_parentheses, in_statement, is_async_under_types, is_enclosed, is_text_under_types, place_in}
use Rattle.ecma_enclose.proofs.Fronted.{enclosed-alone, enclosed-usual, places}

abbrev pub children_of : Node → List Node
children_of n = (out-Node n).children

-- a node of a sorted tree
abbrev pub Shaped : Node → Type 0
Shaped n = (shape : Shape) × HasShape shape n

pub child_shaped : (n : Node) → Shaped n → (i : ℕ) (c : Node) → slice_get (children_of n) i ≡ Some c → Shaped c
child_shaped n s i c at = let t = have_at (child_shapes (kind_of n) s.0 (length (children_of n))) (children_of n) (shape_parts n s.0 s.1).1 i c at in (t.0, t.2)

-- ---- trees with parentheses added

-- a kind whose first child may get parentheses
abbrev pub is_open : Kind → Bool
is_open kind.ExprStmt = true
is_open (kind.ForOfStmt is_await) = true
is_open _ = false

-- a text as a statement, and `async` before `of`, with types round them
abbrev pub Alone : Kind → Node → Type 0
Alone kind.ExprStmt e = is_text_under_types e ≡ true
Alone (kind.ForOfStmt false) e = (is_type_wrapper (kind_of e) && is_async_under_types e) ≡ true
Alone _ e = ⊥

mutual
  -- the second is the first, of a sorted tree, with some of them in parentheses
  pub data Adds : Node → Node → Type 0 where
    adds : {a b : Node} → Shaped a → kind_of b ≡ kind_of a → (out-Node b).span ≡ (out-Node a).span → Below (kind_of a) (children_of a) (children_of b) → Adds a b

  -- so of the children of a node of a kind
  pub data Below : Kind → List Node → List Node → Type 0 where
    every : {k : Kind} {ns ms : List Node} → All ns ms → Below k ns ms
    first : {k : Kind} (e : Node) {ns ms : List Node} → Alone k e → All ns ms → Below k (e ∷ ns) (in_parentheses e ∷ ms)

  pub data All : List Node → List Node → Type 0 where
    none : All [] []
    more : {n m : Node} {ns ms : List Node} → Adds n m → All ns ms → All (n ∷ ns) (m ∷ ms)

-- ---- where nothing is asked

-- no node there gets any
abbrev Calm : Place → Type 0
Calm p = (n : Node) → is_enclosed p n ≡ false

calm_either : (b : Bool) (x y : Place) → Calm x → Calm y → Calm (cond b x y)
calm_either true x y c d = c
calm_either false x y c d = d

elsewhere : Calm place.Elsewhere
elsewhere n = refl

statements : Calm place.Statements
statements n = refl

body : Calm place.Body
body n = refl

behind : Calm place.Behind
behind n = refl

later : (i : ℕ) → (suc i == 0) ≡ false
later i = grind arith

never_first : (b : Bool) (x : Place) → b ≡ false → Calm (cond b x place.Elsewhere)
never_first false x e n = refl
never_first true x e n = cc

calm_block : (p : Place) (i : ℕ) → Calm (in_block p i)
calm_block place.Body i = calm_either (i == 0) place.Statements place.Elsewhere statements elsewhere
calm_block _ i = elsewhere

calm_list : (p : Place) (f i : ℕ) → Calm (in_list p f i)
calm_list place.Statements f i = calm_either (i == f) place.Behind place.Elsewhere behind elsewhere
calm_list _ f i = elsewhere

calm_statement : (p : Place) (i : ℕ) → Calm (in_statement p (suc i))
calm_statement place.Behind i = never_first (suc i == 0) place.Text (later i)
calm_statement _ i = elsewhere

-- where no first child may get any, no child does
calm_in : (p : Place) (k : Kind) (f i : ℕ) → is_open k ≡ false → Calm (place_in p k f i)
unfolding place_in
calm_in p kind.ExprStmt f i o = cc
calm_in p (kind.ForOfStmt is_await) f i o = cc
calm_in p (kind.Module shebang) f i o = calm_either (i == 0) place.Statements place.Elsewhere statements elsewhere
calm_in p (kind.Script shebang) f i o = calm_either (i == 0) place.Statements place.Elsewhere statements elsewhere
calm_in p (kind.Function is_generator is_async) f i o = calm_either (i == 1) place.Body place.Elsewhere body elsewhere
calm_in p (kind.ArrowExpr is_async is_generator) f i o = calm_either (i == 1) place.Body place.Elsewhere body elsewhere
calm_in p (kind.Constructor accessibility is_optional) f i o = calm_either (i == 2) place.Body place.Elsewhere body elsewhere
calm_in p kind.GetterProp f i o = calm_either (i == 2) place.Body place.Elsewhere body elsewhere
calm_in p kind.SetterProp f i o = calm_either (i == 3) place.Body place.Elsewhere body elsewhere
calm_in p kind.BlockStmt f i o = calm_block p i
calm_in p kind.List f i o = calm_list p f i
calm_in p _ f i o = elsewhere

-- ---- the enclosed tree

-- once its parents know where it stands
abbrev Enclosed : Node → Type 0
Enclosed n = Shaped n → (p : Place) → is_enclosed p n ≡ false → Adds n (enclosed_at n p)

abbrev AllEnclosed : List Node → Type 0
AllEnclosed cs = (i : ℕ) (c : Node) → slice_get cs i ≡ Some c → (p : Place) → is_enclosed p c ≡ false → Adds c (enclosed_at c p)

all_each : (cs : List Node) (place_of : ℕ → Place) → ((i : ℕ) → Calm (place_of i)) → AllEnclosed cs → All cs (each_at place_of (map enclosed_at cs))
all_each [] place_of calm below = none
all_each (c ∷ cs) place_of calm below =
    more (below 0 c refl (place_of 0) (calm 0 c)) (all_each cs (λ i. place_of (suc i)) (λ i. calm (suc i)) (λ i d at. below (suc i) d at))

-- behind a first child that is asked
first_of : (k : Kind) (c : Node) (cs : List Node) (place_of : ℕ → Place) → ((i : ℕ) → Calm (place_of (suc i))) → (is_enclosed (place_of 0) c ≡ true → Alone k c) → AllEnclosed (c ∷ cs)
    → Below k (c ∷ cs) (each_at place_of (map enclosed_at (c ∷ cs)))
first_of k c cs place_of calm alone below = by (is_enclosed (place_of 0) c) refl
  where
    rest : All cs (each_at (λ i. place_of (suc i)) (map enclosed_at cs))
    rest = all_each cs (λ i. place_of (suc i)) calm (λ i d at. below (suc i) d at)

    by : (b : Bool) → is_enclosed (place_of 0) c ≡ b → Below k (c ∷ cs) (each_at place_of (map enclosed_at (c ∷ cs)))
    by true is = subst (λ (z : Node). Below k (c ∷ cs) (z ∷ each_at (λ i. place_of (suc i)) (map enclosed_at cs))) (enclosed-alone c (place_of 0) is) (first c (alone is) rest)
    by false is = every (more (below 0 c refl (place_of 0) is) rest)

alone_statement : (p : Place) (c : Node) → is_enclosed (in_statement p 0) c ≡ true → Alone kind.ExprStmt c
alone_statement place.Behind c is = is
alone_statement _ c is = cc

-- where no first child is asked
below_calm : (p : Place) (k : Kind) (f : ℕ) (cs : List Node) → is_open k ≡ false → AllEnclosed cs → Below k cs (each_at (place_in p k f) (map enclosed_at cs))
below_calm p k f cs o below = every (all_each cs (place_in p k f) (λ i. calm_in p k f i o) below)

below_each : (p : Place) (k : Kind) (f : ℕ) (cs : List Node) → AllEnclosed cs → Below k cs (each_at (place_in p k f) (map enclosed_at cs))
unfolding place_in
below_each p k f [] below = every none
below_each p kind.ExprStmt f (c ∷ cs) below = first_of kind.ExprStmt c cs (place_in p kind.ExprStmt f) (calm_statement p) (alone_statement p c) below
below_each p (kind.ForOfStmt false) f (c ∷ cs) below = first_of (kind.ForOfStmt false) c cs (place_in p (kind.ForOfStmt false) f) (λ i. never_first (suc i == 0) place.Left (later i)) (λ is. is) below
below_each p (kind.ForOfStmt true) f (c ∷ cs) below = every (all_each (c ∷ cs) (place_in p (kind.ForOfStmt true) f) (λ i. elsewhere) below)
below_each p k f (c ∷ cs) below = below_calm p k f (c ∷ cs) refl below

parts_of : (n : Node) (p : Place) → is_enclosed p n ≡ false → out-Node (enclosed_at n p) ≡ record { span = (out-Node n).span; kind = kind_of n; children = each_at (places p n) (map enclosed_at (children_of n)) }
parts_of n p usual = ap out-Node (enclosed-usual n p usual) ∙ out-roll-Node (record { span = (out-Node n).span; kind = kind_of n; children = each_at (places p n) (map enclosed_at (children_of n)) })

module _ (P : Node → Type 0) (step : (n : Node) → ((i : ℕ) (c : Node) → slice_get (children_of n) i ≡ Some c → P c) → P n) where
  each : (es : List ((n : Node) × P n)) (i : ℕ) (c : Node) → slice_get (map (λ e. e.0) es) i ≡ Some c → P c
  each [] i c at = cc
  each (e ∷ es) zero c at = let same : e.0 ≡ c = cc in subst P same e.1
  each (e ∷ es) (suc i) c at = each es i c at

  pub by_children : (n : Node) → P n
  by_children = ind-Node P (λ x y is. step (roll-Node x) (λ i c at.
      each y.children i c (ap (λ (z : Node-F Node). slice_get z.children i) is ∙ (sym (ap (λ (z : Node-F Node). slice_get z.children i) (out-roll-Node x)) ∙ at))))

adds_at : (n : Node) → Enclosed n
adds_at = by_children Enclosed (λ n below s p usual.
    (let parts = parts_of n p usual in
    adds s (ap (λ (z : Node-F Node). z.kind) parts) (ap (λ (z : Node-F Node). z.span) parts)
    (subst (Below (kind_of n) (children_of n)) (sym (ap (λ (z : Node-F Node). z.children) parts))
    (below_each p (kind_of n) (first_in p n) (children_of n) (λ i c at q calm. below i c at (child_shaped n s i c at) q calm)))))

pub enclosed_adds : (tree : Node) → Shaped tree → Adds tree (enclosed tree)
enclosed_adds tree s = adds_at tree s place.Elsewhere refl
