-- A node of which what is asked has the same answers means the same, by induction over the tree.
use Rattle.std.proofs.Common.{◌≡◌, refl, sym, ap, ap₂, ◌∙◌, subst, List, [], ◌∷◌, map, Bool, true, false, not, ◌&&◌, ◌||◌}
use Rattle.std.specs.List.{list_all}
use Rattle.std.proofs.lemmas.Bool.{false≢true}
use Rattle.ecma_kind.specs.declared.kind.Kind.{Kind}
use Rattle.ecma_kind.specs.declared.kind.Kind.TheVariants as kind
use Rattle.ecma_tree.specs.declared.node.Node.{Node, Node-F, roll-Node, ind-Node}
use Rattle.ecma_tree.specs.declared.node.Node.TheViews.{out-roll-Node}
use Rattle.ecma_tree.proofs.Layers.{from_leaves-roll}
use Rattle.ecma_runs.specs.Meaning.{Meaning}
use Rattle.ecma_runs.specs.Declarations.{has_no_effect}
use Rattle.ecma_runs.specs.Evaluation.{meaning_by, meaning}
use Rattle.ecma_runs.proofs.Layer.{meaning-roll}
use Rattle.ecma_run_enums.specs.Asking.{is_type_part, none_at, none_by, none_asks}
use Rattle.ecma_run_enums.proofs.Two.{Two, Part, meanings}
use Rattle.ecma_run_enums.proofs.Nodes.{Same, Silent, role_same, step_same, effectless, no_effect_same}

pub both_true : (a b : Bool) → a && b ≡ true → (a ≡ true) × (b ≡ true)
both_true true b h = (refl, h)
both_true false b h = absurd (false≢true h)

pub not_true : (b : Bool) → not b ≡ true → b ≡ false
not_true true h = absurd (false≢true h)
not_true false h = refl

-- ---- what the test says of a layer

abbrev pub Test : Type 0
Test = Kind → Node → Bool

pub asks-roll : (asks : Test) (x : Node-F Node) → none_asks asks (roll-Node x) ≡ none_at asks x.kind x.children (roll-Node x) (map (none_asks asks) x.children)
asks-roll asks x =
    from_leaves-roll Bool (none_by asks) x ∙ ap (λ (z : Node-F Node). none_at asks z.kind z.children (roll-Node x) (map (none_asks asks) x.children)) (out-roll-Node x)

-- a type, what has no effect, or else what it says of the node and of each child
pub data Asked (asks : Test) (k : Kind) (cs : List Node) (n : Node) (kids : List Bool) : Type 0 where
  asked_type : is_type_part k ≡ true → Asked asks k cs n kids
  asked_nothing : has_no_effect k (map meaning cs) ≡ true → Asked asks k cs n kids
  asked_all : asks k n ≡ false → list_all (λ b. b) kids ≡ true → Asked asks k cs n kids

asked_by : (asks : Test) (k : Kind) (cs : List Node) (n : Node) (kids : List Bool) (a b : Bool) → is_type_part k ≡ a → has_no_effect k (map meaning cs) ≡ b
    → a || (b || (not (asks k n) && list_all (λ b. b) kids)) ≡ true → Asked asks k cs n kids
asked_by asks k cs n kids true b is none h = asked_type is
asked_by asks k cs n kids false true is none h = asked_nothing none
asked_by asks k cs n kids false false is none h = let t = both_true (not (asks k n)) (list_all (λ b. b) kids) h in asked_all (not_true (asks k n) t.0) t.1

pub asked : (asks : Test) (k : Kind) (cs : List Node) (n : Node) (kids : List Bool) → none_at asks k cs n kids ≡ true → Asked asks k cs n kids
asked asks k cs n kids h = asked_by asks k cs n kids (is_type_part k) (has_no_effect k (map meaning cs)) refl refl h

abbrev pub none_ask : Test → List Node → Bool
none_ask asks ns = list_all (λ b. b) (map (none_asks asks) ns)

-- ---- nodes

module _ (t : Two) (p q : Test) (silent : (node : Node) (k : Kind) → p k node ≡ false → q k node ≡ false → Silent t node k) where
  -- a node of which neither test is so means the same
  abbrev Claim : Node → Type 0
  Claim n = none_asks p n ≡ true → none_asks q n ≡ true → Same t (meaning n)

  abbrev Child : Type 0
  Child = (n : Node) × Claim n

  abbrev nodes : List Child → List Node
  nodes ns = map (λ (e : Child). e.0) ns

  parts : (ns : List Child) → none_ask p (nodes ns) ≡ true → none_ask q (nodes ns) ≡ true → List (Part t)
  parts [] h g = []
  parts (n ∷ ns) h g =
      let a = both_true (none_asks p n.0) (none_ask p (nodes ns)) h in
      let b = both_true (none_asks q n.0) (none_ask q (nodes ns)) g in
      (meaning n.0, n.1 a.0 b.0) ∷ parts ns a.1 b.1

  meanings_of_parts : (ns : List Child) (h : none_ask p (nodes ns) ≡ true) (g : none_ask q (nodes ns) ≡ true) → meanings t (parts ns h g) ≡ map meaning (nodes ns)
  unfolding parts
  meanings_of_parts [] h g = refl
  meanings_of_parts (n ∷ ns) h g =
      let a = both_true (none_asks p n.0) (none_ask p (nodes ns)) h in
      let b = both_true (none_asks q n.0) (none_ask q (nodes ns)) g in
      ap (λ l. meaning n.0 ∷ l) (meanings_of_parts ns a.1 b.1)

  type_same : (node : Node) (k : Kind) (ms : List Meaning) → is_type_part k ≡ true → Same t (meaning_by node k ms)
  type_same node kind.TsTypeAnn ms is = role_same t node kind.Absent [] tt
  type_same node kind.TsTypeParamDecl ms is = role_same t node kind.Absent [] tt
  type_same node kind.TsTypeParamInstantiation ms is = role_same t node kind.Absent [] tt
  type_same node k ms is = absurd (false≢true is)

  nothing_same : (node : Node) (k : Kind) (ms : List Meaning) → has_no_effect k ms ≡ true → Same t (meaning_by node k ms)
  nothing_same node k ms none = subst (Same t) (sym (effectless node k ms none)) (no_effect_same t node)

  layer_same : (node : Node) (k : Kind) (ns : List Child) → Asked p k (nodes ns) node (map (none_asks p) (nodes ns)) → Asked q k (nodes ns) node (map (none_asks q) (nodes ns))
      → Same t (meaning_by node k (map meaning (nodes ns)))
  layer_same node k ns (asked_type is) other = type_same node k (map meaning (nodes ns)) is
  layer_same node k ns (asked_nothing none) other = nothing_same node k (map meaning (nodes ns)) none
  layer_same node k ns (asked_all a h) (asked_type is) = type_same node k (map meaning (nodes ns)) is
  layer_same node k ns (asked_all a h) (asked_nothing none) = nothing_same node k (map meaning (nodes ns)) none
  layer_same node k ns (asked_all a h) (asked_all b g) =
      subst (λ ms. Same t (meaning_by node k ms)) (meanings_of_parts ns h g) (step_same t node k (parts ns h g) (silent node k a b))

  told : (asks : Test) (x : Node-F Node) (ns : List Child) → nodes ns ≡ x.children → none_asks asks (roll-Node x) ≡ true → Asked asks x.kind (nodes ns) (roll-Node x) (map (none_asks asks) (nodes ns))
  told asks x ns is e =
      asked asks x.kind (nodes ns) (roll-Node x) (map (none_asks asks) (nodes ns))
      (ap (λ cs. none_at asks x.kind cs (roll-Node x) (map (none_asks asks) cs)) is ∙ (sym (asks-roll asks x) ∙ e))

  step : (x : Node-F Node) (ns : List Child) → nodes ns ≡ x.children → Claim (roll-Node x)
  step x ns is h g =
      subst (Same t) (ap (λ cs. meaning_by (roll-Node x) x.kind (map meaning cs)) is ∙ sym (meaning-roll x)) (layer_same (roll-Node x) x.kind ns (told p x ns is h) (told q x ns is g))

  pub answered_same : (n : Node) → Claim n
  answered_same = ind-Node Claim (λ x y is. step x y.children (ap (λ z. z.children) is))

-- ---- tests that are never so, and that are so less often

either_true : (a b c : Bool) → c ≡ true → a || (b || c) ≡ true
either_true true b c h = refl
either_true false true c h = refl
either_true false false c h = h

module _ (asks : Test) (never : (k : Kind) (n : Node) → asks k n ≡ false) where
  abbrev Never : Node → Type 0
  Never n = none_asks asks n ≡ true

  all_never : (ns : List ((n : Node) × Never n)) → none_ask asks (map (λ e. e.0) ns) ≡ true
  all_never [] = refl
  all_never (n ∷ ns) = ap₂ (λ a b. a && b) n.1 (all_never ns)

  pub never_asks : (n : Node) → Never n
  never_asks = ind-Node Never (λ x y is.
      asks-roll asks x ∙ either_true (is_type_part x.kind) (has_no_effect x.kind (map meaning x.children)) _
      (ap₂ (λ a b. not a && b) (never x.kind (roll-Node x)) (ap (λ z. none_ask asks z.children) (sym is) ∙ all_never y.children)))

module _ (p q : Test) (less : (k : Kind) (n : Node) → p k n ≡ false → q k n ≡ false) where
  abbrev Less : Node → Type 0
  Less n = none_asks p n ≡ true → none_asks q n ≡ true

  all_less : (ns : List ((n : Node) × Less n)) → none_ask p (map (λ e. e.0) ns) ≡ true → none_ask q (map (λ e. e.0) ns) ≡ true
  all_less [] h = refl
  all_less (n ∷ ns) h = let t = both_true (none_asks p n.0) (none_ask p (map (λ e. e.0) ns)) h in ap₂ (λ a b. a && b) (n.1 t.0) (all_less ns t.1)

  first_true : (a b c : Bool) → a ≡ true → a || (b || c) ≡ true
  first_true a b c h = rw h refl

  second_true : (a b c : Bool) → b ≡ true → a || (b || c) ≡ true
  second_true true b c h = refl
  second_true false b c h = rw h refl

  abbrev rest : Kind → List ((n : Node) × Less n) → Node → Bool
  rest k ns node = not (q k node) && none_ask q (map (λ e. e.0) ns)

  less_at : (k : Kind) (ns : List ((n : Node) × Less n)) (node : Node) → Asked p k (map (λ e. e.0) ns) node (map (none_asks p) (map (λ e. e.0) ns)) → none_at q k (map (λ e. e.0) ns) node (map (none_asks q) (map (λ e. e.0) ns)) ≡ true
  less_at k ns node (asked_type is) = first_true (is_type_part k) (has_no_effect k (map meaning (map (λ e. e.0) ns))) (rest k ns node) is
  less_at k ns node (asked_nothing none) = second_true (is_type_part k) (has_no_effect k (map meaning (map (λ e. e.0) ns))) (rest k ns node) none
  less_at k ns node (asked_all a h) = either_true (is_type_part k) (has_no_effect k (map meaning (map (λ e. e.0) ns))) (rest k ns node) (ap₂ (λ c b. not c && b) (less k node a) (all_less ns h))

  pub less_asks : (n : Node) → Less n
  less_asks = ind-Node Less (λ x y is h.
      let same : map (λ e. e.0) y.children ≡ x.children = ap (λ z. z.children) is in
      asks-roll q x ∙ (ap (λ cs. none_at q x.kind cs (roll-Node x) (map (none_asks q) cs)) (sym same)
      ∙ less_at x.kind y.children (roll-Node x) (asked p x.kind (map (λ e. e.0) y.children) (roll-Node x) (map (none_asks p) (map (λ e. e.0) y.children))
      (ap (λ cs. none_at p x.kind cs (roll-Node x) (map (none_asks p) cs)) same ∙ (sym (asks-roll p x) ∙ h)))))
