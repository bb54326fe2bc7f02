-- No node of a tree passes a test of kinds and spans where none of its nodes is one that does; and so no identifier was made where no node is one that was.
use Rattle.std.proofs.Common.{◌≡◌, ◌∙◌, ℕ, suc, Bool, false, List, [], ◌∷◌, map, Option, None, refl, sym, ap, ap₂, subst}
use Rattle.ecma_kind.specs.declared.kind.Kind.{Kind}
use Rattle.ecma_kind.specs.declared.span.Span.{Span}
use Rattle.ecma_tree.specs.declared.node.Node.{Node, Node-F, ind-Node, out-Node, roll-Node}
use Rattle.ecma_tree.specs.declared.node.Node.TheViews.{out-roll-Node}
use Rattle.ecma_tree.specs.Nodes.{absent, node_of}
use Rattle.ecma_pipeline_spans.proofs.Trees.{Each, Everywhere, absent_good, everywhere, more, none}
use Rattle.ecma_rules.specs.Failing.{failing_here, failing_step, first_failing, least, least_from}
use Rattle.ecma_fits.specs.declared.unfit.Where.{Where}
use Rattle.ecma_fits.specs.Fitting.{NoneFails, at_top, where_in}
use Rattle.ecma_hygiene_fits.specs.Placed.{NoneMade, is_made}
use Rattle.ecma_hygiene_fits.proofs.Walk.{neither_least, not_failing}
use Rattle.ecma_tree.proofs.Layers.{from_leaves-roll}

-- ---- whatever is asked of the kind and the span of a node

module _ (test : Kind → Span → Bool) where
  abbrev pub IsNot : Span → Kind → Type 0
  IsNot at k = test k at ≡ false

  test_is : (at : Span) (k : Kind) (cs : List Node) → test (out-Node (node_of at k cs)).kind (out-Node (node_of at k cs)).span ≡ test k at
  test_is at k cs = ap (λ (z : Node-F Node). test z.kind z.span) (out-roll-Node (record { span = at; kind = k; children = cs }))

  abbrev here : Where → Node → Option ℕ
  here w n = failing_here (test (out-Node n).kind (out-Node n).span) n

  abbrev first : Node → Where → Option ℕ
  first = first_failing Where here where_in

  first_is : (x : Node-F Node) (w : Where) → first (roll-Node x) w ≡ least (here w (roll-Node x)) (least_from Where (where_in w (roll-Node x)) 0 (map first x.children))
  first_is x w = ap (λ f. f w) (from_leaves-roll (Where → Option ℕ) (failing_step Where here where_in) x)

  -- nothing fails where it holds everywhere

  mutual
    none_found : {n : Node} → Everywhere IsNot n → (w : Where) → first n w ≡ None
    none_found (everywhere at k {children = cs} p h) w =
        let n = node_of at k cs in
        first_is (record { span = at; kind = k; children = cs }) w
        ∙ ap₂ least (ap (λ b. failing_here b n) (test_is at k cs ∙ p)) (none_below h (where_in w n) 0)

    none_below : {ns : List Node} → Each IsNot ns → (around : ℕ → Where) (i : ℕ) → least_from Where around i (map first ns) ≡ None
    none_below none around i = refl
    none_below (more a h) around i = ap₂ least (none_found a (around i)) (none_below h around (suc i))

  pub none_is : (tree : Node) → Everywhere IsNot tree → NoneFails (λ w n. test (out-Node n).kind (out-Node n).span) tree
  none_is tree g = none_found g at_top

  -- and the other way round

  abbrev Found : Node → Type 0
  Found n = (w : Where) → first n w ≡ None → Everywhere IsNot n

  all_found : (es : List ((n : Node) × Found n)) (around : ℕ → Where) (i : ℕ) → least_from Where around i (map first (map (λ e. e.0) es)) ≡ None → Each IsNot (map (λ e. e.0) es)
  all_found [] around i h = none
  all_found (e ∷ es) around i h =
      let both = neither_least (first e.0 (around i)) (least_from Where around (suc i) (map first (map (λ e. e.0) es))) h in
      more (e.1 (around i) both.0) (all_found es around (suc i) both.1)

  of_node : (x : Node-F Node) → ((around : ℕ → Where) → least_from Where around 0 (map first x.children) ≡ None → Each IsNot x.children) → Found (roll-Node x)
  of_node x below w h =
      let n = roll-Node x in
      let both = neither_least (here w n) (least_from Where (where_in w n) 0 (map first x.children)) (sym (first_is x w) ∙ h) in
      everywhere x.span x.kind (sym (test_is x.span x.kind x.children) ∙ not_failing (test (out-Node n).kind (out-Node n).span) n both.0) (below (where_in w n) both.1)

  found : (n : Node) → Found n
  found = ind-Node Found (λ x y is.
      of_node x (subst (λ (z : Node-F Node). (around : ℕ → Where) → least_from Where around 0 (map first z.children) ≡ None → Each IsNot z.children) is (λ around. all_found y.children around 0)))

  pub all_not : (tree : Node) → NoneFails (λ w n. test (out-Node n).kind (out-Node n).span) tree → Everywhere IsNot tree
  all_not tree h = found tree at_top h

-- ---- a node is no identifier that was made

abbrev pub IsOwn : Span → Kind → Type 0
IsOwn = IsNot is_made

abbrev pub Good : Node → Type 0
Good = Everywhere IsOwn

abbrev pub All : List Node → Type 0
All = Each IsOwn

pub node_good : (at : Span) (k : Kind) {cs : List Node} → IsOwn at k → All cs → Good (node_of at k cs)
node_good at k p h = everywhere at k p h

pub missing : Good absent
missing = absent_good IsOwn refl

pub none_made : (tree : Node) → Good tree → NoneMade tree
none_made = none_is is_made

pub all_own : (tree : Node) → NoneMade tree → Good tree
all_own = all_not is_made
