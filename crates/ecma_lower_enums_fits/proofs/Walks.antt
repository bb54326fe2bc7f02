-- Walks over a tree that tell nothing: of a node, and of each of its children with what is around it.
use Rattle.std.proofs.Common.{◌≡◌, ◌∙◌, ℕ, zero, suc, Bool, true, false, ◌&&◌, List, [], ◌∷◌, ◌++◌, map, Option, Some, None, refl, sym, ap, ap₂, subst, slice_get}
use Rattle.ecma_kind.specs.declared.kind.Kind.{Kind}
use Rattle.ecma_kind.specs.declared.span.Span.{Span}
use Rattle.ecma_tree.specs.Nodes.{node_of}
use Rattle.ecma_tree.specs.declared.node.Node.{Node, Node-F, ind-Node, roll-Node}
use Rattle.ecma_tree.specs.declared.node.Node.TheViews.{out-roll-Node}
use Rattle.ecma_tree.proofs.Layers.{from_leaves_out}
use Rattle.ecma_rules.specs.Children.{kind_of}
use Rattle.ecma_rules.specs.Failing.{failing_here, failing_step, first_failing, least, least_from}
use Rattle.ecma_fits.proofs.Walks.{neither_least, not_failing, shifted}
use Rattle.ecma_lower_enums_sources.proofs.Alike.{made-kind}
use Rattle.ecma_lower_enums_sources.proofs.Relation.{children_of}

pub made-children : (span : Span) (k : Kind) (cs : List Node) → children_of (node_of span k cs) ≡ cs
made-children span k cs = ap (λ (z : Node-F Node). z.children) (out-roll-Node (record { span = span; kind = k; children = cs }))

pub and-no : (a : Bool) → (a && false) ≡ false
and-no true = refl
and-no false = refl

-- places behind those of some nodes
pub far : {A : Type 0} → List Node → (ℕ → A) → ℕ → A
far [] f = f
far (n ∷ ns) f = far ns (λ i. f (suc i))

pub far-any : {A : Type 0} (P : A → Type 0) (ns : List Node) (f : ℕ → A) → ((j : ℕ) → P (f j)) → (j : ℕ) → P (far ns f j)
unfolding far
far-any P [] f h j = h j
far-any P (n ∷ ns) f h j = far-any P ns (λ i. f (suc i)) (λ i. h (suc i)) j

-- a walk: a test of a node, by its kind and by what is around it, and what is around its children
module _ (A : Type 0) (test : A → Kind → Node → Bool) (inside : A → Kind → Node → ℕ → A) where
  abbrev pub place : A → Node → Option ℕ
  place a n = failing_here (test a (kind_of n) n) n

  abbrev pub next : A → Node → ℕ → A
  next a n i = inside a (kind_of n) n i

  abbrev pub first : Node → A → Option ℕ
  first = first_failing A place next

  abbrev pub Passes : A → Node → Type 0
  Passes a n = first n a ≡ None

  abbrev pub AllPass : (ℕ → A) → List Node → Type 0
  AllPass f [] = Unit
  AllPass f (n ∷ ns) = Passes (f 0) n × AllPass (λ i. f (suc i)) ns

  first-out : (n : Node) (a : A) → first n a ≡ least (place a n) (least_from A (next a n) 0 (map first (children_of n)))
  first-out n a = ap (λ f. f a) (from_leaves_out (A → Option ℕ) (failing_step A place next) n)

  all-told : (f : ℕ → A) (ns : List Node) → least_from A f 0 (map first ns) ≡ None → AllPass f ns
  all-told f [] h = tt
  all-told f (n ∷ ns) h =
      let both = neither_least (first n (f 0)) (least_from A f 1 (map first ns)) h in
      (both.0, all-told (λ i. f (suc i)) ns (sym (shifted A f 0 (map first ns)) ∙ both.1))

  all-tell : (f : ℕ → A) (ns : List Node) → AllPass f ns → least_from A f 0 (map first ns) ≡ None
  all-tell f [] h = refl
  all-tell f (n ∷ ns) h = ap₂ least h.0 (shifted A f 0 (map first ns) ∙ all-tell (λ i. f (suc i)) ns h.1)

  pub passes-here : (a : A) (n : Node) → Passes a n → test a (kind_of n) n ≡ false
  passes-here a n h = not_failing (test a (kind_of n) n) n (neither_least (place a n) (least_from A (next a n) 0 (map first (children_of n))) (sym (first-out n a) ∙ h)).0

  pub passes-below : (a : A) (n : Node) → Passes a n → AllPass (next a n) (children_of n)
  passes-below a n h = all-told (next a n) (children_of n) (neither_least (place a n) (least_from A (next a n) 0 (map first (children_of n))) (sym (first-out n a) ∙ h)).1

  pub passes-by : (a : A) (n : Node) → test a (kind_of n) n ≡ false → AllPass (next a n) (children_of n) → Passes a n
  passes-by a n h g = first-out n a ∙ ap₂ least (ap (λ b. failing_here b n) h) (all-tell (next a n) (children_of n) g)

  -- of a node of these parts
  pub made-passes : (span : Span) (k : Kind) (cs : List Node) (a : A) → test a k (node_of span k cs) ≡ false → AllPass (λ i. inside a k (node_of span k cs) i) cs → Passes a (node_of span k cs)
  made-passes span k cs a h g =
      let n = node_of span k cs in
      passes-by a n (ap (λ z. test a z n) (made-kind span k cs) ∙ h)
      (subst (λ z. AllPass (λ i. inside a z n i) (children_of n)) (sym (made-kind span k cs))
      (subst (AllPass (λ i. inside a k n i)) (sym (made-children span k cs)) g))

  pub pass-at : (f : ℕ → A) (ns : List Node) → AllPass f ns → (i : ℕ) (c : Node) → slice_get ns i ≡ Some c → Passes (f i) c
  pass-at f [] h i c at = cc
  pass-at f (n ∷ ns) h zero c at = let same : n ≡ c = cc in subst (Passes (f 0)) same h.0
  pass-at f (n ∷ ns) h (suc i) c at = pass-at (λ j. f (suc j)) ns h.1 i c at

  pub append-pass : (ns ms : List Node) (f : ℕ → A) → AllPass f ns → AllPass (far ns f) ms → AllPass f (ns ++ ms)
  unfolding far
  append-pass [] ms f h g = g
  append-pass (n ∷ ns) ms f h g = (h.0, append-pass ns ms (λ i. f (suc i)) h.1 g)

  -- these pass wherever this holds
  abbrev pub PassWhere : (A → Type 0) → List Node → Type 0
  PassWhere P [] = Unit
  PassWhere P (n ∷ ns) = ((a : A) → P a → Passes a n) × PassWhere P ns

  pub where-append : (P : A → Type 0) (ns ms : List Node) → PassWhere P ns → PassWhere P ms → PassWhere P (ns ++ ms)
  where-append P [] ms h g = g
  where-append P (n ∷ ns) ms h g = (h.0, where-append P ns ms h.1 g)

  pub where-weaker : (P Q : A → Type 0) → ((a : A) → Q a → P a) → (ns : List Node) → PassWhere P ns → PassWhere Q ns
  where-weaker P Q so [] h = tt
  where-weaker P Q so (n ∷ ns) h = ((λ a q. h.0 a (so a q)), where-weaker P Q so ns h.1)

  pub spread : (P : A → Type 0) (ns : List Node) → PassWhere P ns → (f : ℕ → A) → ((j : ℕ) → P (f j)) → AllPass f ns
  spread P [] h f p = tt
  spread P (n ∷ ns) h f p = (h.0 (f 0) (p 0), spread P ns h.1 (λ i. f (suc i)) (λ j. p (suc j)))

  -- what passes does where no more is asked
  module _ (eases : A → A → Type 0) (here : (w v : A) (k : Kind) (n : Node) → eases w v → test w k n ≡ false → test v k n ≡ false)
      (below : (w v : A) (k : Kind) (n : Node) (i : ℕ) → eases w v → eases (inside w k n i) (inside v k n i)) where
    abbrev Eased : Node → Type 0
    Eased n = (w v : A) → eases w v → Passes w n → Passes v n

    abbrev AllEased : List Node → Type 0
    AllEased ns = (f g : ℕ → A) → ((i : ℕ) → eases (f i) (g i)) → AllPass f ns → AllPass g ns

    all-eased : (es : List ((n : Node) × Eased n)) → AllEased (map (λ e. e.0) es)
    all-eased [] f g h p = tt
    all-eased (e ∷ es) f g h p = (e.1 (f 0) (g 0) (h 0) p.0, all-eased es (λ i. f (suc i)) (λ i. g (suc i)) (λ i. h (suc i)) p.1)

    node-eased : (n : Node) → AllEased (children_of n) → Eased n
    node-eased n all w v h p =
        passes-by v n (here w v (kind_of n) n h (passes-here w n p)) (all (next w n) (next v n) (λ i. below w v (kind_of n) n i h) (passes-below w n p))

    pub eased : (n : Node) → Eased n
    eased = ind-Node Eased (λ x y is.
        node-eased (roll-Node x) (subst AllEased (ap (λ (z : Node-F Node). z.children) is ∙ sym (ap (λ (z : Node-F Node). z.children) (out-roll-Node x))) (all-eased y.children)))
