-- No identifier of a tree is long where none of its kinds is a long identifier.
use Rattle.std.proofs.Common.{◌≡◌, ◌∙◌, ℕ, suc, Bool, true, false, cond, List, [], ◌∷◌, map, Option, None, refl, sym, ap, ap₂, subst}
use Rattle.ecma_kind.specs.declared.kind.Kind.{Kind}
use Rattle.ecma_kind.specs.declared.span.Span.{Span}
use Rattle.ecma_tree.specs.declared.node.Node.{Node, Node-F, ind-Node, roll-Node}
use Rattle.ecma_tree.specs.Nodes.{absent, node_of}
use Rattle.ecma_rules.specs.Children.{kind_of}
use Rattle.ecma_rules.specs.Failing.{failing_here, failing_step, first_failing, least, least_from}
use Rattle.ecma_text_leaves.specs.Everywhere.{Each, Everywhere, everywhere, more, none}
use Rattle.ecma_text_leaves.proofs.Trees.{good_absent, good_node, kind_made}
use Rattle.ecma_fits.specs.declared.unfit.Where.{Where}
use Rattle.ecma_fits.specs.Fitting.{at_top, where_in}
use Rattle.ecma_hygiene_fits.specs.Spelled.{is_long, NoneLong}
use Rattle.ecma_hygiene_fits.proofs.Walk.{neither_least, not_failing}
use Rattle.ecma_tree.proofs.Layers.{from_leaves-roll}

-- a kind is no long identifier
abbrev pub IsShort : Kind → Type 0
IsShort k = is_long k ≡ false

abbrev pub Good : Node → Type 0
Good = Everywhere IsShort

abbrev pub All : List Node → Type 0
All = Each IsShort

pub missing : Good absent
missing = good_absent IsShort refl

-- a node is no long identifier, but for its kind
pub node_good : (span : Span) (k : Kind) {cs : List Node} → IsShort k → All cs → Good (node_of span k cs)
node_good span k {cs} p h = good_node IsShort span k cs p h

pub either : (b : Bool) (x y : Node) → Good x → Good y → Good (cond b x y)
either true x y g k = g
either false x y g k = k

abbrev here : Where → Node → Option ℕ
here w n = failing_here (is_long (kind_of n)) n

abbrev first : Node → Where → Option ℕ
first = first_failing Where here where_in

first_is : (x : Node-F Node) (w : Where) → first (roll-Node x) w ≡ least (here w (roll-Node x)) (least_from Where (where_in w (roll-Node x)) 0 (map first x.children))
first_is x w = ap (λ f. f w) (from_leaves-roll (Where → Option ℕ) (failing_step Where here where_in) x)

mutual
  none_found : {n : Node} → Good n → (w : Where) → first n w ≡ None
  none_found (everywhere at k {children = cs} p h) w =
      let n = node_of at k cs in
      first_is (record { span = at; kind = k; children = cs }) w
      ∙ ap₂ least (ap (λ b. failing_here b n) (ap is_long (kind_made at k cs) ∙ p)) (none_below h (where_in w n) 0)

  none_below : {ns : List Node} → All ns → (around : ℕ → Where) (i : ℕ) → least_from Where around i (map first ns) ≡ None
  none_below none around i = refl
  none_below (more a h) around i = ap₂ least (none_found a (around i)) (none_below h around (suc i))

pub none_long : (tree : Node) → Good tree → NoneLong tree
none_long tree g = none_found g at_top

-- and the other way round

abbrev Found : Node → Type 0
Found n = (w : Where) → first n w ≡ None → Good n

all_good : (es : List ((n : Node) × Found n)) (around : ℕ → Where) (i : ℕ) → least_from Where around i (map first (map (λ e. e.0) es)) ≡ None → All (map (λ e. e.0) es)
all_good [] around i h = none
all_good (e ∷ es) around i h =
    let both = neither_least (first e.0 (around i)) (least_from Where around (suc i) (map first (map (λ e. e.0) es))) h in
    more (e.1 (around i) both.0) (all_good es around (suc i) both.1)

of_node : (x : Node-F Node) → ((around : ℕ → Where) → least_from Where around 0 (map first x.children) ≡ None → All x.children) → Found (roll-Node x)
of_node x below w h =
    let n = roll-Node x in
    let both = neither_least (here w n) (least_from Where (where_in w n) 0 (map first x.children)) (sym (first_is x w) ∙ h) in
    node_good x.span x.kind (ap is_long (sym (kind_made x.span x.kind x.children)) ∙ not_failing (is_long (kind_of n)) n both.0) (below (where_in w n) both.1)

good : (n : Node) → Found n
good = ind-Node Found (λ x y is.
    of_node x (subst (λ (z : Node-F Node). (around : ℕ → Where) → least_from Where around 0 (map first z.children) ≡ None → All z.children) is (λ around. all_good y.children around 0)))

pub all_short : (tree : Node) → NoneLong tree → Good tree
all_short tree h = good tree at_top h
