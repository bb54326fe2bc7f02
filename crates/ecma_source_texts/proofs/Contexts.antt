-- A tree takes as many contexts with source texts, and its identifiers get the same.
use Rattle.std.proofs.Common.{◌≡◌, ◌∙◌, ℕ, suc, ◌+◌, ◌-◌, List, [], ◌∷◌, ◌++◌, ◌&&◌, map, not, cond, refl, sym, ap, ap₂, subst}
use Rattle.ecma_kind.specs.declared.kind.Kind.{Kind}
use Rattle.ecma_kind.specs.declared.kind.Kind.TheVariants as kind
use Rattle.ecma_kind.specs.declared.span.Span.{Span}
use Rattle.ecma_tree.specs.declared.node.Node.{Node, Node-F, fold-roll-Node, ind-Node, out-Node, roll-Node}
use Rattle.ecma_tree.specs.declared.node.Node.TheViews.{out-roll-Node}
use Rattle.ecma_tree.specs.Changing.{changed_here}
use Rattle.ecma_tree.specs.Nodes.{node_of}
use Rattle.ecma_tree.proofs.Layers.{from_leaves_out}
use Rattle.ecma_rules.specs.Children.{kind_of}
use Rattle.ecma_scope.specs.declared.role.Role.{Role}
use Rattle.ecma_scope.specs.declared.role.Role.TheVariants as role
use Rattle.ecma_scope.specs.Declarations.{stated}
use Rattle.ecma_scope.specs.Resolved.{Place, context_count, count_step, counted, innermost, inside, kind_at, nowhere, placed, resolve_step, resolved_at, scope_at, taken}
use Rattle.ecma_scope.specs.Scopes.{is_root, role_in}
use Rattle.ecma_round_trip_literals.specs.Sources.{with_source}
use Rattle.ecma_round_trip_literals.proofs.Moved.{children_moved, children_of, kind_moved, span_moved, to}
use Rattle.ecma_source_texts.specs.Laws.{SourcesDoNotMatterToContexts}
use Rattle.ecma_source_texts.proofs.Names.{covers_moved, names_moved, opens_moved, role_moved}

-- how many contexts

taken_moved : (r : Role) (n : Node) → taken r (to n) ≡ taken r n
taken_moved r n = ap (λ o. cond (o && not (is_root r)) 1 0) (opens_moved r n)

abbrev Counted : Node → Type 0
Counted n = (r : Role) → context_count (to n) r ≡ context_count n r

abbrev AllCounted : List Node → Type 0
AllCounted nodes = (f g : ℕ → Role) → ((i : ℕ) → f i ≡ g i) → (i : ℕ) → counted f i (map context_count (map to nodes)) ≡ counted g i (map context_count nodes)

all_counted : (ns : List ((n : Node) × Counted n)) → AllCounted (map (λ e. e.0) ns)
all_counted [] f g same i = refl
all_counted (n ∷ ns) f g same i = ap₂ (λ a rest. a + rest) (n.1 (f i) ∙ ap (context_count n.0) (same i)) (all_counted ns f g same (suc i))

count_out : (n : Node) (r : Role) → context_count n r ≡ taken r n + counted (role_in r n) 0 (map context_count (out-Node n).children)
count_out n r = ap (λ f. f r) (from_leaves_out (Role → ℕ) count_step n)

node_counted : (n : Node) → AllCounted (out-Node n).children → Counted n
node_counted n all r =
    count_out (to n) r
    ∙ ap₂ (λ here below. here + below) (taken_moved r n)
    (ap (λ (nodes : List Node). counted (role_in r (to n)) 0 (map context_count nodes)) (children_moved n) ∙ all (role_in r (to n)) (role_in r n) (role_moved r n) 0)
    ∙ sym (count_out n r)

count_moved : (n : Node) → Counted n
count_moved = ind-Node Counted (λ x y is. node_counted (roll-Node x) (subst (λ (z : Node-F Node). AllCounted z.children) (is ∙ sym (out-roll-Node x)) (all_counted y.children)))

-- places

module _ (unresolved top : ℕ) where
  scope_moved : (place : Place) (n : Node) (left : ℕ) → scope_at top place (to n) left ≡ scope_at top place n left
  scope_moved place n left = ap (λ ds. record { ctxt = cond (is_root place.role) top left; states = stated ds }) (names_moved place.role (innermost place.scopes) n)

  inside_moved : (place : Place) (n : Node) (left i : ℕ) → inside top place (to n) left i ≡ inside top place n left i
  inside_moved place n left i =
      λ j. record {
        role = role_moved place.role n i j;
        scopes = cond (opens_moved place.role n j && covers_moved place.role n i j) (place.scopes ++ scope_moved place n left j ∷ []) place.scopes;
      }

  kind_sourced : (place : Place) (k : Kind) → kind_at unresolved place (with_source k) ≡ with_source (kind_at unresolved place k)
  kind_sourced place (kind.Ident sym ctxt optional) = refl
  kind_sourced place (kind.Str value raw) = refl
  kind_sourced place (kind.Number value raw) = refl
  kind_sourced place (kind.BigInt value raw) = refl
  kind_sourced place _ = refl

  abbrev at : Node → Place → ℕ → Node
  at = resolved_at unresolved top

  abbrev Alike : Node → Type 0
  Alike n = (place : Place) (left : ℕ) → at (to n) place left ≡ to (at n place left)

  abbrev AllAlike : List Node → Type 0
  AllAlike nodes = (f g : ℕ → Place) → ((i : ℕ) → f i ≡ g i) → (i left : ℕ) → placed f i (map to nodes) (map at (map to nodes)) left ≡ map to (placed g i nodes (map at nodes) left)

  all_alike : (ns : List ((n : Node) × Alike n)) → AllAlike (map (λ e. e.0) ns)
  all_alike [] f g same i left = refl
  all_alike (n ∷ ns) f g same i left =
      ap₂ (λ a rest. a ∷ rest) (ap (λ place. at (to n.0) place left) (same i) ∙ n.1 (g i) left)
      (ap (λ less. placed f (suc i) (map to (map (λ e. e.0) ns)) (map at (map to (map (λ e. e.0) ns))) (left - less)) (count_moved n.0 (f i).role ∙ ap (λ place. context_count n.0 place.role) (same i))
      ∙ all_alike ns f g same (suc i) (left - context_count n.0 (g i).role))

  resolved_out : (n : Node) (place : Place) (left : ℕ)
      → at n place left ≡ node_of (out-Node n).span (kind_at unresolved place (out-Node n).kind) (placed (inside top place n left) 0 (out-Node n).children (map at (out-Node n).children) (left - taken place.role n))
  resolved_out n place left = ap (λ f. f place left) (from_leaves_out (Place → ℕ → Node) (resolve_step unresolved top) n)

  node_alike : (n : Node) → AllAlike (out-Node n).children → Alike n
  node_alike n all place left =
      let less = left - taken place.role n in
      let span : Span = (out-Node n).span in
      let k : Kind = kind_at unresolved place (kind_of n) in
      let cs : List Node = placed (inside top place n left) 0 (children_of n) (map at (children_of n)) less in
      resolved_out (to n) place left
      ∙ (λ j. node_of (span_moved n j) (kind_at unresolved place (kind_moved n j)) (placed (inside top place (to n) left) 0 (children_moved n j) (map at (children_moved n j)) (left - taken_moved place.role n j)))
      ∙ ap₂ (node_of span) (kind_sourced place (kind_of n)) (all (inside top place (to n) left) (inside top place n left) (inside_moved place n left) 0 less)
      ∙ sym (fold-roll-Node Node (changed_here (λ span. span) with_source) (record { span = span; kind = k; children = cs }))
      ∙ ap to (sym (resolved_out n place left))

  alike : (n : Node) → Alike n
  alike = ind-Node Alike (λ x y is. node_alike (roll-Node x) (subst (λ (z : Node-F Node). AllAlike z.children) (is ∙ sym (out-roll-Node x)) (all_alike y.children)))

pub sources_do_not_matter_to_contexts : SourcesDoNotMatterToContexts
sources_do_not_matter_to_contexts tree = record { count = count_moved tree role.Root; same = λ unresolved top left. alike unresolved top tree nowhere left }
