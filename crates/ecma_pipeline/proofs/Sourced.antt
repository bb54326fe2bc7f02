-- A tree whose literals have source texts is the same with them; and so is the tree that is written for a module as it is read.
use Rattle.std.proofs.Common.{◌≡◌, ◌∙◌, ◌||◌, ◌++◌, cond, not, ℕ, Bool, true, false, List, [], ◌∷◌, map, Option, Some, None, refl, sym, ap₂, subst}
use Rattle.ecma_kind.specs.declared.kind.Kind.{Kind}
use Rattle.ecma_kind.specs.declared.kind.Kind.TheVariants as kind
use Rattle.ecma_kind.specs.declared.shapes.Sort.TheVariants as sort
use Rattle.ecma_tree.specs.Changing.{changed_here}
use Rattle.ecma_tree.specs.Nodes.{dummy_span, node_of}
use Rattle.ecma_tree.specs.Sorted.{HasSort, one}
use Rattle.ecma_tree.specs.declared.node.Node.{Node, fold-roll-Node, out-Node}
use Rattle.ecma_text_leaves.specs.Everywhere.{Each, Everywhere, everywhere, more, none}
use Rattle.ecma_text_leaves.proofs.Trees.{each_append}
use Rattle.ecma_rules.specs.Children.{kind_of}
use Rattle.ecma_plain.specs.Forms.{IsBareUnquestioned}
use Rattle.ecma_scope.specs.Laws.{without_contexts}
use Rattle.ecma_text_sources.proofs.Sources.{tree_stays as bare_stays}
use Rattle.ecma_strip.specs.Stripping.{plain_children, plain_kind, stripped}
use Rattle.ecma_lower.specs.Items.{first_with, in_items, items_by}
use Rattle.ecma_lower.specs.Marking.{empty_export, has_module_declaration, marked}
use Rattle.ecma_hygiene.specs.Hygienic.{IsHygienic}
use Rattle.ecma_hygiene.specs.Renamed.{Texts, kind_with_text}
use Rattle.ecma_hygiene.specs.Texts.{text_in}
use Rattle.ecma_hygiene_fits.proofs.Everywhere.{children_of}
use Rattle.ecma_round_trip_literals.specs.Sources.{with_source, with_sources}
use Rattle.ecma_pipeline_plain.proofs.Everywhere.{each_at, each_of, everywhere_moved, everywhere_returned, parts}
use Rattle.ecma_pipeline_plain.proofs.KindsSaid.{bare, empty}
use Rattle.ecma_pipeline_plain.proofs.Renaming.{everywhere_renamed}
use Rattle.ecma_pipeline_plain.proofs.Stripping.{Says, kept}

abbrev IsThere : Option (List ℕ) → Type 0
IsThere None = ⊥
IsThere (Some raw) = Unit {0}

-- a literal has its source text
abbrev HasSource : Kind → Type 0
HasSource (kind.Str value raw) = IsThere raw
HasSource (kind.Number value raw) = IsThere raw
HasSource (kind.BigInt value raw) = IsThere raw
HasSource _ = Unit {0}

kind_stays : (k : Kind) → HasSource k → with_source k ≡ k
kind_stays (kind.Str value None) p = absurd p
kind_stays (kind.Str value (Some raw)) p = refl
kind_stays (kind.Number None raw) p = refl
kind_stays (kind.Number (Some value) None) p = absurd p
kind_stays (kind.Number (Some value) (Some raw)) p = refl
kind_stays (kind.BigInt value None) p = absurd p
kind_stays (kind.BigInt value (Some raw)) p = refl
kind_stays _ p = refl

mutual
  tree_stays : {n : Node} → Everywhere HasSource n → with_sources n ≡ n
  tree_stays (everywhere at k {children = cs} p h) =
      fold-roll-Node Node (changed_here (λ span. span) with_source) (record { span = at; kind = k; children = cs }) ∙ ap₂ (node_of at) (kind_stays k p) (each_stays h)

  each_stays : {ns : List Node} → Each HasSource ns → map with_sources ns ≡ ns
  each_stays none = refl
  each_stays (more a h) = ap₂ (λ n ns. n ∷ ns) (tree_stays a) (each_stays h)

-- ---- what is read, with its bindings

read_sourced : (k : Kind) → IsBareUnquestioned k → HasSource (bare k)
read_sourced (kind.Str value None) p = absurd p
read_sourced (kind.Str value (Some raw)) p = tt
read_sourced (kind.Number value None) p = absurd p
read_sourced (kind.Number value (Some raw)) p = tt
read_sourced (kind.BigInt value None) p = absurd p
read_sourced (kind.BigInt value (Some raw)) p = tt
read_sourced _ p = tt

bare_sourced : (k : Kind) → HasSource (bare k) → HasSource k
bare_sourced (kind.Ident text ctxt optional) p = tt
bare_sourced _ p = p

-- ---- without types

plain_sourced : (k : Kind) → HasSource k → HasSource (plain_kind k)
unfolding plain_kind
plain_sourced (kind.Ident text ctxt optional) p = tt
plain_sourced _ p = p

asked_says : Says (Everywhere HasSource) (Everywhere HasSource)
asked_says = record {
  below = λ n t i c at stay. each_at HasSource (children_of n) (parts HasSource t).1 i c at;
  missing = everywhere dummy_span kind.Absent tt none;
  empty = λ span. everywhere span kind.EmptyStmt tt none;
  lists = λ span cs each. everywhere span kind.List tt (each_of HasSource cs each);
  usual = λ n s u has t each.
      everywhere (out-Node n).span (plain_kind (kind_of n)) (plain_sourced (kind_of n) (parts HasSource t).0) (each_of HasSource (plain_children (kind_of n) (map stripped (children_of n))) each);
}

-- ---- with `export {}`

nothing_there : Everywhere HasSource (node_of dummy_span kind.Absent [])
nothing_there = everywhere dummy_span kind.Absent tt none

export_sourced : Everywhere HasSource empty_export
export_sourced = everywhere dummy_span (kind.NamedExport false) tt (more (everywhere dummy_span kind.List tt none) (more nothing_there (more nothing_there none)))

items_sourced : (cs : List Node) → Each HasSource cs → Each HasSource (items_by cs)
items_sourced [] none = none
items_sourced (list ∷ others) (more a h) = (parts HasSource a).1

first_sourced : (items cs : List Node) → Each HasSource items → Each HasSource cs → Each HasSource (first_with items cs)
first_sourced items [] each none = none
first_sourced items (list ∷ others) each (more a h) = more (everywhere (out-Node list).span (kind_of list) (parts HasSource a).0 each) h

grown_sourced : (tree : Node) → Everywhere HasSource tree → Everywhere HasSource (in_items (λ items. items ++ empty_export ∷ []) tree)
grown_sourced tree h =
    let p = parts HasSource h in
    everywhere (out-Node tree).span (kind_of tree) p.0
    (first_sourced (items_by (children_of tree) ++ empty_export ∷ []) (children_of tree) (each_append HasSource (items_sourced (children_of tree) p.1) (more export_sourced none)) p.1)

marked_sourced : (no_empty_export was_module : Bool) (tree : Node) → Everywhere HasSource tree → Everywhere HasSource (marked no_empty_export was_module tree)
marked_sourced no_empty_export was_module tree h = by (no_empty_export || not was_module || has_module_declaration tree)
  where
    by : (stays : Bool) → Everywhere HasSource (cond stays tree (in_items (λ items. items ++ empty_export ∷ []) tree))
    by true = h
    by false = grown_sourced tree h

-- ---- with final texts

written_sourced : (texts : Texts) (named : Bool) (k : Kind) → HasSource k → HasSource (kind_with_text texts named k)
written_sourced texts true k p = p
written_sourced texts false (kind.Ident text ctxt optional) p = tt
written_sourced texts false _ p = p

-- a tree whose literals have source texts once it has no contexts
module _ (no_empty_export was_module : Bool) (tree : Node) (sorted : HasSort sort.Module tree) (read : Everywhere IsBareUnquestioned (without_contexts tree)) where
  tree_sourced : Everywhere HasSource tree
  tree_sourced =
      everywhere_returned HasSource HasSource empty bare_sourced tree
      (subst (Everywhere HasSource) (bare_stays read) (everywhere_moved IsBareUnquestioned HasSource empty read_sourced read))

  stripped_sourced : Everywhere HasSource (stripped tree)
  stripped_sourced = (kept (Everywhere HasSource) (Everywhere HasSource) asked_says tree (one sort.Module) sorted tree_sourced).0

  abbrev plain : Node
  plain = marked no_empty_export was_module (stripped tree)

  pub final_trees_stay : (final : Node) → IsHygienic plain final → with_sources final ≡ final
  final_trees_stay final hygienic =
      tree_stays (subst (Everywhere HasSource) (sym hygienic.is)
      (everywhere_renamed HasSource HasSource (text_in hygienic.names) (written_sourced (text_in hygienic.names)) (λ text ctxt optional p. (tt, tt)) (tt, tt) tt tt tt plain
      (marked_sourced no_empty_export was_module (stripped tree) stripped_sourced)))
