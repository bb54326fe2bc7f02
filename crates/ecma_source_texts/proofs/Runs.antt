-- A module does the same with source texts.
use Rattle.std.proofs.Common.{◌≡◌, ◌∙◌, refl, sym, ap, List, [], ◌∷◌, map}
use Rattle.ecma_kind.specs.declared.kind.Kind.{Kind}
use Rattle.ecma_kind.specs.declared.kind.Kind.TheVariants as kind
use Rattle.ecma_tree.specs.declared.node.Node.{Node, Node-F, roll-Node}
use Rattle.ecma_tree.specs.Nodes.{dummy_span}
use Rattle.ecma_tree.specs.Changing.{changed_here}
use Rattle.ecma_runs.specs.Meaning.{Meaning}
use Rattle.ecma_runs.specs.Enums.{bare, bare_by}
use Rattle.ecma_runs.specs.Sources.{unsourced}
use Rattle.ecma_runs.specs.Evaluation.{meaning_by, meaning}
use Rattle.ecma_runs.proofs.Layer.{meaning-roll}
use Rattle.ecma_runs.proofs.Layers.{KeepsLayers, observe_kept, rewritten_layers}
use Rattle.ecma_runs.proofs.EnumTrees.{bare-roll, rewritten_bare}
use Rattle.ecma_round_trip_literals.specs.Sources.{with_source, with_sources}
use Rattle.ecma_source_texts.specs.Laws.{SourcesDoNotMatterToRuns}

sourced_meaning : (n : Node) (k : Kind) (ms : List Meaning) → meaning_by n (with_source k) ms ≡ meaning_by n k ms
sourced_meaning n (kind.Str value raw) [] = refl
sourced_meaning n (kind.Str value raw) (m ∷ ms) = refl
sourced_meaning n (kind.Number value raw) [] = refl
sourced_meaning n (kind.Number value raw) (m ∷ ms) = refl
sourced_meaning n (kind.BigInt value raw) [] = refl
sourced_meaning n (kind.BigInt value raw) (m ∷ ms) = refl
sourced_meaning n _ ms = refl

with_sources_layers : KeepsLayers with_sources
with_sources_layers =
    rewritten_layers (changed_here (λ span. span) with_source)
    (λ x. meaning-roll (record { span = x.span; kind = with_source x.kind; children = x.children }) ∙ sourced_meaning (changed_here (λ span. span) with_source x) x.kind (map meaning x.children))

-- nor do enums ask for them

unsourced-sourced : (k : Kind) → unsourced (with_source k) ≡ unsourced k
unsourced-sourced (kind.Str value raw) = refl
unsourced-sourced (kind.Number value raw) = refl
unsourced-sourced (kind.BigInt value raw) = refl
unsourced-sourced _ = refl

sourced_bare : (x : Node-F Node) → bare (changed_here (λ span. span) with_source x) ≡ bare (roll-Node x)
sourced_bare x =
    bare-roll (record { span = x.span; kind = with_source x.kind; children = x.children })
    ∙ (ap (λ k. bare_by k (map bare x.children) (record { span = dummy_span; kind = k; children = map bare x.children })) (unsourced-sourced x.kind) ∙ sym (bare-roll x))

pub sources_do_not_matter_to_runs : SourcesDoNotMatterToRuns
sources_do_not_matter_to_runs = observe_kept with_sources with_sources_layers (rewritten_bare (changed_here (λ span. span) with_source) sourced_bare)
