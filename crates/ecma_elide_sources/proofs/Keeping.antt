-- A module of which nothing may go stays as it is.
use Rattle.std.proofs.Common.{◌≡◌, ◌∙◌, ℕ, Bool, true, false, not, ◌||◌, cond, List, refl, sym, ap}
use Rattle.ecma_kind.specs.declared.kind.Kind.{Kind}
use Rattle.ecma_kind.specs.declared.span.Span.{Span}
use Rattle.ecma_tree.specs.Finding.{enters_all, finds, finds_from, finds_here}
use Rattle.ecma_tree.specs.declared.node.Node.{Node}
use Rattle.ecma_config.specs.declared.config.Config.{Config}
use Rattle.ecma_elide.specs.Elision.{without_unused}
use Rattle.ecma_elide.specs.Laws.{may_go}
use Rattle.ecma_elide.proofs.Quiet.{trees_without_stay}
use Rattle.ecma_scope.specs.Resolved.{resolved}
use Rattle.ecma_scope.proofs.Unchanged.{changes-contexts}
use Rattle.ecma_scope_fits.proofs.Moved.{blind, fold_same}
use Rattle.ecma_elide_sources.specs.Laws.{KeptSourcesStay}
use Rattle.ecma_elide_sources.specs.Sources.{elided_source, is_kept}
use Rattle.ecma_elide_sources.proofs.Thin.{bare, clear, empty}

-- contexts do not matter to whether anything may go
may_go_bare : (span : Span) (k : Kind) (cs : List Bool)
    → finds_here may_go enters_all (record { span = span; kind = bare k; children = cs }) ≡ finds_here may_go enters_all (record { span = span; kind = k; children = cs })
may_go_bare span k cs = ap (λ b. b || finds_from (λ i. true) 0 cs) (blind empty Bool may_go (λ text a b optional. refl) k)

finds_cleared : (n : Node) → finds may_go enters_all (clear n) ≡ finds may_go enters_all n
finds_cleared = fold_same empty (finds_here may_go enters_all) may_go_bare

module _ (config : Config) (unresolved top left : ℕ) (source : Node) (is_bare : clear source ≡ source) where
  abbrev bound : Node
  bound = resolved unresolved top left source

  back : clear bound ≡ source
  back = changes-contexts unresolved top left source ∙ is_bare

  verbatim : config.verbatim_module_syntax ≡ true → elided_source config unresolved top left source ≡ source
  verbatim v = ap (λ b. clear (cond b bound (without_unused config.import_not_used_as_values bound))) v ∙ back

  pub kept_source : is_kept config source ≡ true → elided_source config unresolved top left source ≡ source
  kept_source h = by config.verbatim_module_syntax refl (finds may_go enters_all source) refl h
    where
      by : (v : Bool) → config.verbatim_module_syntax ≡ v → (b : Bool) → finds may_go enters_all source ≡ b → (v || not b) ≡ true → elided_source config unresolved top left source ≡ source
      by true e b f g = verbatim e
      by false e true f g = cc
      by false e false f g = ap clear (trees_without_stay config bound (sym (finds_cleared bound) ∙ ap (finds may_go enters_all) (changes-contexts unresolved top left source) ∙ finds_cleared source ∙ f)) ∙ back

pub sources_stay : KeptSourcesStay
sources_stay config unresolved top left source is_bare = kept_source config unresolved top left source is_bare
