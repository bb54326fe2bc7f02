-- What changes kinds, and leaves the summary of each.
use Rattle.std.specs.Prelude.{◌≡◌}
use Rattle.ecma_kind.specs.declared.span.Span.{Span}
use Rattle.ecma_kind.specs.declared.kind.Kind.{Kind}
use Rattle.ecma_forest.specs.Summaries.{kind_summary}

abbrev pub same_span : Span → Span
same_span span = span

abbrev pub KeepsSummaries : (Kind → Kind) → Type 0
KeepsSummaries kind_to = (kind : Kind) → kind_summary (kind_to kind) ≡ kind_summary kind
