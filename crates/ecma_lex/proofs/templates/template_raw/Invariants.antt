use Rattle.std.proofs.Common.{length, ◌-◌, ◌≡◌, ◌++◌, ◌≤◌}
use Rattle.std.specs.Str.{encode_utf8_all}
use Rattle.std.specs.String.{string_bytes}
use Rattle.ecma_lex.specs.Text.{after}
use Rattle.ecma_lex.specs.Templates.{line_feeds, template_raw}
use Rattle.ecma_lex.proofs.templates.template_raw.Given as goal

abbrev pub invariant-loop-c : goal.invariant-loop-c
invariant-loop-c l = (string_bytes l.value ++ encode_utf8_all (line_feeds (after l.inside l.i)) ≡ template_raw l.inside) × (l.i ≤ length l.inside)

abbrev pub decreases-loop-c : goal.decreases-loop-c
decreases-loop-c l = length l.inside - l.i
