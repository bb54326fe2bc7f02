-- Texts that are put together, as the code holds them.
use Rattle.std.specs.Prelude.{string_bytes}
use Rattle.ecma_enums.specs.declared.folded.Folded.{Folded}
use Rattle.ecma_enums.specs.declared.folded.Folded.TheVariants as folded
use Rattle.ecma_enums.specs.declared.joined.Joined.{Joined}
use Rattle.ecma_enums.specs.declared.joined.Joined.TheVariants.{Text, Opaque, Beyond}

-- what is known of them
abbrev pub seen : Joined → Folded
seen (Text text) = folded.Text (string_bytes text)
seen Opaque = folded.Opaque
seen (Beyond at) = folded.Beyond at
