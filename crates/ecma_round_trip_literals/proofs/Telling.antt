-- What a parent takes of a child is the same with source texts, but for the child's kind.
use Rattle.std.proofs.Common.{◌≡◌, refl, List, [], ◌∷◌, map}
use Rattle.ecma_kind.specs.declared.kind.Kind.{Kind}
use Rattle.ecma_kind.specs.declared.kind.Kind.TheVariants as kind
use Rattle.ecma_print.specs.Laid.{Laid, is_absent, is_block, is_computed, is_named, is_object_pattern}
use Rattle.ecma_print.specs.Layout.{by_itself}
use Rattle.ecma_round_trip_literals.specs.Sources.{with_source}

abbrev pub told : Laid → Laid
told child = record { kind = with_source child.kind; at = child.at; parts = child.parts }

pub is_absent_told : (k : Kind) → is_absent (with_source k) ≡ is_absent k
is_absent_told (kind.Str value raw) = refl
is_absent_told _ = refl

pub is_block_told : (k : Kind) → is_block (with_source k) ≡ is_block k
is_block_told (kind.Str value raw) = refl
is_block_told _ = refl

pub is_computed_told : (k : Kind) → is_computed (with_source k) ≡ is_computed k
is_computed_told (kind.Str value raw) = refl
is_computed_told _ = refl

pub is_named_told : (k : Kind) → is_named (with_source k) ≡ is_named k
is_named_told (kind.Str value raw) = refl
is_named_told _ = refl

pub is_object_pattern_told : (k : Kind) → is_object_pattern (with_source k) ≡ is_object_pattern k
is_object_pattern_told (kind.Str value raw) = refl
is_object_pattern_told _ = refl

pub parts_told : (children : List Laid) → map by_itself (map told children) ≡ map by_itself children
parts_told [] = refl
parts_told (a ∷ more) = λ i. by_itself a ∷ parts_told more i
