use Rattle.std.proofs.Common.{◌≡◌, ◌∙◌, sym, ap, ◌++◌, true, false, [], rules}
use Rattle.std.specs.Char.{IsScalar, encode_utf8}
use Rattle.std.proofs.lemmas.List.{nil_from_length}
use Rattle.std.specs.Str.Iter.{chars_rest}
use Rattle.ecma_number.specs.Blanks.{is_blank, end_trimmed}
use Rattle.ecma_number.proofs.Trimmed.{end_trimmed-nil, end_trimmed-blank, end_trimmed-kept}
use Rattle.ecma_number.proofs.string_to_number.end_trimmed.Goals as goal

pub returns-then-not-is_blank : goal.returns-then-not-is_blank
returns-then-not-is_blank c =
    let kept = c.loop-character.kept.now in
    let code = c.in-Some.character in
    let parts : kept ≡ chars_rest c.next_back.new.self ++ encode_utf8 code = c.loop-character.invariant.1 ∙ c.in-Some.ensures.steps in
    let ends : is_blank code ≡ false = search rules in
    let scalar : IsScalar code = search rules in
    sym (end_trimmed-kept kept (chars_rest c.next_back.new.self) code c.loop-character.invariant.0 scalar parts ends) ∙ sym c.loop-character.invariant.2

pub loop-character-preserved : goal.loop-character-preserved
loop-character-preserved c =
    let kept = c.loop-character.kept.now in
    let code = c.in-Some.character in
    let parts : kept ≡ chars_rest c.next_back.new.self ++ encode_utf8 code = c.loop-character.invariant.1 ∙ c.in-Some.ensures.steps in
    let blank : is_blank code ≡ true = search rules in
    let scalar : IsScalar code = search rules in
    (c.as_str-kept.utf8, c.as_str-kept.ensures, c.loop-character.invariant.2 ∙ end_trimmed-blank kept (chars_rest c.next_back.new.self) code c.loop-character.invariant.0 scalar parts blank ∙ ap end_trimmed (sym c.as_str-kept.ensures))

pub returns : goal.returns
returns c =
    let empty : c.loop-character.kept.now ≡ [] =
    c.loop-character.invariant.1 ∙ nil_from_length (chars_rest c.loop-character.characters) c.in_default.ensures.steps.0 in
    empty ∙ sym end_trimmed-nil ∙ ap end_trimmed (sym empty) ∙ sym c.loop-character.invariant.2
