use Rattle.std.proofs.Common.{◌≡◌, ◌∙◌, sym, ap, ◌++◌, true, false, [], rules}
use Rattle.std.specs.Char.{encode_utf8}
use Rattle.std.proofs.lemmas.List.{nil_from_length}
use Rattle.std.specs.Str.Iter.{chars_rest}
use Rattle.ecma_number.specs.Blanks.{is_blank, front_trimmed}
use Rattle.ecma_number.proofs.Trimmed.{front_trimmed-nil, front_trimmed-blank, front_trimmed-kept}
use Rattle.ecma_number.proofs.string_to_number.front_trimmed.Goals as goal

pub returns-then-not-is_blank : goal.returns-then-not-is_blank
returns-then-not-is_blank c =
    let kept = c.loop-character.kept.now in
    let code = c.in-Some.character in
    let parts : kept ≡ encode_utf8 code ++ chars_rest c.next.new.self = c.loop-character.invariant.3 ∙ c.in-Some.ensures.steps.0 in
    let ends : is_blank code ≡ false = search rules in
    sym (front_trimmed-kept kept (chars_rest c.next.new.self) code c.loop-character.invariant.2 parts ends) ∙ sym c.loop-character.invariant.4

pub loop-character-preserved : goal.loop-character-preserved
loop-character-preserved c =
    let kept = c.loop-character.kept.now in
    let code = c.in-Some.character in
    let parts : kept ≡ encode_utf8 code ++ chars_rest c.next.new.self = c.loop-character.invariant.3 ∙ c.in-Some.ensures.steps.0 in
    let blank : is_blank code ≡ true = search rules in
    (tt, tt, c.as_str-kept.utf8, c.as_str-kept.ensures, c.loop-character.invariant.4 ∙ front_trimmed-blank kept (chars_rest c.next.new.self) code c.loop-character.invariant.2 parts blank ∙ ap front_trimmed (sym c.as_str-kept.ensures))

pub returns : goal.returns
returns c =
    let empty : c.loop-character.kept.now ≡ [] =
    c.loop-character.invariant.3 ∙ nil_from_length (chars_rest c.loop-character.characters) c.in_default.ensures.steps.0.0 in
    empty ∙ sym front_trimmed-nil ∙ ap front_trimmed (sym empty) ∙ sym c.loop-character.invariant.4
