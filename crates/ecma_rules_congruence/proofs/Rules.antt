-- The context rules are kept by a tree exactly where they are kept without spans.
use Rattle.std.proofs.Common.{◌≡◌, ◌∙◌, ℕ, Bool, true, false, ◌||◌, Option, Some, None, refl, sym, ap, ap₂, slice_get}
use Rattle.std.specs.Prelude.{is_some}
use Rattle.ecma_tree.specs.declared.node.Node.{Node, out-Node}
use Rattle.ecma_tree.specs.Spans.{without_spans}
use Rattle.ecma_rules.specs.declared.standing.Around.{Around}
use Rattle.ecma_rules.specs.declared.standing.Standing.{Standing}
use Rattle.ecma_rules.specs.Children.{has_child, kind_of}
use Rattle.ecma_rules.specs.Failing.{failing_here}
use Rattle.ecma_rules.specs.Jumps.{Held, ends_jumps, first_stray, held_behind, held_in, is_held_stray, is_stray_in, label_of, not_held, own_label, stray_here, text_by, text_of}
use Rattle.ecma_rules.specs.Lists.{last_by, last_in}
use Rattle.ecma_rules.specs.Members.{second_constructor}
use Rattle.ecma_rules.specs.Rules.{first_broken, first_misplaced, is_misplaced, misplaced_here}
use Rattle.ecma_rules.specs.Strays.{strays_in}
use Rattle.ecma_rules.specs.Surroundings.{around_in, at_root, standing_by, standing_in}
use Rattle.ecma_rules.specs.Targets.{target_in}
use Rattle.ecma_rules_congruence.specs.Laws.{SpansDoNotMatterToRules}
use Rattle.ecma_rules_congruence.proofs.Bare.{bare-child, bare-count, bare-has_child, bare-kind, bare_of}
use Rattle.ecma_rules_congruence.proofs.Tests.{misplaced-bare, second-bare}
use Rattle.ecma_rules_congruence.proofs.Walks.{least-some, told-bare}

here-some : (fails : Bool) (n : Node) → is_some (failing_here fails n) ≡ fails
here-some true n = refl
here-some false n = refl

place-bare : (around : Around) (n : Node) → is_some (misplaced_here around (without_spans n)) ≡ is_some (misplaced_here around n)
place-bare around n =
    least-some (failing_here (is_misplaced around (without_spans n)) (without_spans n)) (second_constructor (without_spans n))
    ∙ ap₂ (λ a b. a || b) (here-some (is_misplaced around (without_spans n)) (without_spans n) ∙ misplaced-bare around n ∙ sym (here-some (is_misplaced around n) n)) (second-bare n)
    ∙ sym (least-some (failing_here (is_misplaced around n) n) (second_constructor n))

standing-bare : (s : Standing) (n : Node) (i : ℕ) → standing_in s (without_spans n) i ≡ standing_in s n i
standing-bare s n i =
    ap (λ k. standing_by s k (has_child (without_spans n) 1) (has_child (without_spans n) 2) i) (bare-kind n)
    ∙ ap₂ (λ first second. standing_by s (kind_of n) first second i) (bare-has_child n 1) (bare-has_child n 2)

last-bare : (is_last : Bool) (n : Node) (i : ℕ) → last_in is_last (without_spans n) i ≡ last_in is_last n i
last-bare is_last n i = ap₂ (λ k count. last_by is_last k count i) (bare-kind n) (bare-count n)

around-bare : (around : Around) (n : Node) (i : ℕ) → around_in around (without_spans n) i ≡ around_in around n i
around-bare around n i =
    ap (λ k. record { target = target_in around.target k i; standing = standing_in around.standing (without_spans n) i; is_last = last_in around.is_last (without_spans n) i }) (bare-kind n)
    ∙ ap₂ (λ standing last. record { target = target_in around.target (kind_of n) i; standing = standing; is_last = last }) (standing-bare around.standing n i) (last-bare around.is_last n i)

-- strays

text-bare : (child : Option Node) → text_of (bare_of child) ≡ text_of child
text-bare None = refl
text-bare (Some n) = ap (λ k. text_by k) (bare-kind n)

label-bare : (n : Node) → label_of (without_spans n) ≡ label_of n
label-bare n = ap text_of (bare-child n 0) ∙ text-bare (slice_get (out-Node n).children 0)

stray-bare : (held : Held) (n : Node) → is_some (stray_here held (without_spans n)) ≡ is_some (stray_here held n)
stray-bare held n =
    here-some (is_held_stray held (without_spans n)) (without_spans n) ∙ ap₂ (is_stray_in held) (bare-kind n) (label-bare n) ∙ sym (here-some (is_held_stray held n) n)

held-bare : (held : Held) (n : Node) (i : ℕ) → held_in held (without_spans n) i ≡ held_in held n i
held-bare held n i =
    ap₂ (λ k label. held_behind (strays_in held.strays k i) (ends_jumps k) (own_label k label) held.labels) (bare-kind n) (label-bare n)

pub broken-bare : (n : Node) → is_some (first_broken (without_spans n)) ≡ is_some (first_broken n)
broken-bare n =
    least-some (first_misplaced (without_spans n) at_root) (first_stray (without_spans n))
    ∙ ap₂ (λ a b. a || b) (told-bare Around misplaced_here around_in place-bare around-bare n at_root) (told-bare Held stray_here held_in stray-bare held-bare n not_held)
    ∙ sym (least-some (first_misplaced n at_root) (first_stray n))

none-told : (a : Option ℕ) → is_some a ≡ false → a ≡ None
none-told None h = refl
none-told (Some i) h = absurd (cc)

pub spans_do_not_matter_to_rules : SpansDoNotMatterToRules
spans_do_not_matter_to_rules raw again same kept =
    none-told (first_broken again) (sym (broken-bare again) ∙ ap (λ n. is_some (first_broken n)) same ∙ broken-bare raw ∙ ap is_some kept)
