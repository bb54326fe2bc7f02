-- What is misplaced and what is a stray, found together child by child.
use Rattle.std.proofs.Common.{◌≡◌, ◌∙◌, ℕ, ◌+◌, Bool, true, false, not, ◌&&◌, cond, length, Option, Some, None, refl, sym, ap, ap₂, slice_get}
use Rattle.ecma_tree.specs.declared.node.Node.{Node, out-Node}
use Rattle.ecma_rules.specs.declared.standing.Around.{Around}
use Rattle.ecma_rules.specs.Children.{kind_of}
use Rattle.ecma_rules.specs.Failing.{least}
use Rattle.ecma_rules.specs.Jumps.{Held, held_in, not_held, stray_here}
use Rattle.ecma_rules.specs.Rules.{misplaced_here}
use Rattle.ecma_rules.specs.Surroundings.{around_in}
use Rattle.ecma_rules.specs.Walks.{first_broken_in, holds_strays, is_watched, stray_if, unasked}
use Rattle.ecma_rules.proofs.Failures.{failing-first, least-none, least-pairs, least-twice, rest-next, rest-none, rest_failing}
use Rattle.ecma_rules.proofs.Unasked.{unwatched-tells-none}
use Rattle.ecma_rules.proofs.Unheld.{child-stray-first, not-held-tells-none}

-- the strays in the children from the one at i on, where they are looked for there
abbrev rest_strays : Bool → Node → ℕ → Option ℕ
rest_strays below n i = cond below (rest_failing Held stray_here held_in not_held n i) None

-- with what is misplaced in these children
abbrev pub rest_broken : Bool → Around → Node → ℕ → Option ℕ
rest_broken below a n i = least (rest_failing Around misplaced_here around_in a n i) (rest_strays below n i)

first-stray-below : (n : Node) → rest_strays true n 0 ≡ stray_if true n
first-stray-below n = failing-first Held stray_here held_in not_held n None (not-held-tells-none n)

strays-here-or-below : (with_strays holds : Bool) (n : Node) → least (stray_if (with_strays && holds) n) (rest_strays (with_strays && not holds) n 0) ≡ stray_if with_strays n
strays-here-or-below false holds n = refl
strays-here-or-below true true n = least-none (stray_if true n)
strays-here-or-below true false n = first-stray-below n

-- before the first child
pub broken-first : (with_strays below : Bool) (a : Around) (n : Node) (misplaced stray : Option ℕ) → misplaced ≡ misplaced_here a n → stray ≡ stray_if (with_strays && holds_strays (kind_of n)) n
    → below ≡ (with_strays && not (holds_strays (kind_of n))) → least (least misplaced stray) (rest_broken below a n 0) ≡ first_broken_in with_strays n a
broken-first with_strays below a n misplaced stray m s b =
    least-pairs misplaced stray (rest_failing Around misplaced_here around_in a n 0) (rest_strays below n 0)
    ∙ ap₂ least (failing-first Around misplaced_here around_in a n misplaced m)
    (ap₂ (λ (z : Option ℕ) (c : Bool). least z (rest_strays c n 0)) s b ∙ strays-here-or-below with_strays (holds_strays (kind_of n)) n)

-- the same where nothing is told here
pub unwatched-broken-first : (with_strays l : Bool) (n : Node) → is_watched (kind_of n) ≡ false → rest_broken with_strays (unasked l) n 0 ≡ first_broken_in with_strays n (unasked l)
unwatched-broken-first with_strays l n h = ap₂ least (failing-first Around misplaced_here around_in (unasked l) n None (unwatched-tells-none l n h)) (strays with_strays)
  where
    strays : (b : Bool) → rest_strays b n 0 ≡ stray_if b n
    strays true = first-stray-below n
    strays false = refl

strays-next : (below : Bool) (n x : Node) (i : ℕ) → (below ≡ true → holds_strays (kind_of n) ≡ false) → slice_get (out-Node n).children i ≡ Some x
    → least (stray_if below x) (rest_strays below n (i + 1)) ≡ rest_strays below n i
strays-next true n x i h at =
    ap (λ z. least z (rest_strays true n (i + 1))) (child-stray-first n x i (h refl)) ∙ sym (rest-next Held stray_here held_in not_held n i x at)
strays-next false n x i h at = refl

broken-child : (below : Bool) (a : Around) (n x : Node) (i : ℕ) → (below ≡ true → holds_strays (kind_of n) ≡ false) → slice_get (out-Node n).children i ≡ Some x
    → least (first_broken_in below x (around_in a n i)) (rest_broken below a n (i + 1)) ≡ rest_broken below a n i
broken-child below a n x i h at =
    least-pairs _ (stray_if below x) (rest_failing Around misplaced_here around_in a n (i + 1)) (rest_strays below n (i + 1))
    ∙ ap₂ least (sym (rest-next Around misplaced_here around_in a n i x at)) (strays-next below n x i h at)

-- behind one more
pub broken-next : (below : Bool) (a : Around) (n : Node) (found told all : Option ℕ) (i : ℕ) (x : Node) → (below ≡ true → holds_strays (kind_of n) ≡ false) → slice_get (out-Node n).children i ≡ Some x
    → told ≡ first_broken_in below x (around_in a n i) → least found (rest_broken below a n i) ≡ all → least (least found told) (rest_broken below a n (i + 1)) ≡ all
broken-next below a n found told all i x h at is so_far =
    least-twice found told (rest_broken below a n (i + 1)) ∙ ap (λ z. least found (least z (rest_broken below a n (i + 1)))) is
    ∙ ap (least found) (broken-child below a n x i h at) ∙ so_far

-- behind the last
pub broken-all : (below : Bool) (a : Around) (n : Node) (found all : Option ℕ) (i : ℕ) → length (out-Node n).children ≡ i → least found (rest_broken below a n i) ≡ all → found ≡ all
broken-all below a n found all i last so_far =
    sym (least-none found) ∙ ap (least found) (sym (ap₂ least (rest-none Around misplaced_here around_in a n i last) (strays below))) ∙ so_far
  where
    strays : (b : Bool) → rest_strays b n i ≡ None
    strays true = rest-none Held stray_here held_in not_held n i last
    strays false = refl

-- where strays are still looked for in the children, the node holds none
pub seeks-below-unheld : (with_strays holds below : Bool) → below ≡ (with_strays && not holds) → below ≡ true → holds ≡ false
seeks-below-unheld false holds below b h = cc
seeks-below-unheld true true below b h = cc
seeks-below-unheld true false below b h = refl
