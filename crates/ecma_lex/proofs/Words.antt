-- Keys, one step of a loop after the other.
use Rattle.std.proofs.Common.{◌≡◌, ℕ, ◌+◌, ◌<◌, ◌≤◌, List, [], ◌∷◌, refl, sym, Bool, arith, true, false, Some, nat_eq, ◌||◌}
use Rattle.std.specs.Char.{len_utf8, is_ascii_alphabetic, is_ascii_alphanumeric}
use Rattle.unicode_ident.specs.Ident.{is_xid_start, is_xid_continue}
use Rattle.unicode_ident.proofs.IdentLemmas.{is_xid_start-ascii, is_xid_continue-ascii}
use Rattle.ecma_lex.specs.Text.{after}
use Rattle.ecma_lex.specs.Parts.{passing}
use Rattle.ecma_lex.specs.Keys.{is_valid_start, is_valid_continue, identifier_parts}
use Rattle.ecma_lex.proofs.Repeats.{moves_passing, many_none, many_some, passing_stands, passing_fails, passing_end}

other : (c n : ℕ) → n < 128 → 128 ≤ c → nat_eq c n ≡ false
other c n h k = grind arith

pub beyond : (c n : ℕ) → c < 128 → 128 ≤ n → nat_eq c n ≡ false
beyond c n h k = grind arith

pub ascii_start : (c : ℕ) → c < 128 → is_valid_start c ≡ (nat_eq c 36 || nat_eq c 95 || is_ascii_alphabetic c)
ascii_start c h = rw (is_xid_start-ascii c h) refl

pub other_start : (c : ℕ) → 128 ≤ c → is_valid_start c ≡ is_xid_start c
other_start c h = rw (other c 36 (grind arith) h, other c 95 (grind arith) h) refl

pub ascii_continue : (c : ℕ) → c < 128 → is_valid_continue c ≡ (nat_eq c 36 || nat_eq c 95 || is_ascii_alphanumeric c)
ascii_continue c h = rw (is_xid_continue-ascii c h, beyond c 0x200C h (grind arith), beyond c 0x200D h (grind arith)) (last_first (nat_eq c 36) (is_ascii_alphanumeric c) (nat_eq c 95))
  where
    last_first : (a b d : Bool) → (a || false || false || (b || d)) ≡ (a || d || b)
    last_first true b d = refl
    last_first false true true = refl
    last_first false true false = refl
    last_first false false d = by_case d
      where
        by_case : (d : Bool) → d ≡ (d || false)
        by_case true = refl
        by_case false = refl

pub other_continue : (c : ℕ) → 128 ≤ c → is_valid_continue c ≡ (nat_eq c 0x200C || nat_eq c 0x200D || is_xid_continue c)
other_continue c h = rw (other c 36 (grind arith) h) refl

pub ruleset start_rules = (ascii_start, other_start)

pub ruleset continue_rules = (ascii_continue, other_continue)

module _ (text : List ℕ) where
  pub identifier_more : (i c : ℕ) → after text i ≡ c ∷ after text (i + len_utf8 c) → is_valid_continue c ≡ true → identifier_parts text (i + len_utf8 c) ≡ identifier_parts text i
  unfolding identifier_parts
  identifier_more i c e h = sym (many_some text (passing is_valid_continue) (moves_passing text is_valid_continue) i (i + len_utf8 c) (passing_stands text is_valid_continue i c _ e h))

  pub identifier_stops : (i c : ℕ) → after text i ≡ c ∷ after text (i + len_utf8 c) → is_valid_continue c ≡ false → identifier_parts text i ≡ Some i
  unfolding identifier_parts
  identifier_stops i c e h = many_none text (passing is_valid_continue) i (passing_fails text is_valid_continue i c _ e h)

  pub identifier_ends : (i : ℕ) → after text i ≡ [] → identifier_parts text i ≡ Some i
  unfolding identifier_parts
  identifier_ends i e = many_none text (passing is_valid_continue) i (passing_end text is_valid_continue i e)

pub ruleset identifier_steps = (identifier_more, identifier_stops, identifier_ends)
