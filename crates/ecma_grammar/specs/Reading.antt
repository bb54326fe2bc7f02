-- Readings, of which grammars are made.
-- A reading goes on from a position: a place in the text, and the greatest place at which a terminal has failed so far.
use Rattle.std.specs.Prelude.{ℕ, zero, suc, max, Bool, true, false, List, [], ◌++◌, Result, Ok, Err}
use Rattle.ecma_lex.specs.declared.tokens.Token.{Token}
use Rattle.ecma_lex.specs.declared.tokens.NoToken.{NoToken}

pub record Position : Type 0 where
  pub place : ℕ
  pub failed : ℕ

-- something was read, and where the reading goes on; it fails, with the greatest failed place; a use above the deepest level begins at a place
pub data Outcome (A : Type 0) : Type 0 where
  read : A → Position → Outcome A
  fails : ℕ → Outcome A
  too_deep : ℕ → Outcome A

abbrev pub Reading : Type 0 → Type 0
Reading A = Position → Outcome A

-- nothing is read
abbrev pub pure : {A : Type 0} → A → Reading A
pure x s = read x s

-- one reading after the other
abbrev pub then_on : {A B : Type 0} → (A → Reading B) → Outcome A → Outcome B
then_on f (read x s) = f x s
then_on f (fails k) = fails k
then_on f (too_deep d) = too_deep d

infixl 10 ◌>>=◌
abbrev pub ◌>>=◌ : {A B : Type 0} → Reading A → (A → Reading B) → Reading B
◌>>=◌ p f s = then_on f (p s)

-- what was read stands in front of what is read after it
abbrev pub with_front : {A : Type 0} → List A → Outcome (List A) → Outcome (List A)
with_front xs (read ys t) = read (xs ++ ys) t
with_front xs (fails k) = fails k
with_front xs (too_deep d) = too_deep d

abbrev pub followed_on : {A : Type 0} → Reading (List A) → Outcome (List A) → Outcome (List A)
followed_on q (read xs t) = with_front xs (q t)
followed_on q (fails k) = fails k
followed_on q (too_deep d) = too_deep d

-- ordered choice: the second, from the same place, where the first fails
abbrev pub or_on : {A : Type 0} → Reading A → Position → Outcome A → Outcome A
or_on q s (read x t) = read x t
or_on q s (fails k) = q (record { place = s.place; failed = k })
or_on q s (too_deep d) = too_deep d

-- a repetition, until one reading fails
abbrev pub many_on : {A : Type 0} → Position → Reading (List A) → Outcome (List A) → Outcome (List A)
many_on s rest (read xs t) = with_front xs (rest t)
many_on s rest (fails k) = read [] (record { place = s.place; failed = k })
many_on s rest (too_deep d) = too_deep d

-- at most n times: with n above the length of the text the bound is not reached, since each part takes a character
unfoldable pub many_up_to : {A : Type 0} → Reading (List A) → ℕ → Reading (List A)
many_up_to p zero s = read [] s
many_up_to p (suc n) s = many_on s (many_up_to p n) (p s)

-- it stands ahead: it is read, and nothing is taken
abbrev pub ahead_on : {A : Type 0} → Position → Outcome (List A) → Outcome (List A)
ahead_on s (read xs t) = read [] (record { place = s.place; failed = t.failed })
ahead_on s (fails k) = fails k
ahead_on s (too_deep d) = too_deep d

-- it does not stand ahead
abbrev pub unless_on : {A : Type 0} → Position → Outcome (List A) → Outcome (List A)
unless_on s (read xs t) = fails t.failed
unless_on s (fails k) = read [] (record { place = s.place; failed = k })
unless_on s (too_deep d) = too_deep d

-- a part marked as TypeScript: in plain reading it is absent, and fails without a terminal
abbrev pub marked : {A : Type 0} → Bool → Reading A → Reading A
marked true p s = p s
marked false p s = fails s.failed

-- a terminal: it alone raises the greatest failed place
abbrev pub terminal_on : Position → Result Token NoToken → Outcome Token
terminal_on s (Ok token) = read token (record { place = token.next; failed = s.failed })
terminal_on s (Err none) = fails (max s.failed none.at)
