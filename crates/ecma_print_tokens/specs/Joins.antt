-- Which token may stand directly behind another, by their kinds and the texts of signs alone; and lists of tokens of which each joins the next.
use Rattle.std.specs.Prelude.{◌≡◌, ℕ, Bool, true, false, not, ◌&&◌, ◌||◌, nat_eq, List, [], ◌∷◌, ◌++◌, bytes_eq, codes}
use Rattle.std.specs.List.{list_any, starts_with}
use Rattle.ecma_lex.specs.Punctuators.{punctuators}
use Rattle.ecma_print_tokens.specs.Items.{Tok, key, private_name, sign, string, number, big_int, regex, template, Gap, Items, ends, it}
use Rattle.ecma_print_tokens.specs.Taking.{begins_by}
use Rattle.ecma_print_tokens.specs.Good.{IsGap, Whole, begins_comment}

-- tokens that go on with a key, a numeral or the flags of a regular expression
abbrev pub goes_on : Tok → Bool
goes_on (key w) = true
goes_on (number w) = true
goes_on (big_int w) = true
goes_on t = false

-- a point goes on with a numeral
abbrev pub begins_with_point : Tok → Bool
begins_with_point (sign w) = begins_by 46 w
begins_with_point t = false

-- a longer sign begins with this one and the character behind it
abbrev pub is_longer_with : List ℕ → ℕ → Bool
is_longer_with w c = list_any (λ p. starts_with nat_eq p (w ++ c ∷ [])) punctuators

abbrev pub opens_comment : List ℕ → ℕ → Bool
opens_comment w c = bytes_eq w (codes "/") && begins_comment c

-- one sign in front of another
abbrev pub sign_before : List ℕ → List ℕ → Bool
sign_before w [] = false
sign_before w (c ∷ cs) = not (is_longer_with w c || opens_comment w c)

-- a sign in front of a token; a numeral may begin with a point
abbrev pub sign_joins : List ℕ → Tok → Bool
sign_joins w (sign v) = sign_before w v
sign_joins w (number v) = not (bytes_eq w (codes ".") || (bytes_eq w (codes "?.") || bytes_eq w (codes "?")))
sign_joins w (big_int v) = not (bytes_eq w (codes ".") || bytes_eq w (codes "?."))
sign_joins w (regex v) = not (bytes_eq w (codes "/"))
sign_joins w t = true

-- a token directly in front of another
abbrev pub meets : Tok → Tok → Bool
meets (key w) u = not (goes_on u)
meets (private_name w) u = not (goes_on u)
meets (sign w) u = sign_joins w u
meets (string w) u = true
meets (number w) u = not (goes_on u || begins_with_point u)
meets (big_int w) u = not (goes_on u)
meets (regex w) u = not (goes_on u)
meets (template first last w) u = true

abbrev pub parted_by : List ℕ → Bool → Bool
parted_by [] b = b
parted_by (c ∷ cs) b = true

-- behind a gap that is not empty each token may stand
abbrev pub joins : Tok → Gap → Tok → Bool
joins t g u = parted_by g.blanks (meets t u)

abbrev pub joins_next : Tok → Items → Bool
joins_next t (ends g) = true
joins_next t (it g u us) = joins t g u

abbrev pub Fine : Tok → Type 0
Fine (sign w) = list_any (λ p. bytes_eq p w) punctuators ≡ true
Fine t = Whole t

abbrev pub Joined : Items → Type 0
Joined (ends g) = IsGap g
Joined (it g t ts) = IsGap g × Fine t × (joins_next t ts ≡ true) × Joined ts
