-- Where a text begins otherwise, a token of a kind is not read.
use Rattle.std.proofs.Common.{◌≡◌, ℕ, ◌+◌, List, [], ◌∷◌, refl, ap, sym, ◌∙◌, Option, Some, None, Bool, true, false, cond, not, ◌||◌, nat_eq, option_map}
use Rattle.std.specs.Str.{IsUtf8, chars}
use Rattle.std.proofs.lemmas.Bool.{false≢true}
use Rattle.ecma_number.specs.Numeral.{begins}
use Rattle.ecma_lex.specs.Text.{after}
use Rattle.ecma_lex.specs.Parts.{Part, code_point, ◌>>◌, then_at}
use Rattle.ecma_lex.specs.Blanks.{line}
use Rattle.ecma_lex.specs.Keys.{is_valid_start, key_end, priv_name_end}
use Rattle.ecma_lex.specs.Punctuators.{angle_end}
use Rattle.ecma_lex.specs.Numerals.{num_end, big_end}
use Rattle.ecma_lex.specs.Strings.{is_quote, str_end}
use Rattle.ecma_lex.specs.Regexes.{opened, regex_end}
use Rattle.ecma_lex.specs.Hashbangs.{hashbang_end}
use Rattle.ecma_lex.specs.Templates.{template_characters, any_template_text_end, template_text_end}
use Rattle.ecma_lex.proofs.Repeats.{then_none, passing_end, passing_fails}
use Rattle.ecma_lex.proofs.Literals.{after_start}
use Rattle.ecma_lex.proofs.Spelled.{stops, key_none}
use Rattle.ecma_lex.proofs.Quoted.{no_string}
use Rattle.ecma_lex.proofs.NumeralReading.{begins_num, no_num}
use Rattle.ecma_lex.proofs.TemplateParts.{opening}
use Rattle.ecma_print_tokens.proofs.Fronts.{one_of, fewer_stop, digits, numeral_starts, quotes, no_numeral, no_quote}
use Rattle.ecma_print_tokens.proofs.Numerals.{no_big}

-- a part stands nowhere but where a text begins so
abbrev pub Begins : Part → (ℕ → Bool) → Type 0
Begins find p = (text : List ℕ) (i : ℕ) → stops p (after text i) ≡ true → find text i ≡ None

-- what stands at the front of a text begins it so
pub front_of : (find : Part) (p : ℕ → Bool) → Begins find p → (w : List ℕ) (n : ℕ) → IsUtf8 w → find w 0 ≡ Some n → begins p (chars w) ≡ true
front_of find p f w n u h = go (chars w) (after_start w u)
  where
    none_some : ◌≡◌ {A = Option ℕ} None (Some n) → ⊥
    none_some e = cc

    by_test : (c : ℕ) (cs : List ℕ) (b : Bool) → p c ≡ b → after w 0 ≡ c ∷ cs → b ≡ true
    by_test c cs true e k = refl
    by_test c cs false e k = absurd (none_some (sym (f w 0 (rw (k, e) refl)) ∙ h))

    go : (cs : List ℕ) → after w 0 ≡ cs → begins p cs ≡ true
    go [] e = absurd (none_some (sym (f w 0 (rw e refl)) ∙ h))
    go (c ∷ cs) e = by_test c cs (p c) refl e

code_absent : (d : ℕ) → Begins (code_point d) (one_of (d ∷ []))
code_absent d text i h = go (after text i) refl h
  where
    either : (b : Bool) → not (b || false) ≡ true → b ≡ false
    either true k = absurd (false≢true k)
    either false k = refl

    go : (cs : List ℕ) → after text i ≡ cs → stops (one_of (d ∷ [])) cs ≡ true → code_point d text i ≡ None
    go [] e k = passing_end text (λ c. nat_eq c d) i e
    go (c ∷ cs) e k = passing_fails text (λ c. nat_eq c d) i c cs e (either (nat_eq c d) k)

pub key_absent : Begins key_end is_valid_start
key_absent text i h = key_none text i h

pub private_absent : Begins priv_name_end (one_of (35 ∷ []))
unfolding priv_name_end
private_absent text i h = then_none text (code_point 35) key_end i (code_absent 35 text i h)

pub string_absent : Begins str_end (one_of quotes)
string_absent text i h = no_string text i (fewer_stop (one_of quotes) is_quote no_quote (after text i) h)

pub number_absent : Begins num_end (one_of numeral_starts)
number_absent text i h = no_num text i (fewer_stop (one_of numeral_starts) begins_num no_numeral (after text i) h)

pub big_absent : Begins big_end (one_of digits)
big_absent text i h = no_big text i h

pub regex_absent : Begins regex_end (one_of (47 ∷ []))
unfolding regex_end opened
regex_absent text i h = let e = code_absent 47 text i h in rw e refl

pub angle_absent : (c : ℕ) → Begins (angle_end c) (one_of (c ∷ []))
unfolding angle_end
angle_absent c text i h = code_absent c text i h

-- a hashbang stands nowhere but before `#` and `!` (33)
pub hashbang_absent : Begins hashbang_end (one_of (35 ∷ []))
unfolding hashbang_end
hashbang_absent text i h = go (nat_eq i 0)
  where
    go : (b : Bool) → then_at (code_point 35 >> code_point 33 >> line) text (cond b (Some i) None) ≡ None
    go true = let e = code_absent 35 text i h in rw e refl
    go false = refl

pub hashbang_short : (text : List ℕ) (i : ℕ) → code_point 35 text i ≡ Some (i + 1) → stops (one_of (33 ∷ [])) (after text (i + 1)) ≡ true → hashbang_end text i ≡ None
unfolding hashbang_end
hashbang_short text i e h = go (nat_eq i 0)
  where
    go : (b : Bool) → then_at (code_point 35 >> code_point 33 >> line) text (cond b (Some i) None) ≡ None
    go true = let k = code_absent 33 text (i + 1) h in rw (e, k) refl
    go false = refl

pub part_absent : (first tagged : Bool) (text : List ℕ) (i : ℕ) → stops (one_of (opening first ∷ [])) (after text i) ≡ true → template_text_end first tagged text i ≡ None
unfolding template_text_end any_template_text_end template_characters
part_absent first tagged text i h = let e = code_absent (opening first) text i h in rw e refl

pub part_begins : (first tagged last : Bool) (w : List ℕ) (n : ℕ) → IsUtf8 w → template_text_end first tagged w 0 ≡ Some (record { next = n; last = last }) → begins (one_of (opening first ∷ [])) (chars w) ≡ true
part_begins first tagged last w n u h = front_of (λ text i. option_map (λ e. n) (template_text_end first tagged text i)) (one_of (opening first ∷ [])) (λ text i k. ap (option_map (λ e. n)) (part_absent first tagged text i k)) w n u (ap (option_map (λ e. n)) h)
