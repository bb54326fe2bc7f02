-- A text is compared with what is said, from the front on.
use Rattle.std.proofs.Common.{◌≡◌, ℕ, List, [], ◌++◌, Option, Some, None, Bool, true, false, ◌≢◌, ◌≤◌, length, refl, ap, sym, ◌∙◌, bytes_eq, IsSome, unwrap_or}
use Rattle.std.proofs.lemmas.Bool.{false_from_ne_true, false≢true}
use Rattle.std.proofs.lemmas.Slice.Eq.{bytes_eq-Decides}
use Rattle.std.proofs.lemmas.List.{append_cancel_left}
use Rattle.ecma_lex.specs.Escapes.{listed}
use Rattle.ecma_lex.specs.Values.{IsHigh, literal_value, onto, value_behind}
use Rattle.ecma_lex.specs.Strings.{str_value}
use Rattle.ecma_lex.proofs.Sayings.{ends_so}
use Rattle.ecma_leaves.specs.Sayings.{is_said, said_behind_all}

front_eq : (bytes said more : List ℕ) → bytes_eq (bytes ++ said) (bytes ++ more) ≡ bytes_eq said more
front_eq bytes said more = go (bytes_eq said more) refl
  where
    go : (b : Bool) → bytes_eq said more ≡ b → bytes_eq (bytes ++ said) (bytes ++ more) ≡ b
    go true e = (bytes_eq-Decides (bytes ++ said) (bytes ++ more)).1 (ap (λ l. bytes ++ l) ((bytes_eq-Decides said more).0 e))
    go false e = false_from_ne_true (bytes_eq (bytes ++ said) (bytes ++ more)) (λ same. false≢true (sym e ∙ (bytes_eq-Decides said more).1 (append_cancel_left bytes said more ((bytes_eq-Decides (bytes ++ said) (bytes ++ more)).0 same))))

-- the same bytes in front decide nothing
pub said_behind : (bytes more : List ℕ) (o : Option (List ℕ)) → is_said (onto bytes o) (bytes ++ more) ≡ is_said o more
said_behind bytes more None = refl
said_behind bytes more (Some said) = front_eq bytes said more

-- a text that does not begin with them is not said
pub not_said : (bytes text : List ℕ) (o : Option (List ℕ)) → ((more : List ℕ) → text ≢ bytes ++ more) → is_said (onto bytes o) text ≡ false
not_said bytes text None apart = refl
not_said bytes text (Some said) apart = false_from_ne_true (bytes_eq (bytes ++ said) text) (λ same. apart said (sym ((bytes_eq-Decides (bytes ++ said) text).0 same)))

-- behind the last part nothing more is said
pub said_all : (text : List ℕ) (in_template : Bool) (high : Option ℕ) (i : ℕ) (rest : List ℕ) → IsHigh high → i ≤ length text → length text ≤ i → is_said (value_behind (listed high) in_template text i) rest ≡ is_said (said_behind_all high) rest
said_all text in_template None i rest waits within end = ap (λ o. is_said o rest) (ends_so text in_template None i waits within end)
said_all text in_template (Some high) i rest waits within end = ap (λ o. is_said o rest) (ends_so text in_template (Some high) i waits within end)

pub ruleset matching = (said_behind, not_said, said_all)

-- where there is a text, that is the value
pub valued : (inside value : List ℕ) → IsSome (literal_value false inside) → is_said (literal_value false inside) value ≡ bytes_eq (str_value inside) value
unfolding str_value
valued inside value there = go (literal_value false inside) there
  where
    go : (said : Option (List ℕ)) → IsSome said → is_said said value ≡ bytes_eq (unwrap_or said []) value
    go None there = cc
    go (Some text) there = refl
