-- Signs: where a text begins with a sign as its longest, no other is read there.
use Rattle.std.proofs.Common.{◌≡◌, ℕ, ◌+◌, ◌<◌, ◌≤◌, List, [], ◌∷◌, ◌++◌, length, drop, Bool, true, false, cond, not, ◌&&◌, ◌||◌, nat_eq, nat_lt, nat_le, refl, sym, ap, ◌∙◌, arith, Some, None, codes, le_antisymm}
use Rattle.std.proofs.lemmas.Bool.{false≢true, and_parts, false_from_ne_true, ltb-true}
use Rattle.std.proofs.lemmas.Bool.Decides.{Decides-eqb}
use Rattle.std.proofs.lemmas.Slice.Eq.{bytes_eq-Decides, starts_is}
use Rattle.std.specs.Str.{bytes_eq, chars}
use Rattle.std.specs.List.{list_any, list_all, starts_with}
use Rattle.unicode_ident.specs.Ident.{is_xid_start}
use Rattle.ucd_table.specs.Rows.{in_ranges}
use Rattle.ucd_derived.specs.XidStartRanges.{xid_start_ranges}
use Rattle.ecma_number.specs.Numeral.{begins}
use Rattle.ecma_lex.specs.Keys.{is_valid_start}
use Rattle.ecma_lex.specs.Punctuators.{punct_end, is_longest, punctuators, begins_with, begins_with_digit}
use Rattle.ecma_lex.proofs.Pieces.{among_passes}
use Rattle.ecma_lex.proofs.Suffixes.{Stands, chars_ascii}
use Rattle.ecma_print_tokens.specs.Taking.{begins_by}
use Rattle.ecma_print_tokens.proofs.Fronts.{one_of, digits, quotes}

pub record Longest (p t : List ℕ) : Type 0 where
  pub begins : begins_with t p ≡ true
  pub known : list_any (λ x. bytes_eq x p) punctuators ≡ true
  pub others : list_all (λ x. nat_le (length x) (length p) || not (begins_with t x)) punctuators ≡ true
  pub starts : t ≡ p ++ drop (length p) t

pub longest : (p t : List ℕ) → is_longest p t ≡ true → Longest p t
unfolding is_longest begins_with
longest p t h =
    let known = list_any (λ x. bytes_eq x p) punctuators in
    let others = list_all (λ x. nat_le (length x) (length p) || not (begins_with t x)) punctuators in
    let a : ((begins_with t p && known) ≡ true) × (others ≡ true) = and_parts (begins_with t p && known) others h in
    let b = and_parts (begins_with t p) known a.0 in
    let c = and_parts (starts_with nat_eq t p) (not (bytes_eq p (codes "?.") && begins_with_digit (drop 2 t))) b.0 in
    record { begins = b.0; known = b.1; others = a.1; starts = (starts_is Decides-eqb t p true (sym c.0)).0 refl }

no_longer : (p w t : List ℕ) → Longest p t → Longest w t → length p ≤ length w
no_longer p w t a b = go (begins_with t p) a.begins (among_passes (λ x. nat_le (length x) (length w) || not (begins_with t x)) punctuators p b.others a.known)
  where
    go : (c : Bool) → c ≡ true → (nat_le (length p) (length w) || not c) ≡ true → length p ≤ length w
    go true e h = grind arith
    go false e h = absurd (false≢true e)

same_front : (p w a b : List ℕ) → length p ≡ length w → p ++ a ≡ w ++ b → p ≡ w
same_front [] [] a b l h = refl
same_front [] (y ∷ w) a b l h = absurd (omega arith)
same_front (x ∷ p) [] a b l h = absurd (omega arith)
same_front (x ∷ p) (y ∷ w) a b l h =
    let e : x ≡ y = cc in
    let f : p ++ a ≡ w ++ b = cc in
    rw (e, same_front p w a b (omega arith) f) refl

longest_unique : (p w t : List ℕ) → is_longest p t ≡ true → is_longest w t ≡ true → p ≡ w
longest_unique p w t h k =
    let a = longest p t h in
    let b = longest w t k in
    same_front p w (drop (length p) t) (drop (length w) t) (le_antisymm (no_longer p w t a b) (no_longer w p t b a)) (sym a.starts ∙ b.starts)

-- each sign p is read there if it is w, and else none is
pub sign_at : (text w v : List ℕ) (i : ℕ) → is_longest w (w ++ v) ≡ true → Stands text i (w ++ v) → (p : List ℕ) → punct_end p text i ≡ cond (bytes_eq w p) (Some (i + length w)) None
unfolding punct_end
sign_at text w v i h st p = let r = st.rest in rw r (go (bytes_eq w p) refl)
  where
    go : (b : Bool) → bytes_eq w p ≡ b → cond (is_longest p (w ++ v)) (Some (i + length p)) None ≡ cond b (Some (i + length w)) None
    go true e = let z : w ≡ p = (bytes_eq-Decides w p).0 e in rw (← z, h) refl
    go false e = rw (false_from_ne_true (is_longest p (w ++ v)) (λ k. false≢true (sym e ∙ (bytes_eq-Decides w p).1 (sym (longest_unique p w (w ++ v) k h))))) refl

-- what a sign begins with

-- all signs begin with a character of ASCII that passes, by a test
abbrev Heads : (ℕ → Bool) → Type 0
Heads q = list_all (λ p. begins (λ c. nat_lt c 128 && q c) p) punctuators ≡ true

pub record Head (p t : List ℕ) : Type 0 where
  pub first : ℕ
  pub others : List ℕ
  pub behind : List ℕ
  pub small : first < 128
  pub sign : p ≡ first ∷ others
  pub text : t ≡ first ∷ behind
  pub characters : chars t ≡ first ∷ chars behind

heads : Heads (λ c. true)
unfolding punctuators
heads = refl

pub head : (p t : List ℕ) → Longest p t → Head p t
head p t l = go p refl (among_passes (λ p. begins (λ c. nat_lt c 128 && true) p) punctuators p heads l.known)
  where
    go : (q : List ℕ) → p ≡ q → begins (λ c. nat_lt c 128 && true) q ≡ true → Head p t
    go [] e h = absurd (false≢true h)
    go (c ∷ cs) e h =
        let small : c < 128 = ltb-true c 128 (and_parts (nat_lt c 128) true h).0 in
        let is : t ≡ c ∷ (cs ++ drop (length p) t) = l.starts ∙ ap (λ l. l ++ drop (length p) t) e in
        record { first = c; others = cs; behind = cs ++ drop (length p) t; small = small; sign = e; text = is; characters = ap chars is ∙ chars_ascii c (cs ++ drop (length p) t) small }

-- where a text begins with a character of a kind that no sign begins with, no sign is read
abbrev NoSign : (ℕ → Bool) → Type 0
NoSign q = list_all (λ p. begins (λ c. not (q c)) p) punctuators ≡ true

pub no_sign : (q : ℕ → Bool) → NoSign q → (t : List ℕ) → begins q (chars t) ≡ true → (p : List ℕ) → is_longest p t ≡ false
no_sign q n t h p = false_from_ne_true (is_longest p t) (λ k.
    let l = longest p t k in
    let f = head p t l in
    let a : begins (λ c. not (q c)) (f.first ∷ f.others) ≡ true = rw f.sign at (among_passes (λ p. begins (λ c. not (q c)) p) punctuators p n l.known) in
    let b : begins q (f.first ∷ chars f.behind) ≡ true = rw f.characters at h in
    clash (q f.first) a b)
  where
    clash : (b : Bool) → not b ≡ true → b ≡ true → ⊥
    clash true h k = false≢true h
    clash false h k = false≢true k

pub no_signs : NoSign is_valid_start × NoSign (one_of (35 ∷ [])) × NoSign (one_of quotes) × NoSign (one_of digits) × NoSign (one_of (96 ∷ []))
unfolding punctuators is_xid_start xid_start_ranges in_ranges
no_signs = (refl, refl, refl, refl, refl)

-- a sign that begins otherwise is not read
pub other_sign : (c : ℕ) (t p : List ℕ) → begins_by c p ≡ false → is_longest p (c ∷ t) ≡ false
other_sign c t p h = false_from_ne_true (is_longest p (c ∷ t)) (λ k.
    let l = longest p (c ∷ t) k in
    let f = head p (c ∷ t) l in
    let e : c ≡ f.first = (let x = f.text in cc) in
    let a : begins_by c (f.first ∷ f.others) ≡ false = rw f.sign at h in
    false≢true (sym a ∙ same f.first c (sym e)))
  where
    same : (x y : ℕ) → x ≡ y → nat_eq x y ≡ true
    same x y e = grind arith

-- by its first character: `}` (125), and a point (46)

brace_alone : list_all (λ p. not (begins_by 125 p) || bytes_eq p (codes "}")) punctuators ≡ true
unfolding punctuators
brace_alone = refl

points : list_all (λ p. not (begins_by 46 p) || (bytes_eq p (codes ".") || bytes_eq p (codes "..."))) punctuators ≡ true
unfolding punctuators
points = refl

or_second : (a b : Bool) → a ≡ true → (not a || b) ≡ true → b ≡ true
or_second true b h k = k
or_second false b h k = absurd (false≢true h)

pub brace_only : (p t : List ℕ) → Longest p t → begins_by 125 p ≡ true → bytes_eq p (codes "}") ≡ true
brace_only p t l h = or_second (begins_by 125 p) (bytes_eq p (codes "}")) h (among_passes (λ p. not (begins_by 125 p) || bytes_eq p (codes "}")) punctuators p brace_alone l.known)

pub point_only : (p t : List ℕ) → Longest p t → begins_by 46 p ≡ true → (bytes_eq p (codes ".") || bytes_eq p (codes "...")) ≡ true
point_only p t l h = or_second (begins_by 46 p) (bytes_eq p (codes ".") || bytes_eq p (codes "...")) h (among_passes (λ p. not (begins_by 46 p) || (bytes_eq p (codes ".") || bytes_eq p (codes "..."))) punctuators p points l.known)
