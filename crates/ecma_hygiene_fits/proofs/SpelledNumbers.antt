-- A text that is spelled as an identifier is, with decimal digits behind it, is spelled so too, as long as it is not too long to be read.
use Rattle.std.proofs.Common.{◌≡◌, ◌∙◌, ℕ, zero, suc, ◌+◌, ◌-◌, ◌*◌, ◌/◌, ◌%◌, ◌<◌, ◌≤◌, Bool, true, false, cond, ◌||◌, nat_eq, List, [], ◌∷◌, ◌++◌, length, drop, Option, Some, None, refl, sym, ap, subst, slice_get, arith}
use Rattle.std.specs.Char.{is_ascii_digit, len_utf8}
use Rattle.std.specs.Fmt.{decimal, digit_glyph, digits, digits_onto}
use Rattle.std.specs.List.{list_all}
use Rattle.std.specs.Str.{IsAscii, chars, chars_after, continuation_len, lead_bits}
use Rattle.std.proofs.lemmas.Bool.{and_from, and_parts, eqb-true, false≢true}
use Rattle.std.proofs.lemmas.Bool.Decides.{nat_tests}
use Rattle.std.proofs.lemmas.List.{append-nil, drop-append-le}
use Rattle.std.proofs.lemmas.Str.{encodes-IsAscii}
use lib.Utf8.{encodes, scalar, scalars}
use Rattle.unicode_ident.proofs.IdentLemmas.{is_xid_continue-ascii, is_xid_start-ascii}
use Rattle.ecma_number.specs.Blanks.{is_blank, is_line_terminator, is_white_space}
use Rattle.ecma_lex.specs.Blanks.{blank, blanks, comment, skipped}
use Rattle.ecma_lex.specs.Keys.{identifier_parts, is_valid_continue, is_valid_start, key_end}
use Rattle.ecma_lex.specs.Parts.{◌//◌, char_at, many, passes, passing}
use Rattle.ecma_lex.specs.Text.{after, cuts}
use Rattle.ecma_lex.specs.Tokens.{found, key}
use Rattle.ecma_lex.proofs.Alike.{apart}
use Rattle.ecma_lex.proofs.Comments.{blanks_end, moves_blank, other_char, skipped_by}
use Rattle.ecma_lex.proofs.Repeats.{between, char_within, code_point_fails, many_along, many_ends, many_some, many_stands, moves_passing, none_some, then_some}
use Rattle.ecma_lex.proofs.Spelled.{many_again}
use Rattle.ecma_lex.proofs.Steps.{after_cut, after_is}
use Rattle.ecma_lex.proofs.Suffixes.{Stands, cuts_inside, length-encodes, past, wide}
use Rattle.ecma_leaves.specs.Words.{is_readable, is_whole}
use Rattle.ecma_hygiene_fits.specs.Spelled.{is_spelled_text}

-- ---- decimal digits

glyph_is_digit : (d : ℕ) → d < 10 → is_ascii_digit (digit_glyph false d) ≡ true
glyph_is_digit d h = grind (arith, nat_tests)

onto_digits : (k n : ℕ) (acc : List ℕ) → list_all is_ascii_digit acc ≡ true → list_all is_ascii_digit (digits_onto k 10 false n acc) ≡ true
onto_digits zero n acc h = h
onto_digits (suc k) n acc h =
    let more : list_all is_ascii_digit (digit_glyph false (n % 10) ∷ acc) ≡ true =
    and_from (is_ascii_digit (digit_glyph false (n % 10))) (list_all is_ascii_digit acc) (glyph_is_digit (n % 10) (omega arith)) h in
    by (nat_eq (n / 10) 0) (digit_glyph false (n % 10) ∷ acc) (digits_onto k 10 false (n / 10) (digit_glyph false (n % 10) ∷ acc)) more (onto_digits k (n / 10) (digit_glyph false (n % 10) ∷ acc) more)
  where
    by : (last : Bool) (xs ys : List ℕ) → list_all is_ascii_digit xs ≡ true → list_all is_ascii_digit ys ≡ true → list_all is_ascii_digit (cond last xs ys) ≡ true
    by true xs ys x y = x
    by false xs ys x y = y

pub decimal_digits : (n : ℕ) → list_all is_ascii_digit (decimal n) ≡ true
unfolding digits
decimal_digits n = onto_digits 64 n [] refl

onto_length : (k n : ℕ) (acc : List ℕ) → length (digits_onto k 10 false n acc) ≤ k + length acc
onto_length zero n acc = omega arith
onto_length (suc k) n acc =
    let h : length (digits_onto k 10 false (n / 10) (digit_glyph false (n % 10) ∷ acc)) ≤ suc k + length acc = omega (arith, onto_length k (n / 10) (digit_glyph false (n % 10) ∷ acc)) in
    by (nat_eq (n / 10) 0) (digit_glyph false (n % 10) ∷ acc) (digits_onto k 10 false (n / 10) (digit_glyph false (n % 10) ∷ acc)) (omega arith) h
  where
    by : (last : Bool) (xs ys : List ℕ) → length xs ≤ suc k + length acc → length ys ≤ suc k + length acc → length (cond last xs ys) ≤ suc k + length acc
    by true xs ys x y = x
    by false xs ys x y = y

pub decimal_length : (n : ℕ) → length (decimal n) ≤ 64
unfolding digits
decimal_length n = onto_length 64 n []

digit_continues : (c : ℕ) → is_ascii_digit c ≡ true → is_valid_continue c ≡ true
digit_continues c h = let small : c < 128 = grind (arith, nat_tests) in let e = is_xid_continue-ascii c small in grind (arith, nat_tests)

digit_scalar : (c : ℕ) → is_ascii_digit c ≡ true → scalar c ≡ true
digit_scalar c h = grind (arith, nat_tests)

all_more : (p q : ℕ → Bool) → ((c : ℕ) → p c ≡ true → q c ≡ true) → (cs : List ℕ) → list_all p cs ≡ true → list_all q cs ≡ true
all_more p q f [] h = refl
all_more p q f (c ∷ cs) h = let a = and_parts (p c) (list_all p cs) h in and_from (q c) (list_all q cs) (f c a.0) (all_more p q f cs a.1)

digits_scalars : (cs : List ℕ) → list_all is_ascii_digit cs ≡ true → scalars cs ≡ true
digits_scalars [] h = refl
digits_scalars (c ∷ cs) h = let a = and_parts (is_ascii_digit c) (list_all is_ascii_digit cs) h in and_from (scalar c) (scalars cs) (digit_scalar c a.0) (digits_scalars cs a.1)

digits_ascii : (cs : List ℕ) → list_all is_ascii_digit cs ≡ true → IsAscii cs
digits_ascii [] h i = omega arith
digits_ascii (c ∷ cs) h zero = let a = (and_parts (is_ascii_digit c) (list_all is_ascii_digit cs) h).0 in grind (arith, nat_tests)
digits_ascii (c ∷ cs) h (suc i) = digits_ascii cs (and_parts (is_ascii_digit c) (list_all is_ascii_digit cs) h).1 i

-- ---- a text in front of more

zero_head : (c : ℕ) (bs : List ℕ) → slice_get (chars_after zero c bs) 0 ≡ Some c
zero_head c [] = refl
zero_head c (b ∷ bs) = refl

head_is : (cs : List ℕ) (c : ℕ) → slice_get cs 0 ≡ Some c → (ds : List ℕ) × (cs ≡ c ∷ ds)
head_is [] c h = none_some h
head_is (d ∷ ds) c h = let e : d ≡ c = cc in (ds, ap (λ x. x ∷ ds) e)

module _ (text more : List ℕ) where
  abbrev all : List ℕ
  all = text ++ more

  head_kept : (n c : ℕ) (bs : List ℕ) (x : ℕ) → slice_get (chars_after n c bs) 0 ≡ Some x → slice_get (chars_after n c (bs ++ more)) 0 ≡ Some x
  head_kept zero c bs x h = zero_head c (bs ++ more) ∙ (sym (zero_head c bs) ∙ h)
  head_kept (suc n) c [] x h = none_some h
  head_kept (suc n) c (b ∷ bs) x h = head_kept n (c * 64 + (b - 128)) bs x h

  chars_head : (bs : List ℕ) (x : ℕ) → slice_get (chars bs) 0 ≡ Some x → slice_get (chars (bs ++ more)) 0 ≡ Some x
  unfolding chars
  chars_head [] x h = none_some h
  chars_head (b ∷ bs) x h = head_kept (continuation_len b) (lead_bits b) bs x h

  stands : Stands all 0 all
  stands = record { rest = refl; within = omega arith }

  -- the characters of the text stand there
  char_kept : (i c : ℕ) → char_at text i ≡ Some c → char_at all i ≡ Some c
  char_kept i c h =
      let cut : cuts text i ≡ true = after_cut text i c h in
      let within : i < length text = char_within text i c h in
      let zero_on : 0 + i ≡ i = omega arith in
      let also_cut : cuts all i ≡ true = subst (λ j. cuts all j ≡ true) zero_on (cuts_inside all 0 i text more stands within ∙ cut) in
      let left : drop i all ≡ drop i text ++ more = drop-append-le i text more (omega arith) in
      ap (λ cs. slice_get cs 0) (after_is all i also_cut ∙ ap chars left)
      ∙ chars_head (drop i text) c (ap (λ cs. slice_get cs 0) (sym (after_is text i cut)) ∙ h)

  passing_kept : (p : ℕ → Bool) (i j : ℕ) → passing p text i ≡ Some j → passing p all i ≡ Some j
  passing_kept p i j h = go (char_at text i) refl
    where
      go : (o : Option ℕ) → char_at text i ≡ o → passing p all i ≡ Some j
      go None e = none_some (sym (ap (passes p i) e) ∙ h)
      go (Some c) e = ap (passes p i) (char_kept i c e) ∙ (sym (ap (passes p i) e) ∙ h)

  many_kept : (p : ℕ → Bool) (i k : ℕ) → many (passing p) text i ≡ Some k → many (passing p) all i ≡ many (passing p) all k
  many_kept p i k h =
      many_along text (passing p) (λ j. many (passing p) all i ≡ many (passing p) all j)
      (λ a b q e. q ∙ many_some all (passing p) (moves_passing all p) a b (passing_kept p a b e)) i k refl h

  module _ (are : list_all is_ascii_digit more ≡ true) where
    -- behind the text the digits go on with it
    digits_taken : many (passing is_valid_continue) all (length text) ≡ Some (length all)
    unfolding chars
    digits_taken =
        let itself : encodes more ≡ more = encodes-IsAscii more (digits_ascii more are) in
        let behind : Stands all (0 + length text) more = past all text stands in
        let zero_on : 0 + length text ≡ length text = omega arith in
        let here : Stands all (length text) (encodes more ++ []) = subst (λ j. Stands all j (encodes more ++ [])) zero_on (subst (λ l. Stands all (0 + length text) l) (sym (append-nil (encodes more) ∙ itself)) behind) in
        let width : length text + wide more ≡ length all = (let a = length-encodes more in let b = ap length itself in let c = stands.within in let d = behind.within in omega arith) in
        many_again all is_valid_continue more [] (length text) (digits_scalars more are) (all_more is_ascii_digit is_valid_continue digit_continues more are) here refl refl
        ∙ ap Some width

    key_taken : key_end text 0 ≡ Some (length text) → key_end all 0 ≡ Some (length all)
    unfolding key_end identifier_parts
    key_taken h =
        let k = between text (many (passing is_valid_continue)) (passing is_valid_start text 0) (length text) h in
        then_some all (passing is_valid_start) (many (passing is_valid_continue)) 0 k.0 (passing_kept is_valid_start 0 k.0 k.1)
        ∙ many_kept is_valid_continue k.0 (length text) k.2 ∙ digits_taken

-- ---- a key that is a whole text

-- what a key begins with
start_of : (text : List ℕ) (j : ℕ) → key_end text 0 ≡ Some j → (c : ℕ) × (char_at text 0 ≡ Some c) × (is_valid_start c ≡ true)
unfolding key_end
start_of text j h = go (char_at text 0) refl (between text identifier_parts (passing is_valid_start text 0) j h).1
  where
    go : (o : Option ℕ) → char_at text 0 ≡ o → {k : ℕ} → passes is_valid_start 0 o ≡ Some k → (c : ℕ) × (char_at text 0 ≡ Some c) × (is_valid_start c ≡ true)
    go None e {k} g = none_some g
    go (Some c) e {k} g = by (is_valid_start c) refl g
      where
        by : (t : Bool) → is_valid_start c ≡ t → cond t (Some (0 + len_utf8 c)) None ≡ Some k → (d : ℕ) × (char_at text 0 ≡ Some d) × (is_valid_start d ≡ true)
        by true s m = (c, e, s)
        by false s m = none_some m

-- a whole token stands at the front of the text, where nothing is skipped
record Whole (text : List ℕ) : Type 0 where
  nothing : (skipped text 0).to ≡ 0
  taken : key_end text 0 ≡ Some (length text)

whole_key : (text : List ℕ) → is_whole text (key text 0) ≡ true → Whole text
unfolding key
whole_key text h = by_end (skipped text 0).closed h
  where
    by_token : (o : Option ℕ) → key_end text (skipped text 0).to ≡ o → is_whole text (found (skipped text 0) o) ≡ true → Whole text
    by_token None e g = absurd (false≢true g)
    by_token (Some n) e g =
        let a = and_parts (nat_eq (skipped text 0).to 0) (nat_eq n (length text)) g in
        let start : (skipped text 0).to ≡ 0 = eqb-true (skipped text 0).to 0 a.0 in
        let next : n ≡ length text = eqb-true n (length text) a.1 in
        record { nothing = start; taken = ap (key_end text) (sym start) ∙ (e ∙ ap Some next) }

    by_end : (closed : Bool) → is_whole text (found (skipped text 0) (cond closed (key_end text (skipped text 0).to) None)) ≡ true → Whole text
    by_end true g = by_token (key_end text (skipped text 0).to) refl g
    by_end false g = absurd (false≢true g)

-- no blank begins where nothing is skipped
none_blank : (text : List ℕ) → (skipped text 0).to ≡ 0 → blank text 0 ≡ None
unfolding skipped blanks
none_blank text h =
    let m = many_stands text blank 0 in
    let at : m.0 ≡ 0 = (let e = m.1 in rw e at h) in
    many_ends text blank (moves_blank text) 0 0 (m.1 ∙ ap Some at)

no_blank_char : (text : List ℕ) (c : ℕ) → char_at text 0 ≡ Some c → blank text 0 ≡ None → is_blank c ≡ false
unfolding blank
no_blank_char text c e h = by (is_white_space c) (is_line_terminator c) refl refl h
  where
    by : (a b : Bool) → is_white_space c ≡ a → is_line_terminator c ≡ b → (passing is_white_space // passing is_line_terminator // comment) text 0 ≡ None → (a || b) ≡ false
    by true b f g k = none_some {j = 0 + len_utf8 c} (sym k ∙ simp (e, f))
    by false true f g k = none_some {j = 0 + len_utf8 c} (sym k ∙ simp (e, f, g))
    by false false f g k = refl

no_slash : is_valid_start 47 ≡ false
no_slash = let e = is_xid_start-ascii 47 (omega arith) in rw e refl

-- a key at the front of a text is its token
key_whole : (text : List ℕ) (c : ℕ) → char_at text 0 ≡ Some c → is_valid_start c ≡ true → is_blank c ≡ false → key_end text 0 ≡ Some (length text) → is_whole text (key text 0) ≡ true
unfolding key
key_whole text c e s b h =
    let here = head_is (after text 0) c e in
    let no : nat_eq c 47 ≡ false = apart is_valid_start c 47 no_slash s in
    let none : blank text 0 ≡ None = other_char text 0 c here.0 here.1 (λ is. (let is_same = is in grind arith)) b in
    let skips = skipped_by text 0 0 (blanks_end text 0 none) (code_point_fails text 47 c 0 here.0 here.1 no) in
    let whole : nat_eq (length text) (length text) ≡ true = grind arith in
    rw (skips, h, whole) refl

pub numbered_spelled : (text more : List ℕ) → list_all is_ascii_digit more ≡ true → is_readable (text ++ more) ≡ true → is_spelled_text text ≡ true → is_spelled_text (text ++ more) ≡ true
numbered_spelled text more are short h =
    let w = whole_key text (and_parts (is_readable text) (is_whole text (key text 0)) h).1 in
    let s = start_of text (length text) w.taken in
    let b = no_blank_char text s.0 s.1 (none_blank text w.nothing) in
    and_from (is_readable (text ++ more)) (is_whole (text ++ more) (key (text ++ more) 0)) short
    (key_whole (text ++ more) s.0 (char_kept text more 0 s.0 s.1) s.2 b (key_taken text more are w.taken))
