-- What a terminal says of a token that stands at its place, or of what is none.
use Rattle.std.proofs.Common.{◌≡◌, ℕ, ◌+◌, ◌-◌, ◌≤◌, List, [], ◌++◌, length, drop, take, max, refl, ap, sym, ◌∙◌, arith, Some, None, Bool, true, false, cond, ◌&&◌, nat_le, inl, inr, length-drop}
use Rattle.std.proofs.lemmas.Bool.{cases_lt}
use Rattle.std.proofs.lemmas.List.{drop-drop, take-append-le, drop-append-le}
use Rattle.std.specs.Str.{IsUtf8, chars}
use Rattle.ecma_lex.specs.Text.{after, cuts, piece}
use Rattle.ecma_lex.specs.Parts.{Part}
use Rattle.ecma_lex.specs.Blanks.{skipped}
use Rattle.ecma_lex.specs.Tokens.{term}
use Rattle.ecma_lex.specs.declared.tokens.Token.{Token}
use Rattle.ecma_lex.proofs.Suffixes.{Cut, cut_utf8, Stands, past, cut_here, cuts_inside, after_here}
use Rattle.ecma_lex.proofs.Spelled.{stops, piece_all}
use Rattle.ecma_grammar.specs.Reading.{Position, Outcome, terminal_on}
use Rattle.ecma_print_tokens.specs.Items.{Gap, Items, render}
use Rattle.ecma_print_tokens.specs.Taking.{took_if, unsure_if}
use Rattle.ecma_print_tokens.specs.Good.{Good}
use Rattle.ecma_print_tokens.specs.Lexing.{Fails, Goes, Agrees}
use Rattle.ecma_print_tokens.proofs.Gaps.{behind_gap}
use Rattle.ecma_print_tokens.proofs.Absent.{Begins}

module _ (text : List ℕ) where
  -- a token has the text w
  pub record Reads (w : List ℕ) (t : Token) : Type 0 where
    pub behind : List ℕ
    pub stands : Stands text t.start (w ++ behind)
    pub ends : t.next ≡ t.start + length w
    pub utf8 : IsUtf8 w
    pub cut : Cut behind

  -- behind a gap w stands in front of v
  pub record Here (g : Gap) (w v : List ℕ) (s : Position) : Type 0 where
    pub skips : skipped text s.place ≡ behind_gap text g s.place
    pub stands : Stands text (s.place + length g.blanks) (w ++ v)
    pub utf8 : IsUtf8 w
    pub cut : Cut v

  abbrev pub terminal : Part → Position → Outcome Token
  terminal find s = terminal_on s (term find text s.place)

  module _ {g : Gap} {w v : List ℕ} {s : Position} (h : Here g w v s) where
    pub starts_here : after text (s.place + length g.blanks) ≡ chars (w ++ v)
    starts_here = after_here text (s.place + length g.blanks) (w ++ v) h.stands (cut_utf8 w v h.utf8 h.cut)

    pub none_there : (find : Part) → find text (s.place + length g.blanks) ≡ None → Fails (terminal find s)
    none_there find e = let k = h.skips in record { failed = max s.failed (s.place + length g.blanks); is = rw (k, e) refl }

    pub absent_there : (find : Part) (p : ℕ → Bool) → Begins find p → stops p (chars (w ++ v)) ≡ true → Fails (terminal find s)
    absent_there find p f e = none_there find (f text (s.place + length g.blanks) (rw starts_here e))

  module _ {g : Gap} {w : List ℕ} {s : Position} (us : Items) (h : Here g w (render us) s) (good : Good us) where
    -- and Q holds of the token
    pub token_with : (Q : Token → Type 0) (find : Part) → find text (s.place + length g.blanks) ≡ Some (s.place + length g.blanks + length w) → Q (record { start = s.place + length g.blanks; next = s.place + length g.blanks + length w; new_line = g.new_line })
        → Goes text Good (terminal find s) (λ t. Reads w t × Q t) us
    token_with Q find e q =
        let k = h.skips in
        let at = s.place + length g.blanks in
        record {
          value = record { start = at; next = at + length w; new_line = g.new_line };
          state = record { place = at + length w; failed = s.failed };
          is = rw (k, e) refl;
          holds = (record { behind = render us; stands = h.stands; ends = refl; utf8 = h.utf8; cut = h.cut }, q);
          at = record { good = good; stands = past text w h.stands };
        }

    pub token_there : (find : Part) → find text (s.place + length g.blanks) ≡ Some (s.place + length g.blanks + length w) → Goes text Good (terminal find s) (Reads w) us
    token_there find e = let r = token_with (λ t. Unit {0}) find e tt in record { value = r.value; state = r.state; is = r.is; holds = r.holds.0; at = r.at }

    pub takes : (find : Part) (b : Bool) → find text (s.place + length g.blanks) ≡ cond b (Some (s.place + length g.blanks + length w)) None → Agrees text Good (took_if b w us) (terminal find s) Reads
    takes find true e = token_there find e
    takes find false e = none_there h find e

    pub doubts : (Q : List ℕ → Token → Type 0) (find : Part) (b : Bool) → (b ≡ false → find text (s.place + length g.blanks) ≡ None) → Agrees text Good (unsure_if b) (terminal find s) Q
    doubts Q find true f = tt
    doubts Q find false f = none_there h find (f refl)

  -- pieces of a token

  cuts_up_to : (i k : ℕ) (w v : List ℕ) → Stands text i (w ++ v) → Cut v → k ≤ length w → cuts text (i + k) ≡ cuts w k
  cuts_up_to i k w v st c h = go (nat_le (length w) k) refl
    where
      go : (b : Bool) → nat_le (length w) k ≡ b → cuts text (i + k) ≡ cuts w k
      go true e =
          let same : k ≡ length w = grind arith in
          let whole : cuts w (length w) ≡ true = grind arith in
          rw (same, whole) (cut_here text (i + length w) v (past text w st) c)
      go false e = cuts_inside text i k w v st (grind arith)

  short_piece : (l : List ℕ) (a b : ℕ) → b ≤ a → piece l a b ≡ []
  short_piece l a b h = let n : b - a ≡ 0 = omega arith in rw n (go (nat_le a b && (cuts l a && cuts l b)))
    where
      go : (t : Bool) → cond t (take 0 (drop a l)) [] ≡ []
      go true = refl
      go false = refl

  piece_within : {w : List ℕ} {t : Token} → Reads w t → (a b : ℕ) → a ≤ b → b ≤ length w → piece text (t.start + a) (t.start + b) ≡ piece w a b
  piece_within {w} {t} r a b h k =
      let i = t.start in
      let m : (i + b) - (i + a) ≡ b - a = omega arith in
      let e : nat_le (i + a) (i + b) ≡ nat_le a b = grind arith in
      let d : drop (i + a) text ≡ drop a w ++ r.behind = sym (drop-drop a i text) ∙ ap (drop a) r.stands.rest ∙ drop-append-le a w r.behind (omega arith) in
      let l : take (b - a) (drop (i + a) text) ≡ take (b - a) (drop a w) = ap (take (b - a)) d ∙ take-append-le (b - a) (drop a w) r.behind (omega (arith, length-drop a w)) in
      rw (e, cuts_up_to i a w r.behind r.stands r.cut (omega arith), cuts_up_to i b w r.behind r.stands r.cut k, m) (ap (λ l. cond (nat_le a b && (cuts w a && cuts w b)) l []) l)

  pub piece_of : {w : List ℕ} {t : Token} → Reads w t → (a b : ℕ) → b ≤ length w → piece text (t.start + a) (t.start + b) ≡ piece w a b
  piece_of {w} {t} r a b k = elim (cases_lt b a) [
    | inl less ↦ short_piece text (t.start + a) (t.start + b) (omega arith) ∙ sym (short_piece w a b (omega arith))
    | inr more ↦ piece_within r a b more k
  ]

  -- up to so many bytes before its end
  pub piece_before : {w : List ℕ} {t : Token} → Reads w t → (a e : ℕ) → piece text (t.start + a) (t.next - e) ≡ piece w a (length w - e)
  piece_before {w} {t} r a e =
      let ends = r.ends in
      elim (cases_lt (length w) e) [
        | inl less ↦ short_piece text (t.start + a) (t.next - e) (omega arith) ∙ sym (short_piece w a (length w - e) (omega arith))
        | inr more ↦ let n : t.next - e ≡ t.start + (length w - e) = omega arith in rw n (piece_of r a (length w - e) (omega arith))
      ]

  pub piece_whole : {w : List ℕ} {t : Token} → Reads w t → piece text t.start t.next ≡ w
  piece_whole {w} {t} r =
      let ends = r.ends in
      let z : t.start + 0 ≡ t.start = omega arith in
      let n : t.next - 0 ≡ t.next = omega arith in
      let l : length w - 0 ≡ length w = omega arith in
      let p = piece_before r 0 0 in
      rw (z, n, l) at p ∙ piece_all w r.utf8
