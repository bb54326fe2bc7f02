-- A numeral that begins with a point begins no `.target`: behind its point a digit stands.
use Rattle.std.proofs.Common.{◌≡◌, ℕ, ◌+◌, ◌<◌, List, [], ◌∷◌, ◌++◌, length, codes, refl, ap, ◌∙◌, subst, arith, Bool, true, false, cond, Some, None}
use Rattle.std.specs.Char.{is_digit}
use Rattle.std.specs.Str.{chars}
use Rattle.std.proofs.lemmas.Bool.{false≢true, eqb-true}
use Rattle.std.proofs.lemmas.Bool.Decides.{nat_tests}
use Rattle.unicode_ident.specs.Ident.{is_xid_start}
use Rattle.ucd_table.specs.Rows.{in_ranges}
use Rattle.ucd_derived.specs.XidStartRanges.{xid_start_ranges}
use Rattle.ecma_number.specs.Numeral.{IsNumericLiteral, begins}
use Rattle.ecma_lex.specs.Keys.{is_valid_start, word_end}
use Rattle.ecma_lex.specs.Punctuators.{is_longest, punct_end}
use Rattle.ecma_lex.specs.Tokens as lex
use Rattle.ecma_lex.specs.Blanks.{skipped}
use Rattle.ecma_lex.specs.declared.tokens.Token.{Token}
use Rattle.ecma_lex.proofs.Suffixes.{Cut, cut_ascii, chars_ascii, Stands, past}
use Rattle.ecma_lex.proofs.Spelled.{word_none}
use Rattle.ecma_tree.specs.declared.node.Node.{Node}
use Rattle.ecma_grammar.specs.Grammar.{the_word, the_punct}
use Rattle.ecma_grammar.specs.Reading as reading
use Rattle.ecma_grammar.specs.Reading.{Position, Outcome}
use Rattle.ecma_grammar.specs.Reads as reads
use Rattle.ecma_print_tokens.specs.Items.{number, no_gap, it, render}
use Rattle.ecma_print_tokens.specs.Taking.{begins_by, unsure_if}
use Rattle.ecma_print_tokens.specs.Good.{Good}
use Rattle.ecma_print_tokens.specs.Lexing.{Fails, Agrees}
use Rattle.ecma_print_tokens.proofs.Fronts.{one_of, digits, digit_one, front_no, front_clear}
use Rattle.ecma_print_tokens.proofs.Numerals.{num_literal_of, point_digit}
use Rattle.ecma_print_tokens.proofs.Gaps.{clear, behind_gap, skipped_gap}
use Rattle.ecma_print_tokens.proofs.Found.{Here, none_there, absent_there}
use Rattle.ecma_print_tokens.proofs.Leaves.{lexes}
use Rattle.ecma_print_tokens.proofs.Terminals.{here}
use Rattle.ecma_print_layouts.proofs.Joins.{no_gap_is}
use Rattle.ecma_print_reread.proofs.Simulation.{NoTarget}

digit_small : (c : ℕ) → is_digit c 10 ≡ true → c < 128
digit_small c h = grind (arith, nat_tests)

pointed : (w : List ℕ) → begins_by 46 w ≡ true → (u : List ℕ) × (w ≡ 46 ∷ u)
pointed [] h = absurd (false≢true h)
pointed (c ∷ u) h = (u, ap (λ x. x ∷ u) (eqb-true c 46 h))

module _ (text : List ℕ) where
  -- where a digit stands no word does
  word_fails : (s : Position) (u v : List ℕ) → begins (λ c. is_digit c 10) u ≡ true → Stands text s.place (u ++ v) → Fails (reads.taken text (the_word (codes "target")) s)
  unfolding is_xid_start xid_start_ranges in_ranges lex.word
  word_fails s [] v h st = absurd (false≢true h)
  word_fails s (c ∷ u) v h st =
      let small = digit_small c h in
      let cut : Cut (c ∷ u ++ v) = cut_ascii c (u ++ v) small in
      let e : chars (c ∷ u ++ v) ≡ c ∷ chars (u ++ v) = chars_ascii c (u ++ v) small in
      let front : begins (one_of digits) (chars (c ∷ u ++ v)) ≡ true = rw e (digit_one c h) in
      let place : s.place + 0 ≡ s.place = omega arith in
      let there : Here text no_gap [] (c ∷ u ++ v) s = record {
        skips = skipped_gap text no_gap (c ∷ u ++ v) s.place no_gap_is (clear cut (front_clear (one_of digits) refl (chars (c ∷ u ++ v)) front)) st;
        stands = rw place st;
        utf8 = ([], (refl, refl));
        cut = cut;
      } in
      let f = absent_there text there (word_end (codes "target")) is_valid_start (λ t. word_none t (codes "target")) (front_no is_valid_start digits refl (chars (c ∷ u ++ v)) front) in
      record { failed = f.failed; is = ap (reading.then_on (λ k. reading.pure [])) f.is }

  pub no_target : NoTarget text Good
  unfolding lex.punct punct_end
  no_target g w us s at = go (begins_by 46 w) refl
    where
      i : ℕ
      i = s.place + length g.blanks

      after_point : Outcome Token → Outcome (List Node)
      after_point o = reading.followed_on (reads.taken text (the_word (codes "target"))) (reading.then_on (λ k. reading.pure []) o)

      point_there : {b : Bool} → Stands text i (w ++ render us) → is_longest (codes ".") (w ++ render us) ≡ b → punct_end (codes ".") text i ≡ cond b (Some (i + 1)) None
      point_there st k = let r = st.rest in rw (r, k) refl

      taken_there : skipped text s.place ≡ behind_gap text g s.place → punct_end (codes ".") text i ≡ Some (i + 1)
          → reads.token text (the_punct (codes ".")) s ≡ reading.read (record { start = i; next = i + 1; new_line = g.new_line }) (record { place = i + 1; failed = s.failed })
      taken_there h e = rw (h, e) refl

      -- whether the point is taken
      behind : (u : List ℕ) → w ≡ 46 ∷ u → (b : Bool) → is_longest (codes ".") (w ++ render us) ≡ b → Fails (reading.followed_on (reads.taken text (the_word (codes "target"))) (reads.taken text (the_punct (codes ".")) s))
      behind u e true k =
          let good = at.good in
          let h = here text g (number w) us s at in
          let literal = num_literal_of w good.1.utf8 good.1.whole in
          let st : Stands text i (codes "." ++ (u ++ render us)) = subst (λ z. Stands text i (z ++ render us)) e h.stands in
          let next : Position = record { place = i + 1; failed = s.failed } in
          let f = word_fails next u (render us) (point_digit u (subst IsNumericLiteral e literal)) (past text (codes ".") st) in
          record { failed = f.failed; is = ap after_point (taken_there h.skips (point_there h.stands k)) ∙ ap (reading.with_front []) f.is }
      behind u e false k =
          let h = here text g (number w) us s at in
          let f = none_there text h (punct_end (codes ".")) (point_there h.stands k) in
          record { failed = f.failed; is = ap after_point f.is }

      go : (b : Bool) → begins_by 46 w ≡ b → Fails (reading.followed_on (reads.taken text (the_word (codes "target"))) (reads.taken text (the_punct (codes ".")) s))
      go true e = let p = pointed w e in behind p.0 p.1 (is_longest (codes ".") (w ++ render us)) refl
      go false e =
          let l = lexes text in
          let a : Agrees text Good (unsure_if (begins_by 46 w)) (reads.token text (the_punct (codes ".")) s) (λ x k. Unit {0}) = l.tokens (the_punct (codes ".")) (it g (number w) us) s at in
          let f : Fails (reads.token text (the_punct (codes ".")) s) = rw e at a in
          record { failed = f.failed; is = ap after_point f.is }
