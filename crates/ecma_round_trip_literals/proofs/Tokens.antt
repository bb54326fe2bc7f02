-- A text that is a token by itself is one by its terminal.
use Rattle.std.proofs.Common.{◌≡◌, ◌∙◌, ℕ, true, false, cond, List, [], ◌++◌, length, nat_eq, Option, Some, None, refl, ap}
use Rattle.std.proofs.lemmas.Bool.Decides.{Decides-eqb}
use Rattle.ecma_lex.specs.declared.blanks.Skipped.{Skipped}
use Rattle.ecma_lex.specs.Blanks.{skipped}
use Rattle.ecma_lex.specs.Tokens.{found, term}
use Rattle.ecma_lex.proofs.Spelled.{alone}
use Rattle.ecma_print_tokens.specs.Good.{Stops, Whole}
use Rattle.ecma_print_tokens.specs.Items.{Tok, no_gap, token_text}
use Rattle.ecma_print_tokens.proofs.Gaps.{skipped_gap}
use Rattle.ecma_print_tokens.proofs.Wholes.{quiet}
use Rattle.ecma_leaves.specs.Words.{is_whole}

same_number : (n : ℕ) → nat_eq n n ≡ true
same_number n = (Decides-eqb n n).1 refl

nothing_skipped : (t : Tok) → Whole t → Stops t [] → skipped (token_text t) 0 ≡ record { to = 0; new_line = false; closed = true }
nothing_skipped t whole stops = skipped_gap (token_text t) no_gap (token_text t ++ []) 0 (record { blank = refl; told = refl }) (quiet t [] whole stops refl) (alone (token_text t))

-- before it nothing is skipped
pub by_itself : (t : Tok) (find : List ℕ → ℕ → Option ℕ) → Whole t → Stops t [] → find (token_text t) 0 ≡ Some (length (token_text t)) → is_whole (token_text t) (term find (token_text t) 0) ≡ true
by_itself t find whole stops all =
    let w = token_text t in
    ap (λ (before : Skipped). is_whole w (found before (cond before.closed (find w before.to) None))) (nothing_skipped t whole stops)
    ∙ ap (λ o. is_whole w (found (record { to = 0; new_line = false; closed = true }) o)) all ∙ same_number (length w)
