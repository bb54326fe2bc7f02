-- What stands ahead of a place lies behind it.
use Rattle.std.proofs.Common.{◌≡◌, ℕ, ◌≤◌, List, Bool, true, false, cond, Option, Some, None, refl, sym, ◌∙◌, ap, subst}
use Rattle.std.specs.Str.{IsUtf8}
use Rattle.ecma_lex.specs.Text.{IsPiece}
use Rattle.ecma_lex.specs.Blanks.{skipped}
use Rattle.ecma_lex.specs.Keys.{key_end}
use Rattle.ecma_lex.specs.Looking.{look, if_closed}
use Rattle.std.specs.Prelude.{IfOk, Result}
use Rattle.ecma_lex.specs.Tokens.{Stands, found}
use Rattle.ecma_lex.specs.declared.tokens.Token.{Token}
use Rattle.ecma_lex.specs.declared.tokens.NoToken.{NoToken}
use Rattle.ecma_lex.specs.declared.looking.Upcoming.{Upcoming}
use Rattle.ecma_lex.proofs.Comments.{skipped_ahead}
use Rattle.ecma_lex.proofs.Repeats.{none_some}
use Rattle.ecma_lex.proofs.Spelled.{key_piece}

pub look_ahead : (text : List ℕ) (u : Upcoming) → u ≡ look text u.place → u.place ≤ u.before.to
unfolding look
look_ahead text u h = let e : u.before ≡ skipped text u.place = ap (λ v. v.before) h in subst (λ b. u.place ≤ b.to) (sym e) (skipped_ahead text u.place)

pub key_ahead : (text : List ℕ) (u : Upcoming) (next : ℕ) → IsUtf8 text → u ≡ look text u.place → u.key ≡ Some next → IsPiece text u.before.to next
unfolding look
key_ahead text u next utf8 h k =
    let e : u.before ≡ skipped text u.place = ap (λ v. v.before) h in
    let f : u.key ≡ if_closed (skipped text u.place) (key_end text (skipped text u.place).to) = ap (λ v. v.key) h in
    subst (λ b. IsPiece text b.to next) (sym e) (key_piece text (skipped text u.place).to next utf8 (closed_some (skipped text u.place).closed _ (sym f ∙ k)))
  where
    closed_some : (b : Bool) (o : Option ℕ) → cond b o None ≡ Some next → o ≡ Some next
    closed_some true o e = e
    closed_some false o e = none_some e

pub key_stands : (text : List ℕ) (u : Upcoming) (r : Result Token NoToken) → IsUtf8 text → u ≡ look text u.place → r ≡ found u.before u.key → IfOk r (Stands text u.place)
key_stands text u r utf8 h e = subst (λ x. IfOk x (Stands text u.place)) (sym e) (go u.key refl)
  where
    go : (o : Option ℕ) → u.key ≡ o → IfOk (found u.before o) (Stands text u.place)
    go None f = tt
    go (Some next) f = (look_ahead text u h, key_ahead text u next utf8 h f)
