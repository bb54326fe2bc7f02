-- Joins compute where the kinds of tokens and the texts of signs are known: samples of the layout, and what may not stand so.
use Rattle.std.proofs.Common.{◌≡◌, ℕ, List, [], ◌∷◌, refl, Bool, true, false, not, codes}
use Rattle.std.specs.List.{list_all}
use Rattle.ecma_lex.specs.Keys.{key_end}
use Rattle.ecma_lex.specs.Punctuators.{punctuators}
use Rattle.ecma_print_tokens.specs.Items.{Tok, key, private_name, sign, string, number, big_int, regex, template, no_gap, Items, ends, it}
use Rattle.ecma_print_tokens.specs.Good.{IsGap, IsToken, Good}
use Rattle.ecma_print_tokens.specs.Joins.{joins, Joined}
use Rattle.ecma_print_tokens.proofs.Joining.{joined_good}

abbrev s : List ℕ → Tok
s w = sign w

abbrev by : Tok → Tok → Bool
by t u = joins t no_gap u

abbrev all : List Bool → Bool
all = list_all (λ b. b)

names : (w v : List ℕ) → all (by (key w) (s (codes "(")) ∷ by (key w) (s (codes ".")) ∷ by (key w) (s (codes ",")) ∷ by (key w) (s (codes ";")) ∷ by (key w) (s (codes "]")) ∷ by (key w) (s (codes ":")) ∷ by (key w) (s (codes "?.")) ∷ by (key w) (s (codes "++")) ∷ by (key w) (template true false v) ∷ by (key w) (template false true v) ∷ by (s (codes ".")) (key w) ∷ by (s (codes "?.")) (key w) ∷ by (s (codes "...")) (key w) ∷ by (s (codes "!")) (key w) ∷ by (s (codes "-")) (key w) ∷ by (s (codes "++")) (key w) ∷ by (s (codes ".")) (private_name w) ∷ by (s (codes "?.")) (private_name w) ∷ by (s (codes "*")) (private_name w) ∷ by (private_name w) (s (codes "(")) ∷ by (template true false v) (key w) ∷ []) ≡ true
unfolding punctuators
names w v = refl

signs : (w : List ℕ) → all (by (s (codes "(")) (s (codes ")")) ∷ by (s (codes ")")) (s (codes "(")) ∷ by (s (codes ")")) (s (codes ".")) ∷ by (s (codes "{")) (s (codes "}")) ∷ by (s (codes "}")) (s (codes ".")) ∷ by (s (codes "?.")) (s (codes "[")) ∷ by (s (codes "?.")) (s (codes "(")) ∷ by (s (codes "...")) (s (codes "[")) ∷ by (s (codes "!")) (s (codes "!")) ∷ by (s (codes "-")) (s (codes "+")) ∷ by (s (codes "-")) (s (codes "(")) ∷ by (s (codes "++")) (s (codes ")")) ∷ by (s (codes "*")) (s (codes "[")) ∷ by (s (codes "*")) (s (codes "(")) ∷ by (s (codes ";")) (s (codes ";")) ∷ by (s (codes ")")) (template false true w) ∷ by (s (codes "++")) (template false true w) ∷ []) ≡ true
unfolding punctuators
signs w = refl

literals : (w : List ℕ) → all (by (number w) (s (codes ",")) ∷ by (number w) (s (codes ")")) ∷ by (number w) (s (codes "?.")) ∷ by (number w) (s (codes "[")) ∷ by (number w) (s (codes ":")) ∷ by (number w) (template false true w) ∷ by (s (codes "-")) (number w) ∷ by (s (codes "...")) (number w) ∷ by (s (codes "[")) (number w) ∷ by (big_int w) (s (codes ".")) ∷ by (string w) (s (codes ".")) ∷ by (s (codes ".")) (string w) ∷ by (regex w) (s (codes ".")) ∷ by (s (codes "(")) (regex w) ∷ by (s (codes "!")) (regex w) ∷ by (template true false w) (regex w) ∷ []) ≡ true
unfolding punctuators
literals w = refl

apart : (w v : List ℕ) → all (not (by (key w) (key v)) ∷ not (by (key w) (number v)) ∷ not (by (number w) (s (codes "."))) ∷ not (by (number w) (s (codes "..."))) ∷ not (by (s (codes ".")) (number w)) ∷ not (by (s (codes "?.")) (number w)) ∷ not (by (s (codes "-")) (s (codes "-"))) ∷ not (by (s (codes "-")) (s (codes "--"))) ∷ not (by (s (codes "!")) (s (codes "="))) ∷ not (by (s (codes "/")) (regex w)) ∷ not (by (s (codes "/")) (s (codes "/"))) ∷ not (by (s (codes "/")) (s (codes "*"))) ∷ not (by (s (codes "?")) (s (codes "."))) ∷ not (by (s (codes ".")) (s (codes "."))) ∷ []) ≡ true
unfolding punctuators
apart w v = refl

-- `a.b(c);`, whatever the names
abbrev call : (a b c : List ℕ) → Items
call a b c = it no_gap (key a) (it no_gap (s (codes ".")) (it no_gap (key b) (it no_gap (s (codes "(")) (it no_gap (key c) (it no_gap (s (codes ")")) (it no_gap (s (codes ";")) (ends no_gap)))))))

call_good : (a b c : List ℕ) → IsToken key_end a → IsToken key_end b → IsToken key_end c → Good (call a b c)
unfolding punctuators
call_good a b c x y z =
    let g : IsGap no_gap = record { blank = refl; told = refl } in
    let joined : Joined (call a b c) = (g, x, refl, (g, refl, refl, (g, y, refl, (g, refl, refl, (g, z, refl, (g, refl, refl, (g, refl, refl, g))))))) in
    joined_good (call a b c) joined
