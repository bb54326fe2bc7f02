-- With levels enough, more levels change nothing: so what a part means is what its production reads where parts read as they mean.
use Rattle.std.proofs.Common.{◌≡◌, ℕ, zero, suc, ◌+◌, ◌*◌, ◌<◌, ◌≤◌, Bool, true, nat_le, refl, ap, sym, ◌∙◌, arith, if◌then◌else◌}
use Rattle.std.proofs.lemmas.Bool.{and_parts}
use Rattle.ecma_grammar.specs.declared.production.Part.{Part}
use Rattle.ecma_grammar.specs.Grammar as grammar
use Rattle.ecma_grammar.specs.Grammar.{Grammar}
use Rattle.ecma_print_tokens.specs.Items.{Items}
use Rattle.ecma_print_tokens.specs.Taking as taking
use Rattle.ecma_print_tokens.specs.Taking.{Took, took, refused, token_in}
use Rattle.ecma_print_readings.proofs.Machine.{Out, read, fails, unsure, Turn, behind_on, with_front, followed_on, or_on, many_on, many_up_to, ahead_on, unless_on, built_on, body_at, interp, levels, means}
use Rattle.ecma_shapes.proofs.Signs.{count}
use Rattle.ecma_print_readings.proofs.Takes.{Shorter, token_eats, token_taken}
use Rattle.ecma_print_readings.proofs.Moves.{eats, Leaves, Moves, leaves}
use Rattle.ecma_print_readings.proofs.Ranks.{rank, leads, rank_small, ranked_at}

followed_same : (f f' : Turn) (k : ℕ) (ts : Items) (o : Out) → Leaves k ts o → ((us : Items) → count us + k ≤ count ts → f us ≡ f' us) → followed_on f o ≡ followed_on f' o
followed_same f f' k ts (read xs us) h same = ap (with_front xs) (same us (h xs us refl))
followed_same f f' k ts fails h same = refl
followed_same f f' k ts unsure h same = refl

behind_same : (f f' : Turn) (k : ℕ) (ts : Items) (o : Took) → Shorter k ts o → ((us : Items) → count us + k ≤ count ts → f us ≡ f' us) → behind_on f o ≡ behind_on f' o
behind_same f f' k ts (took w us) h same = same us (h w us refl)
behind_same f f' k ts refused h same = refl
behind_same f f' k ts taking.unsure h same = refl

or_same : (f f' : Turn) (ts : Items) (o : Out) → f ts ≡ f' ts → or_on f ts o ≡ or_on f' ts o
or_same f f' ts (read xs us) same = refl
or_same f f' ts fails same = same
or_same f f' ts unsure same = refl

many_same : (f f' : Turn) (c : ℕ) → ((ts : Items) → Leaves 1 ts (f ts)) → ((ts : Items) → count ts ≤ c → f ts ≡ f' ts) → (n : ℕ) (ts : Items) → count ts ≤ c → many_up_to f n ts ≡ many_up_to f' n ts
unfolding many_up_to
many_same f f' c h same zero ts l = refl
many_same f f' c h same (suc n) ts l = go (f ts) (h ts) (many_same f f' c h same n) ∙ ap (many_on (many_up_to f' n) ts) (same ts l)
  where
    go : (o : Out) → Leaves 1 ts o → ((us : Items) → count us ≤ c → many_up_to f n us ≡ many_up_to f' n us) → many_on (many_up_to f n) ts o ≡ many_on (many_up_to f' n) ts o
    go (read xs us) a r = let b = a xs us refl in ap (with_front xs) (r us (omega arith))
    go fails a r = refl
    go unsure a r = refl

-- two readings of parts that agree on what is below a bound
module _ (assignments : Bool) (p q : Part → Turn) (moves : Moves p) (bound : ℕ) (same : (u : Part) (ts : Items) → 3 * count ts + rank u < bound → p u ts ≡ q u ts) where
  agrees : (g : Grammar) (r : ℕ) (ts : Items) → leads r g ≡ true → 3 * count ts + r ≤ bound → interp assignments p g ts ≡ interp assignments q g ts
  agrees grammar.nothing r ts h l = refl
  agrees grammar.same_line r ts h l = refl
  agrees (grammar.take t) r ts h l = refl
  agrees (grammar.keep k) r ts h l = refl
  agrees (grammar.put f) r ts h l = refl
  agrees (grammar.◌▸◌ a b) r ts h l =
      let z = and_parts (leads r a) (leads (r + 3 * eats a) b) h in
      followed_same (interp assignments p b) (interp assignments q b) (eats a) ts (interp assignments p a ts) (leaves assignments p moves a ts) (λ us e. agrees b (r + 3 * eats a) us z.1 (omega arith))
      ∙ ap (followed_on (interp assignments q b)) (agrees a r ts z.0 l)
  agrees (grammar.◌//◌ a b) r ts h l =
      let z = and_parts (leads r a) (leads r b) h in
      or_same (interp assignments p b) (interp assignments q b) ts (interp assignments p a ts) (agrees b r ts z.1 l) ∙ ap (or_on (interp assignments q b) ts) (agrees a r ts z.0 l)
  agrees (grammar.many a) r ts h l =
      let z = and_parts (nat_le 1 (eats a)) (leads r a) h in
      many_same (interp assignments p a) (interp assignments q a) (count ts) (λ us xs vs e. (let b = leaves assignments p moves a us xs vs e in let c = z.0 in grind arith)) (λ us e. agrees a r us z.1 (omega arith)) (suc (count ts)) ts (omega arith)
  agrees (grammar.ahead a) r ts h l = ap (ahead_on ts) (agrees a r ts h l)
  agrees (grammar.unless a) r ts h l = ap (unless_on ts) (agrees a r ts h l)
  agrees (grammar.marked a) r ts h l = refl
  agrees (grammar.assigned a) r ts h l = ap (λ o. if assignments then o else fails) (agrees a r ts h l)
  agrees (grammar.up u) r ts h l = same u ts (grind arith)
  agrees (grammar.enter u) r ts h l = same u ts (grind arith)
  agrees (grammar.behind t u) r ts h l = behind_same (p u) (q u) (token_eats t) ts (token_in t ts) (token_taken t ts) (λ us e. same u us (grind arith))
  agrees (grammar.build f a) r ts h l = ap (built_on f) (agrees a r ts h l)

module _ (assignments : Bool) where
  pub levels_move : (n : ℕ) → Moves (levels assignments n)
  unfolding levels
  levels_move zero u ts xs us e = cc
  levels_move (suc n) u ts xs us e = let a = leaves assignments (levels assignments n) (levels_move n) (body_at u ts) ts xs us e in let b = ranked_at u ts in let c = b.1 in grind arith

  levels_same : (n m : ℕ) (u : Part) (ts : Items) → 3 * count ts + rank u < n → 3 * count ts + rank u < m → levels assignments n u ts ≡ levels assignments m u ts
  unfolding levels
  levels_same zero m u ts h k = absurd (omega arith)
  levels_same (suc n) zero u ts h k = absurd (omega arith)
  levels_same (suc n) (suc m) u ts h k =
      let b = ranked_at u ts in
      agrees assignments (levels assignments n) (levels assignments m) (levels_move n) (3 * count ts + rank u) (λ v vs l. levels_same n m v vs (omega arith) (omega arith)) (body_at u ts) (rank u) ts b.0 (omega arith)

  -- with so many levels, or more
  pub levels_mean : (n : ℕ) (u : Part) (ts : Items) → 3 * count ts + rank u < n → levels assignments n u ts ≡ means assignments u ts
  unfolding means
  levels_mean n u ts h = let r = rank_small u in levels_same n (3 * count ts + 3) u ts h (omega arith)

  pub means_move : Moves (means assignments)
  unfolding means
  means_move u ts = levels_move (3 * count ts + 3) u ts

  -- what a part means is what its production reads
  pub means_is : (u : Part) (ts : Items) → means assignments u ts ≡ interp assignments (means assignments) (body_at u ts) ts
  unfolding levels
  means_is u ts =
      let r = rank_small u in
      let b = ranked_at u ts in
      sym (levels_mean (suc (3 * count ts + 2)) u ts (omega arith))
      ∙ agrees assignments (levels assignments (3 * count ts + 2)) (means assignments) (levels_move (3 * count ts + 2)) (3 * count ts + rank u) (λ v vs l. levels_mean (3 * count ts + 2) v vs (omega arith)) (body_at u ts) (rank u) ts b.0 (omega arith)
