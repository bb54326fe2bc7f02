-- What a grammar reads of a list of tokens, it reads of their text, up to spans; and where it fails, it fails.
use Rattle.std.proofs.Common.{◌≡◌, ℕ, zero, suc, ◌+◌, ◌*◌, ◌<◌, ◌≤◌, Bool, true, false, List, [], ◌∷◌, ◌++◌, map, length, nat_le, codes, refl, ap, sym, ◌∙◌, subst, arith, if◌then◌else◌}
use Rattle.std.proofs.lemmas.Bool.{and_parts}
use Rattle.std.proofs.lemmas.List.{map-append}
use Rattle.ecma_lex.specs.declared.tokens.Token.{Token}
use Rattle.ecma_tree.specs.declared.node.Node.{Node}
use Rattle.ecma_tree.specs.Spans.{without_spans}
use Rattle.ecma_grammar.specs.declared.production.Part.{Part}
use Rattle.ecma_grammar.specs.declared.production.Part.TheVariants as part
use Rattle.ecma_grammar.specs.declared.production.Mode.{Mode}
use Rattle.ecma_grammar.specs.declared.production.Leaf.{Leaf}
use Rattle.ecma_grammar.specs.declared.production.Flag.{Flag}
use Rattle.ecma_grammar.specs.declared.production.Flag.TheVariants.{Absent, Present}
use Rattle.ecma_grammar.specs.declared.production.Form.{Form}
use Rattle.ecma_grammar.specs.trees.Parts.{flag_node}
use Rattle.ecma_grammar.specs.Made.{made}
use Rattle.ecma_grammar.specs.Grammar as grammar
use Rattle.ecma_grammar.specs.Grammar.{Grammar, the_word, the_punct}
use Rattle.ecma_grammar.specs.PartBodies.{part_body}
use Rattle.ecma_grammar.specs.productions.Chains.{new_body}
use Rattle.ecma_grammar.specs.Reading as reading
use Rattle.ecma_grammar.specs.Reading.{Position, Outcome, Reading}
use Rattle.ecma_grammar.specs.Reads as reads
use Rattle.ecma_print_tokens.specs.Items.{number, Gap, Items, it, render}
use Rattle.ecma_print_tokens.specs.Taking as taking
use Rattle.ecma_print_tokens.specs.Taking.{Took, took, refused, token_in, leaf_in, leaf_kind, new_line_in}
use Rattle.ecma_print_tokens.specs.Lexing.{Fails, At, Goes, Agrees, IsLeaf, GoesOn, Lexes}
use Rattle.ecma_print_readings.proofs.Machine.{Out, read, fails, unsure, Turn, taken, kept, behind_on, with_front, followed_on, or_on, many_on, many_up_to, ahead_on, unless_on, built_on, without, body_at, interp, levels, means}
use Rattle.ecma_shapes.proofs.Signs.{count}
use Rattle.ecma_print_readings.proofs.Takes.{Shorter, token_eats, token_taken}
use Rattle.ecma_print_readings.proofs.Moves.{eats, Leaves, Moves, leaves}
use Rattle.ecma_print_readings.proofs.Ranks.{rank, leads, rank_small, part_ranked, ranked_at}
use Rattle.ecma_print_readings.proofs.Levels.{levels_move}
use Rattle.ecma_print_readings.proofs.Unplaced.{without_spans-node}
use Rattle.ecma_print_reread.proofs.UnplacedForms.{made_unplaced}

abbrev pub plain : Bool → Mode
plain assignments = record { typescript = false; assignments = assignments }

flag_unplaced : (f : Flag) → without_spans (flag_node f) ≡ flag_node f
flag_unplaced Absent = without_spans-node _ _ []
flag_unplaced Present = without_spans-node _ _ []

module _ (text : List ℕ) (Good : Items → Type 0) where
  -- what the machine answers, the reading answers, with nodes that are the same up to spans
  abbrev pub Sims : Out → Outcome (List Node) → Type 0
  Sims (read xs us) o = Goes text Good o (λ ys. map without_spans ys ≡ xs) us
  Sims fails o = Fails o
  Sims unsure o = Unit {0}

  sims_read : (xs ys : List Node) (ts : Items) → map without_spans ys ≡ xs → (s : Position) → At text Good ts s → Sims (read xs ts) (Outcome.read ys s)
  sims_read xs ys ts h s a = record { value = ys; state = s; is = refl; holds = h; at = a }

  moved : (ts : Items) (s : Position) (k : ℕ) → At text Good ts s → At text Good ts (record { place = s.place; failed = k })
  moved ts s k a = record { good = a.good; stands = a.stands }

  -- where a numeral stands no `.target` does, also where it begins with a point
  abbrev pub NoTarget : Type 0
  NoTarget = (g : Gap) (w : List ℕ) (us : Items) (s : Position) → At text Good (it g (number w) us) s → Fails (reading.followed_on (reads.taken text (the_word (codes "target"))) (reads.taken text (the_punct (codes ".")) s))

  sims_taken : (o : Took) (o' : Outcome Token) → Agrees text Good o o' (λ w k. Unit {0}) → Sims (taken o) (reading.then_on (λ k. reading.pure []) o')
  sims_taken (took w us) o' a = record { value = []; state = a.state; is = ap (reading.then_on (λ k. reading.pure [])) a.is; holds = refl; at = a.at }
  sims_taken refused o' a = record { failed = a.failed; is = ap (reading.then_on (λ k. reading.pure [])) a.is }
  sims_taken taking.unsure o' a = tt

  sims_kept : (l : Leaf) (o : Took) (o' : Outcome Node) → Agrees text Good o o' (IsLeaf text Good l) → Sims (kept l o) (reading.then_on (λ x. reading.pure (x ∷ [])) o')
  sims_kept l (took w us) o' a =
      let h = a.holds in
      record {
        value = a.value ∷ [];
        state = a.state;
        is = ap (reading.then_on (λ x. reading.pure (x ∷ []))) a.is;
        holds = ap (λ z. without_spans z ∷ []) h.1 ∙ ap (λ z. z ∷ []) (without_spans-node h.0 (leaf_kind l w) []);
        at = a.at;
      }
  sims_kept l refused o' a = record { failed = a.failed; is = ap (reading.then_on (λ x. reading.pure (x ∷ []))) a.is }
  sims_kept l taking.unsure o' a = tt

  sims_behind : (f : Turn) (F : ℕ → Reading (List Node)) (k : ℕ) (ts : Items) (o : Took) (o' : Outcome Token) → Shorter k ts o → Agrees text Good o o' (λ w x. Unit {0})
      → ((us : Items) → count us + k ≤ count ts → (at : ℕ) (s : Position) → At text Good us s → Sims (f us) (F at s)) → Sims (behind_on f o) (reading.then_on (λ x. F x.start) o')
  sims_behind f F k ts (took w us) o' h a r =
      let e = a.is in
      let v = a.value in
      subst (λ z. Sims (f us) (reading.then_on (λ (x : Token). F x.start) z)) (sym e) (r us (h w us refl) v.start a.state a.at)
  sims_behind f F k ts refused o' h a r = record { failed = a.failed; is = ap (reading.then_on (λ x. F x.start)) a.is }
  sims_behind f F k ts taking.unsure o' h a r = tt

  pub sims_front : (xs ys : List Node) → map without_spans ys ≡ xs → (o : Out) (o' : Outcome (List Node)) → Sims o o' → Sims (with_front xs o) (reading.with_front ys o')
  sims_front xs ys e (read xs' us) o' a = record {
    value = ys ++ a.value;
    state = a.state;
    is = ap (reading.with_front ys) a.is;
    holds = map-append without_spans ys a.value ∙ ap (λ z. z ++ map without_spans a.value) e ∙ ap (λ z. xs ++ z) a.holds;
    at = a.at;
  }
  sims_front xs ys e fails o' a = record { failed = a.failed; is = ap (reading.with_front ys) a.is }
  sims_front xs ys e unsure o' a = tt

  sims_followed : (f : Turn) (F : Reading (List Node)) (k : ℕ) (ts : Items) (o : Out) (o' : Outcome (List Node)) → Leaves k ts o → Sims o o'
      → ((us : Items) → count us + k ≤ count ts → (s : Position) → At text Good us s → Sims (f us) (F s)) → Sims (followed_on f o) (reading.followed_on F o')
  sims_followed f F k ts (read xs us) o' h a r =
      let e = a.is in
      subst (λ z. Sims (with_front xs (f us)) (reading.followed_on F z)) (sym e) (sims_front xs a.value a.holds (f us) (F a.state) (r us (h xs us refl) a.state a.at))
  sims_followed f F k ts fails o' h a r = record { failed = a.failed; is = ap (reading.followed_on F) a.is }
  sims_followed f F k ts unsure o' h a r = tt

  sims_or : (f : Turn) (F : Reading (List Node)) (ts : Items) (s : Position) (o : Out) (o' : Outcome (List Node)) → Sims o o' → At text Good ts s
      → ((s : Position) → At text Good ts s → Sims (f ts) (F s)) → Sims (or_on f ts o) (reading.or_on F s o')
  sims_or f F ts s (read xs us) o' a at r = record { value = a.value; state = a.state; is = ap (reading.or_on F s) a.is; holds = a.holds; at = a.at }
  sims_or f F ts s fails o' a at r =
      let e = a.is in
      subst (λ z. Sims (f ts) (reading.or_on F s z)) (sym e) (r (record { place = s.place; failed = a.failed }) (moved ts s a.failed at))
  sims_or f F ts s unsure o' a at r = tt

  sims_many : (f : Turn) (F : Reading (List Node)) (c : ℕ) → ((ts : Items) → Leaves 1 ts (f ts)) → ((ts : Items) → count ts ≤ c → (s : Position) → At text Good ts s → Sims (f ts) (F s))
      → (n m : ℕ) (ts : Items) → count ts < n → count ts < m → count ts ≤ c → (s : Position) → At text Good ts s → Sims (many_up_to f n ts) (reading.many_up_to F m s)
  unfolding many_up_to reading.many_up_to
  sims_many f F c h r zero m ts i j l s a = absurd (omega arith)
  sims_many f F c h r (suc n) zero ts i j l s a = absurd (omega arith)
  sims_many f F c h r (suc n) (suc m) ts i j l s a = go (f ts) (h ts) (F s) (r ts l s a) (λ us i j. sims_many f F c h r n m us i j)
    where
      go : (o : Out) → Leaves 1 ts o → (o' : Outcome (List Node)) → Sims o o' → ((us : Items) → count us < n → count us < m → count us ≤ c → (s : Position) → At text Good us s → Sims (many_up_to f n us) (reading.many_up_to F m s))
          → Sims (many_on (many_up_to f n) ts o) (reading.many_on s (reading.many_up_to F m) o')
      go (read xs us) b o' w more =
          let e = w.is in
          let z = b xs us refl in
          subst (λ z. Sims (with_front xs (many_up_to f n us)) (reading.many_on s (reading.many_up_to F m) z)) (sym e)
          (sims_front xs w.value w.holds (many_up_to f n us) (reading.many_up_to F m w.state) (more us (omega arith) (omega arith) (omega arith) w.state w.at))
      go fails b o' w more =
          let e = w.is in
          subst (λ z. Sims (read [] ts) (reading.many_on s (reading.many_up_to F m) z)) (sym e) (sims_read [] [] ts refl (record { place = s.place; failed = w.failed }) (moved ts s w.failed a))
      go unsure b o' w more = tt

  sims_ahead : (ts : Items) (s : Position) (o : Out) (o' : Outcome (List Node)) → Sims o o' → At text Good ts s → Sims (ahead_on ts o) (reading.ahead_on s o')
  sims_ahead ts s (read xs us) o' a at =
      let e = a.is in
      let t = a.state in
      subst (λ z. Sims (read [] ts) (reading.ahead_on s z)) (sym e) (sims_read [] [] ts refl (record { place = s.place; failed = t.failed }) (moved ts s t.failed at))
  sims_ahead ts s fails o' a at = record { failed = a.failed; is = ap (reading.ahead_on s) a.is }
  sims_ahead ts s unsure o' a at = tt

  sims_unless : (ts : Items) (s : Position) (o : Out) (o' : Outcome (List Node)) → Sims o o' → At text Good ts s → Sims (unless_on ts o) (reading.unless_on s o')
  sims_unless ts s (read xs us) o' a at = let t = a.state in record { failed = t.failed; is = ap (reading.unless_on s) a.is }
  sims_unless ts s fails o' a at =
      let e = a.is in
      subst (λ z. Sims (read [] ts) (reading.unless_on s z)) (sym e) (sims_read [] [] ts refl (record { place = s.place; failed = a.failed }) (moved ts s a.failed at))
  sims_unless ts s unsure o' a at = tt

  pub sims_built : (form : Form) (lo : ℕ) (o : Out) (o' : Outcome (List Node)) → Sims o o' → Sims (built_on form o) (reads.built_on form lo o')
  sims_built form lo (read xs us) o' a =
      let t = a.state in
      record {
        value = made form lo t.place a.value ∷ [];
        state = a.state;
        is = ap (reads.built_on form lo) a.is;
        holds = ap (λ z. z ∷ []) (made_unplaced form lo t.place a.value ∙ ap (made form 0 0) a.holds);
        at = a.at;
      }
  sims_built form lo fails o' a = record { failed = a.failed; is = ap (reads.built_on form lo) a.is }
  sims_built form lo unsure o' a = tt

  sims_assigned : (b : Bool) (o : Out) (F : Reading (List Node)) (s : Position) → Sims o (F s) → Sims (if b then o else fails) (reading.marked b F s)
  sims_assigned true o F s a = a
  sims_assigned false o F s a = record { failed = s.failed; is = refl }

  sims_line : (b : Bool) (ts : Items) (s : Position) (o' : Outcome (List Node)) → GoesOn text Good b o' s → At text Good ts s → Sims (if b then fails else read [] ts) o'
  sims_line true ts s o' h a = h
  sims_line false ts s o' h a = record { value = []; state = s; is = h; holds = refl; at = a }

  module _ (assignments : Bool) (lexes : Lexes text Good) (long : (ts : Items) → Good ts → count ts ≤ length (render ts)) (no_target : NoTarget) where
    module _ (p : Part → Turn) (q : Part → ℕ → Reading (List Node)) (moves : Moves p) (bound : ℕ) (parts : (u : Part) (ts : Items) → 3 * count ts + rank u < bound → (at : ℕ) (s : Position) → At text Good ts s → Sims (p u ts) (q u at s)) where
      simulates : (g : Grammar) (r : ℕ) (ts : Items) → leads r g ≡ true → 3 * count ts + r ≤ bound → (s : Position) → At text Good ts s → Sims (interp assignments p g ts) (reads.reads text (plain assignments) q g s)
      simulates grammar.nothing r ts h l s a = sims_read [] [] ts refl s a
      simulates grammar.same_line r ts h l s a = sims_line (new_line_in ts) ts s _ (lexes.lines ts s a) a
      simulates (grammar.take t) r ts h l s a = sims_taken (token_in t ts) (reads.token text t s) (lexes.tokens t ts s a)
      simulates (grammar.keep k) r ts h l s a = sims_kept k (leaf_in k ts) (reads.leaf_node text k s) (lexes.leaves k ts s a)
      simulates (grammar.put f) r ts h l s a = sims_read _ _ ts (ap (λ z. z ∷ []) (flag_unplaced f)) s a
      simulates (grammar.◌▸◌ x y) r ts h l s a =
          let z = and_parts (leads r x) (leads (r + 3 * eats x) y) h in
          sims_followed (interp assignments p y) (reads.reads text (plain assignments) q y) (eats x) ts (interp assignments p x ts) (reads.reads text (plain assignments) q x s) (leaves assignments p moves x ts) (simulates x r ts z.0 l s a)
          (λ us e s a. simulates y (r + 3 * eats x) us z.1 (omega arith) s a)
      simulates (grammar.◌//◌ x y) r ts h l s a =
          let z = and_parts (leads r x) (leads r y) h in
          sims_or (interp assignments p y) (reads.reads text (plain assignments) q y) ts s (interp assignments p x ts) (reads.reads text (plain assignments) q x s) (simulates x r ts z.0 l s a) a (λ s a. simulates y r ts z.1 l s a)
      simulates (grammar.many x) r ts h l s a =
          let z = and_parts (nat_le 1 (eats x)) (leads r x) h in
          let b = long ts a.good in
          let k = a.stands in
          let c = k.within in
          sims_many (interp assignments p x) (reads.reads text (plain assignments) q x) (count ts) (λ us xs vs e. (let b = leaves assignments p moves x us xs vs e in let c = z.0 in grind arith))
          (λ us e s a. simulates x r us z.1 (omega arith) s a) (suc (count ts)) (length text + 1) ts (omega arith) (omega arith) (omega arith) s a
      simulates (grammar.ahead x) r ts h l s a = sims_ahead ts s (interp assignments p x ts) (reads.reads text (plain assignments) q x s) (simulates x r ts h l s a) a
      simulates (grammar.unless x) r ts h l s a = sims_unless ts s (interp assignments p x ts) (reads.reads text (plain assignments) q x s) (simulates x r ts h l s a) a
      simulates (grammar.marked x) r ts h l s a = record { failed = s.failed; is = refl }
      simulates (grammar.assigned x) r ts h l s a = sims_assigned assignments (interp assignments p x ts) (reads.reads text (plain assignments) q x) s (simulates x r ts h l s a)
      simulates (grammar.up u) r ts h l s a = parts u ts (grind arith) s.place s a
      simulates (grammar.enter u) r ts h l s a = parts u ts (grind arith) (reads.next_start text s) s a
      simulates (grammar.behind t u) r ts h l s a =
          sims_behind (p u) (q u) (token_eats t) ts (token_in t ts) (reads.token text t s) (token_taken t ts) (lexes.tokens t ts s a) (λ us e at s a. parts u us (grind arith) at s a)
      simulates (grammar.build f x) r ts h l s a = sims_built f (reads.next_start text s) (interp assignments p x ts) (reads.reads text (plain assignments) q x s) (simulates x r ts h l s a)

      -- of a part, also of what stands behind `new`
      body_simulates : (u : Part) (ts : Items) → 3 * count ts + rank u ≤ bound → (s : Position) → At text Good ts s → Sims (interp assignments p (body_at u ts) ts) (reads.reads text (plain assignments) q (part_body u) s)
      unfolding new_body
      body_simulates part.New (it g (number w) us) l s a =
          let ts = it g (number w) us in
          let constructed = without 1 (part_body part.New) in
          sims_or (interp assignments p constructed) (reads.reads text (plain assignments) q constructed) ts s fails _ (no_target g w us s a) a (λ s a. simulates constructed 0 ts (ranked_at part.New ts).0 l s a)
      body_simulates u ts l s a = simulates (part_body u) (rank u) ts (part_ranked u).0 l s a

    sims_levels : (n m : ℕ) (u : Part) (ts : Items) → 3 * count ts + rank u < n → 3 * count ts + rank u < m → (at : ℕ) (s : Position) → At text Good ts s → Sims (levels assignments n u ts) (reads.levels text (plain assignments) m u at s)
    unfolding levels reads.levels_by
    sims_levels zero m u ts i j at s a = absurd (omega arith)
    sims_levels (suc n) zero u ts i j at s a = absurd (omega arith)
    sims_levels (suc n) (suc m) u ts i j at s a =
        body_simulates (levels assignments n) (reads.levels text (plain assignments) m) (levels_move assignments n) (3 * count ts + rank u) (λ v vs l at s a. sims_levels n m v vs (omega arith) (omega arith) at s a) u ts (omega arith) s a

    -- a grammar over what parts mean is read of the text with levels enough
    pub means_simulate : (m : ℕ) (g : Grammar) (r : ℕ) (ts : Items) → leads r g ≡ true → 3 * count ts + r ≤ m → (s : Position) → At text Good ts s
        → Sims (interp assignments (means assignments) g ts) (reads.reads text (plain assignments) (reads.levels text (plain assignments) m) g s)
    unfolding means
    means_simulate m g r ts h l s a =
        simulates (means assignments) (reads.levels text (plain assignments) m) (λ u ts. levels_move assignments (3 * count ts + 3) u ts) (3 * count ts + r)
        (λ v vs below at s a. (let b = rank_small v in sims_levels (3 * count vs + 3) m v vs (omega arith) (omega arith) at s a)) g r ts h (omega arith) s a
