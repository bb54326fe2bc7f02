-- The bytes that are read pay for the nodes that are kept, by one induction over grammars and one over levels.
use Rattle.std.proofs.Common.{◌≡◌, ◌≤◌, ◌<◌, ℕ, zero, suc, ◌+◌, ◌*◌, Bool, true, false, cond, List, [], ◌∷◌, ◌++◌, length, max, refl, ap, arith}
use Rattle.std.specs.Prelude.{if◌then◌else◌}
use Rattle.std.specs.Str.{IsUtf8}
use Rattle.std.proofs.lemmas.Bool.{and_parts, leb-false, leb-true}
use Rattle.std.proofs.lemmas.List.{length-append}
use Rattle.std.proofs.lemmas.List.Sums.{sum_by-append}
use Rattle.ecma_lex.specs.declared.blanks.Skipped.{Skipped}
use Rattle.ecma_lex.specs.declared.tokens.Token.{Token}
use Rattle.ecma_lex.specs.Blanks.{skipped}
use Rattle.ecma_tree.specs.declared.node.Node.{Node}
use Rattle.ecma_grammar.specs.declared.production.Form.{Form}
use Rattle.ecma_grammar.specs.declared.production.Leaf.{Leaf}
use Rattle.ecma_grammar.specs.declared.production.Mode.{Mode}
use Rattle.ecma_grammar.specs.declared.production.Part.{Part}
use Rattle.ecma_grammar.specs.Grammar.{Grammar, Terminal, nothing, same_line, take, keep, put, ◌▸◌, ◌//◌, many, ahead, unless, marked, assigned, up, enter, behind, build}
use Rattle.ecma_grammar.specs.Made.{made}
use Rattle.ecma_grammar.specs.PartBodies.{part_body}
use Rattle.ecma_grammar.specs.Reading as reading
use Rattle.ecma_grammar.specs.Reading.{Outcome, Position, Reading, ahead_on, fails, followed_on, many_on, many_up_to, or_on, pure, read, then_on, too_deep, unless_on, with_front}
use Rattle.ecma_grammar.specs.Reads.{Parts, built_on, kept_leaf, levels, levels_by, next_start, same_line_on, token}
use Rattle.ecma_grammar.specs.productions.Modules.{module_body}
use Rattle.ecma_grammar_laws.specs.Repetitions.{reads_with}
use Rattle.ecma_grammar_laws.specs.Takes.{terminal_takes}
use Rattle.ecma_grammar_laws.proofs.Repetitions.{readings_move_on}
use Rattle.ecma_text_contexts.proofs.Weights.{weight, worth}
use Rattle.ecma_text_contexts.proofs.Made.{made_light}
use Rattle.ecma_text_contexts.proofs.Leaves.{flag_is_worth_one, leaf_is_worth_one}
use Rattle.ecma_text_contexts.proofs.Balances.{Balance, balance, both as both_balances, brings, is_least, least, module_pays, owes, part_balance, parts_pay, repeats_pay, token_brings}

-- where something is read from a place on, its bytes pay for it, and leave what a balance says
abbrev Pays : ℕ → Balance → Outcome (List Node) → Type 0
Pays from b o = (t : Position) (xs : List Node) → o ≡ read xs t → 100 * from + (worth xs + b.left) ≤ 100 * t.place + b.owed

pays_read : (from : ℕ) (b : Balance) (xs : List Node) (s : Position) → 100 * from + (worth xs + b.left) ≤ 100 * s.place + b.owed → Pays from b (read xs s)
pays_read from b xs s p t ys h =
    let e : s ≡ t = cc in
    let same_place = ap (λ u. u.place) e in
    let f : xs ≡ ys = cc in
    let same_worth = ap worth f in
    omega arith

pays_fails : (from : ℕ) (b : Balance) (n : ℕ) → Pays from b (fails n)
pays_fails from b n t xs h = cc

pays_deep : (from : ℕ) (b : Balance) (n : ℕ) → Pays from b (too_deep n)
pays_deep from b n t xs h = cc

-- with less left
pays_least : (from : ℕ) (b c : Balance) (o : Outcome (List Node)) → b.left + c.owed ≤ c.left + b.owed → Pays from c o → Pays from b o
pays_least from b c o l p t xs h = let q = p t xs h in omega arith

worth_both : (xs ys : List Node) → worth (xs ++ ys) ≡ worth xs + worth ys
worth_both xs ys =
    let a = sum_by-append weight xs ys in
    let b = length-append xs ys in
    omega arith

pays_front : (from to : ℕ) (b c : Balance) (xs : List Node) (o : Outcome (List Node)) → 100 * from + (worth xs + b.left) ≤ 100 * to + b.owed → Pays to c o → Pays from (both_balances b c) (with_front xs o)
pays_front from to b c xs (read ys u) p q =
    let r = q u ys refl in
    let w = worth_both xs ys in
    pays_read from (both_balances b c) (xs ++ ys) u (omega arith)
pays_front from to b c xs (fails n) p q = pays_fails from (both_balances b c) n
pays_front from to b c xs (too_deep n) p q = pays_deep from (both_balances b c) n

pays_followed : (from : ℕ) (b c : Balance) (q : Reading (List Node)) (o : Outcome (List Node)) → Pays from b o → ((t : Position) (xs : List Node) → o ≡ read xs t → Pays t.place c (q t)) → Pays from (both_balances b c) (followed_on q o)
pays_followed from b c q (read xs u) p h = pays_front from u.place b c xs (q u) (p u xs refl) (h u xs refl)
pays_followed from b c q (fails n) p h = pays_fails from (both_balances b c) n
pays_followed from b c q (too_deep n) p h = pays_deep from (both_balances b c) n

least_left : (b c : Balance) → (least b c).left + b.owed ≤ b.left + (least b c).owed
least_left b c = go (is_least b c) refl
  where
    go : (l : Bool) → is_least b c ≡ l → (cond l b c).left + b.owed ≤ b.left + (cond l b c).owed
    go true h = omega arith
    go false h = let more = leb-false (b.left + c.owed) (c.left + b.owed) h in omega arith

least_right : (b c : Balance) → (least b c).left + c.owed ≤ c.left + (least b c).owed
least_right b c = go (is_least b c) refl
  where
    go : (l : Bool) → is_least b c ≡ l → (cond l b c).left + c.owed ≤ c.left + (cond l b c).owed
    go true h = leb-true (b.left + c.owed) (c.left + b.owed) h
    go false h = omega arith

pays_or : (b : Balance) (q : Reading (List Node)) (s : Position) (o : Outcome (List Node)) → Pays s.place b o → ((n : ℕ) → Pays s.place b (q (record { place = s.place; failed = n }))) → Pays s.place b (or_on q s o)
pays_or b q s (read xs u) p h = p
pays_or b q s (fails n) p h = h n
pays_or b q s (too_deep n) p h = pays_deep s.place b n

nothing_read : (s : Position) → Pays s.place (brings 0) (read [] s)
nothing_read s = pays_read s.place (brings 0) [] s (omega arith)

pays_ahead : (s : Position) (o : Outcome (List Node)) → Pays s.place (brings 0) (ahead_on s o)
pays_ahead s (read xs u) = nothing_read (record { place = s.place; failed = u.failed })
pays_ahead s (fails n) = pays_fails s.place (brings 0) n
pays_ahead s (too_deep n) = pays_deep s.place (brings 0) n

pays_unless : (s : Position) (o : Outcome (List Node)) → Pays s.place (brings 0) (unless_on s o)
pays_unless s (read xs u) = pays_fails s.place (brings 0) u.failed
pays_unless s (fails n) = nothing_read (record { place = s.place; failed = n })
pays_unless s (too_deep n) = pays_deep s.place (brings 0) n

pays_line : (s : Position) (before : Skipped) → Pays s.place (brings 0) (same_line_on s before)
pays_line s before = go before.new_line
  where
    go : (b : Bool) → Pays s.place (brings 0) (if b then fails (max s.failed before.to) else read [] s)
    go true = pays_fails s.place (brings 0) (max s.failed before.to)
    go false = nothing_read s

pays_marked : (m : Bool) (b : Balance) (p : Reading (List Node)) (s : Position) → Pays s.place b (p s) → Pays s.place b (reading.marked m p s)
pays_marked true b p s h = h
pays_marked false b p s h = pays_fails s.place b s.failed

pays_built : (form : Form) (lo from : ℕ) (b : Balance) (o : Outcome (List Node)) → Pays from b o → Pays from (both_balances b (owes 2)) (built_on form lo o)
pays_built form lo from b (read xs u) p =
    let q = p u xs refl in
    let m = made_light lo u.place xs form in
    pays_read from (both_balances b (owes 2)) (made form lo u.place xs ∷ []) u (omega arith)
pays_built form lo from b (fails n) p = pays_fails from (both_balances b (owes 2)) n
pays_built form lo from b (too_deep n) p = pays_deep from (both_balances b (owes 2)) n

module _ (text : List ℕ) where
  -- a reading that pays wherever it begins in the text, and ends in it
  pub record PaysInside (p : Reading (List Node)) : Type 0 where
    pub pays : (s : Position) → s.place ≤ length text → Pays s.place (brings 0) (p s)
    pub inside : (s t : Position) (xs : List Node) → s.place ≤ length text → p s ≡ read xs t → t.place ≤ length text

  pays_many_on : (p : Reading (List Node)) (n : ℕ) (s : Position) (o : Outcome (List Node)) → Pays s.place (brings 0) o → ((t : Position) (xs : List Node) → o ≡ read xs t → Pays t.place (brings 0) (many_up_to p n t)) → Pays s.place (brings 0) (many_on s (many_up_to p n) o)
  pays_many_on p n s (read xs u) h r = pays_front s.place u.place (brings 0) (brings 0) xs (many_up_to p n u) (h u xs refl) (r u xs refl)
  pays_many_on p n s (fails k) h r = nothing_read (record { place = s.place; failed = k })
  pays_many_on p n s (too_deep k) h r = pays_deep s.place (brings 0) k

  pays_many : (p : Reading (List Node)) → PaysInside p → (n : ℕ) (s : Position) → s.place ≤ length text → Pays s.place (brings 0) (many_up_to p n s)
  unfolding many_up_to
  pays_many p h zero s i = nothing_read s
  pays_many p h (suc n) s i = pays_many_on p n s (p s) (h.pays s i) (λ t xs e. pays_many p h n t (h.inside s t xs i e))

  module _ (utf8 : IsUtf8 text) (mode : Mode) where
    inside : (n : ℕ) (g : Grammar) (s t : Position) (xs : List Node) → s.place ≤ length text → reads_with text mode n g s ≡ read xs t → t.place ≤ length text
    inside n g s t xs i e = (readings_move_on text mode n g s t xs utf8 i e).1

    token_moves : (n : ℕ) (k : Terminal) (s t : Position) (at : Token) → s.place ≤ length text → token text k s ≡ read at t
        → (100 * s.place + cond (terminal_takes k) 100 0 ≤ 100 * t.place) × (t.place ≤ length text)
    token_moves n k s t at i e =
        let moved = readings_move_on text mode n (take k) s t [] utf8 i (ap (then_on (λ at. pure [])) e) in
        (by_taking (terminal_takes k) moved.0 moved.2, moved.1)
      where
        by_taking : (b : Bool) → s.place ≤ t.place → (b ≡ true → s.place < t.place) → 100 * s.place + cond b 100 0 ≤ 100 * t.place
        by_taking true h l = let m = l refl in omega arith
        by_taking false h l = omega arith

    pays_token : (n : ℕ) (k : Terminal) (b : Balance) (q : Token → Reading (List Node)) (s : Position) → s.place ≤ length text
        → ((at : Token) (t : Position) → t.place ≤ length text → Pays t.place b (q at t)) → Pays s.place (both_balances (token_brings k) b) (then_on q (token text k s))
    pays_token n k b q s i h = go (token text k s) (λ t at e. token_moves n k s t at i e)
      where
        go : (o : Outcome Token) → ((t : Position) (at : Token) → o ≡ read at t → (100 * s.place + cond (terminal_takes k) 100 0 ≤ 100 * t.place) × (t.place ≤ length text))
            → Pays s.place (both_balances (token_brings k) b) (then_on q o)
        go (read at u) m = λ t xs e.
            let moved = m u at refl in
            let a = moved.0 in
            let c = h at u moved.1 t xs e in
            omega arith
        go (fails n) m = pays_fails s.place (both_balances (token_brings k) b) n
        go (too_deep n) m = pays_deep s.place (both_balances (token_brings k) b) n

    pays_leaf : (n : ℕ) (l : Leaf) (s : Position) → s.place ≤ length text → Pays s.place (brings 99) (kept_leaf text l s)
    pays_leaf n l s i t xs e =
        let moved = readings_move_on text mode n (keep l) s t xs utf8 i e in
        let a = moved.2 refl in
        let b = leaf_is_worth_one text l s t xs e in
        omega arith

    abbrev PartsPay : Parts text → Type 0
    PartsPay parts = (u : Part) (at : ℕ) (s : Position) → s.place ≤ length text → Pays s.place (part_balance u) (parts u at s)

    module _ (n : ℕ) (parts_are_paid : PartsPay (levels text mode n)) where
      abbrev R : Grammar → Reading (List Node)
      R = reads_with text mode n

      pub pays : (g : Grammar) (s : Position) → s.place ≤ length text → repeats_pay g ≡ true → Pays s.place (balance g) (R g s)
      pays nothing s i h = nothing_read s
      pays same_line s i h = pays_line s (skipped text s.place)
      pays (take t) s i h =
          pays_least s.place (token_brings t) (both_balances (token_brings t) (brings 0)) (R (take t) s) (omega arith) (pays_token n t (brings 0) (λ at. pure []) s i (λ at u j. nothing_read u))
      pays (keep l) s i h = pays_leaf n l s i
      pays (put f) s i h = let e = flag_is_worth_one f in pays_read s.place (owes 1) _ s (omega arith)
      pays (a ▸ b) s i h =
          let w = and_parts (repeats_pay a) (repeats_pay b) h in
          pays_followed s.place (balance a) (balance b) (R b) (R a s) (pays a s i w.0) (λ t xs e. pays b t (inside n a s t xs i e) w.1)
      pays (a // b) s i h =
          let w = and_parts (repeats_pay a) (repeats_pay b) h in
          let lower = least (balance a) (balance b) in
          pays_or lower (R b) s (R a s) (pays_least s.place lower (balance a) (R a s) (least_left (balance a) (balance b)) (pays a s i w.0))
          (λ k. let t : Position = record { place = s.place; failed = k } in pays_least s.place lower (balance b) (R b t) (least_right (balance a) (balance b)) (pays b t i w.1))
      pays (many a) s i h =
          let w = and_parts (repeats_pay a) (is_least (brings 0) (balance a)) h in
          let enough = leb-true (0 + (balance a).owed) ((balance a).left + 0) w.1 in
          pays_many (R a) (record {
            pays = λ t j. pays_least t.place (brings 0) (balance a) (R a t) (omega arith) (pays a t j w.0);
            inside = λ t u xs j e. inside n a t u xs j e;
          }) (length text + 1) s i
      pays (ahead a) s i h = pays_ahead s (R a s)
      pays (unless nothing) s i h = pays_fails s.place (brings 100) s.failed
      pays (unless a) s i h = pays_unless s (R a s)
      pays (marked a) s i h = pays_marked mode.typescript (balance a) (R a) s (pays a s i h)
      pays (assigned a) s i h = pays_marked mode.assignments (balance a) (R a) s (pays a s i h)
      pays (up u) s i h = parts_are_paid u s.place s i
      pays (enter u) s i h = parts_are_paid u (next_start text s) s i
      pays (behind t u) s i h = pays_token n t (part_balance u) (λ at. levels text mode n u at.start) s i (λ at v j. parts_are_paid u at.start v j)
      pays (build f a) s i h = pays_built f (next_start text s) s.place (balance a) (R a s) (pays a s i h)

    levels_pay : (n : ℕ) → PartsPay (levels text mode n)
    unfolding levels_by
    levels_pay zero u at s i = pays_deep s.place (part_balance u) at
    levels_pay (suc n) u at s i =
        let w = and_parts (repeats_pay (part_body u)) (is_least (part_balance u) (balance (part_body u))) (parts_pay u) in
        pays_least s.place (part_balance u) (balance (part_body u)) _ (leb-true ((part_balance u).left + (balance (part_body u)).owed) ((balance (part_body u)).left + (part_balance u).owed) w.1)
        (pays n (levels_pay n) (part_body u) s i w.0)

    -- what a module keeps is worth a hundred for each byte, and five more, at most
    pub module_is_paid : (n : ℕ) (t : Position) (xs : List Node) → reads_with text mode n module_body (record { place = 0; failed = 0 }) ≡ read xs t → worth xs ≤ 100 * length text + 5
    module_is_paid n t xs e =
        let start : Position = record { place = 0; failed = 0 } in
        let w = and_parts (repeats_pay module_body) (is_least (owes 5) (balance module_body)) module_pays in
        let paid = pays_least 0 (owes 5) (balance module_body) _ (leb-true (0 + (balance module_body).owed) ((balance module_body).left + 5) w.1) (pays n (levels_pay n) module_body start (omega arith) w.0) t xs e in
        let within = inside n module_body start t xs (omega arith) e in
        omega arith
