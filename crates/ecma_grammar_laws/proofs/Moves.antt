-- Readings that go on.
use Rattle.std.proofs.Common.{◌≡◌, ℕ, zero, suc, ◌+◌, ◌<◌, ◌≤◌, Bool, true, false, if◌then◌else◌, List, [], ◌++◌, length, refl, ap, arith}
use Rattle.ecma_tree.specs.declared.node.Node.{Node}
use Rattle.ecma_grammar.specs.Reading.{Position, Outcome, read, fails, too_deep, Reading, then_on, with_front, followed_on, or_on, many_on, many_up_to, ahead_on, unless_on, marked}

-- how much further at least, where something is taken or may be not
abbrev pub least : Bool → ℕ
least b = if b then 1 else 0

module _ (text : List ℕ) where
  -- an outcome that reads something goes on k bytes at least from a place, in the text
  abbrev pub Goes : {A : Type 0} → ℕ → ℕ → Outcome A → Type 0
  Goes {A} from k o = (t : Position) (x : A) → o ≡ read x t → (from + k ≤ t.place) × (t.place ≤ length text)

  pub record Moves {A : Type 0} (k : ℕ) (p : Reading A) : Type 0 where
    pub on : (s : Position) → s.place ≤ length text → Goes s.place k (p s)

  pub goes_read : {A : Type 0} (from k : ℕ) (x : A) (s : Position) → from + k ≤ s.place → s.place ≤ length text → Goes from k (read x s)
  goes_read from k x s a b t y h = let e : s ≡ t = cc in let z = ap (λ u. u.place) e in (omega arith, omega arith)

  pub goes_fails : {A : Type 0} (from k n : ℕ) → Goes {A = A} from k (fails n)
  goes_fails from k n t y h = cc

  pub goes_deep : {A : Type 0} (from k n : ℕ) → Goes {A = A} from k (too_deep n)
  goes_deep from k n t y h = cc

  pub goes_less : {A : Type 0} (from k n : ℕ) (o : Outcome A) → n ≤ k → Goes from k o → Goes from n o
  goes_less from k n o l g t x h = let w = g t x h in let a = w.0 in (omega arith, w.1)

  -- from further on
  pub goes_behind : {A : Type 0} (from k n : ℕ) (o : Outcome A) → from + k ≤ n → (j : ℕ) → Goes n j o → Goes from (k + j) o
  goes_behind from k n o l j g t x h = let w = g t x h in let a = w.0 in (omega arith, w.1)

  pub goes_then : {A B : Type 0} (from k j : ℕ) (f : A → Reading B) (o : Outcome A) → Goes from k o → ((x : A) → Moves j (f x)) → Goes from (k + j) (then_on f o)
  goes_then from k j f (read x u) g h = let w = g u x refl in goes_behind from k u.place (f x u) w.0 j ((h x).on u w.1)
  goes_then from k j f (fails n) g h = goes_fails from (k + j) n
  goes_then from k j f (too_deep n) g h = goes_deep from (k + j) n

  pub goes_front : (from k : ℕ) (xs : List Node) (o : Outcome (List Node)) → Goes from k o → Goes from k (with_front xs o)
  goes_front from k xs (read ys u) g = let w = g u ys refl in goes_read from k (xs ++ ys) u w.0 w.1
  goes_front from k xs (fails n) g = goes_fails from k n
  goes_front from k xs (too_deep n) g = goes_deep from k n

  pub goes_followed : (from k j : ℕ) (q : Reading (List Node)) (o : Outcome (List Node)) → Goes from k o → Moves j q → Goes from (k + j) (followed_on q o)
  goes_followed from k j q (read xs u) g h = let w = g u xs refl in goes_front from (k + j) xs (q u) (goes_behind from k u.place (q u) w.0 j (h.on u w.1))
  goes_followed from k j q (fails n) g h = goes_fails from (k + j) n
  goes_followed from k j q (too_deep n) g h = goes_deep from (k + j) n

  pub goes_or : {A : Type 0} (k : ℕ) (s : Position) (q : Reading A) (o : Outcome A) → s.place ≤ length text → Goes s.place k o → Moves k q → Goes s.place k (or_on q s o)
  goes_or k s q (read x u) i g h = g
  goes_or k s q (fails n) i g h = h.on (record { place = s.place; failed = n }) i
  goes_or k s q (too_deep n) i g h = goes_deep s.place k n

  pub goes_ahead : (s : Position) (o : Outcome (List Node)) → s.place ≤ length text → Goes s.place 0 (ahead_on s o)
  goes_ahead s (read x u) i = goes_read s.place 0 [] (record { place = s.place; failed = u.failed }) (omega arith) i
  goes_ahead s (fails n) i = goes_fails s.place 0 n
  goes_ahead s (too_deep n) i = goes_deep s.place 0 n

  pub goes_unless : (s : Position) (o : Outcome (List Node)) → s.place ≤ length text → Goes s.place 0 (unless_on s o)
  goes_unless s (read x u) i = goes_fails s.place 0 u.failed
  goes_unless s (fails n) i = goes_read s.place 0 [] (record { place = s.place; failed = n }) (omega arith) i
  goes_unless s (too_deep n) i = goes_deep s.place 0 n

  pub goes_marked : {A : Type 0} (b : Bool) (k : ℕ) (p : Reading A) (s : Position) → Goes s.place k (p s) → Goes s.place k (marked b p s)
  goes_marked true k p s g = g
  goes_marked false k p s g = goes_fails s.place k s.failed

  pub moves_many : (p : Reading (List Node)) → Moves 0 p → (n : ℕ) → Moves 0 (many_up_to p n)
  unfolding many_up_to
  moves_many p h zero = record { on = λ s i. goes_read s.place 0 [] s (omega arith) i }
  moves_many p h (suc n) = record { on = λ s i. go s (p s) i (h.on s i) (moves_many p h n) }
    where
      go : (s : Position) (o : Outcome (List Node)) → s.place ≤ length text → Goes s.place 0 o → Moves 0 (many_up_to p n) → Goes s.place 0 (many_on s (many_up_to p n) o)
      go s (read xs u) i g r = let w = g u xs refl in goes_front s.place 0 xs (many_up_to p n u) (goes_behind s.place 0 u.place (many_up_to p n u) w.0 0 (r.on u w.1))
      go s (fails m) i g r = goes_read s.place 0 [] (record { place = s.place; failed = m }) (omega arith) i
      go s (too_deep m) i g r = goes_deep s.place 0 m

  -- with turns enough for what is left of the text, more turns change nothing
  pub same_with_more : (p : Reading (List Node)) → Moves 1 p → (n m : ℕ) (s : Position) → s.place ≤ length text → length text < n + s.place → n ≤ m → many_up_to p m s ≡ many_up_to p n s
  unfolding many_up_to
  same_with_more p h zero m s i e l = absurd (omega arith)
  same_with_more p h (suc n) zero s i e l = absurd (omega arith)
  same_with_more p h (suc n) (suc m) s i e l = go (p s) (h.on s i) (λ t a b. same_with_more p h n m t a b (omega arith))
    where
      go : (o : Outcome (List Node)) → Goes s.place 1 o → ((t : Position) → t.place ≤ length text → length text < n + t.place → many_up_to p m t ≡ many_up_to p n t) → many_on s (many_up_to p m) o ≡ many_on s (many_up_to p n) o
      go (read xs t) g f = let w = g t xs refl in let a = w.0 in let b = w.1 in ap (with_front xs) (f t b (omega arith))
      go (fails k) g f = refl
      go (too_deep k) g f = refl
