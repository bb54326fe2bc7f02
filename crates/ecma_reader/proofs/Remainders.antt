-- What remains of a choice is read as the choice is.
use Rattle.std.proofs.Common.{◌≡◌, ℕ, ◌<◌, ◌≤◌, max, Bool, true, false, List, refl, sym, ◌∙◌, subst, arith}
use Rattle.ecma_lex.specs.Blanks.{skipped}
use Rattle.ecma_grammar.specs.declared.production.Mode.{Mode}
use Rattle.ecma_grammar.specs.declared.productions.glances.Glance.{Glance}
use Rattle.ecma_grammar.specs.declared.productions.glances.Glance.TheVariants as glance
use Rattle.ecma_reader.specs.FirstByte.{first_byte}
use Rattle.ecma_grammar.specs.Grammar as grammar
use Rattle.ecma_grammar.specs.Grammar.{Grammar}
use Rattle.ecma_grammar.specs.Reading.{Position, fails}
use Rattle.ecma_grammar.specs.Reads.{Parts, reads_with_types}
use Rattle.ecma_grammar.specs.Glance.{Sight, unknown, passes, rests, stays, sight, is_failing, leads_nowhere, remainder, Remains, Says}
use Rattle.ecma_grammar.specs.Glance as seen
use Rattle.ecma_reader.specs.Outlook.{Fails, outlook, IsSeen, Tells}
use Rattle.ecma_reader.proofs.Outlooks.{Foresees, foreseen}
use Rattle.ecma_reader.proofs.Sights.{sees-fails, sees-passes}
use Rattle.ecma_reader.proofs.Sizes.{size}

failing-fails : (x : Sight) → is_failing x ≡ true → x ≡ seen.fails
failing-fails seen.fails h = refl
failing-fails unknown h = cc
failing-fails passes h = cc
failing-fails rests h = cc
failing-fails stays h = cc

module _ (text : List ℕ) (mode : Mode) (parts : Parts text) (i : ℕ) (all : IsSeen text i mode) where
  first-fails : (a : Grammar) (failed : ℕ) → is_failing (sight (first_byte text i) a) ≡ true
      → reads_with_types text mode parts a (record { place = i; failed = failed }) ≡ fails (max failed (skipped text i).to)
  first-fails a failed h =
      let known : outlook text i mode a ≡ Fails (skipped text i).to = sees-fails text i (first_byte text i) mode a refl all.some all.small all.typescript all.assignments (failing-fails (sight (first_byte text i) a) h) in
      subst (λ o. Foresees o (record { place = i; failed = failed }) (reads_with_types text mode parts a (record { place = i; failed = failed }))) known (foreseen text mode parts a (record { place = i; failed = failed }))

  -- where terminals failed there before
  remainder-same : (g : Grammar) (failed : ℕ) → (skipped text i).to ≤ failed
      → reads_with_types text mode parts g (record { place = i; failed = failed }) ≡ reads_with_types text mode parts (remainder (first_byte text i) g) (record { place = i; failed = failed })
  remainder-same (grammar.◌//◌ a b) failed le = go (is_failing (sight (first_byte text i) a)) refl (remainder-same b failed le)
    where
      go : (x : Bool) → is_failing (sight (first_byte text i) a) ≡ x
          → reads_with_types text mode parts b (record { place = i; failed = failed }) ≡ reads_with_types text mode parts (remainder (first_byte text i) b) (record { place = i; failed = failed })
          → reads_with_types text mode parts (grammar.◌//◌ a b) (record { place = i; failed = failed }) ≡ reads_with_types text mode parts (remainder (first_byte text i) (grammar.◌//◌ a b)) (record { place = i; failed = failed })
      go true h rest =
          let same : max failed (skipped text i).to ≡ failed = omega (arith, le) in
          rw (h, first-fails a failed h, same) rest
      go false h rest = rw h refl
  remainder-same grammar.nothing failed le = refl
  remainder-same grammar.same_line failed le = refl
  remainder-same (grammar.take t) failed le = refl
  remainder-same (grammar.keep l) failed le = refl
  remainder-same (grammar.put f) failed le = refl
  remainder-same (grammar.◌▸◌ a b) failed le = refl
  remainder-same (grammar.many a) failed le = refl
  remainder-same (grammar.ahead a) failed le = refl
  remainder-same (grammar.unless a) failed le = refl
  remainder-same (grammar.marked a) failed le = refl
  remainder-same (grammar.assigned a) failed le = refl
  remainder-same (grammar.up u) failed le = refl
  remainder-same (grammar.enter u) failed le = refl
  remainder-same (grammar.behind t u) failed le = refl
  remainder-same (grammar.build f a) failed le = refl

  pub remainder-reads : (g : Grammar) (failed : ℕ) → leads_nowhere (first_byte text i) g ≡ true
      → reads_with_types text mode parts g (record { place = i; failed = failed }) ≡ reads_with_types text mode parts (remainder (first_byte text i) g) (record { place = i; failed = max failed (skipped text i).to })
  remainder-reads (grammar.◌//◌ a b) failed h = rw (h, first-fails a failed h) (remainder-same b (max failed (skipped text i).to) (omega arith))
  remainder-reads grammar.nothing failed h = cc
  remainder-reads grammar.same_line failed h = cc
  remainder-reads (grammar.take t) failed h = cc
  remainder-reads (grammar.keep l) failed h = cc
  remainder-reads (grammar.put f) failed h = cc
  remainder-reads (grammar.◌▸◌ a b) failed h = cc
  remainder-reads (grammar.many a) failed h = cc
  remainder-reads (grammar.ahead a) failed h = cc
  remainder-reads (grammar.unless a) failed h = cc
  remainder-reads (grammar.marked a) failed h = cc
  remainder-reads (grammar.assigned a) failed h = cc
  remainder-reads (grammar.up u) failed h = cc
  remainder-reads (grammar.enter u) failed h = cc
  remainder-reads (grammar.behind t u) failed h = cc
  remainder-reads (grammar.build f a) failed h = cc

-- what the first byte says of a grammar is what the tokens ahead say
pub saying-tells : (text : List ℕ) (i : ℕ) (mode : Mode) (g : Grammar) (glance' : Glance) → IsSeen text i mode → Says glance' (first_byte text i) g → Tells text i mode g glance'
saying-tells text i mode g glance.Open all says = tt
saying-tells text i mode g glance.Fails all says = sees-fails text i (first_byte text i) mode g refl all.some all.small all.typescript all.assignments says
saying-tells text i mode g glance.Passes all says = sees-passes text i (first_byte text i) mode g refl all.some all.small all.typescript all.assignments says
saying-tells text i mode g (glance.Remains rest) all says = (all, says)

-- what remains says less
remainder-size : (byte : ℕ) (g : Grammar) → size (remainder byte g) ≤ size g
remainder-size byte (grammar.◌//◌ a b) = go (is_failing (sight byte a)) refl (remainder-size byte b)
  where
    go : (x : Bool) → is_failing (sight byte a) ≡ x → size (remainder byte b) ≤ size b → size (remainder byte (grammar.◌//◌ a b)) ≤ size (grammar.◌//◌ a b)
    go true h less = rw h (omega (arith, less))
    go false h less = rw h (omega arith)
remainder-size byte grammar.nothing = omega arith
remainder-size byte grammar.same_line = omega arith
remainder-size byte (grammar.take t) = omega arith
remainder-size byte (grammar.keep l) = omega arith
remainder-size byte (grammar.put f) = omega arith
remainder-size byte (grammar.◌▸◌ a b) = omega arith
remainder-size byte (grammar.many a) = omega arith
remainder-size byte (grammar.ahead a) = omega arith
remainder-size byte (grammar.unless a) = omega arith
remainder-size byte (grammar.marked a) = omega arith
remainder-size byte (grammar.assigned a) = omega arith
remainder-size byte (grammar.up u) = omega arith
remainder-size byte (grammar.enter u) = omega arith
remainder-size byte (grammar.behind t u) = omega arith
remainder-size byte (grammar.build f a) = omega arith

remainder-less : (byte : ℕ) (g : Grammar) → leads_nowhere byte g ≡ true → size (remainder byte g) < size g
remainder-less byte (grammar.◌//◌ a b) h = rw h (omega (arith, remainder-size byte b))
remainder-less byte grammar.nothing h = cc
remainder-less byte grammar.same_line h = cc
remainder-less byte (grammar.take t) h = cc
remainder-less byte (grammar.keep l) h = cc
remainder-less byte (grammar.put f) h = cc
remainder-less byte (grammar.◌▸◌ a b) h = cc
remainder-less byte (grammar.many a) h = cc
remainder-less byte (grammar.ahead a) h = cc
remainder-less byte (grammar.unless a) h = cc
remainder-less byte (grammar.marked a) h = cc
remainder-less byte (grammar.assigned a) h = cc
remainder-less byte (grammar.up u) h = cc
remainder-less byte (grammar.enter u) h = cc
remainder-less byte (grammar.behind t u) h = cc
remainder-less byte (grammar.build f a) h = cc

pub remains-less : (byte : ℕ) (g rest : Grammar) → Remains byte g rest → size rest < size g
remains-less byte g rest h = subst (λ x. size x < size g) h.1 (remainder-less byte g h.0)

stands-at : (t : Position) (place failed : ℕ) → t.place ≡ place → t.failed ≡ failed → t ≡ record { place = place; failed = failed }
stands-at t place failed h k = rw (← h, ← k) refl

-- what remains of a choice, whose tokens were looked at there
pub remains-known : (text seen : List ℕ) (mode seen_mode : Mode) (i : ℕ) (g rest : Grammar) (s t : Position) (failed : ℕ)
    → IsSeen seen i seen_mode × Remains (first_byte seen i) g rest → seen ≡ text → seen_mode ≡ mode → i ≡ s.place → failed ≡ s.failed → t.place ≡ i → t.failed ≡ max failed (skipped seen i).to
    → Remains (first_byte text s.place) g rest × ((parts : Parts text) → reads_with_types text mode parts g s ≡ reads_with_types text mode parts rest t)
remains-known text seen mode seen_mode i g rest s t failed known same same_mode here before there after =
    let all : IsSeen text s.place mode = rw (← same, ← same_mode, ← here) known.0 in
    let remains : Remains (first_byte text s.place) g rest = rw (← same, ← here) known.1 in
    let at : t ≡ record { place = s.place; failed = max s.failed (skipped text s.place).to } = stands-at t s.place (max s.failed (skipped text s.place).to) (there ∙ here) (after ∙ rw (before, same, here) refl) in (
      remains,
      λ parts.
          subst (λ x. reads_with_types text mode parts g s ≡ reads_with_types text mode parts x t) remains.1
          (subst (λ p. reads_with_types text mode parts g s ≡ reads_with_types text mode parts (remainder (first_byte text s.place) g) p) (sym at) (remainder-reads text mode parts s.place all g s.failed remains.0)),
    )
