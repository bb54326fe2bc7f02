-- What holds of readings by one induction over grammars and one over levels: they go on, and repetitions end by themselves.
use Rattle.std.proofs.Common.{◌≡◌, ℕ, zero, suc, ◌+◌, ◌≤◌, Bool, true, false, ◌&&◌, ◌||◌, List, [], ◌∷◌, length, refl, subst, arith}
use Rattle.std.specs.List.{All, list_all}
use Rattle.std.proofs.lemmas.List.Elements.{All-nil, All-cons}
use Rattle.std.specs.Str.{IsUtf8}
use Rattle.ecma_lex.specs.Blanks.{skipped}
use Rattle.ecma_tree.specs.declared.node.Node.{Node}
use Rattle.ecma_grammar.specs.declared.production.Mode.{Mode}
use Rattle.ecma_grammar.specs.declared.production.Part.{Part}
use Rattle.ecma_grammar.specs.declared.production.Form.{Form}
use Rattle.ecma_grammar.specs.Grammar.{Grammar, nothing, same_line, take, keep, put, ◌▸◌, ◌//◌, many, ahead, unless, marked, assigned, up, enter, behind, build}
use Rattle.ecma_grammar.specs.Reading.{Outcome, read, fails, too_deep}
use Rattle.ecma_grammar.specs.Reads.{reads, levels, levels_by, Parts, built_on, token, next_start}
use Rattle.ecma_grammar.specs.Made.{made}
use Rattle.ecma_grammar.specs.PartBodies.{part_body}
use Rattle.ecma_grammar.specs.productions.Modules.{module_body}
use Rattle.ecma_grammar_laws.specs.Takes.{takes, part_takes, terminal_takes, repeated}
use Rattle.ecma_grammar_laws.specs.Laws.{ReadingsMoveOn, RepetitionsEnd}
use Rattle.ecma_grammar_laws.specs.Repetitions.{EndsItself, reads_with}
use Rattle.ecma_grammar_laws.proofs.Moves.{least, Goes, Moves, goes_read, goes_fails, goes_deep, goes_less, goes_then, goes_followed, goes_or, goes_ahead, goes_unless, goes_marked, moves_many, same_with_more}
use Rattle.ecma_grammar_laws.proofs.Terminals.{moves_token, moves_leaf, goes_same_line}
use Rattle.ecma_grammar_laws.proofs.Taking.{parts_take, module_repeats, parts_repeat}

both : (a b : Bool) → (a && b) ≡ true → (a ≡ true) × (b ≡ true)
both true b h = (refl, h)
both false b h = cc

either_least : (a b : Bool) → least (a || b) ≤ least a + least b
either_least true true = omega arith
either_least true false = omega arith
either_least false true = omega arith
either_least false false = omega arith

both_left : (a b : Bool) → least (a && b) ≤ least a
both_left true true = omega arith
both_left true false = omega arith
both_left false b = omega arith

both_right : (a b : Bool) → least (a && b) ≤ least b
both_right true b = omega arith
both_right false true = omega arith
both_right false false = omega arith

least_taken : (a b : Bool) → (a ≡ true → b ≡ true) → least a ≤ least b
least_taken true true h = omega arith
least_taken true false h = let z = h refl in cc
least_taken false b h = omega arith

module _ (text : List ℕ) (u : IsUtf8 text) (mode : Mode) where
  abbrev PartsMove : Parts text → Type 0
  PartsMove parts = (p : Part) (at : ℕ) → Moves text (least (part_takes p)) (parts p at)

  goes_built : (form : Form) (lo from k : ℕ) (o : Outcome (List Node)) → Goes text from k o → Goes text from k (built_on form lo o)
  goes_built form lo from k (read xs t) g = let w = g t xs refl in goes_read text from k (made form lo t.place xs ∷ []) t w.0 w.1
  goes_built form lo from k (fails n) g = goes_fails text from k n
  goes_built form lo from k (too_deep n) g = goes_deep text from k n

  module _ (parts : Parts text) (h : PartsMove parts) where
    moves : (g : Grammar) → Moves text (least (takes g)) (reads text mode parts g)
    moves nothing = record { on = λ s i. goes_read text s.place 0 [] s (omega arith) i }
    moves same_line = record { on = λ s i. goes_same_line text u s (skipped text s.place) i }
    moves (take t) = record { on = λ s i. goes_less text s.place (least (terminal_takes t) + 0) (least (terminal_takes t)) _ (omega arith) (goes_then text s.place (least (terminal_takes t)) 0 (λ k. λ s. read [] s) (token text t s) ((moves_token text u t).on s i) (λ k. record { on = λ s i. goes_read text s.place 0 [] s (omega arith) i })) }
    moves (keep l) = record { on = λ s i. (moves_leaf text u l).on s i }
    moves (put f) = record { on = λ s i. goes_read text s.place 0 _ s (omega arith) i }
    moves (a ▸ b) = record { on = λ s i. goes_less text s.place (least (takes a) + least (takes b)) (least (takes (a ▸ b))) _ (either_least (takes a) (takes b)) (goes_followed text s.place (least (takes a)) (least (takes b)) (reads text mode parts b) (reads text mode parts a s) ((moves a).on s i) (moves b)) }
    moves (a // b) = record {
      on = λ s i. goes_or text (least (takes (a // b))) s (reads text mode parts b) (reads text mode parts a s) i
          (goes_less text s.place (least (takes a)) (least (takes (a // b))) _ (both_left (takes a) (takes b)) ((moves a).on s i))
          (record { on = λ t j. goes_less text t.place (least (takes b)) (least (takes (a // b))) _ (both_right (takes a) (takes b)) ((moves b).on t j) });
    }
    moves (many a) = record { on = λ s i. (moves_many text (reads text mode parts a) (record { on = λ t j. goes_less text t.place (least (takes a)) 0 _ (omega arith) ((moves a).on t j) }) (length text + 1)).on s i }
    moves (ahead a) = record { on = λ s i. goes_ahead text s (reads text mode parts a s) i }
    moves (unless nothing) = record { on = λ s i. goes_fails text s.place 1 s.failed }
    moves (unless a) = record { on = λ s i. goes_unless text s (reads text mode parts a s) i }
    moves (marked a) = record { on = λ s i. goes_marked text mode.typescript (least (takes a)) (reads text mode parts a) s ((moves a).on s i) }
    moves (assigned a) = record { on = λ s i. goes_marked text mode.assignments (least (takes a)) (reads text mode parts a) s ((moves a).on s i) }
    moves (up p) = record { on = λ s i. (h p s.place).on s i }
    moves (enter p) = record { on = λ s i. (h p (next_start text s)).on s i }
    moves (behind t p) = record {
      on = λ s i. goes_less text s.place (least (terminal_takes t) + least (part_takes p)) (least (takes (behind t p))) _ (either_least (terminal_takes t) (part_takes p))
          (goes_then text s.place (least (terminal_takes t)) (least (part_takes p)) (λ k. parts p k.start) (token text t s) ((moves_token text u t).on s i) (λ k. h p k.start));
    }
    moves (build form a) = record { on = λ s i. goes_built form (next_start text s) s.place (least (takes a)) (reads text mode parts a s) ((moves a).on s i) }

  levels_move : (n : ℕ) → PartsMove (levels text mode n)
  unfolding levels_by
  levels_move zero p at = record { on = λ s i. goes_deep text s.place (least (part_takes p)) at }
  levels_move (suc n) p at = record {
    on = λ s i. goes_less text s.place (least (takes (part_body p))) (least (part_takes p)) _ (least_taken (part_takes p) (takes (part_body p)) (parts_take p)) ((moves (levels text mode n) (levels_move n) (part_body p)).on s i);
  }

  ends_itself : (n : ℕ) (a : Grammar) → takes a ≡ true → EndsItself text (reads_with text mode n a)
  ends_itself n a h s m i l =
      let moves_one : Moves text 1 (reads_with text mode n a) = subst (λ b. Moves text (least b) (reads_with text mode n a)) h (moves (levels text mode n) (levels_move n) a) in
      same_with_more text (reads_with text mode n a) moves_one (length text + 1) m s i (omega arith) l

  all_end : (n : ℕ) (gs : List Grammar) → list_all takes gs ≡ true → All (λ a. EndsItself text (reads_with text mode n a)) gs
  all_end n [] h = All-nil (λ g. EndsItself text (reads_with text mode n g))
  all_end n (a ∷ gs) h = let t = both (takes a) (list_all takes gs) h in All-cons (λ g. EndsItself text (reads_with text mode n g)) a gs (ends_itself n a t.0) (all_end n gs t.1)

pub readings_move_on : ReadingsMoveOn
readings_move_on text mode left g s t kept u i h =
    let w = (moves text u mode (levels text mode left) (levels_move text u mode left) g).on s i t kept h in
    let a = w.0 in
    (omega arith, w.1, λ e. (let b = subst (λ x. s.place + least x ≤ t.place) e a in omega arith))

pub repetitions_end : RepetitionsEnd
repetitions_end text mode left u = (all_end text u mode left (repeated module_body) module_repeats, λ p. all_end text u mode left (repeated (part_body p)) (parts_repeat p))
