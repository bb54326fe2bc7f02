-- Repetitions that end by themselves, and lists with commas between.
use Rattle.std.proofs.Common.{◌≡◌, ℕ, zero, suc, ◌<◌, Bool, true, List, [], ◌++◌, ap, ◌∙◌, arith, nat_le}
use Rattle.ecma_tree.specs.declared.node.Node.{Node}
use Rattle.ecma_grammar.specs.Grammar as grammar
use Rattle.ecma_grammar.specs.Grammar.{Grammar}
use Rattle.ecma_print_tokens.specs.Items.{Items}
use Rattle.ecma_print_readings.proofs.Machine.{read, fails, with_front, many_on, many_up_to, interp, means}
use Rattle.ecma_shapes.proofs.Signs.{count}
use Rattle.ecma_print_readings.proofs.Moves.{eats, leaves}
use Rattle.ecma_print_readings.proofs.Levels.{means_move}

module _ (assigned : Bool) where
  -- with turns enough
  abbrev pub Repeats : Grammar → Items → List Node → Items → Type 0
  Repeats a ts xs us = (n : ℕ) → count ts < n → many_up_to (interp assigned (means assigned) a) n ts ≡ read xs us

  pub repeats_end : (a : Grammar) (ts : Items) → interp assigned (means assigned) a ts ≡ fails → Repeats a ts [] ts
  unfolding many_up_to
  repeats_end a ts h zero l = absurd (omega arith)
  repeats_end a ts h (suc n) l = ap (many_on (many_up_to (interp assigned (means assigned) a) n) ts) h

  pub repeats_more : (a : Grammar) → nat_le 1 (eats a) ≡ true → (ts us vs : Items) (xs ys : List Node) → interp assigned (means assigned) a ts ≡ read xs us → Repeats a us ys vs → Repeats a ts (xs ++ ys) vs
  unfolding many_up_to
  repeats_more a z ts us vs xs ys h r zero l = absurd (omega arith)
  repeats_more a z ts us vs xs ys h r (suc n) l =
      let b = leaves assigned (means assigned) (means_move assigned) a ts xs us h in
      let c : count us < n = grind arith in
      ap (many_on (many_up_to (interp assigned (means assigned) a) n) ts) h ∙ ap (with_front xs) (r n c)

  pub repeated : (a : Grammar) (ts us : Items) (xs : List Node) → Repeats a ts xs us → interp assigned (means assigned) (grammar.many a) ts ≡ read xs us
  repeated a ts us xs r = r (suc (count ts)) (omega arith)
