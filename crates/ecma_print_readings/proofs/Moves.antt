-- What a reading leaves is no longer than what it began with, by as much as a grammar says.
use Rattle.std.proofs.Common.{◌≡◌, ℕ, zero, suc, ◌+◌, min, ◌≤◌, Bool, true, false, List, [], ◌++◌, refl, arith, if◌then◌else◌}
use Rattle.ecma_tree.specs.declared.node.Node.{Node}
use Rattle.ecma_grammar.specs.declared.production.Part.{Part}
use Rattle.ecma_grammar.specs.declared.production.Part.TheVariants as part
use Rattle.ecma_grammar.specs.declared.production.Link.TheVariants as link
use Rattle.ecma_grammar.specs.declared.production.Form.{Form}
use Rattle.ecma_grammar.specs.Grammar as grammar
use Rattle.ecma_grammar.specs.Grammar.{Grammar}
use Rattle.ecma_print_tokens.specs.Items.{Items}
use Rattle.ecma_print_tokens.specs.Taking as taking
use Rattle.ecma_print_tokens.specs.Taking.{Took, took, refused, token_in, leaf_in, new_line_in}
use Rattle.ecma_print_readings.proofs.Machine.{Out, read, fails, unsure, Turn, taken, kept, behind_on, with_front, followed_on, or_on, many_on, many_up_to, ahead_on, unless_on, built_on, interp}
use Rattle.ecma_shapes.proofs.Signs.{count}
use Rattle.ecma_print_readings.proofs.Takes.{Shorter, token_eats, token_taken, leaf_taken}

-- how many tokens are taken at least: by a part, all but `!`, which is taken before the part
abbrev pub part_eats : Part → ℕ
part_eats (part.Link link.NonNull) = 0
part_eats (part.NewLink link.NonNull) = 0
part_eats u = 1

-- ... by a grammar
abbrev pub eats : Grammar → ℕ
eats grammar.nothing = 0
eats grammar.same_line = 0
eats (grammar.take t) = token_eats t
eats (grammar.keep l) = 1
eats (grammar.put f) = 0
eats (grammar.◌▸◌ a b) = eats a + eats b
eats (grammar.◌//◌ a b) = min (eats a) (eats b)
eats (grammar.many a) = 0
eats (grammar.ahead a) = 0
-- nothing is read there
eats (grammar.unless grammar.nothing) = 1
eats (grammar.unless a) = 0
eats (grammar.marked a) = 1
eats (grammar.assigned a) = eats a
eats (grammar.up u) = part_eats u
eats (grammar.enter u) = part_eats u
eats (grammar.behind t u) = token_eats t + part_eats u
eats (grammar.build f a) = eats a

-- k tokens are gone
abbrev pub Leaves : ℕ → Items → Out → Type 0
Leaves k ts o = (xs : List Node) (us : Items) → o ≡ read xs us → count us + k ≤ count ts

leaves_nothing : (k : ℕ) (ts : Items) → Leaves k ts fails
leaves_nothing k ts xs us e = cc

leaves_read : (k : ℕ) (ts : Items) (xs : List Node) (us : Items) → count us + k ≤ count ts → Leaves k ts (read xs us)
leaves_read k ts xs us h ys vs e = (let z : us ≡ vs = cc in rw (← z) h)

leaves_taken : (k : ℕ) (ts : Items) (o : Took) → Shorter k ts o → Leaves k ts (taken o)
leaves_taken k ts (took w us) h = leaves_read k ts [] us (h w us refl)
leaves_taken k ts refused h = λ xs us e. cc
leaves_taken k ts taking.unsure h = λ xs us e. cc

leaves_front : (k : ℕ) (ts : Items) (xs : List Node) (o : Out) → Leaves k ts o → Leaves k ts (with_front xs o)
leaves_front k ts xs (read ys us) h = leaves_read k ts (xs ++ ys) us (h ys us refl)
leaves_front k ts xs fails h = λ ys us e. cc
leaves_front k ts xs unsure h = λ ys us e. cc

leaves_followed : (f : Turn) (k j : ℕ) (ts : Items) (o : Out) → Leaves k ts o → ((us : Items) → Leaves j us (f us)) → Leaves (k + j) ts (followed_on f o)
leaves_followed f k j ts (read xs us) h r = λ ys vs e. (let a = h xs us refl in let b = leaves_front j us xs (f us) (r us) ys vs e in omega arith)
leaves_followed f k j ts fails h r = λ xs us e. cc
leaves_followed f k j ts unsure h r = λ xs us e. cc

leaves_behind : (f : Turn) (k j : ℕ) (ts : Items) (o : Took) → Shorter k ts o → ((us : Items) → Leaves j us (f us)) → Leaves (k + j) ts (behind_on f o)
leaves_behind f k j ts (took w us) h r = λ ys vs e. (let a = h w us refl in let b = r us ys vs e in omega arith)
leaves_behind f k j ts refused h r = λ xs us e. cc
leaves_behind f k j ts taking.unsure h r = λ xs us e. cc

leaves_or : (f : Turn) (k j : ℕ) (ts : Items) (o : Out) → Leaves k ts o → Leaves j ts (f ts) → Leaves (min k j) ts (or_on f ts o)
leaves_or f k j ts (read xs us) h r = λ ys vs e. (let a = h ys vs e in omega arith)
leaves_or f k j ts fails h r = λ ys vs e. (let a = r ys vs e in omega arith)
leaves_or f k j ts unsure h r = λ ys vs e. cc

leaves_many : (f : Turn) → ((ts : Items) → Leaves 0 ts (f ts)) → (n : ℕ) (ts : Items) → Leaves 0 ts (many_up_to f n ts)
unfolding many_up_to
leaves_many f h zero ts = leaves_read 0 ts [] ts (omega arith)
leaves_many f h (suc n) ts = go (f ts) (h ts) (leaves_many f h n)
  where
    go : (o : Out) → Leaves 0 ts o → ((us : Items) → Leaves 0 us (many_up_to f n us)) → Leaves 0 ts (many_on (many_up_to f n) ts o)
    go (read xs us) a r = λ ys vs e. (let b = a xs us refl in let c = leaves_front 0 us xs (many_up_to f n us) (r us) ys vs e in omega arith)
    go fails a r = leaves_read 0 ts [] ts (omega arith)
    go unsure a r = λ ys vs e. cc

leaves_built : (form : Form) (k : ℕ) (ts : Items) (o : Out) → Leaves k ts o → Leaves k ts (built_on form o)
leaves_built form k ts (read xs us) h = leaves_read k ts _ us (h xs us refl)
leaves_built form k ts fails h = λ ys us e. cc
leaves_built form k ts unsure h = λ ys us e. cc

leaves_ahead : (ts : Items) (o : Out) → Leaves 0 ts (ahead_on ts o)
leaves_ahead ts (read xs us) = leaves_read 0 ts [] ts (omega arith)
leaves_ahead ts fails = λ ys us e. cc
leaves_ahead ts unsure = λ ys us e. cc

leaves_unless : (ts : Items) (o : Out) → Leaves 0 ts (unless_on ts o)
leaves_unless ts (read xs us) = λ ys us e. cc
leaves_unless ts fails = leaves_read 0 ts [] ts (omega arith)
leaves_unless ts unsure = λ ys us e. cc

leaves_if : (b : Bool) (k : ℕ) (ts : Items) (o : Out) → Leaves k ts o → Leaves k ts (if b then o else fails)
leaves_if true k ts o h = h
leaves_if false k ts o h = leaves_nothing k ts

leaves_line : (b : Bool) (ts : Items) → Leaves 0 ts (if b then fails else read [] ts)
leaves_line true ts = leaves_nothing 0 ts
leaves_line false ts = leaves_read 0 ts [] ts (omega arith)

leaves_kept : (l : _) (ts : Items) (o : Took) → Shorter 1 ts o → Leaves 1 ts (kept l o)
leaves_kept l ts (took w us) h = leaves_read 1 ts _ us (h w us refl)
leaves_kept l ts refused h = λ xs us e. cc
leaves_kept l ts taking.unsure h = λ xs us e. cc

-- a part takes its tokens
abbrev pub Moves : (Part → Turn) → Type 0
Moves p = (u : Part) (ts : Items) → Leaves (part_eats u) ts (p u ts)

module _ (assignments : Bool) (p : Part → Turn) (moves : Moves p) where
  pub leaves : (g : Grammar) (ts : Items) → Leaves (eats g) ts (interp assignments p g ts)
  leaves grammar.nothing ts = leaves_read 0 ts [] ts (omega arith)
  leaves grammar.same_line ts = leaves_line (new_line_in ts) ts
  leaves (grammar.take t) ts = leaves_taken (token_eats t) ts (token_in t ts) (token_taken t ts)
  leaves (grammar.keep l) ts = leaves_kept l ts (leaf_in l ts) (leaf_taken l ts)
  leaves (grammar.put f) ts = leaves_read 0 ts _ ts (omega arith)
  leaves (grammar.◌▸◌ a b) ts = leaves_followed (interp assignments p b) (eats a) (eats b) ts (interp assignments p a ts) (leaves a ts) (leaves b)
  leaves (grammar.◌//◌ a b) ts = leaves_or (interp assignments p b) (eats a) (eats b) ts (interp assignments p a ts) (leaves a ts) (leaves b ts)
  leaves (grammar.many a) ts = leaves_many (interp assignments p a) (λ us xs vs e. (let z = leaves a us xs vs e in omega arith)) (suc (count ts)) ts
  leaves (grammar.ahead a) ts = leaves_ahead ts (interp assignments p a ts)
  leaves (grammar.unless grammar.nothing) ts = leaves_nothing 1 ts
  leaves (grammar.unless a) ts = leaves_unless ts (interp assignments p a ts)
  leaves (grammar.marked a) ts = leaves_nothing 1 ts
  leaves (grammar.assigned a) ts = leaves_if assignments (eats a) ts (interp assignments p a ts) (leaves a ts)
  leaves (grammar.up u) ts = moves u ts
  leaves (grammar.enter u) ts = moves u ts
  leaves (grammar.behind t u) ts = leaves_behind (p u) (token_eats t) (part_eats u) ts (token_in t ts) (token_taken t ts) (moves u)
  leaves (grammar.build f a) ts = leaves_built f (eats a) ts (interp assignments p a ts) (leaves a ts)
