-- `new Date()` is open where no scope around declares `Date` with the context of what is not resolved.
use Rattle.std.proofs.Common.{◌≡◌, refl, sym, subst, ℕ, List, [], ◌∷◌, Bool, true, false, ◌&&◌, ◌||◌, ◌==◌, not, bytes_eq, codes}
use Rattle.std.specs.List.{list_all}
use Rattle.std.proofs.lemmas.Bool.{false≢true}
use Rattle.ecma_judge.specs.declared.ctx.ExprCtx.{ExprCtx}
use Rattle.ecma_runs.specs.Values.{Value}
use Rattle.ecma_runs.specs.State.{Id, same_id, Entered, State}
use Rattle.ecma_runs.specs.Run.{Outcome, Done, Thrown, Returned, Broken, Continued, Ended, Run, then_outcome, ◌>>=◌, give, outside, when}
use Rattle.ecma_runs.specs.Environment.{Reference, ToVariable, ToFree, resolved, is_among}
use Rattle.ecma_runs.specs.Host.{is_open_object}
use Rattle.ecma_runs.specs.Enums.{enum_of, is_hidden}
use Rattle.ecma_runs.specs.Meaning.{ExecutionContext}
use Rattle.ecma_runs.specs.Expressions.{named}
use Rattle.ecma_runs.specs.Functions.{read_object}
use Rattle.ecma_runs.proofs.Names.{same_id-equal}
use Rattle.ecma_extract_runs.specs.Evaluated.{declares_no_global}
use Rattle.ecma_extract_runs.proofs.Leading.{Undone, undone_thrown, undone_returned, undone_broken, undone_continued, undone_end, undone_on}

pub undone_together : {A B C : Type 0} (r : Outcome A) (k : A → Run B) (l : B → Run C) → Undone (then_outcome r k) → Undone (then_outcome r (λ a. k a >>= l))
undone_together (Done a s) k l h = undone_on l h
undone_together (Thrown v s) k l h = undone_thrown
undone_together (Returned v s) k l h = undone_returned
undone_together (Broken s) k l h = undone_broken
undone_together (Continued s) k l h = undone_continued
undone_together (Ended why s) k l h = undone_end

pub both_true : (a b : Bool) → (a && b) ≡ true → (a ≡ true) × (b ≡ true)
both_true true b h = (refl, h)
both_true false b h = absurd (false≢true h)

second_is : (a b : Bool) → b ≡ true → (a || b) ≡ true
second_is true b h = refl
second_is false b h = h

-- a truth and its contrary are not both true
pub not_both : (b : Bool) → b ≡ true → not b ≡ true → ⊥
not_both true h g = false≢true g
not_both false h g = false≢true h

module _ (ctx : ExprCtx) (id : Id) (unresolved : (id.ctxt == ctx.unresolved_ctxt) ≡ true) where
  differs : (other : Id) → not (other.ctxt == ctx.unresolved_ctxt) ≡ true → (b : Bool) → same_id other id ≡ b → b ≡ false
  differs other d false e = refl
  differs other d true e = absurd (not_both (id.ctxt == ctx.unresolved_ctxt) unresolved (subst (λ (z : Id). not (z.ctxt == ctx.unresolved_ctxt) ≡ true) (same_id-equal other id e) d))

  none_among : (ids : List Id) → list_all (λ (z : Id). not (z.ctxt == ctx.unresolved_ctxt)) ids ≡ true → is_among id ids ≡ false
  none_among [] d = refl
  none_among (other ∷ ids) d =
      let t = both_true (not (other.ctxt == ctx.unresolved_ctxt)) (list_all (λ (z : Id). not (z.ctxt == ctx.unresolved_ctxt)) ids) d in
      neither (same_id other id) (is_among id ids) (differs other t.0 (same_id other id) refl) (none_among ids t.1)
    where
      neither : (a b : Bool) → a ≡ false → b ≡ false → (a || b) ≡ false
      neither false b h g = g
      neither true b h g = h

  open_date : (x : ExecutionContext) (name : List ℕ) → bytes_eq name (codes "Date") ≡ true → (b : Bool) (s : State) → Undone (then_outcome (when b outside (give (ToFree name)) s) (λ r. read_object x r))
  open_date x name is true s = undone_end
  open_date x name is false s = by (is_open_object name) _ (second_is (bytes_eq name (codes "Math")) (bytes_eq name (codes "Date")) is)
    where
      by : (b : Bool) (m : Run Value) → b ≡ true → Undone (when b outside m s)
      by true m h = undone_end
      by false m h = absurd (false≢true h)

  hidden_undone : (x : ExecutionContext) (b : Bool) (m : Run Reference) (s : State) → Undone (then_outcome (m s) (λ r. read_object x r)) → Undone (then_outcome (when b outside m s) (λ r. read_object x r))
  hidden_undone x true m s h = undone_end
  hidden_undone x false m s h = h

  passed : (x : ExecutionContext) (b : Bool) → b ≡ false → (m m' : Run Reference) (s : State) → Undone (then_outcome (m' s) (λ r. read_object x r)) → Undone (then_outcome (when b m m' s) (λ r. read_object x r))
  passed x false h m m' s g = g
  passed x true h m m' s g = absurd (false≢true (sym h))

  pub date_undone : (x : ExecutionContext) (scope : List Entered) → declares_no_global ctx scope ≡ true → bytes_eq id.sym (codes "Date") ≡ true → (declared : List Id) (s : State)
      → Undone (then_outcome (resolved scope declared id s) (λ r. read_object x r))
  date_undone x [] d is declared s = open_date x id.sym is (is_among id declared) s
  date_undone x (e ∷ outer) d is declared s =
      let t = both_true (list_all (λ (z : Id). not (z.ctxt == ctx.unresolved_ctxt)) e.ids) (declares_no_global ctx outer) d in
      passed x (is_among id e.ids) (none_among e.ids t.0) (give (ToVariable e.place id)) (resolved outer declared id) s (date_undone x outer t.1 is declared s)

  -- where it is no member's
  pub name_undone : (x : ExecutionContext) → declares_no_global ctx x.scope ≡ true → x.known.enums.names ≡ [] → bytes_eq id.sym (codes "Date") ≡ true → (s : State)
      → Undone (then_outcome (named (enum_of id x.known.enums.names) id x s) (λ r. read_object x r))
  name_undone x d none is s =
      subst (λ names. Undone (then_outcome (named (enum_of id names) id x s) (λ r. read_object x r))) (sym none)
      (hidden_undone x (is_hidden x.known.enums id) (resolved x.scope x.known.declared id) s (date_undone x x.scope d is x.known.declared s))
