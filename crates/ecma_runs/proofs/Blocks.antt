-- The block of a namespace does alike where its items do.
use Rattle.std.proofs.Common.{◌≡◌, ℕ, ◌++◌, refl, ap, subst, List, [], ◌∷◌, Option, Some, None, Bool, true, false}
use Rattle.ecma_kind.specs.declared.kind.Kind.{Kind}
use Rattle.ecma_kind.specs.declared.kind.Kind.TheVariants as kind
use Rattle.ecma_tree.specs.declared.node.Node.{Node}
use Rattle.ecma_runs.specs.Values.{Value, Undefined}
use Rattle.ecma_runs.specs.State.{Entered, Binding, Activation, Plain, Closure, Passed}
use Rattle.ecma_runs.specs.Run.{spend, ◌>>=◌, returned_by, Run, give, when}
use Rattle.ecma_runs.specs.Meaning.{inside, Evaluation}
use Rattle.ecma_runs.specs.Objects.{new_object}
use Rattle.ecma_runs.specs.Functions.{function_object, closure_of, prototype_entries, pass_function}
use Rattle.ecma_runs.specs.Classes.{body_of}
use Rattle.ecma_runs.specs.Evaluation.{in_record, as_it_is, called_with, called_block, completed_of}
use Rattle.ecma_runs.specs.State.{Id, Entered}
use Rattle.ecma_runs.specs.Environment.{ids_of, except}
use Rattle.ecma_runs.proofs.Names.{Naming, Unless, unless_is, each_unless, told_from_none, changed_bindings, kept_by}
use Rattle.ecma_runs.proofs.Scopes.{Opens, opened, in_empty}
use Rattle.ecma_runs.proofs.Alike.{Change, Standing, passed_to, Alike, bind_alike, give_alike, returned_by_alike, spend_alike}
use Rattle.ecma_runs.proofs.Environments.{enter_alike}
use Rattle.ecma_runs.proofs.Objects.{new_object_alike}
use Rattle.ecma_runs.proofs.Meanings.{at, World, first, second, within, Both, seekers, firsts, seconds}
use Rattle.ecma_runs.proofs.Functions.{new_prototype_alike}
use Rattle.ecma_runs.proofs.Premises.{renamed_kind, PassesToo, KeptLayer, Placed}
use Rattle.ecma_runs.proofs.Classes.{left_over}
use Rattle.ecma_runs.proofs.Statements.{completion_alike}

passed_too : (names : Naming) (node : Node → Node) (o : Option (Node → Node)) → o ≡ None → (closure : Closure) → passed_to names node o closure ≡ Passed (kept_by names node closure)
passed_too names node o none closure = ap (λ z. passed_to names node z closure) none

module _ (c : Change) where
  pub in_record_alike : {a : List Entered} (w : World (at c a)) (bindings bindings' : List Binding) → bindings' ≡ changed_bindings c.names bindings → (o : Option Activation)
      (code code' : Evaluation (Unit {0})) → ((e : Entered) → e.ids ≡ ids_of bindings → Alike (at c (e ∷ a)) (code (first (at c (e ∷ a)) (within (at c a) w e))) (code' (second (at c (e ∷ a)) (within (at c a) w e))))
      → (finish : ℕ → Value → Run Value) → ((b : List Entered) (place : ℕ) (v : Value) → Alike (at c b) (finish place v) (finish place v))
      → Alike (at c a) (in_record bindings o code finish (first (at c a) w)) (in_record bindings' o code' finish (second (at c a) w))
  in_record_alike {a} w bindings bindings' is o code code' h finish finishes =
      rw is (enter_alike (at c a) (λ e. returned_by (λ _. Undefined) (code' (inside (second (at c a) w) e)) >>= λ v. finish e.place v) bindings o (λ e ids.
      bind_alike (at c (e ∷ a)) (returned_by_alike (at c (e ∷ a)) (λ _. Undefined) (h e ids)) (λ v. finishes (e ∷ a) e.place v)))

  pub pass_function_alike : {a : List Entered} (w : World (at c a)) (n : Node) → c.passed ≡ None → Alike (at c a) (pass_function n (first (at c a) w)) (pass_function (c.node n) (second (at c a) w))
  pass_function_alike {a} w n none =
      bind_alike (at c a) (new_prototype_alike (at c a) None) (λ place.
      subst (λ z. Alike (at c a) (new_object (function_object (prototype_entries true place) None (Passed (closure_of n Plain None (first (at c a) w))))) (new_object (function_object (prototype_entries true place) None z)))
      (passed_too c.names c.node c.passed none (closure_of n Plain None (first (at c a) w))) (new_object_alike (at c a) _ (λ es around. tt)))

  -- the items of a block in the record of a body
  items_alike : (n : Node) {a : List Entered} (v : World (at c a)) (items : Both c) (outer : List Id) → Unless c.names.plain (Opens c.names (ids_of (except [] (items.0.meaning.vars ++ items.0.meaning.lexicals))) outer items.0.seeks.sought) → Standing c v.scope outer
      → Alike (at c a) (body_of n kind.BlockStmt (items.0.meaning ∷ []) [] (first (at c a) v)) (body_of (c.node n) kind.BlockStmt (items.1 ∷ []) [] (second (at c a) v))
  items_alike n {a} v items outer opens s =
      rw (left_over c [] items (each_unless c.names [] (ids_of (items.0.meaning.vars ++ items.0.meaning.lexicals)) (unless_is c.names.plain (told_from_none c.names (ids_of (items.0.meaning.vars ++ items.0.meaning.lexicals))))))
      (enter_alike (at c a) (λ e. items.1.hoisted (inside (second (at c a) v) e) >>= λ _. items.1.completion (inside (second (at c a) v) e)) _ None (λ e is.
      let z : Standing c (e ∷ v.scope) items.0.seeks.sought = opened c.names opens s e is in
      bind_alike (at c (e ∷ a)) (items.2.hoisted (within (at c a) v e) z) (λ _. items.2.completion (within (at c a) v e) z)))

module _ (c : Change) {a : List Entered} (w : World (at c a)) (n : Node) (fine : c.fine n) where
  called_block_alike : c.passed ≡ None → (items : Both c) (outer : List Id) → Unless c.names.plain (Opens c.names (ids_of (except [] (items.0.meaning.vars ++ items.0.meaning.lexicals))) outer items.0.seeks.sought) → Standing c w.scope outer
      → Alike (at c a) (called_block n items.0.meaning (first (at c a) w)) (called_block (c.node n) items.1 (second (at c a) w))
  called_block_alike none items outer opens s =
      enter_alike (at c a) (λ e. pass_function (c.node n) (inside (second (at c a) w) e) >>= λ function. spend >>= λ _.
      in_record [] (Some (called_with Undefined function None [])) (body_of (c.node n) kind.BlockStmt (items.1 ∷ []) []) as_it_is (inside (second (at c a) w) e) >>= λ _. give tt) [] None (λ e is.
      let z : Standing c (e ∷ w.scope) outer = in_empty c.names e is s in
      bind_alike (at c (e ∷ a)) (pass_function_alike c (within (at c a) w e) n none) (λ function. bind_alike (at c (e ∷ a)) (spend_alike (at c (e ∷ a))) (λ _.
      bind_alike (at c (e ∷ a)) (in_record_alike c (within (at c a) w e) [] [] refl (Some (called_with Undefined function None []))
      (body_of n kind.BlockStmt (items.0.meaning ∷ []) []) (body_of (c.node n) kind.BlockStmt (items.1 ∷ []) [])
      (λ f ids. items_alike c n (within (at c (e ∷ a)) (within (at c a) w e) f) items outer opens (in_empty c.names f ids z)) as_it_is (λ b place v. give_alike (at c b) v)) (λ _. give_alike (at c (e ∷ a)) tt))))

  block_alike : (items : Both c) → Placed c w.scope kind.TsModuleBlock (items.0 ∷ []) → (o : Option (Node → Node)) → c.passed ≡ o → PassesToo o (items.0.meaning ∷ []) → (b : Bool) → items.0.meaning.is_type ≡ b
      → Alike (at c a) (when b (give tt) (called_block n items.0.meaning (first (at c a) w))) (when b (give tt) (called_block (c.node n) items.1 (second (at c a) w)))
  block_alike items h o is too true e = give_alike (at c a) tt
  block_alike items h None none too false e = called_block_alike none items _ h.1 h.0
  block_alike items h (Some function) some too false e = absurd (cc)

  pub completed_alike : (k : Kind) (ps : List (Both c)) → KeptLayer c k (firsts c ps) → Placed c w.scope k (seekers c ps)
      → Alike (at c a) (completed_of n k (firsts c ps) (first (at c a) w)) (completed_of (c.node n) (renamed_kind c k) (seconds c ps) (second (at c a) w))
  completed_alike kind.TsModuleBlock (items ∷ []) kept h = rw (items.2.is_type) (block_alike items h c.passed refl kept items.0.meaning.is_type refl)
  completed_alike k ps kept h = completion_alike c w k ps kept h
