-- In a resolved tree of which nothing goes, each name has the context of the innermost scope that declares its text: none further in captures it.
use Rattle.std.proofs.Common.{◌≡◌, ℕ, Bool, true, false, List, [], ◌∷◌, ◌++◌, Option, Some, None, refl, sym, ap, ◌∙◌, subst}
use Rattle.std.specs.List.{All}
use Rattle.std.proofs.lemmas.List.Elements.{All-cons, All-nil}
use Rattle.ecma_kind.specs.declared.kind.Kind.{Kind}
use Rattle.ecma_kind.specs.declared.kind.Kind.TheVariants as kind
use Rattle.ecma_tree.specs.declared.node.Node.{Node, out-Node}
use Rattle.ecma_scope.specs.declared.role.Role.{Role}
use Rattle.ecma_scope.specs.Resolved.{Scope as Frame, context_in, given, is_name, resolved_at}
use Rattle.ecma_scope.specs.Scopes.{is_there, opens, opens_by}
use Rattle.ecma_hygiene.specs.Capture.{IsNotCaptured, NoneDeclares, Placed, Writes, placed_by, placed_here}
use Rattle.ecma_hygiene.specs.Ids.{Scope, has_context, is_block, is_body_block, is_function_body}
use Rattle.ecma_hygiene.specs.Sights.{Around}
use Rattle.ecma_hygiene.proofs.Telling.{and-right, true-false}
use Rattle.ecma_hygiene_scopes.specs.Once.{DeclaresEachOnce}
use Rattle.ecma_hygiene_scopes.proofs.Directly.{place_in}
use Rattle.ecma_hygiene_scopes.proofs.Keeping.{AllKeep}
use Rattle.ecma_hygiene_scopes.proofs.OwnScopes.{none-of-parameters, once}
use Rattle.ecma_hygiene_scopes.proofs.Reached.{Known, Steady}
use Rattle.ecma_hygiene_scopes.proofs.ResolvedRight.{ident-free}
use Rattle.ecma_hygiene_scopes.proofs.Sameness.{kind-here, no_text, opens-resolved}

module _ (unresolved top : ℕ) where
  -- scopes of which none declares a text in the context that they give it, leave it the one that it had
  none-gives : (ws : List Scope) (fs : List Frame) → AllKeep ws fs → Steady fs → (text : List ℕ) (outer : ℕ) → NoneDeclares ws (text, context_in unresolved fs text outer) → context_in unresolved fs text outer ≡ outer
  none-gives [] [] keep steady text outer none = refl
  none-gives [] (f ∷ fs) keep steady text outer none = absurd keep
  none-gives (w ∷ ws) [] keep steady text outer none = absurd keep
  none-gives (w ∷ ws) (f ∷ fs) keep steady text outer none =
      let o : ℕ = given (f.states text) f.ctxt unresolved outer in
      by (context_in unresolved fs text o) (f.states text) refl (none-gives ws fs keep.1 steady.1 text o none.1) none.0
    where
      by : (ctxt : ℕ) (states : Option Bool) → f.states text ≡ states → ctxt ≡ given states f.ctxt unresolved outer → has_context ctxt (w text) ≡ false → ctxt ≡ outer
      by ctxt None at is none = is
      by ctxt (Some false) at is none = absurd (steady.0 text at)
      by ctxt (Some true) at is none = absurd (true-false (ap (λ (c : ℕ). has_context c (w text)) is ∙ keep.0.only text at) none)

  -- so a scope that declares the text, and all of those further in, do not leave it to those around
  none-captures : (before : List Scope) (w : Scope) (inner : List Scope) (fs : List Frame) → AllKeep (before ++ w ∷ inner) fs → Steady fs → (text : List ℕ) (outer : ℕ)
      → NoneDeclares (w ∷ inner) (text, context_in unresolved fs text outer) → Writes no_text w text → ⊥
  none-captures [] w inner [] keep steady text outer none writes = absurd keep
  none-captures [] w inner (f ∷ fs) keep steady text outer none writes =
      let states : f.states text ≡ Some true = ap f.states (sym writes.is) ∙ keep.0.written writes.binding writes.declared in
      let is : context_in unresolved fs text (given (f.states text) f.ctxt unresolved outer) ≡ f.ctxt =
      none-gives inner fs keep.1 steady.1 text (given (f.states text) f.ctxt unresolved outer) none.1 ∙ ap (λ (o : Option Bool). given o f.ctxt unresolved outer) states in
      true-false (ap (λ (c : ℕ). has_context c (w text)) is ∙ keep.0.only text states) none.0
  none-captures (v ∷ before) w inner [] keep steady text outer none writes = absurd keep
  none-captures (v ∷ before) w inner (f ∷ fs) keep steady text outer none writes =
      none-captures before w inner fs keep.1 steady.1 text (given (f.states text) f.ctxt unresolved outer) none writes

  all-placed : (P : Placed → Type 0) (named : Bool) (scopes : List Scope) (k : Kind)
      → ((t : List ℕ) (c : ℕ) (o : Bool) → k ≡ kind.Ident t c o → named ≡ false → P (record { name = (t, c); scopes = scopes })) → All P (placed_by named scopes k)
  all-placed P false scopes (kind.Ident t c o) each = All-cons P (record { name = (t, c); scopes = scopes }) [] (each t c o refl refl) (All-nil P)
  all-placed P false scopes _ each = All-nil P
  all-placed P true scopes k each = All-nil P

  block-by : (r : Role) (k : Kind) (there : Bool) → is_block k ≡ true → opens_by r k there ≡ true
  unfolding opens_by
  block-by r kind.BlockStmt there h = refl
  block-by r _ there h = absurd (true-false h refl)

  -- the block of a body opens a scope
  block-opens : (r : Role) (x : Node) → is_body_block r (out-Node x).kind ≡ true → opens r x ≡ true
  block-opens r x h = block-by r (out-Node x).kind (is_there (out-Node x).children 0) (and-right (is_function_body r) (is_block (out-Node x).kind) h)

  module _ (Whole : Type 0) (m : Node) (s : Around) (frames : List Frame) (left : ℕ) (known : Known Whole m s frames) where
    abbrev n : Node
    n = resolved_at unresolved top m (place_in unresolved top s.role frames) left

    opened : opens s.role n ≡ true → opens s.role m ≡ true
    opened is = sym (opens-resolved unresolved top m (place_in unresolved top s.role frames) left s.role) ∙ is

    pub uncaptured-here : Whole → All (IsNotCaptured no_text) (placed_here s n)
    uncaptured-here whole =
        all-placed (IsNotCaptured no_text) (is_name s.role) s.scopes (out-Node n).kind
        (λ t c o is other before w inner are none writes. (let given_to = ident-free unresolved top s.role frames (out-Node m).kind t c o (sym (kind-here unresolved top m (place_in unresolved top s.role frames) left) ∙ is) other in
        none-captures before w inner frames (subst (λ (ws : List Scope). AllKeep ws frames) are known.keep) (known.steady whole) t unresolved
        (subst (λ (d : ℕ). NoneDeclares (w ∷ inner) (t, d)) given_to none) writes))

    pub once-here : DeclaresEachOnce n s
    once-here = record {
      once = λ is. once unresolved top m s.role s.scopes frames left known.keep known.settled known.good (opened is);
      apart = λ block. none-of-parameters unresolved top m s.role s.scopes frames left known.keep known.settled known.good (opened (block-opens s.role n block)) block;
    }
