-- Where the innermost scope that has the text of a name declares the name, nothing hides it.
use Rattle.std.proofs.Common.{◌≡◌, ℕ, zero, suc, ◌+◌, Bool, true, false, not, cond, List, [], ◌∷◌, ◌++◌, drop, Some, refl, sym, ap, ◌∙◌, slice_get, add-one}
use Rattle.ecma_tree.proofs.Items.{drop-item}
use Rattle.ecma_hygiene.specs.declared.scope.Declared.{Declared}
use Rattle.ecma_hygiene.specs.Frames.{contexts_in, scopes_of}
use Rattle.ecma_hygiene.specs.Ids.{Id, has_context}
use Rattle.ecma_hygiene.specs.Sights.{hidden}

-- what stands outside a scope that declares the id does not count
hidden-inside-from : (frames : List Declared) (i : ℕ) (frame : Declared) (id : Id) (so_far : List ℕ) → slice_get frames i ≡ Some frame → has_context id.1 (contexts_in frame id.0) ≡ true
    → hidden (scopes_of frames) id so_far ≡ hidden (scopes_of (drop (suc i) frames)) id []
hidden-inside-from [] i frame id so_far at has = cc
hidden-inside-from (f ∷ fs) zero frame id so_far at has =
    let same : f ≡ frame = cc in
    ap (λ (b : Bool). hidden (scopes_of fs) id (cond b [] (so_far ++ contexts_in f id.0))) (ap (λ (g : Declared). has_context id.1 (contexts_in g id.0)) same ∙ has)
hidden-inside-from (f ∷ fs) (suc i) frame id so_far at has = hidden-inside-from fs i frame id (cond (has_context id.1 (contexts_in f id.0)) [] (so_far ++ contexts_in f id.0)) at has

pub hidden-inside : (frames : List Declared) (i : ℕ) (frame : Declared) (id : Id) → slice_get frames i ≡ Some frame → has_context id.1 (contexts_in frame id.0) ≡ true
    → hidden (scopes_of frames) id [] ≡ hidden (scopes_of (drop (i + 1) frames)) id []
hidden-inside frames i frame id at has =
    hidden-inside-from frames i frame id [] at has ∙ ap (λ (k : ℕ). hidden (scopes_of (drop k frames)) id []) (sym (add-one i))

-- a scope without the text hides nothing
pub hidden-without : (frames : List Declared) (i : ℕ) (frame : Declared) (id : Id) → slice_get frames i ≡ Some frame → contexts_in frame id.0 ≡ []
    → hidden (scopes_of (drop i frames)) id [] ≡ hidden (scopes_of (drop (i + 1) frames)) id []
hidden-without frames i frame id at none =
    ap (λ (fs : List Declared). hidden (scopes_of fs) id []) (drop-item frames i frame at)
    ∙ ap (λ (ctxts : List ℕ). hidden (scopes_of (drop (i + 1) frames)) id (cond (has_context id.1 ctxts) [] ctxts)) none

pub not-false : (b : Bool) → not b ≡ false → b ≡ true
not-false true h = refl
not-false false h = cc
