-- What scopes give a text, from the innermost out.
use Rattle.std.proofs.Common.{Option, ◌≡◌, ℕ, zero, suc, ◌+◌, Bool, true, false, cond, List, [], ◌∷◌, ◌++◌, take, length, Some, None, refl, sym, ap, ◌∙◌, slice_get, arith}
use Rattle.std.proofs.lemmas.List.{map-append, take_all}
use Rattle.ecma_tree.proofs.Items.{take-item}
use Rattle.ecma_scope.specs.declared.frame.Frame.{Frame}
use Rattle.ecma_scope.specs.Indexed.{states_of}
use Rattle.ecma_scope.specs.Resolved.{Scope, context_in, given, innermost}
use Rattle.ecma_scope.specs.Frames.{scope_of, scopes_of}

-- the innermost of scopes decides, and what it leaves open the others do
pub context_in-last : (unresolved : ℕ) (scopes : List Scope) (scope : Scope) (sym : List ℕ) (outer : ℕ)
    → context_in unresolved (scopes ++ scope ∷ []) sym outer ≡ given (scope.states sym) scope.ctxt unresolved (context_in unresolved scopes sym outer)
context_in-last unresolved [] scope sym outer = refl
context_in-last unresolved (s ∷ ss) scope sym outer = context_in-last unresolved ss scope sym (given (s.states sym) s.ctxt unresolved outer)

pub innermost-last : (scopes : List Scope) (scope : Scope) (sym : List ℕ) → innermost (scopes ++ scope ∷ []) sym ≡ scope.states sym
innermost-last [] scope sym = refl
innermost-last (s ∷ []) scope sym = refl
innermost-last (s ∷ t ∷ ss) scope sym = innermost-last (t ∷ ss) scope sym

given-some : (stays : Bool) (own unresolved outer : ℕ) → given (Some stays) own unresolved outer ≡ cond stays own unresolved
given-some true own unresolved outer = refl
given-some false own unresolved outer = refl

-- what the first frames give
abbrev pub context_before : ℕ → List Frame → List ℕ → ℕ → ℕ
context_before unresolved frames sym i = context_in unresolved (scopes_of (take i frames)) sym unresolved

pub context_before-suc : (unresolved : ℕ) (frames : List Frame) (sym : List ℕ) (i : ℕ) (frame : Frame) → slice_get frames i ≡ Some frame
    → context_before unresolved frames sym (i + 1) ≡ given (states_of frame.index sym) frame.ctxt unresolved (context_before unresolved frames sym i)
context_before-suc unresolved frames sym i frame at =
    ap (λ z. context_in unresolved (scopes_of z) sym unresolved) (take-item frames i frame at)
    ∙ ap (λ z. context_in unresolved z sym unresolved) (map-append scope_of (take i frames) (frame ∷ []))
    ∙ context_in-last unresolved (scopes_of (take i frames)) (scope_of frame) sym unresolved

pub context_before-all : (unresolved : ℕ) (frames : List Frame) (sym : List ℕ) → context_before unresolved frames sym (length frames) ≡ context_in unresolved (scopes_of frames) sym unresolved
context_before-all unresolved frames sym = ap (λ z. context_in unresolved (scopes_of z) sym unresolved) (take_all (length frames) frames (omega arith))

pub innermost-at : (frames : List Frame) (i : ℕ) (frame : Frame) (sym : List ℕ) → slice_get frames i ≡ Some frame → length frames ≡ i + 1 → innermost (scopes_of frames) sym ≡ states_of frame.index sym
innermost-at [] i frame sym at last = cc
innermost-at (f ∷ []) zero frame sym at last = let same : f ≡ frame = cc in ap (λ (z : Frame). states_of z.index sym) same
innermost-at (f ∷ []) (suc i) frame sym at last = cc
innermost-at (f ∷ g ∷ fs) zero frame sym at last = absurd (omega (arith, last))
innermost-at (f ∷ g ∷ fs) (suc i) frame sym at last = innermost-at (g ∷ fs) i frame sym at (omega (arith, last))

-- the scope before the one at j, which leaves a text open, keeps it, or keeps it from being bound
pub given-open : (unresolved : ℕ) (frames : List Frame) (sym : List ℕ) (i j : ℕ) (frame : Frame) → slice_get frames i ≡ Some frame → j ≡ i + 1 → states_of frame.index sym ≡ None
    → context_before unresolved frames sym j ≡ context_before unresolved frames sym i
given-open unresolved frames sym i j frame at next says =
    ap (context_before unresolved frames sym) next ∙ context_before-suc unresolved frames sym i frame at
    ∙ ap (λ o. given o frame.ctxt unresolved (context_before unresolved frames sym i)) says

pub given-kept : (unresolved : ℕ) (frames : List Frame) (sym : List ℕ) (i j : ℕ) (frame : Frame) (stays : Bool) → slice_get frames i ≡ Some frame → j ≡ i + 1 → states_of frame.index sym ≡ Some stays
    → context_before unresolved frames sym j ≡ cond stays frame.ctxt unresolved
given-kept unresolved frames sym i j frame stays at next says =
    ap (context_before unresolved frames sym) next ∙ context_before-suc unresolved frames sym i frame at
    ∙ ap (λ o. given o frame.ctxt unresolved (context_before unresolved frames sym i)) says
    ∙ given-some stays frame.ctxt unresolved (context_before unresolved frames sym i)

-- so the innermost scope is the last
pub innermost-last-is : (frames : List Frame) (i : ℕ) (frame : Frame) → slice_get frames i ≡ Some frame → length frames ≡ i + 1 → innermost (scopes_of frames) ≡ states_of frame.index
innermost-last-is frames i frame at last = (λ j sym. innermost-at frames i frame sym at last j)

pub innermost-none : (frames : List Frame) (states : List ℕ → Option Bool) → length frames ≡ 0 → ((sym : List ℕ) → states sym ≡ None) → innermost (scopes_of frames) ≡ states
innermost-none [] states none nothing = (λ j text. sym (nothing text) j)
innermost-none (f ∷ fs) states none nothing = absurd (omega (arith, none))

pub ruleset framing = (context_before-suc, context_before-all, innermost-at)
