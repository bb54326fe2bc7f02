-- Scopes that declare, as values that stay and in their own contexts, what the scopes in force keep.
use Rattle.std.proofs.Common.{◌≡◌, ℕ, Bool, true, false, ◌&&◌, ◌||◌, cond, filter, List, [], ◌∷◌, ◌++◌, map, Option, Some, None, refl, sym, ap, ◌∙◌, bytes_eq}
use Rattle.std.specs.List.{All, list_any}
use Rattle.std.proofs.lemmas.List.Elements.{All-head, All-tail}
use Rattle.std.proofs.lemmas.Slice.Eq.{bytes_eq-Decides}
use Rattle.ecma_scope.specs.declared.form.Declaration.{Declaration}
use Rattle.ecma_scope.specs.Declarations.{declares, keeps, stated}
use Rattle.ecma_scope.specs.Resolved.{Scope as Frame, context_in, given, innermost as innermost_states}
use Rattle.ecma_hygiene.specs.Ids.{Id, Scope, has_context, innermost}
use Rattle.ecma_hygiene.proofs.Telling.{and-both, id-refl, or-first, or-second, true-false}
use Rattle.ecma_hygiene_scopes.specs.DeclaredIds.{DeclaredId, with_text}
use Rattle.ecma_hygiene_scopes.proofs.Clashes.{Stays}
use Rattle.ecma_hygiene_scopes.proofs.Membership.{is_kept}
use Rattle.ecma_hygiene_scopes.proofs.Sameness.{no_text}

-- ---- declarations

either : (b s x y : Bool) → (x ≡ true → y ≡ true) → (b && s) || x ≡ true → b || y ≡ true
either true s x y h e = refl
either false s x y h e = h e

pub kept-declared : (ds : List Declaration) (text : List ℕ) → keeps ds text ≡ true → declares ds text ≡ true
kept-declared [] text h = h
kept-declared (d ∷ ds) text h =
    either (bytes_eq d.sym text) d.stays (list_any (λ e. bytes_eq e.sym text && e.stays) ds) (list_any (λ e. bytes_eq e.sym text) ds) (kept-declared ds text) h

pub stated-kept : (ds : List Declaration) (text : List ℕ) → keeps ds text ≡ true → stated ds text ≡ Some true
stated-kept ds text h = (λ j. cond (kept-declared ds text h j) (Some (h j)) None)

stated-by : (d k : Bool) → cond d (Some k) None ≡ Some true → k ≡ true
stated-by true true h = refl
stated-by true false h = cc
stated-by false k h = cc

pub kept-stated : (ds : List Declaration) (text : List ℕ) → stated ds text ≡ Some true → keeps ds text ≡ true
kept-stated ds text h = stated-by (declares ds text) (keeps ds text) h

-- where all stay, a text that is declared is kept
pub all-kept : (ds : List Declaration) → All Stays ds → (text : List ℕ) → stated ds text ≡ Some false → ⊥
all-kept ds stay text h = by (declares ds text) (keeps ds text) (kept ds stay) h
  where
    by : (d k : Bool) → (d ≡ true → k ≡ true) → cond d (Some k) None ≡ Some false → ⊥
    by true true same h = cc
    by true false same h = true-false (same refl) refl
    by false k same h = cc

    more : (b s x y : Bool) → s ≡ true → (x ≡ true → y ≡ true) → b || x ≡ true → (b && s) || y ≡ true
    more true s x y stays h e = ap (λ (z : Bool). z || y) stays
    more false s x y stays h e = h e

    kept : (ds : List Declaration) → All Stays ds → declares ds text ≡ true → keeps ds text ≡ true
    kept [] stay h = h
    kept (d ∷ ds) stay h = more (bytes_eq d.sym text) d.stays (declares ds text) (keeps ds text) (All-head Stays d ds stay) (kept ds (All-tail Stays d ds stay)) h

-- what is kept with a text is an id that stays, and passes
pub record Kept (test : Declaration → Bool) (text : List ℕ) (ds : List DeclaredId) : Type 0 where
  pub found : DeclaredId
  pub passes : test (with_text no_text found) ≡ true
  pub is : found.id.0 ≡ text
  pub kept : list_any (is_kept found.id) ds ≡ true

module _ (test : Declaration → Bool) (text : List ℕ) where
  abbrev Found : List DeclaredId → Type 0
  Found ds = Kept test text ds

  later : (d : DeclaredId) (ds : List DeclaredId) → Found ds → Found (d ∷ ds)
  later d ds f = record { found = f.found; passes = f.passes; is = f.is; kept = or-second (is_kept f.found.id d) (list_any (is_kept f.found.id) ds) f.kept }

  kept-by : (d : DeclaredId) (ds : List DeclaredId) (t same stays : Bool) → test (with_text no_text d) ≡ t → bytes_eq d.id.0 text ≡ same → d.stays ≡ stays
      → (keeps (filter test (map (with_text no_text) ds)) text ≡ true → Found ds)
      → keeps (cond t (with_text no_text d ∷ filter test (map (with_text no_text) ds)) (filter test (map (with_text no_text) ds))) text ≡ true → Found (d ∷ ds)
  kept-by d ds false same stays tested is staying rec h = later d ds (rec h)
  kept-by d ds true true true tested is staying rec h = record {
    found = d;
    passes = tested;
    is = (bytes_eq-Decides d.id.0 text).0 is;
    kept = or-first (is_kept d.id d) (list_any (is_kept d.id) ds) (and-both _ d.stays (id-refl d.id) staying);
  }
  kept-by d ds true false stays tested is staying rec h = later d ds (rec (sym (ap (λ (b : Bool). (b && d.stays) || keeps (filter test (map (with_text no_text) ds)) text) is) ∙ h))
  kept-by d ds true true false tested is staying rec h =
      later d ds (rec (sym (λ j. (is j && staying j) || keeps (filter test (map (with_text no_text) ds)) text) ∙ h))

  pub kept-id : (ds : List DeclaredId) → keeps (filter test (map (with_text no_text) ds)) text ≡ true → Found ds
  kept-id [] h = absurd (true-false h refl)
  kept-id (d ∷ ds) h = kept-by d ds (test (with_text no_text d)) (bytes_eq d.id.0 text) d.stays refl refl refl (kept-id ds) h

-- ---- scopes

pub record Keeps (own : Scope) (frame : Frame) : Type 0 where
  pub written : (b : Id) → has_context b.1 (own b.0) ≡ true → frame.states b.0 ≡ Some true
  pub number : (b : Id) → has_context b.1 (own b.0) ≡ true → b.1 ≡ frame.ctxt
  pub only : (text : List ℕ) → frame.states text ≡ Some true → has_context frame.ctxt (own text) ≡ true

abbrev pub AllKeep : List Scope → List Frame → Type 0
AllKeep [] [] = Unit {0}
AllKeep (w ∷ ws) (f ∷ fs) = Keeps w f × AllKeep ws fs
AllKeep _ _ = ⊥

keep-last : (ws : List Scope) (fs : List Frame) (w : Scope) (f : Frame) → AllKeep ws fs → Keeps w f → AllKeep (ws ++ w ∷ []) (fs ++ f ∷ [])
keep-last [] [] w f keep same = (same, tt)
keep-last [] (g ∷ fs) w f keep same = absurd keep
keep-last (v ∷ ws) [] w f keep same = absurd keep
keep-last (v ∷ ws) (g ∷ fs) w f keep same = (keep.0, keep-last ws fs w f keep.1 same)

pub keep-inside : (opened covered : Bool) (ws : List Scope) (fs : List Frame) (w : Scope) (f : Frame) → AllKeep ws fs → (opened ≡ true → Keeps w f)
    → AllKeep (cond (opened && covered) (ws ++ w ∷ []) ws) (cond (opened && covered) (fs ++ f ∷ []) fs)
keep-inside false covered ws fs w f keep same = keep
keep-inside true false ws fs w f keep same = keep
keep-inside true true ws fs w f keep same = keep-last ws fs w f keep (same refl)

-- the innermost scope
pub inner-written : (ws : List Scope) (fs : List Frame) → AllKeep ws fs → (b : Id) → has_context b.1 (innermost ws b.0) ≡ true → innermost_states fs b.0 ≡ Some true
inner-written [] [] keep b h = absurd (true-false h refl)
inner-written [] (f ∷ fs) keep b h = absurd keep
inner-written (w ∷ ws) [] keep b h = absurd keep
inner-written (w ∷ []) (f ∷ []) keep b h = keep.0.written b h
inner-written (w ∷ []) (f ∷ g ∷ fs) keep b h = absurd keep.1
inner-written (w ∷ v ∷ ws) (f ∷ []) keep b h = absurd keep.1
inner-written (w ∷ v ∷ ws) (f ∷ g ∷ fs) keep b h = inner-written (v ∷ ws) (g ∷ fs) keep.1 b h

-- declares what it keeps, in the context that it gives
pub inner-only : (unresolved : ℕ) (ws : List Scope) (fs : List Frame) → AllKeep ws fs → (text : List ℕ) (outer : ℕ) → innermost_states fs text ≡ Some true → has_context (context_in unresolved fs text outer) (innermost ws text) ≡ true
inner-only unresolved [] [] keep text outer h = cc
inner-only unresolved [] (f ∷ fs) keep text outer h = absurd keep
inner-only unresolved (w ∷ ws) [] keep text outer h = absurd keep
inner-only unresolved (w ∷ []) (f ∷ []) keep text outer h = ap (λ (o : Option Bool). has_context (given o f.ctxt unresolved outer) (w text)) h ∙ keep.0.only text h
inner-only unresolved (w ∷ []) (f ∷ g ∷ fs) keep text outer h = absurd keep.1
inner-only unresolved (w ∷ v ∷ ws) (f ∷ []) keep text outer h = absurd keep.1
inner-only unresolved (w ∷ v ∷ ws) (f ∷ g ∷ fs) keep text outer h = inner-only unresolved (v ∷ ws) (g ∷ fs) keep.1 text (given (f.states text) f.ctxt unresolved outer) h
