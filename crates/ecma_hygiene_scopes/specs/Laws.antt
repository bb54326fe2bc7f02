-- The tree with final texts, read by its texts alone: its scopes, its contexts, and what it is when it is read again.
use Rattle.std.specs.Prelude.{◌≡◌, ℕ, List, None, ◌≢◌, ◌<◌, ◌≤◌}
use Rattle.std.specs.List.{All}
use Rattle.ecma_tree.specs.declared.node.Node.{Node}
use Rattle.ecma_scope.specs.Laws.{without_contexts}
use Rattle.ecma_hygiene.specs.declared.spot.Standing.{Standing}
use Rattle.ecma_hygiene.specs.Renamed.{Texts, renamed}
use Rattle.ecma_tree.specs.Contexts.{with_contexts}
use Rattle.ecma_scope.specs.Bindings.{FollowBindings}
use Rattle.ecma_scope.specs.Resolved.{contexts, resolved}
use Rattle.ecma_hygiene.specs.declared.naming.Named.{Named}
use Rattle.ecma_hygiene.specs.Texts.{HygienicTexts, text_in}
use Rattle.ecma_hygiene.specs.Hygienic.{IsHygienic}
use Rattle.ecma_hygiene_scopes.specs.Stops.{IsRight, Stop, stops}
use Rattle.ecma_hygiene_scopes.specs.Apart.{IsScoped, TellsScopesApart, IsMap}
use Rattle.ecma_hygiene_scopes.specs.StayingModules.{IsStayingModule}
use Rattle.ecma_hygiene_scopes.specs.FinalTexts.{DeclaresFinalTexts}
use Rattle.ecma_hygiene_scopes.specs.Collapsed.{collapsed}
use Rattle.ecma_hygiene_scopes.specs.Once.{DeclaresEachOnce}
use Rattle.ecma_hygiene_scopes.specs.Seats.{NothingGoes}
use Rattle.ecma_hygiene.specs.Capture.{IsNotCaptured, placed}
use Rattle.ecma_hygiene_scopes.specs.ApartTexts.{StayApart}
use Rattle.ecma_hygiene_scopes.specs.Lasting.{KeepsScopesApart, IsCheckedModule}

-- with other texts a node opens a scope where it did, and the scope declares the final texts of what it declared
abbrev pub ScopesDeclareFinalTexts : Type 0
ScopesDeclareFinalTexts = (texts : Texts) (node : Node) (stands : Standing) → DeclaresFinalTexts texts node stands

-- the tree with final texts, read again without contexts and resolved, has the ids that it had, up to two maps of contexts: of those that it had, and of those that `resolve`
-- gives its scopes. With maps under which all contexts of scopes are one, nothing is asked of contexts but which are free and which empty
abbrev pub IsReadAgain : Type 0
IsReadAgain = (unresolved top left : ℕ) (from to : ℕ → ℕ) (tree : Node) (names : List Named) → HygienicTexts tree names → to 0 ≡ from 0 → All (IsRight unresolved top from to) (stops left tree)
    → with_contexts (λ sym ctxt. from ctxt) (resolved unresolved top left (without_contexts (renamed (text_in names) tree))) ≡ with_contexts (λ sym ctxt. to ctxt) (renamed (text_in names) tree)

-- so its ids say what its texts name, where enough contexts were left, which were neither that of the top nor the unresolved one
abbrev pub FollowsItsTexts : Type 0
FollowsItsTexts = (unresolved top left : ℕ) (to : ℕ → ℕ) (tree : Node) (names : List Named) → HygienicTexts tree names → to 0 ≡ 0 → All (IsRight unresolved top (λ ctxt. ctxt) to) (stops left tree)
    → left < unresolved → left < top → unresolved ≢ top → contexts tree ≤ left
    → FollowBindings unresolved (with_contexts (λ sym ctxt. to ctxt) (renamed (text_in names) tree)) (without_contexts (renamed (text_in names) tree))

-- and two ids that stand in a tree are written as two
abbrev pub IdsStayApart : Type 0
IdsStayApart = (tree : Node) (names : List Named) → HygienicTexts tree names → StayApart tree names

-- the ids of a plain module, once it is resolved, say which scopes declare its names
abbrev pub ResolvedIsRight : Type 0
ResolvedIsRight = (unresolved top left : ℕ) (source : Node) → IsStayingModule source → All (IsRight unresolved top (λ ctxt. ctxt) (λ ctxt. ctxt)) (stops left (resolved unresolved top left source))

-- so with its final texts, read again and resolved with the same contexts, it is the same tree
abbrev pub ResolvedIsReadAgain : Type 0
ResolvedIsReadAgain = (unresolved top left : ℕ) (source written : Node) → IsStayingModule source → IsHygienic (resolved unresolved top left source) written
    → resolved unresolved top left (without_contexts written) ≡ written

-- and its ids say what its texts name
abbrev pub ResolvedFollowsItsTexts : Type 0
ResolvedFollowsItsTexts = (unresolved top left : ℕ) (source written : Node) → IsStayingModule source → IsHygienic (resolved unresolved top left source) written
    → left < unresolved → left < top → unresolved ≢ top → contexts source ≤ left → FollowBindings unresolved written (without_contexts written)

-- once a module is resolved in which declarations may go, its scopes are kept apart, where there were contexts enough
abbrev pub ResolvedKeepsScopesApart : Type 0
ResolvedKeepsScopesApart = (unresolved top left : ℕ) (source : Node) → IsCheckedModule source → left < unresolved → left < top → unresolved ≢ top → contexts source ≤ left
    → KeepsScopesApart unresolved left (resolved unresolved top left source)

-- the contexts of a tree that tells its scopes apart are mapped to those that the scopes get
abbrev pub ContextsAreMapped : Type 0
ContextsAreMapped = (unresolved top free left : ℕ) (tree : Node) → TellsScopesApart free left tree → left < unresolved → left < top → unresolved ≢ top → contexts tree ≤ left
    → (to : ℕ → ℕ) × IsMap unresolved top free left tree to

-- so the ids of the tree with final texts say what its texts name, where there are contexts enough
abbrev pub TextsNameWhatIdsDo : Type 0
TextsNameWhatIdsDo = (free left : ℕ) (tree : Node) (names : List Named) → HygienicTexts tree names → TellsScopesApart free left tree → contexts tree ≤ left
    → FollowBindings free (renamed (text_in names) tree) (without_contexts (renamed (text_in names) tree))

-- the contexts of a resolved plain module tell its scopes apart, where there were contexts enough
abbrev pub ResolvedTellsScopesApart : Type 0
ResolvedTellsScopesApart = (unresolved top left : ℕ) (source : Node) → IsStayingModule source → left < unresolved → left < top → unresolved ≢ top → contexts source ≤ left
    → TellsScopesApart unresolved left (resolved unresolved top left source)

-- the contexts of a tree whose ids say which scopes declare its names are right, whichever scopes share contexts, where those of all scopes are one on both sides, and there are contexts enough
abbrev pub CollapsedContextsAreRight : Type 0
CollapsedContextsAreRight = (unresolved top free left : ℕ) (tree : Node) → All (IsScoped free) (stops left tree) → free ≢ 0 → left < unresolved → left < top → unresolved ≢ top → contexts tree ≤ left
    → All (IsRight unresolved top (collapsed unresolved) (collapsed free)) (stops left tree)

-- no declaration goes of what is written for such a tree
abbrev pub WrittenModulesStay : Type 0
WrittenModulesStay = (free left : ℕ) (tree : Node) (names : List Named) → HygienicTexts tree names → All (IsScoped free) (stops left tree) → NothingGoes (without_contexts (renamed (text_in names) tree))

-- in a plain module, once it is resolved, nothing is captured by the texts that it has, where there were contexts enough
abbrev pub ResolvedCapturesNothing : Type 0
ResolvedCapturesNothing = (unresolved top left : ℕ) (source : Node) → IsStayingModule source → left < unresolved → left < top → unresolved ≢ top → contexts source ≤ left
    → All (IsNotCaptured (λ id. None)) (placed (resolved unresolved top left source))

-- and each scope declares each text in one context, and a body none that a parameter has
abbrev pub ResolvedDeclaresEachOnce : Type 0
ResolvedDeclaresEachOnce = (unresolved top left : ℕ) (source : Node) → IsStayingModule source → left < unresolved → left < top → unresolved ≢ top → contexts source ≤ left
    → All (λ (stop : Stop). DeclaresEachOnce stop.node stop.around) (stops left (resolved unresolved top left source))
