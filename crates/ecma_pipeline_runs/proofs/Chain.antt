-- What a module does, from where it is ready to what is read again, by the laws of each step.
use Rattle.std.proofs.Common.{◌≡◌, ◌≢◌, ◌==◌, ℕ, ◌+◌, ◌<◌, ◌≤◌, arith, Bool, true, false, List, [], cond, Option, Some, None, unwrap_or, refl, sym, ap, ◌∙◌, subst, get_or, eq-eqb}
use Rattle.std.specs.List.{All}
use Rattle.std.proofs.lemmas.Bool.{eqb-true}
use Rattle.std.proofs.lemmas.List.Elements.{All-cons, All-nil}
use Rattle.ecma_kind.specs.declared.shapes.Sort.TheVariants as sort
use Rattle.ecma_tree.specs.Contexts.{with_contexts}
use Rattle.ecma_tree.specs.Sorted.{HasSort, one}
use Rattle.ecma_tree.specs.Spans.{without_spans}
use Rattle.ecma_tree.specs.declared.node.Node.{Node}
use Rattle.ecma_fits.specs.Fitting.{Fits}
use Rattle.ecma_print.specs.Explicit.{explicit}
use Rattle.ecma_print_parentheses.specs.Laws.{RunsAlike}
use Rattle.ecma_config.specs.declared.config.Config.{Config}
use Rattle.ecma_runs.specs.declared.script.Script.{Script}
use Rattle.ecma_runs.specs.Observation.{observe}
use Rattle.ecma_scope.specs.Conflicts.{redeclared}
use Rattle.ecma_scope.specs.Laws.{ResolvedKeepsSorts, without_contexts}
use Rattle.ecma_scope.specs.Resolved.{contexts, resolved, AreGiven}
use Rattle.ecma_scope_congruence.specs.Bodies.{HasBodies}
use Rattle.ecma_scope_congruence.specs.Laws.{ParenthesesDoNotMatterToContexts, SpansDoNotMatterToContexts}
use Rattle.ecma_scope_fits.specs.Laws.{ContextsDoNotMatter, ResolvedTreesFitAlike}
use Rattle.ecma_strip.specs.Stripping.{stripped}
use Rattle.ecma_strip_fits.specs.Laws.{StrippingKeepsFits, StrippingKeepsSorts}
use Rattle.ecma_strip_runs.specs.Laws.{StrippingKeepsRuns, OnlyTypesGo}
use Rattle.ecma_hygiene.specs.declared.naming.Named.{Named}
use Rattle.ecma_hygiene.specs.Renamed.{at_root, renamed, text_of}
use Rattle.ecma_hygiene.specs.Sights.{meetings, nowhere, sights}
use Rattle.ecma_hygiene.specs.Texts.{HygienicTexts, is_new, text_in}
use Rattle.ecma_hygiene.proofs.Telling.{true-false}
use Rattle.ecma_hygiene_scopes.specs.Apart.{IsScoped}
use Rattle.ecma_hygiene_scopes.specs.Collapsed.{collapsed}
use Rattle.ecma_hygiene_scopes.specs.Laws.{CollapsedContextsAreRight, IsReadAgain, ResolvedCapturesNothing, ResolvedDeclaresEachOnce, ResolvedTellsScopesApart, WrittenModulesStay}
use Rattle.ecma_hygiene_scopes.specs.Once.{DeclaresEachOnce}
use Rattle.ecma_hygiene_scopes.specs.StayingModules.{IsStayingModule}
use Rattle.ecma_hygiene_scopes.specs.Stops.{IsRight, Stop, stops}
use Rattle.ecma_hygiene_scopes.proofs.Sameness.{stays}
use Rattle.ecma_hygiene_scopes.proofs.Stopping.{gathers}
use Rattle.ecma_hygiene_meeting.specs.Meets.{Meets}
use Rattle.ecma_hygiene_meeting.specs.Places.{Place, place_here, places}
use Rattle.ecma_hygiene_meeting.specs.Texts.{KeepsFreeApart, sent, written}
use Rattle.ecma_hygiene_runs.specs.Exports.{KeepsExportedTexts}
use Rattle.ecma_hygiene_runs.specs.Laws.{SortedNamesAreOuter}
use Rattle.ecma_hygiene_runs.specs.OuterNames.{NamesAreOuter}
use Rattle.ecma_hygiene_runs.specs.Plain.{is_plain}
use Rattle.ecma_hygiene_runs.proofs.Declaring.{unexported}
use Rattle.ecma_hygiene_runs.proofs.GivenTexts.{given-text}
use Rattle.ecma_hygiene_runs.proofs.PlainEnums.{plain-lacks}
use Rattle.ecma_meeting_runs.specs.Laws.{ContextsDoNotMatterToPlain, MeetingTextsKeepRuns, PlainTreesStayPlain}
use Rattle.ecma_pipeline_meeting.specs.Laws.{PlainFinalTextsMeet, PlainOwnTextsMeet}
use Rattle.ecma_pipeline_meeting.specs.Telling.{BindsInside, SaysItsScopes, SaysScopes}
use Rattle.ecma_pipeline_runs.specs.Laws.{PassesKeepRuns, StrippedModulesArePlain}
use Rattle.ecma_sources.specs.Sources.{IsReading}
use Rattle.ecma_ready.specs.Ready.{DeclaresItsTextsOnce, IsReady}
use Rattle.ecma_pipeline_runs.proofs.Binding.{bound-inside}
use Rattle.ecma_pipeline_runs.proofs.ClearSeats.{module-stands}
use Rattle.ecma_pipeline_runs.proofs.Full.{modules-are-full}
use Rattle.ecma_pipeline_runs.proofs.NoEnums.{alone-bare}
use Rattle.ecma_pipeline_runs.proofs.Names.{bound-other, outer}
use Rattle.ecma_pipeline_runs.proofs.Ready.{ReadyTreesDeclareTextsOnce, ReadyTreesSayTheirScopes}
use Rattle.ecma_pipeline_runs.proofs.Receivers.{no-receivers}
use Rattle.ecma_pipeline_runs.proofs.Renaming.{kept}
use Rattle.ecma_pipeline_runs.proofs.Twice.{bare-twice}

-- the tree with final texts has as many scopes
abbrev pub ReadingAgainCounts : Type 0
ReadingAgainCounts =
    (unresolved top left : ℕ) (from to : ℕ → ℕ) (tree : Node) (names : List Named) → HygienicTexts tree names → from 0 ≡ 0 → to 0 ≡ 0 → All (IsRight unresolved top from to) (stops left tree)
    → contexts (without_contexts (renamed (text_in names) tree)) ≡ contexts tree

-- spans do not matter to what is observed
abbrev pub SpansDoNotMatterToRuns : Type 0
SpansDoNotMatterToRuns = (turns : ℕ) (options : Config) (m : Node) (script : Script) → observe turns options (without_spans m) script ≡ observe turns options m script

-- the laws of the steps
pub record Laws : Type 0 where
  pub sorted : ResolvedKeepsSorts
  pub strip_sorts : StrippingKeepsSorts
  pub strip_fits : StrippingKeepsFits
  pub fits_with : ContextsDoNotMatter
  pub fits_resolved : ResolvedTreesFitAlike
  pub plain : StrippedModulesArePlain
  pub plain_with : ContextsDoNotMatterToPlain
  pub plain_renamed : PlainTreesStayPlain
  pub says : ReadyTreesSayTheirScopes
  pub once : ReadyTreesDeclareTextsOnce
  pub right : CollapsedContextsAreRight
  pub counts : ReadingAgainCounts
  pub again : IsReadAgain
  pub stay : WrittenModulesStay
  pub captures : ResolvedCapturesNothing
  pub each_once : ResolvedDeclaresEachOnce
  pub tells : ResolvedTellsScopesApart
  pub names : SortedNamesAreOuter
  pub meets : PlainFinalTextsMeet
  pub own_meets : PlainOwnTextsMeet
  pub runs : MeetingTextsKeepRuns
  pub strips : StrippingKeepsRuns
  pub types : OnlyTypesGo
  pub spans : SpansDoNotMatterToContexts
  pub parentheses : ParenthesesDoNotMatterToContexts
  pub alike : RunsAlike
  pub places : SpansDoNotMatterToRuns

beyond : (n : ℕ) → n < n + 2
beyond n = omega arith

above : (n : ℕ) → n < n + 1
above n = omega arith

two-apart : (n : ℕ) → n + 2 ≡ n + 1 → ⊥
two-apart n h = omega arith

itself : (n : ℕ) → n ≤ n
itself n = omega arith

none-above : (left n : ℕ) → left < n → n ≡ 0 → ⊥
none-above left n lt is = omega arith

-- the map by which the contexts of all scopes are one keeps the empty one and that of free names apart

module _ (free : ℕ) (there : free ≢ 0) where
  abbrev of : Bool → Bool → ℕ
  of zero same = cond zero 0 (cond same 1 2)

  empty-by : (ctxt : ℕ) (zero same : Bool) → (ctxt == 0) ≡ zero → of zero same ≡ 0 → ctxt ≡ 0
  empty-by ctxt true same is h = eqb-true ctxt 0 is
  empty-by ctxt false true is h = absurd (cc)
  empty-by ctxt false false is h = absurd (cc)

  free-by : (ctxt : ℕ) (zero same : Bool) → (ctxt == free) ≡ same → of zero same ≡ 1 → ctxt ≡ free
  free-by ctxt true same is h = absurd (cc)
  free-by ctxt false true is h = eqb-true ctxt free is
  free-by ctxt false false is h = absurd (cc)

  free-one : collapsed free free ≡ 1
  free-one = by (free == 0) (free == free) refl refl
    where
      by : (zero same : Bool) → (free == 0) ≡ zero → (free == free) ≡ same → of zero same ≡ 1
      by true same is e = absurd (there (eqb-true free 0 is))
      by false true is e = refl
      by false false is e = absurd (true-false (eq-eqb free free refl) e)

  collapsed-apart : KeepsFreeApart (collapsed free) free
  collapsed-apart = record {
    empty = λ ctxt h. empty-by ctxt (ctxt == 0) (ctxt == free) refl h;
    free_names = λ ctxt h. free-by ctxt (ctxt == 0) (ctxt == free) refl (h ∙ free-one);
  }

-- what holds of each stop holds of each place
placed-all : (P : Place → Type 0) (left : ℕ) (tree : Node) → All (λ (stop : Stop). P (record { around = stop.around; node = stop.node })) (stops left tree) → All P (places tree)
placed-all P left tree h =
    gathers Place place_here P tree nowhere left
    (λ k d lt. (let stop = get_or (stops left tree) k d in All-cons P (record { around = stop.around; node = stop.node }) [] (h k d lt) (All-nil P)))

module _ (laws : Laws) (assignments : Bool) (free : ℕ) (r : Node) (is : IsReady assignments free r) (once : DeclaresItsTextsOnce r) where
  abbrev s : Node
  s = stripped r

  abbrev to : ℕ → ℕ
  to = collapsed free

  scoped : (less : ℕ) → All (IsScoped free) (stops less s)
  scoped less = laws.says assignments free r is less

  sorted : HasSort sort.Module s
  sorted = laws.strip_sorts r is.fits

  plain : is_plain s ≡ true
  plain = laws.plain r is.fits is.types

  binds : BindsInside free s
  binds id bound =
      let inside = bound-inside free 0 s (scoped 0) id bound in record { inner = inside.0; bound = inside.1; no_this = bound-other s id (modules-are-full r is.fits is.types) bound }

  outer-names : NamesAreOuter s
  outer-names = laws.names s sorted (outer s nowhere 0 (λ k d lt. (scoped 0 k d lt).names)) (unexported s plain)

  abbrev SaysHere : Place → Type 0
  SaysHere = SaysItsScopes (is_new (sights s)) free

  says : SaysScopes (is_new (sights s)) free s
  says = record {
    scopes = placed-all SaysHere 0 s
        (λ k d lt. (let here = scoped 0 k d lt in record { outer = here.names; free_names = here.free_names; once = laws.once assignments free r is once 0 k d lt }));
    there = is.free_inner;
  }

  -- what the tree does, it does without types
  strip-runs : (turns : ℕ) (options : Config) (script : Script) → observe turns options s script ≡ observe turns options r script
  strip-runs turns options script =
      let stands = module-stands r is.fits is.types in
      laws.strips turns options r script (laws.types r is.fits.sorted stands.usual (no-receivers r stands.fits)) (alone-bare r is.types) (plain-lacks s plain)

  module _ (names : List Named) (texts : HygienicTexts s names) where
    abbrev h : Node
    h = renamed (text_in names) s

    abbrev u : Node
    u = without_contexts h

    -- with whatever contexts that keep the empty one, it is sorted
    made : (onto : ℕ → ℕ) → onto 0 ≡ 0 → HasSort sort.Module (with_contexts (λ t c. onto c) h) × HasBodies (with_contexts (λ t c. onto c) h)
    made onto none = kept (λ t c. onto c) (text_in names) (λ t. none) s (one sort.Module) at_root sorted (modules-are-full r is.fits is.types) tt

    bare-made : HasSort sort.Module u × HasBodies u
    bare-made = made (λ c. 0) refl

    -- contexts enough for the tree without types
    counted : contexts u ≡ contexts s
    counted =
        let n = contexts s in
        laws.counts (n + 2) (n + 1) n (collapsed (n + 2)) to s names texts refl refl (laws.right (n + 2) (n + 1) free n s (scoped n) is.free_inner (beyond n) (above n) (two-apart n) (itself n))

    -- what has the empty context keeps its text
    stays-by : (text : List ℕ) (o : Option (List ℕ)) → text_in names (text, 0) ≡ o → unwrap_or o text ≡ text
    stays-by text None e = refl
    stays-by text (Some t) e =
        let given = given-text (sights s) (λ id bound. (binds id bound).no_this) (text, 0) t (meetings s) names texts e in absurd ((binds (text, 0) given.bound).inner refl)

    empty : (text : List ℕ) → text_of (text_in names) (text, 0) ≡ text
    empty text = stays-by text (text_in names (text, 0)) refl

    module _ (exported : KeepsExportedTexts (text_of (text_in names)) s) where
      meets : Meets (sent to (text_in names)) s
      meets = laws.meets names free to s texts (laws.strip_fits r is.fits is.targets) plain says binds (collapsed-apart free is.free_inner) refl exported

      -- what the tree does, it does with its final texts, and with one context for all scopes
      final-runs : (turns : ℕ) (options : Config) (script : Script) → observe turns options (with_contexts (λ t c. to c) h) script ≡ observe turns options s script
      final-runs turns options script = laws.runs turns options to (text_in names) s script refl empty outer-names meets

      final-plain : is_plain (with_contexts (λ t c. to c) h) ≡ true
      final-plain = laws.plain_renamed to (text_in names) s refl empty outer-names.named (λ id. meets.this_stays id) sorted (made to refl).0 ∙ plain

      module _ (fits : Fits h) (clear : redeclared u ≡ []) (written : Node) (reading : IsReading h written) (unresolved top left : ℕ) (given : AreGiven unresolved top left written) where
        enough : contexts s ≤ left
        enough = subst (λ (n : ℕ). n ≤ left) ((laws.spans written (explicit u) reading).count ∙ (laws.parentheses u bare-made.1).count ∙ counted) given.enough

        enough-bare : contexts u ≤ left
        enough-bare = subst (λ (n : ℕ). n ≤ left) (sym counted) enough

        abbrev from : ℕ → ℕ
        from = collapsed unresolved

        abbrev w : Node
        w = resolved unresolved top left u

        there : unresolved ≢ 0
        there = none-above left unresolved given.unresolved_above

        read-again : with_contexts (λ t c. from c) w ≡ with_contexts (λ t c. to c) h
        read-again =
            laws.again unresolved top left from to s names texts refl
            (laws.right unresolved top free left s (scoped left) is.free_inner given.unresolved_above given.top_above given.apart enough)

        staying : IsStayingModule u
        staying = record { sorted = bare-made.0; bare = bare-twice h; clear = clear; kept = laws.stay free left s names texts (scoped left) }

        scoped-again : All (IsScoped unresolved) (stops left w)
        scoped-again = (laws.tells unresolved top left u staying given.unresolved_above given.top_above given.apart enough-bare).scoped

        each : All (λ (stop : Stop). DeclaresEachOnce stop.node stop.around) (stops left w)
        each = laws.each_once unresolved top left u staying given.unresolved_above given.top_above given.apart enough-bare

        sorted-again : HasSort sort.Module w
        sorted-again = (laws.sorted unresolved top left u sort.Module).1 bare-made.0

        fits-again : Fits w
        fits-again = (laws.fits_resolved unresolved top left u).1 ((laws.fits_with (λ t c. 0) h).1 fits)

        plain-again : is_plain w ≡ true
        plain-again = sym (laws.plain_with (λ t c. from c) w) ∙ ap is_plain read-again ∙ final-plain

        outer-again : NamesAreOuter w
        outer-again = laws.names w sorted-again (outer w nowhere left (λ k d lt. (scoped-again k d lt).names)) (unexported w plain-again)

        abbrev SaysAgain : Place → Type 0
        SaysAgain = SaysItsScopes (λ id. false) unresolved

        says-again : SaysScopes (λ id. false) unresolved w
        says-again = record {
          scopes = placed-all SaysAgain left w
              (λ k d lt. (let here = scoped-again k d lt in record { outer = here.names; free_names = here.free_names; once = λ opened text c e hc he nc ne. (each k d lt).once opened text c e hc he }));
          there = there;
        }

        own-meets : Meets (sent from (λ id. None)) w
        own-meets =
            laws.own_meets unresolved from w (laws.captures unresolved top left u staying given.unresolved_above given.top_above given.apart enough-bare)
            (placed-all (λ (place : Place). DeclaresEachOnce place.node place.around) left w each) fits-again plain-again says-again (collapsed-apart unresolved there) refl

        module _ (turns : ℕ) (options : Config) (script : Script) where
          own-runs : observe turns options (with_contexts (λ t c. from c) w) script ≡ observe turns options w script
          own-runs = ap (λ n. observe turns options (with_contexts (λ t c. from c) n) script) (sym (stays w at_root)) ∙ laws.runs turns options from (λ id. None) w script refl (λ text. refl) outer-again own-meets

          bare-runs : observe turns options w script ≡ observe turns options r script
          bare-runs = sym own-runs ∙ ap (λ n. observe turns options n script) read-again ∙ final-runs turns options script ∙ strip-runs turns options script

          explicit-runs : observe turns options (resolved unresolved top left (explicit u)) script ≡ observe turns options r script
          explicit-runs =
              ap (λ n. observe turns options n script) ((laws.parentheses u bare-made.1).same unresolved top left) ∙ laws.alike turns options w script sorted-again (plain-lacks w plain-again) ∙ bare-runs

          written-runs : observe turns options (resolved unresolved top left written) script ≡ observe turns options r script
          written-runs =
              sym (laws.places turns options (resolved unresolved top left written) script)
              ∙ ap (λ n. observe turns options n script) ((laws.spans written (explicit u) reading).same unresolved top left)
              ∙ laws.places turns options (resolved unresolved top left (explicit u)) script ∙ explicit-runs

pub keep-runs : Laws → PassesKeepRuns
keep-runs laws assignments free tree final written is once hygienic fits clear exported reading unresolved top left given turns options script =
    written-runs laws assignments free tree is once hygienic.names hygienic.texts exported (subst Fits hygienic.is fits) (subst (λ n. redeclared (without_contexts n) ≡ []) hygienic.is clear) written
    (subst (λ n. IsReading n written) hygienic.is reading) unresolved top left given turns options script
