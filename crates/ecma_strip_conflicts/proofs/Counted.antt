-- Of what meets in a scope where nothing clashes, what goes is nothing that may be merged with.
use Rattle.std.proofs.Common.{◌≡◌, ◌⊎◌, inl, inr, ℕ, Bool, true, false, ◌&&◌, ◌||◌, not, cond, filter, List, [], ◌∷◌, ◌++◌, Option, refl, sym, ap, ◌∙◌, bytes_eq, get_or}
use Rattle.std.specs.List.{All, list_any}
use Rattle.std.proofs.lemmas.List.Elements.{All-cons, All-head, All-nil, All-tail}
use Rattle.std.proofs.lemmas.Slice.Eq.{bytes_eq-Decides}
use Rattle.ecma_scope.specs.declared.form.Declaration.{Declaration}
use Rattle.ecma_scope.specs.declared.form.Form.{Form}
use Rattle.ecma_scope.specs.declared.form.Form.TheVariants as form
use Rattle.ecma_scope.specs.declared.role.Role.{Role}
use Rattle.ecma_scope.specs.declared.role.Role.TheVariants as role
use Rattle.ecma_scope.specs.Conflicts.{clashing, conflict, has_parameters, is_further_out, is_lexical, marked, may_be_merged, may_not_meet}
use Rattle.ecma_scope.specs.Declarations.{declares, is_body, is_hoisted, is_own, is_stated}
use Rattle.ecma_scope.specs.Scopes.{is_root}
use Rattle.ecma_hygiene.proofs.Telling.{and-both, or-first, or-second, text-refl, true-false}
use Rattle.ecma_strip_conflicts.proofs.Fewer.{Calm, First, Loose, all-calm, all-front, clash-behind, first, meets_around, mergeable, or-left, or-right}
use Rattle.ecma_strip_conflicts.proofs.Unmerged.{is_raw}

by-test : (b : Bool) → (b ≡ true → ⊥) → b ≡ false
by-test true never = absurd (never refl)
by-test false never = refl

-- ---- lists

pub passes-all : (test : Declaration → Bool) (ds : List Declaration) → All (λ d. test d ≡ true) (filter test ds)
passes-all test [] = All-nil (λ d. test d ≡ true)
passes-all test (d ∷ ds) = by (test d) refl (passes-all test ds)
  where
    by : (b : Bool) → test d ≡ b → All (λ d. test d ≡ true) (filter test ds) → All (λ d. test d ≡ true) (cond b (d ∷ filter test ds) (filter test ds))
    by true is rest = All-cons (λ d. test d ≡ true) d (filter test ds) is rest
    by false is rest = rest

pub all-passed : (P : Declaration → Type 0) (test : Declaration → Bool) (ds : List Declaration) → All P ds → All P (filter test ds)
all-passed P test [] all = All-nil P
all-passed P test (d ∷ ds) all = by (test d) (all-passed P test ds (All-tail P d ds all))
  where
    by : (b : Bool) → All P (filter test ds) → All P (cond b (d ∷ filter test ds) (filter test ds))
    by true rest = All-cons P d (filter test ds) (All-head P d ds all) rest
    by false rest = rest

pub all-both : (P Q : Declaration → Type 0) (ds : List Declaration) → All P ds → All Q ds → All (λ d. P d × Q d) ds
all-both P Q ds all also = λ k d lt. (all k d lt, also k d lt)

abbrev Member : List Declaration → Declaration → Type 0
Member ds y = may_be_merged y.form ≡ true → list_any (mergeable y.sym) ds ≡ true

members : (ds : List Declaration) → All (Member ds) ds
members [] = All-nil (Member [])
members (d ∷ ds) =
    All-cons (Member (d ∷ ds)) d ds
    (λ may. or-first (mergeable d.sym d) (list_any (mergeable d.sym) ds) (and-both (bytes_eq d.sym d.sym) (may_be_merged d.form) (text-refl d.sym) may))
    (λ k e lt may. or-second (mergeable (get_or ds k e).sym d) (list_any (mergeable (get_or ds k e).sym) ds) (members ds k e lt may))

-- ---- lexical declarations

lexical-by : (r : Role) (f : Form) → may_be_merged f ≡ true → is_raw f ≡ true → is_body r ≡ false → is_root r ≡ false → is_lexical r f ≡ true
lexical-by r form.Class may raw body root = refl
lexical-by r form.Function may raw body root = ap not body
lexical-by r form.Enum may raw body root = ap not root
lexical-by r form.Namespace may raw body root = ap not root
lexical-by r form.Merged may raw body root = absurd (true-false raw refl)
lexical-by r _ may raw body root = absurd (true-false may refl)

body-lexical : (f : Form) → may_be_merged f ≡ true → is_raw f ≡ true → is_hoisted f ≡ false → is_lexical role.Body f ≡ true
body-lexical form.Class may raw own = refl
body-lexical form.Function may raw own = absurd (true-false refl own)
body-lexical form.Enum may raw own = refl
body-lexical form.Namespace may raw own = refl
body-lexical form.Merged may raw own = absurd (true-false raw refl)
body-lexical _ may raw own = absurd (true-false may refl)

not-both : (a b : Bool) → not (a && b) ≡ true → b ≡ true → a ≡ false
not-both true b own is = absurd (true-false own (ap not is))
not-both false b own is = refl

-- in the body of a function or the block of a `catch` a declaration with a parameter's text
body-meets : (r : Role) (around : List ℕ → Option Bool) (z : Declaration) → has_parameters r ≡ true → is_own r around z ≡ true → is_stated (around z.sym) ≡ true → may_be_merged z.form ≡ true → is_raw z.form ≡ true
    → meets_around r around z ≡ true
body-meets role.Body around z body own is may raw =
    and-both (is_lexical role.Body z.form) (is_stated (around z.sym)) (body-lexical z.form may raw (not-both (is_hoisted z.form) (is_stated (around z.sym)) own is)) is
body-meets role.CatchBody around z body own is may raw = and-both (is_lexical role.CatchBody z.form) (is_stated (around z.sym)) (lexical-by role.CatchBody z.form may raw refl refl) is
body-meets _ around z body own is may raw = absurd (true-false body refl)

module _ (r : Role) (around : List ℕ → Option Bool) (own passing : List Declaration) where
  abbrev counts : Declaration → Bool
  counts d = d.stays || is_further_out r around passing d.sym

  abbrev pub counted : List Declaration
  counted = filter counts own

  module _ (clear : clashing r around [] (marked [] counted ++ passing) ≡ []) (raws : All (λ d. is_raw d.form ≡ true) own) (owned : All (λ d. is_own r around d ≡ true) own)
      (vars : All (λ d. d.form ≡ form.Var) passing) (safe : (is_root r || is_body r) ≡ true → passing ≡ []) where
    abbrev Free : Declaration → Type 0
    Free z = All (λ p. conflict r z p ≡ false) passing

    swap : (ms : List Declaration) → All (λ p. list_any (λ e. conflict r e p) ms ≡ false) passing → All Free ms
    swap [] all = All-nil Free
    swap (m ∷ ms) all =
        All-cons Free m ms (λ k p lt. or-left (conflict r m (get_or passing k p)) (list_any (λ e. conflict r e (get_or passing k p)) ms) (all k p lt))
        (swap ms (λ k p lt. or-right (conflict r m (get_or passing k p)) (list_any (λ e. conflict r e (get_or passing k p)) ms) (all k p lt)))

    abbrev Marked : Declaration → Type 0
    Marked z = (meets_around r around z ≡ false) × Free z

    all-marked : All Marked (marked [] counted)
    all-marked =
        let calm : All (Calm r around []) (marked [] counted) = all-front r around (Calm r around []) (marked [] counted) passing (all-calm r around [] (marked [] counted ++ passing) clear) in
        let met : All (Calm r around (marked [] counted)) passing = all-calm r around (marked [] counted) passing (clash-behind r around [] (marked [] counted) passing clear) in
        let free : All Free (marked [] counted) = swap (marked [] counted) (λ k p lt. (met k p lt).0) in
        λ k z lt. ((calm k z lt).1, free k z lt)

    abbrev Declared : Declaration → Type 0
    Declared z = (is_raw z.form ≡ true) × (is_own r around z ≡ true)

    all-declared : All Declared counted
    all-declared = all-passed Declared counts own (λ k z lt. (raws k z lt, owned k z lt))

    -- a `var` that passes
    var-meets : (z : Declaration) (text : List ℕ) → z.sym ≡ text → is_lexical r z.form ≡ true → (ps : List Declaration) → All (λ p. conflict r z p ≡ false) ps → declares ps text ≡ true → ⊥
    var-meets z text is lexical [] free there = true-false there refl
    var-meets z text is lexical (p ∷ ps) free there = by (bytes_eq p.sym text) refl there (var-meets z text is lexical ps (All-tail (λ p. conflict r z p ≡ false) p ps free))
      where
        by : (b : Bool) → bytes_eq p.sym text ≡ b → (b || declares ps text) ≡ true → (declares ps text ≡ true → ⊥) → ⊥
        by true same h rec =
            true-false
            (and-both (bytes_eq z.sym p.sym) (may_not_meet r z.form p.form) ((bytes_eq-Decides z.sym p.sym).1 (is ∙ sym ((bytes_eq-Decides p.sym text).0 same)))
            (or-first (is_lexical r z.form || is_lexical r p.form) _ (or-first (is_lexical r z.form) (is_lexical r p.form) lexical)))
            (All-head (λ p. conflict r z p ≡ false) p ps free)
        by false same h rec = rec h

    one : (text : List ℕ) → First text Marked Declared → is_further_out r around passing text ≡ true → ⊥
    one text z further = by (declares passing text) refl further
      where
        inside : (is_root r || is_body r) ≡ false → declares passing text ≡ true → ⊥
        inside plain there =
            var-meets z.found text z.is (lexical-by r z.found.form z.may z.as_declared.0 (or-right (is_root r) (is_body r) plain) (or-left (is_root r) (is_body r) plain)) passing z.as_marked.1 there

        stated : (a b : Bool) → has_parameters r ≡ a → is_stated (around text) ≡ b → (a && b) ≡ true → ⊥
        stated true true body is h =
            true-false (body-meets r around z.found body z.as_declared.1 (ap (λ (t : List ℕ). is_stated (around t)) z.is ∙ is) z.may z.as_declared.0) z.as_marked.0
        stated true false body is h = true-false h refl
        stated false b body is h = true-false h refl

        by : (b : Bool) → declares passing text ≡ b → (b || (has_parameters r && is_stated (around text))) ≡ true → ⊥
        by true there h = elim (test (is_root r || is_body r)) [
          | inl is ↦ true-false there (ap (λ (ps : List Declaration). declares ps text) (safe is))
          | inr is ↦ inside is there
        ]
          where
            test : (b : Bool) → (b ≡ true) ⊎ (b ≡ false)
            test true = inl refl
            test false = inr refl
        by false there h = stated (has_parameters r) (is_stated (around text)) refl refl h

    pub loose : All Loose counted
    loose k y lt goes =
        let z : Declaration = get_or counted k y in
        by-test (may_be_merged z.form)
        (λ may. one z.sym (first z.sym Marked Declared [] counted refl (members counted k y lt may) all-marked all-declared) (sym (ap (λ (b : Bool). b || is_further_out r around passing z.sym) goes) ∙ passes-all counts own k y lt))
