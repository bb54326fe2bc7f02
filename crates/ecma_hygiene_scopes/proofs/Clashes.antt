-- What the scope rules keep apart: where nothing clashes, no `var` passes a scope that has its text, and no name of a body is that of a parameter.
use Rattle.std.proofs.Common.{◌≡◌, ℕ, Bool, true, false, ◌&&◌, ◌||◌, cond, filter, List, [], ◌∷◌, ◌++◌, Option, refl, sym, ap, ◌∙◌, bytes_eq, get_or, append_assoc}
use Rattle.std.specs.List.{All, list_any}
use Rattle.std.proofs.lemmas.List.Elements.{All-cons, All-head, All-nil, All-tail}
use Rattle.std.proofs.lemmas.List.Folds.{list_any-append}
use Rattle.std.proofs.lemmas.Slice.Eq.{bytes_eq-Decides}
use Rattle.ecma_scope.specs.declared.form.Declaration.{Declaration}
use Rattle.ecma_scope.specs.declared.form.Form.{Form}
use Rattle.ecma_scope.specs.declared.form.Form.TheVariants as form
use Rattle.ecma_scope.specs.declared.role.Role.{Role}
use Rattle.ecma_scope.specs.Declarations.{declares, is_stated}
use Rattle.ecma_scope.specs.Conflicts.{clashes, clashing, conflict, has_parameters, is_further_out, is_lexical, mark, marked, may_be_merged, may_merge, may_not_meet, merges}
use Rattle.ecma_hygiene.proofs.Telling.{and-both, or-first, or-second, text-refl, true-false}

abbrev pub Stays : Declaration → Type 0
Stays d = d.stays ≡ true

or-left : (a b : Bool) → (a || b) ≡ false → a ≡ false
or-left true b h = h
or-left false b h = refl

or-right : (a b : Bool) → (a || b) ≡ false → b ≡ false
or-right true b h = cc
or-right false b h = h

-- ---- lists

module _ (P : Declaration → Type 0) where
  back-by : (d : Declaration) (ds : List Declaration) (b : Bool) → d.stays ≡ b → All P (cond b (d ∷ filter (λ e. e.stays) ds) (filter (λ e. e.stays) ds)) → (All P (filter (λ e. e.stays) ds) → All (λ e. e.stays ≡ true → P e) ds)
      → All (λ e. e.stays ≡ true → P e) (d ∷ ds)
  back-by d ds true is all rec = All-cons (λ e. e.stays ≡ true → P e) d ds (λ stays. All-head P d (filter (λ e. e.stays) ds) all) (rec (All-tail P d (filter (λ e. e.stays) ds) all))
  back-by d ds false is all rec = All-cons (λ e. e.stays ≡ true → P e) d ds (λ stays. absurd (true-false stays is)) (rec all)

  pub all-back : (ds : List Declaration) → All P (filter (λ e. e.stays) ds) → All (λ e. e.stays ≡ true → P e) ds
  all-back [] all = All-nil (λ e. e.stays ≡ true → P e)
  all-back (d ∷ ds) all = back-by d ds d.stays refl all (all-back ds)

-- ---- nothing clashes

module _ (r : Role) (around : List ℕ → Option Bool) where
  abbrev test : List Declaration → Declaration → Bool
  test earlier d = list_any (λ e. conflict r e d) earlier || (has_parameters r && (is_lexical r d.form && is_stated (around d.sym)))

  first-none : (b : Bool) (text : List ℕ) (rest : List (List ℕ)) → cond b (text ∷ []) [] ++ rest ≡ [] → b ≡ false
  first-none true text rest h = cc
  first-none false text rest h = refl

  rest-none : (b : Bool) (text : List ℕ) (rest : List (List ℕ)) → cond b (text ∷ []) [] ++ rest ≡ [] → rest ≡ []
  rest-none true text rest h = cc
  rest-none false text rest h = h

  fewer : (a b c : Bool) → ((a || b) || c) ≡ false → (a || c) ≡ false
  fewer true b c h = h
  fewer false true c h = cc
  fewer false false c h = h

  clashing-none : (earlier ds : List Declaration) → clashing r around earlier ds ≡ [] → All (λ d. test earlier d ≡ false) ds
  clashing-none earlier [] h = All-nil (λ d. test earlier d ≡ false)
  clashing-none earlier (d ∷ ds) h =
      let later = clashing-none (earlier ++ d ∷ []) ds (rest-none (clashes r around earlier d) d.sym (clashing r around (earlier ++ d ∷ []) ds) h) in
      All-cons (λ e. test earlier e ≡ false) d ds (first-none (clashes r around earlier d) d.sym (clashing r around (earlier ++ d ∷ []) ds) h)
      (weaker earlier d ds later)
    where
      weaker : (earlier : List Declaration) (d : Declaration) (ds : List Declaration) → All (λ e. test (earlier ++ d ∷ []) e ≡ false) ds → All (λ e. test earlier e ≡ false) ds
      weaker earlier d [] all = All-nil (λ e. test earlier e ≡ false)
      weaker earlier d (x ∷ xs) all =
          All-cons (λ e. test earlier e ≡ false) x xs
          (fewer (list_any (λ e. conflict r e x) earlier) (conflict r d x || false) (has_parameters r && (is_lexical r x.form && is_stated (around x.sym)))
          (ap (λ (b : Bool). b || (has_parameters r && (is_lexical r x.form && is_stated (around x.sym)))) (sym (list_any-append (λ e. conflict r e x) earlier (d ∷ []))) ∙ All-head (λ e. test (earlier ++ d ∷ []) e ≡ false) x xs all))
          (weaker earlier d xs (All-tail (λ e. test (earlier ++ d ∷ []) e ≡ false) x xs all))

  clashing-behind : (earlier front bs : List Declaration) → clashing r around earlier (front ++ bs) ≡ [] → clashing r around (earlier ++ front) bs ≡ []
  clashing-behind earlier [] bs h = ap (λ (zs : List Declaration). clashing r around zs bs) (none earlier) ∙ h
    where
      none : (xs : List Declaration) → xs ++ [] ≡ xs
      none [] = refl
      none (x ∷ xs) = ap (λ (zs : List Declaration). x ∷ zs) (none xs)
  clashing-behind earlier (a ∷ front) bs h =
      ap (λ (zs : List Declaration). clashing r around zs bs) (sym (append_assoc earlier (a ∷ []) front))
      ∙ clashing-behind (earlier ++ a ∷ []) front bs (rest-none (clashes r around earlier a) a.sym (clashing r around (earlier ++ a ∷ []) (front ++ bs)) h)

-- ---- the first declaration of a text is not merged

mark-by : (d : Declaration) (b : Bool) → (cond b (record d { form = form.Merged }) d).sym ≡ d.sym
mark-by d true = refl
mark-by d false = refl

none-merged : (text : List ℕ) (earlier : List Declaration) → declares earlier text ≡ false → list_any (λ e. bytes_eq e.sym text && may_be_merged e.form) earlier ≡ false
none-merged text [] h = refl
none-merged text (e ∷ es) h =
    go (bytes_eq e.sym text) (may_be_merged e.form) (list_any (λ x. bytes_eq x.sym text && may_be_merged x.form) es) (or-left (bytes_eq e.sym text) (declares es text) h) (none-merged text es (or-right (bytes_eq e.sym text) (declares es text) h))
  where
    go : (a b c : Bool) → a ≡ false → c ≡ false → ((a && b) || c) ≡ false
    go true b c is rest = cc
    go false b c is rest = rest

module _ (text : List ℕ) (wanted : Form → Bool) where
  abbrev is_wanted : Declaration → Bool
  is_wanted e = bytes_eq e.sym text && wanted e.form

  and-none : (a : Bool) → (a && false) ≡ false
  and-none true = refl
  and-none false = refl

  unmerged : (earlier : List Declaration) (d : Declaration) → d.sym ≡ text → declares earlier text ≡ false → mark earlier d ≡ d
  unmerged earlier d is none =
      ap (λ (b : Bool). cond (may_merge d.form && b) (record d { form = form.Merged }) d) (ap (λ (t : List ℕ). list_any (λ e. bytes_eq e.sym t && may_be_merged e.form) earlier) is ∙ none-merged text earlier none)
      ∙ ap (λ (b : Bool). cond b (record d { form = form.Merged }) d) (and-none (may_merge d.form))

  first-by : (earlier : List Declaration) (d : Declaration) (ds : List Declaration) (b : Bool) → bytes_eq d.sym text ≡ b → declares earlier text ≡ false → (bytes_eq d.sym text ≡ true → wanted d.form ≡ true) → (b || declares ds text) ≡ true
      → (declares (earlier ++ mark earlier d ∷ []) text ≡ false → declares ds text ≡ true → list_any is_wanted (marked (earlier ++ mark earlier d ∷ []) ds) ≡ true) → list_any is_wanted (marked earlier (d ∷ ds)) ≡ true
  first-by earlier d ds true is none want h rec =
      let equal : d.sym ≡ text = (bytes_eq-Decides d.sym text).0 is in
      or-first (is_wanted (mark earlier d)) (list_any is_wanted (marked (earlier ++ mark earlier d ∷ []) ds))
      (ap is_wanted (unmerged earlier d equal none) ∙ (λ j. is j && want is j))
  first-by earlier d ds false is none want h rec =
      or-second (is_wanted (mark earlier d)) (list_any is_wanted (marked (earlier ++ mark earlier d ∷ []) ds))
      (rec (list_any-append (λ e. bytes_eq e.sym text) earlier (mark earlier d ∷ []) ∙ (λ j. none j || ((ap (λ (t : List ℕ). bytes_eq t text) (mark-by d (merges earlier d)) ∙ is) j || false))) h)

  pub first-wanted : (earlier ds : List Declaration) → declares earlier text ≡ false → declares ds text ≡ true → All (λ e. bytes_eq e.sym text ≡ true → wanted e.form ≡ true) ds → list_any is_wanted (marked earlier ds) ≡ true
  first-wanted earlier [] none h all = absurd (true-false h refl)
  first-wanted earlier (d ∷ ds) none h all =
      first-by earlier d ds (bytes_eq d.sym text) refl none (All-head (λ e. bytes_eq e.sym text ≡ true → wanted e.form ≡ true) d ds all) h
      (λ still later. first-wanted (earlier ++ mark earlier d ∷ []) ds still later (All-tail (λ e. bytes_eq e.sym text ≡ true → wanted e.form ≡ true) d ds all))

declares-by : (ds : List Declaration) (text : List ℕ) (b : Bool) → declares ds text ≡ b → (declares ds text ≡ true → ⊥) → declares ds text ≡ false
declares-by ds text true is never = absurd (never is)
declares-by ds text false is never = is

-- ---- what counts

pub all-filter : (P : Declaration → Type 0) (test : Declaration → Bool) (ds : List Declaration) → All (λ d. test d ≡ true → P d) ds → All P (filter test ds)
all-filter P test [] all = All-nil P
all-filter P test (d ∷ ds) all = by (test d) refl (All-head (λ d. test d ≡ true → P d) d ds all) (all-filter P test ds (All-tail (λ d. test d ≡ true → P d) d ds all))
  where
    by : (b : Bool) → test d ≡ b → (test d ≡ true → P d) → All P (filter test ds) → All P (cond b (d ∷ filter test ds) (filter test ds))
    by true is h rest = All-cons P d (filter test ds) (h is) rest
    by false is h rest = rest

declared-more : (d : Declaration) (ds xs : List Declaration) → All (λ x. declares ds x.sym ≡ true) xs → All (λ x. declares (d ∷ ds) x.sym ≡ true) xs
declared-more d ds xs all = λ k e lt. or-second (bytes_eq d.sym (get_or xs k e).sym) (declares ds (get_or xs k e).sym) (all k e lt)

all-declared : (ds : List Declaration) → All (λ d. declares ds d.sym ≡ true) ds
all-declared [] = All-nil (λ d. declares [] d.sym ≡ true)
all-declared (d ∷ ds) =
    All-cons (λ x. declares (d ∷ ds) x.sym ≡ true) d ds (or-first (bytes_eq d.sym d.sym) (declares ds d.sym) (text-refl d.sym)) (declared-more d ds ds (all-declared ds))

-- where a test keeps all declarations of a text, those that it keeps declare it too
module _ (test : Declaration → Bool) (text : List ℕ) (passes : (d : Declaration) → d.sym ≡ text → test d ≡ true) where
  declared-by : (d : Declaration) (ds rest : List Declaration) (b same : Bool) → test d ≡ b → bytes_eq d.sym text ≡ same → (same || declares ds text) ≡ true → (declares ds text ≡ true → declares rest text ≡ true)
      → declares (cond b (d ∷ rest) rest) text ≡ true
  declared-by d ds rest true true is same h rec = or-first (bytes_eq d.sym text) (declares rest text) same
  declared-by d ds rest true false is same h rec = or-second (bytes_eq d.sym text) (declares rest text) (rec h)
  declared-by d ds rest false true is same h rec = absurd (true-false (passes d ((bytes_eq-Decides d.sym text).0 same)) is)
  declared-by d ds rest false false is same h rec = rec h

  still-declared : (ds : List Declaration) → declares ds text ≡ true → declares (filter test ds) text ≡ true
  still-declared [] h = h
  still-declared (d ∷ ds) h = declared-by d ds (filter test ds) (test d) (bytes_eq d.sym text) refl refl h (still-declared ds)

module _ (r : Role) (around : List ℕ → Option Bool) (own passing : List Declaration) where
  abbrev counts : Declaration → Bool
  counts d = d.stays || is_further_out r around passing d.sym

  abbrev pub counted : List Declaration
  counted = filter counts own

  module _ (none : clashing r around [] (marked [] counted ++ passing) ≡ []) where
    -- no `var` that stays passes a scope that declares its text
    module _ (meets : All (λ e. may_not_meet r e.form form.Var ≡ true) own) (vars : All (λ d. d.form ≡ form.Var) passing) where
      conflict-free : All (λ d. test r around (marked [] counted) d ≡ false) passing
      conflict-free = clashing-none r around (marked [] counted) passing (clashing-behind r around [] (marked [] counted) passing none)

      own-none : (d : Declaration) → d.form ≡ form.Var → declares passing d.sym ≡ true → test r around (marked [] counted) d ≡ false → declares own d.sym ≡ true → ⊥
      own-none d is passed free there =
          let all_count : (e : Declaration) → e.sym ≡ d.sym → counts e ≡ true =
          (λ e same. or-second e.stays (is_further_out r around passing e.sym) (or-first (declares passing e.sym) (has_parameters r && is_stated (around e.sym)) (ap (declares passing) same ∙ passed))) in
          let wanted : All (λ e. bytes_eq e.sym d.sym ≡ true → may_not_meet r e.form form.Var ≡ true) counted =
          all-filter (λ e. bytes_eq e.sym d.sym ≡ true → may_not_meet r e.form form.Var ≡ true) counts own (λ k e lt kept same. meets k e lt) in
          true-false (first-wanted d.sym (λ f. may_not_meet r f form.Var) [] counted refl (still-declared counts d.sym all_count own there) wanted)
          (ap (λ (f : Form). list_any (λ e. bytes_eq e.sym d.sym && may_not_meet r e.form f) (marked [] counted)) (sym is)
          ∙ or-left (list_any (λ e. conflict r e d) (marked [] counted)) (has_parameters r && (is_lexical r d.form && is_stated (around d.sym))) free)

      pub passes-none : All (λ d. declares own d.sym ≡ false) passing
      passes-none k d lt =
          let x : Declaration = get_or passing k d in
          declares-by own x.sym (declares own x.sym) refl (own-none x (vars k d lt) (all-declared passing k d lt) (conflict-free k d lt))

    -- no name of a body is that of a parameter
    module _ (body : has_parameters r ≡ true) where
      own-part : All (λ d. test r around [] d ≡ false) (marked [] counted)
      own-part = first-part (marked [] counted) passing (clashing-none r around [] (marked [] counted ++ passing) none)
        where
          first-part : (xs ys : List Declaration) → All (λ d. test r around [] d ≡ false) (xs ++ ys) → All (λ d. test r around [] d ≡ false) xs
          first-part [] ys h = All-nil (λ d. test r around [] d ≡ false)
          first-part (x ∷ xs) ys h =
              All-cons (λ d. test r around [] d ≡ false) x xs (All-head (λ d. test r around [] d ≡ false) x (xs ++ ys) h) (first-part xs ys (All-tail (λ d. test r around [] d ≡ false) x (xs ++ ys) h))

      any-none : (f : Declaration → Bool) (ds : List Declaration) → All (λ d. f d ≡ false) ds → list_any f ds ≡ false
      any-none f [] all = refl
      any-none f (d ∷ ds) all = ap (λ (b : Bool). b || list_any f ds) (All-head (λ d. f d ≡ false) d ds all) ∙ any-none f ds (All-tail (λ d. f d ≡ false) d ds all)

      not-wanted : (text : List ℕ) → is_stated (around text) ≡ true → (d : Declaration) → test r around [] d ≡ false → (b : Bool) → bytes_eq d.sym text ≡ b → (b && is_lexical r d.form) ≡ false
      not-wanted text stated d free true is =
          let equal : d.sym ≡ text = (bytes_eq-Decides d.sym text).0 is in
          by-lexical (is_lexical r d.form) (is_stated (around d.sym)) (ap (λ (t : List ℕ). is_stated (around t)) equal ∙ stated) (ap (λ (z : Bool). z && (is_lexical r d.form && is_stated (around d.sym))) (sym body) ∙ free)
        where
          by-lexical : (a b : Bool) → b ≡ true → (a && b) ≡ false → a ≡ false
          by-lexical true b is h = absurd (true-false is h)
          by-lexical false b is h = refl
      not-wanted text stated d free false is = refl

      pub body-none : (text : List ℕ) → is_stated (around text) ≡ true → All (λ e. bytes_eq e.sym text ≡ true → is_lexical r e.form ≡ true) own → declares own text ≡ false
      body-none text stated lexical =
          let all_count : (e : Declaration) → e.sym ≡ text → counts e ≡ true =
          (λ e same. or-second e.stays (is_further_out r around passing e.sym) (or-second (declares passing e.sym) (has_parameters r && is_stated (around e.sym))
          (and-both (has_parameters r) (is_stated (around e.sym)) body (ap (λ (t : List ℕ). is_stated (around t)) same ∙ stated)))) in
          let wanted : All (λ e. bytes_eq e.sym text ≡ true → is_lexical r e.form ≡ true) counted =
          all-filter (λ e. bytes_eq e.sym text ≡ true → is_lexical r e.form ≡ true) counts own (λ k e lt kept. lexical k e lt) in
          declares-by own text (declares own text) refl (λ there. true-false (first-wanted text (is_lexical r) [] counted refl (still-declared counts text all_count own there) wanted)
          (any-none (λ e. bytes_eq e.sym text && is_lexical r e.form) (marked [] counted) (λ k d lt. not-wanted text stated (get_or (marked [] counted) k d) (own-part k d lt) (bytes_eq (get_or (marked [] counted) k d).sym text) refl)))
