-- Of declarations that do not clash those that last do not: what goes and may be merged with does not count.
use Rattle.std.proofs.Common.{◌≡◌, Bool, true, false, ◌&&◌, ◌||◌, not, cond, ℕ, filter, List, [], ◌∷◌, ◌++◌, Option, refl, sym, ap, ap₂, ◌∙◌, subst, bytes_eq, append_assoc}
use Rattle.std.specs.List.{All, list_any}
use Rattle.std.proofs.lemmas.List.Elements.{All-cons, All-head, All-nil, All-tail}
use Rattle.std.proofs.lemmas.List.Folds.{list_any-append}
use Rattle.std.proofs.lemmas.Slice.Eq.{bytes_eq-Decides}
use Rattle.ecma_scope.specs.declared.form.Declaration.{Declaration}
use Rattle.ecma_scope.specs.declared.form.Form.{Form}
use Rattle.ecma_scope.specs.declared.form.Form.TheVariants as form
use Rattle.ecma_scope.specs.declared.role.Role.{Role}
use Rattle.ecma_scope.specs.Declarations.{is_stated}
use Rattle.ecma_scope.specs.Conflicts.{clashes, clashing, conflict, has_parameters, is_lexical, mark, marked, may_be_merged, may_merge, merges}
use Rattle.ecma_hygiene.proofs.Telling.{and-both, and-left, and-right, or-first, or-second, true-false}
use Rattle.ecma_strip_scopes.proofs.ScopesSame.{goes}

pub or-left : (a b : Bool) → (a || b) ≡ false → a ≡ false
or-left true b h = h
or-left false b h = refl

pub or-right : (a b : Bool) → (a || b) ≡ false → b ≡ false
or-right true b h = cc
or-right false b h = h

-- a declaration of a value that stays; with `t` none of `this`
abbrev pub last : Bool → Declaration → Bool
last t d = not (goes t d.sym) && d.stays

pub last-other : (t : Bool) (d : Declaration) → last t d ≡ true → goes t d.sym ≡ false
last-other t d h = by (goes t d.sym) d.stays h
  where
    by : (g s : Bool) → (not g && s) ≡ true → g ≡ false
    by true s h = absurd (true-false h refl)
    by false s h = refl

-- ---- marks

abbrev pub mergeable : List ℕ → Declaration → Bool
mergeable text e = bytes_eq e.sym text && may_be_merged e.form

mark-lasts : (t b : Bool) (d : Declaration) → last t (cond b (record d { form = form.Merged }) d) ≡ last t d
mark-lasts t true d = refl
mark-lasts t false d = refl

merge-merged : (f : Form) → may_merge f ≡ true → may_be_merged f ≡ true
merge-merged form.Enum h = refl
merge-merged form.Namespace h = refl
merge-merged _ h = absurd (true-false h refl)

-- a mark is nothing to what merges with it
pub mark-mergeable : (text : List ℕ) (earlier : List Declaration) (d : Declaration) → mergeable text (mark earlier d) ≡ mergeable text d
mark-mergeable text earlier d = by (merges earlier d) refl
  where
    by : (b : Bool) → merges earlier d ≡ b → mergeable text (cond b (record d { form = form.Merged }) d) ≡ mergeable text d
    by true is = ap (λ (b : Bool). bytes_eq d.sym text && b) (sym (merge-merged d.form (and-left (may_merge d.form) (list_any (λ e. bytes_eq e.sym d.sym && may_be_merged e.form) earlier) is)))
    by false is = refl

or-none : (a b : Bool) → b ≡ false → (a || b) ≡ a
or-none true b h = refl
or-none false b h = h

and-none : (a b : Bool) → b ≡ false → (a && b) ≡ false
and-none true b h = h
and-none false b h = refl

-- what goes is not merged with
abbrev pub Loose : Declaration → Type 0
Loose d = d.stays ≡ false → may_be_merged d.form ≡ false

module _ (t : Bool) where
  -- what may be merged with is the same in two lists, but for a text that goes
  abbrev Agree : List Declaration → List Declaration → Type 0
  Agree xs ys = (text : List ℕ) → goes t text ≡ false → list_any (mergeable text) xs ≡ list_any (mergeable text) ys

  mark-agree : (xs ys : List Declaration) (d : Declaration) → Agree xs ys → goes t d.sym ≡ false → mark xs d ≡ mark ys d
  mark-agree xs ys d agree other = ap (λ (b : Bool). cond (may_merge d.form && b) (record d { form = form.Merged }) d) (agree d.sym other)

  agree-both : (xs ys : List Declaration) (x y : Declaration) → Agree xs ys → x ≡ y → Agree (xs ++ x ∷ []) (ys ++ y ∷ [])
  agree-both xs ys x y agree same text other =
      list_any-append (mergeable text) xs (x ∷ []) ∙ (λ j. agree text other j || (mergeable text (same j) || false)) ∙ sym (list_any-append (mergeable text) ys (y ∷ []))

  agree-more : (xs ys : List Declaration) (y : Declaration) → Agree xs ys → ((text : List ℕ) → goes t text ≡ false → mergeable text y ≡ false) → Agree xs (ys ++ y ∷ [])
  agree-more xs ys y agree none text other =
      agree text other ∙ sym (list_any-append (mergeable text) ys (y ∷ []) ∙ or-none (list_any (mergeable text) ys) (mergeable text y || false) (ap (λ (b : Bool). b || false) (none text other)))

  -- what does not last is not merged with under a text that stays
  unmergeable : (d : Declaration) → Loose d → last t d ≡ false → (text : List ℕ) → goes t text ≡ false → mergeable text d ≡ false
  unmergeable d loose gone text other = by (bytes_eq d.sym text) d.stays refl refl
    where
      by : (b s : Bool) → bytes_eq d.sym text ≡ b → d.stays ≡ s → (b && may_be_merged d.form) ≡ false
      by false s same is = refl
      by true false same is = loose is
      by true true same is =
          absurd (true-false (and-both (not (goes t d.sym)) d.stays (ap not (ap (goes t) ((bytes_eq-Decides d.sym text).0 same) ∙ other)) is) gone)

  -- so those that last are marked as they are among all
  pub marked-last : (xs ys ds : List Declaration) → Agree xs ys → All Loose ds → marked xs (filter (last t) ds) ≡ filter (last t) (marked ys ds)
  marked-last xs ys [] agree loose = refl
  marked-last xs ys (d ∷ ds) agree loose = by (last t d) refl
      (λ more. marked-last (xs ++ mark xs d ∷ []) (ys ++ mark ys d ∷ []) ds more (All-tail Loose d ds loose))
      (λ more. marked-last xs (ys ++ mark ys d ∷ []) ds more (All-tail Loose d ds loose))
    where
      later : List Declaration
      later = filter (last t) (marked (ys ++ mark ys d ∷ []) ds)

      by : (b : Bool) → last t d ≡ b
          → (Agree (xs ++ mark xs d ∷ []) (ys ++ mark ys d ∷ []) → marked (xs ++ mark xs d ∷ []) (filter (last t) ds) ≡ later)
          → (Agree xs (ys ++ mark ys d ∷ []) → marked xs (filter (last t) ds) ≡ later)
          → marked xs (cond (last t d) (d ∷ filter (last t) ds) (filter (last t) ds)) ≡ cond (last t (mark ys d)) (mark ys d ∷ later) later
      by true is both skip =
          let same : mark xs d ≡ mark ys d = mark-agree xs ys d agree (last-other t d is) in
          ap (λ (b : Bool). marked xs (cond b (d ∷ filter (last t) ds) (filter (last t) ds))) is
          ∙ ap₂ (λ (m : Declaration) (ms : List Declaration). m ∷ ms) same (both (agree-both xs ys (mark xs d) (mark ys d) agree same))
          ∙ sym (ap (λ (b : Bool). cond b (mark ys d ∷ later) later) (mark-lasts t (merges ys d) d ∙ is))
      by false is both skip =
          ap (λ (b : Bool). marked xs (cond b (d ∷ filter (last t) ds) (filter (last t) ds))) is
          ∙ skip (agree-more xs ys (mark ys d) agree (λ text other. mark-mergeable text ys d ∙ unmergeable d (All-head Loose d ds loose) is text other))
          ∙ sym (ap (λ (b : Bool). cond b (mark ys d ∷ later) later) (mark-lasts t (merges ys d) d ∙ is))

-- ---- clashes

-- in this role, and where so much is stated around, a declaration clashes with what stands around
abbrev pub meets_around : Role → (List ℕ → Option Bool) → Declaration → Bool
meets_around r around d = has_parameters r && (is_lexical r d.form && is_stated (around d.sym))

cond-none : (b : Bool) (text : List ℕ) (rest : List (List ℕ)) → cond b (text ∷ []) [] ++ rest ≡ [] → (b ≡ false) × (rest ≡ [])
cond-none true text rest h = absurd (never h)
  where
    never : (text ∷ []) ++ rest ≡ [] → ⊥
    never h = cc
cond-none false text rest h = (refl, h)

module _ (t : Bool) (r q : Role) (around around' : List ℕ → Option Bool) (more : (e d : Declaration) → conflict q e d ≡ true → conflict r e d ≡ true) where
  abbrev Held : List Declaration → List Declaration → Type 0
  Held xs ys = (d : Declaration) → list_any (λ e. conflict q e d) xs ≡ true → list_any (λ e. conflict r e d) ys ≡ true

  held-both : (xs ys : List Declaration) (x : Declaration) → Held xs ys → Held (xs ++ x ∷ []) (ys ++ x ∷ [])
  held-both xs ys x held d h =
      list_any-append (λ e. conflict r e d) ys (x ∷ []) ∙ by (list_any (λ e. conflict q e d) xs) refl (sym (list_any-append (λ e. conflict q e d) xs (x ∷ [])) ∙ h)
    where
      alone : (a : Bool) → (a || false) ≡ true → a ≡ true
      alone true h = refl
      alone false h = absurd (true-false h refl)

      by : (b : Bool) → list_any (λ e. conflict q e d) xs ≡ b → (b || (conflict q x d || false)) ≡ true → (list_any (λ e. conflict r e d) ys || (conflict r x d || false)) ≡ true
      by true is h = or-first (list_any (λ e. conflict r e d) ys) (conflict r x d || false) (held d is)
      by false is h = or-second (list_any (λ e. conflict r e d) ys) (conflict r x d || false) (or-first (conflict r x d) false (more x d (alone (conflict q x d) h)))

  held-more : (xs ys : List Declaration) (y : Declaration) → Held xs ys → Held xs (ys ++ y ∷ [])
  held-more xs ys y held d h = list_any-append (λ e. conflict r e d) ys (y ∷ []) ∙ or-first (list_any (λ e. conflict r e d) ys) (conflict r y d || false) (held d h)

  abbrev Less : Declaration → Type 0
  Less d = last t d ≡ true → meets_around q around' d ≡ true → meets_around r around d ≡ true

  either : (a b c e : Bool) → (c ≡ true → a ≡ true) → (e ≡ true → b ≡ true) → (a || b) ≡ false → (c || e) ≡ false
  either a b true e f g h = absurd (true-false (f refl) (or-left a b h))
  either a b false true f g h = absurd (true-false (g refl) (or-right a b h))
  either a b false false f g h = refl

  pub clash-last : (xs ys ds : List Declaration) → Held xs ys → All Less ds → clashing r around ys ds ≡ [] → clashing q around' xs (filter (last t) ds) ≡ []
  clash-last xs ys [] held less h = refl
  clash-last xs ys (d ∷ ds) held less h =
      by (last t d) refl
      (clash-last (xs ++ d ∷ []) (ys ++ d ∷ []) ds (held-both xs ys d held) (All-tail Less d ds less) parts.1)
      (clash-last xs (ys ++ d ∷ []) ds (held-more xs ys d held) (All-tail Less d ds less) parts.1)
    where
      parts : (clashes r around ys d ≡ false) × (clashing r around (ys ++ d ∷ []) ds ≡ [])
      parts = cond-none (clashes r around ys d) d.sym (clashing r around (ys ++ d ∷ []) ds) h

      free : last t d ≡ true → clashes q around' xs d ≡ false
      free is =
          either (list_any (λ e. conflict r e d) ys) (meets_around r around d) (list_any (λ e. conflict q e d) xs) (meets_around q around' d) (held d) (All-head Less d ds less is) parts.0

      by : (b : Bool) → last t d ≡ b → clashing q around' (xs ++ d ∷ []) (filter (last t) ds) ≡ [] → clashing q around' xs (filter (last t) ds) ≡ [] → clashing q around' xs (cond b (d ∷ filter (last t) ds) (filter (last t) ds)) ≡ []
      by true is one other = ap (λ (b : Bool). cond b (d.sym ∷ []) [] ++ clashing q around' (xs ++ d ∷ []) (filter (last t) ds)) (free is) ∙ one
      by false is one other = other

-- ---- what clashes with nothing

module _ (r : Role) (around : List ℕ → Option Bool) where
  abbrev pub Calm : List Declaration → Declaration → Type 0
  Calm earlier d = (list_any (λ e. conflict r e d) earlier ≡ false) × (meets_around r around d ≡ false)

  weaker : (earlier : List Declaration) (d : Declaration) (ds : List Declaration) → All (Calm (earlier ++ d ∷ [])) ds → All (Calm earlier) ds
  weaker earlier d [] all = All-nil (Calm earlier)
  weaker earlier d (x ∷ xs) all =
      let one : Calm (earlier ++ d ∷ []) x = All-head (Calm (earlier ++ d ∷ [])) x xs all in
      All-cons (Calm earlier) x xs (or-left (list_any (λ e. conflict r e x) earlier) (conflict r d x || false) (sym (list_any-append (λ e. conflict r e x) earlier (d ∷ [])) ∙ one.0), one.1)
      (weaker earlier d xs (All-tail (Calm (earlier ++ d ∷ [])) x xs all))

  pub all-calm : (earlier ds : List Declaration) → clashing r around earlier ds ≡ [] → All (Calm earlier) ds
  all-calm earlier [] h = All-nil (Calm earlier)
  all-calm earlier (d ∷ ds) h =
      let parts = cond-none (clashes r around earlier d) d.sym (clashing r around (earlier ++ d ∷ []) ds) h in
      All-cons (Calm earlier) d ds
      (or-left (list_any (λ e. conflict r e d) earlier) (meets_around r around d) parts.0, or-right (list_any (λ e. conflict r e d) earlier) (meets_around r around d) parts.0)
      (weaker earlier d ds (all-calm (earlier ++ d ∷ []) ds parts.1))

  none-behind : (xs : List Declaration) → xs ++ [] ≡ xs
  none-behind [] = refl
  none-behind (x ∷ xs) = ap (λ (zs : List Declaration). x ∷ zs) (none-behind xs)

  pub clash-behind : (earlier front ds : List Declaration) → clashing r around earlier (front ++ ds) ≡ [] → clashing r around (earlier ++ front) ds ≡ []
  clash-behind earlier [] ds h = ap (λ (zs : List Declaration). clashing r around zs ds) (none-behind earlier) ∙ h
  clash-behind earlier (a ∷ front) ds h =
      ap (λ (zs : List Declaration). clashing r around zs ds) (sym (append_assoc earlier (a ∷ []) front))
      ∙ clash-behind (earlier ++ a ∷ []) front ds (cond-none (clashes r around earlier a) a.sym (clashing r around (earlier ++ a ∷ []) (front ++ ds)) h).1

  pub all-front : (P : Declaration → Type 0) (xs ys : List Declaration) → All P (xs ++ ys) → All P xs
  all-front P [] ys all = All-nil P
  all-front P (x ∷ xs) ys all = All-cons P x xs (All-head P x (xs ++ ys) all) (all-front P xs ys (All-tail P x (xs ++ ys) all))

-- ---- the first that may be merged with is not merged

module _ (text : List ℕ) (P Q : Declaration → Type 0) where
  pub record First : Type 0 where
    pub found : Declaration
    pub is : found.sym ≡ text
    pub may : may_be_merged found.form ≡ true
    pub as_marked : P found
    pub as_declared : Q found

  unmerged : (earlier : List Declaration) (d : Declaration) → d.sym ≡ text → list_any (mergeable text) earlier ≡ false → mark earlier d ≡ d
  unmerged earlier d is none =
      ap (λ (b : Bool). cond b (record d { form = form.Merged }) d)
      (and-none (may_merge d.form) (list_any (λ e. bytes_eq e.sym d.sym && may_be_merged e.form) earlier) (ap (λ (t : List ℕ). list_any (mergeable t) earlier) is ∙ none))

  pub first : (earlier ds : List Declaration) → list_any (mergeable text) earlier ≡ false → list_any (mergeable text) ds ≡ true → All P (marked earlier ds) → All Q ds → First
  first earlier [] none some all also = absurd (true-false some refl)
  first earlier (d ∷ ds) none some all also =
      by (mergeable text d) refl some (λ still there. first (earlier ++ mark earlier d ∷ []) ds still there (All-tail P (mark earlier d) (marked (earlier ++ mark earlier d ∷ []) ds) all) (All-tail Q d ds also))
    where
      by : (b : Bool) → mergeable text d ≡ b → (b || list_any (mergeable text) ds) ≡ true → (list_any (mergeable text) (earlier ++ mark earlier d ∷ []) ≡ false → list_any (mergeable text) ds ≡ true → First) → First
      by true is there rec =
          (let same : d.sym ≡ text = (bytes_eq-Decides d.sym text).0 (and-left (bytes_eq d.sym text) (may_be_merged d.form) is) in
          record {
            found = d;
            is = same;
            may = and-right (bytes_eq d.sym text) (may_be_merged d.form) is;
            as_marked = subst P (unmerged earlier d same none) (All-head P (mark earlier d) (marked (earlier ++ mark earlier d ∷ []) ds) all);
            as_declared = All-head Q d ds also;
          })
      by false is there rec =
          rec (list_any-append (mergeable text) earlier (mark earlier d ∷ []) ∙ (λ j. none j || ((mark-mergeable text earlier d ∙ is) j || false))) there
