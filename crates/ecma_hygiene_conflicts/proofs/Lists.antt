-- Declarations with final texts clash only where they clash with the texts before.
use Rattle.std.proofs.Common.{◌≡◌, ◌⊎◌, inl, inr, ℕ, Bool, true, false, ◌&&◌, ◌||◌, not, cond, filter, List, [], ◌∷◌, ◌++◌, map, Option, refl, sym, ap, ◌∙◌, bytes_eq}
use Rattle.std.specs.List.{All, Contains, list_any}
use Rattle.std.proofs.lemmas.List.Elements.{All-append, All-cons, All-head, All-nil, All-tail}
use Rattle.std.proofs.lemmas.List.Folds.{list_any-append}
use Rattle.std.proofs.lemmas.Slice.Eq.{bytes_eq-Decides}
use Rattle.ecma_scope.specs.declared.form.Declaration.{Declaration}
use Rattle.ecma_scope.specs.declared.form.Form.{Form}
use Rattle.ecma_scope.specs.declared.form.Form.TheVariants as form
use Rattle.ecma_scope.specs.declared.role.Role.{Role}
use Rattle.ecma_scope.specs.Conflicts.{clashes, clashing, conflict, has_parameters, is_catch, is_lexical, is_parameter, mark, marked, may_be_merged, may_merge, may_not_meet, merges}
use Rattle.ecma_scope.specs.Declarations.{is_hoisted, is_own, is_stated}
use Rattle.ecma_hygiene.specs.Ids.{Id, is_function_body}
use Rattle.ecma_hygiene.specs.Renamed.{Texts, text_of}
use Rattle.ecma_hygiene.proofs.Telling.{and-both, and-left, and-right, or-first, or-second, true-false}
use Rattle.ecma_hygiene_scopes.specs.DeclaredIds.{DeclaredId, with_text}
use Rattle.ecma_hygiene_scopes.proofs.Sameness.{no_text}
use Rattle.ecma_strip_conflicts.proofs.Fewer.{or-left, or-right}
use Rattle.ecma_hygiene_conflicts.proofs.Marks.{Any, Below, and-none, any-holds, any-last, any-more, below-merged, body-parameters, both-none, first-none, hoisted-lexical, hoisted-plain, lexical-more, mark-below, mark-hoisted, mark-sym, mark-uncaught, more-meets, neither, never, none-meet, not-false, not-true, or-either, own-is, rest-none}

module _ (r : Role) (before after : List ℕ → Option Bool) (texts : Texts) (body : Bool) (ids : List DeclaredId) (seen binding : Id → Bool)
    (tell : (a b : Id) → seen a ≡ true → binding b ≡ true → text_of texts a ≡ text_of texts b → a.0 ≡ b.0)
    (one : (d e : DeclaredId) → Contains ids d → Contains ids e → may_merge d.form ≡ true → e.id.0 ≡ d.id.0 → e.id ≡ d.id)
    (sound : has_parameters r ≡ true → (x : Id) → binding x ≡ true → is_stated (after (text_of texts x)) ≡ true → is_stated (before x.0) ≡ true) where
  abbrev pub old : DeclaredId → Declaration
  old = with_text no_text

  abbrev pub new : DeclaredId → Declaration
  new = with_text texts

  -- what is known of an id that the scope declares, and of one of a `var` that passes through it
  pub record Declared (d : DeclaredId) : Type 0 where
    pub seen_it : seen d.id ≡ true
    pub bound : binding d.id ≡ true
    pub hoisted : is_function_body r ≡ true → is_hoisted d.form ≡ true → body ≡ true
    pub uncaught : body ≡ true → is_catch d.form ≡ false
    pub here : Contains ids d

  pub record Passed (d : DeclaredId) : Type 0 where
    pub seen_it : seen d.id ≡ true
    pub is : d.form ≡ form.Var

  record Known (a : Declaration) : Type 0 where
    id : Id
    is : a.sym ≡ text_of texts id
    seen_it : seen id ≡ true
    bound : (binding id ≡ true) ⊎ (a.form ≡ form.Var)
    quiet : has_parameters r ≡ true → is_stated (before id.0) ≡ true → is_lexical r a.form ≡ false
    uncaught : body ≡ true → is_catch a.form ≡ false

  -- a `var` or a function with the text of a parameter, which was the parameter before
  record Further (id : Id) (f : Form) : Type 0 where
    block : body ≡ true
    in_body : is_function_body r ≡ true
    hoisted : is_hoisted f ≡ true
    stated : is_stated (before id.0) ≡ true

  abbrev Was : Id → Form → Declaration → Type 0
  Was id f b = (b.sym ≡ id.0) × Below f b.form

  -- where a declaration with its final text comes from
  abbrev Origin : List Declaration → Declaration → Type 0
  Origin earlier a = (k : Known a) × (Any (Was k.id a.form) earlier ⊎ Further k.id a.form)

  -- what a declaration became
  record Became (later : List Declaration) (b : Declaration) : Type 0 where
    declared : DeclaredId
    is : b.sym ≡ declared.id.0
    here : Contains ids declared
    there : may_be_merged b.form ≡ true → list_any (λ e. bytes_eq e.sym (text_of texts declared.id) && may_be_merged e.form) later ≡ true

  -- ---- two declarations

  base-same : (a b : Declaration) (k : Known a) (l : Known b) → a.sym ≡ b.sym → may_not_meet r a.form b.form ≡ true → k.id.0 ≡ l.id.0
  base-same a b k l same meets = by k.bound l.bound
    where
      equal : text_of texts k.id ≡ text_of texts l.id
      equal = sym k.is ∙ same ∙ l.is

      by : (binding k.id ≡ true) ⊎ (a.form ≡ form.Var) → (binding l.id ≡ true) ⊎ (b.form ≡ form.Var) → k.id.0 ≡ l.id.0
      by x (inl bound) = tell k.id l.id k.seen_it bound equal
      by (inl bound) (inr y) = sym (tell l.id k.id l.seen_it bound (sym equal))
      by (inr x) (inr y) = absurd (true-false meets (λ j. may_not_meet r (x j) (y j)))

  -- a declaration with the text before that meets none, or one that goes further out
  abbrev Now : List Declaration → Id → Form → Type 0
  Now earlier id f = ((s : Declaration) × (s.sym ≡ id.0) × Below f s.form × (list_any (λ b. conflict r b s) earlier ≡ false)) ⊎ Further id f

  no-parameters : (a b : Form) (x : Id) → Further x a ⊎ Further x b → (is_parameter a && is_parameter b) ≡ false
  no-parameters a b x (inl f) = ap (λ (p : Bool). p && is_parameter b) (hoisted-plain a f.hoisted)
  no-parameters a b x (inr f) = ap (λ (p : Bool). is_parameter a && p) (hoisted-plain b f.hoisted) ∙ and-none (is_parameter a)

  quiet-both : (a b : Declaration) (k : Known a) (l : Known b) (x : Id) → k.id.0 ≡ x.0 → l.id.0 ≡ x.0 → Further x a.form ⊎ Further x b.form → body ≡ true → has_parameters r ≡ true → is_stated (before x.0) ≡ true
      → may_not_meet r a.form b.form ≡ false
  quiet-both a b k l x same also further block in_body stated =
      none-meet r a.form b.form
      (k.quiet in_body (ap (λ (t : List ℕ). is_stated (before t)) same ∙ stated))
      (l.quiet in_body (ap (λ (t : List ℕ). is_stated (before t)) also ∙ stated))
      (no-parameters a.form b.form x further) (k.uncaught block) (l.uncaught block)

  moved : (x y : Id) (f : Form) → x.0 ≡ y.0 → Further y f → Further x f
  moved x y f same further = record { block = further.block; in_body = further.in_body; hoisted = further.hoisted; stated = ap (λ (t : List ℕ). is_stated (before t)) same ∙ further.stated }

  no-conflict : (earlier : List Declaration) (e a : Declaration) → Origin earlier e → (l : Known a) → Now earlier l.id a.form → conflict r e a ≡ false
  no-conflict earlier e a origin l now = by (bytes_eq e.sym a.sym) (may_not_meet r e.form a.form) refl refl
    where
      contra : (k : Known e) → k.id.0 ≡ l.id.0 → may_not_meet r e.form a.form ≡ true → Any (Was k.id e.form) earlier ⊎ Further k.id e.form → Now earlier l.id a.form → ⊥
      contra k base meets (inl was) (inl (s, is, below, none)) =
          true-false
          (any-holds (Was k.id e.form) (λ b. conflict r b s) earlier
          (λ b w. and-both (bytes_eq b.sym s.sym) (may_not_meet r b.form s.form) ((bytes_eq-Decides b.sym s.sym).1 (w.0 ∙ base ∙ sym is)) (more-meets r e.form a.form b.form s.form w.1 below meets)) was)
          none
      contra k base meets (inr further) other =
          true-false meets (quiet-both e a k l k.id refl (sym base) (inl further) further.block (body-parameters r further.in_body) further.stated)
      contra k base meets (inl was) (inr further) =
          true-false meets (quiet-both e a k l l.id base refl (inr further) further.block (body-parameters r further.in_body) further.stated)

      by : (t m : Bool) → bytes_eq e.sym a.sym ≡ t → may_not_meet r e.form a.form ≡ m → (t && m) ≡ false
      by false m same meets = refl
      by true false same meets = refl
      by true true same meets = absurd (contra origin.0 (base-same e a origin.0 l ((bytes_eq-Decides e.sym a.sym).0 same) meets) meets origin.1 now)

  none-conflict : (earlier xs : List Declaration) (a : Declaration) → All (Origin earlier) xs → (l : Known a) → Now earlier l.id a.form → list_any (λ e. conflict r e a) xs ≡ false
  none-conflict earlier [] a origins l now = refl
  none-conflict earlier (x ∷ xs) a origins l now =
      neither (conflict r x a) (list_any (λ e. conflict r e a) xs) (no-conflict earlier x a (All-head (Origin earlier) x xs origins) l now) (none-conflict earlier xs a (All-tail (Origin earlier) x xs origins) l now)

  -- ---- what merges before, merges with final texts

  merges-by : (later xs : List Declaration) (d : DeclaredId) → Contains ids d → may_merge d.form ≡ true → All (Became later) xs → list_any (λ e. bytes_eq e.sym d.id.0 && may_be_merged e.form) xs ≡ true
      → list_any (λ e. bytes_eq e.sym (text_of texts d.id) && may_be_merged e.form) later ≡ true
  merges-by later [] d here may became h = absurd (true-false h refl)
  merges-by later (x ∷ xs) d here may became h =
      elim (or-either (bytes_eq x.sym d.id.0 && may_be_merged x.form) (list_any (λ e. bytes_eq e.sym d.id.0 && may_be_merged e.form) xs) h) [
        | inl first ↦ found (All-head (Became later) x xs became) first
        | inr further ↦ merges-by later xs d here may (All-tail (Became later) x xs became) further
      ]
    where
      found : Became later x → (bytes_eq x.sym d.id.0 && may_be_merged x.form) ≡ true → list_any (λ e. bytes_eq e.sym (text_of texts d.id) && may_be_merged e.form) later ≡ true
      found b first =
          let text : b.declared.id.0 ≡ d.id.0 = sym b.is ∙ (bytes_eq-Decides x.sym d.id.0).0 (and-left (bytes_eq x.sym d.id.0) (may_be_merged x.form) first) in
          ap (λ (i : Id). list_any (λ e. bytes_eq e.sym (text_of texts i) && may_be_merged e.form) later) (sym (one d b.declared here b.here may text))
          ∙ b.there (and-right (bytes_eq x.sym d.id.0) (may_be_merged x.form) first)

  merges-too : (later earlier : List Declaration) (d : DeclaredId) → Contains ids d → All (Became later) earlier → merges earlier (old d) ≡ true → merges later (new d) ≡ true
  merges-too later earlier d here became h =
      let may : may_merge d.form ≡ true = and-left (may_merge d.form) (list_any (λ e. bytes_eq e.sym d.id.0 && may_be_merged e.form) earlier) h in
      and-both (may_merge d.form) (list_any (λ e. bytes_eq e.sym (text_of texts d.id) && may_be_merged e.form) later) may
      (merges-by later earlier d here may became (and-right (may_merge d.form) (list_any (λ e. bytes_eq e.sym d.id.0 && may_be_merged e.form) earlier) h))

  -- ---- one more declaration

  origins-more : (earlier : List Declaration) (b : Declaration) (xs : List Declaration) → All (Origin earlier) xs → All (Origin (earlier ++ b ∷ [])) xs
  origins-more earlier b [] origins = All-nil (Origin (earlier ++ b ∷ []))
  origins-more earlier b (x ∷ xs) origins =
      All-cons (Origin (earlier ++ b ∷ [])) x xs (more (All-head (Origin earlier) x xs origins)) (origins-more earlier b xs (All-tail (Origin earlier) x xs origins))
    where
      more-from : (k : Known x) → Any (Was k.id x.form) earlier ⊎ Further k.id x.form → Any (Was k.id x.form) (earlier ++ b ∷ []) ⊎ Further k.id x.form
      more-from k (inl was) = inl (any-more (Was k.id x.form) earlier (b ∷ []) was)
      more-from k (inr further) = inr further

      more : Origin earlier x → Origin (earlier ++ b ∷ []) x
      more o = (o.0, more-from o.0 o.1)

  became-more : (later : List Declaration) (a : Declaration) (xs : List Declaration) → All (Became later) xs → All (Became (later ++ a ∷ [])) xs
  became-more later a [] became = All-nil (Became (later ++ a ∷ []))
  became-more later a (x ∷ xs) became =
      All-cons (Became (later ++ a ∷ [])) x xs (more (All-head (Became later) x xs became)) (became-more later a xs (All-tail (Became later) x xs became))
    where
      more : Became later x → Became (later ++ a ∷ []) x
      more b =
          let f : Declaration → Bool = λ e. bytes_eq e.sym (text_of texts b.declared.id) && may_be_merged e.form in
          record { declared = b.declared; is = b.is; here = b.here; there = λ m. list_any-append f later (a ∷ []) ∙ or-first (list_any f later) (list_any f (a ∷ [])) (b.there m) }

  all-last : (P : Declaration → Type 0) (xs : List Declaration) (a : Declaration) → All P xs → P a → All P (xs ++ a ∷ [])
  all-last P xs a all h = All-append P xs (a ∷ []) all (All-cons P a [] h (All-nil P))

  -- nothing that is lexical in the body of a function or the block of a `catch` has the text of a parameter
  no-parameter : (a : Declaration) (k : Known a) → binding k.id ≡ true → (has_parameters r && (is_lexical r a.form && is_stated (after a.sym))) ≡ false
  no-parameter a k bound =
      never (has_parameters r) (is_lexical r a.form) (is_stated (after a.sym))
      (λ in_body lexical stated. true-false lexical (k.quiet in_body (sound in_body k.id bound (ap (λ (t : List ℕ). is_stated (after t)) (sym k.is) ∙ stated))))

  -- ---- the `var` names that pass through

  passed-known : (d : DeclaredId) → Passed d → Known (new d)
  passed-known d p = record {
    id = d.id;
    is = refl;
    seen_it = p.seen_it;
    bound = inr p.is;
    quiet = λ in_body stated. ap (is_lexical r) p.is;
    uncaught = λ block. ap is_catch p.is;
  }

  passed-clear : (ds : List DeclaredId) (xs ys : List Declaration) → All (Origin ys) xs → All Passed ds → clashing r before ys (map old ds) ≡ [] → clashing r after xs (map new ds) ≡ []
  unfolding passed-known
  passed-clear [] xs ys origins passed h = refl
  passed-clear (d ∷ ds) xs ys origins passed h =
      let p = All-head Passed d ds passed in
      let k = passed-known d p in
      let test : clashes r before ys (old d) ≡ false = first-none (clashes r before ys (old d)) d.id.0 (clashing r before (ys ++ old d ∷ []) (map old ds)) h in
      let none = or-left (list_any (λ e. conflict r e (old d)) ys) (has_parameters r && (is_lexical r d.form && is_stated (before d.id.0))) test in
      both-none (clashes r after xs (new d)) (new d).sym (clashing r after (xs ++ new d ∷ []) (map new ds))
      (neither (list_any (λ e. conflict r e (new d)) xs) (has_parameters r && (is_lexical r d.form && is_stated (after (new d).sym)))
      (none-conflict ys xs (new d) origins k (inl (old d, refl, inl refl, none)))
      (never (has_parameters r) (is_lexical r d.form) (is_stated (after (new d).sym)) (λ in_body lexical stated. true-false lexical (ap (is_lexical r) p.is))))
      (passed-clear ds (xs ++ new d ∷ []) (ys ++ old d ∷ [])
      (all-last (Origin (ys ++ old d ∷ [])) xs (new d) (origins-more ys (old d) xs origins) (k, inl (any-last (Was d.id d.form) ys (old d) (refl, inl refl))))
      (All-tail Passed d ds passed)
      (rest-none (clashes r before ys (old d)) d.id.0 (clashing r before (ys ++ old d ∷ []) (map old ds)) h))

  -- ---- the names of the scope, and these

  abbrev Clear : List DeclaredId → List DeclaredId → Type 0
  Clear ds ps = (xs ys : List Declaration) → All (Origin ys) xs → All (Became xs) ys
      → clashing r before ys (marked ys (filter (is_own r before) (map old ds)) ++ map old ps) ≡ [] → clashing r after xs (marked xs (filter (is_own r after) (map new ds)) ++ map new ps) ≡ []

  module _ (d : DeclaredId) (ds ps : List DeclaredId) (known : Declared d) (rec : Clear ds ps) (xs ys : List Declaration) (origins : All (Origin ys) xs) (became : All (Became xs) ys) where
    own-both : is_own r before (old d) ≡ true → is_own r after (new d) ≡ true
    own-both own =
        own-is r after (new d)
        ∙ ap not (never (is_function_body r) (is_hoisted d.form) (is_stated (after (text_of texts d.id)))
        (λ in_body hoisted stated. true-false own (own-is r before (old d) ∙ (λ j. not (in_body j && (hoisted j && sound (body-parameters r in_body) d.id known.bound stated j))))))

    further : is_own r before (old d) ≡ false → Further d.id d.form
    further none =
        let all = not-false (is_function_body r && (is_hoisted d.form && is_stated (before d.id.0))) (sym (own-is r before (old d)) ∙ none) in
        let in_body = and-left (is_function_body r) (is_hoisted d.form && is_stated (before d.id.0)) all in
        let rest = and-right (is_function_body r) (is_hoisted d.form && is_stated (before d.id.0)) all in
        let hoisted = and-left (is_hoisted d.form) (is_stated (before d.id.0)) rest in
        record { block = known.hoisted in_body hoisted; in_body = in_body; hoisted = hoisted; stated = and-right (is_hoisted d.form) (is_stated (before d.id.0)) rest }

    abbrev a : Declaration
    a = mark xs (new d)

    abbrev b : Declaration
    b = mark ys (old d)

    -- one that was its own before
    own-clear : clashing r before ys (b ∷ marked (ys ++ b ∷ []) (filter (is_own r before) (map old ds)) ++ map old ps) ≡ []
        → clashing r after xs (a ∷ marked (xs ++ a ∷ []) (filter (is_own r after) (map new ds)) ++ map new ps) ≡ []
    own-clear h =
        let rest_old : List Declaration = marked (ys ++ b ∷ []) (filter (is_own r before) (map old ds)) ++ map old ps in
        let rest_new : List Declaration = marked (xs ++ a ∷ []) (filter (is_own r after) (map new ds)) ++ map new ps in
        let test : clashes r before ys b ≡ false = first-none (clashes r before ys b) b.sym (clashing r before (ys ++ b ∷ []) rest_old) h in
        let none : list_any (λ e. conflict r e b) ys ≡ false = or-left (list_any (λ e. conflict r e b) ys) (has_parameters r && (is_lexical r b.form && is_stated (before b.sym))) test in
        let alone : (has_parameters r && (is_lexical r b.form && is_stated (before b.sym))) ≡ false = or-right (list_any (λ e. conflict r e b) ys) (has_parameters r && (is_lexical r b.form && is_stated (before b.sym))) test in
        let below : Below a.form b.form = mark-below xs ys (new d) (old d) refl (merges-too xs ys d known.here became) in
        let k : Known a = record {
          id = d.id;
          is = mark-sym xs (new d);
          seen_it = known.seen_it;
          bound = inl known.bound;
          quiet = λ in_body stated. not-true (is_lexical r a.form) (λ lexical. true-false
              (and-both (has_parameters r) (is_lexical r b.form && is_stated (before b.sym)) in_body
              (and-both (is_lexical r b.form) (is_stated (before b.sym)) (lexical-more r a.form b.form below lexical) (ap (λ (t : List ℕ). is_stated (before t)) (mark-sym ys (old d)) ∙ stated))) alone);
          uncaught = λ block. mark-uncaught xs (new d) (known.uncaught block);
        } in
        let f : Declaration → Bool = λ e. bytes_eq e.sym (text_of texts d.id) && may_be_merged e.form in
        both-none (clashes r after xs a) a.sym (clashing r after (xs ++ a ∷ []) rest_new)
        (neither (list_any (λ e. conflict r e a) xs) (has_parameters r && (is_lexical r a.form && is_stated (after a.sym)))
        (none-conflict ys xs a origins k (inl (b, mark-sym ys (old d), below, none))) (no-parameter a k known.bound))
        (rec (xs ++ a ∷ []) (ys ++ b ∷ [])
        (all-last (Origin (ys ++ b ∷ [])) xs a (origins-more ys b xs origins) (k, inl (any-last (Was d.id a.form) ys b (mark-sym ys (old d), below))))
        (all-last (Became (xs ++ a ∷ [])) ys b (became-more xs a ys became) (record {
          declared = d;
          is = mark-sym ys (old d);
          here = known.here;
          there = λ may. list_any-append f xs (a ∷ [])
              ∙ or-second (list_any f xs) (f a || false)
              (or-first (f a) false (and-both (bytes_eq a.sym (text_of texts d.id)) (may_be_merged a.form) ((bytes_eq-Decides a.sym (text_of texts d.id)).1 (mark-sym xs (new d))) (below-merged a.form b.form below may)));
        }))
        (rest-none (clashes r before ys b) b.sym (clashing r before (ys ++ b ∷ []) rest_old) h))

    further-known : Further d.id d.form → Known (new d)
    further-known f = record {
      id = d.id;
      is = refl;
      seen_it = known.seen_it;
      bound = inl known.bound;
      quiet = λ has stated. hoisted-lexical r d.form f.in_body f.hoisted;
      uncaught = known.uncaught;
    }

    -- one that was a parameter before
    further-clear : Further d.id d.form → clashing r before ys (marked ys (filter (is_own r before) (map old ds)) ++ map old ps) ≡ []
        → clashing r after xs (a ∷ marked (xs ++ a ∷ []) (filter (is_own r after) (map new ds)) ++ map new ps) ≡ []
    unfolding further-known
    further-clear f h =
        let k : Known (new d) = further-known f in
        let rest : List Declaration → List Declaration = λ zs. marked zs (filter (is_own r after) (map new ds)) ++ map new ps in
        ap (λ (z : Declaration). clashing r after xs (z ∷ rest (xs ++ z ∷ []))) (mark-hoisted xs (new d) f.hoisted)
        ∙ both-none (clashes r after xs (new d)) (new d).sym (clashing r after (xs ++ new d ∷ []) (rest (xs ++ new d ∷ [])))
        (neither (list_any (λ e. conflict r e (new d)) xs) (has_parameters r && (is_lexical r d.form && is_stated (after (new d).sym)))
        (none-conflict ys xs (new d) origins k (inr f)) (no-parameter (new d) k known.bound))
        (rec (xs ++ new d ∷ []) ys (all-last (Origin ys) xs (new d) origins (k, inr f)) (became-more xs (new d) ys became) h)

    step : (s t : Bool) → is_own r before (old d) ≡ s → is_own r after (new d) ≡ t
        → clashing r before ys (marked ys (cond s (old d ∷ filter (is_own r before) (map old ds)) (filter (is_own r before) (map old ds))) ++ map old ps) ≡ []
        → clashing r after xs (marked xs (cond t (new d ∷ filter (is_own r after) (map new ds)) (filter (is_own r after) (map new ds))) ++ map new ps) ≡ []
    step true true own also h = own-clear h
    step true false own also h = absurd (true-false (own-both own) also)
    step false true own also h = further-clear (further own) h
    step false false own also h = rec xs ys origins became h

  clear-from : (ds ps : List DeclaredId) → All Declared ds → All Passed ps → Clear ds ps
  clear-from [] ps declared passed xs ys origins became h = passed-clear ps xs ys origins passed h
  clear-from (d ∷ ds) ps declared passed xs ys origins became h =
      step d ds ps (All-head Declared d ds declared) (clear-from ds ps (All-tail Declared d ds declared) passed) xs ys origins became (is_own r before (old d)) (is_own r after (new d)) refl refl h

  pub clear : (ds ps : List DeclaredId) → All Declared ds → All Passed ps
      → clashing r before [] (marked [] (filter (is_own r before) (map old ds)) ++ map old ps) ≡ [] → clashing r after [] (marked [] (filter (is_own r after) (map new ds)) ++ map new ps) ≡ []
  clear ds ps declared passed h = clear-from ds ps declared passed [] [] (All-nil (Origin [])) (All-nil (Became [])) h
