-- The final texts of a tree whose leaves are spelled are spelled as identifiers are.
use Rattle.std.proofs.Common.{◌≡◌, ◌∙◌, ℕ, suc, ◌+◌, ◌≤◌, Bool, true, false, cond, ◌||◌, nat_lt, List, [], ◌∷◌, ◌++◌, map, filter, length, Option, Some, None, refl, sym, ap, subst, arith, length-append}
use Rattle.std.specs.Fmt.{decimal}
use Rattle.std.specs.List.{All, list_all, list_any}
use Rattle.std.proofs.lemmas.Bool.{and_from, and_parts}
use Rattle.std.proofs.lemmas.List.Elements.{All-append, All-cons, All-nil}
use Rattle.std.proofs.lemmas.List.Folds.{list_all-append}
use Rattle.ecma_kind.specs.declared.kind.Kind.{Kind}
use Rattle.ecma_kind.specs.declared.kind.Kind.TheVariants as kind
use Rattle.ecma_kind.specs.declared.span.Span.{Span}
use Rattle.ecma_tree.specs.declared.node.Node.{Node, out-Node}
use Rattle.ecma_leaves.specs.Words.{is_readable, is_spelled}
use Rattle.ecma_rules.specs.Children.{kind_of}
use Rattle.ecma_rules.specs.Failing.{failing_here, failing_step, first_failing, least, least_from}
use Rattle.ecma_fits.specs.declared.unfit.Where.{Where}
use Rattle.ecma_fits.specs.Fitting.{at_top, where_in, NoneFails}
use Rattle.ecma_fits.specs.Roles.{is_tagged}
use Rattle.ecma_scope.specs.Resolved.{is_name}
use Rattle.ecma_hygiene.specs.declared.naming.Named.{Named}
use Rattle.ecma_hygiene.specs.declared.sight.Sight.{Sight}
use Rattle.ecma_hygiene.specs.Ids.{Id, declares, same_id}
use Rattle.ecma_hygiene.specs.Sights.{Around, around_child, nowhere, sight_by, sight_here, sights, sights_at}
use Rattle.ecma_hygiene.specs.Texts.{GetTexts, Had, IsNumbered, bindings, changing_bindings, declared_in, distinct, last_text, new_bindings, none, rule, text_in, with_text}
use Rattle.ecma_hygiene.specs.Walks.{gathered_from}
use Rattle.ecma_hygiene.proofs.Walking.{gathered-out}
use Rattle.ecma_hygiene_fits.specs.Laws.{FinalTextsAreReadable, FinalTextsAreShort, FinalTextsAreSpelled, HygieneKeepsSpelling}
use Rattle.ecma_hygiene_fits.specs.Spelled.{are_readable, is_long, is_misspelled, is_short_text, is_spelled_text}
use Rattle.ecma_hygiene_fits.proofs.Everywhere.{Each, children_of, everywhere}
use Rattle.ecma_hygiene_fits.proofs.Spelled.{none_some, not_false, some_same, spelling_kept}
use Rattle.ecma_hygiene_fits.proofs.SpelledNumbers.{decimal_digits, decimal_length, numbered_spelled}
use Rattle.ecma_hygiene_fits.proofs.Walk.{neither_least, not_failing}
use Rattle.ecma_tree.proofs.Layers.{from_leaves_out}

-- ---- identifiers, and bindings

filtered : {X : Type 0} (p test : X → Bool) (xs : List X) → list_all p xs ≡ true → list_all p (filter test xs) ≡ true
filtered p test [] h = refl
filtered p test (x ∷ xs) h = let parts = and_parts (p x) (list_all p xs) h in by (test x) parts.0 (filtered p test xs parts.1)
  where
    by : (passes : Bool) → p x ≡ true → list_all p (filter test xs) ≡ true → list_all p (cond passes (x ∷ filter test xs) (filter test xs)) ≡ true
    by true a b = and_from (p x) (list_all p (filter test xs)) a b
    by false a b = b

-- what is asked of the text of each identifier
module _ (fails : Where → Node → Bool) (p : List ℕ → Bool) (tells : (w : Where) (n : Node) → fails w n ≡ false → (named declared : Bool) (span : Span) → list_all (λ x. p x.id.0) (sight_by named declared span (kind_of n)) ≡ true) where
  abbrev told_of : Sight → Bool
  told_of x = p x.id.0

  abbrev failing : Node → Where → Option ℕ
  failing = first_failing Where (λ w n. failing_here (fails w n) n) where_in

  -- of those of a node of which no node fails
  abbrev Sights : Node → Type 0
  Sights n = (w : Where) → failing n w ≡ None → (s : Around) → list_all told_of (sights_at n s) ≡ true

  both_all : (xs ys : List Sight) → list_all told_of xs ≡ true → list_all told_of ys ≡ true → list_all told_of (xs ++ ys) ≡ true
  both_all xs ys h k = list_all-append told_of xs ys ∙ and_from (list_all told_of xs) (list_all told_of ys) h k

  sights_below : (cs : List Node) → Each Sights cs → (around : ℕ → Where) (i : ℕ) → least_from Where around i (map failing cs) ≡ None → (into : ℕ → Around)
      → list_all told_of (gathered_from Around Sight into i (map sights_at cs)) ≡ true
  sights_below [] e around i h into = refl
  sights_below (c ∷ cs) e around i h into =
      let t = neither_least (failing c (around i)) (least_from Where around (suc i) (map failing cs)) h in
      both_all (sights_at c (into i)) (gathered_from Around Sight into (suc i) (map sights_at cs)) (e.0 (around i) t.0 (into i)) (sights_below cs e.1 around (suc i) t.1 into)

  node_sights : (n : Node) → Each Sights (children_of n) → Sights n
  node_sights n below w h s =
      let out : failing n w ≡ least (failing_here (fails w n) n) (least_from Where (where_in w n) 0 (map failing (children_of n))) =
      ap (λ f. f w) (from_leaves_out (Where → Option ℕ) (failing_step Where (λ w n. failing_here (fails w n) n) where_in) n) in
      let t = neither_least (failing_here (fails w n) n) (least_from Where (where_in w n) 0 (map failing (children_of n))) (sym out ∙ h) in
      ap (list_all told_of) (gathered-out Around Sight sight_here around_child n s)
      ∙ both_all (sight_here s n) (gathered_from Around Sight (around_child s n) 0 (map sights_at (children_of n)))
      (tells w n (not_failing (fails w n) n t.0) (is_name s.role) (list_any declares s.soughts) (out-Node n).span) (sights_below (children_of n) below (where_in w n) 0 t.1 (around_child s n))

  abbrev told_id : Id → Bool
  told_id id = p id.0

  ids_of : (xs : List Sight) → list_all told_of xs ≡ true → list_all told_id (map (λ x. x.id) xs) ≡ true
  ids_of [] h = refl
  ids_of (x ∷ xs) h = let parts = and_parts (told_of x) (list_all told_of xs) h in and_from (told_id x.id) (list_all told_id (map (λ x. x.id) xs)) parts.0 (ids_of xs parts.1)

  distinct_told : (met : Id → Bool) (ids : List Id) → list_all told_id ids ≡ true → list_all told_id (distinct met ids) ≡ true
  distinct_told met [] h = refl
  distinct_told met (id ∷ ids) h =
      let parts = and_parts (told_id id) (list_all told_id ids) h in
      by (met id) (distinct met ids) (distinct (λ other. same_id id other || met other) ids) parts.0 (distinct_told met ids parts.1) (distinct_told (λ other. same_id id other || met other) ids parts.1)
    where
      by : (again : Bool) (xs ys : List Id) → told_id id ≡ true → list_all told_id xs ≡ true → list_all told_id ys ≡ true → list_all told_id (cond again xs (id ∷ ys)) ≡ true
      by true xs ys a b c = b
      by false xs ys a b c = and_from (told_id id) (list_all told_id ys) a c

  -- so it is of each binding of a tree
  bindings_told : (tree : Node) → failing tree at_top ≡ None → list_all told_id (bindings (sights tree)) ≡ true
  bindings_told tree h =
      let seen = sights tree in
      distinct_told none (declared_in seen) (ids_of (filter (λ x. x.declares) seen) (filtered told_of (λ x. x.declares) seen (everywhere Sights node_sights tree at_top h nowhere)))

abbrev spelled_id : Id → Bool
spelled_id id = is_spelled_text id.0

sight_spelled : (named declared tagged : Bool) (span : Span) (k : Kind) → is_spelled tagged k ≡ true → list_all (λ x. is_spelled_text x.id.0) (sight_by named declared span k) ≡ true
sight_spelled false declared tagged span (kind.Ident sym_ ctxt optional) s = and_from (is_spelled_text sym_) true s refl
sight_spelled false declared tagged span _ s = refl
sight_spelled true declared tagged span k s = refl

bindings_spelled : (tree : Node) → NoneFails is_misspelled tree → list_all spelled_id (bindings (sights tree)) ≡ true
bindings_spelled tree h =
    bindings_told is_misspelled is_spelled_text
    (λ w n e named declared span. sight_spelled named declared (is_tagged w.role) span (kind_of n) (not_false (is_spelled (is_tagged w.role) (kind_of n)) e)) tree h

-- ---- texts

-- a text that is got is the base text, or that with a number behind it
record Number (text result : List ℕ) : Type 0 where
  number : ℕ
  is : result ≡ text ++ decimal number

by_rule : {A : Type 0} (keeps : Bool) (had : Had) (text result : List ℕ) → rule keeps had text result → (result ≡ text → A) → (Number text result → A) → A
by_rule {A} true had text result r f g = by (had text) r
  where
    by : (t : Bool) → cond t (IsNumbered had text result) (result ≡ text) → A
    by true n = g (record { number = n.number; is = n.is })
    by false e = f e
by_rule false had text result r f g = g (record { number = r.number; is = r.is })

abbrev spelled_name : Named → Bool
spelled_name named = is_spelled_text named.text

got_spelled : (keeps : Bool) (had : Had) (ids : List Id) (names : List Named) → GetTexts keeps had ids names → list_all spelled_id ids ≡ true → are_readable names ≡ true → list_all spelled_name names ≡ true
got_spelled keeps had [] [] g h short = refl
got_spelled keeps had [] (named ∷ names) g h short = absurd g
got_spelled keeps had (id ∷ ids) [] g h short = refl
got_spelled keeps had (id ∷ ids) (named ∷ names) g h short =
    let a = and_parts (spelled_id id) (list_all spelled_id ids) h in
    let b = and_parts (is_readable named.text) (are_readable names) short in
    let numbered : Number id.0 named.text → spelled_name named ≡ true =
    λ n. subst (λ t. is_spelled_text t ≡ true) (sym n.is) (numbered_spelled id.0 (decimal n.number) (decimal_digits n.number) (subst (λ t. is_readable t ≡ true) n.is b.0) a.0) in
    and_from (spelled_name named) (list_all spelled_name names)
    (by_rule keeps had id.0 named.text g.1 (λ e. subst (λ t. is_spelled_text t ≡ true) (sym e) a.0) numbered)
    (got_spelled keeps (with_text named.text had) ids names g.2 a.1 b.1)

abbrev is_short : Named → Type 0
is_short named = length named.text ≤ length named.id.0 + 64

got_short : (keeps : Bool) (had : Had) (ids : List Id) (names : List Named) → GetTexts keeps had ids names → All is_short names
got_short keeps had ids [] g = All-nil is_short
got_short keeps had [] (named ∷ names) g = absurd g
got_short keeps had (id ∷ ids) (named ∷ names) g =
    let same : length named.id.0 ≡ length id.0 = ap (λ (i : Id). length i.0) g.0 in
    let by_base : named.text ≡ id.0 → is_short named = λ e. (let f = ap length e in omega arith) in
    let by_number : Number id.0 named.text → is_short named = λ n. (let f = ap length n.is in let a = length-append id.0 (decimal n.number) in let b = decimal_length n.number in omega arith) in
    All-cons is_short named names (by_rule keeps had id.0 named.text g.1 by_base by_number) (got_short keeps (with_text named.text had) ids names g.2)

abbrev short_id : Id → Bool
short_id id = is_short_text id.0

under : (a b m : ℕ) → a ≤ b → nat_lt b m ≡ true → nat_lt a m ≡ true
under a b m l h = grind arith

got_readable : (keeps : Bool) (had : Had) (ids : List Id) (names : List Named) → GetTexts keeps had ids names → list_all short_id ids ≡ true → are_readable names ≡ true
got_readable keeps had ids [] g h = refl
got_readable keeps had [] (named ∷ names) g h = absurd g
got_readable keeps had (id ∷ ids) (named ∷ names) g h =
    let a = and_parts (short_id id) (list_all short_id ids) h in
    let by_base : named.text ≡ id.0 → length named.text ≤ length id.0 + 64 = λ e. (let f = ap length e in omega arith) in
    let by_number : Number id.0 named.text → length named.text ≤ length id.0 + 64 =
    λ n. (let f = ap length n.is in let b = length-append id.0 (decimal n.number) in let c = decimal_length n.number in omega arith) in
    and_from (is_readable named.text) (are_readable names)
    (under (length named.text) (length id.0 + 64) 4294967296 (by_rule keeps had id.0 named.text g.1 by_base by_number) a.0) (got_readable keeps (with_text named.text had) ids names g.2 a.1)

sight_short : (named declared : Bool) (span : Span) (k : Kind) → is_long k ≡ false → list_all (λ x. is_short_text x.id.0) (sight_by named declared span k) ≡ true
sight_short false declared span (kind.Ident sym_ ctxt optional) s = and_from (is_short_text sym_) true (not_false (is_short_text sym_) s) refl
sight_short false declared span _ s = refl
sight_short true declared span k s = refl

-- ---- what is found for an id

last_spelled : (names : List Named) (id : Id) (before : Option (List ℕ)) → ((text : List ℕ) → before ≡ Some text → is_spelled_text text ≡ true) → list_all spelled_name names ≡ true
    → (text : List ℕ) → last_text names id before ≡ Some text → is_spelled_text text ≡ true
last_spelled [] id before b h text e = b text e
last_spelled (named ∷ names) id before b h text e = last_spelled names id (cond (same_id named.id id) (Some named.text) before) (by (same_id named.id id)) parts.1 text e
  where
    parts : (spelled_name named ≡ true) × (list_all spelled_name names ≡ true)
    parts = and_parts (spelled_name named) (list_all spelled_name names) h

    by : (same : Bool) (other : List ℕ) → cond same (Some named.text) before ≡ Some other → is_spelled_text other ≡ true
    by true other g = subst (λ t. is_spelled_text t ≡ true) (some_same g) parts.0
    by false other g = b other g

parted : (p : Named → Bool) (xs ys : List Named) → list_all p (xs ++ ys) ≡ true → (list_all p xs ≡ true) × (list_all p ys ≡ true)
parted p xs ys h = and_parts (list_all p xs) (list_all p ys) (sym (list_all-append p xs ys) ∙ h)

pub final_texts_spelled : FinalTextsAreSpelled
final_texts_spelled tree names are short h id text e =
    let seen = sights tree in
    let bound : list_all spelled_id (bindings seen) ≡ true = bindings_spelled tree h in
    let parts = parted (λ named. is_readable named.text) are.new are.changed (subst (λ ns. are_readable ns ≡ true) are.are short) in
    let new = got_spelled true _ (new_bindings seen) are.new are.of_new (filtered spelled_id _ (bindings seen) bound) parts.0 in
    let changed = got_spelled false _ (changing_bindings seen _) are.changed are.of_changed (filtered spelled_id _ (bindings seen) bound) parts.1 in
    let all : list_all spelled_name names ≡ true =
    ap (list_all spelled_name) are.are ∙ (list_all-append spelled_name are.new are.changed ∙ and_from (list_all spelled_name are.new) (list_all spelled_name are.changed) new changed) in
    last_spelled names id None (λ t n. none_some n) all text e

pub final_texts_short : FinalTextsAreShort
final_texts_short tree names are =
    let seen = sights tree in
    subst (All is_short) (sym are.are)
    (All-append is_short are.new are.changed (got_short true _ (new_bindings seen) are.new are.of_new) (got_short false _ (changing_bindings seen _) are.changed are.of_changed))

pub final_texts_readable : FinalTextsAreReadable
final_texts_readable tree names are h =
    let seen = sights tree in
    let bound : list_all short_id (bindings seen) ≡ true =
    bindings_told (λ w n. is_long (kind_of n)) is_short_text (λ w n e named declared span. sight_short named declared span (kind_of n) e) tree h in
    let new = got_readable true _ (new_bindings seen) are.new are.of_new (filtered short_id _ (bindings seen) bound) in
    let changed = got_readable false _ (changing_bindings seen _) are.changed are.of_changed (filtered short_id _ (bindings seen) bound) in
    ap are_readable are.are ∙ (list_all-append (λ named. is_readable named.text) are.new are.changed ∙ and_from (are_readable are.new) (are_readable are.changed) new changed)

pub hygiene_spelled : HygieneKeepsSpelling
hygiene_spelled tree written is short h =
    subst (λ n. first_failing Where (λ w node. failing_here (is_misspelled w node) node) where_in n at_top ≡ None) (sym is.is)
    (spelling_kept (text_in is.names) tree (final_texts_spelled tree is.names is.texts (final_texts_readable tree is.names is.texts short) h) h)
