-- What is read behind what was kept.
use Rattle.std.proofs.Common.{◌≡◌, ℕ, suc, ◌+◌, ◌-◌, ◌<◌, ◌≤◌, List, [], ◌∷◌, ◌++◌, length, take, drop, Option, Some, None, Ok, refl, ap, ◌∙◌, subst, arith, append_assoc}
use Rattle.std.proofs.lemmas.List.{append-nil, length-append, length-drop, take-append-drop}
use Rattle.std.proofs.Math.Seq.{take-append_seam, drop-append_seam, take-length}
use Rattle.ecma_tree.specs.declared.node.Node.{Node}
use Rattle.ecma_reader.specs.declared.reader.Reader.{Reader}
use Rattle.ecma_grammar.specs.declared.production.Form.{Form}
use Rattle.ecma_reader.specs.declared.reader.keeping.Opened.{Opened}
use Rattle.ecma_grammar.specs.declared.production.Mode.{Mode}
use Rattle.std.specs.Fn.{Shared}
use Rattle.ecma_reader.specs.declared.machine.Machine.{Machine}
use Rattle.ecma_reader.specs.Agreement.{position, kept, SameText, Keeps, parts_in, reads_in, PartArgs, PartResult, ReadsParts}
use Rattle.ecma_reader.specs.Opening.{built, closed, Within}
use Rattle.ecma_grammar.specs.Reading.{Position, Outcome, read, fails, too_deep, Reading, with_front, followed_on, or_on, many_up_to, many_on, ahead_on, unless_on}
use Rattle.ecma_grammar.specs.Made.{made_with_types}
use Rattle.ecma_grammar.specs.Reads.{Parts, reads_with_types, built_with_types}
use Rattle.ecma_grammar.specs.Grammar.{Grammar, ◌▸◌}

-- what is read behind what was read stands behind all that was kept
pub followed-read : (xs m : List Node) (t : Position) (q : Reading (List Node)) (o : Outcome (List Node)) → with_front xs o ≡ read m t → with_front xs (followed_on q o) ≡ with_front m (q t)
followed-read xs m t q (read ys u) e = go (q u) refl
  where
    same : u ≡ t
    same = cc

    whole : xs ++ ys ≡ m
    whole = cc

    go : (r : Outcome (List Node)) → q u ≡ r → with_front xs (with_front ys (q u)) ≡ with_front m (q t)
    go (read zs v) h = rw (← same, h, ← whole, append_assoc) refl
    go (fails k) h = rw (← same, h) refl
    go (too_deep d) h = rw (← same, h) refl
followed-read xs m t q (fails k) e = cc
followed-read xs m t q (too_deep d) e = cc

pub followed-fails : (xs m : List Node) (t : Position) (q : Reading (List Node)) (o : Outcome (List Node)) (k : ℕ) → with_front xs o ≡ read m t → q t ≡ fails k → followed_on q o ≡ fails k
followed-fails xs m t q (read ys u) k e h = let same : u ≡ t = cc in rw (same, h) refl
followed-fails xs m t q (fails k') k e h = cc
followed-fails xs m t q (too_deep d) k e h = cc

pub followed-deep : (xs m : List Node) (t : Position) (q : Reading (List Node)) (o : Outcome (List Node)) (d : ℕ) → with_front xs o ≡ read m t → q t ≡ too_deep d → followed_on q o ≡ too_deep d
followed-deep xs m t q (read ys u) d e h = let same : u ≡ t = cc in rw (same, h) refl
followed-deep xs m t q (fails k') d e h = cc
followed-deep xs m t q (too_deep d') d e h = cc

-- what was kept before stands in front
pub front-kept : (xs m : List Node) (t : Position) (o : Outcome (List Node)) → with_front xs o ≡ read m t → take (length xs) m ≡ xs
front-kept xs m t (read ys u) e = let whole : xs ++ ys ≡ m = cc in rw (← whole, take-append_seam) refl
front-kept xs m t (fails k) e = cc
front-kept xs m t (too_deep d) e = cc

pub front-shorter : (xs m : List Node) (t : Position) (o : Outcome (List Node)) → with_front xs o ≡ read m t → length xs ≤ length m
front-shorter xs m t (read ys u) e = let whole : xs ++ ys ≡ m = cc in rw (← whole, length-append) (omega arith)
front-shorter xs m t (fails k) e = cc
front-shorter xs m t (too_deep d) e = cc

pub built-read : (xs m : List Node) (t : Position) (form : Form) (lo : ℕ) (o : Outcome (List Node)) → with_front xs o ≡ read m t → with_front xs (built_with_types form lo o) ≡ read (take (length xs) m ++ made_with_types form lo t.place (drop (length xs) m) ∷ []) t
built-read xs m t form lo (read ys u) e =
    let same : u ≡ t = cc in
    let whole : xs ++ ys ≡ m = cc in
    rw (← whole, ← same, take-append_seam, drop-append_seam) refl
built-read xs m t form lo (fails k) e = cc
built-read xs m t form lo (too_deep d) e = cc

-- what was kept first stands in front of all that was kept then
pub front-through : (xs ys zs : List Node) → take (length xs) ys ≡ xs → take (length ys) zs ≡ ys → take (length xs) zs ≡ xs
front-through xs ys zs first then =
    let whole : ys ++ drop (length ys) zs ≡ zs = rw then at (take-append-drop (length ys) zs) in
    let front : xs ++ drop (length xs) ys ≡ ys = rw first at (take-append-drop (length xs) ys) in
    rw (← whole, ← front, append_assoc, take-append_seam) refl

pub front-all : (xs : List Node) → take (length xs) xs ≡ xs
front-all xs = take-length xs

pub front-length : (xs ys : List Node) → take (length xs) ys ≡ xs → length xs ≤ length ys
front-length xs ys first = let front : xs ++ drop (length xs) ys ≡ ys = rw first at (take-append-drop (length xs) ys) in rw (← front, length-append) (omega arith)

pub or-read : (xs m : List Node) (s t : Position) (q : Reading (List Node)) (o : Outcome (List Node)) → with_front xs o ≡ read m t → with_front xs (or_on q s o) ≡ read m t
or-read xs m s t q (read ys u) e = e
or-read xs m s t q (fails k) e = cc
or-read xs m s t q (too_deep d) e = cc

-- what is read, made into the node that was begun
abbrev pub closed_on : Option Opened → Outcome (List Node) → Outcome (List Node)
closed_on opened (read xs t) = read (closed opened t.place xs) t
closed_on opened (fails k) = fails k
closed_on opened (too_deep d) = too_deep d

pub closed-none : (o : Outcome (List Node)) → closed_on None o ≡ o
closed-none (read xs t) = refl
closed-none (fails k) = refl
closed-none (too_deep d) = refl

-- a node that is begun where so many nodes are kept
pub opened-read : (xs : List Node) (opened : Opened) (form : Form) (lo : ℕ) (o : Outcome (List Node))
    → opened.form.now ≡ form → opened.lo ≡ lo → opened.count ≡ length xs → with_front xs (built_with_types form lo o) ≡ closed_on (Some opened) (with_front xs o)
opened-read xs opened form lo (read ys u) e f g = rw (e, f, g, take-append_seam, drop-append_seam) refl
opened-read xs opened form lo (fails k) e f g = refl
opened-read xs opened form lo (too_deep d) e f g = refl

-- a form that makes of one node that node
pub alone-kept : (hi : ℕ) (opened : Opened) (xs : List Node) → opened.count + 1 ≡ length xs → ((lo hi : ℕ) (x : Node) → made_with_types opened.form.now lo hi (x ∷ []) ≡ x) → built opened hi xs ≡ xs
alone-kept hi opened xs one same = go (drop opened.count xs) refl
  where
    go : (ys : List Node) → drop opened.count xs ≡ ys → built opened hi xs ≡ xs
    go [] e = absurd (let none : length (drop opened.count xs) ≡ 0 = ap length e in omega (arith, none, length-drop {A = Node}))
    go (y ∷ []) e = let whole : take opened.count xs ++ (y ∷ []) ≡ xs = rw e at (take-append-drop opened.count xs) in rw (e, same opened.lo hi y, whole) refl
    go (y ∷ z ∷ zs) e = absurd (let more : length (drop opened.count xs) ≡ suc (suc (length zs)) = ap length e in omega (arith, more, length-drop {A = Node}))

pub ruleset alone = (alone-kept)

pub front-fails : (xs : List Node) (o : Outcome (List Node)) (k : ℕ) → with_front xs o ≡ fails k → o ≡ fails k
front-fails xs (read ys u) k e = cc
front-fails xs (fails k') k e = e
front-fails xs (too_deep d) k e = cc

pub front-deep : (xs : List Node) (o : Outcome (List Node)) (d : ℕ) → with_front xs o ≡ too_deep d → o ≡ too_deep d
front-deep xs (read ys u) d e = cc
front-deep xs (fails k) d e = cc
front-deep xs (too_deep d') d e = e

-- what is left to read from where the reader stands, behind what is kept and made into the node that was begun, is what was to be read from where the reading began
pub record GoesOn (initial now : Reader) (opened : Option Opened) (all left : Reading (List Node)) : Type 0 where
  pub same : SameText initial now
  pub front : take (length (kept initial)) (kept now) ≡ kept initial
  pub within : Within (length (kept now)) opened
  pub whole : with_front (kept initial) (all (position initial)) ≡ closed_on opened (with_front (kept now) (left (position now)))

-- the first of two was read
pub then-goes-on : (initial now next : Reader) (opened : Option Opened) (all : Reading (List Node)) (left : ℕ) (g a b : Grammar)
    → g ≡ a ▸ b → GoesOn initial now opened all (reads_in initial left g) → Keeps now next (Ok tt) (reads_in now left a) → GoesOn initial next opened all (reads_in initial left b)
then-goes-on initial now next opened all left g a b is h k =
    let same : reads_in now left a ≡ reads_in initial left a = rw (h.same.0, h.same.1) refl in
    let first : with_front (kept now) (reads_in initial left a (position now)) ≡ read (kept next) (position next) = rw same at k.1 in
    record {
      same = (k.0.0 ∙ h.same.0, k.0.1 ∙ h.same.1);
      front = front-through (kept initial) (kept now) (kept next) h.front (front-kept (kept now) (kept next) (position next) _ first);
      within = within-more (length (kept now)) (length (kept next)) opened (front-shorter (kept now) (kept next) (position next) _ first) h.within;
      whole = (rw is at h.whole) ∙ ap (closed_on opened) (followed-read (kept now) (kept next) (position next) (reads_in initial left b) _ first);
    }
  where
    within-more : (n m : ℕ) (opened : Option Opened) → n ≤ m → Within n opened → Within m opened
    within-more n m None more h = tt
    within-more n m (Some o) more h = omega arith

-- a choice of which a remainder is read in its place
pub remains-goes-on : (initial now next : Reader) (opened : Option Opened) (all : Reading (List Node)) (left : ℕ) (g rest : Grammar)
    → GoesOn initial now opened all (reads_in initial left g) → SameText now next → kept next ≡ kept now
    → ((parts : Parts now.text.now) → reads_with_types now.text.now now.mode parts g (position now) ≡ reads_with_types now.text.now now.mode parts rest (position next))
    → GoesOn initial next opened all (reads_in initial left rest)
remains-goes-on initial now next opened all left g rest h same alike known =
    let there : (text : List ℕ) (mode : Mode) → now.text.now ≡ text → now.mode ≡ mode → (parts : Parts text) → reads_with_types text mode parts g (position now) ≡ reads_with_types text mode parts rest (position next)
    = λ text mode t m. subst (λ x. (parts : Parts x) → reads_with_types x mode parts g (position now) ≡ reads_with_types x mode parts rest (position next)) t (subst (λ y. (parts : Parts now.text.now) → reads_with_types now.text.now y parts g (position now) ≡ reads_with_types now.text.now y parts rest (position next)) m known) in
    record {
      same = (same.0 ∙ h.same.0, same.1 ∙ h.same.1);
      front = rw alike h.front;
      within = rw alike h.within;
      whole = rw (alike, ← there initial.text.now initial.mode h.same.0 h.same.1 (parts_in initial left)) h.whole;
    }

pub ahead-read : (xs m : List Node) (s t : Position) (o : Outcome (List Node)) → with_front xs o ≡ read m t → ahead_on s o ≡ read [] (record { place = s.place; failed = t.failed })
ahead-read xs m s t (read ys u) e = let same : u ≡ t = cc in rw same refl
ahead-read xs m s t (fails k) e = cc
ahead-read xs m s t (too_deep d) e = cc

pub unless-read : (xs m : List Node) (s t : Position) (o : Outcome (List Node)) → with_front xs o ≡ read m t → unless_on s o ≡ fails t.failed
unless-read xs m s t (read ys u) e = let same : u ≡ t = cc in rw same refl
unless-read xs m s t (fails k) e = cc
unless-read xs m s t (too_deep d) e = cc

-- after i turns: what is read from where the reader stands, behind what is kept now, is the whole repetition behind what was kept before
abbrev pub IsFront : Reader → Reader → ℕ → Reading (List Node) → Type 0
IsFront initial now i part =
    let n = length initial.text.now + 1 in
    SameText initial now × (with_front (kept initial) (many_up_to part n (position initial)) ≡ with_front (kept now) (many_up_to part (n - i) (position now)))

pub many_up_to-none : (p : Reading (List Node)) (n i : ℕ) (s : Position) → n ≤ i → many_up_to p (n - i) s ≡ read [] s
unfolding many_up_to
many_up_to-none p n i s all = let none : n - i ≡ 0 = omega arith in rw none refl

pub many_up_to-more : (p : Reading (List Node)) (n i : ℕ) (s : Position) → i < n → many_up_to p (n - i) s ≡ many_on s (many_up_to p (n - (i + 1))) (p s)
unfolding many_up_to
many_up_to-more p n i s more = let one : n - i ≡ suc (n - (i + 1)) = omega arith in rw one refl

-- a turn that was read
pub many-read : (xs m : List Node) (s t : Position) (rest : Reading (List Node)) (o : Outcome (List Node)) → with_front xs o ≡ read m t → with_front xs (many_on s rest o) ≡ with_front m (rest t)
many-read xs m s t rest (read ys u) e = followed-read xs m t rest (read ys u) e
many-read xs m s t rest (fails k) e = cc
many-read xs m s t rest (too_deep d) e = cc

-- behind nothing stands what is read
pub front-none : (o : Outcome (List Node)) → with_front [] o ≡ o
front-none (read xs t) = refl
front-none (fails k) = refl
front-none (too_deep d) = refl

-- the same function, where fewer levels are left
pub reads-fewer : {F : Type 0} (calls : Shared F PartArgs PartResult) (machine : Machine F) (left : ℕ) → ReadsParts calls machine → left ≤ machine.left → ReadsParts calls (record { part = machine.part; left = left })
reads-fewer calls machine left h less =
    record {
      callable = λ reader part at allowed few. h.callable reader part at allowed (omega (arith, few, less));
      exact = λ old new part at allowed result few post. h.exact old new part at allowed result (omega (arith, few, less)) post;
    }

pub all-levels : (n : ℕ) → n ≤ n
all-levels n = omega arith

pub ruleset again = (reads-fewer, front-none, front-all)

pub ruleset reading = (followed-read, followed-fails, followed-deep, front-kept, front-shorter, front-through, front-all, front-length, built-read, or-read, closed-none, opened-read, front-fails, front-deep, append-nil)

pub ruleset looking = (all-levels, front-kept, front-through, front-all, followed-read, ahead-read, unless-read, append-nil)

pub ruleset repeating = (many_up_to-none, many_up_to-more, many-read, front-kept, front-through, front-all, append-nil)

pub ruleset whole = (front-none)
