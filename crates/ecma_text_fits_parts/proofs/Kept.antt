-- What a grammar keeps is as it is computed, by one induction over grammars.
use Rattle.std.proofs.Common.{◌≡◌, ℕ, zero, suc, ◌+◌, Bool, true, false, ◌&&◌, ◌||◌, List, [], ◌∷◌, ◌++◌, append-nil, append_assoc, length, refl, sym, subst, max}
use Rattle.std.specs.Prelude.{if◌then◌else◌}
use Rattle.std.proofs.lemmas.Bool.{and_parts}
use Rattle.ecma_lex.specs.declared.blanks.Skipped.{Skipped}
use Rattle.ecma_lex.specs.Blanks.{skipped}
use Rattle.ecma_tree.specs.declared.node.Node.{Node}
use Rattle.ecma_grammar.specs.declared.production.Mode.{Mode}
use Rattle.ecma_grammar.specs.declared.production.Part.{Part}
use Rattle.ecma_grammar.specs.declared.production.Form.{Form}
use Rattle.ecma_grammar.specs.trees.Parts.{flag_node}
use Rattle.ecma_grammar.specs.Reading.{Position, Outcome, read, fails, too_deep, pure, Reading, followed_on, with_front, or_on, many_on, many_up_to, ahead_on, unless_on, marked, then_on}
use Rattle.ecma_grammar.specs.Grammar as grammar
use Rattle.ecma_grammar.specs.Grammar.{Grammar, Terminal}
use Rattle.ecma_grammar.specs.Made.{made}
use Rattle.ecma_grammar.specs.Reads.{reads, Parts, token, same_line_on, built_on, next_start, leaf_node}
use Rattle.ecma_text_leaves.proofs.Leaves.{Holds, holds_read, holds_fails, holds_deep, holds_then}
use Rattle.ecma_text_fits_parts.proofs.GradedLeaves.{leaf_graded}
use Rattle.ecma_text_fits_parts.proofs.Grades.{Grade, Meets, flag_fits, flag_meets, leaf_fits}
use Rattle.ecma_text_fits_parts.proofs.Keeps.{keeps, none, part_keeps, single}
use Rattle.ecma_text_fits_parts.proofs.Needs.{needs}
use Rattle.ecma_text_fits_parts.proofs.Makings.{form_made}
use Rattle.ecma_text_fits_parts.proofs.Steps.{Leaves, Repeated, ends_given, leaves_both, one_true, passes_leave, repeats_leave, stays, steps_leave}
use Rattle.ecma_raw_roles.proofs.Walks.{not_true}
use Rattle.ecma_text_fits_parts.proofs.Wanted.{Given, Wanted, choice, done, ends, is_whatever, one, passes, repeats_then, steps, whatever}

-- how a property of what is read goes through the words of a grammar

holds_front : (R : List Node → Type 0) (xs : List Node) (o : Outcome (List Node)) → Holds o (λ ys. R (xs ++ ys)) → Holds (with_front xs o) R
holds_front R xs (read ys u) h = holds_read R (xs ++ ys) u (h u ys refl)
holds_front R xs (fails n) h = holds_fails R n
holds_front R xs (too_deep n) h = holds_deep R n

holds_followed : (P R : List Node → Type 0) (q : Reading (List Node)) (o : Outcome (List Node)) → Holds o P → ((xs : List Node) → P xs → (s : Position) → Holds (q s) (λ ys. R (xs ++ ys))) → Holds (followed_on q o) R
holds_followed P R q (read xs u) p h = holds_front R xs (q u) (h xs (p u xs refl) u)
holds_followed P R q (fails n) p h = holds_fails R n
holds_followed P R q (too_deep n) p h = holds_deep R n

pub holds_or : (Q : List Node → Type 0) (q : Reading (List Node)) (s : Position) (o : Outcome (List Node)) → Holds o Q → ((s : Position) → Holds (q s) Q) → Holds (or_on q s o) Q
holds_or Q q s (read xs u) p h = p
holds_or Q q s (fails n) p h = h (record { place = s.place; failed = n })
holds_or Q q s (too_deep n) p h = holds_deep Q n

holds_marked : (Q : List Node → Type 0) (b : Bool) (p : Reading (List Node)) (s : Position) → Holds (p s) Q → Holds (marked b p s) Q
holds_marked Q true p s h = h
holds_marked Q false p s h = holds_fails Q s.failed

holds_built : (Q R : List Node → Type 0) (f : Form) (lo : ℕ) (o : Outcome (List Node)) → Holds o Q → ((hi : ℕ) (xs : List Node) → Q xs → R (made f lo hi xs ∷ [])) → Holds (built_on f lo o) R
holds_built Q R f lo (read xs u) h g = holds_read R _ u (g u.place xs (h u xs refl))
holds_built Q R f lo (fails n) h g = holds_fails R n
holds_built Q R f lo (too_deep n) h g = holds_deep R n

holds_line : (Q : List Node → Type 0) → Q [] → (s : Position) (before : Skipped) → Holds (same_line_on s before) Q
holds_line Q q s before = go before.new_line
  where
    go : (b : Bool) → Holds {A = List Node} (if b then fails (max s.failed before.to) else read [] s) Q
    go true = holds_fails Q (max s.failed before.to)
    go false = holds_read Q [] s q

holds_ahead : (Q : List Node → Type 0) → Q [] → (s : Position) (o : Outcome (List Node)) → Holds (ahead_on s o) Q
holds_ahead Q q s (read xs u) = holds_read Q [] _ q
holds_ahead Q q s (fails n) = holds_fails Q n
holds_ahead Q q s (too_deep n) = holds_deep Q n

holds_unless : (Q : List Node → Type 0) → Q [] → (s : Position) (o : Outcome (List Node)) → Holds (unless_on s o) Q
holds_unless Q q s (read xs u) = holds_fails Q u.failed
holds_unless Q q s (fails n) = holds_read Q [] _ q
holds_unless Q q s (too_deep n) = holds_deep Q n

holds_many_on : (Q R : List Node → Type 0) (s : Position) (rest : Reading (List Node)) (o : Outcome (List Node)) → R [] → Holds o Q → ((s : Position) → Holds (rest s) R) → ((xs ys : List Node) → Q xs → R ys → R (xs ++ ys)) → Holds (many_on s rest o) R
holds_many_on Q R s rest (read xs u) e h r f = holds_front R xs (rest u) (λ t ys k. f xs ys (h u xs refl) (r u t ys k))
holds_many_on Q R s rest (fails n) e h r f = holds_read R [] _ e
holds_many_on Q R s rest (too_deep n) e h r f = holds_deep R n

holds_many : (Q R : List Node → Type 0) (p : Reading (List Node)) → R [] → ((s : Position) → Holds (p s) Q) → ((xs ys : List Node) → Q xs → R ys → R (xs ++ ys)) → (n : ℕ) (s : Position) → Holds (many_up_to p n s) R
unfolding many_up_to
holds_many Q R p e h f zero s = holds_read R [] s e
holds_many Q R p e h f (suc n) s = holds_many_on Q R s (many_up_to p n) (p s) e (h s) (holds_many Q R p e h f n) f

-- which of three tests was made
which : (Q : Type 0) (a b : Bool) (x y z : Unit {0} → Bool) → choice a b x y z ≡ true → (a ≡ true → x tt ≡ true → Q) → (y tt ≡ true → Q) → (z tt ≡ true → Q) → Q
which Q true b x y z h f g k = f refl h
which Q false true x y z h f g k = g h
which Q false false x y z h f g k = k h

is_none : (xs ys : List Node) → xs ≡ [] → ys ≡ [] → xs ++ ys ≡ []
is_none xs ys e f = rw (e, f) refl

whatever_wanted : (next : Wanted → Bool) (w : Wanted) (xs : List Node) → is_whatever w ≡ true → next w ≡ true → Leaves next w xs
whatever_wanted next whatever xs e h = (whatever, h, λ ys g. tt)
whatever_wanted next _ xs e h = not_true e

ended : (w : Wanted) (xs : List Node) → Leaves ends w xs → Given w xs
ended w xs r = subst (Given w) (append-nil xs) (r.2 [] (ends_given r.0 r.1))

one_ended : (g : Grade) (xs : List Node) → Given (one g done) xs → (x : Node) × (xs ≡ x ∷ []) × Meets g x
one_ended g [] k = absurd k
one_ended g (x ∷ []) k = (x, refl, k.0)
one_ended g (x ∷ y ∷ ys) k = absurd k.1

module _ (text : List ℕ) (mode : Mode) (parts : Parts text) where
  abbrev R : Grammar → Reading (List Node)
  R = reads text mode parts

  abbrev Nothing : List Node → Type 0
  Nothing xs = xs ≡ []

  pub takes_nothing : (t : Terminal) (s : Position) → Holds (R (grammar.take t) s) Nothing
  takes_nothing t s = holds_then _ (λ k. Unit {0}) Nothing (token text t s) (λ p x e. tt) (λ x p q. holds_read Nothing [] p refl)

  keeps_none : (g : Grammar) (s : Position) → none g ≡ true → Holds (R g s) Nothing
  keeps_none grammar.nothing s h = holds_read Nothing [] s refl
  keeps_none grammar.same_line s h = holds_line Nothing refl s (skipped text s.place)
  keeps_none (grammar.take t) s h = takes_nothing t s
  keeps_none (grammar.keep l) s h = not_true h
  keeps_none (grammar.put f) s h = not_true h
  keeps_none (grammar.◌▸◌ a b) s h =
      let both = and_parts (none a) (none b) h in
      holds_followed Nothing Nothing (R b) (R a s) (keeps_none a s both.0) (λ xs e t u ys k. is_none xs ys e (keeps_none b t both.1 u ys k))
  keeps_none (grammar.◌//◌ a b) s h =
      let both = and_parts (none a) (none b) h in
      holds_or Nothing (R b) s (R a s) (keeps_none a s both.0) (λ t. keeps_none b t both.1)
  keeps_none (grammar.many a) s h = holds_many Nothing Nothing (R a) refl (λ t. keeps_none a t h) is_none (length text + 1) s
  keeps_none (grammar.ahead a) s h = holds_ahead Nothing refl s (R a s)
  keeps_none (grammar.unless a) s h = holds_unless Nothing refl s (R a s)
  keeps_none (grammar.marked a) s h = holds_marked Nothing mode.typescript (R a) s (keeps_none a s h)
  keeps_none (grammar.assigned a) s h = holds_marked Nothing mode.assignments (R a) s (keeps_none a s h)
  keeps_none (grammar.up p) s h = not_true h
  keeps_none (grammar.enter p) s h = not_true h
  keeps_none (grammar.behind t p) s h = not_true h
  keeps_none (grammar.build f a) s h = not_true h

  holds_none : (next : Wanted → Bool) (w : Wanted) (o : Outcome (List Node)) → next w ≡ true → Holds o Nothing → Holds o (Leaves next w)
  holds_none next w o e h t xs k = subst (Leaves next w) (sym (h t xs k)) (stays next w e)

  -- a leaf
  leaf_leaves : (next : Wanted → Bool) (w : Wanted) (meets : Grade → Bool) → steps meets next w ≡ true → (o : Outcome Node) → ((g : Grade) → meets g ≡ true → Holds o (Meets g)) → Holds (then_on (λ x. pure (x ∷ [])) o) (Leaves next w)
  leaf_leaves next w meets h (read x u) f = holds_read (Leaves next w) (x ∷ []) u (steps_leave meets next (x ∷ []) (λ g e. (x, refl, f g e u x refl)) w h)
  leaf_leaves next w meets h (fails n) f = holds_fails (Leaves next w) n
  leaf_leaves next w meets h (too_deep n) f = holds_deep (Leaves next w) n

  -- a node of what is read
  built_leaves : (next : Wanted → Bool) (w : Wanted) (f : Form) (lo : ℕ) (meets : Grade → Bool) → steps meets next w ≡ true → (o : Outcome (List Node)) → ((g : Grade) → meets g ≡ true → Holds o (Given (needs f g))) → Holds (built_on f lo o) (Leaves next w)
  built_leaves next w f lo meets h (read xs u) k =
      holds_read (Leaves next w) (made f lo u.place xs ∷ []) u (steps_leave meets next (made f lo u.place xs ∷ []) (λ g e. (made f lo u.place xs, refl, form_made f g lo u.place xs (k g e u xs refl))) w h)
  built_leaves next w f lo meets h (fails n) k = holds_fails (Leaves next w) n
  built_leaves next w f lo meets h (too_deep n) k = holds_deep (Leaves next w) n

  pub holds_ended : (w : Wanted) (o : Outcome (List Node)) → Holds o (Leaves ends w) → Holds o (Given w)
  holds_ended w o h t xs r = ended w xs (h t xs r)

  -- one of two, that each keep one node
  either_leaves : (next : Wanted → Bool) (w : Wanted) (meets : Grade → Bool) → steps meets next w ≡ true → (o : Outcome (List Node)) → ((g : Grade) → meets g ≡ true → Holds o (Given (one g done))) → Holds o (Leaves next w)
  either_leaves next w meets h o f t xs r = steps_leave meets next xs (λ g e. one_ended g xs (f g e t xs r)) w h

  -- a repetition
  abbrev Stand : Wanted → List Node → Type 0
  Stand v xs = (ys : List Node) → Given v ys → Given v (xs ++ ys)

  abbrev Once : Grammar → List Node → Type 0
  Once a xs = (s : Position) × (t : Position) × (R a s ≡ read xs t)

  repeated_leaves : (next : Wanted → Bool) (w : Wanted) (a : Grammar) (s : Position) → Repeated (Once a) next w → Holds (R (grammar.many a) s) (Leaves next w)
  repeated_leaves next w a s r =
      let stand = holds_many (Once a) (Stand r.0) (R a) (λ ys k. k) (λ u t xs e. (u, t, e)) (λ xs ys u f zs k. subst (Given r.0) (sym (append_assoc xs ys zs)) (r.2 xs u (ys ++ zs) (f zs k))) (length text + 1) s in
      λ t xs e. (r.0, r.1, λ ys k. r.3 (xs ++ ys) (stand t xs e ys k))

  either_none : (next : Wanted → Bool) (w : Wanted) (a b : Grammar) (s : Position) → (is_whatever w || (none a && none b)) ≡ true → next w ≡ true → Holds (R (grammar.◌//◌ a b) s) (Leaves next w)
  either_none next w a b s e h =
      one_true (is_whatever w) (none a && none b) e (λ i t xs r. whatever_wanted next w xs i h) (λ n. holds_none next w (R (grammar.◌//◌ a b) s) h (keeps_none (grammar.◌//◌ a b) s n))

  module _ (inside : (p : Part) (at : ℕ) (s : Position) → Holds (parts p at s) (Given (part_keeps p))) where
    passed : (p : Part) (next : Wanted → Bool) (w : Wanted) (o : Outcome (List Node)) → passes (part_keeps p) next w ≡ true → Holds o (Given (part_keeps p)) → Holds o (Leaves next w)
    passed p next w o h k t xs r = passes_leave (part_keeps p) next w h xs (k t xs r)

    pub as_kept : (g : Grammar) (next : Wanted → Bool) (w : Wanted) (s : Position) → keeps g next w ≡ true → Holds (R g s) (Leaves next w)
    as_kept grammar.nothing next w s h = holds_read (Leaves next w) [] s (stays next w h)
    as_kept grammar.same_line next w s h = holds_line (Leaves next w) (stays next w h) s (skipped text s.place)
    as_kept (grammar.take t) next w s h = holds_none next w (R (grammar.take t) s) h (takes_nothing t s)
    as_kept (grammar.keep l) next w s h = leaf_leaves next w (leaf_fits l) h (leaf_node text l s) (λ g e. leaf_graded text g l s e)
    as_kept (grammar.put f) next w s h = holds_read (Leaves next w) (flag_node f ∷ []) s (steps_leave (flag_fits f) next (flag_node f ∷ []) (λ g e. (flag_node f, refl, flag_meets f g e)) w h)
    as_kept (grammar.◌▸◌ a b) next w s h =
        which (Holds (R (grammar.◌▸◌ a b) s) (Leaves next w)) (is_whatever w) true (λ u. next w) (λ u. keeps a (keeps b next) w) (λ u. false) h
        (λ e k t xs r. whatever_wanted next w xs e k)
        (λ k. holds_followed (Leaves (keeps b next) w) (Leaves next w) (R b) (R a s) (as_kept a (keeps b next) w s k)
        (λ xs r t u ys e. leaves_both next w r.0 xs ys r.2 (as_kept b next r.0 t r.1 u ys e)))
        (λ k. not_true k)
    as_kept (grammar.◌//◌ a b) next w s h =
        which (Holds (R (grammar.◌//◌ a b) s) (Leaves next w)) (is_whatever w || (none a && none b)) (single a && single b)
        (λ u. next w) (λ u. steps (λ g. keeps a ends (one g done) && keeps b ends (one g done)) next w) (λ u. keeps a next w && keeps b next w) h
        (λ e k. either_none next w a b s e k)
        (λ k. either_leaves next w (λ g. keeps a ends (one g done) && keeps b ends (one g done)) k (R (grammar.◌//◌ a b) s)
        (λ g e. (let both = and_parts (keeps a ends (one g done)) (keeps b ends (one g done)) e in
        holds_or (Given (one g done)) (R b) s (R a s) (holds_ended (one g done) (R a s) (as_kept a ends (one g done) s both.0)) (λ t. holds_ended (one g done) (R b t) (as_kept b ends (one g done) t both.1)))))
        (λ k. (let both = and_parts (keeps a next w) (keeps b next w) k in holds_or (Leaves next w) (R b) s (R a s) (as_kept a next w s both.0) (λ t. as_kept b next w t both.1)))
    as_kept (grammar.many a) next w s h =
        which (Holds (R (grammar.many a) s) (Leaves next w)) (none a) true (λ u. next w) (λ u. repeats_then (keeps a) next w) (λ u. false) h
        (λ e k. holds_none next w (R (grammar.many a) s) k (keeps_none (grammar.many a) s e))
        (λ k. repeated_leaves next w a s (repeats_leave (keeps a) (Once a) (λ later v e xs u. as_kept a later v u.0 e u.1 xs u.2) next w k))
        (λ k. not_true k)
    as_kept (grammar.ahead a) next w s h = holds_ahead (Leaves next w) (stays next w h) s (R a s)
    as_kept (grammar.unless grammar.nothing) next w s h = holds_fails (Leaves next w) s.failed
    as_kept (grammar.unless a) next w s h = holds_unless (Leaves next w) (stays next w h) s (R a s)
    as_kept (grammar.marked a) next w s h = holds_marked (Leaves next w) mode.typescript (R a) s (as_kept a next w s h)
    as_kept (grammar.assigned a) next w s h = holds_marked (Leaves next w) mode.assignments (R a) s (as_kept a next w s h)
    as_kept (grammar.up p) next w s h = passed p next w (parts p s.place s) h (inside p s.place s)
    as_kept (grammar.enter p) next w s h = passed p next w (parts p (next_start text s) s) h (inside p (next_start text s) s)
    as_kept (grammar.behind t p) next w s h = holds_then _ (λ k. Unit {0}) (Leaves next w) (token text t s) (λ q x e. tt) (λ k u q. passed p next w (parts p k.start u) h (inside p k.start u))
    as_kept (grammar.build f a) next w s h = built_leaves next w f (next_start text s) (λ g. keeps a ends (needs f g)) h (R a s) (λ g e. holds_ended (needs f g) (R a s) (as_kept a ends (needs f g) s e))
