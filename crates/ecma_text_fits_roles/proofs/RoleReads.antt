-- What the grammar gives is what it has to be where it is declared, by one induction over grammars and one over levels.
use Rattle.std.proofs.Common.{◌≡◌, ℕ, zero, suc, ◌+◌, max, Bool, true, false, cond, bytes_eq, codes, List, [], ◌∷◌, ◌++◌, length, Ok, refl, sym, subst}
use Rattle.std.proofs.lemmas.Slice.Eq.{bytes_eq-Decides}
use Rattle.ecma_lex.specs.declared.tokens.Token.{Token}
use Rattle.ecma_lex.specs.declared.blanks.Skipped.{Skipped}
use Rattle.ecma_lex.specs.Blanks.{skipped}
use Rattle.ecma_lex.specs.Keys.{is_reserved}
use Rattle.ecma_tree.specs.declared.node.Node.{Node}
use Rattle.ecma_grammar.specs.declared.production.Mode.{Mode}
use Rattle.ecma_grammar.specs.declared.production.Part.{Part}
use Rattle.ecma_grammar.specs.declared.production.Form.{Form}
use Rattle.ecma_grammar.specs.declared.production.Leaf.{Leaf}
use Rattle.ecma_grammar.specs.declared.production.Leaf.TheVariants as leaf
use Rattle.ecma_grammar.specs.Grammar as grammar
use Rattle.ecma_grammar.specs.Grammar.{Grammar}
use Rattle.ecma_grammar.specs.Reading as reading
use Rattle.ecma_grammar.specs.Reading.{Position, Outcome, read, fails, too_deep, Reading, then_on, pure, with_front, followed_on, or_on, many_on, many_up_to, ahead_on, unless_on}
use Rattle.ecma_grammar.specs.Reads.{reads, levels, levels_by, Parts, built_on, token, next_start, same_line_on, kept_leaf}
use Rattle.ecma_grammar.specs.Made.{made}
use Rattle.ecma_grammar.specs.trees.Parts.{flag_node, in_front}
use Rattle.ecma_grammar.specs.PartBodies.{part_body}
use Rattle.ecma_grammar.specs.productions.Modules.{module_body}
use Rattle.ecma_grammar.specs.Modules.{answer_of, reads_module}
use Rattle.ecma_fits.specs.declared.role.Role.TheVariants as role
use Rattle.ecma_raw_roles.specs.RawRoles.{HasRawRole}
use Rattle.ecma_text_fits_roles.proofs.RoleAsks.{Ask, Asked, Chained, Given, MeetAll, all_given, at, before, chain, first_part, free, is_one, none_asked, of_many, of_one, second_part, these}
use Rattle.ecma_text_fits_roles.proofs.RoleNeeds.{flag_meets, keeps, leaf_meets, needs, part_keeps, width}
use Rattle.ecma_text_fits_roles.proofs.RoleGiven.{given_both, given_more, given_none, given_one, given_wider, two}
use Rattle.ecma_text_fits_roles.proofs.RoleLeaves.{flag_meets_ask, global_free, key_after, leaf_meets_ask, private_leaf}
use Rattle.ecma_text_fits_roles.proofs.RoleMakings.{form_made}
use Rattle.ecma_text_fits_roles.proofs.RoleChecks.{module_keeps, part_kept}

-- what an outcome reads is as asked
abbrev Reads : Asked → Outcome (List Node) → Type 0
Reads q o = (xs : List Node) (t : Position) → o ≡ read xs t → Given q xs

reads_this : (q : Asked) (xs : List Node) (s : Position) → Given q xs → Reads q (read xs s)
reads_this q xs s g ys t r = let e : xs ≡ ys = cc in subst (Given q) e g

reads_no : (q : Asked) (n : ℕ) → Reads q (fails n)
reads_no q n ys t r = cc

reads_none : (q : Asked) (n : ℕ) → Reads q (too_deep n)
reads_none q n ys t r = cc

-- something was read in front
reads_front : (q r : Asked) (xs : List Node) → ((ys : List Node) → Given q ys → Given r (xs ++ ys)) → (o : Outcome (List Node)) → Reads q o → Reads r (with_front xs o)
reads_front q r xs join (read ys u) h = reads_this r (xs ++ ys) u (join ys (h ys u refl))
reads_front q r xs join (fails n) h = reads_no r n
reads_front q r xs join (too_deep n) h = reads_none r n

-- one behind the other, by what is known of the first and where it ends
reads_behind : (r : Asked) (p : Reading (List Node)) (o : Outcome (List Node)) → ((xs : List Node) (u : Position) → o ≡ read xs u → Reads r (with_front xs (p u))) → Reads r (followed_on p o)
reads_behind r p (read xs u) f = f xs u refl
reads_behind r p (fails n) f = reads_no r n
reads_behind r p (too_deep n) f = reads_none r n

reads_followed : (n : ℕ) (q : Asked) (p : Reading (List Node)) (o : Outcome (List Node)) → Reads (first_part n q) o → ((s : Position) → Reads (second_part n q) (p s)) → Reads q (followed_on p o)
reads_followed n q p o h k = reads_behind q p o (λ xs u e. reads_front (second_part n q) q xs (λ ys g. given_both n q xs ys (h xs u e) g) (p u) (k u))

reads_or : (q : Asked) (p : Reading (List Node)) (s : Position) (o : Outcome (List Node)) → Reads q o → ((s : Position) → Reads q (p s)) → Reads q (or_on p s o)
reads_or q p s (read xs u) h k = h
reads_or q p s (fails n) h k = k (record { place = s.place; failed = n })
reads_or q p s (too_deep n) h k = reads_none q n

reads_many_on : (q : Asked) (s : Position) (rest : Reading (List Node)) (o : Outcome (List Node)) → none_asked q ≡ true → Reads (of_many q) o → ((s : Position) → Reads q (rest s)) → Reads q (many_on s rest o)
reads_many_on q s rest (read xs u) e h k = reads_front q q xs (λ ys g. given_more q xs ys (h xs u refl) g) (rest u) (k u)
reads_many_on q s rest (fails n) e h k = reads_this q [] (record { place = s.place; failed = n }) (given_none q e)
reads_many_on q s rest (too_deep n) e h k = reads_none q n

reads_many : (q : Asked) (p : Reading (List Node)) → none_asked q ≡ true → ((s : Position) → Reads (of_many q) (p s)) → (n : ℕ) (s : Position) → Reads q (many_up_to p n s)
unfolding many_up_to
reads_many q p e h zero s = reads_this q [] s (given_none q e)
reads_many q p e h (suc n) s = reads_many_on q s (many_up_to p n) (p s) e (h s) (λ u. reads_many q p e h n u)

reads_ahead : (q : Asked) (s : Position) (o : Outcome (List Node)) → none_asked q ≡ true → Reads q (ahead_on s o)
reads_ahead q s (read xs u) e = reads_this q [] (record { place = s.place; failed = u.failed }) (given_none q e)
reads_ahead q s (fails n) e = reads_no q n
reads_ahead q s (too_deep n) e = reads_none q n

reads_unless : (q : Asked) (s : Position) (o : Outcome (List Node)) → none_asked q ≡ true → Reads q (unless_on s o)
reads_unless q s (read xs u) e = reads_no q u.failed
reads_unless q s (fails n) e = reads_this q [] (record { place = s.place; failed = n }) (given_none q e)
reads_unless q s (too_deep n) e = reads_none q n

reads_marked : (q : Asked) (b : Bool) (p : Reading (List Node)) (s : Position) → Reads q (p s) → Reads q (reading.marked b p s)
reads_marked q true p s h = h
reads_marked q false p s h = reads_no q s.failed

reads_same_line : (q : Asked) (s : Position) (blanks : Skipped) → none_asked q ≡ true → Reads q (same_line_on s blanks)
reads_same_line q s blanks e = go blanks.new_line
  where
    go : (b : Bool) → Reads q (cond b (fails (max s.failed blanks.to)) (read [] s))
    go true = reads_no q (max s.failed blanks.to)
    go false = reads_this q [] s (given_none q e)

reads_then : (q : Asked) (f : Token → Reading (List Node)) (o : Outcome Token) → ((k : Token) (s : Position) → Reads q (f k s)) → Reads q (then_on f o)
reads_then q f (read k u) h = h k u
reads_then q f (fails n) h = reads_no q n
reads_then q f (too_deep n) h = reads_none q n

reads_built : (q : Asked) (form : Form) (lo : ℕ) (o : Outcome (List Node)) → is_one q ≡ true → Reads (needs form (of_one q)) o → Reads q (built_on form lo o)
reads_built q form lo (read xs u) e h = reads_this q (made form lo u.place xs ∷ []) u (given_one q (made form lo u.place xs) e (form_made form (of_one q) lo u.place xs (h xs u refl)))
reads_built q form lo (fails n) e h = reads_no q n
reads_built q form lo (too_deep n) e h = reads_none q n

-- a private name and the part of its chain
private_chain : (x : Node) (ys : List Node) → HasRawRole role.Private x → MeetAll (before role.Private role.Free ∷ []) ys → Chained (x ∷ ys)
private_chain x [] h m = absurd m
private_chain x (n ∷ []) h m = (in_front x n, refl, m.0 x h)
private_chain x (n ∷ z ∷ zs) h m = absurd m.1

module _ (text : List ℕ) (mode : Mode) where
  abbrev PartsKeep : Parts text → Type 0
  PartsKeep parts = (u : Part) (n : ℕ) (s : Position) → Reads (part_keeps u) (parts u n s)

  reads_part : (q : Asked) (u : Part) (o : Outcome (List Node)) → all_given (part_keeps u) q ≡ true → Reads (part_keeps u) o → Reads q o
  reads_part q u o e h xs t r = given_wider (part_keeps u) q xs e (h xs t r)

  reads_leaf : (l : Leaf) (q : Asked) (s : Position) → (is_one q ≡ true) × (leaf_meets l (of_one q) ≡ true) → Reads q (kept_leaf text l s)
  reads_leaf l q s e xs t r = let x = leaf_meets_ask text l (of_one q) e.1 s t xs r in subst (Given q) (sym x.1) (given_one q x.0 e.0 x.2)

  module _ (parts : Parts text) (h : PartsKeep parts) where
    abbrev R : Grammar → Reading (List Node)
    R = reads text mode parts

    -- a key that is a word ahead, and what stands behind it
    reads_word : (w : List ℕ) (g : Grammar) (qs : List Ask) → bytes_eq w (codes "global") ≡ true → ((s : Position) → Reads (these qs) (R g s)) → (s : Position)
        → Reads (these (free ∷ qs)) (followed_on (R (grammar.◌▸◌ (grammar.keep leaf.KeyIdent) g)) (R (grammar.ahead (grammar.take (grammar.the_word w))) s))
    reads_word w g qs is k s =
        let word : w ≡ codes "global" = (bytes_eq-Decides w (codes "global")).0 is in
        let fine : is_reserved w ≡ false = subst (λ z. is_reserved z ≡ false) (sym word) global_free in
        reads_behind (these (free ∷ qs)) (R (grammar.◌▸◌ (grammar.keep leaf.KeyIdent) g)) (R (grammar.ahead (grammar.take (grammar.the_word w))) s)
        (λ xs u e.
        (let a = key_after text w fine s u xs e in
        subst (λ z. Reads (these (free ∷ qs)) (with_front z (R (grammar.◌▸◌ (grammar.keep leaf.KeyIdent) g) u))) (sym a.0)
        (reads_front (these (free ∷ qs)) (these (free ∷ qs)) [] (λ ys m. m) (R (grammar.◌▸◌ (grammar.keep leaf.KeyIdent) g) u)
        (reads_behind (these (free ∷ qs)) (R g) (kept_leaf text leaf.KeyIdent u)
        (λ ys v f.
        (let b = a.1 v ys f in
        subst (λ z. Reads (these (free ∷ qs)) (with_front z (R g v))) (sym b.1) (reads_front (these qs) (these (free ∷ qs)) (b.0 ∷ []) (λ zs m. (b.2, m)) (R g v) (k v))))))))

    reads_private : (g : Grammar) → ((s : Position) → Reads (these (before role.Private role.Free ∷ [])) (R g s)) → (s : Position) → Reads chain (followed_on (R g) (R (grammar.keep leaf.PrivateName) s))
    reads_private g k s =
        reads_behind chain (R g) (kept_leaf text leaf.PrivateName s)
        (λ ys v f.
        (let b = private_leaf text s v ys f in
        subst (λ z. Reads chain (with_front z (R g v))) (sym b.1) (reads_front (these (before role.Private role.Free ∷ [])) chain (b.0 ∷ []) (λ zs m. private_chain b.0 zs b.2 m) (R g v) (k v))))

    as_asked : (g : Grammar) (q : Asked) → keeps g q ≡ true → (s : Position) → Reads q (R g s)
    as_asked (grammar.◌▸◌ (grammar.ahead (grammar.take (grammar.the_word w))) (grammar.◌▸◌ (grammar.keep leaf.KeyIdent) g)) (these (at role.Free ∷ qs)) e s =
        let t = two (bytes_eq w (codes "global")) (keeps g (these qs)) e in reads_word w g qs t.0 (as_asked g (these qs) t.1) s
    as_asked (grammar.◌▸◌ (grammar.keep leaf.PrivateName) g) chain e s = reads_private g (as_asked g (these (before role.Private role.Free ∷ [])) e) s
    as_asked grammar.nothing q e s = reads_this q [] s (given_none q e)
    as_asked grammar.same_line q e s = reads_same_line q s (skipped text s.place) e
    as_asked (grammar.take t) q e s = reads_then q (λ k. pure []) (token text t s) (λ k u. reads_this q [] u (given_none q e))
    as_asked (grammar.keep l) q e s = reads_leaf l q s (two (is_one q) (leaf_meets l (of_one q)) e)
    as_asked (grammar.put f) q e s = let w = two (is_one q) (flag_meets f (of_one q)) e in reads_this q (flag_node f ∷ []) s (given_one q (flag_node f) w.0 (flag_meets_ask f (of_one q) w.1))
    as_asked (grammar.◌▸◌ b c) q e s =
        let w = two (keeps b (first_part (width b) q)) (keeps c (second_part (width b) q)) e in
        reads_followed (width b) q (R c) (R b s) (as_asked b (first_part (width b) q) w.0 s) (as_asked c (second_part (width b) q) w.1)
    as_asked (grammar.◌//◌ b c) q e s = let w = two (keeps b q) (keeps c q) e in reads_or q (R c) s (R b s) (as_asked b q w.0 s) (as_asked c q w.1)
    as_asked (grammar.many b) q e s = let w = two (keeps b (of_many q)) (none_asked q) e in reads_many q (R b) w.1 (as_asked b (of_many q) w.0) (length text + 1) s
    as_asked (grammar.ahead b) q e s = reads_ahead q s (R b s) e
    as_asked (grammar.unless grammar.nothing) q e s = reads_no q s.failed
    as_asked (grammar.unless b) q e s = reads_unless q s (R b s) e
    as_asked (grammar.marked b) q e s = reads_marked q mode.typescript (R b) s (as_asked b q e s)
    as_asked (grammar.assigned b) q e s = reads_marked q mode.assignments (R b) s (as_asked b q e s)
    as_asked (grammar.up u) q e s = reads_part q u (parts u s.place s) e (h u s.place s)
    as_asked (grammar.enter u) q e s = reads_part q u (parts u (next_start text s) s) e (h u (next_start text s) s)
    as_asked (grammar.behind t u) q e s = reads_then q (λ k. parts u k.start) (token text t s) (λ k v. reads_part q u (parts u k.start v) e (h u k.start v))
    as_asked (grammar.build f b) q e s = let w = two (is_one q) (keeps b (needs f (of_one q))) e in reads_built q f (next_start text s) (R b s) w.0 (as_asked b (needs f (of_one q)) w.1 s)

  levels_keep : (n : ℕ) → PartsKeep (levels text mode n)
  unfolding levels_by
  levels_keep zero u m s = reads_none (part_keeps u) m
  levels_keep (suc n) u m s = as_asked (levels text mode n) (levels_keep n) (part_body u) (part_keeps u) (part_kept u) s

  one_placed : (o : Outcome (List Node)) → Reads (these (free ∷ [])) o → (tree : Node) → answer_of o ≡ Ok tree → HasRawRole role.Free tree
  one_placed (read xs u) h tree e = go xs (h xs u refl) e
    where
      go : (xs : List Node) → Given (these (free ∷ [])) xs → answer_of (read xs u) ≡ Ok tree → HasRawRole role.Free tree
      go [] m r = absurd m
      go (x ∷ []) m r = let is : x ≡ tree = cc in subst (HasRawRole role.Free) is m.0
      go (x ∷ y ∷ ys) m r = absurd m.1
  one_placed (fails n) h tree e = cc
  one_placed (too_deep n) h tree e = cc

pub modules_placed : (text : List ℕ) (mode : Mode) (bound : ℕ) (raw : Node) → answer_of (reads_module text mode bound) ≡ Ok raw → HasRawRole role.Free raw
modules_placed text mode bound raw e =
    one_placed text mode (reads_module text mode bound)
    (as_asked text mode (levels text mode bound) (levels_keep text mode bound) module_body (these (free ∷ [])) module_keeps (record { place = 0; failed = 0 })) raw e
