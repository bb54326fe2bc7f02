-- Parts that move on, and how often they stand.
use Rattle.std.proofs.Common.{◌≡◌, ℕ, zero, suc, ◌+◌, ◌-◌, ◌<◌, ◌≤◌, Bool, true, false, cond, List, [], ◌∷◌, length, drop, refl, sym, ◌∙◌, subst, arith, nat_eq, Option, Some, None, is_some, length-drop}
use Rattle.std.specs.Char.{len_utf8}
use Rattle.std.specs.List.{slice_get}
use Rattle.std.specs.Str.{chars}
use Rattle.std.proofs.lemmas.Str.{len_utf8_bounds, chars-nil}
use Rattle.ecma_lex.specs.Text.{after, cuts}
use Rattle.ecma_lex.specs.Parts.{Part, char_at, passes, passing, code_point, any, then_at, ◌>>◌, or_at, ◌//◌, nothing, maybe, unless, at_most, many, up_to}

-- what a step of a part comes to

pub none_some : {A : Type 0} {j : ℕ} → ◌≡◌ {A = Option ℕ} None (Some j) → A
none_some h = cc

module _ (text : List ℕ) where
  -- a part ends nowhere before it begins
  pub record Forward (p : Part) : Type 0 where
    pub on : (i j : ℕ) → p text i ≡ Some j → i ≤ j

  -- a part takes a byte at least, of the text
  pub record Moves (p : Part) : Type 0 where
    pub on : (i j : ℕ) → p text i ≡ Some j → i < j
    pub within : (i j : ℕ) → p text i ≡ Some j → i < length text

  pub moves_forward : {p : Part} → Moves p → Forward p
  moves_forward m = record { on = λ i j h. (let l = m.on i j h in omega arith) }

  -- a character takes a byte at least
  pub char_within : (i c : ℕ) → char_at text i ≡ Some c → i < length text
  unfolding after
  char_within i c h = go (cuts text i) (drop i text) (length-drop i text) h
    where
      go : (b : Bool) (l : List ℕ) → length l ≡ length text - i → slice_get (cond b (chars l) []) 0 ≡ Some c → i < length text
      go true [] n k = none_some (subst (λ (l : List ℕ). slice_get l 0 ≡ Some c) chars-nil k)
      go true (x ∷ xs) n k = omega arith
      go false l n k = none_some k

  passes_on : (p : ℕ → Bool) (i j : ℕ) (o : Option ℕ) → char_at text i ≡ o → passes p i o ≡ Some j → (i < j) × (i < length text)
  passes_on p i j None e h = none_some h
  passes_on p i j (Some c) e h = go (p c) h
    where
      go : (b : Bool) → cond b (Some (i + len_utf8 c)) None ≡ Some j → (i < j) × (i < length text)
      go true k = let some = (len_utf8_bounds c).0 in let l = char_within i c e in let n : i + len_utf8 c ≡ j = cc in (omega arith, l)
      go false k = none_some k

  pub moves_passing : (p : ℕ → Bool) → Moves (passing p)
  moves_passing p = record { on = λ i j h. (passes_on p i j (char_at text i) refl h).0; within = λ i j h. (passes_on p i j (char_at text i) refl h).1 }

  -- the place between two parts
  pub between : (q : Part) (o : Option ℕ) (j : ℕ) → then_at q text o ≡ Some j → (k : ℕ) × (o ≡ Some k) × (q text k ≡ Some j)
  between q None j h = none_some h
  between q (Some k) j h = (k, refl, h)

  pub moves_then : {p q : Part} → Moves p → Forward q → Moves (p >> q)
  moves_then {p} {q} m f = record {
    on = λ i j h. (let k = between q (p text i) j h in let a = m.on i k.0 k.1 in let b = f.on k.0 j k.2 in omega arith);
    within = λ i j h. (let k = between q (p text i) j h in m.within i k.0 k.1);
  }

  pub forward_then : {p q : Part} → Forward p → Forward q → Forward (p >> q)
  forward_then {p} {q} m f = record { on = λ i j h. (let k = between q (p text i) j h in let a = m.on i k.0 k.1 in let b = f.on k.0 j k.2 in omega arith) }

  -- one of two parts stands
  pub either : {A : Type 0} (p q : Part) (i j : ℕ) → (p text i ≡ Some j → A) → (q text i ≡ Some j → A) → (p // q) text i ≡ Some j → A
  either {A} p q i j f g h = go (p text i) refl h
    where
      go : (o : Option ℕ) → p text i ≡ o → or_at q text i o ≡ Some j → A
      go None e k = g k
      go (Some n) e k = f (e ∙ k)

  pub moves_or : {p q : Part} → Moves p → Moves q → Moves (p // q)
  moves_or {p} {q} m n = record { on = λ i j h. either p q i j (m.on i j) (n.on i j) h; within = λ i j h. either p q i j (m.within i j) (n.within i j) h }

  pub forward_or : {p q : Part} → Forward p → Forward q → Forward (p // q)
  forward_or {p} {q} m n = record { on = λ i j h. either p q i j (m.on i j) (n.on i j) h }

  pub forward_nothing : Forward nothing
  forward_nothing = record { on = λ i j h. (let e : i ≡ j = cc in omega arith) }

  pub forward_maybe : {p : Part} → Forward p → Forward (maybe p)
  forward_maybe f = forward_or f forward_nothing

  -- what stands unless another part does, stands, and the other does not
  pub unless_parts : (p q : Part) (i j : ℕ) → unless p q text i ≡ Some j → (p text i ≡ None) × (q text i ≡ Some j)
  unless_parts p q i j h = go (p text i) refl h
    where
      go : (o : Option ℕ) → p text i ≡ o → cond (is_some o) None (q text i) ≡ Some j → (p text i ≡ None) × (q text i ≡ Some j)
      go None e k = (e, k)
      go (Some n) e k = none_some k

  pub moves_unless : (p : Part) {q : Part} → Moves q → Moves (unless p q)
  moves_unless p {q} m = record { on = λ i j h. m.on i j (unless_parts p q i j h).1; within = λ i j h. m.within i j (unless_parts p q i j h).1 }

  pub unless_stands : (p q : Part) (i j : ℕ) → p text i ≡ None → q text i ≡ Some j → unless p q text i ≡ Some j
  unless_stands p q i j e h = rw (e, h) refl

  pub unless_refused : (p q : Part) (i j : ℕ) → p text i ≡ Some j → unless p q text i ≡ None
  unless_refused p q i j e = rw e refl

  pub unless_none : (p q : Part) (i : ℕ) → p text i ≡ None → q text i ≡ None → unless p q text i ≡ None
  unless_none p q i e h = rw (e, h) refl

  pub unless_passes : (p q : Part) (i : ℕ) → p text i ≡ None → unless p q text i ≡ q text i
  unless_passes p q i e = rw e refl

  -- steps of sequences and choices

  pub then_some : (p q : Part) (i j : ℕ) → p text i ≡ Some j → (p >> q) text i ≡ q text j
  then_some p q i j e = rw e refl

  pub then_none : (p q : Part) (i : ℕ) → p text i ≡ None → (p >> q) text i ≡ None
  then_none p q i e = rw e refl

  pub or_first : (p q : Part) (i j : ℕ) → p text i ≡ Some j → (p // q) text i ≡ Some j
  or_first p q i j e = rw e refl

  pub or_second : (p q : Part) (i : ℕ) → p text i ≡ None → (p // q) text i ≡ q text i
  or_second p q i e = rw e refl

  pub or_only : (p q : Part) (i : ℕ) → q text i ≡ None → (p // q) text i ≡ p text i
  or_only p q i e = go (p text i)
    where
      go : (o : Option ℕ) → or_at q text i o ≡ o
      go None = e
      go (Some j) = refl

  -- how often a part stands

  at_most_stands : (p : Part) (n i : ℕ) → (k : ℕ) × (at_most n p text i ≡ Some k)
  unfolding at_most
  at_most_stands p zero i = (i, refl)
  at_most_stands p (suc n) i = go (p text i) (at_most_stands p n)
    where
      go : (o : Option ℕ) → ((j : ℕ) → (k : ℕ) × (at_most n p text j ≡ Some k)) → (k : ℕ) × (or_at nothing text i (then_at (at_most n p) text o) ≡ Some k)
      go None f = (i, refl)
      go (Some j) f = let e = (f j).1 in ((f j).0, rw e refl)

  at_most_none : (p : Part) (n i : ℕ) → p text i ≡ None → at_most n p text i ≡ Some i
  unfolding at_most
  at_most_none p zero i h = refl
  at_most_none p (suc n) i h = rw h refl

  at_most_some : (p : Part) (n i j : ℕ) → p text i ≡ Some j → at_most (suc n) p text i ≡ at_most n p text j
  unfolding at_most
  at_most_some p n i j h = let e = (at_most_stands p n j).1 in rw (h, e) refl

  -- a part that moves on does not stand at the end of the text
  none_at_end : (p : Part) → Moves p → (i : ℕ) → length text ≤ i → p text i ≡ None
  none_at_end p v i l = go (p text i) refl
    where
      go : (o : Option ℕ) → p text i ≡ o → p text i ≡ None
      go None e = e
      go (Some j) e = absurd (let m = v.within i j e in omega arith)

  -- once the bound is as far as the text goes, it does not matter
  enough : (p : Part) → Moves p → (n m i : ℕ) → length text ≤ n + i → length text ≤ m + i → at_most n p text i ≡ at_most m p text i
  enough p v zero m i a b = let e = none_at_end p v i (omega arith) in at_most_none p zero i e ∙ sym (at_most_none p m i e)
  enough p v (suc n) zero i a b = let e = none_at_end p v i (omega arith) in at_most_none p (suc n) i e ∙ sym (at_most_none p zero i e)
  enough p v (suc n) (suc m) i a b = go (p text i) refl (enough p v n m)
    where
      go : (o : Option ℕ) → p text i ≡ o → ((j : ℕ) → length text ≤ n + j → length text ≤ m + j → at_most n p text j ≡ at_most m p text j) → at_most (suc n) p text i ≡ at_most (suc m) p text i
      go None e f = at_most_none p (suc n) i e ∙ sym (at_most_none p (suc m) i e)
      go (Some j) e f = let l = v.on i j e in at_most_some p n i j e ∙ f j (omega arith) (omega arith) ∙ sym (at_most_some p m i j e)

  -- many always stands
  pub many_stands : (p : Part) (i : ℕ) → (k : ℕ) × (many p text i ≡ Some k)
  unfolding many
  many_stands p i = at_most_stands p (length text) i

  -- where the part does not stand, it stands no more
  pub many_none : (p : Part) (i : ℕ) → p text i ≡ None → many p text i ≡ Some i
  unfolding many
  many_none p i h = at_most_none p (length text) i h

  -- where it stands once, the others stand behind it
  pub many_some : (p : Part) → Moves p → (i j : ℕ) → p text i ≡ Some j → many p text i ≡ many p text j
  unfolding many
  many_some p v i j h =
      let a = v.on i j h in
      enough p v (length text) (suc (length text)) i (omega arith) (omega arith) ∙ at_most_some p (length text) i j h

  zero_stays : (p : Part) (i k : ℕ) → at_most zero p text i ≡ Some k → i ≡ k
  unfolding at_most
  zero_stays p i k h = cc

  at_most_along : (p : Part) (P : ℕ → Type 0) → ((i j : ℕ) → P i → p text i ≡ Some j → P j) → (n i k : ℕ) → P i → at_most n p text i ≡ Some k → P k
  at_most_along p P step zero i k a h = let same : i ≡ k = zero_stays p i k h in subst P same a
  at_most_along p P step (suc n) i k a h = go (p text i) refl (at_most_along p P step n)
    where
      go : (o : Option ℕ) → p text i ≡ o → ((i k : ℕ) → P i → at_most n p text i ≡ Some k → P k) → P k
      go None e f = let x = at_most_none p (suc n) i e in let same : i ≡ k = cc in subst P same a
      go (Some j) e f = f j k (step i j a e) (sym (at_most_some p n i j e) ∙ h)

  -- what each of them keeps, many keep
  pub many_along : (p : Part) (P : ℕ → Type 0) → ((i j : ℕ) → P i → p text i ≡ Some j → P j) → (i k : ℕ) → P i → many p text i ≡ Some k → P k
  unfolding many
  many_along p P step i k a h = at_most_along p P step (length text) i k a h

  pub forward_many : {p : Part} → Forward p → Forward (many p)
  forward_many {p} f = record { on = λ i k h. many_along p (λ n. i ≤ n) (λ a b l e. (let m = f.on a b e in omega arith)) i k (omega arith) h }

  at_most_ends : (p : Part) → Moves p → (n i k : ℕ) → length text ≤ n + i → at_most n p text i ≡ Some k → p text k ≡ None
  at_most_ends p v zero i k a h = let e = none_at_end p v i (omega arith) in let x = at_most_none p zero i e in let same : i ≡ k = cc in subst (λ x. p text x ≡ None) same e
  at_most_ends p v (suc n) i k a h = go (p text i) refl (at_most_ends p v n)
    where
      go : (o : Option ℕ) → p text i ≡ o → ((i k : ℕ) → length text ≤ n + i → at_most n p text i ≡ Some k → p text k ≡ None) → p text k ≡ None
      go None e f = let x = at_most_none p (suc n) i e in let same : i ≡ k = cc in subst (λ x. p text x ≡ None) same e
      go (Some j) e f = let l = v.on i j e in f j k (omega arith) (sym (at_most_some p n i j e) ∙ h)

  -- the part does not stand where many of it end: the bound is never what ends it
  pub many_ends : (p : Part) → Moves p → (i k : ℕ) → many p text i ≡ Some k → p text k ≡ None
  unfolding many
  many_ends p v i k h = at_most_ends p v (length text) i k (omega arith) h

  -- characters before a part

  pub moves_any : Moves any
  moves_any = moves_passing (λ c. true)

  pub up_to_none : (p : Part) (i j : ℕ) → p text i ≡ Some j → up_to p text i ≡ Some i
  up_to_none p i j h = many_none (unless p any) i (unless_refused p any i j h)

  pub up_to_some : (p : Part) (i j : ℕ) → p text i ≡ None → any text i ≡ Some j → up_to p text i ≡ up_to p text j
  up_to_some p i j h k = many_some (unless p any) (moves_unless p moves_any) i j (unless_stands p any i j h k)

  pub up_to_end : (p : Part) (i : ℕ) → p text i ≡ None → any text i ≡ None → up_to p text i ≡ Some i
  up_to_end p i h k = many_none (unless p any) i (unless_none p any i h k)

  -- characters that pass

  pub passing_stands : (p : ℕ → Bool) (i c : ℕ) (cs : List ℕ) → after text i ≡ c ∷ cs → p c ≡ true → passing p text i ≡ Some (i + len_utf8 c)
  passing_stands p i c cs e h = rw (e, h) refl

  pub passing_fails : (p : ℕ → Bool) (i c : ℕ) (cs : List ℕ) → after text i ≡ c ∷ cs → p c ≡ false → passing p text i ≡ None
  passing_fails p i c cs e h = rw (e, h) refl

  pub passing_end : (p : ℕ → Bool) (i : ℕ) → after text i ≡ [] → passing p text i ≡ None
  passing_end p i e = rw e refl

  pub any_stands : (i c : ℕ) (cs : List ℕ) → after text i ≡ c ∷ cs → any text i ≡ Some (i + len_utf8 c)
  any_stands i c cs e = rw e refl

  pub code_point_fails : (c d : ℕ) (i : ℕ) (cs : List ℕ) → after text i ≡ d ∷ cs → nat_eq d c ≡ false → code_point c text i ≡ None
  code_point_fails c d i cs e h = passing_fails (λ x. nat_eq x c) i d cs e h

  pub code_point_stands : (c i : ℕ) (cs : List ℕ) → after text i ≡ c ∷ cs → code_point c text i ≡ Some (i + len_utf8 c)
  code_point_stands c i cs e = passing_stands (λ x. nat_eq x c) i c cs e (let h : nat_eq c c ≡ true = grind arith in h)

  pub code_point_end : (c i : ℕ) → after text i ≡ [] → code_point c text i ≡ None
  code_point_end c i e = passing_end (λ x. nat_eq x c) i e
