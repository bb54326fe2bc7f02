-- What no scope around catches, and that names which share a text are then one.
use Rattle.std.proofs.Common.{◌≡◌, ◌⊎◌, inl, inr, ℕ, refl, sym, ap, ◌∙◌, List, [], ◌∷◌, ◌++◌, Bool, true, false, cond, append_assoc}
use Rattle.ecma_hygiene.specs.Capture.{IsNotCaptured, NoneDeclares, Writes}
use Rattle.ecma_hygiene.specs.Ids.{Id as HygieneId, Scope, has_context, innermost}
use Rattle.ecma_hygiene.specs.Renamed.{Texts, text_of}
use Rattle.ecma_hygiene.proofs.Telling.{true-false}
use Rattle.ecma_runs.specs.State.{Id}
use Rattle.ecma_runs.specs.Environment.{is_among}
use Rattle.ecma_runs.specs.Meeting.{catches_none}
use Rattle.ecma_hygiene_meeting.specs.Records.{declares_id}
use Rattle.ecma_hygiene_meeting.specs.Texts.{KeepsFreeApart, TellsItsNames, sent, written}
use Rattle.ecma_hygiene_meeting.proofs.Among.{catches-true}

-- ---- scopes with one more further in

none-push : (xs : List Scope) (own : Scope) (p : HygieneId) → NoneDeclares xs p → has_context p.1 (own p.0) ≡ false → NoneDeclares (xs ++ own ∷ []) p
none-push [] own p none e = (e, tt)
none-push (x ∷ xs) own p none e = (none.0, none-push xs own p none.1 e)

none-last : (xs : List Scope) (own : Scope) (p : HygieneId) → NoneDeclares (xs ++ own ∷ []) p → has_context p.1 (own p.0) ≡ false
none-last [] own p none = none.0
none-last (x ∷ xs) own p none = none-last xs own p none.1

none-inner : (x : Scope) (xs : List Scope) (own : Scope) (p : HygieneId) → NoneDeclares (x ∷ (xs ++ own ∷ [])) p → has_context p.1 (innermost (x ∷ xs) p.0) ≡ false
none-inner x [] own p none = none.0
none-inner x (y ∷ xs) own p none = none-inner y xs own p none.1

pub innermost-last : (xs : List Scope) (own : Scope) → innermost (xs ++ own ∷ []) ≡ own
innermost-last [] own = refl
innermost-last (x ∷ []) own = refl
innermost-last (x ∷ y ∷ xs) own = innermost-last (y ∷ xs) own

module _ (texts : Texts) (free : ℕ) where
  -- no scope that stands further in than the one which declares an id, and where none declares it no scope, has a binding that is written as the id is
  abbrev pub Clear : List Scope → Id → Type 0
  Clear [] id = Unit {0}
  Clear (scope ∷ scopes) id = (NoneDeclares (scope ∷ scopes) (id.sym, id.ctxt) → Writes texts scope (written texts id) → ⊥) × Clear scopes id

  -- where none declares it, it is free
  abbrev pub MayBeFree : List Scope → Id → Type 0
  MayBeFree scopes id = NoneDeclares scopes (id.sym, id.ctxt) → id.ctxt ≡ free

  -- an id that is looked up in these scopes: one of no variable, or one that none of them catches
  abbrev pub Known : List Scope → Id → Type 0
  Known scopes id = (id.ctxt ≡ 0) ⊎ (Clear scopes id × MayBeFree scopes id)

  clear-out : (xs : List Scope) (own : Scope) (id : Id) → declares_id own id ≡ false → Clear (xs ++ own ∷ []) id → Clear xs id
  clear-out [] own id e h = tt
  clear-out (x ∷ xs) own id e h = ((λ none w. h.0 (none.0, none-push xs own (id.sym, id.ctxt) none.1 e) w), clear-out xs own id e h.1)

  clear-own : (xs : List Scope) (own : Scope) (id : Id) → declares_id own id ≡ true → Clear (xs ++ own ∷ []) id
  clear-own [] own id e = ((λ none w. true-false e none.0), tt)
  clear-own (x ∷ xs) own id e = ((λ none w. true-false e (none-last xs own (id.sym, id.ctxt) none.1)), clear-own xs own id e)

  clear-parameter : (xs : List Scope) (own : Scope) (id : Id) → declares_id (innermost xs) id ≡ true → (Writes texts own (written texts id) → ⊥) → Clear (xs ++ own ∷ []) id
  clear-parameter [] own id e never = ((λ none w. never w), tt)
  clear-parameter (x ∷ []) own id e never = ((λ none w. true-false e none.0), ((λ none w. never w), tt))
  clear-parameter (x ∷ y ∷ xs) own id e never = ((λ none w. true-false e (none-inner y xs own (id.sym, id.ctxt) none.1)), clear-parameter (y ∷ xs) own id e never)

  free-parameter : (xs : List Scope) (own : Scope) (id : Id) → declares_id (innermost xs) id ≡ true → MayBeFree (xs ++ own ∷ []) id
  free-parameter [] own id e none = absurd (true-false e refl)
  free-parameter (x ∷ xs) own id e none = absurd (true-false e (none-inner x xs own (id.sym, id.ctxt) none))

  -- what a scope does not declare is known around it
  pub known-out : (xs : List Scope) (own : Scope) (id : Id) → declares_id own id ≡ false → Known (xs ++ own ∷ []) id → Known xs id
  known-out xs own id e (inl z) = inl z
  known-out xs own id e (inr h) = inr (clear-out xs own id e h.0, (λ none. h.1 (none-push xs own (id.sym, id.ctxt) none e)))

  -- what it declares is known in it
  pub known-own : (xs : List Scope) (own : Scope) (id : Id) → declares_id own id ≡ true → Known (xs ++ own ∷ []) id
  known-own xs own id e = inr (clear-own xs own id e, (λ none. absurd (true-false e (none-last xs own (id.sym, id.ctxt) none))))

  -- and in a body what the parameters declare
  pub known-parameter : (xs : List Scope) (own : Scope) (id : Id) → declares_id (innermost xs) id ≡ true → (Writes texts own (written texts id) → ⊥) → Known (xs ++ own ∷ []) id
  known-parameter xs own id e never = inr (clear-parameter xs own id e never, free-parameter xs own id e)

  -- so it is of an identifier that is not captured
  pub clear-from : (all : List Scope) (id : Id) → IsNotCaptured texts (record { name = (id.sym, id.ctxt); scopes = all }) → (outer xs : List Scope) → all ≡ outer ++ xs → Clear xs id
  clear-from all id h outer [] e = tt
  clear-from all id h outer (x ∷ xs) e = ((λ none w. h outer x xs e none w), clear-from all id h (outer ++ x ∷ []) xs (e ∙ sym (append_assoc outer (x ∷ []) xs)))

  -- ---- scopes that tell their names

  abbrev pub Tells : List Scope → Type 0
  Tells [] = Unit {0}
  Tells (x ∷ xs) = TellsItsNames texts x × Tells xs

  pub tells-push : (xs : List Scope) (own : Scope) → Tells xs → TellsItsNames texts own → Tells (xs ++ own ∷ [])
  tells-push [] own t h = (h, tt)
  tells-push (x ∷ xs) own t h = (t.0, tells-push xs own t.1 h)

  pub tells-child : (b : Bool) (xs : List Scope) (own : Scope) → Tells xs → (b ≡ true → TellsItsNames texts own) → Tells (cond b (xs ++ own ∷ []) xs)
  tells-child true xs own t h = tells-push xs own t (h refl)
  tells-child false xs own t h = t

  pub tells-inner : (xs : List Scope) → Tells xs → TellsItsNames texts (innermost xs)
  tells-inner [] t = λ a b ea eb same. absurd (true-false ea refl)
  tells-inner (x ∷ []) t = t.0
  tells-inner (x ∷ y ∷ xs) t = tells-inner (y ∷ xs) t.1

  -- two names with one text that are clear in the same scopes are one, unless both are free
  unique : (xs : List Scope) → Tells xs → (a b : Id) → Clear xs a → Clear xs b → written texts a ≡ written texts b
      → (NoneDeclares xs (a.sym, a.ctxt) → NoneDeclares xs (b.sym, b.ctxt) → a ≡ b) → a ≡ b
  unique [] t a b ca cb same none = none tt tt
  unique (x ∷ xs) t a b ca cb same none = unique xs t.1 a b ca.1 cb.1 same (λ na nb. here (declares_id x a) (declares_id x b) refl refl na nb)
    where
      here : (p q : Bool) → declares_id x a ≡ p → declares_id x b ≡ q → NoneDeclares xs (a.sym, a.ctxt) → NoneDeclares xs (b.sym, b.ctxt) → a ≡ b
      here true true ea eb na nb = t.0 a b ea eb same
      here true false ea eb na nb = absurd (cb.0 (eb, nb) (record { binding = (a.sym, a.ctxt); declared = ea; is = same }))
      here false true ea eb na nb = absurd (ca.0 (ea, na) (record { binding = (b.sym, b.ctxt); declared = eb; is = sym same }))
      here false false ea eb na nb = none (ea, na) (eb, nb)

  -- ---- with one map of contexts

  -- what is written as it is, in these contexts
  abbrev pub StaysAt : ℕ → Type 0
  StaysAt ctxt = (text : List ℕ) → text_of texts (text, ctxt) ≡ text

  pub one-at : (ctxt : ℕ) → StaysAt ctxt → (a b : Id) → a.ctxt ≡ ctxt → b.ctxt ≡ ctxt → written texts a ≡ written texts b → a ≡ b
  one-at ctxt stays a b ea eb same =
      let text : a.sym ≡ b.sym = sym (stays a.sym) ∙ ap (λ z. text_of texts (a.sym, z)) (sym ea) ∙ same ∙ ap (λ z. text_of texts (b.sym, z)) eb ∙ stays b.sym in
      let ctxts : a.ctxt ≡ b.ctxt = ea ∙ sym eb in
      λ i. record { sym = text i; ctxt = ctxts i }

  module _ (onto : ℕ → ℕ) (keeps : KeepsFreeApart onto free) (empty : StaysAt 0) (own_free : StaysAt free) where
    -- names that are known in the same scopes and become one are one
    pub one : (xs : List Scope) → Tells xs → (a b : Id) → Known xs a → Known xs b → sent onto texts a ≡ sent onto texts b → a ≡ b
    one xs t a b (inl za) kb e =
        let ctxts : onto b.ctxt ≡ onto 0 = sym (ap (λ z. z.ctxt) e) ∙ ap onto za in one-at 0 empty a b za (keeps.empty b.ctxt ctxts) (ap (λ z. z.sym) e)
    one xs t a b (inr ca) (inl zb) e =
        let ctxts : onto a.ctxt ≡ onto 0 = ap (λ z. z.ctxt) e ∙ ap onto zb in one-at 0 empty a b (keeps.empty a.ctxt ctxts) zb (ap (λ z. z.sym) e)
    one xs t a b (inr ca) (inr cb) e =
        unique xs t a b ca.0 cb.0 (ap (λ z. z.sym) e) (λ na nb. one-at free own_free a b (ca.1 na) (cb.1 nb) (ap (λ z. z.sym) e))

    -- so in a record whose names are known, what is looked up is not caught
    pub catches-known : (xs : List Scope) → Tells xs → (ids inner : List Id) → ((id : Id) → is_among id ids ≡ true → Known xs id) → ((id : Id) → is_among id inner ≡ true → Known xs id)
        → catches_none (sent onto texts) ids inner ≡ true
    catches-known xs t ids inner names looks = catches-true (sent onto texts) ids inner (λ id other i o e. one xs t other id (names other o) (looks id i) e)
