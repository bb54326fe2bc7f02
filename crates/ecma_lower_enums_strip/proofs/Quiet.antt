-- Kinds at which something is written, and where nothing is.
use Rattle.std.proofs.Common.{◌≡◌, ◌∙◌, ◌⊎◌, inl, inr, ℕ, Bool, ◌||◌, ◌==◌, true, false, ◌&&◌, not, cond, refl, sym, ap, ap₂, subst, List, [], ◌∷◌, map, None}
use Rattle.std.proofs.lemmas.Bool.{eqb-true}
use Rattle.ecma_kind.specs.Sorts.{is_decl, is_type_wrapper}
use Rattle.ecma_kind.specs.declared.kind.Kind.{Kind}
use Rattle.ecma_kind.specs.declared.kind.Kind.TheVariants as kind
use Rattle.ecma_kind.specs.declared.span.Span.{Span}
use Rattle.ecma_tree.specs.Nodes.{node_of}
use Rattle.ecma_tree.specs.declared.node.Node.{Node}
use Rattle.ecma_strip.specs.Stripping.{plain_kind}
use Rattle.ecma_rewriting.specs.Rewriting.{only, over_ones}
use Rattle.ecma_strip_rewriting.specs.Commuting as rewriting
use Rattle.ecma_strip_rewriting.specs.Commuting.{DoesElseNothing, is_body_at, is_settled}
use Rattle.ecma_strip_rewriting.proofs.PlainKinds.{no}
use Rattle.ecma_lower_enums.specs.declared.form.Form.TheVariants as form
use Rattle.ecma_lower_enums.specs.declared.known.KnownEnums.{KnownEnums}
use Rattle.ecma_lower_enums.specs.declared.place.Place.{Place}
use Rattle.ecma_lower_enums.specs.declared.place.Place.TheVariants as place
use Rattle.ecma_lower_enums.specs.Places.{is_left, is_raw, is_variables, place_in}
use Rattle.ecma_lower_enums.specs.Seats.{Seat, around_at, place_at, seat_at}
use Rattle.ecma_lower_enums.specs.Writing.{answer_by, answered, done, done_by, form_of, writing}
use Rattle.ecma_lower_enums.specs.Writes.{stands-still}
use Rattle.ecma_lower_enums.proofs.ByForm.{raw-is-left, raw-no-item, under-around, under-place}

abbrev pub acts : Kind → Bool
acts (kind.Ident sym ctxt optional) = true
acts kind.BindingIdent = true
acts kind.AssignPatProp = true
acts kind.MemberExpr = true
acts (kind.TsEnumDecl declare is_const) = true
acts kind.TsEnumMember = true
acts kind.ExportDecl = true
acts _ = false

abbrev pub raw : Seat → Bool
raw s = is_raw s.place

abbrev left_by : Place → Kind → Bool
left_by place.Body k = is_decl k && not (is_variables k)
left_by _ k = false

abbrev pub leaves : Seat → Kind → Bool
leaves s k = left_by s.place k

left-same : (p : Place) (k : Kind) → is_raw p ≡ false → is_left p k ≡ left_by p k
left-same place.Raw k h = no (sym h)
left-same _ k h = refl

module _ (enums : KnownEnums) where
  -- one node for one, with nothing that stands for it
  quiet-form : (p : Place) (span : Span) (k : Kind) (cs : List Node) → acts k ≡ false → is_type_wrapper k ≡ false → (form_of p k cs ≡ form.One) × (answer_by enums p span k cs ≡ None)
  unfolding form_of answer_by
  quiet-form p span (kind.Ident text ctxt optional) cs a w = no (sym a)
  quiet-form p span kind.BindingIdent cs a w = no (sym a)
  quiet-form p span kind.AssignPatProp cs a w = no (sym a)
  quiet-form p span kind.MemberExpr cs a w = no (sym a)
  quiet-form p span (kind.TsEnumDecl declare is_const) cs a w = no (sym a)
  quiet-form p span kind.TsEnumMember cs a w = no (sym a)
  quiet-form p span kind.ExportDecl cs a w = no (sym a)
  quiet-form p span kind.TsTypeAssertion cs a w = no (sym w)
  quiet-form p span kind.TsConstAssertion cs a w = no (sym w)
  quiet-form p span kind.TsNonNullExpr cs a w = no (sym w)
  quiet-form p span kind.TsAsExpr cs a w = no (sym w)
  quiet-form p span kind.TsInstantiation cs a w = no (sym w)
  quiet-form p span kind.TsSatisfiesExpr cs a w = no (sym w)
  quiet-form p span _ cs a w = (refl, refl)

  pub done-quiet : (s : Seat) (span : Span) (k : Kind) (cs : List Node) (lists : List (List Node)) → acts k ≡ false → is_type_wrapper k ≡ false → done enums s span k cs lists ≡ over_ones span k lists
  done-quiet s span k cs lists a w =
      let q = quiet-form s.place span k cs a w in
      ap (done_by enums s span k cs lists) q.0 ∙ ap (λ z. answered z span k (map only lists) ∷ []) q.1

  wrapper-form : (p : Place) (k : Kind) (cs : List Node) → is_type_wrapper k ≡ true → (form_of p k cs ≡ form.Wrapped) × (is_decl k ≡ false)
  unfolding form_of
  wrapper-form p kind.TsTypeAssertion cs w = (refl, refl)
  wrapper-form p kind.TsConstAssertion cs w = (refl, refl)
  wrapper-form p kind.TsNonNullExpr cs w = (refl, refl)
  wrapper-form p kind.TsAsExpr cs w = (refl, refl)
  wrapper-form p kind.TsInstantiation cs w = (refl, refl)
  wrapper-form p kind.TsSatisfiesExpr cs w = (refl, refl)
  wrapper-form p _ cs w = no w

  -- where something may be done
  pub here-done : (s : Seat) (span : Span) (k : Kind) (cs : List Node) (lists : List (List Node)) → raw s ≡ false → (writing enums).here s span k cs lists ≡ cond (leaves s k) (node_of span k cs ∷ []) (done enums s span k cs lists)
  here-done s span k cs lists w = ap (λ b. cond b (node_of span k cs ∷ []) (done enums s span k cs lists)) (left-same s.place k w)

  pub leaves-off : (s : Seat) (k : Kind) → is_decl k ≡ false → leaves s k ≡ false
  leaves-off s k h = by s.place
    where
      by : (p : Place) → left_by p k ≡ false
      by place.Body = ap (λ b. b && not (is_variables k)) h
      by _ = refl

  pub does : DoesElseNothing (writing enums) raw leaves acts
  does = record {
    raw_here = λ s span k cs lists w. ap (λ b. cond b (node_of span k cs ∷ []) (done enums s span k cs lists)) (raw-is-left s.place k w);
    raw_next = λ s c w. ap raw (stands-still enums s.place s.around c (raw-no-item s.place w)) ∙ w;
    raw_unkept = λ s c w. refl;
    quiet = λ s span k cs lists w a l t. here-done s span k cs lists w ∙ ap (cond (leaves s k) (node_of span k cs ∷ [])) (done-quiet s span k cs lists a t);
    wrapped = λ s span k cs l ls w t.
        (let f = wrapper-form s.place k cs t in
        here-done s span k cs (l ∷ ls) w ∙ ap (λ b. cond b (node_of span k cs ∷ []) (done enums s span k cs (l ∷ ls))) (leaves-off s k f.1) ∙ ap (done_by enums s span k cs (l ∷ ls)) f.0);
  }

  -- ---- seats under types

  pub seat-under : (s : Seat) (k : Kind) (cs : List Node) → raw s ≡ false → is_type_wrapper k ≡ true → seat_at enums s k cs 0 ≡ s
  seat-under s k cs w t =
      ap (λ b. cond b s (record { place = place_at enums s.place k cs 0; around = around_at s k cs })) w
      ∙ ap₂ (λ p a. record { place = p; around = a }) (under-place enums s.place k cs t) (under-around enums s k cs t)

-- ---- what is settled

pub settled-quiet : (k : Kind) → is_settled k ≡ true → acts k ≡ false
settled-quiet (kind.Ident sym ctxt optional) h = no h
settled-quiet kind.BindingIdent h = no h
settled-quiet kind.AssignPatProp h = no h
settled-quiet kind.MemberExpr h = no h
settled-quiet (kind.TsEnumDecl declare is_const) h = no h
settled-quiet kind.TsEnumMember h = no h
settled-quiet kind.ExportDecl h = no h
settled-quiet _ h = refl

pub settled-decl : (k : Kind) → is_settled k ≡ true → is_decl k ≡ false
settled-decl (kind.FnDecl d) h = no h
settled-decl (kind.ClassDecl d) h = no h
settled-decl (kind.VarDecl w d) h = no h
settled-decl (kind.TsEnumDecl d c) h = no h
settled-decl (kind.TsModuleDecl d g) h = no h
settled-decl (kind.TsInterfaceDecl d) h = no h
settled-decl (kind.TsTypeAliasDecl d) h = no h
settled-decl _ h = refl

pub kinds-same : (k : Kind) → (acts (plain_kind k) ≡ acts k) × (is_decl (plain_kind k) ≡ is_decl k) × (is_variables (plain_kind k) ≡ is_variables k)
unfolding plain_kind
kinds-same kind.MemberExpr = (refl, refl, refl)
kinds-same _ = (refl, refl, refl)

pub leaves-same : (s : Seat) (k : Kind) → leaves s (plain_kind k) ≡ leaves s k
leaves-same s k = by s.place
  where
    by : (p : Place) → left_by p (plain_kind k) ≡ left_by p k
    by place.Body = ap₂ (λ a b. a && not b) (kinds-same k).1 (kinds-same k).2
    by _ = refl

-- ---- bodies of statements

either-index : (i a b : ℕ) → ((i == a) || (i == b)) ≡ true → (i ≡ a) ⊎ (i ≡ b)
either-index i a b h = by (i == a) refl h
  where
    by : (c : Bool) → (i == a) ≡ c → (c || (i == b)) ≡ true → (i ≡ a) ⊎ (i ≡ b)
    by true e h = inl (eqb-true i a e)
    by false e h = inr (eqb-true i b h)

module _ (enums : KnownEnums) (p : Place) (cs : List Node) where
  abbrev AtBody : Kind → ℕ → Type 0
  AtBody k i = place_at enums p k cs i ≡ place.Body

  body-at : (k : Kind) (i at : ℕ) → (i == at) ≡ true → AtBody k at → AtBody k i
  body-at k i at h is = subst (AtBody k) (sym (eqb-true i at h)) is

  body-place : (k : Kind) (i : ℕ) → is_body_at k i ≡ true → AtBody k i
  unfolding place_in
  body-place kind.IfStmt i h = by (either-index i 1 2 h)
    where
      by : (i ≡ 1) ⊎ (i ≡ 2) → AtBody kind.IfStmt i
      by (inl e) = subst (AtBody kind.IfStmt) (sym e) refl
      by (inr e) = subst (AtBody kind.IfStmt) (sym e) refl
  body-place kind.LabeledStmt i h = body-at kind.LabeledStmt i 1 h refl
  body-place kind.WhileStmt i h = body-at kind.WhileStmt i 1 h refl
  body-place kind.DoWhileStmt i h = body-at kind.DoWhileStmt i 1 h refl
  body-place kind.ForStmt i h = body-at kind.ForStmt i 3 h refl
  body-place kind.ForInStmt i h = body-at kind.ForInStmt i 2 h refl
  body-place (kind.ForOfStmt is_await) i h = body-at (kind.ForOfStmt is_await) i 2 h refl
  body-place _ i h = no h

variables-same : (l : Kind) → is_variables l ≡ true → (rewriting.is_variables l ≡ true) × (acts l ≡ false) × (is_type_wrapper l ≡ false)
variables-same (kind.VarDecl word declare) h = (refl, refl, refl)
variables-same _ h = no h

-- a declaration there is left as it is, unless it declares variables
module _ (enums : KnownEnums) (s : Seat) (k l : Kind) (cs ds : List Node) (i : ℕ) (span : Span) (lists : List (List Node)) (w : raw s ≡ false) (at : is_body_at k i ≡ true) (d : is_decl l ≡ true) where
  abbrev at_body : Seat
  at_body = record { place = place.Body; around = around_at s k cs }

  body-here : (b : Bool) → is_variables l ≡ b → (writing enums).here (seat_at enums s k cs i) span l ds lists ≡ cond (not b) (node_of span l ds ∷ []) (done enums at_body span l ds lists)
  body-here b v =
      ap (λ z. (writing enums).here z span l ds lists)
      (ap (λ c. cond c s (record { place = place_at enums s.place k cs i; around = around_at s k cs })) w
      ∙ ap (λ (p : Place). record { place = p; around = around_at s k cs }) (body-place enums s.place cs k i at))
      ∙ ap₂ (λ x y. cond (x && not y) (node_of span l ds ∷ []) (done enums at_body span l ds lists)) d v

  pub bodies : ((writing enums).here (seat_at enums s k cs i) span l ds lists ≡ node_of span l ds ∷ [])
      ⊎ ((rewriting.is_variables l ≡ true) × ((writing enums).here (seat_at enums s k cs i) span l ds lists ≡ over_ones span l lists))
  bodies = by (is_variables l) refl
    where
      by : (b : Bool) → is_variables l ≡ b → ((writing enums).here (seat_at enums s k cs i) span l ds lists ≡ node_of span l ds ∷ [])
          ⊎ ((rewriting.is_variables l ≡ true) × ((writing enums).here (seat_at enums s k cs i) span l ds lists ≡ over_ones span l lists))
      by false v = inl (body-here false v)
      by true v = let same = variables-same l v in inr (same.0, body-here true v ∙ done-quiet enums at_body span l ds lists same.1 same.2)

-- ---- places

pub places-same : (writes : Bool) (p : Place) (k : Kind) (i : ℕ) → place_in writes p (plain_kind k) i ≡ place_in writes p k i
unfolding plain_kind place_in
places-same writes p kind.ParenExpr i = refl
places-same writes p _ i = refl
