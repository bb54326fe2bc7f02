-- A binding of the scope of a module whose text no free name has, keeps its text.
use Rattle.std.proofs.Common.{◌≡◌, refl, sym, ap, ap₂, ◌∙◌, subst, ℕ, ◌-◌, List, [], ◌∷◌, map, Option, Some, None, Bool, true, false, cond, not, ◌&&◌, ◌||◌, ◌==◌, bytes_eq, eqb-true}
use Rattle.std.specs.List.{All, list_any}
use Rattle.std.proofs.lemmas.List.Elements.{All-cons, All-head, All-nil, All-tail}
use Rattle.std.proofs.lemmas.Slice.Eq.{bytes_eq-Decides}
use Rattle.ecma_kind.specs.Sorts.{belongs}
use Rattle.ecma_kind.specs.declared.kind.Kind.{Kind}
use Rattle.ecma_kind.specs.declared.kind.Kind.TheVariants as kind
use Rattle.ecma_kind.specs.declared.shapes.Sort.TheVariants as sort
use Rattle.ecma_tree.specs.Sorted.{one}
use Rattle.ecma_tree.specs.declared.node.Node.{Node, out-Node}
use Rattle.ecma_scope.specs.declared.role.Role.TheVariants as role
use Rattle.ecma_scope.specs.Resolved.{taken}
use Rattle.ecma_scope.specs.Scopes.{is_there, opens_by}
use Rattle.ecma_strip.specs.Stripping.{stripped}
use Rattle.ecma_exports.specs.Exports.{exported_names, first_among, first_captured, free_names, is_among}
use Rattle.ecma_exports.specs.Places.{free_text}
use Rattle.ecma_hygiene.specs.declared.naming.Named.{Named}
use Rattle.ecma_hygiene.specs.declared.sight.Meeting.{Meeting}
use Rattle.ecma_hygiene.specs.declared.sight.Sight.{Sight}
use Rattle.ecma_hygiene.specs.Ids.{Id, has_context, innermost, own_ids}
use Rattle.ecma_hygiene.specs.Renamed.{text_of}
use Rattle.ecma_hygiene.specs.Sights.{around_child, meetings, nowhere, own_scope, sights}
use Rattle.ecma_hygiene.specs.Texts.{HygienicTexts, is_met, is_new, text_in}
use Rattle.ecma_hygiene.proofs.Telling.{or-left, or-right, true-false}
use Rattle.ecma_hygiene_fits.specs.Placed.{NoneMadeBut}
use Rattle.ecma_hygiene_scopes.specs.Apart.{AreApart, IsScoped, TellsScopesApart, own_contexts}
use Rattle.ecma_hygiene_scopes.specs.Stops.{Stop, stops_at, stops_from}
use Rattle.ecma_hygiene_scopes.proofs.Membership.{contexts-agree}
use Rattle.ecma_hygiene_scopes.proofs.Stopping.{stop-here, stops-below, stops-out}
use Rattle.ecma_strip_scopes.proofs.Going.{parts-have}
use Rattle.ecma_strip_scopes.proofs.ScopesSame.{id-context}
use Rattle.ecma_exports_hygiene.specs.Laws.{BindingsThatAreNotCapturedKeepTheirTexts}
use Rattle.ecma_exports_hygiene.proofs.FreeNames.{IsOther, other-text, others-left}
use Rattle.ecma_exports_hygiene.proofs.Keeping.{keeps-text}
use Rattle.ecma_exports_hygiene.proofs.Meetings.{Fine, hits, none-met}
use Rattle.ecma_exports_hygiene.proofs.Standing.{HoldsAt, at-stops, none-new}

-- what is told to be captured is the first of all that are
not-among : (others texts : List (List ℕ)) (x : List ℕ) → first_among others texts ≡ None → is_among texts x ≡ true → is_among others x ≡ false
not-among others [] x none h = absurd (true-false h refl)
not-among others (t ∷ ts) x none h = by (is_among others t) refl (bytes_eq t x) refl (not-among others ts x)
  where
    by : (b : Bool) → is_among others t ≡ b → (s : Bool) → bytes_eq t x ≡ s → (first_among others ts ≡ None → is_among ts x ≡ true → is_among others x ≡ false) → is_among others x ≡ false
    by true e s f rec = absurd (some-none (sym (ap (λ b. cond b (Some t) (first_among others ts)) e) ∙ none))
      where
        some-none : ◌≡◌ {A = Option (List ℕ)} (Some t) None → ⊥
        some-none e = cc
    by false e true f rec = ap (is_among others) (sym ((bytes_eq-Decides t x).0 f)) ∙ e
    by false e false f rec = rec (sym (ap (λ b. cond b (Some t) (first_among others ts)) e) ∙ none) (ap (λ b. b || is_among ts x) (sym f) ∙ h)

all-of-map : {X Y : Type 0} (P : Y → Type 0) (f : X → Y) (xs : List X) → All P (map f xs) → All (λ x. P (f x)) xs
all-of-map P f [] h = All-nil (λ x. P (f x))
all-of-map P f (x ∷ xs) h = All-cons (λ y. P (f y)) x xs (All-head P (f x) (map f xs) h) (all-of-map P f xs (All-tail P (f x) (map f xs) h))

all-three : {X : Type 0} (P Q R S : X → Type 0) (xs : List X) → ((x : X) → P x → Q x → R x → S x) → All P xs → All Q xs → All R xs → All S xs
all-three P Q R S [] f p q r = All-nil S
all-three P Q R S (x ∷ xs) f p q r =
    All-cons S x xs (f x (All-head P x xs p) (All-head Q x xs q) (All-head R x xs r)) (all-three P Q R S xs f (All-tail P x xs p) (All-tail Q x xs q) (All-tail R x xs r))

never-met : (id : Id) (seen : List Sight) (met : List Meeting) → list_any (hits id) met ≡ false → is_met seen met id ≡ false
never-met id seen [] h = refl
never-met id seen (m ∷ ms) h =
    ap₂ (λ a b. a || b) (and-off (hits id m) (not (is_new seen m.name)) (or-left (hits id m) (list_any (hits id) ms) h)) (never-met id seen ms (or-right (hits id m) (list_any (hits id) ms) h))
  where
    and-off : (a b : Bool) → a ≡ false → (a && b) ≡ false
    and-off a b e = ap (λ z. z && b) e

and-no : (a b : Bool) → b ≡ false → (a && b) ≡ false
and-no true b e = e
and-no false b e = refl

root-opens : (k : Kind) (there : Bool) → belongs sort.Module k ≡ true → opens_by role.Root k there ≡ true
unfolding opens_by
root-opens (kind.Module s) there e = refl
root-opens _ there e = absurd (true-false e refl)

module _ (free : ℕ) (tree : Node) (id : Id) where
  abbrev whole : Node
  whole = stripped tree

  abbrev root : Stop
  root = record { node = whole; around = nowhere; left = 0 }

  abbrev others : List Stop
  others = stops_from (around_child nowhere whole) 0 (out-Node whole).children (map stops_at (out-Node whole).children) (0 - taken role.Root whole)

  -- it has a context of the scope of the module
  root-has : belongs sort.Module (out-Node whole).kind ≡ true → has_context id.1 (own_scope role.Root [] whole id.0) ≡ true → has_context id.1 (own_contexts root) ≡ true
  root-has is h =
      let ids = own_ids role.Root (innermost []) whole in
      ap (λ b. has_context id.1 (cond b (map (λ (other : Id). other.1) ids) [])) (root-opens (out-Node whole).kind (is_there (out-Node whole).children 0) is)
      ∙ id-context id ids (sym (contexts-agree id ids) ∙ h)

  module _ (is : belongs sort.Module (out-Node whole).kind ≡ true) (tells : TellsScopesApart free 0 whole) (rooted : has_context id.1 (own_scope role.Root [] whole id.0) ≡ true)
      (exported : is_among (exported_names free tree) id.0 ≡ true) (none : first_captured free tree ≡ None) where
    not-free : is_among (free_names free tree) id.0 ≡ false
    not-free = not-among (free_names free tree) (exported_names free tree) id.0 none exported

    lack : All (λ (stop : Stop). has_context id.1 (own_contexts stop) ≡ false) others
    lack =
        all-of-map (λ ctxts. has_context id.1 ctxts ≡ false) own_contexts others
        ((subst (λ (stops : List Stop). AreApart (map own_contexts stops)) (stops-out whole nowhere 0) tells.apart).0 id.1 (root-has is rooted))

    fine-one : (stop : Stop) → has_context id.1 (own_contexts stop) ≡ false → IsScoped free stop → HoldsAt (IsOther free id.0) stop → Fine id free stop
    fine-one stop lacks scoped other = record {
      lacks = lacks;
      free_names = scoped.free_names;
      others = λ text ctxt optional e. other-text free id.0 text ctxt optional (subst (λ k. is_among (free_text free k) id.0 ≡ false) e other);
    }

    fine : All (Fine id free) others
    fine =
        all-three (λ (stop : Stop). has_context id.1 (own_contexts stop) ≡ false) (IsScoped free) (HoldsAt (IsOther free id.0)) (Fine id free) others fine-one lack
        (stops-below (IsScoped free) whole nowhere 0 tells.scoped)
        (stops-below (HoldsAt (IsOther free id.0)) whole nowhere 0 (at-stops (IsOther free id.0) whole nowhere 0 (others-left free id.0 tree not-free)))

    -- and it is no free name
    lacks-free : has_context free (own_contexts root) ≡ false
    lacks-free = (stop-here (IsScoped free) whole nowhere 0 tells.scoped).not_free

    inner : (id.1 == free) ≡ false
    inner = by (id.1 == free) refl
      where
        by : (b : Bool) → (id.1 == free) ≡ b → b ≡ false
        by true e = absurd (true-false (sym (ap (λ ctxt. has_context ctxt (own_contexts root)) (eqb-true id.1 free e)) ∙ root-has is rooted) lacks-free)
        by false e = refl

    -- so it keeps its text, where no identifier was made but for free names
    pub keeps : (names : List Named) → HygienicTexts whole names → NoneMadeBut free whole → text_of (text_in names) id ≡ id.0
    keeps names texts made =
        let seen = sights whole in
        let met = meetings whole in
        keeps-text seen met names id texts (none-new free id inner whole made)
        (and-no (not (is_new seen id)) (is_met seen met id) (never-met id seen met (none-met id free whole (0 - taken role.Root whole) is fine)))

pub bindings-keep : BindingsThatAreNotCapturedKeepTheirTexts
bindings-keep free tree names id has tells made none exported rooted texts = keeps free tree id (parts-have (stripped tree) (one sort.Module) has).0 tells rooted exported none names texts made
