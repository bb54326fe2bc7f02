-- Exactly what is needed has a name, in contexts that the session gives one after the other.
use Rattle.std.proofs.Common.{◌≡◌, ◌∙◌, ◌-◌, ℕ, Bool, true, false, List, [], ◌∷◌, ◌++◌, length, map, refl, sym, ap, subst, if◌then◌else◌, append_assoc}
use Rattle.std.proofs.lemmas.List.{append-nil, map-append}
use Rattle.std.proofs.lemmas.Map.Made.{is_some-lookup}
use Rattle.std.specs.List.{list_any}
use Rattle.std.specs.Map.{keys_of}
use Rattle.indexmap.specs.IndexSet.{insert_all, insert_key}
use Rattle.ecma_function_environment.specs.declared.need.Need.{Need}
use Rattle.ecma_function_environment.specs.Laws.{AreNamed, EachNeedHasOneName, marks_from}
use Rattle.ecma_function_environment.specs.Needs.{Names, has_name, named, same_need}

module _ (n : Need) (ns : List Need) (left : ℕ) (names : Names) where
  abbrev rest_named : Bool → Names
  rest_named b = if b then named ns left names else named ns (left - 1) (names ++ (n, left) ∷ [])

  abbrev with_key : Bool → List Need
  with_key b = if b then keys_of names else keys_of names ++ n ∷ []

  key-is : (b : Bool) → has_name names n ≡ b → insert_key same_need (keys_of names) n ≡ with_key b
  key-is b h = ap with_key (sym (is_some-lookup (same_need n) names) ∙ h)

  -- a need that has a name already
  has-one : has_name names n ≡ true → AreNamed ns left names (named ns left names) → AreNamed (n ∷ ns) left names (named (n ∷ ns) left names)
  has-one h so = subst (λ (z : Names). AreNamed (n ∷ ns) left names z) (sym (ap rest_named h)) (record {
    added = so.added;
    kept = so.kept;
    exactly = so.exactly ∙ ap (λ (ks : List Need). insert_all same_need ks ns) (sym (key-is true h));
    fresh = so.fresh;
  })

  -- one that has none
  gets-one : has_name names n ≡ false → AreNamed ns (left - 1) (names ++ (n, left) ∷ []) (named ns (left - 1) (names ++ (n, left) ∷ []))
      → AreNamed (n ∷ ns) left names (named (n ∷ ns) left names)
  gets-one h so = subst (λ (z : Names). AreNamed (n ∷ ns) left names z) (sym (ap rest_named h)) (record {
    added = (n, left) ∷ so.added;
    kept = so.kept ∙ append_assoc names ((n, left) ∷ []) so.added;
    exactly = so.exactly ∙ ap (λ (ks : List Need). insert_all same_need ks ns) (map-append (λ (e : Need × ℕ). e.0) names ((n, left) ∷ []) ∙ sym (key-is false h));
    fresh = ap (λ (z : List ℕ). left ∷ z) so.fresh;
  })

  has-or-gets : AreNamed ns left names (named ns left names) → AreNamed ns (left - 1) (names ++ (n, left) ∷ []) (named ns (left - 1) (names ++ (n, left) ∷ []))
      → AreNamed (n ∷ ns) left names (named (n ∷ ns) left names)
  has-or-gets same more = by (has_name names n) refl
    where
      by : (b : Bool) → has_name names n ≡ b → AreNamed (n ∷ ns) left names (named (n ∷ ns) left names)
      by true h = has-one h same
      by false h = gets-one h more

pub each-has-one : EachNeedHasOneName
each-has-one [] left names = record { added = []; kept = sym (append-nil names); exactly = refl; fresh = refl }
each-has-one (n ∷ ns) left names = has-or-gets n ns left names (each-has-one ns left names) (each-has-one ns (left - 1) (names ++ (n, left) ∷ []))
