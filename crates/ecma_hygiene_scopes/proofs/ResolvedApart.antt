-- The contexts of a resolved module tell its scopes apart, whether or not declarations in it go.
use Rattle.std.proofs.Common.{◌≡◌, ◌≢◌, ◌⊎◌, inl, inr, ℕ, ◌<◌, ◌≤◌, Bool, true, false, ◌||◌, cond, List, [], ◌∷◌, map, refl, sym, ap, ◌∙◌, subst, get_or, nat_eq, arith}
use Rattle.std.specs.List.{All}
use Rattle.std.proofs.lemmas.Bool.{eqb-true}
use Rattle.std.proofs.lemmas.List.Elements.{All-cons, All-head, All-nil, All-tail}
use Rattle.ecma_tree.specs.declared.node.Node.{Node}
use Rattle.ecma_scope.specs.declared.role.Role.TheVariants as role
use Rattle.ecma_scope.specs.Resolved.{contexts, resolved}
use Rattle.ecma_scope.specs.Scopes.{opens}
use Rattle.ecma_hygiene.specs.Ids.{Id, has_context, innermost, own_ids, same_id}
use Rattle.ecma_hygiene.proofs.Telling.{has-id, id-refl, or-first, or-second, true-false}
use Rattle.ecma_hygiene_scopes.specs.Apart.{AreApart, HasOneContext, IsScoped, own_contexts}
use Rattle.ecma_hygiene_scopes.specs.Laws.{ResolvedTellsScopesApart, ResolvedKeepsScopesApart}
use Rattle.ecma_hygiene_scopes.specs.DeclaredIds.{DeclaredId, scope_ids}
use Rattle.ecma_hygiene_scopes.specs.Lasting.{KeepsScope}
use Rattle.ecma_hygiene_scopes.specs.Stops.{Stop, stops}
use Rattle.ecma_hygiene_scopes.proofs.Mapping.{has-opened}
use Rattle.ecma_hygiene_scopes.proofs.Membership.{contexts-agree}
use Rattle.ecma_hygiene_scopes.proofs.Numbers.{Differ, Given, IsGiven, NumbersApart, number, opened, tree-numbers}
use Rattle.ecma_hygiene_scopes.proofs.ResolvedModules.{checked, resolved-is-placed, resolved-stays}
use Rattle.ecma_hygiene_scopes.proofs.ResolvedRight.{IsPlaced}
use Rattle.ecma_hygiene_scopes.proofs.Sameness.{counts-resolved}

-- an id with a context among these
context-id : (c : ℕ) (ids : List Id) → has_context c (map (λ id. id.1) ids) ≡ true → (id : Id) × (id.1 ≡ c) × (has-id id ids ≡ true)
context-id c [] h = absurd (true-false h refl)
context-id c (x ∷ xs) h = by (nat_eq c x.1) refl h (context-id c xs)
  where
    by : (b : Bool) → nat_eq c x.1 ≡ b → (b || has_context c (map (λ id. id.1) xs)) ≡ true → (has_context c (map (λ id. id.1) xs) ≡ true → (id : Id) × (id.1 ≡ c) × (has-id id xs ≡ true)) → (id : Id) × (id.1 ≡ c) × (has-id id (x ∷ xs) ≡ true)
    by true is h rec = (x, sym (eqb-true c x.1 is), or-first (same_id x x) (has-id x xs) (id-refl x))
    by false is h rec = (let r = rec h in (r.0, r.1, or-second (same_id x r.0) (has-id r.0 xs) r.2))

module _ (unresolved top : ℕ) where
  abbrev Right : Stop → Type 0
  Right = IsPlaced unresolved top

  -- a scope declares in its own context alone
  own-number : (stop : Stop) → Right stop → (c : ℕ) → has_context c (own_contexts stop) ≡ true → c ≡ number top stop
  own-number stop right c h =
      let is : opened stop ≡ true = has-opened c stop h in
      let ids : List Id = own_ids stop.around.role (innermost stop.around.scopes) stop.node in
      let one = context-id c ids (sym (ap (λ (b : Bool). has_context c (cond b (map (λ id. id.1) ids) [])) is) ∙ h) in
      sym one.1 ∙ right.contexts is one.0 (contexts-agree one.0 ids ∙ one.2)

  one-number : (stop : Stop) → Right stop → HasOneContext stop
  one-number stop right c d h k = own-number stop right c h ∙ sym (own-number stop right d k)

  by-test : (b : Bool) → (b ≡ true → ⊥) → b ≡ false
  by-test true never = absurd (never refl)
  by-test false never = refl

  are-apart : (ss : List Stop) → All Right ss → NumbersApart top ss → AreApart (map own_contexts ss)
  are-apart [] right apart = tt
  are-apart (s ∷ ss) right apart =
      (λ c h. others c h ss (All-tail Right s ss right) apart.0, are-apart ss (All-tail Right s ss right) apart.1)
    where
      others : (c : ℕ) → has_context c (own_contexts s) ≡ true → (ts : List Stop) → All Right ts → All (Differ top s) ts → All (λ other. has_context c other ≡ false) (map own_contexts ts)
      others c h [] right_ differ = All-nil (λ other. has_context c other ≡ false)
      others c h (t ∷ ts) right_ differ =
          All-cons (λ other. has_context c other ≡ false) (own_contexts t) (map own_contexts ts)
          (by-test (has_context c (own_contexts t)) (λ also. All-head (Differ top s) t ts differ (has-opened c s h) (has-opened c t also)
          (sym (own-number s (All-head Right s ss right) c h) ∙ own-number t (All-head Right t ts right_) c also)))
          (others c h ts (All-tail Right t ts right_) (All-tail (Differ top s) t ts differ))

  less-no : (a b : ℕ) → a < b → b ≡ a → ⊥
  less-no a b less same = omega arith

  above-no : (n l u : ℕ) → n ≤ l → l < u → u ≡ n → ⊥
  above-no n l u le less same = omega arith

  module _ (left : ℕ) (unresolved_above : left < unresolved) (top_above : left < top) (apart : unresolved ≢ top) where
    pub no-number : (stop : Stop) → (number top stop ≡ top) ⊎ ((0 < number top stop) × (number top stop ≤ left)) → unresolved ≡ number top stop → ⊥
    no-number stop (inl is) same = apart (same ∙ is)
    no-number stop (inr le) same = above-no (number top stop) left unresolved le.1 unresolved_above same

    pub no-empty : (stop : Stop) → (number top stop ≡ top) ⊎ ((0 < number top stop) × (number top stop ≤ left)) → 0 ≡ number top stop → ⊥
    no-empty stop (inl is) same = above-no 0 left top (omega arith) top_above (sym (same ∙ is))
    no-empty stop (inr le) same = less-no 0 (number top stop) le.0 (sym same)

    scoped : (stop : Stop) → Right stop → IsGiven top left stop → KeepsScope unresolved stop
    scoped stop right given = record {
      absent = right.absent;
      names = right.names;
      free_names = right.free;
      blocks = right.blocks;
      parameters = right.parameters;
      not_free = by-test (has_context unresolved (own_contexts stop)) (λ h. no-number stop (given (has-opened unresolved stop h)) (own-number stop right unresolved h));
      not_empty = by-test (has_context 0 (own_contexts stop)) (λ h. no-empty stop (given (has-opened 0 stop h)) (own-number stop right 0 h));
    }

pub resolved-keeps-apart : ResolvedKeepsScopesApart
resolved-keeps-apart unresolved top left source checked_source unresolved_above top_above apart enough =
    let tree : Node = resolved unresolved top left source in
    let counts : contexts tree ≡ contexts source = counts-resolved unresolved top source (record { role = role.Root; scopes = [] }) left role.Root in
    let right = resolved-is-placed unresolved top left source checked_source in
    let numbers : Given top left (stops left tree) = tree-numbers top tree left top_above (subst (λ (n : ℕ). n ≤ left) (sym counts) enough) in
    record {
      scoped = λ k d lt. scoped unresolved top left unresolved_above top_above apart (get_or (stops left tree) k d) (right k d lt) (numbers.given k d lt);
      one = λ k d lt. one-number unresolved top (get_or (stops left tree) k d) (right k d lt);
      apart = are-apart unresolved top (stops left tree) right numbers.apart;
      there = λ same. above-no unresolved top 0 left unresolved (omega arith) unresolved_above same;
    }

-- where these stay, they are the names of its scopes
pub kept-scoped : (free : ℕ) (stop : Stop) → KeepsScope free stop → (opens stop.around.role stop.node ≡ true → All (λ (d : DeclaredId). d.stays ≡ true) (scope_ids stop.around.role stop.node)) → IsScoped free stop
kept-scoped free stop keep stay = record {
  absent = keep.absent;
  names = keep.names;
  free_names = keep.free_names;
  declares = λ is. record { stay = stay is; blocks = keep.blocks is; parameters = keep.parameters is };
  not_free = keep.not_free;
  not_empty = keep.not_empty;
}

pub resolved-tells-apart : ResolvedTellsScopesApart
resolved-tells-apart unresolved top left source plain unresolved_above top_above apart enough =
    let kept = resolved-keeps-apart unresolved top left source (checked source plain) unresolved_above top_above apart enough in
    let stay = resolved-stays unresolved top left source plain in
    let tree : Node = resolved unresolved top left source in
    record { scoped = λ k d lt. kept-scoped unresolved (get_or (stops left tree) k d) (kept.scoped k d lt) (stay k d lt); one = kept.one; apart = kept.apart; there = kept.there }
