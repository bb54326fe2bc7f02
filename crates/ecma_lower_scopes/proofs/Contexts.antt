-- The scopes of a module with its assignments lowered: what their ids say, and their contexts.
use Rattle.std.proofs.Common.{◌≡◌, ◌∙◌, ℕ, ◌+◌, ◌≤◌, Bool, true, false, ◌&&◌, cond, refl, sym, ap, ap₂, subst, List, [], ◌∷◌, filter, map, Option, arith}
use Rattle.std.specs.List.{All, sum_by}
use Rattle.std.proofs.lemmas.List.Elements.{All-cons, All-head, All-nil, All-tail}
use Rattle.std.proofs.lemmas.List.Sums.{sum_by-cons}
use Rattle.ecma_config.specs.declared.config.TsImportExportAssignConfig.{TsImportExportAssignConfig}
use Rattle.ecma_kind.specs.declared.kind.Kind.{Kind}
use Rattle.ecma_kind.specs.declared.kind.Kind.TheVariants as kind
use Rattle.ecma_kind.specs.declared.span.Span.{Span}
use Rattle.ecma_tree.specs.Sorted.{is_absent}
use Rattle.ecma_tree.specs.declared.node.Node.{Node}
use Rattle.ecma_rules.specs.Children.{kind_of}
use Rattle.ecma_scope.specs.Scopes.{covers, is_root, opens}
use Rattle.ecma_scope.specs.declared.role.Role.TheVariants as role
use Rattle.ecma_hygiene.specs.Ids.{Id, Scope, contexts_of, has_context, innermost, own_ids}
use Rattle.ecma_hygiene.specs.Sights.{nowhere}
use Rattle.ecma_hygiene_scopes.specs.Apart.{AreApart, own_contexts}
use Rattle.ecma_hygiene_scopes.specs.Stops.{Stop, stops}
use Rattle.ecma_lower.specs.Moving.{exports_last}
use Rattle.ecma_ready.specs.Ready.{HasOwnContexts, SaysItsScopes, contexts_there}
use Rattle.ecma_lower_scopes.specs.Laws.{LoweredTreesHaveOwnContexts, LoweredTreesSayTheirScopes}
use Rattle.ecma_lower_scopes.proofs.Declared.{whole-kind}
use Rattle.ecma_lower_scopes.proofs.Ids.{gathering, item_soughts, lowered-ids, own-ids-same}
use Rattle.ecma_lower_scopes.proofs.Lists.{all-moved, all_given, total-moved}
use Rattle.ecma_lower_scopes.proofs.Lowering.{given-lowered, lowered_items, where-it-is-lowered}
use Rattle.ecma_lower_scopes.proofs.Stops.{IsQuiet, all-stops, coming, in_module, is_loud, list-comes, list_stops, module-opens, module-stops, module_scopes, module_stop, quiet-stop, stop-seats}
use Rattle.ecma_lower_strip.proofs.Lists.{AreItems}
use Rattle.ecma_lower_strip.proofs.Modules.{as_module}
use Rattle.ecma_strip_rewriting.proofs.PlainKinds.{no}

-- ---- a stop that does not matter

module _ (free : ℕ) (stop : Stop) (quiet : IsQuiet free stop) where
  no-contexts : own_contexts stop ≡ []
  no-contexts = ap (λ (b : Bool). cond b (map (λ (id : Id). id.1) (own_ids stop.around.role (innermost stop.around.scopes) stop.node)) []) quiet.closed

  quiet-says : SaysItsScopes free stop.node stop.around
  quiet-says = record {
    absent = λ h. quiet.empty h;
    names = λ text ctxt optional e is. no (sym (quiet.names text ctxt optional e).1 ∙ is);
    free_names = λ text ctxt optional e is none. (quiet.names text ctxt optional e).0;
    blocks = λ h is. no (sym quiet.closed ∙ h);
    parameters = λ h is. no (sym quiet.closed ∙ h);
    not_free = ap (has_context free) no-contexts;
    not_empty = ap (has_context 0) no-contexts;
  }

  quiet-one : (c d : ℕ) → has_context c (contexts_there stop.node stop.around) ≡ true → has_context d (contexts_there stop.node stop.around) ≡ true → c ≡ d
  quiet-one c d h g = no (sym (ap (has_context c) no-contexts) ∙ h)

-- ---- how many stops share a context

abbrev share : ℕ → Stop → ℕ
share c stop = cond (has_context c (own_contexts stop)) 1 0

abbrev shares : ℕ → List Stop → ℕ
shares c xs = sum_by (share c) xs

none-more : (n : ℕ) → 0 + n ≡ n
none-more n = omega arith

shares-yes : (c : ℕ) (x : Stop) (xs : List Stop) → has_context c (own_contexts x) ≡ true → shares c (x ∷ xs) ≡ 1 + shares c xs
shares-yes c x xs e = sum_by-cons (share c) x xs ∙ ap (λ (z : Bool). cond z 1 0 + shares c xs) e

shares-no : (c : ℕ) (x : Stop) (xs : List Stop) → has_context c (own_contexts x) ≡ false → shares c (x ∷ xs) ≡ shares c xs
shares-no c x xs e = sum_by-cons (share c) x xs ∙ ap (λ (z : Bool). cond z 1 0 + shares c xs) e ∙ none-more (shares c xs)

abbrev Lacks : ℕ → List ℕ → Type 0
Lacks c contexts = has_context c contexts ≡ false

none-share : (c : ℕ) (xs : List Stop) → All (Lacks c) (map own_contexts xs) → shares c xs ≡ 0
none-share c [] h = refl
none-share c (x ∷ xs) h =
    shares-no c x xs (All-head (Lacks c) (own_contexts x) (map own_contexts xs) h) ∙ none-share c xs (All-tail (Lacks c) (own_contexts x) (map own_contexts xs) h)

none-step : (c : ℕ) (x : Stop) (xs : List Stop) (b : Bool) → has_context c (own_contexts x) ≡ b → (shares c xs ≡ 0 → All (Lacks c) (map own_contexts xs)) → shares c (x ∷ xs) ≡ 0
    → All (Lacks c) (map own_contexts (x ∷ xs))
none-step c x xs true e rest h = let more = shares-yes c x xs e in let never : ⊥ = omega (arith, h, more) in absurd never
none-step c x xs false e rest h = All-cons (Lacks c) (own_contexts x) (map own_contexts xs) e (rest (sym (shares-no c x xs e) ∙ h))

share-none : (c : ℕ) (xs : List Stop) → shares c xs ≡ 0 → All (Lacks c) (map own_contexts xs)
share-none c [] h = All-nil (Lacks c)
share-none c (x ∷ xs) h = none-step c x xs (has_context c (own_contexts x)) refl (share-none c xs) h

-- they are apart where no two share one, in whatever order they come
few-step : (c : ℕ) (x : Stop) (xs : List Stop) (b : Bool) → has_context c (own_contexts x) ≡ b → AreApart (map own_contexts (x ∷ xs)) → shares c xs ≤ 1 → shares c (x ∷ xs) ≤ 1
few-step c x xs true e h few =
    let more = shares-yes c x xs e in
    let none = none-share c xs (h.0 c e) in
    omega (arith, more, none)
few-step c x xs false e h few = let same = shares-no c x xs e in omega (arith, same, few)

apart-few : (c : ℕ) (xs : List Stop) → AreApart (map own_contexts xs) → shares c xs ≤ 1
apart-few c [] h = omega arith
apart-few c (x ∷ xs) h = few-step c x xs (has_context c (own_contexts x)) refl h (apart-few c xs h.1)

only-one : (c : ℕ) (x : Stop) (xs : List Stop) → shares c (x ∷ xs) ≤ 1 → has_context c (own_contexts x) ≡ true → All (Lacks c) (map own_contexts xs)
only-one c x xs few e =
    let more = shares-yes c x xs e in
    let none : shares c xs ≡ 0 = omega (arith, more, few) in
    share-none c xs none

fewer : (c : ℕ) (x : Stop) (xs : List Stop) → shares c (x ∷ xs) ≤ 1 → shares c xs ≤ 1
fewer c x xs few = let more = sum_by-cons (share c) x xs in omega (arith, more, few)

few-apart : (xs : List Stop) → ((c : ℕ) → shares c xs ≤ 1) → AreApart (map own_contexts xs)
few-apart [] few = tt
few-apart (x ∷ xs) few = (λ c e. only-one c x xs (few c) e, few-apart xs (λ c. fewer c x xs (few c)))

-- those that do not matter have none
quiet-step : (free c : ℕ) (x : Stop) (xs : List Stop) (b : Bool) → is_loud free x ≡ b → shares c (filter (is_loud free) xs) ≡ shares c xs
    → shares c (cond b (x ∷ filter (is_loud free) xs) (filter (is_loud free) xs)) ≡ shares c (x ∷ xs)
quiet-step free c x xs true e rest = sum_by-cons (share c) x (filter (is_loud free) xs) ∙ ap (λ z. share c x + z) rest ∙ sym (sum_by-cons (share c) x xs)
quiet-step free c x xs false e rest = rest ∙ sym (shares-no c x xs (ap (has_context c) (no-contexts free x (quiet-stop free x e))))

quiet-shares : (free c : ℕ) (xs : List Stop) → shares c (filter (is_loud free) xs) ≡ shares c xs
quiet-shares free c [] = refl
quiet-shares free c (x ∷ xs) = quiet-step free c x xs (is_loud free x) refl (quiet-shares free c xs)

-- ---- a module with other items that declare the same

module _ (free : ℕ) (span : Span) (shebang : Option (List ℕ)) (at : Span) (ns ms : List Node) (ids : all_given gathering item_soughts ms ≡ all_given gathering item_soughts ns) where
  abbrev before : Node
  before = as_module span shebang at ns

  abbrev after : Node
  after = as_module span shebang at ms

  same-opens : opens role.Root after ≡ opens role.Root before
  same-opens = module-opens span shebang at ms ∙ sym (module-opens span shebang at ns)

  same-kind : kind_of after ≡ kind_of before
  same-kind = whole-kind span shebang at ms ∙ sym (whole-kind span shebang at ns)

  same-contexts : contexts_there after nowhere ≡ contexts_there before nowhere
  same-contexts = λ j. cond (same-opens j) (map (λ (id : Id). id.1) (own-ids-same span shebang at ns ms ids j)) []

  same-scopes : module_scopes span shebang at ms ≡ module_scopes span shebang at ns
  same-scopes = λ j. cond (same-opens j && covers role.Root (same-kind j) 0) (contexts_of (own-ids-same span shebang at ns ms ids j) ∷ []) []

  abbrev is_ident : Kind → Bool
  is_ident (kind.Ident sym ctxt optional) = true
  is_ident _ = false

  no-ident : {X : Type 0} (text : List ℕ) (ctxt : ℕ) (optional : Bool) → kind_of after ≡ kind.Ident text ctxt optional → X
  no-ident text ctxt optional e = no (ap is_ident (sym (whole-kind span shebang at ms) ∙ e))

  module-says : SaysItsScopes free before nowhere → SaysItsScopes free after nowhere
  module-says says = record {
    absent = λ h. no (sym (ap is_absent (whole-kind span shebang at ms)) ∙ h);
    names = λ text ctxt optional e is. no-ident text ctxt optional e;
    free_names = λ text ctxt optional e is none. no-ident text ctxt optional e;
    blocks = λ h is. no (sym (ap is_root is));
    parameters = λ h is. no is;
    not_free = ap (has_context free) same-contexts ∙ says.not_free;
    not_empty = ap (has_context 0) same-contexts ∙ says.not_empty;
  }

  abbrev Says : Stop → Type 0
  Says stop = SaysItsScopes free stop.node stop.around

  -- what the items come to, where there are these scopes
  abbrev stops_in : List Scope → List Node → List Stop
  stops_in scopes zs = all_given (coming free) (in_module scopes) zs

  abbrev Goes : (Stop → Type 0) → Type 0
  Goes P = (scopes : List Scope) → All P (stops_in scopes ns) → All P (stops_in scopes ms)

  pub scopes-said : Goes Says → All Says (stops 0 before) → All Says (stops 0 after)
  scopes-said goes = all-stops free span shebang at ns ms Says (λ stop e. quiet-says free stop (quiet-stop free stop e)) module-says same-scopes goes

  abbrev One : Stop → Type 0
  One stop = (c d : ℕ) → has_context c (contexts_there stop.node stop.around) ≡ true → has_context d (contexts_there stop.node stop.around) ≡ true → c ≡ d

  one-kept : Goes One → All One (stops 0 before) → All One (stops 0 after)
  one-kept goes =
      all-stops free span shebang at ns ms One (λ stop e. quiet-one free stop (quiet-stop free stop e))
      (λ one c d h g. one c d (sym (ap (has_context c) same-contexts) ∙ h) (sym (ap (has_context d) same-contexts) ∙ g)) same-scopes goes

  -- how many stops of a module share a context
  module-shares : (zs : List Node) (c : ℕ) → shares c (stops 0 (as_module span shebang at zs)) ≡ share c (module_stop span shebang at zs) + shares c (stops_in (module_scopes span shebang at zs) zs)
  module-shares zs c =
      ap (shares c) (module-stops span shebang at zs)
      ∙ sum_by-cons (share c) (module_stop span shebang at zs) (list_stops span shebang at zs)
      ∙ ap (λ n. share c (module_stop span shebang at zs) + n)
      (sym (quiet-shares free c (list_stops span shebang at zs)) ∙ ap (shares c) (list-comes free at (module_scopes span shebang at zs) zs))

  shares-same : ((scopes : List Scope) (c : ℕ) → shares c (stops_in scopes ms) ≡ shares c (stops_in scopes ns)) → (c : ℕ) → shares c (stops 0 after) ≡ shares c (stops 0 before)
  shares-same same c =
      module-shares ms c
      ∙ ap₂ (λ m n. m + n) (ap (λ (z : List ℕ). cond (has_context c z) 1 0) same-contexts)
      (ap (λ scopes. shares c (stops_in scopes ms)) same-scopes ∙ same (module_scopes span shebang at ns) c)
      ∙ sym (module-shares ns c)

  apart-kept : ((scopes : List Scope) (c : ℕ) → shares c (stops_in scopes ms) ≡ shares c (stops_in scopes ns)) → AreApart (map own_contexts (stops 0 before)) → AreApart (map own_contexts (stops 0 after))
  apart-kept same h = few-apart (stops 0 after) (λ c. subst (λ n. n ≤ 1) (sym (shares-same same c)) (apart-few c (stops 0 before) h))

  pub contexts-kept : Goes One → ((scopes : List Scope) (c : ℕ) → shares c (stops_in scopes ms) ≡ shares c (stops_in scopes ns)) → HasOwnContexts before → HasOwnContexts after
  contexts-kept goes same own = record { one = one-kept goes own.one; apart = apart-kept same own.apart }

-- ---- with assignments lowered

module _ (assign : TsImportExportAssignConfig) (free : ℕ) (ns : List Node) (items : AreItems ns) where
  lowered-stops : (scopes : List Scope) → all_given (coming free) (in_module scopes) (lowered_items assign free ns) ≡ all_given (coming free) (in_module scopes) (exports_last ns)
  lowered-stops scopes = given-lowered (coming free) assign free (in_module scopes) (stop-seats free scopes) ns items

  stops-go : (P : Stop → Type 0) (scopes : List Scope) → All P (all_given (coming free) (in_module scopes) ns) → All P (all_given (coming free) (in_module scopes) (lowered_items assign free ns))
  stops-go P scopes h = subst (All P) (sym (lowered-stops scopes)) (all-moved (coming free) (in_module scopes) P ns h)

  shares-go : (scopes : List Scope) (c : ℕ) → shares c (all_given (coming free) (in_module scopes) (lowered_items assign free ns)) ≡ shares c (all_given (coming free) (in_module scopes) ns)
  shares-go scopes c = ap (shares c) (lowered-stops scopes) ∙ total-moved (coming free) (in_module scopes) (share c) ns

pub lowered_trees_say_their_scopes : LoweredTreesSayTheirScopes
lowered_trees_say_their_scopes assign free tree fits taken kept says =
    where-it-is-lowered (λ t. All (λ (stop : Stop). SaysItsScopes free stop.node stop.around) (stops 0 t)) assign free tree fits.sorted
    (λ span shebang at ns items. scopes-said free span shebang at ns (lowered_items assign free ns) (lowered-ids assign free ns items)
    (stops-go assign free ns items (λ (stop : Stop). SaysItsScopes free stop.node stop.around)))
    says

pub lowered_trees_have_own_contexts : LoweredTreesHaveOwnContexts
lowered_trees_have_own_contexts assign free tree fits taken kept own =
    where-it-is-lowered HasOwnContexts assign free tree fits.sorted
    (λ span shebang at ns items. contexts-kept free span shebang at ns (lowered_items assign free ns) (lowered-ids assign free ns items)
    (stops-go assign free ns items
    (λ (stop : Stop). (c d : ℕ) → has_context c (contexts_there stop.node stop.around) ≡ true → has_context d (contexts_there stop.node stop.around) ≡ true → c ≡ d))
    (shares-go assign free ns items))
    own
