-- A resolved tree with its final texts runs as it does with its own.
use Rattle.std.proofs.Common.{◌≡◌, refl, sym, ap, ◌∙◌, subst, ℕ, ◌==◌, List, [], ◌∷◌, Option, Some, None, Bool, true, false, ◌||◌, bytes_eq, codes, unwrap_or}
use Rattle.std.specs.List.{All}
use Rattle.std.proofs.lemmas.Bool.{eqb-true}
use Rattle.std.proofs.lemmas.List.Elements.{All-cons, All-head, All-nil, All-tail}
use Rattle.ecma_tree.specs.Contexts.{with_contexts}
use Rattle.ecma_tree.specs.declared.node.Node.{Node}
use Rattle.ecma_scope.specs.declared.role.Role.TheVariants as role
use Rattle.ecma_scope.specs.Laws.{without_contexts}
use Rattle.ecma_scope.specs.Resolved.{resolved}
use Rattle.ecma_hygiene.specs.declared.naming.Named.{Named}
use Rattle.ecma_hygiene.specs.declared.sight.Sight.{Sight}
use Rattle.ecma_hygiene.specs.declared.spot.Spot.TheVariants as spot
use Rattle.ecma_hygiene.specs.Ids.{Id as HygieneId, same_id}
use Rattle.ecma_hygiene.specs.Laws.{is_seen}
use Rattle.ecma_hygiene.specs.Renamed.{Texts, text_of}
use Rattle.ecma_hygiene.specs.Renamed as hygiene
use Rattle.ecma_hygiene.specs.Sights.{meetings, nowhere, sights}
use Rattle.ecma_hygiene.specs.Texts.{HygienicTexts, is_bound, text_in}
use Rattle.ecma_hygiene.proofs.Telling.{id-refl, or-first, or-second, texts-tell-apart, true-false}
use Rattle.ecma_hygiene_scopes.proofs.Membership.{id-same}
use Rattle.ecma_hygiene_scopes.proofs.ReadingAgain.{is-read-again}
use Rattle.ecma_hygiene_scopes.proofs.Sameness.{contexts-stay}
use Rattle.ecma_hygiene_scopes.proofs.Stopping.{IsAmong, all-among}
use Rattle.ecma_config.specs.declared.config.Config.{Config}
use Rattle.ecma_runs.specs.declared.script.Script.{Script}
use Rattle.ecma_runs.specs.State.{Id, default_name}
use Rattle.ecma_runs.specs.Environment.{is_among}
use Rattle.ecma_runs.specs.Evaluation.{meaning}
use Rattle.ecma_runs.specs.Observation.{exports_in, observe}
use Rattle.ecma_runs.specs.Exports.{export_names}
use Rattle.ecma_runs.specs.Names.{TextsStay, renamed}
use Rattle.ecma_runs.proofs.EnumTrees.{Lacks}
use Rattle.ecma_runs.proofs.Standing.{Passes}
use Rattle.ecma_runs.proofs.Layers.{KeepsLayers, observe_lacking, same_exports, same_ids}
use Rattle.ecma_hygiene_runs.specs.Exports.{KeepsExportedTexts}
use Rattle.ecma_hygiene_runs.specs.ExportsApart.{exports_apart}
use Rattle.ecma_hygiene_runs.specs.FinalTexts.{final_id}
use Rattle.ecma_hygiene_runs.specs.KeyNames.{key_names_in}
use Rattle.ecma_hygiene_runs.specs.Laws.{FinalTextsKeepRuns, ReadingAgainKeepsRuns}
use Rattle.ecma_hygiene_runs.specs.Resolved.{IsResolved, KeepsApart}
use Rattle.ecma_hygiene_runs.specs.WrittenOut.{written_out}
use Rattle.ecma_hygiene_runs.proofs.Apart.{apart-passes, apart_layers, renamed-apart}
use Rattle.ecma_hygiene_runs.proofs.FinalTree.{turned-everywhere}
use Rattle.ecma_hygiene_runs.proofs.GivenTexts.{IsGiven, given-text}
use Rattle.ecma_hygiene_runs.proofs.KeptParts.{parts-kept}
use Rattle.ecma_hygiene_runs.proofs.KeysShown.{shown}
use Rattle.ecma_hygiene_runs.proofs.LackingEnums.{apart-lacks, final-lacks, out-lacks, renamed-lacks}
use Rattle.ecma_hygiene_runs.proofs.Passing.{out-passes, seen-passes}
use Rattle.ecma_hygiene_runs.proofs.Renaming.{Renames, renamed_kept}
use Rattle.ecma_hygiene_runs.proofs.WritingOut.{written_out_layers, written_out_shorthands_do_not_matter}

-- a map of trees that keeps the meaning of each layer keeps the ids that a tree declares

declared-kept : (f : Node → Node) → KeepsLayers f → (n : Node) → (meaning (f n)).declared ≡ (meaning n).declared
declared-kept f layers n = (parts-kept f layers n).declared ∙ same_ids (meaning n).declared

-- and what it exports
exports-kept : (f : Node → Node) → KeepsLayers f → (n : Node) → exports_in (f n) ≡ exports_in n
exports-kept f layers n = (parts-kept f layers n).exports None ∙ same_exports (exports_in n)

-- so it is with shorthands written out, and what is exported apart

declared-shown : (n : Node) → (meaning (shown n)).declared ≡ (meaning n).declared
declared-shown n = declared-kept exports_apart apart_layers (written_out n) ∙ declared-kept written_out written_out_layers n

exports-shown : (n : Node) → exports_in (shown n) ≡ exports_in n
exports-shown n = exports-kept exports_apart apart_layers (written_out n) ∙ exports-kept written_out written_out_layers n

module _ (onto : ℕ → ℕ) (tree : Node) (names : List Named) (are : HygienicTexts tree names) (exported : KeepsExportedTexts (text_of (text_in names)) tree) (is : IsResolved tree) (keeps : KeepsApart onto tree) where
  abbrev texts : Texts
  texts = text_in names

  abbrev seen : List Sight
  seen = sights tree

  abbrev to : Id → Id
  to = final_id onto texts

  abbrev given : (id : HygieneId) (text : List ℕ) → texts id ≡ Some text → IsGiven seen id text
  given id text e = given-text seen (λ other bound. (is.bindings other bound).apart) id text (meetings tree) names are e

  -- what has the empty context stays
  stays-by : (text : List ℕ) (o : Option (List ℕ)) → texts (text, 0) ≡ o → unwrap_or o text ≡ text
  stays-by text None e = refl
  stays-by text (Some t) e = absurd ((is.bindings (text, 0) (given (text, 0) t e).bound).inner refl)

  empty : (text : List ℕ) → text_of texts (text, 0) ≡ text
  empty text = stays-by text (texts (text, 0)) refl

  abbrev stands : Id → Bool
  stands id = id.ctxt == 0 || is_seen seen (id.sym, id.ctxt)

  outer : (text : List ℕ) (ctxt : ℕ) → ctxt == 0 ≡ true → stands (record { sym = text; ctxt = ctxt }) ≡ true
  outer text ctxt e = or-first (ctxt == 0) (is_seen seen (text, ctxt)) e

  abbrev Stands : Sight → Type 0
  Stands x = stands (record { sym = x.id.0; ctxt = x.id.1 }) ≡ true

  all-seen : (xs : List Sight) → All (IsAmong seen) xs → All Stands xs
  all-seen [] h = All-nil Stands
  all-seen (x ∷ xs) h =
      All-cons Stands x xs (or-second (x.id.1 == 0) (is_seen seen x.id) (All-head (IsAmong seen) x xs h (λ y. same_id y.id x.id) (id-refl x.id))) (all-seen xs (All-tail (IsAmong seen) x xs h))

  all-stand : Passes stands (shown tree)
  all-stand = apart-passes stands (written_out tree) (out-passes stands (λ text. refl) tree (seen-passes stands outer tree nowhere is.named (all-seen seen (all-among seen))))

  -- two names stay two

  seen-by : (id : Id) → id.ctxt == 0 ≡ false → stands id ≡ true → is_seen seen (id.sym, id.ctxt) ≡ true
  seen-by id e s = ap (λ b. b || is_seen seen (id.sym, id.ctxt)) (sym e) ∙ s

  abbrev Two : Id → Id → Type 0
  Two a b = ◌≡◌ {A = HygieneId} (a.sym, a.ctxt) (b.sym, b.ctxt) → ⊥

  -- where the texts in the source are one
  one-text : (a b : Id) → is_seen seen (a.sym, a.ctxt) ≡ true → is_seen seen (b.sym, b.ctxt) ≡ true → onto a.ctxt ≡ onto b.ctxt → Two a b → a.sym ≡ b.sym → ⊥
  one-text a b sa sb same two text =
      let ctxts = keeps.apart b.sym a.ctxt b.ctxt (ap (λ t. is_seen seen (t, a.ctxt)) (sym text) ∙ sa) sb same in
      two (λ i. (text i, ctxts i))

  -- where one of them is declared
  one-bound : (a b : Id) → is_seen seen (a.sym, a.ctxt) ≡ true → is_seen seen (b.sym, b.ctxt) ≡ true → is_bound seen (b.sym, b.ctxt) ≡ true → onto a.ctxt ≡ onto b.ctxt → Two a b
      → text_of texts (a.sym, a.ctxt) ≡ text_of texts (b.sym, b.ctxt) → ⊥
  one-bound a b sa sb bound same two text =
      texts-tell-apart seen (meetings tree) names (a.sym, a.ctxt) (b.sym, b.ctxt) are sa bound two (λ new old e. absurd (one-text a b sa sb same two e)) text

  seen-two : (a b : Id) → is_seen seen (a.sym, a.ctxt) ≡ true → is_seen seen (b.sym, b.ctxt) ≡ true → onto a.ctxt ≡ onto b.ctxt → Two a b → text_of texts (a.sym, a.ctxt) ≡ text_of texts (b.sym, b.ctxt)
      → (o p : Option (List ℕ)) → texts (a.sym, a.ctxt) ≡ o → texts (b.sym, b.ctxt) ≡ p → ⊥
  seen-two a b sa sb same two text o (Some u) e f = one-bound a b sa sb (given (b.sym, b.ctxt) u f).bound same two text
  seen-two a b sa sb same two text (Some t) None e f = one-bound b a sb sa (given (a.sym, a.ctxt) t e).bound (sym same) (λ h. two (sym h)) (sym text)
  seen-two a b sa sb same two text None None e f = one-text a b sa sb same two (sym (ap (λ o. unwrap_or o a.sym) e) ∙ text ∙ ap (λ o. unwrap_or o b.sym) f)

  -- where one of them has the empty context
  one-empty : (a b : Id) → a.ctxt == 0 ≡ true → b.ctxt == 0 ≡ false → is_seen seen (b.sym, b.ctxt) ≡ true → onto a.ctxt ≡ onto b.ctxt → ⊥
  one-empty a b ea eb sb same =
      let zero : b.ctxt ≡ 0 = keeps.inner b.sym b.ctxt sb (sym same ∙ ap onto (eqb-true a.ctxt 0 ea) ∙ keeps.none) in
      true-false (ap (λ c. c == 0) zero) eb

  told : (a b : Id) → stands a ≡ true → stands b ≡ true → onto a.ctxt ≡ onto b.ctxt → text_of texts (a.sym, a.ctxt) ≡ text_of texts (b.sym, b.ctxt) → Two a b
      → (p q : Bool) → a.ctxt == 0 ≡ p → b.ctxt == 0 ≡ q → ⊥
  told a b sa sb same text two true true e f =
      let za : a.ctxt ≡ 0 = eqb-true a.ctxt 0 e in
      let zb : b.ctxt ≡ 0 = eqb-true b.ctxt 0 f in
      let texts : a.sym ≡ b.sym = sym (empty a.sym) ∙ ap (λ c. text_of texts (a.sym, c)) (sym za) ∙ text ∙ ap (λ c. text_of texts (b.sym, c)) zb ∙ empty b.sym in
      two (λ i. (texts i, (za ∙ sym zb) i))
  told a b sa sb same text two true false e f = one-empty a b e f (seen-by b f sb) same
  told a b sa sb same text two false true e f = one-empty b a f e (seen-by a e sa) (sym same)
  told a b sa sb same text two false false e f = seen-two a b (seen-by a e sa) (seen-by b f sb) same two text (texts (a.sym, a.ctxt)) (texts (b.sym, b.ctxt)) refl refl

  one-by : (a b : Id) → stands a ≡ true → stands b ≡ true → to a ≡ to b → (t : Bool) → same_id (a.sym, a.ctxt) (b.sym, b.ctxt) ≡ t → a ≡ b
  one-by a b sa sb e true h = ap (λ id. record { sym = id.0; ctxt = id.1 }) (id-same (a.sym, a.ctxt) (b.sym, b.ctxt) h)
  one-by a b sa sb e false h =
      absurd (told a b sa sb (ap (λ id. id.ctxt) e) (ap (λ id. id.sym) e) (λ same. true-false (ap (λ z. same_id z (b.sym, b.ctxt)) same ∙ id-refl (b.sym, b.ctxt)) h)
      (a.ctxt == 0) (b.ctxt == 0) refl refl)

  -- keys, free names and `this` stay

  keys-stay : (ids : List Id) → All (λ id. id.ctxt ≡ 0) ids → TextsStay to ids
  keys-stay [] h = tt
  keys-stay (id ∷ ids) h = (ap (λ c. text_of texts (id.sym, c)) (All-head (λ id. id.ctxt ≡ 0) id ids h) ∙ empty id.sym, keys-stay ids (All-tail (λ id. id.ctxt ≡ 0) id ids h))

  exported-stay : (ids : List Id) → All (λ id. text_of texts (id.sym, id.ctxt) ≡ id.sym) ids → TextsStay to ids
  exported-stay [] h = tt
  exported-stay (id ∷ ids) h =
      (All-head (λ (id : Id). text_of texts (id.sym, id.ctxt) ≡ id.sym) id ids h, exported-stay ids (All-tail (λ (id : Id). text_of texts (id.sym, id.ctxt) ≡ id.sym) id ids h))

  free-by : (id : Id) → is_among id (meaning (shown tree)).declared ≡ false → (o : Option (List ℕ)) → texts (id.sym, id.ctxt) ≡ o → unwrap_or o id.sym ≡ id.sym
  free-by id free None e = refl
  free-by id free (Some t) e = absurd (true-false ((is.bindings (id.sym, id.ctxt) (given (id.sym, id.ctxt) t e).bound).declared) (ap (is_among id) (sym (declared-shown tree)) ∙ free))

  this-by : (id : Id) (o : Option (List ℕ)) → texts (id.sym, id.ctxt) ≡ o → bytes_eq (unwrap_or o id.sym) (codes "this") ≡ bytes_eq id.sym (codes "this")
  this-by id None e = refl
  this-by id (Some t) e = let g = given (id.sym, id.ctxt) t e in g.apart ∙ sym (is.bindings (id.sym, id.ctxt) g.bound).apart

  renames : Renames to (shown tree)
  renames = record {
    no_enums = apart-lacks (written_out tree) (out-lacks tree is.no_enums);
    stands = stands;
    all_stand = all-stand;
    one_to_one = λ a b sa sb e. one-by a b sa sb e (same_id (a.sym, a.ctxt) (b.sym, b.ctxt)) refl;
    key_texts = keys-stay (key_names_in (shown tree)) is.keys;
    free_texts = λ id s free. free-by id free (texts (id.sym, id.ctxt)) refl;
    this_stays = λ id s. this-by id (texts (id.sym, id.ctxt)) refl;
    default_stays = (outer default_name.sym 0 refl, λ i. record { sym = empty default_name.sym i; ctxt = keeps.none i });
    export_texts = subst (λ entries. TextsStay to (export_names entries)) (sym (exports-shown tree)) (exported-stay (export_names (exports_in tree)) exported);
  }

  pub final_runs : (turns : ℕ) (options : Config) (script : Script) → observe turns options (with_contexts (λ text ctxt. onto ctxt) (hygiene.renamed texts tree)) script ≡ observe turns options tree script
  final_runs turns options script =
      let out : Lacks (written_out tree) = out-lacks tree is.no_enums in
      sym (written_out_shorthands_do_not_matter turns options (with_contexts (λ text ctxt. onto ctxt) (hygiene.renamed texts tree)) script (final-lacks onto texts keeps.none tree is.no_enums))
      ∙ ap (λ n. observe turns options n script) (turned-everywhere onto texts keeps.none empty tree role.Root spot.Elsewhere is.named)
      ∙ sym (observe_lacking exports_apart apart_layers apart-lacks turns options (renamed to (written_out tree)) script (renamed-lacks to (written_out tree) out))
      ∙ ap (λ n. observe turns options n script) (sym (renamed-apart to (written_out tree)))
      ∙ renamed_kept to options (shown tree) renames turns script
      ∙ observe_lacking exports_apart apart_layers apart-lacks turns options (written_out tree) script out
      ∙ written_out_shorthands_do_not_matter turns options tree script is.no_enums

-- the tree with its own contexts

same-apart : (tree : Node) → KeepsApart (λ ctxt. ctxt) tree
same-apart tree = record { none = refl; inner = λ text ctxt s e. e; apart = λ text c d s t e. e }

pub final_texts_keep_runs : FinalTextsKeepRuns
final_texts_keep_runs turns options tree names script are exported is =
    ap (λ n. observe turns options n script) (sym (contexts-stay (hygiene.renamed (text_in names) tree))) ∙ final_runs (λ ctxt. ctxt) tree names are exported is (same-apart tree) turns options script

pub reading_again_keeps_runs : ReadingAgainKeepsRuns
reading_again_keeps_runs turns options unresolved top left to tree names script are exported right is keeps =
    ap (λ n. observe turns options n script)
    (sym (contexts-stay (resolved unresolved top left (without_contexts (hygiene.renamed (text_in names) tree)))) ∙ is-read-again unresolved top left (λ ctxt. ctxt) to tree names are keeps.none right)
    ∙ final_runs to tree names are exported is keeps turns options script
