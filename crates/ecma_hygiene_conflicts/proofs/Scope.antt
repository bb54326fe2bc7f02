-- A scope with final texts: what is declared again in it was before.
use Rattle.std.proofs.Common.{◌≡◌, ◌⊎◌, inl, inr, ℕ, Bool, true, false, ◌&&◌, ◌||◌, not, cond, filter, List, [], ◌∷◌, ◌++◌, map, Option, Some, None, refl, sym, ap, ap₂, ◌∙◌, subst, bytes_eq, get_or}
use Rattle.std.specs.List.{All, Contains, list_any}
use Rattle.std.proofs.lemmas.List.Elements.{All-append, All-contains, All-head, All-tail, Contains-get_or}
use Rattle.std.proofs.lemmas.Slice.Eq.{bytes_eq-Decides}
use Rattle.ecma_kind.specs.declared.kind.Kind.{Kind}
use Rattle.ecma_kind.specs.declared.kind.Kind.TheVariants as kind
use Rattle.ecma_tree.specs.Nodes.{node_of}
use Rattle.ecma_tree.specs.declared.node.Node.{Node, out-Node}
use Rattle.ecma_scope.specs.declared.form.Declaration.{Declaration}
use Rattle.ecma_scope.specs.declared.form.Form.{Form}
use Rattle.ecma_scope.specs.declared.form.Form.TheVariants as form
use Rattle.ecma_scope.specs.declared.form.Part.TheVariants as part
use Rattle.ecma_scope.specs.declared.form.Sought.{Sought}
use Rattle.ecma_scope.specs.declared.role.Role.{Role}
use Rattle.ecma_scope.specs.declared.role.Role.TheVariants as role
use Rattle.ecma_scope.specs.Conflicts.{clashing, has_parameters, is_catch, is_further_out, marked, may_merge, meeting, own_clashes, passing, surrounds}
use Rattle.ecma_scope.specs.Declarations.{declares, holds_vars, is_hoisted, is_own, is_stated, keeps, names, stated}
use Rattle.ecma_scope.specs.Resolved.{is_name}
use Rattle.ecma_scope.specs.Scopes.{covers, is_ambient, is_there, opens, opens_by, role_by, role_in}
use Rattle.ecma_hygiene.specs.declared.naming.Named.{Named}
use Rattle.ecma_hygiene.specs.declared.sight.Meeting.{Meeting}
use Rattle.ecma_hygiene.specs.declared.sight.Sight.{Sight}
use Rattle.ecma_hygiene.specs.declared.spot.Spot.{Spot}
use Rattle.ecma_hygiene.specs.declared.spot.Standing.{Standing}
use Rattle.ecma_hygiene.specs.Ids.{Id, Scope, has_context, innermost, is_block, is_body_block, same_id}
use Rattle.ecma_hygiene.specs.Ids as ids
use Rattle.ecma_hygiene.specs.Laws.{is_seen}
use Rattle.ecma_hygiene.specs.Renamed.{Texts, standing_in, text_of}
use Rattle.ecma_hygiene.specs.Sights.{Around, around_child, own_scope, sights_at}
use Rattle.ecma_hygiene.specs.Texts.{AreTexts, is_bound, text_in}
use Rattle.ecma_hygiene.proofs.Bound.{own-bound}
use Rattle.ecma_hygiene.proofs.Telling.{and-both, and-right, id-refl, or-first, or-second, texts-tell-apart, true-false}
use Rattle.ecma_hygiene_scopes.specs.Apart.{IsScoped}
use Rattle.ecma_hygiene_scopes.specs.DeclaredIds.{DeclaredId, ids_declared, scope_ids, with_text}
use Rattle.ecma_hygiene_scopes.specs.Stops.{Stop}
use Rattle.ecma_hygiene_scopes.proofs.Forms.{forms, is_item_form}
use Rattle.ecma_hygiene_scopes.proofs.KindsTurned.{covers-same, holds-same, opens-same, role-same}
use Rattle.ecma_hygiene_scopes.proofs.Declaring.{plain-declares}
use Rattle.ecma_hygiene_scopes.proofs.Membership.{is_kept, own-agrees}
use Rattle.ecma_hygiene_scopes.proofs.Parts.{children-of, kind-of}
use Rattle.ecma_hygiene_scopes.proofs.Passing.{block-list, list-forms}
use Rattle.ecma_hygiene_scopes.proofs.Sameness.{declares-ids, no_text}
use Rattle.ecma_hygiene_scopes.proofs.Scoping.{plain-names-again, there-again}
use Rattle.ecma_hygiene_scopes.proofs.Stopping.{IsAmong, all-among}
use Rattle.ecma_hygiene_scopes.proofs.Written.{children_again, own_kind}
use Rattle.ecma_strip_conflicts.proofs.HasParameters.{HasParameters, has-parameters}
use Rattle.ecma_strip_conflicts.proofs.Scope.{names-ids}
use Rattle.ecma_hygiene_conflicts.specs.Merging.{MergesAsOne}
use Rattle.ecma_hygiene_conflicts.proofs.Lists.{Declared, Passed, clear}
use Rattle.ecma_hygiene_conflicts.proofs.Marks.{never, or-either, own-is}
use Rattle.ecma_hygiene_conflicts.proofs.Seen.{sees}
use Rattle.ecma_hygiene_conflicts.proofs.Staying.{all-cond, all-other, all-staying, bound-seen, kept-all, map-cond, staying-map}

abbrev pub empty : List ℕ → ℕ → ℕ
empty text ctxt = 0

-- ---- roles and forms

stated-is : (b s : Bool) → is_stated (cond b (Some s) None) ≡ b
stated-is true s = refl
stated-is false s = refl

inner-last : (scopes : List Scope) (w : Scope) → innermost (scopes ++ w ∷ []) ≡ w
inner-last [] w = refl
inner-last (v ∷ []) w = refl
inner-last (v ∷ u ∷ scopes) w = inner-last (u ∷ scopes) w

block-role : (r : Role) (k : Kind) → is_body_block r k ≡ true → r ≡ role.Body
block-role role.Body k h = refl
block-role _ k h = absurd (true-false h refl)

is-body : (r : Role) → ids.is_function_body r ≡ true → r ≡ role.Body
is-body role.Body h = refl
is-body _ h = absurd (true-false h refl)

block-holds : (k : Kind) → is_block k ≡ true → holds_vars role.Body k ≡ true
unfolding holds_vars
block-holds kind.BlockStmt h = refl
block-holds _ h = absurd (true-false h refl)

item-uncaught : (f : Form) → is_item_form f ≡ true → is_catch f ≡ false
item-uncaught form.Catch h = absurd (true-false h refl)
item-uncaught _ h = refl

abbrev Uncaught : DeclaredId → Type 0
Uncaught d = is_catch d.form ≡ false

body-uncaught : (n : Node) → is_block (out-Node n).kind ≡ true → All Uncaught (scope_ids role.Body n)
body-uncaught n block =
    All-append Uncaught (ids_declared n (record { part = part.Scope; stays = true })) (cond (holds_vars role.Body (out-Node n).kind) (ids_declared n (record { part = part.Var; stays = true })) [])
    (λ k d lt. item-uncaught _ (list-forms n true (block-list (out-Node n).kind block) k d lt))
    (all-cond Uncaught (holds_vars role.Body (out-Node n).kind) (ids_declared n (record { part = part.Var; stays = true })) (λ k d lt. ap is_catch (forms n (record { part = part.Var; stays = true }) k d lt)))

module _ (seen : List Sight) (met : List Meeting) (names_of : List Named) (are : AreTexts seen met names_of) where
  abbrev texts : Texts
  texts = text_in names_of

  -- names with one text had one text
  tell : (a b : Id) → is_seen seen a ≡ true → is_bound seen b ≡ true → text_of texts a ≡ text_of texts b → a.0 ≡ b.0
  tell a b sees binds same = by (bytes_eq a.0 b.0) refl
    where
      differ : bytes_eq a.0 b.0 ≡ false → a.0 ≡ b.0 → ⊥
      differ is equal = true-false ((bytes_eq-Decides a.0 b.0).1 equal) is

      by : (t : Bool) → bytes_eq a.0 b.0 ≡ t → a.0 ≡ b.0
      by true is = (bytes_eq-Decides a.0 b.0).0 is
      by false is = absurd (texts-tell-apart seen met names_of a b are sees binds (λ equal. differ is (ap (λ (i : Id). i.0) equal)) (λ old also equal. absurd (differ is equal)) same)

  -- what scopes around the body of a function or the block of a `catch` state, by the texts before and by final texts, and that what the innermost scope declares is bound
  pub record Sound (r : Role) (before after : List ℕ → Option Bool) (scope : Scope) : Type 0 where
    pub written : has_parameters r ≡ true → (x : Id) → is_bound seen x ≡ true → is_stated (after (text_of texts x)) ≡ true → is_stated (before x.0) ≡ true
    pub bound : (x : Id) → has_context x.1 (scope x.0) ≡ true → is_bound seen x ≡ true

  module _ (free : ℕ) (n : Node) (s : Around) (at : Spot) (left : ℕ) (before after : List ℕ → Option Bool) where
    abbrev r : Role
    r = s.role

    abbrev k : Kind
    k = (out-Node n).kind

    abbrev stands : Standing
    stands = record { role = r; spot = at }

    abbrev stop : Stop
    stop = record { node = n; around = s; left = left }

    abbrev old : DeclaredId → Declaration
    old = with_text no_text

    abbrev new : DeclaredId → Declaration
    new = with_text texts

    abbrev all : List DeclaredId
    all = scope_ids r n

    abbrev var : Sought
    var = record { part = part.Var; stays = not (is_ambient r) }

    -- the `var` names that pass through
    abbrev passed : List DeclaredId
    passed = cond (holds_vars r k) [] (filter (λ d. d.stays) (ids_declared n var))

    abbrev own_before : List Declaration
    own_before = filter (is_own r before) (map old all)

    abbrev own_after : List Declaration
    own_after = filter (is_own r after) (map new all)

    -- the node with its final texts, before a shorthand is written out
    abbrev pub plain : Node
    plain = node_of (out-Node n).span (own_kind empty texts n stands) (children_again empty texts n stands)

    abbrev cs : List Node
    cs = children_again empty texts n stands

    opens-plain : opens r plain ≡ opens r n
    opens-plain =
        ap₂ (λ (z : Kind) (zs : List Node). opens_by r z (is_there zs 0)) (kind-of (out-Node n).span (own_kind empty texts n stands) cs) (children-of (out-Node n).span (own_kind empty texts n stands) cs)
        ∙ opens-same empty texts (is_name r) r k (is_there cs 0)
        ∙ ap (opens_by r k) (there-again empty texts (λ text. refl) (standing_in stands n) 0 (out-Node n).children 0)

    role-plain : (i : ℕ) → role_in r plain i ≡ role_in r n i
    role-plain i =
        ap₂ (λ (z : Kind) (zs : List Node). role_by r z (is_there zs 1) i) (kind-of (out-Node n).span (own_kind empty texts n stands) cs) (children-of (out-Node n).span (own_kind empty texts n stands) cs)
        ∙ role-same empty texts (is_name r) r k (is_there cs 1) i
        ∙ ap (λ (b : Bool). role_by r k b i) (there-again empty texts (λ text. refl) (standing_in stands n) 0 (out-Node n).children 1)

    covers-plain : (i : ℕ) → covers r (out-Node plain).kind i ≡ covers r k i
    covers-plain i = ap (λ (z : Kind). covers r z i) (kind-of (out-Node n).span (own_kind empty texts n stands) cs) ∙ covers-same empty texts (is_name r) r k i

    names-before : names r before n ≡ own_before
    names-before = ap (filter (is_own r before)) (names-ids r n)

    names-after : names r after plain ≡ own_after
    names-after = plain-names-again empty texts (λ text. refl) n stands after

    passing-before : passing r n ≡ map old passed
    passing-before =
        ap (λ (ds : List Declaration). cond (holds_vars r k) [] (filter (λ d. d.stays) ds)) (declares-ids n var)
        ∙ ap (λ (ds : List Declaration). cond (holds_vars r k) [] ds) (staying-map no_text (ids_declared n var))
        ∙ map-cond old (holds_vars r k) (filter (λ d. d.stays) (ids_declared n var))

    passing-after : passing r plain ≡ map new passed
    passing-after =
        ap₂ (λ (b : Bool) (ds : List Declaration). cond b [] (filter (λ d. d.stays) ds))
        (ap (holds_vars r) (kind-of (out-Node n).span (own_kind empty texts n stands) cs) ∙ holds-same empty texts (is_name r) r k)
        (plain-declares empty texts (λ text. refl) n stands var (λ h. absurd (true-false h refl)))
        ∙ ap (λ (ds : List Declaration). cond (holds_vars r k) [] ds) (staying-map texts (ids_declared n var))
        ∙ map-cond new (holds_vars r k) (filter (λ d. d.stays) (ids_declared n var))

    meeting-before : All (λ (d : DeclaredId). d.stays ≡ true) all → meeting r before n ≡ marked [] own_before ++ map old passed
    meeting-before stay =
        (λ j. marked [] (filter (λ d. d.stays || is_further_out r before (passing-before j) d.sym) (names-before j)) ++ passing-before j)
        ∙ ap (λ (ds : List Declaration). marked [] ds ++ map old passed)
        (kept-all (λ d. d.stays || is_further_out r before (map old passed) d.sym) (is_own r before) old all (λ d h. or-first d.stays (is_further_out r before (map old passed) d.id.0) h) stay)

    meeting-after : All (λ (d : DeclaredId). d.stays ≡ true) all → meeting r after plain ≡ marked [] own_after ++ map new passed
    meeting-after stay =
        (λ j. marked [] (filter (λ d. d.stays || is_further_out r after (passing-after j) d.sym) (names-after j)) ++ passing-after j)
        ∙ ap (λ (ds : List Declaration). marked [] ds ++ map new passed)
        (kept-all (λ d. d.stays || is_further_out r after (map new passed) d.sym) (is_own r after) new all (λ d h. or-first d.stays (is_further_out r after (map new passed) (text_of texts d.id)) h) stay)

    -- what the node states to its children
    abbrev pub states_before : ℕ → List ℕ → Option Bool
    states_before i = cond (opens r n && covers r k i) (stated (names r before n)) before

    abbrev pub states_after : ℕ → List ℕ → Option Bool
    states_after i = cond (opens r n && covers r k i) (stated own_after) after

    pub surrounds-plain : (i : ℕ) → surrounds (record { role = r; around = after }) plain i ≡ record { role = role_in r n i; around = states_after i }
    surrounds-plain i = (λ j. record { role = role-plain i j; around = cond (opens-plain j && covers-plain i j) (stated (names-after j)) after })

    module _ (scoped : IsScoped free stop) (merging : MergesAsOne stop) (within : (f : Sight → Bool) → list_any f (sights_at n s) ≡ true → list_any f seen ≡ true) (sound : Sound r before after (innermost s.scopes)) where
      abbrev body : Bool
      body = is_body_block r k

      module _ (opened : opens r n ≡ true) where
        stay : All (λ (d : DeclaredId). d.stays ≡ true) all
        stay = (scoped.declares opened).stay

        own-binds : (x : Id) → has_context x.1 (own_scope r s.scopes n x.0) ≡ true → is_bound seen x ≡ true
        own-binds x h = within (λ y. same_id y.id x && y.declares) (own-bound n s x opened h)

        -- one of the ids that are declared
        abbrev IsOne : DeclaredId → Type 0
        IsOne d = list_any (is_kept d.id) all ≡ true

        kept-one : (d : DeclaredId) → IsAmong all d → d.stays ≡ true → IsOne d
        kept-one d among stays = among (is_kept d.id) (and-both (same_id d.id d.id) d.stays (id-refl d.id) stays)

        ones : All IsOne all
        ones i d lt = kept-one (get_or all i d) (all-among all i d lt) (stay i d lt)

        is-bound : (d : DeclaredId) → IsOne d → is_bound seen d.id ≡ true
        is-bound d is = by (ids.is_own body (innermost s.scopes) d.id) refl
          where
            of-body : (b h : Bool) → not (b && h) ≡ false → h ≡ true
            of-body true true none = refl
            of-body true false none = absurd (true-false refl none)
            of-body false h none = absurd (true-false refl none)

            by : (t : Bool) → ids.is_own body (innermost s.scopes) d.id ≡ t → is_bound seen d.id ≡ true
            by true own = own-binds d.id (own-agrees d.id r s.scopes n ∙ and-both (list_any (is_kept d.id) all) (ids.is_own body (innermost s.scopes) d.id) is own)
            by false own = sound.bound d.id (of-body body (has_context d.id.1 (innermost s.scopes d.id.0)) own)

        -- what merges is one variable
        one : (d e : DeclaredId) → Contains all d → Contains all e → may_merge d.form ≡ true → e.id.0 ≡ d.id.0 → e.id ≡ d.id
        one d e here also may =
            All-contains (λ (x : DeclaredId). x.id.0 ≡ d.id.0 → x.id ≡ d.id) all e
            (All-contains (λ (y : DeclaredId). may_merge y.form ≡ true → All (λ (x : DeclaredId). x.id.0 ≡ y.id.0 → x.id ≡ y.id) all) all d merging here may) also

        abbrev IsDeclared : DeclaredId → Type 0
        IsDeclared = Declared r before after texts body all (is_seen seen) (is_bound seen) tell one sound.written

        abbrev IsPassed : DeclaredId → Type 0
        IsPassed = Passed r before after texts body all (is_seen seen) (is_bound seen) tell one sound.written

        uncaught : body ≡ true → All Uncaught all
        uncaught block = subst (λ (z : Role). All Uncaught (scope_ids z n)) (sym (block-role r k block)) (body-uncaught n (block-is r k block))
          where
            block-is : (q : Role) (z : Kind) → is_body_block q z ≡ true → is_block z ≡ true
            block-is q z h = and-right (ids.is_function_body q) (is_block z) h

        body-is : (r ≡ role.Body) → is_block k ≡ true → body ≡ true
        body-is is block = (λ j. ids.is_function_body (is j) && block j)

        declared-one : (d : DeclaredId) → IsOne d → Contains all d → (r ≡ role.Body → is_hoisted d.form ≡ true → is_block k ≡ true) → (body ≡ true → Uncaught d) → IsDeclared d
        declared-one d is there blocks free_of_catch = record {
          seen_it = bound-seen seen d.id (is-bound d is);
          bound = is-bound d is;
          hoisted = λ in_body hoisted. body-is (is-body r in_body) (blocks (is-body r in_body) hoisted);
          uncaught = free_of_catch;
          here = there;
        }

        all-declared : All IsDeclared all
        all-declared i d lt = declared-one (get_or all i d) (ones i d lt) (Contains-get_or all i d lt) (λ is. (scoped.declares opened).blocks is i d lt) (λ block. uncaught block i d lt)

        var-passed : All IsPassed (ids_declared n var)
        var-passed i d lt = record { seen_it = within (λ y. same_id y.id _) (sees n var s (λ h. absurd (true-false h refl)) i d lt); is = forms n var i d lt }

        all-passed : All IsPassed passed
        all-passed = all-other IsPassed (holds_vars r k) (filter (λ d. d.stays) (ids_declared n var)) (all-staying IsPassed (ids_declared n var) var-passed)

        clashing-none : clashing r before [] (meeting r before n) ≡ [] → clashing r after [] (meeting r after plain) ≡ []
        clashing-none h =
            ap (clashing r after []) (meeting-after stay)
            ∙ clear r before after texts body all (is_seen seen) (is_bound seen) tell one sound.written all passed all-declared all-passed
            (sym (ap (clashing r before []) (meeting-before stay)) ∙ h)

        -- ---- around the body of a function and the block of a `catch`

        module _ (i : ℕ) (has : HasParameters r k i) where
          all-own : All (λ d. is_own r before (old d) ≡ true) all
          all-own j d lt = own-one (get_or all j d) (λ is. (scoped.declares opened).blocks is j d lt)
            where
              own-one : (d : DeclaredId) → (r ≡ role.Body → is_hoisted d.form ≡ true → is_block k ≡ true) → is_own r before (old d) ≡ true
              own-one d blocks =
                  own-is r before (old d)
                  ∙ ap not (never (ids.is_function_body r) (is_hoisted d.form) (is_stated (before d.id.0))
                  (λ in_body hoisted stated.
                  (let is : r ≡ role.Body = is-body r in_body in
                  true-false (ap (λ (z : Role). holds_vars z k) is ∙ block-holds k (blocks is hoisted)) has.holds)))

          declares-one : (d : DeclaredId) (ds : List DeclaredId) (text : List ℕ) → is_own r before (old d) ≡ true → (bytes_eq d.id.0 text ≡ true) ⊎ (declares (filter (is_own r before) (map old ds)) text ≡ true)
              → declares (filter (is_own r before) (map old (d ∷ ds))) text ≡ true
          declares-one d ds text own which =
              ap (λ (b : Bool). declares (cond b (old d ∷ filter (is_own r before) (map old ds)) (filter (is_own r before) (map old ds))) text) own ∙ by which
            where
              by : (bytes_eq d.id.0 text ≡ true) ⊎ (declares (filter (is_own r before) (map old ds)) text ≡ true) → (bytes_eq d.id.0 text || declares (filter (is_own r before) (map old ds)) text) ≡ true
              by (inl here) = or-first (bytes_eq d.id.0 text) (declares (filter (is_own r before) (map old ds)) text) here
              by (inr later) = or-second (bytes_eq d.id.0 text) (declares (filter (is_own r before) (map old ds)) text) later

          declares-before : (x : Id) → is_bound seen x ≡ true → (ds : List DeclaredId) → All (λ d. is_own r before (old d) ≡ true) ds → All IsDeclared ds
              → declares (filter (is_own r after) (map new ds)) (text_of texts x) ≡ true → declares (filter (is_own r before) (map old ds)) x.0 ≡ true
          declares-before x binds [] own known h = h
          declares-before x binds (d ∷ ds) own known h =
              declares-one d ds x.0 (All-head (λ d. is_own r before (old d) ≡ true) d ds own)
              (by (is_own r after (new d)) h (declares-before x binds ds (All-tail (λ d. is_own r before (old d) ≡ true) d ds own) (All-tail IsDeclared d ds known)))
            where
              here : bytes_eq (text_of texts d.id) (text_of texts x) ≡ true → bytes_eq d.id.0 x.0 ≡ true
              here is = (bytes_eq-Decides d.id.0 x.0).1 (tell d.id x (All-head IsDeclared d ds known).seen_it binds ((bytes_eq-Decides (text_of texts d.id) (text_of texts x)).0 is))

              by : (b : Bool) → declares (cond b (new d ∷ filter (is_own r after) (map new ds)) (filter (is_own r after) (map new ds))) (text_of texts x) ≡ true
                  → (declares (filter (is_own r after) (map new ds)) (text_of texts x) ≡ true → declares (filter (is_own r before) (map old ds)) x.0 ≡ true)
                  → (bytes_eq d.id.0 x.0 ≡ true) ⊎ (declares (filter (is_own r before) (map old ds)) x.0 ≡ true)
              by true h rec = elim (or-either (bytes_eq (text_of texts d.id) (text_of texts x)) (declares (filter (is_own r after) (map new ds)) (text_of texts x)) h) [ inl is ↦ inl (here is) | inr later ↦ inr (rec later) ]
              by false h rec = inr (rec h)

          covered : (opens r n && covers r k i) ≡ true
          covered = and-both (opens r n) (covers r k i) opened has.covers

          before-is : (text : List ℕ) → is_stated (states_before i text) ≡ declares own_before text
          before-is text =
              (λ j. is_stated (cond (covered j) (stated (names-before j)) before text)) ∙ stated-is (declares own_before text) (keeps own_before text)

          after-is : (text : List ℕ) → is_stated (states_after i text) ≡ declares own_after text
          after-is text = (λ j. is_stated (cond (covered j) (stated own_after) after text)) ∙ stated-is (declares own_after text) (keeps own_after text)

          body-written : (x : Id) → is_bound seen x ≡ true → is_stated (states_after i (text_of texts x)) ≡ true → is_stated (states_before i x.0) ≡ true
          body-written x binds h = before-is x.0 ∙ declares-before x binds all all-own all-declared (sym (after-is (text_of texts x)) ∙ h)

      has-of : (i : ℕ) → has_parameters (role_in r n i) ≡ true → HasParameters r k i
      has-of i is = has-parameters r k (is_there (out-Node n).children 1) i is

      opens-of : (i : ℕ) → HasParameters r k i → opens r n ≡ true
      opens-of i has = has.opens (is_there (out-Node n).children 0)

      inner-bound : (i : ℕ) (o c : Bool) → opens r n ≡ o → (x : Id) → has_context x.1 (innermost (cond (o && c) (s.scopes ++ own_scope r s.scopes n ∷ []) s.scopes) x.0) ≡ true → is_bound seen x ≡ true
      inner-bound i true true is x h = own-binds is x (sym (ap (λ (w : Scope). has_context x.1 (w x.0)) (inner-last s.scopes (own_scope r s.scopes n))) ∙ h)
      inner-bound i true false is x h = sound.bound x h
      inner-bound i false c is x h = sound.bound x h

      pub sound-below : (i : ℕ) → Sound (role_in r n i) (states_before i) (states_after i) (innermost (around_child s n i).scopes)
      sound-below i = record {
        written = λ is. body-written (opens-of i (has-of i is)) i (has-of i is);
        bound = inner-bound i (opens r n) (covers r k i) refl;
      }

      pub own-clear : own_clashes (record { role = r; around = before }) n ≡ [] → own_clashes (record { role = r; around = after }) plain ≡ []
      own-clear h = ap (λ (b : Bool). cond b (clashing r after [] (meeting r after plain)) []) opens-plain ∙ by (opens r n) refl h
        where
          by : (b : Bool) → opens r n ≡ b → cond b (clashing r before [] (meeting r before n)) [] ≡ [] → cond b (clashing r after [] (meeting r after plain)) [] ≡ []
          by true is none = clashing-none is none
          by false is none = refl
