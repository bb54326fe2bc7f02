-- Scopes of a tree with final texts beside those of the tree that it was: one states a text exactly where the other declares an id that is written so.
use Rattle.std.proofs.Common.{◌≡◌, ◌≢◌, ◌⊎◌, inl, inr, ℕ, Bool, true, false, ◌&&◌, ◌||◌, not, cond, filter, List, [], ◌∷◌, ◌++◌, map, Option, Some, None, refl, sym, ap, ◌∙◌, bytes_eq}
use Rattle.std.specs.List.{All, list_any}
use Rattle.std.proofs.lemmas.List.Elements.{All-head, All-tail}
use Rattle.std.proofs.lemmas.Slice.Eq.{bytes_eq-Decides}
use Rattle.ecma_kind.specs.declared.kind.Kind.{Kind}
use Rattle.ecma_tree.specs.declared.node.Node.{Node, out-Node}
use Rattle.ecma_scope.specs.declared.form.Declaration.{Declaration}
use Rattle.ecma_scope.specs.declared.role.Role.{Role}
use Rattle.ecma_scope.specs.declared.role.Role.TheVariants as role
use Rattle.ecma_scope.specs.Declarations.{declares, is_hoisted, is_own as is_own_name, is_stated, keeps, stated}
use Rattle.ecma_scope.specs.Resolved.{Scope as Frame, innermost as innermost_states}
use Rattle.ecma_hygiene.specs.Capture.{Writes}
use Rattle.ecma_hygiene.specs.Ids.{Id, Scope, has_context, innermost, is_block, is_body_block, is_function_body, is_own, same_id}
use Rattle.ecma_hygiene.specs.Renamed.{Texts, text_of}
use Rattle.ecma_hygiene.specs.Sights.{own_scope}
use Rattle.ecma_hygiene.proofs.Telling.{and-both, and-left, and-right, id-refl, or-first, or-second, text-refl, true-false}
use Rattle.ecma_hygiene_scopes.specs.DeclaredIds.{DeclaredId, scope_ids, with_text}
use Rattle.ecma_hygiene_scopes.proofs.Membership.{id-same, is_kept, own-agrees}

-- ---- what declarations state of a text

either : (b s x y : Bool) → (x ≡ true → y ≡ true) → (b && s) || x ≡ true → b || y ≡ true
either true s x y h e = refl
either false s x y h e = h e

keeps-declares : (ds : List Declaration) (text : List ℕ) → keeps ds text ≡ true → declares ds text ≡ true
keeps-declares [] text h = h
keeps-declares (d ∷ ds) text h =
    either (bytes_eq d.sym text) d.stays (list_any (λ e. bytes_eq e.sym text && e.stays) ds) (list_any (λ e. bytes_eq e.sym text) ds) (keeps-declares ds text) h

stated-kept : (ds : List Declaration) (text : List ℕ) → keeps ds text ≡ true → stated ds text ≡ Some true
stated-kept ds text h = (λ j. cond (keeps-declares ds text h j) (Some (h j)) None)

stated-by : (ds : List Declaration) (text : List ℕ) (b : Bool) → declares ds text ≡ b → (stated ds text ≡ None) ⊎ (declares ds text ≡ true)
stated-by ds text true is = inr is
stated-by ds text false is = inl (ap (λ (b : Bool). cond b (Some (keeps ds text)) None) is)

module _ (texts : Texts) where
  -- the declarations of a scope with these ids, where a test keeps some
  module _ (Q : DeclaredId → Type 0) (test : Declaration → Bool) where
    -- an id that stays, and passes the test, is kept with its text
    keeps-by : (b : Id) (d : DeclaredId) (ds : List Declaration) (same t : Bool) → same_id d.id b ≡ same → test (with_text texts d) ≡ t → (same_id d.id b ≡ true → test (with_text texts d) ≡ true)
        → ((same_id d.id b && d.stays) ≡ true) ⊎ (keeps ds (text_of texts b) ≡ true) → keeps (cond t (with_text texts d ∷ ds) ds) (text_of texts b) ≡ true
    keeps-by b d ds same true is tested passes (inr later) = or-second (bytes_eq (text_of texts d.id) (text_of texts b) && d.stays) (keeps ds (text_of texts b)) later
    keeps-by b d ds same false is tested passes (inr later) = later
    keeps-by b d ds same true is tested passes (inl here) =
        let equal : d.id ≡ b = id-same d.id b (and-left (same_id d.id b) d.stays here) in
        or-first (bytes_eq (text_of texts d.id) (text_of texts b) && d.stays) (keeps ds (text_of texts b))
        (and-both (bytes_eq (text_of texts d.id) (text_of texts b)) d.stays (ap (λ (i : Id). bytes_eq (text_of texts i) (text_of texts b)) equal ∙ text-refl (text_of texts b)) (and-right (same_id d.id b) d.stays here))
    keeps-by b d ds same false is tested passes (inl here) = absurd (true-false (passes (and-left (same_id d.id b) d.stays here)) tested)

    or-either : (x y : Bool) → (x || y) ≡ true → (x ≡ true) ⊎ (y ≡ true)
    or-either true y h = inl refl
    or-either false y h = inr h

    pub keeps-id : (b : Id) (ds : List DeclaredId) → All Q ds → ((d : DeclaredId) → d.id ≡ b → Q d → test (with_text texts d) ≡ true) → list_any (is_kept b) ds ≡ true
        → keeps (filter test (map (with_text texts) ds)) (text_of texts b) ≡ true
    keeps-id b [] all passes h = absurd (true-false h refl)
    keeps-id b (d ∷ ds) all passes h =
        keeps-by b d (filter test (map (with_text texts) ds)) (same_id d.id b) (test (with_text texts d)) refl refl (λ same. passes d (id-same d.id b same) (All-head Q d ds all))
        (elim (or-either (is_kept b d) (list_any (is_kept b) ds) h) [ inl here ↦ inl here | inr later ↦ inr (keeps-id b ds (All-tail Q d ds all) passes later) ])

    -- and what is declared with a text is an id that is written so
    pub record Found (text : List ℕ) (ds : List DeclaredId) : Type 0 where
      pub found : DeclaredId
      pub holds : Q found
      pub passes : test (with_text texts found) ≡ true
      pub is : text_of texts found.id ≡ text
      pub kept : list_any (is_kept found.id) ds ≡ true

    found-later : (text : List ℕ) (d : DeclaredId) (ds : List DeclaredId) → Found text ds → Found text (d ∷ ds)
    found-later text d ds f = record { found = f.found; holds = f.holds; passes = f.passes; is = f.is; kept = or-second (is_kept f.found.id d) (list_any (is_kept f.found.id) ds) f.kept }

    found-by : (text : List ℕ) (d : DeclaredId) (ds : List DeclaredId) (t : Bool) → test (with_text texts d) ≡ t → Q d → d.stays ≡ true → (declares (filter test (map (with_text texts) ds)) text ≡ true → Found text ds)
        → declares (cond t (with_text texts d ∷ filter test (map (with_text texts) ds)) (filter test (map (with_text texts) ds))) text ≡ true → Found text (d ∷ ds)
    found-by text d ds false tested holds stays rec h = found-later text d ds (rec h)
    found-by text d ds true tested holds stays rec h =
        elim (or-either (bytes_eq (text_of texts d.id) text) (declares (filter test (map (with_text texts) ds)) text) h) [
          | inl here ↦ record {
            found = d;
            holds = holds;
            passes = tested;
            is = (bytes_eq-Decides (text_of texts d.id) text).0 here;
            kept = or-first (is_kept d.id d) (list_any (is_kept d.id) ds) (and-both (same_id d.id d.id) d.stays (id-refl d.id) stays);
          }
          | inr later ↦ found-later text d ds (rec later)
        ]

    pub found-id : (text : List ℕ) (ds : List DeclaredId) → All Q ds → All (λ (d : DeclaredId). d.stays ≡ true) ds → declares (filter test (map (with_text texts) ds)) text ≡ true → Found text ds
    found-id text [] all stay h = absurd (true-false h refl)
    found-id text (d ∷ ds) all stay h =
        found-by text d ds (test (with_text texts d)) refl (All-head Q d ds all) (All-head (λ (d : DeclaredId). d.stays ≡ true) d ds stay)
        (found-id text ds (All-tail Q d ds all) (All-tail (λ (d : DeclaredId). d.stays ≡ true) d ds stay)) h

  module _ (from to : ℕ → ℕ) (is_binding : Id → Bool) where
    -- what a scope states of texts says which ids it declares
    pub record States (own : Scope) (states : List ℕ → Option Bool) : Type 0 where
      pub written : (b : Id) → has_context b.1 (own b.0) ≡ true → states (text_of texts b) ≡ Some true
      pub only : (text : List ℕ) → (states text ≡ None) ⊎ Writes texts own text
      pub bound : (b : Id) → has_context b.1 (own b.0) ≡ true → is_binding b ≡ true

    -- and gives them its context, up to both maps
    pub record Alike (own : Scope) (frame : Frame) : Type 0 where
      pub states : States own frame.states
      pub number : (b : Id) → has_context b.1 (own b.0) ≡ true → to b.1 ≡ from frame.ctxt

    -- scopes in force beside those of the tree that it was
    abbrev pub Like : List Scope → List Frame → Type 0
    Like [] [] = Unit {0}
    Like (w ∷ ws) (f ∷ fs) = Alike w f × Like ws fs
    Like _ _ = ⊥

    like-last : (ws : List Scope) (fs : List Frame) (w : Scope) (f : Frame) → Like ws fs → Alike w f → Like (ws ++ w ∷ []) (fs ++ f ∷ [])
    like-last [] [] w f like same = (same, tt)
    like-last [] (g ∷ fs) w f like same = absurd like
    like-last (v ∷ ws) [] w f like same = absurd like
    like-last (v ∷ ws) (g ∷ fs) w f like same = (like.0, like-last ws fs w f like.1 same)

    pub like-inside : (opened covered : Bool) (ws : List Scope) (fs : List Frame) (w : Scope) (f : Frame) → Like ws fs → (opened ≡ true → Alike w f)
        → Like (cond (opened && covered) (ws ++ w ∷ []) ws) (cond (opened && covered) (fs ++ f ∷ []) fs)
    like-inside false covered ws fs w f like same = like
    like-inside true false ws fs w f like same = like
    like-inside true true ws fs w f like same = like-last ws fs w f like (same refl)

    no-context : (b : Id) → has_context b.1 [] ≡ true → ⊥
    no-context b h = true-false h refl

    pub innermost-like : (ws : List Scope) (fs : List Frame) → Like ws fs → States (innermost ws) (innermost_states fs)
    innermost-like [] [] like = record { written = λ b h. absurd (no-context b h); only = λ text. inl refl; bound = λ b h. absurd (no-context b h) }
    innermost-like [] (f ∷ fs) like = absurd like
    innermost-like (w ∷ ws) [] like = absurd like
    innermost-like (w ∷ []) (f ∷ []) like = like.0.states
    innermost-like (w ∷ []) (f ∷ g ∷ fs) like = absurd like.1
    innermost-like (w ∷ v ∷ ws) (f ∷ []) like = absurd like.1
    innermost-like (w ∷ v ∷ ws) (f ∷ g ∷ fs) like = innermost-like (v ∷ ws) (g ∷ fs) like.1

    -- ---- the scope that a node opens

    module _ (r : Role) (scopes : List Scope) (n : Node) (around : List ℕ → Option Bool) (inner : States (innermost scopes) around)
        (stay : All (λ (d : DeclaredId). d.stays ≡ true) (scope_ids r n))
        (blocks : r ≡ role.Body → All (λ (d : DeclaredId). is_hoisted d.form ≡ true → is_block (out-Node n).kind ≡ true) (scope_ids r n))
        (parameters : is_body_block r (out-Node n).kind ≡ true → All (λ (d : DeclaredId). has_context d.id.1 (innermost scopes d.id.0) ≡ true → is_hoisted d.form ≡ true) (scope_ids r n))
        (bound_here : (b : Id) → has_context b.1 (own_scope r scopes n b.0) ≡ true → is_binding b ≡ true)
        (beside : is_body_block r (out-Node n).kind ≡ true → (p b : Id) → has_context p.1 (innermost scopes p.0) ≡ true → has_context b.1 (own_scope r scopes n b.0) ≡ true → p ≢ b → text_of texts p ≢ text_of texts b) where
      Both : DeclaredId → Type 0
      Both d = (r ≡ role.Body → is_hoisted d.form ≡ true → is_block (out-Node n).kind ≡ true)
          × (is_body_block r (out-Node n).kind ≡ true → has_context d.id.1 (innermost scopes d.id.0) ≡ true → is_hoisted d.form ≡ true)

      all-both : All Both (scope_ids r n)
      unfolding Both
      all-both k d lt = (λ body. blocks body k d lt, λ body. parameters body k d lt)

      not-hoisted : (h t : Bool) → h ≡ false → not (h && t) ≡ true
      not-hoisted true t is = cc
      not-hoisted false t is = refl

      not-stated : (h t : Bool) → t ≡ false → not (h && t) ≡ true
      not-stated true t is = ap not is
      not-stated false t is = refl

      abbrev body : Bool
      body = is_body_block r (out-Node n).kind

      -- an id of the scope passes the test by text
      passes-block : r ≡ role.Body → (b : Id) → has_context b.1 (own_scope r scopes n b.0) ≡ true → is_own body (innermost scopes) b ≡ true → (d : DeclaredId) → d.id ≡ b → body ≡ true
          → is_own_name role.Body around (with_text texts d) ≡ true
      passes-block is b own mine d same block =
          elim (inner.only (text_of texts b)) [
            | inl none ↦ not-stated (is_hoisted d.form) (is_stated (around (text_of texts d.id))) (ap (λ (i : Id). is_stated (around (text_of texts i))) same ∙ ap is_stated none)
            | inr writes ↦ absurd (beside block writes.binding b writes.declared own
                (λ equal. true-false mine (λ j. not (block j && (ap (λ (i : Id). has_context i.1 (innermost scopes i.0)) (sym equal) ∙ writes.declared) j)))
                writes.is)
          ]

      hoisted-only : (h : Bool) (d : DeclaredId) → is_hoisted d.form ≡ h → r ≡ role.Body → Both d → is_block (out-Node n).kind ≡ false → h ≡ false
      unfolding Both
      hoisted-only true d hoisted is q none = absurd (true-false (q.0 is hoisted) none)
      hoisted-only false d hoisted is q none = refl

      passes-by : (t : Bool) → is_block (out-Node n).kind ≡ t → r ≡ role.Body → (b : Id) → has_context b.1 (own_scope r scopes n b.0) ≡ true → is_own body (innermost scopes) b ≡ true
          → (d : DeclaredId) → d.id ≡ b → Both d → is_own_name role.Body around (with_text texts d) ≡ true
      passes-by true block is b own mine d same q = passes-block is b own mine d same (λ j. is_function_body (is j) && block j)
      passes-by false block is b own mine d same q = not-hoisted (is_hoisted d.form) (is_stated (around (text_of texts d.id))) (hoisted-only (is_hoisted d.form) d refl is q block)

      passes : (role_here : Role) → r ≡ role_here → (b : Id) → has_context b.1 (own_scope r scopes n b.0) ≡ true → is_own body (innermost scopes) b ≡ true
          → (d : DeclaredId) → d.id ≡ b → Both d → is_own_name role_here around (with_text texts d) ≡ true
      passes role.Body is b own mine d same q = passes-by (is_block (out-Node n).kind) refl is b own mine d same q
      passes _ is b own mine d same q = refl

      body-role : (q : Role) (k : Kind) → is_body_block q k ≡ true → q ≡ role.Body
      body-role role.Body k h = refl
      body-role _ k h = absurd (true-false h refl)

      -- and what passes it is an id of the scope
      own-by : (t h : Bool) (d : DeclaredId) → body ≡ t → has_context d.id.1 (innermost scopes d.id.0) ≡ h → Both d → is_own_name r around (with_text texts d) ≡ true → is_own body (innermost scopes) d.id ≡ true
      unfolding Both
      own-by false h d block has q passed = ap (λ (z : Bool). not (z && has_context d.id.1 (innermost scopes d.id.0))) block
      own-by true false d block has q passed = (λ j. not (block j && has j))
      own-by true true d block has q passed =
          let here : r ≡ role.Body = body-role r (out-Node n).kind block in
          absurd (true-false passed (ap (λ (z : Role). is_own_name z around (with_text texts d)) here ∙ (λ j. not (q.1 block has j && is_stated (inner.written d.id has j)))))

      abbrev ids : List DeclaredId
      ids = scope_ids r n

      abbrev declared : List Declaration
      declared = filter (is_own_name r around) (map (with_text texts) ids)

      only-own : (text : List ℕ) → declares declared text ≡ true → Writes texts (own_scope r scopes n) text
      only-own text h =
          let f = found-id Both (is_own_name r around) text ids all-both stay h in
          let mine = own-by body (has_context f.found.id.1 (innermost scopes f.found.id.0)) f.found refl refl f.holds f.passes in
          record {
            binding = f.found.id;
            declared = own-agrees f.found.id r scopes n ∙ and-both (list_any (is_kept f.found.id) ids) (is_own body (innermost scopes) f.found.id) f.kept mine;
            is = f.is;
          }

      pub states-own : States (own_scope r scopes n) (stated declared)
      states-own = record {
        written = λ b h. (let both = sym (own-agrees b r scopes n) ∙ h in
            let mine = and-right (list_any (is_kept b) ids) (is_own body (innermost scopes) b) both in
            stated-kept declared (text_of texts b)
            (keeps-id Both (is_own_name r around) b ids all-both (passes r refl b h mine) (and-left (list_any (is_kept b) ids) (is_own body (innermost scopes) b) both)));
        only = λ text. elim (stated-by declared text (declares declared text) refl) [ inl none ↦ inl none | inr there ↦ inr (only-own text there) ];
        bound = bound_here;
      }
