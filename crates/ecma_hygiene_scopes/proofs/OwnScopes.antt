-- The scope of a node of a resolved tree declares its ids in its own context.
use Rattle.std.proofs.Common.{◌≡◌, ◌⊎◌, inl, inr, ℕ, ◌==◌, Bool, true, false, ◌&&◌, ◌||◌, not, cond, filter, List, [], ◌∷◌, ◌++◌, map, Option, Some, None, refl, sym, ap, ap₂, ◌∙◌, subst, get_or, bytes_eq}
use Rattle.std.specs.List.{All, list_any}
use Rattle.std.proofs.lemmas.List.{map-append}
use Rattle.std.proofs.lemmas.List.Elements.{All-append, All-cons, All-head, All-nil, All-tail}
use Rattle.std.proofs.lemmas.Slice.Eq.{bytes_eq-Decides}
use Rattle.ecma_kind.specs.declared.kind.Kind.{Kind}
use Rattle.ecma_kind.specs.declared.kind.Kind.TheVariants as kind
use Rattle.ecma_tree.specs.declared.node.Node.{Node, out-Node}
use Rattle.ecma_tree.specs.Values.{is_value_where}
use Rattle.ecma_scope.specs.declared.form.Declaration.{Declaration}
use Rattle.ecma_scope.specs.declared.form.Form.{Form}
use Rattle.ecma_scope.specs.declared.form.Form.TheVariants as form
use Rattle.ecma_scope.specs.declared.form.Part.TheVariants as part
use Rattle.ecma_scope.specs.declared.form.Sought.{Sought}
use Rattle.ecma_scope.specs.declared.role.Role.{Role}
use Rattle.ecma_scope.specs.declared.role.Role.TheVariants as role
use Rattle.ecma_scope.specs.Conflicts.{clashing, has_parameters, is_lexical, marked, meeting, passing}
use Rattle.ecma_scope.specs.Declarations.{declarations, declares, holds_vars, in_scope, is_hoisted, is_own as is_own_name, is_stated, keeps, names, own_part, sought_in, vars_of}
use Rattle.ecma_scope.specs.Resolved.{Scope as Frame, context_in, given, innermost as innermost_states, resolved_at}
use Rattle.ecma_scope.specs.Scopes.{is_ambient, opens}
use Rattle.ecma_hygiene.specs.Ids.{Id, Scope, has_context, innermost, is_block, is_body_block, is_function_body as is_body_role, is_own}
use Rattle.ecma_hygiene.specs.Sights.{own_scope}
use Rattle.ecma_hygiene.proofs.Telling.{and-both, and-left, and-right, or-first, or-second, text-refl, true-false}
use Rattle.ecma_hygiene_scopes.specs.DeclaredIds.{DeclaredId, id_here, ids_declared, scope_ids, with_text}
use Rattle.ecma_hygiene_scopes.specs.Seats.{all_names}
use Rattle.ecma_hygiene_scopes.proofs.Alike.{keeps-id}
use Rattle.ecma_hygiene_scopes.proofs.Clashes.{Stays, all-filter, body-none, counted}
use Rattle.ecma_hygiene_scopes.proofs.Crossing.{context-last}
use Rattle.ecma_hygiene_scopes.proofs.Directly.{Given, place_in}
use Rattle.ecma_hygiene_scopes.proofs.Forms.{Allowed, Formed, forms, forms-by, is_item_form}
use Rattle.ecma_hygiene_scopes.proofs.Goodness.{Fits, Good, fits-here, frame_of, is_body_kind, own-clear}
use Rattle.ecma_hygiene_scopes.proofs.Keeping.{AllKeep, Keeps, inner-only, inner-written, kept-declared, kept-id, kept-stated, stated-kept}
use Rattle.ecma_hygiene_scopes.proofs.Membership.{id-same, is_kept, own-agrees}
use Rattle.ecma_hygiene_scopes.proofs.Owning.{own-given}
use Rattle.ecma_hygiene_scopes.proofs.Passing.{all-map, block-list, clear-cond, list-forms, map-all}
use Rattle.ecma_hygiene_scopes.proofs.Settling.{Settled}
use Rattle.ecma_hygiene_scopes.proofs.Sameness.{declares-ids, declares-resolved, kind-resolved, no_text}

abbrev pub same_context : ℕ → ℕ
same_context ctxt = ctxt

-- ---- lists

-- what passes a test is declared by those that pass it
filter-declares : (test : Declaration → Bool) (ds : List DeclaredId) → All (λ d. test (with_text no_text d) ≡ true → declares (filter test (map (with_text no_text) ds)) d.id.0 ≡ true) ds
filter-declares test [] = All-nil (λ d. test (with_text no_text d) ≡ true → declares [] d.id.0 ≡ true)
filter-declares test (d ∷ ds) =
    All-cons (λ e. test (with_text no_text e) ≡ true → declares (filter test (map (with_text no_text) (d ∷ ds))) e.id.0 ≡ true) d ds
    (λ passes. ap (λ (b : Bool). declares (cond b (with_text no_text d ∷ filter test (map (with_text no_text) ds)) (filter test (map (with_text no_text) ds))) d.id.0) passes
    ∙ or-first (bytes_eq d.id.0 d.id.0) (declares (filter test (map (with_text no_text) ds)) d.id.0) (text-refl d.id.0))
    (λ k e lt passes. more (test (with_text no_text d)) (get_or ds k e).id.0 (filter-declares test ds k e lt passes))
  where
    more : (b : Bool) (text : List ℕ) → declares (filter test (map (with_text no_text) ds)) text ≡ true → declares (cond b (with_text no_text d ∷ filter test (map (with_text no_text) ds)) (filter test (map (with_text no_text) ds))) text ≡ true
    more true text h = or-second (bytes_eq d.id.0 text) (declares (filter test (map (with_text no_text) ds)) text) h
    more false text h = h

lexical-by : (g : Form) → ((is_item_form g ≡ true) ⊎ (g ≡ form.Var)) → is_hoisted g ≡ false → is_lexical role.Body g ≡ true
lexical-by g (inr is) h = absurd (true-false (ap is_hoisted is) h)
lexical-by form.Import (inl is) h = refl
lexical-by form.Lexical (inl is) h = refl
lexical-by form.Class (inl is) h = refl
lexical-by form.Enum (inl is) h = refl
lexical-by form.Namespace (inl is) h = refl
lexical-by form.Function (inl is) h = absurd (true-false refl h)
lexical-by _ (inl is) h = absurd (true-false is refl)

module _ (unresolved top : ℕ) where
  -- a declared id that stays has the context that these scopes give its text
  given-id : (frames : List Frame) (b : Id) (ds : List DeclaredId) → All (Given unresolved top frames) ds → list_any (is_kept b) ds ≡ true → b.1 ≡ context_in unresolved frames b.0 unresolved
  given-id frames b [] all h = absurd (true-false h refl)
  given-id frames b (d ∷ ds) all h = by (is_kept b d) refl h (given-id frames b ds (All-tail (Given unresolved top frames) d ds all))
    where
      by : (t : Bool) → is_kept b d ≡ t → (t || list_any (is_kept b) ds) ≡ true → (list_any (is_kept b) ds ≡ true → b.1 ≡ context_in unresolved frames b.0 unresolved) → b.1 ≡ context_in unresolved frames b.0 unresolved
      by true is h rec = subst (λ (i : Id). i.1 ≡ context_in unresolved frames i.0 unresolved) (id-same d.id b (and-left _ d.stays is)) (All-head (Given unresolved top frames) d ds all (and-right _ d.stays is))
      by false is h rec = rec h

  module _ (m : Node) (r : Role) (frames : List Frame) (left : ℕ) where
    abbrev it : Node
    it = resolved_at unresolved top m (place_in unresolved top r frames) left

    holds-resolved : holds_vars r (out-Node it).kind ≡ holds_vars r (out-Node m).kind
    unfolding holds_vars
    holds-resolved = kind-resolved unresolved top (λ (k : Kind). holds_vars r k) (λ s t c d o. refl) m (place_in unresolved top r frames) left

    cond-map : (b : Bool) (ds : List DeclaredId) → cond b (map (with_text no_text) ds) [] ≡ map (with_text no_text) (cond b ds [])
    cond-map true ds = refl
    cond-map false ds = refl

    -- the names of the node are those of the resolved node
    all-resolved : all_names r m ≡ map (with_text no_text) (scope_ids r it)
    all-resolved =
        let own : Sought = record { part = own_part r; stays = not (is_ambient r) } in
        let vars : Sought = record { part = part.Var; stays = not (is_ambient r) } in
        ap₂ (λ (a b : List Declaration). a ++ b) (declares-resolved unresolved top m (place_in unresolved top r frames) left own)
        (ap₂ (λ (b : Bool) (ds : List Declaration). cond b ds []) (sym holds-resolved) (declares-resolved unresolved top m (place_in unresolved top r frames) left vars) ∙ cond-map (holds_vars r (out-Node it).kind) (ids_declared it vars))
        ∙ sym (map-append (with_text no_text) (ids_declared it own) (cond (holds_vars r (out-Node it).kind) (ids_declared it vars) []))

    -- where none of these goes
    pub stay : All Stays (all_names r m) → All (λ (d : DeclaredId). d.stays ≡ true) (scope_ids r it)
    stay all = all-map Stays (with_text no_text) (scope_ids r it) (subst (All Stays) all-resolved all)

  module _ (m : Node) (r : Role) (scopes : List Scope) (frames : List Frame) (left : ℕ) (keep : AllKeep scopes frames) (settled : Settled r (innermost_states frames)) (good : Good m r (innermost_states frames))
      (opened : opens r m ≡ true) where
    abbrev n : Node
    n = resolved_at unresolved top m (place_in unresolved top r frames) left

    abbrev around : List ℕ → Option Bool
    around = innermost_states frames

    abbrev f : Frame
    f = frame_of top m r frames left

    fits : Fits (record { role = r; node = m })
    fits = fits-here m r around good

    block-same : is_block (out-Node n).kind ≡ is_block (out-Node m).kind
    block-same = kind-resolved unresolved top is_block (λ s t c d o. refl) m (place_in unresolved top r frames) left

    all-same : all_names r m ≡ map (with_text no_text) (scope_ids r n)
    all-same = all-resolved m r frames left

    names-same : names r around m ≡ filter (is_own_name r around) (map (with_text no_text) (scope_ids r n))
    names-same = ap (filter (is_own_name r around)) all-same

    clear : clashing r around [] (marked [] (counted r around (names r around m) (passing r m)) ++ passing r m) ≡ []
    clear = clear-cond (opens r m) (clashing r around [] (meeting r around m)) opened (own-clear m r around good)

    -- ---- in the body of a function

    body-forms : is_block (out-Node m).kind ≡ true → r ≡ role.Body → All (λ (d : Declaration). (is_item_form d.form ≡ true) ⊎ (d.form ≡ form.Var)) (all_names r m)
    body-forms block is =
        let P : Declaration → Type 0 = λ d. (is_item_form d.form ≡ true) ⊎ (d.form ≡ form.Var) in
        let s : Bool = not (is_ambient r) in
        let scope : Sought = record { part = part.Scope; stays = s } in
        let vars : Sought = record { part = part.Var; stays = s } in
        All-append P (declarations m (record { part = own_part r; stays = s })) (vars_of r s m)
        (subst (λ (q : Role). All P (declarations m (record { part = own_part q; stays = s }))) (sym is)
        (subst (All P) (sym (declares-ids m scope)) (map-all P (with_text no_text) (ids_declared m scope) (λ k d lt. inl (list-forms m s (block-list (out-Node m).kind block) k d lt)))))
        (cond-forms P (holds_vars r (out-Node m).kind) (declarations m vars)
        (subst (All P) (sym (declares-ids m vars)) (map-all P (with_text no_text) (ids_declared m vars) (λ k d lt. inr (forms m vars k d lt)))))
      where
        cond-forms : (P : Declaration → Type 0) (b : Bool) (ds : List Declaration) → All P ds → All P (cond b ds [])
        cond-forms P true ds all = all
        cond-forms P false ds all = All-nil P

    -- a text of a parameter is declared by no name of the body
    parameter-none : is_block (out-Node m).kind ≡ true → r ≡ role.Body → (text : List ℕ) → is_stated (around text) ≡ true → declares (names r around m) text ≡ false
    parameter-none block is text stated_ =
        body-none r around (names r around m) (passing r m) clear (ap has_parameters is) text stated_
        (all-filter (λ e. bytes_eq e.sym text ≡ true → is_lexical r e.form ≡ true) (is_own_name r around) (all_names r m)
        (λ k d lt passes same. subst (λ (q : Role). is_lexical q (get_or (all_names r m) k d).form ≡ true) (sym is)
        (lexical-by (get_or (all_names r m) k d).form (body-forms block is k d lt)
        (hoisted-none (is_hoisted (get_or (all_names r m) k d).form) (is_stated (around (get_or (all_names r m) k d).sym))
        (ap (λ (t : List ℕ). is_stated (around t)) ((bytes_eq-Decides (get_or (all_names r m) k d).sym text).0 same) ∙ stated_)
        (subst (λ (q : Role). is_own_name q around (get_or (all_names r m) k d) ≡ true) is passes)))))
      where
        hoisted-none : (h t : Bool) → t ≡ true → not (h && t) ≡ true → h ≡ false
        hoisted-none true t is own = absurd (true-false own (ap not is))
        hoisted-none false t is own = refl

    body-role : (k : Kind) → is_body_block r k ≡ true → r ≡ role.Body
    body-role k h = by r (and-left (is_body_role r) (is_block k) h)
      where
        by : (q : Role) → is_body_role q ≡ true → q ≡ role.Body
        by role.Body h = refl
        by _ h = absurd (true-false h refl)

    block-here : is_body_block r (out-Node n).kind ≡ true → is_block (out-Node m).kind ≡ true
    block-here h = sym block-same ∙ and-right (is_body_role r) (is_block (out-Node n).kind) h

    stated-some : (o : Option Bool) → o ≡ Some true → is_stated o ≡ true
    stated-some o is = ap is_stated is

    -- what a parameter declares by its id, is hoisted
    pub parameters : is_body_block r (out-Node n).kind ≡ true → All (λ (d : DeclaredId). has_context d.id.1 (innermost scopes d.id.0) ≡ true → is_hoisted d.form ≡ true) (scope_ids r n)
    parameters block =
        let declared = filter-declares (is_own_name r around) (scope_ids r n) in
        λ k d lt has. by (get_or (scope_ids r n) k d) (is_hoisted (get_or (scope_ids r n) k d).form) refl has (declared k d lt)
      where
        by : (d : DeclaredId) (h : Bool) → is_hoisted d.form ≡ h → has_context d.id.1 (innermost scopes d.id.0) ≡ true
            → (is_own_name r around (with_text no_text d) ≡ true → declares (filter (is_own_name r around) (map (with_text no_text) (scope_ids r n))) d.id.0 ≡ true) → h ≡ true
        by d true is has there = refl
        by d false is has there =
            let here : r ≡ role.Body = body-role (out-Node n).kind block in
            let passes : is_own_name r around (with_text no_text d) ≡ true = ap (λ (q : Role). is_own_name q around (with_text no_text d)) here ∙ ap (λ (b : Bool). not (b && is_stated (around d.id.0))) is in
            absurd (true-false (there passes)
            (ap (λ (ds : List Declaration). declares ds d.id.0) (sym names-same) ∙ parameter-none (block-here block) here d.id.0 (stated-some (around d.id.0) (inner-written scopes frames keep d.id has))))

    -- where the body of a function declares a `var` or a function, it is a block
    no-item : (s : Bool) (k : Kind) (f : Form) → All (Formed (part.Name f)) (id_here (record { part = part.Scope; stays = s }) k)
    no-item s (kind.Ident t c o) f = All-nil (Formed (part.Name f))
    no-item s _ f = All-nil (Formed (part.Name f))

    cond-hoisted : (Q : DeclaredId → Type 0) (b : Bool) (ds : List DeclaredId) → b ≡ false → All Q (cond b ds [])
    cond-hoisted Q true ds is = absurd (true-false refl is)
    cond-hoisted Q false ds is = All-nil Q

    name-of : (b s : Bool) (g : Form) (found : Sought) → ◌≡◌ {A = Option Sought} (cond b (Some (record { part = part.Name g; stays = s })) None) (Some found) → (h : Form) → Allowed found.part h → h ≡ g
    name-of true s g found is h a = subst (λ p. Allowed p h) (sym (same is)) a
      where
        same : ◌≡◌ {A = Option Sought} (Some (record { part = part.Name g; stays = s })) (Some found) → part.Name g ≡ found.part
        same is = cc
    name-of false s g found is h a = absurd (never is)
      where
        never : ◌≡◌ {A = Option Sought} None (Some found) → ⊥
        never is = cc

    abbrev Blocks : DeclaredId → Type 0
    Blocks d = is_hoisted d.form ≡ true → is_block (out-Node n).kind ≡ true

    named-blocks : r ≡ role.Body → (g : Form) → is_hoisted g ≡ false → holds_vars r (out-Node n).kind ≡ false
        → ((s v : Bool) (j : ℕ) (found : Sought) → in_scope s v (out-Node n).kind j ≡ Some found → (h : Form) → Allowed found.part h → h ≡ g) → All Blocks (scope_ids r n)
    unfolding sought_in
    named-blocks is g other none step =
        let s : Bool = not (is_ambient r) in
        let scope : Sought = record { part = part.Scope; stays = s } in
        let named = forms-by n scope (part.Name g) (no-item s (out-Node n).kind g) (λ j found h k a. step s (is_value_where s n) j found h k a) in
        All-append Blocks (ids_declared n (record { part = own_part r; stays = s })) (cond (holds_vars r (out-Node n).kind) (ids_declared n (record { part = part.Var; stays = s })) [])
        (subst (λ (q : Role). All Blocks (ids_declared n (record { part = own_part q; stays = s }))) (sym is) (λ k d lt hoisted. absurd (true-false hoisted (ap is_hoisted (named k d lt) ∙ other))))
        (cond-hoisted Blocks (holds_vars r (out-Node n).kind) (ids_declared n (record { part = part.Var; stays = s })) none)

    blocks-by : r ≡ role.Body → (k : Kind) → (out-Node n).kind ≡ k → is_body_kind k ≡ true → All Blocks (scope_ids r n)
    unfolding in_scope holds_vars
    blocks-by is kind.BlockStmt at h = λ k d lt hoisted. ap is_block at
    blocks-by is kind.FnExpr at h =
        named-blocks is form.Own refl (ap (holds_vars r) at) (λ s v j found seeks g a. name-of (j == 0) s form.Own found (ap (λ (k : Kind). in_scope s v k j) (sym at) ∙ seeks) g a)
    blocks-by is kind.ClassExpr at h =
        named-blocks is form.Own refl (ap (holds_vars r) at) (λ s v j found seeks g a. name-of (j == 0) s form.Own found (ap (λ (k : Kind). in_scope s v k j) (sym at) ∙ seeks) g a)
    blocks-by is (kind.ArrowExpr x y) at h =
        named-blocks is form.Parameter refl (ap (holds_vars r) at) (λ s v j found seeks g a. name-of (j == 0) s form.Parameter found (ap (λ (k : Kind). in_scope s v k j) (sym at) ∙ seeks) g a)
    blocks-by is _ at h = absurd (true-false h refl)

    pub blocks : r ≡ role.Body → All Blocks (scope_ids r n)
    blocks is =
        blocks-by is (out-Node n).kind refl
        (kind-resolved unresolved top is_body_kind (λ s t c d o. refl) m (place_in unresolved top r frames) left ∙ fits.body is opened)

    -- ---- contexts

    abbrev more : List Frame
    more = frames ++ f ∷ []

    given-own : (b : Id) → has_context b.1 (own_scope r scopes n b.0) ≡ true → b.1 ≡ given (f.states b.0) f.ctxt unresolved (context_in unresolved frames b.0 unresolved)
    given-own b h =
        let both = sym (own-agrees b r scopes n) ∙ h in
        given-id more b (scope_ids r n) (own-given unresolved top m r frames left opened good) (and-left (list_any (is_kept b) (scope_ids r n)) (is_own (is_body_block r (out-Node n).kind) (innermost scopes) b) both)
        ∙ context-last unresolved frames f b.0 unresolved

    -- ---- what it declares as values that stay is what the scope keeps

    abbrev body : Bool
    body = is_body_block r (out-Node n).kind

    abbrev Blocked : DeclaredId → Type 0
    Blocked d = r ≡ role.Body → is_hoisted d.form ≡ true → is_block (out-Node n).kind ≡ true

    -- a parameter of its text is the id itself
    is-parameter : r ≡ role.Body → is_block (out-Node n).kind ≡ true → (b : Id) → has_context b.1 (own_scope r scopes n b.0) ≡ true → is_own body (innermost scopes) b ≡ true → around b.0 ≡ Some true → ⊥
    is-parameter is block b h mine stated_ =
        let none : declares (names r around m) b.0 ≡ false = parameter-none (sym block-same ∙ block) is b.0 (stated-some (around b.0) stated_) in
        let open_here : f.states b.0 ≡ None = (λ j. cond (none j) (Some (keeps (names r around m) b.0)) None) in
        let same : b.1 ≡ context_in unresolved frames b.0 unresolved = given-own b h ∙ ap (λ (o : Option Bool). given o f.ctxt unresolved (context_in unresolved frames b.0 unresolved)) open_here in
        let has : has_context b.1 (innermost scopes b.0) ≡ true = ap (λ (c : ℕ). has_context c (innermost scopes b.0)) same ∙ inner-only unresolved scopes frames keep b.0 unresolved stated_ in
        true-false mine (λ j. not ((is_body_role (is j) && block j) && has j))

    own-name : (q : Role) → r ≡ q → (b : Id) → has_context b.1 (own_scope r scopes n b.0) ≡ true → is_own body (innermost scopes) b ≡ true → (d : DeclaredId) → d.id ≡ b → Blocked d
        → is_own_name q around (with_text no_text d) ≡ true
    own-name role.Body is b h mine d same blocked = by (is_hoisted d.form) (around d.id.0) refl refl
      where
        by : (hoisted : Bool) (o : Option Bool) → is_hoisted d.form ≡ hoisted → around d.id.0 ≡ o → not (hoisted && is_stated o) ≡ true
        by false o hoists states_ = refl
        by true None hoists states_ = refl
        by true (Some false) hoists states_ = absurd (settled is d.id.0 states_)
        by true (Some true) hoists states_ = absurd (is-parameter is (blocked is hoists) b h mine (ap (λ (i : Id). around i.0) (sym same) ∙ states_))
    own-name _ is b h mine d same blocked = refl

    written : (b : Id) → has_context b.1 (own_scope r scopes n b.0) ≡ true → f.states b.0 ≡ Some true
    written b h =
        let both = sym (own-agrees b r scopes n) ∙ h in
        let mine = and-right (list_any (is_kept b) (scope_ids r n)) (is_own body (innermost scopes) b) both in
        stated-kept (names r around m) b.0
        (ap (λ (ds : List Declaration). keeps ds b.0) names-same
        ∙ keeps-id no_text Blocked (is_own_name r around) b (scope_ids r n) (λ k d lt is. blocks is k d lt) (λ d same blocked. own-name r refl b h mine d same blocked)
        (and-left (list_any (is_kept b) (scope_ids r n)) (is_own body (innermost scopes) b) both))

    number : (b : Id) → has_context b.1 (own_scope r scopes n b.0) ≡ true → b.1 ≡ f.ctxt
    number b h = given-own b h ∙ ap (λ (o : Option Bool). given o f.ctxt unresolved (context_in unresolved frames b.0 unresolved)) (written b h)

    -- what it keeps is no parameter
    no-parameter : (b : Id) (t h : Bool) → body ≡ t → has_context b.1 (innermost scopes b.0) ≡ h → keeps (names r around m) b.0 ≡ true → is_own body (innermost scopes) b ≡ true
    no-parameter b false h block has kept = ap (λ (z : Bool). not (z && has_context b.1 (innermost scopes b.0))) block
    no-parameter b true false block has kept = (λ j. not (block j && has j))
    no-parameter b true true block has kept =
        absurd (true-false (kept-declared (names r around m) b.0 kept)
        (parameter-none (block-here block) (body-role (out-Node n).kind block) b.0 (stated-some (around b.0) (inner-written scopes frames keep b has))))

    only : (text : List ℕ) → f.states text ≡ Some true → has_context f.ctxt (own_scope r scopes n text) ≡ true
    only text h =
        let kept : keeps (names r around m) text ≡ true = kept-stated (names r around m) text h in
        let x = kept-id (is_own_name r around) text (scope_ids r n) (sym (ap (λ (ds : List Declaration). keeps ds text) names-same) ∙ kept) in
        let id : Id = x.found.id in
        let mine = no-parameter id body (has_context id.1 (innermost scopes id.0)) refl refl (ap (keeps (names r around m)) x.is ∙ kept) in
        let own : has_context id.1 (own_scope r scopes n id.0) ≡ true = own-agrees id r scopes n ∙ and-both (list_any (is_kept id) (scope_ids r n)) (is_own body (innermost scopes) id) x.kept mine in
        (λ j. has_context (sym (number id own) j) (own_scope r scopes n (sym x.is j))) ∙ own

    pub own-keeps : Keeps (own_scope r scopes n) f
    own-keeps = record { written = written; number = number; only = only }

    -- it declares each text in one context
    pub once : (text : List ℕ) (c d : ℕ) → has_context c (own_scope r scopes n text) ≡ true → has_context d (own_scope r scopes n text) ≡ true → c ≡ d
    once text c d h k = number (text, c) h ∙ sym (number (text, d) k)

    -- and the body of a function none that a parameter has
    pub none-of-parameters : is_body_block r (out-Node n).kind ≡ true → (text : List ℕ) (c d : ℕ) → has_context c (innermost scopes text) ≡ true → has_context d (own_scope r scopes n text) ≡ true → ⊥
    none-of-parameters block text c d has mine =
        true-false (kept-declared (names r around m) text (kept-stated (names r around m) text (written (text, d) mine)))
        (parameter-none (block-here block) (body-role (out-Node n).kind block) text (stated-some (around text) (inner-written scopes frames keep (text, c) has)))
