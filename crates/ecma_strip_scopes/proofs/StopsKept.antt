-- A stop of the tree without types, beside the one of the tree that it comes from: its scope declares the same, and it is scoped where that one keeps its scope.
use Rattle.std.proofs.Common.{◌≡◌, ◌⊎◌, inl, inr, ℕ, ◌==◌, Bool, true, false, ◌&&◌, not, cond, List, [], ◌∷◌, ◌++◌, map, Option, Some, None, refl, sym, ap, ap₂, ◌∙◌, subst, get_or}
use Rattle.std.specs.List.{All, list_any}
use Rattle.std.proofs.lemmas.List.Elements.{All-append, All-nil}
use Rattle.ecma_kind.specs.Sorts.{is_expr}
use Rattle.ecma_kind.specs.declared.kind.Kind.{Kind}
use Rattle.ecma_kind.specs.declared.kind.Kind.TheVariants as kind
use Rattle.ecma_tree.specs.Sorted.{is_absent}
use Rattle.ecma_tree.specs.declared.node.Node.{Node, out-Node}
use Rattle.ecma_tree.specs.Values.{is_value}
use Rattle.ecma_scope.specs.declared.form.Form.{Form}
use Rattle.ecma_scope.specs.declared.form.Form.TheVariants as form
use Rattle.ecma_scope.specs.declared.form.Part.TheVariants as part
use Rattle.ecma_scope.specs.declared.form.Sought.{Sought}
use Rattle.ecma_scope.specs.declared.role.Role.{Role}
use Rattle.ecma_scope.specs.declared.role.Role.TheVariants as role
use Rattle.ecma_scope.specs.Declarations.{holds_vars, in_scope, is_hoisted, sought_in}
use Rattle.ecma_scope.specs.Scopes.{covers, is_there, opens, opens_by}
use Rattle.ecma_strip.specs.Staying.{is_this_ident}
use Rattle.ecma_strip.specs.Stripping.{plain_kind}
use Rattle.ecma_hygiene.specs.Ids.{Id, has_context, innermost, is_block, is_body_block, own_ids}
use Rattle.ecma_hygiene.specs.Sights.{Around, own_scope}
use Rattle.ecma_hygiene.proofs.Telling.{and-left, has-id, true-false}
use Rattle.ecma_hygiene_scopes.specs.Apart.{DeclaresCleanly, HasOneContext, IsScoped, own_contexts}
use Rattle.ecma_hygiene_scopes.specs.DeclaredIds.{DeclaredId, id_here, ids_declared, scope_ids}
use Rattle.ecma_hygiene_scopes.specs.Lasting.{KeepsScope}
use Rattle.ecma_hygiene_scopes.specs.Once.{DeclaresTextsOnce}
use Rattle.ecma_hygiene_scopes.specs.Stops.{Stop}
use Rattle.ecma_hygiene_scopes.proofs.Forms.{Allowed, Formed, forms-by}
use Rattle.ecma_hygiene_scopes.proofs.Membership.{contexts-agree, is_kept, own-agrees}
use Rattle.ecma_strip_scopes.proofs.Lasting.{lasting}
use Rattle.ecma_strip_scopes.proofs.RolesAlike.{Alike}
use Rattle.ecma_strip_scopes.proofs.ScopesSame.{AreSame, IsSame, Stay, all-kept, any-kept, context-id, goes, id-context, kept-other, kept-stays, none-kept, same-innermost, same-last, same-none}

-- ---- an expression declares no `var` and no function in its own scope

abbrev Unhoisted : DeclaredId → Type 0
Unhoisted d = is_hoisted d.form ≡ true → ⊥

no-item : (s : Bool) (k : Kind) (f : Form) → All (Formed (part.Name f)) (id_here (record { part = part.Scope; stays = s }) k)
no-item s (kind.Ident t c o) f = All-nil (Formed (part.Name f))
no-item s _ f = All-nil (Formed (part.Name f))

name-of : (b s : Bool) (g : Form) (found : Sought) → ◌≡◌ {A = Option Sought} (cond b (Some (record { part = part.Name g; stays = s })) None) (Some found) → (h : Form) → Allowed found.part h → h ≡ g
name-of true s g found is h a = subst (λ p. Allowed p h) (sym (same is)) a
  where
    same : ◌≡◌ {A = Option Sought} (Some (record { part = part.Name g; stays = s })) (Some found) → part.Name g ≡ found.part
    same is = cc
name-of false s g found is h a = absurd (never is)
  where
    never : ◌≡◌ {A = Option Sought} None (Some found) → ⊥
    never is = cc

cond-none : (b : Bool) (ds : List DeclaredId) → b ≡ false → All Unhoisted (cond b ds [])
cond-none true ds is = absurd (true-false refl is)
cond-none false ds is = All-nil Unhoisted

module _ (n : Node) where
  named : (g : Form) → is_hoisted g ≡ false → holds_vars role.Plain (out-Node n).kind ≡ false
      → ((s v : Bool) (j : ℕ) (found : Sought) → in_scope s v (out-Node n).kind j ≡ Some found → (h : Form) → Allowed found.part h → h ≡ g) → All Unhoisted (scope_ids role.Plain n)
  unfolding sought_in
  named g other none step =
      let scope : Sought = record { part = part.Scope; stays = true } in
      let formed = forms-by n scope (part.Name g) (no-item true (out-Node n).kind g) (λ j found h k a. step true (is_value n) j found h k a) in
      All-append Unhoisted (ids_declared n scope) (cond (holds_vars role.Plain (out-Node n).kind) (ids_declared n (record { part = part.Var; stays = true })) [])
      (λ k d lt hoisted. true-false hoisted (ap is_hoisted (formed k d lt) ∙ other))
      (cond-none (holds_vars role.Plain (out-Node n).kind) (ids_declared n (record { part = part.Var; stays = true })) none)

  unhoisted-by : (k : Kind) (there : Bool) → (out-Node n).kind ≡ k → is_expr k ≡ true → opens_by role.Plain k there ≡ true → All Unhoisted (scope_ids role.Plain n)
  unfolding in_scope holds_vars opens_by
  unhoisted-by kind.FnExpr there at expr opened =
      named form.Own refl (ap (holds_vars role.Plain) at) (λ s v j found seeks g a. name-of (j == 0) s form.Own found (ap (λ (k : Kind). in_scope s v k j) (sym at) ∙ seeks) g a)
  unhoisted-by kind.ClassExpr there at expr opened =
      named form.Own refl (ap (holds_vars role.Plain) at) (λ s v j found seeks g a. name-of (j == 0) s form.Own found (ap (λ (k : Kind). in_scope s v k j) (sym at) ∙ seeks) g a)
  unhoisted-by (kind.ArrowExpr x y) there at expr opened =
      named form.Parameter refl (ap (holds_vars role.Plain) at) (λ s v j found seeks g a. name-of (j == 0) s form.Parameter found (ap (λ (k : Kind). in_scope s v k j) (sym at) ∙ seeks) g a)
  unhoisted-by _ there at expr opened = absurd (both-no)
    where
      both-no : ⊥
      both-no = cc

  unhoisted : is_expr (out-Node n).kind ≡ true → opens role.Plain n ≡ true → All Unhoisted (scope_ids role.Plain n)
  unhoisted expr opened = unhoisted-by (out-Node n).kind (is_there (out-Node n).children 0) refl expr opened

-- ---- kinds

plain-block : (k : Kind) → is_block (plain_kind k) ≡ is_block k
unfolding plain_kind
plain-block kind.BlockStmt = refl
plain-block _ = refl

plain-body : (r : Role) (k : Kind) → is_body_block r (plain_kind k) ≡ is_body_block r k
plain-body role.Body k = plain-block k
plain-body _ k = refl

plain-absent : (k : Kind) → is_absent (plain_kind k) ≡ is_absent k
unfolding plain_kind
plain-absent kind.Absent = refl
plain-absent _ = refl

plain-ident : (k : Kind) (s : List ℕ) (c : ℕ) (o : Bool) → plain_kind k ≡ kind.Ident s c o → (p : Bool) × (k ≡ kind.Ident s c p)
unfolding plain_kind
plain-ident (kind.Ident t d p) s c o h = (p, again h)
  where
    again : ◌≡◌ {A = Kind} (kind.Ident t d false) (kind.Ident s c o) → ◌≡◌ {A = Kind} (kind.Ident t d p) (kind.Ident s c p)
    again h = cc
plain-ident k s c o h = absurd (never h)
  where
    never : ◌≡◌ {A = Kind} (plain_kind k) (kind.Ident s c o) → ⊥
    never h = cc

abbrev pub stop_of : Node → Around → ℕ → Stop
stop_of n a left = record { node = n; around = a; left = left }

-- a node is scoped, if with `t` it is no identifier `this`
abbrev pub IsScopedIn : Bool → ℕ → Stop → Type 0
IsScopedIn t free stop = (t && is_this_ident (out-Node stop.node).kind) ≡ false → IsScoped free stop

-- a node with what stands around it, and what it is without types: its scope declares what lasts, and the scopes around declare the same
pub record Matches (t : Bool) (x y : Stop) : Type 0 where
  pub is : (out-Node y.node).kind ≡ plain_kind (out-Node x.node).kind
  pub bare : is_absent (out-Node x.node).kind ≡ true → (out-Node x.node).children ≡ [] → (out-Node y.node).children ≡ []
  pub alike : Alike x.around.role y.around.role (out-Node x.node).kind
  pub same : AreSame t x.around.scopes y.around.scopes
  pub opened : opens y.around.role y.node ≡ opens x.around.role x.node
  pub ids : opens x.around.role x.node ≡ true → scope_ids y.around.role y.node ≡ lasting t (scope_ids x.around.role x.node)

-- what is there for nothing
pub record IsSilent (y : Stop) : Type 0 where
  pub none : (out-Node y.node).children ≡ []
  pub shut : opens y.around.role y.node ≡ false
  pub no_name : (s : List ℕ) (c : ℕ) (o : Bool) → (out-Node y.node).kind ≡ kind.Ident s c o → ⊥

-- a stop of the tree without types comes from one of the tree, of which this is known, or is there for nothing
abbrev pub Comes : Bool → (Stop → Type 0) → Stop → Type 0
Comes t P y = IsSilent y ⊎ ((x : Stop) × P x × Matches t x y)

module _ (t : Bool) (n m : Node) (a b : Around) (left less : ℕ) (matched : Matches t (stop_of n a left) (stop_of m b less)) where
  abbrev body_same : is_body_block b.role (out-Node m).kind ≡ is_body_block a.role (out-Node n).kind
  body_same = ap (is_body_block b.role) matched.is ∙ plain-body b.role (out-Node n).kind ∙ matched.alike.body

  block-same : is_block (out-Node m).kind ≡ is_block (out-Node n).kind
  block-same = ap is_block matched.is ∙ plain-block (out-Node n).kind

  pub own-same : opens a.role n ≡ true → IsSame t (own_scope a.role a.scopes n) (own_scope b.role b.scopes m)
  own-same is id other =
      own-agrees id b.role b.scopes m
      ∙ (λ j. list_any (is_kept id) (matched.ids is j) && not (body_same j && has_context id.1 (innermost b.scopes id.0)))
      ∙ ap₂ (λ (x y : Bool). x && not (is_body_block a.role (out-Node n).kind && y)) (any-kept t id (scope_ids a.role n) other) (same-innermost t a.scopes b.scopes matched.same id other)
      ∙ sym (own-agrees id a.role a.scopes n)

  -- no text that goes is declared without types
  stays-there : opens a.role n ≡ true → (id : Id) → has-id id (own_ids b.role (innermost b.scopes) m) ≡ true → goes t id.0 ≡ false
  stays-there is id has = by (goes t id.0) refl
    where
      named : list_any (is_kept id) (scope_ids b.role m) ≡ true
      named =
          and-left (list_any (is_kept id) (scope_ids b.role m)) (not (is_body_block b.role (out-Node m).kind && has_context id.1 (innermost b.scopes id.0)))
          (sym (own-agrees id b.role b.scopes m) ∙ contexts-agree id (own_ids b.role (innermost b.scopes) m) ∙ has)

      by : (b : Bool) → goes t id.0 ≡ b → b ≡ false
      by false gone = refl
      by true gone = absurd (true-false (sym (ap (list_any (is_kept id)) (matched.ids is)) ∙ named) (none-kept t id (lasting t (scope_ids a.role n)) gone (kept-other t (scope_ids a.role n))))

  contexts-by : (x : Bool) → opens a.role n ≡ x → (c : ℕ) → has_context c (cond x (map (λ id. id.1) (own_ids b.role (innermost b.scopes) m)) []) ≡ true
      → has_context c (cond x (map (λ id. id.1) (own_ids a.role (innermost a.scopes) n)) []) ≡ true
  contexts-by true is c h =
      let one = context-id c (own_ids b.role (innermost b.scopes) m) h in
      let id : Id = one.0 in
      subst (λ (z : ℕ). has_context z (map (λ id. id.1) (own_ids a.role (innermost a.scopes) n)) ≡ true) one.1
      (id-context id (own_ids a.role (innermost a.scopes) n)
      (sym (contexts-agree id (own_ids a.role (innermost a.scopes) n)) ∙ sym (own-same is id (stays-there is id one.2)) ∙ contexts-agree id (own_ids b.role (innermost b.scopes) m) ∙ one.2))
  contexts-by false is c h = absurd (true-false h refl)

  -- it declares in contexts in which the other does
  pub contexts-within : (c : ℕ) → has_context c (own_contexts (stop_of m b less)) ≡ true → has_context c (own_contexts (stop_of n a left)) ≡ true
  contexts-within c h =
      contexts-by' c (sym (ap (λ (x : Bool). has_context c (cond x (map (λ id. id.1) (own_ids b.role (innermost b.scopes) m)) [])) matched.opened) ∙ h)
    where
      contexts-by' : (c : ℕ) → has_context c (cond (opens a.role n) (map (λ id. id.1) (own_ids b.role (innermost b.scopes) m)) []) ≡ true → has_context c (own_contexts (stop_of n a left)) ≡ true
      contexts-by' c = contexts-by (opens a.role n) refl c

  -- and in one context, where that one does
  pub one-within : HasOneContext (stop_of n a left) → HasOneContext (stop_of m b less)
  one-within one c d h k = one c d (contexts-within c h) (contexts-within d k)

  -- it declares each text once, where that one does, of what was not made
  pub once-within : (made made_after : Id → Bool) → ((id : Id) → made_after id ≡ false → made id ≡ false) → DeclaresTextsOnce made n a → DeclaresTextsOnce made_after m b
  once-within made made_after still once is text c d h k old also =
      let before : opens a.role n ≡ true = sym matched.opened ∙ is in
      once before text c d (there before c h) (there before d k) (still (text, c) old) (still (text, d) also)
    where
      there : opens a.role n ≡ true → (e : ℕ) → has_context e (own_scope b.role b.scopes m text) ≡ true → has_context e (own_scope a.role a.scopes n text) ≡ true
      there before e has =
          let id : Id = (text, e) in
          sym (own-same before id (stays-there before id (sym (contexts-agree id (own_ids b.role (innermost b.scopes) m)) ∙ has))) ∙ has

  -- and what stands in it stands in scopes that declare the same
  pub scopes-inside : (i j : ℕ) → covers b.role (out-Node m).kind j ≡ covers a.role (out-Node n).kind i
      → AreSame t (cond (opens a.role n && covers a.role (out-Node n).kind i) (a.scopes ++ own_scope a.role a.scopes n ∷ []) a.scopes) (cond (opens b.role m && covers b.role (out-Node m).kind j) (b.scopes ++ own_scope b.role b.scopes m ∷ []) b.scopes)
  scopes-inside i j covered =
      subst (λ (x : Bool). AreSame t (cond (opens a.role n && covers a.role (out-Node n).kind i) (a.scopes ++ own_scope a.role a.scopes n ∷ []) a.scopes) (cond x (b.scopes ++ own_scope b.role b.scopes m ∷ []) b.scopes))
      (sym (λ j. matched.opened j && covered j)) (by (opens a.role n) (covers a.role (out-Node n).kind i) refl)
    where
      by : (x y : Bool) → opens a.role n ≡ x → AreSame t (cond (x && y) (a.scopes ++ own_scope a.role a.scopes n ∷ []) a.scopes) (cond (x && y) (b.scopes ++ own_scope b.role b.scopes m ∷ []) b.scopes)
      by true true is = same-last t a.scopes b.scopes (own_scope a.role a.scopes n) (own_scope b.role b.scopes m) matched.same (own-same is)
      by true false is = matched.same
      by false y is = matched.same

  -- where that one keeps its scope, it is scoped
  module _ (free : ℕ) (keep : KeepsScope free (stop_of n a left)) where
    abbrev Blocks : Node → DeclaredId → Type 0
    Blocks node d = is_hoisted d.form ≡ true → is_block (out-Node node).kind ≡ true

    blocks-by : opens a.role n ≡ true → (a.role ≡ role.Body) ⊎ ((a.role ≡ role.Plain) × (is_expr (out-Node n).kind ≡ true)) → All (Blocks n) (scope_ids a.role n)
    blocks-by is (inl body) = keep.blocks is body
    blocks-by is (inr plain) =
        subst (λ (r : Role). All (Blocks n) (scope_ids r n)) (sym plain.0) (λ k d lt hoisted. absurd (unhoisted n plain.1 (subst (λ (r : Role). opens r n ≡ true) plain.0 is) k d lt hoisted))

    cleanly : opens a.role n ≡ true → DeclaresCleanly (stop_of m b less)
    cleanly is = record {
      stay = subst (All (λ (d : DeclaredId). d.stays ≡ true)) (sym (matched.ids is)) (kept-stays t (scope_ids a.role n));
      blocks = λ body. (λ k d lt hoisted. block-same ∙ subst (All (Blocks n)) (sym (matched.ids is)) (all-kept t (Blocks n) (scope_ids a.role n) (blocks-by is (matched.alike.blocks body))) k d lt hoisted);
      parameters = λ body.
          (λ k d lt has. subst (All (λ (d : DeclaredId). has_context d.id.1 (innermost a.scopes d.id.0) ≡ true → is_hoisted d.form ≡ true)) (sym (matched.ids is))
          (all-kept t (λ (d : DeclaredId). has_context d.id.1 (innermost a.scopes d.id.0) ≡ true → is_hoisted d.form ≡ true) (scope_ids a.role n) (keep.parameters is (sym body_same ∙ body))) k d lt
          (sym (same-innermost t a.scopes b.scopes matched.same (get_or (scope_ids b.role m) k d).id (subst (All (Stay t)) (sym (matched.ids is)) (kept-other t (scope_ids a.role n)) k d lt)) ∙ has));
    }

    by-test : (x : Bool) → (x ≡ true → ⊥) → x ≡ false
    by-test true never = absurd (never refl)
    by-test false never = refl

    pub is-scoped : IsScopedIn t free (stop_of m b less)
    is-scoped other = record {
      absent = λ gone. (let was = sym (plain-absent (out-Node n).kind) ∙ sym (ap is_absent matched.is) ∙ gone in matched.bare was (keep.absent was));
      names = λ s c o is name. (let was = plain-ident (out-Node n).kind s c o (sym matched.is ∙ is) in keep.names s c was.0 was.1 (sym matched.alike.name ∙ name));
      free_names = λ s c o is name none. (let was = plain-ident (out-Node n).kind s c o (sym matched.is ∙ is) in
          keep.free_names s c was.0 was.1 (sym matched.alike.name ∙ name) (same-none t a.scopes b.scopes (s, c) (sym (ap (λ (k : Kind). t && is_this_ident k) is) ∙ other) matched.same none));
      declares = λ is. cleanly (sym matched.opened ∙ is);
      not_free = by-test (has_context free (own_contexts (stop_of m b less))) (λ h. true-false (contexts-within free h) keep.not_free);
      not_empty = by-test (has_context 0 (own_contexts (stop_of m b less))) (λ h. true-false (contexts-within 0 h) keep.not_empty);
    }
