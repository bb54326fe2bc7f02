-- A scope without types: what meets in it is what lasts of what meets in the scope.
use Rattle.std.proofs.Common.{◌≡◌, ◌⊎◌, inl, inr, ℕ, ◌==◌, Bool, true, false, ◌&&◌, ◌||◌, not, cond, filter, map, List, [], ◌∷◌, ◌++◌, Option, Some, None, refl, sym, ap, ap₂, ◌∙◌, subst, bytes_eq}
use Rattle.std.specs.List.{All}
use Rattle.std.proofs.lemmas.List.Elements.{All-append, All-head, All-nil, All-tail}
use Rattle.ecma_kind.specs.Sorts.{is_expr}
use Rattle.ecma_kind.specs.declared.kind.Kind.{Kind}
use Rattle.ecma_kind.specs.declared.kind.Kind.TheVariants as kind
use Rattle.ecma_tree.specs.declared.node.Node.{Node, out-Node}
use Rattle.ecma_tree.specs.Values.{is_value}
use Rattle.ecma_scope.specs.declared.form.Declaration.{Declaration}
use Rattle.ecma_scope.specs.declared.form.Form.{Form}
use Rattle.ecma_scope.specs.declared.form.Form.TheVariants as form
use Rattle.ecma_scope.specs.declared.form.Part.TheVariants as part
use Rattle.ecma_scope.specs.declared.form.Sought.{Sought}
use Rattle.ecma_scope.specs.declared.role.Role.{Role}
use Rattle.ecma_scope.specs.declared.role.Role.TheVariants as role
use Rattle.ecma_scope.specs.Conflicts.{conflict, is_lexical}
use Rattle.ecma_scope.specs.Declarations.{holds_vars, in_scope, own_part, sought_in}
use Rattle.ecma_scope.specs.Scopes.{is_ambient, is_there, opens, opens_by}
use Rattle.ecma_hygiene.proofs.Telling.{true-false}
use Rattle.ecma_hygiene_scopes.specs.DeclaredIds.{DeclaredId, id_here, ids_declared, scope_ids, with_text}
use Rattle.ecma_hygiene_scopes.specs.Seats.{all_names}
use Rattle.ecma_hygiene_scopes.proofs.Forms.{Allowed, Formed, forms-by}
use Rattle.ecma_hygiene_scopes.proofs.Sameness.{declares-ids, no_text}
use Rattle.ecma_strip_scopes.specs.Apart.{is_free}
use Rattle.ecma_strip_scopes.specs.Standing.{lasts}
use Rattle.ecma_strip_scopes.proofs.Lasting.{lasting}
use Rattle.ecma_strip_scopes.proofs.RolesAlike.{Alike, alike-free, alike-same}
use Rattle.ecma_strip_conflicts.proofs.Fewer.{last}

-- ---- roles

-- a node stands in the same role, or is an expression whose types are gone
abbrev pub Near : Role → Role → Kind → Type 0
Near r q k = (q ≡ r) ⊎ ((r ≡ role.Plain) × (is_free q ≡ true) × (is_expr k ≡ true))

pub near-alike : (r q : Role) (k : Kind) → Near r q k → Alike r q k
near-alike r q k (inl same) = subst (λ (z : Role). Alike r z k) (sym same) (alike-same r k)
near-alike r q k (inr is) = subst (λ (z : Role). Alike z q k) (sym is.0) (alike-free q k is.1 is.2)

body-less : (f : Form) → is_lexical role.Body f ≡ true → is_lexical role.Plain f ≡ true
body-less form.Import h = refl
body-less form.Lexical h = refl
body-less form.Class h = refl
body-less form.Enum h = refl
body-less form.Namespace h = refl
body-less _ h = absurd (true-false h refl)

free-less : (q : Role) (f : Form) → is_free q ≡ true → is_lexical q f ≡ true → is_lexical role.Plain f ≡ true
free-less role.Plain f free h = h
free-less role.Body f free h = body-less f h
free-less _ f free h = absurd (true-false free refl)

lexical-more : (r q : Role) (k : Kind) → Near r q k → (f : Form) → is_lexical q f ≡ true → is_lexical r f ≡ true
lexical-more r q k (inl same) f h = ap (λ (z : Role). is_lexical z f) (sym same) ∙ h
lexical-more r q k (inr is) f h = ap (λ (z : Role). is_lexical z f) is.0 ∙ free-less q f is.1 h

more-by : (x l m l' m' rest : Bool) → (l ≡ true → l' ≡ true) → (m ≡ true → m' ≡ true) → (x && ((l || m) || rest)) ≡ true → (x && ((l' || m') || rest)) ≡ true
more-by false l m l' m' rest f g h = h
more-by true true m l' m' rest f g h = ap (λ (b : Bool). (b || m') || rest) (f refl)
more-by true false true true m' rest f g h = refl
more-by true false true false m' rest f g h = ap (λ (b : Bool). b || rest) (g refl)
more-by true false false l' m' true f g h = always (l' || m')
  where
    always : (b : Bool) → (b || true) ≡ true
    always true = refl
    always false = refl
more-by true false false l' m' false f g h = absurd (true-false h refl)

pub conflict-more : (r q : Role) (k : Kind) → Near r q k → (e d : Declaration) → conflict q e d ≡ true → conflict r e d ≡ true
conflict-more r q k near e d h =
    more-by (bytes_eq e.sym d.sym) (is_lexical q e.form) (is_lexical q d.form) (is_lexical r e.form) (is_lexical r d.form) _ (lexical-more r q k near e.form) (lexical-more r q k near d.form) h

-- ---- an expression declares parameters, or its own name

abbrev pub is_calm : Form → Bool
is_calm form.Own = true
is_calm form.Parameter = true
is_calm _ = false

abbrev Calm : DeclaredId → Type 0
Calm d = is_calm d.form ≡ true

no-item : (s : Bool) (k : Kind) (f : Form) → All (Formed (part.Name f)) (id_here (record { part = part.Scope; stays = s }) k)
no-item s (kind.Ident t c o) f = All-nil (Formed (part.Name f))
no-item s _ f = All-nil (Formed (part.Name f))

name-of : (b s : Bool) (g : Form) (found : Sought) → ◌≡◌ {A = Option Sought} (cond b (Some (record { part = part.Name g; stays = s })) None) (Some found) → (h : Form) → Allowed found.part h → h ≡ g
name-of true s g found is h a = subst (λ p. Allowed p h) (sym (same is)) a
  where
    same : ◌≡◌ {A = Option Sought} (Some (record { part = part.Name g; stays = s })) (Some found) → part.Name g ≡ found.part
    same is = cc
name-of false s g found is h a = absurd (never is)
  where
    never : ◌≡◌ {A = Option Sought} None (Some found) → ⊥
    never is = cc

none-held : (b : Bool) (ds : List DeclaredId) → b ≡ false → All Calm (cond b ds [])
none-held true ds is = absurd (true-false refl is)
none-held false ds is = All-nil Calm

module _ (n : Node) where
  named : (g : Form) → is_calm g ≡ true → holds_vars role.Plain (out-Node n).kind ≡ false
      → ((s v : Bool) (j : ℕ) (found : Sought) → in_scope s v (out-Node n).kind j ≡ Some found → (h : Form) → Allowed found.part h → h ≡ g) → All Calm (scope_ids role.Plain n)
  unfolding sought_in
  named g is none step =
      let scope : Sought = record { part = part.Scope; stays = true } in
      let formed = forms-by n scope (part.Name g) (no-item true (out-Node n).kind g) (λ j found h k a. step true (is_value n) j found h k a) in
      All-append Calm (ids_declared n scope) (cond (holds_vars role.Plain (out-Node n).kind) (ids_declared n (record { part = part.Var; stays = true })) [])
      (λ k d lt. ap is_calm (formed k d lt) ∙ is)
      (none-held (holds_vars role.Plain (out-Node n).kind) (ids_declared n (record { part = part.Var; stays = true })) none)

  calm-by : (k : Kind) (there : Bool) → (out-Node n).kind ≡ k → is_expr k ≡ true → opens_by role.Plain k there ≡ true → All Calm (scope_ids role.Plain n)
  unfolding in_scope holds_vars opens_by
  calm-by kind.FnExpr there at expr opened =
      named form.Own refl (ap (holds_vars role.Plain) at) (λ s v j found seeks g a. name-of (j == 0) s form.Own found (ap (λ (k : Kind). in_scope s v k j) (sym at) ∙ seeks) g a)
  calm-by kind.ClassExpr there at expr opened =
      named form.Own refl (ap (holds_vars role.Plain) at) (λ s v j found seeks g a. name-of (j == 0) s form.Own found (ap (λ (k : Kind). in_scope s v k j) (sym at) ∙ seeks) g a)
  calm-by (kind.ArrowExpr x y) there at expr opened =
      named form.Parameter refl (ap (holds_vars role.Plain) at) (λ s v j found seeks g a. name-of (j == 0) s form.Parameter found (ap (λ (k : Kind). in_scope s v k j) (sym at) ∙ seeks) g a)
  calm-by _ there at expr opened = absurd (both-no)
    where
      both-no : ⊥
      both-no = cc

  pub expr-calm : is_expr (out-Node n).kind ≡ true → opens role.Plain n ≡ true → All Calm (scope_ids role.Plain n)
  expr-calm expr opened = calm-by (out-Node n).kind (is_there (out-Node n).children 0) refl expr opened

-- ---- lists

-- a test that lets pass what another does, before it and after it
module _ (f g : Declaration → Bool) (wider : (d : Declaration) → g d ≡ true → f d ≡ true) where
  pub wider-after : (xs : List Declaration) → filter f (filter g xs) ≡ filter g xs
  wider-after [] = refl
  wider-after (x ∷ xs) = by (g x) refl (wider-after xs)
    where
      by : (b : Bool) → g x ≡ b → filter f (filter g xs) ≡ filter g xs → filter f (cond b (x ∷ filter g xs) (filter g xs)) ≡ cond b (x ∷ filter g xs) (filter g xs)
      by true is rec = ap (λ (b : Bool). cond b (x ∷ filter f (filter g xs)) (filter f (filter g xs))) (wider x is) ∙ ap (λ (ys : List Declaration). x ∷ ys) rec
      by false is rec = rec

  pub wider-before : (xs : List Declaration) → filter g (filter f xs) ≡ filter g xs
  wider-before [] = refl
  wider-before (x ∷ xs) = by (f x) (g x) refl refl (wider-before xs)
    where
      by : (b c : Bool) → f x ≡ b → g x ≡ c → filter g (filter f xs) ≡ filter g xs → filter g (cond b (x ∷ filter f xs) (filter f xs)) ≡ cond c (x ∷ filter g xs) (filter g xs)
      by true c is also rec = ap (λ (b : Bool). cond b (x ∷ filter g (filter f xs)) (filter g (filter f xs))) also ∙ ap (λ (ys : List Declaration). cond c (x ∷ ys) ys) rec
      by false true is also rec = absurd (true-false (wider x also) is)
      by false false is also rec = rec

-- two tests that agree on what a third lets pass, after it and before it
module _ (f g pass : Declaration → Bool) where
  pub agree-passed : (xs : List Declaration) → All (λ d. pass d ≡ true → f d ≡ g d) xs → filter f (filter pass xs) ≡ filter pass (filter g xs)
  agree-passed [] all = refl
  agree-passed (x ∷ xs) all = by (pass x) (g x) refl refl (All-head (λ d. pass d ≡ true → f d ≡ g d) x xs all) (agree-passed xs (All-tail (λ d. pass d ≡ true → f d ≡ g d) x xs all))
    where
      by : (b c : Bool) → pass x ≡ b → g x ≡ c → (pass x ≡ true → f x ≡ g x) → filter f (filter pass xs) ≡ filter pass (filter g xs)
          → filter f (cond b (x ∷ filter pass xs) (filter pass xs)) ≡ filter pass (cond c (x ∷ filter g xs) (filter g xs))
      by true true is also same rec =
          ap (λ (b : Bool). cond b (x ∷ filter f (filter pass xs)) (filter f (filter pass xs))) (same is ∙ also) ∙ ap (λ (zs : List Declaration). x ∷ zs) rec
          ∙ sym (ap (λ (b : Bool). cond b (x ∷ filter pass (filter g xs)) (filter pass (filter g xs))) is)
      by true false is also same rec = ap (λ (b : Bool). cond b (x ∷ filter f (filter pass xs)) (filter f (filter pass xs))) (same is ∙ also) ∙ rec
      by false true is also same rec = rec ∙ sym (ap (λ (b : Bool). cond b (x ∷ filter pass (filter g xs)) (filter pass (filter g xs))) is)
      by false false is also same rec = rec

abbrev pub plainly : DeclaredId → Declaration
plainly = with_text no_text

pub map-lasting : (t : Bool) (ds : List DeclaredId) → map plainly (lasting t ds) ≡ filter (last t) (map plainly ds)
map-lasting t [] = refl
map-lasting t (d ∷ ds) = by (lasts t d) (map-lasting t ds)
  where
    by : (b : Bool) → map plainly (lasting t ds) ≡ filter (last t) (map plainly ds) → map plainly (cond b (d ∷ lasting t ds) (lasting t ds)) ≡ cond b (plainly d ∷ filter (last t) (map plainly ds)) (filter (last t) (map plainly ds))
    by true rec = ap (λ (zs : List Declaration). plainly d ∷ zs) rec
    by false rec = rec

map-append : (xs ys : List DeclaredId) → map plainly (xs ++ ys) ≡ map plainly xs ++ map plainly ys
map-append [] ys = refl
map-append (x ∷ xs) ys = ap (λ (zs : List Declaration). plainly x ∷ zs) (map-append xs ys)

map-cond : (b : Bool) (xs : List DeclaredId) → cond b (map plainly xs) [] ≡ map plainly (cond b xs [])
map-cond true xs = refl
map-cond false xs = refl

-- all that a scope declares, by its ids
pub names-ids : (r : Role) (n : Node) → all_names r n ≡ map plainly (scope_ids r n)
names-ids r n =
    let s : Bool = not (is_ambient r) in
    let own : List DeclaredId = ids_declared n (record { part = own_part r; stays = s }) in
    let var : List DeclaredId = ids_declared n (record { part = part.Var; stays = s }) in
    ap₂ (λ (xs ys : List Declaration). xs ++ cond (holds_vars r (out-Node n).kind) ys []) (declares-ids n (record { part = own_part r; stays = s })) (declares-ids n (record { part = part.Var; stays = s }))
    ∙ ap (λ (ys : List Declaration). map plainly own ++ ys) (map-cond (holds_vars r (out-Node n).kind) var)
    ∙ sym (map-append own (cond (holds_vars r (out-Node n).kind) var []))
