-- So a `var` has the context that the scopes around it give its text.
use Rattle.std.proofs.Common.{◌≡◌, ℕ, suc, ◌-◌, Bool, true, false, ◌&&◌, cond, List, [], ◌∷◌, ◌++◌, map, Option, Some, None, is_some, refl, sym, ap, ◌∙◌, subst, get_or}
use Rattle.std.specs.List.{All}
use Rattle.std.proofs.lemmas.List.Elements.{All-append, All-nil}
use Rattle.ecma_kind.specs.declared.kind.Kind.{Kind}
use Rattle.ecma_kind.specs.declared.kind.Kind.TheVariants as kind
use Rattle.ecma_tree.specs.declared.node.Node.{Node, Node-F, ind-Node, out-Node, roll-Node}
use Rattle.ecma_tree.specs.declared.node.Node.TheViews.{out-roll-Node}
use Rattle.ecma_scope.specs.declared.form.Form.TheVariants as form
use Rattle.ecma_scope.specs.declared.form.Part.TheVariants as part
use Rattle.ecma_scope.specs.declared.form.Sought.{Sought}
use Rattle.ecma_scope.specs.declared.role.Role.{Role}
use Rattle.ecma_scope.specs.Declarations.{in_var, sought_in}
use Rattle.ecma_scope.specs.Resolved.{Place, Scope as Frame, context_count, context_in, given, innermost, is_name, kind_at, placed, resolved_at, taken}
use Rattle.ecma_scope.specs.Scopes.{covers, is_there, opens, role_in}
use Rattle.ecma_hygiene.proofs.Roles.{seeks_name, sought-no-name}
use Rattle.ecma_hygiene_scopes.specs.DeclaredIds.{DeclaredId, id_here, ids_at, ids_declared, ids_in}
use Rattle.ecma_hygiene_scopes.proofs.Directly.{Given, finds, ids-resolved, place_in}
use Rattle.ecma_hygiene_scopes.proofs.Goodness.{Each, Good, Nested, fits-here, frame_of, frames_in, good-inside, is_module_kind}
use Rattle.ecma_hygiene_scopes.proofs.Passing.{Clear, VarNext, all-clear, further, nothing, passes, passes-calm, pattern, var-nexts, var-role}
use Rattle.ecma_hygiene_scopes.proofs.Sameness.{children_resolved}
use Rattle.ecma_hygiene_scopes.proofs.Stopping.{All-first, All-second}
use Rattle.ecma_hygiene_scopes.proofs.Ways.{next_var, var-next}

pub context-last : (unresolved : ℕ) (frames : List Frame) (f : Frame) (text : List ℕ) (outer : ℕ) → context_in unresolved (frames ++ f ∷ []) text outer ≡ given (f.states text) f.ctxt unresolved (context_in unresolved frames text outer)
context-last unresolved [] f text outer = refl
context-last unresolved (g ∷ frames) f text outer = context-last unresolved frames f text (given (g.states text) g.ctxt unresolved outer)

module _ (unresolved top : ℕ) where
  abbrev res : Node → Place → ℕ → Node
  res = resolved_at unresolved top

  abbrev var : Sought
  var = record { part = part.Var; stays = true }

  pub var-here : (k : Kind) (frames : List Frame) → All (Given unresolved top frames) (id_here var k)
  var-here (kind.Ident s c o) frames = All-nil (Given unresolved top frames)
  var-here _ frames = All-nil (Given unresolved top frames)

  pub none-in : (P : DeclaredId → Type 0) (into : ℕ → Option Sought) (i : ℕ) (xs : List Node) → ((j : ℕ) → into j ≡ None) → All P (ids_in into i (map ids_declared xs))
  none-in P into i [] none = All-nil P
  none-in P into i (x ∷ xs) none =
      All-append P (ids_at (into i) (ids_declared x)) (ids_in into (suc i) (map ids_declared xs)) (subst (λ (o : Option Sought). All P (ids_at o (ids_declared x))) (sym (none i)) (All-nil P)) (none-in P into (suc i) xs none)

  abbrev Passes : Node → Type 0
  Passes m = (r : Role) (frames : List Frame) (left : ℕ) → passes r ≡ true → is_module_kind (out-Node m).kind ≡ false → Good m r (innermost frames) → All (Given unresolved top frames) (ids_declared (res m (place_in unresolved top r frames) left) var)

  -- what is known of declared ids where a scope is opened: that it does not state their texts
  abbrev pub Known : Bool → Frame → List DeclaredId → Type 0
  Known opened f xs = opened ≡ true → All (Clear unresolved top f) xs

  -- what stands around children, where `var` goes on
  pub record Around (o : Option Sought) (frames : List Frame) (roles : ℕ → Role) (frames_of : ℕ → List Frame) (opened : Bool) (f : Frame) : Type 0 where
    pub next : VarNext o
    pub role : o ≡ Some (record { part = part.Var; stays = true }) → (j : ℕ) → passes (roles j) ≡ true
    pub named : (s : Bool) → o ≡ Some (record { part = part.Name form.Var; stays = s }) → (j : ℕ) → is_name (roles j) ≡ false
    pub same : (j : ℕ) (xs : List DeclaredId) → All (Given unresolved top (frames_of j)) xs → Known opened f xs → All (Given unresolved top frames) xs

  abbrev pub AllPass : List Node → Type 0
  AllPass ms = (o : Option Sought) (frames : List Frame) (roles : ℕ → Role) (frames_of : ℕ → List Frame) (opened : Bool) (f : Frame) (i left : ℕ) → Around o frames roles frames_of opened f
      → Each (λ j x. Good x (roles j) (innermost (frames_of j))) i ms → Nested ms
      → Known opened f (ids_in (λ j. o) i (map ids_declared (placed (λ j. place_in unresolved top (roles j) (frames_of j)) i ms (map (resolved_at unresolved top) ms) left)))
      → All (Given unresolved top frames) (ids_in (λ j. o) i (map ids_declared (placed (λ j. place_in unresolved top (roles j) (frames_of j)) i ms (map (resolved_at unresolved top) ms) left)))

  at-child : (m : Node) → Passes m → (o : Option Sought) (r : Role) (frames : List Frame) (left : ℕ) → VarNext o → (o ≡ Some (record { part = part.Var; stays = true }) → passes r ≡ true)
      → ((s : Bool) → o ≡ Some (record { part = part.Name form.Var; stays = s }) → is_name r ≡ false) → Good m r (innermost frames) → is_module_kind (out-Node m).kind ≡ false
      → All (Given unresolved top frames) (ids_at o (ids_declared (res m (place_in unresolved top r frames) left)))
  at-child m pass o r frames left (nothing is) role named good other =
      subst (λ (z : Option Sought). All (Given unresolved top frames) (ids_at z (ids_declared (res m (place_in unresolved top r frames) left)))) (sym is) (All-nil (Given unresolved top frames))
  at-child m pass o r frames left (further is) role named good other =
      subst (λ (z : Option Sought). All (Given unresolved top frames) (ids_at z (ids_declared (res m (place_in unresolved top r frames) left)))) (sym is) (pass r frames left (role is) other good)
  at-child m pass o r frames left (pattern s is) role named good other =
      subst (λ (z : Option Sought). All (Given unresolved top frames) (ids_at z (ids_declared (res m (place_in unresolved top r frames) left)))) (sym is)
      (finds unresolved top m (record { part = part.Name form.Var; stays = s }) r frames left (named s is))

  all-pass : (ms : List ((m : Node) × Passes m)) → AllPass (map (λ e. e.0) ms)
  all-pass [] o frames roles frames_of opened f i left around goods nested q = All-nil (Given unresolved top frames)
  all-pass (m ∷ ms) o frames roles frames_of opened f i left around goods nested q =
      let less : ℕ = left - context_count m.0 (roles i) in
      let here : List DeclaredId = ids_at o (ids_declared (res m.0 (place_in unresolved top (roles i) (frames_of i)) left)) in
      let rest : List DeclaredId = ids_in (λ j. o) (suc i) (map ids_declared (placed (λ j. place_in unresolved top (roles j) (frames_of j)) (suc i) (map (λ e. e.0) ms) (map res (map (λ e. e.0) ms)) less)) in
      All-append (Given unresolved top frames) here rest
      (around.same i here (at-child m.0 m.1 o (roles i) (frames_of i) left around.next (λ is. around.role is i) (λ s is. around.named s is i) goods.0 nested.0) (λ is. All-first (Clear unresolved top f) here rest (q is)))
      (all-pass ms o frames roles frames_of opened f (suc i) less around goods.1 nested.1 (λ is. All-second (Clear unresolved top f) here rest (q is)))

  -- ---- a scope on the way does not state the text

  cleared : (frames : List Frame) (f : Frame) (xs : List DeclaredId) → All (Given unresolved top (frames ++ f ∷ [])) xs → All (Clear unresolved top f) xs → All (Given unresolved top frames) xs
  cleared frames f xs all clear =
      λ k d lt stays. all k d lt stays ∙ context-last unresolved frames f (get_or xs k d).id.0 unresolved
      ∙ ap (λ (o : Option Bool). given o f.ctxt unresolved (context_in unresolved frames (get_or xs k d).id.0 unresolved)) (clear k d lt stays)

  same-by : (opened covered : Bool) (frames : List Frame) (f : Frame) (xs : List DeclaredId) → All (Given unresolved top (cond (opened && covered) (frames ++ f ∷ []) frames)) xs → (opened ≡ true → All (Clear unresolved top f) xs)
      → All (Given unresolved top frames) xs
  same-by false covered frames f xs all clear = all
  same-by true false frames f xs all clear = all
  same-by true true frames f xs all clear = cleared frames f xs all (clear refl)

  pub some-next : (k : Kind) (q : Sought) → in_var true k ≡ Some q → is_some (next_var k) ≡ true
  some-next k q h = ap is_some (var-next true k q h)

  pub named-child : (m : Node) (r : Role) (s : Bool) → in_var true (out-Node m).kind ≡ Some (record { part = part.Name form.Var; stays = s }) → (j : ℕ) → is_name (role_in r m j) ≡ false
  unfolding sought_in
  named-child m r s h j = sought-no-name var r m j (ap seeks_name h)

  module _ (m : Node) (r : Role) (frames : List Frame) (left : ℕ) (passed : passes r ≡ true) (other : is_module_kind (out-Node m).kind ≡ false) (good : Good m r (innermost frames)) where
    around-children : VarNext (in_var true (out-Node m).kind) → Around (in_var true (out-Node m).kind) frames (role_in r m) (frames_in top m r frames left) (opens r m) (frame_of top m r frames left)
    around-children next = record {
      next = next;
      role = λ is j. var-role r (out-Node m).kind (is_there (out-Node m).children 1) j (passes-calm r passed) (some-next (out-Node m).kind _ is);
      named = named-child m r;
      same = λ j xs all known. same-by (opens r m) (covers r (out-Node m).kind j) frames (frame_of top m r frames left) xs all known;
    }

    abbrev below : List DeclaredId
    below = ids_in (λ j. in_var true (out-Node m).kind) 0 (map ids_declared (children_resolved unresolved top m (place_in unresolved top r frames) left))

    parts : ids_declared (res m (place_in unresolved top r frames) left) var ≡ id_here var (kind_at unresolved (place_in unresolved top r frames) (out-Node m).kind) ++ below
    unfolding sought_in
    parts = ids-resolved unresolved top m (place_in unresolved top r frames) left var

    known : is_some (next_var (out-Node m).kind) ≡ true → Known (opens r m) (frame_of top m r frames left) below
    known is opened =
        All-second (Clear unresolved top (frame_of top m r frames left)) (id_here var (kind_at unresolved (place_in unresolved top r frames) (out-Node m).kind)) below
        (subst (All (Clear unresolved top (frame_of top m r frames left))) parts (all-clear unresolved top m r frames left passed other good is opened))

    below-by : AllPass (out-Node m).children → VarNext (in_var true (out-Node m).kind) → All (Given unresolved top frames) below
    below-by children (nothing is) = none-in (Given unresolved top frames) (λ j. in_var true (out-Node m).kind) 0 (children_resolved unresolved top m (place_in unresolved top r frames) left) (λ j. is)
    below-by children (further is) =
        let some = some-next (out-Node m).kind var is in
        children (in_var true (out-Node m).kind) frames (role_in r m) (frames_in top m r frames left) (opens r m) (frame_of top m r frames left) 0 (left - taken r m) (around-children (further is)) (good-inside top m r frames left good)
        ((fits-here m r (innermost frames) good).nested some) (known some)
    below-by children (pattern s is) =
        let some = some-next (out-Node m).kind (record { part = part.Name form.Var; stays = s }) is in
        children (in_var true (out-Node m).kind) frames (role_in r m) (frames_in top m r frames left) (opens r m) (frame_of top m r frames left) 0 (left - taken r m) (around-children (pattern s is)) (good-inside top m r frames left good)
        ((fits-here m r (innermost frames) good).nested some) (known some)

  layer-passes : (m : Node) → AllPass (out-Node m).children → Passes m
  layer-passes m children r frames left passed other good =
      subst (All (Given unresolved top frames)) (sym (parts m r frames left passed other good))
      (All-append (Given unresolved top frames) (id_here var (kind_at unresolved (place_in unresolved top r frames) (out-Node m).kind)) (below m r frames left passed other good)
      (var-here (kind_at unresolved (place_in unresolved top r frames) (out-Node m).kind) frames) (below-by m r frames left passed other good children (var-nexts (out-Node m).kind)))

  crosses : (m : Node) → Passes m
  crosses = ind-Node Passes (λ x y is.
      layer-passes (roll-Node x) (subst AllPass (ap (λ (z : Node-F Node). z.children) is ∙ sym (ap (λ (z : Node-F Node). z.children) (out-roll-Node x))) (all-pass y.children)))

  pub each-passes : (ms : List Node) → AllPass ms
  each-passes [] o frames roles frames_of opened f i left around goods nested q = All-nil (Given unresolved top frames)
  each-passes (m ∷ ms) o frames roles frames_of opened f i left around goods nested q =
      let less : ℕ = left - context_count m (roles i) in
      let here : List DeclaredId = ids_at o (ids_declared (res m (place_in unresolved top (roles i) (frames_of i)) left)) in
      let rest : List DeclaredId = ids_in (λ j. o) (suc i) (map ids_declared (placed (λ j. place_in unresolved top (roles j) (frames_of j)) (suc i) ms (map res ms) less)) in
      All-append (Given unresolved top frames) here rest
      (around.same i here (at-child m (crosses m) o (roles i) (frames_of i) left around.next (λ is. around.role is i) (λ s is. around.named s is i) goods.0 nested.0) (λ is. All-first (Clear unresolved top f) here rest (q is)))
      (each-passes ms o frames roles frames_of opened f (suc i) less around goods.1 nested.1 (λ is. All-second (Clear unresolved top f) here rest (q is)))
