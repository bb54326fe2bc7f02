-- In a resolved tree the same names are declared again.
use Rattle.std.proofs.Common.{◌≡◌, ℕ, suc, ◌-◌, Bool, ◌&&◌, ◌||◌, not, cond, filter, List, [], ◌∷◌, ◌++◌, map, Option, refl, sym, ap, ap₂, ◌∙◌, subst}
use Rattle.ecma_kind.specs.declared.kind.Kind.{Kind}
use Rattle.ecma_kind.specs.declared.kind.Kind.TheVariants as kind
use Rattle.ecma_tree.specs.declared.node.Node.{Node, Node-F, ind-Node, out-Node, roll-Node}
use Rattle.ecma_tree.specs.declared.node.Node.TheViews.{out-roll-Node}
use Rattle.ecma_scope.specs.declared.form.Declaration.{Declaration}
use Rattle.ecma_scope.specs.declared.form.Part.TheVariants as part
use Rattle.ecma_scope.specs.declared.form.Sought.{Sought}
use Rattle.ecma_scope.specs.declared.role.Role.{Role}
use Rattle.ecma_scope.specs.Conflicts.{Surrounding, clashes_in, clashing, is_further_out, marked, own_clashes, passing, redeclared_at, surrounds}
use Rattle.ecma_scope.specs.Declarations.{declarations, holds_vars, is_own, names, own_part, stated}
use Rattle.ecma_scope.specs.Resolved.{Place, context_count, inside, placed, resolved_at, taken}
use Rattle.ecma_scope.specs.Scopes.{covers, is_ambient}
use Rattle.ecma_scope.proofs.Clashing.{redeclared_at-out}
use Rattle.ecma_hygiene_scopes.proofs.Sameness.{children-here, declares-ids, declares-resolved, kind-resolved, opens-resolved, role-resolved}

-- those that meet, of the names of a scope and those that pass through it
abbrev met : Role → (List ℕ → Option Bool) → List Declaration → List Declaration → List Declaration
met r around own passed = marked [] (filter (λ d. d.stays || is_further_out r around passed d.sym) own) ++ passed

holds-same : (r : Role) → (s t : List ℕ) (c d : ℕ) (o : Bool) → holds_vars r (kind.Ident s c o) ≡ holds_vars r (kind.Ident t d o)
unfolding holds_vars
holds-same r s t c d o = refl

covers-same : (r : Role) (i : ℕ) → (s t : List ℕ) (c d : ℕ) (o : Bool) → covers r (kind.Ident s c o) i ≡ covers r (kind.Ident t d o) i
unfolding covers
covers-same r i s t c d o = refl

module _ (unresolved top : ℕ) where
  abbrev res : Node → Place → ℕ → Node
  res = resolved_at unresolved top

  found-same : (m : Node) (place : Place) (left : ℕ) (q : Sought) → declarations (res m place left) q ≡ declarations m q
  found-same m place left q = declares-ids (res m place left) q ∙ sym (declares-resolved unresolved top m place left q)

  holds-resolved : (m : Node) (place : Place) (left : ℕ) (r : Role) → holds_vars r (out-Node (res m place left)).kind ≡ holds_vars r (out-Node m).kind
  holds-resolved m place left r = kind-resolved unresolved top (holds_vars r) (holds-same r) m place left

  names-same : (m : Node) (place : Place) (left : ℕ) (r : Role) (around : List ℕ → Option Bool) → names r around (res m place left) ≡ names r around m
  names-same m place left r around =
      let own : Sought = record { part = own_part r; stays = not (is_ambient r) } in
      let var : Sought = record { part = part.Var; stays = not (is_ambient r) } in
      (λ j. filter (is_own r around) (found-same m place left own j ++ cond (holds-resolved m place left r j) (found-same m place left var j) []))

  passing-same : (m : Node) (place : Place) (left : ℕ) (r : Role) → passing r (res m place left) ≡ passing r m
  passing-same m place left r =
      (λ j. cond (holds-resolved m place left r j) [] (filter (λ d. d.stays) (found-same m place left (record { part = part.Var; stays = not (is_ambient r) }) j)))

  own-same : (m : Node) (place : Place) (left : ℕ) (s : Surrounding) → own_clashes s (res m place left) ≡ own_clashes s m
  own-same m place left s =
      (λ j. cond (opens-resolved unresolved top m place left s.role j) (clashing s.role s.around [] (met s.role s.around (names-same m place left s.role s.around j) (passing-same m place left s.role j))) [])

  surrounds-same : (m : Node) (place : Place) (left : ℕ) (s : Surrounding) (i : ℕ) → surrounds s (res m place left) i ≡ surrounds s m i
  surrounds-same m place left s i =
      (λ j. record {
        role = role-resolved unresolved top m place left s.role i j;
        around = cond (opens-resolved unresolved top m place left s.role j && kind-resolved unresolved top (λ (k : Kind). covers s.role k i) (covers-same s.role i) m place left j) (stated (names-same m place left s.role s.around j)) s.around;
      })

  abbrev Told : Node → Type 0
  Told m = (place : Place) (left : ℕ) (s : Surrounding) → redeclared_at (res m place left) s ≡ redeclared_at m s

  abbrev AllTold : List Node → Type 0
  AllTold ms = (places : ℕ → Place) (f g : ℕ → Surrounding) → ((i : ℕ) → f i ≡ g i) → (i left : ℕ) → clashes_in f i (map redeclared_at (placed places i ms (map res ms) left)) ≡ clashes_in g i (map redeclared_at ms)

  all-told : (ms : List ((m : Node) × Told m)) → AllTold (map (λ e. e.0) ms)
  all-told [] places f g same i left = refl
  all-told (m ∷ ms) places f g same i left =
      ap₂ (λ (a b : List (List ℕ)). a ++ b) (m.1 (places i) left (f i) ∙ ap (redeclared_at m.0) (same i)) (all-told ms places f g same (suc i) (left - context_count m.0 (places i).role))

  layer-told : (m : Node) → AllTold (out-Node m).children → Told m
  layer-told m children place left s =
      redeclared_at-out (res m place left) s
      ∙ ap₂ (λ (a b : List (List ℕ)). a ++ b) (own-same m place left s)
      (ap (λ (cs : List Node). clashes_in (surrounds s (res m place left)) 0 (map redeclared_at cs)) (children-here unresolved top m place left)
      ∙ children (inside top place m left) (surrounds s (res m place left)) (surrounds s m) (surrounds-same m place left s) 0 (left - taken place.role m))
      ∙ sym (redeclared_at-out m s)

  -- contexts do not matter to conflicts
  pub told : (m : Node) → Told m
  told = ind-Node Told (λ x y is.
      layer-told (roll-Node x) (subst AllTold (ap (λ (z : Node-F Node). z.children) is ∙ sym (ap (λ (z : Node-F Node). z.children) (out-roll-Node x))) (all-told y.children)))
