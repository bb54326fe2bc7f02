-- The same names are declared again with parentheses added.
use Rattle.std.proofs.Common.{◌≡◌, ◌∙◌, ℕ, zero, suc, Bool, true, false, not, ◌&&◌, ◌||◌, cond, List, [], ◌∷◌, ◌++◌, map, Option, refl, sym, ap, ap₂}
use Rattle.std.specs.Prelude.{filter}
use Rattle.ecma_kind.specs.declared.kind.Kind.{Kind}
use Rattle.ecma_kind.specs.declared.shapes.Sort.TheVariants as sort
use Rattle.ecma_tree.specs.declared.node.Node.{Node}
use Rattle.ecma_tree.specs.Sorted.{one}
use Rattle.ecma_rules.specs.Children.{kind_of}
use Rattle.ecma_scope.specs.declared.role.Role.{Role}
use Rattle.ecma_scope.specs.declared.role.Role.TheVariants as role
use Rattle.ecma_scope.specs.declared.form.Declaration.{Declaration}
use Rattle.ecma_scope.specs.declared.form.Part.TheVariants as part
use Rattle.ecma_scope.specs.Conflicts.{Surrounding, clashes_in, clashing, is_further_out, marked, nothing, own_clashes, passing, redeclared_at, surrounds}
use Rattle.ecma_scope.specs.Declarations.{holds_vars, names, stated}
use Rattle.ecma_scope.specs.Scopes.{covers, is_ambient, is_there, opens, role_by}
use Rattle.ecma_scope.proofs.Clashing.{redeclared_at-out}
use Rattle.ecma_enclose.specs.Enclosing.{in_parentheses}
use Rattle.ecma_enclose_fits.proofs.Adding.{Adds, All, Alone, Below, adds, children_of, enclosed_adds, every, first, more, none}
use Rattle.ecma_enclose_fits.proofs.Alike.{kind_same}
use Rattle.ecma_enclose_scopes.specs.Laws.{EnclosedTreesDeclareAlike}
use Rattle.ecma_enclose_scopes.proofs.Declared.{declared_same, names_same, open_role, opens_same, paren_children, paren_round, role_same, round_opens, round_role}

passing_same : (q : Role) {a b : Node} → Adds a b → passing q b ≡ passing q a
passing_same q r =
    ap₂ (λ k (found : List Declaration). cond (holds_vars q k) [] (filter (λ d. d.stays) found)) (kind_same r) (declared_same r (record { part = part.Var; stays = not (is_ambient q) }))

-- those that meet, of the names of a scope and those that pass through it
abbrev met : Role → (List ℕ → Option Bool) → List Declaration → List Declaration → List Declaration
met q around own passed = marked [] (filter (λ d. d.stays || is_further_out q around passed d.sym) own) ++ passed

own_same : (s : Surrounding) {a b : Node} → Adds a b → own_clashes s b ≡ own_clashes s a
own_same s r = λ j. cond (opens_same s.role r j) (clashing s.role s.around [] (met s.role s.around (names_same s.role s.around r j) (passing_same s.role r j))) []

surrounds_same : (s : Surrounding) {a b : Node} → Adds a b → (i : ℕ) → surrounds s b i ≡ surrounds s a i
surrounds_same s r i =
    λ j. record {
      role = role_same s.role r i j;
      around = cond (opens_same s.role r j && covers s.role (kind_same r j) i) (stated (names_same s.role s.around r j)) s.around;
    }

-- ---- parentheses

abbrev plainly : Surrounding → Surrounding
plainly s = record { role = role.Plain; around = s.around }

none_own : (s : Surrounding) (n : Node) → opens s.role n ≡ false → own_clashes s n ≡ []
none_own s n closed = rw closed refl

append_none : (xs : List (List ℕ)) → [] ++ (xs ++ []) ≡ xs
append_none [] = refl
append_none (x ∷ xs) = ap (λ rest. x ∷ rest) (append_none xs)

paren_told : (e : Node) (s : Surrounding) → redeclared_at (in_parentheses e) s ≡ redeclared_at e (plainly s)
paren_told e s =
    let closed = round_opens s.role (in_parentheses e) (paren_round e) in
    let inside : surrounds s (in_parentheses e) 0 ≡ plainly s = λ j. record {
      role = round_role s.role (in_parentheses e) 0 (paren_round e) j;
      around = cond (closed j && covers s.role (kind_of (in_parentheses e)) 0) (stated (names s.role s.around (in_parentheses e))) s.around;
    } in
    redeclared_at-out (in_parentheses e) s
    ∙ ap₂ (λ own (cs : List Node). own ++ clashes_in (surrounds s (in_parentheses e)) 0 (map redeclared_at cs)) (none_own s (in_parentheses e) closed) (paren_children e)
    ∙ ap (λ t. [] ++ (redeclared_at e t ++ [])) inside
    ∙ append_none (redeclared_at e (plainly s))

mutual
  pub told_same : {a b : Node} → Adds a b → (s : Surrounding) → redeclared_at b s ≡ redeclared_at a s
  told_same {a} {b} (adds sh k at below) s =
      redeclared_at-out b s
      ∙ ap₂ (λ x y. x ++ y) (own_same s (adds sh k at below))
      (below_told (kind_of a) s.role (is_there (children_of a) 1) below (surrounds s b) (surrounds s a) (surrounds_same s (adds sh k at below)) (λ i. refl))
      ∙ sym (redeclared_at-out a s)

  below_told : (k : Kind) (q : Role) (sourced : Bool) {ns ms : List Node} → Below k ns ms → (f g : ℕ → Surrounding) → ((i : ℕ) → f i ≡ g i) → ((i : ℕ) → (g i).role ≡ role_by q k sourced i)
      → clashes_in f 0 (map redeclared_at ms) ≡ clashes_in g 0 (map redeclared_at ns)
  below_told k q sourced (every all) f g same is = all_told all f g same 0
  below_told k q sourced (first e alone all) f g same is =
      ap₂ (λ x y. x ++ y)
      (ap (redeclared_at (in_parentheses e)) (same 0) ∙ paren_told e (g 0) ∙ ap (λ p. redeclared_at e (record { role = p; around = (g 0).around })) (sym (is 0 ∙ open_role k e alone q sourced)))
      (all_told all f g same 1)

  all_told : {ns ms : List Node} → All ns ms → (f g : ℕ → Surrounding) → ((i : ℕ) → f i ≡ g i) → (i : ℕ) → clashes_in f i (map redeclared_at ms) ≡ clashes_in g i (map redeclared_at ns)
  all_told none f g same i = refl
  all_told (more {n} {m} r all) f g same i = ap₂ (λ x y. x ++ y) (ap (redeclared_at m) (same i) ∙ told_same r (g i)) (all_told all f g same (suc i))

pub declare_alike : EnclosedTreesDeclareAlike
declare_alike tree sorted = told_same (enclosed_adds tree (one sort.Module, sorted)) (record { role = role.Root; around = nothing })
