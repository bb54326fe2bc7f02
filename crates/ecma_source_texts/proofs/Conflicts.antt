-- The same names are declared twice with source texts.
use Rattle.std.proofs.Common.{◌≡◌, ◌∙◌, ℕ, suc, Bool, List, [], ◌∷◌, ◌++◌, ◌&&◌, ◌||◌, Option, map, not, cond, refl, sym, ap, ap₂, subst}
use Rattle.std.specs.Prelude.{filter}
use Rattle.ecma_tree.specs.declared.node.Node.{Node, Node-F, ind-Node, out-Node, roll-Node}
use Rattle.ecma_tree.specs.declared.node.Node.TheViews.{out-roll-Node}
use Rattle.ecma_tree.proofs.Layers.{from_leaves_out}
use Rattle.ecma_scope.specs.declared.role.Role.{Role}
use Rattle.ecma_scope.specs.declared.role.Role.TheVariants as role
use Rattle.ecma_scope.specs.declared.form.Declaration.{Declaration}
use Rattle.ecma_scope.specs.declared.form.Part.TheVariants as part
use Rattle.ecma_scope.specs.Conflicts.{Surrounding, clash_step, clashes_in, clashing, is_further_out, marked, nothing, own_clashes, passing, redeclared_at, surrounds}
use Rattle.ecma_scope.specs.Declarations.{stated}
use Rattle.ecma_scope.specs.Scopes.{is_ambient}
use Rattle.ecma_round_trip_literals.proofs.Moved.{children_moved, to}
use Rattle.ecma_source_texts.specs.Laws.{SourcesDoNotMatterToConflicts}
use Rattle.ecma_source_texts.proofs.Names.{covers_moved, declarations_moved, holds_moved, names_moved, opens_moved, role_moved}

passing_moved : (r : Role) (n : Node) → passing r (to n) ≡ passing r n
passing_moved r n =
    ap₂ (λ (holds : Bool) (found : List Declaration). cond holds [] (filter (λ d. d.stays) found)) (holds_moved r n) (declarations_moved n (record { part = part.Var; stays = not (is_ambient r) }))

-- those that meet, of the names of a scope and those that pass through it
abbrev met : Role → (List ℕ → Option Bool) → List Declaration → List Declaration → List Declaration
met r around own passed = marked [] (filter (λ d. d.stays || is_further_out r around passed d.sym) own) ++ passed

own_moved : (s : Surrounding) (n : Node) → own_clashes s (to n) ≡ own_clashes s n
own_moved s n = λ j. cond (opens_moved s.role n j) (clashing s.role s.around [] (met s.role s.around (names_moved s.role s.around n j) (passing_moved s.role n j))) []

surrounds_moved : (s : Surrounding) (n : Node) (i : ℕ) → surrounds s (to n) i ≡ surrounds s n i
surrounds_moved s n i =
    λ j. record {
      role = role_moved s.role n i j;
      around = cond (opens_moved s.role n j && covers_moved s.role n i j) (stated (names_moved s.role s.around n j)) s.around;
    }

abbrev Told : Node → Type 0
Told n = (s : Surrounding) → redeclared_at (to n) s ≡ redeclared_at n s

abbrev AllTold : List Node → Type 0
AllTold ns = (f g : ℕ → Surrounding) → ((i : ℕ) → f i ≡ g i) → (i : ℕ) → clashes_in f i (map redeclared_at (map to ns)) ≡ clashes_in g i (map redeclared_at ns)

all_told : (ns : List ((n : Node) × Told n)) → AllTold (map (λ e. e.0) ns)
all_told [] f g same i = refl
all_told (n ∷ ns) f g same i = ap₂ (λ a rest. a ++ rest) (n.1 (f i) ∙ ap (redeclared_at n.0) (same i)) (all_told ns f g same (suc i))

told_out : (n : Node) (s : Surrounding) → redeclared_at n s ≡ own_clashes s n ++ clashes_in (surrounds s n) 0 (map redeclared_at (out-Node n).children)
told_out n s = ap (λ f. f s) (from_leaves_out (Surrounding → List (List ℕ)) clash_step n)

node_told : (n : Node) → AllTold (out-Node n).children → Told n
node_told n all s =
    told_out (to n) s
    ∙ ap₂ (λ own below. own ++ below) (own_moved s n)
    (ap (λ (ns : List Node). clashes_in (surrounds s (to n)) 0 (map redeclared_at ns)) (children_moved n) ∙ all (surrounds s (to n)) (surrounds s n) (surrounds_moved s n) 0)
    ∙ sym (told_out n s)

told_moved : (n : Node) → Told n
told_moved = ind-Node Told (λ x y is. node_told (roll-Node x) (subst (λ (z : Node-F Node). AllTold z.children) (is ∙ sym (out-roll-Node x)) (all_told y.children)))

pub sources_do_not_matter_to_conflicts : SourcesDoNotMatterToConflicts
sources_do_not_matter_to_conflicts tree = told_moved tree (record { role = role.Root; around = nothing })
