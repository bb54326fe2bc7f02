-- The same names are declared twice without spans.
use Rattle.std.proofs.Common.{◌≡◌, ◌∙◌, ℕ, suc, Bool, List, [], ◌∷◌, ◌++◌, ◌&&◌, ◌||◌, Option, map, not, cond, refl, sym, ap, ap₂, subst}
use Rattle.std.specs.Prelude.{filter}
use Rattle.ecma_tree.specs.declared.node.Node.{Node, Node-F, ind-Node, out-Node, roll-Node}
use Rattle.ecma_tree.specs.declared.node.Node.TheViews.{out-roll-Node}
use Rattle.ecma_tree.specs.Spans.{without_spans}
use Rattle.ecma_scope.specs.declared.role.Role.{Role}
use Rattle.ecma_scope.specs.declared.role.Role.TheVariants as role
use Rattle.ecma_scope.specs.declared.form.Declaration.{Declaration}
use Rattle.ecma_scope.specs.declared.form.Part.TheVariants as part
use Rattle.ecma_scope.specs.Conflicts.{Surrounding, clash_step, clashes_in, clashing, is_further_out, marked, nothing, own_clashes, passing, redeclared, redeclared_at, surrounds}
use Rattle.ecma_scope.specs.Declarations.{holds_vars, stated}
use Rattle.ecma_scope.specs.Scopes.{covers, is_ambient}
use Rattle.ecma_scope_congruence.specs.Laws.{SpansDoNotMatterToConflicts}
use Rattle.ecma_scope_congruence.proofs.Bare.{bare-children, bare-kind, opens-bare, role-bare}
use Rattle.ecma_scope_congruence.proofs.Names.{declarations-bare, names-bare}
use Rattle.ecma_tree.proofs.Layers.{from_leaves_out}

passing-bare : (r : Role) (n : Node) → passing r (without_spans n) ≡ passing r n
passing-bare r n =
    ap₂ (λ k (found : List Declaration). cond (holds_vars r k) [] (filter (λ d. d.stays) found)) (bare-kind n) (declarations-bare n (record { part = part.Var; stays = not (is_ambient r) }))

-- those that meet, of the names of a scope and those that pass through it
abbrev pub met : Role → (List ℕ → Option Bool) → List Declaration → List Declaration → List Declaration
met r around own passed = marked [] (filter (λ d. d.stays || is_further_out r around passed d.sym) own) ++ passed

own-bare : (s : Surrounding) (n : Node) → own_clashes s (without_spans n) ≡ own_clashes s n
own-bare s n =
    λ j. cond (opens-bare s.role n j) (clashing s.role s.around [] (met s.role s.around (names-bare s.role s.around n j) (passing-bare s.role n j))) []

surrounds-bare : (s : Surrounding) (n : Node) (i : ℕ) → surrounds s (without_spans n) i ≡ surrounds s n i
surrounds-bare s n i =
    λ j. record {
      role = role-bare s.role n i j;
      around = cond (opens-bare s.role n j && covers s.role (bare-kind n j) i) (stated (names-bare s.role s.around n j)) s.around;
    }

abbrev Told : Node → Type 0
Told n = (s : Surrounding) → redeclared_at (without_spans n) s ≡ redeclared_at n s

abbrev AllTold : List Node → Type 0
AllTold ns = (f g : ℕ → Surrounding) → ((i : ℕ) → f i ≡ g i) → (i : ℕ) → clashes_in f i (map redeclared_at (map without_spans ns)) ≡ clashes_in g i (map redeclared_at ns)

all-told : (ns : List ((n : Node) × Told n)) → AllTold (map (λ e. e.0) ns)
all-told [] f g same i = refl
all-told (n ∷ ns) f g same i = ap₂ (λ a rest. a ++ rest) (n.1 (f i) ∙ ap (redeclared_at n.0) (same i)) (all-told ns f g same (suc i))

told-out : (n : Node) (s : Surrounding) → redeclared_at n s ≡ own_clashes s n ++ clashes_in (surrounds s n) 0 (map redeclared_at (out-Node n).children)
told-out n s = ap (λ f. f s) (from_leaves_out (Surrounding → List (List ℕ)) clash_step n)

node-told : (n : Node) → AllTold (out-Node n).children → Told n
node-told n all s =
    told-out (without_spans n) s
    ∙ ap₂ (λ own below. own ++ below) (own-bare s n)
    (ap (λ (ns : List Node). clashes_in (surrounds s (without_spans n)) 0 (map redeclared_at ns)) (bare-children n) ∙ all (surrounds s (without_spans n)) (surrounds s n) (surrounds-bare s n) 0)
    ∙ sym (told-out n s)

told-bare : (n : Node) → Told n
told-bare = ind-Node Told (λ x y is. node-told (roll-Node x) (subst (λ (z : Node-F Node). AllTold z.children) (is ∙ sym (out-roll-Node x)) (all-told y.children)))

abbrev at_root : Surrounding
at_root = record { role = role.Root; around = nothing }

pub spans_do_not_matter_to_conflicts : SpansDoNotMatterToConflicts
spans_do_not_matter_to_conflicts a b same = sym (told-bare a at_root) ∙ ap redeclared same ∙ told-bare b at_root
