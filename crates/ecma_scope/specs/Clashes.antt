-- Where declarations clash, and which clash stands first in the text.
use Rattle.std.specs.Prelude.{◌≡◌, ℕ, suc, Bool, ◌&&◌, max, nat_lt, List, [], ◌∷◌, ◌++◌, map, filter, Option, Some, None, Result, Ok, Err, if◌then◌else◌}
use Rattle.std.specs.Option.{option_map}
use Rattle.ecma_tree.specs.declared.node.Node.{Node}
use Rattle.ecma_tree.specs.Layers.{from_leaves}
use Rattle.ecma_scope.specs.declared.role.Role.{Role}
use Rattle.ecma_scope.specs.declared.role.Role.TheVariants as role
use Rattle.ecma_scope.specs.declared.form.Located.{Located}
use Rattle.ecma_scope.specs.declared.clash.Clash.{Clash}
use Rattle.ecma_scope.specs.declared.error.ScopeError.{ScopeError}
use Rattle.ecma_scope.specs.declared.error.ScopeError.TheVariants.{Redeclared, NoMemory}
use Rattle.ecma_scope.specs.Scopes.{opens}
use Rattle.ecma_scope.specs.Declarations.{is_stated}
use Rattle.ecma_scope.specs.Conflicts.{Surrounding, conflict, has_parameters, is_lexical, nothing, surrounds}
use Rattle.ecma_scope.specs.Located.{located_meeting}

-- where a declaration clashes: with each before it in the list that it conflicts with, at the later of the two in the text; and, where it is lexical in
-- the body of a function or the block of a `catch`, with a parameter, at itself
--   let a; var a;   // at the second a
--   var a; let a;   // at the second a
--   function f(a) { let a; }   // at the second a
--   try { } catch (a) { let a; }   // at the second a
abbrev pub clash_offsets : Role → (List ℕ → Option Bool) → List Located → Located → List ℕ
clash_offsets r around earlier l =
    map (λ e. max e.at l.at) (filter (λ e. conflict r e.declaration l.declaration) earlier)
    ++ (if has_parameters r && (is_lexical r l.declaration.form && is_stated (around l.declaration.sym)) then l.at ∷ [] else [])

abbrev pub clash_at : List ℕ → ℕ → Clash
clash_at name at = record { name = name; at = at }

-- the clashes of declarations, in a list, with those before them
abbrev pub clashes_among : Role → (List ℕ → Option Bool) → List Located → List Located → List Clash
clashes_among r around earlier [] = []
clashes_among r around earlier (l ∷ ls) =
    map (clash_at l.declaration.sym) (clash_offsets r around earlier l) ++ clashes_among r around (earlier ++ l ∷ []) ls

-- the clashes in the scope that a node opens
abbrev pub scope_clashes : Surrounding → Node → List Clash
scope_clashes s node = if opens s.role node then clashes_among s.role s.around [] (located_meeting s.role s.around node) else []

abbrev pub clashes_below : (ℕ → Surrounding) → ℕ → List (Surrounding → List Clash) → List Clash
clashes_below surroundings i [] = []
clashes_below surroundings i (child ∷ children) = child (surroundings i) ++ clashes_below surroundings (suc i) children

abbrev pub clashes_step : Node → List (Surrounding → List Clash) → Surrounding → List Clash
clashes_step node children s = scope_clashes s node ++ clashes_below (surrounds s node) 0 children

abbrev pub clashes_at : Node → Surrounding → List Clash
clashes_at = from_leaves (Surrounding → List Clash) clashes_step

-- all clashes in a tree
--   { let b; let b; } let a; let a;   // that of b, and that of a
abbrev pub clashes_of : Node → List Clash
clashes_of tree = clashes_at tree (record { role = role.Root; around = nothing })

-- of two clashes the one that stands first in the text; where they stand at one offset, the former
abbrev pub sooner : Option Clash → Option Clash → Option Clash
sooner None b = b
sooner (Some a) None = Some a
sooner (Some a) (Some b) = if nat_lt b.at a.at then Some b else Some a

abbrev pub first_clash : List Clash → Option Clash
first_clash [] = None
first_clash (clash ∷ clashes) = sooner (Some clash) (first_clash clashes)

abbrev pub name_of : Clash → List ℕ
name_of clash = clash.name

-- the name that is declared again where it may not be, first in the text
--   { let b; let b; } let a; let a;   // b
--   let a; { let b; let b; } let a;   // b
--   let a; let a; { let b; let b; }   // a
abbrev pub first_redeclared : Node → Option (List ℕ)
first_redeclared tree = option_map name_of (first_clash (clashes_of tree))

-- there is none, or it is told
abbrev pub Answers : Result (Unit {0}) ScopeError → Option (List ℕ) → Type 0
Answers (Ok _) first = first ≡ None
Answers (Err (Redeclared name)) first = first ≡ Some name
Answers (Err NoMemory) first = Unit {0}
