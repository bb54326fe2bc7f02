-- Without types no name is declared again where it may not be.
use Rattle.std.specs.Prelude.{◌≡◌, ℕ, Bool, []}
use Rattle.std.specs.List.{All}
use Rattle.ecma_kind.specs.declared.shapes.Sort.TheVariants as sort
use Rattle.ecma_tree.specs.Sorted.{HasSort}
use Rattle.ecma_tree.specs.declared.node.Node.{Node}
use Rattle.ecma_scope.specs.declared.role.Role.TheVariants as role
use Rattle.ecma_scope.specs.Conflicts.{redeclared}
use Rattle.ecma_scope.specs.Resolved.{resolved}
use Rattle.ecma_strip.specs.Stripping.{stripped}
use Rattle.ecma_hygiene_scopes.specs.Lasting.{IsCheckedModule}
use Rattle.ecma_strip_scopes.specs.Apart.{IsClearSeat}
use Rattle.ecma_strip_scopes.specs.Staying.{staying_seats}

-- where it is clear what each scope declares that stays, with `receivers` also where parameters `this` go, no name is declared again without types where none was with
-- them
abbrev pub StrippedIsNotRedeclared : Type 0
StrippedIsNotRedeclared = (receivers : Bool) (tree : Node) → HasSort sort.Module tree → redeclared tree ≡ [] → All (IsClearSeat receivers) (staying_seats tree role.Root) → redeclared (stripped tree) ≡ []

-- so it is in a module that is resolved, and stripped of its types then
abbrev pub StrippedModulesAreNotRedeclared : Type 0
StrippedModulesAreNotRedeclared = (receivers : Bool) (unresolved top left : ℕ) (source : Node) → IsCheckedModule source → All (IsClearSeat receivers) (staying_seats (resolved unresolved top left source) role.Root)
    → redeclared (stripped (resolved unresolved top left source)) ≡ []
