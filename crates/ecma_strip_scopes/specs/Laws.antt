-- What the scopes of a tree declare without its types, and that they are told apart.
use Rattle.std.specs.Prelude.{◌≡◌, Bool, true, false, filter, [], ℕ, ◌≢◌, ◌<◌, ◌≤◌}
use Rattle.std.specs.List.{All}
use Rattle.ecma_kind.specs.declared.shapes.Shape.{Shape}
use Rattle.ecma_tree.specs.Sorted.{HasShape}
use Rattle.ecma_tree.specs.declared.node.Node.{Node}
use Rattle.ecma_scope.specs.declared.form.Sought.{Sought}
use Rattle.ecma_strip.specs.Staying.{is_this_param, stays}
use Rattle.ecma_hygiene_scopes.specs.DeclaredIds.{ids_declared, scope_ids}
use Rattle.ecma_strip.specs.Stripping.{stripped}
use Rattle.ecma_scope.specs.declared.role.Role.{Role}
use Rattle.ecma_scope.specs.declared.role.Role.TheVariants as role
use Rattle.ecma_scope.specs.Resolved.{contexts, resolved}
use Rattle.ecma_scope.specs.Scopes.{is_ambient, opens}
use Rattle.ecma_hygiene.specs.Ids.{Id}
use Rattle.ecma_hygiene_scopes.specs.Apart.{IsScoped, TellsScopesApart}
use Rattle.ecma_hygiene_scopes.specs.Lasting.{IsCheckedModule, KeepsScope, KeepsScopesApart}
use Rattle.ecma_hygiene_scopes.specs.Once.{DeclaresTextsOnce}
use Rattle.ecma_hygiene_scopes.specs.Stops.{Stop, stops}
use Rattle.ecma_hygiene_scopes.specs.Seats.{seats_at}
use Rattle.ecma_strip_scopes.specs.Staying.{staying_seats}
use Rattle.ecma_strip_scopes.specs.Standing.{is_clear, lasts}
use Rattle.ecma_strip_scopes.specs.Apart.{IsClearScope, IsClearSeat, IsWrapped, IsOther}
use Rattle.ecma_strip_scopes.specs.Going.{is_list_part}

-- what goes with the types of a tree declares no value that stays: an item that goes from a list, and is no parameter `this`
abbrev pub WhatGoesDeclaresNothing : Type 0
WhatGoesDeclaresNothing = (shape : Shape) (n : Node) (sought : Sought) → HasShape shape n → stays n ≡ false → is_this_param n ≡ false → is_list_part sought.part ≡ true
    → filter (λ d. d.stays) (ids_declared n sought) ≡ []

-- what stays of a tree declares, without its types, what the tree declares as values that stay, where that is clear
abbrev pub WhatStaysIsDeclared : Type 0
WhatStaysIsDeclared = (receivers : Bool) (shape : Shape) (tree : Node) (sought : Sought) → HasShape shape tree → sought.stays ≡ true → is_clear receivers tree sought ≡ true
    → ids_declared (stripped tree) sought ≡ filter (lasts receivers) (ids_declared tree sought)

-- so a scope declares without types what it declares as values that stay, if it is not ambient
abbrev pub ScopesDeclareWhatStays : Type 0
ScopesDeclareWhatStays = (receivers : Bool) (shape : Shape) (r : Role) (n : Node) → HasShape shape n → opens r n ≡ true → is_ambient r ≡ false → IsClearScope receivers r n
    → scope_ids r (stripped n) ≡ filter (lasts receivers) (scope_ids r n)

-- the ids of a tree, of which all that stays is clear, say without its types which scopes declare its names, where they said so of what stays, however its contexts are counted, and whichever
-- scopes share contexts; where parameters `this` may go, no other `this` is left
abbrev pub StrippedTreesSayTheirScopes : Type 0
StrippedTreesSayTheirScopes = (receivers : Bool) (free left less : ℕ) (shape : Shape) (tree : Node) → HasShape shape tree → All (KeepsScope free) (stops left tree)
    → All (IsClearSeat receivers) (staying_seats tree role.Root) → All IsWrapped (staying_seats tree role.Root)
    → All (IsOther receivers) (seats_at (stripped tree) role.Root) → All (IsScoped free) (stops less (stripped tree))

-- a scope of such a tree declares without its types each text once, where it did, but for what was made: of an id that is left, as much stands in the source as stays
abbrev pub StrippedTreesDeclareTextsOnce : Type 0
StrippedTreesDeclareTextsOnce = (receivers : Bool) (made left : Id → Bool) (count less : ℕ) (shape : Shape) (tree : Node) → HasShape shape tree → ((id : Id) → left id ≡ false → made id ≡ false)
    → All (λ (stop : Stop). DeclaresTextsOnce made stop.node stop.around) (stops count tree) → All (IsClearSeat receivers) (staying_seats tree role.Root) → All IsWrapped (staying_seats tree role.Root)
    → All (IsOther receivers) (seats_at (stripped tree) role.Root) → All (λ (stop : Stop). DeclaresTextsOnce left stop.node stop.around) (stops less (stripped tree))

-- a tree that keeps its scopes apart, and of which all that stays is clear, tells them apart without its types, however its contexts are counted; where parameters
-- `this` may go, no other `this` is left
abbrev pub StrippedTellsScopesApart : Type 0
StrippedTellsScopesApart = (receivers : Bool) (free left less : ℕ) (shape : Shape) (tree : Node) → HasShape shape tree → KeepsScopesApart free left tree
    → All (IsClearSeat receivers) (staying_seats tree role.Root) → All IsWrapped (staying_seats tree role.Root)
    → All (IsOther receivers) (seats_at (stripped tree) role.Root) → TellsScopesApart free less (stripped tree)

-- so does a module that is resolved, and stripped of its types then, where there were contexts enough
abbrev pub StrippedModulesTellScopesApart : Type 0
StrippedModulesTellScopesApart = (receivers : Bool) (unresolved top left less : ℕ) (source : Node) → IsCheckedModule source → left < unresolved → left < top → unresolved ≢ top → contexts source ≤ left
    → All (IsClearSeat receivers) (staying_seats (resolved unresolved top left source) role.Root) → All (IsOther receivers) (seats_at (stripped (resolved unresolved top left source)) role.Root)
    → TellsScopesApart unresolved less (stripped (resolved unresolved top left source))
