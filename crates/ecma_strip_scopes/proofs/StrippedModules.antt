-- A module that is resolved, and stripped of its types then, tells its scopes apart.
use Rattle.ecma_kind.specs.declared.shapes.Sort.TheVariants as sort
use Rattle.ecma_tree.specs.Sorted.{HasSort, one}
use Rattle.ecma_tree.specs.declared.node.Node.{Node}
use Rattle.ecma_scope.specs.declared.role.Role.TheVariants as role
use Rattle.ecma_scope.specs.Resolved.{resolved}
use Rattle.ecma_scope.proofs.Unchanged.{keeps-sorts}
use Rattle.ecma_hygiene_scopes.proofs.ResolvedApart.{resolved-keeps-apart}
use Rattle.ecma_strip_scopes.specs.Apart.{IsWrapped}
use Rattle.ecma_strip_scopes.specs.Laws.{StrippedModulesTellScopesApart}
use Rattle.ecma_strip_scopes.proofs.StayingSeats.{staying-among}
use Rattle.ecma_strip_scopes.proofs.StrippedScopes.{stripped-tells-apart}
use Rattle.ecma_strip_scopes.proofs.Wrapping.{module-wraps}

pub stripped-modules-tell-apart : StrippedModulesTellScopesApart
stripped-modules-tell-apart t unresolved top left less source checked unresolved_above top_above apart enough clear others =
    let tree : Node = resolved unresolved top left source in
    let sorted : HasSort sort.Module tree = (keeps-sorts unresolved top left source sort.Module).1 checked.sorted in
    stripped-tells-apart t unresolved left less (one sort.Module) tree sorted (resolved-keeps-apart unresolved top left source checked unresolved_above top_above apart enough) clear
    (staying-among IsWrapped tree role.Root (module-wraps tree sorted)) others
