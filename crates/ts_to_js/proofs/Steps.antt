-- Contexts enough for a tree without what the options drop, with its parentheses and its names bound.
use Rattle.std.proofs.Common.{◌≡◌, ◌≤◌, ◌<◌, ◌+◌, ◌^◌, ◌-◌, ◌∙◌, ℕ, ap, sym, arith}
use Rattle.ecma_kind.specs.declared.shapes.Sort.TheVariants as sort
use Rattle.ecma_tree.specs.declared.node.Node.{Node}
use Rattle.ecma_tree.specs.Sorted.{HasSort}
use Rattle.ecma_tree.proofs.ShapeLaws.{contexts_keep_sorts}
use Rattle.ecma_config.specs.declared.config.Config.{Config}
use Rattle.ecma_scope.specs.Needs.{needed}
use Rattle.ecma_scope.specs.Resolved.{contexts, resolved}
use Rattle.ecma_scope.proofs.Unchanged.{keeps-sorts}
use Rattle.ecma_bind.specs.Binding.{with_bound_names}
use Rattle.ecma_bind_scopes.proofs.Placed.{resolve_alike}
use Rattle.ecma_elide.specs.Elision.{elided}
use Rattle.ecma_elide.proofs.Sorting.{elided_modules_are_sorted}
use Rattle.ecma_elide_sources.specs.Laws.{ElidedSourcesTakeAsManyContexts}
use Rattle.ecma_enclose.specs.Enclosing.{enclosed}
use Rattle.ecma_enclose_fits.proofs.Whole.{trees_are_sorted}
use Rattle.ecma_enclose_scopes.proofs.Counted.{take_as_many}
use Rattle.ecma_fits.specs.Fitting.{Fits}
use Rattle.ecma_hygiene_exists.proofs.Leaving.{leave-sixteen}
use Rattle.ts_to_js.specs.Stages.{kept}

-- contexts enough for the scopes of a tree, and for two more
pub enough-two : (left : ℕ) (tree : Node) → needed tree ≤ left → contexts tree + 2 ≤ left
enough-two left tree enough =
    let sixteen : contexts tree + 16 ≤ needed tree = leave-sixteen tree in
    omega arith

pub not-long : (n : ℕ) → n ≤ 4194304 → n < 2 ^ 32
not-long n short = omega arith

-- ---- without what the options drop, with its parentheses and its names bound

kept-sorted : (config : Config) (left : ℕ) (tree : Node) → HasSort sort.Module tree → HasSort sort.Module (kept config left tree)
kept-sorted config left tree sorted =
    let r : Node = resolved left (left - 1) (left - 2) tree in
    (contexts_keep_sorts (λ sym ctxt. 0) (elided config r) sort.Module).1 (elided_modules_are_sorted config r ((keeps-sorts left (left - 1) (left - 2) tree sort.Module).1 sorted))

-- it takes as many contexts
module _ (law : ElidedSourcesTakeAsManyContexts) (config : Config) (left : ℕ) (tree bound : Node) (fits : Fits tree) (is : bound ≡ with_bound_names (enclosed (kept config left tree))) where
  pub same-contexts : contexts bound ≡ contexts tree
  same-contexts =
      let rest : HasSort sort.Module (kept config left tree) = kept-sorted config left tree fits.sorted in
      ap contexts is ∙ (resolve_alike (enclosed (kept config left tree)) (trees_are_sorted (kept config left tree) rest)).count ∙ take_as_many (kept config left tree) rest ∙ law config left (left - 1) (left - 2) tree fits

  pub enough-bound : needed tree ≤ left → contexts bound + 2 ≤ left
  enough-bound enough =
      let same : contexts bound ≡ contexts tree = same-contexts in
      let two : contexts tree + 2 ≤ left = enough-two left tree enough in
      omega arith

  pub left-bound : (now : ℕ) → now + (contexts bound + 2) ≡ left → now + (contexts tree + 2) ≡ left
  left-bound now given = ap (λ n. now + (n + 2)) (sym same-contexts) ∙ given
