-- A tree that is ready says without its types which scopes declare its names, and tells them apart, if they have contexts of their own.
use Rattle.std.proofs.Common.{◌≡◌, ℕ, Bool, true, false, not, ◌&&◌, refl, get_or}
use Rattle.ecma_kind.specs.declared.shapes.Sort.TheVariants as sort
use Rattle.ecma_tree.specs.Sorted.{one}
use Rattle.ecma_tree.specs.declared.node.Node.{Node}
use Rattle.ecma_scope.specs.declared.role.Role.TheVariants as role
use Rattle.ecma_strip.specs.Stripping.{stripped}
use Rattle.ecma_strip_scopes.specs.Apart.{IsWrapped}
use Rattle.ecma_strip_scopes.proofs.StayingSeats.{staying-among}
use Rattle.ecma_strip_scopes.proofs.StrippedScopes.{stripped-declares-once, stripped-says-scopes, stripped-tells-apart}
use Rattle.ecma_strip_scopes.proofs.Wrapping.{module-wraps}
use Rattle.std.specs.List.{All}
use Rattle.ecma_hygiene_scopes.specs.Apart.{IsScoped, TellsScopesApart}
use Rattle.ecma_hygiene_scopes.specs.Lasting.{KeepsScope, KeepsScopesApart}
use Rattle.ecma_hygiene_scopes.specs.Once.{DeclaresTextsOnce}
use Rattle.ecma_hygiene_scopes.specs.Stops.{Stop, stops}
use Rattle.ecma_hygiene_scopes.proofs.Stopping.{IsAmong, all-among, any-among, inside}
use Rattle.ecma_hygiene.specs.declared.sight.Sight.{Sight}
use Rattle.ecma_hygiene.specs.Ids.{Id, has_context, same_id}
use Rattle.ecma_hygiene.specs.Sights.{nowhere, own_scope, sight_here, sights, sights_at}
use Rattle.ecma_hygiene.specs.Texts.{is_bound, is_in_source, is_new}
use Rattle.ecma_hygiene.proofs.Bound.{own-bound}
use Rattle.ecma_hygiene.proofs.Telling.{true-false}
use Rattle.ecma_ready.specs.Ready.{DeclaresItsTextsOnce, HasOwnContexts, IsReady, SaysItsScopes}
use Rattle.ecma_pipeline_runs.proofs.Binding.{bound-inside}
use Rattle.ecma_pipeline_runs.proofs.ClearSeats.{modules-are-clear}
use Rattle.ecma_pipeline_runs.proofs.Full.{modules-are-full}
use Rattle.ecma_pipeline_runs.proofs.InSource.{none-in-source}
use Rattle.ecma_pipeline_runs.proofs.Names.{seats-other}

keeps-scope : (free : ℕ) (stop : Stop) → SaysItsScopes free stop.node stop.around → KeepsScope free stop
keeps-scope free stop says = record {
  absent = says.absent;
  names = says.names;
  free_names = says.free_names;
  blocks = says.blocks;
  parameters = says.parameters;
  not_free = says.not_free;
  not_empty = says.not_empty;
}

pub keeps-apart : (assignments : Bool) (free : ℕ) (tree : Node) → IsReady assignments free tree → HasOwnContexts tree → KeepsScopesApart free 0 tree
keeps-apart assignments free tree is own = record {
  scoped = λ k d lt. keeps-scope free (get_or (stops 0 tree) k d) (is.scopes k d lt);
  one = own.one;
  apart = own.apart;
  there = is.free_inner;
}

abbrev pub ReadyTreesTellScopesApart : Type 0
ReadyTreesTellScopesApart = (assignments : Bool) (free : ℕ) (tree : Node) → IsReady assignments free tree → HasOwnContexts tree → (less : ℕ) → TellsScopesApart free less (stripped tree)

pub ready-tells-apart : ReadyTreesTellScopesApart
ready-tells-apart assignments free tree is own less =
    stripped-tells-apart true free 0 less (one sort.Module) tree is.fits.sorted (keeps-apart assignments free tree is own) (modules-are-clear tree is.fits is.types)
    (staying-among IsWrapped tree role.Root (module-wraps tree is.fits.sorted)) (seats-other (stripped tree) role.Root (modules-are-full tree is.fits is.types))

-- its ids say which scopes declare its names

abbrev pub ReadyTreesSayTheirScopes : Type 0
ReadyTreesSayTheirScopes = (assignments : Bool) (free : ℕ) (tree : Node) → IsReady assignments free tree → (less : ℕ) → All (IsScoped free) (stops less (stripped tree))

pub ready-says : ReadyTreesSayTheirScopes
ready-says assignments free tree is less =
    stripped-says-scopes true free 0 less (one sort.Module) tree is.fits.sorted (λ k d lt. keeps-scope free (get_or (stops 0 tree) k d) (is.scopes k d lt)) (modules-are-clear tree is.fits is.types)
    (staying-among IsWrapped tree role.Root (module-wraps tree is.fits.sorted)) (seats-other (stripped tree) role.Root (modules-are-full tree is.fits is.types))

-- and a scope declares without types each text once, where it did, but for what was made: of what is bound without types, as much stands in the source

abbrev pub ReadyTreesDeclareTextsOnce : Type 0
ReadyTreesDeclareTextsOnce =
    (assignments : Bool) (free : ℕ) (tree : Node) → IsReady assignments free tree → DeclaresItsTextsOnce tree → (less : ℕ)
    → All (λ (stop : Stop). DeclaresTextsOnce (is_new (sights (stripped tree))) stop.node stop.around) (stops less (stripped tree))

module _ (assignments : Bool) (free : ℕ) (tree : Node) (is : IsReady assignments free tree) (less : ℕ) where
  abbrev bare : Node
  bare = stripped tree

  none-and : (a b : Bool) → b ≡ true → (a && not b) ≡ false
  none-and true true e = refl
  none-and true false e = absurd (true-false e refl)
  none-and false b e = refl

  -- what is bound without types, and was not made, was not made with them
  unmade : (id : Id) → is_bound (sights bare) id ≡ true → is_new (sights bare) id ≡ false → is_new (sights tree) id ≡ false
  unmade id bound old = by (is_in_source (sights tree) id) refl
    where
      by : (b : Bool) → is_in_source (sights tree) id ≡ b → is_new (sights tree) id ≡ false
      by true e = none-and (is_bound (sights tree) id) (is_in_source (sights tree) id) e
      by false e =
          let inner = (bound-inside free less bare (ready-says assignments free tree is less) id bound).0 in
          let away = none-in-source id 0 tree inner (λ k d lt. (is.scopes k d lt).names) e in
          absurd (true-false ((λ i. bound i && not (away i))) old)

  turned : (stop : Stop) → All (IsAmong (sights bare)) (sights_at stop.node stop.around) → DeclaresTextsOnce (is_new (sights tree)) stop.node stop.around → DeclaresTextsOnce (is_new (sights bare)) stop.node stop.around
  turned stop seen once opened text c d hc hd nc nd = once opened text c d hc hd (unmade (text, c) (bound c hc) nc) (unmade (text, d) (bound d hd) nd)
    where
      bound : (c : ℕ) → has_context c (own_scope stop.around.role stop.around.scopes stop.node text) ≡ true → is_bound (sights bare) (text, c) ≡ true
      bound c h = any-among (sights bare) (λ (y : Sight). same_id y.id (text, c) && y.declares) (sights_at stop.node stop.around) seen (own-bound stop.node stop.around (text, c) opened h)

pub ready-once : ReadyTreesDeclareTextsOnce
ready-once assignments free tree is once less =
    let bare = stripped tree in
    let declares = stripped-declares-once true (is_new (sights tree)) (is_new (sights tree)) 0 less (one sort.Module) tree is.fits.sorted (λ id h. h) once.once (modules-are-clear tree is.fits is.types)
    (staying-among IsWrapped tree role.Root (module-wraps tree is.fits.sorted)) (seats-other bare role.Root (modules-are-full tree is.fits is.types)) in
    let seen = inside Sight sight_here (IsAmong (sights bare)) bare nowhere less (all-among (sights bare)) in
    λ k d lt. turned assignments free tree is less (get_or (stops less bare) k d) (seen k d lt) (declares k d lt)
