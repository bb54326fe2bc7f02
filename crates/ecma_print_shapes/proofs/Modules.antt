-- Modules have their shapes.
use Rattle.std.proofs.Common.{◌≡◌, ◌∙◌, refl, sym, ap, subst, ℕ, Bool, true, false, not, ◌&&◌, ◌||◌, List, [], ◌∷◌, Option, Some, None, slice_get}
use Rattle.std.specs.List.{list_all, list_any}
use Rattle.std.specs.Str.{chars}
use Rattle.std.proofs.lemmas.Bool.{false≢true}
use Rattle.ecma_lex.specs.Blanks.{is_line_terminator}
use Rattle.ecma_kind.specs.declared.span.Span.{Span}
use Rattle.ecma_kind.specs.declared.kind.Kind.{Kind}
use Rattle.ecma_kind.specs.declared.kind.Kind.TheVariants as kind
use Rattle.ecma_kind.specs.declared.shapes.Sort.TheVariants as sort
use Rattle.ecma_tree.specs.declared.node.Node.{Node, out-Node}
use Rattle.ecma_tree.specs.Nodes.{node_of}
use Rattle.ecma_tree.specs.Sorted.{allows, one}
use Rattle.ecma_rules.specs.declared.target.Target.TheVariants as target
use Rattle.ecma_rules.specs.Children.{children_of, kind_of}
use Rattle.ecma_rules.specs.Targets.{target_in}
use Rattle.ecma_covers.specs.Covering.{cover_at, cover_in}
use Rattle.ecma_fits.specs.declared.role.Role.TheVariants as role
use Rattle.ecma_fits.specs.Fitting.{at_top}
use Rattle.ecma_fits.specs.Roles.{role_in}
use Rattle.ecma_print.specs.Places.{free}
use Rattle.ecma_shapes.specs.Modules.{AreModuleItems, IsModule, module_behind_hashbang, module_of}
use Rattle.ecma_plain.specs.Items.{HasUtf8Hashbang, is_plain_item}
use Rattle.ecma_print_shapes.specs.Laws.{ModulesHaveTheirShapes}
use Rattle.ecma_print_shapes.proofs.Blocks.{items_covered, items_in}
use Rattle.ecma_print_shapes.proofs.ByKind.{made_as, seen_as}
use Rattle.ecma_print_shapes.proofs.Claims.{Formed, seen}
use Rattle.ecma_print_shapes.proofs.Covered.{covered}
use Rattle.ecma_print_shapes.proofs.Lists.{cover_of_list}
use Rattle.ecma_print_shapes.proofs.ModuleItems.{BeginsNoDeclaration, items_of}
use Rattle.ecma_print_shapes.proofs.Sound.{Here, Sound}
use Rattle.ecma_fits.proofs.Clauses.{none_unfit}
use Rattle.ecma_fits.proofs.Walks.{neither_least}

-- what stands behind `#!`

none_of : (p : ℕ → Bool) (cs : List ℕ) → not (list_any p cs) ≡ true → list_all (λ c. not (p c)) cs ≡ true
none_of p [] h = refl
none_of p (c ∷ cs) h = go (p c) h (none_of p cs)
  where
    go : (b : Bool) → not (b || list_any p cs) ≡ true → (not (list_any p cs) ≡ true → list_all (λ c. not (p c)) cs ≡ true) → (not b && list_all (λ c. not (p c)) cs) ≡ true
    go true g more = absurd (false≢true g)
    go false g more = more g

module _ (formed : (n : Node) → Formed n) (starts : BeginsNoDeclaration) (assignments : Bool) (at : Span) where
  shaped_by : (shebang : Option (List ℕ)) (at_list : Span) (ns : List Node) → Here role.Free (free 0) (one sort.Module) at (kind.Module shebang) ns → HasUtf8Hashbang (kind.Module shebang) → (body : List Node) → AreModuleItems assignments body → IsModule assignments (node_of at (kind.Module shebang) (node_of at_list kind.List body ∷ []))
  shaped_by None at_list ns h utf8 body are = module_of at at_list are
  shaped_by (Some text) at_list ns h utf8 body are = module_behind_hashbang at at_list (record { utf8 = utf8; on_line = none_of is_line_terminator (chars text) h.spelled }) are

  module_here : (shebang : Option (List ℕ)) (cs : List Node) → Here role.Free (free 0) (one sort.Module) at (kind.Module shebang) cs → HasUtf8Hashbang (kind.Module shebang) → list_all (is_plain_item assignments) (children_of (slice_get cs 0)) ≡ true → IsModule assignments (cover_at (node_of at (kind.Module shebang) cs) target.Free)
  unfolding cover_in target_in role_in
  module_here shebang [] h utf8 may = absurd h.below
  module_here shebang (a ∷ []) h utf8 may =
      let k = kind.Module shebang in
      let listed = (seen a h.below.0).allowed in
      subst (IsModule assignments) (sym (covered at k (a ∷ []) target.Free refl ∙ ap (λ z. node_of at k (z ∷ [])) (cover_of_list a listed)))
      (shaped_by shebang (out-Node a).span (a ∷ []) h utf8 (items_covered (out-Node a).children) (items_of formed starts assignments (out-Node a).children (items_in a h.below.0 listed) may))
  module_here shebang (a ∷ b ∷ cs) h utf8 may = absurd h.below.1

module_formed : (formed : (n : Node) → Formed n) (starts : BeginsNoDeclaration) (assignments : Bool) (n : Node) → Sound role.Free (free 0) (one sort.Module) n → HasUtf8Hashbang (kind_of n) → list_all (is_plain_item assignments) (children_of (slice_get (out-Node n).children 0)) ≡ true → IsModule assignments (cover_at n target.Free)
module_formed formed starts assignments n s utf8 may = go (kind_of n) refl (seen n s).allowed
  where
    go : (k : Kind) → kind_of n ≡ k → allows (one sort.Module) k ≡ true → IsModule assignments (cover_at n target.Free)
    go (kind.Module shebang) e is =
        let k = kind.Module shebang in
        made_as (λ m. IsModule assignments (cover_at m target.Free)) n k e (module_here formed starts assignments (out-Node n).span shebang (out-Node n).children (seen_as n k e s) (subst HasUtf8Hashbang e utf8) may)
    go k e is = absurd (false≢true is)

pub shapes_of_modules : ((n : Node) → Formed n) → BeginsNoDeclaration → ModulesHaveTheirShapes
shapes_of_modules formed starts assignments tree fits complete taken usual may utf8 =
    module_formed formed starts assignments tree (record { shaped = fits.sorted; fitting = (at_top, refl, none_unfit tree fits); complete = complete; bare = taken; usual = usual }) utf8 may
