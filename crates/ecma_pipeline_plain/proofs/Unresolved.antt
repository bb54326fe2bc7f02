-- A tree as it is read, of which nothing has to be lowered, has what a tree that is ready has, but for what is asked of its ids, whatever its contexts are.
use Rattle.std.proofs.Common.{◌≡◌, ◌∙◌, refl, sym, ap, ap₂, ℕ, Bool, true, false, ◌&&◌, ◌||◌, cond, List, Option, Some, None}
use Rattle.ecma_kind.specs.Sorts.{is_type_wrapper}
use Rattle.ecma_kind.specs.declared.kind.Kind.{Kind}
use Rattle.ecma_tree.specs.declared.node.Node.{Node}
use Rattle.ecma_rules.specs.Children.{kind_of}
use Rattle.ecma_rules.specs.Failing.{failing_here}
use Rattle.ecma_rules.specs.Targets.{first_is}
use Rattle.ecma_fits.specs.declared.role.Role.{Role}
use Rattle.ecma_fits.specs.declared.strays.Arguments.{Arguments}
use Rattle.ecma_fits.specs.declared.unfit.Where.{Where}
use Rattle.ecma_fits.specs.Fitting.{Fits, at_top, where_in}
use Rattle.ecma_fits.specs.Roles.{is_name, role_in}
use Rattle.ecma_fits.specs.Strays.{arguments_in}
use Rattle.ecma_bind.specs.Binding.{binds, is_name_under_types, is_typed_name, names_step}
use Rattle.ecma_strip_fits.specs.Targets.{HasPlainTargets, is_typed_target}
use Rattle.ecma_scope.specs.Laws.{without_contexts}
use Rattle.ecma_scope_fits.proofs.Contexts.{contexts_do_not_matter as contexts_fit}
use Rattle.ecma_scope_fits.proofs.Moved.{Blind, Same, blind, fold_same, kind_same, span_moved, to, walk_same}
use Rattle.ecma_scope_fits.proofs.Rules.{around_same}
use Rattle.ecma_forms.specs.Forms.{first_unlowered}
use Rattle.ecma_plain.specs.Read.{IsRead}
use Rattle.ecma_text_sources.proofs.TypesAlone.{types_alone}
use Rattle.ecma_pipeline_runs.proofs.Contexts.{contexts-do-not-matter as contexts_add_types}
use Rattle.ecma_pipeline_plain.specs.Laws.{IsReadyButForIds, TreesWithoutContextsSayWhatIsReady}
use Rattle.ecma_pipeline_plain.proofs.KindsSaid.{empty}
use Rattle.ecma_pipeline_plain.proofs.Leaving.{low_leaves}
use Rattle.ecma_pipeline_plain.proofs.Untaken.{contexts_do_not_matter}
use Rattle.ecma_pipeline_plain.proofs.WrittenTexts.{texts_said}

-- ---- names that are bound with types round them

names_blind : (cs : List Bool) → Blind Bool (λ k. is_name k || (is_type_wrapper k && first_is cs))
names_blind cs text a b optional = refl

names_same : Same empty is_name_under_types
names_same = fold_same empty names_step (λ span k cs. blind empty Bool (λ k. is_name k || (is_type_wrapper k && first_is cs)) (names_blind cs) k)

typed_same : (r : Role) → Same empty (is_typed_name r)
typed_same r n = ap₂ (λ a b. binds r && (a && b)) (kind_same empty Bool is_type_wrapper (λ text a b optional. refl) n) (names_same n)

role_blind : (r : Role) (i : ℕ) → Blind Role (λ k. role_in r k i)
unfolding role_in
role_blind r i text a b optional = refl

arguments_blind : (a : Arguments) (i : ℕ) → Blind Arguments (λ k. arguments_in a k i)
unfolding arguments_in
arguments_blind a i text x y optional = refl

where_same : (w : Where) (n : Node) (i : ℕ) → where_in w (to empty n) i ≡ where_in w n i
where_same w n i = λ j. record {
  role = kind_same empty Role (λ k. role_in w.role k i) (role_blind w.role i) n j;
  around = around_same empty w.around n i j;
  arguments = kind_same empty Arguments (λ k. arguments_in w.arguments k i) (arguments_blind w.arguments i) n j;
}

abbrev typed_here : Where → Node → Option ℕ
typed_here w node = failing_here (is_typed_target w node) node

typed_place : (w : Where) (n : Node) → typed_here w (to empty n) ≡ typed_here w n
typed_place w n = ap₂ (λ b s. cond b (Some s.lo) None) (typed_same w.role n) (span_moved empty n)

targets_said : (tree : Node) → HasPlainTargets (without_contexts tree) → HasPlainTargets tree
targets_said tree h = sym (walk_same empty Where typed_here where_in typed_place where_same tree at_top) ∙ h

-- ---- a tree

pub trees_say : TreesWithoutContextsSayWhatIsReady
trees_say tree read low = record {
  fits = (contexts_fit empty tree).0 read.fits;
  targets = targets_said tree;
  types = sym (contexts_add_types empty tree) ∙ types_alone (without_contexts tree) read.fits low;
  forms = low_leaves false tree (sym (contexts_do_not_matter empty tree).1 ∙ low);
  texts = texts_said tree read;
}
