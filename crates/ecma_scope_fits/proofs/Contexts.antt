-- Nothing that fitting asks looks at a context.
use Rattle.std.proofs.Common.{◌≡◌, ◌∙◌, ℕ, Bool, not, ◌&&◌, ◌||◌, codes, cond, List, Some, None, refl, sym, ap₂, subst}
use Rattle.ecma_kind.specs.declared.shapes.Sort.TheVariants as sort
use Rattle.ecma_tree.specs.declared.node.Node.{Node}
use Rattle.ecma_tree.specs.Contexts.{with_contexts}
use Rattle.ecma_tree.proofs.ShapeLaws.{contexts_keep_sorts}
use Rattle.ecma_leaves.specs.Words.{is_spelled}
use Rattle.ecma_rules.specs.Children.{is_named}
use Rattle.ecma_rules.specs.Failing.{least}
use Rattle.ecma_rules.specs.Jumps.{Held, first_stray, held_in, not_held as no_jump_held, stray_here}
use Rattle.ecma_fits.specs.declared.role.Role.{Role}
use Rattle.ecma_fits.specs.declared.role.Role.TheVariants as role
use Rattle.ecma_fits.specs.declared.strays.Arguments.{Arguments}
use Rattle.ecma_fits.specs.declared.unfit.Where.{Where}
use Rattle.ecma_fits.specs.Fitting.{Fits, at_top, breaks_rule, first_unfit_in, is_misplaced, is_misshapen, is_unfit, unfit_here, where_in}
use Rattle.ecma_fits.specs.Roles.{is_assigned, is_bound_name, is_out_of_role, is_tagged, is_wrong_name, may_be, role_in, takes}
use Rattle.ecma_fits.specs.Strays.{arguments_in, is_stray_target}
use Rattle.ecma_scope.specs.Laws.{without_contexts}
use Rattle.ecma_scope.specs.Resolved.{resolved}
use Rattle.ecma_scope.proofs.Unchanged.{changes-contexts}
use Rattle.ecma_fits.proofs.Clauses.{fits_of, none_unfit}
use Rattle.ecma_scope_fits.specs.Laws.{ContextsDoNotMatter, EqualButForContextsFitAlike, ResolvedTreesFitAlike}
use Rattle.ecma_scope_fits.proofs.Moved.{Blind, Same, child_same, kind_same, span_moved, to, walk_same}
use Rattle.ecma_scope_fits.proofs.Tests.{chains_same, dangling_same, members_same as misread_same, short_same, simple_same}
use Rattle.ecma_scope_fits.proofs.Rules.{around_same, constructors_same, held_same, lists_same, members_same, statements_same, stray_place_same}

module _ (context_of : List ℕ → ℕ → ℕ) where
  misshapen_same : Same context_of is_misshapen
  misshapen_same n =
      ap₂ (λ a b. a || b) (short_same context_of n)
      (ap₂ (λ a b. a || b) (dangling_same context_of n) (ap₂ (λ a b. a || b) (chains_same context_of n) (misread_same context_of n)))

  may_be_blind : (r : Role) → Blind Bool (may_be r)
  unfolding may_be
  may_be_blind role.Free text a b optional = refl
  may_be_blind _ text a b optional = refl

  takes_blind : (r : Role) → Blind Bool (takes r)
  unfolding takes
  takes_blind role.Left text a b optional = refl
  takes_blind _ text a b optional = refl

  wrong_blind : (r : Role) → Blind Bool (is_wrong_name r)
  wrong_blind role.Key text a b optional = refl
  wrong_blind _ text a b optional = refl

  role_same : (r : Role) → Same context_of (is_out_of_role r)
  role_same r n =
      ap₂ (λ a b. a || not b) (kind_same context_of Bool (is_wrong_name r) (wrong_blind r) n)
      (ap₂ (λ a b. a || b) (kind_same context_of Bool (may_be r) (may_be_blind r) n)
      (ap₂ (λ a b. a && b) (kind_same context_of Bool (takes r) (takes_blind r) n) (simple_same context_of n)))

  stray_same : (r : Role) (a : Arguments) → Same context_of (is_stray_target r a)
  stray_same r a n =
      ap₂ (λ x y. a.stray && (is_assigned r && (x && y))) (kind_same context_of Bool is_bound_name (λ text x y optional. refl) n)
      (child_same context_of (is_named (codes "arguments")) (λ text x y optional. refl) n 0)

  rules_same : (w : Where) → Same context_of (breaks_rule w)
  rules_same w n =
      ap₂ (λ a b. a || b) (lists_same context_of w.around n) (ap₂ (λ a b. a || b) (members_same context_of w.around n) (statements_same context_of w.around n))

  misplaced_same : (w : Where) → Same context_of (is_misplaced w)
  misplaced_same w n = ap₂ (λ a b. a || b) (role_same w.role n) (ap₂ (λ a b. a || b) (stray_same w.role w.arguments n) (rules_same w n))

  unfit_same : (w : Where) → Same context_of (is_unfit w)
  unfolding is_unfit
  unfit_same w n =
      ap₂ (λ a b. a || b) (misshapen_same n)
      (ap₂ (λ a b. a || not b) (misplaced_same w n) (kind_same context_of Bool (is_spelled (is_tagged w.role)) (λ text a b optional. refl) n))

  place_same : (w : Where) (n : Node) → unfit_here w (to context_of n) ≡ unfit_here w n
  place_same w n = ap₂ least (ap₂ (λ b s. cond b (Some s.lo) None) (unfit_same w n) (span_moved context_of n)) (constructors_same context_of n)

  role_blind : (r : Role) (i : ℕ) → Blind Role (λ k. role_in r k i)
  unfolding role_in
  role_blind r i text a b optional = refl

  arguments_blind : (a : Arguments) (i : ℕ) → Blind Arguments (λ k. arguments_in a k i)
  unfolding arguments_in
  arguments_blind a i text x y optional = refl

  where_same : (w : Where) (n : Node) (i : ℕ) → where_in w (to context_of n) i ≡ where_in w n i
  where_same w n i = λ j. record {
    role = kind_same context_of Role (λ k. role_in w.role k i) (role_blind w.role i) n j;
    around = around_same context_of w.around n i j;
    arguments = kind_same context_of Arguments (λ k. arguments_in w.arguments k i) (arguments_blind w.arguments i) n j;
  }

  unfit_stays : (tree : Node) → first_unfit_in (with_contexts context_of tree) at_top ≡ first_unfit_in tree at_top
  unfit_stays tree = walk_same context_of Where unfit_here where_in place_same where_same tree at_top

  strays_stay : (tree : Node) → first_stray (with_contexts context_of tree) ≡ first_stray tree
  strays_stay tree = walk_same context_of Held stray_here held_in (stray_place_same context_of) (held_same context_of) tree no_jump_held

pub contexts_do_not_matter : ContextsDoNotMatter
contexts_do_not_matter context_of tree =
    let sorts = contexts_keep_sorts context_of tree sort.Module in (
      (λ f. fits_of tree (sorts.0 f.sorted) (sym (unfit_stays context_of tree) ∙ none_unfit (with_contexts context_of tree) f) (sym (strays_stay context_of tree) ∙ f.strays)),
      (λ f. fits_of (with_contexts context_of tree) (sorts.1 f.sorted) (unfit_stays context_of tree ∙ none_unfit tree f) (strays_stay context_of tree ∙ f.strays)),
    )

abbrev empty : List ℕ → ℕ → ℕ
empty text ctxt = 0

one_way : (tree other : Node) → without_contexts tree ≡ without_contexts other → Fits tree → Fits other
one_way tree other same f =
    (contexts_do_not_matter empty other).0 (subst Fits same ((contexts_do_not_matter empty tree).1 f))

pub equal_fit_alike : EqualButForContextsFitAlike
equal_fit_alike tree other same = (one_way tree other same, one_way other tree (sym same))

pub resolved_fit_alike : ResolvedTreesFitAlike
resolved_fit_alike unresolved top left tree = equal_fit_alike (resolved unresolved top left tree) tree (changes-contexts unresolved top left tree)
