-- Contexts do not matter to what goes from lists, nor to which forms are taken or have to be lowered.
use Rattle.std.proofs.Common.{◌≡◌, ◌∙◌, refl, sym, ap, ap₂, ℕ, Bool, false, ◌&&◌, ◌||◌, not, cond, List, Option, Some, None}
use Rattle.ecma_kind.specs.declared.kind.Kind.{Kind}
use Rattle.ecma_kind.specs.declared.kind.Kind.TheVariants as kind
use Rattle.ecma_tree.specs.Sorted.{is_list}
use Rattle.ecma_tree.specs.declared.node.Node.{Node}
use Rattle.ecma_rules.specs.Children.{kind_of}
use Rattle.ecma_rules.specs.Failing.{first_failing}
use Rattle.ecma_scope_fits.proofs.Moved.{Blind, Same, child_same, has_same, holds_same, kind_moved, kind_same, moved, span_moved, to, walk_same}
use Rattle.ecma_scope.specs.Resolved.{resolved}
use Rattle.ecma_scope.proofs.Unchanged.{changes-contexts}
use Rattle.ecma_pipeline_runs.proofs.Contexts.{stays-turned}
use Rattle.ecma_rules.specs.Members.{has_body}
use Rattle.ecma_strip.specs.Staying.{is_this_ident}
use Rattle.ecma_forms.specs.Forms.{asked_here, first_unlowered, first_untaken, gone_inside, is_ambient_variable, is_odd_by, is_unlowered_kind, is_untaken_kind, leaves, names_this}
use Rattle.ecma_pipeline_plain.specs.Laws.{ContextsDoNotMatterToForms, ResolvedTreesAreTaken}
use Rattle.ecma_pipeline_plain.proofs.KindsSaid.{empty}

module _ (context_of : List ℕ → ℕ → ℕ) where
  this_same : Same context_of names_this
  this_same n = ap₂ (λ a b. a || b) (child_same context_of is_this_ident (λ text a b optional. refl) n 0) (child_same context_of is_this_ident (λ text a b optional. refl) n 1)

  odd_by : (k : Kind) (n : Node) → is_odd_by (moved context_of k) (to context_of n) ≡ is_odd_by k n
  odd_by kind.FnExpr n = ap not (holds_same context_of has_body (λ m. has_same context_of m 1) n 1)
  odd_by kind.ForStmt n = child_same context_of is_ambient_variable (λ text a b optional. refl) n 0
  odd_by kind.ForInStmt n = child_same context_of is_ambient_variable (λ text a b optional. refl) n 0
  odd_by (kind.ForOfStmt is_await) n = child_same context_of is_ambient_variable (λ text a b optional. refl) n 0
  odd_by (kind.ImportNamedSpecifier is_type_only) n = this_same n
  odd_by (kind.ExportNamedSpecifier is_type_only) n = this_same n
  odd_by kind.ExportNamespaceSpecifier n = this_same n
  odd_by (kind.Ident text ctxt optional) n = refl
  odd_by _ n = refl

  odd_same : Same context_of (λ n. is_odd_by (kind_of n) n)
  odd_same n = ap (λ k. is_odd_by k (to context_of n)) (kind_moved context_of n) ∙ odd_by (kind_of n) n

  leaves_same : Same context_of leaves
  leaves_same n = ap not (stays-turned context_of n)

  inside_same : (gone : Bool) (n : Node) (i : ℕ) → gone_inside gone (to context_of n) i ≡ gone_inside gone n i
  inside_same gone n i = ap₂ (λ a b. gone || (a && b)) (kind_same context_of Bool is_list (λ text a b optional. refl) n) (holds_same context_of leaves leaves_same n i)

  -- ---- whatever kinds are asked for

  module _ (kinds : Kind → Bool) (blind : Blind Bool kinds) where
    abbrev is_of_form : Node → Bool
    is_of_form n = kinds (kind_of n) || is_odd_by (kind_of n) n

    form_same : Same context_of is_of_form
    form_same n = ap₂ (λ a b. a || b) (kind_same context_of Bool kinds blind n) (odd_same n)

    place_same : (gone : Bool) (n : Node) → asked_here is_of_form gone (to context_of n) ≡ asked_here is_of_form gone n
    place_same gone n = ap₂ (λ b s. cond (not gone && b) (Some s.lo) None) (form_same n) (span_moved context_of n)

    first_same : (n : Node) → first_failing Bool (asked_here is_of_form) gone_inside (to context_of n) false ≡ first_failing Bool (asked_here is_of_form) gone_inside n false
    first_same n = walk_same context_of Bool (asked_here is_of_form) gone_inside place_same inside_same n false

pub contexts_do_not_matter : ContextsDoNotMatterToForms
contexts_do_not_matter context_of tree =
    ((λ assign. first_same context_of (is_untaken_kind assign) (λ text a b optional. refl) tree), first_same context_of is_unlowered_kind (λ text a b optional. refl) tree)

-- ---- resolved trees

-- what does not look at contexts tells of a resolved tree what it tells of the tree
resolved_alike : (first : Node → Option ℕ) → ((n : Node) → first (to empty n) ≡ first n) → (unresolved top left : ℕ) (tree : Node) → first tree ≡ None → first (resolved unresolved top left tree) ≡ None
resolved_alike first same unresolved top left tree h = sym (same (resolved unresolved top left tree)) ∙ ap first (changes-contexts unresolved top left tree) ∙ same tree ∙ h

pub resolved_taken : ResolvedTreesAreTaken
resolved_taken assign = resolved_alike (first_untaken assign) (λ n. (contexts_do_not_matter empty n).0 assign)

pub resolved_low : (unresolved top left : ℕ) (tree : Node) → first_unlowered tree ≡ None → first_unlowered (resolved unresolved top left tree) ≡ None
resolved_low = resolved_alike first_unlowered (λ n. (contexts_do_not_matter empty n).1)
