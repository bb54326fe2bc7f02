-- A module as it is read is ready once its names are bound, it is resolved and its assignments are lowered.
use Rattle.std.proofs.Common.{◌≡◌, ◌∙◌, ◌↔◌, ℕ, false, [], None, sym, ap, subst}
use Rattle.std.specs.List.{All}
use Rattle.ecma_config.specs.declared.config.TsImportExportAssignConfig.{TsImportExportAssignConfig}
use Rattle.ecma_kind.specs.declared.shapes.Sort.TheVariants as sort
use Rattle.ecma_tree.specs.Sorted.{HasSort}
use Rattle.ecma_tree.specs.declared.node.Node.{Node}
use Rattle.ecma_fits.specs.Fitting.{Fits}
use Rattle.ecma_forms.specs.Forms.{first_unlowered, first_untaken}
use Rattle.ecma_lower.specs.Checking.{first_refusal}
use Rattle.ecma_lower.specs.Lowered.{with_assignments_lowered}
use Rattle.ecma_lower_scopes.specs.Laws.{LoweredTreesAreNotRedeclared, LoweredTreesHaveOwnContexts, LoweredTreesSayTheirScopes, SaysScopes}
use Rattle.ecma_lower_sources.specs.Laws.{ContextsDoNotMatterToLowering, LoweredSourcesAreRead, LoweredSourcesNeedNoLowering, LoweringKeepsNamesShort, LoweringKeepsPlainTargets}
use Rattle.ecma_scope.specs.Conflicts.{Surrounding, nothing, redeclared}
use Rattle.ecma_scope.specs.Laws.{without_contexts}
use Rattle.ecma_scope.specs.Resolved.{AreGiven, nowhere, resolved}
use Rattle.ecma_scope.specs.declared.role.Role.TheVariants as role
use Rattle.ecma_scope.proofs.Unchanged.{changes-contexts}
use Rattle.ecma_scope_fits.specs.Laws.{ResolvedTreesFitAlike}
use Rattle.ecma_bind.specs.Binding.{with_bound_names}
use Rattle.ecma_bind_fits.specs.Laws.{BoundNamesArePlain}
use Rattle.ecma_bind_scopes.specs.Laws.{BoundNamesDeclareAlike, BoundNamesResolveAlike}
use Rattle.ecma_bind_sources.specs.Laws.{BoundTreesAreRead, BoundTreesAreTaken}
use Rattle.ecma_lower_refusals.specs.Laws.{BoundTreesAreRefusedAlike, ContextsDoNotMatterToRefusals}
use Rattle.ecma_strip_fits.specs.Targets.{HasPlainTargets}
use Rattle.ecma_strip_conflicts.proofs.Contexts.{told}
use Rattle.ecma_hygiene_fits.specs.Spelled.{NoneLong}
use Rattle.ecma_hygiene_scopes.specs.Lasting.{KeepsScopesApart}
use Rattle.ecma_hygiene_scopes.specs.Laws.{ResolvedKeepsScopesApart}
use Rattle.ecma_plain.specs.Read.{IsRead}
use Rattle.ecma_text_sources.proofs.Sources.{tree_stays}
use Rattle.ecma_ready.specs.Ready.{HasOwnContexts, IsReady}
use Rattle.ecma_pipeline.specs.Ways.{LowersToReady}
use Rattle.ecma_pipeline_names.specs.Laws.{BindingKeepsNamesShort, ContextsKeepNamesShort}
use Rattle.ecma_pipeline_plain.specs.Laws.{ResolvedTreesAreTaken, TreesWithoutContextsSayWhatIsReady}
use Rattle.ecma_pipeline_runs.proofs.Recounted.{has-own-contexts, says-its-scopes}
use Rattle.ecma_pipeline.specs.Laws.{BoundSourcesAreReady}
use Rattle.ecma_pipeline.proofs.Runs.{bound_given}

pub record Laws : Type 0 where
  pub reads : BoundTreesAreRead
  pub taken : BoundTreesAreTaken
  pub unrefused : BoundTreesAreRefusedAlike
  pub declares : BoundNamesDeclareAlike
  pub alike : BoundNamesResolveAlike
  pub plain : BoundNamesArePlain
  pub contexts : ResolvedTreesFitAlike
  pub forms : ResolvedTreesAreTaken
  pub refusals : ContextsDoNotMatterToRefusals
  pub apart : ResolvedKeepsScopesApart
  pub short_bound : BindingKeepsNamesShort
  pub short_contexts : ContextsKeepNamesShort
  pub lowered_read : LoweredSourcesAreRead
  pub lowered_low : LoweredSourcesNeedNoLowering
  pub lowered_short : LoweringKeepsNamesShort
  pub lowered_plain : LoweringKeepsPlainTargets
  pub lowered_contexts : ContextsDoNotMatterToLowering
  pub lowered_scopes : LoweredTreesSayTheirScopes
  pub lowered_own : LoweredTreesHaveOwnContexts
  pub lowered_distinct : LoweredTreesAreNotRedeclared
  pub says : TreesWithoutContextsSayWhatIsReady

abbrev at_root : Surrounding
at_root = record { role = role.Root; around = nothing }

module _ (laws : Laws) (assign : TsImportExportAssignConfig) (unresolved top left : ℕ) (source : Node) (read : IsRead source) (short : NoneLong source)
    (taken : first_untaken assign source ≡ None) (unrefused : first_refusal assign source ≡ None) (clear : redeclared source ≡ []) (given : AreGiven unresolved top left source) where
  abbrev bound : Node
  bound = with_bound_names source

  abbrev r : Node
  r = resolved unresolved top left bound

  bound_read : IsRead bound
  bound_read = laws.reads source read

  bound_bare : without_contexts bound ≡ bound
  bound_bare = tree_stays bound_read.bare

  bound_clear : redeclared bound ≡ []
  bound_clear = laws.declares source read.fits.sorted ∙ clear

  bound_taken : first_untaken assign bound ≡ None
  bound_taken = laws.taken assign source taken

  bound_unrefused : first_refusal assign bound ≡ None
  bound_unrefused = laws.unrefused assign source read.fits.sorted ∙ unrefused

  enough : AreGiven unresolved top left bound
  enough = bound_given unresolved top left source read.fits.sorted given

  -- ---- resolved

  r_bare : without_contexts r ≡ bound
  r_bare = changes-contexts unresolved top left bound ∙ bound_bare

  fits : Fits r
  fits = (laws.contexts unresolved top left bound).1 bound_read.fits

  r_taken : first_untaken assign r ≡ None
  r_taken = laws.forms assign unresolved top left bound bound_taken

  r_unrefused : first_refusal assign r ≡ None
  r_unrefused = sym (laws.refusals assign r) ∙ ap (first_refusal assign) r_bare ∙ bound_unrefused

  targets : HasPlainTargets r
  targets =
      subst HasPlainTargets (sym ((laws.alike source read.fits.sorted).same unresolved top left))
      (laws.plain (resolved unresolved top left source) ((laws.contexts unresolved top left source).1 read.fits))

  keeps : KeepsScopesApart unresolved left r
  keeps =
      laws.apart unresolved top left bound (record { sorted = bound_read.fits.sorted; bare = bound_bare; clear = bound_clear })
      enough.unresolved_above enough.top_above enough.apart enough.enough

  scopes : SaysScopes unresolved r
  scopes = says-its-scopes unresolved left r keeps

  distinct : redeclared r ≡ []
  distinct = told unresolved top bound nowhere left at_root ∙ bound_clear

  short_resolved : NoneLong r
  short_resolved = laws.short_contexts unresolved top left bound (laws.short_bound source short)

  -- ---- and lowered

  abbrev l : Node
  l = with_assignments_lowered assign unresolved r

  abbrev plain : Node
  plain = with_assignments_lowered assign 0 bound

  l_bare : without_contexts l ≡ plain
  l_bare = laws.lowered_contexts assign unresolved r ∙ ap (with_assignments_lowered assign 0) r_bare

  l_read : IsRead (without_contexts l)
  l_read = subst IsRead (sym l_bare) (laws.lowered_read assign bound bound_read bound_taken bound_unrefused)

  l_low : first_unlowered (without_contexts l) ≡ None
  l_low = ap first_unlowered l_bare ∙ laws.lowered_low assign bound bound_read.fits.sorted bound_taken bound_unrefused

  ready : IsReady false unresolved l
  ready =
      let says = laws.says l l_read l_low in
      record {
        fits = says.fits;
        targets = laws.lowered_plain assign unresolved r fits.sorted targets;
        types = says.types;
        forms = says.forms;
        scopes = laws.lowered_scopes assign unresolved r fits r_taken r_unrefused scopes;
        free_inner = keeps.there;
        distinct = laws.lowered_distinct assign unresolved r fits r_taken r_unrefused distinct;
        short = laws.lowered_short assign unresolved r fits.sorted short_resolved;
        texts = says.texts;
      }

  own : HasOwnContexts l
  own = laws.lowered_own assign unresolved r fits r_taken r_unrefused (has-own-contexts unresolved left r keeps)

  lowerable : LowersToReady assign unresolved r
  lowerable = record { fits = fits; taken = r_taken; unrefused = r_unrefused; scopes = scopes; read = l_read; ready = ready; own = own }

pub sources_are_ready : Laws → BoundSourcesAreReady
sources_are_ready laws assign unresolved top left source read short taken unrefused clear given = lowerable laws assign unresolved top left source read short taken unrefused clear given
