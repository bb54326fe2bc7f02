-- The laws of each step, one behind the other: from a tree as modules are read to what is written for it.
use Rattle.std.proofs.Common.{◌∙◌, ◌==◌, ℕ, Bool, true, false, None, not, sym, ap, ◌≡◌, ◌≤◌, subst}
use Rattle.std.specs.List.{list_all}
use Rattle.ecma_kind.specs.declared.shapes.Sort.TheVariants as sort
use Rattle.ecma_tree.specs.declared.node.Node.{Node}
use Rattle.ecma_tree.specs.Sorted.{HasSort}
use Rattle.ecma_tree.specs.Spans.{without_spans}
use Rattle.ecma_bind.specs.Binding.{with_bound_names}
use Rattle.ecma_config.specs.declared.config.TsImportExportAssignConfig.{TsImportExportAssignConfig}
use Rattle.ecma_enclose.specs.Enclosing.{enclosed}
use Rattle.ecma_enclose_runs.specs.Laws.{EnclosedTreesRunAlike}
use Rattle.ecma_enclose_runs.proofs.Untaken.{taken_lacks_enums}
use Rattle.ecma_forms.specs.Forms.{first_untaken}
use Rattle.ecma_enclose_scopes.specs.Laws.{EnclosedTreesDeclareAlike, EnclosedTreesTakeAsManyContexts}
use Rattle.ecma_enclose_sources.specs.Laws.{EnclosedTreesAreRead, EnclosedTreesAreTaken}
use Rattle.ecma_exports_hygiene.specs.Laws.{ExportsThatAreNotCapturedKeepTheirTexts}
use Rattle.ecma_pipeline_names.specs.Laws.{EnclosingKeepsNamesShort}
use Rattle.ecma_scope.specs.Laws.{without_contexts}
use Rattle.ecma_scope.specs.Resolved.{AreGiven, resolved}
use Rattle.ecma_hygiene.specs.Hygienic.{IsHygienic}
use Rattle.ecma_hygiene.specs.Renamed.{renamed}
use Rattle.ecma_hygiene.specs.Texts.{HygienicTexts, text_in}
use Rattle.ecma_hygiene_fits.specs.Placed.{NoneMade, NoneMadeBut}
use Rattle.ecma_hygiene_fits.specs.Spelled.{NoneLong}
use Rattle.ecma_hygiene_runs.specs.Exports.{KeepsExportedTexts}
use Rattle.ecma_interface.specs.Reading.{interface_of, own_text}
use Rattle.ecma_lower.specs.Lowered.{with_assignments_lowered}
use Rattle.ecma_lower.specs.Marking.{marked}
use Rattle.ecma_lower_interface.specs.Laws.{LoweredTreesHaveTheirInterface}
use Rattle.ecma_lower_names.specs.Laws.{ScopesDeclareWhatRunsDeclare}
use Rattle.ecma_lower_refusals.specs.Laws.{EnclosedTreesAreRefusedAlike}
use Rattle.ecma_lower_runs.specs.Laws.{DeclaresNone, LoweredTreesDeclareAlike, LoweredTreesRunAlike}
use Rattle.ecma_lower_sources.specs.Laws.{LoweringMakesFreeNamesAlone}
use Rattle.ecma_marks.specs.Laws.{MarkedBeforeOrAfter, MarkedTreesAreReady, MarkedTreesCaptureAlike, MarkedTreesHaveNoOtherNames, MarkedTreesHaveOwnContexts, MarkedTreesHaveTheirInterface, MarkedTreesRunAlike}
use Rattle.ecma_marks.specs.Marks.{marked_before}
use Rattle.ecma_print.specs.Explicit.{explicit}
use Rattle.ecma_plain.specs.Read.{IsRead}
use Rattle.ecma_sources.specs.Sources.{IsReading}
use Rattle.ecma_runs.specs.State.{Id}
use Rattle.ecma_strip.specs.Stripping.{stripped}
use Rattle.ecma_pipeline_interface.specs.Laws.{BoundSourcesHaveTheirInterface, WrittenTreesHaveTheirInterface}
use Rattle.ecma_pipeline_plain.specs.Laws.{ResolvedTreesAreTaken}
use Rattle.ecma_pipeline_runs.proofs.NoEnums.{alone-bare}
use Rattle.ecma_pipeline_spans.specs.Laws.{BindingMakesNoNames, ContextsMakeNoNames, EnclosingMakesNoNames}
use Rattle.ecma_ready.specs.Ready.{DeclaresItsTextsOnce, HasOwnContexts, IsReady}
use Rattle.ecma_pipeline.specs.Laws.{BoundSourcesAreReady, BoundSourcesRunAlike, ReadyTreesAreWritten, WrittenModulesDoWhatTheirSourcesDo}
use Rattle.ecma_pipeline.specs.Ways.{DoesWhatItsSourceDoes, IsWrittenFor, LowersToReady, final_text}
use Rattle.ecma_pipeline.specs.Written.{DoesWhatItsTreeDoes}
use Rattle.ecma_pipeline.proofs.Once.{texts-once}
use Rattle.ecma_pipeline.proofs.Sourced.{final_trees_stay}

pub record Laws : Type 0 where
  pub enclosed_read : EnclosedTreesAreRead
  pub enclosed_taken : EnclosedTreesAreTaken
  pub enclosed_unrefused : EnclosedTreesAreRefusedAlike
  pub enclosed_short : EnclosingKeepsNamesShort
  pub enclosed_made : EnclosingMakesNoNames
  pub enclosed_contexts : EnclosedTreesTakeAsManyContexts
  pub enclosed_distinct : EnclosedTreesDeclareAlike
  pub enclosed_runs : EnclosedTreesRunAlike
  pub bound_made : BindingMakesNoNames
  pub bound_runs : BoundSourcesRunAlike
  pub bound_interface : BoundSourcesHaveTheirInterface
  pub contexts_made : ContextsMakeNoNames
  pub contexts_taken : ResolvedTreesAreTaken
  pub ready : BoundSourcesAreReady
  pub lowered_made : LoweringMakesFreeNamesAlone
  pub declares : ScopesDeclareWhatRunsDeclare
  pub lowered_declares : LoweredTreesDeclareAlike
  pub lowered_runs : LoweredTreesRunAlike
  pub lowered_interface : LoweredTreesHaveTheirInterface
  pub marked_before_or_after : MarkedBeforeOrAfter
  pub marked_ready : MarkedTreesAreReady
  pub marked_own : MarkedTreesHaveOwnContexts
  pub marked_made : MarkedTreesHaveNoOtherNames
  pub marked_captured : MarkedTreesCaptureAlike
  pub marked_runs : MarkedTreesRunAlike
  pub marked_interface : MarkedTreesHaveTheirInterface
  pub keeps : ExportsThatAreNotCapturedKeepTheirTexts
  pub written : ReadyTreesAreWritten
  pub written_interface : WrittenTreesHaveTheirInterface

-- contexts enough for a module are enough for it with its parentheses
enclosed_given : EnclosedTreesTakeAsManyContexts → (unresolved top left : ℕ) (source : Node) → HasSort sort.Module source → AreGiven unresolved top left source → AreGiven unresolved top left (enclosed source)
enclosed_given law unresolved top left source sorted given = record {
  unresolved_above = given.unresolved_above;
  top_above = given.top_above;
  apart = given.apart;
  enough = subst (λ (n : ℕ). n ≤ left) (sym (law source sorted)) given.enough;
}

-- a tree with final texts is one of the same tree
hygienic_of : (one other final : Node) → one ≡ other → (is : IsHygienic one final) → HygienicTexts other is.names × (final ≡ renamed (text_in is.names) other)
hygienic_of one other final same is = (subst (λ n. HygienicTexts n is.names) same is.texts, subst (λ n. final ≡ renamed (text_in is.names) n) same is.is)

module _ (laws : Laws) (assign : TsImportExportAssignConfig) (no_empty_export was_module : Bool) (unresolved top left : ℕ) (source final : Node) (read : IsRead source) (short : NoneLong source) (made : NoneMade source)
    (is : IsWrittenFor assign no_empty_export was_module unresolved top left source final) where
  sorted : HasSort sort.Module source
  sorted = read.fits.sorted

  abbrev tree : Node
  tree = enclosed source

  tree_read : IsRead tree
  tree_read = laws.enclosed_read source read

  abbrev whole : Node
  whole = resolved unresolved top left (with_bound_names tree)

  tree_taken : first_untaken assign tree ≡ None
  tree_taken = laws.enclosed_taken assign source sorted is.taken

  lowerable : LowersToReady assign unresolved whole
  lowerable =
      laws.ready assign unresolved top left tree tree_read (laws.enclosed_short source sorted short) tree_taken
      (laws.enclosed_unrefused assign source sorted ∙ is.unrefused) (laws.enclosed_distinct source sorted ∙ is.distinct)
      (enclosed_given laws.enclosed_contexts unresolved top left source sorted is.given)

  whole_sorted : HasSort sort.Module whole
  whole_sorted = lowerable.fits.sorted

  -- with its assignments lowered
  abbrev low : Node
  low = with_assignments_lowered assign unresolved whole

  low_sorted : HasSort sort.Module low
  low_sorted = lowerable.ready.fits.sorted

  low_made : NoneMadeBut unresolved low
  low_made =
      laws.lowered_made assign unresolved whole whole_sorted (laws.contexts_made unresolved top left (with_bound_names tree) (laws.bound_made tree (laws.enclosed_made source sorted made)))

  -- so none of its names is declared as a free one
  none_free : DeclaresNone unresolved whole
  none_free =
      subst (λ ids. list_all (λ (id : Id). not (id.ctxt == unresolved)) ids ≡ true) (laws.lowered_declares assign unresolved whole whole_sorted) (laws.declares unresolved low lowerable.ready)

  -- with `export {}`
  abbrev all : Node
  all = marked_before no_empty_export was_module low

  all_ready : IsReady false unresolved all
  all_ready = laws.marked_ready no_empty_export was_module false unresolved low lowerable.ready

  all_own : HasOwnContexts all
  all_own = laws.marked_own no_empty_export was_module low low_sorted lowerable.own

  all_once : DeclaresItsTextsOnce all
  all_once = texts-once all all_own

  before : marked no_empty_export was_module (stripped low) ≡ stripped all
  before = sym (laws.marked_before_or_after no_empty_export was_module low low_sorted)

  texts : HygienicTexts (stripped all) is.hygienic.names × (final ≡ renamed (text_in is.hygienic.names) (stripped all))
  texts = hygienic_of (marked no_empty_export was_module (stripped low)) (stripped all) final before is.hygienic

  abbrev hygienic : IsHygienic (stripped all) final
  hygienic = record { names = is.hygienic.names; texts = texts.0; is = texts.1 }

  keeps : KeepsExportedTexts (final_text is.hygienic) (stripped all)
  keeps =
      laws.keeps false unresolved all is.hygienic.names all_ready all_own (laws.marked_made no_empty_export was_module unresolved low low_sorted low_made)
      (laws.marked_captured no_empty_export was_module unresolved low low_sorted ∙ is.uncaptured) texts.0

  result : DoesWhatItsTreeDoes false all final
  result = laws.written false unresolved all final all_ready all_once hygienic keeps

  reading : IsReading final result.written
  reading =
      result.again
      ∙ ap (λ (n : Node). without_spans (explicit (without_contexts n)))
      (final_trees_stay no_empty_export was_module low low_sorted lowerable.read.bare final is.hygienic)

  interface : interface_of own_text result.written ≡ interface_of (final_text is.hygienic) (resolved unresolved top left source)
  interface =
      laws.written_interface false unresolved all final result.written all_ready hygienic keeps result.again
      ∙ laws.marked_interface no_empty_export was_module (final_text is.hygienic) low low_sorted
      ∙ laws.lowered_interface assign unresolved (final_text is.hygienic) whole whole_sorted lowerable.taken lowerable.unrefused
      ∙ laws.bound_interface (final_text is.hygienic) unresolved top left source sorted

  written : DoesWhatItsSourceDoes unresolved top left source final (final_text is.hygienic)
  written = record {
    written = result.written;
    plain = result.plain;
    tree = reading;
    distinct = result.distinct;
    interface = interface;
    runs = λ unresolved' top' left' given' turns options script.
        result.runs unresolved' top' left' given' turns options script
        ∙ laws.marked_runs no_empty_export was_module low low_sorted turns options script
        ∙ laws.lowered_runs assign unresolved whole whole_sorted lowerable.taken lowerable.unrefused none_free (taken_lacks_enums assign whole lowerable.taken) (alone-bare low lowerable.ready.types)
        turns options script
        ∙ laws.bound_runs assign tree tree_read.fits.sorted tree_taken unresolved top left turns options script
        ∙ laws.enclosed_runs assign source sorted unresolved top left (laws.contexts_taken assign unresolved top left tree tree_taken)
        (laws.contexts_taken assign unresolved top left source is.taken) turns options script;
  }

pub written_modules : Laws → WrittenModulesDoWhatTheirSourcesDo
written_modules laws assign no_empty_export was_module unresolved top left source final read short made is =
    written laws assign no_empty_export was_module unresolved top left source final read short made is
