-- The tree that is written for a source is plain: resolved, without its types, with its final texts.
use Rattle.std.specs.Prelude.{◌≡◌, ℕ, Bool, true, false, List, None}
use Rattle.ecma_tree.specs.Contexts.{with_contexts}
use Rattle.ecma_tree.specs.declared.node.Node.{Node}
use Rattle.ecma_config.specs.declared.config.TsImportExportAssignConfig.{TsImportExportAssignConfig}
use Rattle.ecma_fits.specs.Fitting.{Fits}
use Rattle.ecma_forms.specs.Forms.{first_unlowered, first_untaken}
use Rattle.ecma_scope.specs.Laws.{without_contexts}
use Rattle.ecma_scope.specs.Resolved.{resolved}
use Rattle.ecma_text_leaves.specs.Everywhere.{Everywhere}
use Rattle.ecma_strip.specs.Stripping.{stripped}
use Rattle.ecma_strip_fits.specs.Targets.{HasPlainTargets}
use Rattle.ecma_hygiene.specs.Hygienic.{IsHygienic}
use Rattle.ecma_plain.specs.Plain.{IsPlain}
use Rattle.ecma_plain.specs.Read.{IsRead, IsReadPlain}
use Rattle.ecma_ready.specs.Leaving.{leaves_plain_forms}
use Rattle.ecma_ready.specs.Ready.{HasTexts, IsReady}
use Rattle.ecma_sources.specs.TypesAlone.{adds_types_alone}

-- where no form of the source has to be lowered first by another pass, and the written tree fits, it is a plain module without import and export assignments
abbrev pub FinalTreesArePlain : Type 0
FinalTreesArePlain =
    (unresolved top left : ℕ) (source final : Node) → IsRead source → first_unlowered source ≡ None → IsHygienic (stripped (resolved unresolved top left source)) final → Fits final → IsReadPlain false final

-- so a tree that is ready, without its types and with its final texts, is plain, whether or not its literals have source texts
abbrev pub ReadyTreesArePlain : Type 0
ReadyTreesArePlain = (assignments : Bool) (free : ℕ) (tree final : Node) → IsReady assignments free tree → IsHygienic (stripped tree) final → IsPlain assignments final

-- contexts do not matter to which forms of a tree are taken, nor to which have to be lowered
abbrev pub ContextsDoNotMatterToForms : Type 0
ContextsDoNotMatterToForms =
    (context_of : List ℕ → ℕ → ℕ) (tree : Node)
    → ((assign : TsImportExportAssignConfig) → first_untaken assign (with_contexts context_of tree) ≡ first_untaken assign tree)
    × (first_unlowered (with_contexts context_of tree) ≡ first_unlowered tree)

-- so each form of a resolved tree is taken where each of the tree is
abbrev pub ResolvedTreesAreTaken : Type 0
ResolvedTreesAreTaken =
    (assign : TsImportExportAssignConfig) (unresolved top left : ℕ) (tree : Node) → first_untaken assign tree ≡ None → first_untaken assign (resolved unresolved top left tree) ≡ None

-- what a tree that is ready has, but for what is asked of its ids: no name is bound with a type round it where none is without contexts
pub record IsReadyButForIds (tree : Node) : Type 0 where
  pub fits : Fits tree
  pub targets : HasPlainTargets (without_contexts tree) → HasPlainTargets tree
  pub types : adds_types_alone tree ≡ true
  pub forms : leaves_plain_forms false tree ≡ true
  pub texts : Everywhere HasTexts tree

-- a tree that without its contexts is as trees are read, and of which no form has to be lowered then, has it, whatever its contexts are
abbrev pub TreesWithoutContextsSayWhatIsReady : Type 0
TreesWithoutContextsSayWhatIsReady = (tree : Node) → IsRead (without_contexts tree) → first_unlowered (without_contexts tree) ≡ None → IsReadyButForIds tree
