-- A module and what is written for it.
use Rattle.std.specs.Prelude.{◌≡◌, ℕ, Bool, false, List, [], None}
use Rattle.ecma_tree.specs.declared.node.Node.{Node}
use Rattle.ecma_fits.specs.Fitting.{Fits}
use Rattle.ecma_plain.specs.Read.{IsRead}
use Rattle.ecma_plain.specs.Texts.{IsPlainModule}
use Rattle.ecma_print.specs.Layout.{layout}
use Rattle.ecma_bind.specs.Binding.{with_bound_names}
use Rattle.ecma_elide_sources.specs.Sources.{elided_source}
use Rattle.ecma_enclose.specs.Enclosing.{enclosed}
use Rattle.ecma_exports.specs.Exports.{first_captured}
use Rattle.ecma_forms.specs.Forms.{first_untaken}
use Rattle.ecma_lower.specs.Checking.{first_refusal}
use Rattle.ecma_lower.specs.Lowered.{with_assignments_lowered}
use Rattle.ecma_lower.specs.Marking.{has_module_declaration, marked}
use Rattle.ecma_lower_scopes.specs.Laws.{SaysScopes}
use Rattle.ecma_ready.specs.Ready.{HasOwnContexts, IsReady}
use Rattle.ecma_scope.specs.Conflicts.{redeclared}
use Rattle.ecma_scope.specs.Laws.{without_contexts}
use Rattle.ecma_scope.specs.Resolved.{resolved, AreGiven}
use Rattle.ecma_strip.specs.Stripping.{stripped}
use Rattle.ecma_hygiene.specs.Hygienic.{IsHygienic}
use Rattle.ecma_hygiene.specs.Renamed.{text_of}
use Rattle.ecma_hygiene.specs.Texts.{text_in}
use Rattle.ecma_interface.specs.Names.{Id}
use Rattle.ecma_interface.specs.Reading.{interface_of, own_text}
use Rattle.ecma_sources.specs.Sources.{IsReading}
use Rattle.ecma_config.specs.declared.config.Config.{Config}
use Rattle.ecma_config.specs.declared.config.TsImportExportAssignConfig.{TsImportExportAssignConfig}
use Rattle.ecma_runs.specs.declared.script.Script.{Script}
use Rattle.ecma_runs.specs.Observation.{observe}

-- with what has to have parentheses in them, with names that have types round them bound, and with its bindings
abbrev pub prepared : ℕ → ℕ → ℕ → Node → Node
prepared unresolved top left tree = resolved unresolved top left (with_bound_names (enclosed tree))

-- and with its assignments lowered
--   import a = require("m"); export = a;   // const a = require("m"); module.exports = a;
abbrev pub lowered : TsImportExportAssignConfig → ℕ → ℕ → ℕ → Node → Node
lowered assign unresolved top left tree = with_assignments_lowered assign unresolved (prepared unresolved top left tree)

-- what is known of a resolved module, and of it with its assignments lowered: that is ready, and has contexts of its own
pub record LowersToReady (assign : TsImportExportAssignConfig) (unresolved : ℕ) (tree : Node) : Type 0 where
  pub fits : Fits tree
  pub taken : first_untaken assign tree ≡ None
  pub unrefused : first_refusal assign tree ≡ None
  pub scopes : SaysScopes unresolved tree
  pub read : IsRead (without_contexts (with_assignments_lowered assign unresolved tree))
  pub ready : IsReady false unresolved (with_assignments_lowered assign unresolved tree)
  pub own : HasOwnContexts (with_assignments_lowered assign unresolved tree)

-- what is written of it: without its types, and with `export {}` where it was a module by an import or an export, and nothing else says so then
abbrev pub plain_of : TsImportExportAssignConfig → Bool → Bool → ℕ → ℕ → ℕ → Node → Node
plain_of assign no_empty_export was_module unresolved top left tree = marked no_empty_export was_module (stripped (lowered assign unresolved top left tree))

-- a tree as modules are read, each form of which is taken, in which no assignment is refused, no name is declared again where it may not be, and no exported name is captured; and
-- the tree that is written for it, with its final texts
pub record IsWrittenFor (assign : TsImportExportAssignConfig) (no_empty_export was_module : Bool) (unresolved top left : ℕ) (source final : Node) : Type 0 where
  pub taken : first_untaken assign source ≡ None
  pub unrefused : first_refusal assign source ≡ None
  pub distinct : redeclared source ≡ []
  pub given : AreGiven unresolved top left source
  pub uncaptured : first_captured unresolved (lowered assign unresolved top left source) ≡ None
  pub hygienic : IsHygienic (plain_of assign no_empty_export was_module unresolved top left source) final

-- the text of a variable in the tree that is written
abbrev pub final_text : {tree written : Node} → IsHygienic tree written → Id → List ℕ
final_text hygienic = text_of (text_in hygienic.names)

-- the text that is written is a plain module, of the tree that was written, declares no name again where it may not be, imports and
-- exports what the source does, whose variables have these texts, and does what the source does, with whatever contexts it is resolved
pub record DoesWhatItsSourceDoes (unresolved top left : ℕ) (source final : Node) (text : Id → List ℕ) : Type 0 where
  pub written : Node
  pub plain : IsPlainModule false (layout final) written
  pub tree : IsReading final written
  pub distinct : redeclared written ≡ []
  pub interface : interface_of own_text written ≡ interface_of text (resolved unresolved top left source)
  pub runs : (unresolved' top' left' : ℕ) → AreGiven unresolved' top' left' written
      → (turns : ℕ) (options : Config) (script : Script) → observe turns options (resolved unresolved' top' left' written) script ≡ observe turns options (resolved unresolved top left source) script

-- a tree that was read, each form of which is taken, and for which contexts enough are given; and the tree that is written for what the options leave of it
pub record IsConvertedTo (config : Config) (unresolved top left : ℕ) (source final : Node) : Type 0 where
  pub taken : first_untaken config.import_export_assign_config source ≡ None
  pub given : AreGiven unresolved top left source
  pub unrefused : first_refusal config.import_export_assign_config (elided_source config unresolved top left source) ≡ None
  pub distinct : redeclared (elided_source config unresolved top left source) ≡ []
  pub uncaptured : first_captured unresolved (lowered config.import_export_assign_config unresolved top left (elided_source config unresolved top left source)) ≡ None
  pub hygienic : IsHygienic
      (plain_of config.import_export_assign_config config.no_empty_export (has_module_declaration source) unresolved top left (elided_source config unresolved top left source)) final
