-- What scopes declare in a module with its assignments lowered: an import is a constant then, and `export =` stands behind all items.
use Rattle.std.specs.Prelude.{◌≡◌, ℕ, None, []}
use Rattle.std.specs.List.{All}
use Rattle.ecma_tree.specs.declared.node.Node.{Node}
use Rattle.ecma_config.specs.declared.config.TsImportExportAssignConfig.{TsImportExportAssignConfig}
use Rattle.ecma_fits.specs.Fitting.{Fits}
use Rattle.ecma_forms.specs.Forms.{first_untaken}
use Rattle.ecma_hygiene_scopes.specs.Stops.{Stop, stops}
use Rattle.ecma_lower.specs.Checking.{first_refusal}
use Rattle.ecma_lower.specs.Lowered.{with_assignments_lowered}
use Rattle.ecma_ready.specs.Ready.{HasOwnContexts, SaysItsScopes}
use Rattle.ecma_scope.specs.Conflicts.{redeclared}

-- the ids of a tree say which scope declares each name, where free names have this context
abbrev pub SaysScopes : ℕ → Node → Type 0
SaysScopes free tree = All (λ (stop : Stop). SaysItsScopes free stop.node stop.around) (stops 0 tree)

-- those of a tree with its assignments lowered say so too: what is made is free, and no other scope declares a name
abbrev pub LoweredTreesSayTheirScopes : Type 0
LoweredTreesSayTheirScopes =
    (assign : TsImportExportAssignConfig) (free : ℕ) (tree : Node) → Fits tree → first_untaken assign tree ≡ None → first_refusal assign tree ≡ None
    → SaysScopes free tree → SaysScopes free (with_assignments_lowered assign free tree)

-- its scopes have the contexts that they had
abbrev pub LoweredTreesHaveOwnContexts : Type 0
LoweredTreesHaveOwnContexts =
    (assign : TsImportExportAssignConfig) (free : ℕ) (tree : Node) → Fits tree → first_untaken assign tree ≡ None → first_refusal assign tree ≡ None
    → HasOwnContexts tree → HasOwnContexts (with_assignments_lowered assign free tree)

-- and no name is declared again where it may not be
abbrev pub LoweredTreesAreNotRedeclared : Type 0
LoweredTreesAreNotRedeclared =
    (assign : TsImportExportAssignConfig) (free : ℕ) (tree : Node) → Fits tree → first_untaken assign tree ≡ None → first_refusal assign tree ≡ None
    → redeclared tree ≡ [] → redeclared (with_assignments_lowered assign free tree) ≡ []
