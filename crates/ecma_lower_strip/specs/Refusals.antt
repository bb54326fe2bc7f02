-- Why a program is not written as ECMAScript.
use Rattle.std.specs.Prelude.{◌≡◌, ◌<◌, ℕ, List, Option, Some, None, Result, Err}
use Rattle.ecma_config.specs.declared.config.Config.{Config}
use Rattle.ecma_tree.specs.declared.node.Node.{Node}
use Rattle.ecma_kind.specs.declared.error.PassError.{PassError}
use Rattle.ecma_kind.specs.declared.error.PassError.TheVariants as pass_error
use Rattle.ecma_scope.specs.declared.error.ScopeError.{ScopeError}
use Rattle.ecma_scope.specs.declared.error.ScopeError.TheVariants as scopes
use Rattle.ecma_scope.specs.Clashes.{first_redeclared}
use Rattle.ecma_elide.specs.Elision.{elided}
use Rattle.ecma_lower.specs.declared.error.LowerError.{LowerError}
use Rattle.ecma_lower.specs.declared.error.LowerError.TheVariants as lowering
use Rattle.ecma_lower.specs.Checking.{first_refusal}
use Rattle.ecma_lower_strip.specs.declared.error.TypeScriptError.{TypeScriptError}
use Rattle.ecma_lower_strip.specs.declared.error.TypeScriptError.TheVariants as error
use Rattle.ecma_lower_strip.specs.Converting.{drawn_in}

abbrev pub refusal_of_pass : PassError → TypeScriptError
refusal_of_pass pass_error.Spent = error.Spent
refusal_of_pass pass_error.NoMemory = error.NoMemory

abbrev pub refusal_of_lowering : LowerError → TypeScriptError
refusal_of_lowering lowering.NoMemory = error.NoMemory
refusal_of_lowering refusal = error.Lower refusal

abbrev pub refusal_of_scopes : ScopeError → TypeScriptError
refusal_of_scopes scopes.NoMemory = error.NoMemory
refusal_of_scopes refusal = error.Scope refusal

-- an assignment that is not lowered, or a name that is declared again, in this order
abbrev pub refused_by : Option LowerError → Option (List ℕ) → Option TypeScriptError
refused_by (Some refusal) name = Some (refusal_of_lowering refusal)
refused_by None (Some name) = Some (error.Scope (scopes.Redeclared name))
refused_by None None = None

-- of a program without what elision drops
abbrev pub refused_of : Config → Node → Option TypeScriptError
refused_of config program = refused_by (first_refusal config.import_export_assign_config program) (first_redeclared program)

-- what is told of such a program where it is refused; want of memory is free
abbrev pub IsRefusedFor : Config → Node → TypeScriptError → Type 0
IsRefusedFor config program error.Spent = ⊥
IsRefusedFor config program error.NoMemory = Unit {0}
IsRefusedFor config program refusal = refused_of config program ≡ Some refusal

-- of any program
abbrev pub refused : Config → Node → Option TypeScriptError
refused config program = refused_of config (elided config program)

-- the first refusal that holds is told; contexts run out only where nothing refuses the program and it needs more than are left
abbrev pub Refuses : Config → ℕ → Node → TypeScriptError → Type 0
Refuses config left program error.Spent = (refused config program ≡ None) × (left < drawn_in config program)
Refuses config left program error.NoMemory = Unit {0}
Refuses config left program refusal = refused config program ≡ Some refusal

-- what holds where the program itself is refused
abbrev pub OnRefusal : Result (Unit {0}) TypeScriptError → Type 0 → Type 0
OnRefusal (Err (error.Lower refusal)) P = P
OnRefusal (Err (error.Scope refusal)) P = P
OnRefusal answer P = Unit {0}
