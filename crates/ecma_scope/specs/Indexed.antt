-- What the declarations of a scope state of texts, as they are kept.
use Rattle.std.specs.Prelude.{ℕ, Bool, false, ◌||◌, List, Option, Some, bytes_eq, cond, unwrap_or}
use Rattle.std.specs.HashMap.{get}
use Rattle.ecma_scope.specs.declared.index.Index.{Index}
use Rattle.ecma_scope.specs.declared.form.Declaration.{Declaration}

abbrev pub states_of : Index → List ℕ → Option Bool
states_of index sym = get bytes_eq index.stays sym

-- with one declaration more
abbrev pub adds : (List ℕ → Option Bool) → Declaration → List ℕ → Option Bool
adds states d sym = cond (bytes_eq d.sym sym) (Some (d.stays || unwrap_or (states d.sym) false)) (states sym)
