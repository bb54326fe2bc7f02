-- What is looked for in the items of a list.
use Rattle.std.specs.Prelude.{Bool, true, false}
use Rattle.ecma_scope.specs.declared.form.Part.{Part}
use Rattle.ecma_scope.specs.declared.form.Part.TheVariants as part

-- what is looked for in the items of a list
abbrev pub is_list_part : Part → Bool
is_list_part part.Scope = false
is_list_part part.Default = false
is_list_part _ = true
