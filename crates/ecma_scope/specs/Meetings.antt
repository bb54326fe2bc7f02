-- Where the first of the declarations before one stand that have its text, as the check keeps it.
use Rattle.std.specs.Prelude.{ℕ, Bool, true, ◌&&◌, List, Option, bytes_eq, unwrap_or, min, max, [], ◌∷◌, map, filter, Some, None, if◌then◌else◌}
use Rattle.std.specs.HashMap.{get}
use Rattle.ecma_scope.specs.declared.meetings.Met.{Met}
use Rattle.ecma_scope.specs.declared.meetings.Meetings.{Meetings}
use Rattle.ecma_scope.specs.declared.form.Form.{Form}
use Rattle.ecma_scope.specs.declared.role.Role.{Role}
use Rattle.ecma_scope.specs.Declarations.{is_stated}
use Rattle.ecma_scope.specs.Conflicts.{has_parameters, is_catch, is_lexical, is_parameter, is_var}
use Rattle.std.specs.Option.{option_map}
use Rattle.ecma_scope.specs.declared.form.Located.{Located}

-- of two offsets, where there are any, the less
abbrev pub lesser : Option ℕ → Option ℕ → Option ℕ
lesser None b = b
lesser (Some a) None = Some a
lesser (Some a) (Some b) = Some (min a b)

abbrev pub least : List ℕ → Option ℕ
least [] = None
least (offset ∷ offsets) = lesser (Some offset) (least offsets)

-- an offset under a condition
abbrev pub only : Bool → Option ℕ → Option ℕ
only holds at = if holds then at else None

abbrev pub offset_of : Located → ℕ
offset_of l = l.at

-- where the first declaration stands that passes a test
abbrev pub first_that : (Located → Bool) → List Located → Option ℕ
first_that test ls = least (map offset_of (filter test ls))

-- of this text
abbrev pub first_of : (Form → Bool) → List Located → List ℕ → Option ℕ
first_of test ls text = first_that (λ l. bytes_eq l.declaration.sym text && test l.declaration.form) ls

abbrev pub always : Form → Bool
always f = true

-- where the first declaration of a text stands, of each sort
abbrev pub met_of : Role → List Located → List ℕ → Met
met_of r ls text =
    record {
      any = first_of always ls text;
      lexical = first_of (is_lexical r) ls text;
      parameter = first_of is_parameter ls text;
      caught = first_of is_catch ls text;
      var = first_of is_var ls text;
    }

abbrev pub nothing_met : Met
nothing_met = record { any = None; lexical = None; parameter = None; caught = None; var = None }

abbrev pub met_in : Meetings → List ℕ → Met
met_in meetings text = unwrap_or (get bytes_eq meetings.met text) nothing_met

-- with one declaration more
abbrev pub with_form : Role → Met → Form → ℕ → Met
with_form r met f at =
    record {
      any = lesser met.any (Some at);
      lexical = lesser met.lexical (only (is_lexical r f) (Some at));
      parameter = lesser met.parameter (only (is_parameter f) (Some at));
      caught = lesser met.caught (only (is_catch f) (Some at));
      var = lesser met.var (only (is_var f) (Some at));
    }

abbrev pub meets : Role → (List ℕ → Met) → Located → List ℕ → Met
meets r met l text = if bytes_eq l.declaration.sym text then with_form r (met l.declaration.sym) l.declaration.form l.at else met text

-- where the first of them stands that conflicts with a declaration
abbrev pub hit : Role → Met → Form → Option ℕ
hit r met f =
    lesser (lesser met.lexical (only (is_lexical r f) met.any))
    (lesser (only (is_parameter f) met.parameter) (lesser (only (is_var f) met.caught) (only (is_catch f) met.var)))

-- where a declaration clashes first
abbrev pub clashes_first : Role → (List ℕ → Option Bool) → Met → Located → Option ℕ
clashes_first r around met l =
    lesser (option_map (λ at. max at l.at) (hit r met l.declaration.form))
    (only (has_parameters r && (is_lexical r l.declaration.form && is_stated (around l.declaration.sym))) (Some l.at))
