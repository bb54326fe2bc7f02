-- Which forms of a module have to be lowered once its enums are written.
use Rattle.std.specs.Prelude.{◌≡◌, ℕ, Bool, true, false, ◌&&◌, ◌||◌, not, List, Option, None}
use Rattle.ecma_kind.specs.declared.kind.Kind.{Kind}
use Rattle.ecma_kind.specs.declared.kind.Kind.TheVariants as kind
use Rattle.ecma_tree.specs.declared.node.Node.{Node}
use Rattle.ecma_enums.specs.declared.record.TsEnumRecordEntry.{TsEnumRecordEntry}
use Rattle.ecma_fits.specs.Fitting.{Fits}
use Rattle.ecma_fits.specs.Roles.{is_bound_name}
use Rattle.ecma_forms.specs.Forms.{asked_here, first_unlowered, gone_inside, is_odd_by, is_unlowered_kind}
use Rattle.ecma_rules.specs.Children.{child_is, has_child, kind_of}
use Rattle.ecma_rules.specs.Failing.{first_failing}
use Rattle.ecma_lower_enums_sources.specs.Laws.{written}

abbrev pub is_enum : Kind → Bool
is_enum (kind.TsEnumDecl declare is_const) = true
is_enum kind.TsEnumMember = true
is_enum _ = false

abbrev pub is_setter : Kind → Bool
is_setter kind.SetterProp = true
is_setter _ = false

-- what the setter of an object has before its parameter is the name `this` with its type, in which no enum stands; what no text has there could have one
abbrev pub is_odd_setter : Node → Bool
is_odd_setter n = is_setter (kind_of n) && (has_child n 1 && not (child_is is_bound_name n 1))

-- a form that has to be lowered, other than an enum; or such a setter
abbrev pub is_unlowered_but_enums : Node → Bool
is_unlowered_but_enums n = (is_unlowered_kind (kind_of n) && not (is_enum (kind_of n))) || (is_odd_by (kind_of n) n || is_odd_setter n)

-- the least place at which a node begins that is of such a form, and does not go with the types
abbrev pub first_unlowered_but_enums : Node → Option ℕ
first_unlowered_but_enums tree = first_failing Bool (asked_here is_unlowered_but_enums) gone_inside tree false

-- where enums are all that has to be lowered, nothing has to be then
--   if (a) enum E { }   // stays, and is no module
abbrev pub WrittenEnumsNeedNoLowering : Type 0
WrittenEnumsNeedNoLowering =
    (may_change keeps_constants : Bool) (members : List TsEnumRecordEntry) (tree : Node) → Fits tree → first_unlowered_but_enums tree ≡ None
    → first_unlowered (written may_change keeps_constants members tree) ≡ None
