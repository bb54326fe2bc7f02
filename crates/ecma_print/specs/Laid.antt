-- What the layout of a node takes of its children: their kinds, what each is laid out as in each place, and what stands in it.
use Rattle.std.specs.Prelude.{Bool, true, false, List}
use Rattle.ecma_kind.specs.declared.kind.Kind.{Kind}
use Rattle.ecma_kind.specs.declared.kind.Kind.TheVariants.{Absent, BlockStmt, ObjectPat, ComputedPropName, ImportNamedSpecifier, ExportNamedSpecifier}
use Rattle.ecma_print.specs.declared.place.Place.{Place}
use Rattle.ecma_print.specs.Pieces.{Piece}

pub record Laid : Type 0 where
  pub kind : Kind
  pub at : Place → Piece
  -- its children, each by itself
  pub parts : List Piece

abbrev pub is_absent : Kind → Bool
is_absent Absent = true
is_absent kind = false

abbrev pub is_block : Kind → Bool
is_block BlockStmt = true
is_block kind = false

abbrev pub is_object_pattern : Kind → Bool
is_object_pattern (ObjectPat optional) = true
is_object_pattern kind = false

-- a key in brackets
abbrev pub is_computed : Kind → Bool
is_computed ComputedPropName = true
is_computed kind = false

-- a specifier that stands in braces
abbrev pub is_named : Kind → Bool
is_named (ImportNamedSpecifier is_type_only) = true
is_named (ExportNamedSpecifier is_type_only) = true
is_named kind = false
