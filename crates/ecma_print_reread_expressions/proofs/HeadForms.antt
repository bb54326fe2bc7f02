-- Expressions without a bare `in` stand also where `in` is no operator.
use Rattle.std.proofs.Common.{◌≡◌, Bool, true, false, List, sym, refl}
use Rattle.std.proofs.lemmas.Bool.{false≢true}
use Rattle.ecma_kind.specs.declared.operators.BinaryOp.{BinaryOp}
use Rattle.ecma_kind.specs.declared.operators.BinaryOp.TheVariants as op
use Rattle.ecma_kind.specs.declared.kind.Kind.{Kind}
use Rattle.ecma_kind.specs.declared.kind.Kind.TheVariants as kind
use Rattle.ecma_tree.specs.declared.node.Node.{Node}
use Rattle.ecma_shapes.specs.Shapes as shapes
use Rattle.ecma_shapes.specs.Shapes.{Level, IsMemberLevel, IsIndexed}
use Rattle.ecma_shapes.specs.Heads.{may_hold_by}
use Rattle.ecma_print_readings.proofs.Forms.{Laid}
use Rattle.ecma_print_readings.proofs.Bindings.{StandsIn, Stands}
use Rattle.ecma_print_reread_expressions.proofs.Operations.{stands_there}

-- levels of which `in` is no operator
abbrev pub is_tight : Level → Bool
is_tight shapes.relation = false
is_tight shapes.equality = false
is_tight shapes.bit_and = false
is_tight shapes.bit_xor = false
is_tight shapes.bit_or = false
is_tight shapes.logical_and = false
is_tight shapes.logical_or = false
is_tight shapes.coalescing = false
is_tight shapes.short_circuit = false
is_tight shapes.assignment = false
is_tight shapes.sequence = false
is_tight l = true

pub member_tight : {l : Level} → IsMemberLevel l → is_tight l ≡ true
member_tight shapes.member_of_new = refl
member_tight shapes.member_of_object = refl

pub index_tight : {l m : Level} → IsIndexed l m → is_tight m ≡ true
index_tight shapes.index_of_new = refl
index_tight shapes.index_of_numeral = refl
index_tight shapes.index_of_callee = refl

pub no_in_there : (o : BinaryOp) (bs : List Bool) → may_hold_by (kind.BinExpr o) bs ≡ false → stands_there true o ≡ true
no_in_there op.In bs h = absurd (false≢true (sym h))
no_in_there o bs h = refl

module _ (assigned : Bool) where
  pub tightly : {f : Laid} {k : Kind} {ns : List Node} (l : Level) → is_tight l ≡ true → Stands assigned l f k ns → StandsIn assigned true l f k ns
  tightly shapes.relation h S = absurd (false≢true h)
  tightly shapes.equality h S = absurd (false≢true h)
  tightly shapes.bit_and h S = absurd (false≢true h)
  tightly shapes.bit_xor h S = absurd (false≢true h)
  tightly shapes.bit_or h S = absurd (false≢true h)
  tightly shapes.logical_and h S = absurd (false≢true h)
  tightly shapes.logical_or h S = absurd (false≢true h)
  tightly shapes.coalescing h S = absurd (false≢true h)
  tightly shapes.short_circuit h S = absurd (false≢true h)
  tightly shapes.assignment h S = absurd (false≢true h)
  tightly shapes.sequence h S = absurd (false≢true h)
  tightly l h S = record { lead = S.lead; reading = S.reading; tight = S.tight; no_or = S.no_or; no_arrow = S.no_arrow; param = S.param }
