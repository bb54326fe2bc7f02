-- Where a node stands, as far as enums and reads of their members ask. A child stands where its sort says, but for the children of a few kinds.
use Rattle.std.specs.Prelude.{ℕ, Bool, true, false, ◌&&◌, ◌==◌, not, cond, slice_get}
use Rattle.std.specs.Option.{option_map_or}
use Rattle.ecma_kind.specs.Shapes.{field_shapes}
use Rattle.ecma_kind.specs.Sorts.{is_decl}
use Rattle.ecma_kind.specs.declared.kind.Kind.{Kind}
use Rattle.ecma_kind.specs.declared.kind.Kind.TheVariants as kind
use Rattle.ecma_kind.specs.declared.operators.UnaryOp.{UnaryOp}
use Rattle.ecma_kind.specs.declared.operators.UnaryOp.TheVariants as unary
use Rattle.ecma_kind.specs.declared.shapes.FieldShape.{FieldShape}
use Rattle.ecma_kind.specs.declared.shapes.Sort.{Sort}
use Rattle.ecma_kind.specs.declared.shapes.Sort.TheVariants as sort
use Rattle.ecma_lower_enums.specs.declared.place.Place.{Place}
use Rattle.ecma_lower_enums.specs.declared.place.Place.TheVariants as place

abbrev pub is_raw : Place → Bool
is_raw place.Raw = true
is_raw _ = false

abbrev pub is_item : Place → Bool
is_item (place.Item at_top exported) = true
is_item _ = false

-- whether a node may become several here, or none
abbrev pub is_several : Place → Bool
is_several (place.Item at_top exported) = true
is_several (place.Member skips) = true
is_several _ = false

abbrev pub is_variables : Kind → Bool
is_variables (kind.VarDecl word declare) = true
is_variables _ = false

-- whether a node of this kind is left here as it is: a declaration as the body of a statement, which no module has unless it is a `var`, and where nothing is done
--   if (a) var b = E.A;   // is written
abbrev pub is_left : Place → Kind → Bool
is_left place.Raw k = true
is_left place.Body k = is_decl k && not (is_variables k)
is_left _ k = false

-- ---- by sorts

-- a pattern is assigned to where it stands in one that is
--   [E.A] = a;   // `E.A` is a target
abbrev pub pattern_place : Place → Place
pattern_place place.Target = place.Target
pattern_place _ = place.Other

abbrev pub place_of : Place → Sort → Place
place_of p sort.Expr = place.Read
place_of p sort.Callee = place.Read
place_of p sort.ExprOrSpread = place.Read
place_of p sort.VarDeclOrExpr = place.Read
place_of p sort.BlockStmtOrExpr = place.Read
place_of p sort.AssignTarget = place.Target
place_of p sort.ForHead = place.Target
place_of p sort.PropOrSpread = place.Property
place_of p sort.Pat = pattern_place p
place_of p sort.ObjectPatProp = pattern_place p
place_of p sort.Stmt = place.Body
place_of p _ = place.Other

abbrev pub child_place : Place → Kind → ℕ → Place
child_place p k i = option_map_or (λ (f : FieldShape). place_of p f.shape.sort) (slice_get (field_shapes k) i) place.Other

-- ---- by kinds

-- one place for the child that is meant, and another for the others
abbrev pub at_child : ℕ → ℕ → Place → Place → Place
at_child wanted i p other = cond (i == wanted) p other

-- an item of a list of statements, where enums are written
abbrev pub statements : Bool → Bool → Place
statements writes at_top = cond writes (place.Item at_top false) place.Other

-- a declaration behind `export`
abbrev pub exported_place : Place → Place
exported_place (place.Item at_top exported) = place.Item at_top true
exported_place _ = place.Other

-- in parentheses
--   (E.A) = a;   delete (E.A);   // `E.A` is a target
abbrev pub inside_place : Place → Place
inside_place place.Target = place.Target
inside_place _ = place.Read

--   delete E.A;   // `E.A` is a target
--   typeof E.A;   // `E.A` is read
abbrev pub operand_place : UnaryOp → Place
operand_place unary.Delete = place.Target
operand_place _ = place.Read

-- where the child at an index of a node of this kind stands. An expression stands where a type round it stands; the object of a target and what stands in its
-- brackets are read, and so is the object of a link `E?.A`, which itself is no read of a member
--   E.A.b = c[E.A];   // the left `E.A` and the right one are read
unfoldable pub place_in : Bool → Place → Kind → ℕ → Place
place_in writes p (kind.Module shebang) i = statements writes true
place_in writes p (kind.Script shebang) i = statements writes true
place_in writes p kind.BlockStmt i = statements writes false
place_in writes p kind.TsModuleBlock i = statements writes false
place_in writes p kind.SwitchCase i = at_child 1 i (statements writes false) place.Read
place_in writes p kind.ExportDecl i = at_child 0 i (exported_place p) place.Other
place_in writes p (kind.TsModuleDecl declare global) i = at_child 1 i place.Block place.Other
place_in writes p (kind.TsNamespaceDecl declare global) i = at_child 1 i place.Block place.Other
place_in writes p kind.ParenExpr i = inside_place p
place_in writes p (kind.UpdateExpr op prefix) i = place.Target
place_in writes p (kind.UnaryExpr op) i = operand_place op
place_in writes p kind.SeqExpr i = place.Read
place_in writes p (kind.ArrowExpr is_async is_generator) i = at_child 1 i place.Read place.Other
place_in writes p kind.SetterProp i = at_child 1 i place.Raw place.Other
place_in writes p kind.TsTypeAssertion i = at_child 0 i p place.Other
place_in writes p kind.TsConstAssertion i = at_child 0 i p place.Other
place_in writes p kind.TsNonNullExpr i = at_child 0 i p place.Other
place_in writes p kind.TsAsExpr i = at_child 0 i p place.Other
place_in writes p kind.TsInstantiation i = at_child 0 i p place.Other
place_in writes p kind.TsSatisfiesExpr i = at_child 0 i p place.Other
place_in writes p k i = child_place p k i
