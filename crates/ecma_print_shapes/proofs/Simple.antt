-- Statements that hold no others have their shapes.
use Rattle.std.proofs.Common.{◌≡◌, refl, Bool, true, false, not, List, [], ◌∷◌}
use Rattle.std.proofs.lemmas.Bool.{false≢true}
use Rattle.ecma_kind.specs.declared.span.Span.{Span}
use Rattle.ecma_kind.specs.declared.kind.Kind.TheVariants as kind
use Rattle.ecma_kind.specs.declared.shapes.Shape.{Shape}
use Rattle.ecma_kind.specs.declared.shapes.Sort.TheVariants as sort
use Rattle.ecma_tree.specs.declared.node.Node.{Node}
use Rattle.ecma_tree.specs.Nodes.{node_of}
use Rattle.ecma_tree.specs.Sorted.{is_absent, maybe, one}
use Rattle.ecma_rules.specs.declared.target.Target.TheVariants as target
use Rattle.ecma_rules.specs.Children.{kind_of}
use Rattle.ecma_rules.specs.Targets.{target_in}
use Rattle.ecma_covers.specs.Covering.{cover_at, cover_in}
use Rattle.ecma_fits.specs.declared.role.Role.TheVariants as role
use Rattle.ecma_fits.specs.Roles.{role_in}
use Rattle.ecma_print.specs.declared.place.Begins.TheVariants.{StatementStart}
use Rattle.ecma_print.specs.declared.place.Spot.{Spot}
use Rattle.ecma_print.specs.Places.{free}
use Rattle.ecma_shapes.specs.Shapes as shapes
use Rattle.ecma_shapes.specs.Shapes.{IsIdent, IsStatement, break_label, break_nothing, class_statement, closed, continue_label, continue_nothing, debugger_word, empty, function_statement, return_nothing, return_value, throw}
use Rattle.ecma_print_shapes.proofs.Beginnings.{begins_otherwise}
use Rattle.ecma_print_shapes.proofs.Building.{absent_shape}
use Rattle.ecma_print_shapes.proofs.ByKind.{in_place}
use Rattle.ecma_print_shapes.proofs.Claims.{AllFormed, Formed, Stated, names_value, seen}
use Rattle.ecma_print_shapes.proofs.Sound.{Here, Sound}
use Rattle.ecma_print_shapes.proofs.Spots.{child_value, proper_beginning}
use Rattle.ecma_print_shapes.proofs.Stated.{made_closed, made_declaration, stated, valued, valued_there}

-- a name of a value
pub named : {spot : Spot} {n : Node} → Formed n → Sound role.Free spot (one sort.Ident) n → IsIdent (cover_at n target.Free)
named {spot} {n} f s = f.ident role.Free spot (one sort.Ident) s (seen n s).allowed (names_value refl)

-- what `declare` stands before is a type
pub undeclared : (A : Bool → Type 0) (b : Bool) → not b ≡ true → A false → A b
undeclared A true h x = absurd (false≢true h)
undeclared A false h x = x

module _ (at : Span) where
  return_by : (a : Node) (missing : Bool) → is_absent (kind_of a) ≡ missing → Formed a → Sound role.Free (free 0) (maybe sort.Expr) a → IsStatement closed (node_of at kind.ReturnStmt (cover_at a target.Free ∷ []))
  return_by a true e f s = return_nothing at (absent_shape target.Free a s e)
  return_by a false e f s = return_value at (valued_there f s e).shape

  break_by : (a : Node) (missing : Bool) → is_absent (kind_of a) ≡ missing → Formed a → Sound role.Free (free 0) (maybe sort.Ident) a → IsStatement closed (node_of at kind.BreakStmt (cover_at a target.Free ∷ []))
  break_by a true e f s = break_nothing at (absent_shape target.Free a s e)
  break_by a false e f s = break_label at (named f (in_place sort.Ident a refl e s))

  continue_by : (a : Node) (missing : Bool) → is_absent (kind_of a) ≡ missing → Formed a → Sound role.Free (free 0) (maybe sort.Ident) a → IsStatement closed (node_of at kind.ContinueStmt (cover_at a target.Free ∷ []))
  continue_by a true e f s = continue_nothing at (absent_shape target.Free a s e)
  continue_by a false e f s = continue_label at (named f (in_place sort.Ident a refl e s))

module _ {shape : Shape} (at : Span) where
  pub expression_statement : (cs : List Node) → AllFormed cs → Here role.Free (free 0) shape at kind.ExprStmt cs → Stated (node_of at kind.ExprStmt cs)
  unfolding cover_in target_in role_in
  expression_statement [] f h = absurd h.below
  expression_statement (a ∷ []) f h =
      let e = child_value f.0 h.below.0 refl (proper_beginning 0 StatementStart false) in
      stated at kind.ExprStmt (a ∷ []) refl (made_closed false (shapes.IsStatement.expression at e.shape (begins_otherwise a h.below.0 refl refl)))
  expression_statement (a ∷ b ∷ cs) f h = absurd h.below.1

  pub empty_statement : (cs : List Node) → Here role.Free (free 0) shape at kind.EmptyStmt cs → Stated (node_of at kind.EmptyStmt cs)
  unfolding role_in
  empty_statement [] h = stated at kind.EmptyStmt [] refl (made_closed false (empty at))
  empty_statement (a ∷ cs) h = absurd h.below

  pub debugger_statement : (cs : List Node) → Here role.Free (free 0) shape at kind.DebuggerStmt cs → Stated (node_of at kind.DebuggerStmt cs)
  unfolding role_in
  debugger_statement [] h = stated at kind.DebuggerStmt [] refl (made_closed false (debugger_word at))
  debugger_statement (a ∷ cs) h = absurd h.below

  pub throw_statement : (cs : List Node) → AllFormed cs → Here role.Free (free 0) shape at kind.ThrowStmt cs → Stated (node_of at kind.ThrowStmt cs)
  unfolding cover_in target_in role_in
  throw_statement [] f h = absurd h.below
  throw_statement (a ∷ []) f h = stated at kind.ThrowStmt (a ∷ []) refl (made_closed false (throw at (valued f.0 h.below.0).shape))
  throw_statement (a ∷ b ∷ cs) f h = absurd h.below.1

  pub return_statement : (cs : List Node) → AllFormed cs → Here role.Free (free 0) shape at kind.ReturnStmt cs → Stated (node_of at kind.ReturnStmt cs)
  unfolding cover_in target_in role_in
  return_statement [] f h = absurd h.below
  return_statement (a ∷ []) f h = stated at kind.ReturnStmt (a ∷ []) refl (made_closed false (return_by at a (is_absent (kind_of a)) refl f.0 h.below.0))
  return_statement (a ∷ b ∷ cs) f h = absurd h.below.1

  pub break_statement : (cs : List Node) → AllFormed cs → Here role.Free (free 0) shape at kind.BreakStmt cs → Stated (node_of at kind.BreakStmt cs)
  unfolding cover_in target_in role_in
  break_statement [] f h = absurd h.below
  break_statement (a ∷ []) f h = stated at kind.BreakStmt (a ∷ []) refl (made_closed false (break_by at a (is_absent (kind_of a)) refl f.0 h.below.0))
  break_statement (a ∷ b ∷ cs) f h = absurd h.below.1

  pub continue_statement : (cs : List Node) → AllFormed cs → Here role.Free (free 0) shape at kind.ContinueStmt cs → Stated (node_of at kind.ContinueStmt cs)
  unfolding cover_in target_in role_in
  continue_statement [] f h = absurd h.below
  continue_statement (a ∷ []) f h = stated at kind.ContinueStmt (a ∷ []) refl (made_closed false (continue_by at a (is_absent (kind_of a)) refl f.0 h.below.0))
  continue_statement (a ∷ b ∷ cs) f h = absurd h.below.1

  -- functions and classes

  function_parts : (cs : List Node) → AllFormed cs → Here role.Free (free 0) shape at (kind.FnDecl false) cs → Stated (node_of at (kind.FnDecl false) cs)
  unfolding cover_in target_in role_in
  function_parts [] f h = absurd h.below
  function_parts (a ∷ []) f h = absurd h.below.1
  function_parts (a ∷ b ∷ []) f h =
      stated at (kind.FnDecl false) (a ∷ b ∷ []) refl (made_declaration false (function_statement at (named f.0 h.below.0) (f.1.0.function h.below.1.0)) refl)
  function_parts (a ∷ b ∷ c ∷ cs) f h = absurd h.below.1.1

  pub function_declared : (declare : Bool) (cs : List Node) → AllFormed cs → Here role.Free (free 0) shape at (kind.FnDecl declare) cs → Stated (node_of at (kind.FnDecl declare) cs)
  function_declared declare cs f h =
      undeclared (λ d. Here role.Free (free 0) shape at (kind.FnDecl d) cs → Stated (node_of at (kind.FnDecl d) cs)) declare h.bare.1 (function_parts cs f) h

  class_parts : (cs : List Node) → AllFormed cs → Here role.Free (free 0) shape at (kind.ClassDecl false) cs → Stated (node_of at (kind.ClassDecl false) cs)
  unfolding cover_in target_in role_in
  class_parts [] f h = absurd h.below
  class_parts (a ∷ []) f h = absurd h.below.1
  class_parts (a ∷ b ∷ []) f h =
      stated at (kind.ClassDecl false) (a ∷ b ∷ []) refl (made_declaration false (class_statement at (named f.0 h.below.0) (f.1.0.class h.below.1.0)) refl)
  class_parts (a ∷ b ∷ c ∷ cs) f h = absurd h.below.1.1

  pub class_declared : (declare : Bool) (cs : List Node) → AllFormed cs → Here role.Free (free 0) shape at (kind.ClassDecl declare) cs → Stated (node_of at (kind.ClassDecl declare) cs)
  class_declared declare cs f h =
      undeclared (λ d. Here role.Free (free 0) shape at (kind.ClassDecl d) cs → Stated (node_of at (kind.ClassDecl d) cs)) declare h.bare.1 (class_parts cs f) h
