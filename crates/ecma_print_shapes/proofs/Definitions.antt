-- Functions and classes that are expressions have their shapes.
use Rattle.std.proofs.Common.{◌≡◌, Bool, true, false, refl, List, [], ◌∷◌}
use Rattle.ecma_kind.specs.declared.span.Span.{Span}
use Rattle.ecma_kind.specs.declared.kind.Kind.TheVariants as kind
use Rattle.ecma_kind.specs.declared.shapes.Shape.{Shape}
use Rattle.ecma_kind.specs.declared.shapes.Sort.TheVariants as sort
use Rattle.ecma_tree.specs.declared.node.Node.{Node}
use Rattle.ecma_tree.specs.Nodes.{node_of}
use Rattle.ecma_tree.specs.Sorted.{is_absent, maybe}
use Rattle.ecma_rules.specs.declared.target.Target.{Target}
use Rattle.ecma_rules.specs.declared.target.Target.TheVariants as target
use Rattle.ecma_rules.specs.Children.{kind_of}
use Rattle.ecma_rules.specs.Targets.{target_in}
use Rattle.ecma_covers.specs.Covering.{cover_at, cover_in}
use Rattle.ecma_fits.specs.declared.role.Role.{Role}
use Rattle.ecma_fits.specs.declared.role.Role.TheVariants as role
use Rattle.ecma_fits.specs.Roles.{role_in}
use Rattle.ecma_print.specs.declared.place.Spot.{Spot}
use Rattle.ecma_print.specs.Places.{free}
use Rattle.ecma_shapes.specs.Shapes.{IsExpression, IsFunctionName, class_expression, function_expression, function_name, new_callee, unnamed}
use Rattle.ecma_print_shapes.proofs.Building.{absent_shape}
use Rattle.ecma_print_shapes.proofs.ByKind.{sort_there}
use Rattle.ecma_print_shapes.proofs.Claims.{AllFormed, names_value, seen}
use Rattle.ecma_print_shapes.proofs.Covered.{covered_children}
use Rattle.ecma_print_shapes.proofs.Names.{ident_formed}
use Rattle.ecma_print_shapes.proofs.Sound.{Here, Sound}

-- a name that may be missing
pub optional_name : (n : Node) → Sound role.Free (free 1) (maybe sort.Ident) n → IsFunctionName (cover_at n target.Free)
optional_name n s = go (is_absent (kind_of n)) refl
  where
    go : (b : Bool) → is_absent (kind_of n) ≡ b → IsFunctionName (cover_at n target.Free)
    go true e = unnamed (absent_shape target.Free n s e)
    go false e = function_name (ident_formed n role.Free (free 1) (maybe sort.Ident) s (sort_there sort.Ident (kind_of n) (seen n s).allowed e) (names_value refl))

module _ {r : Role} {spot : Spot} {shape : Shape} (t : Target) (at : Span) where
  pub function_expression_formed : (cs : List Node) → AllFormed cs → Here r spot shape at kind.FnExpr cs → IsExpression new_callee (node_of at kind.FnExpr (covered_children t kind.FnExpr cs))
  unfolding cover_in target_in role_in
  function_expression_formed [] f h = absurd h.below
  function_expression_formed (a ∷ []) f h = absurd h.below.1
  function_expression_formed (a ∷ b ∷ []) f h = function_expression at (optional_name a h.below.0) (f.1.0.function h.below.1.0)
  function_expression_formed (a ∷ b ∷ c ∷ cs) f h = absurd h.below.1.1

  pub class_expression_formed : (cs : List Node) → AllFormed cs → Here r spot shape at kind.ClassExpr cs → IsExpression new_callee (node_of at kind.ClassExpr (covered_children t kind.ClassExpr cs))
  unfolding cover_in target_in role_in
  class_expression_formed [] f h = absurd h.below
  class_expression_formed (a ∷ []) f h = absurd h.below.1
  class_expression_formed (a ∷ b ∷ []) f h = class_expression at (optional_name a h.below.0) (f.1.0.class h.below.1.0)
  class_expression_formed (a ∷ b ∷ c ∷ cs) f h = absurd h.below.1.1
