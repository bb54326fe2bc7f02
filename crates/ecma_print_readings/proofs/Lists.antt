-- Expressions behind commas, in front of what ends an expression.
use Rattle.std.proofs.Common.{ℕ, ◌≡◌, Bool, true, false, List, codes}
use Rattle.ecma_tree.specs.declared.node.Node.{Node}
use Rattle.ecma_print_tokens.specs.Items.{sign, Items}
use Rattle.ecma_shapes.specs.Shapes as shapes
use Rattle.ecma_shapes.specs.Shapes.{AreExpressions}
use Rattle.ecma_shapes.proofs.Tokens.{expression_tokens, more_tokens}
use Rattle.ecma_shapes.proofs.Signs.{blank}
use Rattle.ecma_shapes.proofs.Bare.{expression_kind, expression_parts}
use Rattle.ecma_print_readings.proofs.Fronts.{Front, exactly, Begins, at_token}
use Rattle.ecma_print_readings.proofs.Towers.{Ends, closes_in}
use Rattle.ecma_print_readings.proofs.Bindings.{ends_no_equals, closed, StandsIn}
use Rattle.ecma_print_readings.proofs.Params.{Params, params_more}
use Rattle.ecma_print_readings.proofs.Expressions.{comma_ends}

-- what stands behind an assignment expression
pub record Followed (us : Items) : Type 0 where
  pub front : Front
  pub begins : Begins front us
  pub ends : Ends front

pub more_followed : {es : List Node} (is : AreExpressions es) (depth : ℕ) (us : Items) → Followed us → Followed (more_tokens is depth us)
more_followed shapes.no_expressions depth us w = w
more_followed (shapes.more_expressions e es) depth us w = record { front = exactly (sign (codes ",")); begins = at_token; ends = comma_ends }

-- where `in` is an operator or none
pub record FollowedIn (no_in : Bool) (us : Items) : Type 0 where
  pub front : Front
  pub begins : Begins front us
  pub ends : closes_in no_in shapes.assignment front ≡ true

pub more_followed_in : (no_in : Bool) {es : List Node} (is : AreExpressions es) (depth : ℕ) (us : Items) → FollowedIn no_in us → FollowedIn no_in (more_tokens is depth us)
more_followed_in no_in shapes.no_expressions depth us w = w
more_followed_in no_in (shapes.more_expressions e es) depth us w = record { front = exactly (sign (codes ",")); begins = at_token; ends = closed no_in shapes.assignment (exactly (sign (codes ","))) comma_ends }

module _ (assigned : Bool) where
  -- what is said of each
  abbrev pub FormsIn : Bool → {es : List Node} → AreExpressions es → ℕ → Type 0
  FormsIn no_in shapes.no_expressions depth = Unit {0}
  FormsIn no_in (shapes.more_expressions e es) depth = StandsIn assigned no_in shapes.assignment (expression_tokens e depth) (expression_kind e) (expression_parts e) × FormsIn no_in es depth

  abbrev pub Forms : {es : List Node} → AreExpressions es → ℕ → Type 0
  Forms is depth = FormsIn false is depth

  -- as parameters of an arrow function
  pub more_params : {es : List Node} (is : AreExpressions es) (depth : ℕ) → Forms is depth → (no_in : Bool) (us : Items) → Followed us → Params assigned no_in us → Params assigned no_in (more_tokens is depth us)
  more_params shapes.no_expressions depth F n us w P = P
  more_params (shapes.more_expressions e es) depth F n us w P =
      let v = more_followed es depth us w in
      let E = F.0 in
      params_more assigned n (expression_tokens e depth blank (more_tokens es depth us)) (more_tokens es depth us) (E.param blank (more_tokens es depth us) v.front v.begins (ends_no_equals v.front v.ends, v.ends)) (more_params es depth F.1 n us w P)
