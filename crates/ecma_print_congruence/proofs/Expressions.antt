-- Expressions are laid out alike.
use Rattle.std.proofs.Common.{◌≡◌, refl, ℕ, List, [], ◌∷◌, map, Bool, true, false, codes}
use Rattle.ecma_kind.specs.declared.kind.Kind.{Kind}
use Rattle.ecma_kind.specs.declared.kind.Kind.TheVariants as kind
use Rattle.ecma_print.specs.Laid.{Laid}
use Rattle.ecma_print.specs.declared.place.Spot.{Spot}
use Rattle.ecma_print.specs.declared.place.Place.TheVariants as place
use Rattle.ecma_print.specs.declared.place.Beside.TheVariants.{NoNeighbor}
use Rattle.ecma_print.specs.Pieces.{say, ◌>>◌}
use Rattle.ecma_print.specs.Places.{left, right}
use Rattle.ecma_print_congruence.proofs.Telling as telling
use Rattle.ecma_kind.specs.declared.operators.UnaryOp.{UnaryOp}
use Rattle.ecma_kind.specs.declared.operators.UpdateOp.{UpdateOp}
use Rattle.ecma_kind.specs.declared.operators.BinaryOp.{BinaryOp}
use Rattle.ecma_kind.specs.declared.operators.AssignOp.{AssignOp}
use Rattle.ecma_print.specs.Expressions.{unary, update, binary, assignment, conditional, object_beside, is_optional, member, super_member, call, chained_call, construction, chain, more_of_sequence, sequence, template, tagged, yielding, awaiting, parenthesized, spread, operation, link, primary}
use Rattle.ecma_print_congruence.proofs.Lists.{first_in_told}

module _ (context_of : List ℕ → ℕ → ℕ) where
  abbrev told : Laid → Laid
  told = telling.told context_of

  abbrev kind_told : Kind → Kind
  kind_told = telling.kind_told context_of

  unary_told : (op : UnaryOp) (children : List Laid) (spot : Spot) → unary op (map told children) spot ≡ unary op children spot
  unary_told op [] spot = refl
  unary_told op (a ∷ []) spot = refl
  unary_told op (a ∷ b ∷ more) spot = refl

  update_told : (op : UpdateOp) (prefix : Bool) (children : List Laid) (spot : Spot) → update op prefix (map told children) spot ≡ update op prefix children spot
  update_told op true [] spot = refl
  update_told op true (a ∷ []) spot = refl
  update_told op true (a ∷ b ∷ more) spot = refl
  update_told op false [] spot = refl
  update_told op false (a ∷ []) spot = refl
  update_told op false (a ∷ b ∷ more) spot = refl

  binary_told : (op : BinaryOp) (children : List Laid) (spot : Spot) → binary op (map told children) spot ≡ binary op children spot
  binary_told op [] spot = refl
  binary_told op (a ∷ []) spot = refl
  binary_told op (a ∷ b ∷ []) spot = refl
  binary_told op (a ∷ b ∷ c ∷ more) spot = refl

  assignment_told : (op : AssignOp) (children : List Laid) (spot : Spot) → assignment op (map told children) spot ≡ assignment op children spot
  assignment_told op [] spot = refl
  assignment_told op (a ∷ []) spot = refl
  assignment_told op (a ∷ b ∷ []) spot = refl
  assignment_told op (a ∷ b ∷ c ∷ more) spot = refl

  conditional_told : (children : List Laid) (spot : Spot) → conditional (map told children) spot ≡ conditional children spot
  conditional_told [] spot = refl
  conditional_told (a ∷ []) spot = refl
  conditional_told (a ∷ b ∷ []) spot = refl
  conditional_told (a ∷ b ∷ c ∷ []) spot = refl
  conditional_told (a ∷ b ∷ c ∷ d ∷ more) spot = refl

  member_told : (children : List Laid) (spot : Spot) → member (map told children) spot ≡ member children spot
  member_told [] spot = refl
  member_told (a ∷ []) spot = refl
  member_told (a ∷ b ∷ []) spot = λ i. a.at (place.At (left spot 16 (object_beside spot.beside (telling.is_computed_told context_of b.kind i)))) >> b.at (place.Key (is_optional spot.beside))
  member_told (a ∷ b ∷ c ∷ more) spot = refl

  super_member_told : (children : List Laid) → super_member (map told children) ≡ super_member children
  super_member_told [] = refl
  super_member_told (a ∷ []) = refl
  super_member_told (a ∷ b ∷ []) = refl
  super_member_told (a ∷ b ∷ c ∷ more) = refl

  call_told : (children : List Laid) (spot : Spot) → call (map told children) spot ≡ call children spot
  call_told [] spot = refl
  call_told (a ∷ []) spot = refl
  call_told (a ∷ b ∷ []) spot = refl
  call_told (a ∷ b ∷ c ∷ []) spot = refl
  call_told (a ∷ b ∷ c ∷ d ∷ more) spot = refl

  chained_call_told : (children : List Laid) (spot : Spot) → chained_call (map told children) spot ≡ chained_call children spot
  chained_call_told [] spot = refl
  chained_call_told (a ∷ []) spot = refl
  chained_call_told (a ∷ b ∷ []) spot = refl
  chained_call_told (a ∷ b ∷ c ∷ []) spot = refl
  chained_call_told (a ∷ b ∷ c ∷ d ∷ more) spot = refl

  construction_told : (children : List Laid) (spot : Spot) → construction (map told children) spot ≡ construction children spot
  construction_told [] spot = refl
  construction_told (a ∷ []) spot = refl
  construction_told (a ∷ b ∷ []) spot = refl
  construction_told (a ∷ b ∷ c ∷ []) spot = refl
  construction_told (a ∷ b ∷ c ∷ d ∷ more) spot = refl

  chain_told : (optional : Bool) (children : List Laid) (spot : Spot) → chain optional (map told children) spot ≡ chain optional children spot
  chain_told optional [] spot = refl
  chain_told optional (a ∷ []) spot = refl
  chain_told optional (a ∷ b ∷ more) spot = refl

  more_of_sequence_told : (children : List Laid) (spot : Spot) → more_of_sequence (map told children) spot ≡ more_of_sequence children spot
  more_of_sequence_told [] spot = refl
  more_of_sequence_told (a ∷ more) spot = λ i. say (codes ", ") >> a.at (place.At (right spot 1 NoNeighbor)) >> more_of_sequence_told more spot i

  sequence_told : (children : List Laid) (spot : Spot) → sequence (map told children) spot ≡ sequence children spot
  sequence_told [] spot = refl
  sequence_told (a ∷ more) spot = λ i. a.at (place.At (left spot 1 NoNeighbor)) >> more_of_sequence_told more spot i

  template_told : (children : List Laid) → template (map told children) ≡ template children
  template_told [] = refl
  template_told (a ∷ []) = refl
  template_told (a ∷ b ∷ []) = refl
  template_told (a ∷ b ∷ c ∷ more) = refl

  tagged_told : (children : List Laid) (spot : Spot) → tagged (map told children) spot ≡ tagged children spot
  tagged_told [] spot = refl
  tagged_told (a ∷ []) spot = refl
  tagged_told (a ∷ b ∷ []) spot = refl
  tagged_told (a ∷ b ∷ c ∷ []) spot = refl
  tagged_told (a ∷ b ∷ c ∷ d ∷ more) spot = refl

  yielding_told : (delegate : Bool) (children : List Laid) (spot : Spot) → yielding delegate (map told children) spot ≡ yielding delegate children spot
  yielding_told delegate [] spot = refl
  yielding_told delegate (a ∷ []) spot = refl
  yielding_told delegate (a ∷ b ∷ more) spot = refl

  awaiting_told : (children : List Laid) (spot : Spot) → awaiting (map told children) spot ≡ awaiting children spot
  awaiting_told [] spot = refl
  awaiting_told (a ∷ []) spot = refl
  awaiting_told (a ∷ b ∷ more) spot = refl

  parenthesized_told : (children : List Laid) → parenthesized (map told children) ≡ parenthesized children
  parenthesized_told [] = refl
  parenthesized_told (a ∷ []) = refl
  parenthesized_told (a ∷ b ∷ more) = refl

  spread_told : (children : List Laid) → spread (map told children) ≡ spread children
  spread_told [] = refl
  spread_told (a ∷ []) = refl
  spread_told (a ∷ b ∷ more) = refl

  pub operation_told : (k : Kind) (children : List Laid) (spot : Spot) → operation (kind_told k) (map told children) spot ≡ operation k children spot
  operation_told (kind.UnaryExpr op) children spot = unary_told op children spot
  operation_told (kind.UpdateExpr op prefix) children spot = update_told op prefix children spot
  operation_told (kind.BinExpr op) children spot = binary_told op children spot
  operation_told (kind.AssignExpr op) children spot = assignment_told op children spot
  operation_told kind.CondExpr children spot = conditional_told children spot
  operation_told kind.SeqExpr children spot = sequence_told children spot
  operation_told (kind.YieldExpr delegate) children spot = yielding_told delegate children spot
  operation_told kind.AwaitExpr children spot = awaiting_told children spot
  operation_told _ children spot = refl

  pub link_told : (k : Kind) (children : List Laid) (spot : Spot) → link (kind_told k) (map told children) spot ≡ link k children spot
  link_told kind.MemberExpr children spot = member_told children spot
  link_told kind.SuperPropExpr children spot = super_member_told children
  link_told kind.CallExpr children spot = call_told children spot
  link_told kind.NewExpr children spot = construction_told children spot
  link_told (kind.OptChainExpr optional) children spot = chain_told optional children spot
  link_told kind.OptCall children spot = chained_call_told children spot
  link_told kind.Tpl children spot = template_told children
  link_told kind.TaggedTpl children spot = tagged_told children spot
  link_told _ children spot = refl

  pub primary_told : (k : Kind) (children : List Laid) → primary (kind_told k) (map told children) ≡ primary k children
  primary_told kind.ParenExpr children = parenthesized_told children
  primary_told kind.SpreadElement children = spread_told children
  primary_told kind.ArrayLit children = first_in_told context_of place.Brackets children
  primary_told kind.ObjectLit children = first_in_told context_of place.Braces children
  primary_told _ children = refl
