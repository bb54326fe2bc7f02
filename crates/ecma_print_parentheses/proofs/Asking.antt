-- Where no node stands in parentheses, and what is asked of the kinds of children: parentheses round them change none of that.
use Rattle.std.proofs.Common.{◌≡◌, refl, sym, ap, ◌∙◌, ltb, ◌||◌, List, [], ◌∷◌, map, Bool, true, false, if◌then◌else◌}
use Rattle.ecma_kind.specs.declared.kind.Kind.{Kind}
use Rattle.ecma_kind.specs.declared.kind.Kind.TheVariants as kind
use Rattle.ecma_kind.specs.declared.operators.BinaryOp.{BinaryOp}
use Rattle.ecma_kind.specs.declared.operators.BinaryOp.TheVariants as op
use Rattle.ecma_tree.specs.declared.node.Node.{Node, Node-F, roll-Node, out-Node}
use Rattle.ecma_tree.specs.declared.node.Node.TheViews.{roll-out-Node}
use Rattle.ecma_tree.specs.Nodes.{dummy_span}
use Rattle.ecma_print.specs.declared.place.Spot.{Spot}
use Rattle.ecma_print.specs.Places.{free}
use Rattle.ecma_print.specs.Laid.{Laid, is_absent, is_object_pattern}
use Rattle.ecma_print.specs.Layout.{laid}
use Rattle.ecma_print.specs.Operators.{binary_level, left_level, right_level}
use Rattle.ecma_print.specs.Levels.{clashes, in_parentheses}
use Rattle.ecma_print.proofs.LaidOut.{laid_kind, laid_kind_of-node}
use Rattle.ecma_print.specs.Spots.{first_spots, further_spot}
use Rattle.ecma_print.specs.Explicit.{in_spots, laid_children, bare, parenthesized, stood}
use Rattle.ecma_print_parentheses.proofs.Standing.{stands}

-- a spot with a level that there is
abbrev pub Fits : Spot → Type 0
Fits spot = ltb 17 spot.level ≡ false

abbrev pub AllFit : List Spot → Type 0
AllFit [] = Unit {0}
AllFit (spot ∷ spots) = Fits spot × AllFit spots

pub left_fits : (o : BinaryOp) → ltb 17 (left_level o) ≡ false
left_fits op.Exp = refl
left_fits _ = refl

pub right_fits : (o : BinaryOp) → ltb 17 (right_level o) ≡ false
right_fits op.Exp = refl
right_fits _ = refl

-- so have the spots of children
pub first_fit : (k : Kind) (children : List Laid) (spot : Spot) → Fits spot → AllFit (first_spots k children spot)
first_fit (kind.UnaryExpr o) children spot h = (refl, tt)
first_fit (kind.UpdateExpr o true) children spot h = (refl, tt)
first_fit (kind.UpdateExpr o false) children spot h = (refl, tt)
first_fit (kind.BinExpr o) children spot h = (left_fits o, (right_fits o, tt))
first_fit (kind.AssignExpr o) children spot h = (refl, (refl, tt))
first_fit kind.CondExpr children spot h = (refl, (refl, (refl, tt)))
first_fit kind.SeqExpr children spot h = (refl, tt)
first_fit (kind.YieldExpr delegate) children spot h = (refl, tt)
first_fit kind.AwaitExpr children spot h = (refl, tt)
first_fit kind.MemberExpr children spot h = (refl, tt)
first_fit kind.CallExpr children spot h = (refl, (refl, tt))
first_fit kind.OptCall children spot h = (refl, (refl, tt))
first_fit kind.NewExpr children spot h = (refl, (refl, tt))
first_fit (kind.OptChainExpr optional) children spot h = (refl, tt)
first_fit kind.TaggedTpl children spot h = (refl, tt)
first_fit kind.SpreadElement children spot h = (refl, tt)
first_fit kind.ArrayLit children spot h = (refl, tt)
first_fit kind.ObjectLit children spot h = (refl, tt)
first_fit (kind.ArrowExpr is_async is_generator) children spot h = (refl, (refl, tt))
first_fit (kind.Class is_abstract) children spot h = (refl, tt)
first_fit kind.ComputedPropName children spot h = (h, tt)
first_fit kind.ExprStmt children spot h = (refl, tt)
first_fit kind.CatchClause children spot h = (refl, tt)
first_fit kind.ForStmt children spot h = (refl, tt)
first_fit kind.ForInStmt children spot h = (refl, tt)
first_fit (kind.ForOfStmt is_await) children spot h = (refl, (refl, tt))
first_fit (kind.VarDecl sort declare) children spot h = (refl, tt)
first_fit (kind.VarDeclarator definite) children spot h = (refl, (refl, tt))
first_fit kind.ExportDefaultExpr children spot h = (refl, tt)
first_fit _ children spot h = tt

pub further_fits : (k : Kind) (spot : Spot) → Fits spot → Fits (further_spot k spot)
further_fits kind.List spot h = h
further_fits _ spot h = refl

-- where nothing stands around, no node stands in parentheses

free_binary : (o : BinaryOp) → (ltb (binary_level o) 0 || clashes o (free 0) (free 0).beside) ≡ false
free_binary op.In = refl
free_binary op.LogicalOr = refl
free_binary op.LogicalAnd = refl
free_binary op.NullishCoalescing = refl
free_binary _ = refl

pub open_where_free : (k : Kind) (children : List Laid) → in_parentheses k children (free 0) ≡ false
open_where_free (kind.BinExpr o) children = free_binary o
open_where_free _ children = refl

-- and nowhere does one in parentheses
pub parentheses_stand_open : (children : List Laid) (spot : Spot) → Fits spot → in_parentheses kind.ParenExpr children spot ≡ false
parentheses_stand_open children spot h = ap (λ b. b || false) h

-- what is missing stands in no parentheses
pub absent_stands_open : (k : Kind) (children : List Laid) (spot : Spot) → Fits spot → is_absent k ≡ true → in_parentheses k children spot ≡ false
absent_stands_open kind.Absent children spot h is = ap (λ b. b || false) h
absent_stands_open _ children spot h is = absurd (cc)

pub object_pattern_stands_open : (k : Kind) (children : List Laid) (spot : Spot) → Fits spot → is_object_pattern k ≡ true → in_parentheses k children spot ≡ false
object_pattern_stands_open (kind.ObjectPat optional) children spot h is = ap (λ b. b || false) h
object_pattern_stands_open _ children spot h is = absurd (cc)

false_unless : (b : Bool) → (b ≡ true → true ≡ false) → b ≡ false
false_unless true h = h refl
false_unless false h = refl

-- what is said of a kind, and of nothing in parentheses, is said of the node in its spot where it is said of the node
module _ (is : Kind → Bool) (none : is kind.ParenExpr ≡ false) (spot : Spot) (stays : (k : Kind) (children : List Laid) → is k ≡ true → in_parentheses k children spot ≡ false) where
  either_said : (b : Bool) (inner outer : Node) (k : Kind) → (laid outer).kind ≡ k → (is k ≡ true → b ≡ false) → is (laid (if b then parenthesized inner else outer)).kind ≡ is k
  either_said true inner outer k e h = ap is (laid_kind_of-node dummy_span kind.ParenExpr (inner ∷ [])) ∙ (none ∙ sym (false_unless (is k) h))
  either_said false inner outer k e h = ap is e

  said_of_layer : (x : Node-F Node) → is (laid ((stood (roll-Node x)).at spot)).kind ≡ is x.kind
  said_of_layer x =
      let children = map stood x.children in
      ap (λ n. is (laid n).kind) (stands x spot)
      ∙ either_said (in_parentheses x.kind (laid_children children) spot) (bare x.span x.kind children (free 0)) (bare x.span x.kind children spot) x.kind
      (laid_kind_of-node x.span x.kind (in_spots children (first_spots x.kind (laid_children children) spot) (further_spot x.kind spot))) (stays x.kind (laid_children children))

  pub said_in_spot : (n : Node) → is (laid ((stood n).at spot)).kind ≡ is (laid n).kind
  said_in_spot n = ap (λ m. is (laid ((stood m).at spot)).kind) (sym (roll-out-Node n)) ∙ (said_of_layer (out-Node n) ∙ ap is (sym (laid_kind n)))

pub absent_in_spot : (spot : Spot) → Fits spot → (n : Node) → is_absent (laid ((stood n).at spot)).kind ≡ is_absent (laid n).kind
absent_in_spot spot h = said_in_spot is_absent refl spot (λ k children. absent_stands_open k children spot h)

pub object_pattern_in_spot : (spot : Spot) → Fits spot → (n : Node) → is_object_pattern (laid ((stood n).at spot)).kind ≡ is_object_pattern (laid n).kind
object_pattern_in_spot spot h = said_in_spot is_object_pattern refl spot (λ k children. object_pattern_stands_open k children spot h)

-- where nothing stands around, all is
pub said_where_free : (is : Kind → Bool) → is kind.ParenExpr ≡ false → (n : Node) → is (laid ((stood n).at (free 0))).kind ≡ is (laid n).kind
said_where_free is none = said_in_spot is none (free 0) (λ k children i. open_where_free k children)
