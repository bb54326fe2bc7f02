-- But for parentheses that end no chain, a tree with explicit ones is the tree whose chains end.
use Rattle.std.proofs.Common.{◌≡◌, refl, ap, ap₂, ◌∙◌, ltb, ◌||◌, ◌&&◌, List, [], ◌∷◌, length, Bool, true, false, if◌then◌else◌}
use Rattle.ecma_kind.specs.declared.kind.Kind.{Kind}
use Rattle.ecma_kind.specs.declared.kind.Kind.TheVariants as kind
use Rattle.ecma_kind.specs.declared.operators.UnaryOp.{UnaryOp}
use Rattle.ecma_kind.specs.declared.operators.UnaryOp.TheVariants as unary
use Rattle.ecma_kind.specs.declared.operators.UpdateOp.{UpdateOp}
use Rattle.ecma_kind.specs.declared.operators.UpdateOp.TheVariants as update
use Rattle.ecma_kind.specs.declared.operators.BinaryOp.{BinaryOp}
use Rattle.ecma_kind.specs.declared.operators.BinaryOp.TheVariants as op
use Rattle.ecma_tree.specs.declared.node.Node.{Node}
use Rattle.ecma_print.specs.declared.place.Beside.{Beside}
use Rattle.ecma_print.specs.declared.place.Beside.TheVariants.{OfLink, OfOptionalLink}
use Rattle.ecma_print.specs.declared.place.Spot.{Spot}
use Rattle.ecma_print.specs.Places.{free, left, right, ends_a_chain}
use Rattle.ecma_print.specs.Operators.{unary_sign, update_sign, left_level, right_level, under}
use Rattle.ecma_print.specs.Expressions.{object_beside, link_of}
use Rattle.ecma_print.specs.Laid.{Laid}
use Rattle.ecma_print.specs.Spots.{has_computed_key, first_spots, further_spot}
use Rattle.ecma_print.specs.Explicit.{parenthesized}
use Rattle.ecma_print_parentheses.proofs.Chains.{Ended, closed, wholes, closed_first, ended_children, linked_children}

-- a spot where a chain stands in parentheses, and one of a link
abbrev pub ends : Spot → Bool
ends spot = ltb 16 spot.level || ends_a_chain spot.beside

abbrev pub is_link : Beside → Bool
is_link OfLink = true
is_link OfOptionalLink = true
is_link beside = false

-- neither
abbrev pub Plain : Spot → Type 0
Plain spot = (ends spot ≡ false) × (is_link spot.beside ≡ false)

abbrev pub AllPlain : List Spot → Type 0
AllPlain [] = Unit {0}
AllPlain (spot ∷ spots) = Plain spot × AllPlain spots

plain_unary : (spot : Spot) (o : UnaryOp) → Plain (right spot 14 (unary_sign o))
plain_unary spot unary.Minus = (refl, refl)
plain_unary spot unary.Plus = (refl, refl)
plain_unary spot _ = (refl, refl)

plain_update : (spot : Spot) (o : UpdateOp) → Plain (right spot 16 (update_sign o))
plain_update spot update.PlusPlus = (refl, refl)
plain_update spot update.MinusMinus = (refl, refl)

plain_left : (spot : Spot) (o : BinaryOp) → Plain (left spot (left_level o) (under o))
plain_left spot op.Exp = (refl, refl)
plain_left spot op.NullishCoalescing = (refl, refl)
plain_left spot op.LogicalOr = (refl, refl)
plain_left spot op.LogicalAnd = (refl, refl)
plain_left spot _ = (refl, refl)

plain_right : (spot : Spot) (o : BinaryOp) → Plain (right spot (right_level o) (under o))
plain_right spot op.Exp = (refl, refl)
plain_right spot op.NullishCoalescing = (refl, refl)
plain_right spot op.LogicalOr = (refl, refl)
plain_right spot op.LogicalAnd = (refl, refl)
plain_right spot _ = (refl, refl)

-- a member, a call, a construction, a tag, a chain
abbrev pub has_ends : Kind → Bool
has_ends kind.MemberExpr = true
has_ends kind.CallExpr = true
has_ends kind.NewExpr = true
has_ends kind.TaggedTpl = true
has_ends (kind.OptChainExpr optional) = true
has_ends k = false

-- what stands in the spot of what stands around it
abbrev pub hands_on : Kind → Bool
hands_on kind.List = true
hands_on kind.ComputedPropName = true
hands_on k = false

or_false : (a b : Bool) → (a || b) ≡ false → a ≡ false
or_false true b h = cc
or_false false b h = refl

level_of_plain : (spot : Spot) → Plain spot → ltb 16 spot.level ≡ false
level_of_plain spot h = or_false (ltb 16 spot.level) (ends_a_chain spot.beside) h.0

pub plain_first : (k : Kind) (children : List Laid) (spot : Spot) → has_ends k ≡ false → (hands_on k ≡ true → Plain spot) → AllPlain (first_spots k children spot)
plain_first (kind.UnaryExpr o) children spot none h = (plain_unary spot o, tt)
plain_first (kind.UpdateExpr o true) children spot none h = (plain_update spot o, tt)
plain_first (kind.UpdateExpr o false) children spot none h = ((refl, refl), tt)
plain_first (kind.BinExpr o) children spot none h = (plain_left spot o, (plain_right spot o, tt))
plain_first (kind.AssignExpr o) children spot none h = ((refl, refl), ((refl, refl), tt))
plain_first kind.CondExpr children spot none h = ((refl, refl), ((refl, refl), ((refl, refl), tt)))
plain_first kind.SeqExpr children spot none h = ((refl, refl), tt)
plain_first (kind.YieldExpr delegate) children spot none h = ((refl, refl), tt)
plain_first kind.AwaitExpr children spot none h = ((refl, refl), tt)
plain_first kind.OptCall children spot none h = ((refl, refl), ((refl, refl), tt))
plain_first kind.SpreadElement children spot none h = ((refl, refl), tt)
plain_first kind.ArrayLit children spot none h = ((refl, refl), tt)
plain_first kind.ObjectLit children spot none h = ((refl, refl), tt)
plain_first (kind.ArrowExpr is_async is_generator) children spot none h = ((refl, refl), ((refl, refl), tt))
plain_first (kind.Class is_abstract) children spot none h = ((refl, refl), tt)
plain_first kind.ComputedPropName children spot none h = ((ap (λ b. b || false) (level_of_plain spot (h refl)), refl), tt)
plain_first kind.ExprStmt children spot none h = ((refl, refl), tt)
plain_first kind.CatchClause children spot none h = ((refl, refl), tt)
plain_first kind.ForStmt children spot none h = ((refl, refl), tt)
plain_first kind.ForInStmt children spot none h = ((refl, refl), tt)
plain_first (kind.ForOfStmt is_await) children spot none h = ((refl, refl), ((refl, refl), tt))
plain_first (kind.VarDecl sort declare) children spot none h = ((refl, refl), tt)
plain_first (kind.VarDeclarator definite) children spot none h = ((refl, refl), ((refl, refl), tt))
plain_first kind.ExportDefaultExpr children spot none h = ((refl, refl), tt)
plain_first kind.MemberExpr children spot none h = absurd (cc)
plain_first kind.CallExpr children spot none h = absurd (cc)
plain_first kind.NewExpr children spot none h = absurd (cc)
plain_first kind.TaggedTpl children spot none h = absurd (cc)
plain_first (kind.OptChainExpr optional) children spot none h = absurd (cc)
plain_first _ children spot none h = tt

pub plain_further : (k : Kind) (spot : Spot) → (hands_on k ≡ true → Plain spot) → Plain (further_spot k spot)
plain_further kind.List spot h = h refl
plain_further _ spot h = (refl, refl)

-- what a node is in a spot, up to parentheses that end no chain
unfoldable pub pick : Ended → Spot → Node
pick e spot = if e.is_chain && ends spot then parenthesized e.whole else (if is_link spot.beside then e.link else e.whole)

pick_plain : (e : Ended) (spot : Spot) → Plain spot → pick e spot ≡ e.whole
unfolding pick
pick_plain e spot h = rw (h.0, h.1) (and_none e.is_chain)
  where
    and_none : (b : Bool) → (if b && false then parenthesized e.whole else e.whole) ≡ e.whole
    and_none true = refl
    and_none false = refl

unfoldable pub picks : List Ended → List Spot → Spot → List Node
picks [] spots further = []
picks (e ∷ es) [] further = pick e further ∷ picks es [] further
picks (e ∷ es) (spot ∷ spots) further = pick e spot ∷ picks es spots further

picks_plain : (es : List Ended) (spots : List Spot) (further : Spot) → AllPlain spots → Plain further → picks es spots further ≡ wholes es
unfolding picks
picks_plain [] spots further h l = refl
picks_plain (e ∷ es) [] further h l = ap₂ (λ a rest. a ∷ rest) (pick_plain e further l) (picks_plain es [] further h l)
picks_plain (e ∷ es) (spot ∷ spots) further h l = ap₂ (λ a rest. a ∷ rest) (pick_plain e spot h.0) (picks_plain es spots further h.1 l)

pick_ending : (e : Ended) (spot : Spot) → ends spot ≡ true → is_link spot.beside ≡ false → pick e spot ≡ closed e
unfolding pick
pick_ending e spot h l = rw (h, l) (and_all e.is_chain)
  where
    and_all : (b : Bool) → (if b && true then parenthesized e.whole else e.whole) ≡ (if b then parenthesized e.whole else e.whole)
    and_all true = refl
    and_all false = refl

pick_link : (e : Ended) (spot : Spot) → ends spot ≡ false → is_link spot.beside ≡ true → pick e spot ≡ e.link
unfolding pick
pick_link e spot h l = rw (h, l) (and_none e.is_chain)
  where
    and_none : (b : Bool) → (if b && false then parenthesized e.whole else e.link) ≡ e.link
    and_none true = refl
    and_none false = refl

-- an object ends its chain, unless it stands in one
member_spot : (spot : Spot) (computed : Bool) (beside : Beside) → (es : List Ended) → picks es (left spot 16 (object_beside beside computed) ∷ []) (free 0) ≡ (if is_link beside then wholes es else closed_first es)
unfolding picks
member_spot spot computed OfLink [] = refl
member_spot spot computed OfLink (e ∷ es) = ap₂ (λ a rest. a ∷ rest) (pick_plain e _ (refl, refl)) (picks_plain es [] (free 0) tt (refl, refl))
member_spot spot computed OfOptionalLink [] = refl
member_spot spot computed OfOptionalLink (e ∷ es) = ap₂ (λ a rest. a ∷ rest) (pick_plain e _ (refl, refl)) (picks_plain es [] (free 0) tt (refl, refl))
member_spot spot true _ [] = refl
member_spot spot true _ (e ∷ es) = ap₂ (λ a rest. a ∷ rest) (pick_ending e _ refl refl) (picks_plain es [] (free 0) tt (refl, refl))
member_spot spot false _ [] = refl
member_spot spot false _ (e ∷ es) = ap₂ (λ a rest. a ∷ rest) (pick_ending e _ refl refl) (picks_plain es [] (free 0) tt (refl, refl))

same_either : {A : Type 0} (b : Bool) (a : A) → a ≡ (if b then a else a)
same_either true a = refl
same_either false a = refl

first_ends : (spot : Spot) (others : List Spot) (further : Spot) → ends spot ≡ true → is_link spot.beside ≡ false → AllPlain others → Plain further → (es : List Ended) → picks es (spot ∷ others) further ≡ closed_first es
unfolding picks
first_ends spot others further h l o f [] = refl
first_ends spot others further h l o f (e ∷ es) = ap₂ (λ a rest. a ∷ rest) (pick_ending e spot h l) (picks_plain es others further o f)

base_links : (spot : Spot) (optional : Bool) (es : List Ended) → length es ≡ 1 → picks es (left spot 0 (link_of optional) ∷ []) (free 0) ≡ ended_children (kind.OptChainExpr optional) es
unfolding picks
base_links spot optional [] h = absurd (cc)
base_links spot true (e ∷ []) h = ap (λ a. a ∷ []) (pick_link e _ refl refl)
base_links spot false (e ∷ []) h = ap (λ a. a ∷ []) (pick_link e _ refl refl)
base_links spot optional (e ∷ f ∷ es) h = absurd (cc)

-- a chain has one link
unfoldable pub HasOneLink : Kind → List Ended → Type 0
HasOneLink (kind.OptChainExpr optional) es = length es ≡ 1
HasOneLink k es = Unit {0}

-- the children of each kind in their spots
pub picked : (k : Kind) (children : List Laid) (spot : Spot) (es : List Ended) → HasOneLink k es → (hands_on k ≡ true → Plain spot)
    → picks es (first_spots k children spot) (further_spot k spot) ≡ (if is_link spot.beside then linked_children k es else ended_children k es)
unfolding HasOneLink
picked kind.MemberExpr children spot es one h = member_spot spot (has_computed_key children) spot.beside es
picked kind.CallExpr children spot es one h = first_ends _ _ _ refl refl ((refl, refl), tt) (refl, refl) es ∙ same_either (is_link spot.beside) (closed_first es)
picked kind.NewExpr children spot es one h = first_ends _ _ _ refl refl ((refl, refl), tt) (refl, refl) es ∙ same_either (is_link spot.beside) (closed_first es)
picked kind.TaggedTpl children spot es one h = first_ends _ _ _ refl refl tt (refl, refl) es ∙ same_either (is_link spot.beside) (closed_first es)
picked (kind.OptChainExpr optional) children spot es one h = base_links spot optional es one ∙ same_either (is_link spot.beside) (ended_children (kind.OptChainExpr optional) es)
picked k children spot es one h = picks_plain es _ _ (plain_first k children spot refl h) (plain_further k spot h) ∙ same_either (is_link spot.beside) (wholes es)
