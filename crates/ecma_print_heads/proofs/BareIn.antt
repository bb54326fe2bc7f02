-- Where `in` is no operator, an expression that lacks no parentheses has none outside of brackets.
use Rattle.std.proofs.Common.{◌≡◌, Bool, true, false, not, ◌||◌, List, [], ◌∷◌, map, length, replicate, refl, sym, subst, ltb, ◌∙◌}
use Rattle.std.proofs.lemmas.Bool.{false≢true, and_parts, or_parts}
use Rattle.ecma_kind.specs.declared.operators.BinaryOp.{BinaryOp}
use Rattle.ecma_kind.specs.declared.operators.BinaryOp.TheVariants as op
use Rattle.ecma_kind.specs.declared.span.Span.{Span}
use Rattle.ecma_kind.specs.declared.kind.Kind.{Kind}
use Rattle.ecma_kind.specs.declared.kind.Kind.TheVariants as kind
use Rattle.ecma_kind.specs.declared.shapes.Count.{Count}
use Rattle.ecma_kind.specs.declared.shapes.Count.TheVariants.{One, Maybe}
use Rattle.ecma_kind.specs.declared.shapes.Shape.{Shape}
use Rattle.ecma_kind.specs.declared.shapes.Sort.{Sort}
use Rattle.ecma_kind.specs.declared.shapes.Sort.TheVariants as sort
use Rattle.ecma_kind.specs.Sorts.{belongs}
use Rattle.ecma_tree.specs.declared.node.Node.{Node, ind-Node, out-Node}
use Rattle.ecma_tree.specs.declared.node.Node.TheViews.{roll-out-Node}
use Rattle.ecma_tree.specs.Nodes.{node_of}
use Rattle.ecma_tree.specs.Laws.{HaveShapes}
use Rattle.ecma_tree.specs.Sorted.{HasShape, allows, allows_by, child_shapes, is_absent, is_list, many, maybe, one}
use Rattle.ecma_tree.proofs.ShapeLaws.{node_has_shape}
use Rattle.ecma_print.specs.declared.place.Beside.TheVariants.{NoNeighbor}
use Rattle.ecma_print.specs.declared.place.Spot.{Spot}
use Rattle.ecma_print.specs.Places.{free, right}
use Rattle.ecma_print.specs.Laid.{Laid}
use Rattle.ecma_print.specs.Layout.{laid}
use Rattle.ecma_print.specs.Levels.{in_parentheses}
use Rattle.ecma_print_parentheses.specs.Lacking.{all_complete, complete}
use Rattle.ecma_print.specs.Spots.{first_spots, further_spot}
use Rattle.ecma_print_parentheses.proofs.Lacks.{complete_in}
use Rattle.ecma_print_heads.specs.Laws.{HeadsHoldNoBareIn}
use Rattle.ecma_shapes.specs.Heads.{any_of, may_hold_by, may_hold_in}
use Rattle.ecma_shapes.proofs.Heads.{may_hold_node}

-- shapes of expressions, and of what an expression may stand in the place of

abbrev suits_sort : Sort → Bool
suits_sort sort.Expr = true
suits_sort sort.Callee = true
suits_sort sort.AssignTarget = true
suits_sort sort.OptChainBase = true
suits_sort sort.BlockStmtOrExpr = true
suits_sort s = false

abbrev suits_by : Count → Sort → Bool
suits_by One s = suits_sort s
suits_by Maybe s = suits_sort s
suits_by c s = false

abbrev suits : Shape → Bool
suits shape = suits_by shape.count shape.sort

-- variables are none
abbrev is_variables : Kind → Bool
is_variables (kind.VarDecl k declare) = true
is_variables (kind.VarDeclarator definite) = true
is_variables k = false

no_variables : (s : Sort) (k : Kind) → suits_sort s ≡ true → belongs s k ≡ true → is_variables k ≡ false
no_variables sort.Expr (kind.VarDecl v d) h b = absurd (false≢true b)
no_variables sort.Expr (kind.VarDeclarator d) h b = absurd (false≢true b)
no_variables sort.Expr k h b = refl
no_variables sort.Callee (kind.VarDecl v d) h b = absurd (false≢true b)
no_variables sort.Callee (kind.VarDeclarator d) h b = absurd (false≢true b)
no_variables sort.Callee k h b = refl
no_variables sort.AssignTarget (kind.VarDecl v d) h b = absurd (false≢true b)
no_variables sort.AssignTarget (kind.VarDeclarator d) h b = absurd (false≢true b)
no_variables sort.AssignTarget k h b = refl
no_variables sort.OptChainBase (kind.VarDecl v d) h b = absurd (false≢true b)
no_variables sort.OptChainBase (kind.VarDeclarator d) h b = absurd (false≢true b)
no_variables sort.OptChainBase k h b = refl
no_variables sort.BlockStmtOrExpr (kind.VarDecl v d) h b = absurd (false≢true b)
no_variables sort.BlockStmtOrExpr (kind.VarDeclarator d) h b = absurd (false≢true b)
no_variables sort.BlockStmtOrExpr k h b = refl
no_variables s k h b = absurd (false≢true h)

absent_or : (s : Sort) (k : Kind) → suits_sort s ≡ true → (is_absent k || belongs s k) ≡ true → is_variables k ≡ false
absent_or s kind.Absent h b = refl
absent_or s k h b = no_variables s k h b

suited : (c : Count) (s : Sort) (k : Kind) → suits_by c s ≡ true → allows_by c s k ≡ true → is_variables k ≡ false
suited One s k h b = no_variables s k h b
suited Maybe s k h b = absent_or s k h b
suited c s k h b = absurd (false≢true h)

-- lists and types hold no operator
abbrev is_still : Kind → Bool
is_still kind.Absent = true
is_still kind.List = true
is_still (kind.TsTypeParamDecl) = true
is_still kind.TsTypeAnn = true
is_still k = false

still_by : (k : Kind) (bs : List Bool) → is_still k ≡ true → may_hold_by k bs ≡ false
still_by kind.Absent bs h = refl
still_by kind.List bs h = refl
still_by kind.TsTypeParamDecl bs h = refl
still_by kind.TsTypeAnn bs h = refl
still_by k bs h = absurd (false≢true h)

list_still : (k : Kind) → is_list k ≡ true → is_still k ≡ true
list_still kind.List h = refl
list_still k h = absurd (false≢true h)

params_still : (k : Kind) → (is_absent k || belongs sort.TsTypeParamDecl k) ≡ true → is_still k ≡ true
params_still kind.Absent h = refl
params_still kind.TsTypeParamDecl h = refl
params_still k h = absurd (false≢true h)

type_still : (k : Kind) → (is_absent k || belongs sort.TsTypeAnn k) ≡ true → is_still k ≡ true
type_still kind.Absent h = refl
type_still kind.TsTypeAnn h = refl
type_still k h = absurd (false≢true h)

-- a node by its parts
by_parts : (P : Node → Type 0) → ((at : Span) (k : Kind) (ns : List Node) → P (node_of at k ns)) → (n : Node) → P n
by_parts P h n = subst P (roll-out-Node n) (h (out-Node n).span (out-Node n).kind (out-Node n).children)

still : (shape : Shape) → ((k : Kind) → allows shape k ≡ true → is_still k ≡ true) → (n : Node) → HasShape shape n → may_hold_in n ≡ false
still shape h = by_parts (λ n. HasShape shape n → may_hold_in n ≡ false) (λ at k ns s. may_hold_node at k ns ∙ still_by k (map may_hold_in ns) (h k ((node_has_shape at k ns shape).0 s).0))

-- in its spot, of its shape
abbrev Held : Spot → Shape → Node → Type 0
Held spot shape n = HasShape shape n × ((complete n).at spot ≡ true)

abbrev AllHeld : List Spot → Spot → List Shape → List Node → Type 0
AllHeld spots further [] [] = Unit {0}
AllHeld [] further (shape ∷ shapes) (n ∷ ns) = Held further shape n × AllHeld [] further shapes ns
AllHeld (spot ∷ spots) further (shape ∷ shapes) (n ∷ ns) = Held spot shape n × AllHeld spots further shapes ns
AllHeld spots further shapes ns = ⊥

all_held : (spots : List Spot) (further : Spot) (shapes : List Shape) (ns : List Node) → HaveShapes shapes ns → all_complete (map complete ns) spots further ≡ true → AllHeld spots further shapes ns
all_held [] further [] [] h c = tt
all_held (spot ∷ spots) further [] [] h c = tt
all_held spots further [] (n ∷ ns) h c = absurd h
all_held spots further (shape ∷ shapes) [] h c = absurd h
all_held [] further (shape ∷ shapes) (n ∷ ns) h c =
    let u = and_parts ((complete n).at further) (all_complete (map complete ns) [] further) c in
    ((h.0, u.0), all_held [] further shapes ns h.1 u.1)
all_held (spot ∷ spots) further (shape ∷ shapes) (n ∷ ns) h c =
    let u = and_parts ((complete n).at spot) (all_complete (map complete ns) spots further) c in
    ((h.0, u.0), all_held spots further shapes ns h.1 u.1)

abbrev Claim : Node → Type 0
Claim n = (shape : Shape) (spot : Spot) → suits shape ≡ true → spot.without_in ≡ true → Held spot shape n → may_hold_in n ≡ false

abbrev Children : Type 0
Children = List ((n : Node) × Claim n)

abbrev nodes : Children → List Node
nodes cs = map (λ e. e.0) cs

abbrev hold : Children → List Bool
hold cs = map may_hold_in (nodes cs)

not_true : (b : Bool) → not b ≡ true → b ≡ false
not_true true h = absurd (false≢true h)
not_true false h = refl

none_of_one : (a : Bool) → a ≡ false → (a || false) ≡ false
none_of_one a h = rw h refl

pub none_of_more : (a b : Bool) → a ≡ false → b ≡ false → (a || b) ≡ false
none_of_more a b h k = rw (h, k) refl

abbrev is_in : BinaryOp → Bool
is_in op.In = true
is_in o = false

not_in : (o : BinaryOp) (xs : List Laid) (spot : Spot) → spot.without_in ≡ true → in_parentheses (kind.BinExpr o) xs spot ≡ false → is_in o ≡ false
not_in op.In xs spot w h = absurd (false≢true (sym (or_parts (ltb 9 spot.level) spot.without_in h).1 ∙ w))
not_in o xs spot w h = refl

operands : (o : BinaryOp) (bs : List Bool) → is_in o ≡ false → any_of bs ≡ false → may_hold_by (kind.BinExpr o) bs ≡ false
operands op.In bs i h = absurd (false≢true (sym i))
operands o bs i h = h

-- the parts of a sequence
sequence_held : (cs : Children) (spot : Spot) → spot.without_in ≡ true → AllHeld [] (right spot 1 NoNeighbor) (replicate (length (nodes cs)) (one sort.Expr)) (nodes cs) → any_of (hold cs) ≡ false
sequence_held [] spot w h = refl
sequence_held (x ∷ cs) spot w h = none_of_more (may_hold_in x.0) _ (x.1 (one sort.Expr) (right spot 1 NoNeighbor) refl w h.0) (sequence_held cs spot w h.1)

arrow_held : (a g : Bool) (x y z r : (n : Node) × Claim n) (shape : Shape) (spot : Spot) → spot.without_in ≡ true
    → AllHeld (first_spots (kind.ArrowExpr a g) (map laid (nodes (x ∷ y ∷ z ∷ r ∷ []))) spot) (free 0) (child_shapes (kind.ArrowExpr a g) shape 4) (nodes (x ∷ y ∷ z ∷ r ∷ [])) → any_of (hold (x ∷ y ∷ z ∷ r ∷ [])) ≡ false
arrow_held a g x y z r shape spot w h =
    none_of_more (may_hold_in x.0) _ (still (many sort.Pat) list_still x.0 h.0.0)
    (none_of_more (may_hold_in y.0) _ (y.1 (one sort.BlockStmtOrExpr) _ refl w h.1.0) (none_of_more (may_hold_in z.0) _ (still (maybe sort.TsTypeParamDecl) params_still z.0 h.1.1.0.0) (none_of_one _ (still (maybe sort.TsTypeAnn) type_still r.0 h.1.1.1.0.0))))

step : (k : Kind) (cs : Children) (shape : Shape) (spot : Spot) → is_variables k ≡ false → spot.without_in ≡ true → in_parentheses k (map laid (nodes cs)) spot ≡ false
    → AllHeld (first_spots k (map laid (nodes cs)) spot) (further_spot k spot) (child_shapes k shape (length (nodes cs))) (nodes cs) → may_hold_by k (hold cs) ≡ false
step (kind.UnaryExpr o) (x ∷ []) shape spot v w p h = none_of_one _ (x.1 (one sort.Expr) _ refl w h.0)
step (kind.UnaryExpr o) (x ∷ y ∷ zs) shape spot v w p h = absurd h.1
step (kind.UpdateExpr o true) (x ∷ []) shape spot v w p h = none_of_one _ (x.1 (one sort.Expr) _ refl w h.0)
step (kind.UpdateExpr o false) (x ∷ []) shape spot v w p h = none_of_one _ (x.1 (one sort.Expr) _ refl w h.0)
step (kind.UpdateExpr o true) (x ∷ y ∷ zs) shape spot v w p h = absurd h.1
step (kind.UpdateExpr o false) (x ∷ y ∷ zs) shape spot v w p h = absurd h.1
step kind.AwaitExpr (x ∷ []) shape spot v w p h = none_of_one _ (x.1 (one sort.Expr) _ refl w h.0)
step kind.AwaitExpr (x ∷ y ∷ zs) shape spot v w p h = absurd h.1
step (kind.YieldExpr d) (x ∷ []) shape spot v w p h = none_of_one _ (x.1 (maybe sort.Expr) _ refl w h.0)
step (kind.YieldExpr d) (x ∷ y ∷ zs) shape spot v w p h = absurd h.1
step (kind.BinExpr o) [] shape spot v w p h = absurd h
step (kind.BinExpr o) (x ∷ []) shape spot v w p h = absurd h.1
step (kind.BinExpr o) (x ∷ y ∷ []) shape spot v w p h =
    operands o (hold (x ∷ y ∷ [])) (not_in o (map laid (nodes (x ∷ y ∷ []))) spot w p) (none_of_more (may_hold_in x.0) _ (x.1 (one sort.Expr) _ refl w h.0) (none_of_one _ (y.1 (one sort.Expr) _ refl w h.1.0)))
step (kind.BinExpr o) (x ∷ y ∷ z ∷ zs) shape spot v w p h = absurd h.1.1
step (kind.AssignExpr o) (x ∷ []) shape spot v w p h = absurd h.1
step (kind.AssignExpr o) (x ∷ y ∷ []) shape spot v w p h = none_of_more (may_hold_in x.0) _ (x.1 (one sort.AssignTarget) _ refl w h.0) (none_of_one _ (y.1 (one sort.Expr) _ refl w h.1.0))
step (kind.AssignExpr o) (x ∷ y ∷ z ∷ zs) shape spot v w p h = absurd h.1.1
step kind.CondExpr (x ∷ []) shape spot v w p h = absurd h.1
step kind.CondExpr (x ∷ y ∷ []) shape spot v w p h = absurd h.1.1
step kind.CondExpr (x ∷ y ∷ z ∷ []) shape spot v w p h =
    none_of_more (may_hold_in x.0) _ (x.1 (one sort.Expr) _ refl w h.0) (none_of_more (may_hold_in y.0) _ (y.1 (one sort.Expr) _ refl w h.1.0) (none_of_one _ (z.1 (one sort.Expr) _ refl w h.1.1.0)))
step kind.CondExpr (x ∷ y ∷ z ∷ z' ∷ zs) shape spot v w p h = absurd h.1.1.1
step kind.MemberExpr (x ∷ cs) shape spot v w p h = x.1 (one sort.Expr) _ refl w h.0
step kind.CallExpr (x ∷ cs) shape spot v w p h = x.1 (one sort.Callee) _ refl w h.0
step kind.NewExpr (x ∷ cs) shape spot v w p h = x.1 (one sort.Expr) _ refl w h.0
step (kind.OptChainExpr d) (x ∷ cs) shape spot v w p h = x.1 (one sort.OptChainBase) _ refl w h.0
step kind.OptCall (x ∷ cs) shape spot v w p h = x.1 (one sort.Expr) _ refl w h.0
step kind.TaggedTpl (x ∷ cs) shape spot v w p h = x.1 (one sort.Expr) _ refl w h.0
step kind.SeqExpr [] shape spot v w p h = refl
step kind.SeqExpr (x ∷ cs) shape spot v w p h = none_of_more (may_hold_in x.0) _ (x.1 (one sort.Expr) _ refl w h.0) (sequence_held cs spot w h.1)
step (kind.ArrowExpr a g) (x ∷ []) shape spot v w p h = absurd h.1
step (kind.ArrowExpr a g) (x ∷ y ∷ []) shape spot v w p h = absurd h.1.1
step (kind.ArrowExpr a g) (x ∷ y ∷ z ∷ []) shape spot v w p h = absurd h.1.1.1
step (kind.ArrowExpr a g) (x ∷ y ∷ z ∷ r ∷ []) shape spot v w p h = arrow_held a g x y z r shape spot w h
step (kind.ArrowExpr a g) (x ∷ y ∷ z ∷ r ∷ r' ∷ zs) shape spot v w p h = absurd h.1.1.1.1
step (kind.VarDecl k d) cs shape spot v w p h = absurd (false≢true (sym v))
step (kind.VarDeclarator d) cs shape spot v w p h = absurd (false≢true (sym v))
step k cs shape spot v w p h = refl

node_claim : (at : Span) (k : Kind) (cs : Children) → Claim (node_of at k (nodes cs))
node_claim at k cs shape spot u w held =
    let s = (node_has_shape at k (nodes cs) shape).0 held.0 in
    let c = and_parts (not (in_parentheses k (map laid (nodes cs)) spot)) (all_complete (map complete (nodes cs)) (first_spots k (map laid (nodes cs)) spot) (further_spot k spot)) (sym (complete_in at k (nodes cs) spot) ∙ held.1) in
    may_hold_node at k (nodes cs)
    ∙ step k cs shape spot (suited shape.count shape.sort k u s.0) w (not_true _ c.0) (all_held (first_spots k (map laid (nodes cs)) spot) (further_spot k spot) (child_shapes k shape (length (nodes cs))) (nodes cs) s.1 c.1)

claimed : (n : Node) → Claim n
claimed = ind-Node Claim (λ x y is. subst (λ z. Claim (node_of z.span z.kind z.children)) is (node_claim y.span y.kind y.children))

pub heads_hold_no_bare_in : HeadsHoldNoBareIn
heads_hold_no_bare_in e spot s w c = claimed e (one sort.Expr) spot refl w (s, c)
