-- In the head of a loop an expression without a bare `in` is laid out as elsewhere.
use Rattle.std.proofs.Common.{◌≡◌, ℕ, ◌||◌, Bool, true, false, List, [], ◌∷◌, ◌++◌, map, refl, ap, sym, subst, ◌∙◌, codes, if◌then◌else◌}
use Rattle.std.proofs.lemmas.Bool.{false≢true, or_parts}
use Rattle.ecma_kind.specs.declared.operators.BinaryOp.{BinaryOp}
use Rattle.ecma_kind.specs.declared.operators.BinaryOp.TheVariants as op
use Rattle.ecma_kind.specs.declared.kind.Kind.{Kind}
use Rattle.ecma_kind.specs.declared.kind.Kind.TheVariants as kind
use Rattle.ecma_tree.specs.declared.node.Node.{Node, ind-Node}
use Rattle.ecma_print.specs.declared.place.Begins.TheVariants.{ArrowBodyStart}
use Rattle.ecma_print.specs.declared.place.Beside.{Beside}
use Rattle.ecma_print.specs.declared.place.Beside.TheVariants.{NoNeighbor, BeforeLink, InChain}
use Rattle.ecma_print.specs.declared.place.Between.{Between}
use Rattle.ecma_print.specs.declared.place.Between.TheVariants.{Blank, Equals}
use Rattle.ecma_print.specs.declared.place.Spot.{Spot}
use Rattle.ecma_print.specs.declared.place.Place.TheVariants.{At, Within, Key, Arguments}
use Rattle.ecma_print.specs.Pieces.{say, ◌>>◌}
use Rattle.ecma_print.specs.Places.{before, after, free, left, right, beginning, gap}
use Rattle.ecma_print.specs.Laid.{Laid, is_computed}
use Rattle.ecma_print.specs.Levels.{clashes, in_parentheses}
use Rattle.ecma_print.specs.Operators.{assign_word, unary_word, unary_sign, update_word, update_sign, binary_word, left_level, right_level, under}
use Rattle.ecma_print.specs.Expressions.{object_beside, is_optional, question_dot, callee_spot, link_of, more_of_sequence, yield_word}
use Rattle.ecma_print.specs.Functions.{async_word}
use Rattle.ecma_print.specs.Layout.{whole, standing, in_place, laid}
use Rattle.ecma_shapes.specs.Heads.{any_of, may_hold_by, may_hold_in}
use Rattle.ecma_shapes.proofs.Heads.{may_hold_node}
use Rattle.ecma_print_layouts.proofs.Layouts.{at_node}

-- the same spot elsewhere
abbrev pub with_in : Spot → Spot
with_in spot = record { level = spot.level; begins = spot.begins; without_in = false; in_callee_of_new = spot.in_callee_of_new; beside = spot.beside }

abbrev Same : Laid → Type 0
Same x = (spot : Spot) (m rest : List ℕ) → x.at (At spot) m rest ≡ x.at (At (with_in spot)) m rest

clash_same : (o : BinaryOp) (bs : List Bool) → may_hold_by (kind.BinExpr o) bs ≡ false → (spot : Spot) (b : Beside) → clashes o spot b ≡ clashes o (with_in spot) b
clash_same op.In bs h spot b = absurd (false≢true (sym h))
clash_same o bs h spot b = refl

pub operands_hold : (o : BinaryOp) (bs : List Bool) → may_hold_by (kind.BinExpr o) bs ≡ false → any_of bs ≡ false
operands_hold op.In bs h = absurd (false≢true (sym h))
operands_hold o bs h = h

standing_same : (k : Kind) (xs : List Laid) (spot : Spot) → in_parentheses k xs spot ≡ in_parentheses k xs (with_in spot) → (m rest : List ℕ) → whole k xs spot m rest ≡ whole k xs (with_in spot) m rest → standing k xs spot m rest ≡ standing k xs (with_in spot) m rest
standing_same k xs spot p m rest e =
    go (in_parentheses k xs spot) ∙ ap (λ b. (if b then (say (codes "(") >> whole k xs (free 0) >> say (codes ")")) else whole k xs (with_in spot)) m rest) p
  where
    go : (b : Bool) → (if b then (say (codes "(") >> whole k xs (free 0) >> say (codes ")")) else whole k xs spot) m rest ≡ (if b then (say (codes "(") >> whole k xs (free 0) >> say (codes ")")) else whole k xs (with_in spot)) m rest
    go true = refl
    go false = e

abbrev LaidSame : Node → Type 0
LaidSame n = may_hold_in n ≡ false → Same (laid n)

abbrev Children : Type 0
Children = List ((n : Node) × LaidSame n)

abbrev texts : Children → List Laid
texts cs = map laid (map (λ e. e.0) cs)

abbrev hold : Children → List Bool
hold cs = map may_hold_in (map (λ e. e.0) cs)

abbrev held : Kind → Children → Bool
held k cs = may_hold_by k (hold cs)

pub one_same : (b : Bool) → (b || false) ≡ false → b ≡ false
one_same b h = (or_parts b false h).0

-- with what stands before and behind it, if it is there
within_by : (k : Kind) (xs : List Laid) → ((spot : Spot) (m rest : List ℕ) → in_place k xs (At spot) m rest ≡ in_place k xs (At (with_in spot)) m rest)
    → (between : Between) (spot : Spot) (m rest : List ℕ) → in_place k xs (Within between spot) m rest ≡ in_place k xs (Within between (with_in spot)) m rest
within_by kind.Absent xs h between spot m rest = refl
within_by kind.List xs h between spot m rest = refl
within_by k xs h between spot m rest = ap (λ z. before between m z) (h spot m (after between m rest))

abbrev WithinSame : Node → Type 0
WithinSame n = Same (laid n) → (between : Between) (spot : Spot) (m rest : List ℕ) → (laid n).at (Within between spot) m rest ≡ (laid n).at (Within between (with_in spot)) m rest

within_same : (n : Node) → WithinSame n
within_same = ind-Node WithinSame (λ x y is S between spot m rest.
    (let at = at_node x.span x.kind x.children in
    at (Within between spot) m rest
    ∙ (within_by x.kind (map laid x.children) (λ p l r. sym (at (At p) l r) ∙ (S p l r ∙ at (At (with_in p)) l r)) between spot m rest
    ∙ sym (at (Within between (with_in spot)) m rest))))

-- those behind the first of a sequence
rest_same : (cs : Children) → any_of (hold cs) ≡ false → (spot : Spot) (m rest : List ℕ) → more_of_sequence (texts cs) spot m rest ≡ more_of_sequence (texts cs) (with_in spot) m rest
rest_same [] h spot m rest = refl
rest_same (x ∷ cs) h spot m rest =
    let c = or_parts (may_hold_in x.0) _ h in
    ap (λ z. codes ", " ++ (laid x.0).at (At (right spot 1 NoNeighbor)) m z) (rest_same cs c.1 spot m rest) ∙ ap (λ z. codes ", " ++ z) (x.1 c.0 (right spot 1 NoNeighbor) m (more_of_sequence (texts cs) (with_in spot) m rest))

step_same : (k : Kind) (cs : Children) → held k cs ≡ false → (spot : Spot) (m rest : List ℕ) → in_place k (texts cs) (At spot) m rest ≡ in_place k (texts cs) (At (with_in spot)) m rest
step_same (kind.UnaryExpr o) (x ∷ []) h spot m rest =
    standing_same (kind.UnaryExpr o) (texts (x ∷ [])) spot refl m rest (ap (λ z. gap spot.beside (unary_sign o) ++ (unary_word o ++ z)) (x.1 (one_same _ h) (right spot 14 (unary_sign o)) m rest))
step_same (kind.UpdateExpr o true) (x ∷ []) h spot m rest =
    standing_same (kind.UpdateExpr o true) (texts (x ∷ [])) spot refl m rest (ap (λ z. gap spot.beside (update_sign o) ++ (update_word o ++ z)) (x.1 (one_same _ h) (right spot 16 (update_sign o)) m rest))
step_same (kind.UpdateExpr o false) (x ∷ []) h spot m rest =
    standing_same (kind.UpdateExpr o false) (texts (x ∷ [])) spot refl m rest (x.1 (one_same _ h) (left spot 16 NoNeighbor) m (update_word o ++ rest))
step_same kind.AwaitExpr (x ∷ []) h spot m rest =
    standing_same kind.AwaitExpr (texts (x ∷ [])) spot refl m rest (ap (λ z. codes "await " ++ z) (x.1 (one_same _ h) (right spot 14 NoNeighbor) m rest))
step_same (kind.BinExpr o) (x ∷ y ∷ []) h spot m rest =
    let bs = may_hold_in x.0 ∷ may_hold_in y.0 ∷ [] in
    let c = or_parts (may_hold_in x.0) _ (operands_hold o bs h) in
    standing_same (kind.BinExpr o) (texts (x ∷ y ∷ [])) spot (rw (clash_same o bs h spot spot.beside) refl) m rest
    (ap (λ z. (laid x.0).at (At (left spot (left_level o) (under o))) m (binary_word o ++ z)) (y.1 (one_same _ c.1) (right spot (right_level o) (under o)) m rest)
    ∙ x.1 c.0 (left spot (left_level o) (under o)) m (binary_word o ++ (laid y.0).at (At (right (with_in spot) (right_level o) (under o))) m rest))
step_same (kind.AssignExpr o) (x ∷ y ∷ []) h spot m rest =
    let c = or_parts (may_hold_in x.0) _ h in
    standing_same (kind.AssignExpr o) (texts (x ∷ y ∷ [])) spot refl m rest
    (ap (λ z. (laid x.0).at (At (left spot 16 NoNeighbor)) m (assign_word o ++ z)) (y.1 (one_same _ c.1) (right spot 1 NoNeighbor) m rest)
    ∙ x.1 c.0 (left spot 16 NoNeighbor) m (assign_word o ++ (laid y.0).at (At (right (with_in spot) 1 NoNeighbor)) m rest))
step_same kind.CondExpr (x ∷ y ∷ z ∷ []) h spot m rest =
    let c = or_parts (may_hold_in x.0) _ h in
    let d = or_parts (may_hold_in y.0) _ c.1 in
    let last = (laid z.0).at (At (right (with_in spot) 1 NoNeighbor)) m rest in
    let more = codes " ? " ++ (laid y.0).at (At (right (with_in spot) 1 NoNeighbor)) m (codes " : " ++ last) in
    standing_same kind.CondExpr (texts (x ∷ y ∷ z ∷ [])) spot refl m rest
    (ap (λ w. (laid x.0).at (At (left spot 3 NoNeighbor)) m (codes " ? " ++ (laid y.0).at (At (right spot 1 NoNeighbor)) m (codes " : " ++ w))) (z.1 (one_same _ d.1) (right spot 1 NoNeighbor) m rest)
    ∙ (ap (λ w. (laid x.0).at (At (left spot 3 NoNeighbor)) m (codes " ? " ++ w)) (y.1 d.0 (right spot 1 NoNeighbor) m (codes " : " ++ last)) ∙ x.1 c.0 (left spot 3 NoNeighbor) m more))
step_same kind.MemberExpr (x ∷ y ∷ []) h spot m rest =
    standing_same kind.MemberExpr (texts (x ∷ y ∷ [])) spot refl m rest (x.1 h (left spot 16 (object_beside spot.beside (is_computed (laid y.0).kind))) m ((laid y.0).at (Key (is_optional spot.beside)) m rest))
step_same kind.CallExpr (x ∷ y ∷ z ∷ []) h spot m rest =
    standing_same kind.CallExpr (texts (x ∷ y ∷ z ∷ [])) spot refl m rest (x.1 h (left spot 16 BeforeLink) m ((laid y.0).at Arguments m rest))
step_same kind.NewExpr (x ∷ y ∷ z ∷ []) h spot m rest =
    standing_same kind.NewExpr (texts (x ∷ y ∷ z ∷ [])) spot refl m rest (ap (λ w. codes "new " ++ w) (x.1 h (callee_spot spot) m ((laid y.0).at Arguments m rest)))
step_same (kind.OptChainExpr optional) (x ∷ []) h spot m rest = standing_same (kind.OptChainExpr optional) (texts (x ∷ [])) spot refl m rest (x.1 h (left spot 0 (link_of optional)) m rest)
step_same kind.OptCall (x ∷ y ∷ z ∷ []) h spot m rest =
    standing_same kind.OptCall (texts (x ∷ y ∷ z ∷ [])) spot refl m rest (x.1 h (left spot 16 InChain) m (question_dot (is_optional spot.beside) ++ (laid y.0).at Arguments m rest))
step_same kind.TaggedTpl (x ∷ y ∷ z ∷ []) h spot m rest =
    standing_same kind.TaggedTpl (texts (x ∷ y ∷ z ∷ [])) spot refl m rest (x.1 h (left spot 16 BeforeLink) m ((laid z.0).at (At (free 0)) m rest))
step_same kind.SeqExpr [] h spot m rest = standing_same kind.SeqExpr (texts []) spot refl m rest refl
step_same kind.SeqExpr (x ∷ cs) h spot m rest =
    let c = or_parts (may_hold_in x.0) _ h in
    standing_same kind.SeqExpr (texts (x ∷ cs)) spot refl m rest
    (ap (λ z. (laid x.0).at (At (left spot 1 NoNeighbor)) m z) (rest_same cs c.1 spot m rest) ∙ x.1 c.0 (left spot 1 NoNeighbor) m (more_of_sequence (texts cs) (with_in spot) m rest))
step_same (kind.YieldExpr delegate) (x ∷ []) h spot m rest =
    standing_same (kind.YieldExpr delegate) (texts (x ∷ [])) spot refl m rest (ap (λ z. yield_word delegate ++ z) (within_same x.0 (x.1 (one_same _ h)) Blank (right spot 1 NoNeighbor) m rest))
step_same (kind.ArrowExpr is_async is_generator) (p ∷ b ∷ t ∷ r ∷ []) h spot m rest =
    let c = or_parts (may_hold_in p.0) _ h in
    let d = or_parts (may_hold_in b.0) _ c.1 in
    standing_same (kind.ArrowExpr is_async is_generator) (texts (p ∷ b ∷ t ∷ r ∷ [])) spot refl m rest
    (ap (λ z. async_word is_async ++ (laid p.0).at Arguments m (codes " => " ++ z)) (b.1 d.0 (beginning 1 ArrowBodyStart spot.without_in) m rest))
step_same (kind.VarDecl k declare) cs h spot m rest = absurd (false≢true (sym h))
step_same (kind.VarDeclarator definite) (x ∷ y ∷ []) h spot m rest =
    let c = or_parts (may_hold_in x.0) _ h in
    standing_same (kind.VarDeclarator definite) (texts (x ∷ y ∷ [])) spot refl m rest (ap (λ z. (laid x.0).at (At (free 1)) m z) (within_same y.0 (y.1 (one_same _ c.1)) Equals (right spot 1 NoNeighbor) m rest))
step_same (kind.BinExpr o) [] h spot m rest = standing_same (kind.BinExpr o) (texts []) spot (rw (clash_same o (hold []) h spot spot.beside) refl) m rest refl
step_same (kind.BinExpr o) (x ∷ []) h spot m rest = standing_same (kind.BinExpr o) (texts (x ∷ [])) spot (rw (clash_same o (hold (x ∷ [])) h spot spot.beside) refl) m rest refl
step_same (kind.BinExpr o) (x ∷ y ∷ z ∷ zs) h spot m rest = standing_same (kind.BinExpr o) (texts (x ∷ y ∷ z ∷ zs)) spot (rw (clash_same o (hold (x ∷ y ∷ z ∷ zs)) h spot spot.beside) refl) m rest refl
step_same kind.ComputedPropName [] h spot m rest = refl
step_same kind.ComputedPropName (x ∷ []) h spot m rest = refl
step_same kind.ComputedPropName (x ∷ y ∷ zs) h spot m rest = refl
step_same k cs h spot m rest = refl

pub head_laid : (n : Node) → may_hold_in n ≡ false → (spot : Spot) (m rest : List ℕ) → (laid n).at (At spot) m rest ≡ (laid n).at (At (with_in spot)) m rest
head_laid = ind-Node LaidSame (λ x y is h spot m rest.
    at_node x.span x.kind x.children (At spot) m rest
    ∙ (subst (λ z. may_hold_by z.kind (map may_hold_in z.children) ≡ false → in_place z.kind (map laid z.children) (At spot) m rest ≡ in_place z.kind (map laid z.children) (At (with_in spot)) m rest) is
    (λ k. step_same y.kind y.children k spot m rest) (sym (may_hold_node x.span x.kind x.children) ∙ h)
    ∙ sym (at_node x.span x.kind x.children (At (with_in spot)) m rest)))
