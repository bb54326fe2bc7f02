-- Up to parentheses that end no chain, each node in its spot is what it is where chains end.
use Rattle.std.proofs.Common.{◌≡◌, ◌⊎◌, inl, inr, ℕ, refl, sym, ap, subst, ◌∙◌, ◌&&◌, List, [], ◌∷◌, map, length, Bool, true, false, if◌then◌else◌}
use Rattle.ecma_kind.specs.declared.span.Span.{Span}
use Rattle.ecma_kind.specs.declared.kind.Kind.{Kind}
use Rattle.ecma_kind.specs.declared.kind.Kind.TheVariants as kind
use Rattle.ecma_kind.specs.declared.shapes.Count.{Count}
use Rattle.ecma_kind.specs.declared.shapes.Count.TheVariants.{One}
use Rattle.ecma_kind.specs.declared.shapes.Shape.{Shape}
use Rattle.ecma_kind.specs.declared.shapes.Sort.{Sort}
use Rattle.ecma_kind.specs.declared.shapes.Sort.TheVariants as sort
use Rattle.ecma_tree.specs.declared.node.Node.{Node, Node-F, fold-roll-Node, roll-Node, ind-Node, out-Node}
use Rattle.ecma_tree.specs.declared.node.Node.TheViews.{out-roll-Node, roll-out-Node}
use Rattle.ecma_tree.specs.Laws.{HaveShapes}
use Rattle.ecma_tree.specs.Nodes.{dummy_span, node_of}
use Rattle.ecma_tree.specs.Sorted.{HasShape, allows, allows_by, child_shapes}
use Rattle.ecma_tree.proofs.ShapeLaws.{node_has_shape}
use Rattle.ecma_print.specs.declared.place.Spot.{Spot}
use Rattle.ecma_print.specs.Places.{free}
use Rattle.ecma_print.specs.Laid.{Laid}
use Rattle.ecma_print.specs.Layout.{laid}
use Rattle.ecma_print.specs.Levels.{in_parentheses}
use Rattle.ecma_runs.specs.Wrappers.{opened_by, opened, without_parentheses, is_chain_by, is_chain_step}
use Rattle.ecma_runs.specs.Wrappers as runs
use Rattle.ecma_print.specs.Spots.{first_spots, further_spot}
use Rattle.ecma_print.specs.Explicit.{in_spots, parenthesized, stood, explicit}
use Rattle.ecma_print_parentheses.proofs.Chains.{Ended, is_chain, ended_children, linked_children, end_step, ends_of, ended}
use Rattle.ecma_print_parentheses.proofs.Standing.{if_false}
use Rattle.ecma_print_parentheses.proofs.Asking.{Fits, AllFit, first_fit, further_fits}
use Rattle.ecma_print_parentheses.proofs.Spotted.{bare', spotted, stands_in}
use Rattle.ecma_print_parentheses.proofs.Sorting.{is_misreadable, closed_is_misreadable}
use Rattle.ecma_print_parentheses.proofs.Picking.{ends, is_link, Plain, AllPlain, hands_on, plain_first, plain_further, pick, picks, HasOneLink, picked}

-- a child that is one expression, callee or link
abbrev exposes_by : Count → Sort → Bool
exposes_by One sort.Expr = true
exposes_by One sort.Callee = true
exposes_by One sort.OptChainBase = true
exposes_by count sort = false

exposes_no_list : (count : Count) (sort : Sort) (k : Kind) → exposes_by count sort ≡ true → allows_by count sort k ≡ true → hands_on k ≡ false
exposes_no_list One sort.Expr kind.List e a = absurd (cc)
exposes_no_list One sort.Expr kind.ComputedPropName e a = absurd (cc)
exposes_no_list One sort.Expr _ e a = refl
exposes_no_list One sort.Callee kind.List e a = absurd (cc)
exposes_no_list One sort.Callee kind.ComputedPropName e a = absurd (cc)
exposes_no_list One sort.Callee _ e a = refl
exposes_no_list One sort.OptChainBase kind.List e a = absurd (cc)
exposes_no_list One sort.OptChainBase kind.ComputedPropName e a = absurd (cc)
exposes_no_list One sort.OptChainBase _ e a = refl
exposes_no_list _ _ _ e a = absurd (cc)

abbrev Good : Shape → Spot → Type 0
Good shape spot = Plain spot ⊎ (exposes_by shape.count shape.sort ≡ true)

abbrev AllGood : List Shape → List Spot → Spot → Type 0
AllGood [] spots further = Unit {0}
AllGood (shape ∷ shapes) [] further = Good shape further × AllGood shapes [] further
AllGood (shape ∷ shapes) (spot ∷ spots) further = Good shape spot × AllGood shapes spots further

all_plain_good : (shapes : List Shape) (spots : List Spot) (further : Spot) → AllPlain spots → Plain further → AllGood shapes spots further
all_plain_good [] spots further h l = tt
all_plain_good (shape ∷ shapes) [] further h l = (inl l, all_plain_good shapes [] further h l)
all_plain_good (shape ∷ shapes) (spot ∷ spots) further h l = (inl h.0, all_plain_good shapes spots further h.1 l)

good_children : (k : Kind) (shape : Shape) (n : ℕ) (children : List Laid) (spot : Spot) → (hands_on k ≡ true → Plain spot) → AllGood (child_shapes k shape n) (first_spots k children spot) (further_spot k spot)
good_children kind.MemberExpr shape n children spot h = (inr refl, (inl (refl, refl), tt))
good_children kind.CallExpr shape n children spot h = (inr refl, (inl (refl, refl), (inl (refl, refl), tt)))
good_children kind.NewExpr shape n children spot h = (inr refl, (inl (refl, refl), (inl (refl, refl), tt)))
good_children kind.TaggedTpl shape n children spot h = (inr refl, (inl (refl, refl), (inl (refl, refl), tt)))
good_children (kind.OptChainExpr optional) shape n children spot h = (inr refl, tt)
good_children k shape n children spot h = all_plain_good (child_shapes k shape n) (first_spots k children spot) (further_spot k spot) (plain_first k children spot refl h) (plain_further k spot h)

-- a sorted node in each spot
Agrees : Node → Type 0
Agrees n = (shape : Shape) → HasShape shape n → (spot : Spot) → Fits spot → (hands_on (out-Node n).kind ≡ true → Plain spot) → without_parentheses ((stood n).at spot) ≡ without_parentheses (pick (ends_of n) spot)

abbrev Child : Type 0
Child = (n : Node) × Agrees n

abbrev nodes : List Child → List Node
nodes ns = map (λ e. e.0) ns

plain_where_handed_on : (shape : Shape) (n : Node) (spot : Spot) → HasShape shape n → Good shape spot → hands_on (out-Node n).kind ≡ true → Plain spot
plain_where_handed_on shape n spot h (inl plain) on = plain
plain_where_handed_on shape n spot h (inr exposes) on =
    let x = out-Node n in
    let here : HasShape shape (node_of x.span x.kind x.children) = subst (HasShape shape) (sym (roll-out-Node n)) h in
    let allowed : allows shape x.kind ≡ true = ((node_has_shape x.span x.kind x.children shape).0 here).0 in
    let off : hands_on x.kind ≡ false = exposes_no_list shape.count shape.sort x.kind exposes allowed in
    absurd (cc)

children_agree : (shapes : List Shape) (ns : List Child) (spots : List Spot) (further : Spot) → HaveShapes shapes (nodes ns) → AllFit spots → Fits further → AllGood shapes spots further
    → map without_parentheses (in_spots (map stood (nodes ns)) spots further) ≡ map without_parentheses (picks (map ends_of (nodes ns)) spots further)
unfolding Agrees picks
children_agree [] [] spots further h fit fits good = refl
children_agree [] (n ∷ ns) spots further h fit fits good = absurd h
children_agree (shape ∷ shapes) [] spots further h fit fits good = absurd h
children_agree (shape ∷ shapes) (n ∷ ns) [] further h fit fits good =
    λ i. n.1 shape h.0 further fits (plain_where_handed_on shape n.0 further h.0 good.0) i ∷ children_agree shapes ns [] further h.1 fit fits good.1 i
children_agree (shape ∷ shapes) (n ∷ ns) (spot ∷ spots) further h fit fits good =
    λ i. n.1 shape h.0 spot fit.0 (plain_where_handed_on shape n.0 spot h.0 good.0) i ∷ children_agree shapes ns spots further h.1 fit.1 fits good.1 i

one_link : (k : Kind) (shape : Shape) (ns : List Child) → HaveShapes (child_shapes k shape (length (nodes ns))) (nodes ns) → HasOneLink k (map ends_of (nodes ns))
unfolding HasOneLink
one_link (kind.OptChainExpr optional) shape [] h = absurd h
one_link (kind.OptChainExpr optional) shape (n ∷ []) h = refl
one_link (kind.OptChainExpr optional) shape (n ∷ m ∷ ns) h = absurd h.1
one_link _ shape ns h = tt

-- trees whose parts agree

opens_to : (span : Span) (k : Kind) (ns : List Node) → without_parentheses (node_of span k ns) ≡ opened (record { span = span; kind = k; children = map without_parentheses ns })
opens_to span k ns = fold-roll-Node Node opened (record { span = span; kind = k; children = ns })

opens_alike : (span : Span) (k : Kind) (ns ms : List Node) → map without_parentheses ns ≡ map without_parentheses ms → without_parentheses (node_of span k ns) ≡ without_parentheses (node_of span k ms)
opens_alike span k ns ms h = opens_to span k ns ∙ (ap (λ cs. opened (record { span = span; kind = k; children = cs })) h ∙ sym (opens_to span k ms))

parenthesized_alike : (n m : Node) → without_parentheses n ≡ without_parentheses m → without_parentheses (parenthesized n) ≡ without_parentheses (parenthesized m)
parenthesized_alike n m h = opens_alike dummy_span kind.ParenExpr (n ∷ []) (m ∷ []) (ap (λ a. a ∷ []) h)

-- what may stand in parentheses and is no chain ends none
misreadable_opens : (k : Kind) (children : List Node) (x : Node-F Node) → is_misreadable k ≡ true → opened_by k children x ≡ roll-Node x
misreadable_opens kind.ParenExpr children x h = absurd (cc)
misreadable_opens _ children x h = refl

misreadable_no_chain : (k : Kind) (children : List Bool) → is_misreadable k ≡ true → is_chain k ≡ false → is_chain_by k children ≡ false
misreadable_no_chain (kind.OptChainExpr optional) children h c = absurd (cc)
misreadable_no_chain kind.TsAsExpr children h c = absurd (cc)
misreadable_no_chain kind.TsTypeAssertion children h c = absurd (cc)
misreadable_no_chain kind.TsConstAssertion children h c = absurd (cc)
misreadable_no_chain kind.TsNonNullExpr children h c = absurd (cc)
misreadable_no_chain kind.TsInstantiation children h c = absurd (cc)
misreadable_no_chain kind.TsSatisfiesExpr children h c = absurd (cc)
misreadable_no_chain _ children h c = refl

misreadable_same : (k : Kind) (es : List Ended) → is_misreadable k ≡ true → linked_children k es ≡ ended_children k es
misreadable_same kind.MemberExpr es h = absurd (cc)
misreadable_same _ es h = refl

if_same : {A B : Type 0} (f : A → B) (b : Bool) (a a' : A) → f (if b then a else a') ≡ (if b then f a else f a')
if_same f true a a' = refl
if_same f false a a' = refl

if_one : {A : Type 0} (b : Bool) (a a' : A) → a ≡ a' → a' ≡ (if b then a else a')
if_one true a a' h = sym h
if_one false a a' h = refl

parentheses_drop : (span : Span) (k : Kind) (ns : List Node) → is_misreadable k ≡ true → is_chain k ≡ false → without_parentheses (parenthesized (node_of span k ns)) ≡ without_parentheses (node_of span k ns)
parentheses_drop span k ns h c =
    let inner = without_parentheses (node_of span k ns) in
    let x : Node-F Node = record { span = span; kind = k; children = map without_parentheses ns } in
    let is : inner ≡ roll-Node x = opens_to span k ns ∙ misreadable_opens k (map without_parentheses ns) x h in
    let no_chain : runs.is_chain inner ≡ false = ap runs.is_chain is ∙ (fold-roll-Node Bool is_chain_step x ∙ misreadable_no_chain k (map runs.is_chain (map without_parentheses ns)) h c) in
    opens_to dummy_span kind.ParenExpr (node_of span k ns ∷ []) ∙ if_false (runs.is_chain inner) _ inner no_chain

module _ (span : Span) (k : Kind) (ns : List Child) (shape : Shape) (have : HaveShapes (child_shapes k shape (length (nodes ns))) (nodes ns)) where
  abbrev own : List Laid
  own = map laid (nodes ns)

  abbrev here : Ended
  here = end_step (record { span = span; kind = k; children = map ends_of (nodes ns) })

  bare_agrees : (spot : Spot) → Fits spot → (hands_on k ≡ true → Plain spot) → without_parentheses (bare' span k (nodes ns) spot) ≡ without_parentheses (if is_link spot.beside then here.link else here.whole)
  bare_agrees spot fits plain =
      opens_alike span k (spotted k (nodes ns) spot) (if is_link spot.beside then linked_children k (map ends_of (nodes ns)) else ended_children k (map ends_of (nodes ns)))
      (children_agree (child_shapes k shape (length (nodes ns))) ns (first_spots k own spot) (further_spot k spot) have (first_fit k own spot fits) (further_fits k spot fits) (good_children k shape (length (nodes ns)) own spot plain)
      ∙ ap (map without_parentheses) (picked k own spot (map ends_of (nodes ns)) (one_link k shape ns have) plain))
      ∙ ap without_parentheses (if_same (node_of span k) (is_link spot.beside) (linked_children k (map ends_of (nodes ns))) (ended_children k (map ends_of (nodes ns))))

  inner_agrees : without_parentheses (bare' span k (nodes ns) (free 0)) ≡ without_parentheses here.whole
  inner_agrees = bare_agrees (free 0) refl (λ on. (refl, refl))

  -- in parentheses, and not
  module _ (spot : Spot) (fits : Fits spot) where
    closed_chain : (b : Bool) → ends spot ≡ true → b ≡ true → is_chain k ≡ b → without_parentheses (parenthesized (bare' span k (nodes ns) (free 0))) ≡ without_parentheses (pick here spot)
    unfolding pick
    closed_chain b e t is = rw (is, t, e) (parenthesized_alike (bare' span k (nodes ns) (free 0)) here.whole inner_agrees)

    closed_other : is_misreadable k ≡ true → is_chain k ≡ false → without_parentheses (parenthesized (bare' span k (nodes ns) (free 0))) ≡ without_parentheses (pick here spot)
    unfolding pick
    closed_other h c =
        parentheses_drop span k (spotted k (nodes ns) (free 0)) h c
        ∙ (inner_agrees
        ∙ (ap without_parentheses (if_one (is_link spot.beside) here.link here.whole (ap (node_of span k) (misreadable_same k (map ends_of (nodes ns)) h)))
        ∙ sym (ap (λ b. without_parentheses (if b && ends spot then parenthesized here.whole else (if is_link spot.beside then here.link else here.whole))) c)))

    open_agrees : (hands_on k ≡ true → Plain spot) → (is_chain k && ends spot) ≡ false → without_parentheses (bare' span k (nodes ns) spot) ≡ without_parentheses (pick here spot)
    unfolding pick
    open_agrees plain no_end = bare_agrees spot fits plain ∙ sym (ap (λ b. without_parentheses (if b then parenthesized here.whole else (if is_link spot.beside then here.link else here.whole))) no_end)

-- a chain stands in parentheses where it ends
chain_ends : (k : Kind) (children : List Laid) (spot : Spot) → is_chain k ≡ true → in_parentheses k children spot ≡ ends spot
chain_ends (kind.OptChainExpr optional) children spot h = refl
chain_ends _ children spot h = absurd (cc)

and_false : (a b : Bool) → (a ≡ true → b ≡ false) → (a && b) ≡ false
and_false true b h = h refl
and_false false b h = refl

module _ (span : Span) (k : Kind) (ns : List Child) (shape : Shape) (have : HaveShapes (child_shapes k shape (length (nodes ns))) (nodes ns)) (spot : Spot) (fits : Fits spot) (plain : hands_on k ≡ true → Plain spot) where
  closed_agrees : (c : Bool) → is_chain k ≡ c → in_parentheses k (map laid (nodes ns)) spot ≡ true
      → without_parentheses (parenthesized (bare' span k (nodes ns) (free 0))) ≡ without_parentheses (pick (here span k ns shape have) spot)
  closed_agrees true c h = closed_chain span k ns shape have spot fits true (sym (chain_ends k (map laid (nodes ns)) spot c) ∙ h) refl c
  closed_agrees false c h = closed_other span k ns shape have spot fits (closed_is_misreadable k (map laid (nodes ns)) spot fits h) c

  either_agrees : (b : Bool) → in_parentheses k (map laid (nodes ns)) spot ≡ b
      → without_parentheses (if b then parenthesized (bare' span k (nodes ns) (free 0)) else bare' span k (nodes ns) spot) ≡ without_parentheses (pick (here span k ns shape have) spot)
  either_agrees true h = closed_agrees (is_chain k) refl h
  either_agrees false h = open_agrees span k ns shape have spot fits plain (and_false (is_chain k) (ends spot) (λ c. sym (chain_ends k (map laid (nodes ns)) spot c) ∙ h))

layer_agrees : (span : Span) (k : Kind) (ns : List Child) → Agrees (node_of span k (nodes ns))
unfolding Agrees
layer_agrees span k ns shape h spot fits plain =
    let x : Node-F Node = record { span = span; kind = k; children = nodes ns } in
    let have = ((node_has_shape span k (nodes ns) shape).0 h).1 in
    ap without_parentheses (stands_in span k (nodes ns) spot)
    ∙ (either_agrees span k ns shape have spot fits (λ on. plain (ap (λ y. hands_on y.kind) (out-roll-Node x) ∙ on)) (in_parentheses k (map laid (nodes ns)) spot) refl
    ∙ ap (λ e. without_parentheses (pick e spot)) (sym (fold-roll-Node Ended end_step x)))

all_agree : (n : Node) → Agrees n
all_agree = ind-Node Agrees (λ x y is. subst (λ ns. Agrees (node_of x.span x.kind ns)) (ap (λ z. z.children) is) (layer_agrees x.span x.kind y.children))

-- a chain by itself stands in no parentheses
picked_free : (e : Ended) → pick e (free 0) ≡ e.whole
unfolding pick
picked_free e = drops_chain e.is_chain
  where
    drops_chain : (b : Bool) → (if b && false then parenthesized e.whole else e.whole) ≡ e.whole
    drops_chain true = refl
    drops_chain false = refl

pub explicit_agrees : (m : Node) (shape : Shape) → HasShape shape m → without_parentheses (explicit m) ≡ without_parentheses (ended m)
unfolding Agrees
explicit_agrees m shape h = all_agree m shape h (free 0) refl (λ on. (refl, refl)) ∙ ap without_parentheses (picked_free (ends_of m))
