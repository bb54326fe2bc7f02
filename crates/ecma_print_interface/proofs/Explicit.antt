-- A module has the interface that it has where the parentheses of its layout are nodes.
use Rattle.std.proofs.Common.{◌≡◌, ◌∙◌, ◌||◌, ltb, ℕ, suc, Bool, true, false, List, [], ◌∷◌, map, refl, sym, ap, ap₂, subst, if◌then◌else◌}
use Rattle.ecma_kind.specs.declared.kind.Kind.{Kind}
use Rattle.ecma_kind.specs.declared.kind.Kind.TheVariants as kind
use Rattle.ecma_kind.specs.declared.span.Span.{Span}
use Rattle.ecma_tree.specs.declared.node.Node.{Node, Node-F, out-Node}
use Rattle.ecma_tree.specs.declared.node.Node.TheViews.{out-roll-Node, roll-out-Node}
use Rattle.ecma_tree.specs.Nodes.{dummy_span, node_of}
use Rattle.ecma_rules.specs.Children.{kind_of}
use Rattle.ecma_print.specs.declared.place.Spot.{Spot}
use Rattle.ecma_print.specs.Explicit.{explicit, in_spots, parenthesized, stood}
use Rattle.ecma_print.specs.Laid.{Laid}
use Rattle.ecma_print.specs.Layout.{laid}
use Rattle.ecma_print.specs.Levels.{in_parentheses}
use Rattle.ecma_print.specs.Places.{free, opens_a_block, opens_a_declaration}
use Rattle.ecma_print.specs.Spots.{first_spots, further_spot}
use Rattle.ecma_print_parentheses.proofs.Asking.{Fits}
use Rattle.ecma_print_parentheses.proofs.Spotted.{bare', spotted, standing', stands_in}
use Rattle.ecma_interface.specs.Names.{Id}
use Rattle.ecma_interface_laws.proofs.Alike.{Alike, Related, Step, children_of, dull, named}
use Rattle.ecma_interface_laws.proofs.Changed.{usual}
use Rattle.ecma_interface_laws.proofs.Looking.{is_dull, is_told, matters}
use Rattle.ecma_interface_laws.proofs.Telling.{alike_interfaces}
use Rattle.ecma_print_interface.specs.Laws.{ParenthesesKeepInterfaces}

-- a spot in which neither an object nor a function or a class stands in parentheses
abbrev IsCalm : Spot → Type 0
IsCalm spot = Fits spot × (opens_a_block spot.begins ≡ false) × (opens_a_declaration spot.begins ≡ false)

-- nothing that interfaces look at stands in parentheses there
stands_open : (k : Kind) (children : List Laid) (spot : Spot) → IsCalm spot → is_dull k ≡ false → in_parentheses k children spot ≡ false
unfolding is_dull is_told
stands_open kind.ObjectLit children spot calm h = ap₂ (λ a b. a || b) calm.0 calm.1
stands_open kind.FnExpr children spot calm h = ap₂ (λ a b. a || b) calm.0 calm.2
stands_open kind.ClassExpr children spot calm h = ap₂ (λ a b. a || b) calm.0 calm.2
stands_open kind.SeqExpr children spot calm h = cc
stands_open (kind.AssignExpr op) children spot calm h = cc
stands_open (kind.ArrowExpr is_async is_generator) children spot calm h = cc
stands_open (kind.YieldExpr delegate) children spot calm h = cc
stands_open kind.CondExpr children spot calm h = cc
stands_open (kind.BinExpr op) children spot calm h = cc
stands_open (kind.UnaryExpr op) children spot calm h = cc
stands_open kind.AwaitExpr children spot calm h = cc
stands_open (kind.UpdateExpr op prefix) children spot calm h = cc
stands_open kind.CallExpr children spot calm h = cc
stands_open (kind.OptChainExpr optional) children spot calm h = cc
stands_open kind.NewExpr children spot calm h = cc
stands_open (kind.Number value raw) children spot calm h = cc
stands_open _ children spot calm h = ap (λ b. b || false) calm.0

-- ---- the spots of children

abbrev CalmSpots : (ℕ → Bool) → List Spot → Type 0
CalmSpots m [] = Unit {0}
CalmSpots m (spot ∷ spots) = (m 0 ≡ true → IsCalm spot) × CalmSpots (λ i. m (suc i)) spots

free_calm : (level : ℕ) → ltb 17 level ≡ false → IsCalm (free level)
free_calm level h = (h, refl, refl)

first_calm : (k : Kind) (children : List Laid) (spot : Spot) → IsCalm spot → is_told k ≡ true → CalmSpots (matters k) (first_spots k children spot)
unfolding is_told matters
first_calm kind.SpreadElement children spot calm t = ((λ e. free_calm 1 refl), tt)
first_calm kind.ObjectLit children spot calm t = ((λ e. free_calm 1 refl), tt)
first_calm (kind.VarDecl sort declare) children spot calm t = ((λ e. (refl, refl, refl)), tt)
first_calm (kind.VarDeclarator definite) children spot calm t = ((λ e. free_calm 1 refl), ((λ e. (refl, refl, refl)), tt))
first_calm kind.ExportDefaultExpr children spot calm t = ((λ e. absurd (cc)), tt)
first_calm (kind.UnaryExpr op) children spot calm t = cc
first_calm (kind.UpdateExpr op prefix) children spot calm t = cc
first_calm (kind.BinExpr op) children spot calm t = cc
first_calm (kind.AssignExpr op) children spot calm t = cc
first_calm kind.CondExpr children spot calm t = cc
first_calm kind.SeqExpr children spot calm t = cc
first_calm (kind.YieldExpr delegate) children spot calm t = cc
first_calm kind.AwaitExpr children spot calm t = cc
first_calm kind.MemberExpr children spot calm t = cc
first_calm kind.CallExpr children spot calm t = cc
first_calm kind.OptCall children spot calm t = cc
first_calm kind.NewExpr children spot calm t = cc
first_calm (kind.OptChainExpr optional) children spot calm t = cc
first_calm kind.TaggedTpl children spot calm t = cc
first_calm kind.ArrayLit children spot calm t = cc
first_calm (kind.ArrowExpr is_async is_generator) children spot calm t = cc
first_calm (kind.Class is_abstract) children spot calm t = cc
first_calm kind.ComputedPropName children spot calm t = cc
first_calm kind.ExprStmt children spot calm t = cc
first_calm kind.CatchClause children spot calm t = cc
first_calm kind.ForStmt children spot calm t = cc
first_calm kind.ForInStmt children spot calm t = cc
first_calm (kind.ForOfStmt is_await) children spot calm t = cc
first_calm _ children spot calm t = tt

further_calm : (k : Kind) (spot : Spot) → IsCalm spot → IsCalm (further_spot k spot)
further_calm kind.List spot calm = calm
further_calm _ spot calm = (refl, refl, refl)

-- ---- the tree

abbrev Stands : Node → Node → Type 0
Stands a b = (spot : Spot) × IsCalm spot × ((stood a).at spot ≡ b)

all_stand : (m : ℕ → Bool) (ns : List Node) (spots : List Spot) (further : Spot) → CalmSpots m spots → IsCalm further → Related Stands m ns (in_spots (map stood ns) spots further)
all_stand m [] spots further calm rest = tt
all_stand m (n ∷ ns) [] further calm rest = ((λ e. (further, rest, refl)), all_stand (λ i. m (suc i)) ns [] further tt rest)
all_stand m (n ∷ ns) (spot ∷ spots) further calm rest = ((λ e. (spot, calm.0 e, refl)), all_stand (λ i. m (suc i)) ns spots further calm.1 rest)

none_stand : (ns : List Node) (spots : List Spot) (further : Spot) → ns ≡ [] → in_spots (map stood ns) spots further ≡ []
none_stand [] spots further e = refl
none_stand (n ∷ ns) spots further e = cc

round_dull : is_dull kind.ParenExpr ≡ true
unfolding is_dull is_told
round_dull = refl

module _ (text : Id → List ℕ) where
  abbrev StepTo : Kind → List Node → Node → Type 0
  StepTo k ns b = Step text text Stands k (kind_of b) ns (children_of b)

  to_parts : (k : Kind) (ns : List Node) (span : Span) (l : Kind) (ms : List Node) → Step text text Stands k l ns ms → StepTo k ns (node_of span l ms)
  to_parts k ns span l ms s = subst (λ (z : Node-F Node). Step text text Stands k z.kind ns z.children) (sym (out-roll-Node (record { span = span; kind = l; children = ms }))) s

  kind_step : (k : Kind) (ns ms : List Node) → (ns ≡ [] → ms ≡ []) → (is_told k ≡ true → Related Stands (matters k) ns ms) → Step text text Stands k k ns ms
  kind_step (kind.Ident s c o) ns ms n r = named refl n
  kind_step k ns ms n r = usual text text Stands k refl r

  bare_step : (span : Span) (k : Kind) (ns : List Node) (spot : Spot) → IsCalm spot → StepTo k ns (bare' span k ns spot)
  bare_step span k ns spot calm =
      to_parts k ns span k (spotted k ns spot)
      (kind_step k ns (spotted k ns spot) (none_stand ns (first_spots k (map laid ns) spot) (further_spot k spot))
      (λ t. all_stand (matters k) ns (first_spots k (map laid ns) spot) (further_spot k spot) (first_calm k (map laid ns) spot calm t) (further_calm k spot calm)))

  -- in parentheses or not, what is dull is
  dull_step : (span : Span) (k : Kind) (ns : List Node) (spot : Spot) → IsCalm spot → is_dull k ≡ true → (b : Bool)
      → StepTo k ns (if b then parenthesized (bare' span k ns (free 0)) else bare' span k ns spot)
  dull_step span k ns spot calm h true = to_parts k ns dummy_span kind.ParenExpr (bare' span k ns (free 0) ∷ []) (dull h round_dull)
  dull_step span k ns spot calm h false = bare_step span k ns spot calm

  node_step : (span : Span) (k : Kind) (ns : List Node) (spot : Spot) → IsCalm spot → (d : Bool) → is_dull k ≡ d → StepTo k ns (standing' span k ns spot)
  node_step span k ns spot calm true h = dull_step span k ns spot calm h (in_parentheses k (map laid ns) spot)
  node_step span k ns spot calm false h =
      subst (λ b. StepTo k ns (if b then parenthesized (bare' span k ns (free 0)) else bare' span k ns spot)) (sym (stands_open k (map laid ns) spot calm h)) (bare_step span k ns spot calm)

  alike : (a b : Node) → Stands a b → Alike text text Stands a b
  alike a b (spot, calm, is) =
      let x = out-Node a in
      let stands : (stood a).at spot ≡ standing' x.span x.kind x.children spot = ap (λ n. (stood n).at spot) (sym (roll-out-Node a)) ∙ stands_in x.span x.kind x.children spot in
      subst (λ (z : Node). Alike text text Stands a z) is
      (subst (λ (z : Node). StepTo x.kind x.children z) (sym stands) (node_step x.span x.kind x.children spot calm (is_dull x.kind) refl))

pub parentheses_keep : ParenthesesKeepInterfaces
parentheses_keep text tree sorted = alike_interfaces text text Stands (alike text) tree (explicit tree) sorted (free 0, free_calm 0 refl, refl)
