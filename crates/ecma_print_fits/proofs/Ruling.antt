-- Explicit parentheses keep the context rules on lists, members and statements.
use Rattle.std.proofs.Common.{◌≡◌, ◌∙◌, ◌||◌, ◌&&◌, not, codes, ℕ, zero, suc, Bool, true, false, List, [], ◌∷◌, length, replicate, map, refl, sym, ap, ap₂, slice_get}
use Rattle.std.specs.List.{list_any}
use Rattle.ecma_kind.specs.Sorts.{belongs}
use Rattle.ecma_kind.specs.declared.span.Span.{Span}
use Rattle.ecma_kind.specs.declared.kind.Kind.{Kind}
use Rattle.ecma_kind.specs.declared.kind.Kind.TheVariants as kind
use Rattle.ecma_kind.specs.declared.operators.MethodKind.{MethodKind}
use Rattle.ecma_kind.specs.declared.operators.MethodKind.TheVariants.{Method, Getter, Setter}
use Rattle.ecma_kind.specs.declared.shapes.Shape.{Shape}
use Rattle.ecma_kind.specs.declared.shapes.Sort.{Sort}
use Rattle.ecma_kind.specs.declared.shapes.Sort.TheVariants as sort
use Rattle.ecma_tree.specs.declared.node.Node.{Node, Node-F, out-Node, roll-Node}
use Rattle.ecma_tree.specs.declared.node.Node.TheViews.{out-roll-Node}
use Rattle.ecma_tree.specs.Laws.{HaveShapes}
use Rattle.ecma_tree.specs.Nodes.{dummy_span, node_of}
use Rattle.ecma_tree.specs.Sorted.{HasShape, child_shapes, many, one}
use Rattle.ecma_rules.specs.declared.standing.Around.{Around}
use Rattle.ecma_rules.specs.declared.standing.Standing.{Standing}
use Rattle.ecma_rules.specs.declared.target.Target.{Target}
use Rattle.ecma_rules.specs.Children.{children_of as items_of, holds_of, is_named, is_present, items_at, kind_of, of_kind}
use Rattle.ecma_rules.specs.Lists.{is_head, is_item, is_one_without_value, is_rest, is_rest_pattern}
use Rattle.ecma_rules.specs.Members.{behind_first, fits_kind, is_binding_name, is_constructor_key, is_declaring, is_empty_list, is_method, is_misfit, is_named_pattern, is_one_parameter, is_plain_parameter, is_property_kind, is_special_by, is_special_constructor, is_special_function, is_this_by, is_this_parameter, is_this_pattern, misfits_by, misplaces_this, misplaces_this_by, takes_not_one, takes_one, has_body}
use Rattle.ecma_rules.specs.Statements.{is_body, is_declaration, is_exported, is_text}
use Rattle.ecma_rules.specs.Targets.{is_variables}
use Rattle.ecma_print.specs.declared.place.Beside.TheVariants.{NoNeighbor}
use Rattle.ecma_print.specs.declared.place.Spot.{Spot}
use Rattle.ecma_print.specs.Places.{free, right}
use Rattle.ecma_print.specs.Laid.{Laid}
use Rattle.ecma_print.specs.Explicit.{laid_children, parenthesized, stood}
use Rattle.ecma_print.specs.Spots.{first_spots, further_spot}
use Rattle.ecma_print_parentheses.proofs.Asking.{AllFit, Fits, first_fit, further_fits}
use Rattle.ecma_fits.specs.declared.unfit.Where.{Where}
use Rattle.ecma_fits.specs.Fitting.{at_top, breaks_rule, where_in}
use Rattle.ecma_print_fits.specs.Laws.{ExplicitRulesStay}
use Rattle.ecma_print_fits.proofs.Parts.{kind_made, neither, not_true, shape_allows, shape_made}
use Rattle.ecma_print_fits.proofs.Tests.{items_have, shape_parts}
use Rattle.ecma_print_fits.proofs.Explicit.{IsKept, kept_at, kind_at, kind_kept, spotted}
use Rattle.ecma_print_fits.proofs.Branching.{function_opens, key_opens, present_kept}
use Rattle.ecma_print_fits.proofs.Holding.{closes}
use Rattle.ecma_print_fits.proofs.Opening.{NoneClose, children_in, holds_in, is_in, items_in, kinds_kept, test_kept}
use Rattle.ecma_print_fits.proofs.Targeting.{names_open}
use Rattle.ecma_print_fits.proofs.Walking.{kept}
use Rattle.ecma_print_fits.proofs.Aiming.{Known, and_none, known_below, where_around, where_stays}

-- the rules, by the kind and the children of a node

abbrev head_by : Target → Kind → List Node → Bool
head_by t k ns = (is_head t && is_variables k) && not (is_one_without_value (items_of (slice_get ns 0)))

abbrev property_by : Standing → Kind → List Node → Bool
property_by s k ns = is_property_kind k && not (is_declaring s && holds_of is_plain_parameter (slice_get ns 0))

abbrev misfit_by : Kind → List Node → Bool
misfit_by kind.AssignPat ns = of_kind is_rest_pattern (slice_get ns 0)
misfit_by kind.GetterProp ns = of_kind is_present (slice_get ns 3) || not (of_kind is_present (slice_get ns 2))
misfit_by kind.SetterProp ns = of_kind takes_not_one (slice_get ns 2) || not (of_kind is_present (slice_get ns 3))
misfit_by kind.MethodProp ns = not (holds_of has_body (slice_get ns 1))
misfit_by (kind.ClassMethod k modifiers) ns = not (holds_of (fits_kind k) (slice_get ns 1))
misfit_by (kind.PrivateMethod k modifiers) ns = not (holds_of (fits_kind k) (slice_get ns 1))
misfit_by _ ns = false

abbrev special_by : Kind → List Node → Bool
special_by (kind.ClassMethod k modifiers) ns = not modifiers.is_static && (of_kind is_constructor_key (slice_get ns 0) && (not (is_method k) || of_kind is_special_function (slice_get ns 1)))
special_by _ ns = false

abbrev receiver_by : Kind → List Node → Bool
receiver_by (kind.Function is_generator is_async) ns = list_any is_this_parameter (behind_first (items_of (slice_get ns 0)))
receiver_by (kind.ArrowExpr is_async is_generator) ns = list_any is_this_pattern (items_of (slice_get ns 0))
receiver_by (kind.Constructor accessibility is_optional) ns = list_any is_this_parameter (items_of (slice_get ns 1))
receiver_by kind.SetterProp ns = holds_of is_this_pattern (slice_get ns 2)
receiver_by _ ns = false

abbrev rule_of : Around → Kind → Bool → Bool → Bool → Bool → Bool → Bool
rule_of a k head property misfit special receiver =
    (head || (is_rest a.target k && not a.is_last)) || ((property || (misfit || (special || receiver))) || ((is_exported a.standing && is_text k) || (is_body a.standing && is_declaration k)))

abbrev rule_by : Around → Kind → List Node → Bool
rule_by a k ns = rule_of a k (head_by a.target k ns) (property_by a.standing k ns) (misfit_by k ns) (special_by k ns) (receiver_by k ns)

misfit_made : (x : Node-F Node) → is_misfit (roll-Node x) ≡ misfit_by x.kind x.children
unfolding misfits_by
misfit_made x = ap (λ k. misfits_by k (roll-Node x)) (kind_made x) ∙ by x.kind
  where
    by : (k : Kind) → misfits_by k (roll-Node x) ≡ misfit_by k x.children
    by kind.AssignPat = ap (λ (p : Node-F Node). misfit_by kind.AssignPat p.children) (out-roll-Node x)
    by kind.GetterProp = ap (λ (p : Node-F Node). misfit_by kind.GetterProp p.children) (out-roll-Node x)
    by kind.SetterProp = ap (λ (p : Node-F Node). misfit_by kind.SetterProp p.children) (out-roll-Node x)
    by kind.MethodProp = ap (λ (p : Node-F Node). misfit_by kind.MethodProp p.children) (out-roll-Node x)
    by (kind.ClassMethod k modifiers) = ap (λ (p : Node-F Node). misfit_by (kind.ClassMethod k modifiers) p.children) (out-roll-Node x)
    by (kind.PrivateMethod k modifiers) = ap (λ (p : Node-F Node). misfit_by (kind.PrivateMethod k modifiers) p.children) (out-roll-Node x)
    by _ = refl

special_made : (x : Node-F Node) → is_special_constructor (roll-Node x) ≡ special_by x.kind x.children
special_made x = ap (λ k. is_special_by k (roll-Node x)) (kind_made x) ∙ by x.kind
  where
    by : (k : Kind) → is_special_by k (roll-Node x) ≡ special_by k x.children
    by (kind.ClassMethod k modifiers) = ap (λ (p : Node-F Node). special_by (kind.ClassMethod k modifiers) p.children) (out-roll-Node x)
    by _ = refl

receiver_made : (x : Node-F Node) → misplaces_this (roll-Node x) ≡ receiver_by x.kind x.children
unfolding misplaces_this_by
receiver_made x = ap (λ k. misplaces_this_by k (roll-Node x)) (kind_made x) ∙ by x.kind
  where
    by : (k : Kind) → misplaces_this_by k (roll-Node x) ≡ receiver_by k x.children
    by (kind.Function is_generator is_async) = ap (λ (p : Node-F Node). receiver_by (kind.Function is_generator is_async) p.children) (out-roll-Node x)
    by (kind.ArrowExpr is_async is_generator) = ap (λ (p : Node-F Node). receiver_by (kind.ArrowExpr is_async is_generator) p.children) (out-roll-Node x)
    by (kind.Constructor accessibility is_optional) = ap (λ (p : Node-F Node). receiver_by (kind.Constructor accessibility is_optional) p.children) (out-roll-Node x)
    by kind.SetterProp = ap (λ (p : Node-F Node). receiver_by kind.SetterProp p.children) (out-roll-Node x)
    by _ = refl

rule_made : (w : Where) (x : Node-F Node) → breaks_rule w (roll-Node x) ≡ rule_by w.around x.kind x.children
rule_made w x =
    ap (λ (p : Node-F Node). rule_of w.around p.kind (head_by w.around.target p.kind p.children) (property_by w.around.standing p.kind p.children) (is_misfit (roll-Node x)) (is_special_constructor (roll-Node x)) (misplaces_this (roll-Node x))) (out-roll-Node x)
    ∙ (ap₂ (λ misfit special. rule_of w.around x.kind (head_by w.around.target x.kind x.children) (property_by w.around.standing x.kind x.children) misfit special (misplaces_this (roll-Node x))) (misfit_made x) (special_made x)
    ∙ ap (rule_of w.around x.kind (head_by w.around.target x.kind x.children) (property_by w.around.standing x.kind x.children) (misfit_by x.kind x.children) (special_by x.kind x.children)) (receiver_made x))

-- a node that breaks none has no parameter `this` where it may have none
no_receiver : (a : Around) (k : Kind) (ns : List Node) → rule_by a k ns ≡ false → receiver_by k ns ≡ false
no_receiver a k ns h =
    let member = property_by a.standing k ns || (misfit_by k ns || (special_by k ns || receiver_by k ns)) in
    let outer = neither (head_by a.target k ns || (is_rest a.target k && not a.is_last)) (member || ((is_exported a.standing && is_text k) || (is_body a.standing && is_declaration k))) h in
    let inner = neither member ((is_exported a.standing && is_text k) || (is_body a.standing && is_declaration k)) outer.1 in
    let more = neither (property_by a.standing k ns) (misfit_by k ns || (special_by k ns || receiver_by k ns)) inner.0 in
    (neither (special_by k ns) (receiver_by k ns) (neither (misfit_by k ns) (special_by k ns || receiver_by k ns) more.1).1).1

-- what may stand in parentheses breaks none of them

quiet : (head item exported body one last : Bool) → ((((head && false) && one) || ((item && false) && last)) || ((exported && false) || (body && false))) ≡ false
quiet head item exported body one last =
    ap₂ (λ a b. a || b) (ap₂ (λ a b. (a && one) || (b && last)) (and_none head) (and_none item)) (ap₂ (λ a b. a || b) (and_none exported) (and_none body))

parentheses_silent : (a : Around) (ns : List Node) → rule_by a kind.ParenExpr ns ≡ false
unfolding is_declaration
parentheses_silent a ns = quiet (is_head a.target) (is_item a.target) (is_exported a.standing) (is_body a.standing) (not (is_one_without_value (items_of (slice_get ns 0)))) (not a.is_last)

silent : (a : Around) (k : Kind) (ns : List Node) → closes k ≡ true → receiver_by k ns ≡ false → rule_by a k ns ≡ false
unfolding is_declaration
silent a kind.SeqExpr ns h e = parentheses_silent a ns
silent a (kind.AssignExpr op) ns h e = parentheses_silent a ns
silent a (kind.ArrowExpr is_async is_generator) ns h e =
    let k = kind.ArrowExpr is_async is_generator in
    ap (rule_of a k (head_by a.target k ns) (property_by a.standing k ns) false false) e ∙ parentheses_silent a ns
silent a (kind.YieldExpr delegate) ns h e = parentheses_silent a ns
silent a kind.CondExpr ns h e = parentheses_silent a ns
silent a (kind.BinExpr op) ns h e = parentheses_silent a ns
silent a (kind.UnaryExpr op) ns h e = parentheses_silent a ns
silent a kind.AwaitExpr ns h e = parentheses_silent a ns
silent a (kind.UpdateExpr op prefix) ns h e = parentheses_silent a ns
silent a kind.CallExpr ns h e = parentheses_silent a ns
silent a (kind.OptChainExpr optional) ns h e = parentheses_silent a ns
silent a kind.NewExpr ns h e = parentheses_silent a ns
silent a (kind.Number value raw) ns h e = parentheses_silent a ns
silent a kind.ObjectLit ns h e = parentheses_silent a ns
silent a kind.FnExpr ns h e = parentheses_silent a ns
silent a kind.ClassExpr ns h e = parentheses_silent a ns
silent a _ ns h e = not_true h

-- declarators

declarator_opens : (k : Kind) → belongs sort.VarDeclarator k ≡ true → closes k ≡ false
declarator_opens (kind.VarDeclarator definite) h = refl
declarator_opens _ h = not_true h

one_declarator : (ds : List Node) (n : ℕ) (spot : Spot) → Fits spot → HaveShapes (replicate n (one sort.VarDeclarator)) ds → is_one_without_value (spotted ds [] spot) ≡ is_one_without_value ds
one_declarator [] n spot fits have = refl
one_declarator (d ∷ []) zero spot fits have = absurd have
one_declarator (d ∷ []) (suc n) spot fits have = ap not (is_in is_present present_kept d spot fits (declarator_opens (kind_of d) (shape_allows d (one sort.VarDeclarator) have.0)) 1)
one_declarator (d ∷ e ∷ ds) n spot fits have = refl

no_head : (head a b : Bool) → ((head && false) && a) ≡ ((head && false) && b)
no_head head a b = ap (λ z. z && a) (and_none head) ∙ sym (ap (λ z. z && b) (and_none head))

head_here : (t : Target) (k : Kind) (ns : List Node) (ls : List Laid) (spot : Spot) (o : Shape) (n : ℕ) → HaveShapes (child_shapes k o n) ns → head_by t k (spotted ns (first_spots k ls spot) (further_spot k spot)) ≡ head_by t k ns
head_here t (kind.VarDecl keyword declare) [] ls spot o n have = absurd have
head_here t (kind.VarDecl keyword declare) (a ∷ ns) ls spot o n have =
    let s = right spot 1 NoNeighbor in
    let l = shape_allows a (many sort.VarDeclarator) have.0 in
    ap (λ b. (is_head t && true) && not b)
    (ap is_one_without_value (items_in a s refl l) ∙ one_declarator (out-Node a).children (length (out-Node a).children) s refl (items_have a (many sort.VarDeclarator) l (shape_parts a (many sort.VarDeclarator) have.0).1))
head_here t k ns ls spot o n have = no_head (is_head t) (not (is_one_without_value (items_of (slice_get (spotted ns (first_spots k ls spot) (further_spot k spot)) 0)))) (not (is_one_without_value (items_of (slice_get ns 0))))

-- plain parameters, and `this`

binding_open : NoneClose is_binding_name
binding_open kind.BindingIdent h = refl
binding_open _ h = not_true h

abbrev plain : Kind → List Node → Bool
plain kind.BindingIdent ns = true
plain kind.AssignPat ns = of_kind is_binding_name (slice_get ns 0)
plain _ ns = false

plain_made : (x : Node-F Node) → is_plain_parameter (roll-Node x) ≡ plain x.kind x.children
plain_made x = ap (λ k. is_named_pattern k (roll-Node x)) (kind_made x) ∙ by x.kind
  where
    by : (k : Kind) → is_named_pattern k (roll-Node x) ≡ plain k x.children
    by kind.BindingIdent = refl
    by kind.AssignPat = ap (λ (p : Node-F Node). of_kind is_binding_name (slice_get p.children 0)) (out-roll-Node x)
    by _ = refl

plain_closing : (k : Kind) (ns : List Node) → closes k ≡ true → plain k ns ≡ false
plain_closing kind.BindingIdent ns h = not_true h
plain_closing kind.AssignPat ns h = not_true h
plain_closing _ ns h = refl

plain_here : (k : Kind) (ns : List Node) (spots : List Spot) (further : Spot) → AllFit spots → Fits further → plain k (spotted ns spots further) ≡ plain k ns
plain_here kind.BindingIdent ns spots further fit fits = refl
plain_here kind.AssignPat ns spots further fit fits = kind_at is_binding_name (kinds_kept is_binding_name refl binding_open) ns spots further fit fits 0
plain_here _ ns spots further fit fits = refl

plain_parameters : IsKept is_plain_parameter
plain_parameters = test_kept is_plain_parameter plain plain_made (λ n. plain_made (record { span = dummy_span; kind = kind.ParenExpr; children = n ∷ [] })) plain_closing plain_here

abbrev this_is : List Node → Bool
this_is ns = of_kind (is_named (codes "this")) (slice_get ns 0)

abbrev this_by : Kind → List Node → Bool
this_by kind.BindingIdent ns = this_is ns
this_by _ ns = false

this_made : (x : Node-F Node) → is_this_pattern (roll-Node x) ≡ this_by x.kind x.children
this_made x = ap (λ k. is_this_by k (roll-Node x)) (kind_made x) ∙ by x.kind
  where
    by : (k : Kind) → is_this_by k (roll-Node x) ≡ this_by k x.children
    by kind.BindingIdent = ap (λ (p : Node-F Node). this_is p.children) (out-roll-Node x)
    by _ = refl

this_closing : (k : Kind) (ns : List Node) → closes k ≡ true → this_by k ns ≡ false
this_closing kind.BindingIdent ns h = not_true h
this_closing _ ns h = refl

this_here : (k : Kind) (ns : List Node) (spots : List Spot) (further : Spot) → AllFit spots → Fits further → this_by k (spotted ns spots further) ≡ this_by k ns
this_here kind.BindingIdent ns spots further fit fits = kind_at (is_named (codes "this")) (kinds_kept (is_named (codes "this")) refl (names_open (codes "this"))) ns spots further fit fits 0
this_here _ ns spots further fit fits = refl

this_patterns : IsKept is_this_pattern
this_patterns = test_kept is_this_pattern this_by this_made (λ n. this_made (record { span = dummy_span; kind = kind.ParenExpr; children = n ∷ [] })) this_closing this_here

-- the parameters of a function

param_opens : (k : Kind) → belongs sort.Param k ≡ true → closes k ≡ false
param_opens kind.Param h = refl
param_opens _ h = not_true h

this_parameter : (n : Node) (spot : Spot) → Fits spot → HasShape (one sort.Param) n → is_this_parameter ((stood n).at spot) ≡ is_this_parameter n
this_parameter n spot fits h = holds_in is_this_pattern this_patterns n spot fits (param_opens (kind_of n) (shape_allows n (one sort.Param) h)) 0

rests_open : NoneClose is_rest_pattern
rests_open kind.RestPat h = refl
rests_open _ h = not_true h

takes_one_stays : (n : Node) (spot : Spot) → Fits spot → HasShape (one sort.Param) n → takes_one ((stood n).at spot) ≡ takes_one n
takes_one_stays n spot fits h =
    ap₂ (λ a b. not a && not b) (this_parameter n spot fits h)
    (is_in is_rest_pattern (kinds_kept is_rest_pattern refl rests_open) n spot fits (param_opens (kind_of n) (shape_allows n (one sort.Param) h)) 0)

one_parameter : (ns : List Node) (k : ℕ) (spot : Spot) → Fits spot → HaveShapes (replicate k (one sort.Param)) ns → is_one_parameter (spotted ns [] spot) ≡ is_one_parameter ns
one_parameter [] k spot fits have = refl
one_parameter (n ∷ ns) zero spot fits have = absurd have
one_parameter (n ∷ []) (suc k) spot fits have = takes_one_stays n spot fits have.0
one_parameter (n ∷ m ∷ []) (suc zero) spot fits have = absurd have.1
one_parameter (n ∷ m ∷ []) (suc (suc k)) spot fits have = ap₂ (λ a b. a && b) (this_parameter n spot fits have.0) (takes_one_stays m spot fits have.1.0)
one_parameter (n ∷ m ∷ l ∷ ns) (suc k) spot fits have = refl

-- a node of such a sort is in no parentheses
abbrev SortOpens : Sort → Type 0
SortOpens σ = (k : Kind) → belongs σ k ≡ true → closes k ≡ false

constructor_param_opens : SortOpens sort.ParamOrTsParamProp
constructor_param_opens kind.Param h = refl
constructor_param_opens (kind.TsParamProp accessibility is_override readonly) h = refl
constructor_param_opens _ h = not_true h

any_parameter : (σ : Sort) → SortOpens σ → (ns : List Node) (k : ℕ) (spot : Spot) → Fits spot → HaveShapes (replicate k (one σ)) ns → list_any is_this_parameter (spotted ns [] spot) ≡ list_any is_this_parameter ns
any_parameter σ opens [] k spot fits have = refl
any_parameter σ opens (n ∷ ns) zero spot fits have = absurd have
any_parameter σ opens (n ∷ ns) (suc k) spot fits have =
    ap₂ (λ a b. a || b) (holds_in is_this_pattern this_patterns n spot fits (opens (kind_of n) (shape_allows n (one σ) have.0)) 0) (any_parameter σ opens ns k spot fits have.1)

any_further : (ns : List Node) (k : ℕ) (spot : Spot) → Fits spot → HaveShapes (replicate k (one sort.Param)) ns → list_any is_this_parameter (behind_first (spotted ns [] spot)) ≡ list_any is_this_parameter (behind_first ns)
any_further [] k spot fits have = refl
any_further (n ∷ ns) zero spot fits have = absurd have
any_further (n ∷ ns) (suc k) spot fits have = any_parameter sort.Param param_opens ns k spot fits have.1

any_pattern : (ns : List Node) (spot : Spot) → Fits spot → list_any is_this_pattern (spotted ns [] spot) ≡ list_any is_this_pattern ns
any_pattern [] spot fits = refl
any_pattern (n ∷ ns) spot fits = ap₂ (λ a b. a || b) (this_patterns n spot fits) (any_pattern ns spot fits)

-- the parameters in a list, by its shape
listed_have : (σ : Sort) (p : Node) → HasShape (many σ) p → HaveShapes (replicate (length (out-Node p).children) (one σ)) (out-Node p).children
listed_have σ p h = items_have p (many σ) (shape_allows p (many σ) h) (shape_parts p (many σ) h).1

receiver_here : (k : Kind) (ns : List Node) (ls : List Laid) (spot : Spot) (o : Shape) (n : ℕ) → HaveShapes (child_shapes k o n) ns → receiver_by k (spotted ns (first_spots k ls spot) (further_spot k spot)) ≡ receiver_by k ns
receiver_here (kind.Function is_generator is_async) [] ls spot o n have = absurd have
receiver_here (kind.Function is_generator is_async) (p ∷ ns) ls spot o n have =
    ap (λ (z : List Node). list_any is_this_parameter (behind_first z)) (items_in p (free 1) refl (shape_allows p (many sort.Param) have.0))
    ∙ any_further (out-Node p).children (length (out-Node p).children) (free 1) refl (listed_have sort.Param p have.0)
receiver_here (kind.ArrowExpr is_async is_generator) [] ls spot o n have = absurd have
receiver_here (kind.ArrowExpr is_async is_generator) (p ∷ ns) ls spot o n have =
    ap (list_any is_this_pattern) (items_in p (free 1) refl (shape_allows p (many sort.Pat) have.0)) ∙ any_pattern (out-Node p).children (free 1) refl
receiver_here (kind.Constructor accessibility is_optional) [] ls spot o n have = absurd have
receiver_here (kind.Constructor accessibility is_optional) (a ∷ []) ls spot o n have = absurd have.1
receiver_here (kind.Constructor accessibility is_optional) (a ∷ p ∷ ns) ls spot o n have =
    ap (list_any is_this_parameter) (items_in p (free 1) refl (shape_allows p (many sort.ParamOrTsParamProp) have.1.0))
    ∙ any_parameter sort.ParamOrTsParamProp constructor_param_opens (out-Node p).children (length (out-Node p).children) (free 1) refl (listed_have sort.ParamOrTsParamProp p have.1.0)
receiver_here kind.SetterProp ns ls spot o n have = kept_at is_this_pattern this_patterns ns [] (free 1) tt refl 2
receiver_here _ ns ls spot o n have = refl

empty_here : (ns : List Node) (spot : Spot) → is_empty_list (spotted ns [] spot) ≡ is_empty_list ns
empty_here [] spot = refl
empty_here (n ∷ ns) spot = refl

function_opens_there : (k : Kind) → belongs sort.Function k ≡ true → closes k ≡ false
function_opens_there (kind.Function is_generator is_async) h = refl
function_opens_there _ h = not_true h

-- a test of the parameters of a function
module _ (test : List Node → Bool) (stays : (ns : List Node) (k : ℕ) → HaveShapes (replicate k (one sort.Param)) ns → test (spotted ns [] (free 1)) ≡ test ns) where
  parameters_by : (k : Kind) (ns : List Node) (ls : List Laid) (spot : Spot) (n : ℕ) → belongs sort.Function k ≡ true → HaveShapes (child_shapes k (one sort.Function) n) ns
      → test (items_of (slice_get (spotted ns (first_spots k ls spot) (further_spot k spot)) 0)) ≡ test (items_of (slice_get ns 0))
  parameters_by (kind.Function is_generator is_async) [] ls spot n b have = absurd have
  parameters_by (kind.Function is_generator is_async) (p ∷ ns) ls spot n b have =
      let l = shape_allows p (many sort.Param) have.0 in
      ap test (items_in p (free 1) refl l) ∙ stays (out-Node p).children (length (out-Node p).children) (items_have p (many sort.Param) l (shape_parts p (many sort.Param) have.0).1)
  parameters_by _ ns ls spot n b have = not_true b

  parameters_here : (f : Node) (spot : Spot) → Fits spot → HasShape (one sort.Function) f → test (items_at ((stood f).at spot) 0) ≡ test (items_at f 0)
  parameters_here f spot fits h =
      let x = out-Node f in
      let t = shape_parts f (one sort.Function) h in
      ap (λ (z : List Node). test (items_of (slice_get z 0))) (children_in f spot fits (function_opens_there x.kind t.0))
      ∙ parameters_by x.kind x.children (laid_children (map stood x.children)) spot (length x.children) t.0 t.1

fits_here : (k : MethodKind) (f : Node) (spot : Spot) → Fits spot → HasShape (one sort.Function) f → fits_kind k ((stood f).at spot) ≡ fits_kind k f
fits_here Method f spot fits h = refl
fits_here Getter f spot fits h = parameters_here is_empty_list (λ ns k have. empty_here ns (free 1)) f spot fits h
fits_here Setter f spot fits h = parameters_here is_one_parameter (λ ns k have. one_parameter ns k (free 1) refl have) f spot fits h

-- a function keeps its body
body_by : (k : Kind) (ns : List Node) (ls : List Laid) (spot : Spot) → belongs sort.Function k ≡ true → of_kind is_present (slice_get (spotted ns (first_spots k ls spot) (further_spot k spot)) 1) ≡ of_kind is_present (slice_get ns 1)
body_by (kind.Function is_generator is_async) ns ls spot b = kind_at is_present present_kept ns [] (free 1) tt refl 1
body_by _ ns ls spot b = not_true b

body_here : (f : Node) (spot : Spot) → Fits spot → HasShape (one sort.Function) f → has_body ((stood f).at spot) ≡ has_body f
body_here f spot fits h =
    let x = out-Node f in
    let t = shape_parts f (one sort.Function) h in
    ap (λ (z : List Node). of_kind is_present (slice_get z 1)) (children_in f spot fits (function_opens_there x.kind t.0))
    ∙ body_by x.kind x.children (laid_children (map stood x.children)) spot t.0

takers_open : NoneClose takes_not_one
takers_open kind.List h = refl
takers_open kind.RestPat h = refl
takers_open _ h = not_true h

misfit_here : (k : Kind) (ns : List Node) (ls : List Laid) (spot : Spot) (o : Shape) (n : ℕ) → HaveShapes (child_shapes k o n) ns → misfit_by k (spotted ns (first_spots k ls spot) (further_spot k spot)) ≡ misfit_by k ns
misfit_here kind.AssignPat ns ls spot o n have = kind_at is_rest_pattern (kinds_kept is_rest_pattern refl rests_open) ns [] (free 1) tt refl 0
misfit_here kind.GetterProp ns ls spot o n have = ap₂ (λ a b. a || not b) (kind_at is_present present_kept ns [] (free 1) tt refl 3) (kind_at is_present present_kept ns [] (free 1) tt refl 2)
misfit_here kind.SetterProp ns ls spot o n have =
    ap₂ (λ a b. a || not b) (kind_at takes_not_one (kinds_kept takes_not_one refl takers_open) ns [] (free 1) tt refl 2) (kind_at is_present present_kept ns [] (free 1) tt refl 3)
misfit_here kind.MethodProp [] ls spot o n have = absurd have
misfit_here kind.MethodProp (a ∷ []) ls spot o n have = absurd have.1
misfit_here kind.MethodProp (a ∷ f ∷ ns) ls spot o n have = ap not (body_here f (free 1) refl have.1.0)
misfit_here (kind.ClassMethod k modifiers) [] ls spot o n have = absurd have
misfit_here (kind.ClassMethod k modifiers) (a ∷ []) ls spot o n have = absurd have.1
misfit_here (kind.ClassMethod k modifiers) (a ∷ f ∷ ns) ls spot o n have = ap not (fits_here k f (free 1) refl have.1.0)
misfit_here (kind.PrivateMethod k modifiers) [] ls spot o n have = absurd have
misfit_here (kind.PrivateMethod k modifiers) (a ∷ []) ls spot o n have = absurd have.1
misfit_here (kind.PrivateMethod k modifiers) (a ∷ f ∷ ns) ls spot o n have = ap not (fits_here k f (free 1) refl have.1.0)
misfit_here _ ns ls spot o n have = refl

special_here : (k : Kind) (ns : List Node) (spots : List Spot) (further : Spot) → AllFit spots → Fits further → special_by k (spotted ns spots further) ≡ special_by k ns
special_here (kind.ClassMethod k modifiers) ns spots further fit fits =
    ap₂ (λ a b. not modifiers.is_static && (a && (not (is_method k) || b))) (kind_at is_constructor_key (kind_kept is_constructor_key refl key_opens) ns spots further fit fits 0)
    (kind_at is_special_function (kind_kept is_special_function refl function_opens) ns spots further fit fits 1)
special_here _ ns spots further fit fits = refl

-- a node whose children stand in their spots
rule_here : (w : Where) (span : Span) (k : Kind) (ns : List Node) (ls : List Laid) (spot : Spot) (o : Shape) → Fits spot → HasShape o (node_of span k ns)
    → breaks_rule w (node_of span k (spotted ns (first_spots k ls spot) (further_spot k spot))) ≡ breaks_rule w (node_of span k ns)
rule_here w span k ns ls spot o fits h =
    let a = w.around in
    let spots = first_spots k ls spot in
    let further = further_spot k spot in
    let fit = first_fit k ls spot fits in
    let more = further_fits k spot fits in
    let there = spotted ns spots further in
    let have = (shape_made (record { span = span; kind = k; children = ns }) o h).1 in
    rule_made w (record { span = span; kind = k; children = there })
    ∙ (ap₂ (λ head property. rule_of a k head property (misfit_by k there) (special_by k there) (receiver_by k there)) (head_here a.target k ns ls spot o (length ns) have)
    (ap (λ b. is_property_kind k && not (is_declaring a.standing && b)) (kept_at is_plain_parameter plain_parameters ns spots further fit more 0))
    ∙ (ap₂ (λ misfit special. rule_of a k (head_by a.target k ns) (property_by a.standing k ns) misfit special (receiver_by k there)) (misfit_here k ns ls spot o (length ns) have) (special_here k ns spots further fit more)
    ∙ (ap (rule_of a k (head_by a.target k ns) (property_by a.standing k ns) (misfit_by k ns) (special_by k ns)) (receiver_here k ns ls spot o (length ns) have)
    ∙ sym (rule_made w (record { span = span; kind = k; children = ns })))))

pub rules_stay : ExplicitRulesStay
rules_stay tree sorted roles h =
    kept Where Known breaks_rule where_in known_below where_stays (λ w span k ns ls spot fits p e. rule_here w span k ns ls spot p.shape fits p.shaped ∙ e)
    (λ w n. rule_made w (record { span = dummy_span; kind = kind.ParenExpr; children = n ∷ [] }) ∙ parentheses_silent w.around (n ∷ [])) where_around
    (λ w x n c e. let v = where_in w (parenthesized n) 0 in rule_made v x ∙ silent v.around x.kind x.children c (no_receiver w.around x.kind x.children (sym (rule_made w x) ∙ e))) tree at_top
    (record { shape = one sort.Module; shaped = sorted; role = roles; aim = refl }) h (free 0) refl

pub ruleset rules_kept = (rules_stay)
