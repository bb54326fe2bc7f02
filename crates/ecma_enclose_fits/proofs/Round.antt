-- What gets parentheses, and the parentheses, fit by their kind where their role allows it.
use Rattle.std.proofs.Common.{◌≡◌, ◌∙◌, ℕ, zero, suc, Bool, true, false, not, ◌&&◌, ◌||◌, codes, cond, List, [], ◌∷◌, Option, Some, None, refl, sym, ap, ap₂, slice_get}
use Rattle.ecma_kind.specs.declared.kind.Kind.{Kind}
use Rattle.ecma_kind.specs.declared.kind.Kind.TheVariants as kind
use Rattle.ecma_tree.specs.declared.node.Node.{Node, Node-F, out-Node}
use Rattle.ecma_leaves.specs.Words.{is_spelled}
use Rattle.ecma_rules.specs.declared.standing.Around.{Around}
use Rattle.ecma_rules.specs.declared.standing.Standing.{Standing}
use Rattle.ecma_rules.specs.declared.standing.Standing.TheVariants as standing
use Rattle.ecma_rules.specs.Children.{child_holds, child_is, has_child, is_named, items_at, kind_of}
use Rattle.ecma_rules.specs.Failing.{least}
use Rattle.ecma_rules.specs.Jumps.{Held, ends_jumps, held_in, is_held_stray, is_stray_in, label_of, stray_here}
use Rattle.ecma_rules.specs.Lists.{is_head, is_item, is_one_without_value, is_rest, is_rest_pattern}
use Rattle.ecma_rules.specs.Members.{is_declaring, is_plain_parameter, is_property_kind, is_special_by, misfits_by, misplaces_this_by, second_by}
use Rattle.ecma_rules.specs.Rules.{fails_list, fails_member, fails_statement}
use Rattle.ecma_rules.specs.Statements.{is_body, is_declaration, is_exported, is_text}
use Rattle.ecma_rules.specs.Strays.{in_named, is_stray, strays_in}
use Rattle.ecma_rules.specs.Targets.{is_spread, is_variables}
use Rattle.ecma_fits.specs.declared.unfit.Where.{Where}
use Rattle.ecma_fits.specs.Branches.{is_choice, takes_else}
use Rattle.ecma_fits.specs.Chains.{is_loose_by}
use Rattle.ecma_fits.specs.Counts.{is_full_by}
use Rattle.ecma_fits.specs.Fitting.{breaks_rule, is_misplaced, is_misshapen, is_unfit, unfit_here}
use Rattle.ecma_fits.specs.Members.{is_misread_by}
use Rattle.ecma_fits.specs.Roles.{is_assigned, is_bound_name, is_out_of_role, is_tagged}
use Rattle.ecma_fits.specs.Strays.{is_stray_target}
use Rattle.ecma_strip_fits.proofs.Strays.{none_failing}
use Rattle.ecma_enclose.specs.Enclosing.{in_parentheses}
use Rattle.ecma_enclose_fits.proofs.Alike.{Seven, is_lone, paren_parts, seven_at}

-- a text, a type round an expression, or parentheses
abbrev pub is_round : Kind → Bool
is_round kind.ParenExpr = true
is_round k = is_lone k

pub lone_round : (k : Kind) → is_lone k ≡ true → is_round k ≡ true
lone_round kind.ParenExpr l = refl
lone_round _ l = l

abbrev pub Eight : (A : Type 0) → (Kind → A) → A → Type 0
Eight A f x = Seven A f x × (f kind.ParenExpr ≡ x)

pub eight_at : (A : Type 0) (f : Kind → A) (x : A) → Eight A f x → (k : Kind) → is_round k ≡ true → f k ≡ x
eight_at A f x (s, p) kind.ParenExpr r = p
eight_at A f x (s, p) k r = seven_at A f x s k r

and_no : (b : Bool) → (b && false) ≡ false
and_no true = refl
and_no false = refl

lists : (a : Around) (n : Node) → is_round (kind_of n) ≡ true → fails_list a n ≡ false
lists a n r =
    eight_at Bool (λ k. ((is_head a.target && is_variables k) && not (is_one_without_value (items_at n 0))) || ((is_rest_pattern k || (is_item a.target && is_spread k)) && not a.is_last))
    (((is_head a.target && false) && not (is_one_without_value (items_at n 0))) || ((false || (is_item a.target && false)) && not a.is_last))
    (((λ value raw. refl), refl, refl, refl, refl, refl, refl), refl) (kind_of n) r
    ∙ (λ j. (and_no (is_head a.target) j && not (is_one_without_value (items_at n 0))) || ((false || and_no (is_item a.target) j) && not a.is_last))

members : (a : Around) (n : Node) → is_round (kind_of n) ≡ true → fails_member a n ≡ false
unfolding misfits_by misplaces_this_by
members a n r =
    eight_at Bool (λ k. (is_property_kind k && not (is_declaring a.standing && child_holds is_plain_parameter n 0)) || (misfits_by k n || (is_special_by k n || misplaces_this_by k n))) false
    (((λ value raw. refl), refl, refl, refl, refl, refl, refl), refl) (kind_of n) r

statements : (a : Around) (n : Node) → a.standing ≡ standing.Plain → fails_statement a n ≡ false
statements a n plain = ap (λ s. (is_exported s && is_text (kind_of n)) || (is_body s && is_declaration (kind_of n))) plain

pub round_shapen : (n : Node) → kind_of n ≡ kind.ParenExpr → is_misshapen n ≡ false
unfolding is_full_by is_misread_by
round_shapen n e = ap (λ k. not (is_full_by k n) || ((is_choice k && (has_child n 2 && child_holds takes_else n 1)) || (is_loose_by k n || is_misread_by k n))) e

stray : (w : Where) (n : Node) → is_round (kind_of n) ≡ true → is_stray_target w.role w.arguments n ≡ false
stray w n r =
    eight_at Bool (λ k. w.arguments.stray && (is_assigned w.role && (is_bound_name k && child_is (is_named (codes "arguments")) n 0))) (w.arguments.stray && (is_assigned w.role && false))
    (((λ value raw. refl), refl, refl, refl, refl, refl, refl), refl) (kind_of n) r
    ∙ ap (λ b. w.arguments.stray && b) (and_no (is_assigned w.role)) ∙ and_no w.arguments.stray

second : (n : Node) → is_round (kind_of n) ≡ true → second_by (kind_of n) n ≡ None
second n r = eight_at (Option ℕ) (λ k. second_by k n) None (((λ value raw. refl), refl, refl, refl, refl, refl, refl), refl) (kind_of n) r

-- where its role allows it and it is spelled
pub round_fits : (w : Where) (n : Node) → is_round (kind_of n) ≡ true → w.around.standing ≡ standing.Plain → is_misshapen n ≡ false → is_out_of_role w.role n ≡ false → is_spelled (is_tagged w.role) (kind_of n) ≡ true
    → unfit_here w n ≡ None
unfolding is_unfit
round_fits w n r plain shapen role spelled =
    let rules : breaks_rule w n ≡ false = ap₂ (λ x y. x || y) (lists w.around n r) (ap₂ (λ x y. x || y) (members w.around n r) (statements w.around n plain)) in
    let placed : is_misplaced w n ≡ false = ap₂ (λ x y. x || y) role (ap₂ (λ x y. x || y) (stray w n r) rules) in
    let fits : is_unfit w n ≡ false = ap₂ (λ x y. x || y) shapen (ap₂ (λ x y. x || not y) placed spelled) in
    ap₂ least (none_failing (is_unfit w n) n fits) (second n r)

-- none is a stray
stray_by : (h : Held) (label : Option (List ℕ)) (k : Kind) → is_round k ≡ true → is_stray_in h k label ≡ false
unfolding is_stray_in is_stray
stray_by h label k r = eight_at Bool (λ k. is_stray_in h k label) false (((λ value raw. refl), refl, refl, refl, refl, refl, refl), refl) k r

pub round_stray : (h : Held) (n : Node) → is_round (kind_of n) ≡ true → stray_here h n ≡ None
round_stray h n r = none_failing (is_held_stray h n) n (stray_by h (label_of n) (kind_of n) r)
