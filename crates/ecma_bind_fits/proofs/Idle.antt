-- Names, names that are bound and what is missing fit by their kind, where their role and `arguments` allow it.
use Rattle.std.proofs.Common.{◌≡◌, Bool, true, false, not, ◌&&◌, ◌||◌, cond, Some, None, refl, sym, ap₂}
use Rattle.ecma_kind.specs.declared.kind.Kind.{Kind}
use Rattle.ecma_kind.specs.declared.kind.Kind.TheVariants as kind
use Rattle.ecma_tree.specs.declared.node.Node.{Node, out-Node}
use Rattle.ecma_leaves.specs.Words.{is_spelled}
use Rattle.ecma_rules.specs.declared.standing.Around.{Around}
use Rattle.ecma_rules.specs.Children.{child_holds, has_child, items_at, kind_of}
use Rattle.ecma_rules.specs.Failing.{least}
use Rattle.ecma_rules.specs.Lists.{is_head, is_item, is_one_without_value, is_rest}
use Rattle.ecma_rules.specs.Members.{is_declaring, is_plain_parameter, is_property_kind, is_special_by, misfits_by, misplaces_this_by, second_by}
use Rattle.ecma_rules.specs.Statements.{is_body, is_declaration, is_exported, is_text}
use Rattle.ecma_rules.specs.Targets.{is_variables}
use Rattle.ecma_fits.specs.declared.unfit.Where.{Where}
use Rattle.ecma_fits.specs.Branches.{is_choice, takes_else}
use Rattle.ecma_fits.specs.Chains.{is_loose_by}
use Rattle.ecma_fits.specs.Counts.{is_full_by}
use Rattle.ecma_fits.specs.Fitting.{breaks_rule, is_misshapen, is_unfit, unfit_here}
use Rattle.ecma_fits.specs.Members.{is_misread_by}
use Rattle.ecma_fits.specs.Roles.{is_out_of_role, is_tagged}
use Rattle.ecma_fits.specs.Strays.{is_stray_target}

abbrev pub is_idle : Kind → Bool
is_idle kind.Absent = true
is_idle kind.BindingIdent = true
is_idle (kind.Ident sym ctxt optional) = true
is_idle _ = false

and_no : (b : Bool) → (b && false) ≡ false
and_no true = refl
and_no false = refl

shaped_by : (k : Kind) (n : Node) (x : Bool) → is_idle k ≡ true → (not (is_full_by k n) || ((is_choice k && x) || (is_loose_by k n || is_misread_by k n))) ≡ false
unfolding is_full_by is_misread_by
shaped_by kind.Absent n x i = refl
shaped_by kind.BindingIdent n x i = refl
shaped_by (kind.Ident sym ctxt optional) n x i = refl
shaped_by _ n x i = cc

shaped : (n : Node) → is_idle (kind_of n) ≡ true → is_misshapen n ≡ false
shaped n i = shaped_by (kind_of n) n (has_child n 2 && child_holds takes_else n 1) i

lists_by : (k : Kind) (a : Around) (x : Bool) → is_idle k ≡ true → (((is_head a.target && is_variables k) && x) || (is_rest a.target k && not a.is_last)) ≡ false
lists_by kind.Absent a x i = λ j. (and_no (is_head a.target) j && x) || (and_no (is_item a.target) j && not a.is_last)
lists_by kind.BindingIdent a x i = λ j. (and_no (is_head a.target) j && x) || (and_no (is_item a.target) j && not a.is_last)
lists_by (kind.Ident sym ctxt optional) a x i = λ j. (and_no (is_head a.target) j && x) || (and_no (is_item a.target) j && not a.is_last)
lists_by _ a x i = cc

members_by : (k : Kind) (n : Node) (x : Bool) → is_idle k ≡ true → ((is_property_kind k && x) || (misfits_by k n || (is_special_by k n || misplaces_this_by k n))) ≡ false
unfolding misfits_by misplaces_this_by
members_by kind.Absent n x i = refl
members_by kind.BindingIdent n x i = refl
members_by (kind.Ident sym ctxt optional) n x i = refl
members_by _ n x i = cc

statements_by : (k : Kind) (a : Around) → is_idle k ≡ true → ((is_exported a.standing && is_text k) || (is_body a.standing && is_declaration k)) ≡ false
unfolding is_declaration
statements_by kind.Absent a i = λ j. and_no (is_exported a.standing) j || and_no (is_body a.standing) j
statements_by kind.BindingIdent a i = λ j. and_no (is_exported a.standing) j || and_no (is_body a.standing) j
statements_by (kind.Ident sym ctxt optional) a i = λ j. and_no (is_exported a.standing) j || and_no (is_body a.standing) j
statements_by _ a i = cc

keeps_rules : (w : Where) (n : Node) → is_idle (kind_of n) ≡ true → breaks_rule w n ≡ false
keeps_rules w n i =
    ap₂ (λ a b. a || b) (lists_by (kind_of n) w.around (not (is_one_without_value (items_at n 0))) i)
    (ap₂ (λ a b. a || b) (members_by (kind_of n) n (not (is_declaring w.around.standing && child_holds is_plain_parameter n 0)) i) (statements_by (kind_of n) w.around i))

no_second : (k : Kind) (n : Node) → is_idle k ≡ true → second_by k n ≡ None
no_second kind.Absent n i = refl
no_second kind.BindingIdent n i = refl
no_second (kind.Ident sym ctxt optional) n i = refl
no_second _ n i = cc

pub idle_fits : (w : Where) (n : Node) → is_idle (kind_of n) ≡ true → is_out_of_role w.role n ≡ false → is_stray_target w.role w.arguments n ≡ false → is_spelled (is_tagged w.role) (kind_of n) ≡ true → unfit_here w n ≡ None
unfolding is_unfit
idle_fits w n i role stray spelled =
    ap₂ (λ b s. least (cond b (Some (out-Node n).span.lo) None) s)
    (ap₂ (λ a b. a || b) (shaped n i) (ap₂ (λ a b. a || not b) (ap₂ (λ a b. a || b) role (ap₂ (λ a b. a || b) stray (keeps_rules w n i))) spelled))
    (no_second (kind_of n) n i)
