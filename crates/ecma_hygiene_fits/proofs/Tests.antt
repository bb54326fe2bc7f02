-- Tests that look at nothing around a node: branches, chains and members.
use Rattle.std.proofs.Common.{◌≡◌, ◌∙◌, ℕ, Bool, true, false, not, ◌&&◌, ◌||◌, List, [], ◌∷◌, length, refl, ap, ap₂, slice_get}
use Rattle.ecma_kind.specs.Sorts.{belongs}
use Rattle.ecma_kind.specs.declared.kind.Kind.{Kind}
use Rattle.ecma_kind.specs.declared.kind.Kind.TheVariants as kind
use Rattle.ecma_kind.specs.declared.shapes.Shape.{Shape}
use Rattle.ecma_kind.specs.declared.shapes.Sort.TheVariants as sort
use Rattle.ecma_tree.specs.declared.node.Node.{Node, fold_out-Node}
use Rattle.ecma_tree.specs.Laws.{HaveShapes}
use Rattle.ecma_tree.specs.Sorted.{child_shapes, is_absent, one}
use Rattle.ecma_rules.specs.Children.{child_holds, child_is, has_child, holds_of, is_present, kind_of}
use Rattle.ecma_rules.specs.Members.{is_constructor_key, is_method, is_special_function}
use Rattle.ecma_rules.specs.Targets.{first_is}
use Rattle.ecma_fits.specs.Branches.{holds_at_last, is_choice, last_part, takes_else, takes_else_step}
use Rattle.ecma_fits.specs.Chains.{goes_on, goes_on_step, is_behind_chain, is_link, is_loose_by, keeps_chain}
use Rattle.ecma_fits.specs.Members.{is_misread_by}
use Rattle.ecma_hygiene.specs.declared.spot.Standing.{Standing}
use Rattle.ecma_hygiene.specs.Renamed.{Texts, proto_literal, standing_in}
use Rattle.ecma_hygiene_fits.specs.Laws.{FinalTextsKeepBranches, FinalTextsKeepChains, FinalTextsKeepMembers}
use Rattle.ecma_hygiene_fits.proofs.Becoming.{Quiet, Silent, all_become, become, child_same, children_stay, holds_same, is_touched, made_same, present_quiet}
use Rattle.ecma_hygiene_fits.proofs.Everywhere.{children_of}
use Rattle.ecma_hygiene_fits.proofs.Surroundings.{test_kept}
use Rattle.ecma_hygiene_fits.proofs.Walk.{shape_parts}

-- ---- branches

abbrev takes_else_of : Kind → List Bool → Bool
takes_else_of k bs = is_absent k || holds_at_last bs (last_part k)

else_quiet : (k : Kind) (bs : List Bool) → is_touched k ≡ true → takes_else_of k bs ≡ false
unfolding is_touched
else_quiet (kind.Ident sym ctxt optional) bs t = refl
else_quiet kind.KeyValueProp bs t = refl
else_quiet kind.AssignPatProp bs t = refl
else_quiet kind.KeyValuePatProp bs t = refl
else_quiet (kind.ImportNamedSpecifier is_type_only) bs t = refl
else_quiet (kind.ExportNamedSpecifier is_type_only) bs t = refl
else_quiet _ bs t = cc

abbrev dangles : Kind → Node → Bool
dangles k n = is_choice k && (has_child n 2 && child_holds takes_else n 1)

dangling_quiet : Silent dangles
unfolding is_touched
dangling_quiet kind.IfStmt n t = cc
dangling_quiet _ n t = refl

else_same : (texts : Texts) (c : Node) (stands : Standing) → takes_else (become texts c stands) ≡ takes_else c
else_same texts = made_same texts takes_else takes_else_of (fold_out-Node Bool takes_else_step) else_quiet

pub branches_kept : FinalTextsKeepBranches
branches_kept texts =
    test_kept texts dangles dangling_quiet (λ text n. refl) (λ n. refl) (λ n. (refl, refl))
    (λ n s stands has u none. ap₂ (λ a b. is_choice (kind_of n) && (a && b)) (child_same texts is_present true present_quiet n stands u 2) (holds_same texts takes_else (else_same texts) n stands u 1) ∙ none)

-- ---- members

pub key_quiet : Quiet false is_constructor_key
unfolding is_touched
key_quiet (kind.IdentName sym) t = cc
key_quiet (kind.Str value raw) t = cc
key_quiet _ t = refl

pub function_quiet : Quiet false is_special_function
unfolding is_touched
function_quiet (kind.Function is_generator is_async) t = cc
function_quiet _ t = refl

misread_quiet : Silent is_misread_by
unfolding is_touched is_misread_by
misread_quiet (kind.Constructor accessibility is_optional) n t = cc
misread_quiet (kind.ClassMethod k modifiers) n t = cc
misread_quiet (kind.PrivateMethod k modifiers) n t = cc
misread_quiet _ n t = refl

never_misread : (text : List ℕ) (n : Node) → (is_misread_by (kind.IdentName text) n ≡ false) × (is_misread_by kind.AssignPat n ≡ false)
unfolding is_misread_by
never_misread text n = (refl, refl)

brackets_read : (n : Node) → (is_misread_by kind.ComputedPropName n ≡ false) × (is_misread_by proto_literal n ≡ false)
unfolding is_misread_by
brackets_read n = (refl, refl)

misread_by : (k : Kind) (n m : Node) → child_is is_constructor_key m 0 ≡ child_is is_constructor_key n 0 → child_is is_special_function m 1 ≡ child_is is_special_function n 1 → is_misread_by k m ≡ is_misread_by k n
unfolding is_misread_by
misread_by (kind.Constructor accessibility is_optional) n m key function = ap not key
misread_by (kind.ClassMethod k modifiers) n m key function = ap₂ (λ a b. (not (is_method k) && a) || (not modifiers.is_static && b)) function key
misread_by (kind.PrivateMethod k modifiers) n m key function = ap (λ b. not (is_method k) && b) function
misread_by _ n m key function = refl

pub members_kept : FinalTextsKeepMembers
members_kept texts =
    test_kept texts is_misread_by misread_quiet (λ text n. (never_misread text n).0) (λ n. (never_misread [] n).1) brackets_read
    (λ n s stands has u none.
    misread_by (kind_of n) n (become texts n stands) (child_same texts is_constructor_key false key_quiet n stands u 0) (child_same texts is_special_function false function_quiet n stands u 1) ∙ none)

-- ---- chains

abbrev goes_on_of : Kind → List Bool → Bool
goes_on_of k bs = is_link k || (keeps_chain k && first_is bs)

goes_quiet : (k : Kind) (bs : List Bool) → is_touched k ≡ true → goes_on_of k bs ≡ false
unfolding is_touched
goes_quiet (kind.OptChainExpr optional) bs t = cc
goes_quiet kind.TsNonNullExpr bs t = cc
goes_quiet kind.TsInstantiation bs t = cc
goes_quiet _ bs t = refl

goes_same : (texts : Texts) (c : Node) (stands : Standing) → goes_on (become texts c stands) ≡ goes_on c
goes_same texts = made_same texts goes_on goes_on_of (fold_out-Node Bool goes_on_step) goes_quiet

loose_quiet : Silent is_loose_by
unfolding is_touched
loose_quiet (kind.OptChainExpr optional) n t = cc
loose_quiet _ n t = refl

-- the object or the callee of a link is not touched
base_untouched : (k : Kind) → belongs sort.OptChainBase k ≡ true → is_touched k ≡ false
unfolding is_touched
base_untouched kind.MemberExpr b = refl
base_untouched kind.OptCall b = refl
base_untouched _ b = cc

base_same : (texts : Texts) (os : List Shape) (cs : List Node) → HaveShapes (one sort.OptChainBase ∷ os) cs → (stands : ℕ → Standing)
    → holds_of is_behind_chain (slice_get (all_become texts stands 0 cs) 0) ≡ holds_of is_behind_chain (slice_get cs 0)
base_same texts os [] has stands = refl
base_same texts os (c ∷ cs) has stands = holds_same texts goes_on (goes_same texts) c (stands 0) (base_untouched (kind_of c) (shape_parts c (one sort.OptChainBase) has.0).0) 0

loose_by : (texts : Texts) (k : Kind) (s : Shape) (n m : Node) (stands : ℕ → Standing) → HaveShapes (child_shapes k s (length (children_of n))) (children_of n) → children_of m ≡ all_become texts stands 0 (children_of n)
    → is_loose_by k m ≡ is_loose_by k n
loose_by texts (kind.OptChainExpr optional) s n m stands has is =
    ap (λ b. not optional && not b) (ap (λ (z : List Node). holds_of is_behind_chain (slice_get z 0)) is ∙ base_same texts [] (children_of n) has stands)
loose_by texts _ s n m stands has is = refl

pub chains_kept : FinalTextsKeepChains
chains_kept texts =
    test_kept texts is_loose_by loose_quiet (λ text n. refl) (λ n. refl) (λ n. (refl, refl))
    (λ n s stands has u none. loose_by texts (kind_of n) s n (become texts n stands) (standing_in stands n) (shape_parts n s has).1 (children_stay texts n stands u) ∙ none)
