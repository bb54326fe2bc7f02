-- Of most kinds a node breaks no rule where nothing is asked of it, asks nothing of its children, and holds no strays.
use Rattle.std.proofs.Common.{◌≡◌, ℕ, ◌==◌, Bool, true, false, not, ◌&&◌, ◌||◌, cond, None, refl, sym, ap, ap₂}
use Rattle.ecma_kind.specs.declared.kind.Kind.{Kind}
use Rattle.ecma_kind.specs.declared.kind.Kind.TheVariants as kind
use Rattle.ecma_tree.specs.declared.node.Node.{Node}
use Rattle.ecma_rules.specs.declared.target.Target.{Target}
use Rattle.ecma_rules.specs.declared.target.Target.TheVariants as target
use Rattle.ecma_rules.specs.declared.standing.Standing.{Standing}
use Rattle.ecma_rules.specs.declared.standing.Standing.TheVariants as standing
use Rattle.ecma_rules.specs.Children.{child_is, has_child, kind_of}
use Rattle.ecma_rules.specs.Failing.{failing_here, least}
use Rattle.ecma_rules.specs.Lists.{is_rest_pattern, last_in}
use Rattle.ecma_rules.specs.Members.{is_property_kind, is_special_by, misfits_by, misplaces_this_by, second_by}
use Rattle.ecma_rules.specs.Supers.{is_private_name, is_super, is_super_member}
use Rattle.ecma_rules.specs.Surroundings.{around_in, standing_by}
use Rattle.ecma_rules.specs.Targets.{is_short_default, target_in}
use Rattle.ecma_rules.specs.Rules.{is_misplaced, misplaced_here}
use Rattle.ecma_rules.specs.Walks.{asks_targets, holds_strays, is_watched, unasked}

free-either : (b : Bool) → cond b target.Free target.Free ≡ target.Free
free-either true = refl
free-either false = refl

plain-either : (b : Bool) → cond b standing.Plain standing.Plain ≡ standing.Plain
plain-either true = refl
plain-either false = refl

-- nothing is asked of the children
pub stays-free : (k : Kind) (i : ℕ) → asks_targets k ≡ false → target_in target.Free k i ≡ target.Free
unfolding target_in
stays-free (kind.AssignExpr op) i h = cc
stays-free (kind.UpdateExpr op prefix) i h = cc
stays-free kind.ForInStmt i h = cc
stays-free (kind.ForOfStmt is_await) i h = cc
stays-free kind.KeyValueProp i h = free-either (i == 1)
stays-free kind.AssignProp i h = free-either (i == 0)
stays-free _ i h = refl

unwatched-asks-none : (k : Kind) → is_watched k ≡ false → asks_targets k ≡ false
unfolding is_watched
unwatched-asks-none (kind.AssignExpr op) h = cc
unwatched-asks-none (kind.UpdateExpr op prefix) h = cc
unwatched-asks-none kind.ForInStmt h = cc
unwatched-asks-none (kind.ForOfStmt is_await) h = cc
unwatched-asks-none _ h = refl

stays-plain : (k : Kind) (first second : Bool) (i : ℕ) → is_watched k ≡ false → standing_by standing.Plain k first second i ≡ standing.Plain
unfolding is_watched standing_by
stays-plain kind.SuperPropExpr first second i h = cc
stays-plain kind.CallExpr first second i h = cc
stays-plain (kind.Constructor accessibility is_optional) first second i h = cc
stays-plain (kind.NamedExport type_only) first second i h = cc
stays-plain kind.IfStmt first second i h = cc
stays-plain kind.LabeledStmt first second i h = cc
stays-plain kind.WhileStmt first second i h = cc
stays-plain kind.DoWhileStmt first second i h = cc
stays-plain kind.ForStmt first second i h = cc
stays-plain kind.ForInStmt first second i h = cc
stays-plain (kind.ForOfStmt is_await) first second i h = cc
stays-plain (kind.ExportNamedSpecifier is_type_only) first second i h = plain-either (i == 0)
stays-plain _ first second i h = refl

pub stays-unasked : (l : Bool) (n : Node) (i : ℕ) → is_watched (kind_of n) ≡ false → around_in (unasked l) n i ≡ unasked (last_in l n i)
stays-unasked l n i h =
    let free = stays-free (kind_of n) i (unwatched-asks-none (kind_of n) h) in
    let plain = stays-plain (kind_of n) (has_child n 1) (has_child n 2) i h in
    ap₂ (λ (t : Target) (s : Standing). record { target = t; standing = s; is_last = last_in l n i }) free plain

unwatched-no-default : (k : Kind) → is_watched k ≡ false → is_short_default k ≡ false
unfolding is_watched
unwatched-no-default kind.AssignProp h = cc
unwatched-no-default _ h = refl

unwatched-no-rest : (k : Kind) → is_watched k ≡ false → is_rest_pattern k ≡ false
unfolding is_watched
unwatched-no-rest kind.RestPat h = cc
unwatched-no-rest _ h = refl

unwatched-no-property : (k : Kind) → is_watched k ≡ false → is_property_kind k ≡ false
unfolding is_watched
unwatched-no-property (kind.TsParamProp accessibility is_override readonly) h = cc
unwatched-no-property _ h = refl

unwatched-no-misfit : (k : Kind) (n : Node) → is_watched k ≡ false → misfits_by k n ≡ false
unfolding is_watched misfits_by
unwatched-no-misfit kind.AssignPat n h = cc
unwatched-no-misfit kind.GetterProp n h = cc
unwatched-no-misfit kind.SetterProp n h = cc
unwatched-no-misfit kind.MethodProp n h = cc
unwatched-no-misfit (kind.ClassMethod k modifiers) n h = cc
unwatched-no-misfit (kind.PrivateMethod k modifiers) n h = cc
unwatched-no-misfit _ n h = refl

unwatched-no-special : (k : Kind) (n : Node) → is_watched k ≡ false → is_special_by k n ≡ false
unfolding is_watched
unwatched-no-special (kind.ClassMethod k modifiers) n h = cc
unwatched-no-special _ n h = refl

unwatched-keeps-this : (k : Kind) (n : Node) → is_watched k ≡ false → misplaces_this_by k n ≡ false
unfolding is_watched misplaces_this_by
unwatched-keeps-this (kind.Function is_generator is_async) n h = cc
unwatched-keeps-this (kind.ArrowExpr is_async is_generator) n h = cc
unwatched-keeps-this (kind.Constructor accessibility is_optional) n h = cc
unwatched-keeps-this kind.SetterProp n h = cc
unwatched-keeps-this _ n h = refl

unwatched-no-super : (k : Kind) → is_watched k ≡ false → is_super k ≡ false
unfolding is_watched
unwatched-no-super kind.Super h = cc
unwatched-no-super _ h = refl

unwatched-no-super-member : (k : Kind) → is_watched k ≡ false → is_super_member k ≡ false
unfolding is_watched
unwatched-no-super-member kind.SuperPropExpr h = cc
unwatched-no-super-member _ h = refl

unwatched-no-second : (k : Kind) (n : Node) → is_watched k ≡ false → second_by k n ≡ None
unfolding is_watched
unwatched-no-second (kind.Class is_abstract) n h = cc
unwatched-no-second _ n h = refl

unwatched-not-misplaced : (l : Bool) (n : Node) → is_watched (kind_of n) ≡ false → is_misplaced (unasked l) n ≡ false
unfolding is_misplaced
unwatched-not-misplaced l n h =
    let default = unwatched-no-default (kind_of n) h in
    let rest = unwatched-no-rest (kind_of n) h in
    let property = unwatched-no-property (kind_of n) h in
    let misfit = unwatched-no-misfit (kind_of n) n h in
    let special = unwatched-no-special (kind_of n) n h in
    let this = unwatched-keeps-this (kind_of n) n h in
    let lone = unwatched-no-super (kind_of n) h in
    let member = unwatched-no-super-member (kind_of n) h in
    λ j. (default j && true) || (((rest j || false) && not l) || (((property j && true) || (misfit j || (special j || this j))) || ((lone j && true) || (member j && child_is is_private_name n 1))))

pub unwatched-holds-none : (k : Kind) → is_watched k ≡ false → holds_strays k ≡ false
unfolding is_watched
unwatched-holds-none kind.TsEnumMember h = cc
unwatched-holds-none kind.TsModuleBlock h = cc
unwatched-holds-none _ h = refl

pub unwatched-tells-none : (l : Bool) (n : Node) → is_watched (kind_of n) ≡ false → None ≡ misplaced_here (unasked l) n
unwatched-tells-none l n h = sym (ap₂ least (ap (λ b. failing_here b n) (unwatched-not-misplaced l n h)) (unwatched-no-second (kind_of n) n h))
