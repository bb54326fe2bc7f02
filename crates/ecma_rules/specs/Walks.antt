-- Where a walk over a tree asks nothing of what it passes.
use Rattle.std.specs.Prelude.{ℕ, Bool, true, false, cond, Option, None}
use Rattle.ecma_kind.specs.declared.kind.Kind.{Kind}
use Rattle.ecma_kind.specs.declared.kind.Kind.TheVariants as kind
use Rattle.ecma_tree.specs.declared.node.Node.{Node}
use Rattle.ecma_rules.specs.declared.standing.Standing.TheVariants as standing
use Rattle.ecma_rules.specs.declared.standing.Around.{Around}
use Rattle.ecma_rules.specs.declared.target.Target.TheVariants as target
use Rattle.ecma_rules.specs.Failing.{least}
use Rattle.ecma_rules.specs.Jumps.{first_stray}
use Rattle.ecma_rules.specs.Rules.{first_misplaced}

-- something may belong to nothing inside a node of this kind, where nothing may outside of it
abbrev pub holds_strays : Kind → Bool
holds_strays kind.TsEnumMember = true
holds_strays kind.TsModuleBlock = true
holds_strays _ = false

-- around a node of which nothing is asked
abbrev pub unasked : Bool → Around
unasked is_last = record { target = target.Free; standing = standing.Plain; is_last = is_last }

-- a node of this kind may break a rule where nothing is asked of it, asks something of its children, or holds strays
unfoldable pub is_watched : Kind → Bool
is_watched kind.AssignProp = true
is_watched kind.RestPat = true
is_watched (kind.TsParamProp accessibility is_override readonly) = true
is_watched kind.AssignPat = true
is_watched kind.GetterProp = true
is_watched kind.SetterProp = true
is_watched kind.MethodProp = true
is_watched (kind.ClassMethod k modifiers) = true
is_watched (kind.PrivateMethod k modifiers) = true
is_watched (kind.Function is_generator is_async) = true
is_watched (kind.ArrowExpr is_async is_generator) = true
is_watched (kind.Constructor accessibility is_optional) = true
is_watched kind.Super = true
is_watched kind.SuperPropExpr = true
is_watched (kind.Class is_abstract) = true
is_watched (kind.AssignExpr op) = true
is_watched (kind.UpdateExpr op prefix) = true
is_watched kind.CallExpr = true
is_watched (kind.NamedExport type_only) = true
is_watched kind.IfStmt = true
is_watched kind.LabeledStmt = true
is_watched kind.WhileStmt = true
is_watched kind.DoWhileStmt = true
is_watched kind.ForStmt = true
is_watched kind.ForInStmt = true
is_watched (kind.ForOfStmt is_await) = true
is_watched kind.TsEnumMember = true
is_watched kind.TsModuleBlock = true
is_watched _ = false

-- something is asked of a child of a node of this kind, of which nothing is asked
abbrev pub asks_targets : Kind → Bool
asks_targets (kind.AssignExpr op) = true
asks_targets (kind.UpdateExpr op prefix) = true
asks_targets kind.ForInStmt = true
asks_targets (kind.ForOfStmt is_await) = true
asks_targets _ = false

-- the least place of a stray, where strays are looked for
abbrev pub stray_if : Bool → Node → Option ℕ
stray_if with_strays tree = cond with_strays (first_stray tree) None

-- the least place at which a node begins that is not what it has to be where it stands, or that is a stray, where those are looked for
abbrev pub first_broken_in : Bool → Node → Around → Option ℕ
first_broken_in with_strays tree around = least (first_misplaced tree around) (stray_if with_strays tree)
