-- What the kinds and shapes of a raw tree turn into.
use Rattle.std.proofs.Common.{ℕ, suc, Bool, true, false, not, ◌&&◌, ◌||◌, cond, List, [], ◌∷◌}
use Rattle.ecma_kind.specs.Sorts.{belongs}
use Rattle.ecma_kind.specs.declared.kind.Kind.{Kind}
use Rattle.ecma_kind.specs.declared.kind.Kind.TheVariants as kind
use Rattle.ecma_kind.specs.declared.shapes.Count.{Count}
use Rattle.ecma_kind.specs.declared.shapes.Count.TheVariants.{One, Maybe, Many, Holes}
use Rattle.ecma_kind.specs.declared.shapes.Shape.{Shape}
use Rattle.ecma_kind.specs.declared.shapes.Sort.{Sort}
use Rattle.ecma_kind.specs.declared.shapes.Sort.TheVariants as sort
use Rattle.ecma_tree.specs.Sorted as tables
use Rattle.ecma_tree.specs.Sorted.{child_shapes}
use Rattle.ecma_rules.specs.declared.target.Target.{Target}
use Rattle.ecma_rules.specs.declared.target.Target.TheVariants as target
use Rattle.ecma_rules.specs.declared.standing.Around.{Around}
use Rattle.ecma_rules.specs.declared.standing.Standing.{Standing}
use Rattle.ecma_rules.specs.declared.standing.Standing.TheVariants as standing
use Rattle.ecma_rules.specs.Targets.{is_plain, is_plain_target, is_wrapper, may_be, takes_patterns}
use Rattle.ecma_rules.specs.Members.{is_declaring, is_property_kind}
use Rattle.ecma_rules.specs.Supers.{is_linked, is_super}
use Rattle.ecma_grammar_laws.specs.RawSorts as raw
use Rattle.ecma_grammar_laws.specs.RawSorts.{RawSort, RawShape, sorted, parameter, child_shapes_raw}
use Rattle.ecma_grammar_laws.proofs.Asks.{same_count, same_sort}

-- kinds

-- whether a name there becomes a binding
abbrev pub binds : Target → Bool
binds target.Head = true
binds target.Part = true
binds target.Element = true
binds target.Rest = true
binds target.Name = true
binds _ = false

abbrev pub is_element : Target → Bool
is_element target.Element = true
is_element _ = false

abbrev pub is_property : Target → Bool
is_property target.Property = true
is_property _ = false

-- what a kind turns into
abbrev pub turned : Target → Kind → Kind
turned t kind.ArrayLit = cond (takes_patterns t) (kind.ArrayPat false) kind.ArrayLit
turned t kind.ObjectLit = cond (takes_patterns t) (kind.ObjectPat false) kind.ObjectLit
turned t kind.SpreadElement = cond (is_element t || is_property t) kind.RestPat kind.SpreadElement
turned t kind.KeyValueProp = cond (is_property t) kind.KeyValuePatProp kind.KeyValueProp
turned t kind.AssignProp = cond (is_property t) kind.AssignPatProp kind.AssignProp
turned t (kind.AssignExpr op) = cond (is_element t && is_plain op) kind.AssignPat (kind.AssignExpr op)
turned t (kind.Ident sym ctxt optional) = cond (binds t) kind.BindingIdent (cond (is_property t) kind.AssignPatProp (kind.Ident sym ctxt optional))
turned t k = k

-- what the rules say of a node's kind where it stands
abbrev pub keeps : Target → Standing → Kind → Bool
keeps t s k = (may_be t k || (is_plain_target k || is_wrapper k)) && ((not (is_super k) || is_linked s) && (not (is_property_kind k) || is_declaring s))

-- shapes

-- whether what has this sort may stand so: `super` stands only before a member or arguments
abbrev pub may_stand : Standing → Sort → Bool
may_stand s x = not (belongs x kind.ThisExpr) || (belongs x kind.Super || not (is_linked s))

abbrev pub is_plain_standing : Standing → Bool
is_plain_standing standing.Plain = true
is_plain_standing _ = false

abbrev pub turns_to : Target → RawSort → Sort → Bool
turns_to target.Free parameter sort.Pat = true
turns_to target.Free (sorted sort.ParamOrTsParamProp) sort.Param = true
turns_to target.Left (sorted sort.Expr) sort.AssignTarget = true
turns_to target.Simple (sorted sort.Expr) sort.AssignTarget = true
turns_to target.Simple (sorted sort.Expr) sort.Expr = true
turns_to target.Head (sorted sort.ForHead) sort.ForHead = true
turns_to target.Part (sorted sort.Expr) sort.Pat = true
turns_to target.Rest (sorted sort.Expr) sort.Pat = true
turns_to target.Name (sorted sort.Ident) sort.BindingIdent = true
turns_to target.Element (sorted sort.Expr) sort.Pat = true
turns_to target.Element (sorted sort.ExprOrSpread) sort.Pat = true
turns_to target.Property (sorted sort.PropOrSpread) sort.ObjectPatProp = true
turns_to target.Elements (sorted sort.ExprOrSpread) sort.Pat = true
turns_to target.Properties (sorted sort.PropOrSpread) sort.ObjectPatProp = true
turns_to _ _ _ = false

-- the lists of what is assigned to are those of literals, and nothing else there is a list
abbrev pub count_may : Target → Count → Bool
count_may target.Free c = true
count_may target.Elements Holes = true
count_may target.Elements _ = false
count_may target.Properties Many = true
count_may target.Properties _ = false
count_may target.Element Maybe = true
count_may target.Element One = true
count_may target.Element _ = false
count_may _ One = true
count_may _ _ = false

abbrev pub stays_sort : Target → Standing → RawSort → Sort → Bool
stays_sort target.Free s (sorted x) y = same_sort x y && may_stand s x
stays_sort _ s _ y = false

-- whether what has this raw shape has this shape once it is finished
abbrev pub turns : Around → RawShape → Shape → Bool
turns around r o =
    (same_count r.count o.count && count_may around.target r.count)
    && (stays_sort around.target around.standing r.sort o.sort || (turns_to around.target r.sort o.sort && is_plain_standing around.standing))

abbrev pub all_turn : (ℕ → Around) → List RawShape → List Shape → Bool
all_turn around [] [] = true
all_turn around (r ∷ rs) (o ∷ os) = turns (around 0) r o && all_turn (λ i. around (suc i)) rs os
all_turn around _ _ = false

-- the raw shapes of children where the rules are kept
abbrev pub refined : Kind → RawShape → ℕ → List RawShape
refined kind.GetterProp r n = raw.one (sorted sort.PropName) ∷ raw.maybe (sorted sort.TsTypeAnn) ∷ raw.maybe (sorted sort.BlockStmt) ∷ []
refined kind.SetterProp r n = raw.one (sorted sort.PropName) ∷ raw.maybe (sorted sort.Pat) ∷ raw.one parameter ∷ raw.maybe (sorted sort.BlockStmt) ∷ []
refined (kind.TsParamProp accessibility is_override readonly) r n = raw.one (sorted sort.TsParamPropParam) ∷ []
refined kind.SuperPropExpr r n = raw.one (sorted sort.Super) ∷ raw.one (sorted sort.SuperProp) ∷ []
refined k r n = child_shapes_raw k r n

-- the shapes of the children once they are finished, but for one that is added
abbrev pub wanted : Target → Kind → Shape → ℕ → List Shape
wanted t kind.ArrayLit o n = tables.with_holes (cond (takes_patterns t) sort.Pat sort.ExprOrSpread) ∷ []
wanted t kind.ObjectLit o n = tables.many (cond (takes_patterns t) sort.ObjectPatProp sort.PropOrSpread) ∷ []
wanted t kind.SpreadElement o n = tables.one (cond (is_element t || is_property t) sort.Pat sort.Expr) ∷ []
wanted t kind.KeyValueProp o n = tables.one sort.PropName ∷ tables.one (cond (is_property t) sort.Pat sort.Expr) ∷ []
wanted t kind.AssignProp o n = tables.one (cond (is_property t) sort.BindingIdent sort.Ident) ∷ tables.one sort.Expr ∷ []
wanted t (kind.AssignExpr op) o n = tables.one (cond (is_element t && is_plain op) sort.Pat sort.AssignTarget) ∷ tables.one sort.Expr ∷ []
wanted t k o n = child_shapes k o n
