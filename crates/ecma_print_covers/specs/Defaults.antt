-- What may be given a default.
use Rattle.std.specs.Prelude.{Bool, true, false, not, ◌&&◌, List}
use Rattle.std.specs.List.{list_all}
use Rattle.ecma_kind.specs.declared.kind.Kind.{Kind}
use Rattle.ecma_kind.specs.declared.kind.Kind.TheVariants as kind
use Rattle.ecma_tree.specs.declared.node.Node.{Node}
use Rattle.ecma_rules.specs.Children.{child_is, kind_of}
use Rattle.ecma_rules.specs.Targets.{is_wrapper}
use Rattle.ecma_tree.specs.Layers.{from_leaves}

-- what may be given a default: a name that is bound, a pattern, or a simple target; what is missing or a rest element is in no text that is read
abbrev pub takes_default : Kind → Bool
takes_default kind.Absent = true
takes_default kind.BindingIdent = true
takes_default kind.RestPat = true
takes_default (kind.ArrayPat optional) = true
takes_default (kind.ObjectPat optional) = true
takes_default (kind.Ident sym ctxt optional) = true
takes_default kind.MemberExpr = true
takes_default kind.SuperPropExpr = true
takes_default k = is_wrapper k

abbrev pub is_default : Kind → Bool
is_default kind.AssignPat = true
is_default _ = false

abbrev pub has_usual_default : Node → Bool
has_usual_default node = not (is_default (kind_of node) && not (child_is takes_default node 0))

abbrev pub usual_step : Node → List Bool → Bool
usual_step node results = has_usual_default node && list_all (λ b. b) results

-- in a tree nothing else is given one
abbrev pub has_usual_defaults : Node → Bool
has_usual_defaults = from_leaves Bool usual_step
