-- Expressions have no variables, and what they look up as the body of a function is what they look up.
use Rattle.std.proofs.Common.{◌≡◌, refl, sym, ap, ◌∙◌, subst, List, [], ◌∷◌, map, length, Bool, true, false, cond}
use Rattle.ecma_kind.specs.Sorts.{is_expr}
use Rattle.ecma_kind.specs.declared.kind.Kind.{Kind}
use Rattle.ecma_kind.specs.declared.kind.Kind.TheVariants as kind
use Rattle.ecma_kind.specs.declared.shapes.Sort.TheVariants as sort
use Rattle.ecma_tree.specs.declared.node.Node.{Node, Node-F, ind-Node, out-Node, roll-Node}
use Rattle.ecma_tree.specs.declared.node.Node.TheViews.{out-roll-Node, roll-out-Node}
use Rattle.ecma_tree.specs.Laws.{HaveShapes}
use Rattle.ecma_tree.specs.Sorted.{HasShape, child_shapes, one}
use Rattle.ecma_hygiene.proofs.Telling.{true-false}
use Rattle.ecma_hygiene_runs.specs.Plain.{is_plain, is_plain_kind}
use Rattle.ecma_runs.specs.Declarations.{has_no_effect}
use Rattle.ecma_runs.specs.Evaluation.{meaning, meaning_by, no_effect, role_by}
use Rattle.ecma_runs.specs.Meaning.{Meaning}
use Rattle.ecma_runs.specs.Sought.{Sought, meanings, nothing_sought, role_sought, seeker, sought_by, sought_in}
use Rattle.ecma_runs.proofs.Layer.{meaning_out}
use Rattle.ecma_runs.proofs.Seeking.{sought-roll}
use Rattle.ecma_pipeline_meeting.proofs.Parts.{plain-head, plain-kind, plain-out, AllPlain}
use Rattle.ecma_pipeline_meeting.proofs.Patterns.{shape_out}

pub sought_out : (n : Node) → sought_in n ≡ sought_by (out-Node n).kind (map seeker (out-Node n).children)
sought_out n = ap sought_in (sym (roll-out-Node n)) ∙ sought-roll (out-Node n)

-- a meaning with no variables
pub record NoVariables (m : Meaning) : Type 0 where
  pub vars : m.vars ≡ []
  pub lexicals : m.lexicals ≡ []
  pub locals : m.locals ≡ []

abbrev SameAsBody : Sought → Type 0
SameAsBody s = s.body_sought ≡ s.sought

-- whether or not it has an effect
either-none : (b : Bool) (n : Node) (m : Meaning) → NoVariables m → NoVariables (cond b (no_effect n) m)
either-none true n m h = record { vars = refl; lexicals = refl; locals = refl }
either-none false n m h = h

either-same : (b : Bool) (s : Sought) → SameAsBody s → SameAsBody (cond b nothing_sought s)
either-same true s h = refl
either-same false s h = h

pub record Quiet (n : Node) : Type 0 where
  pub none : NoVariables (meaning n)
  pub same : SameAsBody (sought_in n)

abbrev IsQuiet : Node → Type 0
IsQuiet n = HasShape (one sort.Expr) n → is_plain n ≡ true → Quiet n

abbrev AllQuiet : List Node → Type 0
AllQuiet [] = Unit {0}
AllQuiet (c ∷ cs) = IsQuiet c × AllQuiet cs

none-by : (n : Node) (k : Kind) (cs : List Node) → is_expr k ≡ true → is_plain_kind k ≡ true → HaveShapes (child_shapes k (one sort.Expr) (length cs)) cs → AllPlain cs → AllQuiet cs → NoVariables (meaning_by n k (map meaning cs))
none-by n kind.ParenExpr (e ∷ []) is j h plain quiet =
    let q = (quiet.0 h.0 (plain-head e [] plain)).none in record { vars = q.vars; lexicals = q.lexicals; locals = q.locals }
none-by n kind.ParenExpr [] is j h plain quiet = absurd h
none-by n kind.ParenExpr (a ∷ b ∷ cs) is j h plain quiet = absurd h.1
none-by n kind.TsAsExpr cs is j h plain quiet = absurd (true-false j refl)
none-by n kind.TsTypeAssertion cs is j h plain quiet = absurd (true-false j refl)
none-by n kind.TsConstAssertion cs is j h plain quiet = absurd (true-false j refl)
none-by n kind.TsNonNullExpr cs is j h plain quiet = absurd (true-false j refl)
none-by n kind.TsInstantiation cs is j h plain quiet = absurd (true-false j refl)
none-by n kind.TsSatisfiesExpr cs is j h plain quiet = absurd (true-false j refl)
none-by n kind.TsTypeAnn cs is j h plain quiet = absurd (true-false j refl)
none-by n kind.TsTypeParamDecl cs is j h plain quiet = absurd (true-false j refl)
none-by n kind.TsTypeParamInstantiation cs is j h plain quiet = absurd (true-false j refl)
none-by n (kind.TsImportEqualsDecl x y) cs is j h plain quiet = absurd (true-false j refl)
none-by n (kind.TsEnumDecl x y) cs is j h plain quiet = absurd (true-false j refl)
none-by n kind.TsEnumMember cs is j h plain quiet = absurd (true-false j refl)
none-by n kind.TsQualifiedName cs is j h plain quiet = absurd (true-false is refl)
none-by n (kind.Module s) cs is j h plain quiet = absurd (true-false is refl)
none-by n kind.List cs is j h plain quiet = absurd (true-false is refl)
none-by n (kind.VarDecl w d) cs is j h plain quiet = absurd (true-false is refl)
none-by n (kind.ImportDecl t) cs is j h plain quiet = absurd (true-false is refl)
none-by n kind.ExportDecl cs is j h plain quiet = absurd (true-false is refl)
none-by n kind.ExportDefaultExpr cs is j h plain quiet = absurd (true-false is refl)
none-by n kind.ExportDefaultDecl cs is j h plain quiet = absurd (true-false is refl)
none-by n (kind.FnDecl d) cs is j h plain quiet = absurd (true-false is refl)
none-by n (kind.ClassDecl d) cs is j h plain quiet = absurd (true-false is refl)
none-by n kind.BlockStmt cs is j h plain quiet = absurd (true-false is refl)
none-by n kind.IfStmt cs is j h plain quiet = absurd (true-false is refl)
none-by n kind.WhileStmt cs is j h plain quiet = absurd (true-false is refl)
none-by n kind.DoWhileStmt cs is j h plain quiet = absurd (true-false is refl)
none-by n kind.ForStmt cs is j h plain quiet = absurd (true-false is refl)
none-by n kind.ForInStmt cs is j h plain quiet = absurd (true-false is refl)
none-by n (kind.ForOfStmt a) cs is j h plain quiet = absurd (true-false is refl)
none-by n kind.LabeledStmt cs is j h plain quiet = absurd (true-false is refl)
none-by n kind.SwitchStmt cs is j h plain quiet = absurd (true-false is refl)
none-by n kind.SwitchCase cs is j h plain quiet = absurd (true-false is refl)
none-by n kind.TryStmt cs is j h plain quiet = absurd (true-false is refl)
none-by n kind.CatchClause cs is j h plain quiet = absurd (true-false is refl)
none-by n k cs is j h plain quiet = either-none (has_no_effect k (map meaning cs)) n (role_by n k (map meaning cs)) (record { vars = refl; lexicals = refl; locals = refl })

same-by : (k : Kind) (cs : List Node) → is_expr k ≡ true → is_plain_kind k ≡ true → HaveShapes (child_shapes k (one sort.Expr) (length cs)) cs → AllPlain cs → AllQuiet cs → SameAsBody (sought_by k (map seeker cs))
same-by kind.ParenExpr (e ∷ []) is j h plain quiet = (quiet.0 h.0 (plain-head e [] plain)).same
same-by kind.ParenExpr [] is j h plain quiet = absurd h
same-by kind.ParenExpr (a ∷ b ∷ cs) is j h plain quiet = absurd h.1
same-by kind.TsAsExpr cs is j h plain quiet = absurd (true-false j refl)
same-by kind.TsTypeAssertion cs is j h plain quiet = absurd (true-false j refl)
same-by kind.TsConstAssertion cs is j h plain quiet = absurd (true-false j refl)
same-by kind.TsNonNullExpr cs is j h plain quiet = absurd (true-false j refl)
same-by kind.TsInstantiation cs is j h plain quiet = absurd (true-false j refl)
same-by kind.TsSatisfiesExpr cs is j h plain quiet = absurd (true-false j refl)
same-by kind.TsTypeAnn cs is j h plain quiet = absurd (true-false j refl)
same-by kind.TsTypeParamDecl cs is j h plain quiet = absurd (true-false j refl)
same-by kind.TsTypeParamInstantiation cs is j h plain quiet = absurd (true-false j refl)
same-by kind.BlockStmt cs is j h plain quiet = absurd (true-false is refl)
same-by k cs is j h plain quiet = either-same (has_no_effect k (meanings (map seeker cs))) (role_sought k (map seeker cs)) refl

layer-quiet : (n : Node) → AllQuiet (out-Node n).children → IsQuiet n
layer-quiet n quiet h plain =
    let k = (out-Node n).kind in
    let cs = (out-Node n).children in
    let s = shape_out (one sort.Expr) n h in
    let p = plain-out n plain in
    let j = plain-kind k cs p.0 in
    record {
      none = subst NoVariables (sym (meaning_out n)) (none-by n k cs s.0 j s.1 p.1 quiet);
      same = subst SameAsBody (sym (sought_out n)) (same-by k cs s.0 j s.1 p.1 quiet);
    }

all-quiet : (ns : List ((n : Node) × IsQuiet n)) → AllQuiet (map (λ e. e.0) ns)
all-quiet [] = tt
all-quiet (n ∷ ns) = (n.1, all-quiet ns)

pub quiet : (n : Node) → IsQuiet n
quiet = ind-Node IsQuiet (λ x y is.
    layer-quiet (roll-Node x) (subst AllQuiet (ap (λ (z : Node-F Node). z.children) is ∙ sym (ap (λ (z : Node-F Node). z.children) (out-roll-Node x))) (all-quiet y.children)))
