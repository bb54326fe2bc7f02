-- Of the clauses of what fits, those that ask nothing of where a node stands are kept.
use Rattle.std.proofs.Common.{◌≡◌, Bool, true, false, ◌&&◌, List, length, is_some, refl}
use Rattle.ecma_kind.specs.declared.kind.Kind.{Kind}
use Rattle.ecma_kind.specs.declared.kind.Kind.TheVariants as kind
use Rattle.ecma_kind.specs.declared.shapes.Shape.{Shape}
use Rattle.ecma_kind.specs.declared.shapes.Sort.TheVariants as sort
use Rattle.ecma_tree.specs.Laws.{HaveShapes}
use Rattle.ecma_tree.specs.Sorted.{HasSort, child_shapes}
use Rattle.ecma_tree.specs.declared.node.Node.{Node}
use Rattle.ecma_enums.specs.declared.record.TsEnumRecordEntry.{TsEnumRecordEntry}
use Rattle.ecma_rules.specs.Children.{child_holds, has_child, kind_of}
use Rattle.ecma_rules.specs.Members.{second_by}
use Rattle.ecma_fits.specs.Branches.{is_choice, takes_else}
use Rattle.ecma_fits.specs.Chains.{is_loose_by}
use Rattle.ecma_fits.specs.Fitting.{NoneFails}
use Rattle.ecma_fits.specs.Members.{is_misread_by}
use Rattle.ecma_lower_enums.specs.declared.known.KnownEnums.{KnownEnums}
use Rattle.ecma_lower_enums.specs.declared.place.Place.{Place}
use Rattle.ecma_lower_enums.specs.Lowered.{known_enums}
use Rattle.ecma_lower_enums.specs.Places.{place_in}
use Rattle.ecma_lower_enums_sources.specs.Laws.{WritingEnumsAddsNoForms, WrittenEnumsKeepClauses, is_written_kind, written}
use Rattle.ecma_lower_enums_sources.proofs.Clauses.{is_made, stands-none}
use Rattle.ecma_lower_enums_sources.proofs.Pieces.{is_frame}
use Rattle.ecma_lower_enums_sources.proofs.Relating.{module-written}
use Rattle.ecma_lower_enums_sources.proofs.Relation.{Ones, children_of}
use Rattle.ecma_lower_enums_sources.proofs.SortsKept.{K, N, Q, facts}
use Rattle.ecma_lower_enums_sources.proofs.Suiting.{no}
use Rattle.ecma_lower_enums_sources.proofs.Tests.{dangling-same, loose-same, misread-same, second-same}
use Rattle.ecma_lower_enums_sources.proofs.Trees.{anywhere, fails-everywhere-not, fails-nowhere}

-- a test that what is made passes, and that is the same of a node whose kind stays
abbrev Quiet : (Kind → Node → Bool) → Type 0
Quiet T = (k : Kind) (n : Node) → is_made k ≡ true → T k n ≡ false

abbrev Same : (Kind → Node → Bool) → Type 0
Same T = (enums : KnownEnums) (p : Place) (t : Shape) (k : Kind) (a b : Node) → HaveShapes (child_shapes k t (length (children_of a))) (children_of a)
    → Ones enums N K (place_in enums.writes p k) (child_shapes k t (length (children_of a))) (children_of a) (children_of b) → T k b ≡ T k a

module _ (may_change keeps_constants : Bool) (members : List TsEnumRecordEntry) (tree : Node) (sorted : HasSort sort.Module tree) where
  keeps : (T : Kind → Node → Bool) → Quiet T → Same T → NoneFails (λ w n. T (kind_of n) n) tree → NoneFails (λ w n. T (kind_of n) n) (written may_change keeps_constants members tree)
  keeps T quiet same h =
      let enums = known_enums may_change keeps_constants members tree in
      fails-nowhere (λ n. T (kind_of n) n) (written may_change keeps_constants members tree)
      (stands-none T quiet enums N K (same enums) (module-written enums N K Q (facts enums) tree (anywhere Q (λ n. tt) tree) sorted) (fails-everywhere-not (λ n. T (kind_of n) n) tree h))

abbrev dangling : Kind → Node → Bool
dangling k n = is_choice k && (has_child n 2 && child_holds takes_else n 1)

dangling-quiet : Quiet dangling
dangling-quiet kind.IfStmt n m = no m
dangling-quiet _ n m = refl

loose-quiet : Quiet is_loose_by
loose-quiet (kind.OptChainExpr optional) n m = no m
loose-quiet _ n m = refl

misread-quiet : Quiet is_misread_by
unfolding is_misread_by
misread-quiet (kind.Constructor accessibility is_optional) n m = no m
misread-quiet (kind.ClassMethod k modifiers) n m = no m
misread-quiet (kind.PrivateMethod k modifiers) n m = no m
misread-quiet _ n m = refl

abbrev second : Kind → Node → Bool
second k n = is_some (second_by k n)

second-quiet : Quiet second
second-quiet (kind.Class is_abstract) n m = no m
second-quiet _ n m = refl

pub written_enums_keep_clauses : WrittenEnumsKeepClauses
written_enums_keep_clauses may_change keeps_constants members tree sorted = record {
  branches = λ h. keeps may_change keeps_constants members tree sorted dangling dangling-quiet (λ enums p t k a b have os. dangling-same enums N K p t k a b os) h;
  chains = λ h. keeps may_change keeps_constants members tree sorted is_loose_by loose-quiet (λ enums p t k a b have os. loose-same enums N K p t k a b os) h;
  members = λ h. keeps may_change keeps_constants members tree sorted is_misread_by misread-quiet (λ enums p t k a b have os. misread-same enums N K p t k a b os) h;
  constructors = λ h. keeps may_change keeps_constants members tree sorted second second-quiet (λ enums p t k a b have os. second-same enums N K p t k a b have os) h;
}

-- ---- forms

frame-written : (k : Kind) → is_frame k ≡ true → is_written_kind k ≡ true
frame-written kind.Absent h = refl
frame-written kind.List h = refl
frame-written kind.MemberExpr h = refl
frame-written kind.ComputedPropName h = refl
frame-written (kind.AssignExpr op) h = refl
frame-written (kind.BinExpr op) h = refl
frame-written kind.ObjectLit h = refl
frame-written kind.CallExpr h = refl
frame-written kind.FnExpr h = refl
frame-written (kind.Function is_generator is_async) h = refl
frame-written kind.Param h = refl
frame-written kind.BlockStmt h = refl
frame-written kind.ExprStmt h = refl
frame-written (kind.VarDecl word declare) h = refl
frame-written (kind.VarDeclarator definite) h = refl
frame-written kind.BindingIdent h = refl
frame-written kind.ExportDecl h = refl
frame-written kind.KeyValueProp h = refl
frame-written kind.KeyValuePatProp h = refl
frame-written kind.AssignPat h = refl
frame-written _ h = no h

made-written : (k : Kind) → is_made k ≡ true → is_written_kind k ≡ true
made-written (kind.Ident sym ctxt optional) h = refl
made-written (kind.IdentName sym) h = refl
made-written (kind.Str text raw) h = refl
made-written (kind.Number n raw) h = refl
made-written (kind.UnaryExpr op) h = refl
made-written k h = frame-written k h

pub writing_enums_adds_no_forms : WritingEnumsAddsNoForms
writing_enums_adds_no_forms may_change keeps_constants members tree test none sorted h =
    keeps may_change keeps_constants members tree sorted (λ k n. test k) (λ k n m. none k (made-written k m)) (λ enums p t k a b have os. refl) h
