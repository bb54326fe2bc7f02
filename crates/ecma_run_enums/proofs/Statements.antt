-- Statements and declarations do the same.
use Rattle.std.proofs.Common.{◌≡◌, refl, ℕ, zero, suc, List, [], ◌∷◌, map, Option, Some, None, Bool, false, not, is_some, codes}
use Rattle.ecma_kind.specs.declared.kind.Kind.{Kind}
use Rattle.ecma_kind.specs.declared.kind.Kind.TheVariants as kind
use Rattle.ecma_kind.specs.declared.operators.VarDeclKind.TheVariants.{Var, Let, Const}
use Rattle.ecma_tree.specs.declared.node.Node.{Node}
use Rattle.ecma_runs.specs.Values.{Value, Own, truth_of}
use Rattle.ecma_runs.specs.State.{Id, default_name, Entered, Plain}
use Rattle.ecma_runs.specs.Run.{TurnsSpent, Run, ◌>>=◌, give, throw, return, stop, when, catching, finally, round, loop, spend}
use Rattle.ecma_runs.specs.Environment.{ToFree, ToMember, initialize, empty, new_environment, copy_environment}
use Rattle.ecma_runs.specs.Meaning.{ExecutionContext, inside}
use Rattle.ecma_runs.specs.Statements.{while, do_while, for_rounds, for_loop, block, all_completions, completion_of, all_last, last_of, effect_of, all_members, member_of, all_varied, varied_of, all_hoisted, hoisted_of, caught_of, all_cases, all_switched, switched_of, is_case_of, selected_of}
use Rattle.ecma_run_enums.proofs.Two.{Two, first, second, Part, meanings, assigned_by}
use Rattle.ecma_run_enums.proofs.Functions.{read_object_same, write_same}
use Rattle.ecma_run_enums.proofs.Expressions.{Unasked, value_same}

module _ (t : Two) (x : ExecutionContext) where
  -- ---- loops

  for_rounds_same : (n : ℕ) (test update body : Part t) (place : Entered) → for_rounds n test.0 update.0 body.0 place (first t x) ≡ for_rounds n test.0 update.0 body.0 place (second t x)
  for_rounds_same zero test update body place = λ i. test.1.test (inside x place) i >>= λ v. when (truth_of v) (stop TurnsSpent) (give tt)
  for_rounds_same (suc n) test update body place =
      λ i. test.1.test (inside x place) i >>= λ v. when (truth_of v)
      (spend >>= λ _. round (body.1.completion (inside x place) i) >>= λ _. copy_environment place >>= λ next. update.1.effect (inside x next) i >>= λ _. for_rounds_same n test update body next i) (give tt)

  for_loop_same : (test update body : Part t) (place : Entered) → for_loop test.0 update.0 body.0 place (first t x) ≡ for_loop test.0 update.0 body.0 place (second t x)
  for_loop_same test update body place = λ i s. loop (for_rounds_same s.turns test update body place i) s

  -- ---- lists

  block_same : (statements : Part t) → block statements.0 (first t x) ≡ block statements.0 (second t x)
  block_same statements = λ i. new_environment statements.0.lexicals None >>= λ place. statements.1.hoisted (inside x place) i >>= λ _. statements.1.completion (inside x place) i

  all_completions_same : (ps : List (Part t)) → all_completions (meanings t ps) (first t x) ≡ all_completions (meanings t ps) (second t x)
  all_completions_same [] = refl
  all_completions_same (p ∷ ps) = λ i. p.1.completion x i >>= λ _. all_completions_same ps i

  all_members_same : (leaves_out : Bool) (ids : List Id) (ps : List (Part t)) → all_members leaves_out ids (meanings t ps) (first t x) ≡ all_members leaves_out ids (meanings t ps) (second t x)
  all_members_same leaves_out ids [] = refl
  all_members_same leaves_out ids (p ∷ ps) = λ i. p.1.member leaves_out ids x i >>= λ _. all_members_same leaves_out ids ps i

  all_varied_same : (ps : List (Part t)) → all_varied (meanings t ps) (first t x) ≡ all_varied (meanings t ps) (second t x)
  all_varied_same [] = refl
  all_varied_same (p ∷ ps) = λ i. p.1.varied x i >>= λ _. all_varied_same ps i

  all_hoisted_same : (ps : List (Part t)) → all_hoisted (meanings t ps) (first t x) ≡ all_hoisted (meanings t ps) (second t x)
  all_hoisted_same [] = refl
  all_hoisted_same (p ∷ ps) = λ i. p.1.hoisted x i >>= λ _. all_hoisted_same ps i

  all_last_same : (ps : List (Part t)) → all_last (meanings t ps) (first t x) ≡ all_last (meanings t ps) (second t x)
  all_last_same [] = refl
  all_last_same (p ∷ ps) = λ i. p.1.last x i >>= λ _. all_last_same ps i

  -- ---- by kind

  pub completion_same : (k : Kind) (ps : List (Part t)) → completion_of k (meanings t ps) (first t x) ≡ completion_of k (meanings t ps) (second t x)
  completion_same kind.List ps = all_completions_same ps
  completion_same (kind.Module shebang) (body ∷ []) = λ i. body.1.completion x i >>= λ _. body.1.last x i
  completion_same kind.ExprStmt (e ∷ []) = λ i. e.1.value x i >>= λ _. give tt
  completion_same (kind.VarDecl Var false) (declarators ∷ []) = declarators.1.varied x
  completion_same (kind.VarDecl Let false) (declarators ∷ []) = declarators.1.completion x
  completion_same (kind.VarDecl Const false) (declarators ∷ []) = declarators.1.completion x
  completion_same (kind.VarDeclarator definite) (name ∷ init ∷ []) = λ i. init.1.initial x i >>= λ v. name.1.bound v x i
  completion_same (kind.FnDecl false) ps = refl
  completion_same (kind.ImportDecl false) ps = refl
  completion_same (kind.NamedExport false) ps = refl
  completion_same (kind.ExportAll false) ps = refl
  completion_same (kind.ClassDecl false) (name ∷ class ∷ []) = λ i. class.1.class_made name.0.names x i >>= λ v. initialize x.scope name.0.names v
  completion_same kind.BlockStmt (statements ∷ []) = block_same statements
  completion_same kind.IfStmt (test ∷ yes' ∷ no' ∷ []) = λ i. test.1.value x i >>= λ v. when (truth_of v) (yes'.1.completion x i) (no'.1.completion x i)
  completion_same kind.WhileStmt (test ∷ body ∷ []) = λ i. while (test.1.value x i) (body.1.completion x i)
  completion_same kind.DoWhileStmt (test ∷ body ∷ []) = λ i. do_while (test.1.value x i) (body.1.completion x i)
  completion_same kind.ForStmt (init ∷ test ∷ update ∷ body ∷ []) =
      λ i. new_environment init.0.lexicals None >>= λ place. init.1.effect (inside x place) i >>= λ _. copy_environment place >>= λ next. for_loop_same test update body next i
  completion_same kind.ReturnStmt (e ∷ []) = λ i. e.1.initial x i >>= λ v. return v
  completion_same kind.ThrowStmt (e ∷ []) = λ i. e.1.value x i >>= λ v. throw v
  completion_same kind.BreakStmt (label ∷ []) = refl
  completion_same kind.ContinueStmt (label ∷ []) = refl
  completion_same kind.DebuggerStmt [] = refl
  completion_same kind.SwitchStmt (discriminant ∷ cases ∷ []) =
      λ i. discriminant.1.value x i >>= λ v. new_environment cases.0.lexicals None >>= λ place. cases.1.hoisted (inside x place) i >>= λ _. loop (cases.1.switched v (inside x place) i)
  completion_same kind.SwitchCase (test ∷ statements ∷ []) = statements.1.completion x
  completion_same kind.TryStmt (body ∷ handler ∷ last ∷ []) = λ i. finally (catching (body.1.completion x i) (λ v. handler.1.caught v x i)) (last.1.completion x i)
  completion_same kind.ExportDecl (declaration ∷ []) = declaration.1.completion x
  completion_same kind.ExportDefaultExpr (e ∷ []) = λ i. e.1.initial x i >>= λ v. initialize x.scope (default_name ∷ []) v
  completion_same kind.ExportDefaultDecl (declaration ∷ []) = λ i. when declaration.0.has_body (give tt) (declaration.1.value x i >>= λ v. initialize x.scope declaration.0.default_names v)
  completion_same _ ps = refl

  pub last_same : (k : Kind) (ps : List (Part t)) → last_of k (meanings t ps) (first t x) ≡ last_of k (meanings t ps) (second t x)
  last_same kind.List ps = all_last_same ps
  last_same kind.TsExportAssignment (e ∷ []) = λ i. read_object_same t x (ToFree (codes "module")) i >>= λ o. e.1.value x i >>= λ v. write_same t x (ToMember o (codes "exports")) v i
  last_same _ ps = refl

  pub effect_same : (node : Node) (k : Kind) (ps : List (Part t)) → Unasked t node k → effect_of node k (meanings t ps) (first t x) ≡ effect_of node k (meanings t ps) (second t x)
  effect_same node kind.Absent ps h = refl
  effect_same node (kind.VarDecl word declare) ps h = completion_same (kind.VarDecl word declare) ps
  effect_same node k ps h = λ i. value_same t x node k ps h i >>= λ _. give tt

  pub members_same : (k : Kind) (ps : List (Part t)) (leaves_out : Bool) (ids : List Id) → member_of k (meanings t ps) leaves_out ids (first t x) ≡ member_of k (meanings t ps) leaves_out ids (second t x)
  members_same kind.List ps leaves_out ids = all_members_same leaves_out ids ps
  members_same _ ps leaves_out ids = refl

  pub varied_same : (k : Kind) (ps : List (Part t)) → varied_of k (meanings t ps) (first t x) ≡ varied_of k (meanings t ps) (second t x)
  varied_same kind.List ps = all_varied_same ps
  varied_same (kind.VarDeclarator definite) (name ∷ init ∷ []) = λ i. when init.0.is_absent (give tt) (assigned_by t x name (init.1.value x) i >>= λ _. give tt)
  varied_same _ ps = refl

  pub hoisted_same : (k : Kind) (ps : List (Part t)) → hoisted_of k (meanings t ps) (first t x) ≡ hoisted_of k (meanings t ps) (second t x)
  hoisted_same kind.List ps = all_hoisted_same ps
  hoisted_same (kind.Module shebang) (body ∷ []) = body.1.hoisted x
  hoisted_same kind.ExportDecl (declaration ∷ []) = declaration.1.hoisted x
  hoisted_same kind.ExportDefaultDecl (declaration ∷ []) = λ i. when declaration.0.has_body (declaration.1.default_made x i >>= λ f. initialize x.scope declaration.0.default_names (Own f)) (give tt)
  hoisted_same (kind.FnDecl false) (name ∷ function ∷ []) = λ i. function.1.made Plain None x i >>= λ f. initialize x.scope name.0.names (Own f)
  hoisted_same kind.SwitchCase (test ∷ statements ∷ []) = statements.1.hoisted x
  hoisted_same _ ps = refl

  pub caught_same : (k : Kind) (ps : List (Part t)) (v : Value) → caught_of k (meanings t ps) v (first t x) ≡ caught_of k (meanings t ps) v (second t x)
  caught_same kind.CatchClause (parameter ∷ body ∷ []) v =
      λ i. new_environment (map (empty false) parameter.0.names) None >>= λ place.
      when parameter.0.is_absent (give tt) (parameter.1.bound v (inside x place) i) >>= λ _. body.1.completion (inside x place) i
  caught_same _ ps v = refl

  -- ---- `switch`

  all_cases_same : (ps : List (Part t)) (o : Option Value) {otherwise otherwise' : Run (Unit {0})} → otherwise ≡ otherwise' → all_cases (meanings t ps) o otherwise (first t x) ≡ all_cases (meanings t ps) o otherwise' (second t x)
  all_cases_same [] o same = same
  all_cases_same (p ∷ ps) o same = λ i. p.1.selected o x i >>= λ b. when b (all_completions_same (p ∷ ps) i) (all_cases_same ps o same i)

  all_switched_same : (ps : List (Part t)) (v : Value) → all_switched (meanings t ps) v (first t x) ≡ all_switched (meanings t ps) v (second t x)
  all_switched_same ps v = all_cases_same ps (Some v) (all_cases_same ps None refl)

  pub switched_same : (k : Kind) (ps : List (Part t)) (v : Value) → switched_of k (meanings t ps) v (first t x) ≡ switched_of k (meanings t ps) v (second t x)
  switched_same kind.List ps v = all_switched_same ps v
  switched_same _ ps v = refl

  pub selected_same : (k : Kind) (ps : List (Part t)) (o : Option Value) → selected_of k (meanings t ps) o (first t x) ≡ selected_of k (meanings t ps) o (second t x)
  selected_same kind.SwitchCase (test ∷ statements ∷ []) o = λ i. when test.0.is_absent (give (not (is_some o))) (is_case_of o (test.1.value x i))
  selected_same _ ps o = refl
