-- Statements and declarations keep it so.
use Rattle.std.proofs.Common.{ℕ, zero, suc, List, [], ◌∷◌, map, Option, Some, None, Bool, false, not, is_some, codes}
use Rattle.ecma_kind.specs.declared.kind.Kind.{Kind}
use Rattle.ecma_kind.specs.declared.kind.Kind.TheVariants as kind
use Rattle.ecma_kind.specs.declared.operators.VarDeclKind.TheVariants.{Var, Let, Const}
use Rattle.ecma_tree.specs.declared.node.Node.{Node}
use Rattle.ecma_runs.specs.Values.{Value, Own, truth_of}
use Rattle.ecma_runs.specs.State.{Id, default_name, Entered, Plain}
use Rattle.ecma_runs.specs.Run.{TurnsSpent, Run}
use Rattle.ecma_runs.specs.Environment.{ToFree, ToMember, empty}
use Rattle.ecma_runs.specs.Meaning.{ExecutionContext, inside}
use Rattle.ecma_runs.specs.Operators.{strictly_equal}
use Rattle.ecma_runs.specs.Statements.{rounds, while, do_while, for_rounds, for_loop, block, all_completions, completion_of, all_last, last_of, effect_of, all_members, member_of, all_varied, varied_of, all_hoisted, hoisted_of, caught_of, all_cases, switched_of, is_case_of, selected_of}
use Rattle.ecma_run_constructions.proofs.Keeping.{Keeps, bind, give_keeps, throw_keeps, return_keeps, break_keeps, continue_keeps, stop_keeps, outside_keeps, when_keeps, given_keeps, catching_keeps, finally_keeps, round_keeps, loop_held, loop_keeps, spend_keeps}
use Rattle.ecma_run_constructions.proofs.States.{new_environment_keeps, copy_environment_keeps, initialize_keeps}
use Rattle.ecma_run_constructions.proofs.Functions.{Sound, read_object_keeps, write_keeps}
use Rattle.ecma_run_constructions.proofs.Expressions.{Part, meanings, value_keeps}

-- ---- loops

rounds_keeps : (n : ℕ) {test : Run Value} {body : Run (Unit {0})} → Keeps test → Keeps body → Keeps (rounds n test body)
rounds_keeps zero ht hb = bind ht (λ v. when_keeps (truth_of v) (stop_keeps TurnsSpent) (give_keeps tt))
rounds_keeps (suc n) ht hb = bind ht (λ v. when_keeps (truth_of v) (bind spend_keeps (λ _. bind (round_keeps hb) (λ _. rounds_keeps n ht hb))) (give_keeps tt))

while_keeps : {test : Run Value} {body : Run (Unit {0})} → Keeps test → Keeps body → Keeps (while test body)
while_keeps {test = test} {body = body} ht hb = record { at = λ s. loop_held s (rounds s.turns test body s) ((rounds_keeps s.turns ht hb).at s) }

do_while_keeps : {test : Run Value} {body : Run (Unit {0})} → Keeps test → Keeps body → Keeps (do_while test body)
do_while_keeps ht hb = loop_keeps (bind spend_keeps (λ _. bind (round_keeps hb) (λ _. record { at = λ s. (rounds_keeps s.turns ht hb).at s })))

is_case_keeps : (o : Option Value) {test : Run Value} → Keeps test → Keeps (is_case_of o test)
is_case_keeps None h = give_keeps false
is_case_keeps (Some v) h = bind h (λ w. given_keeps (strictly_equal v w))

module _ (x : ExecutionContext) (sound : Sound x.functions) where
  for_rounds_keeps : (n : ℕ) (test update body : Part) (place : Entered) → Keeps (for_rounds n test.0 update.0 body.0 place x)
  for_rounds_keeps zero test update body place = bind (test.1.test (inside x place) sound) (λ v. when_keeps (truth_of v) (stop_keeps TurnsSpent) (give_keeps tt))
  for_rounds_keeps (suc n) test update body place =
      bind (test.1.test (inside x place) sound) (λ v. when_keeps (truth_of v)
      (bind spend_keeps (λ _. bind (round_keeps (body.1.completion (inside x place) sound)) (λ _. bind (copy_environment_keeps place) (λ next.
      bind (update.1.effect (inside x next) sound) (λ _. for_rounds_keeps n test update body next))))) (give_keeps tt))

  for_loop_keeps : (test update body : Part) (place : Entered) → Keeps (for_loop test.0 update.0 body.0 place x)
  for_loop_keeps test update body place = record { at = λ s. loop_held s (for_rounds s.turns test.0 update.0 body.0 place x s) ((for_rounds_keeps s.turns test update body place).at s) }

  -- ---- lists

  block_keeps : (statements : Part) → Keeps (block statements.0 x)
  block_keeps statements = bind (new_environment_keeps statements.0.lexicals None) (λ place. bind (statements.1.hoisted (inside x place) sound) (λ _. statements.1.completion (inside x place) sound))

  all_completions_keeps : (ps : List Part) → Keeps (all_completions (meanings ps) x)
  all_completions_keeps [] = give_keeps tt
  all_completions_keeps (p ∷ ps) = bind (p.1.completion x sound) (λ _. all_completions_keeps ps)

  all_members_keeps : (leaves_out : Bool) (ids : List Id) (ps : List Part) → Keeps (all_members leaves_out ids (meanings ps) x)
  all_members_keeps leaves_out ids [] = give_keeps tt
  all_members_keeps leaves_out ids (p ∷ ps) = bind (p.1.member leaves_out ids x sound) (λ _. all_members_keeps leaves_out ids ps)

  all_varied_keeps : (ps : List Part) → Keeps (all_varied (meanings ps) x)
  all_varied_keeps [] = give_keeps tt
  all_varied_keeps (p ∷ ps) = bind (p.1.varied x sound) (λ _. all_varied_keeps ps)

  all_hoisted_keeps : (ps : List Part) → Keeps (all_hoisted (meanings ps) x)
  all_hoisted_keeps [] = give_keeps tt
  all_hoisted_keeps (p ∷ ps) = bind (p.1.hoisted x sound) (λ _. all_hoisted_keeps ps)

  all_last_keeps : (ps : List Part) → Keeps (all_last (meanings ps) x)
  all_last_keeps [] = give_keeps tt
  all_last_keeps (p ∷ ps) = bind (p.1.last x sound) (λ _. all_last_keeps ps)

  -- ---- by kind

  pub completion_keeps : (k : Kind) (ps : List Part) → Keeps (completion_of k (meanings ps) x)
  completion_keeps kind.Absent ps = give_keeps tt
  completion_keeps kind.List ps = all_completions_keeps ps
  completion_keeps (kind.Module shebang) (body ∷ []) = bind (body.1.completion x sound) (λ _. body.1.last x sound)
  completion_keeps kind.ExprStmt (e ∷ []) = bind (e.1.value x sound) (λ _. give_keeps tt)
  completion_keeps (kind.VarDecl Var false) (declarators ∷ []) = declarators.1.varied x sound
  completion_keeps (kind.VarDecl Let false) (declarators ∷ []) = declarators.1.completion x sound
  completion_keeps (kind.VarDecl Const false) (declarators ∷ []) = declarators.1.completion x sound
  completion_keeps (kind.VarDeclarator definite) (name ∷ init ∷ []) = bind (init.1.initial x sound) (λ v. name.1.bound v x sound)
  completion_keeps (kind.FnDecl false) ps = give_keeps tt
  completion_keeps (kind.ClassDecl false) (name ∷ class ∷ []) = bind (class.1.class_made name.0.names x sound) (λ v. initialize_keeps x.scope name.0.names v)
  completion_keeps kind.BlockStmt (statements ∷ []) = block_keeps statements
  completion_keeps kind.IfStmt (test ∷ yes' ∷ no' ∷ []) = bind (test.1.value x sound) (λ v. when_keeps (truth_of v) (yes'.1.completion x sound) (no'.1.completion x sound))
  completion_keeps kind.WhileStmt (test ∷ body ∷ []) = while_keeps (test.1.value x sound) (body.1.completion x sound)
  completion_keeps kind.DoWhileStmt (test ∷ body ∷ []) = do_while_keeps (test.1.value x sound) (body.1.completion x sound)
  completion_keeps kind.ForStmt (init ∷ test ∷ update ∷ body ∷ []) =
      bind (new_environment_keeps init.0.lexicals None) (λ place. bind (init.1.effect (inside x place) sound) (λ _. bind (copy_environment_keeps place) (λ next. for_loop_keeps test update body next)))
  completion_keeps kind.ReturnStmt (e ∷ []) = bind (e.1.initial x sound) (λ v. return_keeps v)
  completion_keeps kind.ThrowStmt (e ∷ []) = bind (e.1.value x sound) (λ v. throw_keeps v)
  completion_keeps kind.BreakStmt (label ∷ []) = when_keeps label.0.is_absent break_keeps outside_keeps
  completion_keeps kind.ContinueStmt (label ∷ []) = when_keeps label.0.is_absent continue_keeps outside_keeps
  completion_keeps kind.SwitchStmt (discriminant ∷ cases ∷ []) =
      bind (discriminant.1.value x sound) (λ v. bind (new_environment_keeps cases.0.lexicals None) (λ place. bind (cases.1.hoisted (inside x place) sound) (λ _. loop_keeps (cases.1.switched v (inside x place) sound))))
  completion_keeps kind.SwitchCase (test ∷ statements ∷ []) = statements.1.completion x sound
  completion_keeps kind.TryStmt (body ∷ handler ∷ last ∷ []) = finally_keeps (catching_keeps (body.1.completion x sound) (λ v. handler.1.caught v x sound)) (last.1.completion x sound)
  completion_keeps kind.DebuggerStmt [] = give_keeps tt
  completion_keeps (kind.ImportDecl false) ps = give_keeps tt
  completion_keeps kind.ExportDecl (declaration ∷ []) = declaration.1.completion x sound
  completion_keeps kind.ExportDefaultExpr (e ∷ []) = bind (e.1.initial x sound) (λ v. initialize_keeps x.scope (default_name ∷ []) v)
  completion_keeps kind.ExportDefaultDecl (declaration ∷ []) = when_keeps declaration.0.has_body (give_keeps tt) (bind (declaration.1.value x sound) (λ v. initialize_keeps x.scope declaration.0.default_names v))
  completion_keeps (kind.NamedExport false) ps = give_keeps tt
  completion_keeps (kind.ExportAll false) ps = give_keeps tt
  completion_keeps kind.TsExportAssignment ps = give_keeps tt
  completion_keeps (kind.TsTypeAliasDecl declare) ps = give_keeps tt
  completion_keeps _ ps = outside_keeps

  pub last_keeps : (k : Kind) (ps : List Part) → Keeps (last_of k (meanings ps) x)
  last_keeps kind.List ps = all_last_keeps ps
  last_keeps kind.TsExportAssignment (e ∷ []) = bind (read_object_keeps x sound (ToFree (codes "module"))) (λ o. bind (e.1.value x sound) (λ v. write_keeps x sound (ToMember o (codes "exports")) v))
  last_keeps _ ps = give_keeps tt

  pub effect_keeps : (node : Node) (k : Kind) (ps : List Part) → Keeps (effect_of node k (meanings ps) x)
  effect_keeps node kind.Absent ps = give_keeps tt
  effect_keeps node (kind.VarDecl word declare) ps = completion_keeps (kind.VarDecl word declare) ps
  effect_keeps node k ps = bind (value_keeps x sound node k ps) (λ _. give_keeps tt)

  pub members_keeps : (k : Kind) (ps : List Part) (leaves_out : Bool) (ids : List Id) → Keeps (member_of k (meanings ps) leaves_out ids x)
  members_keeps kind.List ps leaves_out ids = all_members_keeps leaves_out ids ps
  members_keeps (kind.TsTypeAliasDecl declare) ps leaves_out ids = give_keeps tt
  members_keeps _ ps leaves_out ids = outside_keeps

  pub varied_keeps : (k : Kind) (ps : List Part) → Keeps (varied_of k (meanings ps) x)
  varied_keeps kind.List ps = all_varied_keeps ps
  varied_keeps (kind.VarDeclarator definite) (name ∷ init ∷ []) = when_keeps init.0.is_absent (give_keeps tt) (bind (name.1.assigned (init.1.value x sound) x sound) (λ _. give_keeps tt))
  varied_keeps (kind.TsTypeAliasDecl declare) ps = give_keeps tt
  varied_keeps _ ps = outside_keeps

  pub hoisted_keeps : (k : Kind) (ps : List Part) → Keeps (hoisted_of k (meanings ps) x)
  hoisted_keeps kind.List ps = all_hoisted_keeps ps
  hoisted_keeps (kind.Module shebang) (body ∷ []) = body.1.hoisted x sound
  hoisted_keeps kind.ExportDecl (declaration ∷ []) = declaration.1.hoisted x sound
  hoisted_keeps kind.ExportDefaultDecl (declaration ∷ []) = when_keeps declaration.0.has_body (bind (declaration.1.default_made x sound) (λ f. initialize_keeps x.scope declaration.0.default_names (Own f))) (give_keeps tt)
  hoisted_keeps (kind.FnDecl false) (name ∷ function ∷ []) = bind (function.1.made Plain None x sound) (λ f. initialize_keeps x.scope name.0.names (Own f))
  hoisted_keeps kind.SwitchCase (test ∷ statements ∷ []) = statements.1.hoisted x sound
  hoisted_keeps _ ps = give_keeps tt

  pub caught_keeps : (k : Kind) (ps : List Part) (v : Value) → Keeps (caught_of k (meanings ps) v x)
  caught_keeps kind.Absent ps v = throw_keeps v
  caught_keeps kind.CatchClause (parameter ∷ body ∷ []) v =
      bind (new_environment_keeps (map (empty false) parameter.0.names) None) (λ place. bind (when_keeps parameter.0.is_absent (give_keeps tt) (parameter.1.bound v (inside x place) sound)) (λ _. body.1.completion (inside x place) sound))
  caught_keeps _ ps v = outside_keeps

  -- ---- `switch`

  all_cases_keeps : (ps : List Part) (o : Option Value) {otherwise : Run (Unit {0})} → Keeps otherwise → Keeps (all_cases (meanings ps) o otherwise x)
  all_cases_keeps [] o h = h
  all_cases_keeps (p ∷ ps) o h = bind (p.1.selected o x sound) (λ b. when_keeps b (all_completions_keeps (p ∷ ps)) (all_cases_keeps ps o h))

  pub switched_keeps : (k : Kind) (ps : List Part) (v : Value) → Keeps (switched_of k (meanings ps) v x)
  switched_keeps kind.List ps v = all_cases_keeps ps (Some v) (all_cases_keeps ps None (give_keeps tt))
  switched_keeps _ ps v = outside_keeps

  pub selected_keeps : (k : Kind) (ps : List Part) (o : Option Value) → Keeps (selected_of k (meanings ps) o x)
  selected_keeps kind.SwitchCase (test ∷ statements ∷ []) o = when_keeps test.0.is_absent (give_keeps (not (is_some o))) (is_case_keeps o (test.1.value x sound))
  selected_keeps (kind.TsTypeAliasDecl declare) ps o = give_keeps false
  selected_keeps _ ps o = outside_keeps
