-- What the laws say of two changes.
use Rattle.std.proofs.Common.{◌≡◌, ◌∙◌, refl, ap, ap₂, ℕ, zero, pos, List, [], ◌∷◌, ◌++◌, map, Option, Some, Bool, true, false, not}
use Rattle.ecma_number.specs.declared.js_number.JsNumber.TheVariants.{Whole}
use Rattle.ecma_kind.specs.declared.kind.Kind.{Kind}
use Rattle.ecma_kind.specs.declared.kind.Kind.TheVariants as kind
use Rattle.ecma_kind.specs.declared.operators.UnaryOp.TheVariants as operator
use Rattle.ecma_kind.specs.declared.operators.VarDeclKind.TheVariants.{Let}
use Rattle.ecma_kind.specs.declared.span.Span.{Span}
use Rattle.ecma_tree.specs.declared.node.Node.{Node, Node-F, out-Node}
use Rattle.ecma_tree.specs.declared.node.Node.TheViews.{out-roll-Node}
use Rattle.ecma_tree.specs.Nodes.{absent, node_of}
use Rattle.ecma_config.specs.declared.config.Config.{Config}
use Rattle.ecma_runs.specs.Enums.{lacks_enums}
use Rattle.ecma_runs.specs.declared.script.Script.{Script}
use Rattle.ecma_runs.specs.State.{Id, same_id, default_name}
use Rattle.ecma_runs.specs.Meaning.{Meaning}
use Rattle.ecma_runs.specs.Evaluation.{meaning_by, meaning}
use Rattle.ecma_runs.specs.Observation.{observe}
use Rattle.ecma_runs.specs.Names.{ids_pass}
use Rattle.ecma_runs.proofs.Layer.{meaning-roll, meaning_out}
use Rattle.ecma_runs.proofs.Names.{same_id-itself}
use Rattle.ecma_run_laws.specs.Exchanged.{ReadsAlike, exchanged}
use Rattle.ecma_run_laws.specs.Lessened.{are_gone, declarator_goes, is_idle_declarator_by, statement_goes, module_of}
use Rattle.ecma_run_laws.proofs.Exchanging.{equal_expressions_may_stand_for_each_other}
use Rattle.ecma_run_laws.proofs.Declaring.{new_names_may_be_declared}

-- `true` for `!0`

abbrev true_for : Kind → List Node → Node → Node
true_for (kind.Number (Some (Whole (pos zero))) raw) [] n = node_of (out-Node n).span (kind.Bool true) []
true_for k cs n = n

abbrev plainer_by : Kind → List Node → Node → Node
plainer_by (kind.UnaryExpr operator.Bang) (e ∷ []) n = true_for (out-Node e).kind (out-Node e).children n
plainer_by k cs n = n

abbrev plainer : Node → Node
plainer n = plainer_by (out-Node n).kind (out-Node n).children n

itself : (m : Meaning) → ReadsAlike m m
itself m = record { value = refl; initial = refl; arguments = refl; elements = refl; texts = refl; effect = refl; test = refl; body = refl; vars = refl; locals = refl; declared = refl; is_absent = refl }

true_reads : (n e n' : Node) (raw : Option (List ℕ)) → ReadsAlike (meaning_by n (kind.UnaryExpr operator.Bang) (meaning_by e (kind.Number (Some (Whole (pos zero))) raw) [] ∷ [])) (meaning_by n' (kind.Bool true) [])
true_reads n e n' raw = record { value = refl; initial = refl; arguments = refl; elements = refl; texts = refl; effect = refl; test = refl; body = refl; vars = refl; locals = refl; declared = refl; is_absent = refl }

true_alike : (n e : Node) (k : Kind) (cs : List Node) → meaning n ≡ meaning_by n (kind.UnaryExpr operator.Bang) (meaning e ∷ []) → meaning e ≡ meaning_by e k (map meaning cs) → ReadsAlike (meaning n) (meaning (true_for k cs n))
true_alike n e (kind.Number (Some (Whole (pos zero))) raw) [] is es =
    rw (is, es, meaning-roll (record { span = (out-Node n).span; kind = kind.Bool true; children = [] })) (true_reads n e (node_of (out-Node n).span (kind.Bool true) []) raw)
true_alike n e k cs is es = itself (meaning n)

plainer_alike : (n : Node) (k : Kind) (cs : List Node) → meaning n ≡ meaning_by n k (map meaning cs) → ReadsAlike (meaning n) (meaning (plainer_by k cs n))
plainer_alike n (kind.UnaryExpr operator.Bang) (e ∷ []) is = true_alike n e (out-Node e).kind (out-Node e).children is (meaning_out e)
plainer_alike n k cs is = itself (meaning n)

-- wherever `!0` is only read, in the bodies of functions too
pub true_for_not_zero : (turns : ℕ) (options : Config) (m : Node) (script : Script) → lacks_enums m ≡ true → lacks_enums (exchanged plainer m) ≡ true → observe turns options (exchanged plainer m) script ≡ observe turns options m script
true_for_not_zero = equal_expressions_may_stand_for_each_other plainer (λ n. plainer_alike n (out-Node n).kind (out-Node n).children (meaning_out n))

-- `let key;` at the head of a module

module _ (place : Span) (key : Id) where
  abbrev key_node : Node
  key_node = node_of place (kind.Ident key.sym key.ctxt false) []

  abbrev name_node : Node
  name_node = node_of place kind.BindingIdent (key_node ∷ absent ∷ [])

  abbrev declarator_node : Node
  declarator_node = node_of place (kind.VarDeclarator false) (name_node ∷ absent ∷ [])

  abbrev list_of_one : Node
  list_of_one = node_of place kind.List (declarator_node ∷ [])

  abbrev pub let_node : Node
  let_node = node_of place (kind.VarDecl Let false) (list_of_one ∷ [])

  abbrev layer : Kind → List Node → Node-F Node
  layer k cs = record { span = place; kind = k; children = cs }

  absent_means : meaning absent ≡ meaning_by absent kind.Absent []
  absent_means = meaning-roll (record { span = record { lo = 0; hi = 0 }; kind = kind.Absent; children = [] })

  name_means : meaning name_node ≡ meaning_by name_node kind.BindingIdent (meaning_by key_node (kind.Ident key.sym key.ctxt false) [] ∷ meaning_by absent kind.Absent [] ∷ [])
  name_means =
      meaning-roll (layer kind.BindingIdent (key_node ∷ absent ∷ []))
      ∙ ap₂ (λ a b. meaning_by name_node kind.BindingIdent (a ∷ b ∷ [])) (meaning-roll (layer (kind.Ident key.sym key.ctxt false) [])) absent_means

  declarator_declares : (meaning declarator_node).declared ≡ key ∷ []
  declarator_declares =
      ap (λ m. m.declared) (meaning-roll (layer (kind.VarDeclarator false) (name_node ∷ absent ∷ []))
      ∙ ap₂ (λ a b. meaning_by declarator_node (kind.VarDeclarator false) (a ∷ b ∷ [])) name_means absent_means)

  let_declares : (meaning let_node).declared ≡ key ∷ []
  let_declares =
      ap (λ m. m.declared) (meaning-roll (layer (kind.VarDecl Let false) (list_of_one ∷ []))
      ∙ ap (λ a. meaning_by let_node (kind.VarDecl Let false) (a ∷ [])) (meaning-roll (layer kind.List (declarator_node ∷ []))))
      ∙ ap (λ ids. (ids ++ []) ++ []) declarator_declares

  abbrev gone : Id → Bool
  gone id = same_id id key

  declares_one : (ids : List Id) → ids ≡ key ∷ [] → are_gone gone ids ≡ true
  declares_one ids e = ap (are_gone gone) e ∙ rw (same_id-itself key) refl

  declarator_idle : is_idle_declarator_by (out-Node declarator_node).kind (out-Node declarator_node).children ≡ true
  declarator_idle =
      rw (out-roll-Node (layer (kind.VarDeclarator false) (name_node ∷ absent ∷ [])), out-roll-Node (layer kind.BindingIdent (key_node ∷ absent ∷ [])), out-roll-Node (record { span = record { lo = 0; hi = 0 }; kind = kind.Absent; children = [] })) refl

  declarator_is_gone : declarator_goes gone declarator_node ≡ true
  declarator_is_gone = rw (declarator_idle, declares_one (meaning declarator_node).declared declarator_declares) refl

  let_goes : statement_goes gone let_node ≡ true
  let_goes =
      rw (out-roll-Node (layer (kind.VarDecl Let false) (list_of_one ∷ [])), out-roll-Node (layer kind.List (declarator_node ∷ [])), declarator_is_gone, declares_one (meaning let_node).declared let_declares) refl

  pub let_may_come : (turns : ℕ) (options : Config) (script : Script) (span : Span) (shebang : Option (List ℕ)) (items : List Node) → lacks_enums (module_of span shebang place (let_node ∷ items)) ≡ true → not (gone default_name) ≡ true → ids_pass (λ id. not (gone id)) (module_of span shebang place items) ≡ true
      → observe turns options (module_of span shebang place (let_node ∷ items)) script ≡ observe turns options (module_of span shebang place items) script
  let_may_come turns options script span shebang items lacks other pass = new_names_may_be_declared gone turns options script span place shebang (let_node ∷ []) items lacks other (rw let_goes refl) pass
