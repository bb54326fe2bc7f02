-- A module runs as before with one item more that does nothing.
use Rattle.std.proofs.Common.{◌≡◌, ◌∙◌, ℕ, false, refl, sym, ap, ap₂, List, [], ◌∷◌, ◌++◌, map, Option, Some, None}
use Rattle.ecma_config.specs.declared.config.Config.{Config}
use Rattle.ecma_kind.specs.declared.kind.Kind.TheVariants as kind
use Rattle.ecma_kind.specs.declared.span.Span.{Span}
use Rattle.ecma_tree.specs.Nodes.{absent, dummy_span, list_node}
use Rattle.ecma_tree.specs.declared.node.Node.{Node}
use Rattle.ecma_lower.specs.Marking.{empty_export}
use Rattle.ecma_runs.specs.declared.script.Script.{Script}
use Rattle.ecma_runs.specs.Declarations.{all_declared, all_exports, all_last_declared, all_lexicals, all_vars}
use Rattle.ecma_runs.specs.Evaluation.{meaning, meaning_by}
use Rattle.ecma_runs.specs.Environment.{filled, new_environment}
use Rattle.ecma_runs.specs.Enums.{bare, enums_in}
use Rattle.ecma_runs.specs.Exports.{Exported, local_ids}
use Rattle.ecma_runs.specs.Host.{provided_by}
use Rattle.ecma_runs.specs.Meaning.{ExecutionContext, Known, Meaning}
use Rattle.ecma_runs.specs.Observation.{enums_of, module_activation, module_context, observe, observed, run_actions, shown_to_host, start}
use Rattle.ecma_runs.specs.Run.{◌>>=◌, give}
use Rattle.ecma_runs.specs.State.{Binding, Entered, Id}
use Rattle.ecma_runs.specs.Statements.{all_completions, all_hoisted, all_last}
use Rattle.ecma_runs.specs.Values.{Undefined}
use Rattle.ecma_runs.proofs.Layer.{meaning-roll}
use Rattle.ecma_marks.specs.Laws.{MarkedTreesRunAlike}
use Rattle.ecma_marks.proofs.Adding.{where-it-may-come}
use Rattle.ecma_marks.proofs.Enums.{known-same}
use Rattle.ecma_marks.proofs.Modules.{list_at, module_at, with_export}

-- ---- what is observed of a module is observed of what these are

pub record RunsAlike (m m' : Meaning) : Type 0 where
  pub locals : m'.locals ≡ m.locals
  pub hoisted : m'.hoisted ≡ m.hoisted
  pub completion : m'.completion ≡ m.completion
  pub declared : m'.declared ≡ m.declared
  pub exports : m'.exports None ≡ m.exports None

pub observed-alike : (turns : ℕ) (options : Config) (n n' : Node) (script : Script) → RunsAlike (meaning n) (meaning n') → enums_of options n' ≡ enums_of options n → observe turns options n' script ≡ observe turns options n script
observed-alike turns options n n' script same stay = λ i.
    let known : Known = record { declared = same.declared i; enums = stay i } in
    let around : Entered → ExecutionContext = λ place. module_context (provided_by script) known place in
    observed
    ((new_environment (map filled (same.locals i)) (Some module_activation) >>= λ place.
    shown_to_host (same.hoisted i (around place) >>= λ _. same.completion i (around place) >>= λ _. give Undefined) >>= λ outcome.
    run_actions (around place) (same.exports i) script.actions outcome)
    (start turns script))

-- ---- an item that does nothing, declares nothing and exports nothing

pub record IsIdle (m : Meaning) : Type 0 where
  pub completion : m.completion ≡ λ x. give tt
  pub hoisted : m.hoisted ≡ λ x. give tt
  pub last : m.last ≡ λ x. give tt
  pub vars : m.vars ≡ []
  pub lexicals : m.lexicals ≡ []
  pub declared : m.declared ≡ []
  pub last_declared : m.last_declared ≡ []
  pub exports : m.exports None ≡ []

module _ (e : Node) (idle : IsIdle (meaning e)) where
  abbrev more : List Node → List Node
  more ns = ns ++ e ∷ []

  vars_more : (ns : List Node) → all_vars (map meaning (more ns)) ≡ all_vars (map meaning ns)
  vars_more [] = ap (λ (z : List Binding). z ++ []) idle.vars
  vars_more (n ∷ ns) = ap (λ (z : List Binding). (meaning n).vars ++ z) (vars_more ns)

  lexicals_more : (ns : List Node) → all_lexicals (map meaning (more ns)) ≡ all_lexicals (map meaning ns)
  lexicals_more [] = ap (λ (z : List Binding). z ++ []) idle.lexicals
  lexicals_more (n ∷ ns) = ap (λ (z : List Binding). (meaning n).lexicals ++ z) (lexicals_more ns)

  declared_more : (ns : List Node) → all_declared (map meaning (more ns)) ≡ all_declared (map meaning ns)
  declared_more [] = ap (λ (z : List Id). z ++ []) idle.declared
  declared_more (n ∷ ns) = ap (λ (z : List Id). (meaning n).declared ++ z) (declared_more ns)

  last_declared_more : (ns : List Node) → all_last_declared (map meaning (more ns)) ≡ all_last_declared (map meaning ns)
  last_declared_more [] = ap (λ (z : List Id). z ++ []) idle.last_declared
  last_declared_more (n ∷ ns) = ap (λ (z : List Id). (meaning n).last_declared ++ z) (last_declared_more ns)

  exports_more : (ns : List Node) → all_exports (map meaning (more ns)) None ≡ all_exports (map meaning ns) None
  exports_more [] = ap (λ (z : List Exported). z ++ []) idle.exports
  exports_more (n ∷ ns) = ap (λ (z : List Exported). (meaning n).exports None ++ z) (exports_more ns)

  hoisted_more : (ns : List Node) → all_hoisted (map meaning (more ns)) ≡ all_hoisted (map meaning ns)
  hoisted_more [] = λ i x. idle.hoisted i x >>= λ _. give tt
  hoisted_more (n ∷ ns) = λ i x. (meaning n).hoisted x >>= λ _. hoisted_more ns i x

  completions_more : (ns : List Node) → all_completions (map meaning (more ns)) ≡ all_completions (map meaning ns)
  completions_more [] = λ i x. idle.completion i x >>= λ _. give tt
  completions_more (n ∷ ns) = λ i x. (meaning n).completion x >>= λ _. completions_more ns i x

  last_more : (ns : List Node) → all_last (map meaning (more ns)) ≡ all_last (map meaning ns)
  last_more [] = λ i x. idle.last i x >>= λ _. give tt
  last_more (n ∷ ns) = λ i x. (meaning n).last x >>= λ _. last_more ns i x

  -- ---- the module

  module _ (span : Span) (shebang : Option (List ℕ)) (place : Span) where
    abbrev whole : List Node → Node
    whole ns = module_at span shebang place ns

    whole_means : (ns : List Node) → meaning (whole ns) ≡ meaning_by (whole ns) (kind.Module shebang) (meaning (list_at place ns) ∷ [])
    whole_means ns = meaning-roll (record { span = span; kind = kind.Module shebang; children = list_at place ns ∷ [] })

    list_means : (ns : List Node) → meaning (list_at place ns) ≡ meaning_by (list_at place ns) kind.List (map meaning ns)
    list_means ns = meaning-roll (record { span = place; kind = kind.List; children = ns })

    locals_of_whole : (ns : List Node) → (meaning (whole ns)).locals ≡ all_vars (map meaning ns) ++ all_lexicals (map meaning ns)
    locals_of_whole ns = ap (λ (m : Meaning). m.locals) (whole_means ns) ∙ ap (λ (m : Meaning). m.vars ++ m.lexicals) (list_means ns)

    hoisted_of_whole : (ns : List Node) → (meaning (whole ns)).hoisted ≡ all_hoisted (map meaning ns)
    hoisted_of_whole ns = ap (λ (m : Meaning). m.hoisted) (whole_means ns) ∙ ap (λ (m : Meaning). m.hoisted) (list_means ns)

    completion_of_whole : (ns : List Node) → (meaning (whole ns)).completion ≡ λ x. all_completions (map meaning ns) x >>= λ _. all_last (map meaning ns) x
    completion_of_whole ns = ap (λ (m : Meaning). m.completion) (whole_means ns) ∙ ap (λ (m : Meaning). λ x. m.completion x >>= λ _. m.last x) (list_means ns)

    declared_of_whole : (ns : List Node) → (meaning (whole ns)).declared ≡ all_declared (map meaning ns) ++ all_last_declared (map meaning ns)
    declared_of_whole ns = ap (λ (m : Meaning). m.declared) (whole_means ns) ∙ ap (λ (m : Meaning). m.declared ++ m.last_declared) (list_means ns)

    exports_of_whole : (ns : List Node) → (meaning (whole ns)).exports None ≡ all_exports (map meaning ns) None
    exports_of_whole ns = ap (λ (m : Meaning). m.exports None) (whole_means ns) ∙ ap (λ (m : Meaning). m.exports None) (list_means ns)

    pub whole-runs : (ns : List Node) → RunsAlike (meaning (whole ns)) (meaning (whole (more ns)))
    whole-runs ns = record {
      locals = locals_of_whole (more ns) ∙ ap₂ (λ (a b : List Binding). a ++ b) (vars_more ns) (lexicals_more ns) ∙ sym (locals_of_whole ns);
      hoisted = hoisted_of_whole (more ns) ∙ hoisted_more ns ∙ sym (hoisted_of_whole ns);
      completion = completion_of_whole (more ns) ∙ (λ i x. completions_more ns i x >>= λ _. last_more ns i x) ∙ sym (completion_of_whole ns);
      declared = declared_of_whole (more ns) ∙ ap₂ (λ (a b : List Id). a ++ b) (declared_more ns) (last_declared_more ns) ∙ sym (declared_of_whole ns);
      exports = exports_of_whole (more ns) ∙ exports_more ns ∙ sym (exports_of_whole ns);
    }

-- ---- `export {}` is such an item

export_means : meaning empty_export ≡ meaning_by empty_export (kind.NamedExport false) (meaning (list_node []) ∷ meaning absent ∷ meaning absent ∷ [])
export_means = meaning-roll (record { span = dummy_span; kind = kind.NamedExport false; children = list_node [] ∷ absent ∷ absent ∷ [] })

none_means : meaning (list_node []) ≡ meaning_by (list_node []) kind.List []
none_means = meaning-roll (record { span = dummy_span; kind = kind.List; children = [] })

absent_means : meaning absent ≡ meaning_by absent kind.Absent []
absent_means = meaning-roll (record { span = dummy_span; kind = kind.Absent; children = [] })

export-idle : IsIdle (meaning empty_export)
export-idle = record {
  completion = ap (λ (m : Meaning). m.completion) export_means;
  hoisted = ap (λ (m : Meaning). m.hoisted) export_means;
  last = ap (λ (m : Meaning). m.last) export_means;
  vars = ap (λ (m : Meaning). m.vars) export_means;
  lexicals = ap (λ (m : Meaning). m.lexicals) export_means;
  declared = ap (λ (m : Meaning). m.declared) export_means ∙ ap₂ (λ (a b : Meaning). a.declared ++ (b.declared ++ (b.declared ++ []))) none_means absent_means;
  last_declared = ap (λ (m : Meaning). m.last_declared) export_means;
  exports = ap (λ (m : Meaning). m.exports None) export_means ∙ ap (λ (m : Meaning). m.exports (meaning absent).text) none_means;
}

-- and in which no enum stands
export-enums : (options : Config) (span : Span) (shebang : Option (List ℕ)) (place : Span) (ns : List Node)
    → enums_of options (module_at span shebang place (with_export ns)) ≡ enums_of options (module_at span shebang place ns)
export-enums options span shebang place ns =
    let same : RunsAlike (meaning (module_at span shebang place ns)) (meaning (module_at span shebang place (with_export ns))) = whole-runs empty_export export-idle span shebang place ns in
    (λ i. enums_in options (same.declared i) (local_ids (same.exports i)) (bare (module_at span shebang place (with_export ns))))
    ∙ known-same options (meaning (module_at span shebang place ns)).declared (local_ids ((meaning (module_at span shebang place ns)).exports None)) span shebang place ns

pub marked_trees_run_alike : MarkedTreesRunAlike
marked_trees_run_alike no_empty_export was_module tree h turns options script =
    where-it-may-come (λ z. observe turns options z script ≡ observe turns options tree script) no_empty_export was_module tree h
    (λ span shebang place ns items before.
    observed-alike turns options (module_at span shebang place ns) (module_at span shebang place (with_export ns)) script (whole-runs empty_export export-idle span shebang place ns)
    (export-enums options span shebang place ns) ∙ before)
    refl
