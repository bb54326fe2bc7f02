-- The script of the facts about small modules.
use Rattle.std.proofs.Common.{◌≡◌, ap, ◌∙◌, ℕ, pos, List, [], ◌∷◌, ◌++◌, map, Bool, true, false, codes}
use Rattle.ecma_number.specs.declared.js_number.JsNumber.TheVariants.{Whole}
use Rattle.ecma_config.specs.declared.config.Config.{Config}
use Rattle.ecma_config.specs.declared.config.ImportsNotUsedAsValues.TheVariants.{Remove}
use Rattle.ecma_config.specs.declared.config.TsImportExportAssignConfig.TheVariants.{Classic}
use Rattle.ecma_runs.specs.declared.observation.Event.{Event}
use Rattle.ecma_runs.specs.declared.observation.Ending.{Ending}
use Rattle.ecma_runs.specs.declared.script.Action.{Action}
use Rattle.ecma_runs.specs.declared.script.Answer.{Answer}
use Rattle.ecma_runs.specs.declared.script.Answer.TheVariants.{Return}
use Rattle.ecma_runs.specs.declared.script.FreeValue.{FreeValue}
use Rattle.ecma_runs.specs.declared.script.ImportValue.{ImportValue}
use Rattle.ecma_runs.specs.declared.shown.Shown.TheVariants as shown
use Rattle.ecma_runs.specs.declared.script.Script.{Script}
use Rattle.ecma_tree.specs.declared.node.Node.{Node}
use Rattle.ecma_enums.specs.declared.record.TsEnumRecordEntry.{TsEnumRecordEntry}
use Rattle.ecma_enums.specs.declared.value.TsEnumRecordValue.{TsEnumRecordValue}
use Rattle.ecma_runs.specs.Enums.{Enums, MemberName, no_enums}
use Rattle.ecma_runs.specs.Evaluation.{meaning}
use Rattle.ecma_runs.specs.Exports.{local_ids}
use Rattle.ecma_runs.specs.Observation.{Observation, exports_in, run_module, start, observed, observe}
use Rattle.ecma_runs.proofs.EnumTrees.{lacking_enums}
use Rattle.ecma_runs.proofs.Trees.{Trees, all_lack, module_lacks, module'}
use Rattle.ecma_runs.proofs.KnownTrees.{enums_by, known_enums}

-- the free names f and g are the host's values 7 and 8
abbrev pub frees : List FreeValue
frees = record { name = codes "f"; value = shown.Host 7 } ∷ record { name = codes "g"; value = shown.Host 8 } ∷ []

-- the module "m" has a default and a name
abbrev pub imports : List ImportValue
imports = record { source = codes "m"; name = codes "default"; value = shown.Host 9 } ∷ record { source = codes "m"; name = codes "a"; value = shown.Num (Whole (pos 5)) } ∷ []

abbrev pub null_answer : Answer
null_answer = Return shown.Null

-- the host answers null, often enough
abbrev pub nulls : List Answer
nulls = null_answer ∷ null_answer ∷ null_answer ∷ null_answer ∷ null_answer ∷ null_answer ∷ null_answer ∷ null_answer ∷ null_answer ∷ null_answer ∷ null_answer ∷ null_answer ∷ []

-- each option is off
abbrev pub usual : Config
usual = record {
  verbatim_module_syntax = false;
  import_not_used_as_values = Remove;
  no_empty_export = false;
  import_export_assign_config = Classic;
  ts_enum_is_mutable = false;
}

-- in a CommonJS module `require`, `exports` and `module` are its values 10, 11 and 12
abbrev pub common_js_frees : List FreeValue
common_js_frees =
    frees ++ record { name = codes "require"; value = shown.Host 10 } ∷ record { name = codes "exports"; value = shown.Host 11 } ∷ record { name = codes "module"; value = shown.Host 12 } ∷ []

abbrev pub script_of : List FreeValue → List Answer → List Action → Script
script_of frees answers actions = record { imports = imports; meta_url = codes "file:///m.js"; frees = frees; answers = answers; actions = actions }

-- that the module with this body has these events and this ending, in so many turns, where free names have these values, and the host gives these answers and then does these actions
pub record DoesWith (frees : List FreeValue) (turns : ℕ) (answers : List Answer) (actions : List Action) (body : Trees) (events : List Event) (end : Ending) : Type 0 where
  pub observes : observe turns usual (module' body) (script_of frees answers actions) ≡ record { events = events; ending = end }

-- a member of an enum, by the names of both, and what is known of it; its id is its name in the context 2
abbrev pub entry : List ℕ → List ℕ → TsEnumRecordValue → Bool → TsEnumRecordEntry
entry enum name value is_const = record { key = record { enum_id = (enum, 0); member_name = name }; value = value; is_const = is_const }

abbrev pub named : List ℕ → List ℕ → MemberName
named name enum = record { id = record { sym = name; ctxt = 2 }; of = record { sym = enum; ctxt = 0 } }

-- members, their names, and the `const` enums of which members are not written
abbrev pub known : List TsEnumRecordEntry → List MemberName → List (List ℕ) → Enums
known members names unwritten = record { members = members; names = names; unwritten = map (λ sym. record { sym = sym; ctxt = 0 }) unwritten; may_change = false }

-- so it does where this is known of its enums
abbrev pub observed_by : Enums → ℕ → Node → Script → Observation
observed_by enums turns m script = observed (run_module (record { declared = (meaning m).declared; enums = enums }) m script (start turns script))

pub does_known : {frees : List FreeValue} {turns : ℕ} {answers : List Answer} {actions : List Action} {body : Trees} {events : List Event} {end : Ending} (enums : Enums)
    → enums_by usual (meaning (module' body)).declared (local_ids (exports_in (module' body))) body ≡ enums
    → observed_by enums turns (module' body) (script_of frees answers actions) ≡ record { events = events; ending = end } → DoesWith frees turns answers actions body events end
does_known {frees} {turns} {answers} {actions} {body} enums is h =
    record { observes = ap (λ z. observed_by z turns (module' body) (script_of frees answers actions)) (known_enums usual body ∙ is) ∙ h }

pub does : {frees : List FreeValue} {turns : ℕ} {answers : List Answer} {actions : List Action} {body : Trees} {events : List Event} {end : Ending} → all_lack body ≡ true
    → observed_by (no_enums false) turns (module' body) (script_of frees answers actions) ≡ record { events = events; ending = end } → DoesWith frees turns answers actions body events end
does {frees} {turns} {answers} {actions} {body} lacks h =
    record { observes = ap (λ enums. observed_by enums turns (module' body) (script_of frees answers actions)) (lacking_enums usual (module' body) (module_lacks body lacks)) ∙ h }

abbrev pub Does : ℕ → List Answer → List Action → Trees → List Event → Ending → Type 0
Does turns answers actions body events end = DoesWith frees turns answers actions body events end

abbrev pub DoesInCommonJs : ℕ → List Answer → List Action → Trees → List Event → Ending → Type 0
DoesInCommonJs turns answers actions body events end = DoesWith common_js_frees turns answers actions body events end
