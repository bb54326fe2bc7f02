-- What a tree does with texts and contexts under which names may meet, and that it stays plain with them.
use Rattle.std.specs.Prelude.{◌≡◌, ℕ, List, true, bytes_eq, codes}
use Rattle.ecma_kind.specs.declared.shapes.Sort.TheVariants as sort
use Rattle.ecma_tree.specs.Contexts.{with_contexts}
use Rattle.ecma_tree.specs.Sorted.{HasSort}
use Rattle.ecma_tree.specs.declared.node.Node.{Node}
use Rattle.ecma_config.specs.declared.config.Config.{Config}
use Rattle.ecma_hygiene.specs.Renamed.{Texts, renamed, text_of}
use Rattle.ecma_hygiene_meeting.specs.Meets.{Meets}
use Rattle.ecma_hygiene_meeting.specs.Texts.{sent, written}
use Rattle.ecma_hygiene_runs.specs.FinalTexts.{is_named}
use Rattle.ecma_hygiene_runs.specs.OuterNames.{NamesAreOuter}
use Rattle.ecma_hygiene_runs.specs.Plain.{is_plain}
use Rattle.ecma_runs.specs.declared.script.Script.{Script}
use Rattle.ecma_runs.specs.State.{Id}
use Rattle.ecma_runs.specs.Observation.{observe}

-- a tree is observed to do what it does with these texts, and with its contexts mapped, where names may meet under both, what has the empty context keeps it and its text, and names that
-- are keys, where shorthands are written out, have it
abbrev pub MeetingTextsKeepRuns : Type 0
MeetingTextsKeepRuns =
    (turns : ℕ) (options : Config) (to : ℕ → ℕ) (texts : Texts) (tree : Node) (script : Script) → to 0 ≡ 0 → ((text : List ℕ) → text_of texts (text, 0) ≡ text) → NamesAreOuter tree
    → Meets (sent to texts) tree → observe turns options (with_contexts (λ text ctxt. to ctxt) (renamed texts tree)) script ≡ observe turns options tree script

-- contexts do not matter to whether a tree is plain
abbrev pub ContextsDoNotMatterToPlain : Type 0
ContextsDoNotMatterToPlain = (context_of : List ℕ → ℕ → ℕ) (tree : Node) → is_plain (with_contexts context_of tree) ≡ is_plain tree

-- nor do texts, in a module, where what has the empty context keeps it and its text, and no name becomes `this` or is no more
abbrev pub PlainTreesStayPlain : Type 0
PlainTreesStayPlain =
    (to : ℕ → ℕ) (texts : Texts) (tree : Node) → to 0 ≡ 0 → ((text : List ℕ) → text_of texts (text, 0) ≡ text) → is_named tree ≡ true
    → ((id : Id) → bytes_eq (written texts id) (codes "this") ≡ bytes_eq id.sym (codes "this")) → HasSort sort.Module tree
    → HasSort sort.Module (with_contexts (λ text ctxt. to ctxt) (renamed texts tree)) → is_plain (with_contexts (λ text ctxt. to ctxt) (renamed texts tree)) ≡ is_plain tree
