-- A tree runs as it does with texts and contexts under which names may meet.
use Rattle.std.proofs.Common.{◌≡◌, refl, sym, ap, ◌∙◌, subst, ℕ, List, [], ◌∷◌, map, Bool, true}
use Rattle.std.specs.List.{All, list_all}
use Rattle.std.proofs.lemmas.List.Elements.{All-head, All-tail}
use Rattle.ecma_kind.specs.declared.kind.Kind.{Kind}
use Rattle.ecma_kind.specs.declared.kind.Kind.TheVariants as kind
use Rattle.ecma_tree.specs.Contexts.{with_contexts}
use Rattle.ecma_tree.specs.declared.node.Node.{Node, Node-F, fold-roll-Node, ind-Node}
use Rattle.ecma_scope.specs.declared.role.Role.TheVariants as role
use Rattle.ecma_hygiene.specs.declared.spot.Spot.TheVariants as spot
use Rattle.ecma_hygiene.specs.Renamed.{Texts, text_of}
use Rattle.ecma_hygiene.specs.Renamed as hygiene
use Rattle.ecma_hygiene.proofs.Telling.{and-both, and-left, and-right}
use Rattle.ecma_config.specs.declared.config.Config.{Config}
use Rattle.ecma_runs.specs.declared.script.Script.{Script}
use Rattle.ecma_runs.specs.State.{Id}
use Rattle.ecma_runs.specs.Environment.{ids_of, is_among}
use Rattle.ecma_runs.specs.Evaluation.{meaning}
use Rattle.ecma_runs.specs.Exports.{export_names}
use Rattle.ecma_runs.specs.Laws.{NamesMayMeet}
use Rattle.ecma_runs.specs.Meeting.{MayMeet, catches_none, exports_meet, module_meets}
use Rattle.ecma_runs.specs.Names.{TextsStay, ids_pass, keys_in, passes_by, passes_here, renamed}
use Rattle.ecma_runs.specs.Observation.{exports_in, observe}
use Rattle.ecma_runs.specs.Sought.{outside_of, seeker, sought_in}
use Rattle.ecma_runs.proofs.EnumTrees.{Lacks}
use Rattle.ecma_runs.proofs.Layers.{observe_lacking}
use Rattle.ecma_hygiene_meeting.specs.Meets.{Meets}
use Rattle.ecma_hygiene_meeting.specs.Texts.{sent}
use Rattle.ecma_hygiene_runs.specs.ExportsApart.{exports_apart}
use Rattle.ecma_hygiene_runs.specs.KeyNames.{key_names_in}
use Rattle.ecma_hygiene_runs.specs.OuterNames.{NamesAreOuter}
use Rattle.ecma_hygiene_runs.specs.WrittenOut.{written_out}
use Rattle.ecma_hygiene_runs.proofs.Apart.{apart_layers, renamed-apart}
use Rattle.ecma_hygiene_runs.proofs.FinalTree.{turned-everywhere}
use Rattle.ecma_hygiene_runs.proofs.LackingEnums.{apart-lacks, final-lacks, out-lacks, renamed-lacks}
use Rattle.ecma_hygiene_runs.proofs.WritingOut.{written_out_layers}
use Rattle.ecma_meeting_runs.specs.Laws.{MeetingTextsKeepRuns}
use Rattle.ecma_meeting_runs.proofs.Bare.{bare, bare-alike, bare-asks, bare-exports}
use Rattle.ecma_meeting_runs.proofs.Seeking.{among-outside, catches-fewer}
use Rattle.ecma_meeting_runs.proofs.Spelled.{spelled, spelled-lacks, spelled-layers}
use Rattle.ecma_meeting_runs.proofs.SpelledNames.{keys-stay, renamed-spelled}

-- each id stands

abbrev any : Id → Bool
any id = true

kind-stands : (k : Kind) → passes_by any k ≡ true
kind-stands (kind.Ident text ctxt optional) = refl
kind-stands _ = refl

all-stand : (ns : List ((n : Node) × (ids_pass any n ≡ true))) → list_all (λ b. b) (map (ids_pass any) (map (λ e. e.0) ns)) ≡ true
all-stand [] = refl
all-stand (n ∷ ns) = and-both (ids_pass any n.0) (list_all (λ b. b) (map (ids_pass any) (map (λ e. e.0) ns))) n.1 (all-stand ns)

stand : (n : Node) → ids_pass any n ≡ true
stand = ind-Node (λ n. ids_pass any n ≡ true) (λ x y is.
    fold-roll-Node Bool (passes_here any) x
    ∙ and-both (passes_by any x.kind) (list_all (λ b. b) (map (ids_pass any) x.children)) (kind-stands x.kind)
    (subst (λ cs. list_all (λ b. b) (map (ids_pass any) cs) ≡ true) (ap (λ (z : Node-F Node). z.children) is) (all-stand y.children)))

-- names may meet in a tree with its shorthands written out, what it exports apart, and texts for the other names of its specifiers, where they meet in the tree

module _ (to : Id → Id) (tree : Node) (meets : Meets to tree) where
  in-module : module_meets to (seeker (bare tree)) ≡ true
  in-module =
      let fewer = (bare-asks to tree).fewer in
      let alike = bare-alike tree in
      let first = catches_none to (ids_of (meaning tree).locals) (sought_in tree).sought in
      let second = catches_none to (meaning tree).declared (outside_of (meaning tree).declared (sought_in tree).sought) in
      and-both (catches_none to (ids_of (meaning (bare tree)).locals) (sought_in (bare tree)).sought)
      (catches_none to (meaning (bare tree)).declared (outside_of (meaning (bare tree)).declared (sought_in (bare tree)).sought))
      (catches-fewer to (ap ids_of alike.locals) fewer.sought (and-left first second meets.in_module))
      (catches-fewer to alike.declared (among-outside alike.declared fewer.sought) (and-right first second meets.in_module))

  bare-meets : TextsStay to (keys_in (bare tree)) → MayMeet to (bare tree)
  bare-meets keys =
      let alike = bare-alike tree in
      record {
        no_enums = spelled-lacks (exports_apart (written_out tree)) (apart-lacks (written_out tree) (out-lacks tree meets.no_enums));
        stands = any;
        all_stand = stand (bare tree);
        none_caught = (bare-asks to tree).meets meets.none_caught;
        in_module = in-module;
        key_texts = keys;
        free_texts = λ id s free. meets.free_texts id (ap (is_among id) (sym alike.declared) ∙ free);
        this_stays = λ id s. meets.this_stays id;
        exports_apart = ap (λ ids. exports_meet to ids (exports_in (bare tree))) (ap ids_of alike.locals) ∙ ap (exports_meet to (ids_of (meaning tree).locals)) (bare-exports tree) ∙ meets.exports_apart;
        export_texts = subst (λ entries. TextsStay to (export_names entries)) (sym (bare-exports tree)) meets.export_texts;
        default_stays = (refl, meets.default_stays);
      }

module _ (law : NamesMayMeet) (onto : ℕ → ℕ) (texts : Texts) (tree : Node) (none : onto 0 ≡ 0) (empty : (text : List ℕ) → text_of texts (text, 0) ≡ text) (outer : NamesAreOuter tree) (meets : Meets (sent onto texts) tree) where
  abbrev to : Id → Id
  to = sent onto texts

  abbrev shown : Node
  shown = exports_apart (written_out tree)

  texts-stay : (ids : List Id) → All (λ id. id.ctxt ≡ 0) ids → TextsStay to ids
  texts-stay [] h = tt
  texts-stay (id ∷ ids) h = (ap (λ c. text_of texts (id.sym, c)) (All-head (λ id. id.ctxt ≡ 0) id ids h) ∙ empty id.sym, texts-stay ids (All-tail (λ id. id.ctxt ≡ 0) id ids h))

  keys : TextsStay to (key_names_in shown)
  keys = texts-stay (key_names_in shown) outer.keys

  may-meet : MayMeet to (bare tree)
  may-meet = bare-meets to tree meets (keys-stay to shown keys)

  runs : (turns : ℕ) (options : Config) (script : Script) → observe turns options (with_contexts (λ text ctxt. onto ctxt) (hygiene.renamed texts tree)) script ≡ observe turns options tree script
  runs turns options script =
      let out : Lacks (written_out tree) = out-lacks tree meets.no_enums in
      let exported : Lacks shown = apart-lacks (written_out tree) out in
      sym (observe_lacking written_out written_out_layers out-lacks turns options (with_contexts (λ text ctxt. onto ctxt) (hygiene.renamed texts tree)) script (final-lacks onto texts none tree meets.no_enums))
      ∙ ap (λ n. observe turns options n script) (turned-everywhere onto texts none empty tree role.Root spot.Elsewhere outer.named)
      ∙ sym (observe_lacking exports_apart apart_layers apart-lacks turns options (renamed to (written_out tree)) script (renamed-lacks to (written_out tree) out))
      ∙ ap (λ n. observe turns options n script) (sym (renamed-apart to (written_out tree)))
      ∙ sym (observe_lacking spelled spelled-layers spelled-lacks turns options (renamed to shown) script (renamed-lacks to shown exported))
      ∙ ap (λ n. observe turns options n script) (sym (renamed-spelled to shown keys))
      ∙ law turns options (bare tree) script to may-meet
      ∙ observe_lacking spelled spelled-layers spelled-lacks turns options shown script exported
      ∙ observe_lacking exports_apart apart_layers apart-lacks turns options (written_out tree) script out
      ∙ observe_lacking written_out written_out_layers out-lacks turns options tree script meets.no_enums

pub meeting-texts-keep-runs : NamesMayMeet → MeetingTextsKeepRuns
meeting-texts-keep-runs law turns options onto texts tree script none empty outer meets = runs law onto texts tree none empty outer meets turns options script
