-- What is known of a module's enums is known of it with an item behind all others in which no enum and no number's name stands, as in `export {}`.
use Rattle.std.proofs.Common.{◌≡◌, ◌∙◌, ℕ, Option, Bool, true, false, cond, refl, sym, ap, subst, List, [], ◌∷◌, ◌++◌, map, filter, not, ◌||◌}
use Rattle.std.specs.List.{flat_map}
use Rattle.ecma_config.specs.declared.config.Config.{Config}
use Rattle.ecma_kind.specs.declared.kind.Kind.{Kind}
use Rattle.ecma_kind.specs.declared.kind.Kind.TheVariants as kind
use Rattle.ecma_kind.specs.declared.span.Span.{Span}
use Rattle.ecma_tree.specs.declared.node.Node.{Node, Node-F, out-Node, roll-Node}
use Rattle.ecma_tree.specs.declared.node.Node.TheViews.{out-roll-Node}
use Rattle.ecma_tree.specs.Layers.{from_leaves}
use Rattle.ecma_tree.specs.Nodes.{absent, dummy_span, list_node}
use Rattle.ecma_tree.proofs.Layers.{from_leaves-roll}
use Rattle.ecma_enums.specs.Walks.{Walk, at_first, in_order, walk_by, walked}
use Rattle.ecma_lower.specs.Marking.{empty_export}
use Rattle.ecma_strip.specs.Staying.{stays}
use Rattle.ecma_runs.specs.Environment.{is_among}
use Rattle.ecma_runs.specs.Enums.{MemberName, bare, constant_enum_by, default_by, enums_in, found_in, free_context_of, members_named_by, number_name_by}
use Rattle.ecma_runs.specs.State.{Id}
use Rattle.ecma_runs.proofs.EnumTrees.{bare-roll}
use Rattle.ecma_marks.proofs.Modules.{list_at, module_at}

abbrev Layer : Kind → List Node → Node-F Node
Layer k cs = record { span = dummy_span; kind = k; children = cs }

-- ---- what is asked of a node

walked-roll : (k : Kind) (cs : List Node) → walked (roll-Node (Layer k cs)) ≡ walk_by k (roll-Node (Layer k cs)) (map walked cs)
unfolding walked
walked-roll k cs = from_leaves-roll Walk (λ n walks. walk_by (out-Node n).kind n walks) (Layer k cs) ∙ ap (λ (z : Node-F Node). walk_by z.kind (roll-Node (Layer k cs)) (map walked cs)) (out-roll-Node (Layer k cs))

found-roll : (A : Type 0) (here : Kind → Node → List A) (k : Kind) (cs : List Node)
    → found_in A here (roll-Node (Layer k cs)) ≡ here k (roll-Node (Layer k cs)) ++ flat_map (λ items. items) (map (found_in A here) cs)
found-roll A here k cs =
    from_leaves-roll (List A) (λ n kids. here (out-Node n).kind n ++ flat_map (λ items. items) kids) (Layer k cs)
    ∙ ap (λ (z : Node-F Node). here z.kind (roll-Node (Layer k cs)) ++ flat_map (λ items. items) (map (found_in A here) cs)) (out-roll-Node (Layer k cs))

-- ---- a node that tells nothing

record IsQuiet (n : Node) : Type 0 where
  walk : (ambient : Bool) → walked n ambient ≡ λ s. s
  names : found_in MemberName members_named_by n ≡ []
  constants : found_in Id constant_enum_by n ≡ []
  defaults : found_in Id default_by n ≡ []
  numbers : found_in Id number_name_by n ≡ []

absent-quiet : IsQuiet (roll-Node (Layer kind.Absent []))
unfolding walk_by
absent-quiet = record {
  walk = λ ambient i s. walked-roll kind.Absent [] i ambient s;
  names = found-roll MemberName members_named_by kind.Absent [];
  constants = found-roll Id constant_enum_by kind.Absent [];
  defaults = found-roll Id default_by kind.Absent [];
  numbers = found-roll Id number_name_by kind.Absent [];
}

list-quiet : IsQuiet (roll-Node (Layer kind.List []))
unfolding walk_by
list-quiet = record {
  walk = λ ambient i s. walked-roll kind.List [] i ambient s;
  names = found-roll MemberName members_named_by kind.List [];
  constants = found-roll Id constant_enum_by kind.List [];
  defaults = found-roll Id default_by kind.List [];
  numbers = found-roll Id number_name_by kind.List [];
}

three-none : (A : Type 0) (a b c : List A) → a ≡ [] → b ≡ [] → c ≡ [] → [] ++ (a ++ (b ++ (c ++ []))) ≡ []
three-none A a b c f g h = rw (f, g, h) refl

named-quiet : (a b c : Node) → IsQuiet a → IsQuiet b → IsQuiet c → IsQuiet (roll-Node (Layer (kind.NamedExport false) (a ∷ b ∷ c ∷ [])))
unfolding walk_by
named-quiet a b c f g h = record {
  walk = λ ambient. (λ i s. walked-roll (kind.NamedExport false) (a ∷ b ∷ c ∷ []) i ambient s) ∙ (λ i s. h.walk ambient i (g.walk ambient i (f.walk ambient i s)));
  names = found-roll MemberName members_named_by (kind.NamedExport false) (a ∷ b ∷ c ∷ []) ∙ three-none MemberName _ _ _ f.names g.names h.names;
  constants = found-roll Id constant_enum_by (kind.NamedExport false) (a ∷ b ∷ c ∷ []) ∙ three-none Id _ _ _ f.constants g.constants h.constants;
  defaults = found-roll Id default_by (kind.NamedExport false) (a ∷ b ∷ c ∷ []) ∙ three-none Id _ _ _ f.defaults g.defaults h.defaults;
  numbers = found-roll Id number_name_by (kind.NamedExport false) (a ∷ b ∷ c ∷ []) ∙ three-none Id _ _ _ f.numbers g.numbers h.numbers;
}

export-quiet : IsQuiet (bare empty_export)
export-quiet =
    let list : IsQuiet (bare (list_node [])) = subst IsQuiet (sym (bare-roll (Layer kind.List []))) list-quiet in
    let none : IsQuiet (bare absent) = subst IsQuiet (sym (bare-roll (Layer kind.Absent []))) absent-quiet in
    subst IsQuiet (sym (bare-roll (Layer (kind.NamedExport false) (list_node [] ∷ absent ∷ absent ∷ []))))
    (named-quiet (bare (list_node [])) (bare absent) (bare absent) list none none)

-- ---- items, and one behind them

module _ (e : Node) (quiet : IsQuiet e) where
  abbrev behind : Bool → List Node → List Node
  behind b ns = ns ++ cond b (e ∷ []) []

  walk-same : (ns : List Node) (b ambient : Bool) → in_order (map walked (behind b ns)) ambient ≡ in_order (map walked ns) ambient
  walk-same [] true ambient = λ i s. quiet.walk ambient i s
  walk-same [] false ambient = refl
  walk-same (n ∷ ns) b ambient = λ i s. walk-same ns b ambient i (walked n ambient s)

  found-same : (A : Type 0) (here : Kind → Node → List A) → found_in A here e ≡ [] → (ns : List Node) (b : Bool)
      → flat_map (λ items. items) (map (found_in A here) (behind b ns)) ≡ flat_map (λ items. items) (map (found_in A here) ns)
  found-same A here none [] true = ap (λ z. z ++ []) none
  found-same A here none [] false = refl
  found-same A here none (n ∷ ns) b = ap (λ z. found_in A here n ++ z) (found-same A here none ns b)

  -- ---- the module of these

  abbrev module_of : Kind → List Node → Node
  module_of k ns = roll-Node (Layer k (roll-Node (Layer kind.List ns) ∷ []))

  module _ (shebang : Option (List ℕ)) where
    abbrev whole : List Node → Node
    whole = module_of (kind.Module shebang)

    whole-walk : (ns : List Node) (ambient : Bool) → walked (whole ns) ambient ≡ in_order (map walked ns) ambient
    unfolding walk_by
    whole-walk ns ambient = (λ i s. walked-roll (kind.Module shebang) (roll-Node (Layer kind.List ns) ∷ []) i ambient s) ∙ (λ i s. walked-roll kind.List ns i ambient s)

    abbrev SameThere : (A : Type 0) → (Kind → Node → List A) → Type 0
    SameThere A here = (ns : List Node) (b : Bool) → found_in A here (whole (behind b ns)) ≡ found_in A here (whole ns)

    module _ (A : Type 0) (here : Kind → Node → List A) (none : found_in A here e ≡ []) (no_module : (n : Node) → here (kind.Module shebang) n ≡ []) (no_list : (n : Node) → here kind.List n ≡ []) where
      whole-found : (ns : List Node) → found_in A here (whole ns) ≡ [] ++ (([] ++ flat_map (λ items. items) (map (found_in A here) ns)) ++ [])
      whole-found ns =
          found-roll A here (kind.Module shebang) (roll-Node (Layer kind.List ns) ∷ [])
          ∙ (λ i. no_module (whole ns) i ++ (found-roll A here kind.List ns i ++ []))
          ∙ (λ i. [] ++ ((no_list (roll-Node (Layer kind.List ns)) i ++ flat_map (λ items. items) (map (found_in A here) ns)) ++ []))

      same-there : SameThere A here
      same-there ns b = whole-found (behind b ns) ∙ ap (λ z. [] ++ (([] ++ z) ++ [])) (found-same A here none ns b) ∙ sym (whole-found ns)

    same-known : (options : Config) (declared exported : List Id) (ns : List Node) (b : Bool) → enums_in options declared exported (whole (behind b ns)) ≡ enums_in options declared exported (whole ns)
    same-known options declared exported ns b =
        let tree : Node = whole (behind b ns) in
        let names : SameThere MemberName members_named_by = same-there MemberName members_named_by quiet.names (λ n. refl) (λ n. refl) in
        let constants : SameThere Id constant_enum_by = same-there Id constant_enum_by quiet.constants (λ n. refl) (λ n. refl) in
        let defaults : SameThere Id default_by = same-there Id default_by quiet.defaults (λ n. refl) (λ n. refl) in
        let numbers : SameThere Id number_name_by = same-there Id number_name_by quiet.numbers (λ n. refl) (λ n. refl) in
        let walk : walked tree false ≡ walked (whole ns) false = whole-walk (behind b ns) false ∙ walk-same ns b false ∙ sym (whole-walk ns false) in
        let walks : walked tree false (at_first (free_context_of declared (found_in Id number_name_by tree)))
        ≡ walked (whole ns) false (at_first (free_context_of declared (found_in Id number_name_by (whole ns)))) =
        (λ i. walk i (at_first (free_context_of declared (found_in Id number_name_by tree)))) ∙ ap (λ ids. walked (whole ns) false (at_first (free_context_of declared ids))) (numbers ns b) in
        λ i. record {
          members = (walks i).computer.members;
          names = names ns b i;
          unwritten = filter (λ id. not (options.verbatim_module_syntax || is_among id (exported ++ defaults ns b i))) (constants ns b i);
          may_change = options.ts_enum_is_mutable;
        }

-- ---- a module that is bare

kept : (b : Bool) (x : Node) (ns more : List Node) → cond b (x ∷ (ns ++ more)) (ns ++ more) ≡ cond b (x ∷ ns) ns ++ more
kept true x ns more = refl
kept false x ns more = refl

stay-behind : (e : Node) (ns : List Node) → filter stays (map bare (ns ++ e ∷ [])) ≡ filter stays (map bare ns) ++ cond (stays (bare e)) (bare e ∷ []) []
stay-behind e [] = refl
stay-behind e (n ∷ ns) =
    ap (λ z. cond (stays (bare n)) (bare n ∷ z) z) (stay-behind e ns) ∙ kept (stays (bare n)) (bare n) (filter stays (map bare ns)) (cond (stays (bare e)) (bare e ∷ []) [])

bare-module : (span : Span) (shebang : Option (List ℕ)) (place : Span) (ns : List Node)
    → bare (module_at span shebang place ns) ≡ roll-Node (Layer (kind.Module shebang) (roll-Node (Layer kind.List (filter stays (map bare ns))) ∷ []))
bare-module span shebang place ns =
    bare-roll (record { span = span; kind = kind.Module shebang; children = list_at place ns ∷ [] })
    ∙ ap (λ n. roll-Node (Layer (kind.Module shebang) (n ∷ []))) (bare-roll (record { span = place; kind = kind.List; children = ns }))

pub known-same : (options : Config) (declared exported : List Id) (span : Span) (shebang : Option (List ℕ)) (place : Span) (ns : List Node)
    → enums_in options declared exported (bare (module_at span shebang place (ns ++ empty_export ∷ []))) ≡ enums_in options declared exported (bare (module_at span shebang place ns))
known-same options declared exported span shebang place ns =
    ap (enums_in options declared exported)
    (bare-module span shebang place (ns ++ empty_export ∷ []) ∙ ap (λ z. roll-Node (Layer (kind.Module shebang) (roll-Node (Layer kind.List z) ∷ []))) (stay-behind empty_export ns))
    ∙ same-known (bare empty_export) export-quiet shebang options declared exported (filter stays (map bare ns)) (stays (bare empty_export))
    ∙ sym (ap (enums_in options declared exported) (bare-module span shebang place ns))
