-- A module that fits does with `export {}` at its end.
use Rattle.std.proofs.Common.{◌≡◌, ◌∙◌, ℕ, Bool, true, false, ◌&&◌, ◌||◌, not, List, [], ◌∷◌, ◌++◌, length, replicate, Option, None, refl, sym, ap}
use Rattle.std.specs.Option.{is_some}
use Rattle.ecma_kind.specs.Sorts.{belongs}
use Rattle.ecma_kind.specs.declared.kind.Kind.{Kind}
use Rattle.ecma_kind.specs.declared.kind.Kind.TheVariants as kind
use Rattle.ecma_kind.specs.declared.shapes.Sort.TheVariants as sort
use Rattle.ecma_kind.specs.declared.span.Span.{Span}
use Rattle.ecma_tree.specs.Laws.{HaveShapes}
use Rattle.ecma_tree.specs.Nodes.{absent, dummy_span, list_node}
use Rattle.ecma_tree.specs.Sorted.{HasSort, many, one}
use Rattle.ecma_tree.specs.declared.node.Node.{Node, out-Node}
use Rattle.ecma_tree.proofs.ShapeLaws.{node_has_shape}
use Rattle.ecma_leaves.specs.Words.{is_spelled}
use Rattle.ecma_lower.specs.Marking.{empty_export}
use Rattle.ecma_rules.specs.declared.standing.Standing.{Standing}
use Rattle.ecma_rules.specs.declared.standing.Standing.TheVariants as standing
use Rattle.ecma_rules.specs.declared.target.Target.TheVariants as target
use Rattle.ecma_rules.specs.Children.{child_holds, has_child, items_at, kind_of}
use Rattle.ecma_rules.specs.Failing.{failing_here, first_failing}
use Rattle.ecma_rules.specs.Jumps.{Held, ends_jumps, first_stray, held_behind, held_in, is_stray_in, label_of, not_held, own_label, stray_here}
use Rattle.ecma_rules.specs.Lists.{is_head, is_one_without_value, is_rest}
use Rattle.ecma_rules.specs.Members.{has_second_constructor, is_declaring, is_plain_parameter, is_property_kind, is_special_by, misfits_by, misplaces_this_by, second_by}
use Rattle.ecma_rules.specs.Statements.{is_body, is_declaration, is_exported, is_text}
use Rattle.ecma_rules.specs.Strays.{in_named, is_stray, nothing_held, strays_in}
use Rattle.ecma_rules.specs.Targets.{is_simple_target, is_variables}
use Rattle.ecma_fits.specs.declared.unfit.Where.{Where}
use Rattle.ecma_fits.specs.Branches.{is_choice, is_dangling, takes_else}
use Rattle.ecma_fits.specs.Chains.{is_loose, is_loose_by}
use Rattle.ecma_fits.specs.Counts.{are_exports, is_full_by, is_short}
use Rattle.ecma_fits.specs.Fitting.{Fits, at_top, breaks_rule, is_misspelled}
use Rattle.ecma_fits.specs.Members.{is_misread, is_misread_by}
use Rattle.ecma_fits.specs.Roles.{is_out_of_role, is_wrong_name, may_be, takes}
use Rattle.ecma_fits.specs.Strays.{is_stray_target}
use Rattle.ecma_hygiene_fits.specs.Placed.{NoneMadeBut, is_made_but}
use Rattle.ecma_hygiene_fits.specs.Spelled.{NoneLong, is_long}
use Rattle.ecma_strip_fits.specs.Targets.{HasPlainTargets, is_typed_target}
use Rattle.ecma_marks.specs.Laws.{MarkedTreesHaveNoOtherNames}
use Rattle.ecma_marks.proofs.Adding.{where-it-may-come}
use Rattle.ecma_marks.proofs.Clauses.{Clause, free, item-kind, none-fails}
use Rattle.ecma_marks.proofs.Export.{absent-kind, attributes_held, export-item, export-kind, is_quiet, is_still, no_attributes, no_source, no_specifiers, none-kind, quiet-still}
use Rattle.ecma_marks.proofs.Modules.{AreItems, IsItem, kind-of, list_at, module_at, no, with_export}
use Rattle.ecma_marks.proofs.Walks.{leaf-tells, three-tell, with-one-more}

-- ---- tests by the kind of a node

module _ (T : Where → Kind → Node → Bool) where
  -- such a kind fails nowhere
  abbrev NoneOf : Type 0
  NoneOf = (k : Kind) (n : Node) (l : Bool) (s : Standing) → is_still k ≡ true → T (free l s) k n ≡ false

  abbrev LastAlike : Type 0
  LastAlike = (n : Node) (l m : Bool) → IsItem n → T (free l standing.Plain) (kind_of n) n ≡ T (free m standing.Plain) (kind_of n) n

  by-kind : NoneOf → LastAlike → Clause (λ w n. T w (kind_of n) n)
  by-kind none same = record {
    module' = λ shebang n m en em told. ap (λ k. T at_top k m) em ∙ none (kind.Module shebang) m true standing.Plain refl;
    quiet = λ n l s h. none (kind_of n) n l s (quiet-still (kind_of n) h);
    export = λ l. ap (λ k. T (free l standing.Plain) k empty_export) export-kind ∙ none (kind.NamedExport false) empty_export l standing.Plain refl;
    items = same;
  }

branches : Clause (λ w n. is_dangling n)
branches = by-kind (λ w k n. is_choice k && (has_child n 2 && child_holds takes_else n 1)) none (λ n l m h. refl)
  where
    none : (k : Kind) (n : Node) (l : Bool) (s : Standing) → is_still k ≡ true → (is_choice k && (has_child n 2 && child_holds takes_else n 1)) ≡ false
    none kind.IfStmt n l s h = no h
    none _ n l s h = refl

chains : Clause (λ w n. is_loose n)
chains = by-kind (λ w k n. is_loose_by k n) none (λ n l m h. refl)
  where
    none : (k : Kind) (n : Node) (l : Bool) (s : Standing) → is_still k ≡ true → is_loose_by k n ≡ false
    none (kind.OptChainExpr optional) n l s h = no h
    none _ n l s h = refl

none-misread : (k : Kind) (n : Node) (l : Bool) (s : Standing) → is_still k ≡ true → is_misread_by k n ≡ false
unfolding is_misread_by
none-misread (kind.Constructor accessibility is_optional) n l s h = no h
none-misread (kind.ClassMethod m modifiers) n l s h = no h
none-misread (kind.PrivateMethod m modifiers) n l s h = no h
none-misread _ n l s h = refl

members : Clause (λ w n. is_misread n)
members = by-kind (λ w k n. is_misread_by k n) none-misread (λ n l m h. refl)

abbrev out_of_role : Where → Kind → Node → Bool
out_of_role w k n = is_wrong_name w.role k || not (may_be w.role k || (takes w.role k && is_simple_target n))

none-out : (k : Kind) (n : Node) (l : Bool) (s : Standing) → is_still k ≡ true → out_of_role (free l s) k n ≡ false
unfolding may_be
none-out (kind.Module shebang) n l s h = refl
none-out kind.List n l s h = refl
none-out kind.Absent n l s h = refl
none-out (kind.NamedExport type_only) n l s h = refl
none-out _ n l s h = no h

roles : Clause (λ w n. is_out_of_role w.role n)
roles = by-kind out_of_role none-out (λ n l m h. refl)

targets : Clause (λ w n. is_stray_target w.role w.arguments n)
targets = by-kind (λ w k n. is_stray_target w.role w.arguments n) (λ k n l s h. refl) (λ n l m h. refl)

typed : Clause is_typed_target
typed = by-kind (λ w k n. is_typed_target w n) (λ k n l s h. refl) (λ n l m h. refl)

abbrev breaks : Where → Kind → Node → Bool
breaks w k n =
    (((is_head w.around.target && is_variables k) && not (is_one_without_value (items_at n 0))) || (is_rest w.around.target k && not w.around.is_last))
    || (((is_property_kind k && not (is_declaring w.around.standing && child_holds is_plain_parameter n 0)) || (misfits_by k n || (is_special_by k n || misplaces_this_by k n)))
    || ((is_exported w.around.standing && is_text k) || (is_body w.around.standing && is_declaration k)))

both-false : (a b : Bool) → ((a && false) || (b && false)) ≡ false
both-false true true = refl
both-false true false = refl
both-false false true = refl
both-false false false = refl

none-broken : (k : Kind) (n : Node) (l : Bool) (s : Standing) → is_still k ≡ true → breaks (free l s) k n ≡ false
unfolding misfits_by misplaces_this_by is_declaration
none-broken (kind.Module shebang) n l s h = both-false (is_exported s) (is_body s)
none-broken kind.List n l s h = both-false (is_exported s) (is_body s)
none-broken kind.Absent n l s h = both-false (is_exported s) (is_body s)
none-broken (kind.NamedExport type_only) n l s h = both-false (is_exported s) (is_body s)
none-broken _ n l s h = no h

-- an item is no rest
rest-last : (k : Kind) (l m : Bool) → belongs sort.ModuleItem k ≡ true → (is_rest target.Free k && not l) ≡ (is_rest target.Free k && not m)
rest-last kind.RestPat l m h = no h
rest-last _ l m h = refl

rules : Clause breaks_rule
rules = by-kind breaks none-broken (λ n l m h.
    ap (λ (z : Bool).
    (false || z)
    || (((is_property_kind (kind_of n) && not (is_declaring standing.Plain && child_holds is_plain_parameter n 0)) || (misfits_by (kind_of n) n || (is_special_by (kind_of n) n || misplaces_this_by (kind_of n) n)))
    || ((is_exported standing.Plain && is_text (kind_of n)) || (is_body standing.Plain && is_declaration (kind_of n)))))
    (rest-last (kind_of n) l m (item-kind n h)))

constructors : Clause (λ w n. has_second_constructor n)
constructors = by-kind (λ w k n. is_some (second_by k n)) none (λ n l m h. refl)
  where
    none : (k : Kind) (n : Node) (l : Bool) (s : Standing) → is_still k ≡ true → is_some (second_by k n) ≡ false
    none (kind.Class is_abstract) n l s h = no h
    none _ n l s h = refl

long : Clause (λ w n. is_long (kind_of n))
long = by-kind (λ w k n. is_long k) none (λ n l m h. refl)
  where
    none : (k : Kind) (n : Node) (l : Bool) (s : Standing) → is_still k ≡ true → is_long k ≡ false
    none (kind.Ident sym ctxt optional) n l s h = no h
    none _ n l s h = refl

made : (names : ℕ) → Clause (λ w n. is_made_but names (out-Node n).kind (out-Node n).span)
made names = by-kind (λ w k n. is_made_but names k (out-Node n).span) none (λ n l m h. refl)
  where
    none : (k : Kind) (n : Node) (l : Bool) (s : Standing) → is_still k ≡ true → is_made_but names k (out-Node n).span ≡ false
    none (kind.Ident sym ctxt optional) n l s h = no h
    none _ n l s h = refl

quiet-full : (k : Kind) (n : Node) → is_quiet k ≡ true → not (is_full_by k n) ≡ false
unfolding is_full_by
quiet-full kind.List n h = refl
quiet-full kind.Absent n h = refl
quiet-full _ n h = no h

module-full : (shebang : Option (List ℕ)) (n : Node) → not (is_full_by (kind.Module shebang) n) ≡ false
unfolding is_full_by
module-full shebang n = refl

export-full : not (is_full_by (kind.NamedExport false) empty_export) ≡ false
unfolding is_full_by
export-full = λ j. not (are_exports (no_source j) (no_attributes j) (no_specifiers j) && attributes_held j)

counts : Clause (λ w n. is_short n)
counts = record {
  module' = λ shebang n m en em told. ap (λ k. not (is_full_by k m)) em ∙ module-full shebang m;
  quiet = λ n l s h. quiet-full (kind_of n) n h;
  export = λ l. ap (λ k. not (is_full_by k empty_export)) export-kind ∙ export-full;
  items = λ n l m h. refl;
}

quiet-spelled : (k : Kind) → is_quiet k ≡ true → not (is_spelled false k) ≡ false
quiet-spelled kind.List h = refl
quiet-spelled kind.Absent h = refl
quiet-spelled _ h = no h

leaves : Clause is_misspelled
leaves = record {
  module' = λ shebang n m en em told. ap (λ k. not (is_spelled false k)) em ∙ sym (ap (λ k. not (is_spelled false k)) en) ∙ told;
  quiet = λ n l s h. quiet-spelled (kind_of n) h;
  export = λ l. ap (λ k. not (is_spelled false k)) export-kind;
  items = λ n l m h. refl;
}

-- ---- strays

still-held : (k : Kind) (n : Node) (i : ℕ) → is_still k ≡ true → held_behind (strays_in nothing_held k i) (ends_jumps k) (own_label k (label_of n)) [] ≡ not_held
unfolding strays_in in_named ends_jumps
still-held (kind.Module shebang) n i h = refl
still-held kind.List n i h = refl
still-held kind.Absent n i h = refl
still-held (kind.NamedExport type_only) n i h = refl
still-held _ n i h = no h

still-stray : (k : Kind) (n : Node) → is_still k ≡ true → is_stray_in not_held k (label_of n) ≡ false
unfolding is_stray_in is_stray
still-stray (kind.Module shebang) n h = refl
still-stray kind.List n h = refl
still-stray kind.Absent n h = refl
still-stray (kind.NamedExport type_only) n h = refl
still-stray _ n h = no h

module _ (n : Node) (k : Kind) (e : kind_of n ≡ k) (still : is_still k ≡ true) where
  held-inside : (i : ℕ) → held_in not_held n i ≡ not_held
  held-inside i = ap (λ z. held_behind (strays_in nothing_held z i) (ends_jumps z) (own_label z (label_of n)) []) e ∙ still-held k n i still

  no-stray : stray_here not_held n ≡ None
  no-stray = ap (λ (b : Bool). failing_here b n) (ap (λ z. is_stray_in not_held z (label_of n)) e ∙ still-stray k n still)

abbrev stray_in : Node → Held → Option ℕ
stray_in = first_failing Held stray_here held_in

export-strays : stray_in empty_export not_held ≡ None
export-strays =
    let inside = held-inside empty_export (kind.NamedExport false) export-kind refl in
    let list = leaf-tells Held stray_here held_in dummy_span kind.List not_held (no-stray (list_node []) kind.List none-kind refl) in
    let missing = leaf-tells Held stray_here held_in dummy_span kind.Absent not_held (no-stray absent kind.Absent absent-kind refl) in
    three-tell Held stray_here held_in dummy_span (kind.NamedExport false) (list_node []) absent absent not_held (no-stray empty_export (kind.NamedExport false) export-kind refl)
    (ap (stray_in (list_node [])) (inside 0) ∙ list) (ap (stray_in absent) (inside 1) ∙ missing) (ap (stray_in absent) (inside 2) ∙ missing)

-- ---- the module

items-more : (ns : List Node) (e : Node) → HaveShapes (replicate (length ns) (one sort.ModuleItem)) ns → IsItem e → HaveShapes (replicate (length (ns ++ e ∷ [])) (one sort.ModuleItem)) (ns ++ e ∷ [])
items-more [] e h item = (item, tt)
items-more (n ∷ ns) e h item = (h.0, items-more ns e h.1 item)

module _ (span : Span) (shebang : Option (List ℕ)) (place : Span) (ns : List Node) where
  abbrev before : Node
  before = module_at span shebang place ns

  pub sorted-more : (e : Node) → IsItem e → HasSort sort.Module before → HasSort sort.Module (module_at span shebang place (ns ++ e ∷ []))
  sorted-more e item h =
      let whole = (node_has_shape span (kind.Module shebang) (list_at place ns ∷ []) (one sort.Module)).0 h in
      let list = (node_has_shape place kind.List ns (many sort.ModuleItem)).0 whole.1.0 in
      (node_has_shape span (kind.Module shebang) (list_at place (ns ++ e ∷ []) ∷ []) (one sort.Module)).1
      (refl, ((node_has_shape place kind.List (ns ++ e ∷ []) (many sort.ModuleItem)).1 (refl, items-more ns e list.1 item), tt))

  strays-more : AreItems ns → first_stray before ≡ None → first_stray (module_at span shebang place (with_export ns)) ≡ None
  strays-more are told =
      let inside = λ (ms : List Node) (i : ℕ). held-inside (list_at place ms) kind.List (kind-of place kind.List ms) refl i in
      with-one-more Held stray_here held_in span shebang place ns empty_export not_held not_held are (record {
        module' = λ h. no-stray (module_at span shebang place (with_export ns)) (kind.Module shebang) (kind-of span (kind.Module shebang) (list_at place (with_export ns) ∷ [])) refl;
        around_list = λ ms. held-inside (module_at span shebang place ms) (kind.Module shebang) (kind-of span (kind.Module shebang) (list_at place ms ∷ [])) refl 0;
        list = λ h. no-stray (list_at place (with_export ns)) kind.List (kind-of place kind.List (with_export ns)) refl;
        items = λ i n h told. ap (stray_in n) (inside (with_export ns) i ∙ sym (inside ns i)) ∙ told;
        item = λ i. ap (stray_in empty_export) (inside (with_export ns) i) ∙ export-strays;
      }) told

  pub fits-more : AreItems ns → Fits before → Fits (module_at span shebang place (with_export ns))
  fits-more are f = record {
    sorted = sorted-more empty_export export-item f.sorted;
    counts = none-fails (λ w n. is_short n) counts span shebang place ns are f.counts;
    branches = none-fails (λ w n. is_dangling n) branches span shebang place ns are f.branches;
    chains = none-fails (λ w n. is_loose n) chains span shebang place ns are f.chains;
    members = none-fails (λ w n. is_misread n) members span shebang place ns are f.members;
    roles = none-fails (λ w n. is_out_of_role w.role n) roles span shebang place ns are f.roles;
    targets = none-fails (λ w n. is_stray_target w.role w.arguments n) targets span shebang place ns are f.targets;
    rules = none-fails breaks_rule rules span shebang place ns are f.rules;
    constructors = none-fails (λ w n. has_second_constructor n) constructors span shebang place ns are f.constructors;
    leaves = none-fails is_misspelled leaves span shebang place ns are f.leaves;
    strays = strays-more are f.strays;
  }

  pub targets-more : AreItems ns → HasPlainTargets before → HasPlainTargets (module_at span shebang place (with_export ns))
  targets-more are h = none-fails is_typed_target typed span shebang place ns are h

  pub short-more : AreItems ns → NoneLong before → NoneLong (module_at span shebang place (with_export ns))
  short-more are h = none-fails (λ w n. is_long (kind_of n)) long span shebang place ns are h

  pub unmade-more : (names : ℕ) → AreItems ns → NoneMadeBut names before → NoneMadeBut names (module_at span shebang place (with_export ns))
  unmade-more names are h = none-fails (λ w n. is_made_but names (out-Node n).kind (out-Node n).span) (made names) span shebang place ns are h

pub marked_trees_have_no_other_names : MarkedTreesHaveNoOtherNames
marked_trees_have_no_other_names no_empty_export was_module names tree h unmade =
    where-it-may-come (NoneMadeBut names) no_empty_export was_module tree h (λ span shebang place ns are before. unmade-more span shebang place ns names are before) unmade
