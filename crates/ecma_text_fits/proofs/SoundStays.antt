-- What is sound stays so when it is finished.
use Rattle.std.proofs.Common.{◌≡◌, ◌∙◌, ℕ, Bool, true, not, ◌&&◌, ◌||◌, List, [], ◌∷◌, map, refl, ap, ap₂}
use Rattle.std.proofs.lemmas.Bool.{and_parts, and_from}
use Rattle.ecma_kind.specs.declared.kind.Kind.{Kind}
use Rattle.ecma_kind.specs.declared.kind.Kind.TheVariants as kind
use Rattle.ecma_kind.specs.declared.operators.MethodKind.{MethodKind}
use Rattle.ecma_tree.specs.declared.node.Node.{Node}
use Rattle.ecma_tree.specs.Sorted.{is_absent, is_list}
use Rattle.ecma_grammar.specs.trees.Classes.{is_plain_function}
use Rattle.ecma_grammar.specs.trees.Parts.{children_of, kind_of}
use Rattle.ecma_rules.specs.declared.target.Target.{Target}
use Rattle.ecma_rules.specs.declared.target.Target.TheVariants as target
use Rattle.ecma_rules.specs.Children.{is_present}
use Rattle.ecma_rules.specs.Finishing.{each_in, finished_at}
use Rattle.ecma_rules.specs.Members.{is_constructor_key, is_method, is_special_function}
use Rattle.ecma_rules.specs.Targets.{target_in}
use Rattle.ecma_fits.specs.Chains.{is_behind_chain}
use Rattle.ecma_fits.specs.Counts.{are_exports, are_imports, is_empty, is_whole_template}
use Rattle.ecma_text_fits.proofs.FinishedKinds.{is_turned, throughout_finished}
use Rattle.ecma_text_fits.proofs.FinishedSound.{behind_free, empty_each, exports_map, free, imports_map, list_free, list_of_free, takes_free, whole_map, with_free}
use Rattle.ecma_text_fits_parts.proofs.Sound.{Sound, are_several, holds_with, is_base, is_choice, is_export, is_export_all, is_function, is_import, is_linked, is_list_of, is_method_pair, is_named_well, is_pair, is_some, is_template, is_triple, items}
use Rattle.ecma_text_fits_finished.proofs.Standing.{presence}
use Rattle.ecma_text_fits_finished.proofs.Tests.{free_children, kind_at}
use Rattle.ecma_text_fits_parts.proofs.Throughout.{Throughout}
use Rattle.ecma_raw_roles.proofs.Walks.{free_kind, not_true}

-- children that nothing is assigned to
abbrev frees : List Node → List Node
frees cs = each_in (λ i. target.Free) (map finished_at cs)

template_stays : (cs : List Node) → is_template cs ≡ true → is_template (frees cs) ≡ true
template_stays (a ∷ b ∷ []) h =
    let outer = and_parts (is_list (kind_of a) && is_list (kind_of b)) (is_whole_template (children_of a) (children_of b)) h in
    let lists = and_parts (is_list (kind_of a)) (is_list (kind_of b)) outer.0 in
    let e = list_free a lists.0 in
    let f = list_free b lists.1 in
    and_from (is_list (kind_of (free a)) && is_list (kind_of (free b))) (is_whole_template (children_of (free a)) (children_of (free b)))
    (and_from (is_list (kind_of (free a))) (is_list (kind_of (free b))) (ap is_list (free_kind a) ∙ lists.0) (ap is_list (free_kind b) ∙ lists.1))
    (ap₂ is_whole_template e f ∙ whole_map (children_of a) (children_of b) outer.1)
template_stays _ h = not_true h

several_stay : (cs : List Node) → are_several cs ≡ true → are_several (frees cs) ≡ true
several_stay [] h = h
several_stay (a ∷ []) h = h
several_stay (a ∷ b ∷ cs) h = refl

some_stay : (target_of : ℕ → Target) (cs : List Node) → is_some cs ≡ true → is_some (each_in target_of (map finished_at cs)) ≡ true
some_stay target_of [] h = h
some_stay target_of (c ∷ cs) h = refl

filled_stays : (cs : List Node) → not (is_empty (items cs 0)) ≡ true → not (is_empty (items (frees cs) 0)) ≡ true
filled_stays [] h = h
filled_stays (c ∷ cs) h = ap (λ (z : List Node). not (is_empty z)) (free_children c) ∙ ap not (empty_each (target_in target.Free (kind_of c)) (children_of c)) ∙ h

import_stays : (cs : List Node) → is_import cs ≡ true → is_import (frees cs) ≡ true
import_stays (a ∷ b ∷ c ∷ []) h =
    let both = and_parts (is_list_of are_imports a) (holds_with c) h in
    and_from (is_list_of are_imports (free a)) (holds_with (free c)) (list_of_free are_imports (λ xs e. imports_map xs ∙ e) a both.0) (with_free c both.1)
import_stays _ h = not_true h

export_stays : (cs : List Node) → is_export cs ≡ true → is_export (frees cs) ≡ true
export_stays (a ∷ b ∷ c ∷ []) h =
    let both = and_parts (is_list_of (are_exports (is_present (kind_of b)) (is_present (kind_of c))) a) (holds_with c) h in
    let names = list_of_free (are_exports (is_present (kind_of b)) (is_present (kind_of c))) (λ xs e. exports_map (is_present (kind_of b)) (is_present (kind_of c)) xs ∙ e) a both.0 in
    and_from (is_list_of (are_exports (is_present (kind_of (free b))) (is_present (kind_of (free c)))) (free a)) (holds_with (free c))
    (ap₂ (λ k l. is_list_of (are_exports (is_present k) (is_present l)) (free a)) (free_kind b) (free_kind c) ∙ names) (with_free c both.1)
export_stays _ h = not_true h

all_export_stays : (cs : List Node) → is_export_all cs ≡ true → is_export_all (frees cs) ≡ true
all_export_stays (a ∷ b ∷ []) h = with_free b h
all_export_stays _ h = not_true h

pair_of_method : (k : MethodKind) (cs : List Node) → is_method_pair k cs ≡ true → is_method_pair k (frees cs) ≡ true
pair_of_method k (key ∷ f ∷ []) h = ap (λ z. is_function z && (is_method k || is_plain_function z)) (free_kind f) ∙ h
pair_of_method k _ h = not_true h

name_stays : (k : MethodKind) (static : Bool) (cs : List Node) → is_named_well k static cs ≡ true → is_named_well k static (frees cs) ≡ true
name_stays k static [] h = h
name_stays k static (key ∷ []) h = h
name_stays k static (key ∷ f ∷ cs) h = ap₂ (λ a b. static || (not (is_constructor_key a) || (not (is_method k) || is_special_function b))) (free_kind key) (free_kind f) ∙ h

method_stays : (k : MethodKind) (static : Bool) (cs : List Node) → (is_method_pair k cs && is_named_well k static cs) ≡ true → (is_method_pair k (frees cs) && is_named_well k static (frees cs)) ≡ true
method_stays k static cs h =
    let both = and_parts (is_method_pair k cs) (is_named_well k static cs) h in
    and_from (is_method_pair k (frees cs)) (is_named_well k static (frees cs)) (pair_of_method k cs both.0) (name_stays k static cs both.1)

pair_stays : (target_of : ℕ → Target) (cs : List Node) → is_pair cs ≡ true → is_pair (each_in target_of (map finished_at cs)) ≡ true
pair_stays target_of (a ∷ b ∷ []) h = refl
pair_stays target_of _ h = not_true h

triple_stays : (target_of : ℕ → Target) (cs : List Node) → is_triple cs ≡ true → is_triple (each_in target_of (map finished_at cs)) ≡ true
triple_stays target_of (a ∷ b ∷ c ∷ []) h = refl
triple_stays target_of _ h = not_true h

linked_stays : (optional : Bool) (cs : List Node) → is_linked optional cs ≡ true → is_linked optional (frees cs) ≡ true
linked_stays optional (base ∷ []) h =
    let both = and_parts (is_base (kind_of base)) (optional || is_behind_chain base) h in
    and_from (is_base (kind_of (free base))) (optional || is_behind_chain (free base)) (ap is_base (free_kind base) ∙ both.0) (ap (λ b. optional || b) (behind_free base both.0) ∙ both.1)
linked_stays optional _ h = not_true h

choice_stays : (cs : List Node) → is_choice cs ≡ true → is_choice (frees cs) ≡ true
choice_stays (a ∷ b ∷ c ∷ []) h = ap₂ (λ k e. is_absent k || not e) (free_kind c) (takes_free b) ∙ h
choice_stays _ h = not_true h

sound_stays : (t : Target) (k : Kind) (cs : List Node) → Sound k cs → Sound k (each_in (target_in t k) (map finished_at cs))
unfolding target_in
sound_stays t kind.Tpl cs h = template_stays cs h
sound_stays t kind.SeqExpr cs h = several_stay cs h
sound_stays t (kind.YieldExpr delegate) cs h = ap (λ b. b || not delegate) (presence (λ i. target.Free) cs 0) ∙ h
sound_stays t (kind.ArrowExpr is_async is_generator) cs h = h
sound_stays t kind.TryStmt cs h = ap₂ (λ a b. a || b) (presence (λ i. target.Free) cs 1) (presence (λ i. target.Free) cs 2) ∙ h
sound_stays t (kind.VarDecl d declare) cs h = filled_stays cs h
sound_stays t (kind.ImportDecl type_only) cs h = import_stays cs h
sound_stays t (kind.NamedExport type_only) cs h = export_stays cs h
sound_stays t (kind.ExportAll type_only) cs h = all_export_stays cs h
sound_stays t (kind.Constructor accessibility is_optional) cs h = kind_at is_constructor_key (λ i. target.Free) cs 0 refl ∙ h
sound_stays t (kind.ClassMethod k modifiers) cs h = method_stays k modifiers.is_static cs h
sound_stays t (kind.PrivateMethod k modifiers) cs h = pair_of_method k cs h
sound_stays t kind.MemberExpr cs h = some_stay (λ i. target.Free) cs h
sound_stays t kind.CallExpr cs h = triple_stays (λ i. target.Free) cs h
sound_stays t kind.TaggedTpl cs h = triple_stays (λ i. target.Free) cs h
sound_stays t (kind.BinExpr op) cs h = pair_stays (λ i. target.Free) cs h
sound_stays t (kind.OptChainExpr optional) cs h = linked_stays optional cs h
sound_stays t kind.IfStmt cs h = choice_stays cs h
sound_stays t _ cs h = refl

turned_sound : (k : Kind) (cs : List Node) → is_turned k ≡ true → Sound k cs
turned_sound kind.Absent cs h = refl
turned_sound kind.BindingIdent cs h = refl
turned_sound (kind.ArrayPat optional) cs h = refl
turned_sound (kind.ObjectPat optional) cs h = refl
turned_sound kind.RestPat cs h = refl
turned_sound kind.AssignPat cs h = refl
turned_sound kind.KeyValuePatProp cs h = refl
turned_sound kind.AssignPatProp cs h = refl
turned_sound _ cs h = not_true h

pub finished_sound : (raw : Node) → Throughout Sound raw → (t : Target) → Throughout Sound (finished_at raw t)
finished_sound raw = throughout_finished Sound turned_sound sound_stays raw
