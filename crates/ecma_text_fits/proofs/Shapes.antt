-- In what is read as a module no node is short, no link is loose and no member is misread.
use Rattle.std.proofs.Common.{◌≡◌, ◌∙◌, ℕ, suc, Bool, true, false, not, ◌&&◌, ◌||◌, List, [], ◌∷◌, map, length, nat_lt, arith, Option, None, Ok, refl, sym, ap, subst, slice_get}
use Rattle.std.specs.List.{list_all}
use Rattle.std.proofs.lemmas.Bool.{and_parts, and_from}
use Rattle.ecma_kind.specs.declared.kind.Kind.{Kind}
use Rattle.ecma_kind.specs.declared.kind.Kind.TheVariants as kind
use Rattle.ecma_kind.specs.declared.operators.MethodKind.{MethodKind}
use Rattle.ecma_tree.specs.declared.node.Node.{Node, Node-F, ind-Node, roll-Node}
use Rattle.ecma_tree.specs.Sorted.{is_absent, is_list}
use Rattle.ecma_grammar.specs.declared.production.Mode.{Mode}
use Rattle.ecma_grammar.specs.trees.Classes.{is_plain_function}
use Rattle.ecma_grammar.specs.trees.Parts.{children_of, kind_of}
use Rattle.ecma_rules.specs.declared.target.Target.TheVariants as target
use Rattle.ecma_rules.specs.Children.{child_holds, has_child, holds_of, is_present, of_kind}
use Rattle.ecma_rules.specs.Failing.{failing_here, failing_step, first_failing, least_from}
use Rattle.ecma_rules.specs.Members.{is_constructor_key, is_method, is_misfit, is_special_by, is_special_constructor, is_special_function, is_stray_property, misplaces_this}
use Rattle.ecma_rules.specs.Rules.{fails_list, fails_member, fails_statement}
use Rattle.ecma_modules.specs.Modules.{reads_as}
use Rattle.ecma_fits.specs.declared.unfit.Where.{Where}
use Rattle.ecma_fits.specs.Branches.{is_choice as is_choice_kind, is_dangling, takes_else}
use Rattle.ecma_fits.specs.Chains.{is_behind_chain, is_loose, is_loose_by}
use Rattle.ecma_fits.specs.Counts.{are_exports, are_imports, holds_attributes, is_attribute, is_full_by, is_short, is_whole_template}
use Rattle.ecma_fits.specs.Fitting.{at_top, breaks_rule, where_in, NoneFails}
use Rattle.ecma_fits.specs.Members.{is_misread, is_misread_by}
use Rattle.ecma_text_leaves.proofs.Trees.{children_made}
use Rattle.ecma_text_fits.specs.Laws.{ReadTreesKeepRules, ReadBranchesTakeTheirElse, ReadLinksAreNotLoose, ReadMembersAreNotMisread, ReadNodesAreFull}
use Rattle.ecma_text_fits.proofs.SoundStays.{finished_sound}
use Rattle.ecma_tree.proofs.Layers.{from_leaves-roll}
use Rattle.ecma_text_fits_parts.proofs.RawSound.{raw_sound}
use Rattle.ecma_text_types.proofs.Raws.{of_raw}
use Rattle.ecma_text_fits_parts.proofs.Sound.{Sound, are_attributes, are_several, has, holds_with, is_attribute_list, is_base, is_choice, is_export, is_export_all, is_function, is_import, is_linked, is_list_of, is_method_pair, is_named_well, is_object, is_template, items, may_be_named}
use Rattle.ecma_text_fits_parts.proofs.Steps.{one_true}
use Rattle.ecma_text_fits_parts.proofs.Throughout.{EachThroughout, Throughout, below, here, more}
use Rattle.ecma_raw_roles.proofs.Walks.{not_true}
use Rattle.ecma_text_fits.specs.Rules.{KeepsRules}
use Rattle.ecma_fits.proofs.Walks.{both_none, neither, neither_least, not_failing, shifted}

-- where a walk tells nothing, a test tells nothing that no sound node fails of which the walk tells nothing
module _ (f g : Where → Node → Bool) (fine : (w : Where) (n : Node) → Sound (kind_of n) (children_of n) → f w n ≡ false → g w n ≡ false) where
  abbrev walk : (Where → Node → Bool) → Node → Where → Option ℕ
  walk test = first_failing Where (λ w node. failing_here (test w node) node) where_in

  abbrev Passes : Node → Type 0
  Passes n = Throughout Sound n → (w : Where) → walk f n w ≡ None → walk g n w ≡ None

  abbrev AllPass : List Node → Type 0
  AllPass ns = EachThroughout Sound ns → (where_of : ℕ → Where) → least_from Where where_of 0 (map (walk f) ns) ≡ None → least_from Where where_of 0 (map (walk g) ns) ≡ None

  all_pass : (es : List ((n : Node) × Passes n)) → AllPass (map (λ e. e.0) es)
  all_pass [] s where_of h = refl
  all_pass (e ∷ es) (more a s) where_of h =
      let ns = map (λ e. e.0) es in
      let v = neither_least (walk f e.0 (where_of 0)) (least_from Where where_of 1 (map (walk f) ns)) h in
      both_none (walk g e.0 (where_of 0)) (least_from Where where_of 1 (map (walk g) ns)) (e.1 a (where_of 0) v.0)
      (shifted Where where_of 0 (map (walk g) ns) ∙ all_pass es s (λ i. where_of (suc i)) (sym (shifted Where where_of 0 (map (walk f) ns)) ∙ v.1))

  node_passes : (x : Node-F Node) → AllPass x.children → Passes (roll-Node x)
  node_passes x inside s w h =
      let n = roll-Node x in
      let was = ap (λ z. z w) (from_leaves-roll (Where → Option ℕ) (failing_step Where (λ w node. failing_here (f w node) node) where_in) x) in
      let v = neither_least (failing_here (f w n) n) (least_from Where (where_in w n) 0 (map (walk f) x.children)) (sym was ∙ h) in
      let here_fine = fine w n (here Sound s) (not_failing (f w n) n v.0) in
      ap (λ z. z w) (from_leaves-roll (Where → Option ℕ) (failing_step Where (λ w node. failing_here (g w node) node) where_in) x)
      ∙ both_none (failing_here (g w n) n) (least_from Where (where_in w n) 0 (map (walk g) x.children)) (ap (λ b. failing_here b n) here_fine)
      (inside (subst (EachThroughout Sound) (children_made x.span x.kind x.children) (below Sound s)) (where_in w n) v.1)

  pub passes : (n : Node) → Passes n
  passes = ind-Node Passes (λ x y is. node_passes x (subst (λ (z : Node-F Node). AllPass z.children) is (all_pass y.children)))

-- counts

attributes_held : (k : Kind) (cs : List Node) → are_attributes k cs ≡ true → list_all is_attribute (items cs 0) ≡ true
attributes_held k [] h = refl
attributes_held k (a ∷ []) h =
    one_true (is_absent k && false) (is_object k && is_attribute_list (a ∷ [])) h
    (λ e. not_true (and_parts (is_absent k) false e).1)
    (λ e. (and_parts (is_list (kind_of a)) (list_all is_attribute (children_of a)) (and_parts (is_object k) (is_attribute_list (a ∷ [])) e).1).1)
attributes_held k (a ∷ b ∷ bs) h =
    one_true (is_absent k && false) (is_object k && false) h (λ e. not_true (and_parts (is_absent k) false e).1) (λ e. not_true (and_parts (is_object k) false e).1)

template_full : (cs : List Node) → is_template cs ≡ true → is_whole_template (items cs 0) (items cs 1) ≡ true
template_full (a ∷ b ∷ []) h = (and_parts (is_list (kind_of a) && is_list (kind_of b)) (is_whole_template (children_of a) (children_of b)) h).1
template_full _ h = not_true h

several_full : (cs : List Node) → are_several cs ≡ true → nat_lt 1 (length cs) ≡ true
several_full [] h = not_true h
several_full (a ∷ []) h = not_true h
several_full (a ∷ b ∷ cs) h = grind arith

import_full : (cs : List Node) → is_import cs ≡ true → (are_imports (items cs 0) && holds_of holds_attributes (slice_get cs 2)) ≡ true
import_full (a ∷ b ∷ c ∷ []) h =
    let both = and_parts (is_list_of are_imports a) (holds_with c) h in
    and_from (are_imports (children_of a)) (holds_attributes c) (and_parts (is_list (kind_of a)) (are_imports (children_of a)) both.0).1 (attributes_held (kind_of c) (children_of c) both.1)
import_full _ h = not_true h

export_full : (cs : List Node) → is_export cs ≡ true → (are_exports (has cs 1) (has cs 2) (items cs 0) && holds_of holds_attributes (slice_get cs 2)) ≡ true
export_full (a ∷ b ∷ c ∷ []) h =
    let names = are_exports (is_present (kind_of b)) (is_present (kind_of c)) in
    let both = and_parts (is_list_of names a) (holds_with c) h in
    and_from (names (children_of a)) (holds_attributes c) (and_parts (is_list (kind_of a)) (names (children_of a)) both.0).1 (attributes_held (kind_of c) (children_of c) both.1)
export_full _ h = not_true h

all_export_full : (cs : List Node) → is_export_all cs ≡ true → holds_of holds_attributes (slice_get cs 1) ≡ true
all_export_full (a ∷ b ∷ []) h = attributes_held (kind_of b) (children_of b) h
all_export_full _ h = not_true h

full : (k : Kind) (n : Node) → Sound k (children_of n) → is_full_by k n ≡ true
unfolding is_full_by
full kind.Tpl n h = template_full (children_of n) h
full kind.SeqExpr n h = several_full (children_of n) h
full (kind.YieldExpr delegate) n h = h
full (kind.ArrowExpr is_async is_generator) n h = h
full kind.TryStmt n h = h
full (kind.VarDecl d declare) n h = h
full (kind.ImportDecl type_only) n h = import_full (children_of n) h
full (kind.NamedExport type_only) n h = export_full (children_of n) h
full (kind.ExportAll type_only) n h = all_export_full (children_of n) h
full _ n h = refl

-- branches

choice_held : (cs : List Node) → is_choice cs ≡ true → (has cs 2 && holds_of takes_else (slice_get cs 1)) ≡ false
choice_held (a ∷ b ∷ c ∷ []) h = go (is_absent (kind_of c)) (takes_else b) h
  where
    go : (p q : Bool) → (p || not q) ≡ true → (not p && q) ≡ false
    go true q e = refl
    go false true e = not_true e
    go false false e = refl
choice_held _ h = not_true h

not_dangling : (k : Kind) (n : Node) → Sound k (children_of n) → (is_choice_kind k && (has_child n 2 && child_holds takes_else n 1)) ≡ false
not_dangling kind.IfStmt n h = choice_held (children_of n) h
not_dangling _ n h = refl

-- links

either_given : (a b : Bool) → (a || b) ≡ true → (not a && not b) ≡ false
either_given true b h = refl
either_given false true h = refl
either_given false false h = not_true h

link_held : (optional : Bool) (cs : List Node) → is_linked optional cs ≡ true → (not optional && not (holds_of is_behind_chain (slice_get cs 0))) ≡ false
link_held optional (base ∷ []) h = either_given optional (is_behind_chain base) (and_parts (is_base (kind_of base)) (optional || is_behind_chain base) h).1
link_held optional _ h = not_true h

not_loose : (k : Kind) (n : Node) → Sound k (children_of n) → is_loose_by k n ≡ false
not_loose (kind.OptChainExpr optional) n h = link_held optional (children_of n) h
not_loose _ n h = refl

-- members

plain_function : (k : Kind) → is_plain_function k ≡ true → is_special_function k ≡ false
plain_function (kind.Function true is_async) h = not_true h
plain_function (kind.Function false true) h = not_true h
plain_function (kind.Function false false) h = refl
plain_function _ h = not_true h

accessor_held : (method plain special : Bool) → (method || plain) ≡ true → (plain ≡ true → special ≡ false) → (not method && special) ≡ false
accessor_held true plain special h f = refl
accessor_held false true special h f = f refl
accessor_held false false special h f = not_true h

named_held : (key special method static : Bool) → (static || (not key || (not method || special))) ≡ true → (not static && (key && (not method || special))) ≡ false → (not static && key) ≡ false
named_held key special method true h r = refl
named_held false special method false h r = refl
named_held true special method false h r = not_true (sym r ∙ h)

neither_holds : (a b : Bool) → a ≡ false → b ≡ false → (a || b) ≡ false
neither_holds a b h g = rw (h, g) refl

private_held : (k : MethodKind) (cs : List Node) → is_method_pair k cs ≡ true → (not (is_method k) && of_kind is_special_function (slice_get cs 1)) ≡ false
private_held k (key ∷ f ∷ []) h = accessor_held (is_method k) (is_plain_function (kind_of f)) (is_special_function (kind_of f)) (and_parts (is_function (kind_of f)) (is_method k || is_plain_function (kind_of f)) h).1 (plain_function (kind_of f))
private_held k _ h = not_true h

method_held : (k : MethodKind) (static : Bool) (cs : List Node) → (is_method_pair k cs && is_named_well k static cs) ≡ true
    → (not static && (of_kind is_constructor_key (slice_get cs 0) && (not (is_method k) || of_kind is_special_function (slice_get cs 1)))) ≡ false
    → ((not (is_method k) && of_kind is_special_function (slice_get cs 1)) || (not static && of_kind is_constructor_key (slice_get cs 0))) ≡ false
method_held k static (key ∷ f ∷ []) h r =
    let both = and_parts (is_method_pair k (key ∷ f ∷ [])) (may_be_named k static key f) h in
    neither_holds (not (is_method k) && is_special_function (kind_of f)) (not static && is_constructor_key (kind_of key)) (private_held k (key ∷ f ∷ []) both.0)
    (named_held (is_constructor_key (kind_of key)) (is_special_function (kind_of f)) (is_method k) static both.1 r)
method_held k static _ h r = not_true h

not_misread : (k : Kind) (n : Node) → Sound k (children_of n) → is_special_by k n ≡ false → is_misread_by k n ≡ false
unfolding is_misread_by
not_misread (kind.Constructor accessibility is_optional) n h r = ap not h
not_misread (kind.ClassMethod k modifiers) n h r = method_held k modifiers.is_static (children_of n) h r
not_misread (kind.PrivateMethod k modifiers) n h r = private_held k (children_of n) h
not_misread _ n h r = refl

no_special : (w : Where) (n : Node) → breaks_rule w n ≡ false → is_special_constructor n ≡ false
no_special w n h =
    let outer = neither (fails_list w.around n) (fails_member w.around n || fails_statement w.around n) h in
    let member = (neither (fails_member w.around n) (fails_statement w.around n) outer.1).0 in
    (neither (is_special_constructor n) (misplaces_this n) (neither (is_misfit n) (is_special_constructor n || misplaces_this n) (neither (is_stray_property w.around.standing n) (is_misfit n || (is_special_constructor n || misplaces_this n)) member).1).1).0

-- what is read

read_sound : (text : List ℕ) (mode : Mode) (bound : ℕ) (tree : Node) → reads_as text mode bound ≡ Ok tree → Throughout Sound tree
read_sound text mode bound tree e = of_raw (Throughout Sound) text mode bound tree (λ raw h b is. subst (Throughout Sound) is (finished_sound raw (raw_sound text mode bound raw h) target.Free)) e

module _ (rules : ReadTreesKeepRules) where
  none_fails : (g : Where → Node → Bool) → ((w : Where) (n : Node) → Sound (kind_of n) (children_of n) → breaks_rule w n ≡ false → g w n ≡ false)
      → (text : List ℕ) (mode : Mode) (bound : ℕ) (tree : Node) → reads_as text mode bound ≡ Ok tree → NoneFails g tree
  none_fails g fine text mode bound tree e = (let kept : KeepsRules tree = rules text mode bound tree e in passes breaks_rule g fine tree (read_sound text mode bound tree e) at_top kept.rules)

  pub read_full : ReadNodesAreFull
  read_full = none_fails (λ w n. is_short n) (λ w n s r. ap not (full (kind_of n) n s))

  pub read_branches : ReadBranchesTakeTheirElse
  read_branches = none_fails (λ w n. is_dangling n) (λ w n s r. not_dangling (kind_of n) n s)

  pub read_linked : ReadLinksAreNotLoose
  read_linked = none_fails (λ w n. is_loose n) (λ w n s r. not_loose (kind_of n) n s)

  pub read_members : ReadMembersAreNotMisread
  read_members = none_fails (λ w n. is_misread n) (λ w n s r. not_misread (kind_of n) n s (no_special w n r))
