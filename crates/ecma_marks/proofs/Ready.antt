-- A module that is ready is so with `export {}` at its end.
use Rattle.std.proofs.Common.{◌≡◌, ◌∙◌, ℕ, Bool, true, false, ◌&&◌, ◌||◌, not, refl, sym, ap, ap₂, subst, List, [], ◌∷◌, ◌++◌, map, Option}
use Rattle.std.specs.List.{list_any}
use Rattle.ecma_kind.specs.declared.kind.Kind.{Kind}
use Rattle.ecma_kind.specs.declared.kind.Kind.TheVariants as kind
use Rattle.ecma_kind.specs.declared.span.Span.{Span}
use Rattle.ecma_tree.specs.Nodes.{absent, dummy_span, list_node, node_of}
use Rattle.ecma_tree.specs.Sorted.{is_list}
use Rattle.ecma_tree.specs.Values.{is_value}
use Rattle.ecma_tree.specs.declared.node.Node.{Node, Node-F}
use Rattle.ecma_tree.specs.declared.node.Node.TheViews.{out-roll-Node}
use Rattle.ecma_tree.proofs.Layers.{from_leaves-roll}
use Rattle.ecma_lower.specs.Marking.{empty_export}
use Rattle.ecma_rules.specs.Children.{kind_of}
use Rattle.ecma_forms.specs.Forms.{is_odd_by}
use Rattle.ecma_strip.specs.Staying.{is_this, is_this_by, is_this_ident, is_this_param, is_this_param_by, stays}
use Rattle.ecma_sources.specs.TypesAlone.{adds_types_alone, adds_types_by, alone_step, is_lone_receiver, is_receiver, lacks_body, lacks_body_by, staying_hold}
use Rattle.ecma_text_leaves.specs.Everywhere.{Each, Everywhere, everywhere, more, none}
use Rattle.ecma_text_leaves.proofs.Trees.{children_good, each_append, kind_good}
use Rattle.ecma_ready.specs.Leaving.{is_left_over, leaves_plain_forms, leaves_step}
use Rattle.ecma_ready.specs.Ready.{HasTexts, IsReady}
use Rattle.ecma_marks.specs.Laws.{MarkedTreesAreReady}
use Rattle.ecma_marks.proofs.Adding.{where-it-may-come}
use Rattle.ecma_marks.proofs.Conflicts.{export-clashes, export-declares, redeclared-more}
use Rattle.ecma_marks.proofs.Contexts.{scopes-more}
use Rattle.ecma_marks.proofs.Export.{absent-kind, export-kind, is_still, none-kind, parts}
use Rattle.ecma_marks.proofs.Fitting.{fits-more, short-more, targets-more}
use Rattle.ecma_marks.proofs.Modules.{AreItems, children-of, kind-of, list_at, module_at, no, with_export}

-- ---- truths

and-true : (b : Bool) → (b && true) ≡ b
and-true true = refl
and-true false = refl

or-false : (b : Bool) → (b || false) ≡ b
or-false true = refl
or-false false = refl

or-true : (b : Bool) → ((b || true) && true) ≡ true
or-true true = refl
or-true false = refl

-- no item more passes a test
any-more : (test : Node → Bool) (e : Node) → test e ≡ false → (ns : List Node) → list_any test (ns ++ e ∷ []) ≡ list_any test ns
any-more test e h [] = ap (λ (b : Bool). b || false) h
any-more test e h (n ∷ ns) = ap (λ (b : Bool). test n || b) (any-more test e h ns)

-- what holds of an item more
holds-more : (holds : Node → Bool) (e : Node) → holds e ≡ true → (ns : List Node) → staying_hold true (ns ++ e ∷ []) (map holds (ns ++ e ∷ [])) ≡ staying_hold true ns (map holds ns)
holds-more holds e h [] = ap (λ (b : Bool). ((true && not (stays e)) || b) && true) h ∙ or-true (not (stays e))
holds-more holds e h (n ∷ ns) = ap (λ (b : Bool). ((true && not (stays n)) || holds n) && b) (holds-more holds e h ns)

-- ---- types alone

-- nodes of such a kind are neither functions nor receivers
no-body : (n : Node) (k : Kind) → kind_of n ≡ k → is_still k ≡ true → lacks_body n ≡ false
no-body n k e h = ap (λ z. lacks_body_by z (is_value n)) e ∙ by k h
  where
    by : (k : Kind) → is_still k ≡ true → lacks_body_by k (is_value n) ≡ false
    by kind.FnExpr h = no h
    by _ h = refl

no-this : (n : Node) (k : Kind) → kind_of n ≡ k → is_still k ≡ true → is_this n ≡ false
no-this n k e h = ap (λ z. is_this_by z n) e ∙ by k h
  where
    by : (k : Kind) → is_still k ≡ true → is_this_by k n ≡ false
    by kind.BindingIdent h = no h
    by _ h = refl

no-name : (k : Kind) → is_still k ≡ true → is_this_ident k ≡ false
no-name (kind.Ident sym ctxt optional) h = no h
no-name _ h = refl

no-parameter : (n : Node) (k : Kind) → kind_of n ≡ k → is_still k ≡ true → is_this_param n ≡ false
no-parameter n k e h = ap (λ z. is_this_param_by z n) e ∙ by k h (no-this n k e h)
  where
    by : (k : Kind) → is_still k ≡ true → is_this n ≡ false → is_this_param_by k n ≡ false
    by kind.Param h g = no h
    by _ h g = g

no-receiver : (n : Node) (k : Kind) → kind_of n ≡ k → is_still k ≡ true → is_receiver n ≡ false
no-receiver n k e h = ap₂ (λ (a b : Bool). a || b) (ap is_this_ident e ∙ no-name k h) (no-parameter n k e h)

no-lone-receiver : (n : Node) (k : Kind) → kind_of n ≡ k → is_still k ≡ true → is_lone_receiver n ≡ false
no-lone-receiver n k e h = ap₂ (λ (a b : Bool). a || b) (ap is_this_ident e ∙ no-name k h) (no-this n k e h)

alone-roll : (span : Span) (k : Kind) (cs : List Node) → adds_types_alone (node_of span k cs) ≡ (adds_types_by k cs && staying_hold (is_list k) cs (map adds_types_alone cs))
alone-roll span k cs =
    let parts : Node-F Node = record { span = span; kind = k; children = cs } in
    from_leaves-roll Bool alone_step parts
    ∙ ap (λ (z : Node-F Node). adds_types_by z.kind z.children && staying_hold (is_list z.kind) z.children (map adds_types_alone cs)) (out-roll-Node parts)

list-alone : adds_types_alone (list_node []) ≡ true
list-alone = alone-roll dummy_span kind.List []

absent-alone : adds_types_alone absent ≡ true
absent-alone = alone-roll dummy_span kind.Absent []

export-alone : adds_types_alone empty_export ≡ true
export-alone =
    alone-roll dummy_span (kind.NamedExport false) parts
    ∙ (λ j.
    (true && (true && (not (no-body (list_node []) kind.List none-kind refl j || (no-body absent kind.Absent absent-kind refl j || (no-body absent kind.Absent absent-kind refl j || false)))
    && not (no-receiver (list_node []) kind.List none-kind refl j || (no-receiver absent kind.Absent absent-kind refl j || (no-receiver absent kind.Absent absent-kind refl j || false))))))
    && ((false || list-alone j) && ((false || absent-alone j) && ((false || absent-alone j) && true))))

module _ (span : Span) (shebang : Option (List ℕ)) (at : Span) where
  module-alone : (ms : List Node) → adds_types_alone (module_at span shebang at ms) ≡ adds_types_alone (list_at at ms)
  module-alone ms =
      let list = list_at at ms in
      let is = kind-of at kind.List ms in
      alone-roll span (kind.Module shebang) (list ∷ [])
      ∙ (λ j. (true && (true && (not (no-body list kind.List is refl j || false) && not (no-receiver list kind.List is refl j || false)))) && ((false || adds_types_alone list) && true))
      ∙ and-true (adds_types_alone list)

  module _ (e : Node) (body : lacks_body e ≡ false) (lone : is_lone_receiver e ≡ false) (alone : adds_types_alone e ≡ true) (ns : List Node) where
    pub types-more : adds_types_alone (module_at span shebang at (ns ++ e ∷ [])) ≡ adds_types_alone (module_at span shebang at ns)
    types-more =
        module-alone (ns ++ e ∷ [])
        ∙ alone-roll at kind.List (ns ++ e ∷ [])
        ∙ (λ j. (true && (true && (not (any-more lacks_body e body ns j) && not (any-more is_lone_receiver e lone ns j)))) && holds-more adds_types_alone e alone ns j)
        ∙ sym (alone-roll at kind.List ns)
        ∙ sym (module-alone ns)

-- ---- forms

abbrev may_be_left_by : Bool → Kind → Node → Bool
may_be_left_by assignments k n = not (is_left_over assignments k) && not (is_odd_by k n)

still-left : (assignments : Bool) (k : Kind) (n : Node) → is_still k ≡ true → may_be_left_by assignments k n ≡ true
still-left assignments (kind.Module shebang) n h = refl
still-left assignments kind.List n h = refl
still-left assignments kind.Absent n h = refl
still-left assignments (kind.NamedExport type_only) n h = refl
still-left assignments _ n h = no h

module _ (assignments : Bool) where
  abbrev leaves : Node → Bool
  leaves = leaves_plain_forms assignments

  leaves-roll : (span : Span) (k : Kind) (cs : List Node) → is_still k ≡ true → leaves (node_of span k cs) ≡ staying_hold (is_list k) cs (map leaves cs)
  leaves-roll span k cs h =
      let n = node_of span k cs in
      from_leaves-roll Bool (leaves_step assignments) (record { span = span; kind = k; children = cs })
      ∙ ap₂ (λ z (ds : List Node). may_be_left_by assignments z n && staying_hold (is_list z) ds (map leaves cs)) (kind-of span k cs) (children-of span k cs)
      ∙ ap (λ (b : Bool). b && staying_hold (is_list k) cs (map leaves cs)) (still-left assignments k n h)

  export-leaves : leaves empty_export ≡ true
  export-leaves =
      leaves-roll dummy_span (kind.NamedExport false) parts refl
      ∙ (λ j. (false || leaves-roll dummy_span kind.List [] refl j) && ((false || leaves-roll dummy_span kind.Absent [] refl j) && ((false || leaves-roll dummy_span kind.Absent [] refl j) && true)))

  module _ (span : Span) (shebang : Option (List ℕ)) (at : Span) where
    module-leaves : (ms : List Node) → leaves (module_at span shebang at ms) ≡ staying_hold true ms (map leaves ms)
    module-leaves ms = leaves-roll span (kind.Module shebang) (list_at at ms ∷ []) refl ∙ and-true (leaves (list_at at ms)) ∙ leaves-roll at kind.List ms refl

    pub forms-more : (e : Node) → leaves e ≡ true → (ns : List Node) → leaves (module_at span shebang at (ns ++ e ∷ [])) ≡ leaves (module_at span shebang at ns)
    forms-more e h ns = module-leaves (ns ++ e ∷ []) ∙ holds-more leaves e h ns ∙ sym (module-leaves ns)

-- ---- texts

module _ (P : Kind → Type 0) where
  FirstIs : List Node → Type 0
  FirstIs [] = Unit
  FirstIs (n ∷ ns) = Everywhere P n

  first-is : {ns : List Node} → Each P ns → FirstIs ns
  unfolding FirstIs
  first-is none = tt
  first-is (more a h) = a

  pub everywhere-more : (span : Span) (shebang : Option (List ℕ)) (at : Span) (ns : List Node) (e : Node) → Everywhere P e → Everywhere P (module_at span shebang at ns) → Everywhere P (module_at span shebang at (ns ++ e ∷ []))
  unfolding FirstIs
  everywhere-more span shebang at ns e item h =
      let whole = subst P (kind-of span (kind.Module shebang) (list_at at ns ∷ [])) (kind_good P h) in
      let list : Everywhere P (list_at at ns) = first-is (subst (Each P) (children-of span (kind.Module shebang) (list_at at ns ∷ [])) (children_good P h)) in
      let inner = subst P (kind-of at kind.List ns) (kind_good P list) in
      let items = subst (Each P) (children-of at kind.List ns) (children_good P list) in
      everywhere span (kind.Module shebang) whole (more (everywhere at kind.List inner (each_append P items (more item none))) none)

export-texts : Everywhere HasTexts empty_export
export-texts =
    everywhere dummy_span (kind.NamedExport false) (tt, tt)
    (more (everywhere dummy_span kind.List (tt, tt) none) (more (everywhere dummy_span kind.Absent (tt, tt) none) (more (everywhere dummy_span kind.Absent (tt, tt) none) none)))

-- ---- all of it

ready-more : (assignments : Bool) (free : ℕ) (span : Span) (shebang : Option (List ℕ)) (at : Span) (ns : List Node) → AreItems ns → IsReady assignments free (module_at span shebang at ns)
    → IsReady assignments free (module_at span shebang at (with_export ns))
ready-more assignments free span shebang at ns are ready = record {
  fits = fits-more span shebang at ns are ready.fits;
  targets = targets-more span shebang at ns are ready.targets;
  types =
      types-more span shebang at empty_export (no-body empty_export (kind.NamedExport false) export-kind refl) (no-lone-receiver empty_export (kind.NamedExport false) export-kind refl) export-alone ns
      ∙ ready.types;
  forms = forms-more assignments span shebang at empty_export (export-leaves assignments) ns ∙ ready.forms;
  scopes = scopes-more span shebang at ns free ready.scopes;
  free_inner = ready.free_inner;
  distinct = redeclared-more span shebang at empty_export export-declares export-clashes ns ∙ ready.distinct;
  short = short-more span shebang at ns are ready.short;
  texts = everywhere-more HasTexts span shebang at ns empty_export export-texts ready.texts;
}

pub marked_trees_are_ready : MarkedTreesAreReady
marked_trees_are_ready no_empty_export was_module assignments free tree ready =
    where-it-may-come (IsReady assignments free) no_empty_export was_module tree ready.fits.sorted (λ span shebang at ns are before. ready-more assignments free span shebang at ns are before) ready
