-- The clauses of trees that fit, of a module with `export {}`: tests of nodes and of where they stand.
use Rattle.std.proofs.Common.{◌≡◌, ◌∙◌, ℕ, suc, Bool, true, false, ◌==◌, List, [], ◌∷◌, ◌++◌, length, Option, None, refl, sym, ap}
use Rattle.ecma_kind.specs.Sorts.{belongs}
use Rattle.ecma_kind.specs.declared.kind.Kind.{Kind}
use Rattle.ecma_kind.specs.declared.kind.Kind.TheVariants as kind
use Rattle.ecma_kind.specs.declared.shapes.Sort.TheVariants as sort
use Rattle.ecma_kind.specs.declared.span.Span.{Span}
use Rattle.ecma_tree.specs.Nodes.{absent, dummy_span, list_node}
use Rattle.ecma_tree.specs.Sorted.{one}
use Rattle.ecma_tree.specs.declared.node.Node.{Node, out-Node}
use Rattle.ecma_lower.specs.Marking.{empty_export}
use Rattle.ecma_rules.specs.declared.standing.Standing.{Standing}
use Rattle.ecma_rules.specs.declared.standing.Standing.TheVariants as standing
use Rattle.ecma_rules.specs.declared.target.Target.TheVariants as target
use Rattle.ecma_rules.specs.Children.{has_child, kind_of}
use Rattle.ecma_rules.specs.Failing.{failing_here, first_failing}
use Rattle.ecma_rules.specs.Lists.{last_by}
use Rattle.ecma_rules.specs.Surroundings.{standing_by}
use Rattle.ecma_rules.specs.Targets.{target_in}
use Rattle.ecma_fits.specs.declared.role.Role.TheVariants as role
use Rattle.ecma_fits.specs.declared.unfit.Where.{Where}
use Rattle.ecma_fits.specs.Fitting.{NoneFails, at_top, where_in}
use Rattle.ecma_fits.specs.Roles.{role_in}
use Rattle.ecma_fits.specs.Strays.{arguments_in, not_held}
use Rattle.ecma_fits.proofs.Walks.{not_failing}
use Rattle.ecma_strip_rewriting.proofs.PlainKinds.{shape-out}
use Rattle.ecma_marks.proofs.Export.{absent-kind, export-kind, is_quiet, none-kind}
use Rattle.ecma_marks.proofs.Modules.{AreItems, IsItem, kind-of, list_at, module_at, no, with_export}
use Rattle.ecma_marks.proofs.Walks.{leaf-tells, tells-alike, three-tell, with-one-more}

-- ---- where the nodes of a module stand that are no parts of its statements

abbrev pub free : Bool → Standing → Where
free l s = record { role = role.Free; around = record { target = target.Free; standing = s; is_last = l }; arguments = not_held }

-- the parts of `where_in`
abbrev where_by : Where → Kind → Bool → Bool → ℕ → ℕ → Where
where_by w k first second count i = record {
  role = role_in w.role k i;
  around = record { target = target_in w.around.target k i; standing = standing_by w.around.standing k first second i; is_last = last_by w.around.is_last k count i };
  arguments = arguments_in w.arguments k i;
}

abbrev where_of : Where → Node → Kind → ℕ → Where
where_of w n k i = where_by w k (has_child n 1) (has_child n 2) (length (out-Node n).children) i

in-module : (n : Node) (shebang : Option (List ℕ)) → kind_of n ≡ kind.Module shebang → where_in at_top n 0 ≡ at_top
unfolding role_in target_in standing_by last_by arguments_in
in-module n shebang e = ap (λ k. where_of at_top n k 0) e

in-list : (n : Node) (i : ℕ) → kind_of n ≡ kind.List → where_in at_top n i ≡ free (suc i == length (out-Node n).children) standing.Plain
unfolding role_in target_in standing_by last_by arguments_in
in-list n i e = ap (λ k. where_of at_top n k i) e

in-export : (n : Node) (l : Bool) (i : ℕ) → kind_of n ≡ kind.NamedExport false → where_in (free l standing.Plain) n i ≡ free true (standing_by standing.Plain (kind.NamedExport false) (has_child n 1) (has_child n 2) i)
unfolding role_in target_in last_by arguments_in
in-export n l i e = ap (λ k. where_of (free l standing.Plain) n k i) e

-- whether an item stands last does not matter to what stands in it
item-last : (k : Kind) (l m : Bool) (count i : ℕ) → belongs sort.ModuleItem k ≡ true → last_by l k count i ≡ last_by m k count i
unfolding last_by
item-last kind.Param l m count i h = no h
item-last (kind.TsParamProp accessibility is_override readonly) l m count i h = no h
item-last kind.AssignPat l m count i h = no h
item-last _ l m count i h = refl

pub item-kind : (n : Node) → IsItem n → belongs sort.ModuleItem (kind_of n) ≡ true
item-kind n h = (shape-out n (one sort.ModuleItem) h).0

in-item : (n : Node) (l m : Bool) (i : ℕ) → IsItem n → where_in (free l standing.Plain) n i ≡ where_in (free m standing.Plain) n i
in-item n l m i h =
    ap (λ (z : Bool). record {
      role = role_in role.Free (kind_of n) i;
      around = record { target = target_in target.Free (kind_of n) i; standing = standing_by standing.Plain (kind_of n) (has_child n 1) (has_child n 2) i; is_last = z };
      arguments = arguments_in not_held (kind_of n) i;
    }) (item-last (kind_of n) l m (length (out-Node n).children) i (item-kind n h))

-- ---- what is asked of a test

pub record Clause (fails : Where → Node → Bool) : Type 0 where
  -- a module is told by its kind
  pub module' : (shebang : Option (List ℕ)) (n m : Node) → kind_of n ≡ kind.Module shebang → kind_of m ≡ kind.Module shebang → fails at_top n ≡ false → fails at_top m ≡ false
  -- a list does not fail there, nor does what is missing, nor `export {}`
  pub quiet : (n : Node) (l : Bool) (s : Standing) → is_quiet (kind_of n) ≡ true → fails (free l s) n ≡ false
  pub export : (l : Bool) → fails (free l standing.Plain) empty_export ≡ false
  -- whether an item stands last does not matter to it
  pub items : (n : Node) (l m : Bool) → IsItem n → fails (free l standing.Plain) n ≡ fails (free m standing.Plain) n

module _ (fails : Where → Node → Bool) (clause : Clause fails) where
  abbrev place : Where → Node → Option ℕ
  place w n = failing_here (fails w n) n

  silent : (w : Where) (n : Node) → fails w n ≡ false → place w n ≡ None
  silent w n e = ap (λ (b : Bool). failing_here b n) e

  abbrev first : Node → Where → Option ℕ
  first = first_failing Where place where_in

  quiet-kind : (n : Node) (k : Kind) → kind_of n ≡ k → is_quiet k ≡ true → is_quiet (kind_of n) ≡ true
  quiet-kind n k e h = ap is_quiet e ∙ h

  list-tells : (l : Bool) (s : Standing) → first (list_node []) (free l s) ≡ None
  list-tells l s = leaf-tells Where place where_in dummy_span kind.List (free l s)
      (silent (free l s) (list_node []) (clause.quiet (list_node []) l s (quiet-kind (list_node []) kind.List none-kind refl)))

  absent-tells : (l : Bool) (s : Standing) → first absent (free l s) ≡ None
  absent-tells l s = leaf-tells Where place where_in dummy_span kind.Absent (free l s)
      (silent (free l s) absent (clause.quiet absent l s (quiet-kind absent kind.Absent absent-kind refl)))

  export-tells : (l : Bool) → first empty_export (free l standing.Plain) ≡ None
  export-tells l =
      let at = λ (i : ℕ). in-export empty_export l i export-kind in
      let s = λ (i : ℕ). standing_by standing.Plain (kind.NamedExport false) (has_child empty_export 1) (has_child empty_export 2) i in
      three-tell Where place where_in dummy_span (kind.NamedExport false) (list_node []) absent absent (free l standing.Plain)
      (silent (free l standing.Plain) empty_export (clause.export l))
      (ap (first (list_node [])) (at 0) ∙ list-tells true (s 0)) (ap (first absent) (at 1) ∙ absent-tells true (s 1)) (ap (first absent) (at 2) ∙ absent-tells true (s 2))

  item-tells : (n : Node) (l m : Bool) → IsItem n → first n (free l standing.Plain) ≡ first n (free m standing.Plain)
  item-tells n l m h =
      tells-alike Where place where_in n (free l standing.Plain) (free m standing.Plain) (ap (λ (b : Bool). failing_here b n) (clause.items n l m h)) (λ i. in-item n l m i h)

  -- nothing fails with an item more in which nothing does
  pub none-fails-with : (e : Node) → ((l : Bool) → first e (free l standing.Plain) ≡ None) → (span : Span) (shebang : Option (List ℕ)) (at : Span) (ns : List Node) → AreItems ns
      → NoneFails fails (module_at span shebang at ns) → NoneFails fails (module_at span shebang at (ns ++ e ∷ []))
  none-fails-with e tells span shebang at ns are told =
      let more = ns ++ e ∷ [] in
      let is-module = λ (ms : List Node). kind-of span (kind.Module shebang) (list_at at ms ∷ []) in
      let is-list = λ (ms : List Node). kind-of at kind.List ms in
      with-one-more Where place where_in span shebang at ns e at_top at_top are (record {
        module' = λ h. silent at_top (module_at span shebang at more)
            (clause.module' shebang (module_at span shebang at ns) (module_at span shebang at more) (is-module ns) (is-module more)
            (not_failing (fails at_top (module_at span shebang at ns)) (module_at span shebang at ns) h));
        around_list = λ ms. in-module (module_at span shebang at ms) shebang (is-module ms);
        list = λ h. silent at_top (list_at at more) (clause.quiet (list_at at more) true standing.Plain (quiet-kind (list_at at more) kind.List (is-list more) refl));
        items = λ i n h told.
            (ap (first n) (in-list (list_at at more) i (is-list more))
            ∙ item-tells n (suc i == length (out-Node (list_at at more)).children) (suc i == length (out-Node (list_at at ns)).children) h
            ∙ sym (ap (first n) (in-list (list_at at ns) i (is-list ns))) ∙ told);
        item = λ i. ap (first e) (in-list (list_at at more) i (is-list more)) ∙ tells (suc i == length (out-Node (list_at at more)).children);
      }) told

  pub none-fails : (span : Span) (shebang : Option (List ℕ)) (at : Span) (ns : List Node) → AreItems ns → NoneFails fails (module_at span shebang at ns) → NoneFails fails (module_at span shebang at (with_export ns))
  none-fails span shebang at ns are told = none-fails-with empty_export export-tells span shebang at ns are told
