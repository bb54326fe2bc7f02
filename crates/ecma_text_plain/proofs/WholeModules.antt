-- Each function of what is read as a plain module has its body, no parameter is `this`, and each import by `=` is one of an external module.
use Rattle.std.proofs.Common.{◌≡◌, ◌∙◌, ℕ, Bool, true, false, not, List, [], ◌∷◌, inl, inr, map, length, Ok, refl, sym, ap, slice_get, subst}
use Rattle.std.specs.Str.{IsUtf8}
use Rattle.std.specs.List.{list_any}
use Rattle.ecma_kind.specs.declared.kind.Kind.{Kind}
use Rattle.ecma_kind.specs.declared.kind.Kind.TheVariants as kind
use Rattle.ecma_kind.specs.declared.shapes.Shape.{Shape}
use Rattle.ecma_kind.specs.declared.shapes.Sort.TheVariants as sort
use Rattle.ecma_tree.specs.declared.node.Node.{Node, Node-F, fold_out-Node, ind-Node, out-Node, roll-Node}
use Rattle.ecma_tree.specs.declared.node.Node.TheViews.{out-roll-Node, roll-out-Node}
use Rattle.ecma_tree.specs.Laws.{HaveShapes}
use Rattle.ecma_tree.specs.Sorted.{HasShape, allows, child_shapes, is_absent, maybe, one}
use Rattle.ecma_tree.proofs.ShapeLaws.{node_has_shape}
use Rattle.ecma_grammar.specs.Modules as grammar
use Rattle.ecma_grammar.specs.Modules.{reads_module}
use Rattle.ecma_grammar.specs.Reading.{Outcome, Position, fails, read, too_deep}
use Rattle.ecma_grammar.specs.trees.Others.{the_one}
use Rattle.ecma_grammar.specs.trees.Parts.{framed}
use Rattle.ecma_rules.specs.declared.target.Target.TheVariants as target
use Rattle.ecma_rules.specs.Children.{kind_of, of_kind}
use Rattle.ecma_modules.specs.Modules.{plain, reads_as}
use Rattle.ecma_text_sorts.specs.Laws.{ReadModulesAreSorted}
use Rattle.ecma_text_types.proofs.Raws.{of_raw}
use Rattle.ecma_raw_roles.proofs.Walks.{not_true}
use Rattle.ecma_text_plain.specs.Assignments.{is_inner_import, is_inner_import_by}
use Rattle.ecma_text_plain.specs.Laws.{ReadPlainFunctionsHaveBodies, ReadPlainImportsAreExternal, ReadPlainNamesAreNotThis}
use Rattle.ecma_text_plain.specs.Functions.{children_told, has_this_parameter, holds_somewhere, is_bodiless}
use Rattle.ecma_text_plain.proofs.WholeFinished.{finished_whole}
use Rattle.ecma_text_plain.proofs.WholeChains.{frames, missing_node}
use Rattle.ecma_text_plain.proofs.WholeReads.{module_reads}
use Rattle.ecma_text_plain.proofs.Whole.{A, G, View, is_specifier, is_unusual, more, no_this, none, view}
use Rattle.ecma_text_plain.proofs.Usual.{somewhere_out}
use Rattle.ecma_plain.specs.Items.{is_external}
use Rattle.ecma_plain.specs.Functions.{Functions, body_of, functions, functions_step, is_this_name, lacks_body, takes_this}
use Rattle.ecma_fits.proofs.Walks.{neither}

-- a node is missing where its kind says so
missing_told : (n : Node) → (functions n).is_missing ≡ is_absent (kind_of n)
missing_told n = ap (λ (f : Functions). f.is_missing) (fold_out-Node Functions functions_step n)

-- with the children that its kind asks for
told_full : (k : Kind) (cs : List Node) (o : Shape) → HaveShapes (child_shapes k o (length cs)) cs → is_unusual k cs ≡ false → lacks_body (map functions cs) (body_of k) ≡ false
told_full (kind.Function is_generator is_async) [] o h e = refl
told_full (kind.Function is_generator is_async) (a ∷ []) o h e = refl
told_full (kind.Function is_generator is_async) (a ∷ b ∷ []) o h e = absurd h.1.1
told_full (kind.Function is_generator is_async) (a ∷ b ∷ c ∷ []) o h e = absurd h.1.1.1
told_full (kind.Function is_generator is_async) (a ∷ b ∷ c ∷ d ∷ []) o h e = missing_told b ∙ e
told_full (kind.Function is_generator is_async) (a ∷ b ∷ c ∷ d ∷ f ∷ cs) o h e = absurd h.1.1.1.1
told_full (kind.Constructor accessibility is_optional) [] o h e = refl
told_full (kind.Constructor accessibility is_optional) (a ∷ []) o h e = refl
told_full (kind.Constructor accessibility is_optional) (a ∷ b ∷ []) o h e = refl
told_full (kind.Constructor accessibility is_optional) (a ∷ b ∷ c ∷ []) o h e = missing_told c ∙ e
told_full (kind.Constructor accessibility is_optional) (a ∷ b ∷ c ∷ d ∷ cs) o h e = absurd h.1.1.1
told_full kind.GetterProp [] o h e = refl
told_full kind.GetterProp (a ∷ []) o h e = refl
told_full kind.GetterProp (a ∷ b ∷ []) o h e = refl
told_full kind.GetterProp (a ∷ b ∷ c ∷ []) o h e = missing_told c ∙ e
told_full kind.GetterProp (a ∷ b ∷ c ∷ d ∷ cs) o h e = absurd h.1.1.1
told_full kind.SetterProp [] o h e = refl
told_full kind.SetterProp (a ∷ []) o h e = refl
told_full kind.SetterProp (a ∷ b ∷ []) o h e = refl
told_full kind.SetterProp (a ∷ b ∷ c ∷ []) o h e = refl
told_full kind.SetterProp (a ∷ b ∷ c ∷ d ∷ []) o h e = missing_told d ∙ (neither (not (is_absent (kind_of b))) (is_absent (kind_of d)) e).1
told_full kind.SetterProp (a ∷ b ∷ c ∷ d ∷ f ∷ cs) o h e = absurd h.1.1.1.1
told_full _ cs o h e = refl

-- the parts of a node of a shape
shape_parts : (n : Node) (o : Shape) → HasShape o n → (allows o (kind_of n) ≡ true) × HaveShapes (child_shapes (kind_of n) o (length (out-Node n).children)) (out-Node n).children
shape_parts n o h = (node_has_shape (out-Node n).span (out-Node n).kind (out-Node n).children o).0 (subst (HasShape o) (sym (roll-out-Node n)) h)

-- what stands in a specifier

abbrev is_name : Kind → Bool
is_name kind.Absent = true
is_name (kind.Ident text ctxt optional) = true
is_name (kind.Str value raw) = true
is_name _ = false

ident_name : (k : Kind) → allows (one sort.Ident) k ≡ true → is_name k ≡ true
ident_name (kind.Ident text ctxt optional) h = refl
ident_name _ h = not_true h

export_name : (k : Kind) → allows (one sort.ModuleExportName) k ≡ true → is_name k ≡ true
export_name (kind.Ident text ctxt optional) h = refl
export_name (kind.Str value raw) h = refl
export_name _ h = not_true h

maybe_name : (k : Kind) → allows (maybe sort.ModuleExportName) k ≡ true → is_name k ≡ true
maybe_name kind.Absent h = refl
maybe_name (kind.Ident text ctxt optional) h = refl
maybe_name (kind.Str value raw) h = refl
maybe_name _ h = not_true h

no_children : (k : Kind) (cs : List Node) (o : Shape) → is_name k ≡ true → HaveShapes (child_shapes k o (length cs)) cs → cs ≡ []
no_children k [] o i h = refl
no_children kind.Absent (c ∷ cs) o i h = absurd h
no_children (kind.Ident text ctxt optional) (c ∷ cs) o i h = absurd h
no_children (kind.Str value raw) (c ∷ cs) o i h = absurd h
no_children _ (c ∷ cs) o i h = not_true i

-- a test that holds of no whole node and of no specifier and its names holds nowhere in a whole tree
module _ (test : Node → Bool) (names : (n : Node) → is_name (kind_of n) ≡ true → test n ≡ false) (specifiers : (n : Node) → is_specifier (kind_of n) ≡ true → test n ≡ false)
    (wholes : (n : Node) (o : Shape) → HasShape o n → is_unusual (kind_of n) (out-Node n).children ≡ false → A (out-Node n).children → test n ≡ false) where
  abbrev Somewhere : List Node → Bool
  Somewhere ns = list_any (λ b. b) (map (holds_somewhere test) ns)

  name_nowhere : (n : Node) (o : Shape) → HasShape o n → is_name (kind_of n) ≡ true → holds_somewhere test n ≡ false
  name_nowhere n o s i =
      let a = names n i in
      let b : Somewhere (out-Node n).children ≡ false = ap Somewhere (no_children (kind_of n) (out-Node n).children o i (shape_parts n o s).1) in
      somewhere_out test n ∙ rw (a, b) refl

  specified : (k : Kind) (cs : List Node) (o : Shape) → is_specifier k ≡ true → HaveShapes (child_shapes k o (length cs)) cs → Somewhere cs ≡ false
  specified (kind.ImportNamedSpecifier is_type_only) [] o s h = absurd h
  specified (kind.ImportNamedSpecifier is_type_only) (a ∷ []) o s h = absurd h.1
  specified (kind.ImportNamedSpecifier is_type_only) (a ∷ b ∷ []) o s h =
      let p = name_nowhere a (one sort.Ident) h.0 (ident_name (kind_of a) (shape_parts a (one sort.Ident) h.0).0) in
      let q = name_nowhere b (maybe sort.ModuleExportName) h.1.0 (maybe_name (kind_of b) (shape_parts b (maybe sort.ModuleExportName) h.1.0).0) in
      rw (p, q) refl
  specified (kind.ImportNamedSpecifier is_type_only) (a ∷ b ∷ c ∷ cs) o s h = absurd h.1.1
  specified (kind.ExportNamedSpecifier is_type_only) [] o s h = absurd h
  specified (kind.ExportNamedSpecifier is_type_only) (a ∷ []) o s h = absurd h.1
  specified (kind.ExportNamedSpecifier is_type_only) (a ∷ b ∷ []) o s h =
      let p = name_nowhere a (one sort.ModuleExportName) h.0 (export_name (kind_of a) (shape_parts a (one sort.ModuleExportName) h.0).0) in
      let q = name_nowhere b (maybe sort.ModuleExportName) h.1.0 (maybe_name (kind_of b) (shape_parts b (maybe sort.ModuleExportName) h.1.0).0) in
      rw (p, q) refl
  specified (kind.ExportNamedSpecifier is_type_only) (a ∷ b ∷ c ∷ cs) o s h = absurd h.1.1
  specified kind.ExportNamespaceSpecifier [] o s h = absurd h
  specified kind.ExportNamespaceSpecifier (a ∷ []) o s h = let p = name_nowhere a (one sort.ModuleExportName) h.0 (export_name (kind_of a) (shape_parts a (one sort.ModuleExportName) h.0).0) in rw p refl
  specified kind.ExportNamespaceSpecifier (a ∷ b ∷ cs) o s h = absurd h.1
  specified _ cs o s h = not_true s

  abbrev Nowhere : Node → Type 0
  Nowhere n = (o : Shape) → HasShape o n → G n → holds_somewhere test n ≡ false

  abbrev AllNowhere : List Node → Type 0
  AllNowhere ns = (os : List Shape) → HaveShapes os ns → A ns → Somewhere ns ≡ false

  all_nowhere : (es : List ((n : Node) × Nowhere n)) → AllNowhere (map (λ e. e.0) es)
  all_nowhere [] os s h = refl
  all_nowhere (e ∷ es) [] s h = absurd s
  all_nowhere (e ∷ es) (o ∷ os) s (more a h) = let first = e.1 o s.0 a in let others = all_nowhere es os s.1 h in rw (first, others) refl

  layer_nowhere : (n : Node) → AllNowhere (out-Node n).children → Nowhere n
  layer_nowhere n all o s g = go (view g)
    where
      shaped : HaveShapes (child_shapes (kind_of n) o (length (out-Node n).children)) (out-Node n).children
      shaped = (shape_parts n o s).1

      go : View (kind_of n) (out-Node n).children → holds_somewhere test n ≡ false
      go (inl t) = let a = wholes n o s t.0 t.2 in let b = all (child_shapes (kind_of n) o (length (out-Node n).children)) shaped t.2 in somewhere_out test n ∙ rw (a, b) refl
      go (inr i) = let a = specifiers n i in let b = specified (kind_of n) (out-Node n).children o i shaped in somewhere_out test n ∙ rw (a, b) refl

  nowhere_whole : (n : Node) → Nowhere n
  nowhere_whole = ind-Node Nowhere (λ x y is.
      layer_nowhere (roll-Node x) (subst AllNowhere (ap (λ (z : Node-F Node). z.children) is ∙ sym (ap (λ (z : Node-F Node). z.children) (out-roll-Node x))) (all_nowhere y.children)))

-- bodies

name_bodiless : (k : Kind) (fs : List Functions) → is_name k ≡ true → lacks_body fs (body_of k) ≡ false
name_bodiless kind.Absent fs i = refl
name_bodiless (kind.Ident text ctxt optional) fs i = refl
name_bodiless (kind.Str value raw) fs i = refl
name_bodiless _ fs i = not_true i

specifier_bodiless : (k : Kind) (fs : List Functions) → is_specifier k ≡ true → lacks_body fs (body_of k) ≡ false
specifier_bodiless (kind.ImportNamedSpecifier is_type_only) fs i = refl
specifier_bodiless (kind.ExportNamedSpecifier is_type_only) fs i = refl
specifier_bodiless kind.ExportNamespaceSpecifier fs i = refl
specifier_bodiless _ fs i = not_true i

whole_bodies : (n : Node) (o : Shape) → HasShape o n → G n → holds_somewhere is_bodiless n ≡ false
whole_bodies =
    nowhere_whole is_bodiless (λ n i. name_bodiless (kind_of n) (children_told n) i) (λ n i. specifier_bodiless (kind_of n) (children_told n) i)
    (λ n o s e h. told_full (kind_of n) (out-Node n).children o (shape_parts n o s).1 e)

-- names

this_told : (n : Node) → (functions n).is_this ≡ is_this_name (kind_of n)
this_told n = ap (λ (f : Functions). f.is_this) (fold_out-Node Functions functions_step n)

name_without : (k : Kind) (fs : List Functions) → is_name k ≡ true → takes_this k fs ≡ false
name_without kind.Absent fs i = refl
name_without (kind.Ident text ctxt optional) fs i = refl
name_without (kind.Str value raw) fs i = refl
name_without _ fs i = not_true i

specifier_without : (k : Kind) (fs : List Functions) → is_specifier k ≡ true → takes_this k fs ≡ false
specifier_without (kind.ImportNamedSpecifier is_type_only) fs i = refl
specifier_without (kind.ExportNamedSpecifier is_type_only) fs i = refl
specifier_without kind.ExportNamespaceSpecifier fs i = refl
specifier_without _ fs i = not_true i

told_without : (k : Kind) (cs : List Node) → is_unusual k cs ≡ false → A cs → takes_this k (map functions cs) ≡ false
told_without kind.BindingIdent [] e h = refl
told_without kind.BindingIdent (c ∷ cs) e (more g h) = this_told c ∙ no_this g
told_without kind.SetterProp [] e h = refl
told_without kind.SetterProp (a ∷ []) e h = refl
told_without kind.SetterProp (a ∷ b ∷ []) e h = refl
told_without kind.SetterProp (a ∷ b ∷ c ∷ []) e h = refl
told_without kind.SetterProp (a ∷ b ∷ c ∷ d ∷ []) e h = ap not (missing_told b) ∙ (neither (not (is_absent (kind_of b))) (is_absent (kind_of d)) e).0
told_without kind.SetterProp (a ∷ b ∷ c ∷ d ∷ f ∷ cs) e h = refl
told_without _ cs e h = refl

whole_names : (n : Node) (o : Shape) → HasShape o n → G n → holds_somewhere has_this_parameter n ≡ false
whole_names =
    nowhere_whole has_this_parameter (λ n i. name_without (kind_of n) (children_told n) i) (λ n i. specifier_without (kind_of n) (children_told n) i)
    (λ n o s e h. told_without (kind_of n) (out-Node n).children e h)

-- imports

name_no_import : (k : Kind) (n : Node) → is_name k ≡ true → is_inner_import_by k n ≡ false
name_no_import kind.Absent n i = refl
name_no_import (kind.Ident text ctxt optional) n i = refl
name_no_import (kind.Str value raw) n i = refl
name_no_import _ n i = not_true i

specifier_no_import : (k : Kind) (n : Node) → is_specifier k ≡ true → is_inner_import_by k n ≡ false
specifier_no_import (kind.ImportNamedSpecifier is_type_only) n i = refl
specifier_no_import (kind.ExportNamedSpecifier is_type_only) n i = refl
specifier_no_import kind.ExportNamespaceSpecifier n i = refl
specifier_no_import _ n i = not_true i

told_external : (n : Node) (k : Kind) (cs : List Node) (o : Shape) → (out-Node n).children ≡ cs → HaveShapes (child_shapes k o (length cs)) cs → is_unusual k cs ≡ false → is_inner_import_by k n ≡ false
told_external n (kind.TsImportEqualsDecl is_export is_type_only) [] o c h e = absurd h
told_external n (kind.TsImportEqualsDecl is_export is_type_only) (a ∷ []) o c h e = absurd h.1
told_external n (kind.TsImportEqualsDecl is_export is_type_only) (a ∷ b ∷ []) o c h e = ap (λ (z : List Node). not (of_kind is_external (slice_get z 1))) c ∙ e
told_external n (kind.TsImportEqualsDecl is_export is_type_only) (a ∷ b ∷ d ∷ cs) o c h e = absurd h.1.1
told_external n _ cs o c h e = refl

whole_imports : (n : Node) (o : Shape) → HasShape o n → G n → holds_somewhere is_inner_import n ≡ false
whole_imports =
    nowhere_whole is_inner_import (λ n i. name_no_import (kind_of n) n i) (λ n i. specifier_no_import (kind_of n) n i)
    (λ n o s e h. told_external n (kind_of n) (out-Node n).children o refl (shape_parts n o s).1 e)

the_one_full : {xs : List Node} → A xs → G (the_one xs)
the_one_full none = missing_node
the_one_full (more a none) = a
the_one_full (more a (more b h)) = missing_node

raw_full : (text : List ℕ) → IsUtf8 text → (assignments : Bool) (bound : ℕ) (raw : Node) → grammar.answer_of (reads_module text (plain assignments) bound) ≡ Ok raw → G raw
raw_full text u assignments bound raw e = by_outcome (reads_module text (plain assignments) bound) (module_reads text u assignments bound (record { place = 0; failed = 0 })) e
  where
    by_outcome : (o : Outcome (List Node)) → ((s : Position) (xs : List Node) → o ≡ read xs s → A xs) → grammar.answer_of o ≡ Ok raw → G raw
    by_outcome (read xs s) h f = let is : framed 1 the_one xs ≡ raw = cc in subst G is (frames 1 the_one (h s xs refl) (λ all. the_one_full all))
    by_outcome (fails at) h f = cc
    by_outcome (too_deep at) h f = cc

tree_whole : (text : List ℕ) → IsUtf8 text → (assignments : Bool) (bound : ℕ) (tree : Node) → reads_as text (plain assignments) bound ≡ Ok tree → G tree
tree_whole text u assignments bound tree e = of_raw G text (plain assignments) bound tree (λ raw h b is. subst G is (finished_whole raw (raw_full text u assignments bound raw h) target.Free)) e

pub read_bodies : ReadModulesAreSorted → ReadPlainFunctionsHaveBodies
read_bodies sorted text assignments bound tree u e = whole_bodies tree (one sort.Module) (sorted text (plain assignments) bound tree e) (tree_whole text u assignments bound tree e)

pub read_names : ReadModulesAreSorted → ReadPlainNamesAreNotThis
read_names sorted text assignments bound tree u e = whole_names tree (one sort.Module) (sorted text (plain assignments) bound tree e) (tree_whole text u assignments bound tree e)

pub read_imports : ReadModulesAreSorted → ReadPlainImportsAreExternal
read_imports sorted text keep_assign bound tree u e = whole_imports tree (one sort.Module) (sorted text (plain keep_assign) bound tree e) (tree_whole text u keep_assign bound tree e)
