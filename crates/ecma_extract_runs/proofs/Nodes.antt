-- What is extracted of each node has its effects.
use Rattle.std.proofs.Common.{◌≡◌, refl, sym, ap, ◌∙◌, subst, List, [], ◌∷◌, map, append-nil, Bool, true, false, ◌&&◌, not, cond, codes}
use Rattle.std.proofs.lemmas.Bool.{false≢true}
use Rattle.ecma_kind.specs.declared.kind.Kind.{Kind}
use Rattle.ecma_kind.specs.declared.kind.Kind.TheVariants as kind
use Rattle.ecma_tree.proofs.Layers.{from_leaves_out}
use Rattle.ecma_tree.specs.declared.node.Node.{Node, Node-F, fold-roll-Node, roll-Node, out-Node, ind-Node}
use Rattle.ecma_tree.specs.declared.node.Node.TheViews.{out-roll-Node, roll-out-Node}
use Rattle.ecma_judge.specs.declared.ctx.ExprCtx.{ExprCtx}
use Rattle.ecma_judge.specs.Contexts.{is_global}
use Rattle.ecma_judge.specs.Extraction.{extracted, extracted_by, given as left_of, way_by, part_way_by, is_name, is_name_by, is_name_step, is_date}
use Rattle.ecma_runs.specs.Run.{Run}
use Rattle.ecma_runs.specs.Meaning.{ExecutionContext, Meaning}
use Rattle.ecma_runs.specs.Expressions.{value_of}
use Rattle.ecma_runs.specs.Declarations.{has_no_effect}
use Rattle.ecma_runs.specs.Evaluation.{role_by, no_effect, constant_meaning, set_export, enum_meaning, member_meaning, ending_chain, meaning_by, meaning}
use Rattle.ecma_runs.proofs.Layer.{meaning_out}
use Rattle.ecma_run_places.specs.Alike.{Contexts, first, second}
use Rattle.ecma_run_places.specs.Worlds.{World}
use Rattle.ecma_run_places.specs.Making.{Making, only_by, making_step, making, only_makes}
use Rattle.ecma_run_places.proofs.Dropping.{dropped_end, Drops}
use Rattle.ecma_run_places.proofs.Idle.{give_drops, outside_drops}
use Rattle.ecma_run_places.proofs.Making.{only_makes_drops}
use Rattle.ecma_run_places.proofs.Nodes.{means_alike}
use Rattle.ecma_extract_runs.specs.Evaluated.{evaluated}
use Rattle.ecma_extract_runs.specs.Fits.{is_single, single_by, item_by, is_item, fits_by, fits_step, fits}
use Rattle.ecma_extract_runs.proofs.Leading.{Leads, led_end, undone_end, drops_lead, outside_leads, alike_leads}
use Rattle.ecma_extract_runs.proofs.Dates.{both_true, not_both}
use Rattle.ecma_extract_runs.proofs.References.{bounded_end}
use Rattle.ecma_extract_runs.proofs.ByKind.{Claim, opens_by, opens, Here, Child, nodes, meanings, keeps}
use Rattle.ecma_extract_runs.proofs.ByRole.{role_claim}

moved : {w : World} (c : Contexts w) (n : Node) {m m' : Meaning} → m ≡ m' → Leads w (m.value (first c)) (evaluated (n ∷ []) (second c)) → Leads w (m'.value (first c)) (evaluated (n ∷ []) (second c))
moved {w} c n same h = subst (λ (z : Meaning). Leads w (z.value (first c)) (evaluated (n ∷ []) (second c))) same h

moved_drops : {w : World} (c : Contexts w) {m m' : Meaning} → m ≡ m' → Drops w (m.value (first c)) → Drops w (m'.value (first c))
moved_drops {w} c same h = subst (λ (z : Meaning). Drops w (z.value (first c))) same h

to_same : {w : World} {A : Type 0} {m : Run A} (x : ExecutionContext) {es fs : List Node} → fs ≡ es → Leads w m (evaluated es x) → Leads w m (evaluated fs x)
to_same {w} {A} {m} x same h = subst (λ ns. Leads w m (evaluated ns x)) (sym same) h

module _ (ctx : ExprCtx) (n : Node) where
  here_of : (k : Kind) (ps : List (Child ctx)) → meaning n ≡ role_by n k (meanings ctx ps) → (out-Node n).children ≡ nodes ctx ps → only_makes n ≡ only_by k (map making (nodes ctx ps))
      → Here n (nodes ctx ps) (only_by k (map making (nodes ctx ps))) (value_of n k (meanings ctx ps))
  here_of k ps mean shape only = record {
    shape = shape;
    whole = λ c. moved c n mean (alike_leads ((means_alike n).value c));
    drops = λ c none h. moved_drops c mean (only_makes_drops n (only ∙ h) c none);
  }

  -- ---- what gives nothing

  no_effect_claim : (fit item name opened : Bool) (es : List Node) → (item ≡ true → es ≡ []) → (opened ≡ true → ⊥) → Claim ctx n fit item name opened es (no_effect n)
  no_effect_claim fit item name opened es none never' = record {
    value = λ c f d. outside_leads;
    elements = λ c f i d. to_same (second c) (none i) (drops_lead (give_drops []));
    texts = λ c f i d. to_same (second c) (none i) (drops_lead (give_drops []));
    key = λ c f d. outside_leads;
    defined = λ c a o m f i d. to_same (second c) (none i) (drops_lead (give_drops []));
    never_defined = λ h a o x s. absurd (never' h);
    made = λ x sort home. outside_drops;
    named = λ c d h. record { at = λ st. dropped_end };
    typed = λ c f h d. record { at = λ st. led_end };
    date = λ h x d s. undone_end;
    link = λ optional x. record { at = λ s. bounded_end };
  }

  absent_claim : (fit name : Bool) (es : List Node) → Claim ctx n fit false name false es (role_by n kind.Absent [])
  absent_claim fit name es = record {
    value = λ c f d. outside_leads;
    elements = λ c f i d. absurd (false≢true i);
    texts = λ c f i d. absurd (false≢true i);
    key = λ c f d. outside_leads;
    defined = λ c a o m f i d. outside_leads;
    never_defined = λ h a o x s. absurd (false≢true h);
    made = λ x sort home. outside_drops;
    named = λ c d h. record { at = λ st. dropped_end };
    typed = λ c f h d. record { at = λ st. led_end };
    date = λ h x d s. undone_end;
    link = λ optional x. record { at = λ s. bounded_end };
  }

  constant_claim : (fit item name : Bool) (es : List Node) (left right : Meaning) → Claim ctx n fit item name false es (constant_meaning n left right)
  constant_claim fit item name es left right = record {
    value = λ c f d. outside_leads;
    elements = λ c f i d. record { at = λ st. led_end };
    texts = λ c f i d. record { at = λ st. led_end };
    key = λ c f d. outside_leads;
    defined = λ c a o m f i d. outside_leads;
    never_defined = λ h a o x s. absurd (false≢true h);
    made = λ x sort home. outside_drops;
    named = λ c d h. record { at = λ st. dropped_end };
    typed = λ c f h d. record { at = λ st. led_end };
    date = λ h x d s. undone_end;
    link = λ optional x. record { at = λ s. bounded_end };
  }

  exported_claim : (fit item name : Bool) (es : List Node) (ms : List Meaning) → Claim ctx n fit item name false es (role_by n kind.ExportDecl ms)
  exported_claim fit item name es ms = record {
    value = λ c f d. outside_leads;
    elements = λ c f i d. record { at = λ st. led_end };
    texts = λ c f i d. record { at = λ st. led_end };
    key = λ c f d. outside_leads;
    defined = λ c a o m f i d. outside_leads;
    never_defined = λ h a o x s. absurd (false≢true h);
    made = λ x sort home. outside_drops;
    named = λ c d h. record { at = λ st. dropped_end };
    typed = λ c f h d. record { at = λ st. led_end };
    date = λ h x d s. undone_end;
    link = λ optional x. record { at = λ s. bounded_end };
  }

  enum_claim : (fit item name is_const : Bool) (es : List Node) (left right : Meaning) → Claim ctx n fit item name false es (enum_meaning n is_const left right)
  enum_claim fit item name is_const es left right = record {
    value = λ c f d. outside_leads;
    elements = λ c f i d. record { at = λ st. led_end };
    texts = λ c f i d. record { at = λ st. led_end };
    key = λ c f d. outside_leads;
    defined = λ c a o m f i d. outside_leads;
    never_defined = λ h a o x s. absurd (false≢true h);
    made = λ x sort home. outside_drops;
    named = λ c d h. record { at = λ st. dropped_end };
    typed = λ c f h d. record { at = λ st. led_end };
    date = λ h x d s. undone_end;
    link = λ optional x. record { at = λ s. bounded_end };
  }

  member_claim : (fit item name : Bool) (es : List Node) (left right : Meaning) → Claim ctx n fit item name false es (member_meaning n left right)
  member_claim fit item name es left right = record {
    value = λ c f d. outside_leads;
    elements = λ c f i d. record { at = λ st. led_end };
    texts = λ c f i d. record { at = λ st. led_end };
    key = λ c f d. outside_leads;
    defined = λ c a o m f i d. outside_leads;
    never_defined = λ h a o x s. absurd (false≢true h);
    made = λ x sort home. outside_drops;
    named = λ c d h. record { at = λ st. dropped_end };
    typed = λ c f h d. record { at = λ st. led_end };
    date = λ h x d s. undone_end;
    link = λ optional x. record { at = λ s. bounded_end };
  }

  either_claim : (fit item name : Bool) (es : List Node) (b : Bool) {m m' : Meaning} → Claim ctx n fit item name false es m → Claim ctx n fit item name false es m' → Claim ctx n fit item name false es (cond b m m')
  either_claim fit item name es true h h' = h
  either_claim fit item name es false h h' = h'

  -- ---- an expression with parentheses or a type round it

  wrapped : (e : Child ctx) (fit item name : Bool) (es : List Node) → (fit ≡ true → (is_item e.0 ≡ true) × (fits e.0 ≡ true)) → name ≡ is_name e.0 → es ≡ extracted ctx e.0 → (is_date ctx n ≡ true → ⊥)
      → Claim ctx n fit item name false es (meaning e.0)
  wrapped e fit item name es to same kept never = record {
    value = λ c f d. to_same (second c) kept (e.1.value c (to f).1 d);
    elements = λ c f i d. to_same (second c) kept (e.1.elements c (to f).1 (to f).0 d);
    texts = λ c f i d. to_same (second c) kept (e.1.texts c (to f).1 (to f).0 d);
    key = λ c f d. to_same (second c) kept (e.1.key c (to f).1 d);
    defined = λ c a o m f i d. to_same (second c) kept (e.1.defined c a o m (to f).1 (to f).0 d);
    never_defined = λ h a o x s. absurd (false≢true h);
    made = λ x sort home. e.1.made x sort home;
    named = λ c d h. e.1.named c d (sym same ∙ h);
    typed = λ c f h d. to_same (second c) kept (e.1.typed c (to f).1 (sym same ∙ h) d);
    date = λ h x d s. absurd (never h);
    link = λ optional x. e.1.link optional x;
  }

  ending : {fit item name : Bool} {es : List Node} {m : Meaning} → Claim ctx n fit item name false es m → Claim ctx n fit item name false es (ending_chain m)
  ending h = record {
    value = h.value;
    elements = h.elements;
    texts = h.texts;
    key = h.key;
    defined = h.defined;
    never_defined = h.never_defined;
    made = h.made;
    named = h.named;
    typed = h.typed;
    date = h.date;
    link = h.link;
  }

  -- ---- by kind

  -- of what may be listed and has no effect nothing is left
  item_effect : (k : Kind) (ps : List (Child ctx)) → has_no_effect k (meanings ctx ps) ≡ true → item_by k (nodes ctx ps) (single_by k (meanings ctx ps)) ≡ true → left_of ctx (way_by ctx k n) n (keeps ctx ps) ≡ []
  unfolding way_by
  item_effect kind.FnExpr ps e h = refl
  item_effect kind.List ps e h = absurd (false≢true e)
  item_effect k ps e h = absurd (not_both (has_no_effect k (meanings ctx ps)) e (both_true (not (has_no_effect k (meanings ctx ps))) (is_single k) h).0)

  opens_effect : (k : Kind) (ns : List Node) (ms : List Meaning) → has_no_effect k ms ≡ true → opens_by k ns ≡ true → ⊥
  opens_effect kind.SpreadElement ns ms e h = false≢true e
  opens_effect kind.AssignProp ns ms e h = false≢true e
  opens_effect kind.List ns ms e h = false≢true e
  opens_effect k ns ms e h = false≢true h

  abbrev Step : Kind → List (Child ctx) → Meaning → Type 0
  Step k ps m =
      Claim ctx n (fits_by k (nodes ctx ps) (map fits (nodes ctx ps))) (item_by k (nodes ctx ps) (single_by k (meanings ctx ps))) (is_name_by k (map is_name (nodes ctx ps))) (opens_by k (nodes ctx ps))
      (left_of ctx (way_by ctx k n) n (keeps ctx ps)) m

  by_effect : (k : Kind) (ps : List (Child ctx)) (b : Bool) → has_no_effect k (meanings ctx ps) ≡ b → meaning n ≡ cond b (no_effect n) (role_by n k (meanings ctx ps)) → (out-Node n).children ≡ nodes ctx ps
      → only_makes n ≡ only_by k (map making (nodes ctx ps)) → (out-Node n).kind ≡ k → Step k ps (cond b (no_effect n) (role_by n k (meanings ctx ps)))
  by_effect k ps true e mean shape only same = no_effect_claim _ _ _ _ _ (item_effect k ps e) (opens_effect k (nodes ctx ps) (meanings ctx ps) e)
  by_effect k ps false e mean shape only same = role_claim ctx n k ps (here_of k ps mean shape only) e (λ h. subst (λ (z : Kind). is_global ctx (codes "Date") z ≡ true) same h)

  no_date : (k : Kind) → (out-Node n).kind ≡ k → is_global ctx (codes "Date") k ≡ false → is_date ctx n ≡ true → ⊥
  no_date k same never h = false≢true (sym never ∙ subst (λ (z : Kind). is_global ctx (codes "Date") z ≡ true) same h)

  step_claim : (k : Kind) (ps : List (Child ctx)) → meaning n ≡ meaning_by n k (meanings ctx ps) → (out-Node n).children ≡ nodes ctx ps
      → only_makes n ≡ only_by k (map making (nodes ctx ps)) → (out-Node n).kind ≡ k → Step k ps (meaning_by n k (meanings ctx ps))
  unfolding way_by part_way_by is_name_by
  step_claim kind.ParenExpr (e ∷ []) mean shape only same =
      ending (wrapped e (fits_by kind.ParenExpr (nodes ctx (e ∷ [])) (map fits (nodes ctx (e ∷ [])))) (item_by kind.ParenExpr (nodes ctx (e ∷ [])) (single_by kind.ParenExpr (meanings ctx (e ∷ [])))) (is_name_by kind.ParenExpr (map is_name (nodes ctx (e ∷ [])))) (left_of ctx (way_by ctx kind.ParenExpr n) n (keeps ctx (e ∷ []))) (λ f. let t = both_true (is_item e.0) (fits e.0 && true) f in (t.0, (both_true (fits e.0) true t.1).0)) refl (append-nil (extracted ctx e.0)) (no_date kind.ParenExpr same refl))
  step_claim kind.TsAsExpr (e ∷ type ∷ []) mean shape only same = wrapped e (fits_by kind.TsAsExpr (nodes ctx (e ∷ type ∷ [])) (map fits (nodes ctx (e ∷ type ∷ [])))) (item_by kind.TsAsExpr (nodes ctx (e ∷ type ∷ [])) (single_by kind.TsAsExpr (meanings ctx (e ∷ type ∷ [])))) (is_name_by kind.TsAsExpr (map is_name (nodes ctx (e ∷ type ∷ [])))) (left_of ctx (way_by ctx kind.TsAsExpr n) n (keeps ctx (e ∷ type ∷ []))) (λ f. both_true (is_item e.0) (fits e.0) f) refl refl (no_date kind.TsAsExpr same refl)
  step_claim kind.TsTypeAssertion (e ∷ type ∷ []) mean shape only same = wrapped e (fits_by kind.TsTypeAssertion (nodes ctx (e ∷ type ∷ [])) (map fits (nodes ctx (e ∷ type ∷ [])))) (item_by kind.TsTypeAssertion (nodes ctx (e ∷ type ∷ [])) (single_by kind.TsTypeAssertion (meanings ctx (e ∷ type ∷ [])))) (is_name_by kind.TsTypeAssertion (map is_name (nodes ctx (e ∷ type ∷ [])))) (left_of ctx (way_by ctx kind.TsTypeAssertion n) n (keeps ctx (e ∷ type ∷ []))) (λ f. both_true (is_item e.0) (fits e.0) f) refl refl (no_date kind.TsTypeAssertion same refl)
  step_claim kind.TsConstAssertion (e ∷ []) mean shape only same = wrapped e (fits_by kind.TsConstAssertion (nodes ctx (e ∷ [])) (map fits (nodes ctx (e ∷ [])))) (item_by kind.TsConstAssertion (nodes ctx (e ∷ [])) (single_by kind.TsConstAssertion (meanings ctx (e ∷ [])))) (is_name_by kind.TsConstAssertion (map is_name (nodes ctx (e ∷ [])))) (left_of ctx (way_by ctx kind.TsConstAssertion n) n (keeps ctx (e ∷ []))) (λ f. both_true (is_item e.0) (fits e.0) f) refl refl (no_date kind.TsConstAssertion same refl)
  step_claim kind.TsNonNullExpr (e ∷ []) mean shape only same = wrapped e (fits_by kind.TsNonNullExpr (nodes ctx (e ∷ [])) (map fits (nodes ctx (e ∷ [])))) (item_by kind.TsNonNullExpr (nodes ctx (e ∷ [])) (single_by kind.TsNonNullExpr (meanings ctx (e ∷ [])))) (is_name_by kind.TsNonNullExpr (map is_name (nodes ctx (e ∷ [])))) (left_of ctx (way_by ctx kind.TsNonNullExpr n) n (keeps ctx (e ∷ []))) (λ f. both_true (is_item e.0) (fits e.0) f) refl refl (no_date kind.TsNonNullExpr same refl)
  step_claim kind.TsInstantiation (e ∷ types ∷ []) mean shape only same = wrapped e (fits_by kind.TsInstantiation (nodes ctx (e ∷ types ∷ [])) (map fits (nodes ctx (e ∷ types ∷ [])))) (item_by kind.TsInstantiation (nodes ctx (e ∷ types ∷ [])) (single_by kind.TsInstantiation (meanings ctx (e ∷ types ∷ [])))) (is_name_by kind.TsInstantiation (map is_name (nodes ctx (e ∷ types ∷ [])))) (left_of ctx (way_by ctx kind.TsInstantiation n) n (keeps ctx (e ∷ types ∷ []))) (λ f. both_true (is_item e.0) (fits e.0) f) refl refl (no_date kind.TsInstantiation same refl)
  step_claim kind.TsSatisfiesExpr (e ∷ type ∷ []) mean shape only same = wrapped e (fits_by kind.TsSatisfiesExpr (nodes ctx (e ∷ type ∷ [])) (map fits (nodes ctx (e ∷ type ∷ [])))) (item_by kind.TsSatisfiesExpr (nodes ctx (e ∷ type ∷ [])) (single_by kind.TsSatisfiesExpr (meanings ctx (e ∷ type ∷ [])))) (is_name_by kind.TsSatisfiesExpr (map is_name (nodes ctx (e ∷ type ∷ [])))) (left_of ctx (way_by ctx kind.TsSatisfiesExpr n) n (keeps ctx (e ∷ type ∷ []))) (λ f. both_true (is_item e.0) (fits e.0) f) refl refl (no_date kind.TsSatisfiesExpr same refl)
  step_claim kind.TsTypeAnn ps mean shape only same = absent_claim (fits_by kind.TsTypeAnn (nodes ctx ps) (map fits (nodes ctx ps))) (is_name_by kind.TsTypeAnn (map is_name (nodes ctx ps))) (left_of ctx (way_by ctx kind.TsTypeAnn n) n (keeps ctx ps))
  step_claim kind.TsTypeParamDecl ps mean shape only same = absent_claim (fits_by kind.TsTypeParamDecl (nodes ctx ps) (map fits (nodes ctx ps))) (is_name_by kind.TsTypeParamDecl (map is_name (nodes ctx ps))) (left_of ctx (way_by ctx kind.TsTypeParamDecl n) n (keeps ctx ps))
  step_claim kind.TsTypeParamInstantiation ps mean shape only same = absent_claim (fits_by kind.TsTypeParamInstantiation (nodes ctx ps) (map fits (nodes ctx ps))) (is_name_by kind.TsTypeParamInstantiation (map is_name (nodes ctx ps))) (left_of ctx (way_by ctx kind.TsTypeParamInstantiation n) n (keeps ctx ps))
  step_claim kind.TsQualifiedName (left ∷ right ∷ []) mean shape only same =
      role_claim ctx n kind.MemberExpr (left ∷ right ∷ []) (here_of kind.MemberExpr (left ∷ right ∷ []) mean shape only) refl (λ h. absurd (no_date kind.TsQualifiedName same refl h))
  step_claim (kind.TsImportEqualsDecl false false) (name ∷ source ∷ []) mean shape only same = constant_claim (fits_by (kind.TsImportEqualsDecl false false) (nodes ctx (name ∷ source ∷ [])) (map fits (nodes ctx (name ∷ source ∷ [])))) (item_by (kind.TsImportEqualsDecl false false) (nodes ctx (name ∷ source ∷ [])) (single_by (kind.TsImportEqualsDecl false false) (meanings ctx (name ∷ source ∷ [])))) (is_name_by (kind.TsImportEqualsDecl false false) (map is_name (nodes ctx (name ∷ source ∷ [])))) (left_of ctx (way_by ctx (kind.TsImportEqualsDecl false false) n) n (keeps ctx (name ∷ source ∷ []))) (meaning name.0) (meaning source.0)
  step_claim (kind.TsImportEqualsDecl true false) (name ∷ source ∷ []) mean shape only same = either_claim (fits_by (kind.TsImportEqualsDecl true false) (nodes ctx (name ∷ source ∷ [])) (map fits (nodes ctx (name ∷ source ∷ [])))) (item_by (kind.TsImportEqualsDecl true false) (nodes ctx (name ∷ source ∷ [])) (single_by (kind.TsImportEqualsDecl true false) (meanings ctx (name ∷ source ∷ [])))) (is_name_by (kind.TsImportEqualsDecl true false) (map is_name (nodes ctx (name ∷ source ∷ [])))) (left_of ctx (way_by ctx (kind.TsImportEqualsDecl true false) n) n (keeps ctx (name ∷ source ∷ []))) (meaning source.0).is_required
      (constant_claim _ _ _ _ (meaning name.0) (set_export n (meaning name.0) (meaning source.0))) (exported_claim _ _ _ _ (constant_meaning n (meaning name.0) (meaning source.0) ∷ []))
  step_claim (kind.TsEnumDecl false is_const) (name ∷ members ∷ []) mean shape only same =
      enum_claim (fits_by (kind.TsEnumDecl false is_const) (nodes ctx (name ∷ members ∷ [])) (map fits (nodes ctx (name ∷ members ∷ []))))
      (item_by (kind.TsEnumDecl false is_const) (nodes ctx (name ∷ members ∷ [])) (single_by (kind.TsEnumDecl false is_const) (meanings ctx (name ∷ members ∷ []))))
      (is_name_by (kind.TsEnumDecl false is_const) (map is_name (nodes ctx (name ∷ members ∷ [])))) is_const (left_of ctx (way_by ctx (kind.TsEnumDecl false is_const) n) n (keeps ctx (name ∷ members ∷ []))) (meaning name.0)
      (meaning members.0)
  step_claim kind.TsEnumMember (name ∷ init ∷ []) mean shape only same =
      member_claim (fits_by kind.TsEnumMember (nodes ctx (name ∷ init ∷ [])) (map fits (nodes ctx (name ∷ init ∷ []))))
      (item_by kind.TsEnumMember (nodes ctx (name ∷ init ∷ [])) (single_by kind.TsEnumMember (meanings ctx (name ∷ init ∷ []))))
      (is_name_by kind.TsEnumMember (map is_name (nodes ctx (name ∷ init ∷ [])))) (left_of ctx (way_by ctx kind.TsEnumMember n) n (keeps ctx (name ∷ init ∷ []))) (meaning name.0) (meaning init.0)
  step_claim k ps mean shape only same = by_effect k ps (has_no_effect k (meanings ctx ps)) refl mean shape only same

  -- ---- the node itself

  fits_out : fits n ≡ fits_by (out-Node n).kind (out-Node n).children (map fits (out-Node n).children)
  fits_out = from_leaves_out Bool fits_step n

  extracted_out : extracted ctx n ≡ left_of ctx (way_by ctx (out-Node n).kind n) n (map (extracted ctx) (out-Node n).children)
  unfolding extracted
  extracted_out = from_leaves_out (List Node) (extracted_by ctx) n

  name_out : is_name n ≡ is_name_by (out-Node n).kind (map is_name (out-Node n).children)
  name_out = ap is_name (sym (roll-out-Node n)) ∙ fold-roll-Node Bool is_name_step (out-Node n)

  only_out : only_makes n ≡ only_by (out-Node n).kind (map making (out-Node n).children)
  only_out = ap (λ (a : Making). a.only) (ap making (sym (roll-out-Node n)) ∙ fold-roll-Node Making making_step (out-Node n))

  abbrev At : List Node → Type 0
  At ns =
      let k = (out-Node n).kind in
      Claim ctx n (fits_by k ns (map fits ns)) (item_by k ns (single_by k (map meaning ns))) (is_name_by k (map is_name ns)) (opens_by k ns) (left_of ctx (way_by ctx k n) n (map (extracted ctx) ns)) (meaning_by n k (map meaning ns))

  at_children : (ps : List (Child ctx)) → nodes ctx ps ≡ (out-Node n).children → At (out-Node n).children
  at_children ps same =
      subst At same (step_claim (out-Node n).kind ps (meaning_out n ∙ ap (λ ns. meaning_by n (out-Node n).kind (map meaning ns)) (sym same)) (sym same)
      (only_out ∙ ap (λ ns. only_by (out-Node n).kind (map making ns)) (sym same)) refl)

  claim_by : (ps : List (Child ctx)) → nodes ctx ps ≡ (out-Node n).children → Claim ctx n (fits n) (is_item n) (is_name n) (opens n) (extracted ctx n) (meaning n)
  claim_by ps same =
      subst (λ b. Claim ctx n b (is_item n) (is_name n) (opens n) (extracted ctx n) (meaning n)) (sym fits_out)
      (subst (λ b. Claim ctx n (fits_by (out-Node n).kind (out-Node n).children (map fits (out-Node n).children)) (is_item n) b (opens n) (extracted ctx n) (meaning n)) (sym name_out)
      (subst (λ es. Claim ctx n (fits_by (out-Node n).kind (out-Node n).children (map fits (out-Node n).children)) (is_item n) (is_name_by (out-Node n).kind (map is_name (out-Node n).children)) (opens n) es (meaning n)) (sym extracted_out)
      (subst (λ m. Claim ctx n (fits_by (out-Node n).kind (out-Node n).children (map fits (out-Node n).children)) (is_item n) (is_name_by (out-Node n).kind (map is_name (out-Node n).children)) (opens n)
      (left_of ctx (way_by ctx (out-Node n).kind n) n (map (extracted ctx) (out-Node n).children)) m) (sym (meaning_out n)) (at_children ps same))))

pub claim : (ctx : ExprCtx) (n : Node) → Claim ctx n (fits n) (is_item n) (is_name n) (opens n) (extracted ctx n) (meaning n)
claim ctx = ind-Node (λ n. Claim ctx n (fits n) (is_item n) (is_name n) (opens n) (extracted ctx n) (meaning n))
    (λ x y same. claim_by ctx (roll-Node x) y.children (ap (λ z. z.children) same ∙ sym (ap (λ (z : Node-F Node). z.children) (out-roll-Node x))))
