-- What is extracted of a node has its effects, in the roles in which parts of expressions stand.
use Rattle.std.proofs.Common.{◌≡◌, sym, ℕ, List, [], ◌∷◌, map, Some, Bool, true, false, ◌&&◌, not, codes}
use Rattle.std.proofs.lemmas.Bool.{false≢true}
use Rattle.ecma_kind.specs.declared.kind.Kind.{Kind}
use Rattle.ecma_kind.specs.declared.kind.Kind.TheVariants as kind
use Rattle.ecma_kind.specs.declared.operators.MetaPropKind.TheVariants.{ImportMeta}
use Rattle.ecma_tree.specs.declared.node.Node.{Node}
use Rattle.ecma_judge.specs.declared.ctx.ExprCtx.{ExprCtx}
use Rattle.ecma_judge.specs.Contexts.{is_global}
use Rattle.ecma_judge.specs.Extraction.{extracted, given as left_of, way_by, part_way_by, is_name, is_name_by, is_date}
use Rattle.ecma_runs.specs.Values.{Own}
use Rattle.ecma_runs.specs.State.{Method, Data, State}
use Rattle.ecma_runs.specs.Run.{then_outcome, ◌>>=◌, give}
use Rattle.ecma_runs.specs.Environment.{ToValue}
use Rattle.ecma_runs.specs.Meaning.{ExecutionContext}
use Rattle.ecma_runs.specs.Objects.{define_data, with_getter, with_setter}
use Rattle.ecma_runs.specs.Functions.{read, read_typed, read_object}
use Rattle.ecma_runs.specs.Expressions.{identifier, chained, value_of, reference_of}
use Rattle.ecma_runs.specs.Classes.{sets_prototype, literal_key, defined_of}
use Rattle.ecma_runs.specs.Declarations.{has_no_effect}
use Rattle.ecma_runs.specs.Evaluation.{role_by, meaning}
use Rattle.ecma_run_places.specs.Worlds.{World, Among}
use Rattle.ecma_run_places.specs.Alike.{Contexts, first, second}
use Rattle.ecma_run_places.specs.Making.{making, only_by}
use Rattle.ecma_run_places.proofs.Growing.{later}
use Rattle.ecma_run_places.proofs.Dropping.{dropped_end, Drops}
use Rattle.ecma_run_places.proofs.Idle.{drops_bind, give_drops, outside_drops, when_drops, typed_identifier_drops, make_function_drops}
use Rattle.ecma_extract_runs.specs.Evaluated.{evaluated}
use Rattle.ecma_extract_runs.specs.Fits.{single_by, item_by, fits_by, fits}
use Rattle.ecma_extract_runs.proofs.Leading.{Leads, led_end, Undone, undone_end, outside_leads, lead_drop, lead_bind, drop_bind, lead_append, nested, unnested}
use Rattle.ecma_extract_runs.proofs.Free.{define_drops}
use Rattle.ecma_extract_runs.proofs.Dates.{both_true, name_undone}
use Rattle.ecma_extract_runs.proofs.References.{read_bound, super_bound, link_bound, typed_lead}
use Rattle.ecma_extract_runs.proofs.ByKind.{IsLone, Claim, opens_by, Here, Child, nodes, meanings, keeps, kept_of, alone, never_all, defined_lead, value_leads, elements_of_lead, texts_of_lead, key_leads, made_drops}

literal_drops : {w : World} (b : Bool) (key : List ℕ) → Drops w (literal_key b key)
literal_drops b key = when_drops (sets_prototype b key) outside_drops (give_drops key)

module _ (ctx : ExprCtx) (n : Node) where
  defined_of_lead : {w : World} (c : Contexts w) (k : Kind) (ps : List (Child ctx)) (a o : ℕ) → Among o w.free → Here n (nodes ctx ps) (only_by k (map making (nodes ctx ps))) (value_of n k (meanings ctx ps)) → has_no_effect k (meanings ctx ps) ≡ false
      → fits_by k (nodes ctx ps) (map fits (nodes ctx ps)) ≡ true → item_by k (nodes ctx ps) (single_by k (meanings ctx ps)) ≡ true → IsLone ctx (first c)
      → Leads w (defined_of n k (meanings ctx ps) a o (first c)) (evaluated (left_of ctx (way_by ctx k n) n (keeps ctx ps)) (second c))
  unfolding way_by part_way_by
  defined_of_lead c kind.List ps a o m here e f i d = defined_lead ctx c ps a o m f i d
  defined_of_lead c (kind.Ident name ctxt optional) [] a o m here e f i d =
      unnested (identifier name ctxt (first c)) (λ r. read (first c) r) (λ v. define_data o name v >>= λ _. give []) (lead_drop (value_leads ctx n c (kind.Ident name ctxt optional) [] here f d)
      (λ u up v. drops_bind (define_drops o name (λ old. Data v) (up.free o m)) (λ _. give_drops [])))
  defined_of_lead c kind.KeyValueProp (key ∷ value ∷ []) a o m here e f i d =
      let g = both_true (fits key.0) (fits value.0 && true) f in
      lead_append (extracted ctx key.0) (kept_of ctx (value ∷ [])) (second c) (lead_bind (key.1.key c g.0 d) (λ v u k. drop_bind (literal_drops (meaning key.0).is_computed k) (λ k. alone ctx (extracted ctx value.0) (second c)
      (lead_drop (value.1.value (later u c) (both_true (fits value.0) true g.1).0 d) (λ v' u' a. drops_bind (define_drops o k (λ old. Data a) (u'.free o (u.free o m))) (λ _. give_drops []))))))
  defined_of_lead c kind.MethodProp (key ∷ function ∷ []) a o m here e f i d =
      lead_drop (key.1.key c f d) (λ v u k. drops_bind (function.1.made (first c) Method (Some o)) (λ f. drops_bind (define_drops o k (λ old. Data (Own f)) (u.free o m)) (λ _. give_drops [])))
  defined_of_lead c kind.GetterProp (key ∷ type ∷ body ∷ []) a o m here e f i d =
      lead_drop (key.1.key c f d) (λ v u k. drops_bind (make_function_drops n Method (Some o) (first c)) (λ f. drops_bind (define_drops o k (with_getter f) (u.free o m)) (λ _. give_drops [])))
  defined_of_lead c kind.SetterProp (key ∷ this_parameter ∷ parameter ∷ body ∷ []) a o m here e f i d =
      lead_drop (key.1.key c f d) (λ v u k. drops_bind (make_function_drops n Method (Some o) (first c)) (λ f. drops_bind (define_drops o k (with_setter f) (u.free o m)) (λ _. give_drops [])))
  defined_of_lead c (kind.ClassMethod sort modifiers) ps a o m here e f i d = absurd (false≢true (both_true (not (has_no_effect (kind.ClassMethod sort modifiers) (meanings ctx ps))) false i).1)
  defined_of_lead c (kind.ClassProp modifiers readonly declare definite) ps a o m here e f i d = absurd (false≢true (both_true (not (has_no_effect (kind.ClassProp modifiers readonly declare definite) (meanings ctx ps))) false i).1)
  defined_of_lead c (kind.Constructor accessibility is_optional) ps a o m here e f i d = absurd (false≢true (both_true (not (has_no_effect (kind.Constructor accessibility is_optional) (meanings ctx ps))) false i).1)
  defined_of_lead c (kind.TsTypeAliasDecl declare) ps a o m here e f i d = absurd (false≢true (sym e))
  defined_of_lead c k ps a o m here e f i d = outside_leads

  never_by : (k : Kind) (ps : List (Child ctx)) → opens_by k (nodes ctx ps) ≡ true → (a o : ℕ) (x : ExecutionContext) (s : State) → Undone (defined_of n k (meanings ctx ps) a o x s)
  never_by kind.SpreadElement ps h a o x s = undone_end
  never_by kind.AssignProp ps h a o x s = undone_end
  never_by kind.List ps h a o x s = never_all ctx ps h a o x s
  never_by k ps h a o x s = absurd (false≢true h)

  named_by_drops : {w : World} (c : Contexts w) → IsLone ctx (first c) → (k : Kind) (ps : List (Child ctx)) → is_name_by k (map is_name (nodes ctx ps)) ≡ true →
      Drops w (reference_of n k (meanings ctx ps) (first c) >>= λ r. read_typed (first c) r)
  unfolding is_name_by
  named_by_drops c d (kind.Ident sym ctxt optional) [] h = typed_identifier_drops c d.1 sym ctxt
  named_by_drops c d (kind.Ident sym ctxt optional) (p ∷ ps) h = record { at = λ st. dropped_end }
  named_by_drops c d kind.ParenExpr ps h = record { at = λ st. dropped_end }
  named_by_drops c d kind.TsAsExpr ps h = record { at = λ st. dropped_end }
  named_by_drops c d kind.TsTypeAssertion ps h = record { at = λ st. dropped_end }
  named_by_drops c d kind.TsConstAssertion ps h = record { at = λ st. dropped_end }
  named_by_drops c d kind.TsNonNullExpr ps h = record { at = λ st. dropped_end }
  named_by_drops c d kind.TsInstantiation ps h = record { at = λ st. dropped_end }
  named_by_drops c d kind.TsSatisfiesExpr ps h = record { at = λ st. dropped_end }
  named_by_drops c d _ ps h = absurd (false≢true h)

  typed_by_leads : {w : World} (c : Contexts w) (k : Kind) (ps : List (Child ctx)) → Here n (nodes ctx ps) (only_by k (map making (nodes ctx ps))) (value_of n k (meanings ctx ps))
      → fits_by k (nodes ctx ps) (map fits (nodes ctx ps)) ≡ true → is_name_by k (map is_name (nodes ctx ps)) ≡ false → IsLone ctx (first c)
      → Leads w (reference_of n k (meanings ctx ps) (first c) >>= λ r. read_typed (first c) r) (evaluated (left_of ctx (way_by ctx k n) n (keeps ctx ps)) (second c))
  unfolding is_name_by
  typed_by_leads c (kind.Ident name ctxt optional) ps here f h d = absurd (false≢true (sym h))
  typed_by_leads c kind.BindingIdent ps here f h d = absurd (false≢true f)
  typed_by_leads c kind.MemberExpr (object ∷ key ∷ []) here f h d = typed_lead (first c) (read_bound n (meaning object.0) (meaning key.0) (first c)) (value_leads ctx n c kind.MemberExpr (object ∷ key ∷ []) here f d)
  typed_by_leads c kind.SuperPropExpr (super ∷ key ∷ []) here f h d = typed_lead (first c) (super_bound (meaning key.0) (first c)) (value_leads ctx n c kind.SuperPropExpr (super ∷ key ∷ []) here f d)
  typed_by_leads c (kind.MetaPropExpr ImportMeta) [] here f h d = record { at = λ st. led_end }
  typed_by_leads c (kind.OptChainExpr optional) (base ∷ []) here f h d =
      typed_lead (first c) (base.1.link optional (first c)) (nested ((meaning base.0).link optional (first c)) (λ o. give (chained o)) (λ r. read (first c) r) (value_leads ctx n c (kind.OptChainExpr optional) (base ∷ []) here f d))
  typed_by_leads c k ps here f h d = nested (value_of n k (meanings ctx ps) (first c)) (λ v. give (ToValue v)) (λ r. read_typed (first c) r) (lead_drop (value_leads ctx n c k ps here f d) (λ _ _ v. give_drops v))

  date_by : (k : Kind) (ps : List (Child ctx)) → is_global ctx (codes "Date") k ≡ true → (x : ExecutionContext) → IsLone ctx x → (s : State)
      → Undone (then_outcome (reference_of n k (meanings ctx ps) x s) (λ r. read_object x r))
  date_by (kind.Ident name ctxt optional) [] h x d s =
      let t = both_true _ _ h in name_undone ctx (record { sym = name; ctxt = ctxt }) t.0 x d.0 d.1 t.1 s
  date_by (kind.Ident name ctxt optional) (p ∷ ps) h x d s = undone_end
  date_by _ ps h x d s = absurd (false≢true h)

  pub role_claim : (k : Kind) (ps : List (Child ctx)) → Here n (nodes ctx ps) (only_by k (map making (nodes ctx ps))) (value_of n k (meanings ctx ps)) → has_no_effect k (meanings ctx ps) ≡ false
      → (is_date ctx n ≡ true → is_global ctx (codes "Date") k ≡ true)
      → Claim ctx n (fits_by k (nodes ctx ps) (map fits (nodes ctx ps))) (item_by k (nodes ctx ps) (single_by k (meanings ctx ps))) (is_name_by k (map is_name (nodes ctx ps))) (opens_by k (nodes ctx ps)) (left_of ctx (way_by ctx k n) n (keeps ctx ps)) (role_by n k (meanings ctx ps))
  role_claim k ps here e date = record {
    value = λ c f d. value_leads ctx n c k ps here f d;
    elements = λ c f i d. elements_of_lead ctx n c k ps here e f i d;
    texts = λ c f i d. texts_of_lead ctx n c k ps here e f i d;
    key = λ c f d. key_leads ctx n c k ps f d;
    defined = λ c a o m f i d. defined_of_lead c k ps a o m here e f i d;
    never_defined = λ h a o x s. never_by k ps h a o x s;
    made = λ x sort home. made_drops ctx n k (meanings ctx ps) x sort home;
    named = λ c d h. named_by_drops c d k ps h;
    typed = λ c f h d. typed_by_leads c k ps here f h d;
    date = λ h x d s. date_by k ps (date h) x d s;
    link = λ optional x. link_bound k (meanings ctx ps) optional x;
  }
