-- What is told of literals and names is so of their values.
use Rattle.std.proofs.Common.{◌≡◌, refl, sym, ◌∙◌, subst, ℕ, List, [], ◌∷◌, Option, Some, None, Bool, true, false, not, ◌&&◌, ◌||◌, ◌==◌, bytes_eq, codes, if◌then◌else◌}
use Rattle.std.specs.List.{list_all}
use Rattle.std.proofs.lemmas.Slice.Eq.{bytes_eq-Decides}
use Rattle.ecma_number.specs.declared.js_number.JsNumber.{JsNumber}
use Rattle.ecma_number.specs.declared.js_number.JsNumber.TheVariants as js_number
use Rattle.ecma_number.specs.declared.types.JsType.TheVariants as js_type
use Rattle.ecma_number.specs.declared.types.Purity.{Purity}
use Rattle.ecma_number.specs.declared.types.Purity.TheVariants.{Pure}
use Rattle.ecma_number.specs.declared.value.Value.{Value as KnownOr}
use Rattle.ecma_number.specs.declared.value.Value.TheVariants.{Known, Unknown}
use Rattle.ecma_number.specs.StringToNumber.{text_number_of}
use Rattle.ecma_kind.specs.declared.kind.Kind.{Kind}
use Rattle.ecma_kind.specs.declared.kind.Kind.TheVariants as kind
use Rattle.ecma_tree.specs.declared.node.Node.{Node}
use Rattle.ecma_judge.specs.declared.ctx.ExprCtx.{ExprCtx}
use Rattle.ecma_judge.specs.Judgement.{Judged}
use Rattle.ecma_judge.specs.Numbers.{number_by}
use Rattle.ecma_judge.specs.Texts.{text_by}
use Rattle.ecma_judge.specs.Truths.{truth_by}
use Rattle.ecma_judge.specs.Types.{type_by}
use Rattle.ecma_runs.specs.Values.{Value, Undefined, Number, Text}
use Rattle.ecma_runs.specs.State.{Id, same_id, Entered}
use Rattle.ecma_runs.specs.Run.{Run, ◌>>=◌, give, given}
use Rattle.ecma_runs.specs.Environment.{ToFree, resolved, is_among}
use Rattle.ecma_runs.specs.Meaning.{ExecutionContext}
use Rattle.ecma_runs.specs.Functions.{read}
use Rattle.ecma_runs.specs.Expressions.{identifier}
use Rattle.ecma_runs.proofs.Names.{same_id-equal}
use Rattle.ecma_judge_runs.proofs.Lone.{lone}
use Rattle.ecma_judge_runs.specs.Known.{HasTruth, HasNumber, HasText, HasType, declares_no_global}
use Rattle.ecma_judge_runs.proofs.Giving.{GivesBy, bind_gives, any_gives, give_gives, outside_gives, when_gives, either_gives, given_gives}
use Rattle.ecma_judge_runs.proofs.Both.{both_true}
use Rattle.ecma_judge_runs.proofs.Values.{number_is_true, text_has_number, number_is, text_is, some_same}

module _ (ctx : ExprCtx) where
  -- what is told of a value by a node of this kind, with what is judged of its children
  pub record Fits (own : Purity) (n : Node) (k : Kind) (kids : List Judged) (v : Value) : Type 0 where
    pub truth : HasTruth (truth_by ctx own k n kids).1 v
    pub number : HasNumber (number_by ctx own k n kids).1 v
    pub text : HasText (text_by ctx own k kids) v
    pub type : HasType (type_by ctx k n kids) v

  -- ---- literals

  pub text_fits : (own : Purity) (n : Node) (t : List ℕ) (raw : Option (List ℕ)) (kids : List Judged) → Fits own n (kind.Str t raw) kids (Text t)
  unfolding truth_by number_by text_by type_by
  text_fits own n [] raw kids = record { truth = refl; number = text_has_number [] (text_number_of []) refl; text = text_is []; type = refl }
  text_fits own n (c ∷ cs) raw kids = record { truth = refl; number = text_has_number (c ∷ cs) (text_number_of (c ∷ cs)) refl; text = text_is (c ∷ cs); type = refl }

  pub number_fits : (own : Purity) (n : Node) (o : Option JsNumber) (raw : Option (List ℕ)) (kids : List Judged) → GivesBy (Fits own n (kind.Number o raw) kids) (given o >>= λ m. give (Number m))
  unfolding truth_by number_by text_by type_by
  number_fits own n (Some m) raw kids =
      bind_gives (given_gives {P = λ z. z ≡ m} (Some m) (λ z is. sym (some_same m z is)))
      (λ z is. give_gives (Number z) (subst (λ y. Fits own n (kind.Number (Some m) raw) kids (Number y)) (sym is) (record { truth = number_is_true m; number = number_is m; text = λ t e. sym (some_same _ t e); type = refl })))
  number_fits own n None raw kids = record { at = λ s. tt }

-- ---- names

-- of a name, by whether it has the context of what is not resolved, and which it is
abbrev pub name_fits_by : (global undefined nan infinity : Bool) → Purity → List ℕ → Value → Type 0
name_fits_by global undefined nan infinity own name v =
    HasTruth (if◌then◌else◌ {A = Purity × KnownOr Bool} (global && (undefined || nan)) (Pure, Known false) (own, Unknown)).1 v
    × HasNumber (if◌then◌else◌ {A = Purity × KnownOr JsNumber} (global && (undefined || nan)) (Pure, Known js_number.NaN) (if global && infinity then (Pure, Known js_number.Infinity) else (own, Unknown))).1 v
    × HasText (if global && (undefined || infinity || nan) then Known name else Unknown) v
    × HasType (if global && undefined then Known js_type.Undefined else if global && (nan || infinity) then Known js_type.Num else Unknown) v

pub contrary : (b : Bool) → b ≡ true → not b ≡ true → ⊥
contrary true p q = cc
contrary false p q = cc

pub apart_from : (b : Bool) → b ≡ true → b ≡ false → ⊥
apart_from true p q = cc
apart_from false p q = cc

pub or_false : (a b : Bool) → a ≡ false → b ≡ false → (a || b) ≡ false
or_false false b p q = q
or_false true b p q = absurd (cc)

module _ (ctx : ExprCtx) where
  differs : (id other : Id) → not (other.ctxt == ctx.unresolved_ctxt) ≡ true → (id.ctxt == ctx.unresolved_ctxt) ≡ true → (b : Bool) → same_id other id ≡ b → b ≡ false
  differs id other n is false e = refl
  differs id other n is true e =
      absurd (contrary (id.ctxt == ctx.unresolved_ctxt) is (subst (λ (z : Id). not (z.ctxt == ctx.unresolved_ctxt) ≡ true) (same_id-equal other id e) n))

  none_among : (id : Id) (ids : List Id) → list_all (λ (z : Id). not (z.ctxt == ctx.unresolved_ctxt)) ids ≡ true → (id.ctxt == ctx.unresolved_ctxt) ≡ true → is_among id ids ≡ false
  none_among id [] all is = refl
  none_among id (other ∷ others) all is =
      let t = both_true (not (other.ctxt == ctx.unresolved_ctxt)) (list_all (λ (z : Id). not (z.ctxt == ctx.unresolved_ctxt)) others) all in
      or_false (same_id other id) (is_among id others) (differs id other t.0 is (same_id other id) refl) (none_among id others t.1 is)

  -- a name with the context of what is not resolved is free, or open
  free_name : (scope : List Entered) → declares_no_global ctx scope ≡ true → (declared : List Id) (id : Id) → (id.ctxt == ctx.unresolved_ctxt) ≡ true → GivesBy (λ r. r ≡ ToFree id.sym) (resolved scope declared id)
  free_name [] all declared id is = when_gives (is_among id declared) outside_gives (give_gives (ToFree id.sym) refl)
  free_name (e ∷ outer) all declared id is =
      let t = both_true (list_all (λ (z : Id). not (z.ctxt == ctx.unresolved_ctxt)) e.ids) (declares_no_global ctx outer) all in
      either_gives (is_among id e.ids) (λ among. absurd (apart_from (is_among id e.ids) among (none_among id e.ids t.0 is))) (λ away. free_name outer t.1 declared id is)

  module _ (x : ExecutionContext) (apart : declares_no_global ctx x.scope ≡ true) (own : Purity) (name : List ℕ) (ctxt : ℕ) where
    abbrev pub name_run : Run Value
    name_run = identifier name ctxt (lone x) >>= λ r. read (lone x) r

    -- what is read of a free name
    name_read : (P : Value → Type 0) → (ctxt == ctx.unresolved_ctxt) ≡ true → GivesBy P (read (lone x) (ToFree name)) → GivesBy P name_run
    name_read P is h = bind_gives (free_name x.scope apart x.known.declared (record { sym = name; ctxt = ctxt }) is) (λ r same. subst (λ z. GivesBy P (read (lone x) z)) (sym same) h)

    nan_text : name ≡ codes "NaN" → (i : Bool) → HasText (if i || true then Known name else Unknown) (Number js_number.NaN)
    nan_text same true = λ t is. sym (some_same (codes "NaN") t is) ∙ sym same
    nan_text same false = λ t is. sym (some_same (codes "NaN") t is) ∙ sym same

    pub name_by : (g u n i : Bool) → (ctxt == ctx.unresolved_ctxt) ≡ g → bytes_eq name (codes "undefined") ≡ u → bytes_eq name (codes "NaN") ≡ n → bytes_eq name (codes "Infinity") ≡ i
        → GivesBy (name_fits_by g u n i own name) name_run
    name_by false u n i g e e' e'' = any_gives (λ v. (tt, tt, tt, tt))
    name_by true true n i g e e' e'' =
        let same : name ≡ codes "undefined" = (bytes_eq-Decides name (codes "undefined")).0 e in
        name_read (name_fits_by true true n i own name) g
        (subst (λ z. GivesBy (name_fits_by true true n i own name) (read (lone x) (ToFree z))) (sym same)
        (give_gives Undefined (refl, λ m is. sym (some_same js_number.NaN m is), λ t is. sym (some_same (codes "undefined") t is) ∙ sym same, refl)))
    name_by true false true i g e e' e'' =
        let same : name ≡ codes "NaN" = (bytes_eq-Decides name (codes "NaN")).0 e' in
        name_read (name_fits_by true false true i own name) g
        (subst (λ z. GivesBy (name_fits_by true false true i own name) (read (lone x) (ToFree z))) (sym same)
        (give_gives (Number js_number.NaN) (refl, λ m is. sym (some_same js_number.NaN m is), nan_text same i, refl)))
    name_by true false false true g e e' e'' =
        let same : name ≡ codes "Infinity" = (bytes_eq-Decides name (codes "Infinity")).0 e'' in
        name_read (name_fits_by true false false true own name) g
        (subst (λ z. GivesBy (name_fits_by true false false true own name) (read (lone x) (ToFree z))) (sym same)
        (give_gives (Number js_number.Infinity) (tt, λ m is. sym (some_same js_number.Infinity m is), λ t is. sym (some_same (codes "Infinity") t is) ∙ sym same, refl)))
    name_by true false false false g e e' e'' = any_gives (λ v. (tt, tt, tt, tt))
