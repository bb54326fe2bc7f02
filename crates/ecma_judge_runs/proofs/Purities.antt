-- What follows of its parts where the table of an expression says pure, or knows a text.
use Rattle.std.proofs.Common.{◌≡◌, refl, ap, ◌∙◌, ◌⊎◌, inl, inr, List, ℕ, Bool, true, false, not, ◌&&◌, ◌||◌, ◌==◌, bytes_eq, codes, if◌then◌else◌}
use Rattle.std.proofs.lemmas.Slice.Eq.{bytes_eq-Decides}
use Rattle.ecma_number.specs.Types.{is_pure, purity_of_both}
use Rattle.ecma_number.specs.Value.{logical_not}
use Rattle.ecma_number.specs.declared.js_number.JsNumber.{JsNumber}
use Rattle.ecma_number.specs.declared.js_number.JsNumber.TheVariants as js_number
use Rattle.ecma_number.specs.declared.types.Purity.{Purity}
use Rattle.ecma_number.specs.declared.types.Purity.TheVariants.{MayBeImpure, Pure}
use Rattle.ecma_number.specs.declared.value.Value.{Value as KnownOr}
use Rattle.ecma_number.specs.declared.value.Value.TheVariants.{Known, Unknown}
use Rattle.ecma_kind.specs.declared.kind.Kind.{Kind}
use Rattle.ecma_kind.specs.declared.kind.Kind.TheVariants as kind
use Rattle.ecma_tree.specs.declared.node.Node.{Node, out-Node}
use Rattle.ecma_judge.specs.declared.ctx.ExprCtx.{ExprCtx}
use Rattle.ecma_judge.specs.Contexts.{is_global}
use Rattle.ecma_judge.specs.Effects.{is_safe_name, effects_by}
use Rattle.ecma_judge.specs.Judged.{judged, kids_of}
use Rattle.ecma_judge.specs.Judgement.{Judged, purity_of}
use Rattle.ecma_judge.specs.Numbers.{not_number_by, minus_number, is_infinity}
use Rattle.ecma_judge.specs.PureCallees.{pure_callee_by}
use Rattle.ecma_judge.specs.Texts.{known_bool_text, is_text_name, followed_by, void_text}
use Rattle.ecma_judge.specs.Truths.{is_false_name, or_truth, and_truth}
use Rattle.ecma_judge.proofs.Judging.{effects-out}
use Rattle.ecma_judge_runs.proofs.Both.{both_true}

pub none_of : (b : Bool) → purity_of b ≡ Pure → b ≡ false
none_of true is = absurd (cc)
none_of false is = refl

pub is_pure_of : (p : Purity) → is_pure p ≡ true → p ≡ Pure
is_pure_of Pure is = refl
is_pure_of MayBeImpure is = absurd (cc)

-- ---- of two sides

-- a disjunction is pure where its left side is, and its right side is, or is left out
abbrev pub LeftOr : Bool → Purity → KnownOr Bool → Purity → Type 0
LeftOr b p k q = (p ≡ Pure) × ((k ≡ Known b) ⊎ (q ≡ Pure))

pub both_pure : (p q : Purity) → purity_of_both p q ≡ Pure → (p ≡ Pure) × (q ≡ Pure)
both_pure Pure Pure is = (refl, refl)
both_pure Pure MayBeImpure is = absurd (cc)
both_pure MayBeImpure q is = absurd (cc)

behind_left : (b : Bool) (p q : Purity) (k : KnownOr Bool) → purity_of_both p q ≡ Pure → LeftOr b p k q
behind_left b p q k is = let t = both_pure p q is in (t.0, inr t.1)

pub or_pure : (p q : Purity) (k l : KnownOr Bool) → (or_truth (p, k) (q, l)).0 ≡ Pure → LeftOr true p k q
or_pure p q (Known true) l is = (is, inl refl)
or_pure p q (Known false) (Known true) is = behind_left true p q (Known false) is
or_pure p q (Known false) (Known false) is = behind_left true p q (Known false) is
or_pure p q (Known false) Unknown is = behind_left true p q (Known false) is
or_pure p q Unknown (Known true) is = behind_left true p q Unknown is
or_pure p q Unknown (Known false) is = behind_left true p q Unknown is
or_pure p q Unknown Unknown is = behind_left true p q Unknown is

pub and_pure : (p q : Purity) (k l : KnownOr Bool) → (and_truth (p, k) (q, l)).0 ≡ Pure → LeftOr false p k q
and_pure p q (Known false) l is = (is, inl refl)
and_pure p q (Known true) (Known false) is = behind_left false p q (Known true) is
and_pure p q (Known true) (Known true) is = behind_left false p q (Known true) is
and_pure p q (Known true) Unknown is = behind_left false p q (Known true) is
and_pure p q Unknown (Known false) is = behind_left false p q Unknown is
and_pure p q Unknown (Known true) is = behind_left false p q Unknown is
and_pure p q Unknown Unknown is = behind_left false p q Unknown is

-- ---- of names: those of which something is known are safe to read

pub unsafe_none : (global date safe_anywhere safe : Bool) → safe ≡ true → (not (global && date) && (not safe_anywhere && global && not safe)) ≡ false
unsafe_none true true a true s = refl
unsafe_none true false true true s = refl
unsafe_none true false false true s = refl
unsafe_none false d true true s = refl
unsafe_none false d false true s = refl
unsafe_none global d a false s = absurd (cc)

either_true : (a b : Bool) → (a || b) ≡ true → (a ≡ true) ⊎ (b ≡ true)
either_true true b is = inl refl
either_true false b is = inr is

undefined_safe : (name : List ℕ) → bytes_eq name (codes "undefined") ≡ true → is_safe_name name ≡ true
undefined_safe name is = let same : name ≡ codes "undefined" = (bytes_eq-Decides name (codes "undefined")).0 is in ap is_safe_name same

nan_safe : (name : List ℕ) → bytes_eq name (codes "NaN") ≡ true → is_safe_name name ≡ true
nan_safe name is = let same : name ≡ codes "NaN" = (bytes_eq-Decides name (codes "NaN")).0 is in ap is_safe_name same

infinity_safe : (name : List ℕ) → bytes_eq name (codes "Infinity") ≡ true → is_safe_name name ≡ true
infinity_safe name is = let same : name ≡ codes "Infinity" = (bytes_eq-Decides name (codes "Infinity")).0 is in ap is_safe_name same

false_name_safe : (name : List ℕ) → (bytes_eq name (codes "undefined") ≡ true) ⊎ (bytes_eq name (codes "NaN") ≡ true) → is_safe_name name ≡ true
false_name_safe name (inl u) = undefined_safe name u
false_name_safe name (inr n) = nan_safe name n

false_names_safe : (name : List ℕ) → is_false_name name ≡ true → is_safe_name name ≡ true
false_names_safe name is = false_name_safe name (either_true (bytes_eq name (codes "undefined")) (bytes_eq name (codes "NaN")) is)

front_safe : (name : List ℕ) → (bytes_eq name (codes "undefined") ≡ true) ⊎ (bytes_eq name (codes "Infinity") ≡ true) → is_safe_name name ≡ true
front_safe name (inl u) = undefined_safe name u
front_safe name (inr i) = infinity_safe name i

text_name_safe : (name : List ℕ) → ((bytes_eq name (codes "undefined") || bytes_eq name (codes "Infinity")) ≡ true) ⊎ (bytes_eq name (codes "NaN") ≡ true) → is_safe_name name ≡ true
text_name_safe name (inl is) = front_safe name (either_true (bytes_eq name (codes "undefined")) (bytes_eq name (codes "Infinity")) is)
text_name_safe name (inr n) = nan_safe name n

-- an answer for a safe name, or one with the purity of the node
abbrev pub Readable : List ℕ → Purity → Type 0
Readable name own = (is_safe_name name ≡ true) ⊎ (own ≡ Pure)

pub truth_readable : (global : Bool) (name : List ℕ) (own : Purity) (b : Bool) → (global && is_false_name name) ≡ b → (if◌then◌else◌ {A = Purity × KnownOr Bool} b (Pure, Known false) (own, Unknown)).0 ≡ Pure → Readable name own
truth_readable global name own true e is = inl (false_names_safe name (both_true global (is_false_name name) e).1)
truth_readable global name own false e is = inr is

pub number_readable : (global : Bool) (name : List ℕ) (own : Purity) (b c : Bool) → (global && is_false_name name) ≡ b → (global && bytes_eq name (codes "Infinity")) ≡ c
    → (if◌then◌else◌ {A = Purity × KnownOr JsNumber} b (Pure, Known js_number.NaN) (if c then (Pure, Known js_number.Infinity) else (own, Unknown))).0 ≡ Pure → Readable name own
number_readable global name own true c e f is = inl (false_names_safe name (both_true global (is_false_name name) e).1)
number_readable global name own false true e f is = inl (infinity_safe name (both_true global (bytes_eq name (codes "Infinity")) f).1)
number_readable global name own false false e f is = inr is

pub text_readable : (global : Bool) (name t : List ℕ) (own : Purity) (b : Bool) → (global && is_text_name name) ≡ b → (if b then Known name else Unknown) ≡ Known t → Readable name own
text_readable global name t own true e is =
    inl (text_name_safe name (either_true (bytes_eq name (codes "undefined") || bytes_eq name (codes "Infinity")) (bytes_eq name (codes "NaN")) (both_true global (is_text_name name) e).1))
text_readable global name t own false e is = absurd (cc)

pub undefined_readable : (global : Bool) (name : List ℕ) (own : Purity) → (global && bytes_eq name (codes "undefined")) ≡ true → Readable name own
undefined_readable global name own is = inl (undefined_safe name (both_true global (bytes_eq name (codes "undefined")) is).1)

-- ---- of operators

pub bang_pure : (p : Purity) (k : KnownOr Bool) → (not_number_by (if is_pure p then k else Unknown)).0 ≡ Pure → p ≡ Pure
bang_pure Pure k is = refl
bang_pure MayBeImpure k is = absurd (cc)

pub bang_text_pure : (p : Purity) (k : KnownOr Bool) (t : List ℕ) → known_bool_text (logical_not (if is_pure p then k else Unknown)) ≡ Known t → p ≡ Pure
bang_text_pure Pure k t is = refl
bang_text_pure MayBeImpure k t is = absurd (cc)

pub void_pure : (p : Purity) (t : List ℕ) → void_text p ≡ Known t → p ≡ Pure
void_pure Pure t is = refl
void_pure MayBeImpure t is = absurd (cc)

pub minus_pure : (b : Bool) → (minus_number b).0 ≡ Pure → b ≡ true
minus_pure true is = refl
minus_pure false is = absurd (cc)

module _ (ctx : ExprCtx) where
  infinity_kind : (k : Kind) (m : Node) (kids : List Judged) → is_global ctx (codes "Infinity") k ≡ true → (not (pure_callee_by ctx k m) && effects_by ctx k m kids) ≡ false
  unfolding effects_by pure_callee_by
  infinity_kind (kind.Ident name ctxt optional) m kids e =
      unsafe_none (ctxt == ctx.unresolved_ctxt) (bytes_eq name (codes "Date")) ctx.is_unresolved_ref_safe (is_safe_name name)
      (infinity_safe name (both_true (ctxt == ctx.unresolved_ctxt) (bytes_eq name (codes "Infinity")) e).1)
  infinity_kind k m kids e = absurd (cc)

  -- the name `Infinity` has no effects
  pub infinity_none : (m : Node) → is_infinity ctx m ≡ true → (judged ctx m).effects ≡ false
  infinity_none m e = effects-out ctx m ∙ infinity_kind (out-Node m).kind m (kids_of ctx m) e

-- ---- of joined texts

pub followed_known : (a b : KnownOr (List ℕ)) (t : List ℕ) → followed_by a b ≡ Known t → ((u : List ℕ) × (a ≡ Known u)) × ((w : List ℕ) × (b ≡ Known w))
followed_known (Known u) (Known w) t is = ((u, refl), (w, refl))
followed_known (Known u) Unknown t is = absurd (cc)
followed_known Unknown b t is = absurd (cc)
