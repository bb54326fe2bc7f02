-- What is asked of the names and the texts of a tree holds of it with its enums written.
use Rattle.std.proofs.Common.{◌≡◌, ◌≤◌, ◌∙◌, ℕ, zero, suc, Bool, true, false, ◌==◌, List, [], ◌∷◌, None, Some, refl, sym, subst, arith}
use Rattle.std.specs.Prelude.{ℤ, pos, negsuc, neg_ℤ, if◌then◌else◌}
use Rattle.std.specs.Int.RustNames.{unsigned_abs}
use Rattle.std.specs.List.{All}
use Rattle.std.proofs.lemmas.List.Elements.{All-cons, All-nil}
use Rattle.ecma_kind.specs.declared.kind.Kind.{Kind}
use Rattle.ecma_kind.specs.declared.kind.Kind.TheVariants as kind
use Rattle.ecma_kind.specs.declared.span.Span.{Span}
use Rattle.ecma_number.specs.Arithmetic.{unary_minus_of}
use Rattle.ecma_number.specs.JsNumber.{value_of}
use Rattle.ecma_number.specs.SafeInt.{IsSafe, max_safe_integer}
use Rattle.ecma_number.specs.declared.js_number.JsNumber.{JsNumber}
use Rattle.ecma_number.specs.declared.js_number.JsNumber.TheVariants as number
use Rattle.ecma_tree.specs.Nodes.{dummy_span}
use Rattle.ecma_tree.specs.declared.node.Node.{Node, out-Node}
use Rattle.ecma_enums.specs.Declarations.{member_name}
use Rattle.ecma_enums.specs.declared.record.TsEnumRecordEntry.{TsEnumRecordEntry}
use Rattle.ecma_enums.specs.declared.value.TsEnumRecordValue.{TsEnumRecordValue}
use Rattle.ecma_enums.specs.declared.value.TsEnumRecordValue.TheVariants as value
use Rattle.ecma_hygiene_fits.specs.Placed.{is_made}
use Rattle.ecma_hygiene_fits.specs.Spelled.{is_long}
use Rattle.ecma_plain.specs.Plain.{HasUtf8Texts}
use Rattle.ecma_plain.specs.Writable.{IsWritable}
use Rattle.ecma_lower_enums.specs.Lowered.{known_enums}
use Rattle.ecma_lower_enums_sources.specs.Laws.{WritingEnumsKeepsIds, WritingEnumsKeepsNamesShort, WritingEnumsMakesNoNames, WrittenEnumsHaveTexts, is_such, written}
use Rattle.ecma_lower_enums_sources.specs.Premises.{AreWritten, HasText, HasTextBy, IsText}
use Rattle.ecma_lower_enums_sources.specs.Throughout.{Throughout}
use Rattle.ecma_lower_enums_sources.proofs.Literals.{IsValueSo, Literals, is_operator, known-good, undefined-good}
use Rattle.ecma_lower_enums_sources.proofs.Making.{Makes, tree-written}
use Rattle.ecma_lower_enums_sources.proofs.Pieces.{is_frame}
use Rattle.ecma_lower_enums_sources.proofs.Names.{tree-given}
use Rattle.ecma_lower_enums_sources.proofs.Trees.{Both, Of, both-so, everywhere-so, fails-everywhere-not, fails-nowhere}

no : {X : Type 0} → false ≡ true → X
no h = absurd (by h)
  where
    by : false ≡ true → ⊥
    by h = cc

-- ---- texts

abbrev Texts : Kind → Type 0
Texts k = HasUtf8Texts k × IsWritable k

abbrev P : Span → Kind → Type 0
P span k = Texts k

abbrev Q : Node → Type 0
Q = Both Texts HasText

frame-texts : (span : Span) (k : Kind) → is_frame k ≡ true → P span k
frame-texts span kind.Absent h = (tt, tt)
frame-texts span kind.List h = (tt, tt)
frame-texts span kind.MemberExpr h = (tt, tt)
frame-texts span kind.ComputedPropName h = (tt, tt)
frame-texts span (kind.AssignExpr op) h = (tt, tt)
frame-texts span (kind.BinExpr op) h = (tt, tt)
frame-texts span kind.ObjectLit h = (tt, tt)
frame-texts span kind.CallExpr h = (tt, tt)
frame-texts span kind.FnExpr h = (tt, tt)
frame-texts span (kind.Function is_generator is_async) h = (tt, tt)
frame-texts span kind.Param h = (tt, tt)
frame-texts span kind.BlockStmt h = (tt, tt)
frame-texts span kind.ExprStmt h = (tt, tt)
frame-texts span (kind.VarDecl word declare) h = (tt, tt)
frame-texts span (kind.VarDeclarator definite) h = (tt, tt)
frame-texts span kind.BindingIdent h = (tt, tt)
frame-texts span kind.ExportDecl h = (tt, tt)
frame-texts span kind.KeyValueProp h = (tt, tt)
frame-texts span kind.KeyValuePatProp h = (tt, tt)
frame-texts span kind.AssignPat h = (tt, tt)
frame-texts span _ h = no h

operator-texts : (k : Kind) → is_operator k ≡ true → P dummy_span k
operator-texts (kind.UnaryExpr op) h = (tt, tt)
operator-texts (kind.BinExpr op) h = (tt, tt)
operator-texts _ h = no h

member-text : (k : Kind) (n : Node) → k ≡ kind.TsEnumMember → HasTextBy k n → IsText (member_name n)
member-text kind.TsEnumMember n e h = h
member-text _ n e h = let bad : false ≡ true = cc in no bad

abs-neg : (n : ℤ) → unsigned_abs (neg_ℤ n) ≡ unsigned_abs n
abs-neg (pos zero) = refl
abs-neg (pos (suc n)) = refl
abs-neg (negsuc n) = refl

safe-zero : IsSafe (pos 0)
safe-zero = grind arith

safe-one : IsSafe (pos 1)
safe-one = grind arith

minus-safe : (n : ℤ) → IsSafe n → IsSafe (value_of (unary_minus_of (number.Whole n)))
minus-safe n h = by (unsigned_abs n == 0)
  where
    by : (b : Bool) → IsSafe (value_of (if b then number.NegZero else number.Whole (neg_ℤ n)))
    by true = safe-zero
    by false = subst (λ (z : ℕ). z ≤ max_safe_integer) (sym (abs-neg n)) h

text-literals : Literals P IsSafe IsText
text-literals = record {
  operator = operator-texts;
  digits = λ n h. (tt, h);
  text = λ t h. (tt, h);
  zero_so = safe-zero;
  one_so = safe-one;
  minus_so = minus-safe;
}

entries-so : (es : List TsEnumRecordEntry) → AreWritten es → All (λ (e : TsEnumRecordEntry). IsValueSo P IsSafe IsText e.value) es
entries-so es h = h

module _ (may_change keeps_constants : Bool) (members : List TsEnumRecordEntry) (tree : Node) (values : AreWritten members) (h : Throughout Q tree) where
  texts-make : Makes P Q (known_enums may_change keeps_constants members tree)
  texts-make = record {
    given = λ n q. q.0;
    frame = frame-texts;
    unmarks = λ span sym ctxt optional q. q;
    key = λ span at sym ctxt optional q. (q.0, tt);
    text = λ n e q. (tt, member-text (out-Node n).kind n e q.1);
    void = undefined-good P IsSafe IsText text-literals;
    values = λ change n. known-good P IsSafe IsText text-literals members (entries-so members values) change n;
    names = tree-given P Q (λ n q. q.0) (λ span sym ctxt optional q. q) h;
  }

pub written_enums_have_texts : WrittenEnumsHaveTexts
written_enums_have_texts may_change keeps_constants members tree values names texts =
    let h = both-so Texts HasText names texts in
    everywhere-so Texts (tree-written P Q (known_enums may_change keeps_constants members tree) (texts-make may_change keeps_constants members tree values h) tree h)

-- ---- tests of names

abbrev pub Any : (Span → Kind → Type 0) → TsEnumRecordValue → Type 0
Any R = IsValueSo R (λ n. Unit) (λ t. Unit)

any-number : (R : Span → Kind → Type 0) (n : JsNumber) → Any R (value.Number n)
any-number R (number.Whole m) = tt
any-number R _ = tt

pub any-value : (R : Span → Kind → Type 0) (v : TsEnumRecordValue) → Any R v
any-value R (value.String t) = tt
any-value R (value.Number n) = any-number R n
any-value R value.Opaque = tt
any-value R value.Void = tt

pub any-values : (es : List TsEnumRecordEntry) (R : Span → Kind → Type 0) → All (λ (e : TsEnumRecordEntry). Any R e.value) es
any-values [] R = All-nil (λ (e : TsEnumRecordEntry). Any R e.value)
any-values (e ∷ es) R = All-cons (λ (e : TsEnumRecordEntry). Any R e.value) e es (any-value R e.value) (any-values es R)

abbrev is_ident : Kind → Bool
is_ident (kind.Ident sym ctxt optional) = true
is_ident _ = false

-- a test that passes all but identifiers
module _ (test : Span → Kind → Bool) (silent : (span : Span) (k : Kind) → is_ident k ≡ false → test span k ≡ false)
    (unmarked : (span : Span) (sym : List ℕ) (ctxt : ℕ) (optional : Bool) → test span (kind.Ident sym ctxt false) ≡ test span (kind.Ident sym ctxt optional)) where
  abbrev R : Span → Kind → Type 0
  R span k = test span k ≡ false

  frame-no : (k : Kind) → is_frame k ≡ true → is_ident k ≡ false
  frame-no (kind.Ident sym ctxt optional) h = cc
  frame-no _ h = refl

  operator-no : (k : Kind) → is_operator k ≡ true → is_ident k ≡ false
  operator-no (kind.Ident sym ctxt optional) h = cc
  operator-no _ h = refl

  name-literals : Literals R (λ n. Unit) (λ t. Unit)
  name-literals = record {
    operator = λ k h. silent dummy_span k (operator-no k h);
    digits = λ n h. silent dummy_span (kind.Number (Some n) None) refl;
    text = λ t h. silent dummy_span (kind.Str t None) refl;
    zero_so = tt;
    one_so = tt;
    minus_so = λ n h. tt;
  }

  pub none-written : (may_change keeps_constants : Bool) (members : List TsEnumRecordEntry) (tree : Node) → Throughout (Of R) tree → Throughout (Of R) (written may_change keeps_constants members tree)
  none-written may_change keeps_constants members tree h =
      tree-written R (Of R) (known_enums may_change keeps_constants members tree)
      (record {
        given = λ n q. q;
        frame = λ span k f. silent span k (frame-no k f);
        unmarks = λ span sym ctxt optional q. unmarked span sym ctxt optional ∙ q;
        key = λ span at sym ctxt optional q. silent at (kind.IdentName sym) refl;
        text = λ n e q. silent dummy_span (kind.Str (member_name n) None) refl;
        void = undefined-good R (λ n. Unit) (λ t. Unit) name-literals;
        values = λ change n. known-good R (λ n. Unit) (λ t. Unit) name-literals members (any-values members R) change n;
        names = tree-given R (Of R) (λ n q. q) (λ span sym ctxt optional q. unmarked span sym ctxt optional ∙ q) h;
      }) tree h

abbrev long : Span → Kind → Bool
long span k = is_long k

long-silent : (span : Span) (k : Kind) → is_ident k ≡ false → long span k ≡ false
long-silent span (kind.Ident sym ctxt optional) h = cc
long-silent span _ h = refl

pub writing_enums_keeps_names_short : WritingEnumsKeepsNamesShort
writing_enums_keeps_names_short may_change keeps_constants members tree h =
    fails-nowhere (λ n. is_long (out-Node n).kind) (written may_change keeps_constants members tree)
    (none-written long long-silent (λ span sym ctxt optional. refl) may_change keeps_constants members tree (fails-everywhere-not (λ n. is_long (out-Node n).kind) tree h))

abbrev made : Span → Kind → Bool
made span k = is_made k span

made-silent : (span : Span) (k : Kind) → is_ident k ≡ false → made span k ≡ false
made-silent span (kind.Ident sym ctxt optional) h = cc
made-silent span _ h = refl

pub writing_enums_makes_no_names : WritingEnumsMakesNoNames
writing_enums_makes_no_names may_change keeps_constants members tree h =
    fails-nowhere (λ n. is_made (out-Node n).kind (out-Node n).span) (written may_change keeps_constants members tree)
    (none-written made made-silent (λ span sym ctxt optional. refl) may_change keeps_constants members tree (fails-everywhere-not (λ n. is_made (out-Node n).kind (out-Node n).span) tree h))

such-silent : (test : List ℕ → ℕ → Bool) (span : Span) (k : Kind) → is_ident k ≡ false → is_such test k ≡ false
such-silent test span (kind.Ident sym ctxt optional) h = cc
such-silent test span _ h = refl

pub writing_enums_keeps_ids : WritingEnumsKeepsIds
writing_enums_keeps_ids may_change keeps_constants members tree test h =
    fails-nowhere (λ n. is_such test (out-Node n).kind) (written may_change keeps_constants members tree)
    (none-written (λ span k. is_such test k) (such-silent test) (λ span sym ctxt optional. refl) may_change keeps_constants members tree (fails-everywhere-not (λ n. is_such test (out-Node n).kind) tree h))
