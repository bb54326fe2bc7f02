-- No node of the written tree is TypeScript, and its leaves are bare.
use Rattle.std.proofs.Common.{◌≡◌, ◌⊎◌, None, inl, inr, refl, sym, subst, ℕ, true, false, not, List, map}
use Rattle.std.specs.Str.{IsUtf8}
use Rattle.ecma_kind.specs.declared.kind.Kind.{Kind}
use Rattle.ecma_kind.specs.declared.kind.Kind.TheVariants as kind
use Rattle.ecma_kind.specs.declared.shapes.Sort.TheVariants as sort
use Rattle.ecma_tree.specs.Finding.{enters_all, finds}
use Rattle.ecma_tree.specs.Nodes.{dummy_span}
use Rattle.ecma_tree.specs.Sorted.{one}
use Rattle.ecma_tree.specs.declared.node.Node.{Node, out-Node}
use Rattle.ecma_text_leaves.specs.Everywhere.{Everywhere, everywhere, none}
use Rattle.ecma_rules.specs.Children.{kind_of}
use Rattle.ecma_fits.specs.Fitting.{Fits}
use Rattle.ecma_scope_fits.proofs.Contexts.{resolved_fit_alike}
use Rattle.ecma_plain.specs.Forms.{IsBareUnquestioned}
use Rattle.ecma_runs.specs.Evaluation.{meaning}
use Rattle.ecma_runs.specs.Meaning.{Meaning}
use Rattle.ecma_scope.specs.Resolved.{resolved}
use Rattle.ecma_scope.proofs.Unchanged.{changes-contexts}
use Rattle.ecma_strip.specs.Laws.{is_type_part}
use Rattle.ecma_strip.specs.Stripping.{plain_children, plain_kind, stripped}
use Rattle.ecma_strip.proofs.Leaving.{no_types_are_left}
use Rattle.ecma_strip_fits.proofs.SortsKept.{fits_under_types}
use Rattle.ecma_hygiene.proofs.Telling.{and-left}
use Rattle.ecma_hygiene.specs.Hygienic.{IsHygienic}
use Rattle.ecma_hygiene.specs.Renamed.{Texts, renamed, text_of}
use Rattle.ecma_hygiene.specs.Sights.{meetings, sights}
use Rattle.ecma_hygiene.specs.Texts.{text_in}
use Rattle.ecma_hygiene_fits.proofs.Everywhere.{children_of}
use Rattle.ecma_hygiene_fits.specs.Unreserved.{IsUnreserved}
use Rattle.ecma_hygiene_fits.proofs.Numbered.{texts_unreserved}
use Rattle.ecma_sources.specs.TypesAlone.{adds_types_alone}
use Rattle.ecma_pipeline_runs.proofs.Contexts.{resolved-adds-types}
use Rattle.ecma_pipeline_runs.proofs.Full.{modules-are-full}
use Rattle.ecma_pipeline_runs.proofs.FullParts.{full_by, is_foreign, is_full, lacks}
use Rattle.ecma_pipeline_runs.proofs.Nodes.{by-children, not-true, test-below, test-here}
use Rattle.ecma_pipeline_runs.proofs.Plainness.{finds-below, finds-itself, full-lacks}
use Rattle.ecma_forms.specs.Forms.{first_unlowered, is_ambient_variable}
use Rattle.ecma_plain.specs.Read.{IsRead}
use Rattle.ecma_text_sources.proofs.Quiet.{not_this}
use Rattle.ecma_text_sources.proofs.Taken.{low_below, not_unlowered}
use Rattle.ecma_text_sources.proofs.TypesAlone.{types_alone}
use Rattle.ecma_pipeline_plain.proofs.Everywhere.{each_at, each_of, everywhere_made, everywhere_moved, everywhere_returned, parts}
use Rattle.ecma_pipeline_plain.proofs.KindsSaid.{HasTexts, IsGiven, IsLeft, IsNotThis, bare_texts, empty, given_left, given_plain, left_brackets, left_old, left_written, texts_bare}
use Rattle.ecma_pipeline_plain.proofs.Renaming.{everywhere_renamed}
use Rattle.ecma_pipeline_plain.proofs.Stripping.{Says, kept}
use Rattle.ecma_pipeline_plain.proofs.Texts.{final_text_utf8}
use Rattle.ecma_pipeline_plain.proofs.Untaken.{resolved_low}
use Rattle.ecma_plain.specs.Functions.{is_this_name}

-- ---- the source

-- what is said of a node that stays
abbrev Asked : Node → Type 0
Asked n = Everywhere HasTexts n × (first_unlowered n ≡ None)

asked_says : Says Asked (Everywhere IsGiven)
asked_says = record {
  below = λ n t i c at stay. (each_at HasTexts (children_of n) (parts HasTexts t.0).1 i c at, low_below n t.1 i c at stay);
  missing = everywhere dummy_span kind.Absent (tt, refl) none;
  empty = λ span. everywhere span kind.EmptyStmt (tt, refl) none;
  lists = λ span cs each. everywhere span kind.List (tt, refl) (each_of IsGiven cs each);
  usual = λ n s u has t each.
      everywhere (out-Node n).span (plain_kind (kind_of n)) (given_plain (kind_of n) ((parts HasTexts t.0).0, not_unlowered n t.1)) (each_of IsGiven (plain_children (kind_of n) (map stripped (children_of n))) each);
}

-- ---- what is left without types

pub constant : (k : Kind) (ms : List Meaning) → lacks k ms ≡ false → is_ambient_variable k ≡ false
constant (kind.VarDecl word declare) ms h = h
constant _ ms h = refl

pub full_native : (n : Node) → is_full n ≡ true → is_foreign (kind_of n) ≡ false
full_native n full = not-true (is_foreign (kind_of n)) (and-left (not (is_foreign (kind_of n))) _ (test-here full_by n full))

pub native_other : (k : Kind) → is_foreign k ≡ false → is_this_name k ≡ false
native_other (kind.Ident text ctxt optional) h = h
native_other _ h = refl

abbrev Leaves : Node → Type 0
Leaves n = Everywhere IsGiven n → finds is_type_part enters_all n ≡ false → is_full n ≡ true → Everywhere IsLeft n

leaves : (n : Node) → Leaves n
leaves = by-children Leaves (λ n below g free full.
    (let p = parts IsGiven g in
    everywhere_made IsLeft n (given_left (kind_of n) p.0 (finds-itself is_type_part n free) (constant (kind_of n) (map meaning (children_of n)) (full-lacks n full)) (native_other (kind_of n) (full_native n full)))
    (each_of IsLeft (children_of n) (λ i c at. below i c at (each_at IsGiven (children_of n) p.1 i c at) (finds-below is_type_part n free i c at) (test-below full_by n full i c at)))))

-- ---- the written tree

module _ (unresolved top left : ℕ) (source : Node) (read : IsRead source) (low : first_unlowered source ≡ None) where
  abbrev pub r : Node
  r = resolved unresolved top left source

  abbrev pub s : Node
  s = stripped r

  pub resolved_fits : Fits r
  resolved_fits = (resolved_fit_alike unresolved top left source).1 read.fits

  alone : adds_types_alone r ≡ true
  alone = resolved-adds-types changes-contexts unresolved top left source (types_alone source read.fits low)

  pub stripped_full : is_full s ≡ true
  stripped_full = modules-are-full r resolved_fits alone

  free : finds is_type_part enters_all s ≡ false
  free = no_types_are_left r sort.Module refl (fits_under_types r resolved_fits)

  texts_resolved : Everywhere HasTexts r
  texts_resolved =
      everywhere_returned HasTexts HasTexts empty bare_texts r
      (subst (Everywhere HasTexts) (sym (changes-contexts unresolved top left source)) (everywhere_moved IsBareUnquestioned HasTexts empty texts_bare read.bare))

  given_stripped : Everywhere IsGiven s
  given_stripped = (kept Asked (Everywhere IsGiven) asked_says r (one sort.Module) resolved_fits.sorted (texts_resolved, resolved_low unresolved top left source low)).0

  left_stripped : Everywhere IsLeft s
  left_stripped = leaves s given_stripped free stripped_full

  module _ (final : Node) (hygienic : IsHygienic s final) where
    abbrev pub texts : Texts
    texts = text_in hygienic.names

    utf8 : (text : List ℕ) (ctxt : ℕ) → IsUtf8 text → IsUtf8 (text_of texts (text, ctxt))
    utf8 text ctxt h = final_text_utf8 (sights s) (meetings s) hygienic.names hygienic.texts (text, ctxt) h

    other : (text : List ℕ) (ctxt : ℕ) → IsNotThis text → IsNotThis (text_of texts (text, ctxt))
    other text ctxt h = go (texts_unreserved s hygienic.names hygienic.texts (text, ctxt))
      where
        go : (text_of texts (text, ctxt) ≡ text) ⊎ IsUnreserved (text_of texts (text, ctxt)) → IsNotThis (text_of texts (text, ctxt))
        go (inl same) = subst IsNotThis (sym same) h
        go (inr free) = not_this (text_of texts (text, ctxt)) free.unreserved

    pub left_renamed : Everywhere IsLeft (renamed texts s)
    left_renamed = everywhere_renamed IsLeft IsLeft texts (left_written texts utf8 other) left_old left_brackets ((tt, refl), refl) ((tt, refl), refl) ((tt, refl), refl) s left_stripped
