-- What fits is read again, since the raw tree of it with explicit parentheses has the shapes that are read again.
use Rattle.std.proofs.Common.{arith, ◌≡◌, ◌∙◌, ◌≤◌, refl, sym, ap, subst, ℕ, Bool, true, false, List, [], ◌∷◌, None, Ok}
use Rattle.ecma_kind.specs.declared.kind.Kind.{Kind}
use Rattle.ecma_kind.specs.declared.kind.Kind.TheVariants as kind
use Rattle.ecma_kind.specs.declared.shapes.Sort.TheVariants as sort
use Rattle.ecma_tree.specs.Sorted.{one}
use Rattle.ecma_tree.specs.declared.node.Node.{Node}
use Rattle.ecma_rules.specs.declared.target.Target.TheVariants as target
use Rattle.ecma_rules.specs.Finishing.{finished}
use Rattle.ecma_rules.specs.Rules.{first_broken}
use Rattle.ecma_rules_congruence.proofs.Finishing.{spans_do_not_matter_to_finishing}
use Rattle.ecma_rules_congruence.proofs.Rules.{spans_do_not_matter_to_rules}
use Rattle.ecma_covers.specs.Covering.{cover}
use Rattle.ecma_covers.specs.Placing.{Stands}
use Rattle.ecma_covers.proofs.Uncovering.{finishing_uncovers}
use Rattle.ecma_grammar.specs.Modules as grammar
use Rattle.ecma_grammar.specs.Modules.{reads_module}
use Rattle.ecma_grammar.specs.Reading.{Position, read}
use Rattle.ecma_modules.specs.Modules.{plain, reads_as}
use Rattle.ecma_text_types.proofs.Plain.{plain_modules}
use Rattle.ecma_text_leaves.specs.Everywhere.{Everywhere}
use Rattle.ecma_scope.specs.Laws.{without_contexts}
use Rattle.ecma_print.specs.Layout.{layout}
use Rattle.ecma_print_congruence.proofs.Layouts.{contexts_do_not_matter_to_layouts}
use Rattle.ecma_print.specs.Explicit.{explicit}
use Rattle.ecma_print_parentheses.proofs.Lacks.{none_are_lacking}
use Rattle.ecma_print_parentheses.proofs.Laying.{layout_stays}
use Rattle.ecma_print_covers.proofs.Covering.{covers_keep_the_layout}
use Rattle.ecma_fits.specs.Fitting.{Fits}
use Rattle.ecma_scope_fits.proofs.Contexts.{contexts_do_not_matter}
use Rattle.ecma_print_fits.specs.Laws.{HasNoOptionalPatterns, is_optional_pattern}
use Rattle.ecma_print_fits.proofs.Placed.{stands_placed}
use Rattle.ecma_print_fits.proofs.Strayless.{unbroken_covers}
use Rattle.ecma_print_fits.proofs.Usual.{what_fits_has_usual_defaults}
use Rattle.ecma_print_explicit.proofs.Explicit.{trees_fit}
use Rattle.ecma_print_shapes.proofs.Forming.{modules_have_shapes}
use Rattle.ecma_print_reread.proofs.Law.{modules_read}
use Rattle.ecma_plain.specs.Texts.{IsPlainModule}
use Rattle.ecma_text_levels.proofs.Levels.{more_levels_read_the_same}
use Rattle.ecma_round_trip.specs.Laws.{IsReadAgain, WhatFitsIsReadAgain}
use Rattle.ecma_round_trip.proofs.Functions.{functions_stay}
use Rattle.ecma_round_trip.proofs.Items.{kind_free, plain_items_stay}
use Rattle.ecma_round_trip.proofs.Standing.{everywhere_explicit, not_found}
use Rattle.ecma_plain.specs.Forms.{IsTaken}
use Rattle.ecma_plain.specs.Items.{HasUtf8Hashbang}
use Rattle.ecma_shapes.specs.Modules.{IsModule}
use Rattle.ecma_plain.specs.Read.{IsReadPlain}

-- no pattern of what is plain has a `?`
no_optional_pattern : (k : Kind) → IsTaken k → is_optional_pattern k ≡ false
no_optional_pattern (kind.ArrayPat true) h = let e = h.1 in cc
no_optional_pattern (kind.ArrayPat false) h = refl
no_optional_pattern (kind.ObjectPat true) h = let e = h.1 in cc
no_optional_pattern (kind.ObjectPat false) h = refl
no_optional_pattern k h = refl

-- a raw tree that keeps the rules is read and finished
finished_as : (text : List ℕ) (assignments : Bool) (bound : ℕ) (raw : Node) (s : Position) → reads_module text (plain assignments) bound ≡ read (raw ∷ []) s → first_broken raw ≡ None → reads_as text (plain assignments) bound ≡ Ok (finished raw)
finished_as text assignments bound raw s e keeps = plain_modules text assignments bound raw (ap grammar.answer_of e) keeps

module _ (assignments : Bool) (tree : Node) (p : IsReadPlain assignments tree) where
  -- the tree without contexts, with explicit parentheses
  abbrev bare : Node
  bare = without_contexts tree

  abbrev whole : Node
  whole = explicit bare

  bare_fits : Fits bare
  bare_fits = (contexts_do_not_matter (λ sym ctxt. 0) tree).1 p.fits

  fits : Fits whole
  fits = trees_fit bare bare_fits

  taken : Everywhere IsTaken whole
  taken = everywhere_explicit IsTaken (tt, refl) bare p.taken

  no_optional_patterns : HasNoOptionalPatterns whole
  no_optional_patterns = not_found IsTaken is_optional_pattern no_optional_pattern taken

  stands : Stands target.Free whole
  stands = stands_placed whole fits no_optional_patterns

  shapes : IsModule assignments (cover whole)
  shapes = modules_have_shapes assignments whole fits (none_are_lacking bare) taken (ap (λ f. f.has_unusual) (functions_stay bare) ∙ p.usual) (plain_items_stay assignments bare bare_fits.sorted ∙ p.items)
      (subst HasUtf8Hashbang (sym (kind_free bare)) p.hashbang)

  text_is : layout tree ≡ layout (cover whole)
  text_is =
      sym (contexts_do_not_matter_to_layouts (λ sym ctxt. 0) tree)
      ∙ sym (layout_stays bare (one sort.Module) bare_fits.sorted)
      ∙ sym (covers_keep_the_layout whole fits.sorted stands (what_fits_has_usual_defaults whole fits) (none_are_lacking bare))

  keeps_rules : first_broken (cover whole) ≡ None
  keeps_rules = unbroken_covers whole fits no_optional_patterns

  read_again : (again : Node) × IsPlainModule assignments (layout tree) again × IsReadAgain tree again
  read_again =
      let g = modules_read assignments (cover whole) shapes in
      let r = g.1 g.0 (omega arith) in
      let text_read = ap (λ text. reads_module text (plain assignments) g.0) text_is ∙ r.2 in
      let first = finished_as (layout tree) assignments g.0 r.0 r.1 text_read (spans_do_not_matter_to_rules (cover whole) r.0 r.3 keeps_rules) in (
        finished r.0,
        record { levels = g.0; read_plain = λ bound e. more_levels_read_the_same (layout tree) (plain assignments) g.0 bound (finished r.0) e first },
        spans_do_not_matter_to_finishing (cover whole) r.0 r.3 ∙ finishing_uncovers whole stands,
      )

pub what_fits_read_again : WhatFitsIsReadAgain
what_fits_read_again = read_again
