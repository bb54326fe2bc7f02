-- What holds of whatever is left of a source holds of it without what the options drop.
use Rattle.std.proofs.Common.{◌≡◌, ◌∙◌, ℕ, Bool, false, refl, sym, ap}
use Rattle.ecma_kind.specs.declared.kind.Kind.{Kind}
use Rattle.ecma_kind.specs.declared.shapes.Sort.TheVariants as sort
use Rattle.ecma_tree.specs.Sorted.{HasSort}
use Rattle.ecma_tree.specs.declared.node.Node.{Node, out-Node}
use Rattle.ecma_rules.specs.Children.{kind_of}
use Rattle.ecma_config.specs.declared.config.Config.{Config}
use Rattle.ecma_fits.specs.Fitting.{Fits}
use Rattle.ecma_scope.specs.Resolved.{resolved}
use Rattle.ecma_scope.proofs.Unchanged.{changes-contexts, keeps-sorts}
use Rattle.ecma_scope_fits.proofs.Moved.{Blind}
use Rattle.ecma_scope_fits.proofs.Contexts.{contexts_do_not_matter, resolved_fit_alike}
use Rattle.ecma_elide.specs.Elision.{elided}
use Rattle.ecma_elide.specs.declared.seat.Seat.{Seat}
use Rattle.ecma_elide.specs.declared.seat.Seat.TheVariants as seat
use Rattle.ecma_forms.specs.Forms.{is_unlowered_kind, is_untaken_kind}
use Rattle.ecma_hygiene_fits.specs.Placed.{NoneMade, is_made}
use Rattle.ecma_hygiene_fits.specs.Spelled.{NoneLong, is_long}
use Rattle.ecma_plain.specs.Forms.{IsBareUnquestioned}
use Rattle.ecma_plain.specs.Items.{HasUtf8Hashbang}
use Rattle.ecma_text_leaves.specs.Everywhere.{Everywhere}
use Rattle.ecma_elide_fits.specs.Dropping.{Dropping, without}
use Rattle.ecma_elide_fits.proofs.Elided.{dropping, elided_trees_fit, of_elided}
use Rattle.ecma_elide_sources.specs.Laws.{ElidedSourcesAreRead, ElidedSourcesAreTaken, ElidedSourcesNeedNoLowering, ElidingKeepsNamesShort, ElidingMakesNoNames}
use Rattle.ecma_elide_sources.specs.Sources.{elided_source}
use Rattle.ecma_elide_sources.proofs.Lowering.{NoneOfForm, none_then}
use Rattle.ecma_elide_sources.proofs.Reading.{bare_left, hashbang_left}
use Rattle.ecma_elide_sources.proofs.Thin.{Thin, clear, empty, nothing, nothing_dropped, thin_same, thin_span}
use Rattle.ecma_elide_sources.proofs.Walking.{none_fails_then}

module _ (config : Config) (unresolved top left : ℕ) (source : Node) where
  abbrev bound : Node
  bound = resolved unresolved top left source

  thin : (d : Dropping Seat) → Thin d (clear (without d seat.Elsewhere bound)) source
  thin d = record { loses = false; seat = seat.Elsewhere; before = bound; is = refl; same = changes-contexts unresolved top left source }

  whole : Thin (nothing Seat) (clear bound) source
  whole =
      record { loses = false; seat = seat.Elsewhere; before = bound; is = ap clear (sym (nothing_dropped Seat bound false seat.Elsewhere)); same = changes-contexts unresolved top left source }

  pub of_source : (P : Node → Type 0) → HasSort sort.Module source → ((d : Dropping Seat) (a : Node) → Thin d a source → P a) → P (elided_source config unresolved top left source)
  of_source P sorted every =
      of_elided (λ n. P (clear n)) config bound ((keeps-sorts unresolved top left source sort.Module).1 sorted) (every (nothing Seat) (clear bound) whole)
      (λ known. every (dropping known) (clear (without (dropping known) seat.Elsewhere bound)) (thin (dropping known)))

  fits_left : Fits source → Fits (elided_source config unresolved top left source)
  fits_left f = (contexts_do_not_matter empty (elided config bound)).1 (elided_trees_fit config bound ((resolved_fit_alike unresolved top left source).1 f))

pub sources_are_read : ElidedSourcesAreRead
sources_are_read config unresolved top left source is = record {
  fits = fits_left config unresolved top left source is.fits;
  bare = of_source config unresolved top left source (λ n. Everywhere IsBareUnquestioned n) is.fits.sorted (λ d a t. bare_left d a source t is.bare);
  hashbang = of_source config unresolved top left source (λ n. HasUtf8Hashbang (kind_of n)) is.fits.sorted (λ d a t. hashbang_left d a source t is.hashbang);
}

-- no node is of some forms, but of what goes with the types
none_of_form : (kinds : Kind → Bool) → Blind Bool kinds → (config : Config) (unresolved top left : ℕ) (source : Node) → HasSort sort.Module source
    → NoneOfForm kinds source → NoneOfForm kinds (elided_source config unresolved top left source)
none_of_form kinds blind config unresolved top left source sorted h =
    of_source config unresolved top left source (NoneOfForm kinds) sorted (λ d a t. none_then kinds blind d a source t h)

pub sources_need_no_lowering : ElidedSourcesNeedNoLowering
sources_need_no_lowering = none_of_form is_unlowered_kind (λ text x y optional. refl)

pub sources_are_taken : ElidedSourcesAreTaken
sources_are_taken config assign = none_of_form (is_untaken_kind assign) (λ text x y optional. refl) config

pub names_stay_short : ElidingKeepsNamesShort
names_stay_short config unresolved top left source sorted h =
    of_source config unresolved top left source NoneLong sorted
    (λ d a t. none_fails_then d (λ n. is_long (kind_of n)) (λ x y u short. thin_same d is_long (λ text x y optional. refl) x y u ∙ short) a source t h)

none_made : {S : Type 0} (d : Dropping S) (a b : Node) → Thin d a b → is_made (kind_of b) (out-Node b).span ≡ false → is_made (kind_of a) (out-Node a).span ≡ false
none_made d a b t h =
    ap (is_made (kind_of a)) (thin_span d a b t) ∙ thin_same d (λ k. is_made k (out-Node b).span) (λ text x y optional. refl) a b t ∙ h

pub no_names_made : ElidingMakesNoNames
no_names_made config unresolved top left source sorted h =
    of_source config unresolved top left source NoneMade sorted
    (λ d a t. none_fails_then d (λ n. is_made (kind_of n) (out-Node n).span) (none_made d) a source t h)
