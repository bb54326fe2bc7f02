-- What stands behind `#!` stays.
use Rattle.std.proofs.Common.{◌≡◌, ◌∙◌, refl, sym, ap, subst, ℕ, true, false}
use Rattle.ecma_kind.specs.Sorts.{belongs}
use Rattle.ecma_kind.specs.declared.kind.Kind.{Kind}
use Rattle.ecma_kind.specs.declared.kind.Kind.TheVariants as kind
use Rattle.ecma_kind.specs.declared.shapes.Sort.TheVariants as sort
use Rattle.ecma_tree.specs.declared.node.Node.{Node}
use Rattle.ecma_tree.specs.Sorted.{one}
use Rattle.ecma_rules.specs.Children.{kind_of}
use Rattle.ecma_fits.specs.Fitting.{Fits}
use Rattle.ecma_scope_fits.proofs.Moved.{kind_moved}
use Rattle.ecma_plain.specs.Items.{HasUtf8Hashbang}
use Rattle.ecma_scope.specs.Laws.{without_contexts}
use Rattle.ecma_scope.specs.Resolved.{resolved}
use Rattle.ecma_scope.proofs.Unchanged.{changes-contexts, keeps-sorts}
use Rattle.ecma_strip.specs.Stripping.{plain_kind, stripped}
use Rattle.ecma_strip_fits.proofs.Classes.{class_of}
use Rattle.ecma_strip_fits.proofs.Classes.Class.{Usual}
use Rattle.ecma_strip_fits.proofs.Walk.{usual_kind}
use Rattle.ecma_strip_scopes.proofs.Going.{parts-have}
use Rattle.ecma_hygiene.specs.Renamed.{Texts, at_root, renamed}
use Rattle.ecma_hygiene.proofs.Telling.{true-false}
use Rattle.ecma_hygiene_fits.proofs.Becoming.{is_changed, kind_unchanged}
use Rattle.ecma_pipeline_plain.proofs.KindsSaid.{bare, empty}

to_bare : (k : Kind) → HasUtf8Hashbang k → HasUtf8Hashbang (bare k)
to_bare (kind.Ident text ctxt optional) p = tt
to_bare _ p = p

of_bare : (k : Kind) → HasUtf8Hashbang (bare k) → HasUtf8Hashbang k
of_bare (kind.Ident text ctxt optional) p = tt
of_bare _ p = p

module_kind : (k : Kind) → belongs sort.Module k ≡ true → (class_of k ≡ Usual) × (plain_kind k ≡ k) × (is_changed k ≡ false)
unfolding class_of plain_kind is_changed
module_kind (kind.Module shebang) b = (refl, refl, refl)
module_kind _ b = absurd (true-false b refl)

module _ (unresolved top left : ℕ) (source : Node) (texts : Texts) (fits : Fits source) (given : HasUtf8Hashbang (kind_of source)) where
  abbrev pub r : Node
  r = resolved unresolved top left source

  abbrev pub s : Node
  s = stripped r

  kind_resolved : HasUtf8Hashbang (kind_of r)
  kind_resolved =
      of_bare (kind_of r) (subst HasUtf8Hashbang (sym (sym (kind_moved empty r) ∙ ap kind_of (changes-contexts unresolved top left source) ∙ kind_moved empty source)) (to_bare (kind_of source) given))

  told : (class_of (kind_of r) ≡ Usual) × (plain_kind (kind_of r) ≡ kind_of r) × (is_changed (kind_of r) ≡ false)
  told = module_kind (kind_of r) (parts-have r (one sort.Module) ((keeps-sorts unresolved top left source sort.Module).1 fits.sorted)).0

  kind_stripped : kind_of s ≡ kind_of r
  kind_stripped = usual_kind r told.0 ∙ told.1

  kind_renamed : kind_of (renamed texts s) ≡ kind_of r
  kind_renamed = kind_unchanged texts s at_root (ap is_changed kind_stripped ∙ told.2) ∙ kind_stripped

  pub hashbang_stays : HasUtf8Hashbang (kind_of (without_contexts (renamed texts s)))
  hashbang_stays = subst HasUtf8Hashbang (sym (kind_moved empty (renamed texts s) ∙ ap bare kind_renamed)) (to_bare (kind_of r) kind_resolved)
