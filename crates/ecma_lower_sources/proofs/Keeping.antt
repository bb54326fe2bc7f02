-- A tree as it is read is one with its assignments lowered; and of the names that are made.
use Rattle.std.proofs.Common.{◌≡◌, ◌∙◌, ℕ, false, ◌&&◌, not, ◌==◌, Option, refl, sym, ap, subst, List, ◌∷◌, []}
use Rattle.ecma_config.specs.declared.config.TsImportExportAssignConfig.{TsImportExportAssignConfig}
use Rattle.ecma_kind.specs.declared.kind.Kind.{Kind}
use Rattle.ecma_kind.specs.declared.kind.Kind.TheVariants as kind
use Rattle.ecma_kind.specs.declared.span.Span.{Span}
use Rattle.ecma_tree.specs.declared.node.Node.{Node, out-Node}
use Rattle.ecma_rules.specs.Children.{kind_of}
use Rattle.ecma_fits.proofs.Clauses.{less}
use Rattle.ecma_hygiene_fits.specs.Placed.{NoneMadeBut, is_made, is_made_but}
use Rattle.ecma_hygiene_fits.specs.Spelled.{NoneLong}
use Rattle.ecma_plain.specs.Items.{HasUtf8Hashbang}
use Rattle.ecma_plain.specs.Read.{IsRead}
use Rattle.ecma_strip_fits.specs.Targets.{HasPlainTargets}
use Rattle.ecma_strip_rewriting.proofs.Stays.{kind-roll}
use Rattle.ecma_lower_sources.specs.Laws.{LoweredSourcesAreRead, LoweringKeepsNamesShort, LoweringKeepsPlainTargets, LoweringMakesFreeNamesAlone}
use Rattle.ecma_lower_sources.proofs.Bare.{bare-lowered}
use Rattle.ecma_lower_sources.proofs.Fitting.{fits-lowered, made-lowered, plain-lowered, short-lowered}
use Rattle.ecma_lower_sources.proofs.Modules.{Each, list_at, lowered-so, lowered_items, module_at}
use Rattle.ecma_lower_sources.proofs.Writes.{IsItem}

read-lowered : (assign : TsImportExportAssignConfig) (span : Span) (shebang : Option (List ℕ)) (at : Span) (ns : List Node) → Each IsItem ns
    → IsRead (module_at span shebang at ns) → IsRead (module_at span shebang at (lowered_items assign 0 ns))
read-lowered assign span shebang at ns items is =
    let ms = lowered_items assign 0 ns in
    let same : kind_of (module_at span shebang at ns) ≡ kind_of (module_at span shebang at ms) =
    kind-roll span (kind.Module shebang) (list_at at ns ∷ []) ∙ sym (kind-roll span (kind.Module shebang) (list_at at ms ∷ [])) in
    record {
      fits = fits-lowered assign 0 span shebang at ns items is.fits;
      bare = bare-lowered assign span shebang at ns items is.bare;
      hashbang = subst HasUtf8Hashbang same is.hashbang;
    }

pub lowered_sources_are_read : LoweredSourcesAreRead
lowered_sources_are_read assign tree is taken allowed =
    lowered-so assign 0 IsRead IsRead tree is.fits.sorted (λ span shebang at ns items. read-lowered assign span shebang at ns items) is

pub lowering_keeps_names_short : LoweringKeepsNamesShort
lowering_keeps_names_short assign free tree sorted h =
    lowered-so assign free NoneLong NoneLong tree sorted (λ span shebang at ns items. short-lowered assign free span shebang at ns items) h

pub lowering_keeps_plain_targets : LoweringKeepsPlainTargets
lowering_keeps_plain_targets assign free tree sorted h =
    lowered-so assign free HasPlainTargets HasPlainTargets tree sorted (λ span shebang at ns items. plain-lowered assign free span shebang at ns items) h

-- what is not made at all is not made but free
made-less : (free : ℕ) (k : Kind) (span : Span) → is_made k span ≡ false → is_made_but free k span ≡ false
made-less free (kind.Ident text ctxt optional) span h = ap (λ b. b && not (ctxt == free)) h
made-less free _ span h = refl

pub lowering_makes_free_names_alone : LoweringMakesFreeNamesAlone
lowering_makes_free_names_alone assign free tree sorted h =
    lowered-so assign free (NoneMadeBut free) (NoneMadeBut free) tree sorted (λ span shebang at ns items. made-lowered assign free span shebang at ns items)
    (less (λ w n. is_made (out-Node n).kind (out-Node n).span) (λ w n. is_made_but free (out-Node n).kind (out-Node n).span) (λ w n. made-less free (out-Node n).kind (out-Node n).span) tree h)
