-- A module that fits, with its enums written, fits.
use Rattle.std.proofs.Common.{◌≡◌, Bool, List, None, refl, subst, Ok, Err, Result}
use Rattle.ecma_kind.specs.declared.shapes.Sort.TheVariants as sort
use Rattle.ecma_tree.specs.Sorted.{one}
use Rattle.ecma_tree.specs.declared.node.Node.{Node}
use Rattle.ecma_rules.specs.Jumps.{Held, first_stray, not_held}
use Rattle.ecma_rules.specs.Children.{kind_of}
use Rattle.ecma_enums.specs.Walks.{with_enums}
use Rattle.ecma_enums.specs.declared.error.EnumError.{EnumError}
use Rattle.ecma_enums.specs.declared.record.TsEnumRecordEntry.{TsEnumRecordEntry}
use Rattle.ecma_fits.specs.declared.unfit.Where.{Where}
use Rattle.ecma_fits.specs.Counts.{is_short}
use Rattle.ecma_fits.specs.Fitting.{Fits, NoneFails, at_top, breaks_rule, is_misspelled}
use Rattle.ecma_fits.proofs.Clauses.{either, either_none, less, out_of_role, stray_target}
use Rattle.ecma_lower_enums.specs.declared.known.KnownEnums.{KnownEnums}
use Rattle.ecma_lower_enums.specs.declared.place.Place.TheVariants as place
use Rattle.ecma_lower_enums.specs.Lowered.{known_enums, lowered_by}
use Rattle.ecma_lower_enums_sources.specs.Laws.{written}
use Rattle.ecma_lower_enums_sources.specs.Throughout.{Throughout}
use Rattle.ecma_lower_enums_sources.proofs.ClausesKept.{written_enums_keep_clauses}
use Rattle.ecma_lower_enums_sources.proofs.Relating.{module-written}
use Rattle.ecma_lower_enums_sources.proofs.Relation.{Stands}
use Rattle.ecma_lower_enums_sources.proofs.SortsKept.{written_enums_are_sorted}
use Rattle.ecma_lower_enums_sources.proofs.Trees.{fails-everywhere-not}
use Rattle.ecma_lower_enums_fits.specs.Laws.{LoweredEnumsFit, WrittenEnumsFit}
use Rattle.ecma_lower_enums_fits.specs.Premises.{NoneNamesArguments, names_arguments}
use Rattle.ecma_lower_enums_fits.proofs.Agreeing.{Agree, clauses, inside, unfit}
use Rattle.ecma_lower_enums_fits.proofs.Fitting.{kinds, owed, quiet, seats}
use Rattle.ecma_lower_enums_fits.proofs.Held as held
use Rattle.ecma_lower_enums_fits.proofs.Names.{Sound, facts, sound}
use Rattle.ecma_lower_enums_fits.proofs.Passing.{stands-pass}
use Rattle.ecma_lower_enums_fits.proofs.Usable.{IsKey, IsUsable}

abbrev short : Where → Node → Bool
short w n = is_short n

abbrev all : Where → Node → Bool
all w n = unfit w (kind_of n) n

all-none : (tree : Node) → Fits tree → NoneFails all tree
all-none tree f =
    either_none out_of_role (either stray_target (either breaks_rule (either is_misspelled short))) tree f.roles
    (either_none stray_target (either breaks_rule (either is_misspelled short)) tree f.targets
    (either_none breaks_rule (either is_misspelled short) tree f.rules (either_none is_misspelled short tree f.leaves f.counts)))

module _ (may_change keeps_constants : Bool) (members : List TsEnumRecordEntry) (tree : Node) (fits : Fits tree) (names : NoneNamesArguments tree) where
  abbrev enums : KnownEnums
  enums = known_enums may_change keeps_constants members tree

  abbrev after : Node
  after = written may_change keeps_constants members tree

  sounds : Throughout Sound tree
  sounds = sound tree at_top (all-none tree fits) (fails-everywhere-not names_arguments tree names)

  stands : Stands enums IsUsable IsKey place.Other (one sort.Module) tree after
  stands = module-written enums IsUsable IsKey Sound (facts may_change keeps_constants members tree sounds) tree sounds fits.sorted

  agree : Agree place.Other (one sort.Module) at_top at_top
  agree = record { role = refl; target = refl; standing = refl; last = λ z. refl; arguments = ((λ z. z), (λ z. z)); has = refl; stood = refl }

  all-after : NoneFails all after
  all-after =
      stands-pass enums IsUsable IsKey Where unfit inside kinds Agree (λ of h. h.key) seats quiet (owed enums) stands refl at_top at_top agree (all-none tree fits)

  strays-after : first_stray after ≡ None
  strays-after =
      stands-pass enums IsUsable IsKey Held held.stray held.inside held.kinds held.Agree (λ of h. h.key) held.seats held.quiet (held.owed enums) stands refl not_held not_held (held.top (one sort.Module)) fits.strays

  pub fit : Fits after
  fit =
      let kept = written_enums_keep_clauses may_change keeps_constants members tree fits.sorted in
      record {
        sorted = written_enums_are_sorted may_change keeps_constants members tree fits.sorted;
        counts = less all short (λ w n h. (clauses w (kind_of n) n h).counts) after all-after;
        branches = kept.branches fits.branches;
        chains = kept.chains fits.chains;
        members = kept.members fits.members;
        roles = less all out_of_role (λ w n h. (clauses w (kind_of n) n h).roles) after all-after;
        targets = less all stray_target (λ w n h. (clauses w (kind_of n) n h).targets) after all-after;
        rules = less all breaks_rule (λ w n h. (clauses w (kind_of n) n h).rules) after all-after;
        constructors = kept.constructors fits.constructors;
        leaves = less all is_misspelled (λ w n h. (clauses w (kind_of n) n h).leaves) after all-after;
        strays = strays-after;
      }

pub written_enums_fit : WrittenEnumsFit
written_enums_fit may_change keeps_constants members tree fits names = fit may_change keeps_constants members tree fits names

-- with the members that are found
found-fit : (may_change keeps_constants : Bool) (tree after : Node) (members : Result (List TsEnumRecordEntry) EnumError) → lowered_by may_change keeps_constants tree members ≡ Ok after
    → Fits tree → NoneNamesArguments tree → Fits after
found-fit may_change keeps_constants tree after (Ok members) is fits names =
    let same : written may_change keeps_constants members tree ≡ after = cc in
    subst Fits same (fit may_change keeps_constants members tree fits names)
found-fit may_change keeps_constants tree after (Err e) is fits names = absurd (by is)
  where
    by : lowered_by may_change keeps_constants tree (Err e) ≡ Ok after → ⊥
    by h = cc

pub lowered_enums_fit : LoweredEnumsFit
lowered_enums_fit may_change keeps_constants unresolved tree after is fits names = found-fit may_change keeps_constants tree after (with_enums unresolved tree) is fits names
