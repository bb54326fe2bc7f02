-- No `arguments` is assigned to in a pattern that belongs to nothing, with other texts.
use Rattle.std.proofs.Common.{◌≡◌, ◌∙◌, Bool, true, false, ◌&&◌, codes, refl, ap}
use Rattle.std.proofs.lemmas.Bool.{false≢true}
use Rattle.ecma_kind.specs.declared.kind.Kind.{Kind}
use Rattle.ecma_kind.specs.declared.kind.Kind.TheVariants as kind
use Rattle.ecma_tree.specs.declared.node.Node.{Node}
use Rattle.ecma_rules.specs.Children.{child_is, is_named, kind_of}
use Rattle.ecma_rules.specs.Lists.{last_by}
use Rattle.ecma_rules.specs.Surroundings.{standing_by}
use Rattle.ecma_rules.specs.Targets.{target_in}
use Rattle.ecma_fits.specs.declared.unfit.Where.{Where}
use Rattle.ecma_fits.specs.Fitting.{at_top, where_in}
use Rattle.ecma_fits.specs.declared.role.Role.TheVariants as role
use Rattle.ecma_fits.specs.Roles.{is_assigned, is_bound_name, role_in}
use Rattle.ecma_fits.specs.Strays.{arguments_in, is_stray_target}
use Rattle.ecma_hygiene.specs.declared.spot.Standing.{Standing}
use Rattle.ecma_hygiene.specs.Renamed.{Texts}
use Rattle.ecma_hygiene_fits.specs.Unreserved.{AreUnreserved}
use Rattle.ecma_hygiene_fits.specs.Laws.{FinalTextsKeepTargets}
use Rattle.ecma_hygiene_fits.proofs.Becoming.{become, is_touched, kind_stays}
use Rattle.ecma_hygiene_fits.proofs.Carrying.{Carries, carried, is_known, parts_pass}
use Rattle.ecma_hygiene_fits.proofs.Named.{child_unnamed, not_arguments}
use Rattle.ecma_hygiene_fits.proofs.Surroundings.{bound_assigned, bound_inside, where_known, where_stays, within}

abbrev stray_target : Where → Node → Bool
stray_target w n = is_stray_target w.role w.arguments n

bound_known : (k : Kind) → is_known k ≡ true → is_bound_name k ≡ false
unfolding is_known
bound_known kind.BindingIdent t = absurd (false≢true t)
bound_known _ t = refl

unbound : (stray assigned named : Bool) → (stray && (assigned && (false && named))) ≡ false
unbound true true named = refl
unbound true false named = refl
unbound false assigned named = refl

-- what is named otherwise passes, where the one before did
weaker : (stray assigned bound a b : Bool) → (a ≡ false → b ≡ false) → (stray && (assigned && (bound && a))) ≡ false → (stray && (assigned && (bound && b))) ≡ false
weaker true true true a b f h = f h
weaker true true false a b f h = refl
weaker true false bound a b f h = refl
weaker false assigned bound a b f h = refl

module _ (texts : Texts) (unreserved : AreUnreserved texts) where
  stays : (n : Node) (w : Where) (stands : Standing) → is_touched (kind_of n) ≡ false → stray_target w n ≡ false → stray_target w (become texts n stands) ≡ false
  stays n w stands u h =
      ap (λ k. w.arguments.stray && (is_assigned w.role && (is_bound_name k && child_is (is_named (codes "arguments")) (become texts n stands) 0))) (kind_stays texts n stands u)
      ∙ weaker w.arguments.stray (is_assigned w.role) (is_bound_name (kind_of n)) (child_is (is_named (codes "arguments")) n 0) (child_is (is_named (codes "arguments")) (become texts n stands) 0)
      (child_unnamed (codes "arguments") texts (not_arguments texts unreserved) n stands u) h

  carries : Carries texts Where where_in stray_target within (λ w k. false) (λ w. Unit {0})
  unfolding role_in target_in standing_by last_by arguments_in
  carries = record {
    tested = λ w n known named. ap (λ b. w.arguments.stray && (is_assigned w.role && (b && child_is (is_named (codes "arguments")) n 0))) (bound_known (kind_of n) known)
        ∙ unbound w.arguments.stray (is_assigned w.role) (child_is (is_named (codes "arguments")) n 0);
    around = where_known;
    stays = λ n s w stands has u h. stays n w stands u (parts_pass texts Where where_in stray_target within (λ w k. false) (λ w. Unit {0}) n w h).0;
    keeps = λ n s w stands has u i. where_stays texts w n stands u i;
    text = λ w text ctxt optional h. refl;
    properties = λ w n i is. tt;
    property = λ w n i is p. tt;
    written = λ w p. refl;
    value = λ w text ctxt optional p h. refl;
    keys = λ w text. (refl, refl);
    brackets = λ w. refl;
    quoted = λ w n is.
        ap (λ k. w.arguments.stray && (is_assigned role.Free && (is_bound_name k && child_is (is_named (codes "arguments")) n 0))) is
        ∙ unbound w.arguments.stray (is_assigned role.Free) (child_is (is_named (codes "arguments")) n 0);
    pattern = λ w h. refl;
    default = λ w. refl;
    defaulted = λ w. refl;
    bound = λ w p is. (
      (ap (λ b. w.arguments.stray && (b && (is_bound_name (kind_of p) && child_is (is_named (codes "arguments")) p 0))) (bound_assigned (is_assigned w.role)).0, λ i. (bound_inside w p is i).0),
      (ap (λ b. w.arguments.stray && (b && (is_bound_name (kind_of p) && child_is (is_named (codes "arguments")) p 0))) (bound_assigned (is_assigned w.role)).1, λ i. (bound_inside w p is i).1),
    );
    names = λ w text is_type_only. (refl, refl);
  }

pub targets_kept : FinalTextsKeepTargets
targets_kept texts tree unreserved sorted h =
    carried texts Where where_in stray_target within (λ w k. false) (λ w. Unit {0}) (carries texts unreserved) tree sorted at_top h
