-- Nothing belongs to nothing with other texts, where nothing did: labels stay, and no other name is `arguments`.
use Rattle.std.proofs.Common.{◌≡◌, ◌∙◌, ℕ, Bool, true, false, ◌&&◌, ◌||◌, bytes_eq, codes, List, [], ◌∷◌, length, Option, None, refl, ap, slice_get}
use Rattle.std.proofs.lemmas.Bool.{false≢true}
use Rattle.ecma_kind.specs.Sorts.{belongs}
use Rattle.ecma_kind.specs.declared.kind.Kind.{Kind}
use Rattle.ecma_kind.specs.declared.kind.Kind.TheVariants as kind
use Rattle.ecma_kind.specs.declared.shapes.Shape.{Shape}
use Rattle.ecma_kind.specs.declared.shapes.Sort.TheVariants as sort
use Rattle.ecma_tree.specs.declared.node.Node.{Node, out-Node}
use Rattle.ecma_tree.specs.Laws.{HaveShapes}
use Rattle.ecma_tree.specs.Sorted.{HasShape, child_shapes, is_absent, maybe, one}
use Rattle.ecma_rules.specs.Children.{kind_of}
use Rattle.ecma_rules.specs.Jumps.{Held, ends_jumps, held_behind, held_in, is_held_stray, is_stray_in, label_of, not_held, own_label, text_by, text_of as label_text}
use Rattle.ecma_rules.specs.Strays.{in_named, is_stray, strays_in}
use Rattle.ecma_scope.specs.declared.role.Role.{Role}
use Rattle.ecma_scope.specs.declared.role.Role.TheVariants as role
use Rattle.ecma_scope.specs.Resolved.{is_name}
use Rattle.ecma_scope.specs.Scopes.{is_there, role_by}
use Rattle.ecma_hygiene.specs.declared.spot.Spot.{Spot}
use Rattle.ecma_hygiene.specs.declared.spot.Spot.TheVariants as spot
use Rattle.ecma_hygiene.specs.declared.spot.Standing.{Standing}
use Rattle.ecma_hygiene.specs.Renamed.{Texts, kind_with_text, old_name, proto_literal, shared_by, shorthand, spot_in, standing_in, text_of}
use Rattle.ecma_hygiene_scopes.proofs.Growing.{grown}
use Rattle.ecma_hygiene_scopes.proofs.Parts.{kind-of}
use Rattle.ecma_hygiene_fits.specs.Unreserved.{AreUnreserved}
use Rattle.ecma_hygiene_fits.specs.Laws.{FinalTextsKeepStrays}
use Rattle.ecma_hygiene_fits.proofs.Becoming.{all_become, become, become-out, children_become, children_stay, is_touched, kind_stays}
use Rattle.ecma_hygiene_fits.proofs.Carrying.{Carries, carried, is_known, parts_pass}
use Rattle.ecma_hygiene_fits.proofs.Everywhere.{children_of}
use Rattle.ecma_hygiene_fits.proofs.Named.{not_arguments}
use Rattle.ecma_hygiene_fits.proofs.Walk.{shape_parts}

-- ---- labels

-- what has a label
unfoldable has_label : Kind → Bool
has_label kind.LabeledStmt = true
has_label kind.BreakStmt = true
has_label kind.ContinueStmt = true
has_label _ = false

label_role : (k : Kind) → has_label k ≡ true → (r : Role) (there : Bool) → role_by r k there 0 ≡ role.Name
unfolding has_label role_by
label_role kind.LabeledStmt l r there = refl
label_role kind.BreakStmt l r there = refl
label_role kind.ContinueStmt l r there = refl
label_role _ l r there = absurd (false≢true l)

label_spot : (k : Kind) → has_label k ≡ true → (seat : Spot) → spot_in seat k 0 ≡ spot.Elsewhere
unfolding has_label
label_spot kind.LabeledStmt l seat = refl
label_spot kind.BreakStmt l seat = refl
label_spot kind.ContinueStmt l seat = refl
label_spot _ l seat = absurd (false≢true l)

abbrev is_label : Kind → Bool
is_label k = is_absent k || belongs sort.Ident k

or_right : (a b : Bool) → b ≡ true → (a || b) ≡ true
or_right true b h = refl
or_right false b h = h

label_shape : (k : Kind) → has_label k ≡ true → (s : Shape) (m : ℕ) (c : Node) (ds : List Node) → HaveShapes (child_shapes k s m) (c ∷ ds) → is_label (kind_of c) ≡ true
unfolding has_label
label_shape kind.LabeledStmt l s m c ds has = or_right (is_absent (kind_of c)) (belongs sort.Ident (kind_of c)) (shape_parts c (one sort.Ident) has.0).0
label_shape kind.BreakStmt l s m c ds has = (shape_parts c (maybe sort.Ident) has.0).0
label_shape kind.ContinueStmt l s m c ds has = (shape_parts c (maybe sort.Ident) has.0).0
label_shape _ l s m c ds has = absurd (false≢true l)

-- ---- kinds

stray_known : (held : Held) (k : Kind) (label : Option (List ℕ)) → is_known k ≡ true → is_stray_in held k label ≡ is_stray held.strays k
unfolding is_stray_in is_known
stray_known held kind.BreakStmt label t = absurd (false≢true t)
stray_known held kind.ContinueStmt label t = absurd (false≢true t)
stray_known held _ label t = refl

quoted_known : (held : Held) (label : Option (List ℕ)) → is_stray_in held proto_literal label ≡ is_stray held.strays proto_literal
unfolding is_stray_in
quoted_known held label = refl

label_known : (k : Kind) (label : Option (List ℕ)) → is_known k ≡ true → own_label k label ≡ None
unfolding is_known
label_known kind.LabeledStmt label t = absurd (false≢true t)
label_known _ label t = refl

-- what looks at labels looks at those of what has some
stray_alike : (held : Held) (k : Kind) (a b : Option (List ℕ)) → (has_label k ≡ true → a ≡ b) → is_stray_in held k a ≡ is_stray_in held k b
unfolding is_stray_in has_label
stray_alike held kind.BreakStmt a b same = ap (is_stray_in held kind.BreakStmt) (same refl)
stray_alike held kind.ContinueStmt a b same = ap (is_stray_in held kind.ContinueStmt) (same refl)
stray_alike held _ a b same = refl

label_alike : (k : Kind) (a b : Option (List ℕ)) → (has_label k ≡ true → a ≡ b) → own_label k a ≡ own_label k b
unfolding has_label
label_alike kind.LabeledStmt a b same = same refl
label_alike _ a b same = refl

-- around a child, by the kind of its parent, which has no label
abbrev behind : Held → Kind → ℕ → Held
behind held k i = held_behind (strays_in held.strays k i) (ends_jumps k) None held.labels

and_false : (a b : Bool) → b ≡ false → (a && b) ≡ false
and_false true b h = h
and_false false b h = refl

module _ (texts : Texts) (unreserved : AreUnreserved texts) where
  -- a label stays
  text_kept : (c : Node) (stands : Standing) → stands.role ≡ role.Name → stands.spot ≡ spot.Elsewhere → (k : Kind) → kind_of c ≡ k → is_label k ≡ true → text_by (kind_of (become texts c stands)) ≡ text_by (kind_of c)
  unfolding shared_by is_touched
  text_kept c stands r e (kind.Ident text ctxt optional) is l =
      ap (λ m. text_by (kind_of m)) (become-out texts c stands)
      ∙ (λ i. text_by (kind_of (grown (old_name texts (shared_by stands (is i) c)) (out-Node c).span (kind_with_text texts (is_name (r i)) (kind_of c)) (children_become texts c stands))))
      ∙ ap (λ z. text_by (kind_of (grown (old_name texts (shorthand z c)) (out-Node c).span (kind_of c) (children_become texts c stands)))) e
      ∙ ap text_by (kind-of (out-Node c).span (kind_of c) (children_become texts c stands))
  text_kept c stands r e kind.Absent is l = ap text_by (kind_stays texts c stands (ap is_touched is))
  text_kept c stands r e _ is l = absurd (false≢true l)

  label_stays : (n : Node) (s : Shape) (stands : Standing) → HasShape s n → is_touched (kind_of n) ≡ false → has_label (kind_of n) ≡ true → label_of (become texts n stands) ≡ label_of n
  label_stays n s stands has u l = ap (λ (z : List Node). label_text (slice_get z 0)) (children_stay texts n stands u) ∙ at (children_of n) (shape_parts n s has).1
    where
      at : (cs : List Node) → HaveShapes (child_shapes (kind_of n) s (length (children_of n))) cs → label_text (slice_get (all_become texts (standing_in stands n) 0 cs) 0) ≡ label_text (slice_get cs 0)
      at [] h = refl
      at (c ∷ cs) h =
          text_kept c (standing_in stands n 0) (label_role (kind_of n) l stands.role (is_there (children_of n) 1)) (label_spot (kind_of n) l stands.spot) (kind_of c) refl
          (label_shape (kind_of n) l s (length (children_of n)) c cs h)

  stray_stays : (held : Held) (n : Node) (s : Shape) (stands : Standing) → HasShape s n → is_touched (kind_of n) ≡ false → is_held_stray held (become texts n stands) ≡ is_held_stray held n
  stray_stays held n s stands has u =
      ap (λ k. is_stray_in held k (label_of (become texts n stands))) (kind_stays texts n stands u)
      ∙ stray_alike held (kind_of n) (label_of (become texts n stands)) (label_of n) (label_stays n s stands has u)

  held_stays : (held : Held) (n : Node) (s : Shape) (stands : Standing) → HasShape s n → is_touched (kind_of n) ≡ false → (i : ℕ) → held_in held (become texts n stands) i ≡ held_in held n i
  held_stays held n s stands has u i =
      ap (λ k. held_behind (strays_in held.strays k i) (ends_jumps k) (own_label k (label_of (become texts n stands))) held.labels) (kind_stays texts n stands u)
      ∙ ap (λ l. held_behind (strays_in held.strays (kind_of n) i) (ends_jumps (kind_of n)) l held.labels) (label_alike (kind_of n) (label_of (become texts n stands)) (label_of n) (label_stays n s stands has u))

  stray_text : (held : Bool) (sym : List ℕ) (ctxt : ℕ) → (held && bytes_eq sym (codes "arguments")) ≡ false → (held && bytes_eq (text_of texts (sym, ctxt)) (codes "arguments")) ≡ false
  stray_text true text ctxt h = not_arguments texts unreserved text ctxt h
  stray_text false text ctxt h = refl

  carries : Carries texts Held held_in is_held_stray behind (λ held k. is_stray held.strays k) (λ held. Unit {0})
  unfolding strays_in in_named is_stray ends_jumps
  carries = record {
    tested = λ a n known named. stray_known a (kind_of n) (label_of n) known;
    around = λ a n known i. ap (λ l. held_behind (strays_in a.strays (kind_of n) i) (ends_jumps (kind_of n)) l a.labels) (label_known (kind_of n) (label_of n) known);
    stays = λ n s a stands has u h. stray_stays a n s stands has u ∙ (parts_pass texts Held held_in is_held_stray behind (λ held k. is_stray held.strays k) (λ held. Unit {0}) n a h).0;
    keeps = λ n s a stands has u i. held_stays a n s stands has u i;
    text = λ a text ctxt optional h. stray_text a.strays.arguments text ctxt h;
    properties = λ a n i is. tt;
    property = λ a n i is p. tt;
    written = λ a p. refl;
    value = λ a text ctxt optional p h. h;
    keys = λ a text. (refl, refl);
    brackets = λ a. refl;
    quoted = λ a n is.
        ap (λ k. is_stray_in (behind (behind a kind.KeyValueProp 0) kind.ComputedPropName 0) k (label_of n)) is
        ∙ quoted_known (behind (behind a kind.KeyValueProp 0) kind.ComputedPropName 0) (label_of n);
    pattern = λ a h. refl;
    default = λ a. refl;
    defaulted = λ a. refl;
    bound = λ a p is. ((refl, λ i. refl), (refl, λ i. refl));
    names = λ a text is_type_only. (refl, refl);
  }

pub strays_kept : FinalTextsKeepStrays
strays_kept texts tree unreserved sorted h =
    carried texts Held held_in is_held_stray behind (λ held k. is_stray held.strays k) (λ held. Unit {0}) (carries texts unreserved) tree sorted not_held h
