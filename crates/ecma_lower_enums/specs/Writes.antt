-- Writing is what its steps give.
use Rattle.std.proofs.Common.{◌≡◌, ◌∙◌, Bool, true, false, ◌&&◌, cond, refl, sym, ap, List, [], ◌∷◌, Option, Some, None}
use Rattle.ecma_kind.specs.declared.kind.Kind.{Kind}
use Rattle.ecma_kind.specs.declared.kind.Kind.TheVariants as kind
use Rattle.ecma_kind.specs.declared.span.Span.{Span}
use Rattle.ecma_tree.specs.Nodes.{node_of}
use Rattle.ecma_tree.specs.declared.node.Node.{Node, Node-F, out-Node}
use Rattle.ecma_tree.specs.declared.node.Node.TheViews.{out-roll-Node}
use Rattle.ecma_enums.specs.Declarations.{member_name}
use Rattle.ecma_rewriter.specs.Seats.{Leaves, Moves, Seats, StandsStill, Writes, seat}
use Rattle.ecma_lower_enums.specs.declared.form.Form.{Form}
use Rattle.ecma_lower_enums.specs.declared.form.Form.TheVariants as form
use Rattle.ecma_lower_enums.specs.declared.form.Told.{Told}
use Rattle.ecma_lower_enums.specs.declared.known.KnownEnums.{KnownEnums}
use Rattle.ecma_lower_enums.specs.declared.known.Part.{Part}
use Rattle.ecma_lower_enums.specs.declared.place.Place.{Place}
use Rattle.ecma_lower_enums.specs.declared.place.Place.TheVariants as place
use Rattle.ecma_lower_enums.specs.Forms.{member_in}
use Rattle.ecma_lower_enums.specs.Known.{part_at}
use Rattle.ecma_lower_enums.specs.Places.{is_item, is_left, is_raw}
use Rattle.ecma_lower_enums.specs.Seats.{Seat, around_at, behind, place_at, place_by}
use Rattle.ecma_lower_enums.specs.Steps.{around_behind, around_below, brought, part_of, place_below, told_at, told_by, told_of, written_as}
use Rattle.ecma_lower_enums.specs.Writing.{done, done_by, form_of, is_enum_first, member_form, part_form, second, writing}

-- ---- along a list

pub stands-still : (enums : KnownEnums) → StandsStill (writing enums) is_item
stands-still enums p around n still = ap (λ b. cond b (seat p (behind around (out-Node n).kind (out-Node n).children)) (seat p around)) still

pub brings-on : (enums : KnownEnums) → Moves (writing enums) is_item (λ p. brought) around_behind
brings-on enums p around n moves = ap (λ b. cond b (seat p (behind around (out-Node n).kind (out-Node n).children)) (seat p around)) moves

-- ---- what is told of a node

-- whether a node is left
by-left : (b : Bool) (t f : Told) → cond b None (Some t) ≡ Some f → (b ≡ false) × (t ≡ f)
by-left true t f is = cc
by-left false t f is = (refl, cc)

not-left : (b : Bool) (t : Told) → cond b None (Some t) ≡ None → b ≡ true
not-left true t is = refl
not-left false t is = cc

-- the part that a node is written as
module _ (enums : KnownEnums) (p : Place) (span : Span) (k : Kind) (cs : List Node) where
  abbrev told_so : Form → Told
  told_so = told_by enums p span k cs

  part-form : (part : Option Part) → part_of (told_so (part_form part)) ≡ part
  part-form (Some part) = refl
  part-form None = refl

  one-of : (b : Bool) → part_of (told_so (cond b form.Export form.One)) ≡ None
  one-of true = refl
  one-of false = refl

  member-form : (q : Place) → part_of (told_so (member_form q)) ≡ None
  member-form (place.Member skips) = refl
  member-form _ = refl

part-told : (enums : KnownEnums) (p : Place) (span : Span) (k : Kind) (cs : List Node) → part_of (told_of enums p span k cs) ≡ part_at p k cs
unfolding form_of
part-told enums p span kind.TsTypeAssertion cs = refl
part-told enums p span kind.TsConstAssertion cs = refl
part-told enums p span kind.TsNonNullExpr cs = refl
part-told enums p span kind.TsAsExpr cs = refl
part-told enums p span kind.TsInstantiation cs = refl
part-told enums p span kind.TsSatisfiesExpr cs = refl
part-told enums p span (kind.TsEnumDecl declare is_const) cs =
    part-form enums p span (kind.TsEnumDecl declare is_const) cs (part_at p (kind.TsEnumDecl declare is_const) cs)
part-told enums p span kind.ExportDecl cs = one-of enums p span kind.ExportDecl cs (is_item p && is_enum_first cs)
part-told enums p span kind.TsEnumMember cs = member-form enums p span kind.TsEnumMember cs p
part-told enums p span _ cs = refl

module _ (enums : KnownEnums) where
  pub leaves-left : Leaves (writing enums) (λ s. told_at enums s.place)
  leaves-left s span k cs lists none =
      ap (λ b. cond b (node_of span k cs ∷ []) (done enums s span k cs lists)) (not-left (is_left s.place k) (told_of enums s.place span k cs) none)

  -- by its form
  by-form : (s : Seat) (span : Span) (k : Kind) (cs : List Node) (lists : List (List Node)) (f : Form)
      → done_by enums s span k cs lists f ≡ written_as enums (told_by enums s.place span k cs f) s span k lists
  by-form s span k cs lists form.Wrapped = refl
  by-form s span k cs lists (form.Part part) = refl
  by-form s span k cs lists form.Export = refl
  by-form s span k cs lists (form.Member skips) =
      ap (λ (z : Node-F Node). member_in enums skips s.around.name z.span (member_name (node_of span k cs)) (second lists))
      (out-roll-Node (record { span = span; kind = k; children = cs }))
  by-form s span k cs lists form.One = refl

  pub writes-told : Writes (writing enums) (λ s. told_at enums s.place) (written_as enums)
  writes-told s span k cs lists f is =
      let told_by = by-left (is_left s.place k) (told_of enums s.place span k cs) f is in
      ap (λ b. cond b (node_of span k cs ∷ []) (done enums s span k cs lists)) told_by.0
      ∙ by-form s span k cs lists (form_of s.place k cs)
      ∙ ap (λ t. written_as enums t s span k lists) told_by.1

  -- its children
  raw-left : (p : Place) (k : Kind) → is_left p k ≡ false → is_raw p ≡ false
  raw-left place.Raw k h = h
  raw-left _ k h = refl

  pub seats-told : Seats (writing enums) (λ s. told_at enums s.place) (place_below enums) around_below
  seats-told s span k cs i f is =
      let told_by = by-left (is_left s.place k) (told_of enums s.place span k cs) f is in
      ap (λ b. cond b s (seat (place_at enums s.place k cs i) (around_at s k cs))) (raw-left s.place k told_by.0)
      ∙ ap (λ part. seat (place_by enums s.place k i part) (around_at s k cs)) (sym (part-told enums s.place span k cs))
      ∙ ap (λ (t : Told). seat (place_below enums t s.place k i) (around_at s k cs)) told_by.1
