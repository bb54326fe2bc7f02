-- Writing the enums of what is stripped is stripping what has its enums written.
use Rattle.std.proofs.Common.{◌≡◌, ◌∙◌, ◌⊎◌, ℕ, zero, suc, Bool, true, false, ◌&&◌, not, cond, refl, sym, ap, ap₂, subst, List, [], ◌∷◌, ◌++◌, map, Option, Some, None, Result, Ok, Err, slice_get}
use Rattle.std.specs.List.{list_all}
use Rattle.std.specs.Option.{option_and_then, option_map}
use Rattle.ecma_kind.specs.Sorts.{is_decl}
use Rattle.ecma_kind.specs.declared.ident.Ident.{Ident}
use Rattle.ecma_kind.specs.declared.kind.Kind.{Kind}
use Rattle.ecma_kind.specs.declared.kind.Kind.TheVariants as kind
use Rattle.ecma_kind.specs.declared.shapes.Sort.{Sort}
use Rattle.ecma_kind.specs.declared.span.Span.{Span}
use Rattle.ecma_tree.specs.Idents.{ident_of}
use Rattle.ecma_tree.specs.Nodes.{node_of}
use Rattle.ecma_tree.specs.Sorted.{HasSort, one}
use Rattle.ecma_tree.specs.declared.node.Node.{Node, fold-Node, fold-roll-Node, ind-Node}
use Rattle.ecma_strip.specs.Laws.{is_type_part}
use Rattle.ecma_strip.specs.Plain.{Seen, children_stay, has_no_types, seen_step}
use Rattle.ecma_strip.specs.Staying.{stays}
use Rattle.ecma_strip.specs.Stripping.{plain_children, plain_kind, stripped}
use Rattle.ecma_rewriting.specs.Laws.{children}
use Rattle.ecma_rewriting.specs.Rewriting.{Rewriting, becomes, only, over_ones}
use Rattle.ecma_strip_rewriting.specs.Commuting as rewriting
use Rattle.ecma_strip_rewriting.specs.Commuting.{Commutes, DoesElseNothing, SeesNoTypes, is_body_at, of_all, of_staying}
use Rattle.ecma_strip_rewriting.proofs.Commuting.{commutes_with_stripping, only-stripped, stripped-absent}
use Rattle.ecma_strip_rewriting.proofs.PlainKinds.{both, filter-none, some-same}
use Rattle.ecma_enums.specs.Walks.{with_enums}
use Rattle.ecma_enums.specs.declared.error.EnumError.{EnumError}
use Rattle.ecma_enums.specs.declared.record.TsEnumRecordEntry.{TsEnumRecordEntry}
use Rattle.ecma_lower_enums.specs.declared.known.KnownEnums.{KnownEnums}
use Rattle.ecma_lower_enums.specs.declared.place.Place.{Place}
use Rattle.ecma_lower_enums.specs.declared.place.Place.TheVariants as place
use Rattle.ecma_lower_enums.specs.Known.{Id, name_at, unmarked}
use Rattle.ecma_lower_enums.specs.Lowered.{known_enums, lowered_by}
use Rattle.ecma_lower_enums.specs.Places.{is_item, is_raw, place_in}
use Rattle.ecma_lower_enums.specs.Seats.{Seat, around_at, around_in, next_seat, of_block, place_at, seat_at, whole}
use Rattle.ecma_lower_enums.specs.Steps.{brought}
use Rattle.ecma_lower_enums.specs.Writing.{writing}
use Rattle.ecma_lower_enums_strip.specs.Laws.{EnumsBeforeOrAfter, EnumsBeforeOrAfterAlike, EnumsLoweredBeforeOrAfter, NamesAreUnmarked, stripped_by}
use Rattle.ecma_lower_enums_strip.proofs.Acting.{acting, full}
use Rattle.ecma_lower_enums_strip.proofs.Embedding as embedding
use Rattle.ecma_lower_enums_strip.proofs.Quiet.{acts, bodies, does, kinds-same, leaves, leaves-off, leaves-same, seat-under, settled-decl, settled-quiet}
use Rattle.ecma_lower_enums_strip.proofs.Made.{PlainName}
use Rattle.ecma_lower_enums_strip.proofs.Named.{names-unmarked}
use Rattle.ecma_lower_enums_strip.proofs.Remaining.{remains}
use Rattle.ecma_lower_enums_strip.proofs.Seating.{next, next-empty, seats}

-- ---- seats in which no name has a `?`

record BareName : Type 0 where
  pub span : Span
  pub sym : List ℕ
  pub ctxt : ℕ

record BareSeat : Type 0 where
  pub place : Place
  pub name : Option BareName
  pub before : List Id

abbrev unmark : Ident → BareName
unmark i = record { span = i.span; sym = i.sym; ctxt = i.ctxt }

abbrev ident : BareName → Ident
ident n = record { span = n.span; ctxt = n.ctxt; sym = n.sym; optional = false }

abbrev embed : BareSeat → Seat
embed s = record { place = s.place; around = record { name = option_map ident s.name; before = s.before } }

abbrev project : Seat → BareSeat
project s = record { place = s.place; name = option_map unmark s.around.name; before = s.around.before }

bare-name : (o : Option BareName) → option_map unmark (option_map ident o) ≡ o
bare-name (Some n) = refl
bare-name None = refl

bare-back : (s : BareSeat) → project (embed s) ≡ s
bare-back s = ap (λ o. record { place = s.place; name = o; before = s.before }) (bare-name s.name)

-- a name, if there is one, that is the same without `?`
abbrev Unmarked : Option Ident → Type 0
Unmarked o = option_map ident (option_map unmark o) ≡ o

embedded-unmarked : (o : Option BareName) → Unmarked (option_map ident o)
embedded-unmarked (Some n) = refl
embedded-unmarked None = refl

name-unmarked : (cs : List Node) → Unmarked (name_at cs)
name-unmarked cs = by (option_and_then ident_of (slice_get cs 0))
  where
    by : (o : Option Ident) → Unmarked (option_map unmarked o)
    by (Some i) = refl
    by None = refl

bare-plain : (o : Option BareName) → PlainName (option_map ident o)
bare-plain (Some n) = refl
bare-plain None = tt

seat-unmarked : (s : Seat) → Unmarked s.around.name → embed (project s) ≡ s
seat-unmarked s h = ap (λ o. record { place = s.place; around = record { name = o; before = s.around.before } }) h

block-unmarked : (p : Place) (o : Option Ident) → Unmarked o → Unmarked (of_block p o)
block-unmarked place.Block o h = h
block-unmarked _ o h = refl

around-unmarked : (s : Seat) (k : Kind) (cs : List Node) → Unmarked s.around.name → Unmarked (around_at s k cs).name
unfolding around_in
around-unmarked s (kind.Module shebang) cs h = refl
around-unmarked s (kind.Script shebang) cs h = refl
around-unmarked s kind.BlockStmt cs h = refl
around-unmarked s kind.SwitchCase cs h = refl
around-unmarked s kind.TsModuleBlock cs h = block-unmarked s.place s.around.name h
around-unmarked s (kind.TsModuleDecl declare global) cs h = name-unmarked cs
around-unmarked s (kind.TsNamespaceDecl declare global) cs h = name-unmarked cs
around-unmarked s (kind.TsEnumDecl declare is_const) cs h = name-unmarked cs
around-unmarked s _ cs h = h

seats-unmarked : (enums : KnownEnums) (s : Seat) (k : Kind) (cs : List Node) (i : ℕ) → Unmarked s.around.name → Unmarked (seat_at enums s k cs i).around.name
seats-unmarked enums s k cs i h = by (is_raw s.place)
  where
    by : (b : Bool) → Unmarked (cond b s (record { place = place_at enums s.place k cs i; around = around_at s k cs })).around.name
    by true = h
    by false = around-unmarked s k cs h

next-unmarked : (s : Seat) (n : Node) → Unmarked s.around.name → Unmarked (next_seat s n).around.name
next-unmarked s n h = by (is_item s.place)
  where
    by : (b : Bool) → Unmarked (cond b (record { place = s.place; around = record { name = s.around.name; before = s.around.before ++ brought n } }) s).around.name
    by true = h
    by false = h

-- ---- the rewriting in such seats

module _ (enums : KnownEnums) (unmarked-names : NamesAreUnmarked enums) where
  abbrev written : Rewriting Seat
  written = writing enums

  abbrev within : Rewriting BareSeat
  within = embedding.embedded written embed project

  abbrev raw : BareSeat → Bool
  raw s = is_raw s.place

  abbrev left : BareSeat → Kind → Bool
  left s k = leaves (embed s) k

  next-back : (s : BareSeat) (n : Node) → embed (project (next_seat (embed s) n)) ≡ next_seat (embed s) n
  next-back s n = seat-unmarked (next_seat (embed s) n) (next-unmarked (embed s) n (embedded-unmarked s.name))

  seat-back : (s : BareSeat) (k : Kind) (cs : List Node) (i : ℕ) → embed (project (seat_at enums (embed s) k cs i)) ≡ seat_at enums (embed s) k cs i
  seat-back s k cs i = seat-unmarked (seat_at enums (embed s) k cs i) (seats-unmarked enums (embed s) k cs i (embedded-unmarked s.name))

  does-within : DoesElseNothing within raw left acts
  does-within = let d = does enums in record {
    raw_here = λ s span k cs lists w. d.raw_here (embed s) span k cs lists w;
    raw_next = λ s c w. d.raw_next (embed s) c w;
    raw_unkept = λ s c w. refl;
    quiet = λ s span k cs lists w a l t. d.quiet (embed s) span k cs lists w a l t;
    wrapped = λ s span k cs l ls w t. d.wrapped (embed s) span k cs l ls w t;
  }

  bodies-within : (s : BareSeat) (k l : Kind) (cs ds : List Node) (i : ℕ) (span : Span) (lists : List (List Node)) → raw s ≡ false → is_body_at k i ≡ true → is_decl l ≡ true
      → (written.here (embed (project (seat_at enums (embed s) k cs i))) span l ds lists ≡ node_of span l ds ∷ [])
      ⊎ ((rewriting.is_variables l ≡ true) × (written.here (embed (project (seat_at enums (embed s) k cs i))) span l ds lists ≡ over_ones span l lists))
  bodies-within s k l cs ds i span lists w b d =
      subst (λ z. (written.here z span l ds lists ≡ node_of span l ds ∷ []) ⊎ ((rewriting.is_variables l ≡ true) × (written.here z span l ds lists ≡ over_ones span l lists)))
      (sym (seat-back s k cs i)) (bodies enums (embed s) k l cs ds i span lists w b d)

  receiver-within : (s : BareSeat) (cs : List Node) → raw s ≡ false → is_raw (seat_at enums (embed s) kind.SetterProp cs 1).place ≡ true
  unfolding place_in
  receiver-within s cs w = ap (λ b. is_raw (cond b (embed s) (record { place = place_at enums s.place kind.SetterProp cs 1; around = around_at (embed s) kind.SetterProp cs })).place) w

  children-within : (s : BareSeat) (k : Kind) (cs : List Node) → children (of_staying within) (within.seat s k cs) 0 cs ≡ children (of_staying written) (seat_at enums (embed s) k cs) 0 cs
  children-within s k cs = embedding.children-same (of_staying written) embed project next-back seat-back s k cs

  sees-no-types : SeesNoTypes within raw left acts
  sees-no-types = record {
    does = does-within;
    settled = λ k h. settled-quiet k h;
    settled_stays = λ s k h. leaves-off enums (embed s) k (settled-decl k h);
    same = λ k. (kinds-same k).0;
    left_same = λ s k. leaves-same (embed s) k;
    seats = λ s t span k cs i w l has. ap project (seats enums (embed s) t span k cs i has);
    under = λ s k cs w x. ap project (seat-under enums (embed s) k cs w x) ∙ bare-back s;
    next = λ s t n h. ap project (next (embed s) t n h);
    next_empty = λ s span cs. ap project (next-empty (embed s) span cs) ∙ bare-back s;
    bodies = λ s k l cs ds i span lists w b d. bodies-within s k l cs ds i span lists w b d;
    receiver = λ s cs w. receiver-within s cs w;
    unkept = λ s t n h g. filter-none stays n g;
    remains = λ s t n h g. ap (list_all stays) (embedding.same (of_staying written) embed project next-back seat-back n s) ∙ remains enums unmarked-names n t h g (embed s);
    full = λ s t span k cs w a l x has each. full enums unmarked-names (embed s) span within (within.seat s (plain_kind k) (plain_children k (map stripped cs))) t k cs w a has each;
    acting = λ s t span k cs plains w a l x has each is ones.
        subst (λ lists. (rewriting.changes_children k ≡ false → plains ≡ map (map stripped) lists)
        → written.here (embed s) span (plain_kind k) (plain_children k (map stripped cs)) plains ≡ map stripped (written.here (embed s) span k cs lists))
        (sym (children-within s k cs)) (acting enums unmarked-names (embed s) w (bare-plain s.name) t span k cs plains a has) is;
  }

  abbrev start : BareSeat
  start = project whole

  commutes : (tree : Node) (sort : Sort) → HasSort sort tree → becomes (of_all written) whole (stripped tree) ≡ map stripped (becomes (of_staying written) whole tree)
  commutes tree sort h =
      sym (embedding.same (of_all written) embed project next-back seat-back (stripped tree) start)
      ∙ commutes_with_stripping BareSeat within raw left acts sees-no-types tree (one sort) h start
      ∙ ap (map stripped) (embedding.same (of_staying written) embed project next-back seat-back tree start)

pub enums_before_or_after : EnumsBeforeOrAfter
enums_before_or_after enums tree sort names h = ap only (commutes enums names tree sort h) ∙ only-stripped stripped-absent (becomes (of_staying (writing enums)) whole tree)

-- ---- where no type is left

seen-itself-all : (ns : List ((n : Node) × ((fold-Node Seen seen_step n).node ≡ n))) → map (λ b. b.node) (map (fold-Node Seen seen_step) (map (λ e. e.0) ns)) ≡ map (λ e. e.0) ns
seen-itself-all [] = refl
seen-itself-all (n ∷ ns) = ap₂ (λ a rest. a ∷ rest) n.1 (seen-itself-all ns)

seen-itself : (n : Node) → (fold-Node Seen seen_step n).node ≡ n
seen-itself = ind-Node (λ n. (fold-Node Seen seen_step n).node ≡ n) (λ x y is.
    ap (λ b. b.node) (fold-roll-Node Seen seen_step x)
    ∙ ap (λ children. node_of x.span x.kind children)
    (ap (λ z. map (λ b. b.node) (map (fold-Node Seen seen_step) z.children)) (sym is) ∙ (seen-itself-all y.children ∙ ap (λ z. z.children) is)))

seen-nodes : (ns : List Node) → map (λ b. b.node) (map (fold-Node Seen seen_step) ns) ≡ ns
seen-nodes [] = refl
seen-nodes (n ∷ ns) = ap₂ (λ a rest. a ∷ rest) (seen-itself n) (seen-nodes ns)

seen-all : (ns : List Node) → list_all (λ b. b.has_none) (map (fold-Node Seen seen_step) ns) ≡ list_all has_no_types ns
seen-all [] = refl
seen-all (n ∷ ns) = ap (λ rest. has_no_types n && rest) (seen-all ns)

-- a node in which there are no types, by its kind and children
abbrev NoTypes : Node → Type 0
NoTypes n = has_no_types n ≡ true

no-types-roll : (span : Span) (k : Kind) (cs : List Node) → NoTypes (node_of span k cs) → (children_stay k cs ≡ true) × (list_all has_no_types cs ≡ true)
no-types-roll span k cs h =
    let all = both (not (is_type_part k) && children_stay k cs) (list_all has_no_types cs)
    (sym (ap (λ b. b.has_none) (fold-roll-Node Seen seen_step (record { span = span; kind = k; children = cs }))
    ∙ ap₂ (λ nodes rest. (not (is_type_part k) && children_stay k nodes) && rest) (seen-nodes cs) (seen-all cs)) ∙ h) in
    ((both (not (is_type_part k)) (children_stay k cs) all.0).1, all.1)

all-at : (test : Node → Bool) (cs : List Node) → list_all test cs ≡ true → (i : ℕ) (c : Node) → slice_get cs i ≡ Some c → test c ≡ true
all-at test [] h i c at = cc
all-at test (d ∷ ds) h zero c at = subst (λ z. test z ≡ true) (some-same d c at) (both (test d) (list_all test ds) h).0
all-at test (d ∷ ds) h (suc i) c at = all-at test ds (both (test d) (list_all test ds) h).1 i c at

none-below : (span : Span) (k : Kind) (cs : List Node) → NoTypes (node_of span k cs) → (i : ℕ) (c : Node) → slice_get cs i ≡ Some c → NoTypes c
none-below span k cs h = all-at has_no_types cs (no-types-roll span k cs h).1

items-stay : (span : Span) (cs : List Node) → NoTypes (node_of span kind.List cs) → (i : ℕ) (c : Node) → slice_get cs i ≡ Some c → stays c ≡ true
unfolding children_stay
items-stay span cs h = all-at stays cs (no-types-roll span kind.List cs h).0

pub enums_before_or_after_alike : EnumsBeforeOrAfterAlike
enums_before_or_after_alike enums tree sort names h none =
    ap only (sym (embedding.alike (writing enums) stays NoTypes none-below items-stay (stripped tree) none whole)) ∙ enums_before_or_after enums tree sort names h

-- ---- as it is known of the tree without types

pub enums_lowered_before_or_after : EnumsLoweredBeforeOrAfter
enums_lowered_before_or_after may_change keeps_constants unresolved tree sort h none = by (with_enums unresolved (stripped tree))
  where
    by : (known : Result (List TsEnumRecordEntry) EnumError) → lowered_by may_change keeps_constants (stripped tree) known ≡ stripped_by may_change keeps_constants tree known
    by (Ok members) = ap Ok (enums_before_or_after_alike (known_enums may_change keeps_constants members (stripped tree)) tree sort (names-unmarked (stripped tree)) h none)
    by (Err e) = refl
