-- Of what becomes of a node with its enums written nothing has to be lowered, where nothing had to be beside enums.
use Rattle.std.proofs.Common.{◌≡◌, ◌∙◌, ℕ, zero, suc, Bool, true, false, cond, not, ◌&&◌, ◌||◌, List, [], ◌∷◌, ◌++◌, map, length, replicate, Option, Some, None, refl, sym, ap, subst, slice_get}
use Rattle.ecma_kind.specs.Sorts.{is_type_wrapper}
use Rattle.ecma_kind.specs.declared.ident.Ident.{Ident}
use Rattle.ecma_kind.specs.declared.kind.Kind.{Kind}
use Rattle.ecma_kind.specs.declared.kind.Kind.TheVariants as kind
use Rattle.ecma_kind.specs.declared.shapes.Shape.{Shape}
use Rattle.ecma_kind.specs.declared.shapes.Sort.TheVariants as sort
use Rattle.ecma_kind.specs.declared.span.Span.{Span}
use Rattle.ecma_tree.specs.Laws.{HaveShapes}
use Rattle.ecma_tree.specs.Nodes.{node_of}
use Rattle.ecma_tree.specs.Sorted.{HasShape, allows, child_shapes, is_absent, is_list, item_shape, many, maybe, one}
use Rattle.ecma_tree.specs.declared.node.Node.{Node, out-Node}
use Rattle.ecma_tree.specs.declared.node.Node.TheViews.{roll-out-Node}
use Rattle.ecma_rewriting.specs.Laws.{children, items, layer}
use Rattle.ecma_rewriting.specs.Rewriting.{become, becomes, only}
use Rattle.ecma_rewriting.proofs.Equations.{becomes-out, layer-other, list-kind}
use Rattle.ecma_rules.specs.Children.{has_child, kind_of, of_kind}
use Rattle.ecma_rules.specs.Children.{is_present}
use Rattle.ecma_rules.specs.Failing.{failing_here, first_failing}
use Rattle.ecma_rules.specs.Rules.{fails_list, fails_member, fails_statement}
use Rattle.ecma_rules.specs.Statements.{is_body as is_body_standing, is_declaration, is_declared_body, is_quoted_local}
use Rattle.ecma_rules.specs.Surroundings.{standing_by}
use Rattle.ecma_fits.specs.declared.unfit.Where.{Where}
use Rattle.ecma_fits.specs.Fitting.{breaks_rule, where_in}
use Rattle.ecma_fits.specs.Roles.{is_bound_name}
use Rattle.ecma_fits.proofs.Walks.{neither, not_failing}
use Rattle.ecma_forms.specs.Forms.{is_odd_by, is_unlowered, is_unlowered_kind}
use Rattle.ecma_strip.specs.Staying.{stays}
use Rattle.ecma_strip_fits.proofs.Lists.{have_at, items_at}
use Rattle.ecma_strip_fits.proofs.Walk.{shape_parts}
use Rattle.ecma_enums.specs.Declarations.{member_name}
use Rattle.ecma_enums.specs.declared.record.TsEnumRecordEntry.{TsEnumRecordEntry}
use Rattle.ecma_lower_enums.specs.declared.form.Form.{Form}
use Rattle.ecma_lower_enums.specs.declared.form.Form.TheVariants as form
use Rattle.ecma_lower_enums.specs.declared.known.Around.{Around}
use Rattle.ecma_lower_enums.specs.declared.known.KnownEnums.{KnownEnums}
use Rattle.ecma_lower_enums.specs.declared.known.Part.{Part as EnumPart}
use Rattle.ecma_lower_enums.specs.declared.place.Place.{Place}
use Rattle.ecma_lower_enums.specs.declared.place.Place.TheVariants as place
use Rattle.ecma_lower_enums.specs.Forms.{member_in, member_statements, part_statements}
use Rattle.ecma_lower_enums.specs.Known.{part_at, skips}
use Rattle.ecma_lower_enums.specs.Lowered.{known_enums}
use Rattle.ecma_lower_enums.specs.Places.{exported_place, is_item, is_left, is_raw, place_in}
use Rattle.ecma_lower_enums.specs.Seats.{Seat, around_at, around_in, behind, place_at, place_by, seat_at}
use Rattle.ecma_lower_enums.specs.Writing.{answer_by, answered, done_by, first_list, form_of, is_enum_first, is_enum_kind, second, wrapped, writing}
use Rattle.ecma_lower_enums.proofs.ByForm.{export-kind, is_single, no', raw-left, wrapped-kind}
use Rattle.ecma_lower_enums_sources.proofs.Alike.{made-kind}
use Rattle.ecma_lower_enums_sources.proofs.Forming.{IsMember, IsPart, enum-shapes, enum-spreads, export-enum, is-member, is-part, one-child, two-children}
use Rattle.ecma_lower_enums_sources.proofs.Relating.{Outcome, all-written, by-children, made-children, part-out, single-out}
use Rattle.ecma_lower_enums_sources.proofs.Relation.{IfN, Stands, children_of, suits}
use Rattle.ecma_lower_enums_sources.proofs.SortsKept.{K, N, Q, facts}
use Rattle.ecma_lower_enums_sources.proofs.Suiting.{child-suits, items-suit, no}
use Rattle.ecma_lower_enums_sources.proofs.Trees.{anywhere}
use Rattle.ecma_lower_enums_forms.specs.Laws.{is_enum, is_odd_setter, is_setter, is_unlowered_but_enums}
use Rattle.ecma_lower_enums_forms.proofs.Answers.{answer-low, answered-low}
use Rattle.ecma_lower_enums_forms.proofs.Made.{AllLow, L, absent-low, append-low, framed, is_frame, members-low, over, part-low}
use Rattle.ecma_lower_enums_forms.proofs.Odd.{odd-same}
use Rattle.ecma_lower_enums_forms.proofs.Standing.{Asked, child-settles, child-strict, enum-item, export-item, items-settle, items-strict, member-place, settles, strict}
use Rattle.ecma_lower_enums_forms.proofs.Still.{receiver-low}
use Rattle.ecma_lower_enums_forms.proofs.Walks.{Low, low-below, low-here, low-made, told-below, told-here}

-- ---- lists

-- each of these that stays in a list has nothing to be lowered
abbrev Staying : List Node → Type 0
Staying [] = Unit
Staying (n ∷ ns) = (stays n ≡ true → L n) × Staying ns

staying-at : (ns : List Node) → Staying ns → (i : ℕ) (c : Node) → slice_get ns i ≡ Some c → stays c ≡ true → L c
staying-at [] h i c at s = cc
staying-at (n ∷ ns) h zero c at s = let same : n ≡ c = cc in subst (λ z. stays z ≡ true → L z) same h.0 s
staying-at (n ∷ ns) h (suc i) c at s = staying-at ns h.1 i c at s

staying-append : (ns ms : List Node) → AllLow ns → Staying ms → Staying (ns ++ ms)
staying-append [] ms h g = g
staying-append (n ∷ ns) ms h g = ((λ s. h.0), staying-append ns ms h.1 g)

list-made : (span : Span) (ns : List Node) → Staying ns → L (node_of span kind.List ns)
list-made span ns h =
    let n = node_of span kind.List ns in
    low-made is_unlowered n (ap (λ z. is_unlowered_kind z || is_odd_by z n) (made-kind span kind.List ns))
    (λ i c at stay. staying-at ns h i c (ap (λ (z : List Node). slice_get z i) (sym (made-children span kind.List ns)) ∙ at) (stay (ap is_list (made-kind span kind.List ns))))

-- what children became
abbrev AllLists : List (List Node) → Type 0
AllLists [] = Unit
AllLists (l ∷ ls) = AllLow l × AllLists ls

pub only-low : (l : List Node) → AllLow l → L (only l)
only-low [] h = absent-low
only-low (n ∷ ns) h = h.0

ones-low : (ls : List (List Node)) → AllLists ls → AllLow (map only ls)
ones-low [] h = tt
ones-low (l ∷ ls) h = (only-low l h.0, ones-low ls h.1)

frame-wrapper : (k : Kind) → is_type_wrapper k ≡ true → is_frame k ≡ true
frame-wrapper kind.TsTypeAssertion h = refl
frame-wrapper kind.TsConstAssertion h = refl
frame-wrapper kind.TsNonNullExpr h = refl
frame-wrapper kind.TsAsExpr h = refl
frame-wrapper kind.TsInstantiation h = refl
frame-wrapper kind.TsSatisfiesExpr h = refl
frame-wrapper _ h = no h

module _ (span : Span) (k : Kind) (f : is_frame k ≡ true) where
  map-low : (ls : List (List Node)) → AllLists ls → (es : List Node) → AllLow es → AllLow (map (λ e. node_of span k (e ∷ map only ls)) es)
  map-low ls h [] g = tt
  map-low ls h (e ∷ es) g = (framed span k (e ∷ map only ls) f (g.0, ones-low ls h), map-low ls h es g.1)

  wrapped-low : (ls : List (List Node)) → AllLists ls → AllLow (wrapped span k ls)
  wrapped-low [] h = (framed span k [] f tt, tt)
  wrapped-low (l ∷ ls) h = map-low ls h.1 l h.0

-- ---- forms

enum-none : (p : Place) (k : Kind) (cs : List Node) → is_enum_kind k ≡ false → part_at p k cs ≡ None
enum-none p (kind.TsEnumDecl declare is_const) cs h = no' h
enum-none p _ cs h = refl

enum-kind : (k : Kind) → is_enum k ≡ false → is_enum_kind k ≡ false
enum-kind (kind.TsEnumDecl declare is_const) h = no' h
enum-kind _ h = refl

wrapper-no-enum : (k : Kind) → is_type_wrapper k ≡ true → is_enum_kind k ≡ false
wrapper-no-enum (kind.TsEnumDecl declare is_const) h = no h
wrapper-no-enum _ h = refl

-- an enum and its members are not written one for one
enum-spread : (p : Place) (t : Shape) (k : Kind) (cs : List Node) → is_enum k ≡ true → suits p t ≡ true → strict p t ≡ true → settles p k ≡ true → allows t k ≡ true → HaveShapes (child_shapes k t (length cs)) cs
    → is_single (form_of p k cs) ≡ true → false ≡ true
unfolding form_of
enum-spread p t (kind.TsEnumDecl declare is_const) cs e s h f a have one = by p (enum-item p t (kind.TsEnumDecl declare is_const) refl s h f a) one
  where
    by : (q : Place) → is_item q ≡ true → is_single (form_of q (kind.TsEnumDecl declare is_const) cs) ≡ true → false ≡ true
    by (place.Item at_top exported) i one = enum-spreads at_top exported (kind.TsEnumDecl declare is_const) cs t refl have one
    by _ i one = i
enum-spread p t kind.TsEnumMember cs e s h f a have one = sym (ap (λ q. is_single (form_of q kind.TsEnumMember cs)) (member-place p t s h a).1) ∙ one
enum-spread p t _ cs e s h f a have one = e

exported-is : (p : Place) → is_item p ≡ true → (at_top : Bool) × (exported_place p ≡ place.Item at_top true)
exported-is (place.Item at_top exported) h = (at_top, refl)
exported-is _ h = no h

member-none : (p : Place) (k : Kind) (cs : List Node) → k ≡ kind.TsEnumMember → part_at p k cs ≡ None
member-none p k cs e = ap (λ z. part_at p z cs) e

member-reads : (p : Place) (k : Kind) → k ≡ kind.TsEnumMember → place_in true p k 1 ≡ place.Read
unfolding place_in
member-reads p k e = ap (λ z. place_in true p z 1) e

either-so : (a b : Bool) → (not a && not b) ≡ false → (a || b) ≡ true
either-so true b h = refl
either-so false true h = refl
either-so false false h = no' h

unlowered-so : (a b : Bool) → b ≡ false → (a && not b) ≡ false → a ≡ false
unlowered-so true b e h = no' (ap not (sym e) ∙ h)
unlowered-so false b e h = refl

any-name : (enums : KnownEnums) (o : Option Ident) → IfN enums N K o
any-name enums None = tt
any-name enums (Some of) = tt

module _ (enums : KnownEnums) where
  outcome-stands : {p : Place} {t : Shape} {n : Node} {l : List Node} → Outcome enums N K Q p t n l → (e : Node) → l ≡ e ∷ [] → is_single (form_of p (kind_of n) (children_of n)) ≡ true → Stands enums N K p t n e
  outcome-stands {p} {t} {n} (single-out {d = d} f o) e is s = let same : d ≡ e = cc in subst (Stands enums N K p t n) same o
  outcome-stands (part-out f q) e is s = no (sym f ∙ s)

-- ---- a node

module _ (may_change keeps_constants : Bool) (members : List TsEnumRecordEntry) (tree : Node) where
  abbrev enums : KnownEnums
  enums = known_enums may_change keeps_constants members tree

  abbrev seat : Place → Around → Seat
  seat p around = record { place = p; around = around }

  abbrev becoming : Seat → Node → List Node
  becoming s n = becomes (writing enums) s n

  abbrev rule : Where → Node → Option ℕ
  rule w n = failing_here (breaks_rule w n) n

  abbrev RulesPass : Where → Node → Type 0
  RulesPass w n = first_failing Where rule where_in n w ≡ None

  -- nothing of a node has to be lowered but enums, and where it stands none is left
  abbrev Written : Node → Type 0
  Written n = (p : Place) (around : Around) (t : Shape) (w : Where) → HasShape t n → suits p t ≡ true → strict p t ≡ true → settles p (kind_of n) ≡ true → RulesPass w n
      → Low is_unlowered_but_enums n → AllLow (becoming (seat p around) n)

  shifted : (g : ℕ → Seat) (i : ℕ) (cs : List Node) → children (writing enums) g (suc i) cs ≡ children (writing enums) (λ j. g (suc j)) i cs
  shifted g i [] = refl
  shifted g i (c ∷ cs) = ap (λ z. becoming (g (suc i)) c ∷ z) (shifted g (suc i) cs)

  lists-low : (g : ℕ → Seat) (cs : List Node) → ((i : ℕ) (c : Node) → slice_get cs i ≡ Some c → AllLow (becoming (g i) c)) → AllLists (children (writing enums) g 0 cs)
  lists-low g [] each = tt
  lists-low g (c ∷ cs) each = (each 0 c refl, subst AllLists (sym (shifted g 0 cs)) (lists-low (λ i. g (suc i)) cs (λ i d at. each (suc i) d at)))

  module _ (n : Node) (rel : (i : ℕ) (c : Node) → slice_get (children_of n) i ≡ Some c → Written c) (p : Place) (around : Around) (t : Shape) (w : Where) (has : HasShape t n) (suit : suits p t ≡ true)
      (stands : strict p t ≡ true) (settled : settles p (kind_of n) ≡ true) (rules : RulesPass w n) (but : Low is_unlowered_but_enums n) where
    abbrev k : Kind
    k = kind_of n

    abbrev cs : List Node
    cs = children_of n

    abbrev span : Span
    span = (out-Node n).span

    abbrev here-seat : Seat
    here-seat = seat p around

    abbrev inside : Around
    inside = around_at here-seat k cs

    abbrev seats : ℕ → Seat
    seats = λ i. seat_at enums here-seat k cs i

    abbrev lists : List (List Node)
    lists = children (writing enums) seats 0 cs

    abbrev result : List Node
    result = becoming here-seat n

    shapes : (allows t k ≡ true) × HaveShapes (child_shapes k t (length cs)) cs
    shapes = shape_parts n t has

    asked : ((is_unlowered_kind k && not (is_enum k)) ≡ false) × ((is_odd_by k n || is_odd_setter n) ≡ false)
    asked = neither (is_unlowered_kind k && not (is_enum k)) (is_odd_by k n || is_odd_setter n) (low-here is_unlowered_but_enums n but)

    odd : (is_odd_by k n ≡ false) × (is_odd_setter n ≡ false)
    odd = neither (is_odd_by k n) (is_odd_setter n) asked.1

    -- ---- children

    child-rules : (i : ℕ) (c : Node) → slice_get cs i ≡ Some c → RulesPass (where_in w n i) c
    child-rules i c at = told-below Where rule where_in n w rules i c at

    child-written : is_list k ≡ false → (i : ℕ) (c : Node) → slice_get cs i ≡ Some c → (q : Place) (other : Around) (u : Shape) → HasShape u c → suits q u ≡ true → strict q u ≡ true → settles q (kind_of c) ≡ true
        → AllLow (becoming (seat q other) c)
    child-written l i c at q other u h s st se = rel i c at q other u (where_in w n i) h s st se (child-rules i c at) (low-below is_unlowered_but_enums n but i c at (λ e. no (sym l ∙ e)))

    undeclared : (i : ℕ) (c : Node) → slice_get cs i ≡ Some c → (is_body_standing (standing_by w.around.standing k (has_child n 1) (has_child n 2) i) && is_declaration (kind_of c)) ≡ false
    undeclared i c at =
        let v = where_in w n i in
        let broken = not_failing (breaks_rule v c) c (told-here Where rule where_in c v (child-rules i c at)) in
        let behind_list = neither (fails_list v.around c) (fails_member v.around c || fails_statement v.around c) broken in
        let behind_member = neither (fails_member v.around c) (fails_statement v.around c) behind_list.1 in
        (neither (is_quoted_local v.around.standing c) (is_declared_body v.around.standing c) behind_member.1).1

    receiver : (i : ℕ) (c : Node) → slice_get cs i ≡ Some c → k ≡ kind.SetterProp → i ≡ 1 → (is_absent (kind_of c) || is_bound_name (kind_of c)) ≡ true
    receiver i c at e f =
        either-so (is_absent (kind_of c)) (is_bound_name (kind_of c))
        (sym (ap (λ z. is_setter z && (of_kind is_present (slice_get cs 1) && not (of_kind is_bound_name (slice_get cs 1)))) e
        ∙ ap (λ o. of_kind is_present o && not (of_kind is_bound_name o)) (ap (λ j. slice_get cs j) (sym f) ∙ at)) ∙ odd.1)

    seat-of : is_raw p ≡ false → (o : Option EnumPart) → part_at p k cs ≡ o → (i : ℕ) → seat (place_by enums p k i o) inside ≡ seats i
    seat-of raw o is i =
        ap (λ z. seat (place_by enums p k i z) inside) (sym is) ∙ ap (λ b. cond b here-seat (record { place = place_at enums p k cs i; around = inside })) (sym raw)

    each-low : is_raw p ≡ false → is_list k ≡ false → is_enum_kind k ≡ false → (i : ℕ) (c : Node) → slice_get cs i ≡ Some c → AllLow (becoming (seats i) c)
    each-low raw l e i c at =
        let h = have_at (child_shapes k t (length cs)) cs shapes.1 i c at in
        subst (λ z. AllLow (becoming z c)) (seat-of raw None (enum-none p k cs e) i)
        (child-written l i c at (place_in true p k i) inside h.0 h.2
        (child-suits true p t k (length cs) i h.0 l suit shapes.0 h.1)
        (child-strict p t (length cs) k i h.0 l e (λ x. export-item p t suit stands (subst (λ z. allows t z ≡ true) x shapes.0)) stands shapes.0 h.1)
        (child-settles p t w.around.standing (has_child n 1) (has_child n 2) (kind_of c) k i l e raw stands shapes.0 (undeclared i c at, λ x y. receiver i c at x y)))

    all-low : is_raw p ≡ false → is_list k ≡ false → is_enum_kind k ≡ false → AllLists lists
    all-low raw l e = lists-low seats cs (each-low raw l e)

    -- ---- what it becomes

    result-is : is_list k ≡ false → result ≡ cond (is_left p k) (node_of span k cs ∷ []) (done_by enums here-seat span k cs lists (form_of p k cs))
    result-is l = becomes-out (writing enums) here-seat n ∙ layer-other (writing enums) here-seat span k cs l

    done-is : is_list k ≡ false → is_left p k ≡ false → (f : Form) → form_of p k cs ≡ f → result ≡ done_by enums here-seat span k cs lists f
    done-is l left f is =
        result-is l ∙ ap (λ b. cond b (node_of span k cs ∷ []) (done_by enums here-seat span k cs lists (form_of p k cs))) left ∙ ap (done_by enums here-seat span k cs lists) is

    -- as it is
    left-here : (q : Place) → is_left q k ≡ true → settles q k ≡ true → L n
    left-here place.Raw h s = receiver-low n t has s
    left-here place.Body h s = no (sym (ap not h) ∙ s)
    left-here _ h s = no h

    left-low : is_list k ≡ false → is_left p k ≡ true → AllLow result
    left-low l h =
        let is : result ≡ n ∷ [] =
        result-is l ∙ ap (λ b. cond b (node_of span k cs ∷ []) (done_by enums here-seat span k cs lists (form_of p k cs))) h ∙ ap (λ z. z ∷ []) (roll-out-Node n) in
        subst AllLow (sym is) (left-here p h settled, tt)

    -- one for one
    one-low : is_list k ≡ false → is_left p k ≡ false → form_of p k cs ≡ form.One → AllLow result
    one-low l left is = by (is_enum k) refl
      where
        single : is_single (form_of p k cs) ≡ true
        single = ap is_single is

        ones : List Node
        ones = map only lists

        result-one : result ≡ answered (answer_by enums p span k cs) span k ones ∷ []
        result-one = done-is l left form.One is

        usual : answer_by enums p span k cs ≡ None → is_odd_by k (node_of span k ones) ≡ false
        usual none =
            odd-same enums N K
            (outcome-stands enums (all-written enums N K Q (facts enums) n (anywhere Q (λ m. tt) n) p around t (any-name enums around.name) has suit) (node_of span k ones)
            (result-one ∙ ap (λ z. answered z span k ones ∷ []) none) single) odd.0

        by : (b : Bool) → is_enum k ≡ b → AllLow result
        by true e = no (enum-spread p t k cs e suit stands settled shapes.0 shapes.1 single)
        by false e =
            let all = ones-low lists (all-low (raw-left p k left) l (enum-kind k e)) in
            subst AllLow (sym result-one) (
              answered-low enums (answer_by enums p span k cs) span k ones (answer-low enums p span k cs) all
                  (λ none. over span k ones (unlowered-so (is_unlowered_kind k) (is_enum k) e asked.0) (usual none) all),
              tt,
            )

    -- a type round them
    wrapped-here : is_list k ≡ false → is_left p k ≡ false → form_of p k cs ≡ form.Wrapped → AllLow result
    wrapped-here l left is =
        let wr = wrapped-kind p k cs is in
        subst AllLow (sym (done-is l left form.Wrapped is)) (wrapped-low span k (frame-wrapper k wr) lists (all-low (raw-left p k left) l (wrapper-no-enum k wr)))

    -- a part of an enum
    part-here : (part : EnumPart) → is_list k ≡ false → is_left p k ≡ false → form_of p k cs ≡ form.Part part → AllLow result
    part-here part l left is = subst AllLow (sym (done-is l left (form.Part part) is)) (part-low enums span part around (second lists) (subst L (sym second-is) low))
      where
        facts-of : IsPart p k cs part
        facts-of = is-part p k cs part is

        pair : (a : Node) × (b : Node) × (cs ≡ a ∷ b ∷ []) × HasShape (one sort.Ident) a × HasShape (many sort.TsEnumMember) b
        pair = two-children (one sort.Ident) (many sort.TsEnumMember) cs (subst (λ z. HaveShapes z cs) (enum-shapes k t (length cs) facts-of.enum) shapes.1)

        list : Node
        list = pair.1

        at : slice_get cs 1 ≡ Some list
        at = ap (λ (z : List Node). slice_get z 1) pair.2

        inner : Seat
        inner = seat (place.Member (skips enums part)) inside

        second-is : second lists ≡ only (becoming inner list)
        second-is = ap (λ z. second (children (writing enums) seats 0 z)) pair.2 ∙ ap (λ z. only (becoming z list)) (sym (seat-of (raw-left p k left) (Some part) facts-of.found 1))

        low : L (only (becoming inner list))
        low = only-low (becoming inner list) (child-written l 1 list at (place.Member (skips enums part)) inside (many sort.TsEnumMember) pair.4 refl refl refl)

    -- one that is exported
    export-here : is_list k ≡ false → is_left p k ≡ false → form_of p k cs ≡ form.Export → AllLow result
    export-here l left is = subst AllLow (sym (done-is l left form.Export is)) (subst AllLow (sym first-is) low)
      where
        decl : k ≡ kind.ExportDecl
        decl = export-kind p k cs is

        item : is_item p ≡ true
        item = (export-enum p cs (subst (λ z. form_of p z cs ≡ form.Export) decl is)).0

        child : (c : Node) × (cs ≡ c ∷ []) × HasShape (one sort.Decl) c
        child = one-child (one sort.Decl) cs (subst (λ z. HaveShapes (child_shapes z t (length cs)) cs) decl shapes.1)

        c : Node
        c = child.0

        at : slice_get cs 0 ≡ Some c
        at = ap (λ (z : List Node). slice_get z 0) child.1

        no_enum : is_enum_kind k ≡ false
        no_enum = ap is_enum_kind decl

        first-is : first_list lists ≡ becoming (seats 0) c
        first-is = ap (λ z. first_list (children (writing enums) seats 0 z)) child.1

        low : AllLow (becoming (seats 0) c)
        low = each-low (raw-left p k left) l no_enum 0 c at

    -- a member
    member-here : (sk : Bool) → is_list k ≡ false → is_left p k ≡ false → form_of p k cs ≡ form.Member sk → AllLow result
    member-here sk l left is = subst AllLow made (members-low enums sk around.name span (member_name n) (second lists) (subst L (sym second-is) low))
      where
        facts-of : IsMember p k sk
        facts-of = is-member p k cs sk is

        pair : (a : Node) × (b : Node) × (cs ≡ a ∷ b ∷ []) × HasShape (one sort.TsEnumMemberId) a × HasShape (maybe sort.Expr) b
        pair = two-children (one sort.TsEnumMemberId) (maybe sort.Expr) cs (subst (λ z. HaveShapes (child_shapes z t (length cs)) cs) facts-of.member shapes.1)

        init : Node
        init = pair.1

        at : slice_get cs 1 ≡ Some init
        at = ap (λ (z : List Node). slice_get z 1) pair.2

        second-is : second lists ≡ only (becoming (seat place.Read inside) init)
        second-is =
            ap (λ z. second (children (writing enums) seats 0 z)) pair.2
            ∙ ap (λ z. only (becoming z init)) (sym (seat-of (raw-left p k left) None (member-none p k cs facts-of.member) 1))
            ∙ ap (λ z. only (becoming (seat z inside) init)) (member-reads p k facts-of.member)

        low : L (only (becoming (seat place.Read inside) init))
        low = only-low (becoming (seat place.Read inside) init) (child-written l 1 init at place.Read inside (maybe sort.Expr) pair.4 refl refl refl)

        made : member_in enums sk around.name span (member_name n) (second lists) ≡ result
        made = sym (done-is l left (form.Member sk) is ∙ ap (λ z. member_statements enums sk around.name z (second lists)) (roll-out-Node n))

    form-low : is_list k ≡ false → is_left p k ≡ false → (f : Form) → form_of p k cs ≡ f → AllLow result
    form-low l left form.One is = one-low l left is
    form-low l left form.Wrapped is = wrapped-here l left is
    form-low l left (form.Part part) is = part-here part l left is
    form-low l left form.Export is = export-here l left is
    form-low l left (form.Member sk) is = member-here sk l left is

    -- ---- a list

    item-low : (b next : Bool) (c : Node) (ds : List Node) (other : Around) → stays c ≡ b → (stays c ≡ true → AllLow (becoming (seat p other) c)) → ((z : Around) → Staying (items (writing enums) (seat p z) ds))
        → Staying (cond b (becoming (seat p other) c ++ items (writing enums) (cond next (record (seat p other) { around = behind other (kind_of c) (children_of c) }) (seat p other)) ds) ((c ∷ []) ++ items (writing enums) (seat p other) ds))
    item-low true true c ds other e h rest =
        let z = behind other (kind_of c) (children_of c) in staying-append (becoming (seat p other) c) (items (writing enums) (seat p z) ds) (h e) (rest z)
    item-low true false c ds other e h rest = staying-append (becoming (seat p other) c) (items (writing enums) (seat p other) ds) (h e) (rest other)
    item-low false next c ds other e h rest = ((λ s. no (sym e ∙ s)), rest other)

    items-low : (ds : List Node) (other : Around) → ((i : ℕ) (c : Node) → slice_get ds i ≡ Some c → (z : Around) → stays c ≡ true → AllLow (becoming (seat p z) c)) → Staying (items (writing enums) (seat p other) ds)
    items-low [] other each = tt
    items-low (c ∷ ds) other each = item-low (stays c) (is_item p) c ds other refl (λ s. each 0 c refl other s) (λ z. items-low ds z (λ i d at y s. each (suc i) d at y s))

    list-low : is_list k ≡ true → AllLow result
    list-low l = subst AllLow (sym is) (list-made span (items (writing enums) here-seat cs) (items-low cs around each), tt)
      where
        is : result ≡ node_of span kind.List (items (writing enums) here-seat cs) ∷ []
        is = becomes-out (writing enums) here-seat n ∙ ap (λ z. layer (writing enums) here-seat span z cs) (list-kind k l)

        have : HaveShapes (replicate (length cs) (item_shape t)) cs
        have = subst (λ z. HaveShapes (child_shapes z t (length cs)) cs) (list-kind k l) shapes.1

        each : (i : ℕ) (c : Node) → slice_get cs i ≡ Some c → (z : Around) → stays c ≡ true → AllLow (becoming (seat p z) c)
        each i c at z s =
            rel i c at p z (item_shape t) (where_in w n i) (items_at (item_shape t) cs have i c at) (items-suit p t suit) (items-strict p t stands)
            (items-settle p t k (kind_of c) l stands shapes.0 settled) (child-rules i c at) (low-below is_unlowered_but_enums n but i c at (λ e. s))

    node-low : (l : Bool) → is_list k ≡ l → (left : Bool) → is_left p k ≡ left → AllLow result
    node-low true l left h = list-low l
    node-low false l true h = left-low l h
    node-low false l false h = form-low l h (form_of p k cs) refl

  pub all-written-low : (n : Node) → Written n
  all-written-low = by-children Written (λ n rel p around t w has suit stands settled rules but.
      node-low n rel p around t w has suit stands settled rules but (is_list (kind_of n)) refl (is_left p (kind_of n)) refl)
