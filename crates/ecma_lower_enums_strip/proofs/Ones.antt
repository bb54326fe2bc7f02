-- What becomes of a node by its form: of expressions, and of members.
use Rattle.std.proofs.Common.{◌≡◌, ◌∙◌, ℕ, zero, suc, Bool, true, false, ◌&&◌, ◌||◌, cond, refl, sym, ap, ap₂, subst, List, [], ◌∷◌, ◌++◌, map, length, replicate, Option, Some, None, slice_get}
use Rattle.std.specs.List.{list_all}
use Rattle.std.proofs.lemmas.List.Folds.{list_all-append}
use Rattle.ecma_kind.specs.Sorts.{belongs, is_expr, is_type_wrapper}
use Rattle.ecma_kind.specs.declared.ident.Ident.{Ident}
use Rattle.ecma_kind.specs.declared.kind.Kind.{Kind}
use Rattle.ecma_kind.specs.declared.kind.Kind.TheVariants as kind
use Rattle.ecma_kind.specs.declared.shapes.Sort.TheVariants as sort
use Rattle.ecma_kind.specs.declared.span.Span.{Span}
use Rattle.ecma_tree.specs.Laws.{HaveShapes}
use Rattle.ecma_tree.specs.Nodes.{node_of}
use Rattle.ecma_tree.specs.Sorted.{HasShape, child_shapes, is_absent, is_list, many, maybe, one}
use Rattle.ecma_tree.specs.Values.{value_by}
use Rattle.ecma_tree.specs.declared.node.Node.{Node, Node-F, out-Node}
use Rattle.ecma_tree.specs.declared.node.Node.TheViews.{out-roll-Node, roll-out-Node}
use Rattle.ecma_tree.proofs.ShapeLaws.{node_has_shape}
use Rattle.ecma_strip.specs.Staying.{is_declared, specifier_stays, stays}
use Rattle.ecma_strip.specs.Stripping.{plain, plain_children, plain_kind, stripped, without_empty}
use Rattle.ecma_rewriting.specs.Laws.{children, items}
use Rattle.ecma_rewriting.specs.Rewriting.{Rewriting, becomes, only}
use Rattle.ecma_rewriting.proofs.Equations.{layer-other, list-kind, nodes_become}
use Rattle.ecma_strip_rewriting.specs.Commuting.{is_full, is_type, of_staying}
use Rattle.ecma_strip_rewriting.proofs.Commuting.{by-parts, stripped-wrapper, wrapped-first}
use Rattle.ecma_strip_rewriting.proofs.PlainKinds.{both, filter-all, full-roll, no, shape-out, stripped-list, stripped-other}
use Rattle.ecma_strip_rewriting.proofs.Stays.{kind-roll, stays-out, stays_by}
use Rattle.ecma_enums.specs.Declarations.{member_name}
use Rattle.ecma_lower_enums.specs.declared.answer.Answer.{Answer}
use Rattle.ecma_lower_enums.specs.declared.answer.Answer.TheVariants.{Instead, Pattern}
use Rattle.ecma_lower_enums.specs.declared.form.Form.{Form}
use Rattle.ecma_lower_enums.specs.declared.form.Form.TheVariants as form
use Rattle.ecma_lower_enums.specs.declared.known.Around.{Around}
use Rattle.ecma_lower_enums.specs.declared.known.KnownEnums.{KnownEnums}
use Rattle.ecma_lower_enums.specs.declared.place.Place.{Place}
use Rattle.ecma_lower_enums.specs.declared.place.Place.TheVariants as place
use Rattle.ecma_lower_enums.specs.Forms.{is_known, is_nil, known_value, member_in, set_member}
use Rattle.ecma_lower_enums.specs.Places.{is_left, is_raw}
use Rattle.ecma_lower_enums.specs.Seats.{Seat, seat_at}
use Rattle.ecma_lower_enums.specs.Writing.{answer_by, answered, done, done_by, form_of, second, writing}
use Rattle.ecma_lower_enums_strip.specs.Laws.{NamesAreUnmarked}
use Rattle.ecma_lower_enums_strip.proofs.Answering.{Free, FreeAnswer, answer-free, is_free}
use Rattle.ecma_lower_enums_strip.proofs.Quiet.{acts, does, done-quiet, raw, seat-under}
use Rattle.ecma_lower_enums_strip.proofs.Made.{Lines, MissingAlike, without-empty-roll}
use Rattle.ecma_lower_enums_strip.proofs.Seating.{expr-list, usual-out}

-- ---- kinds that are there

-- a kind that is not missing is not missing without types
there-plain : (k : Kind) → is_absent (plain_kind k) ≡ is_absent k
unfolding plain_kind
there-plain kind.Absent = refl
there-plain _ = refl

expr-there : (k : Kind) → is_expr k ≡ true → is_absent k ≡ false
expr-there kind.Absent h = no h
expr-there _ h = refl

-- an expression at which something is written
expr-acts : (p : Place) (k : Kind) (cs : List Node) → is_expr k ≡ true → acts k ≡ true → form_of p k cs ≡ form.One
unfolding form_of
expr-acts p (kind.Ident text ctxt optional) cs h a = refl
expr-acts p kind.MemberExpr cs h a = refl
expr-acts p kind.BindingIdent cs h a = no h
expr-acts p kind.AssignPatProp cs h a = no h
expr-acts p (kind.TsEnumDecl d c) cs h a = no h
expr-acts p kind.TsEnumMember cs h a = no h
expr-acts p kind.ExportDecl cs h a = no h
expr-acts p _ cs h a = no a

-- one node, which is there, also without types
pub record OneThere (l : List Node) : Type 0 where
  pub one : l ≡ only l ∷ []
  pub there : is_absent (out-Node (only l)).kind ≡ false
  pub plainly : is_absent (out-Node (stripped (only l))).kind ≡ false

node-there : (span : Span) (k : Kind) (cs : List Node) → is_absent k ≡ false → (is_list k ≡ false) × (is_type k ≡ false) × (is_type_wrapper k ≡ false) → OneThere (node_of span k cs ∷ [])
node-there span k cs there usual = record {
  one = refl;
  there = ap is_absent (kind-roll span k cs) ∙ there;
  plainly =
      ap (λ z. is_absent (out-Node z).kind) (usual-out span k cs usual)
      ∙ ap is_absent (kind-roll span (plain_kind k) (plain_children k (map stripped cs))) ∙ there-plain k ∙ there;
}

free-there : (e : Node) → Free e → OneThere (e ∷ [])
free-there e f = record {
  one = refl;
  there = is-there (out-Node e).kind f.free;
  plainly = ap (λ z. is_absent (out-Node z).kind) f.bare ∙ is-there (out-Node e).kind f.free;
}
  where
    is-there : (k : Kind) → is_free k ≡ true → is_absent k ≡ false
    is-there kind.Absent h = no h
    is-there _ h = refl

pub answered-there : (o : Option Answer) (span : Span) (k : Kind) (cs : List Node) → FreeAnswer k o → is_expr k ≡ true → is_type_wrapper k ≡ false → OneThere (answered o span k cs ∷ [])
answered-there None span k cs f h w = let usual = expr-list k h in node-there span k cs (expr-there k h) (usual.0, usual.1, w)
answered-there (Some (Instead e)) span k cs f h w = free-there e f
answered-there (Some (Pattern key e)) span k cs f h w = node-there span kind.KeyValuePatProp _ refl (refl, refl, refl)

module _ (enums : KnownEnums) (unmarked-names : NamesAreUnmarked enums) where
  abbrev pub T : Rewriting Seat
  T = of_staying (writing enums)

  abbrev pub lists_of : Seat → Kind → List Node → List (List Node)
  lists_of s k cs = children T (seat_at enums s k cs) 0 cs

  pub becomes-other : (s : Seat) (span : Span) (k : Kind) (cs : List Node) → is_list k ≡ false → becomes T s (node_of span k cs) ≡ (writing enums).here s span k cs (lists_of s k cs)
  becomes-other s span k cs l = nodes_become Seat T s span k cs ∙ layer-other T s span k cs l

  -- what holds of a node that is left, and of what is written of one, holds of what the node becomes
  pub by-left : (P : List Node → Type 0) (s : Seat) (span : Span) (k : Kind) (cs : List Node) → is_list k ≡ false → (is_left s.place k ≡ true → P (node_of span k cs ∷ []))
      → (is_left s.place k ≡ false → P (done enums s span k cs (lists_of s k cs))) → P (becomes T s (node_of span k cs))
  by-left P s span k cs l left written = subst P (sym (becomes-other s span k cs l)) (by (is_left s.place k) refl)
    where
      by : (b : Bool) → is_left s.place k ≡ b → P (cond b (node_of span k cs ∷ []) (done enums s span k cs (lists_of s k cs)))
      by true e = left e
      by false e = written e

  -- an expression in a place where it is read
  abbrev ExprOne : Node → Type 0
  ExprOne n = HasShape (one sort.Expr) n → (s : Seat) → s.place ≡ place.Read → OneThere (becomes T s n)

  wrapped-there : (span : Span) (k : Kind) (rest l : List Node) → is_type_wrapper k ≡ true → is_absent k ≡ false → OneThere l → OneThere (map (λ e. node_of span k (e ∷ rest)) l)
  wrapped-there span k rest l w there inner =
      subst (λ z. OneThere (map (λ e. node_of span k (e ∷ rest)) z)) (sym inner.one) (record {
        one = refl;
        there = ap is_absent (kind-roll span k (only l ∷ rest)) ∙ there;
        plainly = ap (λ z. is_absent (out-Node z).kind) (stripped-wrapper span k (only l) rest (one sort.Expr) w) ∙ inner.plainly;
      })

  module _ (span : Span) (k : Kind) (cs : List Node) (each : (i : ℕ) (c : Node) → slice_get cs i ≡ Some c → ExprOne c) (has : HasShape (one sort.Expr) (node_of span k cs)) (s : Seat) (read : s.place ≡ place.Read) where
    shapes : (is_expr k ≡ true) × HaveShapes (child_shapes k (one sort.Expr) (length cs)) cs
    shapes = (node_has_shape span k cs (one sort.Expr)).0 has

    expr-raw : raw s ≡ false
    expr-raw = ap is_raw read

    as-wrapper : is_type_wrapper k ≡ true → OneThere (becomes T s (node_of span k cs))
    as-wrapper w =
        let front = wrapped-first span k cs (one sort.Expr) w shapes.1 in
        let e = front.0 in
        let es = front.1 in
        let l = becomes T (seat_at enums s k (e ∷ es) 0) e in
        let rest = children T (seat_at enums s k (e ∷ es)) 1 es in
        let inner = each 0 e (ap (λ (z : List Node). slice_get z 0) front.2) front.3 (seat_at enums s k (e ∷ es) 0) (ap (λ (z : Seat). z.place) (seat-under enums s k (e ∷ es) expr-raw w) ∙ read) in
        subst (λ z. OneThere (becomes T s (node_of span k z))) (sym front.2)
        (subst OneThere (sym (becomes-other s span k (e ∷ es) (expr-list k shapes.0).0 ∙ (does enums).wrapped s span k (e ∷ es) l rest expr-raw w))
        (wrapped-there span k (map only rest) l w (expr-there k shapes.0) inner))

    written : (f : Form) → form_of s.place k cs ≡ f → is_type_wrapper k ≡ false → acts k ≡ true → OneThere (done_by enums s span k cs (lists_of s k cs) f)
    written f is w a =
        subst (λ z. OneThere (done_by enums s span k cs (lists_of s k cs) z)) (sym (expr-acts s.place k cs shapes.0 a) ∙ is)
        (answered-there (answer_by enums s.place span k cs) span k (map only (lists_of s k cs)) (answer-free enums unmarked-names s.place span k cs) shapes.0 w)

    as-usual : is_type_wrapper k ≡ false → (b : Bool) → acts k ≡ b → OneThere (becomes T s (node_of span k cs))
    as-usual w true a =
        let usual = expr-list k shapes.0 in
        by-left OneThere s span k cs usual.0 (λ e. node-there span k cs (expr-there k shapes.0) (usual.0, usual.1, w)) (λ e. written (form_of s.place k cs) refl w a)
    as-usual w false a =
        let usual = expr-list k shapes.0 in
        by-left OneThere s span k cs usual.0 (λ e. node-there span k cs (expr-there k shapes.0) (usual.0, usual.1, w))
        (λ e. subst OneThere (sym (done-quiet enums s span k cs (lists_of s k cs) a w)) (node-there span k (map only (lists_of s k cs)) (expr-there k shapes.0) (usual.0, usual.1, w)))

    expr-by : (b : Bool) → is_type_wrapper k ≡ b → OneThere (becomes T s (node_of span k cs))
    expr-by true w = as-wrapper w
    expr-by false w = as-usual w (acts k) refl

  expr-node : (span : Span) (k : Kind) (cs : List Node) → ((i : ℕ) (c : Node) → slice_get cs i ≡ Some c → ExprOne c) → ExprOne (node_of span k cs)
  expr-node span k cs each has s read = expr-by span k cs each has s read (is_type_wrapper k) refl

  pub expr-one : (n : Node) → ExprOne n
  expr-one = by-parts ExprOne expr-node

  same-shapes : (k : Kind) (n : ℕ) → is_expr k ≡ true → child_shapes k (maybe sort.Expr) n ≡ child_shapes k (one sort.Expr) n
  same-shapes kind.List n h = no h
  same-shapes kind.SeqExpr zero h = refl
  same-shapes kind.SeqExpr (suc n) h = refl
  same-shapes _ n h = refl

  or-expr : (a b : Bool) → (a || b) ≡ true → a ≡ false → b ≡ true
  or-expr true b h e = no (sym e)
  or-expr false b h e = h

  expr-shape : (n : Node) → HasShape (maybe sort.Expr) n → is_absent (out-Node n).kind ≡ false → HasShape (one sort.Expr) n
  expr-shape n h there =
      let k = (out-Node n).kind in
      let cs = (out-Node n).children in
      let parts = shape-out n (maybe sort.Expr) h in
      let is = or-expr (is_absent k) (is_expr k) parts.0 there in
      subst (HasShape (one sort.Expr)) (roll-out-Node n)
      ((node_has_shape (out-Node n).span k cs (one sort.Expr)).1 (is, subst (λ z. HaveShapes z cs) (same-shapes k (length cs) is) parts.1))

  -- an initialiser or a default, which may be missing
  absent-node : (s : Seat) (span : Span) (cs : List Node) → s.place ≡ place.Read → MissingAlike (only (becomes T s (node_of span kind.Absent cs)))
  absent-node s span cs read =
      by-left (λ l. MissingAlike (only l)) s span kind.Absent cs refl (λ e. alike cs)
      (λ e. subst (λ l. MissingAlike (only l)) (sym (done-quiet enums s span kind.Absent cs (lists_of s kind.Absent cs) refl refl)) (alike (map only (lists_of s kind.Absent cs))))
    where
      alike : (ds : List Node) → MissingAlike (node_of span kind.Absent ds)
      alike ds =
          ap (λ z. is_absent (out-Node z).kind) (usual-out span kind.Absent ds (refl, refl, refl))
          ∙ ap is_absent (kind-roll span (plain_kind kind.Absent) (plain_children kind.Absent (map stripped ds)))
          ∙ there-plain kind.Absent
          ∙ sym (ap is_absent (kind-roll span kind.Absent ds))

  pub maybe-alike : (n : Node) (s : Seat) → HasShape (maybe sort.Expr) n → s.place ≡ place.Read → MissingAlike (only (becomes T s n))
  maybe-alike n s h read = by (is_absent (out-Node n).kind) refl
    where
      absent-kind : (k : Kind) → is_absent k ≡ true → k ≡ kind.Absent
      absent-kind kind.Absent h = refl
      absent-kind _ h = no h

      by : (b : Bool) → is_absent (out-Node n).kind ≡ b → MissingAlike (only (becomes T s n))
      by true e =
          subst (λ z. MissingAlike (only (becomes T s z))) (ap (λ k. node_of (out-Node n).span k (out-Node n).children) (sym (absent-kind (out-Node n).kind e)) ∙ roll-out-Node n)
          (absent-node s (out-Node n).span (out-Node n).children read)
      by false e =
          let is = expr-one n (expr-shape n h e) s read in
          is.plainly ∙ sym is.there

-- ---- members

abbrev pub is_line_kind : Kind → Bool
is_line_kind kind.ExprStmt = true
is_line_kind _ = false

abbrev pub is_line : Node → Bool
is_line n = is_line_kind (out-Node n).kind

line-roll : (span : Span) (e : Node) → is_line (node_of span kind.ExprStmt (e ∷ [])) ≡ true
line-roll span e = ap is_line_kind (kind-roll span kind.ExprStmt (e ∷ []))

line-stays-by : (k : Kind) (cs : List Node) → is_line_kind k ≡ true → stays_by k cs ≡ true
unfolding value_by is_declared specifier_stays
line-stays-by kind.ExprStmt cs h = refl
line-stays-by _ cs h = no h

pub line-stays : (n : Node) → is_line n ≡ true → stays n ≡ true
line-stays n h = stays-out n ∙ line-stays-by (out-Node n).kind (out-Node n).children h

line-full-by : (span : Span) (k : Kind) (cs : List Node) → is_line_kind k ≡ true → is_full (stripped (node_of span k cs)) ≡ true
unfolding plain plain_kind plain_children
line-full-by span kind.ExprStmt cs h = ap is_full (stripped-other span kind.ExprStmt cs refl) ∙ full-roll span kind.ExprStmt (map stripped cs)
line-full-by span _ cs h = no h

line-full : (n : Node) → is_line n ≡ true → is_full (stripped n) ≡ true
line-full n h = ap (λ z. is_full (stripped z)) (sym (roll-out-Node n)) ∙ line-full-by (out-Node n).span (out-Node n).kind (out-Node n).children h

pub lines-stay : (ns : List Node) → list_all is_line ns ≡ true → list_all stays ns ≡ true
lines-stay [] h = refl
lines-stay (n ∷ ns) h = let parts = both (is_line n) (list_all is_line ns) h in ap₂ (λ a b. a && b) (line-stays n parts.0) (lines-stay ns parts.1)

lines-full : (ns : List Node) → list_all is_line ns ≡ true → list_all is_full (map stripped ns) ≡ true
lines-full [] h = refl
lines-full (n ∷ ns) h = let parts = both (is_line n) (list_all is_line ns) h in ap₂ (λ a b. a && b) (line-full n parts.0) (lines-full ns parts.1)

nil-map : (ns : List Node) → is_nil (map stripped ns) ≡ is_nil ns
nil-map [] = refl
nil-map (n ∷ ns) = refl

pub list-lines : (span : Span) (ns : List Node) → list_all is_line ns ≡ true → Lines (node_of span kind.List ns)
list-lines span ns h =
    let is : stripped (node_of span kind.List ns) ≡ node_of span kind.List (map stripped ns) =
    stripped-list span ns ∙ ap (λ z. node_of span kind.List (map stripped z)) (filter-all stays ns (lines-stay ns h)) in
    record {
      full =
          ap without_empty is ∙ without-empty-roll span (map stripped ns)
          ∙ ap (node_of span kind.List) (filter-all is_full (map stripped ns) (lines-full ns h)) ∙ sym is;
      nil =
          ap (λ z. is_nil (out-Node z).children) is
          ∙ ap (λ (z : Node-F Node). is_nil z.children) (out-roll-Node (record { span = span; kind = kind.List; children = map stripped ns }))
          ∙ nil-map ns
          ∙ sym (ap (λ (z : Node-F Node). is_nil z.children) (out-roll-Node (record { span = span; kind = kind.List; children = ns })));
    }

module _ (enums : KnownEnums) (unmarked-names : NamesAreUnmarked enums) where
  member-lines-by : (b : Bool) (span : Span) (e : Node) → list_all is_line (cond b [] (node_of span kind.ExprStmt (e ∷ []) ∷ [])) ≡ true
  member-lines-by true span e = refl
  member-lines-by false span e = ap (λ b. b && true) (line-roll span e)

  pub member-lines : (unwritten : Bool) (of : Option Ident) (span : Span) (text : List ℕ) (init : Node) → list_all is_line (member_in enums unwritten of span text init) ≡ true
  member-lines unwritten (Some of) span text init = member-lines-by (unwritten && is_known (known_value enums of text)) span (set_member of text (known_value enums of text) init)
  member-lines unwritten None span text init = refl

  abbrev pub at_member : Bool → Around → Seat
  at_member unwritten around = record { place = place.Member unwritten; around = around }

  member-node : (unwritten : Bool) (around : Around) (span : Span) (k : Kind) (cs : List Node) → belongs sort.TsEnumMember k ≡ true
      → list_all is_line (becomes (T enums unmarked-names) (at_member unwritten around) (node_of span k cs)) ≡ true
  unfolding form_of
  member-node unwritten around span kind.TsEnumMember cs b =
      ap (list_all is_line) (becomes-other enums unmarked-names (at_member unwritten around) span kind.TsEnumMember cs refl)
      ∙ member-lines unwritten around.name (out-Node (node_of span kind.TsEnumMember cs)).span (member_name (node_of span kind.TsEnumMember cs)) (second (lists_of enums unmarked-names (at_member unwritten around) kind.TsEnumMember cs))
  member-node unwritten around span _ cs b = no b

  member-stays-by : (k : Kind) (cs : List Node) → belongs sort.TsEnumMember k ≡ true → stays_by k cs ≡ true
  unfolding value_by is_declared specifier_stays
  member-stays-by kind.TsEnumMember cs h = refl
  member-stays-by _ cs h = no h

  items-lines : (unwritten : Bool) (around : Around) (ms : List Node) → HaveShapes (replicate (length ms) (one sort.TsEnumMember)) ms
      → list_all is_line (items (T enums unmarked-names) (at_member unwritten around) ms) ≡ true
  items-lines unwritten around [] h = refl
  items-lines unwritten around (m ∷ ms) h =
      let s = at_member unwritten around in
      let is = (shape-out m (one sort.TsEnumMember) h.0).0 in
      let first : list_all is_line (becomes (T enums unmarked-names) s m) ≡ true =
      subst (λ z. list_all is_line (becomes (T enums unmarked-names) s z) ≡ true) (roll-out-Node m) (member-node unwritten around (out-Node m).span (out-Node m).kind (out-Node m).children is) in
      let rest = items (T enums unmarked-names) s ms in
      ap (λ b. list_all is_line (cond b (becomes (T enums unmarked-names) s m ++ rest) (m ∷ rest))) (stays-out m ∙ member-stays-by (out-Node m).kind (out-Node m).children is)
      ∙ list_all-append is_line (becomes (T enums unmarked-names) s m) rest
      ∙ ap₂ (λ a b. a && b) first (items-lines unwritten around ms h.1)

  -- what the list of the members of an enum that is written becomes
  pub members-lines : (unwritten : Bool) (around : Around) (n : Node) → HasShape (many sort.TsEnumMember) n → Lines (only (becomes (T enums unmarked-names) (at_member unwritten around) n))
  members-lines unwritten around n h =
      let s = at_member unwritten around in
      let parts = shape-out n (many sort.TsEnumMember) h in
      let l = list-kind (out-Node n).kind parts.0 in
      let ms = (out-Node n).children in
      let have = subst (λ z. HaveShapes (child_shapes z (many sort.TsEnumMember) (length ms)) ms) l parts.1 in
      let is : becomes (T enums unmarked-names) s n ≡ node_of (out-Node n).span kind.List (items (T enums unmarked-names) s ms) ∷ [] =
      ap (becomes (T enums unmarked-names) s) (sym (roll-out-Node n) ∙ ap (λ k. node_of (out-Node n).span k ms) l)
      ∙ nodes_become Seat (T enums unmarked-names) s (out-Node n).span kind.List ms in
      subst (λ z. Lines (only z)) (sym is) (list-lines (out-Node n).span (items (T enums unmarked-names) s ms) (items-lines unwritten around ms have))
