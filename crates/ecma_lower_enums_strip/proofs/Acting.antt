-- Where something is written, the same is written without types.
use Rattle.std.proofs.Common.{◌≡◌, ◌∙◌, ℕ, Bool, true, false, ◌&&◌, not, cond, refl, sym, ap, ap₂, subst, List, [], ◌∷◌, map, length, get_or, Option, Some, None, slice_get}
use Rattle.std.specs.List.{list_all}
use Rattle.std.specs.Option.{option_map, option_map_or}
use Rattle.std.proofs.lemmas.List.Folds.{list_all-append}
use Rattle.ecma_kind.specs.Sorts.{is_decl, is_type_wrapper}
use Rattle.ecma_kind.specs.declared.ident.Ident.{Ident}
use Rattle.ecma_kind.specs.declared.kind.Kind.{Kind}
use Rattle.ecma_kind.specs.declared.kind.Kind.TheVariants as kind
use Rattle.ecma_kind.specs.declared.shapes.Shape.{Shape}
use Rattle.ecma_kind.specs.declared.shapes.Sort.TheVariants as sort
use Rattle.ecma_kind.specs.declared.span.Span.{Span}
use Rattle.ecma_tree.specs.Laws.{HaveShapes}
use Rattle.ecma_tree.specs.Nodes.{absent, node_of}
use Rattle.ecma_tree.specs.Sorted.{HasShape, child_shapes, is_absent, is_list, many, maybe, one}
use Rattle.ecma_tree.specs.declared.node.Node.{Node, Node-F, out-Node}
use Rattle.ecma_tree.specs.declared.node.Node.TheViews.{out-roll-Node, roll-out-Node}
use Rattle.ecma_tree.proofs.ShapeLaws.{node_has_shape}
use Rattle.ecma_strip.specs.Staying.{is_empty_stmt}
use Rattle.ecma_strip.specs.Stripping.{plain, plain_children, plain_kind, stripped}
use Rattle.ecma_rewriting.specs.Laws.{children}
use Rattle.ecma_rewriting.specs.Rewriting.{Rewriting, becomes, only}
use Rattle.ecma_strip_rewriting.specs.Commuting.{StaysFull, changes_children, is_full, is_type, of_all}
use Rattle.ecma_strip_rewriting.proofs.Commuting.{all-only, only-stripped, stripped-absent}
use Rattle.ecma_strip_rewriting.proofs.PlainKinds.{both, children-unchanged, full-roll, no, shape-out, some-same}
use Rattle.ecma_strip_rewriting.proofs.Stays.{kind-roll}
use Rattle.ecma_enums.specs.Declarations.{member_name, name_text}
use Rattle.ecma_lower_enums.specs.declared.answer.Answer.{Answer}
use Rattle.ecma_lower_enums.specs.declared.answer.Answer.TheVariants.{Instead, Pattern}
use Rattle.ecma_lower_enums.specs.declared.form.Form.{Form}
use Rattle.ecma_lower_enums.specs.declared.form.Form.TheVariants as form
use Rattle.ecma_lower_enums.specs.declared.known.Around.{Around}
use Rattle.ecma_lower_enums.specs.declared.known.KnownEnums.{KnownEnums}
use Rattle.ecma_lower_enums.specs.declared.known.Part.{Part}
use Rattle.ecma_lower_enums.specs.declared.place.Place.{Place}
use Rattle.ecma_lower_enums.specs.declared.place.Place.TheVariants as place
use Rattle.ecma_lower_enums.specs.Forms.{calls, declaration, declarations, is_exported_here, is_nil, known_value, member_in, part_statements}
use Rattle.ecma_lower_enums.specs.Known.{has_id, part_at, part_by, skips, unmarked}
use Rattle.ecma_lower_enums.specs.Places.{is_item, place_in}
use Rattle.ecma_lower_enums.specs.Seats.{Seat, around_at, place_at, place_by, seat_at}
use Rattle.ecma_lower_enums.specs.Writing.{answer_by, answered, done, done_by, first_list, form_of, is_enum_first, is_enum_kind, member_form, part_form, second, with_default, writing}
use Rattle.ecma_lower_enums.proofs.ByForm.{export-kind, wrapped-kind}
use Rattle.ecma_lower_enums_strip.specs.Laws.{NamesAreUnmarked}
use Rattle.ecma_lower_enums_strip.proofs.Answering.{FreeAnswer, answer-free, answers-same, is_free}
use Rattle.ecma_lower_enums_strip.proofs.Quiet.{acts, here-done, kinds-same, leaves, leaves-same, raw}
use Rattle.ecma_lower_enums_strip.proofs.Made.{Bare, IsPlain, Lines, MissingAlike, PlainName, plain-member_by, plain-node, plain-part}
use Rattle.ecma_lower_enums_strip.proofs.Naming.{members, text-kept}
use Rattle.ecma_lower_enums_strip.proofs.Ones.{T, at_member, is_line, is_line_kind, lists_of, maybe-alike, member-lines, members-lines}
use Rattle.ecma_lower_enums_strip.proofs.Seating.{part-same, usual-out}

-- ---- kinds at which something is written

acts-usual : (k : Kind) → acts k ≡ true → (is_list k ≡ false) × (is_type k ≡ false) × (is_type_wrapper k ≡ false)
acts-usual (kind.Ident text ctxt optional) a = (refl, refl, refl)
acts-usual kind.BindingIdent a = (refl, refl, refl)
acts-usual kind.AssignPatProp a = (refl, refl, refl)
acts-usual kind.MemberExpr a = (refl, refl, refl)
acts-usual (kind.TsEnumDecl d c) a = (refl, refl, refl)
acts-usual kind.TsEnumMember a = (refl, refl, refl)
acts-usual kind.ExportDecl a = (refl, refl, refl)
acts-usual _ a = no a

pub acts-changes : (k : Kind) → acts k ≡ true → changes_children k ≡ false
acts-changes (kind.Ident text ctxt optional) a = refl
acts-changes kind.BindingIdent a = refl
acts-changes kind.AssignPatProp a = refl
acts-changes kind.MemberExpr a = refl
acts-changes (kind.TsEnumDecl d c) a = refl
acts-changes kind.TsEnumMember a = refl
acts-changes kind.ExportDecl a = refl
acts-changes _ a = no a

-- such a node without types
acts-out : (span : Span) (k : Kind) (cs : List Node) → acts k ≡ true → stripped (node_of span k cs) ≡ node_of span (plain_kind k) (map stripped cs)
acts-out span k cs a = usual-out span k cs (acts-usual k a) ∙ ap (node_of span (plain_kind k)) (children-unchanged k (map stripped cs) (acts-changes k a))

-- ---- one node for one

get-stripped : (ds : List Node) → get_or (map stripped ds) 1 absent ≡ stripped (get_or ds 1 absent)
get-stripped [] = sym stripped-absent
get-stripped (a ∷ []) = sym stripped-absent
get-stripped (a ∷ b ∷ ds) = refl

plain-default : (span : Span) (e v : Node) → Bare e → MissingAlike v → stripped (with_default span e v) ≡ with_default span e (stripped v)
unfolding plain plain_kind plain_children
plain-default span e v h alike = by (is_absent (out-Node v).kind) ∙ ap (λ b. cond b e (node_of span kind.AssignPat (e ∷ stripped v ∷ []))) (sym alike)
  where
    by : (b : Bool) → stripped (cond b e (node_of span kind.AssignPat (e ∷ v ∷ []))) ≡ cond b e (node_of span kind.AssignPat (e ∷ stripped v ∷ []))
    by true = h
    by false = plain-node span kind.AssignPat (e ∷ v ∷ []) refl (λ ds. refl) ∙ ap (λ z. node_of span kind.AssignPat (z ∷ stripped v ∷ [])) h

plain-property : (span : Span) (key e v : Node) → Bare key → Bare e → MissingAlike v
    → stripped (node_of span kind.KeyValuePatProp (key ∷ with_default span e v ∷ [])) ≡ node_of span kind.KeyValuePatProp (key ∷ with_default span e (stripped v) ∷ [])
unfolding plain plain_kind plain_children
plain-property span key e v g h alike =
    plain-node span kind.KeyValuePatProp (key ∷ with_default span e v ∷ []) refl (λ ds. refl)
    ∙ ap₂ (λ x y. node_of span kind.KeyValuePatProp (x ∷ y ∷ [])) g (plain-default span e v h alike)

answered-plain : (o : Option Answer) (span : Span) (k : Kind) (ds : List Node) → acts k ≡ true → FreeAnswer k o → (k ≡ kind.AssignPatProp → MissingAlike (get_or ds 1 absent))
    → answered o span (plain_kind k) (map stripped ds) ≡ stripped (answered o span k ds)
answered-plain None span k ds a f alike = sym (acts-out span k ds a)
answered-plain (Some (Instead e)) span k ds a f alike = sym f.bare
answered-plain (Some (Pattern key e)) span k ds a f alike =
    ap (λ v. node_of span kind.KeyValuePatProp (key ∷ with_default span e v ∷ [])) (get-stripped ds)
    ∙ sym (plain-property span key e (get_or ds 1 absent) f.1 f.2.bare (alike f.0))

-- ---- forms

enum-first : (cs : List Node) → HaveShapes (one sort.Decl ∷ []) cs → is_enum_first (map stripped cs) ≡ is_enum_first cs
unfolding plain_kind
enum-first [] h = refl
enum-first (c ∷ cs) h = ap (λ z. is_enum_kind (out-Node (stripped z)).kind) (sym (roll-out-Node c)) ∙ by (out-Node c).span (out-Node c).kind (out-Node c).children (shape-out c (one sort.Decl) h.0).0
  where
    by : (span : Span) (k : Kind) (ds : List Node) → is_decl k ≡ true → is_enum_kind (out-Node (stripped (node_of span k ds))).kind ≡ is_enum_kind k
    by span (kind.FnDecl d) ds is = ap (λ z. is_enum_kind (out-Node z).kind) (usual-out span (kind.FnDecl d) ds (refl, refl, refl)) ∙ ap is_enum_kind (kind-roll span (kind.FnDecl d) _)
    by span (kind.ClassDecl d) ds is = ap (λ z. is_enum_kind (out-Node z).kind) (usual-out span (kind.ClassDecl d) ds (refl, refl, refl)) ∙ ap is_enum_kind (kind-roll span (kind.ClassDecl d) _)
    by span (kind.VarDecl w d) ds is = ap (λ z. is_enum_kind (out-Node z).kind) (usual-out span (kind.VarDecl w d) ds (refl, refl, refl)) ∙ ap is_enum_kind (kind-roll span (kind.VarDecl w d) _)
    by span (kind.TsEnumDecl d c) ds is = ap (λ z. is_enum_kind (out-Node z).kind) (usual-out span (kind.TsEnumDecl d c) ds (refl, refl, refl)) ∙ ap is_enum_kind (kind-roll span (kind.TsEnumDecl d c) _)
    by span (kind.TsModuleDecl d g) ds is = ap (λ z. is_enum_kind (out-Node z).kind) (usual-out span (kind.TsModuleDecl d g) ds (refl, refl, refl)) ∙ ap is_enum_kind (kind-roll span (kind.TsModuleDecl d g) _)
    by span (kind.TsInterfaceDecl d) ds is = ap (λ z. is_enum_kind (out-Node z).kind) (usual-out span (kind.TsInterfaceDecl d) ds (refl, refl, refl)) ∙ ap is_enum_kind (kind-roll span (kind.TsInterfaceDecl d) _)
    by span (kind.TsTypeAliasDecl d) ds is = ap (λ z. is_enum_kind (out-Node z).kind) (usual-out span (kind.TsTypeAliasDecl d) ds (refl, refl, refl)) ∙ ap is_enum_kind (kind-roll span (kind.TsTypeAliasDecl d) _)
    by span _ ds is = no is

member-text : (span : Span) (cs : List Node) → member_name (node_of span kind.TsEnumMember cs) ≡ option_map_or (λ name. name_text (out-Node name).kind) (slice_get cs 0) []
member-text span cs =
    ap (λ (z : Node-F Node). option_map_or (λ name. name_text (out-Node name).kind) (slice_get z.children 0) []) (out-roll-Node (record { span = span; kind = kind.TsEnumMember; children = cs }))

member-kept : (span : Span) (cs : List Node) → HaveShapes (one sort.TsEnumMemberId ∷ maybe sort.Expr ∷ []) cs → member_name (node_of span kind.TsEnumMember (map stripped cs)) ≡ member_name (node_of span kind.TsEnumMember cs)
member-kept span [] h = absurd h
member-kept span (c ∷ cs) h =
    member-text span (map stripped (c ∷ cs))
    ∙ text-kept c (members (out-Node c).kind (shape-out c (one sort.TsEnumMemberId) h.0).0)
    ∙ sym (member-text span (c ∷ cs))

span-roll : (span : Span) (k : Kind) (cs : List Node) → (out-Node (node_of span k cs)).span ≡ span
span-roll span k cs = ap (λ (z : Node-F Node). z.span) (out-roll-Node (record { span = span; kind = k; children = cs }))

-- the name of a part that is written has no `?`
part-plain : (p : Place) (is_const : Bool) (x : Option Ident) (part : Part) → part_by p is_const (option_map unmarked x) ≡ Some part → IsPlain part.name
part-plain (place.Item at_top exported) is_const (Some i) part is = sym (ap (λ (z : Part). z.name.optional) (some-same _ part is))
part-plain (place.Item at_top exported) is_const None part is = cc
part-plain _ is_const x part is = cc

second-same : (lists : List (List Node)) → second (map (map stripped) lists) ≡ stripped (second lists)
second-same [] = sym stripped-absent
second-same (l ∷ []) = sym stripped-absent
second-same (l ∷ m ∷ ls) = only-stripped stripped-absent m

first-same : (lists : List (List Node)) → first_list (map (map stripped) lists) ≡ map stripped (first_list lists)
first-same [] = refl
first-same (l ∷ ls) = refl

module _ (enums : KnownEnums) (unmarked-names : NamesAreUnmarked enums) (s : Seat) (w : raw s ≡ false) (inside : PlainName s.around.name) (t : Shape) (span : Span) where
  abbrev lists : Kind → List Node → List (List Node)
  lists = lists_of enums unmarked-names s

  abbrev Same : Kind → List Node → Type 0
  Same k cs = done enums s span (plain_kind k) (map stripped cs) (map (map stripped) (lists k cs)) ≡ map stripped (done enums s span k cs (lists k cs))

  -- the seat of a child
  seat-is : (k : Kind) (cs : List Node) (i : ℕ) → seat_at enums s k cs i ≡ record { place = place_at enums s.place k cs i; around = around_at s k cs }
  seat-is k cs i = ap (λ b. cond b s (record { place = place_at enums s.place k cs i; around = around_at s k cs })) w

  -- one for one
  one-same : (k : Kind) (cs : List Node) → acts k ≡ true → HaveShapes (child_shapes k t (length cs)) cs → (k ≡ kind.AssignPatProp → MissingAlike (get_or (map only (lists k cs)) 1 absent))
      → done_by enums s span (plain_kind k) (map stripped cs) (map (map stripped) (lists k cs)) form.One ≡ map stripped (done_by enums s span k cs (lists k cs) form.One)
  one-same k cs a have alike =
      ap₂ (λ o ds. answered o span (plain_kind k) ds ∷ []) (answers-same enums s.place span k t cs (length cs) a have) (all-only (lists k cs))
      ∙ ap (λ z. z ∷ []) (answered-plain (answer_by enums s.place span k cs) span k (map only (lists k cs)) a (answer-free enums unmarked-names s.place span k cs) alike)

  -- a shorthand in a pattern, with its default
  default-alike : (cs : List Node) → HaveShapes (one sort.BindingIdent ∷ maybe sort.Expr ∷ []) cs → MissingAlike (get_or (map only (lists kind.AssignPatProp cs)) 1 absent)
  unfolding place_in
  default-alike [] h = absurd h
  default-alike (a ∷ []) h = absurd h.1
  default-alike (a ∷ b ∷ cs) h =
      maybe-alike enums unmarked-names b (seat_at enums s kind.AssignPatProp (a ∷ b ∷ cs) 1) h.1.0 (ap (λ (z : Seat). z.place) (seat-is kind.AssignPatProp (a ∷ b ∷ cs) 1))

  -- a part of an enum
  lines-of : (d c : Bool) (cs : List Node) (part : Part) → HaveShapes (one sort.Ident ∷ many sort.TsEnumMember ∷ []) cs → part_at s.place (kind.TsEnumDecl d c) cs ≡ Some part → Lines (second (lists (kind.TsEnumDecl d c) cs))
  lines-of d c [] part h is = absurd h
  lines-of d c (a ∷ []) part h is = absurd h.1
  lines-of d c (a ∷ b ∷ cs) part h is =
      let k = kind.TsEnumDecl d c in
      let around = around_at s k (a ∷ b ∷ cs) in
      let at : seat_at enums s k (a ∷ b ∷ cs) 1 ≡ at_member enums unmarked-names (skips enums part) around =
      seat-is k (a ∷ b ∷ cs) 1 ∙ ap (λ (o : Option Part). record { place = place_by enums s.place k 1 o; around = around }) is in
      subst (λ z. Lines (only (becomes (T enums unmarked-names) z b))) (sym at) (members-lines enums unmarked-names (skips enums part) around b h.1.0)

  enum-same : (d c : Bool) (cs : List Node) → HaveShapes (child_shapes (kind.TsEnumDecl d c) t (length cs)) cs → Same (kind.TsEnumDecl d c) cs
  unfolding plain_kind plain_children form_of
  enum-same d c cs have =
      ap (λ o. done_by enums s span k (map stripped cs) (map (map stripped) (lists k cs)) (part_form o)) (part-same s.place k t cs have)
      ∙ by (part_at s.place k cs) refl
    where
      k : Kind
      k = kind.TsEnumDecl d c

      by : (o : Option Part) → part_at s.place k cs ≡ o → done_by enums s span k (map stripped cs) (map (map stripped) (lists k cs)) (part_form o) ≡ map stripped (done_by enums s span k cs (lists k cs) (part_form o))
      by None is = one-same k cs refl have (λ e. no (enum-kind e))
        where
          enum-kind : k ≡ kind.AssignPatProp → false ≡ true
          enum-kind e = cc
      by (Some part) is =
          ap (part_statements enums span part s.around) (second-same (lists k cs))
          ∙ sym (plain-part enums span part s.around (second (lists k cs)) (part-plain s.place c _ part is) inside (lines-of d c cs part have is))

  member-alike : (cs : List Node) → HaveShapes (one sort.TsEnumMemberId ∷ maybe sort.Expr ∷ []) cs → MissingAlike (second (lists kind.TsEnumMember cs))
  unfolding place_in
  member-alike [] h = absurd h
  member-alike (a ∷ []) h = absurd h.1
  member-alike (a ∷ b ∷ cs) h =
      maybe-alike enums unmarked-names b (seat_at enums s kind.TsEnumMember (a ∷ b ∷ cs) 1) h.1.0 (ap (λ (z : Seat). z.place) (seat-is kind.TsEnumMember (a ∷ b ∷ cs) 1))

  member-plain : (unwritten : Bool) (of : Option Ident) (text : List ℕ) (init : Node) → PlainName of → MissingAlike init → member_in enums unwritten of span text (stripped init) ≡ map stripped (member_in enums unwritten of span text init)
  member-plain unwritten (Some of) text init h alike = sym (plain-member_by unwritten of span text (known_value enums of text) init h alike)
  member-plain unwritten None text init h alike = refl

  member-same : (cs : List Node) → HaveShapes (child_shapes kind.TsEnumMember t (length cs)) cs → Same kind.TsEnumMember cs
  unfolding plain_kind plain_children form_of
  member-same cs have = by s.place
    where
      k : Kind
      k = kind.TsEnumMember

      by : (p : Place) → done_by enums s span k (map stripped cs) (map (map stripped) (lists k cs)) (member_form p) ≡ map stripped (done_by enums s span k cs (lists k cs) (member_form p))
      by (place.Member unwritten) =
          ap₂ (λ at text. member_in enums unwritten s.around.name at text (second (map (map stripped) (lists k cs)))) (span-roll span k (map stripped cs)) (member-kept span cs have)
          ∙ ap (member_in enums unwritten s.around.name span (member_name (node_of span k cs))) (second-same (lists k cs))
          ∙ member-plain unwritten s.around.name (member_name (node_of span k cs)) (second (lists k cs)) inside (member-alike cs have)
          ∙ ap (λ at. map stripped (member_in enums unwritten s.around.name at (member_name (node_of span k cs)) (second (lists k cs)))) (sym (span-roll span k cs))
      by _ = one-same k cs refl have (λ e. no (member-kind e))
        where
          member-kind : kind.TsEnumMember ≡ kind.AssignPatProp → false ≡ true
          member-kind e = cc

  export-same : (cs : List Node) → HaveShapes (child_shapes kind.ExportDecl t (length cs)) cs → Same kind.ExportDecl cs
  unfolding plain_kind plain_children form_of
  export-same cs have =
      ap (λ b. done_by enums s span k (map stripped cs) (map (map stripped) (lists k cs)) (cond (is_item s.place && b) form.Export form.One)) (enum-first cs have)
      ∙ by (is_item s.place && is_enum_first cs)
    where
      k : Kind
      k = kind.ExportDecl

      export-kind : k ≡ kind.AssignPatProp → false ≡ true
      export-kind e = cc

      by : (b : Bool) → done_by enums s span k (map stripped cs) (map (map stripped) (lists k cs)) (cond b form.Export form.One) ≡ map stripped (done_by enums s span k cs (lists k cs) (cond b form.Export form.One))
      by true = first-same (lists k cs)
      by false = one-same k cs refl have (λ e. no (export-kind e))

  done-same : (k : Kind) (cs : List Node) → acts k ≡ true → HaveShapes (child_shapes k t (length cs)) cs → Same k cs
  unfolding plain_kind plain_children form_of
  done-same (kind.Ident text ctxt optional) cs a have = one-same (kind.Ident text ctxt optional) cs refl have (λ e. no (by e))
    where
      by : kind.Ident text ctxt optional ≡ kind.AssignPatProp → false ≡ true
      by e = cc
  done-same kind.BindingIdent cs a have = one-same kind.BindingIdent cs refl have (λ e. no (by e))
    where
      by : kind.BindingIdent ≡ kind.AssignPatProp → false ≡ true
      by e = cc
  done-same kind.AssignPatProp cs a have = one-same kind.AssignPatProp cs refl have (λ e. default-alike cs have)
  done-same kind.MemberExpr cs a have = one-same kind.MemberExpr cs refl have (λ e. no (by e))
    where
      by : kind.MemberExpr ≡ kind.AssignPatProp → false ≡ true
      by e = cc
  done-same (kind.TsEnumDecl d c) cs a have = enum-same d c cs have
  done-same kind.TsEnumMember cs a have = member-same cs have
  done-same kind.ExportDecl cs a have = export-same cs have
  done-same _ cs a have = no a

  pub acting : (k : Kind) (cs : List Node) (plains : List (List Node)) → acts k ≡ true → HasShape t (node_of span k cs) → (changes_children k ≡ false → plains ≡ map (map stripped) (lists k cs))
      → (writing enums).here s span (plain_kind k) (plain_children k (map stripped cs)) plains ≡ map stripped ((writing enums).here s span k cs (lists k cs))
  acting k cs plains a has is =
      let have = ((node_has_shape span k cs t).0 has).1 in
      let unchanged = acts-changes k a in
      ap₂ (λ ys ps. (writing enums).here s span (plain_kind k) ys ps) (children-unchanged k (map stripped cs) unchanged) (is unchanged)
      ∙ here-done enums s span (plain_kind k) (map stripped cs) (map (map stripped) (lists k cs)) w
      ∙ ap (λ b. cond b (node_of span (plain_kind k) (map stripped cs) ∷ []) (done enums s span (plain_kind k) (map stripped cs) (map (map stripped) (lists k cs)))) (leaves-same s k)
      ∙ by (leaves s k) have
      ∙ ap (map stripped) (sym (here-done enums s span k cs (lists k cs) w))
    where
      by : (b : Bool) → HaveShapes (child_shapes k t (length cs)) cs
          → cond b (node_of span (plain_kind k) (map stripped cs) ∷ []) (done enums s span (plain_kind k) (map stripped cs) (map (map stripped) (lists k cs)))
          ≡ map stripped (cond b (node_of span k cs ∷ []) (done enums s span k cs (lists k cs)))
      by true have = ap (λ z. z ∷ []) (sym (acts-out span k cs a))
      by false have = done-same k cs a have

-- ---- no empty statement is made

abbrev is_export_kind : Kind → Bool
is_export_kind kind.ExportDecl = true
is_export_kind _ = false

full-one : (span : Span) (k : Kind) (cs : List Node) → not (is_empty_stmt k) ≡ true → list_all is_full (node_of span k cs ∷ []) ≡ true
full-one span k cs h = ap (λ b. b && true) (full-roll span k cs ∙ h)

full-cond : (b : Bool) (xs ys : List Node) → list_all is_full xs ≡ true → list_all is_full ys ≡ true → list_all is_full (cond b xs ys) ≡ true
full-cond true xs ys h g = h
full-cond false xs ys h g = g

full-either : (b : Bool) (x y : Node) → is_full x ≡ true → is_full y ≡ true → is_full (cond b x y) ≡ true
full-either true x y h g = h
full-either false x y h g = g

full-declarations : (part : Part) (around : Around) → list_all is_full (declarations part around) ≡ true
full-declarations part around =
    full-cond (has_id part.name around.before) [] (declaration part around ∷ []) refl
    (ap (λ b. b && true) (full-either (is_exported_here part around) _ _ (full-roll part.name.span kind.ExportDecl _) (full-roll part.name.span (kind.VarDecl _ false) _)))

full-calls : (enums : KnownEnums) (span : Span) (part : Part) (around : Around) (list : Node) → list_all is_full (calls enums span part around list) ≡ true
full-calls enums span part around list =
    full-cond (skips enums part && is_nil (out-Node list).children) [] _ refl (full-one span kind.ExprStmt _ refl)

full-part : (enums : KnownEnums) (span : Span) (part : Part) (around : Around) (list : Node) → list_all is_full (part_statements enums span part around list) ≡ true
full-part enums span part around list =
    list_all-append is_full (declarations part around) (calls enums span part around list)
    ∙ ap₂ (λ a b. a && b) (full-declarations part around) (full-calls enums span part around list)

lines-full : (ns : List Node) → list_all is_line ns ≡ true → list_all is_full ns ≡ true
lines-full [] h = refl
lines-full (n ∷ ns) h = let parts = both (is_line n) (list_all is_line ns) h in ap₂ (λ a b. a && b) (by (out-Node n).kind parts.0) (lines-full ns parts.1)
  where
    by : (k : Kind) → is_line_kind k ≡ true → not (is_empty_stmt k) ≡ true
    by kind.EmptyStmt h = no h
    by _ h = refl

free-full : (k : Kind) → is_free k ≡ true → not (is_empty_stmt k) ≡ true
free-full kind.EmptyStmt h = no h
free-full _ h = refl

full-answered : (o : Option Answer) (span : Span) (k : Kind) (cs : List Node) (l : Kind) → FreeAnswer l o → not (is_empty_stmt k) ≡ true → list_all is_full (answered o span k cs ∷ []) ≡ true
full-answered None span k cs l f h = full-one span k cs h
full-answered (Some (Instead e)) span k cs l f h = ap (λ b. b && true) (free-full (out-Node e).kind f.free)
full-answered (Some (Pattern key e)) span k cs l f h = full-one span kind.KeyValuePatProp _ refl

module _ (enums : KnownEnums) (unmarked-names : NamesAreUnmarked enums) (s : Seat) (span : Span) where
  full-form : (k : Kind) (cs : List Node) (lists : List (List Node)) (f : Form) → not (is_empty_stmt k) ≡ true → (f ≡ form.Wrapped → false ≡ true) → (f ≡ form.Export → list_all is_full (first_list lists) ≡ true)
      → list_all is_full (done_by enums s span k cs lists f) ≡ true
  full-form k cs lists form.Wrapped h wraps first = no (wraps refl)
  full-form k cs lists (form.Part part) h wraps first = full-part enums span part s.around (second lists)
  full-form k cs lists form.Export h wraps first = first refl
  full-form k cs lists (form.Member unwritten) h wraps first =
      lines-full _ (member-lines enums unmarked-names unwritten s.around.name (out-Node (node_of span k cs)).span (member_name (node_of span k cs)) (second lists))
  full-form k cs lists form.One h wraps first = full-answered (answer_by enums s.place span k cs) span k (map only lists) k (answer-free enums unmarked-names s.place span k cs) h

  acts-full : (k : Kind) → acts k ≡ true → not (is_empty_stmt k) ≡ true
  acts-full kind.EmptyStmt a = no a
  acts-full _ a = refl

  plain-acts : (k : Kind) → acts k ≡ true → acts (plain_kind k) ≡ true
  plain-acts k a = (kinds-same k).0 ∙ a

  -- a list of types round nodes comes of those alone
  not-wrapped : (k : Kind) → acts k ≡ true → (ys : List Node) → form_of s.place k ys ≡ form.Wrapped → false ≡ true
  not-wrapped k a ys is = sym (acts-usual k a).2 ∙ wrapped-kind s.place k ys is

  -- no export
  other-kind : (k : Kind) → is_export_kind k ≡ false → k ≡ kind.ExportDecl → false ≡ true
  other-kind k h e = sym h ∙ ap is_export_kind e

  decl-full : (k : Kind) → is_decl k ≡ true → not (is_empty_stmt k) ≡ true
  decl-full kind.EmptyStmt h = no h
  decl-full _ h = refl

  module _ {S : Type 0} (r : Rewriting S) (seat : ℕ → S) where
    -- the declaration behind `export`
    first-full : (cs : List Node) → HaveShapes (one sort.Decl ∷ []) cs → ((i : ℕ) (c : Node) → slice_get cs i ≡ Some c → StaysFull r c)
        → list_all is_full (first_list (children (of_all r) seat 0 (map stripped cs))) ≡ true
    first-full [] h each = refl
    first-full (c ∷ cs) h each = each 0 c refl (one sort.Decl) h.0 (decl-full (out-Node c).kind (shape-out c (one sort.Decl) h.0).0) (seat 0)

    export-full : (t : Shape) (k : Kind) (cs : List Node) → acts k ≡ true → HaveShapes (child_shapes k t (length cs)) cs → ((i : ℕ) (c : Node) → slice_get cs i ≡ Some c → StaysFull r c)
        → form_of s.place (plain_kind k) (plain_children k (map stripped cs)) ≡ form.Export
        → list_all is_full (first_list (children (of_all r) seat 0 (plain_children k (map stripped cs)))) ≡ true
    unfolding plain_kind plain_children
    export-full t kind.ExportDecl cs a have each is = first-full cs have each
    export-full t (kind.Ident text ctxt optional) cs a have each is = no (other-kind (kind.Ident text ctxt false) refl (export-kind s.place (kind.Ident text ctxt false) (map stripped cs) is))
    export-full t kind.BindingIdent cs a have each is = no (other-kind kind.BindingIdent refl (export-kind s.place kind.BindingIdent (map stripped cs) is))
    export-full t kind.AssignPatProp cs a have each is = no (other-kind kind.AssignPatProp refl (export-kind s.place kind.AssignPatProp (map stripped cs) is))
    export-full t kind.MemberExpr cs a have each is = no (other-kind kind.MemberExpr refl (export-kind s.place kind.MemberExpr (map stripped cs) is))
    export-full t (kind.TsEnumDecl d c) cs a have each is = no (other-kind (kind.TsEnumDecl d c) refl (export-kind s.place (kind.TsEnumDecl d c) (map stripped cs) is))
    export-full t kind.TsEnumMember cs a have each is = no (other-kind kind.TsEnumMember refl (export-kind s.place kind.TsEnumMember (map stripped cs) is))
    export-full t _ cs a have each is = no a

    pub full : (t : Shape) (k : Kind) (cs : List Node) → raw s ≡ false → acts k ≡ true → HasShape t (node_of span k cs) → ((i : ℕ) (c : Node) → slice_get cs i ≡ Some c → StaysFull r c)
        → let ys = plain_children k (map stripped cs) in
        list_all is_full ((writing enums).here s span (plain_kind k) ys (children (of_all r) seat 0 ys)) ≡ true
    full t k cs w a has each =
        let ys = plain_children k (map stripped cs) in
        let lists = children (of_all r) seat 0 ys in
        ap (list_all is_full) (here-done enums s span (plain_kind k) ys lists w)
        ∙ full-cond (leaves s (plain_kind k)) (node_of span (plain_kind k) ys ∷ []) (done enums s span (plain_kind k) ys lists)
        (full-one span (plain_kind k) ys (acts-full (plain_kind k) (plain-acts k a)))
        (full-form (plain_kind k) ys lists (form_of s.place (plain_kind k) ys) (acts-full (plain_kind k) (plain-acts k a)) (not-wrapped (plain_kind k) (plain-acts k a) ys)
        (export-full t k cs a ((node_has_shape span k cs t).0 has).1 each))
