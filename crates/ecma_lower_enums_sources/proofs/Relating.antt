-- What becomes of a tree is what is written of it.
use Rattle.std.proofs.Common.{◌≡◌, ◌∙◌, ℕ, zero, suc, Bool, true, false, cond, List, [], ◌∷◌, ◌++◌, map, get_or, length, replicate, Option, Some, None, refl, sym, ap, subst, slice_get}
use Rattle.std.specs.Option.{option_and_then, option_map}
use Rattle.ecma_kind.specs.Sorts.{belongs}
use Rattle.ecma_kind.specs.declared.ident.Ident.{Ident}
use Rattle.ecma_kind.specs.declared.kind.Kind.{Kind}
use Rattle.ecma_kind.specs.declared.kind.Kind.TheVariants as kind
use Rattle.ecma_kind.specs.declared.shapes.Shape.{Shape}
use Rattle.ecma_kind.specs.declared.shapes.Sort.TheVariants as sort
use Rattle.ecma_kind.specs.declared.span.Span.{Span}
use Rattle.ecma_tree.specs.Laws.{HaveShapes}
use Rattle.ecma_tree.specs.Nodes.{absent, node_of}
use Rattle.ecma_tree.specs.Sorted.{HasShape, HasSort, allows, child_shapes, is_list, item_shape, many, maybe, one, is_absent}
use Rattle.ecma_tree.specs.declared.node.Node.{Node, Node-F, ind-Node, out-Node, roll-Node}
use Rattle.ecma_tree.specs.declared.node.Node.TheViews.{out-roll-Node, roll-out-Node}
use Rattle.ecma_rewriting.specs.Laws.{children, items, layer}
use Rattle.ecma_rewriting.specs.Rewriting.{become, becomes, only}
use Rattle.ecma_rewriting.proofs.Equations.{becomes-out, layer-other, list-kind}
use Rattle.ecma_rules.specs.Children.{kind_of}
use Rattle.ecma_strip.specs.Staying.{stays}
use Rattle.ecma_strip_fits.proofs.Lists.{have_at}
use Rattle.ecma_strip_fits.proofs.Walk.{shape_parts}
use Rattle.ecma_utils.specs.Expressions.{key_of}
use Rattle.ecma_enums.specs.Declarations.{member_name}
use Rattle.ecma_enums.specs.KnownReads.{known_read}
use Rattle.ecma_enums.specs.Values.{expression}
use Rattle.ecma_enums.specs.declared.value.TsEnumRecordValue.{TsEnumRecordValue}
use Rattle.ecma_lower_enums.specs.declared.answer.Answer.TheVariants.{Instead, Pattern}
use Rattle.ecma_lower_enums.specs.declared.form.Form.{Form}
use Rattle.ecma_lower_enums.specs.declared.form.Form.TheVariants as form
use Rattle.ecma_lower_enums.specs.declared.known.Around.{Around}
use Rattle.ecma_lower_enums.specs.declared.known.KnownEnums.{KnownEnums}
use Rattle.ecma_lower_enums.specs.declared.known.Part.{Part as EnumPart}
use Rattle.ecma_lower_enums.specs.declared.place.Place.{Place}
use Rattle.ecma_lower_enums.specs.declared.place.Place.TheVariants as place
use Rattle.ecma_lower_enums.specs.Forms.{member, member_in, member_statements, part_statements}
use Rattle.ecma_lower_enums.specs.Known.{alias_by, name_at, nowhere, part_at, skips}
use Rattle.ecma_lower_enums.specs.Places.{exported_place, is_item, is_left, is_raw, place_in}
use Rattle.ecma_rewriter.specs.Seats.{around_or}
use Rattle.ecma_lower_enums.specs.Seats.{Seat, around_at, around_in, behind, of_block, place_at, place_by, seat_at}
use Rattle.ecma_lower_enums.specs.Writing.{answer_by, answered, bound_answer, bound_name, done_by, first_list, form_of, is_enum_first, is_enum_kind, member_answer, name_answer, or_itself, part_form, pattern_answer, read, second, short_answer, short_name, target_of, with_enums_written, wrapped, writing}
use Rattle.ecma_lower_enums.proofs.ByForm.{export-kind, is_single, single}
use Rattle.ecma_lower_enums_sources.specs.Throughout.{Each, Throughout}
use Rattle.ecma_lower_enums_sources.proofs.Names.{IsNamed, first-named}
use Rattle.ecma_lower_enums_sources.proofs.Relation.{IfN, Items, Ones, Part, Said, Stands, children_of, is_members, is_name, is_part, is_read, is_target, suits}
use Rattle.ecma_lower_enums_sources.proofs.Relation as relation
use Rattle.ecma_lower_enums_sources.proofs.Forming.{IsMember, IsPart, enum-shapes, goes-calm, left-calm, single-calm, enum-spreads, export-enum, export-outer, first-is-enum, is-member, is-part, left-single, one-child, two-children}
use Rattle.ecma_lower_enums_sources.proofs.Suiting.{belongs-by, child-single, child-suits, items-suit, list-single, no, sort-suits}
use Rattle.ecma_lower_enums_sources.proofs.Trees.{below, first-of, here, others-of}

-- ---- the nodes of a tree

module _ (R : Node → Type 0) (step : (n : Node) → ((i : ℕ) (c : Node) → slice_get (children_of n) i ≡ Some c → R c) → R n) where
  each : (es : List ((n : Node) × R n)) (i : ℕ) (c : Node) → slice_get (map (λ e. e.0) es) i ≡ Some c → R c
  each [] i c at = cc
  each (e ∷ es) zero c at = let same : e.0 ≡ c = cc in subst R same e.1
  each (e ∷ es) (suc i) c at = each es i c at

  pub by-children : (n : Node) → R n
  by-children = ind-Node R (λ x y is. step (roll-Node x) (λ i c at.
      each y.children i c (ap (λ (z : Node-F Node). slice_get z.children i) is ∙ (sym (ap (λ (z : Node-F Node). slice_get z.children i) (out-roll-Node x)) ∙ at))))

made-kind : (span : Span) (k : Kind) (cs : List Node) → kind_of (node_of span k cs) ≡ k
made-kind span k cs = ap (λ (z : Node-F Node). z.kind) (out-roll-Node (record { span = span; kind = k; children = cs }))

made-span : (span : Span) (k : Kind) (cs : List Node) → (out-Node (node_of span k cs)).span ≡ span
made-span span k cs = ap (λ (z : Node-F Node). z.span) (out-roll-Node (record { span = span; kind = k; children = cs }))

pub made-children : (span : Span) (k : Kind) (cs : List Node) → children_of (node_of span k cs) ≡ cs
made-children span k cs = ap (λ (z : Node-F Node). z.children) (out-roll-Node (record { span = span; kind = k; children = cs }))

each-at : (Q : Node → Type 0) (cs : List Node) → Each Q cs → (i : ℕ) (c : Node) → slice_get cs i ≡ Some c → Throughout Q c
each-at Q [] h i c at = cc
each-at Q (d ∷ cs) h zero c at = let same : d ≡ c = cc in subst (Throughout Q) same (first-of Q h)
each-at Q (d ∷ cs) h (suc i) c at = each-at Q cs (others-of Q h) i c at

-- where a node stands
abbrev seat : Place → Around → Seat
seat p around = record { place = p; around = around }

raw-left : (p : Place) (k : Kind) → is_left p k ≡ false → is_raw p ≡ false
raw-left place.Raw k h = no (sym h)
raw-left (place.Item at_top exported) k h = refl
raw-left (place.Member skips) k h = refl
raw-left _ k h = refl

enum-is-part : (k : Kind) → is_enum_kind k ≡ true → is_part k ≡ true
enum-is-part (kind.TsEnumDecl declare is_const) h = refl
enum-is-part _ h = no h

member-place : (writes : Bool) (p : Place) (k : Kind) → k ≡ kind.TsEnumMember → place_in writes p k 1 ≡ place.Read
unfolding place_in
member-place writes p k e = ap (λ z. place_in writes p z 1) e

member-no-part : (p : Place) (k : Kind) (cs : List Node) → k ≡ kind.TsEnumMember → part_at p k cs ≡ None
member-no-part p k cs e = ap (λ z. part_at p z cs) e

export-seat : (enums : KnownEnums) (p : Place) (around : Around) (cs : List Node) → is_raw p ≡ false → seat_at enums (seat p around) kind.ExportDecl cs 0 ≡ seat (exported_place p) around
unfolding place_in around_in
export-seat enums p around cs raw = ap (λ b. cond b (seat p around) (record { place = exported_place p; around = around })) raw

module _ (enums : KnownEnums) (N : Ident → Type 0) (K : List ℕ → Type 0) (Q : Node → Type 0) where
  abbrev O : Place → Shape → Node → Node → Type 0
  O = Stands enums N K

  abbrev If : Option Ident → Type 0
  If = IfN enums N K

  abbrev pub IsKeyed : Span → Kind → Type 0
  IsKeyed span (kind.Ident sym ctxt optional) = K sym
  IsKeyed span _ = Unit

  -- of the identifiers of a tree, and of the names of its enums and namespaces
  pub record Facts : Type 0 where
    pub idents : (n : Node) → Q n → IsKeyed (out-Node n).span (kind_of n)
    pub parts : (n : Node) → Q n → is_part (kind_of n) ≡ true → If (name_at (children_of n))
    pub aliases : (sym : List ℕ) (ctxt : ℕ) → If (alias_by sym ctxt enums.names)

  abbrev Single : Place → Node → Type 0
  Single p n = is_single (form_of p (kind_of n) (children_of n)) ≡ true

  pub data Outcome : Place → Shape → Node → List Node → Type 0 where
    single-out : {p : Place} {t : Shape} {n d : Node} → Single p n → O p t n d → Outcome p t n (d ∷ [])
    part-out : {p : Place} {t : Shape} {n : Node} {l : List Node} → is_single (form_of p (kind_of n) (children_of n)) ≡ false → Part enums N K p t n l → Outcome p t n l

  only-of : {p : Place} {t : Shape} {n : Node} {l : List Node} → Outcome p t n l → Single p n → O p t n (only l)
  only-of (single-out f o) s = o
  only-of (part-out f q) s = no (sym f ∙ s)

  alone-of : {p : Place} {t : Shape} {n : Node} {l : List Node} → Outcome p t n l → Single p n → l ≡ only l ∷ []
  alone-of (single-out f o) s = refl
  alone-of (part-out f q) s = no (sym f ∙ s)

  abbrev Written : Node → Type 0
  Written n = Throughout Q n → (p : Place) (around : Around) (t : Shape) → If around.name → HasShape t n → suits p t ≡ true → Outcome p t n (becomes (writing enums) (seat p around) n)

  -- ---- what stands for a node

  said-by : (e : Node) (o : Option TsEnumRecordValue) → Said enums N K e → Said enums N K (or_itself e (option_and_then expression o))
  said-by e None h = h
  said-by e (Some v) h = by (expression v) refl
    where
      by : (x : Option Node) → expression v ≡ x → Said enums N K (or_itself e x)
      by None is = h
      by (Some d) is = relation.value v is

  said-read : (of : Ident) (sym : List ℕ) → N of → K sym → Said enums N K (read enums (member of sym))
  said-read of sym h g = said-by (member of sym) (known_read enums.may_change enums.members (member of sym)) (relation.named of sym h g)

  name-related : (p : Place) (t : Shape) (n : Node) (span : Span) (sym : List ℕ) (ctxt : ℕ) (optional : Bool) (ds : List Node) (o : Option Ident) → HasShape t n → suits p t ≡ true → kind_of n ≡ kind.Ident sym ctxt optional
      → K sym → If o → O p t n (node_of span (kind.Ident sym ctxt optional) ds) → O p t n (answered (name_answer enums p span sym o) span (kind.Ident sym ctxt optional) ds)
  name-related place.Read t n span sym ctxt optional ds (Some of) has suit e key h base = relation.read has suit (ap is_read e) (said-read of sym h key)
  name-related place.Target t n span sym ctxt optional ds (Some of) has suit e key h base = relation.target of sym has suit (ap is_target e) h key
  name-related place.Property t n span sym ctxt optional ds (Some of) has suit e key h base = relation.short span sym has suit (ap is_name e) key (said-read of sym h key)
  name-related _ t n span sym ctxt optional ds o has suit e key h base = base

  member-related : (p : Place) (t : Shape) (n : Node) (span : Span) (cs ds : List Node) → HasShape t n → suits p t ≡ true → kind_of n ≡ kind.MemberExpr
      → O p t n (node_of span kind.MemberExpr ds) → O p t n (answered (member_answer enums p (node_of span kind.MemberExpr cs)) span kind.MemberExpr ds)
  member-related place.Read t n span cs ds has suit e base = by (known_read enums.may_change enums.members (node_of span kind.MemberExpr cs))
    where
      by-expression : (v : TsEnumRecordValue) (x : Option Node) → expression v ≡ x → O place.Read t n (answered (option_map Instead x) span kind.MemberExpr ds)
      by-expression v None is = base
      by-expression v (Some d) is = relation.read has suit (ap is_read e) (relation.value v is)

      by : (o : Option TsEnumRecordValue) → O place.Read t n (answered (option_map Instead (option_and_then expression o)) span kind.MemberExpr ds)
      by None = base
      by (Some v) = by-expression v (expression v) refl
  member-related _ t n span cs ds has suit e base = base

  part-none : (p : Place) (k : Kind) (cs : List Node) → is_single (form_of p k cs) ≡ true → part_at p k cs ≡ None
  unfolding form_of
  part-none p (kind.TsEnumDecl declare is_const) cs f = by (part_at p (kind.TsEnumDecl declare is_const) cs) f
    where
      by : (o : Option EnumPart) → is_single (part_form o) ≡ true → o ≡ None
      by None f = refl
      by (Some part) f = no f
  part-none p _ cs f = refl

  second-related : (f : ℕ → Place) (t u : Shape) (cs ds : List Node) → Ones enums N K f (t ∷ u ∷ []) cs ds → HaveShapes (t ∷ u ∷ []) cs → (x : Node) × (slice_get cs 1 ≡ Some x) × O (f 1) u x (get_or ds 1 absent)
  second-related f t u [] ds r have = absurd have
  second-related f t u (c ∷ []) ds r have = absurd have.1
  second-related f t u (c ∷ x ∷ cs) ds (relation.more a (relation.more b h)) have = (x, refl, b)

  module _ (facts : Facts) where
    -- ---- children

    -- what the children become, each in its seat
    shifted : (g : ℕ → Seat) (i : ℕ) (cs : List Node) → children (writing enums) g (suc i) cs ≡ children (writing enums) (λ j. g (suc j)) i cs
    shifted g i [] = refl
    shifted g i (c ∷ cs) = ap (λ z. becomes (writing enums) (g (suc i)) c ∷ z) (shifted g (suc i) cs)

    ones-related : (f : ℕ → Place) (inside : Around) (g : ℕ → Seat) (ts : List Shape) (cs : List Node) → ((i : ℕ) → seat (f i) inside ≡ g i) → If inside.name → HaveShapes ts cs
        → ((i : ℕ) (u : Shape) → slice_get ts i ≡ Some u → suits (f i) u ≡ true) → ((i : ℕ) (c : Node) → slice_get cs i ≡ Some c → Single (f i) c)
        → ((i : ℕ) (c : Node) → slice_get cs i ≡ Some c → Written c) → Each Q cs → Ones enums N K f ts cs (map only (children (writing enums) g 0 cs))
    ones-related f inside g ts [] at named have suit single rel q = relation.none
    ones-related f inside g [] (c ∷ cs) at named have suit single rel q = absurd have
    ones-related f inside g (u ∷ us) (c ∷ cs) at named have suit single rel q =
        relation.more (subst (λ z. O (f 0) u c (only (becomes (writing enums) z c))) (at 0) (only-of (rel 0 c refl (first-of Q q) (f 0) inside u named have.0 (suit 0 u refl)) (single 0 c refl)))
        (subst (Ones enums N K (λ i. f (suc i)) us cs) (ap (map only) (sym (shifted g 0 cs)))
        (ones-related (λ i. f (suc i)) inside (λ i. g (suc i)) us cs (λ i. at (suc i)) named have.1 (λ i v get. suit (suc i) v get) (λ i d get. single (suc i) d get) (λ i d get. rel (suc i) d get) (others-of Q q)))

    -- ---- names around

    block-named : (p : Place) (o : Option Ident) → If o → If (of_block p o)
    block-named place.Block o h = h
    block-named _ o h = tt

    abbrev IfAround : Option Around → Type 0
    IfAround None = Unit
    IfAround (Some around) = If around.name

    inside-named : (p : Place) (o : Option Ident) (k : Kind) (cs : List Node) → If o → (is_part k ≡ true → If (name_at cs)) → IfAround (around_in p o k cs)
    unfolding around_in
    inside-named p o kind.TsModuleBlock cs h g = block-named p o h
    inside-named p o (kind.TsModuleDecl declare global) cs h g = g refl
    inside-named p o (kind.TsNamespaceDecl declare global) cs h g = g refl
    inside-named p o (kind.TsEnumDecl declare is_const) cs h g = g refl
    inside-named p o _ cs h g = tt

    or-named : (around : Around) (o : Option Around) → If around.name → IfAround o → If (around_or around o).name
    or-named around None h g = h
    or-named around (Some inside) h g = g

    -- ---- what stands for a node

    bound-keyed : (cs : List Node) → Each Q cs → IsNamed IsKeyed (bound_name cs)
    bound-keyed cs h = first-named IsKeyed Q (λ n q. facts.idents n q) (λ span sym ctxt optional k. k) cs h

    bound-related : (p : Place) (t : Shape) (n : Node) (span : Span) (cs ds : List Node) → HasShape t n → suits p t ≡ true → kind_of n ≡ kind.BindingIdent → Each Q cs
        → O p t n (node_of span kind.BindingIdent ds) → O p t n (answered (bound_answer enums p cs) span kind.BindingIdent ds)
    bound-related place.Target t n span cs ds has suit e q base = by (bound_name cs) (bound-keyed cs q)
      where
        by-alias : (name : Ident) (o : Option Ident) → K name.sym → If o → O place.Target t n (answered (option_map (λ of. Instead (member of name.sym)) o) span kind.BindingIdent ds)
        by-alias name None key h = base
        by-alias name (Some of) key h = relation.target of name.sym has suit (ap is_target e) h key

        by : (o : Option Ident) → IsNamed IsKeyed o → O place.Target t n (answered (option_and_then (target_of enums) o) span kind.BindingIdent ds)
        by None key = base
        by (Some name) key = by-alias name (alias_by name.sym name.ctxt enums.names) key (facts.aliases name.sym name.ctxt)
    bound-related _ t n span cs ds has suit e q base = base

    short-keyed : (cs : List Node) → Each Q cs → IsNamed IsKeyed (short_name cs)
    short-keyed [] h = tt
    short-keyed (c ∷ cs) h = bound-keyed (children_of c) (below Q (first-of Q h))

    short-related : (p : Place) (t : Shape) (n : Node) (span : Span) (cs ds : List Node) → HasShape t n → suits p t ≡ true → kind_of n ≡ kind.AssignPatProp → children_of n ≡ cs → Each Q cs
        → HaveShapes (one sort.BindingIdent ∷ maybe sort.Expr ∷ []) cs → Ones enums N K (place_in enums.writes p kind.AssignPatProp) (one sort.BindingIdent ∷ maybe sort.Expr ∷ []) cs ds
        → O p t n (node_of span kind.AssignPatProp ds) → O p t n (answered (short_answer enums p cs) span kind.AssignPatProp ds)
    unfolding place_in
    short-related place.Target t n span cs ds has suit e is q have ones base = by (short_name cs) (short-keyed cs q)
      where
        value-related : (x : Node) × (slice_get cs 1 ≡ Some x) × O place.Read (maybe sort.Expr) x (get_or ds 1 absent)
        value-related = second-related (place_in enums.writes place.Target kind.AssignPatProp) (one sort.BindingIdent) (maybe sort.Expr) cs ds ones have

        by-alias : (name : Ident) (o : Option Ident) → K name.sym → If o → O place.Target t n (answered (option_map (λ of. Pattern (key_of name.span name.sym) (member of name.sym)) o) span kind.AssignPatProp ds)
        by-alias name None key h = base
        by-alias name (Some of) key h =
            relation.patterned span name.span of name.sym has suit e (ap (λ (z : List Node). slice_get z 1) is ∙ value-related.1) value-related.2 h key

        by : (o : Option Ident) → IsNamed IsKeyed o → O place.Target t n (answered (option_and_then (pattern_answer enums) o) span kind.AssignPatProp ds)
        by None key = base
        by (Some name) key = by-alias name (alias_by name.sym name.ctxt enums.names) key (facts.aliases name.sym name.ctxt)
    short-related _ t n span cs ds has suit e is q have ones base = base

    -- by its kind
    answer-related : (p : Place) (t : Shape) (n : Node) (span : Span) (k : Kind) (cs ds : List Node) → HasShape t n → suits p t ≡ true → kind_of n ≡ k → children_of n ≡ cs → Q n → Each Q cs
        → HaveShapes (child_shapes k t (length cs)) cs → Ones enums N K (place_in enums.writes p k) (child_shapes k t (length cs)) cs ds
        → O p t n (node_of span k ds) → O p t n (answered (answer_by enums p span k cs) span k ds)
    unfolding answer_by
    answer-related p t n span (kind.Ident sym ctxt optional) cs ds has suit e is here q have ones base =
        name-related p t n span sym ctxt optional ds (alias_by sym ctxt enums.names) has suit e (subst (IsKeyed (out-Node n).span) e (facts.idents n here)) (facts.aliases sym ctxt) base
    answer-related p t n span kind.BindingIdent cs ds has suit e is here q have ones base = bound-related p t n span cs ds has suit e q base
    answer-related p t n span kind.AssignPatProp cs ds has suit e is here q have ones base = short-related p t n span cs ds has suit e is q have ones base
    answer-related p t n span kind.MemberExpr cs ds has suit e is here q have ones base = member-related p t n span cs ds has suit e base
    answer-related p t n span _ cs ds has suit e is here q have ones base = base

    -- ---- a node

    module _ (n : Node) (rel : (i : ℕ) (c : Node) → slice_get (children_of n) i ≡ Some c → Written c) (q : Throughout Q n) (p : Place) (around : Around) (t : Shape) (is_named : If around.name) (has : HasShape t n)
        (suit : suits p t ≡ true) where
      abbrev k : Kind
      k = kind_of n

      abbrev cs : List Node
      cs = children_of n

      abbrev span : Span
      span = (out-Node n).span

      abbrev here-seat : Seat
      here-seat = seat p around

      abbrev inside : Around
      inside = around_at here-seat k cs

      abbrev seats : ℕ → Seat
      seats = λ i. seat_at enums here-seat k cs i

      -- what its children become
      abbrev lists : List (List Node)
      lists = children (writing enums) seats 0 cs

      abbrev over : List Node
      over = map only lists

      shapes : (allows t k ≡ true) × HaveShapes (child_shapes k t (length cs)) cs
      shapes = shape_parts n t has

      inner-named : If inside.name
      inner-named = or-named around (around_in p around.name k cs) is_named (inside-named p around.name k cs is_named (facts.parts n (here Q q)))

      -- where something is done
      seat-of : is_raw p ≡ false → (o : Option EnumPart) → part_at p k cs ≡ o → (i : ℕ) → seat (place_by enums p k i o) inside ≡ seats i
      seat-of raw o is i =
          ap (λ z. seat (place_by enums p k i z) inside) (sym is) ∙ ap (λ b. cond b here-seat (record { place = place_at enums p k cs i; around = inside })) (sym raw)

      children-related : is_raw p ≡ false → is_list k ≡ false → Single p n → part_at p k cs ≡ None → Ones enums N K (place_in enums.writes p k) (child_shapes k t (length cs)) cs over
      children-related raw l f none =
          ones-related (place_in enums.writes p k) inside seats (child_shapes k t (length cs)) cs (seat-of raw None none) inner-named shapes.1
          (λ i u at. child-suits enums.writes p t k (length cs) i u l suit shapes.0 at) (λ i c at. child-single enums.writes p t k cs l suit shapes.0 shapes.1 f i c at) rel (below Q q)

      kept-related : is_raw p ≡ false → is_list k ≡ false → Single p n → part_at p k cs ≡ None → O p t n (node_of span k over)
      kept-related raw l f none =
          relation.kept has (single-calm p t k cs l suit shapes.0 f) l (made-kind span k over) (made-span span k over)
          (subst (Ones enums N K (place_in enums.writes p k) (child_shapes k t (length cs)) cs) (sym (made-children span k over)) (children-related raw l f none))

      one-related : is_raw p ≡ false → is_list k ≡ false → Single p n → O p t n (answered (answer_by enums p span k cs) span k over)
      one-related raw l f =
          let none = part-none p k cs f in
          answer-related p t n span k cs over has suit refl refl (here Q q) (below Q q) shapes.1 (children-related raw l f none) (kept-related raw l f none)

      -- ---- what it becomes

      abbrev result : List Node
      result = becomes (writing enums) here-seat n

      result-is : is_list k ≡ false → result ≡ cond (is_left p k) (node_of span k cs ∷ []) (done_by enums here-seat span k cs lists (form_of p k cs))
      result-is l = becomes-out (writing enums) here-seat n ∙ layer-other (writing enums) here-seat span k cs l

      done-is : is_list k ≡ false → is_left p k ≡ false → (f : Form) → form_of p k cs ≡ f → result ≡ done_by enums here-seat span k cs lists f
      done-is l left f is =
          result-is l ∙ ap (λ b. cond b (node_of span k cs ∷ []) (done_by enums here-seat span k cs lists (form_of p k cs))) left ∙ ap (done_by enums here-seat span k cs lists) is

      -- as it is
      left-out : is_list k ≡ false → is_left p k ≡ true → Outcome p t n result
      left-out l h =
          let is : result ≡ n ∷ [] =
          result-is l ∙ ap (λ b. cond b (node_of span k cs ∷ []) (done_by enums here-seat span k cs lists (form_of p k cs))) h ∙ ap (λ z. z ∷ []) (roll-out-Node n) in
          subst (Outcome p t n) (sym is) (single-out (single p k cs (left-single p k h)) (relation.left has (left-calm p k h)))

      -- one
      one-out : is_list k ≡ false → is_left p k ≡ false → form_of p k cs ≡ form.One → Outcome p t n result
      one-out l left is =
          subst (Outcome p t n) (sym (done-is l left form.One is)) (single-out (ap is_single is) (one-related (raw-left p k left) l (ap is_single is)))

      -- a type round one
      first-alone : (ds : List Node) → ((i : ℕ) (c : Node) → slice_get ds i ≡ Some c → becomes (writing enums) (seats i) c ≡ only (becomes (writing enums) (seats i) c) ∷ [])
          → wrapped span k (children (writing enums) seats 0 ds) ≡ node_of span k (map only (children (writing enums) seats 0 ds)) ∷ []
      first-alone [] each = refl
      first-alone (d ∷ ds) each = ap (map (λ e. node_of span k (e ∷ map only (children (writing enums) seats 1 ds)))) (each 0 d refl)

      each-alone : is_raw p ≡ false → is_list k ≡ false → Single p n → (i : ℕ) (c : Node) → slice_get cs i ≡ Some c → becomes (writing enums) (seats i) c ≡ only (becomes (writing enums) (seats i) c) ∷ []
      each-alone raw l f i c at =
          let none = part-none p k cs f in
          let h = have_at (child_shapes k t (length cs)) cs shapes.1 i c at in
          let o = rel i c at (each-at Q cs (below Q q) i c at) (place_in enums.writes p k i) inside h.0 inner-named h.2 (child-suits enums.writes p t k (length cs) i h.0 l suit shapes.0 h.1) in
          subst (λ z. becomes (writing enums) z c ≡ only (becomes (writing enums) z c) ∷ []) (seat-of raw None none i) (alone-of o (child-single enums.writes p t k cs l suit shapes.0 shapes.1 f i c at))

      wrapped-out : is_list k ≡ false → is_left p k ≡ false → form_of p k cs ≡ form.Wrapped → Outcome p t n result
      wrapped-out l left is =
          let raw = raw-left p k left in
          let f : is_single (form_of p k cs) ≡ true = ap is_single is in
          subst (Outcome p t n) (sym (done-is l left form.Wrapped is ∙ first-alone cs (each-alone raw l f))) (single-out f (kept-related raw l f (part-none p k cs f)))

      -- the statements of a part of an enum
      enum-out : (part : EnumPart) → is_list k ≡ false → is_left p k ≡ false → form_of p k cs ≡ form.Part part → Outcome p t n result
      enum-out part l left is = subst (Outcome p t n) made (part-out (ap is_single is) found)
        where
          facts-of : IsPart p k cs part
          facts-of = is-part p k cs part is

          pair : (a : Node) × (b : Node) × (cs ≡ a ∷ b ∷ []) × HasShape (one sort.Ident) a × HasShape (many sort.TsEnumMember) b
          pair = two-children (one sort.Ident) (many sort.TsEnumMember) cs (subst (λ z. HaveShapes z cs) (enum-shapes k t (length cs) facts-of.enum) shapes.1)

          list : Node
          list = pair.1

          at : slice_get cs 1 ≡ Some list
          at = ap (λ (z : List Node). slice_get z 1) pair.2

          sk : Bool
          sk = skips enums part

          m : Node
          m = become (writing enums) (seat (place.Member sk) inside) list

          is-list : is_list (kind_of list) ≡ true
          is-list = (shape_parts list (many sort.TsEnumMember) pair.4).0

          members : O (place.Member sk) (many sort.TsEnumMember) list m
          members = only-of (rel 1 list at (each-at Q cs (below Q q) 1 list at) (place.Member sk) inside (many sort.TsEnumMember) inner-named pair.4 refl)
              (list-single enums.writes p t (place.Member sk) (kind_of list) (children_of list) is-list)

          second-is : second lists ≡ m
          second-is = ap (λ z. second (children (writing enums) seats 0 z)) pair.2 ∙ ap (λ z. become (writing enums) z list) (sym (seat-of (raw-left p k left) (Some part) facts-of.found 1))

          made : part_statements enums span part around m ≡ result
          made = sym (done-is l left (form.Part part) is ∙ ap (part_statements enums span part around) second-is)

          named-part : If (Some part.name)
          named-part = subst If facts-of.name (facts.parts n (here Q q) (enum-is-part k facts-of.enum))

          found : Part enums N K p t n (part_statements enums span part around m)
          found = subst (λ z. Part enums N K z t n (part_statements enums span part around m)) (sym facts-of.item)
              (relation.enum span part around has facts-of.enum facts-of.here named-part is_named at members)

      -- one that is exported
      export-out : is_list k ≡ false → is_left p k ≡ false → form_of p k cs ≡ form.Export → Outcome p t n result
      export-out l left is = by p refl
        where
          decl : k ≡ kind.ExportDecl
          decl = export-kind p k cs is

          first : (is_item p ≡ true) × (is_enum_first cs ≡ true)
          first = export-enum p cs (subst (λ z. form_of p z cs ≡ form.Export) decl is)

          child : (c : Node) × (cs ≡ c ∷ []) × HasShape (one sort.Decl) c
          child = one-child (one sort.Decl) cs (subst (λ z. HaveShapes (child_shapes z t (length cs)) cs) decl shapes.1)

          c : Node
          c = child.0

          at : slice_get cs 0 ≡ Some c
          at = ap (λ (z : List Node). slice_get z 0) child.1

          is-enum : is_enum_kind (kind_of c) ≡ true
          is-enum = first-is-enum cs c at first.1

          inner : (at_top : Bool) → Outcome (place.Item at_top true) (one sort.Decl) c (becomes (writing enums) (seat (place.Item at_top true) around) c)
          inner at_top = rel 0 c at (each-at Q cs (below Q q) 0 c at) (place.Item at_top true) around (one sort.Decl) is_named child.2 refl

          inner-part : (at_top : Bool) {l : List Node} → Outcome (place.Item at_top true) (one sort.Decl) c l → Part enums N K (place.Item at_top true) (one sort.Decl) c l
          inner-part at_top (single-out f o) = no (enum-spreads at_top true (kind_of c) (children_of c) (one sort.Decl) is-enum (shape_parts c (one sort.Decl) child.2).1 f)
          inner-part at_top (part-out f o) = o

          made : becomes (writing enums) (seat (exported_place p) around) c ≡ result
          made = sym (done-is l left form.Export is
              ∙ ap (λ z. first_list (children (writing enums) seats 0 z)) child.1
              ∙ ap (λ z. becomes (writing enums) (seat_at enums here-seat z cs 0) c) decl
              ∙ ap (λ z. becomes (writing enums) z c) (export-seat enums p around cs (raw-left p k left)))

          of-item : (at_top exported : Bool) → p ≡ place.Item at_top exported → exported ≡ false → Outcome p t n result
          of-item at_top exported e f =
              let here-is : exported_place p ≡ place.Item at_top true = ap exported_place e in
              let e' : p ≡ place.Item at_top false = e ∙ ap (place.Item at_top) f in
              let res = ap (λ z. becomes (writing enums) (seat z around) c) (sym here-is) ∙ made in
              part-out (ap is_single is) (subst (λ z. Part enums N K z t n result) (sym e') (subst (Part enums N K (place.Item at_top false) t n) res (relation.export has decl at (inner-part at_top (inner at_top)))))

          by : (z : Place) → p ≡ z → Outcome p t n result
          by (place.Item at_top exported) e =
              of-item at_top exported e (export-outer at_top exported t.sort (sort-suits (place.Item at_top exported) t (subst (λ z. suits z t ≡ true) e suit)) (subst (λ z. belongs t.sort z ≡ true) decl (belongs-by t k l (subst (λ z. is_absent z ≡ false) (sym decl) refl) shapes.0)))
          by place.Block e = no (sym (ap is_item e) ∙ first.0)
          by place.Read e = no (sym (ap is_item e) ∙ first.0)
          by place.Property e = no (sym (ap is_item e) ∙ first.0)
          by place.Target e = no (sym (ap is_item e) ∙ first.0)
          by place.Body e = no (sym (ap is_item e) ∙ first.0)
          by place.Other e = no (sym (ap is_item e) ∙ first.0)
          by place.Raw e = no (sym (ap is_item e) ∙ first.0)
          by (place.Member skips) e = no (sym (ap is_item e) ∙ first.0)

      -- a member
      member-out : (sk : Bool) → is_list k ≡ false → is_left p k ≡ false → form_of p k cs ≡ form.Member sk → Outcome p t n result
      member-out sk l left is = subst (Outcome p t n) made (part-out (ap is_single is) found)
        where
          facts-of : IsMember p k sk
          facts-of = is-member p k cs sk is

          pair : (a : Node) × (b : Node) × (cs ≡ a ∷ b ∷ []) × HasShape (one sort.TsEnumMemberId) a × HasShape (maybe sort.Expr) b
          pair = two-children (one sort.TsEnumMemberId) (maybe sort.Expr) cs (subst (λ z. HaveShapes (child_shapes z t (length cs)) cs) facts-of.member shapes.1)

          init : Node
          init = pair.1

          at : slice_get cs 1 ≡ Some init
          at = ap (λ (z : List Node). slice_get z 1) pair.2

          e : Node
          e = become (writing enums) (seat place.Read inside) init

          related : O place.Read (maybe sort.Expr) init e
          related = only-of (rel 1 init at (each-at Q cs (below Q q) 1 init at) place.Read inside (maybe sort.Expr) inner-named pair.4 refl) (single place.Read (kind_of init) (children_of init) refl)

          place-is : place_in enums.writes p k 1 ≡ place.Read
          place-is = member-place enums.writes p k facts-of.member

          second-is : second lists ≡ e
          second-is =
              ap (λ z. second (children (writing enums) seats 0 z)) pair.2
              ∙ ap (λ z. become (writing enums) z init) (sym (seat-of (raw-left p k left) None (member-no-part p k cs facts-of.member) 1))
              ∙ ap (λ z. become (writing enums) (seat z inside) init) place-is

          made : member_in enums sk around.name span (member_name n) e ≡ result
          made = sym (done-is l left (form.Member sk) is
              ∙ ap (λ z. member_statements enums sk around.name z (second lists)) (roll-out-Node n)
              ∙ ap (member_in enums sk around.name span (member_name n)) second-is)

          found : Part enums N K p t n (member_in enums sk around.name span (member_name n) e)
          found = subst (λ z. Part enums N K z t n (member_in enums sk around.name span (member_name n) e)) (sym facts-of.item)
              (relation.member around.name span (member_name n) has facts-of.member at related is_named)

      form-out : is_list k ≡ false → is_left p k ≡ false → (f : Form) → form_of p k cs ≡ f → Outcome p t n result
      form-out l left form.One is = one-out l left is
      form-out l left form.Wrapped is = wrapped-out l left is
      form-out l left (form.Part part) is = enum-out part l left is
      form-out l left form.Export is = export-out l left is
      form-out l left (form.Member sk) is = member-out sk l left is

      -- ---- a list

      joined : {u : Shape} {c : Node} {l cs' ds' : List Node} → Outcome p u c l → Items enums N K p u cs' ds' → Items enums N K p u (c ∷ cs') (l ++ ds')
      joined (single-out f o) r = relation.item o r
      joined (part-out f o) r = relation.part o r refl

      item-related : (b next : Bool) (u : Shape) (c : Node) (ds : List Node) (around' : Around) → stays c ≡ b → If around'.name → suits p u ≡ true → HasShape u c
          → Outcome p u c (becomes (writing enums) (seat p around') c) → ((other : Around) → If other.name → Items enums N K p u ds (items (writing enums) (seat p other) ds))
          → Items enums N K p u (c ∷ ds) (cond b (becomes (writing enums) (seat p around') c ++ items (writing enums) (cond next (record (seat p around') { around = behind around' (kind_of c) (children_of c) }) (seat p around')) ds) ((c ∷ []) ++ items (writing enums) (seat p around') ds))
      item-related true true u c ds around' e h s has' o rest = joined o (rest (behind around' (kind_of c) (children_of c)) h)
      item-related true false u c ds around' e h s has' o rest = joined o (rest around' h)
      item-related false next u c ds around' e h s has' o rest = relation.item (relation.left has' (goes-calm p u c s has' e)) (rest around' h)

      items-related : (u : Shape) (ds : List Node) (around' : Around) → If around'.name → suits p u ≡ true → HaveShapes (replicate (length ds) u) ds
          → ((i : ℕ) (c : Node) → slice_get ds i ≡ Some c → Written c) → Each Q ds → Items enums N K p u ds (items (writing enums) (seat p around') ds)
      items-related u [] around' h s have each q' = relation.empty
      items-related u (c ∷ ds) around' h s have each q' =
          item-related (stays c) (is_item p) u c ds around' refl h s have.0 (each 0 c refl (first-of Q q') p around' u h have.0 s)
          (λ other g. items-related u ds other g s have.1 (λ i d at. each (suc i) d at) (others-of Q q'))

      list-out : is_list k ≡ true → Outcome p t n result
      list-out l = subst (Outcome p t n) (sym is) (single-out (list-single enums.writes p t p k cs l) related)
        where
          ds : List Node
          ds = items (writing enums) (seat p around) cs

          is : result ≡ node_of span kind.List ds ∷ []
          is = becomes-out (writing enums) here-seat n ∙ ap (λ z. layer (writing enums) here-seat span z cs) (list-kind k l)

          have : HaveShapes (replicate (length cs) (item_shape t)) cs
          have = subst (λ z. HaveShapes (child_shapes z t (length cs)) cs) (list-kind k l) shapes.1

          related : O p t n (node_of span kind.List ds)
          related = relation.listed has (list-kind k l) (made-kind span kind.List ds) (made-span span kind.List ds)
              (subst (Items enums N K p (item_shape t) cs) (sym (made-children span kind.List ds)) (items-related (item_shape t) cs around is_named (items-suit p t suit) have rel (below Q q)))

      node-written : (l : Bool) → is_list k ≡ l → (left : Bool) → is_left p k ≡ left → Outcome p t n result
      node-written true l left h = list-out l
      node-written false l true h = left-out l h
      node-written false l false h = form-out l h (form_of p k cs) refl

    pub all-written : (n : Node) → Written n
    all-written = by-children Written (λ n rel q p around t named has suit.
        node-written n rel q p around t named has suit (is_list (kind_of n)) refl (is_left p (kind_of n)) refl)

    -- a module
    pub module-written : (tree : Node) → Throughout Q tree → HasSort sort.Module tree → O place.Other (one sort.Module) tree (with_enums_written enums tree)
    module-written tree q sorted = only-of (all-written tree q place.Other nowhere (one sort.Module) tt sorted refl) (single place.Other (kind_of tree) (children_of tree) refl)
