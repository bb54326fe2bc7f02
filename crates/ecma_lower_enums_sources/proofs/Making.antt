-- What is written for enums and for reads of their members: what holds of each node of a tree, by its kind and its span, holds of each that is written, where it holds of
-- what is made.
use Rattle.std.proofs.Common.{◌≡◌, ◌∙◌, ℕ, zero, suc, Bool, true, false, cond, ◌&&◌, List, [], ◌∷◌, ◌++◌, map, get_or, Option, Some, None, refl, sym, ap, subst}
use Rattle.std.specs.Option.{option_and_then, option_map}
use Rattle.ecma_kind.specs.declared.ident.Ident.{Ident}
use Rattle.ecma_kind.specs.declared.kind.Kind.{Kind}
use Rattle.ecma_kind.specs.declared.kind.Kind.TheVariants as kind
use Rattle.ecma_kind.specs.declared.span.Span.{Span}
use Rattle.ecma_tree.specs.Nodes.{absent, dummy_span, node_of}
use Rattle.ecma_tree.specs.Sorted.{is_absent, is_list}
use Rattle.ecma_tree.specs.declared.node.Node.{Node, Node-F, ind-Node, out-Node, roll-Node}
use Rattle.ecma_tree.specs.declared.node.Node.TheViews.{out-roll-Node}
use Rattle.ecma_rewriting.specs.Laws.{children, items, layer}
use Rattle.ecma_rewriting.specs.Rewriting.{Rewriting, becomes, only}
use Rattle.ecma_rewriting.proofs.Equations.{becomes-roll, layer-other, list-kind}
use Rattle.ecma_strip.specs.Staying.{stays}
use Rattle.ecma_utils.specs.Expressions.{key_of}
use Rattle.ecma_enums.specs.Declarations.{member_name}
use Rattle.ecma_enums.specs.KnownReads.{known_read}
use Rattle.ecma_enums.specs.Values.{expression, undefined}
use Rattle.ecma_lower_enums.specs.declared.answer.Answer.{Answer}
use Rattle.ecma_lower_enums.specs.declared.answer.Answer.TheVariants.{Instead, Pattern}
use Rattle.ecma_lower_enums.specs.declared.form.Form.{Form}
use Rattle.ecma_lower_enums.specs.declared.form.Form.TheVariants as form
use Rattle.ecma_lower_enums.specs.declared.known.Around.{Around}
use Rattle.ecma_lower_enums.specs.declared.known.KnownEnums.{KnownEnums}
use Rattle.ecma_lower_enums.specs.declared.place.Place.{Place}
use Rattle.ecma_lower_enums.specs.declared.place.Place.TheVariants as place
use Rattle.ecma_lower_enums.specs.Forms.{member}
use Rattle.ecma_lower_enums.specs.Known.{alias_by, name_at, part_by, skips}
use Rattle.ecma_lower_enums.specs.Places.{is_item, is_left, is_raw}
use Rattle.ecma_rewriter.specs.Seats.{around_or}
use Rattle.ecma_lower_enums.specs.Seats.{Seat, around_at, around_in, behind, next_seat, of_block, place_at, seat_at, whole}
use Rattle.ecma_lower_enums.specs.Writing.{answer_by, answered, bound_answer, bound_name, done_by, first_list, form_of, is_enum_first, member_answer, member_form, name_answer, or_itself, pair, part_form, pattern_answer, read, second, short_answer, short_name, target_of, value_read, with_default, with_enums_written, wrapped, writing}
use Rattle.ecma_lower_enums_sources.specs.Throughout.{Each, Throughout, more, none, throughout}
use Rattle.ecma_lower_enums_sources.proofs.Names.{AreGiven, IsName, IsNamed, alias-given, first-named, name-named}
use Rattle.ecma_lower_enums_sources.proofs.Pieces.{Pieces, absent-good, is_frame, key-good, member-good, member_in-good, over, part-good, two}
use Rattle.ecma_lower_enums_sources.proofs.Trees.{Of, alone, append, below-roll, first-of, good, here, others-of, parts-of, weaker}

module _ (P : Span → Kind → Type 0) (Q : Node → Type 0) (enums : KnownEnums) where
  abbrev pub Good : Node → Type 0
  Good = Throughout (Of P)

  abbrev pub All : List Node → Type 0
  All = Each (Of P)

  abbrev pub IfGood : Option Node → Type 0
  IfGood None = Unit
  IfGood (Some e) = Good e

  -- what is to be shown: of Q that holds of each node of a tree as it stood, and of P that is to hold of each that is written
  pub record Makes : Type 0 where
    pub given : (n : Node) → Q n → P (out-Node n).span (out-Node n).kind
    pub frame : (span : Span) (k : Kind) → is_frame k ≡ true → P span k
    pub unmarks : (span : Span) (sym : List ℕ) (ctxt : ℕ) (optional : Bool) → P span (kind.Ident sym ctxt optional) → P span (kind.Ident sym ctxt false)
    pub key : (span at : Span) (sym : List ℕ) (ctxt : ℕ) (optional : Bool) → P span (kind.Ident sym ctxt optional) → P at (kind.IdentName sym)
    pub text : (n : Node) → (out-Node n).kind ≡ kind.TsEnumMember → Q n → P dummy_span (kind.Str (member_name n) None)
    pub void : Good undefined
    pub values : (may_change : Bool) (n : Node) → IfGood (option_and_then expression (known_read may_change enums.members n))
    pub names : AreGiven P enums.names

  module _ (makes : Makes) where
    pieces : Pieces (Of P) P enums
    pieces = record {
      frame = λ span k cs f. parts-of (λ s j ds. P s j) span k cs (makes.frame span k f);
      leaf = λ span k p. parts-of (λ s j ds. P s j) span k [] p;
      key = makes.key;
      void = makes.void;
      values = makes.values;
    }

    -- ---- reads

    or_itself-good : (e : Node) (o : Option Node) → Good e → IfGood o → Good (or_itself e o)
    or_itself-good e None h g = h
    or_itself-good e (Some v) h g = g

    read-good : (e : Node) → Good e → Good (read enums e)
    read-good e h = or_itself-good e (value_read enums e) h (makes.values enums.may_change e)

    abbrev IsAnswered : Option Answer → Type 0
    IsAnswered None = Unit
    IsAnswered (Some (Instead e)) = Good e
    IsAnswered (Some (Pattern key e)) = Good key × Good e

    name-member : (of : Ident) (span : Span) (sym : List ℕ) (ctxt : ℕ) (optional : Bool) → IsName P of → P span (kind.Ident sym ctxt optional) → Good (member of sym)
    name-member of span sym ctxt optional h p = member-good (Of P) P enums pieces of sym h (makes.key span dummy_span sym ctxt optional p)

    pair-good : (span : Span) (sym : List ℕ) (e : Node) → P span (kind.IdentName sym) → Good e → Good (pair span sym e)
    pair-good span sym e k h = over (Of P) P enums pieces span kind.KeyValueProp (key_of span sym ∷ e ∷ []) refl (two (Of P) P enums pieces (key_of span sym) e (key-good (Of P) P enums pieces span sym k) h)

    name-answered : (p : Place) (span : Span) (sym : List ℕ) (ctxt : ℕ) (optional : Bool) (o : Option Ident) → P span (kind.Ident sym ctxt optional) → IsNamed P o → IsAnswered (name_answer enums p span sym o)
    name-answered place.Read span sym ctxt optional (Some of) h g = read-good (member of sym) (name-member of span sym ctxt optional g h)
    name-answered place.Target span sym ctxt optional (Some of) h g = name-member of span sym ctxt optional g h
    name-answered place.Property span sym ctxt optional (Some of) h g =
        pair-good span sym (read enums (member of sym)) (makes.key span span sym ctxt optional h) (read-good (member of sym) (name-member of span sym ctxt optional g h))
    name-answered _ span sym ctxt optional o h g = tt

    -- of the names of patterns
    target-answered : (name : Ident) → IsName P name → IsAnswered (target_of enums name)
    target-answered name h = by (alias_by name.sym name.ctxt enums.names) (alias-given P name.sym name.ctxt enums.names makes.names)
      where
        by : (o : Option Ident) → IsNamed P o → IsAnswered (option_map (λ of. Instead (member of name.sym)) o)
        by None g = tt
        by (Some of) g = name-member of name.span name.sym name.ctxt name.optional g h

    pattern-answered : (name : Ident) → IsName P name → IsAnswered (pattern_answer enums name)
    pattern-answered name h = by (alias_by name.sym name.ctxt enums.names) (alias-given P name.sym name.ctxt enums.names makes.names)
      where
        by : (o : Option Ident) → IsNamed P o → IsAnswered (option_map (λ of. Pattern (key_of name.span name.sym) (member of name.sym)) o)
        by None g = tt
        by (Some of) g = (key-good (Of P) P enums pieces name.span name.sym (makes.key name.span name.span name.sym name.ctxt name.optional h), name-member of name.span name.sym name.ctxt name.optional g h)

    bound-answered : (p : Place) (cs : List Node) → IsNamed P (bound_name cs) → IsAnswered (bound_answer enums p cs)
    bound-answered place.Target cs h = by (bound_name cs) h
      where
        by : (o : Option Ident) → IsNamed P o → IsAnswered (option_and_then (target_of enums) o)
        by None g = tt
        by (Some name) g = target-answered name g
    bound-answered _ cs h = tt

    short-answered : (p : Place) (cs : List Node) → IsNamed P (short_name cs) → IsAnswered (short_answer enums p cs)
    short-answered place.Target cs h = by (short_name cs) h
      where
        by : (o : Option Ident) → IsNamed P o → IsAnswered (option_and_then (pattern_answer enums) o)
        by None g = tt
        by (Some name) g = pattern-answered name g
    short-answered _ cs h = tt

    member-answered : (p : Place) (e : Node) → IsAnswered (member_answer enums p e)
    member-answered place.Read e = by (value_read enums e) (makes.values enums.may_change e)
      where
        by : (o : Option Node) → IfGood o → IsAnswered (option_map Instead o)
        by None g = tt
        by (Some v) g = g
    member-answered _ e = tt

    short-named : (cs : List Node) → Each Q cs → IsNamed P (short_name cs)
    short-named [] h = tt
    short-named (c ∷ cs) h = bound-of (first-of Q h)
      where
        bound-of : Throughout Q c → IsNamed P (bound_name (out-Node c).children)
        bound-of (throughout q g) = first-named P Q makes.given makes.unmarks (out-Node c).children g

    all-answered : (p : Place) (span : Span) (k : Kind) (cs : List Node) → P span k → Each Q cs → IsAnswered (answer_by enums p span k cs)
    unfolding answer_by
    all-answered p span (kind.Ident sym ctxt optional) cs h g = name-answered p span sym ctxt optional (alias_by sym ctxt enums.names) h (alias-given P sym ctxt enums.names makes.names)
    all-answered p span kind.BindingIdent cs h g = bound-answered p cs (first-named P Q makes.given makes.unmarks cs g)
    all-answered p span kind.AssignPatProp cs h g = short-answered p cs (short-named cs g)
    all-answered p span kind.MemberExpr cs h g = member-answered p (node_of span kind.MemberExpr cs)
    all-answered p span _ cs h g = tt

    -- ---- one for one

    only-good : (ns : List Node) → All ns → Good (only ns)
    only-good [] h = absent-good (Of P) P enums pieces
    only-good (n ∷ ns) h = first-of (Of P) h

    abbrev AllLists : List (List Node) → Type 0
    AllLists [] = Unit
    AllLists (l ∷ ls) = All l × AllLists ls

    ones-good : (ls : List (List Node)) → AllLists ls → All (map only ls)
    ones-good [] h = none
    ones-good (l ∷ ls) h = more (only-good l h.0) (ones-good ls h.1)

    default-good : (span : Span) (e value : Node) → Good e → Good value → Good (with_default span e value)
    default-good span e value h g = by (is_absent (out-Node value).kind)
      where
        by : (b : Bool) → Good (cond b e (node_of span kind.AssignPat (e ∷ value ∷ [])))
        by true = h
        by false = over (Of P) P enums pieces span kind.AssignPat (e ∷ value ∷ []) refl (two (Of P) P enums pieces e value h g)

    get-good : (ns : List Node) (i : ℕ) → All ns → Good (get_or ns i absent)
    get-good [] i h = absent-good (Of P) P enums pieces
    get-good (n ∷ ns) zero h = first-of (Of P) h
    get-good (n ∷ ns) (suc i) h = get-good ns i (others-of (Of P) h)

    answered-good : (o : Option Answer) (span : Span) (k : Kind) (cs : List Node) → IsAnswered o → P span k → All cs → Good (answered o span k cs)
    answered-good None span k cs a h g = good P span k cs h g
    answered-good (Some (Instead e)) span k cs a h g = a
    answered-good (Some (Pattern key e)) span k cs a h g =
        over (Of P) P enums pieces span kind.KeyValuePatProp (key ∷ with_default span e (get_or cs 1 absent) ∷ []) refl
        (two (Of P) P enums pieces key (with_default span e (get_or cs 1 absent)) a.0 (default-good span e (get_or cs 1 absent) a.1 (get-good cs 1 g)))

    -- ---- forms

    abbrev IsFormed : Kind → Form → Type 0
    IsFormed k (form.Part part) = IsName P part.name
    IsFormed k (form.Member skips) = k ≡ kind.TsEnumMember
    IsFormed k _ = Unit

    part-formed : (k : Kind) (p : Place) (is_const : Bool) (o : Option Ident) → IsNamed P o → IsFormed k (part_form (part_by p is_const o))
    part-formed k (place.Item at_top exported) is_const (Some name) h = h
    part-formed k (place.Item at_top exported) is_const None h = tt
    part-formed k _ is_const o h = tt

    export-formed : (k : Kind) (b : Bool) → IsFormed k (cond b form.Export form.One)
    export-formed k true = tt
    export-formed k false = tt

    member-formed : (p : Place) → IsFormed kind.TsEnumMember (member_form p)
    member-formed (place.Member skips) = refl
    member-formed _ = tt

    formed : (p : Place) (k : Kind) (cs : List Node) → IsNamed P (name_at cs) → IsFormed k (form_of p k cs)
    unfolding form_of
    formed p (kind.TsEnumDecl declare is_const) cs h = part-formed (kind.TsEnumDecl declare is_const) p is_const (name_at cs) h
    formed p kind.ExportDecl cs h = export-formed kind.ExportDecl (is_item p && is_enum_first cs)
    formed p kind.TsEnumMember cs h = member-formed p
    formed p _ cs h = tt

    first_list-good : (ls : List (List Node)) → AllLists ls → All (first_list ls)
    first_list-good [] h = none
    first_list-good (l ∷ ls) h = h.0

    second-good : (ls : List (List Node)) → AllLists ls → Good (second ls)
    second-good [] h = absent-good (Of P) P enums pieces
    second-good (l ∷ ls) h = only-good (first_list ls) (first_list-good ls h.1)

    each-wrapped : (span : Span) (k : Kind) → P span k → (l : List Node) (ms : List Node) → All l → All ms → All (map (λ e. node_of span k (e ∷ ms)) l)
    each-wrapped span k p [] ms h g = none
    each-wrapped span k p (e ∷ l) ms h g = more (good P span k (e ∷ ms) p (more (first-of (Of P) h) g)) (each-wrapped span k p l ms (others-of (Of P) h) g)

    wrapped-good : (span : Span) (k : Kind) → P span k → (ls : List (List Node)) → AllLists ls → All (wrapped span k ls)
    wrapped-good span k p [] h = alone (Of P) (good P span k [] p none)
    wrapped-good span k p (l ∷ ls) h = each-wrapped span k p l (map only ls) h.0 (ones-good ls h.1)

    done-good : (s : Seat) (span : Span) (k : Kind) (cs : List Node) (ls : List (List Node)) (f : Form) → IsNamed P s.around.name → Throughout Q (node_of span k cs) → P span k → IsFormed k f → AllLists ls
        → All (done_by enums s span k cs ls f)
    done-good s span k cs ls form.Wrapped named q p is h = wrapped-good span k p ls h
    done-good s span k cs ls (form.Part part) named q p is h = part-good (Of P) P enums pieces span part s.around (second ls) is named (second-good ls h)
    done-good s span k cs ls form.Export named q p is h = first_list-good ls h
    done-good s span k cs ls (form.Member skips) named q p is h =
        let m = node_of span k cs in
        let kind-is : (out-Node m).kind ≡ kind.TsEnumMember = ap (λ (z : Node-F Node). z.kind) (out-roll-Node (record { span = span; kind = k; children = cs })) ∙ is in
        member_in-good (Of P) P enums pieces skips s.around.name (out-Node m).span (member_name m) (second ls) named (makes.text m kind-is (here Q q)) (second-good ls h)
    done-good s span k cs ls form.One named q p is h =
        alone (Of P) (answered-good (answer_by enums s.place span k cs) span k (map only ls) (all-answered s.place span k cs p (below-roll Q span k cs q)) p (ones-good ls h))

    -- ---- seats

    block-named : (p : Place) (o : Option Ident) → IsNamed P o → IsNamed P (of_block p o)
    block-named place.Block o h = h
    block-named _ o h = tt

    abbrev IsAround : Option Around → Type 0
    IsAround None = Unit
    IsAround (Some around) = IsNamed P around.name

    inside-named : (p : Place) (o : Option Ident) (k : Kind) (cs : List Node) → IsNamed P o → IsNamed P (name_at cs) → IsAround (around_in p o k cs)
    unfolding around_in
    inside-named p o kind.TsModuleBlock cs h g = block-named p o h
    inside-named p o (kind.TsModuleDecl declare global) cs h g = g
    inside-named p o (kind.TsNamespaceDecl declare global) cs h g = g
    inside-named p o (kind.TsEnumDecl declare is_const) cs h g = g
    inside-named p o _ cs h g = tt

    around-named : (around : Around) (o : Option Around) → IsNamed P around.name → IsAround o → IsNamed P (around_or around o).name
    around-named around None h g = h
    around-named around (Some inside) h g = g

    seat-named : (s : Seat) (k : Kind) (cs : List Node) (i : ℕ) → IsNamed P s.around.name → Each Q cs → IsNamed P (seat_at enums s k cs i).around.name
    seat-named s k cs i h g = by (is_raw s.place)
      where
        inner : IsNamed P (around_at s k cs).name
        inner = around-named s.around (around_in s.place s.around.name k cs) h (inside-named s.place s.around.name k cs h (name-named P Q makes.given makes.unmarks cs g))

        by : (b : Bool) → IsNamed P (cond b s (record { place = place_at enums s.place k cs i; around = around_at s k cs })).around.name
        by true = h
        by false = inner

    next-named : (s : Seat) (n : Node) → IsNamed P s.around.name → IsNamed P (next_seat s n).around.name
    next-named s n h = by (is_item s.place)
      where
        by : (b : Bool) → IsNamed P (cond b (record s { around = behind s.around (out-Node n).kind (out-Node n).children }) s).around.name
        by true = h
        by false = h

    -- ---- a tree

    abbrev r : Rewriting Seat
    r = writing enums

    abbrev Written : Node → Type 0
    Written n = Throughout Q n → (s : Seat) → IsNamed P s.around.name → All (becomes r s n)

    abbrev nodes : List ((n : Node) × Written n) → List Node
    nodes ns = map (λ e. e.0) ns

    stays-good : {n : Node} → Throughout Q n → Good n
    stays-good h = weaker Q (Of P) makes.given h

    item-written : (b : Bool) (s : Seat) (n : Node) (ns : List Node) → All (becomes r s n) → All (items r (next_seat s n) ns) → Good n → All (items r s ns)
        → All (cond b (becomes r s n ++ items r (next_seat s n) ns) ((n ∷ []) ++ items r s ns))
    item-written true s n ns here behind g rest = append (Of P) here behind
    item-written false s n ns here behind g rest = more g rest

    items-written : (ns : List ((n : Node) × Written n)) → Each Q (nodes ns) → (s : Seat) → IsNamed P s.around.name → All (items r s (nodes ns))
    items-written [] h s named = none
    items-written (n ∷ ns) h s named =
        item-written (stays n.0) s n.0 (nodes ns) (n.1 (first-of Q h) s named) (items-written ns (others-of Q h) (next_seat s n.0) (next-named s n.0 named)) (stays-good (first-of Q h))
        (items-written ns (others-of Q h) s named)

    children-written : (seat : ℕ → Seat) → ((i : ℕ) → IsNamed P (seat i).around.name) → (i : ℕ) (ns : List ((n : Node) × Written n)) → Each Q (nodes ns) → AllLists (children r seat i (nodes ns))
    children-written seat named i [] h = tt
    children-written seat named i (n ∷ ns) h = (n.1 (first-of Q h) (seat i) (named i), children-written seat named (suc i) ns (others-of Q h))

    here-written : (s : Seat) (span : Span) (k : Kind) (ns : List ((n : Node) × Written n)) → Throughout Q (node_of span k (nodes ns)) → IsNamed P s.around.name
        → All (r.here s span k (nodes ns) (children r (r.seat s k (nodes ns)) 0 (nodes ns)))
    here-written s span k ns h named = by (is_left s.place k)
      where
        cs : List Node
        cs = nodes ns

        q : Each Q cs
        q = below-roll Q span k cs h

        p : P span k
        p = subst (λ (z : Node-F Node). P z.span z.kind) (out-roll-Node (record { span = span; kind = k; children = cs })) (makes.given (node_of span k cs) (here Q h))

        ls : AllLists (children r (r.seat s k cs) 0 cs)
        ls = children-written (r.seat s k cs) (λ i. seat-named s k cs i named q) 0 ns q

        by : (b : Bool) → All (cond b (node_of span k cs ∷ []) (done_by enums s span k cs (children r (r.seat s k cs) 0 cs) (form_of s.place k cs)))
        by true = alone (Of P) (stays-good h)
        by false = done-good s span k cs (children r (r.seat s k cs) 0 cs) (form_of s.place k cs) named h p (formed s.place k cs (name-named P Q makes.given makes.unmarks cs q)) ls

    layer-written : (s : Seat) (span : Span) (k : Kind) (ns : List ((n : Node) × Written n)) (l : Bool) → is_list k ≡ l → Throughout Q (node_of span k (nodes ns)) → IsNamed P s.around.name
        → All (layer r s span k (nodes ns))
    layer-written s span k ns true l h named =
        subst (λ z. All (layer r s span z (nodes ns))) (sym (list-kind k l))
        (alone (Of P) (over (Of P) P enums pieces span kind.List (items r s (nodes ns)) refl (items-written ns (below-roll Q span k (nodes ns) h) s named)))
    layer-written s span k ns false l h named = subst All (sym (layer-other r s span k (nodes ns) l)) (here-written s span k ns h named)

    pub all-written : (n : Node) → Written n
    all-written = ind-Node Written (λ x y is.
        (let parts : Node-F Node = record { span = y.span; kind = y.kind; children = nodes y.children } in
        subst (λ (z : Node-F Node). Written (roll-Node z)) is (λ h s named. subst All (sym (becomes-roll r s parts)) (layer-written s y.span y.kind y.children (is_list y.kind) refl h named))))

    -- of a tree as a whole
    pub tree-written : (tree : Node) → Throughout Q tree → Good (with_enums_written enums tree)
    tree-written tree h = only-good (becomes r whole tree) (all-written tree h whole tt)
