-- Keys of a tree that is written out and has what it exports apart: what lists none, and what has none.
use Rattle.std.proofs.Common.{◌≡◌, refl, sym, ap, ap₂, ◌∙◌, subst, ℕ, List, [], ◌∷◌, ◌++◌, map, length, Bool, true, false, cond, bytes_eq}
use Rattle.std.specs.List.{All}
use Rattle.std.proofs.lemmas.List.{append-nil}
use Rattle.std.proofs.lemmas.List.Elements.{All-cons, All-nil}
use Rattle.ecma_kind.specs.Sorts.{belongs}
use Rattle.ecma_kind.specs.declared.kind.Kind.{Kind}
use Rattle.ecma_kind.specs.declared.kind.Kind.TheVariants as kind
use Rattle.ecma_kind.specs.declared.shapes.Shape.{Shape}
use Rattle.ecma_kind.specs.declared.shapes.Sort.TheVariants as sort
use Rattle.ecma_kind.specs.declared.span.Span.{Span}
use Rattle.ecma_tree.specs.declared.node.Node.{Node, fold-roll-Node, out-Node}
use Rattle.ecma_tree.specs.declared.node.Node.TheViews.{out-roll-Node, roll-out-Node}
use Rattle.ecma_tree.specs.Laws.{HaveShapes}
use Rattle.ecma_tree.specs.Nodes.{node_of}
use Rattle.ecma_tree.specs.Sorted.{HasShape, allows, child_shapes, is_list, many, one}
use Rattle.ecma_hygiene.specs.Renamed.{proto, proto_in_brackets, proto_literal}
use Rattle.ecma_runs.specs.State.{Id}
use Rattle.ecma_runs.specs.Names.{Keys, all_below, all_here, here_by}
use Rattle.ecma_runs.proofs.Kept.{AllNodes}
use Rattle.ecma_hygiene_runs.specs.ExportsApart.{exports_apart}
use Rattle.ecma_hygiene_runs.specs.KeyNames.{KeyNames, at_names, key_names, key_names_by, key_names_in}
use Rattle.ecma_hygiene_runs.specs.WrittenOut.{key_node, properties_out, property_by, property_key_node, property_out, written_out}
use Rattle.ecma_hygiene_runs.proofs.Apart.{apart-kind, apart-of}
use Rattle.ecma_hygiene_runs.proofs.Parts.{out-flag, out-of, parts_of, properties-of}
use Rattle.ecma_hygiene_runs.proofs.SortedNames.{shape_out}

abbrev pub Empty : List Id → Type 0
Empty [] = Unit {0}
Empty (id ∷ ids) = (id.ctxt ≡ 0) × Empty ids

pub empty-append : (xs ys : List Id) → Empty xs → Empty ys → Empty (xs ++ ys)
empty-append [] ys p q = q
empty-append (x ∷ xs) ys p q = (p.0, empty-append xs ys p.1 q)

pub empty-all : (ids : List Id) → Empty ids → All (λ (id : Id). id.ctxt ≡ 0) ids
empty-all [] h = All-nil (λ (id : Id). id.ctxt ≡ 0)
empty-all (id ∷ ids) h = All-cons (λ (id : Id). id.ctxt ≡ 0) id ids h.0 (empty-all ids h.1)

abbrev pub shown : Node → Node
shown n = exports_apart (written_out n)

abbrev pub all_shown : List Node → List Node
all_shown cs = map exports_apart (map written_out cs)

-- the kind stays, but for patterns
pub shown-flag : (f : Kind → Bool) → f kind.KeyValuePatProp ≡ f kind.AssignPatProp → (n : Node) → f (out-Node (shown n)).kind ≡ f (out-Node n).kind
shown-flag f alike n = ap f (apart-kind (written_out n)) ∙ out-flag f alike n

abbrev pub keys_of : Node → Keys
keys_of n = (key_names n).keys

abbrev pub keys_all : List Node → List Keys
keys_all cs = map (λ part. part.keys) (map key_names cs)

abbrev pub NoKeys : Node → Type 0
NoKeys n = Empty (key_names_in n)

pub keys-roll : (span : Span) (k : Kind) (cs : List Node) → key_names (node_of span k cs) ≡ key_names_by (record { span = span; kind = k; children = map key_names cs })
keys-roll span k cs = fold-roll-Node KeyNames key_names_by (parts_of span k cs)

below-empty : (cs : List Node) → AllNodes NoKeys cs → Empty (all_below (keys_all cs))
below-empty [] h = tt
below-empty (c ∷ cs) h = empty-append (key_names_in c) (all_below (keys_all cs)) h.0 (below-empty cs h.1)

pub no-keys : (span : Span) (k : Kind) (cs : List Node) → Empty (at_names k (map key_names cs)) → AllNodes NoKeys cs → NoKeys (node_of span k cs)
no-keys span k cs own below = subst (λ z. Empty z.keys.all) (sym (keys-roll span k cs)) (empty-append (at_names k (map key_names cs)) (all_below (keys_all cs)) own (below-empty cs below))

here-is : (n : Node) → (keys_of n).here ≡ here_by (out-Node n).kind (keys_all (out-Node n).children)
here-is n = ap (λ m. (keys_of m).here) (sym (roll-out-Node n)) ∙ ap (λ z. z.keys.here) (keys-roll (out-Node n).span (out-Node n).kind (out-Node n).children)

-- what lists no identifiers
abbrev pub no_here : Kind → Bool
no_here (kind.Ident text ctxt optional) = false
no_here kind.BindingIdent = false
no_here kind.List = false
no_here kind.ParenExpr = false
no_here kind.TsAsExpr = false
no_here kind.TsTypeAssertion = false
no_here kind.TsConstAssertion = false
no_here kind.TsNonNullExpr = false
no_here kind.TsInstantiation = false
no_here kind.TsSatisfiesExpr = false
no_here _ = true

here-by : (k : Kind) (parts : List Keys) → no_here k ≡ true → here_by k parts ≡ []
here-by (kind.Ident text ctxt optional) parts e = absurd (cc)
here-by kind.BindingIdent parts e = absurd (cc)
here-by kind.List parts e = absurd (cc)
here-by kind.ParenExpr parts e = absurd (cc)
here-by kind.TsAsExpr parts e = absurd (cc)
here-by kind.TsTypeAssertion parts e = absurd (cc)
here-by kind.TsConstAssertion parts e = absurd (cc)
here-by kind.TsNonNullExpr parts e = absurd (cc)
here-by kind.TsInstantiation parts e = absurd (cc)
here-by kind.TsSatisfiesExpr parts e = absurd (cc)
here-by _ parts e = refl

pub here-none : (n : Node) → no_here (out-Node n).kind ≡ true → (keys_of n).here ≡ []
here-none n e = here-is n ∙ here-by (out-Node n).kind (keys_all (out-Node n).children) e

pub here-out : (n : Node) → no_here (out-Node n).kind ≡ true → (keys_of (shown n)).here ≡ []
here-out n e = here-none (shown n) (shown-flag no_here refl n ∙ e)

-- lists of which no item lists one
none-here : (ns : List Node) → AllNodes (λ n. (keys_of n).here ≡ []) ns → all_here (keys_all ns) ≡ []
none-here [] h = refl
none-here (n ∷ ns) h = ap₂ (λ a b. a ++ b) h.0 (none-here ns h.1)

-- nodes that are lists, and their items

list-is : (n : Node) → is_list (out-Node n).kind ≡ true → n ≡ node_of (out-Node n).span kind.List (out-Node n).children
list-is n e = sym (roll-out-Node n) ∙ ap (λ k. node_of (out-Node n).span k (out-Node n).children) (by (out-Node n).kind e)
  where
    by : (k : Kind) → is_list k ≡ true → k ≡ kind.List
    by kind.List e = refl
    by _ e = absurd (cc)

list-out : (n : Node) → is_list (out-Node n).kind ≡ true → written_out n ≡ node_of (out-Node n).span kind.List (map written_out (out-Node n).children)
list-out n e = ap written_out (list-is n e) ∙ out-of (out-Node n).span kind.List (out-Node n).children

pub list-shown : (n : Node) → is_list (out-Node n).kind ≡ true → shown n ≡ node_of (out-Node n).span kind.List (all_shown (out-Node n).children)
list-shown n e = ap exports_apart (list-out n e) ∙ apart-of (out-Node n).span kind.List (map written_out (out-Node n).children)

pub list-shapes : (shape : Shape) (k : Kind) (cs : List Node) → is_list k ≡ true → HaveShapes (child_shapes k shape (length cs)) cs → HaveShapes (child_shapes kind.List shape (length cs)) cs
list-shapes shape kind.List cs e h = h
list-shapes shape _ cs e h = absurd (cc)

abbrev pub Items : Shape → Node → Type 0
Items shape n = HaveShapes (child_shapes kind.List shape (length (out-Node n).children)) (out-Node n).children

-- the members of a class list nothing
member-kind : (k : Kind) → belongs sort.ClassMember k ≡ true → no_here k ≡ true
member-kind (kind.Constructor a b) e = refl
member-kind (kind.ClassMethod a b) e = refl
member-kind (kind.PrivateMethod a b) e = refl
member-kind (kind.ClassProp a b c d) e = refl
member-kind (kind.PrivateProp a b c d) e = refl
member-kind (kind.TsIndexSignature a b) e = refl
member-kind kind.EmptyStmt e = refl
member-kind kind.StaticBlock e = refl
member-kind _ e = absurd (cc)

members-here : (cs : List Node) → HaveShapes (child_shapes kind.List (many sort.ClassMember) (length cs)) cs → AllNodes (λ n. (keys_of n).here ≡ []) (all_shown cs)
members-here [] h = tt
members-here (c ∷ cs) h = (here-out c (member-kind (out-Node c).kind (shape_out (one sort.ClassMember) c h.0).0), members-here cs h.1)

pub body-here : (body : Node) → HasShape (many sort.ClassMember) body → (keys_of (shown body)).here ≡ []
body-here body h =
    let s = shape_out (many sort.ClassMember) body h in
    let span = (out-Node body).span in
    let ws = all_shown (out-Node body).children in
    ap (λ n. (keys_of n).here) (list-shown body s.0) ∙ ap (λ z. z.keys.here) (keys-roll span kind.List ws)
    ∙ none-here ws (members-here (out-Node body).children (list-shapes (many sort.ClassMember) (out-Node body).kind (out-Node body).children s.0 s.1))

-- nor do the properties of an object literal that is written out

abbrev is_listed : Kind → Bool
is_listed (kind.Ident text ctxt optional) = true
is_listed k = no_here k

property-kind : (k : Kind) → belongs sort.PropOrSpread k ≡ true → is_listed k ≡ true
property-kind (kind.Ident a b c) e = refl
property-kind kind.KeyValueProp e = refl
property-kind kind.AssignProp e = refl
property-kind kind.GetterProp e = refl
property-kind kind.SetterProp e = refl
property-kind kind.MethodProp e = refl
property-kind kind.SpreadElement e = refl
property-kind _ e = absurd (cc)

property-lists : (n : Node) (k : Kind) → (out-Node n).kind ≡ k → is_listed k ≡ true → no_here (out-Node (property_by k (out-Node n).span n)).kind ≡ true
property-lists n (kind.Ident text ctxt optional) is e =
    let span = (out-Node n).span in ap (λ z. no_here z.kind) (out-roll-Node (parts_of span kind.KeyValueProp (property_key_node span text ∷ n ∷ [])))
property-lists n k is e = ap no_here is ∙ e

property-here : (n : Node) → is_listed (out-Node n).kind ≡ true → (keys_of (exports_apart (property_out n))).here ≡ []
property-here n e = here-none (exports_apart (property_out n)) (ap no_here (apart-kind (property_out n)) ∙ property-lists n (out-Node n).kind refl e)

pub key-all : (span : Span) (text : List ℕ) → key_names_in (key_node span text) ≡ []
key-all span text = ap (λ z. z.keys.all) (keys-roll span (kind.IdentName text) [])

brackets-all : (span : Span) → key_names_in (proto_in_brackets span) ≡ []
brackets-all span =
    ap (λ z. z.keys.all) (keys-roll span kind.ComputedPropName (node_of span proto_literal [] ∷ [])) ∙ ap (λ z. z.keys.all ++ []) (keys-roll span proto_literal [])

property-key-all : (span : Span) (text : List ℕ) → key_names_in (property_key_node span text) ≡ []
property-key-all span text = by (bytes_eq text proto)
  where
    by : (b : Bool) → key_names_in (cond b (proto_in_brackets span) (key_node span text)) ≡ []
    by true = brackets-all span
    by false = key-all span text

pub key-apart : (span : Span) (text : List ℕ) → exports_apart (key_node span text) ≡ key_node span text
key-apart span text = apart-of span (kind.IdentName text) []

property-key-apart : (span : Span) (text : List ℕ) → exports_apart (property_key_node span text) ≡ property_key_node span text
property-key-apart span text = by (bytes_eq text proto)
  where
    by : (b : Bool) → exports_apart (cond b (proto_in_brackets span) (key_node span text)) ≡ cond b (proto_in_brackets span) (key_node span text)
    by true = apart-of span kind.ComputedPropName (node_of span proto_literal [] ∷ []) ∙ ap (λ n. node_of span kind.ComputedPropName (n ∷ [])) (apart-of span proto_literal [])
    by false = key-apart span text

property-all : (n : Node) (k : Kind) → key_names_in (exports_apart (property_by k (out-Node n).span n)) ≡ key_names_in (exports_apart n)
property-all n (kind.Ident text ctxt optional) =
    let span = (out-Node n).span in
    let key = property_key_node span text in
    let m = exports_apart n in
    ap key_names_in (apart-of span kind.KeyValueProp (key ∷ n ∷ []) ∙ ap (λ z. node_of span kind.KeyValueProp (z ∷ m ∷ [])) (property-key-apart span text))
    ∙ ap (λ z. z.keys.all) (keys-roll span kind.KeyValueProp (key ∷ m ∷ [])) ∙ ap (λ ids. ids ++ (key_names_in m ++ [])) (property-key-all span text) ∙ append-nil (key_names_in m)
property-all n _ = refl

properties-all : (ns : List Node) → all_below (keys_all (map exports_apart (map property_out ns))) ≡ all_below (keys_all (map exports_apart ns))
properties-all [] = refl
properties-all (n ∷ ns) = ap₂ (λ a b. a ++ b) (property-all n (out-Node n).kind) (properties-all ns)

properties-here : (cs : List Node) → HaveShapes (child_shapes kind.List (many sort.PropOrSpread) (length cs)) cs → AllNodes (λ n. (keys_of n).here ≡ []) (map exports_apart (map property_out (map written_out cs)))
properties-here [] h = tt
properties-here (c ∷ cs) h = (property-here (written_out c) (out-flag is_listed refl c ∙ property-kind (out-Node c).kind (shape_out (one sort.PropOrSpread) c h.0).0), properties-here cs h.1)

module _ (p : Node) (h : HasShape (many sort.PropOrSpread) p) where
  abbrev shape : (allows (many sort.PropOrSpread) (out-Node p).kind ≡ true) × HaveShapes (child_shapes (out-Node p).kind (many sort.PropOrSpread) (length (out-Node p).children)) (out-Node p).children
  shape = shape_out (many sort.PropOrSpread) p h

  abbrev its : List Node
  its = map written_out (out-Node p).children

  abbrev properties : List Node
  properties = map exports_apart (map property_out its)

  become : exports_apart (properties_out (written_out p)) ≡ node_of (out-Node p).span kind.List properties
  become =
      ap exports_apart (ap properties_out (list-out p shape.0) ∙ properties-of (out-Node p).span kind.List its) ∙ apart-of (out-Node p).span kind.List (map property_out its)

  pub object-here : (keys_of (exports_apart (properties_out (written_out p)))).here ≡ []
  object-here =
      ap (λ n. (keys_of n).here) become ∙ ap (λ z. z.keys.here) (keys-roll (out-Node p).span kind.List properties)
      ∙ none-here properties (properties-here (out-Node p).children (list-shapes (many sort.PropOrSpread) (out-Node p).kind (out-Node p).children shape.0 shape.1))

  pub object-all : key_names_in (exports_apart (properties_out (written_out p))) ≡ key_names_in (shown p)
  object-all =
      ap key_names_in become ∙ ap (λ z. z.keys.all) (keys-roll (out-Node p).span kind.List properties) ∙ properties-all its
      ∙ sym (ap key_names_in (list-shown p shape.0) ∙ ap (λ z. z.keys.all) (keys-roll (out-Node p).span kind.List (map exports_apart its)))
