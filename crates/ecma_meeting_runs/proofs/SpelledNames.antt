-- Where the other names of specifiers are texts: the keys are fewer, and names are renamed as before where keys keep their texts.
use Rattle.std.proofs.Common.{◌≡◌, refl, sym, ap, ap₂, ◌∙◌, subst, List, [], ◌∷◌, ◌++◌, map, None, Bool, true, false, cond}
use Rattle.ecma_kind.specs.declared.kind.Kind.{Kind}
use Rattle.ecma_kind.specs.declared.kind.Kind.TheVariants as kind
use Rattle.ecma_kind.specs.declared.span.Span.{Span}
use Rattle.ecma_tree.specs.declared.node.Node.{Node, fold-roll-Node, ind-Node, out-Node}
use Rattle.ecma_tree.specs.declared.node.Node.TheViews.{out-roll-Node, roll-out-Node}
use Rattle.ecma_tree.specs.Nodes.{absent, dummy_span, node_of}
use Rattle.ecma_runs.specs.State.{Id}
use Rattle.ecma_runs.specs.Names.{Keys, TextsStay, all_below, all_here, at_keys, here_by, keys, keys_by, keys_in, renamed, renamed_ident, renamed_node}
use Rattle.ecma_hygiene_runs.specs.ExportsApart.{apart}
use Rattle.ecma_hygiene_runs.specs.KeyNames.{KeyNames, at_names, is_name_by, key_names, key_names_by, key_names_in}
use Rattle.ecma_hygiene_runs.proofs.Parts.{parts_of, renamed-flag, renamed-of}
use Rattle.ecma_hygiene_runs.proofs.Renaming.{name_kind}
use Rattle.ecma_meeting_runs.proofs.Spelled.{beside, literal, literal_by, spelled, spelled-of, spelled-roll, spelled_by}

-- the kind stays, and whether it is a name

kind-by : (span : Span) (k : Kind) (cs : List Node) → (out-Node (spelled_by k cs (parts_of span k cs))).kind ≡ k
kind-by span (kind.ImportNamedSpecifier t) (a ∷ b ∷ []) = ap (λ z. z.kind) (out-roll-Node (parts_of span (kind.ImportNamedSpecifier t) (beside span a b ∷ literal b ∷ [])))
kind-by span (kind.ExportNamedSpecifier t) (a ∷ b ∷ []) = ap (λ z. z.kind) (out-roll-Node (parts_of span (kind.ExportNamedSpecifier t) (a ∷ literal b ∷ [])))
kind-by span k cs = ap (λ z. z.kind) (out-roll-Node (parts_of span k cs))

spelled-kind : (n : Node) → (out-Node (spelled n)).kind ≡ (out-Node n).kind
spelled-kind n =
    let z = out-Node n in
    ap (λ m. (out-Node (spelled m)).kind) (sym (roll-out-Node n)) ∙ ap (λ m. (out-Node m).kind) (spelled-roll z) ∙ kind-by z.span z.kind (map spelled z.children)

-- keys

abbrev keys_of : Node → Keys
keys_of n = (key_names n).keys

abbrev keys_all : List Node → List Keys
keys_all cs = map (λ part. part.keys) (map key_names cs)

keys-roll : (span : Span) (k : Kind) (cs : List Node) → keys (node_of span k cs) ≡ keys_by (record { span = span; kind = k; children = map keys cs })
keys-roll span k cs = fold-roll-Node Keys keys_by (parts_of span k cs)

here-layer : (span : Span) (k : Kind) (cs : List Node) → (keys (spelled_by k cs (parts_of span k cs))).here ≡ here_by k (map keys cs)
here-layer span (kind.ImportNamedSpecifier t) (a ∷ b ∷ []) = ap (λ z. z.here) (keys-roll span (kind.ImportNamedSpecifier t) (beside span a b ∷ literal b ∷ []))
here-layer span (kind.ExportNamedSpecifier t) (a ∷ b ∷ []) = ap (λ z. z.here) (keys-roll span (kind.ExportNamedSpecifier t) (a ∷ literal b ∷ []))
here-layer span k cs = ap (λ z. z.here) (keys-roll span k cs)

abbrev HereStays : Node → Type 0
HereStays n = (keys (spelled n)).here ≡ (keys_of n).here

abbrev Stay : Type 0
Stay = (n : Node) × HereStays n

abbrev nodes : List Stay → List Node
nodes ns = map (λ e. e.0) ns

all-here : (ns : List Stay) → all_here (map keys (map spelled (nodes ns))) ≡ all_here (keys_all (nodes ns))
all-here [] = refl
all-here (n ∷ ns) = ap₂ (λ a b. a ++ b) n.1 (all-here ns)

here-same : (k : Kind) (ns : List Stay) → here_by k (map keys (map spelled (nodes ns))) ≡ here_by k (keys_all (nodes ns))
here-same (kind.Ident text ctxt optional) [] = refl
here-same (kind.Ident text ctxt optional) (n ∷ ns) = refl
here-same kind.BindingIdent (id ∷ annotation ∷ []) = id.1
here-same kind.List ns = all-here ns
here-same kind.ParenExpr (e ∷ []) = e.1
here-same kind.TsAsExpr (e ∷ type ∷ []) = e.1
here-same kind.TsTypeAssertion (e ∷ type ∷ []) = e.1
here-same kind.TsConstAssertion (e ∷ []) = e.1
here-same kind.TsNonNullExpr (e ∷ []) = e.1
here-same kind.TsInstantiation (e ∷ types ∷ []) = e.1
here-same kind.TsSatisfiesExpr (e ∷ type ∷ []) = e.1
here-same _ ns = refl

here-stays : (n : Node) → HereStays n
here-stays = ind-Node HereStays (λ x y is.
    ap (λ m. (keys m).here) (spelled-roll x) ∙ here-layer x.span x.kind (map spelled x.children)
    ∙ ap (λ z. here_by x.kind (map keys (map spelled z.children))) (sym is) ∙ here-same x.kind y.children
    ∙ ap (λ z. here_by x.kind (keys_all z.children)) is ∙ ap (λ z. z.keys.here) (sym (fold-roll-Node KeyNames key_names_by x)))

-- texts that stay

module _ (to : Id → Id) where
  stay-append : (xs ys : List Id) → TextsStay to xs → TextsStay to ys → TextsStay to (xs ++ ys)
  stay-append [] ys p q = q
  stay-append (x ∷ xs) ys p q = (p.0, stay-append xs ys p.1 q)

  stay-first : (xs ys : List Id) → TextsStay to (xs ++ ys) → TextsStay to xs
  stay-first [] ys h = tt
  stay-first (x ∷ xs) ys h = (h.0, stay-first xs ys h.1)

  stay-rest : (xs ys : List Id) → TextsStay to (xs ++ ys) → TextsStay to ys
  stay-rest [] ys h = h
  stay-rest (x ∷ xs) ys h = stay-rest xs ys h.1

  abbrev Here : Node → Type 0
  Here n = TextsStay to (keys n).here

  spelled-here : (n : Node) → TextsStay to (keys_of n).here → Here (spelled n)
  spelled-here n h = subst (TextsStay to) (sym (here-stays n)) h

  -- the text of a name is no key

  literal-here-by : (k : Kind) (cs : List Node) (span : Span) (n : Node) → is_name_by k ≡ true → (keys n).here ≡ here_by k (map keys cs) → (keys (literal_by k cs span n)).here ≡ []
  literal-here-by (kind.Ident text ctxt optional) [] span n e is = ap (λ z. z.here) (keys-roll span (kind.Str text None) [])
  literal-here-by (kind.Ident text ctxt optional) (c ∷ cs) span n e is = is
  literal-here-by (kind.Str text raw) cs span n e is = is
  literal-here-by _ cs span n e is = absurd (cc)

  here-out : (n : Node) → (keys n).here ≡ here_by (out-Node n).kind (map keys (out-Node n).children)
  here-out n = ap (λ m. (keys m).here) (sym (roll-out-Node n)) ∙ ap (λ z. z.here) (keys-roll (out-Node n).span (out-Node n).kind (out-Node n).children)

  literal-here : (n : Node) → is_name_by (out-Node n).kind ≡ true → (keys (literal n)).here ≡ []
  literal-here n e = literal-here-by (out-Node n).kind (out-Node n).children (out-Node n).span n e (here-out n)

  -- and has none below
  literal-stays-by : (k : Kind) (cs : List Node) (span : Span) (n : Node) → TextsStay to (keys n).here → TextsStay to (keys_in n) → TextsStay to (keys (literal_by k cs span n)).here × TextsStay to (keys_in (literal_by k cs span n))
  literal-stays-by (kind.Ident text ctxt optional) [] span n h all =
      let is = keys-roll span (kind.Str text None) [] in (subst (TextsStay to) (sym (ap (λ z. z.here) is)) tt, subst (TextsStay to) (sym (ap (λ z. z.all) is)) tt)
  literal-stays-by k cs span n h all = (h, all)

  literal-stays : (n : Node) → TextsStay to (keys n).here → TextsStay to (keys_in n) → TextsStay to (keys (literal n)).here × TextsStay to (keys_in (literal n))
  literal-stays n h all = literal-stays-by (out-Node n).kind (out-Node n).children (out-Node n).span n h all

  -- what is apart lists none, and has those of the name
  apart-all : (span : Span) (n : Node) → TextsStay to (keys_in n) → TextsStay to (keys_in (apart span n))
  apart-all span n h =
      subst (TextsStay to) (sym (ap (λ z. z.all) (keys-roll span kind.RestPat (n ∷ absent ∷ []))))
      (stay-append (keys_in n) (keys_in absent ++ []) h (subst (λ ids. TextsStay to (ids ++ [])) (sym (ap (λ z. z.all) (keys-roll dummy_span kind.Absent []))) tt))

  apart-here : (span : Span) (n : Node) → (keys (apart span n)).here ≡ []
  apart-here span n = ap (λ z. z.here) (keys-roll span kind.RestPat (n ∷ absent ∷ []))

  beside-all : (span : Span) (name : Node) (b : Bool) → TextsStay to (keys_in name) → TextsStay to (keys_in (cond b (apart span name) name))
  beside-all span name true h = apart-all span name h
  beside-all span name false h = h

  -- keys of a node that is spelled are keys of the node

  abbrev Fewer : Node → Type 0
  Fewer n = TextsStay to (key_names_in n) → TextsStay to (keys_in (spelled n))

  abbrev Part : Type 0
  Part = (n : Node) × Fewer n

  abbrev parts : List Part → List Node
  parts ns = map (λ e. e.0) ns

  below-stay : (ns : List Part) → TextsStay to (all_below (keys_all (parts ns))) → TextsStay to (all_below (map keys (map spelled (parts ns))))
  below-stay [] h = tt
  below-stay (n ∷ ns) h =
      let rest = all_below (keys_all (parts ns)) in
      stay-append (keys_in (spelled n.0)) (all_below (map keys (map spelled (parts ns)))) (n.1 (stay-first (key_names_in n.0) rest h)) (below-stay ns (stay-rest (key_names_in n.0) rest h))

  -- the keys of a layer, where it has no specifier
  at-same : (k : Kind) (cs : List Node) → at_keys k (map keys (map spelled cs)) ≡ at_keys k (keys_all cs)
  at-same kind.ObjectLit (properties ∷ []) = here-stays properties
  at-same (kind.Class is_abstract) (super ∷ body ∷ types ∷ super_types ∷ implements ∷ []) = here-stays body
  at-same kind.AssignPatProp (name ∷ default ∷ []) = here-stays name
  at-same (kind.ImportDecl t) (specifiers ∷ source ∷ attributes ∷ []) = here-stays source
  at-same (kind.ImportNamedSpecifier t) (name ∷ other ∷ []) = ap₂ (λ a b. a ++ b) (here-stays name) (here-stays other)
  at-same (kind.TsImportEqualsDecl true false) (name ∷ source ∷ []) = here-stays name
  at-same (kind.NamedExport t) (specifiers ∷ source ∷ attributes ∷ []) = here-stays source
  at-same (kind.ExportNamedSpecifier t) (name ∷ other ∷ []) = ap₂ (λ a b. a ++ b) (here-stays name) (here-stays other)
  at-same kind.ExportNamespaceSpecifier (name ∷ []) = here-stays name
  at-same k cs = refl

  plain-stays : (span : Span) (k : Kind) (cs : List Node) → TextsStay to (at_keys k (keys_all cs)) → TextsStay to (all_below (map keys (map spelled cs))) → TextsStay to (keys_in (node_of span k (map spelled cs)))
  plain-stays span k cs h below =
      subst (TextsStay to) (sym (ap (λ z. z.all) (keys-roll span k (map spelled cs))))
      (stay-append (at_keys k (map keys (map spelled cs))) (all_below (map keys (map spelled cs))) (subst (TextsStay to) (sym (at-same k cs)) h) below)

  -- of an import without another name the name is a key
  import-stays : (span : Span) (t : Bool) (name other : Node) → TextsStay to (at_names (kind.ImportNamedSpecifier t) (map key_names (name ∷ other ∷ []))) → TextsStay to (keys_in (spelled name)) → TextsStay to (keys_in (spelled other))
      → TextsStay to (keys_in (node_of span (kind.ImportNamedSpecifier t) (beside span (spelled name) (spelled other) ∷ literal (spelled other) ∷ [])))
  import-stays span t name other h all-name all-other = by (is_name_by (out-Node (spelled other)).kind) refl
    where
      n : Node
      n = spelled name

      o : Node
      o = spelled other

      is : (key_names other).is_name ≡ is_name_by (out-Node o).kind
      is = name_kind other ∙ ap is_name_by (sym (spelled-kind other))

      made : (first : Node) → TextsStay to ((keys first).here ++ (keys (literal o)).here) → TextsStay to (keys_in first) → TextsStay to (keys_in (literal o))
          → TextsStay to (keys_in (node_of span (kind.ImportNamedSpecifier t) (first ∷ literal o ∷ [])))
      made first own a b =
          subst (TextsStay to) (sym (ap (λ z. z.all) (keys-roll span (kind.ImportNamedSpecifier t) (first ∷ literal o ∷ []))))
          (stay-append ((keys first).here ++ (keys (literal o)).here) (keys_in first ++ (keys_in (literal o) ++ [])) own
          (stay-append (keys_in first) (keys_in (literal o) ++ []) a (stay-append (keys_in (literal o)) [] b tt)))

      by : (b : Bool) → is_name_by (out-Node o).kind ≡ b → TextsStay to (keys_in (node_of span (kind.ImportNamedSpecifier t) (cond b (apart span n) n ∷ literal o ∷ [])))
      by true e =
          let own : TextsStay to (keys_of other).here = subst (λ b. TextsStay to (cond b (keys_of other).here ((keys_of name).here ++ (keys_of other).here))) (is ∙ e) h in
          made (apart span n) (subst (TextsStay to) (sym (ap₂ (λ a b. a ++ b) (apart-here span n) (literal-here o e))) tt) (apart-all span n all-name) (literal-stays o (spelled-here other own) all-other).1
      by false e =
          let own : TextsStay to ((keys_of name).here ++ (keys_of other).here) = subst (λ b. TextsStay to (cond b (keys_of other).here ((keys_of name).here ++ (keys_of other).here))) (is ∙ e) h in
          let second = literal-stays o (spelled-here other (stay-rest (keys_of name).here (keys_of other).here own)) all-other in
          made n (stay-append (keys n).here (keys (literal o)).here (spelled-here name (stay-first (keys_of name).here (keys_of other).here own)) second.0) all-name second.1

  export-stays : (span : Span) (t : Bool) (name other : Node) → TextsStay to ((keys_of name).here ++ (keys_of other).here) → TextsStay to (keys_in (spelled name)) → TextsStay to (keys_in (spelled other))
      → TextsStay to (keys_in (node_of span (kind.ExportNamedSpecifier t) (spelled name ∷ literal (spelled other) ∷ [])))
  export-stays span t name other h all-name all-other =
      let n = spelled name in
      let o = literal (spelled other) in
      let second = literal-stays (spelled other) (spelled-here other (stay-rest (keys_of name).here (keys_of other).here h)) all-other in
      subst (TextsStay to) (sym (ap (λ z. z.all) (keys-roll span (kind.ExportNamedSpecifier t) (n ∷ o ∷ []))))
      (stay-append ((keys n).here ++ (keys o).here) (keys_in n ++ (keys_in o ++ []))
      (stay-append (keys n).here (keys o).here (spelled-here name (stay-first (keys_of name).here (keys_of other).here h)) second.0)
      (stay-append (keys_in n) (keys_in o ++ []) all-name (stay-append (keys_in o) [] second.1 tt)))

  layer-stays : (span : Span) (k : Kind) (cs : List Node) → TextsStay to (at_names k (map key_names cs)) → TextsStay to (all_below (map keys (map spelled cs)))
      → TextsStay to (keys_in (spelled_by k (map spelled cs) (parts_of span k (map spelled cs))))
  layer-stays span (kind.ImportNamedSpecifier t) (name ∷ other ∷ []) h below =
      let rest = stay-rest (keys_in (spelled name)) (keys_in (spelled other) ++ []) below in
      import-stays span t name other h (stay-first (keys_in (spelled name)) (keys_in (spelled other) ++ []) below) (stay-first (keys_in (spelled other)) [] rest)
  layer-stays span (kind.ExportNamedSpecifier t) (name ∷ other ∷ []) h below =
      let rest = stay-rest (keys_in (spelled name)) (keys_in (spelled other) ++ []) below in
      export-stays span t name other h (stay-first (keys_in (spelled name)) (keys_in (spelled other) ++ []) below) (stay-first (keys_in (spelled other)) [] rest)
  layer-stays span k cs h below = plain-stays span k cs h below

  pub keys-stay : (n : Node) → Fewer n
  keys-stay = ind-Node Fewer (λ x y is h.
      let own = at_names x.kind (map key_names x.children) in
      let all : TextsStay to (own ++ all_below (keys_all x.children)) = subst (λ z. TextsStay to z.keys.all) (fold-roll-Node KeyNames key_names_by x) h in
      let below = subst (λ cs. TextsStay to (all_below (keys_all cs)) → TextsStay to (all_below (map keys (map spelled cs)))) (ap (λ z. z.children) is) (below-stay y.children)
      (stay-rest own (all_below (keys_all x.children)) all) in
      subst (λ m. TextsStay to (keys_in m)) (sym (spelled-roll x)) (layer-stays x.span x.kind x.children (stay-first own (all_below (keys_all x.children)) all) below))

  -- renamed

  literal-renamed-by : (span : Span) (k : Kind) (cs : List Node) → TextsStay to (here_by k (map keys cs))
      → renamed to (literal_by k cs span (node_of span k cs)) ≡ literal_by (renamed_ident to k) (map (renamed to) cs) span (node_of span (renamed_ident to k) (map (renamed to) cs))
  literal-renamed-by span (kind.Ident text ctxt optional) [] h = renamed-of to span (kind.Str text None) [] ∙ ap (λ t. node_of span (kind.Str t None) []) (sym h.0)
  literal-renamed-by span (kind.Ident text ctxt optional) (c ∷ cs) h = renamed-of to span (kind.Ident text ctxt optional) (c ∷ cs)
  literal-renamed-by span k cs h = renamed-of to span k cs

  literal-of : (span : Span) (k : Kind) (cs : List Node) → literal (node_of span k cs) ≡ literal_by k cs span (node_of span k cs)
  literal-of span k cs = ap (λ z. literal_by z.kind z.children z.span (node_of span k cs)) (out-roll-Node (parts_of span k cs))

  literal-renamed : (n : Node) → Here n → renamed to (literal n) ≡ literal (renamed to n)
  literal-renamed n h =
      let z = out-Node n in
      let is : renamed to n ≡ node_of z.span (renamed_ident to z.kind) (map (renamed to) z.children) = ap (renamed to) (sym (roll-out-Node n)) ∙ renamed-of to z.span z.kind z.children in
      ap (λ m. renamed to (literal_by z.kind z.children z.span m)) (sym (roll-out-Node n)) ∙ literal-renamed-by z.span z.kind z.children (subst (TextsStay to) (here-out n) h)
      ∙ sym (ap literal is ∙ literal-of z.span (renamed_ident to z.kind) (map (renamed to) z.children))

  names-same : (k : Kind) → is_name_by (renamed_ident to k) ≡ is_name_by k
  names-same (kind.Ident text ctxt optional) = refl
  names-same _ = refl

  apart-renamed : (span : Span) (name : Node) → renamed to (apart span name) ≡ apart span (renamed to name)
  apart-renamed span name =
      renamed-of to span kind.RestPat (name ∷ absent ∷ []) ∙ ap (λ n. node_of span kind.RestPat (renamed to name ∷ n ∷ [])) (renamed-of to dummy_span kind.Absent [])

  either-renamed : (span : Span) (name : Node) (b : Bool) → renamed to (cond b (apart span name) name) ≡ cond b (apart span (renamed to name)) (renamed to name)
  either-renamed span name true = apart-renamed span name
  either-renamed span name false = refl

  beside-renamed : (span : Span) (name other : Node) → renamed to (beside span name other) ≡ beside span (renamed to name) (renamed to other)
  beside-renamed span name other =
      either-renamed span name (is_name_by (out-Node other).kind) ∙ ap (λ b. cond b (apart span (renamed to name)) (renamed to name)) (sym (renamed-flag to is_name_by names-same other))

  -- the other name of a specifier keeps its text
  abbrev OtherStays : Kind → List Node → Type 0
  OtherStays (kind.ImportNamedSpecifier t) (name ∷ other ∷ []) = Here other
  OtherStays (kind.ExportNamedSpecifier t) (name ∷ other ∷ []) = Here other
  OtherStays k cs = Unit {0}

  layer-renamed : (span : Span) (k : Kind) (cs : List Node) → OtherStays k cs
      → renamed to (spelled_by k cs (parts_of span k cs)) ≡ spelled_by (renamed_ident to k) (map (renamed to) cs) (parts_of span (renamed_ident to k) (map (renamed to) cs))
  layer-renamed span (kind.ImportNamedSpecifier t) (name ∷ other ∷ []) h =
      renamed-of to span (kind.ImportNamedSpecifier t) (beside span name other ∷ literal other ∷ [])
      ∙ ap₂ (λ a b. node_of span (kind.ImportNamedSpecifier t) (a ∷ b ∷ [])) (beside-renamed span name other) (literal-renamed other h)
  layer-renamed span (kind.ExportNamedSpecifier t) (name ∷ other ∷ []) h =
      renamed-of to span (kind.ExportNamedSpecifier t) (name ∷ literal other ∷ []) ∙ ap (λ b. node_of span (kind.ExportNamedSpecifier t) (renamed to name ∷ b ∷ [])) (literal-renamed other h)
  layer-renamed span (kind.Ident text ctxt optional) cs h = renamed-of to span (kind.Ident text ctxt optional) cs
  layer-renamed span k cs h = renamed-of to span k cs

  import-other : (name other : Node) (b : Bool) → TextsStay to (cond b (keys_of other).here ((keys_of name).here ++ (keys_of other).here)) → TextsStay to (keys_of other).here
  import-other name other true h = h
  import-other name other false h = stay-rest (keys_of name).here (keys_of other).here h

  other-stays : (k : Kind) (cs : List Node) → TextsStay to (at_names k (map key_names cs)) → OtherStays k (map spelled cs)
  other-stays (kind.ImportNamedSpecifier t) (name ∷ other ∷ []) h = spelled-here other (import-other name other (key_names other).is_name h)
  other-stays (kind.ExportNamedSpecifier t) (name ∷ other ∷ []) h = spelled-here other (stay-rest (keys_of name).here (keys_of other).here h)
  other-stays k cs h = tt

  abbrev Alike : Node → Type 0
  Alike n = TextsStay to (key_names_in n) → renamed to (spelled n) ≡ spelled (renamed to n)

  all-alike : (ns : List ((n : Node) × Alike n)) → TextsStay to (all_below (keys_all (map (λ e. e.0) ns))) → map (renamed to) (map spelled (map (λ e. e.0) ns)) ≡ map spelled (map (renamed to) (map (λ e. e.0) ns))
  all-alike [] h = refl
  all-alike (n ∷ ns) h =
      let rest = all_below (keys_all (map (λ e. e.0) ns)) in ap₂ (λ a others. a ∷ others) (n.1 (stay-first (key_names_in n.0) rest h)) (all-alike ns (stay-rest (key_names_in n.0) rest h))

  pub renamed-spelled : (n : Node) → Alike n
  renamed-spelled = ind-Node Alike (λ x y is h.
      let k = renamed_ident to x.kind in
      let own = at_names x.kind (map key_names x.children) in
      let all : TextsStay to (own ++ all_below (keys_all x.children)) = subst (λ z. TextsStay to z.keys.all) (fold-roll-Node KeyNames key_names_by x) h in
      let below = subst (λ cs. TextsStay to (all_below (keys_all cs)) → map (renamed to) (map spelled cs) ≡ map spelled (map (renamed to) cs)) (ap (λ z. z.children) is) (all-alike y.children)
      (stay-rest own (all_below (keys_all x.children)) all) in
      ap (renamed to) (spelled-roll x) ∙ layer-renamed x.span x.kind (map spelled x.children) (other-stays x.kind x.children (stay-first own (all_below (keys_all x.children)) all))
      ∙ ap (λ cs. spelled_by k cs (parts_of x.span k cs)) below
      ∙ sym (ap spelled (fold-roll-Node Node (renamed_node to) x) ∙ spelled-of x.span k (map (renamed to) x.children)))
