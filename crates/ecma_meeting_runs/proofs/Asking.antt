-- Nodes that look up less than others, and in which no more is caught.
use Rattle.std.proofs.Common.{◌≡◌, refl, sym, ap, ap₂, ◌∙◌, subst, List, [], ◌∷◌, map, Bool, true, false, ◌&&◌}
use Rattle.std.specs.List.{list_all}
use Rattle.ecma_kind.specs.declared.kind.Kind.{Kind}
use Rattle.ecma_kind.specs.declared.kind.Kind.TheVariants as kind
use Rattle.ecma_kind.specs.declared.span.Span.{Span}
use Rattle.ecma_tree.specs.declared.node.Node.{Node, fold-roll-Node, ind-Node}
use Rattle.ecma_tree.specs.Nodes.{node_of}
use Rattle.ecma_hygiene.proofs.Telling.{and-both, and-left, and-right}
use Rattle.ecma_runs.specs.State.{Id}
use Rattle.ecma_runs.specs.Evaluation.{meaning}
use Rattle.ecma_runs.specs.Sought.{Seeker, Sought, all_sought, seeker, sought_by, sought_in}
use Rattle.ecma_runs.specs.Meeting.{Met, meets_by, met, met_step}
use Rattle.ecma_runs.proofs.Seeking.{sought-roll}
use Rattle.ecma_hygiene_runs.proofs.Parts.{parts_of}
use Rattle.ecma_meeting_runs.proofs.Seeking.{Alike, Among, Fewer, Pair, among-both, among-itself, firsts, layer-fewer, layer-meets, seconds}

module _ (to : Id → Id) where
  -- the node stands beside whether names meet in it

  itself-all : (ns : List ((n : Node) × ((met to n).node ≡ n))) → map (λ p. p.node) (map (met to) (map (λ e. e.0) ns)) ≡ map (λ e. e.0) ns
  itself-all [] = refl
  itself-all (n ∷ ns) = ap₂ (λ a rest. a ∷ rest) n.1 (itself-all ns)

  itself : (n : Node) → (met to n).node ≡ n
  itself = ind-Node (λ n. (met to n).node ≡ n) (λ x y is.
      ap (λ p. p.node) (fold-roll-Node Met (met_step to) x)
      ∙ ap (node_of x.span x.kind) (ap (λ z. map (λ p. p.node) (map (met to) z.children)) (sym is) ∙ itself-all y.children ∙ ap (λ z. z.children) is))

  seekers-of : (ns : List Node) → map (λ p. seeker p.node) (map (met to) ns) ≡ map seeker ns
  seekers-of [] = refl
  seekers-of (n ∷ ns) = ap₂ (λ a rest. seeker a ∷ rest) (itself n) (seekers-of ns)

  abbrev pub meets : Node → Bool
  meets n = (met to n).meets

  abbrev pub all_meet : List Node → Bool
  all_meet ns = list_all (λ p. p.meets) (map (met to) ns)

  pub meets-of : (span : Span) (k : Kind) (cs : List Node) → meets (node_of span k cs) ≡ (meets_by to k (map seeker cs) && all_meet cs)
  meets-of span k cs = ap (λ p. p.meets) (fold-roll-Node Met (met_step to) (parts_of span k cs)) ∙ ap (λ ls. meets_by to k ls && all_meet cs) (seekers-of cs)

  -- a node that asks for no more than another, as a child of one that looks at what it looks up alone, and as any child

  pub record Looks (n' n : Node) : Type 0 where
    pub sought : Among (sought_in n').sought (sought_in n).sought
    pub meets : meets n ≡ true → meets n' ≡ true

  pub record Asks (n' n : Node) : Type 0 where
    pub fewer : Fewer (sought_in n') (sought_in n)
    pub meets : meets n ≡ true → meets n' ≡ true

  pub looks : {n' n : Node} → Asks n' n → Looks n' n
  looks a = record { sought = a.fewer.sought; meets = a.meets }

  pub looks-itself : (n : Node) → Looks n n
  looks-itself n = record { sought = among-itself; meets = λ h. h }

  pub asks-itself : (n : Node) → Asks n n
  asks-itself n = record { fewer = record { sought = among-itself; code_sought = among-itself; body_sought = among-itself }; meets = λ h. h }

  then-among : {xs ys zs : List Id} → Among xs ys → Among ys zs → Among xs zs
  then-among f g = record { each = λ id h. g.each id (f.each id h) }

  pub asks-then : {a b c : Node} → Asks a b → Asks b c → Asks a c
  asks-then p q = record {
    fewer = record {
      sought = then-among p.fewer.sought q.fewer.sought;
      code_sought = then-among p.fewer.code_sought q.fewer.code_sought;
      body_sought = then-among p.fewer.body_sought q.fewer.body_sought;
    };
    meets = λ h. p.meets (q.meets h);
  }

  pub looks-then : {a b c : Node} → Looks a b → Looks b c → Looks a c
  looks-then p q = record { sought = then-among p.sought q.sought; meets = λ h. p.meets (q.meets h) }

  -- a node of any kind, with children that ask for no more and mean alike where names are looked up

  pub record Child : Type 0 where
    pub first : Node
    pub second : Node
    pub alike : Alike (meaning second) (meaning first)
    pub asks : Asks second first

  abbrev olds : List Child → List Node
  olds cs = map (λ c. c.first) cs

  abbrev news : List Child → List Node
  news cs = map (λ c. c.second) cs

  abbrev pairs : List Child → List Pair
  pairs cs = map (λ c. record { first = seeker c.first; second = seeker c.second; alike = c.alike; fewer = c.asks.fewer }) cs

  first-seekers : (cs : List Child) → map seeker (olds cs) ≡ firsts (pairs cs)
  first-seekers [] = refl
  first-seekers (c ∷ cs) = ap (λ rest. seeker c.first ∷ rest) (first-seekers cs)

  second-seekers : (cs : List Child) → map seeker (news cs) ≡ seconds (pairs cs)
  second-seekers [] = refl
  second-seekers (c ∷ cs) = ap (λ rest. seeker c.second ∷ rest) (second-seekers cs)

  all-meet : (cs : List Child) → all_meet (olds cs) ≡ true → all_meet (news cs) ≡ true
  all-meet [] h = refl
  all-meet (c ∷ cs) h =
      and-both (meets c.second) (all_meet (news cs)) (c.asks.meets (and-left (meets c.first) (all_meet (olds cs)) h)) (all-meet cs (and-right (meets c.first) (all_meet (olds cs)) h))

  pub node-asks : (span : Span) (k : Kind) (cs : List Child) → Asks (node_of span k (map (λ c. c.second) cs)) (node_of span k (map (λ c. c.first) cs))
  node-asks span k cs = record {
    fewer = let a : sought_in (node_of span k (news cs)) ≡ sought_by k (seconds (pairs cs)) = sought-roll (parts_of span k (news cs)) ∙ ap (sought_by k) (second-seekers cs) in
        let b : sought_in (node_of span k (olds cs)) ≡ sought_by k (firsts (pairs cs)) = sought-roll (parts_of span k (olds cs)) ∙ ap (sought_by k) (first-seekers cs) in
        subst (λ s. Fewer s (sought_in (node_of span k (olds cs)))) (sym a) (subst (λ s. Fewer (sought_by k (seconds (pairs cs))) s) (sym b) (layer-fewer k (pairs cs)));
    meets = λ h.
        let here = meets_by to k (map seeker (olds cs)) in
        let t : here && all_meet (olds cs) ≡ true = sym (meets-of span k (olds cs)) ∙ h in
        meets-of span k (news cs)
        ∙ and-both (meets_by to k (map seeker (news cs))) (all_meet (news cs))
        (ap (meets_by to k) (second-seekers cs) ∙ layer-meets to k (pairs cs) (ap (meets_by to k) (sym (first-seekers cs)) ∙ and-left here (all_meet (olds cs)) t))
        (all-meet cs (and-right here (all_meet (olds cs)) t));
  }

  -- a node of a kind that makes no record, and looks up what its children do, or nothing

  abbrev pub is_loose : Kind → Bool
  is_loose kind.ObjectLit = true
  is_loose kind.KeyValueProp = true
  is_loose kind.KeyValuePatProp = true
  is_loose kind.AssignPat = true
  is_loose kind.AssignPatProp = true
  is_loose kind.RestPat = true
  is_loose (kind.ImportNamedSpecifier is_type_only) = true
  is_loose (kind.ExportNamedSpecifier is_type_only) = true
  is_loose (kind.NamedExport is_type_only) = true
  is_loose _ = false

  abbrev pub loosely_sought : Kind → List Seeker → List Id
  loosely_sought (kind.ImportNamedSpecifier true) ls = []
  loosely_sought (kind.ExportNamedSpecifier true) ls = []
  loosely_sought (kind.NamedExport true) ls = []
  loosely_sought _ ls = all_sought ls

  abbrev flat : List Id → Sought
  flat ids = record { sought = ids; code_sought = []; body_sought = ids }

  loose-is : (k : Kind) (ls : List Seeker) → is_loose k ≡ true → (sought_by k ls ≡ flat (loosely_sought k ls)) × (meets_by to k ls ≡ true)
  loose-is kind.ObjectLit ls e = (refl, refl)
  loose-is kind.KeyValueProp ls e = (refl, refl)
  loose-is kind.KeyValuePatProp ls e = (refl, refl)
  loose-is kind.AssignPat ls e = (refl, refl)
  loose-is kind.AssignPatProp ls e = (refl, refl)
  loose-is kind.RestPat ls e = (refl, refl)
  loose-is (kind.ImportNamedSpecifier true) ls e = (refl, refl)
  loose-is (kind.ImportNamedSpecifier false) ls e = (refl, refl)
  loose-is (kind.ExportNamedSpecifier true) ls e = (refl, refl)
  loose-is (kind.ExportNamedSpecifier false) ls e = (refl, refl)
  loose-is (kind.NamedExport true) ls e = (refl, refl)
  loose-is (kind.NamedExport false) ls e = (refl, refl)
  loose-is _ ls e = absurd (cc)

  pub loose-sought : (span : Span) (k : Kind) (cs : List Node) → is_loose k ≡ true → sought_in (node_of span k cs) ≡ flat (loosely_sought k (map seeker cs))
  loose-sought span k cs e = sought-roll (parts_of span k cs) ∙ (loose-is k (map seeker cs) e).0

  pub loose-meets : (span : Span) (k : Kind) (cs : List Node) → is_loose k ≡ true → meets (node_of span k cs) ≡ all_meet cs
  loose-meets span k cs e = meets-of span k cs ∙ ap (λ b. b && all_meet cs) (loose-is k (map seeker cs) e).1

  flat-fewer : {ids' ids : List Id} → Among ids' ids → Fewer (flat ids') (flat ids)
  flat-fewer f = record { sought = f; code_sought = among-itself; body_sought = f }

  -- nodes of such kinds, by what is looked up in them, and by whether names meet below
  pub loose-asks : (span : Span) (k' k : Kind) (cs' cs : List Node) → is_loose k' ≡ true → is_loose k ≡ true → Among (loosely_sought k' (map seeker cs')) (loosely_sought k (map seeker cs))
      → (all_meet cs ≡ true → all_meet cs' ≡ true) → Asks (node_of span k' cs') (node_of span k cs)
  loose-asks span k' k cs' cs e' e f g = record {
    fewer = subst (λ s. Fewer s (sought_in (node_of span k cs))) (sym (loose-sought span k' cs' e'))
        (subst (λ s. Fewer (flat (loosely_sought k' (map seeker cs'))) s) (sym (loose-sought span k cs e)) (flat-fewer f));
    meets = λ h. loose-meets span k' cs' e' ∙ g (sym (loose-meets span k cs e) ∙ h);
  }

  -- children that look up no more, each for each
  abbrev pub AllLook : List Node → List Node → Type 0
  AllLook [] [] = Unit {0}
  AllLook (n' ∷ ns') (n ∷ ns) = Looks n' n × AllLook ns' ns
  AllLook _ _ = ⊥

  pub all-look-sought : (ns' ns : List Node) → AllLook ns' ns → Among (all_sought (map seeker ns')) (all_sought (map seeker ns))
  all-look-sought [] [] h = among-itself
  all-look-sought (n' ∷ ns') (n ∷ ns) h = among-both h.0.sought (all-look-sought ns' ns h.1)
  all-look-sought [] (n ∷ ns) h = absurd h
  all-look-sought (n' ∷ ns') [] h = absurd h

  pub all-look-meet : (ns' ns : List Node) → AllLook ns' ns → all_meet ns ≡ true → all_meet ns' ≡ true
  all-look-meet [] [] h m = refl
  all-look-meet (n' ∷ ns') (n ∷ ns) h m = and-both (meets n') (all_meet ns') (h.0.meets (and-left (meets n) (all_meet ns) m)) (all-look-meet ns' ns h.1 (and-right (meets n) (all_meet ns) m))
  all-look-meet [] (n ∷ ns) h m = absurd h
  all-look-meet (n' ∷ ns') [] h m = absurd h

  loosely-fewer : (k : Kind) (ns' ns : List Node) → Among (all_sought (map seeker ns')) (all_sought (map seeker ns)) → Among (loosely_sought k (map seeker ns')) (loosely_sought k (map seeker ns))
  loosely-fewer (kind.ImportNamedSpecifier true) ns' ns f = among-itself
  loosely-fewer (kind.ExportNamedSpecifier true) ns' ns f = among-itself
  loosely-fewer (kind.NamedExport true) ns' ns f = among-itself
  loosely-fewer _ ns' ns f = f

  pub same-kind-asks : (span : Span) (k : Kind) (ns' ns : List Node) → is_loose k ≡ true → AllLook ns' ns → Asks (node_of span k ns') (node_of span k ns)
  same-kind-asks span k ns' ns e h = loose-asks span k k ns' ns e e (loosely-fewer k ns' ns (all-look-sought ns' ns h)) (all-look-meet ns' ns h)

  pub list-looks : (span : Span) (ns' ns : List Node) → AllLook ns' ns → Looks (node_of span kind.List ns') (node_of span kind.List ns)
  list-looks span ns' ns h =
      let a = ap (λ s. s.sought) (sought-roll (parts_of span kind.List ns')) in
      let b = ap (λ s. s.sought) (sought-roll (parts_of span kind.List ns)) in
      record {
        sought = subst (λ ids. Among ids (sought_in (node_of span kind.List ns)).sought) (sym a) (subst (λ ids. Among (all_sought (map seeker ns')) ids) (sym b) (all-look-sought ns' ns h));
        meets = λ m. meets-of span kind.List ns' ∙ all-look-meet ns' ns h (sym (meets-of span kind.List ns) ∙ m);
      }

  pub all-look-itself : (ns : List Node) → AllLook ns ns
  all-look-itself [] = tt
  all-look-itself (n ∷ ns) = (looks-itself n, all-look-itself ns)
