-- What holds of the span and the kind of each node holds at each stop; and where no identifier was made but for free names, no other binding is new.
use Rattle.std.proofs.Common.{◌≡◌, ℕ, suc, ◌-◌, Bool, true, false, ◌&&◌, ◌||◌, ◌==◌, not, List, [], ◌∷◌, map, refl, sym, ap, ◌∙◌, subst}
use Rattle.std.specs.List.{All, list_any}
use Rattle.std.proofs.lemmas.List.Elements.{All-append, All-cons, All-head, All-nil, All-tail}
use Rattle.ecma_kind.specs.declared.kind.Kind.{Kind}
use Rattle.ecma_kind.specs.declared.kind.Kind.TheVariants as kind
use Rattle.ecma_kind.specs.declared.span.Span.{Span}
use Rattle.ecma_tree.specs.declared.node.Node.{Node, Node-F, ind-Node, out-Node, roll-Node}
use Rattle.ecma_tree.specs.declared.node.Node.TheViews.{out-roll-Node}
use Rattle.ecma_scope.specs.Resolved.{context_count, is_name, taken}
use Rattle.ecma_hygiene.specs.declared.sight.Sight.{Sight}
use Rattle.ecma_hygiene.specs.Ids.{Id, declares, same_id}
use Rattle.ecma_hygiene.specs.Sights.{Around, around_child, nowhere, sight_by, sight_here, sights, sights_at, stands_in_source}
use Rattle.ecma_hygiene.specs.Texts.{is_bound, is_in_source, is_new}
use Rattle.ecma_hygiene.specs.Walks.{gathered_from}
use Rattle.ecma_hygiene.proofs.Telling.{and-both, and-left, id-same, or-first, or-second}
use Rattle.ecma_hygiene.proofs.Walking.{gathered-out}
use Rattle.ecma_hygiene_fits.specs.Placed.{NoneMadeBut, is_made_but}
use Rattle.ecma_hygiene_scopes.specs.Stops.{Stop, stops_at, stops_from}
use Rattle.ecma_hygiene_scopes.proofs.Stopping.{stops-out}
use Rattle.ecma_pipeline_spans.proofs.Trees.{Each, Everywhere, children_good, more, own_good}
use Rattle.ecma_pipeline_spans.proofs.Throughout.{IsNot, all_not}

-- ---- stops

module _ (P : Span → Kind → Type 0) where
  abbrev pub HoldsAt : Stop → Type 0
  HoldsAt stop = P (out-Node stop.node).span (out-Node stop.node).kind

  abbrev Has : Node → Type 0
  Has n = (s : Around) (left : ℕ) → Everywhere P n → All HoldsAt (stops_at n s left)

  abbrev HasBelow : List Node → Type 0
  HasBelow ns = (around : ℕ → Around) (i left : ℕ) → Each P ns → All HoldsAt (stops_from around i ns (map stops_at ns) left)

  has-below : (ns : List ((n : Node) × Has n)) → HasBelow (map (λ e. e.0) ns)
  has-below [] around i left h = All-nil HoldsAt
  has-below (x ∷ xs) around i left (more a h) =
      let ns : List Node = map (λ e. e.0) xs in
      let less : ℕ = left - context_count x.0 (around i).role in
      All-append HoldsAt (stops_at x.0 (around i) left) (stops_from around (suc i) ns (map stops_at ns) less) (x.1 (around i) left a) (has-below xs around (suc i) less h)

  layer-has : (n : Node) → HasBelow (out-Node n).children → Has n
  layer-has n children s left g =
      subst (All HoldsAt) (sym (stops-out n s left))
      (All-cons HoldsAt (record { node = n; around = s; left = left }) (stops_from (around_child s n) 0 (out-Node n).children (map stops_at (out-Node n).children) (left - taken s.role n)) (own_good P g)
      (children (around_child s n) 0 (left - taken s.role n) (children_good P g)))

  pub at-stops : (n : Node) → Has n
  at-stops = ind-Node Has (λ x y is.
      layer-has (roll-Node x) (subst HasBelow (ap (λ (z : Node-F Node). z.children) is ∙ sym (ap (λ (z : Node-F Node). z.children) (out-roll-Node x))) (has-below y.children)))

-- ---- identifiers that stand in the source

stands-by : (source b : Bool) → (not source && not b) ≡ false → b ≡ false → source ≡ true
stands-by true b h e = refl
stands-by false true h e = cc
stands-by false false h e = cc

module _ (free : ℕ) where
  abbrev IsOwn : Span → Kind → Type 0
  IsOwn = IsNot (is_made_but free)

  -- but for free names
  abbrev Stands : Sight → Type 0
  Stands x = (x.id.1 == free) ≡ false → x.in_source ≡ true

  here-stands : (named declared : Bool) (at : Span) (k : Kind) → IsOwn at k → All Stands (sight_by named declared at k)
  here-stands false declared at (kind.Ident text ctxt optional) h =
      All-cons Stands (record { id = (text, ctxt); in_source = stands_in_source at; declares = declared }) [] (stands-by (stands_in_source at) (ctxt == free) h) (All-nil Stands)
  here-stands false declared at _ h = All-nil Stands
  here-stands true declared at k h = All-nil Stands

  abbrev Seen : Node → Type 0
  Seen n = (s : Around) → Everywhere IsOwn n → All Stands (sights_at n s)

  abbrev SeenBelow : List Node → Type 0
  SeenBelow ns = (around : ℕ → Around) (i : ℕ) → Each IsOwn ns → All Stands (gathered_from Around Sight around i (map sights_at ns))

  seen-below : (ns : List ((n : Node) × Seen n)) → SeenBelow (map (λ e. e.0) ns)
  seen-below [] around i h = All-nil Stands
  seen-below (x ∷ xs) around i (more a h) =
      All-append Stands (sights_at x.0 (around i)) (gathered_from Around Sight around (suc i) (map sights_at (map (λ e. e.0) xs))) (x.1 (around i) a) (seen-below xs around (suc i) h)

  layer-seen : (n : Node) → SeenBelow (out-Node n).children → Seen n
  layer-seen n children s g =
      subst (All Stands) (sym (gathered-out Around Sight sight_here around_child n s))
      (All-append Stands (sight_here s n) (gathered_from Around Sight (around_child s n) 0 (map sights_at (out-Node n).children))
      (here-stands (is_name s.role) (list_any declares s.soughts) (out-Node n).span (out-Node n).kind (own_good IsOwn g)) (children (around_child s n) 0 (children_good IsOwn g)))

  seen : (n : Node) → Seen n
  seen = ind-Node Seen (λ x y is.
      layer-seen (roll-Node x) (subst SeenBelow (ap (λ (z : Node-F Node). z.children) is ∙ sym (ap (λ (z : Node-F Node). z.children) (out-roll-Node x))) (seen-below y.children)))

  module _ (id : Id) (inner : (id.1 == free) ≡ false) where
    source-step : (x : Sight) (xs : List Sight) → Stands x → (is_bound xs id ≡ true → is_in_source xs id ≡ true) → (b : Bool) → (same_id x.id id && x.declares) ≡ b
        → is_bound (x ∷ xs) id ≡ true → is_in_source (x ∷ xs) id ≡ true
    source-step x xs stands rest true e h =
        let same = and-left (same_id x.id id) x.declares e in
        or-first (same_id x.id id && x.in_source) (is_in_source xs id) (and-both (same_id x.id id) x.in_source same (stands (ap (λ (i : Id). i.1 == free) (id-same x.id id same) ∙ inner)))
    source-step x xs stands rest false e h = or-second (same_id x.id id && x.in_source) (is_in_source xs id) (rest (ap (λ b. b || is_bound xs id) (sym e) ∙ h))

    source-from : (xs : List Sight) → All Stands xs → is_bound xs id ≡ true → is_in_source xs id ≡ true
    source-from [] h e = e
    source-from (x ∷ xs) h e = source-step x xs (All-head Stands x xs h) (source-from xs (All-tail Stands x xs h)) (same_id x.id id && x.declares) refl e

    new-by : (xs : List Sight) → (is_bound xs id ≡ true → is_in_source xs id ≡ true) → (b : Bool) → is_bound xs id ≡ b → is_new xs id ≡ false
    new-by xs h true e = (λ i. e i && not (h e i))
    new-by xs h false e = ap (λ b. b && not (is_in_source xs id)) e

    -- so it is not new, where none is made but for free names
    pub none-new : (tree : Node) → NoneMadeBut free tree → is_new (sights tree) id ≡ false
    none-new tree h = new-by (sights tree) (source-from (sights tree) (seen tree nowhere (all_not (is_made_but free) tree h))) (is_bound (sights tree) id) refl
