-- So it is of each node of a tree in which records are scopes.
use Rattle.std.proofs.Common.{◌≡◌, inl, inr, refl, sym, ap, ◌∙◌, subst, ℕ, suc, List, [], ◌∷◌, ◌++◌, map, Bool, true, false, ◌&&◌}
use Rattle.std.specs.List.{All, list_all}
use Rattle.std.proofs.lemmas.List.Elements.{All-cons, All-head, All-nil, All-tail}
use Rattle.ecma_kind.specs.Sorts.{belongs}
use Rattle.ecma_kind.specs.declared.kind.Kind.{Kind}
use Rattle.ecma_kind.specs.declared.kind.Kind.TheVariants as kind
use Rattle.ecma_kind.specs.declared.shapes.Sort.TheVariants as sort
use Rattle.ecma_tree.specs.declared.node.Node.{Node, Node-F, fold-roll-Node, ind-Node, out-Node, roll-Node}
use Rattle.ecma_tree.specs.declared.node.Node.TheViews.{out-roll-Node, roll-out-Node}
use Rattle.ecma_tree.specs.Nodes.{node_of}
use Rattle.ecma_scope.specs.declared.role.Role.{Role}
use Rattle.ecma_scope.specs.Declarations.{is_body}
use Rattle.ecma_scope.specs.Resolved.{is_name}
use Rattle.ecma_scope.specs.Scopes.{covers, is_root, is_there, opens, opens_by}
use Rattle.ecma_hygiene.specs.Capture.{IsNotCaptured, Placed, placed_at, placed_by, placed_here}
use Rattle.ecma_hygiene.specs.Ids.{Scope, is_block, is_body_block, is_function_body}
use Rattle.ecma_hygiene.specs.Renamed.{Texts}
use Rattle.ecma_hygiene.specs.Sights.{Around, around_child, own_scope}
use Rattle.ecma_hygiene.specs.Walks.{gathered_from}
use Rattle.ecma_hygiene.proofs.Telling.{and-both, and-left, true-false}
use Rattle.ecma_hygiene.proofs.Walking.{gathered-out}
use Rattle.ecma_runs.specs.State.{Id}
use Rattle.ecma_runs.specs.Evaluation.{meaning, meaning_by}
use Rattle.ecma_runs.specs.Sought.{seeker, sought_by, sought_in}
use Rattle.ecma_runs.specs.Meeting.{Met, meets_by, met, met_step}
use Rattle.ecma_runs.proofs.Layer.{meaning_out}
use Rattle.ecma_runs.proofs.Seeking.{sought-roll}
use Rattle.ecma_hygiene_meeting.specs.Places.{Place, place_here, places_at}
use Rattle.ecma_hygiene_meeting.specs.Records.{IsFormed, IsRecord, is_constructor}
use Rattle.ecma_hygiene_meeting.specs.Texts.{KeepsFreeApart, TellsItsNames, TellsNames, sent}
use Rattle.ecma_hygiene_meeting.proofs.Among.{and-false}
use Rattle.ecma_hygiene_meeting.proofs.Clear.{StaysAt, Tells, clear-from, tells-child}
use Rattle.ecma_hygiene_meeting.proofs.Looking.{Agrees, AllKnown, Below, Fine, K, Leaf, Opened, body-by, constructor-by, default-by, looks-by, meets-of, members-by, simple, top-by}
use Rattle.ecma_hygiene_meeting.proofs.Roles.{body-not-root, no-body}

-- parts of what is gathered

first-all : {X : Type 0} (P : X → Type 0) (xs ys : List X) → All P (xs ++ ys) → All P xs
first-all P [] ys h = All-nil P
first-all P (x ∷ xs) ys h = All-cons P x xs (All-head P x (xs ++ ys) h) (first-all P xs ys (All-tail P x (xs ++ ys) h))

rest-all : {X : Type 0} (P : X → Type 0) (xs ys : List X) → All P (xs ++ ys) → All P ys
rest-all P [] ys h = h
rest-all P (x ∷ xs) ys h = rest-all P xs ys (All-tail P x (xs ++ ys) h)

-- what a node means and looks up, by its parts

sought_out : (n : Node) → sought_in n ≡ sought_by (out-Node n).kind (map seeker (out-Node n).children)
sought_out n = ap sought_in (sym (roll-out-Node n)) ∙ sought-roll (out-Node n)

seeker_out : (n : Node) → seeker n ≡ record { meaning = meaning_by n (out-Node n).kind (map meaning (out-Node n).children); seeks = sought_by (out-Node n).kind (map seeker (out-Node n).children) }
seeker_out n =
    let m : meaning n ≡ meaning_by n (out-Node n).kind (map meaning (out-Node n).children) = meaning_out n in
    let s : sought_in n ≡ sought_by (out-Node n).kind (map seeker (out-Node n).children) = sought_out n in
    λ i. record { meaning = m i; seeks = s i }

module _ (to : Id → Id) where
  itself_all : (ns : List ((n : Node) × ((met to n).node ≡ n))) → map (λ p. p.node) (map (met to) (map (λ e. e.0) ns)) ≡ map (λ e. e.0) ns
  itself_all [] = refl
  itself_all (n ∷ ns) = ap (λ z. z ∷ map (λ p. p.node) (map (met to) (map (λ e. e.0) ns))) n.1 ∙ ap (λ z. n.0 ∷ z) (itself_all ns)

  -- the node stands beside what is said of it
  itself : (n : Node) → (met to n).node ≡ n
  itself = ind-Node (λ n. (met to n).node ≡ n) (λ x y is.
      ap (λ p. p.node) (fold-roll-Node Met (met_step to) x)
      ∙ ap (λ children. node_of x.span x.kind children)
      (ap (λ z. map (λ p. p.node) (map (met to) z.children)) (sym is) ∙ (itself_all y.children ∙ ap (λ z. z.children) is)))

  seekers_of : (ns : List Node) → map (λ p. seeker p.node) (map (met to) ns) ≡ map seeker ns
  seekers_of [] = refl
  seekers_of (n ∷ ns) = ap (λ z. seeker z ∷ map (λ p. seeker p.node) (map (met to) ns)) (itself n) ∙ ap (λ z. seeker n ∷ z) (seekers_of ns)

module _ (texts : Texts) (free : ℕ) (onto : ℕ → ℕ) (keeps : KeepsFreeApart onto free) (empty : StaysAt texts free 0) (own_free : StaysAt texts free free) where
  abbrev pub IsFine : Around → Node → Type 0
  IsFine s n = Fine texts free onto keeps empty own_free s.role s.scopes n

  abbrev BelowFine : Around → Node → ℕ → List Node → Type 0
  BelowFine s n i cs = Below texts free onto keeps empty own_free s.role s.scopes (own_scope s.role s.scopes n) (opens s.role n) (out-Node n).kind (is_there (out-Node n).children 1) i cs

  all-meet : (s : Around) (n : Node) (i : ℕ) (cs : List Node) → BelowFine s n i cs → list_all (λ child. child.meets) (map (met (sent onto texts)) cs) ≡ true
  all-meet s n i [] below = refl
  all-meet s n i (c ∷ cs) below =
      and-both (met (sent onto texts) c).meets (list_all (λ child. child.meets) (map (met (sent onto texts)) cs)) below.0.meets (all-meet s n (suc i) cs below.1)

  meets_out : (n : Node)
      → (met (sent onto texts) n).meets ≡ (meets_by (sent onto texts) (out-Node n).kind (map seeker (out-Node n).children) && list_all (λ child. child.meets) (map (met (sent onto texts)) (out-Node n).children))
  meets_out n =
      let all : Bool = list_all (λ child. child.meets) (map (met (sent onto texts)) (out-Node n).children) in
      ap (λ p. p.meets) (ap (met (sent onto texts)) (sym (roll-out-Node n)) ∙ fold-roll-Node Met (met_step (sent onto texts)) (out-Node n))
      ∙ ap (λ ls. meets_by (sent onto texts) (out-Node n).kind ls && all) (seekers_of (sent onto texts) (out-Node n).children)

  -- what is given of a place
  abbrev pub Given : Place → Type 0
  Given place = IsFormed place × (IsRecord place × TellsNames texts free place)

  module _ (s : Around) (n : Node) (tells : Tells texts free s.scopes) (given : Given (record { around = s; node = n })) (placed : All (IsNotCaptured texts) (placed_here s n)) (below : BelowFine s n 0 (out-Node n).children) where
    abbrev own : Scope
    own = own_scope s.role s.scopes n

    abbrev k : Kind
    k = (out-Node n).kind

    abbrev cs : List Node
    cs = (out-Node n).children

    leaf : (b : Bool) → is_name s.role ≡ b → (text : List ℕ) (ctxt : ℕ) (optional : Bool) → (out-Node n).kind ≡ kind.Ident text ctxt optional → K texts free onto keeps empty own_free s.scopes (record { sym = text; ctxt = ctxt })
    leaf true e text ctxt optional is = inl (given.1.1.outer text ctxt optional is e)
    leaf false e text ctxt optional is =
        let here : All (IsNotCaptured texts) (placed_by false s.scopes (kind.Ident text ctxt optional)) =
        subst (λ z. All (IsNotCaptured texts) (placed_by false s.scopes z)) is (subst (λ b. All (IsNotCaptured texts) (placed_by b s.scopes (out-Node n).kind)) e placed) in
        inr (clear-from texts free s.scopes (record { sym = text; ctxt = ctxt }) (All-head (IsNotCaptured texts) (record { name = (text, ctxt); scopes = s.scopes }) [] here) [] s.scopes refl, given.1.1.free_names text ctxt optional is e)

    leaf-known : Leaf texts free onto keeps empty own_free s.role s.scopes own tells k
    leaf-known = leaf (is_name s.role) refl

    args-agree : is_body_block s.role k ≡ false → Agrees texts free onto keeps empty own_free s.role s.scopes own tells k cs
    args-agree body = simple texts free onto keeps empty own_free s.role s.scopes own tells k cs given.1.0 body

    -- what is no block in a body is none in the body of a function
    apart : (b : Bool) → is_body s.role ≡ b → (b && is_block k) ≡ false → (is_function_body s.role && is_block k) ≡ false
    apart true e h = ap (λ z. is_function_body s.role && z) h ∙ and-false (is_function_body s.role)
    apart false e h = ap (λ z. z && is_block k) (no-body s.role e)

    fine-looks : is_root s.role ≡ false → (is_body s.role && is_block k) ≡ false → AllKnown texts free onto keeps empty own_free s.scopes (sought_in n).sought
    fine-looks root body =
        subst (λ z. AllKnown texts free onto keeps empty own_free s.scopes z.sought) (sym (sought_out n))
        (looks-by texts free onto keeps empty own_free s.role s.scopes own tells k cs (args-agree (apart (is_body s.role) refl body)) given.1.1.own_names below leaf-known given.0.members given.0.parts root body)

    -- no other kind than a block is one
    constructor-no-block : (z : Kind) → is_constructor z ≡ true → is_block z ≡ false
    constructor-no-block (kind.Constructor accessibility is_optional) e = refl
    constructor-no-block _ e = absurd (true-false e refl)

    no-block : is_block k ≡ false → (is_function_body s.role && is_block k) ≡ false
    no-block e = ap (λ b. is_function_body s.role && b) e ∙ and-false (is_function_body s.role)

    fine-here : IsFine s n
    fine-here = record {
      looks = fine-looks;
      as_body = λ body. body-by texts free onto keeps empty own_free s.role s.scopes own tells n k cs (seeker_out n) given.1.0 given.1.1.own_names below given.1.1.parameters
          (λ e. fine-looks (body-not-root s.role body) (ap (λ b. is_body s.role && b) e ∙ and-false (is_body s.role))) (given.0.body body) body;
      as_constructor = λ e. subst (λ l. Opened texts free onto keeps empty own_free s.scopes l.meaning.parameter_names l.seeks.code_sought) (sym (seeker_out n))
          (constructor-by texts free onto keeps empty own_free s.role s.scopes own tells n k cs (args-agree (no-block (constructor-no-block k e))) given.1.1.own_names below e);
      as_members = λ e one. subst (λ l. Opened texts free onto keeps empty own_free s.scopes l.meaning.parameter_names l.seeks.code_sought) (sym (seeker_out n))
          (members-by texts free onto keeps empty own_free s.role s.scopes own tells n k cs below e one);
      as_default = λ e. subst (λ m. AllKnown texts free onto keeps empty own_free s.scopes m.default_names) (sym (meaning_out n))
          (default-by texts free onto keeps empty own_free s.role s.scopes own tells n k cs below e (given.0.default e));
      meets = meets_out n ∙ and-both (meets_by (sent onto texts) k (map seeker cs)) (list_all (λ child. child.meets) (map (met (sent onto texts)) cs))
          (meets-of texts free onto keeps empty own_free s.role s.scopes own tells k cs given.1.0 given.1.1.own_names below given.1.1.parameters given.0.members) (all-meet s n 0 cs below);
    }

  -- ---- all nodes

  abbrev pub Good : Node → Type 0
  Good n = (s : Around) → Tells texts free s.scopes → All (IsNotCaptured texts) (placed_at n s) → All Given (places_at n s) → IsFine s n

  abbrev GoodBelow : List Node → Type 0
  GoodBelow ns = (s : Around) (n : Node) (i : ℕ) → ((j : ℕ) → Tells texts free (around_child s n j).scopes) → All (IsNotCaptured texts) (gathered_from Around Placed (around_child s n) i (map placed_at ns))
      → All Given (gathered_from Around Place (around_child s n) i (map places_at ns)) → BelowFine s n i ns

  good-below : (ns : List ((n : Node) × Good n)) → GoodBelow (map (λ e. e.0) ns)
  good-below [] s n i tells placed given = tt
  good-below (x ∷ xs) s n i tells placed given =
      let others : List Placed = gathered_from Around Placed (around_child s n) (suc i) (map placed_at (map (λ e. e.0) xs)) in
      let more : List Place = gathered_from Around Place (around_child s n) (suc i) (map places_at (map (λ e. e.0) xs)) in (
        x.1 (around_child s n i) (tells i) (first-all (IsNotCaptured texts) (placed_at x.0 (around_child s n i)) others placed) (first-all Given (places_at x.0 (around_child s n i)) more given),
        good-below xs s n (suc i) tells (rest-all (IsNotCaptured texts) (placed_at x.0 (around_child s n i)) others placed) (rest-all Given (places_at x.0 (around_child s n i)) more given),
      )

  module _ (n : Node) (s : Around) (tells : Tells texts free s.scopes) (placed : All (IsNotCaptured texts) (placed_at n s)) (given : All Given (places_at n s)) where
    abbrev others : List Placed
    others = gathered_from Around Placed (around_child s n) 0 (map placed_at (out-Node n).children)

    abbrev more : List Place
    more = gathered_from Around Place (around_child s n) 0 (map places_at (out-Node n).children)

    all-placed : All (IsNotCaptured texts) (placed_here s n ++ others)
    all-placed = subst (All (IsNotCaptured texts)) (gathered-out Around Placed placed_here around_child n s) placed

    all-given : All Given (record { around = s; node = n } ∷ more)
    all-given = subst (All Given) (gathered-out Around Place place_here around_child n s) given

    mine : Given (record { around = s; node = n })
    mine = All-head Given (record { around = s; node = n }) more all-given

    children-good : GoodBelow (out-Node n).children → BelowFine s n 0 (out-Node n).children
    children-good children =
        children s n 0 (λ j. tells-child texts free (opens s.role n && covers s.role (out-Node n).kind j) s.scopes (own_scope s.role s.scopes n) tells (λ e. mine.1.1.own_names (and-left (opens s.role n) (covers s.role (out-Node n).kind j) e)))
        (rest-all (IsNotCaptured texts) (placed_here s n) others all-placed) (All-tail Given (record { around = s; node = n }) more all-given)

  layer-good : (n : Node) → GoodBelow (out-Node n).children → Good n
  layer-good n children s tells placed given =
      fine-here s n tells (mine n s tells placed given) (first-all (IsNotCaptured texts) (placed_here s n) (others n s tells placed given) (all-placed n s tells placed given)) (children-good n s tells placed given children)

  pub good : (n : Node) → Good n
  good = ind-Node Good (λ x y is.
      layer-good (roll-Node x) (subst GoodBelow (ap (λ (z : Node-F Node). z.children) is ∙ sym (ap (λ (z : Node-F Node). z.children) (out-roll-Node x))) (good-below y.children)))

  all-good : (ns : List Node) → GoodBelow ns
  all-good [] s n i tells placed given = tt
  all-good (x ∷ xs) s n i tells placed given =
      let others : List Placed = gathered_from Around Placed (around_child s n) (suc i) (map placed_at xs) in
      let more : List Place = gathered_from Around Place (around_child s n) (suc i) (map places_at xs) in (
        good x (around_child s n i) (tells i) (first-all (IsNotCaptured texts) (placed_at x (around_child s n i)) others placed) (first-all Given (places_at x (around_child s n i)) more given),
        all-good xs s n (suc i) tells (rest-all (IsNotCaptured texts) (placed_at x (around_child s n i)) others placed) (rest-all Given (places_at x (around_child s n i)) more given),
      )

  -- what a module looks up is known in its scope
  pub top : (n : Node) (s : Around) → belongs sort.Module (out-Node n).kind ≡ true → Tells texts free s.scopes → All (IsNotCaptured texts) (placed_at n s) → All Given (places_at n s)
      → AllKnown texts free onto keeps empty own_free (s.scopes ++ own_scope s.role s.scopes n ∷ []) (sought_in n).sought
  top n s e tells placed given =
      subst (λ z. AllKnown texts free onto keeps empty own_free (s.scopes ++ own_scope s.role s.scopes n ∷ []) z.sought) (sym (sought_out n))
      (top-by texts free onto keeps empty own_free s.role s.scopes (own_scope s.role s.scopes n) tells (out-Node n).kind (out-Node n).children (children-good n s tells placed given (all-good (out-Node n).children)) e)

  module-opens : (r : Role) (k : Kind) (there : Bool) → belongs sort.Module k ≡ true → opens_by r k there ≡ true
  unfolding opens_by
  module-opens r (kind.Module shebang) there e = refl
  module-opens r _ there e = absurd (true-false e refl)

  pub top-tells : (n : Node) (s : Around) → belongs sort.Module (out-Node n).kind ≡ true → Tells texts free s.scopes → All (IsNotCaptured texts) (placed_at n s) → All Given (places_at n s)
      → TellsItsNames texts (own_scope s.role s.scopes n)
  top-tells n s e tells placed given = (mine n s tells placed given).1.1.own_names (module-opens s.role (out-Node n).kind (is_there (out-Node n).children 0) e)
