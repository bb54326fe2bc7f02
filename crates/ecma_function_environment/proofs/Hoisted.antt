-- The equations of what a tree needs, and of the tree with names for it, for loops over children.
use Rattle.std.proofs.Common.{◌≡◌, ◌∙◌, ℕ, suc, ◌+◌, List, [], ◌∷◌, ◌++◌, map, drop, length, Option, Some, None, true, false, Bool, refl, sym, ap, slice_get, add-one, append_assoc, if◌then◌else◌, is_some, arith}
use Rattle.std.proofs.lemmas.List.{append-nil, at_drop_all}
use Rattle.std.specs.List.{flat_map}
use Rattle.ecma_kind.specs.declared.kind.Kind.{Kind}
use Rattle.ecma_tree.proofs.Items.{drop-item}
use Rattle.ecma_tree.proofs.Layers.{from_leaves_out}
use Rattle.ecma_tree.specs.Nodes.{node_of}
use Rattle.ecma_tree.specs.declared.node.Node.{Node, out-Node}
use Rattle.ecma_walks.specs.Listing.{listed_within}
use Rattle.ecma_walks.proofs.Walking.{adding-all, adding-first, adding-next, rest_listed}
use Rattle.ecma_function_environment.specs.declared.hoisting.Flags.{Flags}
use Rattle.ecma_function_environment.specs.declared.need.Need.{Need}
use Rattle.ecma_function_environment.specs.declared.seat.Seat.{Seat}
use Rattle.ecma_function_environment.specs.Hoisting.{hoisted, hoisted_by, hoisted_from, hoisted_in, hoisting_step, if_entered, left_as, needs, needs_by, needs_here, needs_in, needs_of, seat_below}
use Rattle.ecma_function_environment.specs.Members.{key_at}
use Rattle.ecma_function_environment.specs.Needs.{Key, Names}
use Rattle.ecma_function_environment.specs.Seats.{is_entered, seat_in}

module _ (flags : Flags) where
  abbrev pub step : Seat → Node → ℕ → Option Seat
  step s n i = if_entered (seat_below flags s n i)

  module _ (s : Seat) (n : Node) where
    -- what is not entered needs nothing
    pub needs-left : is_entered s ≡ false → needs_in flags s n ≡ []
    needs-left h = ap (λ (b : Bool). listed_within Seat Need (if b then Some s else None) (needs flags n)) h

    pub needs-entered : is_entered s ≡ true → needs_in flags s n ≡ needs flags n s
    needs-entered h = ap (λ (b : Bool). listed_within Seat Need (if b then Some s else None) (needs flags n)) h

    -- what the children from the one at i on need
    abbrev pub needs_rest : ℕ → List Need
    needs_rest i = rest_listed Seat Need step (needs_here flags) s n i

    pub needs-first : (old new : List Need) (key : Option Key) → key ≡ key_at flags.super_disabled n → new ≡ old ++ needs_by flags s key (out-Node n).kind
        → new ++ needs_rest 0 ≡ old ++ needs flags n s
    needs-first old new key key-is is =
        adding-first Seat Need step (needs_here flags) s n old new (is ∙ ap (λ (k : Option Key). old ++ needs_by flags s k (out-Node n).kind) key-is)

    -- one child more
    pub needs-next : (whole now more : List Need) (i : ℕ) (x : Node) (b : Seat) → slice_get (out-Node n).children i ≡ Some x → b ≡ seat_below flags s n i
        → more ≡ now ++ needs_in flags b x → now ++ needs_rest i ≡ whole → more ++ needs_rest (i + 1) ≡ whole
    needs-next whole now more i x b at is adds so =
        adding-next Seat Need step (needs_here flags) s n whole now more i x at (adds ∙ ap (λ (z : Seat). now ++ needs_in flags z x) is) so

    pub needs-all : (whole now : List Need) (i : ℕ) → length (out-Node n).children ≡ i → now ++ needs_rest i ≡ whole → now ≡ whole
    needs-all = adding-all Seat Need step (needs_here flags) s n

    -- where the child at i stands
    pub below-is : (b : Seat) (over : Bool) (key : Option Key) (k : Kind) (i : ℕ) → b ≡ seat_in over s k i → over ≡ is_some key → key ≡ key_at flags.super_disabled n
        → k ≡ (out-Node n).kind → b ≡ seat_below flags s n i
    below-is b over key k i is over-is key-is kind-is =
        is ∙ ap (λ (o : Bool). seat_in o s k i) (over-is ∙ ap (λ (z : Option Key). is_some z) key-is) ∙ ap (λ (z : Kind). seat_in (is_some (key_at flags.super_disabled n)) s z i) kind-is

  -- several trees
  module _ (s : Seat) (ns : List Node) where
    abbrev pub needs_from : ℕ → List Need
    needs_from i = needs_of flags s (drop i ns)

    pub needs-more : (whole now more : List Need) (i : ℕ) (x : Node) → slice_get ns i ≡ Some x → more ≡ now ++ needs_in flags s x → now ++ needs_from i ≡ whole
        → more ++ needs_from (i + 1) ≡ whole
    needs-more whole now more i x at adds so =
        ap (λ z. z ++ needs_from (i + 1)) adds ∙ append_assoc now (needs_in flags s x) (needs_from (i + 1))
        ∙ ap (λ (z : List Node). now ++ needs_of flags s z) (sym (drop-item ns i x at)) ∙ so

    pub needs-end : (whole now : List Need) (i : ℕ) → length ns ≡ i → now ++ needs_from i ≡ whole → now ≡ whole
    needs-end whole now i all so =
        sym (append-nil now) ∙ ap (λ z. now ++ z) (sym (at_drop_all (λ (z : List Node). needs_of flags s z) ns i (omega (arith, all)))) ∙ so

  module _ (names : Names) where
    module _ (n : Node) (s : Seat) where
      abbrev by_entered : Bool → List Node
      by_entered b = if b then hoisted_in flags names n (map (hoisted flags names) (out-Node n).children) s else left_as s n

      hoisted-out : hoisted flags names n s ≡ by_entered (is_entered s)
      hoisted-out = ap (λ (f : Seat → List Node). f s) (from_leaves_out (Seat → List Node) (hoisting_step flags names) n)

      -- a node that is not entered
      pub hoisted-left : is_entered s ≡ false → left_as s n ≡ hoisted flags names n s
      hoisted-left h = sym (hoisted-out ∙ ap by_entered h)

      -- what the children from the one at i on become
      abbrev pub hoisted_rest : ℕ → List Node
      hoisted_rest i = hoisted_from (seat_below flags s n) i (map (hoisted flags names) (drop i (out-Node n).children))

      -- one that is
      pub hoisted-entered : (key : Option Key) (k : Kind) (inside : List Node) (m : Node) → is_entered s ≡ true → key ≡ key_at flags.super_disabled n
          → m ≡ node_of (out-Node n).span k inside → k ≡ (out-Node n).kind → inside ≡ hoisted_rest 0 → hoisted_by flags names s key m ≡ hoisted flags names n s
      hoisted-entered key k inside m h key-is made kind-is inside-is =
          ap (λ (z : Option Key). hoisted_by flags names s z m) key-is
          ∙ ap (λ (z : Node). hoisted_by flags names s (key_at flags.super_disabled n) z)
          (made ∙ ap (λ (z : Kind). node_of (out-Node n).span z inside) kind-is ∙ ap (node_of (out-Node n).span (out-Node n).kind) inside-is)
          ∙ sym (hoisted-out ∙ ap by_entered h)

      pub hoisted-next : (now new more : List Node) (i : ℕ) (x : Node) (b : Seat) → slice_get (out-Node n).children i ≡ Some x → b ≡ seat_below flags s n i
          → more ≡ hoisted flags names x b → new ≡ now ++ more → now ++ hoisted_rest i ≡ hoisted_rest 0 → new ++ hoisted_rest (i + 1) ≡ hoisted_rest 0
      hoisted-next now new more i x b at below is adds so =
          let next : hoisted_rest i ≡ hoisted flags names x (seat_below flags s n i) ++ hoisted_rest (i + 1) = rw (drop-item (out-Node n).children i x at, add-one) refl in
          ap (λ z. z ++ hoisted_rest (i + 1)) (adds ∙ ap (λ z. now ++ z) (is ∙ ap (hoisted flags names x) below))
          ∙ append_assoc now (hoisted flags names x (seat_below flags s n i)) (hoisted_rest (i + 1)) ∙ ap (λ z. now ++ z) (sym next) ∙ so

      pub hoisted-all : (now : List Node) (i : ℕ) → length (out-Node n).children ≡ i → now ++ hoisted_rest i ≡ hoisted_rest 0 → now ≡ hoisted_rest 0
      hoisted-all now i all so =
          sym (append-nil now)
          ∙ ap (λ z. now ++ z) (sym (at_drop_all (λ (z : List Node). hoisted_from (seat_below flags s n) i (map (hoisted flags names) z)) (out-Node n).children i (omega (arith, all)))) ∙ so

pub ruleset needing = (needs-more, needs-end)
