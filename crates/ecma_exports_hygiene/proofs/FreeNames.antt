-- No free name of what is left without types has a text that no free name of a tree has which stays.
use Rattle.std.proofs.Common.{◌≡◌, ℕ, suc, Bool, true, false, ◌&&◌, not, cond, List, [], ◌∷◌, ◌++◌, map, filter, Option, Some, None, refl, sym, ap, ◌∙◌, subst, bytes_eq, slice_get, eq-eqb}
use Rattle.std.proofs.lemmas.List.Folds.{list_any-append}
use Rattle.ecma_kind.specs.declared.kind.Kind.{Kind}
use Rattle.ecma_kind.specs.declared.kind.Kind.TheVariants as kind
use Rattle.ecma_kind.specs.declared.span.Span.{Span}
use Rattle.ecma_tree.specs.declared.node.Node.{Node, Node-F, ind-Node, out-Node, roll-Node}
use Rattle.ecma_tree.specs.declared.node.Node.TheViews.{out-roll-Node}
use Rattle.ecma_tree.specs.Sorted.{is_list}
use Rattle.ecma_tree.proofs.Layers.{from_leaves_out}
use Rattle.ecma_rules.specs.Children.{holds_of}
use Rattle.ecma_strip.specs.Staying.{stays}
use Rattle.ecma_strip.specs.Stripping.{plain_kind, staying_nodes, stripped}
use Rattle.ecma_strip.proofs.Stripping.{stripped-out}
use Rattle.ecma_walks.specs.Listing.{listed_from, listed_within, listing_step}
use Rattle.ecma_exports.specs.declared.place.Place.{Place}
use Rattle.ecma_exports.specs.declared.place.Place.TheVariants as place
use Rattle.ecma_exports.specs.Exports.{is_among}
use Rattle.ecma_exports.specs.Places.{free_text, place_in, texts_here, texts_in}
use Rattle.ecma_hygiene.proofs.Telling.{or-left, or-right}
use Rattle.ecma_pipeline_spans.proofs.Trees.{Each, Everywhere, more, none}
use Rattle.ecma_pipeline_spans.proofs.PlainNodes.{plain_good}

-- the names at a place in a node: its own, and those of its children
pub texts-out : (free : ℕ) (n : Node) (p : Place) → texts_in free n p ≡ texts_here free p n ++ listed_from Place (List ℕ) (place_in p n) 0 (map (texts_in free) (out-Node n).children)
texts-out free n p = ap (λ f. f p) (from_leaves_out (Place → List (List ℕ)) (listing_step Place (List ℕ) place_in (texts_here free)) n)

-- the children behind the first, counted from there
pub listed-shift : (around : ℕ → Option Place) (i : ℕ) (xs : List (Place → List (List ℕ))) → listed_from Place (List ℕ) around (suc i) xs ≡ listed_from Place (List ℕ) (λ j. around (suc j)) i xs
listed-shift around i [] = refl
listed-shift around i (x ∷ xs) = ap (λ z. listed_within Place (List ℕ) (around (suc i)) x ++ z) (listed-shift around (suc i) xs)

-- where an item of a list is looked at: not where it goes
abbrev pub ItemsAt : Place → List Node → (ℕ → Option Place) → Type 0
ItemsAt p cs around = (j : ℕ) → around j ≡ cond (holds_of (λ item. not (stays item)) (slice_get cs j)) None (Some p)

module _ (free : ℕ) (x : List ℕ) where
  -- no free name of this text
  abbrev pub IsOther : Span → Kind → Type 0
  IsOther at k = is_among (free_text free k) x ≡ false

  other-plain : (at : Span) (k : Kind) → IsOther at k → IsOther at (plain_kind k)
  unfolding plain_kind
  other-plain at (kind.Ident text ctxt optional) h = h
  other-plain at _ h = refl

  pub other-text : (text : List ℕ) (ctxt : ℕ) (optional : Bool) → is_among (free_text free (kind.Ident text ctxt optional)) x ≡ false → ctxt ≡ free → bytes_eq text x ≡ false
  other-text text ctxt optional h e =
      or-left (bytes_eq text x) false (sym (ap (λ b. is_among (cond b (text ∷ []) []) x) (eq-eqb ctxt free e)) ∙ h)

  abbrev NoneFree : Node → Type 0
  NoneFree n = is_among (texts_in free n place.Anywhere) x ≡ false

  abbrev Left : Node → Type 0
  Left n = NoneFree n → Everywhere IsOther (stripped n)

  abbrev AllLeft : List Node → Type 0
  AllLeft [] = Unit {0}
  AllLeft (c ∷ cs) = Left c × AllLeft cs

  abbrev below : (ℕ → Option Place) → ℕ → List Node → List (List ℕ)
  below around i cs = listed_from Place (List ℕ) around i (map (texts_in free) cs)

  among-split : (xs ys : List (List ℕ)) → is_among (xs ++ ys) x ≡ false → (is_among xs x ≡ false) × (is_among ys x ≡ false)
  among-split xs ys h =
      let e = sym (list_any-append (λ t. bytes_eq t x) xs ys) ∙ h in
      (or-left (is_among xs x) (is_among ys x) e, or-right (is_among xs x) (is_among ys x) e)

  -- of the children of what is no list each
  every-left : (around : ℕ → Option Place) (i : ℕ) (cs : List Node) → ((j : ℕ) → around j ≡ Some place.Anywhere) → is_among (below around i cs) x ≡ false → AllLeft cs → Each IsOther (map stripped cs)
  every-left around i [] is h left = none
  every-left around i (c ∷ cs) is h left =
      let both = among-split (listed_within Place (List ℕ) (around i) (texts_in free c)) (below around (suc i) cs) h in
      more (left.0 (subst (λ o. is_among (listed_within Place (List ℕ) o (texts_in free c)) x ≡ false) (is i) both.0)) (every-left around (suc i) cs is both.1 left.1)

  -- of a list those that stay
  item-left : (b : Bool) (o : Option Place) (c : Node) (rest : List Node) → o ≡ cond (not b) None (Some place.Anywhere) → is_among (listed_within Place (List ℕ) o (texts_in free c)) x ≡ false → Left c
      → Each IsOther (map stripped rest) → Each IsOther (map stripped (cond b (c ∷ rest) rest))
  item-left true o c rest is h left others = more (left (subst (λ z. is_among (listed_within Place (List ℕ) z (texts_in free c)) x ≡ false) is h)) others
  item-left false o c rest is h left others = others

  some-left : (around : ℕ → Option Place) (cs : List Node) → ItemsAt place.Anywhere cs around → is_among (below around 0 cs) x ≡ false → AllLeft cs → Each IsOther (map stripped (filter stays cs))
  some-left around [] is h left = none
  some-left around (c ∷ cs) is h left =
      let both = among-split (listed_within Place (List ℕ) (around 0) (texts_in free c)) (below around 1 cs) h in
      item-left (stays c) (around 0) c (filter stays cs) (is 0) both.0 left.0
      (some-left (λ j. around (suc j)) cs (λ j. is (suc j)) (ap (λ z. is_among z x) (sym (listed-shift around 0 (map (texts_in free) cs))) ∙ both.1) left.1)

  staying : (k : Kind) (cs : List Node) → (is_list k ≡ true → Each IsOther (map stripped (filter stays cs))) → (is_list k ≡ false → Each IsOther (map stripped cs)) → Each IsOther (map stripped (staying_nodes k cs))
  staying kind.List cs f g = f refl
  staying _ cs f g = g refl

  layer-left : (n : Node) → AllLeft (out-Node n).children → Left n
  layer-left n left h =
      let k = (out-Node n).kind in
      let cs = (out-Node n).children in
      let both = among-split (texts_here free place.Anywhere n) (below (place_in place.Anywhere n) 0 cs) (ap (λ z. is_among z x) (sym (texts-out free n place.Anywhere)) ∙ h) in
      subst (Everywhere IsOther) (sym (stripped-out n))
      (plain_good IsOther refl (λ at. refl) other-plain (out-Node n).span k both.0
      (staying k cs
      (λ e. some-left (place_in place.Anywhere n) cs (λ j. at-list j e) both.1 left)
      (λ e. every-left (place_in place.Anywhere n) 0 cs (λ j. ap (λ b. cond (b && holds_of (λ item. not (stays item)) (slice_get cs j)) None (Some place.Anywhere)) e) both.1 left)))
    where
      at-list : (j : ℕ) → is_list (out-Node n).kind ≡ true → place_in place.Anywhere n j ≡ cond (holds_of (λ item. not (stays item)) (slice_get (out-Node n).children j)) None (Some place.Anywhere)
      at-list j e = ap (λ b. cond (b && holds_of (λ item. not (stays item)) (slice_get (out-Node n).children j)) None (Some place.Anywhere)) e

  all-left : (ns : List ((n : Node) × Left n)) → AllLeft (map (λ e. e.0) ns)
  all-left [] = tt
  all-left (n ∷ ns) = (n.1, all-left ns)

  -- so it is of all that is left
  pub others-left : (n : Node) → Left n
  others-left = ind-Node Left (λ x y is.
      layer-left (roll-Node x) (subst AllLeft (ap (λ (z : Node-F Node). z.children) is ∙ sym (ap (λ (z : Node-F Node). z.children) (out-roll-Node x))) (all-left y.children)))
