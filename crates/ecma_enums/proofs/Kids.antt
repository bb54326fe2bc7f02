-- The equations of what an expression folds to: of the node itself, of the child at an index, and of an item of the list that is that child.
use Rattle.std.proofs.Common.{◌≡◌, ◌∙◌, ℕ, zero, suc, List, [], ◌∷◌, map, get_or, length, Some, None, refl, ap, slice_get}
use Rattle.std.specs.Option.{option_map_or}
use Rattle.std.proofs.lemmas.List.{length-map}
use Rattle.ecma_tree.proofs.Layers.{from_leaves_out}
use Rattle.ecma_tree.specs.declared.node.Node.{Node, out-Node}
use Rattle.ecma_enums.specs.declared.computer.EnumValueComputer.{EnumValueComputer}
use Rattle.ecma_enums.specs.declared.folded.Folded.{Folded}
use Rattle.ecma_enums.specs.declared.folded.Folded.TheVariants.{Opaque}
use Rattle.ecma_enums.specs.Folding.{Folding, count_at, folding, folding_by, kid, kids_of, nothing, value_by}
use Rattle.ecma_enums.proofs.At.{get_or-none, get_or-some}

folding-out : (c : EnumValueComputer) (n : Node) → folding c n ≡ folding_by c n (kids_of c n)
unfolding folding
folding-out c n = from_leaves_out Folding (folding_by c) n

kid-some : (c : EnumValueComputer) (n : Node) (i : ℕ) (x : Node) → slice_get (out-Node n).children i ≡ Some x → kid (kids_of c n) i ≡ folding c x
kid-some c n = get_or-some (folding c) nothing (out-Node n).children

kid-none : (c : EnumValueComputer) (n : Node) (i : ℕ) → slice_get (out-Node n).children i ≡ None → kid (kids_of c n) i ≡ nothing
kid-none c n = get_or-none (folding c) nothing (out-Node n).children

-- ---- values

pub value-out : (c : EnumValueComputer) (n : Node) → (folding c n).value ≡ value_by c (out-Node n).kind n (kids_of c n)
value-out c n = ap (λ (k : Folding). k.value) (folding-out c n)

pub value-some : (c : EnumValueComputer) (n : Node) (i : ℕ) (x : Node) → slice_get (out-Node n).children i ≡ Some x → (kid (kids_of c n) i).value ≡ (folding c x).value
value-some c n i x at = ap (λ (k : Folding). k.value) (kid-some c n i x at)

pub value-none : (c : EnumValueComputer) (n : Node) (i : ℕ) → slice_get (out-Node n).children i ≡ None → (kid (kids_of c n) i).value ≡ Opaque
value-none c n i at = ap (λ (k : Folding). k.value) (kid-none c n i at)

-- ---- items

items-out : (c : EnumValueComputer) (n : Node) → (folding c n).items ≡ map (λ (k : Folding). k.value) (kids_of c n)
items-out c n = ap (λ (k : Folding). k.items) (folding-out c n)

item-kid : (ks : List Folding) (i : ℕ) → get_or (map (λ (k : Folding). k.value) ks) i Opaque ≡ (kid ks i).value
item-kid [] i = refl
item-kid (k ∷ ks) zero = refl
item-kid (k ∷ ks) (suc i) = item-kid ks i

pub item-some : (c : EnumValueComputer) (n : Node) (l : ℕ) (x : Node) (i : ℕ) → slice_get (out-Node n).children l ≡ Some x
    → get_or (kid (kids_of c n) l).items i Opaque ≡ (kid (kids_of c x) i).value
item-some c n l x i at =
    ap (λ (k : Folding). get_or k.items i Opaque) (kid-some c n l x at)
    ∙ ap (λ (vs : List Folded). get_or vs i Opaque) (items-out c x)
    ∙ item-kid (kids_of c x) i

pub item-none : (c : EnumValueComputer) (n : Node) (l i : ℕ) → slice_get (out-Node n).children l ≡ None → get_or (kid (kids_of c n) l).items i Opaque ≡ Opaque
item-none c n l i at = ap (λ (k : Folding). get_or k.items i Opaque) (kid-none c n l at)

count-item : (c : EnumValueComputer) (x : Node) → length (folding c x).items ≡ length (out-Node x).children
count-item c x = ap (λ (vs : List Folded). length vs) (items-out c x) ∙ length-map (kids_of c x) (λ (k : Folding). k.value) ∙ length-map (out-Node x).children (folding c)

module _ (c : EnumValueComputer) where
  count-kid : (ns : List Node) (l : ℕ) → length (kid (map (folding c) ns) l).items ≡ option_map_or (λ list. length (out-Node list).children) (slice_get ns l) 0
  count-kid [] l = refl
  count-kid (x ∷ xs) zero = count-item c x
  count-kid (x ∷ xs) (suc l) = count-kid xs l

pub count : (c : EnumValueComputer) (n : Node) (l : ℕ) → length (kid (kids_of c n) l).items ≡ count_at n l
count c n l = count-kid c (out-Node n).children l

pub ruleset kids = (value-out, value-some, value-none, item-some, item-none, count)
