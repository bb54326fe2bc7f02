-- What makes nodes of their sorts.
use Rattle.std.proofs.Common.{◌≡◌, suc, Bool, true, false, ◌&&◌, ◌||◌, List, [], ◌∷◌, map, length, replicate, refl, ap}
use Rattle.ecma_kind.specs.Sorts.{belongs}
use Rattle.ecma_kind.specs.declared.span.Span.{Span}
use Rattle.ecma_kind.specs.declared.kind.Kind.{Kind}
use Rattle.ecma_kind.specs.declared.kind.Kind.TheVariants as kind
use Rattle.ecma_kind.specs.declared.shapes.Sort.{Sort}
use Rattle.ecma_tree.specs.Sorted.{is_list}
use Rattle.ecma_tree.specs.Nodes.{node_of}
use Rattle.ecma_tree.specs.declared.node.Node.{Node}
use Rattle.ecma_grammar.specs.trees.Parts.{kind_of, children_of}
use Rattle.ecma_grammar_laws.specs.RawSorts.{RawSort, RawShape, HasRawShape, HasRawSort, is_super, child_shapes_raw, item_sort, sorted, one, many}
use Rattle.ecma_grammar_laws.proofs.RawShapes.{HaveRaw, node_has, parts_of}
use Rattle.ecma_grammar_laws.proofs.Asks.{Ask, shape, Meets, Asked, MeetAll, Each, Given, fits}
use Rattle.ecma_grammar_laws.proofs.Needs.{if_so, a}
use Rattle.ecma_grammar_laws.proofs.Fits.{no, or_left, fits_sound}

pub given_so : (b : Bool) (asked : Asked) (xs : List Node) → Given (if_so b asked) xs → (b ≡ true) × Given asked xs
given_so true asked xs g = (refl, g)
given_so false asked xs g = absurd g

pub have_raw : (ss : List RawShape) (xs : List Node) → MeetAll (map shape ss) xs → HaveRaw ss xs
have_raw [] [] m = tt
have_raw [] (x ∷ xs) m = absurd m
have_raw (s ∷ ss) [] m = absurd m
have_raw (s ∷ ss) (x ∷ xs) m = (m.0, have_raw ss xs m.1)

pub as_many : (ss : List RawShape) (xs : List Node) → HaveRaw ss xs → length xs ≡ length ss
as_many [] [] h = refl
as_many [] (x ∷ xs) h = absurd h
as_many (s ∷ ss) [] h = absurd h
as_many (s ∷ ss) (x ∷ xs) h = ap suc (as_many ss xs h.1)

-- a node of a kind that belongs to a sort
pub made_sorted : (s : Sort) (span : Span) (k : Kind) (xs : List Node) → belongs s k ≡ true → HaveRaw (child_shapes_raw k (one (sorted s)) (length xs)) xs → HasRawSort s (node_of span k xs)
made_sorted s span k xs b h = node_has span k xs (one (sorted s)) (or_left (belongs s k) (is_super k && belongs s kind.ThisExpr) b) h

-- what meets a sort meets an ask that it fits
pub as_sort : (s : Sort) (q : Ask) (n : Node) → fits (a s) q ≡ true → HasRawSort s n → Meets q n
as_sort s q n h m = fits_sound (a s) q n h m

-- and where there is a choice of sorts
pub as_either : (s t : Sort) (q : Ask) (n : Node) → (fits (a s) q || fits (a t) q) ≡ true → HasRawSort s n → HasRawSort t n → Meets q n
as_either s t q n h m k = go (fits (a s) q) refl h
  where
    go : (b : Bool) → fits (a s) q ≡ b → (b || fits (a t) q) ≡ true → Meets q n
    go true e f = as_sort s q n e m
    go false e f = as_sort t q n f k

-- what is made of nodes, one for each ask
abbrev pub Made : List Ask → (List Node → Type 0) → Type 0
Made [] P = P []
Made (q ∷ qs) P = (x : Node) → Meets q x → Made qs (λ xs. P (x ∷ xs))

pub made_of : (qs : List Ask) (P : List Node → Type 0) → Made qs P → (xs : List Node) → MeetAll qs xs → P xs
made_of [] P f [] m = f
made_of [] P f (x ∷ xs) m = absurd m
made_of (q ∷ qs) P f [] m = absurd m
made_of (q ∷ qs) P f (x ∷ xs) m = made_of qs (λ ys. P (x ∷ ys)) (f x m.0) xs m.1

-- the items of a list
each_item : (s : RawShape) (xs : List Node) → HaveRaw (replicate (length xs) s) xs → Each (shape s) xs
each_item s [] h = tt
each_item s (x ∷ xs) h = (h.0, each_item s xs h.1)

items_by : (s : RawSort) (k : Kind) (xs : List Node) → is_list k ≡ true → HaveRaw (child_shapes_raw k (many s) (length xs)) xs → Each (shape (one (item_sort s))) xs
items_by s kind.List xs l h = each_item (one (item_sort s)) xs h
items_by s _ xs l h = no l

pub items_of : (s : RawSort) (n : Node) → HasRawShape (many s) n → Each (shape (one (item_sort s))) (children_of n)
items_of s n h = let t = parts_of n (many s) h in items_by s (kind_of n) (children_of n) t.0 t.1
