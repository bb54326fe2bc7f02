-- Lists of items without what goes: moved, written, asked about, and with items put behind their directives.
use Rattle.std.proofs.Common.{◌≡◌, ◌∙◌, ℕ, suc, ◌+◌, Bool, true, false, ◌&&◌, ◌||◌, not, cond, refl, sym, ap, ap₂, List, [], ◌∷◌, ◌++◌, map, filter, take, drop, arith}
use Rattle.std.specs.List.{list_any}
use Rattle.ecma_kind.specs.declared.shapes.Sort.TheVariants as sort
use Rattle.ecma_tree.specs.Sorted.{HasShape, one}
use Rattle.ecma_tree.specs.declared.node.Node.{Node}
use Rattle.ecma_utils.specs.Directives.{front_length}
use Rattle.ecma_strip.specs.Staying.{stays}
use Rattle.ecma_strip.specs.Stripping.{stripped}
use Rattle.ecma_strip_rewriting.specs.Commuting.{is_full}
use Rattle.ecma_strip_rewriting.proofs.PlainKinds.{no}
use Rattle.ecma_lower.specs.declared.names.Names.{Names}
use Rattle.ecma_lower.specs.declared.seat.Seat.TheVariants as seat
use Rattle.ecma_lower.specs.Assignments.{is_export_assignment, is_required_import}
use Rattle.ecma_lower.specs.Heads.{behind_directives}
use Rattle.ecma_lower.specs.Moving.{exports_last}
use Rattle.ecma_lower.proofs.Singles.{write}
use Rattle.ecma_lower_strip.proofs.Items.{Alike, export-kept, fronts-so, items-alike, keeps, requires-alike}
use Rattle.ecma_lower_strip.proofs.Plain.{PlainNames, is_front}

-- items that are kept, without types
abbrev pub bare : List Node → List Node
bare [] = []
bare (n ∷ ns) = cond (keeps n) (stripped n ∷ bare ns) (bare ns)

-- first what goes, then the types, then what is empty
lost : (x y : Bool) (n : Node) (ns : List Node) → stays n ≡ x → is_full (stripped n) ≡ y → filter is_full (map stripped (filter stays ns)) ≡ bare ns
    → filter is_full (map stripped (cond x (n ∷ filter stays ns) (filter stays ns))) ≡ cond (x && y) (stripped n ∷ bare ns) (bare ns)
lost true true n ns h g rest = ap (λ b. cond b (stripped n ∷ filter is_full (map stripped (filter stays ns))) (filter is_full (map stripped (filter stays ns)))) g ∙ ap (λ z. stripped n ∷ z) rest
lost true false n ns h g rest = ap (λ b. cond b (stripped n ∷ filter is_full (map stripped (filter stays ns))) (filter is_full (map stripped (filter stays ns)))) g ∙ rest
lost false y n ns h g rest = rest

pub bare-is : (ns : List Node) → filter is_full (map stripped (filter stays ns)) ≡ bare ns
bare-is [] = refl
bare-is (n ∷ ns) = lost (stays n) (is_full (stripped n)) n ns refl refl (bare-is ns)

bare-kept : (n : Node) (ns : List Node) → keeps n ≡ true → bare (n ∷ ns) ≡ stripped n ∷ bare ns
bare-kept n ns h = ap (λ b. cond b (stripped n ∷ bare ns) (bare ns)) h

bare-gone : (n : Node) (ns : List Node) → keeps n ≡ false → bare (n ∷ ns) ≡ bare ns
bare-gone n ns h = ap (λ b. cond b (stripped n ∷ bare ns) (bare ns)) h

-- ---- items by their sort

abbrev pub AreItems : List Node → Type 0
AreItems [] = Unit
AreItems (n ∷ ns) = HasShape (one sort.ModuleItem) n × AreItems ns

items-append : (ns ms : List Node) → AreItems ns → AreItems ms → AreItems (ns ++ ms)
items-append [] ms h g = g
items-append (n ∷ ns) ms h g = (h.0, items-append ns ms h.1 g)

items-either : (b : Bool) (n : Node) (ns : List Node) → HasShape (one sort.ModuleItem) n → AreItems ns → AreItems (cond b (n ∷ ns) ns)
items-either true n ns h rest = (h, rest)
items-either false n ns h rest = rest

items-filter : (p : Node → Bool) (ns : List Node) → AreItems ns → AreItems (filter p ns)
items-filter p [] h = tt
items-filter p (n ∷ ns) h = items-either (p n) n (filter p ns) h.0 (items-filter p ns h.1)

-- ---- `export =` at the end

bare-append : (ns ms : List Node) → bare (ns ++ ms) ≡ bare ns ++ bare ms
bare-append [] ms = refl
bare-append (n ∷ ns) ms = ap (λ z. cond (keeps n) (stripped n ∷ z) z) (bare-append ns ms) ∙ by (keeps n)
  where
    by : (b : Bool) → cond b (stripped n ∷ (bare ns ++ bare ms)) (bare ns ++ bare ms) ≡ cond b (stripped n ∷ bare ns) (bare ns) ++ bare ms
    by true = refl
    by false = refl

module _ (q : Node → Bool) (same : (n : Node) → HasShape (one sort.ModuleItem) n → q (stripped n) ≡ q n) where
  filter-step : (x y : Bool) (n : Node) (ns : List Node) → q n ≡ x → keeps n ≡ y → q (stripped n) ≡ q n → bare (filter q ns) ≡ filter q (bare ns)
      → bare (cond x (n ∷ filter q ns) (filter q ns)) ≡ filter q (cond y (stripped n ∷ bare ns) (bare ns))
  filter-step true true n ns h g e rest =
      bare-kept n (filter q ns) g ∙ ap (λ z. stripped n ∷ z) rest ∙ sym (ap (λ b. cond b (stripped n ∷ filter q (bare ns)) (filter q (bare ns))) (e ∙ h))
  filter-step true false n ns h g e rest = bare-gone n (filter q ns) g ∙ rest
  filter-step false true n ns h g e rest = rest ∙ sym (ap (λ b. cond b (stripped n ∷ filter q (bare ns)) (filter q (bare ns))) (e ∙ h))
  filter-step false false n ns h g e rest = rest

  bare-filter : (ns : List Node) → AreItems ns → bare (filter q ns) ≡ filter q (bare ns)
  bare-filter [] h = refl
  bare-filter (n ∷ ns) h = filter-step (q n) (keeps n) n ns refl refl (same n h.0) (bare-filter ns h.1)

pub items-moved : (ns : List Node) → AreItems ns → AreItems (exports_last ns)
items-moved ns h =
    items-append (filter (λ item. not (is_export_assignment item)) ns) (filter is_export_assignment ns)
    (items-filter (λ item. not (is_export_assignment item)) ns h) (items-filter is_export_assignment ns h)

pub bare-moved : (ns : List Node) → AreItems ns → bare (exports_last ns) ≡ exports_last (bare ns)
bare-moved ns h =
    bare-append (filter (λ item. not (is_export_assignment item)) ns) (filter is_export_assignment ns)
    ∙ ap₂ (λ a b. a ++ b)
    (bare-filter (λ item. not (is_export_assignment item)) (λ n i. ap not (export-kept n i)) ns h)
    (bare-filter is_export_assignment export-kept ns h)

-- ---- what is required

any-step : (y : Bool) (n : Node) (ns : List Node) → keeps n ≡ y → is_required_import (stripped n) ≡ is_required_import n → (is_required_import n ≡ true → keeps n ≡ true)
    → list_any is_required_import (bare ns) ≡ list_any is_required_import ns
    → list_any is_required_import (cond y (stripped n ∷ bare ns) (bare ns)) ≡ (is_required_import n || list_any is_required_import ns)
any-step true n ns g e kept rest = ap₂ (λ a b. a || b) e rest
any-step false n ns g e kept rest = rest ∙ by (is_required_import n) refl
  where
    by : (b : Bool) → is_required_import n ≡ b → list_any is_required_import ns ≡ (b || list_any is_required_import ns)
    by true t = no (sym g ∙ kept t)
    by false t = refl

pub bare-requires : (ns : List Node) → AreItems ns → list_any is_required_import (bare ns) ≡ list_any is_required_import ns
bare-requires [] h = refl
bare-requires (n ∷ ns) h = let is = requires-alike n h.0 in any-step (keeps n) n ns refl is.same is.kept (bare-requires ns h.1)

-- ---- directives

abbrev pub front : List Node → ℕ
front ns = front_length is_front ns

one-more : (n : ℕ) → 1 + n ≡ suc n
one-more n = omega arith

front-in : (n : Node) (ns : List Node) → is_front n ≡ true → front (n ∷ ns) ≡ suc (front ns)
front-in n ns h = ap (λ b. cond (not (not b)) (1 + front ns) 0) h ∙ one-more (front ns)

front-at : (n : Node) (ns : List Node) → is_front n ≡ false → front (n ∷ ns) ≡ 0
front-at n ns h = ap (λ b. cond (not (not b)) (1 + front ns) 0) h

put-in : (h n : Node) (ns : List Node) → is_front n ≡ true → behind_directives h (n ∷ ns) ≡ n ∷ behind_directives h ns
put-in h n ns f = ap (λ i. take i (n ∷ ns) ++ h ∷ drop i (n ∷ ns)) (front-in n ns f)

put-at : (h : Node) (ns : List Node) → front ns ≡ 0 → behind_directives h ns ≡ h ∷ ns
put-at h [] f = refl
put-at h (n ∷ ns) f = ap (λ i. take i (n ∷ ns) ++ h ∷ drop i (n ∷ ns)) f

put-step : (b : Bool) (h n : Node) (ns : List Node) → is_front n ≡ b → is_front h ≡ false → front (behind_directives h ns) ≡ front ns → front (behind_directives h (n ∷ ns)) ≡ front (n ∷ ns)
put-step true h n ns f g rest = ap front (put-in h n ns f) ∙ front-in n (behind_directives h ns) f ∙ ap suc rest ∙ sym (front-in n ns f)
put-step false h n ns f g rest = ap front (put-at h (n ∷ ns) (front-at n ns f)) ∙ front-at h (n ∷ ns) g ∙ sym (front-at n ns f)

pub front-put : (h : Node) (ns : List Node) → is_front h ≡ false → front (behind_directives h ns) ≡ front ns
front-put h [] g = front-at h [] g
front-put h (n ∷ ns) g = put-step (is_front n) h n ns refl g (front-put h ns g)

suc-same : (a b : ℕ) → suc a ≡ suc b → a ≡ b
suc-same a b e = cc

-- a made item behind the directives, where as many stand in front without types as with them
abbrev BarePut : Node → List Node → Type 0
BarePut h ns = front (bare ns) ≡ front ns → bare (behind_directives h ns) ≡ behind_directives h (bare ns)

bare-put-step : (b : Bool) (h n : Node) (ns : List Node) → is_front n ≡ b → stripped h ≡ h → keeps h ≡ true → BarePut h ns → BarePut h (n ∷ ns)
bare-put-step true h n ns g same kept rest f =
    let is = fronts-so n g in
    let less = suc-same (front (bare ns)) (front ns) (sym (ap front (bare-kept n ns is.kept) ∙ front-in (stripped n) (bare ns) is.bare) ∙ f ∙ front-in n ns g) in
    ap bare (put-in h n ns g) ∙ bare-kept n (behind_directives h ns) is.kept
    ∙ ap (λ z. stripped n ∷ z) (rest less)
    ∙ sym (ap (behind_directives h) (bare-kept n ns is.kept) ∙ put-in h (stripped n) (bare ns) is.bare)
bare-put-step false h n ns g same kept rest f =
    ap bare (put-at h (n ∷ ns) (front-at n ns g)) ∙ bare-kept h (n ∷ ns) kept ∙ ap (λ z. z ∷ bare (n ∷ ns)) same
    ∙ sym (put-at h (bare (n ∷ ns)) (f ∙ front-at n ns g))

pub bare-put : (h : Node) → stripped h ≡ h → keeps h ≡ true → (ns : List Node) → BarePut h ns
bare-put h same kept [] f = bare-kept h [] kept ∙ ap (λ z. z ∷ []) same
bare-put h same kept (n ∷ ns) f = bare-put-step (is_front n) h n ns refl same kept (bare-put h same kept ns) f

-- ---- what is written

module _ (names : Names) (plains : PlainNames names) where
  abbrev pub to : Node → Node
  to = write names seat.Item

  keeps-alike : (n : Node) → Alike names n → keeps (to n) ≡ keeps n
  keeps-alike n is = ap₂ (λ a b. a && b) is.stays (ap is_full (sym is.commutes) ∙ is.full)

  written-step : (y : Bool) (n : Node) (ns : List Node) → keeps n ≡ y → Alike names n → bare (map to ns) ≡ map to (bare ns)
      → cond (keeps (to n)) (stripped (to n) ∷ bare (map to ns)) (bare (map to ns)) ≡ map to (cond y (stripped n ∷ bare ns) (bare ns))
  written-step true n ns g is rest =
      ap (λ b. cond b (stripped (to n) ∷ bare (map to ns)) (bare (map to ns))) (keeps-alike n is ∙ g) ∙ ap₂ (λ a b. a ∷ b) (sym is.commutes) rest
  written-step false n ns g is rest = ap (λ b. cond b (stripped (to n) ∷ bare (map to ns)) (bare (map to ns))) (keeps-alike n is ∙ g) ∙ rest

  pub bare-written : (ns : List Node) → AreItems ns → bare (map to ns) ≡ map to (bare ns)
  bare-written [] h = refl
  bare-written (n ∷ ns) h = written-step (keeps n) n ns refl (items-alike names plains n h.0) (bare-written ns h.1)

  front-same : (a b : Bool) (c d : ℕ) → a ≡ b → c ≡ d → cond (not (not a)) (1 + c) 0 ≡ cond (not (not b)) (1 + d) 0
  front-same a b c d e f = ap₂ (λ x y. cond (not (not x)) (1 + y) 0) e f

  -- written items are directives where the items are
  pub front-written : (ns : List Node) → AreItems ns → front (map to ns) ≡ front ns
  front-written [] h = refl
  front-written (n ∷ ns) h = front-same (is_front (to n)) (is_front n) (front (map to ns)) (front ns) (items-alike names plains n h.0).front (front-written ns h.1)

  bare-front-step : (y : Bool) (n : Node) (ns : List Node) → Alike names n → front (map to (bare ns)) ≡ front (bare ns)
      → front (map to (cond y (stripped n ∷ bare ns) (bare ns))) ≡ front (cond y (stripped n ∷ bare ns) (bare ns))
  bare-front-step true n ns is rest = front-same (is_front (to (stripped n))) (is_front (stripped n)) (front (map to (bare ns))) (front (bare ns)) is.bare_front rest
  bare-front-step false n ns is rest = rest

  pub front-bare-written : (ns : List Node) → AreItems ns → front (map to (bare ns)) ≡ front (bare ns)
  front-bare-written [] h = refl
  front-bare-written (n ∷ ns) h = bare-front-step (keeps n) n ns (items-alike names plains n h.0) (front-bare-written ns h.1)
