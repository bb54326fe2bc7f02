-- The equations of what is extracted.
use Rattle.std.proofs.Common.{◌≡◌, ◌∙◌, ℕ, zero, suc, ◌+◌, ◌<◌, Bool, true, false, List, [], ◌∷◌, ◌++◌, cond, map, flat_map, get_or, drop, length, set, Some, None, refl, sym, ap, slice_get, append_assoc, arith}
use Rattle.std.specs.List.{filter}
use Rattle.std.proofs.lemmas.List.{append-nil, drop-set-lt, drop_all, flat_map_more, length-set}
use Rattle.ecma_kind.specs.declared.kind.Kind.TheVariants as kind
use Rattle.ecma_kind.specs.declared.span.Span.{Span}
use Rattle.ecma_tree.proofs.Items.{drop-item}
use Rattle.ecma_tree.proofs.Layers.{from_leaves_out}
use Rattle.ecma_tree.specs.Nodes.{node_of}
use Rattle.ecma_tree.specs.declared.node.Node.{Node, fold_out-Node, out-Node}
use Rattle.ecma_judge.specs.declared.ctx.ExprCtx.{ExprCtx}
use Rattle.ecma_judge.specs.declared.ways.Way.{Way}
use Rattle.ecma_judge.specs.declared.ways.Way.TheVariants as way
use Rattle.ecma_judge.specs.Extraction.{IsFront, extracted, extracted_all, extracted_by, extracted_first, extracted_parts, given, in_front, is_name, is_name_by, is_name_step, kept, kept_list, may_have_effects, way_of}

-- ---- names

pub get_or-some : (ns : List Node) (i : ℕ) (x : Node) → slice_get ns i ≡ Some x → get_or (map is_name ns) i false ≡ is_name x
get_or-some [] i x at = cc
get_or-some (y ∷ ys) zero x at = let same : y ≡ x = cc in ap is_name same
get_or-some (y ∷ ys) (suc i) x at = get_or-some ys i x at

pub get_or-none : (ns : List Node) (i : ℕ) → slice_get ns i ≡ None → get_or (map is_name ns) i false ≡ false
get_or-none [] i at = refl
get_or-none (y ∷ ys) zero at = cc
get_or-none (y ∷ ys) (suc i) at = get_or-none ys i at

pub is_name-out : (n : Node) → is_name n ≡ is_name_by (out-Node n).kind (map is_name (out-Node n).children)
is_name-out = fold_out-Node Bool is_name_step

pub ruleset names = (get_or-some, get_or-none, is_name-out)

-- ---- properties that are kept

-- one more that has effects, and one more that has none
pub kept-more : (ctx : ExprCtx) (ns : List Node) (x : Node) → may_have_effects ctx x ≡ true → filter (may_have_effects ctx) (ns ++ x ∷ []) ≡ filter (may_have_effects ctx) ns ++ x ∷ []
kept-more ctx [] x is = rw is refl
kept-more ctx (y ∷ ns) x is = by (may_have_effects ctx y) (kept-more ctx ns x is)
  where
    by : (b : Bool) → filter (may_have_effects ctx) (ns ++ x ∷ []) ≡ filter (may_have_effects ctx) ns ++ x ∷ []
        → cond b (y ∷ filter (may_have_effects ctx) (ns ++ x ∷ [])) (filter (may_have_effects ctx) (ns ++ x ∷ []))
        ≡ cond b (y ∷ filter (may_have_effects ctx) ns) (filter (may_have_effects ctx) ns) ++ x ∷ []
    by true e = ap (λ (zs : List Node). y ∷ zs) e
    by false e = e

pub kept-less : (ctx : ExprCtx) (ns : List Node) (x : Node) → may_have_effects ctx x ≡ false → filter (may_have_effects ctx) (ns ++ x ∷ []) ≡ filter (may_have_effects ctx) ns
kept-less ctx [] x is = rw is refl
kept-less ctx (y ∷ ns) x is = by (may_have_effects ctx y) (kept-less ctx ns x is)
  where
    by : (b : Bool) → filter (may_have_effects ctx) (ns ++ x ∷ []) ≡ filter (may_have_effects ctx) ns
        → cond b (y ∷ filter (may_have_effects ctx) (ns ++ x ∷ [])) (filter (may_have_effects ctx) (ns ++ x ∷ []))
        ≡ cond b (y ∷ filter (may_have_effects ctx) ns) (filter (may_have_effects ctx) ns)
    by true e = ap (λ (zs : List Node). y ∷ zs) e
    by false e = e

pub ruleset keeping = (kept-more, kept-less, append-nil)

pub lists-more : (ctx : ExprCtx) (ns : List Node) (x : Node) → map (kept_list ctx) (ns ++ x ∷ []) ≡ map (kept_list ctx) ns ++ kept_list ctx x ∷ []
lists-more ctx [] x = refl
lists-more ctx (n ∷ ns) x = ap (λ (zs : List Node). kept_list ctx n ∷ zs) (lists-more ctx ns x)

pub ruleset listing = (lists-more, append-nil)

-- ---- fronts

pub front-itself : (xs : List Node) → IsFront xs xs
front-itself xs = record { rest = []; is = sym (append-nil xs) }

-- ---- the node itself

extracted-out : (ctx : ExprCtx) (n : Node) → extracted ctx n ≡ given ctx (way_of ctx n) n (map (extracted ctx) (out-Node n).children)
unfolding extracted
extracted-out ctx n = from_leaves_out (List Node) (extracted_by ctx) n

flat-of : (ctx : ExprCtx) (ns : List Node) → flat_map (λ x. x) (map (extracted ctx) ns) ≡ extracted_all ctx ns
flat-of ctx [] = refl
flat-of ctx (n ∷ ns) = ap (λ (zs : List Node). extracted ctx n ++ zs) (flat-of ctx ns)

by-way : (ctx : ExprCtx) (n : Node) (w : Way) → way_of ctx n ≡ w → extracted ctx n ≡ given ctx w n (map (extracted ctx) (out-Node n).children)
by-way ctx n w is = extracted-out ctx n ∙ ap (λ (v : Way). given ctx v n (map (extracted ctx) (out-Node n).children)) is

pub extracted-nothing : (ctx : ExprCtx) (n : Node) → way_of ctx n ≡ way.Nothing → extracted ctx n ≡ []
extracted-nothing ctx n is = by-way ctx n way.Nothing is

pub extracted-whole : (ctx : ExprCtx) (n : Node) → way_of ctx n ≡ way.Whole → extracted ctx n ≡ n ∷ []
extracted-whole ctx n is = by-way ctx n way.Whole is

pub extracted-parts : (ctx : ExprCtx) (n : Node) → way_of ctx n ≡ way.Parts → extracted ctx n ≡ extracted_parts ctx n
extracted-parts ctx n is = by-way ctx n way.Parts is ∙ flat-of ctx (out-Node n).children

pub extracted-first : (ctx : ExprCtx) (n : Node) → way_of ctx n ≡ way.First → extracted ctx n ≡ extracted_first ctx n
extracted-first ctx n is = by-way ctx n way.First is

pub extracted-kept : (ctx : ExprCtx) (n : Node) → way_of ctx n ≡ way.Kept → extracted ctx n ≡ kept ctx n ∷ []
extracted-kept ctx n is = by-way ctx n way.Kept is

-- ---- its parts

abbrev pub extracted_from : ExprCtx → List Node → ℕ → List Node
extracted_from ctx ns i = extracted_all ctx (drop i ns)

pub extracted_from-next : (ctx : ExprCtx) (ns : List Node) (i : ℕ) (x : Node) → slice_get ns i ≡ Some x → extracted_from ctx ns i ≡ extracted ctx x ++ extracted_from ctx ns (i + 1)
extracted_from-next ctx ns i x at = ap (extracted_all ctx) (drop-item ns i x at)

get-drop : (ns : List Node) (i : ℕ) → slice_get (drop i ns) 0 ≡ slice_get ns i
get-drop [] zero = refl
get-drop [] (suc i) = refl
get-drop (n ∷ ns) zero = refl
get-drop (n ∷ ns) (suc i) = get-drop ns i

abbrev tail : List Node → List Node
tail [] = []
tail (n ∷ ns) = ns

-- of the parts of a node, which are taken out one by one, those before i are extracted, and stand behind the others
pub record Extracted (ctx : ExprCtx) (whole old parts to : List Node) (i : ℕ) : Type 0 where
  pub left : drop i parts ≡ drop i whole
  pub count : length parts ≡ length whole
  pub done : to ++ extracted_from ctx whole i ≡ old ++ extracted_all ctx whole
  pub front : IsFront old to

module _ (ctx : ExprCtx) (whole old : List Node) where
  pub extracted-start : Extracted ctx whole old whole old 0
  extracted-start = record { left = refl; count = refl; done = refl; front = front-itself old }

  module _ (parts to : List Node) (i : ℕ) (so_far : Extracted ctx whole old parts to i) where
    -- the part at i is that of the node
    pub extracted-part : (x : Node) → slice_get parts i ≡ Some x → slice_get whole i ≡ Some x
    extracted-part x at = sym (get-drop whole i) ∙ (ap (λ (ns : List Node). slice_get ns 0) (sym so_far.left) ∙ (get-drop parts i ∙ at))

    left-next : (x y : Node) → slice_get parts i ≡ Some x → drop (i + 1) (set parts i y) ≡ drop (i + 1) whole
    left-next x y at =
        drop-set-lt (i + 1) parts i y (omega arith)
        ∙ (ap tail (sym (drop-item parts i x at)) ∙ (ap tail so_far.left ∙ ap tail (drop-item whole i x (extracted-part x at))))

    done-next : (more : List Node) (x : Node) → slice_get parts i ≡ Some x → more ≡ to ++ extracted ctx x
        → more ++ extracted_from ctx whole (i + 1) ≡ old ++ extracted_all ctx whole
    done-next more x at is =
        ap (λ (zs : List Node). zs ++ extracted_from ctx whole (i + 1)) is
        ∙ (append_assoc to (extracted ctx x) (extracted_from ctx whole (i + 1))
        ∙ (ap (λ (zs : List Node). to ++ zs) (sym (extracted_from-next ctx whole i x (extracted-part x at))) ∙ so_far.done))

    pub extracted-next : (more : List Node) (x y : Node) → slice_get parts i ≡ Some x → more ≡ to ++ extracted ctx x
        → Extracted ctx whole old (set parts i y) more (i + 1)
    extracted-next more x y at is = record {
      left = left-next x y at;
      count = length-set parts i y ∙ so_far.count;
      done = done-next more x at is;
      front = record { rest = so_far.front.rest ++ extracted ctx x; is = is ∙ (ap (λ (zs : List Node). zs ++ extracted ctx x) so_far.front.is ∙ append_assoc old so_far.front.rest (extracted ctx x)) };
    }

    pub extracted-end : length parts ≡ i → to ≡ old ++ extracted_all ctx whole
    extracted-end all =
        sym (append-nil to) ∙ (ap (λ (ns : List Node). to ++ extracted_all ctx ns) (sym (nothing-left i (sym so_far.count ∙ all))) ∙ so_far.done)
      where
        nothing-left : (k : ℕ) → length whole ≡ k → drop k whole ≡ []
        nothing-left k e = drop_all k whole (omega (arith, e))

    -- where the part at i is refused, what was there still stands in front
    pub extracted-refused : (new : List Node) → IsFront to new → IsFront old new
    extracted-refused new front =
        record { rest = so_far.front.rest ++ front.rest; is = front.is ∙ (ap (λ (zs : List Node). zs ++ front.rest) so_far.front.is ∙ append_assoc old so_far.front.rest front.rest) }

pub extracted_first-some : (ctx : ExprCtx) (ns : List Node) (x : Node) → slice_get ns 0 ≡ Some x → get_or (map (extracted ctx) ns) 0 [] ≡ extracted ctx x
extracted_first-some ctx [] x at = cc
extracted_first-some ctx (y ∷ ys) x at = let same : y ≡ x = cc in ap (extracted ctx) same

pub extracted_first-none : (ctx : ExprCtx) (ns : List Node) → ns ≡ [] → get_or (map (extracted ctx) ns) 0 [] ≡ []
extracted_first-none ctx ns is = ap (λ (ms : List Node). get_or (map (extracted ctx) ms) 0 []) is

pub ruleset extracting = (front-itself, extracted-start, extracted-end, extracted-refused, extracted-nothing, extracted-whole, extracted-parts, extracted-first, extracted-kept, extracted_first-some, extracted_first-none, append-nil)

-- ---- effects in front of a value

pub in_front-none : (span : Span) (es : List Node) (val : Node) → es ≡ [] → in_front span es val ≡ val
in_front-none span es val is = ap (λ (xs : List Node). in_front span xs val) is

pub in_front-some : (span : Span) (es : List Node) (val : Node) → (es ≡ [] → ⊥) → in_front span es val ≡ node_of span kind.SeqExpr (es ++ val ∷ [])
in_front-some span [] val some = absurd (some refl)
in_front-some span (e ∷ es) val some = refl

pub extracted_all-more : (ctx : ExprCtx) (done : List Node) (x : Node) → extracted_all ctx done ++ extracted ctx x ≡ extracted_all ctx (done ++ x ∷ [])
extracted_all-more ctx done x = flat_map_more (extracted ctx) [] done x

pub ruleset preserving = (in_front-none, in_front-some, extracted_all-more, append-nil)
