-- The equations of what a value is by its form.
use Rattle.std.proofs.Common.{◌≡◌, ℕ, zero, suc, Bool, false, List, [], ◌∷◌, map, get_or, length, Some, None, refl, ap, slice_get}
use Rattle.std.proofs.lemmas.List.{length-map}
use Rattle.ecma_tree.specs.declared.node.Node.{Node, fold_out-Node, out-Node}
use Rattle.ecma_judge.specs.Values.{is_immutable, is_immutable_by, is_immutable_step, is_text, is_text_by, is_text_step}

module _ (f : Node → Bool) where
  get_or-some : (ns : List Node) (i : ℕ) (x : Node) → slice_get ns i ≡ Some x → get_or (map f ns) i false ≡ f x
  get_or-some [] i x at = cc
  get_or-some (y ∷ ys) zero x at = let same : y ≡ x = cc in ap f same
  get_or-some (y ∷ ys) (suc i) x at = get_or-some ys i x at

  get_or-none : (ns : List Node) (i : ℕ) → slice_get ns i ≡ None → get_or (map f ns) i false ≡ false
  get_or-none [] i at = refl
  get_or-none (y ∷ ys) zero at = cc
  get_or-none (y ∷ ys) (suc i) at = get_or-none ys i at

pub is_text-some : (ns : List Node) (i : ℕ) (x : Node) → slice_get ns i ≡ Some x → get_or (map is_text ns) i false ≡ is_text x
is_text-some = get_or-some is_text

pub is_text-none : (ns : List Node) (i : ℕ) → slice_get ns i ≡ None → get_or (map is_text ns) i false ≡ false
is_text-none = get_or-none is_text

pub is_text-out : (n : Node) → is_text n ≡ is_text_by (out-Node n).kind (map is_text (out-Node n).children)
is_text-out = fold_out-Node Bool is_text_step

pub count-texts : (ns : List Node) → length (map is_text ns) ≡ length ns
count-texts ns = length-map ns is_text

pub ruleset are_texts = (is_text-some, is_text-none, is_text-out, count-texts)

pub immutable-some : (ns : List Node) (i : ℕ) (x : Node) → slice_get ns i ≡ Some x → get_or (map is_immutable ns) i false ≡ is_immutable x
immutable-some = get_or-some is_immutable

pub immutable-none : (ns : List Node) (i : ℕ) → slice_get ns i ≡ None → get_or (map is_immutable ns) i false ≡ false
immutable-none = get_or-none is_immutable

pub immutable-out : (n : Node) → is_immutable n ≡ is_immutable_by (out-Node n).kind (map is_immutable (out-Node n).children)
immutable-out = fold_out-Node Bool is_immutable_step

pub ruleset immutables = (immutable-some, immutable-none, immutable-out)
