-- The equations of what stands under types.
use Rattle.std.proofs.Common.{◌≡◌, ◌∙◌, Bool, true, false, ◌||◌, ◌&&◌, codes, List, [], ◌∷◌, Some, None, map, slice_get, refl, ap, sym}
use Rattle.ecma_kind.specs.Sorts.{is_type_wrapper}
use Rattle.ecma_kind.specs.declared.kind.Kind.{Kind}
use Rattle.ecma_tree.specs.declared.node.Node.{Node, fold-Node, fold_out-Node, out-Node}
use Rattle.ecma_rules.specs.Children.{is_named}
use Rattle.ecma_rules.specs.Statements.{is_text}
use Rattle.ecma_rules.specs.Targets.{first_is}
use Rattle.ecma_enclose.specs.Enclosing.{under_step}

module _ (is : Kind → Bool) where
  abbrev pub under : Node → Bool
  under = fold-Node Bool (under_step is)

  pub under-out : (n : Node) → under n ≡ (is (out-Node n).kind || (is_type_wrapper (out-Node n).kind && first_is (map under (out-Node n).children)))
  under-out = fold_out-Node Bool (under_step is)

  first-some : (nodes : List Node) (x : Node) → slice_get nodes 0 ≡ Some x → first_is (map under nodes) ≡ under x
  first-some [] x at = cc
  first-some (n ∷ ns) x at = let same : n ≡ x = cc in ap under same

  first-none : (nodes : List Node) → slice_get nodes 0 ≡ None → first_is (map under nodes) ≡ false
  first-none [] at = refl
  first-none (n ∷ ns) at = cc

  plain : (n : Node) → is (out-Node n).kind ≡ true → true ≡ under n
  plain n h = sym (under-out n ∙ rw h refl)

  other : (n : Node) → is (out-Node n).kind ≡ false → is_type_wrapper (out-Node n).kind ≡ false → false ≡ under n
  other n h w = sym (under-out n ∙ rw (h, w) refl)

  wrapped : (n x : Node) → is (out-Node n).kind ≡ false → is_type_wrapper (out-Node n).kind ≡ true → slice_get (out-Node n).children 0 ≡ Some x → under x ≡ under n
  wrapped n x h w at = sym (under-out n ∙ rw (h, w) (first-some (out-Node n).children x at))

  empty : (n : Node) → is (out-Node n).kind ≡ false → is_type_wrapper (out-Node n).kind ≡ true → slice_get (out-Node n).children 0 ≡ None → false ≡ under n
  empty n h w at = sym (under-out n ∙ rw (h, w) (first-none (out-Node n).children at))

pub text-plain : (n : Node) → is_text (out-Node n).kind ≡ true → true ≡ under is_text n
text-plain = plain is_text

pub text-other : (n : Node) → is_text (out-Node n).kind ≡ false → is_type_wrapper (out-Node n).kind ≡ false → false ≡ under is_text n
text-other = other is_text

pub text-wrapped : (n x : Node) → is_text (out-Node n).kind ≡ false → is_type_wrapper (out-Node n).kind ≡ true → slice_get (out-Node n).children 0 ≡ Some x → under is_text x ≡ under is_text n
text-wrapped = wrapped is_text

pub text-empty : (n : Node) → is_text (out-Node n).kind ≡ false → is_type_wrapper (out-Node n).kind ≡ true → slice_get (out-Node n).children 0 ≡ None → false ≡ under is_text n
text-empty = empty is_text

pub ruleset texts = (text-plain, text-other, text-wrapped, text-empty)

abbrev is_async : Kind → Bool
is_async = is_named (codes "async")

pub async-plain : (n : Node) → is_async (out-Node n).kind ≡ true → true ≡ under is_async n
async-plain = plain is_async

pub async-other : (n : Node) → is_async (out-Node n).kind ≡ false → is_type_wrapper (out-Node n).kind ≡ false → false ≡ under is_async n
async-other = other is_async

pub async-wrapped : (n x : Node) → is_async (out-Node n).kind ≡ false → is_type_wrapper (out-Node n).kind ≡ true → slice_get (out-Node n).children 0 ≡ Some x → under is_async x ≡ under is_async n
async-wrapped = wrapped is_async

pub async-empty : (n : Node) → is_async (out-Node n).kind ≡ false → is_type_wrapper (out-Node n).kind ≡ true → slice_get (out-Node n).children 0 ≡ None → false ≡ under is_async n
async-empty = empty is_async

pub ruleset asyncs = (async-plain, async-other, async-wrapped, async-empty)
