-- The equations of a tree in which `super(..)` sets a name.
use Rattle.std.proofs.Common.{◌≡◌, ◌∙◌, Bool, true, false, List, map, sym, ap, if◌then◌else◌}
use Rattle.ecma_kind.specs.declared.ident.Ident.{Ident}
use Rattle.ecma_tree.specs.Nodes.{node_of}
use Rattle.ecma_tree.specs.declared.node.Node.{Node, out-Node}
use Rattle.ecma_tree.proofs.Layers.{from_leaves_out}
use Rattle.ecma_function.specs.Calls.{is_super_call}
use Rattle.ecma_function.specs.This.{initialised, initialised_over, initialising_step, is_class, setting_this}

module _ (t : Ident) (n : Node) where
  abbrev over : List Node → Node
  over children = initialised_over t (is_super_call n) (node_of (out-Node n).span (out-Node n).kind children)

  initialised-out : initialised t n ≡ (if is_class (out-Node n).kind then n else over (map (initialised t) (out-Node n).children))
  initialised-out = from_leaves_out Node (initialising_step t) n

  -- a class stays
  pub class-stays : is_class (out-Node n).kind ≡ true → n ≡ initialised t n
  class-stays h = sym (initialised-out ∙ ap (λ (b : Bool). if b then n else over (map (initialised t) (out-Node n).children)) h)

  -- a call, and any other node
  pub node-set : (b : Bool) (m : Node) (inside : List Node) → is_class (out-Node n).kind ≡ false → b ≡ is_super_call n
      → m ≡ node_of (out-Node n).span (out-Node n).kind inside → inside ≡ map (initialised t) (out-Node n).children
      → initialised_over t b m ≡ initialised t n
  node-set b m inside h is made done =
      ap (λ (c : Bool). initialised_over t c m) is
      ∙ ap (λ (z : Node). initialised_over t (is_super_call n) z) (made ∙ ap (node_of (out-Node n).span (out-Node n).kind) done)
      ∙ sym (initialised-out ∙ ap (λ (c : Bool). if c then n else over (map (initialised t) (out-Node n).children)) h)
