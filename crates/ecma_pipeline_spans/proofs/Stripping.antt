-- A tree without its types has its identifiers where they stood, as far as it has them.
use Rattle.std.proofs.Common.{ℕ, Bool, true, false, cond, List, ◌∷◌, map, filter, refl, sym, subst}
use Rattle.ecma_kind.specs.declared.kind.Kind.{Kind}
use Rattle.ecma_kind.specs.declared.kind.Kind.TheVariants as kind
use Rattle.ecma_kind.specs.declared.span.Span.{Span}
use Rattle.ecma_tree.specs.declared.node.Node.{Node}
use Rattle.ecma_hygiene_fits.specs.Placed.{is_made_but}
use Rattle.ecma_strip.specs.Staying.{stays}
use Rattle.ecma_strip.specs.Stripping.{plain_kind, staying_nodes, stripped}
use Rattle.ecma_strip.proofs.Stripping.{stripped-roll}
use Rattle.ecma_pipeline_spans.specs.Laws.{StrippingMakesNoNames}
use Rattle.ecma_pipeline_spans.proofs.Trees.{Each, Everywhere, everywhere, more, none}
use Rattle.ecma_pipeline_spans.proofs.PlainNodes.{plain_good}
use Rattle.ecma_pipeline_spans.proofs.Throughout.{IsNot, all_not, none_is}

module _ (free : ℕ) where
  -- a node is no identifier that was made, or a free name
  abbrev IsOwn : Span → Kind → Type 0
  IsOwn = IsNot (is_made_but free)

  abbrev Good : Node → Type 0
  Good = Everywhere IsOwn

  abbrev All : List Node → Type 0
  All = Each IsOwn

  kind_own : (at : Span) (k : Kind) → IsOwn at k → IsOwn at (plain_kind k)
  unfolding plain_kind
  kind_own at (kind.Ident text ctxt optional) h = h
  kind_own at _ h = refl

  staying_good : (k : Kind) (ns : List Node) → All (map stripped (filter stays ns)) → All (map stripped ns) → All (map stripped (staying_nodes k ns))
  staying_good kind.List ns some every = some
  staying_good _ ns some every = every

  kept_good : (b : Bool) (n : Node) (ns : List Node) → Good (stripped n) → All (map stripped ns) → All (map stripped (cond b (n ∷ ns) ns))
  kept_good true n ns g h = more g h
  kept_good false n ns g h = h

  mutual
    stripped_good : {n : Node} → Good n → Good (stripped n)
    stripped_good (everywhere span k {children = cs} p h) =
        subst Good (sym (stripped-roll (record { span = span; kind = k; children = cs }))) (plain_good IsOwn refl (λ at. refl) kind_own span k p (staying_good k cs (some_good h) (every_good h)))

    some_good : {ns : List Node} → All ns → All (map stripped (filter stays ns))
    some_good none = none
    some_good (more {n = n} {ns = ns} a h) = kept_good (stays n) n (filter stays ns) (stripped_good a) (some_good h)

    every_good : {ns : List Node} → All ns → All (map stripped ns)
    every_good none = none
    every_good (more a h) = more (stripped_good a) (every_good h)

pub names_left : StrippingMakesNoNames
names_left free tree h = none_is (is_made_but free) (stripped tree) (stripped_good free (all_not (is_made_but free) tree h))
