-- What is read as a module is a source where it needs no lowering and no name is declared again where it may not be.
use Rattle.std.proofs.Common.{◌≡◌, ◌∙◌, List, ◌∷◌, map, refl, sym, ap, ap₂}
use Rattle.ecma_kind.specs.declared.kind.Kind.{Kind}
use Rattle.ecma_kind.specs.declared.kind.Kind.TheVariants as kind
use Rattle.ecma_tree.specs.declared.node.Node.{Node, fold-roll-Node}
use Rattle.ecma_tree.specs.Changing.{changed_here}
use Rattle.ecma_tree.specs.Contexts.{kind_with_context}
use Rattle.ecma_tree.specs.Nodes.{node_of}
use Rattle.ecma_text_leaves.specs.Everywhere.{Each, Everywhere, everywhere, more, none}
use Rattle.ecma_text_fits.specs.Laws.{WhatIsReadFits}
use Rattle.ecma_plain.specs.Forms.{IsBareUnquestioned}
use Rattle.ecma_text_plain.specs.Laws.{ReadLeavesAreBare}
use Rattle.ecma_text_plain.proofs.Hashbangs.{read_utf8}
use Rattle.ecma_scope.specs.Laws.{without_contexts}
use Rattle.ecma_text_sources.specs.Laws.{ReadTreesAreRead, TreesThatNeedNoLoweringAreSources}
use Rattle.ecma_text_sources.proofs.TypesAlone.{types_alone}

pub read_trees : WhatIsReadFits → ReadLeavesAreBare → ReadTreesAreRead
read_trees read_fits read_bare text mode bound tree utf8 small e =
    record { fits = read_fits text mode bound tree utf8 small e; bare = read_bare text mode bound tree utf8 e; hashbang = read_utf8 text mode bound tree utf8 e }

-- a kind without a context stays as it is without contexts
abbrev bare : Kind → Kind
bare = kind_with_context (λ text ctxt. 0)

kind_stays : (k : Kind) → IsBareUnquestioned k → bare k ≡ k
kind_stays (kind.Ident text ctxt optional) p = ap (λ c. kind.Ident text c optional) (sym p.1)
kind_stays _ p = refl

mutual
  pub tree_stays : {n : Node} → Everywhere IsBareUnquestioned n → without_contexts n ≡ n
  tree_stays (everywhere at k {children = cs} p h) = fold-roll-Node Node (changed_here (λ span. span) bare) (record { span = at; kind = k; children = cs }) ∙ ap₂ (node_of at) (kind_stays k p) (each_stays h)

  each_stays : {ns : List Node} → Each IsBareUnquestioned ns → map without_contexts ns ≡ ns
  each_stays none = refl
  each_stays (more a h) = ap₂ (λ n ns. n ∷ ns) (tree_stays a) (each_stays h)

pub low_sources : TreesThatNeedNoLoweringAreSources
low_sources tree is low distinct = record { fits = is.fits; bare = tree_stays is.bare; distinct = distinct; types = types_alone tree is.fits low }

pub ruleset sources = (low_sources)
