-- A module by its sorts is one with its enums written.
use Rattle.std.proofs.Common.{ℕ, List, Option, Some, None}
use Rattle.ecma_kind.specs.declared.ident.Ident.{Ident}
use Rattle.ecma_kind.specs.declared.kind.Kind.{Kind}
use Rattle.ecma_kind.specs.declared.kind.Kind.TheVariants as kind
use Rattle.ecma_kind.specs.declared.span.Span.{Span}
use Rattle.ecma_tree.specs.declared.node.Node.{Node, out-Node}
use Rattle.ecma_lower_enums.specs.declared.known.KnownEnums.{KnownEnums}
use Rattle.ecma_lower_enums.specs.Known.{alias_by, name_at}
use Rattle.ecma_lower_enums.specs.Lowered.{known_enums}
use Rattle.ecma_lower_enums_sources.specs.Laws.{WrittenEnumsAreSorted}
use Rattle.ecma_lower_enums_sources.proofs.Relating.{Facts, IsKeyed, module-written}
use Rattle.ecma_lower_enums_sources.proofs.Relation.{IfN}
use Rattle.ecma_lower_enums_sources.proofs.Sorted.{module-sorted}
use Rattle.ecma_lower_enums_sources.proofs.Trees.{anywhere}

-- of names nothing is asked
abbrev pub N : Ident → Type 0
N of = Unit

abbrev pub K : List ℕ → Type 0
K sym = Unit

abbrev pub Q : Node → Type 0
Q n = Unit

any-name : (enums : KnownEnums) (o : Option Ident) → IfN enums N K o
any-name enums None = tt
any-name enums (Some of) = tt

any-key : (enums : KnownEnums) (span : Span) (k : Kind) → IsKeyed enums N K Q span k
any-key enums span (kind.Ident sym ctxt optional) = tt
any-key enums span _ = tt

pub facts : (enums : KnownEnums) → Facts enums N K Q
facts enums = record {
  idents = λ n q. any-key enums (out-Node n).span (out-Node n).kind;
  parts = λ n q is. any-name enums (name_at (out-Node n).children);
  aliases = λ sym ctxt. any-name enums (alias_by sym ctxt enums.names);
}

pub written_enums_are_sorted : WrittenEnumsAreSorted
written_enums_are_sorted may_change keeps_constants members tree sorted =
    let enums = known_enums may_change keeps_constants members tree in
    module-sorted enums N K (module-written enums N K Q (facts enums) tree (anywhere Q (λ n. tt) tree) sorted)
