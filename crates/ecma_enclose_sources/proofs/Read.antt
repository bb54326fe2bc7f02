-- A tree as it is read is one with parentheses added.
use Rattle.std.proofs.Common.{sym, subst}
use Rattle.ecma_kind.specs.declared.shapes.Sort.TheVariants as sort
use Rattle.ecma_tree.specs.declared.node.Node.{Node}
use Rattle.ecma_tree.specs.Sorted.{one}
use Rattle.ecma_plain.specs.Forms.{IsBareUnquestioned}
use Rattle.ecma_plain.specs.Items.{HasUtf8Hashbang}
use Rattle.ecma_enclose.specs.Enclosing.{enclosed}
use Rattle.ecma_enclose_fits.specs.Laws.{EnclosedTreesFit}
use Rattle.ecma_enclose_fits.proofs.Adding.{Adds, enclosed_adds}
use Rattle.ecma_enclose_fits.proofs.Alike.{kind_same}
use Rattle.ecma_enclose_sources.specs.Laws.{EnclosedTreesAreRead}
use Rattle.ecma_enclose_sources.proofs.Everywhere.{everywhere_added}

pub trees_are_read : EnclosedTreesFit → EnclosedTreesAreRead
trees_are_read fit tree is =
    let r : Adds tree (enclosed tree) = enclosed_adds tree (one sort.Module, is.fits.sorted) in
    record {
      fits = fit tree is.fits;
      bare = everywhere_added IsBareUnquestioned tt r is.bare;
      hashbang = subst HasUtf8Hashbang (sym (kind_same r)) is.hashbang;
    }
