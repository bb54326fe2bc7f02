-- What was read as a plain module is plain, so its layout is read again.
use Rattle.std.proofs.Common.{◌≡◌, ◌∙◌, true, false, sym, ap, subst}
use Rattle.ecma_tree.specs.declared.node.Node.{Node}
use Rattle.ecma_tree.specs.Spans.{without_spans}
use Rattle.ecma_print.specs.Explicit.{explicit}
use Rattle.ecma_text_leaves.specs.Everywhere.{Everywhere}
use Rattle.ecma_rules.specs.Children.{kind_of}
use Rattle.ecma_text_plain.specs.Laws.{FunctionsAreUsualByTests, ReadPlainFunctionsHaveBodies, ReadPlainModulesHavePlainItems, ReadPlainNamesAreNotThis, ReadPlainTreesAreTaken}
use Rattle.ecma_round_trip.specs.Laws.{WhatFitsIsReadAgain}
use Rattle.ecma_scope.specs.Laws.{without_contexts}
use Rattle.ecma_plain.specs.Read.{IsRead, IsReadPlain}
use Rattle.ecma_text_sources.specs.Laws.{ReadTreesAreRead}
use Rattle.ecma_text_sources.proofs.Sources.{tree_stays}
use Rattle.ecma_modules.specs.Modules.{plain}
use Rattle.ecma_round_trip_texts.specs.Laws.{RelaidModulesAreReadAgain}
use Rattle.ecma_plain.specs.Forms.{IsTaken}
use Rattle.ecma_plain.specs.Functions.{functions}
use Rattle.ecma_plain.specs.Items.{HasUtf8Hashbang, has_plain_items}

pub record Laws : Type 0 where
  pub reads : ReadTreesAreRead
  pub taken : ReadPlainTreesAreTaken
  pub items : ReadPlainModulesHavePlainItems
  pub bodies : ReadPlainFunctionsHaveBodies
  pub names : ReadPlainNamesAreNotThis
  pub usual : FunctionsAreUsualByTests
  pub again : WhatFitsIsReadAgain

-- a tree without contexts is itself where none has one
plain_by : (tree : Node) → without_contexts tree ≡ tree → IsRead tree → Everywhere IsTaken tree → (functions tree).has_unusual ≡ false → has_plain_items false tree ≡ true → IsReadPlain false tree
plain_by tree bare read taken usual items = record {
  fits = read.fits;
  taken = subst (Everywhere IsTaken) (sym bare) taken;
  usual = ap (λ t. (functions t).has_unusual) bare ∙ usual;
  items = ap (has_plain_items false) bare ∙ items;
  hashbang = subst (λ t. HasUtf8Hashbang (kind_of t)) (sym bare) read.hashbang;
}

pub relaid_modules : Laws → RelaidModulesAreReadAgain
relaid_modules laws text bound tree utf8 small reads =
    let read : IsRead tree = laws.reads text (plain false) bound tree utf8 small reads in
    let bare : without_contexts tree ≡ tree = tree_stays read.bare in
    let usual = laws.usual tree (laws.bodies text false bound tree utf8 reads) (laws.names text false bound tree utf8 reads) in
    let is_plain = plain_by tree bare read (laws.taken text false bound tree utf8 reads) usual (laws.items text false bound tree utf8 reads) in
    let again = laws.again false tree is_plain in
    record { again = again.0; plain = again.1; same = again.2 ∙ ap (λ t. without_spans (explicit t)) bare }
