use Rattle.std.proofs.Common.{◌≡◌, ◌∙◌, IfOk, [], ◌∷◌, false, codes, ap, ap₂, subst}
use Rattle.ecma_kind.specs.declared.kind.Kind.TheVariants as kind
use Rattle.ecma_tree.specs.Nodes.{dummy_span, node_of}
use Rattle.ecma_tree.specs.declared.node.Node.{Node}
use Rattle.ecma_utils.specs.Quotes.{name_of}
use Rattle.ecma_lower.proofs.head.create_specifier.Goals as goal

pub returns : goal.returns
returns c =
    let imported : c.in_ok-imported.imported ≡ name_of 0 dummy_span (codes "createRequire") =
    c.in_ok-imported.ensures {u = tt} ∙ ap (λ ctxt. name_of ctxt dummy_span (codes "createRequire")) c.empty-empty.ensures in
    subst (λ (n : Node). IfOk c.import_named_specifier.result (λ node. node ≡ n))
    (ap₂ (λ (a b : Node). node_of dummy_span (kind.ImportNamedSpecifier false) (a ∷ b ∷ [])) c.of_ident-local.ensures imported)
    c.import_named_specifier.ensures
