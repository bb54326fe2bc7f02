-- Where nothing gets a text, the tree stays.
use Rattle.std.proofs.Common.{◌≡◌, ℕ, suc, Bool, true, false, List, [], ◌∷◌, ◌++◌, map, Option, Some, None, refl, sym, ap, ap₂, ◌∙◌, subst}
use Rattle.ecma_kind.specs.declared.kind.Kind.{Kind}
use Rattle.ecma_kind.specs.declared.kind.Kind.TheVariants as kind
use Rattle.ecma_kind.specs.declared.span.Span.{Span}
use Rattle.ecma_tree.specs.Nodes.{node_of}
use Rattle.ecma_tree.specs.declared.node.Node.{Node, Node-F, ind-Node, out-Node, roll-Node}
use Rattle.ecma_tree.specs.declared.node.Node.TheViews.{out-roll-Node, roll-out-Node}
use Rattle.ecma_tree.proofs.Layers.{from_leaves_out}
use Rattle.ecma_scope.specs.Resolved.{is_name}
use Rattle.ecma_hygiene.specs.declared.expand.OldName.{OldName}
use Rattle.ecma_hygiene.specs.declared.naming.Named.{Named}
use Rattle.ecma_hygiene.specs.declared.spot.Standing.{Standing}
use Rattle.ecma_hygiene.specs.Ids.{Id}
use Rattle.ecma_hygiene.specs.Laws.{NothingChanges}
use Rattle.ecma_hygiene.specs.Renamed.{Texts, at_root, expanded, kind_with_text, old_name, old_name_by, renamed, renamed_at, renamed_step, shared_name, standing_in, written_from, written_of}
use Rattle.ecma_hygiene.specs.Texts.{GetTexts, Had, text_in}

abbrev pub no_text : Texts
no_text id = None

none-by : (span : Span) (k : Kind) → old_name_by no_text span k ≡ None
none-by span (kind.Ident sym ctxt optional) = refl
none-by span _ = refl

none-old : (name : Option Node) → old_name no_text name ≡ None
none-old (Some node) = none-by (out-Node node).span (out-Node node).kind
none-old None = refl

same-kind : (named : Bool) (k : Kind) → kind_with_text no_text named k ≡ k
same-kind false (kind.Ident sym ctxt optional) = refl
same-kind false _ = refl
same-kind true k = refl

abbrev pub Stays : Node → Type 0
Stays n = (stands : Standing) → renamed_at no_text n stands ≡ n

abbrev AllStay : List Node → Type 0
AllStay ns = (stands : ℕ → Standing) (i : ℕ) → written_from stands i (map (renamed_at no_text) ns) ≡ ns

all-stay : (ns : List ((n : Node) × Stays n)) → AllStay (map (λ e. e.0) ns)
all-stay [] stands i = refl
all-stay (n ∷ ns) stands i = ap₂ (λ a rest. a ∷ rest) (n.1 (stands i)) (all-stay ns stands (suc i))

layer-stays : (n : Node) → AllStay (out-Node n).children → Stays n
layer-stays n children stands =
    ap (λ f. f stands) (from_leaves_out (Standing → Node) (renamed_step no_text) n)
    ∙ ap (λ (o : Option OldName). expanded o (written_of no_text stands n (written_from (standing_in stands n) 0 (map (renamed_at no_text) (out-Node n).children)))) (none-old (shared_name stands n))
    ∙ (λ j. node_of (out-Node n).span (same-kind (is_name stands.role) (out-Node n).kind j) (children (standing_in stands n) 0 j))
    ∙ roll-out-Node n

pub stays : (n : Node) → Stays n
stays = ind-Node Stays (λ x y is.
    layer-stays (roll-Node x) (subst AllStay (ap (λ (z : Node-F Node). z.children) is ∙ sym (ap (λ (z : Node-F Node). z.children) (out-roll-Node x))) (all-stay y.children)))

none-get : (may_keep : Bool) (had : Had) (ids : List Id) (names : List Named) → ids ≡ [] → GetTexts may_keep had ids names → names ≡ []
none-get may_keep had [] [] none gets = refl
none-get may_keep had [] (n ∷ ns) none gets = absurd gets
none-get may_keep had (id ∷ ids) names none gets = cc

pub nothing-changes : NothingChanges
nothing-changes tree written h new changed =
    let none-new = none-get true _ _ h.texts.new new h.texts.of_new in
    let none-changed = none-get false _ _ h.texts.changed changed h.texts.of_changed in
    let none : h.names ≡ [] = h.texts.are ∙ ap₂ (λ (a b : List Named). a ++ b) none-new none-changed in
    h.is ∙ ap (λ (ns : List Named). renamed (text_in ns) tree) none ∙ stays tree at_root

pub ruleset staying = (nothing-changes)
