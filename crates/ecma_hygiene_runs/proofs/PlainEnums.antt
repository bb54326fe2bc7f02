-- A plain tree has no enums.
use Rattle.std.proofs.Common.{◌≡◌, refl, sym, ap, ◌∙◌, subst, List, [], ◌∷◌, map, Bool, true, not, ◌&&◌}
use Rattle.std.specs.List.{list_all}
use Rattle.ecma_kind.specs.declared.kind.Kind.{Kind}
use Rattle.ecma_kind.specs.declared.kind.Kind.TheVariants as kind
use Rattle.ecma_tree.specs.declared.node.Node.{Node, Node-F, ind-Node}
use Rattle.ecma_tree.specs.declared.node.Node.TheViews.{out-roll-Node}
use Rattle.ecma_tree.proofs.Layers.{from_leaves-roll}
use Rattle.ecma_hygiene.proofs.Telling.{and-left, and-right, true-false}
use Rattle.ecma_runs.specs.Enums.{is_enum}
use Rattle.ecma_runs.proofs.EnumTrees.{Lacks, lacks_layer}
use Rattle.ecma_runs.proofs.Kept.{AllNodes}
use Rattle.ecma_hygiene_runs.specs.Plain.{is_plain, plain_by, plain_step}

kind-lacks : (k : Kind) (cs : List Node) → plain_by k cs ≡ true → not (is_enum k) ≡ true
kind-lacks (kind.TsEnumDecl declare is_const) cs p = absurd (true-false p refl)
kind-lacks kind.TsEnumMember cs p = absurd (true-false p refl)
kind-lacks _ cs p = refl

abbrev PlainLacks : Node → Type 0
PlainLacks n = is_plain n ≡ true → Lacks n

each-lacks : (ns : List ((n : Node) × PlainLacks n)) → list_all (λ b. b) (map is_plain (map (λ e. e.0) ns)) ≡ true → AllNodes Lacks (map (λ e. e.0) ns)
each-lacks [] p = tt
each-lacks (n ∷ ns) p =
    let a = is_plain n.0 in
    let b = list_all (λ b. b) (map is_plain (map (λ e. e.0) ns)) in (n.1 (and-left a b p), each-lacks ns (and-right a b p))

pub plain-lacks : (n : Node) → PlainLacks n
plain-lacks = ind-Node PlainLacks (λ x y is p.
    let a = plain_by x.kind x.children in
    let b = list_all (λ b. b) (map is_plain x.children) in
    let plain : a && b ≡ true = sym (from_leaves-roll Bool plain_step x ∙ ap (λ (z : Node-F Node). plain_by z.kind z.children && b) (out-roll-Node x)) ∙ p in
    let below = subst (λ cs. list_all (λ b. b) (map is_plain cs) ≡ true → AllNodes Lacks cs) (ap (λ (z : Node-F Node). z.children) is) (each-lacks y.children) in
    lacks_layer x (kind-lacks x.kind x.children (and-left a b plain)) (below (and-right a b plain)))
