-- What covering makes of a node, by its kind.
use Rattle.std.proofs.Common.{◌≡◌, ◌∙◌, refl, ap, Bool, true, false, List, map}
use Rattle.ecma_kind.specs.declared.span.Span.{Span}
use Rattle.ecma_kind.specs.declared.kind.Kind.{Kind}
use Rattle.ecma_kind.specs.declared.kind.Kind.TheVariants as kind
use Rattle.ecma_tree.specs.declared.node.Node.{Node, Node-F, fold-roll-Node, roll-Node}
use Rattle.ecma_tree.specs.Nodes.{node_of}
use Rattle.ecma_rules.specs.declared.target.Target.{Target}
use Rattle.ecma_rules.specs.declared.target.Target.TheVariants as target
use Rattle.ecma_rules.specs.Finishing.{each_in}
use Rattle.ecma_covers.specs.Covering.{cover_at, cover_by, cover_in, cover_step, element_cover, left_cover, name_cover, part_cover, property_cover}

pub cover_node : (at : Span) (k : Kind) (cs : List Node) (t : Target) → cover_at (node_of at k cs) t ≡ cover_by t (record { span = at; kind = k; children = each_in (cover_in t k) (map cover_at cs) })
cover_node at k cs t = ap (λ f. f t) (fold-roll-Node (Target → Node) cover_step (record { span = at; kind = k; children = cs }))

-- a pattern, or a part of one
abbrev pub is_of_pattern : Kind → Bool
is_of_pattern kind.BindingIdent = true
is_of_pattern (kind.ArrayPat optional) = true
is_of_pattern (kind.ObjectPat optional) = true
is_of_pattern kind.RestPat = true
is_of_pattern kind.AssignPat = true
is_of_pattern kind.KeyValuePatProp = true
is_of_pattern kind.AssignPatProp = true
is_of_pattern _ = false

left_keeps : (k : Kind) (p : Node-F Node) → is_of_pattern k ≡ false → left_cover k p ≡ roll-Node p
left_keeps (kind.ArrayPat optional) p h = absurd (cc)
left_keeps (kind.ObjectPat optional) p h = absurd (cc)
left_keeps _ p h = refl

name_keeps : (k : Kind) (p : Node-F Node) → is_of_pattern k ≡ false → name_cover k p ≡ roll-Node p
name_keeps kind.BindingIdent p h = absurd (cc)
name_keeps _ p h = refl

part_keeps : (k : Kind) (p : Node-F Node) → is_of_pattern k ≡ false → part_cover k p ≡ roll-Node p
part_keeps kind.BindingIdent p h = absurd (cc)
part_keeps k p h = left_keeps k p h

element_keeps : (k : Kind) (p : Node-F Node) → is_of_pattern k ≡ false → element_cover k p ≡ roll-Node p
element_keeps kind.RestPat p h = absurd (cc)
element_keeps kind.AssignPat p h = absurd (cc)
element_keeps k p h = part_keeps k p h

property_keeps : (k : Kind) (p : Node-F Node) → is_of_pattern k ≡ false → property_cover k p ≡ roll-Node p
property_keeps kind.KeyValuePatProp p h = absurd (cc)
property_keeps kind.AssignPatProp p h = absurd (cc)
property_keeps kind.RestPat p h = absurd (cc)
property_keeps _ p h = refl

-- any other node is there with its children covered
keeps : (t : Target) (p : Node-F Node) → is_of_pattern p.kind ≡ false → cover_by t p ≡ roll-Node p
keeps target.Left p h = left_keeps p.kind p h
keeps target.Head p h = part_keeps p.kind p h
keeps target.Part p h = part_keeps p.kind p h
keeps target.Rest p h = name_keeps p.kind p h
keeps target.Name p h = name_keeps p.kind p h
keeps target.Element p h = element_keeps p.kind p h
keeps target.Property p h = property_keeps p.kind p h
keeps _ p h = refl

abbrev pub covered_children : Target → Kind → List Node → List Node
covered_children t k cs = each_in (cover_in t k) (map cover_at cs)

pub covered : (at : Span) (k : Kind) (cs : List Node) (t : Target) → is_of_pattern k ≡ false → cover_at (node_of at k cs) t ≡ node_of at k (covered_children t k cs)
covered at k cs t h = cover_node at k cs t ∙ keeps t (record { span = at; kind = k; children = covered_children t k cs }) h
