-- What is made of a node of these parts: written out, renamed, and with final texts.
use Rattle.std.proofs.Common.{◌≡◌, refl, sym, ap, ◌∙◌, ℕ, List, [], ◌∷◌, map, Option, Some, None, Bool, true, false, cond, ◌&&◌}
use Rattle.ecma_kind.specs.declared.kind.Kind.{Kind}
use Rattle.ecma_kind.specs.declared.kind.Kind.TheVariants as kind
use Rattle.ecma_kind.specs.declared.span.Span.{Span}
use Rattle.ecma_tree.specs.declared.node.Node.{Node, Node-F, fold-roll-Node, out-Node, roll-Node}
use Rattle.ecma_tree.specs.declared.node.Node.TheViews.{out-roll-Node, roll-out-Node}
use Rattle.ecma_tree.specs.Nodes.{node_of}
use Rattle.ecma_tree.specs.Sorted.{is_absent}
use Rattle.ecma_tree.proofs.Layers.{from_leaves-roll}
use Rattle.ecma_scope.specs.declared.role.Role.{Role}
use Rattle.ecma_scope.specs.Resolved.{is_name}
use Rattle.ecma_scope.specs.Scopes.{is_there, role_by}
use Rattle.ecma_hygiene.specs.declared.spot.Spot.{Spot}
use Rattle.ecma_hygiene.specs.declared.spot.Spot.TheVariants as spot
use Rattle.ecma_hygiene.specs.declared.spot.Standing.{Standing}
use Rattle.ecma_hygiene.specs.Renamed.{Texts, is_sourced, key_name, kind_is_absent, lone_name, old_name, shared_by, shorthand, spot_in, with_default}
use Rattle.ecma_hygiene_scopes.proofs.Growing.{grown}
use Rattle.ecma_hygiene_scopes.proofs.KindsTurned.{turned_kind}
use Rattle.ecma_hygiene_scopes.proofs.Written.{again, again-out, all_again}
use Rattle.ecma_runs.specs.State.{Id}
use Rattle.ecma_runs.specs.Names.{renamed, renamed_ident, renamed_node}
use Rattle.ecma_hygiene_runs.specs.WrittenOut.{identifier_by, leaf_text, out_by, out_here, pattern_by, pattern_with, properties_by, properties_out, property_by, property_key_node, property_out, written_out}
use Rattle.ecma_hygiene_runs.specs.FinalTexts.{is_named_at, is_outer, has_name, all_named, named_step}

abbrev pub parts_of : Span → Kind → List Node → Node-F Node
parts_of span k children = record { span = span; kind = k; children = children }

-- written out

pub out-roll : (x : Node-F Node) → written_out (roll-Node x) ≡ out_by x.kind (map written_out x.children) (parts_of x.span x.kind (map written_out x.children))
out-roll x = fold-roll-Node Node out_here x

pub out-of : (span : Span) (k : Kind) (cs : List Node) → written_out (node_of span k cs) ≡ out_by k (map written_out cs) (parts_of span k (map written_out cs))
out-of span k cs = out-roll (parts_of span k cs)

-- a property, and properties, of these parts
abbrev pub property_of : Span → Kind → List Node → Node
property_of span (kind.Ident text ctxt optional) cs = node_of span kind.KeyValueProp (property_key_node span text ∷ node_of span (kind.Ident text ctxt optional) cs ∷ [])
property_of span k cs = node_of span k cs

abbrev pub properties_of : Span → Kind → List Node → Node
properties_of span kind.List cs = node_of span kind.List (map property_out cs)
properties_of span k cs = node_of span k cs

pub property-of : (span : Span) (k : Kind) (cs : List Node) → property_out (node_of span k cs) ≡ property_of span k cs
property-of span k cs = ap (λ z. property_by z.kind z.span (node_of span k cs)) (out-roll-Node (parts_of span k cs)) ∙ by k
  where
    by : (k : Kind) → property_by k span (node_of span k cs) ≡ property_of span k cs
    by (kind.Ident text ctxt optional) = refl
    by _ = refl

pub properties-of : (span : Span) (k : Kind) (cs : List Node) → properties_out (node_of span k cs) ≡ properties_of span k cs
properties-of span k cs = ap (λ z. properties_by z z.kind (node_of span k cs)) (out-roll-Node (parts_of span k cs)) ∙ by k
  where
    by : (k : Kind) → properties_by (parts_of span k cs) k (node_of span k cs) ≡ properties_of span k cs
    by kind.List = refl
    by _ = refl

-- what stands in the place of a property, or of properties
abbrev pub finished : Spot → Node → Node
finished spot.Properties n = properties_out n
finished spot.Property n = property_out n
finished spot.Elsewhere n = n

-- the kind stays, but for patterns
pub out-flag : (f : Kind → Bool) → f kind.KeyValuePatProp ≡ f kind.AssignPatProp → (n : Node) → f (out-Node (written_out n)).kind ≡ f (out-Node n).kind
out-flag f alike n =
    ap (λ m. f (out-Node (written_out m)).kind) (sym (roll-out-Node n)) ∙ ap (λ m. f (out-Node m).kind) (out-roll (out-Node n)) ∙ by (out-Node n).span (out-Node n).kind (map written_out (out-Node n).children)
  where
    rolled : (span : Span) (k : Kind) (cs : List Node) → f (out-Node (node_of span k cs)).kind ≡ f k
    rolled span k cs = ap (λ z. f z.kind) (out-roll-Node (parts_of span k cs))

    pattern : (o : Option (List ℕ)) (place span : Span) (name default : Node) (cs : List Node) → f (out-Node (pattern_with o place span name default (parts_of span kind.AssignPatProp cs))).kind ≡ f kind.AssignPatProp
    pattern (Some text) place span name default cs = rolled span kind.KeyValuePatProp _ ∙ alike
    pattern None place span name default cs = rolled span kind.AssignPatProp cs

    patterns : (o : Option Node) (span : Span) (name default : Node) (cs : List Node) → f (out-Node (pattern_by o span name default (parts_of span kind.AssignPatProp cs))).kind ≡ f kind.AssignPatProp
    patterns (Some id) span name default cs = pattern (leaf_text (out-Node id).kind (out-Node id).children) (out-Node id).span span name default cs
    patterns None span name default cs = rolled span kind.AssignPatProp cs

    by : (span : Span) (k : Kind) (ds : List Node) → f (out-Node (out_by k ds (parts_of span k ds))).kind ≡ f k
    by span kind.ObjectLit (p ∷ others) = rolled span kind.ObjectLit _
    by span (kind.ImportNamedSpecifier t) (a ∷ b ∷ []) = rolled span (kind.ImportNamedSpecifier t) _
    by span (kind.ExportNamedSpecifier t) (a ∷ b ∷ []) = rolled span (kind.ExportNamedSpecifier t) _
    by span kind.AssignPatProp (a ∷ b ∷ []) = patterns (identifier_by (out-Node a).kind (out-Node a).children) span a b (a ∷ b ∷ [])
    by span k ds = rolled span k ds

-- a default beside a pattern, written out
pub default-out : (span : Span) (pattern value : Node) → written_out (with_default span pattern value) ≡ with_default span (written_out pattern) (written_out value)
default-out span pattern value =
    by (kind_is_absent value) ∙ ap (λ b. cond b (written_out pattern) (node_of span kind.AssignPat (written_out pattern ∷ written_out value ∷ []))) (sym (out-flag is_absent refl value))
  where
    by : (b : Bool) → written_out (cond b pattern (node_of span kind.AssignPat (pattern ∷ value ∷ []))) ≡ cond b (written_out pattern) (node_of span kind.AssignPat (written_out pattern ∷ written_out value ∷ []))
    by true = refl
    by false = out-of span kind.AssignPat (pattern ∷ value ∷ [])

-- renamed

module _ (to : Id → Id) where
  pub renamed-of : (span : Span) (k : Kind) (cs : List Node) → renamed to (node_of span k cs) ≡ node_of span (renamed_ident to k) (map (renamed to) cs)
  renamed-of span k cs = fold-roll-Node Node (renamed_node to) (parts_of span k cs)

  pub renamed-flag : (f : Kind → Bool) → ((k : Kind) → f (renamed_ident to k) ≡ f k) → (n : Node) → f (out-Node (renamed to n)).kind ≡ f (out-Node n).kind
  renamed-flag f alike n =
      ap (λ m. f (out-Node (renamed to m)).kind) (sym (roll-out-Node n)) ∙ ap (λ m. f (out-Node m).kind) (fold-roll-Node Node (renamed_node to) (out-Node n))
      ∙ ap (λ z. f z.kind) (out-roll-Node (parts_of (out-Node n).span (renamed_ident to (out-Node n).kind) (map (renamed to) (out-Node n).children))) ∙ alike (out-Node n).kind

  absent-same : (k : Kind) → is_absent (renamed_ident to k) ≡ is_absent k
  absent-same (kind.Ident text ctxt optional) = refl
  absent-same _ = refl

  pub renamed-absent : (n : Node) → kind_is_absent (renamed to n) ≡ kind_is_absent n
  renamed-absent n = renamed-flag is_absent absent-same n

  pub renamed-default : (span : Span) (pattern value : Node) → renamed to (with_default span pattern value) ≡ with_default span (renamed to pattern) (renamed to value)
  renamed-default span pattern value =
      by (kind_is_absent value) ∙ ap (λ b. cond b (renamed to pattern) (node_of span kind.AssignPat (renamed to pattern ∷ renamed to value ∷ []))) (sym (renamed-absent value))
    where
      by : (b : Bool) → renamed to (cond b pattern (node_of span kind.AssignPat (pattern ∷ value ∷ []))) ≡ cond b (renamed to pattern) (node_of span kind.AssignPat (renamed to pattern ∷ renamed to value ∷ []))
      by true = refl
      by false = renamed-of span kind.AssignPat (pattern ∷ value ∷ [])

-- with final texts

-- the identifier of a node of these parts whose text is also a key, or a name that the module has for others
abbrev pub shared_of : Standing → Kind → Node → List Node → Option Node
shared_of stands (kind.Ident sym ctxt optional) node cs = shorthand stands.spot node
shared_of stands (kind.ImportNamedSpecifier is_type_only) node cs = lone_name cs
shared_of stands (kind.ExportNamedSpecifier is_type_only) node cs = cond (is_sourced stands.role) None (lone_name cs)
shared_of stands kind.AssignPatProp node cs = key_name cs
shared_of stands _ node cs = None

shared-is : (stands : Standing) (k : Kind) (n : Node) → shared_by stands k n ≡ shared_of stands k n (out-Node n).children
unfolding shared_by
shared-is stands (kind.Ident sym ctxt optional) n = refl
shared-is stands (kind.ImportNamedSpecifier t) n = refl
shared-is stands (kind.ExportNamedSpecifier t) n = refl
shared-is stands kind.AssignPatProp n = refl
shared-is stands _ n = refl

abbrev pub standing_of : Standing → Kind → List Node → ℕ → Standing
standing_of stands k cs i = record { role = role_by stands.role k (is_there cs 1) i; spot = spot_in stands.spot k i }

abbrev pub contexts : (ℕ → ℕ) → List ℕ → ℕ → ℕ
contexts onto text ctxt = onto ctxt

module _ (onto : ℕ → ℕ) (texts : Texts) where
  -- a node with its texts and other contexts, and children, of which the first is the one at i
  abbrev pub become : Node → Standing → Node
  become = again (contexts onto) texts

  abbrev pub all_become : (ℕ → Standing) → ℕ → List Node → List Node
  all_become = all_again (contexts onto) texts

  pub final-roll : (empty : onto 0 ≡ 0) (x : Node-F Node) (stands : Standing) → become (roll-Node x) stands
      ≡ grown (old_name texts (shared_of stands x.kind (roll-Node x) x.children)) x.span (turned_kind (contexts onto) texts (is_name stands.role) x.kind) (all_become (standing_of stands x.kind x.children) 0 x.children)
  final-roll empty x stands =
      let n = roll-Node x in
      again-out (contexts onto) texts (λ text. empty) n stands
      ∙ ap (λ o. grown (old_name texts o) (out-Node n).span (turned_kind (contexts onto) texts (is_name stands.role) (out-Node n).kind) (all_become (standing_of stands (out-Node n).kind (out-Node n).children) 0 (out-Node n).children))
      (shared-is stands (out-Node n).kind n)
      ∙ ap (λ z. grown (old_name texts (shared_of stands z.kind n z.children)) z.span (turned_kind (contexts onto) texts (is_name stands.role) z.kind) (all_become (standing_of stands z.kind z.children) 0 z.children))
      (out-roll-Node x)

-- and whether it is named rightly
pub named-roll : (x : Node-F Node) (r : Role)
    → is_named_at (roll-Node x) r ≡ is_outer (is_name r) x.kind && (has_name x.kind x.children && all_named (role_by r x.kind (is_there x.children 1)) 0 (map is_named_at x.children))
named-roll x r =
    ap (λ f. f r) (from_leaves-roll (Role → Bool) named_step x)
    ∙ ap (λ z. is_outer (is_name r) z.kind && (has_name z.kind z.children && all_named (role_by r z.kind (is_there z.children 1)) 0 (map is_named_at x.children))) (out-roll-Node x)
