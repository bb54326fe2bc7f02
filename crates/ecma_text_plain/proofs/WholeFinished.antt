-- The finished tree of a whole raw one is whole.
use Rattle.std.proofs.Common.{◌≡◌, ◌∙◌, ℕ, suc, true, false, not, ◌||◌, List, [], ◌∷◌, ◌++◌, inl, inr, map, refl, sym, ap, ap₂, subst}
use Rattle.ecma_kind.specs.declared.span.Span.{Span}
use Rattle.ecma_kind.specs.declared.operators.AssignOp.{AssignOp}
use Rattle.ecma_kind.specs.declared.operators.AssignOp.TheVariants.{Assign}
use Rattle.ecma_kind.specs.declared.kind.Kind.{Kind}
use Rattle.ecma_kind.specs.declared.kind.Kind.TheVariants as kind
use Rattle.ecma_tree.specs.declared.node.Node.{Node, Node-F, ind-Node, out-Node, roll-Node}
use Rattle.ecma_tree.specs.Nodes.{absent, dummy_span, node_of}
use Rattle.ecma_tree.specs.Sorted.{is_absent}
use Rattle.ecma_grammar.specs.trees.Parts.{kind_of}
use Rattle.ecma_rules.specs.declared.target.Target.{Target}
use Rattle.ecma_rules.specs.declared.target.Target.TheVariants as target
use Rattle.ecma_rules.specs.Finishing.{binding, default_by, each_in, element_by, finished_at, finished_by, left_by, name_by, part_by, property_by}
use Rattle.ecma_rules.specs.Targets.{target_in}
use Rattle.ecma_text_leaves.proofs.Trees as trees
use Rattle.ecma_text_fits_finished.proofs.Rules.{children_made}
use Rattle.ecma_text_fits_finished.proofs.Standing.{finished_parts}
use Rattle.ecma_raw_roles.proofs.Walks.{not_true, kind_made}
use Rattle.ecma_plain.specs.Functions.{is_this_name}
use Rattle.ecma_plain.specs.Items.{is_external}
use Rattle.ecma_text_plain.proofs.GivenWhole.{one_full, two_alike}
use Rattle.ecma_text_plain.proofs.Whole.{A, G, View, append_all, is_specifier, is_unusual, more, none, shut, view, whole}

-- of one kind as of another
record Alike (is was : Kind) : Type 0 where
  missing : is_absent is ≡ is_absent was
  external : is_external is ≡ is_external was

-- the same of them are missing, and the same a `require("m")`
abbrev AreAlike : List Node → List Node → Type 0
AreAlike [] [] = Unit {0}
AreAlike (x ∷ xs) (y ∷ ys) = Alike (kind_of y) (kind_of x) × AreAlike xs ys
AreAlike xs ys = ⊥

alike_lack : (k : Kind) (xs ys : List Node) → AreAlike xs ys → is_unusual k ys ≡ is_unusual k xs
alike_lack k [] [] h = refl
alike_lack k [] (y ∷ ys) h = absurd h
alike_lack k (x ∷ xs) [] h = absurd h
alike_lack k (x ∷ []) (y ∷ []) h = one_full k y ∙ sym (one_full k x)
alike_lack k (x ∷ []) (y ∷ b ∷ ys) h = absurd h.1
alike_lack k (x ∷ a ∷ xs) (y ∷ []) h = absurd h.1
alike_lack k (x ∷ a ∷ []) (y ∷ b ∷ []) h = let t = h.1 in two_alike k x a y b t.0.external
alike_lack k (x ∷ a ∷ []) (y ∷ b ∷ d ∷ ys) h = let t = h.1 in absurd t.1
alike_lack k (x ∷ a ∷ c ∷ xs) (y ∷ b ∷ []) h = let t = h.1 in absurd t.1
alike_lack k (x ∷ a ∷ c ∷ xs) (y ∷ b ∷ d ∷ ys) h = longer k xs ys h.1.1.1
  where
    longer : (k : Kind) (xs ys : List Node) → AreAlike xs ys → is_unusual k (y ∷ b ∷ d ∷ ys) ≡ is_unusual k (x ∷ a ∷ c ∷ xs)
    longer (kind.Constructor accessibility is_optional) [] [] g = h.1.1.0.missing
    longer kind.GetterProp [] [] g = h.1.1.0.missing
    longer k [] [] g = refl
    longer k [] (z ∷ zs) g = absurd g
    longer k (z ∷ zs) [] g = absurd g
    longer (kind.Function is_generator is_async) (z ∷ []) (w ∷ []) g = h.1.0.missing
    longer kind.SetterProp (z ∷ []) (w ∷ []) g = ap₂ (λ p q. not p || q) h.1.0.missing g.0.missing
    longer k (z ∷ []) (w ∷ []) g = refl
    longer k (z ∷ []) (w ∷ v ∷ ws) g = absurd g.1
    longer k (z ∷ v ∷ zs) (w ∷ []) g = absurd g.1
    longer kind.Absent (z ∷ v ∷ zs) (w ∷ u ∷ ws) g = refl
    longer k (z ∷ v ∷ zs) (w ∷ u ∷ ws) g = refl

alike_itself : (at : Span) (k : Kind) (xs : List Node) → Alike (kind_of (node_of at k xs)) k
alike_itself at k xs = record { missing = ap is_absent (trees.kind_made at k xs); external = ap is_external (trees.kind_made at k xs) }

-- it is whole, and missing or a `require("m")` exactly where a node of a kind is
record Stands (k : Kind) (n : Node) : Type 0 where
  holds : G n
  alike : Alike (kind_of n) k

stands : (at : Span) (k to : Kind) {xs : List Node} → is_unusual to xs ≡ false → is_this_name to ≡ false → A xs → is_absent to ≡ is_absent k → is_external to ≡ is_external k → Stands k (node_of at to xs)
stands at k to {xs} e q h same outer =
    let itself = alike_itself at to xs in record { holds = whole at to e q h; alike = record { missing = itself.missing ∙ same; external = itself.external ∙ outer } }

absent_holds : G absent
absent_holds = whole dummy_span kind.Absent refl refl none

binding_holds : (n : Node) → G n → G (binding n)
binding_holds n g = whole (out-Node n).span kind.BindingIdent refl refl (more g (more absent_holds none))

module _ (span : Span) (children : List Node) (all : A children) where
  abbrev parts : Kind → Node-F Node
  parts k = record { span = span; kind = k; children = children }

  typed : A (children ++ absent ∷ [])
  typed = append_all all (more absent_holds none)

  same : (k : Kind) → is_unusual k children ≡ false → is_this_name k ≡ false → Stands k (roll-Node (parts k))
  same k e q = stands span k k e q all refl refl

  named : (k : Kind) → is_unusual k children ≡ false → is_this_name k ≡ false → is_absent k ≡ false → is_external k ≡ false → Stands k (binding (roll-Node (parts k)))
  named k e q there inner = stands _ k kind.BindingIdent refl refl (more (whole span k e q all) (more absent_holds none)) (sym there) (sym inner)

  left_stands : (k : Kind) → is_unusual k children ≡ false → is_this_name k ≡ false → Stands k (left_by k (parts k))
  left_stands kind.ArrayLit e q = stands span kind.ArrayLit (kind.ArrayPat false) refl refl typed refl refl
  left_stands kind.ObjectLit e q = stands span kind.ObjectLit (kind.ObjectPat false) refl refl typed refl refl
  left_stands k e q = same k e q

  name_stands : (k : Kind) → is_unusual k children ≡ false → is_this_name k ≡ false → Stands k (name_by k (parts k))
  name_stands (kind.Ident text ctxt optional) e q = named (kind.Ident text ctxt optional) e q refl refl
  name_stands k e q = same k e q

  part_stands : (k : Kind) → is_unusual k children ≡ false → is_this_name k ≡ false → Stands k (part_by k (parts k))
  part_stands (kind.Ident text ctxt optional) e q = named (kind.Ident text ctxt optional) e q refl refl
  part_stands kind.ArrayLit e q = left_stands kind.ArrayLit e q
  part_stands kind.ObjectLit e q = left_stands kind.ObjectLit e q
  part_stands k e q = same k e q

  default_stands : (op : AssignOp) → Stands (kind.AssignExpr op) (default_by op (parts (kind.AssignExpr op)))
  default_stands Assign = stands span (kind.AssignExpr Assign) kind.AssignPat refl refl all refl refl
  default_stands op = same (kind.AssignExpr op) refl refl

  element_stands : (k : Kind) → is_unusual k children ≡ false → is_this_name k ≡ false → Stands k (element_by k (parts k))
  element_stands kind.SpreadElement e q = stands span kind.SpreadElement kind.RestPat refl refl typed refl refl
  element_stands (kind.AssignExpr op) e q = default_stands op
  element_stands (kind.Ident text ctxt optional) e q = part_stands (kind.Ident text ctxt optional) e q
  element_stands kind.ArrayLit e q = left_stands kind.ArrayLit e q
  element_stands kind.ObjectLit e q = left_stands kind.ObjectLit e q
  element_stands k e q = same k e q

  property_stands : (k : Kind) → is_unusual k children ≡ false → is_this_name k ≡ false → Stands k (property_by k (parts k))
  property_stands kind.KeyValueProp e q = stands span kind.KeyValueProp kind.KeyValuePatProp refl refl all refl refl
  property_stands kind.AssignProp e q = stands span kind.AssignProp kind.AssignPatProp refl refl all refl refl
  property_stands kind.SpreadElement e q = stands span kind.SpreadElement kind.RestPat refl refl typed refl refl
  property_stands (kind.Ident text ctxt optional) e q =
      stands _ (kind.Ident text ctxt optional) kind.AssignPatProp refl refl (more (binding_holds _ (whole span (kind.Ident text ctxt optional) e q all)) (more absent_holds none)) refl refl
  property_stands k e q = same k e q

  finished_stands : (t : Target) (k : Kind) → is_unusual k children ≡ false → is_this_name k ≡ false → Stands k (finished_by t (parts k))
  finished_stands target.Left k e q = left_stands k e q
  finished_stands target.Head k e q = part_stands k e q
  finished_stands target.Part k e q = part_stands k e q
  finished_stands target.Rest k e q = name_stands k e q
  finished_stands target.Name k e q = name_stands k e q
  finished_stands target.Element k e q = element_stands k e q
  finished_stands target.Property k e q = property_stands k e q
  finished_stands _ k e q = same k e q

-- a specifier stays one
module _ (span : Span) (children : List Node) where
  abbrev holder : Kind → Node-F Node
  holder k = record { span = span; kind = k; children = children }

  stays : (k : Kind) → is_specifier k ≡ true → Stands k (roll-Node (holder k))
  stays k s = record { holds = shut span k children s; alike = alike_itself span k children }

  shut_stands : (t : Target) (k : Kind) → is_specifier k ≡ true → Stands k (finished_by t (holder k))
  shut_stands target.Left (kind.ImportNamedSpecifier is_type_only) s = stays (kind.ImportNamedSpecifier is_type_only) s
  shut_stands _ (kind.ImportNamedSpecifier is_type_only) s = stays (kind.ImportNamedSpecifier is_type_only) s
  shut_stands target.Left (kind.ExportNamedSpecifier is_type_only) s = stays (kind.ExportNamedSpecifier is_type_only) s
  shut_stands _ (kind.ExportNamedSpecifier is_type_only) s = stays (kind.ExportNamedSpecifier is_type_only) s
  shut_stands target.Left kind.ExportNamespaceSpecifier s = stays kind.ExportNamespaceSpecifier s
  shut_stands _ kind.ExportNamespaceSpecifier s = stays kind.ExportNamespaceSpecifier s
  shut_stands t _ s = not_true s

abbrev Keeps : Node → Type 0
Keeps n = G n → (t : Target) → Stands (kind_of n) (finished_at n t)

record AllStand (ns : List Node) (finished : List Node) : Type 0 where
  hold : A finished
  alike : AreAlike ns finished

all_keep : (es : List ((n : Node) × Keeps n)) → A (map (λ e. e.0) es) → (target_of : ℕ → Target) → AllStand (map (λ e. e.0) es) (each_in target_of (map finished_at (map (λ e. e.0) es)))
all_keep [] h target_of = record { hold = none; alike = tt }
all_keep (e ∷ es) (more a h) target_of =
    let first = e.1 a (target_of 0) in
    let others = all_keep es h (λ i. target_of (suc i)) in
    record { hold = more first.holds others.hold; alike = (first.alike, others.alike) }

node_keeps : (x : Node-F Node) → (A x.children → (target_of : ℕ → Target) → AllStand x.children (each_in target_of (map finished_at x.children))) → Keeps (roll-Node x)
node_keeps x keeps g t =
    subst (λ (n : Node). Stands (kind_of (roll-Node x)) n) (sym (finished_parts x t)) (subst (λ k. Stands k (finished_by t (record { span = x.span; kind = x.kind; children = each_in (target_in t x.kind) (map finished_at x.children) }))) (sym (kind_made x)) (by_view seen))
  where
    seen : View x.kind x.children
    seen = subst (λ (k : Kind). View k x.children) (kind_made x) (subst (λ (cs : List Node). View (kind_of (roll-Node x)) cs) (children_made x) (view g))

    by_view : View x.kind x.children → Stands x.kind (finished_by t (record { span = x.span; kind = x.kind; children = each_in (target_in t x.kind) (map finished_at x.children) }))
    by_view (inl v) =
        let each = keeps v.2 (target_in t x.kind) in
        finished_stands x.span (each_in (target_in t x.kind) (map finished_at x.children)) each.hold t x.kind (alike_lack x.kind x.children (each_in (target_in t x.kind) (map finished_at x.children)) each.alike ∙ v.0) v.1
    by_view (inr s) = shut_stands x.span (each_in (target_in t x.kind) (map finished_at x.children)) t x.kind s

pub finished_whole : (n : Node) → G n → (t : Target) → G (finished_at n t)
finished_whole n g t = (keeps n g t).holds
  where
    keeps : (n : Node) → Keeps n
    keeps = ind-Node Keeps (λ x y is. node_keeps x (subst (λ (z : Node-F Node). A z.children → (target_of : ℕ → Target) → AllStand z.children (each_in target_of (map finished_at z.children))) is (all_keep y.children)))
