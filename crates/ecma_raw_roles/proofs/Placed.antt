-- Raw nodes that are what they have to be where they stand, by their children.
use Rattle.std.proofs.Common.{◌≡◌, ◌∙◌, ℕ, suc, Bool, true, false, not, ◌&&◌, ◌||◌, nat_eq, cond, slice_get, List, [], ◌∷◌, ◌++◌, map, Option, None, refl, sym, ap, subst, arith}
use Rattle.ecma_kind.specs.declared.span.Span.{Span}
use Rattle.ecma_kind.specs.declared.kind.Kind.{Kind}
use Rattle.ecma_kind.specs.declared.kind.Kind.TheVariants as kind
use Rattle.ecma_tree.specs.declared.node.Node.{Node, Node-F, out-Node, roll-Node}
use Rattle.ecma_tree.specs.declared.node.Node.TheViews.{roll-out-Node}
use Rattle.ecma_tree.specs.Nodes.{absent, dummy_span, node_of}
use Rattle.ecma_tree.proofs.Layers.{from_leaves-roll}
use Rattle.ecma_rules.specs.Failing.{failing_here, failing_step, first_failing, least_from}
use Rattle.ecma_rules.specs.Supers.{is_private_name, is_super_member}
use Rattle.ecma_rules.specs.Children.{of_kind}
use Rattle.ecma_grammar.specs.trees.Parts.{kind_of, children_of}
use Rattle.ecma_fits.specs.declared.role.Role.{Role}
use Rattle.ecma_fits.specs.declared.role.Role.TheVariants as role
use Rattle.ecma_fits.specs.Roles.{is_wrong_name, may_be, role_in}
use Rattle.ecma_raw_roles.specs.RawRoles.{HasRawRole, inner_role, is_parameter, is_displaced, may_be_raw, raw_role_in, usual_role_in}
use Rattle.ecma_raw_roles.proofs.Walks.{not_true, kind_made}
use Rattle.ecma_fits.proofs.Walks.{both_none, neither_least, not_failing, shifted}

-- the walk over the raw tree

abbrev pub raw_walk : Node → Role → Option ℕ
raw_walk = first_failing Role (λ r node. failing_here (is_displaced r node) node) inner_role

abbrev pub displaced_by : Role → Kind → Bool
displaced_by r k = is_wrong_name r k || not (may_be_raw r k)

pub raw_parts : (x : Node-F Node) (r : Role) → raw_walk (roll-Node x) r ≡ None → (displaced_by r x.kind ≡ false) × (least_from Role (raw_role_in r x.kind) 0 (map raw_walk x.children) ≡ None)
raw_parts x r h =
    let n = roll-Node x in
    let e = ap (λ f. f r) (from_leaves-roll (Role → Option ℕ) (failing_step Role (λ r node. failing_here (is_displaced r node) node) inner_role) x) in
    let w = neither_least (failing_here (is_displaced r n) n) (least_from Role (inner_role r n) 0 (map raw_walk x.children)) (sym e ∙ h) in (
      subst (λ k. displaced_by r k ≡ false) (kind_made x) (not_failing (is_displaced r n) n w.0),
      subst (λ k. least_from Role (raw_role_in r k) 0 (map raw_walk x.children) ≡ None) (kind_made x) w.1,
    )

-- children, each in a role by its index
abbrev pub Along : (ℕ → Role) → List Node → Type 0
Along f [] = Unit {0}
Along f (n ∷ ns) = HasRawRole (f 0) n × Along (λ i. f (suc i)) ns

pub along_least : (f : ℕ → Role) (ns : List Node) → Along f ns → least_from Role f 0 (map raw_walk ns) ≡ None
along_least f [] a = refl
along_least f (n ∷ ns) a = both_none (raw_walk n (f 0)) _ a.0 (shifted Role f 0 (map raw_walk ns) ∙ along_least (λ i. f (suc i)) ns a.1)

pub least_along : (f : ℕ → Role) (ns : List Node) → least_from Role f 0 (map raw_walk ns) ≡ None → Along f ns
least_along f [] h = tt
least_along f (n ∷ ns) h =
    let w = neither_least (raw_walk n (f 0)) (least_from Role f 1 (map raw_walk ns)) h in
    (w.0, least_along (λ i. f (suc i)) ns (sym (shifted Role f 0 (map raw_walk ns)) ∙ w.1))

-- a node is in its role where its kind is and its children are
pub placed : (span : Span) (k : Kind) (xs : List Node) (r : Role) → displaced_by r k ≡ false → Along (raw_role_in r k) xs → HasRawRole r (node_of span k xs)
placed span k xs r here along =
    let x : Node-F Node = record { span = span; kind = k; children = xs } in
    let n = roll-Node x in
    let fine : is_displaced r n ≡ false = subst (λ z. displaced_by r z ≡ false) (sym (kind_made x)) here in
    let below : least_from Role (inner_role r n) 0 (map raw_walk xs) ≡ None = subst (λ z. least_from Role (raw_role_in r z) 0 (map raw_walk xs) ≡ None) (sym (kind_made x)) (along_least (raw_role_in r k) xs along) in
    ap (λ f. f r) (from_leaves-roll (Role → Option ℕ) (failing_step Role (λ r node. failing_here (is_displaced r node) node) inner_role) x)
    ∙ both_none (failing_here (is_displaced r n) n) _ (ap (λ b. failing_here b n) fine) below

pub placed_parts : (n : Node) (r : Role) → HasRawRole r n → (displaced_by r (kind_of n) ≡ false) × Along (raw_role_in r (kind_of n)) (children_of n)
placed_parts n r h =
    let w = raw_parts (out-Node n) r (subst (HasRawRole r) (sym (roll-out-Node n)) h) in
    (w.0, least_along (raw_role_in r (kind_of n)) (children_of n) w.1)

may_so : (r : Role) (k : Kind) → is_wrong_name r k ≡ false → may_be_raw r k ≡ true → displaced_by r k ≡ false
may_so r k wrong may = rw (wrong, may) refl

pub absent_placed : (r : Role) → may_be_raw r kind.Absent ≡ true → HasRawRole r absent
absent_placed r may = placed dummy_span kind.Absent [] r (may_so r kind.Absent refl may) tt

pub absent_free : HasRawRole role.Free absent
unfolding may_be_raw
absent_free = absent_placed role.Free refl

-- children whose roles are the same
pub along_same : (f g : ℕ → Role) (ns : List Node) → ((i : ℕ) → f i ≡ g i) → Along f ns → Along g ns
along_same f g [] e a = tt
along_same f g (n ∷ ns) e a = (subst (λ r. HasRawRole r n) (e 0) a.0, along_same (λ i. f (suc i)) (λ i. g (suc i)) ns (λ i. e (suc i)) a.1)

-- in another role, where its kind may stand too
pub moved : (n : Node) (p q : Role) → displaced_by q (kind_of n) ≡ false → ((i : ℕ) → raw_role_in p (kind_of n) i ≡ raw_role_in q (kind_of n) i) → HasRawRole p n → HasRawRole q n
moved n p q here same h =
    let x = out-Node n in
    let w = placed_parts n p h in
    subst (HasRawRole q) (roll-out-Node n) (placed x.span x.kind x.children q here (along_same (raw_role_in p x.kind) (raw_role_in q x.kind) x.children same w.1))

-- one behind the others
pub along_last : (r : Role) (ns : List Node) (n : Node) → Along (λ i. r) ns → HasRawRole r n → Along (λ i. r) (ns ++ n ∷ [])
along_last r [] n a h = (h, tt)
along_last r (m ∷ ns) n a h = (a.0, along_last r ns n a.1 h)

-- a name that is not private

pub same_private : (k : Kind) (i : ℕ) → raw_role_in role.Free k i ≡ raw_role_in role.Private k i
unfolding raw_role_in usual_role_in role_in
same_private kind.List i = refl
same_private _ i = refl

public_place : (k : Kind) → displaced_by role.Private k ≡ false → is_private_name k ≡ false → displaced_by role.Free k ≡ false
unfolding may_be may_be_raw
public_place (kind.Ident text ctxt optional) h p = h
public_place (kind.PrivateName name) h p = not_true (sym p)
public_place (kind.TplElement raw cooked tail) h p = h
public_place _ h p = refl

pub public_free : (n : Node) → HasRawRole role.Private n → is_private_name (kind_of n) ≡ false → HasRawRole role.Free n
public_free n h p = moved n role.Private role.Free (public_place (kind_of n) (placed_parts n role.Private h).0 p) (λ i. sym (same_private (kind_of n) i)) h

-- behind `super` stands no private name

usual_super : (r : Role) (i : ℕ) → role.Free ≡ usual_role_in r kind.SuperPropExpr i
unfolding usual_role_in role_in
usual_super r i = go (is_parameter r)
  where
    go : (b : Bool) → role.Free ≡ cond (b && false) role.Parameter role.Free
    go true = refl
    go false = refl

as_usual : (r : Role) (i : ℕ) (n : Node) → HasRawRole role.Free n → HasRawRole (usual_role_in r kind.SuperPropExpr i) n
as_usual r i n h = subst (λ z. HasRawRole z n) (usual_super r i) h

later_super : (r : Role) (i : ℕ) → raw_role_in r kind.SuperPropExpr (suc (suc i)) ≡ usual_role_in r kind.SuperPropExpr (suc (suc i))
unfolding raw_role_in
later_super r i = let e : nat_eq (suc (suc i)) 1 ≡ false = grind arith in rw e (usual_super r (suc (suc i)))

super_along : (r : Role) (cs : List Node) → of_kind is_private_name (slice_get cs 1) ≡ false → Along (raw_role_in r kind.SuperPropExpr) cs → Along (usual_role_in r kind.SuperPropExpr) cs
unfolding raw_role_in
super_along r [] p a = tt
super_along r (c ∷ []) p a = (as_usual r 0 c a.0, tt)
super_along r (c ∷ d ∷ cs) p a = (as_usual r 0 c a.0, (as_usual r 1 d (public_free d a.1.0 p), along_same _ _ cs (λ i. later_super r i) a.1.1))

pub usual : (r : Role) (k : Kind) (cs : List Node) → (is_super_member k && of_kind is_private_name (slice_get cs 1)) ≡ false → Along (raw_role_in r k) cs → Along (usual_role_in r k) cs
unfolding raw_role_in
usual r kind.SuperPropExpr cs p a = super_along r cs p a
usual r _ cs p a = a
