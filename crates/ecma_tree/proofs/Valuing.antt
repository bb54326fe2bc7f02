-- The equations of what is a value.
use Rattle.std.proofs.Common.{◌≡◌, ◌∙◌, ℕ, zero, suc, Bool, true, false, ◌&&◌, ◌||◌, not, List, [], ◌∷◌, map, get_or, Some, None, refl, sym, ap, subst, slice_get}
use Rattle.std.specs.List.{list_any}
use Rattle.std.proofs.lemmas.Simd.{map-map}
use Rattle.ecma_kind.specs.declared.kind.Kind.{Kind}
use Rattle.ecma_kind.specs.declared.kind.Kind.TheVariants as kind
use Rattle.ecma_kind.specs.declared.span.Span.{Span}
use Rattle.ecma_tree.specs.Nodes.{node_of}
use Rattle.ecma_tree.specs.declared.node.Node.{Node, Node-F, fold-Node, fold_out-Node, fold-roll-Node, ind-Node, out-Node, roll-Node}
use Rattle.ecma_tree.specs.declared.node.Node.TheViews.{out-roll-Node}
use Rattle.ecma_tree.specs.Values.{holds_ambient, is_function, is_value, is_value_where, value_at_where, value_by, value_step, values_in}

module _ {X : Type 0} (f : X → Bool) where
  get_or-some : (xs : List X) (i : ℕ) (x : X) → slice_get xs i ≡ Some x → get_or (map f xs) i false ≡ f x
  get_or-some [] i x at = cc
  get_or-some (y ∷ ys) zero x at = let same : y ≡ x = cc in ap f same
  get_or-some (y ∷ ys) (suc i) x at = get_or-some ys i x at

  get_or-none : (xs : List X) (i : ℕ) → slice_get xs i ≡ None → get_or (map f xs) i false ≡ false
  get_or-none [] i at = refl
  get_or-none (y ∷ ys) zero at = cc
  get_or-none (y ∷ ys) (suc i) at = get_or-none ys i at

pub value_at-some : (stays : Bool) (n : Node) (i : ℕ) (x : Node) → slice_get (out-Node n).children i ≡ Some x → value_at_where stays i n ≡ is_value_where stays x
value_at-some stays n = get_or-some (is_value_where stays) (out-Node n).children

pub value_at-none : (stays : Bool) (n : Node) (i : ℕ) → slice_get (out-Node n).children i ≡ None → value_at_where stays i n ≡ false
value_at-none stays n = get_or-none (is_value_where stays) (out-Node n).children

-- a node of this kind is a value where its children are or not
abbrev pub value_where_by : Bool → Kind → List Node → Bool
value_where_by stays k children = (is_function k && not stays) || value_by k (values_in stays k children)

values_of : (stays : Bool) (k : Kind) (children : List Node)
    → (is_function k && not stays) || value_by k (map (λ child. child (not (holds_ambient k) && stays)) (map (fold-Node (Bool → Bool) value_step) children)) ≡ value_where_by stays k children
values_of stays k children =
    ap (λ values. (is_function k && not stays) || value_by k values) (map-map (λ child. child (not (holds_ambient k) && stays)) (fold-Node (Bool → Bool) value_step) children)

pub is_value_where-out : (stays : Bool) (n : Node) → is_value_where stays n ≡ value_where_by stays (out-Node n).kind (out-Node n).children
is_value_where-out stays n = ap (λ value. value stays) (fold_out-Node (Bool → Bool) value_step n) ∙ values_of stays (out-Node n).kind (out-Node n).children

pub is_value_where-roll : (stays : Bool) (span : Span) (k : Kind) (children : List Node) → is_value_where stays (node_of span k children) ≡ value_where_by stays k children
is_value_where-roll stays span k children =
    ap (λ value. value stays) (fold-roll-Node (Bool → Bool) value_step (record { span = span; kind = k; children = children })) ∙ values_of stays k children

-- where declarations stay, no function is ambient
not-ambient : (b v : Bool) → (b && false) || v ≡ v
not-ambient true v = refl
not-ambient false v = refl

pub is_value-out : (n : Node) → is_value n ≡ value_by (out-Node n).kind (values_in true (out-Node n).kind (out-Node n).children)
is_value-out n = is_value_where-out true n ∙ not-ambient (is_function (out-Node n).kind) (value_by (out-Node n).kind (values_in true (out-Node n).kind (out-Node n).children))

pub is_value-roll : (span : Span) (k : Kind) (children : List Node) → is_value (node_of span k children) ≡ value_by k (values_in true k children)
is_value-roll span k children = is_value_where-roll true span k children ∙ not-ambient (is_function k) (value_by k (values_in true k children))

-- a value where declarations stay is one where all is ambient

abbrev Also : Node → Type 0
Also n = is_value n ≡ true → is_value_where false n ≡ true

abbrev AllAlso : List Node → Type 0
AllAlso [] = Unit
AllAlso (n ∷ ns) = Also n × AllAlso ns

all-also : (ns : List ((n : Node) × Also n)) → AllAlso (map (λ e. e.0) ns)
all-also [] = tt
all-also (n ∷ ns) = (n.1, all-also ns)

either-also : (a b c d : Bool) → (a ≡ true → b ≡ true) → (c ≡ true → d ≡ true) → a || c ≡ true → b || d ≡ true
either-also true b c d first rest h = ap (λ x. x || d) (first refl)
either-also false true c d first rest h = refl
either-also false false c d first rest h = rest h

-- of the children, which are ambient where their parent says so
at-also : (ambient : Bool) (ns : List Node) (i : ℕ) → AllAlso ns → get_or (map (is_value_where (not ambient && true)) ns) i false ≡ true → get_or (map (is_value_where (not ambient && false)) ns) i false ≡ true
at-also true ns i also h = h
at-also false [] i also h = h
at-also false (n ∷ ns) zero also h = also.0 h
at-also false (n ∷ ns) (suc i) also h = at-also false ns i also.1 h

any-also : (ns : List Node) → AllAlso ns → list_any (λ b. b) (map is_value ns) ≡ true → list_any (λ b. b) (map (is_value_where false) ns) ≡ true
any-also [] also h = h
any-also (n ∷ ns) also h =
    either-also (is_value n) (is_value_where false n) (list_any (λ b. b) (map is_value ns)) (list_any (λ b. b) (map (is_value_where false) ns)) also.0 (any-also ns also.1) h

also-by : (k : Kind) (ns : List Node) → AllAlso ns → value_by k (values_in true k ns) ≡ true → value_where_by false k ns ≡ true
unfolding value_by
also-by kind.ExportDecl ns also h = at-also false ns 0 also h
also-by kind.ExportDefaultDecl ns also h = at-also false ns 0 also h
also-by (kind.FnDecl declare) ns also h = at-also declare ns 1 also h
also-by kind.FnExpr ns also h = at-also false ns 1 also h
also-by (kind.Function is_generator is_async) ns also h = refl
also-by (kind.TsModuleDecl declare global) ns also h = at-also declare ns 1 also h
also-by (kind.TsNamespaceDecl declare global) ns also h = at-also declare ns 1 also h
also-by kind.TsModuleBlock ns also h = at-also false ns 0 also h
also-by kind.List ns also h = any-also ns also h
also-by _ ns also h = h

node-also : (n : Node) → AllAlso (out-Node n).children → Also n
node-also n also h = is_value_where-out false n ∙ also-by (out-Node n).kind (out-Node n).children also (sym (is_value-out n) ∙ h)

also : (n : Node) → Also n
also = ind-Node Also (λ x y is.
    node-also (roll-Node x) (subst AllAlso (ap (λ (z : Node-F Node). z.children) is ∙ sym (ap (λ (z : Node-F Node). z.children) (out-roll-Node x))) (all-also y.children)))

pub value_everywhere : (stays : Bool) (n : Node) → is_value n ≡ true → is_value_where stays n ≡ true
value_everywhere true n h = h
value_everywhere false n h = also n h

pub valueless_everywhere : (stays : Bool) (n : Node) → is_value_where stays n ≡ false → is_value n ≡ false
valueless_everywhere stays n h = by (is_value n) refl
  where
    by : (b : Bool) → is_value n ≡ b → is_value n ≡ false
    by true e = let both : true ≡ false = sym (value_everywhere stays n e) ∙ h in cc
    by false e = e

pub ruleset values = (value_at-some, value_at-none, is_value_where-out)
