-- Trees in which each function has its body, no setter a parameter `this`, each import by `=` a module, and no identifier is `this`, but for the names that specifiers of imports
-- and exports hold.
use Rattle.std.proofs.Common.{◌≡◌, ◌∙◌, ◌⊎◌, ℕ, zero, suc, Bool, true, false, ◌||◌, cond, not, List, [], ◌∷◌, ◌++◌, filter, inl, inr, map, refl, subst, sym, take}
use Rattle.std.specs.Prelude.{slice_index_or, slice_set}
use Rattle.std.specs.List.{swap}
use Rattle.ecma_kind.specs.declared.span.Span.{Span}
use Rattle.ecma_kind.specs.declared.kind.Kind.{Kind}
use Rattle.ecma_kind.specs.declared.kind.Kind.TheVariants as kind
use Rattle.ecma_tree.specs.declared.node.Node.{Node}
use Rattle.ecma_tree.specs.Nodes.{node_of}
use Rattle.ecma_tree.specs.Sorted.{is_absent}
use Rattle.ecma_grammar.specs.trees.Parts.{children_of, kind_of}
use Rattle.ecma_text_leaves.proofs.Trees.{children_made, kind_made}
use Rattle.ecma_raw_roles.proofs.Walks.{not_true}
use Rattle.ecma_plain.specs.Functions.{is_this_name}
use Rattle.ecma_plain.specs.Items.{is_external}

-- a function whose body is missing, a setter with a parameter `this`, or an import by `=` of a name
abbrev pub is_unusual : Kind → List Node → Bool
is_unusual (kind.Function is_generator is_async) (params ∷ body ∷ type_params ∷ return_type ∷ []) = is_absent (kind_of body)
is_unusual (kind.Constructor accessibility is_optional) (key ∷ params ∷ body ∷ []) = is_absent (kind_of body)
is_unusual kind.GetterProp (key ∷ return_type ∷ body ∷ []) = is_absent (kind_of body)
is_unusual kind.SetterProp (key ∷ this_param ∷ param ∷ body ∷ []) = not (is_absent (kind_of this_param)) || is_absent (kind_of body)
is_unusual (kind.TsImportEqualsDecl is_export is_type_only) (name ∷ reference ∷ []) = not (is_external (kind_of reference))
is_unusual _ children = false

-- what holds names of modules, which may be any words
abbrev pub is_specifier : Kind → Bool
is_specifier (kind.ImportNamedSpecifier is_type_only) = true
is_specifier (kind.ExportNamedSpecifier is_type_only) = true
is_specifier kind.ExportNamespaceSpecifier = true
is_specifier _ = false

mutual
  pub data Whole : Node → Type 0 where
    whole : (at : Span) (k : Kind) {cs : List Node} → is_unusual k cs ≡ false → is_this_name k ≡ false → EachWhole cs → Whole (node_of at k cs)
    shut : (at : Span) (k : Kind) (cs : List Node) → is_specifier k ≡ true → Whole (node_of at k cs)

  pub data EachWhole : List Node → Type 0 where
    none : EachWhole []
    more : {n : Node} {ns : List Node} → Whole n → EachWhole ns → EachWhole (n ∷ ns)

abbrev pub G : Node → Type 0
G = Whole

abbrev pub A : List Node → Type 0
A = EachWhole

-- what is known of the parts of such a node
abbrev pub View : Kind → List Node → Type 0
View k cs = ((is_unusual k cs ≡ false) × (is_this_name k ≡ false) × A cs) ⊎ (is_specifier k ≡ true)

viewed : (at : Span) (k : Kind) (cs : List Node) → View k cs → View (kind_of (node_of at k cs)) (children_of (node_of at k cs))
viewed at k cs v = subst (λ (j : Kind). View j (children_of (node_of at k cs))) (sym (kind_made at k cs)) (subst (λ (ds : List Node). View k ds) (sym (children_made at k cs)) v)

pub view : {n : Node} → G n → View (kind_of n) (children_of n)
view (whole at k {cs = cs} p q h) = viewed at k cs (inl (p, q, h))
view (shut at k cs s) = viewed at k cs (inr s)

pub made_of : (at : Span) (k : Kind) {cs : List Node} → View k cs → G (node_of at k cs)
made_of at k (inl t) = whole at k t.0 t.1 t.2
made_of at k {cs} (inr s) = shut at k cs s

-- the children of what is no specifier
pub inner : {n : Node} → G n → is_specifier (kind_of n) ≡ false → A (children_of n)
inner {n} g e = go (view g)
  where
    go : View (kind_of n) (children_of n) → A (children_of n)
    go (inl t) = t.2
    go (inr s) = not_true (sym e ∙ s)

specifier_named : (k : Kind) → is_specifier k ≡ true → is_this_name k ≡ false
specifier_named (kind.Ident text ctxt optional) i = not_true i
specifier_named _ i = refl

pub no_this : {n : Node} → G n → is_this_name (kind_of n) ≡ false
no_this {n} g = go (view g)
  where
    go : View (kind_of n) (children_of n) → is_this_name (kind_of n) ≡ false
    go (inl t) = t.1
    go (inr i) = specifier_named (kind_of n) i

pub append_all : {xs ys : List Node} → A xs → A ys → A (xs ++ ys)
append_all none k = k
append_all (more a h) k = more a (append_all h k)

pub take_all : (n : ℕ) {xs : List Node} → A xs → A (take n xs)
take_all zero h = none
take_all (suc n) none = none
take_all (suc n) (more a h) = more a (take_all n h)

pub filter_all : (p : Node → Bool) {xs : List Node} → A xs → A (filter p xs)
filter_all p none = none
filter_all p (more {n = n} {ns = ns} a h) = go (p n) (filter_all p h)
  where
    go : (b : Bool) → A (filter p ns) → A (cond b (n ∷ filter p ns) (filter p ns))
    go true r = more a r
    go false r = r

pub map_all : {xs : List Node} (f : Node → Node) → ((n : Node) → G n → G (f n)) → A xs → A (map f xs)
map_all f g none = none
map_all f g (more {n = n} a h) = more (g n a) (map_all f g h)

pub set_all : {xs : List Node} (i : ℕ) (x : Node) → G x → A xs → A (slice_set xs i x)
set_all i x g none = none
set_all zero x g (more a h) = more g h
set_all (suc i) x g (more a h) = more a (set_all i x g h)

index_all : {xs : List Node} (i : ℕ) (d : Node) → G d → A xs → G (slice_index_or xs i d)
index_all i d g none = g
index_all zero d g (more a h) = a
index_all (suc i) d g (more a h) = index_all i d g h

pub swap_all : {xs : List Node} (i j : ℕ) → A xs → A (swap xs i j)
swap_all i j none = none
swap_all i j (more a h) = set_all j _ (index_all i _ a (more a h)) (set_all i _ (index_all j _ a (more a h)) (more a h))
