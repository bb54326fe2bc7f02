-- What changes every node by itself, and neither what identifiers and texts say nor any other kind, keeps the interface.
use Rattle.std.proofs.Common.{◌≡◌, ◌∙◌, ℕ, suc, Bool, true, false, not, List, [], ◌∷◌, map, refl, sym, ap, subst}
use Rattle.ecma_kind.specs.declared.kind.Kind.{Kind}
use Rattle.ecma_kind.specs.declared.kind.Kind.TheVariants as kind
use Rattle.ecma_kind.specs.declared.shapes.Sort.TheVariants as sort
use Rattle.ecma_kind.specs.declared.span.Span.{Span}
use Rattle.ecma_tree.specs.declared.node.Node.{Node, Node-F, out-Node}
use Rattle.ecma_tree.specs.declared.node.Node.TheViews.{out-roll-Node}
use Rattle.ecma_tree.specs.Changing.{changed}
use Rattle.ecma_tree.specs.Contexts.{kind_with_context}
use Rattle.ecma_tree.specs.Sorted.{HasSort}
use Rattle.ecma_tree.proofs.Changing.{changed-parts, nowhere}
use Rattle.ecma_rules.specs.Children.{kind_of}
use Rattle.ecma_interface.specs.Names.{Id}
use Rattle.ecma_interface.specs.Reading.{interface_of, own_text}
use Rattle.ecma_interface_laws.specs.Laws.{ContextsKeepInterfaces, SpansKeepInterfaces}
use Rattle.ecma_interface_laws.proofs.Alike.{Alike, Related, Step, children_of, dull, named, quoted, same}
use Rattle.ecma_interface_laws.proofs.Looking.{is_dull, is_named, is_told, matters}
use Rattle.ecma_interface_laws.proofs.Telling.{alike_interfaces}

abbrev is_quoted : Kind → Bool
is_quoted (kind.Str value raw) = true
is_quoted _ = false

pub dull_is : (k : Kind) → is_named k ≡ false → is_quoted k ≡ false → is_told k ≡ false → is_dull k ≡ true
unfolding is_dull
dull_is (kind.Ident sym_ ctxt optional) h g t = cc
dull_is (kind.Str value raw) h g t = cc
dull_is _ h g t = ap not t

module _ (text other : Id → List ℕ) (R : Node → Node → Type 0) where
  unquoted : (k : Kind) {cs ds : List Node} → is_named k ≡ false → is_quoted k ≡ false → (is_told k ≡ true → Related R (matters k) cs ds) → (b : Bool) → is_told k ≡ b → Step text other R k k cs ds
  unquoted k h g r true t = same t (r t)
  unquoted k h g r false t = dull (dull_is k h g t) (dull_is k h g t)

  -- a kind that stays, and is no identifier
  pub usual : (k : Kind) {cs ds : List Node} → is_named k ≡ false → (is_told k ≡ true → Related R (matters k) cs ds) → Step text other R k k cs ds
  usual (kind.Str value raw) h r = quoted
  usual k h r = unquoted k h refl r (is_told k) refl

module _ (text other : Id → List ℕ) (span_to : Span → Span) (kind_to : Kind → Kind) where
  abbrev to : Node → Node
  to = changed span_to kind_to

  abbrev pub Becomes : Node → Node → Type 0
  Becomes a b = to a ≡ b

  all_become : (m : ℕ → Bool) (cs : List Node) → Related Becomes m cs (map to cs)
  all_become m [] = tt
  all_become m (c ∷ cs) = ((λ e. refl), all_become (λ i. m (suc i)) cs)

  none_become : (cs : List Node) → cs ≡ [] → map to cs ≡ []
  none_become cs e = ap (map to) e

  parts_to : (a : Node) → out-Node (to a) ≡ record { span = span_to (out-Node a).span; kind = kind_to (kind_of a); children = map to (children_of a) }
  parts_to a =
      ap out-Node (changed-parts span_to kind_to a) ∙ out-roll-Node (record { span = span_to (out-Node a).span; kind = kind_to (kind_of a); children = map to (children_of a) })

  module _ (kind_step : (k : Kind) (cs ds : List Node) → (cs ≡ [] → ds ≡ []) → Related Becomes (matters k) cs ds → Step text other Becomes k (kind_to k) cs ds) where
    alike_to : (a b : Node) → Becomes a b → Alike text other Becomes a b
    alike_to a b is =
        subst (λ (z : Node). Step text other Becomes (kind_of a) (kind_of z) (children_of a) (children_of z)) is
        (subst (λ (z : Node-F Node). Step text other Becomes (kind_of a) z.kind (children_of a) z.children) (sym (parts_to a))
        (kind_step (kind_of a) (children_of a) (map to (children_of a)) (none_become (children_of a)) (all_become (matters (kind_of a)) (children_of a))))

    pub changed_interfaces : (tree : Node) → HasSort sort.Module tree → interface_of other (changed span_to kind_to tree) ≡ interface_of text tree
    changed_interfaces tree sorted = alike_interfaces text other Becomes alike_to tree (changed span_to kind_to tree) sorted refl

-- ---- spans

spans_step : (text : Id → List ℕ) (k : Kind) (cs ds : List Node) → (cs ≡ [] → ds ≡ []) → Related (Becomes text text nowhere (λ kind. kind)) (matters k) cs ds → Step text text (Becomes text text nowhere (λ kind. kind)) k k cs ds
spans_step text (kind.Ident s c o) cs ds n r = named refl n
spans_step text k cs ds n r = usual text text (Becomes text text nowhere (λ kind. kind)) k refl (λ t. r)

pub spans_keep : SpansKeepInterfaces
spans_keep text tree sorted = changed_interfaces text text nowhere (λ kind. kind) (spans_step text) tree sorted

-- ---- contexts

module _ (context_of : List ℕ → ℕ → ℕ) where
  abbrev Placed : Node → Node → Type 0
  Placed = Becomes own_text own_text (λ span. span) (kind_with_context context_of)

  contexts_step : (k : Kind) (cs ds : List Node) → (cs ≡ [] → ds ≡ []) → Related Placed (matters k) cs ds → Step own_text own_text Placed k (kind_with_context context_of k) cs ds
  contexts_step (kind.Ident s c o) cs ds n r = named refl n
  contexts_step k cs ds n r = usual own_text own_text Placed k refl (λ t. r)

pub contexts_keep : ContextsKeepInterfaces
contexts_keep context_of tree sorted = changed_interfaces own_text own_text (λ span. span) (kind_with_context context_of) (contexts_step context_of) tree sorted
