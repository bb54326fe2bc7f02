-- The texts of a tree as it is read can be written, and so can those of the tree with any contexts, as of its resolved tree.
use Rattle.std.proofs.Common.{◌≡◌, ◌∙◌, refl, sym, subst, ℕ, zero, suc, Bool, true, false, ◌&&◌, ◌||◌, not, List, Option, Some, None, replicate, length, slice_get}
use Rattle.std.specs.List.{list_all}
use Rattle.ecma_kind.specs.Sorts.{belongs}
use Rattle.ecma_kind.specs.declared.kind.Kind.{Kind}
use Rattle.ecma_kind.specs.declared.kind.Kind.TheVariants as kind
use Rattle.ecma_kind.specs.declared.shapes.Shape.{Shape}
use Rattle.ecma_kind.specs.declared.shapes.Sort.{Sort}
use Rattle.ecma_kind.specs.declared.shapes.Sort.TheVariants as sort
use Rattle.ecma_tree.specs.Sorted.{HasShape, HasSort, allows, child_shapes, is_list, item_shape, one}
use Rattle.ecma_tree.specs.declared.node.Node.{Node}
use Rattle.ecma_text_leaves.specs.Everywhere.{Everywhere}
use Rattle.ecma_rules.specs.Children.{kind_of}
use Rattle.ecma_scope.specs.Laws.{without_contexts}
use Rattle.ecma_scope.specs.Resolved.{resolved}
use Rattle.ecma_scope.proofs.Unchanged.{changes-contexts}
use Rattle.ecma_strip_scopes.proofs.Going.{parts-have}
use Rattle.ecma_hygiene.proofs.Telling.{or-second, true-false}
use Rattle.ecma_hygiene_fits.proofs.Everywhere.{children_of}
use Rattle.ecma_plain.specs.Forms.{IsBareUnquestioned}
use Rattle.ecma_plain.specs.Items.{HasUtf8Hashbang}
use Rattle.ecma_plain.specs.Read.{IsRead}
use Rattle.ecma_ready.specs.Ready.{HasTexts}
use Rattle.ecma_pipeline_runs.proofs.Nodes.{all-at, by-children, child-shape}
use Rattle.ecma_pipeline_runs.proofs.Remaining.{is_many, restless}
use Rattle.ecma_text_sources.proofs.Sources.{tree_stays}
use Rattle.ecma_pipeline_plain.proofs.Everywhere.{each_at, each_of, everywhere_made, everywhere_moved, everywhere_returned, parts}
use Rattle.ecma_pipeline_plain.proofs.KindsSaid.{bare, empty}

-- but for what stands behind `#!`
abbrev pub HasOtherTexts : Kind → Type 0
HasOtherTexts (kind.Module shebang) = Unit {0}
HasOtherTexts k = HasTexts k

to_other : (k : Kind) → IsBareUnquestioned k → HasOtherTexts (bare k)
to_other (kind.Ident text ctxt optional) p = (p.0, tt)
to_other (kind.IdentName text) p = (p, tt)
to_other (kind.PrivateName text) p = (p, tt)
to_other (kind.Str value None) p = absurd p
to_other (kind.Str value (Some raw)) p = (p, tt)
to_other (kind.Number None None) p = absurd p
to_other (kind.Number None (Some raw)) p = (p, tt)
to_other (kind.Number (Some value) None) p = absurd p
to_other (kind.Number (Some value) (Some raw)) p = (p, tt)
to_other (kind.BigInt value None) p = absurd p
to_other (kind.BigInt value (Some raw)) p = (p, tt)
to_other (kind.Regex exp flags) p = (p, tt)
to_other (kind.TplElement raw cooked tail) p = (p, tt)
to_other (kind.Module shebang) p = tt
to_other _ p = (tt, tt)

of_bare : (k : Kind) → HasTexts (bare k) → HasTexts k
of_bare (kind.Ident text ctxt optional) p = p
of_bare _ p = p

-- ---- no module stands in a module

abbrev is_module : Kind → Bool
is_module (kind.Module shebang) = true
is_module _ = false

abbrev is_module_sort : Sort → Bool
is_module_sort sort.Module = true
is_module_sort sort.Program = true
is_module_sort _ = false

module_sort : (shebang : Option (List ℕ)) (σ : Sort) → belongs σ (kind.Module shebang) ≡ true → is_module_sort σ ≡ true
module_sort shebang sort.Module h = refl
module_sort shebang sort.Program h = refl
module_sort shebang _ h = cc

abbrev is_inner : Shape → Bool
is_inner o = not (is_module_sort o.sort)

inner_by : (k : Kind) (o : Shape) → (is_many o.count || is_inner o) ≡ true → allows o k ≡ true → is_module k ≡ false
inner_by (kind.Module shebang) o inner h = absurd (restless is_module_sort (kind.Module shebang) (module_sort shebang) refl refl o.count o.sort inner h)
inner_by _ o inner h = refl

expressions_inner : (m : ℕ) → list_all is_inner (replicate m (one sort.Expr)) ≡ true
expressions_inner zero = refl
expressions_inner (suc m) = expressions_inner m

items_inner : (m : ℕ) (s : Shape) → is_inner s ≡ true → list_all is_inner (replicate m (item_shape s)) ≡ true
items_inner zero s h = refl
items_inner (suc m) s h = λ j. h j && items_inner m s h j

children_inner : (k : Kind) (s : Shape) (m : ℕ) → (is_list k ≡ true → is_inner s ≡ true) → list_all is_inner (child_shapes k s m) ≡ true
children_inner kind.List s m h = items_inner m s (h refl)
children_inner kind.SeqExpr s zero h = refl
children_inner kind.SeqExpr s (suc m) h = expressions_inner m
children_inner _ s m h = refl

texts_by : (k : Kind) → is_module k ≡ false → HasOtherTexts k → HasTexts k
texts_by (kind.Module shebang) h p = absurd (true-false refl h)
texts_by _ h p = p

module _ (n : Node) (s : Shape) (has : HasShape s n) (listed : is_list (kind_of n) ≡ true → is_inner s ≡ true) where
  abbrev os : List Shape
  os = child_shapes (kind_of n) s (length (children_of n))

  child_inner : (i : ℕ) (c : Node) → slice_get (children_of n) i ≡ Some c → (o : Shape) × HasShape o c × (is_inner o ≡ true)
  child_inner i c at =
      let o = child-shape os (children_of n) (parts-have n s has).1 i c at in
      (o.0, o.2, all-at is_inner os i o.0 (children_inner (kind_of n) s (length (children_of n)) listed) o.1)

abbrev Inner : Node → Type 0
Inner n = (s : Shape) → HasShape s n → is_inner s ≡ true → Everywhere HasOtherTexts n → Everywhere HasTexts n

inner : (n : Node) → Inner n
inner = by-children Inner (λ n below s has h e.
    (let p = parts HasOtherTexts e in
    everywhere_made HasTexts n (texts_by (kind_of n) (inner_by (kind_of n) s (or-second (is_many s.count) (is_inner s) h) (parts-have n s has).0) p.0)
    (each_of HasTexts (children_of n) (λ i c at. (let o = child_inner n s has (λ l. h) i c at in below i c at o.0 o.1 o.2 (each_at HasOtherTexts (children_of n) p.1 i c at))))))

-- ---- the module itself

head_by : (k : Kind) → HasUtf8Hashbang k → HasOtherTexts k → HasTexts k
head_by (kind.Module None) u p = (tt, tt)
head_by (kind.Module (Some text)) u p = (u, tt)
head_by _ u p = p

no_list : (k : Kind) → allows (one sort.Module) k ≡ true → is_list k ≡ false
no_list kind.List h = cc
no_list _ h = refl

whole : (tree : Node) → HasSort sort.Module tree → HasUtf8Hashbang (kind_of tree) → Everywhere HasOtherTexts tree → Everywhere HasTexts tree
whole tree sorted utf8 e =
    let p = parts HasOtherTexts e in
    let unlisted : is_list (kind_of tree) ≡ true → is_inner (one sort.Module) ≡ true = λ l. absurd (true-false l (no_list (kind_of tree) (parts-have tree (one sort.Module) sorted).0)) in
    everywhere_made HasTexts tree (head_by (kind_of tree) utf8 p.0)
    (each_of HasTexts (children_of tree) (λ i c at. (let o = child_inner tree (one sort.Module) sorted unlisted i c at in inner c o.0 o.1 o.2 (each_at HasOtherTexts (children_of tree) p.1 i c at))))

-- whatever its contexts are
pub texts_said : (tree : Node) → IsRead (without_contexts tree) → Everywhere HasTexts tree
texts_said tree read =
    let other : Everywhere HasOtherTexts (without_contexts tree) = subst (Everywhere HasOtherTexts) (tree_stays read.bare) (everywhere_moved IsBareUnquestioned HasOtherTexts empty to_other read.bare) in
    everywhere_returned HasTexts HasTexts empty of_bare tree (whole (without_contexts tree) read.fits.sorted read.hashbang other)

-- where a tree has the empty context for each identifier
pub texts_resolved : (unresolved top left : ℕ) (tree : Node) → IsRead tree → without_contexts tree ≡ tree → Everywhere HasTexts (resolved unresolved top left tree)
texts_resolved unresolved top left tree read empties =
    texts_said (resolved unresolved top left tree) (subst IsRead (sym (changes-contexts unresolved top left tree ∙ empties)) read)
