-- What is read of the layout of a module has its interface, and source texts of literals do not matter to it.
use Rattle.std.proofs.Common.{◌≡◌, ◌∙◌, ◌||◌, ℕ, [], List, Option, refl, sym, ap, ap₂, subst}
use Rattle.ecma_number.specs.declared.js_number.JsNumber.{JsNumber}
use Rattle.ecma_kind.specs.Sorts.{belongs}
use Rattle.ecma_kind.specs.declared.kind.Kind.{Kind}
use Rattle.ecma_kind.specs.declared.kind.Kind.TheVariants as kind
use Rattle.ecma_kind.specs.declared.shapes.Count.{Count}
use Rattle.ecma_kind.specs.declared.shapes.Count.TheVariants.{One, Maybe, Many, MaybeMany, Holes}
use Rattle.ecma_kind.specs.declared.shapes.Shape.{Shape}
use Rattle.ecma_kind.specs.declared.shapes.Sort.{Sort}
use Rattle.ecma_kind.specs.declared.shapes.Sort.TheVariants as sort
use Rattle.ecma_tree.specs.declared.node.Node.{Node}
use Rattle.ecma_tree.specs.Laws.{KeepsShapes}
use Rattle.ecma_tree.specs.Sorted.{HasSort, allows_by, child_shapes, is_absent, is_list, one}
use Rattle.ecma_tree.proofs.ShapeLaws.{changes_keep_shapes, contexts_keep_sorts, spans_keep_sorts}
use Rattle.ecma_interface.specs.Names.{Id}
use Rattle.ecma_interface.specs.Reading.{interface_of, own_text}
use Rattle.ecma_interface_laws.proofs.Alike.{Related, Step, dull, named, quoted}
use Rattle.ecma_interface_laws.proofs.Changed.{Becomes, changed_interfaces, contexts_keep, spans_keep, usual}
use Rattle.ecma_interface_laws.proofs.Looking.{is_dull, is_told, matters}
use Rattle.ecma_pipeline_interface.specs.Laws.{LiteralsKeepInterfaces, ReadTreesKeepInterfaces}
use Rattle.ecma_plain.specs.Writable.{big_text}
use Rattle.ecma_print.specs.Escapes.{made_text}
use Rattle.ecma_print.specs.Explicit.{explicit}
use Rattle.ecma_print_interface.proofs.Explicit.{parentheses_keep}
use Rattle.ecma_print_parentheses.proofs.Sorting.{sorts_are_kept}
use Rattle.ecma_round_trip_literals.specs.Sources.{number_source, source_or, with_source, with_sources}
use Rattle.ecma_scope.specs.Laws.{without_contexts}

-- ---- source texts of literals

module _ (text : Id → List ℕ) where
  abbrev Sourced : Node → Node → Type 0
  Sourced = Becomes text text (λ span. span) with_source

  source_step : (k : Kind) (cs ds : List Node) → (cs ≡ [] → ds ≡ []) → Related Sourced (matters k) cs ds → Step text text Sourced k (with_source k) cs ds
  unfolding is_dull is_told
  source_step (kind.Ident s c o) cs ds n r = named refl n
  source_step (kind.Str value raw) cs ds n r = quoted
  source_step (kind.Number value raw) cs ds n r = dull refl refl
  source_step (kind.BigInt value raw) cs ds n r = dull refl refl
  source_step k cs ds n r = usual text text Sourced k refl (λ t. r)

pub literals_keep : LiteralsKeepInterfaces
literals_keep text tree sorted = changed_interfaces text text (λ span. span) with_source (source_step text) tree sorted

-- ---- their sorts

text_same : (σ : Sort) (value : List ℕ) (raw other : Option (List ℕ)) → belongs σ (kind.Str value raw) ≡ belongs σ (kind.Str value other)
text_same sort.Program value raw other = refl
text_same _ value raw other = refl

number_same : (σ : Sort) (value : Option JsNumber) (raw other : Option (List ℕ)) → belongs σ (kind.Number value raw) ≡ belongs σ (kind.Number value other)
number_same sort.Program value raw other = refl
number_same _ value raw other = refl

big_same : (σ : Sort) (value : List ℕ) (raw other : Option (List ℕ)) → belongs σ (kind.BigInt value raw) ≡ belongs σ (kind.BigInt value other)
big_same sort.Program value raw other = refl
big_same _ value raw other = refl

belongs_same : (σ : Sort) (k : Kind) → belongs σ (with_source k) ≡ belongs σ k
belongs_same σ (kind.Str value raw) = text_same σ value (source_or (made_text value) raw) raw
belongs_same σ (kind.Number value raw) = number_same σ value (number_source value raw) raw
belongs_same σ (kind.BigInt value raw) = big_same σ value (source_or (big_text value) raw) raw
belongs_same σ k = refl

absent_same : (k : Kind) → is_absent (with_source k) ≡ is_absent k
absent_same (kind.Str value raw) = refl
absent_same (kind.Number value raw) = refl
absent_same (kind.BigInt value raw) = refl
absent_same _ = refl

list_same : (k : Kind) → is_list (with_source k) ≡ is_list k
list_same (kind.Str value raw) = refl
list_same (kind.Number value raw) = refl
list_same (kind.BigInt value raw) = refl
list_same _ = refl

allowed_same : (c : Count) (σ : Sort) (k : Kind) → allows_by c σ (with_source k) ≡ allows_by c σ k
allowed_same One σ k = belongs_same σ k
allowed_same Maybe σ k = ap₂ (λ a b. a || b) (absent_same k) (belongs_same σ k)
allowed_same Many σ k = list_same k
allowed_same MaybeMany σ k = ap₂ (λ a b. a || b) (absent_same k) (list_same k)
allowed_same Holes σ k = list_same k

asked_same : (k : Kind) (shape : Shape) (n : ℕ) → child_shapes (with_source k) shape n ≡ child_shapes k shape n
asked_same (kind.Str value raw) shape n = refl
asked_same (kind.Number value raw) shape n = refl
asked_same (kind.BigInt value raw) shape n = refl
asked_same _ shape n = refl

pub sources_keep_sorts : (tree : Node) → HasSort sort.Module tree → HasSort sort.Module (with_sources tree)
sources_keep_sorts tree h =
    let keeps : KeepsShapes with_source = record { allowed = λ shape k. allowed_same shape.count shape.sort k; asked = asked_same } in
    changes_keep_shapes (λ span. span) with_source keeps tree (one sort.Module) ∙ h

-- ---- what is read

pub read_keeps : ReadTreesKeepInterfaces
read_keeps tree written sorted reading =
    let bare = without_contexts tree in
    let bare_sorted : HasSort sort.Module bare = (contexts_keep_sorts (λ sym ctxt. 0) tree sort.Module).1 sorted in
    let whole_sorted : HasSort sort.Module (explicit bare) = sorts_are_kept bare (one sort.Module) bare_sorted in
    let read_sorted : HasSort sort.Module written =
    (spans_keep_sorts written sort.Module).0 (subst (HasSort sort.Module) (sym reading) ((spans_keep_sorts (explicit bare) sort.Module).1 whole_sorted)) in
    sym (spans_keep own_text written read_sorted)
    ∙ ap (interface_of own_text) reading
    ∙ spans_keep own_text (explicit bare) whole_sorted
    ∙ parentheses_keep own_text bare bare_sorted
    ∙ contexts_keep (λ sym ctxt. 0) tree sorted
