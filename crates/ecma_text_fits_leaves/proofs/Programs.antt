-- No program stands within another: the tables of children have none.
use Rattle.std.proofs.Common.{◌≡◌, ℕ, zero, suc, Bool, true, false, replicate, refl}
use Rattle.std.specs.List.{list_all}
use Rattle.ecma_kind.specs.Sorts.{belongs}
use Rattle.ecma_kind.specs.declared.kind.Kind.{Kind}
use Rattle.ecma_kind.specs.declared.kind.Kind.TheVariants as kind
use Rattle.ecma_kind.specs.declared.shapes.Count.{Count}
use Rattle.ecma_kind.specs.declared.shapes.Count.TheVariants.{Holes, Many, Maybe, MaybeMany, One}
use Rattle.ecma_kind.specs.declared.shapes.Shape.{Shape}
use Rattle.ecma_kind.specs.declared.shapes.Sort.{Sort}
use Rattle.ecma_kind.specs.declared.shapes.Sort.TheVariants as sort
use Rattle.ecma_tree.specs.Sorted.{allows, allows_by, child_shapes, item_shape, one}
use Rattle.ecma_text_fits_leaves.proofs.ReadLeaves.{is_program}
use Rattle.ecma_raw_roles.proofs.Walks.{not_true}

-- sorts of what stands within a program
abbrev pub is_inner_sort : Sort → Bool
is_inner_sort sort.Program = false
is_inner_sort sort.Module = false
is_inner_sort sort.Script = false
is_inner_sort _ = true

abbrev pub is_inner : Shape → Bool
is_inner o = is_inner_sort o.sort

no_module : {A : Type 0} (s : Sort) (shebang : _) → is_inner_sort s ≡ true → belongs s (kind.Module shebang) ≡ true → A
no_module sort.Program shebang i h = not_true i
no_module sort.Module shebang i h = not_true i
no_module sort.Script shebang i h = not_true i
no_module _ shebang i h = not_true h

no_script : {A : Type 0} (s : Sort) (shebang : _) → is_inner_sort s ≡ true → belongs s (kind.Script shebang) ≡ true → A
no_script sort.Program shebang i h = not_true i
no_script sort.Module shebang i h = not_true i
no_script sort.Script shebang i h = not_true i
no_script _ shebang i h = not_true h

counted : (c : Count) (s : Sort) → is_inner_sort s ≡ true → (k : Kind) → allows_by c s k ≡ true → is_program k ≡ false
counted One s i (kind.Module shebang) h = no_module s shebang i h
counted One s i (kind.Script shebang) h = no_script s shebang i h
counted Maybe s i (kind.Module shebang) h = no_module s shebang i h
counted Maybe s i (kind.Script shebang) h = no_script s shebang i h
counted Many s i (kind.Module shebang) h = not_true h
counted Many s i (kind.Script shebang) h = not_true h
counted MaybeMany s i (kind.Module shebang) h = not_true h
counted MaybeMany s i (kind.Script shebang) h = not_true h
counted Holes s i (kind.Module shebang) h = not_true h
counted Holes s i (kind.Script shebang) h = not_true h
counted One s i _ h = refl
counted Maybe s i _ h = refl
counted Many s i _ h = refl
counted MaybeMany s i _ h = refl
counted Holes s i _ h = refl

pub inner_kind : (o : Shape) → is_inner o ≡ true → (k : Kind) → allows o k ≡ true → is_program k ≡ false
inner_kind o i k h = counted o.count o.sort i k h

same_inner : (o : Shape) → is_inner o ≡ true → (n : ℕ) → list_all is_inner (replicate n o) ≡ true
same_inner o i zero = refl
same_inner o i (suc n) = rw (i, same_inner o i n) refl

pub inner_children : (k : Kind) (o : Shape) (n : ℕ) → is_inner o ≡ true → list_all is_inner (child_shapes k o n) ≡ true
inner_children kind.List o n i = same_inner (item_shape o) i n
inner_children kind.SeqExpr o zero i = refl
inner_children kind.SeqExpr o (suc n) i = same_inner (one sort.Expr) refl (suc n)
inner_children _ o n i = refl

pub module_children : (k : Kind) (n : ℕ) → belongs sort.Module k ≡ true → list_all is_inner (child_shapes k (one sort.Module) n) ≡ true
module_children (kind.Module shebang) n h = refl
module_children _ n h = not_true h
