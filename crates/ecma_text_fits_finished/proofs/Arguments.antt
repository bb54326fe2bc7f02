-- Whether `arguments` belongs to something is the same in the finished tree as in the raw one, but in names and types, where nothing is assigned to.
use Rattle.std.proofs.Common.{◌≡◌, ◌∙◌, ◌⊎◌, inl, inr, ℕ, zero, suc, Bool, true, false, ◌||◌, List, [], ◌∷◌, replicate, refl, sym, subst}
use Rattle.ecma_kind.specs.Sorts.{belongs}
use Rattle.ecma_kind.specs.declared.kind.Kind.{Kind}
use Rattle.ecma_kind.specs.declared.kind.Kind.TheVariants as kind
use Rattle.ecma_kind.specs.declared.shapes.Count.{Count}
use Rattle.ecma_kind.specs.declared.shapes.Count.TheVariants.{One, Maybe, Many, MaybeMany, Holes}
use Rattle.ecma_kind.specs.declared.shapes.Shape.{Shape}
use Rattle.ecma_kind.specs.declared.shapes.Sort.{Sort}
use Rattle.ecma_kind.specs.declared.shapes.Sort.TheVariants as sort
use Rattle.ecma_tree.specs.Sorted.{allows, allows_by, child_shapes, is_absent, is_list, item_shape}
use Rattle.ecma_rules.specs.declared.strays.Strays.{Strays}
use Rattle.ecma_rules.specs.Strays.{in_named, strays_in}
use Rattle.ecma_fits.specs.declared.strays.Arguments.{Arguments}
use Rattle.ecma_fits.specs.Strays.{arguments_in}
use Rattle.ecma_raw_roles.proofs.Walks.{not_true}

-- the same belongs to nothing
abbrev pub Match : Strays → Arguments → Type 0
Match s a = (s.arguments ≡ a.stray) × (s.held ≡ a.held)

-- names and types
abbrev pub is_inert_sort : Sort → Bool
is_inert_sort sort.Ident = true
is_inert_sort sort.Str = true
is_inert_sort sort.ModuleExportName = true
is_inert_sort sort.TsEnumMemberId = true
is_inert_sort sort.TsModuleName = true
is_inert_sort sort.TsTypeAnn = true
is_inert_sort sort.TsType = true
is_inert_sort _ = false

abbrev pub is_inert : Shape → Bool
is_inert o = is_inert_sort o.sort

-- there, or it matches
abbrev pub Linked : Strays → Arguments → Shape → Type 0
Linked s a o = Match s a ⊎ (is_inert o ≡ true)

abbrev pub AllLinked : (ℕ → Strays) → (ℕ → Arguments) → List Shape → Type 0
AllLinked ss as_of [] = Unit {0}
AllLinked ss as_of (o ∷ os) = Linked (ss 0) (as_of 0) o × AllLinked (λ i. ss (suc i)) (λ i. as_of (suc i)) os

all_match : (ss : ℕ → Strays) (as_of : ℕ → Arguments) (os : List Shape) → ((i : ℕ) → Match (ss i) (as_of i)) → AllLinked ss as_of os
all_match ss as_of [] m = tt
all_match ss as_of (o ∷ os) m = (inl (m 0), all_match (λ i. ss (suc i)) (λ i. as_of (suc i)) os (λ i. m (suc i)))

all_inert : (ss : ℕ → Strays) (as_of : ℕ → Arguments) (n : ℕ) (o : Shape) → is_inert o ≡ true → AllLinked ss as_of (replicate n o)
all_inert ss as_of zero o e = tt
all_inert ss as_of (suc n) o e = (inr e, all_inert (λ i. ss (suc i)) (λ i. as_of (suc i)) n o e)

-- names and types, and lists of them
abbrev pub is_inert_kind : Kind → Bool
is_inert_kind kind.Absent = true
is_inert_kind kind.List = true
is_inert_kind (kind.Ident text ctxt optional) = true
is_inert_kind (kind.Str value raw) = true
is_inert_kind kind.TsTypeAnn = true
is_inert_kind kind.TsType = true
is_inert_kind _ = false

ident_inert : (k : Kind) → belongs sort.Ident k ≡ true → is_inert_kind k ≡ true
ident_inert (kind.Ident text ctxt optional) h = refl
ident_inert _ h = not_true h

text_inert : (k : Kind) → belongs sort.Str k ≡ true → is_inert_kind k ≡ true
text_inert (kind.Str value raw) h = refl
text_inert _ h = not_true h

export_inert : (k : Kind) → belongs sort.ModuleExportName k ≡ true → is_inert_kind k ≡ true
export_inert (kind.Ident text ctxt optional) h = refl
export_inert (kind.Str value raw) h = refl
export_inert _ h = not_true h

member_inert : (k : Kind) → belongs sort.TsEnumMemberId k ≡ true → is_inert_kind k ≡ true
member_inert (kind.Ident text ctxt optional) h = refl
member_inert (kind.Str value raw) h = refl
member_inert _ h = not_true h

module_inert : (k : Kind) → belongs sort.TsModuleName k ≡ true → is_inert_kind k ≡ true
module_inert (kind.Ident text ctxt optional) h = refl
module_inert (kind.Str value raw) h = refl
module_inert _ h = not_true h

annotation_inert : (k : Kind) → belongs sort.TsTypeAnn k ≡ true → is_inert_kind k ≡ true
annotation_inert kind.TsTypeAnn h = refl
annotation_inert _ h = not_true h

type_inert : (k : Kind) → belongs sort.TsType k ≡ true → is_inert_kind k ≡ true
type_inert kind.TsType h = refl
type_inert _ h = not_true h

sort_inert : (s : Sort) → is_inert_sort s ≡ true → (k : Kind) → belongs s k ≡ true → is_inert_kind k ≡ true
sort_inert sort.Ident i k h = ident_inert k h
sort_inert sort.Str i k h = text_inert k h
sort_inert sort.ModuleExportName i k h = export_inert k h
sort_inert sort.TsEnumMemberId i k h = member_inert k h
sort_inert sort.TsModuleName i k h = module_inert k h
sort_inert sort.TsTypeAnn i k h = annotation_inert k h
sort_inert sort.TsType i k h = type_inert k h
sort_inert _ i k h = not_true i

list_inert : (k : Kind) → is_list k ≡ true → is_inert_kind k ≡ true
list_inert kind.List h = refl
list_inert _ h = not_true h

maybe_inert : (s : Sort) → is_inert_sort s ≡ true → (k : Kind) → (is_absent k || belongs s k) ≡ true → is_inert_kind k ≡ true
maybe_inert s i kind.Absent h = refl
maybe_inert s i k h = sort_inert s i k h

maybe_list_inert : (k : Kind) → (is_absent k || is_list k) ≡ true → is_inert_kind k ≡ true
maybe_list_inert kind.Absent h = refl
maybe_list_inert k h = list_inert k h

counted_inert : (c : Count) (s : Sort) → is_inert_sort s ≡ true → (k : Kind) → allows_by c s k ≡ true → is_inert_kind k ≡ true
counted_inert One s i k h = sort_inert s i k h
counted_inert Maybe s i k h = maybe_inert s i k h
counted_inert Many s i k h = list_inert k h
counted_inert MaybeMany s i k h = maybe_list_inert k h
counted_inert Holes s i k h = list_inert k h

pub allows_inert : (o : Shape) → is_inert o ≡ true → (k : Kind) → allows o k ≡ true → is_inert_kind k ≡ true
allows_inert o i k h = counted_inert o.count o.sort i k h

inert_children : (k : Kind) → is_inert_kind k ≡ true → (o : Shape) → is_inert o ≡ true → (ss : ℕ → Strays) (as_of : ℕ → Arguments) (n : ℕ) → AllLinked ss as_of (child_shapes k o n)
inert_children kind.Absent i o e ss as_of n = tt
inert_children kind.List i o e ss as_of n = all_inert ss as_of n (item_shape o) e
inert_children (kind.Ident text ctxt optional) i o e ss as_of n = tt
inert_children (kind.Str value raw) i o e ss as_of n = tt
inert_children kind.TsTypeAnn i o e ss as_of n = (inr refl, tt)
inert_children kind.TsType i o e ss as_of n = tt
inert_children _ i o e ss as_of n = not_true i

module _ (s : Strays) (a : Arguments) (m : Match s a) where
  matched : (k : Kind) (o : Shape) (n : ℕ) → AllLinked (strays_in s k) (arguments_in a k) (child_shapes k o n)
  unfolding strays_in in_named arguments_in
  matched kind.BindingIdent o n = (inr refl, (inl m, tt))
  matched kind.LabeledStmt o n = (inr refl, (inl m, tt))
  matched kind.BreakStmt o n = (inr refl, tt)
  matched kind.ContinueStmt o n = (inr refl, tt)
  matched (kind.ClassDecl declare) o n = (inr refl, (inl m, tt))
  matched kind.ClassExpr o n = (inr refl, (inl m, tt))
  matched (kind.TsInterfaceDecl declare) o n = (inr refl, tt)
  matched (kind.TsTypeAliasDecl declare) o n = (inr refl, tt)
  matched (kind.TsEnumDecl declare is_const) o n = (inr refl, (inl m, tt))
  matched (kind.TsModuleDecl declare global) o n = (inr refl, (inl m, tt))
  matched (kind.TsNamespaceDecl declare global) o n = (inr refl, (inl m, tt))
  matched (kind.TsImportEqualsDecl is_export is_type_only) o n = (inr refl, (inl m, tt))
  matched (kind.ImportNamedSpecifier is_type_only) o n = (inr refl, (inr refl, tt))
  matched kind.ImportDefaultSpecifier o n = (inr refl, tt)
  matched kind.ImportStarAsSpecifier o n = (inr refl, tt)
  matched (kind.ExportNamedSpecifier is_type_only) o n = (inr refl, (inr refl, tt))
  matched kind.ExportNamespaceSpecifier o n = (inr refl, tt)
  matched kind.ExportDefaultSpecifier o n = (inr refl, tt)
  matched kind.TsNamespaceExportDecl o n = (inr refl, tt)
  matched (kind.FnDecl declare) o n = (inr refl, (inl m, tt))
  matched kind.FnExpr o n = (inr refl, (inl m, tt))
  matched kind.TsEnumMember o n = (inr refl, (inl (refl, refl), tt))
  matched (kind.ClassProp modifiers readonly declare definite) o n = (inl m, (inl (m.1, m.1), (inr refl, tt)))
  matched (kind.PrivateProp modifiers readonly declare definite) o n = (inl m, (inl (m.1, m.1), (inr refl, tt)))
  matched kind.StaticBlock o n = (inl (m.1, m.1), tt)
  matched (kind.Constructor accessibility is_optional) o n = (inl m, (inl (refl, m.1), (inl (refl, m.1), tt)))
  matched kind.GetterProp o n = (inl m, (inl (refl, m.1), (inl (refl, m.1), tt)))
  matched kind.SetterProp o n = (inl m, (inl (refl, m.1), (inl (refl, m.1), (inl (refl, m.1), tt))))
  matched (kind.Function is_generator is_async) o n = all_match (strays_in s (kind.Function is_generator is_async)) (arguments_in a (kind.Function is_generator is_async)) (child_shapes (kind.Function is_generator is_async) o n) (λ i. (refl, m.1))
  matched kind.MethodProp o n = (inl m, (inl m, tt))
  matched (kind.ClassMethod k modifiers) o n = (inl m, (inl m, tt))
  matched (kind.PrivateMethod k modifiers) o n = (inl m, (inl m, tt))
  matched kind.ForStmt o n = (inl m, (inl m, (inl m, (inl m, tt))))
  matched kind.ForInStmt o n = (inl m, (inl m, (inl m, tt)))
  matched (kind.ForOfStmt is_await) o n = (inl m, (inl m, (inl m, tt)))
  matched kind.WhileStmt o n = (inl m, (inl m, tt))
  matched kind.DoWhileStmt o n = (inl m, (inl m, tt))
  matched kind.SwitchStmt o n = (inl m, (inl m, tt))
  matched kind.TsModuleBlock o n = (inl (refl, refl), tt)
  matched k o n = all_match (strays_in s k) (arguments_in a k) (child_shapes k o n) (λ i. m)

-- in the children of a node that is not turned, and of one that is
pub linked_in : (s : Strays) (a : Arguments) (k : Kind) (o : Shape) (n : ℕ) → Linked s a o → allows o k ≡ true → AllLinked (strays_in s k) (arguments_in a k) (child_shapes k o n)
linked_in s a k o n (inl m) h = matched s a m k o n
linked_in s a k o n (inr e) h = inert_children k (allows_inert o e k h) o e (strays_in s k) (arguments_in a k) n

pub linked_turned : (s : Strays) (a : Arguments) (k to : Kind) (o : Shape) (os : List Shape) → Linked s a o → allows o to ≡ true → is_inert_kind to ≡ false → ((i : ℕ) → s ≡ strays_in s k i) → ((i : ℕ) → a ≡ arguments_in a to i)
    → AllLinked (strays_in s k) (arguments_in a to) os
linked_turned s a k to o os (inl m) h ert e f = all_match (strays_in s k) (arguments_in a to) os (λ i. subst (λ z. Match z (arguments_in a to i)) (e i) (subst (Match s) (f i) m))
linked_turned s a k to o os (inr i) h ert e f = not_true (sym ert ∙ allows_inert o i to h)
