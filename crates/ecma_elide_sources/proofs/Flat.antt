-- What goes from the lists of imports and exports opens no scope.
use Rattle.std.proofs.Common.{◌≡◌, ◌∙◌, ◌+◌, ℕ, zero, suc, Bool, true, false, ◌&&◌, ◌||◌, not, List, [], ◌∷◌, map, length, replicate, Some, refl, sym, ap, ap₂, subst, slice_get}
use Rattle.std.specs.List.{list_all}
use Rattle.std.proofs.lemmas.Bool.{and_parts}
use Rattle.ecma_kind.specs.Sorts.{belongs}
use Rattle.ecma_kind.specs.declared.kind.Kind.{Kind}
use Rattle.ecma_kind.specs.declared.kind.Kind.TheVariants as kind
use Rattle.ecma_kind.specs.declared.shapes.Count.TheVariants.{One, Maybe, Many, MaybeMany, Holes}
use Rattle.ecma_kind.specs.declared.shapes.Count.{Count}
use Rattle.ecma_kind.specs.declared.shapes.Shape.{Shape}
use Rattle.ecma_kind.specs.declared.shapes.Sort.{Sort}
use Rattle.ecma_kind.specs.declared.shapes.Sort.TheVariants as sort
use Rattle.ecma_tree.specs.Laws.{HaveShapes}
use Rattle.ecma_tree.specs.Sorted.{HasShape, allows, child_shapes, is_absent, is_list, item_shape, many, maybe, one}
use Rattle.ecma_tree.specs.declared.node.Node.{Node}
use Rattle.ecma_rules.specs.Children.{child_is, children_of, has_child, holds_of, items_at, kind_of, of_kind}
use Rattle.ecma_rules.specs.Targets.{is_key_value}
use Rattle.ecma_scope.specs.declared.role.Role.{Role}
use Rattle.ecma_scope.specs.Resolved.{context_count, counted}
use Rattle.ecma_scope.specs.Scopes.{is_there, opens_by, role_in}
use Rattle.ecma_scope.proofs.Opening.{context_count-plain}
use Rattle.ecma_fits.specs.Counts.{are_exports, are_imports, has_attributes_at, holds_attributes, is_attribute, is_attribute_key, is_full_by, is_short, is_text}
use Rattle.ecma_elide.specs.declared.seat.Seat.{Seat}
use Rattle.ecma_elide.specs.declared.seat.Seat.TheVariants as seat
use Rattle.ecma_elide.specs.Laws.{may_go}
use Rattle.ecma_elide.specs.Rules.{Known, alias_goes, export_goes, first_name, goes, import_goes, item_goes, names_type, of_name, reexport_goes}
use Rattle.ecma_elide_fits.proofs.Dropped.{below, induct, some_same}
use Rattle.ecma_elide_fits.proofs.Walks.{have_at, shape_parts}

never : {X : Type 0} → false ≡ true → X
never h = cc

-- a node that takes no context, nor anything in it, whatever it is to its parent
abbrev pub Flat : Node → Type 0
Flat n = (r : Role) → context_count n r ≡ 0

abbrev AllFlat : List Node → Type 0
AllFlat ns = (i : ℕ) (c : Node) → slice_get ns i ≡ Some c → Flat c

none_counted : (f : ℕ → Role) (i : ℕ) (ns : List Node) → AllFlat ns → counted f i (map context_count ns) ≡ 0
none_counted f i [] flat = refl
none_counted f i (n ∷ ns) flat = ap₂ (λ a b. a + b) (flat 0 n refl (f i)) (none_counted f (suc i) ns (λ j. flat (suc j)))

abbrev IsClosed : Kind → Type 0
IsClosed k = (r : Role) (named : Bool) → opens_by r k named ≡ false

flat_node : (n : Node) → IsClosed (kind_of n) → AllFlat (below n) → Flat n
flat_node n closed flat r = context_count-plain n r (closed r (is_there (below n) 0)) ∙ none_counted (role_in r n) 0 (below n) flat

-- ---- sorts of names and texts

abbrev is_flat : Sort → Bool
is_flat sort.Ident = true
is_flat sort.IdentName = true
is_flat sort.Str = true
is_flat sort.ModuleExportName = true
is_flat sort.ImportSpecifier = true
is_flat sort.ExportSpecifier = true
is_flat sort.TsModuleRef = true
is_flat sort.TsEntityName = true
is_flat _ = false

-- the kinds that they have, a list of such, and `import a = ..`
abbrev is_flat_kind : Kind → Bool
is_flat_kind kind.Absent = true
is_flat_kind kind.List = true
is_flat_kind (kind.Ident text ctxt optional) = true
is_flat_kind (kind.IdentName text) = true
is_flat_kind (kind.Str value raw) = true
is_flat_kind (kind.ImportNamedSpecifier is_type_only) = true
is_flat_kind kind.ImportDefaultSpecifier = true
is_flat_kind kind.ImportStarAsSpecifier = true
is_flat_kind kind.ExportNamespaceSpecifier = true
is_flat_kind kind.ExportDefaultSpecifier = true
is_flat_kind (kind.ExportNamedSpecifier is_type_only) = true
is_flat_kind kind.TsExternalModuleRef = true
is_flat_kind kind.TsQualifiedName = true
is_flat_kind (kind.TsImportEqualsDecl is_export is_type_only) = true
is_flat_kind _ = false

sort_flat : (s : Sort) (k : Kind) → is_flat s ≡ true → belongs s k ≡ true → is_flat_kind k ≡ true
sort_flat sort.Ident (kind.Ident text ctxt optional) f h = refl
sort_flat sort.Ident _ f h = never h
sort_flat sort.IdentName (kind.IdentName text) f h = refl
sort_flat sort.IdentName _ f h = never h
sort_flat sort.Str (kind.Str value raw) f h = refl
sort_flat sort.Str _ f h = never h
sort_flat sort.ModuleExportName (kind.Ident text ctxt optional) f h = refl
sort_flat sort.ModuleExportName (kind.Str value raw) f h = refl
sort_flat sort.ModuleExportName _ f h = never h
sort_flat sort.ImportSpecifier (kind.ImportNamedSpecifier is_type_only) f h = refl
sort_flat sort.ImportSpecifier kind.ImportDefaultSpecifier f h = refl
sort_flat sort.ImportSpecifier kind.ImportStarAsSpecifier f h = refl
sort_flat sort.ImportSpecifier _ f h = never h
sort_flat sort.ExportSpecifier kind.ExportNamespaceSpecifier f h = refl
sort_flat sort.ExportSpecifier kind.ExportDefaultSpecifier f h = refl
sort_flat sort.ExportSpecifier (kind.ExportNamedSpecifier is_type_only) f h = refl
sort_flat sort.ExportSpecifier _ f h = never h
sort_flat sort.TsModuleRef (kind.Ident text ctxt optional) f h = refl
sort_flat sort.TsModuleRef kind.TsQualifiedName f h = refl
sort_flat sort.TsModuleRef kind.TsExternalModuleRef f h = refl
sort_flat sort.TsModuleRef _ f h = never h
sort_flat sort.TsEntityName (kind.Ident text ctxt optional) f h = refl
sort_flat sort.TsEntityName kind.TsQualifiedName f h = refl
sort_flat sort.TsEntityName _ f h = never h
sort_flat _ k f h = never f

list_flat : (k : Kind) → is_list k ≡ true → is_flat_kind k ≡ true
list_flat kind.List h = refl
list_flat _ h = never h

absent_flat : (k : Kind) → is_absent k ≡ true → is_flat_kind k ≡ true
absent_flat kind.Absent h = refl
absent_flat _ h = never h

either : (a b c : Bool) → (a ≡ true → c ≡ true) → (b ≡ true → c ≡ true) → (a || b) ≡ true → c ≡ true
either true b c f g h = f refl
either false b c f g h = g h

shape_flat : (c : Count) (s : Sort) (k : Kind) → is_flat s ≡ true → allows (record { count = c; sort = s }) k ≡ true → is_flat_kind k ≡ true
shape_flat One s k f h = sort_flat s k f h
shape_flat Maybe s k f h = either (is_absent k) (belongs s k) (is_flat_kind k) (absent_flat k) (sort_flat s k f) h
shape_flat Many s k f h = list_flat k h
shape_flat MaybeMany s k f h = either (is_absent k) (is_list k) (is_flat_kind k) (absent_flat k) (list_flat k) h
shape_flat Holes s k f h = list_flat k h

closed_flat : (k : Kind) → is_flat_kind k ≡ true → IsClosed k
unfolding opens_by
closed_flat kind.Absent h r named = refl
closed_flat kind.List h r named = refl
closed_flat (kind.Ident text ctxt optional) h r named = refl
closed_flat (kind.IdentName text) h r named = refl
closed_flat (kind.Str value raw) h r named = refl
closed_flat (kind.ImportNamedSpecifier is_type_only) h r named = refl
closed_flat kind.ImportDefaultSpecifier h r named = refl
closed_flat kind.ImportStarAsSpecifier h r named = refl
closed_flat kind.ExportNamespaceSpecifier h r named = refl
closed_flat kind.ExportDefaultSpecifier h r named = refl
closed_flat (kind.ExportNamedSpecifier is_type_only) h r named = refl
closed_flat kind.TsExternalModuleRef h r named = refl
closed_flat kind.TsQualifiedName h r named = refl
closed_flat (kind.TsImportEqualsDecl is_export is_type_only) h r named = refl
closed_flat _ h r named = never h

abbrev flat_shapes : List Shape → Bool
flat_shapes = list_all (λ u. is_flat u.sort)

all_flat : (m : ℕ) (u : Shape) → is_flat u.sort ≡ true → flat_shapes (replicate m u) ≡ true
all_flat zero u h = refl
all_flat (suc m) u h = ap (λ b. b && flat_shapes (replicate m u)) h ∙ all_flat m u h

-- what such a kind asks of children, a list of such a sort
shapes_flat : (k : Kind) (t : Shape) (m : ℕ) → is_flat_kind k ≡ true → (is_list k ≡ true → is_flat t.sort ≡ true) → flat_shapes (child_shapes k t m) ≡ true
shapes_flat kind.List t m h l = all_flat m (item_shape t) (l refl)
shapes_flat kind.Absent t m h l = refl
shapes_flat (kind.Ident text ctxt optional) t m h l = refl
shapes_flat (kind.IdentName text) t m h l = refl
shapes_flat (kind.Str value raw) t m h l = refl
shapes_flat (kind.ImportNamedSpecifier is_type_only) t m h l = refl
shapes_flat kind.ImportDefaultSpecifier t m h l = refl
shapes_flat kind.ImportStarAsSpecifier t m h l = refl
shapes_flat kind.ExportNamespaceSpecifier t m h l = refl
shapes_flat kind.ExportDefaultSpecifier t m h l = refl
shapes_flat (kind.ExportNamedSpecifier is_type_only) t m h l = refl
shapes_flat kind.TsExternalModuleRef t m h l = refl
shapes_flat kind.TsQualifiedName t m h l = refl
shapes_flat (kind.TsImportEqualsDecl is_export is_type_only) t m h l = refl
shapes_flat _ t m h l = never h

flat_at : (ts : List Shape) (i : ℕ) (u : Shape) → flat_shapes ts ≡ true → slice_get ts i ≡ Some u → is_flat u.sort ≡ true
flat_at [] i u h at = cc
flat_at (x ∷ xs) zero u h at = subst (λ (z : Shape). is_flat z.sort ≡ true) (some_same x u at) (and_parts (is_flat x.sort) (flat_shapes xs) h).0
flat_at (x ∷ xs) (suc i) u h at = flat_at xs i u (and_parts (is_flat x.sort) (flat_shapes xs) h).1 at

abbrev FlatOf : Node → Type 0
FlatOf n = (t : Shape) → HasShape t n → is_flat t.sort ≡ true → Flat n

-- of such a kind, with such children
kind_flat : (n : Node) (t : Shape) → HasShape t n → is_flat_kind (kind_of n) ≡ true → (is_list (kind_of n) ≡ true → is_flat t.sort ≡ true)
    → ((i : ℕ) (c : Node) → slice_get (below n) i ≡ Some c → FlatOf c) → Flat n
kind_flat n t has k l flat =
    let ts = child_shapes (kind_of n) t (length (below n)) in
    flat_node n (closed_flat (kind_of n) k)
    (λ i c at. (
    let u = have_at ts (below n) (shape_parts n t has).1 i c at in
    flat i c at u.0 u.2 (flat_at ts i u.0 (shapes_flat (kind_of n) t (length (below n)) k l) u.1)))

pub flat_of : (n : Node) → FlatOf n
flat_of = induct FlatOf (λ n flat t has f. kind_flat n t has (shape_flat t.count t.sort (kind_of n) f (shape_parts n t has).0) (λ l. f) flat)

-- a node of such a kind, but no list
other_flat : (n : Node) (t : Shape) → HasShape t n → (k : Kind) → kind_of n ≡ k → is_flat_kind k ≡ true → is_list k ≡ false → Flat n
other_flat n t has k e f l = kind_flat n t has (ap is_flat_kind e ∙ f) (λ list. never (sym (ap is_list e ∙ l) ∙ list)) (λ i c at. flat_of c)

-- ---- attributes

-- the child at an index has its shape
child_has : (n : Node) (t : Shape) (k : Kind) → HasShape t n → kind_of n ≡ k → HaveShapes (child_shapes k t (length (below n))) (below n)
child_has n t k has e = subst (λ z. HaveShapes (child_shapes z t (length (below n))) (below n)) e (shape_parts n t has).1

key_flat : (n : Node) (t : Shape) → HasShape t n → (k : Kind) → kind_of n ≡ k → is_attribute_key k ≡ true → Flat n
key_flat n t has (kind.IdentName text) e h = other_flat n t has (kind.IdentName text) e refl refl
key_flat n t has (kind.Str value raw) e h = other_flat n t has (kind.Str value raw) e refl refl
key_flat n t has _ e h = never h

text_flat : (n : Node) (t : Shape) → HasShape t n → (k : Kind) → kind_of n ≡ k → is_text k ≡ true → Flat n
text_flat n t has (kind.Str value raw) e h = other_flat n t has (kind.Str value raw) e refl refl
text_flat n t has _ e h = never h

-- a key and a text
pair_flat : (ns : List Node) → HaveShapes (one sort.PropName ∷ one sort.Expr ∷ []) ns → of_kind is_attribute_key (slice_get ns 0) ≡ true → of_kind is_text (slice_get ns 1) ≡ true → AllFlat ns
pair_flat [] has key text i c at = absurd has
pair_flat (a ∷ []) has key text i c at = absurd has.1
pair_flat (a ∷ b ∷ []) has key text zero c at = subst Flat (some_same a c at) (key_flat a (one sort.PropName) has.0 (kind_of a) refl key)
pair_flat (a ∷ b ∷ []) has key text (suc zero) c at = subst Flat (some_same b c at) (text_flat b (one sort.Expr) has.1.0 (kind_of b) refl text)
pair_flat (a ∷ b ∷ []) has key text (suc (suc i)) c at = cc
pair_flat (a ∷ b ∷ c ∷ ns) has key text i x at = absurd has.1.1

pair_closed : IsClosed kind.KeyValueProp
unfolding opens_by
pair_closed r named = refl

attribute_by : (k : Kind) (n : Node) (t : Shape) → HasShape t n → kind_of n ≡ k → (is_key_value k && (child_is is_attribute_key n 0 && child_is is_text n 1)) ≡ true → Flat n
attribute_by kind.KeyValueProp n t has e h =
    let v = and_parts (child_is is_attribute_key n 0) (child_is is_text n 1) h in
    flat_node n (subst IsClosed (sym e) pair_closed) (pair_flat (below n) (child_has n t kind.KeyValueProp has e) v.0 v.1)
attribute_by _ n t has e h = never h

attributes_all : (ns : List Node) (t : Shape) → HaveShapes (replicate (length ns) t) ns → list_all is_attribute ns ≡ true → AllFlat ns
attributes_all [] t has h i c at = cc
attributes_all (n ∷ ns) t has h zero c at =
    subst Flat (some_same n c at) (attribute_by (kind_of n) n t has.0 refl (and_parts (is_attribute n) (list_all is_attribute ns) h).0)
attributes_all (n ∷ ns) t has h (suc i) c at = attributes_all ns t has.1 (and_parts (is_attribute n) (list_all is_attribute ns) h).1 i c at

-- the list of them
list_of : (k : Kind) (n : Node) (t : Shape) → HasShape t n → kind_of n ≡ k → is_list k ≡ true → list_all is_attribute (below n) ≡ true → Flat n
list_of kind.List n t has e l h =
    flat_node n (subst IsClosed (sym e) (closed_flat kind.List refl)) (attributes_all (below n) (item_shape t) (child_has n t kind.List has e) h)
list_of _ n t has e l h = never l

lone_flat : (ns : List Node) → HaveShapes (many sort.PropOrSpread ∷ []) ns → list_all is_attribute (children_of (slice_get ns 0)) ≡ true → AllFlat ns
lone_flat [] has h i c at = absurd has
lone_flat (l ∷ []) has h zero c at =
    subst Flat (some_same l c at) (list_of (kind_of l) l (many sort.PropOrSpread) has.0 refl (shape_parts l (many sort.PropOrSpread) has.0).0 h)
lone_flat (l ∷ []) has h (suc i) c at = cc
lone_flat (l ∷ m ∷ ns) has h i c at = absurd has.1

object_closed : IsClosed kind.ObjectLit
unfolding opens_by
object_closed r named = refl

object_by : (k : Kind) (n : Node) → HasShape (maybe sort.ObjectLit) n → kind_of n ≡ k → allows (maybe sort.ObjectLit) k ≡ true → holds_attributes n ≡ true → Flat n
object_by kind.Absent n has e a h = other_flat n (maybe sort.ObjectLit) has kind.Absent e refl refl
object_by kind.ObjectLit n has e a h = flat_node n (subst IsClosed (sym e) object_closed) (lone_flat (below n) (child_has n (maybe sort.ObjectLit) kind.ObjectLit has e) h)
object_by _ n has e a h = never a

attributes_flat : (n : Node) → HasShape (maybe sort.ObjectLit) n → holds_attributes n ≡ true → Flat n
attributes_flat n has h = object_by (kind_of n) n has refl (shape_parts n (maybe sort.ObjectLit) has).0 h

-- ---- what goes

-- specifiers, a source and attributes
three_flat : (s : Sort) (u : Shape) (ns : List Node) → is_flat s ≡ true → is_flat u.sort ≡ true → HaveShapes (many s ∷ u ∷ maybe sort.ObjectLit ∷ []) ns → holds_of holds_attributes (slice_get ns 2) ≡ true
    → AllFlat ns
three_flat s u [] f g has h i c at = absurd has
three_flat s u (x ∷ []) f g has h i c at = absurd has.1
three_flat s u (x ∷ y ∷ []) f g has h i c at = absurd has.1.1
three_flat s u (x ∷ y ∷ z ∷ []) f g has h zero c at = subst Flat (some_same x c at) (flat_of x (many s) has.0 f)
three_flat s u (x ∷ y ∷ z ∷ []) f g has h (suc zero) c at = subst Flat (some_same y c at) (flat_of y u has.1.0 g)
three_flat s u (x ∷ y ∷ z ∷ []) f g has h (suc (suc zero)) c at = subst Flat (some_same z c at) (attributes_flat z has.1.1.0 h)
three_flat s u (x ∷ y ∷ z ∷ []) f g has h (suc (suc (suc i))) c at = cc
three_flat s u (x ∷ y ∷ z ∷ w ∷ ns) f g has h i c at = absurd has.1.1.1

-- a source and attributes
two_flat : (ns : List Node) → HaveShapes (one sort.Str ∷ maybe sort.ObjectLit ∷ []) ns → holds_of holds_attributes (slice_get ns 1) ≡ true → AllFlat ns
two_flat [] has h i c at = absurd has
two_flat (x ∷ []) has h i c at = absurd has.1
two_flat (x ∷ y ∷ []) has h zero c at = subst Flat (some_same x c at) (flat_of x (one sort.Str) has.0 refl)
two_flat (x ∷ y ∷ []) has h (suc zero) c at = subst Flat (some_same y c at) (attributes_flat y has.1.0 h)
two_flat (x ∷ y ∷ []) has h (suc (suc i)) c at = cc
two_flat (x ∷ y ∷ z ∷ ns) has h i c at = absurd has.1.1

-- a name alone
name_flat : (n : Node) → HasShape (one sort.Expr) n → (test : List ℕ → ℕ → Bool) (k : Kind) → kind_of n ≡ k → of_name test k ≡ true → Flat n
name_flat n has test (kind.Ident text ctxt optional) e h = other_flat n (one sort.Expr) has (kind.Ident text ctxt optional) e refl refl
name_flat n has test _ e h = never h

one_flat : (test : List ℕ → ℕ → Bool) (ns : List Node) → HaveShapes (one sort.Expr ∷ []) ns → first_name test ns ≡ true → AllFlat ns
one_flat test [] has h i c at = absurd has
one_flat test (x ∷ []) has h zero c at = subst Flat (some_same x c at) (name_flat x has.0 test (kind_of x) refl h)
one_flat test (x ∷ []) has h (suc i) c at = cc
one_flat test (x ∷ y ∷ ns) has h i c at = absurd has.1

unshort : (b : Bool) → not b ≡ false → b ≡ true
unshort true h = refl
unshort false h = cc

named_default : (known : Known) (s : Seat) (ns : List Node) → goes known s kind.ExportDefaultExpr ns ≡ true → first_name (names_type known) ns ≡ true
unfolding import_goes export_goes reexport_goes alias_goes item_goes
named_default known seat.Items ns h = h
named_default known seat.Elsewhere ns h = never h
named_default known seat.Imported ns h = never h
named_default known seat.Exported ns h = never h
named_default known seat.Reexported ns h = never h

-- a node goes that is of one of these kinds
gone_kind : (known : Known) (s : Seat) (k : Kind) (ns : List Node) → goes known s k ns ≡ true → may_go k ≡ true
unfolding import_goes export_goes reexport_goes alias_goes item_goes
gone_kind known seat.Elsewhere (kind.TsImportEqualsDecl is_export is_type_only) ns h = refl
gone_kind known seat.Elsewhere _ ns h = never h
gone_kind known seat.Items (kind.ImportDecl type_only) ns h = refl
gone_kind known seat.Items (kind.NamedExport type_only) ns h = refl
gone_kind known seat.Items (kind.ExportAll type_only) ns h = refl
gone_kind known seat.Items kind.ExportDefaultExpr ns h = refl
gone_kind known seat.Items (kind.TsImportEqualsDecl is_export is_type_only) ns h = refl
gone_kind known seat.Items _ ns h = never h
gone_kind known seat.Imported (kind.ImportNamedSpecifier is_type_only) ns h = refl
gone_kind known seat.Imported kind.ImportDefaultSpecifier ns h = refl
gone_kind known seat.Imported kind.ImportStarAsSpecifier ns h = refl
gone_kind known seat.Imported _ ns h = never h
gone_kind known seat.Exported (kind.ExportNamedSpecifier is_type_only) ns h = refl
gone_kind known seat.Exported _ ns h = never h
gone_kind known seat.Reexported (kind.ExportNamedSpecifier is_type_only) ns h = refl
gone_kind known seat.Reexported _ ns h = never h

gone_by : (known : Known) (s : Seat) (k : Kind) (n : Node) (t : Shape) → HasShape t n → kind_of n ≡ k → is_full_by k n ≡ true → goes known s k (below n) ≡ true → Flat n
unfolding is_full_by opens_by
gone_by known s (kind.ImportDecl type_only) n t has e full h =
    let v = and_parts (are_imports (items_at n 0)) (has_attributes_at 2 n) full in
    flat_node n (subst IsClosed (sym e) (λ r named. refl)) (three_flat sort.ImportSpecifier (one sort.Str) (below n) refl refl (child_has n t (kind.ImportDecl type_only) has e) v.1)
gone_by known s (kind.NamedExport type_only) n t has e full h =
    let v = and_parts (are_exports (has_child n 1) (has_child n 2) (items_at n 0)) (has_attributes_at 2 n) full in
    flat_node n (subst IsClosed (sym e) (λ r named. refl)) (three_flat sort.ExportSpecifier (maybe sort.Str) (below n) refl refl (child_has n t (kind.NamedExport type_only) has e) v.1)
gone_by known s (kind.ExportAll type_only) n t has e full h =
    flat_node n (subst IsClosed (sym e) (λ r named. refl)) (two_flat (below n) (child_has n t (kind.ExportAll type_only) has e) full)
gone_by known s kind.ExportDefaultExpr n t has e full h =
    flat_node n (subst IsClosed (sym e) (λ r named. refl)) (one_flat (names_type known) (below n) (child_has n t kind.ExportDefaultExpr has e) (named_default known s (below n) h))
gone_by known s (kind.ImportNamedSpecifier is_type_only) n t has e full h = other_flat n t has (kind.ImportNamedSpecifier is_type_only) e refl refl
gone_by known s kind.ImportDefaultSpecifier n t has e full h = other_flat n t has kind.ImportDefaultSpecifier e refl refl
gone_by known s kind.ImportStarAsSpecifier n t has e full h = other_flat n t has kind.ImportStarAsSpecifier e refl refl
gone_by known s (kind.ExportNamedSpecifier is_type_only) n t has e full h = other_flat n t has (kind.ExportNamedSpecifier is_type_only) e refl refl
gone_by known s (kind.TsImportEqualsDecl is_export is_type_only) n t has e full h = other_flat n t has (kind.TsImportEqualsDecl is_export is_type_only) e refl refl
gone_by known s k n t has e full h = never (gone_kind known s k (below n) h)

pub gone_flat : (known : Known) (s : Seat) (n : Node) (t : Shape) → HasShape t n → is_short n ≡ false → goes known s (kind_of n) (below n) ≡ true → Flat n
gone_flat known s n t has short h = gone_by known s (kind_of n) n t has refl (unshort (is_full_by (kind_of n) n) short) h
