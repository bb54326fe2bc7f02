-- What is said, bound and named by the parts of imports and exports stays when types go.
use Rattle.std.proofs.Common.{◌≡◌, ◌∙◌, ◌||◌, ◌&&◌, not, ℕ, zero, suc, Bool, true, false, cond, get_or, List, [], ◌∷◌, filter, length, map, Some, refl, ap, ap₂, subst, slice_get}
use Rattle.std.specs.List.{list_all}
use Rattle.ecma_kind.specs.Sorts.{belongs}
use Rattle.ecma_kind.specs.declared.kind.Kind.{Kind}
use Rattle.ecma_kind.specs.declared.kind.Kind.TheVariants as kind
use Rattle.ecma_kind.specs.declared.shapes.Sort.TheVariants as sort
use Rattle.ecma_tree.specs.declared.node.Node.{Node, Node-F}
use Rattle.ecma_tree.specs.Laws.{HaveShapes}
use Rattle.ecma_tree.specs.Sorted.{HasShape, child_shapes, is_absent, is_list, many, maybe}
use Rattle.ecma_tree.specs.Values.{is_value}
use Rattle.ecma_rules.specs.Children.{children_of as items_of, child_is, is_present, items_at, kind_of, of_kind}
use Rattle.ecma_rules.specs.Targets.{is_key_value}
use Rattle.ecma_fits.specs.Counts.{holds_attributes, is_attribute, is_attribute_key, is_text}
use Rattle.ecma_strip.specs.Staying.{is_ambient, is_declared, is_empty_stmt, is_this, is_this_by, is_this_param_by, member_stays_by, specifier_stays, stays}
use Rattle.ecma_strip.specs.Stripping.{plain_children, plain_kind, stripped}
use Rattle.ecma_strip_fits.proofs.Classes.{class_of}
use Rattle.ecma_strip_fits.proofs.Classes.Class.{Usual}
use Rattle.ecma_strip_fits.proofs.Walk.{listed_parts, usual_children, usual_kind}
use Rattle.ecma_interface.specs.Names.{Id}
use Rattle.ecma_interface.specs.Reading.{attribute, attributes_of, said_by, said_of, variable_by, variable_of}
use Rattle.ecma_interface_laws.proofs.Alike.{children_of}
use Rattle.ecma_interface_laws.proofs.Telling.{child_shaped, list_shaped, shapes_of}

-- ---- children by their index

abbrev pub UsualAt : List Node → ℕ → Type 0
UsualAt cs i = (c : Node) → slice_get cs i ≡ Some c → class_of (kind_of c) ≡ Usual

said_plain : (k : Kind) → said_by (plain_kind k) ≡ said_by k
unfolding plain_kind
said_plain (kind.Ident s c o) = refl
said_plain _ = refl

pub said_kept : (cs : List Node) (i : ℕ) → UsualAt cs i → said_of (slice_get (map stripped cs) i) ≡ said_of (slice_get cs i)
said_kept [] i u = refl
said_kept (c ∷ cs) zero u = ap said_by (usual_kind c (u c refl)) ∙ said_plain (kind_of c)
said_kept (c ∷ cs) (suc i) u = said_kept cs i u

variable_plain : (text : Id → List ℕ) (k : Kind) → variable_by text (plain_kind k) ≡ variable_by text k
unfolding plain_kind
variable_plain text (kind.Ident s c o) = refl
variable_plain text _ = refl

pub variable_kept : (text : Id → List ℕ) (cs : List Node) (i : ℕ) → UsualAt cs i → variable_of text (slice_get (map stripped cs) i) ≡ variable_of text (slice_get cs i)
variable_kept text [] i u = refl
variable_kept text (c ∷ cs) zero u = ap (variable_by text) (usual_kind c (u c refl)) ∙ variable_plain text (kind_of c)
variable_kept text (c ∷ cs) (suc i) u = variable_kept text cs i u

present_plain : (k : Kind) → is_present (plain_kind k) ≡ is_present k
unfolding plain_kind
present_plain (kind.Ident s c o) = refl
present_plain _ = refl

pub present_kept : (cs : List Node) (i : ℕ) → UsualAt cs i → of_kind is_present (slice_get (map stripped cs) i) ≡ of_kind is_present (slice_get cs i)
present_kept [] i u = refl
present_kept (c ∷ cs) zero u = ap is_present (usual_kind c (u c refl)) ∙ present_plain (kind_of c)
present_kept (c ∷ cs) (suc i) u = present_kept cs i u

pub declared_plain : (k : Kind) → is_declared (plain_kind k) ≡ is_declared k
unfolding plain_kind is_declared
declared_plain (kind.Ident s c o) = refl
declared_plain _ = refl

pub got_kept : (g : Node → Bool) (cs : List Node) (i : ℕ) → ((c : Node) → slice_get cs i ≡ Some c → g (stripped c) ≡ g c) → get_or (map g (map stripped cs)) i false ≡ get_or (map g cs) i false
got_kept g [] i h = refl
got_kept g (c ∷ cs) zero h = h c refl
got_kept g (c ∷ cs) (suc i) h = got_kept g cs i h

-- ---- kinds of a sort

pub ident_usual : (k : Kind) → belongs sort.Ident k ≡ true → class_of k ≡ Usual
unfolding class_of
ident_usual (kind.Ident s c o) b = refl
ident_usual _ b = cc

pub maybe_ident_usual : (k : Kind) → (is_absent k || belongs sort.Ident k) ≡ true → class_of k ≡ Usual
unfolding class_of
maybe_ident_usual (kind.Ident s c o) b = refl
maybe_ident_usual kind.Absent b = refl
maybe_ident_usual _ b = cc

pub text_usual : (k : Kind) → belongs sort.Str k ≡ true → class_of k ≡ Usual
unfolding class_of
text_usual (kind.Str value raw) b = refl
text_usual _ b = cc

pub maybe_text_usual : (k : Kind) → (is_absent k || belongs sort.Str k) ≡ true → class_of k ≡ Usual
unfolding class_of
maybe_text_usual (kind.Str value raw) b = refl
maybe_text_usual kind.Absent b = refl
maybe_text_usual _ b = cc

pub name_usual : (k : Kind) → belongs sort.ModuleExportName k ≡ true → class_of k ≡ Usual
unfolding class_of
name_usual (kind.Ident s c o) b = refl
name_usual (kind.Str value raw) b = refl
name_usual _ b = cc

pub maybe_name_usual : (k : Kind) → (is_absent k || belongs sort.ModuleExportName k) ≡ true → class_of k ≡ Usual
unfolding class_of
maybe_name_usual (kind.Ident s c o) b = refl
maybe_name_usual (kind.Str value raw) b = refl
maybe_name_usual kind.Absent b = refl
maybe_name_usual _ b = cc

key_usual : (k : Kind) → is_attribute_key k ≡ true → class_of k ≡ Usual
unfolding class_of
key_usual (kind.IdentName s) b = refl
key_usual (kind.Str value raw) b = refl
key_usual _ b = cc

value_usual : (k : Kind) → is_text k ≡ true → class_of k ≡ Usual
unfolding class_of
value_usual (kind.Str value raw) b = refl
value_usual _ b = cc

-- ---- parts of which none goes from a list

abbrev pub is_part : Kind → Bool
is_part kind.Absent = true
is_part (kind.ArrayPat optional) = true
is_part (kind.ObjectPat optional) = true
is_part kind.RestPat = true
is_part kind.AssignPat = true
is_part kind.KeyValuePatProp = true
is_part kind.AssignPatProp = true
is_part kind.KeyValueProp = true
is_part (kind.VarDeclarator definite) = true
is_part _ = false

part_item : (k : Kind) → is_part k ≡ true → (b : Bool) → cond (is_empty_stmt k) true (cond (belongs sort.ModuleItem k) b true) ≡ true
part_item kind.Absent h b = refl
part_item (kind.ArrayPat optional) h b = refl
part_item (kind.ObjectPat optional) h b = refl
part_item kind.RestPat h b = refl
part_item kind.AssignPat h b = refl
part_item kind.KeyValuePatProp h b = refl
part_item kind.AssignPatProp h b = refl
part_item kind.KeyValueProp h b = refl
part_item (kind.VarDeclarator definite) h b = refl
part_item _ h b = cc

part_member : (k : Kind) → is_part k ≡ true → (n : Node) → member_stays_by k n ≡ true
unfolding member_stays_by
part_member kind.Absent h n = refl
part_member (kind.ArrayPat optional) h n = refl
part_member (kind.ObjectPat optional) h n = refl
part_member kind.RestPat h n = refl
part_member kind.AssignPat h n = refl
part_member kind.KeyValuePatProp h n = refl
part_member kind.AssignPatProp h n = refl
part_member kind.KeyValueProp h n = refl
part_member (kind.VarDeclarator definite) h n = refl
part_member _ h n = cc

part_specifier : (k : Kind) → is_part k ≡ true → specifier_stays k ≡ true
unfolding specifier_stays
part_specifier kind.Absent h = refl
part_specifier (kind.ArrayPat optional) h = refl
part_specifier (kind.ObjectPat optional) h = refl
part_specifier kind.RestPat h = refl
part_specifier kind.AssignPat h = refl
part_specifier kind.KeyValuePatProp h = refl
part_specifier kind.AssignPatProp h = refl
part_specifier kind.KeyValueProp h = refl
part_specifier (kind.VarDeclarator definite) h = refl
part_specifier _ h = cc

part_this : (k : Kind) → is_part k ≡ true → (n : Node) → is_this_by k n ≡ false
part_this kind.BindingIdent h n = cc
part_this _ h n = refl

part_param : (k : Kind) → is_part k ≡ true → (n : Node) → is_this_param_by k n ≡ is_this n
part_param kind.Param h n = cc
part_param _ h n = refl

pub part_stays : (n : Node) → is_part (kind_of n) ≡ true → stays n ≡ true
unfolding stays
part_stays n h =
    let k = kind_of n in
    let param = part_param k h n ∙ part_this k h n in
    λ j. ((part_item k h (is_value n && not (is_ambient n)) j && part_member k h n j) && part_specifier k h j) && not (param j)

-- ---- attributes

both : (a b : Bool) → (a && b) ≡ true → (a ≡ true) × (b ≡ true)
both true b h = (refl, h)
both false b h = cc

of_kind_at : (is : Kind → Bool) → ((k : Kind) → is k ≡ true → class_of k ≡ Usual) → (cs : List Node) (i : ℕ) → of_kind is (slice_get cs i) ≡ true → UsualAt cs i
of_kind_at is usual [] i h c at = cc
of_kind_at is usual (x ∷ xs) zero h c at = let same_node : x ≡ c = cc in subst (λ (z : Node). class_of (kind_of z) ≡ Usual) same_node (usual (kind_of x) h)
of_kind_at is usual (x ∷ xs) (suc i) h c at = of_kind_at is usual xs i h c at

key_value : (k : Kind) → is_key_value k ≡ true → k ≡ kind.KeyValueProp
key_value kind.KeyValueProp h = refl
key_value _ h = cc

key_value_usual : class_of kind.KeyValueProp ≡ Usual
unfolding class_of
key_value_usual = refl

key_value_children : (cs : List Node) → plain_children kind.KeyValueProp cs ≡ cs
unfolding plain_children
key_value_children cs = refl

attribute_kept : (p : Node) → is_attribute p ≡ true → (attribute (stripped p) ≡ attribute p) × (stays p ≡ true)
attribute_kept p h =
    let t = both (is_key_value (kind_of p)) (child_is is_attribute_key p 0 && child_is is_text p 1) h in
    let u = both (child_is is_attribute_key p 0) (child_is is_text p 1) t.1 in
    let e = key_value (kind_of p) t.0 in
    let children : children_of (stripped p) ≡ map stripped (children_of p) =
    usual_children p (ap class_of e ∙ key_value_usual) ∙ ap (λ k. plain_children k (map stripped (children_of p))) e ∙ key_value_children (map stripped (children_of p)) in
    let key = ap (λ (z : List Node). said_of (slice_get z 0)) children ∙ said_kept (children_of p) 0 (of_kind_at is_attribute_key key_usual (children_of p) 0 u.0) in
    let value = ap (λ (z : List Node). said_of (slice_get z 1)) children ∙ said_kept (children_of p) 1 (of_kind_at is_text value_usual (children_of p) 1 u.1) in
    ((λ j. record { key = key j; value = value j }), part_stays p (ap is_part e))

attributes_kept : (ps : List Node) → list_all is_attribute ps ≡ true → map attribute (map stripped (filter stays ps)) ≡ map attribute ps
attributes_kept [] h = refl
attributes_kept (p ∷ ps) h =
    let t = both (is_attribute p) (list_all is_attribute ps) h in
    let one_kept = attribute_kept p t.0 in
    ap (λ b. map attribute (map stripped (cond b (p ∷ filter stays ps) (filter stays ps)))) one_kept.1 ∙ ap₂ (λ x xs. x ∷ xs) one_kept.0 (attributes_kept ps t.1)

object_usual : (k : Kind) → (is_absent k || belongs sort.ObjectLit k) ≡ true → (class_of k ≡ Usual) × ((cs : List Node) → plain_children k cs ≡ cs)
unfolding class_of plain_children
object_usual kind.Absent b = (refl, λ cs. refl)
object_usual kind.ObjectLit b = (refl, λ cs. refl)
object_usual _ b = cc

-- of the items of the list that is the first child, all that stay
pub first_left : (cs : List Node) → ((l : Node) → slice_get cs 0 ≡ Some l → is_list (kind_of l) ≡ true) → items_of (slice_get (map stripped cs) 0) ≡ map stripped (filter stays (items_of (slice_get cs 0)))
first_left [] h = refl
first_left (l ∷ cs) h = ap (λ (z : Node-F Node). z.children) (listed_parts l (h l refl))

none_there : (cs : List Node) → HaveShapes [] cs → (l : Node) → slice_get cs 0 ≡ Some l → ⊥
none_there [] h l at = cc
none_there (c ∷ cs) h l at = absurd h

object_list : (c : Node) → HasShape (maybe sort.ObjectLit) c → (l : Node) → slice_get (children_of c) 0 ≡ Some l → is_list (kind_of l) ≡ true
object_list c h l at = by (kind_of c) refl (shapes_of c (maybe sort.ObjectLit) h).0
  where
    by : (k : Kind) → kind_of c ≡ k → (is_absent k || belongs sort.ObjectLit k) ≡ true → is_list (kind_of l) ≡ true
    by kind.ObjectLit e b = ap is_list (list_shaped sort.PropOrSpread l (child_shaped c (maybe sort.ObjectLit, h) kind.ObjectLit e 0 (many sort.PropOrSpread) (λ s n. refl) l at))
    by kind.Absent e b = absurd (none_there (children_of c) (subst (λ (k : Kind). HaveShapes (child_shapes k (maybe sort.ObjectLit) (length (children_of c))) (children_of c)) e (shapes_of c (maybe sort.ObjectLit) h).1) l at)
    by _ e b = cc

object_kept : (c : Node) → HasShape (maybe sort.ObjectLit) c → holds_attributes c ≡ true → attributes_of (Some (stripped c)) ≡ attributes_of (Some c)
object_kept c h held =
    let u = object_usual (kind_of c) (shapes_of c (maybe sort.ObjectLit) h).0 in
    ap (λ (z : List Node). map attribute (items_of (slice_get z 0))) (usual_children c u.0 ∙ u.1 (map stripped (children_of c)))
    ∙ ap (map attribute) (first_left (children_of c) (object_list c h)) ∙ attributes_kept (items_at c 0) held

pub attributes_at : (cs : List Node) (i : ℕ) → ((c : Node) → slice_get cs i ≡ Some c → HasShape (maybe sort.ObjectLit) c × (holds_attributes c ≡ true)) → attributes_of (slice_get (map stripped cs) i) ≡ attributes_of (slice_get cs i)
attributes_at [] i h = refl
attributes_at (c ∷ cs) zero h = let t = h c refl in object_kept c t.0 t.1
attributes_at (c ∷ cs) (suc i) h = attributes_at cs i h
