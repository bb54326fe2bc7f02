-- What a declaration binds, it binds without its types.
use Rattle.std.proofs.Common.{◌≡◌, ◌∙◌, ◌||◌, ◌&&◌, not, ℕ, suc, Bool, true, false, cond, List, [], ◌∷◌, ◌++◌, filter, map, Some, refl, sym, ap, ap₂, slice_get}
use Rattle.ecma_kind.specs.Sorts.{belongs}
use Rattle.ecma_kind.specs.declared.kind.Kind.{Kind}
use Rattle.ecma_kind.specs.declared.kind.Kind.TheVariants as kind
use Rattle.ecma_kind.specs.declared.shapes.Sort.TheVariants as sort
use Rattle.ecma_tree.specs.declared.node.Node.{Node, Node-F}
use Rattle.ecma_tree.specs.Sorted.{HasShape, is_absent, is_list, many, maybe, one}
use Rattle.ecma_tree.specs.Values.{is_value}
use Rattle.ecma_rules.specs.Children.{kind_of}
use Rattle.ecma_fits.specs.declared.unfit.Where.{Where}
use Rattle.ecma_fits.specs.Fitting.{where_in}
use Rattle.ecma_fits.specs.Roles.{role_in}
use Rattle.ecma_strip.specs.Staying.{if_there, is_ambient, is_empty_stmt, is_this, is_this_by, is_this_ident, is_this_param_by, member_stays_by, specifier_stays, stays}
use Rattle.ecma_strip.specs.Stripping.{plain_children, plain_kind, stripped}
use Rattle.ecma_strip_fits.proofs.Classes.{class_of}
use Rattle.ecma_strip_fits.proofs.Classes.Class.{Usual}
use Rattle.ecma_strip_fits.proofs.Walk.{listed_parts, usual_children, usual_kind}
use Rattle.ecma_interface.specs.Names.{Id, all_ids, bound_by, bound_names}
use Rattle.ecma_interface_laws.proofs.Alike.{bound-out, children_of}
use Rattle.ecma_interface_laws.proofs.Telling.{child_shaped, list_shaped, listed_shaped, shapes_of}
use Rattle.ecma_strip_interface.proofs.Kept.{is_part, part_stays}
use Rattle.ecma_strip_interface.proofs.Patterns.{Name, Pattern, Patterns, Stands, array, assign, hole, is_declaring, more, name, none, object, pattern_of, property, rest, shorthand, stands_below}

-- the names that a node of this kind with these children binds
pub bound_as : (n : Node) (k : Kind) (cs : List Node) → kind_of n ≡ k → children_of n ≡ cs → bound_names n ≡ bound_by k (map bound_names cs)
bound_as n k cs e f = bound-out n ∙ ap₂ (λ z zs. bound_by z (map bound_names zs)) e f

-- and without types
stripped_as : (n : Node) (k : Kind) (cs : List Node) → kind_of n ≡ k → children_of n ≡ cs → class_of k ≡ Usual → bound_names (stripped n) ≡ bound_by (plain_kind k) (map bound_names (plain_children k (map stripped cs)))
stripped_as n k cs e f u =
    bound-out (stripped n)
    ∙ ap₂ (λ z zs. bound_by z (map bound_names zs)) (usual_kind n (ap class_of e ∙ u) ∙ ap plain_kind e)
    (usual_children n (ap class_of e ∙ u) ∙ ap₂ (λ z zs. plain_children z (map stripped zs)) e f)

-- ---- what stays in lists of patterns

part_this : (n : Node) → kind_of n ≡ kind.BindingIdent → is_this n ≡ if_there (slice_get (children_of n) 0) (λ x. is_this_ident (kind_of x))
part_this n e = ap (λ k. is_this_by k n) e

name_stays : {n : Node} → Name n → stays n ≡ true
unfolding stays member_stays_by specifier_stays
name_stays {n} x =
    let e = x.named in
    let no : is_this n ≡ false = part_this n e ∙ ap (λ (z : List Node). if_there (slice_get z 0) (λ y. is_this_ident (kind_of y))) x.parts ∙ ap is_this_ident x.says ∙ x.no_this in
    let param = ap (λ k. is_this_param_by k n) e ∙ no in
    let item = ap (λ k. cond (is_empty_stmt k) true (cond (belongs sort.ModuleItem k) (is_value n && not (is_ambient n)) true)) e in
    let member = ap (λ k. member_stays_by k n) e in
    let specifier = ap specifier_stays e in
    λ j. ((item j && member j) && specifier j) && not (param j)

pattern_stays : {n : Node} → Pattern n → stays n ≡ true
pattern_stays {n} (hole e) = part_stays n (ap is_part e)
pattern_stays (name x) = name_stays x
pattern_stays {n} (array l t o e is list all) = part_stays n (ap is_part e)
pattern_stays {n} (object l t o e is list all) = part_stays n (ap is_part e)
pattern_stays {n} (rest p t e is q) = part_stays n (ap is_part e)
pattern_stays {n} (assign p v e is q) = part_stays n (ap is_part e)
pattern_stays {n} (property key p e is q) = part_stays n (ap is_part e)
pattern_stays {n} (shorthand p v e is x) = part_stays n (ap is_part e)

patterns_stay : {ns : List Node} → Patterns ns → filter stays ns ≡ ns
patterns_stay none = refl
patterns_stay (more {n} {ns} p ps) = ap (λ b. cond b (n ∷ filter stays ns) (filter stays ns)) (pattern_stays p) ∙ ap (λ (z : List Node). n ∷ z) (patterns_stay ps)

-- ---- patterns

ident_bound : (i : Node) (s : List ℕ) (c : ℕ) (o : Bool) → kind_of i ≡ kind.Ident s c o → bound_names (stripped i) ≡ bound_names i
unfolding class_of plain_kind bound_by
ident_bound i s c o e = stripped_as i (kind.Ident s c o) (children_of i) e refl refl ∙ sym (bound_as i (kind.Ident s c o) (children_of i) e refl)

name_bound : {n : Node} → Name n → bound_names (stripped n) ≡ bound_names n
unfolding class_of plain_kind plain_children bound_by
name_bound {n} x =
    let cs = x.ident ∷ x.annotation ∷ [] in
    stripped_as n kind.BindingIdent cs x.named x.parts refl ∙ ident_bound x.ident x.sym x.ctxt x.optional x.says ∙ sym (bound_as n kind.BindingIdent cs x.named x.parts)

list_bound : (l : Node) → kind_of l ≡ kind.List → filter stays (children_of l) ≡ children_of l → all_ids (map bound_names (map stripped (children_of l))) ≡ all_ids (map bound_names (children_of l))
    → bound_names (stripped l) ≡ bound_names l
unfolding bound_by
list_bound l e all same =
    bound-out (stripped l)
    ∙ ap (λ (z : Node-F Node). bound_by z.kind (map bound_names z.children)) (listed_parts l (ap is_list e))
    ∙ ap (λ (z : List Node). all_ids (map bound_names (map stripped z))) all
    ∙ same
    ∙ sym (bound_as l kind.List (children_of l) e refl)

mutual
  unfolding class_of plain_kind plain_children bound_by

  pub pattern_bound : {n : Node} → Pattern n → bound_names (stripped n) ≡ bound_names n
  pattern_bound {n} (hole e) = stripped_as n kind.Absent (children_of n) e refl refl ∙ sym (bound_as n kind.Absent (children_of n) e refl)
  pattern_bound (name x) = name_bound x
  pattern_bound {n} (array l t o e is list all) =
      let cs = l ∷ t ∷ [] in
      stripped_as n (kind.ArrayPat o) cs e is refl ∙ list_bound l list (patterns_stay all) (patterns_bound all) ∙ sym (bound_as n (kind.ArrayPat o) cs e is)
  pattern_bound {n} (object l t o e is list all) =
      let cs = l ∷ t ∷ [] in
      stripped_as n (kind.ObjectPat o) cs e is refl ∙ list_bound l list (patterns_stay all) (patterns_bound all) ∙ sym (bound_as n (kind.ObjectPat o) cs e is)
  pattern_bound {n} (rest p t e is q) = let cs = p ∷ t ∷ [] in stripped_as n kind.RestPat cs e is refl ∙ pattern_bound q ∙ sym (bound_as n kind.RestPat cs e is)
  pattern_bound {n} (assign p v e is q) = let cs = p ∷ v ∷ [] in stripped_as n kind.AssignPat cs e is refl ∙ pattern_bound q ∙ sym (bound_as n kind.AssignPat cs e is)
  pattern_bound {n} (property key p e is q) = let cs = key ∷ p ∷ [] in stripped_as n kind.KeyValuePatProp cs e is refl ∙ pattern_bound q ∙ sym (bound_as n kind.KeyValuePatProp cs e is)
  pattern_bound {n} (shorthand p v e is x) = let cs = p ∷ v ∷ [] in stripped_as n kind.AssignPatProp cs e is refl ∙ name_bound x ∙ sym (bound_as n kind.AssignPatProp cs e is)

  patterns_bound : {ns : List Node} → Patterns ns → all_ids (map bound_names (map stripped ns)) ≡ all_ids (map bound_names ns)
  patterns_bound none = refl
  patterns_bound (more p ps) = ap₂ (λ xs ys. xs ++ ys) (pattern_bound p) (patterns_bound ps)

-- ---- declarations

-- what binds what its first child binds does so without types, where that does
first_bound : (n : Node) (k : Kind) → kind_of n ≡ k → class_of k ≡ Usual → ((ids : List (List Id)) → bound_by (plain_kind k) ids ≡ bound_by k ids) → ((cs : List Node) → plain_children k cs ≡ cs)
    → ((c d : List Id) (ids others : List (List Id)) → c ≡ d → bound_by k (c ∷ ids) ≡ bound_by k (d ∷ others)) → ((c : Node) → slice_get (children_of n) 0 ≡ Some c → bound_names (stripped c) ≡ bound_names c)
    → bound_names (stripped n) ≡ bound_names n
first_bound n k e u kinds children first same =
    stripped_as n k (children_of n) e refl u
    ∙ kinds (map bound_names (plain_children k (map stripped (children_of n))))
    ∙ ap (λ (z : List Node). bound_by k (map bound_names z)) (children (map stripped (children_of n)))
    ∙ by (children_of n) same
    ∙ sym (bound_as n k (children_of n) e refl)
  where
    by : (cs : List Node) → ((c : Node) → slice_get cs 0 ≡ Some c → bound_names (stripped c) ≡ bound_names c) → bound_by k (map bound_names (map stripped cs)) ≡ bound_by k (map bound_names cs)
    by [] h = refl
    by (c ∷ cs) h = first (bound_names (stripped c)) (bound_names c) (map bound_names (map stripped cs)) (map bound_names cs) (h c refl)

abbrev is_lone : Kind → Bool
is_lone (kind.Ident sym ctxt optional) = true
is_lone (kind.Str value raw) = true
is_lone kind.Absent = true
is_lone _ = false

ident_lone : (k : Kind) → belongs sort.Ident k ≡ true → is_lone k ≡ true
ident_lone (kind.Ident s c o) b = refl
ident_lone _ b = cc

maybe_ident_lone : (k : Kind) → (is_absent k || belongs sort.Ident k) ≡ true → is_lone k ≡ true
maybe_ident_lone (kind.Ident s c o) b = refl
maybe_ident_lone kind.Absent b = refl
maybe_ident_lone _ b = cc

module_name_lone : (k : Kind) → belongs sort.TsModuleName k ≡ true → is_lone k ≡ true
module_name_lone (kind.Ident s c o) b = refl
module_name_lone (kind.Str value raw) b = refl
module_name_lone _ b = cc

lone_bound : (c : Node) → is_lone (kind_of c) ≡ true → bound_names (stripped c) ≡ bound_names c
unfolding class_of plain_kind plain_children bound_by
lone_bound c n = by (kind_of c) refl n
  where
    by : (k : Kind) → kind_of c ≡ k → is_lone k ≡ true → bound_names (stripped c) ≡ bound_names c
    by (kind.Ident t x o) e n = ident_bound c t x o e
    by (kind.Str value raw) e n = stripped_as c (kind.Str value raw) (children_of c) e refl refl ∙ sym (bound_as c (kind.Str value raw) (children_of c) e refl)
    by kind.Absent e n = stripped_as c kind.Absent (children_of c) e refl refl ∙ sym (bound_as c kind.Absent (children_of c) e refl)
    by _ e n = cc

declarator_bound : (v : Node) (w : Where) → HasShape (one sort.VarDeclarator) v → Stands v w → bound_names (stripped v) ≡ bound_names v
unfolding class_of plain_kind plain_children bound_by role_in
declarator_bound v w h stands = by (kind_of v) refl (shapes_of v (one sort.VarDeclarator) h).0
  where
    by : (k : Kind) → kind_of v ≡ k → belongs sort.VarDeclarator k ≡ true → bound_names (stripped v) ≡ bound_names v
    by (kind.VarDeclarator definite) e b =
        first_bound v (kind.VarDeclarator definite) e refl (λ ids. refl) (λ cs. refl) (λ c d ids others q. q)
        (λ p at. pattern_bound (pattern_of p (one sort.Pat) (where_in w v 0) (child_shaped v (one sort.VarDeclarator, h) (kind.VarDeclarator definite) e 0 (one sort.Pat) (λ z n. refl) p at) (stands_below v w stands 0 p at)
        (ap (λ z. is_declaring (role_in w.role z 0)) e)))
    by _ e b = cc

declarator_part : (k : Kind) → belongs sort.VarDeclarator k ≡ true → is_part k ≡ true
declarator_part (kind.VarDeclarator definite) b = refl
declarator_part _ b = cc

declarators_bound : (vs : List Node) (around : ℕ → Where) → ((i : ℕ) (v : Node) → slice_get vs i ≡ Some v → HasShape (one sort.VarDeclarator) v × Stands v (around i))
    → (filter stays vs ≡ vs) × (all_ids (map bound_names (map stripped vs)) ≡ all_ids (map bound_names vs))
declarators_bound [] around h = (refl, refl)
declarators_bound (v ∷ vs) around h =
    let t = h 0 v refl in
    let others = declarators_bound vs (λ i. around (suc i)) (λ i x at. h (suc i) x at) in
    let stay = part_stays v (declarator_part (kind_of v) (shapes_of v (one sort.VarDeclarator) t.0).0) in
    (ap (λ b. cond b (v ∷ filter stays vs) (filter stays vs)) stay ∙ ap (λ (z : List Node). v ∷ z) others.0, ap₂ (λ xs ys. xs ++ ys) (declarator_bound v (around 0) t.0 t.1) others.1)

pub declaration_bound : (d : Node) (w : Where) → HasShape (one sort.Decl) d → Stands d w → bound_names (stripped d) ≡ bound_names d
unfolding class_of plain_kind plain_children bound_by
declaration_bound d w h stands = by (kind_of d) refl (shapes_of d (one sort.Decl) h).0
  where
    list_of : (l : Node) → HasShape (many sort.VarDeclarator) l → Stands l (where_in w d 0) → bound_names (stripped l) ≡ bound_names l
    list_of l shaped at =
        let t = declarators_bound (children_of l) (where_in (where_in w d 0) l) (λ i v there. (listed_shaped sort.VarDeclarator l shaped i v there, stands_below l (where_in w d 0) at i v there)) in
        list_bound l (list_shaped sort.VarDeclarator l shaped) t.0 t.1

    by : (k : Kind) → kind_of d ≡ k → belongs sort.Decl k ≡ true → bound_names (stripped d) ≡ bound_names d
    by (kind.VarDecl v declare) e b =
        first_bound d (kind.VarDecl v declare) e refl (λ ids. refl) (λ cs. refl) (λ c x ids others q. q)
        (λ l at. list_of l (child_shaped d (one sort.Decl, h) (kind.VarDecl v declare) e 0 (many sort.VarDeclarator) (λ z n. refl) l at) (stands_below d w stands 0 l at))
    by (kind.FnDecl declare) e b =
        first_bound d (kind.FnDecl declare) e refl (λ ids. refl) (λ cs. refl) (λ c x ids others q. q)
        (λ i at. lone_bound i (ident_lone (kind_of i) (shapes_of i (one sort.Ident) (child_shaped d (one sort.Decl, h) (kind.FnDecl declare) e 0 (one sort.Ident) (λ z n. refl) i at)).0))
    by (kind.ClassDecl declare) e b =
        first_bound d (kind.ClassDecl declare) e refl (λ ids. refl) (λ cs. refl) (λ c x ids others q. q)
        (λ i at. lone_bound i (ident_lone (kind_of i) (shapes_of i (one sort.Ident) (child_shaped d (one sort.Decl, h) (kind.ClassDecl declare) e 0 (one sort.Ident) (λ z n. refl) i at)).0))
    by (kind.TsEnumDecl declare is_const) e b =
        first_bound d (kind.TsEnumDecl declare is_const) e refl (λ ids. refl) (λ cs. refl) (λ c x ids others q. q)
        (λ i at. lone_bound i (ident_lone (kind_of i) (shapes_of i (one sort.Ident) (child_shaped d (one sort.Decl, h) (kind.TsEnumDecl declare is_const) e 0 (one sort.Ident) (λ z n. refl) i at)).0))
    by (kind.TsModuleDecl declare global) e b =
        first_bound d (kind.TsModuleDecl declare global) e refl (λ ids. refl) (λ cs. refl) (λ c x ids others q. q)
        (λ i at. lone_bound i (module_name_lone (kind_of i) (shapes_of i (one sort.TsModuleName) (child_shaped d (one sort.Decl, h) (kind.TsModuleDecl declare global) e 0 (one sort.TsModuleName) (λ z n. refl) i at)).0))
    by (kind.TsInterfaceDecl declare) e b = stripped_as d (kind.TsInterfaceDecl declare) (children_of d) e refl refl ∙ sym (bound_as d (kind.TsInterfaceDecl declare) (children_of d) e refl)
    by (kind.TsTypeAliasDecl declare) e b = stripped_as d (kind.TsTypeAliasDecl declare) (children_of d) e refl refl ∙ sym (bound_as d (kind.TsTypeAliasDecl declare) (children_of d) e refl)
    by _ e b = cc

pub default_bound : (d : Node) → HasShape (one sort.DefaultDecl) d → bound_names (stripped d) ≡ bound_names d
unfolding class_of plain_kind plain_children bound_by
default_bound d h = by (kind_of d) refl (shapes_of d (one sort.DefaultDecl) h).0
  where
    by : (k : Kind) → kind_of d ≡ k → belongs sort.DefaultDecl k ≡ true → bound_names (stripped d) ≡ bound_names d
    by kind.FnExpr e b =
        first_bound d kind.FnExpr e refl (λ ids. refl) (λ cs. refl) (λ c x ids others q. q)
        (λ i at. lone_bound i (maybe_ident_lone (kind_of i) (shapes_of i (maybe sort.Ident) (child_shaped d (one sort.DefaultDecl, h) kind.FnExpr e 0 (maybe sort.Ident) (λ z n. refl) i at)).0))
    by kind.ClassExpr e b =
        first_bound d kind.ClassExpr e refl (λ ids. refl) (λ cs. refl) (λ c x ids others q. q)
        (λ i at. lone_bound i (maybe_ident_lone (kind_of i) (shapes_of i (maybe sort.Ident) (child_shaped d (one sort.DefaultDecl, h) kind.ClassExpr e 0 (maybe sort.Ident) (λ z n. refl) i at)).0))
    by (kind.TsInterfaceDecl declare) e b = stripped_as d (kind.TsInterfaceDecl declare) (children_of d) e refl refl ∙ sym (bound_as d (kind.TsInterfaceDecl declare) (children_of d) e refl)
    by _ e b = cc
