-- What a declaration binds it binds with other texts, where these names keep theirs; and the default export binds a name by its text.
use Rattle.std.proofs.Common.{◌≡◌, ◌∙◌, ◌||◌, ℕ, suc, Bool, true, false, List, [], ◌∷◌, ◌++◌, map, Some, None, refl, sym, ap, ap₂, subst, slice_get}
use Rattle.ecma_kind.specs.Sorts.{belongs}
use Rattle.ecma_kind.specs.declared.kind.Kind.{Kind}
use Rattle.ecma_kind.specs.declared.kind.Kind.TheVariants as kind
use Rattle.ecma_kind.specs.declared.shapes.Sort.TheVariants as sort
use Rattle.ecma_tree.specs.declared.node.Node.{Node, out-Node}
use Rattle.ecma_tree.specs.Sorted.{HasShape, is_absent, many, maybe, one}
use Rattle.ecma_rules.specs.Children.{kind_of}
use Rattle.ecma_fits.specs.declared.unfit.Where.{Where}
use Rattle.ecma_fits.specs.Fitting.{where_in}
use Rattle.ecma_fits.specs.Roles.{role_in as fits_role_in}
use Rattle.ecma_scope.specs.Resolved.{is_name}
use Rattle.ecma_scope.specs.Scopes.{is_ambient, is_there, passes_ambient, role_by}
use Rattle.ecma_hygiene.specs.declared.spot.Spot.{Spot}
use Rattle.ecma_hygiene.specs.declared.spot.Spot.TheVariants as spot
use Rattle.ecma_hygiene.specs.declared.spot.Standing.{Standing}
use Rattle.ecma_hygiene.specs.Renamed.{Texts, first_item, key_name, kind_with_text, old_name, old_name_by, shared_by, spot_in, standing_in, text_of}
use Rattle.ecma_hygiene_fits.proofs.Becoming.{all_become, become, children_stay, is_touched, kind_stays}
use Rattle.ecma_interface.specs.Names.{Id, all_ids, bound_by, bound_names}
use Rattle.ecma_interface.specs.Reading.{default_of, own_text}
use Rattle.ecma_interface_laws.proofs.Alike.{bound-out, children_of}
use Rattle.ecma_interface_laws.proofs.Telling.{child_shaped, list_shaped, listed_shaped, shapes_of}
use Rattle.ecma_strip_interface.proofs.Binding.{bound_as}
use Rattle.ecma_strip_interface.proofs.Patterns.{Name, Pattern, Patterns, Stands, array, assign, hole, is_declaring, more, name, none, object, pattern_of, property, rest, shorthand, stands_below}
use Rattle.ecma_hygiene_interface.specs.Laws.{KeepTexts}
use Rattle.ecma_hygiene_interface.proofs.Names.{IsElsewhere, ident_become, plain_children_of, plain_kind_of, unchanged}

module _ (texts : Texts) where
  pub split_kept : (xs ys : List Id) → KeepTexts texts (xs ++ ys) → KeepTexts texts xs × KeepTexts texts ys
  split_kept [] ys k = (tt, k)
  split_kept (x ∷ xs) ys k = let t = split_kept xs ys k.1 in ((k.0, t.0), t.1)

  keep : {xs ys : List Id} → xs ≡ ys → KeepTexts texts xs → KeepTexts texts ys
  keep e k = subst (KeepTexts texts) e k

  -- what is not touched, by its kind and its children
  become_as : (n : Node) (k : Kind) (cs : List Node) → kind_of n ≡ k → children_of n ≡ cs → is_touched k ≡ false → (stands : Standing) → bound_names (become texts n stands) ≡ bound_by k (map bound_names (all_become texts (standing_in stands n) 0 cs))
  become_as n k cs e f u stands =
      bound-out (become texts n stands)
      ∙ ap₂ (λ z zs. bound_by z (map bound_names zs)) (kind_stays texts n stands (ap is_touched e ∙ u) ∙ e) (children_stay texts n stands (ap is_touched e ∙ u) ∙ ap (all_become texts (standing_in stands n) 0) f)

  -- ---- a name

  ident_bound : (i : Node) (s : List ℕ) (c : ℕ) (o : Bool) → kind_of i ≡ kind.Ident s c o → (stands : Standing) → is_name stands.role ≡ false → IsElsewhere stands → bound_names (become texts i stands) ≡ (text_of texts (s, c), c) ∷ []
  unfolding bound_by
  ident_bound i s c o e stands role elsewhere =
      bound-out (become texts i stands) ∙ ap (λ k. bound_by k (map bound_names (children_of (become texts i stands)))) (ident_become texts i s c o e stands role elsewhere)

  ident_as : (i : Node) (s : List ℕ) (c : ℕ) (o : Bool) → kind_of i ≡ kind.Ident s c o → bound_names i ≡ (s, c) ∷ []
  unfolding bound_by
  ident_as i s c o e = bound_as i (kind.Ident s c o) (children_of i) e refl

  name_role : (n : Node) → kind_of n ≡ kind.BindingIdent → (stands : Standing) → is_name (standing_in stands n 0).role ≡ false
  unfolding role_by
  name_role n e stands = ap (λ k. is_name (role_by stands.role k (is_there (children_of n) 1) 0)) e

  name_spot : (s : Spot) → spot_in s kind.BindingIdent 0 ≡ spot.Elsewhere
  name_spot spot.Properties = refl
  name_spot _ = refl

  name_as : {n : Node} (x : Name n) → bound_names n ≡ (x.sym, x.ctxt) ∷ []
  unfolding bound_by
  name_as {n} x = bound_as n kind.BindingIdent (x.ident ∷ x.annotation ∷ []) x.named x.parts ∙ ident_as x.ident x.sym x.ctxt x.optional x.says

  name_kept : {n : Node} (x : Name n) → KeepTexts texts (bound_names n) → text_of texts (x.sym, x.ctxt) ≡ x.sym
  name_kept x k = let t : KeepTexts texts ((x.sym, x.ctxt) ∷ []) = keep (name_as x) k in t.0

  name_bound : {n : Node} → Name n → KeepTexts texts (bound_names n) → (stands : Standing) → bound_names (become texts n stands) ≡ bound_names n
  unfolding bound_by is_touched
  name_bound {n} x k stands =
      become_as n kind.BindingIdent (x.ident ∷ x.annotation ∷ []) x.named x.parts refl stands
      ∙ ident_bound x.ident x.sym x.ctxt x.optional x.says (standing_in stands n 0) (name_role n x.named stands) (ap (λ z. spot_in stands.spot z 0) x.named ∙ name_spot stands.spot)
      ∙ ap (λ t. (t, x.ctxt) ∷ []) (name_kept x k) ∙ sym (name_as x)

  property_kind : (named : Bool) → kind_with_text texts named kind.KeyValuePatProp ≡ kind.KeyValuePatProp
  property_kind true = refl
  property_kind false = refl

  shorthand_kind : (named : Bool) → kind_with_text texts named kind.AssignPatProp ≡ kind.AssignPatProp
  shorthand_kind true = refl
  shorthand_kind false = refl

  -- ---- patterns

  list_bound : (l : Node) → kind_of l ≡ kind.List → (stands : Standing) → all_ids (map bound_names (all_become texts (standing_in stands l) 0 (children_of l))) ≡ all_ids (map bound_names (children_of l)) → bound_names (become texts l stands) ≡ bound_names l
  unfolding bound_by is_touched
  list_bound l e stands same = become_as l kind.List (children_of l) e refl refl stands ∙ same ∙ sym (bound_as l kind.List (children_of l) e refl)

  list_as : (l : Node) → kind_of l ≡ kind.List → bound_names l ≡ all_ids (map bound_names (children_of l))
  unfolding bound_by
  list_as l e = bound_as l kind.List (children_of l) e refl

  mutual
    unfolding bound_by is_touched shared_by

    pub pattern_kept : {n : Node} → Pattern n → KeepTexts texts (bound_names n) → (stands : Standing) → bound_names (become texts n stands) ≡ bound_names n
    pattern_kept {n} (hole e) k stands = become_as n kind.Absent (children_of n) e refl refl stands ∙ sym (bound_as n kind.Absent (children_of n) e refl)
    pattern_kept (name x) k stands = name_bound x k stands
    pattern_kept {n} (array l t o e is list all) k stands =
        let binds = bound_as n (kind.ArrayPat o) (l ∷ t ∷ []) e is in
        become_as n (kind.ArrayPat o) (l ∷ t ∷ []) e is refl stands ∙ list_bound l list (standing_in stands n 0) (patterns_kept all (keep (binds ∙ list_as l list) k) (standing_in (standing_in stands n 0) l) 0) ∙ sym binds
    pattern_kept {n} (object l t o e is list all) k stands =
        let binds = bound_as n (kind.ObjectPat o) (l ∷ t ∷ []) e is in
        become_as n (kind.ObjectPat o) (l ∷ t ∷ []) e is refl stands ∙ list_bound l list (standing_in stands n 0) (patterns_kept all (keep (binds ∙ list_as l list) k) (standing_in (standing_in stands n 0) l) 0) ∙ sym binds
    pattern_kept {n} (rest p t e is q) k stands =
        let binds = bound_as n kind.RestPat (p ∷ t ∷ []) e is in become_as n kind.RestPat (p ∷ t ∷ []) e is refl stands ∙ pattern_kept q (keep binds k) (standing_in stands n 0) ∙ sym binds
    pattern_kept {n} (assign p v e is q) k stands =
        let binds = bound_as n kind.AssignPat (p ∷ v ∷ []) e is in become_as n kind.AssignPat (p ∷ v ∷ []) e is refl stands ∙ pattern_kept q (keep binds k) (standing_in stands n 0) ∙ sym binds
    pattern_kept {n} (property key p e is q) k stands =
        let binds = bound_as n kind.KeyValuePatProp (key ∷ p ∷ []) e is in
        let plain : old_name texts (shared_by stands (kind_of n) n) ≡ None = ap (λ z. old_name texts (shared_by stands z n)) e in
        let kinds = plain_kind_of texts n stands plain ∙ ap (kind_with_text texts (is_name stands.role)) e ∙ property_kind (is_name stands.role) in
        bound-out (become texts n stands)
        ∙ ap₂ (λ z zs. bound_by z (map bound_names zs)) kinds (plain_children_of texts n stands plain ∙ ap (all_become texts (standing_in stands n) 0) is)
        ∙ pattern_kept q (keep binds k) (standing_in stands n 1) ∙ sym binds
    pattern_kept {n} (shorthand p v e is x) k stands =
        let binds = bound_as n kind.AssignPatProp (p ∷ v ∷ []) e is in
        let own = keep binds k in
        let key : shared_by stands (kind_of n) n ≡ Some x.ident = ap (λ z. shared_by stands z n) e ∙ ap key_name is ∙ ap first_item x.parts in
        let plain : old_name texts (shared_by stands (kind_of n) n) ≡ None =
        ap (old_name texts) key ∙ ap (old_name_by texts (out-Node x.ident).span) x.says ∙ unchanged texts (texts (x.sym, x.ctxt)) x.sym (out-Node x.ident).span (name_kept x own) in
        let kinds = plain_kind_of texts n stands plain ∙ ap (kind_with_text texts (is_name stands.role)) e ∙ shorthand_kind (is_name stands.role) in
        bound-out (become texts n stands)
        ∙ ap₂ (λ z zs. bound_by z (map bound_names zs)) kinds (plain_children_of texts n stands plain ∙ ap (all_become texts (standing_in stands n) 0) is)
        ∙ name_bound x own (standing_in stands n 0) ∙ sym binds

    patterns_kept : {ns : List Node} → Patterns ns → KeepTexts texts (all_ids (map bound_names ns)) → (stands : ℕ → Standing) (i : ℕ) → all_ids (map bound_names (all_become texts stands i ns)) ≡ all_ids (map bound_names ns)
    patterns_kept none k stands i = refl
    patterns_kept (more {n} {ns} p ps) k stands i =
        let t = split_kept (bound_names n) (all_ids (map bound_names ns)) k in
        ap₂ (λ xs ys. xs ++ ys) (pattern_kept p t.0 (stands i)) (patterns_kept ps t.1 stands (suc i))

  -- ---- declarations

  first_as : (n : Node) (k : Kind) → kind_of n ≡ k → ((c : List Id) (ids : List (List Id)) → bound_by k (c ∷ ids) ≡ c) → (c : Node) (cs : List Node) → children_of n ≡ c ∷ cs → bound_names n ≡ bound_names c
  first_as n k e first c cs f = bound_as n k (c ∷ cs) e f ∙ first (bound_names c) (map bound_names cs)

  -- what binds what its first child binds, where it is not touched
  first_kept : (n : Node) (k : Kind) → kind_of n ≡ k → is_touched k ≡ false → ((c : List Id) (ids : List (List Id)) → bound_by k (c ∷ ids) ≡ c) → bound_by k [] ≡ [] → (stands : Standing)
      → ((c : Node) → slice_get (children_of n) 0 ≡ Some c → bound_names n ≡ bound_names c → bound_names (become texts c (standing_in stands n 0)) ≡ bound_names c) → bound_names (become texts n stands) ≡ bound_names n
  first_kept n k e u first empty stands same = by (children_of n) refl
    where
      by : (cs : List Node) → children_of n ≡ cs → bound_names (become texts n stands) ≡ bound_names n
      by [] f = become_as n k [] e f u stands ∙ sym (bound_as n k [] e f)
      by (c ∷ cs) f =
          let binds = first_as n k e first c cs f in
          become_as n k (c ∷ cs) e f u stands
          ∙ first (bound_names (become texts c (standing_in stands n 0))) (map bound_names (all_become texts (standing_in stands n) 1 cs))
          ∙ same c (ap (λ (z : List Node). slice_get z 0) f) binds ∙ sym binds

  declarator_kept : (v : Node) (w : Where) → HasShape (one sort.VarDeclarator) v → Stands v w → KeepTexts texts (bound_names v) → (stands : Standing) → bound_names (become texts v stands) ≡ bound_names v
  unfolding bound_by is_touched fits_role_in
  declarator_kept v w h at kept stands = by (kind_of v) refl (shapes_of v (one sort.VarDeclarator) h).0
    where
      by : (k : Kind) → kind_of v ≡ k → belongs sort.VarDeclarator k ≡ true → bound_names (become texts v stands) ≡ bound_names v
      by (kind.VarDeclarator definite) e b =
          first_kept v (kind.VarDeclarator definite) e refl (λ c ids. refl) refl stands
          (λ p there binds. pattern_kept (pattern_of p (one sort.Pat) (where_in w v 0) (child_shaped v (one sort.VarDeclarator, h) (kind.VarDeclarator definite) e 0 (one sort.Pat) (λ z n. refl) p there) (stands_below v w at 0 p there)
          (ap (λ z. is_declaring (fits_role_in w.role z 0)) e)) (keep binds kept) (standing_in stands v 0))
      by _ e b = cc

  declarators_kept : (vs : List Node) (around : ℕ → Where) → ((i : ℕ) (v : Node) → slice_get vs i ≡ Some v → HasShape (one sort.VarDeclarator) v × Stands v (around i)) → KeepTexts texts (all_ids (map bound_names vs))
      → (stands : ℕ → Standing) (i : ℕ) → all_ids (map bound_names (all_become texts stands i vs)) ≡ all_ids (map bound_names vs)
  declarators_kept [] around h kept stands i = refl
  declarators_kept (v ∷ vs) around h kept stands i =
      let t = h 0 v refl in
      let k = split_kept (bound_names v) (all_ids (map bound_names vs)) kept in
      ap₂ (λ xs ys. xs ++ ys) (declarator_kept v (around 0) t.0 t.1 k.0 (stands i)) (declarators_kept vs (λ j. around (suc j)) (λ j x at. h (suc j) x at) k.1 stands (suc i))

  -- a name of a function, a class, an enum or a namespace
  lone_kept : (i : Node) → belongs sort.TsModuleName (kind_of i) ≡ true → KeepTexts texts (bound_names i) → (stands : Standing) → is_name stands.role ≡ false → IsElsewhere stands → bound_names (become texts i stands) ≡ bound_names i
  unfolding bound_by is_touched
  lone_kept i h kept stands role elsewhere = by (kind_of i) refl h
    where
      by : (k : Kind) → kind_of i ≡ k → belongs sort.TsModuleName k ≡ true → bound_names (become texts i stands) ≡ bound_names i
      by (kind.Ident s c o) e b =
          let t : KeepTexts texts ((s, c) ∷ []) = keep (ident_as i s c o e) kept in
          ident_bound i s c o e stands role elsewhere ∙ ap (λ z. (z, c) ∷ []) t.0 ∙ sym (ident_as i s c o e)
      by (kind.Str value raw) e b = become_as i (kind.Str value raw) (children_of i) e refl refl stands ∙ sym (bound_as i (kind.Str value raw) (children_of i) e refl)
      by _ e b = cc

  ident_lone : (k : Kind) → belongs sort.Ident k ≡ true → belongs sort.TsModuleName k ≡ true
  ident_lone (kind.Ident s c o) b = refl
  ident_lone _ b = cc

  abbrev is_named_by : Kind → Bool
  is_named_by (kind.FnDecl declare) = true
  is_named_by (kind.ClassDecl declare) = true
  is_named_by (kind.TsEnumDecl declare is_const) = true
  is_named_by (kind.TsModuleDecl declare global) = true
  is_named_by kind.FnExpr = true
  is_named_by kind.ClassExpr = true
  is_named_by _ = false

  ambient_name : (b : Bool) → is_name (passes_ambient b) ≡ false
  ambient_name true = refl
  ambient_name false = refl

  declared_role : (n : Node) (k : Kind) → kind_of n ≡ k → is_named_by k ≡ true → (stands : Standing) → (is_name (standing_in stands n 0).role ≡ false) × IsElsewhere (standing_in stands n 0)
  unfolding role_by
  declared_role n k e h stands = (ap (λ z. is_name (role_by stands.role z (is_there (children_of n) 1) 0)) e ∙ role k h, ap (λ z. spot_in stands.spot z 0) e ∙ place stands.spot k h)
    where
      role : (k : Kind) → is_named_by k ≡ true → is_name (role_by stands.role k (is_there (children_of n) 1) 0) ≡ false
      role (kind.FnDecl declare) h = refl
      role (kind.ClassDecl declare) h = refl
      role (kind.TsEnumDecl declare is_const) h = refl
      role (kind.TsModuleDecl declare global) h = ambient_name (declare || is_ambient stands.role)
      role kind.FnExpr h = refl
      role kind.ClassExpr h = refl
      role _ h = cc

      place : (s : Spot) (k : Kind) → is_named_by k ≡ true → spot_in s k 0 ≡ spot.Elsewhere
      place spot.Properties (kind.FnDecl declare) h = refl
      place spot.Properties (kind.ClassDecl declare) h = refl
      place spot.Properties (kind.TsEnumDecl declare is_const) h = refl
      place spot.Properties (kind.TsModuleDecl declare global) h = refl
      place spot.Properties kind.FnExpr h = refl
      place spot.Properties kind.ClassExpr h = refl
      place spot.Properties _ h = cc
      place _ (kind.FnDecl declare) h = refl
      place _ (kind.ClassDecl declare) h = refl
      place _ (kind.TsEnumDecl declare is_const) h = refl
      place _ (kind.TsModuleDecl declare global) h = refl
      place _ kind.FnExpr h = refl
      place _ kind.ClassExpr h = refl
      place _ _ h = cc

  pub declaration_kept : (d : Node) (w : Where) → HasShape (one sort.Decl) d → Stands d w → KeepTexts texts (bound_names d) → (stands : Standing) → bound_names (become texts d stands) ≡ bound_names d
  unfolding bound_by is_touched
  declaration_kept d w h at kept stands = by (kind_of d) refl (shapes_of d (one sort.Decl) h).0
    where
      list_of : (l : Node) → HasShape (many sort.VarDeclarator) l → Stands l (where_in w d 0) → KeepTexts texts (bound_names l) → bound_names (become texts l (standing_in stands d 0)) ≡ bound_names l
      list_of l shaped there k =
          let is = list_shaped sort.VarDeclarator l shaped in
          list_bound l is (standing_in stands d 0)
          (declarators_kept (children_of l) (where_in (where_in w d 0) l) (λ i v here. (listed_shaped sort.VarDeclarator l shaped i v here, stands_below l (where_in w d 0) there i v here)) (keep (list_as l is) k) (standing_in (standing_in stands d 0) l) 0)

      named_of : (k : Kind) → kind_of d ≡ k → is_touched k ≡ false → ((c : List Id) (ids : List (List Id)) → bound_by k (c ∷ ids) ≡ c) → bound_by k [] ≡ [] → is_named_by k ≡ true
          → ((c : Node) → slice_get (children_of d) 0 ≡ Some c → belongs sort.TsModuleName (kind_of c) ≡ true) → bound_names (become texts d stands) ≡ bound_names d
      named_of k e u first empty n lone =
          let r = declared_role d k e n stands in
          first_kept d k e u first empty stands (λ c there binds. lone_kept c (lone c there) (keep binds kept) (standing_in stands d 0) r.0 r.1)

      by : (k : Kind) → kind_of d ≡ k → belongs sort.Decl k ≡ true → bound_names (become texts d stands) ≡ bound_names d
      by (kind.VarDecl v declare) e b =
          first_kept d (kind.VarDecl v declare) e refl (λ c ids. refl) refl stands
          (λ l there binds. list_of l (child_shaped d (one sort.Decl, h) (kind.VarDecl v declare) e 0 (many sort.VarDeclarator) (λ z n. refl) l there) (stands_below d w at 0 l there) (keep binds kept))
      by (kind.FnDecl declare) e b =
          named_of (kind.FnDecl declare) e refl (λ c ids. refl) refl refl
          (λ c there. ident_lone (kind_of c) (shapes_of c (one sort.Ident) (child_shaped d (one sort.Decl, h) (kind.FnDecl declare) e 0 (one sort.Ident) (λ z n. refl) c there)).0)
      by (kind.ClassDecl declare) e b =
          named_of (kind.ClassDecl declare) e refl (λ c ids. refl) refl refl
          (λ c there. ident_lone (kind_of c) (shapes_of c (one sort.Ident) (child_shaped d (one sort.Decl, h) (kind.ClassDecl declare) e 0 (one sort.Ident) (λ z n. refl) c there)).0)
      by (kind.TsEnumDecl declare is_const) e b =
          named_of (kind.TsEnumDecl declare is_const) e refl (λ c ids. refl) refl refl
          (λ c there. ident_lone (kind_of c) (shapes_of c (one sort.Ident) (child_shaped d (one sort.Decl, h) (kind.TsEnumDecl declare is_const) e 0 (one sort.Ident) (λ z n. refl) c there)).0)
      by (kind.TsModuleDecl declare global) e b =
          named_of (kind.TsModuleDecl declare global) e refl (λ c ids. refl) refl refl
          (λ c there. (shapes_of c (one sort.TsModuleName) (child_shaped d (one sort.Decl, h) (kind.TsModuleDecl declare global) e 0 (one sort.TsModuleName) (λ z n. refl) c there)).0)
      by (kind.TsInterfaceDecl declare) e b = become_as d (kind.TsInterfaceDecl declare) (children_of d) e refl refl stands ∙ sym (bound_as d (kind.TsInterfaceDecl declare) (children_of d) e refl)
      by (kind.TsTypeAliasDecl declare) e b = become_as d (kind.TsTypeAliasDecl declare) (children_of d) e refl refl stands ∙ sym (bound_as d (kind.TsTypeAliasDecl declare) (children_of d) e refl)
      by _ e b = cc

  equals_role : (n : Node) (a b : Bool) → kind_of n ≡ kind.TsImportEqualsDecl a b → (stands : Standing) → (is_name (standing_in stands n 0).role ≡ false) × IsElsewhere (standing_in stands n 0)
  unfolding role_by
  equals_role n a b e stands = (ap (λ z. is_name (role_by stands.role z (is_there (children_of n) 1) 0)) e, ap (λ z. spot_in stands.spot z 0) e ∙ place stands.spot)
    where
      place : (s : Spot) → spot_in s (kind.TsImportEqualsDecl a b) 0 ≡ spot.Elsewhere
      place spot.Properties = refl
      place _ = refl

  -- the name behind `import a =`
  pub equals_kept : (n : Node) (a b : Bool) → kind_of n ≡ kind.TsImportEqualsDecl a b → (stands : Standing) → (i : Node) → HasShape (one sort.Ident) i → KeepTexts texts (bound_names i)
      → bound_names (become texts i (standing_in stands n 0)) ≡ bound_names i
  equals_kept n a b e stands i h kept =
      let r = equals_role n a b e stands in lone_kept i (ident_lone (kind_of i) (shapes_of i (one sort.Ident) h).0) kept (standing_in stands n 0) r.0 r.1

  -- ---- the default export

  default_of_ident : (i : Node) → (is_absent (kind_of i) || belongs sort.Ident (kind_of i)) ≡ true → (stands : Standing) → is_name stands.role ≡ false → IsElsewhere stands
      → default_of own_text (bound_names (become texts i stands)) ≡ default_of (text_of texts) (bound_names i)
  unfolding bound_by is_touched
  default_of_ident i h stands role elsewhere = by (kind_of i) refl h
    where
      by : (k : Kind) → kind_of i ≡ k → (is_absent k || belongs sort.Ident k) ≡ true → default_of own_text (bound_names (become texts i stands)) ≡ default_of (text_of texts) (bound_names i)
      by (kind.Ident s c o) e b = ap (default_of own_text) (ident_bound i s c o e stands role elsewhere) ∙ ap (default_of (text_of texts)) (sym (ident_as i s c o e))
      by kind.Absent e b = ap (default_of own_text) (become_as i kind.Absent (children_of i) e refl refl stands) ∙ ap (default_of (text_of texts)) (sym (bound_as i kind.Absent (children_of i) e refl))
      by _ e b = cc

  pub default_kept : (d : Node) → HasShape (one sort.DefaultDecl) d → (stands : Standing) → default_of own_text (bound_names (become texts d stands)) ≡ default_of (text_of texts) (bound_names d)
  unfolding bound_by is_touched
  default_kept d h stands = by (kind_of d) refl (shapes_of d (one sort.DefaultDecl) h).0
    where
      named_of : (k : Kind) → kind_of d ≡ k → is_touched k ≡ false → ((c : List Id) (ids : List (List Id)) → bound_by k (c ∷ ids) ≡ c) → bound_by k [] ≡ [] → is_named_by k ≡ true
          → ((c : Node) → slice_get (children_of d) 0 ≡ Some c → (is_absent (kind_of c) || belongs sort.Ident (kind_of c)) ≡ true) → default_of own_text (bound_names (become texts d stands)) ≡ default_of (text_of texts) (bound_names d)
      named_of k e u first empty n lone = go (children_of d) refl
        where
          go : (cs : List Node) → children_of d ≡ cs → default_of own_text (bound_names (become texts d stands)) ≡ default_of (text_of texts) (bound_names d)
          go [] f =
              ap (default_of own_text) (become_as d k [] e f u stands ∙ empty) ∙ ap (default_of (text_of texts)) (sym (bound_as d k [] e f ∙ empty))
          go (c ∷ cs) f =
              let r = declared_role d k e n stands in
              ap (default_of own_text) (become_as d k (c ∷ cs) e f u stands ∙ first (bound_names (become texts c (standing_in stands d 0))) (map bound_names (all_become texts (standing_in stands d) 1 cs)))
              ∙ default_of_ident c (lone c (ap (λ (z : List Node). slice_get z 0) f)) (standing_in stands d 0) r.0 r.1 ∙ ap (default_of (text_of texts)) (sym (first_as d k e first c cs f))

      by : (k : Kind) → kind_of d ≡ k → belongs sort.DefaultDecl k ≡ true → default_of own_text (bound_names (become texts d stands)) ≡ default_of (text_of texts) (bound_names d)
      by kind.FnExpr e b =
          named_of kind.FnExpr e refl (λ c ids. refl) refl refl (λ c there. (shapes_of c (maybe sort.Ident) (child_shaped d (one sort.DefaultDecl, h) kind.FnExpr e 0 (maybe sort.Ident) (λ z n. refl) c there)).0)
      by kind.ClassExpr e b =
          named_of kind.ClassExpr e refl (λ c ids. refl) refl refl (λ c there. (shapes_of c (maybe sort.Ident) (child_shaped d (one sort.DefaultDecl, h) kind.ClassExpr e 0 (maybe sort.Ident) (λ z n. refl) c there)).0)
      by (kind.TsInterfaceDecl declare) e b =
          ap (default_of own_text) (become_as d (kind.TsInterfaceDecl declare) (children_of d) e refl refl stands) ∙ ap (default_of (text_of texts)) (sym (bound_as d (kind.TsInterfaceDecl declare) (children_of d) e refl))
      by _ e b = cc
