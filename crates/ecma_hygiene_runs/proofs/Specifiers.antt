-- Keys beside the specifiers of imports and exports: the names that others have, and with a source those that are theirs.
use Rattle.std.proofs.Common.{◌≡◌, ◌⊎◌, inl, inr, refl, sym, ap, ◌∙◌, subst, ℕ, zero, suc, List, [], ◌∷◌, ◌++◌, map, length, replicate, Bool, true, false, cond, not, ◌&&◌, ◌||◌}
use Rattle.std.specs.List.{list_all}
use Rattle.std.proofs.lemmas.Bool.{eqb-true}
use Rattle.ecma_kind.specs.Sorts.{belongs}
use Rattle.ecma_kind.specs.declared.kind.Kind.{Kind}
use Rattle.ecma_kind.specs.declared.kind.Kind.TheVariants as kind
use Rattle.ecma_kind.specs.declared.shapes.Count.{Count}
use Rattle.ecma_kind.specs.declared.shapes.Count.TheVariants.{One, Maybe, Many, MaybeMany, Holes}
use Rattle.ecma_kind.specs.declared.shapes.Shape.{Shape}
use Rattle.ecma_kind.specs.declared.shapes.Sort.{Sort}
use Rattle.ecma_kind.specs.declared.shapes.Sort.TheVariants as sort
use Rattle.ecma_kind.specs.declared.span.Span.{Span}
use Rattle.ecma_tree.specs.declared.node.Node.{Node, out-Node}
use Rattle.ecma_tree.specs.declared.node.Node.TheViews.{out-roll-Node, roll-out-Node}
use Rattle.ecma_tree.specs.Laws.{HaveShapes}
use Rattle.ecma_tree.specs.Nodes.{absent, dummy_span, node_of}
use Rattle.ecma_tree.specs.Sorted.{HasShape, allows, allows_by, child_shapes, is_absent, is_list, item_shape, many, maybe, one}
use Rattle.ecma_scope.specs.declared.role.Role.{Role}
use Rattle.ecma_scope.specs.declared.role.Role.TheVariants as role
use Rattle.ecma_scope.specs.Resolved.{is_name}
use Rattle.ecma_scope.specs.Scopes.{is_there, of_exports, passes_in_list, role_by}
use Rattle.ecma_hygiene.specs.Renamed.{is_sourced, kind_is_absent}
use Rattle.ecma_hygiene.proofs.Telling.{and-left, and-right, or-second}
use Rattle.ecma_runs.specs.Names.{Keys, here_by}
use Rattle.ecma_runs.proofs.Kept.{AllNodes}
use Rattle.ecma_hygiene_runs.specs.ExportsApart.{apart, exports_apart, specifier_apart, specifiers_apart}
use Rattle.ecma_hygiene_runs.specs.FinalTexts.{all_named, is_outer}
use Rattle.ecma_hygiene_runs.specs.KeyNames.{is_name_by, key_names}
use Rattle.ecma_hygiene_runs.specs.OuterNames.{has_outer_names_at}
use Rattle.ecma_hygiene_runs.specs.WrittenOut.{name_node, other_out, written_out}
use Rattle.ecma_hygiene_runs.proofs.Apart.{apart-of, specifier-of, specifiers-of}
use Rattle.ecma_hygiene_runs.proofs.FinalParts.{is_ident, other-known, other-there, other-unknown}
use Rattle.ecma_hygiene_runs.proofs.KeysShown.{Empty, Items, NoKeys, all_shown, empty-append, here-out, keys-roll, keys_of, list-shapes, list-shown, no-keys, no_here, shown, shown-flag}
use Rattle.ecma_hygiene_runs.proofs.Parts.{out-flag, out-of, parts_of}
use Rattle.ecma_hygiene_runs.proofs.Renaming.{name_kind}
use Rattle.ecma_hygiene_runs.proofs.SortedNames.{outer-roll, shape_out}

-- where specifiers of exports may stand

abbrev pub is_export_specifier : Sort → Bool
is_export_specifier sort.ExportSpecifier = true
is_export_specifier _ = false

abbrev pub is_specifier : Shape → Bool
is_specifier shape = is_export_specifier shape.sort

abbrev pub is_specifier_kind : Kind → Bool
is_specifier_kind (kind.ExportNamedSpecifier t) = true
is_specifier_kind kind.ExportNamespaceSpecifier = true
is_specifier_kind _ = false

specifier-sort : (s : Sort) (k : Kind) → belongs s k ≡ true → is_specifier_kind k ≡ true → is_export_specifier s ≡ true
specifier-sort sort.ExportSpecifier k a e = refl
specifier-sort s (kind.ExportNamedSpecifier t) a e = absurd (cc)
specifier-sort s kind.ExportNamespaceSpecifier a e = absurd (cc)
specifier-sort s _ a e = absurd (cc)

maybe-sort : (s : Sort) (k : Kind) → is_absent k || belongs s k ≡ true → is_specifier_kind k ≡ true → is_export_specifier s ≡ true
maybe-sort s (kind.ExportNamedSpecifier t) a e = specifier-sort s (kind.ExportNamedSpecifier t) a e
maybe-sort s kind.ExportNamespaceSpecifier a e = specifier-sort s kind.ExportNamespaceSpecifier a e
maybe-sort s _ a e = absurd (cc)

no-list : (k : Kind) → is_absent k || is_list k ≡ true → is_specifier_kind k ≡ true → ⊥
no-list (kind.ExportNamedSpecifier t) a e = absurd (cc)
no-list kind.ExportNamespaceSpecifier a e = absurd (cc)
no-list _ a e = absurd (cc)

specifier-by : (count : Count) (s : Sort) (k : Kind) → allows_by count s k ≡ true → is_specifier_kind k ≡ true → is_export_specifier s ≡ true
specifier-by One s k a e = specifier-sort s k a e
specifier-by Maybe s k a e = maybe-sort s k a e
specifier-by Many s k a e = absurd (no-list k (or-second (is_absent k) (is_list k) a) e)
specifier-by MaybeMany s k a e = absurd (no-list k a e)
specifier-by Holes s k a e = absurd (no-list k (or-second (is_absent k) (is_list k) a) e)

pub specifier-shape : (shape : Shape) (k : Kind) → allows shape k ≡ true → is_specifier_kind k ≡ true → is_specifier shape ≡ true
specifier-shape shape k a e = specifier-by shape.count shape.sort k a e

abbrev pub lists_exports : Kind → Bool
lists_exports (kind.NamedExport t) = true
lists_exports _ = false

repeated : (n : ℕ) (shape : Shape) → is_specifier shape ≡ false → list_all (λ shape. not (is_specifier shape)) (replicate n shape) ≡ true
repeated zero shape e = refl
repeated (suc n) shape e = ap (λ b. not b && list_all (λ shape. not (is_specifier shape)) (replicate n shape)) e ∙ repeated n shape e

-- they stand in lists of exports alone
pub no-specifiers : (k : Kind) (shape : Shape) (n : ℕ) → is_specifier shape ≡ false → lists_exports k ≡ false → list_all (λ shape. not (is_specifier shape)) (child_shapes k shape n) ≡ true
no-specifiers kind.List shape n e f = repeated n (item_shape shape) e
no-specifiers kind.SeqExpr shape zero e f = refl
no-specifiers kind.SeqExpr shape (suc n) e f = repeated (suc n) (one sort.Expr) refl
no-specifiers (kind.NamedExport t) shape n e f = absurd (cc)
no-specifiers _ shape n e f = refl

-- nodes without children

abbrev is_leaf : Kind → Bool
is_leaf (kind.Ident text ctxt optional) = true
is_leaf (kind.Str text raw) = true
is_leaf kind.Absent = true
is_leaf _ = false

childless : (k : Kind) (shape : Shape) (cs : List Node) → is_leaf k ≡ true → HaveShapes (child_shapes k shape (length cs)) cs → cs ≡ []
childless k shape [] e h = refl
childless (kind.Ident text ctxt optional) shape (c ∷ cs) e h = absurd h
childless (kind.Str text raw) shape (c ∷ cs) e h = absurd h
childless kind.Absent shape (c ∷ cs) e h = absurd h
childless _ shape (c ∷ cs) e h = absurd (cc)

leaf-shown : (span : Span) (k : Kind) → is_leaf k ≡ true → shown (node_of span k []) ≡ node_of span k []
leaf-shown span (kind.Ident text ctxt optional) e = ap exports_apart (out-of span (kind.Ident text ctxt optional) []) ∙ apart-of span (kind.Ident text ctxt optional) []
leaf-shown span (kind.Str text raw) e = ap exports_apart (out-of span (kind.Str text raw) []) ∙ apart-of span (kind.Str text raw) []
leaf-shown span kind.Absent e = ap exports_apart (out-of span kind.Absent []) ∙ apart-of span kind.Absent []
leaf-shown span _ e = absurd (cc)

leaf-none : (span : Span) (k : Kind) → is_leaf k ≡ true → NoKeys (node_of span k [])
leaf-none span (kind.Ident text ctxt optional) e = no-keys span (kind.Ident text ctxt optional) [] tt tt
leaf-none span (kind.Str text raw) e = no-keys span (kind.Str text raw) [] tt tt
leaf-none span kind.Absent e = no-keys span kind.Absent [] tt tt
leaf-none span _ e = absurd (cc)

leaf-keys : (n : Node) (shape : Shape) → HasShape shape n → is_leaf (out-Node n).kind ≡ true → NoKeys (shown n)
leaf-keys n shape h e =
    let z = out-Node n in
    let is : n ≡ node_of z.span z.kind [] = sym (roll-out-Node n) ∙ ap (node_of z.span z.kind) (childless z.kind shape z.children e (shape_out shape n h).1) in
    subst NoKeys (sym (ap shown is ∙ leaf-shown z.span z.kind e)) (leaf-none z.span z.kind e)

name-leaf : (k : Kind) → belongs sort.ModuleExportName k ≡ true → is_leaf k ≡ true
name-leaf (kind.Ident text ctxt optional) e = refl
name-leaf (kind.Str text raw) e = refl
name-leaf _ e = absurd (cc)

pub ident-name : (k : Kind) → belongs sort.Ident k ≡ true → belongs sort.ModuleExportName k ≡ true
ident-name (kind.Ident text ctxt optional) e = refl
ident-name _ e = absurd (cc)

-- names of specifiers

-- no variable
abbrev pub Outside : Node → Type 0
Outside n = Empty (keys_of n).here × NoKeys n

outside-is : (n m : Node) → n ≡ m → Outside m → Outside n
outside-is n m is h = subst Outside (sym is) h

name-outside : (span : Span) (text : List ℕ) → Outside (name_node span text)
name-outside span text = (subst (λ z. Empty z.keys.here) (sym (keys-roll span (kind.Ident text 0 false) [])) (refl, tt), no-keys span (kind.Ident text 0 false) [] tt tt)

exported-by : (k : Kind) (parts : List Keys) → belongs sort.ModuleExportName k ≡ true → is_outer true k ≡ true → (is_name_by k ≡ true) × Empty (here_by k parts)
exported-by (kind.Ident text ctxt optional) [] e o = (refl, (eqb-true ctxt 0 o, tt))
exported-by (kind.Ident text ctxt optional) (a ∷ parts) e o = (refl, tt)
exported-by (kind.Str text raw) parts e o = (refl, tt)
exported-by _ parts e o = absurd (cc)

-- a name for others
exported-here : (n : Node) (shape : Shape) → HasShape shape n → belongs sort.ModuleExportName (out-Node n).kind ≡ true → is_outer true (out-Node n).kind ≡ true → Empty (keys_of (shown n)).here
exported-here n shape h e o =
    let z = out-Node n in
    let leaf = name-leaf z.kind e in
    let is : n ≡ node_of z.span z.kind [] = sym (roll-out-Node n) ∙ ap (node_of z.span z.kind) (childless z.kind shape z.children leaf (shape_out shape n h).1) in
    subst (λ m. Empty (keys_of m).here) (sym (ap shown is ∙ leaf-shown z.span z.kind leaf))
    (subst (λ z. Empty z.keys.here) (sym (keys-roll z.span z.kind [])) (exported-by z.kind [] e o).1)

-- the other name of a specifier, as it is shown
abbrev pub other_shown : Node → Node → Node
other_shown name other = exports_apart (other_out (written_out name) (written_out other))

-- the other name is for others, and where it is none, neither is the first
pub record Others (name other : Node) : Type 0 where
  pub outside : Outside (other_shown name other)
  pub told : (is_name_by (out-Node (other_shown name other)).kind ≡ true) ⊎ Empty (keys_of (shown name)).here

there : (b c : Bool) → b || c ≡ true → b ≡ false → c ≡ true
there true c h e = absurd (cc)
there false c h e = h

absent-lists : (k : Kind) → is_absent k ≡ true → (no_here k ≡ true) × (is_leaf k ≡ true)
absent-lists kind.Absent e = (refl, refl)
absent-lists _ e = absurd (cc)

missing-outside : (other : Node) → HasShape (maybe sort.ModuleExportName) other → kind_is_absent other ≡ true → Outside (shown other)
missing-outside other ho e =
    let a = absent-lists (out-Node other).kind e in (subst Empty (sym (here-out other a.0)) tt, leaf-keys other (maybe sort.ModuleExportName) ho a.1)

module _ (name other : Node) (ho : HasShape (maybe sort.ModuleExportName) other) where
  missing : kind_is_absent other ≡ true → (k : Kind) → (out-Node name).kind ≡ k → belongs sort.ModuleExportName k ≡ true → Others name other
  missing e (kind.Ident text ctxt optional) is b =
      let span = (out-Node name).span in
      let cs = (out-Node name).children in
      let n : name ≡ node_of span (kind.Ident text ctxt optional) cs = sym (roll-out-Node name) ∙ ap (λ k. node_of span k cs) is in
      let w : other_shown name other ≡ name_node span text =
      ap exports_apart (other-known (written_out name) (written_out other) span text ctxt optional (map written_out cs) (ap written_out n ∙ out-of span (kind.Ident text ctxt optional) cs) (out-flag is_absent refl other ∙ e))
      ∙ apart-of span (kind.Ident text 0 false) [] in
      record {
        outside = outside-is (other_shown name other) (name_node span text) w (name-outside span text);
        told = inl (ap (λ m. is_name_by (out-Node m).kind) w ∙ ap (λ z. is_name_by z.kind) (out-roll-Node (parts_of span (kind.Ident text 0 false) [])));
      }
  missing e (kind.Str text raw) is b =
      let w : other_shown name other ≡ shown other = ap exports_apart (other-unknown (written_out name) (written_out other) (out-flag is_ident refl name ∙ ap is_ident is)) in
      record {
        outside = outside-is (other_shown name other) (shown other) w (missing-outside other ho e);
        told = inr (subst Empty (sym (here-out name (ap no_here is))) tt);
      }
  missing e _ is b = absurd (cc)

  pub others : belongs sort.ModuleExportName (out-Node name).kind ≡ true → is_outer true (out-Node other).kind ≡ true → Others name other
  others b o = by (kind_is_absent other) refl
    where
      by : (absent : Bool) → kind_is_absent other ≡ absent → Others name other
      by true e = missing e (out-Node name).kind refl b
      by false e =
          let k = (out-Node other).kind in
          let c = there (is_absent k) (belongs sort.ModuleExportName k) (shape_out (maybe sort.ModuleExportName) other ho).0 e in
          let w : other_shown name other ≡ shown other = ap exports_apart (other-there (written_out name) (written_out other) (out-flag is_absent refl other ∙ e)) in
          record {
            outside = outside-is (other_shown name other) (shown other) w (exported-here other (maybe sort.ModuleExportName) ho c o, leaf-keys other (maybe sort.ModuleExportName) ho (name-leaf k c));
            told = inl (ap (λ m. is_name_by (out-Node m).kind) w ∙ shown-flag is_name_by refl other ∙ (exported-by k [] c o).0);
          }

-- imports

pub import-keys : (span : Span) (t : Bool) (name other : Node) → NoKeys (shown name) → Others name other → NoKeys (node_of span (kind.ImportNamedSpecifier t) (shown name ∷ other_shown name other ∷ []))
import-keys span t name other kn o = no-keys span (kind.ImportNamedSpecifier t) (shown name ∷ other_shown name other ∷ []) (own o.told) (kn, (o.outside.1, tt))
  where
    either : (b : Bool) → Empty (keys_of (shown name)).here → Empty (cond b (keys_of (other_shown name other)).here ((keys_of (shown name)).here ++ (keys_of (other_shown name other)).here))
    either true e = o.outside.0
    either false e = empty-append (keys_of (shown name)).here (keys_of (other_shown name other)).here e o.outside.0

    own : (is_name_by (out-Node (other_shown name other)).kind ≡ true) ⊎ Empty (keys_of (shown name)).here
        → Empty (cond (key_names (other_shown name other)).is_name (keys_of (other_shown name other)).here ((keys_of (shown name)).here ++ (keys_of (other_shown name other)).here))
    own (inl e) =
        subst (λ b. Empty (cond b (keys_of (other_shown name other)).here ((keys_of (shown name)).here ++ (keys_of (other_shown name other)).here))) (sym (name_kind (other_shown name other) ∙ e)) o.outside.0
    own (inr e) = either (key_names (other_shown name other)).is_name e

-- exports

module _ (span : Span) (t : Bool) (name other : Node) (kn : NoKeys (shown name)) (o : Others name other) where
  abbrev k : Kind
  k = kind.ExportNamedSpecifier t

  abbrev n : Node
  n = shown name

  abbrev m : Node
  m = other_shown name other

  named-shown : shown (node_of span k (name ∷ other ∷ [])) ≡ node_of span k (n ∷ m ∷ [])
  named-shown = ap exports_apart (out-of span k (name ∷ other ∷ [])) ∙ apart-of span k (written_out name ∷ other_out (written_out name) (written_out other) ∷ [])

  together : Empty (keys_of n).here → NoKeys (node_of span k (n ∷ m ∷ []))
  together e = no-keys span k (n ∷ m ∷ []) (empty-append (keys_of n).here (keys_of m).here e o.outside.0) (kn, (o.outside.1, tt))

  rest-here : (keys_of (apart span n)).here ≡ []
  rest-here = ap (λ z. z.keys.here) (keys-roll span kind.RestPat (n ∷ absent ∷ []))

  apart-keys : NoKeys (node_of span k (apart span n ∷ m ∷ []))
  apart-keys =
      no-keys span k (apart span n ∷ m ∷ []) (empty-append (keys_of (apart span n)).here (keys_of m).here (subst Empty (sym rest-here) tt) o.outside.0)
      (no-keys span kind.RestPat (n ∷ absent ∷ []) tt (kn, (no-keys dummy_span kind.Absent [] tt tt, tt)), (o.outside.1, tt))

  both : (b : Bool) → Empty (keys_of n).here → NoKeys (cond b (node_of span k (apart span n ∷ m ∷ [])) (node_of span k (n ∷ m ∷ [])))
  both true e = apart-keys
  both false e = together e

  told-apart : (is_name_by (out-Node m).kind ≡ true) ⊎ Empty (keys_of n).here → NoKeys (cond (is_name_by (out-Node m).kind) (node_of span k (apart span n ∷ m ∷ [])) (node_of span k (n ∷ m ∷ [])))
  told-apart (inl e) = subst (λ b. NoKeys (cond b (node_of span k (apart span n ∷ m ∷ [])) (node_of span k (n ∷ m ∷ [])))) (sym e) apart-keys
  told-apart (inr e) = both (is_name_by (out-Node m).kind) e

  named-apart : NoKeys (specifier_apart (shown (node_of span k (name ∷ other ∷ []))))
  named-apart = subst NoKeys (sym (ap specifier_apart named-shown ∙ specifier-of span k (n ∷ m ∷ []))) (told-apart o.told)

  named-sourced : Empty (keys_of n).here → NoKeys (shown (node_of span k (name ∷ other ∷ [])))
  named-sourced e = subst NoKeys (sym named-shown) (together e)

-- the keys of a specifier apart, and with a source
abbrev Specified : Role → Node → Type 0
Specified r n = NoKeys (specifier_apart (shown n)) × (is_sourced r ≡ true → NoKeys (shown n))

abbrev pub Outer : Role → Kind → List Node → Type 0
Outer r k cs = all_named (role_by r k (is_there cs 1)) 0 (map has_outer_names_at cs) ≡ true

name-outer : (n : Node) → has_outer_names_at n role.Name ≡ true → is_outer true (out-Node n).kind ≡ true
name-outer n own = let z = out-Node n in and-left (is_outer true z.kind) _ (sym (outer-roll z role.Name) ∙ ap (λ m. has_outer_names_at m role.Name) (roll-out-Node n) ∙ own)

-- the second name of an import is a name for others
pub import-outer : (r : Role) (t : Bool) (name other : Node) → Outer r (kind.ImportNamedSpecifier t) (name ∷ other ∷ []) → is_outer true (out-Node other).kind ≡ true
unfolding role_by
import-outer r t name other o =
    let a = has_outer_names_at name role.Plain in
    let b = has_outer_names_at other role.Name in
    name-outer other (and-left b true (and-right a (b && true) o))

-- so is that of an export, and both where there is a source
export-outer : (r : Role) (t : Bool) (name other : Node) → Outer r (kind.ExportNamedSpecifier t) (name ∷ other ∷ [])
    → (is_outer true (out-Node other).kind ≡ true) × (is_sourced r ≡ true → is_outer true (out-Node name).kind ≡ true)
unfolding role_by
export-outer role.Sourced t name other o =
    let a = has_outer_names_at name role.Name in
    let b = has_outer_names_at other role.Name in
    (name-outer other (and-left b true (and-right a (b && true) o)), λ e. name-outer name (and-left a (b && true) o))
export-outer _ t name other o =
    let a = has_outer_names_at name role.Plain in
    let b = has_outer_names_at other role.Name in
    (name-outer other (and-left b true (and-right a (b && true) o)), λ e. absurd (cc))

whole-outer : (r : Role) (name : Node) → Outer r kind.ExportNamespaceSpecifier (name ∷ []) → is_outer true (out-Node name).kind ≡ true
unfolding role_by
whole-outer r name o = name-outer name (and-left (has_outer_names_at name role.Name) true o)

-- what has its keys whether or not there is a source
either-way : (r : Role) (n m : Node) → shown n ≡ m → specifier_apart m ≡ m → NoKeys m → Specified r n
either-way r n m is same h = (subst NoKeys (sym (ap specifier_apart is ∙ same)) h, λ e. subst NoKeys (sym is) h)

specified-by : (r : Role) (span : Span) (k : Kind) (cs : List Node) → belongs sort.ExportSpecifier k ≡ true → HaveShapes (child_shapes k (one sort.ExportSpecifier) (length cs)) cs → Outer r k cs → Specified r (node_of span k cs)
specified-by r span (kind.ExportNamedSpecifier t) (name ∷ other ∷ []) b h o =
    let outer = export-outer r t name other o in
    let named = (shape_out (one sort.ModuleExportName) name h.0).0 in
    let kn = leaf-keys name (one sort.ModuleExportName) h.0 (name-leaf (out-Node name).kind named) in
    let both = others name other h.1.0 named outer.0 in
    (named-apart span t name other kn both, λ e. named-sourced span t name other kn both (exported-here name (one sort.ModuleExportName) h.0 named (outer.1 e)))
specified-by r span (kind.ExportNamedSpecifier t) [] b h o = absurd h
specified-by r span (kind.ExportNamedSpecifier t) (x ∷ []) b h o = absurd h.1
specified-by r span (kind.ExportNamedSpecifier t) (x ∷ y ∷ z ∷ cs) b h o = absurd h.1.1
specified-by r span kind.ExportNamespaceSpecifier (name ∷ []) b h o =
    let named = (shape_out (one sort.ModuleExportName) name h.0).0 in
    either-way r (node_of span kind.ExportNamespaceSpecifier (name ∷ [])) (node_of span kind.ExportNamespaceSpecifier (shown name ∷ []))
    (ap exports_apart (out-of span kind.ExportNamespaceSpecifier (name ∷ [])) ∙ apart-of span kind.ExportNamespaceSpecifier (written_out name ∷ [])) (specifier-of span kind.ExportNamespaceSpecifier (shown name ∷ []))
    (no-keys span kind.ExportNamespaceSpecifier (shown name ∷ []) (exported-here name (one sort.ModuleExportName) h.0 named (whole-outer r name o)) (leaf-keys name (one sort.ModuleExportName) h.0 (name-leaf (out-Node name).kind named), tt))
specified-by r span kind.ExportNamespaceSpecifier [] b h o = absurd h
specified-by r span kind.ExportNamespaceSpecifier (x ∷ y ∷ cs) b h o = absurd h.1
specified-by r span kind.ExportDefaultSpecifier (name ∷ []) b h o =
    either-way r (node_of span kind.ExportDefaultSpecifier (name ∷ [])) (node_of span kind.ExportDefaultSpecifier (shown name ∷ []))
    (ap exports_apart (out-of span kind.ExportDefaultSpecifier (name ∷ [])) ∙ apart-of span kind.ExportDefaultSpecifier (written_out name ∷ [])) (specifier-of span kind.ExportDefaultSpecifier (shown name ∷ []))
    (no-keys span kind.ExportDefaultSpecifier (shown name ∷ []) tt (leaf-keys name (one sort.Ident) h.0 (name-leaf (out-Node name).kind (ident-name (out-Node name).kind (shape_out (one sort.Ident) name h.0).0)), tt))
specified-by r span kind.ExportDefaultSpecifier [] b h o = absurd h
specified-by r span kind.ExportDefaultSpecifier (x ∷ y ∷ cs) b h o = absurd h.1
specified-by r span _ cs b h o = absurd (cc)

specified : (r : Role) (n : Node) → HasShape (one sort.ExportSpecifier) n → has_outer_names_at n r ≡ true → Specified r n
specified r n h o =
    let z = out-Node n in
    let s = shape_out (one sort.ExportSpecifier) n h in
    let outer = and-right (is_outer (is_name r) z.kind) _ (sym (outer-roll z r) ∙ ap (λ m. has_outer_names_at m r) (roll-out-Node n) ∙ o) in
    subst (Specified r) (roll-out-Node n) (specified-by r z.span z.kind z.children s.0 s.1 outer)

-- lists of specifiers

all-specified : (r : Role) (ns : List Node) → HaveShapes (child_shapes kind.List (many sort.ExportSpecifier) (length ns)) ns → AllNodes (λ n. has_outer_names_at n r ≡ true) ns
    → AllNodes NoKeys (map specifier_apart (all_shown ns)) × (is_sourced r ≡ true → AllNodes NoKeys (all_shown ns))
all-specified r [] h o = (tt, λ e. tt)
all-specified r (n ∷ ns) h o = let s = specified r n h.0 o.0 in let rest = all-specified r ns h.1 o.1 in ((s.0, rest.0), λ e. (s.1 e, rest.1 e))

items-outer : (r : Role) (there : Bool) (i : ℕ) (ns : List Node) → all_named (role_by r kind.List there) i (map has_outer_names_at ns) ≡ true → AllNodes (λ n. has_outer_names_at n (passes_in_list r) ≡ true) ns
unfolding role_by
items-outer r there i [] o = tt
items-outer r there i (n ∷ ns) o =
    let a = has_outer_names_at n (passes_in_list r) in
    let b = all_named (role_by r kind.List there) (suc i) (map has_outer_names_at ns) in
    (and-left a b o, items-outer r there (suc i) ns (and-right a b o))

list-outer : (r : Role) (n : Node) (k : Kind) → (out-Node n).kind ≡ k → is_list k ≡ true → has_outer_names_at n r ≡ true → AllNodes (λ c. has_outer_names_at c (passes_in_list r) ≡ true) (out-Node n).children
list-outer r n kind.List is e o =
    let z = out-Node n in
    let there = is_there z.children 1 in
    let all = and-right (is_outer (is_name r) z.kind) _ (sym (outer-roll z r) ∙ ap (λ m. has_outer_names_at m r) (roll-out-Node n) ∙ o) in
    items-outer r there 0 z.children (ap (λ k. all_named (role_by r k there) 0 (map has_outer_names_at z.children)) (sym is) ∙ all)
list-outer r n _ is e o = absurd (cc)

module _ (n : Node) (h : HasShape (many sort.ExportSpecifier) n) where
  abbrev lists : is_list (out-Node n).kind ≡ true
  lists = (shape_out (many sort.ExportSpecifier) n h).0

  abbrev items : Items (many sort.ExportSpecifier) n
  items = list-shapes (many sort.ExportSpecifier) (out-Node n).kind (out-Node n).children lists (shape_out (many sort.ExportSpecifier) n h).1

  abbrev ns : List Node
  ns = (out-Node n).children

  pub specifiers-apart : (r : Role) → has_outer_names_at n r ≡ true → NoKeys (specifiers_apart (shown n))
  specifiers-apart r o =
      let span = (out-Node n).span in
      subst NoKeys (sym (ap specifiers_apart (list-shown n lists) ∙ specifiers-of span kind.List (all_shown ns)))
      (no-keys span kind.List (map specifier_apart (all_shown ns)) tt (all-specified (passes_in_list r) ns items (list-outer r n (out-Node n).kind refl lists o)).0)

  pub specifiers-sourced : has_outer_names_at n role.Sourced ≡ true → NoKeys (shown n)
  specifiers-sourced o =
      let span = (out-Node n).span in
      subst NoKeys (sym (list-shown n lists)) (no-keys span kind.List (all_shown ns) tt ((all-specified role.Sourced ns items (list-outer role.Sourced n (out-Node n).kind refl lists o)).1 refl))

-- what the specifiers of a list of exports are to it, with a source and without
abbrev pub beside_source : Bool → Role
beside_source true = role.Plain
beside_source false = role.Sourced

pub specifiers-outer : (r : Role) (t : Bool) (specifiers source attributes : Node) → Outer r (kind.NamedExport t) (specifiers ∷ source ∷ attributes ∷ []) → (b : Bool) → kind_is_absent source ≡ b
    → has_outer_names_at specifiers (beside_source b) ≡ true
unfolding role_by
specifiers-outer r t specifiers source attributes o b e =
    by b (ap (λ z. has_outer_names_at specifiers (of_exports (not z) 0)) (sym e) ∙ and-left (has_outer_names_at specifiers (of_exports (not (kind_is_absent source)) 0)) _ o)
  where
    by : (b : Bool) → has_outer_names_at specifiers (of_exports (not b) 0) ≡ true → has_outer_names_at specifiers (beside_source b) ≡ true
    by true h = h
    by false h = h
