-- What a declaration behind `export` declares is among the names that a module exports so.
use Rattle.std.proofs.Common.{◌≡◌, refl, sym, ap, ◌∙◌, ℕ, suc, List, [], ◌∷◌, ◌++◌, map, filter, length, Option, Some, None, Bool, true, false, cond, not, ◌&&◌, bytes_eq, codes, slice_get}
use Rattle.ecma_kind.specs.Sorts.{belongs}
use Rattle.ecma_kind.specs.declared.kind.Kind.{Kind}
use Rattle.ecma_kind.specs.declared.kind.Kind.TheVariants as kind
use Rattle.ecma_kind.specs.declared.operators.VarDeclKind.TheVariants as var_kind
use Rattle.ecma_kind.specs.declared.shapes.Sort.TheVariants as sort
use Rattle.ecma_tree.specs.declared.node.Node.{Node, out-Node}
use Rattle.ecma_tree.specs.Laws.{HaveShapes}
use Rattle.ecma_tree.specs.Sorted.{HasShape, child_shapes, is_list, many, one}
use Rattle.ecma_tree.specs.Values.{is_value_where}
use Rattle.ecma_rules.specs.Children.{holds_of}
use Rattle.ecma_scope.specs.declared.form.Form.TheVariants as form
use Rattle.ecma_scope.specs.declared.form.Part.TheVariants as part
use Rattle.ecma_scope.specs.declared.form.Sought.{Sought}
use Rattle.ecma_scope.specs.Declarations.{in_item, in_var, sought_in}
use Rattle.ecma_strip.specs.Staying.{stays}
use Rattle.ecma_walks.specs.Listing.{listed_from, listed_within}
use Rattle.ecma_exports.specs.declared.place.Place.{Place}
use Rattle.ecma_exports.specs.declared.place.Place.TheVariants as place
use Rattle.ecma_exports.specs.Exports.{exported_names, is_among}
use Rattle.ecma_exports.specs.Places.{in_declarations, in_exported, place_in, texts_here, texts_in}
use Rattle.ecma_hygiene.specs.Ids.{Id}
use Rattle.ecma_hygiene.proofs.Telling.{true-false}
use Rattle.ecma_hygiene_scopes.specs.DeclaredIds.{DeclaredId, id_here, ids_declared, ids_in}
use Rattle.ecma_hygiene_scopes.proofs.Directly.{ids-out}
use Rattle.ecma_hygiene_runs.specs.Plain.{is_plain_kind}
use Rattle.ecma_strip_scopes.proofs.Going.{parts-have}
use Rattle.ecma_exports_hygiene.proofs.FreeNames.{ItemsAt, listed-shift, texts-out}
use Rattle.ecma_exports_hygiene.proofs.Names.{Named, at-place, kept, kept-alone, name_sought, named, named-second, none-kept}

abbrev pub item_sought : Sought
item_sought = record { part = part.Item; stays = true }

abbrev pub var_sought : Sought
var_sought = record { part = part.Var; stays = true }

no-ident : (k : Kind) (q : Sought) → belongs sort.Decl k ≡ true → id_here q k ≡ []
no-ident (kind.Ident t c o) q b = absurd (true-false b refl)
no-ident _ q b = refl

no-list : (k : Kind) → belongs sort.Decl k ≡ true → is_list k ≡ false
no-list kind.List b = absurd (true-false b refl)
no-list _ b = refl

module _ (free : ℕ) (id : Id) (apart : bytes_eq id.0 (codes "this") ≡ false) where
  abbrev keep : List DeclaredId → Bool
  keep = kept free id

  abbrev IsNamed : List (List ℕ) → Type 0
  IsNamed = Named free id

  abbrev below : (ℕ → Option Place) → List Node → List (List ℕ)
  below around cs = listed_from Place (List ℕ) around 0 (map (texts_in free) cs)

  module _ (around : ℕ → Option Place) where
    item-by : (value : Bool) (k : Kind) (cs : List Node) → ((j : ℕ) → around j ≡ in_exported k j) → belongs sort.Decl k ≡ true → is_plain_kind k ≡ true → HaveShapes (child_shapes k (one sort.Decl) (length cs)) cs
        → keep (ids_in (λ i. in_item true value k i) 0 (map ids_declared cs)) ≡ true → IsNamed (below around cs)
    unfolding in_item in_exported
    item-by value (kind.VarDecl var_kind.Let d) (c ∷ []) is b p h it =
        at-place free id (around 0) place.Names c [] (is 0) (named free id apart c form.Lexical (not d) (many sort.VarDeclarator) refl h.0 (kept-alone free id (ids_declared c (name_sought free id form.Lexical (not d))) it))
    item-by value (kind.VarDecl var_kind.Let d) [] is b p h it = absurd h
    item-by value (kind.VarDecl var_kind.Let d) (c ∷ e ∷ cs) is b p h it = absurd h.1
    item-by value (kind.VarDecl var_kind.Const d) (c ∷ []) is b p h it =
        at-place free id (around 0) place.Names c [] (is 0) (named free id apart c form.Lexical (not d) (many sort.VarDeclarator) refl h.0 (kept-alone free id (ids_declared c (name_sought free id form.Lexical (not d))) it))
    item-by value (kind.VarDecl var_kind.Const d) [] is b p h it = absurd h
    item-by value (kind.VarDecl var_kind.Const d) (c ∷ e ∷ cs) is b p h it = absurd h.1
    item-by value (kind.FnDecl d) (c ∷ e ∷ []) is b p h it =
        at-place free id (around 0) place.Names c _ (is 0)
        (named free id apart c form.Function (not d && value) (one sort.Ident) refl h.0 (kept-alone free id (ids_declared c (name_sought free id form.Function (not d && value))) it))
    item-by value (kind.FnDecl d) [] is b p h it = absurd h
    item-by value (kind.FnDecl d) (c ∷ []) is b p h it = absurd h.1
    item-by value (kind.FnDecl d) (c ∷ e ∷ f ∷ cs) is b p h it = absurd h.1.1
    item-by value (kind.ClassDecl d) (c ∷ e ∷ []) is b p h it =
        at-place free id (around 0) place.Names c _ (is 0) (named free id apart c form.Class (not d) (one sort.Ident) refl h.0 (kept-alone free id (ids_declared c (name_sought free id form.Class (not d))) it))
    item-by value (kind.ClassDecl d) [] is b p h it = absurd h
    item-by value (kind.ClassDecl d) (c ∷ []) is b p h it = absurd h.1
    item-by value (kind.ClassDecl d) (c ∷ e ∷ f ∷ cs) is b p h it = absurd h.1.1
    item-by value (kind.TsEnumDecl x y) cs is b p h it = absurd (true-false p refl)
    item-by value (kind.TsModuleDecl x y) cs is b p h it = absurd (true-false p refl)
    item-by value kind.List cs is b p h it = absurd (true-false b refl)
    item-by value kind.SwitchCase cs is b p h it = absurd (true-false b refl)
    item-by value kind.ExportDecl cs is b p h it = absurd (true-false b refl)
    item-by value kind.ExportDefaultDecl cs is b p h it = absurd (true-false b refl)
    item-by value (kind.ImportDecl t) cs is b p h it = absurd (true-false b refl)
    item-by value (kind.ImportNamedSpecifier t) cs is b p h it = absurd (true-false b refl)
    item-by value kind.ImportDefaultSpecifier cs is b p h it = absurd (true-false b refl)
    item-by value kind.ImportStarAsSpecifier cs is b p h it = absurd (true-false b refl)
    item-by value (kind.TsImportEqualsDecl x y) cs is b p h it = absurd (true-false b refl)
    item-by value _ cs is b p h it = absurd (none-kept free id 0 cs it)

    var-by : (k : Kind) (cs : List Node) → ((j : ℕ) → around j ≡ in_exported k j) → belongs sort.Decl k ≡ true → HaveShapes (child_shapes k (one sort.Decl) (length cs)) cs
        → keep (ids_in (λ i. in_var true k) 0 (map ids_declared cs)) ≡ true → IsNamed (below around cs)
    unfolding in_var in_exported
    var-by (kind.VarDecl var_kind.Var d) (c ∷ []) is b h it =
        at-place free id (around 0) place.Names c [] (is 0) (named free id apart c form.Var (not d) (many sort.VarDeclarator) refl h.0 (kept-alone free id (ids_declared c (name_sought free id form.Var (not d))) it))
    var-by (kind.VarDecl var_kind.Var d) [] is b h it = absurd h
    var-by (kind.VarDecl var_kind.Var d) (c ∷ e ∷ cs) is b h it = absurd h.1
    var-by kind.List cs is b h it = absurd (true-false b refl)
    var-by (kind.Module s) cs is b h it = absurd (true-false b refl)
    var-by (kind.Script s) cs is b h it = absurd (true-false b refl)
    var-by kind.TsModuleBlock cs is b h it = absurd (true-false b refl)
    var-by kind.ExportDecl cs is b h it = absurd (true-false b refl)
    var-by kind.BlockStmt cs is b h it = absurd (true-false b refl)
    var-by kind.IfStmt cs is b h it = absurd (true-false b refl)
    var-by kind.ForStmt cs is b h it = absurd (true-false b refl)
    var-by kind.ForInStmt cs is b h it = absurd (true-false b refl)
    var-by (kind.ForOfStmt a) cs is b h it = absurd (true-false b refl)
    var-by kind.WhileStmt cs is b h it = absurd (true-false b refl)
    var-by kind.DoWhileStmt cs is b h it = absurd (true-false b refl)
    var-by kind.LabeledStmt cs is b h it = absurd (true-false b refl)
    var-by kind.TryStmt cs is b h it = absurd (true-false b refl)
    var-by kind.CatchClause cs is b h it = absurd (true-false b refl)
    var-by kind.SwitchStmt cs is b h it = absurd (true-false b refl)
    var-by kind.SwitchCase cs is b h it = absurd (true-false b refl)
    var-by _ cs is b h it = absurd (none-kept free id 0 cs it)

  module _ (d : Node) (has : HasShape (one sort.Decl) d) where
    places : (j : ℕ) → place_in place.Exported d j ≡ in_exported (out-Node d).kind j
    places j =
        ap (λ b. cond (b && holds_of (λ item. not (stays item)) (slice_get (out-Node d).children j)) None (in_exported (out-Node d).kind j)) (no-list (out-Node d).kind (parts-have d (one sort.Decl) has).0)

    texts-named : IsNamed (below (place_in place.Exported d) (out-Node d).children) → IsNamed (texts_in free d place.Exported)
    texts-named h = ap (λ z. is_among z id.0) (texts-out free d place.Exported) ∙ named-second free id (texts_here free place.Exported d) (below (place_in place.Exported d) (out-Node d).children) h

    -- what is declared in it
    pub item-named : is_plain_kind (out-Node d).kind ≡ true → keep (ids_declared d item_sought) ≡ true → IsNamed (texts_in free d place.Exported)
    unfolding sought_in
    item-named p it =
        let s = parts-have d (one sort.Decl) has in
        texts-named (item-by (place_in place.Exported d) (is_value_where true d) (out-Node d).kind (out-Node d).children places s.0 p s.1
        (ap (λ ds. keep (ds ++ ids_in (λ i. in_item true (is_value_where true d) (out-Node d).kind i) 0 (map ids_declared (out-Node d).children))) (sym (no-ident (out-Node d).kind item_sought s.0))
        ∙ sym (ap keep (ids-out d item_sought)) ∙ it))

    pub var-named : keep (ids_declared d var_sought) ≡ true → IsNamed (texts_in free d place.Exported)
    unfolding sought_in
    var-named it =
        let s = parts-have d (one sort.Decl) has in
        texts-named (var-by (place_in place.Exported d) (out-Node d).kind (out-Node d).children places s.0 s.1
        (ap (λ ds. keep (ds ++ ids_in (λ i. in_var true (out-Node d).kind) 0 (map ids_declared (out-Node d).children))) (sym (no-ident (out-Node d).kind var_sought s.0)) ∙ sym (ap keep (ids-out d var_sought)) ∙ it))

module _ (free : ℕ) (id : Id) where
  -- behind `export` it is a name of the item
  pub export-named : (c d : Node) → (out-Node c).kind ≡ kind.ExportDecl → (out-Node c).children ≡ d ∷ [] → Named free id (texts_in free d place.Exported) → Named free id (texts_in free c place.Declarations)
  unfolding in_declarations
  export-named c d is are h =
      let found = listed_from Place (List ℕ) (place_in place.Declarations c) 0 (map (texts_in free) (out-Node c).children) in
      ap (λ z. is_among z id.0) (texts-out free c place.Declarations)
      ∙ named-second free id (texts_here free place.Declarations c) found
      (ap (λ (cs : List Node). is_among (listed_from Place (List ℕ) (place_in place.Declarations c) 0 (map (texts_in free) cs)) id.0) are
      ∙ at-place free id (place_in place.Declarations c 0) place.Exported d []
      (ap (λ k. cond (is_list k && holds_of (λ item. not (stays item)) (slice_get (out-Node c).children 0)) None (in_declarations k)) is) h)

  -- each item that stays has its names in the list
  abbrev pub NamesIn : List (List ℕ) → Node → Type 0
  NamesIn texts c = Named free id (texts_in free c place.Declarations) → Named free id texts

  abbrev pub AllNamesIn : List (List ℕ) → List Node → Type 0
  AllNamesIn texts [] = Unit {0}
  AllNamesIn texts (c ∷ cs) = NamesIn texts c × AllNamesIn texts cs

  widened : (texts more : List (List ℕ)) (cs : List Node) → (Named free id texts → Named free id more) → AllNamesIn texts cs → AllNamesIn more cs
  widened texts more [] f all = tt
  widened texts more (c ∷ cs) f all = ((λ h. f (all.0 h)), widened texts more cs f all.1)

  stays-in : (b : Bool) (c : Node) (rest : List Node) (o : Option Place) (others : List (List ℕ)) → o ≡ cond (not b) None (Some place.Declarations)
      → AllNamesIn (listed_within Place (List ℕ) o (texts_in free c) ++ others) rest → AllNamesIn (listed_within Place (List ℕ) o (texts_in free c) ++ others) (cond b (c ∷ rest) rest)
  stays-in true c rest o others is all = ((λ h. at-place free id o place.Declarations c others is h), all)
  stays-in false c rest o others is all = all

  items-in : (around : ℕ → Option Place) (cs : List Node) → ItemsAt place.Declarations cs around → AllNamesIn (listed_from Place (List ℕ) around 0 (map (texts_in free) cs)) (filter stays cs)
  items-in around [] is = tt
  items-in around (c ∷ cs) is =
      let first = listed_within Place (List ℕ) (around 0) (texts_in free c) in
      let others = listed_from Place (List ℕ) around 1 (map (texts_in free) cs) in
      stays-in (stays c) c (filter stays cs) (around 0) others (is 0)
      (widened (listed_from Place (List ℕ) (λ j. around (suc j)) 0 (map (texts_in free) cs)) (first ++ others) (filter stays cs)
      (λ h. named-second free id first others (ap (λ z. is_among z id.0) (listed-shift around 0 (map (texts_in free) cs)) ∙ h))
      (items-in (λ j. around (suc j)) cs (λ j. is (suc j))))

  module _ (tree body : Node) (module_is : belongs sort.Module (out-Node tree).kind ≡ true) (are : (out-Node tree).children ≡ body ∷ []) (list : (out-Node body).kind ≡ kind.List) where
    root-place : (k : Kind) (o : Option Node) → belongs sort.Module k ≡ true → cond (is_list k && holds_of (λ item. not (stays item)) o) None (in_declarations k) ≡ Some place.Declarations
    unfolding in_declarations
    root-place (kind.Module s) o b = refl
    root-place _ o b = absurd (true-false b refl)

    body-named : Named free id (texts_in free body place.Declarations) → Named free id (exported_names free tree)
    body-named h =
        let found = listed_from Place (List ℕ) (place_in place.Declarations tree) 0 (map (texts_in free) (out-Node tree).children) in
        ap (λ z. is_among z id.0) (texts-out free tree place.Declarations)
        ∙ named-second free id (texts_here free place.Declarations tree) found
        (ap (λ (cs : List Node). is_among (listed_from Place (List ℕ) (place_in place.Declarations tree) 0 (map (texts_in free) cs)) id.0) are
        ∙ at-place free id (place_in place.Declarations tree 0) place.Declarations body [] (root-place (out-Node tree).kind (slice_get (out-Node tree).children 0) module_is) h)

    list-places : (j : ℕ) → place_in place.Declarations body j ≡ cond (holds_of (λ item. not (stays item)) (slice_get (out-Node body).children j)) None (Some place.Declarations)
    unfolding in_declarations
    list-places j = ap (λ k. cond (is_list k && holds_of (λ item. not (stays item)) (slice_get (out-Node body).children j)) None (in_declarations k)) list

    -- so each item of a module that stays has its names among those that the module exports
    pub module-names : AllNamesIn (exported_names free tree) (filter stays (out-Node body).children)
    module-names =
        let found = listed_from Place (List ℕ) (place_in place.Declarations body) 0 (map (texts_in free) (out-Node body).children) in
        widened found (exported_names free tree) (filter stays (out-Node body).children)
        (λ h. body-named (ap (λ z. is_among z id.0) (texts-out free body place.Declarations) ∙ named-second free id (texts_here free place.Declarations body) found h))
        (items-in (place_in place.Declarations body) (out-Node body).children list-places)
