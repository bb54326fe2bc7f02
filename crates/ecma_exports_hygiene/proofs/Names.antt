-- The names that a pattern declares stand where they are looked for behind `export`.
use Rattle.std.proofs.Common.{◌≡◌, ◌⊎◌, inl, inr, refl, sym, ap, ◌∙◌, subst, ℕ, suc, List, [], ◌∷◌, ◌++◌, map, length, replicate, Option, Some, None, Bool, true, false, cond, not, ◌&&◌, ◌||◌, bytes_eq, codes, nat_eq, slice_get}
use Rattle.std.specs.List.{list_any}
use Rattle.std.proofs.lemmas.List.Folds.{list_any-append}
use Rattle.std.proofs.lemmas.Slice.Eq.{bytes_eq-Decides}
use Rattle.ecma_kind.specs.Sorts.{belongs}
use Rattle.ecma_kind.specs.declared.kind.Kind.{Kind}
use Rattle.ecma_kind.specs.declared.kind.Kind.TheVariants as kind
use Rattle.ecma_kind.specs.declared.shapes.Count.{Count}
use Rattle.ecma_kind.specs.declared.shapes.Count.TheVariants as count
use Rattle.ecma_kind.specs.declared.shapes.Shape.{Shape}
use Rattle.ecma_kind.specs.declared.shapes.Sort.{Sort}
use Rattle.ecma_kind.specs.declared.shapes.Sort.TheVariants as sort
use Rattle.ecma_tree.specs.declared.node.Node.{Node, Node-F, ind-Node, out-Node, roll-Node}
use Rattle.ecma_tree.specs.declared.node.Node.TheViews.{out-roll-Node}
use Rattle.ecma_tree.specs.Laws.{HaveShapes}
use Rattle.ecma_tree.specs.Sorted.{HasShape, allows, allows_by, child_shapes, is_absent, is_list, item_shape, many, one, with_holes}
use Rattle.ecma_rules.specs.Children.{holds_of}
use Rattle.ecma_scope.specs.declared.form.Form.{Form}
use Rattle.ecma_scope.specs.declared.form.Part.TheVariants as part
use Rattle.ecma_scope.specs.declared.form.Sought.{Sought}
use Rattle.ecma_scope.specs.Declarations.{in_name, sought_in}
use Rattle.ecma_strip.specs.Staying.{if_there, is_ambient, is_empty_stmt, is_this_by, is_this_ident, is_this_param_by, member_stays_by, specifier_stays, stays}
use Rattle.ecma_tree.specs.Values.{is_value}
use Rattle.ecma_walks.specs.Listing.{listed_from, listed_within}
use Rattle.ecma_exports.specs.declared.place.Place.{Place}
use Rattle.ecma_exports.specs.declared.place.Place.TheVariants as place
use Rattle.ecma_exports.specs.Exports.{is_among}
use Rattle.ecma_exports.specs.Places.{in_names, place_in, text_of, texts_here, texts_in}
use Rattle.ecma_hygiene.specs.Ids.{Id, same_id}
use Rattle.ecma_hygiene.proofs.Telling.{and-left, or-first, or-second, true-false}
use Rattle.ecma_hygiene_scopes.specs.DeclaredIds.{DeclaredId, id_here, ids_declared, ids_in}
use Rattle.ecma_hygiene_scopes.proofs.Directly.{ids-out}
use Rattle.ecma_hygiene_scopes.proofs.Membership.{is_kept}
use Rattle.ecma_strip_scopes.proofs.Going.{parts-have}
use Rattle.ecma_exports_hygiene.proofs.FreeNames.{ItemsAt, listed-shift, texts-out}

or-cases : (a b : Bool) → (a || b) ≡ true → (a ≡ true) ⊎ (b ≡ true)
or-cases true b h = inl refl
or-cases false b h = inr h

append-none : {X : Type 0} → (xs : List X) → xs ++ [] ≡ xs
append-none [] = refl
append-none (x ∷ xs) = ap (λ z. x ∷ z) (append-none xs)

not-false : (b : Bool) → not b ≡ false → b ≡ true
not-false true h = refl
not-false false h = absurd (true-false refl h)

-- ---- sorts of what stands in a pattern: no parameters

abbrev pub is_clean : Sort → Bool
is_clean sort.Ident = true
is_clean sort.BindingIdent = true
is_clean sort.Pat = true
is_clean sort.VarDeclarator = true
is_clean sort.ObjectPatProp = true
is_clean _ = false

abbrev is_parameter : Kind → Bool
is_parameter kind.Param = true
is_parameter (kind.TsParamProp accessibility is_override readonly) = true
is_parameter _ = false

no-sort : (σ : Sort) (k : Kind) → is_parameter k ≡ true → is_clean σ ≡ true → belongs σ k ≡ true → ⊥
no-sort sort.Ident kind.Param p e a = true-false a refl
no-sort sort.BindingIdent kind.Param p e a = true-false a refl
no-sort sort.Pat kind.Param p e a = true-false a refl
no-sort sort.VarDeclarator kind.Param p e a = true-false a refl
no-sort sort.ObjectPatProp kind.Param p e a = true-false a refl
no-sort sort.Ident (kind.TsParamProp x y z) p e a = true-false a refl
no-sort sort.BindingIdent (kind.TsParamProp x y z) p e a = true-false a refl
no-sort sort.Pat (kind.TsParamProp x y z) p e a = true-false a refl
no-sort sort.VarDeclarator (kind.TsParamProp x y z) p e a = true-false a refl
no-sort sort.ObjectPatProp (kind.TsParamProp x y z) p e a = true-false a refl
no-sort _ kind.Param p e a = true-false e refl
no-sort _ (kind.TsParamProp x y z) p e a = true-false e refl
no-sort σ _ p e a = true-false p refl

no-list : (k : Kind) → is_parameter k ≡ true → is_list k ≡ true → ⊥
no-list kind.List p l = true-false p refl
no-list _ p l = true-false l refl

no-absent : (k : Kind) → is_parameter k ≡ true → is_absent k ≡ true → ⊥
no-absent kind.Absent p l = true-false p refl
no-absent _ p l = true-false l refl

no-parameter : (c : Count) (σ : Sort) (k : Kind) → is_parameter k ≡ true → is_clean σ ≡ true → allows_by c σ k ≡ true → ⊥
no-parameter count.One σ k p e a = no-sort σ k p e a
no-parameter count.Maybe σ k p e a = elim (or-cases (is_absent k) (belongs σ k) a) [ inl none ↦ no-absent k p none | inr it ↦ no-sort σ k p e it ]
no-parameter count.Many σ k p e a = no-list k p a
no-parameter count.MaybeMany σ k p e a = elim (or-cases (is_absent k) (is_list k) a) [ inl none ↦ no-absent k p none | inr it ↦ no-list k p it ]
no-parameter count.Holes σ k p e a = no-list k p a

module _ (free : ℕ) (id : Id) where
  -- whether it is among declared ids, and stays
  abbrev pub kept : List DeclaredId → Bool
  kept ds = list_any (is_kept id) ds

  -- its text is among these
  abbrev pub Named : List (List ℕ) → Type 0
  Named texts = is_among texts id.0 ≡ true

  pub kept-split : (xs ys : List DeclaredId) → kept (xs ++ ys) ≡ true → (kept xs ≡ true) ⊎ (kept ys ≡ true)
  kept-split xs ys h = or-cases (kept xs) (kept ys) (sym (list_any-append (is_kept id) xs ys) ∙ h)

  pub kept-alone : (xs : List DeclaredId) → kept (xs ++ []) ≡ true → kept xs ≡ true
  kept-alone xs h = ap kept (sym (append-none xs)) ∙ h

  pub none-kept : (i : ℕ) (cs : List Node) → kept (ids_in (λ j. None) i (map ids_declared cs)) ≡ true → ⊥
  none-kept i [] h = true-false h refl
  none-kept i (c ∷ cs) h = none-kept (suc i) cs h

  pub named-first : (xs ys : List (List ℕ)) → Named xs → Named (xs ++ ys)
  named-first xs ys h = list_any-append (λ t. bytes_eq t id.0) xs ys ∙ or-first (is_among xs id.0) (is_among ys id.0) h

  pub named-second : (xs ys : List (List ℕ)) → Named ys → Named (xs ++ ys)
  named-second xs ys h = list_any-append (λ t. bytes_eq t id.0) xs ys ∙ or-second (is_among xs id.0) (is_among ys id.0) h

  -- a child that is looked at, before others
  pub at-place : (o : Option Place) (p : Place) (c : Node) (others : List (List ℕ)) → o ≡ Some p → Named (texts_in free c p) → Named (listed_within Place (List ℕ) o (texts_in free c) ++ others)
  at-place o p c others is h =
      named-first (listed_within Place (List ℕ) o (texts_in free c)) others (subst (λ z. Named (listed_within Place (List ℕ) z (texts_in free c))) (sym is) h)

  abbrev pub name_sought : Form → Bool → Sought
  name_sought f s = record { part = part.Name f; stays = s }

  here-named : (f : Form) (s : Bool) (k : Kind) → kept (id_here (name_sought f s) k) ≡ true → Named (text_of k)
  here-named f s (kind.Ident text ctxt optional) h =
      elim (or-cases (same_id (text, ctxt) id && s) false h) [
        | inl e ↦ or-first (bytes_eq text id.0) false (and-left (bytes_eq text id.0) (nat_eq ctxt id.1) (and-left (same_id (text, ctxt) id) s e))
        | inr none ↦ absurd (true-false none refl)
      ]
  here-named f s _ h = absurd (true-false h refl)

  module _ (apart : bytes_eq id.0 (codes "this") ≡ false) where
    -- ---- a name `this` goes, and is another

    no-this : (text : List ℕ) → Named (text ∷ []) → bytes_eq text (codes "this") ≡ true → ⊥
    no-this text h e =
        elim (or-cases (bytes_eq text id.0) false h) [
          | inl same ↦ true-false (ap (λ z. bytes_eq z (codes "this")) (sym ((bytes_eq-Decides text id.0).0 same)) ∙ e) apart
          | inr none ↦ true-false none refl
        ]

    this-by : (f : Form) (s : Bool) (k : Kind) (cs : List Node) → is_this_ident k ≡ true → kept (id_here (name_sought f s) k ++ ids_in (λ i. in_name f s k i) 0 (map ids_declared cs)) ≡ true → ⊥
    unfolding in_name
    this-by f s (kind.Ident text ctxt optional) cs e h =
        elim (kept-split (id_here (name_sought f s) (kind.Ident text ctxt optional)) (ids_in (λ i. None) 0 (map ids_declared cs)) h) [
          | inl it ↦ no-this text (here-named f s (kind.Ident text ctxt optional) it) e
          | inr none ↦ none-kept 0 cs none
        ]
    this-by f s _ cs e h = true-false e refl

    this-other : (f : Form) (s : Bool) (a : Node) → is_this_ident (out-Node a).kind ≡ true → kept (ids_declared a (name_sought f s)) ≡ true → ⊥
    unfolding sought_in
    this-other f s a e h = this-by f s (out-Node a).kind (out-Node a).children e (ap kept (sym (ids-out a (name_sought f s))) ∙ h)

    abbrev stays_by : Kind → Node → Bool
    stays_by k n = cond (is_empty_stmt k) true (cond (belongs sort.ModuleItem k) (is_value n && not (is_ambient n)) true) && member_stays_by k n && specifier_stays k && not (is_this_param_by k n)

    goes-by : (f : Form) (s : Bool) (shape : Shape) (n : Node) (k : Kind) (cs : List Node) → (out-Node n).kind ≡ k → (out-Node n).children ≡ cs → is_clean shape.sort ≡ true → allows shape k ≡ true
        → HaveShapes (child_shapes k shape (length cs)) cs → stays_by k n ≡ false → kept (id_here (name_sought f s) k ++ ids_in (λ i. in_name f s k i) 0 (map ids_declared cs)) ≡ true → ⊥
    unfolding in_name member_stays_by specifier_stays
    goes-by f s shape n (kind.Ident t c o) cs is are clean a h goes it = true-false (ap (λ z. not (is_this_by z n)) is) goes
    goes-by f s shape n kind.List cs is are clean a h goes it = true-false (ap (λ z. not (is_this_by z n)) is) goes
    goes-by f s shape n (kind.VarDeclarator d) cs is are clean a h goes it = true-false (ap (λ z. not (is_this_by z n)) is) goes
    goes-by f s shape n (kind.ArrayPat o) cs is are clean a h goes it = true-false (ap (λ z. not (is_this_by z n)) is) goes
    goes-by f s shape n (kind.ObjectPat o) cs is are clean a h goes it = true-false (ap (λ z. not (is_this_by z n)) is) goes
    goes-by f s shape n kind.RestPat cs is are clean a h goes it = true-false (ap (λ z. not (is_this_by z n)) is) goes
    goes-by f s shape n kind.AssignPat cs is are clean a h goes it = true-false (ap (λ z. not (is_this_by z n)) is) goes
    goes-by f s shape n kind.AssignPatProp cs is are clean a h goes it = true-false (ap (λ z. not (is_this_by z n)) is) goes
    goes-by f s shape n kind.KeyValuePatProp cs is are clean a h goes it = true-false (ap (λ z. not (is_this_by z n)) is) goes
    goes-by f s shape n kind.Param cs is are clean a h goes it = no-parameter shape.count shape.sort kind.Param refl clean a
    goes-by f s shape n (kind.TsParamProp x y z) cs is are clean a h goes it = no-parameter shape.count shape.sort (kind.TsParamProp x y z) refl clean a
    goes-by f s shape n kind.BindingIdent (name ∷ type ∷ []) is are clean a h goes it =
        this-other f s name
        (not-false (is_this_ident (out-Node name).kind)
        (sym (ap (λ z. not (is_this_by z n)) is ∙ ap (λ (ns : List Node). not (if_there (slice_get ns 0) (λ x. is_this_ident (out-Node x).kind))) are) ∙ goes))
        (kept-alone (ids_declared name (name_sought f s)) it)
    goes-by f s shape n kind.BindingIdent [] is are clean a h goes it = h
    goes-by f s shape n kind.BindingIdent (x ∷ []) is are clean a h goes it = h.1
    goes-by f s shape n kind.BindingIdent (x ∷ y ∷ z ∷ cs) is are clean a h goes it = h.1.1
    goes-by f s shape n _ cs is are clean a h goes it = none-kept 0 cs it

    goes-none : (f : Form) (s : Bool) (shape : Shape) (n : Node) → is_clean shape.sort ≡ true → HasShape shape n → stays n ≡ false → kept (ids_declared n (name_sought f s)) ≡ true → ⊥
    unfolding stays sought_in
    goes-none f s shape n clean h goes it =
        let p = parts-have n shape h in
        goes-by f s shape n (out-Node n).kind (out-Node n).children refl refl clean p.0 p.1 goes (ap kept (sym (ids-out n (name_sought f s))) ∙ it)

    -- ---- patterns

    abbrev Names : Node → Type 0
    Names n = (f : Form) (s : Bool) (shape : Shape) → is_clean shape.sort ≡ true → HasShape shape n → kept (ids_declared n (name_sought f s)) ≡ true → Named (texts_in free n place.Names)

    abbrev AllNames : List Node → Type 0
    AllNames [] = Unit {0}
    AllNames (c ∷ cs) = Names c × AllNames cs

    abbrev below : (ℕ → Option Place) → List Node → List (List ℕ)
    below around cs = listed_from Place (List ℕ) around 0 (map (texts_in free) cs)

    -- the first item that is looked at, and those behind it
    item-named : (o : Option Place) (c : Node) (others : List (List ℕ)) (b : Bool) → o ≡ cond (not b) None (Some place.Names) → (b ≡ false → ⊥) → Named (texts_in free c place.Names)
        → Named (listed_within Place (List ℕ) o (texts_in free c) ++ others)
    item-named o c others true is there h = at-place o place.Names c others is h
    item-named o c others false is there h = absurd (there refl)

    list-named : (f : Form) (s : Bool) (shape : Shape) (around : ℕ → Option Place) (i : ℕ) (cs : List Node) → ItemsAt place.Names cs around → is_clean shape.sort ≡ true → HaveShapes (replicate (length cs) shape) cs → AllNames cs
        → kept (ids_in (λ j. Some (name_sought f s)) i (map ids_declared cs)) ≡ true → Named (below around cs)
    list-named f s shape around i [] is clean h all it = absurd (true-false it refl)
    list-named f s shape around i (c ∷ cs) is clean h all it =
        let first = listed_within Place (List ℕ) (around 0) (texts_in free c) in
        let others = listed_from Place (List ℕ) around 1 (map (texts_in free) cs) in
        elim (kept-split (ids_declared c (name_sought f s)) (ids_in (λ j. Some (name_sought f s)) (suc i) (map ids_declared cs)) it) [
          | inl here ↦ item-named (around 0) c others (stays c) (is 0) (λ goes. goes-none f s shape c clean h.0 goes here) (all.0 f s shape clean h.0 here)
          | inr later ↦ named-second first others
              (ap (λ z. is_among z id.0) (listed-shift around 0 (map (texts_in free) cs))
              ∙ list-named f s shape (λ j. around (suc j)) (suc i) cs (λ j. is (suc j)) clean h.1 all.1 later)
        ]

    abbrev PlacesOf : Kind → List Node → (ℕ → Option Place) → Type 0
    PlacesOf k cs around = (j : ℕ) → around j ≡ cond (is_list k && holds_of (λ item. not (stays item)) (slice_get cs j)) None (in_names k j)

    names-by : (f : Form) (s : Bool) (shape : Shape) (k : Kind) (cs : List Node) (around : ℕ → Option Place) → PlacesOf k cs around → is_clean shape.sort ≡ true → allows shape k ≡ true
        → HaveShapes (child_shapes k shape (length cs)) cs → AllNames cs → kept (ids_in (λ i. in_name f s k i) 0 (map ids_declared cs)) ≡ true → Named (below around cs)
    unfolding in_name in_names
    names-by f s shape kind.List cs around is clean a h all it = list-named f s (item_shape shape) around 0 cs is clean h all it
    names-by f s shape kind.BindingIdent (c ∷ d ∷ []) around is clean a h all it =
        at-place (around 0) place.Names c _ (is 0) (all.0 f s (one sort.Ident) refl h.0 (kept-alone (ids_declared c (name_sought f s)) it))
    names-by f s shape kind.BindingIdent [] around is clean a h all it = absurd h
    names-by f s shape kind.BindingIdent (c ∷ []) around is clean a h all it = absurd h.1
    names-by f s shape kind.BindingIdent (c ∷ d ∷ e ∷ cs) around is clean a h all it = absurd h.1.1
    names-by f s shape (kind.VarDeclarator x) (c ∷ d ∷ []) around is clean a h all it =
        at-place (around 0) place.Names c _ (is 0) (all.0 f s (one sort.Pat) refl h.0 (kept-alone (ids_declared c (name_sought f s)) it))
    names-by f s shape (kind.VarDeclarator x) [] around is clean a h all it = absurd h
    names-by f s shape (kind.VarDeclarator x) (c ∷ []) around is clean a h all it = absurd h.1
    names-by f s shape (kind.VarDeclarator x) (c ∷ d ∷ e ∷ cs) around is clean a h all it = absurd h.1.1
    names-by f s shape (kind.ArrayPat o) (c ∷ d ∷ []) around is clean a h all it =
        at-place (around 0) place.Names c _ (is 0) (all.0 f s (with_holes sort.Pat) refl h.0 (kept-alone (ids_declared c (name_sought f s)) it))
    names-by f s shape (kind.ArrayPat o) [] around is clean a h all it = absurd h
    names-by f s shape (kind.ArrayPat o) (c ∷ []) around is clean a h all it = absurd h.1
    names-by f s shape (kind.ArrayPat o) (c ∷ d ∷ e ∷ cs) around is clean a h all it = absurd h.1.1
    names-by f s shape (kind.ObjectPat o) (c ∷ d ∷ []) around is clean a h all it =
        at-place (around 0) place.Names c _ (is 0) (all.0 f s (many sort.ObjectPatProp) refl h.0 (kept-alone (ids_declared c (name_sought f s)) it))
    names-by f s shape (kind.ObjectPat o) [] around is clean a h all it = absurd h
    names-by f s shape (kind.ObjectPat o) (c ∷ []) around is clean a h all it = absurd h.1
    names-by f s shape (kind.ObjectPat o) (c ∷ d ∷ e ∷ cs) around is clean a h all it = absurd h.1.1
    names-by f s shape kind.RestPat (c ∷ d ∷ []) around is clean a h all it =
        at-place (around 0) place.Names c _ (is 0) (all.0 f s (one sort.Pat) refl h.0 (kept-alone (ids_declared c (name_sought f s)) it))
    names-by f s shape kind.RestPat [] around is clean a h all it = absurd h
    names-by f s shape kind.RestPat (c ∷ []) around is clean a h all it = absurd h.1
    names-by f s shape kind.RestPat (c ∷ d ∷ e ∷ cs) around is clean a h all it = absurd h.1.1
    names-by f s shape kind.AssignPat (c ∷ d ∷ []) around is clean a h all it =
        at-place (around 0) place.Names c _ (is 0) (all.0 f s (one sort.Pat) refl h.0 (kept-alone (ids_declared c (name_sought f s)) it))
    names-by f s shape kind.AssignPat [] around is clean a h all it = absurd h
    names-by f s shape kind.AssignPat (c ∷ []) around is clean a h all it = absurd h.1
    names-by f s shape kind.AssignPat (c ∷ d ∷ e ∷ cs) around is clean a h all it = absurd h.1.1
    names-by f s shape kind.AssignPatProp (c ∷ d ∷ []) around is clean a h all it =
        at-place (around 0) place.Names c _ (is 0) (all.0 f s (one sort.BindingIdent) refl h.0 (kept-alone (ids_declared c (name_sought f s)) it))
    names-by f s shape kind.AssignPatProp [] around is clean a h all it = absurd h
    names-by f s shape kind.AssignPatProp (c ∷ []) around is clean a h all it = absurd h.1
    names-by f s shape kind.AssignPatProp (c ∷ d ∷ e ∷ cs) around is clean a h all it = absurd h.1.1
    names-by f s shape kind.KeyValuePatProp (c ∷ d ∷ []) around is clean a h all it =
        named-second (listed_within Place (List ℕ) (around 0) (texts_in free c)) (listed_within Place (List ℕ) (around 1) (texts_in free d) ++ [])
        (at-place (around 1) place.Names d [] (is 1) (all.1.0 f s (one sort.Pat) refl h.1.0 (kept-alone (ids_declared d (name_sought f s)) it)))
    names-by f s shape kind.KeyValuePatProp [] around is clean a h all it = absurd h
    names-by f s shape kind.KeyValuePatProp (c ∷ []) around is clean a h all it = absurd h.1
    names-by f s shape kind.KeyValuePatProp (c ∷ d ∷ e ∷ cs) around is clean a h all it = absurd h.1.1
    names-by f s shape kind.Param cs around is clean a h all it = absurd (no-parameter shape.count shape.sort kind.Param refl clean a)
    names-by f s shape (kind.TsParamProp x y z) cs around is clean a h all it = absurd (no-parameter shape.count shape.sort (kind.TsParamProp x y z) refl clean a)
    names-by f s shape _ cs around is clean a h all it = absurd (none-kept 0 cs it)

    layer-named : (n : Node) → AllNames (out-Node n).children → Names n
    unfolding sought_in
    layer-named n all f s shape clean h it =
        let p = parts-have n shape h in
        let k = (out-Node n).kind in
        let cs = (out-Node n).children in
        let here = id_here (name_sought f s) k in
        let found = ids_in (λ i. in_name f s k i) 0 (map ids_declared cs) in
        let others = below (place_in place.Names n) cs in
        ap (λ z. is_among z id.0) (texts-out free n place.Names)
        ∙ elim (kept-split here found (ap kept (sym (ids-out n (name_sought f s))) ∙ it)) [
          | inl e ↦ named-first (texts_here free place.Names n) others (here-named f s k e)
          | inr e ↦ named-second (texts_here free place.Names n) others (names-by f s shape k cs (place_in place.Names n) (λ j. refl) clean p.0 p.1 all e)
        ]

    all-named : (ns : List ((n : Node) × Names n)) → AllNames (map (λ e. e.0) ns)
    all-named [] = tt
    all-named (n ∷ ns) = (n.1, all-named ns)

    pub named : (n : Node) → Names n
    named = ind-Node Names (λ x y is.
        layer-named (roll-Node x) (subst AllNames (ap (λ (z : Node-F Node). z.children) is ∙ sym (ap (λ (z : Node-F Node). z.children) (out-roll-Node x))) (all-named y.children)))
