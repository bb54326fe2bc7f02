-- A sorted module stays one: lists alone lose nodes.
use Rattle.std.proofs.Common.{◌≡◌, ◌∙◌, ℕ, zero, suc, Bool, true, false, ◌&&◌, ◌==◌, not, cond, refl, sym, ap, subst, List, [], ◌∷◌, map, filter, length, replicate, Some, slice_get}
use Rattle.std.specs.List.{list_all}
use Rattle.std.proofs.lemmas.Bool.{eqb-true}
use Rattle.ecma_kind.specs.declared.kind.Kind.{Kind}
use Rattle.ecma_kind.specs.declared.kind.Kind.TheVariants as kind
use Rattle.ecma_kind.specs.declared.span.Span.{Span}
use Rattle.ecma_kind.specs.declared.shapes.Shape.{Shape}
use Rattle.ecma_kind.specs.declared.shapes.Sort.TheVariants as sort
use Rattle.ecma_tree.specs.Laws.{HaveShapes}
use Rattle.ecma_tree.specs.Nodes.{node_of}
use Rattle.ecma_tree.specs.Sorted.{HasShape, HasSort, allows, child_shapes, is_list, item_shape, one}
use Rattle.ecma_tree.specs.declared.node.Node.{Node, Node-F, ind-Node, out-Node, roll-Node}
use Rattle.ecma_tree.specs.declared.node.Node.TheViews.{out-roll-Node, roll-out-Node}
use Rattle.ecma_tree.proofs.ShapeLaws.{node_has_shape}
use Rattle.ecma_scope.specs.Scopes.{is_there}
use Rattle.ecma_rewriting.proofs.Equations.{list-kind}
use Rattle.ecma_elide.specs.declared.seat.Seat.{Seat}
use Rattle.ecma_elide.specs.declared.seat.Seat.TheVariants as seat
use Rattle.ecma_elide.specs.Elision.{elided_by, keeps_imports, known_of, remaining, seat_in, without_unused}
use Rattle.ecma_elide.specs.Laws.{ElidedModulesAreSorted}
use Rattle.ecma_elide.specs.Rules.{Known, alias_goes, exported, goes}
use Rattle.ecma_elide.proofs.Equations.{each, list-stays, node_goes, remaining-other, result, seats, usual}

-- ---- which children may go

abbrev is_alias : Kind → Bool
is_alias (kind.TsImportEqualsDecl is_export is_type_only) = true
is_alias _ = false

others-stay : (known : Known) (k : Kind) (cs : List Node) → is_alias k ≡ false → alias_goes known k cs ≡ false
unfolding alias_goes
others-stay known (kind.TsImportEqualsDecl is_export is_type_only) cs h = cc
others-stay known _ cs h = refl

-- no child that is one node is an alias
aliases-out : (e y : Bool) (n : ℕ) → list_all (λ u. not (allows u (kind.TsImportEqualsDecl e y))) (replicate (suc n) (one sort.Expr)) ≡ true
aliases-out e y zero = refl
aliases-out e y (suc n) = aliases-out e y n

takes-no-alias : (k : Kind) (t : Shape) (n : ℕ) (e y : Bool) → is_list k ≡ false → list_all (λ u. not (allows u (kind.TsImportEqualsDecl e y))) (child_shapes k t n) ≡ true
takes-no-alias kind.List t n e y h = cc
takes-no-alias kind.SeqExpr t zero e y h = refl
takes-no-alias kind.SeqExpr t (suc n) e y h = aliases-out e y n
takes-no-alias _ t n e y h = refl

takes-none : (k l : Kind) (t : Shape) (n : ℕ) → is_list k ≡ false → is_alias l ≡ true → list_all (λ u. not (allows u l)) (child_shapes k t n) ≡ true
takes-none k (kind.TsImportEqualsDecl e y) t n h a = takes-no-alias k t n e y h
takes-none k _ t n h a = cc

all-at : (p : Shape → Bool) (shapes : List Shape) (i : ℕ) (u : Shape) → list_all p shapes ≡ true → slice_get shapes i ≡ Some u → p u ≡ true
all-at p [] i u h at = cc
all-at p (x ∷ xs) zero u h at = let same : x ≡ u = cc in subst (λ z. p z ≡ true) same (first (p x) (list_all p xs) h)
  where
    first : (a b : Bool) → (a && b) ≡ true → a ≡ true
    first true b h = refl
    first false b h = h
all-at p (x ∷ xs) (suc i) u h at = all-at p xs i u (rest (p x) (list_all p xs) h) at
  where
    rest : (a b : Bool) → (a && b) ≡ true → b ≡ true
    rest true b h = h
    rest false b h = cc

no-alias : (k l : Kind) (t : Shape) (n i : ℕ) (u : Shape) → is_list k ≡ false → slice_get (child_shapes k t n) i ≡ Some u → allows u l ≡ true → is_alias l ≡ false
no-alias k l t n i u h at allowed = by (is_alias l) refl
  where
    by : (b : Bool) → is_alias l ≡ b → is_alias l ≡ false
    by true e =
        let none : not (allows u l) ≡ true = all-at (λ v. not (allows v l)) (child_shapes k t n) i u (takes-none k l t n h e) at in
        let never : not true ≡ true = ap not (sym allowed) ∙ none in
        cc
    by false e = e

-- whether the first child of a node of this kind is a list of which nodes may go
abbrev heads_list : Kind → Bool
heads_list (kind.Module shebang) = true
heads_list (kind.ImportDecl type_only) = true
heads_list (kind.NamedExport type_only) = true
heads_list _ = false

elsewhere-other : (s : Seat) (k : Kind) (sourced : Bool) (i : ℕ) → is_list k ≡ false → heads_list k ≡ false → seat_in s k sourced i ≡ seat.Elsewhere
unfolding seat_in
elsewhere-other seat.Elsewhere kind.List sourced i l h = cc
elsewhere-other seat.Elsewhere (kind.Module shebang) sourced i l h = cc
elsewhere-other seat.Elsewhere _ sourced i l h = refl
elsewhere-other seat.Items kind.List sourced i l h = cc
elsewhere-other seat.Items (kind.ImportDecl type_only) sourced i l h = cc
elsewhere-other seat.Items (kind.NamedExport type_only) sourced i l h = cc
elsewhere-other seat.Items _ sourced i l h = refl
elsewhere-other seat.Imported kind.List sourced i l h = cc
elsewhere-other seat.Imported _ sourced i l h = refl
elsewhere-other seat.Exported kind.List sourced i l h = cc
elsewhere-other seat.Exported _ sourced i l h = refl
elsewhere-other seat.Reexported kind.List sourced i l h = cc
elsewhere-other seat.Reexported _ sourced i l h = refl

elsewhere-behind : (s : Seat) (k : Kind) (sourced : Bool) (i : ℕ) → is_list k ≡ false → (i == 0) ≡ false → seat_in s k sourced i ≡ seat.Elsewhere
unfolding seat_in
elsewhere-behind seat.Elsewhere kind.List sourced i l h = cc
elsewhere-behind seat.Elsewhere (kind.Module shebang) sourced i l h = ap (λ b. cond b seat.Items seat.Elsewhere) h
elsewhere-behind seat.Elsewhere _ sourced i l h = refl
elsewhere-behind seat.Items kind.List sourced i l h = cc
elsewhere-behind seat.Items (kind.ImportDecl type_only) sourced i l h = ap (λ b. cond b seat.Imported seat.Elsewhere) h
elsewhere-behind seat.Items (kind.NamedExport type_only) sourced i l h = ap (λ b. cond b (exported sourced) seat.Elsewhere) h
elsewhere-behind seat.Items _ sourced i l h = refl
elsewhere-behind seat.Imported kind.List sourced i l h = cc
elsewhere-behind seat.Imported _ sourced i l h = refl
elsewhere-behind seat.Exported kind.List sourced i l h = cc
elsewhere-behind seat.Exported _ sourced i l h = refl
elsewhere-behind seat.Reexported kind.List sourced i l h = cc
elsewhere-behind seat.Reexported _ sourced i l h = refl

some-same : {X : Type 0} (a b : X) → Some a ≡ Some b → a ≡ b
some-same a b e = cc

-- that list is one
first-list : (k : Kind) (t : Shape) (n : ℕ) (u : Shape) (l : Kind) → heads_list k ≡ true → slice_get (child_shapes k t n) 0 ≡ Some u → allows u l ≡ true → is_list l ≡ true
first-list (kind.Module shebang) t n u l h at allowed = let same : _ ≡ u = some-same _ u at in subst (λ z. allows z l ≡ true → is_list l ≡ true) same (λ a. a) allowed
first-list (kind.ImportDecl type_only) t n u l h at allowed = let same : _ ≡ u = some-same _ u at in subst (λ z. allows z l ≡ true → is_list l ≡ true) same (λ a. a) allowed
first-list (kind.NamedExport type_only) t n u l h at allowed = let same : _ ≡ u = some-same _ u at in subst (λ z. allows z l ≡ true → is_list l ≡ true) same (λ a. a) allowed
first-list _ t n u l h at allowed = cc

module _ (known : Known) where
  list-by : (s : Seat) (l : Kind) (cs : List Node) → is_list l ≡ true → goes known s l cs ≡ false
  list-by s l cs h = ap (λ z. goes known s z cs) (list-kind l h) ∙ list-stays known s cs

  -- a child that is no item of a list stays
  first-stays : (s : Seat) (k : Kind) (t : Shape) (n : ℕ) (sourced : Bool) (i : ℕ) (u : Shape) (l : Kind) (cs : List Node) (b : Bool) → heads_list k ≡ b → i ≡ 0
      → is_list k ≡ false → slice_get (child_shapes k t n) i ≡ Some u → allows u l ≡ true → goes known (seat_in s k sourced i) l cs ≡ false
  first-stays s k t n sourced i u l cs true e z h at allowed =
      list-by (seat_in s k sourced i) l cs (first-list k t n u l e (subst (λ j. slice_get (child_shapes k t n) j ≡ Some u) z at) allowed)
  first-stays s k t n sourced i u l cs false e z h at allowed =
      ap (λ w. goes known w l cs) (elsewhere-other s k sourced i h e) ∙ others-stay known l cs (no-alias k l t n i u h at allowed)

  child-stays : (s : Seat) (k : Kind) (t : Shape) (n : ℕ) (sourced : Bool) (i : ℕ) (u : Shape) (l : Kind) (cs : List Node) → is_list k ≡ false
      → slice_get (child_shapes k t n) i ≡ Some u → allows u l ≡ true → goes known (seat_in s k sourced i) l cs ≡ false
  child-stays s k t n sourced i u l cs h at allowed = by (i == 0) refl
    where
      by : (b : Bool) → (i == 0) ≡ b → goes known (seat_in s k sourced i) l cs ≡ false
      by true e = first-stays s k t n sourced i u l cs (heads_list k) refl (eqb-true i 0 e) h at allowed
      by false e = ap (λ z. goes known z l cs) (elsewhere-behind s k sourced i h e) ∙ others-stay known l cs (no-alias k l t n i u h at allowed)

  -- ---- shapes

  abbrev Kept : Node → Type 0
  Kept n = (s : Seat) (t : Shape) → HasShape t n → node_goes known s n ≡ false → HasShape t (result known s n)

  abbrev nodes : List ((n : Node) × Kept n) → List Node
  nodes ns = map (λ e. e.0) ns

  abbrev stay : Seat → List Node → List Node
  stay s ns = filter (λ n. not (node_goes known s n)) ns

  abbrev AreItems : Shape → List Node → Type 0
  AreItems u ns = HaveShapes (replicate (length ns) u) ns

  item-kept : (s : Seat) (u : Shape) (n : Node) (rest : List Node) (b : Bool) → node_goes known s n ≡ b → (b ≡ false → HasShape u (result known s n))
      → AreItems u (each known (λ i. s) rest) → AreItems u (each known (λ i. s) (cond (not b) (n ∷ rest) rest))
  item-kept s u n rest true h has others = others
  item-kept s u n rest false h has others = (has refl, others)

  items-kept : (s : Seat) (u : Shape) (ns : List ((n : Node) × Kept n)) → AreItems u (nodes ns) → AreItems u (each known (λ i. s) (stay s (nodes ns)))
  items-kept s u [] h = tt
  items-kept s u (n ∷ ns) h =
      item-kept s u n.0 (stay s (nodes ns)) (node_goes known s n.0) refl (λ e. n.1 s u h.0 e) (items-kept s u ns h.1)

  each-kept : (seat_of : ℕ → Seat) (shapes : List Shape) (ns : List ((n : Node) × Kept n))
      → ((i : ℕ) (u : Shape) (n : Node) → slice_get shapes i ≡ Some u → HasShape u n → node_goes known (seat_of i) n ≡ false)
      → HaveShapes shapes (nodes ns) → HaveShapes shapes (each known seat_of (nodes ns))
  each-kept seat_of [] [] stays h = tt
  each-kept seat_of [] (n ∷ ns) stays h = absurd h
  each-kept seat_of (u ∷ us) [] stays h = absurd h
  each-kept seat_of (u ∷ us) (n ∷ ns) stays h =
      (n.1 (seat_of 0) u h.0 (stays 0 u n.0 refl h.0), each-kept (λ i. seat_of (suc i)) us ns (λ i v m at has. stays (suc i) v m at has) h.1)

  each-length : (seat_of : ℕ → Seat) (ns : List Node) → length ns ≡ length (each known seat_of ns)
  each-length seat_of [] = refl
  each-length seat_of (n ∷ ns) = ap suc (each-length (λ i. seat_of (suc i)) ns)

  -- the kind of a node of a shape is one that the shape allows
  allowed-kind : (u : Shape) (n : Node) → HasShape u n → allows u (out-Node n).kind ≡ true
  allowed-kind u n h =
      ((node_has_shape (out-Node n).span (out-Node n).kind (out-Node n).children u).0 (subst (HasShape u) (sym (roll-out-Node n)) h)).0

  list-kept : (s : Seat) (t : Shape) (span : Span) (sourced : Bool) (ns : List ((n : Node) × Kept n)) → HasShape t (node_of span kind.List (nodes ns))
      → HasShape t (node_of span kind.List (each known (seats known s kind.List sourced) (remaining known s kind.List (nodes ns))))
  unfolding seat_in
  list-kept s t span sourced ns h =
      let parts = (node_has_shape span kind.List (nodes ns) t).0 h in
      (node_has_shape span kind.List (each known (λ i. s) (stay s (nodes ns))) t).1 (parts.0, items-kept s (item_shape t) ns parts.1)

  other-kept : (s : Seat) (t : Shape) (span : Span) (k : Kind) (sourced : Bool) (ns : List ((n : Node) × Kept n)) → is_list k ≡ false
      → HasShape t (node_of span k (nodes ns)) → HasShape t (node_of span k (each known (seats known s k sourced) (nodes ns)))
  other-kept s t span k sourced ns l h =
      let parts = (node_has_shape span k (nodes ns) t).0 h in
      let have = each-kept (seats known s k sourced) (child_shapes k t (length (nodes ns))) ns
      (λ i u n at has. child-stays s k t (length (nodes ns)) sourced i u (out-Node n).kind (out-Node n).children l at (allowed-kind u n has)) parts.1 in
      (node_has_shape span k (each known (seats known s k sourced) (nodes ns)) t).1
      (parts.0, subst (λ m. HaveShapes (child_shapes k t m) (each known (seats known s k sourced) (nodes ns))) (each-length (seats known s k sourced) (nodes ns)) have)

  over-kept : (s : Seat) (t : Shape) (span : Span) (k : Kind) (sourced : Bool) (ns : List ((n : Node) × Kept n)) (b : Bool) → is_list k ≡ b
      → HasShape t (node_of span k (nodes ns)) → HasShape t (node_of span k (each known (seats known s k sourced) (remaining known s k (nodes ns))))
  over-kept s t span k sourced ns true l h =
      subst (λ z. HasShape t (node_of span z (nodes ns)) → HasShape t (node_of span z (each known (seats known s z sourced) (remaining known s z (nodes ns))))) (sym (list-kind k l))
      (λ g. list-kept s t span sourced ns g) h
  over-kept s t span k sourced ns false l h =
      subst (λ z. HasShape t (node_of span k (each known (seats known s k sourced) z))) (sym (remaining-other known s k (nodes ns) l)) (other-kept s t span k sourced ns l h)

  pub kept : (n : Node) → Kept n
  kept = ind-Node Kept (λ x y is.
      (let parts : Node-F Node = record { span = y.span; kind = y.kind; children = nodes y.children } in
      subst (λ (z : Node-F Node). Kept (roll-Node z)) is (λ s t h stays.
      subst (HasShape t) (sym (usual known s (roll-Node parts) stays))
      (subst (λ (z : Node-F Node). HasShape t (node_of z.span z.kind (each known (seats known s z.kind (is_there z.children 1)) (remaining known s z.kind z.children)))) (sym (out-roll-Node parts))
      (over-kept s t y.span y.kind (is_there (nodes y.children) 1) y.children (is_list y.kind) refl h)))))

module-kind : (l : Kind) → allows (one sort.Module) l ≡ true → is_alias l ≡ false
module-kind (kind.TsImportEqualsDecl is_export is_type_only) h = cc
module-kind _ h = refl

sorted-by : (known : Known) (tree : Node) → HasSort sort.Module tree → HasSort sort.Module (elided_by known tree)
sorted-by known tree h =
    kept known tree seat.Elsewhere (one sort.Module) h
    (others-stay known (out-Node tree).kind (out-Node tree).children (module-kind (out-Node tree).kind (allowed-kind known (one sort.Module) tree h)))

pub elided_modules_are_sorted : ElidedModulesAreSorted
elided_modules_are_sorted config tree h = by config.verbatim_module_syntax
  where
    by : (b : Bool) → HasSort sort.Module (cond b tree (without_unused config.import_not_used_as_values tree))
    by true = h
    by false = sorted-by (known_of (keeps_imports config.import_not_used_as_values) tree) tree h
