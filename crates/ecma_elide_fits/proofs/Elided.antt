-- A module without what the options drop is one from whose lists items are dropped.
use Rattle.std.proofs.Common.{◌≡◌, ◌∙◌, ℕ, zero, suc, Bool, true, false, ◌&&◌, ◌||◌, ◌==◌, not, cond, List, [], ◌∷◌, map, filter, length, replicate, Some, refl, sym, ap, ap₂, subst, slice_get}
use Rattle.std.specs.List.{list_all}
use Rattle.std.proofs.lemmas.Bool.{eqb-true}
use Rattle.ecma_kind.specs.declared.kind.Kind.{Kind}
use Rattle.ecma_kind.specs.declared.kind.Kind.TheVariants as kind
use Rattle.ecma_kind.specs.declared.shapes.Count.TheVariants.{One, Maybe, Many, MaybeMany, Holes}
use Rattle.ecma_kind.specs.declared.shapes.Count.{Count}
use Rattle.ecma_kind.specs.declared.shapes.Shape.{Shape}
use Rattle.ecma_kind.specs.declared.shapes.Sort.{Sort}
use Rattle.ecma_kind.specs.declared.shapes.Sort.TheVariants as sort
use Rattle.ecma_tree.specs.Laws.{HaveShapes}
use Rattle.ecma_tree.specs.Nodes.{node_of}
use Rattle.ecma_tree.specs.Sorted.{HasShape, allows, child_shapes, is_list, item_count, item_shape, maybe, one}
use Rattle.ecma_tree.specs.declared.node.Node.{Node, out-Node}
use Rattle.ecma_rules.specs.Children.{kind_of}
use Rattle.ecma_scope.specs.Scopes.{is_there}
use Rattle.ecma_fits.specs.Fitting.{Fits}
use Rattle.ecma_rewriting.proofs.Equations.{list-kind}
use Rattle.ecma_config.specs.declared.config.Config.{Config}
use Rattle.ecma_elide.specs.declared.seat.Seat.{Seat}
use Rattle.ecma_elide.specs.declared.seat.Seat.TheVariants as seat
use Rattle.ecma_elide.specs.Elision.{elided, elided_by, keeps_imports, known_of, remaining, seat_in, without_unused}
use Rattle.ecma_elide.specs.Rules.{Known, alias_goes, exported, goes}
use Rattle.ecma_elide.proofs.Equations.{each as each_elided, list-stays, node_goes, remaining-other, result, seats, usual}
use Rattle.ecma_elide_fits.specs.Dropping.{Dropping, may_lose, without}
use Rattle.ecma_elide_fits.specs.Laws.{ElidedTreesFit}
use Rattle.ecma_elide_fits.proofs.Dropped.{and_false, below, each, induct, loses_at, seats_at, some_same, stay, stay_whole, to, to_is}
use Rattle.ecma_elide_fits.proofs.FitsKept.{kept}
use Rattle.ecma_elide_fits.proofs.Rules.{allowed}
use Rattle.ecma_elide_fits.proofs.Shapes.{items_asked}
use Rattle.ecma_elide_fits.proofs.Walks.{shape_parts}

-- what goes of a module, as items that are dropped
abbrev pub dropping : Known → Dropping Seat
dropping known = record { seat = λ s k children i. seat_in s k (is_there children 1) i; drops = λ s c. goes known s (kind_of c) (below c) }

abbrev is_alias : Kind → Bool
is_alias (kind.TsImportEqualsDecl is_export is_type_only) = true
is_alias _ = false

-- ---- where an `import a = ..` may stand, by the sorts

-- neither as a child of this shape, nor as an item of one
abbrev takes_none : Kind → Shape → Bool
takes_none alias u = not (allows u alias) && not (allows (item_shape u) alias)

expressions : (e y : Bool) (n : ℕ) → list_all (takes_none (kind.TsImportEqualsDecl e y)) (replicate (suc n) (one sort.Expr)) ≡ true
expressions e y zero = refl
expressions e y (suc n) = expressions e y n

none_below : (k : Kind) (t : Shape) (n : ℕ) (e y : Bool) → is_list k ≡ false → may_lose k 0 ≡ false → list_all (takes_none (kind.TsImportEqualsDecl e y)) (child_shapes k t n) ≡ true
none_below kind.List t n e y l h = cc
none_below (kind.Module shebang) t n e y l h = cc
none_below kind.TsModuleBlock t n e y l h = cc
none_below (kind.ImportDecl type_only) t n e y l h = cc
none_below (kind.NamedExport type_only) t n e y l h = cc
none_below kind.SeqExpr t zero e y l h = refl
none_below kind.SeqExpr t (suc n) e y l h = expressions e y n
none_below _ t n e y l h = refl

both : (a b : Bool) → (a && b) ≡ true → (a ≡ true) × (b ≡ true)
both true b h = (refl, h)
both false b h = cc

all_at : (p : Shape → Bool) (ts : List Shape) (i : ℕ) (u : Shape) → list_all p ts ≡ true → slice_get ts i ≡ Some u → p u ≡ true
all_at p [] i u h at = cc
all_at p (x ∷ xs) zero u h at = subst (λ z. p z ≡ true) (some_same x u at) (both (p x) (list_all p xs) h).0
all_at p (x ∷ xs) (suc i) u h at = all_at p xs i u (both (p x) (list_all p xs) h).1 at

never : {X : Type 0} (b : Bool) → b ≡ true → b ≡ false → X
never true h g = absurd (by g)
  where
    by : true ≡ false → ⊥
    by e = cc
never false h g = absurd (by h)
  where
    by : false ≡ true → ⊥
    by e = cc

none_at : (k : Kind) (t : Shape) (n i : ℕ) (u : Shape) (e y : Bool) → is_list k ≡ false → may_lose k i ≡ false → slice_get (child_shapes k t n) i ≡ Some u
    → takes_none (kind.TsImportEqualsDecl e y) u ≡ true
none_at (kind.Module shebang) t n zero u e y l h at = cc
none_at (kind.Module shebang) t n (suc i) u e y l h at = cc
none_at kind.TsModuleBlock t n zero u e y l h at = cc
none_at kind.TsModuleBlock t n (suc i) u e y l h at = cc
none_at (kind.ImportDecl type_only) t n zero u e y l h at = cc
none_at (kind.ImportDecl type_only) t n (suc i) u e y l h at = all_at (takes_none (kind.TsImportEqualsDecl e y)) (one sort.Str ∷ maybe sort.ObjectLit ∷ []) i u refl at
none_at (kind.NamedExport type_only) t n zero u e y l h at = cc
none_at (kind.NamedExport type_only) t n (suc i) u e y l h at = all_at (takes_none (kind.TsImportEqualsDecl e y)) (maybe sort.Str ∷ maybe sort.ObjectLit ∷ []) i u refl at
none_at k t n i u e y l h at = all_at (takes_none (kind.TsImportEqualsDecl e y)) (child_shapes k t n) i u (none_below k t n e y l h) at

is_false : (b : Bool) → not b ≡ true → b ≡ false
is_false true h = cc
is_false false h = refl

-- such a child is no alias, and none of its items
child_other : (k l : Kind) (t : Shape) (n i : ℕ) (u : Shape) → is_list k ≡ false → may_lose k i ≡ false → slice_get (child_shapes k t n) i ≡ Some u → allows u l ≡ true → is_alias l ≡ false
child_other k (kind.TsImportEqualsDecl e y) t n i u l h at is =
    let none = both (not (allows u (kind.TsImportEqualsDecl e y))) (not (allows (item_shape u) (kind.TsImportEqualsDecl e y))) (none_at k t n i u e y l h at) in
    never (allows u (kind.TsImportEqualsDecl e y)) is (is_false (allows u (kind.TsImportEqualsDecl e y)) none.0)
child_other k _ t n i u l h at is = refl

item_other : (k l : Kind) (t : Shape) (n i : ℕ) (u : Shape) → is_list k ≡ false → may_lose k i ≡ false → slice_get (child_shapes k t n) i ≡ Some u → allows (item_shape u) l ≡ true → is_alias l ≡ false
item_other k (kind.TsImportEqualsDecl e y) t n i u l h at is =
    let none = both (not (allows u (kind.TsImportEqualsDecl e y))) (not (allows (item_shape u) (kind.TsImportEqualsDecl e y))) (none_at k t n i u e y l h at) in
    never (allows (item_shape u) (kind.TsImportEqualsDecl e y)) is (is_false (allows (item_shape u) (kind.TsImportEqualsDecl e y)) none.1)
item_other k _ t n i u l h at is = refl

-- a child that may lose items is a list
losing_list : (k l : Kind) (t : Shape) (n i : ℕ) (u : Shape) → may_lose k i ≡ true → slice_get (child_shapes k t n) i ≡ Some u → allows u l ≡ true → is_list l ≡ true
losing_list (kind.Module shebang) l t n zero u h at is = subst (λ z. allows z l ≡ true → is_list l ≡ true) (some_same _ u at) (λ a. a) is
losing_list kind.TsModuleBlock l t n zero u h at is = subst (λ z. allows z l ≡ true → is_list l ≡ true) (some_same _ u at) (λ a. a) is
losing_list (kind.ImportDecl type_only) l t n zero u h at is = subst (λ z. allows z l ≡ true → is_list l ≡ true) (some_same _ u at) (λ a. a) is
losing_list (kind.NamedExport type_only) l t n zero u h at is = subst (λ z. allows z l ≡ true → is_list l ≡ true) (some_same _ u at) (λ a. a) is
losing_list (kind.Module shebang) l t n (suc i) u h at is = cc
losing_list kind.TsModuleBlock l t n (suc i) u h at is = cc
losing_list (kind.ImportDecl type_only) l t n (suc i) u h at is = let never : suc i ≡ 0 = eqb-true (suc i) 0 h in cc
losing_list (kind.NamedExport type_only) l t n (suc i) u h at is = let never : suc i ≡ 0 = eqb-true (suc i) 0 h in cc
losing_list _ l t n i u h at is = cc

-- any other child stands where nothing but an alias goes
seat_elsewhere : (s : Seat) (k : Kind) (sourced : Bool) (i : ℕ) → is_list k ≡ false → may_lose k i ≡ false → seat_in s k sourced i ≡ seat.Elsewhere
unfolding seat_in
seat_elsewhere seat.Elsewhere kind.List sourced i l h = cc
seat_elsewhere seat.Elsewhere (kind.Module shebang) sourced i l h = ap (λ b. cond b seat.Items seat.Elsewhere) h
seat_elsewhere seat.Elsewhere _ sourced i l h = refl
seat_elsewhere seat.Items kind.List sourced i l h = cc
seat_elsewhere seat.Items (kind.ImportDecl type_only) sourced i l h = ap (λ b. cond b seat.Imported seat.Elsewhere) h
seat_elsewhere seat.Items (kind.NamedExport type_only) sourced i l h = ap (λ b. cond b (exported sourced) seat.Elsewhere) h
seat_elsewhere seat.Items _ sourced i l h = refl
seat_elsewhere seat.Imported kind.List sourced i l h = cc
seat_elsewhere seat.Imported _ sourced i l h = refl
seat_elsewhere seat.Exported kind.List sourced i l h = cc
seat_elsewhere seat.Exported _ sourced i l h = refl
seat_elsewhere seat.Reexported kind.List sourced i l h = cc
seat_elsewhere seat.Reexported _ sourced i l h = refl

module_kind : (l : Kind) → allows (one sort.Module) l ≡ true → is_alias l ≡ false
module_kind (kind.TsImportEqualsDecl is_export is_type_only) h = cc
module_kind _ h = refl

absent_or : (b : Bool) (c : Bool) → c ≡ true → (b || c) ≡ true
absent_or true c h = refl
absent_or false c h = h

-- an item of an item may be what an item may be
deeper : (t : Shape) (l : Kind) → allows (item_shape (item_shape t)) l ≡ true → allows (item_shape t) l ≡ true
deeper t l h = by t.count t.sort h
  where
    by : (c : Count) (s : Sort) → allows (item_shape (item_shape (record { count = c; sort = s }))) l ≡ true → allows (item_shape (record { count = c; sort = s })) l ≡ true
    by One s h = h
    by Maybe s h = h
    by Many s h = h
    by MaybeMany s h = h
    by Holes s h = absent_or _ _ h

module _ (known : Known) where
  abbrev d : Dropping Seat
  d = dropping known

  alias_stays : (k : Kind) (cs : List Node) → is_alias k ≡ false → alias_goes known k cs ≡ false
  unfolding alias_goes
  alias_stays (kind.TsImportEqualsDecl is_export is_type_only) cs h = cc
  alias_stays _ cs h = refl

  -- of the items of a list of this shape, none goes
  abbrev NoneGoes : Seat → Shape → Type 0
  NoneGoes s t = (k : Kind) (cs : List Node) → allows (item_shape t) k ≡ true → goes known s k cs ≡ false

  abbrev Linked : Node → Type 0
  Linked n = (loses : Bool) (s : Seat) (t : Shape) → HasShape t n → node_goes known s n ≡ false → (loses ≡ false → NoneGoes s t) → result known s n ≡ to d loses s n

  abbrev AllLinked : List Node → Type 0
  AllLinked ns = (i : ℕ) (c : Node) → slice_get ns i ≡ Some c → Linked c

  abbrev AreItems : Shape → List Node → Type 0
  AreItems u ns = HaveShapes (replicate (length ns) u) ns

  abbrev stays : Seat → Node → Bool
  stays s n = not (node_goes known s n)

  losing_items : (s : Seat) (u : Shape) (ns : List Node) → AllLinked ns → AreItems u ns → each_elided known (λ i. s) (filter (stays s) ns) ≡ each d (λ i. true) (λ i. s) (filter (stays s) ns)
  losing_items s u [] linked h = refl
  losing_items s u (n ∷ ns) linked h = by (node_goes known s n) refl (losing_items s u ns (λ i. linked (suc i)) h.1)
    where
      by : (b : Bool) → node_goes known s n ≡ b → each_elided known (λ i. s) (filter (stays s) ns) ≡ each d (λ i. true) (λ i. s) (filter (stays s) ns)
          → each_elided known (λ i. s) (cond (not b) (n ∷ filter (stays s) ns) (filter (stays s) ns)) ≡ each d (λ i. true) (λ i. s) (cond (not b) (n ∷ filter (stays s) ns) (filter (stays s) ns))
      by true e rest = rest
      by false e rest = ap₂ (λ a others. a ∷ others) (linked 0 n refl true s u h.0 e (λ z. cc)) rest

  shut_items : (s : Seat) (u : Shape) (ns : List Node) → AllLinked ns → AreItems u ns → ((k : Kind) (cs : List Node) → allows u k ≡ true → goes known s k cs ≡ false) → NoneGoes s u
      → each_elided known (λ i. s) (filter (stays s) ns) ≡ each d (λ i. false) (λ i. s) ns
  shut_items s u [] linked h none below_none = refl
  shut_items s u (n ∷ ns) linked h none below_none =
      let e : node_goes known s n ≡ false = none (kind_of n) (below n) (allowed u n h.0) in
      ap (λ b. each_elided known (λ i. s) (cond (not b) (n ∷ filter (stays s) ns) (filter (stays s) ns))) e
      ∙ ap₂ (λ a rest. a ∷ rest) (linked 0 n refl false s u h.0 e (λ z. below_none)) (shut_items s u ns (λ i. linked (suc i)) h.1 none below_none)

  children_linked : (f : ℕ → Seat) (o : ℕ → Bool) (us : List Shape) (ns : List Node) → AllLinked ns → HaveShapes us ns
      → ((i : ℕ) (u : Shape) → slice_get us i ≡ Some u → ((c : Node) → HasShape u c → node_goes known (f i) c ≡ false) × (o i ≡ false → NoneGoes (f i) u)) → each_elided known f ns ≡ each d o f ns
  children_linked f o [] [] linked h fits = refl
  children_linked f o [] (n ∷ ns) linked h fits = absurd h
  children_linked f o (u ∷ us) [] linked h fits = absurd h
  children_linked f o (u ∷ us) (n ∷ ns) linked h fits =
      let here = fits 0 u refl in
      ap₂ (λ a rest. a ∷ rest) (linked 0 n refl (o 0) (f 0) u h.0 (here.0 n h.0) here.1)
      (children_linked (λ i. f (suc i)) (λ i. o (suc i)) us ns (λ i. linked (suc i)) h.1 (λ i. fits (suc i)))

  -- what stands at an index of a node that is no list
  list_stays : (s : Seat) (l : Kind) (cs : List Node) → is_list l ≡ true → goes known s l cs ≡ false
  list_stays s l cs h = ap (λ z. goes known s z cs) (list-kind l h) ∙ list-stays known s cs

  child_stays : (s : Seat) (k : Kind) (t : Shape) (n : ℕ) (sourced : Bool) (i : ℕ) (u : Shape) → is_list k ≡ false → slice_get (child_shapes k t n) i ≡ Some u → (c : Node) → HasShape u c
      → node_goes known (seat_in s k sourced i) c ≡ false
  child_stays s k t n sourced i u l at c h = by (may_lose k i) refl
    where
      by : (b : Bool) → may_lose k i ≡ b → node_goes known (seat_in s k sourced i) c ≡ false
      by true e = list_stays (seat_in s k sourced i) (kind_of c) (below c) (losing_list k (kind_of c) t n i u e at (allowed u c h))
      by false e =
          ap (λ z. goes known z (kind_of c) (below c)) (seat_elsewhere s k sourced i l e)
          ∙ alias_stays (kind_of c) (below c) (child_other k (kind_of c) t n i u l e at (allowed u c h))

  none_goes : (s : Seat) (k : Kind) (t : Shape) (n : ℕ) (sourced : Bool) (i : ℕ) (u : Shape) → is_list k ≡ false → slice_get (child_shapes k t n) i ≡ Some u → may_lose k i ≡ false
      → NoneGoes (seat_in s k sourced i) u
  none_goes s k t n sourced i u l at e m cs is =
      ap (λ z. goes known z m cs) (seat_elsewhere s k sourced i l e) ∙ alias_stays m cs (item_other k m t n i u l e at is)

  -- ---- a node that stays

  list_linked : (s : Seat) (t : Shape) (k : Kind) (loses : Bool) (ns : List Node) (sourced : Bool) → is_list k ≡ true → AllLinked ns → AreItems (item_shape t) ns → (loses ≡ false → NoneGoes s t)
      → (b : Bool) → loses ≡ b
      → each_elided known (seats known s k sourced) (remaining known s k ns)
      ≡ each d (λ i. cond (is_list k) loses (may_lose k i)) (λ i. cond (is_list k) s (seat_in s k sourced i)) (cond (loses && is_list k) (filter (stays s) ns) ns)
  unfolding seat_in
  list_linked s t kind.List loses ns sourced l linked items none true e =
      losing_items s (item_shape t) ns linked items ∙ sym (ap (λ o. each d (λ i. o) (λ i. s) (cond (o && true) (filter (stays s) ns) ns)) e)
  list_linked s t kind.List loses ns sourced l linked items none false e =
      shut_items s (item_shape t) ns linked items (none e) (λ k cs a. none e k cs (deeper t k a))
      ∙ sym (ap (λ o. each d (λ i. o) (λ i. s) (cond (o && true) (filter (stays s) ns) ns)) e)
  list_linked s t _ loses ns sourced l linked items none b e = cc

  node_linked : (n : Node) → AllLinked (below n) → Linked n
  node_linked n linked loses s t has stay_here none = usual known s n stay_here ∙ ap (node_of (out-Node n).span (kind_of n)) (by (is_list (kind_of n)) refl) ∙ sym (to_is d loses s n)
    where
      parts : (allows t (kind_of n) ≡ true) × HaveShapes (child_shapes (kind_of n) t (length (below n))) (below n)
      parts = shape_parts n t has

      by : (b : Bool) → is_list (kind_of n) ≡ b → each_elided known (seats known s (kind_of n) (is_there (below n) 1)) (remaining known s (kind_of n) (below n)) ≡ each d (loses_at d loses n) (seats_at d s n) (stay d loses s n)
      by true l =
          list_linked s t (kind_of n) loses (below n) (is_there (below n) 1) l linked (subst (λ ts. HaveShapes ts (below n)) (items_asked (kind_of n) t (length (below n)) l) parts.1) none loses refl
      by false l =
          ap (each_elided known (seats known s (kind_of n) (is_there (below n) 1))) (remaining-other known s (kind_of n) (below n) l)
          ∙ children_linked (seats known s (kind_of n) (is_there (below n) 1)) (may_lose (kind_of n)) (child_shapes (kind_of n) t (length (below n))) (below n) linked parts.1
          (λ i u at. (child_stays s (kind_of n) t (length (below n)) (is_there (below n) 1) i u l at, none_goes s (kind_of n) t (length (below n)) (is_there (below n) 1) i u l at))
          ∙ sym (ap₂ (λ a ns. each d (λ i. cond a loses (may_lose (kind_of n) i)) (λ i. cond a s (seat_in s (kind_of n) (is_there (below n) 1) i)) ns) l
          (stay_whole d loses s n (and_false loses (is_list (kind_of n)) l)))

  linked : (n : Node) → Linked n
  linked = induct Linked node_linked

  pub elided_is : (tree : Node) → HasShape (one sort.Module) tree → elided_by known tree ≡ without d seat.Elsewhere tree
  elided_is tree has =
      linked tree false seat.Elsewhere (one sort.Module) has
      (alias_stays (kind_of tree) (below tree) (module_kind (kind_of tree) (allowed (one sort.Module) tree has)))
      (λ e k cs a. alias_stays k cs (module_kind k a))

-- what holds of a sorted module without any items of its lists holds of it without what the options drop
pub of_elided : (P : Node → Type 0) (config : Config) (tree : Node) → HasShape (one sort.Module) tree → P tree → ((known : Known) → P (without (dropping known) seat.Elsewhere tree)) → P (elided config tree)
of_elided P config tree has whole dropped = by config.verbatim_module_syntax
  where
    by : (b : Bool) → P (cond b tree (without_unused config.import_not_used_as_values tree))
    by true = whole
    by false =
        let known = known_of (keeps_imports config.import_not_used_as_values) tree in
        subst P (sym (elided_is known tree has)) (dropped known)

pub elided_trees_fit : ElidedTreesFit
elided_trees_fit config tree f = of_elided Fits config tree f.sorted f (λ known. kept (dropping known) seat.Elsewhere tree f)
