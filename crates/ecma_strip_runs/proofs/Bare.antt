-- What goes from a list is not left in the tree of which enums ask; so where no enum stays, that tree has none.
use Rattle.std.proofs.Common.{◌≡◌, refl, sym, ap, ◌∙◌, subst, ℕ, suc, List, [], ◌∷◌, map, filter, Bool, true, false, ◌||◌, not, cond, None, Some, slice_get, true≢false}
use Rattle.std.specs.List.{list_any}
use Rattle.ecma_kind.specs.declared.kind.Kind.{Kind}
use Rattle.ecma_kind.specs.declared.kind.Kind.TheVariants as kind
use Rattle.ecma_tree.specs.declared.node.Node.{Node, Node-F, out-Node, roll-Node}
use Rattle.ecma_tree.specs.declared.node.Node.TheViews.{out-roll-Node, roll-out-Node}
use Rattle.ecma_tree.specs.Nodes.{dummy_span}
use Rattle.ecma_tree.specs.Sorted.{is_list}
use Rattle.ecma_tree.specs.Values.{is_value_where, value_by}
use Rattle.ecma_tree.proofs.Valuing.{is_value_where-roll}
use Rattle.ecma_runs.specs.Enums.{bare, bare_by, is_enum}
use Rattle.ecma_runs.specs.Sources.{unsourced}
use Rattle.ecma_runs.proofs.Kept.{AllNodes}
use Rattle.ecma_runs.proofs.EnumTrees.{Lacks, absent_lacks, bare-roll, lacks_layer}
use Rattle.ecma_strip.specs.Staying.{stays}
use Rattle.ecma_strip_runs.proofs.Lasting.{Falls, any_parts, by_children, children_of, goes_too, is_usual, kind_of}

abbrev Layer : Kind → List Node → Node-F Node
Layer k cs = record { span = dummy_span; kind = k; children = cs }

-- ---- the bare tree of a node

pub bare-out : (n : Node) → bare n ≡ bare_by (unsourced (kind_of n)) (map bare (children_of n)) (Layer (unsourced (kind_of n)) (map bare (children_of n)))
bare-out n = ap bare (sym (roll-out-Node n)) ∙ bare-roll (out-Node n)

usual_is : (k : Kind) (cs : List Node) → is_usual k ≡ true → bare_by (unsourced k) cs (Layer (unsourced k) cs) ≡ roll-Node (Layer k cs)
usual_is kind.List cs h = absurd (true≢false (sym h))
usual_is kind.TsTypeAnn cs h = absurd (true≢false (sym h))
usual_is kind.TsTypeParamDecl cs h = absurd (true≢false (sym h))
usual_is kind.TsTypeParamInstantiation cs h = absurd (true≢false (sym h))
usual_is kind.TsAsExpr cs h = absurd (true≢false (sym h))
usual_is kind.TsTypeAssertion cs h = absurd (true≢false (sym h))
usual_is kind.TsConstAssertion cs h = absurd (true≢false (sym h))
usual_is kind.TsNonNullExpr cs h = absurd (true≢false (sym h))
usual_is kind.TsInstantiation cs h = absurd (true≢false (sym h))
usual_is kind.TsSatisfiesExpr cs h = absurd (true≢false (sym h))
usual_is (kind.Str value raw) cs h = absurd (true≢false (sym h))
usual_is (kind.Number value raw) cs h = absurd (true≢false (sym h))
usual_is (kind.BigInt value raw) cs h = absurd (true≢false (sym h))
usual_is _ cs h = refl

bare_parts : (n : Node) → is_usual (kind_of n) ≡ true → out-Node (bare n) ≡ Layer (kind_of n) (map bare (children_of n))
bare_parts n h = ap out-Node (bare-out n ∙ usual_is (kind_of n) (map bare (children_of n)) h) ∙ out-roll-Node (Layer (kind_of n) (map bare (children_of n)))

bare_kind : (n : Node) → is_usual (kind_of n) ≡ true → kind_of (bare n) ≡ kind_of n
bare_kind n h = ap (λ (z : Node-F Node). z.kind) (bare_parts n h)

bare_children : (n : Node) → is_usual (kind_of n) ≡ true → children_of (bare n) ≡ map bare (children_of n)
bare_children n h = ap (λ (z : Node-F Node). z.children) (bare_parts n h)

-- ---- what goes, goes

kept_falls : (b keep : Bool) (c : Node) (cs : List Node) → is_value_where b c ≡ false → list_any (λ v. v) (map (is_value_where b) cs) ≡ false
    → list_any (λ v. v) (map (is_value_where b) (cond keep (c ∷ cs) cs)) ≡ false
kept_falls b true c cs h rest = rw h rest
kept_falls b false c cs h rest = rest

any_falls : (b : Bool) (cs : List Node) → AllNodes (Falls bare bare_kind bare_children) cs → list_any (λ v. v) (map (is_value_where b) cs) ≡ false
    → list_any (λ v. v) (map (is_value_where b) (filter stays (map bare cs))) ≡ false
any_falls b [] a h = refl
any_falls b (c ∷ cs) a h =
    let t = any_parts (is_value_where b c) (list_any (λ v. v) (map (is_value_where b) cs)) h in
    kept_falls b (stays (bare c)) (bare c) (filter stays (map bare cs)) (a.0 b t.0) (any_falls b cs a.1 t.1)

list_falls : (n : Node) → kind_of n ≡ kind.List → AllNodes (Falls bare bare_kind bare_children) (children_of n) → (b : Bool) → list_any (λ v. v) (map (is_value_where b) (children_of n)) ≡ false
    → is_value_where b (bare n) ≡ false
unfolding value_by
list_falls n is a b h =
    ap (is_value_where b) (bare-out n ∙ ap (λ k. bare_by (unsourced k) (map bare (children_of n)) (Layer (unsourced k) (map bare (children_of n)))) is)
    ∙ is_value_where-roll b dummy_span kind.List (filter stays (map bare (children_of n))) ∙ any_falls b (children_of n) a h

pub goes_bare : (n : Node) → stays n ≡ false → stays (bare n) ≡ false
goes_bare = goes_too bare bare_kind bare_children list_falls

-- ---- where no enum stays

pub listed_lack : (b : Bool) (n : Node) (ns : List Node) → (b ≡ true → Lacks n) → AllNodes Lacks ns → AllNodes Lacks (cond b (n ∷ ns) ns)
listed_lack true n ns h below = (h refl, below)
listed_lack false n ns h below = below

-- an item that stays in the bare tree stays
pub stays_from : (c : Node) (b : Bool) → stays c ≡ b → stays (bare c) ≡ true → stays c ≡ true
stays_from c true e h = e
stays_from c false e h = absurd (true≢false (sym h ∙ goes_bare c e))

pub usual_lacks : (k : Kind) (cs : List Node) → is_list k ≡ false → is_enum k ≡ false → AllNodes Lacks cs → Lacks (bare_by (unsourced k) cs (Layer (unsourced k) cs))
usual_lacks kind.List cs l here below = absurd (true≢false l)
usual_lacks kind.TsTypeAnn cs l here below = absent_lacks
usual_lacks kind.TsTypeParamDecl cs l here below = absent_lacks
usual_lacks kind.TsTypeParamInstantiation cs l here below = absent_lacks
usual_lacks kind.TsAsExpr (e ∷ type ∷ []) l here below = below.0
usual_lacks kind.TsTypeAssertion (e ∷ type ∷ []) l here below = below.0
usual_lacks kind.TsConstAssertion (e ∷ []) l here below = below.0
usual_lacks kind.TsNonNullExpr (e ∷ []) l here below = below.0
usual_lacks kind.TsInstantiation (e ∷ types ∷ []) l here below = below.0
usual_lacks kind.TsSatisfiesExpr (e ∷ type ∷ []) l here below = below.0
usual_lacks (kind.Str value raw) cs l here below = lacks_layer (Layer (kind.Str value None) cs) refl below
usual_lacks (kind.Number value raw) cs l here below = lacks_layer (Layer (kind.Number value None) cs) refl below
usual_lacks (kind.BigInt value raw) cs l here below = lacks_layer (Layer (kind.BigInt value None) cs) refl below
usual_lacks k cs l here below = lacks_layer (Layer k cs) (ap not here) below

list_kind : (k : Kind) → is_list k ≡ true → k ≡ kind.List
list_kind kind.List h = refl
list_kind _ h = absurd (true≢false (sym h))

-- what is true of a node, and of its children but for items that go, is true of no enum: then the bare tree has none
module _ (True : Node → Type 0) (no_enum : (n : Node) → True n → is_enum (kind_of n) ≡ false)
    (below : (n : Node) → True n → (i : ℕ) (c : Node) → slice_get (children_of n) i ≡ Some c → (is_list (kind_of n) ≡ true → stays c ≡ true) → True c) where
  abbrev LacksBare : Node → Type 0
  LacksBare n = True n → Lacks (bare n)

  all_listed : (cs : List Node) → AllNodes LacksBare cs → ((i : ℕ) (c : Node) → slice_get cs i ≡ Some c → stays c ≡ true → True c) → AllNodes Lacks (filter stays (map bare cs))
  all_listed [] each true_at = tt
  all_listed (c ∷ cs) each true_at =
      listed_lack (stays (bare c)) (bare c) (filter stays (map bare cs)) (λ h. each.0 (true_at 0 c refl (stays_from c (stays c) refl h))) (all_listed cs each.1 (λ i d at. true_at (suc i) d at))

  all_bare : (cs : List Node) → AllNodes LacksBare cs → ((i : ℕ) (c : Node) → slice_get cs i ≡ Some c → True c) → AllNodes Lacks (map bare cs)
  all_bare [] each true_at = tt
  all_bare (c ∷ cs) each true_at = (each.0 (true_at 0 c refl), all_bare cs each.1 (λ i d at. true_at (suc i) d at))

  listed : (n : Node) → True n → AllNodes LacksBare (children_of n) → is_list (kind_of n) ≡ true → Lacks (bare n)
  listed n h each l =
      subst Lacks (sym (bare-out n ∙ ap (λ k. bare_by (unsourced k) (map bare (children_of n)) (Layer (unsourced k) (map bare (children_of n)))) (list_kind (kind_of n) l)))
      (lacks_layer (Layer kind.List (filter stays (map bare (children_of n)))) refl (all_listed (children_of n) each (λ i c at st. below n h i c at (λ e. st))))

  usual : (n : Node) → True n → AllNodes LacksBare (children_of n) → is_list (kind_of n) ≡ false → Lacks (bare n)
  usual n h each l =
      subst Lacks (sym (bare-out n))
      (usual_lacks (kind_of n) (map bare (children_of n)) l (no_enum n h) (all_bare (children_of n) each (λ i c at. below n h i c at (λ e. absurd (true≢false (sym e ∙ l))))))

  by : (n : Node) → True n → AllNodes LacksBare (children_of n) → (b : Bool) → is_list (kind_of n) ≡ b → Lacks (bare n)
  by n h each true l = listed n h each l
  by n h each false l = usual n h each l

  pub bare_lacks_enums : (n : Node) → LacksBare n
  bare_lacks_enums = by_children LacksBare (λ n each h. by n h each (is_list (kind_of n)) refl)
