-- A test of nodes and of what stands around them, that no node fails, no node fails with other texts.
use Rattle.std.proofs.Common.{◌≡◌, ◌∙◌, ℕ, suc, Bool, true, false, ◌==◌, cond, List, [], ◌∷◌, map, length, Option, Some, None, bytes_eq, refl, sym, ap, ap₂, slice_get, subst}
use Rattle.std.proofs.lemmas.Bool.{false≢true}
use Rattle.ecma_kind.specs.Sorts.{belongs}
use Rattle.ecma_kind.specs.declared.kind.Kind.{Kind}
use Rattle.ecma_kind.specs.declared.kind.Kind.TheVariants as kind
use Rattle.ecma_kind.specs.declared.shapes.Shape.{Shape}
use Rattle.ecma_kind.specs.declared.shapes.Sort.TheVariants as sort
use Rattle.ecma_kind.specs.declared.span.Span.{Span}
use Rattle.ecma_tree.specs.declared.node.Node.{Node, out-Node}
use Rattle.ecma_tree.specs.Laws.{HaveShapes}
use Rattle.ecma_tree.specs.Nodes.{node_of}
use Rattle.ecma_tree.specs.Sorted.{HasShape, HasSort, child_shapes, one}
use Rattle.ecma_tree.proofs.Layers.{from_leaves_out}
use Rattle.ecma_rules.specs.Children.{child_is, kind_of, of_kind}
use Rattle.ecma_rules.specs.Failing.{failing_here, failing_step, first_failing, least, least_from}
use Rattle.ecma_rules.specs.Members.{is_binding_name}
use Rattle.ecma_scope.specs.Resolved.{is_name}
use Rattle.ecma_hygiene.specs.declared.spot.Spot.{Spot}
use Rattle.ecma_hygiene.specs.declared.spot.Spot.TheVariants as spot
use Rattle.ecma_hygiene.specs.declared.spot.Standing.{Standing}
use Rattle.ecma_hygiene.specs.Renamed.{Texts, at_root, key_of, kind_is_absent, kind_with_text, name_of, old_name, property_key, proto, proto_in_brackets, proto_literal, renamed, shared_by, shorthand, spot_in, standing_in, text_of, two_names, with_default}
use Rattle.ecma_hygiene_scopes.proofs.Growing.{OldName, grown, grown_pattern}
use Rattle.ecma_hygiene_scopes.proofs.Parts.{children-of, kind-of}
use Rattle.ecma_hygiene_fits.proofs.Becoming.{all_become, become, become-out, children_become, children_stay, is_touched, kind_stays, old_of}
use Rattle.ecma_hygiene_fits.proofs.Everywhere.{Each, children_of, everywhere}
use Rattle.ecma_hygiene_fits.proofs.Walk.{neither_least, not_failing, shape_parts}

-- what is touched, and what is put in beside it
unfoldable pub is_known : Kind → Bool
is_known (kind.Ident sym ctxt optional) = true
is_known kind.KeyValueProp = true
is_known kind.AssignPatProp = true
is_known kind.KeyValuePatProp = true
is_known (kind.ImportNamedSpecifier is_type_only) = true
is_known (kind.ExportNamedSpecifier is_type_only) = true
is_known (kind.IdentName sym) = true
is_known kind.ComputedPropName = true
is_known kind.AssignPat = true
is_known _ = false

pub touched_known : (k : Kind) → is_touched k ≡ true → is_known k ≡ true
unfolding is_touched is_known
touched_known (kind.Ident text ctxt optional) t = refl
touched_known kind.KeyValueProp t = refl
touched_known kind.AssignPatProp t = refl
touched_known kind.KeyValuePatProp t = refl
touched_known (kind.ImportNamedSpecifier is_type_only) t = refl
touched_known (kind.ExportNamedSpecifier is_type_only) t = refl
touched_known _ t = absurd (false≢true t)

-- a default that is put in stands behind a name
abbrev pub defaults_name : Kind → Node → Bool
defaults_name kind.AssignPat n = child_is is_binding_name n 0
defaults_name _ n = true

touched_defaults : (k : Kind) (n : Node) → is_touched k ≡ true → defaults_name k n ≡ true
unfolding is_touched
touched_defaults kind.AssignPat n t = absurd (false≢true t)
touched_defaults _ n t = refl

only_bound : (k : Kind) → belongs sort.BindingIdent k ≡ true → (k ≡ kind.BindingIdent) × (is_touched k ≡ false)
unfolding is_touched
only_bound kind.BindingIdent b = (refl, refl)
only_bound _ b = absurd (false≢true b)

module _ (texts : Texts) (A : Type 0) (inside : A → Node → ℕ → A) (fails : A → Node → Bool) (at : A → Kind → ℕ → A) (by : A → Kind → Bool) (Fine : A → Type 0) where
  abbrev pub place : A → Node → Option ℕ
  place a n = failing_here (fails a n) n

  abbrev pub first : Node → A → Option ℕ
  first = first_failing A place inside

  -- a node is tested alike in both, and has the same around its children
  abbrev pub Alike : A → A → Node → Type 0
  Alike b a n = (fails b n ≡ fails a n) × ((i : ℕ) → inside b n i ≡ inside a n i)

  -- what the test and what stands around have to do
  pub record Carries : Type 0 where
    -- what is known is tested by its kind, which says what stands around its children
    pub tested : (a : A) (n : Node) → is_known (kind_of n) ≡ true → defaults_name (kind_of n) n ≡ true → fails a n ≡ by a (kind_of n)
    pub around : (a : A) (n : Node) → is_known (kind_of n) ≡ true → (i : ℕ) → inside a n i ≡ at a (kind_of n) i
    -- what is not touched passes with other texts, and has the same around its children
    pub stays : (n : Node) (s : Shape) (a : A) (stands : Standing) → HasShape s n → is_touched (kind_of n) ≡ false → first n a ≡ None → fails a (become texts n stands) ≡ false
    pub keeps : (n : Node) (s : Shape) (a : A) (stands : Standing) → HasShape s n → is_touched (kind_of n) ≡ false → (i : ℕ) → inside a (become texts n stands) i ≡ inside a n i
    -- an identifier passes with its text
    pub text : (a : A) (sym : List ℕ) (ctxt : ℕ) (optional : Bool) → by a (kind.Ident sym ctxt optional) ≡ false → by a (kind.Ident (text_of texts (sym, ctxt)) ctxt optional) ≡ false
    -- a shorthand passes written out
    pub properties : (a : A) (n : Node) (i : ℕ) → kind_of n ≡ kind.ObjectLit → Fine (inside a n i)
    pub property : (a : A) (n : Node) (i : ℕ) → kind_of n ≡ kind.List → Fine a → Fine (inside a n i)
    pub written : (a : A) → Fine a → by a kind.KeyValueProp ≡ false
    pub value : (a : A) (sym : List ℕ) (ctxt : ℕ) (optional : Bool) → Fine a → by a (kind.Ident sym ctxt optional) ≡ false → by (at a kind.KeyValueProp 1) (kind.Ident sym ctxt optional) ≡ false
    pub keys : (a : A) (sym : List ℕ) → (by (at a kind.KeyValueProp 0) (kind.IdentName sym) ≡ false) × (by (at a kind.KeyValuePatProp 0) (kind.IdentName sym) ≡ false)
    pub brackets : (a : A) → by (at a kind.KeyValueProp 0) kind.ComputedPropName ≡ false
    pub quoted : (a : A) (n : Node) → kind_of n ≡ proto_literal → fails (at (at a kind.KeyValueProp 0) kind.ComputedPropName 0) n ≡ false
    -- a shorthand pattern passes written out
    pub pattern : (a : A) → by a kind.AssignPatProp ≡ false → by a kind.KeyValuePatProp ≡ false
    pub default : (a : A) → by (at a kind.KeyValuePatProp 1) kind.AssignPat ≡ false
    pub defaulted : (a : A) → at (at a kind.KeyValuePatProp 1) kind.AssignPat 1 ≡ at a kind.AssignPatProp 1
    pub bound : (a : A) (p : Node) → kind_of p ≡ kind.BindingIdent → Alike (at a kind.KeyValuePatProp 1) (at a kind.AssignPatProp 0) p × Alike (at (at a kind.KeyValuePatProp 1) kind.AssignPat 0) (at a kind.AssignPatProp 0) p
    -- a specifier passes with a second name
    pub names : (a : A) (sym : List ℕ) (is_type_only : Bool)
        → (by (at a (kind.ImportNamedSpecifier is_type_only) 1) (kind.Ident sym 0 false) ≡ false) × (by (at a (kind.ExportNamedSpecifier is_type_only) 1) (kind.Ident sym 0 false) ≡ false)

  pub first-out : (n : Node) (a : A) → first n a ≡ least (place a n) (least_from A (inside a n) 0 (map first (children_of n)))
  first-out n a = ap (λ f. f a) (from_leaves_out (A → Option ℕ) (failing_step A place inside) n)

  -- each of these passes, of which the first is the one at i
  abbrev pub AllPass : (ℕ → A) → ℕ → List Node → Type 0
  AllPass around i [] = Unit {0}
  AllPass around i (c ∷ cs) = (first c (around i) ≡ None) × AllPass around (suc i) cs

  none_from : (around : ℕ → A) (i : ℕ) (cs : List Node) → AllPass around i cs → least_from A around i (map first cs) ≡ None
  none_from around i [] h = refl
  none_from around i (c ∷ cs) h = ap₂ least h.0 (none_from around (suc i) cs h.1)

  each_from : (around : ℕ → A) (i : ℕ) (cs : List Node) → least_from A around i (map first cs) ≡ None → AllPass around i cs
  each_from around i [] h = tt
  each_from around i (c ∷ cs) h = let t = neither_least (first c (around i)) (least_from A around (suc i) (map first cs)) h in (t.0, each_from around (suc i) cs t.1)

  pass_alike : (around other : ℕ → A) → ((i : ℕ) → other i ≡ around i) → (i : ℕ) (cs : List Node) → AllPass around i cs → AllPass other i cs
  pass_alike around other same i [] h = tt
  pass_alike around other same i (c ∷ cs) h = (ap (first c) (same i) ∙ h.0, pass_alike around other same (suc i) cs h.1)

  -- a node that passes, and its children
  pub parts_pass : (n : Node) (a : A) → first n a ≡ None → (fails a n ≡ false) × AllPass (inside a n) 0 (children_of n)
  parts_pass n a h =
      let t = neither_least (place a n) (least_from A (inside a n) 0 (map first (children_of n))) (sym (first-out n a) ∙ h) in
      (not_failing (fails a n) n t.0, each_from (inside a n) 0 (children_of n) t.1)

  passes : (n : Node) (a : A) → fails a n ≡ false → AllPass (inside a n) 0 (children_of n) → first n a ≡ None
  passes n a h below = first-out n a ∙ ap₂ least (ap (λ b. failing_here b n) h) (none_from (inside a n) 0 (children_of n) below)

  abbrev Placed : Spot → A → Type 0
  Placed spot.Elsewhere a = Unit {0}
  Placed spot.Properties a = Fine a
  Placed spot.Property a = Fine a

  -- an identifier that is written out is a property
  abbrev Ready : Kind → Option OldName → A → Type 0
  Ready (kind.Ident sym ctxt optional) (Some old) a = Fine a
  Ready _ o a = Unit {0}

  ready_option : (o : Option OldName) (sym : List ℕ) (ctxt : ℕ) (optional : Bool) (a : A) → Fine a → Ready (kind.Ident sym ctxt optional) o a
  ready_option None sym ctxt optional a p = tt
  ready_option (Some old) sym ctxt optional a p = p

  ready_at : (seat : Spot) (n : Node) (sym : List ℕ) (ctxt : ℕ) (optional : Bool) (a : A) → Placed seat a → Ready (kind.Ident sym ctxt optional) (old_name texts (shorthand seat n)) a
  ready_at spot.Elsewhere n sym ctxt optional a p = tt
  ready_at spot.Properties n sym ctxt optional a p = tt
  ready_at spot.Property n sym ctxt optional a p = ready_option (old_name texts (Some n)) sym ctxt optional a p

  ready_by : (k : Kind) (n : Node) (stands : Standing) (a : A) → Placed stands.spot a → Ready k (old_name texts (shared_by stands k n)) a
  unfolding shared_by
  ready_by (kind.Ident sym_ ctxt optional) n stands a p = ready_at stands.spot n sym_ ctxt optional a p
  ready_by _ n stands a p = tt

  module _ (carries : Carries) where
    of_known : (span : Span) (k : Kind) (cs : List Node) (a : A) → is_known k ≡ true → defaults_name k (node_of span k cs) ≡ true → by a k ≡ false → AllPass (at a k) 0 cs
        → first (node_of span k cs) a ≡ None
    of_known span k cs a known named h below =
        let n = node_of span k cs in
        let is : kind_of n ≡ k = kind-of span k cs in
        let here : is_known (kind_of n) ≡ true = ap is_known is ∙ known in
        passes n a (carries.tested a n here (ap (λ z. defaults_name z n) is ∙ named) ∙ (ap (by a) is ∙ h))
        (pass_alike (at a k) (inside a n) (λ i. carries.around a n here i ∙ ap (λ z. at a z i) is) 0 (children_of n) (subst (AllPass (at a k) 0) (sym (children-of span k cs)) below))

    key_passes : (old : OldName) (a : A) → by a (kind.IdentName old.text) ≡ false → first (key_of old) a ≡ None
    unfolding is_known
    key_passes old a h = of_known old.span (kind.IdentName old.text) [] a refl refl h tt

    text_passes : (span : Span) (a : A) → first (node_of span proto_literal []) (at (at a kind.KeyValueProp 0) kind.ComputedPropName 0) ≡ None
    text_passes span a =
        let n = node_of span proto_literal [] in
        let inner = at (at a kind.KeyValueProp 0) kind.ComputedPropName 0 in
        passes n inner (carries.quoted a n (kind-of span proto_literal []))
        (subst (AllPass (inside inner n) 0) (sym (children-of span proto_literal [])) tt)

    property_key_passes : (old : OldName) (a : A) → first (property_key old) (at a kind.KeyValueProp 0) ≡ None
    unfolding is_known
    property_key_passes old a = go (bytes_eq old.text proto)
      where
        go : (b : Bool) → first (cond b (proto_in_brackets old.span) (key_of old)) (at a kind.KeyValueProp 0) ≡ None
        go true =
            of_known old.span kind.ComputedPropName (node_of old.span proto_literal [] ∷ []) (at a kind.KeyValueProp 0) refl refl (carries.brackets a)
            (text_passes old.span a, tt)
        go false = key_passes old (at a kind.KeyValueProp 0) (carries.keys a old.text).0

    name_passes : (old : OldName) (a : A) → by a (kind.Ident old.text 0 false) ≡ false → first (name_of old) a ≡ None
    unfolding is_known
    name_passes old a h = of_known old.span (kind.Ident old.text 0 false) [] a refl refl h tt

    names_pass : (old : OldName) (around : ℕ → A) (cs : List Node) → by (around 1) (kind.Ident old.text 0 false) ≡ false → AllPass around 0 cs → AllPass around 0 (two_names old cs)
    names_pass old around [] h e = e
    names_pass old around (b ∷ []) h e = e
    names_pass old around (b ∷ c ∷ []) h e = (e.0, (name_passes old (around 1) h, tt))
    names_pass old around (b ∷ c ∷ d ∷ cs) h e = e

    alike_passes : (b a : A) (p : Node) → Alike b a p → first p a ≡ None → first p b ≡ None
    alike_passes b a p alike h =
        let t = parts_pass p a h in
        passes p b (alike.0 ∙ t.0) (pass_alike (inside a p) (inside b p) alike.1 0 (children_of p) t.1)

    default_passes : (span : Span) (a : A) (p v : Node) → kind_of p ≡ kind.BindingIdent → first p (at a kind.AssignPatProp 0) ≡ None → first v (at a kind.AssignPatProp 1) ≡ None
        → first (with_default span p v) (at a kind.KeyValuePatProp 1) ≡ None
    unfolding is_known
    default_passes span a p v bound h g = go (kind_is_absent v)
      where
        go : (gone : Bool) → first (cond gone p (node_of span kind.AssignPat (p ∷ v ∷ []))) (at a kind.KeyValuePatProp 1) ≡ None
        go true = alike_passes (at a kind.KeyValuePatProp 1) (at a kind.AssignPatProp 0) p (carries.bound a p bound).0 h
        go false =
            of_known span kind.AssignPat (p ∷ v ∷ []) (at a kind.KeyValuePatProp 1) refl
            (ap (λ (z : List Node). of_kind is_binding_name (slice_get z 0)) (children-of span kind.AssignPat (p ∷ v ∷ [])) ∙ ap is_binding_name bound) (carries.default a)
            (alike_passes (at (at a kind.KeyValuePatProp 1) kind.AssignPat 0) (at a kind.AssignPatProp 0) p (carries.bound a p bound).1 h, (ap (first v) (carries.defaulted a) ∙ g, tt))

    ident_passes : (o : Option OldName) (span : Span) (a : A) (sym : List ℕ) (ctxt : ℕ) (optional : Bool) → by a (kind.Ident sym ctxt optional) ≡ false → Ready (kind.Ident sym ctxt optional) o a
        → first (grown o span (kind.Ident sym ctxt optional) []) a ≡ None
    unfolding is_known
    ident_passes None span a text ctxt optional h ready = of_known span (kind.Ident text ctxt optional) [] a refl refl h tt
    ident_passes (Some old) span a text ctxt optional h ready =
        of_known span kind.KeyValueProp (property_key old ∷ node_of span (kind.Ident text ctxt optional) [] ∷ []) a refl refl (carries.written a ready) (
          property_key_passes old a,
          (of_known span (kind.Ident text ctxt optional) [] (at a kind.KeyValueProp 1) refl refl (carries.value a text ctxt optional ready h) tt, tt),
        )

    module _ (stands : ℕ → Standing) (span : Span) (s : Shape) (a : A) where
      abbrev Becomes : List Node → List Node
      Becomes ds = all_become texts stands 0 ds

      pattern_passes : (old : OldName) (m : ℕ) (ds : List Node) → HaveShapes (child_shapes kind.AssignPatProp s m) ds → by a kind.AssignPatProp ≡ false → AllPass (at a kind.AssignPatProp) 0 (Becomes ds)
          → first (grown_pattern old span (Becomes ds)) a ≡ None
      unfolding is_known
      pattern_passes old m [] has h below = absurd has
      pattern_passes old m (c ∷ []) has h below = absurd has.1
      pattern_passes old m (c ∷ d ∷ []) has h below =
          let t = only_bound (kind_of c) (shape_parts c (one sort.BindingIdent) has.0).0 in
          of_known span kind.KeyValuePatProp (key_of old ∷ with_default span (become texts c (stands 0)) (become texts d (stands 1)) ∷ []) a refl refl (carries.pattern a h) (
            key_passes old (at a kind.KeyValuePatProp 0) (carries.keys a old.text).1,
            (default_passes span a (become texts c (stands 0)) (become texts d (stands 1)) (kind_stays texts c (stands 0) t.1 ∙ t.0) below.0 below.1.0, tt),
          )
      pattern_passes old m (c ∷ d ∷ e ∷ ds) has h below = absurd has.1.1

      touched_passes : (o : Option OldName) (k : Kind) (m : ℕ) (ds : List Node) → is_touched k ≡ true → HaveShapes (child_shapes k s m) ds → by a k ≡ false → Ready k o a → AllPass (at a k) 0 (Becomes ds)
          → first (grown o span k (Becomes ds)) a ≡ None
      unfolding is_touched is_known
      touched_passes o (kind.Ident text ctxt optional) m [] t has h ready below = ident_passes o span a text ctxt optional h ready
      touched_passes o (kind.Ident text ctxt optional) m (d ∷ ds) t has h ready below = absurd has
      touched_passes None k m ds t has h ready below = of_known span k (Becomes ds) a (touched_known k t) (touched_defaults k (node_of span k (Becomes ds)) t) h below
      touched_passes (Some old) (kind.ImportNamedSpecifier is_type_only) m ds t has h ready below =
          of_known span (kind.ImportNamedSpecifier is_type_only) (two_names old (Becomes ds)) a refl refl h
          (names_pass old (at a (kind.ImportNamedSpecifier is_type_only)) (Becomes ds) (carries.names a old.text is_type_only).0 below)
      touched_passes (Some old) (kind.ExportNamedSpecifier is_type_only) m ds t has h ready below =
          of_known span (kind.ExportNamedSpecifier is_type_only) (two_names old (Becomes ds)) a refl refl h
          (names_pass old (at a (kind.ExportNamedSpecifier is_type_only)) (Becomes ds) (carries.names a old.text is_type_only).1 below)
      touched_passes (Some old) kind.AssignPatProp m ds t has h ready below = pattern_passes old m ds has h below
      touched_passes (Some old) kind.KeyValueProp m ds t has h ready below = of_known span kind.KeyValueProp (Becomes ds) a refl refl h below
      touched_passes (Some old) kind.KeyValuePatProp m ds t has h ready below = of_known span kind.KeyValuePatProp (Becomes ds) a refl refl h below
      touched_passes (Some old) _ m ds t has h ready below = absurd (false≢true t)

      grown_passes : (o : Option OldName) (named : Bool) (k : Kind) (m : ℕ) (ds : List Node) → is_touched k ≡ true → HaveShapes (child_shapes k s m) ds → by a k ≡ false → Ready k o a → AllPass (at a k) 0 (Becomes ds)
          → first (grown o span (kind_with_text texts named k) (Becomes ds)) a ≡ None
      grown_passes o true k m ds t has h ready below = touched_passes o k m ds t has h ready below
      grown_passes o false (kind.Ident text ctxt optional) m [] t has h ready below = ident_passes o span a (text_of texts (text, ctxt)) ctxt optional (carries.text a text ctxt optional h) (same_ready o ready)
        where
          same_ready : (o : Option OldName) → Ready (kind.Ident text ctxt optional) o a → Ready (kind.Ident (text_of texts (text, ctxt)) ctxt optional) o a
          same_ready None r = r
          same_ready (Some old) r = r
      grown_passes o false (kind.Ident text ctxt optional) m (d ∷ ds) t has h ready below = absurd has
      grown_passes o false k m ds t has h ready below = touched_passes o k m ds t has h ready below

    -- what is shown of each node
    abbrev Kept : Node → Type 0
    Kept n = (s : Shape) → HasShape s n → (a : A) → first n a ≡ None → (stands : Standing) → Placed stands.spot a → first (become texts n stands) a ≡ None

    children_kept : (os : List Shape) (cs : List Node) → HaveShapes os cs → Each Kept cs → (around : ℕ → A) (i : ℕ) → AllPass around i cs → (stands : ℕ → Standing) → ((j : ℕ) → Placed (stands j).spot (around j))
        → AllPass around i (all_become texts stands i cs)
    children_kept os [] has e around i h stands p = tt
    children_kept [] (c ∷ cs) has e around i h stands p = absurd has
    children_kept (o ∷ os) (c ∷ cs) has e around i h stands p = (e.0 o has.0 (around i) h.0 (stands i) (p i), children_kept os cs has.1 e.1 around (suc i) h.1 stands p)

    placed_in_object : (a : A) (b : Bool) → Fine a → Placed (cond b spot.Properties spot.Elsewhere) a
    placed_in_object a true p = p
    placed_in_object a false p = tt

    placed_below : (n : Node) (a : A) (seat : Spot) (k : Kind) → kind_of n ≡ k → Placed seat a → (j : ℕ) → Placed (spot_in seat k j) (inside a n j)
    placed_below n a spot.Properties kind.List is p j = carries.property a n j is p
    placed_below n a spot.Properties kind.ObjectLit is p j = placed_in_object (inside a n j) (j == 0) (carries.properties a n j is)
    placed_below n a spot.Properties k is p j = tt
    placed_below n a spot.Property kind.ObjectLit is p j = placed_in_object (inside a n j) (j == 0) (carries.properties a n j is)
    placed_below n a spot.Property k is p j = tt
    placed_below n a spot.Elsewhere kind.ObjectLit is p j = placed_in_object (inside a n j) (j == 0) (carries.properties a n j is)
    placed_below n a spot.Elsewhere k is p j = tt

    node_kept : (n : Node) → Each Kept (children_of n) → Kept n
    node_kept n below s has a h stands p = go (is_touched (kind_of n)) refl
      where
        told : (fails a n ≡ false) × AllPass (inside a n) 0 (children_of n)
        told = parts_pass n a h

        each : AllPass (inside a n) 0 (children_become texts n stands)
        each =
            children_kept (child_shapes (kind_of n) s (length (children_of n))) (children_of n) (shape_parts n s has).1 below (inside a n) 0 told.1 (standing_in stands n)
            (placed_below n a stands.spot (kind_of n) refl p)

        go : (t : Bool) → is_touched (kind_of n) ≡ t → first (become texts n stands) a ≡ None
        go true t =
            let known = touched_known (kind_of n) t in
            ap (λ m. first m a) (become-out texts n stands)
            ∙ grown_passes (standing_in stands n) (out-Node n).span s a (old_of texts n stands) (is_name stands.role) (kind_of n) (length (children_of n)) (children_of n) t (shape_parts n s has).1
            (sym (carries.tested a n known (touched_defaults (kind_of n) n t)) ∙ told.0) (ready_by (kind_of n) n stands a p)
            (pass_alike (inside a n) (at a (kind_of n)) (λ i. sym (carries.around a n known i)) 0 (children_become texts n stands) each)
        go false u =
            passes (become texts n stands) a (carries.stays n s a stands has u h)
            (pass_alike (inside a n) (inside a (become texts n stands)) (λ i. carries.keeps n s a stands has u i) 0 (children_of (become texts n stands))
            (subst (AllPass (inside a n) 0) (sym (children_stay texts n stands u)) each))

    pub carried : (tree : Node) → HasSort sort.Module tree → (a : A) → first tree a ≡ None → first (renamed texts tree) a ≡ None
    carried tree sorted a h = everywhere Kept node_kept tree (one sort.Module) sorted a h at_root tt
