-- What becomes of a node with other texts: an identifier, a shorthand or a specifier is one again, or is written out; all else stays but for its children.
use Rattle.std.proofs.Common.{◌≡◌, ◌∙◌, ℕ, zero, suc, Bool, true, false, List, [], ◌∷◌, map, Option, Some, None, refl, sym, ap, ap₂, slice_get}
use Rattle.ecma_kind.specs.declared.kind.Kind.{Kind}
use Rattle.ecma_kind.specs.declared.kind.Kind.TheVariants as kind
use Rattle.ecma_kind.specs.declared.span.Span.{Span}
use Rattle.ecma_tree.specs.declared.node.Node.{Node, out-Node}
use Rattle.ecma_tree.specs.Nodes.{node_of}
use Rattle.ecma_tree.proofs.Layers.{from_leaves_out}
use Rattle.ecma_rules.specs.Children.{child_holds, child_is, holds_of, is_present, kind_of, of_kind}
use Rattle.ecma_fits.specs.Roles.{is_name as is_identifier}
use Rattle.ecma_scope.specs.Resolved.{is_name}
use Rattle.ecma_hygiene.specs.declared.spot.Standing.{Standing}
use Rattle.ecma_hygiene.specs.Renamed.{Texts, kind_with_text, old_name, renamed_at, renamed_step, shared_by, shared_name, standing_in, written_from}
use Rattle.ecma_hygiene_scopes.proofs.Growing.{OldName, expanded-of, grown, grown_pattern}
use Rattle.ecma_hygiene_scopes.proofs.Parts.{children-of, kind-of}
use Rattle.ecma_hygiene_fits.proofs.Everywhere.{Each, children_of, everywhere}

-- what may get another text, or be written out, and what that is then
unfoldable pub is_touched : Kind → Bool
is_touched (kind.Ident sym ctxt optional) = true
is_touched kind.KeyValueProp = true
is_touched kind.AssignPatProp = true
is_touched kind.KeyValuePatProp = true
is_touched (kind.ImportNamedSpecifier is_type_only) = true
is_touched (kind.ExportNamedSpecifier is_type_only) = true
is_touched _ = false

-- what may get another text, or be written out
unfoldable pub is_changed : Kind → Bool
is_changed (kind.Ident sym ctxt optional) = true
is_changed kind.AssignPatProp = true
is_changed (kind.ImportNamedSpecifier is_type_only) = true
is_changed (kind.ExportNamedSpecifier is_type_only) = true
is_changed _ = false

-- says nothing of what is touched
abbrev pub Quiet : Bool → (Kind → Bool) → Type 0
Quiet b is = (k : Kind) → is_touched k ≡ true → is k ≡ b

abbrev pub Silent : (Kind → Node → Bool) → Type 0
Silent fails = (k : Kind) (n : Node) → is_touched k ≡ true → fails k n ≡ false

pub present_quiet : Quiet true is_present
unfolding is_touched
present_quiet kind.Absent t = cc
present_quiet _ t = refl

pub untouched_unchanged : (k : Kind) → is_touched k ≡ false → is_changed k ≡ false
unfolding is_touched is_changed
untouched_unchanged (kind.Ident sym_ ctxt optional) u = cc
untouched_unchanged kind.AssignPatProp u = cc
untouched_unchanged (kind.ImportNamedSpecifier is_type_only) u = cc
untouched_unchanged (kind.ExportNamedSpecifier is_type_only) u = cc
untouched_unchanged _ u = refl

unchanged_shared : (k : Kind) (stands : Standing) (n : Node) → is_changed k ≡ false → shared_by stands k n ≡ None
unfolding is_changed shared_by
unchanged_shared (kind.Ident sym_ ctxt optional) stands n u = cc
unchanged_shared kind.AssignPatProp stands n u = cc
unchanged_shared (kind.ImportNamedSpecifier is_type_only) stands n u = cc
unchanged_shared (kind.ExportNamedSpecifier is_type_only) stands n u = cc
unchanged_shared _ stands n u = refl

-- what says the same of a property of a pattern as of a shorthand one, and of a name as of a property, says the same of what is written out
pub grown_same : (is : Kind → Bool) → is kind.KeyValuePatProp ≡ is kind.AssignPatProp → (o : Option OldName) (span : Span) (k : Kind) (cs : List Node) → (is_identifier k ≡ true → is kind.KeyValueProp ≡ is k)
    → is (kind_of (grown o span k cs)) ≡ is k
grown_same is pattern None span k cs name = ap is (kind-of span k cs)
grown_same is pattern (Some old) span (kind.Ident text ctxt optional) cs name = ap is (kind-of span kind.KeyValueProp _) ∙ name refl
grown_same is pattern (Some old) span kind.AssignPatProp cs name = by cs
  where
    by : (cs : List Node) → is (kind_of (grown_pattern old span cs)) ≡ is kind.AssignPatProp
    by [] = ap is (kind-of span kind.AssignPatProp [])
    by (a ∷ []) = ap is (kind-of span kind.AssignPatProp (a ∷ []))
    by (a ∷ b ∷ []) = ap is (kind-of span kind.KeyValuePatProp _) ∙ pattern
    by (a ∷ b ∷ c ∷ cs) = ap is (kind-of span kind.AssignPatProp (a ∷ b ∷ c ∷ cs))
grown_same is pattern (Some old) span (kind.ImportNamedSpecifier is_type_only) cs name = ap is (kind-of span (kind.ImportNamedSpecifier is_type_only) _)
grown_same is pattern (Some old) span (kind.ExportNamedSpecifier is_type_only) cs name = ap is (kind-of span (kind.ExportNamedSpecifier is_type_only) _)
grown_same is pattern (Some old) span k cs name = ap is (kind-of span k cs)

grown_touched : (o : Option OldName) (span : Span) (k : Kind) (cs : List Node) → is_touched k ≡ true → is_touched (kind_of (grown o span k cs)) ≡ true
unfolding is_touched
grown_touched o span k cs t = grown_same is_touched refl o span k cs (λ is. sym t) ∙ t

module _ (texts : Texts) where
  abbrev pub become : Node → Standing → Node
  become n stands = renamed_at texts n stands

  -- the children, of which the first is the one at i
  abbrev pub all_become : (ℕ → Standing) → ℕ → List Node → List Node
  all_become stands i [] = []
  all_become stands i (c ∷ cs) = become c (stands i) ∷ all_become stands (suc i) cs

  abbrev pub old_of : Node → Standing → Option OldName
  old_of n stands = old_name texts (shared_name stands n)

  abbrev pub own_kind : Node → Standing → Kind
  own_kind n stands = kind_with_text texts (is_name stands.role) (kind_of n)

  abbrev pub children_become : Node → Standing → List Node
  children_become n stands = all_become (standing_in stands n) 0 (children_of n)

  written_all : (stands : ℕ → Standing) (i : ℕ) (cs : List Node) → written_from stands i (map (renamed_at texts) cs) ≡ all_become stands i cs
  written_all stands i [] = refl
  written_all stands i (c ∷ cs) = ap (λ (zs : List Node). become c (stands i) ∷ zs) (written_all stands (suc i) cs)

  pub become-out : (n : Node) (stands : Standing) → become n stands ≡ grown (old_of n stands) (out-Node n).span (own_kind n stands) (children_become n stands)
  become-out n stands =
      ap (λ f. f stands) (from_leaves_out (Standing → Node) (renamed_step texts) n)
      ∙ expanded-of (old_of n stands) (out-Node n).span (own_kind n stands) (written_from (standing_in stands n) 0 (map (renamed_at texts) (children_of n)))
      ∙ ap (λ (zs : List Node). grown (old_of n stands) (out-Node n).span (own_kind n stands) zs) (written_all (standing_in stands n) 0 (children_of n))

  unchanged_kind : (named : Bool) (k : Kind) → is_changed k ≡ false → kind_with_text texts named k ≡ k
  unfolding is_changed
  unchanged_kind true k u = refl
  unchanged_kind false (kind.Ident sym_ ctxt optional) u = cc
  unchanged_kind false _ u = refl

  pub text_touched : (named : Bool) (k : Kind) → is_touched k ≡ true → is_touched (kind_with_text texts named k) ≡ true
  unfolding is_touched
  text_touched true k t = t
  text_touched false (kind.Ident sym_ ctxt optional) t = refl
  text_touched false _ t = t

  -- what is not changed stays but for its children
  unchanged : (n : Node) (stands : Standing) → is_changed (kind_of n) ≡ false → become n stands ≡ node_of (out-Node n).span (kind_of n) (children_become n stands)
  unchanged n stands u =
      become-out n stands
      ∙ ap₂ (λ o k. grown (old_name texts o) (out-Node n).span k (children_become n stands)) (unchanged_shared (kind_of n) stands n u) (unchanged_kind (is_name stands.role) (kind_of n) u)

  pub kind_unchanged : (n : Node) (stands : Standing) → is_changed (kind_of n) ≡ false → kind_of (become n stands) ≡ kind_of n
  kind_unchanged n stands u = ap kind_of (unchanged n stands u) ∙ kind-of (out-Node n).span (kind_of n) (children_become n stands)

  pub children_unchanged : (n : Node) (stands : Standing) → is_changed (kind_of n) ≡ false → children_of (become n stands) ≡ children_become n stands
  children_unchanged n stands u = ap children_of (unchanged n stands u) ∙ children-of (out-Node n).span (kind_of n) (children_become n stands)

  pub kind_stays : (n : Node) (stands : Standing) → is_touched (kind_of n) ≡ false → kind_of (become n stands) ≡ kind_of n
  kind_stays n stands u = kind_unchanged n stands (untouched_unchanged (kind_of n) u)

  pub children_stay : (n : Node) (stands : Standing) → is_touched (kind_of n) ≡ false → children_of (become n stands) ≡ children_become n stands
  children_stay n stands u = children_unchanged n stands (untouched_unchanged (kind_of n) u)

  pub stays_touched : (n : Node) (stands : Standing) → is_touched (kind_of n) ≡ true → is_touched (kind_of (become n stands)) ≡ true
  stays_touched n stands t =
      ap (λ m. is_touched (kind_of m)) (become-out n stands)
      ∙ grown_touched (old_of n stands) (out-Node n).span (own_kind n stands) (children_become n stands) (text_touched (is_name stands.role) (kind_of n) t)

  -- ---- what is said of kinds, and says one thing of all that is touched

  module _ (is : Kind → Bool) (b : Bool) (alike : (k : Kind) → is_touched k ≡ true → is k ≡ b) where
    pub kind_same : (n : Node) (stands : Standing) → is (kind_of (become n stands)) ≡ is (kind_of n)
    kind_same n stands = by (is_touched (kind_of n)) refl
      where
        by : (t : Bool) → is_touched (kind_of n) ≡ t → is (kind_of (become n stands)) ≡ is (kind_of n)
        by true t = alike (kind_of (become n stands)) (stays_touched n stands t) ∙ sym (alike (kind_of n) t)
        by false u = ap is (kind_stays n stands u)

    kind_at : (stands : ℕ → Standing) (j : ℕ) (cs : List Node) (i : ℕ) → of_kind is (slice_get (all_become stands j cs) i) ≡ of_kind is (slice_get cs i)
    kind_at stands j [] i = refl
    kind_at stands j (c ∷ cs) zero = kind_same c (stands j)
    kind_at stands j (c ∷ cs) (suc i) = kind_at stands (suc j) cs i

    pub child_same : (n : Node) (stands : Standing) → is_touched (kind_of n) ≡ false → (i : ℕ) → child_is is (become n stands) i ≡ child_is is n i
    child_same n stands u i = ap (λ (z : List Node). of_kind is (slice_get z i)) (children_stay n stands u) ∙ kind_at (standing_in stands n) 0 (children_of n) i

  -- ---- what is said of children

  module _ (test : Node → Bool) (same : (c : Node) (stands : Standing) → test (become c stands) ≡ test c) where
    holds_at : (stands : ℕ → Standing) (j : ℕ) (cs : List Node) (i : ℕ) → holds_of test (slice_get (all_become stands j cs) i) ≡ holds_of test (slice_get cs i)
    holds_at stands j [] i = refl
    holds_at stands j (c ∷ cs) zero = same c (stands j)
    holds_at stands j (c ∷ cs) (suc i) = holds_at stands (suc j) cs i

    pub holds_same : (n : Node) (stands : Standing) → is_touched (kind_of n) ≡ false → (i : ℕ) → child_holds test (become n stands) i ≡ child_holds test n i
    holds_same n stands u i = ap (λ (z : List Node). holds_of test (slice_get z i)) (children_stay n stands u) ∙ holds_at (standing_in stands n) 0 (children_of n) i

  -- ---- what is made of the kinds of nodes from the leaves up, and says nothing of what is touched

  module _ (f : Node → Bool) (of_parts : Kind → List Bool → Bool) (out : (n : Node) → f n ≡ of_parts (kind_of n) (map f (children_of n))) (quiet : (k : Kind) (bs : List Bool) → is_touched k ≡ true → of_parts k bs ≡ false) where
    abbrev Same : Node → Type 0
    Same n = (stands : Standing) → f (become n stands) ≡ f n

    all_same : (cs : List Node) → Each Same cs → (stands : ℕ → Standing) (j : ℕ) → map f (all_become stands j cs) ≡ map f cs
    all_same [] e stands j = refl
    all_same (c ∷ cs) e stands j = ap₂ (λ b bs. b ∷ bs) (e.0 (stands j)) (all_same cs e.1 stands (suc j))

    node_same : (n : Node) → Each Same (children_of n) → Same n
    node_same n below stands = by (is_touched (kind_of n)) refl
      where
        by : (t : Bool) → is_touched (kind_of n) ≡ t → f (become n stands) ≡ f n
        by true t = out (become n stands) ∙ quiet (kind_of (become n stands)) _ (stays_touched n stands t) ∙ sym (out n ∙ quiet (kind_of n) _ t)
        by false u =
            out (become n stands) ∙ ap₂ (λ k cs. of_parts k (map f cs)) (kind_stays n stands u) (children_stay n stands u)
            ∙ ap (of_parts (kind_of n)) (all_same (children_of n) below (standing_in stands n) 0) ∙ sym (out n)

    pub made_same : (n : Node) (stands : Standing) → f (become n stands) ≡ f n
    made_same = everywhere Same node_same
