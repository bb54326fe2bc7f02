-- Specifiers of imports and exports tell the same with other texts: a lone name is written out.
use Rattle.std.proofs.Common.{◌≡◌, ◌∙◌, ◌||◌, not, ℕ, Bool, true, false, bytes_eq, codes, cond, List, [], ◌∷◌, length, Option, Some, None, refl, sym, ap, ap₂, subst, slice_get}
use Rattle.std.specs.Prelude.{unwrap_or}
use Rattle.std.proofs.lemmas.Slice.Eq.{bytes_eq-Decides}
use Rattle.ecma_kind.specs.Sorts.{belongs}
use Rattle.ecma_kind.specs.declared.kind.Kind.{Kind}
use Rattle.ecma_kind.specs.declared.kind.Kind.TheVariants as kind
use Rattle.ecma_kind.specs.declared.shapes.Shape.{Shape}
use Rattle.ecma_kind.specs.declared.shapes.Sort.TheVariants as sort
use Rattle.ecma_kind.specs.declared.span.Span.{Span}
use Rattle.ecma_tree.specs.declared.node.Node.{Node, out-Node}
use Rattle.ecma_tree.specs.Laws.{HaveShapes}
use Rattle.ecma_tree.specs.Nodes.{node_of}
use Rattle.ecma_tree.specs.Sorted.{HasShape, child_shapes, is_absent, maybe, one}
use Rattle.ecma_rules.specs.Children.{is_present, kind_of, of_kind}
use Rattle.ecma_scope.specs.declared.role.Role.{Role}
use Rattle.ecma_scope.specs.declared.role.Role.TheVariants as role
use Rattle.ecma_scope.specs.Resolved.{is_name}
use Rattle.ecma_scope.specs.Scopes.{is_there, of_specifier, role_by, role_in}
use Rattle.ecma_hygiene.specs.declared.spot.Spot.{Spot}
use Rattle.ecma_hygiene.specs.declared.spot.Spot.TheVariants as spot
use Rattle.ecma_hygiene.specs.declared.spot.Standing.{Standing}
use Rattle.ecma_hygiene.specs.Renamed.{Texts, changed_from, is_sourced, kind_is_absent, kind_with_text, lone_name, name_of, old_name, old_name_by, shared_by, spot_in, standing_in, text_of}
use Rattle.ecma_hygiene_scopes.proofs.Growing.{OldName, grown}
use Rattle.ecma_hygiene_scopes.proofs.Parts.{children-of, kind-of}
use Rattle.ecma_hygiene_fits.proofs.Becoming.{all_become, become, become-out, children_stay, is_touched, kind_stays}
use Rattle.ecma_interface.specs.Interface.{AsObject, ByName, NameAs, ObjectAs}
use Rattle.ecma_interface.specs.Names.{Id}
use Rattle.ecma_interface.specs.Reading.{again, again_by, export_specifier, export_specifier_by, import_entry, import_entry_by, own_text, said_at, said_by, said_of, second_name, variable_at, variable_by, variable_of}
use Rattle.ecma_interface_laws.proofs.Alike.{children_of}
use Rattle.ecma_interface_laws.proofs.Telling.{shapes_of}
use Rattle.ecma_hygiene_interface.proofs.Names.{IsElsewhere, ident_become, name_become}

both-ways : {b : Bool} → b ≡ true → b ≡ false → ⊥
both-ways h k = cc

or_right : (a b : Bool) → b ≡ true → (a || b) ≡ true
or_right true b h = refl
or_right false b h = h

-- the second name of a specifier with these children, or else its first
abbrev second_in : List Node → List ℕ
second_in cs = cond (of_kind is_present (slice_get cs 1)) (said_of (slice_get cs 1)) (said_of (slice_get cs 0))

-- children of which the second is the old name, if the first has one
abbrev two_or : Option OldName → Node → Node → List Node
two_or None a b = a ∷ b ∷ []
two_or (Some old) a b = a ∷ name_of old ∷ []

-- ---- children of nodes with one and two

pub one_of : (s : Shape) (cs : List Node) → HaveShapes (s ∷ []) cs → (a : Node) × (cs ≡ a ∷ []) × HasShape s a
one_of s [] h = absurd h
one_of s (a ∷ []) h = (a, refl, h.0)
one_of s (a ∷ b ∷ cs) h = absurd h.1

pub two_of : (s t : Shape) (cs : List Node) → HaveShapes (s ∷ t ∷ []) cs → (a b : Node) × (cs ≡ a ∷ b ∷ []) × HasShape s a × HasShape t b
two_of s t [] h = absurd h
two_of s t (a ∷ []) h = absurd h.1
two_of s t (a ∷ b ∷ []) h = (a, b, refl, h.0, h.1.0)
two_of s t (a ∷ b ∷ c ∷ cs) h = absurd h.1.1

pub shapes_at : (n : Node) (o : Shape) → HasShape o n → (k : Kind) → kind_of n ≡ k → HaveShapes (child_shapes k o (length (children_of n))) (children_of n)
shapes_at n o h k e = subst (λ (z : Kind). HaveShapes (child_shapes z o (length (children_of n))) (children_of n)) e (shapes_of n o h).1

module _ (texts : Texts) where
  -- ---- names

  -- a name that others have, or none, stays
  other_stays : (n : Node) → (is_absent (kind_of n) || belongs sort.ModuleExportName (kind_of n)) ≡ true → (stands : Standing) → is_name stands.role ≡ true → IsElsewhere stands → kind_of (become texts n stands) ≡ kind_of n
  unfolding is_touched
  other_stays n h stands role elsewhere = by (kind_of n) refl h
    where
      by : (k : Kind) → kind_of n ≡ k → (is_absent k || belongs sort.ModuleExportName k) ≡ true → kind_of (become texts n stands) ≡ kind_of n
      by (kind.Ident s c o) e b = name_become texts n s c o e stands role elsewhere ∙ sym e
      by (kind.Str value raw) e b = kind_stays texts n stands (ap is_touched e)
      by kind.Absent e b = kind_stays texts n stands (ap is_touched e)
      by _ e b = cc

  -- a name of a variable, or a text, says its text
  variable_become : (n : Node) → belongs sort.ModuleExportName (kind_of n) ≡ true → (stands : Standing) → is_name stands.role ≡ false → IsElsewhere stands
      → variable_by own_text (kind_of (become texts n stands)) ≡ variable_by (text_of texts) (kind_of n)
  unfolding is_touched
  variable_become n h stands role elsewhere = by (kind_of n) refl h
    where
      by : (k : Kind) → kind_of n ≡ k → belongs sort.ModuleExportName k ≡ true → variable_by own_text (kind_of (become texts n stands)) ≡ variable_by (text_of texts) (kind_of n)
      by (kind.Ident s c o) e b = ap (variable_by own_text) (ident_become texts n s c o e stands role elsewhere) ∙ ap (variable_by (text_of texts)) (sym e)
      by (kind.Str value raw) e b = ap (variable_by own_text) (kind_stays texts n stands (ap is_touched e) ∙ e) ∙ ap (variable_by (text_of texts)) (sym e)
      by _ e b = cc

  -- ---- a lone name

  said_two : (s : List ℕ) (span : Span) (c : ℕ) (o : Bool) (t : Option (List ℕ)) (a b : Node) → kind_of a ≡ kind.Ident (unwrap_or t s) c o → is_absent (kind_of b) ≡ true → second_in (two_or (changed_from t s span) a b) ≡ s
  said_two s span c o None a b e h = ap (λ z. cond (not z) (said_by (kind_of b)) (said_by (kind_of a))) h ∙ ap said_by e
  said_two s span c o (Some t) a b e h = by (bytes_eq t s) refl
    where
      by : (q : Bool) → bytes_eq t s ≡ q → second_in (two_or (cond q None (Some (record { text = s; span = span }))) a b) ≡ s
      by true q = ap (λ z. cond (not z) (said_by (kind_of b)) (said_by (kind_of a))) h ∙ ap said_by e ∙ (bytes_eq-Decides t s).0 q
      by false q = ap (λ k. cond (is_present k) (said_by k) (said_by (kind_of a))) (kind-of span (kind.Ident s 0 false) [])

  text_two : (old : Option OldName) (a b : Node) → said_of (slice_get (two_or old a b) 0) ≡ said_by (kind_of a)
  text_two None a b = refl
  text_two (Some old) a b = refl

  variable_two : (text : Id → List ℕ) (old : Option OldName) (a b : Node) → variable_of text (slice_get (two_or old a b) 0) ≡ variable_by text (kind_of a)
  variable_two text None a b = refl
  variable_two text (Some old) a b = refl

  -- ---- specifiers with two names

  abbrev is_pair : Kind → Bool
  is_pair (kind.ImportNamedSpecifier t) = true
  is_pair (kind.ExportNamedSpecifier t) = true
  is_pair _ = false

  grown_pair : (old : Option OldName) (span : Span) (k : Kind) (a b : Node) → is_pair k ≡ true → grown old span k (a ∷ b ∷ []) ≡ node_of span k (two_or old a b)
  grown_pair None span k a b p = refl
  grown_pair (Some old) span (kind.ImportNamedSpecifier t) a b p = refl
  grown_pair (Some old) span (kind.ExportNamedSpecifier t) a b p = refl
  grown_pair (Some old) span _ a b p = cc

  own_pair : (named : Bool) (k : Kind) → is_pair k ≡ true → kind_with_text texts named k ≡ k
  own_pair true k p = refl
  own_pair false (kind.ImportNamedSpecifier t) p = refl
  own_pair false (kind.ExportNamedSpecifier t) p = refl
  own_pair false _ p = cc

  module _ (c a b : Node) (k : Kind) (e : kind_of c ≡ k) (pair : is_pair k ≡ true) (are : children_of c ≡ a ∷ b ∷ []) (stands : Standing) where
    abbrev st : ℕ → Standing
    st = standing_in stands c

    abbrev first : Node
    first = become texts a (st 0)

    abbrev second : Node
    second = become texts b (st 1)

    abbrev old : Option OldName
    old = old_name texts (shared_by stands k c)

    pair_is : become texts c stands ≡ node_of (out-Node c).span k (two_or old first second)
    pair_is =
        become-out texts c stands
        ∙ ap₂ (λ z (cs : List Node). grown (old_name texts (shared_by stands (kind_of c) c)) (out-Node c).span z cs) (ap (kind_with_text texts (is_name stands.role)) e ∙ own_pair (is_name stands.role) k pair) (ap (all_become texts st 0) are)
        ∙ ap (λ z. grown (old_name texts (shared_by stands z c)) (out-Node c).span k (first ∷ second ∷ [])) e
        ∙ grown_pair old (out-Node c).span k first second pair

    pub pair_kind : kind_of (become texts c stands) ≡ k
    pair_kind = ap kind_of pair_is ∙ kind-of (out-Node c).span k (two_or old first second)

    pub pair_children : children_of (become texts c stands) ≡ two_or old first second
    pair_children = ap children_of pair_is ∙ children-of (out-Node c).span k (two_or old first second)

    elsewhere_in : (i : ℕ) → IsElsewhere (st i)
    elsewhere_in i = ap (λ z. spot_in stands.spot z i) e ∙ by stands.spot k pair
      where
        by : (s : Spot) (k : Kind) → is_pair k ≡ true → spot_in s k i ≡ spot.Elsewhere
        by spot.Properties (kind.ImportNamedSpecifier t) p = refl
        by spot.Properties (kind.ExportNamedSpecifier t) p = refl
        by spot.Properties _ p = cc
        by _ (kind.ImportNamedSpecifier t) p = refl
        by _ (kind.ExportNamedSpecifier t) p = refl
        by _ _ p = cc

    -- where the first is a name of a variable and the second is one that others have, or missing
    module _ (variable : belongs sort.ModuleExportName (kind_of a) ≡ true) (other : (is_absent (kind_of b) || belongs sort.ModuleExportName (kind_of b)) ≡ true) (role0 : is_name (st 0).role ≡ false) (role1 : is_name (st 1).role ≡ true)
        (shared : shared_by stands k c ≡ lone_name (children_of c)) where
      shared_is : old ≡ old_name texts (cond (kind_is_absent b) (Some a) None)
      shared_is = ap (old_name texts) (shared ∙ ap lone_name are)

      pub pair_variable : variable_at own_text (become texts c stands) 0 ≡ variable_at (text_of texts) c 0
      pair_variable =
          ap (λ (z : List Node). variable_of own_text (slice_get z 0)) pair_children ∙ variable_two own_text old first second
          ∙ variable_become a variable (st 0) role0 (elsewhere_in 0) ∙ ap (λ (z : List Node). variable_of (text_of texts) (slice_get z 0)) (sym are)

      -- both names are there, or the first is a text
      unshared : (o : Option OldName) → o ≡ None → kind_of second ≡ kind_of b → (is_absent (kind_of b) ≡ true → said_by (kind_of first) ≡ said_by (kind_of a)) → second_in (two_or o first second) ≡ second_in (a ∷ b ∷ [])
      unshared o none two one = ap (λ z. second_in (two_or z first second)) none ∙ ap (λ z. cond (is_present z) (said_by z) (said_by (kind_of first))) two ∙ by (is_absent (kind_of b)) refl
        where
          by : (q : Bool) → is_absent (kind_of b) ≡ q → cond (is_present (kind_of b)) (said_by (kind_of b)) (said_by (kind_of first)) ≡ cond (is_present (kind_of b)) (said_by (kind_of b)) (said_by (kind_of a))
          by true q = ap (λ z. cond (is_present (kind_of b)) (said_by (kind_of b)) z) (one q)
          by false q = ap (λ z. cond (not z) (said_by (kind_of b)) (said_by (kind_of first))) q ∙ sym (ap (λ z. cond (not z) (said_by (kind_of b)) (said_by (kind_of a))) q)

      pub pair_second : second_name (become texts c stands) ≡ second_name c
      unfolding is_touched
      pair_second = ap second_in pair_children ∙ by (is_absent (kind_of b)) refl ∙ ap second_in (sym are)
        where
          kept : kind_of second ≡ kind_of b
          kept = other_stays b other (st 1) role1 (elsewhere_in 1)

          lone : is_absent (kind_of b) ≡ true → (z : Kind) → kind_of a ≡ z → belongs sort.ModuleExportName z ≡ true → second_in (two_or old first second) ≡ second_in (a ∷ b ∷ [])
          lone q (kind.Ident s x o) f v =
              let old_is : old ≡ changed_from (texts (s, x)) s (out-Node a).span = shared_is ∙ ap (λ w. old_name texts (cond w (Some a) None)) q ∙ ap (old_name_by texts (out-Node a).span) f in
              ap (λ w. second_in (two_or w first second)) old_is
              ∙ said_two s (out-Node a).span x o (texts (s, x)) first second (ident_become texts a s x o f (st 0) role0 (elsewhere_in 0)) (ap is_absent kept ∙ q)
              ∙ sym (ap (λ w. cond (not w) (said_by (kind_of b)) (said_by (kind_of a))) q ∙ ap said_by f)
          lone q (kind.Str value raw) f v =
              let old_is : old ≡ None = shared_is ∙ ap (λ w. old_name texts (cond w (Some a) None)) q ∙ ap (old_name_by texts (out-Node a).span) f in
              unshared old old_is kept (λ w. ap said_by (kind_stays texts a (st 0) (ap is_touched f)))
          lone q _ f v = cc

          by : (q : Bool) → is_absent (kind_of b) ≡ q → second_in (two_or old first second) ≡ second_in (a ∷ b ∷ [])
          by true q = lone q (kind_of a) refl variable
          by false q =
              let old_is : old ≡ None = shared_is ∙ ap (λ w. old_name texts (cond w (Some a) None)) q in
              unshared old old_is kept (λ w. absurd (both-ways w q))

    -- where both are names that others have
    module _ (names : belongs sort.ModuleExportName (kind_of a) ≡ true) (other : (is_absent (kind_of b) || belongs sort.ModuleExportName (kind_of b)) ≡ true) (role0 : is_name (st 0).role ≡ true) (role1 : is_name (st 1).role ≡ true)
        (unshared : shared_by stands k c ≡ None) where
      none : old ≡ None
      none = ap (old_name texts) unshared

      two : children_of (become texts c stands) ≡ first ∷ second ∷ []
      two = pair_children ∙ ap (λ o. two_or o first second) none

      first_kept : kind_of first ≡ kind_of a
      first_kept = other_stays a (or_right (is_absent (kind_of a)) (belongs sort.ModuleExportName (kind_of a)) names) (st 0) role0 (elsewhere_in 0)

      second_kept : kind_of second ≡ kind_of b
      second_kept = other_stays b other (st 1) role1 (elsewhere_in 1)

      pub names_said : said_at (become texts c stands) 0 ≡ said_at c 0
      names_said = ap (λ (z : List Node). said_of (slice_get z 0)) two ∙ ap said_by first_kept ∙ ap (λ (z : List Node). said_of (slice_get z 0)) (sym are)

      pub names_second : second_name (become texts c stands) ≡ second_name c
      names_second = ap second_in two ∙ ap₂ (λ x y. cond (is_present y) (said_by y) (said_by x)) first_kept second_kept ∙ ap second_in (sym are)

  -- ---- what is told of them

  -- a specifier with one name
  abbrev is_single : Kind → Bool
  is_single kind.ImportDefaultSpecifier = true
  is_single kind.ImportStarAsSpecifier = true
  is_single kind.ExportNamespaceSpecifier = true
  is_single kind.ExportDefaultSpecifier = true
  is_single _ = false

  single_untouched : (k : Kind) → is_single k ≡ true → is_touched k ≡ false
  unfolding is_touched
  single_untouched kind.ImportDefaultSpecifier h = refl
  single_untouched kind.ImportStarAsSpecifier h = refl
  single_untouched kind.ExportNamespaceSpecifier h = refl
  single_untouched kind.ExportDefaultSpecifier h = refl
  single_untouched _ h = cc

  single_elsewhere : (s : Spot) (k : Kind) (i : ℕ) → is_single k ≡ true → spot_in s k i ≡ spot.Elsewhere
  single_elsewhere spot.Properties kind.ImportDefaultSpecifier i h = refl
  single_elsewhere spot.Properties kind.ImportStarAsSpecifier i h = refl
  single_elsewhere spot.Properties kind.ExportNamespaceSpecifier i h = refl
  single_elsewhere spot.Properties kind.ExportDefaultSpecifier i h = refl
  single_elsewhere spot.Properties _ i h = cc
  single_elsewhere _ kind.ImportDefaultSpecifier i h = refl
  single_elsewhere _ kind.ImportStarAsSpecifier i h = refl
  single_elsewhere _ kind.ExportNamespaceSpecifier i h = refl
  single_elsewhere _ kind.ExportDefaultSpecifier i h = refl
  single_elsewhere _ _ i h = cc

  module _ (c a : Node) (k : Kind) (e : kind_of c ≡ k) (single : is_single k ≡ true) (are : children_of c ≡ a ∷ []) (stands : Standing) where
    single_kind : kind_of (become texts c stands) ≡ k
    single_kind = kind_stays texts c stands (ap is_touched e ∙ single_untouched k single) ∙ e

    single_children : children_of (become texts c stands) ≡ become texts a (standing_in stands c 0) ∷ []
    single_children = children_stay texts c stands (ap is_touched e ∙ single_untouched k single) ∙ ap (all_become texts (standing_in stands c) 0) are

    single_spot : IsElsewhere (standing_in stands c 0)
    single_spot = ap (λ z. spot_in stands.spot z 0) e ∙ single_elsewhere stands.spot k 0 single

    single_variable : belongs sort.ModuleExportName (kind_of a) ≡ true → is_name (role_in stands.role c 0) ≡ false → variable_at own_text (become texts c stands) 0 ≡ variable_at (text_of texts) c 0
    single_variable v r =
        ap (λ (z : List Node). variable_of own_text (slice_get z 0)) single_children ∙ variable_become a v (standing_in stands c 0) r single_spot ∙ ap (λ (z : List Node). variable_of (text_of texts) (slice_get z 0)) (sym are)

    single_said : belongs sort.ModuleExportName (kind_of a) ≡ true → is_name (role_in stands.role c 0) ≡ true → said_at (become texts c stands) 0 ≡ said_at c 0
    single_said v r =
        ap (λ (z : List Node). said_of (slice_get z 0)) single_children
        ∙ ap said_by (other_stays a (or_right (is_absent (kind_of a)) (belongs sort.ModuleExportName (kind_of a)) v) (standing_in stands c 0) r single_spot) ∙ ap (λ (z : List Node). said_of (slice_get z 0)) (sym are)

  ident_named : (k : Kind) → belongs sort.Ident k ≡ true → belongs sort.ModuleExportName k ≡ true
  ident_named (kind.Ident s c o) b = refl
  ident_named _ b = cc

  role_at : (c : Node) (k : Kind) → kind_of c ≡ k → (r : Role) (i : ℕ) → role_in r c i ≡ role_by r k (is_there (children_of c) 1) i
  role_at c k e r i = ap (λ z. role_by r z (is_there (children_of c) 1) i) e

  pub entry_become : (c : Node) → HasShape (one sort.ImportSpecifier) c → (stands : Standing) → import_entry own_text (become texts c stands) ≡ import_entry (text_of texts) c
  unfolding role_by shared_by
  entry_become c h stands = by (kind_of c) refl (shapes_of c (one sort.ImportSpecifier) h).0
    where
      told_as : (k : Kind) → kind_of c ≡ k → kind_of (become texts c stands) ≡ k → import_entry_by own_text k (become texts c stands) ≡ import_entry_by (text_of texts) k c → import_entry own_text (become texts c stands) ≡ import_entry (text_of texts) c
      told_as k e f told = ap (λ z. import_entry_by own_text z (become texts c stands)) f ∙ told ∙ sym (ap (λ z. import_entry_by (text_of texts) z c) e)

      by : (k : Kind) → kind_of c ≡ k → belongs sort.ImportSpecifier k ≡ true → import_entry own_text (become texts c stands) ≡ import_entry (text_of texts) c
      by kind.ImportDefaultSpecifier e b =
          let k = kind.ImportDefaultSpecifier in
          let t = one_of (one sort.Ident) (children_of c) (shapes_at c (one sort.ImportSpecifier) h k e) in
          told_as k e (single_kind c t.0 k e refl t.1 stands)
          (ap (λ z. record { imported = ByName (codes "default"); local = z } ∷ [])
          (single_variable c t.0 k e refl t.1 stands (ident_named (kind_of t.0) (shapes_of t.0 (one sort.Ident) t.2).0) (ap is_name (role_at c k e stands.role 0))))
      by kind.ImportStarAsSpecifier e b =
          let k = kind.ImportStarAsSpecifier in
          let t = one_of (one sort.Ident) (children_of c) (shapes_at c (one sort.ImportSpecifier) h k e) in
          told_as k e (single_kind c t.0 k e refl t.1 stands)
          (ap (λ z. record { imported = AsObject; local = z } ∷ [])
          (single_variable c t.0 k e refl t.1 stands (ident_named (kind_of t.0) (shapes_of t.0 (one sort.Ident) t.2).0) (ap is_name (role_at c k e stands.role 0))))
      by (kind.ImportNamedSpecifier true) e b =
          let k = kind.ImportNamedSpecifier true in
          let t = two_of (one sort.Ident) (maybe sort.ModuleExportName) (children_of c) (shapes_at c (one sort.ImportSpecifier) h k e) in
          told_as k e (pair_kind c t.0 t.1 k e refl t.2 stands) refl
      by (kind.ImportNamedSpecifier false) e b =
          let k = kind.ImportNamedSpecifier false in
          let t = two_of (one sort.Ident) (maybe sort.ModuleExportName) (children_of c) (shapes_at c (one sort.ImportSpecifier) h k e) in
          let v = ident_named (kind_of t.0) (shapes_of t.0 (one sort.Ident) t.3).0 in
          let o = (shapes_of t.1 (maybe sort.ModuleExportName) t.4).0 in
          let r = ap is_name (role_at c k e stands.role 0) in
          let q = ap is_name (role_at c k e stands.role 1) in
          told_as k e (pair_kind c t.0 t.1 k e refl t.2 stands)
          (ap₂ (λ s z. record { imported = ByName s; local = z } ∷ []) (pair_second c t.0 t.1 k e refl t.2 stands v o r q refl) (pair_variable c t.0 t.1 k e refl t.2 stands v o r q refl))
      by _ e b = cc

  pub export_become : (c : Node) → HasShape (one sort.ExportSpecifier) c → (stands : Standing) → stands.role ≡ role.Plain → export_specifier own_text (become texts c stands) ≡ export_specifier (text_of texts) c
  unfolding role_by shared_by
  export_become c h stands plain = by (kind_of c) refl (shapes_of c (one sort.ExportSpecifier) h).0
    where
      told_as : (k : Kind) → kind_of c ≡ k → kind_of (become texts c stands) ≡ k → export_specifier_by own_text k (become texts c stands) ≡ export_specifier_by (text_of texts) k c → export_specifier own_text (become texts c stands) ≡ export_specifier (text_of texts) c
      told_as k e f told = ap (λ z. export_specifier_by own_text z (become texts c stands)) f ∙ told ∙ sym (ap (λ z. export_specifier_by (text_of texts) z c) e)

      by : (k : Kind) → kind_of c ≡ k → belongs sort.ExportSpecifier k ≡ true → export_specifier own_text (become texts c stands) ≡ export_specifier (text_of texts) c
      by kind.ExportNamespaceSpecifier e b =
          let k = kind.ExportNamespaceSpecifier in
          let t = one_of (one sort.ModuleExportName) (children_of c) (shapes_at c (one sort.ExportSpecifier) h k e) in
          told_as k e (single_kind c t.0 k e refl t.1 stands) refl
      by kind.ExportDefaultSpecifier e b =
          let k = kind.ExportDefaultSpecifier in
          let t = one_of (one sort.Ident) (children_of c) (shapes_at c (one sort.ExportSpecifier) h k e) in
          told_as k e (single_kind c t.0 k e refl t.1 stands) refl
      by (kind.ExportNamedSpecifier true) e b =
          let k = kind.ExportNamedSpecifier true in
          let t = two_of (one sort.ModuleExportName) (maybe sort.ModuleExportName) (children_of c) (shapes_at c (one sort.ExportSpecifier) h k e) in
          told_as k e (pair_kind c t.0 t.1 k e refl t.2 stands) refl
      by (kind.ExportNamedSpecifier false) e b =
          let k = kind.ExportNamedSpecifier false in
          let t = two_of (one sort.ModuleExportName) (maybe sort.ModuleExportName) (children_of c) (shapes_at c (one sort.ExportSpecifier) h k e) in
          let v = (shapes_of t.0 (one sort.ModuleExportName) t.3).0 in
          let o = (shapes_of t.1 (maybe sort.ModuleExportName) t.4).0 in
          let r = ap is_name (role_at c k e stands.role 0) ∙ ap (λ z. is_name (of_specifier z 0)) plain in
          let q = ap is_name (role_at c k e stands.role 1) ∙ ap (λ z. is_name (of_specifier z 1)) plain in
          let s = ap (λ z. cond (is_sourced z) None (lone_name (children_of c))) plain in
          told_as k e (pair_kind c t.0 t.1 k e refl t.2 stands)
          (ap₂ (λ x z. record { exported = x; local = z } ∷ []) (pair_second c t.0 t.1 k e refl t.2 stands v o r q s) (pair_variable c t.0 t.1 k e refl t.2 stands v o r q s))
      by _ e b = cc

  pub again_become : (c : Node) → HasShape (one sort.ExportSpecifier) c → (stands : Standing) → stands.role ≡ role.Sourced → again (become texts c stands) ≡ again c
  unfolding role_by shared_by
  again_become c h stands sourced = by (kind_of c) refl (shapes_of c (one sort.ExportSpecifier) h).0
    where
      told_as : (k : Kind) → kind_of c ≡ k → kind_of (become texts c stands) ≡ k → again_by k (become texts c stands) ≡ again_by k c → again (become texts c stands) ≡ again c
      told_as k e f told = ap (λ z. again_by z (become texts c stands)) f ∙ told ∙ sym (ap (λ z. again_by z c) e)

      by : (k : Kind) → kind_of c ≡ k → belongs sort.ExportSpecifier k ≡ true → again (become texts c stands) ≡ again c
      by kind.ExportNamespaceSpecifier e b =
          let k = kind.ExportNamespaceSpecifier in
          let t = one_of (one sort.ModuleExportName) (children_of c) (shapes_at c (one sort.ExportSpecifier) h k e) in
          told_as k e (single_kind c t.0 k e refl t.1 stands)
          (ap (λ s. ObjectAs s ∷ []) (single_said c t.0 k e refl t.1 stands (shapes_of t.0 (one sort.ModuleExportName) t.2).0 (ap is_name (role_at c k e stands.role 0))))
      by kind.ExportDefaultSpecifier e b =
          let k = kind.ExportDefaultSpecifier in
          let t = one_of (one sort.Ident) (children_of c) (shapes_at c (one sort.ExportSpecifier) h k e) in
          told_as k e (single_kind c t.0 k e refl t.1 stands) refl
      by (kind.ExportNamedSpecifier true) e b =
          let k = kind.ExportNamedSpecifier true in
          let t = two_of (one sort.ModuleExportName) (maybe sort.ModuleExportName) (children_of c) (shapes_at c (one sort.ExportSpecifier) h k e) in
          told_as k e (pair_kind c t.0 t.1 k e refl t.2 stands) refl
      by (kind.ExportNamedSpecifier false) e b =
          let k = kind.ExportNamedSpecifier false in
          let t = two_of (one sort.ModuleExportName) (maybe sort.ModuleExportName) (children_of c) (shapes_at c (one sort.ExportSpecifier) h k e) in
          let v = (shapes_of t.0 (one sort.ModuleExportName) t.3).0 in
          let o = (shapes_of t.1 (maybe sort.ModuleExportName) t.4).0 in
          let r = ap is_name (role_at c k e stands.role 0) ∙ ap (λ z. is_name (of_specifier z 0)) sourced in
          let q = ap is_name (role_at c k e stands.role 1) ∙ ap (λ z. is_name (of_specifier z 1)) sourced in
          let s = ap (λ z. cond (is_sourced z) None (lone_name (children_of c))) sourced in
          told_as k e (pair_kind c t.0 t.1 k e refl t.2 stands)
          (ap₂ (λ x z. NameAs x z ∷ []) (names_said c t.0 t.1 k e refl t.2 stands v o r q s) (names_second c t.0 t.1 k e refl t.2 stands v o r q s))
      by _ e b = cc
