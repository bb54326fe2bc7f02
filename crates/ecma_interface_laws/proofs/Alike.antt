-- Where two trees are alike in what interfaces look at, they have the same one.
use Rattle.std.proofs.Common.{◌≡◌, ◌∙◌, ℕ, zero, suc, Bool, true, ◌&&◌, ◌||◌, not, List, [], ◌∷◌, ◌++◌, map, Option, Some, None, refl, sym, ap, ap₂, slice_get}
use Rattle.std.proofs.lemmas.List.{map-append}
use Rattle.ecma_kind.specs.declared.kind.Kind.{Kind}
use Rattle.ecma_kind.specs.declared.kind.Kind.TheVariants as kind
use Rattle.ecma_tree.specs.declared.node.Node.{Node, fold_out-Node, out-Node}
use Rattle.ecma_tree.specs.Sorted.{is_absent}
use Rattle.ecma_tree.specs.Values.{holds_ambient, is_function, is_value_where, value_by, values_in}
use Rattle.ecma_tree.proofs.Valuing.{is_value_where-out, value_where_by}
use Rattle.ecma_forest.proofs.Induction.{by_children}
use Rattle.ecma_rules.specs.Children.{kind_of}
use Rattle.ecma_strip.specs.Staying.{is_declared}
use Rattle.ecma_interface.specs.Interface.{Export}
use Rattle.ecma_interface.specs.Names.{Id, all_ids, bound_by, bound_names, bound_step}
use Rattle.ecma_interface.specs.Reading.{by_its_name, is_required, said_by, said_of, variable_by, variable_of}
use Rattle.ecma_interface_laws.proofs.Looking.{Always, All, ByAny, ByFirst, BySecond, First, Nothing, Pick, Second, Value, Wants, WantsValue, bound_is, dull_binds, dull_is_value, dull_not_declared, dull_not_named, dull_not_required, dull_not_told, dull_says, dull_there, is_dull, is_told, matters, pick, picked, told_not_named, unnamed_variable, value_is, value_of, value_wanted, valued, wanted}

abbrev pub children_of : Node → List Node
children_of n = (out-Node n).children

-- the names that a node binds, with the texts by which they are known
abbrev pub shown : (Id → List ℕ) → Node → List Export
shown text n = map (by_its_name text) (bound_names n)

pub bound-out : (n : Node) → bound_names n ≡ bound_by (kind_of n) (map bound_names (children_of n))
bound-out n = fold_out-Node (List Id) bound_step n

-- lists of which these items are related
module _ (R : Node → Node → Type 0) where
  abbrev pub Related : (ℕ → Bool) → List Node → List Node → Type 0
  Related m [] [] = Unit {0}
  Related m (c ∷ cs) (d ∷ ds) = (m 0 ≡ true → R c d) × Related (λ i. m (suc i)) cs ds
  Related m _ _ = ⊥

  -- what stands at a place of both
  abbrev pub RelatedAt : Option Node → Option Node → Type 0
  RelatedAt None None = Unit {0}
  RelatedAt (Some c) (Some d) = R c d
  RelatedAt _ _ = ⊥

  pub related_at : (m : ℕ → Bool) (cs ds : List Node) → Related m cs ds → (i : ℕ) → m i ≡ true → RelatedAt (slice_get cs i) (slice_get ds i)
  related_at m [] [] r i e = tt
  related_at m [] (d ∷ ds) r i e = absurd r
  related_at m (c ∷ cs) [] r i e = absurd r
  related_at m (c ∷ cs) (d ∷ ds) r zero e = r.0 e
  related_at m (c ∷ cs) (d ∷ ds) r (suc i) e = related_at (λ j. m (suc j)) cs ds r.1 i e

module _ {R Q : Node → Node → Type 0} where
  pub related_to : (m : ℕ → Bool) (cs ds : List Node) → Related R m cs ds → ((i : ℕ) (c d : Node) → slice_get cs i ≡ Some c → R c d → Q c d) → Related Q m cs ds
  related_to m [] [] r to = tt
  related_to m [] (d ∷ ds) r to = absurd r
  related_to m (c ∷ cs) [] r to = absurd r
  related_to m (c ∷ cs) (d ∷ ds) r to = ((λ e. to 0 c d refl (r.0 e)), related_to (λ i. m (suc i)) cs ds r.1 (λ i x y at. to (suc i) x y at))

-- by the texts of the first tree, and by those of the second
module _ (text other : Id → List ℕ) (R : Node → Node → Type 0) where
  -- two nodes, by their kinds and children: identifiers of one text and known by one, texts that say the same, what is dull, or nodes of one kind
  pub data Step : Kind → Kind → List Node → List Node → Type 0 where
    named : {s : List ℕ} {c d : ℕ} {o p : Bool} {cs ds : List Node} → text (s, c) ≡ other (s, d) → (cs ≡ [] → ds ≡ []) → Step (kind.Ident s c o) (kind.Ident s d p) cs ds
    quoted : {value : List ℕ} {raw again : Option (List ℕ)} {cs ds : List Node} → Step (kind.Str value raw) (kind.Str value again) cs ds
    dull : {k l : Kind} {cs ds : List Node} → is_dull k ≡ true → is_dull l ≡ true → Step k l cs ds
    same : {k : Kind} {cs ds : List Node} → is_told k ≡ true → Related R (matters k) cs ds → Step k k cs ds

  -- so of nodes
  abbrev pub Alike : Node → Node → Type 0
  Alike a b = Step (kind_of a) (kind_of b) (children_of a) (children_of b)

  pub said_step : {k l : Kind} {cs ds : List Node} → Step k l cs ds → said_by l ≡ said_by k
  said_step (named e n) = refl
  said_step quoted = refl
  said_step (dull {k} {l} h g) = dull_says l g ∙ sym (dull_says k h)
  said_step (same t r) = refl

  pub there_step : {k l : Kind} {cs ds : List Node} → Step k l cs ds → is_absent l ≡ is_absent k
  there_step (named e n) = refl
  there_step quoted = refl
  there_step (dull {k} {l} h g) = dull_there l g ∙ sym (dull_there k h)
  there_step (same t r) = refl

  pub declared_step : {k l : Kind} {cs ds : List Node} → Step k l cs ds → is_declared l ≡ is_declared k
  unfolding is_declared
  declared_step (named e n) = refl
  declared_step quoted = refl
  declared_step (dull {k} {l} h g) = dull_not_declared l g ∙ sym (dull_not_declared k h)
  declared_step (same t r) = refl

  pub required_step : {k l : Kind} {cs ds : List Node} → Step k l cs ds → is_required l ≡ is_required k
  required_step (named e n) = refl
  required_step quoted = refl
  required_step (dull {k} {l} h g) = dull_not_required l g ∙ sym (dull_not_required k h)
  required_step (same t r) = refl

  variable_told : (k : Kind) → is_told k ≡ true → variable_by other k ≡ variable_by text k
  variable_told k t = unnamed_variable other k (told_not_named k t) ∙ sym (unnamed_variable text k (told_not_named k t))

  pub variable_step : {k l : Kind} {cs ds : List Node} → Step k l cs ds → variable_by other l ≡ variable_by text k
  variable_step (named e n) = sym e
  variable_step quoted = refl
  variable_step (dull {k} {l} h g) = unnamed_variable other l (dull_not_named l g) ∙ sym (unnamed_variable text k (dull_not_named k h))
  variable_step (same {k} t r) = variable_told k t

  -- of a kind that is told the other is too, with what is looked at
  abbrev pub Told : Kind → Kind → List Node → List Node → Type 0
  Told k l cs ds = (l ≡ k) × Related R (matters k) cs ds

  pub told_step : {k l : Kind} {cs ds : List Node} → Step k l cs ds → is_told k ≡ true → Told k l cs ds
  unfolding is_told
  told_step (named e n) t = cc
  told_step quoted t = cc
  told_step (dull {k} h g) t = absurd (dull_not_told k h t)
  told_step (same h r) t = (refl, r)

  -- ---- bound names

  abbrev Shown : Node → Node → Type 0
  Shown a b = shown other b ≡ shown text a

  abbrev OnceShown : Node → Type 0
  OnceShown a = (b : Node) → R a b → Shown a b

  abbrev old : List (List Id) → Pick → List Export
  old parts p = map (by_its_name text) (picked p parts)

  abbrev new : List (List Id) → Pick → List Export
  new parts p = map (by_its_name other) (picked p parts)

  picks : (p : Pick) (m : ℕ → Bool) → Wants p m → (cs ds : List Node) → Related Shown m cs ds → new (map bound_names ds) p ≡ old (map bound_names cs) p
  picks p m w [] (d ∷ ds) s = absurd s
  picks p m w (c ∷ cs) [] s = absurd s
  picks First m w [] [] s = refl
  picks First m w (c ∷ cs) (d ∷ ds) s = s.0 w
  picks Second m w [] [] s = refl
  picks Second m w (c ∷ cs) (d ∷ ds) s = picks First (λ i. m (suc i)) w cs ds s.1
  picks All m w [] [] s = refl
  picks All m w (c ∷ cs) (d ∷ ds) s =
      map-append (by_its_name other) (bound_names d) (all_ids (map bound_names ds))
      ∙ ap₂ (λ xs ys. xs ++ ys) (s.0 (w 0)) (picks All (λ i. m (suc i)) (λ i. w (suc i)) cs ds s.1)
      ∙ sym (map-append (by_its_name text) (bound_names c) (all_ids (map bound_names cs)))
  picks Nothing m w [] [] s = refl
  picks Nothing m w (c ∷ cs) (d ∷ ds) s = refl

  told_shown : (k : Kind) → is_told k ≡ true → (cs ds : List Node) → Related Shown (matters k) cs ds → map (by_its_name other) (bound_by k (map bound_names ds)) ≡ map (by_its_name text) (bound_by k (map bound_names cs))
  told_shown k t cs ds r =
      ap (map (by_its_name other)) (bound_is k (told_not_named k t) (map bound_names ds))
      ∙ picks (pick k) (matters k) (wanted k) cs ds r
      ∙ sym (ap (map (by_its_name text)) (bound_is k (told_not_named k t) (map bound_names cs)))

  shown_step : {k l : Kind} {cs ds : List Node} → Step k l cs ds → ((i : ℕ) (c : Node) → slice_get cs i ≡ Some c → OnceShown c)
      → map (by_its_name other) (bound_by l (map bound_names ds)) ≡ map (by_its_name text) (bound_by k (map bound_names cs))
  unfolding bound_by
  shown_step (named {s} e n) below = ap (λ t. record { exported = s; local = t } ∷ []) (sym e)
  shown_step quoted below = refl
  shown_step (dull {k} {l} {cs} {ds} h g) below = ap (map (by_its_name other)) (dull_binds l g (map bound_names ds)) ∙ sym (ap (map (by_its_name text)) (dull_binds k h (map bound_names cs)))
  shown_step (same {k} {cs} {ds} t r) below = told_shown k t cs ds (related_to (matters k) cs ds r (λ i c d at q. below i c at d q))

  -- ---- values

  abbrev SameValue : Node → Node → Type 0
  SameValue a b = (stays : Bool) → is_value_where stays b ≡ is_value_where stays a

  abbrev OnceValue : Node → Type 0
  OnceValue a = (b : Node) → R a b → SameValue a b

  value_picks : (v : Value) (m : ℕ → Bool) → WantsValue v m → (cs ds : List Node) → Related SameValue m cs ds → (stays : Bool) → valued v (map (is_value_where stays) ds) ≡ valued v (map (is_value_where stays) cs)
  value_picks v m w [] (d ∷ ds) s stays = absurd s
  value_picks v m w (c ∷ cs) [] s stays = absurd s
  value_picks ByFirst m w [] [] s stays = refl
  value_picks ByFirst m w (c ∷ cs) (d ∷ ds) s stays = s.0 w stays
  value_picks BySecond m w [] [] s stays = refl
  value_picks BySecond m w (c ∷ cs) (d ∷ ds) s stays = value_picks ByFirst (λ i. m (suc i)) w cs ds s.1 stays
  value_picks ByAny m w [] [] s stays = refl
  value_picks ByAny m w (c ∷ cs) (d ∷ ds) s stays = ap₂ (λ a b. a || b) (s.0 (w 0) stays) (value_picks ByAny (λ i. m (suc i)) (λ i. w (suc i)) cs ds s.1 stays)
  value_picks (Always b) m w [] [] s stays = refl
  value_picks (Always b) m w (c ∷ cs) (d ∷ ds) s stays = refl

  told_value : (k : Kind) (cs ds : List Node) → Related SameValue (matters k) cs ds → (stays : Bool) → value_where_by stays k ds ≡ value_where_by stays k cs
  told_value k cs ds r stays =
      ap (λ b. (is_function k && not stays) || b)
      (value_is k (values_in stays k ds) ∙ value_picks (value_of k) (matters k) (value_wanted k) cs ds r (not (holds_ambient k) && stays) ∙ sym (value_is k (values_in stays k cs)))

  value_step : {k l : Kind} {cs ds : List Node} → Step k l cs ds → ((i : ℕ) (c : Node) → slice_get cs i ≡ Some c → OnceValue c) → (stays : Bool) → value_where_by stays l ds ≡ value_where_by stays k cs
  unfolding value_by
  value_step (named e n) below stays = refl
  value_step quoted below stays = refl
  value_step (dull {k} {l} {cs} {ds} h g) below stays = dull_is_value l g stays ds ∙ sym (dull_is_value k h stays cs)
  value_step (same {k} {cs} {ds} t r) below stays = told_value k cs ds (related_to (matters k) cs ds r (λ i c d at q. below i c at d q)) stays

  -- ---- where related nodes are alike

  module _ (alike : (a b : Node) → R a b → Alike a b) where
    pub shown_same : (a b : Node) → R a b → shown other b ≡ shown text a
    shown_same = by_children OnceShown (λ a below b r.
        ap (map (by_its_name other)) (bound-out b) ∙ shown_step (alike a b r) below ∙ sym (ap (map (by_its_name text)) (bound-out a)))

    pub value_same : (a b : Node) → R a b → (stays : Bool) → is_value_where stays b ≡ is_value_where stays a
    value_same = by_children OnceValue (λ a below b r stays.
        is_value_where-out stays b ∙ value_step (alike a b r) below stays ∙ sym (is_value_where-out stays a))

    pub said_there : (o p : Option Node) → RelatedAt R o p → said_of p ≡ said_of o
    said_there None None r = refl
    said_there None (Some d) r = absurd r
    said_there (Some c) None r = absurd r
    said_there (Some c) (Some d) r = said_step (alike c d r)

    pub variable_there : (o p : Option Node) → RelatedAt R o p → variable_of other p ≡ variable_of text o
    variable_there None None r = refl
    variable_there None (Some d) r = absurd r
    variable_there (Some c) None r = absurd r
    variable_there (Some c) (Some d) r = variable_step (alike c d r)
