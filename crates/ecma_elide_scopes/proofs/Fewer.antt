-- A module declares no other names without what goes of its imports and exports.
use Rattle.std.proofs.Common.{◌≡◌, ◌∙◌, ℕ, suc, Bool, true, false, ◌&&◌, ◌||◌, not, cond, List, [], ◌∷◌, ◌++◌, map, filter, Option, Some, None, refl, sym, ap, subst, slice_get, bytes_eq}
use Rattle.std.proofs.lemmas.List.Folds.{list_any-append}
use Rattle.ecma_kind.specs.declared.kind.Kind.{Kind}
use Rattle.ecma_kind.specs.declared.kind.Kind.TheVariants as kind
use Rattle.ecma_tree.specs.Sorted.{is_list}
use Rattle.ecma_tree.specs.Values.{is_value_where}
use Rattle.ecma_tree.specs.declared.node.Node.{Node}
use Rattle.ecma_rules.specs.Children.{kind_of}
use Rattle.ecma_elide.specs.declared.seat.Seat.{Seat}
use Rattle.ecma_elide.specs.Rules.{Known}
use Rattle.ecma_elide_fits.specs.Dropping.{Dropping}
use Rattle.ecma_elide_fits.proofs.Dropped.{below, below_to, each, induct, kind_to, loses_at, seats_at, to, whole_to}
use Rattle.ecma_elide_fits.proofs.Elided.{dropping}
use Rattle.ecma_scope.specs.declared.form.Declaration.{Declaration}
use Rattle.ecma_scope.specs.declared.form.Part.{Part}
use Rattle.ecma_scope.specs.declared.form.Part.TheVariants as part
use Rattle.ecma_scope.specs.declared.form.Sought.{Sought}
use Rattle.ecma_scope.specs.declared.role.Role.TheVariants as role
use Rattle.ecma_scope.specs.Declarations.{declarations, declared_here, found_at, found_in, holds_vars, in_default, in_item, in_member, in_name, in_scope, keeps, sought_by, sought_in}
use Rattle.ecma_elide_scopes.specs.Freeing.{module_names}
use Rattle.ecma_elide_scopes.proofs.Blind.{declarations_out}
use Rattle.ecma_elide_scopes.proofs.Quiet.{Sound, is_module, is_spine, sound_below, still}

-- what is looked for in what may lose items does not depend on values, nor, in a list, on the index
abbrev pub may_shrink : Kind → Bool
may_shrink k = is_spine k || is_module k

value_blind : (p : Part) (stays v w : Bool) (k : Kind) (i : ℕ) → may_shrink k ≡ true → sought_by p stays v k i ≡ sought_by p stays w k i
unfolding in_scope in_item in_default
value_blind part.Scope stays v w (kind.Module shebang) i h = refl
value_blind part.Scope stays v w kind.List i h = refl
value_blind part.Scope stays v w (kind.ImportDecl type_only) i h = refl
value_blind part.Scope stays v w (kind.NamedExport type_only) i h = refl
value_blind part.Scope stays v w _ i h = cc
value_blind part.Item stays v w (kind.Module shebang) i h = refl
value_blind part.Item stays v w kind.List i h = refl
value_blind part.Item stays v w (kind.ImportDecl type_only) i h = refl
value_blind part.Item stays v w (kind.NamedExport type_only) i h = refl
value_blind part.Item stays v w _ i h = cc
value_blind part.Default stays v w (kind.Module shebang) i h = refl
value_blind part.Default stays v w kind.List i h = refl
value_blind part.Default stays v w (kind.ImportDecl type_only) i h = refl
value_blind part.Default stays v w (kind.NamedExport type_only) i h = refl
value_blind part.Default stays v w _ i h = cc
value_blind part.Member stays v w k i h = refl
value_blind part.Var stays v w k i h = refl
value_blind (part.Name f) stays v w k i h = refl

list_sought : (p : Part) (stays v : Bool) (k : Kind) (i j : ℕ) → is_list k ≡ true → sought_by p stays v k i ≡ sought_by p stays v k j
unfolding in_scope in_item in_default in_member in_name
list_sought part.Scope stays v kind.List i j h = refl
list_sought part.Scope stays v _ i j h = cc
list_sought part.Item stays v kind.List i j h = refl
list_sought part.Item stays v _ i j h = cc
list_sought part.Default stays v kind.List i j h = refl
list_sought part.Default stays v _ i j h = cc
list_sought part.Member stays v kind.List i j h = refl
list_sought part.Member stays v _ i j h = cc
list_sought part.Var stays v k i j h = refl
list_sought (part.Name f) stays v kind.List i j h = refl
list_sought (part.Name f) stays v _ i j h = cc

or_fewer : (a b c e : Bool) → (a ≡ true → c ≡ true) → (b ≡ true → e ≡ true) → (a || b) ≡ true → (c || e) ≡ true
or_fewer true b c e f g h = ap (λ z. z || e) (f refl)
or_fewer false b true e f g h = refl
or_fewer false b false e f g h = g h

or_later : (a b c : Bool) → (a ≡ true → c ≡ true) → a ≡ true → (b || c) ≡ true
or_later a true c f h = refl
or_later a false c f h = f h

module _ (text : List ℕ) where
  -- what is kept of this text in the one is in the other
  abbrev pub Fewer : List Declaration → List Declaration → Type 0
  Fewer xs ys = keeps xs text ≡ true → keeps ys text ≡ true

  abbrev tells : Declaration → Bool
  tells e = bytes_eq e.sym text && e.stays

  pub append_fewer : (vs bs cs es : List Declaration) → Fewer vs cs → Fewer bs es → Fewer (vs ++ bs) (cs ++ es)
  append_fewer vs bs cs es f g h =
      list_any-append tells cs es ∙ or_fewer (keeps vs text) (keeps bs text) (keeps cs text) (keeps es text) f g (sym (list_any-append tells vs bs) ∙ h)

  after_fewer : (vs bs cs : List Declaration) → Fewer vs cs → Fewer vs (bs ++ cs)
  after_fewer vs bs cs f h = list_any-append tells bs cs ∙ or_later (keeps vs text) (keeps bs text) (keeps cs text) f h

  module _ (known : Known) where
    abbrev d : Dropping Seat
    d = dropping known

    abbrev pub Shrinks : Node → Type 0
    Shrinks m = (loses : Bool) (s : Seat) (q : Sought) → Fewer (declarations (to d loses s m) q) (declarations m q)

    at_fewer : (o : Option Sought) (loses : Bool) (s : Seat) (m : Node) → Shrinks m → Fewer (found_at o (declarations (to d loses s m))) (found_at o (declarations m))
    at_fewer None loses s m f h = h
    at_fewer (Some q) loses s m f h = f loses s q h

    whole_fewer : (into : ℕ → Option Sought) (o : ℕ → Bool) (g : ℕ → Seat) (ms : List Node) → ((i : ℕ) (c : Node) → slice_get ms i ≡ Some c → Shrinks c) → (i : ℕ)
        → Fewer (found_in into i (map declarations (each d o g ms))) (found_in into i (map declarations ms))
    whole_fewer into o g [] f i h = h
    whole_fewer into o g (m ∷ ms) f i h =
        append_fewer (found_at (into i) (declarations (to d (o 0) (g 0) m))) (found_in into (suc i) (map declarations (each d (λ j. o (suc j)) (λ j. g (suc j)) ms)))
        (found_at (into i) (declarations m)) (found_in into (suc i) (map declarations ms))
        (at_fewer (into i) (o 0) (g 0) m (f 0 m refl)) (whole_fewer into (λ j. o (suc j)) (λ j. g (suc j)) ms (λ j. f (suc j)) (suc i)) h

    items_fewer : (one : Option Sought) (s : Seat) (o : ℕ → Bool) (g : ℕ → Seat) (ms : List Node) → ((i : ℕ) (c : Node) → slice_get ms i ≡ Some c → Shrinks c) → (i j : ℕ)
        → Fewer (found_in (λ k. one) i (map declarations (each d o g (filter (λ c. not (d.drops s c)) ms)))) (found_in (λ k. one) j (map declarations ms))
    items_fewer one s o g [] f i j h = h
    items_fewer one s o g (m ∷ ms) f i j h =
        by (d.drops s m) (λ o' g' k. items_fewer one s o' g' ms (λ n. f (suc n)) k (suc j)) h
      where
        stay : List Node
        stay = filter (λ c. not (d.drops s c)) ms

        by : (b : Bool) → ((o' : ℕ → Bool) (g' : ℕ → Seat) (k : ℕ) → Fewer (found_in (λ n. one) k (map declarations (each d o' g' stay))) (found_in (λ n. one) (suc j) (map declarations ms)))
            → Fewer (found_in (λ k. one) i (map declarations (each d o g (cond (not b) (m ∷ stay) stay)))) (found_at one (declarations m) ++ found_in (λ k. one) (suc j) (map declarations ms))
        by true rest =
            after_fewer (found_in (λ k. one) i (map declarations (each d o g stay))) (found_at one (declarations m)) (found_in (λ k. one) (suc j) (map declarations ms)) (rest o g i)
        by false rest =
            append_fewer (found_at one (declarations (to d (o 0) (g 0) m))) (found_in (λ k. one) (suc i) (map declarations (each d (λ n. o (suc n)) (λ n. g (suc n)) stay)))
            (found_at one (declarations m)) (found_in (λ k. one) (suc j) (map declarations ms))
            (at_fewer one (o 0) (g 0) m (f 0 m refl)) (rest (λ n. o (suc n)) (λ n. g (suc n)) (suc i))

    pub shrink : (m : Node) → ((i : ℕ) (c : Node) → slice_get (below m) i ≡ Some c → Shrinks c) → may_shrink (kind_of m) ≡ true → Shrinks m
    unfolding sought_in
    shrink m f h loses s q = by (loses && is_list (kind_of m)) refl
      where
        e : Node
        e = to d loses s m

        o : ℕ → Bool
        o = loses_at d loses m

        g : ℕ → Seat
        g = seats_at d s m

        into : (i : ℕ) → sought_in q e i ≡ sought_in q m i
        into i =
            ap (λ k. sought_by q.part q.stays (is_value_where q.stays e) k i) (kind_to d loses s m)
            ∙ value_blind q.part q.stays (is_value_where q.stays e) (is_value_where q.stays m) (kind_of m) i h

        here : declared_here q (kind_of e) ≡ declared_here q (kind_of m)
        here = ap (declared_here q) (kind_to d loses s m)

        parts : (zs : List Node) → below e ≡ zs → Fewer (found_in (sought_in q m) 0 (map declarations zs)) (found_in (sought_in q m) 0 (map declarations (below m))) → Fewer (declarations e q) (declarations m q)
        parts zs is less v =
            ap (λ z. keeps z text) (declarations_out m q)
            ∙ append_fewer (declared_here q (kind_of m)) (found_in (sought_in q m) 0 (map declarations zs)) (declared_here q (kind_of m)) (found_in (sought_in q m) 0 (map declarations (below m))) (λ z. z) less
            (sym (ap (λ z. keeps z text) (declarations_out e q ∙ (λ j. here j ++ found_in (λ i. into i j) 0 (map declarations (is j))))) ∙ v)

        by : (b : Bool) → (loses && is_list (kind_of m)) ≡ b → Fewer (declarations e q) (declarations m q)
        by false w = parts (each d o g (below m)) (whole_to d loses s m w) (whole_fewer (sought_in q m) o g (below m) f 0)
        by true w =
            parts (each d o g (filter (λ c. not (d.drops s c)) (below m)))
            (below_to d loses s m ∙ ap (λ b. each d o g (cond b (filter (λ c. not (d.drops s c)) (below m)) (below m))) w)
            (subst (λ (z : ℕ → Option Sought). Fewer (found_in z 0 (map declarations (each d o g (filter (λ c. not (d.drops s c)) (below m))))) (found_in z 0 (map declarations (below m))))
            (λ j i. list_sought q.part q.stays (is_value_where q.stays m) (kind_of m) 0 i listed j)
            (items_fewer (sought_in q m 0) s o g (below m) f 0 0))
          where
            second : (a b : Bool) → (a && b) ≡ true → b ≡ true
            second true b h = h
            second false b h = cc

            listed : is_list (kind_of m) ≡ true
            listed = second loses (is_list (kind_of m)) w

    pub shrinks : (m : Node) → Sound m → Shrinks m
    shrinks = induct (λ m. Sound m → Shrinks m) (λ m f sound. by m f sound (is_spine (kind_of m)) refl)
      where
        by : (m : Node) → ((i : ℕ) (c : Node) → slice_get (below m) i ≡ Some c → Sound c → Shrinks c) → Sound m → (b : Bool) → is_spine (kind_of m) ≡ b → Shrinks m
        by m f sound true h loses s q = shrink m (λ i c at. f i c at (sound_below m sound i c at)) (ap (λ b. b || is_module (kind_of m)) h) loses s q
        by m f sound false h loses s q = subst (λ z. Fewer (declarations z q) (declarations m q)) (sym (still known m sound h loses s)) (λ v. v)

    -- the scope of the module
    filter_true : (ds : List Declaration) → filter (λ e. true) ds ≡ ds
    filter_true [] = refl
    filter_true (e ∷ ds) = ap (λ z. e ∷ z) (filter_true ds)

    abbrev item_names : Sought
    item_names = record { part = part.Scope; stays = true }

    abbrev var_names : Sought
    var_names = record { part = part.Var; stays = true }

    names_are : (n : Node) → module_names n ≡ declarations n item_names ++ cond (holds_vars role.Root (kind_of n)) (declarations n var_names) []
    names_are n = filter_true (declarations n item_names ++ cond (holds_vars role.Root (kind_of n)) (declarations n var_names) [])

    pub module_fewer : (m : Node) → Shrinks m → (loses : Bool) (s : Seat) → Fewer (module_names (to d loses s m)) (module_names m)
    module_fewer m f loses s h =
        ap (λ z. keeps z text) (names_are m)
        ∙ append_fewer (declarations e item_names) (vars e) (declarations m item_names) (cond holds (declarations m var_names) []) (f loses s item_names) (by holds)
        (sym (ap (λ z. keeps z text) (names_are e ∙ ap (λ k. declarations e item_names ++ cond (holds_vars role.Root k) (declarations e var_names) []) (kind_to d loses s m))) ∙ h)
      where
        e : Node
        e = to d loses s m

        holds : Bool
        holds = holds_vars role.Root (kind_of m)

        vars : Node → List Declaration
        vars n = cond holds (declarations n var_names) []

        by : (b : Bool) → Fewer (cond b (declarations e var_names) []) (cond b (declarations m var_names) [])
        by true = f loses s var_names
        by false = λ v. v
