-- Trees whose items tell the same have the same interface.
use Rattle.std.proofs.Common.{◌≡◌, ◌∙◌, ◌⊎◌, inl, inr, ℕ, Bool, true, false, cond, List, [], ◌∷◌, ◌++◌, filter, flat_map, refl, sym, ap, ap₂}
use Rattle.ecma_tree.specs.declared.node.Node.{Node}
use Rattle.ecma_rules.specs.Children.{items_at}
use Rattle.ecma_strip.specs.Staying.{stays}
use Rattle.ecma_interface.specs.Interface.{Export, Import, Interface, ReExport}
use Rattle.ecma_interface.specs.Names.{Id}
use Rattle.ecma_interface.specs.Reading.{export, import, interface_of, re_export, without_repeats}

module _ {X : Type 0} where
  -- what goes, or tells nothing, adds nothing
  pub none_told : (told : Node → List X) (n : Node) (ns : List Node) → told n ≡ [] → flat_map told (filter stays (n ∷ ns)) ≡ flat_map told (filter stays ns)
  none_told told n ns silent = by (stays n)
    where
      by : (b : Bool) → flat_map told (cond b (n ∷ filter stays ns) (filter stays ns)) ≡ flat_map told (filter stays ns)
      by true = ap (λ xs. xs ++ flat_map told (filter stays ns)) silent
      by false = refl

  module _ (told again : Node → List X) where
    abbrev Same : Node → Node → Type 0
    Same a b = ((told a ≡ []) × (again b ≡ [])) ⊎ ((stays b ≡ stays a) × (stays a ≡ true → again b ≡ told a))

    abbrev AllSame : List Node → List Node → Type 0
    AllSame [] [] = Unit {0}
    AllSame (a ∷ ns) (b ∷ ms) = Same a b × AllSame ns ms
    AllSame _ _ = ⊥

    both_told : (s : Bool) (a b : Node) (ns ms : List Node) → (s ≡ true → again b ≡ told a) → flat_map again (filter stays ms) ≡ flat_map told (filter stays ns)
        → flat_map again (cond s (b ∷ filter stays ms) (filter stays ms)) ≡ flat_map told (cond s (a ∷ filter stays ns) (filter stays ns))
    both_told true a b ns ms first rest = ap₂ (λ xs ys. xs ++ ys) (first refl) rest
    both_told false a b ns ms first rest = rest

    one_told : (a b : Node) (ns ms : List Node) → Same a b → flat_map again (filter stays ms) ≡ flat_map told (filter stays ns)
        → flat_map again (filter stays (b ∷ ms)) ≡ flat_map told (filter stays (a ∷ ns))
    one_told a b ns ms (inl none) rest = none_told again b ms none.1 ∙ rest ∙ sym (none_told told a ns none.0)
    one_told a b ns ms (inr same) rest =
        ap (λ s. flat_map again (cond s (b ∷ filter stays ms) (filter stays ms))) same.0 ∙ both_told (stays a) a b ns ms same.1 rest

    all_told : (ns ms : List Node) → AllSame ns ms → flat_map again (filter stays ms) ≡ flat_map told (filter stays ns)
    all_told [] [] h = refl
    all_told [] (b ∷ ms) h = absurd h
    all_told (a ∷ ns) [] h = absurd h
    all_told (a ∷ ns) (b ∷ ms) h = one_told a b ns ms h.0 (all_told ns ms h.1)

-- an item that tells nothing, its variables known by these texts
abbrev pub IsSilent : (Id → List ℕ) → Node → Type 0
IsSilent text n = (import text n ≡ []) × (re_export n ≡ []) × (export text n ≡ [])

abbrev pub made_of : List Import → List ReExport → List Export → Interface
made_of imports re_exports exports = record { imports = imports; re_exports = re_exports; exports = without_repeats exports }

-- by the texts of the one tree, and by those of the other
module _ (text other : Id → List ℕ) where
  abbrev pub Tells : Node → Node → Type 0
  Tells a b = (import other b ≡ import text a) × (re_export b ≡ re_export a) × (export other b ≡ export text a)

  -- both tell nothing, or both go, or they stay and tell the same
  abbrev pub SameItem : Node → Node → Type 0
  SameItem a b = (IsSilent text a × IsSilent other b) ⊎ ((stays b ≡ stays a) × (stays a ≡ true → Tells a b))

  abbrev pub SameItems : List Node → List Node → Type 0
  SameItems [] [] = Unit {0}
  SameItems (a ∷ ns) (b ∷ ms) = SameItem a b × SameItems ns ms
  SameItems _ _ = ⊥

  imports_of : (a b : Node) → SameItem a b → Same (import text) (import other) a b
  imports_of a b (inl s) = let x : IsSilent text a = s.0 in let y : IsSilent other b = s.1 in inl (x.0, y.0)
  imports_of a b (inr s) = inr (s.0, λ e. (let t : Tells a b = s.1 e in t.0))

  again_of : (a b : Node) → SameItem a b → Same re_export re_export a b
  again_of a b (inl s) = let x : IsSilent text a = s.0 in let y : IsSilent other b = s.1 in inl (x.1, y.1)
  again_of a b (inr s) = inr (s.0, λ e. (let t : Tells a b = s.1 e in t.1))

  exports_of : (a b : Node) → SameItem a b → Same (export text) (export other) a b
  exports_of a b (inl s) = let x : IsSilent text a = s.0 in let y : IsSilent other b = s.1 in inl (x.2, y.2)
  exports_of a b (inr s) = inr (s.0, λ e. (let t : Tells a b = s.1 e in t.2))

  all_of : {X : Type 0} (told again : Node → List X) → ((a b : Node) → SameItem a b → Same told again a b) → (ns ms : List Node) → SameItems ns ms → AllSame told again ns ms
  all_of told again of [] [] h = tt
  all_of told again of [] (b ∷ ms) h = absurd h
  all_of told again of (a ∷ ns) [] h = absurd h
  all_of told again of (a ∷ ns) (b ∷ ms) h = (of a b h.0, all_of told again of ns ms h.1)

  pub interface_same : (tree m : Node) → SameItems (items_at tree 0) (items_at m 0) → interface_of other m ≡ interface_of text tree
  interface_same tree m h =
      let ns = items_at tree 0 in
      let ms = items_at m 0 in
      let imports = all_told (import text) (import other) ns ms (all_of (import text) (import other) imports_of ns ms h) in
      let again = all_told re_export re_export ns ms (all_of re_export re_export again_of ns ms h) in
      let exports = all_told (export text) (export other) ns ms (all_of (export text) (export other) exports_of ns ms h) in
      λ j. made_of (imports j) (again j) (exports j)
