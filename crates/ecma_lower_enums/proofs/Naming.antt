-- The equations of the names that matter, in a list and child by child.
use Rattle.std.proofs.Common.{◌≡◌, ◌∙◌, ℕ, ◌+◌, List, [], ◌∷◌, ◌++◌, drop, length, Some, refl, sym, ap, slice_get, append_assoc, arith}
use Rattle.std.proofs.lemmas.List.{append-nil, drop_all}
use Rattle.ecma_kind.specs.declared.ident.Ident.{Ident}
use Rattle.ecma_tree.proofs.Items.{drop-item}
use Rattle.ecma_tree.specs.declared.node.Node.{Node, out-Node}
use Rattle.ecma_walks.proofs.Walking.{adding-all, adding-first, adding-next, rest_listed}
use Rattle.ecma_lower_enums.specs.declared.known.EnumName.{EnumName}
use Rattle.ecma_lower_enums.specs.Names.{everywhere, member_name, member_names, names_here, names_in, specifier_name, specifier_names}

-- ---- in a list

module _ (each : Node → List EnumName) (all : List Node → List EnumName) (none : all [] ≡ []) (more : (n : Node) (ns : List Node) → all (n ∷ ns) ≡ each n ++ all ns) where
  next-by : (old now new : List EnumName) (ns : List Node) (i : ℕ) (x : Node) → slice_get ns i ≡ Some x → new ≡ now ++ each x
      → now ++ all (drop i ns) ≡ old → new ++ all (drop (i + 1) ns) ≡ old
  next-by old now new ns i x at is so_far =
      ap (λ z. z ++ all (drop (i + 1) ns)) is ∙ append_assoc now (each x) (all (drop (i + 1) ns))
      ∙ ap (λ z. now ++ z) (sym (ap all (drop-item ns i x at) ∙ more x (drop (i + 1) ns))) ∙ so_far

  end-by : (old now : List EnumName) (ns : List Node) (i : ℕ) → length ns ≡ i → now ++ all (drop i ns) ≡ old → now ≡ old
  end-by old now ns i e so_far = sym (append-nil now) ∙ ap (λ z. now ++ z) (sym (ap all (drop_all i ns (omega (arith, e))) ∙ none)) ∙ so_far

module _ (of : Ident) where
  pub members-next : (old now new : List EnumName) (ns : List Node) (i : ℕ) (x : Node) → slice_get ns i ≡ Some x → new ≡ now ++ member_name of x
      → now ++ member_names of (drop i ns) ≡ old → new ++ member_names of (drop (i + 1) ns) ≡ old
  members-next = next-by (member_name of) (member_names of) refl (λ n ns. refl)

  pub members-end : (old now : List EnumName) (ns : List Node) (i : ℕ) → length ns ≡ i → now ++ member_names of (drop i ns) ≡ old → now ≡ old
  members-end = end-by (member_name of) (member_names of) refl (λ n ns. refl)

pub specifiers-next : (old now new : List EnumName) (ns : List Node) (i : ℕ) (x : Node) → slice_get ns i ≡ Some x → new ≡ now ++ specifier_name x
    → now ++ specifier_names (drop i ns) ≡ old → new ++ specifier_names (drop (i + 1) ns) ≡ old
specifiers-next = next-by specifier_name specifier_names refl (λ n ns. refl)

pub specifiers-end : (old now : List EnumName) (ns : List Node) (i : ℕ) → length ns ≡ i → now ++ specifier_names (drop i ns) ≡ old → now ≡ old
specifiers-end = end-by specifier_name specifier_names refl (λ n ns. refl)

-- ---- in a node

-- the names in the children from the one at i on
abbrev pub rest_names : Node → ℕ → List EnumName
rest_names n = rest_listed (Unit {0}) EnumName everywhere names_here tt n

module _ (n : Node) where
  pub names-first : (old new : List EnumName) → new ≡ old ++ names_here tt n → new ++ rest_names n 0 ≡ old ++ names_in n
  names-first = adding-first (Unit {0}) EnumName everywhere names_here tt n

  pub names-next : (old now new : List EnumName) (i : ℕ) (x : Node) → slice_get (out-Node n).children i ≡ Some x
      → now ++ rest_names n i ≡ old ++ names_in n → new ≡ now ++ names_in x → new ++ rest_names n (i + 1) ≡ old ++ names_in n
  names-next old now new i x at so_far is = adding-next (Unit {0}) EnumName everywhere names_here tt n (old ++ names_in n) now new i x at is so_far

  pub names-all : (old now : List EnumName) (i : ℕ) → length (out-Node n).children ≡ i → now ++ rest_names n i ≡ old ++ names_in n → now ≡ old ++ names_in n
  names-all old now = adding-all (Unit {0}) EnumName everywhere names_here tt n (old ++ names_in n) now
