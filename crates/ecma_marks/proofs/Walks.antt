-- A walk that tells nothing over a module tells nothing over it with one item more.
use Rattle.std.proofs.Common.{◌≡◌, ◌∙◌, ℕ, suc, List, [], ◌∷◌, ◌++◌, map, Option, None, refl, sym, ap}
use Rattle.ecma_kind.specs.declared.kind.Kind.{Kind}
use Rattle.ecma_kind.specs.declared.kind.Kind.TheVariants as kind
use Rattle.ecma_kind.specs.declared.span.Span.{Span}
use Rattle.ecma_tree.specs.Nodes.{node_of}
use Rattle.ecma_tree.specs.declared.node.Node.{Node, out-Node}
use Rattle.ecma_tree.proofs.Layers.{from_leaves-roll, from_leaves_out}
use Rattle.ecma_rules.specs.Failing.{failing_step, first_failing, least, least_from}
use Rattle.ecma_fits.proofs.Walks.{both_none, neither_least}
use Rattle.ecma_marks.proofs.Modules.{AreItems, IsItem, list_at, module_at}

module _ (A : Type 0) (place : A → Node → Option ℕ) (inside : A → Node → ℕ → A) where
  abbrev pub first : Node → A → Option ℕ
  first = first_failing A place inside

  first_roll : (span : Span) (k : Kind) (cs : List Node) (a : A) → first (node_of span k cs) a ≡ least (place a (node_of span k cs)) (least_from A (inside a (node_of span k cs)) 0 (map first cs))
  first_roll span k cs a = ap (λ f. f a) (from_leaves-roll (A → Option ℕ) (failing_step A place inside) (record { span = span; kind = k; children = cs }))

  first_out : (n : Node) (a : A) → first n a ≡ least (place a n) (least_from A (inside a n) 0 (map first (out-Node n).children))
  first_out n a = ap (λ f. f a) (from_leaves_out (A → Option ℕ) (failing_step A place inside) n)

  -- what is around a node matters as far as it tells, and as far as what is around its children does
  pub tells-alike : (n : Node) (a b : A) → place a n ≡ place b n → ((i : ℕ) → inside a n i ≡ inside b n i) → first n a ≡ first n b
  tells-alike n a b here below =
      first_out n a
      ∙ (λ j. least (here j) (least_from A (λ i. below i j) 0 (map first (out-Node n).children)))
      ∙ sym (first_out n b)

  -- a node without children
  pub leaf-tells : (span : Span) (k : Kind) (a : A) → place a (node_of span k []) ≡ None → first (node_of span k []) a ≡ None
  leaf-tells span k a here = first_roll span k [] a ∙ both_none (place a (node_of span k [])) None here refl

  -- one of three
  pub three-tell : (span : Span) (k : Kind) (c d e : Node) (a : A) → place a (node_of span k (c ∷ d ∷ e ∷ [])) ≡ None
      → first c (inside a (node_of span k (c ∷ d ∷ e ∷ [])) 0) ≡ None → first d (inside a (node_of span k (c ∷ d ∷ e ∷ [])) 1) ≡ None → first e (inside a (node_of span k (c ∷ d ∷ e ∷ [])) 2) ≡ None
      → first (node_of span k (c ∷ d ∷ e ∷ [])) a ≡ None
  three-tell span k c d e a here one two three =
      first_roll span k (c ∷ d ∷ e ∷ []) a
      ∙ (λ j. least (here j) (least (one j) (least (two j) (least (three j) None))))

  abbrev NoneTells : (ℕ → A) → ℕ → List Node → Type 0
  NoneTells around i ns = least_from A around i (map first ns) ≡ None

  append_tells : (around : ℕ → A) (i : ℕ) (ns : List Node) (e : Node) → NoneTells around i ns → ((j : ℕ) → first e (around j) ≡ None) → NoneTells around i (ns ++ e ∷ [])
  append_tells around i [] e h told = both_none (first e (around i)) None (told i) refl
  append_tells around i (n ∷ ns) e h told =
      let v = neither_least (first n (around i)) (least_from A around (suc i) (map first ns)) h in
      both_none (first n (around i)) (least_from A around (suc i) (map first (ns ++ e ∷ []))) v.0 (append_tells around (suc i) ns e v.1 told)

  other_tells : (around other : ℕ → A) → ((i : ℕ) (n : Node) → IsItem n → first n (around i) ≡ None → first n (other i) ≡ None) → (i : ℕ) (ns : List Node) → AreItems ns → NoneTells around i ns
      → NoneTells other i ns
  other_tells around other same i [] items h = refl
  other_tells around other same i (n ∷ ns) items h =
      let v = neither_least (first n (around i)) (least_from A around (suc i) (map first ns)) h in
      both_none (first n (other i)) (least_from A other (suc i) (map first ns)) (same i n items.0 v.0) (other_tells around other same (suc i) ns items.1 v.1)

  -- what is asked of a walk over a module, of its list, and of the item; with `a` around the module, and `b` around its list
  pub record Adds (span : Span) (shebang : Option (List ℕ)) (at : Span) (ns : List Node) (e : Node) (a b : A) : Type 0 where
    pub module' : place a (module_at span shebang at ns) ≡ None → place a (module_at span shebang at (ns ++ e ∷ [])) ≡ None
    pub around_list : (ms : List Node) → inside a (module_at span shebang at ms) 0 ≡ b
    pub list : place b (list_at at ns) ≡ None → place b (list_at at (ns ++ e ∷ [])) ≡ None
    pub items : (i : ℕ) (n : Node) → IsItem n → first n (inside b (list_at at ns) i) ≡ None → first n (inside b (list_at at (ns ++ e ∷ [])) i) ≡ None
    pub item : (i : ℕ) → first e (inside b (list_at at (ns ++ e ∷ [])) i) ≡ None

  pub with-one-more : (span : Span) (shebang : Option (List ℕ)) (at : Span) (ns : List Node) (e : Node) (a b : A) → AreItems ns → Adds span shebang at ns e a b
      → first (module_at span shebang at ns) a ≡ None → first (module_at span shebang at (ns ++ e ∷ [])) a ≡ None
  with-one-more span shebang at ns e a b items adds told =
      let before = module_at span shebang at ns in
      let after = module_at span shebang at (ns ++ e ∷ []) in
      let list = list_at at ns in
      let longer = list_at at (ns ++ e ∷ []) in
      let v = neither_least (place a before) (least (first list (inside a before 0)) None) (sym (first_roll span (kind.Module shebang) (list ∷ []) a) ∙ told) in
      let u = neither_least (first list (inside a before 0)) None v.1 in
      let w = neither_least (place b list) (least_from A (inside b list) 0 (map first ns)) (sym (first_roll at kind.List ns b) ∙ sym (ap (first list) (adds.around_list ns)) ∙ u.0) in
      let inner : first longer b ≡ None =
      first_roll at kind.List (ns ++ e ∷ []) b
      ∙ both_none (place b longer) (least_from A (inside b longer) 0 (map first (ns ++ e ∷ []))) (adds.list w.0)
      (append_tells (inside b longer) 0 ns e (other_tells (inside b list) (inside b longer) adds.items 0 ns items w.1) adds.item) in
      first_roll span (kind.Module shebang) (longer ∷ []) a
      ∙ both_none (place a after) (least (first longer (inside a after 0)) None) (adds.module' v.0)
      (both_none (first longer (inside a after 0)) None (ap (first longer) (adds.around_list (ns ++ e ∷ [])) ∙ inner) refl)
