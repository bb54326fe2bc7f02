-- What fits and is plain is as a plain module is read, with source texts.
use Rattle.std.proofs.Common.{◌≡◌, ◌∙◌, ℕ, suc, Bool, true, false, ◌&&◌, Option, Some, None, List, [], ◌∷◌, map, refl, sym, ap, ap₂, subst}
use Rattle.std.specs.List.{list_all}
use Rattle.std.proofs.lemmas.Bool.{false≢true}
use Rattle.ecma_kind.specs.declared.kind.Kind.{Kind}
use Rattle.ecma_kind.specs.declared.kind.Kind.TheVariants as kind
use Rattle.ecma_tree.specs.declared.node.Node.{Node, Node-F, fold-roll-Node, ind-Node, roll-Node}
use Rattle.ecma_tree.specs.Changing.{changed_here}
use Rattle.ecma_tree.specs.Nodes.{node_of}
use Rattle.ecma_text_leaves.specs.Everywhere.{Each, Everywhere, everywhere, more, none}
use Rattle.ecma_text_leaves.proofs.Trees.{children_good, children_made, kind_good, kind_made}
use Rattle.ecma_scope.specs.Laws.{without_contexts}
use Rattle.ecma_scope_fits.proofs.Moved.{kind_moved as bare_moved}
use Rattle.ecma_leaves.specs.Words.{is_spelled}
use Rattle.ecma_rules.specs.Children.{items_at, kind_of}
use Rattle.ecma_rules.specs.Failing.{least_from}
use Rattle.ecma_fits.specs.declared.unfit.Where.{Where}
use Rattle.ecma_fits.specs.Fitting.{at_top, first_unfit_in, unfit_here, where_in}
use Rattle.ecma_fits.specs.Roles.{is_tagged}
use Rattle.ecma_round_trip_literals.specs.Sources.{with_source, with_sources}
use Rattle.ecma_round_trip_literals.proofs.Contexts.{bare, functions_alike, items_alike}
use Rattle.ecma_round_trip_literals.proofs.Kept.{first-out, none_least, spelled_here, what_fits_fits_with_sources}
use Rattle.ecma_round_trip_literals.proofs.Moved.{Same, all_same, blind, child_same, children_of, fold_same, items_same, kind_moved, to}
use Rattle.ecma_round_trip_literals.proofs.Numerals.{big_utf8, number_utf8}
use Rattle.ecma_round_trip_literals.proofs.Tests.{by_kind}
use Rattle.ecma_round_trip_literals.proofs.Texts.{made_utf8}
use Rattle.ecma_plain.specs.Forms.{IsTaken}
use Rattle.ecma_plain.specs.Functions.{Functions, functions, functions_step}
use Rattle.ecma_plain.specs.Items.{HasUtf8Hashbang, has_plain_items, is_external, is_plain_item, is_plain_kind}
use Rattle.ecma_plain.specs.Plain.{IsPlain, IsPlainKind, IsUtf8OrNone}
use Rattle.ecma_plain.specs.Read.{IsReadPlain}
use Rattle.ecma_plain.specs.Writable.{IsWritable}
use Rattle.ecma_fits.specs.Fitting.{Fits}
use Rattle.ecma_fits.proofs.Clauses.{none_unfit}

-- ---- contexts and source texts have nothing to do with each other

kinds_commute : (k : Kind) → bare (with_source k) ≡ with_source (bare k)
kinds_commute (kind.Ident sym ctxt optional) = refl
kinds_commute (kind.Str value raw) = refl
kinds_commute (kind.Number value raw) = refl
kinds_commute (kind.BigInt value raw) = refl
kinds_commute _ = refl

abbrev pub Commutes : Node → Type 0
Commutes n = without_contexts (to n) ≡ to (without_contexts n)

all_commute : (es : List ((n : Node) × Commutes n)) → map without_contexts (map to (map (λ e. e.0) es)) ≡ map to (map without_contexts (map (λ e. e.0) es))
all_commute [] = refl
all_commute (e ∷ es) = ap₂ (λ a b. a ∷ b) e.1 (all_commute es)

layer_commutes : (x : Node-F Node) → map without_contexts (map to x.children) ≡ map to (map without_contexts x.children) → Commutes (roll-Node x)
layer_commutes x below =
    ap without_contexts (fold-roll-Node Node (changed_here (λ span. span) with_source) x)
    ∙ fold-roll-Node Node (changed_here (λ span. span) bare) (record { span = x.span; kind = with_source x.kind; children = map to x.children })
    ∙ ap₂ (λ (k : Kind) (cs : List Node). node_of x.span k cs) (kinds_commute x.kind) below
    ∙ sym (fold-roll-Node Node (changed_here (λ span. span) with_source) (record { span = x.span; kind = bare x.kind; children = map without_contexts x.children }))
    ∙ sym (ap to (fold-roll-Node Node (changed_here (λ span. span) bare) x))

pub commutes : (n : Node) → Commutes n
commutes = ind-Node Commutes (λ x y is. layer_commutes x (subst (λ (z : Node-F Node). map without_contexts (map to z.children) ≡ map to (map without_contexts z.children)) is (all_commute y.children)))

-- ---- what is said of each kind

taken_with_source : (tagged : Bool) (k : Kind) → IsPlainKind k → is_spelled tagged k ≡ true → IsTaken (with_source (bare k))
taken_with_source tagged (kind.Str value None) p spelled = (made_utf8 value p.1.0, refl)
taken_with_source tagged (kind.Str value (Some raw)) p spelled = (p.0, refl)
taken_with_source tagged (kind.Number None None) p spelled = absurd (false≢true spelled)
taken_with_source tagged (kind.Number None (Some raw)) p spelled = (p.0, refl)
taken_with_source tagged (kind.Number (Some value) None) p spelled = (number_utf8 value p.1 spelled, refl)
taken_with_source tagged (kind.Number (Some value) (Some raw)) p spelled = (p.0, refl)
taken_with_source tagged (kind.BigInt value None) p spelled = (big_utf8 value spelled, refl)
taken_with_source tagged (kind.BigInt value (Some raw)) p spelled = (p.0, refl)
taken_with_source tagged (kind.Ident sym ctxt optional) p spelled = ((p.0, refl, p.3), refl)
taken_with_source tagged (kind.Module shebang) p spelled = (tt, refl)
taken_with_source tagged _ p spelled = (p.0, p.2)

mutual
  taken_moved : {n : Node} → Everywhere IsPlainKind n → (w : Where) → first_unfit_in n w ≡ None → Everywhere IsTaken (to (without_contexts n))
  taken_moved (everywhere at k {children = cs} p below) w h =
      let n = node_of at k cs in
      let told = none_least (unfit_here w n) (least_from Where (where_in w n) 0 (map first_unfit_in (children_of n))) (sym (first-out n w) ∙ h) in
      let these : least_from Where (where_in w n) 0 (map first_unfit_in cs) ≡ None = ap (λ (z : List Node). least_from Where (where_in w n) 0 (map first_unfit_in z)) (sym (children_made at k cs)) ∙ told.1 in
      let spelled : is_spelled (is_tagged w.role) k ≡ true = ap (is_spelled (is_tagged w.role)) (sym (kind_made at k cs)) ∙ spelled_here w n told.0 in
      let bare_cs = map without_contexts cs in
      let is : without_contexts n ≡ node_of at (bare k) bare_cs = fold-roll-Node Node (changed_here (λ span. span) bare) (record { span = at; kind = k; children = cs }) in
      let whole : to (without_contexts n) ≡ node_of at (with_source (bare k)) (map to bare_cs) =
      ap to is ∙ fold-roll-Node Node (changed_here (λ span. span) with_source) (record { span = at; kind = bare k; children = bare_cs }) in
      subst (Everywhere IsTaken) (sym whole) (everywhere at (with_source (bare k)) (taken_with_source (is_tagged w.role) k p spelled) (all_taken below (where_in w n) 0 these))

  all_taken : {ns : List Node} → Each IsPlainKind ns → (around : ℕ → Where) (i : ℕ) → least_from Where around i (map first_unfit_in ns) ≡ None → Each IsTaken (map to (map without_contexts ns))
  all_taken none around i h = none
  all_taken (more {n} {ns} e es) around i h =
      let told = none_least (first_unfit_in n (around i)) (least_from Where around (suc i) (map first_unfit_in ns)) h in
      more (taken_moved e (around i) told.0) (all_taken es around (suc i) told.1)

mutual
  writable : {n : Node} → Everywhere IsPlainKind n → Everywhere IsWritable n
  writable (everywhere at k p below) = everywhere at k p.1 (all_writable below)

  all_writable : {ns : List Node} → Each IsPlainKind ns → Each IsWritable ns
  all_writable none = none
  all_writable (more e es) = more (writable e) (all_writable es)

-- ---- functions, items, and the hashbang

functions_same : (n : Node) → functions (to n) ≡ functions n
functions_same =
    fold_same Functions functions_step (λ span k cs. blind Functions (λ z. functions_step (record { span = span; kind = z; children = cs })) (λ v r s. refl, λ v r s. refl, λ v r s. refl) k)

plain_kind_same : (assignments : Bool) (k : Kind) (n : Node) → is_plain_kind assignments k (to n) ≡ is_plain_kind assignments k n
plain_kind_same assignments (kind.TsImportEqualsDecl is_export is_type_only) n = ap (λ b. assignments && b) (child_same is_external (λ v r s. refl, λ v r s. refl, λ v r s. refl) n 1)
plain_kind_same assignments _ n = refl

plain_item_same : (assignments : Bool) → Same (is_plain_item assignments)
plain_item_same assignments = by_kind (is_plain_kind assignments) (λ n. (λ v r s. refl, λ v r s. refl, λ v r s. refl)) (plain_kind_same assignments)

plain_items_same : (assignments : Bool) → Same (has_plain_items assignments)
plain_items_same assignments n = ap (λ (z : List Node). list_all (is_plain_item assignments) z) (items_same n 0) ∙ all_same (is_plain_item assignments) (plain_item_same assignments) (items_at n 0)

hashbang_in : (shebang : Option (List ℕ)) → IsUtf8OrNone shebang → HasUtf8Hashbang (kind.Module shebang)
hashbang_in None u = tt
hashbang_in (Some text) u = u

plain_hashbang : (k : Kind) → IsPlainKind k → HasUtf8Hashbang (with_source (bare k))
plain_hashbang (kind.Module shebang) p = hashbang_in shebang p.0
plain_hashbang (kind.Ident sym ctxt optional) p = tt
plain_hashbang (kind.Str value raw) p = tt
plain_hashbang (kind.Number value raw) p = tt
plain_hashbang (kind.BigInt value raw) p = tt
plain_hashbang _ p = tt

hashbang_moved : (n : Node) → Everywhere IsPlainKind n → HasUtf8Hashbang (kind_of (to (without_contexts n)))
hashbang_moved n e = subst HasUtf8Hashbang (sym (kind_moved (without_contexts n) ∙ ap with_source (bare_moved (λ sym ctxt. 0) n))) (plain_hashbang (kind_of n) (kind_good IsPlainKind e))

pub plain_with_sources : (assignments : Bool) (tree : Node) → Fits tree → IsPlain assignments tree → IsReadPlain assignments (with_sources tree)
plain_with_sources assignments tree fits is =
    let n = without_contexts tree in
    let same = sym (commutes tree) in
    record {
      fits = what_fits_fits_with_sources tree (writable is.kinds) fits;
      taken = subst (Everywhere IsTaken) same (taken_moved is.kinds at_top (none_unfit tree fits));
      usual = subst (λ m. (functions m).has_unusual ≡ false) same (ap (λ f. f.has_unusual) (functions_same n ∙ functions_alike tree) ∙ is.usual);
      items = subst (λ m. has_plain_items assignments m ≡ true) same (plain_items_same assignments n ∙ items_alike assignments tree ∙ is.items);
      hashbang = subst (λ m. HasUtf8Hashbang (kind_of m)) same (hashbang_moved tree is.kinds);
    }
