-- Leaves stay spelled with other texts, where each of these is spelled as an identifier is.
use Rattle.std.proofs.Common.{◌≡◌, ◌∙◌, ℕ, suc, Bool, true, false, cond, not, List, [], ◌∷◌, map, Option, Some, None, refl, sym, ap, ap₂, subst, bytes_eq}
use Rattle.ecma_kind.specs.declared.kind.Kind.{Kind}
use Rattle.ecma_kind.specs.declared.kind.Kind.TheVariants as kind
use Rattle.ecma_kind.specs.declared.span.Span.{Span}
use Rattle.ecma_tree.specs.declared.node.Node.{Node, out-Node}
use Rattle.ecma_tree.specs.Nodes.{node_of}
use Rattle.ecma_leaves.specs.Words.{is_spelled}
use Rattle.ecma_rules.specs.Children.{kind_of}
use Rattle.ecma_rules.specs.Failing.{failing_here, failing_step, first_failing, least, least_from}
use Rattle.ecma_fits.specs.declared.role.Role.{Role}
use Rattle.ecma_fits.specs.declared.role.Role.TheVariants as role
use Rattle.ecma_fits.specs.declared.unfit.Where.{Where}
use Rattle.ecma_fits.specs.Fitting.{at_top, where_in}
use Rattle.ecma_fits.specs.Roles.{by, is_assigned, is_tagged, role_in}
use Rattle.ecma_scope.specs.Resolved.{is_name}
use Rattle.ecma_hygiene.specs.declared.spot.Spot.{Spot}
use Rattle.ecma_hygiene.specs.declared.spot.Spot.TheVariants as spot
use Rattle.ecma_hygiene.specs.declared.spot.Standing.{Standing}
use Rattle.ecma_hygiene.specs.Renamed.{Texts, at_root, changed_from, first_item, is_sourced, key_name, key_of, kind_is_absent, kind_with_text, lone_name, name_of, old_name, old_name_by, property_key, proto, proto_in_brackets, proto_literal, shared_by, shorthand, standing_in, two_names, with_default}
use Rattle.ecma_hygiene_scopes.proofs.Growing.{OldName, grown, grown_by, grown_pattern}
use Rattle.ecma_hygiene_scopes.proofs.Parts.{children-of, kind-of}
use Rattle.ecma_hygiene_fits.specs.Spelled.{AreSpelled, is_misspelled, is_spelled_text}
use Rattle.ecma_hygiene_fits.specs.Laws.{FinalTextsKeepSpelling}
use Rattle.ecma_hygiene_fits.proofs.SpelledProto.{proto_spelled}
use Rattle.ecma_hygiene_fits.proofs.Becoming.{all_become, become, become-out, children_become, old_of, own_kind}
use Rattle.ecma_hygiene_fits.proofs.Everywhere.{Each, children_of, everywhere}
use Rattle.ecma_hygiene_fits.proofs.SpelledRoles.{Alike, alike_same, alike_then, default_alike, value_alike}
use Rattle.ecma_hygiene_fits.proofs.Walk.{neither_least, not_failing}
use Rattle.ecma_tree.proofs.Layers.{from_leaves_out}

pub not_false : (b : Bool) → not b ≡ false → b ≡ true
not_false true h = refl
not_false false h = cc

abbrev here : Where → Node → Option ℕ
here w n = failing_here (is_misspelled w n) n

abbrev first : Node → Where → Option ℕ
first = first_failing Where here where_in

first-out : (n : Node) (w : Where) → first n w ≡ least (here w n) (least_from Where (where_in w n) 0 (map first (children_of n)))
first-out n w = ap (λ f. f w) (from_leaves_out (Where → Option ℕ) (failing_step Where here where_in) n)

-- ---- what is spelled in a tree

-- each leaf of a node is spelled, as it stands somewhere
abbrev Fine : Node → Type 0
Fine n = (w : Where) × (first n w ≡ None)

told : (n : Node) (w : Where) → first n w ≡ None → (here w n ≡ None) × (least_from Where (where_in w n) 0 (map first (children_of n)) ≡ None)
told n w h = neither_least (here w n) (least_from Where (where_in w n) 0 (map first (children_of n))) (sym (first-out n w) ∙ h)

spelled_here : (n : Node) (w : Where) → first n w ≡ None → is_spelled (is_tagged w.role) (kind_of n) ≡ true
spelled_here n w h = not_false (is_spelled (is_tagged w.role) (kind_of n)) (not_failing (is_misspelled w n) n (told n w h).0)

fine_from : (cs : List Node) (around : ℕ → Where) (i : ℕ) → least_from Where around i (map first cs) ≡ None → Each Fine cs
fine_from [] around i h = tt
fine_from (c ∷ cs) around i h = let t = neither_least (first c (around i)) (least_from Where around (suc i) (map first cs)) h in ((around i, t.0), fine_from cs around (suc i) t.1)

fine_below : (n : Node) → Fine n → Each Fine (children_of n)
fine_below n f = fine_from (children_of n) (where_in f.0 n) 0 (told n f.0 f.1).1

-- ---- the identifier whose text is also a key, or a name for others

pub none_some : {A : Type 0} {X : Type 0} {x : X} → ◌≡◌ {A = Option X} None (Some x) → A
none_some h = cc

pub some_same : {X : Type 0} {x y : X} → Some x ≡ Some y → x ≡ y
some_same h = cc

fine_shorthand : (s : Spot) (n m : Node) → Fine n → shorthand s n ≡ Some m → Fine m
fine_shorthand spot.Property n m f h = subst Fine (some_same h) f
fine_shorthand _ n m f h = none_some h

fine_lone : (cs : List Node) (m : Node) → Each Fine cs → lone_name cs ≡ Some m → Fine m
fine_lone [] m f h = none_some h
fine_lone (a ∷ []) m f h = none_some h
fine_lone (a ∷ b ∷ []) m f h = by_other (kind_is_absent b) h
  where
    by_other : (gone : Bool) → cond gone (Some a) None ≡ Some m → Fine m
    by_other true e = subst Fine (some_same e) f.0
    by_other false e = none_some e
fine_lone (a ∷ b ∷ c ∷ cs) m f h = none_some h

fine_first : (cs : List Node) (m : Node) → Each Fine cs → first_item cs ≡ Some m → Fine m
fine_first [] m f h = none_some h
fine_first (c ∷ cs) m f h = subst Fine (some_same h) f.0

fine_key : (cs : List Node) (m : Node) → Each Fine cs → key_name cs ≡ Some m → Fine m
fine_key [] m f h = none_some h
fine_key (a ∷ []) m f h = none_some h
fine_key (a ∷ b ∷ []) m f h = fine_first (children_of a) m (fine_below a f.0) h
fine_key (a ∷ b ∷ c ∷ cs) m f h = none_some h

fine_shared : (stands : Standing) (k : Kind) (n m : Node) → Fine n → shared_by stands k n ≡ Some m → Fine m
unfolding shared_by
fine_shared stands (kind.Ident sym_ ctxt optional) n m f h = fine_shorthand stands.spot n m f h
fine_shared stands (kind.ImportNamedSpecifier t) n m f h = fine_lone (children_of n) m (fine_below n f) h
fine_shared stands (kind.ExportNamedSpecifier t) n m f h = by_source (is_sourced stands.role) h
  where
    by_source : (sourced : Bool) → cond sourced None (lone_name (children_of n)) ≡ Some m → Fine m
    by_source true e = none_some e
    by_source false e = fine_lone (children_of n) m (fine_below n f) e
fine_shared stands kind.AssignPatProp n m f h = fine_key (children_of n) m (fine_below n f) h
fine_shared stands _ n m f h = none_some h

-- ---- a tree is spelled wherever it stands so

-- as it stands in a role, or in one by which nodes are read alike
abbrev Good : Role → Node → Type 0
Good r n = (w : Where) → Alike r w.role → first n w ≡ None

abbrev Under : (ℕ → Role) → ℕ → List Node → Type 0
Under roles i [] = Unit {0}
Under roles i (c ∷ cs) = Good (roles i) c × Under roles (suc i) cs

good_alike : {r s : Role} (n : Node) → Good r n → Alike r s → Good s n
good_alike {r} {s} n g a w b = g w (alike_then a b)

none_from : (roles : ℕ → Role) (i : ℕ) (cs : List Node) → Under roles i cs → (around : ℕ → Where) → ((j : ℕ) → (let w = around j in Alike (roles j) w.role)) → least_from Where around i (map first cs) ≡ None
none_from roles i [] u around a = refl
none_from roles i (c ∷ cs) u around a = ap₂ least (u.0 (around i) (a i)) (none_from roles (suc i) cs u.1 around a)

good_parts : (r : Role) (span : Span) (k : Kind) (cs : List Node) → is_spelled (is_tagged r) k ≡ true → Under (role_in r k) 0 cs → Good r (node_of span k cs)
good_parts r span k cs s u w a =
    let n = node_of span k cs in
    let spelled : is_misspelled w n ≡ false = ap (λ z. not (is_spelled (is_tagged w.role) z)) (kind-of span k cs) ∙ ap (λ t. not (is_spelled t k)) (sym a.tagged) ∙ ap not s in
    let below : (j : ℕ) → Alike (role_in r k j) (role_in w.role (kind_of n) j) = λ j. alike_same (a.below k j ∙ ap (λ z. role_in w.role z j) (sym (kind-of span k cs))) in
    first-out n w
    ∙ ap₂ least (ap (λ b. failing_here b n) spelled) (ap (λ zs. least_from Where (where_in w n) 0 (map first zs)) (children-of span k cs) ∙ none_from (role_in r k) 0 cs u (where_in w n) below)

good_leaf : (r : Role) (span : Span) (k : Kind) → is_spelled (is_tagged r) k ≡ true → Good r (node_of span k [])
good_leaf r span k s = good_parts r span k [] s tt

-- ---- what is written out

module _ (old : OldName) (spelled : is_spelled_text old.text ≡ true) where
  good_key : (r : Role) → Good r (key_of old)
  good_key r = good_leaf r old.span (kind.IdentName old.text) spelled

  good_brackets : (r : Role) (span : Span) → Good r (proto_in_brackets span)
  good_brackets r span =
      good_parts r span kind.ComputedPropName (node_of span proto_literal [] ∷ []) refl
      (good_leaf (role_in r kind.ComputedPropName 0) span proto_literal proto_spelled, tt)

  good_property_key : (r : Role) → Good r (property_key old)
  good_property_key r = by_text (bytes_eq old.text proto)
    where
      by_text : (b : Bool) → Good r (cond b (proto_in_brackets old.span) (key_of old))
      by_text true = good_brackets r old.span
      by_text false = good_key r

  good_name : (r : Role) → Good r (name_of old)
  good_name r = good_leaf r old.span (kind.Ident old.text 0 false) spelled

  good_names : (roles : ℕ → Role) (cs : List Node) → Under roles 0 cs → Under roles 0 (two_names old cs)
  good_names roles [] u = u
  good_names roles (a ∷ []) u = u
  good_names roles (a ∷ b ∷ []) u = (u.0, (good_name (roles 1), tt))
  good_names roles (a ∷ b ∷ c ∷ cs) u = u

  -- a shorthand pattern
  good_pattern : (r : Role) (span : Span) (cs : List Node) → Under (role_in r kind.AssignPatProp) 0 cs → Good r (grown_pattern old span cs)
  unfolding role_in
  good_pattern r span [] u = good_parts r span kind.AssignPatProp [] refl u
  good_pattern r span (a ∷ []) u = good_parts r span kind.AssignPatProp (a ∷ []) refl u
  good_pattern r span (a ∷ b ∷ []) u = good_parts r span kind.KeyValuePatProp (key_of old ∷ with_default span a b ∷ []) refl (good_key role.Free, (value (kind_is_absent b), tt))
    where
      value : (gone : Bool) → Good (by r role.AssignedValue role.DeclaredValue) (cond gone a (node_of span kind.AssignPat (a ∷ b ∷ [])))
      value true = good_alike a u.0 (value_alike (is_assigned r))
      value false = good_parts (by r role.AssignedValue role.DeclaredValue) span kind.AssignPat (a ∷ b ∷ []) refl (good_alike a u.0 (default_alike (is_assigned r)), (u.1.0, tt))
  good_pattern r span (a ∷ b ∷ c ∷ cs) u = good_parts r span kind.AssignPatProp (a ∷ b ∷ c ∷ cs) refl u

  good_grown : (r : Role) (span : Span) (k : Kind) (cs : List Node) → is_spelled (is_tagged r) k ≡ true → Under (role_in r k) 0 cs → Good r (grown_by old span k cs)
  unfolding role_in
  good_grown r span (kind.Ident sym_ ctxt optional) cs s u =
      good_parts r span kind.KeyValueProp (property_key old ∷ node_of span (kind.Ident sym_ ctxt optional) cs ∷ []) refl
      (good_property_key role.Free, (good_parts role.Free span (kind.Ident sym_ ctxt optional) cs s u, tt))
  good_grown r span (kind.ImportNamedSpecifier t) cs s u = good_parts r span (kind.ImportNamedSpecifier t) (two_names old cs) s (good_names (role_in r (kind.ImportNamedSpecifier t)) cs u)
  good_grown r span (kind.ExportNamedSpecifier t) cs s u = good_parts r span (kind.ExportNamedSpecifier t) (two_names old cs) s (good_names (role_in r (kind.ExportNamedSpecifier t)) cs u)
  good_grown r span kind.AssignPatProp cs s u = good_pattern r span cs u
  good_grown r span k cs s u = good_parts r span k cs s u

-- ---- whole trees

module _ (texts : Texts) (are : AreSpelled texts) where
  old_spelled : (span : Span) (k : Kind) (tagged : Bool) (old : OldName) → is_spelled tagged k ≡ true → old_name_by texts span k ≡ Some old → is_spelled_text old.text ≡ true
  old_spelled span (kind.Ident sym_ ctxt optional) tagged old s h = by_text (texts (sym_, ctxt)) h
    where
      by_change : (same : Bool) (it : OldName) → is_spelled_text it.text ≡ true → cond same None (Some it) ≡ Some old → is_spelled_text old.text ≡ true
      by_change true it t e = none_some e
      by_change false it t e = subst (λ (z : OldName). is_spelled_text z.text ≡ true) (some_same e) t

      by_text : (o : Option (List ℕ)) → changed_from o sym_ span ≡ Some old → is_spelled_text old.text ≡ true
      by_text (Some text) e = by_change (bytes_eq text sym_) (record { text = sym_; span = span }) s e
      by_text None e = none_some e
  old_spelled span _ tagged old s h = none_some h

  old_of_node : (n : Node) (stands : Standing) (old : OldName) → Fine n → old_of texts n stands ≡ Some old → is_spelled_text old.text ≡ true
  old_of_node n stands old f h = go (shared_by stands (kind_of n) n) refl h
    where
      go : (o : Option Node) → shared_by stands (kind_of n) n ≡ o → old_name texts o ≡ Some old → is_spelled_text old.text ≡ true
      go None e g = none_some g
      go (Some m) e g =
          let fine : Fine m = fine_shared stands (kind_of n) n m f e in
          old_spelled (out-Node m).span (kind_of m) (is_tagged fine.0.role) old (spelled_here m fine.0 fine.1) g

  own_spelled : (named : Bool) (k : Kind) (tagged : Bool) → is_spelled tagged k ≡ true → is_spelled tagged (kind_with_text texts named k) ≡ true
  own_spelled true k tagged s = s
  own_spelled false (kind.Ident sym_ ctxt optional) tagged s = by_text (texts (sym_, ctxt)) refl
    where
      by_text : (o : Option (List ℕ)) → texts (sym_, ctxt) ≡ o → is_spelled tagged (kind_with_text texts false (kind.Ident sym_ ctxt optional)) ≡ true
      by_text (Some text) e = rw e (are (sym_, ctxt) text e)
      by_text None e = rw e s
  own_spelled false _ tagged s = s

  own_roles : (named : Bool) (k : Kind) (r : Role) (i : ℕ) → role_in r k i ≡ role_in r (kind_with_text texts named k) i
  unfolding role_in
  own_roles true k r i = refl
  own_roles false (kind.Ident sym_ ctxt optional) r i = refl
  own_roles false _ r i = refl

  -- what is shown of each node
  abbrev Kept : Node → Type 0
  Kept n = (w : Where) → first n w ≡ None → (stands : Standing) → Good w.role (become texts n stands)

  children_kept : (cs : List Node) → Each Kept cs → (around : ℕ → Where) (roles : ℕ → Role) → ((j : ℕ) → (let w = around j in w.role ≡ roles j)) → (i : ℕ) → least_from Where around i (map first cs) ≡ None
      → (stands : ℕ → Standing) → Under roles i (all_become texts stands i cs)
  children_kept [] e around roles a i h stands = tt
  children_kept (c ∷ cs) e around roles a i h stands =
      let t = neither_least (first c (around i)) (least_from Where around (suc i) (map first cs)) h in
      (good_alike (become texts c (stands i)) (e.0 (around i) t.0 (stands i)) (alike_same (a i)), children_kept cs e.1 around roles a (suc i) t.1 stands)

  good_maybe_grown : (o : Option OldName) → ((old : OldName) → o ≡ Some old → is_spelled_text old.text ≡ true) → (r : Role) (span : Span) (k : Kind) (cs : List Node) → is_spelled (is_tagged r) k ≡ true → Under (role_in r k) 0 cs
      → Good r (grown o span k cs)
  good_maybe_grown None f r span k cs s u = good_parts r span k cs s u
  good_maybe_grown (Some old) f r span k cs s u = good_grown old (f old refl) r span k cs s u

  node_kept : (n : Node) → Each Kept (children_of n) → Kept n
  node_kept n below w h stands =
      let named = is_name stands.role in
      let each : Under (role_in w.role (own_kind texts n stands)) 0 (children_become texts n stands) =
      children_kept (children_of n) below (where_in w n) (role_in w.role (own_kind texts n stands)) (λ j. own_roles named (kind_of n) w.role j) 0 (told n w h).1 (standing_in stands n) in
      subst (Good w.role) (sym (become-out texts n stands))
      (good_maybe_grown (old_of texts n stands) (λ old e. old_of_node n stands old (w, h) e) w.role (out-Node n).span (own_kind texts n stands) (children_become texts n stands)
      (own_spelled named (kind_of n) (is_tagged w.role) (spelled_here n w h)) each)

  pub kept_everywhere : (n : Node) → Kept n
  kept_everywhere = everywhere Kept node_kept

pub spelling_kept : FinalTextsKeepSpelling
spelling_kept texts tree are h = kept_everywhere texts are tree at_top h at_root at_top (alike_same refl)
