-- Nodes of a kind without texts of its own.
use Rattle.std.proofs.Common.{◌≡◌, inl, true, List, [], ◌∷◌, ◌++◌, map, length, refl, sym, ap, ◌∙◌, subst}
use Rattle.ecma_kind.specs.Sorts.{belongs}
use Rattle.ecma_kind.specs.declared.span.Span.{Span}
use Rattle.ecma_kind.specs.declared.kind.Kind.{Kind}
use Rattle.ecma_kind.specs.declared.kind.Kind.TheVariants as kind
use Rattle.ecma_kind.specs.declared.shapes.Sort.{Sort}
use Rattle.ecma_kind.specs.declared.shapes.Sort.TheVariants as sort
use Rattle.ecma_tree.specs.Nodes.{node_of}
use Rattle.ecma_tree.specs.Sorted.{is_absent}
use Rattle.ecma_tree.specs.declared.node.Node.{Node}
use Rattle.ecma_tree.specs.declared.node.Node.TheViews.{out-roll-Node}
use Rattle.ecma_grammar.specs.declared.production.Plain.{Plain}
use Rattle.ecma_grammar.specs.declared.production.Plain.TheVariants as plain
use Rattle.ecma_grammar.specs.trees.Plain.{plain_kind}
use Rattle.ecma_grammar.specs.trees.Parts.{span_of, from_to, in_front}
use Rattle.ecma_grammar_laws.specs.RawSorts.{RawShape, HasRawShape, HasRawSort, allows_raw, child_shapes_raw, field_shapes_raw, sorted, one, maybe}
use Rattle.ecma_grammar_laws.proofs.RawShapes.{HaveRaw, both, node_has, in_front_is}
use Rattle.ecma_grammar_laws.proofs.Asks.{Chained, expressions, sort_of, Ask, any, shape, pattern, key, behind, link, optional_link, head, head_start, head_rest, template_item, is_annotated, IsHead, BeginsHead, Meets, MeetAll, Given, shape_fits}
use Rattle.ecma_grammar_laws.proofs.Needs.{shapes, first_takes, without_first, kind_needs, node_needs}
use Rattle.ecma_grammar_laws.proofs.Fits.{no, or_left, or_right, shape_fits_sound}
use Rattle.ecma_grammar_laws.proofs.forms.Making.{given_so, have_raw, as_many, made_sorted}
use Rattle.ecma_grammar_laws.proofs.forms.Links.{link_sorted}

-- the head of a loop
of_loop : (span : Span) (k : Kind) (xs : List Node) → ((at : Span) (body : Node) → HasRawSort sort.Stmt body → HasRawSort sort.Stmt (node_of at k (xs ++ body ∷ []))) → IsHead (node_of span k xs)
of_loop span k xs f = λ at body h.
    subst (λ p. HasRawSort sort.Stmt (node_of at p.kind (p.children ++ body ∷ []))) (sym (out-roll-Node (record { span = span; kind = k; children = xs }))) (f at body h)

head_made : (span : Span) (k : Kind) (xs : List Node) → Given (kind_needs k head) xs → IsHead (node_of span k xs)
head_made span kind.ForStmt (init ∷ test ∷ update ∷ []) m =
    of_loop span kind.ForStmt (init ∷ test ∷ update ∷ []) (λ at body h. made_sorted sort.Stmt at kind.ForStmt (init ∷ test ∷ update ∷ body ∷ []) refl (m.0, (m.1.0, (m.1.1.0, (h, tt)))))
head_made span kind.ForStmt [] m = absurd m
head_made span kind.ForStmt (init ∷ []) m = absurd m.1
head_made span kind.ForStmt (init ∷ test ∷ []) m = absurd m.1.1
head_made span kind.ForStmt (init ∷ test ∷ update ∷ z ∷ zs) m = absurd m.1.1.1
head_made span kind.ForInStmt (left ∷ right ∷ []) m =
    of_loop span kind.ForInStmt (left ∷ right ∷ []) (λ at body h. made_sorted sort.Stmt at kind.ForInStmt (left ∷ right ∷ body ∷ []) refl (m.0, (m.1.0, (h, tt))))
head_made span kind.ForInStmt [] m = absurd m
head_made span kind.ForInStmt (left ∷ []) m = absurd m.1
head_made span kind.ForInStmt (left ∷ right ∷ z ∷ zs) m = absurd m.1.1
head_made span (kind.ForOfStmt w) (left ∷ right ∷ []) m =
    of_loop span (kind.ForOfStmt w) (left ∷ right ∷ []) (λ at body h. made_sorted sort.Stmt at (kind.ForOfStmt w) (left ∷ right ∷ body ∷ []) refl (m.0, (m.1.0, (h, tt))))
head_made span (kind.ForOfStmt w) [] m = absurd m
head_made span (kind.ForOfStmt w) (left ∷ []) m = absurd m.1
head_made span (kind.ForOfStmt w) (left ∷ right ∷ z ∷ zs) m = absurd m.1.1
head_made span _ xs m = absurd m

-- the rest of a head, once it stands behind what begins the head
head_in_front : (x : Node) (span : Span) (k : Kind) (xs : List Node) → IsHead (node_of (from_to (span_of x).lo span.hi) k xs) → (y : Node) (ys : List Node) → xs ≡ x ∷ ys → IsHead (in_front x (node_of span k (y ∷ ys)))
head_in_front x span k xs f y ys e = subst IsHead (sym (in_front_is x span k (y ∷ ys))) (subst (λ l. IsHead (node_of (from_to (span_of x).lo span.hi) k l)) e f)

rest_made : (span : Span) (k : Kind) (xs : List Node) → Given (kind_needs k head_rest) xs → (x : Node) → BeginsHead x → IsHead (in_front x (node_of span k xs))
rest_made span kind.ForStmt (y ∷ test ∷ update ∷ []) m x b = head_in_front x span kind.ForStmt (x ∷ test ∷ update ∷ []) (head_made _ kind.ForStmt (x ∷ test ∷ update ∷ []) (b.0, m.1)) y (test ∷ update ∷ []) refl
rest_made span kind.ForStmt [] m x b = absurd m
rest_made span kind.ForStmt (y ∷ []) m x b = absurd m.1
rest_made span kind.ForStmt (y ∷ test ∷ []) m x b = absurd m.1.1
rest_made span kind.ForStmt (y ∷ test ∷ update ∷ z ∷ zs) m x b = absurd m.1.1.1
rest_made span kind.ForInStmt (y ∷ right ∷ []) m x b = head_in_front x span kind.ForInStmt (x ∷ right ∷ []) (head_made _ kind.ForInStmt (x ∷ right ∷ []) (b.1, m.1)) y (right ∷ []) refl
rest_made span kind.ForInStmt [] m x b = absurd m
rest_made span kind.ForInStmt (y ∷ []) m x b = absurd m.1
rest_made span kind.ForInStmt (y ∷ right ∷ z ∷ zs) m x b = absurd m.1.1
rest_made span (kind.ForOfStmt w) (y ∷ right ∷ []) m x b = head_in_front x span (kind.ForOfStmt w) (x ∷ right ∷ []) (head_made _ (kind.ForOfStmt w) (x ∷ right ∷ []) (b.1, m.1)) y (right ∷ []) refl
rest_made span (kind.ForOfStmt w) [] m x b = absurd m
rest_made span (kind.ForOfStmt w) (y ∷ []) m x b = absurd m.1
rest_made span (kind.ForOfStmt w) (y ∷ right ∷ z ∷ zs) m x b = absurd m.1.1
rest_made span _ xs m x b = absurd m

-- what stands in `?.` begins with an expression
base_takes : (k : Kind) → belongs sort.OptChainBase k ≡ true → first_takes expressions (shapes k) ≡ true
base_takes kind.MemberExpr h = refl
base_takes kind.OptCall h = refl
base_takes _ h = no h

-- of a kind whose children do not depend on where it stands
module _ (k : Kind) (fixed : (s : RawShape) → child_shapes_raw k s (length (shapes k)) ≡ shapes k) where
  children_have : (s : RawShape) (xs : List Node) → HaveRaw (shapes k) xs → HaveRaw (child_shapes_raw k s (length xs)) xs
  children_have s xs h = subst (λ ss. HaveRaw ss xs) (sym (ap (child_shapes_raw k s) (as_many (shapes k) xs h) ∙ fixed s)) h

  shaped : (s : RawShape) (span : Span) (xs : List Node) → allows_raw s k ≡ true → MeetAll (map shape (shapes k)) xs → HasRawShape s (node_of span k xs)
  shaped s span xs b m = node_has span k xs s b (children_have s xs (have_raw (shapes k) xs m))

  -- with what stands before it as its first child
  with_first : (c s : Sort) (s0 : RawShape) (ss : List RawShape) → shapes k ≡ s0 ∷ ss → shape_fits (one (sorted c)) s0 ≡ true → belongs s k ≡ true
      → (span : Span) (xs : List Node) → MeetAll (any ∷ map shape ss) xs → (x : Node) → HasRawSort c x → HasRawSort s (in_front x (node_of span k xs))
  with_first c s s0 ss e f b span [] m x h = absurd m
  with_first c s s0 ss e f b span (y ∷ ys) m x h =
      subst (HasRawSort s) (sym (in_front_is x span k (y ∷ ys)))
      (made_sorted s (from_to (span_of x).lo span.hi) k (x ∷ ys) b
      (children_have (one (sorted s)) (x ∷ ys) (subst (λ l. HaveRaw l (x ∷ ys)) (sym e) (shape_fits_sound (one (sorted c)) s0 x f h, have_raw ss ys m.1))))

  behind_made : (c : Chained) (s : Sort) (ss : List RawShape) → shapes k ≡ ss → first_takes c ss ≡ true → belongs s k ≡ true
      → (span : Span) (xs : List Node) → Given (without_first ss) xs → (x : Node) → HasRawSort (sort_of c) x → HasRawSort s (in_front x (node_of span k xs))
  behind_made c s [] e f b span xs m = no f
  behind_made c s (s0 ∷ ss) e f b span xs m = with_first (sort_of c) s s0 ss e f b span xs m

  kind_made : (q : Ask) (span : Span) (xs : List Node) → Given (kind_needs k q) xs → Meets q (node_of span k xs)
  kind_made any span xs g = tt
  kind_made (shape s) span xs g = let t = given_so _ _ xs g in shaped s span xs t.0 t.1
  kind_made pattern span xs g =
      let t = given_so _ _ xs g in
      subst (λ p. (is_annotated p.kind ≡ true) × HaveRaw (field_shapes_raw p.kind 2) p.children) (sym (out-roll-Node (record { span = span; kind = k; children = xs }))) (t.0, have_raw (shapes k) xs t.1)
  kind_made key span xs g = let t = given_so _ _ xs g in inl (shaped (one (sorted sort.PropName)) span xs (or_left (belongs sort.PropName k) _ t.0) t.1)
  kind_made (behind c) span xs g =
      let t = given_so _ _ xs g in
      let w = both (belongs (sort_of c) k) (first_takes c (shapes k)) t.0 in
      behind_made c (sort_of c) (shapes k) refl w.1 w.0 span xs t.1
  kind_made link span xs g = λ x h. link_sorted x h span k xs g
  kind_made optional_link span xs g = let t = given_so _ _ xs g in behind_made expressions sort.OptChainBase (shapes k) refl (base_takes k t.0) t.0 span xs t.1
  kind_made head span xs g = head_made span k xs g
  kind_made head_start span xs g =
      let t = given_so _ _ xs g in
      let w = both (belongs sort.VarDeclOrExpr k) (belongs sort.ForHead k) t.0 in
      (shaped (maybe (sorted sort.VarDeclOrExpr)) span xs (or_right (is_absent k) _ (or_left (belongs sort.VarDeclOrExpr k) _ w.0)) t.1, shaped (one (sorted sort.ForHead)) span xs (or_left (belongs sort.ForHead k) _ w.1) t.1)
  kind_made head_rest span xs g = rest_made span k xs g
  kind_made template_item span xs g = absurd g

pub node_made : (p : Plain) (q : Ask) (span : Span) (xs : List Node) → Given (node_needs p q) xs → Meets q (node_of span (plain_kind p) xs)
node_made plain.SeqExpr q span xs g = absurd g
node_made p q span xs g = kind_made (plain_kind p) (λ s. refl) q span xs g
