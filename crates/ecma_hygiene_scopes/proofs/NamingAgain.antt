-- The ids of a tree with final texts say what its texts name.
use Rattle.std.proofs.Common.{◌≡◌, ◌≢◌, ℕ, zero, suc, ◌+◌, Bool, List, [], ◌∷◌, map, Option, Some, refl, sym, ap, ◌∙◌, subst, slice_get, arith}
use Rattle.ecma_kind.specs.declared.kind.Kind.{Kind}
use Rattle.ecma_kind.specs.declared.kind.Kind.TheVariants as kind
use Rattle.ecma_tree.specs.declared.node.Node.{Node, out-Node}
use Rattle.ecma_tree.specs.Contexts.{kind_with_context, with_contexts}
use Rattle.ecma_tree.proofs.Changing.{changed-parts}
use Rattle.ecma_scope.specs.Bindings.{HasId, IsAt, Occurrence}
use Rattle.ecma_hygiene.specs.Renamed.{renamed}
use Rattle.ecma_hygiene.specs.Texts.{text_in}
use Rattle.ecma_hygiene_scopes.specs.Apart.{IsMap}
use Rattle.ecma_hygiene_scopes.specs.Laws.{TextsNameWhatIdsDo}
use Rattle.ecma_hygiene_scopes.proofs.Parts.{children-of, kind-of}
use Rattle.ecma_hygiene_scopes.proofs.ReadingAgain.{follows-its-texts}
use Rattle.ecma_hygiene_scopes.proofs.Seeing.{contexts-are-mapped}

module _ (to : ℕ → ℕ) where
  abbrev context_of : List ℕ → ℕ → ℕ
  context_of text ctxt = to ctxt

  abbrev turned : Node → Node
  turned = with_contexts context_of

  kind-turned : (n : Node) → (out-Node (turned n)).kind ≡ kind_with_context context_of (out-Node n).kind
  kind-turned n =
      ap (λ (z : Node). (out-Node z).kind) (changed-parts (λ span. span) (kind_with_context context_of) n) ∙ kind-of (out-Node n).span (kind_with_context context_of (out-Node n).kind) (map turned (out-Node n).children)

  children-turned : (n : Node) → (out-Node (turned n)).children ≡ map turned (out-Node n).children
  children-turned n =
      ap (λ (z : Node). (out-Node z).children) (changed-parts (λ span. span) (kind_with_context context_of) n) ∙ children-of (out-Node n).span (kind_with_context context_of (out-Node n).kind) (map turned (out-Node n).children)

  get-map : (ns : List Node) (i : ℕ) (n : Node) → slice_get ns i ≡ Some n → slice_get (map turned ns) i ≡ Some (turned n)
  get-map [] i n at = cc
  get-map (x ∷ xs) zero n at = ap (λ (z : Node). Some (turned z)) (same x n at)
    where
      same : (x n : Node) → ◌≡◌ {A = Option Node} (Some x) (Some n) → x ≡ n
      same x n at = cc
  get-map (x ∷ xs) (suc i) n at = get-map xs i n at

  back-map : (ns : List Node) (i : ℕ) (m : Node) → slice_get (map turned ns) i ≡ Some m → (n : Node) × (slice_get ns i ≡ Some n) × (m ≡ turned n)
  back-map [] i m at = cc
  back-map (x ∷ xs) zero m at = (x, refl, same (turned x) m at)
    where
      same : (x m : Node) → ◌≡◌ {A = Option Node} (Some x) (Some m) → m ≡ x
      same x m at = cc
  back-map (x ∷ xs) (suc i) m at = back-map xs i m at

  -- what stands at an occurrence, with other contexts
  at-turned : (tree : Node) (o : Occurrence) (n : Node) → IsAt tree o n → IsAt (turned tree) o (turned n)
  at-turned tree [] n at = ap turned at
  at-turned tree (i ∷ o) n at =
      (turned at.0, ap (λ (cs : List Node). slice_get cs i) (children-turned tree) ∙ get-map (out-Node tree).children i at.0 at.1, at-turned at.0 o n at.2)

  at-back : (tree : Node) (o : Occurrence) (m : Node) → IsAt (turned tree) o m → (n : Node) × IsAt tree o n × (m ≡ turned n)
  at-back tree [] m at = (tree, refl, at)
  at-back tree (i ∷ o) m at =
      let child = back-map (out-Node tree).children i at.0 (sym (ap (λ (cs : List Node). slice_get cs i) (children-turned tree)) ∙ at.1) in
      let below = at-back child.0 o m (subst (λ (c : Node). IsAt c o m) child.2 at.2) in
      (below.0, (child.0, child.1, below.1), below.2)

  id-turned : (tree : Node) (o : Occurrence) (text : List ℕ) (c : ℕ) → HasId tree o text c → HasId (turned tree) o text (to c)
  id-turned tree o text c id = (turned id.0, at-turned tree o id.0 id.1, (id.2.0, kind-turned id.0 ∙ ap (kind_with_context context_of) id.2.1))

  ident-back : (k : Kind) (text : List ℕ) (c : ℕ) (optional : Bool) → kind_with_context context_of k ≡ kind.Ident text c optional → (d : ℕ) × (k ≡ kind.Ident text d optional)
  ident-back (kind.Ident t d p) text c optional is = (d, same t text (to d) c d p optional is)
    where
      same : (t text : List ℕ) (e c d : ℕ) (p o : Bool) → ◌≡◌ {A = Kind} (kind.Ident t e p) (kind.Ident text c o) → kind.Ident t d p ≡ kind.Ident text d o
      same t text e c d p o is = cc
  ident-back _ text c optional is = cc

  id-back : (tree : Node) (o : Occurrence) (text : List ℕ) (c : ℕ) → HasId (turned tree) o text c → (d : ℕ) × HasId tree o text d
  id-back tree o text c id =
      let there = at-back tree o id.0 id.1 in
      let is = ident-back (out-Node there.0).kind text c id.2.0 (sym (kind-turned there.0) ∙ ap (λ (z : Node). (out-Node z).kind) (sym there.2) ∙ id.2.1) in
      (is.0, (there.0, there.1, (id.2.0, is.1)))

pub texts-name : TextsNameWhatIdsDo
texts-name free left tree names texts scopes enough =
    let final : Node = renamed (text_in names) tree in
    let apart : left + 1 ≢ left + 2 = λ same. two left same in
    let mapped = contexts-are-mapped (left + 1) (left + 2) free left tree scopes (omega arith) (omega arith) apart enough in
    let to : ℕ → ℕ = mapped.0 in
    let m : IsMap (left + 1) (left + 2) free left tree to = mapped.1 in
    let follows = follows-its-texts (left + 1) (left + 2) left to tree names texts m.none m.right (omega arith) (omega arith) apart enough in
    record {
      texts = λ o x. (let t = follows.texts o x in id-back to final o x.sym t.0 t.1);
      free = λ o x c id. (
        (λ is. (follows.free o x (to c) (id-turned to final o x.sym c id)).0 (ap to is ∙ m.free_names)),
        (λ is. m.one_to_one c free ((follows.free o x (to c) (id-turned to final o x.sym c id)).1 is ∙ sym m.free_names)),
      );
      bound = λ o p x y c d place other id also b k. (
        (λ is. (follows.bound o p x y (to c) (to d) place other (id-turned to final o x.sym c id) (id-turned to final p y.sym d also) b k).0 (ap to is)),
        (λ is. m.one_to_one c d ((follows.bound o p x y (to c) (to d) place other (id-turned to final o x.sym c id) (id-turned to final p y.sym d also) b k).1 is)),
      );
    }
  where
    two : (left : ℕ) → left + 1 ≡ left + 2 → ⊥
    two left same = omega arith
