-- A layer whose children are exchanged for others that mean alike, and a list of which items that do nothing go.
use Rattle.std.proofs.Common.{◌≡◌, refl, sym, ap, subst, List, [], ◌∷◌, map, true}
use Rattle.ecma_kind.specs.declared.kind.Kind.{Kind}
use Rattle.ecma_kind.specs.declared.kind.Kind.TheVariants as kind
use Rattle.ecma_tree.specs.declared.node.Node.{Node}
use Rattle.ecma_runs.specs.Evaluation.{meaning_by, meaning}
use Rattle.ecma_runs.proofs.Alike.{Change}
use Rattle.ecma_runs.proofs.Meanings.{Same, Both, pair, firsts, seconds}
use Rattle.ecma_runs.proofs.Premises.{renamed_kind, KeptLayer}
use Rattle.ecma_runs.proofs.Lists.{Silent, Item, Stays, Goes, before, behind}
use Rattle.ecma_runs.proofs.Steps.{plain_list, plain_step}

module _ (c : Change) where
  -- nodes, and one each that means alike
  pub data Alike : List Node → List Node → Type 0 where
    none : Alike [] []
    more : {n n' : Node} {ns ns' : List Node} → Same c (meaning n) (meaning n') → Alike ns ns' → Alike (n ∷ ns) (n' ∷ ns')

  pairs : {ns ns' : List Node} → Alike ns ns' → List (Both c)
  pairs none = []
  pairs (more {n} {n'} same rest) = pair c (meaning n) (meaning n') same ∷ pairs rest

  firsts-pairs : {ns ns' : List Node} (a : Alike ns ns') → firsts c (pairs a) ≡ map meaning ns
  unfolding pairs
  firsts-pairs none = refl
  firsts-pairs (more {n} same rest) = ap (λ l. meaning n ∷ l) (firsts-pairs rest)

  seconds-pairs : {ns ns' : List Node} (a : Alike ns ns') → seconds c (pairs a) ≡ map meaning ns'
  unfolding pairs
  seconds-pairs none = refl
  seconds-pairs (more {n} {n'} same rest) = ap (λ l. meaning n' ∷ l) (seconds-pairs rest)

  -- a layer means alike with other children
  pub layer_alike : c.names.plain ≡ true → (n : Node) → c.fine n → (k : Kind) {ns ns' : List Node} → Alike ns ns' → KeptLayer c k (map meaning ns)
      → Same c (meaning_by n k (map meaning ns)) (meaning_by (c.node n) (renamed_kind c k) (map meaning ns'))
  layer_alike plain n fine k {ns} {ns'} a kept =
      subst (λ ms. Same c (meaning_by n k ms) (meaning_by (c.node n) (renamed_kind c k) (map meaning ns'))) (firsts-pairs a)
      (subst (λ ms. Same c (meaning_by n k (firsts c (pairs a))) (meaning_by (c.node n) (renamed_kind c k) ms)) (seconds-pairs a)
      (plain_step c plain n fine k (pairs a) (subst (KeptLayer c k) (sym (firsts-pairs a)) kept)))

  -- a list, and one without items that do nothing
  pub data Lessened : List Node → List Node → Type 0 where
    empty : Lessened [] []
    stays : {n n' : Node} {ns ns' : List Node} → Same c (meaning n) (meaning n') → Lessened ns ns' → Lessened (n ∷ ns) (n' ∷ ns')
    goes : {n : Node} {ns ns' : List Node} → Silent c (meaning n) → Lessened ns ns' → Lessened (n ∷ ns) ns'

  items : {ns ns' : List Node} → Lessened ns ns' → List (Item c)
  items empty = []
  items (stays {n} {n'} same rest) = Stays (pair c (meaning n) (meaning n') same) ∷ items rest
  items (goes {n} silent rest) = Goes (meaning n) silent ∷ items rest

  before-items : {ns ns' : List Node} (l : Lessened ns ns') → before c (items l) ≡ map meaning ns
  unfolding items
  before-items empty = refl
  before-items (stays {n} same rest) = ap (λ l. meaning n ∷ l) (before-items rest)
  before-items (goes {n} silent rest) = ap (λ l. meaning n ∷ l) (before-items rest)

  behind-items : {ns ns' : List Node} (l : Lessened ns ns') → behind c (items l) ≡ map meaning ns'
  unfolding items
  behind-items empty = refl
  behind-items (stays {n} {n'} same rest) = ap (λ l. meaning n' ∷ l) (behind-items rest)
  behind-items (goes silent rest) = behind-items rest

  pub list_alike : c.names.plain ≡ true → (n n' : Node) {ns ns' : List Node} → Lessened ns ns' → Same c (meaning_by n kind.List (map meaning ns)) (meaning_by n' kind.List (map meaning ns'))
  list_alike plain n n' {ns} {ns'} l =
      subst (λ ms. Same c (meaning_by n kind.List ms) (meaning_by n' kind.List (map meaning ns'))) (before-items l)
      (subst (λ ms. Same c (meaning_by n kind.List (before c (items l))) (meaning_by n' kind.List ms)) (behind-items l) (plain_list c plain n n' (items l)))
