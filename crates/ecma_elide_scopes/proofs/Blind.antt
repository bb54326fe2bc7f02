-- Scopes look at no context: a tree with other contexts opens the same scopes, which declare the same names and take as many.
use Rattle.std.proofs.Common.{◌≡◌, ◌∙◌, ℕ, zero, suc, ◌+◌, Bool, ◌&&◌, ◌||◌, List, [], ◌∷◌, ◌++◌, map, Option, Some, None, cond, not, refl, sym, ap, ap₂, subst}
use Rattle.std.specs.Prelude.{filter}
use Rattle.ecma_kind.specs.declared.kind.Kind.{Kind}
use Rattle.ecma_kind.specs.declared.kind.Kind.TheVariants as kind
use Rattle.ecma_tree.specs.declared.node.Node.{Node, Node-F, ind-Node, out-Node, roll-Node}
use Rattle.ecma_tree.specs.declared.node.Node.TheViews.{out-roll-Node}
use Rattle.ecma_tree.specs.Sorted.{is_absent}
use Rattle.ecma_tree.specs.Values.{holds_ambient, is_function, is_value_where, value_by}
use Rattle.ecma_tree.proofs.Valuing.{is_value_where-out, value_where_by}
use Rattle.ecma_tree.proofs.Layers.{from_leaves_out}
use Rattle.ecma_rules.specs.Children.{kind_of}
use Rattle.ecma_scope.specs.declared.role.Role.{Role}
use Rattle.ecma_scope.specs.declared.form.Declaration.{Declaration}
use Rattle.ecma_scope.specs.declared.form.Part.{Part}
use Rattle.ecma_scope.specs.declared.form.Part.TheVariants as part
use Rattle.ecma_scope.specs.declared.form.Sought.{Sought}
use Rattle.ecma_scope.specs.Declarations.{declarations, declared_here, declared_step, found_at, found_in, holds_vars, in_default, in_item, in_member, in_name, in_scope, in_var, is_own, names, own_part, sought_by, sought_in, vars_of}
use Rattle.ecma_scope.specs.Resolved.{context_count, count_step, counted, taken}
use Rattle.ecma_scope.specs.Scopes.{covers, is_ambient, is_root, is_there, opens, opens_by, role_by, role_in}
use Rattle.ecma_scope_fits.proofs.Moved.{Blind, children_moved, kind_moved, kind_same, moved, to}

abbrev children_of : Node → List Node
children_of n = (out-Node n).children

pub declarations_out : (n : Node) (sought : Sought) → declarations n sought ≡ declared_here sought (out-Node n).kind ++ found_in (sought_in sought n) 0 (map declarations (out-Node n).children)
declarations_out n sought = ap (λ g. g sought) (from_leaves_out (Sought → List Declaration) declared_step n)

pub count_out : (n : Node) (r : Role) → context_count n r ≡ taken r n + counted (role_in r n) 0 (map context_count (out-Node n).children)
count_out n r = ap (λ g. g r) (from_leaves_out (Role → ℕ) count_step n)

module _ (f : List ℕ → ℕ → ℕ) where
  abbrev cleared : Node → Node
  cleared = to f

  -- roles and scopes

  there_in : (nodes : List Node) (i : ℕ) → is_there (map cleared nodes) i ≡ is_there nodes i
  there_in [] i = refl
  there_in (n ∷ ns) zero = ap not (kind_same f Bool is_absent (λ text x y optional. refl) n)
  there_in (n ∷ ns) (suc i) = there_in ns i

  there_moved : (n : Node) (i : ℕ) → is_there (children_of (cleared n)) i ≡ is_there (children_of n) i
  there_moved n i = ap (λ (nodes : List Node). is_there nodes i) (children_moved f n) ∙ there_in (children_of n) i

  role_blind : (r : Role) (sourced : Bool) (i : ℕ) → Blind Role (λ k. role_by r k sourced i)
  unfolding role_by
  role_blind r sourced i = (λ text x y optional. refl)

  pub role_moved : (r : Role) (n : Node) (i : ℕ) → role_in r (cleared n) i ≡ role_in r n i
  role_moved r n i =
      ap (λ (sourced : Bool). role_by r (kind_of (cleared n)) sourced i) (there_moved n 1)
      ∙ kind_same f Role (λ k. role_by r k (is_there (children_of n) 1) i) (role_blind r (is_there (children_of n) 1) i) n

  opens_blind : (r : Role) (named : Bool) → Blind Bool (λ k. opens_by r k named)
  unfolding opens_by
  opens_blind r named = (λ text x y optional. refl)

  pub opens_moved : (r : Role) (n : Node) → opens r (cleared n) ≡ opens r n
  opens_moved r n =
      ap (λ (named : Bool). opens_by r (kind_of (cleared n)) named) (there_moved n 0) ∙ kind_same f Bool (λ k. opens_by r k (is_there (children_of n) 0)) (opens_blind r (is_there (children_of n) 0)) n

  covers_blind : (r : Role) (i : ℕ) → Blind Bool (λ k. covers r k i)
  unfolding covers
  covers_blind r i = (λ text x y optional. refl)

  pub covers_moved : (r : Role) (n : Node) (i : ℕ) → covers r (kind_of (cleared n)) i ≡ covers r (kind_of n) i
  covers_moved r n i = kind_same f Bool (λ k. covers r k i) (covers_blind r i) n

  holds_blind : (r : Role) → Blind Bool (holds_vars r)
  unfolding holds_vars
  holds_blind r = (λ text x y optional. refl)

  pub holds_moved : (r : Role) (n : Node) → holds_vars r (kind_of (cleared n)) ≡ holds_vars r (kind_of n)
  holds_moved r n = kind_same f Bool (holds_vars r) (holds_blind r) n

  -- values

  value_blind : (stays : Bool) (k : Kind) (cs : List Node) → value_where_by stays (moved f k) cs ≡ value_where_by stays k cs
  unfolding value_by
  value_blind stays (kind.Ident text ctxt optional) cs = refl
  value_blind stays _ cs = refl

  abbrev ValuesSame : List Node → Type 0
  ValuesSame nodes = (stays : Bool) → map (is_value_where stays) (map cleared nodes) ≡ map (is_value_where stays) nodes

  abbrev ValueSame : Node → Type 0
  ValueSame n = (stays : Bool) → is_value_where stays (cleared n) ≡ is_value_where stays n

  values_same : (ns : List ((n : Node) × ValueSame n)) → ValuesSame (map (λ e. e.0) ns)
  values_same [] stays = refl
  values_same (n ∷ ns) stays = ap₂ (λ a rest. a ∷ rest) (n.1 stays) (values_same ns stays)

  node_value : (n : Node) → ValuesSame (out-Node n).children → ValueSame n
  node_value n same stays =
      is_value_where-out stays (cleared n)
      ∙ ap₂ (value_where_by stays) (kind_moved f n) (children_moved f n)
      ∙ value_blind stays (kind_of n) (map cleared (children_of n))
      ∙ ap (λ (values : List Bool). (is_function (kind_of n) && not stays) || value_by (kind_of n) values) (same (not (holds_ambient (kind_of n)) && stays))
      ∙ sym (is_value_where-out stays n)

  value_moved : (n : Node) → ValueSame n
  value_moved = ind-Node ValueSame (λ x y is. node_value (roll-Node x) (subst (λ (z : Node-F Node). ValuesSame z.children) (is ∙ sym (out-roll-Node x)) (values_same y.children)))

  -- declarations

  sought_blind : (p : Part) (stays value : Bool) (i : ℕ) → Blind (Option Sought) (λ k. sought_by p stays value k i)
  unfolding in_default in_item in_member in_name in_scope in_var
  sought_blind part.Scope stays value i = (λ text x y optional. refl)
  sought_blind part.Item stays value i = (λ text x y optional. refl)
  sought_blind part.Default stays value i = (λ text x y optional. refl)
  sought_blind part.Member stays value i = (λ text x y optional. refl)
  sought_blind part.Var stays value i = (λ text x y optional. refl)
  sought_blind (part.Name form) stays value i = (λ text x y optional. refl)

  sought_moved : (sought : Sought) (n : Node) (i : ℕ) → sought_in sought (cleared n) i ≡ sought_in sought n i
  unfolding sought_in
  sought_moved sought n i =
      ap (λ (value : Bool). sought_by sought.part sought.stays value (kind_of (cleared n)) i) (value_moved n sought.stays)
      ∙ kind_same f (Option Sought) (λ k. sought_by sought.part sought.stays (is_value_where sought.stays n) k i) (sought_blind sought.part sought.stays (is_value_where sought.stays n) i) n

  here_blind : (sought : Sought) → Blind (List Declaration) (declared_here sought)
  unfolding declared_here
  here_blind sought = (λ text x y optional. refl)

  abbrev Found : Node → Type 0
  Found n = (sought : Sought) → declarations (cleared n) sought ≡ declarations n sought

  at_same : (a b : Option Sought) → a ≡ b → (n : Node) → Found n → found_at a (declarations (cleared n)) ≡ found_at b (declarations n)
  at_same a b same n found = ap (λ s. found_at s (declarations (cleared n))) same ∙ go b
    where
      go : (s : Option Sought) → found_at s (declarations (cleared n)) ≡ found_at s (declarations n)
      go None = refl
      go (Some sought) = found sought

  abbrev AllFound : List Node → Type 0
  AllFound nodes = (around other : ℕ → Option Sought) → ((i : ℕ) → around i ≡ other i) → (i : ℕ) → found_in around i (map declarations (map cleared nodes)) ≡ found_in other i (map declarations nodes)

  all_found : (ns : List ((n : Node) × Found n)) → AllFound (map (λ e. e.0) ns)
  all_found [] around other same i = refl
  all_found (n ∷ ns) around other same i = ap₂ (λ a rest. a ++ rest) (at_same (around i) (other i) (same i) n.0 n.1) (all_found ns around other same (suc i))

  node_found : (n : Node) → AllFound (out-Node n).children → Found n
  node_found n found sought =
      declarations_out (cleared n) sought
      ∙ ap₂ (λ here below. here ++ below) (kind_same f (List Declaration) (declared_here sought) (here_blind sought) n)
      (ap (λ (nodes : List Node). found_in (sought_in sought (cleared n)) 0 (map declarations nodes)) (children_moved f n) ∙ found (sought_in sought (cleared n)) (sought_in sought n) (sought_moved sought n) 0)
      ∙ sym (declarations_out n sought)

  pub declarations_moved : (n : Node) → Found n
  declarations_moved = ind-Node Found (λ x y is. node_found (roll-Node x) (subst (λ (z : Node-F Node). AllFound z.children) (is ∙ sym (out-roll-Node x)) (all_found y.children)))

  vars_moved : (r : Role) (stays : Bool) (n : Node) → vars_of r stays (cleared n) ≡ vars_of r stays n
  vars_moved r stays n = ap₂ (λ (holds : Bool) (found : List Declaration). cond holds found []) (holds_moved r n) (declarations_moved n (record { part = part.Var; stays = stays }))

  pub names_moved : (r : Role) (around : List ℕ → Option Bool) (n : Node) → names r around (cleared n) ≡ names r around n
  names_moved r around n =
      ap (filter (is_own r around)) (ap₂ (λ a b. a ++ b) (declarations_moved n (record { part = own_part r; stays = not (is_ambient r) })) (vars_moved r (not (is_ambient r)) n))

  -- how many contexts

  taken_moved : (r : Role) (n : Node) → taken r (cleared n) ≡ taken r n
  taken_moved r n = ap (λ o. cond (o && not (is_root r)) 1 0) (opens_moved r n)

  abbrev Counted : Node → Type 0
  Counted n = (r : Role) → context_count (cleared n) r ≡ context_count n r

  abbrev AllCounted : List Node → Type 0
  AllCounted nodes = (around other : ℕ → Role) → ((i : ℕ) → around i ≡ other i) → (i : ℕ) → counted around i (map context_count (map cleared nodes)) ≡ counted other i (map context_count nodes)

  all_counted : (ns : List ((n : Node) × Counted n)) → AllCounted (map (λ e. e.0) ns)
  all_counted [] around other same i = refl
  all_counted (n ∷ ns) around other same i = ap₂ (λ a rest. a + rest) (n.1 (around i) ∙ ap (context_count n.0) (same i)) (all_counted ns around other same (suc i))

  node_counted : (n : Node) → AllCounted (out-Node n).children → Counted n
  node_counted n all r =
      count_out (cleared n) r
      ∙ ap₂ (λ here below. here + below) (taken_moved r n)
      (ap (λ (nodes : List Node). counted (role_in r (cleared n)) 0 (map context_count nodes)) (children_moved f n) ∙ all (role_in r (cleared n)) (role_in r n) (role_moved r n) 0)
      ∙ sym (count_out n r)

  pub count_moved : (n : Node) → Counted n
  count_moved = ind-Node Counted (λ x y is. node_counted (roll-Node x) (subst (λ (z : Node-F Node). AllCounted z.children) (is ∙ sym (out-roll-Node x)) (all_counted y.children)))
