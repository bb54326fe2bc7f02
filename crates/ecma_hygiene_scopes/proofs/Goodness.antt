-- Trees whose nodes stand where they may, and in which nothing clashes.
use Rattle.std.proofs.Common.{◌≡◌, ℕ, suc, Bool, true, false, ◌&&◌, cond, List, [], ◌∷◌, ◌++◌, map, Option, is_some, refl, sym, ap, ◌∙◌, subst}
use Rattle.std.specs.List.{All}
use Rattle.std.proofs.lemmas.List.Elements.{All-head, All-tail}
use Rattle.ecma_kind.specs.declared.kind.Kind.{Kind}
use Rattle.ecma_kind.specs.declared.kind.Kind.TheVariants as kind
use Rattle.ecma_tree.specs.declared.node.Node.{Node, out-Node}
use Rattle.ecma_tree.proofs.Layers.{from_leaves_out}
use Rattle.ecma_scope.specs.declared.role.Role.{Role}
use Rattle.ecma_scope.specs.declared.role.Role.TheVariants as role
use Rattle.ecma_scope.specs.Conflicts.{Surrounding, clash_step, clashes_in, own_clashes, redeclared_at, surrounds}
use Rattle.ecma_scope.specs.Resolved.{Scope as Frame, innermost, is_name, scope_at}
use Rattle.ecma_scope.specs.Scopes.{covers, is_ambient, opens, role_in}
use Rattle.ecma_hygiene.specs.Renamed.{kind_is_absent}
use Rattle.ecma_hygiene.specs.Walks.{gathered_from}
use Rattle.ecma_hygiene.proofs.Walking.{gathered-out}
use Rattle.ecma_hygiene_scopes.specs.Seats.{Seat, seat_here, seats_at}
use Rattle.ecma_hygiene_scopes.proofs.Stopping.{All-first, All-second}
use Rattle.ecma_hygiene_scopes.proofs.Ways.{next_var}

-- modules, scripts, and the bodies of namespaces
abbrev pub is_module_kind : Kind → Bool
is_module_kind (kind.Module s) = true
is_module_kind (kind.Script s) = true
is_module_kind kind.TsModuleBlock = true
is_module_kind _ = false

-- the body of a function, where it opens a scope
abbrev pub is_body_kind : Kind → Bool
is_body_kind kind.BlockStmt = true
is_body_kind kind.FnExpr = true
is_body_kind kind.ClassExpr = true
is_body_kind (kind.ArrowExpr is_async is_generator) = true
is_body_kind _ = false

abbrev pub is_class_expr : Kind → Bool
is_class_expr kind.ClassExpr = true
is_class_expr _ = false

abbrev pub Nested : List Node → Type 0
Nested [] = Unit {0}
Nested (x ∷ xs) = (is_module_kind (out-Node x).kind ≡ false) × Nested xs

pub record Fits (seat : Seat) : Type 0 where
  pub absent : kind_is_absent seat.node ≡ true → (out-Node seat.node).children ≡ []
  pub default : seat.role ≡ role.Default → opens seat.role seat.node ≡ true → is_class_expr (out-Node seat.node).kind ≡ true
  pub body : seat.role ≡ role.Body → opens seat.role seat.node ≡ true → is_body_kind (out-Node seat.node).kind ≡ true
  pub nested : is_some (next_var (out-Node seat.node).kind) ≡ true → Nested (out-Node seat.node).children
  pub empty : (s : List ℕ) (c : ℕ) (o : Bool) → (out-Node seat.node).kind ≡ kind.Ident s c o → is_name seat.role ≡ true → c ≡ 0
  pub holder : (i : ℕ) → role_in seat.role seat.node i ≡ role.Body → is_ambient seat.role ≡ false

pub record Good (m : Node) (r : Role) (around : List ℕ → Option Bool) : Type 0 where
  pub all : All Fits (seats_at m r)
  pub clear : redeclared_at m (record { role = r; around = around }) ≡ []

-- of nodes with their indexes, of which the first is the one at i
abbrev pub Each : (ℕ → Node → Type 0) → ℕ → List Node → Type 0
Each P i [] = Unit {0}
Each P i (x ∷ xs) = P i x × Each P (suc i) xs

pub each-same : (P Q : ℕ → Node → Type 0) (i : ℕ) (xs : List Node) → ((j : ℕ) (x : Node) → P j x → Q j x) → Each P i xs → Each Q i xs
each-same P Q i [] f h = tt
each-same P Q i (x ∷ xs) f h = (f i x h.0, each-same P Q (suc i) xs f h.1)

first-none : {X : Type 0} (xs ys : List X) → xs ++ ys ≡ [] → xs ≡ []
first-none [] ys h = refl
first-none (x ∷ xs) ys h = cc

second-none : {X : Type 0} (xs ys : List X) → xs ++ ys ≡ [] → ys ≡ []
second-none [] ys h = h
second-none (x ∷ xs) ys h = cc

module _ (m : Node) (r : Role) (around : List ℕ → Option Bool) (good : Good m r around) where
  abbrev here : Surrounding
  here = record { role = r; around = around }

  clear-parts : own_clashes here m ++ clashes_in (surrounds here m) 0 (map redeclared_at (out-Node m).children) ≡ []
  clear-parts = sym (ap (λ f. f here) (from_leaves_out (Surrounding → List (List ℕ)) clash_step m)) ∙ good.clear

  pub own-clear : own_clashes here m ≡ []
  own-clear = first-none (own_clashes here m) (clashes_in (surrounds here m) 0 (map redeclared_at (out-Node m).children)) clear-parts

  abbrev seat : Seat
  seat = record { role = r; node = m }

  abbrev below : List Seat
  below = gathered_from Role Seat (role_in r m) 0 (map seats_at (out-Node m).children)

  seats-parts : All Fits (seat ∷ below)
  seats-parts = subst (All Fits) (gathered-out Role Seat seat_here role_in m r) good.all

  pub fits-here : Fits (record { role = r; node = m })
  fits-here = All-head Fits seat below seats-parts

  children-good : (surroundings : ℕ → Surrounding) (roles : ℕ → Role) (i : ℕ) (xs : List Node) → All Fits (gathered_from Role Seat roles i (map seats_at xs)) → clashes_in surroundings i (map redeclared_at xs) ≡ []
      → ((j : ℕ) → (surroundings j).role ≡ roles j) → Each (λ j x. Good x (roles j) (surroundings j).around) i xs
  children-good surroundings roles i [] all clear same = tt
  children-good surroundings roles i (x ∷ xs) all clear same = (
    record {
      all = All-first Fits (seats_at x (roles i)) (gathered_from Role Seat roles (suc i) (map seats_at xs)) all;
      clear = ap (λ (q : Role). redeclared_at x (record { role = q; around = (surroundings i).around })) (sym (same i))
          ∙ first-none (redeclared_at x (surroundings i)) (clashes_in surroundings (suc i) (map redeclared_at xs)) clear;
    },
    children-good surroundings roles (suc i) xs (All-second Fits (seats_at x (roles i)) (gathered_from Role Seat roles (suc i) (map seats_at xs)) all)
        (second-none (redeclared_at x (surroundings i)) (clashes_in surroundings (suc i) (map redeclared_at xs)) clear) same,
  )

  pub good-children : Each (λ j x. Good x (role_in r m j) (surrounds (record { role = r; around = around }) m j).around) 0 (out-Node m).children
  good-children = children-good (surrounds here m) (role_in r m) 0 (out-Node m).children (All-tail Fits seat below seats-parts)
      (second-none (own_clashes here m) (clashes_in (surrounds here m) 0 (map redeclared_at (out-Node m).children)) clear-parts) (λ j. refl)

-- ---- what the scopes in force state around the children

pub inner-last : (frames : List Frame) (f : Frame) → innermost (frames ++ f ∷ []) ≡ f.states
inner-last [] f = (λ j sym. f.states sym)
inner-last (g ∷ []) f = (λ j sym. f.states sym)
inner-last (g ∷ h ∷ frames) f = (λ j sym. inner-last (h ∷ frames) f j sym)

inner-by : (b : Bool) (frames : List Frame) (f : Frame) → innermost (cond b (frames ++ f ∷ []) frames) ≡ cond b f.states (innermost frames)
inner-by true frames f = inner-last frames f
inner-by false frames f = refl

module _ (top : ℕ) (m : Node) (r : Role) (frames : List Frame) (left : ℕ) where
  abbrev pub frame_of : Frame
  frame_of = scope_at top (record { role = r; scopes = frames }) m left

  abbrev pub frames_in : ℕ → List Frame
  frames_in i = cond (opens r m && covers r (out-Node m).kind i) (frames ++ scope_at top (record { role = r; scopes = frames }) m left ∷ []) frames

  around-same : (i : ℕ) → (surrounds (record { role = r; around = innermost frames }) m i).around ≡ innermost (frames_in i)
  around-same i = sym (inner-by (opens r m && covers r (out-Node m).kind i) frames frame_of)

  pub good-inside : Good m r (innermost frames) → Each (λ j x. Good x (role_in r m j) (innermost (frames_in j))) 0 (out-Node m).children
  good-inside good =
      each-same (λ j x. Good x (role_in r m j) (surrounds (record { role = r; around = innermost frames }) m j).around) (λ j x. Good x (role_in r m j) (innermost (frames_in j))) 0 (out-Node m).children
      (λ j x g. subst (Good x (role_in r m j)) (around-same j) g) (good-children m r (innermost frames) good)
