-- Which lists of nodes are wanted, and whether all that a grammar keeps are such.
use Rattle.std.proofs.Common.{◌⊎◌, Bool, true, false, ◌&&◌, ◌||◌, List, [], ◌∷◌}
use Rattle.ecma_tree.specs.declared.node.Node.{Node}
use Rattle.ecma_text_fits_parts.proofs.Grades.{Grade, Meets, expression, fits, last_part, text_part}

pub data Wanted : Type 0 where
  -- nothing may stand; whatever stands
  never whatever : Wanted
  -- no more nodes; one of a grade and then what is wanted behind it; others of a grade; one and others; either
  done : Wanted
  one : Grade → Wanted → Wanted
  each some : Grade → Wanted
  either : Wanted → Wanted → Wanted
  -- text parts and expressions by turns, from a text part on or from an expression on, up to the last text part
  turns behind_text : Wanted

abbrev pub Each : Grade → List Node → Type 0
Each g [] = Unit {0}
Each g (x ∷ xs) = Meets g x × Each g xs

abbrev pub Some : Grade → List Node → Type 0
Some g [] = ⊥
Some g (x ∷ xs) = Meets g x × Each g xs

abbrev pub Turns : List Node → Type 0
Turns [] = ⊥
Turns (x ∷ []) = Meets last_part x
Turns (x ∷ y ∷ ys) = Meets text_part x × Meets expression y × Turns ys

abbrev pub BehindText : List Node → Type 0
BehindText [] = ⊥
BehindText (y ∷ ys) = Meets expression y × Turns ys

abbrev pub Given : Wanted → List Node → Type 0
Given never xs = ⊥
Given whatever xs = Unit {0}
Given done [] = Unit {0}
Given done (x ∷ xs) = ⊥
Given (one g w) [] = ⊥
Given (one g w) (x ∷ xs) = Meets g x × Given w xs
Given (each g) xs = Each g xs
Given (some g) xs = Some g xs
Given (either v w) xs = Given v xs ⊎ Given w xs
Given turns xs = Turns xs
Given behind_text xs = BehindText xs

-- nothing more need stand
abbrev pub ends : Wanted → Bool
ends whatever = true
ends done = true
ends (each g) = true
ends (either v w) = ends v || ends w
ends _ = false

-- a test that is not made where one before it fails
abbrev pub also : Bool → (Unit {0} → Bool) → Bool
also true test = test tt
also false test = false

-- the first of these whose question is answered yes, or the last
abbrev pub choice : Bool → Bool → (Unit {0} → Bool) → (Unit {0} → Bool) → (Unit {0} → Bool) → Bool
choice true b x y z = x tt
choice false true x y z = y tt
choice false false x y z = z tt

-- whether a node that has the grades of a test may stand next, and what is wanted behind it passes a second test
abbrev pub steps : (Grade → Bool) → (Wanted → Bool) → Wanted → Bool
steps meets next whatever = next whatever
steps meets next (one g w) = also (meets g) (λ u. next w)
steps meets next (each g) = also (meets g) (λ u. next (each g))
steps meets next (some g) = also (meets g) (λ u. next (each g))
steps meets next (either v w) = steps meets next v || steps meets next w
steps meets next turns = also (meets last_part) (λ u. next done) || also (meets text_part) (λ u. next behind_text)
steps meets next behind_text = also (meets expression) (λ u. next turns)
steps meets next _ = false

abbrev pub again : Grade → Wanted → Bool
again g (each h) = fits g h
again g _ = false

abbrev pub is_turns : Wanted → Bool
is_turns turns = true
is_turns _ = false

abbrev pub is_whatever : Wanted → Bool
is_whatever whatever = true
is_whatever _ = false

-- behind what is read once the same is wanted as before
abbrev pub repeats : ((Wanted → Bool) → Wanted → Bool) → Wanted → Bool
repeats once whatever = true
repeats once (each g) = once (again g) (each g)
repeats once (some g) = once (again g) (each g)
repeats once turns = once is_turns turns
repeats once _ = false

abbrev pub repeats_then : ((Wanted → Bool) → Wanted → Bool) → (Wanted → Bool) → Wanted → Bool
repeats_then once next (either v w) = repeats_then once next v || repeats_then once next w
repeats_then once next w = repeats once w && next w

-- all lists of a part may stand next
abbrev pub passes : Wanted → (Wanted → Bool) → Wanted → Bool
passes never next w = true
passes whatever next w = also (is_whatever w) (λ u. next w)
passes done next w = next w
passes (one g part) next w = steps (fits g) (passes part next) w
passes (each g) next w = repeats_then (λ later v. steps (fits g) later v) next w
passes (either p q) next w = passes p next w && passes q next w
passes _ next w = false
