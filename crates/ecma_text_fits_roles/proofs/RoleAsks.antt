-- What is asked of the nodes that a grammar keeps, so that each is what it has to be where it stands.
use Rattle.std.proofs.Common.{◌≡◌, ◌⊎◌, ℕ, zero, suc, Bool, true, false, ◌&&◌, List, [], ◌∷◌, ◌++◌, take, drop, Some, None}
use Rattle.ecma_kind.specs.declared.span.Span.{Span}
use Rattle.ecma_kind.specs.declared.kind.Kind.{Kind}
use Rattle.ecma_kind.specs.declared.kind.Kind.TheVariants as kind
use Rattle.ecma_tree.specs.declared.node.Node.{Node}
use Rattle.ecma_tree.specs.Nodes.{node_of}
use Rattle.ecma_grammar.specs.trees.Parts.{kind_of, children_of, in_front}
use Rattle.ecma_grammar.specs.trees.Chains.{in_front_link, is_text_part, steps}
use Rattle.ecma_fits.specs.declared.role.Role.{Role}
use Rattle.ecma_fits.specs.declared.role.Role.TheVariants as role
use Rattle.ecma_raw_roles.specs.RawRoles.{HasRawRole}

pub data Ask : Type 0 where
  any : Ask
  -- in a role; in two roles
  at : Role → Ask
  -- in a role, where room for a type is behind the first child
  single : Role → Ask
  both : Role → Role → Ask
  -- in the second role, once what is in the first stands in front of it
  before : Role → Role → Ask
  -- a link of a chain of members and calls
  link : Ask
  -- a text part behind a tag, or free
  text_or_free : Ask
  -- the head of a loop, whose body is missing; the rest of the head
  head head_rest : Ask

abbrev pub free : Ask
free = at role.Free

abbrev pub behind : Ask
behind = before role.Free role.Free

-- the second child may be a type
abbrev pub is_annotated : Kind → Bool
is_annotated kind.List = false
is_annotated kind.KeyValuePatProp = false
is_annotated kind.Param = false
is_annotated kind.SetterProp = false
is_annotated (kind.TsParamProp accessibility is_override readonly) = false
is_annotated _ = true

-- the head of a loop is a statement once its body stands behind its children
abbrev pub IsHead : Node → Type 0
IsHead n = (span : Span) (body : Node) → HasRawRole role.Free body → HasRawRole role.Free (node_of span (kind_of n) (children_of n ++ body ∷ []))

abbrev pub Meets : Ask → Node → Type 0
Meets any n = Unit {0}
Meets (at r) n = HasRawRole r n
Meets (single r) n = HasRawRole r n × (is_annotated (kind_of n) ≡ true)
Meets (both r s) n = HasRawRole r n × HasRawRole s n
Meets (before r s) n = (x : Node) → HasRawRole r x → HasRawRole s (in_front x n)
Meets text_or_free n = HasRawRole role.Free n ⊎ ((is_text_part n ≡ true) × HasRawRole role.TaggedText n)
Meets link n = (x : Node) → HasRawRole role.Free x → HasRawRole role.Free (in_front_link x n)
Meets head n = IsHead n
Meets head_rest n = (x : Node) → HasRawRole role.Free x → IsHead (in_front x n)

-- what is asked of several nodes
pub data Asked : Type 0 where
  -- nothing; what nodes cannot give
  whatever never : Asked
  -- one node for each ask; one or none; any number; the first alone; the first, and each other
  these : List Ask → Asked
  perhaps : Ask → Asked
  each : Ask → Asked
  first : Ask → Asked
  first_and_each : Ask → Ask → Asked
  -- a pattern in the first role, or one in the second with a default, which is in the first
  with_default : Role → Role → Asked
  -- the parts of a chain, of which each holds the one before; what they make is free
  chain : Asked

abbrev pub MeetAll : List Ask → List Node → Type 0
MeetAll [] [] = Unit {0}
MeetAll (q ∷ qs) (x ∷ xs) = Meets q x × MeetAll qs xs
MeetAll _ _ = ⊥

abbrev pub MeetEach : Ask → List Node → Type 0
MeetEach q [] = Unit {0}
MeetEach q (x ∷ xs) = Meets q x × MeetEach q xs

abbrev pub Chained : List Node → Type 0
Chained xs = (y : Node) × (steps in_front None xs ≡ Some y) × HasRawRole role.Free y

abbrev pub Given : Asked → List Node → Type 0
Given whatever xs = Unit {0}
Given never xs = ⊥
Given (these qs) xs = MeetAll qs xs
Given (perhaps q) xs = (xs ≡ []) ⊎ MeetAll (q ∷ []) xs
Given (each q) xs = MeetEach q xs
Given (first q) [] = ⊥
Given (first q) (x ∷ xs) = Meets q x
Given (first_and_each q r) [] = ⊥
Given (first_and_each q r) (x ∷ xs) = Meets q x × MeetEach r xs
Given (with_default r s) xs = MeetAll (both r s ∷ []) xs ⊎ MeetAll (both r s ∷ before s r ∷ []) xs
Given chain xs = Chained xs

-- which asks are met where one is

abbrev pub is_loose : Role → Bool
is_loose role.Free = true
is_loose role.Private = true
is_loose role.Key = true
is_loose _ = false

abbrev pub takes_patterns : Role → Bool
takes_patterns role.Declared = true
takes_patterns role.DeclaredValue = true
takes_patterns role.DeclaredElement = true
takes_patterns role.Parameter = true
takes_patterns role.DefaultedParameter = true
takes_patterns _ = false

abbrev pub takes_private : Role → Bool
takes_private role.Private = true
takes_private _ = false

abbrev pub takes_defaulted : Role → Bool
takes_defaulted role.DefaultedParameter = true
takes_defaulted _ = false

-- what is in the first role is in the second too
abbrev pub wider : Role → Role → Bool
wider role.Free s = is_loose s
wider role.Declared s = takes_patterns s
wider role.Private s = takes_private s
wider role.DefaultedParameter s = takes_defaulted s
wider _ s = false

abbrev pub is_free_role : Role → Bool
is_free_role role.Free = true
is_free_role _ = false

abbrev pub fits : Ask → Ask → Bool
fits p any = true
fits (at p) (at r) = wider p r
fits (at role.Declared) (single r) = takes_patterns r
fits (at p) (both r s) = wider p r && wider p s
fits (before p q) (before r s) = (is_free_role p && is_free_role q) && (is_free_role r && is_free_role s)
fits link link = true
fits (at p) text_or_free = is_free_role p
fits _ _ = false

abbrev pub all_fit : List Ask → List Ask → Bool
all_fit [] [] = true
all_fit (p ∷ ps) (q ∷ qs) = fits p q && all_fit ps qs
all_fit _ _ = false

abbrev pub each_fits : List Ask → Ask → Bool
each_fits [] q = true
each_fits (p ∷ ps) q = fits p q && each_fits ps q

abbrev pub all_given : Asked → Asked → Bool
all_given p whatever = true
all_given (these ps) (these qs) = all_fit ps qs
all_given (these ps) (each q) = each_fits ps q
all_given (these (p ∷ ps)) (first_and_each q r) = fits p q && each_fits ps r
all_given (these (p ∷ [])) (with_default r s) = fits p (both r s)
all_given (these (p ∷ [])) chain = fits p free
all_given (these (p ∷ [])) (perhaps q) = fits p q
all_given (each p) (each q) = fits p q
all_given _ _ = false

-- what is asked of the parts of a sequence whose first part keeps n nodes, of something repeated, and of one node

abbrev pub first_part : ℕ → Asked → Asked
first_part n whatever = whatever
first_part n never = never
first_part n (these qs) = these (take n qs)
first_part zero (perhaps q) = these []
first_part (suc n) (perhaps q) = these (q ∷ [])
first_part n (each q) = each q
first_part zero (first q) = these []
first_part (suc n) (first q) = first q
first_part zero (first_and_each q r) = these []
first_part (suc n) (first_and_each q r) = first_and_each q r
first_part n (with_default r s) = these (both r s ∷ [])
first_part n chain = chain

abbrev pub second_part : ℕ → Asked → Asked
second_part n whatever = whatever
second_part n never = never
second_part n (these qs) = these (drop n qs)
second_part zero (perhaps q) = perhaps q
second_part (suc n) (perhaps q) = these []
second_part n (each q) = each q
second_part zero (first q) = first q
second_part (suc n) (first q) = whatever
second_part zero (first_and_each q r) = first_and_each q r
second_part (suc n) (first_and_each q r) = each r
second_part n (with_default r s) = perhaps (before s r)
second_part n chain = each behind

abbrev pub of_many : Asked → Asked
of_many whatever = whatever
of_many (each q) = each q
of_many _ = never

abbrev pub none_asked : Asked → Bool
none_asked whatever = true
none_asked (these []) = true
none_asked (perhaps q) = true
none_asked (each q) = true
none_asked _ = false

abbrev pub is_one : Asked → Bool
is_one whatever = true
is_one (these (q ∷ [])) = true
is_one (perhaps q) = true
is_one (each q) = true
is_one (first q) = true
is_one (first_and_each q r) = true
is_one (with_default r s) = true
is_one chain = true
is_one _ = false

abbrev pub of_one : Asked → Ask
of_one (these (q ∷ [])) = q
of_one (perhaps q) = q
of_one (each q) = q
of_one (first q) = q
of_one (first_and_each q r) = q
of_one (with_default r s) = both r s
of_one chain = free
of_one _ = any
