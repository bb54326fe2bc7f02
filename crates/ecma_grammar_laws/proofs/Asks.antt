-- What is asked of the nodes that a grammar keeps: what each form has to be given, and what each part keeps.
use Rattle.std.proofs.Common.{◌≡◌, ◌⊎◌, ℕ, zero, suc, Bool, true, false, ◌&&◌, ◌||◌, List, [], ◌∷◌, ◌++◌, take, drop}
use denote.Enum.Bare.{sameb}
use Rattle.ecma_kind.specs.contracts.shapes.Sort as contracts_sort
use Rattle.ecma_kind.specs.contracts.shapes.Count as contracts_count
use Rattle.ecma_kind.specs.declared.span.Span.{Span}
use Rattle.ecma_kind.specs.declared.kind.Kind.{Kind}
use Rattle.ecma_kind.specs.declared.kind.Kind.TheVariants as kind
use Rattle.ecma_kind.specs.declared.shapes.Count.{Count}
use Rattle.ecma_kind.specs.declared.shapes.Count.TheVariants.{One, Maybe}
use Rattle.ecma_kind.specs.declared.shapes.Sort.{Sort}
use Rattle.ecma_kind.specs.declared.shapes.Sort.TheVariants as sort
use Rattle.ecma_tree.specs.declared.node.Node.{Node}
use Rattle.ecma_tree.specs.Nodes.{node_of}
use Rattle.ecma_grammar.specs.trees.Parts.{kind_of, children_of, in_front}
use Rattle.ecma_grammar.specs.trees.Chains.{in_front_link}
use Rattle.ecma_grammar_laws.specs.RawSorts.{RawSort, RawShape, HasRawShape, HasRawSort, field_shapes_raw, sorted, parameter, setter_parameter, one, maybe}
use Rattle.ecma_grammar_laws.proofs.RawShapes.{HaveRaw}

-- what the parts of a chain are: each is of this sort with what stands before it as its first child, which is of this sort too
pub data Chained : Type 0 where
  expressions patterns entities : Chained

abbrev pub sort_of : Chained → Sort
sort_of expressions = sort.Expr
sort_of patterns = sort.Pat
sort_of entities = sort.TsEntityName

pub data Ask : Type 0 where
  any : Ask
  shape : RawShape → Ask
  -- a pattern whose second child is its annotation; a key of a class's member
  pattern key : Ask
  -- a part of a chain
  behind : Chained → Ask
  -- a link of a chain of members and calls, and what stands in `?.`
  link optional_link : Ask
  -- the head of a loop, whose body is missing; what such a head begins with; the rest of the head
  head head_start head_rest : Ask
  -- what stands in a template
  template_item : Ask

abbrev pub expression : Ask
expression = shape (one (sorted sort.Expr))

-- the head of a loop is a statement once its body stands behind its children
abbrev pub IsHead : Node → Type 0
IsHead n = (span : Span) (body : Node) → HasRawSort sort.Stmt body → HasRawSort sort.Stmt (node_of span (kind_of n) (children_of n ++ body ∷ []))

abbrev pub BeginsHead : Node → Type 0
BeginsHead n = HasRawShape (maybe (sorted sort.VarDeclOrExpr)) n × HasRawSort sort.ForHead n

abbrev pub is_annotated : Kind → Bool
is_annotated kind.BindingIdent = true
is_annotated (kind.ArrayPat _) = true
is_annotated (kind.ObjectPat _) = true
is_annotated kind.RestPat = true
is_annotated _ = false

abbrev pub Meets : Ask → Node → Type 0
Meets any n = Unit
Meets (shape s) n = HasRawShape s n
Meets pattern n = (is_annotated (kind_of n) ≡ true) × HaveRaw (field_shapes_raw (kind_of n) 2) (children_of n)
Meets key n = HasRawSort sort.PropName n ⊎ HasRawSort sort.PrivateName n
Meets (behind c) n = (x : Node) → HasRawSort (sort_of c) x → HasRawSort (sort_of c) (in_front x n)
Meets link n = (x : Node) → HasRawSort sort.Expr x → HasRawSort sort.Expr (in_front_link x n)
Meets optional_link n = (x : Node) → HasRawSort sort.Expr x → HasRawSort sort.OptChainBase (in_front x n)
Meets head n = IsHead n
Meets head_start n = BeginsHead n
Meets head_rest n = (x : Node) → BeginsHead x → IsHead (in_front x n)
Meets template_item n = HasRawSort sort.TplElement n ⊎ HasRawSort sort.Expr n

-- what is asked of several nodes
pub data Asked : Type 0 where
  -- nothing; what nodes cannot give
  whatever never : Asked
  -- one node for each ask; all or none of them; the last, and perhaps the one before it
  these : List Ask → Asked
  these_or_none : List Ask → Asked
  maybe_and : Ask → Ask → Asked
  -- each node meets an ask; the first meets the first ask, and each other the second
  each : Ask → Asked
  first_and_each : Ask → Ask → Asked
  -- the last meets the second ask, and each before it the first; there is one before it at least
  each_and_last : Ask → Ask → Asked
  some_and_last : Ask → Ask → Asked

abbrev pub MeetAll : List Ask → List Node → Type 0
MeetAll [] [] = Unit
MeetAll (q ∷ qs) (x ∷ xs) = Meets q x × MeetAll qs xs
MeetAll _ _ = ⊥

abbrev pub Each : Ask → List Node → Type 0
Each q [] = Unit
Each q (x ∷ xs) = Meets q x × Each q xs

abbrev pub EachAndLast : Ask → Ask → List Node → Type 0
EachAndLast q r [] = ⊥
EachAndLast q r (x ∷ []) = Meets r x
EachAndLast q r (x ∷ y ∷ ys) = Meets q x × EachAndLast q r (y ∷ ys)

abbrev pub Given : Asked → List Node → Type 0
Given whatever xs = Unit
Given never xs = ⊥
Given (these qs) xs = MeetAll qs xs
Given (these_or_none qs) xs = (xs ≡ []) ⊎ MeetAll qs xs
Given (maybe_and q r) xs = MeetAll (r ∷ []) xs ⊎ MeetAll (q ∷ r ∷ []) xs
Given (each q) xs = Each q xs
Given (first_and_each q r) [] = ⊥
Given (first_and_each q r) (x ∷ xs) = Meets q x × Each r xs
Given (each_and_last q r) xs = EachAndLast q r xs
Given (some_and_last q r) [] = ⊥
Given (some_and_last q r) (x ∷ xs) = Meets q x × EachAndLast q r xs

-- which asks are met where one is

abbrev pub same_sort : Sort → Sort → Bool
same_sort = sameb contracts_sort.the_type

abbrev pub same_count : Count → Count → Bool
same_count = sameb contracts_count.the_type

-- the sorts that have each kind of another
abbrev pub within_expression : Sort → Bool
within_expression sort.Callee = true
within_expression sort.ExprOrSpread = true
within_expression sort.BlockStmtOrExpr = true
within_expression sort.VarDeclOrExpr = true
within_expression sort.ForHead = true
within_expression _ = false

abbrev pub within_declaration : Sort → Bool
within_declaration sort.Stmt = true
within_declaration sort.ModuleItem = true
within_declaration _ = false

abbrev pub within_other : Sort → Sort → Bool
within_other sort.Expr t = within_expression t
within_other sort.Stmt t = same_sort t sort.ModuleItem
within_other sort.Decl t = within_declaration t
within_other sort.TsEntityName t = same_sort t sort.TsModuleRef
within_other s t = false

abbrev pub within : RawSort → RawSort → Bool
within (sorted s) (sorted t) = same_sort s t || within_other s t
within (sorted s) parameter = same_sort s sort.Pat
within (sorted s) setter_parameter = false
within parameter parameter = true
within _ _ = false

-- one node of a sort may stand where one or none of a wider sort is asked
abbrev pub one_fits : Count → Count → Bool
one_fits One One = true
one_fits One Maybe = true
one_fits _ _ = false

abbrev pub same_raw_sort : RawSort → RawSort → Bool
same_raw_sort (sorted s) (sorted t) = same_sort s t
same_raw_sort parameter parameter = true
same_raw_sort setter_parameter setter_parameter = true
same_raw_sort _ _ = false

abbrev pub shape_fits : RawShape → RawShape → Bool
shape_fits s t = (same_count s.count t.count && same_raw_sort s.sort t.sort) || (one_fits s.count t.count && within s.sort t.sort)

abbrev pub same_chain : Chained → Chained → Bool
same_chain expressions expressions = true
same_chain patterns patterns = true
same_chain entities entities = true
same_chain _ _ = false

abbrev pub fits : Ask → Ask → Bool
fits p any = true
fits (shape s) (shape t) = shape_fits s t
fits (shape s) head_start = shape_fits s (one (sorted sort.Expr))
fits (shape s) template_item = shape_fits s (one (sorted sort.Expr))
fits pattern pattern = true
fits pattern (shape t) = shape_fits (one (sorted sort.Pat)) t
fits (behind c) (behind d) = same_chain c d
fits link link = true
fits _ _ = false

abbrev pub all_fit : List Ask → List Ask → Bool
all_fit [] [] = true
all_fit (p ∷ ps) (q ∷ qs) = fits p q && all_fit ps qs
all_fit _ _ = false

abbrev pub each_fits : List Ask → Ask → Bool
each_fits [] q = true
each_fits (p ∷ ps) q = fits p q && each_fits ps q

abbrev pub all_given : Asked → Asked → Bool
all_given ps whatever = true
all_given ps (each any) = true
all_given (these ps) (these qs) = all_fit ps qs
all_given (these ps) (each q) = each_fits ps q
all_given (these (p ∷ ps)) (first_and_each q r) = fits p q && each_fits ps r
all_given (these (p ∷ [])) (each_and_last q r) = fits p r
all_given (these_or_none ps) (these_or_none qs) = all_fit ps qs
all_given (maybe_and p r) (maybe_and q s) = fits p q && fits r s
all_given (each p) (each q) = fits p q
all_given _ _ = false

-- what is asked of the parts of a sequence whose first part keeps n nodes, of something repeated, and of one node
abbrev pub first_part : ℕ → Asked → Asked
first_part n whatever = whatever
first_part n never = never
first_part n (these qs) = these (take n qs)
first_part zero (these_or_none qs) = these []
first_part (suc n) (these_or_none qs) = these (take (suc n) qs)
first_part n (maybe_and q r) = these_or_none (q ∷ [])
first_part n (each q) = each q
first_part zero (first_and_each q r) = these []
first_part (suc n) (first_and_each q r) = first_and_each q r
first_part n (each_and_last q r) = each q
first_part zero (some_and_last q r) = these []
first_part (suc n) (some_and_last q r) = these (q ∷ [])

abbrev pub second_part : ℕ → Asked → Asked
second_part n whatever = whatever
second_part n never = never
second_part n (these qs) = these (drop n qs)
second_part zero (these_or_none qs) = these_or_none qs
second_part (suc n) (these_or_none qs) = these (drop (suc n) qs)
second_part n (maybe_and q r) = these (r ∷ [])
second_part n (each q) = each q
second_part zero (first_and_each q r) = first_and_each q r
second_part (suc n) (first_and_each q r) = each r
second_part n (each_and_last q r) = each_and_last q r
second_part zero (some_and_last q r) = some_and_last q r
second_part (suc n) (some_and_last q r) = each_and_last q r

abbrev pub of_many : Asked → Asked
of_many whatever = whatever
of_many (each q) = each q
of_many _ = never

-- whether nothing may be kept
abbrev pub none_asked : Asked → Bool
none_asked whatever = true
none_asked (these []) = true
none_asked (these_or_none qs) = true
none_asked (each q) = true
none_asked _ = false

-- what is asked of one node by itself, if one may be kept
abbrev pub is_one : Asked → Bool
is_one whatever = true
is_one (these (q ∷ [])) = true
is_one (these_or_none (q ∷ [])) = true
is_one (maybe_and q r) = true
is_one (each q) = true
is_one (first_and_each q r) = true
is_one (each_and_last q r) = true
is_one _ = false

abbrev pub of_one : Asked → Ask
of_one (these (q ∷ [])) = q
of_one (these_or_none (q ∷ [])) = q
of_one (maybe_and q r) = r
of_one (each q) = q
of_one (first_and_each q r) = q
of_one (each_and_last q r) = r
of_one _ = any
