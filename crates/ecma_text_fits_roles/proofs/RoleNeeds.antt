-- What each form has to be given so that what it makes meets an ask, and whether a grammar keeps what is asked.
use Rattle.std.proofs.Common.{ℕ, zero, suc, ◌+◌, max, Bool, true, false, not, ◌&&◌, ◌||◌, bytes_eq, codes, List, [], ◌∷◌, length}
use Rattle.ecma_kind.specs.Shapes.{field_shapes}
use Rattle.ecma_kind.specs.declared.kind.Kind.{Kind}
use Rattle.ecma_kind.specs.declared.kind.Kind.TheVariants as kind
use Rattle.ecma_grammar.specs.declared.production.Part.{Part}
use Rattle.ecma_grammar.specs.declared.production.Part.TheVariants as part
use Rattle.ecma_grammar.specs.declared.production.Leaf.{Leaf}
use Rattle.ecma_grammar.specs.declared.production.Leaf.TheVariants as leaf
use Rattle.ecma_grammar.specs.declared.production.Flag.{Flag}
use Rattle.ecma_grammar.specs.declared.production.Flag.TheVariants as flag
use Rattle.ecma_grammar.specs.declared.production.Plain.{Plain}
use Rattle.ecma_grammar.specs.declared.production.Plain.TheVariants as plain
use Rattle.ecma_grammar.specs.declared.production.Form.{Form}
use Rattle.ecma_grammar.specs.declared.production.Form.TheVariants as form
use Rattle.ecma_grammar.specs.trees.Plain.{plain_kind}
use Rattle.ecma_grammar.specs.Grammar as grammar
use Rattle.ecma_grammar.specs.Grammar.{Grammar}
use Rattle.ecma_fits.specs.declared.role.Role.{Role}
use Rattle.ecma_fits.specs.declared.role.Role.TheVariants as role
use Rattle.ecma_fits.specs.Roles.{is_tagged}
use Rattle.ecma_raw_roles.specs.RawRoles.{may_be_raw, raw_role_in}
use Rattle.ecma_raw_roles.proofs.Placed.{displaced_by}
use Rattle.ecma_text_fits_roles.proofs.RoleAsks.{Ask, Asked, all_given, any, at, before, behind, both, chain, each, first, first_and_each, first_part, free, head, head_rest, is_annotated, is_loose, is_one, link, never, none_asked, of_many, of_one, second_part, single, takes_defaulted, takes_patterns, text_or_free, these, whatever, wider, with_default}

-- what forms have to be given

abbrev pub if_so : Bool → Asked → Asked
if_so true asked = asked
if_so false asked = never

-- the first n children by their roles
abbrev pub ats : (ℕ → Role) → ℕ → List Ask
ats f zero = []
ats f (suc n) = at (f 0) ∷ ats (λ i. f (suc i)) n

abbrev pub boths : (ℕ → Role) → (ℕ → Role) → ℕ → List Ask
boths f g zero = []
boths f g (suc n) = both (f 0) (g 0) ∷ boths (λ i. f (suc i)) (λ i. g (suc i)) n

-- the first stands in front, and is put there later
abbrev pub without_first : List Ask → List Ask
without_first [] = []
without_first (q ∷ qs) = any ∷ qs

abbrev pub count : Kind → ℕ
count k = length (field_shapes k)

abbrev pub is_loop : Kind → Bool
is_loop kind.ForStmt = true
is_loop kind.ForInStmt = true
is_loop (kind.ForOfStmt _) = true
is_loop _ = false

abbrev pub is_link : Kind → Bool
is_link kind.MemberExpr = true
is_link kind.CallExpr = true
is_link kind.TaggedTpl = true
is_link kind.TsNonNullExpr = true
is_link kind.TsInstantiation = true
is_link _ = false

abbrev pub is_optional : Kind → Bool
is_optional (kind.OptChainExpr _) = true
is_optional _ = false

abbrev pub link_needs : Kind → Bool → Asked
link_needs k true = these (behind ∷ [])
link_needs k false = if_so (is_link k) (these (without_first (ats (raw_role_in role.Free k) (count k))))

abbrev pub kind_needs : Kind → Ask → Asked
kind_needs k any = whatever
kind_needs k (at r) = if_so (not (displaced_by r k)) (these (ats (raw_role_in r k) (count k)))
kind_needs k (single r) = if_so (not (displaced_by r k) && is_annotated k) (these (ats (raw_role_in r k) (count k)))
kind_needs k (both r s) = if_so (not (displaced_by r k || displaced_by s k)) (these (boths (raw_role_in r k) (raw_role_in s k) (count k)))
kind_needs k (before r s) = if_so (not (displaced_by s k) && wider r (raw_role_in s k 0)) (these (without_first (ats (raw_role_in s k) (count k))))
kind_needs k link = link_needs k (is_optional k)
kind_needs k text_or_free = never
kind_needs k head = if_so (is_loop k) (each free)
kind_needs k head_rest = if_so (is_loop k) (each free)

-- sequences have as many children as they like, and have a form of their own
abbrev pub node_needs : Plain → Ask → Asked
node_needs plain.SeqExpr q = never
node_needs p q = kind_needs (plain_kind p) q

abbrev pub bare_kind_needs : Kind → Ask → Asked
bare_kind_needs k any = whatever
bare_kind_needs k (at r) = if_so (not (displaced_by r k)) whatever
bare_kind_needs k _ = never

abbrev pub first_kind_needs : Kind → Ask → Asked
first_kind_needs k any = whatever
first_kind_needs k (at r) = if_so (not (displaced_by r k)) (first (at (raw_role_in r k 0)))
first_kind_needs k _ = never

abbrev pub swapped_asked : Asked → Asked
swapped_asked whatever = whatever
swapped_asked (these (p ∷ q ∷ [])) = these (q ∷ p ∷ [])
swapped_asked (these (p ∷ q ∷ r ∷ [])) = these (p ∷ r ∷ q ∷ [])
swapped_asked _ = never

abbrev pub list_needs : Ask → Asked
list_needs any = whatever
list_needs (at r) = if_so (not (displaced_by r kind.List)) (each (at (raw_role_in r kind.List 0)))
list_needs _ = never

-- where what is made has to be free
abbrev pub as_free : Ask → Asked → Asked
as_free any asked = whatever
as_free (at r) asked = if_so (wider role.Free r) asked
as_free text_or_free asked = asked
as_free _ asked = never

-- behind a tag text parts may have no value
abbrev pub template_at : Role → Asked
template_at role.Tagged = each text_or_free
template_at r = if_so (wider role.Free r) (each free)

abbrev pub template_needs : Ask → Asked
template_needs (at r) = template_at r
template_needs q = as_free q (each free)

abbrev pub chain_at : Role → Asked
chain_at role.DeclaredElement = with_default role.DeclaredElement role.Declared
chain_at role.DeclaredValue = with_default role.DeclaredValue role.Declared
chain_at role.Parameter = with_default role.Parameter role.DefaultedParameter
chain_at r = if_so (wider role.Free r) chain

abbrev pub chain_needs : Ask → Asked
chain_needs any = whatever
chain_needs (at r) = chain_at r
chain_needs head = these (free ∷ head_rest ∷ [])
chain_needs _ = never

abbrev pub annotated_needs : Ask → Asked
annotated_needs any = whatever
annotated_needs (at r) = if_so (takes_patterns r) (these (single r ∷ free ∷ free ∷ []))
annotated_needs (both r s) = if_so (takes_patterns r && takes_defaulted s) (these (both r s ∷ free ∷ free ∷ []))
annotated_needs _ = never

abbrev pub is_parameter_role : Role → Bool
is_parameter_role role.Parameter = true
is_parameter_role _ = false

abbrev pub parameter_needs : Ask → Asked
parameter_needs any = whatever
parameter_needs (at r) = if_so (is_parameter_role r) (these (free ∷ at role.Parameter ∷ []))
parameter_needs _ = never

abbrev pub signature : List Ask
signature = free ∷ at role.Parameters ∷ free ∷ free ∷ []

abbrev pub function_parts : List Ask
function_parts = free ∷ free ∷ free ∷ signature

abbrev pub is_function : Plain → Bool
is_function plain.FnExpr = true
is_function plain.FnDecl = true
is_function plain.MethodProp = true
is_function _ = false

abbrev pub is_class : Plain → Bool
is_class plain.ClassExpr = true
is_class plain.ClassDecl = true
is_class _ = false

abbrev pub class_parts : List Ask
class_parts = free ∷ free ∷ free ∷ free ∷ free ∷ free ∷ []

abbrev pub arrow_parts : List Ask
arrow_parts = free ∷ free ∷ at role.Parameters ∷ free ∷ free ∷ []

abbrev pub accessor_parts : List Ask
accessor_parts = free ∷ signature

abbrev pub method_parts : List Ask
method_parts = free ∷ free ∷ at role.Private ∷ free ∷ free ∷ signature

abbrev pub field_parts : List Ask
field_parts = at role.Private ∷ free ∷ free ∷ free ∷ free ∷ []

abbrev pub declarator_parts : List Ask
declarator_parts = single role.Declared ∷ free ∷ free ∷ free ∷ []

-- a signature inside a type has no role
abbrev pub type_signature_needs : Ask → Asked
type_signature_needs any = whatever
type_signature_needs _ = never

-- what a form has to be given, where what it makes has to meet an ask
abbrev pub needs : Form → Ask → Asked
needs (form.Node p) q = node_needs p q
needs (form.Bare p) q = bare_kind_needs (plain_kind p) q
needs (form.First p) q = first_kind_needs (plain_kind p) q
needs (form.Swapped p) q = swapped_asked (node_needs p q)
needs form.List q = list_needs q
needs form.Elements q = list_needs q
needs form.Sequence q = as_free q (each free)
needs form.Chain q = chain_needs q
needs form.Links q = as_free q (first_and_each free link)
needs form.Logical q = as_free q (first_and_each free behind)
needs form.Template q = template_needs q
needs form.Arrow q = as_free q (these arrow_parts)
needs form.Yield q = as_free q (these (free ∷ free ∷ []))
needs form.New q = as_free q (each free)
needs form.Assertion q = as_free q (each free)
needs form.Annotated q = annotated_needs q
needs form.Declarator q = as_free q (these declarator_parts)
needs form.Param q = parameter_needs q
needs (form.Function p) q = as_free q (if_so (is_function p) (these function_parts))
needs form.Getter q = as_free q (these accessor_parts)
needs form.Setter q = as_free q (these accessor_parts)
needs (form.Class p is_abstract) q = as_free q (if_so (is_class p) (these class_parts))
needs (form.Method k) q = as_free q (these method_parts)
needs form.Field q = as_free q (these field_parts)
needs form.Modified q = as_free q (these (free ∷ free ∷ []))
needs form.IndexSignature q = as_free q whatever
needs (form.Signature k) q = type_signature_needs q
needs form.NewSignature q = type_signature_needs q
needs form.Headed q = as_free q (these (head ∷ free ∷ []))
needs form.Declared q = as_free q (these (free ∷ []))
needs form.Namespace q = as_free q (each free)
needs form.ImportEquals q = as_free q (these (free ∷ free ∷ free ∷ free ∷ []))
needs form.Module q = as_free q (these (free ∷ free ∷ []))

-- what a part keeps
abbrev pub part_keeps : Part → Asked
part_keeps part.Pattern = these (at role.Declared ∷ [])
part_keeps part.«Type» = whatever
part_keeps part.TypeOperator = whatever
part_keeps part.ArraySuffix = whatever
part_keeps part.Assertion = each free
part_keeps part.New = each free
part_keeps part.Power = each behind
part_keeps (part.Class named) = these class_parts
part_keeps (part.Link l) = each link
part_keeps (part.NewLink l) = each link
part_keeps (part.Binary op no_in) = each behind
part_keeps (part.As no_in) = each behind
part_keeps (part.Satisfies no_in) = each behind
part_keeps part.DottedName = each free
part_keeps part.DottedKey = each behind
part_keeps _ = these (free ∷ [])

-- leaves: a name may be reserved where others know it, and be `this` where it is a parameter

abbrev pub text_at : Bool → Role → Bool
text_at true r = is_tagged r
text_at false r = is_loose r

abbrev pub leaf_at : Leaf → Role → Bool
leaf_at leaf.ThisIdent role.NameOrThis = true
leaf_at leaf.ThisIdent r = false
leaf_at leaf.KeyIdent role.Key = true
leaf_at leaf.KeyIdent r = false
leaf_at leaf.PrivateName role.Private = true
leaf_at leaf.PrivateName r = false
leaf_at leaf.Ident role.NameOrThis = true
leaf_at (leaf.TplElement wanted) r = text_at wanted.tagged r
leaf_at l r = is_loose r

abbrev pub leaf_meets : Leaf → Ask → Bool
leaf_meets l any = true
leaf_meets l (at r) = leaf_at l r
leaf_meets (leaf.TplElement wanted) text_or_free = true
leaf_meets l _ = false

abbrev pub flag_meets : Flag → Ask → Bool
flag_meets f any = true
flag_meets flag.Absent (at r) = may_be_raw r kind.Absent
flag_meets flag.Absent (both r s) = may_be_raw r kind.Absent && may_be_raw s kind.Absent
flag_meets flag.Present (at r) = is_loose r
flag_meets f _ = false

-- how many nodes are kept, at most
abbrev pub asked_width : Asked → ℕ
asked_width (these qs) = length qs
asked_width _ = 1

abbrev pub width : Grammar → ℕ
width (grammar.keep l) = 1
width (grammar.put f) = 1
width (grammar.◌▸◌ g h) = width g + width h
width (grammar.◌//◌ g h) = max (width g) (width h)
width (grammar.marked g) = width g
width (grammar.assigned g) = width g
width (grammar.up u) = asked_width (part_keeps u)
width (grammar.enter u) = asked_width (part_keeps u)
width (grammar.behind t u) = asked_width (part_keeps u)
width (grammar.build f g) = 1
width _ = 0

-- whether what a grammar keeps is as asked; a key of which a word stands ahead is that word, and a private name stands before `in` alone
abbrev pub keeps : Grammar → Asked → Bool
keeps (grammar.◌▸◌ (grammar.ahead (grammar.take (grammar.the_word w))) (grammar.◌▸◌ (grammar.keep leaf.KeyIdent) g)) (these (at role.Free ∷ qs)) = bytes_eq w (codes "global") && keeps g (these qs)
keeps (grammar.◌▸◌ (grammar.keep leaf.PrivateName) g) chain = keeps g (these (before role.Private role.Free ∷ []))
keeps (grammar.keep l) q = is_one q && leaf_meets l (of_one q)
keeps (grammar.put f) q = is_one q && flag_meets f (of_one q)
keeps (grammar.◌▸◌ g h) q = keeps g (first_part (width g) q) && keeps h (second_part (width g) q)
keeps (grammar.◌//◌ g h) q = keeps g q && keeps h q
keeps (grammar.many g) q = keeps g (of_many q) && none_asked q
keeps (grammar.unless grammar.nothing) q = true
keeps (grammar.marked g) q = keeps g q
keeps (grammar.assigned g) q = keeps g q
keeps (grammar.up u) q = all_given (part_keeps u) q
keeps (grammar.enter u) q = all_given (part_keeps u) q
keeps (grammar.behind t u) q = all_given (part_keeps u) q
keeps (grammar.build f g) q = is_one q && keeps g (needs f (of_one q))
keeps _ q = none_asked q
