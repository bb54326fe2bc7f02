-- What is said of the nodes that a grammar reads in plain mode: whether they are whole, how many they are where that is fixed, which are there and neither
-- functions nor specifiers nor imports by `=`, and which are a `require("m")`.
use Rattle.std.proofs.Common.{◌≡◌, ◌∙◌, ℕ, zero, suc, Bool, true, false, not, ◌&&◌, ◌||◌, cond, List, [], ◌∷◌, ◌++◌, ap, refl, sym}
use Rattle.std.specs.Prelude.{slice_set}
use Rattle.std.proofs.lemmas.Bool.{and_parts}
use Rattle.ecma_kind.specs.declared.kind.Kind.{Kind}
use Rattle.ecma_kind.specs.declared.kind.Kind.TheVariants as kind
use Rattle.ecma_tree.specs.declared.node.Node.{Node}
use Rattle.ecma_tree.specs.Sorted.{is_absent}
use Rattle.ecma_grammar.specs.declared.production.Part.{Part}
use Rattle.ecma_grammar.specs.declared.production.Part.TheVariants as part
use Rattle.ecma_grammar.specs.declared.production.Leaf.{Leaf}
use Rattle.ecma_grammar.specs.declared.production.Leaf.TheVariants as leaf
use Rattle.ecma_grammar.specs.declared.production.Form.{Form}
use Rattle.ecma_grammar.specs.declared.production.Form.TheVariants as form
use Rattle.ecma_grammar.specs.declared.production.Plain.{Plain}
use Rattle.ecma_grammar.specs.declared.production.Plain.TheVariants as plain
use Rattle.ecma_grammar.specs.trees.Functions.{questioned_kind}
use Rattle.ecma_grammar.specs.trees.Parts.{kind_of}
use Rattle.ecma_grammar.specs.trees.Plain.{plain_kind}
use Rattle.ecma_grammar.specs.Grammar as grammar
use Rattle.ecma_grammar.specs.Grammar.{Grammar}
use Rattle.ecma_raw_roles.proofs.Walks.{not_true}
use Rattle.ecma_plain.specs.Functions.{is_this_name}
use Rattle.ecma_plain.specs.Items.{is_external}
use Rattle.ecma_text_plain.proofs.Given.{is_plain_part}
use Rattle.ecma_text_plain.proofs.Whole.{A, G, is_specifier, is_unusual, more, none}

-- it is there, no function that may lack its body, no specifier, and no import by `=`
abbrev pub is_calm : Kind → Bool
is_calm kind.Absent = false
is_calm (kind.Function is_generator is_async) = false
is_calm (kind.Constructor accessibility is_optional) = false
is_calm kind.GetterProp = false
is_calm kind.SetterProp = false
is_calm (kind.ImportNamedSpecifier is_type_only) = false
is_calm (kind.ExportNamedSpecifier is_type_only) = false
is_calm kind.ExportNamespaceSpecifier = false
is_calm (kind.TsImportEqualsDecl is_export is_type_only) = false
is_calm _ = true

pub calm_full : (k : Kind) (cs : List Node) → is_calm k ≡ true → is_unusual k cs ≡ false
calm_full (kind.Function is_generator is_async) cs h = not_true h
calm_full (kind.Constructor accessibility is_optional) cs h = not_true h
calm_full kind.GetterProp cs h = not_true h
calm_full kind.SetterProp cs h = not_true h
calm_full (kind.TsImportEqualsDecl is_export is_type_only) cs h = not_true h
calm_full _ cs h = refl

pub calm_there : (k : Kind) → is_calm k ≡ true → is_absent k ≡ false
calm_there kind.Absent h = not_true h
calm_there _ h = refl

pub calm_open : (k : Kind) → is_calm k ≡ true → is_specifier k ≡ false
calm_open (kind.ImportNamedSpecifier is_type_only) h = not_true h
calm_open (kind.ExportNamedSpecifier is_type_only) h = not_true h
calm_open kind.ExportNamespaceSpecifier h = not_true h
calm_open _ h = refl

-- no import by `=`
abbrev pub is_other : Kind → Bool
is_other (kind.TsImportEqualsDecl is_export is_type_only) = false
is_other _ = true

pub calm_other : (k : Kind) → is_calm k ≡ true → is_other k ≡ true
calm_other (kind.TsImportEqualsDecl is_export is_type_only) h = not_true h
calm_other _ h = refl

pub plain_other : (k : Plain) → is_other (plain_kind k) ≡ true
plain_other plain.BindingIdent = refl
plain_other _ = refl

pub external_calm : (k : Kind) → is_external k ≡ true → is_calm k ≡ true
external_calm kind.TsExternalModuleRef h = refl
external_calm _ h = not_true h

-- with fewer than three children none is lacking

pub bare_full : (k : Kind) → is_unusual k [] ≡ false
bare_full kind.Absent = refl
bare_full _ = refl

pub one_full : (k : Kind) (a : Node) → is_unusual k (a ∷ []) ≡ false
one_full kind.Absent a = refl
one_full _ a = refl

pub two_full : (k : Kind) (a b : Node) → is_other k ≡ true → is_unusual k (a ∷ b ∷ []) ≡ false
two_full kind.Absent a b h = refl
two_full (kind.TsImportEqualsDecl is_export is_type_only) a b h = not_true h
two_full _ a b h = refl

-- what an import by `=` imports is told by its second child
pub two_alike : (k : Kind) (a b x y : Node) → is_external (kind_of y) ≡ is_external (kind_of b) → is_unusual k (x ∷ y ∷ []) ≡ is_unusual k (a ∷ b ∷ [])
two_alike kind.Absent a b x y h = refl
two_alike (kind.TsImportEqualsDecl is_export is_type_only) a b x y h = ap not h
two_alike _ a b x y h = refl

-- the first child does not matter
pub first_aside : (k : Kind) (cs : List Node) (x : Node) → is_unusual k (slice_set cs 0 x) ≡ is_unusual k cs
first_aside k [] x = refl
first_aside k (a ∷ []) x = one_full k x ∙ sym (one_full k a)
first_aside k (a ∷ b ∷ []) x = two_alike k a b x b refl
first_aside kind.Absent (a ∷ b ∷ c ∷ []) x = refl
first_aside _ (a ∷ b ∷ c ∷ []) x = refl
first_aside kind.Absent (a ∷ b ∷ c ∷ d ∷ []) x = refl
first_aside _ (a ∷ b ∷ c ∷ d ∷ []) x = refl
first_aside kind.Absent (a ∷ b ∷ c ∷ d ∷ e ∷ cs) x = refl
first_aside _ (a ∷ b ∷ c ∷ d ∷ e ∷ cs) x = refl

pub question_aside : (optional : Bool) (k : Kind) (cs : List Node) → is_unusual (questioned_kind optional k) cs ≡ is_unusual k cs
question_aside optional (kind.Ident text ctxt before) cs = refl
question_aside optional (kind.ArrayPat before) cs = refl
question_aside optional (kind.ObjectPat before) cs = refl
question_aside optional _ cs = refl

pub question_named : (optional : Bool) (k : Kind) → is_this_name (questioned_kind optional k) ≡ is_this_name k
question_named optional (kind.Ident text ctxt before) = refl
question_named optional (kind.ArrayPat before) = refl
question_named optional (kind.ObjectPat before) = refl
question_named optional _ = refl

pub question_shut : (optional : Bool) (k : Kind) → is_specifier (questioned_kind optional k) ≡ is_specifier k
question_shut optional (kind.Ident text ctxt before) = refl
question_shut optional (kind.ArrayPat before) = refl
question_shut optional (kind.ObjectPat before) = refl
question_shut optional _ = refl

-- a node: any, a whole one, a whole one that is calm, a `require("m")`
pub data Fact : Type 0 where
  loose sound calm external : Fact

abbrev pub is_tight : Fact → Bool
is_tight loose = false
is_tight f = true

abbrev pub weaker : Fact → Fact → Fact
weaker external g = g
weaker calm external = calm
weaker calm calm = calm
weaker loose g = loose
weaker f loose = loose
weaker f g = sound

-- nothing is read; any nodes; any number of whole ones; these
pub data Given : Type 0 where
  never anything some : Given
  exactly : List Fact → Given

abbrev pub are_tight : List Fact → Bool
are_tight [] = true
are_tight (f ∷ fs) = is_tight f && are_tight fs

abbrev pub is_tight_list : Given → Bool
is_tight_list never = true
is_tight_list anything = false
is_tight_list some = true
is_tight_list (exactly fs) = are_tight fs

abbrev pub some_if : Bool → Given
some_if true = some
some_if false = anything

abbrev pub both : Given → Given → Given
both g h = some_if (is_tight_list g && is_tight_list h)

abbrev pub followed : Given → Given → Given
followed never h = never
followed (exactly fs) (exactly gs) = exactly (fs ++ gs)
followed g h = both g h

abbrev pub in_front : Fact → Given → Given
in_front f (exactly fs) = exactly (f ∷ fs)
in_front f g = some_if (is_tight f && is_tight_list g)

abbrev pub pairwise : List Fact → List Fact → Given
pairwise [] [] = exactly []
pairwise (f ∷ fs) (g ∷ gs) = in_front (weaker f g) (pairwise fs gs)
pairwise fs gs = some_if (are_tight fs && are_tight gs)

abbrev pub joined : Given → Given → Given
joined never h = h
joined g never = g
joined (exactly fs) (exactly gs) = pairwise fs gs
joined g h = both g h

abbrev pub is_calm_fact : Fact → Bool
is_calm_fact calm = true
is_calm_fact external = true
is_calm_fact f = false

abbrev pub is_external_fact : Fact → Bool
is_external_fact external = true
is_external_fact f = false

abbrev pub fact_at : (Fact → Bool) → ℕ → List Fact → Bool
fact_at p i [] = true
fact_at p zero (f ∷ fs) = p f
fact_at p (suc i) (f ∷ fs) = fact_at p i fs

abbrev pub given_at : (Fact → Bool) → ℕ → Given → Bool
given_at p i never = true
given_at p i anything = false
given_at p i some = false
given_at p i (exactly fs) = fact_at p i fs

abbrev pub is_calm_at : ℕ → Given → Bool
is_calm_at i g = given_at is_calm_fact i g

abbrev pub is_external_at : ℕ → Given → Bool
is_external_at i g = given_at is_external_fact i g

-- one behind another, and nothing more
abbrev pub second_calm : Given → Bool
second_calm (exactly (f ∷ g ∷ [])) = is_calm_fact g
second_calm g = false

abbrev pub makes_calm : Form → Given → Bool
makes_calm (form.Node k) g = is_calm (plain_kind k)
makes_calm form.List g = true
makes_calm form.Chain g = second_calm g
makes_calm f g = false

abbrev pub fact_if : Bool → Fact
fact_if true = calm
fact_if false = sound

-- what is said of what a form makes
abbrev pub fact_made : Form → Given → Fact
fact_made (form.Node plain.TsExternalModuleRef) g = external
fact_made f g = fact_if (makes_calm f g)

-- what a form is given, so that what it makes is whole
abbrev pub takes : Form → Given → Bool
takes (form.Node k) g = is_specifier (plain_kind k) || (is_calm (plain_kind k) && is_tight_list g)
takes (form.Bare k) g = true
takes (form.Swapped k) g = is_specifier (plain_kind k) || (is_calm (plain_kind k) && is_tight_list g)
takes (form.Function k) g = is_tight_list g && (is_calm_at 4 g && is_calm_at 6 g)
takes form.Getter g = is_tight_list g && is_calm_at 4 g
takes form.Setter g = is_tight_list g && (is_calm_at 2 g && is_calm_at 4 g)
takes (form.Method k) g = is_tight_list g && (is_calm_at 6 g && is_calm_at 8 g)
takes form.Headed g = is_tight_list g && is_calm_at 0 g
takes form.Annotated g = is_tight_list g && is_calm_at 0 g
takes form.Declarator g = is_tight_list g && is_calm_at 0 g
takes form.ImportEquals g = is_tight_list g && is_external_at 3 g
takes form.Assertion g = false
takes form.IndexSignature g = false
takes (form.Signature k) g = false
takes form.NewSignature g = false
takes form.Declared g = false
takes form.Namespace g = false
takes _ g = is_tight_list g

abbrev pub part_gives : Part → Given
part_gives (part.Assign no_in middle) = exactly (sound ∷ [])
part_gives part.Pattern = exactly (calm ∷ [])
part_gives part.Statement = exactly (sound ∷ [])
part_gives _ = some

abbrev pub leaf_gives : Leaf → Fact
leaf_gives leaf.KeyIdent = loose
leaf_gives leaf.ThisIdent = loose
leaf_gives _ = sound

abbrev pub gives : Bool → Grammar → Given
gives assignments (grammar.keep l) = exactly (leaf_gives l ∷ [])
gives assignments (grammar.put f) = exactly (sound ∷ [])
gives assignments (grammar.◌▸◌ x y) = followed (gives assignments x) (gives assignments y)
gives assignments (grammar.◌//◌ x y) = joined (gives assignments x) (gives assignments y)
gives assignments (grammar.many x) = some_if (is_tight_list (gives assignments x))
gives assignments (grammar.marked x) = never
gives assignments (grammar.assigned x) = cond assignments (gives assignments x) never
gives assignments (grammar.up u) = part_gives u
gives assignments (grammar.enter u) = part_gives u
gives assignments (grammar.behind t u) = part_gives u
gives assignments (grammar.build f x) = exactly (fact_made f (gives assignments x) ∷ [])
gives assignments _ = exactly []

-- grammars of plain modules whose nodes are whole
abbrev pub is_full : Bool → Grammar → Bool
is_full assignments (grammar.◌▸◌ x y) = is_full assignments x && is_full assignments y
is_full assignments (grammar.◌//◌ x y) = is_full assignments x && is_full assignments y
is_full assignments (grammar.many x) = is_full assignments x
is_full assignments (grammar.assigned x) = is_full assignments x
is_full assignments (grammar.up u) = is_plain_part u
is_full assignments (grammar.enter u) = is_plain_part u
is_full assignments (grammar.behind t u) = is_plain_part u
is_full assignments (grammar.build f x) = is_full assignments x && takes f (gives assignments x)
is_full assignments _ = true

-- what is said, of nodes

abbrev pub Meets : Fact → Node → Type 0
Meets loose n = Unit {0}
Meets sound n = G n
Meets calm n = G n × (is_calm (kind_of n) ≡ true)
Meets external n = G n × (is_external (kind_of n) ≡ true)

abbrev pub AllMeet : List Fact → List Node → Type 0
AllMeet [] [] = Unit {0}
AllMeet (f ∷ fs) (x ∷ xs) = Meets f x × AllMeet fs xs
AllMeet fs xs = ⊥

abbrev pub Has : Given → List Node → Type 0
Has never xs = ⊥
Has anything xs = Unit {0}
Has some xs = A xs
Has (exactly fs) xs = AllMeet fs xs

pub met : (f : Fact) (x : Node) → is_tight f ≡ true → Meets f x → G x
met loose x t h = not_true t
met sound x t h = h
met calm x t h = h.0
met external x t h = h.0

pub all_met : (fs : List Fact) (xs : List Node) → are_tight fs ≡ true → AllMeet fs xs → A xs
all_met [] [] t h = none
all_met [] (x ∷ xs) t h = absurd h
all_met (f ∷ fs) [] t h = absurd h
all_met (f ∷ fs) (x ∷ xs) t h = let p = and_parts (is_tight f) (are_tight fs) t in more (met f x p.0 h.0) (all_met fs xs p.1 h.1)

pub forget : (g : Given) (xs : List Node) → is_tight_list g ≡ true → Has g xs → A xs
forget never xs t h = absurd h
forget anything xs t h = not_true t
forget some xs t h = h
forget (exactly fs) xs t h = all_met fs xs t h

pub some_has : (b : Bool) (xs : List Node) → (b ≡ true → A xs) → Has (some_if b) xs
some_has true xs f = f refl
some_has false xs f = tt

-- where there are so many, the node at an index has such a kind
abbrev pub KindAt : (Kind → Bool) → ℕ → List Node → Type 0
KindAt q i [] = Unit {0}
KindAt q zero (x ∷ xs) = q (kind_of x) ≡ true
KindAt q (suc i) (x ∷ xs) = KindAt q i xs

abbrev pub CalmAt : ℕ → List Node → Type 0
CalmAt i xs = KindAt is_calm i xs

abbrev pub ExternalAt : ℕ → List Node → Type 0
ExternalAt i xs = KindAt is_external i xs

calm_met : (f : Fact) (x : Node) → is_calm_fact f ≡ true → Meets f x → is_calm (kind_of x) ≡ true
calm_met loose x e h = not_true e
calm_met sound x e h = not_true e
calm_met calm x e h = h.1
calm_met external x e h = external_calm (kind_of x) h.1

external_met : (f : Fact) (x : Node) → is_external_fact f ≡ true → Meets f x → is_external (kind_of x) ≡ true
external_met loose x e h = not_true e
external_met sound x e h = not_true e
external_met calm x e h = not_true e
external_met external x e h = h.1

module _ (p : Fact → Bool) (q : Kind → Bool) (each : (f : Fact) (x : Node) → p f ≡ true → Meets f x → q (kind_of x) ≡ true) where
  all_at : (i : ℕ) (fs : List Fact) (xs : List Node) → fact_at p i fs ≡ true → AllMeet fs xs → KindAt q i xs
  all_at i fs [] e h = tt
  all_at i [] (x ∷ xs) e h = absurd h
  all_at zero (f ∷ fs) (x ∷ xs) e h = each f x e h.0
  all_at (suc i) (f ∷ fs) (x ∷ xs) e h = all_at i fs xs e h.1

  there_at : (i : ℕ) (g : Given) (xs : List Node) → given_at p i g ≡ true → Has g xs → KindAt q i xs
  there_at i never xs e h = absurd h
  there_at i anything xs e h = not_true e
  there_at i some xs e h = not_true e
  there_at i (exactly fs) xs e h = all_at i fs xs e h

pub calm_there_at : (i : ℕ) (g : Given) (xs : List Node) → is_calm_at i g ≡ true → Has g xs → CalmAt i xs
calm_there_at i g xs e h = there_at is_calm_fact is_calm calm_met i g xs e h

pub external_there_at : (i : ℕ) (g : Given) (xs : List Node) → is_external_at i g ≡ true → Has g xs → ExternalAt i xs
external_there_at i g xs e h = there_at is_external_fact is_external external_met i g xs e h
