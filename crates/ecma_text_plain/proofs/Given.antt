-- What is said of the nodes that a grammar reads in plain mode: how many they are where that is fixed, which of them are missing, and which are modifiers that
-- are all `static`.
use Rattle.std.proofs.Common.{◌≡◌, ℕ, zero, suc, Bool, true, false, not, ◌&&◌, ◌||◌, cond, List, [], ◌∷◌, ◌++◌, bytes_eq, codes, refl}
use Rattle.ecma_tree.specs.declared.node.Node.{Node}
use Rattle.ecma_tree.specs.Nodes.{absent}
use Rattle.ecma_grammar.specs.declared.production.Part.{Part}
use Rattle.ecma_grammar.specs.declared.production.Part.TheVariants as part
use Rattle.ecma_grammar.specs.declared.production.Link.{Link}
use Rattle.ecma_grammar.specs.declared.production.Link.TheVariants as link
use Rattle.ecma_grammar.specs.declared.production.Flag.{Flag}
use Rattle.ecma_grammar.specs.declared.production.Flag.TheVariants as flag
use Rattle.ecma_grammar.specs.declared.production.Leaf.TheVariants as leaf
use Rattle.ecma_grammar.specs.declared.production.Form.{Form}
use Rattle.ecma_grammar.specs.declared.production.Form.TheVariants as form
use Rattle.ecma_grammar.specs.trees.Parts.{children_of}
use Rattle.ecma_grammar.specs.trees.Plain.{plain_kind}
use Rattle.ecma_grammar.specs.Grammar as grammar
use Rattle.ecma_grammar.specs.Grammar.{Grammar, the_word}
use Rattle.ecma_text_leaves.specs.Everywhere.{Each, Everywhere, more, none}
use Rattle.ecma_text_leaves.proofs.Trees.{good_absent}
use Rattle.ecma_raw_roles.proofs.Walks.{not_true}
use Rattle.ecma_text_plain.proofs.PlainKinds.{AbsentAt, AllStatic, IsPlain, IsStatic, StaticFirst, is_plain_kind}

-- a node: nothing is said of it, it is missing, it is the name `static`, it holds such names alone
pub data Fact : Type 0 where
  anything missing static statics : Fact

-- nothing is read; any number of nodes, each of them so; these
pub data Given : Type 0 where
  never : Given
  each : Fact → Given
  exactly : List Fact → Given

abbrev pub followed : Given → Given → Given
followed never h = never
followed (exactly fs) (exactly gs) = exactly (fs ++ gs)
followed g h = each anything

abbrev pub either : Fact → Fact → Fact
either missing missing = missing
either static static = static
either statics statics = statics
either f g = anything

abbrev pub in_front : Fact → Given → Given
in_front f never = never
in_front f (each g) = each anything
in_front f (exactly gs) = exactly (f ∷ gs)

abbrev pub pairwise : List Fact → List Fact → Given
pairwise [] [] = exactly []
pairwise (f ∷ fs) (g ∷ gs) = in_front (either f g) (pairwise fs gs)
pairwise fs gs = each anything

abbrev pub joined : Given → Given → Given
joined never h = h
joined g never = g
joined (exactly fs) (exactly gs) = pairwise fs gs
joined g h = each anything

abbrev pub repeated : Given → Given
repeated (exactly (f ∷ [])) = each f
repeated g = each anything

abbrev pub fact_of_list : Given → Fact
fact_of_list (each static) = statics
fact_of_list g = anything

abbrev pub fact_made : Form → Given → Fact
fact_made form.List g = fact_of_list g
fact_made f g = anything

-- the forms of plain modules

abbrev pub is_missing_fact : Fact → Bool
is_missing_fact missing = true
is_missing_fact f = false

abbrev pub missing_at : ℕ → List Fact → Bool
missing_at i [] = true
missing_at zero (f ∷ fs) = is_missing_fact f
missing_at (suc i) (f ∷ fs) = missing_at i fs

abbrev pub lacks : ℕ → Given → Bool
lacks i never = true
lacks i (each f) = false
lacks i (exactly fs) = missing_at i fs

abbrev pub is_statics : Fact → Bool
is_statics statics = true
is_statics f = false

abbrev pub begins_static : Given → Bool
begins_static never = true
begins_static (each f) = is_statics f
begins_static (exactly []) = true
begins_static (exactly (f ∷ fs)) = is_statics f

abbrev pub takes : Bool → Form → Given → Bool
takes assignments (form.Node k) g = is_plain_kind assignments (plain_kind k)
takes assignments (form.Bare k) g = is_plain_kind assignments (plain_kind k)
takes assignments (form.First k) g = is_plain_kind assignments (plain_kind k)
takes assignments (form.Swapped k) g = is_plain_kind assignments (plain_kind k)
takes assignments (form.Function k) g = is_plain_kind assignments (plain_kind k)
takes assignments (form.Class k is_abstract) g = is_plain_kind assignments (plain_kind k) && not is_abstract
takes assignments form.Annotated g = lacks 1 g
takes assignments form.Declarator g = lacks 1 g
takes assignments form.Param g = lacks 0 g
takes assignments (form.Method k) g = lacks 3 g
takes assignments form.Field g = lacks 1 g && lacks 2 g
takes assignments form.Modified g = begins_static g
takes assignments form.ImportEquals g = assignments && lacks 1 g
takes assignments form.Assertion g = false
takes assignments form.IndexSignature g = false
takes assignments (form.Signature k) g = false
takes assignments form.NewSignature g = false
takes assignments form.Declared g = false
takes assignments form.Namespace g = false
takes assignments _ g = true

-- grammars of plain modules

abbrev pub is_plain_link : Link → Bool
is_plain_link link.NonNull = false
is_plain_link link.Instantiation = false
is_plain_link _ = true

abbrev pub is_plain_part : Part → Bool
is_plain_part part.NamespaceBody = false
is_plain_part part.Declared = false
is_plain_part part.«Type» = false
is_plain_part part.TypeOperator = false
is_plain_part part.ArraySuffix = false
is_plain_part part.Assertion = false
is_plain_part (part.Link l) = is_plain_link l
is_plain_part (part.NewLink l) = is_plain_link l
is_plain_part (part.As no_in) = false
is_plain_part (part.Satisfies no_in) = false
is_plain_part part.DottedName = false
is_plain_part part.DottedKey = false
is_plain_part _ = true

abbrev pub part_gives : Part → Given
part_gives (part.Assign no_in middle) = exactly (anything ∷ [])
part_gives part.Pattern = exactly (anything ∷ [])
part_gives _ = each anything

abbrev pub flag_gives : Flag → Fact
flag_gives flag.Absent = missing
flag_gives flag.Present = anything

abbrev pub asks_static : Grammar → Bool
asks_static (grammar.ahead (grammar.take (the_word w))) = bytes_eq w (codes "static")
asks_static _ = false

abbrev pub keeps_key : Grammar → Bool
keeps_key (grammar.keep leaf.IdentName) = true
keeps_key _ = false

abbrev pub gives : Bool → Grammar → Given
gives assignments (grammar.keep l) = exactly (anything ∷ [])
gives assignments (grammar.put f) = exactly (flag_gives f ∷ [])
gives assignments (grammar.◌▸◌ x y) = cond (asks_static x && keeps_key y) (exactly (static ∷ [])) (followed (gives assignments x) (gives assignments y))
gives assignments (grammar.◌//◌ x y) = joined (gives assignments x) (gives assignments y)
gives assignments (grammar.many x) = repeated (gives assignments x)
gives assignments (grammar.marked x) = never
gives assignments (grammar.assigned x) = cond assignments (gives assignments x) never
gives assignments (grammar.up u) = part_gives u
gives assignments (grammar.enter u) = part_gives u
gives assignments (grammar.behind t u) = part_gives u
gives assignments (grammar.build f x) = exactly (fact_made f (gives assignments x) ∷ [])
gives assignments _ = exactly []

abbrev pub is_plain : Bool → Grammar → Bool
is_plain assignments (grammar.◌▸◌ x y) = is_plain assignments x && is_plain assignments y
is_plain assignments (grammar.◌//◌ x y) = is_plain assignments x && is_plain assignments y
is_plain assignments (grammar.many x) = is_plain assignments x
is_plain assignments (grammar.assigned x) = not assignments || is_plain assignments x
is_plain assignments (grammar.up u) = is_plain_part u
is_plain assignments (grammar.enter u) = is_plain_part u
is_plain assignments (grammar.behind t u) = is_plain_part u
is_plain assignments (grammar.build f x) = is_plain assignments x && takes assignments f (gives assignments x)
is_plain assignments _ = true

-- what is said, of nodes

module _ (assignments : Bool) where
  abbrev pub Good : Node → Type 0
  Good = Everywhere (IsPlain assignments)

  abbrev pub All : List Node → Type 0
  All = Each (IsPlain assignments)

  abbrev pub Meets : Fact → Node → Type 0
  Meets anything n = Good n
  Meets missing n = n ≡ absent
  Meets static n = Good n × IsStatic n
  Meets statics n = Good n × AllStatic (children_of n)

  abbrev pub EachMeets : Fact → List Node → Type 0
  EachMeets f [] = Unit {0}
  EachMeets f (x ∷ xs) = Meets f x × EachMeets f xs

  abbrev pub AllMeet : List Fact → List Node → Type 0
  AllMeet [] [] = Unit {0}
  AllMeet (f ∷ fs) (x ∷ xs) = Meets f x × AllMeet fs xs
  AllMeet fs xs = ⊥

  abbrev pub Has : Given → List Node → Type 0
  Has never xs = ⊥
  Has (each f) xs = EachMeets f xs
  Has (exactly fs) xs = AllMeet fs xs

  pub met : (f : Fact) (x : Node) → Meets f x → Good x
  met anything x h = h
  met missing x h = rw h (good_absent (IsPlain assignments) (tt, refl))
  met static x h = h.0
  met statics x h = h.0

  pub each_met : (f : Fact) (xs : List Node) → EachMeets f xs → All xs
  each_met f [] h = none
  each_met f (x ∷ xs) h = more (met f x h.0) (each_met f xs h.1)

  pub all_met : (fs : List Fact) (xs : List Node) → AllMeet fs xs → All xs
  all_met [] [] h = none
  all_met [] (x ∷ xs) h = absurd h
  all_met (f ∷ fs) [] h = absurd h
  all_met (f ∷ fs) (x ∷ xs) h = more (met f x h.0) (all_met fs xs h.1)

  -- all nodes are plain
  pub forget : (g : Given) (xs : List Node) → Has g xs → All xs
  forget never xs h = absurd h
  forget (each f) xs h = each_met f xs h
  forget (exactly fs) xs h = all_met fs xs h

  pub any_nodes : {xs : List Node} → All xs → EachMeets anything xs
  any_nodes none = tt
  any_nodes (more a h) = (a, any_nodes h)

  -- missing nodes

  missing_met : (f : Fact) (x : Node) → is_missing_fact f ≡ true → Meets f x → x ≡ absent
  missing_met anything x e h = not_true e
  missing_met missing x e h = h
  missing_met static x e h = not_true e
  missing_met statics x e h = not_true e

  absent_at : (i : ℕ) (fs : List Fact) (xs : List Node) → missing_at i fs ≡ true → AllMeet fs xs → AbsentAt i xs
  absent_at i fs [] e h = tt
  absent_at i [] (x ∷ xs) e h = absurd h
  absent_at zero (f ∷ fs) (x ∷ xs) e h = missing_met f x e h.0
  absent_at (suc i) (f ∷ fs) (x ∷ xs) e h = absent_at i fs xs e h.1

  pub lacking : (i : ℕ) (g : Given) (xs : List Node) → lacks i g ≡ true → Has g xs → AbsentAt i xs
  lacking i never xs e h = absurd h
  lacking i (each f) xs e h = not_true e
  lacking i (exactly fs) xs e h = absent_at i fs xs e h

  statics_met : (f : Fact) (x : Node) → is_statics f ≡ true → Meets f x → AllStatic (children_of x)
  statics_met anything x e h = not_true e
  statics_met missing x e h = not_true e
  statics_met static x e h = not_true e
  statics_met statics x e h = h.1

  pub static_first : (g : Given) (xs : List Node) → begins_static g ≡ true → Has g xs → StaticFirst xs
  static_first g [] e h = tt
  static_first never (x ∷ xs) e h = absurd h
  static_first (each f) (x ∷ xs) e h = statics_met f x e h.0
  static_first (exactly []) (x ∷ xs) e h = absurd h
  static_first (exactly (f ∷ fs)) (x ∷ xs) e h = statics_met f x e h.0
