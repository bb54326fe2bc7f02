-- Tokens that are kept are of the sorts that their kinds are of, whatever they say.
use Rattle.std.proofs.Common.{◌≡◌, inl, inr, ℕ, Bool, true, false, ◌&&◌, List, [], ◌∷◌, refl, sym, ◌∙◌, subst, Option, None}
use Rattle.ecma_number.specs.declared.js_number.JsNumber.{JsNumber}
use Rattle.ecma_lex.specs.declared.tokens.Token.{Token}
use Rattle.ecma_kind.specs.Sorts.{belongs}
use Rattle.ecma_kind.specs.declared.kind.Kind.{Kind}
use Rattle.ecma_kind.specs.declared.kind.Kind.TheVariants as kind
use Rattle.ecma_kind.specs.declared.shapes.Count.{Count}
use Rattle.ecma_kind.specs.declared.shapes.Count.TheVariants.{One, Maybe, Many, MaybeMany, Holes}
use Rattle.ecma_kind.specs.declared.shapes.Sort.{Sort}
use Rattle.ecma_kind.specs.declared.shapes.Sort.TheVariants as sort
use Rattle.ecma_tree.specs.Sorted.{is_absent, is_list}
use Rattle.ecma_tree.specs.declared.node.Node.{Node}
use Rattle.ecma_tree.specs.Nodes.{dummy_span}
use Rattle.ecma_grammar.specs.declared.production.Leaf.{Leaf}
use Rattle.ecma_grammar.specs.declared.production.Leaf.TheVariants as leaf
use Rattle.ecma_grammar.specs.declared.production.Flag.{Flag}
use Rattle.ecma_grammar.specs.declared.production.Flag.TheVariants as flag
use Rattle.ecma_grammar.specs.Made.{at_token}
use Rattle.ecma_grammar.specs.trees.Parts.{from_to, flag_node}
use Rattle.ecma_grammar.specs.Reading.{Position, Outcome, read, fails, too_deep, then_on, pure}
use Rattle.ecma_grammar.specs.Reads.{leaf_node, kept_leaf}
use Rattle.ecma_grammar_laws.specs.RawSorts.{RawSort, RawShape, allows_by, belongs_raw, is_super, is_parameter_property, child_shapes_raw, sorted, parameter, setter_parameter, one}
use Rattle.ecma_grammar_laws.proofs.RawShapes.{HaveRaw, node_has}
use Rattle.ecma_grammar_laws.proofs.Asks.{Ask, any, shape, key, template_item, Meets}
use Rattle.ecma_grammar_laws.proofs.Needs.{leaf_kind, leaf_meets, flag_meets}
use Rattle.ecma_grammar_laws.proofs.Fits.{no, either_true, or_left}

-- kinds that are of the same sorts
record Alike (k j : Kind) : Type 0 where
  sorts : (s : Sort) → belongs s k ≡ belongs s j
  absent : is_absent k ≡ is_absent j
  list : is_list k ≡ is_list j
  super : is_super k ≡ is_super j
  property : is_parameter_property k ≡ is_parameter_property j

module _ (k j : Kind) (e : Alike k j) where
  raw_alike : (r : RawSort) → belongs_raw r k ≡ belongs_raw r j
  raw_alike (sorted s) = rw (e.sorts s, e.super) refl
  raw_alike parameter = rw (e.sorts sort.Pat, e.super, e.property) refl
  raw_alike setter_parameter = rw (e.sorts sort.Pat, e.super, e.property, e.list) refl

  allowed_alike : (c : Count) (r : RawSort) → allows_by c r k ≡ allows_by c r j
  allowed_alike One r = raw_alike r
  allowed_alike Maybe r = rw (e.absent, raw_alike r) refl
  allowed_alike Many r = e.list
  allowed_alike MaybeMany r = rw (e.absent, e.list) refl
  allowed_alike Holes r = e.list

  meets_alike : (q : Ask) → leaf_meets k q ≡ leaf_meets j q
  meets_alike any = refl
  meets_alike (shape s) = allowed_alike s.count s.sort
  meets_alike key = rw (e.sorts sort.PropName, e.sorts sort.PrivateName) refl
  meets_alike template_item = e.sorts sort.TplElement
  meets_alike _ = refl

ident_sorts : (s : Sort) (w v : List ℕ) (c d : ℕ) (o p : Bool) → belongs s (kind.Ident w c o) ≡ belongs s (kind.Ident v d p)
ident_sorts sort.Program w v c d o p = refl
ident_sorts _ w v c d o p = refl

word_sorts : (s : Sort) (w v : List ℕ) → belongs s (kind.IdentName w) ≡ belongs s (kind.IdentName v)
word_sorts sort.Program w v = refl
word_sorts _ w v = refl

private_sorts : (s : Sort) (w v : List ℕ) → belongs s (kind.PrivateName w) ≡ belongs s (kind.PrivateName v)
private_sorts sort.Program w v = refl
private_sorts _ w v = refl

string_sorts : (s : Sort) (w v : List ℕ) (c d : Option (List ℕ)) → belongs s (kind.Str w c) ≡ belongs s (kind.Str v d)
string_sorts sort.Program w v c d = refl
string_sorts _ w v c d = refl

number_sorts : (s : Sort) (w v : Option JsNumber) (c d : Option (List ℕ)) → belongs s (kind.Number w c) ≡ belongs s (kind.Number v d)
number_sorts sort.Program w v c d = refl
number_sorts _ w v c d = refl

big_sorts : (s : Sort) (w v : List ℕ) (c d : Option (List ℕ)) → belongs s (kind.BigInt w c) ≡ belongs s (kind.BigInt v d)
big_sorts sort.Program w v c d = refl
big_sorts _ w v c d = refl

regex_sorts : (s : Sort) (w v x y : List ℕ) → belongs s (kind.Regex w x) ≡ belongs s (kind.Regex v y)
regex_sorts sort.Program w v x y = refl
regex_sorts _ w v x y = refl

element_sorts : (s : Sort) (w v : List ℕ) (c d : Option (List ℕ)) (o p : Bool) → belongs s (kind.TplElement w c o) ≡ belongs s (kind.TplElement v d p)
element_sorts sort.Program w v c d o p = refl
element_sorts _ w v c d o p = refl

-- a node without children that stands where a token stands
module _ (token : Token) (k : Kind) (none : (s : RawShape) → HaveRaw (child_shapes_raw k s 0) []) where
  token_sorted : (s : Sort) → belongs s k ≡ true → Meets (shape (one (sorted s))) (at_token token k)
  token_sorted s b = node_has (from_to token.start token.next) k [] (one (sorted s)) (or_left (belongs s k) (is_super k && belongs s kind.ThisExpr) b) (none (one (sorted s)))

  token_meets : (q : Ask) → leaf_meets k q ≡ true → Meets q (at_token token k)
  token_meets any h = tt
  token_meets (shape s) h = node_has (from_to token.start token.next) k [] s h (none s)
  token_meets key h = either_true (belongs sort.PropName k) (belongs sort.PrivateName k) (λ b. inl (token_sorted sort.PropName b)) (λ b. inr (token_sorted sort.PrivateName b)) h
  token_meets template_item h = inl (token_sorted sort.TplElement h)
  token_meets _ h = no h

alike_meets : (token : Token) (k j : Kind) → ((s : RawShape) → HaveRaw (child_shapes_raw k s 0) []) → Alike j k → (q : Ask) → leaf_meets j q ≡ true → Meets q (at_token token k)
alike_meets token k j none e q h = token_meets token k none q (sym (meets_alike j k e q) ∙ h)

-- what is made of what is read first
made_of : {A : Type 0} (P : Node → Type 0) (f : A → Node) → ((x : A) → P (f x)) → (o : Outcome A) (x : Node) (t : Position) → then_on (λ y. pure (f y)) o ≡ read x t → P x
made_of P f g (read y u) x t h = let e : f y ≡ x = cc in subst P e (g y)
made_of P f g (fails n) x t h = cc
made_of P f g (too_deep n) x t h = cc

ident_alike : (w : List ℕ) → Alike (kind.Ident [] 0 false) (kind.Ident w 0 false)
ident_alike w = record { sorts = λ s. ident_sorts s [] w 0 0 false false; absent = refl; list = refl; super = refl; property = refl }

word_alike : (w : List ℕ) → Alike (kind.IdentName []) (kind.IdentName w)
word_alike w = record { sorts = λ s. word_sorts s [] w; absent = refl; list = refl; super = refl; property = refl }

private_alike : (w : List ℕ) → Alike (kind.PrivateName []) (kind.PrivateName w)
private_alike w = record { sorts = λ s. private_sorts s [] w; absent = refl; list = refl; super = refl; property = refl }

string_alike : (w : List ℕ) (c : Option (List ℕ)) → Alike (kind.Str [] None) (kind.Str w c)
string_alike w c = record { sorts = λ s. string_sorts s [] w None c; absent = refl; list = refl; super = refl; property = refl }

number_alike : (w : Option JsNumber) (c : Option (List ℕ)) → Alike (kind.Number None None) (kind.Number w c)
number_alike w c = record { sorts = λ s. number_sorts s None w None c; absent = refl; list = refl; super = refl; property = refl }

big_alike : (w : List ℕ) (c : Option (List ℕ)) → Alike (kind.BigInt [] None) (kind.BigInt w c)
big_alike w c = record { sorts = λ s. big_sorts s [] w None c; absent = refl; list = refl; super = refl; property = refl }

regex_alike : (w x : List ℕ) → Alike (kind.Regex [] []) (kind.Regex w x)
regex_alike w x = record { sorts = λ s. regex_sorts s [] w [] x; absent = refl; list = refl; super = refl; property = refl }

element_alike : (w : List ℕ) (c : Option (List ℕ)) (o : Bool) → Alike (kind.TplElement [] None false) (kind.TplElement w c o)
element_alike w c o = record { sorts = λ s. element_sorts s [] w None c false o; absent = refl; list = refl; super = refl; property = refl }

module _ (text : List ℕ) where
  leaf_as_asked : (l : Leaf) (q : Ask) → leaf_meets (leaf_kind l) q ≡ true → (s t : Position) (x : Node) → leaf_node text l s ≡ read x t → Meets q x
  leaf_as_asked leaf.Ident q h s t x r = made_of (Meets q) _ (λ y. alike_meets y _ _ (λ s. tt) (ident_alike _) q h) _ x t r
  leaf_as_asked leaf.KeyIdent q h s t x r = made_of (Meets q) _ (λ y. alike_meets y _ _ (λ s. tt) (ident_alike _) q h) _ x t r
  leaf_as_asked leaf.ThisIdent q h s t x r = made_of (Meets q) _ (λ y. alike_meets y _ _ (λ s. tt) (ident_alike _) q h) _ x t r
  leaf_as_asked leaf.IdentName q h s t x r = made_of (Meets q) _ (λ y. alike_meets y _ _ (λ s. tt) (word_alike _) q h) _ x t r
  leaf_as_asked leaf.PrivateName q h s t x r = made_of (Meets q) _ (λ y. alike_meets y _ _ (λ s. tt) (private_alike _) q h) _ x t r
  leaf_as_asked leaf.Str q h s t x r = made_of (Meets q) _ (λ y. alike_meets y _ _ (λ s. tt) (string_alike _ _) q h) _ x t r
  leaf_as_asked leaf.Number q h s t x r = made_of (Meets q) _ (λ y. alike_meets y _ _ (λ s. tt) (number_alike _ _) q h) _ x t r
  leaf_as_asked leaf.BigInt q h s t x r = made_of (Meets q) _ (λ y. alike_meets y _ _ (λ s. tt) (big_alike _ _) q h) _ x t r
  leaf_as_asked leaf.Regex q h s t x r = made_of (Meets q) _ (λ y. alike_meets y _ _ (λ s. tt) (regex_alike _ _) q h) _ x t r
  leaf_as_asked (leaf.TplElement wanted) q h s t x r = made_of (Meets q) _ (λ y. alike_meets y.token _ _ (λ s. tt) (element_alike _ _ _) q h) _ x t r
  leaf_as_asked leaf.This q h s t x r = made_of (Meets q) _ (λ y. token_meets y kind.ThisExpr (λ s. tt) q h) _ x t r
  leaf_as_asked leaf.Null q h s t x r = made_of (Meets q) _ (λ y. token_meets y kind.Null (λ s. tt) q h) _ x t r
  leaf_as_asked leaf.True q h s t x r = made_of (Meets q) _ (λ y. token_meets y (kind.Bool true) (λ s. tt) q h) _ x t r
  leaf_as_asked leaf.False q h s t x r = made_of (Meets q) _ (λ y. token_meets y (kind.Bool false) (λ s. tt) q h) _ x t r
  leaf_as_asked leaf.Super q h s t x r = made_of (Meets q) _ (λ y. token_meets y kind.Super (λ s. tt) q h) _ x t r
  leaf_as_asked leaf.Import q h s t x r = made_of (Meets q) _ (λ y. token_meets y kind.Import (λ s. tt) q h) _ x t r
  leaf_as_asked leaf.Hashbang q h s t x r = made_of (Meets q) _ (λ y. alike_meets y _ _ (λ s. tt) (word_alike _) q h) _ x t r

  pub leaf_meets_ask : (l : Leaf) (q : Ask) → leaf_meets (leaf_kind l) q ≡ true → (s t : Position) (xs : List Node) → kept_leaf text l s ≡ read xs t → (x : Node) × (xs ≡ x ∷ []) × Meets q x
  leaf_meets_ask l q h s t xs r = go (leaf_node text l s) (λ x u e. leaf_as_asked l q h s u x e) r
    where
      go : (o : Outcome Node) → ((x : Node) (u : Position) → o ≡ read x u → Meets q x) → then_on (λ x. pure (x ∷ [])) o ≡ read xs t → (x : Node) × (xs ≡ x ∷ []) × Meets q x
      go (read y u) f e = (y, cc, f y u refl)
      go (fails n) f e = cc
      go (too_deep n) f e = cc

-- a flag
pub flag_meets_ask : (f : Flag) (q : Ask) → flag_meets f q ≡ true → Meets q (flag_node f)
flag_meets_ask f any h = tt
flag_meets_ask flag.Absent (shape s) h = node_has dummy_span kind.Absent [] s h tt
flag_meets_ask flag.Absent _ h = no h
flag_meets_ask flag.Present _ h = no h
