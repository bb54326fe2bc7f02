-- What the first byte of the token ahead says of a reading is what the tokens that stand ahead say of it.
use Rattle.std.proofs.Common.{◌≡◌, ℕ, ◌<◌, ◌≤◌, max, Bool, true, false, ◌||◌, nat_eq, List, [], ◌∷◌, get_or, if◌then◌else◌, codes, refl, ap, sym, subst, arith}
use Rattle.std.specs.Char.{is_ascii_digit}
use Rattle.ecma_lex.specs.declared.blanks.Skipped.{Skipped}
use Rattle.ecma_lex.specs.Blanks.{skipped}
use Rattle.ecma_lex.specs.Tokens as lex
use Rattle.ecma_grammar.specs.declared.production.Mode.{Mode}
use Rattle.ecma_grammar.specs.declared.production.TemplatePart.{TemplatePart}
use Rattle.ecma_grammar.specs.declared.production.TokenKind.TheVariants as token_kind
use Rattle.ecma_grammar.specs.declared.production.Leaf.{Leaf}
use Rattle.ecma_grammar.specs.declared.production.Leaf.TheVariants as leaf
use Rattle.ecma_grammar.specs.Grammar as grammar
use Rattle.ecma_grammar.specs.Grammar.{Terminal, the_word, the_punct, any, Grammar}
use Rattle.ecma_reader.specs.Outlook.{Outlook, Open, Fails, Stays, Passes, then_outlook, or_outlook, ahead_outlook, build_outlook, found_outlook, line_outlook, template_outlook, kind_outlook, token_outlook, leaf_outlook, outlook}
use Rattle.ecma_grammar.specs.Glance.{Sight, unknown, fails, passes, rests, stays, begun, only_fails, then_sight, or_sight, template_sight, kind_sight, token_sight, leaf_sight, sight}
use Rattle.ecma_reader.proofs.Firsts.{word-off, punct-off, angle-off, template-off, str-off, num-off, big-off}

-- nothing is taken, while terminals fail up to a place, or it fails there
abbrev pub Light : ℕ → Outlook → Type 0
Light to Open = ⊥
Light to (Fails k) = k ≡ to
Light to (Stays k) = k ≤ to
Light to (Passes k) = k ≤ to

abbrev pub Sees : ℕ → Sight → Outlook → Type 0
Sees to unknown o = Unit {0}
Sees to fails o = o ≡ Fails to
Sees to passes o = o ≡ Passes to
Sees to rests o = o ≡ Passes 0
Sees to stays o = Light to o

higher : (k to : ℕ) → k ≤ to → max k to ≡ to
higher k to h = omega arith

light-passes : (to k : ℕ) (o : Outlook) → k ≤ to → o ≡ Passes k → Light to o
light-passes to k o le h = subst (λ x. Light to x) (sym h) le

then-fails : (to : ℕ) (o : Outlook) → Light to o → then_outlook o (Fails to) ≡ Fails to
then-fails to Open h = absurd h
then-fails to (Fails k) h = ap Fails h
then-fails to (Stays k) h = ap Fails (higher k to h)
then-fails to (Passes k) h = ap Fails (higher k to h)

only-then : (to : ℕ) (y : Sight) (o p : Outlook) → Light to o → Sees to y p → Sees to (only_fails y) (then_outlook o p)
only-then to unknown o p l h = tt
only-then to fails o p l h = rw h (then-fails to o l)
only-then to passes o p l h = tt
only-then to rests o p l h = tt
only-then to stays o p l h = tt

then-sees : (to : ℕ) (x y : Sight) (o p : Outlook) → Sees to x o → Sees to y p → Sees to (then_sight x y) (then_outlook o p)
then-sees to unknown y o p h g = tt
then-sees to fails y o p h g = rw h refl
then-sees to passes y o p h g = only-then to y o p (light-passes to to o (omega arith) h) g
then-sees to rests y o p h g = only-then to y o p (light-passes to 0 o (omega arith) h) g
then-sees to stays y o p h g = only-then to y o p h g

or-light : (to : ℕ) (p : Outlook) → Light to p → Light to (or_outlook (Fails to) p)
or-light to Open h = absurd h
or-light to (Fails k) h = omega (arith, h)
or-light to (Stays k) h = omega (arith, h)
or-light to (Passes k) h = omega (arith, h)

or-sees : (to : ℕ) (x y : Sight) (o p : Outlook) → Sees to x o → Sees to y p → Sees to (or_sight x y) (or_outlook o p)
or-sees to unknown y o p h g = tt
or-sees to passes y o p h g = tt
or-sees to rests y o p h g = tt
or-sees to stays y o p h g = tt
or-sees to fails unknown o p h g = tt
or-sees to fails fails o p h g = rw (h, g) (ap Fails (higher to to (omega arith)))
or-sees to fails passes o p h g = rw (h, g) (ap Passes (higher to to (omega arith)))
or-sees to fails rests o p h g = rw (h, g) (ap Passes (omega arith))
or-sees to fails stays o p h g = rw h (or-light to p g)

ahead-sees : (to : ℕ) (x : Sight) (o : Outlook) → Sees to x o → Sees to (only_fails x) (ahead_outlook o)
ahead-sees to unknown o h = tt
ahead-sees to fails o h = rw h refl
ahead-sees to passes o h = tt
ahead-sees to rests o h = tt
ahead-sees to stays o h = tt

build-sees : (to : ℕ) (x : Sight) (o : Outlook) → Sees to x o → Sees to (only_fails x) (build_outlook o)
build-sees to unknown o h = tt
build-sees to fails o h = rw h refl
build-sees to passes o h = tt
build-sees to rests o h = tt
build-sees to stays o h = tt

line-sees : (before : Skipped) → Light before.to (line_outlook before)
line-sees before = go before.new_line refl
  where
    go : (b : Bool) → before.new_line ≡ b → Light before.to (line_outlook before)
    go true h = rw h refl
    go false h = rw h (omega arith)

if-sees : (to : ℕ) (b : Bool) (o : Outlook) → (b ≡ false → o ≡ Fails to) → Sees to (if b then unknown else fails) o
if-sees to true o h = tt
if-sees to false o h = h refl

both-false : (a b : Bool) → (a || b) ≡ false → (a ≡ false) × (b ≡ false)
both-false true b h = cc
both-false false b h = (refl, h)

module _ (text : List ℕ) (i byte : ℕ) (is : get_or text (skipped text i).to 0 ≡ byte) (some : 0 < byte) (small : byte < 128) where
  off : (c : ℕ) → nat_eq byte c ≡ false → nat_eq (get_or text (skipped text i).to 0) c ≡ false
  off c h = rw is h

  some_byte : 0 < get_or text (skipped text i).to 0
  some_byte = rw is some

  small_byte : get_or text (skipped text i).to 0 < 128
  small_byte = rw is small

  word-sees : (w : List ℕ) → Sees (skipped text i).to (begun byte w) (found_outlook (lex.word text i w))
  word-sees [] = tt
  word-sees (c ∷ cs) = if-sees (skipped text i).to (nat_eq byte c) (found_outlook (lex.word text i (c ∷ cs))) (λ h. word-off text i c cs (off c h))

  punct-sees : (w : List ℕ) → Sees (skipped text i).to (begun byte w) (found_outlook (lex.punct text i w))
  punct-sees [] = tt
  punct-sees (c ∷ cs) = if-sees (skipped text i).to (nat_eq byte c) (found_outlook (lex.punct text i (c ∷ cs))) (λ h. punct-off text i c cs (off c h))

  angle-sees : (c : ℕ) → Sees (skipped text i).to (begun byte (c ∷ [])) (found_outlook (lex.angle text i c))
  angle-sees c = if-sees (skipped text i).to (nat_eq byte c) (found_outlook (lex.angle text i c)) (λ h. angle-off text i c some_byte small_byte (off c h))

  template-sees : (part : TemplatePart) → Sees (skipped text i).to (template_sight byte part) (template_outlook text i part)
  template-sees part = if-sees (skipped text i).to (nat_eq byte (if part.first then 96 else 125)) (template_outlook text i part) (λ h. rw (off (if part.first then 96 else 125) h) (template-off text i part.first part.tagged some_byte small_byte (off (if part.first then 96 else 125) h)))

  str-sees : Sees (skipped text i).to (kind_sight byte token_kind.Str) (kind_outlook text i token_kind.Str)
  str-sees = if-sees (skipped text i).to (nat_eq byte 34 || nat_eq byte 39) (kind_outlook text i token_kind.Str)
      (λ h. let no34 : nat_eq byte 34 ≡ false = (both-false (nat_eq byte 34) (nat_eq byte 39) h).0 in
      let no39 : nat_eq byte 39 ≡ false = (both-false (nat_eq byte 34) (nat_eq byte 39) h).1 in
      rw (off 34 no34, off 39 no39) (str-off text i some_byte small_byte (off 34 no34) (off 39 no39)))

  no_digit : is_ascii_digit byte ≡ false → is_ascii_digit (get_or text (skipped text i).to 0) ≡ false
  no_digit h = rw is h

  num-sees : Sees (skipped text i).to (kind_sight byte token_kind.Number) (kind_outlook text i token_kind.Number)
  num-sees = if-sees (skipped text i).to (nat_eq byte 46 || is_ascii_digit byte) (kind_outlook text i token_kind.Number)
      (λ h. let point : nat_eq byte 46 ≡ false = (both-false (nat_eq byte 46) (is_ascii_digit byte) h).0 in
      let digit : is_ascii_digit byte ≡ false = (both-false (nat_eq byte 46) (is_ascii_digit byte) h).1 in
      rw (off 46 point, no_digit digit) (num-off text i some_byte small_byte (off 46 point) (no_digit digit)))

  big-sees : Sees (skipped text i).to (kind_sight byte token_kind.BigInt) (kind_outlook text i token_kind.BigInt)
  big-sees = if-sees (skipped text i).to (is_ascii_digit byte) (kind_outlook text i token_kind.BigInt)
      (λ digit. rw (no_digit digit) (big-off text i some_byte (no_digit digit)))

  token-sees : (t : Terminal) → Sees (skipped text i).to (token_sight byte t) (token_outlook text i t)
  token-sees (the_word w) = word-sees w
  token-sees (the_punct w) = punct-sees w
  token-sees (any token_kind.Name) = tt
  token-sees (any token_kind.Key) = tt
  token-sees (any token_kind.PrivateName) = tt
  token-sees (any token_kind.Str) = str-sees
  token-sees (any token_kind.Number) = num-sees
  token-sees (any token_kind.BigInt) = big-sees
  token-sees (any (token_kind.Template part)) = template-sees part
  token-sees (any token_kind.LeftAngle) = angle-sees 60
  token-sees (any token_kind.RightAngle) = angle-sees 62
  token-sees (any token_kind.End) = tt
  token-sees (any token_kind.EndOfText) = tt

  leaf-sees : (l : Leaf) → Sees (skipped text i).to (leaf_sight byte l) (leaf_outlook text i l)
  leaf-sees leaf.Ident = tt
  leaf-sees leaf.KeyIdent = tt
  leaf-sees leaf.ThisIdent = word-sees (codes "this")
  leaf-sees leaf.IdentName = tt
  leaf-sees leaf.PrivateName = tt
  leaf-sees leaf.Str = str-sees
  leaf-sees leaf.Number = num-sees
  leaf-sees leaf.BigInt = big-sees
  leaf-sees leaf.Regex = tt
  leaf-sees (leaf.TplElement part) = template-sees part
  leaf-sees leaf.This = word-sees (codes "this")
  leaf-sees leaf.Null = word-sees (codes "null")
  leaf-sees leaf.True = word-sees (codes "true")
  leaf-sees leaf.False = word-sees (codes "false")
  leaf-sees leaf.Super = word-sees (codes "super")
  leaf-sees leaf.Import = word-sees (codes "import")
  leaf-sees leaf.Hashbang = tt

  pub sees : (mode : Mode) → mode.typescript ≡ true → mode.assignments ≡ true → (g : Grammar) → Sees (skipped text i).to (sight byte g) (outlook text i mode g)
  sees mode m n grammar.nothing = refl
  sees mode m n grammar.same_line = line-sees (skipped text i)
  sees mode m n (grammar.take t) = token-sees t
  sees mode m n (grammar.keep l) = leaf-sees l
  sees mode m n (grammar.put f) = omega arith
  sees mode m n (grammar.◌▸◌ a b) = then-sees (skipped text i).to (sight byte a) (sight byte b) (outlook text i mode a) (outlook text i mode b) (sees mode m n a) (sees mode m n b)
  sees mode m n (grammar.◌//◌ a b) = or-sees (skipped text i).to (sight byte a) (sight byte b) (outlook text i mode a) (outlook text i mode b) (sees mode m n a) (sees mode m n b)
  sees mode m n (grammar.many a) = tt
  sees mode m n (grammar.ahead a) = ahead-sees (skipped text i).to (sight byte a) (outlook text i mode a) (sees mode m n a)
  sees mode m n (grammar.unless a) = tt
  sees mode m n (grammar.marked a) = rw m (sees mode m n a)
  sees mode m n (grammar.assigned a) = rw n (sees mode m n a)
  sees mode m n (grammar.up u) = tt
  sees mode m n (grammar.enter u) = tt
  sees mode m n (grammar.behind t u) = token-sees t
  sees mode m n (grammar.build f a) = build-sees (skipped text i).to (sight byte a) (outlook text i mode a) (sees mode m n a)

pub sees-fails : (text : List ℕ) (i byte : ℕ) (mode : Mode) (g : Grammar) → get_or text (skipped text i).to 0 ≡ byte → 0 < byte → byte < 128 → mode.typescript ≡ true → mode.assignments ≡ true
    → sight byte g ≡ fails → outlook text i mode g ≡ Fails (skipped text i).to
sees-fails text i byte mode g is some small m n h = subst (λ x. Sees (skipped text i).to x (outlook text i mode g)) h (sees text i byte is some small mode m n g)

pub sees-passes : (text : List ℕ) (i byte : ℕ) (mode : Mode) (g : Grammar) → get_or text (skipped text i).to 0 ≡ byte → 0 < byte → byte < 128 → mode.typescript ≡ true → mode.assignments ≡ true
    → sight byte g ≡ passes → outlook text i mode g ≡ Passes (skipped text i).to
sees-passes text i byte mode g is some small m n h = subst (λ x. Sees (skipped text i).to x (outlook text i mode g)) h (sees text i byte is some small mode m n g)

pub ruleset seeing = (sees-fails, sees-passes)
