-- What a grammar reads: the nodes that it keeps, in order.
use Rattle.std.specs.Prelude.{ℕ, zero, suc, ◌+◌, ◌-◌, max, Bool, true, false, not, ◌==◌, filter, List, [], ◌∷◌, length, if◌then◌else◌, codes, Some, Result, Ok, Err}
use Rattle.std.specs.Str.{chars, encode_utf8_all}
use Rattle.ecma_number.specs.Numeral.{numeral_of}
use Rattle.ecma_lex.specs.declared.tokens.Token.{Token}
use Rattle.ecma_lex.specs.declared.tokens.NoToken.{NoToken}
use Rattle.ecma_lex.specs.declared.blanks.Skipped.{Skipped}
use Rattle.ecma_lex.specs.declared.templates.TemplateText.{TemplateText}
use Rattle.ecma_lex.specs.Blanks.{skipped}
use Rattle.ecma_lex.specs.Text.{piece}
use Rattle.ecma_lex.specs.Tokens as lex
use Rattle.ecma_lex.specs.Strings.{str_lit, str_value}
use Rattle.ecma_lex.specs.Templates.{template_text, template_value, template_raw, end_length}
use Rattle.ecma_lex.specs.Regexes.{regex_body_end}
use Rattle.ecma_kind.specs.declared.kind.Kind.{Kind}
use Rattle.ecma_kind.specs.declared.kind.Kind.TheVariants as kind
use Rattle.ecma_tree.specs.declared.node.Node.{Node}
use Rattle.ecma_grammar.specs.declared.production.Part.{Part}
use Rattle.ecma_grammar.specs.declared.production.Mode.{Mode}
use Rattle.ecma_grammar.specs.declared.production.TemplatePart.{TemplatePart}
use Rattle.ecma_grammar.specs.declared.production.TokenKind.{TokenKind}
use Rattle.ecma_grammar.specs.declared.production.TokenKind.TheVariants as token_kind
use Rattle.ecma_grammar.specs.declared.production.Leaf.{Leaf}
use Rattle.ecma_grammar.specs.declared.production.Leaf.TheVariants as leaf
use Rattle.ecma_grammar.specs.declared.production.Form.{Form}
use Rattle.ecma_grammar.specs.Reading as reading
use Rattle.ecma_grammar.specs.Reading.{Position, Outcome, Reading, read, fails, too_deep, pure, ◌>>=◌, followed_on, or_on, many_up_to, ahead_on, unless_on, terminal_on}
use Rattle.ecma_grammar.specs.trees.Parts.{flag_node}
use Rattle.ecma_grammar.specs.Made.{Making, at_token, made, made_with_types}
use Rattle.ecma_grammar.specs.Grammar as grammar
use Rattle.ecma_grammar.specs.Grammar.{Terminal, the_word, the_punct, any, Grammar}
use Rattle.ecma_grammar.specs.PartBodies.{part_body}

-- no line break stands before what follows; one fails as a terminal, after it
abbrev pub same_line_on : Position → Skipped → Outcome (List Node)
same_line_on s before = if before.new_line then fails (max s.failed before.to) else read [] s

-- what is made of what was read from a place on
abbrev pub built_by : Making → Form → ℕ → Outcome (List Node) → Outcome (List Node)
built_by make form lo (read xs t) = read (make form lo t.place xs ∷ []) t
built_by make form lo (fails k) = fails k
built_by make form lo (too_deep d) = too_deep d

abbrev pub built_on : Form → ℕ → Outcome (List Node) → Outcome (List Node)
built_on = built_by made

abbrev pub built_with_types : Form → ℕ → Outcome (List Node) → Outcome (List Node)
built_with_types = built_by made_with_types

-- a text part of a template that is the last or not, as is wanted
abbrev pub part_on : Position → Bool → Result TemplateText NoToken → Outcome TemplateText
part_on s true (Ok part) = let token = part.token in if part.last then read part (record { place = token.next; failed = s.failed }) else fails s.failed
part_on s false (Ok part) = let token = part.token in if part.last then fails s.failed else read part (record { place = token.next; failed = s.failed })
part_on s last (Err none) = fails (max s.failed none.at)

-- the digits of a numeral, without `_` (95)
abbrev pub is_no_separator : ℕ → Bool
is_no_separator c = not (c == 95)

abbrev pub without_separators : List ℕ → List ℕ
without_separators digits = encode_utf8_all (filter is_no_separator (chars digits))

module _ (text : List ℕ) where
  -- the source text of a token
  abbrev pub source : Token → List ℕ
  source t = piece text t.start t.next

  -- what stands between its first and its last character, each of one byte
  abbrev pub inside : Token → List ℕ
  inside t = piece text (t.start + 1) (t.next - 1)

  abbrev pub template_part : TemplatePart → Reading TemplateText
  template_part wanted s = part_on s wanted.last (template_text text s.place wanted.first wanted.tagged)

  -- what stands between the ends of a text part
  abbrev pub part_inside : TemplateText → List ℕ
  part_inside part = let token = part.token in piece text (token.start + 1) (token.next - end_length part.last)

  abbrev pub any_token : TokenKind → Reading Token
  any_token token_kind.Name s = terminal_on s (lex.name text s.place)
  any_token token_kind.Key s = terminal_on s (lex.key text s.place)
  any_token token_kind.PrivateName s = terminal_on s (lex.priv_name text s.place)
  any_token token_kind.Str s = terminal_on s (str_lit text s.place)
  any_token token_kind.Number s = terminal_on s (lex.num text s.place)
  any_token token_kind.BigInt s = terminal_on s (lex.big text s.place)
  any_token (token_kind.Template wanted) s = (template_part wanted >>= λ part. pure part.token) s
  any_token token_kind.LeftAngle s = terminal_on s (lex.angle text s.place 60)
  any_token token_kind.RightAngle s = terminal_on s (lex.angle text s.place 62)
  any_token token_kind.End s = terminal_on s (lex.end text s.place)
  any_token token_kind.EndOfText s = terminal_on s (lex.end_of_text text s.place)

  abbrev pub token : Terminal → Reading Token
  token (the_word w) s = terminal_on s (lex.word text s.place w)
  token (the_punct w) s = terminal_on s (lex.punct text s.place w)
  token (any k) s = any_token k s

  -- a token, of which nothing is kept
  abbrev pub taken : Terminal → Reading (List Node)
  taken t = token t >>= λ k. pure []

  abbrev pub word_token : List ℕ → Reading Token
  word_token w s = terminal_on s (lex.word text s.place w)

  abbrev pub regex_token : Reading Token
  regex_token s = terminal_on s (lex.regex text s.place)

  abbrev pub hashbang_token : Reading Token
  hashbang_token s = terminal_on s (lex.hashbang text s.place)

  abbrev pub ident_at : Token → Node
  ident_at t = at_token t (kind.Ident (source t) 0 false)

  -- a word that is kept as a node of a kind
  abbrev pub word_node : List ℕ → Kind → Reading Node
  word_node w k = word_token w >>= λ t. pure (at_token t k)

  abbrev pub leaf_node : Leaf → Reading Node
  leaf_node leaf.Ident = any_token token_kind.Name >>= λ t. pure (ident_at t)
  leaf_node leaf.KeyIdent = any_token token_kind.Key >>= λ t. pure (ident_at t)
  leaf_node leaf.ThisIdent = word_token (codes "this") >>= λ t. pure (ident_at t)
  leaf_node leaf.IdentName = any_token token_kind.Key >>= λ t. pure (at_token t (kind.IdentName (source t)))
  leaf_node leaf.PrivateName = any_token token_kind.PrivateName >>= λ t. pure (at_token t (kind.PrivateName (piece text (t.start + 1) t.next)))
  leaf_node leaf.Str = any_token token_kind.Str >>= λ t. pure (at_token t (kind.Str (str_value (inside t)) (Some (source t))))
  leaf_node leaf.Number = any_token token_kind.Number >>= λ t. pure (at_token t (kind.Number (numeral_of (source t)) (Some (source t))))
  leaf_node leaf.BigInt = any_token token_kind.BigInt >>= λ t. pure (at_token t (kind.BigInt (without_separators (piece text t.start (t.next - 1))) (Some (source t))))
  leaf_node leaf.Regex = regex_token >>= λ t.
      pure (let stop = regex_body_end text t.start in at_token t (kind.Regex (piece text (t.start + 1) stop) (piece text (stop + 1) t.next)))
  leaf_node (leaf.TplElement wanted) = template_part wanted >>= λ part.
      pure (at_token part.token (kind.TplElement (template_raw (part_inside part)) (template_value (part_inside part)) part.last))
  leaf_node leaf.This = word_node (codes "this") kind.ThisExpr
  leaf_node leaf.Null = word_node (codes "null") kind.Null
  leaf_node leaf.True = word_node (codes "true") (kind.Bool true)
  leaf_node leaf.False = word_node (codes "false") (kind.Bool false)
  leaf_node leaf.Super = word_node (codes "super") kind.Super
  leaf_node leaf.Import = word_node (codes "import") kind.Import
  leaf_node leaf.Hashbang = hashbang_token >>= λ t. pure (at_token t (kind.IdentName (piece text 2 t.next)))

  -- a token that is kept as a node, as what is read
  abbrev pub kept_leaf : Leaf → Reading (List Node)
  kept_leaf l = leaf_node l >>= λ x. pure (x ∷ [])

  -- where the next token begins
  abbrev pub next_start : Position → ℕ
  next_start s = let before = skipped text s.place in before.to

  -- what a part reads one level further in, where a use that is too deep is told at a place
  abbrev pub Parts : Type 0
  Parts = Part → ℕ → Reading (List Node)

  module _ (mode : Mode) where
    abbrev pub reads_by : Making → Parts → Grammar → Reading (List Node)
    reads_by make parts grammar.nothing s = read [] s
    reads_by make parts grammar.same_line s = same_line_on s (skipped text s.place)
    reads_by make parts (grammar.take t) s = (token t >>= λ k. pure []) s
    reads_by make parts (grammar.keep l) s = kept_leaf l s
    reads_by make parts (grammar.put f) s = read (flag_node f ∷ []) s
    reads_by make parts (grammar.◌▸◌ a b) s = followed_on (reads_by make parts b) (reads_by make parts a s)
    reads_by make parts (grammar.◌//◌ a b) s = or_on (reads_by make parts b) s (reads_by make parts a s)
    reads_by make parts (grammar.many a) s = many_up_to (reads_by make parts a) (length text + 1) s
    reads_by make parts (grammar.ahead a) s = ahead_on s (reads_by make parts a s)
    reads_by make parts (grammar.unless a) s = unless_on s (reads_by make parts a s)
    reads_by make parts (grammar.marked a) s = reading.marked mode.typescript (reads_by make parts a) s
    reads_by make parts (grammar.assigned a) s = reading.marked mode.assignments (reads_by make parts a) s
    reads_by make parts (grammar.up u) s = parts u s.place s
    reads_by make parts (grammar.enter u) s = parts u (next_start s) s
    reads_by make parts (grammar.behind t u) s = (token t >>= λ k. parts u k.start) s
    reads_by make parts (grammar.build f a) s = built_by make f (next_start s) (reads_by make parts a s)

    -- what parts read where so many levels more are allowed
    unfoldable pub levels_by : Making → ℕ → Parts
    levels_by make zero u at s = too_deep at
    levels_by make (suc n) u at s = reads_by make (levels_by make n) (part_body u) s

    -- where types hold nothing
    abbrev pub reads : Parts → Grammar → Reading (List Node)
    reads = reads_by made

    abbrev pub levels : ℕ → Parts
    levels = levels_by made

    -- where they hold what was read in them
    abbrev pub reads_with_types : Parts → Grammar → Reading (List Node)
    reads_with_types = reads_by made_with_types

    abbrev pub levels_with_types : ℕ → Parts
    levels_with_types = levels_by made_with_types
