-- How texts are spelled, and how long they are.
use Rattle.std.specs.Prelude.{◌≡◌, ℕ, ◌+◌, Bool, true, false, not, nat_lt, List, length, Some}
use Rattle.std.specs.List.{list_all}
use Rattle.ecma_kind.specs.declared.kind.Kind.{Kind}
use Rattle.ecma_kind.specs.declared.kind.Kind.TheVariants as kind
use Rattle.ecma_tree.specs.declared.node.Node.{Node}
use Rattle.ecma_leaves.specs.Words.{is_readable, is_spelled}
use Rattle.ecma_rules.specs.Children.{kind_of}
use Rattle.ecma_fits.specs.declared.unfit.Where.{Where}
use Rattle.ecma_fits.specs.Roles.{is_tagged}
use Rattle.ecma_hygiene.specs.declared.naming.Named.{Named}
use Rattle.ecma_hygiene.specs.Ids.{Id}
use Rattle.ecma_hygiene.specs.Renamed.{Texts}
use Rattle.ecma_fits.specs.Fitting.{NoneFails}

-- a leaf is not spelled as its terminal reads it
abbrev pub is_misspelled : Where → Node → Bool
is_misspelled w node = not (is_spelled (is_tagged w.role) (kind_of node))

-- a text is spelled as an identifier is
abbrev pub is_spelled_text : List ℕ → Bool
is_spelled_text text = is_spelled false (kind.Ident text 0 false)

-- each text that an id gets is spelled so
abbrev pub AreSpelled : Texts → Type 0
AreSpelled texts = (id : Id) (text : List ℕ) → texts id ≡ Some text → is_spelled_text text ≡ true

-- each text that is given is shorter than 2^32 bytes
abbrev pub are_readable : List Named → Bool
are_readable = list_all (λ named. is_readable named.text)

-- a text is still shorter than 2^32 bytes with 64 bytes more
abbrev pub is_short_text : List ℕ → Bool
is_short_text text = nat_lt (length text + 64) 4294967296

-- an identifier whose text is not so short
abbrev pub is_long : Kind → Bool
is_long (kind.Ident sym ctxt optional) = not (is_short_text sym)
is_long _ = false

-- no identifier of a tree is long
abbrev pub NoneLong : Node → Type 0
NoneLong tree = NoneFails (λ w node. is_long (kind_of node)) tree
