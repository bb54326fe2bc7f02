-- What holds of lists of tokens.
use Rattle.std.specs.Prelude.{ℕ, List}
use Rattle.ecma_print_tokens.specs.Items.{Items}
use Rattle.ecma_print_tokens.specs.Good.{Good}
use Rattle.ecma_print_tokens.specs.Joins.{Joined}
use Rattle.ecma_print_tokens.specs.Lexing.{Lexes}

-- wherever the text of a good list of tokens stands, the terminals read it as these tokens
abbrev pub TerminalsReadTokens : Type 0
TerminalsReadTokens = (text : List ℕ) → Lexes text Good

-- where each token may stand directly before the next, the list is good
abbrev pub JoinedTokensAreGood : Type 0
JoinedTokensAreGood = (ts : Items) → Joined ts → Good ts
