use Rattle.std.proofs.Common.{length, drop, ◌≡◌}
use Rattle.std.specs.Str.{chars}
use Rattle.ecma_lex.proofs.SymbolWords.{is_key, key_rest}
use Rattle.ecma_utils.proofs.names.is_valid_prop_ident.Given as goal

-- the characters that are left decide
abbrev pub invariant-loop-c : goal.invariant-loop-c
invariant-loop-c l = key_rest l.is_first (drop (length l.yielded) (chars l.text)) ≡ is_key (chars l.text)
