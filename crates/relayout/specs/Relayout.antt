-- The layout of a plain module.
use Rattle.std.specs.Prelude.{◌≡◌, ℕ, List, Result, Ok, Err, false, nat_lt, length, if◌then◌else◌}
use Rattle.std.specs.Str.{is_utf8}
use Rattle.ecma_tree.specs.declared.node.Node.{Node}
use Rattle.ecma_modules.specs.declared.error.ReadError.{ReadError}
use Rattle.ecma_modules.specs.Modules.{reads_as, plain, deepest}
use Rattle.ecma_print.specs.Layout.{layout}
use Rattle.ecma_round_trip_texts.specs.Again.{IsReadAsTree}
use Rattle.ts_to_js.specs.Conversion.{byte_limit}
use Rattle.ts_to_js.specs.Refusals.{refusal_of}
use Rattle.ts_to_js.specs.declared.error.TsError.{TsError}
use Rattle.ts_to_js.specs.declared.error.TsError.TheVariants as error

-- the layout of the tree that was read, or why there is none
abbrev pub laid_out : Result Node ReadError → Result (List ℕ) TsError
laid_out (Ok tree) = Ok (layout tree)
laid_out (Err reason) = Err (refusal_of reason)

-- the layout of the plain module of these bytes, or the first refusal that holds
abbrev pub relaid : List ℕ → Result (List ℕ) TsError
relaid src =
    if nat_lt byte_limit (length src) then Err error.TooLong
    else if is_utf8 src then laid_out (reads_as src (plain false) deepest)
    else Err error.NotUtf8

-- the text is read again as the tree that these bytes were read as, with the parentheses of its layout
pub record IsRelaid (src text : List ℕ) : Type 0 where
  pub tree : Node
  pub read_plain : reads_as src (plain false) deepest ≡ Ok tree
  pub again : IsReadAsTree tree text
