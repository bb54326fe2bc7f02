use Rattle.std.proofs.Common.{◌∙◌, ◌++◌, ◌∷◌, [], Ok, sym, ap, refl, map, arith, is_some, length-append}
use Rattle.std.specs.Rc.{rc_str_bytes}
use Rattle.symbol_table.proofs.Interning.{found-there, found-contained, not-there, inserted, texts-pushed, distinct-push}
use Rattle.symbol_table.proofs.table.SymbolTable.intern.Goals as goal

pub returns-in-Some-clause-there : goal.returns-in-Some-clause-there
returns-in-Some-clause-there c n at =
    let here = found-there rc_str_bytes c.args.text.now c.self.inside.texts.keys c.in-Some.n (sym c.in-Some.ensures.index) in
    (ap Ok (c.self.invariant.0 c.in-Some.n n c.args.text.now here (rw c.self.view_is at)), refl)

pub returns-in-Some-clause-number : goal.returns-in-Some-clause-number
returns-in-Some-clause-number c new =
    absurd (new (found-contained rc_str_bytes c.args.text.now c.self.inside.texts.keys c.args.self.now c.in-Some.n c.self.view_is (sym c.in-Some.ensures.index)))

pub returns-in-Some-clause-appended : goal.returns-in-Some-clause-appended
returns-in-Some-clause-appended c new =
    absurd (new (found-contained rc_str_bytes c.args.text.now c.self.inside.texts.keys c.args.self.now c.in-Some.n c.self.view_is (sym c.in-Some.ensures.index)))

pub returns-then-n-gt4294967295-clause-there : goal.returns-then-n-gt4294967295-clause-there
returns-then-n-gt4294967295-clause-there c n at =
    let none = sym c.get_index_of.ensures.found ∙ ap is_some c.in_default.is in
    absurd (not-there rc_str_bytes c.args.text.now c.self.inside.texts.keys none c.args.self.now c.self.view_is n at)

pub returns-in_err-word-clause-there : goal.returns-in_err-word-clause-there
returns-in_err-word-clause-there c n at =
    let none = sym c.get_index_of.ensures.found ∙ ap is_some c.in_default.is in
    absurd (not-there rc_str_bytes c.args.text.now c.self.inside.texts.keys none c.args.self.now c.self.view_is n at)

pub returns-in_err-insert-clause-there : goal.returns-in_err-insert-clause-there
returns-in_err-insert-clause-there c n at =
    let none = sym c.get_index_of.ensures.found ∙ ap is_some c.in_default.is in
    absurd (not-there rc_str_bytes c.args.text.now c.self.inside.texts.keys none c.args.self.now c.self.view_is n at)

pub invariant_of-self-2 : goal.invariant_of-self-2
invariant_of-self-2 c =
    let keys = c.self.inside.texts.keys in
    let none = sym c.get_index_of.ensures.found ∙ ap is_some c.in_default.is in
    rw (
      c.in_ok-insert.ensures.keys,
      inserted rc_str_bytes c.args.text.now keys none c.in_ok-word.word c.in_ok-word.ensures.ok,
      texts-pushed rc_str_bytes c.args.text.now keys none c.in_ok-word.word c.in_ok-word.ensures.ok,
    ) (
      distinct-push (map rc_str_bytes keys) c.args.text.now c.self.invariant.0 (not-there rc_str_bytes c.args.text.now keys none (map rc_str_bytes keys) refl),
      omega (arith, length-append keys (c.in_ok-word.word ∷ []), c.len-n.ensures.len, c.if-n-gt4294967295.false),
    )

pub returns-clause-there : goal.returns-clause-there
returns-clause-there c n at =
    let none = sym c.get_index_of.ensures.found ∙ ap is_some c.in_default.is in
    absurd (not-there rc_str_bytes c.args.text.now c.self.inside.texts.keys none c.args.self.now c.self.view_is n at)

pub returns-clause-appended : goal.returns-clause-appended
returns-clause-appended c new =
    let keys = c.self.inside.texts.keys in
    let none = sym c.get_index_of.ensures.found ∙ ap is_some c.in_default.is in
    ap (map rc_str_bytes) (c.in_ok-insert.ensures.keys ∙ inserted rc_str_bytes c.args.text.now keys none c.in_ok-word.word c.in_ok-word.ensures.ok)
    ∙ texts-pushed rc_str_bytes c.args.text.now keys none c.in_ok-word.word c.in_ok-word.ensures.ok
    ∙ ap (λ ts. ts ++ c.args.text.now ∷ []) c.self.view_is
