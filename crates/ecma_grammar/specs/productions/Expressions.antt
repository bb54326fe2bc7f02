-- Conditional expressions, assignments, yield (ECMAScript, 13.14, 13.15, 15.5).
use Rattle.std.specs.Prelude.{ℕ, List, Bool, true, false, codes}
use Rattle.ecma_grammar.specs.Grammar.{Grammar, nothing, same_line, put, ◌▸◌, ◌//◌, build, word, punct, optional, maybe, item}
use Rattle.ecma_grammar.specs.declared.production.Flag.TheVariants.{Absent, Present}
use Rattle.ecma_grammar.specs.declared.production.Plain.TheVariants as plain
use Rattle.ecma_grammar.specs.declared.production.Form.TheVariants as form
use Rattle.ecma_kind.specs.declared.operators.AssignOp.{AssignOp}
use Rattle.ecma_kind.specs.declared.operators.AssignOp.TheVariants as assign_op
use Rattle.ecma_grammar.specs.productions.Names.{assign_at}
use Rattle.ecma_grammar.specs.productions.Operators.{short_circuit}
use Rattle.ecma_grammar.specs.productions.Functions.{arrow}

-- ('?' Assign ':' Assign)?, where `in` is an operator in the middle
--   a ? b : c;
--   for (let a = b ? c in d : e; f; );
--   a ? b;   // refused
abbrev pub choice : Bool → Bool → Grammar
choice no_in middle = optional (item plain.CondExpr (punct (codes "?") ▸ assign_at false true ▸ punct (codes ":") ▸ assign_at no_in middle))

-- Cond = Short ('?' Assign ':' Assign)?
--   a || b ? c : d;
--   a ? b : c ? d : e;
unfoldable pub conditional : Bool → Bool → Grammar
conditional no_in middle = build form.Chain (short_circuit no_in ▸ choice no_in middle)

-- 'yield' (~'*' Assign / ~Assign)?
--   function* f() { yield; yield a; yield* b; }
--   function* f() { a + yield b; }   // refused
abbrev pub yield_ : Bool → Bool → Grammar
yield_ no_in middle =
    build form.Yield
    (word (codes "yield")
    ▸ (same_line ▸ punct (codes "*") ▸ put Present ▸ assign_at no_in middle // put Absent ▸ maybe (same_line ▸ assign_at no_in middle)))

abbrev pub assignment : List ℕ → AssignOp → Bool → Bool → Grammar
assignment sign op no_in middle = item (plain.AssignExpr op) (punct sign ▸ assign_at no_in middle)

-- AssignOp Assign
--   a = b ||= c;
--   a = ;   // refused
unfoldable pub assignments : Bool → Bool → Grammar
assignments no_in middle =
    assignment (codes "=") assign_op.Assign no_in middle
    // assignment (codes "+=") assign_op.AddAssign no_in middle // assignment (codes "-=") assign_op.SubAssign no_in middle
    // assignment (codes "*=") assign_op.MulAssign no_in middle // assignment (codes "/=") assign_op.DivAssign no_in middle
    // assignment (codes "%=") assign_op.ModAssign no_in middle // assignment (codes "**=") assign_op.ExpAssign no_in middle
    // assignment (codes "<<=") assign_op.LShiftAssign no_in middle // assignment (codes ">>=") assign_op.RShiftAssign no_in middle
    // assignment (codes ">>>=") assign_op.ZeroFillRShiftAssign no_in middle
    // assignment (codes "&=") assign_op.BitAndAssign no_in middle // assignment (codes "|=") assign_op.BitOrAssign no_in middle
    // assignment (codes "^=") assign_op.BitXorAssign no_in middle
    // assignment (codes "&&=") assign_op.AndAssign no_in middle // assignment (codes "||=") assign_op.OrAssign no_in middle
    // assignment (codes "??=") assign_op.NullishAssign no_in middle
    // nothing

-- Assign = Arrow / 'yield' .. / Cond (AssignOp Assign)?
--   a => b; a = b;
--   function* f() { a = yield b; }
abbrev pub assign_body : Bool → Bool → Grammar
assign_body no_in middle = arrow no_in middle // yield_ no_in middle // build form.Chain (conditional no_in middle ▸ assignments no_in middle)
