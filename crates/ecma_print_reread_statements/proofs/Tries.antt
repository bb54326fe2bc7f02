-- `try` is read as it is laid out.
use Rattle.std.proofs.Common.{ℕ, ◌≡◌, Bool, [], ◌∷◌, codes, refl}
use Rattle.ecma_lex.specs.Keys.{is_reserved, reserved_words}
use Rattle.ecma_kind.specs.declared.kind.Kind.TheVariants as kind
use Rattle.ecma_tree.specs.declared.node.Node.{Node}
use Rattle.ecma_tree.specs.Nodes.{absent}
use Rattle.ecma_grammar.specs.declared.production.Form.TheVariants as form
use Rattle.ecma_grammar.specs.Made.{made}
use Rattle.ecma_grammar.specs.Grammar.{punct, word}
use Rattle.ecma_grammar.specs.productions.Names as names
use Rattle.ecma_grammar.specs.productions.Statements as statements
use Rattle.ecma_grammar.specs.productions.Statements.{statement_body, catch_clause, try_}
use Rattle.ecma_grammar.specs.productions.Modules as modules
use Rattle.ecma_grammar.specs.productions.Modules.{module_item}
use Rattle.ecma_print_tokens.specs.Items as items
use Rattle.ecma_print_tokens.specs.Items.{sign, no_gap, Items, it}
use Rattle.ecma_print_readings.proofs.Machine.{means}
use Rattle.ecma_shapes.specs.Shapes as shapes
use Rattle.ecma_shapes.specs.Shapes.{IsPattern}
use Rattle.ecma_shapes.proofs.Tokens.{pattern_tokens}
use Rattle.ecma_shapes.proofs.Signs.{blank}
use Rattle.ecma_shapes.proofs.Bare.{bare, bare_pattern}
use Rattle.ecma_print_readings.proofs.Fronts.{exactly, refused_at}
use Rattle.ecma_print_readings.proofs.Heads.{nodes}
use Rattle.ecma_print_readings.proofs.Forms.{Laid, s, Reads}
use Rattle.ecma_print_readings.proofs.Statements.{ReadAsStatement, token_form}
use Rattle.ecma_print_readings.proofs.Spreads.{ReadAsPattern}
use Rattle.ecma_print_readings.proofs.Blocks.{ReadAsBlock}

-- a pattern without annotation
pattern_alone : {n : Node} (is : IsPattern n) → made form.Annotated 0 0 (bare_pattern is ∷ absent ∷ absent ∷ []) ≡ bare_pattern is
pattern_alone (shapes.name_pattern at i a) = simp nodes
pattern_alone (shapes.array_pattern at at' es a) = simp nodes
pattern_alone (shapes.object_pattern at at' ps a) = simp nodes

module _ (assigned : Bool) where
  -- a clause of `catch` as it is laid out
  pub record ReadAsCatch (f : Items → Items) (n : Node) : Type 0 where
    pub reads : (us : Items) → Reads assigned catch_clause (f us) (n ∷ []) us

  module _ {f : Laid} {n : Node} (B : ReadAsBlock assigned f n) where
    pub catch_any_form : ReadAsCatch (λ us. it blank (items.key (codes "catch")) (f blank us)) (bare kind.CatchClause (absent ∷ n ∷ []))
    unfolding catch_clause
    catch_any_form = record { reads = λ us. rw (refused_at assigned (means assigned) (punct (codes "(")) (exactly (sign (codes "{"))) (f blank us) (B.begins blank us) refl, B.reads blank us) refl }

    pub catch_pattern_form : {p : Node} (is : IsPattern p) (depth : ℕ) → ReadAsPattern assigned (pattern_tokens is depth) (bare_pattern is)
        → ReadAsCatch (λ us. it blank (items.key (codes "catch")) (it blank (sign (codes "(")) (pattern_tokens is depth no_gap (s (codes ")") (f blank us))))) (bare kind.CatchClause (bare_pattern is ∷ n ∷ []))
    unfolding catch_clause
    catch_pattern_form is depth P = record { reads = λ us. rw (P.reads no_gap (s (codes ")") (f blank us)), pattern_alone is, B.reads blank us) refl }

    pub try_catch_form : {c : Items → Items} {m : Node} → ReadAsCatch c m → ReadAsStatement assigned shapes.closed (λ g us. it g (items.key (codes "try")) (f blank (c us))) (bare kind.TryStmt (n ∷ m ∷ absent ∷ []))
    unfolding statement_body try_ names.block statements.if_ statements.for_await statements.for_ statements.while_ statements.do_while statements.switch module_item modules.import modules.import_equals modules.export modules.export_default is_reserved reserved_words
    try_catch_form {c} C =
        token_form assigned 8 try_ _ refl (items.key (codes "try")) refl refl refl
        (λ g us e b z. rw (B.reads blank (c us), C.reads us, refused_at assigned (means assigned) (word (codes "finally")) e us b z) refl)

    pub try_finally_form : {h : Laid} {l : Node} → ReadAsBlock assigned h l → ReadAsStatement assigned shapes.closed (λ g us. it g (items.key (codes "try")) (f blank (it blank (items.key (codes "finally")) (h blank us)))) (bare kind.TryStmt (n ∷ absent ∷ l ∷ []))
    unfolding statement_body try_ catch_clause names.block statements.if_ statements.for_await statements.for_ statements.while_ statements.do_while statements.switch module_item modules.import modules.import_equals modules.export modules.export_default is_reserved reserved_words
    try_finally_form {h} F =
        token_form assigned 8 try_ _ refl (items.key (codes "try")) refl refl refl
        (λ g us e b z. rw (B.reads blank (it blank (items.key (codes "finally")) (h blank us)), F.reads blank us) refl)

    pub try_catch_finally_form : {c : Items → Items} {m : Node} {h : Laid} {l : Node} → ReadAsCatch c m → ReadAsBlock assigned h l
        → ReadAsStatement assigned shapes.closed (λ g us. it g (items.key (codes "try")) (f blank (c (it blank (items.key (codes "finally")) (h blank us))))) (bare kind.TryStmt (n ∷ m ∷ l ∷ []))
    unfolding statement_body try_ names.block statements.if_ statements.for_await statements.for_ statements.while_ statements.do_while statements.switch module_item modules.import modules.import_equals modules.export modules.export_default is_reserved reserved_words
    try_catch_finally_form {c} {h = h} C F =
        token_form assigned 8 try_ _ refl (items.key (codes "try")) refl refl refl
        (λ g us e b z. (let end = it blank (items.key (codes "finally")) (h blank us) in rw (B.reads blank (c end), C.reads end, F.reads blank us) refl))
