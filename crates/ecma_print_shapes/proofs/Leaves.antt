-- Leaves that are spelled and bare have the shapes of leaves.
use Rattle.std.proofs.Common.{◌≡◌, sym, subst, ℕ, Bool, true, false, [], List, Option, Some, None}
use Rattle.ecma_number.specs.declared.js_number.JsNumber.{JsNumber}
use Rattle.ecma_lex.specs.Keys.{is_reserved}
use Rattle.ecma_kind.specs.declared.span.Span.{Span}
use Rattle.ecma_kind.specs.declared.kind.Kind.TheVariants as kind
use Rattle.ecma_tree.specs.Nodes.{node_of}
use Rattle.ecma_leaves.specs.Words.{is_spelled}
use Rattle.ecma_shapes.specs.Shapes.{IsExpression, IsIdent, IsKey, IsPropertyName, big_int, big_int_name, ident, key, new_callee, number, number_name, numeral, string, string_name}
use Rattle.ecma_shapes.specs.Modules.{IsExportName, IsString, string_literal, word_name}
use Rattle.ecma_plain.specs.Forms.{IsBare}
use Rattle.ecma_print_shapes.proofs.LeafTokens.{big_token}
use Rattle.ecma_print_shapes.proofs.Tokens.{key_token, number_token, string_token}

module _ (tagged : Bool) (at : Span) where
  pub ident_shape : (sym : List ℕ) (ctxt : ℕ) (optional : Bool) → is_spelled tagged (kind.Ident sym ctxt optional) ≡ true → IsBare (kind.Ident sym ctxt optional) → is_reserved sym ≡ false → IsIdent (node_of at (kind.Ident sym ctxt optional) [])
  ident_shape word ctxt optional s b free =
      subst (λ c. IsIdent (node_of at (kind.Ident word c optional) [])) (sym b.1)
      (subst (λ o. IsIdent (node_of at (kind.Ident word 0 o) [])) (sym b.2) (ident at word (record { whole = key_token word b.0 s; free = free })))

  pub export_name_shape : (sym : List ℕ) (ctxt : ℕ) (optional : Bool) → is_spelled tagged (kind.Ident sym ctxt optional) ≡ true → IsBare (kind.Ident sym ctxt optional) → IsExportName (node_of at (kind.Ident sym ctxt optional) [])
  export_name_shape word ctxt optional s b =
      subst (λ c. IsExportName (node_of at (kind.Ident word c optional) [])) (sym b.1)
      (subst (λ o. IsExportName (node_of at (kind.Ident word 0 o) [])) (sym b.2) (word_name at word (key_token word b.0 s)))

  pub key_shape : (sym : List ℕ) → is_spelled tagged (kind.IdentName sym) ≡ true → IsBare (kind.IdentName sym) → IsKey (node_of at (kind.IdentName sym) [])
  key_shape word s b = key at word (key_token word b s)

  pub string_shape : (value : List ℕ) (raw : Option (List ℕ)) → is_spelled tagged (kind.Str value raw) ≡ true → IsBare (kind.Str value raw) → IsExpression new_callee (node_of at (kind.Str value raw) [])
  string_shape value None s b = absurd b
  string_shape value (Some raw) s b = let t = string_token value raw b s in subst (λ v. IsExpression new_callee (node_of at (kind.Str v (Some raw)) [])) t.1 (string at raw t.0)

  pub string_literal_shape : (value : List ℕ) (raw : Option (List ℕ)) → is_spelled tagged (kind.Str value raw) ≡ true → IsBare (kind.Str value raw) → IsString (node_of at (kind.Str value raw) [])
  string_literal_shape value None s b = absurd b
  string_literal_shape value (Some raw) s b = let t = string_token value raw b s in subst (λ v. IsString (node_of at (kind.Str v (Some raw)) [])) t.1 (string_literal at raw t.0)

  pub string_name_shape : (value : List ℕ) (raw : Option (List ℕ)) → is_spelled tagged (kind.Str value raw) ≡ true → IsBare (kind.Str value raw) → IsPropertyName (node_of at (kind.Str value raw) [])
  string_name_shape value None s b = absurd b
  string_name_shape value (Some raw) s b = let t = string_token value raw b s in subst (λ v. IsPropertyName (node_of at (kind.Str v (Some raw)) [])) t.1 (string_name at raw t.0)

  pub number_shape : (value : Option JsNumber) (raw : Option (List ℕ)) → is_spelled tagged (kind.Number value raw) ≡ true → IsBare (kind.Number value raw) → IsExpression numeral (node_of at (kind.Number value raw) [])
  number_shape value None s b = absurd b
  number_shape value (Some raw) s b = let t = number_token value raw b s in subst (λ v. IsExpression numeral (node_of at (kind.Number v (Some raw)) [])) t.1 (number at raw t.0)

  pub number_name_shape : (value : Option JsNumber) (raw : Option (List ℕ)) → is_spelled tagged (kind.Number value raw) ≡ true → IsBare (kind.Number value raw) → IsPropertyName (node_of at (kind.Number value raw) [])
  number_name_shape value None s b = absurd b
  number_name_shape value (Some raw) s b = let t = number_token value raw b s in subst (λ v. IsPropertyName (node_of at (kind.Number v (Some raw)) [])) t.1 (number_name at raw t.0)

  pub big_int_shape : (value : List ℕ) (raw : Option (List ℕ)) → is_spelled tagged (kind.BigInt value raw) ≡ true → IsBare (kind.BigInt value raw) → IsExpression new_callee (node_of at (kind.BigInt value raw) [])
  big_int_shape value None s b = absurd b
  big_int_shape value (Some raw) s b = let t = big_token value raw b s in subst (λ v. IsExpression new_callee (node_of at (kind.BigInt v (Some raw)) [])) t.1 (big_int at raw t.0)

  pub big_int_name_shape : (value : List ℕ) (raw : Option (List ℕ)) → is_spelled tagged (kind.BigInt value raw) ≡ true → IsBare (kind.BigInt value raw) → IsPropertyName (node_of at (kind.BigInt value raw) [])
  big_int_name_shape value None s b = absurd b
  big_int_name_shape value (Some raw) s b = let t = big_token value raw b s in subst (λ v. IsPropertyName (node_of at (kind.BigInt v (Some raw)) [])) t.1 (big_int_name at raw t.0)
