use Rattle.ecma_lex.proofs.SymbolWords.{key_named, no_key_named}
use Rattle.ecma_utils.proofs.names.is_name.Goals as goal

pub returns-then-is_valid_prop_ident : goal.returns-then-is_valid_prop_ident
returns-then-is_valid_prop_ident c = key_named c.args.text.now c.is_reserved.result c.utf8.text (c.is_valid_prop_ident.ensures.0 c.if-is_valid_prop_ident.true) c.is_reserved.ensures

pub returns-else-is_valid_prop_ident : goal.returns-else-is_valid_prop_ident
returns-else-is_valid_prop_ident c = no_key_named c.args.text.now c.is_valid_prop_ident.result c.if-is_valid_prop_ident.false c.is_valid_prop_ident.ensures.1
