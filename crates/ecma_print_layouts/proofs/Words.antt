-- The words of the layout are keys by themselves.
use Rattle.std.proofs.Common.{ℕ, List, refl, codes}
use Rattle.std.proofs.lemmas.Str.{IsUtf8-from_is_utf8}
use Rattle.std.specs.Str.{chars, is_utf8}
use lib.Utf8.{encode}
use Rattle.unicode_ident.specs.Ident.{is_xid_start, is_xid_continue}
use Rattle.ucd_table.specs.Rows.{in_ranges}
use Rattle.ucd_derived.specs.XidStartRanges.{xid_start_ranges}
use Rattle.ucd_derived.specs.XidContinueRanges.{xid_continue_ranges}
use Rattle.ecma_lex.specs.Keys.{key_end}
use Rattle.ecma_lex.proofs.Spelled.{Spelled, IsKey, key_alone}
use Rattle.ecma_print_tokens.specs.Good.{IsToken}
use Rattle.ecma_print_layouts.proofs.Joins.{Words}

pub whole : (w : List ℕ) → Spelled IsKey w → IsToken key_end w
whole w s = record { utf8 = s.0; whole = key_alone w s }

this_spelled : Spelled IsKey (codes "this")
unfolding chars is_utf8 encode is_xid_start is_xid_continue in_ranges xid_start_ranges xid_continue_ranges
this_spelled = (IsUtf8-from_is_utf8 (codes "this") refl, (refl, refl))

null_spelled : Spelled IsKey (codes "null")
unfolding chars is_utf8 encode is_xid_start is_xid_continue in_ranges xid_start_ranges xid_continue_ranges
null_spelled = (IsUtf8-from_is_utf8 (codes "null") refl, (refl, refl))

true_spelled : Spelled IsKey (codes "true")
unfolding chars is_utf8 encode is_xid_start is_xid_continue in_ranges xid_start_ranges xid_continue_ranges
true_spelled = (IsUtf8-from_is_utf8 (codes "true") refl, (refl, refl))

false_spelled : Spelled IsKey (codes "false")
unfolding chars is_utf8 encode is_xid_start is_xid_continue in_ranges xid_start_ranges xid_continue_ranges
false_spelled = (IsUtf8-from_is_utf8 (codes "false") refl, (refl, refl))

var_spelled : Spelled IsKey (codes "var")
unfolding chars is_utf8 encode is_xid_start is_xid_continue in_ranges xid_start_ranges xid_continue_ranges
var_spelled = (IsUtf8-from_is_utf8 (codes "var") refl, (refl, refl))

let_spelled : Spelled IsKey (codes "let")
unfolding chars is_utf8 encode is_xid_start is_xid_continue in_ranges xid_start_ranges xid_continue_ranges
let_spelled = (IsUtf8-from_is_utf8 (codes "let") refl, (refl, refl))

const_spelled : Spelled IsKey (codes "const")
unfolding chars is_utf8 encode is_xid_start is_xid_continue in_ranges xid_start_ranges xid_continue_ranges
const_spelled = (IsUtf8-from_is_utf8 (codes "const") refl, (refl, refl))

typeof_spelled : Spelled IsKey (codes "typeof")
unfolding chars is_utf8 encode is_xid_start is_xid_continue in_ranges xid_start_ranges xid_continue_ranges
typeof_spelled = (IsUtf8-from_is_utf8 (codes "typeof") refl, (refl, refl))

void_spelled : Spelled IsKey (codes "void")
unfolding chars is_utf8 encode is_xid_start is_xid_continue in_ranges xid_start_ranges xid_continue_ranges
void_spelled = (IsUtf8-from_is_utf8 (codes "void") refl, (refl, refl))

delete_spelled : Spelled IsKey (codes "delete")
unfolding chars is_utf8 encode is_xid_start is_xid_continue in_ranges xid_start_ranges xid_continue_ranges
delete_spelled = (IsUtf8-from_is_utf8 (codes "delete") refl, (refl, refl))

in_spelled : Spelled IsKey (codes "in")
unfolding chars is_utf8 encode is_xid_start is_xid_continue in_ranges xid_start_ranges xid_continue_ranges
in_spelled = (IsUtf8-from_is_utf8 (codes "in") refl, (refl, refl))

instanceof_spelled : Spelled IsKey (codes "instanceof")
unfolding chars is_utf8 encode is_xid_start is_xid_continue in_ranges xid_start_ranges xid_continue_ranges
instanceof_spelled = (IsUtf8-from_is_utf8 (codes "instanceof") refl, (refl, refl))

class_spelled : Spelled IsKey (codes "class")
unfolding chars is_utf8 encode is_xid_start is_xid_continue in_ranges xid_start_ranges xid_continue_ranges
class_spelled = (IsUtf8-from_is_utf8 (codes "class") refl, (refl, refl))

extends_spelled : Spelled IsKey (codes "extends")
unfolding chars is_utf8 encode is_xid_start is_xid_continue in_ranges xid_start_ranges xid_continue_ranges
extends_spelled = (IsUtf8-from_is_utf8 (codes "extends") refl, (refl, refl))

static_spelled : Spelled IsKey (codes "static")
unfolding chars is_utf8 encode is_xid_start is_xid_continue in_ranges xid_start_ranges xid_continue_ranges
static_spelled = (IsUtf8-from_is_utf8 (codes "static") refl, (refl, refl))

constructor_spelled : Spelled IsKey (codes "constructor")
unfolding chars is_utf8 encode is_xid_start is_xid_continue in_ranges xid_start_ranges xid_continue_ranges
constructor_spelled = (IsUtf8-from_is_utf8 (codes "constructor") refl, (refl, refl))

get_spelled : Spelled IsKey (codes "get")
unfolding chars is_utf8 encode is_xid_start is_xid_continue in_ranges xid_start_ranges xid_continue_ranges
get_spelled = (IsUtf8-from_is_utf8 (codes "get") refl, (refl, refl))

set_spelled : Spelled IsKey (codes "set")
unfolding chars is_utf8 encode is_xid_start is_xid_continue in_ranges xid_start_ranges xid_continue_ranges
set_spelled = (IsUtf8-from_is_utf8 (codes "set") refl, (refl, refl))

function_spelled : Spelled IsKey (codes "function")
unfolding chars is_utf8 encode is_xid_start is_xid_continue in_ranges xid_start_ranges xid_continue_ranges
function_spelled = (IsUtf8-from_is_utf8 (codes "function") refl, (refl, refl))

await_spelled : Spelled IsKey (codes "await")
unfolding chars is_utf8 encode is_xid_start is_xid_continue in_ranges xid_start_ranges xid_continue_ranges
await_spelled = (IsUtf8-from_is_utf8 (codes "await") refl, (refl, refl))

pub async_spelled : Spelled IsKey (codes "async")
unfolding chars is_utf8 encode is_xid_start is_xid_continue in_ranges xid_start_ranges xid_continue_ranges
async_spelled = (IsUtf8-from_is_utf8 (codes "async") refl, (refl, refl))

debugger_spelled : Spelled IsKey (codes "debugger")
unfolding chars is_utf8 encode is_xid_start is_xid_continue in_ranges xid_start_ranges xid_continue_ranges
debugger_spelled = (IsUtf8-from_is_utf8 (codes "debugger") refl, (refl, refl))

throw_spelled : Spelled IsKey (codes "throw")
unfolding chars is_utf8 encode is_xid_start is_xid_continue in_ranges xid_start_ranges xid_continue_ranges
throw_spelled = (IsUtf8-from_is_utf8 (codes "throw") refl, (refl, refl))

return_spelled : Spelled IsKey (codes "return")
unfolding chars is_utf8 encode is_xid_start is_xid_continue in_ranges xid_start_ranges xid_continue_ranges
return_spelled = (IsUtf8-from_is_utf8 (codes "return") refl, (refl, refl))

if_spelled : Spelled IsKey (codes "if")
unfolding chars is_utf8 encode is_xid_start is_xid_continue in_ranges xid_start_ranges xid_continue_ranges
if_spelled = (IsUtf8-from_is_utf8 (codes "if") refl, (refl, refl))

else_spelled : Spelled IsKey (codes "else")
unfolding chars is_utf8 encode is_xid_start is_xid_continue in_ranges xid_start_ranges xid_continue_ranges
else_spelled = (IsUtf8-from_is_utf8 (codes "else") refl, (refl, refl))

while_spelled : Spelled IsKey (codes "while")
unfolding chars is_utf8 encode is_xid_start is_xid_continue in_ranges xid_start_ranges xid_continue_ranges
while_spelled = (IsUtf8-from_is_utf8 (codes "while") refl, (refl, refl))

do_spelled : Spelled IsKey (codes "do")
unfolding chars is_utf8 encode is_xid_start is_xid_continue in_ranges xid_start_ranges xid_continue_ranges
do_spelled = (IsUtf8-from_is_utf8 (codes "do") refl, (refl, refl))

switch_spelled : Spelled IsKey (codes "switch")
unfolding chars is_utf8 encode is_xid_start is_xid_continue in_ranges xid_start_ranges xid_continue_ranges
switch_spelled = (IsUtf8-from_is_utf8 (codes "switch") refl, (refl, refl))

case_spelled : Spelled IsKey (codes "case")
unfolding chars is_utf8 encode is_xid_start is_xid_continue in_ranges xid_start_ranges xid_continue_ranges
case_spelled = (IsUtf8-from_is_utf8 (codes "case") refl, (refl, refl))

default_spelled : Spelled IsKey (codes "default")
unfolding chars is_utf8 encode is_xid_start is_xid_continue in_ranges xid_start_ranges xid_continue_ranges
default_spelled = (IsUtf8-from_is_utf8 (codes "default") refl, (refl, refl))

try_spelled : Spelled IsKey (codes "try")
unfolding chars is_utf8 encode is_xid_start is_xid_continue in_ranges xid_start_ranges xid_continue_ranges
try_spelled = (IsUtf8-from_is_utf8 (codes "try") refl, (refl, refl))

catch_spelled : Spelled IsKey (codes "catch")
unfolding chars is_utf8 encode is_xid_start is_xid_continue in_ranges xid_start_ranges xid_continue_ranges
catch_spelled = (IsUtf8-from_is_utf8 (codes "catch") refl, (refl, refl))

finally_spelled : Spelled IsKey (codes "finally")
unfolding chars is_utf8 encode is_xid_start is_xid_continue in_ranges xid_start_ranges xid_continue_ranges
finally_spelled = (IsUtf8-from_is_utf8 (codes "finally") refl, (refl, refl))

for_spelled : Spelled IsKey (codes "for")
unfolding chars is_utf8 encode is_xid_start is_xid_continue in_ranges xid_start_ranges xid_continue_ranges
for_spelled = (IsUtf8-from_is_utf8 (codes "for") refl, (refl, refl))

of_spelled : Spelled IsKey (codes "of")
unfolding chars is_utf8 encode is_xid_start is_xid_continue in_ranges xid_start_ranges xid_continue_ranges
of_spelled = (IsUtf8-from_is_utf8 (codes "of") refl, (refl, refl))

break_spelled : Spelled IsKey (codes "break")
unfolding chars is_utf8 encode is_xid_start is_xid_continue in_ranges xid_start_ranges xid_continue_ranges
break_spelled = (IsUtf8-from_is_utf8 (codes "break") refl, (refl, refl))

continue_spelled : Spelled IsKey (codes "continue")
unfolding chars is_utf8 encode is_xid_start is_xid_continue in_ranges xid_start_ranges xid_continue_ranges
continue_spelled = (IsUtf8-from_is_utf8 (codes "continue") refl, (refl, refl))

import_spelled : Spelled IsKey (codes "import")
unfolding chars is_utf8 encode is_xid_start is_xid_continue in_ranges xid_start_ranges xid_continue_ranges
import_spelled = (IsUtf8-from_is_utf8 (codes "import") refl, (refl, refl))

from_spelled : Spelled IsKey (codes "from")
unfolding chars is_utf8 encode is_xid_start is_xid_continue in_ranges xid_start_ranges xid_continue_ranges
from_spelled = (IsUtf8-from_is_utf8 (codes "from") refl, (refl, refl))

as_spelled : Spelled IsKey (codes "as")
unfolding chars is_utf8 encode is_xid_start is_xid_continue in_ranges xid_start_ranges xid_continue_ranges
as_spelled = (IsUtf8-from_is_utf8 (codes "as") refl, (refl, refl))

with_spelled : Spelled IsKey (codes "with")
unfolding chars is_utf8 encode is_xid_start is_xid_continue in_ranges xid_start_ranges xid_continue_ranges
with_spelled = (IsUtf8-from_is_utf8 (codes "with") refl, (refl, refl))

export_spelled : Spelled IsKey (codes "export")
unfolding chars is_utf8 encode is_xid_start is_xid_continue in_ranges xid_start_ranges xid_continue_ranges
export_spelled = (IsUtf8-from_is_utf8 (codes "export") refl, (refl, refl))

super_spelled : Spelled IsKey (codes "super")
unfolding chars is_utf8 encode is_xid_start is_xid_continue in_ranges xid_start_ranges xid_continue_ranges
super_spelled = (IsUtf8-from_is_utf8 (codes "super") refl, (refl, refl))

yield_spelled : Spelled IsKey (codes "yield")
unfolding chars is_utf8 encode is_xid_start is_xid_continue in_ranges xid_start_ranges xid_continue_ranges
yield_spelled = (IsUtf8-from_is_utf8 (codes "yield") refl, (refl, refl))

meta_spelled : Spelled IsKey (codes "meta")
unfolding chars is_utf8 encode is_xid_start is_xid_continue in_ranges xid_start_ranges xid_continue_ranges
meta_spelled = (IsUtf8-from_is_utf8 (codes "meta") refl, (refl, refl))

new_spelled : Spelled IsKey (codes "new")
unfolding chars is_utf8 encode is_xid_start is_xid_continue in_ranges xid_start_ranges xid_continue_ranges
new_spelled = (IsUtf8-from_is_utf8 (codes "new") refl, (refl, refl))

target_spelled : Spelled IsKey (codes "target")
unfolding chars is_utf8 encode is_xid_start is_xid_continue in_ranges xid_start_ranges xid_continue_ranges
target_spelled = (IsUtf8-from_is_utf8 (codes "target") refl, (refl, refl))

require_spelled : Spelled IsKey (codes "require")
unfolding chars is_utf8 encode is_xid_start is_xid_continue in_ranges xid_start_ranges xid_continue_ranges
require_spelled = (IsUtf8-from_is_utf8 (codes "require") refl, (refl, refl))

pub layout_words : Words
layout_words = record {
  this_whole = whole (codes "this") this_spelled;
  null_whole = whole (codes "null") null_spelled;
  true_whole = whole (codes "true") true_spelled;
  false_whole = whole (codes "false") false_spelled;
  var_whole = whole (codes "var") var_spelled;
  let_whole = whole (codes "let") let_spelled;
  const_whole = whole (codes "const") const_spelled;
  typeof_whole = whole (codes "typeof") typeof_spelled;
  void_whole = whole (codes "void") void_spelled;
  delete_whole = whole (codes "delete") delete_spelled;
  super_whole = whole (codes "super") super_spelled;
  yield_whole = whole (codes "yield") yield_spelled;
  meta_whole = whole (codes "meta") meta_spelled;
  new_whole = whole (codes "new") new_spelled;
  target_whole = whole (codes "target") target_spelled;
  await_whole = whole (codes "await") await_spelled;
  async_whole = whole (codes "async") async_spelled;
  debugger_whole = whole (codes "debugger") debugger_spelled;
  throw_whole = whole (codes "throw") throw_spelled;
  return_whole = whole (codes "return") return_spelled;
  if_whole = whole (codes "if") if_spelled;
  else_whole = whole (codes "else") else_spelled;
  while_whole = whole (codes "while") while_spelled;
  do_whole = whole (codes "do") do_spelled;
  switch_whole = whole (codes "switch") switch_spelled;
  case_whole = whole (codes "case") case_spelled;
  default_whole = whole (codes "default") default_spelled;
  try_whole = whole (codes "try") try_spelled;
  catch_whole = whole (codes "catch") catch_spelled;
  finally_whole = whole (codes "finally") finally_spelled;
  for_whole = whole (codes "for") for_spelled;
  of_whole = whole (codes "of") of_spelled;
  break_whole = whole (codes "break") break_spelled;
  continue_whole = whole (codes "continue") continue_spelled;
  export_whole = whole (codes "export") export_spelled;
  require_whole = whole (codes "require") require_spelled;
  import_whole = whole (codes "import") import_spelled;
  from_whole = whole (codes "from") from_spelled;
  as_whole = whole (codes "as") as_spelled;
  with_whole = whole (codes "with") with_spelled;
  in_whole = whole (codes "in") in_spelled;
  instanceof_whole = whole (codes "instanceof") instanceof_spelled;
  class_whole = whole (codes "class") class_spelled;
  extends_whole = whole (codes "extends") extends_spelled;
  static_whole = whole (codes "static") static_spelled;
  constructor_whole = whole (codes "constructor") constructor_spelled;
  get_whole = whole (codes "get") get_spelled;
  set_whole = whole (codes "set") set_spelled;
  function_whole = whole (codes "function") function_spelled;
}
