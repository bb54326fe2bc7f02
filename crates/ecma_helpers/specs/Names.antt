-- Which helpers there are: under which text each is known, where it is imported from, and which slot of a session it has.
use Rattle.std.specs.Prelude.{ℕ, List, codes}
use Rattle.ecma_tree.specs.Nodes.{dummy_span}
use Rattle.ecma_tree.specs.declared.node.Node.{Node}
use Rattle.ecma_utils.specs.Quotes.{name_of}
use Rattle.ecma_helpers.specs.declared.name.HelperName.{HelperName}
use Rattle.ecma_helpers.specs.declared.name.HelperName.TheVariants as helper

abbrev pub slot_of : HelperName → ℕ
slot_of helper.Get = 0
slot_of helper.GetPrototypeOf = 1
slot_of helper.Set = 2
slot_of helper.Update = 3
slot_of helper.AssertThisInitialized = 4

abbrev pub text_of : HelperName → List ℕ
text_of helper.Get = codes "_get"
text_of helper.GetPrototypeOf = codes "_get_prototype_of"
text_of helper.Set = codes "_set"
text_of helper.Update = codes "_update"
text_of helper.AssertThisInitialized = codes "_assert_this_initialized"

abbrev pub source_of : HelperName → List ℕ
source_of helper.Get = codes "@swc/helpers/_/_get"
source_of helper.GetPrototypeOf = codes "@swc/helpers/_/_get_prototype_of"
source_of helper.Set = codes "@swc/helpers/_/_set"
source_of helper.Update = codes "@swc/helpers/_/_update"
source_of helper.AssertThisInitialized = codes "@swc/helpers/_/_assert_this_initialized"

-- the name of a helper in a context. It stands in no text, so it is a new name
abbrev pub name_of_helper : HelperName → ℕ → Node
name_of_helper name ctxt = name_of ctxt dummy_span (text_of name)
