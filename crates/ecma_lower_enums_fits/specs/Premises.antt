-- What is asked of the names of a module before its enums are written.
use Rattle.std.specs.Prelude.{Bool, true, false, ◌&&◌, codes}
use Rattle.ecma_kind.specs.declared.kind.Kind.{Kind}
use Rattle.ecma_kind.specs.declared.kind.Kind.TheVariants as kind
use Rattle.ecma_tree.specs.declared.node.Node.{Node}
use Rattle.ecma_fits.specs.Fitting.{NoneFails}
use Rattle.ecma_rules.specs.Children.{child_is, is_named, kind_of}

-- an enum or a namespace
abbrev pub is_part : Kind → Bool
is_part (kind.TsEnumDecl declare is_const) = true
is_part (kind.TsModuleDecl declare global) = true
is_part (kind.TsNamespaceDecl declare global) = true
is_part _ = false

-- its name is declared alone, and is used where enums are written
--   namespace N { enum arguments { A } }   // arguments || (arguments = {})
--   namespace arguments { export enum E { A } }   // E = arguments.E || (arguments.E = {})
abbrev pub names_arguments : Node → Bool
names_arguments n = is_part (kind_of n) && child_is (is_named (codes "arguments")) n 0

abbrev pub NoneNamesArguments : Node → Type 0
NoneNamesArguments tree = NoneFails (λ w n. names_arguments n) tree
