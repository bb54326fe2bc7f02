-- Where the names of exports stand, and where identifiers do that stay in the output.
use Rattle.std.specs.Prelude.{ℕ, Bool, true, false, not, ◌&&◌, ◌==◌, List, [], ◌∷◌, Option, Some, None, cond}
use Rattle.ecma_kind.specs.declared.kind.Kind.{Kind}
use Rattle.ecma_kind.specs.declared.kind.Kind.TheVariants as kind
use Rattle.ecma_tree.specs.Sorted.{is_list}
use Rattle.ecma_tree.specs.declared.node.Node.{Node, out-Node}
use Rattle.ecma_rules.specs.Children.{child_holds, has_child, kind_of}
use Rattle.ecma_strip.specs.Staying.{stays}
use Rattle.ecma_walks.specs.Listing.{listed}
use Rattle.ecma_exports.specs.declared.place.Place.{Place}
use Rattle.ecma_exports.specs.declared.place.Place.TheVariants as place

abbrev pub look_at : ℕ → ℕ → Place → Option Place
look_at wanted i p = cond (i == wanted) (Some p) None

-- the declarations behind `export`, but for `export default`
unfoldable pub in_declarations : Kind → Option Place
in_declarations (kind.Module shebang) = Some place.Declarations
in_declarations kind.List = Some place.Declarations
in_declarations kind.ExportDecl = Some place.Exported
in_declarations _ = None

-- where such a declaration has its names
--   export let a = 1, [b] = c; export function d() { }   // a, b and d
unfoldable pub in_exported : Kind → ℕ → Option Place
in_exported (kind.VarDecl k declare) i = Some place.Names
in_exported (kind.FnDecl declare) i = look_at 0 i place.Names
in_exported (kind.ClassDecl declare) i = look_at 0 i place.Names
in_exported (kind.TsEnumDecl declare is_const) i = look_at 0 i place.Names
in_exported (kind.TsModuleDecl declare false) i = look_at 0 i place.Names
in_exported _ i = None

-- and a pattern in it
unfoldable pub in_names : Kind → ℕ → Option Place
in_names kind.List i = Some place.Names
in_names kind.BindingIdent i = look_at 0 i place.Names
in_names (kind.VarDeclarator definite) i = look_at 0 i place.Names
in_names (kind.ArrayPat optional) i = look_at 0 i place.Names
in_names (kind.ObjectPat optional) i = look_at 0 i place.Names
in_names kind.RestPat i = look_at 0 i place.Names
in_names kind.AssignPat i = look_at 0 i place.Names
in_names kind.AssignPatProp i = look_at 0 i place.Names
in_names kind.KeyValuePatProp i = look_at 1 i place.Names
in_names _ i = None

-- the specifiers of an export without a source, where it is not written `type`
unfoldable pub in_lists : Kind → Bool → ℕ → Option Place
in_lists (kind.Module shebang) sourced i = Some place.Lists
in_lists kind.List sourced i = Some place.Lists
in_lists (kind.NamedExport false) sourced i = cond sourced None (look_at 0 i place.Specifiers)
in_lists _ sourced i = None

-- the local name of such a specifier
--   export { a as b };   // a
unfoldable pub in_specifiers : Kind → ℕ → Option Place
in_specifiers kind.List i = Some place.Specifiers
in_specifiers (kind.ExportNamedSpecifier false) i = look_at 0 i place.Local
in_specifiers _ i = None

abbrev pub into : Place → Kind → Bool → ℕ → Option Place
into place.Declarations k sourced i = in_declarations k
into place.Exported k sourced i = in_exported k i
into place.Names k sourced i = in_names k i
into place.Lists k sourced i = in_lists k sourced i
into place.Specifiers k sourced i = in_specifiers k i
into place.Local k sourced i = None
into place.Anywhere k sourced i = Some place.Anywhere

-- what goes from a list when the types go is not entered
abbrev pub goes_at : Node → ℕ → Bool
goes_at node i = is_list (kind_of node) && child_holds (λ item. not (stays item)) node i

abbrev pub place_in : Place → Node → ℕ → Option Place
place_in p node i = cond (goes_at node i) None (into p (kind_of node) (has_child node 1) i)

-- ---- what is listed

abbrev pub text_of : Kind → List (List ℕ)
text_of (kind.Ident sym ctxt optional) = sym ∷ []
text_of _ = []

-- of an identifier that no scope declares, in the context of free names
abbrev pub free_text : ℕ → Kind → List (List ℕ)
free_text free (kind.Ident sym ctxt optional) = cond (ctxt == free) (sym ∷ []) []
free_text free _ = []

abbrev pub texts_by : Place → ℕ → Kind → List (List ℕ)
texts_by place.Names free k = text_of k
texts_by place.Local free k = free_text free k
texts_by place.Anywhere free k = free_text free k
texts_by _ free k = []

abbrev pub texts_here : ℕ → Place → Node → List (List ℕ)
texts_here free p node = texts_by p free (kind_of node)

abbrev pub texts_in : ℕ → Node → Place → List (List ℕ)
texts_in free = listed Place (List ℕ) place_in (texts_here free)
