-- Trees with their bindings that are ready: what stripping types, giving final texts and printing ask of a tree. A resolved source is ready, and what a pass
-- that lowers writes has to be.
use Rattle.std.specs.Prelude.{◌≡◌, ◌≢◌, ℕ, Bool, true, false, List, [], map}
use Rattle.std.specs.List.{All}
use Rattle.ecma_kind.specs.declared.kind.Kind.{Kind}
use Rattle.ecma_kind.specs.declared.kind.Kind.TheVariants as kind
use Rattle.ecma_tree.specs.declared.node.Node.{Node, out-Node}
use Rattle.ecma_text_leaves.specs.Everywhere.{Everywhere}
use Rattle.ecma_fits.specs.Fitting.{Fits}
use Rattle.ecma_scope.specs.declared.role.Role.TheVariants as role
use Rattle.ecma_scope.specs.Conflicts.{redeclared}
use Rattle.ecma_scope.specs.Declarations.{is_hoisted}
use Rattle.ecma_scope.specs.Resolved.{is_name}
use Rattle.ecma_scope.specs.Scopes.{opens}
use Rattle.ecma_strip_fits.specs.Targets.{HasPlainTargets}
use Rattle.ecma_hygiene.specs.Capture.{NoneDeclares}
use Rattle.ecma_hygiene.specs.Ids.{has_context, innermost, is_block, is_body_block}
use Rattle.ecma_hygiene.specs.Renamed.{kind_is_absent}
use Rattle.ecma_hygiene.specs.Sights.{Around, sights}
use Rattle.ecma_hygiene.specs.Texts.{is_new}
use Rattle.ecma_hygiene_fits.specs.Spelled.{NoneLong}
use Rattle.ecma_hygiene_scopes.specs.Apart.{AreApart, own_contexts}
use Rattle.ecma_hygiene_scopes.specs.DeclaredIds.{DeclaredId, scope_ids}
use Rattle.ecma_hygiene_scopes.specs.Once.{DeclaresTextsOnce}
use Rattle.ecma_hygiene_scopes.specs.Stops.{Stop, stops}
use Rattle.ecma_plain.specs.Plain.{HasUtf8Texts}
use Rattle.ecma_plain.specs.Writable.{IsWritable}
use Rattle.ecma_sources.specs.TypesAlone.{adds_types_alone}
use Rattle.ecma_ready.specs.Leaving.{leaves_plain_forms}

-- the contexts in which the scope of a node declares ids, if it opens one
abbrev pub contexts_there : Node → Around → List ℕ
contexts_there node around = own_contexts (record { node = node; around = around; left = 0 })

-- the ids say which scope declares each name, of a node with what stands around it, where free names have this context
pub record SaysItsScopes (free : ℕ) (node : Node) (around : Around) : Type 0 where
  -- what is not there has no children
  pub absent : kind_is_absent node ≡ true → (out-Node node).children ≡ []
  -- a label, and a name that others have, has the empty context
  pub names : (sym : List ℕ) (ctxt : ℕ) (optional : Bool) → (out-Node node).kind ≡ kind.Ident sym ctxt optional → is_name around.role ≡ true → ctxt ≡ 0
  -- any other name that no scope around declares has the context of free names
  pub free_names : (sym : List ℕ) (ctxt : ℕ) (optional : Bool) → (out-Node node).kind ≡ kind.Ident sym ctxt optional → is_name around.role ≡ false
      → NoneDeclares around.scopes (sym, ctxt) → ctxt ≡ free
  -- where the body of a function declares a `var` or a function, it is a block
  pub blocks : opens around.role node ≡ true → around.role ≡ role.Body → All (λ (d : DeclaredId). is_hoisted d.form ≡ true → is_block (out-Node node).kind ≡ true) (scope_ids around.role node)
  -- what the parameters of a function declare, its body declares again as a `var` or a function alone
  pub parameters : opens around.role node ≡ true → is_body_block around.role (out-Node node).kind ≡ true
      → All (λ (d : DeclaredId). has_context d.id.1 (innermost around.scopes d.id.0) ≡ true → is_hoisted d.form ≡ true) (scope_ids around.role node)
  -- no scope declares an id in the context of free names
  pub not_free : has_context free (contexts_there node around) ≡ false
  -- nor in the empty one
  pub not_empty : has_context 0 (contexts_there node around) ≡ false

-- the texts that are written as they are, are UTF-8; and a literal has its source text, or one can be written for it
abbrev pub HasTexts : Kind → Type 0
HasTexts k = HasUtf8Texts k × IsWritable k

-- a tree with its bindings that is ready, in which free names have this context: with `assignments` an `export =` may stay in what is written
pub record IsReady (assignments : Bool) (free : ℕ) (tree : Node) : Type 0 where
  -- the grammar gives such trees, and it breaks no context rule
  pub fits : Fits tree
  -- no name is bound with a type round it: so it fits without its types too
  pub targets : HasPlainTargets tree
  -- all in it that is TypeScript, and stays when types go, is types, but for parameter properties and `export =`
  pub types : adds_types_alone tree ≡ true
  -- and no form is left then that no plain module has, but for an `export =` where it may stay
  pub forms : leaves_plain_forms assignments tree ≡ true
  -- its ids say which scopes declare its names, however contexts are counted
  pub scopes : All (λ (stop : Stop). SaysItsScopes free stop.node stop.around) (stops 0 tree)
  -- free names have a context that is not the empty one
  pub free_inner : free ≢ 0
  -- no name is declared again where it may not be, by the texts
  pub distinct : redeclared tree ≡ []
  -- no identifier is so long that it is not read with a number behind it
  pub short : NoneLong tree
  -- its texts can be written, and its literals too
  pub texts : Everywhere HasTexts tree

-- beside that a resolved source has each scope's ids in a context of their own, so that contexts alone can be mapped to those that the written module gets; what
-- is written in the place of an enum does not, since the parameter of its function shares its id with a variable, nor a scope with a name that was made
pub record HasOwnContexts (tree : Node) : Type 0 where
  -- a scope declares its ids in one context
  pub one : All (λ (stop : Stop). (c d : ℕ) → has_context c (contexts_there stop.node stop.around) ≡ true → has_context d (contexts_there stop.node stop.around) ≡ true → c ≡ d) (stops 0 tree)
  -- and no two scopes declare in the same
  pub apart : AreApart (map own_contexts (stops 0 tree))

-- of the ids that a scope declares with one text, and that were not made, there is one: so final texts tell them apart
pub record DeclaresItsTextsOnce (tree : Node) : Type 0 where
  pub once : All (λ (stop : Stop). DeclaresTextsOnce (is_new (sights tree)) stop.node stop.around) (stops 0 tree)
