-- Nothing belongs to nothing in a module with its assignments lowered, where nothing did.
use Rattle.std.proofs.Common.{◌≡◌, ◌∙◌, ℕ, Bool, false, List, [], ◌∷◌, Option, None, refl, ap}
use Rattle.ecma_config.specs.declared.config.TsImportExportAssignConfig.{TsImportExportAssignConfig}
use Rattle.ecma_kind.specs.declared.kind.Kind.{Kind}
use Rattle.ecma_kind.specs.declared.kind.Kind.TheVariants as kind
use Rattle.ecma_kind.specs.declared.operators.AssignOp.TheVariants.{Assign}
use Rattle.ecma_kind.specs.declared.operators.VarDeclKind.TheVariants.{Const}
use Rattle.ecma_kind.specs.declared.span.Span.{Span}
use Rattle.ecma_tree.specs.Nodes.{dummy_span, node_of}
use Rattle.ecma_tree.specs.declared.node.Node.{Node}
use Rattle.ecma_rules.specs.Jumps.{Held, ends_jumps, first_stray, held_behind, held_in, is_stray_in, label_of, not_held, own_label}
use Rattle.ecma_rules.specs.Strays.{in_named, is_stray, nothing_held, strays_in}
use Rattle.ecma_strip_rewriting.proofs.Stays.{kind-roll}
use Rattle.ecma_lower_sources.proofs.Making.{Quiet, Seats, passes-written}
use Rattle.ecma_lower_sources.proofs.Modules.{Each, items-lowered, list_at, lowered_items, module_at}
use Rattle.ecma_lower_sources.proofs.Sorts.{items-sorted}
use Rattle.ecma_lower_sources.proofs.Walks.{Along, Passes, first, items-pass, module-passes}
use Rattle.ecma_lower_sources.proofs.Writes.{IsItem}

abbrev stray : Held → Kind → Node → Bool
stray held k n = is_stray_in held k (label_of n)

held-roll : (span : Span) (k : Kind) (cs : List Node) (i : ℕ)
    → held_in not_held (node_of span k cs) i ≡ held_behind (strays_in nothing_held k i) (ends_jumps k) (own_label k (label_of (node_of span k cs))) []
held-roll span k cs i = ap (λ z. held_behind (strays_in nothing_held z i) (ends_jumps z) (own_label z (label_of (node_of span k cs))) []) (kind-roll span k cs)

held-seats : Seats Held held_in not_held not_held not_held not_held not_held
unfolding strays_in in_named ends_jumps
held-seats = record {
  import_name = λ span e cs. held-roll span (kind.TsImportEqualsDecl e false) cs 0;
  import_value = λ span e cs. held-roll span (kind.TsImportEqualsDecl e false) cs 1;
  before_dot = λ span cs. held-roll span kind.TsQualifiedName cs 0;
  behind_dot = λ span cs. held-roll span kind.TsQualifiedName cs 1;
  required_text = λ span cs. held-roll span kind.TsExternalModuleRef cs 0;
  export_value = λ span cs. held-roll span kind.TsExportAssignment cs 0;
  declarators = λ span cs. held-roll span (kind.VarDecl Const false) cs 0;
  one_declarator = λ cs. held-roll dummy_span kind.List (node_of dummy_span (kind.VarDeclarator false) cs ∷ []) 0;
  one_text = λ arg h. held-roll dummy_span kind.List (arg ∷ []) 0;
  binding = λ span cs. held-roll span (kind.VarDeclarator false) cs 0;
  value = λ span cs. held-roll span (kind.VarDeclarator false) cs 1;
  name = λ span cs. held-roll span kind.BindingIdent cs 0;
  annotation = λ span cs. held-roll span kind.BindingIdent cs 1;
  declaration = λ span cs. held-roll span kind.ExportDecl cs 0;
  expression = λ span cs. held-roll span kind.ExprStmt cs 0;
  left = λ span cs. held-roll span (kind.AssignExpr Assign) cs 0;
  right = λ span cs. held-roll span (kind.AssignExpr Assign) cs 1;
  object = λ span cs. held-roll span kind.MemberExpr cs 0;
  member_key = λ span cs. held-roll span kind.MemberExpr cs 1;
  target_object = λ span cs. held-roll span kind.MemberExpr cs 0;
  target_key = λ span cs. held-roll span kind.MemberExpr cs 1;
  called = λ span cs. held-roll span kind.CallExpr cs 0;
  arguments = λ span cs. held-roll span kind.CallExpr cs 1;
  type_arguments = λ span cs. held-roll span kind.CallExpr cs 2;
}

held-quiet : (free : ℕ) → Quiet Held stray free not_held not_held not_held not_held not_held
unfolding is_stray_in is_stray
held-quiet free = record {
  list = λ n. refl;
  missing = λ n. refl;
  declaration = λ n h. refl;
  variable = λ n. refl;
  binding = λ n. refl;
  exported = λ n. refl;
  statement = λ n. refl;
  assignment = λ n. refl;
  member = λ n. refl;
  assigned = λ n h. refl;
  call = λ n. refl;
  require = λ n. refl;
  exports = λ n. refl;
  module' = λ n. refl;
  exports_key = λ n. refl;
  key_of_name = λ text ctxt optional n m h. refl;
  own_key = λ text n h. refl;
}

in-module : (span : Span) (shebang : Option (List ℕ)) (cs : List Node) → held_in not_held (node_of span (kind.Module shebang) cs) 0 ≡ not_held
unfolding strays_in in_named ends_jumps
in-module span shebang cs = held-roll span (kind.Module shebang) cs 0

in-list : (at : Span) (ns : List Node) (i : ℕ) → held_in not_held (list_at at ns) i ≡ not_held
unfolding strays_in in_named ends_jumps
in-list at ns i = held-roll at kind.List ns i

module-quiet : (shebang : Option (List ℕ)) (n : Node) → stray not_held (kind.Module shebang) n ≡ false
unfolding is_stray_in is_stray
module-quiet shebang n = refl

along : Along Held stray held_in (λ n. not_held) not_held
unfolding is_stray_in is_stray
along = record {
  list = λ span shebang at ns. ap (λ w. stray w kind.List (list_at at ns)) (in-module span shebang (list_at at ns ∷ []));
  items = λ span shebang at ns i n get h.
      (λ j. first Held stray held_in n (held_in (in-module span shebang (list_at at ns ∷ []) j) (list_at at ns) i)) ∙ ap (first Held stray held_in n) (in-list at ns i);
}

pub no-stray : (assign : TsImportExportAssignConfig) (free : ℕ) (span : Span) (shebang : Option (List ℕ)) (at : Span) (ns : List Node) → Each IsItem ns
    → first_stray (module_at span shebang at ns) ≡ None → first_stray (module_at span shebang at (lowered_items assign free ns)) ≡ None
no-stray assign free span shebang at ns items h =
    let P = λ (n : Node). Passes Held stray held_in not_held n in
    let parts = items-pass Held stray held_in (λ n. not_held) not_held along span shebang at ns items h in
    let ms = lowered_items assign free ns in
    module-passes Held stray held_in (λ n. not_held) not_held along span shebang at ms (items-sorted assign free ns items) (module-quiet shebang (module_at span shebang at ms))
    (items-lowered assign free P P P P (passes-written Held stray held_in not_held not_held not_held not_held not_held held-seats free (held-quiet free) assign) ns items parts.1)
