-- A raw module that has the sorts of the grammar, and its finished tree.
use Rattle.std.proofs.Common.{◌≡◌, true, false, ◌||◌, List, [], ◌∷◌, length, None, refl, subst, inl}
use Rattle.ecma_kind.specs.declared.kind.Kind.{Kind}
use Rattle.ecma_kind.specs.declared.kind.Kind.TheVariants as kind
use Rattle.ecma_kind.specs.declared.shapes.Count.TheVariants.{Holes}
use Rattle.ecma_kind.specs.declared.shapes.Sort.TheVariants as sort
use Rattle.ecma_tree.specs.declared.node.Node.{Node, Node-F, roll-Node}
use Rattle.ecma_tree.specs.declared.node.Node.TheViews.{out-roll-Node}
use Rattle.ecma_tree.specs.Sorted.{is_absent}
use Rattle.ecma_tree.specs.Sorted as trees
use Rattle.ecma_rules.specs.Children.{kind_of}
use Rattle.ecma_rules.specs.Finishing.{finished}
use Rattle.ecma_rules.specs.Rules.{first_broken, first_misplaced}
use Rattle.ecma_rules.specs.Jumps.{first_stray, not_held}
use Rattle.ecma_rules.specs.Surroundings.{at_root}
use Rattle.ecma_rules.specs.Targets.{is_spread}
use Rattle.ecma_grammar_laws.specs.RawSorts.{HasRawShape, HasRawSort, RawShape, belongs_or_super, child_shapes_raw, many, one, shape_of, sorted}
use Rattle.ecma_grammar_laws.proofs.RawShapes.{HaveRaw, parts_of}
use Rattle.ecma_fits.specs.declared.role.Role.TheVariants as role
use Rattle.ecma_fits.specs.Fitting.{at_top, NoneFails}
use Rattle.ecma_fits.specs.Roles.{is_name, is_out_of_role}
use Rattle.ecma_fits.specs.Strays.{is_stray_target}
use Rattle.ecma_raw_roles.specs.RawRoles.{HasRawRole}
use Rattle.ecma_text_fits_finished.proofs.RoleKinds.{calm}
use Rattle.ecma_text_fits_finished.proofs.RoleWalks.{AreSound, Each}
use Rattle.ecma_text_fits_finished.proofs.Roles.{in_roles}
use Rattle.ecma_raw_roles.proofs.Walks.{not_true}
use Rattle.ecma_fits.proofs.Walks.{neither_least}

-- it has a shape of the grammar
abbrev Sound : Node → Type 0
Sound n = (s : RawShape) × HasRawShape s n

all_sound : (ss : List RawShape) (ns : List Node) → HaveRaw ss ns → Each Sound ns
all_sound [] [] h = tt
all_sound [] (n ∷ ns) h = absurd h
all_sound (s ∷ ss) [] h = absurd h
all_sound (s ∷ ss) (n ∷ ns) h = ((s, h.0), all_sound ss ns h.1)

no_spread : (k : Kind) → belongs_or_super sort.Expr k ≡ true → (is_spread k || is_absent k) ≡ false
no_spread kind.SpreadElement h = not_true h
no_spread kind.Absent h = not_true h
no_spread _ h = refl

name : (k : Kind) → belongs_or_super sort.Ident k ≡ true → is_name k ≡ true
name (kind.Ident text ctxt optional) h = refl
name _ h = not_true h

are_sound : (k : Kind) (s : RawShape) (ns : List Node) → HaveRaw (child_shapes_raw k s (length ns)) ns → AreSound k ns
are_sound kind.ArrayLit s [] h = tt
are_sound kind.ArrayLit s (n ∷ ns) h = (parts_of n (shape_of Holes (sorted sort.ExprOrSpread)) h.0).0
are_sound kind.ObjectLit s [] h = tt
are_sound kind.ObjectLit s (n ∷ ns) h = (parts_of n (many (sorted sort.PropOrSpread)) h.0).0
are_sound kind.KeyValueProp s [] h = tt
are_sound kind.KeyValueProp s (n ∷ []) h = tt
are_sound kind.KeyValueProp s (n ∷ v ∷ ns) h = no_spread (kind_of v) (parts_of v (one (sorted sort.Expr)) h.1.0).0
are_sound kind.AssignProp s [] h = tt
are_sound kind.AssignProp s (n ∷ ns) h = name (kind_of n) (parts_of n (one (sorted sort.Ident)) h.0).0
are_sound _ s ns h = tt

sound : (x : Node-F Node) → Sound (roll-Node x) → Each Sound x.children × AreSound x.kind x.children
sound x e =
    let h : HaveRaw (child_shapes_raw x.kind e.0 (length x.children)) x.children = subst (λ (p : Node-F Node). HaveRaw (child_shapes_raw p.kind e.0 (length p.children)) p.children) (out-roll-Node x) (parts_of (roll-Node x) e.0 e.1).1 in
    (all_sound (child_shapes_raw x.kind e.0 (length x.children)) x.children h, are_sound x.kind e.0 x.children h)

pub roles_finished : (raw : Node) → HasRawSort sort.Module raw → first_broken raw ≡ None → trees.HasSort sort.Module (finished raw) → HasRawRole role.Free raw → NoneFails (λ w node. is_out_of_role w.role node || is_stray_target w.role w.arguments node) (finished raw)
roles_finished raw raw_sorted kept sort_of placed =
    let w = neither_least (first_misplaced raw at_root) (first_stray raw) kept in
    in_roles Sound sound raw at_root role.Free not_held at_top (trees.one sort.Module) (inl (refl, refl)) (record { agrees = (refl, refl); proper = calm role.Free (trees.one sort.Module) refl }) sort_of (one (sorted sort.Module), raw_sorted) w.0 placed w.1
