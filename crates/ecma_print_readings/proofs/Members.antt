-- Members by a name are read as they are laid out.
use Rattle.std.proofs.Common.{◌≡◌, ℕ, Bool, false, List, [], ◌∷◌, ◌++◌, length, codes, refl, ap, sym, append_assoc, ◌+◌, subst, arith, true}
use Rattle.ecma_lex.specs.Text.{piece}
use Rattle.ecma_lex.specs.Keys.{priv_name_end}
use Rattle.ecma_kind.specs.declared.kind.Kind.{Kind}
use Rattle.ecma_kind.specs.declared.kind.Kind.TheVariants as kind
use Rattle.ecma_tree.specs.declared.node.Node.{Node}
use Rattle.ecma_tree.specs.Nodes.{absent}
use Rattle.ecma_grammar.specs.declared.production.Part.TheVariants as part
use Rattle.ecma_grammar.specs.declared.production.Link.TheVariants as link
use Rattle.ecma_grammar.specs.productions.Names as names
use Rattle.ecma_grammar.specs.productions.Functions.{arrow_rest}
use Rattle.ecma_grammar.specs.productions.Chains as chains
use Rattle.ecma_grammar.specs.productions.Chains.{links, new_links, chain_key, arguments, index}
use Rattle.ecma_print_tokens.specs.Items as items
use Rattle.ecma_print_tokens.specs.Items.{Tok, sign, no_gap, Items, it}
use Rattle.ecma_print_tokens.specs.Good.{IsToken}
use Rattle.ecma_print_tokens.proofs.Privates.{private_parts}
use Rattle.ecma_print_readings.proofs.Machine.{read}
use Rattle.ecma_shapes.specs.Shapes as shapes
use Rattle.ecma_shapes.specs.Shapes.{IsChainKey}
use Rattle.ecma_shapes.proofs.Tokens.{chain_token, chain_kind}
use Rattle.ecma_shapes.proofs.Bare.{bare}
use Rattle.ecma_print_readings.proofs.Levels.{means_is}
use Rattle.ecma_print_readings.proofs.Fronts.{exactly, at_token, refuses_at}
use Rattle.ecma_print_readings.proofs.Heads.{member_made, is_head}
use Rattle.ecma_print_readings.proofs.Forms.{Laid, s, Reads, Form, NewForm, link_form}
use Rattle.std.specs.Str.{IsUtf8}
use Rattle.ecma_lex.proofs.Suffixes.{cut_utf8, past, piece_here}
use Rattle.ecma_lex.proofs.Spelled.{alone}

-- a token of which the grammar makes the key of a member
pub record IsLinkKey (t : Tok) (k : Kind) : Type 0 where
  pub no_arguments : refuses_at (exactly t) arguments ≡ true
  pub no_index : refuses_at (exactly t) index ≡ true
  pub taken : (assigned : Bool) (us : Items) → Reads assigned chain_key (it no_gap t us) (bare k [] ∷ []) us

tail_of : List ℕ → List ℕ
tail_of [] = []
tail_of (x ∷ xs) = xs

-- behind `#` the name stands
pub name_behind : (name : List ℕ) → IsToken priv_name_end (codes "#" ++ name) → piece (codes "#" ++ name) 1 (length (codes "#" ++ name)) ≡ name
unfolding tail_of
name_behind name t =
    let w = codes "#" ++ name in
    let p = private_parts w t.utf8 t.whole in
    let key = p.key in
    let u : IsUtf8 name = subst IsUtf8 (ap tail_of (sym p.is)) key.0 in
    let size : 1 + length name ≡ length w = omega arith in
    subst (λ n. piece w 1 n ≡ name) size (piece_here w 1 name [] (past w (codes "#") (alone w)) (cut_utf8 name [] u refl) refl)

pub link_key : {n : Node} (k : IsChainKey n) → IsLinkKey (chain_token k) (chain_kind k)
unfolding chain_key arguments index
link_key (shapes.plain_key k) = record { no_arguments = refl; no_index = refl; taken = λ assigned us. refl }
link_key (shapes.private_key at name t) = record { no_arguments = refl; no_index = refl; taken = λ assigned us. ap (λ w. read (bare (kind.PrivateName w) [] ∷ []) us) (name_behind name t) }

pub word_key : (w : List ℕ) → IsLinkKey (items.key w) (kind.IdentName w)
unfolding chain_key arguments index
word_key w = record { no_arguments = refl; no_index = refl; taken = λ assigned us. refl }

pub point_apart : refuses_at (exactly (sign (codes "."))) (arrow_rest false false) ≡ true
unfolding arrow_rest names.binding_ident
point_apart = refl

module _ (assigned : Bool) where
  pub dot_read : {t : Tok} {q : Kind} (K : IsLinkKey t q) (us : Items) (ys : List Node) (vs : Items) → Reads assigned links us ys vs → Reads assigned links (s (codes ".") (it no_gap t us)) (bare kind.MemberExpr (absent ∷ bare q [] ∷ []) ∷ ys) vs
  unfolding links chains.dot_body
  dot_read {t} K us ys vs h = rw (means_is assigned (part.Link link.Dot) (it no_gap t us), K.taken assigned us, h) refl

  abbrev pub member_form : {f : Laid} {k : Kind} {ns : List Node} → is_head k ≡ true → Form assigned f k ns → {t : Tok} {q : Kind} (K : IsLinkKey t q) → Form assigned (λ g us. f g (s (codes ".") (it no_gap t us))) kind.MemberExpr (bare k ns ∷ bare q [] ∷ [])
  member_form {k = k} {ns = ns} head F {t} {q} K = link_form assigned F (sign (codes ".")) refl point_apart refl (λ us. it no_gap t us) (bare kind.MemberExpr (absent ∷ bare q [] ∷ [])) (member_made k head ns (bare q [])) (dot_read K)

  pub new_dot_read : {t : Tok} {q : Kind} (K : IsLinkKey t q) (us : Items) (ys : List Node) (vs : Items) → Reads assigned new_links us ys vs → Reads assigned new_links (s (codes ".") (it no_gap t us)) (bare kind.MemberExpr (absent ∷ bare q [] ∷ []) ∷ ys) vs
  unfolding new_links chains.new_dot_body
  new_dot_read {t} K us ys vs h = rw (means_is assigned (part.NewLink link.Dot) (it no_gap t us), K.taken assigned us, h) refl

  pub new_member_form : {f : Laid} {k : Kind} {ns : List Node} → is_head k ≡ true → NewForm assigned f k ns → {t : Tok} {q : Kind} (K : IsLinkKey t q) → NewForm assigned (λ g us. f g (s (codes ".") (it no_gap t us))) kind.MemberExpr (bare k ns ∷ bare q [] ∷ [])
  new_member_form head N {t} {q} K =
      let F = N.form in
      let m = bare kind.MemberExpr (absent ∷ bare q [] ∷ []) in
      record {
        form = member_form head F K;
        no_point = N.no_point;
        own = λ g us e b z ys vs h. rw (append_assoc F.pieces (m ∷ []) ys) (N.own g (s (codes ".") (it no_gap t us)) (exactly (sign (codes "."))) at_token refl (m ∷ ys) vs (new_dot_read K us ys vs h));
      }
