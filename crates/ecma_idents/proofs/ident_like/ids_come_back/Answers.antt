use Rattle.std.proofs.Common.{refl}
use Rattle.ecma_idents.proofs.Naming.{binding_id}
use Rattle.ecma_idents.proofs.ident_like.ids_come_back.Goals as goal

pub returns : goal.returns
returns c = record { ident = λ i. refl; declared_name = binding_id; text = λ i. refl }
