use Rattle.ecma_hygiene_interface.proofs.Final.{final_texts_keep}
use Rattle.ecma_hygiene_interface.proofs.final_texts_keep_interfaces.Goals as goal

pub returns : goal.returns
returns c = final_texts_keep
