use Rattle.pvm_disasm.proofs.Law.{listing-assembles}
use Rattle.pvm_disasm.proofs.laws.listing_law.Goals as goal

pub returns : goal.returns
returns c = listing-assembles c.size_law.ensures
