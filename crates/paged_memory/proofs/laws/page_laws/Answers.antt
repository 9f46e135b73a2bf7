use Rattle.paged_memory.proofs.PageLaws.{set_rights_law, set_bytes_law, lift_rights_law, lift_bytes_law}
use Rattle.paged_memory.proofs.laws.page_laws.Goals as goal

pub returns-clause-set_rights : goal.returns-clause-set_rights
returns-clause-set_rights c = set_rights_law

pub returns-clause-set_bytes : goal.returns-clause-set_bytes
returns-clause-set_bytes c = set_bytes_law

pub returns-clause-lifted_rights : goal.returns-clause-lifted_rights
returns-clause-lifted_rights c = lift_rights_law

pub returns-clause-lifted_bytes : goal.returns-clause-lifted_bytes
returns-clause-lifted_bytes c = lift_bytes_law
