use Rattle.paged_memory.proofs.ReadBack.{there_law, other_law, rights_law, read_back_law}
use Rattle.paged_memory.proofs.PageLaws.{put_bytes_law}
use Rattle.paged_memory.proofs.laws.write_laws.Goals as goal

pub returns-clause-there : goal.returns-clause-there
returns-clause-there c = there_law

pub returns-clause-others : goal.returns-clause-others
returns-clause-others c = other_law

pub returns-clause-rights : goal.returns-clause-rights
returns-clause-rights c m from bytes page = rights_law bytes m from page

pub returns-clause-reads_back : goal.returns-clause-reads_back
returns-clause-reads_back c = read_back_law

pub returns-clause-bytes : goal.returns-clause-bytes
returns-clause-bytes c = put_bytes_law
