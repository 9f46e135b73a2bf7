use Rattle.jam_codec.specs.ListLaws.{blob_laws, hash_and_number_laws, option_tag_laws}
use Rattle.jam_codec.proofs.laws.joined_laws.Goals as goal

pub returns-clause-blob : goal.returns-clause-blob
returns-clause-blob c = blob_laws

pub returns-clause-hash_and_number : goal.returns-clause-hash_and_number
returns-clause-hash_and_number c = hash_and_number_laws

pub returns-clause-tag : goal.returns-clause-tag
returns-clause-tag c = option_tag_laws
