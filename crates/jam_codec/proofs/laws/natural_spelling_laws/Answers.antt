use Rattle.jam_codec.specs.NaturalLaws.{natural-zero, natural-short, natural-long}
use Rattle.jam_codec.proofs.laws.natural_spelling_laws.Goals as goal

pub returns-clause-zero : goal.returns-clause-zero
returns-clause-zero c = natural-zero

pub returns-clause-short : goal.returns-clause-short
returns-clause-short c = natural-short

pub returns-clause-long : goal.returns-clause-long
returns-clause-long c = natural-long
