use Rattle.byte_numbers.specs.SignLaws.{extended-fits, extended-positive, extended-negative}
use Rattle.byte_numbers.proofs.laws.sign_laws.Goals as goal

pub returns-clause-fits : goal.returns-clause-fits
returns-clause-fits c = extended-fits

pub returns-clause-positive : goal.returns-clause-positive
returns-clause-positive c = extended-positive

pub returns-clause-negative : goal.returns-clause-negative
returns-clause-negative c = extended-negative
