use Rattle.pvm_invoke.proofs.Lists.{resumed, in_pieces, first_units, rest_of_list, after_some, after_all, pauses, ends_after_all, leaves, has_left}
use Rattle.pvm_invoke.proofs.Longer.{more_gas}
use Rattle.pvm_invoke.proofs.laws.turn_laws.Goals as goal

pub returns-clause-resumed : goal.returns-clause-resumed
returns-clause-resumed c n k effect s = resumed n k effect s

pub returns-clause-in_pieces : goal.returns-clause-in_pieces
returns-clause-in_pieces c n k effect s = in_pieces n k effect s

pub returns-clause-first : goal.returns-clause-first
returns-clause-first c n effect s us list = first_units n effect s us list

pub returns-clause-rest : goal.returns-clause-rest
returns-clause-rest c n effect s us list = rest_of_list n effect s us list

pub returns-clause-after : goal.returns-clause-after
returns-clause-after c n effect s us list within = after_some n effect s us list within

pub returns-clause-after_all : goal.returns-clause-after_all
returns-clause-after_all c n effect s us list past = after_all n effect s us list past

pub returns-clause-pauses : goal.returns-clause-pauses
returns-clause-pauses c n effect s = pauses n effect s

pub returns-clause-ends : goal.returns-clause-ends
returns-clause-ends c n effect s us list past = ends_after_all n effect s us list past

pub returns-clause-leaves : goal.returns-clause-leaves
returns-clause-leaves c n effect s lawful costs = leaves n effect s lawful costs

pub returns-clause-has_left : goal.returns-clause-has_left
returns-clause-has_left c effect s lawful costs = has_left effect s lawful costs

pub returns-clause-more_gas : goal.returns-clause-more_gas
returns-clause-more_gas c more n effect s made alike = more_gas more n effect s made alike
