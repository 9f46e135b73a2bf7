use Rattle.std.proofs.Common.{arith}
use Rattle.program_init.proofs.OuterFields.{parts_found, none_found, longest_found}
use Rattle.program_init.proofs.reading.split.Goals as goal

pub returns-clause-found : goal.returns-clause-found
returns-clause-found c = parts_found c.args.standard.now c.split_whole.result (λ k. omega (arith, c.type_inv.standard k)) c.split_whole.ensures

pub returns-clause-refused : goal.returns-clause-refused
returns-clause-refused c = none_found c.args.standard.now c.split_whole.result c.split_whole.ensures

pub returns-clause-place : goal.returns-clause-place
returns-clause-place c = longest_found c.args.standard.now c.split_whole.result (λ k. omega (arith, c.type_inv.standard k)) c.split_whole.ensures
