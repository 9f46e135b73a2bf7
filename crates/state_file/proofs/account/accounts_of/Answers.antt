use Rattle.std.proofs.Common.{ap, ◌∙◌, arith}
use Rattle.std.specs.FinMap as fin
use Rattle.std.specs.Cmp.{nat_cmp_total}
use Rattle.jam_accounts.specs.Accounts.{Account}
use Rattle.state_file.proofs.Maps.{none_put, one_put, all_put}
use Rattle.state_file.proofs.Versions.{none_of_version, one_of_version}
use Rattle.state_file.proofs.account.accounts_of.Goals as goal

pub loop-id-init : goal.loop-id-init
loop-id-init g c = record {
  made = none_put nat_cmp_total c.new-accounts.result c.into_iter-id-iterator.result.rest.items c.args.entries.items c.new-accounts.ensures c.into_iter-id-iterator.ensures.into_iter_gives.0;
  version = none_of_version g.row.VERSION c.new-accounts.result c.new-accounts.ensures;
}

pub loop-id-preserved : goal.loop-id-preserved
loop-id-preserved g c = record {
  made = one_put nat_cmp_total c.loop-id.accounts c.put.new.self c.loop-id.id-iterator.rest.items c.next.new.self.rest.items c.args.entries.items c.in-Some.id c.in-Some.entry c.requires c.loop-id.invariant.made c.in-Some.ensures.steps.0
      (c.in_ok-put.ensures.ok ∙ ap (λ (account : Account). fin.insert c.loop-id.accounts c.in-Some.id account) c.into_account.ensures.same);
  version = one_of_version g.row.VERSION c.loop-id.accounts c.put.new.self c.in-Some.id c.into_account.result c.loop-id.invariant.version c.into_account.ensures.version c.in_ok-put.ensures.ok;
}

pub returns-clause-made : goal.returns-clause-made
returns-clause-made g c = all_put nat_cmp_total c.loop-id.accounts c.loop-id.id-iterator.rest.items c.args.entries.items c.requires c.loop-id.invariant.made (omega (arith, c.in-None.ensures.steps.0, c.loop-id.id-iterator.rest.ok))
