use Rattle.std.proofs.Common.{ap}
use Rattle.jam_accounts.specs.Accounts.{Account}
use Rattle.account_context.proofs.OwnAccounts.{put_changed, held_place}
use Rattle.account_context.proofs.own.set_balance.Goals as goal

pub replace-requires : goal.replace-requires
replace-requires c = held_place c.args.accounts.now c.replace-account.new.self c.args.id c.blank.result c.replace-account.ensures.after

pub returns : goal.returns
returns c =
    put_changed c.args.accounts.now c.replace-account.new.self c.replace.new.self c.args.id c.blank.result c.replace-account.result _
    c.replace-account.ensures.value c.replace-account.ensures.after c.replace.ensures.after (λ account. record account { balance = c.args.balance }) (ap (λ (a : Account). record a { balance = c.args.balance }) c.account.view_is)
