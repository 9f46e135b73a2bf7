use Rattle.account_context.specs.Context.{without_preimage}
use Rattle.account_context.proofs.OwnAccounts.{put_changed, held_place}
use Rattle.account_context.proofs.own.drop_preimage.Goals as goal

pub replace-requires : goal.replace-requires
replace-requires c = held_place c.args.accounts.now c.replace-account.new.self c.args.id c.blank.result c.replace-account.ensures.after

pub returns : goal.returns
returns c =
    put_changed c.args.accounts.now c.replace-account.new.self c.replace.new.self c.args.id c.blank.result c.replace-account.result c.remove_preimage.new.self
    c.replace-account.ensures.value c.replace-account.ensures.after c.replace.ensures.after (without_preimage c.args.hash.now) c.remove_preimage.ensures.after
