use Rattle.std.proofs.lemmas.Result.{on_ok_weaker, on_err_weaker}
use Rattle.account_context.specs.Context.{with_history}
use Rattle.account_context.proofs.OwnAccounts.{put_changed, put_unchanged, held_place}
use Rattle.account_context.proofs.own.set_history.Goals as goal

pub replace-requires : goal.replace-requires
replace-requires c = held_place c.args.accounts.now c.replace-account.new.self c.args.id c.blank.result c.replace-account.ensures.after

pub returns-clause-ok : goal.returns-clause-ok
returns-clause-ok c =
    on_ok_weaker c.set_in-set.result (λ is.
    put_changed c.args.accounts.now c.replace-account.new.self c.replace.new.self c.args.id c.blank.result c.replace-account.result c.set_in-set.new.account
    c.replace-account.ensures.value c.replace-account.ensures.after c.replace.ensures.after (with_history c.args.hash.now c.args.length c.args.history) is)
    c.set_in-set.ensures.ok

pub returns-clause-err : goal.returns-clause-err
returns-clause-err c =
    on_err_weaker c.set_in-set.result (λ is.
    put_unchanged c.args.accounts.now c.replace-account.new.self c.replace.new.self c.args.id c.blank.result c.replace-account.result c.set_in-set.new.account
    c.replace-account.ensures.value c.replace-account.ensures.after c.replace.ensures.after is)
    c.set_in-set.ensures.err
