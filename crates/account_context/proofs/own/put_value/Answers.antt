use Rattle.std.proofs.Common.{◌∙◌}
use Rattle.std.specs.FinMap as fin
use Rattle.std.proofs.lemmas.Result.{on_ok_weaker, on_err_weaker}
use Rattle.account_context.specs.Context.{with_value}
use Rattle.account_context.proofs.OwnAccounts.{put_changed, put_unchanged, held_place}
use Rattle.account_context.proofs.own.put_value.Goals as goal

pub replace-requires : goal.replace-requires
replace-requires c = held_place c.args.accounts.now c.replace-account.new.self c.args.id c.blank.result c.replace-account.ensures.after

pub returns-clause-ok : goal.returns-clause-ok
returns-clause-ok c =
    on_ok_weaker c.put_value-put.result (λ is.
    put_changed c.args.accounts.now c.replace-account.new.self c.replace.new.self c.args.id c.blank.result c.replace-account.result c.put_value-put.new.self
    c.replace-account.ensures.value c.replace-account.ensures.after c.replace.ensures.after (with_value c.args.key.now c.args.value.now) (is ∙ (λ i. record c.replace-account.result { storage = fin.insert c.replace-account.result.storage (c.in_ok-key.ensures.items i) (c.in_ok-value.ensures.items i) })))
    c.put_value-put.ensures.ok

pub returns-clause-err : goal.returns-clause-err
returns-clause-err c =
    on_err_weaker c.put_value-put.result (λ is.
    put_unchanged c.args.accounts.now c.replace-account.new.self c.replace.new.self c.args.id c.blank.result c.replace-account.result c.put_value-put.new.self
    c.replace-account.ensures.value c.replace-account.ensures.after c.replace.ensures.after is)
    c.put_value-put.ensures.err
