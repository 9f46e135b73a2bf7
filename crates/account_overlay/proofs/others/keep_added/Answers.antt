use Rattle.std.proofs.Common.{sym, ◌∙◌}
use Rattle.std.specs.FinMap as fin
use Rattle.account_overlay.proofs.Listed.{without_each, without_each-none, without_each-more, without_each-all}
use Rattle.account_overlay.proofs.others.keep_added.Goals as goal

pub loop-id-preserved-in-Some : goal.loop-id-preserved-in-Some
loop-id-preserved-in-Some c =
    without_each-more c.loop-id.id-iterator c.next.new.self c.in-Some.id c.in-Some._account.now c.loop-id.accounts c.remove.new.self (without_each (fin.entries c.args.base.now) c.args.accounts.now)
    c.in-Some.ensures.steps c.remove.ensures.after c.loop-id.invariant

pub loop-id-preserved : goal.loop-id-preserved
loop-id-preserved c =
    without_each-more c.loop-id.id-iterator c.next.new.self c.in-Some.id c.in-Some._account.now c.loop-id.accounts c.remove.new.self (without_each (fin.entries c.args.base.now) c.args.accounts.now)
    c.in-Some.ensures.steps c.remove.ensures.after c.loop-id.invariant

pub returns : goal.returns
returns c = sym (without_each-none c.loop-id.id-iterator c.loop-id.accounts c.in-None.ensures.steps.0) ∙ c.loop-id.invariant ∙ without_each-all c.args.base.now c.args.accounts.now
