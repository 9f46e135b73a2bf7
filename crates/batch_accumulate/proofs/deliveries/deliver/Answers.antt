use Rattle.std.proofs.Common.{ap, sym, subst, ◌∙◌, IsSome, refl}
use Rattle.std.specs.FinMap as fin
use Rattle.batch_accumulate.proofs.OneDelivery.{get-inserted, delivered_as, left_as}
use Rattle.batch_accumulate.proofs.deliveries.deliver.Goals as goal

pub replace-requires : goal.replace-requires
replace-requires c =
    subst IsSome (sym (ap (λ m. fin.get m c.args.delivery.now.service) c.replace-account.ensures.after ∙ get-inserted c.args.accounts.now c.args.delivery.now.service c.blank.result)) refl

pub returns-clause-made : goal.returns-clause-made
returns-clause-made c =
    delivered_as c.args.accounts.now c.args.delivery.now.service c.args.slot c.args.delivery.now.bytes c.as_slice.result.now c.blank.result c.replace-account.result c.receive-stored.new.self c.replace-account.new.self c.replace.new.self
    c.as_slice.ensures c.replace-account.ensures.value c.replace-account.ensures.after c.replace.ensures.after c.receive-stored.result c.receive-stored.ensures.stored c.receive-stored.ensures.after

pub returns-clause-err : goal.returns-clause-err
returns-clause-err c =
    left_as c.args.accounts.now c.args.delivery.now.service c.args.slot c.args.delivery.now.bytes c.as_slice.result.now c.blank.result c.replace-account.result c.receive-stored.new.self c.replace-account.new.self c.replace.new.self
    c.as_slice.ensures c.replace-account.ensures.value c.replace-account.ensures.after c.replace.ensures.after c.receive-stored.result c.receive-stored.ensures.err
