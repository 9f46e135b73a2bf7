-- What a batch makes of a state (Gray Paper 0.7.0, chapter 12; the rule is this project's own): a function of values alone.
-- A batch has no reports for now, so that no service is run and no transfer is made: its deliveries come to the prior accounts.
use Rattle.std.specs.Prelude.{length}
use Rattle.jam_accounts.specs.Accounts.{State}
use Rattle.batch_file.specs.declared.batch.Batch.{Batch}
use Rattle.batch_accumulate.specs.declared.posterior.Posterior.{Posterior}
use Rattle.batch_accumulate.specs.Deliveries.{Delivered, none_stored, after_deliveries}

-- the prior state with version 2, with the batch's slot and entropy, and with the deliveries in their order; no report is taken up
abbrev pub posterior_of : State → Batch → Posterior
posterior_of prior batch =
    let delivered : Delivered = after_deliveries batch.slot (none_stored prior.accounts) batch.preimages in
    record {
      state = record prior { version = 2; slot = batch.slot; entropy = batch.entropy; accounts = delivered.accounts };
      left_out = length batch.reports;
      preimages = delivered.stored;
    }
