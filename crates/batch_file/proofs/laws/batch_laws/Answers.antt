use Rattle.std.proofs.Common.{ℕ, ◌<◌, List, [], ◌++◌, ap, refl, sym, ◌∙◌, inl, inr, Option, Some, None, IsSome, length, append-nil}
use Rattle.jam_codec.specs.Lists.{behind_one, some_spelled, tail_fits}
use Rattle.jam_codec.specs.FormatLaws.{one_spelling_of_file, tail_prefix, behind_one_laws, behind_one_some}
use Rattle.gas_ledger.specs.Schedule.{Schedule}
use Rattle.batch_file.specs.BatchFile.{batch_format, unscheduled_format, schedule_format, scheduled, unscheduled}
use Rattle.batch_file.specs.BatchLaws.{batch_laws, unscheduled_laws, schedule_laws}
use Rattle.batch_file.proofs.laws.batch_laws.Goals as goal

longer : (tail : Option Schedule) → tail_fits (behind_one schedule_format) tail → IsSome tail → 0 < length (some_spelled (behind_one schedule_format) tail)
longer None fits some = absurd (cc some)
longer (Some schedule) fits some = behind_one_some schedule_format schedule_laws schedule fits

pub returns-clause-one_value : goal.returns-clause-one_value
returns-clause-one_value c = one_spelling_of_file batch_format batch_laws

pub returns-clause-no_prefix : goal.returns-clause-no_prefix
returns-clause-no_prefix c x y bytes more hx hy =
    elim (tail_prefix unscheduled_format (behind_one schedule_format) unscheduled_laws (behind_one_laws schedule_format schedule_laws) (behind_one_some schedule_format schedule_laws) (unscheduled x, x.schedule) (unscheduled y, y.schedule) bytes more hx hy) [
      | inl none ↦ inl none
      | inr same ↦ inr (ap scheduled same)
    ]

pub returns-clause-one_prefix : goal.returns-clause-one_prefix
returns-clause-one_prefix c batch bytes spells some = (
  unscheduled_format.spell (unscheduled batch) ++ [],
  some_spelled (behind_one schedule_format) batch.schedule,
  ((spells.0.0, tt), refl),
  spells.1 ∙ ap (λ (front : List ℕ). front ++ some_spelled (behind_one schedule_format) batch.schedule) (sym (append-nil (unscheduled_format.spell (unscheduled batch)))),
  longer batch.schedule spells.0.1 some,
)

pub returns-clause-format : goal.returns-clause-format
returns-clause-format c = batch_laws
