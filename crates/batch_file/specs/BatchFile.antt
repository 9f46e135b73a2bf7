-- The file of a batch: reports of work, preimages that are delivered, and a schedule, which may be missing. uK is K bytes, least significant first.
use Rattle.std.specs.Prelude.{ℕ, zero, suc, ◌-◌, ◌^◌, List, [], Option, nat_lt, nat_le}
use Rattle.jam_codec.specs.Format.{Format, any, both, by, times, fixed_where, bytes_where}
use Rattle.jam_codec.specs.Lists.{blob_where, list_of, up_to, nothing, behind_one, with_tail}
use Rattle.gas_ledger.specs.Schedule.{Schedule}
use Rattle.batch_file.specs.Limits.{report_limit, item_limit}
use Rattle.batch_file.specs.declared.result.WorkResult.{WorkResult}
use Rattle.batch_file.specs.declared.result.WorkResult.TheVariants.{Output, OutOfGas, Panic, NoCode}
use Rattle.batch_file.specs.declared.item.ReportItem.{ReportItem}
use Rattle.batch_file.specs.declared.report.Report.{Report}
use Rattle.batch_file.specs.declared.delivery.Delivery.{Delivery}
use Rattle.batch_file.specs.declared.unscheduled.Unscheduled.{Unscheduled}
use Rattle.batch_file.specs.declared.batch.Batch.{Batch}

-- the result of a tag and the bytes behind it: 0 an output, 1 out of gas, 2 a panic, 3 no code
abbrev pub tagged_result : ℕ → List ℕ → WorkResult
tagged_result zero bytes = Output bytes
tagged_result (suc zero) bytes = OutOfGas
tagged_result (suc (suc zero)) bytes = Panic
tagged_result (suc (suc (suc t))) bytes = NoCode

abbrev pub tag_and_bytes : WorkResult → ℕ × List ℕ
tag_and_bytes (Output bytes) = (0, bytes)
tag_and_bytes OutOfGas = (1, [])
tag_and_bytes Panic = (2, [])
tag_and_bytes NoCode = (3, [])

-- an output's bytes follow its tag; nothing follows another
abbrev pub behind_tag : ℕ → Format (List ℕ)
behind_tag zero = blob_where any
behind_tag (suc t) = nothing []

-- a result: a tag of one byte below 4, and what is behind it
abbrev pub result_format : Format WorkResult
result_format = by (λ p. tagged_result p.0 p.1) tag_and_bytes (both (fixed_where 1 (λ tag. nat_lt tag 4)) behind_tag)

-- u4 service, u8 gas, 32 bytes of the payload's hash, the result
abbrev pub item_fields : Format (ℕ × (ℕ × (List ℕ × WorkResult)))
item_fields = both (fixed_where 4 any) (λ _. both (fixed_where 8 any) (λ _. both (bytes_where 32 any) (λ _. result_format)))

abbrev pub item_format : Format ReportItem
item_format =
    by (λ p. record { service = p.0; gas = p.1.0; payload_hash = p.1.1.0; result = p.1.1.1 }) (λ i. (i.service, (i.gas, (i.payload_hash, i.result)))) item_fields

-- a natural count up to the limit, and so many items
abbrev pub items_format : Format (List ReportItem)
items_format = list_of (up_to item_limit) (λ _. item_format)

-- 32 bytes of the package's hash, and the items
abbrev pub report_format : Format Report
report_format = by (λ p. record { «package» = p.0; items = p.1 }) (λ r. (r.«package», r.items)) (both (bytes_where 32 any) (λ _. items_format))

-- a natural count up to the limit, and so many reports
abbrev pub reports_format : Format (List Report)
reports_format = list_of (up_to report_limit) (λ _. report_format)

-- u4 service, and a blob
abbrev pub delivery_format : Format Delivery
delivery_format = by (λ p. record { service = p.0; bytes = p.1 }) (λ d. (d.service, d.bytes)) (both (fixed_where 4 any) (λ _. blob_where any))

-- a natural count, and so many deliveries
abbrev pub deliveries_format : Format (List Delivery)
deliveries_format = list_of (up_to (2 ^ 64 - 1)) (λ _. delivery_format)

-- u4 slot, 32 bytes of entropy, u8 gas, the reports, the deliveries
abbrev pub unscheduled_fields : Format (ℕ × (List ℕ × (ℕ × (List Report × List Delivery))))
unscheduled_fields =
    both (fixed_where 4 any) (λ _.
    both (bytes_where 32 any) (λ _.
    both (fixed_where 8 any) (λ _.
    both reports_format (λ _. deliveries_format))))

abbrev pub unscheduled_format : Format Unscheduled
unscheduled_format =
    by (λ p. record { slot = p.0; entropy = p.1.0; gas = p.1.1.0; reports = p.1.1.1.0; preimages = p.1.1.1.1 }) (λ b. (b.slot, (b.entropy, (b.gas, (b.reports, b.preimages)))))
    unscheduled_fields

-- n numbers of `width` bytes, each at least so much
abbrev pub costs_format : ℕ → ℕ → ℕ → Format (List ℕ)
costs_format width least n = times (λ last. fixed_where width (nat_le least)) n

-- 13 numbers u1, of the forms 1 to 13; 28 numbers u2, of the calls 0 to 26 and then of all others
abbrev pub schedule_format : Format Schedule
schedule_format = by (λ p. record { forms = p.0; calls = p.1 }) (λ s. (s.forms, s.calls)) (both (costs_format 1 1 13) (λ _. costs_format 2 10 28))

abbrev pub scheduled : Unscheduled × Option Schedule → Batch
scheduled p = record { slot = p.0.slot; entropy = p.0.entropy; gas = p.0.gas; reports = p.0.reports; preimages = p.0.preimages; schedule = p.1 }

abbrev pub unscheduled : Batch → Unscheduled
unscheduled b = record { slot = b.slot; entropy = b.entropy; gas = b.gas; reports = b.reports; preimages = b.preimages }

-- these fields, and then nothing, or the byte 1 and a schedule
abbrev pub batch_format : Format Batch
batch_format = by scheduled (λ b. (unscheduled b, b.schedule)) (with_tail unscheduled_format (behind_one schedule_format))
