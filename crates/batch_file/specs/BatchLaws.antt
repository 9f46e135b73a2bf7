-- The laws of the file of a batch.
use Rattle.std.proofs.Common.{refl, ℕ, zero, suc, ◌-◌, ◌^◌, List, [], ◌≡◌, sym, ap, true, arith}
use Rattle.std.specs.Prelude.{nat_lt, nat_le}
use Rattle.std.proofs.lemmas.Bool.Decides.{nat_tests}
use Rattle.jam_codec.specs.Format.{any, both, fixed_where, bytes_where}
use Rattle.jam_codec.specs.Lists.{blob_where, up_to, behind_one, with_tail}
use Rattle.jam_codec.specs.Laws.{IsFormat, IsFileFormat}
use Rattle.jam_codec.specs.FormatLaws.{both_laws, by_laws, times_laws, fixed_laws, bytes_laws, blob_laws, list_laws, nothing_laws, behind_one_laws, behind_one_some, tail_laws, by_file_laws}
use Rattle.batch_file.specs.declared.result.WorkResult.{WorkResult}
use Rattle.batch_file.specs.declared.result.WorkResult.TheVariants.{Output, OutOfGas, Panic, NoCode}
use Rattle.batch_file.specs.Limits.{report_limit, item_limit}
use Rattle.batch_file.specs.BatchFile.{tagged_result, tag_and_bytes, behind_tag, result_format, item_fields, item_format, items_format, report_format, reports_format, delivery_format, deliveries_format, unscheduled_fields, unscheduled_format, costs_format, schedule_format, scheduled, unscheduled, batch_format}

behind_tag_laws : (tag : ℕ) → IsFormat (behind_tag tag)
behind_tag_laws zero = blob_laws any
behind_tag_laws (suc t) = nothing_laws []

no_fifth_tag : (t : ℕ) → nat_lt (suc (suc (suc (suc t)))) 4 ≡ true → ⊥
no_fifth_tag t e = grind (arith, nat_tests)

tag_back : (tag : ℕ) (bytes : List ℕ) → nat_lt tag 4 ≡ true → (behind_tag tag).Fits bytes → tag_and_bytes (tagged_result tag bytes) ≡ (tag, bytes)
tag_back zero bytes e h = refl
tag_back (suc zero) bytes e h = ap (λ b. (1, b)) (sym h)
tag_back (suc (suc zero)) bytes e h = ap (λ b. (2, b)) (sym h)
tag_back (suc (suc (suc zero))) bytes e h = ap (λ b. (3, b)) (sym h)
tag_back (suc (suc (suc (suc t)))) bytes e h = absurd (no_fifth_tag t e)

result_back : (x : WorkResult) → tagged_result (tag_and_bytes x).0 (tag_and_bytes x).1 ≡ x
result_back (Output bytes) = refl
result_back OutOfGas = refl
result_back Panic = refl
result_back NoCode = refl

pub result_laws : IsFormat result_format
result_laws =
    by_laws (λ p. tagged_result p.0 p.1) tag_and_bytes (both (fixed_where 1 (λ tag. nat_lt tag 4)) behind_tag)
    (both_laws _ _ (fixed_laws 1 (λ tag. nat_lt tag 4)) behind_tag_laws)
    (λ p h. tag_back p.0 p.1 h.0.1 h.1)
    (λ x h. result_back x)

pub item_laws : IsFormat item_format
item_laws =
    by_laws (λ p. record { service = p.0; gas = p.1.0; payload_hash = p.1.1.0; result = p.1.1.1 }) (λ i. (i.service, (i.gas, (i.payload_hash, i.result)))) item_fields
    (both_laws _ _ (fixed_laws 4 any) (λ _. both_laws _ _ (fixed_laws 8 any) (λ _. both_laws _ _ (bytes_laws 32 any) (λ _. result_laws))))
    (λ p h. refl)
    (λ i h. refl)

pub items_laws : IsFormat items_format
items_laws = list_laws (up_to item_limit) (λ _. item_format) (λ _. item_laws)

pub report_laws : IsFormat report_format
report_laws =
    by_laws (λ p. record { «package» = p.0; items = p.1 }) (λ r. (r.«package», r.items)) (both (bytes_where 32 any) (λ _. items_format))
    (both_laws _ _ (bytes_laws 32 any) (λ _. items_laws))
    (λ p h. refl)
    (λ r h. refl)

pub reports_laws : IsFormat reports_format
reports_laws = list_laws (up_to report_limit) (λ _. report_format) (λ _. report_laws)

pub delivery_laws : IsFormat delivery_format
delivery_laws =
    by_laws (λ p. record { service = p.0; bytes = p.1 }) (λ d. (d.service, d.bytes)) (both (fixed_where 4 any) (λ _. blob_where any))
    (both_laws _ _ (fixed_laws 4 any) (λ _. blob_laws any))
    (λ p h. refl)
    (λ d h. refl)

pub deliveries_laws : IsFormat deliveries_format
deliveries_laws = list_laws (up_to (2 ^ 64 - 1)) (λ _. delivery_format) (λ _. delivery_laws)

pub unscheduled_laws : IsFormat unscheduled_format
unscheduled_laws =
    by_laws (λ p. record { slot = p.0; entropy = p.1.0; gas = p.1.1.0; reports = p.1.1.1.0; preimages = p.1.1.1.1 }) (λ b. (b.slot, (b.entropy, (b.gas, (b.reports, b.preimages)))))
    unscheduled_fields
    (both_laws _ _ (fixed_laws 4 any) (λ _. both_laws _ _ (bytes_laws 32 any) (λ _. both_laws _ _ (fixed_laws 8 any) (λ _. both_laws _ _ reports_laws (λ _. deliveries_laws)))))
    (λ p h. refl)
    (λ b h. refl)

costs_laws : (width least n : ℕ) → IsFormat (costs_format width least n)
costs_laws width least n = times_laws (λ last. fixed_where width (nat_le least)) (λ last. fixed_laws width (nat_le least)) n

pub schedule_laws : IsFormat schedule_format
schedule_laws =
    by_laws (λ p. record { forms = p.0; calls = p.1 }) (λ s. (s.forms, s.calls)) (both (costs_format 1 1 13) (λ _. costs_format 2 10 28))
    (both_laws _ _ (costs_laws 1 1 13) (λ _. costs_laws 2 10 28))
    (λ p h. refl)
    (λ s h. refl)

tailed_laws : IsFileFormat (with_tail unscheduled_format (behind_one schedule_format))
tailed_laws = tail_laws unscheduled_format (behind_one schedule_format) unscheduled_laws (behind_one_laws schedule_format schedule_laws) (behind_one_some schedule_format schedule_laws)

pub batch_laws : IsFileFormat batch_format
batch_laws = by_file_laws scheduled (λ b. (unscheduled b, b.schedule)) (with_tail unscheduled_format (behind_one schedule_format)) tailed_laws (λ p. refl) (λ b. refl)
