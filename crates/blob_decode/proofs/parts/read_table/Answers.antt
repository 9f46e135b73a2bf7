use Rattle.std.proofs.Common.{◌≡◌, ◌+◌, ◌*◌, ◌/◌, ◌<◌, ap, ◌∙◌, length, arith, refl, ℕ, Some}
use Rattle.blob_decode.proofs.KeptLaws.{Reads-numbers, numbers-missing}
use Rattle.blob_decode.proofs.parts.read_table.Goals.{in_default-via-in-Some+else-size-left, in_default-via-in_default}
use Rattle.blob_decode.proofs.parts.read_table.Goals as goal

pub returns-in-Some-clause-exact : goal.returns-in-Some-clause-exact
returns-in-Some-clause-exact c =
    let sized : c.in-Some.size ≡ c.args.count * c.args.width = (c.in-Some.ensures {u = tt}).1 ∙ ap (λ (k : ℕ). c.args.count * k) c.from-width.ensures in
    Reads-numbers (λ e. Some e.place) (λ found. found.now) c.bytes.result c.bytes.new.self c.args.cursor.now c.args.width c.args.count c.in-Some.size sized (omega arith) c.bytes.ensures.exact

pub returns-in_default-clause-exact : goal.returns-in_default-clause-exact
returns-in_default-clause-exact c =
    let wide : c.args.count * c.from-width.result ≡ c.args.count * c.args.width = ap (λ (k : ℕ). c.args.count * k) c.from-width.ensures in
    let short : length c.args.cursor.now.rest < c.args.count * c.args.width = elim c.in_default.branch [
      | in_default-via-in-Some+else-size-left w ↦ omega (arith, wide, (w.in-Some.ensures {u = tt}).1)
      | in_default-via-in_default w ↦ omega (arith, wide, w.in_default.ensures {u = tt}, c.place.ensures.bound)
    ] in
    numbers-missing c.args.width c.args.count c.remaining-left.result c.from-width.result c.place.result (c.place.result + c.remaining-left.result / c.from-width.result * c.from-width.result) c.args.cursor.now short c.remaining-left.ensures c.from-width.ensures c.place.ensures.place refl
