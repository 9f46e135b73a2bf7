use Rattle.std.proofs.Common.{arith, ◌≡◌, ◌∙◌, ap, length, ℕ, take}
use Rattle.jam_codec.specs.Spelling.{bytes_for}
use Rattle.byte_numbers.specs.Numbers.{little_number}
use Rattle.jam_codec.specs.Reading.{Reading}
use Rattle.jam_codec.specs.BitLaws.{Front, packed-Front}
use Rattle.jam_codec.proofs.cursor.Cursor.bits.Goals as goal

pub returns-then-remaining-count-clause-malformed : goal.returns-then-remaining-count-clause-malformed
returns-then-remaining-count-clause-malformed c =
    let count : c.div_ceil-count.result ≡ bytes_for c.args.n = omega (arith, c.div_ceil-count.ensures) in (
      ap (λ (r : Reading). r.place) c.self.view_is,
      λ x tail size e.
          let front : Front x c.args.n tail c.args.self.now.rest = packed-Front x c.args.n tail c.args.self.now.rest size e in
          absurd (omega (arith, front.long, ap (λ (r : Reading). length r.rest) c.self.view_is)),
    )

pub returns-then-has_spare_bit-clause-malformed : goal.returns-then-has_spare_bit-clause-malformed
returns-then-has_spare_bit-clause-malformed c =
    let count : c.div_ceil-count.result ≡ bytes_for c.args.n = omega (arith, c.div_ceil-count.ensures) in
    let rest : c.self.inside.rest.now ≡ c.args.self.now.rest = ap (λ (r : Reading). r.rest) c.self.view_is in (
      ap (λ (r : Reading). r.place) c.self.view_is,
      λ x tail size e.
          let front : Front x c.args.n tail c.self.inside.rest.now = packed-Front x c.args.n tail c.self.inside.rest.now size (rest ∙ e) in
          let same : little_number c.split_at.result.0.now ≡ little_number (take (bytes_for c.args.n) c.self.inside.rest.now) =
          ap little_number (c.split_at.ensures.front ∙ ap (λ (k : ℕ). take k c.self.inside.rest.now) count) in
          absurd (omega (arith, front.below, c.has_spare_bit.ensures.spare.0 c.if-has_spare_bit.true)),
    )
