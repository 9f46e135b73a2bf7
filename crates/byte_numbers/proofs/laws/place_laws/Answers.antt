use Rattle.std.proofs.Common.{suc, ◌+◌, ◌∙◌, ap, arith, refl, ◌≡◌}
use Rattle.byte_numbers.specs.Numbers.{number_at}
use Rattle.byte_numbers.specs.NumberLaws.{number_at-step, number_at-few, number_at-later, numbers-get, numbers-past}
use Rattle.byte_numbers.proofs.laws.place_laws.Goals as goal

pub returns-clause-first : goal.returns-clause-first
returns-clause-first c bytes place n =
    let more : n + 1 ≡ suc n = omega arith in
    ap (number_at bytes place) more ∙ number_at-step bytes place (place + 1) n refl

pub returns-clause-low : goal.returns-clause-low
returns-clause-low c bytes place n more are less = number_at-few more bytes place n less are

pub returns-clause-high : goal.returns-clause-high
returns-clause-high c bytes place n more are = number_at-later bytes place n more are

pub returns-clause-inside : goal.returns-clause-inside
returns-clause-inside c = numbers-get

pub returns-clause-past : goal.returns-clause-past
returns-clause-past c = numbers-past
