use Rattle.std.proofs.Common.{◌≡◌, Ok, arith, sym, ◌∙◌, ap, true}
use Rattle.std.specs.Prelude.{decimal}
use Rattle.std.proofs.lemmas.Fmt.{parse-decimal}
use Rattle.jam_cli.proofs.argument.number.Goals as goal

pub returns-in_default-clause-other : goal.returns-in_default-clause-other
returns-in_default-clause-other c = λ _ n above below is.
    let parsed : c.parse.result ≡ Ok n = parse-decimal 64 n _ c.parse.result (omega (arith, below, c.ranges.bound)) (omega (arith, below, c.ranges.bound)) (c.as_str.ensures.value ∙ is) c.parse.ensures.value.0 in
    c.in_default.not-Ok n parsed

pub returns-then-number-least-clause-other : goal.returns-then-number-least-clause-other
returns-then-number-least-clause-other c = λ _ n above below is.
    let parsed : c.parse.result ≡ Ok n = parse-decimal 64 n _ c.parse.result (omega (arith, below, c.ranges.bound)) (omega (arith, below, c.ranges.bound)) (c.as_str.ensures.value ∙ is) c.parse.ensures.value.0 in
    let same : c.in-Ok.number ≡ n = cc in
    absurd (omega (arith, above, below))

pub returns-clause-other : goal.returns-clause-other
returns-clause-other c = λ _ n above below is.
    let parsed : c.parse.result ≡ Ok n = parse-decimal 64 n _ c.parse.result (omega (arith, below, c.ranges.bound)) (omega (arith, below, c.ranges.bound)) (c.as_str.ensures.value ∙ is) c.parse.ensures.value.0 in
    let same : c.in-Ok.number ≡ n = cc in
    let text : c.as_str-2.result.now ≡ c.as_str-3.result.now = c.as_str-2.ensures.value ∙ c.in_ok-digits.ensures.ok ∙ ap decimal same ∙ sym is ∙ sym c.as_str-3.ensures.value in
    let told : c.is_text.result ≡ true = c.is_text.ensures.1 text in
    cc
