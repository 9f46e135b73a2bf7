use Rattle.std.proofs.Common.{◌∙◌, refl, arith, true, eqb-true}
use Rattle.std.specs.Prelude.{◌==◌}
use Rattle.std.specs.Int.{w8, leading_ones}
use Rattle.std.proofs.lemmas.Bool.{agree_below_at}
use lib.Count.{count_leading_zeros}
use Rattle.jam_codec.specs.Reading.{tail_after}
use Rattle.jam_codec.proofs.natural.tail_length.Goals as goal

pub returns : goal.returns
unfolding count_leading_zeros
returns c =
    let same = agree_below_at (λ first. leading_ones w8 first == tail_after first) (λ _. true) 256 c.args.first refl (omega arith) in
    c.leading_ones.ensures ∙ eqb-true (leading_ones w8 c.args.first) (tail_after c.args.first) same
