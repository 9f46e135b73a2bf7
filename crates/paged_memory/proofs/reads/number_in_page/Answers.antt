use Rattle.std.proofs.Common.{◌≡◌, ◌∙◌, ap, arith, take, drop, length, rules}
use Rattle.byte_numbers.specs.Numbers.{little_number}
use Rattle.paged_memory.proofs.Sight.{numbers_read}
use Rattle.paged_memory.proofs.reads.number_in_page.Goals as goal

pub returns : goal.returns
returns c =
    let size : length c.read_in_page.new.buf ≡ c.args.width = search rules in
    let all : c.read_in_page.new.buf ≡ take c.args.width (drop c.args.addr c.args.held.now.bytes) = search rules in
    c.number_of.ensures ∙ ap little_number (all ∙ numbers_read c.args.width c.args.held.now c.args.addr c.requires.whole (omega (arith, c.requires.page)))
