use Rattle.std.proofs.Common.{◌≡◌, ◌∙◌, ap, take, ◌++◌, List, ℕ}
use Rattle.byte_numbers.specs.Numbers.{little_endian}
use Rattle.byte_numbers.specs.NumberLaws.{bytes-little_endian, take-little_endian}
use Rattle.jam_codec.proofs.Spelled.{on_ok}
use Rattle.jam_codec.proofs.writing.push_fixed.Goals as goal

pub returns-clause-ok : goal.returns-clause-ok
returns-clause-ok c =
    let front : take c.args.width c.to_le_bytes-bytes.result ≡ little_endian c.args.width c.args.x =
    ap (take c.args.width) (c.to_le_bytes-bytes.ensures ∙ bytes-little_endian 8 c.args.x) ∙ take-little_endian c.args.width 8 c.args.x c.requires.width in
    on_ok c.extend_from_slice.result c.extend_from_slice.new.self.items _ _ (c.args.out.now.items ++ little_endian c.args.width c.args.x) c.extend_from_slice.ensures.items
    (ap (λ (bytes : List ℕ). c.args.out.now.items ++ bytes) (ap (λ (n : ℕ). take n c.to_le_bytes-bytes.result) c.from.ensures ∙ front))
