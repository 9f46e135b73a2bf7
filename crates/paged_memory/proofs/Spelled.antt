-- The number that is read of bytes.
use Rattle.std.proofs.Common.{◌≡◌, ℕ, List, length, sym, ap, ◌∙◌}
use Rattle.byteorder.specs.Endian.{little_from}
use Rattle.byte_numbers.specs.Numbers.{little_number}
use Rattle.byte_numbers.specs.NumberLaws.{little_from-whole}

pub read_number : (n width x : ℕ) (bytes : List ℕ) → length bytes ≡ width → width ≡ n → x ≡ little_from 0 n bytes → x ≡ little_number bytes
read_number n width x bytes h e r = r ∙ ap (λ (k : ℕ). little_from 0 k bytes) (sym (h ∙ e)) ∙ little_from-whole bytes
