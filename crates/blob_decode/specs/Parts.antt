-- The last fields of a program blob, once the first tell how long they are.
use Rattle.std.specs.Prelude.{ℕ, Bool, List}
use Rattle.jam_codec.specs.Format.{Format, both, bytes_where, bits_where, numbers_of, any}

-- the jumps, the code and the mask
abbrev pub lists : ℕ → ℕ → ℕ → Format (List ℕ × (List ℕ × List Bool))
lists count width size = both (numbers_of width count) (λ targets. both (bytes_where size any) (λ code. bits_where size any))
