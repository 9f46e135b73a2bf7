-- What is kept of a program blob, and the program that it stands for.
use Rattle.std.specs.Prelude.{◌≡◌, ℕ, ◌+◌, ◌*◌, ◌/◌, ◌%◌, ◌^◌, ◌<◌, ◌≤◌, true, false, List, length, get_or}
use Rattle.byte_numbers.specs.Numbers.{little_number, numbers, AreBytes}
use Rattle.byte_numbers.specs.Signs.{extended_bytes}
use Rattle.pvm_isa.specs.Arguments.{arguments}
use Rattle.pvm_isa.specs.declared.form.Form.TheVariants.{F10}
use Rattle.jam_codec.specs.Spelling.{binary_digits, bytes_for}
use Rattle.blob_decode.specs.declared.place.Place.{Place}
use Rattle.blob_decode.specs.Program.{Program, mask_bit, op_at, skip, is_start}

-- how many jumps and their width, and the bytes that spell the jumps, the code and the mask
abbrev pub program_of : ℕ → ℕ → List ℕ → List ℕ → List ℕ → Program
program_of count width table code mask = record {
  width = width;
  jumps = numbers width count table;
  code = code;
  mask = binary_digits (length code) (little_number mask);
}

-- the bytes are as long as the program asks, and no spare bit of the mask is set
pub record AreParts (count width : ℕ) (table code mask : List ℕ) : Type 0 where
  pub counted : count < 2 ^ 64
  pub narrow : width ≤ 8
  pub jumps : length table ≡ count * width
  pub bits : length mask ≡ bytes_for (length code)
  pub spare : little_number mask < 2 ^ length code
  pub bytes : AreBytes mask

-- the bits of the mask of so many places, then one that is set, in bytes that go on for a window of four at each place
pub record AreMarks (size : ℕ) (mask marks : List ℕ) : Type 0 where
  pub long : length marks ≡ length mask + 4
  pub bytes : AreBytes marks
  pub same : (i : ℕ) → i < size → get_or marks (i / 8) 0 / 2 ^ (i % 8) % 2 ≡ get_or mask (i / 8) 0 / 2 ^ (i % 8) % 2
  pub end : get_or marks (size / 8) 0 / 2 ^ (size % 8) % 2 ≡ 1

-- the nearest place before this one at which an instruction begins is n, at most 25 before
pub record IsNearest (p : Program) (place n : ℕ) : Type 0 where
  pub before : n < place
  pub near : place ≤ n + 25
  pub begins : mask_bit p n ≡ true
  pub none : (j : ℕ) → n < j → j < place → mask_bit p j ≡ false

-- no instruction begins at the 25 places before
abbrev pub NoneNear : Program → ℕ → Type 0
NoneNear p place = (j : ℕ) → j < place → place ≤ j + 25 → mask_bit p j ≡ false

-- n of the lowest 24 bits of a number stand before the first that is set
pub record FirstSet (bits n : ℕ) : Type 0 where
  pub most : n ≤ 24
  pub zeros : (j : ℕ) → j < n → bits / 2 ^ j % 2 ≡ 0
  pub one : n < 24 → bits / 2 ^ n % 2 ≡ 1

-- bit n is the highest that is set
pub record LastSet (bits n : ℕ) : Type 0 where
  pub one : bits / 2 ^ n % 2 ≡ 1
  pub above : (j : ℕ) → n < j → bits / 2 ^ j ≡ 0

-- this is what stands at a place
pub record IsPlace (p : Program) (place : ℕ) (kept : Place) : Type 0 where
  pub op : kept.op ≡ op_at p place
  pub first : kept.a ≡ (arguments F10 p.code place (skip p place)).a
  pub second : kept.b ≡ (arguments F10 p.code place (skip p place)).b
  pub immediate : extended_bytes 4 kept.x ≡ (arguments F10 p.code place (skip p place)).x
  pub low : kept.a < 13
  pub high : kept.b < 13
  pub skip : kept.skip ≡ skip p place
  pub short : kept.skip ≤ 24
  pub starts : kept.starts ≡ is_start p place

-- so it is with each of a list, by its place
abbrev pub ArePlaces : Program → List Place → Type 0
ArePlaces p places = (place : ℕ) (other : Place) → place < length places → IsPlace p place (get_or places place other)
