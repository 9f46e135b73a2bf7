-- The words of a block, and the bytes of words.
use Rattle.std.proofs.Common.{◌≡◌, ℕ, ◌*◌, ◌<◌, ◌≤◌, List, length, drop, slice_index, sym, ◌∙◌, ap, arith}
use Rattle.std.specs.List.{flat_map}
use Rattle.std.proofs.lemmas.Grind.{same_number_lists}
use Rattle.std.proofs.lemmas.List.{length-drop}
use Rattle.std.proofs.lemmas.Option.{get_or_from_slice_get}
use Rattle.byteorder.specs.Endian as endian
use Rattle.byte_numbers.specs.Numbers.{little_endian, number_at, numbers}
use Rattle.byte_numbers.specs.NumberLaws.{bytes-little_endian, length-numbers, little_from-front, numbers-get}

word_at : (n k : ℕ) (bytes : List ℕ) → 8 * n ≤ length bytes → k < n → endian.little_number 8 (drop (8 * k) bytes) ≡ slice_index (numbers 8 n bytes) k
word_at n k bytes room below =
    let place : k * 8 ≡ 8 * k = omega arith in
    little_from-front 8 (drop (8 * k) bytes) (omega (arith, length-drop (8 * k) bytes))
    ∙ ap (λ (i : ℕ). number_at bytes i 8) (sym place)
    ∙ sym (get_or_from_slice_get (numbers 8 n bytes) k (number_at bytes (k * 8) 8) 0 (numbers-get 8 n k bytes below))

-- words that were read from bytes one after another are their words
pub words_read : (n : ℕ) (bytes found : List ℕ) → 8 * n ≤ length bytes → length found ≡ n → endian.IsRead endian.little_number 8 bytes found → found ≡ numbers 8 n bytes
words_read n bytes found room size read =
    same_number_lists found (numbers 8 n bytes) (size ∙ sym (length-numbers 8 n bytes)) (λ k below. read k below ∙ word_at n k bytes room (omega arith))

-- the bytes of words, each with its lowest byte first
pub words_spelled : (words : List ℕ) → flat_map (endian.little_bytes 8) words ≡ flat_map (little_endian 8) words
words_spelled words = ap (λ (f : ℕ → List ℕ). flat_map f words) (λ i x. bytes-little_endian 8 x i)
