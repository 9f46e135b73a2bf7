-- The bytes that a hasher stands for, as further bytes come.
use Rattle.std.proofs.Common.{◌≡◌, ℕ, ◌+◌, ◌*◌, ◌/◌, ◌%◌, ◌<◌, ◌≤◌, true, false, List, ◌++◌, length, take, drop, refl, sym, ap, ◌∙◌, arith, length-append}
use Rattle.std.proofs.lemmas.List.{append_assoc, drop-append-le, drop_at, take-append-drop, take_all}
use Rattle.blake2b_core.specs.Blake2b.{compress, blocks, filled, blocks_before_last, chained, final_chain, data_blocks}
use Rattle.blake2b_core.specs.Hasher.{waiting, hashing, chain_after, StandsFor}
use Rattle.blake2b_core.proofs.Chains.{chain_after-append, chain_after-more, chain_after-next, final_chain_is}

-- bytes for which the block has room
pub stands_held : (chain block new bytes all : List ℕ) (count : ℕ) → StandsFor (hashing chain count block) all
    → waiting count + length bytes ≤ 128 → take (waiting count + length bytes) new ≡ take (waiting count) block ++ bytes
    → StandsFor (hashing chain (count + length bytes) new) (all ++ bytes)
stands_held chain block new bytes all count s room put =
    let q : ℕ = blocks_before_last all in
    let counted = s.counted in
    let size = length-append all bytes in
    let covered : 128 * q ≤ length all = omega arith in
    let same : blocks_before_last (all ++ bytes) ≡ q = omega arith in
    let width : waiting (count + length bytes) ≡ waiting count + length bytes = omega arith in
    record {
      counted = omega arith;
      compressed = rw same (s.compressed ∙ sym (chain_after-append q all bytes covered));
      last = rw (width, same, put, s.last) (sym (drop-append-le (128 * q) all bytes covered));
    }

-- bytes of which the front fills the block, whole blocks come next, and a last block is left
pub stands_passed : (chain first new block full left front whole tail all : List ℕ) (count : ℕ) → StandsFor (hashing chain count block) all
    → waiting count + length front ≡ 128 → length full ≡ 128
    → take (waiting count + length front) full ≡ take (waiting count) block ++ front
    → first ≡ compress chain full (count + length front) false
    → length whole % 128 ≡ 0
    → new ≡ chained first ((count + length front) / 128) (blocks (length whole / 128) whole)
    → 0 < length tail → length tail ≤ 128 → take (length tail) left ≡ tail
    → StandsFor (hashing new (count + length front + length whole + length tail) left) (all ++ front ++ whole ++ tail)
stands_passed chain first new block full left front whole tail all count s fills full_size put compressed whole_size passed some short held =
    let q : ℕ = blocks_before_last all in
    let k : ℕ = length whole / 128 in
    let filled_up : List ℕ = all ++ front in
    let counted : count ≡ length all = s.counted in
    let front_end : length filled_up ≡ 128 * (q + 1) = omega (arith, length-append all front) in
    let covered : 128 * q ≤ length all = omega arith in
    let full_is : full ≡ take (waiting count) block ++ front =
    sym (take_all (waiting count + length front) full (omega arith)) ∙ put in
    let at : drop (128 * q) filled_up ≡ full =
    drop-append-le (128 * q) all front covered ∙ ap (λ (b : List ℕ). b ++ front) (sym s.last) ∙ sym full_is in
    let place : count + length front ≡ 128 * (q + 1) = omega (arith, length-append all front) in
    let first_is : first ≡ chain_after (q + 1) filled_up =
    compressed ∙ rw (chain_after-next q filled_up full at full_size, chain_after-append q all front covered, ← s.compressed, place) refl in
    let blocks_before : (count + length front) / 128 ≡ q + 1 = omega arith in
    let new_is : new ≡ chain_after (q + 1 + k) (filled_up ++ whole) =
    passed ∙ rw (blocks_before, first_is) (sym (chain_after-more (q + 1) k filled_up whole front_end)) in
    let whole_end : length (filled_up ++ whole) ≡ 128 * (q + 1 + k) = omega (arith, length-append filled_up whole) in
    let end : length (filled_up ++ whole ++ tail) ≡ 128 * (q + 1 + k) + length tail = omega (arith, length-append (filled_up ++ whole) tail) in
    let total : count + length front + length whole + length tail ≡ 128 * (q + 1 + k) + length tail = omega (arith, length-append filled_up whole) in
    let before : blocks_before_last (filled_up ++ whole ++ tail) ≡ q + 1 + k = omega arith in
    let width : waiting (count + length front + length whole + length tail) ≡ length tail = omega arith in
    record {
      counted = total ∙ sym end;
      compressed = rw before (new_is ∙ sym (chain_after-append (q + 1 + k) (filled_up ++ whole) tail (omega arith)));
      last = rw (width, before) (held ∙ sym (drop_at (filled_up ++ whole) tail (128 * (q + 1 + k)) whole_end));
    }

-- bytes in three pieces
pub in_pieces : (n : ℕ) (all bytes front rest whole tail : List ℕ) → front ≡ take n bytes → rest ≡ drop n bytes
    → (m : ℕ) → whole ≡ take m rest → tail ≡ drop m rest → all ++ bytes ≡ all ++ front ++ whole ++ tail
in_pieces n all bytes front rest whole tail front_is rest_is m whole_is tail_is =
    let inner : whole ++ tail ≡ rest = rw (whole_is, tail_is) (take-append-drop m rest) in
    let outer : front ++ rest ≡ bytes = rw (front_is, rest_is) (take-append-drop n bytes) in
    sym (append_assoc (all ++ front) whole tail ∙ append_assoc all front (whole ++ tail)
    ∙ ap (λ (r : List ℕ). all ++ (front ++ r)) inner ∙ ap (λ (r : List ℕ). all ++ r) outer)

-- the chain at the end
pub stands_final : (chain block new all : List ℕ) (count : ℕ) → StandsFor (hashing chain count block) all
    → new ≡ compress chain (filled (take (waiting count) block)) count true → new ≡ final_chain (length all) (data_blocks all)
stands_final chain block new all count s compressed =
    let last : List ℕ = filled (take (waiting count) block) in
    compressed ∙ (λ i. compress (s.compressed i) last (s.counted i) true) ∙ sym (final_chain_is all (take (waiting count) block) (sym s.last))
