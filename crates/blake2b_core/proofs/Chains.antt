-- The chain as an input grows by blocks.
use Rattle.std.proofs.Common.{◌≡◌, ℕ, zero, suc, ◌+◌, ◌-◌, ◌*◌, ◌≤◌, true, false, List, [], ◌∷◌, ◌++◌, length, take, drop, get_or, refl, ap, ◌∙◌, arith, length-drop}
use Rattle.std.proofs.lemmas.List.{append-nil, drop-append-le, drop-drop, drop_at, take-append-le, take_all}
use Rattle.blake2b_core.specs.Blake2b.{compress, blocks, filled, blocks_before_last, initial_chain, chained, final_chain, data_blocks}
use Rattle.blake2b_core.specs.Hasher.{chain_after}

-- ---- blocks

pub length-blocks : (n : ℕ) (bytes : List ℕ) → length (blocks n bytes) ≡ n
unfolding blocks
length-blocks zero bytes = refl
length-blocks (suc n) bytes = ap suc (length-blocks n (drop 128 bytes))

-- whole blocks don't depend on what comes after them
pub blocks-append : (n : ℕ) (bytes more : List ℕ) → 128 * n ≤ length bytes → blocks n (bytes ++ more) ≡ blocks n bytes
unfolding blocks
blocks-append zero bytes more covered = refl
blocks-append (suc n) bytes more covered =
    let front = take-append-le 128 bytes more (omega arith) in
    let rest = drop-append-le 128 bytes more (omega arith) in
    let others = blocks-append n (drop 128 bytes) more (omega (arith, length-drop 128 bytes)) in
    rw (front, rest, others) refl

-- a block more
pub take-blocks : (n : ℕ) (bytes : List ℕ) → take n (blocks (suc n) bytes) ≡ blocks n bytes
unfolding blocks
take-blocks zero bytes = refl
take-blocks (suc n) bytes = ap (λ (ds : List (List ℕ)). filled (take 128 bytes) ∷ ds) (take-blocks n (drop 128 bytes))

pub last-block : (n : ℕ) (bytes : List ℕ) → get_or (blocks (suc n) bytes) n [] ≡ filled (take 128 (drop (128 * n) bytes))
unfolding blocks
last-block zero bytes = refl
last-block (suc n) bytes =
    last-block n (drop 128 bytes)
    ∙ ap (λ (b : List ℕ). filled (take 128 b)) (drop-drop (128 * n) 128 bytes ∙ ap (λ (k : ℕ). drop k bytes) (omega arith))

-- a whole block is filled already
filled_whole : (block : List ℕ) → length block ≡ 128 → filled block ≡ block
filled_whole block size =
    let none : 128 - length block ≡ 0 = omega arith in
    rw none (append-nil block)

-- ---- chains

-- blocks one after another
pub chained-blocks : (n k i : ℕ) (h bytes : List ℕ)
    → chained h i (blocks (n + k) bytes) ≡ chained (chained h i (blocks n bytes)) (i + n) (blocks k (drop (128 * n) bytes))
unfolding blocks chained
chained-blocks zero k i h bytes =
    let none : 0 + k ≡ k = omega arith in
    let same : i + 0 ≡ i = omega arith in
    rw (none, same) refl
chained-blocks (suc n) k i h bytes =
    let first : List ℕ = compress h (filled (take 128 bytes)) (128 * (i + 1)) false in
    let count : suc n + k ≡ suc (n + k) = omega arith in
    let place : i + 1 + n ≡ i + suc n = omega arith in
    let rest : drop (128 * n) (drop 128 bytes) ≡ drop (128 * suc n) bytes =
    drop-drop (128 * n) 128 bytes ∙ ap (λ (m : ℕ). drop m bytes) (omega arith) in
    rw count (chained-blocks n k (i + 1) first (drop 128 bytes)
    ∙ (λ j. chained (chained first (i + 1) (blocks n (drop 128 bytes))) (place j) (blocks k (rest j))))

-- one block more
pub chained-next : (n i : ℕ) (h bytes block : List ℕ) → take 128 (drop (128 * n) bytes) ≡ block → length block ≡ 128
    → chained h i (blocks (n + 1) bytes) ≡ compress (chained h i (blocks n bytes)) block (128 * (i + n + 1)) false
unfolding blocks chained
chained-next n i h bytes block at size =
    chained-blocks n 1 i h bytes ∙ rw (at, filled_whole block size) refl

pub chain_after-append : (n : ℕ) (bytes more : List ℕ) → 128 * n ≤ length bytes → chain_after n (bytes ++ more) ≡ chain_after n bytes
chain_after-append n bytes more covered = ap (chained initial_chain 0) (blocks-append n bytes more covered)

-- whole blocks after whole blocks
pub chain_after-more : (n k : ℕ) (bytes more : List ℕ) → length bytes ≡ 128 * n
    → chain_after (n + k) (bytes ++ more) ≡ chained (chain_after n bytes) n (blocks k more)
chain_after-more n k bytes more size =
    let rest : drop (128 * n) (bytes ++ more) ≡ more = drop_at bytes more (128 * n) size in
    let place : 0 + n ≡ n = omega arith in
    chained-blocks n k 0 initial_chain (bytes ++ more)
    ∙ rw (rest, place, chain_after-append n bytes more (omega arith)) refl

-- the block that stands behind n blocks
pub chain_after-next : (n : ℕ) (bytes block : List ℕ) → drop (128 * n) bytes ≡ block → length block ≡ 128
    → chain_after (n + 1) bytes ≡ compress (chain_after n bytes) block (128 * (n + 1)) false
chain_after-next n bytes block at size =
    let place : 0 + n ≡ n = omega arith in
    rw place at (chained-next n 0 initial_chain bytes block (ap (take 128) at ∙ take_all 128 block (omega arith)) size)

-- the chain at the end of an input, from the bytes of its last block
pub final_chain_is : (bytes last : List ℕ) → drop (128 * blocks_before_last bytes) bytes ≡ last
    → final_chain (length bytes) (data_blocks bytes) ≡ compress (chain_after (blocks_before_last bytes) bytes) (filled last) (length bytes) true
unfolding final_chain
final_chain_is bytes last at =
    let q : ℕ = blocks_before_last bytes in
    let ds : List (List ℕ) = blocks (suc q) bytes in
    let all : data_blocks bytes ≡ ds = ap (λ (n : ℕ). blocks n bytes) (omega arith) in
    let place : length ds - 1 ≡ q = omega (arith, length-blocks (suc q) bytes) in
    let short : length last ≤ 128 = omega (arith, ap length at, length-drop (128 * q) bytes) in
    let block : get_or ds q [] ≡ filled last = last-block q bytes ∙ ap filled (ap (take 128) at ∙ take_all 128 last short) in
    rw (all, place, take-blocks q bytes, block) refl
