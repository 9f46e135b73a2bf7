-- What a hasher holds of the bytes that came, and the bytes that it stands for.
use Rattle.std.specs.Prelude.{◌≡◌, ℕ, ◌-◌, ◌*◌, ◌/◌, List, length, take, drop}
use Rattle.blake2b_core.specs.Blake2b.{blocks, blocks_before_last, initial_chain, chained}

-- the chain after the blocks that are compressed, how many bytes came, and those of them not compressed yet
pub record Hashing : Type 0 where
  pub chain : List ℕ
  pub count : ℕ
  pub held : List ℕ

-- how many of n bytes are not compressed yet: a block is compressed once a byte after it has come
abbrev pub waiting : ℕ → ℕ
waiting n = n - 128 * ((n - 1) / 128)

-- the same by a chain, a count, and a block that begins with the bytes not compressed yet
abbrev pub hashing : List ℕ → ℕ → List ℕ → Hashing
hashing chain count block = record { chain = chain; count = count; held = take (waiting count) block }

-- the chain after the first n blocks of an input, which are not its last
abbrev pub chain_after : ℕ → List ℕ → List ℕ
chain_after n all = chained initial_chain 0 (blocks n all)

-- all the bytes came: the blocks before the last are compressed, and the last is held
pub record StandsFor (hasher : Hashing) (all : List ℕ) : Type 0 where
  pub counted : hasher.count ≡ length all
  pub compressed : hasher.chain ≡ chain_after (blocks_before_last all) all
  pub last : hasher.held ≡ drop (128 * blocks_before_last all) all
