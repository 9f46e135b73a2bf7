-- What the directives and the units of a text give.
use Rattle.std.specs.Prelude.{ℕ, Bool, List}

pub record Image : Type 0 where
  -- metadata, and the bytes that may only be read and that may be written
  pub meta : List ℕ
  pub ro : List ℕ
  pub rw : List ℕ
  -- pages of the heap and bytes of the stack
  pub heap : ℕ
  pub stack : ℕ
  -- the entries of the jump table; where there is none, how many stand there that have no bytes
  pub entries : List ℕ
  pub blanks : ℕ
  -- the code, and for each of its bytes whether a unit begins there
  pub code : List ℕ
  pub mask : List Bool
