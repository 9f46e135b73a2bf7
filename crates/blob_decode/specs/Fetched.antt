-- What is fetched of an instruction.
use Rattle.std.specs.Prelude.{◌≡◌, ◌<◌, ◌≤◌, ℕ, length}
use Rattle.pvm_isa.specs.Arguments.{IsWindow, arguments}
use Rattle.pvm_isa.specs.declared.form.Form.TheVariants.{F10}
use Rattle.blob_decode.specs.declared.program.Fetched.{Fetched}
use Rattle.blob_decode.specs.Program.{Program, op_at, next, skip}

-- this is what stands at a place within the code
pub record IsFetched (p : Program) (place : ℕ) (f : Fetched) : Type 0 where
  pub within : place < length p.code
  pub here : f.pc ≡ place
  pub op : f.op ≡ op_at p place
  pub next : f.next ≡ next p place
  pub first : f.a ≡ (arguments F10 p.code place (skip p place)).a
  pub second : f.b ≡ (arguments F10 p.code place (skip p place)).b
  pub immediate : f.x ≡ (arguments F10 p.code place (skip p place)).x
  pub low : f.a < 13
  pub high : f.b < 13
  pub skip : f.skip ≡ skip p place
  pub short : f.skip ≤ 24
  pub window : IsWindow p.code place f.bytes
