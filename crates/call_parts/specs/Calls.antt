-- What host calls have in common (Gray Paper 0.7.0, appendix B). The numbers of the results, the costs and the order of refusals are
-- this project's own.
use Rattle.std.specs.Prelude.{ℕ, ◌-◌, ◌^◌, ◌==◌, nat_le, nat_lt, if◌then◌else◌, List, length, take, drop, set, Option, Some, None}
use Rattle.paged_memory.specs.PageMap.{Memory, readable, writable, bytes_from, put_bytes}
use Rattle.pvm_step.specs.declared.exit.Exit.TheVariants.{Panic}
use Rattle.pvm_step.specs.declared.exit.HostStep.{HostStep}
use Rattle.pvm_step.specs.declared.exit.HostStep.TheVariants.{Go, End, Unpaid}
use Rattle.pvm_step.specs.Effect.{value_in}
use Rattle.pvm_step.specs.Machine.{Machine, state_of}

-- ---- Results, which register 7 has after a call

abbrev pub result_ok : ℕ
result_ok = 0

-- there is no such thing
abbrev pub result_none : ℕ
result_none = 2 ^ 64 - 1

-- there is no such call
abbrev pub result_what : ℕ
result_what = 2 ^ 64 - 2

-- outside the bounds
abbrev pub result_oob : ℕ
result_oob = 2 ^ 64 - 3

-- there is no such service or machine
abbrev pub result_who : ℕ
result_who = 2 ^ 64 - 4

abbrev pub result_full : ℕ
result_full = 2 ^ 64 - 5

-- the balance is too low
abbrev pub result_cash : ℕ
result_cash = 2 ^ 64 - 7

-- the gas is too low
abbrev pub result_low : ℕ
result_low = 2 ^ 64 - 8

-- that makes no sense
abbrev pub result_huh : ℕ
result_huh = 2 ^ 64 - 9

-- what a call costs by itself
abbrev pub call_charge : ℕ
call_charge = 10

-- ---- What a call leaves

-- its answer, the machine, and what else it may change
pub record CallOutcome (X : Type 0) : Type 0 where
  pub answer : HostStep
  pub machine : Machine
  pub context : X

-- of a call that changes nothing but the machine
abbrev pub no_context : Unit {0}
no_context = tt

abbrev pub word : Machine → ℕ → ℕ
word m register = value_in (state_of m) register

abbrev pub with_word : Machine → ℕ → ℕ → Machine
with_word m register value = record m { registers = set m.registers register value }

-- the n bytes at an address, where they may all be read
abbrev pub readable_bytes : Memory → ℕ → ℕ → Option (List ℕ)
readable_bytes memory address n = if readable memory address n then Some (bytes_from memory address n) else None

-- of a value so many bytes from a place on, as far as there are
abbrev pub part : List ℕ → ℕ → ℕ → List ℕ
part value from n = take n (drop from value)

module _ {X : Type 0} where
  -- the machine runs on, with a result in register 7
  abbrev pub answering : ℕ → Machine → X → CallOutcome X
  answering result m x = record { answer = Go; machine = with_word m 7 result; context = x }

  -- the run ends, since memory that the call names is not accessible
  abbrev pub panicking : Machine → X → CallOutcome X
  panicking m x = record { answer = End Panic; machine = m; context = x }

  -- the call costs so much, and goes on with what is left. Where that cannot be paid no gas is left, and nothing else is done
  abbrev pub paying : ℕ → Machine → X → (Machine → CallOutcome X) → CallOutcome X
  paying cost m x call = if nat_le cost m.gas then call (record m { gas = m.gas - cost }) else record { answer = Unpaid; machine = record m { gas = 0 }; context = x }

  abbrev pub with_bytes : Option (List ℕ) → Machine → X → (List ℕ → CallOutcome X) → CallOutcome X
  with_bytes None m x call = panicking m x
  with_bytes (Some bytes) m x call = call bytes

  -- the call takes the n bytes at an address in
  abbrev pub taking : ℕ → ℕ → Machine → X → (List ℕ → CallOutcome X) → CallOutcome X
  taking address n m x call = with_bytes (readable_bytes m.memory address n) m x call

  -- bytes go out to an address, and then this is the result
  abbrev pub putting : ℕ → List ℕ → ℕ → Machine → X → CallOutcome X
  putting address bytes result m x = if writable m.memory address (length bytes) then answering result (record m { memory = put_bytes m.memory address bytes }) x else panicking m x

  -- a value is given: so many of its bytes from a place on go out to an address, and its length is the result. Where there is no value,
  -- no memory is tested
  abbrev pub giving : Option (List ℕ) → ℕ → ℕ → ℕ → Machine → X → CallOutcome X
  giving None address from n m x = answering result_none m x
  giving (Some value) address from n m x = putting address (part value from n) (length value) m x

-- the service that a word names, for a service with this number: its own for 2 ^ 64 - 1, and none from 2 ^ 32 on
abbrev pub service_named : ℕ → ℕ → Option ℕ
service_named own word = if word == 2 ^ 64 - 1 then Some own else if nat_lt word (2 ^ 32) then Some word else None

-- a call that changes nothing but the machine leaves the rest
abbrev pub beside : {X : Type 0} → X → CallOutcome (Unit {0}) → CallOutcome X
beside x called = record { answer = called.answer; machine = called.machine; context = x }
