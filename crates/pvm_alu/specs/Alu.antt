-- The values of the operations: what an opcode makes of the numbers in its registers (Gray Paper 0.7.0, appendix A).
-- There is one line for each operation. a and b are the values of registers A and B. Where there is an immediate it is x,
-- and then a is the value of register B, or in a branch of register A.
use Rattle.std.specs.Prelude.{ℕ, ◌+◌, ◌*◌, ◌%◌, ◌^◌, ◌==◌, nat_lt, nat_le, min, max, Bool, false, not, if◌then◌else◌, pos, ◌*ℤ◌, int_lt, int_le, bit_and, bit_or, bit_xor, Option, Some, None, is_some}
use Rattle.std.specs.Option.{option_map_or}
use Rattle.std.specs.Int.{w32, w64, leading_zeros, trailing_zeros, swap_bytes}
use Rattle.std.specs.Int.RustNames.{count_ones}
use Rattle.pvm_isa.specs.declared.op.Op.{Op}
use Rattle.pvm_isa.specs.declared.op.Op.TheVariants.{LoadU8, LoadI8, LoadU16, LoadI16, LoadU32, LoadI32, LoadU64, BranchEqImm, BranchNeImm, BranchLtUImm, BranchLeUImm, BranchGeUImm, BranchGtUImm, BranchLtSImm, BranchLeSImm, BranchGeSImm, BranchGtSImm, CountSetBits64, CountSetBits32, LeadingZeroBits64, LeadingZeroBits32, TrailingZeroBits64, TrailingZeroBits32, SignExtend8, SignExtend16, ZeroExtend16, ReverseBytes, LoadIndU8, LoadIndI8, LoadIndU16, LoadIndI16, LoadIndU32, LoadIndI32, LoadIndU64, AddImm32, AndImm, XorImm, OrImm, MulImm32, SetLtUImm, SetLtSImm, ShloLImm32, ShloRImm32, SharRImm32, NegAddImm32, SetGtUImm, SetGtSImm, ShloLImmAlt32, ShloRImmAlt32, SharRImmAlt32, AddImm64, MulImm64, ShloLImm64, ShloRImm64, SharRImm64, NegAddImm64, ShloLImmAlt64, ShloRImmAlt64, SharRImmAlt64, RotR64Imm, RotR64ImmAlt, RotR32Imm, RotR32ImmAlt, BranchEq, BranchNe, BranchLtU, BranchLtS, BranchGeU, BranchGeS, Add32, Sub32, Mul32, DivU32, DivS32, RemU32, RemS32, ShloL32, ShloR32, SharR32, Add64, Sub64, Mul64, DivU64, DivS64, RemU64, RemS64, ShloL64, ShloR64, SharR64, And, Xor, Or, MulUpperSS, MulUpperUU, MulUpperSU, SetLtU, SetLtS, RotL64, RotL32, RotR64, RotR32, AndInv, OrInv, Xnor, Max, MaxU, Min, MinU}
use Rattle.byte_numbers.specs.Signs.{extended_bits}
use Rattle.pvm_alu.specs.Words.{low_32, extended_32, signed_64, signed_32, difference, quotient, remainder, signed_quotient, signed_remainder, inverted, shifted_left, shifted_right, shifted_right_signed, turned_right, turned_left, upper_half, one_where}

-- operations with two values: opcodes 131 to 146, 149 to 161, 190 to 217 and 220 to 230
unfoldable pub binary_line : Op → Option (ℕ → ℕ → ℕ)
binary_line AddImm32 = Some (λ a x. extended_32 (a + x))
binary_line AndImm = Some (λ a x. bit_and a x)
binary_line XorImm = Some (λ a x. bit_xor a x)
binary_line OrImm = Some (λ a x. bit_or a x)
binary_line MulImm32 = Some (λ a x. extended_32 (a * x))
binary_line SetLtUImm = Some (λ a x. one_where (nat_lt a x))
binary_line SetLtSImm = Some (λ a x. one_where (int_lt (signed_64 a) (signed_64 x)))
binary_line ShloLImm32 = Some (λ a x. extended_32 (shifted_left (low_32 a) (x % 32)))
binary_line ShloRImm32 = Some (λ a x. extended_32 (shifted_right (low_32 a) (x % 32)))
binary_line SharRImm32 = Some (λ a x. extended_32 (shifted_right_signed (signed_32 a) (x % 32)))
binary_line NegAddImm32 = Some (λ a x. extended_32 (difference x a))
binary_line SetGtUImm = Some (λ a x. one_where (nat_lt x a))
binary_line SetGtSImm = Some (λ a x. one_where (int_lt (signed_64 x) (signed_64 a)))
binary_line ShloLImmAlt32 = Some (λ a x. extended_32 (shifted_left (low_32 x) (a % 32)))
binary_line ShloRImmAlt32 = Some (λ a x. extended_32 (shifted_right (low_32 x) (a % 32)))
binary_line SharRImmAlt32 = Some (λ a x. extended_32 (shifted_right_signed (signed_32 x) (a % 32)))
binary_line AddImm64 = Some (λ a x. (a + x) % 2 ^ 64)
binary_line MulImm64 = Some (λ a x. a * x % 2 ^ 64)
binary_line ShloLImm64 = Some (λ a x. shifted_left a (x % 64) % 2 ^ 64)
binary_line ShloRImm64 = Some (λ a x. shifted_right a (x % 64))
binary_line SharRImm64 = Some (λ a x. shifted_right_signed (signed_64 a) (x % 64))
binary_line NegAddImm64 = Some (λ a x. difference x a)
binary_line ShloLImmAlt64 = Some (λ a x. shifted_left x (a % 64) % 2 ^ 64)
binary_line ShloRImmAlt64 = Some (λ a x. shifted_right x (a % 64))
binary_line SharRImmAlt64 = Some (λ a x. shifted_right_signed (signed_64 x) (a % 64))
binary_line RotR64Imm = Some (λ a x. turned_right 64 a (x % 64))
binary_line RotR64ImmAlt = Some (λ a x. turned_right 64 x (a % 64))
binary_line RotR32Imm = Some (λ a x. extended_32 (turned_right 32 (low_32 a) (x % 32)))
binary_line RotR32ImmAlt = Some (λ a x. extended_32 (turned_right 32 (low_32 x) (a % 32)))
binary_line Add32 = Some (λ a b. extended_32 (a + b))
binary_line Sub32 = Some (λ a b. extended_32 (difference a b))
binary_line Mul32 = Some (λ a b. extended_32 (a * b))
binary_line DivU32 = Some (λ a b. extended_32 (quotient (low_32 a) (low_32 b)))
binary_line DivS32 = Some (λ a b. extended_32 (signed_quotient (signed_32 a) (signed_32 b)))
binary_line RemU32 = Some (λ a b. extended_32 (remainder (low_32 a) (low_32 b)))
binary_line RemS32 = Some (λ a b. extended_32 (signed_remainder (signed_32 a) (signed_32 b)))
binary_line ShloL32 = Some (λ a b. extended_32 (shifted_left (low_32 a) (b % 32)))
binary_line ShloR32 = Some (λ a b. extended_32 (shifted_right (low_32 a) (b % 32)))
binary_line SharR32 = Some (λ a b. extended_32 (shifted_right_signed (signed_32 a) (b % 32)))
binary_line Add64 = Some (λ a b. (a + b) % 2 ^ 64)
binary_line Sub64 = Some (λ a b. difference a b)
binary_line Mul64 = Some (λ a b. a * b % 2 ^ 64)
binary_line DivU64 = Some (λ a b. quotient a b)
binary_line DivS64 = Some (λ a b. signed_quotient (signed_64 a) (signed_64 b))
binary_line RemU64 = Some (λ a b. remainder a b)
binary_line RemS64 = Some (λ a b. signed_remainder (signed_64 a) (signed_64 b))
binary_line ShloL64 = Some (λ a b. shifted_left a (b % 64) % 2 ^ 64)
binary_line ShloR64 = Some (λ a b. shifted_right a (b % 64))
binary_line SharR64 = Some (λ a b. shifted_right_signed (signed_64 a) (b % 64))
binary_line And = Some (λ a b. bit_and a b)
binary_line Xor = Some (λ a b. bit_xor a b)
binary_line Or = Some (λ a b. bit_or a b)
binary_line MulUpperSS = Some (λ a b. upper_half (signed_64 a *ℤ signed_64 b))
binary_line MulUpperUU = Some (λ a b. upper_half (pos a *ℤ pos b))
binary_line MulUpperSU = Some (λ a b. upper_half (signed_64 a *ℤ pos b))
binary_line SetLtU = Some (λ a b. one_where (nat_lt a b))
binary_line SetLtS = Some (λ a b. one_where (int_lt (signed_64 a) (signed_64 b)))
binary_line RotL64 = Some (λ a b. turned_left 64 a (b % 64))
binary_line RotL32 = Some (λ a b. extended_32 (turned_left 32 (low_32 a) (b % 32)))
binary_line RotR64 = Some (λ a b. turned_right 64 a (b % 64))
binary_line RotR32 = Some (λ a b. extended_32 (turned_right 32 (low_32 a) (b % 32)))
binary_line AndInv = Some (λ a b. bit_and a (inverted b))
binary_line OrInv = Some (λ a b. bit_or a (inverted b))
binary_line Xnor = Some (λ a b. inverted (bit_xor a b))
binary_line Max = Some (λ a b. if int_lt (signed_64 a) (signed_64 b) then b else a)
binary_line MaxU = Some (λ a b. max a b)
binary_line Min = Some (λ a b. if int_lt (signed_64 a) (signed_64 b) then a else b)
binary_line MinU = Some (λ a b. min a b)
binary_line _ = None

-- operations with one value: opcodes 102 to 111
unfoldable pub unary_line : Op → Option (ℕ → ℕ)
unary_line CountSetBits64 = Some (λ a. count_ones a)
unary_line CountSetBits32 = Some (λ a. count_ones (low_32 a))
unary_line LeadingZeroBits64 = Some (λ a. leading_zeros w64 a)
unary_line LeadingZeroBits32 = Some (λ a. leading_zeros w32 (low_32 a))
unary_line TrailingZeroBits64 = Some (λ a. trailing_zeros w64 a)
unary_line TrailingZeroBits32 = Some (λ a. trailing_zeros w32 (low_32 a))
unary_line SignExtend8 = Some (λ a. extended_bits 8 (a % 2 ^ 8))
unary_line SignExtend16 = Some (λ a. extended_bits 16 (a % 2 ^ 16))
unary_line ZeroExtend16 = Some (λ a. a % 2 ^ 16)
unary_line ReverseBytes = Some (λ a. swap_bytes w64 a)
unary_line _ = None

-- conditions of branches: opcodes 81 to 90 and 170 to 175
unfoldable pub test_line : Op → Option (ℕ → ℕ → Bool)
test_line BranchEqImm = Some (λ a x. a == x)
test_line BranchNeImm = Some (λ a x. not (a == x))
test_line BranchLtUImm = Some (λ a x. nat_lt a x)
test_line BranchLeUImm = Some (λ a x. nat_le a x)
test_line BranchGeUImm = Some (λ a x. nat_le x a)
test_line BranchGtUImm = Some (λ a x. nat_lt x a)
test_line BranchLtSImm = Some (λ a x. int_lt (signed_64 a) (signed_64 x))
test_line BranchLeSImm = Some (λ a x. int_le (signed_64 a) (signed_64 x))
test_line BranchGeSImm = Some (λ a x. int_le (signed_64 x) (signed_64 a))
test_line BranchGtSImm = Some (λ a x. int_lt (signed_64 x) (signed_64 a))
test_line BranchEq = Some (λ a b. a == b)
test_line BranchNe = Some (λ a b. not (a == b))
test_line BranchLtU = Some (λ a b. nat_lt a b)
test_line BranchLtS = Some (λ a b. int_lt (signed_64 a) (signed_64 b))
test_line BranchGeU = Some (λ a b. nat_le b a)
test_line BranchGeS = Some (λ a b. int_le (signed_64 b) (signed_64 a))
test_line _ = None

-- how many bytes a load reads: opcodes 52 to 58 and 124 to 130
unfoldable pub loaded_bytes : Op → ℕ
loaded_bytes LoadU8 = 1
loaded_bytes LoadI8 = 1
loaded_bytes LoadU16 = 2
loaded_bytes LoadI16 = 2
loaded_bytes LoadU32 = 4
loaded_bytes LoadI32 = 4
loaded_bytes LoadU64 = 8
loaded_bytes LoadIndU8 = 1
loaded_bytes LoadIndI8 = 1
loaded_bytes LoadIndU16 = 2
loaded_bytes LoadIndI16 = 2
loaded_bytes LoadIndU32 = 4
loaded_bytes LoadIndI32 = 4
loaded_bytes LoadIndU64 = 8
loaded_bytes _ = 0

-- what a load puts into its register, of the number that those bytes make
unfoldable pub widen_line : Op → Option (ℕ → ℕ)
widen_line LoadU8 = Some (λ raw. raw)
widen_line LoadI8 = Some (λ raw. extended_bits 8 raw)
widen_line LoadU16 = Some (λ raw. raw)
widen_line LoadI16 = Some (λ raw. extended_bits 16 raw)
widen_line LoadU32 = Some (λ raw. raw)
widen_line LoadI32 = Some (λ raw. extended_bits 32 raw)
widen_line LoadU64 = Some (λ raw. raw)
widen_line LoadIndU8 = Some (λ raw. raw)
widen_line LoadIndI8 = Some (λ raw. extended_bits 8 raw)
widen_line LoadIndU16 = Some (λ raw. raw)
widen_line LoadIndI16 = Some (λ raw. extended_bits 16 raw)
widen_line LoadIndU32 = Some (λ raw. raw)
widen_line LoadIndI32 = Some (λ raw. extended_bits 32 raw)
widen_line LoadIndU64 = Some (λ raw. raw)
widen_line _ = None

abbrev pub is_binary : Op → Bool
is_binary op = is_some (binary_line op)

abbrev pub is_unary : Op → Bool
is_unary op = is_some (unary_line op)

abbrev pub is_test : Op → Bool
is_test op = is_some (test_line op)

abbrev pub is_load : Op → Bool
is_load op = is_some (widen_line op)

-- the value of an operation by its line; 0, or false, where there is none
abbrev pub binary : Op → ℕ → ℕ → ℕ
binary op a b = option_map_or (λ line. line a b) (binary_line op) 0

abbrev pub unary : Op → ℕ → ℕ
unary op a = option_map_or (λ line. line a) (unary_line op) 0

abbrev pub test : Op → ℕ → ℕ → Bool
test op a b = option_map_or (λ line. line a b) (test_line op) false

abbrev pub widen : Op → ℕ → ℕ
widen op raw = option_map_or (λ line. line raw) (widen_line op) 0
