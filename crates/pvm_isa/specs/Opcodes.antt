-- The opcodes: their numbers, names and argument forms (Gray Paper 0.7.0, appendix A; the numbers, the spelling of the names
-- and the forms are this project's own).
use Rattle.std.specs.Prelude.{ℕ, ◌==◌, List, [], ◌∷◌, Option, codes}
use Rattle.std.specs.List.{find}
use Rattle.std.specs.Str.{bytes_eq}
use Rattle.pvm_isa.specs.declared.form.Form.{Form}
use Rattle.pvm_isa.specs.declared.form.Form.TheVariants.{F1, F2, F3, F4, F5, F6, F7, F8, F9, F10, F11, F12, F13}
use Rattle.pvm_isa.specs.declared.op.Op.{Op}
use Rattle.pvm_isa.specs.declared.op.Op.TheVariants.{Trap, Fallthrough, Ecalli, LoadImm64, StoreImmU8, StoreImmU16, StoreImmU32, StoreImmU64, Jump, JumpInd, LoadImm, LoadU8, LoadI8, LoadU16, LoadI16, LoadU32, LoadI32, LoadU64, StoreU8, StoreU16, StoreU32, StoreU64, StoreImmIndU8, StoreImmIndU16, StoreImmIndU32, StoreImmIndU64, LoadImmJump, BranchEqImm, BranchNeImm, BranchLtUImm, BranchLeUImm, BranchGeUImm, BranchGtUImm, BranchLtSImm, BranchLeSImm, BranchGeSImm, BranchGtSImm, MoveReg, Sbrk, CountSetBits64, CountSetBits32, LeadingZeroBits64, LeadingZeroBits32, TrailingZeroBits64, TrailingZeroBits32, SignExtend8, SignExtend16, ZeroExtend16, ReverseBytes, StoreIndU8, StoreIndU16, StoreIndU32, StoreIndU64, LoadIndU8, LoadIndI8, LoadIndU16, LoadIndI16, LoadIndU32, LoadIndI32, LoadIndU64, AddImm32, AndImm, XorImm, OrImm, MulImm32, SetLtUImm, SetLtSImm, ShloLImm32, ShloRImm32, SharRImm32, NegAddImm32, SetGtUImm, SetGtSImm, ShloLImmAlt32, ShloRImmAlt32, SharRImmAlt32, CmovIzImm, CmovNzImm, AddImm64, MulImm64, ShloLImm64, ShloRImm64, SharRImm64, NegAddImm64, ShloLImmAlt64, ShloRImmAlt64, SharRImmAlt64, RotR64Imm, RotR64ImmAlt, RotR32Imm, RotR32ImmAlt, BranchEq, BranchNe, BranchLtU, BranchLtS, BranchGeU, BranchGeS, LoadImmJumpInd, Add32, Sub32, Mul32, DivU32, DivS32, RemU32, RemS32, ShloL32, ShloR32, SharR32, Add64, Sub64, Mul64, DivU64, DivS64, RemU64, RemS64, ShloL64, ShloR64, SharR64, And, Xor, Or, MulUpperSS, MulUpperUU, MulUpperSU, SetLtU, SetLtS, CmovIz, CmovNz, RotL64, RotL32, RotR64, RotR32, AndInv, OrInv, Xnor, Max, MaxU, Min, MinU}

pub record Entry : Type 0 where
  pub number : ℕ
  pub name : List ℕ
  pub form : Form

abbrev at : ℕ → List ℕ → Form → Entry
at number name form = record { number = number; name = name; form = form }

-- the table of opcodes
unfoldable pub entry : Op → Entry
entry Trap = at 0 (codes "trap") F1
entry Fallthrough = at 1 (codes "fallthrough") F1
entry Ecalli = at 10 (codes "ecalli") F2
entry LoadImm64 = at 20 (codes "load_imm_64") F3
entry StoreImmU8 = at 30 (codes "store_imm_u8") F4
entry StoreImmU16 = at 31 (codes "store_imm_u16") F4
entry StoreImmU32 = at 32 (codes "store_imm_u32") F4
entry StoreImmU64 = at 33 (codes "store_imm_u64") F4
entry Jump = at 40 (codes "jump") F5
entry JumpInd = at 50 (codes "jump_ind") F6
entry LoadImm = at 51 (codes "load_imm") F6
entry LoadU8 = at 52 (codes "load_u8") F6
entry LoadI8 = at 53 (codes "load_i8") F6
entry LoadU16 = at 54 (codes "load_u16") F6
entry LoadI16 = at 55 (codes "load_i16") F6
entry LoadU32 = at 56 (codes "load_u32") F6
entry LoadI32 = at 57 (codes "load_i32") F6
entry LoadU64 = at 58 (codes "load_u64") F6
entry StoreU8 = at 59 (codes "store_u8") F6
entry StoreU16 = at 60 (codes "store_u16") F6
entry StoreU32 = at 61 (codes "store_u32") F6
entry StoreU64 = at 62 (codes "store_u64") F6
entry StoreImmIndU8 = at 70 (codes "store_imm_ind_u8") F7
entry StoreImmIndU16 = at 71 (codes "store_imm_ind_u16") F7
entry StoreImmIndU32 = at 72 (codes "store_imm_ind_u32") F7
entry StoreImmIndU64 = at 73 (codes "store_imm_ind_u64") F7
entry LoadImmJump = at 80 (codes "load_imm_jump") F8
entry BranchEqImm = at 81 (codes "branch_eq_imm") F8
entry BranchNeImm = at 82 (codes "branch_ne_imm") F8
entry BranchLtUImm = at 83 (codes "branch_lt_u_imm") F8
entry BranchLeUImm = at 84 (codes "branch_le_u_imm") F8
entry BranchGeUImm = at 85 (codes "branch_ge_u_imm") F8
entry BranchGtUImm = at 86 (codes "branch_gt_u_imm") F8
entry BranchLtSImm = at 87 (codes "branch_lt_s_imm") F8
entry BranchLeSImm = at 88 (codes "branch_le_s_imm") F8
entry BranchGeSImm = at 89 (codes "branch_ge_s_imm") F8
entry BranchGtSImm = at 90 (codes "branch_gt_s_imm") F8
entry MoveReg = at 100 (codes "move_reg") F9
entry Sbrk = at 101 (codes "sbrk") F9
entry CountSetBits64 = at 102 (codes "count_set_bits_64") F9
entry CountSetBits32 = at 103 (codes "count_set_bits_32") F9
entry LeadingZeroBits64 = at 104 (codes "leading_zero_bits_64") F9
entry LeadingZeroBits32 = at 105 (codes "leading_zero_bits_32") F9
entry TrailingZeroBits64 = at 106 (codes "trailing_zero_bits_64") F9
entry TrailingZeroBits32 = at 107 (codes "trailing_zero_bits_32") F9
entry SignExtend8 = at 108 (codes "sign_extend_8") F9
entry SignExtend16 = at 109 (codes "sign_extend_16") F9
entry ZeroExtend16 = at 110 (codes "zero_extend_16") F9
entry ReverseBytes = at 111 (codes "reverse_bytes") F9
entry StoreIndU8 = at 120 (codes "store_ind_u8") F10
entry StoreIndU16 = at 121 (codes "store_ind_u16") F10
entry StoreIndU32 = at 122 (codes "store_ind_u32") F10
entry StoreIndU64 = at 123 (codes "store_ind_u64") F10
entry LoadIndU8 = at 124 (codes "load_ind_u8") F10
entry LoadIndI8 = at 125 (codes "load_ind_i8") F10
entry LoadIndU16 = at 126 (codes "load_ind_u16") F10
entry LoadIndI16 = at 127 (codes "load_ind_i16") F10
entry LoadIndU32 = at 128 (codes "load_ind_u32") F10
entry LoadIndI32 = at 129 (codes "load_ind_i32") F10
entry LoadIndU64 = at 130 (codes "load_ind_u64") F10
entry AddImm32 = at 131 (codes "add_imm_32") F10
entry AndImm = at 132 (codes "and_imm") F10
entry XorImm = at 133 (codes "xor_imm") F10
entry OrImm = at 134 (codes "or_imm") F10
entry MulImm32 = at 135 (codes "mul_imm_32") F10
entry SetLtUImm = at 136 (codes "set_lt_u_imm") F10
entry SetLtSImm = at 137 (codes "set_lt_s_imm") F10
entry ShloLImm32 = at 138 (codes "shlo_l_imm_32") F10
entry ShloRImm32 = at 139 (codes "shlo_r_imm_32") F10
entry SharRImm32 = at 140 (codes "shar_r_imm_32") F10
entry NegAddImm32 = at 141 (codes "neg_add_imm_32") F10
entry SetGtUImm = at 142 (codes "set_gt_u_imm") F10
entry SetGtSImm = at 143 (codes "set_gt_s_imm") F10
entry ShloLImmAlt32 = at 144 (codes "shlo_l_imm_alt_32") F10
entry ShloRImmAlt32 = at 145 (codes "shlo_r_imm_alt_32") F10
entry SharRImmAlt32 = at 146 (codes "shar_r_imm_alt_32") F10
entry CmovIzImm = at 147 (codes "cmov_iz_imm") F10
entry CmovNzImm = at 148 (codes "cmov_nz_imm") F10
entry AddImm64 = at 149 (codes "add_imm_64") F10
entry MulImm64 = at 150 (codes "mul_imm_64") F10
entry ShloLImm64 = at 151 (codes "shlo_l_imm_64") F10
entry ShloRImm64 = at 152 (codes "shlo_r_imm_64") F10
entry SharRImm64 = at 153 (codes "shar_r_imm_64") F10
entry NegAddImm64 = at 154 (codes "neg_add_imm_64") F10
entry ShloLImmAlt64 = at 155 (codes "shlo_l_imm_alt_64") F10
entry ShloRImmAlt64 = at 156 (codes "shlo_r_imm_alt_64") F10
entry SharRImmAlt64 = at 157 (codes "shar_r_imm_alt_64") F10
entry RotR64Imm = at 158 (codes "rot_r_64_imm") F10
entry RotR64ImmAlt = at 159 (codes "rot_r_64_imm_alt") F10
entry RotR32Imm = at 160 (codes "rot_r_32_imm") F10
entry RotR32ImmAlt = at 161 (codes "rot_r_32_imm_alt") F10
entry BranchEq = at 170 (codes "branch_eq") F11
entry BranchNe = at 171 (codes "branch_ne") F11
entry BranchLtU = at 172 (codes "branch_lt_u") F11
entry BranchLtS = at 173 (codes "branch_lt_s") F11
entry BranchGeU = at 174 (codes "branch_ge_u") F11
entry BranchGeS = at 175 (codes "branch_ge_s") F11
entry LoadImmJumpInd = at 180 (codes "load_imm_jump_ind") F12
entry Add32 = at 190 (codes "add_32") F13
entry Sub32 = at 191 (codes "sub_32") F13
entry Mul32 = at 192 (codes "mul_32") F13
entry DivU32 = at 193 (codes "div_u_32") F13
entry DivS32 = at 194 (codes "div_s_32") F13
entry RemU32 = at 195 (codes "rem_u_32") F13
entry RemS32 = at 196 (codes "rem_s_32") F13
entry ShloL32 = at 197 (codes "shlo_l_32") F13
entry ShloR32 = at 198 (codes "shlo_r_32") F13
entry SharR32 = at 199 (codes "shar_r_32") F13
entry Add64 = at 200 (codes "add_64") F13
entry Sub64 = at 201 (codes "sub_64") F13
entry Mul64 = at 202 (codes "mul_64") F13
entry DivU64 = at 203 (codes "div_u_64") F13
entry DivS64 = at 204 (codes "div_s_64") F13
entry RemU64 = at 205 (codes "rem_u_64") F13
entry RemS64 = at 206 (codes "rem_s_64") F13
entry ShloL64 = at 207 (codes "shlo_l_64") F13
entry ShloR64 = at 208 (codes "shlo_r_64") F13
entry SharR64 = at 209 (codes "shar_r_64") F13
entry And = at 210 (codes "and") F13
entry Xor = at 211 (codes "xor") F13
entry Or = at 212 (codes "or") F13
entry MulUpperSS = at 213 (codes "mul_upper_s_s") F13
entry MulUpperUU = at 214 (codes "mul_upper_u_u") F13
entry MulUpperSU = at 215 (codes "mul_upper_s_u") F13
entry SetLtU = at 216 (codes "set_lt_u") F13
entry SetLtS = at 217 (codes "set_lt_s") F13
entry CmovIz = at 218 (codes "cmov_iz") F13
entry CmovNz = at 219 (codes "cmov_nz") F13
entry RotL64 = at 220 (codes "rot_l_64") F13
entry RotL32 = at 221 (codes "rot_l_32") F13
entry RotR64 = at 222 (codes "rot_r_64") F13
entry RotR32 = at 223 (codes "rot_r_32") F13
entry AndInv = at 224 (codes "and_inv") F13
entry OrInv = at 225 (codes "or_inv") F13
entry Xnor = at 226 (codes "xnor") F13
entry Max = at 227 (codes "max") F13
entry MaxU = at 228 (codes "max_u") F13
entry Min = at 229 (codes "min") F13
entry MinU = at 230 (codes "min_u") F13

-- all opcodes
unfoldable pub all_ops : List Op
all_ops =
    Trap ∷ Fallthrough ∷ Ecalli ∷ LoadImm64 ∷ StoreImmU8 ∷ StoreImmU16 ∷ StoreImmU32 ∷ StoreImmU64 ∷ Jump ∷ JumpInd ∷
    LoadImm ∷ LoadU8 ∷ LoadI8 ∷ LoadU16 ∷ LoadI16 ∷ LoadU32 ∷ LoadI32 ∷ LoadU64 ∷ StoreU8 ∷ StoreU16 ∷ StoreU32 ∷
    StoreU64 ∷ StoreImmIndU8 ∷ StoreImmIndU16 ∷ StoreImmIndU32 ∷ StoreImmIndU64 ∷ LoadImmJump ∷ BranchEqImm ∷
    BranchNeImm ∷ BranchLtUImm ∷ BranchLeUImm ∷ BranchGeUImm ∷ BranchGtUImm ∷ BranchLtSImm ∷ BranchLeSImm ∷
    BranchGeSImm ∷ BranchGtSImm ∷ MoveReg ∷ Sbrk ∷ CountSetBits64 ∷ CountSetBits32 ∷ LeadingZeroBits64 ∷
    LeadingZeroBits32 ∷ TrailingZeroBits64 ∷ TrailingZeroBits32 ∷ SignExtend8 ∷ SignExtend16 ∷ ZeroExtend16 ∷
    ReverseBytes ∷ StoreIndU8 ∷ StoreIndU16 ∷ StoreIndU32 ∷ StoreIndU64 ∷ LoadIndU8 ∷ LoadIndI8 ∷ LoadIndU16 ∷
    LoadIndI16 ∷ LoadIndU32 ∷ LoadIndI32 ∷ LoadIndU64 ∷ AddImm32 ∷ AndImm ∷ XorImm ∷ OrImm ∷ MulImm32 ∷ SetLtUImm ∷
    SetLtSImm ∷ ShloLImm32 ∷ ShloRImm32 ∷ SharRImm32 ∷ NegAddImm32 ∷ SetGtUImm ∷ SetGtSImm ∷ ShloLImmAlt32 ∷
    ShloRImmAlt32 ∷ SharRImmAlt32 ∷ CmovIzImm ∷ CmovNzImm ∷ AddImm64 ∷ MulImm64 ∷ ShloLImm64 ∷ ShloRImm64 ∷
    SharRImm64 ∷ NegAddImm64 ∷ ShloLImmAlt64 ∷ ShloRImmAlt64 ∷ SharRImmAlt64 ∷ RotR64Imm ∷ RotR64ImmAlt ∷ RotR32Imm ∷
    RotR32ImmAlt ∷ BranchEq ∷ BranchNe ∷ BranchLtU ∷ BranchLtS ∷ BranchGeU ∷ BranchGeS ∷ LoadImmJumpInd ∷ Add32 ∷
    Sub32 ∷ Mul32 ∷ DivU32 ∷ DivS32 ∷ RemU32 ∷ RemS32 ∷ ShloL32 ∷ ShloR32 ∷ SharR32 ∷ Add64 ∷ Sub64 ∷ Mul64 ∷
    DivU64 ∷ DivS64 ∷ RemU64 ∷ RemS64 ∷ ShloL64 ∷ ShloR64 ∷ SharR64 ∷ And ∷ Xor ∷ Or ∷ MulUpperSS ∷ MulUpperUU ∷
    MulUpperSU ∷ SetLtU ∷ SetLtS ∷ CmovIz ∷ CmovNz ∷ RotL64 ∷ RotL32 ∷ RotR64 ∷ RotR32 ∷ AndInv ∷ OrInv ∷ Xnor ∷
    Max ∷ MaxU ∷ Min ∷ MinU ∷ []

abbrev pub number_of : Op → ℕ
number_of op = (entry op).number

abbrev pub name_of : Op → List ℕ
name_of op = (entry op).name

abbrev pub form_of : Op → Form
form_of op = (entry op).form

-- the opcode with a number, if there is one
unfoldable pub op_numbered : ℕ → Option Op
op_numbered n = find (λ op. number_of op == n) all_ops

-- the opcode with a name, if there is one
unfoldable pub op_with_name : List ℕ → Option Op
op_with_name name = find (λ op. bytes_eq (name_of op) name) all_ops
