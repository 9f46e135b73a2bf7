-- How many bytes an instruction has.
use Rattle.std.proofs.Common.{◌≡◌, ◌+◌, ◌/◌, ℕ, zero, suc, List, ◌++◌, length, refl, ap, arith, length-append}
use Rattle.byte_numbers.specs.Numbers.{little_endian}
use Rattle.pvm_isa.specs.declared.form.Form.{Form}
use Rattle.pvm_isa.specs.declared.form.Form.TheVariants.{F1, F2, F3, F4, F5, F6, F7, F8, F9, F10, F11, F12, F13}
use Rattle.pvm_isa.specs.Opcodes.{form_of}
use Rattle.pvm_asm.specs.Numbers.{least_bytes, word_of}
use Rattle.pvm_asm.specs.Labels.{Labels}
use Rattle.pvm_asm.specs.Assembly.{between, x_bytes, x_size, immediate_bytes, target_bytes, target_size, instruction_bytes, instruction_size}
use Rattle.pvm_asm.specs.declared.numeral.Numeral.{Numeral}
use Rattle.pvm_asm.specs.declared.instruction.Target.{Target}
use Rattle.pvm_asm.specs.declared.instruction.Target.TheVariants.{Absent, Label, Place, Offset}
use Rattle.pvm_asm.specs.declared.instruction.Instruction.{Instruction}

low_length : (n x : ℕ) → length (little_endian n x) ≡ n
unfolding little_endian
low_length zero x = refl
low_length (suc n) x = ap suc (low_length n (x / 256))

x_length : (form : Form) (x : Numeral) → length (x_bytes form x) ≡ x_size form x
x_length F3 x = low_length 8 (word_of x)
x_length F1 x = low_length (least_bytes x) (word_of x)
x_length F2 x = low_length (least_bytes x) (word_of x)
x_length F4 x = low_length (least_bytes x) (word_of x)
x_length F5 x = low_length (least_bytes x) (word_of x)
x_length F6 x = low_length (least_bytes x) (word_of x)
x_length F7 x = low_length (least_bytes x) (word_of x)
x_length F8 x = low_length (least_bytes x) (word_of x)
x_length F9 x = low_length (least_bytes x) (word_of x)
x_length F10 x = low_length (least_bytes x) (word_of x)
x_length F11 x = low_length (least_bytes x) (word_of x)
x_length F12 x = low_length (least_bytes x) (word_of x)
x_length F13 x = low_length (least_bytes x) (word_of x)

target_length : (labels : Labels) (place : ℕ) (target : Target) → length (target_bytes labels place target) ≡ target_size target
target_length labels place Absent = refl
target_length labels place (Label name) = low_length 4 _
target_length labels place (Place n) = low_length 4 _
target_length labels place (Offset n) = low_length (least_bytes n) (word_of n)

pub instruction_length : (labels : Labels) (place : ℕ) (i : Instruction) → length (instruction_bytes labels place i) ≡ instruction_size i
instruction_length labels place i =
    let form : Form = form_of i.op in
    let front : List ℕ = between form i in
    let x : List ℕ = x_bytes form i.x in
    let y : List ℕ = immediate_bytes i.y in
    let target : List ℕ = target_bytes labels place i.target in
    let a : length (front ++ (x ++ (y ++ target))) ≡ length front + length (x ++ (y ++ target)) = length-append front (x ++ (y ++ target)) in
    let b : length (x ++ (y ++ target)) ≡ length x + length (y ++ target) = length-append x (y ++ target) in
    let c : length (y ++ target) ≡ length y + length target = length-append y target in
    let d : length x ≡ x_size form i.x = x_length form i.x in
    let e : length y ≡ least_bytes i.y = low_length (least_bytes i.y) (word_of i.y) in
    let f : length target ≡ target_size i.target = target_length labels place i.target in
    omega arith
