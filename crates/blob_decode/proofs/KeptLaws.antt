-- What the kept bytes say of the program.
use Rattle.std.proofs.Common.{◌≡◌, ℕ, ◌*◌, ◌/◌, ◌%◌, ◌^◌, ◌+◌, ◌-◌, ◌<◌, ◌≤◌, zero, suc, true, false, Bool, List, length, take, drop, get_or, slice_get, nat_lt, Option, Some, None, Ok, Err, Result, inl, inr, arith, refl, ap, sym, subst, ◌∙◌}
use Rattle.std.specs.Prelude.{◌==◌, if◌then◌else◌, is_some, unwrap_or}
use Rattle.std.proofs.lemmas.Bool.{cases_lt, le-ltb, lt-ltb}
use Rattle.std.proofs.lemmas.List.{get_or_past}
use Rattle.byte_numbers.specs.Numbers.{little_endian, little_number, numbers, AreBytes}
use Rattle.jam_codec.specs.Spelling.{binary_number, binary_digits, bytes_for, packed}
use Rattle.jam_codec.specs.Reading.{Reading, Reads, Refuses, bytes_at, past}
use Rattle.jam_codec.specs.Format.{Format, numbers_of}
use Rattle.jam_codec.specs.BitLaws.{length-binary_digits, length-packed, binary_digits-of_bytes, binary_number-below, binary_number-fits}
use Rattle.byte_numbers.specs.NumberLaws.{numbers-get, little_number-little_endian}
use Rattle.jam_codec.specs.FormatLaws.{items_at-numbers_front, items_at-missing}
use Rattle.pvm_isa.specs.declared.op.Op.{Op}
use Rattle.pvm_isa.specs.declared.op.Op.TheVariants.{Trap}
use Rattle.pvm_isa.specs.Opcodes.{op_numbered}
use Rattle.blob_decode.specs.Program.{Program, mask_bit, op_at, skip}
use Rattle.pvm_isa.specs.Arguments.{code_byte}
use Rattle.blob_decode.specs.Kept.{program_of, AreParts}
use Rattle.blob_decode.proofs.Starts.{gap-here}

pub mask_bit-kept : (count width : ℕ) (table code mask : List ℕ) (i : ℕ) → AreParts count width table code mask → i < length code → mask_bit (program_of count width table code mask) i ≡ (get_or mask (i / 8) 0 / 2 ^ (i % 8) % 2 == 1)
mask_bit-kept count width table code mask i keeps within =
    binary_digits-of_bytes mask (length code) i true keeps.bytes (omega (arith, keeps.bits)) within

pub mask_bit-past : (count width : ℕ) (table code mask : List ℕ) (i : ℕ) → length code ≤ i → mask_bit (program_of count width table code mask) i ≡ true
mask_bit-past count width table code mask i past =
    get_or_past (binary_digits (length code) (little_number mask)) i true (omega (arith, length-binary_digits (length code) (little_number mask)))

-- an entry of the jump table, in the bytes of the table
pub jump-kept : (count width k w x : ℕ) (table slice : List ℕ) → k < count → w ≡ width → slice ≡ table → x ≡ little_number (take (k * w + w - k * w) (drop (k * w) slice)) → Some x ≡ slice_get (numbers width count table) k
jump-kept count width k w x table slice within wide same e =
    let size : k * w + w - k * w ≡ w = omega arith in
    let bytes : take (k * w + w - k * w) (drop (k * w) slice) ≡ take width (drop (k * width) table) = rw (size, wide, same) refl in
    ap Some (e ∙ ap little_number bytes) ∙ sym (numbers-get width count k table within)

-- what the program says, the kept bytes say
pub skip-past : (count width : ℕ) (table code mask : List ℕ) (pc : ℕ) → length code ≤ pc → skip (program_of count width table code mask) pc ≡ 0
skip-past count width table code mask pc past =
    gap-here (program_of count width table code mask) (pc + 1) 24 (mask_bit-past count width table code mask (pc + 1) (omega arith))

-- what was read keeps to it
AreBytes-little_endian : (n x : ℕ) → AreBytes (little_endian n x)
unfolding little_endian
AreBytes-little_endian zero x k = omega arith
AreBytes-little_endian (suc n) x zero = omega arith
AreBytes-little_endian (suc n) x (suc k) = AreBytes-little_endian n (x / 256) k

packed-below : (bits : List Bool) → little_number (packed bits) < 2 ^ length bits
packed-below bits =
    omega (arith, little_number-little_endian (bytes_for (length bits)) (binary_number bits) (binary_number-fits bits), binary_number-below bits)

pub AreParts-read : (count width size : ℕ) (table code mask : List ℕ) → count < 2 ^ 64 → width ≤ 8 → length table ≡ count * width → length code ≡ size → mask ≡ packed (binary_digits size (little_number mask)) → AreParts count width table code mask
AreParts-read count width size table code mask counted narrow jumps sized packs =
    let bits : List Bool = binary_digits size (little_number mask) in
    let many : length bits ≡ length code = length-binary_digits size (little_number mask) ∙ sym sized in
    record {
      counted = counted;
      narrow = narrow;
      jumps = jumps;
      bits = ap length packs ∙ length-packed bits ∙ ap bytes_for many;
      spare = omega (arith, ap little_number packs, packed-below bits, ap (λ (n : ℕ). 2 ^ n) many);
      bytes = subst AreBytes (sym packs) (AreBytes-little_endian (bytes_for (length bits)) (binary_number bits));
    }

-- bytes that are there are not refused
not-refused : {A : Type 0} → (place : Option ℕ) (f : Format A) (r : Reading) (size : ℕ) → size ≤ length r.rest → Refuses place (bytes_at size r) → Refuses place (f.read r)
unfolding bytes_at
not-refused None f r size enough is = tt
not-refused (Some place) f r size enough is =
    let long : nat_lt (length r.rest) size ≡ false = le-ltb (length r.rest) size enough in
    let found : Result (List ℕ × Reading) ℕ = Ok (take size r.rest, past size r) in
    let here : found ≡ Err place = rw long at is in
    absurd (cc here)

-- the jumps, read as their bytes
pub Reads-numbers : {X E : Type 0} → (place : E → Option ℕ) (now : X → List ℕ) (result : Result X E) (new r : Reading) (width n size : ℕ) → size ≡ n * width → size ≤ length r.rest → Reads place now result new (bytes_at size r) → Reads place (λ x. numbers width n (now x)) result new ((numbers_of width n).read r)
unfolding bytes_at
Reads-numbers place now (Ok x) new r width n size sized enough is =
    let long : nat_lt (length r.rest) size ≡ false = le-ltb (length r.rest) size enough in
    let found : Result (List ℕ × Reading) ℕ = Ok (take size r.rest, past size r) in
    let here : found ≡ Ok (now x, new) = rw long at is in
    let same : (let p : List ℕ × Reading = (take size r.rest, past size r) in p) ≡ (now x, new) = cc in
    let at : ℕ → Result (List ℕ × Reading) ℕ = λ k. Ok (numbers width n (take k r.rest), past k r) in
    let of : List ℕ × Reading → Result (List ℕ × Reading) ℕ = λ q. Ok (numbers width n q.0, q.1) in
    items_at-numbers_front width n None r (omega arith) ∙ ap at (sym sized) ∙ ap of same
Reads-numbers place now (Err e) new r width n size sized enough is = not-refused (place e) (numbers_of width n) r size enough is

-- some bytes of the jumps are missing
pub numbers-missing : (width n left w begin place : ℕ) (r : Reading) → length r.rest < n * width → left ≡ length r.rest → w ≡ width → begin ≡ r.place → place ≡ begin + left / w * w → (numbers_of width n).read r ≡ Err place
numbers-missing width n left w begin place r short many same front e =
    let at : r.place + length r.rest / width * width ≡ place = sym (e ∙ (rw (many, same, front) refl)) in
    items_at-missing width n None r short ∙ ap (λ (k : ℕ). Err k) at

-- the opcode that acts at a place within the code
some_or : (found : Option Op) → unwrap_or found Trap ≡ (if is_some found then unwrap_or found Trap else Trap)
some_or None = refl
some_or (Some op) = refl

pub op_at-begun : (p : Program) (i byte : ℕ) → i < length p.code → mask_bit p i ≡ true → byte ≡ code_byte p.code i → unwrap_or (op_numbered byte) Trap ≡ op_at p i
unfolding op_at
op_at-begun p i byte within begins is =
    let inside : nat_lt i (length p.code) ≡ true = lt-ltb i (length p.code) within in
    rw (inside, begins, is) (some_or (op_numbered (code_byte p.code i)))

pub op_at-none : (p : Program) (i : ℕ) → mask_bit p i ≡ false → Trap ≡ op_at p i
unfolding op_at
op_at-none p i none =
    elim (cases_lt i (length p.code)) [
      | inl less ↦ let inside : nat_lt i (length p.code) ≡ true = lt-ltb i (length p.code) less in rw (inside, none) refl
      | inr more ↦ let outside : nat_lt i (length p.code) ≡ false = le-ltb i (length p.code) more in rw outside refl
    ]
