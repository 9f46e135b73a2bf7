-- What an effect leaves as it was.
use Rattle.std.proofs.Common.{◌≡◌, ◌≢◌, ℕ, zero, suc, ◌+◌, ◌/◌, ◌%◌, ◌^◌, ◌⊎◌, inl, inr, Bool, true, false, List, get_or, replicate, ap, sym, ◌∙◌, refl, arith, Option, Some, None, Result, Ok, Err}
use Rattle.std.specs.Prelude.{Contains, nat_lt, ◌==◌, if◌then◌else◌, slice_set}
use Rattle.std.specs.FinMap as fin
use Rattle.std.proofs.lemmas.Bool.{cases_lt}
use Rattle.std.proofs.lemmas.List.{get_or-set_other}
use Rattle.pvm_isa.specs.declared.op.Op.{Op}
use Rattle.blob_decode.specs.Program.{Program, Landing, to, halts, nowhere, jump_to, jump_through}
use Rattle.page_rights.specs.declared.rights.Rights.TheVariants as may
use Rattle.paged_memory.specs.declared.access.Access.{Access}
use Rattle.byte_numbers.specs.Numbers.{little_endian}
use Rattle.paged_memory.specs.PageMap.{Memory, Page, Write, byte, byte_in, page_of, addresses, blank, put_in, put_byte, put_bytes, lift_in, lift_page, lift_pages, loaded, refusal}
use Rattle.pvm_step.proofs.Pages.{inserted_there, inserted_other}
use Rattle.pvm_alu.specs.Alu.{loaded_bytes, widen}
use Rattle.pvm_step.specs.Effect.{MachineState, Act, Nothing, Exits, Sets, Loads, Stores, Jumps, Branches, JumpsThrough, SetsAndJumps, SetsAndJumpsThrough, Moves, Grows, after, value_in, with_register, lands, loads, stores, grown, goes, pages_touched}
use Rattle.pvm_step.specs.Named.{register_of, stored_by, changes_memory}

-- ---- Registers

other : (s : MachineState) (r v q : ℕ) → (Some r ≡ Some q → ⊥) → value_in (with_register s r v) q ≡ value_in s q
other s r v q h = get_or-set_other s.registers r q v 0 (λ (e : q ≡ r). h (ap (λ (n : ℕ). Some n) (sym e)))

landed-registers : (s : MachineState) (l : Landing) → (lands s l).state.registers ≡ s.registers
landed-registers s (to place) = refl
landed-registers s halts = refl
landed-registers s nowhere = refl

loads-other : (p : Program) (s : MachineState) (r q : ℕ) (op : Op) (x : Result ℕ Access) → (Some r ≡ Some q → ⊥) → value_in (loads p s r op x).state q ≡ value_in s q
loads-other p s r q op (Ok raw) h = other s r (widen op raw) q h
loads-other p s r q op (Err access) h = refl

stores-registers : (p : Program) (s : MachineState) (m : Memory) (o : Option Access) → (stores p s m o).state.registers ≡ s.registers
stores-registers p s m None = refl
stores-registers p s m (Some access) = refl

branch-registers : (b : Bool) (s : MachineState) (l : Landing) (place : ℕ) → (if b then lands s l else goes s place).state.registers ≡ s.registers
branch-registers true s l place = landed-registers s l
branch-registers false s l place = refl

moves-other : (b : Bool) (s : MachineState) (r v q : ℕ) → (Some r ≡ Some q → ⊥) → value_in (if b then with_register s r v else s) q ≡ value_in s q
moves-other true s r v q h = other s r v q h
moves-other false s r v q h = refl

grows-other : (b c : Bool) (s : MachineState) (r v amount q : ℕ) → (Some r ≡ Some q → ⊥) → value_in (if b then with_register s r v else if c then with_register s r 0 else with_register (grown s amount) r v) q ≡ value_in s q
grows-other true c s r v amount q h = other s r v q h
grows-other false true s r v amount q h = other s r 0 q h
grows-other false false s r v amount q h = other (grown s amount) r v q h

pub leaves-registers : (p : Program) (s : MachineState) (act : Act) (q : ℕ) → (register_of act ≡ Some q → ⊥) → value_in (after p s act).state q ≡ value_in s q
unfolding after
leaves-registers p s Nothing q h = refl
leaves-registers p s (Exits exit) q h = refl
leaves-registers p s (Sets r v) q h = other s r v q h
leaves-registers p s (Loads r op from) q h = loads-other p s r q op (loaded s.memory from (loaded_bytes op)) h
leaves-registers p s (Stores width from v) q h = ap (λ (xs : List ℕ). get_or xs q 0) (stores-registers p s (put_bytes s.memory from (little_endian width v)) (refusal s.memory may.Write from width))
leaves-registers p s (Jumps target) q h = ap (λ (xs : List ℕ). get_or xs q 0) (landed-registers s (jump_to p target))
leaves-registers p s (Branches taken target) q h = ap (λ (xs : List ℕ). get_or xs q 0) (branch-registers taken s (jump_to p target) _)
leaves-registers p s (JumpsThrough through) q h = ap (λ (xs : List ℕ). get_or xs q 0) (landed-registers s (jump_through p through))
leaves-registers p s (SetsAndJumps r v target) q h = ap (λ (xs : List ℕ). get_or xs q 0) (landed-registers (with_register s r v) (jump_to p target)) ∙ other s r v q h
leaves-registers p s (SetsAndJumpsThrough r v through) q h = ap (λ (xs : List ℕ). get_or xs q 0) (landed-registers (with_register s r v) (jump_through p through)) ∙ other s r v q h
leaves-registers p s (Moves holds r v) q h = moves-other holds s r v q h
leaves-registers p s (Grows r amount) q h = grows-other (amount == 0) (nat_lt s.heap.end (s.heap.next + amount)) s r s.heap.next amount q h

-- ---- The memory

landed-memory : (s : MachineState) (l : Landing) → (lands s l).state.memory ≡ s.memory
landed-memory s (to place) = refl
landed-memory s halts = refl
landed-memory s nowhere = refl

loads-memory : (p : Program) (s : MachineState) (r : ℕ) (op : Op) (x : Result ℕ Access) → (loads p s r op x).state.memory ≡ s.memory
loads-memory p s r op (Ok raw) = refl
loads-memory p s r op (Err access) = refl

branch-memory : (b : Bool) (s : MachineState) (l : Landing) (place : ℕ) → (if b then lands s l else goes s place).state.memory ≡ s.memory
branch-memory true s l place = landed-memory s l
branch-memory false s l place = refl

moves-memory : (b : Bool) (s : MachineState) (r v : ℕ) → (if b then with_register s r v else s).memory ≡ s.memory
moves-memory true s r v = refl
moves-memory false s r v = refl

pub leaves-memory : (p : Program) (s : MachineState) (act : Act) → changes_memory act ≡ false → (after p s act).state.memory ≡ s.memory
unfolding after
leaves-memory p s Nothing h = refl
leaves-memory p s (Exits exit) h = refl
leaves-memory p s (Sets r v) h = refl
leaves-memory p s (Loads r op from) h = loads-memory p s r op (loaded s.memory from (loaded_bytes op))
leaves-memory p s (Stores width from v) h = absurd (cc h)
leaves-memory p s (Jumps target) h = landed-memory s (jump_to p target)
leaves-memory p s (Branches taken target) h = branch-memory taken s (jump_to p target) _
leaves-memory p s (JumpsThrough through) h = landed-memory s (jump_through p through)
leaves-memory p s (SetsAndJumps r v target) h = landed-memory (with_register s r v) (jump_to p target)
leaves-memory p s (SetsAndJumpsThrough r v through) h = landed-memory (with_register s r v) (jump_through p through)
leaves-memory p s (Moves holds r v) h = moves-memory holds s r v
leaves-memory p s (Grows r amount) h = absurd (cc h)

-- ---- Bytes

byte-in_other : (m : Memory) (a b q : ℕ) (page : Page) → fin.get m (page_of a) ≡ Some page → q ≢ a
    → ((page_of q ≡ page_of a) ⊎ (page_of q ≢ page_of a)) → byte (put_in m a (Some page) b) q ≡ byte m q
byte-in_other m a b q page is apart (inl same) =
    let new : Page = record page { bytes = slice_set page.bytes (a % 4096) b } in
    let apart_in : q % 4096 ≢ a % 4096 = λ e. apart (omega arith) in
    ap (λ (k : ℕ). byte_in (fin.get (fin.insert m (page_of a) new) k) (q % 4096)) same
    ∙ ap (λ (o : Option Page). byte_in o (q % 4096)) (inserted_there m (page_of a) new)
    ∙ get_or-set_other page.bytes (a % 4096) (q % 4096) b 0 apart_in
    ∙ ap (λ (o : Option Page). byte_in o (q % 4096)) (sym is)
    ∙ ap (λ (k : ℕ). byte_in (fin.get m k) (q % 4096)) (sym same)
byte-in_other m a b q page is apart (inr far) =
    ap (λ (o : Option Page). byte_in o (q % 4096)) (inserted_other m (page_of a) (record page { bytes = slice_set page.bytes (a % 4096) b }) (page_of q) far)

same_or_not : (x y : ℕ) → (x ≡ y) ⊎ (x ≢ y)
same_or_not x y = elim (cases_lt x y) [ inl less ↦ inr (λ e. omega arith) | inr more ↦ elim (cases_lt y x) [ inl greater ↦ inr (λ e. omega arith) | inr less ↦ inl (omega arith) ] ]

byte-put_byte : (m : Memory) (a b q : ℕ) → q ≢ a → byte (put_byte m a b) q ≡ byte m q
byte-put_byte m a b q apart = elim (fin.get m (page_of a)) as (λ (o : Option Page). fin.get m (page_of a) ≡ o → byte (put_in m a o b) q ≡ byte m q) [
  | None ↦ λ e. refl
  | Some page ↦ λ e. byte-in_other m a b q page e apart (same_or_not (page_of q) (page_of a))
] refl

pub byte-put_bytes : (width : ℕ) (m : Memory) (from v q : ℕ) → (Contains (addresses from width) q → ⊥) → byte (put_bytes m from (little_endian width v)) q ≡ byte m q
unfolding put_bytes little_endian addresses
byte-put_bytes zero m from v q h = refl
byte-put_bytes (suc n) m from v q h =
    byte-put_bytes n (put_byte m (from % 2 ^ 32) (v % 256)) (from + 1) (v / 256) q (λ in_rest. h (suc in_rest.0, omega (arith, in_rest.1), in_rest.2))
    ∙ byte-put_byte m (from % 2 ^ 32) (v % 256) q (λ e. h (zero, omega arith, sym e))

zeros : (n i : ℕ) → get_or {A = ℕ} (replicate n 0) i 0 ≡ zero
zeros zero i = refl
zeros (suc n) zero = refl
zeros (suc n) (suc i) = zeros n i

blank-zero : (i : ℕ) → get_or blank i 0 ≡ zero
unfolding blank
blank-zero i = zeros 4096 i

byte-lift_page : (m : Memory) (k q : ℕ) → byte (lift_page m k) q ≡ byte m q
byte-lift_page m k q = elim (fin.get m k) as (λ (o : Option Page). fin.get m k ≡ o → byte (lift_in m k o) q ≡ byte m q) [
  | Some page ↦ λ e. refl
  | None ↦ λ e. elim (same_or_not (page_of q) k) [
    | inl same ↦ ap (λ (j : ℕ). byte_in (fin.get (fin.insert m k (record { right = Write; bytes = blank })) j) (q % 4096)) same
        ∙ ap (λ (o : Option Page). byte_in o (q % 4096)) (inserted_there m k (record { right = Write; bytes = blank }))
        ∙ blank-zero (q % 4096)
        ∙ ap (λ (o : Option Page). byte_in o (q % 4096)) (sym e)
        ∙ ap (λ (j : ℕ). byte_in (fin.get m j) (q % 4096)) (sym same)
    | inr far ↦ ap (λ (o : Option Page). byte_in o (q % 4096)) (inserted_other m k (record { right = Write; bytes = blank }) (page_of q) far)
  ]
] refl

byte-lift_pages : (count : ℕ) (m : Memory) (first q : ℕ) → byte (lift_pages m first count) q ≡ byte m q
unfolding lift_pages
byte-lift_pages zero m first q = refl
byte-lift_pages (suc n) m first q = byte-lift_pages n (lift_page m first) (first + 1) q ∙ byte-lift_page m first q

stores-bytes : (p : Program) (s : MachineState) (width from v q : ℕ) (o : Option Access) → (Contains (addresses from width) q → ⊥)
    → byte (stores p s (put_bytes s.memory from (little_endian width v)) o).state.memory q ≡ byte s.memory q
stores-bytes p s width from v q None h = byte-put_bytes width s.memory from v q h
stores-bytes p s width from v q (Some access) h = refl

grows-bytes : (b c : Bool) (s : MachineState) (r v amount q : ℕ) → byte (if b then with_register s r v else if c then with_register s r 0 else with_register (grown s amount) r v).memory q ≡ byte s.memory q
grows-bytes true c s r v amount q = refl
grows-bytes false true s r v amount q = refl
grows-bytes false false s r v amount q = byte-lift_pages (pages_touched s.heap.next (s.heap.next + amount)) s.memory (page_of s.heap.next) q

stored-bytes : (p : Program) (s : MachineState) (width from v q : ℕ) → (Contains (addresses from width) q → ⊥) → byte (after p s (Stores width from v)).state.memory q ≡ byte s.memory q
unfolding after
stored-bytes p s width from v q h = stores-bytes p s width from v q (refusal s.memory may.Write from width) h

grown-bytes : (p : Program) (s : MachineState) (r amount q : ℕ) → byte (after p s (Grows r amount)).state.memory q ≡ byte s.memory q
unfolding after
grown-bytes p s r amount q = grows-bytes (amount == 0) (nat_lt s.heap.end (s.heap.next + amount)) s r s.heap.next amount q

same-bytes : (m n : Memory) (q : ℕ) → m ≡ n → byte m q ≡ byte n q
same-bytes m n q e = ap (λ (k : Memory). byte k q) e

pub leaves-bytes : (p : Program) (s : MachineState) (act : Act) (q : ℕ) → (Contains (stored_by act) q → ⊥) → byte (after p s act).state.memory q ≡ byte s.memory q
leaves-bytes p s Nothing q h = same-bytes _ _ q (leaves-memory p s Nothing refl)
leaves-bytes p s (Exits exit) q h = same-bytes _ _ q (leaves-memory p s (Exits exit) refl)
leaves-bytes p s (Sets r v) q h = same-bytes _ _ q (leaves-memory p s (Sets r v) refl)
leaves-bytes p s (Loads r op from) q h = same-bytes _ _ q (leaves-memory p s (Loads r op from) refl)
leaves-bytes p s (Stores width from v) q h = stored-bytes p s width from v q h
leaves-bytes p s (Jumps target) q h = same-bytes _ _ q (leaves-memory p s (Jumps target) refl)
leaves-bytes p s (Branches taken target) q h = same-bytes _ _ q (leaves-memory p s (Branches taken target) refl)
leaves-bytes p s (JumpsThrough through) q h = same-bytes _ _ q (leaves-memory p s (JumpsThrough through) refl)
leaves-bytes p s (SetsAndJumps r v target) q h = same-bytes _ _ q (leaves-memory p s (SetsAndJumps r v target) refl)
leaves-bytes p s (SetsAndJumpsThrough r v through) q h = same-bytes _ _ q (leaves-memory p s (SetsAndJumpsThrough r v through) refl)
leaves-bytes p s (Moves holds r v) q h = same-bytes _ _ q (leaves-memory p s (Moves holds r v) refl)
leaves-bytes p s (Grows r amount) q h = grown-bytes p s r amount q
