-- The code's table of opcodes is that of the definitions.
use Rattle.std.proofs.Common.{◌≡◌, ◌≢◌, ◌⊎◌, ℕ, zero, suc, ◌<◌, Bool, true, false, ◌&&◌, ◌||◌, get_or, Option, Some, None, MatchOption, refl, arith, inl, inr, sym, ◌∙◌, ap}
use Rattle.std.specs.Prelude.{◌==◌, unwrap_or}
use Rattle.std.proofs.lemmas.Bool.{cases_eq, eqb-true, or_cases}
use Rattle.pvm_isa.specs.declared.opcodes.TheConstants.{OPCODES}
use Rattle.pvm_isa.specs.declared.form.Form.{Form}
use Rattle.pvm_isa.specs.declared.form.Form.TheVariants.{F1}
use Rattle.pvm_isa.specs.declared.op.Op.{Op}
use Rattle.pvm_isa.specs.declared.op.Op.TheVariants.{Trap}
use Rattle.pvm_isa.specs.Opcodes.{entry, number_of, form_of, op_numbered}
use Rattle.pvm_isa.specs.OpcodeLaws.{numbered, numbered-only, number_of-injective}

abbrev pub Row : Type 0
Row = Op × Form

abbrev pub row : ℕ → Row
row n = get_or OPCODES n (Trap, F1)

-- each opcode stands at its number, with its form
pub listed : (op : Op) → row (number_of op) ≡ (op, form_of op)
unfolding entry
listed Trap = refl
listed _ = refl

-- a row of the table has its place as its opcode's number, or the opcode 0
is_own : ℕ → ℕ → Bool
is_own n number = number == n || number == 0

all_own : ℕ → Bool
all_own zero = true
all_own (suc n) = is_own n (number_of (row n).0) && all_own n

-- computed over the whole table
table_is_own : all_own 256 ≡ true
unfolding all_own is_own entry
table_is_own = refl

both_true : (a b : Bool) → (a && b) ≡ true → (a ≡ true) × (b ≡ true)
both_true true b h = (refl, h)
both_true false b h = cc

own_at : (n : ℕ) → all_own n ≡ true → (k : ℕ) → k < n → is_own k (number_of (row k).0) ≡ true
unfolding all_own
own_at zero h k lt = absurd (omega arith)
own_at (suc n) h k lt =
    let parts : (is_own n (number_of (row n).0) ≡ true) × (all_own n ≡ true) = both_true (is_own n (number_of (row n).0)) (all_own n) h in
    elim (cases_eq k n) [ inl same ↦ rw same parts.0 | inr other ↦ own_at n parts.1 k (omega arith) ]

own_or_zero : (n number : ℕ) → is_own n number ≡ true → (number ≡ n) ⊎ (number ≡ 0)
unfolding is_own
own_or_zero n number h = elim (or_cases (number == n) (number == 0) h) [
  | inl own ↦ inl (eqb-true number n own)
  | inr none ↦ inr (eqb-true number 0 none)
]

zero-Trap : (op : Op) → number_of op ≡ 0 → op ≡ Trap
unfolding entry
zero-Trap op none = number_of-injective op Trap none

by_found : (n : ℕ) (found : Option Op) → op_numbered n ≡ found → n < 256 → (row n).0 ≡ unwrap_or found Trap
by_found n (Some op) e below = ap (λ (k : ℕ). (row k).0) (sym (numbered-only n op e)) ∙ ap (λ (r : Row). r.0) (listed op)
by_found n None e below = elim (own_or_zero n (number_of (row n).0) (own_at 256 table_is_own n below)) [
  | inl own ↦
      let found : op_numbered n ≡ Some (row n).0 = ap op_numbered (sym own) ∙ numbered (row n).0 in
      absurd (cc (e, found))
  | inr none ↦ zero-Trap (row n).0 none
]

-- a row's opcode is the one with that number, and trap where none has it
pub row-numbered : (n : ℕ) → n < 256 → (row n).0 ≡ unwrap_or (op_numbered n) Trap
row-numbered n below = by_found n (op_numbered n) refl below

-- where the opcode or trap has the number, it is the one with the number; else none has it
pub own-numbered : (n : ℕ) (found : Option Op) (op : Op) → op_numbered n ≡ found → op ≡ unwrap_or found Trap → number_of op ≡ n → Some op ≡ found
unfolding entry
own-numbered n (Some o) op e is own = ap Some is
own-numbered n None op e is own =
    let zero_is : n ≡ 0 = sym own ∙ ap number_of is in
    let found : op_numbered n ≡ Some Trap = ap op_numbered zero_is ∙ numbered Trap in
    absurd (cc (e, found))

pub other-unnumbered : (n : ℕ) (found : Option Op) (op : Op) → op_numbered n ≡ found → op ≡ unwrap_or found Trap → number_of op ≢ n → None ≡ found
other-unnumbered n (Some o) op e is other = absurd (other (ap number_of is ∙ numbered-only n o e))
other-unnumbered n None op e is other = refl

-- the opcode found is the one with the number, and where none is found none has it
pub numbered-Defined : (n : ℕ) (found : Option Op) → found ≡ op_numbered n → MatchOption found ((op : Op) → number_of op ≢ n) (λ op. number_of op ≡ n)
numbered-Defined n None e = λ op same. let listed : op_numbered n ≡ Some op = ap op_numbered (sym same) ∙ numbered op in absurd (cc)
numbered-Defined n (Some op) e = numbered-only n op (sym e)
