-- The opcode of a name.
use Rattle.std.proofs.Common.{◌≡◌, ◌≢◌, ℕ, List, Option, Some, None, MatchOption, refl, sym, ap, ◌∙◌}
use Rattle.pvm_isa.specs.declared.op.Op.{Op}
use Rattle.pvm_isa.specs.Opcodes.{name_of, op_with_name}

pub op_found : ((op : Op) → op_with_name (name_of op) ≡ Some op) → ((name : List ℕ) (op : Op) → op_with_name name ≡ Some op → name_of op ≡ name)
    → (name : List ℕ) (r : Option Op) → MatchOption r ((op : Op) → name_of op ≢ name) (λ op. name_of op ≡ name) → r ≡ op_with_name name
op_found named only name (Some op) same = sym (named op) ∙ ap op_with_name same
op_found named only name None none =
    elim (op_with_name name) as (λ (o : Option Op). op_with_name name ≡ o → None ≡ o) [
      | None ↦ λ e. refl
      | Some op ↦ λ e. absurd (none op (only name op e))
    ] refl
