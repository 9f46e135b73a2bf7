-- A raw machine that is given one attempt more than its gas pays for.
use Rattle.std.proofs.Common.{◌≡◌, ◌+◌, ℕ, None, replicate, ap, sym, ◌∙◌, arith}
use Rattle.std.specs.FinMap as fin
use Rattle.blob_decode.specs.Program.{Program}
use Rattle.pvm_step.specs.History.{Moment, raw, reached}
use Rattle.pvm_step.specs.Machine.{Machine, moment}

abbrev raw_machine : Program → ℕ → Machine
raw_machine p gas = record { program = p; pc = 0; registers = replicate 13 0; memory = fin.empty; heap = record { next = 0; end = 0 }; gas = gas; costs = (raw 0 gas).costs }

pub run_answers : (p : Program) (gas : ℕ) (m : Machine) (held : Program) (now : Moment) → m ≡ raw_machine held gas → held ≡ p
    → now ≡ reached (gas + 1) m.program (moment m None) → now ≡ reached (gas + 1) p (raw 0 gas)
run_answers p gas m held now is same after =
    after ∙ ap (λ (n : Machine). reached (gas + 1) n.program (moment n None)) (is ∙ ap (λ (q : Program). raw_machine q gas) same)

pub run_ends : (p : Program) (gas : ℕ) (m : Machine) (held : Program) (now : Moment)
    → ((reached (gas + 1) p (raw 0 gas)).exit ≡ None → gas + 1 + (reached (gas + 1) p (raw 0 gas)).gas ≡ gas)
    → m ≡ raw_machine held gas → held ≡ p → now ≡ reached (gas + 1) m.program (moment m None) → now.exit ≡ None → ⊥
run_ends p gas m held now costs is same after going =
    let here : now ≡ reached (gas + 1) p (raw 0 gas) = run_answers p gas m held now is same after in
    let paid = costs (ap (λ (n : Moment). n.exit) (sym here) ∙ going) in
    omega (arith, paid)
