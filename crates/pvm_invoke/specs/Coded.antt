-- How the values that contracts see are coded as numbers, which the checker asks for.
use Rattle.std.specs.Prelude.{◌≡◌, ℕ, ◌==◌, Bool, List, Option, if◌then◌else◌, refl}
use Rattle.std.specs.Coded.{Coded, code_by, coded×, coded_ℕ, coded_bool, coded_list, coded_option}
use Rattle.std.specs.FinMap as fin
use Rattle.blob_decode.specs.Program.{Program}
use Rattle.paged_memory.specs.PageMap.{Memory}
use Rattle.paged_memory.specs.Codes.{memory_code}
use Rattle.account_context.specs.Context.{Pair}
use Rattle.account_context.specs.Coded.{coded_pair}
use Rattle.pvm_step.specs.declared.exit.Exit.{Exit}
use Rattle.pvm_step.specs.declared.exit.Exit.TheVariants.{Halt, Panic, OutOfGas, Fault, Host}
use Rattle.pvm_step.specs.Machine.{Machine, coded_program, coded_machine}
use Rattle.pvm_invoke.specs.declared.stage.Stage.{Stage}
use Rattle.pvm_invoke.specs.declared.stage.Stage.TheVariants.{Runs, Awaits, Ended}
use Rattle.pvm_invoke.specs.Held.{InnerMachine, InnerMachines, Held}
use Rattle.pvm_invoke.specs.Turns.{Standing}
use Rattle.pvm_invoke.specs.Invocation.{Invocation}

-- an exit as a kind and a number
abbrev pub exit_pair : Exit → ℕ × ℕ
exit_pair Halt = (0, 0)
exit_pair Panic = (1, 0)
exit_pair OutOfGas = (2, 0)
exit_pair (Fault address) = (3, address)
exit_pair (Host number) = (4, number)

abbrev pub exit_from : ℕ × ℕ → Exit
exit_from p = if p.0 == 0 then Halt else if p.0 == 1 then Panic else if p.0 == 2 then OutOfGas else if p.0 == 3 then Fault p.1 else Host p.1

pub exit_back : (exit : Exit) → exit_from (exit_pair exit) ≡ exit
exit_back Halt = refl
exit_back Panic = refl
exit_back OutOfGas = refl
exit_back (Fault address) = refl
exit_back (Host number) = refl

abbrev pub coded_exit : Coded Exit
coded_exit = code_by (ℕ × ℕ) (coded× coded_ℕ coded_ℕ) exit_pair exit_from exit_back

-- a stage as a kind, a number and an exit
abbrev pub stage_fields : Stage → ℕ × (ℕ × Exit)
stage_fields Runs = (0, (0, Halt))
stage_fields (Awaits number) = (1, (number, Halt))
stage_fields (Ended exit) = (2, (0, exit))

abbrev pub stage_from : ℕ × (ℕ × Exit) → Stage
stage_from p = if p.0 == 0 then Runs else if p.0 == 1 then Awaits p.1.0 else Ended p.1.1

pub stage_back : (stage : Stage) → stage_from (stage_fields stage) ≡ stage
stage_back Runs = refl
stage_back (Awaits number) = refl
stage_back (Ended exit) = refl

abbrev pub coded_stage : Coded Stage
coded_stage = code_by (ℕ × (ℕ × Exit)) (coded× coded_ℕ (coded× coded_ℕ coded_exit)) stage_fields stage_from stage_back

abbrev pub coded_inner_machine : Coded InnerMachine
coded_inner_machine = code_by (Program × (Memory × ℕ)) (coded× coded_program (coded× memory_code coded_ℕ))
    (λ m. (m.program, (m.memory, m.pc))) (λ p. record { program = p.0; memory = p.1.0; pc = p.1.1 }) (λ _. refl)

abbrev pub coded_held : Coded Held
coded_held =
    code_by (Pair × (ℕ × (List ℕ × (Option (List ℕ) × (List (List ℕ) × (ℕ × (List (List ℕ) × InnerMachines)))))))
    (coded× coded_pair (coded× coded_ℕ (coded× (coded_list coded_ℕ) (coded× (coded_option (coded_list coded_ℕ)) (coded× (coded_list (coded_list coded_ℕ))
    (coded× coded_ℕ (coded× (coded_list (coded_list coded_ℕ)) (fin.code coded_ℕ coded_inner_machine))))))))
    (λ h. (h.pair, (h.slot, (h.entropy, (h.payload, (h.pieces, (h.lookup_slot, (h.exports, h.machines))))))))
    (λ p. record { pair = p.0; slot = p.1.0; entropy = p.1.1.0; payload = p.1.1.1.0; pieces = p.1.1.1.1.0; lookup_slot = p.1.1.1.1.1.0; exports = p.1.1.1.1.1.1.0; machines = p.1.1.1.1.1.1.1 })
    (λ _. refl)

abbrev pub coded_standing : Coded Standing
coded_standing = code_by (Machine × (Held × Stage)) (coded× coded_machine (coded× coded_held coded_stage))
    (λ s. (s.machine, (s.held, s.stage))) (λ p. record { machine = p.0; held = p.1.0; stage = p.1.1 }) (λ _. refl)

abbrev pub coded_invocation : Coded Invocation
coded_invocation = code_by (Standing × (ℕ × Bool)) (coded× coded_standing (coded× coded_ℕ coded_bool))
    (λ v. (v.run, (v.given, v.is_spent))) (λ p. record { run = p.0; given = p.1.0; is_spent = p.1.1 }) (λ _. refl)
