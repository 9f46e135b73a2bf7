use Rattle.std.proofs.Common.{ap, sym, ◌∙◌, ◌+◌, refl}
use Rattle.pvm_step.specs.History.{raw}
use Rattle.pvm_step.specs.Machine.{moment, exit_in}
use Rattle.jam_cli.proofs.Starts.{run_answers, run_ends}
use Rattle.jam_cli.proofs.run.ended_machine.Goals as goal

pub unreachable-requires : goal.unreachable-requires
unreachable-requires c =
    run_ends c.args.program c.args.gas.value c.raw-machine.result _ _ (c.run_laws.ensures.plain (c.args.gas.value + 1) c.args.program (raw 0 c.args.gas.value) refl)
    c.raw-machine.ensures c.in_ok-new.ensures.ok c.in_ok-exit.ensures.reached (ap exit_in c.in-Paused.is)

pub returns : goal.returns
returns c =
    ap (λ exit. moment c.run.new.self exit) (sym (ap exit_in c.in-Ended.is))
    ∙ run_answers c.args.program c.args.gas.value c.raw-machine.result _ _
    c.raw-machine.ensures c.in_ok-new.ensures.ok c.in_ok-exit.ensures.reached
