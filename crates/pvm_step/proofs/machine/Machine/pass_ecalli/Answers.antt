use Rattle.std.proofs.Common.{length, ap, arith}
use Rattle.blob_decode.specs.Program.{Program}
use Rattle.pvm_step.specs.Machine.{Machine}
use Rattle.pvm_step.proofs.Acting.{within-ecalli}
use Rattle.pvm_step.proofs.machine.Machine.pass_ecalli.Goals as goal

pub overflow_add-next : goal.overflow_add-next
overflow_add-next c =
    omega (
      arith,
      within-ecalli c.args.self.now.program c.args.self.now.pc c.requires,
      c.code-code.ensures.small,
      ap (λ (p : Program). length p.code) c.deref.ensures,
      ap (λ (m : Machine). length m.program.code) c.self.view_is,
      ap (λ (m : Machine). m.pc) c.self.view_is,
    )

pub overflow_add-next-2 : goal.overflow_add-next-2
overflow_add-next-2 c =
    omega (
      arith,
      within-ecalli c.args.self.now.program c.args.self.now.pc c.requires,
      c.code-code.ensures.small,
      ap (λ (p : Program). length p.code) c.deref.ensures,
      ap (λ (m : Machine). length m.program.code) c.self.view_is,
      ap (λ (m : Machine). m.pc) c.self.view_is,
    )
