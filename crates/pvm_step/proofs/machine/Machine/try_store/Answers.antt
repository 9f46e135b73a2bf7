use Rattle.std.proofs.Common.{ap, sym, ◌∙◌, None}
use Rattle.paged_memory.specs.PageMap.{Memory}
use Rattle.blob_decode.specs.Program.{next}
use Rattle.pvm_step.specs.Machine.{Machine, state_of, after_of}
use Rattle.pvm_step.specs.contracts.machine.Machine.{the_view}
use Rattle.pvm_step.specs.Effect.{after, Stores, goes}
use Rattle.pvm_step.proofs.Acting.{stored-at, allowed}
use Rattle.pvm_step.proofs.machine.Machine.try_store.Goals as goal

pub returns-in-Ok-clause-acts : goal.returns-in-Ok-clause-acts
returns-in-Ok-clause-acts c = λ done.
    let v : Machine = the_view c.self.inside in
    ap (λ (m : Machine). after_of m None) c.go_on.ensures
    ∙ ap (λ (m : Memory). goes (record (state_of v) { memory = m }) (next v.program v.pc)) c.in-Ok.ensures.ok
    ∙ sym (stored-at v.program (state_of v) c.args.width c.args.to c.args.number (allowed v.memory c.args.to c.args.width c.store.result c.in-Ok.field-0 c.in-Ok.is c.store.ensures.refused))
    ∙ ap (λ (m : Machine). after m.program (state_of m) (Stores c.args.width c.args.to c.args.number)) c.self.view_is
