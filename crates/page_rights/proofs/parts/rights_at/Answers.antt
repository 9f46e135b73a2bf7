use Rattle.std.proofs.Common.{◌∙◌, sym, arith}
use Rattle.page_rights.proofs.Spread.{in_run, behind_run, behind_all}
use Rattle.page_rights.proofs.parts.rights_at.Goals as goal

pub returns-then-before-run : goal.returns-then-before-run
returns-then-before-run c = sym (in_run c.args.runs.now c.runs.run-index _ c.runs.before (omega arith) c.if-before-run.true) ∙ c.runs.invariant

pub runs-preserved : goal.runs-preserved
runs-preserved c = behind_run c.args.runs.now c.runs.run-index _ c.runs.before (omega arith) c.if-before-run.false ∙ c.runs.invariant

pub returns : goal.returns
returns c = sym (behind_all c.args.runs.now c.runs.run-index c.runs.before (omega arith)) ∙ c.runs.invariant
