use Rattle.std.proofs.Common.{◌∙◌, ap, arith, ◌++◌}
use Rattle.std.proofs.lemmas.Result.{on_ok_weaker}
use Rattle.page_rights.specs.RunList.{spread}
use Rattle.page_rights.proofs.Spread.{copied, copied_past}
use Rattle.page_rights.proofs.parts.copy.Goals as goal

pub runs-preserved : goal.runs-preserved
runs-preserved c = (
  omega (arith, c.min-passed.ensures, c.min-taken.ensures, c.runs.invariant.0),
  copied c.args.runs.now c.runs.run-index c.args.change _ c.runs.before c.runs.left _ _ _ _ _ (omega arith) c.min-passed.ensures c.min-taken.ensures c.of.ensures c.in_ok-append.ensures ∙ c.runs.invariant.1,
)

pub returns : goal.returns
returns c =
    on_ok_weaker c.append-2.result
    (λ e. e ∙ ap (λ l. spread c.runs.out.items ++ l) (copied_past c.args.runs.now c.runs.run-index c.args.change c.runs.before c.runs.left _ (omega arith) c.runs.invariant.0 c.of-2.ensures) ∙ c.runs.invariant.1)
    c.append-2.ensures
