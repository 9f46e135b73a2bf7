use Rattle.std.proofs.Common.{◌∙◌, sym, arith}
use Rattle.page_rights.specs.RunList.{is_sought}
use Rattle.page_rights.proofs.Spread.{found_here, not_here, none_here, found_past, not_past, none_left}
use Rattle.page_rights.proofs.parts.first_sought.Goals as goal
use Rattle.page_rights.proofs.parts.first_sought.Goals.{else-taken-gt0-via-then-taken-gt0+else-is, else-taken-gt0-via-else-taken-gt0, else-left-gt0-via-then-left-gt0+else-is-2, else-left-gt0-via-else-left-gt0}

pub returns-then-is : goal.returns-then-is
returns-then-is c =
    sym (found_here c.args.runs.now c.runs.run-index (is_sought c.args.sought) c.runs.page c.runs.before c.runs.left _ _ _ (omega arith) c.min-passed.ensures c.min-taken.ensures (omega (arith, c.if-taken-gt0.true)) (sym c.is.ensures ∙ c.if-is.true))
    ∙ c.runs.invariant.2

pub runs-preserved : goal.runs-preserved
runs-preserved c = (
  omega (arith, c.min-passed.ensures, c.min-taken.ensures, c.runs.invariant.0),
  omega (arith, c.min-passed.ensures, c.min-taken.ensures, c.runs.invariant.1),
  elim c.else-taken-gt0.branch [
    | else-taken-gt0-via-then-taken-gt0+else-is w ↦ not_here c.args.runs.now c.runs.run-index (is_sought c.args.sought) c.runs.page c.runs.before c.runs.left _ _ _ (omega arith) c.min-passed.ensures c.min-taken.ensures (sym w.is.ensures ∙ w.if-is.false) ∙ c.runs.invariant.2
    | else-taken-gt0-via-else-taken-gt0 w ↦ none_here c.args.runs.now c.runs.run-index (is_sought c.args.sought) c.runs.page c.runs.before c.runs.left _ _ _ (omega arith) c.min-passed.ensures c.min-taken.ensures (omega (arith, w.if-taken-gt0.false)) ∙ c.runs.invariant.2
  ],
)

pub returns-then-is-2 : goal.returns-then-is-2
returns-then-is-2 c =
    sym (found_past c.args.runs.now c.runs.run-index (is_sought c.args.sought) c.runs.page c.runs.before c.runs.left (omega arith) c.runs.invariant.0 (omega (arith, c.if-left-gt0.true)) (sym c.is-then-left-gt0.ensures ∙ c.if-is-2.true))
    ∙ c.runs.invariant.2

pub returns : goal.returns
returns c =
    sym (elim c.else-left-gt0.branch [
      | else-left-gt0-via-then-left-gt0+else-is-2 w ↦ not_past c.args.runs.now c.runs.run-index (is_sought c.args.sought) c.runs.page c.runs.before c.runs.left (omega arith) c.runs.invariant.0 (sym w.is-then-left-gt0.ensures ∙ w.if-is-2.false)
      | else-left-gt0-via-else-left-gt0 w ↦ none_left c.args.runs.now c.runs.run-index (is_sought c.args.sought) c.runs.page c.runs.before c.runs.left (omega (arith, w.if-left-gt0.false))
    ]) ∙ c.runs.invariant.2
